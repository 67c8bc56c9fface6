use Rattle.std.proofs.Common.{◌≡◌, ◌∙◌, ◌<◌, arith, ap, false, length, refl, sym}
use Rattle.master_node.specs.Besides.{is_state}
use Rattle.master_node.specs.declared.post.Work.{Work}
use Rattle.master_node.proofs.Endings.{work_got}
use Rattle.master_node.proofs.node.MasterNode.has_state.Goals as goal

-- no change of state
other_state : (w : Work) → (w ≡ Work.State → ⊥) → false ≡ is_state w
other_state Work.State n = absurd (n refl)
other_state Work.Nothing n = refl
other_state Work.Mails n = refl
other_state Work.Packet n = refl
other_state (Work.Passed key) n = refl

pub returns-in-State : goal.returns-in-State
returns-in-State c =
    let ps = c.args.self.now.posts in
    let l : c.args.place < length ps.items = omega (arith, c.requires, ps.ok.0) in
    sym (ap is_state (work_got ps.items c.args.place c.index.result.now l c.index.ensures ∙ c.in-State.is))

pub returns-in_default : goal.returns-in_default
returns-in_default c =
    let ps = c.args.self.now.posts in
    let l : c.args.place < length ps.items = omega (arith, c.requires, ps.ok.0) in
    other_state c.index.result.now.work c.in_default.not-State ∙ sym (ap is_state (work_got ps.items c.args.place c.index.result.now l c.index.ensures))
