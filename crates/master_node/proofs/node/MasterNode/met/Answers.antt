use Rattle.master_node.proofs.Tells.{node_refl}
use Rattle.master_node.proofs.Servings.{tells_refl}
use Rattle.master_node.proofs.Endings.{ends_other, ends_told}
use Rattle.std.proofs.Common.{◌≡◌, ◌<◌, ℕ, Option, Some, refl, ap, arith, length, sym, ◌∙◌}
use Rattle.life_runs.specs.of_master_duty.declared.stage.Met.{Met}
use Rattle.life_runs.specs.of_master_tour.declared.stop.Stand.{Stand}
use Rattle.master_node.specs.declared.post.Work.{Work}
use Rattle.master_node.proofs.Restings.{never}
use Rattle.master_node.proofs.node.MasterNode.met.Goals.{in-Open, in_default}
use Rattle.life_runs.specs.of_mailbox_mail.declared.outcome.ReplyKind.{ReplyKind}
use Rattle.master_node.specs.Besides.{answers, met_at, met_does, met_where, stays}
use Rattle.master_node.specs.Handed.{work_at}
use Rattle.master_node.proofs.Besides.{does_as, does_none, so_here}
use Rattle.master_node.proofs.node.MasterNode.met.Goals as goal

-- by an open slave
met_open : (place : ℕ) (stand : Stand) (duty : Option Met) (w : Work) → stand ≡ Stand.Open → met_where place duty w ≡ met_at place stand duty w
met_open place stand duty w e = sym (ap (λ z. met_at place z duty w) e)

-- and by one that isn't
met_shut : (place : ℕ) (stand : Stand) (duty : Option Met) (w : Work) → (stand ≡ Stand.Open → ⊥) → stays w ≡ met_at place stand duty w
met_shut place (Stand.Opening up) duty w n = refl
met_shut place Stand.Open duty w n = absurd (n refl)
met_shut place Stand.Gone duty w n = refl

pub returns-then-not-matches-clause-kept : goal.returns-then-not-matches-clause-kept
returns-then-not-matches-clause-kept c = node_refl _

pub returns-then-not-matches-clause-tells : goal.returns-then-not-matches-clause-tells
returns-then-not-matches-clause-tells c = tells_refl _

pub returns-then-not-matches-clause-works : goal.returns-then-not-matches-clause-works
returns-then-not-matches-clause-works c = λ n. ends_told _ _ _ refl

pub returns-then-not-matches-clause-told : goal.returns-then-not-matches-clause-told
returns-then-not-matches-clause-told c =
    let m = c.args.self.now in
    let place = c.args.place in
    let s = c.index-stop.result.now in
    let w = work_at m.posts.items place in
    let l : place < length m.tour.stops.items = omega (arith, c.requires, m.paired, m.tour.stops.ok.0) in
    let n : s.stand ≡ Stand.Open → ⊥ = λ e. elim c.match-matches.branch [ in-Open z ↦ absurd (never (sym c.if-not-matches.true ∙ z.matches-is)) | in_default z ↦ z.in_default.not-Open e ] in
    so_here (λ t v. met_does place t v) place m m s l c.index-stop.ensures
    (does_as place (stays w) (met_does place s w) m m (met_shut place s.stand s.side.duty w n) (does_none place m m refl refl))

pub returns-in-Some-On-clause-kept : goal.returns-in-Some-On-clause-kept
returns-in-Some-On-clause-kept c = node_refl _

pub returns-in-None-clause-kept : goal.returns-in-None-clause-kept
returns-in-None-clause-kept c = node_refl _

pub returns-in-Some-On-clause-tells : goal.returns-in-Some-On-clause-tells
returns-in-Some-On-clause-tells c = tells_refl _

pub returns-in-None-clause-tells : goal.returns-in-None-clause-tells
returns-in-None-clause-tells c = tells_refl _

pub returns-in-Some-Reached-clause-works : goal.returns-in-Some-Reached-clause-works
returns-in-Some-Reached-clause-works c = λ n. ends_other _ c.args.place c.args.self.now.posts.items c.answered.new.self.posts.items c.answered.ensures.works n

pub returns-in-Some-Refused-clause-works : goal.returns-in-Some-Refused-clause-works
returns-in-Some-Refused-clause-works c = λ n. ends_other _ c.args.place c.args.self.now.posts.items c.answered-in-Some-Refused.new.self.posts.items c.answered-in-Some-Refused.ensures.works n

pub returns-in-Some-On-clause-works : goal.returns-in-Some-On-clause-works
returns-in-Some-On-clause-works c = λ n. ends_told _ _ _ refl

pub returns-in-None-clause-works : goal.returns-in-None-clause-works
returns-in-None-clause-works c = λ n. ends_told _ _ _ refl

pub returns-in-Some-Reached-clause-told : goal.returns-in-Some-Reached-clause-told
returns-in-Some-Reached-clause-told c =
    let m = c.args.self.now in
    let place = c.args.place in
    let s = c.index-stop.result.now in
    let w = work_at m.posts.items place in
    let l : place < length m.tour.stops.items = omega (arith, c.requires, m.paired, m.tour.stops.ok.0) in
    let o : s.stand ≡ Stand.Open = elim c.match-matches.branch [ in-Open z ↦ z.in-Open.is | in_default z ↦ absurd (never (sym z.matches-is ∙ c.if-not-matches.false)) ] in
    so_here (λ t v. met_does place t v) place m c.answered.new.self s l c.index-stop.ensures
    (does_as place (answers place ReplyKind.Done) (met_does place s w) m c.answered.new.self (ap (λ z. met_where place z w) (sym (c.in-Some-Reached.is ∙ ap Some (rw c.in-Some-Reached.is at c.in-Some-Reached.field-0-is))) ∙ met_open place s.stand s.side.duty w o) c.answered.ensures.told)

pub returns-in-Some-Refused-clause-told : goal.returns-in-Some-Refused-clause-told
returns-in-Some-Refused-clause-told c =
    let m = c.args.self.now in
    let place = c.args.place in
    let s = c.index-stop.result.now in
    let w = work_at m.posts.items place in
    let l : place < length m.tour.stops.items = omega (arith, c.requires, m.paired, m.tour.stops.ok.0) in
    let o : s.stand ≡ Stand.Open = elim c.match-matches.branch [ in-Open z ↦ z.in-Open.is | in_default z ↦ absurd (never (sym z.matches-is ∙ c.if-not-matches.false)) ] in
    so_here (λ t v. met_does place t v) place m c.answered-in-Some-Refused.new.self s l c.index-stop.ensures
    (does_as place (answers place (ReplyKind.StateRefused c.in-Some-Refused.code)) (met_does place s w) m c.answered-in-Some-Refused.new.self (ap (λ z. met_where place z w) (sym (c.in-Some-Refused.is ∙ ap Some (rw c.in-Some-Refused.is at c.in-Some-Refused.field-0-is))) ∙ met_open place s.stand s.side.duty w o) c.answered-in-Some-Refused.ensures.told)

pub returns-in-Some-On-clause-told : goal.returns-in-Some-On-clause-told
returns-in-Some-On-clause-told c =
    let m = c.args.self.now in
    let place = c.args.place in
    let s = c.index-stop.result.now in
    let w = work_at m.posts.items place in
    let l : place < length m.tour.stops.items = omega (arith, c.requires, m.paired, m.tour.stops.ok.0) in
    let o : s.stand ≡ Stand.Open = elim c.match-matches.branch [ in-Open z ↦ z.in-Open.is | in_default z ↦ absurd (never (sym z.matches-is ∙ c.if-not-matches.false)) ] in
    so_here (λ t v. met_does place t v) place m m s l c.index-stop.ensures
    (does_as place (stays w) (met_does place s w) m m (ap (λ z. met_where place z w) (sym (c.in-Some-On.is ∙ ap Some (rw c.in-Some-On.is at c.in-Some-On.field-0-is))) ∙ met_open place s.stand s.side.duty w o) (does_none place m m refl refl))

pub returns-in-None-clause-told : goal.returns-in-None-clause-told
returns-in-None-clause-told c =
    let m = c.args.self.now in
    let place = c.args.place in
    let s = c.index-stop.result.now in
    let w = work_at m.posts.items place in
    let l : place < length m.tour.stops.items = omega (arith, c.requires, m.paired, m.tour.stops.ok.0) in
    let o : s.stand ≡ Stand.Open = elim c.match-matches.branch [ in-Open z ↦ z.in-Open.is | in_default z ↦ absurd (never (sym z.matches-is ∙ c.if-not-matches.false)) ] in
    so_here (λ t v. met_does place t v) place m m s l c.index-stop.ensures
    (does_as place (stays w) (met_does place s w) m m (ap (λ z. met_where place z w) (sym c.in-None.is) ∙ met_open place s.stand s.side.duty w o) (does_none place m m refl refl))
