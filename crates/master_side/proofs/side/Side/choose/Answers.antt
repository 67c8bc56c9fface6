use Rattle.std.proofs.Common.{sym, subst, ◌∙◌}
use Rattle.master_side.specs.Recall.{recall_by}
use Rattle.master_side.specs.Shown.{SideShows}
use Rattle.master_side.proofs.Begins.{picked}
use Rattle.master_side.proofs.Agains.{holds_most}
use Rattle.master_side.proofs.Passings.{still_shows}
use Rattle.master_side.proofs.First.{holds_first}
use Rattle.master_side.proofs.side.Side.choose.Goals as goal

pub returns-clause-picked : goal.returns-clause-picked
returns-clause-picked g c = λ x made d a s. picked x g.H.Hand.acknowledged made d a _ _ _ (c.begin-began.ensures.picked x made d a s) (c.hold_next.ensures.shown x)

pub returns-clause-waits : goal.returns-clause-waits
returns-clause-waits g c = λ p x d a s. c.hold_next.ensures.shown x d a (subst (λ z. SideShows (g.H.Hand.shows z.hand x) z.out z.inn z.fresh z.duty d a) (sym (c.begin-began.ensures.waits p).1) s)

pub returns-clause-again : goal.returns-clause-again
returns-clause-again g c = λ r. holds_most c.begin-began.new.self c.hold_next.new.self _ c.hold_next.ensures.on (c.begin-began.ensures.again r)

pub returns-clause-passing : goal.returns-clause-passing
returns-clause-passing g c = λ p s.
    let mid = c.begin-began.new.self in
    let new = c.hold_next.new.self in
    still_shows (g.H.Hand.awaits mid.hand) (g.H.Hand.awaits new.hand) mid.passing new.passing _ c.hold_next.ensures.awaits c.hold_next.ensures.passing (c.begin-began.ensures.passing p s)

pub returns-clause-first : goal.returns-clause-first
returns-clause-first g c = holds_first c.args.self.now c.begin-began.new.self c.hold_next.new.self _ _ c.hold_next.ensures.on c.begin-began.ensures.first

pub returns-clause-recalled : goal.returns-clause-recalled
returns-clause-recalled g c =
    let on = c.hold_next.ensures.on in
    (λ i. recall_by (on.paused i) (on.duty i) (on.passing i) (on.turn i) (c.hold_next.ensures.knows i)) ∙ c.begin-began.ensures.recalled
