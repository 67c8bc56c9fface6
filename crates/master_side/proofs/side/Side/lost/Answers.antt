use Rattle.std.proofs.Common.{◌≡◌, ap, is_some, sym, ◌∙◌, subst, Option}
use Rattle.master_side.specs.declared.carried.Carried.{Carried}
use Rattle.master_side.proofs.Agains.{kept_lost}
use Rattle.frame_view.specs.of_life_model.Lives.{passes}
use Rattle.master_duty.specs.of_state_model.Accounts.{duty_access}
use Rattle.master_side.specs.declared.passing.Passing.{Passing}
use Rattle.master_side.specs.Carried.{Meant, one}
use Rattle.master_side.specs.Passes.{told_by}
use Rattle.master_side.specs.Passing.{PassingShows, news_lost}
use Rattle.master_side.proofs.Passings.{lost_shows}
use Rattle.master_side.proofs.Recalls.{told_some}
use Rattle.master_side.proofs.Tellings.{lost_write_seen}
use Rattle.master_side.proofs.side.Side.lost.Goals as goal

pub returns-in-Write-clause-again : goal.returns-in-Write-clause-again
returns-in-Write-clause-again g c = λ w.
    let k = c.write_lost.ensures in
    kept_lost c.args.self.now c.write_lost.new.self k.kept.0 k.kept.1 k.kept.3 k.kept.6 k.way.0 k.way.1 k.way.2 (λ e. let is : Carried.Write ≡ Carried.Inward = sym c.in-Write.is ∙ e in absurd (cc)) w

pub returns-in-Write-clause-passing : goal.returns-in-Write-clause-passing
returns-in-Write-clause-passing g c = λ x kept p b d a s k h w.
    let args = c.args.self.now in
    let new = c.write_lost.new.self in
    let l = c.write_lost.ensures in
    let life = passes x g.H.Hand.acknowledged g.H.Hand.more g.H.Hand.passed p (news_lost args.station kept (one b)) in
    let meant = subst (λ (k : Carried). Meant args.station k d.halves (duty_access a.hand) b) c.in-Write.is w in
    subst (λ (o : Option Passing). PassingShows (g.H.Hand.awaits new.hand) o life) (sym l.way.2)
    (subst (λ z. PassingShows (g.H.Hand.awaits z) (told_by args.passing args.fresh) life) (sym l.kept.2)
    (lost_shows args.passing args.fresh (g.H.Hand.awaits args.hand) p life (lost_write_seen x g.H.Hand.acknowledged g.H.Hand.more g.H.Hand.passed args.station kept b d a args.passing args.fresh p s.unsent k meant h.is) h))

pub returns-in-Write-clause-recalled : goal.returns-in-Write-clause-recalled
returns-in-Write-clause-recalled g c =
    let old = c.args.self.now in
    let k = c.write_lost.ensures in
    (k.way.1, k.way.0, k.kept.3, ap (λ h. g.H.Hand.knows h) k.kept.2, ap (λ (p : Option Passing). is_some p) k.way.2 ∙ told_some old.passing old.fresh)
