-- Of a life that a master leads no epoch gained anything that was never opened.
use Rattle.std.proofs.Common.{ℕ, suc, Bool, true, false, List, [], ◌∷◌, map, length, refl, sym, subst}
use Rattle.std.specs.Prelude.{⊤, ◌&&◌}
use Rattle.plan_ring.specs.of_datagrams.Datagram as Raw
use Rattle.plan_ring.specs.of_frame_view.View.{Lens}
use Rattle.plan_ring.specs.of_frame_view.Seen.{seen}
use Rattle.life_counts.specs.Begun.{AreUnopened}
use Rattle.life_counts.proofs.Unopened.{new_unopened, next_unopened, back_unopened, lost_unopened, gives_unopened}
use Rattle.plan_ring.specs.of_frame_view.Frames.{Share}
use Rattle.plan_ring.specs.of_frame_view.Shares.{Lived, given_where, came_at}
use Rattle.life_counts.specs.of_life_model.Lives.{Spot, Life}
use Rattle.life_counts.specs.of_link_mails.Body.{Body}
use Rattle.plan_ring.specs.of_life_runs.First.{leads_from, first_leads}
use Rattle.plan_ring.specs.of_life_runs.Led.{Exchanged, Leads, Turn, AllTurn, IsLed, speech_at, life_behind, led_behind, gives_up_at}
use Rattle.plan_ring.specs.of_master_duty.Reply.{Reply}
use Rattle.life_counts.specs.of_master_hand.Spoken.{Asked, acknowledged, is_followed, is_passed}
use Rattle.life_counts.specs.of_segment_plan.declared.plan.Scenario.{Scenario}
use Rattle.life_counts.specs.of_segment_plan.declared.service.Service as Plan
use Rattle.life_counts.specs.of_segment_plan.declared.slave.SlaveSpec.{SlaveSpec}
use Rattle.plan_ring.specs.of_segment_ring.declared.wire.Fate.{Fate}
use Rattle.plan_ring.specs.of_segment_ring.declared.wire.Fate.TheVariants.{Pass, Lost}

abbrev pub AllUnopened : List Leads → Type 0
AllUnopened [] = ⊤
AllUnopened (a ∷ as') = AreUnopened a.lived.life × AllUnopened as'

first_unopened : (rows : List (ℕ × Plan.Service)) (place : ℕ) (ss : List SlaveSpec) → AllUnopened (leads_from rows place ss)
first_unopened rows place [] = tt
first_unopened rows place (s ∷ ss) = (new_unopened s.start, first_unopened rows (suc place) ss)

given_unopened : (b : Bool) (recover : ℕ) (spot : Spot) (frame : ℕ) (l : Life Body Asked Reply) → AreUnopened l → AreUnopened (given_where b recover spot frame l)
given_unopened false recover spot frame l u = u
given_unopened true recover spot frame l u = gives_unopened recover frame spot l u

behind_unopened : (lens : ℕ → Lens) (recover retry : ℕ) (gives : Bool) (made : ℕ) (f : Exchanged) (fate : Fate) (l : Lived Asked Reply) (share : Share) → AreUnopened l.life → AreUnopened (life_behind lens recover retry gives made f fate l share).life
behind_unopened lens recover retry gives made f Pass l share u =
    back_unopened (speech_at lens l.spot) acknowledged is_followed is_passed made l.spot [] (seen lens f.back) (came_at share.under share.at (seen lens f.back)) l.life l.life.stand refl u
behind_unopened lens recover retry gives made f (Lost after) l share u =
    given_unopened (gives && share.under) recover l.spot made _ (lost_unopened (speech_at lens l.spot) acknowledged is_followed is_passed l.spot [] (seen lens f.sent) l.life l.life.stand refl u)

turns_unopened : (lens : ℕ → Lens) (recover retry : ℕ) (gives : Bool) (made : ℕ) (f : Exchanged) (ds : List Raw.Datagram) (as' : List Leads) (us : List Turn) → AllTurn lens made ds as' us → AllUnopened as' → AllUnopened (map (led_behind lens recover retry gives made f) us)
turns_unopened lens recover retry gives made f ds [] [] t u = tt
turns_unopened lens recover retry gives made f ds [] (x ∷ us) t u = absurd t
turns_unopened lens recover retry gives made f ds (a ∷ as') [] t u = absurd t
turns_unopened lens recover retry gives made f ds (a ∷ as') (x ∷ us) t u =
    let next = t.0.next in
    let before : AreUnopened x.lived.life =
    subst AreUnopened (sym next.life) (next_unopened (speech_at lens a.lived.spot) acknowledged is_followed is_passed made a.lived.life a.lived.life.stand next.pick refl u.0) in
    (behind_unopened lens recover retry gives made f f.fate x.lived x.share before, turns_unopened lens recover retry gives made f ds as' us t.1 u.1)

pub led_unopened : (lens : ℕ → Lens) (recover retry : ℕ) (plan : Scenario) (fs : List Exchanged) (missed : ℕ) (leads : List Leads) → IsLed lens recover retry (first_leads plan) fs missed leads → AllUnopened leads
led_unopened lens recover retry plan _ _ _ IsLed.start = first_unopened plan.services 0 plan.slaves
led_unopened lens recover retry plan _ _ _ (IsLed.on fs missed as' f us led frame) =
    turns_unopened lens recover retry (gives_up_at lens recover retry missed) (length fs) f frame.datagrams as' us frame.each (led_unopened lens recover retry plan fs missed as' led)
