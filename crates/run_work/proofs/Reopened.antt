-- Of each life that a master leads a state service that reopens its slave came into hand.
use Rattle.std.proofs.Common.{ℕ, suc, Bool, true, false, List, [], ◌∷◌, map, length, sym, subst}
use Rattle.std.specs.Prelude.{⊤, ◌&&◌}
use Rattle.plan_ring.specs.of_datagrams.Datagram as Raw
use Rattle.plan_ring.specs.of_frame_view.View.{Lens}
use Rattle.plan_ring.specs.of_frame_view.Seen.{seen}
use Rattle.plan_ring.specs.of_frame_view.Frames.{Share}
use Rattle.plan_ring.specs.of_frame_view.Shares.{Lived, given_where, came_at}
use Rattle.life_counts.specs.of_life_model.Lives.{Spot, Life}
use Rattle.life_counts.specs.of_link_mails.Body.{Body}
use Rattle.plan_ring.specs.of_life_runs.First.{leads_from, first_leads}
use Rattle.plan_ring.specs.of_life_runs.Led.{Exchanged, Leads, Turn, AllTurn, IsLed, speech_at, life_behind, led_behind, gives_up_at}
use Rattle.plan_ring.specs.of_master_duty.Reply.{Reply}
use Rattle.life_counts.specs.of_master_hand.Spoken.{Asked, acknowledged, is_followed, is_passed}
use Rattle.life_counts.specs.of_segment_plan.declared.plan.Scenario.{Scenario}
use Rattle.life_counts.specs.of_segment_plan.declared.service.Service as Plan
use Rattle.life_counts.specs.of_segment_plan.declared.slave.SlaveSpec.{SlaveSpec}
use Rattle.plan_ring.specs.of_segment_ring.declared.wire.Fate.{Fate}
use Rattle.plan_ring.specs.of_segment_ring.declared.wire.Fate.TheVariants.{Pass, Lost}
use Rattle.plan_ring.proofs.of_run_frames.Stating.{LifeCame, new_came, next_came, life_back_came, lost_came}

abbrev pub EachCame : List Leads → Type 0
EachCame [] = ⊤
EachCame (a ∷ as') = LifeCame a.lived.life × EachCame as'

first_came : (rows : List (ℕ × Plan.Service)) (place : ℕ) (ss : List SlaveSpec) → EachCame (leads_from rows place ss)
first_came rows place [] = tt
first_came rows place (s ∷ ss) = (new_came Body Asked Reply s.start, first_came rows (suc place) ss)

given_came : (b : Bool) (recover : ℕ) (spot : Spot) (frame : ℕ) (l : Life Body Asked Reply) → LifeCame l → LifeCame (given_where b recover spot frame l)
given_came false recover spot frame l c = c
given_came true recover spot frame l c = c

behind_came : (lens : ℕ → Lens) (recover retry : ℕ) (gives : Bool) (made : ℕ) (f : Exchanged) (fate : Fate) (l : Lived Asked Reply) (share : Share) → LifeCame l.life → LifeCame (life_behind lens recover retry gives made f fate l share).life
behind_came lens recover retry gives made f Pass l share c =
    life_back_came (speech_at lens l.spot) acknowledged is_followed is_passed made l.spot [] (seen lens f.back) (came_at share.under share.at (seen lens f.back)) l.life l.life.stand c
behind_came lens recover retry gives made f (Lost after) l share c =
    given_came (gives && share.under) recover l.spot made _ (lost_came (speech_at lens l.spot) acknowledged is_followed is_passed l.spot [] (seen lens f.sent) l.life l.life.stand c)

turns_came : (lens : ℕ → Lens) (recover retry : ℕ) (gives : Bool) (made : ℕ) (f : Exchanged) (ds : List Raw.Datagram) (as' : List Leads) (us : List Turn) → AllTurn lens made ds as' us → EachCame as' → EachCame (map (led_behind lens recover retry gives made f) us)
turns_came lens recover retry gives made f ds [] [] t e = tt
turns_came lens recover retry gives made f ds [] (x ∷ us) t e = absurd t
turns_came lens recover retry gives made f ds (a ∷ as') [] t e = absurd t
turns_came lens recover retry gives made f ds (a ∷ as') (x ∷ us) t e =
    let next = t.0.next in
    let before : LifeCame x.lived.life = subst LifeCame (sym next.life) (next_came (speech_at lens a.lived.spot) acknowledged is_followed is_passed made a.lived.life a.lived.life.stand next.pick e.0) in
    (behind_came lens recover retry gives made f f.fate x.lived x.share before, turns_came lens recover retry gives made f ds as' us t.1 e.1)

pub led_came : (lens : ℕ → Lens) (recover retry : ℕ) (plan : Scenario) (fs : List Exchanged) (missed : ℕ) (leads : List Leads) → IsLed lens recover retry (first_leads plan) fs missed leads → EachCame leads
led_came lens recover retry plan _ _ _ IsLed.start = first_came plan.services 0 plan.slaves
led_came lens recover retry plan _ _ _ (IsLed.on fs missed as' f us led frame) =
    turns_came lens recover retry (gives_up_at lens recover retry missed) (length fs) f frame.datagrams as' us frame.each (led_came lens recover retry plan fs missed as' led)
