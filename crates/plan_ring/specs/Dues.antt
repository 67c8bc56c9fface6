-- What a frame that came back brings of a plan's slaves is due.
use Rattle.std.specs.Prelude.{◌≡◌, ℕ, List, [], ◌∷◌, ◌++◌, length, ⊤}
use Rattle.run_frames.specs.of_life_runs.First.{lens_of, first_leads}
use Rattle.run_frames.specs.of_life_runs.Led.{Exchanged, Leads, Turn, IsLed, IsLedFrame, speech_at}
use Rattle.whole_ring.specs.of_frame_view.Seen.{seen}
use Rattle.whole_ring.specs.of_frame_view.View.{Lens}
use Rattle.whole_ring.specs.of_life_model.Lives.{Stand}
use Rattle.slave_server.specs.of_link_mails.Body.{Body}
use Rattle.run_frames.specs.of_master_side.Due.{EachDue}
use Rattle.slave_server.specs.of_segment_plan.declared.plan.Scenario.{Scenario}
use Rattle.run_frames.specs.of_segment_ring.declared.wire.Fate.TheVariants.{Pass}
use Rattle.run_frames.specs.of_master_tour.Brings.{accepted_in}
use Rattle.plan_ring.specs.Round.{ring_of, AllRound}
use Rattle.slave_server.specs.of_segment_model.Slaves.{Datagram}

-- of a slave that is open as the frame finds it, by the row of the service in hand
abbrev pub IsDueOf : (ℕ → Lens) → List (Datagram Body) → Turn → Type 0
IsDueOf lens back u = u.lived.life.stand ≡ Stand.Open → EachDue (speech_at lens u.lived.spot) u.lived.life.era.side.now (accepted_in u.lived.spot u.lived.life back)

-- of all slaves
abbrev pub AllDue : (ℕ → Lens) → List (Datagram Body) → List Turn → Type 0
AllDue lens back [] = ⊤
AllDue lens back (u ∷ us) = IsDueOf lens back u × AllDue lens back us

-- THE SLAVES OF A PLAN SEND NO MAIL THAT ISN'T DUE, by each frame of a run that came back
abbrev pub MailsAreDue : Scenario → Type 0
MailsAreDue plan = (fs : List Exchanged) (missed : ℕ) (as' : List Leads) (f : Exchanged) (us : List Turn) → IsLed (lens_of plan.slaves) plan.recover plan.retry (first_leads plan) fs missed as' →
    IsLedFrame (lens_of plan.slaves) (length fs) f.sent as' us → AllRound (ring_of plan) (fs ++ f ∷ []) → f.fate ≡ Pass → AllDue (lens_of plan.slaves) (seen (lens_of plan.slaves) f.back) us
