-- A RUN, frame by frame, for each slave of its ring.
use Rattle.std.specs.Prelude.{◌≡◌, ◌≤◌, ◌<◌, ℕ, suc, Bool, Option, List, length}
use Rattle.life_runs.specs.of_exchange_model.Exchange.{Speech}
use Rattle.life_runs.specs.of_segment_model.Slaves.{Datagram}
use Rattle.life_runs.specs.of_life_model.Lives.{Spot}
use Rattle.run_frames.specs.Begins.{AllNew}
use Rattle.run_frames.specs.Brings.{AllBring}
use Rattle.run_frames.specs.Clocks.{Clocked, repair_of, still_behind}
use Rattle.run_frames.specs.Goes.{Under, AllUnder, AllClocked, all_lost, all_back}
use Rattle.run_frames.specs.Orders.{IsRound, CarriesOne, opened_on, last_of}
use Rattle.run_frames.specs.Waits.{Waits, all_anew, waits_behind, SomeWaits}

-- how far a run has come: the frames sent; those of them that were lost, or count as lost; those in a row that came back at last with nothing gained; how
-- many slaves from the first on have ended their first bring-up, the place of the one carried last; and how each slave waits
pub record Progress : Type 0 where
  pub frames : ℕ
  pub lost : ℕ
  pub still : ℕ
  pub opened : ℕ
  pub last : Option ℕ
  pub waits : List Waits

-- before the first frame
abbrev pub nothing_sent : {M Q R : Type 0} → Option ℕ → List (Clocked M Q R) → Progress
nothing_sent last cs = record { frames = 0; lost = 0; still = 0; opened = 0; last = last; waits = all_anew cs }

module _ {M Q R : Type 0} (x : Spot → Speech M Q R) (acknowledged : Q → Bool) (more : M → Bool) (passed : Q → Bool) (recover slowest : ℕ) where
  -- so many frames in a row gained nothing, behind one more that came back
  abbrev pub many : Progress → List (Datagram M) → List (Clocked M Q R) → List (Under M Q R) → ℕ
  many p back as' us = still_behind (repair_of slowest (length as') p.opened p.last p.frames as') as' (all_back x acknowledged more passed p.frames back as' us) p.still

  -- THE FRAMES OF A RUN: each is lost; or comes back in the first bring-up, and carried the slave that is brought up; or comes back behind that, and
  -- carried the first slaves of a round. Behind one that gained nothing, with nothing to repair, some slave waits yet; or a packet of the host came in with
  -- it, and it counts as lost
  pub data IsRun (first : List (Clocked M Q R)) : Progress → List (Clocked M Q R) → Type 0 where
    start : (last : Option ℕ) → AllNew first → AllClocked slowest first → IsRun first (nothing_sent last first) first
    lost : (p : Progress) (as' : List (Clocked M Q R)) (us : List (Under M Q R)) (gives : Bool) (sent : List (Datagram M)) (next : Option ℕ) → IsRun first p as' → AllUnder x acknowledged more passed p.frames sent as' us →
        (p.opened < length as' → CarriesOne p.opened us) →
        IsRun first (record { frames = suc p.frames; lost = suc p.lost; still = 0; opened = opened_on p.opened (all_lost x acknowledged more passed gives recover p.frames sent as' us); last = next; waits = all_anew as' }) (all_lost x acknowledged more passed gives recover p.frames sent as' us)
    opening : (p : Progress) (as' : List (Clocked M Q R)) (us : List (Under M Q R)) (sent back : List (Datagram M)) (next : Option ℕ) → IsRun first p as' → AllUnder x acknowledged more passed p.frames sent as' us → AllBring back as' us →
        p.opened < length as' → CarriesOne p.opened us →
        IsRun first (record { frames = suc p.frames; lost = p.lost; still = p.still; opened = opened_on p.opened (all_back x acknowledged more passed p.frames back as' us); last = next; waits = all_anew as' }) (all_back x acknowledged more passed p.frames back as' us)
    round : (p : Progress) (as' : List (Clocked M Q R)) (us : List (Under M Q R)) (sent back : List (Datagram M)) (ps : List ℕ) → IsRun first p as' → AllUnder x acknowledged more passed p.frames sent as' us → AllBring back as' us →
        length as' ≤ p.opened → IsRound (length as') p.last as' us ps →
        (many p back as' us ≡ suc p.still → SomeWaits (all_back x acknowledged more passed p.frames back as' us) (waits_behind (many p back as' us) p.frames as' us p.waits)) →
        IsRun first (record { frames = suc p.frames; lost = p.lost; still = many p back as' us; opened = p.opened; last = last_of p.last ps; waits = waits_behind (many p back as' us) p.frames as' us p.waits }) (all_back x acknowledged more passed p.frames back as' us)
    enters : (p : Progress) (as' : List (Clocked M Q R)) (us : List (Under M Q R)) (sent back : List (Datagram M)) (ps : List ℕ) → IsRun first p as' → AllUnder x acknowledged more passed p.frames sent as' us → AllBring back as' us →
        length as' ≤ p.opened → IsRound (length as') p.last as' us ps → many p back as' us ≡ suc p.still →
        IsRun first (record { frames = suc p.frames; lost = suc p.lost; still = 0; opened = p.opened; last = last_of p.last ps; waits = all_anew as' }) (all_back x acknowledged more passed p.frames back as' us)
