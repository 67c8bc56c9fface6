-- THE FRAMES OF A RUN THAT WERE LOST, and what its lives have gained.
use Rattle.std.specs.Prelude.{◌≡◌, ℕ, suc, ◌+◌, List, [], ◌∷◌, ⊤}
use Rattle.life_runs.specs.of_life_model.Gains.{gains}
use Rattle.life_runs.specs.Led.{Exchanged, Leads}
use Rattle.life_runs.specs.of_segment_ring.Schedule.{fate_at}
use Rattle.life_runs.specs.of_segment_ring.declared.wire.Fate.{Fate}
use Rattle.life_runs.specs.of_segment_ring.declared.wire.Fate.TheVariants.{Pass, Lost}
use Rattle.run_frames.specs.Clocks.{reopened}

-- each frame, from this number on, has its fate by the schedule
abbrev pub AreFated : List (ℕ × ℕ) → ℕ → List Exchanged → Type 0
AreFated lose number [] = ⊤
AreFated lose number (f ∷ fs) = (f.fate ≡ fate_at lose number) × AreFated lose (suc number) fs

-- one that was lost
abbrev pub lost_by : Fate → ℕ
lost_by Pass = 0
lost_by (Lost after) = 1

-- how many were
abbrev pub lost_of : List Exchanged → ℕ
lost_of [] = 0
lost_of (f ∷ fs) = lost_by f.fate + lost_of fs

-- WHAT THE LIVES HAVE GAINED, and how often state services began to reopen their slaves
abbrev pub gained_in : List Leads → ℕ
gained_in [] = 0
gained_in (a ∷ as') = gains a.lived.life + reopened a.lived.life + gained_in as'
