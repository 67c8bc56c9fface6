-- THE FRAMES OF A RUN AGAINST WHAT IS GAINED AND LOST, for so many slaves in a ring, of which the slowest makes a step behind each `pace` frames.
use Rattle.std.specs.Prelude.{◌≡◌, ℕ, suc, ◌+◌, ◌*◌, ◌≤◌}

-- how far a run has come: the frames sent, those of them that were lost, what was gained, and how often a state service began to reopen its slave; in
-- how many frames at most all live slaves are repaired, if none is lost; and how many came back since with nothing gained
pub record Tally : Type 0 where
  pub frames : ℕ
  pub lost : ℕ
  pub gains : ℕ
  pub reopened : ℕ
  pub repair : ℕ
  pub still : ℕ

-- before the first frame: the first bring-up takes so many frames at most
abbrev pub new_tally : ℕ → Tally
new_tally first = record { frames = 0; lost = 0; gains = 0; reopened = 0; repair = first; still = 0 }

-- A LOST FRAME puts off the end of the repairs by so many frames at most: the slaves that it carried are repaired side by side, and the longest
-- repair is a reopening, of nine accesses, two of which await a step of the slave
abbrev pub broken : ℕ → ℕ → ℕ
broken slaves pace = 9 * slaves + 2 * pace

-- with nothing to repair so many frames at most come back without a gain: until each slave has made a step, and three rounds
abbrev pub quiet : ℕ → ℕ → ℕ
quiet slaves pace = 3 * slaves + pace

-- ONE FRAME: it was lost; it came back, and all that is repaired comes nearer its end; it came back with a gain, by which slaves may begin to be
-- reopened; or it came back with none
pub data Counts (slaves pace : ℕ) (a b : Tally) : Type 0 where
  lost : b.frames ≡ suc a.frames → b.lost ≡ suc a.lost → b.gains ≡ a.gains → b.reopened ≡ a.reopened → b.repair ≤ a.repair + broken slaves pace → b.still ≡ 0 → Counts slaves pace a b
  repairs : b.frames ≡ suc a.frames → b.lost ≡ a.lost → a.gains ≤ b.gains → b.reopened ≡ a.reopened → suc b.repair ≤ a.repair → b.still ≡ a.still → Counts slaves pace a b
  gains : b.frames ≡ suc a.frames → b.lost ≡ a.lost → suc a.gains ≤ b.gains → b.reopened ≡ a.reopened → b.repair ≤ a.repair → b.still ≡ 0 → Counts slaves pace a b
  reopens : b.frames ≡ suc a.frames → b.lost ≡ a.lost → suc a.gains ≤ b.gains → suc a.reopened ≤ b.reopened → b.repair ≤ a.repair + broken slaves pace → b.still ≡ 0 → Counts slaves pace a b
  nothing : b.frames ≡ suc a.frames → b.lost ≡ a.lost → b.gains ≡ a.gains → b.reopened ≡ a.reopened → b.repair ≤ a.repair → b.still ≡ suc a.still → b.still ≤ quiet slaves pace → Counts slaves pace a b

-- frames one behind the other
pub data Counted (slaves pace : ℕ) (a : Tally) : Tally → Type 0 where
  none : Counted slaves pace a a
  more : (b c : Tally) → Counted slaves pace a b → Counts slaves pace b c → Counted slaves pace a c

-- the frames sent and those to come until all is repaired are paid: by each lost frame, by each gain and each reopening, and by the first bring-up
pub record IsPaid (slaves pace first : ℕ) (t : Tally) : Type 0 where
  pub still : t.still ≤ quiet slaves pace
  pub sum : t.frames + t.repair ≤ t.lost * (1 + broken slaves pace + quiet slaves pace) + t.gains * (1 + quiet slaves pace) + t.reopened * broken slaves pace + first + t.still
