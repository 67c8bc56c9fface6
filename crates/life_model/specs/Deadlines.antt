-- THE REPAIRS OF A RING, frame by frame: in how many frames that come back each is done.
use Rattle.std.specs.Prelude.{◌≡◌, ◌⊎◌, ℕ, suc, ◌+◌, ◌<◌, ◌≤◌, nat_le, Bool, true, false, if◌then◌else◌, Option, Some, None, List, [], ◌∷◌, ⊤}
use Rattle.life_model.specs.Repairs.{Way, whole_way}

-- how a slave stands: its repair; how many slaves are visited before it; behind how many frames it makes a step; and whether it made one since the
-- access in hand was the one in hand
pub record Standing : Type 0 where
  pub way : Option Way
  pub ahead : ℕ
  pub clock : ℕ
  pub stepped : Bool

-- an access that awaits a step is in vain until then
abbrev pub is_vain : Way → Bool → Bool
is_vain w stepped = if w.awaits then (if stepped then false else true) else false

-- THE END OF A REPAIR, in frames
abbrev pub deadline_of : ℕ → Standing → Option Way → ℕ
deadline_of slaves s None = 0
deadline_of slaves s (Some w) = w.rest + (if is_vain w s.stepped then s.clock + slaves else suc s.ahead)

-- of the repair that it is at, if any
abbrev pub deadline : ℕ → Standing → ℕ
deadline slaves s = deadline_of slaves s s.way

-- in a ring: a visit is less than a round away, and a step comes behind one of the next frames
pub record IsTimed (slaves pace : ℕ) (s : Standing) : Type 0 where
  pub ahead : s.ahead < slaves
  pub clock : s.clock ≤ pace
  pub some : 1 ≤ s.clock

-- the clock behind a frame: the slave made a step behind it, or the step comes nearer
abbrev pub Ticks : Standing → Standing → Type 0
Ticks a b = (b.stepped ≡ true) ⊎ (suc b.clock ≤ a.clock)

-- A FRAME THAT CAME BACK, for a slave under repair: it didn't carry the slave, which is then nearer; it carried it in vain, before the step; or the
-- repair went on by it, or ended
pub data Mends (slaves pace : ℕ) (a b : Standing) (w : Way) : Type 0 where
  passes : b.way ≡ Some w → (a.stepped ≡ true → b.stepped ≡ true) → suc b.ahead ≤ a.ahead → Ticks a b → Mends slaves pace a b w
  vain : b.way ≡ Some w → is_vain w a.stepped ≡ true → Ticks a b → Mends slaves pace a b w
  on : whole_way slaves pace b.way ≤ w.rest → Mends slaves pace a b w

-- for any slave: without a repair it has none behind it either
abbrev pub MendsIf : ℕ → ℕ → Standing → Standing → Option Way → Type 0
MendsIf slaves pace a b None = b.way ≡ None
MendsIf slaves pace a b (Some w) = Mends slaves pace a b w

-- of all slaves of a ring
abbrev pub AllMend : ℕ → ℕ → List Standing → List Standing → Type 0
AllMend slaves pace [] [] = ⊤
AllMend slaves pace (a ∷ as') (b ∷ bs) = (IsTimed slaves pace a × IsTimed slaves pace b × MendsIf slaves pace a b a.way) × AllMend slaves pace as' bs
AllMend slaves pace _ _ = ⊥

-- THE GREATEST OF ALL: repairs go on side by side
abbrev pub repair : ℕ → List Standing → ℕ
repair slaves [] = 0
repair slaves (s ∷ ss) = if nat_le (repair slaves ss) (deadline slaves s) then deadline slaves s else repair slaves ss

-- A SLAVE THAT HAS SOMETHING TO GAIN, with nothing to repair, waits no longer than this: its visits may be in vain until it makes a step, and then one
-- more
abbrev pub patience : ℕ → Way
patience slaves = record { rest = slaves; awaits = true }

-- frames that came back, one behind the other, as long as it goes on
pub data Lasts (slaves pace : ℕ) (a : Standing) : ℕ → Standing → Type 0 where
  none : Lasts slaves pace a 0 a
  more : (k : ℕ) (b c : Standing) (w : Way) → Lasts slaves pace a k b → b.way ≡ Some w → IsTimed slaves pace b → IsTimed slaves pace c → Mends slaves pace b c w → Lasts slaves pace a (suc k) c
