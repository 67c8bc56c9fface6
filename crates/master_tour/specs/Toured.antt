-- A TOUR, by places in the ring: which slaves a frame carries, and where the tour stands behind it.
use Rattle.std.specs.Prelude.{◌≡◌, ◌≤◌, ◌<◌, ℕ, suc, ◌+◌, ◌&&◌, ◌==◌, nat_lt, if◌then◌else◌, Bool, true, false, Option, Some, None, List, [], ◌∷◌, ◌++◌, length, ⊤}
use Rattle.master_side.specs.of_frame_view.Frames.{Share}
use Rattle.master_tour.specs.Goes.{holds_at, opened_behind}
use Rattle.master_tour.specs.Made.{is_in}
use Rattle.master_tour.specs.Orders.{visits_left, visited_of, last_behind}

-- where it stands: the slaves of a lost frame, which come again; how many from the first on have ended their first bring-up; the one carried
-- last; and how many frames were lost in a row
pub record Tour : Type 0 where
  pub again : Option (List ℕ)
  pub opened : ℕ
  pub last : Option ℕ
  pub missed : ℕ

-- before the first frame
abbrev pub new_tour : Tour
new_tour = record { again = None; opened = 0; last = None; missed = 0 }

-- THE SLAVES OF A VISIT: those of the lost frame before it; else the one that is brought up; else the live ones of a round
abbrev pub visit_of : (ℕ → Bool) → ℕ → Option (List ℕ) → ℕ → Option ℕ → List ℕ
visit_of live count (Some same) opened last = same
visit_of live count None opened last = visited_of (nat_lt opened count) live (visits_left false [] opened count last 0)

-- these are the first of those, and at least one
pub record AreFirst (cs ps : List ℕ) : Type 0 where
  pub rest : List ℕ
  pub split : ps ≡ cs ++ rest
  pub some : 1 ≤ length cs

-- the datagram of this number is the slave's
abbrev pub has_number : ℕ → Share → Bool
has_number k s = s.under && (s.at == k)

-- they have the datagrams of a frame from this number on
abbrev pub HaveFrom : {S : Type 0} → (S → Share) → List S → ℕ → List ℕ → Type 0
HaveFrom share ss k [] = ⊤
HaveFrom share ss k (p ∷ ps) = (holds_at (λ s. has_number k (share s)) ss p ≡ true) × HaveFrom share ss (suc k) ps

-- A FRAME CARRIES THESE, one behind the other, and no other
pub record Carries {S : Type 0} (share : S → Share) (ss : List S) (cs : List ℕ) : Type 0 where
  pub each : HaveFrom share ss 0 cs
  pub only : (p : ℕ) → holds_at (λ s. (share s).under) ss p ≡ true → is_in p cs ≡ true

-- those that come again, should the frame be lost: the ones of the lost frame before it, else those that it carries
abbrev pub visit_on : Option (List ℕ) → List ℕ → List ℕ
visit_on (Some same) cs = same
visit_on None cs = cs

-- WHAT A FRAME OF THIS LENGTH LEAVES OUT of its visit, which goes on with these: behind a lost frame none; of a round, none whose larger mailbox would fit
abbrev pub LeavesOut : ℕ → (ℕ → ℕ) → Option (List ℕ) → List ℕ → Type 0
LeavesOut size area again [] = ⊤
LeavesOut size area (Some same) (p ∷ ps) = ⊥
LeavesOut size area None (p ∷ ps) = 1486 < size + area p

-- A FRAME OF SO MANY DATAGRAMS IS OF THE TOUR: it carries the first slaves of its visit; `size` is the length in its header, and `area` that of the larger
-- mailbox of the slave at a place
pub record IsOfTour {S : Type 0} (share : S → Share) (live : ℕ → Bool) (size : ℕ) (area : ℕ → ℕ) (t : Tour) (ss : List S) (many : ℕ) (visit : List ℕ) : Type 0 where
  pub places : List ℕ
  pub whole : length places ≡ many
  pub carries : Carries share ss places
  pub first : AreFirst places (visit_of live (length ss) t.again t.opened t.last)
  pub comes : visit ≡ visit_on t.again places
  pub leaves : LeavesOut size area t.again first.rest

-- behind a frame that came back, and behind one whose slaves are given up, the tour goes on, by what the slaves are then
abbrev pub goes_on : {S : Type 0} → (S → Bool) → List S → Tour → List ℕ → Tour
goes_on opens ss t visit = record { again = None; opened = opened_behind opens t.opened ss; last = last_behind t.opened (length ss) t.last visit; missed = 0 }

-- behind a lost frame the same slaves come again, up to so many times in a row
abbrev pub lost_on : {S : Type 0} → (S → Bool) → ℕ → List S → Tour → List ℕ → Tour
lost_on opens retry ss t visit = if nat_lt t.missed retry then record t { again = Some visit; missed = t.missed + 1 } else goes_on opens ss t visit
