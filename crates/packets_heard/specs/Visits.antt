-- The slaves of a ring by their places.
use Rattle.std.specs.Prelude.{◌≡◌, ℕ, ◌+◌, ◌<◌, ◌==◌, Bool, true, false, Option, Some, None, List, [], ◌∷◌, map, get_or, length, ⊤}
use Rattle.slave_server.specs.of_segment_model.Visits.{Stop}
use Rattle.master_node.specs.of_life_model.Tours.{Member, is_live_in}
use Rattle.master_node.specs.of_master_tour.Made.{is_in}
use Rattle.master_node.specs.of_master_tour.Orders.{AreOnce}

-- no slave
abbrev pub no_stop : Stop
no_stop = record { station = 0; state = 0; area = 0 }

-- the slave at a place, and those at these places
abbrev pub stop_at : List Stop → ℕ → Stop
stop_at ring p = get_or ring p no_stop

-- the slaves at these places
abbrev pub stops_at : List Stop → List ℕ → List Stop
stops_at ring ps = map (λ p. stop_at ring p) ps

-- their stations
abbrev pub stations_at : List Stop → List ℕ → List ℕ
stations_at ring ps = map (λ p. (stop_at ring p).station) ps

-- that of the slave carried last
abbrev pub last_station : List Stop → Option ℕ → Option ℕ
last_station ring None = None
last_station ring (Some p) = Some (stop_at ring p).station

-- that is a place of the ring
abbrev pub IsPlace : List Stop → Option ℕ → Type 0
IsPlace ring None = ⊤
IsPlace ring (Some p) = p < length ring

-- the members of a tour are the slaves of the ring
abbrev pub AreOf : List Stop → List Member → Type 0
AreOf ring members = map (λ m. m.stop) members ≡ ring

-- no station twice
abbrev pub IsApart : Stop → List Stop → Type 0
IsApart s [] = ⊤
IsApart s (t ∷ ts) = ((s.station == t.station) ≡ false) × IsApart s ts

-- no station twice among all of them
abbrev pub AreApart : List Stop → Type 0
AreApart [] = ⊤
AreApart (s ∷ ss) = IsApart s ss × AreApart ss

-- A MASTER COMES TO A SLAVE: it passes one that isn't live; a live one it carries, if it may not end before it, since that may not fit
abbrev pub Comes : Bool → ℕ → Stop → ℕ → List ℕ → (List ℕ → Type 0) → Type 0
Comes false size s p cs more = more cs
Comes true size s p [] more = 1486 < size + s.area
Comes true size s p (c ∷ cs) more = (c ≡ p) × more cs

-- it goes through these places
abbrev pub GoesThrough : ℕ → List Stop → List Member → List ℕ → List ℕ → Type 0
GoesThrough size ring members [] [] = ⊤
GoesThrough size ring members [] (c ∷ cs) = ⊥
GoesThrough size ring members (p ∷ ps) cs = Comes (is_live_in (stop_at ring p).station members) size (stop_at ring p) p cs (λ z. GoesThrough size ring members ps z)

-- WHAT A FRAME CARRIES SO FAR: no place twice, and none whose visit is still to come, unless the slaves of a lost frame come again
pub record Carried (again : Bool) (left visit : List ℕ) : Type 0 where
  pub once : AreOnce visit
  pub apart : again ≡ false → (k : ℕ) → is_in k left ≡ true → is_in k visit ≡ false
