-- THE EPOCHS OF A LIFE: when each was returned to Init, and when it was opened.
use Rattle.std.specs.Prelude.{◌≡◌, ℕ, ◌&&◌, not, Bool, true, false, nat_lt, if◌then◌else◌, Option, Some, None, List, [], ◌∷◌, ◌++◌, map}
use Rattle.master_tour.specs.of_life_model.Lives.{Era, Life, Stand}

-- a slave is to be returned to Init: an opening of it has begun, and hasn't shown Init yet
abbrev pub is_leaving : Stand → Bool
is_leaving (Stand.Opens o) = o.again && nat_lt o.step 3
is_leaving Stand.Open = false
is_leaving Stand.Gone = false

-- a slave is open
abbrev pub is_open : Stand → Bool
is_open (Stand.Opens o) = false
is_open Stand.Open = true
is_open Stand.Gone = false

-- an epoch by the frame whose return showed Init, none for the first, and the one that showed the state that was opened
pub record Span : Type 0 where
  pub cleared : Option ℕ
  pub opened : Option ℕ

-- the frames of an epoch
abbrev pub span_of : {M Q R : Type 0} → Era M Q R → Span
span_of e = record { cleared = e.cleared; opened = e.opened }

-- those of a life, in order
abbrev pub spans_of : {M Q R : Type 0} → Life M Q R → List Span
spans_of l = map (λ e. span_of e) l.past ++ span_of l.era ∷ []

-- one epoch more, by a frame that showed Init
abbrev pub cleared_at : ℕ → List Span → List Span
cleared_at frame spans = spans ++ record { cleared = Some frame; opened = None } ∷ []

-- the newest is opened by a frame
abbrev pub opened_at : ℕ → List Span → List Span
opened_at frame [] = []
opened_at frame (s ∷ []) = record { cleared = s.cleared; opened = Some frame } ∷ []
opened_at frame (s ∷ (t ∷ ss)) = s ∷ opened_at frame (t ∷ ss)

-- THE EPOCHS BEHIND A RETURN, by whether the slave was leaving before it and still is, and was open before it and is now
abbrev pub spans_behind : ℕ → Bool → Bool → Bool → Bool → List Span → List Span
spans_behind frame leaving leaves opened opens spans = if leaving && not leaves then cleared_at frame spans else if not opened && opens then opened_at frame spans else spans

-- behind what comes into hand
pub record SameEpochs {M Q R : Type 0} (l m : Life M Q R) : Type 0 where
  pub spans : spans_of m ≡ spans_of l
  pub stand : m.stand ≡ l.stand

-- behind the return of a frame
pub record EpochsBack {M Q R : Type 0} (frame : ℕ) (l m : Life M Q R) : Type 0 where
  pub spans : spans_of m ≡ spans_behind frame (is_leaving l.stand) (is_leaving m.stand) (is_open l.stand) (is_open m.stand) (spans_of l)

-- behind its loss: of a slave that is given up with it nothing is open
pub record EpochsLost {M Q R : Type 0} (l m : Life M Q R) : Type 0 where
  pub spans : spans_of m ≡ spans_of l
  pub stand : m.gave ≡ l.gave → m.stand ≡ l.stand
  pub given : (m.gave ≡ l.gave → ⊥) → is_open m.stand ≡ false
