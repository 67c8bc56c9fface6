-- A mail as a link sees it: a counter, and a body that the link never looks at.
-- A mail that does not read is one with counter 0, whose body says so.
use Rattle.std.specs.Prelude.{◌≡◌, ℕ, Bool, not, cond, if◌then◌else◌, Option, Some, None, List, [], ◌∷◌, ◌++◌}
use Rattle.link_model.specs.Counters.{repeats}

-- a mail: its counter, and the rest of it
pub record LinkMail (B : Type 0) : Type 0 where
  pub counter : ℕ
  pub body : B

-- it is the last mail once more
abbrev pub is_repeat : {B : Type 0} → ℕ → LinkMail B → Bool
is_repeat last m = repeats last m.counter

-- what a mailbox brings to a side whose last mail had this counter: nothing, or one new body
abbrev pub news : {B : Type 0} → ℕ → Option (LinkMail B) → List B
news last None = []
news last (Some m) = if is_repeat last m then [] else m.body ∷ []

-- the last counter, once this mail was met
abbrev pub seen : {B : Type 0} → ℕ → Option (LinkMail B) → ℕ
seen last None = last
seen last (Some m) = m.counter

-- the counter of a mail, 0 where there is none
abbrev pub counter_in : {B : Type 0} → Option (LinkMail B) → ℕ
counter_in None = 0
counter_in (Some m) = m.counter

-- its body, in a list
abbrev pub bodies : {B : Type 0} → Option (LinkMail B) → List B
bodies None = []
bodies (Some m) = m.body ∷ []

-- the first of two that is there
abbrev pub first_of : {A : Type 0} → Option A → Option A → Option A
first_of None b = b
first_of (Some a) b = Some a

-- two bits differ
abbrev pub differs : Bool → Bool → Bool
differs a b = cond a (not b) b

-- ys begins with xs
abbrev pub IsPrefixOf : {A : Type 0} → List A → List A → Type 0
IsPrefixOf {A} xs ys = (rest : List A) × (ys ≡ xs ++ rest)
