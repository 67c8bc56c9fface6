-- A client that goes by the answers: it has a list of mails, and what it hears decides whether it sends the next, the same again, or none.
use Rattle.std.specs.Prelude.{◌≡◌, Bool, ℕ, zero, suc, List, [], ◌∷◌, ◌++◌, Option, None, Some}
use Rattle.exchange_model.specs.Exchange.{plain}

-- what a client does next
pub data Turn : Type 0 where
  next : Turn
  again : Turn
  stop : Turn

-- of three choices the one that a client's turn takes; a client that waits takes none of them
abbrev pub chosen : {B : Type 0} → Option Turn → B → B → B → B
chosen None onward repeated ended = ended
chosen (Some next) onward repeated ended = onward
chosen (Some again) onward repeated ended = repeated
chosen (Some stop) onward repeated ended = ended

-- the earlier decision of two
abbrev pub first_turn : Option Turn → Option Turn → Option Turn
first_turn None later = later
first_turn (Some turn) later = Some turn

-- what is left of the answers: all of them where the decision stood before them
abbrev pub rest_behind : {M : Type 0} → Option Turn → List M → List M → List M
rest_behind None all later = later
rest_behind (Some turn) all later = all

-- what a client decides on the mail that it sent last, by the answers since: the first beginning of them, the empty one too, that decides
abbrev pub turn_at : {M : Type 0} → (M → List M → Option Turn) → M → List M → List M → Option Turn
turn_at decide m seen [] = decide m seen
turn_at decide m seen (h ∷ hs) = first_turn (decide m seen) (turn_at decide m (seen ++ h ∷ []) hs)

-- the answers that are left behind that beginning
abbrev pub rest_at : {M : Type 0} → (M → List M → Option Turn) → M → List M → List M → List M
rest_at decide m seen [] = []
rest_at decide m seen (h ∷ hs) = rest_behind (decide m seen) (h ∷ hs) (rest_at decide m (seen ++ h ∷ []) hs)

-- what a client that has these mails has sent in all, when it has heard these replies. fuel is at least how often it sends
abbrev pub said : {M : Type 0} → (M → List M → Option Turn) → ℕ → List M → List M → List M
said decide zero ms hs = []
said decide (suc fuel) [] hs = []
said decide (suc fuel) (m ∷ ms) hs = m ∷ chosen (turn_at decide m [] hs)
    (said decide fuel ms (rest_at decide m [] hs)) (said decide fuel (m ∷ ms) (rest_at decide m [] hs)) []

-- what it sends to this server, which answers at once
abbrev pub sent : {V M : Type 0} → (V → M → V × List M) → (M → Bool) → (M → List M → Option Turn) → ℕ → V → List M → List M
sent serve emission decide zero v ms = []
sent serve emission decide (suc fuel) v [] = []
sent serve emission decide (suc fuel) v (m ∷ ms) = m ∷ chosen (turn_at decide m [] (plain emission (serve v m).1))
    (sent serve emission decide fuel (serve v m).0 ms) (sent serve emission decide fuel (serve v m).0 (m ∷ ms)) []

-- no server answers a mail of the client beyond what it decides on
abbrev pub Decides : {V M : Type 0} → (V → M → V × List M) → (M → Bool) → (M → List M → Option Turn) → List M → Type 0
Decides serve emission decide [] = Unit {0}
Decides {V} serve emission decide (m ∷ ms) =
    ((v : V) → rest_at decide m [] (plain emission (serve v m).1) ≡ []) × Decides serve emission decide ms
