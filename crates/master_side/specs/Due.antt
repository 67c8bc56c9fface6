-- A MAIL OF A SLAVE THAT IS DUE, by the row of the service in hand.
use Rattle.std.specs.Prelude.{◌≡◌, ◌⊎◌, true, Option, Some, None, List, [], ◌∷◌, ◌++◌, ⊤}
use Rattle.frame_view.specs.of_exchange_model.Exchange.{Speech, plain}
use Rattle.frame_view.specs.of_exchange_model.Rows.{Row, left}

-- a reply that is: nothing is left to tell before it, the service has no answer yet, and this mail, with others or none behind it, gives it one
pub record IsReply {M Q R : Type 0} (x : Speech M Q R) (r : Row M Q R) (b : M) : Type 0 where
  pub told : left x r ≡ []
  pub unanswered : r.answer ≡ None
  pub rest : List M
  pub reply : R
  pub ends : x.ends r.service (plain x.emission r.heard ++ b ∷ rest) ≡ Some reply

-- none is awaited where no service came into hand
abbrev pub IsAwaited : {M Q R : Type 0} → Speech M Q R → Option (Row M Q R) → M → Type 0
IsAwaited x None b = ⊤
IsAwaited x (Some r) b = IsReply x r b

-- DUE: it replies to nothing, or is such a reply
abbrev pub IsDue : {M Q R : Type 0} → Speech M Q R → Option (Row M Q R) → M → Type 0
IsDue x now b = (x.emission b ≡ true) ⊎ IsAwaited x now b

-- what a frame brings, one mail at most
abbrev pub EachDue : {M Q R : Type 0} → Speech M Q R → Option (Row M Q R) → List M → Type 0
EachDue x now [] = ⊤
EachDue x now (b ∷ bs) = IsDue x now b
