-- What a client in hand shows of the row of its service. Told and heard are stored nowhere.
use Rattle.std.specs.Prelude.{◌≡◌, ℕ, Bool, is_some, List, [], ◌++◌, Option, Some, None}
use Rattle.foe_client.specs.of_exchange_model.Exchange.{Speech, plain}
use Rattle.foe_client.specs.of_exchange_model.Rows.{Row}

-- by what it will hear, the client has just the mails to send that the row has left, and replies as the row's service does
pub record Talks {M Q R : Type 0} (x : Speech M Q R) (later : List M → List M) (awaits : List M → Option R) (r : Row M Q R) : Type 0 where
  pub rest : (hs : List M) → x.planned r.service (plain x.emission r.heard ++ hs) ≡ r.told ++ later hs
  pub goes : (hs : List M) → x.ends r.service (plain x.emission r.heard ++ hs) ≡ awaits hs

-- a service of this kind is in hand, or the newest that was, with or without its reply
pub record Going {M Q R : Type 0} (x : Speech M Q R) (Kind : Q → Type 0) (later : List M → List M) (awaits : List M → Option R) (answered : Bool) (now : Option (Row M Q R)) : Type 0 where
  pub row : Row M Q R
  pub is : now ≡ Some row
  pub kind : Kind row.service
  pub talks : Talks x later awaits row
  pub answer : is_some row.answer ≡ answered
  pub quiet : row.answer ≡ None → awaits [] ≡ None
  pub kept : (a : R × ℕ) → row.answer ≡ Some a → awaits [] ≡ Some a.0

-- of the newest service the replies alone: by what it will hear, it replies as this says; of its mails nothing is said
pub record Hearing {M Q R : Type 0} (x : Speech M Q R) (Kind : Q → Type 0) (awaits : List M → Option R) (answered : Bool) (now : Option (Row M Q R)) : Type 0 where
  pub row : Row M Q R
  pub is : now ≡ Some row
  pub kind : Kind row.service
  pub goes : (hs : List M) → x.ends row.service (plain x.emission row.heard ++ hs) ≡ awaits hs
  pub answer : is_some row.answer ≡ answered
  pub quiet : row.answer ≡ None → awaits [] ≡ None
  pub kept : (a : R × ℕ) → row.answer ≡ Some a → awaits [] ≡ Some a.0

-- it has this reply, whatever else is heard
pub record HasIt {M Q R : Type 0} (Kind : Q → Type 0) (reply : Option R) (now : Option (Row M Q R)) : Type 0 where
  pub row : Row M Q R
  pub answer : R × ℕ
  pub is : now ≡ Some row
  pub kind : Kind row.service
  pub answered : row.answer ≡ Some answer
  pub kept : reply ≡ Some answer.0
