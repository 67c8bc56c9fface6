-- The rows of a session with one slave: services in the order in which they came into hand, with the mails that each sent and heard.
-- Held are the mails that the client's side took up, taken those that the server took, accepted those that the client's side heard.
use Rattle.std.specs.Prelude.{◌≡◌, ◌&&◌, ◌||◌, ℕ, suc, ◌+◌, ◌<◌, ◌≤◌, Bool, true, false, is_none, List, [], ◌∷◌, ◌++◌, map, take, drop, length, Option, None, Some}
use Rattle.exchange_model.specs.Prefix.{IsPrefixOf}
use Rattle.exchange_model.specs.Exchange.{Exchange, Speech, after, given, plain, emitted, outnumbers}

-- a service that came into hand: the frame at which it did, the mails held for it, the mails heard since, and the reply with its frame
pub record Row (M Q R : Type 0) : Type 0 where
  pub service : Q
  pub frame : ℕ
  pub told : List M
  pub heard : List M
  pub answer : Option (R × ℕ)

-- the row of a service as it comes into hand
abbrev pub begun : {M Q R : Type 0} → Q → ℕ → Row M Q R
begun q frame = record { service = q; frame = frame; told = []; heard = []; answer = None }

-- the first reply stays
abbrev pub answer_after : {R : Type 0} → ℕ → Option (R × ℕ) → Option R → Option (R × ℕ)
answer_after frame (Some answer) found = Some answer
answer_after frame None None = None
answer_after frame None (Some reply) = Some (reply, frame)

-- the row behind the mails heard in one frame
abbrev pub row_heard : {M Q R : Type 0} → Speech M Q R → ℕ → List M → Row M Q R → Row M Q R
row_heard x frame ms r = record r {
  heard = r.heard ++ ms;
  answer = answer_after frame r.answer (x.ends r.service (plain x.emission (r.heard ++ ms)));
}

-- the row behind one more mail held for it
abbrev pub row_told : {M Q R : Type 0} → M → Row M Q R → Row M Q R
row_told m r = record r { told = r.told ++ m ∷ [] }

-- the mails that the client of a row has left to send, as far as it has heard
abbrev pub left : {M Q R : Type 0} → Speech M Q R → Row M Q R → List M
left x r = drop (length r.told) (x.planned r.service (plain x.emission r.heard))

-- the last mail of a row brings no reply: its service may end with an acknowledgement, and it has no answer yet, or sends more mails than it heard
-- replies, as a read that delivered its file does and one that was refused doesn't
abbrev pub ends_unheard : {M Q R : Type 0} → Speech M Q R → (Q → Bool) → Row M Q R → Bool
ends_unheard x acknowledged r =
    acknowledged r.service && (is_none r.answer || outnumbers (x.planned r.service (plain x.emission r.heard)) (plain x.emission r.heard))

-- all mails held for these rows, in order
abbrev pub told_all : {M Q R : Type 0} → List (Row M Q R) → List M
told_all [] = []
told_all (r ∷ rs) = r.told ++ told_all rs

-- all that were heard in them
abbrev pub heard_all : {M Q R : Type 0} → List (Row M Q R) → List M
heard_all [] = []
heard_all (r ∷ rs) = r.heard ++ heard_all rs

-- their services
abbrev pub services : {M Q R : Type 0} → List (Row M Q R) → List Q
services rs = map (λ r. r.service) rs

-- the application behind these services
abbrev pub exec_all : {V A M Q R : Type 0} → Exchange V A M Q R → A → List Q → A
exec_all x a [] = a
exec_all x a (q ∷ qs) = exec_all x (x.exec a q) qs

-- all that they emit
abbrev pub emits_all : {V A M Q R : Type 0} → Exchange V A M Q R → A → List Q → List M
emits_all x a [] = []
emits_all x a (q ∷ qs) = x.emits a q ++ emits_all x (x.exec a q) qs

-- A row that is over; v is the server behind all rows before it.
pub record IsWhole {V A M Q R : Type 0} (x : Exchange V A M Q R) (v : V) (r : Row M Q R) : Type 0 where
  -- its service is one of which the laws speak
  pub valid : x.speech.valid r.service ≡ true
  -- all mails of the service were held for it
  pub told : r.told ≡ x.full v r.service
  -- all its replies were heard in it
  pub heard : plain x.speech.emission r.heard ≡ plain x.speech.emission (given x.serve v r.told)
  -- an answer is the reply of its service, which has one
  pub reply : (answer : R × ℕ) → r.answer ≡ Some answer → answer.0 ≡ x.reply (x.app v) r.service
  pub by_reply : (answer : R × ℕ) → r.answer ≡ Some answer → x.speech.handed r.service ≡ false

-- rows of which each is over
abbrev pub Settled : {V A M Q R : Type 0} → Exchange V A M Q R → V → List (Row M Q R) → Type 0
Settled x v [] = Unit {0}
Settled x v (r ∷ rs) = IsWhole x v r × Settled x (after x.serve v r.told) rs

-- What holds of the rows at every moment. They are front, last and now: now is the newest row, which stays so when it is over until the
-- next one begins, and last has the row before it or, where that was taken whole, nothing.
pub record Fitting {V A M Q R : Type 0} (x : Exchange V A M Q R) (v : V) (front last : List (Row M Q R)) (now : Row M Q R)
    (held taken accepted : List M) : Type 0 where
  pub valid : x.speech.valid now.service ≡ true
  -- all rows but the newest are over
  pub settled : Settled x v (front ++ last)
  -- what is held for the newest is a first part of its service's mails
  pub mine : IsPrefixOf now.told (x.full (after x.serve v (told_all (front ++ last))) now.service)
  -- the rows have all that was held and all that was accepted
  pub all_held : held ≡ told_all (front ++ last) ++ now.told
  pub all_accepted : accepted ≡ heard_all (front ++ last) ++ now.heard
  -- all rows but the last two were taken whole
  pub all_taken : IsPrefixOf (told_all front) taken
  pub one : length last ≤ 1
  -- a row before the newest that has a reply is carried out
  pub counted : (r : Row M Q R) → last ≡ r ∷ [] → x.speech.handed r.service ≡ false →
      x.handled v + length (front ++ last) ≤ x.handled (after x.serve v taken)
  -- an answer of the newest comes from the mails heard for it
  pub answered : (answer : R × ℕ) → now.answer ≡ Some answer → (x.speech.handed now.service ≡ false) × (x.speech.ends now.service (plain x.speech.emission now.heard) ≡ Some answer.0)

-- each answered row, the first of them with this number, is among the first count
abbrev pub InDone : {M Q R : Type 0} → ℕ → ℕ → List (Row M Q R) → Type 0
InDone count number [] = Unit {0}
InDone {R = R} count number (r ∷ rs) = ((answer : R × ℕ) → r.answer ≡ Some answer → number < count) × InDone count (suc number) rs

-- each answer is the reply of its row's service, on the application behind the services before it
abbrev pub Replied : {V A M Q R : Type 0} → Exchange V A M Q R → A → List (Row M Q R) → Type 0
Replied x a [] = Unit {0}
Replied {R = R} x a (r ∷ rs) = ((answer : R × ℕ) → r.answer ≡ Some answer → answer.0 ≡ x.reply a r.service) × Replied x (x.exec a r.service) rs

-- WHAT ROWS PROMISE: the server w, which was v before the first of them, has carried out just their first count services, each once and in
-- order. At most two rows are not among these: one whose last mail was written and not yet taken, and the one in hand.
pub record Fits {V A M Q R : Type 0} (x : Exchange V A M Q R) (v : V) (rows : List (Row M Q R)) (w : V) (accepted : List M) : Type 0 where
  pub count : ℕ
  pub handled : x.handled w ≡ x.handled v + count
  pub app : x.app w ≡ exec_all x (x.app v) (take count (services rows))
  pub prefix : count ≤ length rows
  pub behind : length rows ≤ count + 2
  pub in_done : InDone count 0 rows
  pub replied : Replied x (x.app v) rows
  -- the emissions that were accepted are the first of those that these services emit
  pub emissions : IsPrefixOf (emitted x.speech.emission accepted) (emits_all x (x.app v) (take count (services rows)))

-- WHAT ROWS PROMISE WITH NOTHING LEFT: the server has carried out all their services, each once and in order, and all emissions were accepted
pub record Rest {V A M Q R : Type 0} (x : Exchange V A M Q R) (v : V) (rows : List (Row M Q R)) (w : V) (accepted : List M) : Type 0 where
  pub handled : x.handled w ≡ x.handled v + length rows
  pub app : x.app w ≡ exec_all x (x.app v) (services rows)
  pub emissions : emitted x.speech.emission accepted ≡ emits_all x (x.app v) (services rows)
