-- Services from any server, and mails that are passed on, as one exchange. A mail is seen with what its sender means by it, which no octet
-- says: so the server behind whole rows is known, though a mail that is passed on may leave a transfer unfinished, and may count nothing.
use Rattle.std.specs.Prelude.{◌≡◌, ◌≢◌, ◌⊎◌, ℕ, suc, ◌+◌, ◌-◌, ◌==◌, ◌≤◌, ◌&&◌, Bool, true, false, not, if◌then◌else◌, Option, None, Some, option_map, List, [], ◌∷◌, ◌++◌, map, ⊤}
use Rattle.state_model.specs.of_exchange_model.Prefix.{IsPrefixOf}
use Rattle.state_model.specs.of_exchange_model.Exchange.{Exchange, Speech, after, given, plain, emitted}
use Rattle.state_model.specs.of_exchange_model.Rows.{Row}

-- these mails leave the number of services and the emissions as they were, and all that is seen of the server
pub record Untouched {V M Q R C : Type 0} (x : Exchange V V M Q R) (core : V → C) (v : V) (ms : List M) : Type 0 where
  pub core_is : core (after x.serve v ms) ≡ core v
  pub handled : x.handled (after x.serve v ms) ≡ x.handled v
  pub emitted : emitted x.speech.emission (given x.serve v ms) ≡ []

-- they have carried out the service, once
pub record Touched {V M Q R C : Type 0} (x : Exchange V V M Q R) (core : V → C) (v : V) (q : Q) (ms : List M) : Type 0 where
  pub core_is : core (after x.serve v ms) ≡ core (x.exec v q)
  pub handled : x.handled (after x.serve v ms) ≡ suc (x.handled v)
  pub emitted : IsPrefixOf (emitted x.speech.emission (given x.serve v ms)) (x.emits v q)

-- WHAT A SERVER OWES OF ITS SERVICES IN WHATEVER STATE IT IS: here the application is the whole server, with its unfinished transfers. Of a
-- server in the middle of a service only `core` is said, as its objects and files
pub record IsServed {V M Q R C : Type 0} (x : Exchange V V M Q R) (core : V → C) : Type 0 where
  pub ready : (v : V) (q : Q) → x.ready v ≡ true → x.speech.valid q ≡ true → x.ready (x.exec v q) ≡ true
  pub passes : (v : V) (m : M) → x.ready v ≡ true → x.ready (x.serve v m).0 ≡ true
  pub whole : (v : V) (q : Q) → x.ready v ≡ true → x.speech.valid q ≡ true → after x.serve v (x.full v q) ≡ x.exec v q
  pub counts : (v : V) (q : Q) → x.ready v ≡ true → x.speech.valid q ≡ true → x.handled (x.exec v q) ≡ suc (x.handled v)
  pub all_emitted : (v : V) (q : Q) → x.ready v ≡ true → x.speech.valid q ≡ true → emitted x.speech.emission (given x.serve v (x.full v q)) ≡ x.emits v q
  pub replied : (v : V) (q : Q) → x.ready v ≡ true → x.speech.valid q ≡ true → x.speech.handed q ≡ false →
      x.speech.ends q (plain x.speech.emission (given x.serve v (x.full v q))) ≡ Some (x.reply v q)
  pub silent : (v : V) (q : Q) → x.ready v ≡ true → x.speech.valid q ≡ true → x.speech.handed q ≡ true → plain x.speech.emission (given x.serve v (x.full v q)) ≡ []
  pub part : (v : V) (q : Q) → x.ready v ≡ true → x.speech.valid q ≡ true → (p r : List M) → x.full v q ≡ p ++ r → Untouched x core v p ⊎ Touched x core v q p
  pub counted : (v : V) (q : Q) → x.ready v ≡ true → x.speech.valid q ≡ true → x.speech.handed q ≡ false → (p r : List M) → x.full v q ≡ p ++ r →
      plain x.speech.emission (given x.serve v p) ≡ plain x.speech.emission (given x.serve v (x.full v q)) → Touched x core v q p
  pub none : (q : Q) → x.speech.ends q [] ≡ None
  pub ended : (q : Q) (hs : List M) (h : M) (more : List M) (r : R) → x.speech.ends q hs ≡ Some r → x.speech.ends q (hs ++ h ∷ more) ≡ None
  pub follows : (v : V) (q : Q) → x.ready v ≡ true → x.speech.valid q ≡ true → (hs more : List M) → plain x.speech.emission (given x.serve v (x.full v q)) ≡ hs ++ more →
      IsPrefixOf (x.speech.planned q hs) (x.full v q)
  pub all_planned : (v : V) (q : Q) → x.ready v ≡ true → x.speech.valid q ≡ true → x.speech.planned q (plain x.speech.emission (given x.serve v (x.full v q))) ≡ x.full v q
  pub unanswered : (q : Q) (hs : List M) → x.speech.handed q ≡ true → x.speech.ends q hs ≡ None
  pub some : (v : V) (q : Q) → x.ready v ≡ true → x.speech.valid q ≡ true → x.full v q ≢ []
  pub grows : (v : V) (m : M) → x.handled v ≤ x.handled (x.serve v m).0

-- what is meant by a mail: the first of a service, one more of it, one that is passed on, which is answered or isn't; what a server gives
-- replies to a service, marked where it is the last reply to a mail that was passed on, or to none
pub data Meant (Q : Type 0) : Type 0 where
  First : Q → Meant Q
  More : Meant Q
  Alone : Bool → Meant Q
  Reply : Bool → Meant Q
  Own : Meant Q

-- a mail with what is meant by it
pub record Tagged (M Q : Type 0) : Type 0 where
  pub mail : M
  pub meant : Meant Q

-- a service of a client, or a mail that is passed on; whether that is answered only the server knows, and the law foresees
pub data Asked (M Q : Type 0) : Type 0 where
  Script : Q → Asked M Q
  Passed : M → Bool → Asked M Q

-- mails as they are, and with what is meant by them
abbrev pub untag : {M Q : Type 0} → List (Tagged M Q) → List M
untag ts = map (λ t. t.mail) ts

-- one more mail of a service
abbrev pub more_of : {M Q : Type 0} → M → Tagged M Q
more_of m = record { mail = m; meant = Meant.More }

-- the mails of a service, the first of which names it
abbrev pub told : {M Q : Type 0} → Q → List M → List (Tagged M Q)
told q [] = []
told q (m ∷ ms) = record { mail = m; meant = Meant.First q } ∷ map (λ m. more_of m) ms

-- what a server gives to a service: a reply, or an emission
abbrev pub gift : {M Q : Type 0} → (M → Bool) → M → Tagged M Q
gift emission m = record { mail = m; meant = if emission m then Meant.Own else Meant.Reply false }

-- what replies to nothing
abbrev pub own_gift : {M Q : Type 0} → M → Tagged M Q
own_gift m = record { mail = m; meant = Meant.Own }

-- it replies to nothing
abbrev pub is_own : {Q : Type 0} → Meant Q → Bool
is_own (Meant.First q) = false
is_own Meant.More = false
is_own (Meant.Alone answers) = false
is_own (Meant.Reply marked) = false
is_own Meant.Own = true

-- it is the last reply to a mail that was passed on
abbrev pub is_mark : {Q : Type 0} → Meant Q → Bool
is_mark (Meant.First q) = false
is_mark Meant.More = false
is_mark (Meant.Alone answers) = false
is_mark (Meant.Reply marked) = marked
is_mark Meant.Own = false

-- no reply is among these
abbrev pub no_reply : {M : Type 0} → (M → Bool) → List M → Bool
no_reply e [] = true
no_reply e (m ∷ ms) = if e m then no_reply e ms else false

-- with the last reply marked
abbrev pub last_gifts : {M Q : Type 0} → (M → Bool) → List M → List (Tagged M Q)
last_gifts e [] = []
last_gifts e (m ∷ ms) = record { mail = m; meant = if e m then Meant.Own else Meant.Reply (no_reply e ms) } ∷ last_gifts e ms

-- what answers a mail that was passed on; where there is no reply, which the law foresees otherwise, one is made up
abbrev pub answer_gifts : {M Q : Type 0} → (M → Bool) → M → List M → List (Tagged M Q)
answer_gifts e m ms = if no_reply e ms then record { mail = m; meant = Meant.Reply true } ∷ last_gifts e ms else last_gifts e ms

-- the last of these is marked, and no other
abbrev pub ends_marked : {M Q : Type 0} → List (Tagged M Q) → Bool
ends_marked [] = false
ends_marked (t ∷ []) = is_mark t.meant
ends_marked (t ∷ (u ∷ ts)) = if is_mark t.meant then false else ends_marked (u ∷ ts)

-- A SERVER BETWEEN ROWS AND IN ONE: the server behind all rows before, the service in hand with the mails that it has taken of it, and how many
-- rows were carried out before
pub record Rowed (V M Q : Type 0) : Type 0 where
  pub base : V
  pub hand : Option Q
  pub part : List M
  pub count : ℕ

-- the server as it is
abbrev pub real : {V M Q R : Type 0} → Exchange V V M Q R → Rowed V M Q → V
real x w = after x.serve w.base w.part

-- the server behind all rows that are carried out, whole
abbrev pub ideal_in : {V M Q R : Type 0} → Exchange V V M Q R → V → V → Option Q → V
ideal_in x base now None = base
ideal_in x base now (Some q) = if x.handled now == x.handled base then base else x.exec base q

-- for a server in a row
abbrev pub ideal : {V M Q R : Type 0} → Exchange V V M Q R → Rowed V M Q → V
ideal x w = ideal_in x w.base (real x w) w.hand

-- how many rows are carried out: a mail that is passed on is one, whatever the server counts
abbrev pub rows_done : {V M Q R : Type 0} → Exchange V V M Q R → Rowed V M Q → ℕ
rows_done x w = w.count + (x.handled (real x w) - x.handled w.base)

-- one mail taken
abbrev pub serve_tagged : {V M Q R : Type 0} → Exchange V V M Q R → Rowed V M Q → M → Meant Q → Rowed V M Q × List (Tagged M Q)
serve_tagged x w m (Meant.First q) = (
  record { base = ideal x w; hand = Some q; part = m ∷ []; count = rows_done x w },
  map (λ g. gift x.speech.emission g) (x.serve (ideal x w) m).1,
)
serve_tagged x w m Meant.More = (record w { part = w.part ++ m ∷ [] }, map (λ g. gift x.speech.emission g) (x.serve (real x w) m).1)
serve_tagged x w m (Meant.Alone answers) = (
  record { base = (x.serve (ideal x w) m).0; hand = None; part = []; count = suc (rows_done x w) },
  if answers then answer_gifts x.speech.emission m (x.serve (ideal x w) m).1 else map (λ g. own_gift g) (x.serve (ideal x w) m).1,
)
serve_tagged x w m (Meant.Reply marked) = (w, [])
serve_tagged x w m Meant.Own = (w, [])

-- all mails of a row
abbrev pub asked_full : {V M Q R : Type 0} → Exchange V V M Q R → V → Asked M Q → List (Tagged M Q)
asked_full x v (Asked.Script q) = told q (x.full v q)
asked_full x v (Asked.Passed m answers) = record { mail = m; meant = Meant.Alone answers } ∷ []

-- the mails that the client sends, by what it heard
abbrev pub asked_planned : {M Q R : Type 0} → Speech M Q R → Asked M Q → List (Tagged M Q) → List (Tagged M Q)
asked_planned x (Asked.Script q) hs = told q (x.planned q (untag hs))
asked_planned x (Asked.Passed m answers) hs = record { mail = m; meant = Meant.Alone answers } ∷ []

-- a mail that is passed on ends with its last reply
abbrev pub asked_ends : {M Q R : Type 0} → Speech M Q R → Asked M Q → List (Tagged M Q) → Option (Option R)
asked_ends x (Asked.Script q) hs = option_map (λ r. Some r) (x.ends q (untag hs))
asked_ends x (Asked.Passed m answers) hs = if answers && ends_marked hs then Some None else None

-- or, where it is foreseen to have none, with its write
abbrev pub asked_handed : {M Q R : Type 0} → Speech M Q R → Asked M Q → Bool
asked_handed x (Asked.Script q) = x.handed q
asked_handed x (Asked.Passed m answers) = not answers

-- any mail may be passed on
abbrev pub asked_valid : {M Q R : Type 0} → Speech M Q R → Asked M Q → Bool
asked_valid x (Asked.Script q) = x.valid q
asked_valid x (Asked.Passed m answers) = true

-- A ROW ACTS ON THE WHOLE SERVER: a service by its meaning, a mail that is passed on by the server's one step
abbrev pub asked_exec : {V M Q R : Type 0} → Exchange V V M Q R → V → Asked M Q → V
asked_exec x v (Asked.Script q) = x.exec v q
asked_exec x v (Asked.Passed m answers) = (x.serve v m).0

-- the reply of a row
abbrev pub asked_reply : {V M Q R : Type 0} → Exchange V V M Q R → V → Asked M Q → Option R
asked_reply x v (Asked.Script q) = Some (x.reply v q)
asked_reply x v (Asked.Passed m answers) = None

-- what a row emits: of a mail that has no reply all that the server gives
abbrev pub asked_emits : {V M Q R : Type 0} → Exchange V V M Q R → V → Asked M Q → List (Tagged M Q)
asked_emits x v (Asked.Script q) = map (λ g. own_gift g) (x.emits v q)
asked_emits x v (Asked.Passed m answers) = if answers then map (λ g. own_gift g) (emitted x.speech.emission (x.serve v m).1) else map (λ g. own_gift g) (x.serve v m).1

-- what the client of both speaks
abbrev pub tagged_speech : {M Q R : Type 0} → Speech M Q R → Speech (Tagged M Q) (Asked M Q) (Option R)
tagged_speech x = record {
  emission = λ t. is_own t.meant;
  valid = asked_valid x;
  planned = asked_planned x;
  ends = asked_ends x;
  handed = asked_handed x;
}

-- BOTH AS ONE EXCHANGE, whose application is the server behind whole rows
abbrev pub tagged : {V M Q R : Type 0} → Exchange V V M Q R → Exchange (Rowed V M Q) V (Tagged M Q) (Asked M Q) (Option R)
tagged x = record {
  serve = λ w t. serve_tagged x w t.mail t.meant;
  app = ideal x;
  handled = rows_done x;
  ready = λ w. x.ready (ideal x w);
  speech = tagged_speech x.speech;
  full = λ w q. asked_full x (ideal x w) q;
  exec = asked_exec x;
  reply = asked_reply x;
  emits = asked_emits x;
}

-- WHAT IS MEANT NEEDN'T BE TOLD: the server behind these mails, and what it gave, are those of the server that sees no tags
pub record IsReal {V M Q R : Type 0} (x : Exchange V V M Q R) (w : Rowed V M Q) (ts : List (Tagged M Q)) : Type 0 where
  pub server : real x (after (tagged x).serve w ts) ≡ after x.serve (real x w) (untag ts)
  pub gives : untag (given (tagged x).serve w ts) ≡ given x.serve (real x w) (untag ts)

-- what is foreseen of a mail that is passed on is so: it is answered only where it has a reply
abbrev pub IsForeseen : {V M Q R : Type 0} → Exchange V V M Q R → V → Asked M Q → Type 0
IsForeseen x v (Asked.Script q) = ⊤
IsForeseen x v (Asked.Passed m true) = no_reply x.speech.emission (x.serve v m).1 ≡ false
IsForeseen x v (Asked.Passed m false) = ⊤

-- of each row, at the server behind the rows before it
abbrev pub AllForeseen : {V M Q R : Type 0} → Exchange V V M Q R → Rowed V M Q → List (Row (Tagged M Q) (Asked M Q) (Option R)) → Row (Tagged M Q) (Asked M Q) (Option R) → Type 0
AllForeseen x w [] now = IsForeseen x (ideal x w) now.service
AllForeseen x w (r ∷ past) now = IsForeseen x (ideal x w) r.service × AllForeseen x (after (tagged x).serve w r.told) past now
