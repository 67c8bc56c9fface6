-- One mailbox server against the services of one client, over mails alone: no mailbox, no counter and no frame stands between.
use Rattle.std.specs.Prelude.{◌≡◌, ◌≢◌, ◌⊎◌, ◌&&◌, ℕ, suc, ◌≤◌, nat_lt, Bool, true, false, not, List, [], ◌∷◌, ◌++◌, filter, length, Option, None, Some}
use Rattle.exchange_model.specs.Prefix.{IsPrefixOf}

-- THE CLIENT'S PART: what a master speaks by, which knows of no server. M: a mail; Q: a service; R: a reply
pub record Speech (M Q R : Type 0) : Type 0 where
  -- whether a server's mail is sent of itself and replies to nothing, as an emergency or a fragment of a packet
  pub emission : M → Bool
  -- the services of which the laws speak
  pub valid : Q → Bool
  -- the mails that the client of a service sends in all until it has to hear more than these replies
  pub planned : Q → List M → List M
  -- the reply that these mails complete, if they are the complete reply side of the service
  pub ends : Q → List M → Option R
  -- whether a service ends as soon as its last mail is written
  pub handed : Q → Bool

-- What an exchange is made of. V: a server, without the mails that wait in it; A: its application; M: a mail; Q: a service; R: a reply
pub record Exchange (V A M Q R : Type 0) : Type 0 where
  -- one mail taken: the server after it, and the mails given, replies first and emissions behind them
  pub serve : V → M → V × List M
  -- the application that a server keeps
  pub app : V → A
  -- how many services a server has carried out
  pub handled : V → ℕ
  -- the servers of which the laws speak, as those without an unfinished join
  pub ready : V → Bool
  -- what the client of a service speaks
  pub speech : Speech M Q R
  -- all mails that the client of a service sends to this server
  pub full : V → Q → List M
  -- what a service does to the application, what it replies and what it emits
  pub exec : A → Q → A
  pub reply : A → Q → R
  pub emits : A → Q → List M

-- the server behind these mails
abbrev pub after : {V M : Type 0} → (V → M → V × List M) → V → List M → V
after serve v [] = v
after serve v (m ∷ ms) = after serve (serve v m).0 ms

-- what the server gives for these mails, in order
abbrev pub given : {V M : Type 0} → (V → M → V × List M) → V → List M → List M
given serve v [] = []
given serve v (m ∷ ms) = (serve v m).1 ++ given serve (serve v m).0 ms

-- the replies among these mails
abbrev pub plain : {M : Type 0} → (M → Bool) → List M → List M
plain emission ms = filter (λ m. not (emission m)) ms

-- the emissions among these mails
abbrev pub emitted : {M : Type 0} → (M → Bool) → List M → List M
emitted emission ms = filter emission ms

-- these mails leave the application, the number of services and the emissions as they were
pub record Before {V A M Q R : Type 0} (x : Exchange V A M Q R) (v : V) (ms : List M) : Type 0 where
  pub app : x.app (after x.serve v ms) ≡ x.app v
  pub handled : x.handled (after x.serve v ms) ≡ x.handled v
  pub emitted : emitted x.speech.emission (given x.serve v ms) ≡ []

-- these mails have carried out the service, once, and of the emissions none but those of the service came so far
pub record Behind {V A M Q R : Type 0} (x : Exchange V A M Q R) (v : V) (q : Q) (ms : List M) : Type 0 where
  pub app : x.app (after x.serve v ms) ≡ x.exec (x.app v) q
  pub handled : x.handled (after x.serve v ms) ≡ suc (x.handled v)
  pub emitted : IsPrefixOf (emitted x.speech.emission (given x.serve v ms)) (x.emits (x.app v) q)

-- What the rows of a session stand on. Each protocol owes it for its services.
pub record IsLawful {V A M Q R : Type 0} (x : Exchange V A M Q R) : Type 0 where
  -- a service leaves a server of which the laws speak
  pub ready : (v : V) (q : Q) → x.ready v ≡ true → x.speech.valid q ≡ true → x.ready (after x.serve v (x.full v q)) ≡ true
  -- all mails of a service carry it out
  pub whole : (v : V) (q : Q) → x.ready v ≡ true → x.speech.valid q ≡ true → Behind x v q (x.full v q)
  -- and bring all its emissions
  pub all_emitted : (v : V) (q : Q) → x.ready v ≡ true → x.speech.valid q ≡ true → emitted x.speech.emission (given x.serve v (x.full v q)) ≡ x.emits (x.app v) q
  -- the replies to all mails are the reply of the service
  pub replied : (v : V) (q : Q) → x.ready v ≡ true → x.speech.valid q ≡ true → x.speech.handed q ≡ false →
      x.speech.ends q (plain x.speech.emission (given x.serve v (x.full v q))) ≡ Some (x.reply (x.app v) q)
  -- a service that ends with its last write has no reply
  pub silent : (v : V) (q : Q) → x.ready v ≡ true → x.speech.valid q ≡ true → x.speech.handed q ≡ true → plain x.speech.emission (given x.serve v (x.full v q)) ≡ []
  -- any first part of the mails has carried out nothing, or the whole service
  pub part : (v : V) (q : Q) → x.ready v ≡ true → x.speech.valid q ≡ true → (p r : List M) → x.full v q ≡ p ++ r → Before x v p ⊎ Behind x v q p
  -- a first part that brought all replies has carried it out, though mails may be left, as a last acknowledgement
  pub counted : (v : V) (q : Q) → x.ready v ≡ true → x.speech.valid q ≡ true → x.speech.handed q ≡ false → (p r : List M) → x.full v q ≡ p ++ r →
      plain x.speech.emission (given x.serve v p) ≡ plain x.speech.emission (given x.serve v (x.full v q)) → Behind x v q p
  -- without a mail there is no reply
  pub none : (q : Q) → x.speech.ends q [] ≡ None
  -- nothing behind a complete reply side belongs to it
  pub ended : (q : Q) (hs : List M) (h : M) (more : List M) (r : R) → x.speech.ends q hs ≡ Some r → x.speech.ends q (hs ++ h ∷ more) ≡ None
  -- a client that has heard a first part of the replies sends a first part of the mails
  pub follows : (v : V) (q : Q) → x.ready v ≡ true → x.speech.valid q ≡ true → (hs more : List M) → plain x.speech.emission (given x.serve v (x.full v q)) ≡ hs ++ more →
      IsPrefixOf (x.speech.planned q hs) (x.full v q)
  -- and one that has heard all replies sends all mails
  pub all_planned : (v : V) (q : Q) → x.ready v ≡ true → x.speech.valid q ≡ true → x.speech.planned q (plain x.speech.emission (given x.serve v (x.full v q))) ≡ x.full v q
  -- no mail is the reply of a service that ends with its last write
  pub unanswered : (q : Q) (hs : List M) → x.speech.handed q ≡ true → x.speech.ends q hs ≡ None
  -- and such a service has a mail
  pub some : (v : V) (q : Q) → x.ready v ≡ true → x.speech.valid q ≡ true → x.speech.handed q ≡ true → x.full v q ≢ []
  -- no mail takes a service back
  pub grows : (v : V) (m : M) → x.handled v ≤ x.handled (x.serve v m).0

-- more mails than replies: the last of them brought none
abbrev pub outnumbers : {M : Type 0} → List M → List M → Bool
outnumbers ms hs = nat_lt (length hs) (length ms)

-- each mail of a service brings a reply at last, but for an acknowledgement, which brings none: with all replies all mails were taken
abbrev pub AnswersLast : {V A M Q R : Type 0} → Exchange V A M Q R → (Q → Bool) → Type 0
AnswersLast {V} {M = M} {Q = Q} x acknowledged =
    (v : V) (q : Q) → x.ready v ≡ true → x.speech.valid q ≡ true → x.speech.handed q ≡ false →
    (acknowledged q && outnumbers (x.full v q) (plain x.speech.emission (given x.serve v (x.full v q)))) ≡ false → (p r : List M) → x.full v q ≡ p ++ r →
    plain x.speech.emission (given x.serve v p) ≡ plain x.speech.emission (given x.serve v (x.full v q)) → r ≡ []
