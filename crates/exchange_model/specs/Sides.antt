-- Several protocols of one slave as one exchange: each service is served as its own protocol's exchange does, by the mails of that protocol.
use Rattle.std.specs.Prelude.{◌≡◌, ℕ, Bool, true, List}
use Rattle.exchange_model.specs.Exchange.{Exchange, Speech, after, given}
use Rattle.exchange_model.specs.Lifted.{EachOf}

-- What a slave is that has all of them. J: its state; A: the one application; M: a mail
pub record Slave (J A M : Type 0) : Type 0 where
  -- one mail taken
  pub serve : J → M → J × List M
  -- the application, and how many services were carried out
  pub app : J → A
  pub handled : J → ℕ
  -- whether a mail of the slave replies to nothing
  pub emission : M → Bool
  -- the states of which the laws speak
  pub ready : J → Bool

-- One protocol of the slave, by an exchange of its own. seat: what the protocol sees of the slave, which is the application, the count and
-- its own unfinished transfer
pub record IsSide {J V A M Q R : Type 0} (s : Slave J A M) (x : Exchange V A M Q R) (seat : J → V) : Type 0 where
  pub app : (j : J) → s.app j ≡ x.app (seat j)
  pub handled : (j : J) → s.handled j ≡ x.handled (seat j)
  pub ready : (j : J) → s.ready j ≡ true → x.ready (seat j) ≡ true
  -- the mails of its clients
  pub mine : M → Bool
  -- the slave takes such a mail as the protocol does
  pub state : (j : J) (m : M) → mine m ≡ true → seat (s.serve j m).0 ≡ (x.serve (seat j) m).0
  pub answers : (j : J) (m : M) → mine m ≡ true → (s.serve j m).1 ≡ (x.serve (seat j) m).1
  -- the mails of its services are such mails
  pub sends : (v : V) (q : Q) → x.ready v ≡ true → x.speech.valid q ≡ true → EachOf (λ m. mine m ≡ true) (x.full v q)
  -- what the protocol gives for a whole service is an emission of the slave where it is one of the protocol
  pub gives : (v : V) (q : Q) → x.ready v ≡ true → x.speech.valid q ≡ true → EachOf (λ g. s.emission g ≡ x.speech.emission g) (given x.serve v (x.full v q))

-- A service of the protocol leaves a state of which the laws speak, that is, no other protocol is harmed.
abbrev pub Spares : {J V A M Q R : Type 0} (s : Slave J A M) (x : Exchange V A M Q R) → (J → V) → Type 0
Spares {J} {Q = Q} s x seat = (j : J) (q : Q) → s.ready j ≡ true → x.speech.valid q ≡ true → s.ready (after s.serve j (x.full (seat j) q)) ≡ true

-- what their clients speak
abbrev pub joined_speech : {I M R : Type 0} {Q : I → Type 0} → (M → Bool) → ((i : I) → Speech M (Q i) R) → Speech M ((i : I) × Q i) R
joined_speech emission x = record {
  emission = emission;
  valid = λ q. (x q.0).valid q.1;
  planned = λ q hs. (x q.0).planned q.1 hs;
  ends = λ q hs. (x q.0).ends q.1 hs;
  handed = λ q. (x q.0).handed q.1;
}

-- The protocols as one exchange. I: the protocols; a service is one of a protocol
abbrev pub joined : {I J A M R : Type 0} {V Q : I → Type 0} (s : Slave J A M) (x : (i : I) → Exchange (V i) A M (Q i) R) → ((i : I) → J → V i) → Exchange J A M ((i : I) × Q i) R
joined s x seat = record {
  serve = s.serve;
  app = s.app;
  handled = s.handled;
  ready = s.ready;
  speech = joined_speech s.emission (λ i. (x i).speech);
  full = λ j q. (x q.0).full (seat q.0 j) q.1;
  exec = λ a q. (x q.0).exec a q.1;
  reply = λ a q. (x q.0).reply a q.1;
  emits = λ a q. (x q.0).emits a q.1;
}
