-- Several protocols of one slave as one exchange over the whole slave: a service leaves what its protocol makes of its own part, and the rest.
use Rattle.std.specs.Prelude.{◌≡◌, Bool, true}
use Rattle.idn_table.specs.of_exchange_model.Exchange.{Exchange, given}
use Rattle.idn_table.specs.of_exchange_model.Lifted.{EachOf}
use Rattle.idn_table.specs.of_exchange_model.Sides.{Slave, joined_speech}

-- One protocol of the slave, over its whole server. seat: what the protocol sees of the slave; reseat: the slave with what the protocol left;
-- core: what is seen of the protocol's server in the middle of a service
pub record IsWholeSide {J V M Q R C : Type 0} (s : Slave J C M) (x : Exchange V V M Q R) (core : V → C) (seat : J → V) (reseat : J → V → J) : Type 0 where
  pub core_is : (j : J) → s.app j ≡ core (seat j)
  pub handled : (j : J) → s.handled j ≡ x.handled (seat j)
  pub ready : (j : J) → s.ready j ≡ true → x.ready (seat j) ≡ true
  -- what is put in a protocol's place stands there, and the rest stays
  pub again : (j : J) (v : V) → seat (reseat j v) ≡ v
  pub own : (j : J) → reseat j (seat j) ≡ j
  pub twice : (j : J) (v w : V) → reseat (reseat j v) w ≡ reseat j w
  -- the mails of its clients, which the slave takes as the protocol does
  pub mine : M → Bool
  pub state : (j : J) (m : M) → mine m ≡ true → (s.serve j m).0 ≡ reseat j (x.serve (seat j) m).0
  pub answers : (j : J) (m : M) → mine m ≡ true → (s.serve j m).1 ≡ (x.serve (seat j) m).1
  pub sends : (v : V) (q : Q) → x.ready v ≡ true → x.speech.valid q ≡ true → EachOf (λ m. mine m ≡ true) (x.full v q)
  -- what the protocol gives for a whole service is an emission of the slave where it is one of the protocol
  pub gives : (v : V) (q : Q) → x.ready v ≡ true → x.speech.valid q ≡ true → EachOf (λ g. s.emission g ≡ x.speech.emission g) (given x.serve v (x.full v q))

-- the protocols as one exchange over the whole slave
abbrev pub joined_whole : {I J C M R : Type 0} {V Q : I → Type 0} → Slave J C M → ((i : I) → Exchange (V i) (V i) M (Q i) R) → ((i : I) → J → V i) → ((i : I) → J → V i → J) → Exchange J J M ((i : I) × Q i) R
joined_whole s x seat reseat = record {
  serve = s.serve;
  app = λ j. j;
  handled = s.handled;
  ready = s.ready;
  speech = joined_speech s.emission (λ i. (x i).speech);
  full = λ j q. (x q.0).full (seat q.0 j) q.1;
  exec = λ j q. reseat q.0 j ((x q.0).exec (seat q.0 j) q.1);
  reply = λ j q. (x q.0).reply (seat q.0 j) q.1;
  emits = λ j q. (x q.0).emits (seat q.0 j) q.1;
}
