-- AN EXCHANGE WHOSE CLIENT HAS OTHER NAMES for its services, and another form of their replies.
use Rattle.std.specs.Prelude.{◌≡◌, ◌&&◌, Bool, true, if◌then◌else◌, List, None, option_map}
use Rattle.slave_server.specs.of_exchange_model.Exchange.{Exchange, Speech}
use Rattle.slave_server.specs.of_state_model.Stated.{Stated}

-- whether a service of the client is one of the exchange, and which; and a reply as the client has it
pub record Naming (Q R P T : Type 0) : Type 0 where
  pub is : P → Bool
  pub service : P → Q
  pub reply : R → T

-- a client's speech of these services alone: it speaks of no other, and no other has a reply
abbrev pub only : {M P T : Type 0} → (P → Bool) → Speech M P T → Speech M P T
only is y = record y { valid = λ q. is q && y.valid q; ends = λ q hs. if is q then y.ends q hs else None }

-- THE EXCHANGE by the client's names
abbrev pub named : {V A M Q R P T : Type 0} → Exchange V A M Q R → Naming Q R P T → Speech M P T → Exchange V A M P T
named x n y = record {
  serve = x.serve;
  app = x.app;
  handled = x.handled;
  ready = x.ready;
  speech = record (only n.is y) { emission = x.speech.emission };
  full = λ v q. x.full v (n.service q);
  exec = λ a q. x.exec a (n.service q);
  reply = λ a q. n.reply (x.reply a (n.service q));
  emits = λ a q. x.emits a (n.service q);
}

-- and its AL state, with the services that end with an acknowledgement
abbrev pub named_states : {V A Q P : Type 0} → Stated V A Q → (P → Bool) → Stated V A P
named_states s acknowledged = record { tell = s.tell; told = s.told; state = s.state; acknowledged = acknowledged }

-- the client speaks of each such service as the exchange's own client does
pub record Agrees {V A M Q R P T : Type 0} (x : Exchange V A M Q R) (n : Naming Q R P T) (y : Speech M P T) : Type 0 where
  pub valid : (q : P) → n.is q ≡ true → y.valid q ≡ true → x.speech.valid (n.service q) ≡ true
  pub planned : (q : P) (hs : List M) → n.is q ≡ true → y.planned q hs ≡ x.speech.planned (n.service q) hs
  pub ends : (q : P) (hs : List M) → n.is q ≡ true → y.ends q hs ≡ option_map n.reply (x.speech.ends (n.service q) hs)
  pub handed : (q : P) → n.is q ≡ true → y.handed q ≡ x.speech.handed (n.service q)

-- and it knows which end with an acknowledgement
abbrev pub AgreesLast : {V A Q R P T : Type 0} → Stated V A Q → Naming Q R P T → (P → Bool) → Type 0
AgreesLast {P = P} s n acknowledged = (q : P) → n.is q ≡ true → acknowledged q ≡ s.acknowledged (n.service q)
