-- A family of exchanges, one for each AL state, as one exchange whose server and application have the AL state that stands.
use Rattle.std.specs.Prelude.{◌≡◌, ℕ, Bool, List}
use Rattle.segment_model.specs.of_exchange_model.Exchange.{Exchange}
use Rattle.state_model.specs.Stated.{Stated}

-- a server or an application, and the AL state in which it is
pub record InState (X : Type 0) : Type 0 where
  pub inner : X
  pub state : ℕ

-- no member's client depends on the AL state, which only the server knows
pub record AreOneClient {V A M Q R : Type 0} (x : ℕ → Exchange V A M Q R) : Type 0 where
  pub emission : (state : ℕ) (m : M) → (x state).speech.emission m ≡ (x 0).speech.emission m
  pub valid : (state : ℕ) (q : Q) → (x state).speech.valid q ≡ (x 0).speech.valid q
  pub planned : (state : ℕ) (q : Q) (hs : List M) → (x state).speech.planned q hs ≡ (x 0).speech.planned q hs
  pub ends : (state : ℕ) (q : Q) (hs : List M) → (x state).speech.ends q hs ≡ (x 0).speech.ends q hs
  pub handed : (state : ℕ) (q : Q) → (x state).speech.handed q ≡ (x 0).speech.handed q

-- and each member sees the same in a server, so that a change of the AL state alone leaves all that
pub record AreOne {V A M Q R : Type 0} (x : ℕ → Exchange V A M Q R) : Type 0 where
  pub client : AreOneClient x
  pub app : (state : ℕ) (v : V) → (x state).app v ≡ (x 0).app v
  pub handled : (state : ℕ) (v : V) → (x state).handled v ≡ (x 0).handled v
  pub ready : (state : ℕ) (v : V) → (x state).ready v ≡ (x 0).ready v

-- ALL MEMBERS AS ONE EXCHANGE: a mail is served, and a service done, by the member at the AL state that stands, which stays
abbrev pub in_states : {V A M Q R : Type 0} → (ℕ → Exchange V A M Q R) → Exchange (InState V) (InState A) M Q R
in_states x = record {
  serve = λ v m. (record v { inner = ((x v.state).serve v.inner m).0 }, ((x v.state).serve v.inner m).1);
  app = λ v. record { inner = (x v.state).app v.inner; state = v.state };
  handled = λ v. (x v.state).handled v.inner;
  ready = λ v. (x v.state).ready v.inner;
  speech = (x 0).speech;
  full = λ v q. (x v.state).full v.inner q;
  exec = λ a q. record a { inner = (x a.state).exec a.inner q };
  reply = λ a q. (x a.state).reply a.inner q;
  emits = λ a q. (x a.state).emits a.inner q;
}

-- its AL state, which a server is told; these services end with an acknowledgement
abbrev pub states_of : {V A Q : Type 0} → (Q → Bool) → Stated (InState V) (InState A) Q
states_of acknowledged = record {
  tell = λ state v. record v { state = state };
  told = λ state a. record a { state = state };
  state = λ a. a.state;
  acknowledged = acknowledged;
}
