-- HOW MANY MAILS A MAIL THAT IS PASSED ON TAKES, in an exchange of services and such mails.
use Rattle.std.specs.Prelude.{◌≡◌, ℕ, ◌+◌, ◌≤◌, ◌&&◌, Bool, true, Option, length}
use Rattle.slave_parts.specs.of_exchange_model.Exchange.{Exchange, Speech}
use Rattle.slave_parts.specs.of_serving_model.Tagged.{Tagged, Asked, Rowed, ideal, tagged, tagged_speech}

-- A SERVER THAT ANSWERS A FAIR MAIL WITH FEW, as long as it is calm: that it is behind fair mails and behind services
pub record IsCalm {V M Q R : Type 0} (x : Exchange V V M Q R) (calm : V → Bool) (fair : M → Bool) (most : ℕ) : Type 0 where
  pub few : (v : V) (m : M) → x.ready v ≡ true → calm v ≡ true → fair m ≡ true → length (x.serve v m).1 ≤ most
  pub passes : (v : V) (m : M) → x.ready v ≡ true → calm v ≡ true → fair m ≡ true → calm (x.serve v m).0 ≡ true
  pub serves : (v : V) (q : Q) → x.ready v ≡ true → x.speech.valid q ≡ true → calm v ≡ true → calm (x.exec v q) ≡ true

-- no fair mail changes what services are counted by
abbrev pub KeepsPassed : {V M Q R K : Type 0} → Exchange V V M Q R → (V → Bool) → (M → Bool) → (V → K) → Type 0
KeepsPassed {V} {M} x calm fair shape = (v : V) (m : M) → x.ready v ≡ true → calm v ≡ true → fair m ≡ true → shape (x.serve v m).0 ≡ shape v

-- fair mails alone are passed on
abbrev pub asked_fair : {M Q R : Type 0} → Speech M Q R → (M → Bool) → Asked M Q → Bool
asked_fair x fair (Asked.Script q) = x.valid q
asked_fair x fair (Asked.Passed m answers) = fair m

-- SERVICES AND FAIR MAILS AS ONE EXCHANGE, over calm servers
abbrev pub calm_tagged : {V M Q R : Type 0} → Exchange V V M Q R → (V → Bool) → (M → Bool) → Exchange (Rowed V M Q) V (Tagged M Q) (Asked M Q) (Option R)
calm_tagged x calm fair = record (tagged x) {
  ready = λ w. x.ready (ideal x w) && calm (ideal x w);
  speech = record (tagged_speech x.speech) { valid = asked_fair x.speech fair };
}

-- HOW MANY MAILS EACH OF THEM TAKES: a mail that is passed on itself and what answers it; the law makes an answer up where it foresees one and none comes
abbrev pub asked_count : {M Q K : Type 0} → (K → Q → ℕ) → ℕ → K → Asked M Q → ℕ
asked_count count most k (Asked.Script q) = count k q
asked_count count most k (Asked.Passed m answers) = 2 + most
