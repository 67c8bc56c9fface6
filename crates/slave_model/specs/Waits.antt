-- A client that has told and heard all that it can goes on.
use Rattle.std.specs.Prelude.{◌≡◌, true, List, [], ◌++◌, drop, length}
use Rattle.protocol_models.specs.of_exchange_model.Exchange.{Exchange, given, plain}
use Rattle.protocol_models.specs.of_exchange_model.Refusing.{Refusal}

-- A CLIENT NEVER WAITS IN VAIN: one that has told a first part of a service's mails, has heard all that replies to it and has none left to tell, has told
-- all. The laws of exchanges don't say so of themselves
abbrev pub NeverWaits : {V A M Q R : Type 0} → Exchange V A M Q R → Type 0
NeverWaits {V} {M = M} {Q = Q} x = (v : V) (q : Q) → x.ready v ≡ true → x.speech.valid q ≡ true → (p r : List M) → x.full v q ≡ p ++ r →
    drop (length p) (x.speech.planned q (plain x.speech.emission (given x.serve v p))) ≡ [] → r ≡ []

-- a client that isn't served tells all its mails before it has heard any
abbrev pub TellsAll : {V A M Q R : Type 0} → Exchange V A M Q R → Refusal V M Q R → Type 0
TellsAll {Q = Q} x r = (q : Q) → x.speech.valid q ≡ true → x.speech.planned q [] ≡ r.asked q
