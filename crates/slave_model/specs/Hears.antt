-- A client that hears the replies to what it told before it goes on.
use Rattle.std.specs.Prelude.{◌≡◌, true, List, [], ◌∷◌, ◌++◌, drop, length}
use Rattle.protocol_models.specs.of_exchange_model.Exchange.{Exchange, given, plain}

-- A CLIENT HEARS FIRST: while a reply to a first part of a service's mails isn't heard yet, it has no mail behind that part to tell. The laws of exchanges
-- don't say so of themselves
abbrev pub HearsFirst : {V A M Q R : Type 0} → Exchange V A M Q R → Type 0
HearsFirst {V} {M = M} {Q = Q} x = (v : V) (q : Q) → x.ready v ≡ true → x.speech.valid q ≡ true → (p r : List M) → x.full v q ≡ p ++ r →
    (hs : List M) (b : M) (more : List M) → plain x.speech.emission (given x.serve v p) ≡ hs ++ b ∷ more → drop (length p) (x.speech.planned q hs) ≡ []
