-- The adder, served in whatever state it is: a mail that is passed on may leave a half sum, and the next sum begins anew.
use Rattle.std.specs.Prelude.{ℕ, suc, ◌+◌, None, [], ◌∷◌}
use Rattle.state_model.specs.of_exchange_model.Exchange.{Exchange}
use Rattle.state_model.specs.of_exchange_model.Toy.{Mail, noted, Service, sum, post, Adder, adder, number}

-- a sum ends the unfinished one, a post leaves it
abbrev pub behind : Adder → Service → Adder
behind v (sum n) = record { value = v.value + n; handled = suc v.handled; half = None }
behind v (post n) = record v { value = v.value + n; handled = suc v.handled }

-- the adder with its half sum as its application
abbrev pub served_adder : Exchange Adder Adder Mail Service ℕ
served_adder = record {
  serve = adder.serve;
  app = λ v. v;
  handled = adder.handled;
  ready = adder.ready;
  speech = adder.speech;
  full = adder.full;
  exec = behind;
  reply = λ v q. v.value + number q;
  emits = λ v q. noted (number q) ∷ [];
}

-- what is seen of it in the middle of a sum
abbrev pub value_of : Adder → ℕ
value_of v = v.value
