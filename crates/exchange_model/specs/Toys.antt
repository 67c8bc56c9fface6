-- Adders side by side over one sum, as many as there are numbers: the mails of each have its number, and each has a half sum of its own.
use Rattle.std.specs.Prelude.{ℕ, ◌==◌, if◌then◌else◌, Option, true, map}
use Rattle.exchange_model.specs.Exchange.{Exchange}
use Rattle.exchange_model.specs.Lifted.{lifted}
use Rattle.exchange_model.specs.Toy.{Mail, Service, Adder, emission, adder}
use Rattle.exchange_model.specs.Sides.{Slave, joined}

-- a mail with the number of its adder
abbrev pub Numbered : Type 0
Numbered = ℕ × Mail

-- the mail without its number
abbrev pub content : Numbered → Mail
content n = n.1

-- a mail for this adder
abbrev pub numbered : ℕ → Mail → Numbered
numbered number m = (number, m)

-- the adder of a number
abbrev pub adder_of : ℕ → Exchange Adder ℕ Numbered Service ℕ
adder_of number = lifted adder content (numbered number)

-- all of them: the sum, the count, and the half sum of each
pub record Joint : Type 0 where
  pub value : ℕ
  pub handled : ℕ
  pub halves : ℕ → Option ℕ

-- what one of them sees
abbrev pub seat : ℕ → Joint → Adder
seat number j = record { value = j.value; handled = j.handled; half = j.halves number }

-- and all behind a step of one
abbrev pub reseated : ℕ → Joint → Adder → Joint
reseated number j v = record { value = v.value; handled = v.handled; halves = λ other. if number == other then v.half else j.halves other }

-- the adders as one slave
abbrev pub slave : Slave Joint ℕ Numbered
slave = record {
  serve = λ j m. (reseated m.0 j (adder.serve (seat m.0 j) m.1).0, map (numbered m.0) (adder.serve (seat m.0 j) m.1).1);
  app = λ j. j.value;
  handled = λ j. j.handled;
  emission = λ m. emission m.1;
  ready = λ j. true;
}

-- all adders as one exchange
abbrev pub adders : Exchange Joint ℕ Numbered ((number : ℕ) × Service) ℕ
adders = joined slave adder_of seat
