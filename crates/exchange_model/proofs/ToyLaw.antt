-- Adders stand apart, and a run in which the mails of three come mixed.
use Rattle.std.proofs.Common.{◌≡◌, ℕ, ◌==◌, Bool, true, List, [], ◌∷◌, map, None, refl, ap, ◌∙◌, eqb-true, arith}
use Rattle.std.proofs.lemmas.Bool.Decides.{nat_tests}
use Rattle.std.specs.Prelude.{if◌then◌else◌}
use Rattle.exchange_model.specs.Exchange.{IsLawful, after, given}
use Rattle.exchange_model.specs.Lifted.{EachOf, Spells, ReadsBack}
use Rattle.exchange_model.specs.Toy.{Mail, first, second, posted, total, held, noted, adder}
use Rattle.exchange_model.proofs.Lifting.{lifted_law}
use Rattle.exchange_model.proofs.Toys.{adder_law}
use Rattle.exchange_model.specs.Sides.{IsSide}
use Rattle.exchange_model.specs.Toys.{Numbered, content, numbered, adder_of, Joint, seat, slave, adders}
use Rattle.exchange_model.proofs.SumLaw.{joined_law}

reads_back : (number : ℕ) (ms : List Mail) → EachOf (ReadsBack content (numbered number)) ms
reads_back number [] = tt
reads_back number (m ∷ ms) = (refl, reads_back number ms)

adder_spells : (number : ℕ) → Spells adder content (numbered number)
adder_spells number = record { told = λ v q r k. reads_back number (adder.full v q); answered = λ v q r k. reads_back number (given adder.serve v (adder.full v q)) }

numbered_law : (number : ℕ) → IsLawful (adder_of number)
numbered_law number = lifted_law adder content (numbered number) adder_law (adder_spells number)

equal_self : (n : ℕ) → (n == n) ≡ true
equal_self n = grind (arith, nat_tests)

sends : (number : ℕ) (ms : List Mail) → EachOf (λ n. (n.0 == number) ≡ true) (map (numbered number) ms)
sends number [] = tt
sends number (m ∷ ms) = (equal_self number, sends number ms)

same_all : (ms : List Numbered) → EachOf (λ g. slave.emission g ≡ slave.emission g) ms
same_all [] = tt
same_all (m ∷ ms) = (refl, same_all ms)

side : (number : ℕ) → IsSide slave (adder_of number) (seat number)
side number = record {
  app = λ j. refl;
  handled = λ j. refl;
  ready = λ j r. refl;
  mine = λ m. m.0 == number;
  state = λ j m e.
      let v = (adder.serve (seat m.0 j) m.1).0 in
      ap (λ (b : Bool). record { value = v.value; handled = v.handled; half = if b then v.half else j.halves number }) e
      ∙ ap (λ (k : ℕ). (adder.serve (seat k j) m.1).0) (eqb-true m.0 number e);
  answers = λ j m e. ap (λ (k : ℕ). map (numbered k) (adder.serve (seat k j) m.1).1) (eqb-true m.0 number e);
  sends = λ v q r k. sends number (adder.full v q);
  gives = λ v q r k. same_all (given (adder_of number).serve v ((adder_of number).full v q));
}

pub adders_law : IsLawful adders
adders_law = joined_law slave adder_of seat side numbered_law (λ i j q r k. refl) (λ j m. adder_law.grows (seat m.0 j) m.1)

-- a half sum of adder 0 stays while adders 1 and 2 finish theirs, and all act on one sum
abbrev start : Joint
start = record { value = 10; handled = 0; halves = λ number. None }

abbrev mixed : List Numbered
mixed = (0, first 5) ∷ (2, posted 1) ∷ (1, first 2) ∷ (1, second) ∷ (0, second) ∷ []

pub mixed_after_is : seat 0 (after adders.serve start mixed) ≡ record { value = 18; handled = 3; half = None }
mixed_after_is = refl

pub mixed_given_is : given adders.serve start mixed ≡ (0, held) ∷ (2, noted 1) ∷ (1, held) ∷ (1, total 13) ∷ (1, noted 2) ∷ (0, total 18) ∷ (0, noted 5) ∷ []
mixed_given_is = refl
