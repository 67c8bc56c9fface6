-- The mails of a service, layer by layer: over what mails are written as, where a protocol is refused, and where several stand side by side.
use Rattle.std.proofs.Common.{◌≡◌, ℕ, ◌+◌, Bool, true, false, List, [], ◌∷◌, ◌++◌, map, length, refl, sym, ap, ap₂, ◌∙◌, arith, length-append, if◌then◌else◌}
use Rattle.std.proofs.lemmas.List.{length-map}
use Rattle.slave_parts.specs.of_exchange_model.Exchange.{Exchange, given}
use Rattle.slave_parts.specs.of_exchange_model.Lifted.{EachOf, ReadsBack, Spells, lifted, lifted_serve}
use Rattle.slave_parts.proofs.of_exchange_model.Lifting.{map_append}
use Rattle.slave_parts.specs.of_exchange_model.Refusing.{Refusal, IsAsked, refused_serve, refusing}
use Rattle.slave_parts.specs.of_exchange_model.Sides.{Slave, IsSide}
use Rattle.few_replies.specs.Counts.{mails_between}

module _ {V A M N Q R : Type 0} (x : Exchange V A M Q R) (read : N → M) (write : M → N) where
  given_written : (v : V) (ms : List M) → EachOf (ReadsBack read write) ms → given (lifted_serve x.serve read write) v (map write ms) ≡ map write (given x.serve v ms)
  given_written v [] all = refl
  given_written v (m ∷ ms) all =
      ap (λ k. map write (x.serve v k).1 ++ given (lifted_serve x.serve read write) (x.serve v k).0 (map write ms)) all.0
      ∙ ap (λ l. map write (x.serve v m).1 ++ l) (given_written (x.serve v m).0 ms all.1)
      ∙ sym (map_append write (x.serve v m).1 (given x.serve (x.serve v m).0 ms))

  pub mails_written : Spells x read write → (v : V) (q : Q) → x.ready v ≡ true → x.speech.valid q ≡ true → mails_between (lifted x read write) v q ≡ mails_between x v q
  mails_written spells v q ready valid =
      let told = length-map (x.full v q) write in
      let gave = ap length (given_written v (x.full v q) (spells.told v q ready valid)) ∙ length-map (given x.serve v (x.full v q)) write in
      omega (arith, told, gave)

module _ {V A M Q R : Type 0} (x : Exchange V A M Q R) (r : Refusal V M Q R) where
  -- how many answers it gets
  abbrev pub answers : Bool → ℕ
  answers handed = if handed then 0 else 1

  answer_one : (handed : Bool) → length (if handed then [] else r.refusal ∷ []) ≡ answers handed
  answer_one true = refl
  answer_one false = refl

  given_refused : (v : V) (handed : Bool) (front : List M) (last : M) → EachOf (λ m. (r.counts m ≡ false) × (r.gives m ≡ [])) front → r.gives last ≡ (if handed then [] else r.refusal ∷ []) →
      length (given (refused_serve r) v (front ++ last ∷ [])) ≡ answers handed
  given_refused v handed [] last quiet answer = omega (arith, length-append (r.gives last) [], ap length answer, answer_one handed)
  given_refused v handed (m ∷ front) last quiet answer =
      let rest = given (refused_serve r) (refused_serve r v m).0 (front ++ last ∷ []) in
      omega (arith, length-append (r.gives m) rest, ap length quiet.0.1, given_refused (refused_serve r v m).0 handed front last quiet.1 answer)

  -- where it isn't served, the mails that its client sends, and one answer where it has a reply
  pub mails_refused : (handed : Bool) (v : V) (q : Q) → IsAsked r handed (r.asked q) → mails_between (refusing x r) v q ≡ length (r.asked q) + answers handed
  mails_refused handed v q asked =
      let few = given_refused v handed asked.front asked.last asked.quiet asked.answer in
      ap (λ n. length (r.asked q) + n) (ap (λ ms. length (given (refused_serve r) v ms)) asked.mails ∙ few)

module _ {J V A M Q R : Type 0} (s : Slave J A M) (x : Exchange V A M Q R) (seat : J → V) (side : IsSide s x seat) where
  given_seated : (j : J) (ms : List M) → EachOf (λ m. side.mine m ≡ true) ms → given s.serve j ms ≡ given x.serve (seat j) ms
  given_seated j [] all = refl
  given_seated j (m ∷ ms) all =
      ap₂ (λ (a b : List M). a ++ b) (side.answers j m all.0) (given_seated (s.serve j m).0 ms all.1 ∙ ap (λ v. given x.serve v ms) (side.state j m all.0))

  pub mails_seated : (j : J) (q : Q) → s.ready j ≡ true → x.speech.valid q ≡ true → length (x.full (seat j) q) + length (given s.serve j (x.full (seat j) q)) ≡ mails_between x (seat j) q
  mails_seated j q ready valid = ap (λ l. length (x.full (seat j) q) + length l) (given_seated j (x.full (seat j) q) (side.sends (seat j) q (side.ready j ready) valid))
