-- Services by mails and state services as one exchange count what they count apart.
use Rattle.std.proofs.Common.{◌≡◌, ℕ, ◌+◌, ◌≤◌, true, List, [], ◌∷◌, ◌++◌, length, refl, sym, ap, ◌∙◌, arith}
use Rattle.std.proofs.lemmas.List.{length-map}
use Rattle.slave_parts.specs.of_exchange_model.Exchange.{Exchange, after, given}
use Rattle.slave_parts.proofs.of_exchange_model.Lifting.{map_append}
use Rattle.slave_parts.specs.of_segment_model.Ends.{Outcome}
use Rattle.slave_parts.specs.of_state_model.States.{Table}
use Rattle.slave_parts.specs.of_state_model.Stated.{Stated, Act, Service, Counting, acts, with_states}
use Rattle.few_replies.specs.RowCounts.{AreCounted}
use Rattle.few_replies.specs.Services.{service_count}

module _ {V A M Q R K : Type 0} (x : Exchange V A M Q R) (s : Stated V A Q) (table : Table) (shape : V → K) (count : K → Q → ℕ) (tells : (state : ℕ) (v : V) → shape (s.tell state v) ≡ shape v) (counted : AreCounted x shape count) where
  abbrev both : Exchange (Counting V) (A × ℕ) (Act M) (Service Q) (Outcome R)
  both = with_states x s table

  after_acts : (c : Counting V) (ms : List M) → (after both.serve c (acts ms)).server ≡ after x.serve c.server ms
  after_acts c [] = refl
  after_acts c (m ∷ ms) = after_acts (record c { server = (x.serve c.server m).0 }) ms

  given_acts : (c : Counting V) (ms : List M) → given both.serve c (acts ms) ≡ acts (given x.serve c.server ms)
  given_acts c [] = refl
  given_acts c (m ∷ ms) =
      ap (λ l. acts (x.serve c.server m).1 ++ l) (given_acts (record c { server = (x.serve c.server m).0 }) ms)
      ∙ sym (map_append (λ m. Act.Mail m) (x.serve c.server m).1 (given x.serve (x.serve c.server m).0 ms))

  acts_length : (ms : List M) → length (acts ms) ≡ length ms
  acts_length ms = length-map ms (λ m. Act.Mail m)

  within : (c : Counting V) (q : Service Q) → both.ready c ≡ true → both.speech.valid q ≡ true → length (both.full c q) + length (given both.serve c (both.full c q)) ≤ service_count (count (shape c.server)) q
  within c (Service.Mails q) ready valid =
      let ms = x.full c.server q in
      omega (arith, counted.within c.server q ready valid, acts_length ms, ap length (given_acts c ms), acts_length (given x.serve c.server ms))
  within c (Service.State target) ready valid = omega arith

  stays : (c : Counting V) (q : Service Q) → both.ready c ≡ true → both.speech.valid q ≡ true → shape (after both.serve c (both.full c q)).server ≡ shape c.server
  stays c (Service.Mails q) ready valid = ap shape (after_acts c (x.full c.server q)) ∙ counted.stays c.server q ready valid
  stays c (Service.State target) ready valid = tells _ c.server

  pub both_counted : AreCounted both (λ c. shape c.server) (λ k q. service_count (count k) q)
  both_counted = record { within = within; stays = stays }
