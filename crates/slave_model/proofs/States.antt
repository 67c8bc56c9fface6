-- With state services beside a client never waits in vain either.
use Rattle.std.proofs.Common.{◌≡◌, true, List, [], ◌++◌, refl, sym, ap, ◌∙◌}
use Rattle.std.specs.Prelude.{drop, length}
use Rattle.protocol_models.specs.of_exchange_model.Exchange.{Exchange, given, plain}
use Rattle.life_model.specs.of_state_model.States.{Table}
use Rattle.life_model.specs.of_state_model.Stated.{Stated, Act, Service, Counting, acts, mails, all_mails, planned_by, with_states}
use Rattle.life_model.proofs.of_state_model.Acts.{acts_same, acts_drop, acts_length, all_acts, front_acts, rest_acts, cut_mails, plain_given_acts}
use Rattle.slave_model.specs.Waits.{NeverWaits}
use Rattle.slave_model.proofs.Dialogues.{tells_all}

module _ {V A M Q R : Type 0} (x : Exchange V A M Q R) (s : Stated V A Q) (table : Table) (never : NeverWaits x) where
  mails_never : (c : Counting V) (q : Q) → x.ready c.server ≡ true → x.speech.valid q ≡ true → (p r : List (Act M)) → acts (x.full c.server q) ≡ p ++ r →
      drop (length p) (planned_by x.speech q (all_mails (plain (with_states x s table).speech.emission (given (with_states x s table).serve c p)))) ≡ [] → r ≡ []
  mails_never c q ready valid p r e none =
      let all = x.full c.server q in
      let front : acts (mails p) ≡ p = front_acts all p r e in
      let heard = plain x.speech.emission (given x.serve c.server (mails p)) in
      let told : planned_by x.speech q (all_mails (plain (with_states x s table).speech.emission (given (with_states x s table).serve c p))) ≡ acts (x.speech.planned q heard) =
      ap (λ l. planned_by x.speech q (all_mails (plain (with_states x s table).speech.emission (given (with_states x s table).serve c l)))) (sym front)
      ∙ ap (λ l. planned_by x.speech q (all_mails l)) (plain_given_acts x s table c (mails p)) ∙ ap (planned_by x.speech q) (all_acts heard) in
      let long : length (mails p) ≡ length p = sym (acts_length (mails p)) ∙ ap length front in
      let short : drop (length (mails p)) (x.speech.planned q heard) ≡ [] =
      acts_same _ [] (sym (acts_drop (length (mails p)) (x.speech.planned q heard)) ∙ ap (λ n. drop n (acts (x.speech.planned q heard))) long ∙ ap (drop (length p)) (sym told) ∙ none) in
      sym (rest_acts all p r e) ∙ ap acts (never c.server q ready valid (mails p) (mails r) (cut_mails all p r e) short)

  pub states_never : NeverWaits (with_states x s table)
  states_never c (Service.Mails q) ready valid p r e none = mails_never c q ready valid p r e none
  states_never c (Service.State target) ready valid p r e none = tells_all _ p r _ e refl none
