-- With state services beside a client hears first too: a control word has no reply by mails.
use Rattle.std.proofs.Common.{◌≡◌, true, ℕ, List, [], ◌∷◌, ◌++◌, refl, sym, ap, ◌∙◌}
use Rattle.std.specs.Prelude.{drop, length}
use Rattle.protocol_models.specs.of_exchange_model.Exchange.{Exchange, given, plain}
use Rattle.protocol_models.proofs.of_exchange_model.Lists.{append_none}
use Rattle.life_model.specs.of_state_model.States.{Table}
use Rattle.life_model.specs.of_state_model.Stated.{Stated, Act, Service, Counting, acts, mails, all_mails, planned_by, with_states}
use Rattle.life_model.proofs.of_state_model.Acts.{acts_drop, acts_length, all_acts, front_acts, rest_acts, cut_mails, plain_given_acts}
use Rattle.slave_model.specs.Hears.{HearsFirst}
use Rattle.slave_model.proofs.HearsDialogues.{not_none}

no_word : {X M : Type 0} (ms : List M) (target : ℕ) (more : List (Act M)) → acts ms ≡ Act.Word target ∷ more → X
no_word [] target more e = absurd (cc)
no_word (m ∷ ms) target more e = absurd (let bad : Act.Mail m ≡ Act.Word target = cc in cc)

module _ {V A M Q R : Type 0} (x : Exchange V A M Q R) (s : Stated V A Q) (table : Table) (hears : HearsFirst x) where
  abbrev heard : Counting V → List (Act M) → List (Act M)
  heard c p = plain (with_states x s table).speech.emission (given (with_states x s table).serve c p)

  mails_hears : (c : Counting V) (q : Q) → x.ready c.server ≡ true → x.speech.valid q ≡ true → (p r : List (Act M)) → acts (x.full c.server q) ≡ p ++ r →
      (hs : List (Act M)) (b : Act M) (more : List (Act M)) → heard c p ≡ hs ++ b ∷ more → drop (length p) (planned_by x.speech q (all_mails hs)) ≡ []
  mails_hears c q ready valid p r e hs b more comes = by b comes (rest_acts replies hs (b ∷ more) all) (cut_mails replies hs (b ∷ more) all)
    where
      replies : List M
      replies = plain x.speech.emission (given x.serve c.server (mails p))

      front : acts (mails p) ≡ p
      front = front_acts (x.full c.server q) p r e

      all : acts replies ≡ hs ++ b ∷ more
      all = sym (plain_given_acts x s table c (mails p)) ∙ ap (heard c) front ∙ comes

      by : (b : Act M) → heard c p ≡ hs ++ b ∷ more → acts (mails (b ∷ more)) ≡ b ∷ more → replies ≡ mails hs ++ mails (b ∷ more) → drop (length p) (planned_by x.speech q (all_mails hs)) ≡ []
      by (Act.Word target) comes rest cut = no_word (mails more) target more rest
      by (Act.Mail m) comes rest cut =
          let told = x.speech.planned q (mails hs) in
          let mine : acts (mails hs) ≡ hs = front_acts replies hs (b ∷ more) all in
          let short : drop (length (mails p)) told ≡ [] = hears c.server q ready valid (mails p) (mails r) (cut_mails (x.full c.server q) p r e) (mails hs) m (mails more) cut in
          let long : length p ≡ length (mails p) = ap length (sym front) ∙ acts_length (mails p) in
          ap (λ l. drop (length p) (planned_by x.speech q (all_mails l))) (sym mine) ∙ ap (λ l. drop (length p) (planned_by x.speech q l)) (all_acts (mails hs))
          ∙ ap (λ n. drop n (acts told)) long ∙ acts_drop (length (mails p)) told ∙ ap acts short

  word_heard : (c : Counting V) (target : ℕ) (p r : List (Act M)) → Act.Word target ∷ [] ≡ p ++ r → heard c p ≡ []
  word_heard c target [] r e = refl
  word_heard c target (k ∷ p) r e =
      let head : Act.Word target ≡ k = cc in
      let tail : [] ≡ p ++ r = cc in
      ap (λ z. heard c (z ∷ p)) (sym head) ∙ ap (λ l. heard c (Act.Word target ∷ l)) (append_none p r (sym tail)).0

  pub states_hears : HearsFirst (with_states x s table)
  states_hears c (Service.Mails q) ready valid p r e hs b more comes = mails_hears c q ready valid p r e hs b more comes
  states_hears c (Service.State target) ready valid p r e hs b more comes = not_none hs b more (sym (word_heard c target p r e) ∙ comes)
