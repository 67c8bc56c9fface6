-- An exchange with states beside it keeps the laws.
use Rattle.std.proofs.Common.{◌≡◌, ◌≢◌, ◌⊎◌, inl, inr, ℕ, suc, ◌+◌, ◌≤◌, true, false, List, [], ◌∷◌, ◌++◌, Option, None, Some, option_map, refl, sym, ap, ◌∙◌, subst, arith}
use Rattle.segment_model.specs.of_exchange_model.Prefix.{IsPrefixOf}
use Rattle.segment_model.specs.of_exchange_model.Exchange.{Exchange, IsLawful, Before, Behind, after, given, plain, emitted}
use Rattle.segment_model.specs.Ends.{Outcome}
use Rattle.state_model.specs.States.{Table}
use Rattle.state_model.specs.Promises.{state_behind}
use Rattle.state_model.specs.Stated.{Stated, IsStated, Act, Service, Counting, acts, mails, all_mails, planned_by, ends_by, with_states}
use Rattle.state_model.proofs.Acts.{acts_same, all_acts, acts_all, all_behind, acts_begin, front_acts, cut_mails, after_acts, plain_given_acts, emitted_given_acts}

module _ {V A M Q R : Type 0} (x : Exchange V A M Q R) (s : Stated V A Q) (table : Table) (stated : IsStated x s) (law : IsLawful x) where
  abbrev both : Exchange (Counting V) (A × ℕ) (Act M) (Service Q) (Outcome R)
  both = with_states x s table

  -- SERVICES BY MAILS

  before_mails : (c : Counting V) (ms : List M) → Before x c.server ms → Before both c (acts ms)
  before_mails c ms b = record {
    app = ap (λ (d : Counting V). (x.app d.server, d.words)) (after_acts x s table c ms) ∙ ap (λ a. (a, c.words)) b.app;
    handled = ap (λ (d : Counting V). x.handled d.server + d.words) (after_acts x s table c ms) ∙ ap (λ n. n + c.words) b.handled;
    emitted = emitted_given_acts x s table c ms ∙ ap acts b.emitted;
  }

  behind_mails : (c : Counting V) (q : Q) (ms : List M) → Behind x c.server q ms → Behind both c (Service.Mails q) (acts ms)
  behind_mails c q ms b = record {
    app = ap (λ (d : Counting V). (x.app d.server, d.words)) (after_acts x s table c ms) ∙ ap (λ a. (a, c.words)) b.app;
    handled = ap (λ (d : Counting V). x.handled d.server + d.words) (after_acts x s table c ms) ∙ (let one = b.handled in omega (arith, one));
    emitted = subst (λ es. IsPrefixOf es (acts (x.emits (x.app c.server) q))) (sym (emitted_given_acts x s table c ms))
        (acts_begin (emitted x.speech.emission (given x.serve c.server ms)) (x.emits (x.app c.server) q) b.emitted);
  }

  part_mails : (c : Counting V) (q : Q) → x.ready c.server ≡ true → x.speech.valid q ≡ true → (p r : List (Act M)) → acts (x.full c.server q) ≡ p ++ r →
      Before both c p ⊎ Behind both c (Service.Mails q) p
  part_mails c q ready valid p r e =
      let front = front_acts (x.full c.server q) p r e in
      elim (law.part c.server q ready valid (mails p) (mails r) (cut_mails (x.full c.server q) p r e)) [
        | inl b ↦ inl (subst (Before both c) front (before_mails c (mails p) b))
        | inr b ↦ inr (subst (Behind both c (Service.Mails q)) front (behind_mails c q (mails p) b))
      ]

  counted_mails : (c : Counting V) (q : Q) → x.ready c.server ≡ true → x.speech.valid q ≡ true → x.speech.handed q ≡ false → (p r : List (Act M)) → acts (x.full c.server q) ≡ p ++ r →
      plain both.speech.emission (given both.serve c p) ≡ plain both.speech.emission (given both.serve c (acts (x.full c.server q))) → Behind both c (Service.Mails q) p
  counted_mails c q ready valid answers p r e same =
      let front = front_acts (x.full c.server q) p r e in
      let equal : acts (plain x.speech.emission (given x.serve c.server (mails p))) ≡ acts (plain x.speech.emission (given x.serve c.server (x.full c.server q))) =
      sym (plain_given_acts x s table c (mails p)) ∙ ap (λ l. plain both.speech.emission (given both.serve c l)) front ∙ same ∙ plain_given_acts x s table c (x.full c.server q) in
      subst (Behind both c (Service.Mails q)) front
      (behind_mails c q (mails p) (law.counted c.server q ready valid answers (mails p) (mails r) (cut_mails (x.full c.server q) p r e) (acts_same _ _ equal)))

  follows_mails : (c : Counting V) (q : Q) → x.ready c.server ≡ true → x.speech.valid q ≡ true → (hs more : List (Act M)) →
      plain both.speech.emission (given both.serve c (acts (x.full c.server q))) ≡ hs ++ more → IsPrefixOf (planned_by x.speech q (all_mails hs)) (acts (x.full c.server q))
  follows_mails c q ready valid hs more e =
      let replies = plain x.speech.emission (given x.serve c.server (x.full c.server q)) in
      let parts : acts replies ≡ hs ++ more = sym (plain_given_acts x s table c (x.full c.server q)) ∙ e in
      let known : all_mails hs ≡ Some (mails hs) = ap all_mails (sym (front_acts replies hs more parts)) ∙ all_acts (mails hs) in
      subst (λ found. IsPrefixOf (planned_by x.speech q found) (acts (x.full c.server q))) (sym known)
      (acts_begin (x.speech.planned q (mails hs)) (x.full c.server q) (law.follows c.server q ready valid (mails hs) (mails more) (cut_mails replies hs more parts)))

  replied_mails : (c : Counting V) (q : Q) → x.ready c.server ≡ true → x.speech.valid q ≡ true → x.speech.handed q ≡ false →
      ends_by x.speech q (all_mails (plain both.speech.emission (given both.serve c (acts (x.full c.server q))))) ≡ Some (Outcome.Replied (x.reply (x.app c.server) q))
  replied_mails c q ready valid answers =
      ap (λ l. ends_by x.speech q (all_mails l)) (plain_given_acts x s table c (x.full c.server q))
      ∙ ap (ends_by x.speech q) (all_acts (plain x.speech.emission (given x.serve c.server (x.full c.server q))))
      ∙ ap (λ found. option_map (λ r. Outcome.Replied r) found) (law.replied c.server q ready valid answers)

  planned_mails : (c : Counting V) (q : Q) → x.ready c.server ≡ true → x.speech.valid q ≡ true →
      planned_by x.speech q (all_mails (plain both.speech.emission (given both.serve c (acts (x.full c.server q))))) ≡ acts (x.full c.server q)
  planned_mails c q ready valid =
      ap (λ l. planned_by x.speech q (all_mails l)) (plain_given_acts x s table c (x.full c.server q))
      ∙ ap (planned_by x.speech q) (all_acts (plain x.speech.emission (given x.serve c.server (x.full c.server q))))
      ∙ ap acts (law.all_planned c.server q ready valid)

  -- nothing behind the end of a service ends it
  nothing_behind : (q : Q) (ms : List M) (r : R) (h : Act M) (more : List (Act M)) → x.speech.ends q ms ≡ Some r → ends_by x.speech q (option_map (λ l. ms ++ l) (all_mails (h ∷ more))) ≡ None
  nothing_behind q ms r (Act.Word target) more e = refl
  nothing_behind q ms r (Act.Mail n) more e = by (all_mails more)
    where
      by : (found : Option (List M)) → ends_by x.speech q (option_map (λ l. ms ++ l) (option_map (λ l. n ∷ l) found)) ≡ None
      by None = refl
      by (Some ns) = ap (λ reply. option_map (λ r. Outcome.Replied r) reply) (law.ended q ms n ns r e)

  ended_mails : (q : Q) (hs : List (Act M)) (h : Act M) (more : List (Act M)) (r : Outcome R) (found : Option (List M)) → all_mails hs ≡ found → ends_by x.speech q found ≡ Some r →
      ends_by x.speech q (all_mails (hs ++ h ∷ more)) ≡ None
  ended_mails q hs h more r None is e = absurd (cc)
  ended_mails q hs h more r (Some ms) is e = by (x.speech.ends q ms) refl e
    where
      by : (reply : Option R) → x.speech.ends q ms ≡ reply → option_map (λ r. Outcome.Replied r) reply ≡ Some r → ends_by x.speech q (all_mails (hs ++ h ∷ more)) ≡ None
      by None was e = absurd (cc)
      by (Some own) was e =
          ap (λ l. ends_by x.speech q (all_mails (l ++ h ∷ more))) (acts_all hs ms is) ∙ ap (ends_by x.speech q) (all_behind ms (h ∷ more)) ∙ nothing_behind q ms own h more was

  -- STATE SERVICES

  behind_word : (c : Counting V) (target : ℕ) → Behind both c (Service.State target) (Act.Word target ∷ [])
  behind_word c target =
      let to = state_behind table (s.state (x.app c.server)) target in
      record {
        app = ap (λ a. (a, suc c.words)) (stated.app to c.server);
        handled = (let same = stated.handled to c.server in omega (arith, same));
        emitted = ([], refl);
      }

  part_word : (c : Counting V) (target : ℕ) (p r : List (Act M)) → Act.Word target ∷ [] ≡ p ++ r → Before both c p ⊎ Behind both c (Service.State target) p
  part_word c target [] r e = inl (record { app = refl; handled = refl; emitted = refl })
  part_word c target (a ∷ []) r e = inr (let same : Act.Word target ≡ a = cc in subst (λ b. Behind both c (Service.State target) (b ∷ [])) same (behind_word c target))
  part_word c target (a ∷ b ∷ p) r e = absurd (cc)

  -- BOTH

  ready_both : (c : Counting V) (q : Service Q) → both.ready c ≡ true → both.speech.valid q ≡ true → both.ready (after both.serve c (both.full c q)) ≡ true
  ready_both c (Service.Mails q) ready valid = ap (λ (d : Counting V). x.ready d.server) (after_acts x s table c (x.full c.server q)) ∙ law.ready c.server q ready valid
  ready_both c (Service.State target) ready valid = stated.ready (state_behind table (s.state (x.app c.server)) target) c.server ∙ ready

  whole_both : (c : Counting V) (q : Service Q) → both.ready c ≡ true → both.speech.valid q ≡ true → Behind both c q (both.full c q)
  whole_both c (Service.Mails q) ready valid = behind_mails c q (x.full c.server q) (law.whole c.server q ready valid)
  whole_both c (Service.State target) ready valid = behind_word c target

  emitted_both : (c : Counting V) (q : Service Q) → both.ready c ≡ true → both.speech.valid q ≡ true → emitted both.speech.emission (given both.serve c (both.full c q)) ≡ both.emits (both.app c) q
  emitted_both c (Service.Mails q) ready valid = emitted_given_acts x s table c (x.full c.server q) ∙ ap acts (law.all_emitted c.server q ready valid)
  emitted_both c (Service.State target) ready valid = refl

  replied_both : (c : Counting V) (q : Service Q) → both.ready c ≡ true → both.speech.valid q ≡ true → both.speech.handed q ≡ false →
      both.speech.ends q (plain both.speech.emission (given both.serve c (both.full c q))) ≡ Some (both.reply (both.app c) q)
  replied_both c (Service.Mails q) ready valid answers = replied_mails c q ready valid answers
  replied_both c (Service.State target) ready valid answers = absurd (cc)

  silent_both : (c : Counting V) (q : Service Q) → both.ready c ≡ true → both.speech.valid q ≡ true → both.speech.handed q ≡ true → plain both.speech.emission (given both.serve c (both.full c q)) ≡ []
  silent_both c (Service.Mails q) ready valid posts = plain_given_acts x s table c (x.full c.server q) ∙ ap acts (law.silent c.server q ready valid posts)
  silent_both c (Service.State target) ready valid posts = refl

  part_both : (c : Counting V) (q : Service Q) → both.ready c ≡ true → both.speech.valid q ≡ true → (p r : List (Act M)) → both.full c q ≡ p ++ r → Before both c p ⊎ Behind both c q p
  part_both c (Service.Mails q) ready valid p r e = part_mails c q ready valid p r e
  part_both c (Service.State target) ready valid p r e = part_word c target p r e

  counted_both : (c : Counting V) (q : Service Q) → both.ready c ≡ true → both.speech.valid q ≡ true → both.speech.handed q ≡ false → (p r : List (Act M)) → both.full c q ≡ p ++ r →
      plain both.speech.emission (given both.serve c p) ≡ plain both.speech.emission (given both.serve c (both.full c q)) → Behind both c q p
  counted_both c (Service.Mails q) ready valid answers p r e same = counted_mails c q ready valid answers p r e same
  counted_both c (Service.State target) ready valid answers p r e same = absurd (cc)

  none_both : (q : Service Q) → both.speech.ends q [] ≡ None
  none_both (Service.Mails q) = ap (λ found. option_map (λ r. Outcome.Replied r) found) (law.none q)
  none_both (Service.State target) = refl

  ended_both : (q : Service Q) (hs : List (Act M)) (h : Act M) (more : List (Act M)) (r : Outcome R) → both.speech.ends q hs ≡ Some r → both.speech.ends q (hs ++ h ∷ more) ≡ None
  ended_both (Service.Mails q) hs h more r e = ended_mails q hs h more r (all_mails hs) refl e
  ended_both (Service.State target) hs h more r e = refl

  follows_both : (c : Counting V) (q : Service Q) → both.ready c ≡ true → both.speech.valid q ≡ true → (hs more : List (Act M)) →
      plain both.speech.emission (given both.serve c (both.full c q)) ≡ hs ++ more → IsPrefixOf (both.speech.planned q hs) (both.full c q)
  follows_both c (Service.Mails q) ready valid hs more e = follows_mails c q ready valid hs more e
  follows_both c (Service.State target) ready valid hs more e = ([], refl)

  planned_both : (c : Counting V) (q : Service Q) → both.ready c ≡ true → both.speech.valid q ≡ true → both.speech.planned q (plain both.speech.emission (given both.serve c (both.full c q))) ≡ both.full c q
  planned_both c (Service.Mails q) ready valid = planned_mails c q ready valid
  planned_both c (Service.State target) ready valid = refl

  unanswered_both : (q : Service Q) (hs : List (Act M)) → both.speech.handed q ≡ true → both.speech.ends q hs ≡ None
  unanswered_both (Service.Mails q) hs posts = by (all_mails hs)
    where
      by : (found : Option (List M)) → ends_by x.speech q found ≡ None
      by None = refl
      by (Some ms) = ap (λ found. option_map (λ r. Outcome.Replied r) found) (law.unanswered q ms posts)
  unanswered_both (Service.State target) hs posts = refl

  some_both : (c : Counting V) (q : Service Q) → both.ready c ≡ true → both.speech.valid q ≡ true → both.speech.handed q ≡ true → both.full c q ≢ []
  some_both c (Service.Mails q) ready valid posts = λ none. law.some c.server q ready valid posts (acts_same (x.full c.server q) [] none)
  some_both c (Service.State target) ready valid posts = λ none. absurd (cc)

  grows_both : (c : Counting V) (a : Act M) → both.handled c ≤ both.handled (both.serve c a).0
  grows_both c (Act.Mail m) = let more = law.grows c.server m in omega (arith, more)
  grows_both c (Act.Word target) = let same = stated.handled (state_behind table (s.state (x.app c.server)) target) c.server in omega (arith, same)

  pub stated_law : IsLawful (with_states x s table)
  stated_law = record {
    ready = ready_both;
    whole = whole_both;
    all_emitted = emitted_both;
    replied = replied_both;
    silent = silent_both;
    part = part_both;
    counted = counted_both;
    none = none_both;
    ended = ended_both;
    follows = follows_both;
    all_planned = planned_both;
    unanswered = unanswered_both;
    some = some_both;
    grows = grows_both;
  }
