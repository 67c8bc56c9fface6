-- One mail of a service after the other: what a server has done when a service is over, and that it has done nothing before its last mail.
use Rattle.std.proofs.Common.{◌≡◌, ◌⊎◌, inl, inr, ℕ, suc, ◌≤◌, true, List, [], ◌∷◌, ◌++◌, length, Option, Some, refl, ap, ◌∙◌, subst, append-nil, arith}
use Rattle.exchange_model.specs.Areas.{Areas}
use Rattle.exchange_model.specs.Exchange.{Before, Behind, after, given, plain, emitted}
use Rattle.exchange_model.specs.Dialogue.{next, again, stop, sent, turn_at}
use Rattle.exchange_model.proofs.Turns.{sent_onward, sent_repeated, sent_over, sent_waits}
use Rattle.protocol_models.specs.FoeMails.{FoeMail, is_emission}
use Rattle.protocol_models.specs.Files.{Files}
use Rattle.protocol_models.specs.FoeServer.{Transfer, Outcome, Server, foe_outcome, goes_on, silent, behind, serve}
use Rattle.protocol_models.specs.FoeMeaning.{Meaning, Service, Reply, meaning_of}
use Rattle.protocol_models.specs.FoeClient.{decide, turn_behind, ends}
use Rattle.protocol_models.specs.FoeModel.{foe_exchange}

-- all mails of an FoE server are replies
pub all_plain : (ms : List FoeMail) → plain is_emission ms ≡ ms
all_plain [] = refl
all_plain (m ∷ ms) = ap (λ l. m ∷ l) (all_plain ms)

pub none_emitted : (ms : List FoeMail) → emitted is_emission ms ≡ []
none_emitted [] = refl
none_emitted (m ∷ ms) = none_emitted ms

module _ {S : Type 0} (o : Files S) (areas : Areas) where
  abbrev pub step : Server S → FoeMail → Server S × List FoeMail
  step v m = serve o areas.out areas.back v m

  abbrev pub foe_takes : Server S → FoeMail → Outcome S
  foe_takes v m = foe_outcome o areas.out areas.back v.app v.transfer m

  -- the mails that the client sends of these
  abbrev pub talk : ℕ → Server S → List FoeMail → List FoeMail
  talk fuel v ms = sent step is_emission (decide areas.out) fuel v ms

  -- these mails carry out nothing
  pub record Still (v : Server S) (ms : List FoeMail) : Type 0 where
    pub app : (after step v ms).app ≡ v.app
    pub handled : (after step v ms).handled ≡ v.handled

  -- a service carried out by these mails, by the last of them, and its reply; there are at most so many
  pub record Carried (v : Server S) (means : Meaning S) (reading : List FoeMail → Option Reply) (most : ℕ) (ms : List FoeMail) : Type 0 where
    pub app : (after step v ms).app ≡ means.app
    pub handled : (after step v ms).handled ≡ suc v.handled
    pub replied : reading (given step v ms) ≡ Some means.reply
    pub few : length ms ≤ most
    pub late : (p : List FoeMail) (h : FoeMail) (r : List FoeMail) → ms ≡ p ++ h ∷ r → Still v p

  pub still_none : (v : Server S) → Still v []
  still_none v = record { app = refl; handled = refl }

  -- the one mail of a service, which it answers by a
  pub carried_one : (v : Server S) (means : Meaning S) (reading : List FoeMail → Option Reply) (most : ℕ) (m a : FoeMail) (x : Outcome S) → foe_takes v m ≡ x → 1 ≤ most →
      x.counts ≡ true → x.answers ≡ a ∷ [] → x.app ≡ means.app → reading (a ∷ []) ≡ Some means.reply → Carried v means reading most (m ∷ [])
  carried_one v means reading most m a x is some counts answers app reply = record {
    app = ap (λ y. (behind v.handled y).0.app) is ∙ app;
    handled = ap (λ y. (behind v.handled y).0.handled) is ∙ rw counts refl;
    replied = ap reading (append-nil (step v m).1 ∙ ap (λ y. (behind v.handled y).1) is ∙ answers) ∙ reply;
    few = omega (arith, some);
    late = none_late;
  }
    where
      none_late : (p : List FoeMail) (h : FoeMail) (r : List FoeMail) → m ∷ [] ≡ p ++ h ∷ r → Still v p
      none_late [] h r e = still_none v
      none_late (k ∷ []) h r e = absurd (cc)
      none_late (k ∷ l ∷ p) h r e = absurd (cc)

  -- the server behind a mail with which a service goes on
  abbrev pub gone_on : Server S → Transfer → Server S
  gone_on v transfer = record { app = v.app; handled = v.handled; transfer = transfer }

  pub still_more : (v : Server S) (m a : FoeMail) (transfer : Transfer) → foe_takes v m ≡ goes_on v.app transfer a → (p : List FoeMail) → Still (gone_on v transfer) p → Still v (m ∷ p)
  still_more v m a transfer is p still = record {
    app = ap (λ y. (after step (behind v.handled y).0 p).app) is ∙ still.app;
    handled = ap (λ y. (after step (behind v.handled y).0 p).handled) is ∙ still.handled;
  }

  -- a mail with which a service goes on, which it answers by a
  pub carried_more : (v : Server S) (means : Meaning S) (reading later : List FoeMail → Option Reply) (most fewer : ℕ) (m a : FoeMail) (transfer : Transfer) →
      foe_takes v m ≡ goes_on v.app transfer a → suc fewer ≤ most → ((hs : List FoeMail) → reading (a ∷ hs) ≡ later hs) →
      (ms : List FoeMail) → Carried (gone_on v transfer) means later fewer ms → Carried v means reading most (m ∷ ms)
  carried_more v means reading later most fewer m a transfer is less reads ms rest = record {
    app = ap (λ y. (after step (behind v.handled y).0 ms).app) is ∙ rest.app;
    handled = ap (λ y. (after step (behind v.handled y).0 ms).handled) is ∙ rest.handled;
    replied = ap (λ y. reading ((behind v.handled y).1 ++ given step (behind v.handled y).0 ms)) is ∙ reads (given step (gone_on v transfer) ms) ∙ rest.replied;
    few = omega (arith, less, rest.few);
    late = more_late;
  }
    where
      more_late : (p : List FoeMail) (h : FoeMail) (r : List FoeMail) → m ∷ ms ≡ p ++ h ∷ r → Still v p
      more_late [] h r e = still_none v
      more_late (k ∷ p) h r e =
          let first : m ≡ k = cc in
          let others : ms ≡ p ++ h ∷ r = cc in
          subst (λ k. Still v (k ∷ p)) first (still_more v m a transfer is p (rest.late p h r others))

  -- how the client goes on behind the one answer to its mail
  answer_turn : (v : Server S) (m a : FoeMail) (x : Outcome S) → foe_takes v m ≡ x → x.answers ≡ a ∷ [] →
      turn_at (decide areas.out) m [] (plain is_emission (step v m).1) ≡ Some (turn_behind areas.out m a)
  answer_turn v m a x is answers =
      ap (turn_at (decide areas.out) m []) (ap (λ y. plain is_emission (behind v.handled y).1) is ∙ all_plain x.answers ∙ answers)

  pub talk_onward : (turns : ℕ) (v : Server S) (m a : FoeMail) (x : Outcome S) (ms : List FoeMail) → foe_takes v m ≡ x → x.answers ≡ a ∷ [] →
      turn_behind areas.out m a ≡ next → talk (suc turns) v (m ∷ ms) ≡ m ∷ talk turns (behind v.handled x).0 ms
  talk_onward turns v m a x ms is answers onward =
      sent_onward step is_emission (decide areas.out) turns v m ms (answer_turn v m a x is answers ∙ ap Some onward)
      ∙ ap (λ y. m ∷ talk turns (behind v.handled y).0 ms) is

  pub talk_again : (turns : ℕ) (v : Server S) (m a : FoeMail) (x : Outcome S) (ms : List FoeMail) → foe_takes v m ≡ x → x.answers ≡ a ∷ [] →
      turn_behind areas.out m a ≡ again → talk (suc turns) v (m ∷ ms) ≡ m ∷ talk turns (behind v.handled x).0 (m ∷ ms)
  talk_again turns v m a x ms is answers repeated =
      sent_repeated step is_emission (decide areas.out) turns v m ms (answer_turn v m a x is answers ∙ ap Some repeated)
      ∙ ap (λ y. m ∷ talk turns (behind v.handled y).0 (m ∷ ms)) is

  pub talk_over : (turns : ℕ) (v : Server S) (m a : FoeMail) (x : Outcome S) (ms : List FoeMail) → foe_takes v m ≡ x → x.answers ≡ a ∷ [] →
      turn_behind areas.out m a ≡ stop → talk (suc turns) v (m ∷ ms) ≡ m ∷ []
  talk_over turns v m a x ms is answers over =
      sent_over step is_emission (decide areas.out) turns v m ms (answer_turn v m a x is answers ∙ ap Some over)

  -- a mail without an answer
  pub talk_waits : (turns : ℕ) (v : Server S) (m : FoeMail) (app : S) (transfer : Transfer) (ms : List FoeMail) → foe_takes v m ≡ silent app transfer → talk (suc turns) v (m ∷ ms) ≡ m ∷ []
  talk_waits turns v m app transfer ms is = sent_waits step is_emission (decide areas.out) turns v m ms
      (ap (λ y. turn_at (decide areas.out) m [] (plain is_emission (behind v.handled y).1)) is)

  -- what a service owes for the mails that its client sends to this server
  pub record Kept (v : Server S) (q : Service) (most : ℕ) (ms : List FoeMail) : Type 0 where
    pub few : length ms ≤ most
    pub whole : Behind (foe_exchange o areas) v q ms
    pub replied : ends areas q (given step v ms) ≡ Some (meaning_of o v.app q).reply
    pub part : (p r : List FoeMail) → ms ≡ p ++ r → Before (foe_exchange o areas) v p ⊎ Behind (foe_exchange o areas) v q p

  pub before : (v : Server S) (p : List FoeMail) → Still v p → Before (foe_exchange o areas) v p
  before v p still = record { app = still.app; handled = still.handled; emitted = none_emitted (given step v p) }

  carried_part : (v : Server S) (q : Service) (ms : List FoeMail) → Behind (foe_exchange o areas) v q ms →
      ((p : List FoeMail) (h : FoeMail) (r : List FoeMail) → ms ≡ p ++ h ∷ r → Still v p) → (p r : List FoeMail) → ms ≡ p ++ r →
      Before (foe_exchange o areas) v p ⊎ Behind (foe_exchange o areas) v q p
  carried_part v q ms whole late p [] e = inr (subst (Behind (foe_exchange o areas) v q) (e ∙ append-nil p) whole)
  carried_part v q ms whole late p (h ∷ r) e = inl (before v p (late p h r e))

  pub kept_from_carried : (v : Server S) (q : Service) (most : ℕ) (ms : List FoeMail) → Carried v (meaning_of o v.app q) (ends areas q) most ms → Kept v q most ms
  kept_from_carried v q most ms carried =
      let whole : Behind (foe_exchange o areas) v q ms = record { app = carried.app; handled = carried.handled; emitted = ([], append-nil _ ∙ none_emitted (given step v ms)) } in
      record { few = carried.few; whole = whole; replied = carried.replied; part = carried_part v q ms whole carried.late }
