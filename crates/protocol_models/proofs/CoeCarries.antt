-- One mail of a service after the other: what a server has done when a service is over, and that it has done nothing before its last mail.
use Rattle.std.proofs.Common.{◌≡◌, ◌⊎◌, inl, inr, ℕ, suc, Bool, true, false, List, [], ◌∷◌, ◌++◌, Option, Some, refl, ap, ◌∙◌, subst, append-nil, length, ◌≤◌}
use Rattle.exchange_model.specs.Areas.{Areas}
use Rattle.exchange_model.specs.Exchange.{Before, Behind, after, given, plain, emitted}
use Rattle.exchange_model.specs.Dialogue.{next, stop, sent, turn_at}
use Rattle.exchange_model.proofs.Turns.{sent_onward, sent_over}
use Rattle.protocol_models.specs.CoeMails.{CoeMail, is_emission}
use Rattle.protocol_models.specs.Tables.{Tables}
use Rattle.protocol_models.specs.CoeServer.{Transfer, Outcome, Server, coe_outcome, goes_on, issued, behind, serve}
use Rattle.protocol_models.specs.CoeMeaning.{Meaning, Service, Reply, meaning_of}
use Rattle.protocol_models.specs.CoeClient.{decide, ends}
use Rattle.protocol_models.specs.CoeModel.{coe_exchange}
use Rattle.protocol_models.proofs.Basics.{answer_plain, answer_emitted}

module _ {S : Type 0} (o : Tables S) (eoe : Bool) (areas : Areas) where
  -- the mails that the client sends of these
  abbrev pub talk : ℕ → Server S → List CoeMail → List CoeMail
  talk fuel v ms = sent (serve o eoe areas.back) is_emission decide fuel v ms

  -- a service carried out by these mails, by the last of them, and its reply
  pub record Carried (v : Server S) (means : Meaning S) (reading : List CoeMail → Option Reply) (ms : List CoeMail) : Type 0 where
    pub app : (after (serve o eoe areas.back) v ms).app ≡ means.app
    pub handled : (after (serve o eoe areas.back) v ms).handled ≡ suc v.handled
    pub emits : emitted is_emission (given (serve o eoe areas.back) v ms) ≡ means.emits
    pub replied : reading (plain is_emission (given (serve o eoe areas.back) v ms)) ≡ Some means.reply
    pub late : (p : List CoeMail) (h : CoeMail) (r : List CoeMail) → ms ≡ p ++ h ∷ r → Before (coe_exchange o eoe areas) v p

  -- mails that carry out nothing
  pub before_none : (v : Server S) → Before (coe_exchange o eoe areas) v []
  before_none v = record { app = refl; handled = refl; emitted = refl }

  -- the one mail of a service, which it answers by a
  pub carried_one : (v : Server S) (means : Meaning S) (reading : List CoeMail → Option Reply) (m a : CoeMail) (x : Outcome S) → coe_outcome o eoe areas.back v.app v.transfer m ≡ x →
      x.counts ≡ true → x.answers ≡ a ∷ [] → is_emission a ≡ false → (issued o x.app x.emission).0 ≡ means.app → (issued o x.app x.emission).1 ≡ means.emits →
      reading (a ∷ []) ≡ Some means.reply → Carried v means reading (m ∷ [])
  carried_one v means reading m a x is counts answers calm app emits reply =
      let all : (serve o eoe areas.back v m).1 ++ [] ≡ a ∷ (issued o x.app x.emission).1 =
      append-nil (serve o eoe areas.back v m).1 ∙ ap (λ y. (behind o v.handled y).1) is ∙ ap (λ l. l ++ (issued o x.app x.emission).1) answers in
      record {
        app = ap (λ y. (behind o v.handled y).0.app) is ∙ app;
        handled = ap (λ y. (behind o v.handled y).0.handled) is ∙ rw counts refl;
        emits = ap (emitted is_emission) all ∙ answer_emitted o x.app x.emission a calm ∙ emits;
        replied = ap (λ l. reading (plain is_emission l)) all ∙ ap reading (answer_plain o x.app x.emission a calm) ∙ reply;
        late = none_late;
      }
    where
      none_late : (p : List CoeMail) (h : CoeMail) (r : List CoeMail) → m ∷ [] ≡ p ++ h ∷ r → Before (coe_exchange o eoe areas) v p
      none_late [] h r e = before_none v
      none_late (k ∷ []) h r e = absurd (cc)
      none_late (k ∷ l ∷ p) h r e = absurd (cc)

  -- the server behind a mail with which a service goes on
  abbrev pub gone_on : Server S → Transfer → Server S
  gone_on v transfer = record { app = v.app; handled = v.handled; transfer = transfer }

  pub before_more : (v : Server S) (m a : CoeMail) (transfer : Transfer) → coe_outcome o eoe areas.back v.app v.transfer m ≡ goes_on v.app transfer a → is_emission a ≡ false →
      (p : List CoeMail) → Before (coe_exchange o eoe areas) (gone_on v transfer) p → Before (coe_exchange o eoe areas) v (m ∷ p)
  before_more v m a transfer is calm p before =
      let one : serve o eoe areas.back v m ≡ (gone_on v transfer, a ∷ []) = ap (behind o v.handled) is in
      record {
        app = ap (λ y. (after (serve o eoe areas.back) y.0 p).app) one ∙ before.app;
        handled = ap (λ y. (after (serve o eoe areas.back) y.0 p).handled) one ∙ before.handled;
        emitted = ap (λ y. emitted is_emission (y.1 ++ given (serve o eoe areas.back) y.0 p)) one ∙ rw calm before.emitted;
      }

  -- every first part of mails of which each first part carries out nothing
  pub still_none : (v : Server S) (p r : List CoeMail) → [] ≡ p ++ r → Before (coe_exchange o eoe areas) v p
  still_none v [] r e = before_none v
  still_none v (k ∷ p) r e = absurd (cc)

  pub still_more : (v : Server S) (m a : CoeMail) (transfer : Transfer) → coe_outcome o eoe areas.back v.app v.transfer m ≡ goes_on v.app transfer a → is_emission a ≡ false →
      (others : List CoeMail) → ((p r : List CoeMail) → others ≡ p ++ r → Before (coe_exchange o eoe areas) (gone_on v transfer) p) →
      (p r : List CoeMail) → m ∷ others ≡ p ++ r → Before (coe_exchange o eoe areas) v p
  still_more v m a transfer is calm others still [] r e = before_none v
  still_more v m a transfer is calm others still (k ∷ p) r e =
      let first : m ≡ k = cc in
      let rest : others ≡ p ++ r = cc in
      subst (λ k. Before (coe_exchange o eoe areas) v (k ∷ p)) first (before_more v m a transfer is calm p (still p r rest))

  -- a mail with which a service goes on, which it answers by a
  pub carried_more : (v : Server S) (means : Meaning S) (reading later : List CoeMail → Option Reply) (m a : CoeMail) (transfer : Transfer) →
      coe_outcome o eoe areas.back v.app v.transfer m ≡ goes_on v.app transfer a → is_emission a ≡ false → ((hs : List CoeMail) → reading (a ∷ hs) ≡ later hs) →
      (ms : List CoeMail) → Carried (gone_on v transfer) means later ms → Carried v means reading (m ∷ ms)
  carried_more v means reading later m a transfer is calm reads ms rest =
      let one : serve o eoe areas.back v m ≡ (gone_on v transfer, a ∷ []) = ap (behind o v.handled) is in
      record {
        app = ap (λ y. (after (serve o eoe areas.back) y.0 ms).app) one ∙ rest.app;
        handled = ap (λ y. (after (serve o eoe areas.back) y.0 ms).handled) one ∙ rest.handled;
        emits = ap (λ y. emitted is_emission (y.1 ++ given (serve o eoe areas.back) y.0 ms)) one ∙ rw calm rest.emits;
        replied = ap (λ y. reading (plain is_emission (y.1 ++ given (serve o eoe areas.back) y.0 ms))) one ∙ rw calm (reads (plain is_emission (given (serve o eoe areas.back) (gone_on v transfer) ms))) ∙ rest.replied;
        late = more_late;
      }
    where
      more_late : (p : List CoeMail) (h : CoeMail) (r : List CoeMail) → m ∷ ms ≡ p ++ h ∷ r → Before (coe_exchange o eoe areas) v p
      more_late [] h r e = before_none v
      more_late (k ∷ p) h r e =
          let first : m ≡ k = cc in
          let others : ms ≡ p ++ h ∷ r = cc in
          subst (λ k. Before (coe_exchange o eoe areas) v (k ∷ p)) first (before_more v m a transfer is calm p (rest.late p h r others))

  -- how the client goes on behind the one answer to its mail
  answer_turn : (v : Server S) (m a : CoeMail) (x : Outcome S) → coe_outcome o eoe areas.back v.app v.transfer m ≡ x → x.answers ≡ a ∷ [] → is_emission a ≡ false →
      turn_at decide m [] (plain is_emission (serve o eoe areas.back v m).1) ≡ decide m (a ∷ [])
  answer_turn v m a x is answers calm = ap (turn_at decide m [])
      (ap (λ y. plain is_emission (behind o v.handled y).1) is ∙ ap (λ l. plain is_emission (l ++ (issued o x.app x.emission).1)) answers ∙ answer_plain o x.app x.emission a calm)

  pub talk_onward : (turns : ℕ) (v : Server S) (m a : CoeMail) (x : Outcome S) (ms : List CoeMail) → coe_outcome o eoe areas.back v.app v.transfer m ≡ x → x.answers ≡ a ∷ [] → is_emission a ≡ false →
      decide m (a ∷ []) ≡ Some next → talk (suc turns) v (m ∷ ms) ≡ m ∷ talk turns (behind o v.handled x).0 ms
  talk_onward turns v m a x ms is answers calm onward =
      sent_onward (serve o eoe areas.back) is_emission decide turns v m ms (answer_turn v m a x is answers calm ∙ onward)
      ∙ ap (λ y. m ∷ talk turns (behind o v.handled y).0 ms) is

  pub talk_over : (turns : ℕ) (v : Server S) (m a : CoeMail) (x : Outcome S) (ms : List CoeMail) → coe_outcome o eoe areas.back v.app v.transfer m ≡ x → x.answers ≡ a ∷ [] → is_emission a ≡ false →
      decide m (a ∷ []) ≡ Some stop → talk (suc turns) v (m ∷ ms) ≡ m ∷ []
  talk_over turns v m a x ms is answers calm over =
      sent_over (serve o eoe areas.back) is_emission decide turns v m ms (answer_turn v m a x is answers calm ∙ over)

  -- what a service owes for the mails that its client sends to this server
  pub record Kept (v : Server S) (q : Service) (most : ℕ) (ms : List CoeMail) : Type 0 where
    pub few : length ms ≤ most
    pub whole : Behind (coe_exchange o eoe areas) v q ms
    pub all_emitted : emitted is_emission (given (serve o eoe areas.back) v ms) ≡ (meaning_of o eoe v.app q).emits
    pub replied : ends areas.out q (plain is_emission (given (serve o eoe areas.back) v ms)) ≡ Some (meaning_of o eoe v.app q).reply
    pub part : (p r : List CoeMail) → ms ≡ p ++ r → Before (coe_exchange o eoe areas) v p ⊎ Behind (coe_exchange o eoe areas) v q p

  carried_part : (v : Server S) (q : Service) (ms : List CoeMail) → Behind (coe_exchange o eoe areas) v q ms →
      ((p : List CoeMail) (h : CoeMail) (r : List CoeMail) → ms ≡ p ++ h ∷ r → Before (coe_exchange o eoe areas) v p) → (p r : List CoeMail) → ms ≡ p ++ r →
      Before (coe_exchange o eoe areas) v p ⊎ Behind (coe_exchange o eoe areas) v q p
  carried_part v q ms whole late p [] e = inr (subst (Behind (coe_exchange o eoe areas) v q) (e ∙ append-nil p) whole)
  carried_part v q ms whole late p (h ∷ r) e = inl (late p h r e)

  pub kept_from_carried : (v : Server S) (q : Service) (most : ℕ) (ms : List CoeMail) → length ms ≤ most → Carried v (meaning_of o eoe v.app q) (ends areas.out q) ms → Kept v q most ms
  kept_from_carried v q most ms few carried =
      let whole : Behind (coe_exchange o eoe areas) v q ms = record { app = carried.app; handled = carried.handled; emitted = ([], append-nil _ ∙ carried.emits) } in
      record { few = few; whole = whole; all_emitted = carried.emits; replied = carried.replied; part = carried_part v q ms whole carried.late }
