-- WHAT THE MASTER OF A SERVING HAS of an epoch at each moment: each answer is its server's own, of a row that was carried out; and what was heard that its slave
-- sent of itself are the first mails that those rows emit.
use Rattle.std.proofs.Common.{◌≡◌, ◌<◌, ℕ, zero, suc, Bool, true, false, Option, None, Some, option_map, List, [], ◌∷◌, ◌++◌, length, map, take, refl, ap, sym, ◌∙◌, subst}
use Rattle.std.proofs.lemmas.List.{take-map}
use Rattle.served_places.specs.of_exchange_model.Exchange.{emitted}
use Rattle.served_places.specs.of_exchange_model.Prefix.{IsPrefixOf}
use Rattle.served_places.specs.of_exchange_model.Rows.{heard_all}
use Rattle.run_work.specs.of_life_counts.Epochs.{IsSpeaker, IsSeen, era_named, seeing, seeing_states}
use Rattle.run_work.specs.of_life_counts.Foreseen.{AllRight}
use Rattle.run_work.specs.of_life_counts.Seen.{change_seen, outcome_seen, service_seen}
use Rattle.served_places.specs.of_life_model.Eras.{era_frames}
use Rattle.served_places.specs.of_life_model.Lives.{Spot, Era}
use Rattle.served_places.specs.of_link_mails.Body.{Body}
use Rattle.run_work.specs.of_master_duty.Reply.{Reply}
use Rattle.run_work.specs.of_master_hand.Spoken.{Asked, emission}
use Rattle.run_work.specs.Sessions.{Wanted, named_wanted}
use Rattle.served_places.specs.of_segment_model.Record.{Frame, heard}
use Rattle.served_places.specs.of_segment_model.Seats.{rows_of}
use Rattle.served_places.specs.of_segment_model.Slaves.{Registers, Slave}
use Rattle.served_rings.proofs.Emitted.{emits_named, sent_is}
use Rattle.served_rings.proofs.Ended as Ended
use Rattle.served_rings.proofs.Ended.{all_replies}
use Rattle.served_rings.proofs.Mails.{AllNamed, acts_named, mailer, named_take, services_named}
use Rattle.served_rings.proofs.Rested.{RowHere, answer_same, mail, replies_named, same, seen_row, unhanded}
use Rattle.served_rings.proofs.RowsSeen.{rows_seen}
use Rattle.served_rings.proofs.Seen.{promised, valid}
use Rattle.served_rings.proofs.SeenRests.{answered, frames}
use Rattle.served_rings.specs.Served.{AreReplies, IsReplyOf, emitted_behind}
use Rattle.served_rings.specs.Speakers.{seer_of, spoken, table_of, whole_states}
use Rattle.run_work.proofs.of_serving_model.TaggedLaw.{untag-append}
use Rattle.served_places.specs.of_serving_model.Tagged.{asked_exec, untag}
use Rattle.run_work.specs.of_slave_model.Profile.{Profile}
use Rattle.run_work.specs.of_slave_model.Server as SlaveReply
use Rattle.run_work.specs.of_slave_parts.Parts.{Server, parts}
use Rattle.run_work.specs.of_slave_parts.Served.{product_whole}
use Rattle.served_places.specs.of_state_model.Families.{InState}
use Rattle.served_places.specs.of_state_model.Stated.{Service, service_valid}
use Rattle.served_places.specs.of_state_model.Promises.{state_behind}
use Rattle.served_places.specs.of_state_model.Accounts.{Change}
use Rattle.served_places.specs.of_state_model.Promise.{duty_in, services_in}

module _ (p : Profile) (boot : Bool) (station : ℕ) where
  abbrev replies_there : ℕ → ℕ → InState Server × ℕ → List (Service Wanted) → List (RowHere p) → List (Change (Option SlaveReply.Reply)) → Type 0
  replies_there count number a qs rs cs = Ended.AreReplies (seeing (mailer p)) (seeing_states (mailer p)) (table_of boot station) count number a qs rs cs

  reply_named : (count number : ℕ) (v : InState Server) (q : Wanted) (r : RowHere p) → service_valid (seeing (mailer p)).speech (Service.Mails q) ≡ true →
      Ended.IsReplyOf (seeing (mailer p)) (seeing_states (mailer p)) (table_of boot station) count number v q r → IsReplyOf p boot station count number v (named_wanted q) (seen_row p r)
  reply_named count number v q r valid is = (ap named_wanted is.0, λ replies reply frame answer. go replies reply frame r.answer refl answer)
    where
      go : (spoken p).speech.handed (named_wanted q) ≡ false → (reply : Reply) (frame : ℕ) (a : Option (Option SlaveReply.Reply × ℕ)) → r.answer ≡ a → (let named : Option (Option SlaveReply.Reply × ℕ) = option_map (λ k. (same p k.0, k.1)) a in named) ≡ Some (reply, frame) →
          (reply ≡ (spoken p).reply v (named_wanted q)) × (number < count)
      go replies reply frame None here answer = absurd (let no : ◌≡◌ {A = Option (Reply × ℕ)} None (Some (reply, frame)) = answer in cc)
      go replies reply frame (Some b) here answer =
          let both : ◌≡◌ {A = Reply × ℕ} (b.0, b.1) (reply, frame) = cc in
          let one = is.1 (unhanded p q replies) b.0 b.1 here in
          (sym (ap (λ (k : Reply × ℕ). k.0) both) ∙ one.0 ∙ replies_named p v q valid, one.1)

  -- SO EACH ANSWER IS by the names of the services
  all_named : (count number : ℕ) (v : InState Server) (k : ℕ) (qs : List (Service Wanted)) (rs : List (RowHere p)) (cs : List (Change (Option SlaveReply.Reply))) → AllNamed p qs → replies_there count number (v, k) qs rs cs →
      AreReplies p boot station count number v (map (λ q. service_seen named_wanted q) qs) (map (λ r. seen_row p r) rs) (map (λ c. change_seen (mail p) named_wanted (same p) c) cs)
  all_named count number v k [] [] [] known all = tt
  all_named count number v k [] [] (c ∷ cs) known all = absurd all
  all_named count number v k [] (r ∷ rs) cs known all = absurd all
  all_named count number v k (Service.Mails q ∷ qs) [] cs known all = absurd all
  all_named count number v k (Service.Mails q ∷ qs) (r ∷ rs) cs known all = (
    reply_named count number v q r known.0 all.0,
    subst (λ u. AreReplies p boot station count (suc number) u (map (λ q. service_seen named_wanted q) qs) (map (λ r. seen_row p r) rs) (map (λ c. change_seen (mail p) named_wanted (same p) c) cs)) (acts_named p v q known.0)
        (all_named count (suc number) (asked_exec (product_whole parts p) v q) k qs rs cs known.1 all.1),
  )
  all_named count number v k (Service.State target ∷ qs) rs [] known all = all_named count (suc number) (record v { state = state_behind (table_of boot station) v.state target }) (suc k) qs rs [] known.1 all
  all_named count number v k (Service.State target ∷ qs) rs (c ∷ cs) known all = (
    all.0,
    ap (outcome_seen (same p)) all.1 ∙ answer_same p (table_of boot station v.state target),
    all.2,
    all_named count (suc number) (record v { state = state_behind (table_of boot station) v.state target }) (suc k) qs rs cs known.1 all.3,
  )

  -- the first of services that were foreseen right were so too
  right_take : (n : ℕ) (v : InState Server) (qs : List (Service Wanted)) → AllRight (product_whole parts p) whole_states (table_of boot station) v qs → AllRight (product_whole parts p) whole_states (table_of boot station) v (take n qs)
  right_take zero v qs right = tt
  right_take (suc n) v [] right = tt
  right_take (suc n) v (Service.Mails q ∷ qs) right = (right.0, right_take n (asked_exec (product_whole parts p) v q) qs right.1)
  right_take (suc n) v (Service.State target ∷ qs) right = right_take n (record v { state = state_behind (table_of boot station) v.state target }) qs right

module _ (p : Profile) (k : IsSpeaker (mailer p)) (boot : Bool) (spot : Spot) (opened : ℕ) (v : InState Server) (r : Registers) (fs : List (Frame Body)) (counts : Bool) (e : Era Body Asked Reply) (n : Slave (InState Server) Body)
    (i : IsSeen (mailer p) (seer_of p boot) (table_of boot) spot opened v r fs counts e n) where
  -- so many of its services were carried out
  abbrev pub many : ℕ
  many = (promised (mailer p) k (seer_of p boot) (table_of boot) spot opened v r fs counts e n i).count

  abbrev services : List (Service Wanted)
  services = services_in i.era.account.started

  abbrev named : Era Body Asked Reply
  named = era_named (mailer p) i.era

  all_valid : AllNamed p services
  all_valid = valid (mailer p) k (seer_of p boot) (table_of boot) spot opened v r fs counts e n i

  replies_here : AreReplies p boot spot.station many 0 v (services_in named.account.started) (rows_of named.side) named.account.over
  replies_here =
      let did = promised (mailer p) k (seer_of p boot) (table_of boot) spot opened v r fs counts e n i in
      let has = answered (mailer p) k (seer_of p boot) (table_of boot) spot opened v r fs counts e n i in
      let there = frames (mailer p) k (seer_of p boot) (table_of boot) spot opened v r fs counts e n i in
      let rows = rows_of i.era.side in
      let over = i.era.account.over in
      subst (λ l. AreReplies p boot spot.station many 0 v (services_in named.account.started) l named.account.over) (sym (rows_seen (mail p) named_wanted (same p) i.era.side))
      (subst (λ qs. AreReplies p boot spot.station many 0 v qs (map (λ h. seen_row p h) rows) named.account.over) (sym (services_named p i.era.account.started))
      (all_named p boot spot.station many 0 v 0 services rows over all_valid
      (all_replies (seeing (mailer p)) (seeing_states (mailer p)) (table_of boot spot.station) (λ m. false) spot.station there many i.era.account.started 0 (v, 0) rows over (duty_in i.era.account.hand) has.mails has.states has.answers has.over did.replied did.in_done)))

  -- EACH ANSWER IS ITS SERVER'S OWN
  pub replies_so : AreReplies p boot spot.station many 0 v (services_in e.account.started) (rows_of e.side) e.account.over
  replies_so = subst (λ (d : Era Body Asked Reply). AreReplies p boot spot.station many 0 v (services_in d.account.started) (rows_of d.side) d.account.over) i.named replies_here

  -- WHAT WAS HEARD that it sent of itself
  pub emissions_so : heard spot.station (era_frames spot opened (length fs) fs) ≡ heard_all (rows_of e.side) → IsPrefixOf (emitted emission (heard_all (rows_of e.side))) (emitted_behind p boot spot.station v (take many (services_in e.account.started)))
  emissions_so in_rows =
      let first = (promised (mailer p) k (seer_of p boot) (table_of boot) spot opened v r fs counts e n i).emissions in
      let rows_is = ap (emitted emission) (sym in_rows) ∙ sent_is p k boot spot opened v r fs counts e n i in
      let names_is : map (λ q. service_seen named_wanted q) services ≡ services_in e.account.started = sym (services_named p i.era.account.started) ∙ ap (λ (d : Era Body Asked Reply). services_in d.account.started) i.named in (
        untag first.0,
        ap (λ l. l ++ untag first.0) rows_is ∙ sym (untag-append _ first.0) ∙ ap untag first.1
            ∙ emits_named p boot spot.station v 0 (take many services) (named_take p many services all_valid) (right_take p boot spot.station many v services i.right)
            ∙ ap (emitted_behind p boot spot.station v) (sym (take-map (λ q. service_seen named_wanted q) many services) ∙ ap (take many) names_is),
      )
