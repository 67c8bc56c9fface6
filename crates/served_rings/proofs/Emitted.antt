-- WHAT A SLAVE OF A SERVING SENT OF ITSELF in an epoch: at rest all that its rows emit was heard in them.
use Rattle.std.proofs.Common.{◌≡◌, ℕ, suc, Bool, true, false, not, cond, Option, List, [], ◌∷◌, ◌++◌, length, map, refl, ap, sym, ◌∙◌, Ok, Err, if◌then◌else◌}
use Rattle.served_places.specs.of_exchange_model.Exchange.{Exchange, emitted}
use Rattle.served_places.specs.of_exchange_model.Rows.{emits_all}
use Rattle.run_work.proofs.of_life_counts.Eras.{era_knows}
use Rattle.run_work.proofs.of_life_counts.Eras as Eras
use Rattle.run_work.proofs.of_life_counts.TaggedWhole.{seeing_lawful, seeing_stated}
use Rattle.run_work.specs.of_life_counts.Epochs.{IsSpeaker, IsSeen, between, seeing, seeing_states}
use Rattle.run_work.specs.of_life_counts.Foreseen.{AllRight, IsRightAt}
use Rattle.run_work.specs.of_life_counts.Seen.{service_seen}
use Rattle.served_places.specs.of_life_model.Eras.{era_frames}
use Rattle.served_places.specs.of_life_model.Lives.{Spot, Era}
use Rattle.served_places.specs.of_link_mails.Body.{Body}
use Rattle.run_work.specs.of_master_duty.Reply.{Reply}
use Rattle.run_work.specs.of_master_hand.Spoken.{Asked, emission}
use Rattle.run_work.specs.Sessions.{Meant, OwnService, Wanted, named_wanted}
use Rattle.served_places.specs.of_segment_model.Ends.{Outcome}
use Rattle.served_places.specs.of_segment_model.Record.{Frame, heard}
use Rattle.served_places.specs.of_segment_model.Slaves.{Registers, Slave}
use Rattle.served_rings.proofs.HeardSeen.{emitted_untag, heard_as}
use Rattle.served_rings.proofs.Mails.{AllNamed, acts_named, is_mail, mailer}
use Rattle.served_rings.proofs.SeenRests.{frames}
use Rattle.served_rings.specs.Served.{emitted_behind}
use Rattle.served_rings.specs.Speakers.{naming_of, seer_of, spoken, table_of, whole_states}
use Rattle.run_work.proofs.of_serving_model.TaggedLaw.{untag-append}
use Rattle.served_places.specs.of_serving_model.Tagged as Tagged
use Rattle.served_places.specs.of_serving_model.Tagged.{asked_emits, asked_exec, is_own, no_reply, own_gift, untag}
use Rattle.run_work.specs.of_slave_model.Profile.{Profile, Protocol}
use Rattle.run_work.specs.of_slave_model.Server as SlaveReply
use Rattle.run_work.specs.of_slave_parts.Parts.{Server, parts}
use Rattle.run_work.specs.of_slave_parts.Served.{product_whole}
use Rattle.served_places.proofs.of_state_model.Acts.{mails_acts, mails_append}
use Rattle.served_places.specs.of_state_model.Families.{InState}
use Rattle.served_places.specs.of_state_model.Stated.{Act, Counting, Service, acts, mails, service_valid, with_states}
use Rattle.served_places.specs.of_state_model.Promises.{state_behind}

-- where none of these replies, all are sent of themselves
all_emitted : {M : Type 0} (e : M → Bool) (ms : List M) → no_reply e ms ≡ true → emitted e ms ≡ ms
all_emitted e [] none = refl
all_emitted e (m ∷ ms) none = go (e m) none (all_emitted e ms)
  where
    go : (b : Bool) → (if b then no_reply e ms else false) ≡ true → (no_reply e ms ≡ true → emitted e ms ≡ ms) → cond b (m ∷ emitted e ms) (emitted e ms) ≡ m ∷ ms
    go true none rest = ap (λ l. m ∷ l) (rest none)
    go false none rest = absurd (let no : false ≡ true = none in cc)

untag_own : {M : Type 0} (Q : Type 0) (ms : List M) → untag {Q = Q} (map (λ g. own_gift g) ms) ≡ ms
untag_own Q [] = refl
untag_own Q (m ∷ ms) = ap (λ l. m ∷ l) (untag_own Q ms)

module _ (p : Profile) (boot : Bool) (station : ℕ) where
  abbrev both : Exchange (Counting (Tagged.Rowed (InState Server) Body OwnService)) (InState Server × ℕ) (Act Meant) (Service Wanted) (Outcome (Option SlaveReply.Reply))
  both = with_states (seeing (mailer p)) (seeing_states (mailer p)) (table_of boot station)

  -- WHAT A SERVICE EMITS by its name: of a mail that is passed on what its server sends of itself, for which it was foreseen right whether it has a reply
  one_named : (v : InState Server) (q : Wanted) → service_valid (seeing (mailer p)).speech (Service.Mails q) ≡ true → IsRightAt (product_whole parts p) whole_states (table_of boot station) v q → untag (asked_emits (product_whole parts p) v q) ≡ (spoken p).emits v (named_wanted q)
  one_named v (Tagged.Asked.Script (Protocol.CoE, q)) valid right = refl
  one_named v (Tagged.Asked.Script (Protocol.FoE, q)) valid right = refl
  one_named v (Tagged.Asked.Script (Protocol.SoE, q)) valid right = refl
  one_named v (Tagged.Asked.Script (Protocol.EoE, q)) valid right = refl
  one_named v (Tagged.Asked.Passed (Ok m) true) valid right = refl
  one_named v (Tagged.Asked.Passed (Ok m) false) valid right =
      let x = product_whole parts p in
      let gifts = (x.serve v (Ok m)).1 in
      untag_own OwnService gifts ∙ sym (all_emitted x.speech.emission gifts (opposite (no_reply x.speech.emission gifts) right)) ∙ sym (untag_own OwnService (emitted x.speech.emission gifts))
    where
      opposite : (b : Bool) → false ≡ not b → b ≡ true
      opposite true e = refl
      opposite false e = absurd (let no : false ≡ true = e in cc)
  one_named v (Tagged.Asked.Passed (Err fault) answers) valid right = absurd (let no : false ≡ true = valid in cc)

  pub emits_named : (v : InState Server) (k : ℕ) (qs : List (Service Wanted)) → AllNamed p qs → AllRight (product_whole parts p) whole_states (table_of boot station) v qs →
      untag (mails (emits_all both (v, k) qs)) ≡ emitted_behind p boot station v (map (λ q. service_seen named_wanted q) qs)
  emits_named v k [] valid right = refl
  emits_named v k (Service.Mails q ∷ qs) valid right =
      let x = product_whole parts p in
      let rest = emits_all both (asked_exec x v q, k) qs in
      ap untag (mails_append (acts (asked_emits x v q)) rest ∙ ap (λ l. l ++ mails rest) (mails_acts (asked_emits x v q))) ∙ untag-append (asked_emits x v q) (mails rest)
      ∙ ap (λ l. l ++ untag (mails rest)) (one_named v q valid.0 right.0)
      ∙ ap (λ l. (spoken p).emits v (named_wanted q) ++ l)
      (emits_named (asked_exec x v q) k qs valid.1 right.1 ∙ ap (λ u. emitted_behind p boot station u (map (λ q. service_seen named_wanted q) qs)) (acts_named p v q valid.0))
  emits_named v k (Service.State target ∷ qs) valid right = emits_named (record v { state = state_behind (table_of boot station) v.state target }) (suc k) qs valid.1 right

module _ (p : Profile) (k : IsSpeaker (mailer p)) (boot : Bool) (spot : Spot) (opened : ℕ) (v : InState Server) (r : Registers) where
  abbrev pub SeenHere : List (Frame Body) → Bool → Era Body Asked Reply → Slave (InState Server) Body → Type 0
  SeenHere fs counts e n = IsSeen (mailer p) (seer_of p boot) (table_of boot) spot opened v r fs counts e n

  abbrev frames_of : List (Frame Body) → List (Frame Body)
  frames_of fs = era_frames spot opened (length fs) fs

  module _ (fs : List (Frame Body)) (counts : Bool) (e : Era Body Asked Reply) (n : Slave (InState Server) Body) (i : SeenHere fs counts e n) where
    abbrev mail : Meant → Body
    mail t = t.mail

    abbrev seen_frames : List (Frame Meant)
    seen_frames = frames (mailer p) k (seer_of p boot) (table_of boot) spot opened v r fs counts e n i

    abbrev known_here : Type 0
    known_here = Eras.Knows (product_whole parts p) (λ (a : InState Server). true) is_mail whole_states (naming_of p).more k.last seen_frames spot.station i.era.side i.era.account

    pub knows : known_here
    knows =
        era_knows (product_whole parts p) (mailer p).core k.served (λ a. true) is_mail whole_states k.stated (seeing_lawful (mailer p) k) (seeing_stated (mailer p) k) (seer_of p boot) (table_of boot) spot i.era opened (length i.frames) i.frames (between v) r i.slave i.is refl i.right
        (naming_of p).more k.last

    -- what was sent of itself, without what is meant
    pub sent_is : emitted emission (heard spot.station (frames_of fs)) ≡ untag (emitted (λ (t : Meant). is_own t.meant) (heard spot.station seen_frames))
    sent_is = ap (emitted emission) (ap (heard spot.station) (sym i.same) ∙ heard_as mail spot.station seen_frames) ∙ sym (emitted_untag emission (heard spot.station seen_frames) knows.tells)
