-- WHERE A SLAVE OF A SERVING RESTS nothing is left of its epoch: all its rows are carried out and answered, and all that they emit was heard.
use Rattle.std.proofs.Common.{◌≡◌, ◌&&◌, ℕ, suc, Bool, true, false, not, is_none, is_some, Option, None, Some, option_map, inl, inr, List, [], ◌∷◌, ◌++◌, length, map, refl, ap, ap₂, sym, ◌∙◌, subst, append-nil, Ok, Err, if◌then◌else◌}
use Rattle.served_places.specs.of_exchange_model.Exchange.{emitted}
use Rattle.served_places.specs.of_exchange_model.Rows.{Row, heard_all}
use Rattle.run_work.specs.of_life_counts.Epochs.{IsSpeaker, IsSeen, era_named, seeing, seeing_states}
use Rattle.run_work.specs.of_life_counts.Seen.{change_seen, outcome_seen, service_seen}
use Rattle.served_places.specs.of_life_model.Eras.{era_frames}
use Rattle.served_places.specs.of_life_model.Lives.{Spot, Era}
use Rattle.served_places.specs.of_link_mails.Body.{Body}
use Rattle.served_places.specs.of_link_model.Mails.{LinkMail}
use Rattle.run_work.specs.of_master_duty.Reply.{Reply}
use Rattle.run_work.specs.of_master_hand.Spoken.{Asked, emission}
use Rattle.served_places.proofs.of_few_replies.Naturals.{none_of}
use Rattle.run_work.specs.of_few_replies.Erased.{OfRow, PlanOne, row_seen, side_seen}
use Rattle.run_work.specs.Sessions.{Meant, Wanted, named_wanted}
use Rattle.served_places.proofs.of_segment_model.Overs.{over_parts}
use Rattle.served_places.specs.of_segment_model.Laws.{IsSettled, NothingInHand, WantsNothing}
use Rattle.served_places.specs.of_segment_model.Record.{Frame, heard}
use Rattle.served_places.specs.of_segment_model.Seats.{Side, is_none_left, is_over, rows_of}
use Rattle.served_places.specs.of_segment_model.Slaves.{Registers, Slave}
use Rattle.served_rings.proofs.Emitted.{emits_named, knows, sent_is}
use Rattle.served_rings.proofs.Ended as Ended
use Rattle.served_rings.proofs.Ended.{all_answered}
use Rattle.served_rings.proofs.Mails.{AllNamed, acts_named, behind_named, is_mail, mailer, services_named}
use Rattle.served_rings.proofs.Newest.{exec_is}
use Rattle.served_rings.proofs.RowsSeen.{rows_seen}
use Rattle.served_rings.proofs.Seen.{promised, valid}
use Rattle.served_rings.proofs.SeenRests.{answered, frames, rested}
use Rattle.served_rings.proofs.SeenSettled.{none_box, settled_back}
use Rattle.served_rings.proofs.Speakers.{script}
use Rattle.served_rings.specs.Served.{AreAnswered, IsReplied, NothingLeft, emitted_behind, server_behind}
use Rattle.served_rings.specs.Speakers.{seer_of, spoken, table_of, whole_states}
use Rattle.served_places.specs.of_serving_model.Erasing.{box_as}
use Rattle.served_places.specs.of_serving_model.Tagged as Tagged
use Rattle.served_places.specs.of_serving_model.Tagged.{asked_exec, asked_reply, ideal, real, untag}
use Rattle.run_work.specs.of_slave_model.Profile.{Profile, Protocol}
use Rattle.run_work.specs.of_slave_model.Server as SlaveReply
use Rattle.run_work.specs.of_slave_parts.Parts.{Server, parts}
use Rattle.run_work.specs.of_slave_parts.Served.{product_whole}
use Rattle.served_places.specs.of_state_model.Families.{InState}
use Rattle.served_places.specs.of_state_model.Stated.{Service, service_valid}
use Rattle.served_places.specs.of_state_model.Promises.{answer_of, state_behind}
use Rattle.served_places.specs.of_state_model.Accounts.{Change}
use Rattle.served_places.specs.of_state_model.Promise.{changes_in, duty_in, services_in}

module _ (p : Profile) where
  abbrev pub RowHere : Type 0
  RowHere = Row Meant Wanted (Option SlaveReply.Reply)

  abbrev pub mail : Meant → Body
  mail t = t.mail

  abbrev pub same : Option SlaveReply.Reply → Option SlaveReply.Reply
  same a = a

  abbrev pub seen_row : RowHere → Row Body Asked Reply
  seen_row r = row_seen mail named_wanted same r

  abbrev handed : Wanted → Bool
  handed q = (seeing (mailer p)).speech.handed q

  -- A SERVICE THAT HAS A REPLY has one by its name too; a mail that is passed on hasn't, by its name
  pub unhanded : (q : Wanted) → (spoken p).speech.handed (named_wanted q) ≡ false → handed q ≡ false
  unhanded (Tagged.Asked.Script (i, q)) e = sym (script p i q).handed ∙ e
  unhanded (Tagged.Asked.Passed (Ok m) answers) e = absurd (let no : true ≡ false = e in cc)
  unhanded (Tagged.Asked.Passed (Err fault) answers) e = absurd (let no : true ≡ false = e in cc)

  some_same : (a : Option (Option SlaveReply.Reply × ℕ)) → is_some (let named : Option (Option SlaveReply.Reply × ℕ) = option_map (λ k. (same k.0, k.1)) a in named) ≡ is_some a
  some_same None = refl
  some_same (Some a) = refl

  -- it replies by its name
  pub replies_named : (v : InState Server) (q : Wanted) → service_valid (seeing (mailer p)).speech (Service.Mails q) ≡ true → asked_reply (product_whole parts p) v q ≡ (spoken p).reply v (named_wanted q)
  replies_named v (Tagged.Asked.Script (Protocol.CoE, q)) valid = refl
  replies_named v (Tagged.Asked.Script (Protocol.FoE, q)) valid = refl
  replies_named v (Tagged.Asked.Script (Protocol.SoE, q)) valid = refl
  replies_named v (Tagged.Asked.Script (Protocol.EoE, q)) valid = refl
  replies_named v (Tagged.Asked.Passed (Ok m) answers) valid = refl
  replies_named v (Tagged.Asked.Passed (Err fault) answers) valid = absurd (let no : false ≡ true = valid in cc)

  pub answer_same : (found : Option ℕ) → outcome_seen same (answer_of found) ≡ answer_of found
  answer_same None = refl
  answer_same (Some code) = refl

  module _ (boot : Bool) (station : ℕ) where
    abbrev answered_there : InState Server × ℕ → List (Service Wanted) → List RowHere → List (Change (Option SlaveReply.Reply)) → Type 0
    answered_there a qs rs cs = Ended.AreAnswered (seeing (mailer p)) (seeing_states (mailer p)) (table_of boot station) a qs rs cs

    replied_named : (v : InState Server) (q : Wanted) (r : RowHere) → service_valid (seeing (mailer p)).speech (Service.Mails q) ≡ true → Ended.IsReplied (seeing (mailer p)) (seeing_states (mailer p)) (table_of boot station) v q r → IsReplied p boot station v (named_wanted q) (seen_row r)
    replied_named v q r valid is = (
      ap named_wanted is.0,
      λ replies.
          let one = is.1 (unhanded q replies) in
          (one.0, ap (λ (a : Option (Option SlaveReply.Reply × ℕ)). option_map (λ k. (same k.0, k.1)) a) one.1 ∙ ap (λ (a : Option SlaveReply.Reply). Some (a, one.0)) (replies_named v q valid)),
    )

    -- SO EACH SERVICE HAS ITS ANSWER by its name
    answered_named : (v : InState Server) (k : ℕ) (qs : List (Service Wanted)) (rs : List RowHere) (cs : List (Change (Option SlaveReply.Reply))) → AllNamed p qs → answered_there (v, k) qs rs cs →
        AreAnswered p boot station v (map (λ q. service_seen named_wanted q) qs) (map (λ r. seen_row r) rs) (map (λ c. change_seen mail named_wanted same c) cs)
    answered_named v k [] [] [] known all = tt
    answered_named v k [] [] (c ∷ cs) known all = absurd all
    answered_named v k [] (r ∷ rs) cs known all = absurd all
    answered_named v k (Service.Mails q ∷ qs) [] cs known all = absurd all
    answered_named v k (Service.Mails q ∷ qs) (r ∷ rs) cs known all = (
      replied_named v q r known.0 all.0,
      subst (λ u. AreAnswered p boot station u (map (λ q. service_seen named_wanted q) qs) (map (λ r. seen_row r) rs) (map (λ c. change_seen mail named_wanted same c) cs)) (acts_named p v q known.0)
          (answered_named (asked_exec (product_whole parts p) v q) k qs rs cs known.1 all.1),
    )
    answered_named v k (Service.State target ∷ qs) rs [] known all = absurd all
    answered_named v k (Service.State target ∷ qs) rs (c ∷ cs) known all = (
      all.0,
      ap (outcome_seen same) all.1 ∙ answer_same (table_of boot station v.state target),
      answered_named (record v { state = state_behind (table_of boot station) v.state target }) (suc k) qs rs cs known.1 all.2,
    )

  -- A ROW IS OVER where it is over by its name: no mail is held, and a mail that is passed on has its answer where it was foreseen to have one
  module _ (r : RowHere) (fresh : Bool) (new : fresh ≡ false) (plans : PlanOne mail named_wanted same (seeing (mailer p)).speech (spoken p).speech r.service r.heard)
      (answers : (m : Body) → r.service ≡ Tagged.Asked.Passed m true → is_some r.answer ≡ true) (over : is_over (spoken p).speech None fresh (seen_row r) ≡ true) where
    unhanded_over : (q : Wanted) → r.service ≡ q → handed q ≡ false → is_some r.answer ≡ true
    unhanded_over (Tagged.Asked.Script (i, q)) is none = elim (over_parts (spoken p) None fresh (seen_row r) over).1 [
      | inl b ↦ absurd (let no : true ≡ false = sym b.0 ∙ ap (λ z. (spoken p).speech.handed (named_wanted z)) is ∙ (script p i q).handed ∙ none in cc)
      | inr b ↦ sym (some_same r.answer) ∙ ap is_some b.0.1
    ]
    unhanded_over (Tagged.Asked.Passed m true) is none = answers m is
    unhanded_over (Tagged.Asked.Passed m false) is none = absurd (let no : true ≡ false = none in cc)

    over_here : is_over (seeing (mailer p)).speech None fresh r ≡ true
    over_here = ap₂ (λ (a b : Bool). a && b) (none_of mail named_wanted same (seeing (mailer p)).speech (spoken p).speech r plans ∙ ap is_none_left (over_parts (spoken p) None fresh (seen_row r) over).0) (go (handed r.service) r.answer refl refl)
      where
        go : (b : Bool) (o : Option (Option SlaveReply.Reply × ℕ)) → handed r.service ≡ b → r.answer ≡ o → (if b && is_none o then true else is_some o && not fresh) ≡ true
        go true None is a = refl
        go true (Some k) is a = ap not new
        go false o is a = ap₂ (λ (a b : Bool). a && not b) (ap is_some (sym a) ∙ unhanded_over r.service refl is) new

module _ (p : Profile) (k : IsSpeaker (mailer p)) (boot : Bool) (spot : Spot) (opened : ℕ) (v : InState Server) (r : Registers) (fs : List (Frame Body)) (counts : Bool) (e : Era Body Asked Reply) (n : Slave (InState Server) Body)
    (i : IsSeen (mailer p) (seer_of p boot) (table_of boot) spot opened v r fs counts e n) where
  abbrev SideHere : Type 0
  SideHere = Side Meant Wanted (Option SlaveReply.Reply)

  abbrev done : InState Server
  done = ideal (product_whole parts p) i.slave.node.server.server

  settled_there : IsSettled n → IsSettled i.slave
  settled_there settled = settled_back (mail p) (real (product_whole parts p)) i.slave (subst IsSettled (sym i.stands) settled)

  -- nothing is wanted of it by what is meant
  nothing_there : (d : SideHere) → d.halves.out.holding ≡ None → d.fresh ≡ false → (now : Option (RowHere p)) → OfRow (λ (h : RowHere p). PlanOne (mail p) named_wanted (same p) (seeing (mailer p)).speech (spoken p).speech h.service h.heard) now →
      OfRow (λ (h : RowHere p). (m : Body) → h.service ≡ Tagged.Asked.Passed m true → is_some h.answer ≡ true) now →
      NothingInHand (spoken p).speech (side_seen (mail p) named_wanted (same p) d) (option_map (λ h. seen_row p h) now) → NothingInHand (seeing (mailer p)).speech d now
  nothing_there d held new None plans answers over = tt
  nothing_there d held new (Some h) plans answers over =
      subst (λ (box : Option (LinkMail Meant)). is_over (seeing (mailer p)).speech box d.fresh h ≡ true) (sym held)
      (over_here p h d.fresh new plans answers (subst (λ (box : Option (LinkMail Meant)). is_over (spoken p).speech (box_as (mail p) box) d.fresh (seen_row p h) ≡ true) held over))

  module _ (settled : IsSettled n) (wants : WantsNothing (spoken p).speech e.side) (hand : e.account.hand ≡ None) (over : e.passing ≡ None)
      (in_rows : heard spot.station (era_frames spot opened (length fs) fs) ≡ heard_all (rows_of e.side)) where
    abbrev named : Era Body Asked Reply
    named = era_named (mailer p) i.era

    held_there : i.era.side.halves.out.holding ≡ None
    held_there = none_box (mail p) (real (product_whole parts p)) i.slave i.era.side.halves.out.holding (ap (λ (d : Era Body Asked Reply). d.side.halves.out.holding) i.named ∙ wants.idle)

    new_there : i.era.side.fresh ≡ false
    new_there = (knows p k boot spot opened v r fs counts e n i).idle (ap is_none held_there)

    wants_there : WantsNothing (seeing (mailer p)).speech i.era.side
    wants_there = record {
      idle = held_there;
      clear = ap (λ (d : Era Body Asked Reply). d.side.halves.inn.state) i.named ∙ wants.clear;
      nothing = nothing_there i.era.side held_there new_there i.era.side.now i.plans (i.answered (ap (λ (d : Era Body Asked Reply). d.passing) i.named ∙ over))
          (subst (λ (d : Era Body Asked Reply). NothingInHand (spoken p).speech d.side d.side.now) (sym i.named) wants.nothing);
    }

    hand_there : i.era.account.hand ≡ None
    hand_there = ap (λ (d : Era Body Asked Reply). d.account.hand) i.named ∙ hand

    all_valid : AllNamed p (services_in i.era.account.started)
    all_valid = valid (mailer p) k (seer_of p boot) (table_of boot) spot opened v r fs counts e n i

    left_named : NothingLeft p boot spot.station v named done
    left_named =
        let rest = rested (mailer p) k (seer_of p boot) (table_of boot) spot opened v r fs counts e n i (settled_there settled) wants_there hand_there in
        let has = answered (mailer p) k (seer_of p boot) (table_of boot) spot opened v r fs counts e n i in
        let started = i.era.account.started in
        record {
          all = rest.app ∙ exec_is (product_whole parts p) (λ a. true) is_mail whole_states (table_of boot spot.station) v 0 (services_in started)
              ∙ behind_named p boot spot.station v (services_in started) all_valid ∙ ap (server_behind p boot spot.station v) (sym (services_named p started));
          answered = subst (λ l. AreAnswered p boot spot.station v (services_in named.account.started) l named.account.over) (sym (rows_seen (mail p) named_wanted (same p) i.era.side))
              (subst (λ qs. AreAnswered p boot spot.station v qs (map (λ h. seen_row p h) (rows_of i.era.side)) named.account.over) (sym (services_named p started))
              (answered_named p boot spot.station v 0 (services_in started) (rows_of i.era.side) i.era.account.over all_valid
              (all_answered (seeing (mailer p)) (seeing_states (mailer p)) (table_of boot spot.station) (λ m. false) spot.station (frames (mailer p) k (seer_of p boot) (table_of boot) spot opened v r fs counts e n i) (v, 0) started (rows_of i.era.side) i.era.account.over
              has.mails (has.states ∙ ap (λ l. changes_in i.era.account.over ++ l) (ap duty_in hand_there) ∙ append-nil (changes_in i.era.account.over)) has.answers has.over rest.ended
              (promised (mailer p) k (seer_of p boot) (table_of boot) spot opened v r fs counts e n i).replied)));
          emissions = ap (λ (d : Era Body Asked Reply). emitted emission (heard_all (rows_of d.side))) i.named ∙ ap (emitted emission) (sym in_rows) ∙ sent_is p k boot spot opened v r fs counts e n i
              ∙ ap untag rest.emissions ∙ emits_named p boot spot.station v 0 (services_in started) all_valid i.right ∙ ap (emitted_behind p boot spot.station v) (sym (services_named p started));
        }

    -- NOTHING IS LEFT of it
    pub left_so : NothingLeft p boot spot.station v e done
    left_so = subst (λ (d : Era Body Asked Reply). NothingLeft p boot spot.station v d done) i.named left_named
