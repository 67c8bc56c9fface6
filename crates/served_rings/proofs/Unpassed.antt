-- WITHOUT THE ANSWERS OF MAILS THAT ARE PASSED ON a master's side goes on as one whose services all owe the laws of answers: as if no such mail had a reply.
use Rattle.std.proofs.Common.{◌≡◌, ◌⊎◌, inl, inr, ℕ, ◌&&◌, Bool, true, false, Option, Some, None, option_map, List, [], ◌∷◌, ◌++◌, map, length, refl, ap, sym, subst, ◌∙◌, append_assoc, append-nil, if◌then◌else◌}
use Rattle.std.specs.Prelude.{not, is_none, is_some}
use Rattle.std.proofs.lemmas.List.{map-append}
use Rattle.served_places.specs.of_exchange_model.Exchange.{Exchange, Speech, IsLawful, plain}
use Rattle.served_places.specs.of_exchange_model.Rows.{Row, begun, left, row_heard, row_told, answer_after}
use Rattle.run_work.specs.of_frame_view.View.{Lens}
use Rattle.served_places.specs.of_link_mails.Body.{Body}
use Rattle.served_places.specs.of_link_model.Frames.{all_accepted}
use Rattle.served_places.specs.of_link_model.Mails.{LinkMail}
use Rattle.served_places.specs.of_link_model.Master.{out_hold}
use Rattle.run_work.specs.of_master_duty.Reply.{Reply}
use Rattle.run_work.specs.of_master_hand.Spoken.{Asked, sdo, file, drive, net, passed, hand_speech, handed, valid}
use Rattle.run_work.specs.of_plan_ring.Asked.{asked}
use Rattle.served_places.specs.of_segment_model.Record.{Frame}
use Rattle.served_places.proofs.of_segment_model.Answers.{Listens, first_listens, held_listens, more_listens}
use Rattle.served_places.specs.of_segment_model.Seats.{Side, Choice, is_none_left, is_over, newest, next_mail, rows_of, side_back, side_begins, side_holds, side_next}
use Rattle.served_places.specs.of_segment_model.Slaves.{Datagram, grams}
use Rattle.served_rings.specs.ToldEras.{unpassed_answer, unpassed_row, unpassed_side}
use Rattle.run_work.specs.of_slave_model.Profile.{Profile, areas_of}
use Rattle.run_work.specs.of_slave_parts.Parts.{Core, Server}
use Rattle.run_work.specs.of_protocol_models.Network.{Station}
use Rattle.served_places.specs.of_state_model.Families.{InState}
use Rattle.served_places.specs.of_state_model.Stated.{Service}
use Rattle.served_places.specs.of_state_model.Accounts.{Account, Duty, Pick, Started, account_back, account_begins, account_next, is_acknowledged, is_free, mails_begin, mails_choice, starts, state_begins}
use Rattle.served_places.specs.of_state_model.Promise.{mail_of, mails_started, rows_started}
use Rattle.served_places.proofs.of_state_model.Completed.{started_back}

never : {T : Type 0} → false ≡ true → T
never e = absurd (cc)

abbrev Held : Type 0
Held = Row Body Asked Reply

-- a row that comes into hand has no answer
none_is : (q : Asked) → unpassed_answer q None ≡ None
none_is (sdo q) = refl
none_is (file q) = refl
none_is (drive q) = refl
none_is (net q) = refl
none_is (passed m) = refl

second_of : (a b : Bool) → (a && b) ≡ true → b ≡ true
second_of true b e = e
second_of false b e = never e

answered_or : (handed : Bool) (answer : Option (Reply × ℕ)) (idle fresh : Bool) → (if handed && is_none answer then idle else is_some answer && not fresh) ≡ true → ((a : Reply × ℕ) × (answer ≡ Some a)) ⊎ (handed ≡ true)
answered_or true answer idle fresh e = inr refl
answered_or false (Some a) idle fresh e = inl (a, refl)
answered_or false None idle fresh e = never e

module _ (p : Profile) (boot : Bool) (lens : ℕ → Lens) where
  -- THE SERVICES ALONE, beside mails of which none has a reply: of its servers, none of which is ready, it owes nothing
  abbrev pub silent : Exchange (InState Server) (InState (Station Core)) Body Asked Reply
  silent = let x = (asked p boot lens).exchange in record x { ready = λ v. false; speech = record x.speech { valid = valid (areas_of p) } }

  pub silent_lawful : IsLawful (asked p boot lens).exchange → IsLawful silent
  silent_lawful law = record {
    ready = λ v q no ok. never no;
    whole = λ v q no ok. never no;
    all_emitted = λ v q no ok. never no;
    replied = λ v q no ok h. never no;
    silent = λ v q no ok h. never no;
    part = λ v q no ok a b e. never no;
    counted = λ v q no ok h a b e f. never no;
    none = law.none;
    ended = law.ended;
    follows = λ v q no ok hs more e. never no;
    all_planned = λ v q no ok. never no;
    unanswered = law.unanswered;
    some = λ v q no ok h. never no;
    grows = law.grows;
  }

  -- what the master speaks, and as if mails that are passed on had no reply
  abbrev x : Speech Body Asked Reply
  x = hand_speech (areas_of p)

  abbrev y : Speech Body Asked Reply
  y = silent.speech

  -- A ROW THAT IS OVER has its answer then too, or ends with its last write
  ended_by : (q : Asked) (answer : Option (Reply × ℕ)) (holding : Option (LinkMail Body)) (fresh : Bool) → (if handed (areas_of p) q && is_none answer then is_none holding else is_some answer && not fresh) ≡ true →
      ((a : Reply × ℕ) × (unpassed_answer q answer ≡ Some a)) ⊎ (handed (areas_of p) q ≡ true)
  ended_by (sdo q) answer holding fresh over = answered_or (handed (areas_of p) (sdo q)) answer (is_none holding) fresh over
  ended_by (file q) answer holding fresh over = answered_or (handed (areas_of p) (file q)) answer (is_none holding) fresh over
  ended_by (drive q) answer holding fresh over = answered_or (handed (areas_of p) (drive q)) answer (is_none holding) fresh over
  ended_by (net q) answer holding fresh over = answered_or (handed (areas_of p) (net q)) answer (is_none holding) fresh over
  ended_by (passed m) answer holding fresh over = inr refl

  -- A SERVICE COMES INTO HAND, and the answers stay those of the frames
  begins_told : (law : IsLawful silent) (station : ℕ) (fs : List (Frame Body)) (d : Side Body Asked Reply) (now : Option Held) (begin : Option Asked) → d.now ≡ now → Listens silent law station fs (unpassed_side d) →
      Listens silent law station fs (unpassed_side (side_begins x (length fs) d now begin))
  begins_told law station fs d now None e l = l
  begins_told law station fs d None (Some q) e l = go (x.valid q)
    where
      go : (b : Bool) → Listens silent law station fs (unpassed_side (if b then record d { now = Some (begun q (length fs)) } else d))
      go true = subst (λ (a : Option (Reply × ℕ)). Listens silent law station fs (record (unpassed_side d) { now = Some (record (begun q (length fs)) { answer = a }) })) (sym (none_is q)) (first_listens silent law station fs (unpassed_side d) q l)
      go false = l
  begins_told law station fs d (Some r) (Some q) e l = go (x.valid q) (is_over x d.halves.out.holding d.fresh r) refl
    where
      begun_behind : Side Body Asked Reply
      begun_behind = record (unpassed_side d) { past = map (λ r. unpassed_row r) d.past ++ unpassed_row r ∷ []; now = Some (begun q (length fs)) }

      same : begun_behind ≡ unpassed_side (record d { past = d.past ++ r ∷ []; now = Some (begun q (length fs)) })
      same = sym (λ i. record (unpassed_side d) { past = map-append (λ (t : Held). unpassed_row t) d.past (r ∷ []) i; now = Some (record (begun q (length fs)) { answer = none_is q i }) })

      go : (valid over : Bool) → is_over x d.halves.out.holding d.fresh r ≡ over → Listens silent law station fs (unpassed_side (if valid && over then record d { past = d.past ++ r ∷ []; now = Some (begun q (length fs)) } else d))
      go false over o = l
      go true false o = l
      go true true o = subst (Listens silent law station fs) same
          (more_listens silent law station fs (unpassed_side d) (unpassed_row r) q (ap (option_map (λ t. unpassed_row t)) e) (ended_by r.service r.answer d.halves.out.holding d.fresh (second_of (is_none_left (left x r)) _ o)) l)

  -- AND A MAIL IS TAKEN UP alike
  told_is : (m : Body) (now : Option Held) → option_map (λ r. unpassed_row r) (option_map (λ r. row_told m r) now) ≡ option_map (λ r. row_told m r) (option_map (λ r. unpassed_row r) now)
  told_is m None = refl
  told_is m (Some r) = refl

  holds_is : (d : Side Body Asked Reply) (ms : List Body) → unpassed_side (side_holds d ms) ≡ side_holds (unpassed_side d) ms
  holds_is d [] = refl
  holds_is d (m ∷ ms) = ap (λ (n : Option Held). record { halves = record d.halves { out = out_hold d.halves.out m }; fresh = true; past = map (λ r. unpassed_row r) d.past; now = n }) (told_is m d.now)

  -- BEFORE A FRAME
  pub next_told : (law : IsLawful silent) (station : ℕ) (fs : List (Frame Body)) (d : Side Body Asked Reply) (c : Choice Asked) → Listens silent law station fs (unpassed_side d) →
      Listens silent law station fs (unpassed_side (side_next x (length fs) d c))
  next_told law station fs d c l =
      let e = side_begins x (length fs) d d.now c.begin in
      let ms = next_mail x e.now e.halves.out.holding c.hold in
      subst (Listens silent law station fs) (sym (holds_is e ms)) (held_listens silent law station fs (unpassed_side e) ms (begins_told law station fs d d.now c.begin refl l))

  heard_by : (frame : ℕ) (hs : List Body) (q : Asked) (answer : Option (Reply × ℕ)) → answer_after frame (unpassed_answer q answer) (y.ends q hs) ≡ unpassed_answer q (answer_after frame answer (x.ends q hs))
  heard_by frame hs (sdo q) answer = refl
  heard_by frame hs (file q) answer = refl
  heard_by frame hs (drive q) answer = refl
  heard_by frame hs (net q) answer = refl
  heard_by frame hs (passed m) answer = refl

  heard_is : (frame : ℕ) (ms : List Body) (now : Option Held) → option_map (λ r. row_heard y frame ms r) (option_map (λ r. unpassed_row r) now) ≡ option_map (λ r. unpassed_row r) (option_map (λ r. row_heard x frame ms r) now)
  heard_is frame ms None = refl
  heard_is frame ms (Some r) =
      ap (λ (a : Option (Reply × ℕ)). Some (record r { heard = r.heard ++ ms; answer = a })) (heard_by frame (plain x.emission (r.heard ++ ms)) r.service r.answer)

  -- BEHIND ONE THAT CAME BACK
  pub back_is : (frame station : ℕ) (back : List (Datagram Body)) (d : Side Body Asked Reply) → side_back y frame station back (unpassed_side d) ≡ unpassed_side (side_back x frame station back d)
  back_is frame station back d =
      let behind = side_back x frame station back d in
      ap (λ (n : Option Held). record (unpassed_side behind) { now = n }) (heard_is frame (all_accepted station d.halves (grams back)) d.now)

-- THE ROWS ARE THE SERVICES BY MAILS THAT CAME INTO HAND
abbrev key : Held → Asked × ℕ
key r = (r.service, r.frame)

keys_push : (rs : List Held) (r : Held) → rows_started (rs ++ r ∷ []) ≡ rows_started rs ++ (r.service, r.frame) ∷ []
keys_push rs r = map-append key rs (r ∷ [])

mails_push : (ss : List (Started Asked)) (q : Asked) (frame : ℕ) → mails_started (ss ++ record { service = Service.Mails q; frame = frame } ∷ []) ≡ mails_started ss ++ (q, frame) ∷ []
mails_push [] q frame = refl
mails_push (s ∷ ss) q frame = ap (λ l. mail_of s.service s.frame ++ l) (mails_push ss q frame) ∙ sym (append_assoc (mail_of s.service s.frame) (mails_started ss) ((q, frame) ∷ []))

state_push : (ss : List (Started Asked)) (target frame : ℕ) → mails_started (ss ++ record { service = Service.State target; frame = frame } ∷ []) ≡ mails_started ss
state_push [] target frame = refl
state_push (s ∷ ss) target frame = ap (λ l. mail_of s.service s.frame ++ l) (state_push ss target frame)

abbrev pub AreBegun : Side Body Asked Reply → Account Asked Reply → Type 0
AreBegun d a = mails_started a.started ≡ rows_started (rows_of d)

-- one newest row more or less told or heard
keys_same : (rs : List Held) (f : Held → Held) → ((r : Held) → key (f r) ≡ key r) → (now : Option Held) → rows_started (rs ++ newest (option_map f now)) ≡ rows_started (rs ++ newest now)
keys_same rs f same None = refl
keys_same rs f same (Some r) = keys_push rs (f r) ∙ ap (λ k. rows_started rs ++ k ∷ []) (same r) ∙ sym (keys_push rs r)

holds_keys : (d : Side Body Asked Reply) (ms : List Body) → rows_started (rows_of (side_holds d ms)) ≡ rows_started (rows_of d)
holds_keys d [] = refl
holds_keys d (m ∷ ms) = keys_same d.past (λ r. row_told m r) (λ r. refl) d.now

all_keys : (rs : List Held) → rows_started (map (λ r. unpassed_row r) rs) ≡ rows_started rs
all_keys [] = refl
all_keys (r ∷ rs) = ap (λ l. (r.service, r.frame) ∷ l) (all_keys rs)

-- so they are without some answers
pub rows_keys : (d : Side Body Asked Reply) → rows_started (rows_of (unpassed_side d)) ≡ rows_started (rows_of d)
rows_keys d =
    keys_same (map (λ r. unpassed_row r) d.past) (λ r. unpassed_row r) (λ r. refl) d.now
    ∙ map-append key (map (λ r. unpassed_row r) d.past) (newest d.now) ∙ ap (λ l. l ++ rows_started (newest d.now)) (all_keys d.past) ∙ sym (map-append key d.past (newest d.now))

module _ (x : Speech Body Asked Reply) (acknowledged : Asked → Bool) (frame : ℕ) (d : Side Body Asked Reply) (a : Account Asked Reply) (begun_so : AreBegun d a) where
  begins_mails : (q : Asked) (now : Option Held) → d.now ≡ now → mails_started (if x.valid q && is_free x d now then record a { started = starts a (Service.Mails q) frame } else a).started ≡ rows_started (rows_of (side_begins x frame d now (Some q)))
  begins_mails q None e = go (x.valid q)
    where
      go : (b : Bool) → mails_started (if b && true then record a { started = starts a (Service.Mails q) frame } else a).started ≡ rows_started (rows_of (if b then record d { now = Some (begun q frame) } else d))
      go true =
          mails_push a.started q frame ∙ ap (λ l. l ++ (q, frame) ∷ []) (begun_so ∙ ap (λ (n : Option Held). rows_started (d.past ++ newest n)) e ∙ ap (λ l. rows_started l) (append-nil d.past))
          ∙ sym (keys_push d.past (begun q frame))
      go false = begun_so
  begins_mails q (Some r) e = go (x.valid q && is_over x d.halves.out.holding d.fresh r)
    where
      go : (b : Bool) → mails_started (if b then record a { started = starts a (Service.Mails q) frame } else a).started ≡ rows_started (rows_of (if b then record d { past = d.past ++ r ∷ []; now = Some (begun q frame) } else d))
      go true =
          mails_push a.started q frame ∙ ap (λ l. l ++ (q, frame) ∷ []) (begun_so ∙ ap (λ (n : Option Held). rows_started (d.past ++ newest n)) e) ∙ sym (keys_push (d.past ++ r ∷ []) (begun q frame))
      go false = begun_so

  begins_begun : (hand : Option Duty) (wish : Option (Service Asked)) → mails_started (account_begins x acknowledged frame d a hand wish).started ≡ rows_started (rows_of (side_begins x frame d d.now (mails_begin hand wish)))
  begins_begun None None = begun_so
  begins_begun (Some duty) None = begun_so
  begins_begun (Some duty) (Some wish) = begun_so
  begins_begun None (Some (Service.Mails q)) = begins_mails q d.now refl
  begins_begun None (Some (Service.State target)) = go (is_free x d d.now && is_acknowledged x acknowledged d d.now)
    where
      go : (b : Bool) → mails_started (if b then state_begins a target frame else a).started ≡ rows_started (rows_of d)
      go true = state_push a.started target frame ∙ begun_so
      go false = begun_so

  pub next_begun : (pick : Pick Asked) → AreBegun (side_next x frame d (mails_choice a pick)) (account_next x acknowledged frame d a pick)
  next_begun pick =
      let e = side_begins x frame d d.now (mails_begin a.hand pick.begin) in
      begins_begun a.hand pick.begin ∙ sym (holds_keys e (next_mail x e.now e.halves.out.holding pick.hold))

  pub back_begun : (station : ℕ) (back : List (Datagram Body)) → AreBegun (side_back x frame station back d) (account_back station frame a back)
  back_begun station back =
      ap (λ l. mails_started l) (started_back station frame a back) ∙ begun_so ∙ sym (keys_same d.past (λ r. row_heard x frame (all_accepted station d.halves (grams back)) r) (λ r. refl) d.now)
