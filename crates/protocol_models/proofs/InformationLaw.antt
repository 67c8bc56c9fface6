-- An information request is answered by the whole answer, in parts that fit a mailbox of any length.
use Rattle.std.proofs.Common.{◌≡◌, inl, inr, ℕ, zero, suc, ◌-◌, ◌<◌, ◌≤◌, Bool, true, false, List, [], ◌∷◌, ◌++◌, length, take, drop, None, Some, Result, Ok, Err, refl, sym, ap, ◌∙◌, subst, arith, append-nil, append_assoc, length-append, length-drop, length-take, take-append-drop, eq-eqb, le-ltb, le-leb}
use Rattle.std.proofs.lemmas.Bool.{cases_lt, lt-leb}
use Rattle.exchange_model.specs.Areas.{Areas}
use Rattle.exchange_model.specs.Exchange.{Before, plain, emitted}
use Rattle.exchange_model.specs.Dialogue.{turn_at, rest_at}
use Rattle.exchange_model.proofs.Turns.{sent_waits}
use Rattle.mailbox_mail.specs.declared.outcome.ReplyKind.{ReplyKind}
use Rattle.protocol_models.specs.CoeMails.{CoeMail, mail, is_emission, Information, InformationError}
use Rattle.protocol_models.specs.Tables.{Ask, list, object, entry, Tables, AreLawful}
use Rattle.protocol_models.specs.CoeServer.{Server, coe_outcome, ended, informed, information_parts, parts_of, answer_opcode, behind, serve}
use Rattle.protocol_models.specs.CoeMeaning.{information, value_means}
use Rattle.protocol_models.specs.CoeClient.{decide, information_mail, information_ends}
use Rattle.protocol_models.specs.CoeModel.{coe_exchange}
use Rattle.protocol_models.proofs.CoeCarries.{Carried, carried_one, before_none, talk, talk_over, Kept, kept_from_carried}

-- a part of an information answer
abbrev is_a_part : CoeMail → Bool
is_a_part (mail (Information opcode incomplete left bytes)) = true
is_a_part _ = false

abbrev AllParts : List CoeMail → Type 0
AllParts [] = Unit {0}
AllParts (m ∷ ms) = (is_a_part m ≡ true) × AllParts ms

parts_all : (fuel opcode part : ℕ) (bytes : List ℕ) → AllParts (information_parts fuel opcode part bytes)
parts_all zero opcode part bytes = tt
parts_all (suc fuel) opcode part bytes = elim (cases_lt part (length bytes)) [
  | inr fits ↦ rw (le-leb (length bytes) part fits) (refl, tt)
  | inl more ↦ rw (lt-leb (length bytes) part more) (refl, parts_all fuel opcode part (drop part bytes))
]

-- a client that has heard a part waits
part_waits : (m h : CoeMail) (seen : List CoeMail) → is_a_part h ≡ true → decide m (h ∷ seen) ≡ None
part_waits m (mail (Information opcode incomplete left bytes)) seen e = refl
part_waits m _ seen e = absurd (cc)

part_replies : (h : CoeMail) → is_a_part h ≡ true → is_emission h ≡ false
part_replies (mail (Information opcode incomplete left bytes)) e = refl
part_replies _ e = absurd (cc)

parts_plain : (ps : List CoeMail) → AllParts ps → plain is_emission ps ≡ ps
parts_plain [] all = refl
parts_plain (h ∷ ps) all = rw (part_replies h all.0) (ap (λ l. h ∷ l) (parts_plain ps all.1))

parts_emitted : (ps : List CoeMail) → AllParts ps → emitted is_emission ps ≡ []
parts_emitted [] all = refl
parts_emitted (h ∷ ps) all = rw (part_replies h all.0) (parts_emitted ps all.1)

turn_behind : (m h : CoeMail) (seen ps : List CoeMail) → is_a_part h ≡ true → turn_at decide m (h ∷ seen) ps ≡ None
turn_behind m h seen [] is = part_waits m h seen is
turn_behind m h seen (k ∷ ps) is = rw (part_waits m h seen is) (turn_behind m h (seen ++ k ∷ []) ps is)

rest_of : (m h : CoeMail) (seen ps : List CoeMail) → is_a_part h ≡ true → rest_at decide m (h ∷ seen) ps ≡ []
rest_of m h seen [] is = refl
rest_of m h seen (k ∷ ps) is = rw (part_waits m h seen is) (rest_of m h (seen ++ k ∷ []) ps is)

parts_turn : (m : CoeMail) (ps : List CoeMail) → AllParts ps → turn_at decide m [] ps ≡ None
parts_turn m [] all = refl
parts_turn m (h ∷ ps) all = turn_behind m h [] ps all.0

parts_rest : (m : CoeMail) (ps : List CoeMail) → AllParts ps → rest_at decide m [] ps ≡ []
parts_rest m [] all = refl
parts_rest m (h ∷ ps) all = rest_of m h [] ps all.0

-- what the client reads of the parts
last_reads : (opcode left : ℕ) (got bytes : List ℕ) → length (got ++ bytes) ≤ 16384 →
    information_ends opcode got (mail (Information opcode false left (record { items = bytes })) ∷ []) ≡ Some (ReplyKind.Value, got ++ bytes)
last_reads opcode left got bytes few = rw (eq-eqb opcode opcode refl, le-ltb 16384 (length (got ++ bytes)) few) refl

more_reads : (opcode left : ℕ) (got part : List ℕ) (hs : List CoeMail) → length (got ++ part) ≤ 16384 →
    information_ends opcode got (mail (Information opcode true left (record { items = part })) ∷ hs) ≡ information_ends opcode (got ++ part) hs
more_reads opcode left got part hs few = rw (eq-eqb opcode opcode refl, le-ltb 16384 (length (got ++ part)) few) refl

parts_read : (fuel opcode part : ℕ) (got rest : List ℕ) → 0 < part → length rest < fuel → length (got ++ rest) ≤ 16384 →
    information_ends opcode got (information_parts fuel opcode part rest) ≡ Some (ReplyKind.Value, got ++ rest)
parts_read zero opcode part got rest some enough few = absurd (omega arith)
parts_read (suc fuel) opcode part got rest some enough few = elim (cases_lt part (length rest)) [
  | inr fits ↦ rw (le-leb (length rest) part fits) (last_reads opcode 0 got rest few)
  | inl more ↦
      let whole : got ++ take part rest ++ drop part rest ≡ got ++ rest = append_assoc got (take part rest) (drop part rest) ∙ ap (λ l. got ++ l) (take-append-drop part rest) in
      let less : length (got ++ take part rest) ≤ 16384 = omega (arith, few, length-append got rest, length-append got (take part rest), length-take part rest) in
      rw (lt-leb (length rest) part more) (more_reads opcode (parts_of part (length rest - part)) got (take part rest) (information_parts fuel opcode part (drop part rest)) less
      ∙ parts_read fuel opcode part (got ++ take part rest) (drop part rest) some (omega (arith, length-drop part rest)) (subst (λ l. length l ≤ 16384) (sym whole) few)
      ∙ ap (λ l. Some (ReplyKind.Value, l)) whole)
]

module _ {S : Type 0} (o : Tables S) (eoe : Bool) (areas : Areas) where
  asked : (v : Server S) (a : Ask) → coe_outcome o eoe areas.back v.app v.transfer (information_mail a) ≡ informed areas.back v.app v.transfer a (o.info v.app a)
  asked v (list kind) = refl
  asked v (object index) = refl
  asked v (entry index sub info) = refl

  answer : List ℕ → Ask → List CoeMail
  answer bytes a = information_parts (suc (length bytes)) (answer_opcode a) (areas.back - 12) bytes

  -- what the server does at a request that it answers
  informs : (v : Server S) (a : Ask) (bytes : List ℕ) → o.info v.app a ≡ Ok bytes →
      serve o eoe areas.back v (information_mail a) ≡ (record { app = v.app; handled = suc v.handled; transfer = v.transfer }, answer bytes a)
  unfolding answer
  informs v a bytes is = ap (behind o v.handled) (asked v a ∙ ap (informed areas.back v.app v.transfer a) is) ∙ ap (λ l. (record { app = v.app; handled = suc v.handled; transfer = v.transfer }, l)) (append-nil _)

  answer_all : (bytes : List ℕ) (a : Ask) → AllParts (answer bytes a)
  unfolding answer
  answer_all bytes a = parts_all (suc (length bytes)) (answer_opcode a) (areas.back - 12) bytes

  answer_reads : (bytes : List ℕ) (a : Ask) → 13 ≤ areas.back → length bytes ≤ 16384 → information_ends (answer_opcode a) [] (answer bytes a) ≡ Some (ReplyKind.Value, bytes)
  unfolding answer
  answer_reads bytes a wide few = parts_read (suc (length bytes)) (answer_opcode a) (areas.back - 12) [] bytes (omega arith) (omega arith) few

  answered : (v : Server S) (a : Ask) (bytes : List ℕ) → o.info v.app a ≡ Ok bytes → 13 ≤ areas.back → length bytes ≤ 16384 →
      Carried o eoe areas v (value_means v.app (Ok bytes)) (information_ends (answer_opcode a) []) (information_mail a ∷ [])
  answered v a bytes is wide few =
      let one = informs v a bytes is in
      let all = answer_all bytes a in
      record {
        app = ap (λ y. y.0.app) one;
        handled = ap (λ y. y.0.handled) one;
        emits = ap (λ y. emitted is_emission (y.1 ++ [])) one ∙ ap (emitted is_emission) (append-nil (answer bytes a)) ∙ parts_emitted (answer bytes a) all;
        replied = ap (λ y. information_ends (answer_opcode a) [] (plain is_emission (y.1 ++ []))) one
            ∙ ap (λ l. information_ends (answer_opcode a) [] (plain is_emission l)) (append-nil (answer bytes a))
            ∙ ap (information_ends (answer_opcode a) []) (parts_plain (answer bytes a) all) ∙ answer_reads bytes a wide few;
        late = none_late v (information_mail a);
      }
    where
      none_late : (v : Server S) (m : CoeMail) (p : List CoeMail) (h : CoeMail) (r : List CoeMail) → m ∷ [] ≡ p ++ h ∷ r → Before (coe_exchange o eoe areas) v p
      none_late v m [] h r e = before_none o eoe areas v
      none_late v m (k ∷ []) h r e = absurd (cc)
      none_late v m (k ∷ l ∷ p) h r e = absurd (cc)

  information_by : (turns : ℕ) (v : Server S) (a : Ask) (r : Result (List ℕ) ℕ) → o.info v.app a ≡ r → 13 ≤ areas.back → ((bytes : List ℕ) → r ≡ Ok bytes → length bytes ≤ 16384) →
      Kept o eoe areas v (information a) 1 (talk o eoe areas (suc turns) v (information_mail a ∷ []))
  information_by turns v a (Err code) is wide few =
      let e = mail (InformationError code) in
      let takes : coe_outcome o eoe areas.back v.app v.transfer (information_mail a) ≡ ended v.app v.transfer e = asked v a ∙ ap (informed areas.back v.app v.transfer a) is in
      subst (Kept o eoe areas v (information a) 1) (sym (talk_over o eoe areas turns v (information_mail a) e (ended v.app v.transfer e) [] takes refl refl refl))
      (kept_from_carried o eoe areas v (information a) 1 (information_mail a ∷ []) (omega arith)
      (subst (λ r. Carried o eoe areas v (value_means v.app r) (information_ends (answer_opcode a) []) (information_mail a ∷ [])) (sym is)
      (carried_one o eoe areas v (value_means v.app (Err code)) (information_ends (answer_opcode a) []) (information_mail a) e (ended v.app v.transfer e) takes refl refl refl refl refl refl)))
  information_by turns v a (Ok bytes) is wide few =
      let turn : turn_at decide (information_mail a) [] (plain is_emission (serve o eoe areas.back v (information_mail a)).1) ≡ None =
      ap (λ y. turn_at decide (information_mail a) [] (plain is_emission y.1)) (informs v a bytes is) ∙ ap (turn_at decide (information_mail a) []) (parts_plain (answer bytes a) (answer_all bytes a))
      ∙ parts_turn (information_mail a) (answer bytes a) (answer_all bytes a) in
      subst (Kept o eoe areas v (information a) 1) (sym (sent_waits (serve o eoe areas.back) is_emission decide turns v (information_mail a) [] turn))
      (kept_from_carried o eoe areas v (information a) 1 (information_mail a ∷ []) (omega arith)
      (subst (λ r. Carried o eoe areas v (value_means v.app r) (information_ends (answer_opcode a) []) (information_mail a ∷ [])) (sym is) (answered v a bytes is wide (few bytes refl))))

  pub information_kept : AreLawful o → (turns : ℕ) (v : Server S) (a : Ask) → o.valid v.app ≡ true → 13 ≤ areas.back → Kept o eoe areas v (information a) 1 (talk o eoe areas (suc turns) v (information_mail a ∷ []))
  information_kept law turns v a sound wide = information_by turns v a (o.info v.app a) refl wide (λ bytes is. law.short_info v.app a bytes sound is)

  -- the answers to a request leave nothing undecided, and are some
  decides_by : (v : Server S) (a : Ask) (r : Result (List ℕ) ℕ) → o.info v.app a ≡ r → rest_at decide (information_mail a) [] (plain is_emission (serve o eoe areas.back v (information_mail a)).1) ≡ []
  decides_by v a (Err code) is =
      let takes : coe_outcome o eoe areas.back v.app v.transfer (information_mail a) ≡ ended v.app v.transfer (mail (InformationError code)) = asked v a ∙ ap (informed areas.back v.app v.transfer a) is in
      ap (λ y. rest_at decide (information_mail a) [] (plain is_emission (behind o v.handled y).1)) takes
  decides_by v a (Ok bytes) is = ap (λ y. rest_at decide (information_mail a) [] (plain is_emission y.1)) (informs v a bytes is)
      ∙ ap (rest_at decide (information_mail a) []) (parts_plain (answer bytes a) (answer_all bytes a)) ∙ parts_rest (information_mail a) (answer bytes a) (answer_all bytes a)

  pub ask_decides : (a : Ask) (v : Server S) → rest_at decide (information_mail a) [] (plain is_emission (serve o eoe areas.back v (information_mail a)).1) ≡ []
  ask_decides a v = decides_by v a (o.info v.app a) refl
