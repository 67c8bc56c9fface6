-- A download carries out its service, of any value, through mailboxes of any lengths, and from a server with any unfinished transfer.
use Rattle.std.proofs.Common.{◌≡◌, ◌⊎◌, inl, inr, ℕ, zero, suc, ◌+◌, ◌-◌, ◌<◌, ◌≤◌, Bool, true, false, not, List, [], ◌∷◌, ◌++◌, length, take, drop, Option, None, Some, Result, Ok, Err, refl, sym, ap, ◌∙◌, subst, arith, append_assoc, length-append, length-drop, length-take, take-append-drop, take_all, eq-eqb, ne_eqb, le-ltb, le-leb}
use Rattle.std.proofs.lemmas.Bool.{cases_lt, lt-leb}
use Rattle.exchange_model.specs.Areas.{Areas}
use Rattle.exchange_model.specs.Dialogue.{next}
use Rattle.exchange_model.proofs.Turns.{sent_none}
use Rattle.mailbox_mail.specs.declared.outcome.ReplyKind.{ReplyKind}
use Rattle.protocol_models.specs.CoeMails.{CoeMail, mail, is_emission, Segment, SegmentAnswer, First, Expedited}
use Rattle.protocol_models.specs.Tables.{Target, Tables, AreLawful}
use Rattle.protocol_models.specs.CoeServer.{idle, downloading, Server, coe_outcome, ended, goes_on, stored, takes_whole, takes_first, takes_segment, begins, download_answer, abort, parts_of, is_expedited, serve}
use Rattle.protocol_models.specs.CoeMeaning.{Reply, download_means}
use Rattle.protocol_models.specs.CoeClient.{decide, segments, download_mails, segments_end, download_ends}
use Rattle.protocol_models.proofs.Basics.{same_itself, is_of_itself, no_parts, one_part, more_parts}
use Rattle.protocol_models.proofs.CoeCarries.{Carried, carried_one, carried_more, gone_on, talk, talk_onward, talk_over}

module _ {S : Type 0} (o : Tables S) (eoe : Bool) (areas : Areas) where
  -- the segment that is not the last
  more_segment : (app : S) (t : Target) (size : ℕ) (got part : List ℕ) (toggle : Bool) → length got + length part ≤ size →
      takes_segment o eoe app (downloading t size got toggle) toggle false part ≡ goes_on app (downloading t size (got ++ part) (not toggle)) (mail (SegmentAnswer toggle))
  more_segment app t size got part toggle fits =
      let within : length (got ++ part) ≤ size = omega (arith, length-append got part) in
      rw (same_itself toggle, le-ltb size (length (got ++ part)) within) refl

  -- the last segment
  last_segment : (app : S) (t : Target) (size : ℕ) (got part : List ℕ) (toggle : Bool) → length got + length part ≡ size →
      takes_segment o eoe app (downloading t size got toggle) toggle true part ≡ takes_whole o eoe app t (got ++ part) (mail (SegmentAnswer toggle))
  last_segment app t size got part toggle all =
      let most : length (got ++ part) ≤ size = omega (arith, length-append got part) in
      let least : size ≤ length (got ++ part) = omega (arith, length-append got part) in
      rw (same_itself toggle, le-ltb size (length (got ++ part)) most, le-ltb (length (got ++ part)) size least) refl

  -- the mail that brings the last octets: the tables store the value or refuse it
  whole_carried : (v : Server S) (t : Target) (bytes : List ℕ) (reading : List CoeMail → Option Reply) (m : CoeMail) (a : CoeMail) →
      coe_outcome o eoe areas.back v.app v.transfer m ≡ takes_whole o eoe v.app t bytes a → is_emission a ≡ false →
      reading (a ∷ []) ≡ Some (ReplyKind.Done, []) → ((code : ℕ) → reading (abort t code ∷ []) ≡ Some (ReplyKind.Abort code, [])) →
      Carried o eoe areas v (download_means o eoe v.app t bytes (o.download v.app t bytes)) reading (m ∷ [])
  whole_carried v t bytes reading m a is calm done fails = by_answer (o.download v.app t bytes) is
    where
      by_answer : (r : Result S ℕ) → coe_outcome o eoe areas.back v.app v.transfer m ≡ stored eoe v.app t bytes a r →
          Carried o eoe areas v (download_means o eoe v.app t bytes r) reading (m ∷ [])
      by_answer (Ok changed) e = carried_one o eoe areas v (download_means o eoe v.app t bytes (Ok changed)) reading m a (stored eoe v.app t bytes a (Ok changed)) e refl refl calm refl refl done
      by_answer (Err code) e = carried_one o eoe areas v (download_means o eoe v.app t bytes (Err code)) reading m (abort t code) (stored eoe v.app t bytes a (Err code)) e refl refl refl refl refl (fails code)

  -- behind it the client has nothing to send
  whole_talk : (turns : ℕ) (v : Server S) (t : Target) (bytes : List ℕ) (m : CoeMail) (a : CoeMail) → coe_outcome o eoe areas.back v.app v.transfer m ≡ takes_whole o eoe v.app t bytes a →
      is_emission a ≡ false → decide m (a ∷ []) ≡ Some next → talk o eoe areas (suc turns) v (m ∷ []) ≡ m ∷ []
  whole_talk turns v t bytes m a is calm onward = by_answer (o.download v.app t bytes) is
    where
      by_answer : (r : Result S ℕ) → coe_outcome o eoe areas.back v.app v.transfer m ≡ stored eoe v.app t bytes a r → talk o eoe areas (suc turns) v (m ∷ []) ≡ m ∷ []
      by_answer (Ok changed) e = talk_onward o eoe areas turns v m a (stored eoe v.app t bytes a (Ok changed)) [] e refl calm onward
          ∙ ap (λ l. m ∷ l) (sent_none (serve o eoe areas.back) is_emission decide turns _)
      by_answer (Err code) e = talk_over o eoe areas turns v m (abort t code) (stored eoe v.app t bytes a (Err code)) [] e refl refl refl

  -- one segment answer, or an abort in its place
  last_reads : (toggle : Bool) → segments_end 1 toggle (mail (SegmentAnswer toggle) ∷ []) ≡ Some (ReplyKind.Done, [])
  last_reads toggle = rw (same_itself toggle) refl

  abort_reads : (toggle : Bool) (t : Target) (code : ℕ) → segments_end 1 toggle (abort t code ∷ []) ≡ Some (ReplyKind.Abort code, [])
  abort_reads toggle t code = refl

  more_reads : (n : ℕ) (toggle : Bool) (hs : List CoeMail) → segments_end (suc n) toggle (mail (SegmentAnswer toggle) ∷ hs) ≡ segments_end n (not toggle) hs
  more_reads n toggle hs = rw (same_itself toggle) refl

  abbrev in_download : S → ℕ → Target → ℕ → List ℕ → Bool → Server S
  in_download app handled t size got toggle = record { app = app; handled = handled; transfer = downloading t size got toggle }

  abbrev Stores : S → ℕ → Target → List ℕ → List ℕ → ℕ → Bool → List CoeMail → Type 0
  Stores app handled t bytes got n toggle ms =
      Carried o eoe areas (in_download app handled t (length bytes) got toggle) (download_means o eoe app t bytes (o.download app t bytes)) (segments_end n toggle) ms

  end_stores : (turns : ℕ) (app : S) (handled : ℕ) (t : Target) (got rest : List ℕ) (toggle : Bool) (part : ℕ) (bytes : List ℕ) →
      0 < length rest → length rest ≤ part → got ++ rest ≡ bytes →
      Stores app handled t bytes got (parts_of part (length rest)) toggle
      (talk o eoe areas (suc turns) (in_download app handled t (length bytes) got toggle) (mail (Segment toggle true (record { items = rest })) ∷ []))
  end_stores turns app handled t got rest toggle part bytes left fits is =
      let v = in_download app handled t (length bytes) got toggle in
      let m = mail (Segment toggle true (record { items = rest })) in
      let size : length got + length rest ≡ length bytes = omega (arith, ap length is, length-append got rest) in
      let takes : takes_segment o eoe app (downloading t (length bytes) got toggle) toggle true rest ≡ takes_whole o eoe app t bytes (mail (SegmentAnswer toggle)) =
      last_segment app t (length bytes) got rest toggle size ∙ ap (λ l. takes_whole o eoe app t l (mail (SegmentAnswer toggle))) is in
      subst (λ ms. Stores app handled t bytes got (parts_of part (length rest)) toggle ms)
      (sym (whole_talk turns v t bytes m (mail (SegmentAnswer toggle)) takes refl refl))
      (subst (λ n. Stores app handled t bytes got n toggle (m ∷ [])) (sym (one_part part (length rest) left fits))
      (whole_carried v t bytes (segments_end 1 toggle) m (mail (SegmentAnswer toggle)) takes refl (last_reads toggle) (abort_reads toggle t)))

  more_stores : (turns : ℕ) (app : S) (handled : ℕ) (t : Target) (got rest : List ℕ) (toggle : Bool) (part : ℕ) (bytes : List ℕ) (ms : List CoeMail) →
      0 < part → part < length rest → got ++ rest ≡ bytes →
      Stores app handled t bytes (got ++ take part rest) (parts_of part (length (drop part rest))) (not toggle)
      (talk o eoe areas turns (in_download app handled t (length bytes) (got ++ take part rest) (not toggle)) ms) →
      Stores app handled t bytes got (parts_of part (length rest)) toggle
      (talk o eoe areas (suc turns) (in_download app handled t (length bytes) got toggle) (mail (Segment toggle false (record { items = take part rest })) ∷ ms))
  more_stores turns app handled t got rest toggle part bytes ms some more is later =
      let v = in_download app handled t (length bytes) got toggle in
      let m = mail (Segment toggle false (record { items = take part rest })) in
      let a = mail (SegmentAnswer toggle) in
      let transfer = downloading t (length bytes) (got ++ take part rest) (not toggle) in
      let fits : length got + length (take part rest) ≤ length bytes = omega (arith, ap length is, length-append got rest, length-take part rest) in
      let takes = more_segment app t (length bytes) got (take part rest) toggle fits in
      let count : parts_of part (length rest) ≡ suc (parts_of part (length (drop part rest))) =
      more_parts part (length rest) some more ∙ ap (λ n. suc (parts_of part n)) (sym (length-drop part rest)) in
      subst (λ ms. Stores app handled t bytes got (parts_of part (length rest)) toggle ms)
      (sym (talk_onward o eoe areas turns v m a (goes_on app transfer a) ms takes refl refl refl))
      (subst (λ n. Stores app handled t bytes got n toggle (m ∷ talk o eoe areas turns (gone_on o eoe areas v transfer) ms)) (sym count)
      (carried_more o eoe areas v (download_means o eoe app t bytes (o.download app t bytes)) (segments_end (suc (parts_of part (length (drop part rest)))) toggle)
      (segments_end (parts_of part (length (drop part rest))) (not toggle)) m a transfer takes refl (more_reads (parts_of part (length (drop part rest))) toggle)
      (talk o eoe areas turns (gone_on o eoe areas v transfer) ms) later))

  pub segments_store : (fuel turns : ℕ) (app : S) (handled : ℕ) (t : Target) (got rest : List ℕ) (toggle : Bool) (part : ℕ) (bytes : List ℕ) →
      0 < part → 0 < length rest → length rest ≤ fuel → length rest ≤ turns → got ++ rest ≡ bytes →
      Stores app handled t bytes got (parts_of part (length rest)) toggle (talk o eoe areas turns (in_download app handled t (length bytes) got toggle) (segments fuel part toggle rest))
  segments_store zero turns app handled t got rest toggle part bytes some left fuels enough is = absurd (omega arith)
  segments_store (suc fuel) zero app handled t got rest toggle part bytes some left fuels enough is = absurd (omega arith)
  segments_store (suc fuel) (suc turns) app handled t got rest toggle part bytes some left fuels enough is =
      elim (cases_lt part (length rest)) [
        | inr fits ↦ rw (le-leb (length rest) part fits) (end_stores turns app handled t got rest toggle part bytes left fits is)
        | inl more ↦
            let whole : got ++ take part rest ++ drop part rest ≡ bytes = append_assoc got (take part rest) (drop part rest) ∙ ap (λ l. got ++ l) (take-append-drop part rest) ∙ is in
            rw (lt-leb (length rest) part more) (more_stores turns app handled t got rest toggle part bytes (segments fuel part (not toggle) (drop part rest)) some more is
            (segments_store fuel turns app handled t (got ++ take part rest) (drop part rest) (not toggle) part bytes some
            (omega (arith, length-drop part rest)) (omega (arith, length-drop part rest)) (omega (arith, length-drop part rest)) whole))
      ]

  -- which mails a download has
  pub expedited : (bytes : List ℕ) → 0 < length bytes → length bytes ≤ 4 → is_expedited bytes ≡ true
  expedited bytes some few = rw (le-leb 1 (length bytes) some, le-leb (length bytes) 4 few) refl

  pub not_expedited : (bytes : List ℕ) → (length bytes ≡ 0) ⊎ (4 < length bytes) → is_expedited bytes ≡ false
  not_expedited bytes (inl none) = let less : length bytes < 1 = omega arith in rw (lt-leb 1 (length bytes) less) refl
  not_expedited bytes (inr many) = let some : 1 ≤ length bytes = omega arith in rw (le-leb 1 (length bytes) some, lt-leb (length bytes) 4 many) refl

  mails_expedited : (room : ℕ) (t : Target) (bytes : List ℕ) → is_expedited bytes ≡ true →
      download_mails room t bytes ≡ mail (Expedited t.index t.sub t.all (record { items = bytes })) ∷ []
  mails_expedited room t bytes is = rw is refl

  mails_whole : (room : ℕ) (t : Target) (bytes : List ℕ) → is_expedited bytes ≡ false → length bytes ≤ room - 16 →
      download_mails room t bytes ≡ mail (First t.index t.sub t.all (length bytes) (record { items = bytes })) ∷ []
  mails_whole room t bytes is fits = rw (is, le-leb (length bytes) (room - 16) fits, take_all (room - 16) bytes fits) refl

  mails_parts : (room : ℕ) (t : Target) (bytes : List ℕ) → is_expedited bytes ≡ false → room - 16 < length bytes →
      download_mails room t bytes ≡ mail (First t.index t.sub t.all (length bytes) (record { items = take (room - 16) bytes })) ∷ segments (length bytes) (room - 9) false (drop (room - 16) bytes)
  mails_parts room t bytes is more = rw (is, lt-leb (length bytes) (room - 16) more) refl

  -- what the client reads of the answer to its first mail
  first_reads : (room : ℕ) (t : Target) (bytes : List ℕ) (hs : List CoeMail) → download_ends room t bytes (download_answer t ∷ hs) ≡ segments_end (parts_of (room - 9) (length bytes - (room - 16))) false hs
  first_reads room t bytes hs = rw (is_of_itself t) refl

  first_done : (room : ℕ) (t : Target) (bytes : List ℕ) → 20 ≤ room → length bytes ≤ room - 16 → download_ends room t bytes (download_answer t ∷ []) ≡ Some (ReplyKind.Done, [])
  first_done room t bytes long fits =
      let none : length bytes - (room - 16) ≡ 0 = omega arith in
      first_reads room t bytes [] ∙ ap (λ n. segments_end (parts_of (room - 9) n) false []) none ∙ ap (λ n. segments_end n false []) (no_parts (room - 9) (omega arith))

  abbrev Downloads : Server S → Target → List ℕ → List CoeMail → Type 0
  Downloads v t bytes ms = Carried o eoe areas v (download_means o eoe v.app t bytes (o.download v.app t bytes)) (download_ends areas.out t bytes) ms

  one_mail : (turns : ℕ) (v : Server S) (t : Target) (bytes : List ℕ) (m : CoeMail) → 20 ≤ areas.out → length bytes ≤ areas.out - 16 →
      coe_outcome o eoe areas.back v.app v.transfer m ≡ takes_whole o eoe v.app t bytes (download_answer t) → Downloads v t bytes (talk o eoe areas (suc turns) v (m ∷ []))
  one_mail turns v t bytes m long fits is =
      subst (Downloads v t bytes) (sym (whole_talk turns v t bytes m (download_answer t) is refl refl))
      (whole_carried v t bytes (download_ends areas.out t bytes) m (download_answer t) is refl (first_done areas.out t bytes long fits) (λ code. refl))

  first_whole : (v : Server S) (t : Target) (bytes : List ℕ) → takes_first o eoe v.app t (length bytes) bytes ≡ takes_whole o eoe v.app t bytes (download_answer t)
  first_whole v t bytes = rw (eq-eqb (length bytes) (length bytes) refl) refl

  first_part : (v : Server S) (t : Target) (size : ℕ) (part : List ℕ) → (size ≡ length part → ⊥) → takes_first o eoe v.app t size part ≡ begins v.app t size part (o.check v.app t size)
  first_part v t size part apart = rw (ne_eqb size (length part) apart) refl

  begun_download : AreLawful o → (turns : ℕ) (v : Server S) (t : Target) (bytes : List ℕ) → o.valid v.app ≡ true → 20 ≤ areas.out → areas.out - 16 < length bytes → length bytes ≤ turns → (found : Option ℕ) →
      o.check v.app t (length bytes) ≡ found →
      takes_first o eoe v.app t (length bytes) (take (areas.out - 16) bytes) ≡ begins v.app t (length bytes) (take (areas.out - 16) bytes) found →
      Downloads v t bytes (talk o eoe areas (suc turns) v (mail (First t.index t.sub t.all (length bytes) (record { items = take (areas.out - 16) bytes })) ∷ segments (length bytes) (areas.out - 9) false (drop (areas.out - 16) bytes)))
  begun_download law turns v t bytes sound long more enough None checked is =
      let m = mail (First t.index t.sub t.all (length bytes) (record { items = take (areas.out - 16) bytes })) in
      let ms = segments (length bytes) (areas.out - 9) false (drop (areas.out - 16) bytes) in
      let transfer = downloading t (length bytes) (take (areas.out - 16) bytes) false in
      subst (Downloads v t bytes) (sym (talk_onward o eoe areas turns v m (download_answer t) (goes_on v.app transfer (download_answer t)) ms is refl refl refl))
      (carried_more o eoe areas v (download_means o eoe v.app t bytes (o.download v.app t bytes)) (download_ends areas.out t bytes)
      (segments_end (parts_of (areas.out - 9) (length (drop (areas.out - 16) bytes))) false) m (download_answer t) transfer is refl
      (λ hs. first_reads areas.out t bytes hs ∙ ap (λ n. segments_end (parts_of (areas.out - 9) n) false hs) (sym (length-drop (areas.out - 16) bytes)))
      (talk o eoe areas turns (gone_on o eoe areas v transfer) ms)
      (segments_store (length bytes) turns v.app v.handled t (take (areas.out - 16) bytes) (drop (areas.out - 16) bytes) false (areas.out - 9) bytes
      (omega arith) (omega (arith, length-drop (areas.out - 16) bytes)) (omega (arith, length-drop (areas.out - 16) bytes)) (omega (arith, length-drop (areas.out - 16) bytes))
      (take-append-drop (areas.out - 16) bytes)))
  begun_download law turns v t bytes sound long more enough (Some code) checked is =
      let m = mail (First t.index t.sub t.all (length bytes) (record { items = take (areas.out - 16) bytes })) in
      let ms = segments (length bytes) (areas.out - 9) false (drop (areas.out - 16) bytes) in
      let fails : o.download v.app t bytes ≡ Err code = law.early v.app t bytes code sound checked in
      subst (Downloads v t bytes) (sym (talk_over o eoe areas turns v m (abort t code) (ended v.app idle (abort t code)) ms is refl refl refl))
      (subst (λ r. Carried o eoe areas v (download_means o eoe v.app t bytes r) (download_ends areas.out t bytes) (m ∷ [])) (sym fails)
      (carried_one o eoe areas v (download_means o eoe v.app t bytes (Err code)) (download_ends areas.out t bytes) m (abort t code) (ended v.app idle (abort t code)) is refl refl refl refl refl refl))

  pub download_carried : AreLawful o → (turns : ℕ) (v : Server S) (t : Target) (bytes : List ℕ) → o.valid v.app ≡ true → 20 ≤ areas.out → length bytes ≤ turns →
      Downloads v t bytes (talk o eoe areas (suc turns) v (download_mails areas.out t bytes))
  download_carried law turns v t bytes sound long enough = elim (cases_lt 0 (length bytes)) [
    | inr none ↦ in_first (inl (omega arith))
    | inl some ↦ elim (cases_lt 4 (length bytes)) [
      | inl many ↦ in_first (inr many)
      | inr few ↦ subst (λ ms. Downloads v t bytes (talk o eoe areas (suc turns) v ms)) (sym (mails_expedited areas.out t bytes (expedited bytes some few)))
          (one_mail turns v t bytes (mail (Expedited t.index t.sub t.all (record { items = bytes }))) long (omega arith) refl)
    ]
  ]
    where
      in_first : (length bytes ≡ 0) ⊎ (4 < length bytes) → Downloads v t bytes (talk o eoe areas (suc turns) v (download_mails areas.out t bytes))
      in_first many = elim (cases_lt (areas.out - 16) (length bytes)) [
        | inr fits ↦ subst (λ ms. Downloads v t bytes (talk o eoe areas (suc turns) v ms)) (sym (mails_whole areas.out t bytes (not_expedited bytes many) fits))
            (one_mail turns v t bytes (mail (First t.index t.sub t.all (length bytes) (record { items = bytes }))) long fits (first_whole v t bytes))
        | inl more ↦ subst (λ ms. Downloads v t bytes (talk o eoe areas (suc turns) v ms)) (sym (mails_parts areas.out t bytes (not_expedited bytes many) more))
            (begun_download law turns v t bytes sound long more enough (o.check v.app t (length bytes)) refl
            (first_part v t (length bytes) (take (areas.out - 16) bytes) (λ e. omega (arith, e, length-take (areas.out - 16) bytes))))
      ]
