-- An upload gives the whole value, through mailboxes of any lengths, and counts at its first mail.
use Rattle.std.proofs.Common.{◌≡◌, ◌⊎◌, inl, inr, ℕ, zero, suc, ◌+◌, ◌-◌, ◌<◌, ◌≤◌, Bool, true, false, not, List, [], ◌∷◌, ◌++◌, length, take, drop, Some, Result, Ok, Err, refl, sym, ap, ◌∙◌, subst, arith, append-nil, append_assoc, length-append, length-drop, length-take, take-append-drop, eq-eqb, ne_eqb, lt-ltb, le-ltb, le-leb}
use Rattle.std.proofs.lemmas.Bool.{cases_lt, lt-leb}
use Rattle.exchange_model.specs.Areas.{Areas}
use Rattle.exchange_model.specs.Exchange.{Before, Behind, after, given, plain, emitted}
use Rattle.exchange_model.specs.Dialogue.{next, stop}
use Rattle.mailbox_mail.specs.declared.outcome.ReplyKind.{ReplyKind}
use Rattle.protocol_models.specs.CoeMails.{CoeMail, mail, is_emission, Upload, ExpeditedAnswer, FirstAnswer, UploadSegment, UploadSegmentAnswer}
use Rattle.protocol_models.specs.Tables.{Target, Tables}
use Rattle.protocol_models.specs.CoeServer.{idle, uploading, Server, coe_outcome, ended, goes_on, opened, takes_upload_segment, abort, is_expedited, behind, serve}
use Rattle.protocol_models.specs.CoeMeaning.{upload, value_means, meaning_of}
use Rattle.protocol_models.specs.CoeClient.{decide, requests, parts_end, upload_ends, most}
use Rattle.protocol_models.specs.CoeModel.{coe_exchange, value_length}
use Rattle.protocol_models.proofs.Basics.{same_itself, is_of_itself}
use Rattle.protocol_models.proofs.CoeCarries.{Carried, carried_one, before_none, still_none, still_more, gone_on, talk, talk_onward, talk_over, Kept, kept_from_carried}
use Rattle.protocol_models.proofs.DownloadLaw.{expedited, not_expedited}

module _ {S : Type 0} (o : Tables S) (eoe : Bool) (areas : Areas) where
  abbrev in_upload : S → ℕ → Target → List ℕ → Bool → Server S
  in_upload app handled t rest toggle = record { app = app; handled = handled; transfer = uploading t rest toggle }

  -- the rest of a value, behind what came: no more mails than octets, which carry out nothing
  pub record Fetched (v : Server S) (bytes got : List ℕ) (toggle : Bool) (ms : List CoeMail) : Type 0 where
    pub replied : parts_end (length bytes) got toggle (plain is_emission (given (serve o eoe areas.back) v ms)) ≡ Some (ReplyKind.Value, bytes)
    pub still : (p r : List CoeMail) → ms ≡ p ++ r → Before (coe_exchange o eoe areas) v p
    pub few : length ms + length got ≤ length bytes

  -- what the client reads of one part
  last_reads : (bytes got rest : List ℕ) (toggle : Bool) → got ++ rest ≡ bytes →
      parts_end (length bytes) got toggle (mail (UploadSegmentAnswer toggle true (record { items = rest })) ∷ []) ≡ Some (ReplyKind.Value, bytes)
  last_reads bytes got rest toggle is =
      let less : length (got ++ rest) ≤ length bytes = omega (arith, ap length is) in
      rw (same_itself toggle, le-ltb (length bytes) (length (got ++ rest)) less, eq-eqb (length (got ++ rest)) (length bytes) (ap length is)) (ap (λ l. Some (ReplyKind.Value, l)) is)

  more_reads : (bytes got part : List ℕ) (toggle : Bool) (hs : List CoeMail) → length (got ++ part) ≤ length bytes →
      parts_end (length bytes) got toggle (mail (UploadSegmentAnswer toggle false (record { items = part })) ∷ hs) ≡ parts_end (length bytes) (got ++ part) (not toggle) hs
  more_reads bytes got part toggle hs fits = rw (same_itself toggle, le-ltb (length bytes) (length (got ++ part)) fits) refl

  last_request : (app : S) (handled : ℕ) (t : Target) (rest : List ℕ) (toggle : Bool) → length rest ≤ areas.back - 9 →
      takes_upload_segment areas.back app (uploading t rest toggle) toggle ≡ goes_on app idle (mail (UploadSegmentAnswer toggle true (record { items = rest })))
  last_request app handled t rest toggle fits = rw (same_itself toggle, le-leb (length rest) (areas.back - 9) fits) refl

  more_request : (app : S) (handled : ℕ) (t : Target) (rest : List ℕ) (toggle : Bool) → areas.back - 9 < length rest →
      takes_upload_segment areas.back app (uploading t rest toggle) toggle
      ≡ goes_on app (uploading t (drop (areas.back - 9) rest) (not toggle)) (mail (UploadSegmentAnswer toggle false (record { items = take (areas.back - 9) rest })))
  more_request app handled t rest toggle more = rw (same_itself toggle, lt-leb (length rest) (areas.back - 9) more) refl

  fetched_last : (turns : ℕ) (app : S) (handled : ℕ) (t : Target) (bytes got rest : List ℕ) (toggle : Bool) (ms : List CoeMail) → 0 < length rest → length rest ≤ areas.back - 9 → got ++ rest ≡ bytes →
      Fetched (in_upload app handled t rest toggle) bytes got toggle (talk o eoe areas (suc turns) (in_upload app handled t rest toggle) (mail (UploadSegment toggle) ∷ ms))
  fetched_last turns app handled t bytes got rest toggle ms some fits is =
      let v = in_upload app handled t rest toggle in
      let m = mail (UploadSegment toggle) in
      let a = mail (UploadSegmentAnswer toggle true (record { items = rest })) in
      let takes = last_request app handled t rest toggle fits in
      let one : serve o eoe areas.back v m ≡ (record { app = app; handled = handled; transfer = idle }, a ∷ []) = ap (behind o handled) takes in
      subst (λ l. Fetched v bytes got toggle l) (sym (talk_over o eoe areas turns v m a (goes_on app idle a) ms takes refl refl refl)) (record {
        replied = ap (λ y. parts_end (length bytes) got toggle (plain is_emission (y.1 ++ []))) one ∙ last_reads bytes got rest toggle is;
        still = still_more o eoe areas v m a idle takes refl [] (still_none o eoe areas (gone_on o eoe areas v idle));
        few = omega (arith, ap length is, length-append got rest);
      })

  fetched_more : (turns : ℕ) (app : S) (handled : ℕ) (t : Target) (bytes got rest : List ℕ) (toggle : Bool) (ms : List CoeMail) → 0 < areas.back - 9 → areas.back - 9 < length rest → got ++ rest ≡ bytes →
      Fetched (in_upload app handled t (drop (areas.back - 9) rest) (not toggle)) bytes (got ++ take (areas.back - 9) rest) (not toggle)
      (talk o eoe areas turns (in_upload app handled t (drop (areas.back - 9) rest) (not toggle)) ms) →
      Fetched (in_upload app handled t rest toggle) bytes got toggle (talk o eoe areas (suc turns) (in_upload app handled t rest toggle) (mail (UploadSegment toggle) ∷ ms))
  fetched_more turns app handled t bytes got rest toggle ms wide more is later =
      let v = in_upload app handled t rest toggle in
      let m = mail (UploadSegment toggle) in
      let a = mail (UploadSegmentAnswer toggle false (record { items = take (areas.back - 9) rest })) in
      let transfer = uploading t (drop (areas.back - 9) rest) (not toggle) in
      let takes = more_request app handled t rest toggle more in
      let w = in_upload app handled t (drop (areas.back - 9) rest) (not toggle) in
      let others = talk o eoe areas turns w ms in
      let one : serve o eoe areas.back v m ≡ (w, a ∷ []) = ap (behind o handled) takes in
      let long : length (got ++ take (areas.back - 9) rest) ≡ length got + (areas.back - 9) = omega (arith, length-append got (take (areas.back - 9) rest), length-take (areas.back - 9) rest) in
      subst (λ l. Fetched v bytes got toggle l) (sym (talk_onward o eoe areas turns v m a (goes_on app transfer a) ms takes refl refl refl)) (record {
        replied = ap (λ y. parts_end (length bytes) got toggle (plain is_emission (y.1 ++ given (serve o eoe areas.back) y.0 others))) one
            ∙ more_reads bytes got (take (areas.back - 9) rest) toggle (plain is_emission (given (serve o eoe areas.back) w others)) (omega (arith, long, ap length is, length-append got rest))
            ∙ later.replied;
        still = still_more o eoe areas v m a transfer takes refl others later.still;
        few = omega (arith, later.few, long);
      })

  pub all_fetched : (n turns : ℕ) (app : S) (handled : ℕ) (t : Target) (bytes got rest : List ℕ) (toggle : Bool) → 0 < areas.back - 9 → 0 < length rest → length rest ≤ n → length rest ≤ turns →
      got ++ rest ≡ bytes → Fetched (in_upload app handled t rest toggle) bytes got toggle (talk o eoe areas turns (in_upload app handled t rest toggle) (requests n toggle))
  all_fetched zero turns app handled t bytes got rest toggle wide some many enough is = absurd (omega arith)
  all_fetched (suc n) zero app handled t bytes got rest toggle wide some many enough is = absurd (omega arith)
  all_fetched (suc n) (suc turns) app handled t bytes got rest toggle wide some many enough is = elim (cases_lt (areas.back - 9) (length rest)) [
    | inr fits ↦ fetched_last turns app handled t bytes got rest toggle (requests n (not toggle)) some fits is
    | inl more ↦
        let whole : got ++ take (areas.back - 9) rest ++ drop (areas.back - 9) rest ≡ bytes =
        append_assoc got (take (areas.back - 9) rest) (drop (areas.back - 9) rest) ∙ ap (λ l. got ++ l) (take-append-drop (areas.back - 9) rest) ∙ is in
        fetched_more turns app handled t bytes got rest toggle (requests n (not toggle)) wide more is
        (all_fetched n turns app handled t bytes (got ++ take (areas.back - 9) rest) (drop (areas.back - 9) rest) (not toggle) wide
        (omega (arith, length-drop (areas.back - 9) rest)) (omega (arith, length-drop (areas.back - 9) rest)) (omega (arith, length-drop (areas.back - 9) rest)) whole)
  ]

  -- what the client reads of the answer to its request
  short_reads : (t : Target) (bytes : List ℕ) → upload_ends t (mail (ExpeditedAnswer t.index t.sub (record { items = bytes })) ∷ []) ≡ Some (ReplyKind.Value, bytes)
  short_reads t bytes = rw (is_of_itself t) refl

  whole_reads : (t : Target) (bytes : List ℕ) → length bytes ≤ 16384 → upload_ends t (mail (FirstAnswer t.index t.sub (length bytes) (record { items = bytes })) ∷ []) ≡ Some (ReplyKind.Value, bytes)
  whole_reads t bytes few =
      rw (is_of_itself t, le-ltb 16384 (length bytes) few, le-ltb (length bytes) (length bytes) (omega arith), eq-eqb (length bytes) (length bytes) refl) refl

  first_reads : (t : Target) (bytes part : List ℕ) (hs : List CoeMail) → length bytes ≤ 16384 → length part < length bytes →
      upload_ends t (mail (FirstAnswer t.index t.sub (length bytes) (record { items = part })) ∷ hs) ≡ parts_end (length bytes) part false hs
  first_reads t bytes part hs few less =
      let apart : length part ≡ length bytes → ⊥ = λ e. omega (arith, e) in
      rw (is_of_itself t, le-ltb 16384 (length bytes) few, le-ltb (length bytes) (length part) (omega arith), ne_eqb (length part) (length bytes) apart) refl

  -- the cases of an answer
  opened_short : (app : S) (t : Target) (bytes : List ℕ) → is_expedited bytes ≡ true →
      opened areas.back app t (Ok bytes) ≡ ended app idle (mail (ExpeditedAnswer t.index t.sub (record { items = bytes })))
  opened_short app t bytes is = rw is refl

  opened_whole : (app : S) (t : Target) (bytes : List ℕ) → is_expedited bytes ≡ false → length bytes ≤ areas.back - 16 →
      opened areas.back app t (Ok bytes) ≡ ended app idle (mail (FirstAnswer t.index t.sub (length bytes) (record { items = bytes })))
  opened_whole app t bytes is fits = rw (is, le-leb (length bytes) (areas.back - 16) fits) refl

  opened_part : (app : S) (t : Target) (bytes : List ℕ) → is_expedited bytes ≡ false → areas.back - 16 < length bytes →
      opened areas.back app t (Ok bytes) ≡ ended app (uploading t (drop (areas.back - 16) bytes) false) (mail (FirstAnswer t.index t.sub (length bytes) (record { items = take (areas.back - 16) bytes })))
  opened_part app t bytes is more = rw (is, lt-leb (length bytes) (areas.back - 16) more) refl

  abbrev request : Target → CoeMail
  request t = mail (Upload t.index t.sub t.all)

  -- a request with one answer
  one_kept : (turns most : ℕ) (v : Server S) (t : Target) (ms : List CoeMail) (r : Result (List ℕ) ℕ) (a : CoeMail) → o.upload v.app t ≡ r → opened areas.back v.app t r ≡ ended v.app idle a →
      is_emission a ≡ false → decide (request t) (a ∷ []) ≡ Some stop → (value_means v.app r).app ≡ v.app → (value_means v.app r).emits ≡ [] →
      upload_ends t (a ∷ []) ≡ Some (value_means v.app r).reply → 1 ≤ most → Kept o eoe areas v (upload t) most (talk o eoe areas (suc turns) v (request t ∷ ms))
  one_kept turns most v t ms r a is opens calm stops app emits reads least =
      let takes : coe_outcome o eoe areas.back v.app v.transfer (request t) ≡ ended v.app idle a = ap (opened areas.back v.app t) is ∙ opens in
      subst (Kept o eoe areas v (upload t) most) (sym (talk_over o eoe areas turns v (request t) a (ended v.app idle a) ms takes refl calm stops))
      (kept_from_carried o eoe areas v (upload t) most (request t ∷ []) least
      (subst (λ r. Carried o eoe areas v (value_means v.app r) (upload_ends t) (request t ∷ [])) (sym is)
      (carried_one o eoe areas v (value_means v.app r) (upload_ends t) (request t) a (ended v.app idle a) takes refl refl calm (sym app) (sym emits) reads)))

  -- a value in parts: it counts at the request
  parts_kept : (n turns : ℕ) (v : Server S) (t : Target) (bytes : List ℕ) → o.upload v.app t ≡ Ok bytes → is_expedited bytes ≡ false → areas.back - 16 < length bytes → 25 ≤ areas.back →
      length bytes ≤ 16384 → length bytes ≤ n → length bytes ≤ turns → Kept o eoe areas v (upload t) (suc (length bytes)) (talk o eoe areas (suc turns) v (request t ∷ requests n false))
  parts_kept n turns v t bytes is long more wide few many enough =
      let rest = drop (areas.back - 16) bytes in
      let a = mail (FirstAnswer t.index t.sub (length bytes) (record { items = take (areas.back - 16) bytes })) in
      let transfer = uploading t rest false in
      let w = in_upload v.app (suc v.handled) t rest false in
      let takes : coe_outcome o eoe areas.back v.app v.transfer (request t) ≡ ended v.app transfer a = ap (opened areas.back v.app t) is ∙ opened_part v.app t bytes long more in
      let one : serve o eoe areas.back v (request t) ≡ (w, a ∷ []) = ap (behind o v.handled) takes in
      let first : length (take (areas.back - 16) bytes) < length bytes = omega (arith, length-take (areas.back - 16) bytes) in
      let goes : decide (request t) (a ∷ []) ≡ Some next = rw (lt-ltb (length (take (areas.back - 16) bytes)) (length bytes) first) refl in
      let others = talk o eoe areas turns w (requests n false) in
      let fetched = all_fetched n turns v.app (suc v.handled) t bytes (take (areas.back - 16) bytes) rest false (omega arith) (omega (arith, length-drop (areas.back - 16) bytes))
      (omega (arith, length-drop (areas.back - 16) bytes)) (omega (arith, length-drop (areas.back - 16) bytes)) (take-append-drop (areas.back - 16) bytes) in
      subst (Kept o eoe areas v (upload t) (suc (length bytes))) (sym (talk_onward o eoe areas turns v (request t) a (ended v.app transfer a) (requests n false) takes refl refl goes)) (record {
        few = omega (arith, fetched.few);
        whole = counted v w (request t) t a bytes is one refl refl refl others (fetched.still others [] (sym (append-nil others)));
        all_emitted = ap (λ y. emitted is_emission (y.1 ++ given (serve o eoe areas.back) y.0 others)) one ∙ (fetched.still others [] (sym (append-nil others))).emitted
            ∙ sym (ap (λ r. (value_means v.app r).emits) is);
        replied = ap (λ y. upload_ends t (plain is_emission (y.1 ++ given (serve o eoe areas.back) y.0 others))) one
            ∙ first_reads t bytes (take (areas.back - 16) bytes) (plain is_emission (given (serve o eoe areas.back) w others)) few first ∙ fetched.replied
            ∙ sym (ap (λ r. Some (value_means v.app r).reply) is);
        part = parts v w (request t) t a bytes is one refl refl refl others fetched.still;
      })
    where
      counted : (v w : Server S) (m : CoeMail) (t : Target) (a : CoeMail) (bytes : List ℕ) → o.upload v.app t ≡ Ok bytes → serve o eoe areas.back v m ≡ (w, a ∷ []) → w.app ≡ v.app → w.handled ≡ suc v.handled → is_emission a ≡ false →
          (p : List CoeMail) → Before (coe_exchange o eoe areas) w p → Behind (coe_exchange o eoe areas) v (upload t) (m ∷ p)
      counted v w m t a bytes is one app handled calm p before =
          let nothing : emitted is_emission (a ∷ [] ++ given (serve o eoe areas.back) w p) ≡ [] = rw calm before.emitted in record {
            app = ap (λ y. (after (serve o eoe areas.back) y.0 p).app) one ∙ before.app ∙ app ∙ sym (ap (λ r. (value_means v.app r).app) is);
            handled = ap (λ y. (after (serve o eoe areas.back) y.0 p).handled) one ∙ before.handled ∙ handled;
            emitted = (
              (meaning_of o eoe v.app (upload t)).emits,
              ap (λ l. l ++ (meaning_of o eoe v.app (upload t)).emits)
                  (ap (λ y. emitted is_emission (y.1 ++ given (serve o eoe areas.back) y.0 p)) one ∙ nothing),
            );
          }

      parts : (v w : Server S) (m : CoeMail) (t : Target) (a : CoeMail) (bytes : List ℕ) → o.upload v.app t ≡ Ok bytes → serve o eoe areas.back v m ≡ (w, a ∷ []) → w.app ≡ v.app → w.handled ≡ suc v.handled → is_emission a ≡ false →
          (others : List CoeMail) → ((p r : List CoeMail) → others ≡ p ++ r → Before (coe_exchange o eoe areas) w p) → (p r : List CoeMail) → m ∷ others ≡ p ++ r →
          Before (coe_exchange o eoe areas) v p ⊎ Behind (coe_exchange o eoe areas) v (upload t) p
      parts v w m t a bytes is one app handled calm others still [] r e = inl (before_none o eoe areas v)
      parts v w m t a bytes is one app handled calm others still (k ∷ p) r e =
          let first : m ≡ k = cc in
          let rest : others ≡ p ++ r = cc in
          inr (subst (λ k. Behind (coe_exchange o eoe areas) v (upload t) (k ∷ p)) first (counted v w m t a bytes is one app handled calm p (still p r rest)))

  pub upload_by : (n turns : ℕ) (v : Server S) (t : Target) (r : Result (List ℕ) ℕ) → o.upload v.app t ≡ r → 25 ≤ areas.back → value_length r ≤ 16384 → value_length r ≤ n → value_length r ≤ turns →
      Kept o eoe areas v (upload t) (suc (value_length r)) (talk o eoe areas (suc turns) v (request t ∷ requests n false))
  upload_by n turns v t (Err code) is wide few many enough =
      one_kept turns 1 v t (requests n false) (Err code) (abort t code) is refl refl refl refl refl refl (omega arith)
  upload_by n turns v t (Ok bytes) is wide few many enough = elim (cases_lt 0 (length bytes)) [
    | inr none ↦ in_first (inl (omega arith))
    | inl some ↦ elim (cases_lt 4 (length bytes)) [
      | inl long ↦ in_first (inr long)
      | inr short ↦ one_kept turns (suc (length bytes)) v t (requests n false) (Ok bytes) (mail (ExpeditedAnswer t.index t.sub (record { items = bytes }))) is
          (opened_short v.app t bytes (expedited o eoe areas bytes some short)) refl refl refl refl (short_reads t bytes) (omega arith)
    ]
  ]
    where
      in_first : (length bytes ≡ 0) ⊎ (4 < length bytes) → Kept o eoe areas v (upload t) (suc (length bytes)) (talk o eoe areas (suc turns) v (request t ∷ requests n false))
      in_first long = elim (cases_lt (areas.back - 16) (length bytes)) [
        | inr fits ↦ one_kept turns (suc (length bytes)) v t (requests n false) (Ok bytes) (mail (FirstAnswer t.index t.sub (length bytes) (record { items = bytes }))) is
            (opened_whole v.app t bytes (not_expedited o eoe areas bytes long) fits) refl (rw (le-ltb (length bytes) (length bytes) (omega arith)) refl) refl refl (whole_reads t bytes few) (omega arith)
        | inl more ↦ parts_kept n turns v t bytes is (not_expedited o eoe areas bytes long) more wide few many enough
      ]
