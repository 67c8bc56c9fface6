-- A read gives the whole file, of any size, through mailboxes of any lengths, and counts at its request.
use Rattle.std.proofs.Common.{◌≡◌, ◌⊎◌, inl, inr, ℕ, zero, suc, ◌+◌, ◌<◌, ◌≤◌, true, false, List, [], ◌∷◌, ◌++◌, length, take, drop, Option, None, Some, refl, sym, ap, ◌∙◌, subst, arith, append_assoc, append-nil, length-append, length-drop, length-take, take-append-drop, take_all, eq-eqb, lt-ltb, le-ltb, nat_lt}
use Rattle.std.proofs.lemmas.Bool.{cases_lt}
use Rattle.exchange_model.specs.Areas.{Areas}
use Rattle.exchange_model.specs.Exchange.{Before, Behind, after, given}
use Rattle.mailbox_mail.specs.declared.outcome.ReplyKind.{ReplyKind}
use Rattle.protocol_models.specs.FoeMails.{FoeMail, mail, Read, Ack}
use Rattle.protocol_models.specs.Files.{Files, AreLawful}
use Rattle.protocol_models.specs.FoeServer.{idle, reading, Server, ended, goes_on, silent, refusal, packet_room, packet_of, opened, takes_ack, behind}
use Rattle.protocol_models.specs.FoeMeaning.{read, read_means, meaning_of}
use Rattle.protocol_models.specs.FoeClient.{acks, most, packets_end}
use Rattle.protocol_models.specs.FoeModel.{read_length, foe_exchange}
use Rattle.protocol_models.proofs.FoeCarries.{step, foe_takes, talk, Still, still_none, still_more, talk_onward, talk_over, talk_waits, Kept, before, none_emitted}

module _ {S : Type 0} (o : Files S) (areas : Areas) where
  abbrev room : ℕ
  room = packet_room areas.back

  abbrev in_read : S → ℕ → ℕ → List ℕ → Server S
  in_read app handled number left = record { app = app; handled = handled; transfer = reading number left }

  -- the rest of a file, from packet `number` on, which was given: no more mails than octets and one, which carry out nothing
  pub record Fetched (v : Server S) (number : ℕ) (bytes got left : List ℕ) (ms : List FoeMail) : Type 0 where
    pub replied : packets_end areas.back number got (packet_of areas.back number left ∷ given (step o areas) v ms) ≡ Some (ReplyKind.Value, bytes)
    pub still : (p r : List FoeMail) → ms ≡ p ++ r → Still o areas v p
    pub few : length ms ≤ suc (length left)

  -- what the client reads of one packet
  last_reads : (number : ℕ) (bytes got left : List ℕ) → length bytes ≤ 131072 → got ++ left ≡ bytes → length left < room →
      packets_end areas.back number got (packet_of areas.back number left ∷ []) ≡ Some (ReplyKind.Value, bytes)
  last_reads number bytes got left fits whole short =
      let all : take room left ≡ left = take_all room left (omega arith) in
      let within : nat_lt most (length (got ++ left)) ≡ false = le-ltb most (length (got ++ left)) (omega (arith, ap length whole)) in
      rw (eq-eqb number number refl, all, within, lt-ltb (length left) room short) (ap (λ l. Some (ReplyKind.Value, l)) whole)

  more_reads : (number : ℕ) (got left : List ℕ) (hs : List FoeMail) → length (got ++ take room left) ≤ 131072 → room ≤ length (take room left) →
      packets_end areas.back number got (packet_of areas.back number left ∷ hs) ≡ packets_end areas.back (number + 1) (got ++ take room left) hs
  more_reads number got left hs fits long =
      rw (eq-eqb number number refl, le-ltb most (length (got ++ take room left)) fits, le-ltb (length (take room left)) room long) refl

  last_acked : (app : S) (number : ℕ) (left : List ℕ) → length left < room → takes_ack areas.back app (reading number left) number ≡ silent app idle
  last_acked app number left short = rw (eq-eqb number number refl, lt-ltb (length left) room short) refl

  more_acked : (app : S) (number : ℕ) (left : List ℕ) → room ≤ length left →
      takes_ack areas.back app (reading number left) number ≡ goes_on app (reading (number + 1) (drop room left)) (packet_of areas.back (number + 1) (drop room left))
  more_acked app number left long = rw (eq-eqb number number refl, le-ltb (length left) room long) refl

  still_parts : (v : Server S) (m : FoeMail) (others : List FoeMail) → ((p r : List FoeMail) → others ≡ p ++ r → Still o areas v (m ∷ p)) →
      (p r : List FoeMail) → m ∷ others ≡ p ++ r → Still o areas v p
  still_parts v m others still [] r e = still_none o areas v
  still_parts v m others still (k ∷ p) r e =
      let first : m ≡ k = cc in
      let rest : others ≡ p ++ r = cc in
      subst (λ k. Still o areas v (k ∷ p)) first (still p r rest)

  fetched_last : (turns : ℕ) (app : S) (handled number : ℕ) (bytes got left : List ℕ) (ms : List FoeMail) → length bytes ≤ 131072 → got ++ left ≡ bytes → length left < room →
      Fetched (in_read app handled number left) number bytes got left (talk o areas (suc turns) (in_read app handled number left) (mail (Ack number) ∷ ms))
  fetched_last turns app handled number bytes got left ms fits whole short =
      let v = in_read app handled number left in
      let m = mail (Ack number) in
      let is = last_acked app number left short in
      subst (Fetched v number bytes got left) (sym (talk_waits o areas turns v m app idle ms is)) (record {
        replied = ap (λ y. packets_end areas.back number got (packet_of areas.back number left ∷ ((behind handled y).1 ++ []))) is ∙ last_reads number bytes got left fits whole short;
        still = still_parts v m [] only;
        few = omega arith;
      })
    where
      only : (p r : List FoeMail) → [] ≡ p ++ r → Still o areas (in_read app handled number left) (mail (Ack number) ∷ p)
      only [] r e =
          let is = last_acked app number left short in
          record { app = ap (λ y. (behind handled y).0.app) is; handled = ap (λ y. (behind handled y).0.handled) is }
      only (k ∷ p) r e = absurd (cc)

  fetched_more : (turns : ℕ) (app : S) (handled number : ℕ) (bytes got left : List ℕ) (ms : List FoeMail) → 0 < room → length bytes ≤ 131072 → got ++ left ≡ bytes → room ≤ length left →
      Fetched (in_read app handled (number + 1) (drop room left)) (number + 1) bytes (got ++ take room left) (drop room left)
      (talk o areas turns (in_read app handled (number + 1) (drop room left)) ms) →
      Fetched (in_read app handled number left) number bytes got left (talk o areas (suc turns) (in_read app handled number left) (mail (Ack number) ∷ ms))
  fetched_more turns app handled number bytes got left ms wide fits whole long later =
      let v = in_read app handled number left in
      let w = in_read app handled (number + 1) (drop room left) in
      let m = mail (Ack number) in
      let a = packet_of areas.back (number + 1) (drop room left) in
      let transfer = reading (number + 1) (drop room left) in
      let others = talk o areas turns w ms in
      let is = more_acked app number left long in
      subst (Fetched v number bytes got left) (sym (talk_onward o areas turns v m a (goes_on app transfer a) ms is refl refl)) (record {
        replied = ap (λ y. packets_end areas.back number got (packet_of areas.back number left ∷ ((behind handled y).1 ++ given (step o areas) (behind handled y).0 others))) is
            ∙ more_reads number got left (a ∷ given (step o areas) w others)
            (omega (arith, ap length whole, length-append got left, length-append got (take room left), length-take room left)) (omega (arith, length-take room left))
            ∙ later.replied;
        still = still_parts v m others (λ p r e. still_more o areas v m a transfer is p (later.still p r e));
        few = omega (arith, later.few, length-drop room left);
      })

  pub all_fetched : (n turns : ℕ) (app : S) (handled number : ℕ) (bytes got left : List ℕ) → 0 < room → length bytes ≤ 131072 → got ++ left ≡ bytes →
      length left < n → length left < turns →
      Fetched (in_read app handled number left) number bytes got left (talk o areas turns (in_read app handled number left) (acks n number))
  all_fetched zero turns app handled number bytes got left wide fits whole many enough = absurd (omega arith)
  all_fetched (suc n) zero app handled number bytes got left wide fits whole many enough = absurd (omega arith)
  all_fetched (suc n) (suc turns) app handled number bytes got left wide fits whole many enough = elim (cases_lt (length left) room) [
    | inl short ↦ fetched_last turns app handled number bytes got left (acks n (number + 1)) fits whole short
    | inr long ↦
        let rest : got ++ take room left ++ drop room left ≡ bytes = append_assoc got (take room left) (drop room left) ∙ ap (λ l. got ++ l) (take-append-drop room left) ∙ whole in
        fetched_more turns app handled number bytes got left (acks n (number + 1)) wide fits whole long
        (all_fetched n turns app handled (number + 1) bytes (got ++ take room left) (drop room left) wide fits rest
        (omega (arith, length-drop room left)) (omega (arith, length-drop room left)))
  ]

  abbrev request : List ℕ → ℕ → FoeMail
  request name pass = mail (Read pass (record { items = name }))

  -- a request that was refused has carried out its service
  refused_kept : (turns most : ℕ) (v : Server S) (name : List ℕ) (pass code : ℕ) (ms : List FoeMail) → o.allowed v.app name pass false ≡ Some code → 1 ≤ most →
      Kept o areas v (read name pass) most (talk o areas (suc turns) v (request name pass ∷ ms))
  refused_kept turns most v name pass code ms is some =
      let m = request name pass in
      let x = ended v.app idle (refusal code) in
      let takes_is : foe_takes o areas v m ≡ x = ap (opened areas.back v.app (o.get v.app name)) is in
      let means : meaning_of o v.app (read name pass) ≡ read_means o v.app name (Some code) = ap (read_means o v.app name) is in
      subst (Kept o areas v (read name pass) most) (sym (talk_over o areas turns v m (refusal code) x ms takes_is refl refl)) (record {
        few = omega (arith, some);
        whole = counts takes_is means;
        replied = ap (λ y. packets_end areas.back 1 [] ((behind v.handled y).1 ++ [])) takes_is ∙ ap (λ y. Some y.reply) (sym means);
        part = parts (counts takes_is means);
      })
    where
      counts : foe_takes o areas v (request name pass) ≡ ended v.app idle (refusal code) → meaning_of o v.app (read name pass) ≡ read_means o v.app name (Some code) →
          Behind (foe_exchange o areas) v (read name pass) (request name pass ∷ [])
      counts takes_is means = record {
        app = ap (λ y. (behind v.handled y).0.app) takes_is ∙ ap (λ y. y.app) (sym means);
        handled = ap (λ y. (behind v.handled y).0.handled) takes_is;
        emitted = ([], append-nil _ ∙ none_emitted (given (step o areas) v (request name pass ∷ [])));
      }

      parts : Behind (foe_exchange o areas) v (read name pass) (request name pass ∷ []) → (p r : List FoeMail) → request name pass ∷ [] ≡ p ++ r →
          Before (foe_exchange o areas) v p ⊎ Behind (foe_exchange o areas) v (read name pass) p
      parts whole [] r e = inl (before o areas v [] (still_none o areas v))
      parts whole (k ∷ []) r e = inr (let first : request name pass ≡ k = cc in subst (λ k. Behind (foe_exchange o areas) v (read name pass) (k ∷ [])) first whole)
      parts whole (k ∷ l ∷ p) r e = absurd (cc)

  -- one that was not has carried it out as well, and the acknowledgements carry out nothing
  opened_kept : (n turns most : ℕ) (v : Server S) (name : List ℕ) (pass : ℕ) → o.allowed v.app name pass false ≡ None → 0 < room →
      length (o.get v.app name) ≤ 131072 → length (o.get v.app name) < n → length (o.get v.app name) < turns → suc (suc (length (o.get v.app name))) ≤ most →
      Kept o areas v (read name pass) most (talk o areas (suc turns) v (request name pass ∷ acks n 1))
  opened_kept n turns most v name pass is wide fits many enough few =
      let bytes = o.get v.app name in
      let m = request name pass in
      let a = packet_of areas.back 1 bytes in
      let x = ended v.app (reading 1 bytes) a in
      let w = in_read v.app (suc v.handled) 1 bytes in
      let takes_is : foe_takes o areas v m ≡ x = ap (opened areas.back v.app bytes) is in
      let means : meaning_of o v.app (read name pass) ≡ read_means o v.app name None = ap (read_means o v.app name) is in
      let others = talk o areas turns w (acks n 1) in
      let fetched = all_fetched n turns v.app (suc v.handled) 1 bytes [] bytes wide fits refl many enough in
      subst (Kept o areas v (read name pass) most) (sym (talk_onward o areas turns v m a x (acks n 1) takes_is refl refl)) (record {
        few = omega (arith, few, fetched.few);
        whole = counted takes_is means others (fetched.still others [] (sym (append-nil others)));
        replied = ap (λ y. packets_end areas.back 1 [] ((behind v.handled y).1 ++ given (step o areas) (behind v.handled y).0 others)) takes_is
            ∙ fetched.replied ∙ ap (λ y. Some y.reply) (sym means);
        part = parts takes_is means others fetched.still;
      })
    where
      counted : foe_takes o areas v (request name pass) ≡ ended v.app (reading 1 (o.get v.app name)) (packet_of areas.back 1 (o.get v.app name)) →
          meaning_of o v.app (read name pass) ≡ read_means o v.app name None → (p : List FoeMail) → Still o areas (in_read v.app (suc v.handled) 1 (o.get v.app name)) p →
          Behind (foe_exchange o areas) v (read name pass) (request name pass ∷ p)
      counted takes_is means p still = record {
        app = ap (λ y. (after (step o areas) (behind v.handled y).0 p).app) takes_is ∙ still.app ∙ ap (λ y. y.app) (sym means);
        handled = ap (λ y. (after (step o areas) (behind v.handled y).0 p).handled) takes_is ∙ still.handled;
        emitted = ([], append-nil _ ∙ none_emitted (given (step o areas) v (request name pass ∷ p)));
      }

      parts : foe_takes o areas v (request name pass) ≡ ended v.app (reading 1 (o.get v.app name)) (packet_of areas.back 1 (o.get v.app name)) →
          meaning_of o v.app (read name pass) ≡ read_means o v.app name None → (others : List FoeMail) → ((p r : List FoeMail) → others ≡ p ++ r → Still o areas (in_read v.app (suc v.handled) 1 (o.get v.app name)) p) →
          (p r : List FoeMail) → request name pass ∷ others ≡ p ++ r → Before (foe_exchange o areas) v p ⊎ Behind (foe_exchange o areas) v (read name pass) p
      parts takes_is means others still [] r e = inl (before o areas v [] (still_none o areas v))
      parts takes_is means others still (k ∷ p) r e =
          let first : request name pass ≡ k = cc in
          let rest : others ≡ p ++ r = cc in
          inr (subst (λ k. Behind (foe_exchange o areas) v (read name pass) (k ∷ p)) first (counted takes_is means p (still p r rest)))

  pub read_kept : AreLawful o → (n turns most : ℕ) (v : Server S) (name : List ℕ) (pass : ℕ) (found : Option ℕ) → o.allowed v.app name pass false ≡ found → o.valid v.app ≡ true →
      0 < room → read_length found (o.get v.app name) < n → read_length found (o.get v.app name) < turns → suc (suc (read_length found (o.get v.app name))) ≤ most →
      Kept o areas v (read name pass) most (talk o areas (suc turns) v (request name pass ∷ acks n 1))
  read_kept law n turns most v name pass None is sound wide many enough few =
      opened_kept n turns most v name pass is wide (law.short v.app name pass sound is) many enough few
  read_kept law n turns most v name pass (Some code) is sound wide many enough few = refused_kept turns most v name pass code (acks n 1) is (omega (arith, few))
