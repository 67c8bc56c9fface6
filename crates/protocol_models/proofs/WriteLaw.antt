-- A write carries out its service: a file of any size, through mailboxes of any lengths, with busy answers, and with room that ends in mid-transfer.
use Rattle.std.proofs.Common.{◌≡◌, inl, inr, ℕ, zero, suc, ◌+◌, ◌/◌, ◌<◌, ◌≤◌, Bool, true, false, List, [], ◌∷◌, ◌++◌, length, take, drop, Option, None, Some, refl, sym, ap, ◌∙◌, subst, arith, append_assoc, length-append, length-drop, length-take, take-append-drop, take_all, eq-eqb, lt-ltb, le-ltb, nat_lt}
use Rattle.std.proofs.lemmas.Bool.{cases_lt}
use Rattle.exchange_model.specs.Areas.{Areas}
use Rattle.exchange_model.specs.Dialogue.{stop}
use Rattle.exchange_model.proofs.Turns.{sent_none}
use Rattle.mailbox_mail.specs.declared.outcome.ReplyKind.{ReplyKind}
use Rattle.protocol_models.specs.FoeMails.{FoeMail, mail, is_emission, Write, Data, Busy}
use Rattle.protocol_models.specs.Files.{Files, AreLawful}
use Rattle.protocol_models.specs.FoeServer.{idle, writing, closing, Server, ended, goes_on, refusal, ack, packet_room, packet_of, is_last, begun, closes, stores, takes_data}
use Rattle.protocol_models.specs.FoeMeaning.{Meaning, write_means}
use Rattle.protocol_models.specs.FoeClient.{decide, packets, last_end, acks_end, full_packets, turn_behind, write_turn}
use Rattle.protocol_models.proofs.Counts.{none_full, one_full}
use Rattle.protocol_models.proofs.FoeCarries.{step, foe_takes, talk, Carried, carried_one, carried_more, gone_on, talk_onward, talk_again, talk_over}

module _ {S : Type 0} (o : Files S) (areas : Areas) where
  abbrev room : ℕ
  room = packet_room areas.out

  -- the new version in place of the old
  abbrev done_with : S → List ℕ → List ℕ → Meaning S
  done_with app name bytes = record { app = o.put app name bytes; reply = (ReplyKind.Done, []) }

  -- what the client reads
  last_reads : (number : ℕ) → last_end number (ack number ∷ []) ≡ Some (ReplyKind.Done, [])
  last_reads number = rw (eq-eqb number number refl) refl

  more_reads : (n number : ℕ) (hs : List FoeMail) → acks_end (suc n) number (ack number ∷ hs) ≡ acks_end n (number + 1) hs
  more_reads n number hs = rw (eq-eqb number number refl) refl

  -- the last packet, which is sent again behind each busy answer
  closed : (n turns : ℕ) (v : Server S) (name : List ℕ) (number : ℕ) (bytes : List ℕ) (told most : ℕ) (m : FoeMail) →
      ((app : S) (got : List ℕ) (t : ℕ) → foe_takes o areas (record { app = app; handled = v.handled; transfer = closing name number got t }) m ≡ closes o app name number got t) →
      ((h : FoeMail) → turn_behind areas.out m h ≡ write_turn true h) →
      foe_takes o areas v m ≡ closes o v.app name number bytes told → told + n ≡ o.busy v.app name → n < turns → suc n ≤ most →
      Carried o areas v (done_with v.app name bytes) (last_end number) most (talk o areas turns v (m ∷ []))
  closed n zero v name number bytes told most m repeats turn is count enough few = absurd (omega arith)
  closed zero (suc turns) v name number bytes told most m repeats turn is count enough few =
      let over : nat_lt told (o.busy v.app name) ≡ false = le-ltb told (o.busy v.app name) (omega (arith, count)) in
      let stored : foe_takes o areas v m ≡ ended (o.put v.app name bytes) idle (ack number) = is ∙ rw over refl in
      subst (Carried o areas v (done_with v.app name bytes) (last_end number) most)
      (sym (talk_onward o areas turns v m (ack number) (ended (o.put v.app name bytes) idle (ack number)) [] stored refl (turn (ack number))
      ∙ ap (λ l. m ∷ l) (sent_none (step o areas) is_emission (decide areas.out) turns _)))
      (carried_one o areas v (done_with v.app name bytes) (last_end number) most m (ack number) (ended (o.put v.app name bytes) idle (ack number)) stored
      few refl refl refl (last_reads number))
  closed (suc n) (suc turns) v name number bytes told most m repeats turn is count enough few =
      let busy : nat_lt told (o.busy v.app name) ≡ true = lt-ltb told (o.busy v.app name) (omega (arith, count)) in
      let a : FoeMail = mail (Busy told (o.busy v.app name)) in
      let transfer = closing name number bytes (told + 1) in
      let on : foe_takes o areas v m ≡ goes_on v.app transfer a = is ∙ rw busy refl in
      subst (Carried o areas v (done_with v.app name bytes) (last_end number) most)
      (sym (talk_again o areas turns v m a (goes_on v.app transfer a) [] on refl (turn a)))
      (carried_more o areas v (done_with v.app name bytes) (last_end number) (last_end number) most (suc n) m a transfer on few (λ hs. refl)
      (talk o areas turns (gone_on o areas v transfer) (m ∷ []))
      (closed n turns (gone_on o areas v transfer) name number bytes (told + 1) (suc n) m repeats turn (repeats v.app bytes (told + 1)) (omega (arith, count)) (omega arith) (omega arith)))

  abbrev in_write : S → ℕ → List ℕ → ℕ → List ℕ → Server S
  in_write app handled name number got = record { app = app; handled = handled; transfer = writing name number got }

  -- what a packet does
  packet_taken : (app : S) (name : List ℕ) (number : ℕ) (got part : List ℕ) → takes_data o areas.out app (writing name number got) (number + 1) part ≡ stores o areas.out app name (number + 1) got part
  packet_taken app name number got part = rw (eq-eqb (number + 1) (number + 1) refl) refl

  repeat_taken : (app : S) (name : List ℕ) (number : ℕ) (got part : List ℕ) (told : ℕ) → takes_data o areas.out app (closing name number got told) number part ≡ closes o app name number got told
  repeat_taken app name number got part told = rw (eq-eqb number number refl) refl

  abbrev Stores : S → ℕ → List ℕ → List ℕ → ℕ → List ℕ → ℕ → ℕ → List FoeMail → Type 0
  Stores app handled name bytes number got n most ms =
      Carried o areas (in_write app handled name number got) (write_means o app name bytes None) (acks_end n (number + 1)) most ms

  -- no room for what came
  full_stores : AreLawful o → (turns : ℕ) (app : S) (handled : ℕ) (name bytes : List ℕ) (number n most : ℕ) (got part : List ℕ) (ms : List FoeMail) →
      o.has_room app (length (got ++ part)) ≡ false → length (got ++ part) ≤ length bytes → 1 ≤ most →
      Stores app handled name bytes number got n most (talk o areas (suc turns) (in_write app handled name number got) (mail (Data (number + 1) (record { items = part })) ∷ ms))
  full_stores law turns app handled name bytes number n most got part ms full less some =
      let v = in_write app handled name number got in
      let m = mail (Data (number + 1) (record { items = part })) in
      let x = ended app idle (refusal 0x8003) in
      let is : foe_takes o areas v m ≡ x = packet_taken app name number got part ∙ rw full refl in
      let none : o.has_room app (length bytes) ≡ false = not_more (o.has_room app (length bytes)) refl in
      subst (Stores app handled name bytes number got n most) (sym (talk_over o areas turns v m (refusal 0x8003) x ms is refl (stops (is_last areas.out part))))
      (carried_one o areas v (write_means o app name bytes None) (acks_end n (number + 1)) most m (refusal 0x8003) x is some refl refl
      (rw none refl) (refused_reads n ∙ rw none refl))
    where
      not_more : (b : Bool) → o.has_room app (length bytes) ≡ b → b ≡ false
      not_more true e = absurd (let yes : o.has_room app (length (got ++ part)) ≡ true = law.less app (length (got ++ part)) (length bytes) less e in cc)
      not_more false e = refl

      stops : (last : Bool) → write_turn last (refusal 0x8003) ≡ stop
      stops last = refl

      refused_reads : (n : ℕ) → acks_end n (number + 1) (refusal 0x8003 ∷ []) ≡ Some (ReplyKind.FoeError 0x8003, [])
      refused_reads zero = refl
      refused_reads (suc n) = refl

  -- the last packet, with the room for it
  last_stores : (turns : ℕ) (app : S) (handled : ℕ) (name bytes : List ℕ) (number most : ℕ) (got left : List ℕ) →
      o.has_room app (length (got ++ left)) ≡ true → got ++ left ≡ bytes → length left < room → o.busy app name < turns → suc (o.busy app name) ≤ most →
      Stores app handled name bytes number got (full_packets areas.out (length left)) most
      (talk o areas turns (in_write app handled name number got) (packet_of areas.out (number + 1) left ∷ []))
  last_stores turns app handled name bytes number most got left fits whole short enough few =
      let v = in_write app handled name number got in
      let m = mail (Data (number + 1) (record { items = left })) in
      let all : packet_of areas.out (number + 1) left ≡ m = ap (λ l. mail (Data (number + 1) (record { items = l }))) (take_all room left (omega arith)) in
      let last : is_last areas.out left ≡ true = lt-ltb (length left) room short in
      let is : foe_takes o areas v m ≡ closes o app name (number + 1) bytes 0 =
      packet_taken app name number got left ∙ rw (fits, last) refl ∙ ap (λ l. closes o app name (number + 1) l 0) whole in
      let means : write_means o app name bytes None ≡ done_with app name bytes = rw (sym (ap length whole)) (rw fits refl) in
      let count : full_packets areas.out (length left) ≡ 0 = none_full room (length left) short in
      subst (λ x. Stores app handled name bytes number got (full_packets areas.out (length left)) most (talk o areas turns v (x ∷ []))) (sym all)
      (subst (λ n. Stores app handled name bytes number got n most (talk o areas turns v (m ∷ []))) (sym count)
      (subst (λ w. Carried o areas v w (last_end (number + 1)) most (talk o areas turns v (m ∷ []))) (sym means)
      (closed (o.busy app name) turns v name (number + 1) bytes 0 most m (λ s g t. repeat_taken s name (number + 1) g left t)
      (λ h. ap (λ b. write_turn b h) last) is (omega arith) enough few)))

  -- a full packet, with the room for it
  more_stores : (turns : ℕ) (app : S) (handled : ℕ) (name bytes : List ℕ) (number n fewer most : ℕ) (got part : List ℕ) (ms : List FoeMail) →
      o.has_room app (length (got ++ part)) ≡ true → room ≤ length part → suc fewer ≤ most →
      Stores app handled name bytes (number + 1) (got ++ part) n fewer (talk o areas turns (in_write app handled name (number + 1) (got ++ part)) ms) →
      Stores app handled name bytes number got (suc n) most
      (talk o areas (suc turns) (in_write app handled name number got) (mail (Data (number + 1) (record { items = part })) ∷ ms))
  more_stores turns app handled name bytes number n fewer most got part ms fits long less later =
      let v = in_write app handled name number got in
      let m = mail (Data (number + 1) (record { items = part })) in
      let a = ack (number + 1) in
      let transfer = writing name (number + 1) (got ++ part) in
      let full : is_last areas.out part ≡ false = le-ltb (length part) room long in
      let is : foe_takes o areas v m ≡ goes_on app transfer a = packet_taken app name number got part ∙ rw (fits, full) refl in
      subst (Stores app handled name bytes number got (suc n) most) (sym (talk_onward o areas turns v m a (goes_on app transfer a) ms is refl refl))
      (carried_more o areas v (write_means o app name bytes None) (acks_end (suc n) (number + 1)) (acks_end n (number + 1 + 1)) most fewer m a transfer is less
      (more_reads n (number + 1)) (talk o areas turns (gone_on o areas v transfer) ms) later)

  pub packets_store : AreLawful o → (fuel turns : ℕ) (app : S) (handled : ℕ) (name bytes : List ℕ) (number most : ℕ) (got left : List ℕ) →
      0 < room → length left < fuel → length left + o.busy app name < turns → suc (length left + o.busy app name) ≤ most → got ++ left ≡ bytes →
      Stores app handled name bytes number got (full_packets areas.out (length left)) most
      (talk o areas turns (in_write app handled name number got) (packets fuel areas.out (number + 1) left))
  packets_store law zero turns app handled name bytes number most got left wide fuels enough few whole = absurd (omega arith)
  packets_store law (suc fuel) zero app handled name bytes number most got left wide fuels enough few whole = absurd (omega arith)
  packets_store law (suc fuel) (suc turns) app handled name bytes number most got left wide fuels enough few whole =
      elim (cases_lt (length left) room) [
        | inl short ↦ rw (lt-ltb (length left) room short) (by_last (o.has_room app (length (got ++ left))) refl short)
        | inr long ↦ rw (le-ltb (length left) room long) (by_more (o.has_room app (length (got ++ take room left))) refl long
            (packets_store law fuel turns app handled name bytes (number + 1) (suc (length (drop room left) + o.busy app name)) (got ++ take room left) (drop room left)
            wide (omega (arith, length-drop room left)) (omega (arith, length-drop room left)) (omega arith)))
      ]
    where
      by_last : (b : Bool) → o.has_room app (length (got ++ left)) ≡ b → length left < room →
          Stores app handled name bytes number got (full_packets areas.out (length left)) most
          (talk o areas (suc turns) (in_write app handled name number got) (packet_of areas.out (number + 1) left ∷ []))
      by_last true fits short = last_stores (suc turns) app handled name bytes number most got left fits whole short (omega arith) (omega arith)
      by_last false full short =
          let all : take room left ≡ left = take_all room left (omega arith) in
          full_stores law turns app handled name bytes number (full_packets areas.out (length left)) most got (take room left) []
          (ap (λ l. o.has_room app (length (got ++ l))) all ∙ full) (omega (arith, ap length whole, ap (λ (l : List ℕ). length (got ++ l)) all)) (omega arith)

      by_more : (b : Bool) → o.has_room app (length (got ++ take room left)) ≡ b → room ≤ length left →
          (got ++ take room left ++ drop room left ≡ bytes → Stores app handled name bytes (number + 1) (got ++ take room left) (full_packets areas.out (length (drop room left)))
          (suc (length (drop room left) + o.busy app name))
          (talk o areas turns (in_write app handled name (number + 1) (got ++ take room left)) (packets fuel areas.out (number + 1 + 1) (drop room left)))) →
          Stores app handled name bytes number got (full_packets areas.out (length left)) most
          (talk o areas (suc turns) (in_write app handled name number got) (packet_of areas.out (number + 1) left ∷ packets fuel areas.out (number + 1 + 1) (drop room left)))
      by_more true fits long later =
          let rest : got ++ take room left ++ drop room left ≡ bytes = append_assoc got (take room left) (drop room left) ∙ ap (λ l. got ++ l) (take-append-drop room left) ∙ whole in
          let count : full_packets areas.out (length left) ≡ suc (full_packets areas.out (length (drop room left))) =
          one_full room (length left) wide long ∙ ap (λ n. suc (n / room)) (sym (length-drop room left)) in
          subst (λ n. Stores app handled name bytes number got n most
          (talk o areas (suc turns) (in_write app handled name number got) (packet_of areas.out (number + 1) left ∷ packets fuel areas.out (number + 1 + 1) (drop room left)))) (sym count)
          (more_stores turns app handled name bytes number (full_packets areas.out (length (drop room left))) (suc (length (drop room left) + o.busy app name)) most
          got (take room left) (packets fuel areas.out (number + 1 + 1) (drop room left)) fits (omega (arith, length-take room left)) (omega (arith, length-drop room left))
          (later rest))
      by_more false full long later =
          full_stores law turns app handled name bytes number (full_packets areas.out (length left)) most got (take room left) (packets fuel areas.out (number + 1 + 1) (drop room left))
          full (omega (arith, ap length whole, length-append got left, length-append got (take room left), length-take room left)) (omega arith)

  -- the request, and the packets behind it
  pub write_carried : AreLawful o → (turns : ℕ) (v : Server S) (name : List ℕ) (pass : ℕ) (bytes : List ℕ) (most : ℕ) → 0 < room →
      length bytes + o.busy v.app name < turns → suc (suc (length bytes + o.busy v.app name)) ≤ most →
      Carried o areas v (write_means o v.app name bytes (o.allowed v.app name pass true)) (acks_end (suc (full_packets areas.out (length bytes))) 0) most
      (talk o areas (suc turns) v (mail (Write pass (record { items = name })) ∷ packets (suc (length bytes)) areas.out 1 bytes))
  write_carried law turns v name pass bytes most wide enough few = by_code (o.allowed v.app name pass true) refl
    where
      by_code : (found : Option ℕ) → begun v.app name (o.allowed v.app name pass true) ≡ begun v.app name found →
          Carried o areas v (write_means o v.app name bytes found) (acks_end (suc (full_packets areas.out (length bytes))) 0) most
          (talk o areas (suc turns) v (mail (Write pass (record { items = name })) ∷ packets (suc (length bytes)) areas.out 1 bytes))
      by_code None is =
          let m = mail (Write pass (record { items = name })) in
          let transfer = writing name 0 [] in
          let ms = packets (suc (length bytes)) areas.out 1 bytes in
          subst (Carried o areas v (write_means o v.app name bytes None) (acks_end (suc (full_packets areas.out (length bytes))) 0) most)
          (sym (talk_onward o areas turns v m (ack 0) (goes_on v.app transfer (ack 0)) ms is refl refl))
          (carried_more o areas v (write_means o v.app name bytes None) (acks_end (suc (full_packets areas.out (length bytes))) 0) (acks_end (full_packets areas.out (length bytes)) 1)
          most (suc (length bytes + o.busy v.app name)) m (ack 0) transfer is few (more_reads (full_packets areas.out (length bytes)) 0)
          (talk o areas turns (gone_on o areas v transfer) ms)
          (packets_store law (suc (length bytes)) turns v.app v.handled name bytes 0 (suc (length bytes + o.busy v.app name)) [] bytes wide (omega arith) enough (omega arith) refl))
      by_code (Some code) is =
          let m = mail (Write pass (record { items = name })) in
          let x = ended v.app idle (refusal code) in
          subst (Carried o areas v (write_means o v.app name bytes (Some code)) (acks_end (suc (full_packets areas.out (length bytes))) 0) most)
          (sym (talk_over o areas turns v m (refusal code) x (packets (suc (length bytes)) areas.out 1 bytes) is refl refl))
          (carried_one o areas v (write_means o v.app name bytes (Some code)) (acks_end (suc (full_packets areas.out (length bytes))) 0) most m (refusal code) x is (omega arith) refl refl refl refl)
