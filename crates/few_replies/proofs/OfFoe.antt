-- The mails of FoE.
use Rattle.std.proofs.Common.{◌≡◌, ℕ, zero, suc, ◌+◌, ◌*◌, ◌/◌, ◌<◌, ◌≤◌, inl, inr, Bool, true, false, List, [], ◌∷◌, ◌++◌, length, take, drop, Option, None, Some, refl, ap, ◌∙◌, arith, length-drop, length-take, eq-eqb, lt-ltb, le-ltb, nat_lt}
use Rattle.std.proofs.lemmas.Bool.{cases_lt}
use Rattle.slave_parts.specs.of_exchange_model.Areas.{Areas, AreMailboxes}
use Rattle.slave_parts.proofs.of_exchange_model.Turns.{sent_none}
use Rattle.slave_parts.specs.of_protocol_models.FoeMails.{FoeMail, mail, is_emission, Read, Write, Data, Ack, Busy}
use Rattle.slave_parts.specs.of_protocol_models.Files.{Files}
use Rattle.slave_parts.specs.of_protocol_models.FoeServer.{idle, reading, writing, closing, Server, ended, goes_on, silent, refusal, ack, packet_room, packet_of, is_last, opened, begun, closes, stores, takes_data, takes_ack}
use Rattle.slave_parts.specs.of_protocol_models.FoeMeaning.{Service, read, write}
use Rattle.slave_parts.specs.of_protocol_models.FoeClient.{decide, acks, packets, turn_behind, write_turn}
use Rattle.slave_parts.specs.of_protocol_models.FoeModel.{read_length, full, foe_exchange}
use Rattle.slave_parts.proofs.of_protocol_models.FoeCarries.{step, foe_takes, talk, talk_onward, talk_again, talk_over, talk_waits}
use Rattle.slave_parts.proofs.of_protocol_models.FoeSpeaks.{replies_few}
use Rattle.few_replies.specs.Counts.{third, mails_between, mails_within, foe_octets, foe_busy}
use Rattle.few_replies.proofs.Thirds.{Fits, fits, one_less}

module _ {S : Type 0} (o : Files S) (areas : Areas) (f : Fits areas) where
  abbrev w : ℕ
  w = third areas

  -- ---- a read

  abbrev in_read : S → ℕ → ℕ → List ℕ → Server S
  in_read app handled number left = record { app = app; handled = handled; transfer = reading number left }

  last_acked : (app : S) (number : ℕ) (left : List ℕ) → length left < packet_room areas.back → takes_ack areas.back app (reading number left) number ≡ silent app idle
  last_acked app number left short = rw (eq-eqb number number refl, lt-ltb (length left) (packet_room areas.back) short) refl

  more_acked : (app : S) (number : ℕ) (left : List ℕ) → packet_room areas.back ≤ length left →
      takes_ack areas.back app (reading number left) number
      ≡ goes_on app (reading (number + 1) (drop (packet_room areas.back) left)) (packet_of areas.back (number + 1) (drop (packet_room areas.back) left))
  more_acked app number left long = rw (eq-eqb number number refl, le-ltb (length left) (packet_room areas.back) long) refl

  -- the acknowledgements of a file
  acks_within : (n turns : ℕ) (app : S) (handled number : ℕ) (left : List ℕ) → length (talk o areas turns (in_read app handled number left) (acks n number)) ≤ suc (length left / w)
  acks_within zero turns app handled number left = omega (arith, ap length (sent_none (step o areas) is_emission (decide areas.out) turns (in_read app handled number left)))
  acks_within (suc n) zero app handled number left = omega arith
  acks_within (suc n) (suc turns) app handled number left = elim (cases_lt (length left) (packet_room areas.back)) [
    | inl short ↦ omega (arith, ap length (talk_waits o areas turns (in_read app handled number left) (mail (Ack number)) app idle (acks n (number + 1)) (last_acked app number left short)))
    | inr long ↦
        let rest = drop (packet_room areas.back) left in
        let a = packet_of areas.back (number + 1) rest in
        let goes = talk_onward o areas turns (in_read app handled number left) (mail (Ack number)) a (goes_on app (reading (number + 1) rest) a) (acks n (number + 1)) (more_acked app number left long) refl refl in
        let later = acks_within n turns app handled (number + 1) rest in
        let less = one_less w (packet_room areas.back) (length left) f.some (omega (arith, f.back)) long in
        omega (arith, ap length goes, later, less, ap (λ n. n / w) (length-drop (packet_room areas.back) left))
  ]

  pub read_within : (n turns : ℕ) (v : Server S) (name : List ℕ) (pass : ℕ) (found : Option ℕ) → o.allowed v.app name pass false ≡ found →
      length (talk o areas (suc turns) v (mail (Read pass (record { items = name })) ∷ acks n 1)) ≤ suc (suc (read_length found (o.get v.app name) / w))
  read_within n turns v name pass (Some code) is =
      omega (arith, ap length (talk_over o areas turns v (mail (Read pass (record { items = name }))) (refusal code) (ended v.app idle (refusal code)) (acks n 1) (ap (opened areas.back v.app (o.get v.app name)) is) refl refl))
  read_within n turns v name pass None is =
      let bytes = o.get v.app name in
      let a = packet_of areas.back 1 bytes in
      let goes = talk_onward o areas turns v (mail (Read pass (record { items = name }))) a (ended v.app (reading 1 bytes) a) (acks n 1) (ap (opened areas.back v.app bytes) is) refl refl in
      omega (arith, ap length goes, acks_within n turns v.app (suc v.handled) 1 bytes)

  -- ---- a write

  -- the last packet, which is sent again behind each busy answer
  closed_within : (n turns : ℕ) (v : Server S) (name : List ℕ) (number : ℕ) (bytes : List ℕ) (told : ℕ) (m : FoeMail) →
      ((app : S) (got : List ℕ) (t : ℕ) → foe_takes o areas (record { app = app; handled = v.handled; transfer = closing name number got t }) m ≡ closes o app name number got t) →
      ((h : FoeMail) → turn_behind areas.out m h ≡ write_turn true h) → foe_takes o areas v m ≡ closes o v.app name number bytes told → o.busy v.app name ≤ told + n →
      length (talk o areas turns v (m ∷ [])) ≤ suc n
  closed_within n zero v name number bytes told m repeats turn is count = omega arith
  closed_within zero (suc turns) v name number bytes told m repeats turn is count =
      let over : nat_lt told (o.busy v.app name) ≡ false = le-ltb told (o.busy v.app name) (omega (arith, count)) in
      let stored : foe_takes o areas v m ≡ ended (o.put v.app name bytes) idle (ack number) = is ∙ rw over refl in
      let goes = talk_onward o areas turns v m (ack number) (ended (o.put v.app name bytes) idle (ack number)) [] stored refl (turn (ack number)) in
      omega (arith, ap length (goes ∙ ap (λ l. m ∷ l) (sent_none (step o areas) is_emission (decide areas.out) turns _)))
  closed_within (suc n) (suc turns) v name number bytes told m repeats turn is count = by_busy (nat_lt told (o.busy v.app name)) refl
      (closed_within n turns (record { app = v.app; handled = v.handled; transfer = closing name number bytes (told + 1) }) name number bytes (told + 1) m repeats turn
      (repeats v.app bytes (told + 1)) (omega (arith, count)))
    where
      by_busy : (b : Bool) → nat_lt told (o.busy v.app name) ≡ b →
          length (talk o areas turns (record { app = v.app; handled = v.handled; transfer = closing name number bytes (told + 1) }) (m ∷ [])) ≤ suc n →
          length (talk o areas (suc turns) v (m ∷ [])) ≤ suc (suc n)
      by_busy false over later =
          let stored : foe_takes o areas v m ≡ ended (o.put v.app name bytes) idle (ack number) = is ∙ rw over refl in
          let goes = talk_onward o areas turns v m (ack number) (ended (o.put v.app name bytes) idle (ack number)) [] stored refl (turn (ack number)) in
          omega (arith, ap length (goes ∙ ap (λ l. m ∷ l) (sent_none (step o areas) is_emission (decide areas.out) turns _)))
      by_busy true busy later =
          let a : FoeMail = mail (Busy told (o.busy v.app name)) in
          let on : foe_takes o areas v m ≡ goes_on v.app (closing name number bytes (told + 1)) a = is ∙ rw busy refl in
          let goes = talk_again o areas turns v m a (goes_on v.app (closing name number bytes (told + 1)) a) [] on refl (turn a) in
          omega (arith, ap length goes, later)

  abbrev in_write : S → ℕ → List ℕ → ℕ → List ℕ → Server S
  in_write app handled name number got = record { app = app; handled = handled; transfer = writing name number got }

  packet_taken : (app : S) (name : List ℕ) (number : ℕ) (got part : List ℕ) → takes_data o areas.out app (writing name number got) (number + 1) part ≡ stores o areas.out app name (number + 1) got part
  packet_taken app name number got part = rw (eq-eqb (number + 1) (number + 1) refl) refl

  repeat_taken : (app : S) (name : List ℕ) (number : ℕ) (got part : List ℕ) (told : ℕ) → takes_data o areas.out app (closing name number got told) number part ≡ closes o app name number got told
  repeat_taken app name number got part told = rw (eq-eqb number number refl) refl

  -- a packet for which there is no room
  full_within : (turns : ℕ) (app : S) (handled : ℕ) (name : List ℕ) (number : ℕ) (got part : List ℕ) (ms : List FoeMail) → o.has_room app (length (got ++ part)) ≡ false →
      length (talk o areas (suc turns) (in_write app handled name number got) (mail (Data (number + 1) (record { items = part })) ∷ ms)) ≡ 1
  full_within turns app handled name number got part ms none =
      let is : foe_takes o areas (in_write app handled name number got) (mail (Data (number + 1) (record { items = part }))) ≡ ended app idle (refusal 0x8003) = packet_taken app name number got part ∙ rw none refl in
      ap length (talk_over o areas turns (in_write app handled name number got) (mail (Data (number + 1) (record { items = part }))) (refusal 0x8003) (ended app idle (refusal 0x8003)) ms is refl refl)

  -- the packets of what is left of a file
  packets_within : (fuel turns : ℕ) (app : S) (handled : ℕ) (name : List ℕ) (number : ℕ) (got left : List ℕ) →
      length (talk o areas turns (in_write app handled name number got) (packets fuel areas.out (number + 1) left)) ≤ suc (length left / w) + o.busy app name
  packets_within zero turns app handled name number got left = omega (arith, ap length (sent_none (step o areas) is_emission (decide areas.out) turns (in_write app handled name number got)))
  packets_within (suc fuel) zero app handled name number got left = omega arith
  packets_within (suc fuel) (suc turns) app handled name number got left = elim (cases_lt (length left) (packet_room areas.out)) [
    | inl short ↦ rw (lt-ltb (length left) (packet_room areas.out) short) (by_last (o.has_room app (length (got ++ take (packet_room areas.out) left))) refl short)
    | inr long ↦ rw (le-ltb (length left) (packet_room areas.out) long) (by_more (o.has_room app (length (got ++ take (packet_room areas.out) left))) refl long
        (packets_within fuel turns app handled name (number + 1) (got ++ take (packet_room areas.out) left) (drop (packet_room areas.out) left)))
  ]
    where
      by_last : (b : Bool) → o.has_room app (length (got ++ take (packet_room areas.out) left)) ≡ b → length left < packet_room areas.out →
          length (talk o areas (suc turns) (in_write app handled name number got) (packet_of areas.out (number + 1) left ∷ [])) ≤ suc (length left / w) + o.busy app name
      by_last false none short = omega (arith, full_within turns app handled name number got (take (packet_room areas.out) left) [] none)
      by_last true room short =
          let m = packet_of areas.out (number + 1) left in
          let last : is_last areas.out (take (packet_room areas.out) left) ≡ true = lt-ltb (length (take (packet_room areas.out) left)) (packet_room areas.out) (omega (arith, length-take (packet_room areas.out) left)) in
          let is : foe_takes o areas (in_write app handled name number got) m ≡ closes o app name (number + 1) (got ++ take (packet_room areas.out) left) 0 =
          packet_taken app name number got (take (packet_room areas.out) left) ∙ rw (room, last) refl in
          omega (
            arith,
            closed_within (o.busy app name) (suc turns) (in_write app handled name number got) name (number + 1) (got ++ take (packet_room areas.out) left) 0 m
                (λ s g t. repeat_taken s name (number + 1) g (take (packet_room areas.out) left) t) (λ h. ap (λ b. write_turn b h) last) is (omega arith),
          )

      by_more : (b : Bool) → o.has_room app (length (got ++ take (packet_room areas.out) left)) ≡ b → packet_room areas.out ≤ length left →
          length (talk o areas turns (in_write app handled name (number + 1) (got ++ take (packet_room areas.out) left)) (packets fuel areas.out (number + 1 + 1) (drop (packet_room areas.out) left)))
          ≤ suc (length (drop (packet_room areas.out) left) / w) + o.busy app name →
          length (talk o areas (suc turns) (in_write app handled name number got) (packet_of areas.out (number + 1) left ∷ packets fuel areas.out (number + 1 + 1) (drop (packet_room areas.out) left))) ≤ suc (length left / w) + o.busy app name
      by_more false none long later = omega (arith, full_within turns app handled name number got (take (packet_room areas.out) left) (packets fuel areas.out (number + 1 + 1) (drop (packet_room areas.out) left)) none)
      by_more true room long later =
          let here = take (packet_room areas.out) left in
          let rest = drop (packet_room areas.out) left in
          let m = packet_of areas.out (number + 1) left in
          let wide : length here ≡ packet_room areas.out = omega (arith, length-take (packet_room areas.out) left) in
          let more : is_last areas.out here ≡ false = le-ltb (length here) (packet_room areas.out) (omega arith) in
          let on : foe_takes o areas (in_write app handled name number got) m ≡ goes_on app (writing name (number + 1) (got ++ here)) (ack (number + 1)) = packet_taken app name number got here ∙ rw (room, more) refl in
          let goes = talk_onward o areas turns (in_write app handled name number got) m (ack (number + 1)) (goes_on app (writing name (number + 1) (got ++ here)) (ack (number + 1))) (packets fuel areas.out (number + 1 + 1) rest) on refl refl in
          let less = one_less w (packet_room areas.out) (length left) f.some (omega (arith, f.out)) long in
          omega (arith, ap length goes, later, less, ap (λ n. n / w) (length-drop (packet_room areas.out) left))

  pub write_within : (fuel turns : ℕ) (v : Server S) (name : List ℕ) (pass : ℕ) (bytes : List ℕ) (found : Option ℕ) → begun v.app name (o.allowed v.app name pass true) ≡ begun v.app name found →
      length (talk o areas (suc turns) v (mail (Write pass (record { items = name })) ∷ packets fuel areas.out 1 bytes)) ≤ suc (suc (length bytes / w) + o.busy v.app name)
  write_within fuel turns v name pass bytes (Some code) is =
      omega (arith, ap length (talk_over o areas turns v (mail (Write pass (record { items = name }))) (refusal code) (ended v.app idle (refusal code)) (packets fuel areas.out 1 bytes) is refl refl))
  write_within fuel turns v name pass bytes None is =
      let goes = talk_onward o areas turns v (mail (Write pass (record { items = name }))) (ack 0) (goes_on v.app (writing name 0 []) (ack 0)) (packets fuel areas.out 1 bytes) is refl refl in
      omega (arith, ap length goes, packets_within fuel turns v.app v.handled name 0 [] bytes)

pub foe_within : {S : Type 0} (o : Files S) (areas : Areas) → AreMailboxes areas → (v : Server S) (q : Service) →
    mails_between (foe_exchange o areas) v q ≤ mails_within areas (foe_octets o v.app q) + 2 * foe_busy o v.app q
foe_within o areas sized v (read name pass) =
    let f = fits areas sized in
    let n = read_length (o.allowed v.app name pass false) (o.get v.app name) in
    let told = read_within o areas f (suc (suc (suc n))) (suc (suc n)) v name pass (o.allowed v.app name pass false) refl in
    omega (arith, told, replies_few o areas v (full o areas v (read name pass)))
foe_within o areas sized v (write name pass bytes) =
    let f = fits areas sized in
    let told = write_within o areas f (suc (length bytes)) (suc (suc (length bytes + o.busy v.app name))) v name pass bytes (o.allowed v.app name pass true) refl in
    omega (arith, told, replies_few o areas v (full o areas v (write name pass bytes)))
