-- A service leaves no transfer, whatever stood before.
use Rattle.std.proofs.Common.{◌≡◌, inl, inr, ℕ, zero, suc, ◌+◌, ◌-◌, ◌==◌, ◌<◌, ◌≤◌, Bool, true, false, nat_lt, List, [], ◌∷◌, ◌++◌, length, take, drop, Option, None, Some, refl, ap, ◌∙◌, arith, length-drop, length-take, lt-ltb, le-ltb, ltb-true}
use Rattle.std.proofs.lemmas.Bool.{cases_lt}
use Rattle.idn_table.specs.of_exchange_model.Areas.{Areas}
use Rattle.idn_table.specs.of_exchange_model.Exchange.{after, plain}
use Rattle.idn_table.specs.of_exchange_model.Dialogue.{next, again, stop, sent, turn_at}
use Rattle.idn_table.proofs.of_exchange_model.Turns.{sent_none, sent_onward, sent_repeated, sent_over, sent_waits}
use Rattle.eoe_server.specs.of_protocol_models.FoeMails.{FoeMail, mail, Read, Write, Data, Ack, Busy, is_emission}
use Rattle.eoe_server.specs.of_protocol_models.Files.{Files}
use Rattle.eoe_server.specs.of_protocol_models.FoeServer.{Transfer, idle, reading, writing, closing, Server, Outcome, foe_outcome, behind, serve, ended, goes_on, silent, refusal, ack, packet_room, packet_of, is_last, opened, begun, closes}
use Rattle.eoe_server.specs.of_protocol_models.FoeClient.{decide, turn_behind, write_turn, acks, packets}
use Rattle.eoe_server.specs.of_protocol_models.FoeModel.{read_length}

-- all mails of an FoE server are replies
all_plain : (ms : List FoeMail) → plain is_emission ms ≡ ms
all_plain [] = refl
all_plain (m ∷ ms) = ap (λ l. m ∷ l) (all_plain ms)

module _ {S : Type 0} (o : Files S) (areas : Areas) where
  abbrev pub step : Server S → FoeMail → Server S × List FoeMail
  step v m = serve o areas.out areas.back v m

  abbrev pub takes : Server S → FoeMail → Outcome S
  takes v m = foe_outcome o areas.out areas.back v.app v.transfer m

  -- the mails that the client sends of these
  abbrev pub talk : ℕ → Server S → List FoeMail → List FoeMail
  talk fuel v ms = sent step is_emission (decide areas.out) fuel v ms

  -- how the client goes on behind the one answer to its mail
  answer_turn : (v : Server S) (m a : FoeMail) (x : Outcome S) → takes v m ≡ x → x.answers ≡ a ∷ [] → turn_at (decide areas.out) m [] (plain is_emission (step v m).1) ≡ Some (turn_behind areas.out m a)
  answer_turn v m a x is answers = ap (turn_at (decide areas.out) m []) (ap (λ y. plain is_emission (behind v.handled y).1) is ∙ all_plain x.answers ∙ answers)

  -- what is left behind the mails that a client sends of these
  abbrev pub left : ℕ → Server S → List FoeMail → Transfer
  left turns v ms = (after step v (talk turns v ms)).transfer

  left_none : (turns : ℕ) (v : Server S) → left turns v [] ≡ v.transfer
  left_none turns v = ap (λ l. (after step v l).transfer) (sent_none step is_emission (decide areas.out) turns v)

  left_over : (turns : ℕ) (v : Server S) (m a : FoeMail) (x : Outcome S) (ms : List FoeMail) → takes v m ≡ x → x.answers ≡ a ∷ [] → turn_behind areas.out m a ≡ stop → left (suc turns) v (m ∷ ms) ≡ x.transfer
  left_over turns v m a x ms is answers stops =
      ap (λ l. (after step v l).transfer) (sent_over step is_emission (decide areas.out) turns v m ms (answer_turn v m a x is answers ∙ ap Some stops)) ∙ ap (λ y. (behind v.handled y).0.transfer) is

  left_onward : (turns : ℕ) (v : Server S) (m a : FoeMail) (x : Outcome S) (ms : List FoeMail) → takes v m ≡ x → x.answers ≡ a ∷ [] → turn_behind areas.out m a ≡ next → left (suc turns) v (m ∷ ms) ≡ left turns (behind v.handled x).0 ms
  left_onward turns v m a x ms is answers goes =
      ap (λ l. (after step v l).transfer) (sent_onward step is_emission (decide areas.out) turns v m ms (answer_turn v m a x is answers ∙ ap Some goes))
      ∙ ap (λ y. left turns (behind v.handled y).0 ms) is

  left_again : (turns : ℕ) (v : Server S) (m a : FoeMail) (x : Outcome S) (ms : List FoeMail) → takes v m ≡ x → x.answers ≡ a ∷ [] → turn_behind areas.out m a ≡ again → left (suc turns) v (m ∷ ms) ≡ left turns (behind v.handled x).0 (m ∷ ms)
  left_again turns v m a x ms is answers repeats =
      ap (λ l. (after step v l).transfer) (sent_repeated step is_emission (decide areas.out) turns v m ms (answer_turn v m a x is answers ∙ ap Some repeats))
      ∙ ap (λ y. left turns (behind v.handled y).0 (m ∷ ms)) is

  left_waits : (turns : ℕ) (v : Server S) (m : FoeMail) (app : S) (transfer : Transfer) (ms : List FoeMail) → takes v m ≡ silent app transfer → left (suc turns) v (m ∷ ms) ≡ transfer
  left_waits turns v m app transfer ms is =
      ap (λ l. (after step v l).transfer) (sent_waits step is_emission (decide areas.out) turns v m ms (ap (λ y. turn_at (decide areas.out) m [] (plain is_emission (behind v.handled y).1)) is))
      ∙ ap (λ y. (behind v.handled y).0.transfer) is

  -- ---- reads

  abbrev in_read : S → ℕ → ℕ → List ℕ → Server S
  in_read app handled number rest = record { app = app; handled = handled; transfer = reading number rest }

  -- one acknowledgement: later is what is left where more packets come
  ack_left : (n turns : ℕ) (app : S) (handled number : ℕ) (rest : List ℕ) (from : ℕ) →
      (packet_room areas.back ≤ length rest → left turns (in_read app handled (number + 1) (drop (packet_room areas.back) rest)) (acks n (from + 1)) ≡ idle) → (right : Bool) → (from == number) ≡ right →
      left (suc turns) (in_read app handled number rest) (mail (Ack from) ∷ acks n (from + 1)) ≡ idle
  ack_left n turns app handled number rest from later true right = elim (cases_lt (length rest) (packet_room areas.back)) [
    | inl short ↦
        left_waits turns (in_read app handled number rest) (mail (Ack from)) app idle (acks n (from + 1)) (rw (right, lt-ltb (length rest) (packet_room areas.back) short) refl)
    | inr long ↦
        let onward = drop (packet_room areas.back) rest in
        let a = packet_of areas.back (number + 1) onward in
        left_onward turns (in_read app handled number rest) (mail (Ack from)) a (goes_on app (reading (number + 1) onward) a) (acks n (from + 1))
        (rw (right, le-ltb (length rest) (packet_room areas.back) long) refl) refl refl ∙ later long
  ]
  ack_left n turns app handled number rest from later false wrong =
      left_over turns (in_read app handled number rest) (mail (Ack from)) (refusal 0x8005) (goes_on app idle (refusal 0x8005)) (acks n (from + 1)) (rw wrong refl) refl refl

  acks_left : (n turns : ℕ) (app : S) (handled number : ℕ) (rest : List ℕ) (from : ℕ) → 0 < packet_room areas.back → length rest < n → length rest < turns →
      left turns (in_read app handled number rest) (acks n from) ≡ idle
  acks_left zero turns app handled number rest from wide many enough = absurd (omega arith)
  acks_left (suc n) zero app handled number rest from wide many enough = absurd (omega arith)
  acks_left (suc n) (suc turns) app handled number rest from wide many enough =
      ack_left n turns app handled number rest from
      (λ long. acks_left n turns app handled (number + 1) (drop (packet_room areas.back) rest) (from + 1) wide
      (omega (arith, many, wide, long, length-drop (packet_room areas.back) rest)) (omega (arith, enough, wide, long, length-drop (packet_room areas.back) rest)))
      (from == number) refl

  pub read_left : (n turns : ℕ) (v : Server S) (name : List ℕ) (pass : ℕ) (found : Option ℕ) → o.allowed v.app name pass false ≡ found → 0 < packet_room areas.back →
      read_length found (o.get v.app name) < n → read_length found (o.get v.app name) < turns → left (suc turns) v (mail (Read pass (record { items = name })) ∷ acks n 1) ≡ idle
  read_left n turns v name pass None is wide many enough =
      let bytes = o.get v.app name in
      let a = packet_of areas.back 1 bytes in
      left_onward turns v (mail (Read pass (record { items = name }))) a (ended v.app (reading 1 bytes) a) (acks n 1) (ap (opened areas.back v.app bytes) is) refl refl
      ∙ acks_left n turns v.app (suc v.handled) 1 bytes 1 wide many enough
  read_left n turns v name pass (Some code) is wide many enough =
      left_over turns v (mail (Read pass (record { items = name }))) (refusal code) (ended v.app idle (refusal code)) (acks n 1) (ap (opened areas.back v.app (o.get v.app name)) is) refl refl

  -- ---- writes

  abbrev in_write : S → ℕ → List ℕ → ℕ → List ℕ → Server S
  in_write app handled name number got = record { app = app; handled = handled; transfer = writing name number got }

  abbrev in_close : S → ℕ → List ℕ → ℕ → List ℕ → ℕ → Server S
  in_close app handled name number got told = record { app = app; handled = handled; transfer = closing name number got told }

  refused_left : (turns : ℕ) (v : Server S) (code packet : ℕ) (part : List ℕ) (ms : List FoeMail) → takes v (mail (Data packet (record { items = part }))) ≡ ended v.app idle (refusal code) →
      left (suc turns) v (mail (Data packet (record { items = part })) ∷ ms) ≡ idle
  refused_left turns v code packet part ms is = left_over turns v (mail (Data packet (record { items = part }))) (refusal code) (ended v.app idle (refusal code)) ms is refl refl

  -- the last packet at a server that closes the file then
  closes_left : (turns : ℕ) (v : Server S) (name : List ℕ) (number : ℕ) (got : List ℕ) (told packet : ℕ) (part : List ℕ) →
      takes v (mail (Data packet (record { items = part }))) ≡ closes o v.app name number got told → is_last areas.out part ≡ true →
      (nat_lt told (o.busy v.app name) ≡ true → left turns (in_close v.app v.handled name number got (told + 1)) (mail (Data packet (record { items = part })) ∷ []) ≡ idle) →
      (busy : Bool) → nat_lt told (o.busy v.app name) ≡ busy → left (suc turns) v (mail (Data packet (record { items = part })) ∷ []) ≡ idle
  closes_left turns v name number got told packet part is last later true busy =
      let a : FoeMail = mail (Busy told (o.busy v.app name)) in
      left_again turns v (mail (Data packet (record { items = part }))) a (goes_on v.app (closing name number got (told + 1)) a) [] (is ∙ rw busy refl) refl (ap (λ b. write_turn b a) last) ∙ later busy
  closes_left turns v name number got told packet part is last later false busy =
      let x = ended (o.put v.app name got) idle (ack number) in
      left_onward turns v (mail (Data packet (record { items = part }))) (ack number) x [] (is ∙ rw busy refl) refl (ap (λ b. write_turn b (ack number)) last) ∙ left_none turns (behind v.handled x).0

  -- the repeated packet: later is what is left where it is answered by busy again
  repeated_left : (turns : ℕ) (app : S) (handled : ℕ) (name : List ℕ) (number : ℕ) (got : List ℕ) (told packet : ℕ) (part : List ℕ) → is_last areas.out part ≡ true →
      (nat_lt told (o.busy app name) ≡ true → left turns (in_close app handled name number got (told + 1)) (mail (Data packet (record { items = part })) ∷ []) ≡ idle) → (right : Bool) → (packet == number) ≡ right →
      left (suc turns) (in_close app handled name number got told) (mail (Data packet (record { items = part })) ∷ []) ≡ idle
  repeated_left turns app handled name number got told packet part last later true right =
      closes_left turns (in_close app handled name number got told) name number got told packet part (rw right refl) last later (nat_lt told (o.busy app name)) refl
  repeated_left turns app handled name number got told packet part last later false wrong = refused_left turns (in_close app handled name number got told) 0x8005 packet part [] (rw wrong refl)

  repeat_left : (turns : ℕ) (app : S) (handled : ℕ) (name : List ℕ) (number : ℕ) (got : List ℕ) (told packet : ℕ) (part : List ℕ) → is_last areas.out part ≡ true → o.busy app name < told + turns → 0 < turns →
      left turns (in_close app handled name number got told) (mail (Data packet (record { items = part })) ∷ []) ≡ idle
  repeat_left zero app handled name number got told packet part last count enough = absurd (omega arith)
  repeat_left (suc turns) app handled name number got told packet part last count enough =
      repeated_left turns app handled name number got told packet part last
      (λ less. let busy = ltb-true told (o.busy app name) less in
      repeat_left turns app handled name number got (told + 1) packet part last (omega (arith, count)) (omega (arith, count, busy)))
      (packet == number) refl

  last_left : (turns : ℕ) (app : S) (handled : ℕ) (name : List ℕ) (number : ℕ) (got part : List ℕ) (packet : ℕ) → is_last areas.out part ≡ true → o.busy app name ≤ turns →
      left (suc turns) (in_write app handled name number got) (mail (Data packet (record { items = part })) ∷ []) ≡ idle
  last_left turns app handled name number got part packet last enough = by_number (packet == number + 1) refl
    where
      by_room : (packet == number + 1) ≡ true → (room : Bool) → o.has_room app (length (got ++ part)) ≡ room → left (suc turns) (in_write app handled name number got) (mail (Data packet (record { items = part })) ∷ []) ≡ idle
      by_room right true room =
          closes_left turns (in_write app handled name number got) name packet (got ++ part) 0 packet part (rw (right, room, last) refl) last
          (λ less. let busy = ltb-true 0 (o.busy app name) less in repeat_left turns app handled name packet (got ++ part) 1 packet part last (omega arith) (omega (arith, busy)))
          (nat_lt 0 (o.busy app name)) refl
      by_room right false full = refused_left turns (in_write app handled name number got) 0x8003 packet part [] (rw (right, full) refl)

      by_number : (b : Bool) → (packet == number + 1) ≡ b → left (suc turns) (in_write app handled name number got) (mail (Data packet (record { items = part })) ∷ []) ≡ idle
      by_number true right = by_room right (o.has_room app (length (got ++ part))) refl
      by_number false wrong = refused_left turns (in_write app handled name number got) 0x8005 packet part [] (rw wrong refl)

  more_left : (turns : ℕ) (app : S) (handled : ℕ) (name : List ℕ) (number : ℕ) (got part : List ℕ) (packet : ℕ) (ms : List FoeMail) → is_last areas.out part ≡ false →
      left turns (in_write app handled name packet (got ++ part)) ms ≡ idle → left (suc turns) (in_write app handled name number got) (mail (Data packet (record { items = part })) ∷ ms) ≡ idle
  more_left turns app handled name number got part packet ms more later = by_number (packet == number + 1) refl
    where
      by_room : (packet == number + 1) ≡ true → (room : Bool) → o.has_room app (length (got ++ part)) ≡ room → left (suc turns) (in_write app handled name number got) (mail (Data packet (record { items = part })) ∷ ms) ≡ idle
      by_room right true room =
          left_onward turns (in_write app handled name number got) (mail (Data packet (record { items = part }))) (ack packet) (goes_on app (writing name packet (got ++ part)) (ack packet)) ms
          (rw (right, room, more) refl) refl refl ∙ later
      by_room right false full = refused_left turns (in_write app handled name number got) 0x8003 packet part ms (rw (right, full) refl)

      by_number : (b : Bool) → (packet == number + 1) ≡ b → left (suc turns) (in_write app handled name number got) (mail (Data packet (record { items = part })) ∷ ms) ≡ idle
      by_number true right = by_room right (o.has_room app (length (got ++ part))) refl
      by_number false wrong = refused_left turns (in_write app handled name number got) 0x8005 packet part ms (rw wrong refl)

  packets_left : (fuel turns : ℕ) (app : S) (handled : ℕ) (name : List ℕ) (number : ℕ) (got rest : List ℕ) (from : ℕ) → 0 < packet_room areas.out → length rest < fuel → length rest + o.busy app name < turns →
      left turns (in_write app handled name number got) (packets fuel areas.out from rest) ≡ idle
  packets_left zero turns app handled name number got rest from wide fuels enough = absurd (omega arith)
  packets_left (suc fuel) zero app handled name number got rest from wide fuels enough = absurd (omega arith)
  packets_left (suc fuel) (suc turns) app handled name number got rest from wide fuels enough = elim (cases_lt (length rest) (packet_room areas.out)) [
    | inl short ↦
        let few : length (take (packet_room areas.out) rest) < packet_room areas.out = omega (arith, short, length-take (packet_room areas.out) rest) in
        rw (lt-ltb (length rest) (packet_room areas.out) short)
        (last_left turns app handled name number got (take (packet_room areas.out) rest) from (lt-ltb (length (take (packet_room areas.out) rest)) (packet_room areas.out) few) (omega arith))
    | inr long ↦
        let many : packet_room areas.out ≤ length (take (packet_room areas.out) rest) = omega (arith, long, length-take (packet_room areas.out) rest) in
        rw (le-ltb (length rest) (packet_room areas.out) long)
        (more_left turns app handled name number got (take (packet_room areas.out) rest) from (packets fuel areas.out (from + 1) (drop (packet_room areas.out) rest))
        (le-ltb (length (take (packet_room areas.out) rest)) (packet_room areas.out) many)
        (packets_left fuel turns app handled name from (got ++ take (packet_room areas.out) rest) (drop (packet_room areas.out) rest) (from + 1) wide
        (omega (arith, length-drop (packet_room areas.out) rest)) (omega (arith, length-drop (packet_room areas.out) rest))))
  ]

  pub write_left : (turns : ℕ) (v : Server S) (name : List ℕ) (pass : ℕ) (bytes : List ℕ) (found : Option ℕ) → o.allowed v.app name pass true ≡ found → 0 < packet_room areas.out → length bytes + o.busy v.app name < turns →
      left (suc turns) v (mail (Write pass (record { items = name })) ∷ packets (suc (length bytes)) areas.out 1 bytes) ≡ idle
  write_left turns v name pass bytes None is wide enough =
      left_onward turns v (mail (Write pass (record { items = name }))) (ack 0) (goes_on v.app (writing name 0 []) (ack 0)) (packets (suc (length bytes)) areas.out 1 bytes) (ap (begun v.app name) is) refl refl
      ∙ packets_left (suc (length bytes)) turns v.app v.handled name 0 [] bytes 1 wide (omega arith) enough
  write_left turns v name pass bytes (Some code) is wide enough =
      left_over turns v (mail (Write pass (record { items = name }))) (refusal code) (ended v.app idle (refusal code)) (packets (suc (length bytes)) areas.out 1 bytes) (ap (begun v.app name) is) refl refl
