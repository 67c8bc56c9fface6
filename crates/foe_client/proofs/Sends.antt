-- What a client sends is the first of the mails that it has left, and at first those are the planned ones.
use Rattle.std.proofs.Common.{◌≡◌, inl, inr, ℕ, zero, suc, ◌+◌, ◌-◌, ◌/◌, ◌<◌, ◌≤◌, Bool, true, false, ◌&&◌, nat_le, nat_lt, ◌==◌, List, [], ◌∷◌, length, take, drop, if◌then◌else◌, Some, refl, sym, ap, ◌∙◌, arith, length-take, length-drop, eqb-true, eq-eqb, leb-true, lt-ltb, le-ltb}
use Rattle.std.proofs.lemmas.Bool.{cases_lt, and_parts, and_from}
use Rattle.std.proofs.lemmas.List.{drop-drop}
use Rattle.protocol_models.specs.of_exchange_model.Areas.{Areas}
use Rattle.protocol_models.specs.of_exchange_model.Dialogue.{chosen, said}
use Rattle.protocol_models.specs.of_foe_codec.Message.{is_name, IsSpellable, foe_text}
use Rattle.protocol_models.specs.FoeMails.{Read, Write, Data, Ack, Error, Busy, FoeMail, mail, unread, failed, other}
use Rattle.protocol_models.specs.FoeServer.{packet_room, packet_of, is_last}
use Rattle.protocol_models.specs.FoeMeaning.{read, write}
use Rattle.protocol_models.specs.FoeClient.{is_busy, packets, acks, decide, read_turn, write_turn, turn_behind, full_packets}
use Rattle.protocol_models.specs.FoeModel.{planned}
use Rattle.protocol_models.proofs.Counts.{none_full, one_full}
use Rattle.foe_client.specs.declared.state.Unsent.{Unsent}
use Rattle.foe_client.specs.declared.state.Awaits.{Awaits}
use Rattle.foe_client.specs.Talk.{Talking, mail_of, following, sending, is_data, is_any_ack, is_value, for_packets, for_acks, lets_go, later, is_left, is_next, begun}
use Rattle.foe_client.specs.Send.{message_of, sent_first, IsNext}

name_sized : (name : List ℕ) → is_name name ≡ true → (1 ≤ length name) × (length name ≤ 32)
name_sized name e = by (nat_le 1 (length name)) (nat_le (length name) 32) refl refl e
  where
    by : (a b : Bool) → nat_le 1 (length name) ≡ a → nat_le (length name) 32 ≡ b → (a && b) ≡ true → (1 ≤ length name) × (length name ≤ 32)
    by true true p q r = (leb-true 1 (length name) p, leb-true (length name) 32 q)
    by true false p q r = absurd (cc)
    by false b p q r = absurd (cc)

-- the message is the mail, and it fits
mail_is : (c : Talking) (u : Unsent) → mail (message_of c u) ≡ mail_of c.out c.pass c.name c.bytes u
mail_is c Unsent.ReadRequest = refl
mail_is c Unsent.WriteRequest = refl
mail_is c (Unsent.Packet number from) = refl
mail_is c (Unsent.Ack number) = refl

pub message_spells : (c : Talking) (u : Unsent) → is_left u c.name c.bytes ≡ true → IsSpellable (message_of c u)
message_spells c Unsent.ReadRequest left = (name_sized c.name left).0
message_spells c Unsent.WriteRequest left = (name_sized c.name left).0
message_spells c (Unsent.Packet number from) left = tt
message_spells c (Unsent.Ack number) left = tt

message_fits : (c : Talking) (u : Unsent) → 64 ≤ c.out → is_left u c.name c.bytes ≡ true → length (foe_text (message_of c u)) + 6 ≤ c.out
message_fits c Unsent.ReadRequest wide left = let few = (name_sized c.name left).1 in omega arith
message_fits c Unsent.WriteRequest wide left = let few = (name_sized c.name left).1 in omega arith
message_fits c (Unsent.Packet number from) wide left = omega (arith, length-take (packet_room c.out) (drop from c.bytes))
message_fits c (Unsent.Ack number) wide left = omega arith

sending_none : (out pass : ℕ) (name bytes : List ℕ) (u : Unsent) (n : ℕ) → n ≡ 0 → sending out pass name bytes n u ≡ []
sending_none out pass name bytes u zero e = refl
sending_none out pass name bytes u (suc n) e = absurd (omega (arith, e))

sending_more : (out pass : ℕ) (name bytes : List ℕ) (u : Unsent) (n m : ℕ) → n ≡ suc m →
    sending out pass name bytes n u ≡ mail_of out pass name bytes u ∷ sending out pass name bytes m (following out bytes u)
sending_more out pass name bytes u n m e = ap (λ k. sending out pass name bytes k u) e

-- the mail that follows one of a read has the next number
pub next_stays : (out : ℕ) (bytes : List ℕ) (u : Unsent) (quota : ℕ) (a : Awaits) → (quota ≡ 0 → ⊥) → is_next u quota a ≡ true → is_next (following out bytes u) (quota - 1) a ≡ true
next_stays out bytes u quota Awaits.Nothing some next = refl
next_stays out bytes u quota (Awaits.Ack left number) some next = refl
next_stays out bytes u quota (Awaits.Over kind) some next = refl
next_stays out bytes Unsent.ReadRequest quota (Awaits.Packet number) some next =
    let both = and_parts (nat_lt 0 number) (0 + quota == number) next in
    and_from (nat_lt 0 number) (1 + (quota - 1) == number) both.0 (eq-eqb (1 + (quota - 1)) number (omega (arith, some, eqb-true (0 + quota) number both.1)))
next_stays out bytes Unsent.WriteRequest quota (Awaits.Packet number) some next = absurd (cc)
next_stays out bytes (Unsent.Packet n from) quota (Awaits.Packet number) some next = absurd (cc)
next_stays out bytes (Unsent.Ack n) quota (Awaits.Packet number) some next =
    let both = and_parts (nat_lt 0 number) (n + quota == number) next in
    and_from (nat_lt 0 number) (n + 1 + (quota - 1) == number) both.0 (eq-eqb (n + 1 + (quota - 1)) number (omega (arith, some, eqb-true (n + quota) number both.1)))

none_now : (a : Awaits) → lets_go a [] ≡ 0
none_now Awaits.Nothing = refl
none_now (Awaits.Packet number) = refl
none_now (Awaits.Ack zero number) = refl
none_now (Awaits.Ack (suc left) number) = refl
none_now (Awaits.Over kind) = none (is_value kind)
  where
    none : (b : Bool) → ◌≡◌ {A = ℕ} (if b then 0 else 0) 0
    none true = refl
    none false = refl

-- where no mail may go, none is left
pub none_is : (c : Talking) → c.quota ≡ 0 → later c [] ≡ []
none_is c none = sending_none c.out c.pass c.name c.bytes c.unsent (c.quota + lets_go c.awaits []) (omega (arith, none, none_now c.awaits))

-- and where one may go, one is left
pub some_is : (c : Talking) → (c.quota ≡ 0 → ⊥) → later c [] ≡ [] → ⊥
some_is c some e =
    let more : c.quota + lets_go c.awaits [] ≡ suc (c.quota - 1 + lets_go c.awaits []) = omega (arith, some) in
    let first = sending_more c.out c.pass c.name c.bytes c.unsent (c.quota + lets_go c.awaits []) (c.quota - 1 + lets_go c.awaits []) more in
    absurd (let wrong = sym first ∙ e in cc)

pub next_is : (c : Talking) → 64 ≤ c.out → is_left c.unsent c.name c.bytes ≡ true → (c.quota ≡ 0 → ⊥) → IsNext (message_of c c.unsent) c (sent_first c)
next_is c wide left some = record {
  mails = λ hs. (let more : c.quota + lets_go c.awaits hs ≡ suc (c.quota - 1 + lets_go c.awaits hs) = omega (arith, some) in
      sending_more c.out c.pass c.name c.bytes c.unsent (c.quota + lets_go c.awaits hs) (c.quota - 1 + lets_go c.awaits hs) more
      ∙ ap (λ m. m ∷ sending c.out c.pass c.name c.bytes (c.quota - 1 + lets_go c.awaits hs) (following c.out c.bytes c.unsent)) (sym (mail_is c c.unsent)));
  spellable = message_spells c c.unsent left;
  fits = message_fits c c.unsent wide left;
  replies = λ ms. refl;
  areas = refl;
}

-- a client decides on the first answer
said_one : (out fuel : ℕ) (m h : FoeMail) (ms hs : List FoeMail) →
    said (decide out) (suc fuel) (m ∷ ms) (h ∷ hs) ≡ m ∷ chosen (Some (turn_behind out m h)) (said (decide out) fuel ms hs) (said (decide out) fuel (m ∷ ms) hs) []
said_one out fuel m h ms [] = refl
said_one out fuel m h ms (k ∷ hs) = refl

module _ (out pass : ℕ) (name bytes : List ℕ) where
  -- a read: each packet lets one more acknowledgement go
  said_acks : (hs : List FoeMail) (fuel n number : ℕ) (m : FoeMail) → ((h : FoeMail) → turn_behind out m h ≡ read_turn h) → length hs ≤ fuel → length hs ≤ n →
      said (decide out) (suc fuel) (m ∷ acks n number) hs ≡ m ∷ sending out pass name bytes (for_packets hs) (Unsent.Ack number)
  said_acks [] fuel n number m turn few many = refl
  said_acks (h ∷ hs) zero n number m turn few many = absurd (omega arith)
  said_acks (h ∷ hs) (suc fuel) zero number m turn few many = absurd (omega arith)
  said_acks (h ∷ hs) (suc fuel) (suc n) number m turn few many = said_one out (suc fuel) m h (acks (suc n) number) hs
      ∙ ap (λ t. m ∷ chosen (Some t) (said (decide out) (suc fuel) (acks (suc n) number) hs) (said (decide out) (suc fuel) (m ∷ acks (suc n) number) hs) []) (turn h)
      ∙ by_answer h (said_acks hs fuel n (number + 1) (mail (Ack number)) (λ h. refl) (omega arith) (omega arith))
    where
      by_answer : (h : FoeMail) → said (decide out) (suc fuel) (mail (Ack number) ∷ acks n (number + 1)) hs
          ≡ mail (Ack number) ∷ sending out pass name bytes (for_packets hs) (Unsent.Ack (number + 1)) →
          m ∷ chosen (Some (read_turn h)) (said (decide out) (suc fuel) (acks (suc n) number) hs) (said (decide out) (suc fuel) (m ∷ acks (suc n) number) hs) []
          ≡ m ∷ sending out pass name bytes (if is_data h then suc (for_packets hs) else 0) (Unsent.Ack number)
      by_answer (mail (Data packet part)) rest = ap (λ l. m ∷ l) rest
      by_answer (mail (Read p x)) rest = refl
      by_answer (mail (Write p x)) rest = refl
      by_answer (mail (Ack packet)) rest = refl
      by_answer (mail (Error code)) rest = refl
      by_answer (mail (Busy done entire)) rest = refl
      by_answer (unread fault) rest = refl
      by_answer (failed detail) rest = refl
      by_answer (other body) rest = refl

  -- the last packet of a write, again behind each busy answer
  said_last : (hs : List FoeMail) (fuel number from : ℕ) → length hs ≤ fuel → length (drop from bytes) < packet_room out →
      said (decide out) (suc fuel) (packet_of out number (drop from bytes) ∷ []) hs
      ≡ packet_of out number (drop from bytes) ∷ sending out pass name bytes (for_acks zero hs) (Unsent.Packet number from)
  said_last [] fuel number from few short = refl
  said_last (h ∷ hs) zero number from few short = absurd (omega arith)
  said_last (h ∷ hs) (suc fuel) number from few short =
      let last : is_last out (take (packet_room out) (drop from bytes)) ≡ true =
      lt-ltb (length (take (packet_room out) (drop from bytes))) (packet_room out) (omega (arith, length-take (packet_room out) (drop from bytes))) in
      let stays : following out bytes (Unsent.Packet number from) ≡ Unsent.Packet number from = rw (lt-ltb (length (drop from bytes)) (packet_room out) short) refl in
      said_one out (suc fuel) (packet_of out number (drop from bytes)) h [] hs
      ∙ ap (λ b. packet_of out number (drop from bytes) ∷ chosen (Some (write_turn b h)) (said (decide out) (suc fuel) [] hs)
      (said (decide out) (suc fuel) (packet_of out number (drop from bytes) ∷ []) hs) []) last
      ∙ by_answer h stays (said_last hs fuel number from (omega arith) short)
    where
      by_answer : (h : FoeMail) → following out bytes (Unsent.Packet number from) ≡ Unsent.Packet number from →
          said (decide out) (suc fuel) (packet_of out number (drop from bytes) ∷ []) hs
          ≡ packet_of out number (drop from bytes) ∷ sending out pass name bytes (for_acks zero hs) (Unsent.Packet number from) →
          packet_of out number (drop from bytes) ∷ chosen (Some (write_turn true h)) (said (decide out) (suc fuel) [] hs)
          (said (decide out) (suc fuel) (packet_of out number (drop from bytes) ∷ []) hs) []
          ≡ packet_of out number (drop from bytes) ∷ sending out pass name bytes (if is_busy h then suc (for_acks zero hs) else 0) (Unsent.Packet number from)
      by_answer (mail (Busy done entire)) stays rest = ap (λ l. packet_of out number (drop from bytes) ∷ l)
          (rest ∙ ap (λ u. packet_of out number (drop from bytes) ∷ sending out pass name bytes (for_acks zero hs) u) (sym stays))
      by_answer (mail (Data packet part)) stays rest = refl
      by_answer (mail (Read p x)) stays rest = refl
      by_answer (mail (Write p x)) stays rest = refl
      by_answer (mail (Ack packet)) stays rest = refl
      by_answer (mail (Error code)) stays rest = refl
      by_answer (unread fault) stays rest = refl
      by_answer (failed detail) stays rest = refl
      by_answer (other body) stays rest = refl

  -- what goes behind the acknowledgement of the mail before
  abbrev Goes : List FoeMail → ℕ → ℕ → ℕ → ℕ → Type 0
  Goes hs fuel f number from = said (decide out) (suc fuel) (packets (suc f) out number (drop from bytes)) hs
      ≡ packet_of out number (drop from bytes) ∷ sending out pass name bytes (for_acks (full_packets out (length (drop from bytes))) hs) (following out bytes (Unsent.Packet number from))

  -- the packets of a write, behind a mail that isn't the last: each acknowledgement lets one more go
  said_packets : (hs : List FoeMail) (fuel f number from : ℕ) (m : FoeMail) → ((h : FoeMail) → turn_behind out m h ≡ write_turn false h) → 0 < packet_room out →
      length hs ≤ fuel → length (drop from bytes) < f →
      said (decide out) (suc fuel) (m ∷ packets f out number (drop from bytes)) hs
      ≡ m ∷ sending out pass name bytes (for_acks (suc (full_packets out (length (drop from bytes)))) hs) (Unsent.Packet number from)
  said_packets [] fuel f number from m turn wide few many = refl
  said_packets (h ∷ hs) zero f number from m turn wide few many = absurd (omega arith)
  said_packets (h ∷ hs) (suc fuel) zero number from m turn wide few many = absurd (omega arith)
  said_packets (h ∷ hs) (suc fuel) (suc f) number from m turn wide few many =
      let next_packets = packets (suc f) out number (drop from bytes) in
      said_one out (suc fuel) m h next_packets hs
      ∙ ap (λ t. m ∷ chosen (Some t) (said (decide out) (suc fuel) next_packets hs) (said (decide out) (suc fuel) (m ∷ next_packets) hs) []) (turn h)
      ∙ by_answer h (elim (cases_lt (length (drop from bytes)) (packet_room out)) [
        | inl short ↦ ends_here short (said_last hs fuel number from (omega arith) short)
        | inr long ↦ goes_on long (said_packets hs fuel f (number + 1) (from + packet_room out) (packet_of out number (drop from bytes)) (full_turn long) wide (omega arith)
            (omega (arith, length-drop from bytes, length-drop (from + packet_room out) bytes)))
      ])
    where
      full_turn : packet_room out ≤ length (drop from bytes) → (h : FoeMail) → write_turn (is_last out (take (packet_room out) (drop from bytes))) h ≡ write_turn false h
      full_turn long h = ap (λ b. write_turn b h)
          (le-ltb (length (take (packet_room out) (drop from bytes))) (packet_room out) (omega (arith, length-take (packet_room out) (drop from bytes))))

      ends_here : length (drop from bytes) < packet_room out →
          said (decide out) (suc fuel) (packet_of out number (drop from bytes) ∷ []) hs
          ≡ packet_of out number (drop from bytes) ∷ sending out pass name bytes (for_acks zero hs) (Unsent.Packet number from) → Goes hs fuel f number from
      ends_here short rest =
          let none : full_packets out (length (drop from bytes)) ≡ 0 = none_full (packet_room out) (length (drop from bytes)) short in
          rw (none, lt-ltb (length (drop from bytes)) (packet_room out) short) rest

      goes_on : packet_room out ≤ length (drop from bytes) →
          said (decide out) (suc fuel) (packet_of out number (drop from bytes) ∷ packets f out (number + 1) (drop (from + packet_room out) bytes)) hs
          ≡ packet_of out number (drop from bytes) ∷ sending out pass name bytes (for_acks (suc (full_packets out (length (drop (from + packet_room out) bytes)))) hs) (Unsent.Packet (number + 1) (from + packet_room out)) → Goes hs fuel f number from
      goes_on long rest =
          let count : full_packets out (length (drop from bytes)) ≡ suc (full_packets out (length (drop (from + packet_room out) bytes))) =
          one_full (packet_room out) (length (drop from bytes)) wide long
          ∙ ap (λ n. suc (n / packet_room out)) (omega (arith, length-drop from bytes, length-drop (from + packet_room out) bytes)) in
          rw (count, le-ltb (length (drop from bytes)) (packet_room out) long, drop-drop (packet_room out) from bytes) rest

      by_answer : (h : FoeMail) → Goes hs fuel f number from →
          m ∷ chosen (Some (write_turn false h)) (said (decide out) (suc fuel) (packets (suc f) out number (drop from bytes)) hs)
          (said (decide out) (suc fuel) (m ∷ packets (suc f) out number (drop from bytes)) hs) []
          ≡ m ∷ sending out pass name bytes (if is_any_ack h then suc (for_acks (full_packets out (length (drop from bytes))) hs) else 0) (Unsent.Packet number from)
      by_answer (mail (Ack packet)) rest = ap (λ l. m ∷ l) rest
      by_answer (mail (Busy done entire)) rest = refl
      by_answer (mail (Data packet part)) rest = refl
      by_answer (mail (Read p x)) rest = refl
      by_answer (mail (Write p x)) rest = refl
      by_answer (mail (Error code)) rest = refl
      by_answer (unread fault) rest = refl
      by_answer (failed detail) rest = refl
      by_answer (other body) rest = refl

-- a read that has begun
pub starts_read : (areas : Areas) (pass : ℕ) (name : List ℕ) (hs : List FoeMail) →
    later (begun areas name pass [] Unsent.ReadRequest (Awaits.Packet 1)) hs ≡ planned areas.out (read name pass) hs
starts_read areas pass name hs =
    sending_more areas.out pass name [] Unsent.ReadRequest (1 + for_packets hs) (for_packets hs) (omega arith)
    ∙ sym (said_acks areas.out pass name [] hs (length hs) (length hs) 1 (mail (Read pass (record { items = name }))) (λ h. refl) (omega arith) (omega arith))

-- a write that has begun
pub starts_write : (areas : Areas) (pass : ℕ) (name bytes : List ℕ) (hs : List FoeMail) → 64 ≤ areas.out →
    later (begun areas name pass bytes Unsent.WriteRequest (Awaits.Ack (suc (full_packets areas.out (length bytes))) 0)) hs ≡ planned areas.out (write name pass bytes) hs
starts_write areas pass name bytes hs wide =
    sending_more areas.out pass name bytes Unsent.WriteRequest (1 + for_acks (suc (full_packets areas.out (length bytes))) hs) (for_acks (suc (full_packets areas.out (length bytes))) hs) (omega arith)
    ∙ sym (said_packets areas.out pass name bytes hs (length hs) (suc (length bytes)) 1 0 (mail (Write pass (record { items = name }))) (λ h. refl) (omega arith) (omega arith) (omega arith))
