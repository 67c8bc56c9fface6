-- What the client makes of a mail is what the mail is to it.
use Rattle.std.proofs.Common.{◌≡◌, ℕ, zero, suc, ◌+◌, ◌-◌, ◌<◌, Bool, true, false, ◌&&◌, nat_le, nat_lt, ◌==◌, List, [], ◌∷◌, ◌++◌, length, if◌then◌else◌, None, Some, refl, sym, ap, ◌∙◌, arith, eqb-true, ltb-true}
use Rattle.std.proofs.lemmas.Bool.{eqb-false, and_parts}
use Rattle.arrayvec.specs.ArrayVec.{ArrayVec}
use Rattle.protocol_models.specs.of_mailbox_mail.declared.outcome.ReplyKind.{ReplyKind}
use Rattle.protocol_models.specs.FoeMails.{Foe, FoeMail, mail, unread, failed, other, Read, Write, Data, Ack, Error, Busy}
use Rattle.protocol_models.specs.FoeServer.{is_last}
use Rattle.protocol_models.specs.FoeClient.{at_end, refused_by, is_ack, is_busy, acks_end, is_packet, most, packets_end}
use Rattle.foe_client.specs.declared.state.Unsent.{Unsent}
use Rattle.foe_client.specs.declared.state.Awaits.{Awaits}
use Rattle.foe_client.specs.Talk.{Talking, sending, is_data, is_any_ack, is_value, for_packets, for_acks, lets_go, awaited, is_sound, is_next}
use Rattle.foe_client.specs.Hear.{Heard, TookIs, left_behind, most_mails, foreign, onward, hear_data, hear_ack, hear_busy, hear_refusal, hear_message, hear_mail}

no_length : (xs : List ℕ) → (length xs == 0) ≡ true → xs ≡ []
no_length [] e = refl
no_length (x ∷ xs) e = absurd (omega (arith, eqb-true (length (x ∷ xs)) 0 e))

both_left : (a b : Bool) → (a && b) ≡ true → a ≡ true
both_left true b e = refl
both_left false b e = absurd (cc)

-- a mail that completes and continues nothing
record IsUnawaited (m : FoeMail) : Type 0 where
  ack : (number : ℕ) → is_ack number m ≡ false
  busy : is_busy m ≡ false
  packet : (number : ℕ) → is_packet number m ≡ false
  refused : (ms : List FoeMail) → refused_by m ms ≡ None

-- an acknowledgement of a packet isn't one of another, and no packet; a packet no acknowledgement
ack_only : (left number : ℕ) (m : FoeMail) (ms : List FoeMail) → is_ack number m ≡ false → is_busy m ≡ false → refused_by m ms ≡ None → acks_end left number (m ∷ ms) ≡ None
ack_only zero number m ms a b r = rw (a, b) r
ack_only (suc left) number m ms a b r = rw a r

-- with nothing left to go of a read, the next mail is the acknowledgement of the awaited packet
next_ack : (unsent : Unsent) (quota number : ℕ) → quota ≡ 0 → is_next unsent quota (Awaits.Packet number) ≡ true → unsent ≡ Unsent.Ack number
next_ack Unsent.ReadRequest quota number none next =
    let both = and_parts (nat_lt 0 number) (0 + quota == number) next in absurd (omega (arith, none, ltb-true 0 number both.0, eqb-true (0 + quota) number both.1))
next_ack Unsent.WriteRequest quota number none next = absurd (cc)
next_ack (Unsent.Packet n from) quota number none next = absurd (cc)
next_ack (Unsent.Ack n) quota number none next =
    let both = and_parts (nat_lt 0 number) (n + quota == number) next in ap (λ k. Unsent.Ack k) (omega (arith, none, eqb-true (n + quota) number both.1))

module _ (out back pass : ℕ) (name bytes : List ℕ) (unsent : Unsent) (quota : ℕ) (value : List ℕ) where
  -- the client, by what it awaits
  abbrev at : Awaits → Talking
  at a = record { out = out; back = back; pass = pass; name = name; bytes = bytes; unsent = unsent; quota = quota; awaits = a; value = value }

  abbrev Is : Awaits → FoeMail → Heard → Type 0
  Is a m h = TookIs h.0 (at a) m h.1

  choose : (a : Awaits) (m : FoeMail) (b : Bool) (x y : Heard) → (b ≡ true → Is a m x) → (b ≡ false → Is a m y) → Is a m (if b then x else y)
  choose a m true x y p q = p refl
  choose a m false x y p q = q refl

  is_foreign : (a : Awaits) (m : FoeMail) → ((ms : List FoeMail) → awaited (at a) (m ∷ ms) ≡ None) → Is a m (foreign (at a))
  is_foreign a m none = (none, refl)

  -- a mail behind which the numbers of mails agree: one more may go, or none
  onward_is : quota < most_mails → onward quota ≡ quota + 1
  onward_is few = by (quota == most_mails) refl
    where
      by : (b : Bool) → (quota == most_mails) ≡ b → (if b then quota else quota + 1) ≡ quota + 1
      by true e = absurd (omega (arith, few, eqb-true quota most_mails e))
      by false e = refl

  none_left : (n : ℕ) → sending out pass name bytes n unsent ≡ [] → n ≡ 0
  none_left zero e = refl
  none_left (suc n) e = absurd (cc)

  sends_none : (n : ℕ) → n ≡ 0 → sending out pass name bytes n unsent ≡ []
  sends_none n e = ap (λ k. sending out pass name bytes k unsent) e

  goes_on : (n m : ℕ) → m ≡ suc n → quota < most_mails → sending out pass name bytes (onward quota + n) unsent ≡ sending out pass name bytes (quota + m) unsent
  goes_on n m e few = ap (λ k. sending out pass name bytes k unsent) (omega (arith, e, onward_is few))

  -- a packet lets one more go
  one_more : (n : ℕ) → sending out pass name bytes (quota + 1 + n) unsent ≡ sending out pass name bytes (quota + suc n) unsent
  one_more n = ap (λ k. sending out pass name bytes k unsent) (omega arith)

  -- behind the end of a service none goes, neither of those that were left
  ends_here : (n m now k : ℕ) → k + n ≡ 0 → m ≡ 0 → now ≡ 0 → sending out pass name bytes (quota + now) unsent ≡ [] → sending out pass name bytes (k + n) unsent ≡ sending out pass name bytes (quota + m) unsent
  ends_here n m now k p q r e =
      let all : quota + now ≡ 0 = none_left (quota + now) e in sends_none (k + n) p ∙ sym (sends_none (quota + m) (omega (arith, all, q)))

  -- a packet of a file
  packet_reads : (number : ℕ) (octets : ArrayVec ℕ) (ms : List FoeMail) → nat_lt most (length (value ++ octets.items)) ≡ false → (packet : ℕ) → (packet == number) ≡ true →
      packets_end back number value (mail (Data packet octets) ∷ ms)
      ≡ (if is_last back octets.items then at_end ms (ReplyKind.Value, value ++ octets.items) else packets_end back (number + 1) (value ++ octets.items) ms)
  packet_reads number octets ms fits packet same = rw (same, fits) refl

  -- the acknowledgement of the last packet is the mail that was next
  acknowledges : (number packet n : ℕ) → is_next unsent quota (Awaits.Packet number) ≡ true → packet ≡ number → sending out pass name bytes (quota + 0) unsent ≡ [] →
      sending out pass name bytes (1 + n) (Unsent.Ack packet) ≡ sending out pass name bytes (quota + suc n) unsent
  acknowledges number packet n next same none =
      let zero_is : quota ≡ 0 = omega (arith, none_left (quota + 0) none) in
      ap (λ k. sending out pass name bytes (1 + n) (Unsent.Ack k)) same
      ∙ ap (λ u. sending out pass name bytes (1 + n) u) (sym (next_ack unsent quota number zero_is next))
      ∙ ap (λ k. sending out pass name bytes k unsent) (omega (arith, zero_is))

  took_data : (a : Awaits) → is_next unsent quota a ≡ true → (packet : ℕ) (octets : ArrayVec ℕ) → Is a (mail (Data packet octets)) (hear_data (at a) a packet octets.items)
  took_data Awaits.Nothing next packet octets = is_foreign Awaits.Nothing (mail (Data packet octets)) (λ ms. refl)
  took_data (Awaits.Packet number) next packet octets =
      let m = mail (Data packet octets) in
      choose (Awaits.Packet number) m (packet == number) _ _
      (λ same. choose (Awaits.Packet number) m (nat_lt most (length (value ++ octets.items))) _ _
      (λ long. is_foreign (Awaits.Packet number) m (λ ms. rw (same, long) refl))
      (λ fits. choose (Awaits.Packet number) m (is_last back octets.items) _ _
      (λ last. record {
        over = refl;
        replies = λ ms. sym (packet_reads number octets ms fits packet same ∙ rw last refl);
        mails = λ none hs. acknowledges number packet (for_packets hs) next (eqb-true packet number same) none;
        left = refl;
        areas = refl;
      })
      (λ full. (
        record {
          replies = λ ms. sym (packet_reads number octets ms fits packet same ∙ rw full refl);
          mails = λ few hs. one_more (for_packets hs);
          areas = refl;
        },
        record { over = refl; yet = refl; open_to = λ detail. refl },
      ))))
      (λ apart. is_foreign (Awaits.Packet number) m (λ ms. rw apart refl))
  took_data (Awaits.Ack left number) next packet octets = is_foreign (Awaits.Ack left number) (mail (Data packet octets)) (λ ms. ack_only left number (mail (Data packet octets)) ms refl refl refl)
  took_data (Awaits.Over kind) next packet octets = is_foreign (Awaits.Over kind) (mail (Data packet octets)) (λ ms. refl)

  -- acknowledgements
  acks_now : (left : ℕ) → for_acks left [] ≡ 0
  acks_now zero = refl
  acks_now (suc left) = refl

  acks_yet : (left number : ℕ) → acks_end left number [] ≡ None
  acks_yet zero number = refl
  acks_yet (suc left) number = refl

  acks_open : (left number detail : ℕ) → acks_end left number (failed detail ∷ []) ≡ Some (ReplyKind.MailboxError detail, [])
  acks_open zero number detail = refl
  acks_open (suc left) number detail = refl

  last_acked : (left number packet : ℕ) (ms : List FoeMail) → (left == 0) ≡ true → (packet == number) ≡ true → acks_end left number (mail (Ack packet) ∷ ms) ≡ at_end ms (ReplyKind.Done, [])
  last_acked zero number packet ms none same = rw same refl
  last_acked (suc left) number packet ms none same = absurd (omega (arith, eqb-true (suc left) 0 none))

  more_acked : (left number packet : ℕ) (ms : List FoeMail) → (left == 0) ≡ false → (packet == number) ≡ true → acks_end left number (mail (Ack packet) ∷ ms) ≡ acks_end (left - 1) (number + 1) ms
  more_acked zero number packet ms some same = absurd (eqb-false 0 0 some refl)
  more_acked (suc left) number packet ms some same =
      let back_is : suc left - 1 ≡ left = omega arith in
      let whole : acks_end (suc left) number (mail (Ack packet) ∷ ms) ≡ acks_end left (number + 1) ms = rw same refl in
      whole ∙ ap (λ n. acks_end n (number + 1) ms) (sym back_is)

  last_goes : (left : ℕ) (packet : ℕ) (hs : List FoeMail) → (left == 0) ≡ true → for_acks left (mail (Ack packet) ∷ hs) ≡ 0
  last_goes zero packet hs none = refl
  last_goes (suc left) packet hs none = absurd (omega (arith, eqb-true (suc left) 0 none))

  more_goes : (left : ℕ) (packet : ℕ) (hs : List FoeMail) → (left == 0) ≡ false → for_acks left (mail (Ack packet) ∷ hs) ≡ suc (for_acks (left - 1) hs)
  more_goes zero packet hs some = absurd (eqb-false 0 0 some refl)
  more_goes (suc left) packet hs some = let back_is : suc left - 1 ≡ left = omega arith in ap (λ n. suc (for_acks n hs)) (sym back_is)

  took_ack : (a : Awaits) → is_sound a value ≡ true → (packet : ℕ) → Is a (mail (Ack packet)) (hear_ack (at a) a packet)
  took_ack Awaits.Nothing sound packet = is_foreign Awaits.Nothing (mail (Ack packet)) (λ ms. refl)
  took_ack (Awaits.Packet number) sound packet = is_foreign (Awaits.Packet number) (mail (Ack packet)) (λ ms. refl)
  took_ack (Awaits.Ack left number) sound packet =
      let m = mail (Ack packet) in
      choose (Awaits.Ack left number) m (packet == number) _ _
      (λ same. choose (Awaits.Ack left number) m (left == 0) _ _
      (λ none. record {
        over = refl;
        replies = λ ms. ap (λ v. at_end ms (ReplyKind.Done, v)) (no_length value (both_left (length value == 0) (nat_le (left + number) 131073) sound)) ∙ sym (last_acked left number packet ms none same);
        mails = λ nothing hs. ends_here 0 (for_acks left (m ∷ hs)) (for_acks left []) 0 refl (last_goes left packet hs none) (acks_now left) nothing;
        left = refl;
        areas = refl;
      })
      (λ some. (
        record {
          replies = λ ms. sym (more_acked left number packet ms some same);
          mails = λ few hs. goes_on (for_acks (left - 1) hs) (for_acks left (m ∷ hs)) (more_goes left packet hs some) few;
          areas = refl;
        },
        record { over = refl; yet = acks_yet (left - 1) (number + 1); open_to = acks_open (left - 1) (number + 1) },
      )))
      (λ apart. is_foreign (Awaits.Ack left number) m (λ ms. ack_only left number m ms apart refl refl))
  took_ack (Awaits.Over kind) sound packet = is_foreign (Awaits.Over kind) (mail (Ack packet)) (λ ms. refl)

  -- busy answers
  busy_reads : (left number done entire : ℕ) (ms : List FoeMail) → (left == 0) ≡ true → acks_end left number (mail (Busy done entire) ∷ ms) ≡ acks_end left number ms
  busy_reads zero number done entire ms none = refl
  busy_reads (suc left) number done entire ms none = absurd (omega (arith, eqb-true (suc left) 0 none))

  busy_early : (left number done entire : ℕ) (ms : List FoeMail) → (left == 0) ≡ false → acks_end left number (mail (Busy done entire) ∷ ms) ≡ None
  busy_early zero number done entire ms some = absurd (eqb-false 0 0 some refl)
  busy_early (suc left) number done entire ms some = refl

  busy_goes : (left done entire : ℕ) (hs : List FoeMail) → (left == 0) ≡ true → for_acks left (mail (Busy done entire) ∷ hs) ≡ suc (for_acks left hs)
  busy_goes zero done entire hs none = refl
  busy_goes (suc left) done entire hs none = absurd (omega (arith, eqb-true (suc left) 0 none))

  took_busy : (a : Awaits) (done entire : ℕ) → Is a (mail (Busy done entire)) (hear_busy (at a) a)
  took_busy Awaits.Nothing done entire = is_foreign Awaits.Nothing (mail (Busy done entire)) (λ ms. refl)
  took_busy (Awaits.Packet number) done entire = is_foreign (Awaits.Packet number) (mail (Busy done entire)) (λ ms. refl)
  took_busy (Awaits.Ack left number) done entire =
      let m = mail (Busy done entire) in
      choose (Awaits.Ack left number) m (left == 0) _ _
      (λ none. (
        record {
          replies = λ ms. sym (busy_reads left number done entire ms none);
          mails = λ few hs. goes_on (for_acks left hs) (for_acks left (m ∷ hs)) (busy_goes left done entire hs none) few;
          areas = refl;
        },
        record { over = refl; yet = acks_yet left number; open_to = acks_open left number },
      ))
      (λ some. is_foreign (Awaits.Ack left number) m (λ ms. busy_early left number done entire ms some))
  took_busy (Awaits.Over kind) done entire = is_foreign (Awaits.Over kind) (mail (Busy done entire)) (λ ms. refl)

  -- a mail that refuses the service
  record Refuses (m : FoeMail) (kind : ReplyKind) : Type 0 where
    reads : (ms : List FoeMail) → refused_by m ms ≡ at_end ms (kind, [])
    ack : (number : ℕ) → is_ack number m ≡ false
    any_ack : is_any_ack m ≡ false
    busy : is_busy m ≡ false
    packet : (number : ℕ) → is_packet number m ≡ false
    is_packet_of : is_data m ≡ false
    last : left_behind m ≡ []
    valueless : is_value kind ≡ false

  refused_acks : (left number : ℕ) (m : FoeMail) (kind : ReplyKind) (ms : List FoeMail) → Refuses m kind → acks_end left number (m ∷ ms) ≡ at_end ms (kind, [])
  refused_acks zero number m kind ms r = rw (r.ack number, r.busy) (r.reads ms)
  refused_acks (suc left) number m kind ms r = rw (r.ack number) (r.reads ms)

  refused_goes : (left : ℕ) (m : FoeMail) (kind : ReplyKind) (hs : List FoeMail) → Refuses m kind → for_acks left (m ∷ hs) ≡ 0
  refused_goes zero m kind hs r = rw (r.busy) refl
  refused_goes (suc left) m kind hs r = rw (r.any_ack) refl

  over_goes : (kind : ReplyKind) (hs : List FoeMail) → is_value kind ≡ false → lets_go (Awaits.Over kind) hs ≡ 0
  over_goes kind hs none = rw none refl

  took_refusal : (a : Awaits) (m : FoeMail) (kind : ReplyKind) → Refuses m kind → Is a m (hear_refusal (at a) a kind)
  took_refusal Awaits.Nothing m kind r = is_foreign Awaits.Nothing m (λ ms. refl)
  took_refusal (Awaits.Packet number) m kind r = record {
    over = refl;
    replies = λ ms. sym (rw (r.packet number) (r.reads ms));
    mails = λ nothing hs. ends_here (lets_go (Awaits.Over kind) hs) (for_packets (m ∷ hs)) 0 0 (omega (arith, over_goes kind hs r.valueless)) (refused_packets hs) refl nothing;
    left = sends_none (0 + lets_go (Awaits.Over kind) []) (omega (arith, over_goes kind [] r.valueless)) ∙ sym r.last;
    areas = refl;
  }
    where
      refused_packets : (hs : List FoeMail) → for_packets (m ∷ hs) ≡ 0
      refused_packets hs = ap (λ b. if b then suc (for_packets hs) else 0) (r.is_packet_of)
  took_refusal (Awaits.Ack left number) m kind r = record {
    over = refl;
    replies = λ ms. sym (refused_acks left number m kind ms r);
    mails = λ nothing hs. ends_here (lets_go (Awaits.Over kind) hs) (for_acks left (m ∷ hs)) (for_acks left []) 0 (omega (arith, over_goes kind hs r.valueless)) (refused_goes left m kind hs r) (acks_now left) nothing;
    left = sends_none (0 + lets_go (Awaits.Over kind) []) (omega (arith, over_goes kind [] r.valueless)) ∙ sym r.last;
    areas = refl;
  }
  took_refusal (Awaits.Over kept) m kind r = is_foreign (Awaits.Over kept) m (λ ms. refl)

  -- a mail that no client awaits
  unawaited : (a : Awaits) (m : FoeMail) → IsUnawaited m → Is a m (foreign (at a))
  unawaited Awaits.Nothing m u = is_foreign Awaits.Nothing m (λ ms. refl)
  unawaited (Awaits.Packet number) m u = is_foreign (Awaits.Packet number) m (λ ms. rw (u.packet number) (u.refused ms))
  unawaited (Awaits.Ack left number) m u = is_foreign (Awaits.Ack left number) m (λ ms. ack_only left number m ms (u.ack number) u.busy (u.refused ms))
  unawaited (Awaits.Over kind) m u = is_foreign (Awaits.Over kind) m (λ ms. refl)

  took_message : (a : Awaits) → is_sound a value ≡ true → is_next unsent quota a ≡ true → (f : Foe) → Is a (mail f) (hear_message (at a) f)
  took_message a sound next (Data packet octets) = took_data a next packet octets
  took_message a sound next (Ack packet) = took_ack a sound packet
  took_message a sound next (Busy done entire) = took_busy a done entire
  took_message a sound next (Error code) = took_refusal a (mail (Error code)) (ReplyKind.FoeError code) (record {
    reads = λ ms. refl;
    ack = λ number. refl;
    any_ack = refl;
    busy = refl;
    packet = λ number. refl;
    is_packet_of = refl;
    last = refl;
    valueless = refl;
  })
  took_message a sound next (Read p x) = unawaited a (mail (Read p x)) (record { ack = λ number. refl; busy = refl; packet = λ number. refl; refused = λ ms. refl })
  took_message a sound next (Write p x) = unawaited a (mail (Write p x)) (record { ack = λ number. refl; busy = refl; packet = λ number. refl; refused = λ ms. refl })

  took_mail : (a : Awaits) → is_sound a value ≡ true → is_next unsent quota a ≡ true → (m : FoeMail) → Is a m (hear_mail (at a) m)
  took_mail a sound next (mail f) = took_message a sound next f
  took_mail a sound next (failed detail) = took_refusal a (failed detail) (ReplyKind.MailboxError detail) (record {
    reads = λ ms. refl;
    ack = λ number. refl;
    any_ack = refl;
    busy = refl;
    packet = λ number. refl;
    is_packet_of = refl;
    last = refl;
    valueless = refl;
  })
  took_mail a sound next (unread fault) = unawaited a (unread fault) (record { ack = λ number. refl; busy = refl; packet = λ number. refl; refused = λ ms. refl })
  took_mail a sound next (other body) = unawaited a (other body) (record { ack = λ number. refl; busy = refl; packet = λ number. refl; refused = λ ms. refl })

pub took_is : (c : Talking) → is_sound c.awaits c.value ≡ true → is_next c.unsent c.quota c.awaits ≡ true → (m : FoeMail) → TookIs (hear_mail c m).0 c m (hear_mail c m).1
took_is c sound next m = took_mail c.out c.back c.pass c.name c.bytes c.unsent c.quota c.value c.awaits sound next m
