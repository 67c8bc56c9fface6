-- How many mails the client of a read sends: one more than the packets that it heard of a file that came whole, and no more than it heard where
-- the read was refused.
use Rattle.std.proofs.Common.{◌≡◌, ℕ, zero, suc, ◌+◌, ◌≤◌, ◌==◌, Bool, true, false, List, [], ◌∷◌, ◌++◌, length, Option, None, Some, refl, sym, ap, ap₂, ◌∙◌, arith, nat_lt, if◌then◌else◌}
use Rattle.mailbox_mail.specs.declared.outcome.ReplyKind.{ReplyKind}
use Rattle.exchange_model.specs.Areas.{Areas}
use Rattle.exchange_model.specs.Dialogue.{Turn, chosen, turn_at, rest_at, said}
use Rattle.protocol_models.specs.FoeMails.{FoeMail, mail, unread, failed, other, Read, Write, Data, Ack, Error, Busy}
use Rattle.protocol_models.specs.FoeServer.{is_last}
use Rattle.protocol_models.specs.FoeMeaning.{read}
use Rattle.protocol_models.specs.FoeClient.{acks, at_end, decide, ends, most, packets_end, read_turn, turn_behind}
use Rattle.protocol_models.specs.FoeModel.{planned}

-- a file that came whole is acknowledged once more
abbrev pub acks_behind : ReplyKind → ℕ
acks_behind ReplyKind.Value = 1
acks_behind _ = 0

-- a reply at the end of the mails that came
at_end_is : (hs : List FoeMail) (a b : ReplyKind × List ℕ) → at_end hs a ≡ Some b → (hs ≡ []) × (a ≡ b)
at_end_is [] a b e = (refl, (let same : Some a ≡ Some b = e in cc))
at_end_is (h ∷ hs) a b e = absurd (cc)

module _ (out back : ℕ) where
  turn_is : (m h : FoeMail) (hs : List FoeMail) → turn_at (decide out) m [] (h ∷ hs) ≡ Some (turn_behind out m h)
  turn_is m h [] = refl
  turn_is m h (k ∷ hs) = refl

  rest_is : (m h : FoeMail) (hs : List FoeMail) → rest_at (decide out) m [] (h ∷ hs) ≡ hs
  rest_is m h [] = refl
  rest_is m h (k ∷ hs) = refl

  -- what it sends behind a mail of its own that was answered
  said_is : (fuel : ℕ) (m h : FoeMail) (ms hs : List FoeMail) → turn_behind out m h ≡ read_turn h →
      said (decide out) (suc fuel) (m ∷ ms) (h ∷ hs) ≡ m ∷ chosen (Some (read_turn h)) (said (decide out) fuel ms hs) (said (decide out) fuel (m ∷ ms) hs) []
  said_is fuel m h ms hs reads =
      ap₂ (λ (t : Option Turn) (l : List FoeMail). m ∷ chosen t (said (decide out) fuel ms l) (said (decide out) fuel (m ∷ ms) l) []) (turn_is m h hs ∙ ap Some reads) (rest_is m h hs)

  counted : (m : FoeMail) → ((h : FoeMail) → turn_behind out m h ≡ read_turn h) → (fuel n k number : ℕ) (got : List ℕ) (hs : List FoeMail) (kind : ReplyKind) (value : List ℕ) →
      length hs ≤ fuel → length hs ≤ n → packets_end back number got hs ≡ Some (kind, value) → length (said (decide out) (suc fuel) (m ∷ acks n k) hs) ≡ acks_behind kind + length hs
  counted m reads fuel n k number got [] kind value few enough e = absurd (let no : None ≡ Some (kind, value) = e in cc)
  counted m reads zero n k number got (h ∷ hs) kind value few enough e = absurd (omega arith)
  counted m reads (suc fuel) zero k number got (h ∷ hs) kind value few enough e = absurd (omega arith)
  counted m reads (suc fuel) (suc n) k number got (h ∷ hs) kind value few enough e = ap length (said_is (suc fuel) m h (acks (suc n) k) hs (reads h))
      ∙ by (λ octets f. counted (mail (Ack k)) (λ h. refl) fuel n (k + 1) (number + 1) octets hs kind value (omega arith) (omega arith) f) h e
    where
      last : (octets : List ℕ) → at_end hs (ReplyKind.Value, octets) ≡ Some (kind, value) → length (said (decide out) (suc fuel) (acks (suc n) k) hs) ≡ acks_behind kind + length hs
      last octets f =
          let both = at_end_is hs (ReplyKind.Value, octets) (kind, value) f in
          ap (λ l. length (said (decide out) (suc fuel) (acks (suc n) k) l)) both.0
          ∙ sym (ap₂ (λ (r : ReplyKind × List ℕ) (l : List FoeMail). acks_behind r.0 + length l) (sym both.1) both.0)

      data_is : ((octets : List ℕ) → packets_end back (number + 1) octets hs ≡ Some (kind, value) → length (said (decide out) (suc fuel) (acks (suc n) k) hs) ≡ acks_behind kind + length hs) →
          (octets : List ℕ) (same long whole : Bool) →
          (if same then (if long then None else if whole then at_end hs (ReplyKind.Value, octets) else packets_end back (number + 1) octets hs) else None) ≡ Some (kind, value) →
          length (said (decide out) (suc fuel) (acks (suc n) k) hs) ≡ acks_behind kind + length hs
      data_is onward octets false long whole f = absurd (let no : None ≡ Some (kind, value) = f in cc)
      data_is onward octets true true whole f = absurd (let no : None ≡ Some (kind, value) = f in cc)
      data_is onward octets true false true f = last octets f
      data_is onward octets true false false f = onward octets f

      refused : (r : ReplyKind × List ℕ) → acks_behind r.0 ≡ 0 → at_end hs r ≡ Some (kind, value) → 1 ≡ acks_behind kind + suc (length hs)
      refused r none f =
          let both = at_end_is hs r (kind, value) f in
          sym (ap₂ (λ (s : ReplyKind × List ℕ) (l : List FoeMail). acks_behind s.0 + suc (length l)) (sym both.1) both.0 ∙ ap (λ a. a + 1) none)

      by : ((octets : List ℕ) → packets_end back (number + 1) octets hs ≡ Some (kind, value) → length (said (decide out) (suc fuel) (acks (suc n) k) hs) ≡ acks_behind kind + length hs) →
          (h : FoeMail) → packets_end back number got (h ∷ hs) ≡ Some (kind, value) →
          length (m ∷ chosen (Some (read_turn h)) (said (decide out) (suc fuel) (acks (suc n) k) hs) (said (decide out) (suc fuel) (m ∷ acks (suc n) k) hs) []) ≡ acks_behind kind + suc (length hs)
      by onward (mail (Data packet bytes)) f =
          let rest = data_is onward (got ++ bytes.items) (packet == number) (nat_lt most (length (got ++ bytes.items))) (is_last back bytes.items) f in
          omega (arith, rest)
      by onward (mail (Error code)) f = refused (ReplyKind.FoeError code, []) refl f
      by onward (failed detail) f = refused (ReplyKind.MailboxError detail, []) refl f
      by onward (mail (Read pass name)) f = absurd (let no : None ≡ Some (kind, value) = f in cc)
      by onward (mail (Write pass name)) f = absurd (let no : None ≡ Some (kind, value) = f in cc)
      by onward (mail (Ack packet)) f = absurd (let no : None ≡ Some (kind, value) = f in cc)
      by onward (mail (Busy done entire)) f = absurd (let no : None ≡ Some (kind, value) = f in cc)
      by onward (unread fault) f = absurd (let no : None ≡ Some (kind, value) = f in cc)
      by onward (other body) f = absurd (let no : None ≡ Some (kind, value) = f in cc)

-- THE MAILS OF A READ, by what its client heard
pub read_counts : (areas : Areas) (name : List ℕ) (pass : ℕ) (hs : List FoeMail) (kind : ReplyKind) (value : List ℕ) → ends areas (read name pass) hs ≡ Some (kind, value) →
    length (planned areas.out (read name pass) hs) ≡ acks_behind kind + length hs
read_counts areas name pass hs kind value e =
    counted areas.out areas.back (mail (Read pass (record { items = name }))) (λ h. refl) (length hs) (length hs) 1 1 [] hs kind value (omega arith) (omega arith) e
