-- Nothing behind a complete reply side belongs to it.
use Rattle.std.proofs.Common.{◌≡◌, ℕ, zero, suc, ◌+◌, Bool, true, false, List, [], ◌∷◌, ◌++◌, length, if◌then◌else◌, Option, None, Some, refl, nat_lt}
use Rattle.mailbox_mail.specs.declared.outcome.ReplyKind.{ReplyKind}
use Rattle.protocol_models.specs.FoeMails.{FoeMail, mail, failed, Error}
use Rattle.protocol_models.specs.FoeServer.{is_last}
use Rattle.protocol_models.specs.FoeMeaning.{Service, read, write, Reply}
use Rattle.exchange_model.specs.Areas.{Areas}
use Rattle.protocol_models.specs.FoeClient.{at_end, refused_by, is_ack, is_busy, last_end, acks_end, is_packet, octets_in, most, packets_end, full_packets, ends}

module _ (h : FoeMail) (more : List FoeMail) where
  end_closed : (ms : List FoeMail) (r : Reply) → at_end (ms ++ h ∷ more) r ≡ None
  end_closed [] r = refl
  end_closed (m ∷ ms) r = refl

  refused_closed : (m : FoeMail) (ms : List FoeMail) → refused_by m (ms ++ h ∷ more) ≡ None
  refused_closed (mail (Error code)) ms = end_closed ms (ReplyKind.FoeError code, [])
  refused_closed (failed detail) ms = end_closed ms (ReplyKind.MailboxError detail, [])
  refused_closed _ ms = refl

  choice : (b : Bool) (x y p q : Option Reply) (r : Reply) → (if b then x else y) ≡ Some r → (x ≡ Some r → p ≡ None) → (y ≡ Some r → q ≡ None) → (if b then p else q) ≡ None
  choice true x y p q r e f g = f e
  choice false x y p q r e f g = g e

  last_closed : (number : ℕ) (ms : List FoeMail) (r : Reply) → last_end number ms ≡ Some r → last_end number (ms ++ h ∷ more) ≡ None
  last_closed number [] r e = absurd (cc)
  last_closed number (m ∷ ms) r e =
      choice (is_ack number m) _ _ _ _ r e (λ _. end_closed ms (ReplyKind.Done, []))
      (λ f. choice (is_busy m) _ _ _ _ r f (last_closed number ms r) (λ _. refused_closed m ms))

  acks_closed : (n number : ℕ) (ms : List FoeMail) (r : Reply) → acks_end n number ms ≡ Some r → acks_end n number (ms ++ h ∷ more) ≡ None
  acks_closed zero number ms r e = last_closed number ms r e
  acks_closed (suc n) number [] r e = absurd (cc)
  acks_closed (suc n) number (m ∷ ms) r e = choice (is_ack number m) _ _ _ _ r e (acks_closed n (number + 1) ms r) (λ _. refused_closed m ms)

  packets_closed : (back number : ℕ) (got : List ℕ) (ms : List FoeMail) (r : Reply) → packets_end back number got ms ≡ Some r → packets_end back number got (ms ++ h ∷ more) ≡ None
  packets_closed back number got [] r e = absurd (cc)
  packets_closed back number got (m ∷ ms) r e =
      choice (is_packet number m) _ _ _ _ r e
      (λ f. choice (nat_lt most (length (got ++ octets_in m))) _ _ _ _ r f (λ _. refl)
      (λ g. choice (is_last back (octets_in m)) _ _ _ _ r g (λ _. end_closed ms (ReplyKind.Value, got ++ octets_in m))
      (packets_closed back (number + 1) (got ++ octets_in m) ms r)))
      (λ _. refused_closed m ms)

  pub closed : (areas : Areas) (q : Service) (ms : List FoeMail) (r : Reply) → ends areas q ms ≡ Some r → ends areas q (ms ++ h ∷ more) ≡ None
  closed areas (read name pass) ms r e = packets_closed areas.back 1 [] ms r e
  closed areas (write name pass bytes) ms r e = acks_closed (suc (full_packets areas.out (length bytes))) 0 ms r e

pub ends_none : (areas : Areas) (q : Service) → ends areas q [] ≡ None
ends_none areas (read name pass) = refl
ends_none areas (write name pass bytes) = refl
