-- Nothing behind a complete reply side belongs to it.
use Rattle.std.proofs.Common.{◌≡◌, ℕ, zero, suc, Bool, true, false, not, List, [], ◌∷◌, ◌++◌, length, if◌then◌else◌, Option, None, Some, refl, nat_lt, ◌==◌}
use Rattle.mailbox_mail.specs.declared.outcome.ReplyKind.{ReplyKind}
use Rattle.protocol_models.specs.CoeMails.{CoeMail, mail, failed, Abort, InformationError, ExpeditedAnswer, FirstAnswer}
use Rattle.protocol_models.specs.Tables.{Target}
use Rattle.protocol_models.specs.CoeMeaning.{Service, download, upload, information, Reply}
use Rattle.protocol_models.specs.CoeClient.{at_end, sdo_refused, information_refused, segments_end, download_ends, whole_value, parts_end, first_ends, value_begins, upload_ends, information_ends, is_segment_answer, is_download_answer, is_part, is_last, octets_of, most, is_of, is_information, is_incomplete, ends}

module _ (h : CoeMail) (more : List CoeMail) where
  end_closed : (ms : List CoeMail) (r : Reply) → at_end (ms ++ h ∷ more) r ≡ None
  end_closed [] r = refl
  end_closed (m ∷ ms) r = refl

  sdo_closed : (m : CoeMail) (ms : List CoeMail) → sdo_refused m (ms ++ h ∷ more) ≡ None
  sdo_closed (mail (Abort index sub code)) ms = end_closed ms (ReplyKind.Abort code, [])
  sdo_closed (failed detail) ms = end_closed ms (ReplyKind.MailboxError detail, [])
  sdo_closed _ ms = refl

  information_closed : (m : CoeMail) (ms : List CoeMail) → information_refused m (ms ++ h ∷ more) ≡ None
  information_closed (mail (InformationError code)) ms = end_closed ms (ReplyKind.Abort code, [])
  information_closed (failed detail) ms = end_closed ms (ReplyKind.MailboxError detail, [])
  information_closed _ ms = refl

  choice : (b : Bool) (x y p q : Option Reply) (r : Reply) → (if b then x else y) ≡ Some r → (x ≡ Some r → p ≡ None) → (y ≡ Some r → q ≡ None) → (if b then p else q) ≡ None
  choice true x y p q r e f g = f e
  choice false x y p q r e f g = g e

  segments_closed : (n : ℕ) (toggle : Bool) (ms : List CoeMail) (r : Reply) → segments_end n toggle ms ≡ Some r → segments_end n toggle (ms ++ h ∷ more) ≡ None
  segments_closed zero toggle ms r e = end_closed ms (ReplyKind.Done, [])
  segments_closed (suc n) toggle [] r e = absurd (cc)
  segments_closed (suc n) toggle (m ∷ ms) r e =
      choice (is_segment_answer toggle m) _ _ _ _ r e (segments_closed n (not toggle) ms r) (λ _. sdo_closed m ms)

  download_closed : (room : ℕ) (t : Target) (bytes : List ℕ) (ms : List CoeMail) (r : Reply) → download_ends room t bytes ms ≡ Some r → download_ends room t bytes (ms ++ h ∷ more) ≡ None
  download_closed room t bytes [] r e = absurd (cc)
  download_closed room t bytes (m ∷ ms) r e = choice (is_download_answer t m) _ _ _ _ r e (segments_closed _ false ms r) (λ _. sdo_closed m ms)

  whole_closed : (size : ℕ) (got : List ℕ) (ms : List CoeMail) → whole_value size got (ms ++ h ∷ more) ≡ None
  whole_closed size got ms = closed (length got == size)
    where
      closed : (b : Bool) → (if b then at_end (ms ++ h ∷ more) (ReplyKind.Value, got) else None) ≡ None
      closed true = end_closed ms (ReplyKind.Value, got)
      closed false = refl

  parts_closed : (size : ℕ) (got : List ℕ) (toggle : Bool) (ms : List CoeMail) (r : Reply) → parts_end size got toggle ms ≡ Some r → parts_end size got toggle (ms ++ h ∷ more) ≡ None
  parts_closed size got toggle [] r e = absurd (cc)
  parts_closed size got toggle (m ∷ ms) r e =
      choice (not (is_part toggle m)) _ _ _ _ r e (λ _. sdo_closed m ms)
      (λ f. choice (nat_lt size (length (got ++ octets_of m))) _ _ _ _ r f (λ _. refl)
      (λ g. choice (is_last m) _ _ _ _ r g (λ _. whole_closed size (got ++ octets_of m) ms) (parts_closed size (got ++ octets_of m) (not toggle) ms r)))

  first_closed : (size : ℕ) (got : List ℕ) (ms : List CoeMail) (r : Reply) → first_ends size got ms ≡ Some r → first_ends size got (ms ++ h ∷ more) ≡ None
  first_closed size got ms r e = choice _ _ _ _ _ r e (λ _. refl)
      (λ f. choice (length got == size) _ _ _ _ r f (λ _. end_closed ms (ReplyKind.Value, got)) (parts_closed size got false ms r))

  begins_closed : (t : Target) (m : CoeMail) (ms : List CoeMail) (r : Reply) → value_begins t m ms ≡ Some r → value_begins t m (ms ++ h ∷ more) ≡ None
  begins_closed t (mail (ExpeditedAnswer index sub bytes)) ms r e = choice (is_of t index sub) _ _ _ _ r e (λ _. end_closed ms (ReplyKind.Value, bytes.items)) (λ _. refl)
  begins_closed t (mail (FirstAnswer index sub size bytes)) ms r e = choice (is_of t index sub) _ _ _ _ r e (first_closed size bytes.items ms r) (λ _. refl)
  begins_closed t (mail (Abort index sub code)) ms r e = end_closed ms (ReplyKind.Abort code, [])
  begins_closed t (failed detail) ms r e = end_closed ms (ReplyKind.MailboxError detail, [])
  begins_closed t _ ms r e = refl

  upload_closed : (t : Target) (ms : List CoeMail) (r : Reply) → upload_ends t ms ≡ Some r → upload_ends t (ms ++ h ∷ more) ≡ None
  upload_closed t [] r e = absurd (cc)
  upload_closed t (m ∷ ms) r e = begins_closed t m ms r e

  information_ends_closed : (opcode : ℕ) (got : List ℕ) (ms : List CoeMail) (r : Reply) → information_ends opcode got ms ≡ Some r → information_ends opcode got (ms ++ h ∷ more) ≡ None
  information_ends_closed opcode got [] r e = absurd (cc)
  information_ends_closed opcode got (m ∷ ms) r e =
      choice (not (is_information opcode m)) _ _ _ _ r e (λ _. information_closed m ms)
      (λ f. choice (nat_lt most (length (got ++ octets_of m))) _ _ _ _ r f (λ _. refl)
      (λ g. choice (is_incomplete m) _ _ _ _ r g (information_ends_closed opcode (got ++ octets_of m) ms r) (λ _. end_closed ms (ReplyKind.Value, got ++ octets_of m))))

  pub closed : (room : ℕ) (q : Service) (ms : List CoeMail) (r : Reply) → ends room q ms ≡ Some r → ends room q (ms ++ h ∷ more) ≡ None
  closed room (download t bytes) ms r e = download_closed room t bytes ms r e
  closed room (upload t) ms r e = upload_closed t ms r e
  closed room (information a) ms r e = information_ends_closed _ [] ms r e

pub ends_none : (room : ℕ) (q : Service) → ends room q [] ≡ None
ends_none room (download t bytes) = refl
ends_none room (upload t) = refl
ends_none room (information a) = refl
