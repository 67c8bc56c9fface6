-- What the client makes of a mail is what the mail is to it.
use Rattle.std.proofs.Common.{◌≡◌, ℕ, Bool, true, false, not, nat_lt, List, [], ◌∷◌, ◌++◌, length, if◌then◌else◌, None, refl, sym, ◌∙◌}
use Rattle.soe_parts.specs.of_ec_fields.Fields.{number_at}
use Rattle.soe_parts.specs.of_mailbox_mail.declared.outcome.ReplyKind.{ReplyKind}
use Rattle.soe_parts.specs.of_protocol_models.SoeMails.{Soe, SoeMail, mail, unread, failed, other}
use Rattle.soe_parts.specs.of_protocol_models.SoeServer.{most}
use Rattle.soe_parts.specs.of_protocol_models.SoeClient.{at_end, is_refusal, refused, is_part, is_written, read_ends, write_ends}
use Rattle.soe_client.specs.declared.state.Task.{Task}
use Rattle.soe_client.specs.declared.state.Unsent.{Unsent}
use Rattle.soe_client.specs.declared.state.Awaits.{Awaits}
use Rattle.soe_client.specs.Talk.{Talking, about, awaited}
use Rattle.soe_client.specs.Hear.{Heard, TookIs, foreign, closed, hear_refusal, hear_part, hear_answer, hear_message, hear_failed, hear_mail}

not_true : (b : Bool) → not b ≡ true → b ≡ false
not_true true e = absurd (cc)
not_true false e = refl

not_false : (b : Bool) → not b ≡ false → b ≡ true
not_false true e = refl
not_false false e = absurd (cc)

module _ (room : ℕ) (task : Task) (bytes : List ℕ) (unsent : Unsent) (value : List ℕ) where
  -- the client, by what it awaits
  abbrev at : Awaits → Talking
  at a = record { room = room; task = task; bytes = bytes; unsent = unsent; awaits = a; value = value }

  abbrev Is : Awaits → SoeMail → Heard → Type 0
  Is a m h = TookIs h.0 (at a) m h.1

  choose : (a : Awaits) (m : SoeMail) (b : Bool) (x y : Heard) → (b ≡ true → Is a m x) → (b ≡ false → Is a m y) → Is a m (if b then x else y)
  choose a m true x y p q = p refl
  choose a m false x y p q = q refl

  is_foreign : (a : Awaits) (m : SoeMail) → ((ms : List SoeMail) → awaited (at a) (m ∷ ms) ≡ None) → Is a m (foreign (at a))
  is_foreign a m none = (none, refl)

  is_closed : (a : Awaits) (m : SoeMail) (kind : ReplyKind) → ((ms : List SoeMail) → awaited (at a) (m ∷ ms) ≡ at_end ms (kind, [])) → Is a m (closed (at a) kind)
  is_closed a m kind reads = (record { replies = λ ms. sym (reads ms); room = refl }, refl, refl)

  took_refusal : (a : Awaits) (opcode : ℕ) (s : Soe) → ((ms : List SoeMail) → awaited (at a) (mail s ∷ ms) ≡ refused opcode (about task) (mail s) ms) → Is a (mail s) (hear_refusal (at a) opcode s)
  took_refusal a opcode s reads = choose a (mail s) (is_refusal opcode (about task) s) _ _
      (λ e. is_closed a (mail s) (ReplyKind.SoeError (number_at 2 s.bytes.items 0)) (λ ms. reads ms ∙ rw e refl))
      (λ e. is_foreign a (mail s) (λ ms. reads ms ∙ rw e refl))

  took_part : (s : Soe) → Is Awaits.Parts (mail s) (hear_part (at Awaits.Parts) s)
  took_part s = choose Awaits.Parts (mail s) (not (is_part (about task) (mail s))) _ _
      (λ e. took_refusal Awaits.Parts 2 s (λ ms. rw e refl))
      (λ e. choose Awaits.Parts (mail s) (nat_lt most (length (value ++ s.bytes.items))) _ _
      (λ long. is_foreign Awaits.Parts (mail s) (λ ms. rw (e, long) refl))
      (λ fits. choose Awaits.Parts (mail s) s.incomplete _ _
      (λ more. (
        record { replies = λ ms. let whole : read_ends (about task) value (mail s ∷ ms) ≡ read_ends (about task) (value ++ s.bytes.items) ms = rw (e, fits, more) refl in sym whole; room = refl },
        record { over = refl; yet = refl; open_to = λ detail. refl },
        refl,
      ))
      (λ last. (
        record { replies = λ ms. let whole : read_ends (about task) value (mail s ∷ ms) ≡ at_end ms (ReplyKind.Value, value ++ s.bytes.items) = rw (e, fits, last) refl in sym whole; room = refl },
        refl,
        refl,
      ))))

  took_answer : (s : Soe) → Is Awaits.Answer (mail s) (hear_answer (at Awaits.Answer) s)
  took_answer s = choose Awaits.Answer (mail s) (is_written (about task) (mail s)) _ _
      (λ e. is_closed Awaits.Answer (mail s) ReplyKind.Done (λ ms. rw e refl))
      (λ e. took_refusal Awaits.Answer 4 s (λ ms. rw e refl))

  took_message : (a : Awaits) (s : Soe) → Is a (mail s) (hear_message (at a) a s)
  took_message Awaits.Nothing s = is_foreign Awaits.Nothing (mail s) (λ ms. refl)
  took_message Awaits.Parts s = took_part s
  took_message Awaits.Answer s = took_answer s
  took_message (Awaits.Over kind) s = is_foreign (Awaits.Over kind) (mail s) (λ ms. refl)

  took_failed : (a : Awaits) (detail : ℕ) → Is a (failed detail) (hear_failed (at a) a detail)
  took_failed Awaits.Nothing detail = is_foreign Awaits.Nothing (failed detail) (λ ms. refl)
  took_failed Awaits.Parts detail = is_closed Awaits.Parts (failed detail) (ReplyKind.MailboxError detail) (λ ms. refl)
  took_failed Awaits.Answer detail = is_closed Awaits.Answer (failed detail) (ReplyKind.MailboxError detail) (λ ms. refl)
  took_failed (Awaits.Over kind) detail = is_foreign (Awaits.Over kind) (failed detail) (λ ms. refl)

  -- a mail that reads as nothing of a reply
  took_none : (a : Awaits) (m : SoeMail) → ((got : List ℕ) (ms : List SoeMail) → read_ends (about task) got (m ∷ ms) ≡ None) → ((ms : List SoeMail) → write_ends (about task) (m ∷ ms) ≡ None) → Is a m (foreign (at a))
  took_none Awaits.Nothing m no_part no_answer = is_foreign Awaits.Nothing m (λ ms. refl)
  took_none Awaits.Parts m no_part no_answer = is_foreign Awaits.Parts m (no_part value)
  took_none Awaits.Answer m no_part no_answer = is_foreign Awaits.Answer m no_answer
  took_none (Awaits.Over kind) m no_part no_answer = is_foreign (Awaits.Over kind) m (λ ms. refl)

  took_at : (a : Awaits) (m : SoeMail) → Is a m (hear_mail (at a) m)
  took_at a (mail s) = took_message a s
  took_at a (unread fault incomplete) = took_none a (unread fault incomplete) (λ got ms. refl) (λ ms. refl)
  took_at a (failed detail) = took_failed a detail
  took_at a (other body) = took_none a (other body) (λ got ms. refl) (λ ms. refl)

-- WHAT A MAIL IS TO A CLIENT is what the client makes of it
pub took_is : (c : Talking) (m : SoeMail) → TookIs (hear_mail c m).0 c m (hear_mail c m).1
took_is c m = took_at c.room c.task c.bytes c.unsent c.value c.awaits m
