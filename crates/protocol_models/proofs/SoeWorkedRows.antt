-- Worked rows, computed: mails and answers through mailboxes of 64 octets, over one IDN whose value has 1 to 100 octets and no other element.
use Rattle.std.proofs.Common.{◌≡◌, ℕ, nat_le, nat_lt, Bool, true, false, not, ◌==◌, ◌&&◌, List, [], ◌∷◌, length, replicate, if◌then◌else◌, None, Some, Ok, Err, refl}
use Rattle.mailbox_mail.specs.declared.outcome.ReplyKind.{ReplyKind}
use Rattle.mailbox_mail.specs.declared.mail.Kind.TheVariants.{SoE}
use Rattle.exchange_model.specs.Exchange.{after, given}
use Rattle.protocol_models.specs.Elements.{Target, Elements}
use Rattle.protocol_models.specs.SoeMails.{mail, unread, failed, Short, Opcode, Incomplete, message, refusal}
use Rattle.protocol_models.specs.SoeServer.{Server, serve}
use Rattle.protocol_models.specs.SoeClient.{read, write, mails_of, ends}
use Rattle.protocol_models.specs.SoeOctets.{soe_mail_heard, soe_mail_written, mail_with}

abbrev is_value : Target → Bool
is_value t = t.drive == 0 && t.idn == 200 && t.elements == 0x40

-- the state is the value
abbrev one_idn : Elements (List ℕ)
one_idn = record {
  valid = λ s. nat_le (length s) 100;
  read = λ s t. if is_value t then Ok s else Err 0x1001;
  write = λ s t bytes. if not (is_value t) then Err 0x1001 else if nat_lt (length bytes) 1 then Err 0x7002 else if nat_lt 100 (length bytes) then Err 0x7003 else Ok bytes;
}

abbrev value : Target
value = record { drive = 0; idn = 200; elements = 0x40 }

abbrev name : Target
name = record { drive = 0; idn = 200; elements = 0x02 }

abbrev fresh : Server (List ℕ)
fresh = record { app = 9 ∷ []; handled = 0; join = None }

-- 55 octets go in two mails, of 54 and of 1
two_mails : mails_of 64 (write value (replicate 55 7)) ≡ mail (message 3 true value 1 (replicate 54 7)) ∷ mail (message 3 false value 200 (7 ∷ [])) ∷ []
two_mails = refl

one_mail : mails_of 64 (write value (replicate 54 7)) ≡ mail (message 3 false value 200 (replicate 54 7)) ∷ []
one_mail = refl

first_written : soe_mail_written (mail (message 3 true value 1 (7 ∷ []))) ≡ mail_with SoE (0x0B ∷ 0x40 ∷ 0x01 ∷ 0x00 ∷ 7 ∷ [])
first_written = refl

last_written : soe_mail_written (mail (message 3 false value 200 (7 ∷ []))) ≡ mail_with SoE (0x03 ∷ 0x40 ∷ 0xC8 ∷ 0x00 ∷ 7 ∷ [])
last_written = refl

-- they write the value, and are one service
writes : (after (serve one_idn 64) fresh (mails_of 64 (write value (replicate 55 7)))).app ≡ replicate 55 7
writes = refl

counts_once : (after (serve one_idn 64) fresh (mails_of 64 (write value (replicate 55 7)))).handled ≡ 1
counts_once = refl

answers_once : given (serve one_idn 64) fresh (mails_of 64 (write value (replicate 55 7))) ≡ mail (message 4 false value 200 []) ∷ []
answers_once = refl

-- the value is read in two mails
reads : given (serve one_idn 64) (record { app = replicate 55 7; handled = 1; join = None }) (mails_of 64 (read value))
    ≡ mail (message 2 true value 1 (replicate 54 7)) ∷ mail (message 2 false value 200 (7 ∷ [])) ∷ []
reads = refl

reads_whole : ends (read value) (mail (message 2 true value 9 (1 ∷ 2 ∷ [])) ∷ mail (message 2 false value 200 (3 ∷ [])) ∷ []) ≡ Some (ReplyKind.Value, 1 ∷ 2 ∷ 3 ∷ [])
reads_whole = refl

-- a refusal has the error bit, the flags and the IDN of the request, and the code
refusal_written : soe_mail_written (mail (refusal 4 (record { drive = 0; idn = 100; elements = 0x40 }) 0x7007)) ≡ mail_with SoE (0x14 ∷ 0x40 ∷ 0x64 ∷ 0x00 ∷ 0x07 ∷ 0x70 ∷ [])
refusal_written = refl

refused : ends (write value (7 ∷ [])) (mail (refusal 4 value 0x7007) ∷ []) ≡ Some (ReplyKind.SoeError 0x7007, [])
refused = refl

-- fragments of two element flags aren't joined
anew : given (serve one_idn 64) fresh (mail (message 3 true name 1 (1 ∷ [])) ∷ mail (message 3 false value 200 (2 ∷ [])) ∷ []) ≡ mail (message 4 false value 200 []) ∷ []
anew = refl

anew_stored : (after (serve one_idn 64) fresh (mail (message 3 true name 1 (1 ∷ [])) ∷ mail (message 3 false value 200 (2 ∷ [])) ∷ [])).app ≡ 2 ∷ []
anew_stored = refl

-- a request ends a join; a mail that doesn't read leaves it
ended_by_a_read : (after (serve one_idn 64) fresh (mail (message 3 true value 1 (1 ∷ [])) ∷ mail (message 1 false value 200 []) ∷ mail (message 3 false value 200 (2 ∷ [])) ∷ [])).app ≡ 2 ∷ []
ended_by_a_read = refl

left_by_a_fault : (after (serve one_idn 64) fresh (mail (message 3 true value 1 (1 ∷ [])) ∷ unread Short false ∷ mail (message 3 false value 200 (2 ∷ [])) ∷ [])).app ≡ 1 ∷ 2 ∷ []
left_by_a_fault = refl

-- mails without an answer, and by mailbox errors
silent : given (serve one_idn 64) fresh (unread Opcode true ∷ unread Incomplete true ∷ mail (message 2 true value 1 []) ∷ failed 2 ∷ []) ≡ []
silent = refl

errors : given (serve one_idn 64) fresh (unread Short false ∷ unread Opcode false ∷ mail (message 2 false value 200 []) ∷ mail (message 4 false value 200 []) ∷ []) ≡ failed 6 ∷ failed 4 ∷ failed 4 ∷ failed 4 ∷ []
errors = refl

-- octets of mails
short_heard : soe_mail_heard (mail_with SoE (0x0B ∷ 0x40 ∷ 0x01 ∷ [])) ≡ unread Short true
short_heard = refl

opcode_heard : soe_mail_heard (mail_with SoE (0x08 ∷ 0x40 ∷ 0x01 ∷ 0x00 ∷ [])) ≡ unread Opcode true
opcode_heard = refl
