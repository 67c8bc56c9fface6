-- The mails of CoE as octets: what a mailbox mail reads as, and what a mail is written as.
use Rattle.std.specs.Prelude.{◌≡◌, ℕ, ◌<◌, ◌%◌, ◌==◌, ◌&&◌, nat_le, if◌then◌else◌, Bool, true, List, [], length, slice_index, Some, Result, Ok, Err}
use Rattle.coe_codec.specs.of_ec_fields.Fields.{number_at}
pub use Rattle.mailbox_mail.specs.Bodies.{is_error, mail_with}
use Rattle.mailbox_mail.specs.Mail.{error_of}
use Rattle.mailbox_mail.specs.declared.mail.Mail.{Mail}
use Rattle.mailbox_mail.specs.declared.mail.Kind.{Kind}
use Rattle.mailbox_mail.specs.declared.mail.Kind.TheVariants.{Error, EoE, CoE, VoE}
use Rattle.coe_codec.specs.Fields.{service_in}
use Rattle.coe_codec.specs.Reading.{coe_read}
use Rattle.coe_codec.specs.Writing.{coe_text}
use Rattle.exchange_model.specs.Areas.{Areas}
use Rattle.exchange_model.specs.Exchange.{Exchange}
use Rattle.exchange_model.specs.Lifted.{EachOf, lifted}
use Rattle.protocol_models.specs.CoeMails.{Coe, CoeFault, CoeMail, mail, unread, failed, fragment, other}
use Rattle.protocol_models.specs.Tables.{Target, Ask, Tables}
use Rattle.protocol_models.specs.CoeServer.{Server, emission_of, emergency}
use Rattle.protocol_models.specs.CoeMeaning.{Service, Reply}
use Rattle.protocol_models.specs.CoeModel.{coe_exchange}

-- a CoE body: the mail in it, or its fault with what a server answers that by
abbrev pub heard : List ℕ → Result Coe CoeFault → CoeMail
heard body (Ok c) = mail c
heard body (Err fault) = unread fault (service_in body) (number_at 2 body 3) (slice_index body 5)

-- a body as a CoE mail
abbrev pub body_heard : List ℕ → CoeMail
body_heard body = heard body (coe_read body)

-- an EoE fragment: type 0
abbrev pub is_fragment : List ℕ → Bool
is_fragment body = nat_le 4 (length body) && slice_index body 0 % 16 == 0

-- a body as a mail of its header's protocol
abbrev pub by_kind : Kind → List ℕ → CoeMail
by_kind CoE body = body_heard body
by_kind Error body = if is_error body then failed (number_at 2 body 2) else other body
by_kind EoE body = if is_fragment body then fragment body else other body
by_kind _ body = other body

-- a mail of octets as a mail of the model
abbrev pub coe_mail_heard : Mail → CoeMail
coe_mail_heard m = by_kind m.kind m.body.items

-- a mail of the model as its one mail of octets, to nobody and not yet counted
abbrev pub coe_mail_written : CoeMail → Mail
coe_mail_written (mail c) = mail_with CoE (coe_text c)
coe_mail_written (unread fault service index sub) = mail_with CoE []
coe_mail_written (failed detail) = error_of detail
coe_mail_written (fragment body) = mail_with EoE body
coe_mail_written (other body) = mail_with VoE body

-- what a server needs of the tables besides, so that each answer has a spelling
pub record AreSpelled {S : Type 0} (o : Tables S) : Type 0 where
  -- an abort code has 32 bits
  pub check_code : (s : S) (t : Target) (size code : ℕ) → o.valid s ≡ true → o.check s t size ≡ Some code → code < 4294967296
  pub download_code : (s : S) (t : Target) (bytes : List ℕ) (code : ℕ) → o.valid s ≡ true → o.download s t bytes ≡ Err code → code < 4294967296
  pub upload_code : (s : S) (t : Target) (code : ℕ) → o.valid s ≡ true → o.upload s t ≡ Err code → code < 4294967296
  pub info_code : (s : S) (a : Ask) (code : ℕ) → o.valid s ≡ true → o.info s a ≡ Err code → code < 4294967296
  -- what an emitted packet is cut into are fragments
  pub cut : (s : S) (octets : List ℕ) → EachOf (λ body. is_fragment body ≡ true) (o.packet s octets).1
  -- an emergency has 8 octets
  pub eight : (s changed : S) (eoe : Bool) (t : Target) (bytes octets : List ℕ) → o.valid s ≡ true → o.download s t bytes ≡ Ok changed → emission_of eoe t bytes ≡ Some (emergency octets) → length octets ≡ 8

-- CoE as an exchange of mailbox mails
abbrev pub coe_mail_exchange : {S : Type 0} → Tables S → Bool → Areas → Exchange (Server S) S Mail Service Reply
coe_mail_exchange o eoe areas = lifted (coe_exchange o eoe areas) coe_mail_heard coe_mail_written
