-- Which steps of a link may have been behind the accesses that were told.
use Rattle.std.specs.Prelude.{◌≡◌, ℕ, ◌≤◌, Bool, List, [], ◌∷◌, ◌++◌, length, slice_index, Option, Some, None, Ok}
use Rattle.capture_audit.specs.of_mailbox_mail.declared.mail.Mail.{Mail}
use Rattle.capture_audit.specs.of_mailbox_mail.Mail.{mail_read}
use Rattle.mailbox_law.specs.of_link_model.Mails.{LinkMail, IsPrefixOf}
use Rattle.mailbox_law.specs.of_link_model.Master.{InState}
use Rattle.mailbox_law.specs.of_link_model.Link.{Link, happens, write_counter}
use Rattle.mailbox_law.specs.of_link_mails.Body.{Body, link_mail, bit_1}
use Rattle.mailbox_law.specs.of_mailbox_master.Any.{in_access}
use Rattle.mailbox_law.specs.Waiting.{keeper, bodies_of}
use Rattle.mailbox_law.specs.Steps.{event_of, FitsLink}
use Rattle.mailbox_law.specs.declared.steps.LinkFate.{LinkFate}
use Rattle.mailbox_law.specs.declared.steps.LinkFate.TheVariants.{Pass, LostBefore, LostBehind}
use Rattle.mailbox_law.specs.declared.steps.LinkStep.{LinkStep}
use Rattle.mailbox_law.specs.declared.steps.LinkStep.TheVariants.{Hold, Give, Out, In, Pdi}
use Rattle.capture_audit.specs.declared.access.MailAccess.{MailAccess}
use Rattle.capture_audit.specs.declared.access.MailAccess.TheVariants.{WriteMail, ReadMail, WriteRequest, ReadAcknowledge}
use Rattle.capture_audit.specs.Exchanges.{Return}
use Rattle.audit_law.specs.Told.{Told}

-- the access that an inward half makes by its state
abbrev pub access_by : InState → MailAccess
access_by InState.Clear = ReadMail
access_by InState.Doubt = WriteRequest
access_by InState.Asked = ReadAcknowledge
access_by InState.Refetch = ReadMail

-- what returned of a write with this working counter, or nothing where it was lost
abbrev pub WriteReturns : LinkFate → ℕ → Option Return → Type 0
WriteReturns Pass counter back = (b : Return) × (back ≡ Some b) × (b.counter ≡ counter)
WriteReturns LostBefore counter back = back ≡ None
WriteReturns LostBehind counter back = back ≡ None

-- what returned of a read of mailbox 1 with this in it
abbrev pub ReadReturns : Option (LinkMail Body) → Return → Type 0
ReadReturns None b = b.counter ≡ 0
ReadReturns (Some stood) b = (b.counter ≡ 1) × (m : Mail) × (mail_read b.body ≡ Ok m) × (stood ≡ link_mail m)

-- what returned of a datagram of the inward half, by its state, what stood in mailbox 1 and the acknowledge
abbrev pub Answers : InState → Option (LinkMail Body) → Bool → Return → Type 0
Answers InState.Clear box acknowledge b = ReadReturns box b
Answers InState.Doubt box acknowledge b = b.counter ≡ 1
Answers InState.Asked box acknowledge b = (b.counter ≡ 1) × (bit_1 (slice_index b.body 0) ≡ acknowledge)
Answers InState.Refetch box acknowledge b = ReadReturns box b

-- the same, or nothing where it was lost
abbrev pub InwardReturns : LinkFate → InState → Option (LinkMail Body) → Bool → Option Return → Type 0
InwardReturns Pass state box acknowledge back = (b : Return) × (back ≡ Some b) × Answers state box acknowledge b
InwardReturns LostBefore state box acknowledge back = back ≡ None
InwardReturns LostBehind state box acknowledge back = back ≡ None

-- the outward half sends this: the write of the mail that it holds, in any spelling that reads as it
pub record SendsMail (w : Link Body (List Body)) (fate : LinkFate) (t : Told) : Type 0 where
  pub mail : Mail
  pub holds : w.halves.out.holding ≡ Some (link_mail mail)
  pub access : t.access ≡ WriteMail
  pub reads : mail_read t.sent.body ≡ Ok mail
  pub returns : WriteReturns fate (write_counter w.node.out.box) t.sent.back

-- the inward half sends this: the access of its state
pub record SendsInward (in_len : ℕ) (w : Link Body (List Body)) (fate : LinkFate) (t : Told) : Type 0 where
  pub access : t.access ≡ access_by w.halves.inn.state
  pub octets : t.sent.body ≡ (in_access in_len w.halves.inn.bit w.halves.inn.state).octets
  pub returns : InwardReturns fate w.halves.inn.state w.node.inn.box w.node.inn.acknowledge t.sent.back

-- STEPS ARE POSSIBLE for told accesses, from this link on: each mail fits its area, and the halves send the told accesses, one
-- a step `Out` or `In`, in order, and get the told returns
abbrev pub Possible : ℕ → ℕ → Link Body (List Body) → List LinkStep → List Told → Type 0
Possible out_len in_len w [] ts = ts ≡ []
Possible out_len in_len w (Hold m ∷ ss) ts = FitsLink out_len in_len (Hold m) × Possible out_len in_len (happens keeper w (event_of (Hold m))) ss ts
Possible out_len in_len w (Give m ∷ ss) ts = FitsLink out_len in_len (Give m) × Possible out_len in_len (happens keeper w (event_of (Give m))) ss ts
Possible out_len in_len w (Pdi ∷ ss) ts = Possible out_len in_len (happens keeper w (event_of Pdi)) ss ts
Possible out_len in_len w (Out fate ∷ ss) [] = ⊥
Possible out_len in_len w (Out fate ∷ ss) (t ∷ ts) = SendsMail w fate t × Possible out_len in_len (happens keeper w (event_of (Out fate))) ss ts
Possible out_len in_len w (In fate ∷ ss) [] = ⊥
Possible out_len in_len w (In fate ∷ ss) (t ∷ ts) = SendsInward in_len w fate t × Possible out_len in_len (happens keeper w (event_of (In fate))) ss ts

-- Each mail once and in order: the mails taken are the first mails sent, all of them but at most the last two; and the
-- mails accepted are the first mails given to the slave.
pub record IsOnce (w : Link Body (List Body)) (offered : List Body) (sent accepted : List Mail) : Type 0 where
  pub missing : List Body
  pub taken : bodies_of sent ≡ w.taken ++ missing
  pub few : length missing ≤ 2
  pub accepted_in_order : IsPrefixOf (bodies_of accepted) offered
  pub accepted_are : w.accepted ≡ bodies_of accepted
