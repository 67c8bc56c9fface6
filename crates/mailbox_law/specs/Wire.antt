-- A link over the registers of its slave.
use Rattle.std.specs.Prelude.{◌≡◌, ℕ, true, Option, Some, None, List, [], length, Ok}
use Rattle.mailbox_master.specs.of_mailbox_mail.declared.mail.Mail.{Mail}
use Rattle.mailbox_master.specs.of_mailbox_mail.Mail.{mail_read}
use Rattle.mailbox_master.specs.of_link_model.Mails.{LinkMail}
use Rattle.mailbox_master.specs.of_link_model.Link.{written, write_counter, in_met}
use Rattle.mailbox_master.specs.of_link_mails.Body.{Body, link_mail}
use Rattle.mailbox_master.specs.of_link_model.Master.{InHalf, in_answered, in_accepts}
use Rattle.mailbox_slave.specs.Kept.{Kept}
use Rattle.mailbox_slave.specs.Registers.{out_box, in_box, acknowledge_of}
use Rattle.mailbox_slave.specs.Node.{out_side, in_side}
use Rattle.mailbox_master.specs.Any.{in_returned, in_got}
use Rattle.mailbox_slave.specs.of_esc_registers.declared.registers.Registers.{Registers}
use Rattle.mailbox_slave.specs.of_esc_registers.Registers.{are_areas_right}
use Rattle.mailbox_slave.specs.of_esc_registers.Access.{Passed, access}
use Rattle.mailbox_master.specs.Access.{Access, access_head}
use Rattle.mailbox_master.specs.Next.{accepted_by}
use Rattle.mailbox_master.specs.declared.inward.Got.{Got}

-- a slave that is brought up: its station, its sync managers right, and the lengths of its areas
pub record IsLinked (address outward inward : ℕ) (r : Registers) : Type 0 where
  pub station : r.station ≡ address
  pub right : are_areas_right r ≡ true
  pub out_len : length r.out_manager.area ≡ outward
  pub in_len : length r.in_manager.area ≡ inward

-- what stands in mailbox 1 is a mail
abbrev pub IsReadable : Registers → Type 0
IsReadable r = r.in_manager.full ≡ true → (m : Mail) × (mail_read r.in_manager.area ≡ Ok m)

-- what the datagram of an access leaves at a slave
abbrev pub met_by : Registers → ℕ → Access → Passed
met_by r station a = access r (access_head station 0 a) a.octets

-- the bodies that a read of mailbox 1 gave to accept
abbrev pub accepted_in : Option Got → List Body
accepted_in None = []
accepted_in (Some got) = accepted_by got

-- the counter of the write of a mail held; nothing is sent without one
abbrev pub write_answer : Option (LinkMail Body) → Option (LinkMail Body) → ℕ
write_answer None stands = 0
write_answer (Some m) stands = write_counter stands

-- mailbox 0 met the write of a mail: the working counter, both sides behind it, and the slave is linked as before
pub record MeetsWrite (address outward inward : ℕ) (m : Mail) (r : Registers) (p : Passed) : Type 0 where
  pub counter : p.head.counter ≡ write_counter (out_box r)
  pub out : (k : Kept) → out_side k p.registers ≡ written (out_side k r) (out_box r) (link_mail m)
  pub inn : (k : Kept) → in_side k p.registers ≡ in_side k r
  pub linked : IsLinked address outward inward p.registers

-- mailbox 1 met the datagram of an inward half: what the half makes of what returned, both sides behind it, and the
-- slave is linked as before
pub record MeetsInward (address outward inward : ℕ) (h : InHalf) (r : Registers) (p : Passed) : Type 0 where
  pub half : in_returned h h.state p.head.counter p.body ≡ in_answered h h.state (in_box r) (acknowledge_of r)
  pub got : accepted_in (in_got h h.state p.head.counter p.body) ≡ in_accepts h h.state (in_box r)
  pub inn : (k : Kept) → in_side k p.registers ≡ in_met (in_side k r) h.state h.bit
  pub out : (k : Kept) → out_side k p.registers ≡ out_side k r
  pub linked : IsLinked address outward inward p.registers
