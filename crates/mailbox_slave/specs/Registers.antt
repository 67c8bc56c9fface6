-- What the link has of a slave's registers: the mails in both mailboxes, and the bits of the repeat handshake.
use Rattle.std.specs.Prelude.{◌≡◌, ℕ, Bool, if◌then◌else◌, Option, Some, None, length}
use Rattle.esc_registers.specs.of_mailbox_mail.Mail.{mail_read}
use Rattle.link_mails.specs.of_link_model.Mails.{LinkMail}
use Rattle.link_mails.specs.Body.{Body, link_read}
use Rattle.esc_registers.specs.declared.registers.Registers.{Registers}
use Rattle.esc_registers.specs.Manager.{is_repeat_bit}

-- the mail in mailbox 0
abbrev pub out_box : Registers → Option (LinkMail Body)
out_box r = if r.out_manager.full then Some (link_read (mail_read r.out_manager.area)) else None

-- the mail in mailbox 1
abbrev pub in_box : Registers → Option (LinkMail Body)
in_box r = if r.in_manager.full then Some (link_read (mail_read r.in_manager.area)) else None

-- the length of mailbox 1
abbrev pub in_len : Registers → ℕ
in_len r = length r.in_manager.area

-- the repeat request
abbrev pub request_of : Registers → Bool
request_of r = is_repeat_bit r.in_manager.activate

-- the repeat acknowledge
abbrev pub acknowledge_of : Registers → Bool
acknowledge_of r = r.in_manager.acknowledge

-- of the registers only mailbox 1 and the repeat acknowledge change, and the length of mailbox 1 stays
pub record ChangesIn (old new : Registers) : Type 0 where
  pub others : new ≡ record old { in_manager = record old.in_manager { full = new.in_manager.full; area = new.in_manager.area; acknowledge = new.in_manager.acknowledge } }
  pub len : in_len new ≡ in_len old

-- of the registers only mailbox 0 is emptied
pub record ChangesOut (old new : Registers) : Type 0 where
  pub others : new ≡ record old { out_manager = record old.out_manager { full = new.out_manager.full } }

-- of the registers mailbox 0 is emptied, mailbox 1 and the repeat acknowledge change, and the length of mailbox 1 stays
pub record ChangesBoxes (old new : Registers) : Type 0 where
  pub others : new ≡ record old { out_manager = record old.out_manager { full = new.out_manager.full }; in_manager = record old.in_manager { full = new.in_manager.full; area = new.in_manager.area; acknowledge = new.in_manager.acknowledge } }
  pub len : in_len new ≡ in_len old
