-- The node of the link model that a box is with its registers and its server.
use Rattle.std.specs.Prelude.{◌≡◌, ℕ, true, Option, Some, option_map, Ok}
use Rattle.esc_registers.specs.of_mailbox_mail.declared.mail.Mail.{Mail}
use Rattle.link_mails.specs.of_link_model.Slave.{OutSide, InSide, Node, Server}
use Rattle.link_mails.specs.Body.{Body, uncounted, link_mail}
use Rattle.esc_registers.specs.of_mailbox_mail.Area.{mail_area}
use Rattle.esc_registers.specs.declared.registers.Registers.{Registers}
use Rattle.mailbox_slave.specs.Kept.{Kept, offered}
use Rattle.mailbox_slave.specs.Registers.{out_box, in_box, in_len, request_of, acknowledge_of}

-- the side of mailbox 0: the mail in it, and the counter of the last mail taken
abbrev pub out_side : Kept → Registers → OutSide Body
out_side k r = record { box = out_box r; last_taken = k.last_taken }

-- the side of mailbox 1: the mail in it, what the box keeps of its mails, and the bits of the repeat handshake
abbrev pub in_side : Kept → Registers → InSide Body
in_side k r = record {
  box = in_box r;
  offered = option_map link_mail (offered k);
  again = k.again;
  last_read = option_map link_mail k.last_read;
  withdrawn = option_map link_mail k.withdrawn;
  newest = k.newest;
  request = request_of r;
  acknowledge = acknowledge_of r;
}

-- both sides, and the server
abbrev pub node_of : {S : Type 0} → Kept → Registers → S → Node Body S
node_of k r s = record { out = out_side k r; inn = in_side k r; server = s }

-- the server of the model that these meanings of a server are, in this AL state
abbrev pub server_of : {S : Type 0} → (S → Body → ℕ → S) → (S → Option Mail) → (S → S) → ℕ → Server Body S
server_of take next rest al =
    record { take = λ s body. take s body al; next = λ s. option_map (λ m. Ok (uncounted m)) (next s); rest = rest }

-- where mailbox 1 is full, its octets are the one spelling of the mail offered
abbrev pub IsSpelled : Kept → Registers → Type 0
IsSpelled k r = r.in_manager.full ≡ true → (m : Mail) × (offered k ≡ Some m) × (r.in_manager.area ≡ mail_area (in_len r) m)
