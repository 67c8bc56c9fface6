-- A slave's registers and box as a session sees them.
use Rattle.std.specs.Prelude.{◌≡◌, ℕ, ◌<◌, ◌==◌, not, true, if◌then◌else◌, Some, None, length, Ok}
use Rattle.frame_view.specs.of_ec_fields.Fields.{bits_of}
use Rattle.slave_node.specs.of_esc_registers.Manager.{is_right}
use Rattle.slave_node.specs.of_esc_registers.Registers.{are_areas_right}
use Rattle.slave_node.specs.of_esc_registers.declared.registers.Registers as Esc
use Rattle.frame_view.specs.of_mailbox_mail.declared.mail.Mail.{Mail}
use Rattle.frame_view.specs.of_mailbox_mail.Mail.{mail_read}
use Rattle.slave_node.specs.of_mailbox_slave.Kept.{Kept}
use Rattle.slave_node.specs.of_mailbox_slave.Node.{node_of}
use Rattle.frame_view.specs.of_link_mails.Body.{Body}
use Rattle.frame_view.specs.of_segment_model.Slaves.{Registers, Slave, Serving}
use Rattle.frame_view.specs.View.{Lens}

-- the registers of a slave as a session sees them
abbrev pub registers_seen : Esc.Registers → Registers
registers_seen r = record {
  station = r.station;
  first = is_right 4096 38 r.out_manager;
  second = is_right 6144 34 r.in_manager;
  control = if r.unhandled then Some (bits_of r.al_control 0 4, not (bits_of r.al_control 4 1 == 0)) else None;
  state = bits_of r.al_status 0 4;
  refused = if bits_of r.al_status 4 1 == 1 then Some r.al_code else None;
}

-- THE SLAVE with these registers, this box and this server
abbrev pub slave_of : {V : Type 0} → Kept → Esc.Registers → Serving V Body → Slave V Body
slave_of k r v = record { node = node_of k r v; registers = registers_seen r }

-- A SLAVE THAT IS OPEN, as far as datagrams go: its mailboxes have the lengths of the plan, both managers are right, AL status is a state with
-- or without the error flag, and what stands in mailbox 1 is a mail
pub record IsOpen (lens : ℕ → Lens) (r : Esc.Registers) : Type 0 where
  pub out : (lens r.station).out ≡ length r.out_manager.area
  pub back : (lens r.station).back ≡ length r.in_manager.area
  pub right : are_areas_right r ≡ true
  pub status : r.al_status < 32
  pub code : r.al_code < 65536
  pub reads : r.in_manager.full ≡ true → (m : Mail) × (mail_read r.in_manager.area ≡ Ok m)
