-- One slave, octet by octet, whatever services it has behind its mailboxes.
use Rattle.std.specs.Prelude.{◌≡◌, ℕ, ◌==◌, ◌&&◌, not, is_none, Bool, true, false, List, Option, None}
use Rattle.mailbox_slave.specs.of_mailbox_mail.declared.mail.Mail.{Mail}
use Rattle.al_state.specs.declared.machine.Al.{Al}
use Rattle.mailbox_slave.specs.of_esc_registers.declared.registers.Registers.{Registers}
use Rattle.mailbox_slave.specs.of_esc_registers.Registers.{first_registers}
use Rattle.mailbox_slave.specs.Kept.{Kept, KeptFits, is_at_rest}
use Rattle.mailbox_slave.specs.Registers.{in_len}
use Rattle.slave_node.specs.Passing.{frame_passed}

-- a slave: the registers of its controller, what its box keeps of mails, its AL state, whether it has Bootstrap, and the services behind its
-- mailboxes
pub record Node (S : Type 0) : Type 0 where
  pub registers : Registers
  pub kept : Kept
  pub al : Al
  pub boot : Bool
  pub server : S

-- a box that has taken and offered no mail yet
abbrev pub new_box : Kept
new_box = record { last_taken = 0; newest = 0; again = false; last_read = None; fresh = None; withdrawn = None }

-- the AL state is Init
abbrev pub is_init : Al → Bool
is_init al = al.state == 1

-- a slave as it is switched on, with mailboxes of these lengths: in Init, all registers 0 but AL status
abbrev pub new_node : {S : Type 0} → ℕ → ℕ → Bool → S → Node S
new_node out back boot server =
    record { registers = first_registers out back; kept = new_box; al = record { state = 1; error = 0 }; boot = boot; server = server }

-- what always holds of a slave: the mails of its box fit mailbox 1, and in Init the box is a new one
pub record IsSteady (r : Registers) (k : Kept) (al : Al) : Type 0 where
  pub fits : KeptFits (in_len r) k
  pub init : is_init al ≡ true → k ≡ new_box

-- a slave and the octets of a frame, behind each other
abbrev pub node_passed : {S : Type 0} → Node S → List ℕ → Node S × List ℕ
node_passed n octets = (record n { registers = (frame_passed n.registers octets).0 }, (frame_passed n.registers octets).1)

-- nothing is left to do: mailbox 0 is empty, no AL control word is unhandled, no mail of the server waits, and the box is at rest
abbrev pub is_settled : {S : Type 0} → (S → Option Mail) → Node S → Bool
is_settled next n = not n.registers.out_manager.full && (not n.registers.unhandled && (is_none (next n.server) && is_at_rest n.kept))
