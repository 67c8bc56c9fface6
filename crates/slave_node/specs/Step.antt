-- The step of a slave's processor, octet by octet.
use Rattle.std.specs.Prelude.{ℕ, ◌+◌, ◌==◌, if◌then◌else◌, Bool, false, Option}
use Rattle.mailbox_slave.specs.of_mailbox_mail.declared.mail.Mail.{Mail}
use Rattle.al_state.specs.declared.machine.Al.{Al}
use Rattle.al_state.specs.Request.{request_of}
use Rattle.mailbox_slave.specs.of_link_mails.Body.{Body}
use Rattle.mailbox_slave.specs.of_esc_registers.declared.registers.Registers.{Registers}
use Rattle.mailbox_slave.specs.of_esc_registers.Registers.{are_areas_right}
use Rattle.mailbox_slave.specs.Kept.{Kept}
use Rattle.mailbox_slave.specs.Exact.{Boxes, with_acknowledge, request_answered, boxes_looked, slave_served}
use Rattle.slave_node.specs.Node.{Node, new_box, is_init}

-- the AL status word: the state, and bit 4 where the error flag stands
abbrev pub status_word : Al → ℕ
status_word al = al.state + (if al.error == 0 then 0 else 16)

-- steps 1 and 2, what was read and the repeat request; in Init the request alone
abbrev pub looked : Al → Kept → Registers → Boxes
looked al k r = if is_init al then request_answered k r else boxes_looked k r

-- registers that show an AL state, and no word that is unhandled
abbrev pub shown : Registers → Al → Registers
shown r al = record r { unhandled = false; al_status = status_word al; al_code = al.error }

-- the AL state behind the control word that stands in the registers
abbrev pub al_asked : Bool → Registers → Al → Al
al_asked boot r al = (request_of al r.al_control boot (are_areas_right r)).0

-- step 3, an unhandled control word is carried out: the AL state behind it
abbrev pub al_behind : Bool → Registers → Al → Al
al_behind boot r al = if r.unhandled then al_asked boot r al else al

-- the registers behind it
abbrev pub word_behind : Bool → Registers → Al → Registers
word_behind boot r al = if r.unhandled then shown r (al_asked boot r al) else r

module _ {S : Type 0} (take : S → Body → ℕ → S) (next : S → Option Mail) (rest : S → S) (clear : S → S) where
  -- steps 4 and 5 in the AL state that stands: a mail is taken, and one is offered
  abbrev pub served : Node S → Node S
  served n = let s = slave_served take next rest n.al.state n.kept n.registers n.server in record n { registers = s.registers; kept = s.kept; server = s.server }

  -- A RETURN TO INIT: box and server are made anew, and the acknowledge is set equal to the request
  abbrev pub returned : Node S → Node S
  returned n = record n { registers = with_acknowledge n.registers; kept = new_box; server = clear n.server }

  -- what follows step 3, where a word was carried out or none was: in Init no mail is taken or offered
  abbrev pub acted : Bool → Node S → Node S
  acted asked n = if is_init n.al then (if asked then returned n else n) else served n

  -- THE STEP OF THE PROCESSOR
  abbrev pub pdi_step : Node S → Node S
  pdi_step n =
      let b = looked n.al n.kept n.registers in
      acted b.registers.unhandled (record n { kept = b.kept; registers = word_behind n.boot b.registers n.al; al = al_behind n.boot b.registers n.al })
