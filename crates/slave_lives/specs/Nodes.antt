-- A RUNNING SLAVE, octet by octet: what always holds of it, and what its frames and steps leave.
use Rattle.std.specs.Prelude.{◌≡◌, ℕ, ◌+◌, ◌<◌, ◌≤◌, true, Some, None, IsSome, length}
use Rattle.std.specs.Option.{ForSome}
use Rattle.frames_seen.specs.of_mailbox_mail.declared.mail.Mail.{Mail}
use Rattle.frames_seen.specs.of_al_state.declared.machine.Al.{Al}
use Rattle.frames_seen.specs.of_al_state.Request.{is_state}
use Rattle.frames_seen.specs.of_esc_registers.declared.registers.Registers as Esc
use Rattle.frames_seen.specs.of_link_mails.Body.{Body}
use Rattle.frames_seen.specs.of_mailbox_slave.Kept.{Kept}
use Rattle.frames_seen.specs.of_mailbox_slave.Registers.{in_len}
use Rattle.frames_seen.specs.of_slave_node.Node as Running
use Rattle.frames_seen.specs.of_slave_node.Node.{is_init, new_box}
use Rattle.frames_seen.specs.of_slave_node.Step.{status_word, pdi_step}
use Rattle.slave_lives.specs.Steps as The

-- a mail that stands in mailbox 1 of this length as it is: counter, address and body are those of a mail, and it fits
pub record IsPlaced (len : ℕ) (m : Mail) : Type 0 where
  pub counted : m.counter ≤ 7
  pub addressed : m.address < 65536
  pub short : length m.body.items ≤ 1480
  pub fits : 6 + length m.body.items ≤ len

-- what always holds of a box: each mail that it keeps can stand in mailbox 1, and a repeat is of a mail that was read
pub record IsKept (len : ℕ) (k : Kept) : Type 0 where
  pub last_read : ForSome k.last_read (IsPlaced len)
  pub fresh : ForSome k.fresh (IsPlaced len)
  pub withdrawn : ForSome k.withdrawn (IsPlaced len)
  pub again : k.again ≡ true → IsSome k.last_read × (k.fresh ≡ None)

-- the mail that a server gives next can stand there
abbrev pub GivesPlaced : {S : Type 0} → The.Running S → ℕ → S → Type 0
GivesPlaced u len s = (m : Mail) → u.next s ≡ Some m → IsPlaced len m

-- so it is as the server stands, and once it took any mail
pub record IsRoomy {S : Type 0} (u : The.Running S) (len : ℕ) (s : S) : Type 0 where
  pub now : GivesPlaced u len s
  pub taken : (b : Body) (al : ℕ) → GivesPlaced u len (u.take s b al)

-- the registers show the AL state, which is one of the five
pub record IsShown (r : Esc.Registers) (al : Al) : Type 0 where
  pub status : r.al_status ≡ status_word al
  pub code : r.al_code ≡ al.error
  pub state : is_state al.state ≡ true
  pub error : al.error < 65536

-- A SLAVE THAT RUNS: what its registers show is its AL state, its box keeps mails of mailbox 1, and in Init box and server are new ones
pub record IsRunning {S : Type 0} (u : The.Running S) (n : Running.Node S) : Type 0 where
  pub shows : IsShown n.registers n.al
  pub kept : IsKept (in_len n.registers) n.kept
  pub init : is_init n.al ≡ true → n.kept ≡ new_box
  pub cleared : is_init n.al ≡ true → u.clear n.server ≡ n.server

-- THE STEP OF ITS PROCESSOR, as it runs
abbrev pub stepped : {S : Type 0} → The.Running S → Running.Node S → Running.Node S
stepped u n = pdi_step u.take u.next u.rest u.clear n

-- behind a step: it runs on, registers and node are what the session's step says, and all else stays
pub record StepsOn {S : Type 0} (u : The.Running S) (n m : Running.Node S) : Type 0 where
  pub runs : IsRunning u m
  pub keeps : The.KeepsOthers n.registers m.registers
  pub steps : The.HasStepped u n.boot n.registers m.registers n.kept m.kept n.server m.server
  pub status : m.registers.al_status < 32
  pub code : m.registers.al_code < 65536
  pub boot : m.boot ≡ n.boot
