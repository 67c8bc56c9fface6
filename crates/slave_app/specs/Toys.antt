-- A small dictionary of one object, which may be written in one AL state alone, and a run of its slave with a state service between.
use Rattle.std.specs.Prelude.{ℕ, ◌==◌, nat_le, nat_lt, Bool, true, false, if◌then◌else◌, List, [], ◌∷◌, length, Option, None, Some, Result, Ok, Err}
use Rattle.slave_server.specs.of_mailbox_mail.declared.outcome.ReplyKind.{ReplyKind}
use Rattle.slave_server.specs.of_exchange_model.Areas.{Areas}
use Rattle.slave_server.specs.of_exchange_model.Exchange.{Exchange}
use Rattle.slave_server.specs.of_segment_model.Ends.{Outcome}
use Rattle.slave_server.specs.of_state_model.States.{Table}
use Rattle.slave_server.specs.of_protocol_models.CoeMails.{CoeMail, mail, Expedited, Upload, DownloadAnswer, ExpeditedAnswer, Abort}
use Rattle.slave_server.specs.of_protocol_models.Tables.{Target, Tables}
use Rattle.slave_server.specs.of_protocol_models.CoeServer.{Server, idle}
use Rattle.slave_server.specs.of_protocol_models.CoeMeaning.{Service, download, upload, Reply}
use Rattle.slave_server.specs.of_state_model.Stated.{Act, Counting, with_states}
use Rattle.slave_server.specs.of_state_model.Stated
use Rattle.slave_server.specs.of_state_model.Families.{InState, states_of}
use Rattle.slave_app.specs.States.{acknowledged, coe_states}

-- what refuses a download: the index is unknown, the AL state is another than Operational, or the value is too long
abbrev pub refused_by : Bool → Bool → Bool → Option ℕ
refused_by false operational long = Some 0x06020000
refused_by true false long = Some 0x08000022
refused_by true true true = Some 0x06070012
refused_by true true false = None

-- what refuses a download to this target, of a value of this length
abbrev pub refusal : ℕ → Target → ℕ → Option ℕ
refusal al t size = refused_by (t.index == 0x2000) (al == 8) (nat_lt 16384 size)

-- the dictionary behind it
abbrev pub unless_refused : List ℕ → Option ℕ → Result (List ℕ) ℕ
unless_refused bytes None = Ok bytes
unless_refused bytes (Some code) = Err code

-- the dictionary at an AL state: the value of its object is all that it has
abbrev pub drawer : ℕ → Tables (List ℕ)
drawer al = record {
  valid = λ value. nat_le (length value) 16384;
  check = λ value t size. refusal al t size;
  download = λ value t bytes. unless_refused bytes (refusal al t (length bytes));
  upload = λ value t. if t.index == 0x2000 then Ok value else Err 0x06020000;
  info = λ value a. Err 0x08000021;
  packet = λ value octets. (value, []);
}

-- its slave makes each change of the AL state
abbrev pub steps : Table
steps from to = None

-- and has the smallest mailboxes
abbrev pub areas : Areas
areas = record { out = 64; back = 64 }

-- THE SLAVE: CoE in it beside its state services
abbrev pub slave : Exchange (Counting (InState (Server (List ℕ)))) (InState (List ℕ) × ℕ) (Act CoeMail) (Stated.Service Service) (Outcome Reply)
slave = with_states (coe_states drawer false areas) (states_of acknowledged) steps

-- it starts with an empty value in Pre-Operational
abbrev pub start : Counting (InState (Server (List ℕ)))
start = record { server = record { inner = record { app = []; handled = 0; transfer = idle }; state = 2 }; words = 0 }

-- its object
abbrev pub target : Target
target = record { index = 0x2000; sub = 0; all = false }

-- a download, a change to Operational, the same download, and an upload
abbrev pub tried : List (Stated.Service Service)
tried = Stated.Service.Mails (download target (7 ∷ [])) ∷ Stated.Service.State 8 ∷ Stated.Service.Mails (download target (7 ∷ [])) ∷ Stated.Service.Mails (upload target) ∷ []

-- the mails and control words of these services
abbrev pub taken : List (Act CoeMail)
taken = Act.Mail (mail (Expedited 0x2000 0 false (record { items = 7 ∷ [] }))) ∷ Act.Word 8 ∷ Act.Mail (mail (Expedited 0x2000 0 false (record { items = 7 ∷ [] }))) ∷ Act.Mail (mail (Upload 0x2000 0 false)) ∷ []

-- what is given for them
abbrev pub heard : List (Act CoeMail)
heard = Act.Mail (mail (Abort 0x2000 0 0x08000022)) ∷ Act.Mail (mail (DownloadAnswer 0x2000 0)) ∷ Act.Mail (mail (ExpeditedAnswer 0x2000 0 (record { items = 7 ∷ [] }))) ∷ []

-- the slave behind them
abbrev pub ended : Counting (InState (Server (List ℕ)))
ended = record { server = record { inner = record { app = 7 ∷ []; handled = 3; transfer = idle }; state = 8 }; words = 1 }

-- the services' replies, each on the application behind those before it
abbrev pub replies : InState (List ℕ) × ℕ → List (Stated.Service Service) → List (Outcome Reply)
replies a [] = []
replies a (q ∷ qs) = slave.reply a q ∷ replies (slave.exec a q) qs

-- which are these
abbrev pub told : List (Outcome Reply)
told = Outcome.Replied (ReplyKind.Abort 0x08000022, []) ∷ Outcome.Reached ∷ Outcome.Replied (ReplyKind.Done, []) ∷ Outcome.Replied (ReplyKind.Value, 7 ∷ []) ∷ []
