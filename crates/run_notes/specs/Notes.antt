-- What became of a slave so far, one event after the other.
use Rattle.std.specs.Prelude.{ℕ, suc, ◌-◌, ◌&&◌, not, Bool, true, false, if◌then◌else◌, nat_lt, List, [], ◌∷◌, ◌++◌, length, replicate, slice_get, slice_set, Option, Some, None, is_some}
use Rattle.run_book.specs.of_master_node.declared.event.Origin.{Origin}
use Rattle.run_book.specs.of_master_node.declared.event.Origin.TheVariants.{Script, Forward, Gateway}
use Rattle.run_frames.specs.of_mailbox_mail.declared.outcome.ReplyKind.{ReplyKind}
use Rattle.run_book.specs.of_master_node.declared.changed.Changed.{Changed}
use Rattle.run_book.specs.of_master_node.declared.told.Told.{Told}
use Rattle.run_book.specs.declared.book.Answer.{Answer}
use Rattle.run_book.specs.declared.book.Answer.TheVariants.{Replied, InDoubt, NotSent}
use Rattle.run_book.specs.declared.book.Epoch.{Epoch}
use Rattle.run_book.specs.declared.book.Reply.{Reply}
use Rattle.run_notes.specs.declared.notes.Awaited.{Awaited}
use Rattle.run_notes.specs.declared.notes.Notes.{Notes}

-- a number of rows; it stands still at its type's end
abbrev pub count : ℕ → ℕ
count rows = if nat_lt rows 4294967295 then rows else 4294967295

-- the epoch with which a slave begins
abbrev pub first_epoch : Epoch
first_epoch = record { row = 0; cleared = None; opened = None; emergencies = 0; packets = 0 }

-- nothing happened yet at a slave with so many scripted services
abbrev pub new_notes : ℕ → Notes
new_notes left =
    record { begun = []; answers = []; emergencies = []; epochs = first_epoch ∷ []; gave = []; in_hand = false; awaited = Awaited.Nothing; scripted = 0; packets = 0; left = left; leaving = false; up = false }

-- the scripted services that are left behind one that came into hand
abbrev pub left_behind : Origin → ℕ → ℕ
left_behind (Script number) left = left - 1
left_behind (Forward number) left = left
left_behind (Gateway number) left = left

-- the answers once a service in hand isn't awaited any more
abbrev pub answers_doubted : Notes → List Answer
answers_doubted n = if n.in_hand then n.answers ++ InDoubt ∷ [] else n.answers

-- a service came into hand as a frame was about to be made
abbrev pub began : Notes → Origin → ℕ → Notes
began n origin frame =
    record n { begun = n.begun ++ record { origin = origin; frame = frame } ∷ []; answers = answers_doubted n; in_hand = true; awaited = Awaited.Nothing; left = left_behind origin n.left }

-- nothing is awaited
abbrev pub awaits_nothing : Awaited → Bool
awaits_nothing Awaited.Nothing = true
awaits_nothing Awaited.Reply = false
awaits_nothing Awaited.Change = false

-- so it is of a service that is none of the script, where nothing is awaited
abbrev pub began_where : Notes → Origin → ℕ → Notes
began_where n origin frame = if awaits_nothing n.awaited then began n origin frame else n

-- what is awaited of a service of the script that comes into hand
abbrev pub awaited_by : Bool → Awaited
awaited_by true = Awaited.Change
awaited_by false = Awaited.Reply

-- the next service of the script did, and the one with this number follows; it changes the AL state, or goes by mails
abbrev pub began_script : Notes → ℕ → Bool → ℕ → Notes
began_script n number state frame = record (began n (Script n.scripted) frame) { awaited = awaited_by state; scripted = number }

-- the return of a frame completed the reply of the service in hand
abbrev pub answered : Notes → Reply → ℕ → Notes
answered n reply frame = record n { answers = n.answers ++ Replied reply frame ∷ []; in_hand = false; awaited = Awaited.Nothing }

-- so the master tells of a service in hand, unless that is one of the script, of which it is asked
abbrev pub answered_where : Notes → Reply → ℕ → Notes
answered_where n reply frame = if n.in_hand && awaits_nothing n.awaited then answered n reply frame else n

-- the return of a frame brought an emergency
abbrev pub alarmed : Notes → List ℕ → ℕ → Notes
alarmed n octets frame = record n { emergencies = n.emergencies ++ record { octets = octets; frame = frame } ∷ [] }

-- a packet was received
abbrev pub received : Notes → Notes
received n = record n { packets = count (suc n.packets) }

-- a service in hand is in doubt
abbrev pub doubted : Notes → Notes
doubted n = record n { answers = answers_doubted n; in_hand = false; awaited = Awaited.Nothing }

-- what a master tells of the service by mails in hand, which awaits its reply: the reply, or none yet
abbrev pub told_noted : Told → List ℕ → ℕ → Notes → Notes
told_noted Told.Waits value frame n = n
told_noted (Told.Answered kind) value frame n = answered n (record { kind = kind; value = value }) frame
told_noted Told.Unknown value frame n = n

-- what it tells of the change of state in hand: how it ended, or that it goes on
abbrev pub changed_noted : Changed → ℕ → Notes → Notes
changed_noted Changed.Nothing frame n = n
changed_noted Changed.Going frame n = n
changed_noted Changed.Reached frame n = answered n (record { kind = ReplyKind.Done; value = [] }) frame
changed_noted (Changed.Refused code) frame n = answered n (record { kind = ReplyKind.StateRefused code; value = [] }) frame

-- one that returned the slave to Init is done once the slave is open again
abbrev pub change_noted : Bool → Changed → ℕ → Notes → Notes
change_noted opens changed frame n = if opens then (if n.up then changed_noted changed frame n else answered n (record { kind = ReplyKind.Done; value = [] }) frame) else n

-- the slave was given up at a frame that was lost; it is to be returned to Init, or is gone for good
abbrev pub given_up : Notes → Bool → ℕ → Notes
given_up n leaves frame = record (doubted n) { gave = n.gave ++ frame ∷ []; leaving = leaves; up = false }

-- the first row of an epoch: the service in hand, which caused the return to Init, or the next that begins
abbrev pub first_row : Bool → ℕ → ℕ
first_row in_hand begun = if in_hand then begun - 1 else begun

-- the return of a frame showed the slave in Init: an epoch begins
abbrev pub epochs_cleared : Notes → ℕ → List Epoch
epochs_cleared n frame =
    let row = count (first_row n.in_hand (length n.begun)) in
    let emergencies = count (length n.emergencies) in
    n.epochs ++ record { row = row; cleared = Some frame; opened = None; emergencies = emergencies; packets = n.packets } ∷ []

-- the last epoch is opened
abbrev pub last_opened : List Epoch → ℕ → Option Epoch → List Epoch
last_opened epochs frame None = epochs
last_opened epochs frame (Some epoch) = slice_set epochs (length epochs - 1) (record epoch { opened = Some frame })

-- the return of a frame showed the slave in the state that was opened
abbrev pub epochs_opened : Notes → ℕ → List Epoch
epochs_opened n frame = last_opened n.epochs frame (slice_get n.epochs (length n.epochs - 1))

-- what a frame that came back made of the epochs, by how the master stood to the slave and stands now
abbrev pub epochs_stood : Notes → Bool → Bool → ℕ → List Epoch
epochs_stood n leaves opens frame = if n.leaving && not leaves then epochs_cleared n frame else if not n.up && opens then epochs_opened n frame else n.epochs

-- and how its master stands to it now
abbrev pub stood : Notes → Bool → Bool → ℕ → Notes
stood n leaves opens frame = record n { epochs = epochs_stood n leaves opens frame; leaving = leaves; up = opens }

-- the run ended: a service in hand is in doubt, and what is left of the script was not sent
abbrev pub ended : Notes → List Answer
ended n = answers_doubted n ++ replicate n.left NotSent

-- the slave was given up, for good or not
abbrev pub has_given_up : Notes → Bool
has_given_up n = nat_lt 0 (length n.gave)

-- the station of a slave and the length of its mailbox, while it wasn't given up for good
abbrev pub station_of : ℕ → ℕ × ℕ → Notes → Option (ℕ × ℕ)
station_of recover home n = if is_some (slice_get n.gave recover) then None else Some home

-- those of all slaves, in ring order
abbrev pub stations_of : ℕ → List (ℕ × ℕ) → List Notes → List (Option (ℕ × ℕ))
stations_of recover (home ∷ homes) (n ∷ notes) = station_of recover home n ∷ stations_of recover homes notes
stations_of recover _ _ = []
