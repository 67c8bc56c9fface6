-- What a server's state stands for, with the store that it works on: its unfinished transfer and the mail that waits.
use Rattle.std.specs.Prelude.{◌≡◌, ℕ, ◌+◌, ◌≤◌, ◌&&◌, nat_le, Bool, true, false, List, [], ◌∷◌, map, length, drop, is_some, Some, None}
use Rattle.file_store.specs.Files.{Kept, file_of, get}
use Rattle.file_store.specs.Stored.{Stored, part_octets}
use Rattle.protocol_models.specs.of_mailbox_mail.declared.mail.Mail.{Mail}
use Rattle.protocol_models.specs.FoeMails.{Foe, Ack, Error, Busy, FoeMail, mail, failed}
use Rattle.protocol_models.specs.FoeServer.{Transfer, idle, reading, writing, closing, Outcome, Server, one_more, packet_of}
use Rattle.protocol_models.specs.of_foe_codec.Message.{foe_text}
use Rattle.protocol_models.specs.FoeOctets.{foe_mail_written}
use Rattle.foe_server.specs.declared.state.State.{State}
use Rattle.foe_server.specs.declared.state.Pending.{Pending}

-- a server: the lengths of the mailboxes for requests and for answers, the name of the transfer's file, the transfer, and what is still to be told
pub record Serving : Type 0 where
  pub out : ℕ
  pub back : ℕ
  pub name : List ℕ
  pub state : State
  pub pending : Pending

-- a server without a transfer and without a mail
abbrev pub fresh : ℕ → ℕ → List ℕ → Serving
fresh out back name = record { out = out; back = back; name = name; state = State.Idle; pending = Pending.Nothing }

-- the transfer that is not finished: what is left of the file, or what came of the new version
abbrev pub transfer_view : State → List ℕ → Stored → Transfer
transfer_view State.Idle name store = idle
transfer_view (State.Reading number from) name store = reading number (drop from (get store.kept name))
transfer_view (State.Writing number) name store = writing name number (part_octets store)
transfer_view (State.Closing number told) name store = closing name number (part_octets store) told

-- the transfer of a server over this store
abbrev pub transfer_of : Serving → Stored → Transfer
transfer_of c store = transfer_view c.state c.name store

-- the mail that waits to be told
abbrev pub pending_mails : ℕ → List ℕ → Kept → Pending → List FoeMail
pending_mails back name kept Pending.Nothing = []
pending_mails back name kept (Pending.Packet number from) = packet_of back number (drop from (get kept name)) ∷ []
pending_mails back name kept (Pending.Ack number) = mail (Ack number) ∷ []
pending_mails back name kept (Pending.Busy done entire) = mail (Busy done entire) ∷ []
pending_mails back name kept (Pending.Error code) = mail (Error code) ∷ []
pending_mails back name kept (Pending.Failed detail) = failed detail ∷ []

-- the mail that waits in a server over this store
abbrev pub waiting_mails : Serving → Stored → List FoeMail
waiting_mails c store = pending_mails c.back c.name store.kept c.pending

-- what a server did with a mail, by its state and the store behind it
abbrev pub outcome_of : Stored → Serving → Bool → Outcome Kept
outcome_of store c counts = record { app = store.kept; transfer = transfer_of c store; counts = counts; answers = waiting_mails c store }

-- the model's server behind a mail, and the mails that it gives, by what the call did
abbrev pub served_of : Stored → ℕ → Serving → Bool → Server Kept × List Mail
served_of store handled c counts =
    (record { app = store.kept; handled = one_more counts handled; transfer = transfer_of c store }, map foe_mail_written (waiting_mails c store))

-- the server is the same, with this transfer and this to be told
abbrev pub told_of : Serving → State → Pending → Serving
told_of c state pending = record c { state = state; pending = pending }

-- the store with no version begun
abbrev pub without_part : Stored → Stored
without_part store = record store { part = None }

-- the store has the version of a write: of the file of this name, which is there, and with an octet or more for each packet but the last
pub record IsWriting (name : List ℕ) (number : ℕ) (store : Stored) : Type 0 where
  pub part : store.part ≡ Some (record { name = name; octets = part_octets store })
  pub there : is_some (file_of store.kept name) ≡ true
  pub packets : number ≤ length (part_octets store)

-- the store is the one that the server worked on before: it has a version exactly in a write
abbrev pub IsStoreOf : State → List ℕ → Stored → Type 0
IsStoreOf State.Idle name store = store.part ≡ None
IsStoreOf (State.Reading number from) name store = store.part ≡ None
IsStoreOf (State.Writing number) name store = IsWriting name number store
IsStoreOf (State.Closing number told) name store = IsWriting name 0 store

-- the store is the one that the server worked on before
abbrev pub Serves : Serving → Stored → Type 0
Serves c store = IsStoreOf c.state c.name store

-- packet numbers stay below the most octets of a file
abbrev pub is_sound : State → Bool
is_sound State.Idle = true
is_sound (State.Reading number from) = nat_le number (from + 1) && nat_le from 131072
is_sound (State.Writing number) = nat_le number 131072
is_sound (State.Closing number told) = true

-- whether what is to be told is a message, and no mailbox error
abbrev pub is_message : Pending → Bool
is_message Pending.Nothing = false
is_message (Pending.Failed detail) = false
is_message _ = true

-- a body is the one spelling of the mail that waits, and no other waits
pub record IsOnly (mails : List FoeMail) (body : List ℕ) : Type 0 where
  pub message : Foe
  pub spelled : body ≡ foe_text message
  pub only : mails ≡ mail message ∷ []

-- the mail that waits, and behind it none
pub record GivesNext (old : Serving) (store : Stored) (written : Mail) (new : Serving) : Type 0 where
  pub first : FoeMail
  pub spelled : written ≡ foe_mail_written first
  pub waited : waiting_mails old store ≡ first ∷ []
  pub rest : new ≡ record old { pending = Pending.Nothing }
