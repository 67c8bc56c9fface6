-- What FoE services mean, on whole files.
use Rattle.std.specs.Prelude.{ℕ, Bool, true, false, List, [], length, if◌then◌else◌, Option, None, Some}
use Rattle.mailbox_mail.specs.declared.outcome.ReplyKind.{ReplyKind}
use Rattle.protocol_models.specs.Files.{Files}

-- a file that is read, or written whole; with its password
pub data Service : Type 0 where
  read : (name : List ℕ) (pass : ℕ) → Service
  write : (name : List ℕ) (pass : ℕ) (bytes : List ℕ) → Service

-- whether a service reads a file, whose last mail brings no reply
abbrev pub is_file_read : Service → Bool
is_file_read (read name pass) = true
is_file_read (write name pass bytes) = false

-- a reply: its kind, and the octets of a file that was read
abbrev pub Reply : Type 0
Reply = ReplyKind × List ℕ

-- what a service does to the files, and what it replies
pub record Meaning (S : Type 0) : Type 0 where
  pub app : S
  pub reply : Reply

-- a refused service changes nothing
abbrev pub refused : {S : Type 0} → S → ℕ → Meaning S
refused app code = record { app = app; reply = (ReplyKind.FoeError code, []) }

-- the octets of the file where nothing refuses the read
abbrev pub read_means : {S : Type 0} → Files S → S → List ℕ → Option ℕ → Meaning S
read_means o app name None = record { app = app; reply = (ReplyKind.Value, o.get app name) }
read_means o app name (Some code) = refused app code

-- the new version takes the place of the old where the free blocks hold it, else 8003
abbrev pub write_means : {S : Type 0} → Files S → S → List ℕ → List ℕ → Option ℕ → Meaning S
write_means o app name bytes None =
    if o.has_room app (length bytes) then record { app = o.put app name bytes; reply = (ReplyKind.Done, []) } else refused app 0x8003
write_means o app name bytes (Some code) = refused app code

-- what a service means
abbrev pub meaning_of : {S : Type 0} → Files S → S → Service → Meaning S
meaning_of o app (read name pass) = read_means o app name (o.allowed app name pass false)
meaning_of o app (write name pass bytes) = write_means o app name bytes (o.allowed app name pass true)
