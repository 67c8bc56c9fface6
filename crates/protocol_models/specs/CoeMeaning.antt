-- What CoE services mean, on whole values.
use Rattle.std.specs.Prelude.{ℕ, Bool, List, [], Result, Ok, Err}
use Rattle.mailbox_mail.specs.declared.outcome.ReplyKind.{ReplyKind}
use Rattle.protocol_models.specs.CoeMails.{CoeMail}
use Rattle.protocol_models.specs.Tables.{Target, Ask, Tables}
use Rattle.protocol_models.specs.CoeServer.{emission_of, issued}

-- what a client asks: a download or an upload of whole values, or information
pub data Service : Type 0 where
  download : (t : Target) (bytes : List ℕ) → Service
  upload : (t : Target) → Service
  information : (a : Ask) → Service

-- a reply: its kind, and the value where it has one
abbrev pub Reply : Type 0
Reply = ReplyKind × List ℕ

-- what a service does to the tables, what it replies, and the mails that it emits
pub record Meaning (S : Type 0) : Type 0 where
  pub app : S
  pub reply : Reply
  pub emits : List CoeMail

-- a refused service changes nothing
abbrev pub refused : {S : Type 0} → S → ℕ → Meaning S
refused app code = record { app = app; reply = (ReplyKind.Abort code, []); emits = [] }

-- a download, by what the tables make of it
abbrev pub download_means : {S : Type 0} → Tables S → Bool → S → Target → List ℕ → Result S ℕ → Meaning S
download_means o eoe app t bytes (Ok changed) =
    record { app = (issued o changed (emission_of eoe t bytes)).0; reply = (ReplyKind.Done, []); emits = (issued o changed (emission_of eoe t bytes)).1 }
download_means o eoe app t bytes (Err code) = refused app code

-- a service that reads, by the value or the abort code
abbrev pub value_means : {S : Type 0} → S → Result (List ℕ) ℕ → Meaning S
value_means app (Ok bytes) = record { app = app; reply = (ReplyKind.Value, bytes); emits = [] }
value_means app (Err code) = refused app code

-- what a service means on whole values
abbrev pub meaning_of : {S : Type 0} → Tables S → Bool → S → Service → Meaning S
meaning_of o eoe app (download t bytes) = download_means o eoe app t bytes (o.download app t bytes)
meaning_of o eoe app (upload t) = value_means app (o.upload app t)
meaning_of o eoe app (information a) = value_means app (o.info app a)
