-- What a call for people comes to.
use Rattle.std.specs.Prelude.{◌≡◌, ℕ, List, Option, Some, None, if◌then◌else◌}
use Rattle.ec_outside.specs.declared.files.Files.{Ghosts as FilesTell}
use Rattle.ec_outside.specs.declared.sink.Sink.{Ghosts as SinkTells}
use Rattle.ec_outside.specs.declared.port.Port.{Ghosts as PortTells}
use Rattle.ecmbx_words.specs.declared.status.Status.TheVariants as statuses
use Rattle.form_help.specs.declared.telling.Told.{Told}
use Rattle.people_words.specs.declared.ended.Ended.{Ended}
use Rattle.people_words.specs.declared.ended.Ended.TheVariants as ends
use Rattle.people_words.specs.Ended.{Told as Puts}
use Rattle.entry_call.specs.Course.{EntryCourse}
use Rattle.entry_call.specs.Objects.{Does}
use Rattle.people_call.specs.declared.forms.Form.TheVariants as forms
use Rattle.people_call.specs.Call.{form_in, told_in}

-- the lines of what is known were put and the status is Done, or those of what isn't and it is Usage
abbrev pub Tells : Told → Option (List ℕ) → Option (List ℕ) → Ended → Type 0
Tells t old new end = Puts (ends.As (if t.is_known then statuses.Done else statuses.Usage)) t.text old new end

-- WHAT A CALL COMES TO, by the form of its words, and its end where it is one for people
pub data Comes {F O P : Type 0} (files_tell : FilesTell F) (sink_tells : SinkTells O) (port_tells : PortTells P) (words : List (List ℕ)) (files files' : F) (out out' : O) (port port' : P) : Option Ended → Type 0 where
  told : (end : Ended) → form_in words ≡ forms.Told → Tells (told_in words) (sink_tells.written out) (sink_tells.written out') end
      → files' ≡ files → port' ≡ port
      → Comes files_tell sink_tells port_tells words files files' out out' port port' (Some end)
  entered : (end : Ended) → form_in words ≡ forms.Entry → Does files_tell sink_tells port_tells (EntryCourse words) files files' out out' port port' end
      → Comes files_tell sink_tells port_tells words files files' out out' port port' (Some end)
  other : form_in words ≡ forms.Other → files' ≡ files → out' ≡ out → port' ≡ port
      → Comes files_tell sink_tells port_tells words files files' out out' port port' None
