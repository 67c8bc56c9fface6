-- What downloads and emitted packets keep of the tables, any mail keeps.
use Rattle.std.proofs.Common.{◌≡◌, ℕ, ◌-◌, ◌==◌, ◌||◌, not, nat_lt, nat_le, Bool, true, false, List, ◌++◌, length, Option, None, Some, Result, Ok, Err, refl}
use Rattle.std.specs.Prelude.{if◌then◌else◌}
use Rattle.idn_table.specs.of_exchange_model.Areas.{Areas}
use Rattle.eoe_server.specs.of_protocol_models.CoeMails.{Coe, CoeMail, mail, unread, failed, fragment, other, CoeFault, Short, Service, Command, Size, Emergency, Expedited, First, Upload, DownloadAnswer, ExpeditedAnswer, FirstAnswer, Segment, SegmentAnswer, UploadSegment, UploadSegmentAnswer, Abort, ListRequest, ObjectRequest, EntryRequest, Information, InformationError}
use Rattle.eoe_server.specs.of_protocol_models.Tables.{Target, Ask, list, object, entry, Tables}
use Rattle.eoe_server.specs.of_protocol_models.CoeServer.{Transfer, idle, downloading, uploading, Server, Emission, emergency, packet, issued, Outcome, coe_outcome, coe_takes, serve, stored, begins, takes_first, takes_segment, takes_upload_segment, opened, informed, takes_unread, unknown_command, same, is_expedited}

either : {X : Type 0} (P : X → Type 0) (b : Bool) (x y : X) → P x → P y → P (if b then x else y)
either P true x y p q = p
either P false x y p q = q

module _ {S : Type 0} (o : Tables S) (eoe : Bool) (areas : Areas) (P : S → Type 0) (stays : (app changed : S) (t : Target) (bytes : List ℕ) → P app → o.download app t bytes ≡ Ok changed → P changed)
    (stays_cut : (app : S) (octets : List ℕ) → P app → P (o.packet app octets).0) where
  abbrev IsFine : Outcome S → Type 0
  IsFine x = P x.app

  issued_fine : (app : S) (e : Option Emission) → P app → P (issued o app e).0
  issued_fine app None fine = fine
  issued_fine app (Some (emergency octets)) fine = fine
  issued_fine app (Some (packet octets)) fine = stays_cut app octets fine

  stored_fine : (app : S) (t : Target) (bytes : List ℕ) (a : CoeMail) → P app → (r : Result S ℕ) → o.download app t bytes ≡ r → IsFine (stored eoe app t bytes a r)
  stored_fine app t bytes a fine (Ok changed) is = stays app changed t bytes fine is
  stored_fine app t bytes a fine (Err code) is = fine

  begins_fine : (app : S) (t : Target) (size : ℕ) (part : List ℕ) → P app → (r : Option ℕ) → IsFine (begins app t size part r)
  begins_fine app t size part fine None = fine
  begins_fine app t size part fine (Some code) = fine

  first_fine : (app : S) (t : Target) (size : ℕ) (part : List ℕ) → P app → IsFine (takes_first o eoe app t size part)
  first_fine app t size part fine = either IsFine (size == length part) _ _ (stored_fine app t part _ fine (o.download app t part) refl) (begins_fine app t size part fine (o.check app t size))

  segment_fine : (app : S) (transfer : Transfer) (toggle last : Bool) (part : List ℕ) → P app → IsFine (takes_segment o eoe app transfer toggle last part)
  segment_fine app idle toggle last part fine = fine
  segment_fine app (uploading t rest expected) toggle last part fine = fine
  segment_fine app (downloading t size got expected) toggle last part fine =
      either IsFine (not (same expected toggle)) _ _ fine
      (either IsFine (nat_lt size (length (got ++ part))) _ _ fine
      (either IsFine last _ _ (either IsFine (nat_lt (length (got ++ part)) size) _ _ fine (stored_fine app t (got ++ part) _ fine (o.download app t (got ++ part)) refl)) fine))

  opened_fine : (app : S) (t : Target) (r : Result (List ℕ) ℕ) → P app → IsFine (opened areas.back app t r)
  opened_fine app t (Err code) fine = fine
  opened_fine app t (Ok bytes) fine = either IsFine (is_expedited bytes) _ _ fine (either IsFine (nat_le (length bytes) (areas.back - 16)) _ _ fine fine)

  upload_segment_fine : (app : S) (transfer : Transfer) (toggle : Bool) → P app → IsFine (takes_upload_segment areas.back app transfer toggle)
  upload_segment_fine app idle toggle fine = fine
  upload_segment_fine app (downloading t size got expected) toggle fine = fine
  upload_segment_fine app (uploading t rest expected) toggle fine = either IsFine (not (same expected toggle)) _ _ fine (either IsFine (nat_le (length rest) (areas.back - 9)) _ _ fine fine)

  informed_fine : (app : S) (transfer : Transfer) (a : Ask) (r : Result (List ℕ) ℕ) → P app → IsFine (informed areas.back app transfer a r)
  informed_fine app transfer a (Ok bytes) fine = fine
  informed_fine app transfer a (Err code) fine = fine

  unknown_fine : (app : S) (transfer : Transfer) (b : Bool) (index sub : ℕ) → P app → IsFine (unknown_command app transfer b index sub)
  unknown_fine app transfer true index sub fine = fine
  unknown_fine app transfer false index sub fine = fine

  unread_fine : (app : S) (transfer : Transfer) (fault : CoeFault) (service index sub : ℕ) → P app → IsFine (takes_unread app transfer fault service index sub)
  unread_fine app transfer Short service index sub fine = fine
  unread_fine app transfer Service service index sub fine = fine
  unread_fine app transfer Command service index sub fine = either IsFine (service == 1 || service == 3) _ _ fine (unknown_fine app transfer (service == 8) index sub fine)
  unread_fine app transfer Size service index sub fine = either IsFine (service == 1 || service == 3) _ _ fine fine

  takes_fine : (app : S) (transfer : Transfer) (c : Coe) → P app → IsFine (coe_takes o eoe areas.back app transfer c)
  takes_fine app transfer (Expedited index sub all bytes) fine = stored_fine app _ bytes.items _ fine _ refl
  takes_fine app transfer (First index sub all size bytes) fine = first_fine app _ size bytes.items fine
  takes_fine app transfer (Segment toggle last bytes) fine = segment_fine app transfer toggle last bytes.items fine
  takes_fine app transfer (Upload index sub all) fine = opened_fine app _ (o.upload app (record { index = index; sub = sub; all = all })) fine
  takes_fine app transfer (UploadSegment toggle) fine = upload_segment_fine app transfer toggle fine
  takes_fine app transfer (Abort index sub code) fine = fine
  takes_fine app transfer (ListRequest kind) fine = informed_fine app transfer (list kind) (o.info app (list kind)) fine
  takes_fine app transfer (ObjectRequest index) fine = informed_fine app transfer (object index) (o.info app (object index)) fine
  takes_fine app transfer (EntryRequest index sub info) fine = informed_fine app transfer (entry index sub info) (o.info app (entry index sub info)) fine
  takes_fine app transfer (Information opcode incomplete left bytes) fine = fine
  takes_fine app transfer (InformationError code) fine = fine
  takes_fine app transfer (Emergency octets) fine = fine
  takes_fine app transfer (DownloadAnswer index sub) fine = fine
  takes_fine app transfer (ExpeditedAnswer index sub bytes) fine = fine
  takes_fine app transfer (FirstAnswer index sub size bytes) fine = fine
  takes_fine app transfer (SegmentAnswer toggle) fine = fine
  takes_fine app transfer (UploadSegmentAnswer toggle last bytes) fine = fine

  outcome_fine : (app : S) (transfer : Transfer) (m : CoeMail) → P app → IsFine (coe_outcome o eoe areas.back app transfer m)
  outcome_fine app transfer (mail c) fine = takes_fine app transfer c fine
  outcome_fine app transfer (unread fault service index sub) fine = unread_fine app transfer fault service index sub fine
  outcome_fine app transfer (failed detail) fine = fine
  outcome_fine app transfer (fragment body) fine = fine
  outcome_fine app transfer (other body) fine = fine

  pub keeps : (v : Server S) (m : CoeMail) → P v.app → P (serve o eoe areas.back v m).0.app
  keeps v m fine =
      let x = coe_outcome o eoe areas.back v.app v.transfer m in
      issued_fine x.app x.emission (outcome_fine v.app v.transfer m fine)
