-- A MAIL OF CoE is counted, or leaves the tables.
use Rattle.std.proofs.Common.{◌≡◌, ◌⊎◌, inl, inr, ℕ, ◌-◌, Bool, true, false, not, nat_lt, List, ◌++◌, length, Option, None, Some, Result, Ok, Err, refl}
use Rattle.std.specs.Prelude.{◌==◌, ◌||◌, nat_le}
use Rattle.seen_slaves.proofs.Choices.{either}
use Rattle.idle_slaves.specs.of_protocol_models.CoeMails.{Coe, Expedited, First, Upload, Segment, SegmentAnswer, UploadSegment, Abort, ListRequest, ObjectRequest, EntryRequest, Information, InformationError, CoeFault, Short, Service, Command, Size, CoeMail, mail, unread, failed, fragment, other}
use Rattle.idle_slaves.specs.of_protocol_models.Tables.{Target, Ask, list, object, entry, Tables}
use Rattle.idle_slaves.specs.of_protocol_models.CoeServer.{Transfer, idle, downloading, uploading, Outcome, issued, stored, begins, takes_first, takes_segment, download_answer, is_expedited, opened, takes_upload_segment, same, informed, unknown_command, takes_unread, coe_takes, coe_outcome}

module _ {S : Type 0} (o : Tables S) (eoe : Bool) (room : ℕ) where
  -- counted, or the tables are these
  abbrev Quiet : S → Outcome S → Type 0
  Quiet app x = (x.counts ≡ true) ⊎ ((issued o x.app x.emission).0 ≡ app)

  stored_quiet : (app : S) (t : Target) (bytes : List ℕ) (a : CoeMail) (r : Result S ℕ) → Quiet app (stored eoe app t bytes a r)
  stored_quiet app t bytes a (Ok changed) = inl refl
  stored_quiet app t bytes a (Err code) = inl refl

  begins_quiet : (app : S) (t : Target) (size : ℕ) (part : List ℕ) (r : Option ℕ) → Quiet app (begins app t size part r)
  begins_quiet app t size part None = inr refl
  begins_quiet app t size part (Some code) = inl refl

  first_quiet : (app : S) (t : Target) (size : ℕ) (part : List ℕ) → Quiet app (takes_first o eoe app t size part)
  first_quiet app t size part =
      either (Quiet app) (size == length part) _ _ (stored_quiet app t part (download_answer t) (o.download app t part)) (begins_quiet app t size part (o.check app t size))

  segment_quiet : (app : S) (transfer : Transfer) (toggle last : Bool) (part : List ℕ) → Quiet app (takes_segment o eoe app transfer toggle last part)
  segment_quiet app idle toggle last part = inl refl
  segment_quiet app (uploading t rest expected) toggle last part = inl refl
  segment_quiet app (downloading t size got expected) toggle last part =
      either (Quiet app) (not (same expected toggle)) _ _ (inl refl)
      (either (Quiet app) (nat_lt size (length (got ++ part))) _ _ (inl refl)
      (either (Quiet app) last _ _
      (either (Quiet app) (nat_lt (length (got ++ part)) size) _ _ (inl refl) (stored_quiet app t (got ++ part) (mail (SegmentAnswer toggle)) (o.download app t (got ++ part)))) (inr refl)))

  opened_quiet : (app : S) (t : Target) (r : Result (List ℕ) ℕ) → Quiet app (opened room app t r)
  opened_quiet app t (Err code) = inl refl
  opened_quiet app t (Ok bytes) = either (Quiet app) (is_expedited bytes) _ _ (inl refl) (either (Quiet app) (nat_le (length bytes) (room - 16)) _ _ (inl refl) (inl refl))

  upload_quiet : (app : S) (transfer : Transfer) (toggle : Bool) → Quiet app (takes_upload_segment room app transfer toggle)
  upload_quiet app idle toggle = inl refl
  upload_quiet app (downloading t size got expected) toggle = inl refl
  upload_quiet app (uploading t rest expected) toggle = either (Quiet app) (not (same expected toggle)) _ _ (inr refl) (either (Quiet app) (nat_le (length rest) (room - 9)) _ _ (inr refl) (inr refl))

  informed_quiet : (app : S) (transfer : Transfer) (a : Ask) (r : Result (List ℕ) ℕ) → Quiet app (informed room app transfer a r)
  informed_quiet app transfer a (Err code) = inl refl
  informed_quiet app transfer a (Ok bytes) = inl refl

  unknown_quiet : (app : S) (transfer : Transfer) (information : Bool) (index sub : ℕ) → Quiet app (unknown_command app transfer information index sub)
  unknown_quiet app transfer true index sub = inl refl
  unknown_quiet app transfer false index sub = inl refl

  unread_quiet : (app : S) (transfer : Transfer) (fault : CoeFault) (service index sub : ℕ) → Quiet app (takes_unread app transfer fault service index sub)
  unread_quiet app transfer Short service index sub = inl refl
  unread_quiet app transfer Service service index sub = inl refl
  unread_quiet app transfer Command service index sub = either (Quiet app) (service == 1 || service == 3) _ _ (inl refl) (unknown_quiet app transfer (service == 8) index sub)
  unread_quiet app transfer Size service index sub = either (Quiet app) (service == 1 || service == 3) _ _ (inl refl) (inl refl)

  takes_quiet : (app : S) (transfer : Transfer) (c : Coe) → Quiet app (coe_takes o eoe room app transfer c)
  takes_quiet app transfer (Expedited index sub all bytes) =
      let t : Target = record { index = index; sub = sub; all = all } in stored_quiet app t bytes.items (download_answer t) (o.download app t bytes.items)
  takes_quiet app transfer (First index sub all size bytes) = first_quiet app (record { index = index; sub = sub; all = all }) size bytes.items
  takes_quiet app transfer (Segment toggle last bytes) = segment_quiet app transfer toggle last bytes.items
  takes_quiet app transfer (Upload index sub all) = let t : Target = record { index = index; sub = sub; all = all } in opened_quiet app t (o.upload app t)
  takes_quiet app transfer (UploadSegment toggle) = upload_quiet app transfer toggle
  takes_quiet app transfer (Abort index sub code) = inr refl
  takes_quiet app transfer (ListRequest kind) = informed_quiet app transfer (list kind) (o.info app (list kind))
  takes_quiet app transfer (ObjectRequest index) = informed_quiet app transfer (object index) (o.info app (object index))
  takes_quiet app transfer (EntryRequest index sub info) = informed_quiet app transfer (entry index sub info) (o.info app (entry index sub info))
  takes_quiet app transfer (Information opcode incomplete left bytes) = inl refl
  takes_quiet app transfer (InformationError code) = inl refl
  takes_quiet app transfer _ = inl refl

  -- whatever comes
  pub coe_quiet : (app : S) (transfer : Transfer) (m : CoeMail) → Quiet app (coe_outcome o eoe room app transfer m)
  coe_quiet app transfer (mail c) = takes_quiet app transfer c
  coe_quiet app transfer (unread fault service index sub) = unread_quiet app transfer fault service index sub
  coe_quiet app transfer (failed detail) = inr refl
  coe_quiet app transfer (fragment body) = inr refl
  coe_quiet app transfer (other body) = inr refl
