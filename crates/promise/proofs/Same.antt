-- The plain meaning is that of the running application.
use Rattle.std.specs.Prelude.{◌≡◌, ℕ, Bool, true, false, if◌then◌else◌, List, length, Option, Some, None, Result, Ok, Err, refl}
use Rattle.std.proofs.Common.{ap, ◌∙◌}
use Rattle.protocol_models.specs.CoeMeaning.{Service as Sdo, download, upload, information}
use Rattle.protocol_models.specs.Tables as Tables
use Rattle.coe_server.specs.ObjectTables.{stores, reads, tells}
use Rattle.file_store.specs.Files.{allowed, has_room}
use Rattle.idn_table.specs.Idns as Idns
use Rattle.idn_table.specs.Idns.{read_at, write_at, target}
use Rattle.object_dictionary.specs.Dictionary as Objects
use Rattle.object_dictionary.specs.declared.service.SdoService.{SdoService}
use Rattle.object_dictionary.specs.declared.service.SdoService.TheVariants.{Download, Upload, DownloadAll, UploadAll, List as ObjectList, ObjectInfo, EntryInfo}
use Rattle.segment_plan.specs.declared.service.Service as Plan
use Rattle.segment_plan.specs.declared.service.Service.TheVariants as Asked
use Rattle.slave_app.specs.Meaning as Run
use Rattle.slave_app.specs.declared.app.App as Slave
use Rattle.promise.specs.Meaning as Plain
use Rattle.promise.specs.Same.{shown, meant_shown}

-- the services of CoE are named alike
same_sdo : (q : SdoService) → Run.sdo_of q ≡ Plain.sdo_of q
same_sdo (Download index sub bytes) = refl
same_sdo (Upload index sub) = refl
same_sdo (DownloadAll index from bytes) = refl
same_sdo (UploadAll index from) = refl
same_sdo (ObjectList kind) = refl
same_sdo (ObjectInfo index) = refl
same_sdo (EntryInfo index sub info) = refl

module _ (a : Slave.App) where
  downloaded : (t : Tables.Target) (bytes : List ℕ) (r : Result Objects.Table ℕ) → meant_shown (Run.downloaded a t bytes r) ≡ Plain.downloaded (shown a) t bytes r
  downloaded t bytes (Ok objects) = refl
  downloaded t bytes (Err code) = refl

  told : (r : Result (List ℕ) ℕ) → meant_shown (Run.told a r) ≡ Plain.told (shown a) r
  told (Ok bytes) = refl
  told (Err code) = refl

  sdo : (q : Sdo) → meant_shown (Run.sdo_meaning a q) ≡ Plain.sdo_meaning (shown a) q
  sdo (download t bytes) = downloaded t bytes (stores a.al a.objects t bytes)
  sdo (upload t) = told (reads a.al a.objects t)
  sdo (information q) = told (tells a.objects q)

  read : (name : List ℕ) (code : Option ℕ) → meant_shown (Run.file_read a name code) ≡ Plain.file_read (shown a) name code
  read name None = refl
  read name (Some code) = refl

  if_room : (x y : Run.Meant) (v w : Plain.Meant) (b : Bool) → meant_shown x ≡ v → meant_shown y ≡ w → meant_shown (if b then x else y) ≡ (if b then v else w)
  if_room x y v w true e f = e
  if_room x y v w false e f = f

  written : (name bytes : List ℕ) (code : Option ℕ) → meant_shown (Run.file_written a name bytes code) ≡ Plain.file_written (shown a) name bytes code
  written name bytes None = if_room _ _ _ _ (has_room a.files.kept (length bytes)) refl refl
  written name bytes (Some code) = refl

  element_read : (r : Result (List ℕ) ℕ) → meant_shown (Run.element_read a r) ≡ Plain.element_read (shown a) r
  element_read (Ok bytes) = refl
  element_read (Err code) = refl

  element_written : (r : Result Idns.Table ℕ) → meant_shown (Run.element_written a r) ≡ Plain.element_written (shown a) r
  element_written (Ok idns) = refl
  element_written (Err code) = refl

  state : (to : ℕ) (code : Option ℕ) → meant_shown (Run.state_meaning a to code) ≡ Plain.state_meaning (shown a) to code
  state to None = refl
  state to (Some code) = refl

  carried : (s : Plan.Service) → meant_shown (Run.carried_out a s) ≡ Plain.carried_out (shown a) s
  carried (Asked.Sdo q) = sdo (Run.sdo_of q) ∙ ap (λ x. Plain.sdo_meaning (shown a) x) (same_sdo q)
  carried (Asked.ReadFile name pass) = read name.items (allowed a.files.kept name.items pass false a.al)
  carried (Asked.WriteFile name pass bytes) = written name.items bytes (allowed a.files.kept name.items pass true a.al)
  carried (Asked.ReadIdn drive idn elements) = element_read (read_at a.idns (target drive idn elements))
  carried (Asked.WriteIdn drive idn elements bytes) = element_written (write_at a.idns (target drive idn elements) bytes)
  carried (Asked.SetIp block) = if_room _ _ _ _ a.fixed_ip refl refl
  carried Asked.GetIp = refl
  carried (Asked.Forward p) = refl
  carried (Asked.State to) = state to (Run.state_refusal a to)

  counted : (h : ℕ) (b : Bool) (m : Run.Meant) → meant_shown (Run.counted h b m) ≡ Plain.counted h b (meant_shown m)
  counted h true m = refl
  counted h false m = refl

  refused : (s : Plan.Service) → Run.refusal_of s ≡ Plain.refusal_of s
  refused (Asked.Sdo q) = refl
  refused (Asked.ReadFile name pass) = refl
  refused (Asked.WriteFile name pass bytes) = refl
  refused (Asked.ReadIdn drive idn elements) = refl
  refused (Asked.WriteIdn drive idn elements bytes) = refl
  refused (Asked.SetIp block) = refl
  refused Asked.GetIp = refl
  refused (Asked.Forward p) = refl
  refused (Asked.State to) = refl

  counts : (s : Plan.Service) → Run.counts s ≡ Plain.counts s
  counts (Asked.Sdo q) = refl
  counts (Asked.ReadFile name pass) = refl
  counts (Asked.WriteFile name pass bytes) = refl
  counts (Asked.ReadIdn drive idn elements) = refl
  counts (Asked.WriteIdn drive idn elements bytes) = refl
  counts (Asked.SetIp block) = refl
  counts Asked.GetIp = refl
  counts (Asked.Forward p) = refl
  counts (Asked.State to) = refl

  carries : (s : Plan.Service) → Run.carries_out a (Run.protocol_of s) ≡ Plain.carries_out (shown a) (Plain.protocol_of s)
  carries (Asked.Sdo q) = refl
  carries (Asked.ReadFile name pass) = refl
  carries (Asked.WriteFile name pass bytes) = refl
  carries (Asked.ReadIdn drive idn elements) = refl
  carries (Asked.WriteIdn drive idn elements bytes) = refl
  carries (Asked.SetIp block) = refl
  carries Asked.GetIp = refl
  carries (Asked.Forward p) = refl
  carries (Asked.State to) = refl

  answered : (s : Plan.Service) → meant_shown (Run.answered a s) ≡ Plain.answered (shown a) s
  answered s =
      if_room (Run.carried_out a s) (Run.replied a (Run.refusal_of s)) (Plain.carried_out (shown a) s) (Plain.replied (shown a) (Plain.refusal_of s)) (Run.carries_out a (Run.protocol_of s)) (carried s) (ap (λ k. Plain.replied (shown a) k) (refused s))
      ∙ ap (λ b. if b then Plain.carried_out (shown a) s else Plain.replied (shown a) (Plain.refusal_of s)) (carries s)

  -- THE PLAIN MEANING of a service at an application as it runs is that of the reading set
  pub same_meaning : (s : Plan.Service) → meant_shown (Run.meaning_of a s) ≡ Plain.meaning_of (shown a) s
  same_meaning s =
      counted a.handled (Run.counts s) (Run.answered a s)
      ∙ ap (λ b. Plain.counted a.handled b (meant_shown (Run.answered a s))) (counts s)
      ∙ ap (λ m. Plain.counted a.handled (Plain.counts s) m) (answered s)
