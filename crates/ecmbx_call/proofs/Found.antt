-- What a file that is found comes to.
use Rattle.std.proofs.Common.{◌≡◌, ℕ, ◌⊎◌, List, length, Option, Some, None, Ok, Err, sym, subst, ap, ◌∙◌, inl, inr, arith}
use Rattle.gateway_stream.specs.of_ec_outside.Files.{Table, file_of}
use Rattle.run_report.specs.of_pcap_frames.declared.capture.Capture.{Capture}
use Rattle.run_report.specs.of_pcap_frames.declared.capture.PcapFault.{PcapFault}
use Rattle.run_report.specs.of_pcap_frames.Reading.{capture_read}
use Rattle.capture_audit.specs.of_capture_view.View.{view_text}
use Rattle.tool_call.specs.of_segment_plan.declared.plan.Scenario.{Scenario}
use Rattle.tool_call.specs.of_scenario_keys.declared.refusal.Refusal.{Refusal}
use Rattle.promised_run.specs.of_scenario.Document.{plan_of}
use Rattle.run_report.specs.of_run_book.declared.book.Book.{Book}
use Rattle.run_report.specs.Report.{report_lines}
use Rattle.run_report.specs.Saved.{capture_of}
use Rattle.tool_call.specs.of_ecmbx_words.declared.form.Form.TheVariants as forms
use Rattle.tool_call.specs.of_ecmbx_words.declared.status.Status.{Status}
use Rattle.tool_call.specs.of_ecmbx_words.declared.status.Status.TheVariants as statuses
use Rattle.tool_call.specs.of_ecmbx_words.Form.{form_in, name_in, saved_in}
use Rattle.tool_call.specs.of_ecmbx_words.Ends.{text_of}
use Rattle.capture_audit.specs.declared.verdict.Verdict.TheVariants.{Yes, No}
use Rattle.capture_audit.specs.Audit.{verdict_of}
use Rattle.ecmbx_call.specs.Audits.{verdict_text, verdict_status}
use Rattle.tool_call.specs.of_ecmbx_words.Files.{Holds, IsLong}
use Rattle.ecmbx_call.specs.Files.{limit, IsSaved}
use Rattle.ecmbx_call.specs.Course.{HasRun, status_of}
use Rattle.promised_run.specs.of_gateway_run.Serving.{Told as PortTold}
use Rattle.ecmbx_call.specs.Serving.{HasServed}
use Rattle.ecmbx_call.specs.Causes.{loaded_in, IsRefused, IsFound}
use Rattle.ecmbx_call.proofs.Told.{Told, held, held_long, no_file, no_made}

-- what a file that is found comes to
pub data Found (words : List (List ℕ)) (table saved : Option Table) (first last : PortTold) (book : Book) (octets : List ℕ) (planned : Status) (text : List ℕ) : Type 0 where
  fault : planned ≡ statuses.FileFault → Found words table saved first last book octets planned text
  refused : IsRefused (form_in words) octets → planned ≡ statuses.Refused → Found words table saved first last book octets planned text
  shown : (capture : Capture) → form_in words ≡ forms.Decode → capture_read octets ≡ Ok capture → planned ≡ statuses.Done → text ≡ view_text octets capture → Found words table saved first last book octets planned text
  audited : (capture : Capture) → form_in words ≡ forms.Audit → capture_read octets ≡ Ok capture → planned ≡ verdict_status (verdict_of octets capture) → text ≡ verdict_text (verdict_of octets capture) → Found words table saved first last book octets planned text
  ran : (plan : Scenario) → form_in words ≡ forms.Run → plan_of octets ≡ Ok plan → HasRun plan book → planned ≡ status_of book.ending → text ≡ text_of (report_lines plan book) → Found words table saved first last book octets planned text
  kept : (plan : Scenario) → form_in words ≡ forms.RunSaved → plan_of octets ≡ Ok plan → HasRun plan book → IsSaved table saved (saved_in words) (capture_of book.frames) → planned ≡ status_of book.ending → text ≡ text_of (report_lines plan book) → Found words table saved first last book octets planned text
  served : (plan : Scenario) (count : ℕ) → form_in words ≡ forms.Serve count → plan_of octets ≡ Ok plan → HasServed plan count first last book → planned ≡ status_of book.ending → text ≡ text_of (report_lines plan book) → Found words table saved first last book octets planned text

module _ (words : List (List ℕ)) (table saved : Option Table) (faulted : Type 0) (first last : PortTold) (book : Book) (planned : Status) (text : List ℕ) (octets : List ℕ) where
  -- the octets under the words' file are those that were found
  pub same_octets : IsFound words table octets → (name others : List ℕ) → loaded_in words ≡ Some name → Holds table name (Some others) → others ≡ octets
  same_octets found name others said holds =
      let same : name ≡ found.name = cc in
      let there : file_of found.name found.files ≡ Some others = rw (← same) (held name (Some others) found.files table found.told holds) in
      cc

  pub not_absent : IsFound words table octets → (name : List ℕ) → loaded_in words ≡ Some name → Holds table name None → ⊥
  not_absent found name said holds =
      let same : name ≡ found.name = cc in
      let none : file_of found.name found.files ≡ None = rw (← same) (held name None found.files table found.told holds) in
      absurd cc

  pub not_long : IsFound words table octets → (name : List ℕ) → loaded_in words ≡ Some name → IsLong limit table name → ⊥
  not_long found name said is =
      let same : name ≡ found.name = cc in
      let big = held_long name found.files table found.told is in
      let there : file_of found.name found.files ≡ Some big.0 = rw (← same) big.1 in
      let equal : big.0 ≡ octets = cc in
      absurd (omega (arith, ap length equal, big.2, found.fits))

  pub found_told : IsFound words table octets → Told words table saved faulted first last book planned text → Found words table saved first last book octets planned text
  found_told found (Told.usage f fresh is) = absurd (no_file (form_in words) (name_in words) found.name f found.said)
  found_told found (Told.fault name said rose is) = Found.fault is
  found_told found (Told.absent name said holds fresh is) = absurd (not_absent found name said holds)
  found_told found (Told.long name said big fresh is) = absurd (not_long found name said big)
  found_told found (Told.refused name others said holds fits refusal fresh is) = Found.refused (subst (λ o. IsRefused (form_in words) o) (same_octets found name others said holds) refusal) is
  found_told found (Told.made seed size f fresh is text) = absurd (no_made (form_in words) (name_in words) found.name seed size f found.said)
  found_told found (Told.shown name others capture f said holds fits read fresh is text) =
      let same = same_octets found name others said holds in
      Found.shown capture f (rw (← same) read) is (text ∙ ap (λ o. view_text o capture) same)
  found_told found (Told.passed name others capture stations f said holds fits read verdict fresh is text) =
      let same = same_octets found name others said holds in
      let v : verdict_of octets capture ≡ Yes stations = ap (λ o. verdict_of o capture) (sym same) ∙ verdict in
      Found.audited capture f (rw (← same) read) (is ∙ ap verdict_status (sym v)) (text ∙ ap verdict_text (sym v))
  found_told found (Told.failed name others capture rule packet f said holds fits read verdict fresh is text) =
      let same = same_octets found name others said holds in
      let v : verdict_of octets capture ≡ No rule packet = ap (λ o. verdict_of o capture) (sym same) ∙ verdict in
      Found.audited capture f (rw (← same) read) (is ∙ ap verdict_status (sym v)) (text ∙ ap verdict_text (sym v))
  found_told found (Told.ran name others plan f said holds fits read run is text) = Found.ran plan f (rw (← same_octets found name others said holds) read) run is text
  found_told found (Told.kept name others plan f said holds fits read run file is text) = Found.kept plan f (rw (← same_octets found name others said holds) read) run file is text
  found_told found (Told.served name others plan count f said holds fits read run is text) = Found.served plan count f (rw (← same_octets found name others said holds) read) run is text

  pub found_refused : IsRefused (form_in words) octets → Found words table saved first last book octets planned text → (planned ≡ statuses.Refused) ⊎ (planned ≡ statuses.FileFault)
  found_refused refusal (Found.fault is) = inr is
  found_refused refusal (Found.refused other is) = inl is
  found_refused refusal (Found.shown capture f read is text) = let r : (fault : PcapFault) × (capture_read octets ≡ Err fault) = rw f at refusal in absurd cc
  found_refused refusal (Found.audited capture f read is text) = let r : (fault : PcapFault) × (capture_read octets ≡ Err fault) = rw f at refusal in absurd cc
  found_refused refusal (Found.ran plan f read run is text) = let r : (e : Refusal) × (plan_of octets ≡ Err e) = rw f at refusal in absurd cc
  found_refused refusal (Found.kept plan f read run file is text) = let r : (e : Refusal) × (plan_of octets ≡ Err e) = rw f at refusal in absurd cc
  found_refused refusal (Found.served plan count f read run is text) = let r : (e : Refusal) × (plan_of octets ≡ Err e) = rw f at refusal in absurd cc

  pub found_ran : (plan : Scenario) → form_in words ≡ forms.Run → plan_of octets ≡ Ok plan → Found words table saved first last book octets planned text → (planned ≡ statuses.FileFault) ⊎ (HasRun plan book × (planned ≡ status_of book.ending) × (text ≡ text_of (report_lines plan book)))
  found_ran plan f is (Found.fault e) = inl e
  found_ran plan f is (Found.refused refusal e) = let r : (e : Refusal) × (plan_of octets ≡ Err e) = rw f at refusal in absurd cc
  found_ran plan f is (Found.shown capture g read e text) = absurd cc
  found_ran plan f is (Found.audited capture g read e text) = absurd cc
  found_ran plan f is (Found.ran other g read run e text) =
      let same : other ≡ plan = cc in
      inr (subst (λ p. HasRun p book) same run, e, text ∙ ap (λ p. text_of (report_lines p book)) same)
  found_ran plan f is (Found.kept other g read run file e text) = absurd cc
  found_ran plan f is (Found.served other count g read run e text) = absurd cc

  pub found_kept : (plan : Scenario) → form_in words ≡ forms.RunSaved → plan_of octets ≡ Ok plan → Found words table saved first last book octets planned text
      → (planned ≡ statuses.FileFault) ⊎ (HasRun plan book × IsSaved table saved (saved_in words) (capture_of book.frames) × (planned ≡ status_of book.ending) × (text ≡ text_of (report_lines plan book)))
  found_kept plan f is (Found.fault e) = inl e
  found_kept plan f is (Found.refused refusal e) = let r : (e : Refusal) × (plan_of octets ≡ Err e) = rw f at refusal in absurd cc
  found_kept plan f is (Found.shown capture g read e text) = absurd cc
  found_kept plan f is (Found.audited capture g read e text) = absurd cc
  found_kept plan f is (Found.ran other g read run e text) = absurd cc
  found_kept plan f is (Found.kept other g read run file e text) =
      let same : other ≡ plan = cc in
      inr (subst (λ p. HasRun p book) same run, file, e, text ∙ ap (λ p. text_of (report_lines p book)) same)
  found_kept plan f is (Found.served other count g read run e text) = absurd cc

  pub found_served : (plan : Scenario) (count : ℕ) → form_in words ≡ forms.Serve count → plan_of octets ≡ Ok plan → Found words table saved first last book octets planned text
      → (planned ≡ statuses.FileFault) ⊎ (HasServed plan count first last book × (planned ≡ status_of book.ending) × (text ≡ text_of (report_lines plan book)))
  found_served plan count f is (Found.fault e) = inl e
  found_served plan count f is (Found.refused refusal e) = let r : (e : Refusal) × (plan_of octets ≡ Err e) = rw f at refusal in absurd cc
  found_served plan count f is (Found.shown capture g read e text) = absurd cc
  found_served plan count f is (Found.audited capture g read e text) = absurd cc
  found_served plan count f is (Found.ran other g read run e text) = absurd cc
  found_served plan count f is (Found.kept other g read run file e text) = absurd cc
  found_served plan count f is (Found.served other many g read run e text) =
      let same : other ≡ plan = cc in
      let so : many ≡ count = cc in
      inr (subst (λ p. HasServed p count first last book) same (subst (λ n. HasServed other n first last book) so run), e, text ∙ ap (λ p. text_of (report_lines p book)) same)

  pub found_shown : (capture : Capture) → form_in words ≡ forms.Decode → capture_read octets ≡ Ok capture → Found words table saved first last book octets planned text → (planned ≡ statuses.FileFault) ⊎ ((planned ≡ statuses.Done) × (text ≡ view_text octets capture))
  found_shown capture f is (Found.fault e) = inl e
  found_shown capture f is (Found.refused refusal e) = let r : (fault : PcapFault) × (capture_read octets ≡ Err fault) = rw f at refusal in absurd cc
  found_shown capture f is (Found.shown other g read e text) = let same : other ≡ capture = cc in inr (e, text ∙ ap (λ c. view_text octets c) same)
  found_shown capture f is (Found.audited other g read e text) = absurd cc
  found_shown capture f is (Found.ran other g read run e text) = absurd cc
  found_shown capture f is (Found.kept other g read run file e text) = absurd cc
  found_shown capture f is (Found.served other count g read run e text) = absurd cc

  pub found_audited : (capture : Capture) → form_in words ≡ forms.Audit → capture_read octets ≡ Ok capture → Found words table saved first last book octets planned text → (planned ≡ statuses.FileFault) ⊎ ((planned ≡ verdict_status (verdict_of octets capture)) × (text ≡ verdict_text (verdict_of octets capture)))
  found_audited capture f is (Found.fault e) = inl e
  found_audited capture f is (Found.refused refusal e) = let r : (fault : PcapFault) × (capture_read octets ≡ Err fault) = rw f at refusal in absurd cc
  found_audited capture f is (Found.shown other g read e text) = absurd cc
  found_audited capture f is (Found.audited other g read e text) =
      let same : other ≡ capture = cc in
      inr (e ∙ ap (λ c. verdict_status (verdict_of octets c)) same, text ∙ ap (λ c. verdict_text (verdict_of octets c)) same)
  found_audited capture f is (Found.ran other g read run e text) = absurd cc
  found_audited capture f is (Found.kept other g read run file e text) = absurd cc
  found_audited capture f is (Found.served other count g read run e text) = absurd cc
