-- What the course of a call says of each status.
use Rattle.std.proofs.Common.{◌≡◌, ◌≢◌, ℕ, ◌<◌, ◌≤◌, ◌⊎◌, List, length, Option, Some, None, true, refl, sym, subst, ap, ◌∙◌, inl, inr, arith}
use Rattle.gateway_stream.specs.of_ec_outside.Files.{Table, file_of}
use Rattle.gateway_stream.specs.of_ec_outside.Sink.{Wrote}
use Rattle.tool_call.specs.of_segment_plan.declared.plan.Scenario.{Scenario}
use Rattle.run_report.specs.of_run_book.declared.book.Book.{Book}
use Rattle.run_report.specs.of_run_book.declared.book.Ending.{Ending}
use Rattle.run_report.specs.of_run_book.declared.book.Ending.TheVariants as endings
use Rattle.tool_call.specs.of_ecmbx_words.declared.form.Form.TheVariants as forms
use Rattle.tool_call.specs.of_ecmbx_words.declared.status.Status.{Status}
use Rattle.tool_call.specs.of_ecmbx_words.declared.status.Status.TheVariants as statuses
use Rattle.tool_call.specs.of_ecmbx_words.Form.{form_in, name_in}
use Rattle.tool_call.specs.of_ecmbx_words.Ends.{Ended}
use Rattle.ecmbx_call.specs.Audits.{verdict_status}
use Rattle.tool_call.specs.of_ecmbx_words.Files.{Holds, IsLong, Followed}
use Rattle.ecmbx_call.specs.Files.{limit}
use Rattle.ecmbx_call.specs.Course.{Course, status_of}
use Rattle.promised_run.specs.of_gateway_run.Serving.{Told as PortTold}
use Rattle.ecmbx_call.specs.Causes.{loaded_in, IsFound, UsageCause, AbsentCause, LongCause, RefusedCause, CameOf, GivenUpCause, HasDone, DoneCause, IsUnlessFault, SpentCause, PortCause, IsBroken, BrokenCause, EndingAt, RunsTo, SavesTo, ServesTo, ShowsTo, AuditsTo, MakesTo}
use Rattle.ecmbx_call.proofs.Told.{Told, told, planned_is, settle_one, settle_two, held, held_long, no_file, no_made, told_usage, told_other, told_absent, told_long, told_refused, told_fault, told_broken, told_ran, told_done, told_ended, is_run}
use Rattle.ecmbx_call.proofs.Found.{found_told, found_refused, found_ran, found_kept, found_served, found_shown, found_audited}
use Rattle.ecmbx_call.proofs.Ended.{IsPlanned, came_ended, done_planned, ended_cut, ended_done, ended_given, given_planned, settle_fault, spent_planned}
use Rattle.ecmbx_call.proofs.Endings.{done_ending, given_ending, spent_ending, told_ending, told_port, told_made}

-- ---- the clauses

module _ (words : List (List ℕ)) (table saved : Option Table) (faulted : Type 0) (first last : PortTold) (book : Book) (old new : Option (List ℕ)) (status : Status) where
  seen : (planned : Status) (text : List ℕ) → Course words table saved faulted first last book planned text → Told words table saved faulted first last book planned text
  seen planned text c = told words table saved faulted first last book planned text c

  pub usage_cause : Followed (Course words table saved faulted first last book) old new status → UsageCause words status
  usage_cause (inl memory) = (λ is. absurd cc, λ none. inr (inr (inl memory)))
  usage_cause (inr (planned, text, c, ended)) = (
    λ is. told_usage words table saved faulted first last book planned text (seen planned text c) (planned_is statuses.Usage planned text old new status (λ sink. cc) ended is),
    λ none. settle_one statuses.Usage planned text old new status (told_other words table saved faulted first last book planned text (seen planned text c) none) ended,
  )

  -- what is told under a name
  told_file : (name other octets : List ℕ) (files : Table) → loaded_in words ≡ Some name → loaded_in words ≡ Some other → table ≡ Some files → Holds table other (Some octets) → file_of name files ≡ Some octets
  told_file name other octets files said also there h =
      let same : other ≡ name = cc in
      rw (← same) (held other (Some octets) files table there h)

  told_none : (name other : List ℕ) (files : Table) → loaded_in words ≡ Some name → loaded_in words ≡ Some other → table ≡ Some files → Holds table other None → file_of name files ≡ None
  told_none name other files said also there h =
      let same : other ≡ name = cc in
      rw (← same) (held other None files table there h)

  told_much : (name other : List ℕ) (files : Table) → loaded_in words ≡ Some name → loaded_in words ≡ Some other → table ≡ Some files → IsLong limit table other → (octets : List ℕ) × (file_of name files ≡ Some octets) × (limit < length octets)
  told_much name other files said also there h =
      let same : other ≡ name = cc in
      rw (← same) (held_long other files table there h)

  absent_told : (name : List ℕ) (files : Table) → loaded_in words ≡ Some name → table ≡ Some files → file_of name files ≡ None → (planned : Status) (text : List ℕ) → Told words table saved faulted first last book planned text → (planned ≡ statuses.Absent) ⊎ (planned ≡ statuses.FileFault)
  absent_told name files said there none planned text (Told.usage f fresh is) = absurd (no_file (form_in words) (name_in words) name f said)
  absent_told name files said there none planned text (Told.fault other also rose is) = inr is
  absent_told name files said there none planned text (Told.absent other also holds fresh is) = inl is
  absent_told name files said there none planned text (Told.long other also big fresh is) = let much = (told_much name other files said also there big).1 in absurd cc
  absent_told name files said there none planned text (Told.refused other octets also holds fits refusal fresh is) = let file = told_file name other octets files said also there holds in absurd cc
  absent_told name files said there none planned text (Told.made seed size m fresh is t) = absurd (no_made (form_in words) (name_in words) name seed size m said)
  absent_told name files said there none planned text (Told.shown other octets capture f also holds fits read fresh is t) = let file = told_file name other octets files said also there holds in absurd cc
  absent_told name files said there none planned text (Told.passed other octets capture stations f also holds fits read verdict fresh is t) = let file = told_file name other octets files said also there holds in absurd cc
  absent_told name files said there none planned text (Told.failed other octets capture rule packet f also holds fits read verdict fresh is t) = let file = told_file name other octets files said also there holds in absurd cc
  absent_told name files said there none planned text (Told.ran other octets run f also holds fits read did is t) = let file = told_file name other octets files said also there holds in absurd cc
  absent_told name files said there none planned text (Told.kept other octets run f also holds fits read did stored is t) = let file = told_file name other octets files said also there holds in absurd cc
  absent_told name files said there none planned text (Told.served other octets plan count f also holds fits read did is t) = let file = told_file name other octets files said also there holds in absurd cc

  pub absent_cause : Followed (Course words table saved faulted first last book) old new status → AbsentCause words table status
  absent_cause (inl memory) = (λ is. absurd cc, λ name files said there none. inr (inr (inr (inl memory))))
  absent_cause (inr (planned, text, c, ended)) = (
    λ is. told_absent words table saved faulted first last book planned text (seen planned text c) (planned_is statuses.Absent planned text old new status (λ sink. cc) ended is),
    λ name files said there none. settle_two statuses.Absent statuses.FileFault planned text old new status (absent_told name files said there none planned text (seen planned text c)) ended,
  )

  too_long : (name other octets short : List ℕ) (files : Table) → loaded_in words ≡ Some name → loaded_in words ≡ Some other → table ≡ Some files → file_of name files ≡ Some octets → limit < length octets → Holds table other (Some short) → length short ≤ limit → ⊥
  too_long name other octets short files said also there is past holds fits =
      let file = told_file name other short files said also there holds in
      let same : short ≡ octets = cc in
      omega (arith, ap length same, past, fits)

  long_told : (name octets : List ℕ) (files : Table) → loaded_in words ≡ Some name → table ≡ Some files → file_of name files ≡ Some octets → limit < length octets → (planned : Status) (text : List ℕ) → Told words table saved faulted first last book planned text → (planned ≡ statuses.TooLong) ⊎ (planned ≡ statuses.FileFault)
  long_told name octets files said there is past planned text (Told.usage f fresh e) = absurd (no_file (form_in words) (name_in words) name f said)
  long_told name octets files said there is past planned text (Told.fault other also rose e) = inr e
  long_told name octets files said there is past planned text (Told.absent other also holds fresh e) = let none = told_none name other files said also there holds in absurd cc
  long_told name octets files said there is past planned text (Told.long other also big fresh e) = inl e
  long_told name octets files said there is past planned text (Told.refused other short also holds fits refusal fresh e) = absurd (too_long name other octets short files said also there is past holds fits)
  long_told name octets files said there is past planned text (Told.made seed size m fresh e t) = absurd (no_made (form_in words) (name_in words) name seed size m said)
  long_told name octets files said there is past planned text (Told.shown other short capture f also holds fits read fresh e t) = absurd (too_long name other octets short files said also there is past holds fits)
  long_told name octets files said there is past planned text (Told.passed other short capture stations f also holds fits read verdict fresh e t) = absurd (too_long name other octets short files said also there is past holds fits)
  long_told name octets files said there is past planned text (Told.failed other short capture rule packet f also holds fits read verdict fresh e t) = absurd (too_long name other octets short files said also there is past holds fits)
  long_told name octets files said there is past planned text (Told.ran other short run f also holds fits read did e t) = absurd (too_long name other octets short files said also there is past holds fits)
  long_told name octets files said there is past planned text (Told.kept other short run f also holds fits read did stored e t) = absurd (too_long name other octets short files said also there is past holds fits)
  long_told name octets files said there is past planned text (Told.served other short plan count f also holds fits read did e t) = absurd (too_long name other octets short files said also there is past holds fits)

  pub long_cause : Followed (Course words table saved faulted first last book) old new status → LongCause words table status
  long_cause (inl memory) = (λ is. absurd cc, λ name octets files said there holds past. inr (inr (inr (inl memory))))
  long_cause (inr (planned, text, c, ended)) = (
    λ is. told_long words table saved faulted first last book planned text (seen planned text c) (planned_is statuses.TooLong planned text old new status (λ sink. cc) ended is),
    λ name octets files said there holds past. settle_two statuses.TooLong statuses.FileFault planned text old new status (long_told name octets files said there holds past planned text (seen planned text c)) ended,
  )

  pub refused_cause : Followed (Course words table saved faulted first last book) old new status → RefusedCause words table status
  refused_cause (inl memory) = (λ is. absurd cc, λ octets found refusal. inr (inr (inr (inl memory))))
  refused_cause (inr (planned, text, c, ended)) = (
    λ is. told_refused words table saved faulted first last book planned text (seen planned text c) (planned_is statuses.Refused planned text old new status (λ sink. cc) ended is),
    λ octets found refusal. settle_two statuses.Refused statuses.FileFault planned text old new status
        (found_refused words table saved faulted first last book planned text octets refusal (found_told words table saved faulted first last book planned text octets found (seen planned text c))) ended,
  )

  pub file_fault_cause : Followed (Course words table saved faulted first last book) old new status → status ≡ statuses.FileFault → faulted
  file_fault_cause (inl memory) is = absurd cc
  file_fault_cause (inr (planned, text, c, ended)) is = told_fault words table saved faulted first last book planned text (seen planned text c) (planned_is statuses.FileFault planned text old new status (λ sink. cc) ended is)

  -- what a status says of how a run or serving ended, and the other way
  came_told : (planned : Status) (text : List ℕ) → (wanted : Status) (e : Ending) → wanted ≡ status_of e → is_run (status_of e) ≡ true → Course words table saved faulted first last book planned text → Ended planned text old new status → (wanted ≡ statuses.SinkFault → ⊥) → status ≡ wanted →
      (plan : Scenario) × (grams : ℕ) × CameOf words table first last plan book grams × (status_of book.ending ≡ wanted)
  came_told planned text wanted e one own c ended sink is =
      let mine = planned_is wanted planned text old new status sink ended is in
      let did = told_ran words table saved faulted first last book planned text (seen planned text c) e (mine ∙ one) own in
      (did.0, did.1, did.2, sym did.3 ∙ mine)

  -- a planned status where one ended
  ended_told : (planned : Status) (text : List ℕ) (one : Status) → Course words table saved faulted first last book planned text → Ended planned text old new status → book.ending ≢ endings.Unfinished → (planned ≡ status_of book.ending → IsPlanned one planned) → IsUnlessFault one status
  ended_told planned text one c ended run by =
      settle_fault one planned text old new status
      (elim (told_ended words table saved faulted first last book planned text (seen planned text c) run) [
        | inl is ↦ by is
        | inr fault ↦ inr (inl fault)
      ])
      ended

  without : (one : Status) → status ≡ statuses.NoMemory → IsUnlessFault one status
  without one memory = inr (inr (inr (inr (inl memory))))

  pub given_up_cause : Followed (Course words table saved faulted first last book) old new status → GivenUpCause words table first last book status
  given_up_cause (inl memory) = (λ is. absurd cc, λ plan grams came rests gave. without statuses.GivenUp memory)
  given_up_cause (inr (planned, text, c, ended)) = (
    λ is.
        let did = came_told planned text statuses.GivenUp endings.GivenUp refl refl c ended (λ sink. cc) is in
        ended_given words table first last did.0 book did.1 did.2 (given_ending book.ending did.3),
    λ plan grams came rests gave.
        ended_told planned text statuses.GivenUp c ended (came_ended words table first last plan book grams came) (λ one. given_planned words table first last plan book grams came rests gave planned one),
  )

  pub spent_cause : Followed (Course words table saved faulted first last book) old new status → SpentCause words table first last book status
  spent_cause (inl memory) = (λ is. absurd cc, λ plan grams came left. without statuses.BudgetSpent memory)
  spent_cause (inr (planned, text, c, ended)) = (
    λ is.
        let did = came_told planned text statuses.BudgetSpent endings.BudgetSpent refl refl c ended (λ sink. cc) is in
        ended_cut words table first last did.0 book did.1 did.2 (spent_ending book.ending did.3),
    λ plan grams came left.
        ended_told planned text statuses.BudgetSpent c ended (came_ended words table first last plan book grams came) (λ one. spent_planned words table first last plan book grams came left planned one),
  )

  has_done : (planned : Status) (text : List ℕ) → Course words table saved faulted first last book planned text → planned ≡ statuses.Done → HasDone words table first last book
  has_done planned text c mine =
      elim (told_done words table saved faulted first last book planned text (seen planned text c) mine) [
        | inl done ↦ done
        | inr did ↦ HasDone.over (ended_done words table first last did.0 book did.1 did.2 (done_ending book.ending (sym did.3 ∙ mine)))
      ]

  pub done_cause : Followed (Course words table saved faulted first last book) old new status → DoneCause words table first last book status
  done_cause (inl memory) = (λ is. absurd cc, λ plan grams came rests gave. without statuses.Done memory)
  done_cause (inr (planned, text, c, ended)) = (
    λ is. has_done planned text c (planned_is statuses.Done planned text old new status (λ sink. cc) ended is),
    λ plan grams came rests gave.
        ended_told planned text statuses.Done c ended (came_ended words table first last plan book grams came) (λ one. done_planned words table first last plan book grams came rests gave planned one),
  )

  pub ending_is : Followed (Course words table saved faulted first last book) old new status → EndingAt status book.ending
  ending_is (inl memory) = subst (λ s. EndingAt s book.ending) (sym memory) tt
  ending_is (inr (planned, text, c, inl e)) = subst (λ s. EndingAt s book.ending) (sym e.0) (told_ending words table saved faulted first last book planned text (seen planned text c))
  ending_is (inr (planned, text, c, inr e)) = subst (λ s. EndingAt s book.ending) (sym e.0) tt

  pub port_cause : Followed (Course words table saved faulted first last book) old new status → PortCause words first last status
  port_cause (inl memory) is = absurd cc
  port_cause (inr (planned, text, c, ended)) is = told_port words table saved faulted first last book planned text (seen planned text c) (planned_is statuses.PortFault planned text old new status (λ sink. cc) ended is)

  pub runs_to : Followed (Course words table saved faulted first last book) old new status → (faulted → ⊥) → (plan : Scenario) → RunsTo words table plan book old new status
  runs_to (inl memory) calm plan octets f found is = inl memory
  runs_to (inr (planned, text, c, ended)) calm plan octets f found is =
      elim (found_ran words table saved faulted first last book planned text octets plan f is (found_told words table saved faulted first last book planned text octets found (seen planned text c))) [
        | inl cause ↦ absurd (calm (told_fault words table saved faulted first last book planned text (seen planned text c) cause))
        | inr did ↦ inr (did.0, rw (← did.1, ← did.2) ended)
      ]

  pub serves_to : Followed (Course words table saved faulted first last book) old new status → (faulted → ⊥) → (plan : Scenario) → ServesTo words table first last plan book old new status
  serves_to (inl memory) calm plan octets count f found is = inl memory
  serves_to (inr (planned, text, c, ended)) calm plan octets count f found is =
      elim (found_served words table saved faulted first last book planned text octets plan count f is (found_told words table saved faulted first last book planned text octets found (seen planned text c))) [
        | inl cause ↦ absurd (calm (told_fault words table saved faulted first last book planned text (seen planned text c) cause))
        | inr did ↦ inr (did.0, rw (← did.1, ← did.2) ended)
      ]

  pub saves_to : Followed (Course words table saved faulted first last book) old new status → (faulted → ⊥) → (plan : Scenario) → SavesTo words table saved plan book old new status
  saves_to (inl memory) calm plan octets f found is = inl memory
  saves_to (inr (planned, text, c, ended)) calm plan octets f found is =
      elim (found_kept words table saved faulted first last book planned text octets plan f is (found_told words table saved faulted first last book planned text octets found (seen planned text c))) [
        | inl cause ↦ absurd (calm (told_fault words table saved faulted first last book planned text (seen planned text c) cause))
        | inr did ↦ inr (did.0, did.1, rw (← did.2, ← did.3) ended)
      ]

  whole : (rose : Type 0) → (status ≡ statuses.SinkFault → rose) → (rose → ⊥) → (planned : Status) (text : List ℕ) → Ended planned text old new status → (status ≡ planned) × Wrote old new text
  whole rose cause quiet planned text (inl e) = e
  whole rose cause quiet planned text (inr e) = absurd (quiet (cause e.0))

  pub shows_to : (rose : Type 0) → (status ≡ statuses.SinkFault → rose) → (rose → ⊥) → (faulted → ⊥) → Followed (Course words table saved faulted first last book) old new status → ShowsTo words table old new status
  shows_to rose rises quiet calm (inl memory) octets capture f found is = inl memory
  shows_to rose rises quiet calm (inr (planned, text, c, ended)) octets capture f found is =
      let all = whole rose rises quiet planned text ended in
      elim (found_shown words table saved faulted first last book planned text octets capture f is (found_told words table saved faulted first last book planned text octets found (seen planned text c))) [
        | inl cause ↦ absurd (calm (told_fault words table saved faulted first last book planned text (seen planned text c) cause))
        | inr view ↦ inr (all.0 ∙ view.0, rw (← view.1) all.1)
      ]

  pub audits_to : (rose : Type 0) → (status ≡ statuses.SinkFault → rose) → (rose → ⊥) → (faulted → ⊥) → Followed (Course words table saved faulted first last book) old new status → AuditsTo words table old new status
  audits_to rose rises quiet calm (inl memory) octets capture f found is = inl memory
  audits_to rose rises quiet calm (inr (planned, text, c, ended)) octets capture f found is =
      let all = whole rose rises quiet planned text ended in
      elim (found_audited words table saved faulted first last book planned text octets capture f is (found_told words table saved faulted first last book planned text octets found (seen planned text c))) [
        | inl cause ↦ absurd (calm (told_fault words table saved faulted first last book planned text (seen planned text c) cause))
        | inr view ↦ inr (all.0 ∙ view.0, rw (← view.1) all.1)
      ]

  broken_among : (octets : List ℕ) (planned : Status) (text : List ℕ) → form_in words ≡ forms.Audit → IsFound words table octets → IsBroken octets → Told words table saved faulted first last book planned text → (planned ≡ statuses.AuditNo) ⊎ (planned ≡ statuses.FileFault)
  broken_among octets planned text f found (capture, rule, packet, read, is) t =
      elim (found_audited words table saved faulted first last book planned text octets capture f read (found_told words table saved faulted first last book planned text octets found t)) [
        | inl cause ↦ inr cause
        | inr both ↦ inl (both.0 ∙ ap verdict_status is)
      ]

  pub broken_cause : Followed (Course words table saved faulted first last book) old new status → BrokenCause words table status
  broken_cause (inl memory) = (λ is. absurd cc, λ octets f found broken. inr (inr (inr (inl memory))))
  broken_cause (inr (planned, text, c, ended)) = (
    λ is. told_broken words table saved faulted first last book planned text (seen planned text c) (planned_is statuses.AuditNo planned text old new status (λ sink. cc) ended is),
    λ octets f found broken. settle_two statuses.AuditNo statuses.FileFault planned text old new status (broken_among octets planned text f found broken (seen planned text c)) ended,
  )

  pub makes_to : (rose : Type 0) → (status ≡ statuses.SinkFault → rose) → (rose → ⊥) → Followed (Course words table saved faulted first last book) old new status → MakesTo words old new status
  makes_to rose rises quiet (inl memory) seed size m = inl memory
  makes_to rose rises quiet (inr (planned, text, c, ended)) seed size m =
      let all = whole rose rises quiet planned text ended in
      let made = told_made words table saved faulted first last book planned text seed size m (seen planned text c) in
      inr (all.0 ∙ made.0, rw (← made.1) all.1)
