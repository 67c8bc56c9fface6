-- How a book's run or serving ended, by the status of the call.
use Rattle.std.proofs.Common.{◌≡◌, ℕ, List, [], Option, refl, sym, subst, ap, ◌∙◌, inl, inr}
use Rattle.gateway_stream.specs.of_ec_outside.Files.{Table}
use Rattle.scenario_made.specs.Made.{text_of as made_text}
use Rattle.run_report.specs.of_run_book.declared.book.Book.{Book}
use Rattle.run_report.specs.of_run_book.declared.book.Ending.{Ending}
use Rattle.run_report.specs.of_run_book.declared.book.Ending.TheVariants as endings
use Rattle.tool_call.specs.of_ecmbx_words.declared.form.Form.TheVariants as forms
use Rattle.tool_call.specs.of_ecmbx_words.declared.status.Status.{Status}
use Rattle.tool_call.specs.of_ecmbx_words.declared.status.Status.TheVariants as statuses
use Rattle.tool_call.specs.of_ecmbx_words.Form.{form_in, name_in}
use Rattle.ecmbx_call.specs.Course.{status_of}
use Rattle.gateway_stream.specs.of_ec_outside.Faults.{Rose}
use Rattle.promised_run.specs.Ran.{EndsAs}
use Rattle.promised_run.specs.of_gateway_run.Serving.{Told as PortTold}
use Rattle.promised_run.specs.of_gateway_run.Served.{IsServed}
use Rattle.ecmbx_call.specs.Causes.{EndingAt, IsServing}
use Rattle.ecmbx_call.proofs.Told.{Told, no_made}

-- ---- how a book's run ended

pub ending_of : (e : Ending) → EndingAt (status_of e) e
ending_of endings.Unfinished = tt
ending_of endings.Done = inl refl
ending_of endings.GivenUp = refl
ending_of endings.BudgetSpent = refl
ending_of endings.PortFault = refl
ending_of endings.NoMemory = tt

pub given_ending : (e : Ending) → status_of e ≡ statuses.GivenUp → e ≡ endings.GivenUp
given_ending endings.Unfinished is = absurd cc
given_ending endings.Done is = absurd cc
given_ending endings.GivenUp is = refl
given_ending endings.BudgetSpent is = absurd cc
given_ending endings.PortFault is = absurd cc
given_ending endings.NoMemory is = absurd cc

pub spent_ending : (e : Ending) → status_of e ≡ statuses.BudgetSpent → e ≡ endings.BudgetSpent
spent_ending endings.Unfinished is = absurd cc
spent_ending endings.Done is = absurd cc
spent_ending endings.GivenUp is = absurd cc
spent_ending endings.BudgetSpent is = refl
spent_ending endings.PortFault is = absurd cc
spent_ending endings.NoMemory is = absurd cc

pub done_ending : (e : Ending) → status_of e ≡ statuses.Done → e ≡ endings.Done
done_ending endings.Unfinished is = absurd cc
done_ending endings.Done is = refl
done_ending endings.GivenUp is = absurd cc
done_ending endings.BudgetSpent is = absurd cc
done_ending endings.PortFault is = absurd cc
done_ending endings.NoMemory is = absurd cc

pub port_ending : (e : Ending) → status_of e ≡ statuses.PortFault → e ≡ endings.PortFault
port_ending endings.Unfinished is = absurd cc
port_ending endings.Done is = absurd cc
port_ending endings.GivenUp is = absurd cc
port_ending endings.BudgetSpent is = absurd cc
port_ending endings.PortFault is = refl
port_ending endings.NoMemory is = absurd cc

module _ (words : List (List ℕ)) (table saved : Option Table) (faulted : Type 0) (first last : PortTold) (book : Book) (planned : Status) (text : List ℕ) where
  pub at : (status : Status) → planned ≡ status → EndingAt status book.ending → EndingAt planned book.ending
  at status is h = subst (λ s. EndingAt s book.ending) (sym is) h

  pub told_ending : Told words table saved faulted first last book planned text → EndingAt planned book.ending
  told_ending (Told.usage f fresh is) = at statuses.Usage is fresh.ending
  told_ending (Told.fault name said rose is) = at statuses.FileFault is tt
  told_ending (Told.absent name said holds fresh is) = at statuses.Absent is fresh.ending
  told_ending (Told.long name said big fresh is) = at statuses.TooLong is fresh.ending
  told_ending (Told.refused name octets said holds fits refusal fresh is) = at statuses.Refused is fresh.ending
  told_ending (Told.made seed size f fresh is text) = at statuses.Done is (inr fresh.ending)
  told_ending (Told.shown name octets capture f said holds fits read fresh is text) = at statuses.Done is (inr fresh.ending)
  told_ending (Told.passed name octets capture stations f said holds fits read verdict fresh is text) = at statuses.Done is (inr fresh.ending)
  told_ending (Told.failed name octets capture rule packet f said holds fits read verdict fresh is text) = at statuses.AuditNo is fresh.ending
  told_ending (Told.ran name octets run f said holds fits read did is text) = at (status_of book.ending) is (ending_of book.ending)
  told_ending (Told.kept name octets run f said holds fits read did file is text) = at (status_of book.ending) is (ending_of book.ending)
  told_ending (Told.served name octets plan count f said holds fits read did is text) = at (status_of book.ending) is (ending_of book.ending)

  pub told_port : Told words table saved faulted first last book planned text → planned ≡ statuses.PortFault → IsServing words × Rose first.faults last.faults
  told_port (Told.usage f fresh is) e = absurd cc
  told_port (Told.fault name said rose is) e = absurd cc
  told_port (Told.absent name said holds fresh is) e = absurd cc
  told_port (Told.long name said big fresh is) e = absurd cc
  told_port (Told.refused name octets said holds fits refusal fresh is) e = absurd cc
  told_port (Told.made seed size f fresh is text) e = absurd cc
  told_port (Told.shown name octets capture f said holds fits read fresh is text) e = absurd cc
  told_port (Told.passed name octets capture stations f said holds fits read verdict fresh is text) e = absurd cc
  told_port (Told.failed name octets capture rule packet f said holds fits read verdict fresh is text) e = absurd cc
  told_port (Told.ran name octets plan f said holds fits read did is text) e = absurd (subst (λ e. EndsAs plan book e) (port_ending book.ending (sym is ∙ e)) did.ending)
  told_port (Told.kept name octets plan f said holds fits read did file is text) e = absurd (subst (λ e. EndsAs plan book e) (port_ending book.ending (sym is ∙ e)) did.ending)
  told_port (Told.served name octets plan count f said holds fits read did is text) e =
      let broken : IsServed plan count first last book endings.PortFault = subst (λ e. IsServed plan count first last book e) (port_ending book.ending (sym is ∙ e)) did.served in
      ((count, f), broken.2.rose)

  pub told_made : (seed size : ℕ) → form_in words ≡ forms.Make seed size → Told words table saved faulted first last book planned text → (planned ≡ statuses.Done) × (text ≡ made_text [] seed size)
  told_made seed size m (Told.usage f fresh is) = absurd cc
  told_made seed size m (Told.fault name said rose is) = absurd (no_made (form_in words) (name_in words) name seed size m said)
  told_made seed size m (Told.absent name said holds fresh is) = absurd (no_made (form_in words) (name_in words) name seed size m said)
  told_made seed size m (Told.long name said big fresh is) = absurd (no_made (form_in words) (name_in words) name seed size m said)
  told_made seed size m (Told.refused name octets said holds fits refusal fresh is) = absurd (no_made (form_in words) (name_in words) name seed size m said)
  told_made seed size m (Told.made s z f fresh is t) =
      let one : s ≡ seed = cc in
      let two : z ≡ size = cc in
      (is, t ∙ ap (λ n. made_text [] n z) one ∙ ap (λ n. made_text [] seed n) two)
  told_made seed size m (Told.shown name octets capture f said holds fits read fresh is text) = absurd cc
  told_made seed size m (Told.passed name octets capture stations f said holds fits read verdict fresh is text) = absurd cc
  told_made seed size m (Told.failed name octets capture rule packet f said holds fits read verdict fresh is text) = absurd cc
  told_made seed size m (Told.ran name octets run f said holds fits read did is text) = absurd cc
  told_made seed size m (Told.kept name octets run f said holds fits read did file is text) = absurd cc
  told_made seed size m (Told.served name octets plan count f said holds fits read did is text) = absurd cc
