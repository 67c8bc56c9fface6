-- What stands behind the datagrams put to a link.
use Rattle.std.proofs.Common.{◌≡◌, ◌≢◌, ◌≤◌, ◌⊎◌, ◌∙◌, refl, sym, subst, inl, inr, ℕ, List, [], ◌++◌, map, Option, Some, None}
use Rattle.gateway_stream.specs.of_ec_outside.Files.{Table}
use Rattle.gateway_stream.specs.of_ec_outside.declared.port.SentGram.{SentGram}
use Rattle.tool_call.specs.of_segment_plan.declared.plan.Scenario.{Scenario}
use Rattle.run_report.specs.of_run_book.declared.book.Book.{Book}
use Rattle.run_report.specs.of_run_book.declared.book.Ending.{Ending}
use Rattle.run_report.specs.of_run_book.declared.book.Ending.TheVariants as endings
use Rattle.run_report.specs.of_run_book.declared.book.GramOut.{GramOut}
use Rattle.run_report.specs.of_run_book.Book.{IsNew}
use Rattle.promised_run.specs.of_gateway_run.Heard.{sent_as as as_sent, AreSent, AreSentBut}
use Rattle.promised_run.specs.of_gateway_run.Served.{IsServed}
use Rattle.promised_run.specs.of_gateway_run.Serving.{Told}
use Rattle.gateway_stream.specs.Cutting.{requests_of, behind_of}
use Rattle.gateway_stream.specs.Sending.{IsBehind, sent_as, sent_of}
use Rattle.gateway_stream.proofs.Sent.{clean, rest_is}
use Rattle.ecmbx_call.specs.Linked.{PutsWhole}
use Rattle.ecmbx_call.specs.Serving.{ServedIn}

-- where nothing was put, nothing more stands there
pub puts_still : (faults : ℕ) (before put : Option (List ℕ)) → put ≡ before → PutsWhole faults before put
puts_still faults None put same = tt
puts_still faults (Some octets) put same = λ whole. (octets, same, subst (λ behind. IsBehind faults behind) (sym whole) IsBehind.nothing)

-- what was sent is told where that was told before
sent_told : (first last : Option (List SentGram)) (replies : List GramOut) (old : List SentGram) → first ≡ Some old → AreSent first last replies → (grams : List SentGram) × (last ≡ Some grams)
sent_told None last replies old is sent = absurd cc
sent_told (Some before) last replies old is sent = (before ++ map as_sent replies, sent)

but_told : (first last : Option (List SentGram)) (replies : List GramOut) (old : List SentGram) → first ≡ Some old → AreSentBut first last replies → (grams : List SentGram) × (last ≡ Some grams)
but_told first last replies old is (inl sent) = sent_told first last replies old is sent
but_told first last replies old is (inr (earlier, one, split, sent)) = sent_told first last earlier old is sent

served_told : (plan : Scenario) (count : ℕ) (first last : Told) (book : Book) (ending : Ending) → ending ≢ endings.NoMemory → IsServed plan count first last book ending → (old : List SentGram) → first.sent ≡ Some old → (grams : List SentGram) × (last.sent ≡ Some grams)
served_told plan count first last book endings.Done memory s old is = sent_told first.sent last.sent book.replies old is s.2.sent
served_told plan count first last book endings.GivenUp memory s old is = sent_told first.sent last.sent book.replies old is s.2.sent
served_told plan count first last book endings.BudgetSpent memory s old is = sent_told first.sent last.sent book.replies old is s.2
served_told plan count first last book endings.PortFault memory s old is = but_told first.sent last.sent book.replies old is s.2.sent
served_told plan count first last book endings.NoMemory memory s old is = absurd (memory refl)
served_told plan count first last book endings.Unfinished memory s old is = absurd s.0

-- a port that tells what it sent
put_told : (failed : List ℕ) (put : Option (List ℕ)) (grams : List SentGram) (faults : ℕ) → (failed ≢ [] → 1 ≤ faults) → sent_of failed put ≡ Some grams → (octets : List ℕ) × (put ≡ Some octets) × IsBehind faults (behind_of octets)
put_told failed None grams faults faulted told = absurd cc
put_told failed (Some octets) grams faults faulted told = (octets, refl, rest_is failed octets grams faults faulted told)

puts_told : (before put : Option (List ℕ)) (failed : List ℕ) (faults : ℕ) → (failed ≢ [] → 1 ≤ faults) → ((old : List SentGram) → sent_of [] before ≡ Some old → (grams : List SentGram) × (sent_of failed put ≡ Some grams)) → PutsWhole faults before put
puts_told None put failed faults faulted told = tt
puts_told (Some octets) put failed faults faulted told = λ whole.
    let some = told (map sent_as (requests_of octets)) (clean [] octets whole) in
    put_told failed put some.0 faults faulted some.1

-- A CALL THAT SERVED over a link, or didn't
pub puts_whole :
    (before put : Option (List ℕ)) (failed : List ℕ) (faults : ℕ) → (failed ≢ [] → 1 ≤ faults) → (name : List ℕ) (table : Option Table) (count : ℕ) (first last : Told) (book : Book) → first.sent ≡ sent_of [] before → last.sent ≡ sent_of failed put
    → (IsNew book → put ≡ before) → IsNew book ⊎ ServedIn name table count first last book → book.ending ≢ endings.NoMemory → PutsWhole faults before put
puts_whole before put failed faults faulted name table count first last book one other same (inl fresh) memory = puts_still faults before put (same fresh)
puts_whole before put failed faults faulted name table count first last book one other same (inr (octets, holds, (plan, is, did))) memory =
    puts_told before put failed faults faulted
    (λ old e. let some = served_told plan count first last book book.ending memory did.served old (one ∙ e) in (some.0, sym other ∙ some.1))
