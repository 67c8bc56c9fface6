-- What a link tells, in the place of what a port over it tells.
use Rattle.std.proofs.Common.{◌≡◌, ◌⊎◌, ℕ, ◌||◌, Bool, true, false, List, [], ◌++◌, map, Option, Some, None, refl, sym, ◌∙◌, inl, inr}
use Rattle.std.specs.Str.{bytes_eq}
use Rattle.std.proofs.lemmas.Slice.Eq.{bytes_eq-Decides}
use Rattle.gateway_stream.specs.of_ec_outside.Faults.{Rose}
use Rattle.gateway_stream.specs.of_ec_outside.Files.{Table}
use Rattle.gateway_stream.specs.of_ec_outside.Port.{HeardGram}
use Rattle.gateway_stream.specs.of_ec_outside.declared.port.SentGram.{SentGram}
use Rattle.tool_call.specs.of_segment_plan.declared.plan.Scenario.{Scenario}
use Rattle.run_report.specs.of_run_book.declared.book.Book.{Book}
use Rattle.run_report.specs.of_run_book.declared.book.Ending.{Ending}
use Rattle.run_report.specs.of_run_book.declared.book.Ending.TheVariants as endings
use Rattle.run_report.specs.of_run_book.declared.book.GramIn.{GramIn}
use Rattle.run_report.specs.of_run_book.declared.book.GramOut.{GramOut}
use Rattle.run_report.specs.of_run_book.Book.{IsNew}
use Rattle.promised_run.specs.of_gateway_run.Heard.{heard_as as as_heard, sent_as as as_sent, AreHeard, AreSent, AreSentBut}
use Rattle.promised_run.specs.of_gateway_run.Served.{HasAccount, HasGrams, HasWaited, IsThrough, IsBroken, IsPrompt, IsServed}
use Rattle.promised_run.specs.of_gateway_run.Serving.{Told}
use Rattle.promised_run.proofs.of_gateway_run.Waits.{over_later, waited_still}
use Rattle.gateway_stream.specs.Cutting.{behind_of}
use Rattle.gateway_stream.specs.Hearing.{heard_in, heard_of, is_broken}
use Rattle.gateway_stream.specs.Sending.{is_rest, sent_in, sent_of}
use Rattle.tool_call.specs.of_ecmbx_words.declared.status.Status.{Status}
use Rattle.tool_call.specs.of_ecmbx_words.Files.{FileCourse}
use Rattle.ecmbx_call.specs.Files.{limit}
use Rattle.ecmbx_call.specs.Serving.{HasServed, ServeCourse, ServedIn}
use Rattle.ecmbx_call.specs.Linked.{may_be_broken}

-- other words for what is told before a serving and behind it, in which at most less is said
pub record Retold (first last first' last' : Told) : Type 0 where
  pub heard : (grams : List GramIn) → AreHeard first.heard last.heard grams → AreHeard first'.heard last'.heard grams
  pub sent : (replies : List GramOut) → AreSent first.sent last.sent replies → AreSent first'.sent last'.sent replies
  pub over : (grams : List GramIn) → AreHeard first.heard last.heard grams → last.over ≡ true → last'.over ≡ true
  pub faults : Rose first.faults last.faults → Rose first'.faults last'.faults

module _ (first last first' last' : Told) (h : Retold first last first' last') (count : ℕ) (book : Book) where
  grams_retold : (plan : Scenario) → HasGrams plan count first last book → HasGrams plan count first' last' book
  grams_retold plan g = record { serving = g.serving; heard = h.heard book.grams g.heard; few = g.few; answered = g.answered; judged = g.judged }

  over_retold : AreHeard first.heard last.heard book.grams → IsThrough count first last book → IsThrough count first' last' book
  over_retold heard t = record {
    over = elim t.over [ inl all ↦ inl all | inr over ↦ inr (h.over book.grams heard over) ];
    sent = h.sent book.replies t.sent;
  }

  sent_but : (replies : List GramOut) → AreSentBut first.sent last.sent replies → AreSentBut first'.sent last'.sent replies
  sent_but replies (inl all) = inl (h.sent replies all)
  sent_but replies (inr (earlier, one, is, sent)) = inr (earlier, one, is, h.sent earlier sent)

  broken_retold : IsBroken first last book → IsBroken first' last' book
  broken_retold b = record { rose = h.faults b.rose; sent = sent_but book.replies b.sent }

  waited_retold : {plan : Scenario} {ending : Ending} → AreHeard first.heard last.heard book.grams → (account : HasAccount plan count book ending) → HasWaited last account → HasWaited last' account
  waited_retold {plan} heard a waited = waited_still plan count a.session book.frames book.grams a.requests a.owed a.course last.over last'.over (over_later last.over last'.over (h.over book.grams heard)) waited

  prompt_retold : {plan : Scenario} {ending : Ending} → (account : HasAccount plan count book ending) → IsPrompt first last account → IsPrompt first' last' account
  prompt_retold a (inl few) = inl (h.sent book.replies few.0, few.1)
  prompt_retold a (inr less) = inr less

  pub served_retold : (plan : Scenario) (ending : Ending) → IsServed plan count first last book ending → IsServed plan count first' last' book ending
  served_retold plan endings.Done (stops, grams, goes, account, waited, prompt) = (stops, grams_retold plan grams, over_retold grams.heard goes, account, waited_retold grams.heard account waited, prompt_retold account prompt)
  served_retold plan endings.GivenUp (stops, grams, goes, account, waited, prompt) = (stops, grams_retold plan grams, over_retold grams.heard goes, account, waited_retold grams.heard account waited, prompt_retold account prompt)
  served_retold plan endings.BudgetSpent (stops, grams, goes, account, waited, prompt) = (stops, grams_retold plan grams, h.sent book.replies goes, account, waited_retold grams.heard account waited, prompt_retold account prompt)
  served_retold plan endings.PortFault (stops, grams, goes, account, waited, prompt) = (stops, grams_retold plan grams, broken_retold goes, account, waited_retold grams.heard account waited, prompt_retold account prompt)
  served_retold plan endings.NoMemory done = tt
  served_retold plan endings.Unfinished served = absurd served.0

  pub has_retold : (plan : Scenario) → HasServed plan count first last book → HasServed plan count first' last' book
  has_retold plan did = record { frames = did.frames; served = served_retold plan book.ending did.served; through = did.through; whole = did.whole; ports = did.ports; sends = did.sends; visits = did.visits; booked = did.booked; due = did.due; written = did.written; given = did.given; replied = did.replied; rests = did.rests; left = did.left; bounded = did.bounded }

  course_retold : (octets : List ℕ) (planned : Status) (text : List ℕ) → ServeCourse count first last book octets planned text → ServeCourse count first' last' book octets planned text
  course_retold octets _ _ (ServeCourse.refused e is fresh) = ServeCourse.refused e is fresh
  course_retold octets _ _ (ServeCourse.served plan is did) = ServeCourse.served plan is (has_retold plan did)

  -- what became of the file under a name
  pub file_retold :
      (name : List ℕ) (table : Option Table) (faulted new : Type 0) (planned : Status) (text : List ℕ) → FileCourse limit name table faulted new (ServeCourse count first last book) planned text
      → FileCourse limit name table faulted new (ServeCourse count first' last' book) planned text
  file_retold name table faulted new _ _ (FileCourse.fault rose fresh) = FileCourse.fault rose fresh
  file_retold name table faulted new _ _ (FileCourse.absent holds fresh) = FileCourse.absent holds fresh
  file_retold name table faulted new _ _ (FileCourse.long is fresh) = FileCourse.long is fresh
  file_retold name table faulted new _ _ (FileCourse.found octets planned text holds fits c) = FileCourse.found octets planned text holds fits (course_retold octets planned text c)

  pub in_retold : (name : List ℕ) (table : Option Table) → IsNew book ⊎ ServedIn name table count first last book → IsNew book ⊎ ServedIn name table count first' last' book
  in_retold name table (inl fresh) = inl fresh
  in_retold name table (inr (octets, holds, (plan, is, did))) = inr (octets, holds, (plan, is, has_retold plan did))

-- ---- a link

either : (b : Bool) → (b ≡ true) ⊎ (b ≡ false)
either true = inl refl
either false = inr refl

or_true : (b : Bool) → (b || true) ≡ true
or_true true = refl
or_true false = refl

-- the datagrams heard are the requests in the octets given
told_in : (given : Option (List ℕ)) (kept : List ℕ) (heard : List HeardGram) → heard_of given kept ≡ Some heard → heard_in given ≡ Some heard
told_in None kept heard is = absurd cc
told_in (Some octets) kept heard is =
    elim (either (bytes_eq (behind_of octets) kept)) [
      | inl same ↦ let told : heard_of (Some octets) kept ≡ heard_in (Some octets) = rw same refl in sym told ∙ is
      | inr other ↦ let none : heard_of (Some octets) kept ≡ None = rw other refl in absurd cc
    ]

heard_retold : (first : Option (List HeardGram)) (given : Option (List ℕ)) (kept : List ℕ) (grams : List GramIn) → AreHeard first (heard_of given kept) grams → AreHeard first (heard_in given) grams
heard_retold None given kept grams heard = tt
heard_retold (Some old) given kept grams heard = told_in given kept (old ++ map as_heard grams) heard

-- the datagrams sent are those in the octets put
put_in : (failed : List ℕ) (put : Option (List ℕ)) (sent : List SentGram) → sent_of failed put ≡ Some sent → sent_in put ≡ Some sent
put_in failed None sent is = absurd cc
put_in failed (Some octets) sent is =
    elim (either (is_rest failed (behind_of octets))) [
      | inl whole ↦ let told : sent_of failed (Some octets) ≡ sent_in (Some octets) = rw whole refl in sym told ∙ is
      | inr other ↦ let none : sent_of failed (Some octets) ≡ None = rw other refl in absurd cc
    ]

sent_retold : (first : Option (List SentGram)) (failed : List ℕ) (put : Option (List ℕ)) (replies : List GramOut) → AreSent first (sent_of failed put) replies → AreSent first (sent_in put) replies
sent_retold None failed put replies sent = tt
sent_retold (Some old) failed put replies sent = put_in failed put (old ++ map as_sent replies) sent

-- the octets kept are those behind the requests
kept_is : (octets kept : List ℕ) (heard : List HeardGram) → heard_of (Some octets) kept ≡ Some heard → behind_of octets ≡ kept
kept_is octets kept heard is =
    elim (either (bytes_eq (behind_of octets) kept)) [
      | inl same ↦ (bytes_eq-Decides (behind_of octets) kept).0 same
      | inr other ↦ let none : heard_of (Some octets) kept ≡ None = rw other refl in absurd cc
    ]

over_told :
    (first : Option (List HeardGram)) (given : Option (List ℕ)) (kept : List ℕ) (over : Bool) (grams : List GramIn) → AreHeard first (heard_of given kept) grams → (over || is_broken kept) ≡ true
    → (over || may_be_broken first given) ≡ true
over_told None given kept over grams heard is = or_true over
over_told (Some old) None kept over grams heard is = or_true over
over_told (Some old) (Some octets) kept over grams heard is =
    let same : behind_of octets ≡ kept = kept_is octets kept (old ++ map as_heard grams) heard in
    rw same is

-- WHAT A LINK TELLS is what a port over it tells, which keeps some octets and failed to put a datagram or not
pub link_retold :
    (given given' put put' : Option (List ℕ)) (over over' ended : Bool) (faults faults' : ℕ) (kept failed : List ℕ)
    → Retold (record { heard = heard_of given []; sent = sent_of [] put; over = ended; faults = faults })
    (record { heard = heard_of given' kept; sent = sent_of failed put'; over = over' || is_broken kept; faults = faults' })
    (record { heard = heard_of given []; sent = sent_of [] put; over = over; faults = faults })
    (record { heard = heard_in given'; sent = sent_in put'; over = over' || may_be_broken (heard_of given []) given'; faults = faults' })
link_retold given given' put put' over over' ended faults faults' kept failed = record {
  heard = λ grams heard. heard_retold (heard_of given []) given' kept grams heard;
  sent = λ replies sent. sent_retold (sent_of [] put) failed put' replies sent;
  over = λ grams heard is. over_told (heard_of given []) given' kept over' grams heard is;
  faults = λ rose. rose;
}
