-- Which of a slave's services are carried out: each that has a reply is among the first of them, so many as its server counts.
use Rattle.std.proofs.Common.{◌≡◌, ℕ, suc, ◌+◌, ◌<◌, ◌≤◌, Bool, true, Some, List, [], ◌∷◌, ◌++◌, length, refl, ap, sym, ◌∙◌, subst, arith}
use Rattle.std.specs.Prelude.{⊤}
use Rattle.segment_model.specs.of_exchange_model.Exchange.{Exchange, IsLawful, after}
use Rattle.segment_model.specs.of_exchange_model.Rows.{Row, Fits, InDone, left, services, told_all}
use Rattle.segment_model.specs.of_exchange_model.Laws.{Moment}
use Rattle.segment_model.proofs.of_exchange_model.Words.{after-append, grows_all}
use Rattle.segment_model.proofs.of_exchange_model.Settles.{settled_front, settled_handled, settled_more, told_all_last}
use Rattle.segment_model.proofs.of_exchange_model.Steps.{handed_whole}
use Rattle.segment_model.specs.Record.{Frame}
use Rattle.segment_model.specs.Ends.{Outcome}
use Rattle.state_model.specs.Stated.{Service, states_in}
use Rattle.state_model.specs.Promise.{outcome_of, IsReply, AllDone, mails_in, services_in, state_found}
use Rattle.state_model.proofs.Ghosts.{GhostRow, starts_of, label_by, mail_labels}
use Rattle.state_model.proofs.Replies.{AllLabelled, reply_labelled}

-- services go by mails or change the AL state
pub by_kind : {Q : Type 0} (qs : List (Service Q)) → mails_in qs + states_in qs ≡ length qs
by_kind [] = omega arith
by_kind (Service.Mails q ∷ qs) = let rest = by_kind qs in omega (arith, rest)
by_kind (Service.State target ∷ qs) = let rest = by_kind qs in omega (arith, rest)

pub services_same : {M Q R : Type 0} (gs : List (GhostRow M Q R)) → services gs ≡ services_in (starts_of gs)
services_same [] = refl
services_same (g ∷ gs) = ap (λ l. g.service ∷ l) (services_same gs)

pub starts_length : {M Q R : Type 0} (gs : List (GhostRow M Q R)) → length (starts_of gs) ≡ length gs
starts_length [] = refl
starts_length (g ∷ gs) = ap suc (starts_length gs)

pub services_length : {M Q R : Type 0} (gs : List (GhostRow M Q R)) → length (services gs) ≡ length gs
services_length [] = refl
services_length (g ∷ gs) = ap suc (services_length gs)

module _ {V A M Q R : Type 0} (x : Exchange V A M Q R) (law : IsLawful x) (v : V) (ready : x.ready v ≡ true) (front last : List (Row M Q R)) (now : Row M Q R) (held taken accepted : List M)
    (at : Moment x v front last now held taken accepted) (f : Fits x v (front ++ last ++ now ∷ []) (after x.serve v taken) accepted) where
  -- the rows that were taken whole are carried out
  pub front_below : length front ≤ f.count
  front_below =
      let settled = settled_front x law v front last at.fits.settled in
      let more : x.handled (after x.serve v (told_all front)) ≤ x.handled (after x.serve v taken) =
      subst (λ ms. x.handled (after x.serve v (told_all front)) ≤ x.handled (after x.serve v ms)) at.fits.all_taken.1
      (subst (λ w. x.handled (after x.serve v (told_all front)) ≤ x.handled w) (sym (after-append x.serve v (told_all front) at.fits.all_taken.0)) (grows_all x law (after x.serve v (told_all front)) at.fits.all_taken.0)) in
      let whole = settled_handled x law v front ready settled in
      let counts = f.handled in
      omega (arith, more, counts, whole)

  -- and all rows are, where the newest ends with its last write, nothing is left of it, and all was taken
  pub all_counted : x.speech.handed now.service ≡ true → left x.speech now ≡ [] → taken ≡ held → f.count ≡ length (front ++ last ++ now ∷ [])
  all_counted posts over same =
      let whole = handed_whole x law v ready front last now held taken accepted at.fits at.order at.hears posts over in
      let settled = settled_more x law v (front ++ last) now at.fits.settled whole in
      let all : taken ≡ told_all (front ++ last ++ now ∷ []) = same ∙ at.fits.all_held ∙ sym (told_all_last (front ++ last) now) in
      let handled = ap (λ ms. x.handled (after x.serve v ms)) all ∙ settled_handled x law v (front ++ last ++ now ∷ []) ready settled in
      let counts = f.handled in
      omega (arith, handled, counts)

in_done_split : {M Q R : Type 0} (count number : ℕ) (rs ss : List (Row M Q R)) → InDone count number (rs ++ ss) → InDone count number rs × InDone count (number + length rs) ss
in_done_split count number [] ss d = let same : number ≡ number + 0 = omega arith in (tt, subst (λ n. InDone count n ss) same d)
in_done_split count number (r ∷ rs) ss d =
    let same : suc number + length rs ≡ number + suc (length rs) = omega arith in
    let later = in_done_split count (suc number) rs ss d.1 in
    ((d.0, later.0), subst (λ n. InDone count n ss) same later.1)

module _ {V A M Q R : Type 0} (x : Exchange V A M Q R) (more : M → Bool) (station : ℕ) (fs : List (Frame M)) where
  -- each state service of these rows that is over, the first row with this number, is among the first count
  abbrev pub StateBelow : ℕ → ℕ → ℕ → Service Q → Type 0
  StateBelow count number frame (Service.Mails q) = ⊤
  StateBelow count number frame (Service.State target) = (o : Outcome R × ℕ) → state_found x.speech more station fs target frame ≡ Some o → number < count

  abbrev pub StatesBelow : ℕ → ℕ → List (GhostRow M Q R) → Type 0
  StatesBelow count number [] = ⊤
  StatesBelow count number (g ∷ gs) = StateBelow count number g.frame g.service × StatesBelow count (suc number) gs

  below_append : (count number : ℕ) (gs hs : List (GhostRow M Q R)) → StatesBelow count number gs → StatesBelow count (number + length gs) hs → StatesBelow count number (gs ++ hs)
  below_append count number [] hs none more = let same : number + 0 ≡ number = omega arith in subst (λ n. StatesBelow count n hs) same more
  below_append count number (g ∷ gs) hs all more =
      let same : number + suc (length gs) ≡ suc number + length gs = omega arith in
      (all.0, below_append count (suc number) gs hs all.1 (subst (λ n. StatesBelow count n hs) same more))

  below_first : (count number frame : ℕ) (service : Service Q) → number < count → StateBelow count number frame service
  below_first count number frame (Service.Mails q) less = tt
  below_first count number frame (Service.State target) less = λ o e. less

  -- the first rows are
  below_front : (count number : ℕ) (gs : List (GhostRow M Q R)) → number + length gs ≤ count → StatesBelow count number gs
  below_front count number [] less = tt
  below_front count number (g ∷ gs) less = (below_first count number g.frame g.service (omega (arith, less)), below_front count (suc number) gs (omega (arith, less)))

  -- rows by mails alone have none
  below_mails : (count number : ℕ) (gs : List (GhostRow M Q R)) → states_in (services gs) ≡ 0 → StatesBelow count number gs
  below_mails count number [] none = tt
  below_mails count number (g ∷ gs) none = go g.service none (λ e. below_mails count (suc number) gs e)
    where
      go : (service : Service Q) → states_in (service ∷ services gs) ≡ 0 → (states_in (services gs) ≡ 0 → StatesBelow count (suc number) gs) → StateBelow count number g.frame service × StatesBelow count (suc number) gs
      go (Service.Mails q) none rest = (tt, rest none)
      go (Service.State target) none rest = absurd (omega (arith, none))

  pub below_all : (count : ℕ) (front last : List (GhostRow M Q R)) (now : GhostRow M Q R) → length front ≤ count → states_in (services last) ≡ 0 → StateBelow count (length (front ++ last)) now.frame now.service →
      StatesBelow count 0 (front ++ last ++ now ∷ [])
  below_all count front last now less none newest =
      below_append count 0 (front ++ last) (now ∷ [])
      (below_append count 0 front last (below_front count 0 front (omega (arith, less))) (below_mails count (0 + length front) last none))
      (subst (λ n. StatesBelow count n (now ∷ [])) (omega arith) (newest, tt))

  -- EACH REPLY is of one of the first count
  done_first : (count number : ℕ) (g : GhostRow M Q R) (gs : List (GhostRow M Q R)) (service : Service Q) → ((answer : Outcome R × ℕ) → g.answer ≡ Some answer → number < count) → StateBelow count number g.frame service →
      AllLabelled x more station fs (label_by g service ++ mail_labels gs) → (AllLabelled x more station fs (mail_labels gs) → AllDone x.speech more station fs count (suc number) (starts_of gs)) →
      ((o : Outcome R × ℕ) → outcome_of x.speech more station fs (record { service = service; frame = g.frame }) ≡ Some o → IsReply o.0 → number < count) × AllDone x.speech more station fs count (suc number) (starts_of gs)
  done_first count number g gs (Service.Mails q) done below labels next =
      ((λ o e is. done o (reply_labelled x more station fs (record { service = q; frame = g.frame; answer = g.answer }) labels.0 o e is)), next labels.1)
  done_first count number g gs (Service.State target) done below labels next = ((λ o e is. below o e), next labels)

  pub done_all : (count number : ℕ) (gs : List (GhostRow M Q R)) → InDone count number gs → StatesBelow count number gs → AllLabelled x more station fs (mail_labels gs) → AllDone x.speech more station fs count number (starts_of gs)
  done_all count number [] done below labels = tt
  done_all count number (g ∷ gs) done below labels = done_first count number g gs g.service done.0 below.0 labels (λ rest. done_all count (suc number) gs done.1 below.1 rest)
