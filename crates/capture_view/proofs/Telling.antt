-- Texts told one behind the other.
use Rattle.std.proofs.Common.{◌≡◌, ◌≤◌, ℕ, List, [], ◌++◌, Option, Some, None, Result, Ok, Err, refl, sym, ap, ◌∙◌, append_assoc, arith, inl, inr}
use Rattle.std.proofs.lemmas.List.{append-nil}
use Rattle.std.proofs.lemmas.Bool.{cases_lt}
use Rattle.ec_outside.specs.declared.sink.SinkErr.{SinkErr}
use Rattle.ec_outside.specs.declared.sink.SinkErr.TheVariants.{NoMemory}
use Rattle.ec_outside.specs.Faults.{Rose}
use Rattle.ec_outside.specs.Sink.{Wrote, WrotePrefix}
use Rattle.capture_view.specs.View.{Told}

wrote_more : (old middle new : Option (List ℕ)) (front text : List ℕ) → Wrote old middle front → Wrote middle new text → Wrote old new (front ++ text)
wrote_more None middle new front text h k = tt
wrote_more (Some old) None new front text h k = absurd cc
wrote_more (Some old) (Some middle) new front text h k =
    let m : middle ≡ old ++ front = cc in
    k ∙ ap Some (rw m (append_assoc old front text))

wrote_nothing : (old : Option (List ℕ)) → Wrote old old []
wrote_nothing None = tt
wrote_nothing (Some old) = ap Some (sym (append-nil old))

prefix_more : (old middle new : Option (List ℕ)) (front text : List ℕ) → Wrote old middle front → WrotePrefix middle new text → WrotePrefix old new (front ++ text)
prefix_more old middle new front text h (a, b, wrote, is) =
    (front ++ a, b, wrote_more old middle new front a h wrote, ap (λ t. front ++ t) is ∙ sym (append_assoc front a b))

rose_from : (before now after : ℕ) → before ≤ now → now ≤ after → Rose now after → Rose before after
rose_from before now after le le' (inl lt) = inl (omega arith)
rose_from before now after le le' (inr end) = elim (cases_lt before now) [ inl lt ↦ inl (omega arith) | inr same ↦ inr (omega arith) ]

-- nothing was put
pub told_nothing : {S : Type 0} (written : S → Option (List ℕ)) (faults : S → ℕ) (sink : S) → Told written faults sink sink [] (Ok tt)
told_nothing written faults sink = record { text_told = wrote_nothing (written sink); later = omega arith; cause = λ e. absurd cc }

-- one text behind another
told_more : {S : Type 0} (written : S → Option (List ℕ)) (faults : S → ℕ) (old middle new : S) (front text : List ℕ) (r : Result (Unit {0}) SinkErr)
    → Told written faults old middle front (Ok tt) → Told written faults middle new text r → Told written faults old new (front ++ text) r
told_more written faults old middle new front text (Ok tt) t u =
    let a = t.later in
    let b = u.later in
    record { text_told = wrote_more (written old) (written middle) (written new) front text t.text_told u.text_told; later = omega arith; cause = λ e. absurd cc }
told_more written faults old middle new front text (Err e) t u =
    let a = t.later in
    let b = u.later in
    record {
      text_told = prefix_more (written old) (written middle) (written new) front text t.text_told u.text_told;
      later = omega arith;
      cause = λ is. rose_from (faults old) (faults middle) (faults new) a b (u.cause is);
    }

-- an error with a text is one with more behind it
told_short : {S : Type 0} (written : S → Option (List ℕ)) (faults : S → ℕ) (old new : S) (front text : List ℕ) (e : SinkErr)
    → Told written faults old new front (Err e) → Told written faults old new (front ++ text) (Err e)
told_short written faults old new front text e t =
    let (a, b, wrote, is) = t.text_told in
    record { text_told = (a, b ++ text, wrote, ap (λ s. s ++ text) is ∙ append_assoc a b text); later = t.later; cause = t.cause }

-- a call that ends with the error of its first text
pub stops : {S : Type 0} {written : S → Option (List ℕ)} {faults : S → ℕ} {old new : S} {line : List ℕ} {first : Result (Unit {0}) SinkErr}
    (rest text : List ℕ) (e : SinkErr) (r : Result (Unit {0}) SinkErr)
    → Told written faults old new line first → first ≡ Err e → r ≡ Err e → text ≡ line ++ rest → Told written faults old new text r
stops {S} {written} {faults} {old} {new} {line} rest text e r t is same whole =
    rw (whole, same) (told_short written faults old new line rest e (rw is at t))

-- a call that ends as its second text does
pub goes_on : {S : Type 0} {written : S → Option (List ℕ)} {faults : S → ℕ} {old middle new : S} {line more : List ℕ} {first r : Result (Unit {0}) SinkErr} (text : List ℕ)
    → Told written faults old middle line first → first ≡ Ok tt → Told written faults middle new more r → text ≡ line ++ more → Told written faults old new text r
goes_on {S} {written} {faults} {old} {middle} {new} {line} {more} {first} {r} text t is u whole =
    rw whole (told_more written faults old middle new line more r (rw is at t) u)

-- a call that wants memory before it puts anything
pub tells_nothing : {S : Type 0} {written : S → Option (List ℕ)} {faults : S → ℕ} {sink : S} (text : List ℕ) (r : Result (Unit {0}) SinkErr)
    → r ≡ Err NoMemory → Told written faults sink sink text r
tells_nothing {S} {written} {faults} {sink} text r is =
    rw is (record { text_told = ([], text, wrote_nothing (written sink), refl); later = omega arith; cause = λ e. absurd cc })
