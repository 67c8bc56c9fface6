-- What is noted of the mails of all slaves, and of their answers.
use Rattle.std.proofs.Common.{◌≡◌, ◌==◌, ◌<◌, ◌≤◌, ◌+◌, ℕ, zero, suc, Bool, true, false, Some, None, List, [], ◌∷◌, ◌++◌, length, take, take-suc, get_or, add-one, refl, sym, ap, ◌∙◌, subst, arith, append_assoc, append-nil}
use Rattle.std.specs.Prelude.{if◌then◌else◌, slice_get, slice_set, slice_index_or}
use Rattle.std.proofs.lemmas.Bool.{eq-eqb, eqb-true}
use Rattle.std.proofs.lemmas.List.{take_all}
use Rattle.run_frames.specs.of_mailbox_mail.declared.outcome.ReplyKind.{ReplyKind}
use Rattle.run_book.specs.of_master_node.declared.changed.Changed.{Changed}
use Rattle.run_book.specs.of_master_node.declared.event.Event.{Event}
use Rattle.run_book.specs.of_master_node.declared.event.Origin.{Origin}
use Rattle.run_book.specs.of_master_node.declared.event.Origin.TheVariants.{Script, Forward, Gateway}
use Rattle.run_book.specs.of_master_node.declared.told.Told.{Told}
use Rattle.run_book.specs.declared.book.Answer.TheVariants.{InDoubt}
use Rattle.run_notes.specs.Handed.{AllDoubts, Doubts, EachNotes, GoesBy, MailsBehind, MailsGo, MailsStay, kinds_in, kinds_of, services_noted, services_of, told_only}
use Rattle.run_notes.specs.Notes.{answered, answers_doubted, awaits_nothing, began, began_script, began_where, change_noted, changed_noted, stood, told_noted}
use Rattle.run_notes.specs.Packets.{noted_began}
use Rattle.run_notes.specs.Slaves.{gaves_noted}
use Rattle.run_notes.specs.declared.notes.Awaited.{Awaited}
use Rattle.run_notes.specs.declared.notes.Notes.{Notes}
use Rattle.run_notes.specs.declared.standing.Log.{Log}
use Rattle.run_notes.proofs.Handed.{goes_more, goes_then, more_doubts, none_doubt, one_doubt, replied_goes, same_goes}

pub none_got : {P : Type 0} (k : ℕ) (n : Notes) → slice_get [] k ≡ Some n → P
none_got zero n e = absurd (let bad : None ≡ Some n = e in cc)
none_got (suc k) n e = absurd (let bad : None ≡ Some n = e in cc)

-- one of them is noted anew
set_first : (P : ℕ → Notes → Notes → Type 0) (o m : Notes) (notes : List Notes) → P 0 o m → ((k : ℕ) → (k ≡ 0 → ⊥) → (n : Notes) → P k n n) → EachNotes P (o ∷ notes) (m ∷ notes)
set_first P o m notes p h zero n is = (o, refl, subst (λ (z : Notes). P 0 o z) (let same : m ≡ n = cc in same) p)
set_first P o m notes p h (suc k) n is = (n, is, h (suc k) (λ q. absurd (omega (arith, q))) n)

set_rest : (P : ℕ → Notes → Notes → Type 0) (o : Notes) (old new : List Notes) → ((n : Notes) → P 0 n n) → EachNotes (λ k n n'. P (suc k) n n') old new → EachNotes P (o ∷ old) (o ∷ new)
set_rest P o old new h rest zero n is = (n, is, h n)
set_rest P o old new h rest (suc k) n is = rest k n is

pub each_set : (P : ℕ → Notes → Notes → Type 0) (notes : List Notes) (at : ℕ) (d m : Notes) → d ≡ slice_index_or notes at d → P at d m → ((k : ℕ) → (k ≡ at → ⊥) → (n : Notes) → P k n n) → EachNotes P notes (slice_set notes at m)
each_set P [] zero d m e p h = λ k n is. none_got k n is
each_set P [] (suc at) d m e p h = λ k n is. none_got k n is
each_set P (o ∷ notes) zero d m e p h = set_first P o m notes (subst (λ (z : Notes). P 0 z m) e p) h
each_set P (o ∷ notes) (suc at) d m e p h =
    set_rest P o notes (slice_set notes at m) (λ n. h 0 (λ q. absurd (omega (arith, q))) n)
    (each_set (λ k n n'. P (suc k) n n') notes at d m e p (λ k away n. h (suc k) (λ q. away (omega (arith, q))) n))

still : (frame : ℕ) (n : Notes) → GoesBy frame [] n n
still frame n = same_goes frame n n refl refl refl refl refl

pub stay_set : (frame : ℕ) (notes : List Notes) (at : ℕ) (d m : Notes) → d ≡ slice_index_or notes at d → GoesBy frame [] d m → MailsStay frame notes (slice_set notes at m)
stay_set frame notes at d m e g = each_set (λ k n n'. GoesBy frame [] n n') notes at d m e g (λ k away n. still frame n)

pub stay_same : (frame : ℕ) (notes : List Notes) → MailsStay frame notes notes
stay_same frame notes = λ k n is. (n, is, still frame n)

pub doubts_set : (notes : List Notes) (at : ℕ) (d m : Notes) → d ≡ slice_index_or notes at d → Doubts d m → AllDoubts notes (slice_set notes at m)
doubts_set notes at d m e g = each_set (λ k n n'. Doubts n n') notes at d m e g (λ k away n. none_doubt n)

pub doubts_same : (notes : List Notes) → AllDoubts notes notes
doubts_same notes = λ k n is. (n, is, none_doubt n)

-- ---- one step behind another

pub doubts_then : (a b c : List Notes) → AllDoubts a b → AllDoubts b c → AllDoubts a c
doubts_then a b c h g = λ k n is. let y = g k n is in let x = h k y.0 y.1 in (x.0, x.1, more_doubts x.0 y.0 n x.2 y.2)

pub mails_then : (frame : ℕ) (kinds : ℕ → List ReplyKind) (a b c : List Notes) → MailsGo frame kinds a b → MailsStay frame b c → MailsGo frame kinds a c
mails_then frame kinds a b c h g = λ k n is. let y = g k n is in let x = h k y.0 y.1 in (x.0, x.1, goes_then frame (kinds k) x.0 y.0 n x.2 y.2)

gave_there : (a b : List Notes) (k : ℕ) (n m : Notes) → gaves_noted b ≡ gaves_noted a → slice_get a k ≡ Some n → slice_get b k ≡ Some m → m.gave ≡ n.gave
gave_there [] b k n m e x y = none_got k n x
gave_there (o ∷ a) [] k n m e x y = none_got k m y
gave_there (o ∷ a) (p ∷ b) zero n m e x y =
    let f : p.gave ≡ o.gave = cc in let q : o ≡ n = cc in let r : p ≡ m = cc in ap (λ (z : Notes). z.gave) (sym r) ∙ f ∙ ap (λ (z : Notes). z.gave) q
gave_there (o ∷ a) (p ∷ b) (suc k) n m e x y = gave_there a b k n m (let f : gaves_noted b ≡ gaves_noted a = cc in f) x y

pub mails_more : (frame : ℕ) (kinds more : ℕ → List ReplyKind) (a b c : List Notes) → gaves_noted b ≡ gaves_noted a → MailsGo frame kinds a b → MailsGo frame more b c → MailsGo frame (λ k. kinds k ++ more k) a c
mails_more frame kinds more a b c same h g = λ k n is.
    let y = g k n is in
    let x = h k y.0 y.1 in (
      x.0,
      x.1,
      goes_more frame (kinds k) (more k) x.0 y.0 n (ap length (gave_there a b k x.0 y.0 same x.1 y.1)) x.2 y.2,
    )

-- of what is told so
pub mails_as : (frame : ℕ) (kinds more : ℕ → List ReplyKind) (a b : List Notes) → ((k : ℕ) → kinds k ≡ more k) → MailsGo frame kinds a b → MailsGo frame more a b
mails_as frame kinds more a b same h = λ k n is. let x = h k n is in (x.0, x.1, subst (λ (z : List ReplyKind). GoesBy frame z x.0 n) (same k) x.2)

-- ---- where no service changes

pub same_services : (notes : List Notes) (place : ℕ) (d n : Notes) → services_of n ≡ services_of (slice_index_or notes place d) → services_noted (slice_set notes place n) ≡ services_noted notes
same_services [] zero d n e = refl
same_services [] (suc place) d n e = refl
same_services (m ∷ notes) zero d n e = ap (λ z. z ∷ services_noted notes) e
same_services (m ∷ notes) (suc place) d n e = ap (λ z. services_of m ∷ z) (same_services notes place d n e)

each_same : (P : Notes → Notes → Type 0) → ((n m : Notes) → services_of m ≡ services_of n → m.gave ≡ n.gave → P n m) → (a b : List Notes) → services_noted b ≡ services_noted a → gaves_noted b ≡ gaves_noted a → EachNotes (λ k n n'. P n n') a b
each_same P h a b e g = λ k m is. go a b k m e g is
  where
    go : (a b : List Notes) (k : ℕ) (m : Notes) → services_noted b ≡ services_noted a → gaves_noted b ≡ gaves_noted a → slice_get b k ≡ Some m → (z : Notes) × (slice_get a k ≡ Some z) × P z m
    go a [] k m e g is = none_got k m is
    go [] (p ∷ b) k m e g is = absurd (cc)
    go (o ∷ a) (p ∷ b) zero m e g is =
        let f : services_of p ≡ services_of o = cc in
        let t : p.gave ≡ o.gave = cc in
        let q : p ≡ m = cc in (o, refl, h o m (ap services_of (sym q) ∙ f) (ap (λ (z : Notes). z.gave) (sym q) ∙ t))
    go (o ∷ a) (p ∷ b) (suc k) m e g is = go a b k m (let f : services_noted b ≡ services_noted a = cc in f) (let f : gaves_noted b ≡ gaves_noted a = cc in f) is

services_go : (frame : ℕ) (n m : Notes) → services_of m ≡ services_of n → m.gave ≡ n.gave → GoesBy frame [] n m
services_go frame n m e g = same_goes frame n m (λ i. (e i).0) (λ i. (e i).1) (λ i. (e i).2) (λ i. (e i).3) g

services_doubt : (n m : Notes) → services_of m ≡ services_of n → Doubts n m
services_doubt n m e = record {
  more = [];
  begun = (λ i. (e i).0) ∙ sym (append-nil n.begun);
  answers = (λ i. if (e i).2 then (e i).1 ++ InDoubt ∷ [] else (e i).1) ∙ sym (append-nil (answers_doubted n));
  hand = λ i. (e i).2;
}

pub stay_services : (frame : ℕ) (a b : List Notes) → services_noted b ≡ services_noted a → gaves_noted b ≡ gaves_noted a → MailsStay frame a b
stay_services frame a b e g = each_same (λ n n'. GoesBy frame [] n n') (λ n m s t. services_go frame n m s t) a b e g

pub doubts_services : (a b : List Notes) → services_noted b ≡ services_noted a → gaves_noted b ≡ gaves_noted a → AllDoubts a b
doubts_services a b e g = each_same (λ n n'. Doubts n n') (λ n m s t. services_doubt n m s) a b e g

-- ---- over events

-- where there is no such slave nothing is noted of what is told of it
pub beyond : (frame at : ℕ) (kinds : List ReplyKind) (notes : List Notes) → length notes ≤ at → MailsGo frame (told_only at kinds) notes notes
beyond frame at kinds notes over = λ k n is. (n, is, subst (λ (z : Bool). GoesBy frame (if z then kinds else []) n n) (sym (away k n is (at == k) refl)) (still frame n))
  where
    inside : (notes : List Notes) (k : ℕ) (n : Notes) → slice_get notes k ≡ Some n → k < length notes
    inside [] k n is = none_got k n is
    inside (o ∷ notes) zero n is = omega arith
    inside (o ∷ notes) (suc k) n is = let l = inside notes k n is in omega (arith, l)

    away : (k : ℕ) (n : Notes) → slice_get notes k ≡ Some n → (b : Bool) → (at == k) ≡ b → (at == k) ≡ false
    away k n is true e = absurd (let l = inside notes k n is in let q = eqb-true at k e in omega (arith, l, q, over))
    away k n is false e = e

pub past_end : {X : Type 0} (xs : List X) (k : ℕ) → None ≡ slice_get xs k → length xs ≤ k
past_end [] k e = omega arith
past_end (x ∷ xs) zero e = absurd (let bad : None ≡ Some x = e in cc)
past_end (x ∷ xs) (suc k) e = let l = past_end xs k e in omega (arith, l)

-- of one slave
pub told_set : (frame : ℕ) (notes : List Notes) (at : ℕ) (d m : Notes) (kinds : List ReplyKind) → d ≡ slice_index_or notes at d → GoesBy frame kinds d m → MailsGo frame (told_only at kinds) notes (slice_set notes at m)
told_set frame notes at d m kinds e g =
    each_set (λ k n n'. GoesBy frame (told_only at kinds k) n n') notes at d m e (subst (λ (z : Bool). GoesBy frame (if z then kinds else []) d m) (sym (eq-eqb at at refl)) g)
    (λ k away n. subst (λ (z : Bool). GoesBy frame (if z then kinds else []) n n) (sym (other k away (at == k) refl)) (still frame n))
  where
    other : (k : ℕ) → (k ≡ at → ⊥) → (b : Bool) → (at == k) ≡ b → (at == k) ≡ false
    other k away true e = absurd (away (sym (eqb-true at k e)))
    other k away false e = e

pub kinds_append : (k : ℕ) (es fs : List Event) → kinds_in k (es ++ fs) ≡ kinds_in k es ++ kinds_in k fs
kinds_append k [] fs = refl
kinds_append k (e ∷ es) fs = ap (λ z. kinds_of k e ++ z) (kinds_append k es fs) ∙ sym (append_assoc (kinds_of k e) (kinds_in k es) (kinds_in k fs))

pub kinds_next : (es : List Event) (i : ℕ) (e : Event) → i < length es → e ≡ get_or es i e → (k : ℕ) → kinds_in k (take i es) ++ kinds_of k e ≡ kinds_in k (take (i + 1) es)
kinds_next es i e inside is k =
    let more : take (i + 1) es ≡ take i es ++ e ∷ [] = ap (λ n. take n es) (add-one i) ∙ take-suc es i e inside ∙ ap (λ z. take i es ++ z ∷ []) (sym is) in
    ap (λ z. kinds_in k (take i es) ++ z) (sym (append-nil (kinds_of k e))) ∙ sym (kinds_append k (take i es) (e ∷ [])) ∙ ap (λ z. kinds_in k z) (sym more)

pub behind_next : (frame : ℕ) (es : List Event) (i : ℕ) (e : Event) (a b c : Log) → i < length es → e ≡ get_or es i e → b.homes ≡ a.homes → length b.notes ≡ length a.notes → gaves_noted b.notes ≡ gaves_noted a.notes → MailsBehind frame (λ k. kinds_in k (take i es)) a b → MailsBehind frame (λ k. kinds_of k e) b c →
    MailsBehind frame (λ k. kinds_in k (take (i + 1) es)) a c
behind_next frame es i e a b c inside is homes many same h g = λ at_home.
    mails_as frame (λ k. kinds_in k (take i es) ++ kinds_of k e) (λ k. kinds_in k (take (i + 1) es)) a.notes c.notes (kinds_next es i e inside is)
    (mails_more frame (λ k. kinds_in k (take i es)) (λ k. kinds_of k e) a.notes b.notes c.notes same (h at_home) (g (ap length homes ∙ at_home ∙ sym many)))

pub behind_last : (frame : ℕ) (es : List Event) (i : ℕ) (a b : Log) → length es ≤ i → MailsBehind frame (λ k. kinds_in k (take i es)) a b → MailsBehind frame (λ k. kinds_in k es) a b
behind_last frame es i a b over h = λ at_home. mails_as frame (λ k. kinds_in k (take i es)) (λ k. kinds_in k es) a.notes b.notes (λ k. ap (λ z. kinds_in k z) (take_all i es over)) (h at_home)

pub behind_as : (frame : ℕ) (kinds more : ℕ → List ReplyKind) (a b : Log) → ((k : ℕ) → kinds k ≡ more k) → MailsBehind frame kinds a b → MailsBehind frame more a b
behind_as frame kinds more a b same h = λ at_home. mails_as frame kinds more a.notes b.notes same (h at_home)

-- of an event that tells no answer
pub behind_none : (frame : ℕ) (kinds : ℕ → List ReplyKind) (a : Log) → ((k : ℕ) → [] ≡ kinds k) → MailsBehind frame kinds a a
behind_none frame kinds a same = λ at_home. mails_as frame (λ k. []) kinds a.notes a.notes same (stay_same frame a.notes)

pub only_none : (at k : ℕ) → told_only at [] k ≡ []
only_none at k = go (at == k)
  where
    go : (b : Bool) → (if b then (let none : List ReplyKind = [] in none) else []) ≡ []
    go true = refl
    go false = refl

-- ---- behind a return

pub stood_goes : (frame : ℕ) (n : Notes) (leaves opens : Bool) (from : ℕ) → GoesBy frame [] n (stood n leaves opens from)
stood_goes frame n leaves opens from = same_goes frame n (stood n leaves opens from) refl refl refl refl refl

pub told_goes : (frame : ℕ) (n : Notes) (told : Told) (value : List ℕ) (leaves opens : Bool) (from : ℕ) → n.awaited ≡ Awaited.Reply → GoesBy frame [] n (stood (told_noted told value from n) leaves opens from)
told_goes frame n told value leaves opens from w = goes_then frame [] n (told_noted told value from n) (stood (told_noted told value from n) leaves opens from) (by told) (stood_goes frame (told_noted told value from n) leaves opens from)
  where
    by : (told : Told) → GoesBy frame [] n (told_noted told value from n)
    by Told.Waits = still frame n
    by (Told.Answered kind) = replied_goes frame n (record { kind = kind; value = value }) from (ap awaits_nothing w)
    by Told.Unknown = still frame n

pub change_goes : (frame : ℕ) (n : Notes) (changed : Changed) (leaves opens : Bool) (from : ℕ) → n.awaited ≡ Awaited.Change → GoesBy frame [] n (stood (change_noted opens changed from n) leaves opens from)
change_goes frame n changed leaves opens from w =
    goes_then frame [] n (change_noted opens changed from n) (stood (change_noted opens changed from n) leaves opens from) (by opens n.up) (stood_goes frame (change_noted opens changed from n) leaves opens from)
  where
    one : (kind : ReplyKind) → GoesBy frame [] n (answered n (record { kind = kind; value = [] }) from)
    one kind = replied_goes frame n (record { kind = kind; value = [] }) from (ap awaits_nothing w)

    ended : (changed : Changed) → GoesBy frame [] n (changed_noted changed from n)
    ended Changed.Nothing = still frame n
    ended Changed.Going = still frame n
    ended Changed.Reached = one ReplyKind.Done
    ended (Changed.Refused code) = one (ReplyKind.StateRefused code)

    by : (opens up : Bool) → GoesBy frame [] n (if opens then (if up then changed_noted changed from n else answered n (record { kind = ReplyKind.Done; value = [] }) from) else n)
    by true true = ended changed
    by true false = one ReplyKind.Done
    by false up = still frame n

-- ---- before a frame

other_doubt : (n : Notes) (o : Origin) (frame : ℕ) → Doubts n (began_where n o frame)
other_doubt n o frame = by (awaits_nothing n.awaited)
  where
    by : (b : Bool) → Doubts n (if b then began n o frame else n)
    by true = one_doubt n (began n o frame) (record { origin = o; frame = frame }) refl refl refl
    by false = none_doubt n

pub began_doubt : (n : Notes) (o : Origin) (frame : ℕ) → Doubts n (noted_began n o frame)
began_doubt n (Script number) frame = none_doubt n
began_doubt n (Forward number) frame = other_doubt n (Forward number) frame
began_doubt n (Gateway number) frame = other_doubt n (Gateway number) frame

pub script_doubt : (n : Notes) (number : ℕ) (state : Bool) (frame : ℕ) → Doubts n (began_script n number state frame)
script_doubt n number state frame = one_doubt n (began_script n number state frame) (record { origin = Script n.scripted; frame = frame }) refl refl refl
