-- Of two visits behind a step one gains.
use Rattle.std.proofs.Common.{◌≡◌, ◌≢◌, ◌⊎◌, ℕ, zero, suc, Bool, true, false, is_some, Option, Some, None, refl, sym, ap, ◌∙◌, subst, arith, if◌then◌else◌, inl, inr}
use Rattle.state_model.specs.of_link_model.Mails.{LinkMail, differs, first_of}
use Rattle.state_model.specs.of_link_model.Master.{InState}
use Rattle.state_model.specs.of_link_model.Slave.{Server, Node, InSide, looked, repeated, noticed, served, offers, is_free, node_look, node_take}
use Rattle.state_model.specs.of_link_model.Link.{Link, Fate, Event, happens}
use Rattle.state_model.specs.of_link_model.Agree.{Agrees}
use Rattle.state_model.specs.of_link_model.Gains.{gain_of, write_gain, read_gain, HasStepped, NothingLeft}
use Rattle.state_model.proofs.of_link_model.Gains.{clear_gains, clear_settled, hold_gains}
use Rattle.life_model.specs.Visits.{Visit, empty_gain, mails_visit, drain_visit, visit_gain, visited, steps, is_full, next_mails}

-- A STEP leaves a mail in mailbox 1
looked_some : {B : Type 0} (s : InSide B) (b : LinkMail B) → s.box ≡ Some b → (looked s).box ≢ None
looked_some {B} s b e = subst (λ z. (let t = noticed s z s.offered in (if differs t.request t.acknowledge then (let r = repeated t t.last_read in record r { acknowledge = t.request }) else t)).box ≢ None) (sym e) (go (differs s.request s.acknowledge) s.last_read s.again)
  where
    some : s.box ≢ None
    some none = let both : Some b ≡ None = sym e ∙ none in cc

    go : (c : Bool) (last : Option (LinkMail B)) (again : Bool) →
        (if c then (let r = elim last as (λ _. InSide B) [ None ↦ s | Some m ↦ (if again then s else record s { box = Some m; offered = Some m; again = true; withdrawn = first_of s.offered s.withdrawn }) ] in record r { acknowledge = s.request }) else s).box ≢ None
    go false last again = some
    go true None again = some
    go true (Some m) true = some
    go true (Some m) false = λ none. cc

offers_some : {B : Type 0} (s : InSide B) (box withdrawn : Option (LinkMail B)) (next : Option B) → s.box ≡ box → box ≢ None → (offers s box withdrawn next).box ≢ None
offers_some s None withdrawn next e f = absurd (f refl)
offers_some s (Some b) withdrawn next e f = λ none. f (sym e ∙ none)

box_stays : {B S : Type 0} (v : Server B S) (w : Link B S) (box : Option (LinkMail B)) → w.node.inn.box ≡ box → box ≢ None → (happens v w Event.Pdi).node.inn.box ≢ None
box_stays v w None e f = absurd (f refl)
box_stays v w (Some b) e f =
    let k = node_take v (node_look w.node) in
    offers_some k.inn k.inn.box k.inn.withdrawn (v.next k.server) refl (looked_some w.node.inn b e)

pub full_stays : {B S : Type 0} (v : Server B S) (k : ℕ) (w : Link B S) → w.node.inn.box ≢ None → (steps v k w).node.inn.box ≢ None
full_stays v zero w f = f
full_stays v (suc k) w f = full_stays v k (happens v w Event.Pdi) (box_stays v w w.node.inn.box refl f)

-- and mailbox 0 empty
empty_one : {B S : Type 0} (v : Server B S) (w : Link B S) → w.node.out.box ≡ None → (happens v w Event.Pdi).node.out.box ≡ None
empty_one v w e = let n = node_look w.node in ap (λ z. (served n.out z (is_free v n)).box) e ∙ e

pub empty_stays : {B S : Type 0} (v : Server B S) (k : ℕ) (w : Link B S) → w.node.out.box ≡ None → (steps v k w).node.out.box ≡ None
empty_stays v zero w e = e
empty_stays v (suc k) w e = empty_stays v k (happens v w Event.Pdi) (empty_one v w e)

-- and the halves
pub halves_stay : {B S : Type 0} (v : Server B S) (k : ℕ) (w : Link B S) → (steps v k w).halves ≡ w.halves
halves_stay v zero w = refl
halves_stay v (suc k) w = halves_stay v k (happens v w Event.Pdi)

-- A READ IN VAIN found nothing
read_none : {B : Type 0} (state : InState) (box : Option (LinkMail B)) (differ : Bool) → state ≡ InState.Clear → read_gain state box differ ≡ 0 → box ≡ None
read_none InState.Clear None differ e f = refl
read_none InState.Clear (Some m) differ e f = absurd (let one : 1 ≡ 0 = f in omega (arith, one))
read_none InState.Doubt box differ e f = absurd (cc)
read_none InState.Asked box differ e f = absurd (cc)
read_none InState.Refetch box differ e f = absurd (cc)

left_nothing : {B S : Type 0} (v : Server B S) (w : Link B S) → Agrees w → HasStepped v w.node → w.halves.inn.state ≡ InState.Clear → gain_of w (Event.In Fate.Pass) ≡ 0 → NothingLeft v w
left_nothing v w a s e none =
    let all = clear_settled v w a s e (read_none w.halves.inn.state w.node.inn.box (differs w.node.inn.acknowledge w.halves.inn.bit) e none) in
    record { accepted = all.0; withdrawn = all.1; next = all.2; out = all.3 }

-- A WRITE IN VAIN found mailbox 0 full, and so mailbox 1
write_full : {B S : Type 0} (v : Server B S) (w : Link B S) → HasStepped v w.node → w.halves.out.holding ≢ None → gain_of w (Event.Out Fate.Pass) ≡ 0 → w.node.inn.box ≢ None
write_full v w s h g = elim (hold_gains v w s h) [ inl one ↦ absurd (let no : 1 ≡ 0 = sym one ∙ g in omega (arith, no)) | inr both ↦ both.1 ]

-- a write of a mail held into an empty mailbox
write_gains : {B : Type 0} (holding box : Option (LinkMail B)) (m : LinkMail B) → holding ≡ Some m → box ≡ None → write_gain holding box ≡ 1
write_gains None box m e f = absurd (cc)
write_gains (Some k) None m e f = refl
write_gains (Some k) (Some b) m e f = absurd (cc)

-- FOR MAILS
abbrev Result : {B S : Type 0} → Server B S → Link B S → ℕ → Visit → Type 0
Result v w k visit = (let u = steps v k (visited v w visit) in visit_gain u (next_mails u visit) ≡ 1) ⊎ (NothingLeft v w × (w.halves.out.holding ≡ None))

behind_write : {B S : Type 0} (v : Server B S) (w : Link B S) (k : ℕ) → HasStepped v w.node → w.halves.inn.state ≡ InState.Clear → w.halves.out.holding ≢ None → gain_of w (Event.Out Fate.Pass) ≡ 0 → Result v w k Visit.Write
behind_write v w k s e h g =
    let a = happens v w (Event.Out Fate.Pass) in
    let u = steps v k a in
    let clear : u.halves.inn.state ≡ InState.Clear = ap (λ z. z.inn.state) (halves_stay v k a) ∙ e in
    inl (clear_gains u clear (full_stays v k a (write_full v w s h g)))

behind_read : {B S : Type 0} (v : Server B S) (w : Link B S) (k : ℕ) (holding : Option (LinkMail B)) → w.halves.out.holding ≡ holding → Agrees w → HasStepped v w.node → w.halves.inn.state ≡ InState.Clear → gain_of w (Event.In Fate.Pass) ≡ 0 → Result v w k Visit.Read
behind_read v w k None h a s e g = inr (left_nothing v w a s e g, h)
behind_read v w k (Some m) h a s e g =
    let b = happens v w (Event.In Fate.Pass) in
    let u = steps v k b in
    let holds : u.halves.out.holding ≡ Some m = ap (λ z. z.out.holding) (halves_stay v k b) ∙ h in
    let empty : u.node.out.box ≡ None = empty_stays v k b (left_nothing v w a s e g).out in
    inl (subst (λ z. visit_gain u (mails_visit false (is_some z)) ≡ 1) (sym holds) (write_gains u.halves.out.holding u.node.out.box m holds empty))

pub mails_twice : {B S : Type 0} (v : Server B S) (w : Link B S) (paused : Bool) (k : ℕ) → Agrees w → HasStepped v w.node → w.halves.inn.state ≡ InState.Clear →
    visit_gain w (mails_visit paused (is_some w.halves.out.holding)) ≡ 0 → Result v w k (mails_visit paused (is_some w.halves.out.holding))
mails_twice {B} v w paused k a s e g = go paused w.halves.out.holding refl g
  where
    go : (p : Bool) (holding : Option (LinkMail B)) → w.halves.out.holding ≡ holding → visit_gain w (mails_visit p (is_some holding)) ≡ 0 → Result v w k (mails_visit p (is_some holding))
    go true holding h g = behind_read v w k holding h a s e g
    go false None h g = behind_read v w k None h a s e g
    go false (Some m) h g = behind_write v w k s e (λ none. let both : Some m ≡ None = sym h ∙ none in cc) g

-- FOR A DRAIN
box_zero : {B S : Type 0} (v : Server B S) (n : Node B S) (box : Option (LinkMail B)) → n.out.box ≡ box → HasStepped v n → empty_gain box ≡ 0 → n.inn.box ≢ None
box_zero v n None e s g = absurd (omega (arith, g))
box_zero v n (Some b) e s g = (s.stays b e).1

sees_empty : {B : Type 0} (box : Option (LinkMail B)) → box ≡ None → empty_gain box ≡ 1
sees_empty None e = refl
sees_empty (Some b) e = absurd (cc)

pub drain_twice : {B S : Type 0} (v : Server B S) (w : Link B S) (turn : Bool) (k : ℕ) → Agrees w → HasStepped v w.node → w.halves.inn.state ≡ InState.Clear → visit_gain w (drain_visit turn) ≡ 0 →
    visit_gain (steps v k (visited v w (drain_visit turn))) (drain_visit (is_full (drain_visit turn))) ≡ 1
drain_twice v w true k a s e g =
    let b = happens v w (Event.In Fate.Pass) in
    sees_empty (steps v k b).node.out.box (empty_stays v k b (left_nothing v w a s e g).out)
drain_twice v w false k a s e g =
    let u = steps v k w in
    let clear : u.halves.inn.state ≡ InState.Clear = ap (λ z. z.inn.state) (halves_stay v k w) ∙ e in
    clear_gains u clear (full_stays v k w (box_zero v w.node w.node.out.box refl s g))
