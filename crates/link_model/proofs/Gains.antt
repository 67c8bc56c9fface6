-- The measure falls with each gain, and what a step of the processor makes gain.
use Rattle.std.proofs.Common.{◌≡◌, ◌≢◌, ℕ, ◌+◌, ◌*◌, ◌≤◌, Bool, true, false, is_none, ◌&&◌, Option, Some, None, List, [], ◌∷◌, ◌++◌, length, arith, refl, ap, sym, ◌∙◌, subst, inl, inr, ◌⊎◌, if◌then◌else◌, length-append}
use Rattle.std.proofs.lemmas.Grind.{common_steps}
use Rattle.std.proofs.lemmas.Bool.Decides.{nat_tests}
use Rattle.link_model.specs.Mails.{LinkMail, is_repeat, news, differs, first_of}
use Rattle.link_model.specs.Master.{InHalf, InState}
use Rattle.link_model.specs.Slave.{Node, Server, InSide, OutSide, noticed, all_taken, all_given, served, offers, mail_offered, mail_taken, repeated, looked, node_look, node_take, node_takes, is_free, processor_step}
use Rattle.link_model.specs.Link.{Link, Fate, Event, happens, run, new_link, out_sent, in_sent, held_after, in_news, in_half_after, out_half_after}
use Rattle.link_model.specs.Agree.{Agrees, InAgree, Knows}
use Rattle.link_model.specs.Gains.{count_of, steps_back, owed, write_gain, read_gain, gain_of, loss_of, on_return, on_loss, gains, losses, HasStepped}
use Rattle.link_model.proofs.Law.{happens_keeps, new_agrees}
use Rattle.link_model.proofs.Inward.{looked-is_noticed, IsNoticed}

-- a read in Clear that brings a mail brings a new one
pub clear_news : {B : Type 0} (h : InHalf) (s : InSide B) (offered accepted : List B) (m : LinkMail B) → h.state ≡ InState.Clear → s.box ≡ Some m → InAgree h s offered accepted → news h.last (Some m) ≡ m.body ∷ []
clear_news h s offered accepted m e f a = grind (arith, common_steps, nat_tests)

-- what one event gains is paid by a mail accepted or taken up, by a loss, or by what was owed
abbrev IsPaid : {B S : Type 0} → Link B S → ℕ → ℕ → Link B S → Type 0
IsPaid w gain loss new = (gain + owed new) + (length w.accepted + length w.held) ≤ (owed w + 3 * loss) + (length new.accepted + length new.held)

hold_paid : {B S : Type 0} (w : Link B S) (holding : Option (LinkMail B)) (body : B) → w.halves.out.holding ≡ holding → IsPaid w 0 0 (held_after w holding body)
hold_paid w (Some m) body e = omega arith
hold_paid w None body e = rw e (omega (arith, length-append w.held (body ∷ [])))

out_paid : {B S : Type 0} (w : Link B S) (n : Node B S) (holding box : Option (LinkMail B)) (fate : Fate) → w.halves.out.holding ≡ holding → IsPaid w (on_return fate (write_gain holding box)) 0 (record w { halves = record w.halves { out = out_half_after w.halves.out holding box fate }; node = n })
out_paid w n None box Fate.Pass e = omega arith
out_paid w n None box Fate.LostBefore e = omega arith
out_paid w n None box Fate.LostBehind e = omega arith
out_paid w n (Some m) None Fate.Pass e = omega (arith, ap count_of e)
out_paid w n (Some m) (Some b) Fate.Pass e = omega arith
out_paid w n (Some m) box Fate.LostBefore e = omega arith
out_paid w n (Some m) box Fate.LostBehind e = omega arith

asked_paid : {B S : Type 0} (w : Link B S) (n : Node B S) (differ : Bool) → w.halves.inn.state ≡ InState.Asked → IsPaid w (if differ then 0 else 1) 0 (record w { halves = record w.halves { inn = if differ then w.halves.inn else record w.halves.inn { state = InState.Refetch } }; node = n; accepted = w.accepted ++ [] })
asked_paid w n true e = omega (arith, length-append w.accepted [])
asked_paid w n false e = omega (arith, length-append w.accepted [], ap steps_back e)

in_paid : {B S : Type 0} (w : Link B S) (n : Node B S) (state : InState) (box : Option (LinkMail B)) (acknowledge : Bool) (fate : Fate) → w.halves.inn.state ≡ state → ((m : LinkMail B) → state ≡ InState.Clear → box ≡ Some m → news w.halves.inn.last (Some m) ≡ m.body ∷ []) → IsPaid w (on_return fate (read_gain state box (differs acknowledge w.halves.inn.bit))) (on_loss fate) (record w { halves = record w.halves { inn = in_half_after w.halves.inn state box acknowledge fate }; node = n; accepted = w.accepted ++ in_news w.halves.inn state box fate })
in_paid w n InState.Clear None acknowledge Fate.Pass e new = omega (arith, length-append w.accepted [], ap steps_back e)
in_paid w n InState.Clear (Some m) acknowledge Fate.Pass e new = omega (arith, length-append w.accepted (news w.halves.inn.last (Some m)), ap length (new m refl refl), ap steps_back e)
in_paid w n InState.Doubt box acknowledge Fate.Pass e new = omega (arith, length-append w.accepted [], ap steps_back e)
in_paid w n InState.Asked box acknowledge Fate.Pass e new = asked_paid w n (differs acknowledge w.halves.inn.bit) e
in_paid w n InState.Refetch box acknowledge Fate.Pass e new = omega (arith, length-append w.accepted (news w.halves.inn.last box), ap steps_back e)
in_paid w n InState.Clear box acknowledge Fate.LostBefore e new = omega (arith, length-append w.accepted [], ap steps_back e)
in_paid w n InState.Doubt box acknowledge Fate.LostBefore e new = omega (arith, length-append w.accepted [], ap steps_back e)
in_paid w n InState.Asked box acknowledge Fate.LostBefore e new = omega (arith, length-append w.accepted [], ap steps_back e)
in_paid w n InState.Refetch box acknowledge Fate.LostBefore e new = omega (arith, length-append w.accepted [], ap steps_back e)
in_paid w n InState.Clear box acknowledge Fate.LostBehind e new = omega (arith, length-append w.accepted [], ap steps_back e)
in_paid w n InState.Doubt box acknowledge Fate.LostBehind e new = omega (arith, length-append w.accepted [], ap steps_back e)
in_paid w n InState.Asked box acknowledge Fate.LostBehind e new = omega (arith, length-append w.accepted [], ap steps_back e)
in_paid w n InState.Refetch box acknowledge Fate.LostBehind e new = omega (arith, length-append w.accepted [], ap steps_back e)

-- one event
pub event_paid : {B S : Type 0} (v : Server B S) (w : Link B S) (e : Event B S) → Agrees w → IsPaid w (gain_of w e) (loss_of e) (happens v w e)
event_paid v w (Event.Hold body) a = hold_paid w w.halves.out.holding body refl
event_paid v w (Event.Out fate) a =
    out_paid w (out_sent w fate).node w.halves.out.holding w.node.out.box fate refl
event_paid v w (Event.In fate) a =
    in_paid w (in_sent w fate).node w.halves.inn.state w.node.inn.box w.node.inn.acknowledge fate refl (λ m e f. clear_news w.halves.inn w.node.inn w.offered w.accepted m e f a.inn)
event_paid v w Event.Pdi a = omega arith
event_paid v w (Event.Change f) a = omega arith

-- a list of events
pub all_paid : {B S : Type 0} (v : Server B S) (w : Link B S) (es : List (Event B S)) → Agrees w → (gains v w es + owed (run v w es)) + (length w.accepted + length w.held) ≤ (owed w + 3 * losses es) + (length (run v w es).accepted + length (run v w es).held)
all_paid v w [] a = omega arith
all_paid v w (e ∷ es) a =
    let here = event_paid v w e a in
    let behind = all_paid v (happens v w e) es (happens_keeps v w e a) in
    omega (arith, here, behind)

differs-false : (a b : Bool) → differs a b ≡ false → b ≡ a
differs-false true true e = refl
differs-false true false e = absurd (cc)
differs-false false true e = absurd (cc)
differs-false false false e = refl

requested : {B : Type 0} (s : InSide B) (asked : Bool) → differs s.request s.acknowledge ≡ asked → (let t = (if asked then (let r = repeated s s.last_read in record r { acknowledge = s.request }) else s) in t.acknowledge ≡ t.request)
requested {B} s true e = go s.last_read s.again
  where
    go : (last_read : Option (LinkMail B)) (again : Bool) → s.request ≡ (repeated s last_read).request
    go None again = refl
    go (Some m) again = by s.again
      where
        by : (again : Bool) → s.request ≡ (if again then s else record s { box = Some m; offered = Some m; again = true; withdrawn = first_of s.offered s.withdrawn }).request
        by true = refl
        by false = refl
requested s false e = differs-false s.request s.acknowledge e

-- behind steps 1 and 2 the request is acknowledged
pub looked-acknowledged : {B : Type 0} (s : InSide B) → (looked s).acknowledge ≡ (looked s).request
looked-acknowledged s = let t = noticed s s.box s.offered in requested t (differs t.request t.acknowledge) refl

offers_bits : {B : Type 0} (s : InSide B) (box withdrawn : Option (LinkMail B)) (next : Option B) → s.acknowledge ≡ s.request → (offers s box withdrawn next).acknowledge ≡ (offers s box withdrawn next).request
offers_bits s (Some b) withdrawn next e = e
offers_bits s None (Some m) next e = e
offers_bits s None None (Some body) e = e
offers_bits s None None None e = e

offers_nothing : {B S : Type 0} (v : Server B S) (k : Node B S) (box withdrawn : Option (LinkMail B)) (next : Option B) → k.inn.box ≡ box → k.inn.withdrawn ≡ withdrawn → v.next k.server ≡ next → IsNoticed k.inn → (let s = offers k.inn box withdrawn next in s.box ≡ None → (s.offered ≡ None) × (s.withdrawn ≡ None) × (v.next (all_given v k.server (mail_offered box withdrawn next)) ≡ None))
offers_nothing v k (Some b) withdrawn next e f g n = λ none. absurd (let both : Some b ≡ None = sym e ∙ none in cc)
offers_nothing v k None (Some m) next e f g n = λ none. absurd (let both : Some m ≡ None = none in cc)
offers_nothing v k None None (Some body) e f g n = λ none. absurd (cc)
offers_nothing v k None None None e f g n = λ none. (n e, f, g)

offers_full : {B : Type 0} (s : InSide B) (box withdrawn : Option (LinkMail B)) (next : Option B) → s.box ≡ box → ((is_none box && is_none withdrawn) && is_none next) ≡ false → (offers s box withdrawn next).box ≢ None
offers_full s (Some b) withdrawn next e free = λ none. let both : Some b ≡ None = sym e ∙ none in cc
offers_full s None (Some m) next e free = λ none. let both : Some m ≡ None = none in cc
offers_full s None None (Some body) e free = λ none. cc
offers_full s None None None e free = λ none. cc

-- a mail that step 4 leaves in mailbox 0 is new, and the slave was not free
serve_leaves : {B : Type 0} (s : OutSide B) (box : Option (LinkMail B)) (free : Bool) (m : LinkMail B) → s.box ≡ box → (served s box free).box ≡ Some m → (is_repeat (served s box free).last_taken m ≡ false) × (free ≡ false) × (mail_taken s box free ≡ [])
serve_leaves s None free m e f = absurd (cc)
serve_leaves {B} s (Some k) free m e f = go free (is_repeat s.last_taken k) refl f
  where
    go : (free repeat : Bool) → is_repeat s.last_taken k ≡ repeat → (if repeat then record s { box = None } else if free then record { box = None; last_taken = k.counter } else s).box ≡ Some m → (is_repeat (if repeat then record s { box = None } else if free then record { box = None; last_taken = k.counter } else s).last_taken m ≡ false) × (free ≡ false) × ((if repeat then [] else if free then k.body ∷ [] else []) ≡ [])
    go free true r f = absurd (let none : None ≡ Some m = f in cc)
    go true false r f = absurd (let none : None ≡ Some m = f in cc)
    go false false r f = (let same : Some k ≡ Some m = sym e ∙ f in let mail : k ≡ m = cc in ap (is_repeat s.last_taken) (sym mail) ∙ r, refl, refl)

node_leaves : {B S : Type 0} (v : Server B S) (n : Node B S) (taken : List B) → (is_free v n ≡ false) → taken ≡ [] → (let s = all_taken v n.server taken in (offers n.inn n.inn.box n.inn.withdrawn (v.next s)).box ≢ None)
node_leaves v n taken free none = let P : List _ → Type 0 = λ xs. (offers n.inn n.inn.box n.inn.withdrawn (v.next (all_taken v n.server xs))).box ≢ None in subst P (sym none) (offers_full n.inn n.inn.box n.inn.withdrawn (v.next n.server) refl free)

-- behind a step of the processor
pub processor_steps : {B S : Type 0} (v : Server B S) (n : Node B S) → HasStepped v (processor_step v n)
processor_steps v n =
    let l = node_look n in
    let k = node_take v l in
    record {
      acknowledged = offers_bits k.inn k.inn.box k.inn.withdrawn (v.next k.server) (looked-acknowledged n.inn);
      nothing = offers_nothing v k k.inn.box k.inn.withdrawn (v.next k.server) refl refl refl (looked-is_noticed n.inn);
      stays = λ m e. let left = serve_leaves l.out l.out.box (is_free v l) m refl e in (left.0, node_leaves v l (node_takes v l) left.1 left.2);
    }

asked_equal : {B : Type 0} (state : InState) (box : Option (LinkMail B)) (acknowledge bit : Bool) → state ≡ InState.Asked → acknowledge ≡ bit → read_gain state box (differs acknowledge bit) ≡ 1
asked_equal InState.Clear box acknowledge bit e f = absurd (cc)
asked_equal InState.Doubt box acknowledge bit e f = refl
asked_equal InState.Asked box true true e f = refl
asked_equal InState.Asked box true false e f = absurd (cc)
asked_equal InState.Asked box false true e f = absurd (cc)
asked_equal InState.Asked box false false e f = refl
asked_equal InState.Refetch box acknowledge bit e f = refl

-- in Asked the acknowledge then equals the half's bit, and its read gains
pub asked_gains : {B S : Type 0} (v : Server B S) (w : Link B S) → Agrees w → HasStepped v w.node → w.halves.inn.state ≡ InState.Asked → gain_of w (Event.In Fate.Pass) ≡ 1
asked_gains v w a s e =
    let knows : w.node.inn.request ≡ w.halves.inn.bit = (let P : InState → Type 0 = λ state. Knows state w.halves.inn w.node.inn in subst P e a.inn.knows) in
    asked_equal w.halves.inn.state w.node.inn.box w.node.inn.acknowledge w.halves.inn.bit e (s.acknowledged ∙ knows)

-- with nothing offered and nothing withdrawn, a half in Clear has accepted all that was offered
clear_all : {B : Type 0} (h : InHalf) (s : InSide B) (offered accepted : List B) → h.state ≡ InState.Clear → s.box ≡ None → s.offered ≡ None → s.withdrawn ≡ None → InAgree h s offered accepted → accepted ≡ offered
clear_all h s offered accepted e f g d a = grind (arith, common_steps, nat_tests)

box_is_empty : {B S : Type 0} (v : Server B S) (n : Node B S) (box : Option (LinkMail B)) → n.out.box ≡ box → HasStepped v n → n.inn.box ≡ None → n.out.box ≡ None
box_is_empty v n None e s f = e
box_is_empty v n (Some m) e s f = absurd ((s.stays m e).1 f)

-- in Clear, where mailbox 1 is empty: all that was offered was accepted, the slave has nothing to offer, and mailbox 0
-- is empty
pub clear_settled : {B S : Type 0} (v : Server B S) (w : Link B S) → Agrees w → HasStepped v w.node → w.halves.inn.state ≡ InState.Clear → w.node.inn.box ≡ None → (w.accepted ≡ w.offered) × (w.node.inn.withdrawn ≡ None) × (v.next w.node.server ≡ None) × (w.node.out.box ≡ None)
clear_settled v w a s e f =
    let none = s.nothing f in
    (clear_all w.halves.inn w.node.inn w.offered w.accepted e f none.0 none.1 a.inn, none.1, none.2, box_is_empty v w.node w.node.out.box refl s f)

-- else its read gains
read_gains : {B : Type 0} (state : InState) (box : Option (LinkMail B)) (differ : Bool) → state ≡ InState.Clear → box ≢ None → read_gain state box differ ≡ 1
read_gains InState.Clear None differ e f = absurd (f refl)
read_gains InState.Clear (Some m) differ e f = refl
read_gains InState.Doubt box differ e f = refl
read_gains InState.Asked box differ e f = absurd (cc)
read_gains InState.Refetch box differ e f = refl

pub clear_gains : {B S : Type 0} (w : Link B S) → w.halves.inn.state ≡ InState.Clear → w.node.inn.box ≢ None → gain_of w (Event.In Fate.Pass) ≡ 1
clear_gains w e f =
    read_gains w.halves.inn.state w.node.inn.box (differs w.node.inn.acknowledge w.halves.inn.bit) e f

-- the write of a mail held gains, unless both mailboxes are full
write_gains : {B S : Type 0} (v : Server B S) (n : Node B S) (holding box : Option (LinkMail B)) → n.out.box ≡ box → HasStepped v n → holding ≢ None → (write_gain holding box ≡ 1) ⊎ ((n.out.box ≢ None) × (n.inn.box ≢ None))
write_gains v n None box e s h = absurd (h refl)
write_gains v n (Some m) None e s h = inl refl
write_gains v n (Some m) (Some k) e s h = inr ((λ none. let both : Some k ≡ None = sym e ∙ none in cc), (s.stays k e).1)

pub hold_gains : {B S : Type 0} (v : Server B S) (w : Link B S) → HasStepped v w.node → w.halves.out.holding ≢ None → (gain_of w (Event.Out Fate.Pass) ≡ 1) ⊎ ((w.node.out.box ≢ None) × (w.node.inn.box ≢ None))
hold_gains v w s h = write_gains v w.node w.halves.out.holding w.node.out.box refl s h

-- what each event of the master may cost: a list of events without a loss gains at most what is owed and new
pub within : {B S : Type 0} (v : Server B S) (s : S) (es : List (Event B S)) → let w = run v (new_link s) es in gains v (new_link s) es ≤ 3 * losses es + (length w.accepted + length w.held)
within v s es = omega (arith, all_paid v (new_link s) es (new_agrees s))
