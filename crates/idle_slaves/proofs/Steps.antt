-- What a step of the processor leaves of mailbox 1.
use Rattle.std.proofs.Common.{◌≡◌, ◌≢◌, Bool, true, false, Option, Some, None, refl, sym, ap, ◌∙◌, subst, if◌then◌else◌}
use Rattle.plan_ring.specs.of_link_model.Gains.{HasStepped}
use Rattle.plan_ring.specs.of_link_model.Link.{Link, Event, happens}
use Rattle.plan_ring.specs.of_link_model.Mails.{LinkMail, differs, first_of}
use Rattle.plan_ring.specs.of_link_model.Slave.{Server, InSide, looked, noticed, request_answered, offers, mail_taken, all_taken, is_free, node_look, node_take}

-- A MAIL stays
looked_some : {B : Type 0} (s : InSide B) (b : LinkMail B) → s.box ≡ Some b → (looked s).box ≢ None
looked_some {B} s b e = subst (λ z. (request_answered (noticed s z s.offered)).box ≢ None) (sym e) (go (differs s.request s.acknowledge) s.last_read s.again)
  where
    some : s.box ≢ None
    some none = let both : Some b ≡ None = sym e ∙ none in cc

    go : (c : Bool) (last : Option (LinkMail B)) (again : Bool) →
        (if c then (let r = elim last as (λ _. InSide B) [ None ↦ s | Some m ↦ (if again then s else record s { box = Some m; offered = Some m; again = true; withdrawn = first_of s.offered s.withdrawn }) ] in record r { acknowledge = s.request }) else s).box ≢ None
    go false last again = some
    go true None again = some
    go true (Some m) true = some
    go true (Some m) false = λ none. cc

offers_some : {B : Type 0} (s : InSide B) (box withdrawn : Option (LinkMail B)) (next : Option B) → s.box ≡ box → box ≢ None → (offers s box withdrawn next).box ≢ None
offers_some s None withdrawn next e f = absurd (f refl)
offers_some s (Some b) withdrawn next e f = λ none. f (sym e ∙ none)

stays : {B S : Type 0} (v : Server B S) (w : Link B S) (box : Option (LinkMail B)) → w.node.inn.box ≡ box → box ≢ None → (happens v w Event.Pdi).node.inn.box ≢ None
stays v w None e f = absurd (f refl)
stays v w (Some b) e f =
    let k = node_take v (node_look w.node) in
    offers_some k.inn k.inn.box k.inn.withdrawn (v.next k.server) refl (looked_some w.node.inn b e)

pub full_stays : {B S : Type 0} (v : Server B S) (w : Link B S) → w.node.inn.box ≢ None → (happens v w Event.Pdi).node.inn.box ≢ None
full_stays v w f = stays v w w.node.inn.box refl f

-- AN EMPTY ONE of a slave with nothing to offer stays empty
same_bits : (a b : Bool) → a ≡ b → differs b a ≡ false
same_bits true true e = refl
same_bits true false e = absurd (cc)
same_bits false true e = absurd (cc)
same_bits false false e = refl

answered_same : {B : Type 0} (s : InSide B) → s.acknowledge ≡ s.request → request_answered s ≡ s
answered_same {B} s e = ap (λ (c : Bool). if c then (let t = elim s.last_read as (λ _. InSide B) [ None ↦ s | Some m ↦ (if s.again then s else record s { box = Some m; offered = Some m; again = true; withdrawn = first_of s.offered s.withdrawn }) ] in record t { acknowledge = s.request }) else s) (same_bits s.acknowledge s.request e)

looked_same : {B : Type 0} (s : InSide B) → s.box ≡ None → s.offered ≡ None → s.acknowledge ≡ s.request → looked s ≡ s
looked_same s e f bits = ap (λ z. request_answered (noticed s z s.offered)) e ∙ ap (λ z. request_answered (noticed s None z)) f ∙ answered_same s bits

offers_none : {B : Type 0} (s : InSide B) (box withdrawn : Option (LinkMail B)) (next : Option B) → box ≡ None → withdrawn ≡ None → next ≡ None → offers s box withdrawn next ≡ s
offers_none s None None None e f g = refl
offers_none s (Some b) withdrawn next e f g = absurd (cc)
offers_none s None (Some b) next e f g = absurd (cc)
offers_none s None None (Some b) e f g = absurd (cc)

pub empty_stays : {B S : Type 0} (v : Server B S) (w : Link B S) → HasStepped v w.node → w.node.inn.box ≡ None → w.node.out.box ≡ None → (happens v w Event.Pdi).node.inn.box ≡ None
empty_stays v w h e o =
    let n = w.node in
    let none = h.nothing e in
    let same : looked n.inn ≡ n.inn = looked_same n.inn e none.0 h.acknowledged in
    let free = is_free v (node_look n) in
    let next : v.next (all_taken v n.server (mail_taken n.out n.out.box free)) ≡ None = ap (λ z. v.next (all_taken v n.server (mail_taken n.out z free))) o ∙ none.2 in
    let box : (looked n.inn).box ≡ None = ap (λ z. z.box) same ∙ e in
    let withdrawn : (looked n.inn).withdrawn ≡ None = ap (λ z. z.withdrawn) same ∙ none.1 in
    ap (λ z. z.box) (offers_none (looked n.inn) (looked n.inn).box (looked n.inn).withdrawn (v.next (all_taken v n.server (mail_taken n.out n.out.box free))) box withdrawn next) ∙ box
