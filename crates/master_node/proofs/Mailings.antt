-- WHAT WAITS FOR A SLAVE, and the oldest of it that is laid ready.
use Rattle.std.proofs.Common.{◌≡◌, ◌<◌, ℕ, zero, suc, Option, None, Some, List, [], ◌∷◌, ◌+◌, ◌≤◌, refl, sym, ap, ◌∙◌, subst, length, arith, get_or, set}
use Rattle.std.specs.Prelude.{map, drop, slice_get}
use Rattle.life_runs.specs.of_master_hand.Laying.{Waiting, ready_by, ready_of}
use Rattle.life_runs.specs.of_master_hand.Passed.{mail_of}
use Rattle.life_runs.specs.of_master_hand.Spoken.{passed}
use Rattle.life_runs.specs.of_master_hand.declared.laying.Laid.{Laid}
use Rattle.life_runs.specs.of_mailbox_mail.declared.mail.Mail.{Mail}
use Rattle.life_runs.specs.of_master_tour.Walks.{StepsAt}
use Rattle.life_runs.specs.of_segment_plan.declared.service.Service.{Service}
use Rattle.life_runs.specs.Served.{Keyed}
use Rattle.master_node.specs.Coming.{IsComing}
use Rattle.master_node.specs.Passes.{IsNextState, IsReady, MailWaits, ScriptLast, waits_behind, waits_in}
use Rattle.master_node.specs.Serving.{MayPass, waits_of}
use Rattle.master_node.specs.declared.coming.Coming.{Coming}
use Rattle.master_node.specs.declared.post.Asked.{Asked}
use Rattle.master_node.specs.declared.post.Post.{Post}
use Rattle.master_node.proofs.Lists.{steps_same}
use Rattle.master_node.proofs.Servings.{keyed}

-- at a place
pub waits_here : (ps : List Post) (place : ℕ) (p : Post) → place < length ps → p ≡ get_or ps place p → waits_in (map waits_of ps) place ≡ waits_of p
waits_here [] place p l e = absurd (omega (arith, l))
waits_here (q ∷ ps) zero p l e = ap waits_of (sym e)
waits_here (q ∷ ps) (suc place) p l e = waits_here ps place p (omega (arith, l)) e

none_keyed : (as' : List Asked) → map keyed as' ≡ [] → as' ≡ []
none_keyed [] e = refl
none_keyed (a ∷ as') e = absurd (cc)

pub none_waits : (p : Post) → waits_of p ≡ [] → p.mails.items ≡ []
none_waits p e = none_keyed p.mails.items e

-- none waits at a post that has no mail
pub none_left : (ps : List Post) (place : ℕ) (p : Post) → place < length ps → p ≡ get_or ps place p → p.mails.items ≡ [] → waits_in (map waits_of ps) place ≡ []
none_left ps place p l e n = waits_here ps place p l e ∙ ap (λ z. map keyed z) n

-- so the script may go on
pub script_last : (ks : List Keyed) (coming : Option Coming) → ks ≡ [] → ScriptLast ks coming
script_last ks None e = tt
script_last ks (Some Coming.Packet) e = tt
script_last ks (Some Coming.Mail) e = tt
script_last ks (Some Coming.Script) e = e
script_last ks (Some (Coming.State target)) e = e

pub many_wait : (ps : List Post) → length (map waits_of ps) ≡ length ps
many_wait [] = refl
many_wait (p ∷ ps) = ap suc (many_wait ps)

drop_keyed : (as' : List Asked) → map keyed (drop 1 as') ≡ drop 1 (map keyed as')
drop_keyed [] = refl
drop_keyed (a ∷ as') = refl

-- the oldest waits no longer
pub waits_taken : (as' bs : List Asked) → bs ≡ drop 1 as' → map keyed bs ≡ drop 1 (map keyed as')
waits_taken as' bs e = ap (map keyed) e ∙ drop_keyed as'

pub waits_set : (coming : Option Coming) (ps : List Post) (place : ℕ) (v w : Post) → place < length ps → v ≡ get_or ps place v → waits_of w ≡ waits_behind coming (waits_of v) →
    StepsAt (λ ks ls. ls ≡ waits_behind coming ks) place (map waits_of ps) (map waits_of (set ps place w))
waits_set coming [] place v w l e h = absurd (omega (arith, l))
waits_set coming (p ∷ ps) zero v w l e h = (h ∙ ap (λ z. waits_behind coming (waits_of z)) e, refl)
waits_set coming (p ∷ ps) (suc place) v w l e h = (refl, waits_set coming ps place v w (omega (arith, l)) e h)

-- and all others do
pub waits_stay : (coming : Option Coming) (place : ℕ) (ps : List Post) (kss : List (List Keyed)) → ((ks : List Keyed) → waits_behind coming ks ≡ ks) → place < length ps → kss ≡ map waits_of ps → StepsAt (λ ks ls. ls ≡ waits_behind coming ks) place (map waits_of ps) kss
waits_stay coming place ps kss h l e =
    let n = many_wait ps in
    subst (λ z. StepsAt (λ ks ls. ls ≡ waits_behind coming ks) place (map waits_of ps) z) (sym e) (steps_same _ place (map waits_of ps) (omega (arith, l, n)) (λ ks. sym (h ks)))

-- what comes of the script is no mail that is passed on
pub next_state : (next : Option Service) (coming : Option Coming) → IsComing next coming → IsNextState next coming
next_state next None i = tt
next_state next (Some Coming.Packet) i = tt
next_state next (Some Coming.Mail) i = absurd i
next_state next (Some Coming.Script) i = tt
next_state next (Some (Coming.State target)) i = i

pub mail_waits : (ks : List Keyed) (next : Option Service) (coming : Option Coming) → IsComing next coming → MailWaits ks coming
mail_waits ks next None i = tt
mail_waits ks next (Some Coming.Packet) i = tt
mail_waits ks next (Some Coming.Mail) i = absurd i
mail_waits ks next (Some Coming.Script) i = tt
mail_waits ks next (Some (Coming.State target)) i = tt

-- THE OLDEST IS LAID READY
ready_mail : (w : Waiting) (m : Mail) → w.laid ≡ Laid.Mail → w.mail ≡ record { kind = m.kind; body = m.body } → m.address ≡ 0 → m.counter ≡ 0 → ready_of w ≡ Some (passed m)
ready_mail w m l e a n =
    ap (λ z. ready_by z w) l ∙ ap (λ z. Some (passed (mail_of z))) e ∙ (λ i. Some (passed (record { address = sym a i; kind = m.kind; counter = sym n i; body = m.body })))

pub ready_so : (room : ℕ) (p : Post) (a : Asked) (w : Waiting) → Some a ≡ slice_get p.mails.items 0 → (6 + length a.mail.body.items ≤ room → (w.laid ≡ Laid.Mail) × (w.mail ≡ record { kind = a.mail.kind; body = a.mail.body })) → IsReady room (waits_of p) w
ready_so room p a w e h = go p.mails.items e
  where
    go : (as' : List Asked) → Some a ≡ slice_get as' 0 → IsReady room (map keyed as') w
    go [] f = tt
    go (b ∷ bs) f =
        let same : b ≡ a = cc in
        λ m. let fits = subst (λ z. MayPass room (keyed z)) same m in
        let l = h fits.2 in
        subst (λ z. (w.laid ≡ Laid.Mail) × (ready_of w ≡ Some (passed z.mail))) (sym same) (l.0, ready_mail w a.mail l.0 l.1 fits.0 fits.1)

pub ready_none : (room : ℕ) (p : Post) (w : Waiting) → slice_get p.mails.items 0 ≡ None → IsReady room (waits_of p) w
ready_none room p w e = go p.mails.items e
  where
    go : (as' : List Asked) → slice_get as' 0 ≡ None → IsReady room (map keyed as') w
    go [] f = tt
    go (b ∷ bs) f = absurd (cc)
