-- A MAIL THAT MAY COME is ready.
use Rattle.std.proofs.Common.{◌≡◌, ◌+◌, ℕ, zero, suc, true, Option, None, Some, List, [], ◌∷◌, refl, sym, ap, subst, arith}
use Rattle.std.specs.Prelude.{All, IfSome, slice_get}
use Rattle.std.proofs.lemmas.List.Elements.{All-head}
use Rattle.life_runs.specs.of_frame_view.View.{Lens}
use Rattle.life_runs.specs.of_state_model.Stated.{Service}
use Rattle.life_runs.specs.of_master_hand.Laying.{Waiting}
use Rattle.life_runs.specs.of_master_hand.Spoken.{Asked}
use Rattle.life_runs.specs.of_master_hand.declared.hand.InHand.{InHand}
use Rattle.life_runs.specs.of_master_side.declared.hand.Hand.{Ghosts}
use Rattle.life_runs.specs.of_master_tour.Made.{is_in}
use Rattle.life_runs.specs.of_master_tour.Walks.{StepsAt}
use Rattle.life_runs.specs.of_master_tour.declared.stop.Stop.{Stop}
use Rattle.life_runs.specs.Served.{Keyed, Serves}
use Rattle.master_node.specs.Passes.{IsMailReady, IsServing, LaysMail, MailWaits, ThreeFrom, waits_in}
use Rattle.master_node.specs.Serving.{MayPass}
use Rattle.master_node.specs.declared.coming.Coming.{Coming}
use Rattle.master_node.proofs.Lists.{steps_map, steps_some}
use Rattle.master_node.proofs.Mailed.{none_came}
use Rattle.master_node.proofs.ServedVisits.{Readied}

-- A MAIL THAT MAY COME is ready, since it fits the slave's mailbox
ready_mail : (coming : Option Coming) (room : ℕ) (ks : List Keyed) (w : Waiting) → LaysMail coming room ks w → MailWaits ks coming → All (λ k. MayPass room k) ks → IsMailReady coming w
ready_mail None room ks w h m f = tt
ready_mail (Some Coming.Packet) room ks w h m f = tt
ready_mail (Some Coming.Mail) room [] w h m f = absurd (m refl)
ready_mail (Some Coming.Mail) room (k ∷ ks) w h m f = (k.mail, (h (All-head (λ q. MayPass room q) k ks f)).1)
ready_mail (Some Coming.Script) room ks w h m f = tt
ready_mail (Some (Coming.State target)) room ks w h m f = tt

-- those that wait for the slave at a place fit it
fit_there : {G : Ghosts InHand} (lens : ℕ → Lens) (begun : ℕ → Option (Service Asked)) (made : ℕ) (left : List ℕ) (i n m : ℕ) (ws : List Serves) (kss : List (List Keyed)) (ss : List (Stop InHand G)) → m ≡ i + n → is_in m left ≡ true →
    ThreeFrom (λ j w ks s. IsServing lens begun made left j w ks s) i ws kss ss → IfSome (slice_get ss n) (λ s. All (λ k. MayPass s.side.out.len k) (waits_in kss n))
fit_there lens begun made left i n m [] [] [] e at h = tt
fit_there lens begun made left i n m [] [] (s ∷ ss) e at h = absurd h
fit_there lens begun made left i n m [] (ks ∷ kss) ss e at h = absurd h
fit_there lens begun made left i n m (w ∷ ws) [] ss e at h = absurd h
fit_there lens begun made left i n m (w ∷ ws) (ks ∷ kss) [] e at h = tt
fit_there lens begun made left i zero m (w ∷ ws) (ks ∷ kss) (s ∷ ss) e at h =
    let f : m ≡ i = omega (arith, e) in
    let room = (lens w.lead.lived.spot.station).out in
    let same = none_came room w.lead.script w.waits ks w.hand h.0.hand w.lead.number s.side.hand.laying.number (begun w.lead.lived.spot.place) h.0.comes (h.0.still (subst (λ z. is_in z left ≡ true) f at)) in
    subst (λ n. All (λ k. MayPass n k) ks) h.0.room (subst (λ z. All (λ k. MayPass room k) z) (sym same.waits_are) h.0.fits)
fit_there lens begun made left i (suc n) m (w ∷ ws) (ks ∷ kss) (s ∷ ss) e at h = fit_there lens begun made left (suc i) n m ws kss ss (omega (arith, e)) at h.1

pub mail_ready : {G : Ghosts InHand} (lens : ℕ → Lens) (begun : ℕ → Option (Service Asked)) (made : ℕ) (left : List ℕ) (coming : Option Coming) (place : ℕ) (ws : List Serves) (kss : List (List Keyed)) (s1 s2 : List (Stop InHand G)) → is_in place left ≡ true →
    ThreeFrom (λ i w ks s. IsServing lens begun made left i w ks s) 0 ws kss s1 → MailWaits (waits_in kss place) coming → StepsAt (λ s t. Readied coming (waits_in kss place) s t) place s1 s2 → StepsAt (λ s t. IsMailReady coming t.side.hand.laying) place s1 s2
mail_ready lens begun made left coming place ws kss s1 s2 at h waits readied =
    let got = waits_in kss place in
    steps_map _ (λ s t. IsMailReady coming t.side.hand.laying) place s1 s2
    (λ s t p. ready_mail coming t.side.out.len got t.side.hand.laying p.1.mail waits (subst (λ n. All (λ k. MayPass n k) got) (sym (ap (λ z. z.len) p.1.stays.side.side.out_is)) p.0))
    (steps_some (λ s. All (λ k. MayPass s.side.out.len k) got) (λ s t. Readied coming got s t) place s1 s2 readied (fit_there lens begun made left 0 place place ws kss s1 (omega arith) at h))
