-- What comes into hand at a visit is next of the slave's script, or a packet.
use Rattle.std.proofs.Common.{◌≡◌, ◌⊎◌, inl, inr, ◌<◌, ℕ, zero, suc, Bool, true, false, Option, Some, None, List, [], ◌∷◌, refl, sym, ap, ◌∙◌, subst, arith, length, ◌%◌}
use Rattle.std.specs.Prelude.{is_some, slice_get, if◌then◌else◌}
use Rattle.life_runs.specs.Led.{Comes}
use Rattle.life_runs.specs.of_master_hand.Laying.{Waiting, Scripted, scripted, scripted_behind, asked_next, ready_of, ready_by}
use Rattle.life_runs.specs.of_master_hand.Spoken.{Asked, is_passed}
use Rattle.life_runs.specs.of_master_hand.Talk.{asked_of}
use Rattle.life_runs.specs.of_master_hand.declared.laying.Laid.{Laid}
use Rattle.life_runs.specs.of_master_side.Shown.{wish_begun, takes_ready, wished}
use Rattle.life_runs.specs.of_master_side.declared.carried.Wish.{Wish}
use Rattle.life_runs.specs.of_segment_plan.declared.service.Service as Plan
use Rattle.life_runs.specs.of_segment_plan.declared.service.Service.{Service}
use Rattle.life_runs.specs.of_state_model.Stated as Stated
use Rattle.life_runs.proofs.Quiet.{none_in, passed_in}
use Rattle.master_node.specs.Coming.{IsComing, IsLaid, wish_of}
use Rattle.master_node.specs.declared.coming.Coming.{Coming}

-- a change of state that came into hand is passed by
abbrev pub NumberBehind : Bool → Option Coming → Scripted → ℕ → Type 0
NumberBehind true (Some (Coming.State target)) s n = s.number < length s.script → n ≡ suc s.number
NumberBehind true None s n = n ≡ s.number
NumberBehind true (Some Coming.Packet) s n = n ≡ s.number
NumberBehind true (Some Coming.Mail) s n = n ≡ s.number
NumberBehind true (Some Coming.Script) s n = n ≡ s.number
NumberBehind false coming s n = n ≡ s.number

none_comes : (room : ℕ) (script : List Service) (n m : ℕ) → m ≡ n → Comes room script n None m
none_comes room script n m e = subst (λ z. Comes room script n None z) (sym e) Comes.none

pub got_inside : (script : List Service) (n : ℕ) (s : Service) → slice_get script n ≡ Some s → n < length script
got_inside [] n s e = absurd (cc)
got_inside (x ∷ xs) zero s e = omega arith
got_inside (x ∷ xs) (suc n) s e = let l = got_inside xs n s e in omega (arith, l)

-- the next service of the script
script_comes : (room : ℕ) (script : List Service) (n m : ℕ) (next : Option Service) → slice_get script n ≡ next → is_some (asked_next room next) ≡ true → m ≡ suc n → Comes room script n (wished Wish.Mails (asked_next room next)) m
script_comes room script n m None e i l = absurd (cc)
script_comes room script n m (Some s) e i l = go (asked_of room s) refl i
  where
    go : (a : Option Asked) → asked_of room s ≡ a → is_some a ≡ true → Comes room script n (wished Wish.Mails a) m
    go None f j = absurd (cc)
    go (Some q) f j = subst (λ z. Comes room script n (Some (Stated.Service.Mails q)) z) (sym l) (Comes.mails s q e f)

packet_comes : (room : ℕ) (w : Waiting) (m : ℕ) (laid : Laid) → (laid ≡ Laid.Packet) ⊎ (laid ≡ Laid.Nothing) → is_some (ready_by laid w) ≡ true → m ≡ w.number → Comes room w.script w.number (wished Wish.Mails (ready_by laid w)) m
packet_comes room w m Laid.Packet o i l = subst (λ z. Comes room w.script w.number (wished Wish.Mails (ready_by Laid.Packet w)) z) (sym l) (Comes.packet w.packet w.frame)
packet_comes room w m Laid.Nothing o i l = absurd (cc)
packet_comes room w m Laid.Script (inl e) i l = absurd (cc)
packet_comes room w m Laid.Script (inr e) i l = absurd (cc)
packet_comes room w m Laid.Mail (inl e) i l = absurd (cc)
packet_comes room w m Laid.Mail (inr e) i l = absurd (cc)

packet_number : (w : Waiting) (laid : Laid) → w.laid ≡ laid → (laid ≡ Laid.Packet) ⊎ (laid ≡ Laid.Nothing) → (scripted_behind w).number ≡ w.number
packet_number w Laid.Packet e o = ap (λ z. (scripted_behind (record w { laid = z })).number) e
packet_number w Laid.Nothing e o = ap (λ z. (scripted_behind (record w { laid = z })).number) e
packet_number w Laid.Script e (inl f) = absurd (cc)
packet_number w Laid.Script e (inr f) = absurd (cc)
packet_number w Laid.Mail e (inl f) = absurd (cc)
packet_number w Laid.Mail e (inr f) = absurd (cc)

-- WHAT CAME, by what was laid ready
pub came_by : (coming : Option Coming) (result : Bool) (room : ℕ) (w : Waiting) (s : Scripted) (n : ℕ) → w.areas.out ≡ room → IsComing (slice_get w.script w.number) coming → IsLaid coming w.laid →
    (takes_ready result (wish_of coming) ≡ true → is_some (ready_of w) ≡ true) → s ≡ (if takes_ready result (wish_of coming) then scripted_behind w else scripted w) → NumberBehind result coming s n →
    Comes room w.script w.number (wish_begun result (wish_of coming) (ready_of w)) n
came_by coming false room w s n r c l i e b = none_comes room w.script w.number n (b ∙ ap (λ z. z.number) e)
came_by None true room w s n r c l i e b = none_comes room w.script w.number n (b ∙ ap (λ z. z.number) e)
came_by (Some Coming.Packet) true room w s n r c l i e b =
    packet_comes room w n w.laid l (i refl) (b ∙ ap (λ z. z.number) e ∙ packet_number w w.laid refl l)
came_by (Some Coming.Mail) true room w s n r c l i e b = absurd c
came_by (Some Coming.Script) true room w s n r c l i e b =
    let next = slice_get w.script w.number in
    let ready : ready_of w ≡ asked_next room next = ap (λ z. ready_by z w) l ∙ ap (λ z. asked_next z next) r in
    subst (λ z. Comes room w.script w.number (wished Wish.Mails z) n) (sym ready)
    (script_comes room w.script w.number n next refl (ap is_some (sym ready) ∙ i refl) (b ∙ ap (λ z. z.number) e ∙ ap (λ z. (scripted_behind (record w { laid = z })).number) l))
came_by (Some (Coming.State target)) true room w s n r c l i e b =
    let at = b (subst (λ z. z.number < length z.script) (sym e) (got_inside w.script w.number (Plan.Service.State c.0) c.1)) ∙ ap (λ z. suc z.number) e in
    subst (λ z. Comes room w.script w.number (Some (Stated.Service.State z)) n) (sym c.2) (subst (λ z. Comes room w.script w.number (Some (Stated.Service.State (c.0 % 16))) z) (sym at) (Comes.state c.0 c.1))

-- no mail that is passed on
next_own : (room : ℕ) (next : Option Service) → passed_in (asked_next room next) ≡ false
next_own room None = refl
next_own room (Some s) = none_in room s

ready_own : (w : Waiting) (laid : Laid) → (laid ≡ Laid.Mail → ⊥) → passed_in (ready_by laid w) ≡ false
ready_own w Laid.Nothing n = refl
ready_own w Laid.Script n = next_own w.areas.out (slice_get w.script w.number)
ready_own w Laid.Packet n = refl
ready_own w Laid.Mail n = absurd (n refl)

laid_own : (coming : Option Coming) (next : Option Service) (result : Bool) (laid : Laid) → IsComing next coming → IsLaid coming laid → takes_ready result (wish_of coming) ≡ true → laid ≡ Laid.Mail → ⊥
laid_own coming next false laid c l t m = cc
laid_own None next true laid c l t m = cc
laid_own (Some Coming.Packet) next true laid c (inl l) t m = absurd (let e = sym l ∙ m in cc)
laid_own (Some Coming.Packet) next true laid c (inr l) t m = absurd (let e = sym l ∙ m in cc)
laid_own (Some Coming.Mail) next true laid c l t m = absurd c
laid_own (Some Coming.Script) next true laid c l t m = absurd (let e = sym l ∙ m in cc)
laid_own (Some (Coming.State target)) next true laid c l t m = cc

pub ready_unpassed : (coming : Option Coming) (result : Bool) (w : Waiting) → IsComing (slice_get w.script w.number) coming → IsLaid coming w.laid → takes_ready result (wish_of coming) ≡ true → (q : Asked) → ready_of w ≡ Some q → is_passed q ≡ false
ready_unpassed coming result w c l t q e = ap passed_in (sym e) ∙ ready_own w w.laid (laid_own coming (slice_get w.script w.number) result w.laid c l t)
