use Rattle.std.proofs.Common.{◌≡◌, ◌⊎◌, inl, inr, ℕ, Bool, true, false, sym, ap, subst, ◌∙◌}
use Rattle.coe_client.specs.declared.state.Awaits.{Awaits}
use Rattle.coe_client.specs.Talk.{Talking, is_sound, is_replied}
use Rattle.coe_client.proofs.Open.{not_over}
use Rattle.coe_client.proofs.client.CoeClient.is_done.Goals as goal

open_yet : (a : Awaits) → (a ≡ Awaits.Nothing) ⊎ ((a ≡ Awaits.Acceptance) ⊎ (((x : ℕ) × (y : Bool) × (a ≡ Awaits.SegmentAnswers x y)) ⊎ ((a ≡ Awaits.FirstAnswer) ⊎ (((x : ℕ) × (y : Bool) × (a ≡ Awaits.Parts x y)) ⊎ ((x : ℕ) × (a ≡ Awaits.Information x)))))) →
    is_replied a ≡ false
open_yet a (inl e) = ap is_replied e
open_yet a (inr (inl e)) = ap is_replied e
open_yet a (inr (inr (inl e))) = ap is_replied e.2
open_yet a (inr (inr (inr (inl e)))) = ap is_replied e
open_yet a (inr (inr (inr (inr (inl e))))) = ap is_replied e.2
open_yet a (inr (inr (inr (inr (inr e))))) = ap is_replied e.1

pub returns-in-Nothing : goal.returns-in-Nothing
returns-in-Nothing c =
    let same = ap (λ (t : Talking). t.awaits) c.self.view_is in
    let over : is_replied c.args.self.now.awaits ≡ false = ap is_replied (sym same) ∙ open_yet c.self.inside.awaits c.in-Nothing.is in
    let sound : is_sound c.args.self.now.awaits c.args.self.now.value ≡ true = subst (λ (t : Talking). is_sound t.awaits t.value ≡ true) c.self.view_is c.self.invariant.4 in
    record { over = sym over; yet = λ e. not_over c.args.self.now sound over }
