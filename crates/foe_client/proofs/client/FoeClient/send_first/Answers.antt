use Rattle.std.proofs.Common.{◌≡◌, ◌-◌, true, sym, ap, ◌∙◌, subst, arith}
use Rattle.std.proofs.lemmas.Grind.{common_steps}
use Rattle.foe_client.specs.declared.state.Unsent.{Unsent}
use Rattle.foe_client.specs.Talk.{Talking, following, is_next}
use Rattle.foe_client.proofs.Sends.{next_stays}
use Rattle.foe_client.proofs.client.FoeClient.send_first.Goals as goal

pub invariant_of-self : goal.invariant_of-self
invariant_of-self c =
    let inside = c.self.inside in
    let behind = c.following-self-inside.ensures ∙ ap (λ (t : Talking). following t.out t.bytes t.unsent) (sym c.self.view_is) in
    let some : inside.quota ≡ 0 → ⊥ = λ none. omega (arith, none, c.requires, ap (λ (t : Talking). t.quota) c.self.view_is) in
    let next : is_next c.following-self-inside.result (inside.quota - 1) inside.awaits ≡ true =
    subst (λ (u : Unsent). is_next u (inside.quota - 1) inside.awaits ≡ true) (sym behind)
    (next_stays inside.out inside.bytes.octets inside.unsent inside.quota inside.awaits some c.self.invariant.9) in
    grind (arith, common_steps, next)
