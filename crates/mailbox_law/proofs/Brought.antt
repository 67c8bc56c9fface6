-- Three accesses of a bring-up make a slave linked.
use Rattle.std.proofs.Common.{◌≡◌, ℕ, ◌<◌, ◌==◌, true, false, length, replicate, arith, refl, ap, sym, ◌∙◌, subst}
use Rattle.std.proofs.lemmas.Bool.{and_from, eq-eqb}
use Rattle.std.proofs.lemmas.List.{length-replicate}
use Rattle.al_state.specs.of_ec_fields.Fields.{number_at}
use Rattle.mailbox_slave.specs.of_esc_registers.declared.registers.Registers.{Registers}
use Rattle.mailbox_slave.specs.of_esc_registers.Registers.{first_registers, are_areas_right}
use Rattle.mailbox_slave.specs.of_esc_registers.Manager.{is_right}
use Rattle.mailbox_slave.specs.of_esc_registers.Access.{access}
use Rattle.al_state.specs.declared.bringing.BringUp.{BringUp}
use Rattle.al_state.specs.declared.bringing.BringStep.{BringStep}
use Rattle.al_state.specs.declared.bringing.BringStep.TheVariants.{Address, OutManager, InManager}
use Rattle.al_state.specs.BringUp.{head_of, octets_of, step_after, is_watch, manager_text}
use Rattle.mailbox_law.specs.Wire.{IsLinked}

-- an access of the bring-up at the slave
abbrev carried_out : Registers → BringUp → Registers
carried_out r up = (access r (head_of up 0) (octets_of up)).registers

abbrev bringing : ℕ → ℕ → BringStep → BringUp
bringing outward inward step = record { adp = 0; station = 4097; out_len = outward; in_len = inward; start = 2; again = false; step = step }

-- the length in the octets of a manager
length_in : (start len control : ℕ) → len < 65536 → number_at 2 (manager_text start len control 1) 2 ≡ len
length_in start len control e = omega arith

brought : ℕ → ℕ → Registers
brought outward inward = carried_out (carried_out (carried_out (first_registers outward inward) (bringing outward inward Address)) (bringing outward inward OutManager)) (bringing outward inward InManager)

manager_right : (start len control : ℕ) → len < 65536 → (number_at 2 (manager_text start len control 1) 2 == length (replicate {A = ℕ} len 0)) ≡ true
manager_right start len control e = eq-eqb (number_at 2 (manager_text start len control 1) 2) (length (replicate {A = ℕ} len 0)) (length_in start len control e ∙ sym (length-replicate {A = ℕ} len 0))

brought_right : (outward inward : ℕ) → outward < 65536 → inward < 65536 → are_areas_right (brought outward inward) ≡ true
unfolding brought
brought_right outward inward o i =
    let r = brought outward inward in
    let out = and_from _ true (and_from _ true (manager_right 4096 outward 38 o) refl) refl in
    let inn = and_from _ true (and_from _ true (manager_right 6144 inward 34 i) refl) refl in
    and_from (is_right 4096 38 r.out_manager) (is_right 6144 34 r.in_manager) out inn

brought_linked : (outward inward : ℕ) → outward < 65536 → inward < 65536 → IsLinked 4097 outward inward (brought outward inward)
unfolding brought
brought_linked outward inward o i = record { station = refl; right = brought_right outward inward o i; out_len = length-replicate {A = ℕ} outward 0; in_len = length-replicate {A = ℕ} inward 0 }

abbrev stepped : BringUp → BringUp
stepped u = record u { step = step_after u.again u.step }

-- from the registers and the bring-up step by step
pub linked_behind : (outward inward : ℕ) (r0 r1 r2 r3 : Registers) (u0 u1 u2 : BringUp) → outward < 65536 → inward < 65536 → r0 ≡ first_registers outward inward → u0 ≡ bringing outward inward Address → r1 ≡ carried_out r0 u0 → (is_watch u0.step ≡ false → u1 ≡ stepped u0) → r2 ≡ carried_out r1 u1 → (is_watch u1.step ≡ false → u2 ≡ stepped u1) → r3 ≡ carried_out r2 u2 → IsLinked 4097 outward inward r3
unfolding brought
linked_behind outward inward r0 r1 r2 r3 u0 u1 u2 o i e0 q0 e1 q1 e2 q2 e3 =
    let p1 : u1 ≡ bringing outward inward OutManager = q1 (ap (λ (u : BringUp). is_watch u.step) q0) ∙ ap (λ (u : BringUp). stepped u) q0 in
    let p2 : u2 ≡ bringing outward inward InManager = q2 (ap (λ (u : BringUp). is_watch u.step) p1) ∙ ap (λ (u : BringUp). stepped u) p1 in
    let f1 : r1 ≡ carried_out (first_registers outward inward) (bringing outward inward Address) = e1 ∙ ap (λ r. carried_out r u0) e0 ∙ ap (carried_out (first_registers outward inward)) q0 in
    let f2 = e2 ∙ ap (λ r. carried_out r u1) f1 ∙ ap (carried_out (carried_out (first_registers outward inward) (bringing outward inward Address))) p1 in
    let f3 : r3 ≡ brought outward inward = e3 ∙ ap (λ r. carried_out r u2) f2 ∙ ap (carried_out (carried_out (carried_out (first_registers outward inward) (bringing outward inward Address)) (bringing outward inward OutManager))) p2 in
    subst (IsLinked 4097 outward inward) (sym f3) (brought_linked outward inward o i)
