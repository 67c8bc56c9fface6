-- A STEP of a running slave is the session's.
use Rattle.std.proofs.Common.{◌≡◌, ℕ, Bool, ap, ap₂, sym, ◌∙◌}
use Rattle.frames_seen.specs.of_esc_registers.declared.registers.Registers as Esc
use Rattle.frames_seen.specs.of_exchange_model.Exchange.{Exchange}
use Rattle.frames_seen.specs.of_link_model.Slave.{node_look, node_serve, node_seen}
use Rattle.frames_seen.proofs.of_link_model.Servers.{step_seen}
use Rattle.frames_seen.specs.of_link_mails.Body.{Body}
use Rattle.frames_seen.specs.of_mailbox_slave.Kept.{Kept}
use Rattle.frames_seen.specs.of_mailbox_slave.Node.{node_of, server_of}
use Rattle.frames_seen.specs.of_segment_model.Slaves.{Registers, Serving, Processor, serving, slave_steps, state_told, Slave}
use Rattle.frames_seen.specs.Slaves.{registers_seen, slave_of}
use Rattle.slave_lives.specs.Steps.{Running, IsServedAs, HasStepped, StaysUp, word_carried, node_steps}

-- in any state but Init, on both sides, it is the five steps
pub up_steps : {S : Type 0} (u : Running S) (boot : Bool) (r q : Esc.Registers) (k j : Kept) (s t : S) → HasStepped u boot r q k j s t → StaysUp boot r →
    node_of j q t ≡ node_serve (server_of u.take u.next u.rest (word_carried boot r).state) (node_look (node_of k r s))
up_steps u boot r q k j s t steps up =
    steps.node ∙ ap₂ (λ a b. node_steps a b (server_of u.take u.next u.rest (word_carried boot r).state) u.clear (node_of k r s)) up.was up.now

pub step_view : {S V A Q R : Type 0} (x : Exchange V A Body Q R) (processor : Processor V) (u : Running S) (f : ℕ → S → Serving V Body)
    (boot : Bool) (r q : Esc.Registers) (k j : Kept) (s t : S) → IsServedAs x processor u f → processor.carry (registers_seen r) ≡ word_carried boot r →
    HasStepped u boot r q k j s t → StaysUp boot r →
    slave_of j q (f (registers_seen q).state t) ≡ slave_steps x processor (slave_of k r (f (registers_seen r).state s))
step_view {V = V} x processor u f boot r q k j s t served carries steps up =
    let al = (word_carried boot r).state in
    let was = (registers_seen r).state in
    let state : (registers_seen q).state ≡ al = ap (λ (p : Registers). p.state) steps.registers in
    let told = served.told was al s in
    let node : node_of j q (f al t) ≡ node_serve (serving x) (state_told processor al (node_look (node_of k r (f was s)))) =
    ap (node_seen (f al)) (up_steps u boot r q k j s t steps up)
    ∙ step_seen (server_of u.take u.next u.rest al) (serving x) (f al) (served.seen al) (node_of k r s)
    ∙ ap (λ v. node_serve (serving x) (node_look (node_of k r v))) (sym told) in
    let stepped : Registers → Slave V Body = λ p. record { node = node_serve (serving x) (state_told processor p.state (node_look (node_of k r (f was s)))); registers = p } in
    let first : slave_of j q (f (registers_seen q).state t) ≡ stepped (word_carried boot r) = λ i. record { node = (ap (λ a. node_of j q (f a t)) state ∙ node) i; registers = steps.registers i } in
    first ∙ ap stepped (sym carries)

-- and the five steps, between states that aren't Init, are it
pub steps_up : {S : Type 0} (u : Running S) (boot : Bool) (r q : Esc.Registers) (k j : Kept) (s t : S) → StaysUp boot r → registers_seen q ≡ word_carried boot r →
    node_of j q t ≡ node_serve (server_of u.take u.next u.rest (word_carried boot r).state) (node_look (node_of k r s)) → HasStepped u boot r q k j s t
steps_up u boot r q k j s t up registers node = record {
  registers = registers;
  node = node ∙ sym (ap₂ (λ a b. node_steps a b (server_of u.take u.next u.rest (word_carried boot r).state) u.clear (node_of k r s)) up.was up.now);
}
