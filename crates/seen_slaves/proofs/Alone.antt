-- A step of the mailboxes alone, as another sees it.
use Rattle.std.proofs.Common.{◌≡◌, ℕ, Option, sym, ap, ◌∙◌}
use Rattle.idle_slaves.specs.of_exchange_model.Exchange.{Exchange}
use Rattle.idle_slaves.specs.of_link_model.Slave.{node_look, node_serve}
use Rattle.seen_slaves.specs.Steps.{IsStanding}
use Rattle.idle_slaves.specs.of_segment_model.Slaves.{Processor, Registers, Slave, serving}
use Rattle.served_rings.specs.of_serving_model.Erasing.{slave_as}
use Rattle.idle_slaves.specs.of_state_model.Stated.{Stated}
use Rattle.idle_slaves.specs.of_state_model.States.{Table, carry}
use Rattle.idle_slaves.specs.Steps.{StepsAlone}
use Rattle.idle_slaves.specs.of_state_model.Accounts.{Duty}

pub alone_as : {V A N P S W B M Q R : Type 0} (x : Exchange V A N P S) (s : Stated V A P) (table : Table) (hand : Option Duty) (n : Slave V N) → IsStanding x s table hand n → (f : N → M) (server : V → W) (u : Exchange W B M Q R) (processor : Processor W) (tell : ℕ → W → W) (state : W → ℕ) →
    ((r : Registers) → processor.carry r ≡ carry table r) → ((al : ℕ) (w : W) → processor.tell al w ≡ tell al w) → ((w : W) → tell (state w) w ≡ w) → ((v : V) → state (server v) ≡ s.state (x.app v)) → StepsAlone u processor table hand (slave_as f server n)
alone_as {W = W} x s table hand n k f server u processor tell state carries tells same states =
    let w : W = server n.node.server.server in
    record {
      registers = carries n.registers;
      node = λ none.
          let al : (processor.carry n.registers).state ≡ state w = ap (λ (z : Registers). z.state) (carries n.registers) ∙ k.state none ∙ sym (states n.node.server.server ∙ k.stands) in
          let told : processor.tell (processor.carry n.registers).state w ≡ w = tells (processor.carry n.registers).state w ∙ ap (λ (z : ℕ). tell z w) al ∙ same w in
          ap (λ (z : W). node_serve (serving u) (let m = node_look (slave_as f server n).node in record m { server = record m.server { server = z } })) told;
    }
