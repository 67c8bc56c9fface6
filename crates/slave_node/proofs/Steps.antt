-- A step in which mails are taken and offered.
use Rattle.std.proofs.Common.{◌≡◌, ℕ, Bool, false, Option, sym, ap, ap₂, ◌∙◌}
use Rattle.std.specs.Prelude.{if◌then◌else◌}
use Rattle.mailbox_slave.specs.of_mailbox_mail.declared.mail.Mail.{Mail}
use Rattle.al_state.specs.declared.machine.Al.{Al}
use Rattle.mailbox_slave.specs.of_esc_registers.declared.registers.Registers.{Registers}
use Rattle.mailbox_slave.specs.of_link_mails.Body.{Body}
use Rattle.mailbox_slave.specs.Kept.{Kept}
use Rattle.mailbox_slave.specs.Exact.{Boxes, Slave, slave_served}
use Rattle.slave_node.specs.Node.{Node, is_init}
use Rattle.slave_node.specs.Step.{looked, al_behind, word_behind, served, returned, acted, pdi_step}

module _ {S : Type 0} (take : S → Body → ℕ → S) (next : S → Option Mail) (rest : S → S) (clear : S → S) where
  abbrev node : Registers → Kept → Al → Bool → S → Node S
  node r k al boot s = record { registers = r; kept = k; al = al; boot = boot; server = s }

  abbrev stepped_from : Al → Bool → S → Boxes → Node S
  stepped_from al boot s b = acted take next rest clear b.registers.unhandled (node (word_behind boot b.registers al) b.kept (al_behind boot b.registers al) boot s)

  pub step_served : (boot : Bool) (al al_new : Al) (k looked_k new_k : Kept) (r looked_r word_r new_r : Registers) (s new_s : S) →
      (let b : Boxes = record { kept = looked_k; registers = looked_r } in b) ≡ looked al k r → al_new ≡ al_behind boot looked_r al → word_r ≡ word_behind boot looked_r al → is_init al_new ≡ false →
      (let t : Slave S = record { kept = new_k; registers = new_r; server = new_s } in t) ≡ slave_served take next rest al_new.state looked_k word_r s →
      node new_r new_k al_new boot new_s ≡ pdi_step take next rest clear (node r k al boot s)
  step_served boot al al_new k looked_k new_k r looked_r word_r new_r s new_s looks als words up serves =
      let mid = node word_r looked_k al_new boot s in
      ap (λ (t : Slave S). node t.registers t.kept al_new boot t.server) serves
      ∙ sym (ap (λ (b : Bool). if b then (if looked_r.unhandled then returned take next rest clear mid else mid) else served take next rest clear mid) up)
      ∙ ap₂ (λ (w : Registers) (a : Al). acted take next rest clear looked_r.unhandled (node w looked_k a boot s)) words als
      ∙ ap (stepped_from al boot s) looks
