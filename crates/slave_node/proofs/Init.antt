-- In Init the box stays a new one.
use Rattle.std.proofs.Common.{◌≡◌, Bool, true, false, refl, sym, ap, ◌∙◌}
use Rattle.std.specs.Prelude.{if◌then◌else◌}
use Rattle.al_state.specs.declared.machine.Al.{Al}
use Rattle.mailbox_slave.specs.of_esc_registers.declared.registers.Registers.{Registers}
use Rattle.mailbox_slave.specs.of_esc_registers.Manager.{is_repeat_asked}
use Rattle.mailbox_slave.specs.Kept.{Kept}
use Rattle.mailbox_slave.specs.Exact.{Boxes, with_acknowledge, kept_noticed, request_answered, boxes_looked}
use Rattle.slave_node.specs.Node.{new_box, is_init}
use Rattle.slave_node.specs.Step.{looked}

new_by : (b : Bool) (r s : Registers) → (if b then (let c : Boxes = record { kept = new_box; registers = s } in c) else record { kept = new_box; registers = r }).kept ≡ new_box
new_by true r s = refl
new_by false r s = refl

pub stays_new : (al : Al) (old new : Kept) (r s : Registers) → (is_init al ≡ true → old ≡ new_box) → (let b : Boxes = record { kept = new; registers = s } in b) ≡ looked al old r → is_init al ≡ true → new ≡ new_box
stays_new al old new r s first exact is =
    ap (λ (b : Boxes). b.kept) exact
    ∙ ap (λ (b : Bool). (if b then request_answered old r else boxes_looked old r).kept) is
    ∙ ap (λ (k : Kept). (request_answered k r).kept) (first is)
    ∙ new_by (is_repeat_asked r.in_manager) r (with_acknowledge r)

noticed_new : (full : Bool) → kept_noticed new_box full ≡ new_box
noticed_new true = refl
noticed_new false = refl

-- and step 1 has nothing to see there
looks_by : (b : Bool) (k : Kept) (r : Registers) → (b ≡ true → k ≡ new_box) → boxes_looked k r ≡ (if b then request_answered k r else boxes_looked k r)
looks_by true k r first = ap (λ (n : Kept). boxes_looked n r) (first refl) ∙ ap (λ (n : Kept). request_answered n r) (noticed_new r.in_manager.full) ∙ sym (ap (λ (n : Kept). request_answered n r) (first refl))
looks_by false k r first = refl

pub looks : (al : Al) (k : Kept) (r : Registers) → (is_init al ≡ true → k ≡ new_box) → boxes_looked k r ≡ looked al k r
looks al k r first = looks_by (is_init al) k r first
