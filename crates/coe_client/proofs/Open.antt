-- A client whose service is not over awaits a mail.
use Rattle.std.proofs.Common.{◌≡◌, ℕ, zero, suc, true, false, List, [], None, refl}
use Rattle.coe_client.specs.declared.state.Awaits.{Awaits}
use Rattle.coe_client.specs.Talk.{Talking, target_of, answers_from, awaited, is_replied, is_sound}
use Rattle.protocol_models.specs.Tables.{Target}

none_yet : (room : ℕ) (t : Target) (bytes value : List ℕ) (a : Awaits) → is_sound a value ≡ true → is_replied a ≡ false → answers_from room t bytes value a [] ≡ None
none_yet room t bytes value Awaits.Nothing sound open_yet = refl
none_yet room t bytes value Awaits.Acceptance sound open_yet = refl
none_yet room t bytes value (Awaits.SegmentAnswers zero toggle) sound open_yet = absurd (cc)
none_yet room t bytes value (Awaits.SegmentAnswers (suc left) toggle) sound open_yet = refl
none_yet room t bytes value Awaits.FirstAnswer sound open_yet = refl
none_yet room t bytes value (Awaits.Parts size toggle) sound open_yet = refl
none_yet room t bytes value (Awaits.Information opcode) sound open_yet = refl
none_yet room t bytes value (Awaits.Over kind) sound open_yet = absurd (cc)

pub not_over : (c : Talking) → is_sound c.awaits c.value ≡ true → is_replied c.awaits ≡ false → awaited c [] ≡ None
not_over c sound open_yet = none_yet c.room (target_of c.task) c.bytes c.value c.awaits sound open_yet
