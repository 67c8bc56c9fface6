use Rattle.std.proofs.Common.{◌≡◌, false, ◌∙◌}
use Rattle.std.specs.Str.{is_utf8}
use Rattle.std.proofs.lemmas.Str.{IsUtf8-from_is_utf8}
use Rattle.std.proofs.lemmas.Bool.{false_from_ne_true}
use Rattle.toml_places.specs.Document.{text_in}
use Rattle.toml_places.proofs.places.wrong_in.Goals as goal

pub returns-in-Err : goal.returns-in-Err
unfolding text_in
returns-in-Err c =
    let other : is_utf8 c.args.octets.now ≡ false = false_from_ne_true (is_utf8 c.args.octets.now) (λ text. c.in-Err.ensures.cases.0 (IsUtf8-from_is_utf8 c.args.octets.now text)) in
    record { no_text = rw other; within = rw c.valid_up_to.ensures c.in-Err.ensures.cases.1.short; first = c.valid_up_to.ensures ∙ c.in-Err.ensures.valid_len }
