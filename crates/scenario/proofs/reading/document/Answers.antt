use Rattle.std.proofs.Common.{◌≡◌, true, false}
use Rattle.std.specs.Str.{is_utf8}
use Rattle.std.proofs.lemmas.Str.{is_utf8-from_IsUtf8, IsUtf8-from_is_utf8}
use Rattle.std.proofs.lemmas.Bool.{false_from_ne_true}
use Rattle.scenario.specs.Document.{document_of}
use Rattle.scenario.proofs.reading.document.Goals as goal

pub returns-in-Ok : goal.returns-in-Ok
unfolding document_of
returns-in-Ok c =
    let text : is_utf8 c.args.bytes.now ≡ true = is_utf8-from_IsUtf8 c.args.bytes.now c.in-Ok.ensures.cases.1 in
    rw (text, ← c.in-Ok.ensures.cases.0) c.parse.ensures

pub returns-in-Err : goal.returns-in-Err
unfolding document_of
returns-in-Err c =
    let other : is_utf8 c.args.bytes.now ≡ false = false_from_ne_true (is_utf8 c.args.bytes.now) (λ text. c.in-Err.ensures.cases.0 (IsUtf8-from_is_utf8 c.args.bytes.now text)) in
    rw (c.refused.ensures, other)
