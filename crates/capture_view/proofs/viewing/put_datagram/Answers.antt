use Rattle.std.proofs.Common.{rules, ◌≡◌, ◌++◌, [], List, ℕ, Bool, true, sym, ap, ◌∙◌}
use Rattle.std.specs.Prelude.{if◌then◌else◌}
use Rattle.mailbox_mail.specs.Mail.{mail_read}
use Rattle.capture_view.specs.Lines.{datagram_line}
use Rattle.capture_view.specs.View.{mail_lines, moves_mail, body_of, datagram_lines}
use Rattle.capture_view.proofs.Telling.{stops, goes_on, tells_nothing}
use Rattle.capture_view.proofs.viewing.put_datagram.Goals as goal

pub returns-in_err-map_err : goal.returns-in_err-map_err
returns-in_err-map_err g c = tells_nothing (datagram_lines c.args.frame.now c.args.part.now) c.from_residual.result (search rules)

pub returns-in_err-put_line : goal.returns-in_err-put_line
returns-in_err-put_line g c =
    let rest = if moves_mail c.args.part.now.head then mail_lines (mail_read (body_of c.args.frame.now c.args.part.now)) else [] in
    let first : datagram_line c.args.part.now.head ≡ c.as_str.result.now = search rules in
    stops rest (datagram_lines c.args.frame.now c.args.part.now) c.in_err-put_line.field-0.0 c.from_residual-in_err-put_line.result c.put_line.ensures (search rules) (search rules)
    (ap (λ (t : List ℕ). t ++ rest) first)

pub returns-then-moves_mail : goal.returns-then-moves_mail
returns-then-moves_mail g c =
    let lines = mail_lines (mail_read (body_of c.args.frame.now c.args.part.now)) in
    let first : datagram_line c.args.part.now.head ≡ c.as_str.result.now = search rules in
    let moves : moves_mail c.args.part.now.head ≡ true = sym c.moves_mail.ensures ∙ c.if-moves_mail.true in
    let second : lines ≡ mail_lines (mail_read c.body_of.result.now) = ap (λ (t : List ℕ). mail_lines (mail_read t)) (sym c.body_of.ensures) in
    goes_on (datagram_lines c.args.frame.now c.args.part.now) c.put_line.ensures (search rules) c.put_mail.ensures
    (ap (λ (b : Bool). datagram_line c.args.part.now.head ++ (if b then lines else [])) moves ∙ ap (λ (t : List ℕ). t ++ lines) first ∙ ap (λ (t : List ℕ). c.as_str.result.now ++ t) second)
