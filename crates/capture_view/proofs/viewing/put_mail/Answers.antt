use Rattle.std.proofs.Common.{rules, ◌≡◌, ◌++◌, List, ℕ, sym, ap, ◌∙◌}
use Rattle.mailbox_mail.specs.Mail.{mail_read}
use Rattle.mailbox_mail.specs.View.{mail_seen}
use Rattle.capture_view.specs.Lines.{mail_line}
use Rattle.capture_view.specs.Bodies.{body_line}
use Rattle.capture_view.specs.View.{mail_lines}
use Rattle.capture_view.proofs.Telling.{stops, goes_on}
use Rattle.capture_view.proofs.viewing.put_mail.Goals as goal

pub returns-in_err-put_line : goal.returns-in_err-put_line
returns-in_err-put_line g c =
    let first : mail_line (mail_seen c.in-Ok.mail) ≡ c.as_str.result.now = search rules in
    let rest = body_line c.in-Ok.mail.kind c.in-Ok.mail.body.now in
    let whole : mail_lines (mail_read c.args.octets.now) ≡ c.as_str.result.now ++ rest =
    ap mail_lines (sym c.in-Ok.ensures.mail) ∙ ap (λ (t : List ℕ). t ++ rest) first in
    stops rest (mail_lines (mail_read c.args.octets.now)) c.in_err-put_line.field-0.0 c.from_residual-in_err-put_line.result c.put_line.ensures (search rules) (search rules) whole

pub returns : goal.returns
returns g c =
    let first : mail_line (mail_seen c.in-Ok.mail) ≡ c.as_str.result.now = search rules in
    let second : body_line c.in-Ok.mail.kind c.in-Ok.mail.body.now ≡ c.as_str-2.result.now = search rules in
    let rest = body_line c.in-Ok.mail.kind c.in-Ok.mail.body.now in
    let whole : mail_lines (mail_read c.args.octets.now) ≡ c.as_str.result.now ++ c.as_str-2.result.now =
    ap mail_lines (sym c.in-Ok.ensures.mail) ∙ ap (λ (t : List ℕ). t ++ rest) first ∙ ap (λ (t : List ℕ). c.as_str.result.now ++ t) second in
    goes_on (mail_lines (mail_read c.args.octets.now)) c.put_line.ensures (search rules) c.put_line-2.ensures whole
