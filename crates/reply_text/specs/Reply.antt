-- The text of a reply.
use Rattle.std.specs.Prelude.{ℕ, ◌-◌, ◌^◌, ◌==◌, false, List, [], ◌++◌, length, codes, if◌then◌else◌}
use Rattle.std.specs.Fmt.{digits, format_spec, padded_integral}
use Rattle.hex.specs.Hex.{encode_lower}
use Rattle.mailbox_mail.specs.declared.outcome.ReplyKind.{ReplyKind}
use Rattle.mailbox_mail.specs.declared.outcome.ReplyKind.TheVariants as kinds

-- a number in hexadecimal digits, with zeros in front up to this width
abbrev pub hex_of : ℕ → ℕ → List ℕ
hex_of width n = padded_integral (format_spec 32 0 4 width (2 ^ 64 - 1)) false [] (digits 16 false n)

-- a value, or the bare word where it is empty
abbrev pub value_text : List ℕ → List ℕ
value_text bytes = if length bytes == 0 then codes "value" else codes "value " ++ encode_lower bytes

-- what a service came to
abbrev pub kind_text : ReplyKind → List ℕ → List ℕ
kind_text kinds.Done value = codes "done"
kind_text kinds.Value value = value_text value
kind_text (kinds.Abort code) value = codes "abort " ++ hex_of 8 code
kind_text (kinds.FoeError code) value = codes "foe " ++ hex_of 4 code
kind_text (kinds.SoeError code) value = codes "soe " ++ hex_of 4 code
kind_text (kinds.EoeResult code) value = codes "eoe " ++ hex_of 4 code
kind_text (kinds.MailboxError detail) value = codes "mailbox " ++ hex_of 4 detail
kind_text (kinds.StateRefused code) value = codes "refused " ++ hex_of 4 code
kind_text kinds.Handed value = codes "handed"
