-- The documents that octets are.
use Rattle.std.specs.Prelude.{ℕ, List, Option, Some, None, option_and_then, if◌then◌else◌}
use Rattle.std.specs.Str.{is_utf8}
use Rattle.toml.specs.Data.{Members}
use Rattle.toml.specs.Parse.{parse_document}

-- octets as a text, where they are one of UTF-8
unfoldable pub text_in : List ℕ → Option (List ℕ)
text_in octets = if is_utf8 octets then Some octets else None

-- THE DOCUMENT that octets are, where they are one: a text of UTF-8 that is TOML
unfoldable pub document_in : List ℕ → Option Members
document_in octets = option_and_then parse_document (text_in octets)
