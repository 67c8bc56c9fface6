-- The words of the command line.
use Rattle.std.proofs.Common.{◌≡◌, ◌<◌, ◌≤◌, List, [], ◌∷◌, length, map, get_or, String, string_bytes, ap, arith}
use Rattle.std.specs.declared.alloc.Global.{Global}
use Rattle.ecmbx_words.specs.Form.{pair_in, form_in}

-- two words
pub pair_at : (words : List (String Global)) (word : String Global) → 2 ≤ length words → length words < 3 → word ≡ get_or words 0 word → pair_in (string_bytes word) ≡ form_in (map string_bytes words)
pair_at [] word least below is = absurd (omega arith)
pair_at (a ∷ []) word least below is = absurd (omega arith)
pair_at (a ∷ b ∷ []) word least below is = ap (λ (w : String Global). pair_in (string_bytes w)) is
pair_at (a ∷ b ∷ d ∷ words) word least below is = absurd (omega arith)
