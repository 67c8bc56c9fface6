-- Too few words.
use Rattle.std.proofs.Common.{◌≡◌, ◌<◌, List, [], ◌∷◌, length, map, String, string_bytes, Option, None, refl, arith}
use Rattle.std.specs.declared.alloc.Global.{Global}
use Rattle.tool_call.specs.declared.asked.Asked.{Asked}
use Rattle.tool_call.specs.Asked.{asked_in}

pub few : (words : List (String Global)) → length words < 4 → ◌≡◌ {A = Option Asked} None (asked_in (map string_bytes words))
few [] below = refl
few (_ ∷ []) below = refl
few (_ ∷ _ ∷ []) below = refl
few (_ ∷ _ ∷ _ ∷ []) below = refl
few (_ ∷ _ ∷ _ ∷ _ ∷ words) below = absurd (omega arith)
