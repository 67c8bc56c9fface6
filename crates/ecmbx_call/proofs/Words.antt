-- The first word is one.
use Rattle.std.proofs.Common.{◌≡◌, ℕ, true, List, [], ◌∷◌, codes, sym, ◌∙◌}
use Rattle.std.proofs.lemmas.Slice.Eq.{bytes_eq-Decides}
use Rattle.tool_call.specs.Asked.{is_ask}
use Rattle.ecmbx_call.specs.First.{is_stream}

-- it isn't both `stream` and `ask`
pub one_first : (words : List (List ℕ)) → is_stream words ≡ true → is_ask words ≡ true → ⊥
one_first [] streams asks = absurd cc
one_first (word ∷ words) streams asks =
    let one : word ≡ codes "stream" = (bytes_eq-Decides word (codes "stream")).0 streams in
    let other : word ≡ codes "ask" = (bytes_eq-Decides word (codes "ask")).0 asks in
    let same : codes "stream" ≡ codes "ask" = sym one ∙ other in
    absurd cc
