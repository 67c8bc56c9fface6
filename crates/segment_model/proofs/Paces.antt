-- A slave whose processor steps behind each frame: each empty read counts.
use Rattle.std.proofs.Common.{◌≡◌, ℕ, suc, ◌%◌, ◌==◌, ◌&&◌, true, not, List, [], ◌∷◌, refl, ap, ◌∙◌, arith, if◌then◌else◌}
use Rattle.std.proofs.lemmas.Bool.Decides.{nat_tests}
use Rattle.segment_model.specs.Slaves.{grams}
use Rattle.segment_model.specs.Record.{Frame, Kept, frame_news, kept_after, news_each, counted_each, did_read}

each_divides : (n : ℕ) → (n % 1 == 0) ≡ true
each_divides n = grind (arith, nat_tests)

pub counted_one : {M : Type 0} (station j : ℕ) (kept : Kept) (fs : List (Frame M)) → counted_each station 1 j true fs (news_each station kept fs) ≡ news_each station kept fs
counted_one station j kept [] = refl
counted_one station j kept (f ∷ fs) =
    ap (λ b. frame_news station kept f ∷ counted_each station 1 (suc j) (if b then true else true && not (did_read station (grams f.back))) fs (news_each station (kept_after station kept f) fs)) (each_divides (suc j))
    ∙ ap (λ l. frame_news station kept f ∷ l) (counted_one station (suc j) (kept_after station kept f) fs)
