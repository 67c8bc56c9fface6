use Rattle.std.proofs.Common.{◌++◌, ℕ, List, Option, Bor, map, ap, ◌∙◌}
use Rattle.near_words.specs.Hint.{hint}
use Rattle.near_words.specs.Near.{near}
use Rattle.people_call.specs.Explain.{unknown_line}
use Rattle.people_call.proofs.Known.{five}
use Rattle.people_call.proofs.explain.add_unknown.Goals as goal

pub returns : goal.returns
unfolding unknown_line
returns c =
    let meant = c.in_ok-near.ensures ∙ ap (λ (words : List (Bor (List ℕ))). near c.args.word.now (map (λ word. word.now) words)) c.as_slice.ensures.value ∙ ap (near c.args.word.now) c.in_ok-words.ensures in
    five c.args.line.now _ c.as_bytes.result.now c.args.word.now _ _ _ c.add.new.self c.add-2.new.self c.add-3.new.self c.add_hint.new.line c.add-4.new.self
    c.in_ok-add.ensures.ok c.in_ok-add-2.ensures.ok c.as_bytes.ensures.value c.in_ok-add-3.ensures.ok
    (c.in_ok-add_hint.ensures ∙ ap (λ (o : Option (List ℕ)). c.add-3.new.self ++ hint o) meant) c.in_ok-add-4.ensures.ok
