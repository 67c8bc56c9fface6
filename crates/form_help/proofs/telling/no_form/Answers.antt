use Rattle.std.proofs.Common.{◌++◌, ℕ, List, Option, Bor, map, ap, ◌∙◌}
use Rattle.near_words.specs.Hint.{hint}
use Rattle.near_words.specs.Near.{near}
use Rattle.form_help.specs.Help.{no_form}
use Rattle.form_help.proofs.Found.{five}
use Rattle.form_help.proofs.telling.no_form.Goals as goal

pub returns : goal.returns
unfolding no_form
returns c =
    let meant = c.in_ok-near.ensures ∙ ap (λ (names : List (Bor (List ℕ))). near c.args.word.now (map (λ name. name.now) names)) c.as_slice.ensures.value ∙ ap (near c.args.word.now) c.in_ok-names.ensures in
    five _ _ c.args.word.now _ _ _ c.in_ok-text.text c.add.new.self c.add-2.new.self c.add_hint.new.line c.add-3.new.self
    c.in_ok-text.ensures c.in_ok-add.ensures.ok c.as_bytes.ensures.value c.in_ok-add-2.ensures.ok
    (c.in_ok-add_hint.ensures ∙ ap (λ (o : Option (List ℕ)). c.add-2.new.self ++ hint o) meant) c.in_ok-add-3.ensures.ok
