use Rattle.std.proofs.Common.{lit<, ◌∙◌}
use Rattle.std.proofs.lemmas.Str.Pattern.{split_once_first}
use Rattle.entry_words.proofs.Parted.{with_colon, without_colon}
use Rattle.entry_words.proofs.what.parted.Goals as goal

pub returns-in-Some-clause-value : goal.returns-in-Some-clause-value
returns-in-Some-clause-value c =
    let cut = split_once_first 58 c.args.word.now c.split_once.result c.split_once.ensures.cases (lit< tt) in
    let found = rw c.in-Some.is at cut in
    with_colon c.args.word.now c.as_bytes.result.now c.as_bytes-in-Some.result.now c.entry.result (found.0, c.as_bytes.ensures.value ∙ found.1, c.as_bytes-in-Some.ensures.value ∙ found.2) c.entry.ensures.value

pub returns-in-None-clause-value : goal.returns-in-None-clause-value
returns-in-None-clause-value c =
    let cut = split_once_first 58 c.args.word.now c.split_once.result c.split_once.ensures.cases (lit< tt) in
    let none = rw c.in-None.is at cut in
    without_colon c.args.word.now c.as_bytes-in-None.result.now c.entry-in-None.result none c.as_bytes-in-None.ensures.value c.entry-in-None.ensures.value
