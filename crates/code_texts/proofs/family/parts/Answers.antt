use Rattle.std.proofs.Common.{lit<, rules}
use Rattle.std.proofs.lemmas.List.{take_all, drop_all}
use Rattle.std.proofs.lemmas.Str.Pattern.{split_once_first}
use Rattle.code_texts.specs.Rows.{code_of, text_of}
use Rattle.code_texts.proofs.family.parts.Goals as goal

pub returns-in-Some : goal.returns-in-Some
unfolding code_of text_of
returns-in-Some c = let h = split_once_first 32 c.args.row.now c.split_once.result c.split_once.ensures.cases (lit< tt) in search rules

pub returns-in-None : goal.returns-in-None
unfolding code_of text_of
returns-in-None c = let h = split_once_first 32 c.args.row.now c.split_once.result c.split_once.ensures.cases (lit< tt) in search (rules, take_all, drop_all)
