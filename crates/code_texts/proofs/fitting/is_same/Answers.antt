use Rattle.std.proofs.Common.{rules}
use Rattle.std.proofs.lemmas.Slice.Eq.{bytes_eq-Decides}
use Rattle.code_texts.specs.Fitting.{is_same}
use Rattle.code_texts.proofs.fitting.is_same.Goals as goal

pub returns : goal.returns
unfolding is_same
returns c = search (rules, bytes_eq-Decides)
