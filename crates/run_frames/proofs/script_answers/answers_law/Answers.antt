use Rattle.std.proofs.Common.{[]}
use Rattle.run_frames.proofs.Losses.{passes_so, loses_so}
use Rattle.run_frames.proofs.Turns.{turns_so}
use Rattle.run_frames.proofs.script_answers.answers_law.Goals as goal

pub returns-clause-turns : goal.returns-clause-turns
returns-clause-turns c = λ lens made ds a u y. turns_so lens made ds a u y

pub returns-clause-passes : goal.returns-clause-passes
returns-clause-passes c = λ lens recover retry made gives f u before. passes_so lens recover gives made f [] u before

pub returns-clause-loses : goal.returns-clause-loses
returns-clause-loses c = λ lens recover retry made after gives f u before. loses_so lens recover gives made f [] u before after
