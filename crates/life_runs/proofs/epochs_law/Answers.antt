use Rattle.life_runs.proofs.Causes.{have_cause}
use Rattle.life_runs.proofs.Opened.{open_theirs}
use Rattle.life_runs.proofs.Spans.{turns_so, passes_so, loses_so}
use Rattle.life_runs.proofs.epochs_law.Goals as goal

pub returns-clause-turns : goal.returns-clause-turns
returns-clause-turns c = λ lens made ds a u y. turns_so lens made ds a u y

pub returns-clause-passes : goal.returns-clause-passes
returns-clause-passes c = λ lens recover retry made gives f u. passes_so lens recover retry made gives f u.lived u.share

pub returns-clause-loses : goal.returns-clause-loses
returns-clause-loses c = λ lens recover retry made after gives f u. loses_so lens recover retry made gives f u.lived u.share after

pub returns-clause-causes : goal.returns-clause-causes
returns-clause-causes c = λ lens plan retry fs missed as' led. have_cause as' (open_theirs lens plan retry fs missed as' led)

pub returns-clause-states : goal.returns-clause-states
returns-clause-states c = λ lens plan retry fs missed as' led. open_theirs lens plan retry fs missed as' led
