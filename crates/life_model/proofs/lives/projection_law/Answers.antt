-- The lemmas on one slave, at the types of the function.
use Rattle.life_model.proofs.Owns.{own-slave, own-frame, own-passes}
use Rattle.life_model.proofs.lives.projection_law.Goals as goal

pub returns-clause-slave : goal.returns-clause-slave
returns-clause-slave g c = λ station s ds seen open_. own-slave station s ds seen open_

pub returns-clause-frame : goal.returns-clause-frame
returns-clause-frame g c = λ station s ds seen open_. own-frame station s ds seen open_

pub returns-clause-passes : goal.returns-clause-passes
returns-clause-passes g c = λ station other s ds apart seen free. own-passes station other s ds apart seen free
