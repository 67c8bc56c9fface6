use Rattle.serving_model.proofs.Erasing.{slave_after-as, frame_after-as, serve-as}
use Rattle.serving_model.proofs.erasing_law.Goals as goal

pub returns-clause-slave : goal.returns-clause-slave
returns-clause-slave g c = λ f h station s ds. slave_after-as f h station s ds

pub returns-clause-frame : goal.returns-clause-frame
returns-clause-frame g c = λ f h station s ds. frame_after-as f h station s ds

pub returns-clause-step : goal.returns-clause-step
returns-clause-step g c = λ f h y x n agree. serve-as f h y x n agree
