-- The lemmas on a step of the processor, at the types of the function.
use Rattle.link_model.proofs.Gains.{processor_steps, asked_gains, clear_gains, clear_settled, hold_gains}
use Rattle.link_model.proofs.laws.step_law.Goals as goal

pub returns-clause-stepped : goal.returns-clause-stepped
returns-clause-stepped g c = λ v n. processor_steps v n

pub returns-clause-asked : goal.returns-clause-asked
returns-clause-asked g c = λ v w a s e. asked_gains v w a s e

pub returns-clause-clear : goal.returns-clause-clear
returns-clause-clear g c = λ w e f. clear_gains w e f

pub returns-clause-settled : goal.returns-clause-settled
returns-clause-settled g c = λ v w a s e f.
    let rest = clear_settled v w a s e f in
    record { accepted = rest.0; withdrawn = rest.1; next = rest.2; out = rest.3 }

pub returns-clause-held : goal.returns-clause-held
returns-clause-held g c = λ v w s h. hold_gains v w s h
