use Rattle.std.proofs.Common.{refl}
use Rattle.life_model.proofs.Gaining.{next_same, back_grows, lost_same, written_gains, heard_gains, state_gains}
use Rattle.life_model.proofs.won.gain_law.Goals as goal

pub returns-clause-before : goal.returns-clause-before
returns-clause-before g c = λ x acknowledged more passed frame l pick. next_same x acknowledged more passed frame l l.stand pick

pub returns-clause-grows : goal.returns-clause-grows
returns-clause-grows g c = λ x acknowledged more passed frame spot news back came l. back_grows x acknowledged more passed frame spot news back came l l.stand

pub returns-clause-lost : goal.returns-clause-lost
returns-clause-lost g c = λ x acknowledged more passed spot news sent l. lost_same x acknowledged more passed spot news sent l l.stand

pub returns-clause-given_up : goal.returns-clause-given_up
returns-clause-given_up g c = λ recover frame spot l. refl

pub returns-clause-written : goal.returns-clause-written
returns-clause-written g c = λ x acknowledged more passed frame spot news back came l d held sent one is holds asks met. written_gains x acknowledged more passed frame spot news back came l d held sent one is holds asks met

pub returns-clause-heard : goal.returns-clause-heard
returns-clause-heard g c = λ x acknowledged more passed frame spot news back came l r is some. heard_gains x acknowledged more passed frame spot news back came l r is some

pub returns-clause-went_on : goal.returns-clause-went_on
returns-clause-went_on g c = λ x acknowledged more passed frame spot news back came l d duty one hand is met steps. state_gains x acknowledged more passed frame spot news back came l d duty one hand is met steps
