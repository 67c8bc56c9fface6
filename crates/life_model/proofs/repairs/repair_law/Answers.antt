use Rattle.std.proofs.Common.{refl}
use Rattle.life_model.proofs.Halving.{half_goes, lost_breaks}
use Rattle.life_model.proofs.Openings.{opening_goes, gives_up_breaks}
use Rattle.life_model.proofs.repairs.repair_law.Goals as goal

pub returns-clause-opening : goal.returns-clause-opening
returns-clause-opening g c = λ x acknowledged more passed slaves pace frame spot news back l o done found at d. opening_goes slaves pace frame l o done found at d

pub returns-clause-half : goal.returns-clause-half
returns-clause-half g c = λ x acknowledged more passed slaves pace frame spot news back came l d w one a e stands. half_goes x acknowledged more passed slaves pace frame spot news back came l d w one a e stands

pub returns-clause-lost : goal.returns-clause-lost
returns-clause-lost g c = λ x acknowledged more passed slaves pace spot news sent l s. lost_breaks x acknowledged more passed slaves pace spot news sent l l.stand refl s

pub returns-clause-given_up : goal.returns-clause-given_up
returns-clause-given_up g c = λ slaves pace recover frame spot l. gives_up_breaks slaves pace recover frame spot l
