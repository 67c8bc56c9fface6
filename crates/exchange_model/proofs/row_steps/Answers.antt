use Rattle.exchange_model.proofs.Moments.{first, holds, takes, hears, answered, handed}
use Rattle.exchange_model.proofs.row_steps.Goals as goal

pub returns-clause-first : goal.returns-clause-first
returns-clause-first g c = λ x law v q frame ready valid. first x law v ready q frame valid

pub returns-clause-holds : goal.returns-clause-holds
returns-clause-holds g c = λ x law v ready front last now held taken accepted at. holds x law v ready front last now held taken accepted at

pub returns-clause-takes : goal.returns-clause-takes
returns-clause-takes g c = λ x law v ready front last now held taken accepted at. takes x law v ready front last now held taken accepted at

pub returns-clause-hears : goal.returns-clause-hears
returns-clause-hears g c = λ x law v ready front last now held taken accepted at. hears x law v ready front last now held taken accepted at

pub returns-clause-answered : goal.returns-clause-answered
returns-clause-answered g c = λ x law v ready front last now held taken accepted at. answered x law v ready front last now held taken accepted at

pub returns-clause-handed : goal.returns-clause-handed
returns-clause-handed g c = λ x law v ready front last now held taken accepted at. handed x law v ready front last now held taken accepted at
