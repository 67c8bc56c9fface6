use Rattle.exchange_model.proofs.Moments.{fits, rest_answered, rest_handed}
use Rattle.exchange_model.proofs.row_promises.Goals as goal

pub returns-clause-fits : goal.returns-clause-fits
returns-clause-fits g c = λ x law v ready front last now held taken accepted at. fits x law v ready front last now held taken accepted at

pub returns-clause-rest_answered : goal.returns-clause-rest_answered
returns-clause-rest_answered g c = λ x law v ready front last now held taken accepted at. rest_answered x law v ready front last now held taken accepted at

pub returns-clause-rest_handed : goal.returns-clause-rest_handed
returns-clause-rest_handed g c = λ x law v ready front last now held taken accepted at. rest_handed x law v ready front last now held taken accepted at
