-- The lemmas on the drain, at the types of the function.
use Rattle.state_model.proofs.Drains.{seen_empty, drained, few, drained_on}
use Rattle.state_model.proofs.drain_law.Goals as goal

pub returns-clause-seen : goal.returns-clause-seen
returns-clause-seen g c = λ station s d access meant shown. seen_empty station s d access meant shown

pub returns-clause-drained : goal.returns-clause-drained
returns-clause-drained g c = λ x law v ready front last now w agrees at fresh over box. drained x law v ready front last now w agrees at fresh over box

pub returns-clause-stays : goal.returns-clause-stays
returns-clause-stays g c = λ x law v rows taken more accepted e fits. drained_on x law v rows taken more accepted e fits

pub returns-clause-few : goal.returns-clause-few
returns-clause-few g c = λ x law v ready front last now w agrees at fresh over. few x law v ready front last now w agrees at fresh over
