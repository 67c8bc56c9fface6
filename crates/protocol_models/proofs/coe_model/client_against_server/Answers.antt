use Rattle.std.proofs.Common.{sym}
use Rattle.exchange_model.proofs.Words.{given_part}
use Rattle.protocol_models.specs.CoeServer.{serve}
use Rattle.protocol_models.specs.CoeModel.{full}
use Rattle.protocol_models.proofs.CoeLaw.{kept}
use Rattle.protocol_models.proofs.Progress.{goes_on}
use Rattle.protocol_models.proofs.coe_model.client_against_server.Goals as goal

pub returns-clause-app : goal.returns-clause-app
returns-clause-app g c = λ o eoe areas law sized v q ready. (kept o law eoe areas sized v q ready).whole.app

pub returns-clause-handled : goal.returns-clause-handled
returns-clause-handled g c = λ o eoe areas law sized v q ready. (kept o law eoe areas sized v q ready).whole.handled

pub returns-clause-reply : goal.returns-clause-reply
returns-clause-reply g c = λ o eoe areas law sized v q ready. (kept o law eoe areas sized v q ready).replied

pub returns-clause-emits : goal.returns-clause-emits
returns-clause-emits g c = λ o eoe areas law sized v q ready. (kept o law eoe areas sized v q ready).all_emitted

pub returns-clause-part : goal.returns-clause-part
returns-clause-part g c = λ o eoe areas law sized v q ready p r e. (kept o law eoe areas sized v q ready).part p r e

pub returns-clause-begins : goal.returns-clause-begins
returns-clause-begins g c = λ o eoe areas v q p r e. given_part (serve o eoe areas.back) v p (full o eoe areas v q) (r, sym e)

pub returns-clause-goes_on : goal.returns-clause-goes_on
returns-clause-goes_on g c = λ o eoe areas law sized v q ready p m r e. goes_on o eoe areas law sized v q ready p m r e
