use Rattle.std.proofs.Common.{sym}
use Rattle.exchange_model.proofs.Words.{given_part}
use Rattle.protocol_models.specs.FoeServer.{serve}
use Rattle.protocol_models.specs.FoeModel.{full}
use Rattle.protocol_models.proofs.FoeLaw.{kept}
use Rattle.protocol_models.proofs.foe_model.client_against_server.Goals as goal

pub returns-clause-app : goal.returns-clause-app
returns-clause-app g c = λ o areas law sized v q ready. (kept o law areas sized v q ready).whole.app

pub returns-clause-handled : goal.returns-clause-handled
returns-clause-handled g c = λ o areas law sized v q ready. (kept o law areas sized v q ready).whole.handled

pub returns-clause-reply : goal.returns-clause-reply
returns-clause-reply g c = λ o areas law sized v q ready. (kept o law areas sized v q ready).replied

pub returns-clause-part : goal.returns-clause-part
returns-clause-part g c = λ o areas law sized v q ready p r e. (kept o law areas sized v q ready).part p r e

pub returns-clause-begins : goal.returns-clause-begins
returns-clause-begins g c = λ o areas v q p r e. given_part (serve o areas.out areas.back) v p (full o areas v q) (r, sym e)
