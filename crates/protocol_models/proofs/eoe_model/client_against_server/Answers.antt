use Rattle.std.proofs.Common.{sym}
use Rattle.exchange_model.proofs.Words.{given_part}
use Rattle.protocol_models.specs.EoeServer.{serve}
use Rattle.protocol_models.specs.EoeClient.{mails_of}
use Rattle.protocol_models.proofs.EoeLaw.{eoe_law, kept, before}
use Rattle.protocol_models.proofs.eoe_model.client_against_server.Goals as goal

pub returns-clause-app : goal.returns-clause-app
returns-clause-app g c = λ o areas sound sized v q ready valid. ((eoe_law o sound areas sized).whole v q ready valid).app

pub returns-clause-handled : goal.returns-clause-handled
returns-clause-handled g c = λ o areas sound sized v q ready valid. ((eoe_law o sound areas sized).whole v q ready valid).handled

pub returns-clause-emits : goal.returns-clause-emits
returns-clause-emits g c = λ o areas sound sized v q ready valid. (eoe_law o sound areas sized).all_emitted v q ready valid

pub returns-clause-reply : goal.returns-clause-reply
returns-clause-reply g c = λ o areas sound sized v q ready valid answers. (eoe_law o sound areas sized).replied v q ready valid answers

pub returns-clause-silent : goal.returns-clause-silent
returns-clause-silent g c = λ o areas sound sized v q ready valid posts. (eoe_law o sound areas sized).silent v q ready valid posts

pub returns-clause-part : goal.returns-clause-part
returns-clause-part g c = λ o areas sound sized v q ready valid p r e. (eoe_law o sound areas sized).part v q ready valid p r e

pub returns-clause-late : goal.returns-clause-late
returns-clause-late g c = λ o areas sound sized v q valid p r m e. before o sound areas sized v p ((kept o sound areas sized v q valid).late p m r e)

pub returns-clause-begins : goal.returns-clause-begins
returns-clause-begins g c = λ o areas v q p r e. given_part (serve o areas.back) v p (mails_of areas.out q) (r, sym e)
