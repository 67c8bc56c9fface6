use Rattle.std.proofs.Common.{sym}
use Rattle.exchange_model.proofs.Words.{given_part}
use Rattle.protocol_models.specs.SoeServer.{serve}
use Rattle.protocol_models.specs.SoeClient.{mails_of}
use Rattle.protocol_models.proofs.SoeLaw.{soe_law, kept, whole_replied}
use Rattle.protocol_models.proofs.soe_model.client_against_server.Goals as goal

pub returns-clause-app : goal.returns-clause-app
returns-clause-app g c = λ o areas lawful sized v q ready valid. (kept o lawful areas sized v q ready valid).app

pub returns-clause-handled : goal.returns-clause-handled
returns-clause-handled g c = λ o areas lawful sized v q ready valid. (kept o lawful areas sized v q ready valid).handled

pub returns-clause-reply : goal.returns-clause-reply
returns-clause-reply g c = λ o areas lawful sized v q ready valid. whole_replied o lawful areas sized v q ready valid

pub returns-clause-part : goal.returns-clause-part
returns-clause-part g c = λ o areas lawful sized v q ready valid p r e. (soe_law o lawful areas sized).part v q ready valid p r e

pub returns-clause-late : goal.returns-clause-late
returns-clause-late g c = λ o areas lawful sized v q ready valid p r m e. ((kept o lawful areas sized v q ready valid).late p m r e).given

pub returns-clause-begins : goal.returns-clause-begins
returns-clause-begins g c = λ o areas v q p r e. given_part (serve o areas.back) v p (mails_of areas.out q) (r, sym e)
