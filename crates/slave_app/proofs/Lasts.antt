-- Each mail of a CoE service brings a reply at least.
use Rattle.std.proofs.Common.{Bool}
use Rattle.slave_server.specs.of_exchange_model.Areas.{Areas, AreMailboxes}
use Rattle.slave_server.specs.of_exchange_model.Exchange.{AnswersLast}
use Rattle.slave_server.specs.of_protocol_models.Tables.{Tables, AreLawful}
use Rattle.slave_server.specs.of_protocol_models.CoeModel.{coe_exchange}
use Rattle.slave_server.specs.of_protocol_models.CoeOctets.{AreSpelled, coe_mail_heard, coe_mail_written, coe_mail_exchange}
use Rattle.slave_server.proofs.of_protocol_models.CoeSpelled.{coe_spells}
use Rattle.slave_server.proofs.of_protocol_models.CoeLasts.{none_behind}
use Rattle.slave_server.proofs.of_exchange_model.Lasts.{lifted_last}
use Rattle.slave_app.specs.States.{acknowledged}

module _ {S : Type 0} (o : Tables S) (law : AreLawful o) (eoe : Bool) (areas : Areas) (sized : AreMailboxes areas) where
  pub coe_last : AnswersLast (coe_exchange o eoe areas) acknowledged
  coe_last v q ready valid answers quiet p r e same = none_behind o law eoe areas sized v q ready p r e same

  pub coe_mail_last : AreSpelled o → AnswersLast (coe_mail_exchange o eoe areas) acknowledged
  coe_mail_last spelled = lifted_last (coe_exchange o eoe areas) coe_mail_heard coe_mail_written (coe_spells o law spelled eoe areas sized) acknowledged coe_last
