-- Each mail of a CoE service brings a reply at least.
use Rattle.std.proofs.Common.{Bool, false}
use Rattle.protocol_models.specs.of_exchange_model.Areas.{Areas, AreMailboxes}
use Rattle.protocol_models.specs.of_exchange_model.Exchange.{AnswersLast}
use Rattle.protocol_models.specs.Tables.{Tables, AreLawful}
use Rattle.protocol_models.specs.CoeModel.{coe_exchange}
use Rattle.protocol_models.proofs.CoeLasts.{none_behind}

module _ {S : Type 0} (o : Tables S) (law : AreLawful o) (eoe : Bool) (areas : Areas) (sized : AreMailboxes areas) where
  pub coe_last : AnswersLast (coe_exchange o eoe areas) (λ q. false)
  coe_last v q ready valid answers quiet p r e same = none_behind o law eoe areas sized v q ready p r e same
