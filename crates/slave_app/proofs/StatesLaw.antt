-- CoE over tables at each AL state, as a family of exchanges.
use Rattle.std.proofs.Common.{ℕ, Bool, refl}
use Rattle.slave_server.specs.of_exchange_model.Areas.{Areas, AreMailboxes}
use Rattle.slave_server.specs.of_exchange_model.Exchange.{IsLawful}
use Rattle.slave_server.proofs.of_exchange_model.Lifting.{lifted_law}
use Rattle.slave_server.specs.of_protocol_models.Tables.{Tables, AreLawful}
use Rattle.slave_server.specs.of_protocol_models.CoeModel.{coe_exchange}
use Rattle.slave_server.specs.of_protocol_models.CoeOctets.{AreSpelled, coe_mail_heard, coe_mail_written, coe_mail_exchange}
use Rattle.slave_server.proofs.of_protocol_models.CoeLaw.{coe_law}
use Rattle.slave_server.proofs.of_protocol_models.CoeSpelled.{coe_spells}
use Rattle.slave_server.specs.of_state_model.Stated.{IsStated}
use Rattle.slave_server.specs.of_state_model.Families.{AreOneClient, states_of}
use Rattle.slave_server.proofs.of_state_model.FamilyLaw.{family_law, family_is_stated}
use Rattle.slave_app.specs.States.{AreOneKind, acknowledged, coe_states, coe_mail_states}
use Rattle.slave_app.proofs.Lasts.{coe_last, coe_mail_last}

module _ {S : Type 0} (o : ℕ → Tables S) (eoe : Bool) (areas : Areas) where
  one_client : AreOneClient (λ al. coe_exchange (o al) eoe areas)
  one_client = record {
    emission = λ al m. refl;
    valid = λ al q. refl;
    planned = λ al q hs. refl;
    ends = λ al q hs. refl;
    handed = λ al q. refl;
  }

  one_mail_client : AreOneClient (λ al. coe_mail_exchange (o al) eoe areas)
  one_mail_client = record {
    emission = λ al m. refl;
    valid = λ al q. refl;
    planned = λ al q hs. refl;
    ends = λ al q hs. refl;
    handed = λ al q. refl;
  }

  module _ (law : (al : ℕ) → AreLawful (o al)) (sized : AreMailboxes areas) where
    pub coe_states_law : IsLawful (coe_states o eoe areas)
    coe_states_law = family_law (λ al. coe_exchange (o al) eoe areas) one_client (λ al. coe_law (o al) (law al) eoe areas sized)

    pub coe_states_are : AreOneKind o → IsStated (coe_states o eoe areas) (states_of acknowledged)
    coe_states_are kind = family_is_stated (λ al. coe_exchange (o al) eoe areas)
        (record { client = one_client; app = λ al v. refl; handled = λ al v. refl; ready = λ al v. kind al v.app })
        acknowledged (λ al. coe_last (o al) (law al) eoe areas sized)

    module _ (spelled : (al : ℕ) → AreSpelled (o al)) where
      pub coe_mail_states_law : IsLawful (coe_mail_states o eoe areas)
      coe_mail_states_law = family_law (λ al. coe_mail_exchange (o al) eoe areas) one_mail_client
          (λ al. lifted_law (coe_exchange (o al) eoe areas) coe_mail_heard coe_mail_written (coe_law (o al) (law al) eoe areas sized) (coe_spells (o al) (law al) (spelled al) eoe areas sized))

      pub coe_mail_states_are : AreOneKind o → IsStated (coe_mail_states o eoe areas) (states_of acknowledged)
      coe_mail_states_are kind = family_is_stated (λ al. coe_mail_exchange (o al) eoe areas)
          (record { client = one_mail_client; app = λ al v. refl; handled = λ al v. refl; ready = λ al v. kind al v.app })
          acknowledged (λ al. coe_mail_last (o al) (law al) eoe areas sized (spelled al))
