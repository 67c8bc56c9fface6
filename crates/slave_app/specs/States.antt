-- CoE over tables at each AL state, as one exchange whose server and application have the AL state that stands.
use Rattle.std.specs.Prelude.{◌≡◌, ℕ, Bool, false}
use Rattle.slave_server.specs.of_mailbox_mail.declared.mail.Mail.{Mail}
use Rattle.slave_server.specs.of_exchange_model.Areas.{Areas}
use Rattle.slave_server.specs.of_exchange_model.Exchange.{Exchange}
use Rattle.slave_server.specs.of_protocol_models.CoeMails.{CoeMail}
use Rattle.slave_server.specs.of_protocol_models.Tables.{Tables}
use Rattle.slave_server.specs.of_protocol_models.CoeServer.{Server}
use Rattle.slave_server.specs.of_protocol_models.CoeMeaning.{Service, Reply}
use Rattle.slave_server.specs.of_protocol_models.CoeModel.{coe_exchange}
use Rattle.slave_server.specs.of_protocol_models.CoeOctets.{coe_mail_exchange}
use Rattle.slave_server.specs.of_state_model.Families.{InState, in_states}

-- access rights, codes and values may depend on the AL state, but not of which tables the laws speak
abbrev pub AreOneKind : {S : Type 0} → (ℕ → Tables S) → Type 0
AreOneKind {S} o = (al : ℕ) (s : S) → (o al).valid s ≡ (o 0).valid s

-- no CoE service ends with an acknowledgement
abbrev pub acknowledged : Service → Bool
acknowledged q = false

-- each mail is taken over the tables at the AL state that stands
abbrev pub coe_states : {S : Type 0} → (ℕ → Tables S) → Bool → Areas → Exchange (InState (Server S)) (InState S) CoeMail Service Reply
coe_states o eoe areas = in_states (λ al. coe_exchange (o al) eoe areas)

-- the same over mailbox mails
abbrev pub coe_mail_states : {S : Type 0} → (ℕ → Tables S) → Bool → Areas → Exchange (InState (Server S)) (InState S) Mail Service Reply
coe_mail_states o eoe areas = in_states (λ al. coe_mail_exchange (o al) eoe areas)
