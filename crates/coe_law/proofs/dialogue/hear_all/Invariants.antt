use Rattle.std.proofs.Common.{◌≡◌, List, ◌++◌, length}
use Rattle.coe_client.specs.of_exchange_model.Exchange.{plain, emitted}
use Rattle.coe_client.specs.of_protocol_models.CoeMails.{CoeMail, is_emission}
use Rattle.coe_server.specs.Serving.{transfer_of, waiting_mails}
use Rattle.coe_law.specs.Mailboxes.{lengths_of}
use Rattle.coe_law.specs.Talks.{emission_mails, Hears}
use Rattle.coe_law.proofs.dialogue.hear_all.Given as goal

abbrev pub invariant-loop-server : goal.invariant-loop-server
invariant-loop-server l =
    (done : List CoeMail) × (waiting_mails l.initial.server ≡ done ++ waiting_mails l.server) × Hears l.initial.client (plain is_emission done) l.client
    × (emission_mails l.emission ≡ emission_mails l.initial.emission ++ emitted is_emission done) × (transfer_of l.server ≡ transfer_of l.initial.server)
    × (l.server.room ≡ l.initial.server.room) × (l.server.eoe ≡ l.initial.server.eoe) × (lengths_of l.mailboxes ≡ lengths_of l.initial.mailboxes)

abbrev pub decreases-loop-server : goal.decreases-loop-server
decreases-loop-server l = length (waiting_mails l.server)
