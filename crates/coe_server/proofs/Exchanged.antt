-- What a server's call did with a mail is the step of the exchange of mails.
use Rattle.std.proofs.Common.{◌≡◌, ℕ, Bool, List, ap, ◌∙◌, map}
use Rattle.protocol_models.specs.of_mailbox_mail.declared.mail.Kind.TheVariants.{CoE}
use Rattle.protocol_models.specs.Tables.{Tables}
use Rattle.protocol_models.specs.CoeServer.{Transfer, Outcome, Server, coe_outcome, behind}
use Rattle.protocol_models.specs.of_exchange_model.Areas.{Areas}
use Rattle.protocol_models.specs.CoeOctets.{body_heard, coe_mail_written, mail_with, coe_mail_exchange}
use Rattle.coe_server.specs.Serving.{Serving, transfer_of, outcome_of, served_of}

pub exchanged : {S : Type 0} (o : Tables S) (areas : Areas) (v : Server S) (old new : Serving) (app : S) (counts : Bool) (body : List ℕ) → v.transfer ≡ transfer_of old → areas.back ≡ old.room →
    coe_outcome o old.eoe old.room v.app (transfer_of old) (body_heard body) ≡ outcome_of app new counts →
    (coe_mail_exchange o old.eoe areas).serve v (mail_with CoE body) ≡ served_of o app v.handled new counts
exchanged {S} o areas v old new app counts body transfer back does =
    let is : coe_outcome o old.eoe areas.back v.app v.transfer (body_heard body) ≡ outcome_of app new counts =
    ap (λ (t : Transfer). coe_outcome o old.eoe areas.back v.app t (body_heard body)) transfer ∙ ap (λ n. coe_outcome o old.eoe n v.app (transfer_of old) (body_heard body)) back ∙ does in
    ap (λ (x : Outcome S). ((behind o v.handled x).0, map coe_mail_written (behind o v.handled x).1)) is
