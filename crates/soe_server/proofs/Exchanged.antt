-- What a server's call did with a mail is the step of the exchange of mails.
use Rattle.std.proofs.Common.{◌≡◌, ℕ, Bool, List, Option, ap, ◌∙◌, map}
use Rattle.idn_table.specs.of_exchange_model.Areas.{Areas}
use Rattle.idn_table.specs.of_mailbox_mail.declared.mail.Kind.TheVariants.{SoE}
use Rattle.idn_table.specs.of_protocol_models.Elements.{Elements}
use Rattle.idn_table.specs.of_protocol_models.SoeServer.{Join, Outcome, Server, soe_outcome, behind}
use Rattle.idn_table.specs.of_protocol_models.SoeOctets.{body_heard, soe_mail_written, mail_with, soe_mail_exchange}
use Rattle.soe_server.specs.Serving.{Serving, join_of, outcome_of, served_of}

pub exchanged : {S : Type 0} (o : Elements S) (areas : Areas) (v : Server S) (old new : Serving) (app : S) (counts : Bool) (body : List ℕ) → v.join ≡ join_of old → areas.back ≡ old.room →
    soe_outcome o old.room v.app (join_of old) (body_heard body) ≡ outcome_of app new counts →
    (soe_mail_exchange o areas).serve v (mail_with SoE body) ≡ served_of app v.handled new counts
exchanged {S} o areas v old new app counts body join back does =
    let is : soe_outcome o areas.back v.app v.join (body_heard body) ≡ outcome_of app new counts =
    ap (λ (j : Option Join). soe_outcome o areas.back v.app j (body_heard body)) join ∙ ap (λ n. soe_outcome o n v.app (join_of old) (body_heard body)) back ∙ does in
    ap (λ (x : Outcome S). ((behind v.handled x).0, map soe_mail_written (behind v.handled x).1)) is
