-- What a server's call did with a mail is the step of the exchange of mails.
use Rattle.std.proofs.Common.{◌≡◌, ℕ, Bool, List, ap, ◌∙◌, map}
use Rattle.protocol_models.specs.of_mailbox_mail.declared.mail.Kind.TheVariants.{FoE}
use Rattle.protocol_models.specs.of_exchange_model.Areas.{Areas}
use Rattle.file_store.specs.Files.{Kept}
use Rattle.file_store.specs.Stored.{Stored}
use Rattle.protocol_models.specs.Files.{Files}
use Rattle.protocol_models.specs.FoeServer.{Transfer, Outcome, Server, foe_outcome, behind as server_behind}
use Rattle.protocol_models.specs.FoeOctets.{body_heard, foe_mail_written, mail_with, foe_mail_exchange}
use Rattle.foe_server.specs.Serving.{Serving, transfer_of, outcome_of, served_of}

pub exchanged : (o : Files Kept) (areas : Areas) (v : Server Kept) (old new : Serving) (before behind : Stored) (counts : Bool) (body : List ℕ) →
    v.app ≡ before.kept → v.transfer ≡ transfer_of old before → areas.out ≡ old.out → areas.back ≡ old.back →
    foe_outcome o old.out old.back before.kept (transfer_of old before) (body_heard body) ≡ outcome_of behind new counts →
    (foe_mail_exchange o areas).serve v (mail_with FoE body) ≡ served_of behind v.handled new counts
exchanged o areas v old new before behind counts body app transfer out back does =
    let is : foe_outcome o areas.out areas.back v.app v.transfer (body_heard body) ≡ outcome_of behind new counts =
    ap (λ (k : Kept). foe_outcome o areas.out areas.back k v.transfer (body_heard body)) app
    ∙ ap (λ (t : Transfer). foe_outcome o areas.out areas.back before.kept t (body_heard body)) transfer
    ∙ ap (λ n. foe_outcome o n areas.back before.kept (transfer_of old before) (body_heard body)) out
    ∙ ap (λ n. foe_outcome o old.out n before.kept (transfer_of old before) (body_heard body)) back ∙ does in
    ap (λ (x : Outcome Kept). ((server_behind v.handled x).0, map foe_mail_written (server_behind v.handled x).1)) is
