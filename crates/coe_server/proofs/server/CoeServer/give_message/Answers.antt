use Rattle.std.proofs.Common.{◌≤◌, ◌∷◌, sym, ap, subst, ◌∙◌}
use Rattle.protocol_models.specs.CoeMails.{mail}
use Rattle.coe_server.specs.Serving.{Serving, pending_mails, message_of}
use Rattle.coe_server.proofs.Gives.{first_given}
use Rattle.coe_server.proofs.server.CoeServer.give_message.Goals as goal

pub returns-clause-first : goal.returns-clause-first
returns-clause-first c =
    let n = c.args.self.now in
    first_given n.room n.value n.told n.pending (subst (λ (t : Serving). 64 ≤ t.room) c.self.view_is c.self.invariant.0) c.requires
    ∙ ap (λ p. mail (message_of n) ∷ pending_mails n.room n.value n.told p) (sym c.behind-self-inside.ensures)
    ∙ ap (λ (t : Serving). mail (message_of n) ∷ pending_mails t.room t.value t.told c.behind-self-inside.result) (sym c.self.view_is)
