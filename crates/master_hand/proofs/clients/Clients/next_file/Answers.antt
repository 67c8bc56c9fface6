use Rattle.std.proofs.Common.{◌≡◌, [], refl, subst, ap}
use Rattle.std.proofs.lemmas.Bool.{OnFalse_at, OnFalse_from}
use Rattle.std.specs.Bool.{OnFalse}
use Rattle.std.specs.Prelude.{map}
use Rattle.eoe_client.specs.of_mailbox_mail.declared.mail.Kind.{Kind}
use Rattle.master_hand.specs.Spoken.{told_file}
use Rattle.master_hand.specs.Talk.{Talking, IsSent, client_later}
use Rattle.master_hand.specs.declared.clients.Which.{Which}
use Rattle.master_hand.specs.contracts.clients.Clients.{the_view}
use Rattle.master_hand.proofs.Protocols.{file_sent}
use Rattle.master_hand.proofs.clients.Clients.next_file.Goals as goal

pub returns-clause-sent : goal.returns-clause-sent
returns-clause-sent c =
    subst (λ (t : Talking). IsSent c.next_mail.result Which.ReadFile t (record { kind = Kind.FoE; body = c.next_mail.new.body }) (record (the_view c.self.inside) { file = c.next_mail.new.self })) c.self.view_is
    (file_sent _ c.next_mail.result (the_view c.self.inside) c.next_mail.new.self (record { kind = Kind.FoE; body = c.next_mail.new.body }) c.next_mail.ensures.sends c.next_mail.ensures.fits c.next_mail.ensures.same c.next_mail.ensures.replies c.self.invariant.3 refl)

pub returns-clause-rest : goal.returns-clause-rest
returns-clause-rest c = subst (λ (t : Talking). OnFalse c.next_mail.result (client_later Which.ReadFile t [] ≡ [])) c.self.view_is (OnFalse_from c.next_mail.result _ (λ e. ap (λ ms. map told_file ms) (OnFalse_at e c.next_mail.ensures.waits)))
