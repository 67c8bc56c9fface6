use Rattle.std.proofs.Common.{◌≡◌, [], subst}
use Rattle.std.specs.Bool.{OnFalse}
use Rattle.master_hand.specs.Talk.{Talking, IsSent, client_later}
use Rattle.master_hand.specs.declared.clients.Which.{Which}
use Rattle.master_hand.specs.contracts.clients.Clients.{the_view}
use Rattle.master_hand.proofs.Passing.{passed_sent}
use Rattle.master_hand.proofs.clients.Clients.next_passed.Goals as goal

pub returns-clause-sent : goal.returns-clause-sent
returns-clause-sent c =
    subst (λ (t : Talking). IsSent c.next_mail.result Which.Passed t c.next_mail.new.into (record (the_view c.self.inside) { passed = c.next_mail.new.self })) c.self.view_is
    (passed_sent c.next_mail.result (the_view c.self.inside) c.next_mail.new.self c.next_mail.new.into c.next_mail.ensures.sends c.next_mail.ensures.body c.next_mail.ensures.same c.next_mail.ensures.kept.1 c.self.invariant.7)

pub returns-clause-rest : goal.returns-clause-rest
returns-clause-rest c = subst (λ (t : Talking). OnFalse c.next_mail.result (client_later Which.Passed t [] ≡ [])) c.self.view_is c.next_mail.ensures.rest
