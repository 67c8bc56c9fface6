use Rattle.std.proofs.Common.{◌≡◌, [], true, sym, subst}
use Rattle.std.specs.Prelude.{is_some}
use Rattle.master_hand.specs.Talk.{Talking, client_awaits}
use Rattle.master_hand.specs.contracts.clients.Clients.{the_view}
use Rattle.master_hand.proofs.Protocols.{file_closed}
use Rattle.master_hand.proofs.clients.Clients.value.Goals as goal

pub value-requires : goal.value-requires
value-requires c = file_closed c.args.which (the_view c.self.inside) c.in-ReadFile.is (subst (λ (t : Talking). is_some (client_awaits c.args.which t []) ≡ true) (sym c.self.view_is) c.requires)
