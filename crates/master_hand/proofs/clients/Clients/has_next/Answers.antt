use Rattle.std.proofs.Common.{◌≡◌, [], false, sym, subst}
use Rattle.std.specs.Prelude.{◌↔◌}
use Rattle.coe_client.specs.Talk as CoeTalk
use Rattle.master_hand.specs.Spoken.{told_sdo}
use Rattle.master_hand.specs.Talk.{Talking, client_later}
use Rattle.master_hand.specs.declared.clients.Which.{Which}
use Rattle.master_hand.specs.contracts.clients.Clients.{the_view}
use Rattle.master_hand.proofs.Protocols.{left_mapped, file_left}
use Rattle.master_hand.proofs.clients.Clients.has_next.Goals as goal

pub returns-in-Coe : goal.returns-in-Coe
returns-in-Coe c =
    subst (λ (w : Which). (c.has_next.result ≡ false) ↔ (client_later w c.args.self.now [] ≡ [])) (sym c.in-Coe.is)
    (subst (λ (t : Talking). (c.has_next.result ≡ false) ↔ (client_later Which.Coe t [] ≡ [])) c.self.view_is
    (left_mapped told_sdo c.has_next.result (CoeTalk.later c.self.inside.sdo []) c.has_next.ensures))

pub returns-in-ReadFile : goal.returns-in-ReadFile
returns-in-ReadFile c =
    subst (λ (t : Talking). (c.has_next-in-ReadFile.result ≡ false) ↔ (client_later c.args.which t [] ≡ [])) c.self.view_is
    (file_left c.args.which (the_view c.self.inside) c.has_next-in-ReadFile.result c.in-ReadFile.is c.has_next-in-ReadFile.ensures)
