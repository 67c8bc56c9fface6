use Rattle.std.proofs.Common.{◌≡◌, length, ◌-◌}
use Rattle.coe_client.specs.Talk.{service_view}
use Rattle.coe_law.specs.Mailboxes.{lengths_of}
use Rattle.coe_law.specs.Talks.{TalksBehind, areas_of, server_at, all_mails}
use Rattle.coe_law.proofs.dialogue.carry_out.Given as goal

abbrev pub invariant-loop-body : goal.invariant-loop-body
invariant-loop-body l =
    TalksBehind l.al l.fn.server.eoe (areas_of l.fn.client l.fn.server) (server_at l.fn.objects l.fn.server) (service_view l.service) l.mails l.client l.server l.objects l.emission
    × (lengths_of l.mailboxes ≡ lengths_of l.fn.mailboxes)

abbrev pub decreases-loop-body : goal.decreases-loop-body
decreases-loop-body l = length (all_mails l.al l.fn.client l.fn.server l.fn.objects (service_view l.service)) - l.mails
