use Rattle.std.proofs.Common.{List, sym, subst, false}
use Rattle.std.specs.Prelude.{All}
use Rattle.capture_view.specs.of_pcap_frames.declared.capture.PacketAt.{PacketAt}
use Rattle.capture_view.specs.View.{IsWithin}
use Rattle.capture_view.proofs.Within.{packets_within}
use Rattle.capture_audit.specs.Exchanges.{exchanges}
use Rattle.capture_audit.specs.Audit.{first_known}
use Rattle.capture_audit.proofs.Walk.{yes_told, no_told}
use Rattle.capture_audit.proofs.auditing.audit.Goals as goal

pub audit_packets-requires-clause-within : goal.audit_packets-requires-clause-within
audit_packets-requires-clause-within c =
    subst (λ (ps : List PacketAt). All (IsWithin c.args.bytes.now) ps) (sym c.as_slice.ensures) (packets_within c.args.bytes.now c.args.capture.now (λ i. (c.type_inv.bytes i).fits) c.requires.read)

pub returns-clause-yes : goal.returns-clause-yes
returns-clause-yes c =
    let told = rw c.as_slice.ensures at c.audit_packets.ensures in
    yes_told c.audit_packets.result first_known (exchanges c.args.bytes.now false 0 c.args.capture.now.packets) told

pub returns-clause-no : goal.returns-clause-no
returns-clause-no c =
    let told = rw c.as_slice.ensures at c.audit_packets.ensures in
    no_told c.audit_packets.result first_known (exchanges c.args.bytes.now false 0 c.args.capture.now.packets) told
