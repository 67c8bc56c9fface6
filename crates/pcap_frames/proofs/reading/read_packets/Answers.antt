use Rattle.std.proofs.Common.{List, sym, subst, ◌∙◌}
use Rattle.pcap_frames.specs.declared.capture.PacketAt.{PacketAt}
use Rattle.pcap_frames.proofs.Steps.{IsReading, unless, fault_found, reading_begins, reading_stops, reading_on, reading_ends, pushed}
use Rattle.pcap_frames.proofs.reading.read_packets.Goals as goal

pub packets-init : goal.packets-init
packets-init c =
    subst (λ (ps : List PacketAt). IsReading c.args.order c.args.bytes.now ps 24) (sym c.new-packets.ensures) (reading_begins _ _ c.requires)

pub returns-in-Err : goal.returns-in-Err
returns-in-Err c =
    unless (fault_found c.in-Err.fault) (reading_stops _ _ _ _ c.in-Err.fault c.packets.invariant c.packets-test.true c.in-Err.ensures)

pub packets-preserved : goal.packets-preserved
packets-preserved c =
    reading_on _ _ _ _ _ c.in-Ok.packet c.packets.invariant c.packets-test.true c.in-Ok.ensures
    (pushed c.push.result (sym c.is_err.ensures.value ∙ c.if-is_err.false) c.push.ensures.ok)

pub returns : goal.returns
returns c = reading_ends _ _ _ _ c.packets.invariant c.packets-test.false
