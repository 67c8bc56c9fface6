use Rattle.capture_records.proofs.Steps.{reading_ends, reading_on}
use Rattle.capture_records.proofs.records.read_plain.Goals as goal

pub returns-in-Err : goal.returns-in-Err
returns-in-Err c = reading_ends _ _ _ _ _ c.in-Err.end c.packets.invariant.reading c.in-Err.ensures.value

pub packets-preserved : goal.packets-preserved
packets-preserved c = record {
  inside = c.in-Ok.ensures.inside;
  reading = reading_on _ _ _ _ _ _ c.in-Ok.packet c.requires.head c.packets.invariant.reading c.in-Ok.ensures.value c.in-Ok.ensures.inside c.in_ok-add.ensures.ok;
}
