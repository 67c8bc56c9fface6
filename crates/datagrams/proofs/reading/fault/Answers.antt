use Rattle.std.proofs.Common.{refl}
use Rattle.datagrams.specs.Frame.{frame_read}
use Rattle.datagrams.proofs.Header.{found_in}
use Rattle.datagrams.proofs.Walking.{fault_found}
use Rattle.datagrams.proofs.reading.fault.Goals as goal

pub returns-clause-reads : goal.returns-clause-reads
returns-clause-reads c = fault_found c.args.bytes.now _ (frame_read c.args.bytes.now) c.fault_plain.ensures (found_in c.args.bytes.now (frame_read c.args.bytes.now) (λ i. (c.type_inv.bytes i).fits) refl)
