use Rattle.capture_view.proofs.Within.{packets_within}
use Rattle.capture_view.proofs.viewing.view.Goals as goal

pub put_view-requires : goal.put_view-requires
put_view-requires g c = packets_within c.args.bytes.now c.args.capture.now (λ i. (c.type_inv.bytes i).fits) c.requires
