use Rattle.std.proofs.Common.{◌≡◌, ◌∙◌, length, min, take, arith}
use Rattle.std.proofs.lemmas.List.{take_min}
use Rattle.ec_outside.proofs.mem_port.fill.Goals as goal

pub returns : goal.returns
returns c =
    let joined : c.try_extend_from_slice.new.self.items ≡ take (min 2048 (length c.args.bytes.now)) c.args.bytes.now = grind arith in
    joined ∙ take_min 2048 c.args.bytes.now
