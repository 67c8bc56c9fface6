use Rattle.std.proofs.Common.{arith, string_bytes}
use Rattle.fault_texts.proofs.Lists.{all_listed}
use Rattle.fault_texts.proofs.values.add_listed.Goals as goal

pub returns : goal.returns
returns c = all_listed c.loop-value.between.now c.args.values.now c.loop-value.value-index (string_bytes c.args.text.now) (string_bytes c.loop-value.text) (omega arith) c.loop-value.invariant.1
