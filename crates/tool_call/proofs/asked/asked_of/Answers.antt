use Rattle.tool_call.proofs.Words.{few}
use Rattle.tool_call.proofs.asked.asked_of.Goals as goal

pub returns-in_default-clause-value : goal.returns-in_default-clause-value
returns-in_default-clause-value c = few c.args.words.now c.in_default.len_below
