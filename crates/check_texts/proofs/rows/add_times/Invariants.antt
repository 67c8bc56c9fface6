use Rattle.std.proofs.Common.{◌≡◌, ◌++◌, replicate}
use Rattle.check_texts.proofs.rows.add_times.Given as goal

abbrev pub invariant-loop : goal.invariant-loop
invariant-loop l = l.text ≡ l.fn.text ++ replicate l.counter l.octet
