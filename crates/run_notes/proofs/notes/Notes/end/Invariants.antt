use Rattle.std.proofs.Common.{◌≡◌, ◌++◌, replicate}
use Rattle.run_book.specs.declared.book.Answer.TheVariants.{NotSent}
use Rattle.run_notes.proofs.notes.Notes.end.Given as goal

abbrev pub invariant-loop : goal.invariant-loop
invariant-loop l = l.self ≡ record l.initial.self { answers = l.initial.self.answers ++ replicate l.counter NotSent }
