use Rattle.std.proofs.lemmas.Result.{on_ok_weaker}
use Rattle.run_notes.proofs.Timings.{over_behind}
use Rattle.run_notes.proofs.standing.Log.note_fate.Goals as goal

pub returns-in-Lost-clause-time : goal.returns-in-Lost-clause-time
returns-in-Lost-clause-time c = on_ok_weaker c.note_losses.result (λ keeps. over_behind c.args.frame c.args.self.now.notes c.note_losses.new.self.notes keeps) c.note_losses.ensures.time
