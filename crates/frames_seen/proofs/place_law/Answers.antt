use Rattle.frames_seen.proofs.Places
use Rattle.frames_seen.proofs.place_law.Goals as goal

pub returns : goal.returns
returns g c = record {
  comes = λ place behind rs ds near others. Places.all_else_come place behind rs ds near others;
  alone = λ lens place r k v ds near open_ others spoken. Places.open_alone lens place r k v ds near open_ others spoken;
}
