use Rattle.frames_seen.proofs.Aparts
use Rattle.frames_seen.proofs.apart_law.Goals as goal

pub returns : goal.returns
returns g c = record {
  opens = λ lens station r k v ds other open_ alone spoken. Aparts.open_apart lens station r k v ds other open_ alone spoken;
  unmeant = λ station r ds none. Aparts.none_apart station r ds none;
}
