use Rattle.std.proofs.Common.{◌≡◌, ◌-◌, ◌<◌, length, take, get_or, Some, true, false}
use Rattle.toml_places.specs.Seeking.{told}
use Rattle.toml_places.proofs.seeking.halved.Given as goal

abbrev pub invariant-loop-high : goal.invariant-loop-high
invariant-loop-high l = record {
  apart : l.low < l.high;
  in_places : l.high < length l.places;
  before : told l.sought (take (get_or l.places l.low 0) l.text) ≡ Some false;
  behind : told l.sought (take (get_or l.places l.high 0) l.text) ≡ Some true;
}

abbrev pub decreases-loop-high : goal.decreases-loop-high
decreases-loop-high l = l.high - l.low
