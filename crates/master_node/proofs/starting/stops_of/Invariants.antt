use Rattle.std.proofs.Common.{◌≡◌, take, vec_len}
use Rattle.life_runs.specs.of_frame_view.Shares.{AllBoth, AllFrom}
use Rattle.master_node.specs.First.{IsFirst}
use Rattle.master_node.specs.Serving.{IsPaced}
use Rattle.master_node.proofs.starting.stops_of.Given as goal

abbrev pub invariant-loop-place : goal.invariant-loop-place
invariant-loop-place l = (vec_len l.stops ≡ l.place) × AllFrom (λ place spec s. IsFirst l.plan place spec s) 0 (take l.place l.slaves) l.stops.items × AllBoth (λ pace s. IsPaced pace s) (take l.place l.paces) l.stops.items
