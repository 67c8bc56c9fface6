use Rattle.slave_lives.proofs.RingFrames
use Rattle.slave_lives.proofs.node_laws.ring_law.Goals as goal

pub returns : goal.returns
returns g c = record {
  exchanges = λ u ring octets ds before n behind front pace rest f nodes paces place. RingFrames.exchanged u ring octets ds before n behind front pace rest f nodes paces place;
  runs = λ u is n ds runs. RingFrames.met_runs u is n ds runs;
}
