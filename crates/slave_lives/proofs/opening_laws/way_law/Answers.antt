use Rattle.slave_lives.proofs.Ways as Way
use Rattle.slave_lives.proofs.opening_laws.way_law.Goals as goal

pub returns : goal.returns
returns g c = record {
  way = λ p n place behind rs ds at few near apart one. Way.one_on_way p n place behind rs ds at few near apart one;
  arrives = λ u boot lens p plan n place r k s ds at near b one. Way.one_comes u boot lens p plan n place r k s ds at near b one;
}
