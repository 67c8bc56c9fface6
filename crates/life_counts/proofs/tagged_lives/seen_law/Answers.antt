use Rattle.life_counts.proofs.Seen.{gains_seen, unopened_seen, most_seen}
use Rattle.life_counts.proofs.tagged_lives.seen_law.Goals as goal

pub returns : goal.returns
returns g c = record {
  gains = λ f n h l. gains_seen f n h l;
  unopened = λ f n h l u. unopened_seen f n h l u;
  most = λ f n h most count l enough. most_seen f n h most count enough l;
}
