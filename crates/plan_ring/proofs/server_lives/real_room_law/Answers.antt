use Rattle.std.proofs.Common.{refl}
use Rattle.plan_ring.proofs.Sounds as Sound
use Rattle.plan_ring.proofs.server_lives.real_room_law.Goals as goal

pub returns : goal.returns
returns c = record {
  begins = λ p is core valid block. record { profile = refl; waiting = tt; block = block; valid = valid; file = tt };
  takes = λ p is al s b i. Sound.sound_takes c.parts_are_lawful.ensures p is al s b i;
  gives = λ p s i. Sound.sound_rests p s i;
  clears = λ p s i. Sound.sound_clears p s i;
  placed = λ p s i m e. Sound.sound_placed p s i m e;
  ready = λ p boot lens al s i e. Sound.sound_ready p s i e;
}
