use Rattle.std.proofs.Common.{refl}
use Rattle.served_rings.proofs.Gifts.{replies}
use Rattle.run_work.specs.of_slave_parts.Parts.{parts}
use Rattle.served_rings.proofs.Speakers.{speaks}
use Rattle.served_rings.proofs.plan_speakers.speaker_law.Goals as goal

pub returns : goal.returns
returns c = λ p is. record {
  served = c.parts_are_served.ensures.served p is;
  stated = c.parts_are_served.ensures.stated p is;
  lawful = c.passed_law.ensures.lawful p is;
  keeps = λ state v. refl;
  first = λ v b. replies parts p v.state v.inner b;
  last = c.parts_last_told.ensures p is;
  speaks = speaks p;
}
