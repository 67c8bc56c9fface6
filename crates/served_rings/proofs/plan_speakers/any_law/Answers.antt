use Rattle.std.proofs.Common.{true, refl}
use Rattle.served_rings.proofs.Any.{any_lawful}
use Rattle.served_rings.specs.Speakers.{speaker}
use Rattle.served_rings.proofs.plan_speakers.any_law.Goals as goal

pub returns-clause-speaks : goal.returns-clause-speaks
returns-clause-speaks c = λ p is.
    let k = c.speaker_law.ensures p is in
    let w = speaker p in
    record {
      served = k.served;
      stated = k.stated;
      lawful = any_lawful w.exchange w.core k.served (λ m. true);
      keeps = λ state v. refl;
      first = k.first;
      last = k.last;
      speaks = k.speaks;
    }

pub returns-clause-runs : goal.returns-clause-runs
returns-clause-runs c = λ p boot station. record { serve = refl; speech = refl; tells = λ state v. refl; tells_seen = λ state v. refl; carries = λ r. refl; worded = λ r. refl }
