use Rattle.std.proofs.Common.{refl}
use Rattle.served_rings.specs.SeenLed.{IsSeenLife, seen_clearing}
use Rattle.served_rings.proofs.SeenWhole.{life_seen}
use Rattle.served_rings.specs.Speakers.{speaker, spoken, table_of, processor_of, seer_of, cleared_whole}
use Rattle.served_rings.proofs.plan_speakers.life_law.Goals as goal

pub returns : goal.returns
returns c = λ p is boot spot first l led fair.
    let w = speaker p in
    let seen : IsSeenLife w (seer_of p boot) (table_of boot) spot cleared_whole first l =
    life_seen w (c.speaker_law.ensures p is) (seer_of p boot) (table_of boot) spot (spoken p) (processor_of boot) (c.run_law.ensures.runs p boot spot.station) cleared_whole (c.run_law.ensures.forgets p) first l led fair in
    record { clearing = seen_clearing w cleared_whole; clears = λ v. refl; processor = seer_of p boot; table = table_of boot; spot = spot; life = seen.life; worked = seen.worked; seen = seen.seen }
