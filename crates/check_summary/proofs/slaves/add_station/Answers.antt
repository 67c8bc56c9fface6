use Rattle.std.proofs.Common.{refl}
use Rattle.check_summary.specs.Slaves.{station_text}
use Rattle.check_summary.proofs.slaves.add_station.Goals as goal

pub returns : goal.returns
unfolding station_text
returns c =
    let made = rw (c.in_radix.ensures, c.laid_out.ensures) at c.in_ok-digits.ensures.ok in
    rw (c.in_ok-add.ensures.ok, c.as_bytes.ensures.value, made) refl
