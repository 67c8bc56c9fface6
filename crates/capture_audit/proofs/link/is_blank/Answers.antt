use Rattle.std.proofs.Common.{rules, ◌≡◌, length}
use Rattle.capture_audit.proofs.Frames.{blank_is}
use Rattle.capture_audit.proofs.link.is_blank.Goals as goal

pub returns-then-octets-len : goal.returns-then-octets-len
returns-then-octets-len c =
    let long : length c.args.octets.now ≡ c.args.len = search rules in
    blank_is c.are_zero.result c.args.octets.now c.args.len long c.are_zero.ensures
