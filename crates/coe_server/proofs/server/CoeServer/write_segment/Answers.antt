use Rattle.std.proofs.Common.{rules, ◌≡◌, length, true, subst}
use Rattle.coe_server.specs.Serving.{is_told}
use Rattle.coe_server.proofs.Segments.{part_is}
use Rattle.coe_server.proofs.server.CoeServer.write_segment.Goals as goal

pub write_octets-requires-clause-within : goal.write_octets-requires-clause-within
write_octets-requires-clause-within c =
    let s = c.args.self.now in
    let told : is_told s.room s.value s.told s.pending ≡ true = search rules in
    part_is c.args.from (length s.value) (subst (λ p. is_told s.room s.value s.told p ≡ true) c.requires told)
