use Rattle.std.proofs.Common.{rules, ◌≤◌, ◌<◌, ◌-◌, length, take, sym, subst, arith, length-take}
use Rattle.coe_server.specs.Serving.{IsWritten, first_message}
use Rattle.coe_server.proofs.Firsts.{first_written}
use Rattle.coe_server.proofs.server.CoeServer.write_first.Goals as goal

pub returns : goal.returns
returns c =
    let s = c.args.self.now in
    let value = s.value in
    let upto = c.args.upto in
    let few : length (take upto value) ≤ length value = search (rules, length-take) in
    let short : length (take upto value) ≤ s.room - 16 = search (rules, length-take) in
    let small : c.args.target.index < 65536 = search rules in
    let fits : length value < 4294967296 = omega (arith, c.write_front.ensures.few) in
    subst (λ p. IsWritten s.room (first_message s.room value s.told p) c.append_to.new.into.items) (sym c.requires)
    (first_written s.room c.args.target.index c.args.target.sub (length value) (take upto value) c.append_to.new.into.items (search rules) few short small fits)
