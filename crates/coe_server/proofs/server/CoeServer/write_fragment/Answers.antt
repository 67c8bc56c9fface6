use Rattle.std.proofs.Common.{rules, ◌≤◌, ◌<◌, ◌-◌, length, take, drop, length-take}
use Rattle.coe_server.proofs.Firsts.{fragment_written}
use Rattle.coe_server.proofs.server.CoeServer.write_fragment.Goals as goal

pub returns : goal.returns
returns c =
    let s = c.args.self.now in
    let bytes = take (s.room - 12) (drop c.args.from s.told) in
    let short : length bytes ≤ s.room - 12 = search (rules, length-take) in
    let fits : c.args.left < 65536 = search rules in
    fragment_written s.room c.args.opcode c.args.incomplete c.args.left bytes c.append_to.new.into.items (search rules) c.requires fits short
