use Rattle.std.proofs.Common.{◌≡◌, ◌<◌, List, length, get_or, subst}
use Rattle.soe_server.specs.of_idn_table.declared.spec.IdnSpec.{IdnSpec}
use Rattle.slave_server.proofs.Idns.{takes_more}
use Rattle.slave_server.proofs.spec.idns_of.Goals as goal

pub loop-idn-preserved : goal.loop-idn-preserved
loop-idn-preserved c =
    let same = c.as_slice-idn-items.ensures in
    let lt = subst (λ (os : List IdnSpec). c.loop-idn.idn-index < length os) same c.loop-idn-test.true in
    let is = subst (λ (os : List IdnSpec). c.idn-item.result ≡ get_or os c.loop-idn.idn-index c.idn-item.result) same c.idn-item.is in
    takes_more c.args.spec.now.idns c.loop-idn.idn-index c.idn-item.result lt is c.loop-idn.idns c.add_idn.new.idns c.in_ok-add_idn.ensures c.loop-idn.invariant
