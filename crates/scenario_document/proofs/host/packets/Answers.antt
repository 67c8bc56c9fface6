use Rattle.std.proofs.lemmas.Result.{err_from_is_err_and}
use Rattle.toml.specs.View.{table_view}
use Rattle.scenario_document.specs.Top.{packet_of}
use Rattle.scenario_services.specs.of_segment_plan.Sound.{IsPacket}
use Rattle.scenario_services.proofs.of_scenario_keys.Each.{goes_on, ends}
use Rattle.scenario_document.proofs.host.packets.Goals as goal

pub returns-in_err-packet-clause-gives : goal.returns-in_err-packet-clause-gives
returns-in_err-packet-clause-gives c =
    let p = err_from_is_err_and c.from_residual.result c.from_residual.ensures.1 in
    rw (p.1, p.2) (ends IsPacket (λ _ _. tt {0}) (λ k _ ms. packet_of k ms) (tt {0}) (λ t. table_view t.now) c.args.tables.now c.loop-i.i (tt {0}) c.loop-i.rows c.index-tables-i.result c.in_err-packet.field-0.0 c.loop-i-test.true c.index-tables-i.is c.in_err-packet.ensures.gives c.loop-i.invariant)

pub loop-i-preserved : goal.loop-i-preserved
loop-i-preserved c =
    goes_on IsPacket (λ _ _. tt {0}) (λ k _ ms. packet_of k ms) (tt {0}) (λ t. table_view t.now) c.args.tables.now c.loop-i.i (tt {0}) c.loop-i.rows c.index-tables-i.result c.packet.new.packet c.put.new.rows c.loop-i-test.true c.index-tables-i.is c.in_ok-packet.ensures.gives c.in_ok-packet.ensures.sound c.in_ok-put.ensures.ok c.loop-i.invariant
