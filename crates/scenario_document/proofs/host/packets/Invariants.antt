use Rattle.std.proofs.Common.{map}
use Rattle.toml.specs.View.{table_view}
use Rattle.scenario_document.specs.Top.{packet_of}
use Rattle.scenario_services.specs.of_segment_plan.Sound.{IsPacket}
use Rattle.scenario_services.proofs.of_scenario_keys.Each.{HasRead}
use Rattle.scenario_document.proofs.host.packets.Given as goal

abbrev pub invariant-loop-i : goal.invariant-loop-i
invariant-loop-i l = HasRead IsPacket (λ _ _. tt {0}) (λ k _ ms. packet_of k ms) (tt {0}) (map (λ t. table_view t.now) l.tables) l.i (tt {0}) l.rows
