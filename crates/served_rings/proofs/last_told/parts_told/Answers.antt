use Rattle.std.proofs.Common.{refl, suc, ◌-◌, length, arith}
use Rattle.run_work.specs.of_protocol_models.CoeClient as CoeClient
use Rattle.run_work.specs.of_protocol_models.SoeClient as SoeClient
use Rattle.served_rings.proofs.Ends
use Rattle.served_rings.proofs.last_told.parts_told.Goals as goal

pub returns-clause-information : goal.returns-clause-information
returns-clause-information c = λ fuel opcode part bytes some enough. Ends.parts_told CoeClient.is_incomplete opcode (λ bytes. refl) (λ left bytes. refl) fuel part bytes some enough

pub returns-clause-fragments : goal.returns-clause-fragments
returns-clause-fragments c = λ room opcode t bytes wide. Ends.fragments_told SoeClient.is_incomplete opcode t (λ bytes. refl) (λ left bytes. refl) (suc (length bytes)) (room - 10) bytes (omega (arith, wide)) (omega arith)
