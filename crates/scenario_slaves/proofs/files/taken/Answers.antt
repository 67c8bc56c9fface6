use Rattle.std.proofs.Common.{subst, sym}
use Rattle.std.proofs.lemmas.List.Elements.{All-get_or}
use Rattle.scenario_values.specs.of_segment_plan.Sound.{IsFile}
use Rattle.scenario_slaves.proofs.files.taken.Goals as goal

pub blocks_for-taken-requires : goal.blocks_for-taken-requires
blocks_for-taken-requires c =
    let all = All-get_or IsFile c.args.files.now c.loop-value.value-index c.loop-value-item.result c.loop-value-test.true c.requires.files in
    let here = subst IsFile (sym c.loop-value-item.is) all in
    rw c.len.ensures here.size
