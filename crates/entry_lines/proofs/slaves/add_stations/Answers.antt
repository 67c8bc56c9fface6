use Rattle.entry_lines.specs.Slaves.{stations_text}
use Rattle.entry_lines.proofs.Told.{cut_behind}
use Rattle.entry_lines.proofs.slaves.add_stations.Goals as goal

pub returns : goal.returns
unfolding stations_text
returns c =
    cut_behind c.args.line.now _ c.in_ok-items.items _ c.bytes.result.now c.behind_comma.result.now c.add.new.self c.add-2.new.self
    c.in_ok-add.ensures.ok c.bytes.ensures c.in_ok-items.ensures c.behind_comma.ensures c.in_ok-add-2.ensures.ok
