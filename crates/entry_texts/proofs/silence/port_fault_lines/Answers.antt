use Rattle.entry_texts.specs.Silence.{port_fault_lines}
use Rattle.entry_texts.proofs.Parts.{four_parts}
use Rattle.entry_texts.proofs.silence.port_fault_lines.Goals as goal

pub returns : goal.returns
unfolding port_fault_lines
returns c =
    four_parts c.in_ok-lines.lines _ _ _ _ _ c.add.new.self c.add_scenario.new.line c.add-2.new.self c.add_doubt.new.line
    c.in_ok-lines.ensures c.in_ok-add.ensures.ok c.in_ok-add_scenario.ensures c.in_ok-add-2.ensures.ok c.in_ok-add_doubt.ensures
