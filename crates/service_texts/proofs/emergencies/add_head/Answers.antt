use Rattle.std.proofs.Common.{codes, ◌/◌, ◌∙◌}
use Rattle.service_texts.specs.Emergencies.{class_of, register_text, code_text, number_text, head_text}
use Rattle.service_texts.proofs.Heads.{five}
use Rattle.service_texts.proofs.emergencies.add_head.Goals as goal

pub returns : goal.returns
unfolding head_text
returns c =
    five c.args.line.now (code_text c.args.code) (class_of (c.args.code / 256)) (codes "; error register ") (number_text c.args.register) (register_text c.args.register) c.as_bytes.result.now
    c.add_code.new.line c.add.new.self c.add-2.new.self c.add_number.new.line c.add_register.new.line
    (c.as_bytes.ensures.value ∙ c.in_ok-class.ensures) c.in_ok-add_code.ensures c.in_ok-add.ensures.ok c.in_ok-add-2.ensures.ok c.in_ok-add_number.ensures c.in_ok-add_register.ensures
