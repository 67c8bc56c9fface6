use Rattle.foe_codec.proofs.Spelled.{text_spelled}
use Rattle.foe_codec.proofs.writing.write_view.Goals as goal

pub returns-clause-spelled : goal.returns-clause-spelled
returns-clause-spelled c =
    rw (c.write_plain.ensures.octets) (text_spelled c.args.message c.requires.spelling c.write_plain.ensures.ranged c.requires.capped)
