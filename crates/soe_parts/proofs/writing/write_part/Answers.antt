use Rattle.std.proofs.Common.{◌-◌, length, true, false, take, refl}
use Rattle.protocol_models.specs.SoeMails.{parts_of}
use Rattle.soe_parts.specs.Parts.{subject_view, message_with}
use Rattle.soe_parts.proofs.Parts.{part_given}
use Rattle.soe_parts.proofs.writing.write_part.Goals as goal

pub returns-clause-first : goal.returns-clause-first
returns-clause-first c =
    let t = subject_view c.args.subject in
    let rest = c.behind-rest.result.now in
    let part = c.args.room - 10 in
    record {
      message = message_with c.args.opcode true false t (parts_of part (length rest - part)) (take part rest);
      spelled = c.put-2.ensures;
      first = part_given c.args.room c.args.opcode t c.args.from c.args.octets.now rest (take part rest) c.behind-rest.ensures refl c.requires.least c.if-rest-part.false;
    }
