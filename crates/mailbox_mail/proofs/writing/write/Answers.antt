use Rattle.std.proofs.Common.{◌-◌, ◌+◌, length, replicate, arith}
use Rattle.mailbox_mail.proofs.writing.write.Goals as goal

pub returns-clause-spelled : goal.returns-clause-spelled
returns-clause-spelled c =
    record {
      channel = 0;
      top = 0;
      rest = replicate (length c.args.area.now - (6 + length c.args.mail.now.body.items)) 0;
      octets = c.write_parts.ensures.octets;
      one_bit = omega arith;
      addressed = c.write_parts.ensures.addressed;
      counted = c.requires.counted;
      fits = c.write_parts.ensures.within;
    }
