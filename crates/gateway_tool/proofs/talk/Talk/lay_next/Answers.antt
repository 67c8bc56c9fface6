use Rattle.std.proofs.Common.{refl}
use Rattle.gateway_tool.proofs.Talks.{laid}
use Rattle.gateway_tool.proofs.talk.Talk.lay_next.Goals as goal

pub returns-clause-lays : goal.returns-clause-lays
returns-clause-lays c = λ call s told h.
    laid call s told c.args.self.now _ c.kind.result c.next_mail.new.body.items h c.if-not-next_mail.ensures.sends c.next_counter.ensures refl refl refl refl c.kind.ensures c.write_gram.ensures
