use Rattle.std.proofs.Common.{List, [], ◌∷◌, ◌++◌, subst, ap, arith, ◌∙◌}
use Rattle.coe_client.specs.of_exchange_model.Areas.{Areas}
use Rattle.coe_client.specs.of_exchange_model.Exchange.{plain}
use Rattle.coe_client.specs.of_protocol_models.CoeMails.{CoeMail, is_emission}
use Rattle.coe_client.specs.of_protocol_models.CoeOctets.{coe_mail_heard}
use Rattle.coe_server.specs.Serving.{waiting_mails}
use Rattle.coe_law.specs.Talks.{emission_mails, IsAwaited}
use Rattle.coe_law.proofs.Hearing.{carried_is, one_more, few_left, emerged, awaited_behind, hears_more, first_given}
use Rattle.coe_law.proofs.dialogue.hear_all.Goals as goal

pub answer-heard-requires : goal.answer-heard-requires
answer-heard-requires c =
    let i = c.loop-server.invariant in
    omega (arith, c.next-given.ensures.fits, i.5, ap (λ (a : Areas). a.back) i.7, c.requires.long)

pub hear-requires-clause-given : goal.hear-requires-clause-given
hear-requires-clause-given c =
    first_given c.loop-server.server (coe_mail_heard c.answer-heard.result) (waiting_mails c.next-given.new.self) (carried_is c.loop-server.server c.next-given.new.self c.next-given.result c.answer-heard.result c.answer-heard.ensures.heard c.next-given.ensures.next)

pub hear-requires-clause-awaited : goal.hear-requires-clause-awaited
hear-requires-clause-awaited c =
    let i = c.loop-server.invariant in
    let m = coe_mail_heard c.answer-heard.result in
    let more = waiting_mails c.next-given.new.self in
    let is = carried_is c.loop-server.server c.next-given.new.self c.next-given.result c.answer-heard.result c.answer-heard.ensures.heard c.next-given.ensures.next in
    let split = one_more (waiting_mails c.args.server.now) i.0 (waiting_mails c.loop-server.server) m more i.1 is in
    awaited_behind c.args.client.now c.loop-server.client i.0 (m ∷ []) more i.2 (subst (λ (ms : List CoeMail). IsAwaited c.args.client.now (plain is_emission ms)) split c.requires.awaited)

pub hear-requires-clause-one : goal.hear-requires-clause-one
hear-requires-clause-one c =
    let i = c.loop-server.invariant in
    let m = coe_mail_heard c.answer-heard.result in
    let more = waiting_mails c.next-given.new.self in
    let is = carried_is c.loop-server.server c.next-given.new.self c.next-given.result c.answer-heard.result c.answer-heard.ensures.heard c.next-given.ensures.next in
    let split = one_more (waiting_mails c.args.server.now) i.0 (waiting_mails c.loop-server.server) m more i.1 is in
    few_left (emission_mails c.args.emission.now) (emission_mails c.loop-server.emission) (waiting_mails c.args.server.now) i.0 m more i.3 split c.requires.one

pub loop-server-preserved : goal.loop-server-preserved
loop-server-preserved c =
    let i = c.loop-server.invariant in
    let m = coe_mail_heard c.answer-heard.result in
    let more = waiting_mails c.next-given.new.self in
    let is = carried_is c.loop-server.server c.next-given.new.self c.next-given.result c.answer-heard.result c.answer-heard.ensures.heard c.next-given.ensures.next in (
      i.0 ++ m ∷ [],
      one_more (waiting_mails c.args.server.now) i.0 (waiting_mails c.loop-server.server) m more i.1 is,
      hears_more c.args.client.now c.loop-server.client c.hear.new.client i.0 (m ∷ []) i.2 c.hear.ensures.hears,
      emerged (emission_mails c.args.emission.now) (emission_mails c.loop-server.emission) (emission_mails c.hear.new.emission) i.0 m i.3 c.hear.ensures.emission,
      c.next-given.ensures.transfer ∙ i.4,
      c.next-given.ensures.room ∙ i.5,
      c.next-given.ensures.eoe ∙ i.6,
      c.answer-heard.ensures.lengths ∙ i.7,
    )
