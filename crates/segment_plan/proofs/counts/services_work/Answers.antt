use Rattle.std.proofs.Common.{length, subst, sym}
use Rattle.std.proofs.lemmas.List.Elements.{All-get_or}
use Rattle.segment_plan.specs.Sound.{IsAddressed}
use Rattle.segment_plan.proofs.counts.services_work.Goals as goal

pub addressed_work-work-requires-clause-service : goal.addressed_work-work-requires-clause-service
addressed_work-work-requires-clause-service c =
    let all = All-get_or (IsAddressed (length c.args.slaves.now)) c.args.services.now c.loop-slave.slave-index c.loop-slave-item.result c.loop-slave-test.true c.requires.services in
    let here = subst (IsAddressed (length c.args.slaves.now)) (sym c.loop-slave-item.is) all in
    here.service
