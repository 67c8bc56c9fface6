use Rattle.std.proofs.Common.{sym, ap, ◌∙◌, subst, arith}
use Rattle.run_notes.specs.declared.notes.Notes.{Notes}
use Rattle.run_notes.specs.Reports.{Reports}
use Rattle.run_notes.proofs.Reporting.{set_reports}
use Rattle.run_notes.proofs.Stations.{same_noted}
use Rattle.run_notes.proofs.Stays.{stays_set}
use Rattle.run_notes.proofs.Handings.{same_services}
use Rattle.run_notes.specs.Handed.{services_of}
use Rattle.run_notes.proofs.Timings.{host_receives, none_receives, one_receives, past_receives}
use Rattle.run_notes.proofs.standing.Log.receive.Goals as goal

pub invariant_of-self : goal.invariant_of-self
invariant_of-self c =
    let log = c.args.self.now in
    record {
      lit =
          log.lit
          ∙ sym (same_noted log.recover log.homes log.notes c.in-Some.field-0.now c.at_mut.result.now c.received.new.self
          (ap (λ (n : Notes). n.gave) c.received.ensures ∙ ap (λ (n : Notes). n.gave) c.at_mut.ensures.value));
    }

pub returns-clause-stays : goal.returns-clause-stays
returns-clause-stays c =
    stays_set c.args.self.now.notes c.in-Some.field-0.now c.at_mut.result.now c.received.new.self c.at_mut.ensures.value
    (ap (λ (n : Notes). n.gave) c.received.ensures) (ap (λ (n : Notes). n.emergencies) c.received.ensures) (ap (λ (n : Notes). n.begun) c.received.ensures)

pub returns-clause-told : goal.returns-clause-told
returns-clause-told c =
    set_reports c.args.self.now.notes c.in-Some.field-0.now c.at_mut.result.now c.received.new.self c.at_mut.ensures.value (λ a r. subst (λ (n : Notes). Reports a n) (sym c.received.ensures) r)

pub returns-clause-services : goal.returns-clause-services
returns-clause-services c =
    same_services c.args.self.now.notes c.in-Some.field-0.now c.at_mut.result.now c.received.new.self (ap services_of c.received.ensures ∙ ap services_of c.at_mut.ensures.value)

pub returns-then-port-eq0-clause-from : goal.returns-then-port-eq0-clause-from
returns-then-port-eq0-clause-from c = host_receives c.args.self.now.ports c.args.port c.args.self.now.notes c.if-port-eq0.true

pub returns-in_default-clause-from : goal.returns-in_default-clause-from
returns-in_default-clause-from c = none_receives c.args.self.now.ports c.args.port c.args.self.now.notes c.if-port-eq0.false c.in_default.ensures

pub returns-then-slave-len-clause-from : goal.returns-then-slave-len-clause-from
returns-then-slave-len-clause-from c = past_receives c.args.self.now.ports c.args.port c.in-Some.field-0.now c.args.self.now.notes c.if-port-eq0.false c.in-Some.ensures (let l = c.if-slave-len.true in let e = c.len.ensures in omega (arith, l, e))

pub returns-clause-from : goal.returns-clause-from
returns-clause-from c = one_receives c.args.self.now.ports c.args.port c.in-Some.field-0.now c.args.self.now.notes c.at_mut.result.now c.received.new.self c.if-port-eq0.false c.in-Some.ensures c.at_mut.ensures.value c.received.ensures
