use Rattle.std.proofs.Common.{◌≡◌, ◌+◌, List, length, drop, ap, subst, arith}
use Rattle.std.specs.Prelude.{slice_index_or}
use Rattle.run_record.specs.of_master_node.declared.event.Event.{Event}
use Rattle.gateway_run.specs.Events.{events_of}
use Rattle.gateway_run.proofs.Accounts.{next_of, none_behind}
use Rattle.gateway_run.proofs.Told.{IsNoting, noting_on, noted_all}
use Rattle.gateway_run.proofs.desk.Desk.note_all.Goals as goal

pub loop-event-preserved : goal.loop-event-preserved
loop-event-preserved c = λ heard s.
    let all = events_of c.args.session.now.master in
    let at = c.loop-event.event-index in
    let is : c.events-event-items.result.now ≡ all = c.events-event-items.ensures in
    let n = ap length is in
    let less = c.loop-event-test.true in
    let here = subst (λ (l : List Event). c.event-item.result ≡ slice_index_or l at c.event-item.result) is c.event-item.is in
    noting_on heard all (drop (at + 1) all) c.event-item.result c.args.self.now c.loop-event.self c.note.new.self
    (subst (λ (l : List Event). IsNoting heard all l c.args.self.now c.loop-event.self) (next_of all at c.event-item.result (omega (arith, n, less)) here) (c.loop-event.invariant heard s)) c.in_ok-note.ensures

pub returns : goal.returns
returns c = λ heard s.
    let all = events_of c.args.session.now.master in
    let is : c.events-event-items.result.now ≡ all = c.events-event-items.ensures in
    let n = ap length is in
    let most = c.loop-event-test.false in
    noted_all heard all c.args.self.now c.loop-event.self
    (subst (λ (l : List Event). IsNoting heard all l c.args.self.now c.loop-event.self) (none_behind all c.loop-event.event-index (omega (arith, n, most))) (c.loop-event.invariant heard s))
