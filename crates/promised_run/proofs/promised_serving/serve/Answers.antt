use Rattle.std.proofs.Common.{refl}
use Rattle.gateway_run.specs.Serving.{told}
use Rattle.run_promises.specs.of_life_runs.First.{first_leads, lens_of}
use Rattle.promised_run.proofs.Given.{all_given}
use Rattle.promised_run.proofs.Rested.{rested}
use Rattle.promised_run.proofs.SentWhole.{all_send}
use Rattle.promised_run.proofs.ServedBooks.{booked}
use Rattle.promised_run.proofs.ServedBounded.{bounded}
use Rattle.promised_run.proofs.ServedPorts.{at_ports}
use Rattle.promised_run.proofs.ServedReported.{all_reported_so}
use Rattle.promised_run.proofs.ServedVisits.{visited}
use Rattle.promised_run.proofs.Through.{through}
use Rattle.promised_run.proofs.Whole.{whole}
use Rattle.promised_run.proofs.Written.{all_served_due, all_served_written, some_served_left}
use Rattle.promised_run.proofs.promised_serving.serve.Goals as goal
use Rattle.run_promises.specs.of_master_node.Happened.{events_of}
use Rattle.run_promises.proofs.Known.{known}
use Rattle.gateway_run.specs.of_run_record.Recalling.{state_of}
use Rattle.run_promises.specs.of_run_work.Lives.{first_server}
use Rattle.run_promises.specs.of_slave_server.Spec.{profile_of}

pub returns-clause-through : goal.returns-clause-through
returns-clause-through g c =
    let plan = c.args.plan.now in
    through plan c.args.count c.serve.new.book c.requires.plan c.requires.told c.served_replies_law.ensures
    (c.told_law.ensures (lens_of plan.slaves) plan.recover plan.retry plan.paces (first_leads plan)) (c.asked_law.ensures (lens_of plan.slaves) plan.recover plan.retry plan.paces (first_leads plan)) c.serve.ensures.frames

pub returns-clause-bounded : goal.returns-clause-bounded
returns-clause-bounded g c =
    let plan = c.args.plan.now in
    bounded plan c.args.count (told g.P.Port.heard g.P.Port.sent g.P.Port.over g.P.Port.port_faults c.args.port.now) (told g.P.Port.heard g.P.Port.sent g.P.Port.over g.P.Port.port_faults c.serve.new.port) c.serve.new.book c.serve.result
    (λ ending a fair heard.
    let v = a.answers.serving in
    c.fewer_law.ensures plan c.args.count c.serve.new.book ending c.requires.plan (known plan c.requires.told) (c.room_law.ensures.told plan c.requires.plan c.requires.told) c.serve.ensures.frames a
    (state_of a.session.master (events_of v.rows) a.session.ring) v.remembers refl fair heard)
    c.serve.ensures.frames c.serve.ensures.served c.serve.ensures.ending

pub returns-clause-whole : goal.returns-clause-whole
returns-clause-whole g c = whole c.args.plan.now c.serve.new.book

pub returns-clause-ports : goal.returns-clause-ports
returns-clause-ports g c =
    at_ports c.args.plan.now c.args.count c.serve.new.book (told g.P.Port.heard g.P.Port.sent g.P.Port.over g.P.Port.port_faults c.args.port.now) (told g.P.Port.heard g.P.Port.sent g.P.Port.over g.P.Port.port_faults c.serve.new.port)
    c.serve.result c.serve.ensures.served c.serve.ensures.ending

pub returns-clause-sends : goal.returns-clause-sends
returns-clause-sends g c =
    all_send c.args.plan.now c.requires.plan (known c.args.plan.now c.requires.told) c.whole_packets_law.ensures.whole c.whole_packets_law.ensures.long c.served_replies_law.ensures c.accepted_law.ensures.servings c.args.count c.serve.new.book c.serve.ensures.frames (returns-clause-ports g c)

pub returns-clause-given : goal.returns-clause-given
returns-clause-given g c =
    all_given c.args.plan.now c.args.count c.serve.new.book c.requires.plan c.requires.told c.served_replies_law.ensures c.heard_stays.ensures
    (λ s l n d. c.given_law.ensures.all (profile_of s) s.boot s.station s.start (first_server s) l n d) (λ s gs ps rs all i r at. c.given_law.ensures.at (profile_of s) s.boot s.station gs ps rs all i r at) c.serve.ensures.frames

pub returns-clause-rests : goal.returns-clause-rests
returns-clause-rests g c =
    rested c.args.plan.now c.args.count (told g.P.Port.heard g.P.Port.sent g.P.Port.over g.P.Port.port_faults c.args.port.now) (told g.P.Port.heard g.P.Port.sent g.P.Port.over g.P.Port.port_faults c.serve.new.port) c.serve.new.book c.serve.result
    c.requires.plan c.requires.told c.served_rests_law.ensures c.serve.ensures.frames c.serve.ensures.served c.serve.ensures.ending

pub returns-clause-replied : goal.returns-clause-replied
returns-clause-replied g c = all_reported_so c.args.plan.now c.args.count c.serve.new.book c.requires.plan c.requires.told c.told_eras_law.ensures c.serve.ensures.frames

pub returns-clause-written : goal.returns-clause-written
returns-clause-written g c =
    all_served_written c.args.plan.now (c.served_due_law.ensures c.args.plan.now c.requires.plan (known c.args.plan.now c.requires.told)) c.args.count c.serve.new.book c.serve.ensures.frames

pub returns-clause-due : goal.returns-clause-due
returns-clause-due g c =
    all_served_due c.args.plan.now (c.served_due_law.ensures c.args.plan.now c.requires.plan (known c.args.plan.now c.requires.told)) c.args.count c.serve.new.book c.serve.ensures.frames

pub returns-clause-left : goal.returns-clause-left
returns-clause-left g c =
    some_served_left c.args.plan.now (c.served_due_law.ensures c.args.plan.now c.requires.plan (known c.args.plan.now c.requires.told)) c.args.count c.serve.new.book c.serve.ensures.frames

pub returns-clause-booked : goal.returns-clause-booked
returns-clause-booked g c = booked c.args.plan.now c.args.count c.serve.new.book (c.opened_law.ensures c.args.plan.now)

pub returns-clause-visits : goal.returns-clause-visits
returns-clause-visits g c = visited c.args.plan.now c.requires.plan c.args.count c.serve.new.book
