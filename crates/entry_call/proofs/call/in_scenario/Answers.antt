use Rattle.std.proofs.Common.{◌≡◌, map, string_bytes, [], refl, inl}
use Rattle.ecmbx_words.specs.declared.status.Status.TheVariants as statuses
use Rattle.gateway_tool.specs.Told.{told}
use Rattle.people_words.specs.declared.ended.Ended.{Ended}
use Rattle.scenario.specs.Document.{plan_of}
use Rattle.entry_call.specs.Course.{PlanCourse, OctetsCourse}
use Rattle.entry_call.proofs.Followed.{turned}
use Rattle.entry_call.proofs.Refused.{refused_at, refused_no_file}
use Rattle.entry_call.proofs.call.in_scenario.Goals as goal

pub returns-in-Ok-clause-course : goal.returns-in-Ok-clause-course
returns-in-Ok-clause-course g c =
    let words = map string_bytes c.args.words.now in
    let exact = rw c.bytes.ensures at c.in-Ok.ensures.exact in
    turned (PlanCourse words c.args.task c.in-Ok.plan.slaves (g.F.Files.table c.args.files.now) (g.F.Files.table c.at_slave.new.files) (c.at_slave.new.port ≡ c.args.port.now)
    (told g.P.Port.heard g.P.Port.sent g.P.Port.over g.P.Port.port_faults c.args.port.now) (told g.P.Port.heard g.P.Port.sent g.P.Port.over g.P.Port.port_faults c.at_slave.new.port))
    (OctetsCourse words c.args.task c.args.octets (g.F.Files.table c.args.files.now) (g.F.Files.table c.at_slave.new.files) (c.at_slave.new.port ≡ c.args.port.now)
    (told g.P.Port.heard g.P.Port.sent g.P.Port.over g.P.Port.port_faults c.args.port.now) (told g.P.Port.heard g.P.Port.sent g.P.Port.over g.P.Port.port_faults c.at_slave.new.port))
    (λ planned text came. OctetsCourse.planned c.in-Ok.plan planned text exact came)
    (g.O.Sink.written c.args.out.now) (g.O.Sink.written c.at_slave.new.out) c.at_slave.result c.at_slave.ensures.course

pub returns-in-Err-NoMemory-clause-course : goal.returns-in-Err-NoMemory-clause-course
returns-in-Err-NoMemory-clause-course g c = (Ended.As statuses.NoMemory, [], OctetsCourse.starved refl refl, inl refl)

pub returns-clause-course : goal.returns-clause-course
returns-clause-course g c =
    let why = rw c.in-Err-Refused.field-0-is at c.in-Err-Refused.ensures in
    let exact = rw c.bytes.ensures at why.exact in
    let told_so = rw c.in-Err-Refused.field-0-is at c.put_refused.ensures.course in
    let named = rw c.scenario_word.ensures at told_so in
    let course = rw c.bytes-in-Err-Refused.ensures at named in
    refused_at (map string_bytes c.args.words.now) c.args.task c.args.octets (g.F.Files.table c.args.files.now) (g.F.Files.table c.args.files.now) (c.args.port.now ≡ c.args.port.now)
    (told g.P.Port.heard g.P.Port.sent g.P.Port.over g.P.Port.port_faults c.args.port.now) (told g.P.Port.heard g.P.Port.sent g.P.Port.over g.P.Port.port_faults c.args.port.now)
    c.in-Err-Refused.rule c.in-Err-Refused.place (g.O.Sink.written c.args.out.now) (g.O.Sink.written c.put_refused.new.out) c.put_refused.result (plan_of c.args.octets) refl exact course refl refl

pub returns-clause-file : goal.returns-clause-file
returns-clause-file g c is =
    let told_so = rw c.in-Err-Refused.field-0-is at c.put_refused.ensures.course in
    refused_no_file c.scenario_word.result.now c.bytes-in-Err-Refused.result.now c.in-Err-Refused.rule c.in-Err-Refused.place (g.O.Sink.written c.args.out.now) (g.O.Sink.written c.put_refused.new.out) c.put_refused.result told_so is
