use Rattle.std.proofs.Common.{◌≡◌, map, string_bytes, [], inl, refl}
use Rattle.ecmbx_words.specs.declared.status.Status.TheVariants as statuses
use Rattle.gateway_tool.specs.Told.{told}
use Rattle.people_words.specs.declared.ended.Ended.{Ended}
use Rattle.entry_texts.specs.Silence.{unanswered_lines, port_fault_lines}
use Rattle.entry_call.specs.Service.{ReplyCourse, ServiceCourse}
use Rattle.entry_call.proofs.Followed.{turned, no_file_fault}
use Rattle.entry_call.proofs.asking.carry_out.Goals as goal

pub returns-in-Reply-clause-course : goal.returns-in-Reply-clause-course
returns-in-Reply-clause-course g c =
    turned (ReplyCourse (map string_bytes c.args.words.now) c.args.task c.args.slave.now c.args.service.now c.ask.new.value (g.F.Files.table c.args.files.now) (g.F.Files.table c.follow.new.files))
    (ServiceCourse (map string_bytes c.args.words.now) c.args.task c.args.slave.now c.args.service.now (g.F.Files.table c.args.files.now) (g.F.Files.table c.follow.new.files) (c.ask.new.port ≡ c.args.port.now)
    (told g.P.Port.heard g.P.Port.sent g.P.Port.over g.P.Port.port_faults c.args.port.now) (told g.P.Port.heard g.P.Port.sent g.P.Port.over g.P.Port.port_faults c.ask.new.port))
    (λ planned text came. ServiceCourse.replied c.ask.new.value planned text c.in-Reply.ensures.ended came)
    (g.O.Sink.written c.args.out.now) (g.O.Sink.written c.follow.new.out) c.follow.result c.follow.ensures.course

pub returns-in-NoAnswer-clause-course : goal.returns-in-NoAnswer-clause-course
returns-in-NoAnswer-clause-course g c =
    let lines = unanswered_lines (map string_bytes c.args.words.now) c.args.task c.args.slave.now c.args.service.now in
    (Ended.As statuses.NoAnswer, lines, ServiceCourse.unanswered c.ask.new.value c.in-NoAnswer.ensures.ended refl, c.put.ensures.put lines c.unanswered_lines.ensures)

pub returns-in-NoAnswer-clause-file : goal.returns-in-NoAnswer-clause-file
returns-in-NoAnswer-clause-file g c is = no_file_fault (Ended.As statuses.NoAnswer) c.put.result c.put.ensures.among (λ same. absurd cc) is

pub returns-in-PortFault-clause-course : goal.returns-in-PortFault-clause-course
returns-in-PortFault-clause-course g c =
    let lines = port_fault_lines (map string_bytes c.args.words.now) c.args.task c.args.slave.now c.args.service.now in
    (Ended.As statuses.PortFault, lines, ServiceCourse.failed c.ask.new.value c.in-PortFault.ensures.ended refl, c.put-in-PortFault.ensures.put lines c.port_fault_lines.ensures)

pub returns-in-PortFault-clause-file : goal.returns-in-PortFault-clause-file
returns-in-PortFault-clause-file g c is = no_file_fault (Ended.As statuses.PortFault) c.put-in-PortFault.result c.put-in-PortFault.ensures.among (λ same. absurd cc) is

pub returns-clause-course : goal.returns-clause-course
returns-clause-course g c = (Ended.As statuses.NoMemory, [], ServiceCourse.starved c.ask.new.value c.in-NoMemory.ensures.ended refl, inl refl)
