use Rattle.gateway_stream.specs.of_ec_outside.Faults.{Rose}
use Rattle.promised_run.specs.of_gateway_run.Serving.{told}
use Rattle.ecmbx_call.specs.Course.{words_of}
use Rattle.ecmbx_call.proofs.Causes.{usage_cause, absent_cause, long_cause, refused_cause, broken_cause, done_cause, given_up_cause, spent_cause, file_fault_cause, port_cause, ending_is, runs_to, saves_to, serves_to, shows_to, audits_to, makes_to}
use Rattle.ecmbx_call.proofs.Complete.{completes_serving, completes_to}
use Rattle.ecmbx_call.proofs.top.ecmbx.Goals as goal

pub returns-clause-runs : goal.returns-clause-runs
returns-clause-runs g c =
    λ plan calm. runs_to (words_of c.args.words.now) (g.F.Files.table c.args.files.now) (g.F.Files.table c.carry_out.new.files) (Rose (g.F.Files.file_faults c.args.files.now) (g.F.Files.file_faults c.carry_out.new.files)) (told g.P.Port.heard g.P.Port.sent g.P.Port.over g.P.Port.port_faults c.args.port.now) (told g.P.Port.heard g.P.Port.sent g.P.Port.over g.P.Port.port_faults c.carry_out.new.port) c.carry_out.new.book
    (g.O.Sink.written c.args.out.now) (g.O.Sink.written c.carry_out.new.out) c.carry_out.result c.carry_out.ensures.course calm plan

pub returns-clause-saves : goal.returns-clause-saves
returns-clause-saves g c =
    λ plan calm. saves_to (words_of c.args.words.now) (g.F.Files.table c.args.files.now) (g.F.Files.table c.carry_out.new.files) (Rose (g.F.Files.file_faults c.args.files.now) (g.F.Files.file_faults c.carry_out.new.files)) (told g.P.Port.heard g.P.Port.sent g.P.Port.over g.P.Port.port_faults c.args.port.now) (told g.P.Port.heard g.P.Port.sent g.P.Port.over g.P.Port.port_faults c.carry_out.new.port) c.carry_out.new.book
    (g.O.Sink.written c.args.out.now) (g.O.Sink.written c.carry_out.new.out) c.carry_out.result c.carry_out.ensures.course calm plan

pub returns-clause-completes : goal.returns-clause-completes
returns-clause-completes g c =
    λ plan calm quiet. completes_to (words_of c.args.words.now) (g.F.Files.table c.args.files.now) (g.F.Files.table c.carry_out.new.files) (Rose (g.O.Sink.sink_faults c.args.out.now) (g.O.Sink.sink_faults c.carry_out.new.out)) plan c.carry_out.new.book (g.O.Sink.written c.args.out.now) (g.O.Sink.written c.carry_out.new.out) c.carry_out.result c.carry_out.ensures.sink quiet
    (runs_to (words_of c.args.words.now) (g.F.Files.table c.args.files.now) (g.F.Files.table c.carry_out.new.files) (Rose (g.F.Files.file_faults c.args.files.now) (g.F.Files.file_faults c.carry_out.new.files)) (told g.P.Port.heard g.P.Port.sent g.P.Port.over g.P.Port.port_faults c.args.port.now) (told g.P.Port.heard g.P.Port.sent g.P.Port.over g.P.Port.port_faults c.carry_out.new.port) c.carry_out.new.book
    (g.O.Sink.written c.args.out.now) (g.O.Sink.written c.carry_out.new.out) c.carry_out.result c.carry_out.ensures.course calm plan)
    (saves_to (words_of c.args.words.now) (g.F.Files.table c.args.files.now) (g.F.Files.table c.carry_out.new.files) (Rose (g.F.Files.file_faults c.args.files.now) (g.F.Files.file_faults c.carry_out.new.files)) (told g.P.Port.heard g.P.Port.sent g.P.Port.over g.P.Port.port_faults c.args.port.now) (told g.P.Port.heard g.P.Port.sent g.P.Port.over g.P.Port.port_faults c.carry_out.new.port) c.carry_out.new.book
    (g.O.Sink.written c.args.out.now) (g.O.Sink.written c.carry_out.new.out) c.carry_out.result c.carry_out.ensures.course calm plan)

pub returns-clause-completes_serving : goal.returns-clause-completes_serving
returns-clause-completes_serving g c =
    λ plan calm quiet. completes_serving (words_of c.args.words.now) (g.F.Files.table c.args.files.now) (Rose (g.O.Sink.sink_faults c.args.out.now) (g.O.Sink.sink_faults c.carry_out.new.out)) (told g.P.Port.heard g.P.Port.sent g.P.Port.over g.P.Port.port_faults c.args.port.now) (told g.P.Port.heard g.P.Port.sent g.P.Port.over g.P.Port.port_faults c.carry_out.new.port) plan c.carry_out.new.book (g.O.Sink.written c.args.out.now) (g.O.Sink.written c.carry_out.new.out) c.carry_out.result c.carry_out.ensures.sink quiet
    (serves_to (words_of c.args.words.now) (g.F.Files.table c.args.files.now) (g.F.Files.table c.carry_out.new.files) (Rose (g.F.Files.file_faults c.args.files.now) (g.F.Files.file_faults c.carry_out.new.files)) (told g.P.Port.heard g.P.Port.sent g.P.Port.over g.P.Port.port_faults c.args.port.now) (told g.P.Port.heard g.P.Port.sent g.P.Port.over g.P.Port.port_faults c.carry_out.new.port) c.carry_out.new.book
    (g.O.Sink.written c.args.out.now) (g.O.Sink.written c.carry_out.new.out) c.carry_out.result c.carry_out.ensures.course calm plan)

pub returns-clause-serves : goal.returns-clause-serves
returns-clause-serves g c =
    λ plan calm. serves_to (words_of c.args.words.now) (g.F.Files.table c.args.files.now) (g.F.Files.table c.carry_out.new.files) (Rose (g.F.Files.file_faults c.args.files.now) (g.F.Files.file_faults c.carry_out.new.files)) (told g.P.Port.heard g.P.Port.sent g.P.Port.over g.P.Port.port_faults c.args.port.now) (told g.P.Port.heard g.P.Port.sent g.P.Port.over g.P.Port.port_faults c.carry_out.new.port) c.carry_out.new.book
    (g.O.Sink.written c.args.out.now) (g.O.Sink.written c.carry_out.new.out) c.carry_out.result c.carry_out.ensures.course calm plan

pub returns-clause-shows : goal.returns-clause-shows
returns-clause-shows g c =
    λ calm quiet. shows_to (words_of c.args.words.now) (g.F.Files.table c.args.files.now) (g.F.Files.table c.carry_out.new.files) (Rose (g.F.Files.file_faults c.args.files.now) (g.F.Files.file_faults c.carry_out.new.files)) (told g.P.Port.heard g.P.Port.sent g.P.Port.over g.P.Port.port_faults c.args.port.now) (told g.P.Port.heard g.P.Port.sent g.P.Port.over g.P.Port.port_faults c.carry_out.new.port) c.carry_out.new.book
    (g.O.Sink.written c.args.out.now) (g.O.Sink.written c.carry_out.new.out) c.carry_out.result (Rose (g.O.Sink.sink_faults c.args.out.now) (g.O.Sink.sink_faults c.carry_out.new.out)) c.carry_out.ensures.sink quiet calm c.carry_out.ensures.course

pub returns-clause-audits : goal.returns-clause-audits
returns-clause-audits g c =
    λ calm quiet. audits_to (words_of c.args.words.now) (g.F.Files.table c.args.files.now) (g.F.Files.table c.carry_out.new.files) (Rose (g.F.Files.file_faults c.args.files.now) (g.F.Files.file_faults c.carry_out.new.files)) (told g.P.Port.heard g.P.Port.sent g.P.Port.over g.P.Port.port_faults c.args.port.now) (told g.P.Port.heard g.P.Port.sent g.P.Port.over g.P.Port.port_faults c.carry_out.new.port) c.carry_out.new.book
    (g.O.Sink.written c.args.out.now) (g.O.Sink.written c.carry_out.new.out) c.carry_out.result (Rose (g.O.Sink.sink_faults c.args.out.now) (g.O.Sink.sink_faults c.carry_out.new.out)) c.carry_out.ensures.sink quiet calm c.carry_out.ensures.course

pub returns-clause-makes : goal.returns-clause-makes
returns-clause-makes g c =
    λ quiet. makes_to (words_of c.args.words.now) (g.F.Files.table c.args.files.now) (g.F.Files.table c.carry_out.new.files) (Rose (g.F.Files.file_faults c.args.files.now) (g.F.Files.file_faults c.carry_out.new.files)) (told g.P.Port.heard g.P.Port.sent g.P.Port.over g.P.Port.port_faults c.args.port.now) (told g.P.Port.heard g.P.Port.sent g.P.Port.over g.P.Port.port_faults c.carry_out.new.port) c.carry_out.new.book
    (g.O.Sink.written c.args.out.now) (g.O.Sink.written c.carry_out.new.out) c.carry_out.result (Rose (g.O.Sink.sink_faults c.args.out.now) (g.O.Sink.sink_faults c.carry_out.new.out)) c.carry_out.ensures.sink quiet c.carry_out.ensures.course

pub returns-clause-usage : goal.returns-clause-usage
returns-clause-usage g c =
    usage_cause (words_of c.args.words.now) (g.F.Files.table c.args.files.now) (g.F.Files.table c.carry_out.new.files) (Rose (g.F.Files.file_faults c.args.files.now) (g.F.Files.file_faults c.carry_out.new.files)) (told g.P.Port.heard g.P.Port.sent g.P.Port.over g.P.Port.port_faults c.args.port.now) (told g.P.Port.heard g.P.Port.sent g.P.Port.over g.P.Port.port_faults c.carry_out.new.port) c.carry_out.new.book
    (g.O.Sink.written c.args.out.now) (g.O.Sink.written c.carry_out.new.out) c.carry_out.result c.carry_out.ensures.course

pub returns-clause-absent : goal.returns-clause-absent
returns-clause-absent g c =
    absent_cause (words_of c.args.words.now) (g.F.Files.table c.args.files.now) (g.F.Files.table c.carry_out.new.files) (Rose (g.F.Files.file_faults c.args.files.now) (g.F.Files.file_faults c.carry_out.new.files)) (told g.P.Port.heard g.P.Port.sent g.P.Port.over g.P.Port.port_faults c.args.port.now) (told g.P.Port.heard g.P.Port.sent g.P.Port.over g.P.Port.port_faults c.carry_out.new.port) c.carry_out.new.book
    (g.O.Sink.written c.args.out.now) (g.O.Sink.written c.carry_out.new.out) c.carry_out.result c.carry_out.ensures.course

pub returns-clause-too_long : goal.returns-clause-too_long
returns-clause-too_long g c =
    long_cause (words_of c.args.words.now) (g.F.Files.table c.args.files.now) (g.F.Files.table c.carry_out.new.files) (Rose (g.F.Files.file_faults c.args.files.now) (g.F.Files.file_faults c.carry_out.new.files)) (told g.P.Port.heard g.P.Port.sent g.P.Port.over g.P.Port.port_faults c.args.port.now) (told g.P.Port.heard g.P.Port.sent g.P.Port.over g.P.Port.port_faults c.carry_out.new.port) c.carry_out.new.book
    (g.O.Sink.written c.args.out.now) (g.O.Sink.written c.carry_out.new.out) c.carry_out.result c.carry_out.ensures.course

pub returns-clause-refused : goal.returns-clause-refused
returns-clause-refused g c =
    refused_cause (words_of c.args.words.now) (g.F.Files.table c.args.files.now) (g.F.Files.table c.carry_out.new.files) (Rose (g.F.Files.file_faults c.args.files.now) (g.F.Files.file_faults c.carry_out.new.files)) (told g.P.Port.heard g.P.Port.sent g.P.Port.over g.P.Port.port_faults c.args.port.now) (told g.P.Port.heard g.P.Port.sent g.P.Port.over g.P.Port.port_faults c.carry_out.new.port) c.carry_out.new.book
    (g.O.Sink.written c.args.out.now) (g.O.Sink.written c.carry_out.new.out) c.carry_out.result c.carry_out.ensures.course

pub returns-clause-audit_no : goal.returns-clause-audit_no
returns-clause-audit_no g c =
    broken_cause (words_of c.args.words.now) (g.F.Files.table c.args.files.now) (g.F.Files.table c.carry_out.new.files) (Rose (g.F.Files.file_faults c.args.files.now) (g.F.Files.file_faults c.carry_out.new.files)) (told g.P.Port.heard g.P.Port.sent g.P.Port.over g.P.Port.port_faults c.args.port.now) (told g.P.Port.heard g.P.Port.sent g.P.Port.over g.P.Port.port_faults c.carry_out.new.port) c.carry_out.new.book
    (g.O.Sink.written c.args.out.now) (g.O.Sink.written c.carry_out.new.out) c.carry_out.result c.carry_out.ensures.course

pub returns-clause-done : goal.returns-clause-done
returns-clause-done g c =
    done_cause (words_of c.args.words.now) (g.F.Files.table c.args.files.now) (g.F.Files.table c.carry_out.new.files) (Rose (g.F.Files.file_faults c.args.files.now) (g.F.Files.file_faults c.carry_out.new.files)) (told g.P.Port.heard g.P.Port.sent g.P.Port.over g.P.Port.port_faults c.args.port.now) (told g.P.Port.heard g.P.Port.sent g.P.Port.over g.P.Port.port_faults c.carry_out.new.port) c.carry_out.new.book
    (g.O.Sink.written c.args.out.now) (g.O.Sink.written c.carry_out.new.out) c.carry_out.result c.carry_out.ensures.course

pub returns-clause-given_up : goal.returns-clause-given_up
returns-clause-given_up g c =
    given_up_cause (words_of c.args.words.now) (g.F.Files.table c.args.files.now) (g.F.Files.table c.carry_out.new.files) (Rose (g.F.Files.file_faults c.args.files.now) (g.F.Files.file_faults c.carry_out.new.files)) (told g.P.Port.heard g.P.Port.sent g.P.Port.over g.P.Port.port_faults c.args.port.now) (told g.P.Port.heard g.P.Port.sent g.P.Port.over g.P.Port.port_faults c.carry_out.new.port) c.carry_out.new.book
    (g.O.Sink.written c.args.out.now) (g.O.Sink.written c.carry_out.new.out) c.carry_out.result c.carry_out.ensures.course

pub returns-clause-budget_spent : goal.returns-clause-budget_spent
returns-clause-budget_spent g c =
    spent_cause (words_of c.args.words.now) (g.F.Files.table c.args.files.now) (g.F.Files.table c.carry_out.new.files) (Rose (g.F.Files.file_faults c.args.files.now) (g.F.Files.file_faults c.carry_out.new.files)) (told g.P.Port.heard g.P.Port.sent g.P.Port.over g.P.Port.port_faults c.args.port.now) (told g.P.Port.heard g.P.Port.sent g.P.Port.over g.P.Port.port_faults c.carry_out.new.port) c.carry_out.new.book
    (g.O.Sink.written c.args.out.now) (g.O.Sink.written c.carry_out.new.out) c.carry_out.result c.carry_out.ensures.course

pub returns-clause-file_fault : goal.returns-clause-file_fault
returns-clause-file_fault g c =
    file_fault_cause (words_of c.args.words.now) (g.F.Files.table c.args.files.now) (g.F.Files.table c.carry_out.new.files) (Rose (g.F.Files.file_faults c.args.files.now) (g.F.Files.file_faults c.carry_out.new.files)) (told g.P.Port.heard g.P.Port.sent g.P.Port.over g.P.Port.port_faults c.args.port.now) (told g.P.Port.heard g.P.Port.sent g.P.Port.over g.P.Port.port_faults c.carry_out.new.port) c.carry_out.new.book
    (g.O.Sink.written c.args.out.now) (g.O.Sink.written c.carry_out.new.out) c.carry_out.result c.carry_out.ensures.course

pub returns-clause-port_fault : goal.returns-clause-port_fault
returns-clause-port_fault g c =
    port_cause (words_of c.args.words.now) (g.F.Files.table c.args.files.now) (g.F.Files.table c.carry_out.new.files) (Rose (g.F.Files.file_faults c.args.files.now) (g.F.Files.file_faults c.carry_out.new.files)) (told g.P.Port.heard g.P.Port.sent g.P.Port.over g.P.Port.port_faults c.args.port.now) (told g.P.Port.heard g.P.Port.sent g.P.Port.over g.P.Port.port_faults c.carry_out.new.port) c.carry_out.new.book
    (g.O.Sink.written c.args.out.now) (g.O.Sink.written c.carry_out.new.out) c.carry_out.result c.carry_out.ensures.course

pub returns-clause-ending : goal.returns-clause-ending
returns-clause-ending g c =
    ending_is (words_of c.args.words.now) (g.F.Files.table c.args.files.now) (g.F.Files.table c.carry_out.new.files) (Rose (g.F.Files.file_faults c.args.files.now) (g.F.Files.file_faults c.carry_out.new.files)) (told g.P.Port.heard g.P.Port.sent g.P.Port.over g.P.Port.port_faults c.args.port.now) (told g.P.Port.heard g.P.Port.sent g.P.Port.over g.P.Port.port_faults c.carry_out.new.port) c.carry_out.new.book
    (g.O.Sink.written c.args.out.now) (g.O.Sink.written c.carry_out.new.out) c.carry_out.result c.carry_out.ensures.course
