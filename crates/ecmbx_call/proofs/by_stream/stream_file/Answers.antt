use Rattle.std.proofs.Common.{◌||◌, ◌∙◌, ap, refl, []}
use Rattle.gateway_stream.specs.of_ec_outside.Faults.{Rose}
use Rattle.gateway_stream.specs.Hearing.{heard_of, is_broken}
use Rattle.gateway_stream.specs.Sending.{sent_of}
use Rattle.ecmbx_call.specs.Linked.{told_first, told_last}
use Rattle.ecmbx_call.proofs.Puts.{puts_whole}
use Rattle.ecmbx_call.proofs.Retold.{in_retold, link_retold}
use Rattle.ecmbx_call.proofs.Streams.{followed_retold}
use Rattle.ecmbx_call.proofs.by_stream.stream_file.Goals as goal

pub returns-clause-course : goal.returns-clause-course
returns-clause-course g c =
    let course = rw c.new-port.ensures at c.serve_file-status.ensures.course in
    rw c.into_link.ensures.link (followed_retold (record { heard = heard_of (g.L.Link.given c.args.link) []; sent = sent_of [] (g.L.Link.sent c.args.link); over = g.L.Link.over c.args.link || is_broken []; faults = g.L.Link.link_faults c.args.link }) (record { heard = heard_of (g.L.Link.given c.serve_file-status.new.port.link) c.serve_file-status.new.port.kept; sent = sent_of c.serve_file-status.new.port.failed (g.L.Link.sent c.serve_file-status.new.port.link); over = g.L.Link.over c.serve_file-status.new.port.link || is_broken c.serve_file-status.new.port.kept; faults = g.L.Link.link_faults c.serve_file-status.new.port.link }) (told_first g.L.Link.given g.L.Link.sent g.L.Link.over g.L.Link.link_faults c.args.link) (told_last g.L.Link.given g.L.Link.sent g.L.Link.over g.L.Link.link_faults c.args.link c.serve_file-status.new.port.link)
    (link_retold (g.L.Link.given c.args.link) (g.L.Link.given c.serve_file-status.new.port.link) (g.L.Link.sent c.args.link) (g.L.Link.sent c.serve_file-status.new.port.link) (g.L.Link.over c.args.link) (g.L.Link.over c.serve_file-status.new.port.link) (g.L.Link.over c.args.link || is_broken []) (g.L.Link.link_faults c.args.link) (g.L.Link.link_faults c.serve_file-status.new.port.link) c.serve_file-status.new.port.kept c.serve_file-status.new.port.failed) c.args.count c.serve_file-status.new.book c.args.name.now (g.F.Files.table c.args.files.now) (Rose (g.F.Files.file_faults c.args.files.now) (g.F.Files.file_faults c.serve_file-status.new.files))
    (g.O.Sink.written c.args.out.now) (g.O.Sink.written c.serve_file-status.new.out) c.serve_file-status.result course)

pub returns-clause-book : goal.returns-clause-book
returns-clause-book g c =
    let book = rw c.new-port.ensures at c.serve_file-status.ensures.book in
    rw c.into_link.ensures.link (in_retold (record { heard = heard_of (g.L.Link.given c.args.link) []; sent = sent_of [] (g.L.Link.sent c.args.link); over = g.L.Link.over c.args.link || is_broken []; faults = g.L.Link.link_faults c.args.link }) (record { heard = heard_of (g.L.Link.given c.serve_file-status.new.port.link) c.serve_file-status.new.port.kept; sent = sent_of c.serve_file-status.new.port.failed (g.L.Link.sent c.serve_file-status.new.port.link); over = g.L.Link.over c.serve_file-status.new.port.link || is_broken c.serve_file-status.new.port.kept; faults = g.L.Link.link_faults c.serve_file-status.new.port.link }) (told_first g.L.Link.given g.L.Link.sent g.L.Link.over g.L.Link.link_faults c.args.link) (told_last g.L.Link.given g.L.Link.sent g.L.Link.over g.L.Link.link_faults c.args.link c.serve_file-status.new.port.link)
    (link_retold (g.L.Link.given c.args.link) (g.L.Link.given c.serve_file-status.new.port.link) (g.L.Link.sent c.args.link) (g.L.Link.sent c.serve_file-status.new.port.link) (g.L.Link.over c.args.link) (g.L.Link.over c.serve_file-status.new.port.link) (g.L.Link.over c.args.link || is_broken []) (g.L.Link.link_faults c.args.link) (g.L.Link.link_faults c.serve_file-status.new.port.link) c.serve_file-status.new.port.kept c.serve_file-status.new.port.failed) c.args.count c.serve_file-status.new.book c.args.name.now (g.F.Files.table c.args.files.now) book)

pub returns-clause-link : goal.returns-clause-link
returns-clause-link g c = λ fresh. c.into_link.ensures.link ∙ ap (λ port. port.link) (c.serve_file-status.ensures.port fresh ∙ c.new-port.ensures)

pub returns-clause-puts : goal.returns-clause-puts
returns-clause-puts g c =
    let book = rw c.new-port.ensures at c.serve_file-status.ensures.book in
    let faulted = rw c.into_link.ensures.link at c.into_link.ensures.faulted in
    λ memory. rw c.into_link.ensures.link (puts_whole (g.L.Link.sent c.args.link) (g.L.Link.sent c.serve_file-status.new.port.link) c.serve_file-status.new.port.failed (g.L.Link.link_faults c.serve_file-status.new.port.link) faulted c.args.name.now (g.F.Files.table c.args.files.now) c.args.count (record { heard = heard_of (g.L.Link.given c.args.link) []; sent = sent_of [] (g.L.Link.sent c.args.link); over = g.L.Link.over c.args.link || is_broken []; faults = g.L.Link.link_faults c.args.link }) (record { heard = heard_of (g.L.Link.given c.serve_file-status.new.port.link) c.serve_file-status.new.port.kept; sent = sent_of c.serve_file-status.new.port.failed (g.L.Link.sent c.serve_file-status.new.port.link); over = g.L.Link.over c.serve_file-status.new.port.link || is_broken c.serve_file-status.new.port.kept; faults = g.L.Link.link_faults c.serve_file-status.new.port.link }) c.serve_file-status.new.book
    refl refl (λ fresh. ap (λ link. g.L.Link.sent link) (ap (λ port. port.link) (c.serve_file-status.ensures.port fresh ∙ c.new-port.ensures))) book memory)
