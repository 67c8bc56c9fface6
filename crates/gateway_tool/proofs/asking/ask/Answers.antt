use Rattle.std.proofs.Common.{◌≡◌, Ok, Err, true, false}
use Rattle.gateway_core.specs.of_ec_outside.declared.port.PortErr.{PortErr}
use Rattle.gateway_tool.specs.Told.{told}
use Rattle.gateway_tool.proofs.Endings.{never_begun, goes_first, asked_reply, asked_unkept, asked_nothing, asked_failed, asked_lost}
use Rattle.gateway_tool.proofs.asking.ask.Goals as goal

pub returns-in_default-clause-ended : goal.returns-in_default-clause-ended
returns-in_default-clause-ended g c = never_begun (record { areas = record { out = c.args.out_len; back = c.args.in_len }; service = c.args.service.now; station = c.args.station; to = c.args.to }) (told g.P.Port.heard g.P.Port.sent g.P.Port.over g.P.Port.port_faults c.args.port.now) c.args.value.now c.requires.form

pub returns-in-Ok-reply-clause-ended : goal.returns-in-Ok-reply-clause-ended
returns-in-Ok-reply-clause-ended g c =
    let e : c.go_on.result ≡ Ok true = cc (c.in-Ok-true.is, c.in-Ok-true.field-0-is) in
    asked_reply (record { areas = record { out = c.args.out_len; back = c.args.in_len }; service = c.args.service.now; station = c.args.station; to = c.args.to }) (told g.P.Port.heard g.P.Port.sent g.P.Port.over g.P.Port.port_faults c.args.port.now) (told g.P.Port.heard g.P.Port.sent g.P.Port.over g.P.Port.port_faults c.go_on.new.port) c.go_on.new.self c.reply.new.into c.go_on.result e
    (c.go_on.ensures.goes (record { areas = record { out = c.args.out_len; back = c.args.in_len }; service = c.args.service.now; station = c.args.station; to = c.args.to }) (told g.P.Port.heard g.P.Port.sent g.P.Port.over g.P.Port.port_faults c.args.port.now) (goes_first (record { areas = record { out = c.args.out_len; back = c.args.in_len }; service = c.args.service.now; station = c.args.station; to = c.args.to }) (told g.P.Port.heard g.P.Port.sent g.P.Port.over g.P.Port.port_faults c.args.port.now) c.in-Ok.talk c.in-Ok.ensures.stands)) c.go_on.ensures.rests c.go_on.ensures.stops c.in-Ok-reply.ensures.ok

pub returns-in-Ok-true-clause-ended : goal.returns-in-Ok-true-clause-ended
returns-in-Ok-true-clause-ended g c =
    let e : c.go_on.result ≡ Ok true = cc (c.in-Ok-true.is, c.in-Ok-true.field-0-is) in
    asked_unkept (record { areas = record { out = c.args.out_len; back = c.args.in_len }; service = c.args.service.now; station = c.args.station; to = c.args.to }) (told g.P.Port.heard g.P.Port.sent g.P.Port.over g.P.Port.port_faults c.args.port.now) (told g.P.Port.heard g.P.Port.sent g.P.Port.over g.P.Port.port_faults c.go_on.new.port) c.go_on.new.self c.reply.new.into c.go_on.result e
    (c.go_on.ensures.goes (record { areas = record { out = c.args.out_len; back = c.args.in_len }; service = c.args.service.now; station = c.args.station; to = c.args.to }) (told g.P.Port.heard g.P.Port.sent g.P.Port.over g.P.Port.port_faults c.args.port.now) (goes_first (record { areas = record { out = c.args.out_len; back = c.args.in_len }; service = c.args.service.now; station = c.args.station; to = c.args.to }) (told g.P.Port.heard g.P.Port.sent g.P.Port.over g.P.Port.port_faults c.args.port.now) c.in-Ok.talk c.in-Ok.ensures.stands)) c.go_on.ensures.rests

pub returns-in-Ok-false-clause-ended : goal.returns-in-Ok-false-clause-ended
returns-in-Ok-false-clause-ended g c =
    let e : c.go_on.result ≡ Ok false = cc (c.in-Ok-false.is, c.in-Ok-false.field-0-is) in
    asked_nothing (record { areas = record { out = c.args.out_len; back = c.args.in_len }; service = c.args.service.now; station = c.args.station; to = c.args.to }) (told g.P.Port.heard g.P.Port.sent g.P.Port.over g.P.Port.port_faults c.args.port.now) (told g.P.Port.heard g.P.Port.sent g.P.Port.over g.P.Port.port_faults c.go_on.new.port) c.go_on.new.self c.args.value.now c.go_on.result e
    (c.go_on.ensures.goes (record { areas = record { out = c.args.out_len; back = c.args.in_len }; service = c.args.service.now; station = c.args.station; to = c.args.to }) (told g.P.Port.heard g.P.Port.sent g.P.Port.over g.P.Port.port_faults c.args.port.now) (goes_first (record { areas = record { out = c.args.out_len; back = c.args.in_len }; service = c.args.service.now; station = c.args.station; to = c.args.to }) (told g.P.Port.heard g.P.Port.sent g.P.Port.over g.P.Port.port_faults c.args.port.now) c.in-Ok.talk c.in-Ok.ensures.stands)) c.go_on.ensures.rests c.go_on.ensures.few c.go_on.ensures.replies c.go_on.ensures.stops

pub returns-in-Err-Failed-clause-ended : goal.returns-in-Err-Failed-clause-ended
returns-in-Err-Failed-clause-ended g c =
    let e : c.go_on.result ≡ Err PortErr.Failed = cc (c.in-Err-Failed.is, c.in-Err-Failed.field-0-is) in
    asked_failed (record { areas = record { out = c.args.out_len; back = c.args.in_len }; service = c.args.service.now; station = c.args.station; to = c.args.to }) (told g.P.Port.heard g.P.Port.sent g.P.Port.over g.P.Port.port_faults c.args.port.now) (told g.P.Port.heard g.P.Port.sent g.P.Port.over g.P.Port.port_faults c.go_on.new.port) c.go_on.new.self c.args.value.now c.go_on.result e
    (c.go_on.ensures.goes (record { areas = record { out = c.args.out_len; back = c.args.in_len }; service = c.args.service.now; station = c.args.station; to = c.args.to }) (told g.P.Port.heard g.P.Port.sent g.P.Port.over g.P.Port.port_faults c.args.port.now) (goes_first (record { areas = record { out = c.args.out_len; back = c.args.in_len }; service = c.args.service.now; station = c.args.station; to = c.args.to }) (told g.P.Port.heard g.P.Port.sent g.P.Port.over g.P.Port.port_faults c.args.port.now) c.in-Ok.talk c.in-Ok.ensures.stands)) c.go_on.ensures.rests c.go_on.ensures.replies c.go_on.ensures.stops

pub returns-clause-ended : goal.returns-clause-ended
returns-clause-ended g c =
    let e : c.go_on.result ≡ Err PortErr.NoMemory = cc in
    asked_lost (record { areas = record { out = c.args.out_len; back = c.args.in_len }; service = c.args.service.now; station = c.args.station; to = c.args.to }) (told g.P.Port.heard g.P.Port.sent g.P.Port.over g.P.Port.port_faults c.args.port.now) (told g.P.Port.heard g.P.Port.sent g.P.Port.over g.P.Port.port_faults c.go_on.new.port) c.go_on.new.self c.args.value.now c.go_on.result e
    (c.go_on.ensures.goes (record { areas = record { out = c.args.out_len; back = c.args.in_len }; service = c.args.service.now; station = c.args.station; to = c.args.to }) (told g.P.Port.heard g.P.Port.sent g.P.Port.over g.P.Port.port_faults c.args.port.now) (goes_first (record { areas = record { out = c.args.out_len; back = c.args.in_len }; service = c.args.service.now; station = c.args.station; to = c.args.to }) (told g.P.Port.heard g.P.Port.sent g.P.Port.over g.P.Port.port_faults c.args.port.now) c.in-Ok.talk c.in-Ok.ensures.stands)) c.go_on.ensures.rests
