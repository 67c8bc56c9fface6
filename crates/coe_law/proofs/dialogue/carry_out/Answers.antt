use Rattle.std.proofs.Common.{◌≡◌, Some, List, [], ◌∷◌, ◌++◌, ◌≤◌, length, sym, ap, subst, ◌∙◌, arith, length-append}
use Rattle.coe_client.specs.of_protocol_models.CoeMails.{CoeMail}
use Rattle.coe_client.specs.Talk.{service_view}
use Rattle.coe_law.specs.Talks.{emission_mails, areas_of, server_at, Hears, IsAwaited}
use Rattle.coe_law.proofs.Hearing.{is_complete}
use Rattle.coe_law.proofs.Steps.{P, E, sent_left, served_by, awaits, packet_few, emission_few, stepped, all_sent, replied, objects_are, emission_is, few_mails}
use Rattle.coe_law.proofs.dialogue.carry_out.Goals as goal

same_some : {X : Type 0} {x y : X} → Some x ≡ Some y → x ≡ y
same_some e = cc

pub overflow_add-mails : goal.overflow_add-mails
overflow_add-mails c =
    let i = c.loop-body.invariant.0 in
    let left = sent_left c.args.al c.args.server.now.eoe (areas_of c.args.client.now c.args.server.now) c.requires.areas (server_at c.args.objects.now c.args.server.now) c.len-objects.ensures.sound (service_view c.args.service.now) i.0 c.loop-body.client c.next_mail.new.self c.loop-body.server c.loop-body.objects c.loop-body.emission c.next_mail.new.body.items i.2 c.loop-body-test.ensures.sends in
    let few = few_mails c.args.al c.args.server.now.eoe (areas_of c.args.client.now c.args.server.now) c.requires.areas (server_at c.args.objects.now c.args.server.now) c.len-objects.ensures.sound c.args.service.now c.requires.size in
    omega (arith, left, few, i.1)

pub take_packet-requires : goal.take_packet-requires
take_packet-requires c =
    let i = c.loop-body.invariant.0 in
    let d = served_by c.args.al c.args.server.now.eoe (areas_of c.args.client.now c.args.server.now) c.requires.areas (server_at c.args.objects.now c.args.server.now) c.len-objects.ensures.sound (service_view c.args.service.now) i.0 c.loop-body.client c.next_mail.new.self c.loop-body.server c.take-counts.new.self c.loop-body.objects c.take-counts.new.objects c.loop-body.emission
    c.next_mail.new.body.items c.as_slice-in-loop-body.result.now c.take-counts.result i.2 c.loop-body-test.ensures.sends (c.as_slice-in-loop-body.ensures.value ∙ c.request-request.ensures.body ∙ c.as_slice.ensures.value) c.take-counts.ensures.does in
    packet_few c.args.al c.args.server.now.eoe (areas_of c.args.client.now c.args.server.now) c.requires.areas (server_at c.args.objects.now c.args.server.now) c.len-objects.ensures.sound (service_view c.args.service.now) i.0 c.loop-body.client c.next_mail.new.self c.loop-body.server c.loop-body.objects c.loop-body.emission c.next_mail.new.body.items i.2 c.loop-body-test.ensures.sends c.next_mail.ensures.replies c.take-counts.new.objects c.take-counts.new.self d

pub hear_all-requires-clause-awaited : goal.hear_all-requires-clause-awaited
hear_all-requires-clause-awaited c =
    let i = c.loop-body.invariant.0 in
    let d = served_by c.args.al c.args.server.now.eoe (areas_of c.args.client.now c.args.server.now) c.requires.areas (server_at c.args.objects.now c.args.server.now) c.len-objects.ensures.sound (service_view c.args.service.now) i.0 c.loop-body.client c.next_mail.new.self c.loop-body.server c.take-counts.new.self c.loop-body.objects c.take-counts.new.objects c.loop-body.emission
    c.next_mail.new.body.items c.as_slice-in-loop-body.result.now c.take-counts.result i.2 c.loop-body-test.ensures.sends (c.as_slice-in-loop-body.ensures.value ∙ c.request-request.ensures.body ∙ c.as_slice.ensures.value) c.take-counts.ensures.does in
    subst (λ (ms : List CoeMail). IsAwaited c.next_mail.new.self (P ms)) (sym c.take_packet.ensures.waits) (awaits c.args.al c.args.server.now.eoe (areas_of c.args.client.now c.args.server.now) c.requires.areas (server_at c.args.objects.now c.args.server.now) c.len-objects.ensures.sound (service_view c.args.service.now) i.0 c.loop-body.client c.next_mail.new.self c.loop-body.server c.loop-body.objects c.loop-body.emission c.next_mail.new.body.items i.2 c.loop-body-test.ensures.sends c.next_mail.ensures.replies c.take-counts.new.objects c.take-counts.new.self d)

pub hear_all-requires-clause-one : goal.hear_all-requires-clause-one
hear_all-requires-clause-one c =
    let i = c.loop-body.invariant.0 in
    let d = served_by c.args.al c.args.server.now.eoe (areas_of c.args.client.now c.args.server.now) c.requires.areas (server_at c.args.objects.now c.args.server.now) c.len-objects.ensures.sound (service_view c.args.service.now) i.0 c.loop-body.client c.next_mail.new.self c.loop-body.server c.take-counts.new.self c.loop-body.objects c.take-counts.new.objects c.loop-body.emission
    c.next_mail.new.body.items c.as_slice-in-loop-body.result.now c.take-counts.result i.2 c.loop-body-test.ensures.sends (c.as_slice-in-loop-body.ensures.value ∙ c.request-request.ensures.body ∙ c.as_slice.ensures.value) c.take-counts.ensures.does in
    subst (λ (ms : List CoeMail). length (emission_mails c.take_packet.new.emission ++ E ms) ≤ 1) (sym c.take_packet.ensures.waits)
    (emission_few c.args.al c.args.server.now.eoe (areas_of c.args.client.now c.args.server.now) c.requires.areas (server_at c.args.objects.now c.args.server.now) c.len-objects.ensures.sound (service_view c.args.service.now) i.0 c.loop-body.client c.next_mail.new.self c.loop-body.server c.loop-body.objects c.loop-body.emission c.next_mail.new.body.items i.2 c.loop-body-test.ensures.sends c.next_mail.ensures.replies c.take-counts.new.objects c.take-counts.new.self d c.take_packet.new.emission c.take_packet.ensures.emission)

pub loop-body-smaller : goal.loop-body-smaller
loop-body-smaller c =
    let i = c.loop-body.invariant.0 in
    let left = sent_left c.args.al c.args.server.now.eoe (areas_of c.args.client.now c.args.server.now) c.requires.areas (server_at c.args.objects.now c.args.server.now) c.len-objects.ensures.sound (service_view c.args.service.now) i.0 c.loop-body.client c.next_mail.new.self c.loop-body.server c.loop-body.objects c.loop-body.emission c.next_mail.new.body.items i.2 c.loop-body-test.ensures.sends in
    omega (arith, left, i.1)

pub loop-body-preserved : goal.loop-body-preserved
loop-body-preserved c =
    let i = c.loop-body.invariant.0 in
    let d = served_by c.args.al c.args.server.now.eoe (areas_of c.args.client.now c.args.server.now) c.requires.areas (server_at c.args.objects.now c.args.server.now) c.len-objects.ensures.sound (service_view c.args.service.now) i.0 c.loop-body.client c.next_mail.new.self c.loop-body.server c.take-counts.new.self c.loop-body.objects c.take-counts.new.objects c.loop-body.emission
    c.next_mail.new.body.items c.as_slice-in-loop-body.result.now c.take-counts.result i.2 c.loop-body-test.ensures.sends (c.as_slice-in-loop-body.ensures.value ∙ c.request-request.ensures.body ∙ c.as_slice.ensures.value) c.take-counts.ensures.does in (
      (
        i.0 ++ c.loop-body-test.ensures.sends.next ∷ [],
        length-append i.0 (c.loop-body-test.ensures.sends.next ∷ []) ∙ (omega (arith, i.1)),
        stepped c.args.al c.args.server.now.eoe (areas_of c.args.client.now c.args.server.now) c.requires.areas (server_at c.args.objects.now c.args.server.now) c.len-objects.ensures.sound (service_view c.args.service.now) i.0 c.loop-body.client c.next_mail.new.self c.loop-body.server c.loop-body.objects c.loop-body.emission c.next_mail.new.body.items i.2 c.loop-body-test.ensures.sends c.next_mail.ensures.replies c.take-counts.new.objects c.take-counts.new.self d c.hear_all.new.server c.take_packet.new.emission c.hear_all.new.emission c.hear_all.new.client c.take_packet.ensures.emission
            (c.hear_all.ensures.emission ∙ ap (λ (ms : List CoeMail). emission_mails c.take_packet.new.emission ++ E ms) c.take_packet.ensures.waits)
            (subst (λ (ms : List CoeMail). Hears c.next_mail.new.self (P ms) c.hear_all.new.client) c.take_packet.ensures.waits c.hear_all.ensures.hears)
            c.hear_all.ensures.silent (c.hear_all.ensures.transfer ∙ c.take_packet.ensures.transfer)
            (c.hear_all.ensures.room ∙ c.take_packet.ensures.room ∙ c.take-counts.ensures.room ∙ i.2.back_room)
            (c.hear_all.ensures.eoe ∙ c.take_packet.ensures.eoe ∙ c.take-counts.ensures.eoe ∙ i.2.serves),
      ),
      c.hear_all.ensures.lengths ∙ c.request-request.ensures.lengths ∙ c.loop-body.invariant.1,
    )

pub reply-requires : goal.reply-requires
reply-requires c =
    let i = c.loop-body.invariant.0 in
    let all = all_sent c.args.al c.args.server.now.eoe (areas_of c.args.client.now c.args.server.now) c.requires.areas (server_at c.args.objects.now c.args.server.now) c.len-objects.ensures.sound (service_view c.args.service.now) i.0 c.loop-body.client c.loop-body.server c.loop-body.objects c.loop-body.emission i.2 c.loop-body-test.ensures.waits in
    let complete = c.next_mail.ensures.replies [] ∙ replied c.args.al c.args.server.now.eoe (areas_of c.args.client.now c.args.server.now) c.requires.areas (server_at c.args.objects.now c.args.server.now) c.len-objects.ensures.sound (service_view c.args.service.now) i.0 c.loop-body.client c.loop-body.server c.loop-body.objects c.loop-body.emission i.2 all in
    is_complete c.is_done-done.result c.next_mail.new.self _ c.is_done-done.ensures.over c.is_done-done.ensures.yet complete

pub returns-clause-objects : goal.returns-clause-objects
returns-clause-objects c =
    let i = c.loop-body.invariant.0 in
    let all = all_sent c.args.al c.args.server.now.eoe (areas_of c.args.client.now c.args.server.now) c.requires.areas (server_at c.args.objects.now c.args.server.now) c.len-objects.ensures.sound (service_view c.args.service.now) i.0 c.loop-body.client c.loop-body.server c.loop-body.objects c.loop-body.emission i.2 c.loop-body-test.ensures.waits in
    objects_are c.args.al c.args.server.now.eoe (areas_of c.args.client.now c.args.server.now) c.requires.areas (server_at c.args.objects.now c.args.server.now) c.len-objects.ensures.sound (service_view c.args.service.now) i.0 c.loop-body.client c.loop-body.server c.loop-body.objects c.loop-body.emission i.2 all

pub returns-clause-reply : goal.returns-clause-reply
returns-clause-reply c =
    let i = c.loop-body.invariant.0 in
    let all = all_sent c.args.al c.args.server.now.eoe (areas_of c.args.client.now c.args.server.now) c.requires.areas (server_at c.args.objects.now c.args.server.now) c.len-objects.ensures.sound (service_view c.args.service.now) i.0 c.loop-body.client c.loop-body.server c.loop-body.objects c.loop-body.emission i.2 c.loop-body-test.ensures.waits in
    let complete = c.next_mail.ensures.replies [] ∙ replied c.args.al c.args.server.now.eoe (areas_of c.args.client.now c.args.server.now) c.requires.areas (server_at c.args.objects.now c.args.server.now) c.len-objects.ensures.sound (service_view c.args.service.now) i.0 c.loop-body.client c.loop-body.server c.loop-body.objects c.loop-body.emission i.2 all in
    same_some (sym c.reply.ensures ∙ complete)

pub returns-clause-emission : goal.returns-clause-emission
returns-clause-emission c =
    let i = c.loop-body.invariant.0 in
    let all = all_sent c.args.al c.args.server.now.eoe (areas_of c.args.client.now c.args.server.now) c.requires.areas (server_at c.args.objects.now c.args.server.now) c.len-objects.ensures.sound (service_view c.args.service.now) i.0 c.loop-body.client c.loop-body.server c.loop-body.objects c.loop-body.emission i.2 c.loop-body-test.ensures.waits in
    emission_is c.args.al c.args.server.now.eoe (areas_of c.args.client.now c.args.server.now) c.requires.areas (server_at c.args.objects.now c.args.server.now) c.len-objects.ensures.sound (service_view c.args.service.now) i.0 c.loop-body.client c.loop-body.server c.loop-body.objects c.loop-body.emission i.2 all

pub returns-clause-mails : goal.returns-clause-mails
returns-clause-mails c =
    let i = c.loop-body.invariant.0 in
    let all = all_sent c.args.al c.args.server.now.eoe (areas_of c.args.client.now c.args.server.now) c.requires.areas (server_at c.args.objects.now c.args.server.now) c.len-objects.ensures.sound (service_view c.args.service.now) i.0 c.loop-body.client c.loop-body.server c.loop-body.objects c.loop-body.emission i.2 c.loop-body-test.ensures.waits in
    sym i.1 ∙ ap (λ (ms : List CoeMail). length ms) all
