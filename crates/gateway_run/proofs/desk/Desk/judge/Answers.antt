use Rattle.std.proofs.Common.{◌∷◌, ◌++◌, [], refl, sym, ◌∙◌, subst, arith}
use Rattle.std.specs.Prelude.{All, false}
use Rattle.std.proofs.lemmas.List.Elements.{All-push}
use Rattle.gateway_core.specs.of_ec_outside.Port.{HeardGram}
use Rattle.gateway_run.specs.Heard.{IsOwed, IsJudged}
use Rattle.std.proofs.lemmas.Result.{on_ok_weaker, IfOk-weaker}
use Rattle.gateway_run.specs.Desk.{IsTakenSo}
use Rattle.gateway_core.specs.Framing.{request_in}
use Rattle.gateway_core.specs.Gateway.{Answers}
use Rattle.gateway_core.specs.declared.asker.Asked.TheVariants as asked
use Rattle.gateway_run.proofs.Desks.{sound_more, sound_same, queued}
use Rattle.gateway_run.proofs.Accounts.{free_of}
use Rattle.gateway_run.proofs.Judged.{ignored, faulty, refused, caused, put, error_owed, error_spelled, put_open, passed_on, judged_so, taken_ignored, taken_refused, taken_passed}
use Rattle.gateway_run.proofs.desk.Desk.judge.Goals as goal

pub returns-in-Ignored-clause-sound : goal.returns-in-Ignored-clause-sound
returns-in-Ignored-clause-sound c = λ heard many s.
    let d = c.args.self.now in
    let r = request_in c.args.bytes.now in
    let a : Answers d.gateway c.request.new.self c.args.peer c.stations.result.now r asked.Ignored = subst (Answers d.gateway c.request.new.self c.args.peer c.stations.result.now r) c.in-Ignored.is c.in_ok-request.ensures.ok in
    let same = ignored d.gateway c.request.new.self c.args.peer c.stations.result.now r a in
    let more = sound_more heard (record { from = c.args.peer; bytes = c.args.bytes.now } ∷ []) d s in
    sound_same (heard ++ record { from = c.args.peer; bytes = c.args.bytes.now } ∷ []) d _ same refl more.owed more

pub returns-in-Ignored-clause-taken : goal.returns-in-Ignored-clause-taken
returns-in-Ignored-clause-taken c = λ heard many s.
    let d = c.args.self.now in
    let r = request_in c.args.bytes.now in
    let a : Answers d.gateway c.request.new.self c.args.peer c.stations.result.now r asked.Ignored = subst (Answers d.gateway c.request.new.self c.args.peer c.stations.result.now r) c.in-Ignored.is c.in_ok-request.ensures.ok in
    let fault = faulty d.gateway c.request.new.self c.args.peer c.stations.result.now r a in
    taken_ignored c.args.session.now c.stations.result.now c.stations.ensures.value heard (record { from = c.args.peer; bytes = c.args.bytes.now }) c.args.bytes.now c.args.gram d _ fault.0 fault.1 refl refl

pub returns-in_ok-push_back-in-Error-clause-sound : goal.returns-in_ok-push_back-in-Error-clause-sound
returns-in_ok-push_back-in-Error-clause-sound c = λ heard many s.
    let d = c.args.self.now in
    let g : HeardGram = record { from = c.args.peer; bytes = c.args.bytes.now } in
    let r = request_in c.args.bytes.now in
    let a : Answers d.gateway c.request.new.self c.args.peer c.stations.result.now r (asked.Error c.in-Error.error) = subst (Answers d.gateway c.request.new.self c.args.peer c.stations.result.now r) c.in-Error.is c.in_ok-request.ensures.ok in
    let is = refused d.gateway c.request.new.self c.args.peer c.stations.result.now r c.in-Error.error.items a in
    let more = sound_more heard (g ∷ []) d s in
    sound_same (heard ++ g ∷ []) d _ is.0 refl
    (subst (All (IsOwed (heard ++ g ∷ []))) (sym c.in_ok-push_back-in-Error.ensures.items)
    (All-push (IsOwed (heard ++ g ∷ [])) d.outbox.items _ more.owed
    (error_owed heard g c.args.peer c.in-Error.error.items c.in_ok-bytes-in-Error.bytes c.args.gram is.2 is.1 many refl is.3 is.4 (c.in_ok-bytes-in-Error.ensures ∙ c.as_slice.ensures.value))))
    more

pub returns-in_ok-push_back-in-Error-clause-taken : goal.returns-in_ok-push_back-in-Error-clause-taken
returns-in_ok-push_back-in-Error-clause-taken c = λ heard many s.
    let d = c.args.self.now in
    let g : HeardGram = record { from = c.args.peer; bytes = c.args.bytes.now } in
    let r = request_in c.args.bytes.now in
    let a : Answers d.gateway c.request.new.self c.args.peer c.stations.result.now r (asked.Error c.in-Error.error) = subst (Answers d.gateway c.request.new.self c.args.peer c.stations.result.now r) c.in-Error.is c.in_ok-request.ensures.ok in
    let is = caused d.gateway c.request.new.self c.args.peer c.stations.result.now r c.in-Error.error.items a in
    taken_refused c.args.session.now c.stations.result.now c.stations.ensures.value heard g c.args.bytes.now c.args.gram d _ is.0 is.1 _ s is.2 is.3 refl c.in_ok-push_back-in-Error.ensures.items
    (error_spelled heard g c.args.peer c.in-Error.error.items c.in_ok-bytes-in-Error.bytes c.args.gram is.1 is.0 many refl is.2 is.4 (c.in_ok-bytes-in-Error.ensures ∙ c.as_slice.ensures.value))

pub returns-in-Queued-clause-taken : goal.returns-in-Queued-clause-taken
returns-in-Queued-clause-taken c =
    let d = c.args.self.now in
    let q = c.in-Queued in
    let a : Answers d.gateway c.request.new.self c.args.peer c.stations.result.now (request_in c.args.bytes.now) (asked.Queued q.key q.slave q.mail) = subst (Answers d.gateway c.request.new.self c.args.peer c.stations.result.now (request_in c.args.bytes.now)) q.is c.in_ok-request.ensures.ok in
    let is = put d.gateway c.request.new.self c.args.peer c.stations.result.now (request_in c.args.bytes.now) q.key q.slave q.mail a in
    IfOk-weaker c.pass_on.result _ (IsTakenSo c.args.session.now c.pass_on.new.session c.args.peer c.args.bytes.now c.args.gram d c.pass_on.new.self)
    (λ queued passes. λ heard many s.
    let g : HeardGram = record { from = c.args.peer; bytes = c.args.bytes.now } in
    let free = free_of d.gateway heard q.key d.requests.items is.vacant s.requests in
    taken_passed c.args.session.now c.stations.result.now c.stations.ensures.value heard g c.args.bytes.now c.args.gram d c.pass_on.new.session c.request.new.self c.pass_on.new.self q.mail q.key q.slave is.request is.place free queued
    (passes (heard ++ g ∷ []) (put_open d.gateway c.request.new.self c.args.peer c.stations.result.now heard g q.key q.slave c.args.gram q.mail false many refl is) free))
    c.pass_on.ensures.passes

pub returns-in-Queued-clause-sound : goal.returns-in-Queued-clause-sound
returns-in-Queued-clause-sound c =
    let d = c.args.self.now in
    let q = c.in-Queued in
    let a : Answers d.gateway c.request.new.self c.args.peer c.stations.result.now (request_in c.args.bytes.now) (asked.Queued q.key q.slave q.mail) = subst (Answers d.gateway c.request.new.self c.args.peer c.stations.result.now (request_in c.args.bytes.now)) q.is c.in_ok-request.ensures.ok in
    let is = put d.gateway c.request.new.self c.args.peer c.stations.result.now (request_in c.args.bytes.now) q.key q.slave q.mail a in
    on_ok_weaker c.pass_on.result
    (λ kept. λ heard many s.
    let g : HeardGram = record { from = c.args.peer; bytes = c.args.bytes.now } in
    let more = sound_more heard (g ∷ []) d s in
    kept (heard ++ g ∷ []) (put_open d.gateway c.request.new.self c.args.peer c.stations.result.now heard g q.key q.slave c.args.gram q.mail false many refl is)
    (free_of d.gateway heard q.key d.requests.items is.vacant s.requests)
    (record {
      apart = s.apart;
      requests = queued d.gateway c.request.new.self q.key is.asker (heard ++ g ∷ []) d.requests.items is.vacant is.updates more.requests;
      few = let one = is.one in let few = s.few in omega (arith, one, few);
      owed = more.owed;
    }))
    c.pass_on.ensures.sound

pub returns-in-Queued-clause-judged : goal.returns-in-Queued-clause-judged
returns-in-Queued-clause-judged c =
    let d = c.args.self.now in
    let q = c.in-Queued in
    let a : Answers d.gateway c.request.new.self c.args.peer c.stations.result.now (request_in c.args.bytes.now) (asked.Queued q.key q.slave q.mail) = subst (Answers d.gateway c.request.new.self c.args.peer c.stations.result.now (request_in c.args.bytes.now)) q.is c.in_ok-request.ensures.ok in
    let is = put d.gateway c.request.new.self c.args.peer c.stations.result.now (request_in c.args.bytes.now) q.key q.slave q.mail a in
    let on = passed_on d.gateway c.args.session.now c.stations.result.now c.args.bytes.now q.mail q.slave c.stations.ensures.value is.request is.place in
    IfOk-weaker c.pass_on.result _ (IsJudged c.args.session.now.homes c.args.bytes.now) (judged_so c.args.session.now.homes c.args.bytes.now q.slave on) c.pass_on.ensures.slave
