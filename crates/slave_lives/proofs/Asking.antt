-- A step acknowledges the repeat request that stands, in whatever state the slave is.
use Rattle.std.proofs.Common.{◌≡◌, ◌==◌, Bool, true, false, Option, Some, None, refl, ap, ◌∙◌, if◌then◌else◌}
use Rattle.frames_seen.specs.Slaves.{registers_seen}
use Rattle.frames_seen.specs.of_link_mails.Body.{Body}
use Rattle.frames_seen.specs.of_link_model.Mails.{LinkMail, differs, first_of}
use Rattle.frames_seen.specs.of_link_model.Slave as Model
use Rattle.frames_seen.specs.of_link_model.Slave.{InSide, Server, noticed, repeated, request_answered, looked, offers}
use Rattle.frames_seen.specs.of_mailbox_slave.Node.{node_of, server_of}
use Rattle.frames_seen.specs.of_mailbox_slave.Registers.{in_len, request_of, acknowledge_of}
use Rattle.slave_lives.specs.Nodes.{IsRunning, IsRoomy, stepped}
use Rattle.slave_lives.specs.Returning.{Clears}
use Rattle.slave_lives.specs.Steps.{Running, node_steps, word_carried}
use Rattle.slave_lives.proofs.NodeSteps as Stepped
use Rattle.frames_seen.specs.of_slave_node.Node.{Node}

-- a side of mailbox 1 behind another: the same request, which is acknowledged
record Answers (s t : InSide Body) : Type 0 where
  request : t.request ≡ s.request
  acknowledge : t.acknowledge ≡ s.request

same_bits : (a b : Bool) → differs a b ≡ false → b ≡ a
same_bits true true e = refl
same_bits true false e = absurd (cc)
same_bits false true e = absurd (cc)
same_bits false false e = refl

repeated_request : (s : InSide Body) (last : Option (LinkMail Body)) → (repeated s last).request ≡ s.request
repeated_request s None = refl
repeated_request s (Some m) = by s.again
  where
    by : (again : Bool) → (if again then s else record s { box = Some m; offered = Some m; again = true; withdrawn = first_of s.offered s.withdrawn }).request ≡ s.request
    by true = refl
    by false = refl

answered : (s : InSide Body) → Answers s (request_answered s)
answered s = by (differs s.request s.acknowledge) refl
  where
    by : (b : Bool) → differs s.request s.acknowledge ≡ b → Answers s (if b then (let t = repeated s s.last_read in record t { acknowledge = s.request }) else s)
    by true e = record { request = repeated_request s s.last_read; acknowledge = refl }
    by false e = record { request = refl; acknowledge = same_bits s.request s.acknowledge e }

noticed_request : (s : InSide Body) (box offered : Option (LinkMail Body)) → (noticed s box offered).request ≡ s.request
noticed_request s (Some m) offered = refl
noticed_request s None None = refl
noticed_request s None (Some m) = refl

looks : (s : InSide Body) → Answers s (looked s)
looks s =
    let a = answered (noticed s s.box s.offered) in
    let e = noticed_request s s.box s.offered in
    record { request = a.request ∙ e; acknowledge = a.acknowledge ∙ e }

offers_on : (s t : InSide Body) (box withdrawn : Option (LinkMail Body)) (next : Option Body) → Answers s t → Answers s (offers t box withdrawn next)
offers_on s t (Some m) withdrawn next a = a
offers_on s t None (Some m) next a = record { request = a.request; acknowledge = a.acknowledge }
offers_on s t None None None a = a
offers_on s t None None (Some body) a = record { request = a.request; acknowledge = a.acknowledge }

module _ {S : Type 0} (v : Server Body S) (clear : S → S) where
  step_answers : (from to : Bool) (n : Model.Node Body S) → Answers n.inn (node_steps from to v clear n).inn
  step_answers true true n = let a = answered n.inn in record { request = a.request; acknowledge = a.request }
  step_answers false true n = let a = looks n.inn in record { request = a.request; acknowledge = a.request }
  step_answers true false n =
      let k = Model.node_take v (record n { inn = request_answered n.inn }) in
      offers_on n.inn k.inn k.inn.box k.inn.withdrawn (v.next k.server) (answered n.inn)
  step_answers false false n =
      let k = Model.node_take v (Model.node_look n) in
      offers_on n.inn k.inn k.inn.box k.inn.withdrawn (v.next k.server) (looks n.inn)

pub acknowledges : {S : Type 0} (u : Running S) (n : Node S) → Clears u → IsRunning u n → IsRoomy u (in_len n.registers) n.server →
    (request_of (stepped u n).registers ≡ request_of n.registers) × (acknowledge_of (stepped u n).registers ≡ request_of n.registers)
acknowledges u n clears runs roomy =
    let on = Stepped.steps_on u clears n runs roomy in
    let al = (word_carried n.boot n.registers).state in
    let a = step_answers (server_of u.take u.next u.rest al) u.clear ((registers_seen n.registers).state == 1) (al == 1) (node_of n.kept n.registers n.server) in (
      ap (λ x. x.inn.request) on.steps.node ∙ a.request,
      ap (λ x. x.inn.acknowledge) on.steps.node ∙ a.acknowledge,
    )
