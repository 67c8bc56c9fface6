use Rattle.std.proofs.Common.{ap, ◌∙◌, length, arith}
use Rattle.std.proofs.lemmas.List.Elements.{All-same}
use Rattle.life_runs.specs.of_segment_plan.Sound.{IsService}
use Rattle.master_node.specs.Scripts.{script_for}
use Rattle.life_runs.specs.of_master_hand.Spoken.{hand_speech}
use Rattle.master_node.proofs.Script.{script_sound, script_few}
use Rattle.life_runs.specs.of_master_hand.Shown.{knows}
use Rattle.master_node.proofs.Firsts.{none_known}
use Rattle.master_node.proofs.starting.side_of.Goals as goal

pub new-requires-clause-sound : goal.new-requires-clause-sound
new-requires-clause-sound c =
    All-same IsService c.in_ok-script.script (script_for c.args.place c.args.plan.now.services)
    (c.in_ok-script.ensures ∙ ap (script_for c.args.place) c.as_slice.ensures)
    (script_sound (length c.args.plan.now.slaves) c.args.place c.args.plan.now.services c.requires.plan.laid.services)

pub new-requires-clause-few : goal.new-requires-clause-few
new-requires-clause-few c =
    let e = ap length (c.in_ok-script.ensures ∙ ap (script_for c.args.place) c.as_slice.ensures) in
    let l = script_few c.args.place c.args.plan.now.services in
    let f = c.requires.plan.laid.few_services in
    omega (arith, e, l, f)

pub returns-clause-is : goal.returns-clause-is
returns-clause-is c =
    let h = c.new-2.ensures.hand.0 in
    let script = c.in_ok-script.ensures ∙ ap (script_for c.args.place) c.as_slice.ensures in
    record {
      shown = c.new-2.ensures.shown (hand_speech (record { out = c.args.spec.now.out_len; back = c.args.spec.now.in_len })) c.in_ok-hand.ensures.shown;
      out = c.new-2.ensures.link.0;
      back = c.new-2.ensures.link.1;
      station = c.new-2.ensures.link.2;
      script = ap (λ z. z.laying.script) h ∙ c.in_ok-hand.ensures.script.0 ∙ script;
      number = ap (λ z. z.laying.number) h ∙ c.in_ok-hand.ensures.script.1;
      unpassed = c.new-2.ensures.hand.1;
      unfinished = ap (λ z. z.found.join) h ∙ c.in_ok-hand.ensures.join;
      known = ap (λ z. knows z.course) h ∙ none_known _ _ _ _ c.in_ok-hand.ensures.shown;
    }
