-- The invariant at one more step, and at the end.
use Rattle.std.proofs.Common.{◌≡◌, ℕ, ◌+◌, ◌<◌, ◌≤◌, List, [], ◌∷◌, ◌++◌, length, take, ap, sym, ◌∙◌, subst, arith}
use Rattle.std.proofs.lemmas.List.{take_all}
use Rattle.std.proofs.lemmas.Grind.{take_at_read}
use Rattle.mailbox_master.specs.of_link_model.Link.{Link}
use Rattle.mailbox_master.specs.of_link_model.Agree.{Accords}
use Rattle.mailbox_master.proofs.of_link_model.Numbers.{numbered}
use Rattle.mailbox_master.specs.of_link_mails.Body.{Body}
use Rattle.mailbox_law.specs.Steps.{link_behind}
use Rattle.mailbox_law.specs.World.{Shows, Runs, link_of}
use Rattle.mailbox_law.specs.declared.steps.LinkStep.{LinkStep}
use Rattle.mailbox_law.specs.declared.world.World.{World}
use Rattle.mailbox_law.proofs.Running.{link_behind-push, behind_accords, shown_link}
use Rattle.mailbox_law.proofs.run.run_world.Goals as goal

pub make-requires-clause-shows : goal.make-requires-clause-shows
make-requires-clause-shows c =
    let behind = take c.loop-step.step-index c.args.steps.now in
    (link_behind behind, (behind_accords behind).agrees, c.loop-step.invariant.shows)

pub loop-step-preserved : goal.loop-step-preserved
loop-step-preserved c =
    let steps = c.args.steps.now in
    let i = c.loop-step.step-index in
    let behind = take i steps in
    let step = c.step-item.result in
    let within : i < length steps = omega arith in
    let more : take (i + 1) steps ≡ behind ++ step ∷ [] = (take_at_read steps i step within).1 ∙ ap (λ s. behind ++ s ∷ []) (sym c.step-item.is) in
    let link = ap link_behind more ∙ link_behind-push behind step in
    record {
      sound = c.in_ok-world-2.ensures.sound c.args.out_len c.args.in_len c.loop-step.invariant.sound;
      shows = subst (Shows c.in_ok-world-2.world) (sym link) (c.in_ok-world-2.ensures.shows (link_behind behind) (behind_accords behind).agrees c.loop-step.invariant.shows);
    }

-- behind the last step
shown : (outward inward : ℕ) (steps : List LinkStep) (i : ℕ) (x : World) → length steps ≤ i → Runs outward inward steps i x → Shows x (link_behind steps)
shown outward inward steps i x over r = let P : List LinkStep → Type 0 = λ xs. Shows x (link_behind xs) in subst P (take_all i steps over) r.shows

accords : (steps : List LinkStep) (x : World) → Shows x (link_behind steps) → Accords (link_of x)
accords steps x s = let P : Link Body (List Body) → Type 0 = λ w. Accords w in subst P (sym (shown_link x (link_behind steps) s)) (behind_accords steps)

pub returns-clause-shows : goal.returns-clause-shows
returns-clause-shows c =
    let over : length c.args.steps.now ≤ c.loop-step.step-index = omega arith in
    shown c.args.out_len c.args.in_len c.args.steps.now c.loop-step.step-index c.loop-step.world over c.loop-step.invariant

pub returns-clause-agrees : goal.returns-clause-agrees
returns-clause-agrees c =
    let over : length c.args.steps.now ≤ c.loop-step.step-index = omega arith in
    accords c.args.steps.now c.loop-step.world (shown c.args.out_len c.args.in_len c.args.steps.now c.loop-step.step-index c.loop-step.world over c.loop-step.invariant)

pub returns-clause-numbers : goal.returns-clause-numbers
returns-clause-numbers c =
    let over : length c.args.steps.now ≤ c.loop-step.step-index = omega arith in
    numbered (link_of c.loop-step.world) (accords c.args.steps.now c.loop-step.world (shown c.args.out_len c.args.in_len c.args.steps.now c.loop-step.step-index c.loop-step.world over c.loop-step.invariant))
