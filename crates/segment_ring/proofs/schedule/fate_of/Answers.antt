use Rattle.std.proofs.Common.{◌≡◌, ◌+◌, suc, sym, ap, ◌∙◌, subst, arith, rules}
use Rattle.std.specs.Option.{option_copied}
use Rattle.std.proofs.lemmas.Option.{slice_get_within}
use Rattle.segment_ring.specs.declared.wire.Fate.TheVariants.{Pass, Lost}
use Rattle.segment_ring.specs.Schedule.{StandsAt}
use Rattle.segment_ring.proofs.Schedules.{Goes, over, not_yet, now}
use Rattle.segment_ring.proofs.schedule.fate_of.Goals as goal

none : (c : goal.In_default) → Goes c.args.lose.now c.args.number c.args.next.now Pass
none c = over c.args.lose.now c.args.next.now c.args.number c.requires.rises c.requires.stands
    (sym c.get.ensures ∙ ap option_copied c.in_default.is)

pub returns-in_default-clause-fate : goal.returns-in_default-clause-fate
returns-in_default-clause-fate c = (none c).fate_is

pub returns-in_default-clause-stands : goal.returns-in_default-clause-stands
returns-in_default-clause-stands c = (none c).stands

later : (c : goal.Then-lost-number) → Goes c.args.lose.now c.args.number c.args.next.now Pass
later c = not_yet c.args.lose.now c.args.next.now c.args.number c.requires.rises c.requires.stands c.in-Some.field-0.now
    (sym c.get.ensures ∙ ap option_copied c.in-Some.is) c.if-lost-number.true

pub returns-then-lost-number-clause-fate : goal.returns-then-lost-number-clause-fate
returns-then-lost-number-clause-fate c = (later c).fate_is

pub returns-then-lost-number-clause-stands : goal.returns-then-lost-number-clause-stands
returns-then-lost-number-clause-stands c = (later c).stands

lost : (c : goal.Else-lost-number) → Goes c.args.lose.now c.args.number (suc c.args.next.now) (Lost c.in-Some.field-0.now.1)
lost c = now c.args.lose.now c.args.next.now c.args.number c.requires.rises c.requires.stands c.in-Some.field-0.now
    (sym c.get.ensures ∙ ap option_copied c.in-Some.is) c.if-lost-number.false

pub overflow_add-next : goal.overflow_add-next
overflow_add-next c = let inside = slice_get_within c.args.lose.now c.args.next.now c.in-Some.field-0.now (sym c.get.ensures ∙ ap option_copied c.in-Some.is) in search rules

pub returns-clause-fate : goal.returns-clause-fate
returns-clause-fate c = (lost c).fate_is

pub returns-clause-stands : goal.returns-clause-stands
returns-clause-stands c = let e : suc c.args.next.now ≡ c.args.next.now + 1 = omega arith in subst (λ n. StandsAt c.args.lose.now n (c.args.number + 1)) e (lost c).stands
