use Rattle.std.proofs.Common.{◌<◌, ◌-◌, ℕ, List, length, drop, refl, sym, ap, subst, Some}
use Rattle.al_state.specs.of_datagrams.declared.frame.Part.{Part}
use Rattle.al_state.specs.of_datagrams.Datagram.{Datagram}
use Rattle.al_state.specs.of_datagrams.Frame.{IsFrame, IsPart, part_at}
use Rattle.al_state.proofs.of_datagrams.Changing.{IsPart-inside}
use Rattle.al_state.proofs.of_datagrams.Walking.{first_found, none_found}
use Rattle.slave_node.proofs.Passes.{NextIs, AllPassing, Ends, begins, part_is, goes_on, ends, whole, shrinks, kept_twice}
use Rattle.slave_node.proofs.Skipped.{next_behind, at_part}
use Rattle.slave_node.proofs.frame_pass.pass_parts.Goals as goal

pub datagrams-init : goal.datagrams-init
datagrams-init c =
    (begins c.args.esc.now c.args.frame.now.items (part_at 16 (drop 16 c.args.frame.now.items)) (λ ds f. (first_found c.args.frame.now.items ds f).1 _ refl), record { outward = refl; inward = refl })

pub part_at-part-requires : goal.part_at-part-requires
part_at-part-requires c = subst (λ (o : List ℕ). IsPart o (part_at c.datagrams.at (drop c.datagrams.at o))) (sym c.as_slice.ensures.value)
    (part_is c.args.esc.now c.datagrams.esc c.args.frame.now.items c.datagrams.frame.items (part_at c.datagrams.at (drop c.datagrams.at c.datagrams.frame.items)) c.datagrams.invariant.0 c.requires.0 c.requires.1)

pub place_behind-later-requires : goal.place_behind-later-requires
place_behind-later-requires c = IsPart-inside c.datagrams.frame.items c.part_at-part.result
    (part_is c.args.esc.now c.datagrams.esc c.args.frame.now.items c.datagrams.frame.items c.part_at-part.result
    (at_part c.args.esc.now c.datagrams.esc c.args.frame.now.items c.datagrams.frame.items c.as_slice.result.now c.datagrams.at c.part_at-part.result
    c.datagrams.invariant.0 c.part_at-part.ensures c.as_slice.ensures.value) c.requires.0 c.requires.1)

pub pass_part-requires : goal.pass_part-requires
pass_part-requires c = part_is c.args.esc.now c.datagrams.esc c.args.frame.now.items c.datagrams.frame.items c.part_at-part.result
    (at_part c.args.esc.now c.datagrams.esc c.args.frame.now.items c.datagrams.frame.items c.as_slice.result.now c.datagrams.at c.part_at-part.result
    c.datagrams.invariant.0 c.part_at-part.ensures c.as_slice.ensures.value) c.requires.0 c.requires.1

ended : (c : goal.Then-not-part) (ds : List Datagram) → IsFrame c.args.frame.now.items ds → Ends c.args.esc.now c.pass_part.new.esc c.args.frame.now.items c.pass_part.new.frame.items ds
ended c = ends c.args.esc.now c.datagrams.esc c.pass_part.new.esc c.args.frame.now.items c.datagrams.frame.items c.pass_part.new.frame.items c.part_at-part.result
    (at_part c.args.esc.now c.datagrams.esc c.args.frame.now.items c.datagrams.frame.items c.as_slice.result.now c.datagrams.at c.part_at-part.result
    c.datagrams.invariant.0 c.part_at-part.ensures c.as_slice.ensures.value) c.pass_part.ensures.passes c.pass_part.ensures.exact
    (λ front d behind f place head. none_found c.datagrams.frame.items c.part_at-part.result front behind d f head c.if-not-part.true)

pub returns-then-not-part-clause-passes : goal.returns-then-not-part-clause-passes
returns-then-not-part-clause-passes c = λ ds f. (ended c ds f).passed

pub returns-then-not-part-clause-exact : goal.returns-then-not-part-clause-exact
returns-then-not-part-clause-exact c = whole c.args.esc.now c.pass_part.new.esc c.args.frame.now.items c.pass_part.new.frame.items c.requires.0 c.requires.1 (ended c c.requires.0 c.requires.1)

-- the part behind, as it stands behind the pass
abbrev later : goal.Else-not-part → Part
later c = part_at c.place_behind-later.result (drop c.place_behind-later.result c.pass_part.new.frame.items)

more : (c : goal.Else-not-part) → NextIs c.datagrams.frame.items c.part_at-part.result (Some (later c))
more c = subst (λ (n : ℕ). NextIs c.datagrams.frame.items c.part_at-part.result (Some (part_at n (drop n c.pass_part.new.frame.items)))) (sym c.place_behind-later.ensures)
    (next_behind c.datagrams.esc c.pass_part.new.esc c.datagrams.frame.items c.pass_part.new.frame.items c.part_at-part.result c.pass_part.ensures.passes c.if-not-part.false)

gone_on : (c : goal.Else-not-part) → AllPassing c.args.esc.now c.pass_part.new.esc c.args.frame.now.items c.pass_part.new.frame.items (later c)
gone_on c = goes_on c.args.esc.now c.datagrams.esc c.pass_part.new.esc c.args.frame.now.items c.datagrams.frame.items c.pass_part.new.frame.items c.part_at-part.result (later c)
    (at_part c.args.esc.now c.datagrams.esc c.args.frame.now.items c.datagrams.frame.items c.as_slice.result.now c.datagrams.at c.part_at-part.result
    c.datagrams.invariant.0 c.part_at-part.ensures c.as_slice.ensures.value) c.pass_part.ensures.passes c.pass_part.ensures.exact (more c)

pub datagrams-smaller : goal.datagrams-smaller
datagrams-smaller c = subst (λ (n : ℕ). length c.args.frame.now.items - c.place_behind-later.result < length c.args.frame.now.items - n)
    (ap (λ (p : Part). p.at) c.part_at-part.ensures)
    (shrinks c.args.esc.now c.datagrams.esc c.pass_part.new.esc c.args.frame.now.items c.datagrams.frame.items c.pass_part.new.frame.items c.part_at-part.result (later c)
    (at_part c.args.esc.now c.datagrams.esc c.args.frame.now.items c.datagrams.frame.items c.as_slice.result.now c.datagrams.at c.part_at-part.result
    c.datagrams.invariant.0 c.part_at-part.ensures c.as_slice.ensures.value) (gone_on c) (more c) c.requires.0 c.requires.1)

pub datagrams-preserved : goal.datagrams-preserved
datagrams-preserved c = (gone_on c, kept_twice c.args.esc.now c.datagrams.esc c.pass_part.new.esc c.datagrams.invariant.1 c.pass_part.ensures.lengths)
