use Rattle.std.proofs.Common.{◌≡◌, ◌∙◌, sym, true, false, rules, arith}
use Rattle.std.specs.Prelude.{IfSome, slice_get}
use Rattle.master_node.proofs.Restings.{never}
use Rattle.std.proofs.lemmas.Bool.{OnTrue_at, OnFalse_at}
use Rattle.life_runs.specs.of_master_tour.Goes.{holds_at, is_live}
use Rattle.master_node.specs.Wants.{IsQuietBy, MaillessAt, NoneWaiting}
use Rattle.master_node.proofs.Quiets.{below_more, held_inside, live_some, none_or_all}
use Rattle.master_node.proofs.node.MasterNode.has_wanting.Goals as goal

pub returns-then-wants_at-clause-live : goal.returns-then-wants_at-clause-live
returns-then-wants_at-clause-live c =
    let yes : c.wants_at.result ≡ true = search rules in
    live_some (λ s. is_live s.stand) c.args.self.now.tour.stops.items c.loop-place.place (OnTrue_at yes c.wants_at.ensures.live)

pub loop-place-init : goal.loop-place-init
loop-place-init c = record { quiet = λ k l. absurd (omega (arith, l)); mails = λ k l. absurd (omega (arith, l)); waits = λ k l live. absurd (omega (arith, l)) }

pub loop-place-preserved : goal.loop-place-preserved
loop-place-preserved c =
    let no : c.wants_at.result ≡ false = search rules in
    let m = c.args.self.now in
    record {
      quiet = below_more (λ k. IfSome (slice_get m.tour.stops.items k) (λ s. IsQuietBy s.stand s.side)) c.loop-place.place c.loop-place.invariant.quiet (OnFalse_at no c.wants_at.ensures.quiet);
      mails = below_more (λ k. MaillessAt m k) c.loop-place.place c.loop-place.invariant.mails (OnFalse_at no c.wants_at.ensures.mails);
      waits = below_more (λ k. holds_at (λ s. is_live s.stand) m.tour.stops.items k ≡ true → NoneWaiting m k) c.loop-place.place c.loop-place.invariant.waits (OnFalse_at no c.wants_at.ensures.waits);
    }

pub returns-clause-quiet : goal.returns-clause-quiet
returns-clause-quiet c =
    let m = c.args.self.now in
    none_or_all (λ s. IsQuietBy s.stand s.side) m.tour.stops.items
    (λ k l. c.loop-place.invariant.quiet k (omega (arith, l, c.loop-place-test.false, c.len-place-end.ensures, m.paired, m.tour.stops.ok.0)))

pub returns-clause-mails : goal.returns-clause-mails
returns-clause-mails c = λ k l. c.loop-place.invariant.mails k (omega (arith, l, c.loop-place-test.false, c.len-place-end.ensures))

pub returns-then-wants_at-clause-rests : goal.returns-then-wants_at-clause-rests
returns-then-wants_at-clause-rests c = λ r.
    let yes : c.wants_at.result ≡ true = search rules in
    absurd (never (sym (c.wants_at.ensures.rests (r c.loop-place.place)) ∙ yes))

pub returns-clause-waits : goal.returns-clause-waits
returns-clause-waits c = λ k live.
    let m = c.args.self.now in
    let inside = held_inside (λ s. is_live s.stand) m.tour.stops.items k live in
    c.loop-place.invariant.waits k (omega (arith, inside, c.loop-place-test.false, c.len-place-end.ensures, m.paired, m.tour.stops.ok.0)) live
