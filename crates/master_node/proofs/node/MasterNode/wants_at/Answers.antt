use Rattle.std.proofs.Common.{◌≡◌, ◌<◌, ◌∙◌, true, false, [], sym, ap, subst, length, rules, arith}
use Rattle.std.specs.Prelude.{slice_get}
use Rattle.std.proofs.lemmas.Bool.{OnTrue_from, OnFalse_from, OnFalse_at}
use Rattle.life_runs.specs.of_master_tour.Goes.{is_live}
use Rattle.life_runs.specs.of_master_tour.declared.stop.Stand.{Stand}
use Rattle.master_node.specs.Wants.{IsMaillessBy, IsQuietBy}
use Rattle.master_node.proofs.Mailless.{gone_mailless, open_mailless, within}
use Rattle.master_node.proofs.Places.{tested_here}
use Rattle.master_node.proofs.Quiets.{quiet_here}
use Rattle.master_node.proofs.Restings.{if_here, never}
use Rattle.master_node.specs.Passes.{waits_in}
use Rattle.master_node.specs.Resting.{StandRests, StopRests}
use Rattle.master_node.specs.Serving.{mails_in}
use Rattle.master_node.proofs.node.MasterNode.wants_at.Goals as goal

pub returns-in-Opening-clause-live : goal.returns-in-Opening-clause-live
returns-in-Opening-clause-live c =
    let m = c.args.self.now in
    let l : c.args.place < length m.tour.stops.items = omega (arith, c.requires, m.paired, m.tour.stops.ok.0) in
    sym (tested_here (λ s. is_live s.stand) m.tour.stops.items c.args.place c.index-stop.result.now true l c.index-stop.ensures (sym (ap is_live c.in-Opening.is)))

pub returns-then-is_wanting-clause-live : goal.returns-then-is_wanting-clause-live
returns-then-is_wanting-clause-live c =
    let m = c.args.self.now in
    let l : c.args.place < length m.tour.stops.items = omega (arith, c.requires, m.paired, m.tour.stops.ok.0) in
    sym (tested_here (λ s. is_live s.stand) m.tour.stops.items c.args.place c.index-stop.result.now true l c.index-stop.ensures (sym (ap is_live c.in-Open.is)))

pub returns-else-is_wanting-clause-live : goal.returns-else-is_wanting-clause-live
returns-else-is_wanting-clause-live c =
    let m = c.args.self.now in
    let l : c.args.place < length m.tour.stops.items = omega (arith, c.requires, m.paired, m.tour.stops.ok.0) in
    OnTrue_from c.has_waiting.result _ (λ e. sym (tested_here (λ s. is_live s.stand) m.tour.stops.items c.args.place c.index-stop.result.now true l c.index-stop.ensures (sym (ap is_live c.in-Open.is))))

pub returns-in-Gone-clause-quiet : goal.returns-in-Gone-clause-quiet
returns-in-Gone-clause-quiet c =
    quiet_here (λ s. IsQuietBy s.stand s.side) c.args.self.now.tour.stops.items c.args.place c.index-stop.result.now c.index-stop.ensures
    (subst (λ (k : Stand). IsQuietBy k c.index-stop.result.now.side) (sym c.in-Gone.is) tt)

pub returns-else-is_wanting-clause-quiet : goal.returns-else-is_wanting-clause-quiet
returns-else-is_wanting-clause-quiet c =
    let no : c.is_wanting.result ≡ false = search rules in
    OnFalse_from c.has_waiting.result _
    (λ e. quiet_here (λ s. IsQuietBy s.stand s.side) c.args.self.now.tour.stops.items c.args.place c.index-stop.result.now c.index-stop.ensures
    (subst (λ (k : Stand). IsQuietBy k c.index-stop.result.now.side) (sym c.in-Open.is) (OnFalse_at no c.is_wanting.ensures.quiet)))

pub returns-in-Gone-clause-mails : goal.returns-in-Gone-clause-mails
returns-in-Gone-clause-mails c =
    let m = c.args.self.now in
    let s = c.index-stop.result.now in
    let post = slice_get m.posts.items c.args.place in
    within (λ p z. IsMaillessBy z.stand z.side.passing p) post m.tour.stops.items c.args.place s c.index-stop.ensures (gone_mailless post s.stand s.side.passing c.in-Gone.is)

pub returns-else-is_wanting-clause-mails : goal.returns-else-is_wanting-clause-mails
returns-else-is_wanting-clause-mails c =
    let m = c.args.self.now in
    let s = c.index-stop.result.now in
    let post = slice_get m.posts.items c.args.place in
    let no : c.is_wanting.result ≡ false = search rules in
    OnFalse_from c.has_waiting.result _
    (λ e. within (λ p z. IsMaillessBy z.stand z.side.passing p) post m.tour.stops.items c.args.place s c.index-stop.ensures
    (open_mailless post s.stand s.side.passing c.in-Open.is (OnFalse_at no c.is_wanting.ensures.unpassed) (OnFalse_at e c.has_waiting.ensures.mails)))

pub returns-in-Opening-clause-rests : goal.returns-in-Opening-clause-rests
returns-in-Opening-clause-rests c = λ p.
    let m = c.args.self.now in
    let l : c.args.place < length m.tour.stops.items = omega (arith, c.requires, m.paired, m.tour.stops.ok.0) in
    let r = if_here (λ s. StopRests m.lan c.args.place s × (s.stand ≡ Stand.Open → waits_in (mails_in m) c.args.place ≡ [])) m.tour.stops.items c.args.place c.index-stop.result.now l c.index-stop.ensures p in
    absurd (subst (λ (k : Stand). StandRests m.lan c.args.place k c.index-stop.result.now.side) c.in-Opening.is r.0)

pub returns-then-is_wanting-clause-rests : goal.returns-then-is_wanting-clause-rests
returns-then-is_wanting-clause-rests c = λ p.
    let m = c.args.self.now in
    let l : c.args.place < length m.tour.stops.items = omega (arith, c.requires, m.paired, m.tour.stops.ok.0) in
    let r = if_here (λ s. StopRests m.lan c.args.place s × (s.stand ≡ Stand.Open → waits_in (mails_in m) c.args.place ≡ [])) m.tour.stops.items c.args.place c.index-stop.result.now l c.index-stop.ensures p in
    let yes : c.is_wanting.result ≡ true = search rules in
    absurd (never (sym (c.is_wanting.ensures.rests (subst (λ (k : Stand). StandRests m.lan c.args.place k c.index-stop.result.now.side) c.in-Open.is r.0).0) ∙ yes))

pub returns-else-is_wanting-clause-rests : goal.returns-else-is_wanting-clause-rests
returns-else-is_wanting-clause-rests c = λ p.
    let m = c.args.self.now in
    let l : c.args.place < length m.tour.stops.items = omega (arith, c.requires, m.paired, m.tour.stops.ok.0) in
    let r = if_here (λ s. StopRests m.lan c.args.place s × (s.stand ≡ Stand.Open → waits_in (mails_in m) c.args.place ≡ [])) m.tour.stops.items c.args.place c.index-stop.result.now l c.index-stop.ensures p in
    c.has_waiting.ensures.rests (r.1 c.in-Open.is) (subst (λ (k : Stand). StandRests m.lan c.args.place k c.index-stop.result.now.side) c.in-Open.is r.0).1

pub returns-in-Gone-clause-waits : goal.returns-in-Gone-clause-waits
returns-in-Gone-clause-waits c = λ live.
    let m = c.args.self.now in
    let l : c.args.place < length m.tour.stops.items = omega (arith, c.requires, m.paired, m.tour.stops.ok.0) in
    absurd (never (tested_here (λ s. is_live s.stand) m.tour.stops.items c.args.place c.index-stop.result.now false l c.index-stop.ensures (sym (ap is_live c.in-Gone.is)) ∙ live))

pub returns-else-is_wanting-clause-waits : goal.returns-else-is_wanting-clause-waits
returns-else-is_wanting-clause-waits c = OnFalse_from c.has_waiting.result _ (λ no live. OnFalse_at no c.has_waiting.ensures.none)
