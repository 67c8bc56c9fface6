use Rattle.std.proofs.Common.{◌≡◌, [], Option, sym, subst, refl, ◌∙◌}
use Rattle.master_side.specs.of_frame_view.Seen.{seen}
use Rattle.master_side.specs.of_life_model.Lives as Lives
use Rattle.master_side.specs.Heard.{Brought}
use Rattle.master_side.specs.Shown.{SideShows}
use Rattle.master_side.specs.declared.hand.Heard.{Heard}
use Rattle.master_tour.specs.Brings.{accepted_at, accepted_in}
use Rattle.master_tour.specs.Stands.{StopShows, came_at}
use Rattle.master_tour.proofs.Backs.{gone_follows}
use Rattle.master_tour.proofs.Joins.{turned_joins}
use Rattle.master_tour.proofs.Passings.{gone_passing}
use Rattle.master_tour.proofs.Counting.{gone_counts}
use Rattle.master_tour.proofs.stop.Stop.back.Goals as goal

pub returns-in-Gone-clause-lives : goal.returns-in-Gone-clause-lives
returns-in-Gone-clause-lives g c = λ x more passed number recover spot lens ns sent l sp r u sh.
    let t = c.args.self.now in
    let w = c.args.self.now.side in
    let back = seen lens c.args.octets.now in
    let stood = (subst (λ z. StopShows (λ d a. SideShows (g.H.Hand.shows w.hand x) w.out w.inn w.fresh w.duty d a) recover spot z t.spare l) c.in-Gone.is sh).stood in
    gone_follows (λ d a. SideShows (g.H.Hand.shows w.hand x) w.out w.inn w.fresh w.duty d a) x g.H.Hand.acknowledged more passed number recover spot ns back l t.stand t.spare _ (came_at t.under t.at back) stood refl sh

pub returns-in-Opening-clause-lives : goal.returns-in-Opening-clause-lives
returns-in-Opening-clause-lives g c = λ x more passed number recover spot lens ns sent l sp r u sh. c.opening_back.ensures.lives c.in-Opening.is refl x more passed number recover spot lens ns sent l r u sh

pub returns-in-Open-clause-lives : goal.returns-in-Open-clause-lives
returns-in-Open-clause-lives g c = λ x more passed number recover spot lens ns sent l sp r u sh. c.open_met.ensures.lives c.in-Open.is refl x more passed number recover spot lens ns sent l sp r u sh

pub returns-in-Gone-clause-brought : goal.returns-in-Gone-clause-brought
returns-in-Gone-clause-brought g c = λ x recover spot lens sent l sp r u sh.
    let t = c.args.self.now in
    let w = c.args.self.now.side in
    let back = seen lens c.args.octets.now in
    let stood = (subst (λ z. StopShows (λ d a. SideShows (g.H.Hand.shows w.hand x) w.out w.inn w.fresh w.duty d a) recover spot z t.spare l) c.in-Gone.is sh).stood in
    subst (λ (z : Lives.Stand). accepted_at spot.station l.era.side.halves back z ≡ []) (sym stood) refl

pub returns-in-Opening-clause-brought : goal.returns-in-Opening-clause-brought
returns-in-Opening-clause-brought g c = λ x recover spot lens sent l sp r u sh.
    let t = c.args.self.now in
    let w = c.args.self.now.side in
    let back = seen lens c.args.octets.now in
    let stood = (subst (λ z. StopShows (λ d a. SideShows (g.H.Hand.shows w.hand x) w.out w.inn w.fresh w.duty d a) recover spot z t.spare l) c.in-Opening.is sh).stood in
    subst (λ (o : Option Heard). Brought (g.H.Hand.brings c.opening_back.new.self.side.hand) o (accepted_in spot l back)) (sym c.opening_back.ensures.heard)
    (subst (λ (z : Lives.Stand). accepted_at spot.station l.era.side.halves back z ≡ []) (sym stood.stand) refl)

pub returns-in-Open-clause-brought : goal.returns-in-Open-clause-brought
returns-in-Open-clause-brought g c = λ x recover spot lens sent l sp r u sh. c.open_met.ensures.brought c.in-Open.is refl x recover spot lens sent l sp r u sh

pub returns-in-Gone-clause-replied : goal.returns-in-Gone-clause-replied
returns-in-Gone-clause-replied g c = λ lens sent r k x recover spot l sp u sh.
    let t = c.args.self.now in
    let w = c.args.self.now.side in
    let back = seen lens c.args.octets.now in
    let stood = (subst (λ z. StopShows (λ d a. SideShows (g.H.Hand.shows w.hand x) w.out w.inn w.fresh w.duty d a) recover spot z t.spare l) c.in-Gone.is sh).stood in
    subst (λ (z : Lives.Stand). accepted_at spot.station l.era.side.halves back z ≡ []) (sym stood) refl

pub returns-in-Opening-clause-replied : goal.returns-in-Opening-clause-replied
returns-in-Opening-clause-replied g c = λ lens sent r k x recover spot l sp u sh.
    let t = c.args.self.now in
    let w = c.args.self.now.side in
    let back = seen lens c.args.octets.now in
    let stood = (subst (λ z. StopShows (λ d a. SideShows (g.H.Hand.shows w.hand x) w.out w.inn w.fresh w.duty d a) recover spot z t.spare l) c.in-Opening.is sh).stood in
    subst (λ (o : Option Heard). Brought (g.H.Hand.replied c.opening_back.new.self.side.hand (g.H.Hand.awaits w.hand)) o (accepted_in spot l back)) (sym c.opening_back.ensures.heard)
    (subst (λ (z : Lives.Stand). accepted_at spot.station l.era.side.halves back z ≡ []) (sym stood.stand) refl)

pub returns-in-Open-clause-replied : goal.returns-in-Open-clause-replied
returns-in-Open-clause-replied g c = λ lens sent r k x recover spot l sp u sh. c.open_met.ensures.replied c.in-Open.is refl lens sent r k x recover spot l sp u sh

pub returns-in-Gone-clause-joined : goal.returns-in-Gone-clause-joined
returns-in-Gone-clause-joined g c = λ x recover spot lens sent l sp r u sh.
    let t = c.args.self.now in
    let w = c.args.self.now.side in
    let back = seen lens c.args.octets.now in
    let stood = (subst (λ z. StopShows (λ d a. SideShows (g.H.Hand.shows w.hand x) w.out w.inn w.fresh w.duty d a) recover spot z t.spare l) c.in-Gone.is sh).stood in
    turned_joins g.H.Hand.unjoined g.H.Hand.joined _ _ _ _ _ (accepted_in spot l back) refl refl (subst (λ (z : Lives.Stand). accepted_at spot.station l.era.side.halves back z ≡ []) (sym stood) refl)

pub returns-in-Opening-clause-joined : goal.returns-in-Opening-clause-joined
returns-in-Opening-clause-joined g c = λ x recover spot lens sent l sp r u sh.
    let t = c.args.self.now in
    let w = c.args.self.now.side in
    let back = seen lens c.args.octets.now in
    let stood = (subst (λ z. StopShows (λ d a. SideShows (g.H.Hand.shows w.hand x) w.out w.inn w.fresh w.duty d a) recover spot z t.spare l) c.in-Opening.is sh).stood in
    turned_joins g.H.Hand.unjoined g.H.Hand.joined _ _ _ _ _ (accepted_in spot l back) (c.opening_back.ensures.join refl) c.opening_back.ensures.heard (subst (λ (z : Lives.Stand). accepted_at spot.station l.era.side.halves back z ≡ []) (sym stood.stand) refl)

pub returns-in-Open-clause-joined : goal.returns-in-Open-clause-joined
returns-in-Open-clause-joined g c = λ x recover spot lens sent l sp r u sh. c.open_met.ensures.joined c.in-Open.is refl refl x recover spot lens sent l sp r u sh

pub returns-in-Gone-clause-passing : goal.returns-in-Gone-clause-passing
returns-in-Gone-clause-passing g c = λ x number recover spot lens kept sent l sp r u sh k h. gone_passing x g.H.Hand.acknowledged g.H.Hand.more g.H.Hand.passed c.args.self.now.stand _ _ _ c.in-Gone.is

pub returns-in-Opening-clause-passing : goal.returns-in-Opening-clause-passing
returns-in-Opening-clause-passing g c = λ x number recover spot lens kept sent l sp r u sh k h. c.opening_back.ensures.passing c.in-Opening.is x number recover spot lens _ sent l r u sh h

pub returns-in-Open-clause-passing : goal.returns-in-Open-clause-passing
returns-in-Open-clause-passing g c = λ x number recover spot lens kept sent l sp r u sh k h. c.open_met.ensures.passing c.in-Open.is x number recover spot lens kept sent l sp r u sh k h

pub returns-in-Gone-clause-recalls : goal.returns-in-Gone-clause-recalls
returns-in-Gone-clause-recalls g c = λ x recover spot lens sent l sp r u sh. record {
  visited = λ o. absurd (let t = sym c.in-Gone.is ∙ o in cc);
  unvisited = λ o. absurd (let t = sym c.in-Gone.is ∙ o in cc);
  known = λ k due. k;
  sure = λ o k. k;
}

pub returns-in-Opening-clause-recalls : goal.returns-in-Opening-clause-recalls
returns-in-Opening-clause-recalls g c = λ x recover spot lens sent l sp r u sh. record {
  visited = λ o. absurd (let t = sym c.in-Opening.is ∙ o in cc);
  unvisited = λ o. absurd (let t = sym c.in-Opening.is ∙ o in cc);
  known = λ k due. c.opening_back.ensures.knows k;
  sure = λ o. absurd (let t = sym c.in-Opening.is ∙ o in cc);
}

pub returns-in-Open-clause-recalls : goal.returns-in-Open-clause-recalls
returns-in-Open-clause-recalls g c = λ x recover spot lens sent l sp r u sh.
    let q = c.open_met.ensures.recalls c.in-Open.is x recover spot lens sent l sp r u sh in
    record {
      visited = λ o v b n. let w = q.visited o v b n in record { counter = w.counter; octets = w.octets; back = w.back; paused = w.paused; turn = w.turn; duty = w.duty; unpassed = w.unpassed };
      unvisited = q.unvisited;
      known = q.known;
      sure = q.sure;
    }

pub returns-in-Gone-clause-counts : goal.returns-in-Gone-clause-counts
returns-in-Gone-clause-counts g c = λ lens sent r x recover spot l u sh counts h. gone_counts c.args.self.now.stand _ _ _ _ c.in-Gone.is

pub returns-in-Opening-clause-counts : goal.returns-in-Opening-clause-counts
returns-in-Opening-clause-counts g c = λ lens sent r x recover spot l u sh counts h. c.opening_back.ensures.counts c.in-Opening.is c.args.made lens sent r x recover spot l u sh counts h

pub returns-in-Open-clause-counts : goal.returns-in-Open-clause-counts
returns-in-Open-clause-counts g c = λ lens sent r x recover spot l u sh counts h. c.open_met.ensures.counts c.in-Open.is lens sent r x recover spot l u sh counts h
