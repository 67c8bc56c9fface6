use Rattle.std.proofs.Common.{◌≡◌, [], sym, ap, ◌∙◌, subst, refl}
use Rattle.std.specs.Prelude.{is_some, false}
use Rattle.master_tour.specs.Walks.{EachPair}
use Rattle.master_side.specs.of_mailbox_master.Any.{in_area_len}
use Rattle.master_side.specs.Shown.{SideShows}
use Rattle.master_side.specs.of_frame_view.Shares.{AllFrom}
use Rattle.master_tour.specs.Made.{StopMade}
use Rattle.master_tour.proofs.Mades.{made_first, lives_on, all_first}
use Rattle.master_tour.proofs.tour.Tour.begin.Goals as goal

pub returns-clause-made : goal.returns-clause-made
returns-clause-made g c = λ x more passed made recover index lens left lives begun none h. record {
  datagrams = [];
  begun = c.begin.ensures.begun;
  long = refl;
  named = tt;
  each = subst (λ z. AllFrom (λ i a s. StopMade (x a.spot) g.H.Hand.acknowledged more passed made begun lens recover index (λ d b. SideShows (g.H.Hand.shows s.side.hand (x a.spot)) s.side.out s.side.inn s.side.fresh s.side.duty d b) s.side.station s.place s.start s.stand s.spare s.side.out s.side.inn s.side.duty s.side.carried s.side.passing s.under s.at left [] i a) 0 lives z.items) (sym c.forget.ensures.stops)
      (all_first _ _ _
      (λ i a s t p r. made_first (x a.spot) g.H.Hand.acknowledged more passed made lens recover index (λ d b. SideShows (g.H.Hand.shows t.side.hand (x a.spot)) t.side.out t.side.inn t.side.fresh t.side.duty d b) t.side.station t.place t.start t.stand t.spare t.side.out t.side.inn t.side.duty t.side.carried t.side.passing t.under t.at left begun i a none r.5
      (λ o. p.1 (sym r.1 ∙ o) ∙ ap (λ z. is_some z.passing) (sym r.0))
      (lives_on lens recover (λ d b. SideShows (g.H.Hand.shows s.side.hand (x a.spot)) s.side.out s.side.inn s.side.fresh s.side.duty d b) (λ d b. SideShows (g.H.Hand.shows t.side.hand (x a.spot)) t.side.out t.side.inn t.side.fresh t.side.duty d b) s.side.station t.side.station s.place t.place s.start t.start s.stand t.stand s.spare t.spare s.side.out.len t.side.out.len (in_area_len s.side.inn) (in_area_len t.side.inn) a
      (ap (λ z. λ d b. SideShows (g.H.Hand.shows z.hand (x a.spot)) z.out z.inn z.fresh z.duty d b) r.0) (ap (λ z. z.station) r.0) r.2 r.3 r.1 r.4 (ap (λ z. z.out.len) r.0) (ap (λ z. in_area_len z.inn) r.0) p.0))
      0 lives c.args.self.now.stops.items c.rewind.new.self.stops.items h c.rewind.ensures.each);
}

pub returns-clause-each : goal.returns-clause-each
returns-clause-each g c = subst (λ z. EachPair (λ s t. (t.side ≡ s.side) × (t.stand ≡ s.stand) × (t.place ≡ s.place) × (t.start ≡ s.start) × (t.spare ≡ s.spare) × (t.under ≡ false)) c.args.self.now.stops.items z.items) (sym c.forget.ensures.stops) c.rewind.ensures.each
