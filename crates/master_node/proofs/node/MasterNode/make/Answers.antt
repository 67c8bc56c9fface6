use Rattle.std.proofs.Common.{◌≡◌, ◌∙◌, ◌%◌, ℕ, Option, None, true, false, refl, sym, ap, subst, length, []}
use Rattle.std.specs.Prelude.{map, is_some}
use Rattle.life_runs.specs.of_frame_view.Seen.{seen}
use Rattle.life_runs.specs.Led.{speech_at}
use Rattle.life_runs.specs.of_master_hand.Spoken.{Asked, is_followed, is_passed}
use Rattle.life_runs.specs.of_master_tour.Goes.{is_live, holds_at}
use Rattle.life_runs.specs.of_master_tour.Made.{FrameMade, is_in}
use Rattle.life_runs.specs.of_state_model.Stated.{Service}
use Rattle.master_node.specs.Filling.{IsAmong, StopFills}
use Rattle.master_node.specs.Shows.{IsLead, GoesOn, lived_of, is_live_lead, IsLived, IsUnder}
use Rattle.master_node.proofs.Begins.{begun_nothing, nothing_for, packets_begin}
use Rattle.master_node.proofs.Fills.{from_map}
use Rattle.master_node.specs.Listing.{run_tells}
use Rattle.master_node.proofs.Listing.{listed_nothing, services_begin}
use Rattle.master_node.proofs.Lists.{both_map, both_holds, both_length, each_trans}
use Rattle.master_node.proofs.Sents.{stand_lives, each_holds, each_any, begins_live, both_from, lead_among, turns, turns_all, begun_turns, under_all, same_all, distinct_same, goes_under, sent_is, sent_some, sent_many, goes_begun, some_not}
use Rattle.life_runs.proofs.of_master_tour.Steps as Steps
use Rattle.life_runs.proofs.of_master_tour.Walks.{each_map}
use Rattle.life_runs.specs.of_master_tour.Sizes.{frame_size}
use Rattle.master_node.specs.Rooms.{FitAgain, area_at}
use Rattle.master_node.proofs.Fits.{again_on, side_sends}
use Rattle.master_node.proofs.Leaves.{areas_from, area_planned, fit_under, visits_are}
use Rattle.life_runs.specs.of_master_hand.Shown.{knows, awaits_reply}
use Rattle.life_runs.specs.of_master_side.Recall.{recall_by}
use Rattle.master_node.specs.Eager.{StopTakesUp, recall_of}
use Rattle.master_node.proofs.Eagers.{each_comp}
use Rattle.master_node.proofs.Lefts.{true_false}
use Rattle.master_node.proofs.Toureds.{each_none, tour_same, of_tour}
use Rattle.master_node.specs.Begins.{begun_for}
use Rattle.master_node.specs.Starts.{HasStarted}
use Rattle.master_node.proofs.Starts.{all_start, from_both, serves_start}
use Rattle.life_runs.specs.of_frame_view.Shares.{AreDistinct, AllFrom, AllThree}
use Rattle.master_node.specs.Serving.{IsServed, IsServedUnder, run_lead, run_turn}
use Rattle.life_runs.specs.of_master_hand.Laying.{scripted}
use Rattle.master_node.proofs.Serveds.{long_served, three_both}
use Rattle.master_node.proofs.ServedSents as Served
use Rattle.master_node.proofs.Threes.{three_from}
use Rattle.master_node.specs.Events.{served_tells}
use Rattle.master_node.proofs.ServedTells.{served_begin}
use Rattle.master_node.proofs.Alikes.{Alike}
use Rattle.master_node.proofs.node.MasterNode.make.Goals as goal

pub returns-clause-led : goal.returns-clause-led
returns-clause-led c = λ lens recover retry missed number from as' room taken unlisted some x.
    let m = c.args.self.now in
    let e = c.begin.ensures in
    let t1 = c.begin.new.self in
    let ss = m.tour.stops.items in
    let ts = t1.stops.items in
    let index = m.made % 256 in
    let lives = map lived_of as' in
    let nothing : ℕ → Option (Service Asked) = λ k. None in
    let before = both_map lived_of (λ a s. IsLead lens recover a s) _ (λ a s l. (l.lives, λ o. ap is_some l.own ∙ sym (ap is_some l.unpassed))) as' ss x.each in
    let many : length ts ≡ length as' = e.long ∙ sym (both_length (λ a s. IsLead lens recover a s) as' ss x.each) in
    let alive : (k : ℕ) → holds_at (λ s. is_live s.stand) ts k ≡ holds_at is_live_lead as' k =
    λ k. each_holds _ (λ s. is_live s.stand) (λ s t p. ap is_live p.1) ss ts e.each k ∙ both_holds (λ a s. IsLead lens recover a s) is_live_lead (λ s. is_live s.stand) (λ a s l. stand_lives lens recover a.lived s l.lives) as' ss x.each k in
    let goes = goes_begun m.tour.again t1.again m.tour.visit.items t1.visit.items m.tour.opened t1.opened as' e.tour.0 e.tour.1 (λ a. ap (λ z. z.items) (e.again a)) x.goes in
    let f = c.fill.ensures.filled lens recover number from as' x.distinct (record {
      filling = λ left. record {
        begun = nothing;
        frame = subst (λ n. FrameMade (λ ds i a s. StopFills lens recover number nothing index left ds i a s) c.begin.new.frame.items n lives ts) (sym e.count) (e.made (speech_at lens) is_followed is_passed number recover index lens left lives nothing (λ k. refl) before);
        among = both_from (λ a s. IsLead lens recover a s) _ (λ i a s. IsAmong lens nothing left i a s) (λ i a s t l p. lead_among lens recover left i a s t l p.0 p.2) 0 as' ss ts x.each e.each;
        packets = begun_nothing from.switch left as' m.lan taken;
        listing = listed_nothing (run_tells as') from.forwards left as' _ (record { few = unlisted.few; none = unlisted.none; counts = unlisted.counts });
        starts = record {
          visited = [];
          each = both_from (λ a s. IsLead lens recover a s) _ (λ i a s. HasStarted lens m.lan [] i (begun_for nothing as' i) a [] s)
              (λ i a s t l p. record { under = λ u. absurd (true_false t.under u p.5); ends = λ w. absurd (let z : false ≡ true = w in cc); unvisited = λ w. nothing_for as' i }) 0 as' ss ts x.each e.each;
        };
      };
      quiet = x.quiet;
      count = e.count;
      passed = e.tour.5;
      short = e.empty;
      begins = begins_live (λ s. is_live s.stand) t1.again t1.visit.items t1.opened ts as' many alive goes;
      some = each_any _ (λ s. is_live s.stand) (λ s t p. ap is_live p.1) ss ts e.each ∙ some;
      lives = alive;
      again = goes.comes;
      anew = λ a. e.anew (sym e.tour.0 ∙ a);
      many = many;
      room = room;
      list = unlisted.few;
    }) in
    let on = c.fill.ensures.on in
    let into = c.fill.new.into.items in
    let visits = λ (a : m.tour.again ≡ true). ap (λ z. z.items) (e.again a) in
    let v = c.fill.ensures.visited (record {
      count = e.count;
      passed = e.tour.5;
      under = each_none _ (λ s. s.under) (λ s t p. p.5) ss ts e.each;
      again = λ a. (goes.comes a).once;
      anew = λ a. e.anew (sym e.tour.0 ∙ a);
      fits = λ a.
          let was = sym e.tour.0 ∙ a in
          subst (λ z. FitAgain z ts) (sym (visits was)) (again_on _ (λ s t p. side_sends s t p.0 p.1) ss ts m.tour.visit.items e.each (x.again was));
    }) e.empty in
    let t2 = c.fill.new.self.tour in
    let yes = c.finish-some.ensures.some ∙ some_not t2.count f.some in
    let z = c.finish-some.ensures.made yes (speech_at lens) is_followed is_passed number recover (c.fill.new.self.made % 256) lens f.left lives f.filling.begun f.filling.frame in
    let octets = c.finish-some.new.frame.items in
    let is = sent_is lens octets z.datagrams z.frame in
    let begun = f.filling.begun in
    let areas = areas_from lens (λ i a s. StopFills lens recover number begun (c.fill.new.self.made % 256) f.left f.filling.frame.datagrams i a s) (λ i a s w. area_planned lens a.spot s w.lives.planned) 0 as' t2.stops.items f.filling.frame.each in
    let bare = Steps.from_map _ (λ n a s. is_in n f.left ≡ true → s.under ≡ false) (λ i a s w. w.bare) 0 as' t2.stops.items (from_map lived_of (λ i a s. StopFills lens recover number begun (c.fill.new.self.made % 256) f.left f.filling.frame.datagrams i a s) 0 as' t2.stops.items f.filling.frame.each) in
    let starts = all_start lens c.fill.new.self.lan f.filling.starts.visited (λ k. begun_for begun as' k) (λ u s. IsUnder lens recover octets u s) (λ u s x. x.under) (λ j a s. HasStarted lens c.fill.new.self.lan f.filling.starts.visited j (begun_for begun as' j) a [] s × IsAmong lens begun f.left j a s) (λ j a s x. (x.0, x.1.own)) as'
    (turns lens recover number begun octets z.datagrams is as' z.lives t2.stops.items) t2.stops.items
    (from_both (λ j a s. HasStarted lens c.fill.new.self.lan f.filling.starts.visited j (begun_for begun as' j) a [] s) (λ j a s. IsAmong lens begun f.left j a s) 0 as' t2.stops.items f.filling.starts.each f.filling.among)
    (under_all lens recover number begun octets z.datagrams is f.left 0 as' z.lives t2.stops.items f.filling.among z.each) (λ k. begun_turns lens recover number begun octets z.datagrams is as' z.lives t2.stops.items z.each k) in (
      turns lens recover number begun octets z.datagrams is as' z.lives t2.stops.items,
      record { datagrams = z.datagrams; frame = z.frame; each = turns_all lens recover number begun octets z.datagrams is f.left 0 as' z.lives t2.stops.items f.filling.among z.each },
      record {
        each = under_all lens recover number begun octets z.datagrams is f.left 0 as' z.lives t2.stops.items f.filling.among z.each;
        distinct = distinct_same as' (turns lens recover number begun octets z.datagrams is as' z.lives t2.stops.items) (same_all lens recover number begun octets z.datagrams is as' z.lives t2.stops.items z.each) x.distinct;
        quiet = f.quiet;
        goes = goes_under lens recover number begun octets z.datagrams is t1.again t2.visit.items t1.visit.items t2.opened f.left as' z.lives t2.stops.items z.each bare f.apart f.comes
            (subst (λ w. GoesOn t1.again t1.visit.items w as') (sym on.opened) goes);
        missed_is = on.missed ∙ e.tour.3 ∙ x.missed_is;
        retry_is = on.retry ∙ e.tour.4 ∙ x.retry_is;
        sent = sent_some lens octets z.datagrams z.frame;
        fits = fit_under into _ c.fill.new.self c.fill.ensures.begun.1.fits v;
      },
      packets_begin from.switch f.left begun as' (turns lens recover number begun octets z.datagrams is as' z.lives t2.stops.items) c.fill.new.self.lan (λ k. begun_turns lens recover number begun octets z.datagrams is as' z.lives t2.stops.items z.each k) f.filling.packets,
      tour_same into m _ c.fill.new.self v e.tour.0 visits e.tour.1 e.tour.2 e.tour.3 on,
      of_tour into m _ c.fill.new.self v e.tour.0 visits e.tour.1 e.tour.2 e.tour.3 on (λ k. holds_at is_live_lead as' k) alive (λ k. v.alive k ∙ alive k) (frame_size octets) (λ k. area_at lens as' k) (c.finish-some.ensures.size yes) areas (length (seen lens octets)) (sent_many lens octets f.filling.frame.datagrams (c.finish-some.ensures.reads yes f.filling.frame.datagrams f.filling.frame.begun f.filling.frame.long f.filling.frame.named) ∙ f.filling.frame.long) f.some,
      services_begin from.forwards f.left begun as' (turns lens recover number begun octets z.datagrams is as' z.lives t2.stops.items) c.fill.new.self _ (λ k. begun_turns lens recover number begun octets z.datagrams is as' z.lives t2.stops.items z.each k) refl refl f.filling.listing,
      starts.0,
      starts.1,
    )

pub returns-clause-joins : goal.returns-clause-joins
returns-clause-joins c =
    let s0 = c.args.self.now.tour.stops.items in
    let s1 = c.begin.new.self.stops.items in
    each_trans (λ s t. t.side.hand.found.join ≡ s.side.hand.found.join) s0 s1 c.fill.new.self.tour.stops.items (λ x y z a b. b ∙ a) (each_map _ _ s0 s1 (λ s t p. ap (λ z. z.hand.found.join) p.0) c.begin.ensures.each) c.fill.ensures.joins

pub returns-clause-eager : goal.returns-clause-eager
returns-clause-eager c = λ as' stands fits.
    let m = c.args.self.now in
    let e = c.begin.ensures in
    let t1 = c.begin.new.self in
    let ss = m.tour.stops.items in
    let ts = t1.stops.items in
    let goes = goes_begun m.tour.again t1.again m.tour.visit.items t1.visit.items m.tour.opened t1.opened as' e.tour.0 e.tour.1 (λ a. ap (λ z. z.items) (e.again a)) stands in
    let on = c.fill.ensures.eager (record {
      count = e.count;
      passed = e.tour.5;
      under = each_none _ (λ s. s.under) (λ s t p. p.5) ss ts e.each;
      again = λ a. (goes.comes a).once;
      anew = λ a. e.anew (sym e.tour.0 ∙ a);
      fits = λ a.
          let was = sym e.tour.0 ∙ a in
          subst (λ z. FitAgain z ts) (sym (ap (λ z. z.items) (e.again was))) (again_on _ (λ s t p. side_sends s t p.0 p.1) ss ts m.tour.visit.items e.each (fits was));
    }) e.empty in
    each_comp _ _ (λ s t. (recall_of t ≡ recall_of s) × StopTakesUp t) (λ s t u p q. (q.0 ∙ ap (λ z. recall_by z.paused z.duty z.passing z.turn (knows z.hand.course)) p.0, q.1 (λ v. absurd (true_false t.under v p.5)))) ss ts c.fill.new.self.tour.stops.items e.each on

pub returns-clause-serves : goal.returns-clause-serves
returns-clause-serves c = λ lens recover retry missed made from ws some small room taken unlisted x.
    let m = c.args.self.now in
    let e = c.begin.ensures in
    let t1 = c.begin.new.self in
    let ss = m.tour.stops.items in
    let ts = t1.stops.items in
    let index = m.made % 256 in
    let as' = map run_lead ws in
    let lives = map (λ w. lived_of (run_lead w)) ws in
    let flat : map lived_of as' ≡ lives = Served.map_map lived_of run_lead ws in
    let nothing : ℕ → Option (Service Asked) = λ k. None in
    let before = three_both (λ w p s. IsServed lens recover made w p s) _ (λ w. lived_of (run_lead w)) (λ w p s h. (h.lives, Served.waits_alike s.stand _ s.side.passing w.lead.lived.life h.passing)) ws m.posts.items ss x.each in
    let leads = three_both (λ w p s. IsServed lens recover made w p s) (λ a s. IsLived lens recover (lived_of a) s) run_lead (λ w p s h. h.lives) ws m.posts.items ss x.each in
    let many : length ts ≡ length as' = e.long ∙ long_served lens recover retry made ws m.posts.items ss x.each in
    let alive : (k : ℕ) → holds_at (λ s. is_live s.stand) ts k ≡ holds_at is_live_lead as' k =
    λ k. each_holds _ (λ s. is_live s.stand) (λ s t p. ap is_live p.1) ss ts e.each k ∙ both_holds (λ a s. IsLived lens recover (lived_of a) s) is_live_lead (λ s. is_live s.stand) (λ a s l. stand_lives lens recover a.lived s l) as' ss leads k in
    let goes = goes_begun m.tour.again t1.again m.tour.visit.items t1.visit.items m.tour.opened t1.opened as' e.tour.0 e.tour.1 (λ a. ap (λ z. z.items) (e.again a)) x.goes in
    let alike = each_map _ (λ s t. Alike s t) ss ts
    (λ s t p. record {
      script = ap (λ z. scripted z.hand.laying) p.0;
      place = p.2;
      stand = p.1;
      passing = ap (λ z. z.passing) p.0;
      awaits = λ w. ap (λ z. awaits_reply z.hand.course z.hand.which z.hand.clients) p.0 ∙ w;
      read = (ap (λ z. z.read_at) p.0, ap (λ z. z.pace) p.0);
      out = ap (λ z. z.out.len) p.0;
      known = ap (λ z. knows z.hand.course) p.0;
    }) e.each in
    let f = c.fill.ensures.serves lens recover made from ws x.distinct
    (λ left. record {
      begun = nothing;
      frame = subst (λ n. FrameMade (λ ds i a s. StopFills lens recover made nothing index left ds i a s) c.begin.new.frame.items n lives ts) (sym e.count) (e.made (speech_at lens) is_followed is_passed made recover index lens left lives nothing (λ k. refl) before);
      each = Served.firsts_serving lens recover made left 0 ws m.posts.items ss ts x.each alike;
      handed = Served.firsts_handing lens recover made 0 ws m.posts.items ss ts x.each alike;
      numbered = x.numbered;
      packets = begun_nothing from.switch left as' m.lan taken;
      listing = listed_nothing (served_tells ws) from.forwards left as' _ (record { few = unlisted.few; none = unlisted.none; counts = unlisted.counts });
      starts = record {
        visited = [];
        each = three_from (λ w p s. IsServed lens recover made w p s) _ (λ i w s. HasStarted lens m.lan [] i (begun_for nothing as' i) w.lead w.waits s)
            (λ i w p s t h q. record { under = λ u. absurd (true_false t.under u q.5); ends = λ y. absurd (let n : false ≡ true = y in cc); unvisited = λ y. nothing_for as' i }) 0 ws m.posts.items ss ts x.each e.each;
      };
    })
    (record {
      count = e.count;
      passed = e.tour.5;
      short = e.empty;
      begins = begins_live (λ s. is_live s.stand) t1.again t1.visit.items t1.opened ts as' many alive goes;
      some = each_any _ (λ s. is_live s.stand) (λ s t p. ap is_live p.1) ss ts e.each ∙ some;
      lives = alive;
      again = goes.comes;
      anew = λ a. e.anew (sym e.tour.0 ∙ a);
      room = room;
      listed = unlisted.few;
    }) in
    let left = f.0 in
    let filling = f.1 in
    let ends = f.2 in
    let on = c.fill.ensures.on in
    let into = c.fill.new.into.items in
    let visits = λ (a : m.tour.again ≡ true). ap (λ z. z.items) (e.again a) in
    let v = c.fill.ensures.visited (record {
      count = e.count;
      passed = e.tour.5;
      under = each_none _ (λ s. s.under) (λ s t p. p.5) ss ts e.each;
      again = λ a. (goes.comes a).once;
      anew = λ a. e.anew (sym e.tour.0 ∙ a);
      fits = λ a.
          let was = sym e.tour.0 ∙ a in
          subst (λ z. FitAgain z ts) (sym (visits was)) (again_on _ (λ s t p. side_sends s t p.0 p.1) ss ts m.tour.visit.items e.each (x.again was));
    }) e.empty in
    let t2 = c.fill.new.self.tour in
    let yes = c.finish-some.ensures.some ∙ some_not t2.count ends.some in
    let begun = filling.begun in
    let z = c.finish-some.ensures.made yes (speech_at lens) is_followed is_passed made recover (c.fill.new.self.made % 256) lens left lives begun filling.frame in
    let octets = c.finish-some.new.frame.items in
    let is = sent_is lens octets z.datagrams z.frame in
    let sent = Served.served_all lens recover made begun octets z.datagrams is left 0 ws z.lives c.fill.new.self.posts.items t2.stops.items filling.each filling.handed filling.numbered z.each in
    let us = turns lens recover made begun octets z.datagrams is as' z.lives t2.stops.items in
    let sends = subst (λ y. AllThree (λ a b s. Served.Sends lens recover made begun octets z.datagrams is a b s) y z.lives t2.stops.items) (sym flat) z.each in
    let fills = subst (λ y. AllFrom (λ i a s. StopFills lens recover made begun (c.fill.new.self.made % 256) left filling.frame.datagrams i a s) 0 y t2.stops.items) (sym flat) filling.frame.each in
    let areas = areas_from lens (λ i a s. StopFills lens recover made begun (c.fill.new.self.made % 256) left filling.frame.datagrams i a s) (λ i a s w. area_planned lens a.spot s w.lives.planned) 0 as' t2.stops.items fills in
    let came = Served.sent_begun us sent.sent sent.turns_are (λ k. begun_for begun as' k) (λ k. begun_turns lens recover made begun octets z.datagrams is as' z.lives t2.stops.items sends k) in
    let shares = three_both (λ v p s. IsServedUnder lens recover octets made v p s) (λ u s. u.share.under ≡ s.under) run_turn (λ v p s h. h.under) sent.sent c.fill.new.self.posts.items t2.stops.items sent.under in
    let starts = serves_start lens c.fill.new.self.lan filling.starts.visited (λ k. begun_for begun as' k) (λ u s. u.share.under ≡ s.under) (λ u s x. x) ws (map run_turn sent.sent) t2.stops.items filling.starts.each shares came in
    let bare = Steps.from_map _ (λ n a s. is_in n left ≡ true → s.under ≡ false) (λ i a s w. w.bare) 0 as' t2.stops.items
    (from_map lived_of (λ i a s. StopFills lens recover made begun (c.fill.new.self.made % 256) left filling.frame.datagrams i a s) 0 as' t2.stops.items fills) in (
      sent.sent,
      record { datagrams = z.datagrams; frame = z.frame; each = sent.each },
      record {
        each = sent.under;
        distinct = Served.sent_distinct us sent.sent sent.turns_are (distinct_same as' us (same_all lens recover made begun octets z.datagrams is as' z.lives t2.stops.items sends) (subst (λ y. AreDistinct y) (sym flat) x.distinct));
        goes = Served.sent_goes us sent.sent sent.turns_are t2.visit.items t2.opened
            (goes_under lens recover made begun octets z.datagrams is t1.again t2.visit.items t1.visit.items t2.opened left as' z.lives t2.stops.items sends bare ends.apart ends.comes
            (subst (λ w. GoesOn t1.again t1.visit.items w as') (sym on.opened) goes));
        missed_is = on.missed ∙ e.tour.3 ∙ x.missed_is;
        retry_is = on.retry ∙ e.tour.4 ∙ x.retry_is;
        sent = sent_some lens octets z.datagrams z.frame;
        fits = fit_under into _ c.fill.new.self c.fill.ensures.begun.1.fits v;
        carried = λ k y. subst (λ w. is_in k w ≡ true) (sym (visits_are into _ c.fill.new.self v)) (v.carries.only k y);
        made_is = refl;
        early = small;
        numbered = sent.numbered;
      },
      on.made ∙ x.made_is,
      served_begin from.forwards left begun ws sent.sent c.fill.new.self _ came refl refl filling.listing,
      tour_same into m _ c.fill.new.self v e.tour.0 visits e.tour.1 e.tour.2 e.tour.3 on,
      packets_begin from.switch left begun as' (map run_turn sent.sent) c.fill.new.self.lan came filling.packets,
      starts.0,
      starts.1,
      of_tour into m _ c.fill.new.self v e.tour.0 visits e.tour.1 e.tour.2 e.tour.3 on (λ k. holds_at is_live_lead as' k) alive (λ k. v.alive k ∙ alive k) (frame_size octets) (λ k. area_at lens as' k) (c.finish-some.ensures.size yes) areas (length (seen lens octets)) (sent_many lens octets filling.frame.datagrams (c.finish-some.ensures.reads yes filling.frame.datagrams filling.frame.begun filling.frame.long filling.frame.named) ∙ filling.frame.long) ends.some,
    )

pub returns-clause-head : goal.returns-clause-head
returns-clause-head c = c.fill.ensures.head

pub returns-clause-answers : goal.returns-clause-answers
returns-clause-answers c = c.fill.ensures.answers
