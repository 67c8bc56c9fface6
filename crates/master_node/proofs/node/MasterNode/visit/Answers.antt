use Rattle.std.proofs.Common.{ℕ, ◌⊎◌, inl, ◌≡◌, ◌∙◌, ◌+◌, ◌%◌, refl, sym, ap, subst, arith, true, [], ◌∷◌, length}
use Rattle.std.specs.Prelude.{map, false, is_some, nat_lt, IfSome, slice_get, None}
use Rattle.std.proofs.lemmas.Bool.{le-ltb, lt-ltb}
use Rattle.master_node.proofs.Lefts.{true_false}
use Rattle.master_node.specs.Toured.{StaysPut, TakesPart}
use Rattle.master_node.proofs.Toureds.{takes_part, part_steps}
use Rattle.life_runs.specs.of_master_hand.Laying.{ready_of, Scripted}
use Rattle.life_runs.specs.of_master_hand.contracts.hand.InHandHand.TheImpl as Impl
use Rattle.life_runs.specs.of_master_hand.declared.hand.InHand.{InHand}
use Rattle.life_runs.specs.of_master_tour.declared.stop.Stop.{Stop}
use Rattle.life_runs.specs.of_master_side.Shown.{wish_begun, SideShows}
use Rattle.life_runs.specs.Led.{speech_at}
use Rattle.life_runs.specs.of_master_hand.Spoken.{is_followed, is_passed, acknowledged}
use Rattle.life_runs.specs.of_master_tour.Goes.{is_live}
use Rattle.life_runs.specs.of_master_tour.Made.{FrameMade, ComesAt}
use Rattle.life_runs.specs.of_master_tour.Walks.{StepsAt}
use Rattle.life_runs.proofs.of_master_tour.Walks.{steps_both, each_map}
use Rattle.master_node.specs.Filling.{StopFills}
use Rattle.master_node.specs.Shows.{lived_of}
use Rattle.master_node.proofs.Lists.{steps_map, steps_holds, steps_each, each_trans, steps_trans, steps_got, steps_mid, steps_some, both_each}
use Rattle.master_node.proofs.Filleds.{count_behind}
use Rattle.master_node.proofs.Visits.{Fitted, Began, SomeKept, here, what, what_is, none_here, now, now_here, comes, frame, frame_kept, spot, leaves, waits_none, told, among, among_fitted}
use Rattle.master_node.proofs.Begins.{begun_step, at_other, at_place}
use Rattle.master_node.specs.Listing.{number_at, run_tells, where_began}
use Rattle.master_node.proofs.Listing.{ToldSo, before_of_list, laid_from, listed_on, listed_step, listed_visit, number_here}
use Rattle.master_node.specs.Begins.{NoneMore, TakesOn, taken_where, begun_for}
use Rattle.life_runs.specs.of_master_side.Again.{HasNoRoom, area_of}
use Rattle.life_runs.specs.of_master_side.Sent.{SameLink}
use Rattle.life_runs.specs.of_master_tour.Rooms.{Looks, StopRepeats, Visits, stop_len}
use Rattle.master_node.specs.Rooms.{SendsSame, Takes}
use Rattle.master_node.proofs.Fits.{sends_again, sends_len, stays_sends, takes_before, takes_not, takes_visit}
use Rattle.master_node.proofs.Rooms.{steps_room, looks_full, visits_full}
use Rattle.master_node.proofs.Eagers.{goes_kept, recall_kept, steps_tested}
use Rattle.master_node.proofs.Visits as Visited
use Rattle.master_node.specs.Eager.{StopGoes, recall_of}
use Rattle.master_node.proofs.Happenings.{happens_none, happens_from}
use Rattle.master_node.proofs.Made.{makes_none, makes_then}
use Rattle.life_runs.specs.of_master_hand.Shown.{Shows, knows, awaits_reply}
use Rattle.life_runs.specs.of_master_tour.Recalls.{BeginsAll as Begins}
use Rattle.master_node.specs.Starts.{HasStarted}
use Rattle.master_node.proofs.Fills.{from_each, from_map}
use Rattle.master_node.proofs.Starts.{Asks, ComesSo, LeavesNone, Readies, from_both, from_steps, leaves_none, mail_none, readies, some_so, started_here, started_same, started_there, waits_yet}
use Rattle.life_runs.specs.of_master_tour.First.{FitsFirst}
use Rattle.life_runs.specs.of_master_tour.declared.stop.Stand.{Stand}
use Rattle.master_node.proofs.Unvisited.{Lacking, Roomed, Roomy, Went, roomy, some_wish, steps_behind, without}
use Rattle.life_runs.specs.of_master_side.Free.{is_free_side}
use Rattle.master_node.specs.Coming.{IsComing, next_of, wish_of}
use Rattle.master_node.specs.Handed.{IsHanding}
use Rattle.master_node.specs.Kept.{StopKept}
use Rattle.master_node.specs.Passes.{IsNextState, IsServing, waits_in, ThreeFrom}
use Rattle.master_node.specs.Serving.{mails_in, run_lead}
use Rattle.master_node.proofs.ServedVisits as Served
use Rattle.master_node.proofs.Alikes.{Alike, alike_same, serving_alike}
use Rattle.master_node.proofs.MailsReady.{mail_ready}
use Rattle.master_node.proofs.ServedStarts.{all_without, leaves_all, serves_started}
use Rattle.master_node.proofs.Threes.{three_each}
use Rattle.master_node.proofs.FreeKept as Frees
use Rattle.life_runs.specs.of_frame_view.Shares.{AreDistinct}
use Rattle.master_node.specs.Events.{served_tells}
use Rattle.master_node.specs.Numbered.{IsNumbered, StaysNumbered}
use Rattle.master_node.proofs.ServedSents.{map_map}
use Rattle.master_node.proofs.ServedTells.{told_visit}
use Rattle.master_node.proofs.Answereds.{laid_answers, visit_answers}
use Rattle.master_node.proofs.node.MasterNode.visit.Goals as goal

pub returns-then-not-fits-clause-led : goal.returns-then-not-fits-clause-led
returns-then-not-fits-clause-led c = λ lens recover made from left next as' room rows quiet d at over fewer f.
    let m = c.args.self.now in
    let e = c.fits.ensures in
    let s0 = m.tour.stops.items in
    let s1 = c.fits.new.self.stops.items in
    let fitted = steps_map _ (λ s t. Fitted s t) c.args.place s0 s1 (λ s t p. record { place = p.0.1; passing = p.1.2; script = p.1.3; out = p.1.0.out_is }) (steps_both _ _ c.args.place s0 s1 e.lives e.step) in
    record {
      begun = f.begun;
      frame = subst (λ n. FrameMade (λ ds i a s. StopFills lens recover made f.begun (m.made % 256) left ds i a s) c.args.into.now.items n (map lived_of as') s1) (sym e.count)
          (e.made (speech_at lens) is_followed is_passed made recover (m.made % 256) m.tour.count lens left (map lived_of as') c.args.into.now.items f.begun d at f.frame);
      among = among_fitted lens f.begun left as' c.args.place s0 s1 fitted f.among;
      packets = f.packets;
      listing = listed_on (run_tells as') from.forwards left f.begun as' m _ refl refl f.listing;
      starts = record {
        visited = f.starts.visited;
        each = from_each (λ i a s. HasStarted lens m.lan f.starts.visited i (begun_for f.begun as' i) a [] s) (λ s t. (t.under ≡ s.under) × (recall_of t ≡ recall_of s)) (λ i a s. HasStarted lens m.lan f.starts.visited i (begun_for f.begun as' i) a [] s)
            (λ i a s t p q. started_same lens m.lan f.starts.visited i (begun_for f.begun as' i) a [] s t q.0 q.1 p) 0 as' s0 s1 f.starts.each
            (steps_each _ (λ s t. (t.under ≡ s.under) × (recall_of t ≡ recall_of s)) c.args.place s0 s1 (λ s. (refl, refl)) (λ s t p. (p.0.3, p.1)) (steps_both _ _ c.args.place s0 s1 e.lives e.recalled));
      };
    }

pub returns-clause-first : goal.returns-clause-first
returns-clause-first c = λ e live.
    let m = c.args.self.now in
    let s0 = m.tour.stops.items in
    let s1 = c.fits.new.self.stops.items in
    let s2 = c.lay.new.self.tour.stops.items in
    let first = steps_holds (λ s. is_live s.stand) _ c.args.place s0 s1 (λ s t p. ap is_live p.1) c.fits.ensures.step c.args.place in
    let second = steps_holds (λ s. is_live s.stand) _ c.args.place s1 s2 (λ s t p. ap is_live p.0.stand) c.lay.ensures.laid c.args.place in
    (refl, c.came.ensures.kept.0.count ∙ c.visit-began.ensures.first e (second ∙ first ∙ live) ∙ ap (λ n. n + 1) (c.lay.ensures.kept.0.count ∙ c.fits.ensures.count))

pub returns-clause-led : goal.returns-clause-led
returns-clause-led c = λ lens recover made from left next as' room rows quiet d at over fewer f.
    let m = c.args.self.now in
    let e = c.fits.ensures in
    let v = c.visit-began.ensures in
    let place = c.args.place in
    let coming = c.coming-coming.result in
    let r = c.visit-began.result in
    let s0 = m.tour.stops.items in
    let s1 = c.fits.new.self.stops.items in
    let s2 = c.lay.new.self.tour.stops.items in
    let s3 = c.visit-began.new.self.stops.items in
    let s4 = c.came.new.self.tour.stops.items in
    let fitted = steps_map _ (λ s t. Fitted s t) place s0 s1 (λ s t p. record { place = p.0.1; passing = p.1.2; script = p.1.3; out = p.1.0.out_is }) (steps_both _ _ place s0 s1 e.lives e.step) in
    let began = subst (λ z. StepsAt (λ s t. Began r z s t) place s2 s3) c.wish_of-wish.ensures
    (steps_map _ (λ s t. Began r c.wish_of-wish.result s t) place s2 s3 (λ s t p. record { place = p.0.4; out = p.1.0.0.out_is; ready = p.1.1.0; script = p.1.1.1; unpassed = p.1.1.2 }) (steps_both _ _ place s2 s3 v.lives (steps_both _ _ place s2 s3 v.step v.began))) in
    let rooms : (s : Stop InHand Impl.ghosts) → s.side.out.len ≡ s.side.hand.laying.areas.out = λ s. s.side.room ∙ ap (λ z. z.out) (sym s.side.hand.one_slave) in
    let coms = c.coming-coming.ensures.comes quiet in
    let laid = c.lay.ensures.laid in
    let came = c.came.ensures.came in
    let index = m.made % 256 in
    let begun = now coming r place s0 s1 s2 s3 s4 rooms coms fitted laid began came f.begun in
    let same = ap (λ n. n % 256) (c.came.ensures.kept.0.made ∙ c.lay.ensures.kept.0.made) in
    let visited_frame = frame coming r place s0 s1 s2 s3 s4 rooms coms fitted laid began came lens recover made index f.begun left next (map lived_of as') c.args.into.now.items c.visit-began.new.frame.items m.tour.count c.lay.new.self.tour.count c.visit-began.new.self.count
    (c.lay.ensures.kept.0.count ∙ e.count) (e.made (speech_at lens) is_followed is_passed made recover index m.tour.count lens left (map lived_of as') c.args.into.now.items f.begun d at f.frame)
    (λ g. v.made (speech_at lens) is_followed is_passed made recover lens left next (map lived_of as') f.begun begun d at over fewer (subst (λ z. IfSome (slice_get s2 place) (λ s. ComesAt f.begun begun s.place (wish_begun r z (ready_of s.side.hand.laying)))) (sym c.wish_of-wish.ensures) (comes coming r place s0 s1 s2 s3 s4 rooms coms fitted laid began came f.begun)) g) in
    let made_frame = frame_kept coming r place s0 s1 s2 s3 s4 rooms coms fitted laid began came lens recover made index f.begun next (map lived_of as') c.visit-began.new.frame.items c.visit-began.new.self.count visited_frame in
    record {
      begun = begun;
      frame = subst (λ n. FrameMade (λ ds i a s. StopFills lens recover made begun (c.came.new.self.made % 256) next ds i a s) c.visit-began.new.frame.items n (map lived_of as') s4) (sym c.came.ensures.kept.0.count)
          (subst (λ k. FrameMade (λ ds i a s. StopFills lens recover made begun k next ds i a s) c.visit-began.new.frame.items c.visit-began.new.self.count (map lived_of as') s4) (sym same) made_frame);
      among = among coming r place s0 s1 s2 s3 s4 rooms coms fitted laid began came lens f.begun left next as' fewer at over d f.among;
      packets = begun_step from.switch left next f.begun as' m.lan c.came.new.self.lan place (here coming r place s0 s1 s2 s3 s4 rooms coms fitted laid began came) (what coming r place s0 s1 s2 s3 s4 rooms coms fitted laid began came)
          (taken_where r m.lan place coming) d (spot coming r place s0 s1 s2 s3 s4 rooms coms fitted laid began came lens f.begun left as' f.among) room at over fewer
          (leaves coming r place s0 s1 s2 s3 s4 rooms coms fitted laid began came m.lan c.lay.ensures.oldest) (subst (λ z. TakesOn (taken_where r z place coming) z c.came.new.self.lan) c.lay.ensures.lan c.came.ensures.takes) (subst (λ z. NoneMore z c.came.new.self.lan) c.lay.ensures.lan c.came.ensures.fewer)
          (waits_none coming r place s0 s1 s2 s3 s4 rooms coms fitted laid began came m.lan c.coming-coming.ensures.first) f.packets;
      listing = listed_step (run_tells as') from.forwards left next f.begun as' m c.came.new.self place (here coming r place s0 s1 s2 s3 s4 rooms coms fitted laid began came) (what coming r place s0 s1 s2 s3 s4 rooms coms fitted laid began came) d (spot coming r place s0 s1 s2 s3 s4 rooms coms fitted laid began came lens f.begun left as' f.among) at over fewer
          (listed_visit (run_tells as') place (where_began r coming) (what coming r place s0 s1 s2 s3 s4 rooms coms fitted laid began came) m _ c.came.new.self c.lay.ensures.list rows
          (steps_map _ (λ p q. ToldSo (run_tells as') place (where_began r coming) (what coming r place s0 s1 s2 s3 s4 rooms coms fitted laid began came) p q) place m.posts.items c.lay.new.self.posts.items
          (λ p q h. (let z = told coming r place s0 s1 s2 s3 s4 rooms coms fitted laid began came (number_at as' place) p.forwards q.origin h.origin in (h.counts, z.0, z.1)))
          (laid_from coming (number_at as' place) place m.posts.items c.lay.new.self.posts.items s0 s1 s2 (number_here lens f.begun left (λ s t. Fitted s t) (λ s t k. k.script) 0 place place as' s0 s1 (omega arith) at f.among fitted) c.lay.ensures.origins))
          c.came.ensures.lists) f.listing;
      starts = record {
        visited = place ∷ f.starts.visited;
        each =
            let l = m.lan in
            let l2 = c.came.new.self.lan in
            let visited = f.starts.visited in
            let what_here = what coming r place s0 s1 s2 s3 s4 rooms coms fitted laid began came in
            let here_is = here coming r place s0 s1 s2 s3 s4 rooms coms fitted laid began came in
            let at_spot = spot coming r place s0 s1 s2 s3 s4 rooms coms fitted laid began came lens f.begun left as' f.among in
            let fewer_on = subst (λ z. NoneMore z l2) c.lay.ensures.lan c.came.ensures.fewer in
            let asks = steps_map _ (λ s t. Asks s t) place s0 s1
            (λ s t p. ((λ lens recover made a k h. p.0.0 (speech_at lens a.lived.spot) is_followed is_passed made recover a.lived.spot k h), p.1.0.2, p.1.0.0.out_is, ap (λ z. slice_get z.script z.number) p.1.0.3, p.1.1)) (steps_both _ _ place s0 s1 e.lives (steps_both _ _ place s0 s1 e.step e.recalled)) in
            let got = waits_in (mails_in m) place in
            let so = steps_some (λ s. ComesSo l place got coming s × IsComing (next_of s) coming) (λ s t. Asks s t) place s0 s1 asks
            (Served.some_pair _ _ (slice_get s0 place) (some_so l place got coming (slice_get s0 place) c.coming-coming.ensures.first c.coming-coming.ensures.last c.coming-coming.ensures.none c.coming-coming.ensures.mails) coms) in
            let ready = steps_trans _ _ (λ s u. Readies lens recover made l place got coming s u) place s0 s1 s2
            (λ s t u a b. readies lens recover made l place got coming s t u a.0.0 a.1 b.0.0 b.0.1 b.1 (mail_none (next_of s) coming u.side.hand.laying a.0.1)) so
            (steps_both _ _ place s1 s2 laid (c.lay.ensures.sure c.coming-coming.ensures.waits)) in
            let begins = subst (λ z. StepsAt (λ s t. Begins s.stand r (knows s.side.hand.course) s.side.duty s.side.passing acknowledged (λ x d a. SideShows (Shows s.side.hand.course s.side.hand.which s.side.hand.clients x) s.side.out s.side.inn s.side.fresh s.side.duty d a) z (ready_of s.side.hand.laying)) place s2 s3) c.wish_of-wish.ensures v.begins in
            let left_none = steps_trans _ _ (λ s u. LeavesNone lens recover made l place got what_here s u) place s0 s2 s3
            (λ s t u a b. subst (λ z. LeavesNone lens recover made l place got z s u) (what_is coming r place s0 s1 s2 s3 s4 rooms coms fitted laid began came t b.0) (leaves_none lens recover made l place got coming r s t u (rooms t) a b.1.0 b.1.1)) ready
            (steps_got _ place s2 s3 (steps_both _ _ place s2 s3 begins v.recalled)) in
            let wish = c.wish_of-wish.result in
            let octets = c.args.into.now.items in
            let fit : c.fits.result ≡ true = cc in
            let roomed = steps_map _ (λ s t. Roomed octets wish s t × (t.stand ≡ s.stand)) place s0 s1
            (λ s t p. (record { free = λ w. p.0.0.0 (some_wish coming (sym (ap (λ z. is_some z) c.wish_of-wish.ensures) ∙ w)); fits = p.0.0.1; still = p.0.1 }, p.1.1))
            (steps_both _ _ place s0 s1 (steps_both _ _ place s0 s1 (steps_some (λ s. is_some coming ≡ true → (s.stand ≡ Stand.Open) × (is_free_side s.side ≡ true)) (λ s t. FitsFirst octets wish s) place s0 s1 (e.begins fit) c.coming-coming.ensures.free) e.still) e.step) in
            let room_kept = steps_trans _ _ (λ s u. Roomy octets wish s u) place s0 s1 s2 (λ s t u a b. roomy octets wish s t u a.1 a.0 b.0) roomed laid in
            let lacking = steps_map _ (λ t u. Lacking octets wish r t u × (u.place ≡ t.place)) place s2 s3 (λ t u p. (record { lacks = p.0.0; takes = p.0.1; stand = p.1.1.0.1; recalled = p.1.1.1 }, p.1.0.4))
            (steps_both _ _ place s2 s3 (steps_both _ _ place s2 s3 v.lacks v.takes) (steps_both _ _ place s2 s3 v.lives (steps_both _ _ place s2 s3 v.step v.recalled))) in
            let went = subst (λ z. StepsAt (λ s u. Went octets z r (slice_get s2 place) s u) place s0 s3) c.wish_of-wish.ensures
            (steps_trans _ _ (λ s u. Went octets wish r (slice_get s2 place) s u) place s0 s2 s3 (λ s t u a b. record { between = t; is = b.0; roomed = a; lacking = b.1.0; place = b.1.1 }) room_kept (steps_got _ place s2 s3 lacking)) in
            let without_one = steps_behind (λ i a u. StopFills lens recover made begun index next visited_frame.datagrams i a u) _ (λ s u. u.under ≡ false → what_here ≡ None) 0 place place (map lived_of as') s0 s3 (omega arith)
            (λ a s u p w n. none_here coming r place s0 s1 s2 s3 s4 rooms coms fitted laid began came w.between w.is (without lens recover made octets (wish_of coming) r begun index next visited_frame.datagrams place a s w.between u p w.roomed w.lacking
            (now_here coming r place s0 s1 s2 s3 s4 rooms coms fitted laid began came f.begun w.between u a.spot.place w.is w.place p.lives.planned.stands.place_is) n)) visited_frame.each went in
            let before = from_both _ _ 0 as' s0 (from_both _ _ 0 as' s0 (from_map lived_of (λ i a s. StopFills lens recover made f.begun index left f.frame.datagrams i a s) 0 as' s0 f.frame.each) f.among) f.starts.each in
            let third = from_steps _ (λ i a s. HasStarted lens l2 (place ∷ visited) i (begun_for begun as' i) a [] s) (λ s u. LeavesNone lens recover made l place got what_here s u × (u.under ≡ false → what_here ≡ None)) 0 place place as' s0 s3 (omega arith)
            (λ a s u p q. started_here lens recover made l l2 visited place got (begun_for begun as' place) what_here a [] s u fewer_on (at_place f.begun here_is what_here as' place at_spot) (waits_yet lens recover made f.begun index left f.frame.datagrams place a s at p.0.0 p.0.1) (λ z. refl) q.0 q.1)
            (λ j a s n p. started_there lens l l2 visited place j (begun_for f.begun as' j) (begun_for begun as' j) a [] s fewer_on n (at_other f.begun here_is what_here as' place j d at_spot n) p.1) before (steps_both _ _ place s0 s3 left_none without_one) in
            from_each (λ i a s. HasStarted lens l2 (place ∷ visited) i (begun_for begun as' i) a [] s) (λ s t. SomeKept s t) (λ i a s. HasStarted lens l2 (place ∷ visited) i (begun_for begun as' i) a [] s)
            (λ i a s t p k. started_same lens l2 (place ∷ visited) i (begun_for begun as' i) a [] s t k.kept.under (recall_kept k.number s t k.kept) p) 0 as' s3 s4 third (Visited.kept coming r place s0 s1 s2 s3 s4 rooms coms fitted laid began came);
      };
    }

pub returns-then-not-fits-clause-counts : goal.returns-then-not-fits-clause-counts
returns-then-not-fits-clause-counts c = inl c.fits.ensures.count

pub returns-clause-counts : goal.returns-clause-counts
returns-clause-counts c =
    let same = c.lay.ensures.kept.0.count ∙ c.fits.ensures.count in
    let behind = c.came.ensures.kept.0.count in
    subst (λ z. (z ≡ c.args.self.now.tour.count) ⊎ (z ≡ c.args.self.now.tour.count + 1)) (sym behind)
    (subst (λ z. (c.visit-began.new.self.count ≡ z) ⊎ (c.visit-began.new.self.count ≡ z + 1)) same
    (count_behind _ (λ t. t.under) c.lay.new.self.tour.count c.visit-began.new.self.count c.args.place c.lay.new.self.tour.stops.items c.visit-began.new.self.stops.items (λ s t p. (p.3, p.4)) c.visit-began.ensures.step))

pub returns-then-not-fits-clause-joins : goal.returns-then-not-fits-clause-joins
returns-then-not-fits-clause-joins c = steps_each _ _ c.args.place c.args.self.now.tour.stops.items c.fits.new.self.stops.items (λ s. refl) (λ s t p. p) c.fits.ensures.join

pub returns-clause-joins : goal.returns-clause-joins
returns-clause-joins c =
    let s0 = c.args.self.now.tour.stops.items in
    let s1 = c.fits.new.self.stops.items in
    let s2 = c.lay.new.self.tour.stops.items in
    let s3 = c.visit-began.new.self.stops.items in
    let s4 = c.came.new.self.tour.stops.items in
    each_trans (λ s t. t.side.hand.found.join ≡ s.side.hand.found.join) s0 s1 s4 (λ x y z a b. b ∙ a) (steps_each _ _ c.args.place s0 s1 (λ s. refl) (λ s t p. p) c.fits.ensures.join)
    (each_trans (λ s t. t.side.hand.found.join ≡ s.side.hand.found.join) s1 s2 s4 (λ x y z a b. b ∙ a) c.lay.ensures.joins
    (each_trans (λ s t. t.side.hand.found.join ≡ s.side.hand.found.join) s2 s3 s4 (λ x y z a b. b ∙ a) (steps_each _ _ c.args.place s2 s3 (λ s. refl) (λ s t p. p) c.visit-began.ensures.join) c.came.ensures.joins))

pub returns-then-not-fits-clause-shares : goal.returns-then-not-fits-clause-shares
returns-then-not-fits-clause-shares c =
    let m = c.args.self.now in
    let e = c.fits.ensures in
    let n = e.count in
    subst (λ z. StepsAt (λ s t. TakesPart z m.tour.count s t) c.args.place m.tour.stops.items c.fits.new.self.stops.items) (sym (le-ltb m.tour.count c.fits.new.self.count (omega (arith, n))))
    (steps_map _ (λ s t. TakesPart false m.tour.count s t) c.args.place m.tour.stops.items c.fits.new.self.stops.items (λ s t p. (p.1.1, λ u. sym p.0.3 ∙ u)) (steps_both _ _ c.args.place m.tour.stops.items c.fits.new.self.stops.items e.lives e.step))

pub returns-clause-shares : goal.returns-clause-shares
returns-clause-shares c =
    let m = c.args.self.now in
    let e = c.fits.ensures in
    let v = c.visit-began.ensures in
    let place = c.args.place in
    let s0 = m.tour.stops.items in
    let s1 = c.fits.new.self.stops.items in
    let s2 = c.lay.new.self.tour.stops.items in
    let s3 = c.visit-began.new.self.stops.items in
    let s4 = c.came.new.self.tour.stops.items in
    let before = c.lay.ensures.kept.0.count ∙ e.count in
    let behind = c.came.ensures.kept.0.count in
    let first = steps_map _ (λ s t. StaysPut s t) place s0 s1 (λ s t p. (p.1.1, p.0.3, p.0.4)) (steps_both _ _ place s0 s1 e.lives e.step) in
    let second = steps_map _ (λ s t. StaysPut s t) place s1 s2 (λ s t p. (p.0.stand, p.0.under, p.0.at)) c.lay.ensures.laid in
    let third = steps_map _ (λ s t. TakesPart (nat_lt c.lay.new.self.tour.count c.visit-began.new.self.count) c.lay.new.self.tour.count s t) place s2 s3
    (λ s t p. takes_part s t c.lay.new.self.tour.count c.visit-began.new.self.count p.1.1 p.0.3 p.1.3 p.1.4) (steps_both _ _ place s2 s3 v.lives v.step) in
    subst (λ z. StepsAt (λ s t. TakesPart (nat_lt z c.came.new.self.tour.count) z s t) place s0 s4) before
    (subst (λ z. StepsAt (λ s t. TakesPart (nat_lt c.lay.new.self.tour.count z) c.lay.new.self.tour.count s t) place s0 s4) (sym behind)
    (part_steps c.lay.new.self.tour.count (nat_lt c.lay.new.self.tour.count c.visit-began.new.self.count) place s0 s1 s2 s3 s4 first second third c.came.ensures.put))

pub returns-then-not-fits-clause-room : goal.returns-then-not-fits-clause-room
returns-then-not-fits-clause-room c = λ n l.
    let e = c.fits.ensures in
    let s0 = c.args.self.now.tour.stops.items in
    let s1 = c.fits.new.self.stops.items in
    steps_room c.args.into.now.items c.args.place s0 s1
    (steps_map _ (λ s t. is_live t.stand ≡ true → HasNoRoom c.args.into.now.items (area_of t.side)) c.args.place s0 s1 (λ s t p y. looks_full c.args.into.now.items c.fits.result s t c.if-not-fits.true p.0 p.1.0) (steps_both _ _ c.args.place s0 s1 e.room e.step)) l

pub returns-clause-room : goal.returns-clause-room
returns-clause-room c = λ n l.
    let v = c.visit-began.ensures in
    let place = c.args.place in
    let before = c.args.into.now.items in
    let behind = c.visit-began.new.frame.items in
    let s2 = c.lay.new.self.tour.stops.items in
    let s3 = c.visit-began.new.self.stops.items in
    let s4 = c.came.new.self.tour.stops.items in
    let same = sym c.came.ensures.kept.0.count ∙ n ∙ sym (c.lay.ensures.kept.0.count ∙ c.fits.ensures.count) in
    steps_room behind place s2 s4
    (steps_trans (λ s t. (Visits before behind s t) × (SameLink s.side.out s.side.inn s.side.station s.side.area t.side.out t.side.inn t.side.station t.side.area) × (t.stand ≡ s.stand) × (t.under ≡ true → c.visit-began.new.self.count ≡ c.lay.new.self.tour.count + 1)) (λ s t. SendsSame s t)
    (λ s t. is_live t.stand ≡ true → HasNoRoom behind (area_of t.side)) place s2 s3 s4
    (λ s t w p q. visits_full before behind s t w c.lay.new.self.tour.count c.visit-began.new.self.count same p.3 p.0 p.1 p.2 q)
    (steps_map _ _ place s2 s3 (λ s t p. (p.0, p.1.0, p.1.1, p.1.3)) (steps_both _ _ place s2 s3 v.room v.step)) c.came.ensures.sends) l

pub returns-then-not-fits-clause-takes : goal.returns-then-not-fits-clause-takes
returns-then-not-fits-clause-takes c =
    let e = c.fits.ensures in
    let n = e.count in
    let old = c.args.self.now.tour.count in
    let new = c.fits.new.self.count in
    let octets = c.args.into.now.items in
    steps_map _ (λ s t. Takes octets octets (nat_lt old new) s t) c.args.place c.args.self.now.tour.stops.items c.fits.new.self.stops.items (λ s t p. takes_not octets c.fits.result (nat_lt old new) s t c.if-not-fits.true (le-ltb old new (omega (arith, n))) p) e.room

pub returns-clause-takes : goal.returns-clause-takes
returns-clause-takes c =
    let e = c.fits.ensures in
    let v = c.visit-began.ensures in
    let place = c.args.place in
    let before = c.args.into.now.items in
    let behind = c.visit-began.new.frame.items in
    let s0 = c.args.self.now.tour.stops.items in
    let s1 = c.fits.new.self.stops.items in
    let s2 = c.lay.new.self.tour.stops.items in
    let s3 = c.visit-began.new.self.stops.items in
    let s4 = c.came.new.self.tour.stops.items in
    let old = c.args.self.now.tour.count in
    let new = c.came.new.self.tour.count in
    let was = c.lay.ensures.kept.0.count ∙ e.count in
    let is = c.came.ensures.kept.0.count in
    let looked = steps_trans (λ s t. Looks before c.fits.result s t) (λ s t. SendsSame s t) (λ s t. StopRepeats s → StopRepeats t × (stop_len t ≡ stop_len s)) place s0 s1 s2
    (λ s t u k w r. let x = k.again r in (sends_again t u w x.0, sends_len t u w ∙ x.1)) e.room (steps_map _ (λ s t. SendsSame s t) place s1 s2 (λ s t p. stays_sends s t p.0) c.lay.ensures.laid) in
    let visited = steps_trans (λ s t. Visits before behind s t × (t.under ≡ true → c.visit-began.new.self.count ≡ c.lay.new.self.tour.count + 1) × (t.under ≡ false → c.visit-began.new.self.count ≡ c.lay.new.self.tour.count)) (λ s t. SendsSame s t) (λ s t. Takes before behind (nat_lt old new) s t) place s2 s3 s4
    (λ s t u p k. takes_visit before behind (nat_lt old new) s t u (λ y. (let l = p.1 y in lt-ltb old new (omega (arith, l, was, is)))) (λ n. (let l = p.2 n in le-ltb old new (omega (arith, l, was, is)))) p.0 k)
    (steps_map _ _ place s2 s3 (λ s t p. (p.0, p.1.3, p.1.4)) (steps_both _ _ place s2 s3 v.room v.step)) c.came.ensures.sends in
    steps_trans (λ s t. StopRepeats s → StopRepeats t × (stop_len t ≡ stop_len s)) (λ s t. Takes before behind (nat_lt old new) s t) (λ s t. Takes before behind (nat_lt old new) s t) place s0 s2 s4 (λ s t u h k. takes_before before behind (nat_lt old new) s t u h k) looked visited

pub returns-then-not-fits-clause-lan : goal.returns-then-not-fits-clause-lan
returns-then-not-fits-clause-lan c = happens_none 1 _ _ refl

pub returns-clause-lan : goal.returns-clause-lan
returns-clause-lan c = happens_from 1 _ _ _ c.lay.ensures.lan c.came.ensures.lan

pub returns-then-not-fits-clause-made : goal.returns-then-not-fits-clause-made
returns-then-not-fits-clause-made c = makes_none _ _ refl

pub returns-clause-made : goal.returns-clause-made
returns-clause-made c = makes_then _ _ _ (makes_none _ _ c.lay.ensures.lan) c.came.ensures.made

pub returns-then-not-fits-clause-eager : goal.returns-then-not-fits-clause-eager
returns-then-not-fits-clause-eager c = λ under.
    let e = c.fits.ensures in
    let s0 = c.args.self.now.tour.stops.items in
    let s1 = c.fits.new.self.stops.items in
    steps_each _ (λ s t. StopGoes s t) c.args.place s0 s1 (λ s. (refl, λ h. h)) (λ s t p. (p.0.0, λ h u. absurd (true_false t.under u (p.0.1.3 ∙ p.1))))
    (steps_tested (λ s. s.under) false _ c.args.place s0 s1 under (steps_both _ _ c.args.place s0 s1 e.recalled e.lives))

pub returns-clause-eager : goal.returns-clause-eager
returns-clause-eager c = λ under.
    let e = c.fits.ensures in
    let v = c.visit-began.ensures in
    let place = c.args.place in
    let coming = c.coming-coming.result in
    let r = c.visit-began.result in
    let s0 = c.args.self.now.tour.stops.items in
    let s1 = c.fits.new.self.stops.items in
    let s2 = c.lay.new.self.tour.stops.items in
    let s3 = c.visit-began.new.self.stops.items in
    let s4 = c.came.new.self.tour.stops.items in
    let first_next = steps_map _ (λ s t. IsNextState (next_of t) coming) place s0 s1 (λ s t p. subst (λ (z : Scripted). IsNextState (slice_get z.script z.number) coming) (sym p.1.3) p.0) (steps_some (λ s. IsNextState (next_of s) coming) _ place s0 s1 e.step c.coming-coming.ensures.states) in
    let second_next = steps_mid (λ s t. IsNextState (next_of t) coming) _ (λ s t. IsNextState (next_of t) coming) place s0 s1 s2
    (λ r s t a b. subst (λ (z : Scripted). IsNextState (slice_get z.script z.number) coming) (sym (λ i. record { script = b.0.side.script i; number = b.0.side.number i })) a) first_next c.lay.ensures.laid in
    let began = subst (λ z. StepsAt (λ s t. Began r z s t) place s2 s3) c.wish_of-wish.ensures
    (steps_map _ (λ s t. Began r c.wish_of-wish.result s t) place s2 s3 (λ s t p. record { place = p.0.4; out = p.1.0.0.out_is; ready = p.1.1.0; script = p.1.1.1; unpassed = p.1.1.2 }) (steps_both _ _ place s2 s3 v.lives (steps_both _ _ place s2 s3 v.step v.began))) in
    let kept = Served.kept_by coming r place s2 s3 s4 (steps_mid (λ s t. IsNextState (next_of t) coming) _ _ place s1 s2 s3 (λ r s t a b. (a, b.script)) second_next began) c.came.ensures.came in
    let same = λ (s t : Stop InHand Impl.ghosts). recall_of t ≡ recall_of s in
    let first = steps_trans same same same place s0 s1 s2 (λ x y z a b. b ∙ a) e.recalled (steps_map _ same place s1 s2 (λ s t p. recall_kept _ s t p.0) c.lay.ensures.laid) in
    let second = steps_trans same _ (λ s t. StopGoes s t) place s0 s2 s3 (λ x y z a b. (b.0 ∙ a, λ h u. b.1)) first (steps_both _ _ place s2 s3 v.recalled v.takes) in
    each_trans (λ s t. StopGoes s t) s0 s3 s4 (λ x y z a b. (b.0 ∙ a.0, λ h. b.1 (a.1 h))) (steps_each _ (λ s t. StopGoes s t) place s0 s3 (λ s. (refl, λ h. h)) (λ s t p. p) second)
    (each_map _ (λ s t. StopGoes s t) s3 s4 (λ s t k. goes_kept k.number s t k.kept) kept)

pub returns-then-not-fits-clause-events : goal.returns-then-not-fits-clause-events
returns-then-not-fits-clause-events c = omega arith

pub returns-clause-events : goal.returns-clause-events
returns-clause-events c = let e = ap (λ z. z.count) c.lay.ensures.list in let f = c.came.ensures.events in omega (arith, e, f)

pub returns-then-not-fits-clause-serves : goal.returns-then-not-fits-clause-serves
returns-then-not-fits-clause-serves c = λ lens recover made from left next ws room few d at over fewer f.
    let m = c.args.self.now in
    let e = c.fits.ensures in
    let s0 = m.tour.stops.items in
    let s1 = c.fits.new.self.stops.items in
    let alike = steps_each _ (λ s t. Alike s t) c.args.place s0 s1 (λ s. alike_same s)
    (λ s t p. record { script = p.1.0.3; place = p.0.1; stand = p.1.0.1; passing = p.1.0.2; awaits = p.1.1.0.1; read = p.1.1.0.0; out = p.1.0.0.out_is; known = ap (λ z. z.knows) p.1.1.1 }) (steps_both _ _ c.args.place s0 s1 e.lives (steps_both _ _ c.args.place s0 s1 e.step (steps_both _ _ c.args.place s0 s1 e.read e.recalled))) in
    record {
      begun = f.begun;
      frame = subst (λ n. FrameMade (λ ds i a s. StopFills lens recover made f.begun (m.made % 256) left ds i a s) c.args.into.now.items n (map (λ w. lived_of (run_lead w)) ws) s1) (sym e.count)
          (e.made (speech_at lens) is_followed is_passed made recover (m.made % 256) m.tour.count lens left (map (λ w. lived_of (run_lead w)) ws) c.args.into.now.items f.begun d at f.frame);
      each = three_each (λ i w ks s. IsServing lens f.begun made left i w ks s) (λ i w ks s. IsServing lens f.begun made left i w ks s) (λ s t. Alike s t) (λ i w ks s t h k. serving_alike lens f.begun made left i w ks s t h k)
          0 ws (mails_in m) s0 s1 f.each alike;
      handed = three_each (λ i w p s. IsHanding lens f.begun w p.work (knows s.side.hand.course)) (λ i w p s. IsHanding lens f.begun w p.work (knows s.side.hand.course)) (λ s t. Alike s t)
          (λ i w p s t h k. subst (λ z. IsHanding lens f.begun w p.work z) (sym k.known) h) 0 ws m.posts.items s0 s1 f.handed alike;
      numbered = f.numbered;
      packets = f.packets;
      listing = listed_on (served_tells ws) from.forwards left f.begun (map run_lead ws) m _ refl refl f.listing;
      starts = record {
        visited = f.starts.visited;
        each = from_each (λ i w s. HasStarted lens m.lan f.starts.visited i (begun_for f.begun (map run_lead ws) i) w.lead w.waits s) (λ s t. (t.under ≡ s.under) × (recall_of t ≡ recall_of s))
            (λ i w s. HasStarted lens m.lan f.starts.visited i (begun_for f.begun (map run_lead ws) i) w.lead w.waits s)
            (λ i w s t p q. started_same lens m.lan f.starts.visited i (begun_for f.begun (map run_lead ws) i) w.lead w.waits s t q.0 q.1 p) 0 ws s0 s1 f.starts.each
            (steps_each _ (λ s t. (t.under ≡ s.under) × (recall_of t ≡ recall_of s)) c.args.place s0 s1 (λ s. (refl, refl)) (λ s t p. (p.0.3, p.1)) (steps_both _ _ c.args.place s0 s1 e.lives e.recalled));
      };
    }

pub returns-clause-serves : goal.returns-clause-serves
returns-clause-serves c =
    let fit : c.fits.result ≡ true = cc in
    λ lens recover made from left next ws room few d at over fewer f.
    let m = c.args.self.now in
    let e = c.fits.ensures in
    let v = c.visit-began.ensures in
    let place = c.args.place in
    let coming = c.coming-coming.result in
    let r = c.visit-began.result in
    let s0 = m.tour.stops.items in
    let s1 = c.fits.new.self.stops.items in
    let s2 = c.lay.new.self.tour.stops.items in
    let s3 = c.visit-began.new.self.stops.items in
    let s4 = c.came.new.self.tour.stops.items in
    let got = waits_in (mails_in m) place in
    let lives = map (λ w. lived_of (run_lead w)) ws in
    let index = m.made % 256 in
    let rooms : (s : Stop InHand Impl.ghosts) → s.side.out.len ≡ s.side.hand.laying.areas.out = λ s. s.side.room ∙ ap (λ z. z.out) (sym s.side.hand.one_slave) in
    let frees : (n : ℕ) (s t : Stop InHand Impl.ghosts) → StopKept n s t → is_free_side t.side ≡ is_free_side s.side = λ n s t k. Frees.free_kept n s t k in
    let alike = steps_each _ (λ s t. Alike s t) place s0 s1 (λ s. alike_same s)
    (λ s t p. record { script = p.1.0.3; place = p.0.1; stand = p.1.0.1; passing = p.1.0.2; awaits = p.1.1.0.1; read = p.1.1.0.0; out = p.1.0.0.out_is; known = ap (λ z. z.knows) p.1.1.1 }) (steps_both _ _ place s0 s1 e.lives (steps_both _ _ place s0 s1 e.step (steps_both _ _ place s0 s1 e.read e.recalled))) in
    let ahead = steps_map _ (λ s t. Served.Ahead coming t) place s0 s1
    (λ s t p. record {
      next = subst (λ z. IsNextState (slice_get z.script z.number) coming) (sym p.1.0.3) p.0.0;
      free = λ y. (p.1.0.1 ∙ (p.0.1 y).0, ap (λ z. is_free_side z) (p.1.1 (p.0.1 y).1 (ap is_some c.wish_of-wish.ensures ∙ Served.wish_some coming y)) ∙ (p.0.1 y).1);
    })
    (steps_some _ _ place s0 s1 (steps_both _ _ place s0 s1 e.step e.still) (Served.some_pair _ _ (slice_get s0 place) c.coming-coming.ensures.states c.coming-coming.ensures.free)) in
    let readied = steps_map _ (λ s t. Served.Readied coming got s t) place s1 s2 (λ s t p. record { stays = p.0.0; laid = p.0.1; mail = p.1 }) (steps_both _ _ place s1 s2 c.lay.ensures.laid c.lay.ensures.ready) in
    let visited = subst (λ z. StepsAt (λ s t. Served.Visited lens recover made z r s t) place s2 s3) c.wish_of-wish.ensures
    (steps_map _ (λ s t. Served.Visited lens recover made c.wish_of-wish.result r s t) place s2 s3
    (λ s t p. record {
      began = record { place = p.0.4; out = p.1.0.0.out_is; ready = p.1.1.0.0; script = p.1.1.0.1; unpassed = p.1.1.0.2 };
      did = p.1.1.1.0;
      stand = p.1.0.1;
      read = p.1.1.1.1.0;
      known = ap (λ z. z.knows) p.1.1.1.1.1.1;
      passes = λ spot l n planned waits shown stood begins y.
          let h = p.0.0 (speech_at lens spot) is_followed is_passed made recover spot lens l planned.out_is planned.back_is planned.stands waits shown in
          Served.passes_on (speech_at lens spot) made l n (wish_begun r c.wish_of-wish.result (ready_of s.side.hand.laying)) h.hold (awaits_reply t.side.hand.course t.side.hand.which t.side.hand.clients) t.stand t.side.passing h.took begins
          (p.1.1.1.1.1.0 (speech_at lens spot) made recover spot h.hold l shown stood h.took) y;
    })
    (steps_both _ _ place s2 s3 v.lives (steps_both _ _ place s2 s3 v.step (steps_both _ _ place s2 s3 v.began (steps_both _ _ place s2 s3 v.did (steps_both _ _ place s2 s3 v.read (steps_both _ _ place s2 s3 v.passing v.recalled))))))) in
    let came = c.came.ensures.came in
    let begun = Served.now lens recover made coming r place got s0 s1 s2 s3 s4 rooms frees ahead readied visited came f.begun in
    let same = ap (λ n. n % 256) (c.came.ensures.kept.0.made ∙ c.lay.ensures.kept.0.made) in
    let before = e.made (speech_at lens) is_followed is_passed made recover index m.tour.count lens left lives c.args.into.now.items f.begun d at f.frame in
    let visited_frame = Served.frame lens recover made coming r place got s0 s1 s2 s3 s4 rooms frees ahead readied visited came index f.begun left next lives c.args.into.now.items c.visit-began.new.frame.items m.tour.count c.lay.new.self.tour.count c.visit-began.new.self.count
    (c.lay.ensures.kept.0.count ∙ e.count) before
    (λ g. v.made (speech_at lens) is_followed is_passed made recover lens left next lives f.begun begun d at over fewer (subst (λ z. IfSome (slice_get s2 place) (λ s. ComesAt f.begun begun s.place (wish_begun r z (ready_of s.side.hand.laying)))) (sym c.wish_of-wish.ensures) (Served.comes lens recover made coming r place got s0 s1 s2 s3 s4 rooms frees ahead readied visited came f.begun)) g) in
    let made_frame = Served.frame_kept lens recover made coming r place got s0 s1 s2 s3 s4 rooms frees ahead readied visited came index f.begun next lives c.visit-began.new.frame.items c.visit-began.new.self.count visited_frame in
    let all = three_each (λ i w ks s. IsServing lens f.begun made left i w ks s) (λ i w ks s. IsServing lens f.begun made left i w ks s) (λ s t. Alike s t) (λ i w ks s t h k. serving_alike lens f.begun made left i w ks s t h k) 0 ws (mails_in m) s0 s1 f.each alike in
    let served = Served.serving lens recover made coming r place got s0 s1 s2 s3 s4 rooms frees ahead readied visited came f.begun index left next before.datagrams fewer c.coming-coming.ensures.oldest ws (mails_in m) (mails_in c.lay.new.self) at over d before.each all c.lay.ensures.mails refl in
    let handed = three_each (λ i w p s. IsHanding lens f.begun w p.work (knows s.side.hand.course)) (λ i w p s. IsHanding lens f.begun w p.work (knows s.side.hand.course)) (λ s t. Alike s t)
    (λ i w p s t h k. subst (λ z. IsHanding lens f.begun w p.work z) (sym k.known) h) 0 ws m.posts.items s0 s1 f.handed alike in
    let moved = steps_trans _ _ (λ p q. Served.Moved lens recover made coming r place got s0 s1 s2 s3 s4 rooms frees ahead readied visited came f.begun index left next before.datagrams fewer c.coming-coming.ensures.oldest p q) place m.posts.items c.lay.new.self.posts.items c.came.new.self.posts.items
    (λ p x q a b. record { mid = x; lays = a; works = b }) c.lay.ensures.works c.came.ensures.works in
    let goes = Served.all_go lens recover made coming r place got s0 s1 s2 s3 s4 rooms frees ahead readied visited came in
    let stands = Served.all_here lens recover made coming r place got s0 s1 s2 s3 s4 rooms frees ahead readied visited came in
    let here_is = Served.here lens recover made coming r place got s0 s1 s2 s3 s4 rooms frees ahead readied visited came in
    let what_is = Served.what lens recover made coming r place got s0 s1 s2 s3 s4 rooms frees ahead readied visited came in
    let apart = subst (λ z. AreDistinct z) (sym (map_map lived_of run_lead ws)) d in
    let told = told_visit lens recover made coming r place got (slice_get s2 place) here_is what_is (λ t z. ap (λ y. Served.came_of lens recover made coming r place got s0 s1 s2 s3 s4 rooms frees ahead readied visited came y) z) f.begun left c.coming-coming.ensures.oldest
    ws m.posts.items c.lay.new.self.posts.items s1 s2 s4 at all f.numbered refl goes stands c.lay.ensures.origins in
    record {
      begun = begun;
      frame = subst (λ n. FrameMade (λ ds i a s. StopFills lens recover made begun (c.came.new.self.made % 256) next ds i a s) c.visit-began.new.frame.items n lives s4) (sym c.came.ensures.kept.0.count)
          (subst (λ k. FrameMade (λ ds i a s. StopFills lens recover made begun k next ds i a s) c.visit-began.new.frame.items c.visit-began.new.self.count lives s4) (sym same) made_frame);
      each = subst (λ z. ThreeFrom (λ i w ks s. IsServing lens begun made next i w ks s) 0 ws z s4) (sym c.came.ensures.mails)
          served;
      handed = Served.handing lens recover made coming r place got s0 s1 s2 s3 s4 rooms frees ahead readied visited came f.begun index left next before.datagrams fewer c.coming-coming.ensures.oldest ws m.posts.items c.came.new.self.posts.items (mails_in c.lay.new.self)
          at d before.each all refl served moved handed;
      numbered = both_each _ _ (λ w p. IsNumbered (length w.asked) p) (λ w p q h k. k (length w.asked) h) ws m.posts.items c.came.new.self.posts.items f.numbered
          (each_trans (λ p q. StaysNumbered p q) m.posts.items c.lay.new.self.posts.items c.came.new.self.posts.items (λ p q u y z n h. z n (y n h)) (steps_each _ (λ p q. StaysNumbered p q) place m.posts.items c.lay.new.self.posts.items (λ p n h. h) (λ p q h. h.numbered) told.2)
          (steps_each _ (λ p q. StaysNumbered p q) place c.lay.new.self.posts.items c.came.new.self.posts.items (λ p n h. h) (λ p q h. h.numbered) c.came.ensures.lists));
      packets = begun_step from.switch left next f.begun (map run_lead ws) m.lan c.came.new.self.lan place here_is what_is (taken_where r m.lan place coming) apart told.0 room at over fewer
          (Served.leaves lens recover made coming r place got s0 s1 s2 s3 s4 rooms frees ahead readied visited came m.lan c.lay.ensures.oldest (mail_ready lens f.begun made left coming place ws (mails_in m) s1 s2 at all c.coming-coming.ensures.oldest readied))
          (subst (λ z. TakesOn (taken_where r z place coming) z c.came.new.self.lan) c.lay.ensures.lan c.came.ensures.takes) (subst (λ z. NoneMore z c.came.new.self.lan) c.lay.ensures.lan c.came.ensures.fewer)
          (Served.waits_none lens recover made coming r place got s0 s1 s2 s3 s4 rooms frees ahead readied visited came m.lan c.coming-coming.ensures.first) f.packets;
      listing = listed_step (served_tells ws) from.forwards left next f.begun (map run_lead ws) m c.came.new.self place here_is what_is apart told.0 at over fewer
          (listed_visit (served_tells ws) place (where_began r coming) what_is m _ c.came.new.self c.lay.ensures.list few told.1 c.came.ensures.lists) f.listing;
      starts = record {
        visited = place ∷ f.starts.visited;
        each =
            let l = m.lan in
            let l2 = c.came.new.self.lan in
            let past = f.starts.visited in
            let fewer_on = subst (λ z. NoneMore z l2) c.lay.ensures.lan c.came.ensures.fewer in
            let asks = steps_map _ (λ s t. Asks s t) place s0 s1
            (λ s t p. ((λ lens recover made a k h. p.0.0 (speech_at lens a.lived.spot) is_followed is_passed made recover a.lived.spot k h), p.1.0.2, p.1.0.0.out_is, ap (λ z. slice_get z.script z.number) p.1.0.3, p.1.1)) (steps_both _ _ place s0 s1 e.lives (steps_both _ _ place s0 s1 e.step e.recalled)) in
            let so = steps_some (λ s. ComesSo l place got coming s) (λ s t. Asks s t) place s0 s1 asks
            (some_so l place got coming (slice_get s0 place) c.coming-coming.ensures.first c.coming-coming.ensures.last c.coming-coming.ensures.none c.coming-coming.ensures.mails) in
            let mail = mail_ready lens f.begun made left coming place ws (mails_in m) s1 s2 at all c.coming-coming.ensures.oldest readied in
            let ready = steps_trans _ _ (λ s u. Readies lens recover made l place got coming s u) place s0 s1 s2 (λ s t u a b. readies lens recover made l place got coming s t u a.0 a.1 b.0.0.0 b.0.0.1 b.0.1 b.1) so
            (steps_both _ _ place s1 s2 (steps_both _ _ place s1 s2 c.lay.ensures.laid (c.lay.ensures.sure c.coming-coming.ensures.waits)) mail) in
            let begins = subst (λ z. StepsAt (λ s t. Begins s.stand r (knows s.side.hand.course) s.side.duty s.side.passing acknowledged (λ x d a. SideShows (Shows s.side.hand.course s.side.hand.which s.side.hand.clients x) s.side.out s.side.inn s.side.fresh s.side.duty d a) z (ready_of s.side.hand.laying)) place s2 s3) c.wish_of-wish.ensures v.begins in
            let seen_is = Served.what_seen lens recover made coming r place got s0 s1 s2 s3 s4 rooms frees ahead readied visited came in
            let left_none = leaves_all lens recover made l place got coming r what_is s0 s2 s3 rooms seen_is ready begins v.recalled in
            let wish = c.wish_of-wish.result in
            let octets = c.args.into.now.items in
            let roomed = steps_map _ (λ s t. Roomed octets wish s t × (t.stand ≡ s.stand)) place s0 s1
            (λ s t p. (record { free = λ w. p.0.0.0 (some_wish coming (sym (ap (λ z. is_some z) c.wish_of-wish.ensures) ∙ w)); fits = p.0.0.1; still = p.0.1 }, p.1.1))
            (steps_both _ _ place s0 s1 (steps_both _ _ place s0 s1 (steps_some (λ s. is_some coming ≡ true → (s.stand ≡ Stand.Open) × (is_free_side s.side ≡ true)) (λ s t. FitsFirst octets wish s) place s0 s1 (e.begins fit) c.coming-coming.ensures.free) e.still) e.step) in
            let room_kept = steps_trans _ _ (λ s u. Roomy octets wish s u) place s0 s1 s2 (λ s t u a b. roomy octets wish s t u a.1 a.0 b.0) roomed c.lay.ensures.laid in
            let lacking = steps_map _ (λ t u. Lacking octets wish r t u × (u.place ≡ t.place)) place s2 s3 (λ t u p. (record { lacks = p.0.0; takes = p.0.1; stand = p.1.1.0.1; recalled = p.1.1.1 }, p.1.0.4))
            (steps_both _ _ place s2 s3 (steps_both _ _ place s2 s3 v.lacks v.takes) (steps_both _ _ place s2 s3 v.lives (steps_both _ _ place s2 s3 v.step v.recalled))) in
            let went = subst (λ z. StepsAt (λ s u. Went octets z r (slice_get s2 place) s u) place s0 s3) c.wish_of-wish.ensures
            (steps_trans _ _ (λ s u. Went octets wish r (slice_get s2 place) s u) place s0 s2 s3 (λ s t u a b. record { between = t; is = b.0; roomed = a; lacking = b.1.0; place = b.1.1 }) room_kept (steps_got _ place s2 s3 lacking)) in
            let here_so = Served.now_here lens recover made coming r place got s0 s1 s2 s3 s4 rooms frees ahead readied visited came f.begun in
            let without_one = all_without lens recover made index octets (wish_of coming) r begun next visited_frame.datagrams place (slice_get s2 place) what_is seen_is here_so lives s0 s3 visited_frame.each went in
            serves_started lens recover made f.begun index left past f.frame.datagrams l l2 place here_is got what_is ws (mails_in m) s0 s3 s4 at fewer_on refl apart told.0 f.frame.each f.each f.starts.each left_none without_one
            (Served.kept lens recover made coming r place got s0 s1 s2 s3 s4 rooms frees ahead readied visited came);
      };
    }

pub returns-then-not-fits-clause-head : goal.returns-then-not-fits-clause-head
returns-then-not-fits-clause-head c = refl

pub returns-clause-head : goal.returns-clause-head
returns-clause-head c = c.came.ensures.head ∙ before_of_list _ _ c.lay.ensures.list

pub returns-then-not-fits-clause-answers : goal.returns-then-not-fits-clause-answers
returns-then-not-fits-clause-answers c = λ few base x. x

pub returns-clause-answers : goal.returns-clause-answers
returns-clause-answers c = λ few.
    let m = c.args.self.now in
    visit_answers c.args.place (where_began c.visit-began.result c.coming-coming.result) m _ c.came.new.self c.lay.ensures.list few
    (laid_answers c.coming-coming.result c.args.place m.posts.items c.lay.new.self.posts.items c.fits.new.self.stops.items c.lay.new.self.tour.stops.items c.lay.ensures.origins) c.came.ensures.lists
