use Rattle.std.proofs.Common.{◌≡◌, ◌≤◌, ◌∙◌, true, [], refl, sym, ap, subst, length, arith, ◌+◌, ◌%◌, ◌^◌, suc, ℕ, ◌++◌, take}
use Rattle.master_node.proofs.Begins.{has_none}
use Rattle.master_node.specs.Origins.{forwards_at}
use Rattle.master_node.proofs.Listing.{before_of_list, listed_whole, services_made, unlisted}
use Rattle.life_runs.specs.of_frame_view.Seen.{seen}
use Rattle.std.specs.List.{list_any}
use Rattle.life_runs.specs.of_master_tour.Goes.{is_live, holds_at}
use Rattle.master_node.proofs.Sents.{shows_same}
use Rattle.life_runs.specs.of_master_tour.Walks.{EachPair}
use Rattle.life_runs.proofs.of_master_tour.Walks.{each_same}
use Rattle.master_node.proofs.Asking.{all_ask}
use Rattle.master_node.proofs.OnFrames.{all_run, all_served}
use Rattle.master_node.specs.Serving.{run_lead, run_turn}
use Rattle.std.specs.Prelude.{map, nat_lt}
use Rattle.master_node.specs.Eager.{recall_of, recalls}
use Rattle.master_node.proofs.Eagers.{all_take, each_recalls}
use Rattle.master_node.proofs.Visitings.{all_asked, all_visit, sent_at}
use Rattle.master_node.proofs.Toureds.{turns_tour, tour_by}
use Rattle.master_node.specs.Shows.{is_live_lead, IsLead}
use Rattle.master_node.specs.Toured.{stop_share, tour_of}
use Rattle.life_runs.specs.of_master_tour.Toured.{IsOfTour}
use Rattle.life_runs.specs.of_master_tour.Sizes.{frame_size}
use Rattle.master_node.specs.Rooms.{area_at}
use Rattle.master_node.proofs.Happenings.{happens_so, happens_then}
use Rattle.master_node.proofs.Made.{makes_all, makes_then, makes_none}
use Rattle.master_node.specs.Happened.{NoneWaits}
use Rattle.master_node.proofs.Entering.{all_opened, first_more, rests_same}
use Rattle.master_node.proofs.Lists.{both_length}
use Rattle.master_node.proofs.Restings.{all_rest, all_still, rest_leads, serves_rest}
use Rattle.master_node.proofs.Serveds.{long_served}
use Rattle.std.proofs.Math.Nat.{mod-eq_of_lt}
use Rattle.master_node.proofs.ServedSents.{served_same}
use Rattle.master_node.proofs.ServedTells.{served_made}
use Rattle.master_node.specs.Listed.{listed, listed_last}
use Rattle.master_node.specs.Listing.{events_before, events_in}
use Rattle.master_node.specs.Answered.{AnswersBy, answer_at, answer_behind}
use Rattle.master_node.proofs.node.MasterNode.next.Goals as goal

pub returns-clause-begun : goal.returns-clause-begun
returns-clause-begun c = λ h lens recover retry missed number as' x.
    let live : c.has_live.result ≡ true = cc in
    let none = ap length c.begins.ensures.none in
    let admitted = c.admit.ensures.lan in
    let w = c.make.ensures.led lens recover retry missed number (record { switch = c.args.self.now.lan.switch; forwards = λ k. forwards_at c.args.self.now.posts.items k }) as' (omega (arith, admitted.few, none)) (c.admit.ensures.takes.takes _ [] (omega (arith, none)) (has_none _ _ c.begins.ensures.switch c.begins.ensures.none)) (unlisted (record c.args.self.now { list = c.clear.new.self; lan = c.begins.new.self }) c.admit.new.self c.clear.ensures.none c.clear.ensures.last c.admit.ensures.list c.admit.ensures.same.0) (subst (λ z. list_any (λ s. is_live s.stand) z.stops.items ≡ true) (sym c.admit.ensures.same.1) (sym c.has_live.ensures ∙ live)) (shows_same lens recover retry missed as' _ c.admit.new.self c.admit.ensures.same.1 c.admit.ensures.same.0 x) in
    (w.0, w.1, record { each = w.2.each; distinct = w.2.distinct; quiet = w.2.quiet; goes = w.2.goes; missed_is = w.2.missed_is; retry_is = w.2.retry_is; sent = w.2.sent; fits = w.2.fits }, w.3, services_made _ _ _ c.make.new.self _ c.made.ensures.last refl w.6, w.7, w.8)

pub returns-clause-led : goal.returns-clause-led
returns-clause-led c = λ h lens recover retry missed number as' x. (let w = returns-clause-begun c h lens recover retry missed number as' x in (w.0, w.1, w.2))

pub returns-then-not-has_live-clause-joins : goal.returns-then-not-has_live-clause-joins
returns-then-not-has_live-clause-joins c = each_same _ c.args.self.now.tour.stops.items (λ s. refl)

pub returns-clause-joins : goal.returns-clause-joins
returns-clause-joins c = subst (λ z. EachPair (λ s t. t.side.hand.found.join ≡ s.side.hand.found.join) z.stops.items c.make.new.self.tour.stops.items) c.admit.ensures.same.1 c.make.ensures.joins

pub returns-clause-toured : goal.returns-clause-toured
returns-clause-toured c = λ h lens recover retry missed as' us x y.
    let m = c.args.self.now in
    let n = c.admit.new.self in
    let live : c.has_live.result ≡ true = cc in
    let none = ap length c.begins.ensures.none in
    let admitted = c.admit.ensures.lan in
    let w = c.make.ensures.led lens recover retry missed 0 (record { switch = m.lan.switch; forwards = λ k. forwards_at m.posts.items k }) as' (omega (arith, admitted.few, none)) (c.admit.ensures.takes.takes _ [] (omega (arith, none)) (has_none _ _ c.begins.ensures.switch c.begins.ensures.none)) (unlisted (record c.args.self.now { list = c.clear.new.self; lan = c.begins.new.self }) c.admit.new.self c.clear.ensures.none c.clear.ensures.last c.admit.ensures.list c.admit.ensures.same.0) (subst (λ z. list_any (λ s. is_live s.stand) z.stops.items ≡ true) (sym c.admit.ensures.same.1) (sym c.has_live.ensures ∙ live)) (shows_same lens recover retry missed as' _ n c.admit.ensures.same.1 c.admit.ensures.same.0 x) in
    let same : tour_of n ≡ tour_of m = tour_by m n m.tour refl c.admit.ensures.same.1 in (
      w.4 ∙ same,
      turns_tour lens recover c.make.new.into.items (λ k. holds_at is_live_lead as' k) (frame_size c.make.new.into.items) (λ k. area_at lens as' k) (tour_of m) us c.make.new.self.tour.stops.items (length (seen lens c.make.new.into.items)) c.make.new.self.tour.visit.items (all_run lens recover c.make.new.into.items us c.make.new.self.tour.stops.items y.each)
          (subst (λ z. IsOfTour (λ s. stop_share s) (λ k. holds_at is_live_lead as' k) (frame_size c.make.new.into.items) (λ k. area_at lens as' k) z c.make.new.self.tour.stops.items (length (seen lens c.make.new.into.items)) c.make.new.self.tour.visit.items) same w.5),
    )

pub returns-clause-asks : goal.returns-clause-asks
returns-clause-asks c = λ h lens recover retry missed us y. all_ask lens recover c.make.new.into.items us c.make.new.self.tour.stops.items (all_run lens recover c.make.new.into.items us c.make.new.self.tour.stops.items y.each)

pub returns-clause-happened : goal.returns-clause-happened
returns-clause-happened c = happens_so 17 _ _ _ (omega arith) c.begins.ensures.so c.begins.ensures.none (happens_then 1 16 _ _ _ c.admit.ensures.lan c.make.ensures.lan)

pub returns-clause-made : goal.returns-clause-made
returns-clause-made c =
    let made = makes_then _ _ _ c.admit.ensures.made c.make.ensures.made in
    (made.ports ∙ c.begins.ensures.ports, makes_all _ _ c.begins.ensures.none made)

pub returns-then-not-has_live-clause-made : goal.returns-then-not-has_live-clause-made
returns-then-not-has_live-clause-made c = (c.begins.ensures.ports, makes_all c.begins.new.self c.begins.new.self c.begins.ensures.none (makes_none c.begins.new.self c.begins.new.self refl))

pub returns-clause-visits : goal.returns-clause-visits
returns-clause-visits c = λ h lens recover retry missed as' us x y.
    let m = c.args.self.now in
    let n = c.admit.new.self in
    let live : c.has_live.result ≡ true = cc in
    let none = ap length c.begins.ensures.none in
    let admitted = c.admit.ensures.lan in
    let w = c.make.ensures.led lens recover retry missed 0 (record { switch = m.lan.switch; forwards = λ k. forwards_at m.posts.items k }) as' (omega (arith, admitted.few, none)) (c.admit.ensures.takes.takes _ [] (omega (arith, none)) (has_none _ _ c.begins.ensures.switch c.begins.ensures.none)) (unlisted (record c.args.self.now { list = c.clear.new.self; lan = c.begins.new.self }) c.admit.new.self c.clear.ensures.none c.clear.ensures.last c.admit.ensures.list c.admit.ensures.same.0) (subst (λ z. list_any (λ s. is_live s.stand) z.stops.items ≡ true) (sym c.admit.ensures.same.1) (sym c.has_live.ensures ∙ live)) (shows_same lens recover retry missed as' _ n c.admit.ensures.same.1 c.admit.ensures.same.0 x) in
    let octets = c.make.new.into.items in
    let stops = c.make.new.self.tour.stops.items in
    all_visit lens recover octets (seen lens octets) us stops (recalls c.make.new.self) y.each (all_asked lens recover octets us stops (sent_at _ _ _ _ stops _ _ w.5 y.fits.fit) (all_run lens recover octets us stops y.each))

pub returns-clause-takes : goal.returns-clause-takes
returns-clause-takes c = λ h lens recover retry missed as' us x y.
    let n = c.admit.new.self in
    let z = shows_same lens recover retry missed as' _ n c.admit.ensures.same.1 c.admit.ensures.same.0 x in
    all_take lens recover c.make.new.into.items us n.tour.stops.items c.make.new.self.tour.stops.items (c.make.ensures.eager as' z.goes z.again) (all_run lens recover c.make.new.into.items us c.make.new.self.tour.stops.items y.each)

pub returns-clause-recalled : goal.returns-clause-recalled
returns-clause-recalled c = λ h lens recover retry missed as' x.
    let n = c.admit.new.self in
    let z = shows_same lens recover retry missed as' _ n c.admit.ensures.same.1 c.admit.ensures.same.0 x in
    each_recalls n.tour.stops.items c.make.new.self.tour.stops.items (c.make.ensures.eager as' z.goes z.again)
    ∙ ap (λ z. map (λ s. recall_of s) z.stops.items) c.admit.ensures.same.1

pub returns-clause-enters : goal.returns-clause-enters
returns-clause-enters c = λ h lens recover retry missed as' x rests may.
    let m = c.args.self.now in
    let l = c.begins.new.self in
    let e = c.begins.ensures in
    let many = both_length (λ a s. IsLead lens recover a s) as' m.tour.stops.items x.each in
    let entered = c.admit.ensures.enters
    (record {
      opened = subst (λ n. n ≤ m.tour.opened) many (all_opened lens m.lan _ as' m.tour.opened rests x.goes.ahead);
      rest = λ k. rests_same m.lan l e.switch e.ports k _ (all_rest lens recover m.lan as' m.tour.stops.items x.each rests k);
    })
    (record { left = (λ i. nat_lt (e.host.1 i) (length (e.host.0 i))) ∙ may.left; quiet = subst (λ s. NoneWaits s) (sym e.switch) may.quiet })
    e.none in
    first_more _ _ c.make.ensures.made.more.0 entered c.make.ensures.made.more.1

pub returns-clause-services : goal.returns-clause-services
returns-clause-services c = λ h lens recover retry missed made ws small x.
    let m = c.args.self.now in
    let live : c.has_live.result ≡ true = cc in
    let same = c.admit.ensures.same in
    let none = ap length c.begins.ensures.none in
    let admitted = c.admit.ensures.lan in
    let w = c.make.ensures.serves lens recover retry missed made (record { switch = m.lan.switch; forwards = λ k. forwards_at m.posts.items k }) ws (subst (λ z. list_any (λ s. is_live s.stand) z.stops.items ≡ true) (sym same.1) (sym c.has_live.ensures ∙ live)) small
    (omega (arith, admitted.few, none)) (c.admit.ensures.takes.takes _ [] (omega (arith, none)) (has_none _ _ c.begins.ensures.switch c.begins.ensures.none))
    (unlisted (record m { list = c.clear.new.self; lan = c.begins.new.self }) c.admit.new.self c.clear.ensures.none c.clear.ensures.last c.admit.ensures.list c.admit.ensures.same.0)
    (served_same lens recover retry missed made ws m c.admit.new.self same.1 same.0 c.admit.ensures.number x) in
    let u = w.2 in
    let is : c.make.new.self.made ≡ made = w.3 in
    let more : (c.make.new.self.made + 1) % 2 ^ 32 ≡ suc made = ap (λ z. (z + 1) % 2 ^ 32) is ∙ mod-eq_of_lt (omega (arith, small)) ∙ (let n : made + 1 ≡ suc made = omega arith in n) in (
      w.0,
      w.1,
      record { each = u.each; distinct = u.distinct; goes = u.goes; missed_is = u.missed_is; retry_is = u.retry_is; sent = u.sent; fits = u.fits; carried = u.carried; made_is = more; early = u.early; numbered = u.numbered },
      served_made _ _ _ c.make.new.self _ c.made.ensures.last refl w.4,
      (let toured : tour_of c.admit.new.self ≡ tour_of m = tour_by m c.admit.new.self m.tour refl same.1 in
          let octets = c.make.new.into.items in
          let as' = map run_lead ws in
          let us = map run_turn w.0 in
          let stops = c.make.new.self.tour.stops.items in
          let visit = c.make.new.self.tour.visit.items in
          let many = length (seen lens octets) in
          let each = all_served lens recover octets made w.0 c.make.new.self.posts.items stops u.each in
          let stands = served_same lens recover retry missed made ws m c.admit.new.self same.1 same.0 c.admit.ensures.number x in
          let eager = c.make.ensures.eager as' stands.goes stands.again in
          record {
            tour = w.5 ∙ toured;
            visits = turns_tour lens recover octets (λ k. holds_at is_live_lead as' k) (frame_size octets) (λ k. area_at lens as' k) (tour_of m) us stops many visit each
                (subst (λ z. IsOfTour (λ s. stop_share s) (λ k. holds_at is_live_lead as' k) (frame_size octets) (λ k. area_at lens as' k) z stops many visit) toured w.9);
            asks = all_ask lens recover octets us stops each;
            packets = w.6;
            takes = all_take lens recover octets us c.admit.new.self.tour.stops.items stops eager each;
            recalled = each_recalls c.admit.new.self.tour.stops.items stops eager ∙ ap (λ z. map (λ s. recall_of s) z.stops.items) same.1;
            asked = all_asked lens recover octets us stops (sent_at _ _ _ _ stops _ _ w.9 u.fits.fit) each;
            begins = w.7;
            unvisited = w.8;
            still = all_still lens recover made ws m.posts.items m.tour.stops.items x.each;
            enters = λ rests may.
                let l = c.begins.new.self in
                let e = c.begins.ensures in
                let length_is = sym (long_served lens recover retry made ws m.posts.items m.tour.stops.items x.each) in
                let entered = c.admit.ensures.enters
                (record {
                  opened = subst (λ n. n ≤ m.tour.opened) length_is (all_opened lens m.lan _ as' m.tour.opened (rest_leads lens m.lan 0 (recalls m) ws rests) x.goes.ahead);
                  rest = λ k. rests_same m.lan l e.switch e.ports k _ (serves_rest lens recover m.lan made ws m.posts.items m.tour.stops.items x.each rests k);
                })
                (record { left = (λ i. nat_lt (e.host.1 i) (length (e.host.0 i))) ∙ may.left; quiet = subst (λ s. NoneWaits s) (sym e.switch) may.quiet })
                e.none in
                first_more _ _ c.make.ensures.made.more.0 entered c.make.ensures.made.more.1;
          }),
    )

pub returns-then-not-has_live-clause-whole : goal.returns-then-not-has_live-clause-whole
returns-then-not-has_live-clause-whole c =
    let few = c.clear.new.self.made_before in
    let none = c.clear.ensures.none in
    let zero_before : c.clear.new.self.before ≡ 0 = omega (arith, few, none) in
    (c.clear.ensures.all ∙ sym c.clear.ensures.last, ap (λ (n : ℕ). take n c.clear.new.self.rows.items) zero_before ∙ sym c.clear.ensures.last)

pub returns-clause-whole : goal.returns-clause-whole
returns-clause-whole c =
    let n = c.make.new.self in
    let l = c.made.new.self in
    let none : events_before n ≡ [] = c.make.ensures.head ∙ before_of_list _ _ c.admit.ensures.list ∙ c.clear.ensures.before in
    let all : listed n.list.rows.items n.list.count ≡ events_in n = listed_whole n ∙ ap (λ z. z ++ events_in n) none in
    let same : listed l.rows.items l.count ≡ listed_last l.rows.items l.first l.count = c.made.ensures.all ∙ all ∙ sym c.made.ensures.last in
    (same, ap (λ (k : ℕ). take k l.rows.items) (c.made.ensures.before ∙ sym c.made.ensures.rows.1) ∙ same)

pub returns-then-not-has_live-clause-answers : goal.returns-then-not-has_live-clause-answers
returns-then-not-has_live-clause-answers c = λ k. ap (λ z. answer_behind k z (answer_at c.args.self.now.posts.items k)) (sym c.clear.ensures.last)

pub returns-clause-answers : goal.returns-clause-answers
returns-clause-answers c = λ k.
    let m = c.args.self.now in
    let n = c.admit.new.self in
    let base = λ (j : ℕ). answer_at m.posts.items j in
    let u = unlisted (record m { list = c.clear.new.self; lan = c.begins.new.self }) n c.clear.ensures.none c.clear.ensures.last c.admit.ensures.list c.admit.ensures.same.0 in
    let none = u.few in
    let first : AnswersBy base n = λ j. ap (λ z. answer_at z.items j) c.admit.ensures.same.0 ∙ ap (λ z. answer_behind j z (base j)) (sym u.none) in
    c.make.ensures.answers (omega (arith, none)) base first k ∙ ap (λ z. answer_behind k z (base k)) (sym c.made.ensures.last)
