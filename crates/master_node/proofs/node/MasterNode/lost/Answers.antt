use Rattle.std.proofs.Common.{◌≡◌, ◌≤◌, ◌+◌, Bool, [], refl, sym, ap, ◌∙◌, arith, length, subst, None, ℕ, suc, ◌++◌}
use Rattle.std.specs.Prelude.{map, not, nat_lt, if◌then◌else◌, ◌&&◌}
use Rattle.life_runs.specs.Led.{speech_at, gives_up_at, led_behind}
use Rattle.life_runs.specs.of_master_tour.Orders.{last_behind}
use Rattle.master_node.specs.Shows.{is_opening_lead, turned_of, IsOnFrame, IsUnder, is_led, is_live_turn, is_live_lead, side_shows, GoesOn}
use Rattle.master_node.proofs.Toureds.{lost_same}
use Rattle.master_node.proofs.Behinds.{opens_behind, behind_long, life_lost_is, lead_behind, all_led, goes_lost, behind_shows, missed_is}
use Rattle.life_runs.specs.of_master_hand.Spoken.{Asked, acknowledged, is_followed, is_passed}
use Rattle.life_runs.specs.of_master_tour.Goes.{is_opened, opened_behind, is_live, holds_at}
use Rattle.master_node.proofs.Lists.{both_map, each_length}
use Rattle.life_runs.specs.of_frame_view.Seen.{seen}
use Rattle.life_runs.specs.of_frame_view.Shares.{Lived, AllThree}
use Rattle.life_runs.specs.of_master_duty.Reply.{Reply}
use Rattle.life_runs.specs.of_master_hand.Joins.{unfinished_behind}
use Rattle.life_runs.specs.of_master_tour.Joins.{join_at}
use Rattle.master_node.specs.Joined.{IsUnfinished, stand_before, stand_under, mails_lost, unfinished_after}
use Rattle.master_node.proofs.ServedJoins.{holds_map, lost_life, on_frame, served_after}
use Rattle.master_node.proofs.ServedSents.{map_map}
use Rattle.life_runs.specs.of_link_mails.Body.{Body}
use Rattle.life_runs.specs.of_life_model.Lives.{Life}
use Rattle.master_node.proofs.Joineds.{lost_unfinished, three_on, three_kept, three_of, three_after, unfinished_kept, pair_both}
use Rattle.master_node.specs.Rooms.{FitAgain}
use Rattle.master_node.proofs.Fits.{again_lost}
use Rattle.master_node.proofs.Happenings.{happens_so}
use Rattle.master_node.specs.Downs.{downs_in, gives_at, goes_down, is_given_up}
use Rattle.master_node.proofs.Downs.{lists_all, lists_as, downs_few, downs_same, goes_at, gone_is, live_is, under_live, both_true, given_is}
use Rattle.master_node.proofs.OnFrames.{all_run}
use Rattle.master_node.proofs.Recalled.{recalls_lost, recalls_run}
use Rattle.master_node.specs.Eager.{recalls}
use Rattle.life_runs.proofs.Lives.{stands_kept}
use Rattle.life_runs.specs.of_master_tour.Stands.{StandShows}
use Rattle.life_runs.specs.Served.{served_behind}
use Rattle.master_node.specs.Serving.{IsServed, IsServedUnder, mails_in, run_lead, run_turn}
use Rattle.master_node.proofs.Serveds.{distinct_served, long_served, opens_served, three_both}
use Rattle.life_runs.specs.of_master_tour.Made.{is_in}
use Rattle.master_node.specs.Dropped.{gave_at}
use Rattle.master_node.specs.Passes.{waits_in}
use Rattle.master_node.proofs.ServedLosts as Losts
use Rattle.master_node.specs.Handed.{work_at}
use Rattle.master_node.proofs.Numbereds.{numbers_behind}
use Rattle.life_runs.specs.of_master_side.Passing.{news_lost}
use Rattle.master_node.specs.Besides.{given_at, given_told}
use Rattle.master_node.specs.Lifetold.{lost_at}
use Rattle.master_node.proofs.Listing.{listed_whole, told_same}
use Rattle.master_node.proofs.Turneds.{lost_turned, turned_all}
use Rattle.master_node.specs.Listing.{events_in, told_in}
use Rattle.master_node.proofs.ToldFew.{just_told, given_few, told_one}
use Rattle.master_node.specs.Answered.{answer_at, answer_behind}
use Rattle.master_node.proofs.node.MasterNode.lost.Goals as goal

pub returns-clause-leads : goal.returns-clause-leads
returns-clause-leads c = λ lens recover retry missed number after octets us f p b u.
    let m = c.args.self.now in
    let t = c.lost.new.self in
    let gives = not (nat_lt missed retry) in
    let comes : nat_lt m.tour.missed m.tour.retry ≡ nat_lt missed retry = λ i. nat_lt (u.missed_is i) (u.retry_is i) in
    let three = c.lost.ensures.shown lens octets (λ spot. speech_at lens spot) is_followed is_passed number recover (map turned_of us)
    (both_map turned_of _ _ (λ v s i. (i.lead.lives, i.way)) us m.tour.stops.items u.each) in
    let leads = all_led lens recover retry gives number f octets _ _ us m.tour.stops.items t.stops.items u.each three c.lost.ensures.stays
    (λ v s w i k e. lead_behind lens recover retry gives number f octets v s w _ i (k []) (life_lost_is lens recover retry gives (not (nat_lt m.tour.missed m.tour.retry)) number f octets after v s p b (ap not (sym comes)) i) e.0 e.1) in
    behind_shows lens recover retry gives number f _ _ _ us c.all_given_up.ensures.kept leads u.distinct u.quiet
    (goes_lost lens recover retry number f after (nat_lt missed retry) t.again m.tour.visit.items t.visit.items m.tour.opened t.opened us t.stops.items p (c.lost.ensures.tour.1 ∙ comes) (ap (λ z. z.items) c.lost.ensures.tour.0)
    (c.lost.ensures.opened ∙ ap (λ (z : Bool). if z then m.tour.opened else opened_behind (λ s. is_opened s.stand) m.tour.opened t.stops.items) comes) leads u.goes)
    (c.lost.ensures.tour.2 ∙ missed_is lens recover retry f after missed m.tour.missed m.tour.retry p u.missed_is u.retry_is) (c.lost.ensures.tour.3 ∙ u.retry_is)
    (λ e. subst (λ z. FitAgain z.items t.stops.items) (sym c.lost.ensures.tour.0) (again_lost _ (λ s w h. h (sym c.lost.ensures.tour.1 ∙ e)) m.tour.stops.items t.stops.items m.tour.visit.items c.lost.ensures.again u.fits))

pub returns-clause-joined : goal.returns-clause-joined
returns-clause-joined c = λ lens recover retry missed number after octets us befores f p b u h.
    let m = c.args.self.now in
    let ss = m.tour.stops.items in
    let ts = c.lost.new.self.stops.items in
    let zs = c.all_given_up.new.self.tour.stops.items in
    let gives = not (nat_lt missed retry) in
    let given = not (nat_lt m.tour.missed m.tour.retry) in
    let comes : nat_lt m.tour.missed m.tour.retry ≡ nat_lt missed retry = λ i. nat_lt (u.missed_is i) (u.retry_is i) in
    let there = three_on (λ v s. IsUnder lens recover octets v s) (λ v j s. IsUnfinished (stand_under v) s.side.hand.found.join j) _
    (λ v j t. IsUnfinished (stand_before (led_behind lens recover retry gives number f v)) t.side.hand.found.join (join_at None unfinished_behind (stand_under v) j []))
    (λ v j s t i w q.
    let l = v.lived.life in
    let spot = v.lived.spot in
    subst (λ (a : Lived Asked Reply). IsUnfinished a.life.stand t.side.hand.found.join (join_at None unfinished_behind l.stand j [])) (life_lost_is lens recover retry gives given number f octets after v s p b (ap not (sym comes)) i)
    (lost_unfinished (speech_at lens spot) acknowledged is_followed is_passed recover number spot [] (seen lens octets) (given && s.under) l t.side.hand.found.join s.side.hand.found.join j w q))
    us befores ss ts u.each (three_of stand_under (λ z j s. IsUnfinished z s.side.hand.found.join j) us befores ss h) c.lost.ensures.join in
    three_after stand_before (led_behind lens recover retry gives number f) mails_lost (λ z j s. IsUnfinished z s.side.hand.found.join j) us befores zs
    (three_kept _ _ (λ v j s t x k. unfinished_kept (stand_before (led_behind lens recover retry gives number f v)) (join_at None unfinished_behind (stand_under v) j []) s t x k) us befores ts zs there c.all_given_up.ensures.kept.each)

pub returns-clause-toured : goal.returns-clause-toured
returns-clause-toured c = λ lens recover as' h.
    let m = c.args.self.now in
    let n = c.all_given_up.new.self in
    let k = c.all_given_up.ensures.kept in
    let e = c.lost.ensures in
    let ts = c.lost.new.self.stops.items in
    let long = each_length _ m.tour.stops.items ts e.stays ∙ behind_long lens recover as' ts n.tour.stops.items k.each h in
    let comes = nat_lt m.tour.missed m.tour.retry in
    lost_same is_opening_lead m.tour.retry as' m n (ap (λ z. z.items) (k.tour.visit ∙ e.tour.0)) (k.tour.again ∙ e.tour.1) (k.tour.missed ∙ e.tour.2)
    (k.tour.opened ∙ e.opened ∙ ap (λ z. if comes then m.tour.opened else z) (opens_behind lens recover as' m.tour.opened ts n.tour.stops.items k.each h))
    (k.tour.last ∙ e.last ∙ ap (λ z. if comes then m.tour.last else last_behind m.tour.opened z m.tour.last m.tour.visit.items) long)

pub returns-clause-joins : goal.returns-clause-joins
returns-clause-joins c = λ lens recover retry missed made after octets vs befores f p b u h.
    let m = c.args.self.now in
    let ss = m.tour.stops.items in
    let ts = c.lost.new.self.stops.items in
    let zs = c.all_given_up.new.self.tour.stops.items in
    let gives = not (nat_lt missed retry) in
    let given = not (nat_lt m.tour.missed m.tour.retry) in
    let same : gives ≡ given = λ i. not (nat_lt (sym u.missed_is i) (sym u.retry_is i)) in
    let behind = served_behind lens recover retry gives made f in
    let there = three_on (λ v s. IsOnFrame lens recover octets (run_turn v) s) (λ v j s. IsUnfinished (stand_under (run_turn v)) s.side.hand.found.join j) _
    (λ v j t. IsUnfinished (stand_before (run_lead (behind v))) t.side.hand.found.join (join_at None unfinished_behind (stand_under (run_turn v)) j []))
    (λ v j s t i w q.
    let l = v.turn.lived.life in
    let spot = v.turn.lived.spot in
    subst (λ (a : Life Body Asked Reply). IsUnfinished a.stand t.side.hand.found.join (join_at None unfinished_behind l.stand j [])) (lost_life lens recover retry gives made f octets given after v s p b same i)
    (lost_unfinished (speech_at lens spot) acknowledged is_followed is_passed recover made spot (news_lost spot.station v.kept (seen lens octets)) (seen lens octets) (given && s.under) l t.side.hand.found.join s.side.hand.found.join j w q))
    vs befores ss ts (on_frame lens recover retry gives made f octets vs m.posts.items ss u.each)
    (three_of (λ v. stand_under (run_turn v)) (λ z j s. IsUnfinished z s.side.hand.found.join j) vs befores ss (subst (λ z. AllThree (λ y j s. IsUnfinished y s.side.hand.found.join j) z befores ss) (map_map stand_under run_turn vs) h)) c.lost.ensures.join in
    subst (λ z. AllThree (λ y j s. IsUnfinished y s.side.hand.found.join j) (map stand_before z) (unfinished_after mails_lost (map run_turn vs) befores) zs) (sym (map_map run_lead behind vs))
    (served_after stand_before (λ v. run_lead (behind v)) mails_lost (λ z j s. IsUnfinished z s.side.hand.found.join j) vs befores zs
    (three_kept _ _ (λ v j s t x k. unfinished_kept (stand_before (run_lead (behind v))) (join_at None unfinished_behind (stand_under (run_turn v)) j []) s t x k) vs befores ts zs there c.all_given_up.ensures.kept.each))

pub returns-clause-leaves : goal.returns-clause-leaves
returns-clause-leaves c = λ lens recover retry missed made after octets vs f p b u.
    let m = c.args.self.now in
    let ss = m.tour.stops.items in
    let ts = c.lost.new.self.stops.items in
    let gives = not (nat_lt missed retry) in
    let given = not (nat_lt m.tour.missed m.tour.retry) in
    let same : gives ≡ given = λ i. not (nat_lt (sym u.missed_is i) (sym u.retry_is i)) in
    let behind = served_behind lens recover retry gives made f in
    let us = map run_turn vs in
    let as' = map run_lead (map behind vs) in
    let goes = goes_at (λ v s. IsOnFrame lens recover octets (run_turn v) s) _ (λ v. run_lead (behind v)) (λ v. is_live_turn (run_turn v)) is_live_lead (λ t. is_given_up t.news) (λ t. not (is_live t.stand))
    (λ v s t i q.
    let l = v.turn.lived.life in
    let spot = v.turn.lived.spot in
    let x = speech_at lens spot in
    let news = news_lost spot.station v.kept (seen lens octets) in
    let follows = q.0 x is_followed is_passed made recover spot news l i.lives.planned.stands i.way i.lives.shown in
    subst (λ (a : Life Body Asked Reply). (is_given_up t.news && not (is_live t.stand)) ≡ (is_led l.stand && not (is_led a.stand))) (lost_life lens recover retry gives made f octets given after v s p b same i)
    (gone_is x recover made spot news (seen lens octets) (given && s.under) l t.news (is_live t.stand)
    (λ e. under_live _ spot lens s.side.station s.at s.under s.side.carried s.stand l (seen lens octets) i.lives.shown.stood i.way (both_true given s.under e))
    follows.told (live_is _ spot t.stand _ follows.shown.stood)))
    vs ss ts (on_frame lens recover retry gives made f octets vs m.posts.items ss u.each) (c.lost.ensures.lives lens octets) in
    let ports = c.begins.ensures.ports in
    let visit = c.lost.ensures.tour.0 in
    let listed = c.all_given_up.ensures.listed in
    let down = λ (k : ℕ). goes_down us as' k in
    let turned = λ (k : ℕ). goes k ∙ (λ i. sym (holds_map is_live_turn run_turn vs k) i && not (holds_at is_live_lead (sym (map_map run_lead behind vs) i) k)) in
    let all : downs_in c.begins.new.self.ports.items (λ k. gives_at ts k) c.lost.new.self.visit.items ≡ downs_in m.lan.ports.items down m.tour.visit.items =
    (λ i. downs_in (ports i).items (λ k. gives_at ts k) (visit i).items) ∙ downs_same m.lan.ports.items (λ k. gives_at ts k) down turned m.tour.visit.items in
    record {
      ports = listed.ports ∙ ports;
      events = lists_all _ _ _ (omega (arith, downs_few m.lan.ports.items down m.tour.visit.items, u.fits.few)) c.begins.ensures.none (lists_as _ _ _ _ (sym all) listed);
    }

pub returns-clause-happened : goal.returns-clause-happened
returns-clause-happened c = happens_so 16 _ _ _ (omega arith) c.begins.ensures.so c.begins.ensures.none c.all_given_up.ensures.lan

pub returns-clause-downs : goal.returns-clause-downs
returns-clause-downs c = λ lens recover retry missed number after octets us f p b u.
    let m = c.args.self.now in
    let ss = m.tour.stops.items in
    let ts = c.lost.new.self.stops.items in
    let gives = not (nat_lt missed retry) in
    let given = not (nat_lt m.tour.missed m.tour.retry) in
    let comes : nat_lt m.tour.missed m.tour.retry ≡ nat_lt missed retry = λ i. nat_lt (u.missed_is i) (u.retry_is i) in
    let on = led_behind lens recover retry gives number f in
    let goes = goes_at (λ v s. IsUnder lens recover octets v s) _ on is_live_turn is_live_lead (λ t. is_given_up t.news) (λ t. not (is_live t.stand))
    (λ v s t i q.
    let l = v.lived.life in
    let spot = v.lived.spot in
    let x = speech_at lens spot in
    let follows = q.0 x is_followed is_passed number recover spot [] l i.lead.lives.planned.stands i.way i.lead.lives.shown in
    subst (λ (a : Lived Asked Reply). (is_given_up t.news && not (is_live t.stand)) ≡ (is_led l.stand && not (is_led a.life.stand))) (life_lost_is lens recover retry gives given number f octets after v s p b (ap not (sym comes)) i)
    (gone_is x recover number spot [] (seen lens octets) (given && s.under) l t.news (is_live t.stand)
    (λ e. under_live _ spot lens s.side.station s.at s.under s.side.carried s.stand l (seen lens octets) i.lead.lives.shown.stood i.way (both_true given s.under e))
    follows.told (live_is _ spot t.stand _ follows.shown.stood)))
    us ss ts u.each (c.lost.ensures.lives lens octets) in
    let ports = c.begins.ensures.ports in
    let visit = c.lost.ensures.tour.0 in
    let listed = c.all_given_up.ensures.listed in
    let down = λ (k : ℕ). goes_down us (map on us) k in
    let same : downs_in c.begins.new.self.ports.items (λ k. gives_at ts k) c.lost.new.self.visit.items ≡ downs_in m.lan.ports.items down m.tour.visit.items =
    (λ i. downs_in (ports i).items (λ k. gives_at ts k) (visit i).items) ∙ downs_same m.lan.ports.items (λ k. gives_at ts k) down goes m.tour.visit.items in
    record {
      ports = listed.ports ∙ ports;
      events = lists_all _ _ _ (omega (arith, downs_few m.lan.ports.items down m.tour.visit.items, u.fits.few)) c.begins.ensures.none (lists_as _ _ _ _ (sym same) listed);
    }

pub returns-clause-recalls : goal.returns-clause-recalls
returns-clause-recalls c = λ lens recover retry missed octets us u.
    let m = c.args.self.now in
    let gives = not (nat_lt m.tour.missed m.tour.retry) in
    recalls_run lens recover octets [] us m.tour.stops.items (recalls m) (recalls c.all_given_up.new.self) u.each
    (recalls_lost (λ v. v) (λ v. None) lens recover octets gives us m.tour.stops.items c.lost.new.self.stops.items c.all_given_up.new.self.tour.stops.items (all_run lens recover octets us m.tour.stops.items u.each) c.lost.ensures.recalled c.all_given_up.ensures.kept.each)

pub returns-clause-remembers : goal.returns-clause-remembers
returns-clause-remembers c = λ lens recover retry missed made octets vs f u.
    let m = c.args.self.now in
    let gives = gives_up_at lens recover retry missed in
    recalls_lost run_turn (λ v. (served_behind lens recover retry gives made f v).lead.lived.life.era.passing) lens recover octets (not (nat_lt m.tour.missed m.tour.retry)) vs m.tour.stops.items c.lost.new.self.stops.items c.all_given_up.new.self.tour.stops.items
    (on_frame lens recover retry gives made f octets vs m.posts.items m.tour.stops.items u.each) c.lost.ensures.recalled c.all_given_up.ensures.kept.each

pub returns-clause-served : goal.returns-clause-served
returns-clause-served c = λ lens recover retry missed made after octets vs f p b u.
    let m = c.args.self.now in
    let n = c.all_given_up.new.self in
    let t1 = c.lost.new.self in
    let e = c.lost.ensures in
    let k = c.all_given_up.ensures in
    let ss = m.tour.stops.items in
    let ts = t1.stops.items in
    let gives = not (nat_lt missed retry) in
    let given = not (nat_lt m.tour.missed m.tour.retry) in
    let comes : nat_lt m.tour.missed m.tour.retry ≡ nat_lt missed retry = λ i. nat_lt (u.missed_is i) (u.retry_is i) in
    let three = e.shown lens octets (λ spot. speech_at lens spot) is_followed is_passed made recover (map (λ v. v.turn.lived) vs) (three_both _ _ (λ v. v.turn.lived) (λ v x s i. (i.served.lives, i.way)) vs m.posts.items ss u.each) in
    let toured = pair_both _ _ ss ts e.stays (pair_both _ _ ss ts (e.passing lens octets) (pair_both _ _ ss ts e.counts (pair_both _ _ ss ts e.pace e.recalled))) in
    let gave = Losts.gave_all (λ v q s. IsServedUnder lens recover octets made v q s) _ (λ t. is_given_up t.news) (λ s. s.under) given
    (λ v q s t i y.
    let l = v.turn.lived.life in
    let spot = v.turn.lived.spot in
    let follows = y.0 (speech_at lens spot) is_followed is_passed made recover spot [] l i.served.lives.planned.stands i.way i.served.lives.shown in
    given_is (speech_at lens spot) recover made spot [] (seen lens octets) (given && s.under) l t.news follows.told) vs m.posts.items ss ts u.each (e.lives lens octets) in
    let drops = k.mails in
    let waits = λ (j : ℕ). drops.each j ∙ Losts.waits_lost given (gave_at ts j) (is_in j t1.visit.items) (holds_at (λ s. s.under) ss j) (waits_in (mails_in m) j) (gave j) (λ y. ap (λ z. is_in j z.items) e.tour.0 ∙ u.carried j y) in
    let works = λ (j : ℕ). k.works.each j ∙ Losts.works_lost given (gave_at ts j) (is_in j t1.visit.items) (holds_at (λ s. s.under) ss j) (work_at m.posts.items j) (gave j) (λ y. ap (λ z. is_in j z.items) e.tour.0 ∙ u.carried j y) in
    let each = Losts.all_lost lens recover retry gives made f octets after p b given _ _ vs m.posts.items n.posts.items ss ts u.each drops.long waits works three toured
    (λ v q r s t i w o a z.
    let l = v.turn.lived.life in
    let spot = v.turn.lived.spot in
    let x = speech_at lens spot in
    let shown = i.served.lives.shown in
    Losts.served_lost lens recover retry gives made f octets after p b given v q r s t (ap not comes) i a
    (z.1.0 x made recover spot v.kept l i.served.lives.planned.stands i.way shown (stands_kept s.stand v.kept l (λ o. (subst (λ y. StandShows (λ d g. side_shows lens recover s spot d g) spot y l) o shown.stood).0) i.served.kept) i.served.passing)
    (z.1.1.0 x made recover spot l shown) z.1.1.1.0 z.0.0 w o (λ h. (z.1.1.1.1.0 h).3)) in
    let there = subst (λ z. AllThree (λ w q t. IsServed lens recover (suc made) w q t) (map (served_behind lens recover retry gives made f) vs) n.posts.items z.stops.items) (sym k.tour) each in
    record {
      each = there;
      distinct = distinct_served lens recover retry gives made f vs (Losts.lost_spot lens recover retry gives made f octets after p b) u.distinct;
      goes = subst (λ z. GoesOn z.again z.visit.items z.opened (map run_lead (map (served_behind lens recover retry gives made f) vs))) (sym k.tour)
          (Losts.goes_lost lens recover retry made f octets after p b (nat_lt missed retry) t1.again m.tour.visit.items t1.visit.items m.tour.opened t1.opened vs ts (e.tour.1 ∙ comes) (ap (λ z. z.items) e.tour.0)
          (e.opened ∙ ap (λ (z : Bool). if z then m.tour.opened else opened_behind (λ s. is_opened s.stand) m.tour.opened ts) comes)
          (long_served lens recover retry (suc made) _ n.posts.items ts each) (opens_served lens recover retry (suc made) _ n.posts.items ts each) u.goes);
      missed_is = ap (λ z. z.missed) k.tour ∙ e.tour.2 ∙ missed_is lens recover retry f after missed m.tour.missed m.tour.retry p u.missed_is u.retry_is;
      retry_is = ap (λ z. z.retry) k.tour ∙ e.tour.3 ∙ u.retry_is;
      again = λ y. subst (λ z. FitAgain z.visit.items z.stops.items) (sym k.tour)
          (subst (λ z. FitAgain z.items ts) (sym e.tour.0) (again_lost _ (λ s w h. h (sym e.tour.1 ∙ ap (λ z. z.again) (sym k.tour) ∙ y)) ss ts m.tour.visit.items e.again u.fits));
      made_is = k.kept.tour.made ∙ u.made_is;
      early = u.early;
      numbered = numbers_behind (served_behind lens recover retry gives made f) (λ v. length v.asked) (λ w. length w.asked) (λ v. refl) vs m.posts.items n.posts.items u.numbered k.kept.numbered;
    }

pub returns-clause-told : goal.returns-clause-told
returns-clause-told c = λ lens recover retry missed made after octets vs f p b u few.
    let m = c.args.self.now in
    let ss = m.tour.stops.items in
    let ts = c.lost.new.self.stops.items in
    let visit = c.lost.new.self.visit.items in
    let gives = not (nat_lt missed retry) in
    let given = not (nat_lt m.tour.missed m.tour.retry) in
    let comes : given ≡ gives = λ i. not (nat_lt (u.missed_is i) (u.retry_is i)) in
    let on = served_behind lens recover retry gives made f in
    let before = c.ends.ensures.few in
    let most : length visit ≤ 16 = c.all_given_up.ensures.few in
    let same = λ (k : ℕ). turned_all (λ v q s. IsServedUnder lens recover octets made v q s) _ on (λ news. given_told k news)
    (λ v q s t i y.
    let l = v.turn.lived.life in
    let spot = v.turn.lived.spot in
    let news = news_lost spot.station v.kept (seen lens octets) in
    let follows = y.0 (speech_at lens spot) is_followed is_passed made recover spot news l i.served.lives.planned.stands i.way i.served.lives.shown in
    lost_turned lens recover retry gives given made f octets after p b comes v q s t.news i follows.told)
    vs m.posts.items ss ts u.each (c.lost.ensures.lives lens octets) k in
    just_told (told_in (λ k. given_at ts k) visit) m.list.before c.all_given_up.ensures.told few before c.ends.ensures.last (omega (arith, told_one (λ k. given_at ts k) (λ k. given_few ts k) visit, most))
    ∙ told_same (λ k. given_at ts k) (λ k. lost_at vs (map on vs) k) visit (λ k w. same k)
    ∙ ap (λ z. told_in (λ k. lost_at vs (map on vs) k) z.items) c.lost.ensures.tour.0

pub returns-clause-whole : goal.returns-clause-whole
returns-clause-whole c = listed_whole c.all_given_up.new.self ∙ ap (λ z. z ++ events_in c.all_given_up.new.self) (c.all_given_up.ensures.told.head ∙ c.ends.ensures.head)

pub returns-clause-answers : goal.returns-clause-answers
returns-clause-answers c = λ few k.
    let m = c.args.self.now in
    let ts = c.lost.new.self.stops.items in
    let visit = c.lost.new.self.visit.items in
    let most : length visit ≤ 16 = c.all_given_up.ensures.few in
    let told = c.all_given_up.ensures.told in
    told.answers k ∙ ap (λ z. answer_behind k z (answer_at m.posts.items k)) (sym (just_told (told_in (λ j. given_at ts j) visit) m.list.before told few c.ends.ensures.few c.ends.ensures.last (omega (arith, told_one (λ j. given_at ts j) (λ j. given_few ts j) visit, most))))
