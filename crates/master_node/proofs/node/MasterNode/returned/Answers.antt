use Rattle.std.proofs.Common.{[], refl, ap, ◌∙◌, arith, length, subst, None, ◌≡◌, ◌≤◌, ℕ, sym, true, ◌+◌, ◌-◌, ◌%◌, ◌^◌, suc, ◌++◌}
use Rattle.std.specs.Prelude.{map, not, filter}
use Rattle.life_runs.specs.of_frame_view.Seen.{seen}
use Rattle.life_runs.specs.Led.{speech_at, gives_up_at, led_behind}
use Rattle.life_runs.specs.of_master_tour.Orders.{last_behind, AreOnce}
use Rattle.master_node.specs.Shows.{is_opening_lead, IsOnFrame, IsUnder, turned_of, GoesOn, side_shows}
use Rattle.master_node.proofs.Toureds.{goes_same}
use Rattle.master_node.proofs.Behinds.{opens_behind, behind_long, life_back_is, lead_behind, all_led, goes_behind, behind_shows}
use Rattle.life_runs.specs.of_master_hand.Spoken.{Asked, acknowledged, is_followed, is_passed}
use Rattle.master_node.specs.Brought.{StopBrought}
use Rattle.master_node.specs.Kept.{StopStays}
use Rattle.master_node.proofs.Broughts.{brought_kept}
use Rattle.master_node.proofs.Lists.{both_each, both_map, each_length}
use Rattle.life_runs.specs.of_frame_view.Shares.{Lived, AllThree}
use Rattle.life_runs.specs.of_master_duty.Reply.{Reply}
use Rattle.life_runs.specs.of_master_hand.Joins.{unfinished_behind}
use Rattle.life_runs.specs.of_master_tour.Joins.{join_at}
use Rattle.life_runs.specs.of_master_tour.Stands.{StandShows, came_at}
use Rattle.master_node.specs.Joined.{IsUnfinished, StopCompleted, stand_before, stand_under, mails_back, unfinished_after}
use Rattle.master_node.proofs.ServedJoins.{back_life, on_frame, served_after, three_as}
use Rattle.master_node.proofs.ServedSents.{map_map}
use Rattle.life_runs.specs.of_link_mails.Body.{Body}
use Rattle.life_runs.specs.of_life_model.Lives.{Life, life_back}
use Rattle.master_node.proofs.Joineds.{back_unfinished, completed_at as completed_at_stop, three_on, three_kept, three_map, three_of, three_after, pair_both, completed_kept}
use Rattle.master_node.proofs.Lefts.{true_false}
use Rattle.master_node.proofs.Happenings.{happens_so}
use Rattle.master_node.specs.Arrivals.{arrivals_in, heard_at, completed_at}
use Rattle.master_node.proofs.Arrivals.{arrivals_few, arrivals_same, heard_few, heard_completed}
use Rattle.master_node.proofs.Downs.{lists_all, lists_as}
use Rattle.life_runs.proofs.of_master_tour.Backs.{seen_aims}
use Rattle.life_runs.proofs.of_master_tour.Walks.{each_map}
use Rattle.master_node.proofs.Recalled.{came_so, recalls_back, recalls_run, runs_came}
use Rattle.master_node.proofs.ServedPasses.{all_pass}
use Rattle.master_node.proofs.Visitings.{visit_asks}
use Rattle.life_runs.proofs.Lives.{stands_kept}
use Rattle.life_runs.specs.of_master_hand.Shown.{awaits_reply}
use Rattle.life_runs.specs.of_master_side.Passing.{counts_at, news_back}
use Rattle.life_runs.specs.of_master_tour.Counting.{CountsOn}
use Rattle.life_runs.specs.of_master_tour.Passing.{StandPassing}
use Rattle.life_runs.specs.Served.{served_behind}
use Rattle.master_node.specs.Serving.{IsServed, run_lead, run_turn}
use Rattle.master_node.proofs.Serveds.{back_made, served_back, all_served, distinct_served, back_spot, goes_served, opens_served, long_served, passes_behind, three_both}
use Rattle.master_node.proofs.Unread.{behind_inhand}
use Rattle.life_runs.specs.of_master_tour.Goes.{holds_at}
use Rattle.life_runs.specs.of_master_tour.Made.{is_in}
use Rattle.master_node.proofs.Endings.{unvisited}
use Rattle.master_node.proofs.Numbereds.{numbers_behind}
use Rattle.master_node.specs.Besides.{back_does, by_stop, stays}
use Rattle.master_node.specs.Gateways.{is_gateway, lives_told}
use Rattle.master_node.specs.Handed.{work_at}
use Rattle.master_node.specs.Listing.{events_in, told_in}
use Rattle.master_node.proofs.ToldFew.{back_few, just_told, told_five}
use Rattle.master_node.proofs.Filtered.{filter_told, gateway_by, place_asked}
use Rattle.master_node.proofs.Gateways.{all_told}
use Rattle.master_node.proofs.Backtolds.{back_all}
use Rattle.master_node.specs.Backtold.{returned_at}
use Rattle.master_node.specs.Eager.{recall_of, recalls}
use Rattle.master_node.proofs.Listing.{listed_whole, told_same}
use Rattle.master_node.specs.Answered.{answer_at, answer_behind}
use Rattle.master_node.proofs.node.MasterNode.returned.Goals as goal

pub returns-clause-leads : goal.returns-clause-leads
returns-clause-leads c = λ lens recover retry missed number octets us f p b u r.
    let m = c.args.self.now in
    let ts = c.returned.new.self.stops.items in
    let gives = gives_up_at lens recover retry missed in
    let three = c.returned.ensures.shown lens (seen lens octets) r u.sent (λ spot. speech_at lens spot) is_followed is_passed number recover (map turned_of us)
    (both_map turned_of _ _ (λ v s i. (i.lead.lives, i.way)) us m.tour.stops.items u.each) in
    let leads = all_led lens recover retry gives number f octets _ _ us m.tour.stops.items ts u.each three c.returned.ensures.stays
    (λ v s t i w e. lead_behind lens recover retry gives number f octets v s t _ i (w []) (life_back_is lens recover retry gives number f octets c.args.frame.now.items v s p b i) e.0 e.1) in
    behind_shows lens recover retry gives number f _ _ 0 us c.all_back.ensures.kept leads u.distinct u.quiet
    (goes_behind lens recover retry gives number f c.returned.new.self.again m.tour.visit.items c.returned.new.self.visit.items m.tour.opened c.returned.new.self.opened us ts c.returned.ensures.tour.1 c.returned.ensures.opened leads u.goes)
    c.returned.ensures.tour.2 (c.returned.ensures.tour.3 ∙ u.retry_is) (λ e. absurd (true_false c.returned.new.self.again e c.returned.ensures.tour.1))

pub returns-clause-brought : goal.returns-clause-brought
returns-clause-brought c = λ lens recover octets us u r.
    let m = c.args.self.now in
    let back = seen lens c.args.frame.now.items in
    both_each (λ v s. StopBrought back v s) (λ s t. StopStays s t) (λ v t. StopBrought back v t) (λ v s t b k. brought_kept back v s t b k) us c.returned.new.self.stops.items c.all_back.new.self.tour.stops.items
    (both_each (λ v s. IsOnFrame lens recover octets v s) _ (λ v t. StopBrought back v t)
    (λ v s t i p. p (speech_at lens v.lived.spot) recover v.lived.spot v.lived.life i.lives.planned.stands i.way i.lives.shown)
    us m.tour.stops.items c.returned.new.self.stops.items u.each (c.returned.ensures.brought lens (seen lens octets) r u.sent))
    c.all_back.ensures.kept.each

pub returns-clause-joined : goal.returns-clause-joined
returns-clause-joined c = λ lens recover retry missed number octets us befores f p b u r h.
    let m = c.args.self.now in
    let ss = m.tour.stops.items in
    let ts = c.returned.new.self.stops.items in
    let zs = c.all_back.new.self.tour.stops.items in
    let back = seen lens c.args.frame.now.items in
    let gives = gives_up_at lens recover retry missed in
    let e = c.returned.ensures in
    let there = three_on (λ v s. IsUnder lens recover octets v s) (λ v j s. IsUnfinished (stand_under v) s.side.hand.found.join j) _
    (λ v j t. StopCompleted back v j t × IsUnfinished (stand_before (led_behind lens recover retry gives number f v)) t.side.hand.found.join (join_at None unfinished_behind (stand_under v) j (mails_back back v)))
    (λ v j s t i w q.
    let l = v.lived.life in
    let spot = v.lived.spot in
    let ms = mails_back back v in
    let joins = q.1 (speech_at lens spot) recover spot l i.lead.lives.planned.stands i.way i.lead.lives.shown in
    let follows = q.0.0 (speech_at lens spot) is_followed is_passed number recover spot [] l i.lead.lives.planned.stands i.way i.lead.lives.shown in (
      completed_at_stop t.side.hand.found t.side.heard spot.station l.era.side.halves back l.stand s.side.hand.found.join j ms refl w joins.completes,
      subst (λ (a : Lived Asked Reply). IsUnfinished a.life.stand t.side.hand.found.join (join_at None unfinished_behind l.stand j ms)) (life_back_is lens recover retry gives number f octets c.args.frame.now.items v s p b i)
          (back_unfinished (speech_at lens spot) acknowledged is_followed is_passed number spot [] back (came_at s.under s.at back) l l.stand t.news t.side.hand.found.join s.side.hand.found.join j ms refl refl w joins.join follows.told),
    ))
    us befores ss ts u.each (three_of stand_under (λ z j s. IsUnfinished z s.side.hand.found.join j) us befores ss h) (pair_both _ _ ss ts (e.lives lens (seen lens octets) r u.sent) (e.joined lens (seen lens octets) r u.sent)) in
    let kept = three_kept _ _ (λ v j s t x k. completed_kept back v j s t (join_at None unfinished_behind (stand_under v) j (mails_back back v)) (stand_before (led_behind lens recover retry gives number f v)) x k) us befores ts zs there c.all_back.ensures.kept.each in (
      three_map _ _ (λ v j s x. x.0) us befores zs kept,
      three_after stand_before (led_behind lens recover retry gives number f) (mails_back back) (λ z j s. IsUnfinished z s.side.hand.found.join j) us befores zs (three_map _ _ (λ v j s x. x.1) us befores zs kept),
    )

pub returns-clause-toured : goal.returns-clause-toured
returns-clause-toured c = λ lens recover as' h.
    let m = c.args.self.now in
    let n = c.all_back.new.self in
    let k = c.all_back.ensures.kept in
    let e = c.returned.ensures in
    let ts = c.returned.new.self.stops.items in
    let long = each_length _ m.tour.stops.items ts e.stays ∙ behind_long lens recover as' ts n.tour.stops.items k.each h in
    goes_same is_opening_lead as' m n (k.tour.again ∙ e.tour.1) (k.tour.opened ∙ e.opened ∙ opens_behind lens recover as' m.tour.opened ts n.tour.stops.items k.each h)
    (k.tour.last ∙ e.last ∙ ap (λ z. last_behind m.tour.opened z m.tour.last m.tour.visit.items) long) (k.tour.missed ∙ e.tour.2)

pub returns-clause-happened : goal.returns-clause-happened
returns-clause-happened c = happens_so 16 _ _ _ (omega arith) c.begins.ensures.so c.begins.ensures.none c.all_back.ensures.lan

pub returns-clause-arrivals : goal.returns-clause-arrivals
returns-clause-arrivals c = λ lens recover octets us befores u r h.
    let m = c.args.self.now in
    let ss = m.tour.stops.items in
    let ts = c.returned.new.self.stops.items in
    let back = seen lens c.args.frame.now.items in
    let there = three_on (λ v s. IsOnFrame lens recover octets v s) (λ v j s. IsUnfinished (stand_under v) s.side.hand.found.join j) _ (λ v j t. StopCompleted back v j t)
    (λ v j s t i w q.
    let l = v.lived.life in
    let spot = v.lived.spot in
    let joins = q (speech_at lens spot) recover spot l i.lives.planned.stands i.way i.lives.shown in
    completed_at_stop t.side.hand.found t.side.heard spot.station l.era.side.halves back l.stand s.side.hand.found.join j (mails_back back v) refl w joins.completes)
    us befores ss ts u.each (three_of stand_under (λ z j s. IsUnfinished z s.side.hand.found.join j) us befores ss h) (c.returned.ensures.joined lens (seen lens octets) r u.sent) in
    let ports = c.begins.ensures.ports in
    let visit = c.returned.ensures.tour.0 in
    let listed = c.all_back.ensures.listed in
    let packets = λ (k : ℕ). completed_at back us befores k in
    let same : arrivals_in c.begins.new.self.ports.items (λ k. heard_at ts k) c.returned.new.self.visit.items ≡ arrivals_in m.lan.ports.items packets m.tour.visit.items =
    (λ i. arrivals_in (ports i).items (λ k. heard_at ts k) (visit i).items) ∙ arrivals_same m.lan.ports.items (λ k. heard_at ts k) packets (λ k. heard_completed back us befores ts there k) m.tour.visit.items in
    record {
      ports = listed.ports ∙ ports;
      events = lists_all _ _ _ (omega (arith, arrivals_few m.lan.ports.items (λ k. heard_at ts k) (λ k. heard_few ts k) m.tour.visit.items, ap length (arrivals_same m.lan.ports.items (λ k. heard_at ts k) packets (λ k. heard_completed back us befores ts there k) m.tour.visit.items), u.few))
          c.begins.ensures.none (lists_as _ _ _ _ (sym same) listed);
    }

pub returns-clause-recalls : goal.returns-clause-recalls
returns-clause-recalls c = λ lens recover retry missed octets us u r a.
    let back = seen lens c.args.frame.now.items in
    let ss = c.args.self.now.tour.stops.items in
    let ts = c.returned.new.self.stops.items in
    let zs = c.all_back.new.self.tour.stops.items in
    let came = each_map _ _ ss ts (λ s t p v i. p (speech_at lens v.lived.spot) recover v.lived.spot v.lived.life i.lives.planned.stands i.way i.lives.shown) (c.returned.ensures.recalls lens (seen lens octets) r u.sent) in
    let asks = visit_asks lens recover octets (seen lens octets) us ss (recalls c.args.self.now) u.each a in
    recalls_run lens recover octets back us ss (recalls c.args.self.now) (recalls c.all_back.new.self) u.each
    (recalls_back (λ v. v) (λ v. None) lens recover octets back us ss zs r (λ s. seen_aims lens c.args.frame.now.items s.side.station s.named)
    (runs_came lens recover octets back us ss ts zs u.each asks came c.all_back.ensures.kept.each))

pub returns-clause-joins : goal.returns-clause-joins
returns-clause-joins c = λ lens recover retry missed made octets vs befores f p b u r h.
    let m = c.args.self.now in
    let ss = m.tour.stops.items in
    let ts = c.returned.new.self.stops.items in
    let zs = c.all_back.new.self.tour.stops.items in
    let items = c.args.frame.now.items in
    let back = seen lens items in
    let gives = gives_up_at lens recover retry missed in
    let e = c.returned.ensures in
    let behind = served_behind lens recover retry gives made f in
    let there = three_on (λ v s. IsOnFrame lens recover octets (run_turn v) s) (λ v j s. IsUnfinished (stand_under (run_turn v)) s.side.hand.found.join j) _
    (λ v j t. StopCompleted back (run_turn v) j t × IsUnfinished (stand_before (run_lead (behind v))) t.side.hand.found.join (join_at None unfinished_behind (stand_under (run_turn v)) j (mails_back back (run_turn v))))
    (λ v j s t i w q.
    let l = v.turn.lived.life in
    let spot = v.turn.lived.spot in
    let ms = mails_back back (run_turn v) in
    let news = news_back spot.station v.kept v.counts back in
    let joins = q.1 (speech_at lens spot) recover spot l i.lives.planned.stands i.way i.lives.shown in
    let follows = q.0.0 (speech_at lens spot) is_followed is_passed made recover spot news l i.lives.planned.stands i.way i.lives.shown in (
      completed_at_stop t.side.hand.found t.side.heard spot.station l.era.side.halves back l.stand s.side.hand.found.join j ms refl w joins.completes,
      subst (λ (a : Life Body Asked Reply). IsUnfinished a.stand t.side.hand.found.join (join_at None unfinished_behind l.stand j ms)) (back_life lens recover retry gives made f octets items v s p b i)
          (back_unfinished (speech_at lens spot) acknowledged is_followed is_passed made spot news back (came_at s.under s.at back) l l.stand t.news t.side.hand.found.join s.side.hand.found.join j ms refl refl w joins.join follows.told),
    ))
    vs befores ss ts (on_frame lens recover retry gives made f octets vs m.posts.items ss u.each)
    (three_of (λ v. stand_under (run_turn v)) (λ z j s. IsUnfinished z s.side.hand.found.join j) vs befores ss (subst (λ z. AllThree (λ y j s. IsUnfinished y s.side.hand.found.join j) z befores ss) (map_map stand_under run_turn vs) h))
    (pair_both _ _ ss ts (e.lives lens (seen lens octets) r u.sent) (e.joined lens (seen lens octets) r u.sent)) in
    let kept = three_kept _ _ (λ v j s t x k. completed_kept back (run_turn v) j s t (join_at None unfinished_behind (stand_under (run_turn v)) j (mails_back back (run_turn v))) (stand_before (run_lead (behind v))) x k) vs befores ts zs there c.all_back.ensures.kept.each in (
      three_as run_turn (λ v j s. StopCompleted back v j s) vs befores zs (three_map _ _ (λ v j s x. x.0) vs befores zs kept),
      subst (λ z. AllThree (λ y j s. IsUnfinished y s.side.hand.found.join j) (map stand_before z) (unfinished_after (mails_back back) (map run_turn vs) befores) zs) (sym (map_map run_lead behind vs))
          (served_after stand_before (λ v. run_lead (behind v)) (mails_back back) (λ z j s. IsUnfinished z s.side.hand.found.join j) vs befores zs (three_map _ _ (λ v j s x. x.1) vs befores zs kept)),
    )

pub returns-clause-served : goal.returns-clause-served
returns-clause-served c = λ lens recover retry missed made octets vs f p b u r.
    let m = c.args.self.now in
    let n = c.all_back.new.self in
    let e = c.returned.ensures in
    let tells = c.all_back.ensures.tells in
    let ss = m.tour.stops.items in
    let ts = c.returned.new.self.stops.items in
    let back = seen lens c.args.frame.now.items in
    let gives = gives_up_at lens recover retry missed in
    let number : (m.made + (2 ^ 32 - 1)) % 2 ^ 32 ≡ made = back_made m.made made u.made_is u.early in
    let three = e.shown lens (seen lens octets) r u.sent (λ spot. speech_at lens spot) is_followed is_passed made recover (map (λ v. v.turn.lived) vs)
    (three_both _ _ (λ v. v.turn.lived) (λ v k s i. (i.served.lives, i.way)) vs m.posts.items ss u.each) in
    let says = pair_both _ _ ss ts (e.lives lens (seen lens octets) r u.sent) (pair_both _ _ ss ts (e.brought lens (seen lens octets) r u.sent) (pair_both _ _ ss ts e.replied (e.recalls lens (seen lens octets) r u.sent))) in
    let toured = pair_both _ _ ss ts e.stays (pair_both _ _ ss ts (e.passing lens (seen lens octets) r u.sent) (pair_both _ _ ss ts (e.counts lens (seen lens octets) r u.sent) (pair_both _ _ ss ts e.pace says))) in
    let once = subst (λ z. AreOnce z.items) (sym e.tour.0) u.goes.comes.once in
    let still = λ (j : ℕ). not (is_in j c.returned.new.self.visit.items) in
    let unread = λ (j : ℕ) (y : still j ≡ true). unvisited (holds_at (λ s. s.under) ss j) (is_in j c.returned.new.self.visit.items) (λ x. ap (λ z. is_in j z.items) e.tour.0 ∙ u.carried j x) y in
    let each = all_served lens recover retry gives made f octets _ _ (λ j. j) still vs m.posts.items n.posts.items ss ts unread c.all_back.ensures.works.each (c.all_back.ensures.has once) u.each tells.mails three toured
    (λ v k q s t i w d n o j y a z.
    let l = v.turn.lived.life in
    let spot = v.turn.lived.spot in
    let x = speech_at lens spot in
    let shown = i.served.lives.shown in
    let at = i.served.lives.planned.stands in
    let passes =
    subst (λ j. StandPassing t.stand (awaits_reply t.side.hand.course t.side.hand.which t.side.hand.clients) t.side.passing (life_back x acknowledged is_followed is_passed made spot (news_back s.side.station v.kept (counts_at s.side.read_at s.side.pace j) back) back (came_at s.under s.at back) l l.stand)) number
    (z.1.0 x made recover spot v.kept l i.served.lives.planned.stands i.way shown (stands_kept s.stand v.kept l (λ o. (subst (λ y. StandShows (λ d g. side_shows lens recover s spot d g) spot y l) o shown.stood).0) i.served.kept) i.served.passing) in
    served_back lens recover retry gives made f octets c.args.frame.now.items v k q s t p b i r a passes
    (subst (λ j. CountsOn j back s t l) number (z.1.1.0 x recover spot l i.way shown)) z.1.1.1.0 z.0.0 w d n o
    (behind_inhand lens recover made octets c.args.frame.now.items j v k q s t d i r n y (a (news_back spot.station v.kept v.counts back)).shown.stood (passes_behind lens recover made octets back v k s t i passes) (record {
      told = (z.1.1.1.1.0.0 x is_followed is_passed made recover spot (news_back spot.station v.kept v.counts back) l at i.way shown).told;
      brings = z.1.1.1.1.1.0 x recover spot l at i.way shown;
      replied = z.1.1.1.1.1.1.0 lens (seen lens octets) r u.sent x recover spot l at i.way shown;
      recalls = z.1.1.1.1.1.1.1 x recover spot l at i.way shown;
    }))) in
    let there = subst (λ z. AllThree (λ w q t. IsServed lens recover (suc made) w q t) (map (served_behind lens recover retry gives made f) vs) n.posts.items z.stops.items) (sym tells.tour) each in
    record {
      each = there;
      distinct = distinct_served lens recover retry gives made f vs (back_spot lens recover retry gives made f p) u.distinct;
      goes = subst (λ z. GoesOn z.again z.visit.items z.opened (map run_lead (map (served_behind lens recover retry gives made f) vs))) (sym tells.tour)
          (goes_served lens recover retry gives made f c.returned.new.self.again m.tour.visit.items c.returned.new.self.visit.items m.tour.opened c.returned.new.self.opened vs ts p e.tour.1 e.opened
          (long_served lens recover retry (suc made) _ n.posts.items ts each) (opens_served lens recover retry (suc made) _ n.posts.items ts each) u.goes);
      missed_is = ap (λ z. z.missed) tells.tour ∙ e.tour.2;
      retry_is = ap (λ z. z.retry) tells.tour ∙ e.tour.3 ∙ u.retry_is;
      again = λ t. absurd (true_false n.tour.again t (ap (λ z. z.again) tells.tour ∙ e.tour.1));
      made_is = tells.made ∙ u.made_is;
      early = u.early;
      numbered = numbers_behind (served_behind lens recover retry gives made f) (λ v. length v.asked) (λ w. length w.asked) (λ v. refl) vs m.posts.items n.posts.items u.numbered c.all_back.ensures.kept.numbered;
    }

pub returns-clause-gateway : goal.returns-clause-gateway
returns-clause-gateway c = λ lens recover retry missed made octets vs f p b u r few.
    let m = c.args.self.now in
    let n = c.all_back.new.self in
    let e = c.returned.ensures in
    let ss = m.tour.stops.items in
    let ts = c.returned.new.self.stops.items in
    let back = seen lens c.args.frame.now.items in
    let gives = gives_up_at lens recover retry missed in
    let ws = map (served_behind lens recover retry gives made f) vs in
    let served = returns-clause-served c lens recover retry missed made octets vs f p b u r in
    let there = subst (λ z. AllThree (λ w q t. IsServed lens recover (suc made) w q t) ws n.posts.items z.stops.items) c.all_back.ensures.tells.tour served.each in
    let same = all_told lens recover retry gives made f octets c.args.frame.now.items p b _
    (λ v q s t i k. k lens (seen lens octets) r u.sent (speech_at lens v.turn.lived.spot) recover v.turn.lived.spot v.turn.lived.life i.served.lives.planned.stands i.way i.served.lives.shown) vs m.posts.items n.posts.items ss ts u.each there e.replied in
    let once = subst (λ z. AreOnce z.items) (sym e.tour.0) u.goes.comes.once in
    let before = c.ends.ensures.few in
    let visit = c.returned.new.self.visit.items in
    let tells = λ (k : ℕ). (by_stop (stays (work_at m.posts.items k)) (λ t. back_does k t (work_at m.posts.items k)) ts k).told in
    let asked = λ (k : ℕ). by_stop [] (λ t. gateway_by (work_at m.posts.items k) t) ts k in
    let most : length visit ≤ 16 = (let v = ap (λ z. length z.items) e.tour.0 in omega (arith, v, u.fits.few)) in
    ap (filter is_gateway) (just_told (told_in tells visit) m.list.before (c.all_back.ensures.told once) few before c.ends.ensures.last (omega (arith, told_five tells (λ k. back_few m.posts.items ts k) visit, most)))
    ∙ filter_told tells visit
    ∙ told_same (λ k. filter is_gateway (tells k)) asked visit (λ k w. place_asked m.posts.items ts k)
    ∙ told_same asked (λ k. lives_told back vs ws k) visit (λ k w. same k)
    ∙ ap (λ z. told_in (λ k. lives_told back vs ws k) z.items) e.tour.0

pub returns-clause-told : goal.returns-clause-told
returns-clause-told c = λ lens recover retry missed made octets vs f p b u r few.
    let m = c.args.self.now in
    let n = c.all_back.new.self in
    let e = c.returned.ensures in
    let tour = c.all_back.ensures.tells.tour in
    let ss = m.tour.stops.items in
    let ts = c.returned.new.self.stops.items in
    let back = seen lens c.args.frame.now.items in
    let gives = gives_up_at lens recover retry missed in
    let ws = map (served_behind lens recover retry gives made f) vs in
    let served = returns-clause-served c lens recover retry missed made octets vs f p b u r in
    let there = subst (λ z. AllThree (λ w q t. IsServed lens recover (suc made) w q t) ws n.posts.items z.stops.items) tour served.each in
    let each = pair_both _ _ ss ts (e.lives lens (seen lens octets) r u.sent) (pair_both _ _ ss ts (e.brought lens (seen lens octets) r u.sent) (pair_both _ _ ss ts e.replied (e.recalls lens (seen lens octets) r u.sent))) in
    let same = λ (k : ℕ). back_all lens recover retry gives made f octets c.args.frame.now.items p b k _
    (λ v q s t i z.
    let l = v.turn.lived.life in
    let spot = v.turn.lived.spot in
    let x = speech_at lens spot in
    let at = i.served.lives.planned.stands in
    let shown = i.served.lives.shown in
    record {
      told = (z.0.0 x is_followed is_passed made recover spot (news_back spot.station v.kept v.counts back) l at i.way shown).told;
      brings = z.1.0 x recover spot l at i.way shown;
      replied = z.1.1.0 lens (seen lens octets) r u.sent x recover spot l at i.way shown;
      recalls = z.1.1.1 x recover spot l at i.way shown;
    })
    vs m.posts.items n.posts.items ss ts u.each there each k in
    let once = subst (λ z. AreOnce z.items) (sym e.tour.0) u.goes.comes.once in
    let before = c.ends.ensures.few in
    let visit = c.returned.new.self.visit.items in
    let tells = λ (k : ℕ). (by_stop (stays (work_at m.posts.items k)) (λ t. back_does k t (work_at m.posts.items k)) ts k).told in
    let most : length visit ≤ 16 = (let v = ap (λ z. length z.items) e.tour.0 in omega (arith, v, u.fits.few)) in
    just_told (told_in tells visit) m.list.before (c.all_back.ensures.told once) few before c.ends.ensures.last (omega (arith, told_five tells (λ k. back_few m.posts.items ts k) visit, most))
    ∙ told_same tells (λ k. returned_at lens back (map (λ t. recall_of t) ts) vs ws k) visit (λ k w. same k)
    ∙ (λ i. told_in (λ k. returned_at lens back (map (λ t. recall_of t) (sym tour i).stops.items) vs ws k) (e.tour.0 i).items)

pub returns-clause-whole : goal.returns-clause-whole
returns-clause-whole c = listed_whole c.all_back.new.self ∙ ap (λ z. z ++ events_in c.all_back.new.self) (c.all_back.ensures.head ∙ c.ends.ensures.head)

pub returns-clause-answers : goal.returns-clause-answers
returns-clause-answers c = λ once few k.
    let m = c.args.self.now in
    let ts = c.returned.new.self.stops.items in
    let visit = c.returned.new.self.visit.items in
    let tells = λ (j : ℕ). (by_stop (stays (work_at m.posts.items j)) (λ t. back_does j t (work_at m.posts.items j)) ts j).told in
    let most = c.all_back.ensures.few in
    let told = c.all_back.ensures.told (subst (λ z. AreOnce z.items) (sym c.returned.ensures.tour.0) once) in
    told.answers k ∙ ap (λ z. answer_behind k z (answer_at m.posts.items k)) (sym (just_told (told_in tells visit) m.list.before told few c.ends.ensures.few c.ends.ensures.last (omega (arith, told_five tells (λ j. back_few m.posts.items ts j) visit, most))))

pub returns-clause-remembers : goal.returns-clause-remembers
returns-clause-remembers c = λ lens recover retry missed made octets vs f p b u r a.
    let m = c.args.self.now in
    let n = c.all_back.new.self in
    let back = seen lens c.args.frame.now.items in
    let ss = m.tour.stops.items in
    let ts = c.returned.new.self.stops.items in
    let zs = n.tour.stops.items in
    let gives = gives_up_at lens recover retry missed in
    let on = on_frame lens recover retry gives made f octets vs m.posts.items ss u.each in
    let came = each_map _ _ ss ts (λ s t p v i. p (speech_at lens v.lived.spot) recover v.lived.spot v.lived.life i.lives.planned.stands i.way i.lives.shown) (c.returned.ensures.recalls lens (seen lens octets) r u.sent) in
    let served = returns-clause-served c lens recover retry missed made octets vs f p b u r in
    recalls_back run_turn (λ v. (served_behind lens recover retry gives made f v).lead.lived.life.era.passing) lens recover octets back vs ss zs r (λ s. seen_aims lens c.args.frame.now.items s.side.station s.named)
    (came_so run_turn (λ v. (served_behind lens recover retry gives made f v).lead.lived.life.era.passing) lens recover octets back vs ss ts zs on a came c.all_back.ensures.kept.each
    (all_pass lens recover retry gives made f octets c.args.frame.now.items p b (suc made) vs n.posts.items ss zs on served.each))
