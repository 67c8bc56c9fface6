use Rattle.std.proofs.Common.{◌≡◌, ℕ, suc, map, refl, ap, sym, ◌∙◌, subst, List}
use Rattle.served_places.specs.of_life_runs.Led.{gives_up_at, missed_behind}
use Rattle.packets_heard.specs.of_master_node.Backtold.{returned_at}
use Rattle.packets_heard.specs.of_master_node.Eager.{recalls}
use Rattle.packets_heard.specs.of_master_node.Listing.{events_in, told_in}
use Rattle.packets_heard.specs.of_master_node.Serving.{ServedShows, run_lead, run_turn}
use Rattle.packets_heard.specs.of_master_node.Toured.{tour_of}
use Rattle.served_places.specs.of_segment_ring.declared.wire.Fate.{Fate}
use Rattle.served_places.specs.of_segment_ring.declared.wire.Fate.TheVariants as Fates
use Rattle.served_places.specs.of_life_runs.Served.{served_behind}
use Rattle.packets_heard.specs.Toured.{tour_behind}
use Rattle.packets_heard.specs.Served.{serves_behind}
use Rattle.plan_ring.specs.of_frame_view.Seen.{seen}
use Rattle.packets_heard.specs.of_master_node.Joined.{HasUnfinished, stand_before, unfinished_after, mails_back}
use Rattle.packets_heard.specs.Listed.{unfinished_of}
use Rattle.packets_heard.specs.Heard.{mails_by}
use Rattle.run_record.specs.Served.{events_behind}
use Rattle.run_record.proofs.ServedTold.{told_lost, told_pass}
use Rattle.run_record.proofs.session.tell.Goals as goal

pub returns-in-Pass-clause-toured : goal.returns-in-Pass-clause-toured
returns-in-Pass-clause-toured c = λ lens recover as' h.
    let m = c.args.master.now in
    c.returned.ensures.toured lens recover as' h ∙ ap (λ (k : Fate). tour_behind m.tour.retry k as' (tour_of m) m.tour.visit.items) (sym c.in-Pass.is)

pub returns-in-Lost-clause-toured : goal.returns-in-Lost-clause-toured
returns-in-Lost-clause-toured c = λ lens recover as' h.
    let m = c.args.master.now in
    c.lost.ensures.toured lens recover as' h ∙ ap (λ (k : Fate). tour_behind m.tour.retry k as' (tour_of m) m.tour.visit.items) (sym c.in-Lost.is)

pub returns-in-Lost-clause-brought : goal.returns-in-Lost-clause-brought
returns-in-Lost-clause-brought c = λ pass. absurd (let bad : Fates.Lost c.in-Lost.after ≡ Fates.Pass = sym c.in-Lost.is ∙ pass in cc)

pub returns-in-Pass-clause-happened : goal.returns-in-Pass-clause-happened
returns-in-Pass-clause-happened c = c.returned.ensures.happened

pub returns-in-Lost-clause-happened : goal.returns-in-Lost-clause-happened
returns-in-Lost-clause-happened c = c.lost.ensures.happened

pub returns-in-Pass-clause-arrivals : goal.returns-in-Pass-clause-arrivals
returns-in-Pass-clause-arrivals c = λ pass lens recover octets us js under back h. c.returned.ensures.arrivals lens recover octets us (unfinished_of js) under back h

pub returns-in-Lost-clause-arrivals : goal.returns-in-Lost-clause-arrivals
returns-in-Lost-clause-arrivals c = λ pass. absurd (let bad : Fates.Lost c.in-Lost.after ≡ Fates.Pass = sym c.in-Lost.is ∙ pass in cc)

pub returns-in-Pass-clause-joins : goal.returns-in-Pass-clause-joins
returns-in-Pass-clause-joins c = λ lens recover retry missed made vs js f fate back under returns h.
    let pass : f.fate ≡ Fates.Pass = fate ∙ c.in-Pass.is in
    let behind = map stand_before (map run_lead (serves_behind lens recover retry missed made f vs)) in
    subst (λ (k : Fate). HasUnfinished c.returned.new.self behind (unfinished_after (λ u. mails_by lens f k u) (map run_turn vs) (unfinished_of js))) (sym pass)
    (subst (λ (o : List ℕ). HasUnfinished c.returned.new.self behind (unfinished_after (mails_back (seen lens o)) (map run_turn vs) (unfinished_of js))) (sym back)
    (c.returned.ensures.joins lens recover retry missed made f.sent vs (unfinished_of js) f pass back under (returns c.in-Pass.is) h).1)

pub returns-in-Lost-clause-joins : goal.returns-in-Lost-clause-joins
returns-in-Lost-clause-joins c = λ lens recover retry missed made vs js f fate back under returns h.
    let lost : f.fate ≡ Fates.Lost c.in-Lost.after = fate ∙ c.in-Lost.is in
    subst (λ (k : Fate). HasUnfinished c.lost.new.self (map stand_before (map run_lead (serves_behind lens recover retry missed made f vs))) (unfinished_after (λ u. mails_by lens f k u) (map run_turn vs) (unfinished_of js))) (sym lost)
    (c.lost.ensures.joins lens recover retry missed made c.in-Lost.after f.sent vs (unfinished_of js) f lost refl under h)

pub returns-in-Pass-clause-leaves : goal.returns-in-Pass-clause-leaves
returns-in-Pass-clause-leaves c = λ after lost. absurd (let bad : Fates.Pass ≡ Fates.Lost after = sym c.in-Pass.is ∙ lost in cc)

pub returns-in-Lost-clause-leaves : goal.returns-in-Lost-clause-leaves
returns-in-Lost-clause-leaves c = λ after lost lens recover retry missed made vs f fate under.
    c.lost.ensures.leaves lens recover retry missed made after f.sent vs f (fate ∙ lost) refl under

pub returns-in-Pass-clause-counts : goal.returns-in-Pass-clause-counts
returns-in-Pass-clause-counts c = c.returned.ensures.counts

pub returns-in-Lost-clause-counts : goal.returns-in-Lost-clause-counts
returns-in-Lost-clause-counts c = c.lost.ensures.counts

pub returns-in-Pass-clause-served : goal.returns-in-Pass-clause-served
returns-in-Pass-clause-served c = λ lens recover retry missed made vs f fate back under returns.
    let pass : f.fate ≡ Fates.Pass = fate ∙ c.in-Pass.is in
    subst (λ (n : ℕ). ServedShows lens recover retry c.returned.new.self n (suc made) (map (served_behind lens recover retry (gives_up_at lens recover retry missed) made f) vs))
    (sym (ap (λ (k : Fate). missed_behind lens recover retry k missed) pass)) (c.returned.ensures.served lens recover retry missed made f.sent vs f pass back under (returns c.in-Pass.is))

pub returns-in-Lost-clause-served : goal.returns-in-Lost-clause-served
returns-in-Lost-clause-served c = λ lens recover retry missed made vs f fate back under returns.
    c.lost.ensures.served lens recover retry missed made c.in-Lost.after f.sent vs f (fate ∙ c.in-Lost.is) refl under

pub returns-in-Pass-clause-told : goal.returns-in-Pass-clause-told
returns-in-Pass-clause-told c = λ few lens recover retry missed made vs f fate back under returns.
    let pass : f.fate ≡ Fates.Pass = fate ∙ c.in-Pass.is in
    told_pass lens f vs (map (served_behind lens recover retry (gives_up_at lens recover retry missed) made f) vs) c.args.master.now.tour.visit.items c.args.back.now.items (events_in c.returned.new.self) pass back
    (c.returned.ensures.gateway lens recover retry missed made f.sent vs f pass back under (returns c.in-Pass.is) few)

pub returns-in-Lost-clause-told : goal.returns-in-Lost-clause-told
returns-in-Lost-clause-told c = λ few lens recover retry missed made vs f fate back under returns.
    let lost : f.fate ≡ Fates.Lost c.in-Lost.after = fate ∙ c.in-Lost.is in
    told_lost lens f vs (map (served_behind lens recover retry (gives_up_at lens recover retry missed) made f) vs) c.args.master.now.tour.visit.items c.in-Lost.after (events_in c.lost.new.self) lost
    (c.lost.ensures.told lens recover retry missed made c.in-Lost.after f.sent vs f lost refl under few)

pub returns-in-Pass-clause-whole : goal.returns-in-Pass-clause-whole
returns-in-Pass-clause-whole c = c.returned.ensures.whole

pub returns-in-Lost-clause-whole : goal.returns-in-Lost-clause-whole
returns-in-Lost-clause-whole c = c.lost.ensures.whole

pub returns-in-Pass-clause-remembers : goal.returns-in-Pass-clause-remembers
returns-in-Pass-clause-remembers c = λ pass lens recover retry missed made vs f fate back under returns asks. c.returned.ensures.remembers lens recover retry missed made f.sent vs f (fate ∙ c.in-Pass.is) back under returns asks

pub returns-in-Lost-clause-remembers : goal.returns-in-Lost-clause-remembers
returns-in-Lost-clause-remembers c = λ pass. absurd (let bad : Fates.Lost c.in-Lost.after ≡ Fates.Pass = sym c.in-Lost.is ∙ pass in cc)

pub returns-in-Pass-clause-stays : goal.returns-in-Pass-clause-stays
returns-in-Pass-clause-stays c = λ after lost. absurd (let bad : Fates.Pass ≡ Fates.Lost after = sym c.in-Pass.is ∙ lost in cc)

pub returns-in-Lost-clause-stays : goal.returns-in-Lost-clause-stays
returns-in-Lost-clause-stays c = λ after lost lens recover retry missed made vs f under. c.lost.ensures.remembers lens recover retry missed made f.sent vs f under

pub returns-in-Pass-clause-lists : goal.returns-in-Pass-clause-lists
returns-in-Pass-clause-lists c = λ few lens recover retry missed made vs f fate back under returns.
    let pass : f.fate ≡ Fates.Pass = fate ∙ c.in-Pass.is in
    let new = map (served_behind lens recover retry (gives_up_at lens recover retry missed) made f) vs in
    c.returned.ensures.told lens recover retry missed made f.sent vs f pass back under (returns c.in-Pass.is) few
    ∙ ap (λ (octets : List ℕ). told_in (λ k. returned_at lens (seen lens octets) (recalls c.returned.new.self) vs new k) c.args.master.now.tour.visit.items) (sym back)
    ∙ ap (λ (z : Fate). told_in (λ k. events_behind lens f z (recalls c.returned.new.self) vs new k) c.args.master.now.tour.visit.items) (sym pass)

pub returns-in-Lost-clause-lists : goal.returns-in-Lost-clause-lists
returns-in-Lost-clause-lists c = λ few lens recover retry missed made vs f fate back under returns.
    let lost : f.fate ≡ Fates.Lost c.in-Lost.after = fate ∙ c.in-Lost.is in
    let new = map (served_behind lens recover retry (gives_up_at lens recover retry missed) made f) vs in
    c.lost.ensures.told lens recover retry missed made c.in-Lost.after f.sent vs f lost refl under few
    ∙ ap (λ (z : Fate). told_in (λ k. events_behind lens f z (recalls c.lost.new.self) vs new k) c.args.master.now.tour.visit.items) (sym lost)
