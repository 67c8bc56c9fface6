use Rattle.std.proofs.Common.{◌≡◌, ◌∙◌, [], true, false, sym, subst, refl, arith}
use Rattle.life_runs.specs.First.{lens_of, first_leads}
use Rattle.life_runs.proofs.First.{apart_from, have_lens, distinct_from}
use Rattle.master_node.proofs.Firsts.{all_known, all_leads, all_open, all_unfinished}
use Rattle.life_runs.specs.of_frame_view.Shares.{AreDistinct}
use Rattle.master_node.specs.Shows.{GoesOn}
use Rattle.master_node.proofs.Servings.{firsts_served, leads_kept, lives_all, run_all}
use Rattle.master_node.specs.Serving.{IsServed}
use Rattle.master_node.proofs.Listing.{none_counted}
use Rattle.master_node.proofs.Numbereds.{numbers_first}
use Rattle.master_node.proofs.Answereds.{none_answered}
use Rattle.master_node.proofs.node.MasterNode.new.Goals as goal

pub returns-clause-leads : goal.returns-clause-leads
returns-clause-leads c =
    let plan = c.args.plan.now in
    let apart = apart_from [] 0 plan.slaves c.requires.stations in
    let e = c.in_ok-tour.ensures in
    record {
      each = all_leads plan (lens_of plan.slaves) 0 plan.slaves c.in_ok-tour.tour.stops.items (have_lens plan.slaves apart) e.first;
      distinct = distinct_from plan.services 0 plan.slaves apart;
      quiet = c.in_ok-posts.ensures.quiet;
      goes = record { ahead = λ k a l. all_open plan 0 plan.slaves k l; comes = λ t. absurd (let w : true ≡ false = sym t ∙ e.begins.1 in cc) };
      missed_is = e.begins.2;
      retry_is = e.begins.3;
      again = λ t. absurd (let w : true ≡ false = sym t ∙ e.begins.1 in cc);
    }

pub returns-clause-joined : goal.returns-clause-joined
returns-clause-joined c = all_unfinished c.args.plan.now 0 c.args.plan.now.slaves c.in_ok-tour.tour.stops.items c.in_ok-tour.ensures.first

pub returns-clause-counts : goal.returns-clause-counts
returns-clause-counts c = λ k. none_counted c.in_ok-posts.posts.items c.in_ok-posts.ensures.counts k

pub returns-clause-knows : goal.returns-clause-knows
returns-clause-knows c = all_known c.args.plan.now 0 c.args.plan.now.slaves c.in_ok-tour.tour.stops.items c.in_ok-tour.ensures.first

pub returns-clause-served : goal.returns-clause-served
returns-clause-served c =
    let plan = c.args.plan.now in
    let leads = first_leads plan in
    let t = c.in_ok-tour.tour in
    let h = returns-clause-leads c in
    let each = firsts_served (lens_of plan.slaves) plan.recover plan.paces leads c.in_ok-posts.posts.items t.stops.items h.each c.in_ok-tour.ensures.paced c.in_ok-posts.ensures.quiet c.in_ok-posts.ensures.works
    (omega (arith, c.in_ok-posts.posts.ok.0, t.stops.ok.0, c.in_ok-posts.ensures.many, c.in_ok-tour.ensures.many, c.len.ensures)) (leads_kept plan.services 0 plan.slaves) in
    record {
      each = each;
      distinct = subst (λ z. AreDistinct z) (sym (lives_all plan.paces leads)) h.distinct;
      goes = subst (λ z. GoesOn t.again t.visit.items t.opened z) (sym (run_all plan.paces leads)) h.goes;
      missed_is = h.missed_is;
      retry_is = h.retry_is;
      again = h.again;
      made_is = refl;
      early = omega arith;
      numbered = numbers_first (λ w p s. IsServed (lens_of plan.slaves) plan.recover 0 w p s) plan.paces leads c.in_ok-posts.posts.items t.stops.items each c.in_ok-posts.ensures.quiet c.in_ok-posts.ensures.oldest;
    }

pub returns-clause-answers : goal.returns-clause-answers
returns-clause-answers c = λ k. none_answered c.in_ok-posts.posts.items c.in_ok-posts.ensures.answers k
