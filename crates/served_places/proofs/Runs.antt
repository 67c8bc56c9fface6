-- The frames of a serving that are visits of one tour count, frame by frame.
use Rattle.std.proofs.Common.{◌≡◌, ℕ, Option, None, List, length, map, refl, sym, subst}
use Rattle.std.specs.Prelude.{nat_lt}
use Rattle.run_frames.specs.of_frame_view.Seen.{seen, datagrams_seen}
use Rattle.run_frames.specs.of_frame_view.View.{Lens}
use Rattle.run_frames.specs.of_life_runs.Led.{Exchanged, speech_at, is_passed, gives_up_at}
use Rattle.run_frames.specs.of_master_hand.Spoken.{acknowledged, is_followed}
use Rattle.run_frames.specs.Answers.{AllReturned}
use Rattle.run_frames.specs.Begins.{AllNew}
use Rattle.run_frames.specs.Goes.{AllUnder, AllClocked}
use Rattle.run_frames.specs.Led.{AreLed}
use Rattle.run_frames.specs.Runs.{Progress, IsRun}
use Rattle.run_frames.specs.Tours.{last_lost}
use Rattle.run_frames.proofs.Leading.{SeenIs, led_view}
use Rattle.run_frames.proofs.Toured.{front_returned, last_returned}
use Rattle.run_frames.proofs.Touring.{AgainOf}
use Rattle.run_frames.proofs.Visiting.{visit_again, visit_carries, visit_rounds}
use Rattle.run_frames.specs.of_segment_ring.declared.wire.Fate.TheVariants.{Pass, Lost}
use Rattle.run_frames.specs.of_life_runs.Served.{Serves, ServedTurn, IsServedFrame}
use Rattle.served_places.specs.Answered.{ServedAsks, ServedAnswers, ServedWaits}
use Rattle.served_places.specs.Toured.{IsServedToured, back_under, first_served, lost_under, serves_on, served_back, served_lost}
use Rattle.served_places.proofs.Slaves.{Slave, all_bring, all_led_back, all_led_lost, all_under, leads_asked, leads_in}
use Rattle.served_places.proofs.Toured.{one_more}

module _ (seen_is : SeenIs) (lens : ℕ → Lens) (recover retry slowest : ℕ) (first : List Serves) (begins : AllNew (first_served first) × AllClocked slowest (first_served first) × AreLed (leads_in first) (first_served first)) where
  abbrev Run : Progress → List Slave → Type 0
  Run p cs = IsRun (speech_at lens) acknowledged is_followed is_passed recover slowest (first_served first) p cs

  -- what holds behind each frame
  pub record Counts (fs : List Exchanged) (again : Option (List ℕ)) (ws : List Serves) (p : Progress) (cs : List Slave) : Type 0 where
    pub run : IsRun (speech_at lens) acknowledged is_followed is_passed recover slowest (first_served first) p cs
    pub same : AgainOf again (length cs) p.opened p.last cs
    pub slaves : AreLed (leads_in ws) cs
    pub frames : p.frames ≡ length fs

  -- one frame
  module _ (fs : List Exchanged) (again : Option (List ℕ)) (missed : ℕ) (ws : List Serves) (p : Progress) (cs : List Slave) (k : Counts fs again ws p cs) (f : Exchanged) (vs : List ServedTurn) (l : IsServedFrame lens (length fs) f.sent ws vs) where
    at : IsServedFrame lens p.frames f.sent ws vs
    at = subst (λ n. IsServedFrame lens n f.sent ws vs) (sym k.frames) l

    view : seen lens f.sent ≡ datagrams_seen lens at.datagrams
    view = led_view seen_is lens recover retry p.frames f at.datagrams at.frame

    back_all : AllUnder (speech_at lens) acknowledged is_followed is_passed p.frames (seen lens f.sent) cs (map (back_under (seen lens f.back)) vs)
    back_all = all_under seen_is lens recover retry p.frames f (back_under (seen lens f.back)) (λ v. refl) (λ v. refl) at.datagrams cs ws vs k.slaves view at.each

    lost_all : AllUnder (speech_at lens) acknowledged is_followed is_passed p.frames (seen lens f.sent) cs (map (lost_under (seen lens f.sent)) vs)
    lost_all = all_under seen_is lens recover retry p.frames f (lost_under (seen lens f.sent)) (λ v. refl) (λ v. refl) at.datagrams cs ws vs k.slaves view at.each

    back_led : (fate : f.fate ≡ Pass) → AreLed (leads_in (serves_on lens recover retry slowest missed (length fs) f vs)) (served_back lens recover retry slowest p.frames f vs cs)
    back_led fate = subst (λ n. AreLed (leads_in (serves_on lens recover retry slowest missed n f vs)) (served_back lens recover retry slowest p.frames f vs cs)) k.frames
        (all_led_back seen_is lens recover retry p.frames f (gives_up_at lens recover retry missed) at.datagrams cs ws vs k.slaves at.each fate)

    lost_led : (after : ℕ) → f.fate ≡ Lost after → AreLed (leads_in (serves_on lens recover retry slowest missed (length fs) f vs)) (served_lost lens recover retry slowest (gives_up_at lens recover retry missed) p.frames f vs cs)
    lost_led after fate = subst (λ n. AreLed (leads_in (serves_on lens recover retry slowest missed n f vs)) (served_lost lens recover retry slowest (gives_up_at lens recover retry missed) p.frames f vs cs)) k.frames
        (all_led_lost seen_is lens recover retry p.frames f (gives_up_at lens recover retry missed) after at.datagrams cs ws vs k.slaves at.each fate)

  pub counts : (fs : List Exchanged) (again : Option (List ℕ)) (missed : ℕ) (ws : List Serves) (p : Progress) (cs : List Slave) → (t : IsServedToured lens recover retry slowest first fs again missed ws p cs) → AllReturned lens fs → ServedAsks t → ServedAnswers t → ServedWaits t → Counts fs again ws p cs
  counts _ _ _ _ _ _ IsServedToured.start back asks answers waits = record { run = IsRun.start None begins.0 begins.1; same = tt; slaves = begins.2; frames = refl }
  counts _ _ _ _ _ _ (IsServedToured.asks fs again missed ws p cs place key run may) back asks answers waits =
      let k = counts fs again missed ws p cs run back asks answers waits in
      record { run = k.run; same = k.same; slaves = subst (λ as'. AreLed as' cs) (sym (leads_asked place key ws)) k.slaves; frames = k.frames }
  counts _ _ _ _ _ _ (IsServedToured.lost fs again missed ws p cs f vs after ps run frame fate visit) back asks answers waits =
      let k = counts fs again missed ws p cs run (front_returned lens fs f back) asks answers waits in
      let us = map (lost_under (seen lens f.sent)) vs in
      let gives = gives_up_at lens recover retry missed in
      let t = lost_all fs again missed ws p cs k f vs frame in
      record {
        run = IsRun.lost p cs us gives (seen lens f.sent) (last_lost (nat_lt p.opened (length cs)) gives p.last ps) k.run t (visit_carries (speech_at lens) acknowledged is_followed is_passed p cs us (seen lens f.sent) again ps t k.same visit);
        same = visit_again (speech_at lens) acknowledged is_followed is_passed p cs us (seen lens f.sent) again ps t k.same visit recover slowest (first_served first) k.run gives;
        slaves = lost_led fs again missed ws p cs k f vs frame after fate;
        frames = one_more fs f p.frames k.frames;
      }
  counts _ _ _ _ _ _ (IsServedToured.opening fs again missed ws p cs f vs ps run frame fate under visit) back asks answers waits =
      let k = counts fs again missed ws p cs run (front_returned lens fs f back) asks.1 answers.1 waits in
      let us = map (back_under (seen lens f.back)) vs in
      let t = back_all fs again missed ws p cs k f vs frame in
      let b = all_bring seen_is lens recover retry p.frames f (at fs again missed ws p cs k f vs frame).datagrams (view fs again missed ws p cs k f vs frame) (last_returned lens fs f back fate) cs ws vs k.slaves (at fs again missed ws p cs k f vs frame).each asks.0 answers.0 in
      record {
        run = IsRun.opening p cs us (seen lens f.sent) (seen lens f.back) None k.run t b under (visit_carries (speech_at lens) acknowledged is_followed is_passed p cs us (seen lens f.sent) again ps t k.same visit under);
        same = tt;
        slaves = back_led fs again missed ws p cs k f vs frame fate;
        frames = one_more fs f p.frames k.frames;
      }
  counts _ _ _ _ _ _ (IsServedToured.round fs again missed ws p cs f vs ps run frame fate over visit) back asks answers waits =
      let k = counts fs again missed ws p cs run (front_returned lens fs f back) asks.1 answers.1 waits.1 in
      let us = map (back_under (seen lens f.back)) vs in
      let t = back_all fs again missed ws p cs k f vs frame in
      let b = all_bring seen_is lens recover retry p.frames f (at fs again missed ws p cs k f vs frame).datagrams (view fs again missed ws p cs k f vs frame) (last_returned lens fs f back fate) cs ws vs k.slaves (at fs again missed ws p cs k f vs frame).each asks.0 answers.0 in
      record {
        run = IsRun.round p cs us (seen lens f.sent) (seen lens f.back) ps k.run t b over (visit_rounds (speech_at lens) acknowledged is_followed is_passed p cs us (seen lens f.sent) again ps t k.same visit over) waits.0;
        same = tt;
        slaves = back_led fs again missed ws p cs k f vs frame fate;
        frames = one_more fs f p.frames k.frames;
      }
  counts _ _ _ _ _ _ (IsServedToured.enters fs again missed ws p cs f vs ps run frame fate over visit nothing) back asks answers waits =
      let k = counts fs again missed ws p cs run (front_returned lens fs f back) asks.1 answers.1 waits in
      let us = map (back_under (seen lens f.back)) vs in
      let t = back_all fs again missed ws p cs k f vs frame in
      let b = all_bring seen_is lens recover retry p.frames f (at fs again missed ws p cs k f vs frame).datagrams (view fs again missed ws p cs k f vs frame) (last_returned lens fs f back fate) cs ws vs k.slaves (at fs again missed ws p cs k f vs frame).each asks.0 answers.0 in
      record {
        run = IsRun.enters p cs us (seen lens f.sent) (seen lens f.back) ps k.run t b over (visit_rounds (speech_at lens) acknowledged is_followed is_passed p cs us (seen lens f.sent) again ps t k.same visit over) nothing;
        same = tt;
        slaves = back_led fs again missed ws p cs k f vs frame fate;
        frames = one_more fs f p.frames k.frames;
      }
