-- WHAT EACH OPEN SLAVE OF A SERVING IS TO ITS MASTER, by its epoch as the master leads it.
use Rattle.std.proofs.Common.{◌≡◌, ◌≢◌, ℕ, suc, ◌&&◌, Bool, true, false, Option, Some, None, List, [], ◌∷◌, map, refl, sym, ap, ap₂, ◌∙◌, subst}
use Rattle.std.specs.Prelude.{All}
use Rattle.std.proofs.lemmas.List.Elements.{All-head, All-tail}
use Rattle.idle_slaves.specs.of_slave_model.Moments.{IsFree, NowAnswered}
use Rattle.idle_slaves.specs.of_slave_model.Waits.{NeverWaits}
use Rattle.idle_slaves.specs.Eager.{MayBegin, NoneLeft}
use Rattle.idle_slaves.specs.Visited.{IsLeft, LifeSpent, is_boxed, is_served}
use Rattle.idle_slaves.proofs.Fits.{AllSeated, IsFit, IsSeated, ToldWhole, exchange_at}
use Rattle.idle_slaves.proofs.Opened.{answered_is}
use Rattle.idle_slaves.proofs.Settled.{is_left}
use Rattle.idle_slaves.specs.of_exchange_model.Exchange.{Speech}
use Rattle.idle_slaves.specs.of_frame_view.View.{Lens}
use Rattle.served_rings.specs.Led.{LedEra}
use Rattle.served_rings.specs.Lives.{LedKept, LedLeft, LedYet}
use Rattle.served_rings.specs.LedRings.{AllLedMembers, LedMember}
use Rattle.idle_slaves.specs.of_life_model.Eras.{planned}
use Rattle.idle_slaves.specs.of_life_model.Lives.{Era, Life, Spot, Stand}
use Rattle.idle_slaves.specs.of_life_runs.First.{lens_of, spot_of}
use Rattle.idle_slaves.specs.of_life_runs.Led.{speech_at}
use Rattle.idle_slaves.specs.of_link_mails.Body.{Body}
use Rattle.served_rings.specs.of_master_duty.Reply.{Reply}
use Rattle.served_rings.specs.of_master_hand.Spoken.{Asked, acknowledged, hand_speech, is_followed, is_passed}
use Rattle.served_rings.specs.of_few_replies.Heard.{EraPasses}
use Rattle.idle_slaves.specs.of_plan_ring.PlanMet.{slave_at}
use Rattle.idle_slaves.specs.of_plan_ring.Plan.{AllMacs, FitsPlan, plan_of, step}
use Rattle.served_rings.specs.Speakers.{any_speaker, processor_of, seer_of, spoken, table_of}
use Rattle.seen_slaves.specs.Fits.{FitsSo, HasNone}
use Rattle.seen_slaves.proofs.Fits.{fits}
use Rattle.seen_slaves.proofs.Speaks.{first, plans_some, silent}
use Rattle.idle_slaves.specs.of_segment_model.Ends.{Passing}
use Rattle.idle_slaves.specs.of_segment_model.Record.{Frame}
use Rattle.idle_slaves.specs.of_segment_model.Slaves.{serving}
use Rattle.idle_slaves.specs.of_segment_plan.Sound.{IsSlave}
use Rattle.idle_slaves.specs.of_segment_plan.declared.plan.Scenario.{Scenario}
use Rattle.idle_slaves.specs.of_segment_plan.declared.slave.SlaveSpec.{SlaveSpec}
use Rattle.served_rings.specs.Serves.{serves}
use Rattle.served_rings.specs.Rings.{AllServedAt, IsServedAt, ServedMember, counters_of, served_member, served_members}
use Rattle.seen_slaves.specs.Rows.{PassesSo, ToldSo}
use Rattle.idle_slaves.specs.of_life_runs.Served.{Serves}
use Rattle.seen_slaves.specs.Eager.{leads_of}
use Rattle.idle_slaves.specs.of_slave_lives.Lived.{node_seen}
use Rattle.idle_slaves.specs.of_slave_model.Profile.{IsProfile, Profile, areas_of}
use Rattle.idle_slaves.specs.of_slave_parts.Parts.{Server, parts}
use Rattle.idle_slaves.specs.of_slave_parts.Served.{product_whole}
use Rattle.idle_slaves.specs.of_slave_server.Serving.{Serving}
use Rattle.idle_slaves.specs.of_slave_server.Spec.{profile_of}
use Rattle.idle_slaves.specs.of_slave_node.Node.{Node}
use Rattle.seen_slaves.proofs.Told.{none_sent, none_waits}
use Rattle.idle_slaves.specs.of_state_model.Families.{InState}
use Rattle.served_rings.specs.of_life_counts.Epochs.{AllFair, IsRun, IsSeen, IsSpeaker, between, seeing, seeing_states}
use Rattle.served_rings.proofs.of_life_counts.TaggedWhole.{epoch_seen}
use Rattle.idle_slaves.specs.of_state_model.Accounts.{Started}
use Rattle.idle_slaves.specs.of_state_model.Tasks.{IsTaskPlan}
use Rattle.served_rings.specs.of_whole_ring.Members.{AllLived}
use Rattle.served_rings.specs.of_whole_ring.Whole.{LivesOpenBy, StandsBy}

-- A SLAVE OF A PLAN AND ITS MASTER keep the laws of both, with any mails passed on; and no client of the slave waits in vain
pub record Laws : Type 0 where
  pub speaks : (p : Profile) → IsProfile p → IsSpeaker (any_speaker p)
  pub runs : (p : Profile) (boot : Bool) (station : ℕ) → IsRun (any_speaker p) (spoken p) (processor_of boot) (seer_of p boot) (table_of boot station)
  pub never : (p : Profile) → IsProfile p → NeverWaits (product_whole parts p)

-- what of an open slave depends on how its master speaks
record ByMaster (lens : ℕ → Lens) (s : SlaveSpec) (l : Life Body Asked Reply) (n : Node Serving) (y : Speech Body Asked Reply) : Type 0 where
  answered : NowAnswered y l.era.side
  whole : ToldWhole y acknowledged l.era
  frees : LifeSpent (serving (exchange_at lens s)) l (slave_at lens s n).node → NoneLeft y l → MayBegin y l
  silent : (q : Asked) → y.ends q [] ≡ None
  first : (q : Asked) → y.valid q ≡ true → y.planned q [] ≢ []

-- any mail is fair to it
pub all_fair : (p : Profile) (ts : List (Started Asked)) → AllFair (any_speaker p) ts
all_fair p [] = tt
all_fair p (t ∷ ts) = ((λ q m is named. refl), all_fair p ts)

-- an epoch as its master leads it is planned for where it is seen what is meant by its mails
pub plan_seen : (lens : ℕ → Lens) (s : SlaveSpec) (spot : Spot) (from : InState Server) (counts : Bool) (e : Era Body Asked Reply) (gs : List (Frame Body)) (n : Node Serving) (era : LedEra (serves (profile_of s) s.boot lens) is_followed is_passed spot from counts e gs n) →
    IsTaskPlan (seeing (any_speaker (profile_of s))) (seeing_states (any_speaker (profile_of s))) (seer_of (profile_of s) s.boot) (table_of s.boot) (planned spot (between era.server) era.registers ∷ [])
plan_seen lens s spot from counts e gs n era =
    let plain = era.plan in
    record {
      plan = record { stations = plain.plan.stations; ready = (ap₂ (λ (a b : Bool). a && b) plain.plan.ready.0 refl, tt) };
      apart = plain.apart;
      tells = λ state v. refl;
      brought = ((plain.brought.0.0, λ answers. let b = plain.brought.0.1 answers in record { control = b.control; refused = b.refused; sits = b.sits; state = b.state }), tt);
    }

module _ (laws : Laws) (plan : Scenario) (gs : List (Frame Body)) where
  abbrev lens : ℕ → Lens
  lens = lens_of plan.slaves

  -- ---- ONE SLAVE THAT IS OPEN
  module _ (place : ℕ) (s : SlaveSpec) (profile : IsProfile (profile_of s)) (w : Serves) (n : Node Serving) (at : IsServedAt plan place s w) (out : (lens_of plan.slaves s.station).out ≡ s.out_len) (back : (lens_of plan.slaves s.station).back ≡ s.in_len)
      (passes : PassesSo (lens_of plan.slaves) w) (told : ToldSo w) (from : InState Server)
      (opens : w.lead.lived.life.stand ≡ Stand.Open)
      (lives : LivesOpenBy (serves (profile_of s) s.boot (lens_of plan.slaves)) from w.lead.lived.life.era (λ a e hs m. LedKept (serves (profile_of s) s.boot (lens_of plan.slaves)) is_followed is_passed (spot_of place s) w.kept w.counts a e hs m) gs n) where
    abbrev p : Profile
    p = profile_of s

    abbrev x : Speech Body Asked Reply
    x = hand_speech (areas_of (profile_of s))

    abbrev l : Life Body Asked Reply
    l = w.lead.lived.life

    abbrev counts : Bool
    counts = lives.lives.epoch.led

    abbrev era : LedEra (serves (profile_of s) s.boot (lens_of plan.slaves)) is_followed is_passed (spot_of place s) from lives.lives.epoch.led w.lead.lived.life.era gs n
    era = lives.lives.epoch.era

    speech_is : x ≡ speech_at lens w.lead.lived.spot
    speech_is = (λ j. hand_speech (record { out = sym out j; back = sym back j })) ∙ ap (speech_at lens) (sym at.spot)

    -- its epoch is seen with what is meant by its mails
    seen : IsSeen (any_speaker p) (seer_of p s.boot) (table_of s.boot) (spot_of place s) era.opened era.server era.registers gs counts l.era (node_seen (serves p s.boot lens) n)
    seen = epoch_seen (any_speaker p) (laws.speaks p profile) (spoken p) (processor_of s.boot) (seer_of p s.boot) (table_of s.boot) (spot_of place s) (laws.runs p s.boot s.station) era.opened era.server era.registers (plan_seen lens s (spot_of place s) from counts l.era gs n era) era.answers
        gs counts l.era (node_seen (serves p s.boot lens) n) era.led (all_fair p l.era.account.started)

    so : FitsSo (spoken p) (processor_of s.boot) (table_of s.boot s.station) x acknowledged is_followed is_passed l.era (node_seen (serves p s.boot lens) n)
    so = fits (any_speaker p) (laws.speaks p profile) (laws.never p profile) (spoken p) (processor_of s.boot) (seer_of p s.boot) (table_of s.boot) (spot_of place s) (laws.runs p s.boot s.station) era.opened era.server era.registers
        gs counts l.era (node_seen (serves p s.boot lens) n) seen

    row : EraPasses x is_followed is_passed l.era
    row = subst (λ (y : Speech Body Asked Reply). EraPasses y is_followed is_passed l.era) (sym speech_is) passes.row

    -- ---- WHERE NOTHING IS LEFT of it no mail that is passed on is under way
    passing_none : HasNone x l.era (slave_at lens s n) → LifeSpent (serving (exchange_at lens s)) l (slave_at lens s n).node → (o : Option Passing) → l.era.passing ≡ o → l.era.passing ≡ None
    passing_none none spent None e = e
    passing_none none spent (Some Passing.Waiting) e = absurd (none_waits x is_followed is_passed l.era (plans_some (any_speaker p) (laws.speaks p profile)) row (told opens) none.held none.left e)
    passing_none none spent (Some Passing.Sent) e = absurd (none_sent x is_followed is_passed l.era (plans_some (any_speaker p) (laws.speaks p profile)) row (told opens) none.held none.left e)
    passing_none none spent (Some Passing.Boxed) e = absurd (let no : true ≡ false = sym (ap is_boxed e) ∙ spent.shows.hand.1 in cc)
    passing_none none spent (Some Passing.Served) e = absurd (let no : true ≡ false = sym (ap is_served e) ∙ spent.unserved in cc)
    passing_none none spent (Some Passing.Answered) e = absurd (so.awaits none row passes.last e)

    by_hand : ByMaster lens s l n x
    by_hand = record {
      answered = λ r is. answered_is x l.era.side.now r lives.lives.answered is;
      whole = so.told;
      frees = λ spent left.
          let k : IsLeft l (slave_at lens s n) = is_left (exchange_at lens s) l (slave_at lens s n) spent in
          let none : HasNone x l.era (slave_at lens s n) = record { settled = k.settled; held = k.held; clear = k.clear; hand = k.hand; left = left } in
          let free : IsFree x acknowledged l.era.side = so.free none in
          record { free = free.free; done = free.done; hand = k.hand; passing = passing_none none spent l.era.passing refl };
      silent = silent (any_speaker p) (laws.speaks p profile);
      first = first (any_speaker p) (laws.speaks p profile) (laws.never p profile) era.server era.plan.plan.ready.0;
    }

    fit : IsFit lens s w.lead.lived.spot l n
    fit =
        let by : ByMaster lens s l n (speech_at lens w.lead.lived.spot) = subst (λ (y : Speech Body Asked Reply). ByMaster lens s l n y) speech_is by_hand in
        record {
          here = era.station;
          link = so.link;
          alone = record { registers = so.alone.registers; node = so.alone.node };
          come = so.come;
          answered = by.answered;
          told = by.whole;
          frees = by.frees;
          silent = by.silent;
          first = by.first;
        }

  -- by how its master stands to it
  abbrev pub Lives : ℕ → SlaveSpec → Serves → InState Server → Stand → Node Serving → Type 0
  Lives place s w from stand n = StandsBy (serves (profile_of s) s.boot lens) (λ a e hs m. LedKept (serves (profile_of s) s.boot lens) is_followed is_passed (spot_of place s) w.kept w.counts a e hs m)
      (λ a e hs m. LedYet (serves (profile_of s) s.boot lens) is_followed is_passed (spot_of place s) a e hs m) (λ a e hs z. LedLeft (serves (profile_of s) s.boot lens) is_followed is_passed (spot_of place s) a e z)
      (plan_of s) (spot_of place s) from w.lead.lived.life.era gs stand n

  pub open_lives : (place : ℕ) (s : SlaveSpec) (w : Serves) (n : Node Serving) (from : InState Server) (stand : Stand) → stand ≡ Stand.Open → Lives place s w from stand n →
      LivesOpenBy (serves (profile_of s) s.boot lens) from w.lead.lived.life.era (λ a e hs m. LedKept (serves (profile_of s) s.boot lens) is_followed is_passed (spot_of place s) w.kept w.counts a e hs m) gs n
  open_lives place s w n from (Stand.Opens o) e now = absurd (let no : Stand.Opens o ≡ Stand.Open = e in cc)
  open_lives place s w n from Stand.Open e now = now
  open_lives place s w n from Stand.Gone e now = absurd (let no : Stand.Gone ≡ Stand.Open = e in cc)

  seated : (place : ℕ) (s : SlaveSpec) → IsProfile (profile_of s) → (w : Serves) (n : Node Serving) → IsServedAt plan place s w → (lens_of plan.slaves s.station).out ≡ s.out_len → (lens_of plan.slaves s.station).back ≡ s.in_len →
      PassesSo (lens_of plan.slaves) w → ToldSo w → LedMember is_followed is_passed gs (served_member lens place s w n) (counters_of w) → IsSeated lens s w.lead n
  seated place s profile w n at out back passes told led = record {
    station = ap (λ (z : Spot). z.station) at.spot;
    fits = λ opens. fit place s profile w n at out back passes told led.from opens (open_lives place s w n led.from w.lead.lived.life.stand opens led.now);
  }

  -- ALL SLAVES
  pub all_seated : (place : ℕ) (ss : List SlaveSpec) (ws : List Serves) (ns : List (Node Serving)) → All IsSlave ss → AllMacs ss → AllLedMembers is_followed is_passed gs (served_members (lens_of plan.slaves) place ss ws ns) (map counters_of ws) →
      AllLived (lens_of plan.slaves) step (FitsPlan plan.slaves) gs place (served_members (lens_of plan.slaves) place ss ws ns) → AllServedAt plan place ss ws ns → All (PassesSo (lens_of plan.slaves)) ws → All ToldSo ws → AllSeated (lens_of plan.slaves) ss (leads_of ws) ns
  all_seated place [] [] [] slaves macs led lived at passes told = tt
  all_seated place [] [] (n ∷ ns) slaves macs led lived at passes told = absurd at
  all_seated place [] (w ∷ ws) ns slaves macs led lived at passes told = absurd at
  all_seated place (s ∷ ss) [] ns slaves macs led lived at passes told = absurd at
  all_seated place (s ∷ ss) (w ∷ ws) [] slaves macs led lived at passes told = absurd at
  all_seated place (s ∷ ss) (w ∷ ws) (n ∷ ns) slaves macs led lived at passes told =
      let here : IsSlave s = All-head IsSlave s ss slaves in
      let profile : IsProfile (profile_of s) = record { out_least = here.out_least; out_most = here.out_most; back_least = here.in_least; back_most = here.in_most; mac = macs.0 } in (
        seated place s profile w n at.0 lived.0.whole.plan.lens_out lived.0.whole.plan.lens_back (All-head (PassesSo lens) w ws passes) (All-head ToldSo w ws told) led.0,
        all_seated (suc place) ss ws ns (All-tail IsSlave s ss slaves) macs.1 led.1 lived.1 at.1 (All-tail (PassesSo lens) w ws passes) (All-tail ToldSo w ws told),
      )

-- ---- their nodes and paces
module _ (plan : Scenario) where
  pub nodes_are : (place : ℕ) (ss : List SlaveSpec) (ws : List Serves) (ns : List (Node Serving)) → AllServedAt plan place ss ws ns → map (λ (m : ServedMember). m.node) (served_members (lens_of plan.slaves) place ss ws ns) ≡ ns
  nodes_are place [] [] [] at = refl
  nodes_are place [] [] (n ∷ ns) at = absurd at
  nodes_are place [] (w ∷ ws) ns at = absurd at
  nodes_are place (s ∷ ss) [] ns at = absurd at
  nodes_are place (s ∷ ss) (w ∷ ws) [] at = absurd at
  nodes_are place (s ∷ ss) (w ∷ ws) (n ∷ ns) at = ap (λ (ks : List (Node Serving)). n ∷ ks) (nodes_are (suc place) ss ws ns at.1)

  pub paces_are : (place : ℕ) (ss : List SlaveSpec) (ws : List Serves) (ns : List (Node Serving)) → AllServedAt plan place ss ws ns → map (λ (m : ServedMember). m.pace) (served_members (lens_of plan.slaves) place ss ws ns) ≡ map (λ (w : Serves). w.pace) ws
  paces_are place [] [] [] at = refl
  paces_are place [] [] (n ∷ ns) at = absurd at
  paces_are place [] (w ∷ ws) ns at = absurd at
  paces_are place (s ∷ ss) [] ns at = absurd at
  paces_are place (s ∷ ss) (w ∷ ws) [] at = absurd at
  paces_are place (s ∷ ss) (w ∷ ws) (n ∷ ns) at = ap (λ (ks : List ℕ). w.pace ∷ ks) (paces_are (suc place) ss ws ns at.1)
