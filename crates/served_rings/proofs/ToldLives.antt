-- EPOCH BY EPOCH, what the master of a serving has of each slave is what the frames give: the newest by its node's life, and those that are over as they were then.
use Rattle.std.proofs.Common.{◌≡◌, ◌≢◌, ℕ, zero, suc, ◌==◌, ◌&&◌, Bool, true, false, Option, None, Some, List, [], ◌∷◌, ◌++◌, map, length, refl, ap, sym, ◌∙◌, subst, arith, length-append}
use Rattle.std.specs.Prelude.{All, ⊤, if◌then◌else◌, replicate}
use Rattle.std.proofs.lemmas.List.{map-append, length-map}
use Rattle.std.proofs.lemmas.List.Elements.{All-head, All-tail}
use Rattle.served_places.proofs.of_life_model.Grows.{same_part}
use Rattle.served_places.specs.of_datagrams.Datagram as Raw
use Rattle.served_places.specs.of_exchange_model.Exchange.{Speech, IsLawful}
use Rattle.run_work.specs.of_frame_view.Seen.{seen}
use Rattle.run_work.specs.of_frame_view.View.{Lens}
use Rattle.run_work.specs.of_frame_view.Shares.{came_at, given_where}
use Rattle.served_places.specs.of_life_model.Eras.{era_frames}
use Rattle.served_places.specs.of_life_model.Lives.{Spot, Era, Life, Opening, Stand, clears, era_back, is_shown, last_step, life_back, life_lost, life_next, opening_back, opens, opens_state, reopening, reopens, reopens_at, returns_to_init, shows_clear, steps_on}
use Rattle.served_places.specs.of_life_model.Own.{blank, own_frame}
use Rattle.served_places.specs.of_life_runs.First.{first_leads, leads_from, lens_of, spot_of}
use Rattle.served_places.specs.of_life_runs.Led.{Exchanged, gives_up_at, missed_behind, speech_at}
use Rattle.served_places.specs.of_link_mails.Body.{Body}
use Rattle.run_work.specs.of_master_duty.Reply.{Reply}
use Rattle.run_work.specs.of_master_hand.Spoken.{Asked, acknowledged, is_followed, is_passed}
use Rattle.run_work.specs.of_master_side.Passing.{news_back, news_lost}
use Rattle.run_work.specs.of_plan_ring.Asked.{asked}
use Rattle.run_work.specs.of_plan_ring.Epochs.{IsTold}
use Rattle.run_work.specs.of_plan_ring.Plan.{AllMacs, FitsPlan, plan_of, step}
use Rattle.run_work.specs.of_plan_ring.Round.{AllRound, all_seen, frame_seen, ring_of}
use Rattle.run_work.proofs.of_plan_ring.Lives.{front_round}
use Rattle.served_places.specs.of_segment_model.Record.{Frame, News, heard}
use Rattle.served_places.specs.of_segment_model.Slaves.{Datagram, Found}
use Rattle.run_work.specs.of_segment_plan.Sound.{IsSlave}
use Rattle.run_work.specs.of_segment_plan.declared.plan.Scenario.{Scenario}
use Rattle.run_work.specs.of_segment_plan.declared.service.Service as Plan
use Rattle.run_work.specs.of_segment_plan.declared.slave.SlaveSpec.{SlaveSpec}
use Rattle.served_places.specs.of_segment_ring.declared.wire.Fate.{Fate}
use Rattle.served_places.specs.of_segment_ring.declared.wire.Fate.TheVariants.{Pass, Lost}
use Rattle.served_rings.specs.Rings.{AllServedAt, AreServedLived, served_members}
use Rattle.served_rings.specs.Clearing.{serves_clearing}
use Rattle.served_rings.specs.Serves.{serves}
use Rattle.served_rings.specs.Speakers.{processor_of, spoken, spoken_states, table_of}
use Rattle.served_rings.specs.ToldEras.{AllToldEras, AllToldLives, IsToldEra, IsToldLife, IsToldNewest, WasToldEra, next_cleared, unpassed_era}
use Rattle.served_rings.proofs.HeardTold.{era_heard}
use Rattle.served_rings.proofs.ServedLives.{not_open, gone_not_open}
use Rattle.served_rings.proofs.ToldTasks.{era_told}
use Rattle.served_rings.proofs.Unpassed.{silent, silent_lawful}
use Rattle.served_places.specs.of_life_runs.Served.{Keyed, Serves, ServedTurn, AllServedTurn, IsServedLed, all_serve, asked_at, served_behind, served_life}
use Rattle.run_work.specs.of_slave_lives.Ends.{LeftEra}
use Rattle.run_work.specs.of_slave_lives.Lived.{Behind, LivesEra, node_seen}
use Rattle.run_work.specs.of_slave_lives.Opening.{Plan}
use Rattle.run_work.specs.of_slave_lives.Stands.{opening_again}
use Rattle.run_work.specs.of_slave_model.Profile.{Profile, IsProfile}
use Rattle.run_work.specs.of_slave_parts.Parts.{Core, Server}
use Rattle.run_work.specs.of_protocol_models.Network.{Station}
use Rattle.run_work.specs.of_slave_server.Serving.{Serving}
use Rattle.run_work.specs.of_slave_server.Spec.{profile_of}
use Rattle.run_work.specs.of_slave_node.Node.{Node}
use Rattle.served_places.specs.of_state_model.Families.{InState}
use Rattle.served_places.specs.of_state_model.Accounts.{Duty, Pick, Stage}
use Rattle.run_work.specs.of_whole_ring.Members.{AllLived}
use Rattle.run_work.specs.of_whole_ring.Whole.{IsWhole, OpensAs, OpensBy, StandsAs}

-- ---- A LIFE FROM ONE FRAME TO THE NEXT: its newest epoch goes on, or the frame of this number shows the return to Init behind it
data Moves (made : ℕ) (l m : Life Body Asked Reply) : Type 0 where
  stays : m.past ≡ l.past → m.era.cleared ≡ l.era.cleared → Moves made l m
  ends : m.past ≡ l.past ++ l.era ∷ [] → m.era.cleared ≡ Some made → Moves made l m

module _ (made : ℕ) where
  opening_moves : (l : Life Body Asked Reply) (o : Opening) (done : Bool) (found : Option Found) → Moves made l (opening_back made l o done found)
  opening_moves l o done found = go (shows_clear o) (done && is_shown 1 found) (o.step == last_step o) (done && is_shown o.state found)
    where
      go : (shows seen_so last there : Bool) → Moves made l (if shows then (if seen_so then clears made l o else l) else if last then (if there then opens made l else l) else steps_on l o)
      go true true last there = Moves.ends refl refl
      go true false last there = Moves.stays refl refl
      go false seen_so true true = Moves.stays refl refl
      go false seen_so true false = Moves.stays refl refl
      go false seen_so false there = Moves.stays refl refl

  reopens_moves : (l m : Life Body Asked Reply) (hand : Option Duty) → m.past ≡ l.past → m.era.cleared ≡ l.era.cleared → Moves made l (reopens m hand)
  reopens_moves l m None p c = Moves.stays p c
  reopens_moves l m (Some duty) p c = go duty.stage
    where
      by : (b : Bool) → Moves made l (if b then record m { stand = reopening (opens_state duty.target) true } else m)
      by true = Moves.stays p c
      by false = Moves.stays p c

      go : (stage : Stage) → Moves made l (reopens_at m duty.target stage)
      go Stage.Drains = Moves.stays p c
      go (Stage.Goes phase) = by (returns_to_init duty.target)

  module _ (x : Speech Body Asked Reply) (spot : Spot) (news : List (News Body)) where
    back_shut : (back : List (Datagram Body)) (came : Option (Bool × Option Found)) (l : Life Body Asked Reply) (stand : Stand) → stand ≢ Stand.Open → Moves made l (life_back x acknowledged is_followed is_passed made spot news back came l stand)
    back_shut back None l (Stand.Opens o) shut = Moves.stays refl refl
    back_shut back (Some came) l (Stand.Opens o) shut = opening_moves l o came.0 came.1
    back_shut back came l Stand.Open shut = absurd (shut refl)
    back_shut back came l Stand.Gone shut = Moves.stays refl refl

    back_open : (back : List (Datagram Body)) (came : Option (Bool × Option Found)) (l m : Life Body Asked Reply) (stand : Stand) → stand ≡ Stand.Open → m.past ≡ l.past → m.era.cleared ≡ l.era.cleared →
        Moves made l (life_back x acknowledged is_followed is_passed made spot news back came m stand)
    back_open back came l m (Stand.Opens o) stands p c = absurd (cc)
    back_open back came l m Stand.Open stands p c =
        let e = era_back x acknowledged is_followed is_passed spot.station made news back m.era in
        reopens_moves l (record m { era = e }) e.account.hand p c
    back_open back came l m Stand.Gone stands p c = absurd (cc)

    lost_moves : (sent : List (Datagram Body)) (l m : Life Body Asked Reply) (stand : Stand) → m.past ≡ l.past → m.era.cleared ≡ l.era.cleared → Moves made l (life_lost x acknowledged is_followed is_passed spot news sent m stand)
    lost_moves sent l m (Stand.Opens o) p c = Moves.stays p c
    lost_moves sent l m Stand.Open p c = Moves.stays p c
    lost_moves sent l m Stand.Gone p c = Moves.stays p c

  given_moves : (gives : Bool) (recover : ℕ) (spot : Spot) (l m : Life Body Asked Reply) → Moves made l m → Moves made l (given_where gives recover spot made m)
  given_moves false recover spot l m k = k
  given_moves true recover spot l m (Moves.stays p c) = Moves.stays p c
  given_moves true recover spot l m (Moves.ends p c) = Moves.ends p c

  -- with what came into hand before it
  module _ (x y : Speech Body Asked Reply) (l : Life Body Asked Reply) (pick : Pick Asked) where
    abbrev next : Stand → Life Body Asked Reply
    next stand = life_next x acknowledged is_followed is_passed made l stand pick

    back_moves : (spot : Spot) (news : List (News Body)) (back : List (Datagram Body)) (came : Option (Bool × Option Found)) (stand : Stand) → l.stand ≡ stand → Moves made l (life_back y acknowledged is_followed is_passed made spot news back came (next stand) (next stand).stand)
    back_moves spot news back came (Stand.Opens o) stands = back_shut y spot news back came l l.stand (λ no. not_open o (sym stands ∙ no))
    back_moves spot news back came Stand.Open stands = back_open y spot news back came l (next Stand.Open) l.stand stands refl refl
    back_moves spot news back came Stand.Gone stands = back_shut y spot news back came l l.stand (λ no. gone_not_open (sym stands ∙ no))

    loses : (spot : Spot) (news : List (News Body)) (sent : List (Datagram Body)) (stand : Stand) → Moves made l (life_lost y acknowledged is_followed is_passed spot news sent (next stand) (next stand).stand)
    loses spot news sent (Stand.Opens o) = lost_moves y spot news sent l l l.stand refl refl
    loses spot news sent Stand.Open = lost_moves y spot news sent l (next Stand.Open) l.stand refl refl
    loses spot news sent Stand.Gone = lost_moves y spot news sent l l l.stand refl refl

module _ (lens : ℕ → Lens) (recover retry : ℕ) where
  -- BY A FRAME of whichever fate
  life_moves : (gives : Bool) (made : ℕ) (f : Exchanged) (fate : Fate) (v : ServedTurn) (x : Speech Body Asked Reply) (l : Life Body Asked Reply) (pick : Pick Asked) → v.turn.lived.life ≡ life_next x acknowledged is_followed is_passed made l l.stand pick →
      Moves made l (served_life lens recover retry gives made f fate v).life
  life_moves gives made f Pass v x l pick same =
      let spot = v.turn.lived.spot in
      let back = seen lens f.back in
      let news = news_back spot.station v.kept v.counts back in
      let came = came_at v.turn.share.under v.turn.share.at back in
      subst (λ (m : Life Body Asked Reply). Moves made l (life_back (speech_at lens spot) acknowledged is_followed is_passed made spot news back came m m.stand)) (sym same)
      (back_moves made x (speech_at lens spot) l pick spot news back came l.stand refl)
  life_moves gives made f (Lost after) v x l pick same =
      let spot = v.turn.lived.spot in
      let sent = seen lens f.sent in
      let news = news_lost spot.station v.kept sent in
      given_moves made (gives && v.turn.share.under) recover spot l (life_lost (speech_at lens spot) acknowledged is_followed is_passed spot news sent v.turn.lived.life v.turn.lived.life.stand)
      (subst (λ (m : Life Body Asked Reply). Moves made l (life_lost (speech_at lens spot) acknowledged is_followed is_passed spot news sent m m.stand)) (sym same)
      (loses made x (speech_at lens spot) l pick spot news sent l.stand))

-- ---- AS MORE FRAMES COME what is over stays
module _ {S V A : Type 0} (w : Behind S V A Asked Reply) (spot : Spot) (fs gs : List (Frame Body)) where
  era_stays : (e : Era Body Asked Reply) (until : ℕ) → IsToldEra w spot fs e until → IsToldEra w spot (fs ++ gs) e until
  era_stays e until t =
      let within = t.within in
      let same : era_frames spot t.opened until (fs ++ gs) ≡ era_frames spot t.opened until fs =
      ap (λ l. replicate (suc t.opened) blank ++ map (λ f. own_frame spot.station spot.place f) l) (same_part (suc t.opened) until fs gs within) in
      record {
        opened = t.opened;
        opened_at = t.opened_at;
        before = t.before;
        within = omega (arith, within, length-append fs gs);
        told = subst (λ ks. IsTold w is_followed spot ks (unpassed_era e)) (sym same) t.told;
        in_rows = ap (heard spot.station) same ∙ t.in_rows;
      }

  was_stays : (cleared : Option ℕ) (e : Era Body Asked Reply) → WasToldEra w spot fs cleared e → WasToldEra w spot (fs ++ gs) cleared e
  was_stays cleared e (WasToldEra.unopened a b) = WasToldEra.unopened a b
  was_stays cleared e (WasToldEra.opened until t late) = WasToldEra.opened until (era_stays e until t) late

  all_stay : (es : List (Era Body Asked Reply)) (cleared : Option ℕ) → AllToldEras w spot fs es cleared → AllToldEras w spot (fs ++ gs) es cleared
  all_stay [] cleared all = tt
  all_stay (e ∷ es) cleared all = (was_stays (next_cleared es cleared) e all.0, all_stay es cleared all.1)

-- ---- ONE MORE IS OVER
module _ {S V A : Type 0} (w : Behind S V A Asked Reply) (spot : Spot) (fs : List (Frame Body)) where
  newest_over : (made : ℕ) (e : Era Body Asked Reply) (stand : Stand) → length fs ≡ made → IsToldNewest w spot fs e stand → WasToldEra w spot fs (Some made) e
  newest_over made e _ same (IsToldNewest.lives t) = WasToldEra.opened (length fs) t (λ frame is. (let one : made ≡ frame = cc in omega (arith, one, same)))
  newest_over made e _ same (IsToldNewest.unopened stand shut a b) = WasToldEra.unopened a b
  newest_over made e _ same (IsToldNewest.over stand shut until t) = WasToldEra.opened until t (λ frame is. (let one : made ≡ frame = cc in let within = t.within in omega (arith, one, same, within)))

  next_push : (es : List (Era Body Asked Reply)) (e : Era Body Asked Reply) (cleared : Option ℕ) → next_cleared (es ++ e ∷ []) cleared ≡ next_cleared es e.cleared
  next_push [] e cleared = refl
  next_push (d ∷ es) e cleared = refl

  all_push : (es : List (Era Body Asked Reply)) (e : Era Body Asked Reply) (cleared : Option ℕ) → AllToldEras w spot fs es e.cleared → WasToldEra w spot fs cleared e → AllToldEras w spot fs (es ++ e ∷ []) cleared
  all_push [] e cleared all one = (one, tt)
  all_push (d ∷ es) e cleared all one = (subst (λ c. WasToldEra w spot fs c d) (sym (next_push es e cleared)) all.0, all_push es e cleared all.1 one)

  -- BEHIND ONE FRAME MORE
  past_moves : (made : ℕ) (f : Frame Body) (l m : Life Body Asked Reply) → length fs ≡ made → IsToldLife w spot fs l → Moves made l m → AllToldEras w spot (fs ++ f ∷ []) m.past m.era.cleared
  past_moves made f l m same told (Moves.stays p c) =
      subst (λ es. AllToldEras w spot (fs ++ f ∷ []) es m.era.cleared) (sym p) (subst (λ k. AllToldEras w spot (fs ++ f ∷ []) l.past k) (sym c) (all_stay w spot fs (f ∷ []) l.past l.era.cleared told.past))
  past_moves made f l m same told (Moves.ends p c) =
      subst (λ es. AllToldEras w spot (fs ++ f ∷ []) es m.era.cleared) (sym p) (subst (λ k. AllToldEras w spot (fs ++ f ∷ []) (l.past ++ l.era ∷ []) k) (sym c)
      (all_stay w spot fs (f ∷ []) (l.past ++ l.era ∷ []) (Some made) (all_push l.past l.era (Some made) told.past (newest_over made l.era l.stand same told.newest))))

-- ---- THE NEWEST EPOCH, as its node lives it
module _ (p : Profile) (boot : Bool) (lens : ℕ → Lens) (law : IsLawful (silent p boot lens)) (spot : Spot) (fs : List (Frame Body)) where
  abbrev real : Behind Serving (InState Server) (InState Server) Asked Reply
  real = serves p boot lens

  abbrev w : Behind Serving (InState Server) (InState (Station Core)) Asked Reply
  w = asked p boot lens

  lives_told : (from : InState Server) (e : Era Body Asked Reply) (n : Node Serving) → LivesEra real spot from e fs n → IsToldEra w spot fs e (length fs)
  lives_told from e n l = record {
    opened = l.opened;
    opened_at = l.is.opened_at;
    before = l.before;
    within = omega arith;
    told = era_told p boot lens law spot e l.opened (length fs) fs l.server l.registers (node_seen real n) l.is;
    in_rows = era_heard (spoken p) spoken_states (processor_of boot) (table_of boot) spot e l.opened (length fs) fs l.server l.registers (node_seen real n) l.is;
  }

  left_told : (from : InState Server) (e : Era Body Asked Reply) (k : Serving) (l : LeftEra real spot from e fs k) → IsToldEra w spot fs e l.until
  left_told from e k l = record {
    opened = l.opened;
    opened_at = l.is.opened_at;
    before = l.before;
    within = l.within;
    told = era_told p boot lens law spot e l.opened l.until fs l.server l.registers l.slave l.is;
    in_rows = era_heard (spoken p) spoken_states (processor_of boot) (table_of boot) spot e l.opened l.until fs l.server l.registers l.slave l.is;
  }

  opens_told : (plan : Plan) (from : InState Server) (e : Era Body Asked Reply) (stand : Stand) → stand ≢ Stand.Open → (o : Opening) (n : Node Serving) → OpensAs real plan spot from e fs o n → IsToldNewest w spot fs e stand
  opens_told plan from e stand shut o n (OpensBy.yet again at is still) = IsToldNewest.over stand shut (length fs) (lives_told from e n still.lives.epoch)
  opens_told plan from e stand shut o n (OpensBy.anew closing x start) =
      IsToldNewest.unopened stand shut (ap (λ (d : Era Body Asked Reply). d.opened) x.is_new) (ap (λ (d : Era Body Asked Reply). d.account.started) x.is_new)
  opens_told plan from e stand shut o n (OpensBy.over closing again early x) = IsToldNewest.over stand shut x.left.until (left_told from e x.server x.left)

  newest_told : (plan : Plan) (from : InState Server) (e : Era Body Asked Reply) (stand : Stand) (n : Node Serving) → StandsAs real plan spot from e fs stand n → IsToldNewest w spot fs e stand
  newest_told plan from e (Stand.Opens o) n now = opens_told plan from e (Stand.Opens o) (not_open o) o n now
  newest_told plan from e Stand.Open n now = IsToldNewest.lives (lives_told from e n now.lives.epoch)
  newest_told plan from e Stand.Gone n now = opens_told plan from e Stand.Gone gone_not_open (opening_again spot.start false) n now

-- ---- ALL SLAVES
module _ (plan : Scenario) (lawful : (s : SlaveSpec) → IsProfile (profile_of s) → (spot : Spot) → IsWhole (serves (profile_of s) s.boot (lens_of plan.slaves)) serves_clearing (plan_of s) spot → IsLawful (asked (profile_of s) s.boot (lens_of plan.slaves)).exchange) where
  abbrev lens : ℕ → Lens
  lens = lens_of plan.slaves

  -- what is known of those that are over
  abbrev AllPast : List (Frame Body) → ℕ → List SlaveSpec → List Serves → Type 0
  AllPast fs place [] [] = ⊤
  AllPast fs place (s ∷ ss) (w ∷ ws) = AllToldEras (asked (profile_of s) s.boot lens) (spot_of place s) fs w.lead.lived.life.past w.lead.lived.life.era.cleared × AllPast fs (suc place) ss ws
  AllPast fs place _ _ = ⊥

  -- WITH THE NEWEST all is known
  whole : (fs : List (Frame Body)) (place : ℕ) (ss : List SlaveSpec) (ws : List Serves) (ns : List (Node Serving)) → All IsSlave ss → AllMacs ss → AllLived lens step (FitsPlan plan.slaves) fs place (served_members lens place ss ws ns) → AllServedAt plan place ss ws ns →
      AllPast fs place ss ws → AllToldLives plan fs place ss ws
  whole fs place [] [] [] slaves macs lived at past = tt
  whole fs place [] [] (n ∷ ns) slaves macs lived at past = absurd at
  whole fs place [] (w ∷ ws) ns slaves macs lived at past = absurd past
  whole fs place (s ∷ ss) [] ns slaves macs lived at past = absurd past
  whole fs place (s ∷ ss) (w ∷ ws) [] slaves macs lived at past = absurd at
  whole fs place (s ∷ ss) (w ∷ ws) (n ∷ ns) slaves macs lived at past =
      let here = All-head IsSlave s ss slaves in
      let profile : IsProfile (profile_of s) = record { out_least = here.out_least; out_most = here.out_most; back_least = here.in_least; back_most = here.in_most; mac = macs.0 } in
      let law = silent_lawful (profile_of s) s.boot lens (lawful s profile (spot_of place s) lived.0.whole) in
      let l = w.lead.lived.life in (
        record { past = past.0; newest = newest_told (profile_of s) s.boot lens law (spot_of place s) fs (plan_of s) lived.0.lived.from l.era l.stand n lived.0.lived.now },
        whole fs (suc place) ss ws ns (All-tail IsSlave s ss slaves) macs.1 lived.1 at.1 past.1,
      )

  -- A MAIL THAT IS ASKED changes no life
  asked_told : (fs : List (Frame Body)) (at place : ℕ) (k : Keyed) (ss : List SlaveSpec) (ws : List Serves) → AllToldLives plan fs at ss ws → AllToldLives plan fs at ss (asked_at place k ws)
  asked_told fs at place k [] [] all = tt
  asked_told fs at place k [] (w ∷ ws) all = absurd all
  asked_told fs at place k (s ∷ ss) [] all = absurd all
  asked_told fs at zero k (s ∷ ss) (w ∷ ws) all = all
  asked_told fs at (suc place) k (s ∷ ss) (w ∷ ws) all = (all.0, asked_told fs (suc at) place k ss ws all.1)

  -- BY A FRAME
  frame_past : (recover retry : ℕ) (gives : Bool) (fs : List (Frame Body)) (made : ℕ) (g : Frame Body) (f : Exchanged) (ds : List Raw.Datagram) → length fs ≡ made → (place : ℕ) (ss : List SlaveSpec) (ws : List Serves) (vs : List ServedTurn) → AllServedTurn lens made ds ws vs →
      AllToldLives plan fs place ss ws → AllPast (fs ++ g ∷ []) place ss (map (served_behind lens recover retry gives made f) vs)
  frame_past recover retry gives fs made g f ds same place [] [] [] turns told = tt
  frame_past recover retry gives fs made g f ds same place [] [] (v ∷ vs) turns told = absurd turns
  frame_past recover retry gives fs made g f ds same place [] (w ∷ ws) vs turns told = absurd told
  frame_past recover retry gives fs made g f ds same place (s ∷ ss) [] vs turns told = absurd told
  frame_past recover retry gives fs made g f ds same place (s ∷ ss) (w ∷ ws) [] turns told = absurd turns
  frame_past recover retry gives fs made g f ds same place (s ∷ ss) (w ∷ ws) (v ∷ vs) turns told =
      let l = w.lead.lived.life in
      let moves = life_moves lens recover retry gives made f f.fate v (speech_at lens w.lead.lived.spot) l turns.0.next.pick turns.0.next.life in (
        past_moves (asked (profile_of s) s.boot lens) (spot_of place s) fs made g l (served_life lens recover retry gives made f f.fate v).life same told.0 moves,
        frame_past recover retry gives fs made g f ds same (suc place) ss ws vs turns.1 told.1,
      )

  -- BEFORE THE FIRST
  first_past : (rows : List (ℕ × Plan.Service)) (place : ℕ) (ss : List SlaveSpec) (paces : List ℕ) → AllPast [] place ss (all_serve paces (leads_from rows place ss))
  first_past rows place [] paces = tt
  first_past rows place (s ∷ ss) [] = (tt, first_past rows (suc place) ss [])
  first_past rows place (s ∷ ss) (pace ∷ paces) = (tt, first_past rows (suc place) ss paces)

  -- THE WHOLE SERVING
  abbrev Led : List Exchanged → ℕ → List Serves → Type 0
  Led fs missed ws = IsServedLed lens plan.recover plan.retry (all_serve plan.paces (first_leads plan)) fs missed ws

  module _ (slaves : All IsSlave plan.slaves) (macs : AllMacs plan.slaves) (lives : (fs : List Exchanged) (missed : ℕ) (ws : List Serves) → Led fs missed ws → AllRound (ring_of plan) fs → AreServedLived plan fs ws) where
    with_newest : (fs : List Exchanged) (missed : ℕ) (ws : List Serves) → Led fs missed ws → AllRound (ring_of plan) fs → AllPast (all_seen lens fs) 0 plan.slaves ws → AllToldLives plan (all_seen lens fs) 0 plan.slaves ws
    with_newest fs missed ws l r past = let x = lives fs missed ws l r in whole (all_seen lens fs) 0 plan.slaves ws x.nodes slaves macs x.lives.each x.at past

    pub lives_so : (fs : List Exchanged) (missed : ℕ) (ws : List Serves) → Led fs missed ws → AllRound (ring_of plan) fs → AllToldLives plan (all_seen lens fs) 0 plan.slaves ws
    lives_so _ _ _ IsServedLed.start r = with_newest [] 0 _ IsServedLed.start r (first_past plan.services 0 plan.slaves plan.paces)
    lives_so _ _ _ (IsServedLed.asks fs missed ws place k l may) r = asked_told (all_seen lens fs) 0 place k plan.slaves ws (lives_so fs missed ws l r)
    lives_so _ _ _ (IsServedLed.on fs missed ws f vs l y) r =
        let gives = gives_up_at lens plan.recover plan.retry missed in
        let now = map (served_behind lens plan.recover plan.retry gives (length fs) f) vs in
        let before = lives_so fs missed ws l (front_round (ring_of plan) fs f r) in
        let past = frame_past plan.recover plan.retry gives (all_seen lens fs) (length fs) (frame_seen lens f) f y.datagrams (length-map fs (frame_seen lens)) 0 plan.slaves ws vs y.each before in
        with_newest (fs ++ f ∷ []) (missed_behind lens plan.recover plan.retry f.fate missed) now (IsServedLed.on fs missed ws f vs l y) r
        (subst (λ gs. AllPast gs 0 plan.slaves now) (sym (map-append (frame_seen lens) fs (f ∷ []))) past)
