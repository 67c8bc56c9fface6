-- THE MAILS ACCEPTED EACH TIME that a slave was open are those that were heard in the rows of its epochs, whatever mails are passed on.
use Rattle.std.proofs.Common.{◌≡◌, ℕ, suc, Bool, All, None, Some, List, [], ◌∷◌, ◌++◌, map, length, refl, sym, ap, ◌∙◌, subst, ap₂, append-nil, append_assoc}
use Rattle.std.proofs.lemmas.List.Elements.{All-cons, All-head, All-nil, All-tail}
use Rattle.packets_heard.specs.of_exchange_model.Rows.{heard_all}
use Rattle.packets_heard.specs.of_frame_view.View.{Lens}
use Rattle.packets_heard.specs.of_life_model.Eras.{era_frames}
use Rattle.packets_heard.specs.of_life_model.Lives.{Spot, Era, Life, Stand}
use Rattle.packets_heard.specs.of_life_runs.First.{first_leads, leads_from, lens_of, spot_of}
use Rattle.packets_heard.specs.of_life_runs.Led.{Exchanged, IsLed, Leads}
use Rattle.packets_heard.specs.of_link_mails.Body.{Body}
use Rattle.packets_heard.specs.of_master_duty.Reply.{Reply}
use Rattle.packets_heard.specs.of_master_hand.Spoken.{Asked, is_followed, is_passed}
use Rattle.packets_heard.specs.Heard.{Times, ended, times_in}
use Rattle.packets_heard.specs.Servings.{served_times}
use Rattle.packets_heard.specs.of_master_node.Serving.{run_lead}
use Rattle.served_rings.specs.of_plan_ring.Lives.{IsKnown}
use Rattle.served_rings.specs.of_plan_ring.Plan.{plan_of}
use Rattle.served_rings.specs.of_plan_ring.Round.{AllRound, all_seen, ring_of}
use Rattle.packets_heard.specs.of_slave_server.Seen.{seen_in}
use Rattle.packets_heard.specs.of_slave_server.Serving.{Serving}
use Rattle.packets_heard.specs.of_slave_server.Spec.{profile_of, server_of}
use Rattle.served_rings.specs.of_run_work.Sessions.{Meant}
use Rattle.served_rings.specs.of_life_counts.Epochs.{IsSeen, IsSpeaker}
use Rattle.packets_heard.specs.of_segment_model.Record.{Frame, Kept, kept_all, nothing_kept}
use Rattle.packets_heard.specs.of_segment_plan.Sound.{IsPlan, IsSlave}
use Rattle.packets_heard.specs.of_segment_plan.declared.plan.Scenario.{Scenario}
use Rattle.packets_heard.specs.of_segment_plan.declared.service.Service as Plan
use Rattle.packets_heard.specs.of_segment_plan.declared.slave.SlaveSpec.{SlaveSpec}
use Rattle.run_promises.specs.Whole.{AllAreHeard, heard_in, heard_over}
use Rattle.run_promises.proofs.Live.{IsLive, IsNew, IsTally}
use Rattle.run_promises.proofs.Seen.{kept_as}
use Rattle.run_promises.proofs.Times.{TracksAs, TracksShut, shut_now}
use Rattle.run_promises.proofs.Tracked.{AllLive, AllTrack, ReturnsLaw, run_tracks, served_tracks}
use Rattle.served_rings.proofs.Emitted.{knows}
use Rattle.served_rings.proofs.Heard.{seen_so}
use Rattle.served_rings.proofs.Mails.{mailer, mailer_speaks}
use Rattle.served_rings.specs.Clearing.{serves_clearing}
use Rattle.served_rings.specs.Led.{LedEra}
use Rattle.served_rings.specs.LedRings.{AllLedMembers}
use Rattle.served_rings.specs.Lives.{IsLedLived, LedKept, LedLeft, LedYet}
use Rattle.served_rings.specs.Rings.{AllServedAt, AreServedLived, counters_of, served_members}
use Rattle.served_rings.specs.Serves.{serves}
use Rattle.served_rings.specs.Speakers.{seer_of, speaker, table_of}
use Rattle.served_rings.specs.ToldEras.{AllToldLives, IsToldEra, IsToldLife, IsToldNewest}
use Rattle.packets_heard.specs.of_life_runs.Served.{IsRunOf, IsServedLed, Serves, all_serve}
use Rattle.served_rings.specs.of_slave_lives.Lived.{Behind, node_seen}
use Rattle.served_rings.specs.of_slave_lives.Opening as Opening
use Rattle.served_rings.specs.of_slave_model.Profile.{IsProfile, Profile}
use Rattle.served_rings.specs.of_slave_parts.Parts.{Server}
use Rattle.packets_heard.specs.of_slave_node.Node.{Node}
use Rattle.packets_heard.specs.of_state_model.Families.{InState}
use Rattle.served_rings.specs.of_whole_ring.Whole.{LivesOpenBy, StandsBy}

-- ---- what is told of times: they are those of the epochs' rows
abbrev pub Rows : List (List Body) → List (Era Body Asked Reply) → Type 0
Rows ts es = ts ≡ heard_over es

over_more : (es : List (Era Body Asked Reply)) (e : Era Body Asked Reply) → heard_over (es ++ e ∷ []) ≡ heard_over es ++ ended [] (heard_in e)
over_more [] e = append-nil (ended [] (heard_in e))
over_more (d ∷ es) e = ap (λ l. ended [] (heard_in d) ++ l) (over_more es e) ∙ sym (append_assoc (ended [] (heard_in d)) (heard_over es) (ended [] (heard_in e)))

ended_on : (past : List (List Body)) (ms : List Body) → ended past ms ≡ past ++ ended [] ms
ended_on past [] = sym (append-nil past)
ended_on past (m ∷ ms) = refl

none_more : (es : List (Era Body Asked Reply)) (e : Era Body Asked Reply) → IsNew e → heard_over (es ++ e ∷ []) ≡ heard_over es
none_more es e new = over_more es e ∙ ap (λ ms. heard_over es ++ ended [] ms) (ap heard_all new.1) ∙ append-nil (heard_over es)

row_tally : IsTally Rows
row_tally = record {
  empty = refl;
  fresh = λ ts es e new told. told ∙ sym (none_more es e new);
  none = λ ts es e new told. told ∙ none_more es e new;
  grows = λ ts es d e g told. told ∙ over_more es d ∙ ap (λ ms. heard_over es ++ ended [] ms) g.heard ∙ sym (over_more es e);
}

rows_on : (past : List (List Body)) (ms : List Body) (es : List (Era Body Asked Reply)) (e : Era Body Asked Reply) → ms ≡ heard_in e → Rows past es → Rows (ended past ms) (es ++ e ∷ [])
rows_on past ms es e is told = ended_on past ms ∙ (λ i. told i ++ ended [] (is i)) ∙ sym (over_more es e)

-- ---- AN OPEN SLAVE: its inward half knows the last mail that was heard
module _ (p : Profile) (speaks : IsSpeaker (speaker p)) (boot : Bool) (lens : ℕ → Lens) (spot : Spot) where
  abbrev w : Behind Serving (InState Server) (InState Server) Asked Reply
  w = serves p boot lens

  k : IsSpeaker (mailer p)
  k = mailer_speaks p speaks

  module _ (from : InState Server) (counts : Bool) (e : Era Body Asked Reply) (fs : List (Frame Body)) (n : Node Serving) (l : LedEra (serves p boot lens) is_followed is_passed spot from counts e fs n) where
    seen : IsSeen (mailer p) (seer_of p boot) (table_of boot) spot l.opened l.server l.registers fs counts e (node_seen (serves p boot lens) n)
    seen = seen_so p speaks boot lens spot l.opened l.server l.registers l.plan l.answers fs counts e (node_seen (serves p boot lens) n) l.led

    module _ (i : IsSeen (mailer p) (seer_of p boot) (table_of boot) spot l.opened l.server l.registers fs counts e (node_seen (serves p boot lens) n)) where
      abbrev seen_frames : List (Frame Meant)
      seen_frames = era_frames spot l.opened (length i.frames) i.frames

      last_is : e.side.halves.inn.last ≡ (kept_all spot.station nothing_kept (era_frames spot l.opened (length fs) fs)).heard
      last_is =
          ap (λ (d : Era Body Asked Reply). d.side.halves.inn.last) (sym i.named) ∙ (knows p k boot spot l.opened l.server l.registers fs counts e (node_seen (serves p boot lens) n) i).kept
          ∙ ap (λ (c : Kept). c.heard) (sym (kept_as (λ (t : Meant). t.mail) spot.station nothing_kept seen_frames) ∙ ap (kept_all spot.station nothing_kept) i.same)

      opened_is : e.opened ≡ Some l.opened
      opened_is = ap (λ (d : Era Body Asked Reply). d.opened) (sym i.named) ∙ i.is.opened_at

    -- and of what it heard its rows have all
    era_live : (past : List (Era Body Asked Reply)) (stand : Stand) (gave : List ℕ) {S V A : Type 0} (u : Behind S V A Asked Reply) → IsToldEra u spot fs e (length fs) → IsLive Rows spot fs (record { past = past; era = e; stand = stand; gave = gave })
    era_live past stand gave u t =
        let same : l.opened ≡ t.opened = (let both : Some l.opened ≡ Some t.opened = sym (opened_is seen) ∙ t.opened_at in cc) in
        record {
          opened = t.opened;
          opened_at = t.opened_at;
          before = t.before;
          last = subst (λ o. e.side.halves.inn.last ≡ (kept_all spot.station nothing_kept (era_frames spot o (length fs) fs)).heard) same (last_is seen);
          told = λ before told. rows_on before _ past e t.in_rows told;
        }

  told_open : {S V A : Type 0} (u : Behind S V A Asked Reply) (fs : List (Frame Body)) (e : Era Body Asked Reply) (stand : Stand) → IsToldNewest u spot fs e stand → stand ≡ Stand.Open → IsToldEra u spot fs e (length fs)
  told_open u fs e _ (IsToldNewest.lives t) open_ = t
  told_open u fs e _ (IsToldNewest.unopened stand shut none nothing) open_ = absurd (shut open_)
  told_open u fs e _ (IsToldNewest.over stand shut until t) open_ = absurd (shut open_)

  -- THE LIFE, while the slave is open
  life_live : (plan : Opening.Plan) (kept : Kept) (counts : Bool) (first : InState Server) (l : Life Body Asked Reply) (fs : List (Frame Body)) (n : Node Serving) → IsLedLived w is_followed is_passed spot serves_clearing.cleared plan kept counts first l fs n →
      {S V A : Type 0} (u : Behind S V A Asked Reply) → IsToldLife u spot fs l → l.stand ≡ Stand.Open → IsLive Rows spot fs l
  life_live plan kept counts first l fs n i u told stand =
      of (subst (λ (z : Stand). StandsBy w (λ a d gs m. LedKept w is_followed is_passed spot kept counts a d gs m) (λ a d gs m. LedYet w is_followed is_passed spot a d gs m) (λ a d gs s. LedLeft w is_followed is_passed spot a d s) plan spot i.from l.era fs z n) stand i.now)
    where
      of : LivesOpenBy w i.from l.era (λ a d gs m. LedKept w is_followed is_passed spot kept counts a d gs m) fs n → IsLive Rows spot fs l
      of now = let x = now.lives.epoch in era_live i.from x.led l.era fs n x.era l.past l.stand l.gave u (told_open u fs l.era l.stand told.newest stand)

-- ---- a run's lives, as a serving has them
pub leads_are : (ws : List Serves) (as' : List Leads) → IsRunOf ws as' → map run_lead ws ≡ as'
leads_are [] [] alone = refl
leads_are [] (a ∷ as') alone = absurd alone
leads_are (w ∷ ws) [] alone = absurd alone
leads_are (w ∷ ws) (a ∷ as') alone = ap₂ (λ (b : Leads) (bs : List Leads). b ∷ bs) alone.0.lead (leads_are ws as' alone.1)

-- before the first frame no mail is passed on
pub all_unpassed : (rows : List (ℕ × Plan.Service)) (place : ℕ) (ss : List SlaveSpec) → All (λ (a : Leads). a.lived.life.era.passing ≡ None) (leads_from rows place ss)
all_unpassed rows place [] = All-nil (λ (a : Leads). a.lived.life.era.passing ≡ None)
all_unpassed rows place (s ∷ ss) = All-cons (λ (a : Leads). a.lived.life.era.passing ≡ None) _ (leads_from rows (suc place) ss) refl (all_unpassed rows (suc place) ss)

-- ---- ALL SLAVES
module _ (plan : Scenario) (is : IsPlan plan) (known : IsKnown plan) (returned : ReturnsLaw) (speaks : (p : Profile) → IsProfile p → IsSpeaker (speaker p))
    (lives : (fs : List Exchanged) (missed : ℕ) (ws : List Serves) → IsServedLed (lens_of plan.slaves) plan.recover plan.retry (all_serve plan.paces (first_leads plan)) fs missed ws → AllRound (ring_of plan) fs → AreServedLived plan fs ws)
    (eras : (fs : List Exchanged) (missed : ℕ) (ws : List Serves) → IsServedLed (lens_of plan.slaves) plan.recover plan.retry (all_serve plan.paces (first_leads plan)) fs missed ws → AllRound (ring_of plan) fs → AllToldLives plan (all_seen (lens_of plan.slaves) fs) 0 plan.slaves ws) where
  abbrev lens : ℕ → Lens
  lens = lens_of plan.slaves

  abbrev RowsOf : SlaveSpec → List (List Body) → List (Era Body Asked Reply) → Type 0
  RowsOf s = Rows

  abbrev rows_of : (s : SlaveSpec) → IsTally (RowsOf s)
  rows_of s = row_tally

  abbrev AllLiveHere : List (Frame Body) → List SlaveSpec → List Serves → Type 0
  AllLiveHere gs ss ws = AllLive plan RowsOf rows_of returned gs ss (map run_lead ws)

  all_live : (gs : List (Frame Body)) (place : ℕ) (ss : List SlaveSpec) (ws : List Serves) (ns : List (Node Serving)) → All IsSlave ss → All (λ (s : SlaveSpec). length s.mac ≡ 6) ss → AllLedMembers is_followed is_passed gs (served_members lens place ss ws ns) (map counters_of ws) →
      AllServedAt plan place ss ws ns → AllToldLives plan gs place ss ws → AllLiveHere gs ss ws
  all_live gs place [] [] [] slaves macs led at told = tt
  all_live gs place [] [] (n ∷ ns) slaves macs led at told = absurd at
  all_live gs place [] (w ∷ ws) ns slaves macs led at told = absurd at
  all_live gs place (s ∷ ss) [] ns slaves macs led at told = absurd at
  all_live gs place (s ∷ ss) (w ∷ ws) [] slaves macs led at told = absurd at
  all_live gs place (s ∷ ss) (w ∷ ws) (n ∷ ns) slaves macs led at told =
      let here = All-head IsSlave s ss slaves in
      let p = profile_of s in
      let profile : IsProfile (profile_of s) = record { out_least = here.out_least; out_most = here.out_most; back_least = here.in_least; back_most = here.in_most; mac = All-head (λ (s : SlaveSpec). length s.mac ≡ 6) s ss macs } in (
        (λ open_. subst (λ (spot : Spot). IsLive Rows spot gs w.lead.lived.life) (sym at.0.spot)
            (life_live p (speaks p profile) s.boot lens (spot_of place s) (plan_of s) w.kept w.counts (seen_in 1 (server_of s)).server w.lead.lived.life gs n led.0 _ told.0 open_)),
        all_live gs (suc place) ss ws ns (All-tail IsSlave s ss slaves) (All-tail (λ (s : SlaveSpec). length s.mac ≡ 6) s ss macs) led.1 at.1 told.1,
      )

  live_at : (fs : List Exchanged) (missed : ℕ) (ws : List Serves) → IsServedLed (lens_of plan.slaves) plan.recover plan.retry (all_serve plan.paces (first_leads plan)) fs missed ws → AllRound (ring_of plan) fs → AllLiveHere (all_seen lens fs) plan.slaves ws
  live_at fs missed ws led round =
      let x = lives fs missed ws led round in
      all_live (all_seen lens fs) 0 plan.slaves ws x.nodes is.laid.slaves known.macs x.led x.at (eras fs missed ws led round)

  -- BEHIND ALL FRAMES
  one_heard : (gs : List (Frame Body)) (spot : Spot) (l : Life Body Asked Reply) (t : Times) (z : Stand) → l.stand ≡ z → TracksAs Rows row_tally spot gs l t z → (l.stand ≡ Stand.Open → IsLive Rows spot gs l) → TracksShut Rows row_tally spot l t
  one_heard gs spot l t (Stand.Opens o) e tracks live = tracks.0
  one_heard gs spot l t Stand.Open e tracks live = shut_now Rows row_tally spot gs l t tracks (live e)
  one_heard gs spot l t Stand.Gone e tracks live = tracks

  all_heard : (gs : List (Frame Body)) (ss : List SlaveSpec) (ws : List Serves) (ts : List Times) → AllTrack plan RowsOf rows_of returned gs ss (map run_lead ws) ts → AllLiveHere gs ss ws → AllAreHeard ws ts
  all_heard gs [] [] [] k l = tt
  all_heard gs [] [] (t ∷ ts) k l = absurd k
  all_heard gs [] (w ∷ ws) ts k l = absurd k
  all_heard gs (s ∷ ss) [] ts k l = absurd k
  all_heard gs (s ∷ ss) (w ∷ ws) [] k l = absurd k
  all_heard gs (s ∷ ss) (w ∷ ws) (t ∷ ts) k l = ((one_heard gs w.lead.lived.spot w.lead.lived.life t w.lead.lived.life.stand refl k.0 l.0).all, all_heard gs ss ws ts k.1 l.1)

  pub are_heard : (fs : List Exchanged) (missed : ℕ) (ws : List Serves) (led : IsServedLed (lens_of plan.slaves) plan.recover plan.retry (all_serve plan.paces (first_leads plan)) fs missed ws) → AllRound (ring_of plan) fs → AllAreHeard ws (served_times led)
  are_heard fs missed ws led round =
      all_heard (all_seen lens fs) plan.slaves ws (served_times led)
      (served_tracks plan RowsOf rows_of returned (λ ws. Unit) (λ place k ws h. tt) (λ gives made f ds ws vs y h. tt) (λ fs missed ws led round h. live_at fs missed ws led round) fs missed ws led round tt)
      (live_at fs missed ws led round)

  -- ---- OF A RUN, which is a serving to which no mail is asked
  module _ (runs : (fs : List Exchanged) (missed : ℕ) (as' : List Leads) → IsLed (lens_of plan.slaves) plan.recover plan.retry (first_leads plan) fs missed as' →
      (ws : List Serves) × IsServedLed (lens_of plan.slaves) plan.recover plan.retry (all_serve plan.paces (first_leads plan)) fs missed ws × IsRunOf ws as') where
    run_live_at : (fs : List Exchanged) (missed : ℕ) (as' : List Leads) → IsLed (lens_of plan.slaves) plan.recover plan.retry (first_leads plan) fs missed as' → AllRound (ring_of plan) fs → AllLive plan RowsOf rows_of returned (all_seen lens fs) plan.slaves as'
    run_live_at fs missed as' led round =
        let r = runs fs missed as' led in
        subst (λ (bs : List Leads). AllLive plan RowsOf rows_of returned (all_seen lens fs) plan.slaves bs) (leads_are r.0 as' r.2) (live_at fs missed r.0 r.1 round)

    pub run_are_heard : (fs : List Exchanged) (missed : ℕ) (as' : List Leads) (led : IsLed (lens_of plan.slaves) plan.recover plan.retry (first_leads plan) fs missed as') → AllRound (ring_of plan) fs → (ws : List Serves) → IsRunOf ws as' → AllAreHeard ws (times_in led)
    run_are_heard fs missed as' led round ws alone =
        let same = sym (leads_are ws as' alone) in
        all_heard (all_seen lens fs) plan.slaves ws (times_in led)
        (subst (λ (bs : List Leads). AllTrack plan RowsOf rows_of returned (all_seen lens fs) plan.slaves bs (times_in led)) same (run_tracks plan RowsOf rows_of returned (λ fs missed as' led round. run_live_at fs missed as' led round) fs missed as' led round))
        (subst (λ (bs : List Leads). AllLive plan RowsOf rows_of returned (all_seen lens fs) plan.slaves bs) same (run_live_at fs missed as' led round))
