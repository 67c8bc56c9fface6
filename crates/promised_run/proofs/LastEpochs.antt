-- AN OPEN SLAVE OF A SERVING wasn't given up since its newest epoch began.
use Rattle.std.proofs.Common.{◌≡◌, ℕ, zero, suc, Bool, List, [], ◌∷◌, ◌++◌, map, length, length-append, subst, arith}
use Rattle.std.specs.Prelude.{⊤}
use Rattle.run_promises.specs.of_datagrams.Datagram as Raw
use Rattle.seen_slaves.specs.of_frame_view.Seen.{seen}
use Rattle.seen_slaves.specs.of_frame_view.View.{Lens}
use Rattle.gateway_run.specs.Since.{NoneSince}
use Rattle.run_promises.specs.of_life_model.Lives.{Stand}
use Rattle.gateway_run.proofs.of_life_runs.Opened.{IsOpened, Now, missed_so, opened_first, returned_so, turned_so}
use Rattle.run_promises.specs.of_life_runs.Causes.{since}
use Rattle.run_promises.specs.of_life_runs.First.{first_leads, leads_from, lens_of}
use Rattle.run_promises.specs.of_life_runs.Led.{Exchanged, gives_up_at, speech_at}
use Rattle.run_promises.specs.of_master_node.Wants.{gave_of}
use Rattle.seen_slaves.specs.of_master_side.Passing.{news_back, news_lost}
use Rattle.run_promises.specs.of_segment_plan.declared.plan.Scenario.{Scenario}
use Rattle.run_promises.specs.of_segment_plan.declared.service.Service as Row
use Rattle.run_promises.specs.of_segment_plan.declared.slave.SlaveSpec.{SlaveSpec}
use Rattle.run_promises.specs.of_segment_ring.declared.wire.Fate.{Fate}
use Rattle.run_promises.specs.of_segment_ring.declared.wire.Fate.TheVariants.{Lost, Pass}
use Rattle.run_promises.specs.of_life_runs.Served.{AllServedTurn, IsServedLed, Keyed, Serves, ServedTurn, all_serve, asked_at, served_behind, served_life}

-- BEHIND SO MANY FRAMES, of each slave
abbrev pub AllOpened : ℕ → List Serves → Type 0
AllOpened n [] = ⊤
AllOpened n (w ∷ ws) = IsOpened n w.lead.lived × AllOpened n ws

module _ (lens : ℕ → Lens) (recover retry : ℕ) (gives : Bool) (made : ℕ) (f : Exchanged) where
  behind_so : (v : ServedTurn) (fate : Fate) → IsOpened made v.turn.lived → IsOpened (suc made) (served_life lens recover retry gives made f fate v)
  behind_so v Pass h =
      returned_so (speech_at lens v.turn.lived.spot) made v.turn.lived v.turn.share (news_back v.turn.lived.spot.station v.kept v.counts (seen lens f.back)) h (seen lens f.back)
  behind_so v (Lost after) h =
      missed_so (speech_at lens v.turn.lived.spot) made v.turn.lived v.turn.share (news_lost v.turn.lived.spot.station v.kept (seen lens f.sent)) h gives recover (seen lens f.sent)

  all_so : (ds : List Raw.Datagram) (ws : List Serves) (vs : List ServedTurn) → AllServedTurn lens made ds ws vs → AllOpened made ws → AllOpened (suc made) (map (served_behind lens recover retry gives made f) vs)
  all_so ds [] [] t h = tt
  all_so ds [] (v ∷ vs) t h = absurd t
  all_so ds (w ∷ ws) [] t h = absurd t
  all_so ds (w ∷ ws) (v ∷ vs) t h = (behind_so v f.fate (turned_so (speech_at lens w.lead.lived.spot) made w.lead.lived v.turn.lived t.0.next h.0), all_so ds ws vs t.1 h.1)

-- a mail that is asked changes nothing of it
asked_so : (n place : ℕ) (k : Keyed) (ws : List Serves) → AllOpened n ws → AllOpened n (asked_at place k ws)
asked_so n place k [] h = h
asked_so n zero k (w ∷ ws) h = h
asked_so n (suc place) k (w ∷ ws) h = (h.0, asked_so n place k ws h.1)

first_so : (rows : List (ℕ × Row.Service)) (place : ℕ) (ss : List SlaveSpec) (paces : List ℕ) → AllOpened 0 (all_serve paces (leads_from rows place ss))
first_so rows place [] paces = tt
first_so rows place (s ∷ ss) [] = (opened_first s.start, first_so rows (suc place) ss [])
first_so rows place (s ∷ ss) (pace ∷ paces) = (opened_first s.start, first_so rows (suc place) ss paces)

-- OVER A SERVING
pub opened_over : (plan : Scenario) (fs : List Exchanged) (missed : ℕ) (ws : List Serves) → IsServedLed (lens_of plan.slaves) plan.recover plan.retry (all_serve plan.paces (first_leads plan)) fs missed ws → AllOpened (length fs) ws
opened_over plan _ _ _ IsServedLed.start = first_so plan.services 0 plan.slaves plan.paces
opened_over plan _ _ _ (IsServedLed.asks fs missed ws place k led may) = asked_so (length fs) place k ws (opened_over plan fs missed ws led)
opened_over plan _ _ _ (IsServedLed.on fs missed ws f vs led y) =
    let more : suc (length fs) ≡ length (fs ++ f ∷ []) = (let k = length-append fs (f ∷ []) in omega (arith, k)) in
    let gives = gives_up_at (lens_of plan.slaves) plan.recover plan.retry missed in
    subst (λ (n : ℕ). AllOpened n (map (served_behind (lens_of plan.slaves) plan.recover plan.retry gives (length fs) f) vs)) more
    (all_so (lens_of plan.slaves) plan.recover plan.retry gives (length fs) f y.datagrams ws vs y.each (opened_over plan fs missed ws led))

-- so one that is open wasn't given up since
pub quiet_where : (n : ℕ) (w : Serves) → IsOpened n w.lead.lived → w.lead.lived.life.stand ≡ Stand.Open → NoneSince (since w.lead.lived.life.era.cleared) (gave_of w.lead)
quiet_where n w h stands = subst (λ (stand : Stand). Now w.lead.lived.spot.start n w.lead.lived.life.gave w.lead.lived.life.era stand) stands h.now
