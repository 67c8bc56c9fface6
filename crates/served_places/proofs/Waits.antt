-- No more mails wait for a slave of a serving than may.
use Rattle.std.proofs.Common.{◌≤◌, ℕ, zero, suc, Bool, true, false, Option, List, [], ◌∷◌, ◌++◌, map, length, length-append, ap, arith}
use Rattle.std.specs.Prelude.{All, if◌then◌else◌}
use Rattle.std.proofs.lemmas.List.Elements.{All-nil, All-cons, All-head, All-tail}
use Rattle.run_frames.specs.of_datagrams.Datagram as Raw
use Rattle.run_frames.specs.of_frame_view.View.{Lens}
use Rattle.few_replies.specs.of_state_model.Stated.{Service}
use Rattle.run_frames.specs.of_master_hand.Spoken.{Asked}
use Rattle.run_frames.specs.of_segment_plan.declared.service.Service as Plan
use Rattle.run_frames.specs.of_life_runs.Led.{Exchanged, Leads, gives_up_at}
use Rattle.served_places.specs.Places.{MayWait}
use Rattle.run_frames.specs.of_life_runs.Served.{Keyed, Serves, ServedTurn, ServedComes, AllServedTurn, IsServedLed, MayAsk, all_serve, asked_at, gives_it, new_serves, served_behind}
use Rattle.run_frames.specs.of_life_runs.Told.{Passed}

-- no more wait before a frame
fewer : (room : ℕ) (script : List Plan.Service) (waits left : List Keyed) (hand behind : Option Passed) (n m : ℕ) (b : Option (Service Asked)) → ServedComes room script waits hand n b m left behind → length left ≤ length waits
fewer room script waits _ hand _ n _ _ ServedComes.none = omega arith
fewer room script waits _ hand _ n _ _ (ServedComes.own s m c) = omega arith
fewer room script waits _ hand _ n _ _ (ServedComes.mail k rest is) = let e = ap length is in omega (arith, e)

abbrev TurnWaits : ServedTurn → Type 0
TurnWaits v = length v.waits ≤ 64

module _ (lens : ℕ → Lens) where
  turns_wait : (made : ℕ) (ds : List Raw.Datagram) (ws : List Serves) (vs : List ServedTurn) → AllServedTurn lens made ds ws vs → All MayWait ws → All TurnWaits vs
  turns_wait made ds [] [] t h = All-nil TurnWaits
  turns_wait made ds [] (v ∷ vs) t h = absurd t
  turns_wait made ds (w ∷ ws) [] t h = absurd t
  turns_wait made ds (w ∷ ws) (v ∷ vs) t h =
      let before = All-head MayWait w ws h in
      let less = fewer (lens w.lead.lived.spot.station).out w.lead.script w.waits v.waits w.hand v.hand w.lead.number v.turn.number v.turn.begun t.0.comes in
      All-cons TurnWaits v vs (omega (arith, before, less)) (turns_wait made ds ws vs t.1 (All-tail MayWait w ws h))

  asked_wait : (place : ℕ) (k : Keyed) (ws : List Serves) → MayAsk lens place k ws → All MayWait ws → All MayWait (asked_at place k ws)
  asked_wait zero k [] may h = h
  asked_wait (suc place) k [] may h = h
  asked_wait zero k (w ∷ ws) may h =
      let room = may.0 in
      let long = length-append w.waits (k ∷ []) in
      All-cons MayWait (record w { asked = w.asked ++ k ∷ []; waits = w.waits ++ k ∷ [] }) ws (omega (arith, room, long)) (All-tail MayWait w ws h)
  asked_wait (suc place) k (w ∷ ws) may h = All-cons MayWait w (asked_at place k ws) (All-head MayWait w ws h) (asked_wait place k ws may (All-tail MayWait w ws h))

  module _ (recover retry : ℕ) where
    left_by : (gives : Bool) (ks : List Keyed) → length ks ≤ 64 → length (if gives then [] else ks) ≤ 64
    left_by true ks few = omega arith
    left_by false ks few = few

    behind_wait : (gives : Bool) (made : ℕ) (f : Exchanged) (vs : List ServedTurn) → All TurnWaits vs → All MayWait (map (served_behind lens recover retry gives made f) vs)
    behind_wait gives made f [] h = All-nil MayWait
    behind_wait gives made f (v ∷ vs) h =
        All-cons MayWait (served_behind lens recover retry gives made f v) (map (served_behind lens recover retry gives made f) vs)
        (left_by (gives_it lens recover retry gives f.fate v) v.waits (All-head TurnWaits v vs h)) (behind_wait gives made f vs (All-tail TurnWaits v vs h))

    few : 0 ≤ 64
    few = omega arith

    first_wait : (paces : List ℕ) (as' : List Leads) → All MayWait (all_serve paces as')
    first_wait paces [] = All-nil MayWait
    first_wait [] (a ∷ as') = All-cons MayWait (new_serves 1 a) (all_serve [] as') few (first_wait [] as')
    first_wait (pace ∷ paces) (a ∷ as') = All-cons MayWait (new_serves pace a) (all_serve paces as') few (first_wait paces as')

    pub wait_few : (paces : List ℕ) (first : List Leads) (fs : List Exchanged) (missed : ℕ) (ws : List Serves) → IsServedLed lens recover retry (all_serve paces first) fs missed ws → All MayWait ws
    wait_few paces first _ _ _ IsServedLed.start = first_wait paces first
    wait_few paces first _ _ _ (IsServedLed.asks fs missed ws place k led may) = asked_wait place k ws may (wait_few paces first fs missed ws led)
    wait_few paces first _ _ _ (IsServedLed.on fs missed ws f vs led frame) =
        behind_wait (gives_up_at lens recover retry missed) (length fs) f vs (turns_wait (length fs) frame.datagrams ws vs frame.each (wait_few paces first fs missed ws led))
