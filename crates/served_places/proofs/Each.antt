-- WHAT HOLDS OF EACH SLAVE OF A SERVING over all its frames: what holds at first, whatever is asked, and from frame to frame.
use Rattle.std.proofs.Common.{ℕ, zero, suc, Bool, List, [], ◌∷◌, ◌++◌, length, map}
use Rattle.std.specs.Prelude.{All}
use Rattle.std.proofs.lemmas.List.Elements.{All-nil, All-cons, All-head, All-tail}
use Rattle.run_frames.specs.of_datagrams.Datagram as Raw
use Rattle.run_frames.specs.of_frame_view.View.{Lens}
use Rattle.run_frames.specs.of_life_runs.Led.{Exchanged, gives_up_at}
use Rattle.run_frames.specs.of_life_runs.Served.{Keyed, Serves, ServedTurn, IsServedTurn, AllServedTurn, IsServedLed, asked_at, served_behind}

module _ (lens : ℕ → Lens) (recover retry : ℕ) (P : Serves → Type 0) (asks : (w : Serves) (k : Keyed) → P w → P (record w { asked = w.asked ++ k ∷ []; waits = w.waits ++ k ∷ [] }))
    (on : (gives : Bool) (made : ℕ) (ds : List Raw.Datagram) (f : Exchanged) (w : Serves) (v : ServedTurn) → IsServedTurn lens made ds w v → P w → P (served_behind lens recover retry gives made f v)) where
  asked_each : (place : ℕ) (k : Keyed) (ws : List Serves) → All P ws → All P (asked_at place k ws)
  asked_each place k [] h = All-nil P
  asked_each zero k (w ∷ ws) h = All-cons P (record w { asked = w.asked ++ k ∷ []; waits = w.waits ++ k ∷ [] }) ws (asks w k (All-head P w ws h)) (All-tail P w ws h)
  asked_each (suc place) k (w ∷ ws) h = All-cons P w (asked_at place k ws) (All-head P w ws h) (asked_each place k ws (All-tail P w ws h))

  on_each : (gives : Bool) (made : ℕ) (ds : List Raw.Datagram) (f : Exchanged) (ws : List Serves) (vs : List ServedTurn) → AllServedTurn lens made ds ws vs → All P ws → All P (map (served_behind lens recover retry gives made f) vs)
  on_each gives made ds f [] [] t h = All-nil P
  on_each gives made ds f [] (v ∷ vs) t h = absurd t
  on_each gives made ds f (w ∷ ws) [] t h = absurd t
  on_each gives made ds f (w ∷ ws) (v ∷ vs) t h =
      All-cons P (served_behind lens recover retry gives made f v) (map (served_behind lens recover retry gives made f) vs) (on gives made ds f w v t.0 (All-head P w ws h)) (on_each gives made ds f ws vs t.1 (All-tail P w ws h))

  pub each : (first : List Serves) → All P first → (fs : List Exchanged) (missed : ℕ) (ws : List Serves) → IsServedLed lens recover retry first fs missed ws → All P ws
  each first h _ _ _ IsServedLed.start = h
  each first h _ _ _ (IsServedLed.asks fs missed ws place k led room) = asked_each place k ws (each first h fs missed ws led)
  each first h _ _ _ (IsServedLed.on fs missed ws f vs led frame) = on_each (gives_up_at lens recover retry missed) (length fs) frame.datagrams f ws vs frame.each (each first h fs missed ws led)
