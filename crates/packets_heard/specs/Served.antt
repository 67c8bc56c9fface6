-- A SERVING WHOSE FRAMES ARE VISITS OF ITS MASTER'S TOUR, with the mails that are asked between them.
use Rattle.std.specs.Prelude.{ℕ, List, [], ◌∷◌, ◌++◌, length, map}
use Rattle.master_node.specs.Serving.{run_lead, run_turn}
use Rattle.master_node.specs.of_frame_view.View.{Lens}
use Rattle.master_node.specs.of_life_runs.Led.{Exchanged, gives_up_at}
use Rattle.master_node.specs.of_master_tour.Toured.{Tour, new_tour}
use Rattle.master_node.specs.of_life_runs.Served.{Keyed, Serves, ServedTurn, IsServedFrame, MayAsk, asked_at, served_behind}
use Rattle.packets_heard.specs.Toured.{IsTourFrame, tour_behind}

module _ (lens : ℕ → Lens) (recover retry : ℕ) where
  -- the slaves behind a frame, where so many were lost in a row before it
  abbrev pub serves_behind : ℕ → ℕ → Exchanged → List ServedTurn → List Serves
  serves_behind missed made f vs = map (served_behind lens recover retry (gives_up_at lens recover retry missed) made f) vs

  -- THE FRAMES OF A SERVING, one after the other, the tour and the slaves behind them: each frame carries the slaves of its visit, and a mail that is asked
  -- changes nothing of the tour
  pub data IsTourServed (first : List Serves) : List Exchanged → Tour → List Serves → Type 0 where
    start : IsTourServed first [] new_tour first
    asks : (fs : List Exchanged) (t : Tour) (ws : List Serves) (place : ℕ) (k : Keyed) → IsTourServed first fs t ws → MayAsk lens place k ws → IsTourServed first fs t (asked_at place k ws)
    on : (fs : List Exchanged) (t : Tour) (ws : List Serves) (f : Exchanged) (vs : List ServedTurn) (visit : List ℕ) → IsTourServed first fs t ws → IsServedFrame lens (length fs) f.sent ws vs →
        IsTourFrame lens (map run_lead ws) f.sent (map run_turn vs) t visit →
        IsTourServed first (fs ++ f ∷ []) (tour_behind retry f.fate (map run_lead (serves_behind t.missed (length fs) f vs)) t visit) (serves_behind t.missed (length fs) f vs)
