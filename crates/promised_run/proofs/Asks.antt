-- WHAT A MASTER'S FRAME ASKS is what the count of frames speaks of.
use Rattle.std.proofs.Common.{◌≡◌, false, Bool, List, [], ◌∷◌, refl}
use Rattle.run_promises.specs.of_link_mails.Body.{Body}
use Rattle.run_promises.specs.of_link_model.Frames.{in_ask}
use Rattle.run_promises.specs.of_link_model.Master.{InState, InHalf}
use Rattle.run_promises.specs.of_life_runs.Led.{Turn}
use Rattle.run_promises.specs.of_master_node.Asks as Master
use Rattle.seen_slaves.specs.of_master_side.Carried.{is_clear}
use Rattle.run_promises.specs.of_segment_model.Slaves.{Datagram}
use Rattle.seen_slaves.specs.of_run_frames.Answers.{AsksHalf, EachAsks, AllAsk}
use Rattle.run_promises.specs.of_life_model.Own.{own}

half_asks : (state : InState) (bit : Bool) (d : Datagram Body) → (is_clear state ≡ false → d.gram.ask ≡ in_ask state bit) → AsksHalf state bit d.gram.ask
half_asks InState.Clear bit d h = tt
half_asks InState.Doubt bit d h = h refl
half_asks InState.Asked bit d h = h refl
half_asks InState.Refetch bit d h = h refl

each_asks : (h : InHalf) (ds : List (Datagram Body)) → Master.EachAsks h ds → EachAsks h.state h.bit ds
each_asks h [] e = tt
each_asks h (d ∷ ds) e = (half_asks h.state h.bit d e.0, each_asks h ds e.1)

pub asks_same : (sent : List (Datagram Body)) (us : List Turn) → Master.AllAsk sent us → AllAsk sent us
asks_same sent [] a = tt
asks_same sent (u ∷ us) a = ((λ o. each_asks u.lived.life.era.side.halves.inn (own u.lived.spot.station sent) (a.0 o)), asks_same sent us a.1)
