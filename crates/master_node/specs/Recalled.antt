-- WHAT A FRAME THAT CAME BACK LEAVES TO REMEMBER of a slave's visits, by what was remembered before.
use Rattle.std.specs.Prelude.{◌≡◌, ◌==◌, ℕ, Bool, true, false, Some, List, [], ◌∷◌, ⊤}
use Rattle.life_runs.specs.of_life_model.Visits.{Visit}
use Rattle.life_runs.specs.of_frame_view.View.{Lens}
use Rattle.life_runs.specs.of_frame_view.Shares.{AllThree}
use Rattle.life_runs.specs.Led.{Turn, speech_at}
use Rattle.life_runs.specs.of_segment_model.Slaves.{Datagram, Found}
use Rattle.life_runs.specs.of_master_side.Due.{EachDue}
use Rattle.life_runs.specs.of_master_side.Recall.{Recall}
use Rattle.life_runs.specs.of_link_mails.Body.{Body}
use Rattle.life_runs.specs.of_master_tour.Brings.{accepted_in}
use Rattle.life_runs.specs.of_life_model.Lives.{Stand}
use Rattle.life_runs.specs.of_life_model.Own.{own}
use Rattle.master_node.specs.Eager.{IsClear, turn_visit}

-- BEHIND A VISIT: a write that was not done pauses, until a read comes back
abbrev pub paused_behind : Visit → ℕ → Bool → Bool
paused_behind Visit.Write counter paused = counter == 0
paused_behind Visit.Read counter paused = false
paused_behind Visit.Full counter paused = paused

-- and behind the status of mailbox 0 mailbox 1 is read next
abbrev pub turn_behind : Visit → Bool → Bool
turn_behind Visit.Write turn = turn
turn_behind Visit.Read turn = false
turn_behind Visit.Full turn = true

-- nothing was gained by it: where it was the status of mailbox 0, that was full
abbrev pub IsFull : Visit → Datagram Body → Type 0
IsFull Visit.Write d = ⊤
IsFull Visit.Read d = ⊤
IsFull Visit.Full d = ((d.counter == 0) ≡ false) × (d.found ≡ Some (Found.Full true))

-- A SLAVE BEHIND A FRAME THAT CAME BACK SO: what is remembered of it, by what was; and its hand knows its mails as long as each mail of the slave is due
pub record RecallsBack (lens : ℕ → Lens) (back : List (Datagram Body)) (u : Turn) (m n : Recall) : Type 0 where
  pub visited : IsClear u → u.share.under ≡ true → (v : Visit) → turn_visit u m ≡ Some v → (d : Datagram Body) → own u.lived.spot.station back ≡ d ∷ [] → IsFull v d →
      (n.paused ≡ paused_behind v d.gram.counter m.paused) × (n.turn ≡ turn_behind v m.turn)
  pub unvisited : u.lived.life.stand ≡ Stand.Open → u.share.under ≡ false → n ≡ m
  pub known : m.knows ≡ true → (u.lived.life.stand ≡ Stand.Open → EachDue (speech_at lens u.lived.spot) u.lived.life.era.side.now (accepted_in u.lived.spot u.lived.life back)) → n.knows ≡ true

-- of all slaves; a frame that was lost brought nothing back
abbrev pub AllRecall : (ℕ → Lens) → List (Datagram Body) → List Turn → List Recall → List Recall → Type 0
AllRecall lens back us ms ns = AllThree (λ u m n. RecallsBack lens back u m n) us ms ns

-- before the first frame
abbrev pub AllKnow : List Recall → Type 0
AllKnow [] = ⊤
AllKnow (m ∷ ms) = (m.knows ≡ true) × AllKnow ms
