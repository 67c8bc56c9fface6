-- AN OPEN SLAVE'S EPOCH AS ITS MASTER LEADS IT, turn by turn, and as its node lives it.
use Rattle.std.specs.Prelude.{◌≡◌, ◌≢◌, ◌<◌, ◌∷◌, ℕ, Bool, true, List, [], length, None, if◌then◌else◌}
use Rattle.run_work.specs.of_frame_view.Seen.{seen}
use Rattle.run_work.specs.of_frames_seen.Slaves.{IsOpen}
use Rattle.served_places.specs.of_life_model.Eras.{planned}
use Rattle.served_places.specs.of_life_model.Lives.{Spot, Era, AsksOpen, era_next}
use Rattle.served_places.specs.of_link_mails.Body.{Body}
use Rattle.run_work.specs.of_mailbox_slave.Node.{in_side}
use Rattle.run_work.specs.of_few_replies.Led.{IsLed, EraTurn}
use Rattle.served_places.specs.of_segment_model.Record.{Frame}
use Rattle.served_places.specs.of_segment_model.Slaves.{Registers}
use Rattle.served_places.specs.of_segment_ring.Ring.{is_in_pace}
use Rattle.run_work.specs.of_slave_lives.Lived.{Behind, RingFrame, IsForOpen, StepsUp, is_reached, node_met, node_behind, node_seen, frame_of, table_of}
use Rattle.run_work.specs.of_slave_lives.Nodes.{IsRunning}
use Rattle.run_work.specs.of_slave_lives.Steps.{Stands}
use Rattle.run_work.specs.of_slave_node.Node.{Node}
use Rattle.served_places.specs.of_state_model.Accounts.{Pick}
use Rattle.served_places.specs.of_state_model.Tasks.{IsTaskPlan}

-- a slave makes a step behind a frame, or none
abbrev pub steps_at : Bool → List ℕ
steps_at pace = if pace then 0 ∷ [] else []

module _ {S V A Q R : Type 0} (w : Behind S V A Q R) (more : Body → Bool) (passed : Q → Bool) (spot : Spot) where
  -- IT BEGAN with this application, told the AL state of the epoch, not Init, and in the first the plan's; from there its master led it to the
  -- slave that the node is; `counts` says whether an empty read of mailbox 1 counts
  pub record LedEra (from : A) (counts : Bool) (e : Era Body Q R) (fs : List (Frame Body)) (n : Node S) : Type 0 where
    pub opened : ℕ
    pub server : V
    pub registers : Registers
    pub before : opened < length fs
    pub begins : w.exchange.app server ≡ w.states.told registers.state from
    pub up : w.states.state (w.exchange.app server) ≢ 1
    pub first : e.cleared ≡ None → registers.state ≡ spot.start
    pub in_state : registers.state ≡ e.state
    pub plan : IsTaskPlan w.exchange w.states w.processor (table_of w) (planned spot server registers ∷ [])
    pub answers : registers.station ≡ spot.station
    pub led : IsLed w.exchange w.states.acknowledged w.processor more passed spot opened server registers fs counts e (node_seen w n)
    pub opens : IsOpen w.lens n.registers
    pub station : n.registers.station ≡ spot.station
    pub stands : Stands (in_side n.kept n.registers)
    pub runs : IsRunning w.running n
    pub boot : n.boot ≡ w.boot

  -- A FRAME OF THE RING for the slave: it is for it alone where it comes so far, its master asks what it may, and a step behind it is one of a slave that stays up
  pub record LedFrame (e : Era Body Q R) (fs : List (Frame Body)) (t : RingFrame S) (pick : Pick Q) : Type 0 where
    pub at : length t.before ≡ spot.place
    pub alone : is_reached t ≡ true → IsForOpen t.before t.node t.behind t.datagrams
    pub asks : AsksOpen spot.station (era_next w.exchange.speech w.states.acknowledged more passed (length fs) e pick) (seen w.lens t.octets)
    pub steps : is_in_pace t.pace t.ring.number ≡ true → StepsUp w (node_met t)

  -- the turn that it is
  abbrev pub turn_of : RingFrame S → Pick Q → EraTurn V Body Q
  turn_of t pick = record { pick = pick; sent = seen w.lens t.octets; fate = (frame_of w.lens t).fate; back = (frame_of w.lens t).back; steps = steps_at (is_in_pace t.pace t.ring.number); slave = node_seen w (node_behind w.running t) }
