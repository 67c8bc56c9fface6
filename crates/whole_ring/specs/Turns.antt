-- ONE EXCHANGE OF A FRAME, for one slave of the ring and its life.
use Rattle.std.specs.Prelude.{◌≡◌, Bool, true, Option, Some, None, List, length, ⊤}
use Rattle.slave_lives.specs.of_datagrams.Datagram as Raw
use Rattle.slave_lives.specs.of_slave_node.Passing.{datagrams_after}
use Rattle.slave_lives.specs.of_frames_seen.Ring.{AllApart}
use Rattle.slave_lives.specs.of_frame_view.Seen.{seen}
use Rattle.slave_lives.specs.of_link_mails.Body.{Body}
use Rattle.slave_lives.specs.of_link_model.Segment.{RingFate}
use Rattle.slave_lives.specs.of_mailbox_slave.Registers.{in_len}
use Rattle.slave_lives.specs.of_segment_model.Record.{Frame, News}
use Rattle.slave_lives.specs.of_segment_model.Slaves.{Found}
use Rattle.slave_lives.specs.of_segment_ring.Ring.{is_in_pace}
use Rattle.slave_lives.specs.of_state_model.Accounts.{Pick, Duty}
use Rattle.slave_lives.specs.of_life_model.Lives.{Spot, Era, Opening, Stand, Life, AsksOpen, era_next, era_after, life_next, life_back, life_lost}
use Rattle.slave_lives.specs.Lived.{Behind, RingFrame, is_reached, node_met, node_behind, frame_of, AccessBack}
use Rattle.slave_lives.specs.Nodes.{IsRoomy}
use Rattle.slave_lives.specs.Opening.{Plan}
use Rattle.slave_lives.specs.of_slave_node.Node.{Node}
use Rattle.slave_lives.specs.Rings.{registers_of, come_to}
use Rattle.slave_lives.specs.Seats.{Seat, ComesAs, MeetsAs}
use Rattle.whole_ring.specs.Whole.{plan_to}

-- the plan of the opening in hand
abbrev pub plan_at : Plan → Stand → Plan
plan_at p (Stand.Opens o) = plan_to p o.state
plan_at p Stand.Open = p
plan_at p Stand.Gone = p

-- the slave among those of its ring
abbrev pub seat_at : {S V A Q R : Type 0} → Behind S V A Q R → Plan → Stand → Node S → Seat S
seat_at w p stand n = record { services = w.running; boot = w.boot; plan = plan_at p stand; stand = stand; node = n }

-- THE MASTER'S FRAME comes to the slave's place with what its stand allows; where it comes so far, it comes so to the slave, past others that are
-- apart from its station; and before a step there is room for the mail that the slave offers
pub record FrameComes {S V A Q R : Type 0} (w : Behind S V A Q R) (p : Plan) (spot : Spot) (stand : Stand) (t : RingFrame S) : Type 0 where
  pub at : length t.before ≡ spot.place
  pub sent : ComesAs (plan_at p stand) stand spot.place 0 t.datagrams
  pub meets : is_reached t ≡ true → MeetsAs (plan_at p stand) stand t.node.registers (come_to t.before t.datagrams)
  pub apart : is_reached t ≡ true → AllApart p.station (registers_of t.before) t.datagrams
  pub last : is_reached t ≡ true → AllApart p.station (registers_of t.behind) (datagrams_after t.node.registers (come_to t.before t.datagrams))
  pub roomy : is_in_pace t.pace t.ring.number ≡ true → IsRoomy w.running (in_len (node_met t).registers) (node_met t).server

module _ {S V A Q R : Type 0} (w : Behind S V A Q R) (more : Body → Bool) (passed : Q → Bool) (spot : Spot) (fs : List (Frame Body)) (t : RingFrame S) (pick : Pick Q) (news : List (News Body)) where
  -- the epoch before the frame, by the master's choice, and behind it
  abbrev pub era_before : Era Body Q R → Era Body Q R
  era_before e = era_next w.exchange.speech w.states.acknowledged more passed (length fs) e pick

  -- the epoch behind the frame
  abbrev pub era_behind : RingFate → Era Body Q R → Era Body Q R
  era_behind fate e = let f = frame_of w.lens t in era_after w.exchange.speech w.states.acknowledged more passed spot.station (length fs) news f.sent fate f.back (era_before e)

  -- THE LIFE BEHIND THE FRAME; `came` is the opening's own datagram
  abbrev pub life_by : Option (Bool × Option Found) → RingFate → Life Body Q R → Stand → Life Body Q R
  life_by came RingFate.Back l stand =
      life_back w.exchange.speech w.states.acknowledged more passed (length fs) spot news (frame_of w.lens t).back came (life_next w.exchange.speech w.states.acknowledged more passed (length fs) l stand pick) stand
  life_by came (RingFate.Lost after) l stand =
      life_lost w.exchange.speech w.states.acknowledged more passed spot news (frame_of w.lens t).sent (life_next w.exchange.speech w.states.acknowledged more passed (length fs) l stand pick) stand

  -- of an open slave the frame has what the epoch asks for, and a state service asks for Bootstrap only where the slave has it
  pub record AsksFor (e : Era Body Q R) : Type 0 where
    pub asks : AsksOpen spot.station (era_before e) (seen w.lens t.octets)
    pub boots : (duty : Duty) → (era_behind (frame_of w.lens t).fate e).account.hand ≡ Some duty → duty.target ≡ 3 → w.boot ≡ true

-- of one that is opened the access came back so; and the slave's server, where it is a cleared one, may be served
pub record Came {S V A Q R : Type 0} (w : Behind S V A Q R) (p : Plan) (o : Opening) (t : RingFrame S) (came : Bool × Option Found) : Type 0 where
  pub access : Raw.Datagram
  pub back : AccessBack w.lens (plan_to p o.state) o t access came.0 came.1
  pub ready : (let s = (node_behind w.running t).server in w.running.clear s ≡ s → w.exchange.ready (w.sees o.state s).server ≡ true)

-- where an access of its came back
abbrev pub CameAs : {S V A Q R : Type 0} → Behind S V A Q R → Plan → Opening → RingFrame S → Option (Bool × Option Found) → Type 0
CameAs w p o t None = ⊤
CameAs w p o t (Some came) = Came w p o t came

-- what the frame is for the life, by how the master stands to its slave
abbrev pub TurnsAs : {S V A Q R : Type 0} → Behind S V A Q R → (Body → Bool) → (Q → Bool) → Plan → Spot → List (Frame Body) → RingFrame S → Pick Q → List (News Body) → Option (Bool × Option Found) → Era Body Q R → Stand → Type 0
TurnsAs w more passed p spot fs t pick news came e (Stand.Opens o) = CameAs w p o t came
TurnsAs w more passed p spot fs t pick news came e Stand.Open = AsksFor w more passed spot fs t pick news e
TurnsAs w more passed p spot fs t pick news came e Stand.Gone = ⊤
