-- A SLAVE'S LIFE AS ITS NODE LIVES IT: the node's registers, box and server, as the exchange's, are the slave of the epoch that is open.
use Rattle.std.specs.Prelude.{◌≡◌, ◌≢◌, ◌<◌, ◌∷◌, ◌++◌, ℕ, Bool, true, List, [], length, Option, Some, None}
use Rattle.frames_seen.specs.of_datagrams.Datagram as Raw
use Rattle.frames_seen.specs.of_datagrams.Frame.{IsFrame}
use Rattle.frames_seen.specs.of_exchange_model.Exchange.{Exchange}
use Rattle.frames_seen.specs.of_frame_view.View.{Lens}
use Rattle.frames_seen.specs.of_frame_view.Seen.{seen, datagrams_seen}
use Rattle.frames_seen.specs.Own.{own_of, IsAlone}
use Rattle.frames_seen.specs.Ring.{AllApart}
use Rattle.frames_seen.specs.Slaves.{registers_seen, slave_of, IsOpen}
use Rattle.frames_seen.specs.Spoken.{AllSpoken}
use Rattle.frames_seen.specs.of_slave_node.Passing.{datagrams_after}
use Rattle.frames_seen.specs.of_link_mails.Body.{Body}
use Rattle.frames_seen.specs.of_mailbox_slave.Node.{in_side}
use Rattle.frames_seen.specs.of_mailbox_slave.Registers.{in_len}
use Rattle.frames_seen.specs.of_segment_model.Slaves.{Registers, Slave, Serving, Processor, Found}
use Rattle.frames_seen.specs.of_segment_model.Record.{Frame, News}
use Rattle.frames_seen.specs.of_segment_ring.declared.wire.Fate.{Fate}
use Rattle.frames_seen.specs.of_segment_ring.declared.wire.Fate.TheVariants.{Pass, Lost}
use Rattle.frames_seen.specs.of_state_model.Stated.{Stated}
use Rattle.frames_seen.specs.Shows.{slave_table}
use Rattle.frames_seen.specs.of_state_model.States as States
use Rattle.frames_seen.specs.of_segment_ring.Schedule.{fate_at}
use Rattle.frames_seen.specs.of_segment_ring.Ring.{RingState, is_in_pace, ring_behind, ring_returned}
use Rattle.frames_seen.specs.of_state_model.Accounts.{Pick}
use Rattle.frames_seen.specs.of_slave_node.Node.{Node, node_passed}
use Rattle.frames_seen.specs.of_life_model.Lives.{Spot, Era, Opening, AsksOpen, era_next, era_after, new_era}
use Rattle.frames_seen.specs.of_life_model.Eras.{EraIs}
use Rattle.slave_lives.specs.Nodes.{IsRunning, IsRoomy, stepped}
use Rattle.slave_lives.specs.Opening.{Plan, IsPlan, IsOpened, AtMostOne, JustOne}
use Rattle.slave_lives.specs.Returning.{Clears}
use Rattle.slave_lives.specs.Rings.{registers_of, come_to, come_back, fate_seen, is_met_at, met, turned}
use Rattle.slave_lives.specs.Stands.{turn_of, CameBack, Closing, MayStep}
use Rattle.slave_lives.specs.Steps.{Running, IsServedAs, StaysUp, Stands}

-- what a running slave's services are in a session: the exchange behind its mailboxes, its AL state among its application, what its processor
-- does beside, the services as they run, how they are seen in each AL state, whether it has Bootstrap, and the lengths at each station
pub record Behind (S V A Q R : Type 0) : Type 0 where
  pub exchange : Exchange V A Body Q R
  pub states : Stated V A Q
  pub processor : Processor V
  pub running : Running S
  pub sees : ℕ → S → Serving V Body
  pub boot : Bool
  pub lens : ℕ → Lens

-- the tables of such a slave, which is the only one of its session
abbrev pub table_of : {S V A Q R : Type 0} → Behind S V A Q R → ℕ → States.Table
table_of w station = slave_table w.boot true

-- the services are the exchange's, and the processor carries out control words by the slave's own table
pub record IsBehind {S V A Q R : Type 0} (w : Behind S V A Q R) : Type 0 where
  pub served : IsServedAs w.exchange w.processor w.running w.sees
  pub carries : (r : Registers) → w.processor.carry r ≡ States.carry (slave_table w.boot true) r
  pub clears : Clears w.running

-- A NODE AS A SLAVE OF A SESSION
abbrev pub node_seen : {S V A Q R : Type 0} → Behind S V A Q R → Node S → Slave V Body
node_seen w n = slave_of n.kept n.registers (w.sees (registers_seen n.registers).state n.server)

-- AN OPEN SLAVE'S NODE LIVES THE EPOCH, which began with this application, told the AL state of the epoch, not Init, and in the first the plan's: it is
-- open at its station, and the slave of the epoch's session up to the last of these frames
pub record LivesEra {S V A Q R : Type 0} (w : Behind S V A Q R) (spot : Spot) (from : A) (e : Era Body Q R) (fs : List (Frame Body)) (n : Node S) : Type 0 where
  pub opened : ℕ
  pub server : V
  pub registers : Registers
  pub before : opened < length fs
  pub begins : w.exchange.app server ≡ w.states.told registers.state from
  pub up : w.states.state (w.exchange.app server) ≢ 1
  pub first : e.cleared ≡ None → registers.state ≡ spot.start
  pub in_state : registers.state ≡ e.state
  pub is : EraIs w.exchange w.states w.processor (table_of w) spot e opened (length fs) fs server registers (node_seen w n)
  pub opens : IsOpen w.lens n.registers
  pub station : n.registers.station ≡ spot.station
  pub stands : Stands (in_side n.kept n.registers)
  pub runs : IsRunning w.running n
  pub boot : n.boot ≡ w.boot

-- a frame as these datagrams were sent, with its fate and what came back of it
abbrev pub frame_seen : (ℕ → Lens) → List Raw.Datagram → Fate → List Raw.Datagram → Frame Body
frame_seen lens sent fate back = record { sent = datagrams_seen lens sent; fate = fate_seen fate; back = datagrams_seen lens back }

-- what comes back of a frame of this fate
abbrev pub returned : {S : Type 0} → Fate → List (Node S) → Node S → List (Node S) → List Raw.Datagram → List Raw.Datagram
returned Pass before n behind ds = come_back before n behind ds
returned (Lost after) before n behind ds = []

-- A FRAME IS FOR THE OPEN SLAVE ALONE at its station: no datagram to it means a slave before or behind it, no other means the slave, and a
-- session speaks of those to it
pub record IsForOpen {S : Type 0} (before : List (Node S)) (n : Node S) (behind : List (Node S)) (ds : List Raw.Datagram) : Type 0 where
  pub apart : AllApart n.registers.station (registers_of before) ds
  pub alone : IsAlone n.registers.station n.registers (come_to before ds)
  pub last : AllApart n.registers.station (registers_of behind) (datagrams_after n.registers (come_to before ds))
  pub spoken : AllSpoken n.registers.station (own_of n.registers.station ds)

-- the slave makes its step in a state that is not Init and asks for none, with room for the mail that it offers
pub record StepsUp {S V A Q R : Type 0} (w : Behind S V A Q R) (n : Node S) : Type 0 where
  pub up : StaysUp n.boot n.registers
  pub roomy : IsRoomy w.running (in_len n.registers) n.server

-- ONE FRAME OF A RING of octets, for the slave at one place: the ring before it, the frame and its datagrams, the slaves before that one, it
-- with its pace, and those behind
pub record RingFrame (S : Type 0) : Type 0 where
  pub ring : RingState (Node S)
  pub octets : List ℕ
  pub datagrams : List Raw.Datagram
  pub before : List (Node S)
  pub node : Node S
  pub behind : List (Node S)
  pub front : List ℕ
  pub pace : ℕ
  pub rest : List ℕ
  pub is_frame : IsFrame octets datagrams
  pub nodes : ring.nodes ≡ before ++ node ∷ behind
  pub paces : ring.paces ≡ front ++ pace ∷ rest
  pub place : length front ≡ length before

-- its fate, whether it meets the slave, what it makes of it, and the slave behind the step that follows
abbrev pub fate_of : {S : Type 0} → RingFrame S → Fate
fate_of t = fate_at t.ring.lose t.ring.number

-- whether the frame meets the slave
abbrev pub is_reached : {S : Type 0} → RingFrame S → Bool
is_reached t = is_met_at (length t.before) (fate_of t)

-- the slave behind the frame
abbrev pub node_met : {S : Type 0} → RingFrame S → Node S
node_met t = met (is_reached t) t.node (come_to t.before t.datagrams)

-- the slave behind the step that follows
abbrev pub node_behind : {S : Type 0} → Running S → RingFrame S → Node S
node_behind u t = turned u t.pace t.ring.number (node_met t)

-- what came back of it, and the frame as a session sees it
abbrev pub octets_back : {S : Type 0} → RingFrame S → List ℕ
octets_back t = ring_returned node_passed t.ring t.octets

-- the frame as a session sees it
abbrev pub frame_of : {S : Type 0} → (ℕ → Lens) → RingFrame S → Frame Body
frame_of lens t = record { sent = seen lens t.octets; fate = fate_seen (fate_of t); back = seen lens (octets_back t) }

-- the ring behind it has the slave, as it then is, at its place
pub record StandsBehind {S : Type 0} (u : Running S) (t : RingFrame S) (m : Node S) : Type 0 where
  pub left : List (Node S)
  pub right : List (Node S)
  pub place : length left ≡ length t.before
  pub nodes : (ring_behind node_passed (stepped u) t.ring t.octets).nodes ≡ left ++ m ∷ right

-- A FRAME OF AN OPEN SLAVE: its epoch is lived by its node, the master's choice asks for what the frame has for it, the frame is for it alone
-- where it comes so far, and a step behind it is one of a slave that stays up
pub record OpenFrame {S V A Q R : Type 0} (w : Behind S V A Q R) (more : Body → Bool) (passed : Q → Bool) (spot : Spot) (from : A) (e : Era Body Q R) (fs : List (Frame Body)) (t : RingFrame S) (pick : Pick Q) : Type 0 where
  pub at : length t.before ≡ spot.place
  pub lives : LivesEra w spot from e fs t.node
  pub alone : is_reached t ≡ true → IsForOpen t.before t.node t.behind t.datagrams
  pub asks : AsksOpen spot.station (era_next w.exchange.speech w.states.acknowledged more passed (length fs) e pick) (seen w.lens t.octets)
  pub steps : is_in_pace t.pace t.ring.number ≡ true → StepsUp w (node_met t)

-- THE EPOCH IS LIVED ON: behind the frame the slave's node stands at its place of the ring and lives the epoch as the master has it then
pub record LivedOn {S V A Q R : Type 0} (w : Behind S V A Q R) (more : Body → Bool) (passed : Q → Bool) (spot : Spot) (from : A) (e : Era Body Q R) (fs : List (Frame Body)) (t : RingFrame S) (pick : Pick Q) (news : List (News Body)) : Type 0 where
  pub stands : StandsBehind w.running t (node_behind w.running t)
  pub lives : (let f = frame_of w.lens t in
      let next = era_next w.exchange.speech w.states.acknowledged more passed (length fs) e pick in
      LivesEra w spot from (era_after w.exchange.speech w.states.acknowledged more passed spot.station (length fs) news f.sent f.fate f.back next) (fs ++ f ∷ []) (node_behind w.running t))

-- A SLAVE THAT WAS JUST OPENED by this plan, whose server has nothing waiting and may be served
pub record OpensEra {S V A Q R : Type 0} (w : Behind S V A Q R) (p : Plan) (spot : Spot) (n : Node S) : Type 0 where
  pub plan : IsPlan w.boot w.lens p
  pub station : p.station ≡ spot.station
  pub opened : IsOpened w.lens p n.registers n.kept n.server
  pub waits : w.running.next n.server ≡ None
  pub ready : w.exchange.ready (w.sees p.start n.server).server ≡ true
  pub runs : IsRunning w.running n
  pub boot : n.boot ≡ w.boot

-- its epoch before any service: it begins with this server, told the state that was opened
abbrev pub opened_era : {Q R : Type 0} → Option ℕ → ℕ → ℕ → Era Body Q R
opened_era {Q} {R} cleared state opened = record (new_era {M = Body} {Q = Q} {R = R} cleared state) { opened = Some opened }

-- THE EPOCH BEGINS: the node lives it, from the server and the registers as its opening left them, with the application that it had in whatever
-- AL state it is seen
pub record BegunEra {S V A Q R : Type 0} (w : Behind S V A Q R) (p : Plan) (spot : Spot) (al : ℕ) (cleared : Option ℕ) (opened : ℕ) (fs : List (Frame Body)) (n : Node S) : Type 0 where
  pub lives : LivesEra w spot (w.exchange.app (w.sees al n.server).server) (opened_era {Q = Q} {R = R} cleared p.start opened) fs n
  pub server : lives.server ≡ (w.sees p.start n.server).server
  pub state : w.states.state (w.exchange.app lives.server) ≡ p.start

-- A FRAME OF A CLOSED SLAVE: an access of an opening is in hand, where the frame comes so far at most that access means it, and a step behind it
-- may be made
pub record ClosedFrame {S : Type 0} (u : Running S) (boot : Bool) (lens : ℕ → Lens) (p : Plan) (o : Opening) (t : RingFrame S) : Type 0 where
  pub closing : Closing u boot lens p o t.node
  pub one : is_reached t ≡ true → AtMostOne p (turn_of o) t.node.registers (come_to t.before t.datagrams)
  pub steps : is_in_pace t.pace t.ring.number ≡ true → MayStep u boot (node_met t)

-- it came back, and the slave met the access, which came back from it so
pub record AccessBack {S : Type 0} (lens : ℕ → Lens) (p : Plan) (o : Opening) (t : RingFrame S) (d : Raw.Datagram) (done : Bool) (found : Option Found) : Type 0 where
  pub came : fate_of t ≡ Pass
  pub just : JustOne p (turn_of o) t.node.registers (come_to t.before t.datagrams)
  pub back : CameBack lens p (turn_of o) t.node.registers d done found
