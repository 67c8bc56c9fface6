-- A MASTER AND THE RING OF ITS PLAN: its lives of the slaves are those that the ring's law speaks of.
use Rattle.std.specs.Prelude.{◌≡◌, ℕ, Bool, List, [], ◌∷◌, ◌++◌, length, ⊤}
use Rattle.run_frames.specs.of_datagrams.Datagram as Raw
use Rattle.slave_server.specs.of_exchange_model.Exchange.{Speech, IsLawful}
use Rattle.whole_ring.specs.of_frame_view.View.{Lens}
use Rattle.slave_server.specs.of_link_mails.Body.{Body}
use Rattle.slave_server.specs.of_segment_model.Record.{Frame, News}
use Rattle.slave_server.specs.of_segment_plan.declared.slave.SlaveSpec.{SlaveSpec}
use Rattle.run_frames.specs.of_segment_ring.declared.wire.Fate.{Fate}
use Rattle.run_frames.specs.of_segment_ring.declared.wire.Fate.TheVariants.{Pass, Lost}
use Rattle.run_frames.specs.of_segment_ring.Ring.{RingState, ring_behind}
use Rattle.run_frames.specs.of_segment_ring.Schedule.{fate_at}
use Rattle.slave_server.specs.Serving.{Serving}
use Rattle.slave_server.specs.of_slave_node.Node.{Node, node_passed}
use Rattle.run_frames.specs.of_master_duty.Reply as Master
use Rattle.run_frames.specs.of_master_hand.Spoken.{Asked, hand_speech, acknowledged}
use Rattle.whole_ring.specs.of_frame_view.Frames.{Share}
use Rattle.whole_ring.specs.of_frame_view.Shares as Shares
use Rattle.whole_ring.specs.of_frame_view.Shares.{Lived, IsNext, lived_back, lived_lost}
use Rattle.plan_ring.specs.KeptFirst.{Forgets}
use Rattle.plan_ring.specs.Alike.{Alike, WishIs, InHandIs}
use Rattle.whole_ring.specs.Whole.{IsWhole, OwesLaws}
use Rattle.whole_ring.specs.Members.{IsRing}
use Rattle.whole_ring.specs.Turning.{BeginBoots, frame_at}
use Rattle.plan_ring.specs.Asked.{is_service}
use Rattle.plan_ring.specs.Plan.{PlanMember, FitsPlan, step}

-- what the master speaks with a slave, by the lengths of its mailboxes
abbrev pub speech_of : PlanMember → Speech Body Asked Master.Reply
speech_of m = hand_speech (record { out = m.plan.out; back = m.plan.back })

-- a slave's life as a master shows it
abbrev pub lived_of : PlanMember → Lived Asked Master.Reply
lived_of m = record { spot = m.spot; life = m.life }

-- A MASTER LEADS THE LIFE: it speaks as the slave's client does, by services that owe the laws, and no mail that is passed on is in hand; and what telling an
-- AL state and a return to Init do to the slave's application
pub record IsLed (m : PlanMember) : Type 0 where
  pub alike : Alike is_service (speech_of m) m.services.exchange.speech
  pub lawful : IsLawful m.services.exchange
  pub last : m.services.states.acknowledged ≡ acknowledged
  pub in_hand : InHandIs is_service m.life
  pub forgets : Forgets m.services m.clearing

-- so what its ring has of it is what the promises of its epochs ask for
abbrev pub owed : (m : PlanMember) → IsWhole m.services m.clearing m.plan m.spot → IsLed m → OwesLaws m.services m.clearing m.plan m.spot
owed m whole led = record { whole = whole; lawful = led.lawful }

-- each of these
abbrev pub AllLed : List PlanMember → Type 0
AllLed [] = ⊤
AllLed (m ∷ ms) = IsLed m × AllLed ms

-- a life before a frame as the master shows it, the slave's share of the frame, and the news by which a mail that is passed on goes on
pub record Under : Type 0 where
  pub lived : Lived Asked Master.Reply
  pub share : Share
  pub news : List (News Body)

-- a slave stays: its services and its plan, its place in the ring and its pace
pub record IsSame (m n : PlanMember) : Type 0 where
  pub services : n.services ≡ m.services
  pub clearing : n.clearing ≡ m.clearing
  pub plan : n.plan ≡ m.plan
  pub spot : n.spot ≡ m.spot
  pub first : n.first ≡ m.first
  pub pace : n.pace ≡ m.pace

-- each of these, in order
abbrev pub AllSame : List PlanMember → List PlanMember → Type 0
AllSame [] [] = ⊤
AllSame (m ∷ ms) (n ∷ ns) = IsSame m n × AllSame ms ns
AllSame _ _ = ⊥

module _ (more : Body → Bool) (passed : Asked → Bool) where
  -- THE FRAME UNDER WAY for a slave: by a choice of the master's the life is the one before the frame, the frame has its share for it, and what
  -- was chosen is a service of the slave
  pub record IsUnder (lens : ℕ → Lens) (made : ℕ) (ds : List Raw.Datagram) (m : PlanMember) (u : Under) : Type 0 where
    pub next : IsNext (speech_of m) acknowledged more passed made (lived_of m) u.lived
    pub asked : Shares.Asked lens ds u.lived u.share
    pub wish : WishIs is_service next.pick.begin
    pub boots : BeginBoots m.services.boot next.pick.begin

  -- of all slaves
  abbrev pub AllUnder : (ℕ → Lens) → ℕ → List Raw.Datagram → List PlanMember → List Under → Type 0
  AllUnder lens made ds [] [] = ⊤
  AllUnder lens made ds (m ∷ ms) (u ∷ us) = IsUnder lens made ds m u × AllUnder lens made ds ms us
  AllUnder lens made ds _ _ = ⊥

  -- the life that the master shows behind the frame; `gives` says whether slaves that a lost frame carried are given up
  abbrev pub led_behind : Bool → ℕ → ℕ → Frame Body → Fate → PlanMember → Under → Lived Asked Master.Reply
  led_behind gives recover made f Pass m u = lived_back (speech_of m) acknowledged more passed made f.back u.lived u.share u.news
  led_behind gives recover made f (Lost after) m u = lived_lost (speech_of m) acknowledged more passed gives recover made f.sent u.lived u.share u.news

  -- of all slaves
  abbrev pub AllBehind : Bool → ℕ → ℕ → Frame Body → Fate → List PlanMember → List Under → List PlanMember → Type 0
  AllBehind gives recover made f fate [] [] [] = ⊤
  AllBehind gives recover made f fate (m ∷ ms) (u ∷ us) (n ∷ ns) = (lived_of n ≡ led_behind gives recover made f fate m u) × AllBehind gives recover made f fate ms us ns
  AllBehind gives recover made f fate _ _ _ = ⊥

  -- THE RING BEHIND THE FRAME: all lives are lived by its nodes, a master leads them, and they are those that it shows
  pub record OnAs (lens : ℕ → Lens) (ss : List SlaveSpec) (gives : Bool) (recover : ℕ) (fs : List (Frame Body)) (ring : RingState (Node Serving)) (octets : List ℕ) (ms : List PlanMember) (us : List Under) (fate : Fate) : Type 0 where
    pub behind : List PlanMember
    pub lives : IsRing lens step (FitsPlan ss) (fs ++ frame_at lens ring octets ∷ []) (ring_behind node_passed step ring octets) behind
    pub led : AllLed behind
    pub same : AllSame ms behind
    pub shown : AllBehind gives recover (length fs) (frame_at lens ring octets) fate ms us behind

  -- by the schedule of lost frames
  abbrev pub GoesOn : (ℕ → Lens) → List SlaveSpec → Bool → ℕ → List (Frame Body) → RingState (Node Serving) → List ℕ → List PlanMember → List Under → Type 0
  GoesOn lens ss gives recover fs ring octets ms us = OnAs lens ss gives recover fs ring octets ms us (fate_at ring.lose ring.number)
