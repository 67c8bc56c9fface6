-- WHAT A SLAVE ANSWERS FOR, between two frames: what awaits a step of its processor stands in it, and shows once it made one.
use Rattle.std.specs.Prelude.{◌≡◌, Bool, true, Option, ⊤}
use Rattle.run_frames.specs.of_datagrams.Datagram as Raw
use Rattle.whole_ring.specs.of_esc_registers.declared.registers.Registers as Esc
use Rattle.whole_ring.specs.of_life_model.Lives.{Opening, Stand, Life}
use Rattle.slave_server.specs.of_link_mails.Body.{Body}
use Rattle.whole_ring.specs.of_link_model.Master.{InHalf, InState}
use Rattle.whole_ring.specs.of_mailbox_slave.Registers.{request_of, acknowledge_of}
use Rattle.slave_server.specs.of_segment_model.Slaves.{Found}
use Rattle.whole_ring.specs.of_slave_lives.Lived.{Behind, RingFrame, AccessBack}
use Rattle.whole_ring.specs.of_slave_lives.Opening.{Plan}
use Rattle.whole_ring.specs.of_slave_lives.Shown.{StandsFor}
use Rattle.whole_ring.specs.Whole.{plan_to}

-- where its acknowledge is awaited the repeat request stands, and once the slave made a step its acknowledge
pub record Asked (stepped : Bool) (h : InHalf) (r : Esc.Registers) : Type 0 where
  pub request : h.state ≡ InState.Asked → request_of r ≡ h.bit
  pub acknowledge : h.state ≡ InState.Asked → stepped ≡ true → acknowledge_of r ≡ h.bit

-- by how the master stands to it; `stepped` says whether it made a step since the access in hand is in hand
abbrev pub StandsTo : {Q R : Type 0} → Bool → Life Body Q R → Stand → Esc.Registers → Type 0
StandsTo stepped l (Stand.Opens o) r = StandsFor stepped o r
StandsTo stepped l Stand.Open r = Asked stepped l.era.side.halves.inn r
StandsTo stepped l Stand.Gone r = ⊤

-- an access of an opening came back, which no slave before had met
pub record CameFirst {S V A Q R : Type 0} (w : Behind S V A Q R) (p : Plan) (o : Opening) (t : RingFrame S) (done : Bool) (found : Option Found) : Type 0 where
  pub access : Raw.Datagram
  pub back : AccessBack w.lens (plan_to p o.state) o t access done found
  pub first : access.head.counter ≡ 0
