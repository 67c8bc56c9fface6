-- AN OPEN SLAVE OF A RING by a frame that came back.
use Rattle.std.specs.Prelude.{◌≡◌, ℕ, if◌then◌else◌, List, [], ◌∷◌, ⊤}
use Rattle.whole_ring.specs.of_life_model.Lives.{Stand}
use Rattle.whole_ring.specs.of_life_model.Own.{own}
use Rattle.slave_server.specs.of_link_mails.Body.{Body}
use Rattle.slave_server.specs.of_segment_model.Slaves.{Datagram, Slave, slave_after, slave_steps, frame_after}
use Rattle.run_frames.specs.of_segment_ring.Ring.{is_in_pace}
use Rattle.whole_ring.specs.of_slave_lives.Lived.{node_seen}
use Rattle.slave_server.specs.of_slave_node.Node.{Node}
use Rattle.whole_ring.specs.Members.{Member}

-- the slave as its session has it
abbrev pub slave_in : {S V A Q R : Type 0} → Member S V A Q R → Node S → Slave V Body
slave_in m n = node_seen m.services n

-- the slave behind a frame with this number that had these datagrams, and the step of its pace
abbrev pub slave_on : {S V A Q R : Type 0} → ℕ → List (Datagram Body) → Member S V A Q R → Slave V Body
slave_on made sent m =
    let s = slave_after m.spot.station (slave_in m m.node) (own m.spot.station sent) in
    if is_in_pace m.pace made then slave_steps m.services.exchange m.services.processor s else s

-- WHAT CAME BACK TO ITS STATION is what it made of what was sent there, and its node is that slave
pub record OpenMet {S V A Q R : Type 0} (sent came : List (Datagram Body)) (made : ℕ) (m : Member S V A Q R) (n : Node S) : Type 0 where
  pub back : own m.spot.station came ≡ frame_after m.spot.station (slave_in m m.node) (own m.spot.station sent)
  pub node : slave_in m n ≡ slave_on made sent m

-- of each that is open
abbrev pub AllOpenMet : {S V A Q R : Type 0} → List (Datagram Body) → List (Datagram Body) → ℕ → List (Member S V A Q R) → List (Member S V A Q R) → Type 0
AllOpenMet sent back made [] [] = ⊤
AllOpenMet sent back made (m ∷ ms) (n ∷ ns) = (m.life.stand ≡ Stand.Open → OpenMet sent back made m n.node) × AllOpenMet sent back made ms ns
AllOpenMet sent back made _ _ = ⊥
