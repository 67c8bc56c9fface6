-- WHAT STOOD AS EACH EPOCH OF A SLAVE ENDED: its node held what was carried out of it. So what is said of an epoch that is over is what was so as it ended. And the
-- AL state of a slave that was given up for good while it was open.
use Rattle.std.specs.Prelude.{◌≡◌, ℕ, Bool, Option, Some, List, [], ◌∷◌, ◌++◌, ⊤}
use Rattle.run_work.specs.of_frames_seen.Slaves.{registers_seen}
use Rattle.served_places.specs.of_life_model.Lives.{Era, Life, Stand}
use Rattle.served_places.specs.of_life_runs.Led.{Exchanged}
use Rattle.served_places.specs.of_link_mails.Body.{Body}
use Rattle.run_work.specs.of_master_duty.Reply.{Reply}
use Rattle.run_work.specs.of_master_hand.Spoken.{Asked}
use Rattle.run_work.specs.of_plan_ring.Round.{ring_after, ring_of}
use Rattle.run_work.specs.Lives.{first_server}
use Rattle.run_work.specs.of_segment_plan.declared.plan.Scenario.{Scenario}
use Rattle.run_work.specs.of_segment_plan.declared.slave.SlaveSpec.{SlaveSpec}
use Rattle.served_rings.specs.Rings.{nodes_behind}
use Rattle.served_rings.specs.Served.{AllServeSo, AreServedEras, Holds, IsServedLife, IsServedNewest}
use Rattle.served_rings.specs.StoodLives.{IsFirst, LeftOpen, others}
use Rattle.served_places.specs.of_life_runs.Served.{Serves}
use Rattle.run_work.specs.of_slave_model.Profile.{Profile}
use Rattle.run_work.specs.of_slave_parts.Parts.{Server}
use Rattle.run_work.specs.of_slave_server.Serving.{Serving}
use Rattle.run_work.specs.of_slave_server.Spec.{profile_of}
use Rattle.run_work.specs.of_slave_node.Node.{Node}
use Rattle.served_places.specs.of_state_model.Families.{InState}

-- BEHIND THE FRAME that showed the return to Init the slave's node held what this server has; `stood` says of a frame which node the slave was behind it
pub record HeldAt (stood : ℕ → Node Serving → Type 0) (v : InState Server) (cleared : Option ℕ) : Type 0 where
  pub frame : ℕ
  pub shown : cleared ≡ Some frame
  pub node : Node Serving
  pub stands : stood frame node
  pub holds : Holds v node

module _ (p : Profile) (boot : Bool) (station : ℕ) (stood : ℕ → Node Serving → Type 0) where
  -- OF EACH EPOCH THAT IS OVER its node held what was carried out of it, and where it was never opened what was carried out before it: behind the frame with which
  -- the next one was cleared
  abbrev pub AllHeld : (start : ℕ) (first : InState Server) (es : List (Era Body Asked Reply)) (b : InState Server) → AreServedEras p boot station start first es b → Option ℕ → Type 0
  AllHeld start first _ _ AreServedEras.none cleared = ⊤
  AllHeld start first _ _ (AreServedEras.unopened es b e before none) cleared = AllHeld start first es b before e.cleared × HeldAt stood b cleared
  AllHeld start first _ _ (AreServedEras.opened es b e left done before was) cleared = AllHeld start first es b before e.cleared × HeldAt stood done cleared

module _ (p : Profile) (boot : Bool) (station : ℕ) where
  -- THE NEWEST EPOCH WAS OPEN, and the AL state of the node is that of what was carried out
  abbrev pub StateStands : (start : ℕ) (from : InState Server) (e : Era Body Asked Reply) (n : Node Serving) (stand : Stand) → IsServedNewest p boot station start from e n stand → Type 0
  StateStands start from e n _ (IsServedNewest.lives left done inner state was rests) = done.state ≡ (registers_seen n.registers).state
  StateStands start from e n _ (IsServedNewest.unopened stand shut none holds) = ⊥
  StateStands start from e n _ (IsServedNewest.over stand shut left done was holds) = done.state ≡ (registers_seen n.registers).state

-- A SLAVE THAT WAS GIVEN UP FOR GOOD WHILE IT WAS OPEN: none of its give-ups but the last came since its epoch began, and no state service in hand returns it to Init
pub record GoneOpen (l : Life Body Asked Reply) : Type 0 where
  pub gone : l.stand ≡ Stand.Gone
  pub before : List ℕ
  pub last : ℕ
  pub gave : l.gave ≡ before ++ last ∷ []
  pub left : LeftOpen before l.era

-- of a slave of a plan: so it was as each epoch that is over ended; and where it was given up for good while it was open its AL state stands
pub record HeldSo (stood : ℕ → Node Serving → Type 0) (s : SlaveSpec) (l : Life Body Asked Reply) (n : Node Serving) (d : IsServedLife (profile_of s) s.boot s.station s.start (first_server s) l n) : Type 0 where
  pub past : AllHeld (profile_of s) s.boot s.station stood s.start (first_server s) l.past d.from d.past l.era.cleared
  pub state : GoneOpen l → StateStands (profile_of s) s.boot s.station s.start d.from l.era n l.stand d.newest

-- of each, by the nodes of these slaves behind each number of frames
abbrev pub EachHeld : (ℕ → List (Node Serving)) → (ss : List SlaveSpec) (ws : List Serves) (ns : List (Node Serving)) → AllServeSo ss ws ns → Type 0
EachHeld stood (s ∷ ss) (w ∷ ws) (n ∷ ns) served = HeldSo (IsFirst stood) s w.lead.lived.life n served.0 × EachHeld (others stood) ss ws ns served.1
EachHeld stood _ _ _ served = ⊤

-- EACH SLAVE SERVED SO, and as each of its epochs ended its node held what was carried out of it
pub record ServeStood (stood : ℕ → List (Node Serving)) (ss : List SlaveSpec) (ws : List Serves) (ns : List (Node Serving)) : Type 0 where
  pub each : AllServeSo ss ws ns
  pub held : EachHeld stood ss ws ns each

-- THE SLAVES OF A SERVING behind frames that went round the plan's ring
abbrev pub ServeSo : Scenario → List Exchanged → List Serves → Type 0
ServeSo plan fs ws = ServeStood (nodes_behind plan fs) plan.slaves ws (ring_after (ring_of plan) fs).nodes
