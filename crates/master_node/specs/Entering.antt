-- A PACKET OF THE HOST COMES IN where nothing else is left to do.
use Rattle.std.specs.Prelude.{◌≡◌, ◌≤◌, ℕ, Bool, true, false, List, [], ◌∷◌, length, nat_lt, slice_get, IfSome}
use Rattle.arrayvec.specs.ArrayVec.{ArrayVec}
use Rattle.eoe_switch.specs.declared.switching.SwitchEvent.TheVariants.{Arrive}
use Rattle.life_runs.specs.of_master_tour.declared.stop.Stand.{Stand}
use Rattle.master_node.specs.Happened.{NoneWaits}
use Rattle.master_node.specs.Passes.{waits_in}
use Rattle.master_node.specs.Resting.{StopRests}
use Rattle.master_node.specs.Serving.{mails_in}
use Rattle.master_node.specs.declared.happened.Happening.{Happening}
use Rattle.master_node.specs.declared.lan.Lan.{Lan}
use Rattle.master_node.specs.declared.node.MasterNode.{MasterNode}

-- the first that happened in a step is that a packet came in at the host's port
pub record EntersFirst (rows : List Happening) : Type 0 where
  pub packet : ArrayVec ℕ
  pub handed : Bool
  pub rest : List Happening
  pub is : rows ≡ record { event = Arrive 0 packet; handed = handed } ∷ rest

-- a packet of the host may come in: one has not yet, and none waits at any port
pub record HostMayEnter (l : Lan) : Type 0 where
  pub left : nat_lt l.entered (length l.host) ≡ true
  pub quiet : NoneWaits l.switch

-- nothing is left to do: each slave was given up for good or rests, no mail waits for an open one, and all packets of the host have come in
pub record IsIdle (m : MasterNode) : Type 0 where
  pub rest : (k : ℕ) → IfSome (slice_get m.tour.stops.items k) (λ s. StopRests m.lan k s × (s.stand ≡ Stand.Open → waits_in (mails_in m) k ≡ []))
  pub come : nat_lt m.lan.entered (length m.lan.host) ≡ false

-- each slave has had its first bring-up, and was given up for good or rests
pub record AllStopsRest (m : MasterNode) : Type 0 where
  pub opened : length m.tour.stops.items ≤ m.tour.opened
  pub rest : (k : ℕ) → IfSome (slice_get m.tour.stops.items k) (λ s. StopRests m.lan k s)
