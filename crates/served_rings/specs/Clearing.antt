-- WHAT A RETURN TO INIT DOES to a slave of a serving: its services are those of its node, whose application is the server itself.
use Rattle.served_places.specs.of_life_model.Eras.{Clearing}
use Rattle.run_work.specs.of_plan_ring.Real.{real_clearing}
use Rattle.run_work.specs.of_slave_parts.Parts.{Server}
use Rattle.served_places.specs.of_state_model.Families.{InState}

-- all transfers are gone and the next packet has frame number 0
abbrev pub serves_clearing : Clearing (InState Server) (InState Server)
serves_clearing = record { clear = real_clearing.clear; cleared = real_clearing.clear }

-- the server in Init
abbrev pub in_init : InState Server → InState Server
in_init v = record v { state = 1 }
