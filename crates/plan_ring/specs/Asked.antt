-- THE SERVICES OF A SLAVE AS A MASTER ASKS FOR THEM: by the names that the master has for them, and with its replies.
use Rattle.std.specs.Prelude.{ℕ, Bool, true, false, Some}
use Rattle.whole_ring.specs.of_frame_view.View.{Lens}
use Rattle.slave_server.specs.of_protocol_models.CoeMeaning as CoeMeaning
use Rattle.slave_server.specs.of_protocol_models.Tables.{nowhere}
use Rattle.slave_server.specs.of_protocol_models.Network.{Station}
use Rattle.slave_server.specs.of_state_model.Families.{InState, states_of}
use Rattle.run_frames.specs.of_master_duty.Reply as Master
use Rattle.run_frames.specs.of_master_hand.Spoken.{Asked, sdo, file, drive, net, passed, hand_speech, acknowledged}
use Rattle.plan_ring.specs.Named.{Naming, named, named_states}
use Rattle.whole_ring.specs.of_slave_lives.Lived.{Behind}
use Rattle.slave_server.specs.of_slave_model.Acknowledged as Slave
use Rattle.slave_server.specs.of_slave_model.Product.{product}
use Rattle.slave_server.specs.of_slave_model.Profile.{Protocol, Profile, areas_of}
use Rattle.slave_server.specs.of_slave_model.Server.{ServiceOf, Reply}
use Rattle.slave_server.specs.of_slave_parts.Parts.{Core, Server, parts}
use Rattle.slave_server.specs.Serving.{Serving}
use Rattle.plan_ring.specs.Real.{real}

-- a service of one of the slave's protocols; a mail that is passed on is none
abbrev pub is_service : Asked → Bool
is_service (sdo q) = true
is_service (file q) = true
is_service (drive q) = true
is_service (net q) = true
is_service (passed m) = false

-- which
abbrev pub service_of : Asked → (i : Protocol) × ServiceOf i
service_of (sdo q) = (Protocol.CoE, q)
service_of (file q) = (Protocol.FoE, q)
service_of (drive q) = (Protocol.SoE, q)
service_of (net q) = (Protocol.EoE, q)
service_of (passed m) = (Protocol.CoE, CoeMeaning.upload nowhere)

-- the services of a script, as the master's own words name them
abbrev pub as_asked : Naming ((i : Protocol) × ServiceOf i) Reply Asked Master.Reply
as_asked = record { is = is_service; service = service_of; reply = λ r. Some r }

-- THE SLAVE'S SERVICES IN A SESSION with that master
abbrev pub asked : Profile → Bool → (ℕ → Lens) → Behind Serving (InState Server) (InState (Station Core)) Asked Master.Reply
asked p boot lens = record {
  exchange = named (product parts p) as_asked (hand_speech (areas_of p));
  states = named_states (states_of Slave.acknowledged) acknowledged;
  processor = (real p boot lens).processor;
  running = (real p boot lens).running;
  sees = (real p boot lens).sees;
  boot = boot;
  lens = lens;
}
