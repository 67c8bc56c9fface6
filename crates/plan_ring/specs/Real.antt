-- The services of a slave of a plan, as its life has them: the exchange of its four protocols behind its mailboxes.
use Rattle.std.specs.Prelude.{◌≡◌, ℕ, Bool, true}
use Rattle.whole_ring.specs.of_frame_view.View.{Lens}
use Rattle.slave_server.specs.of_protocol_models.Network.{Station}
use Rattle.slave_server.specs.of_state_model.Families.{InState, states_of}
use Rattle.whole_ring.specs.of_frames_seen.Shows.{slave_table}
use Rattle.slave_server.specs.of_state_model.States.{carry}
use Rattle.slave_server.specs.of_slave_model.Acknowledged.{acknowledged}
use Rattle.slave_server.specs.of_slave_model.Product.{product}
use Rattle.slave_server.specs.of_slave_model.Profile.{Protocol, Profile}
use Rattle.slave_server.specs.of_slave_model.Server.{ServiceOf, Reply}
use Rattle.slave_server.specs.of_slave_parts.Parts.{Core, Server, parts}
use Rattle.slave_server.specs.Seen.{seen_in}
use Rattle.whole_ring.specs.of_life_model.Eras.{Clearing}
use Rattle.slave_server.specs.Serving.{Serving, takes, next_mail, rest, fresh, cleared}
use Rattle.slave_server.specs.of_slave_node.Node.{Node}
use Rattle.slave_server.specs.of_slave_node.Step.{pdi_step}
use Rattle.whole_ring.specs.of_slave_lives.Lived.{Behind}
use Rattle.whole_ring.specs.of_slave_lives.Nodes.{stepped}
use Rattle.whole_ring.specs.of_slave_lives.Steps.{Running}

-- the services as they run under a profile, which never changes
abbrev pub running_as : Profile → Running Serving
running_as p = record { take = λ s b al. takes (record s { profile = p }) b al; next = next_mail; rest = rest; clear = cleared }

-- THE SLAVE'S SERVICES IN A SESSION: the exchange of its protocols, its AL state among its application, and control words by its own table
abbrev pub real : Profile → Bool → (ℕ → Lens) → Behind Serving (InState Server) (InState (Station Core)) ((i : Protocol) × ServiceOf i) Reply
real p boot lens = record {
  exchange = product parts p;
  states = states_of acknowledged;
  processor = record { carry = carry (slave_table boot true); tell = λ state v. record v { state = state } };
  running = running_as p;
  sees = seen_in;
  boot = boot;
  lens = lens;
}

-- a step of the running slave is that of its services under their profile, which stays
pub record StepsAs (p : Profile) (n : Node Serving) : Type 0 where
  pub step : pdi_step takes next_mail rest cleared n ≡ stepped (running_as p) n
  pub profile : (pdi_step takes next_mail rest cleared n).server.profile ≡ p

-- what a return to Init does to the server, and to its application: all transfers are gone and the next packet has frame number 0
abbrev pub real_clearing : Clearing (InState Server) (InState (Station Core))
real_clearing = record {
  clear = λ v. record v { inner = record (fresh v.inner.app.app) { handled = v.inner.handled } };
  cleared = λ a. record a { inner = record a.inner { frame = 0 } };
}
