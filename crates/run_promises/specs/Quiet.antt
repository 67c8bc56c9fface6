-- WHICH MAILS ARE PASSED ON that make their slave send no packet: fair ones, and none of EoE.
use Rattle.std.specs.Prelude.{◌≡◌, ◌&&◌, not, Bool, true, All, Ok}
use Rattle.packets_heard.specs.of_protocol_models.Network.{Station}
use Rattle.served_rings.specs.of_few_replies.Packets.{is_fair}
use Rattle.packets_heard.specs.of_link_mails.Body.{Body}
use Rattle.packets_heard.specs.of_master_hand.Spoken as Spoken
use Rattle.served_rings.specs.Speakers.{speaker}
use Rattle.served_rings.specs.of_run_work.Sessions.{OwnService}
use Rattle.run_promises.specs.Sends.{is_network}
use Rattle.packets_heard.specs.of_life_runs.Served.{Keyed, Serves}
use Rattle.served_rings.specs.of_slave_model.Profile.{Profile}
use Rattle.served_rings.specs.of_slave_model.Server.{Reply}
use Rattle.served_rings.specs.of_slave_parts.Parts.{Core, Server}
use Rattle.packets_heard.specs.of_state_model.Families.{InState}
use Rattle.served_rings.specs.of_life_counts.Epochs.{Speaker}

-- a mail by which no packet goes
abbrev pub is_quiet : Body → Bool
is_quiet b = is_fair b && not (is_network b)

-- so are all that were asked of a slave
abbrev pub AsksQuiet : Serves → Type 0
AsksQuiet w = All (λ (k : Keyed). is_quiet (Ok k.mail) ≡ true) w.asked

-- A SLAVE AND ITS MASTER, where such mails alone are passed on
abbrev pub quiet_speaker : Profile → Speaker (InState Server) Body OwnService Reply (Station Core) Spoken.Asked
quiet_speaker p = record (speaker p) { fair = is_quiet }
