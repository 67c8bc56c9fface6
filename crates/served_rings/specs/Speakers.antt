-- A PLAN'S SLAVE AS ITS MASTER SPEAKS WITH IT: by services of its protocols, and by mails that are passed on.
use Rattle.std.specs.Prelude.{ℕ, Bool, true, Ok}
use Rattle.served_places.specs.of_exchange_model.Exchange.{Exchange}
use Rattle.served_places.specs.of_link_mails.Body.{Body}
use Rattle.run_work.specs.of_master_duty.Reply as Master
use Rattle.run_work.specs.of_master_hand.Spoken as Spoken
use Rattle.served_places.specs.of_segment_model.Slaves.{Processor}
use Rattle.served_places.specs.of_serving_model.Tagged.{Asked, untag, asked_full, asked_exec, asked_reply, asked_emits}
use Rattle.served_places.specs.of_serving_model.TaggedStates.{told_state}
use Rattle.run_work.specs.of_few_replies.Packets.{is_calm, is_fair}
use Rattle.run_work.specs.of_slave_model.Acknowledged.{acknowledged}
use Rattle.run_work.specs.of_slave_model.Profile.{Protocol, Profile, areas_of}
use Rattle.run_work.specs.of_slave_model.Server.{Reply}
use Rattle.run_work.specs.of_slave_parts.Parts.{Core, Server, parts}
use Rattle.run_work.specs.of_protocol_models.Network.{Station}
use Rattle.run_work.specs.of_slave_parts.Served.{product_whole}
use Rattle.run_work.specs.of_slave_server.Serving.{fresh}
use Rattle.served_places.specs.of_state_model.Families.{InState, states_of}
use Rattle.served_places.specs.of_state_model.Stated.{Stated}
use Rattle.run_work.specs.of_frames_seen.Shows.{slave_table}
use Rattle.served_places.specs.of_state_model.States.{Table, carry}
use Rattle.run_work.specs.Sessions.{OwnService, Wanted, InRow, named_wanted}
use Rattle.run_work.specs.of_life_counts.Epochs.{Speaker}
use Rattle.run_work.specs.of_life_counts.Spoken.{Naming}

-- the AL state of the whole server
abbrev pub whole_states : Stated (InState Server) (InState Server) OwnService
whole_states = states_of {V = Server} {A = Server} acknowledged

-- what the master speaks, and its names
abbrev pub naming_of : Profile → Naming Body OwnService Spoken.Asked Reply
naming_of p = record { speech = Spoken.hand_speech (areas_of p); name = named_wanted; acknowledged = Spoken.acknowledged; passed = Spoken.is_passed; more = Spoken.is_followed }

-- THE SLAVE AND ITS MASTER: of the server its station is seen in the middle of a service; it is calm behind fair mails
abbrev pub speaker : Profile → Speaker (InState Server) Body OwnService Reply (Station Core) Spoken.Asked
speaker p = record { exchange = product_whole parts p; core = λ v. v.inner.app; states = whole_states; calm = is_calm; fair = is_fair; naming = naming_of p }

-- THE SAME WITH ANY MAILS passed on: of each is known what it says, of none with how many it is answered
abbrev pub any_speaker : Profile → Speaker (InState Server) Body OwnService Reply (Station Core) Spoken.Asked
any_speaker p = record (speaker p) { calm = λ v. true; fair = λ m. true }

-- a service by the master's name for it
abbrev pub wanted : Spoken.Asked → Wanted
wanted (Spoken.sdo q) = Asked.Script (Protocol.CoE, q)
wanted (Spoken.file q) = Asked.Script (Protocol.FoE, q)
wanted (Spoken.drive q) = Asked.Script (Protocol.SoE, q)
wanted (Spoken.net q) = Asked.Script (Protocol.EoE, q)
wanted (Spoken.passed m) = Asked.Passed (Ok m) true

-- THE EXCHANGE THAT ITS NODE RUNS, by the master's names: a mail that is passed on acts by the server's one step
abbrev pub spoken : Profile → Exchange (InState Server) (InState Server) Body Spoken.Asked Master.Reply
spoken p = let x = product_whole parts p in record {
  serve = x.serve;
  app = x.app;
  handled = x.handled;
  ready = x.ready;
  speech = Spoken.hand_speech (areas_of p);
  full = λ v q. untag (asked_full x v (wanted q));
  exec = λ v q. asked_exec x v (wanted q);
  reply = λ v q. asked_reply x v (wanted q);
  emits = λ v q. untag (asked_emits x v (wanted q));
}

-- its AL state
abbrev pub spoken_states : Stated (InState Server) (InState Server) Spoken.Asked
spoken_states = record { tell = whole_states.tell; told = whole_states.told; state = whole_states.state; acknowledged = Spoken.acknowledged }

-- the slave's table of AL states, its areas right
abbrev pub table_of : Bool → ℕ → Table
table_of boot station = slave_table boot true

-- its processor, and as it sees what is meant by the mails
abbrev pub processor_of : Bool → Processor (InState Server)
processor_of boot = record { carry = carry (slave_table boot true); tell = whole_states.tell }

-- the same where it is seen what is meant by its mails
abbrev pub seer_of : Profile → Bool → Processor InRow
seer_of p boot = record { carry = carry (slave_table boot true); tell = told_state (product_whole parts p) whole_states }

-- A RETURN TO INIT: all transfers are gone, the next packet has frame number 0, and the slave is in Init
abbrev pub cleared_whole : InState Server → InState Server
cleared_whole v = record { inner = record (fresh v.inner.app.app) { handled = v.inner.handled }; state = 1 }
