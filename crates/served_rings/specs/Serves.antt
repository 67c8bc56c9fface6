-- THE SERVICES OF A PLAN'S SLAVE IN A SERVING, as its node runs them and its master speaks of them, mails that are passed on among them.
use Rattle.std.specs.Prelude.{ℕ, Bool}
use Rattle.run_work.specs.of_frame_view.View.{Lens}
use Rattle.run_work.specs.of_master_duty.Reply.{Reply}
use Rattle.run_work.specs.of_master_hand.Spoken.{Asked}
use Rattle.served_rings.specs.Speakers.{spoken, spoken_states, processor_of}
use Rattle.run_work.specs.of_plan_ring.Real.{running_as}
use Rattle.run_work.specs.of_slave_lives.Lived.{Behind}
use Rattle.run_work.specs.of_slave_model.Profile.{Profile}
use Rattle.run_work.specs.of_slave_parts.Parts.{Server}
use Rattle.run_work.specs.of_slave_server.Seen.{seen_in}
use Rattle.run_work.specs.of_slave_server.Serving.{Serving}
use Rattle.served_places.specs.of_state_model.Families.{InState}

-- in a session with that master
abbrev pub serves : Profile → Bool → (ℕ → Lens) → Behind Serving (InState Server) (InState Server) Asked Reply
serves p boot lens = record {
  exchange = spoken p;
  states = spoken_states;
  processor = processor_of boot;
  running = running_as p;
  sees = seen_in;
  boot = boot;
  lens = lens;
}
