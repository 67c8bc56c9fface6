-- AN EPOCH THAT ITS MASTER LED AND ITS NODE LIVED is one of those of which a life of its speaker is made.
use Rattle.std.proofs.Common.{◌≡◌, ℕ, ◌&&◌, Bool, true, List, refl, ap, ap₂, ◌∙◌}
use Rattle.run_work.specs.of_frame_view.View.{Lens}
use Rattle.served_rings.specs.Led.{LedEra}
use Rattle.served_places.specs.of_life_model.Lives.{Spot, Era}
use Rattle.served_places.specs.of_link_mails.Body.{Body}
use Rattle.run_work.specs.of_master_duty.Reply.{Reply}
use Rattle.run_work.specs.of_master_hand.Spoken.{Asked, is_followed, is_passed}
use Rattle.served_rings.specs.Speakers.{speaker, spoken, spoken_states, table_of, processor_of, seer_of}
use Rattle.served_rings.specs.SeenLed.{WasLed}
use Rattle.served_places.specs.of_segment_model.Record.{Frame}
use Rattle.run_work.specs.of_few_replies.Packets.{is_calm}
use Rattle.run_work.specs.of_slave_lives.Lived.{node_seen}
use Rattle.run_work.specs.of_slave_model.Profile.{Profile}
use Rattle.run_work.specs.of_slave_parts.Parts.{Server}
use Rattle.run_work.specs.of_slave_server.Serving.{Serving}
use Rattle.run_work.specs.of_slave_node.Node.{Node}
use Rattle.served_places.specs.of_state_model.Families.{InState}
use Rattle.served_rings.specs.Serves.{serves}

-- `at` is the server that it began with, up to the AL state that is told
pub was_led : (p : Profile) (boot : Bool) (lens : ℕ → Lens) (spot : Spot) (from at : InState Server) → ((state : ℕ) → spoken_states.tell state from ≡ spoken_states.tell state at) → (counts : Bool) (e : Era Body Asked Reply) (fs : List (Frame Body)) (n : Node Serving) →
    LedEra (serves p boot lens) is_followed is_passed spot from counts e fs n → is_calm from ≡ true → WasLed (speaker p) (seer_of p boot) (table_of boot) spot (spoken p) (processor_of boot) at e (node_seen (serves p boot lens) n).node.server.server
was_led p boot lens spot from at same counts e fs n l calm =
    let plan = l.plan in
    let still : is_calm l.server ≡ true = ap is_calm l.begins ∙ calm in
    record {
      opened = l.opened;
      server = l.server;
      registers = l.registers;
      frames = fs;
      counts = counts;
      slave = node_seen (serves p boot lens) n;
      begins = l.begins ∙ same l.registers.state;
      plan = record {
        plan = record { stations = plan.plan.stations; ready = (ap₂ (λ (a b : Bool). a && b) plan.plan.ready.0 still, tt) };
        apart = plan.apart;
        tells = λ state v. refl;
        brought = ((plan.brought.0.0, λ answers. let b = plan.brought.0.1 answers in record { control = b.control; refused = b.refused; sits = b.sits; state = b.state }), tt);
      };
      answers = l.answers;
      led = l.led;
      leaves = refl;
    }
