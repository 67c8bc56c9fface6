use Rattle.std.proofs.Common.{refl}
use Rattle.run_frames.specs.of_master_hand.Spoken.{hand_speech, acknowledged}
use Rattle.slave_server.specs.of_slave_model.Acknowledged as Slave
use Rattle.slave_server.specs.of_slave_model.Product.{product}
use Rattle.slave_server.specs.of_slave_model.Profile.{areas_of}
use Rattle.slave_server.specs.of_slave_parts.Parts.{parts}
use Rattle.slave_server.specs.of_state_model.Families.{states_of}
use Rattle.plan_ring.proofs.Named.{named_stated}
use Rattle.plan_ring.specs.Asked.{as_asked}
use Rattle.plan_ring.proofs.Asked as Its
use Rattle.plan_ring.proofs.asked_whole_law.Goals as goal

pub returns : goal.returns
returns c = record {
  whole = λ p profile boot lens plan spot is station start.
      let behind = c.real_server_law.ensures.behind p boot lens in
      let clears = c.real_server_law.ensures.clears p boot lens in
      let law = c.slave_is_lawful.ensures.lawful p profile in
      let stated = c.slave_is_lawful.ensures.stated p profile in
      let lawful = Its.asked_lawful c.slave_is_lawful.ensures.lawful p profile boot lens in
      record {
        whole = record {
          behind = record { served = record { seen = behind.served.seen; told = behind.served.told }; carries = behind.carries; clears = behind.clears };
          none = lawful.none;
          stated = named_stated (product parts p) as_asked (hand_speech (areas_of p)) law (Its.agrees p) (states_of Slave.acknowledged) stated acknowledged Its.agrees_last;
          tells = λ state v. refl;
          clears = record { clearing = clears.clearing; seen = clears.seen };
          plan = is;
          station = station;
          start = start;
        };
        lawful = lawful;
      };
  speech = λ p boot lens. Its.alike p boot lens;
}
