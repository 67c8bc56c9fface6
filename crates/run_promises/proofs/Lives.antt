-- OF A LIFE that its master leads by quiet mails what is heard while the slave is open.
use Rattle.std.proofs.Common.{◌≡◌, ◌&&◌, ℕ, Bool, true, List, refl, ap, ap₂, ◌∙◌, subst}
use Rattle.served_rings.specs.of_few_replies.Packets.{is_calm}
use Rattle.packets_heard.specs.of_frame_view.View.{Lens}
use Rattle.served_rings.specs.Led.{LedEra}
use Rattle.served_rings.specs.Lives.{AllLeds, IsLedLived, LedKept, LedLeft, LedYet}
use Rattle.packets_heard.specs.of_life_model.Lives.{Spot, Era, Life, Stand}
use Rattle.packets_heard.specs.of_link_mails.Body.{Body}
use Rattle.packets_heard.specs.of_master_duty.Reply.{Reply}
use Rattle.packets_heard.specs.of_master_hand.Spoken.{Asked, is_followed, is_passed}
use Rattle.served_rings.specs.Speakers.{processor_of, seer_of, spoken, table_of}
use Rattle.packets_heard.specs.of_segment_model.Record.{Frame, Kept}
use Rattle.run_promises.specs.Sends.{sends_most}
use Rattle.run_promises.proofs.Live.{IsLive}
use Rattle.served_rings.specs.Serves.{serves}
use Rattle.served_rings.specs.Clearing.{serves_clearing}
use Rattle.run_promises.specs.Quiet.{quiet_speaker}
use Rattle.run_promises.proofs.Times.{Weighs}
use Rattle.run_promises.proofs.Seen.{Quiets, seen_live}
use Rattle.served_rings.specs.of_slave_lives.Lived.{Behind, node_seen}
use Rattle.served_rings.specs.of_slave_lives.Opening.{Plan}
use Rattle.served_rings.specs.of_slave_model.Profile.{Profile}
use Rattle.served_rings.specs.of_slave_parts.Parts.{Server}
use Rattle.packets_heard.specs.of_slave_server.Serving.{Serving}
use Rattle.packets_heard.specs.of_slave_node.Node.{Node}
use Rattle.packets_heard.specs.of_state_model.Families.{InState}
use Rattle.served_rings.specs.of_life_counts.Epochs.{AllFair, IsSeen}
use Rattle.served_rings.proofs.of_life_counts.TaggedWhole.{epoch_seen}
use Rattle.served_rings.specs.of_whole_ring.Whole.{LivesOpenBy, StandsBy}

module _ (weigh : List ℕ → ℕ) (p : Profile) (laws : Quiets weigh p) (boot : Bool) (lens : ℕ → Lens) (spot : Spot) where
  abbrev w : Behind Serving (InState Server) (InState Server) Asked Reply
  w = serves p boot lens

  -- each epoch begins with a calm server
  past_calm : {a b : InState Server} {es : List (Era Body Asked Reply)} → is_calm a ≡ true → AllLeds w is_followed is_passed spot serves_clearing.cleared a es b → is_calm b ≡ true
  past_calm calm (AllLeds.none a) = calm
  past_calm calm (AllLeds.closed a es b e at state before is_new) = refl
  past_calm calm (AllLeds.opened a es b e s before left) = refl

  -- AN EPOCH is seen with what is meant by its mails
  era_seen : (from : InState Server) (counts : Bool) (e : Era Body Asked Reply) (fs : List (Frame Body)) (n : Node Serving) (l : LedEra (serves p boot lens) is_followed is_passed spot from counts e fs n) → is_calm from ≡ true → AllFair (quiet_speaker p) e.account.started →
      IsSeen (quiet_speaker p) (seer_of p boot) (table_of boot) spot l.opened l.server l.registers fs counts e (node_seen (serves p boot lens) n)
  era_seen from counts e fs n l calm quiet =
      let plan = l.plan in
      let still : is_calm l.server ≡ true = ap is_calm l.begins ∙ calm in
      epoch_seen (quiet_speaker p) laws.speaks (spoken p) (processor_of boot) (seer_of p boot) (table_of boot) spot
      (record { serve = refl; speech = refl; tells = λ state v. refl; tells_seen = λ state v. refl; carries = λ r. refl; worded = λ r. refl }) l.opened l.server l.registers
      (record {
        plan = record { stations = plan.plan.stations; ready = (ap₂ (λ (a b : Bool). a && b) plan.plan.ready.0 still, tt) };
        apart = plan.apart;
        tells = λ state v. refl;
        brought = ((plan.brought.0.0, λ answers. let b = plan.brought.0.1 answers in record { control = b.control; refused = b.refused; sits = b.sits; state = b.state }), tt);
      }) l.answers fs counts e (node_seen (serves p boot lens) n) l.led quiet

  -- THE LIFE, while the slave is open
  pub led_live : (plan : Plan) (kept : Kept) (counts : Bool) (first : InState Server) (l : Life Body Asked Reply) (fs : List (Frame Body)) (n : Node Serving) → is_calm first ≡ true → IsLedLived w is_followed is_passed spot serves_clearing.cleared plan kept counts first l fs n →
      AllFair (quiet_speaker p) l.era.account.started → l.stand ≡ Stand.Open → IsLive (Weighs weigh (sends_most weigh p)) spot fs l
  led_live plan kept counts first l fs n calm i quiet stand =
      of (subst (λ (z : Stand). StandsBy w (λ a d gs m. LedKept w is_followed is_passed spot kept counts a d gs m) (λ a d gs m. LedYet w is_followed is_passed spot a d gs m) (λ a d gs s. LedLeft w is_followed is_passed spot a d s) plan spot i.from l.era fs z n) stand i.now)
    where
      of : LivesOpenBy w i.from l.era (λ a d gs m. LedKept w is_followed is_passed spot kept counts a d gs m) fs n → IsLive (Weighs weigh (sends_most weigh p)) spot fs l
      of now =
          let x = now.lives.epoch in
          let y = x.era in
          seen_live weigh p laws boot spot y.opened y.server y.registers fs x.led l (node_seen w n) (era_seen i.from x.led l.era fs n y (past_calm calm i.past) quiet) y.before
