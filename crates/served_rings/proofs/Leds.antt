-- A LIFE BY LED EPOCHS OF A SLAVE OF A SERVING is one that the master of its speaker led.
use Rattle.std.proofs.Common.{◌≡◌, ℕ, Bool, true, false, List, [], ◌∷◌, ◌++◌, refl, sym, subst}
use Rattle.run_work.specs.of_frame_view.View.{Lens}
use Rattle.run_work.specs.of_frames_seen.Slaves.{registers_seen}
use Rattle.served_rings.specs.Lives.{LedKept, LedYet, LedLeft, AllLeds, IsLedLived}
use Rattle.served_places.specs.of_life_model.Lives.{Spot, Era, Life, Opening, Stand}
use Rattle.served_places.specs.of_link_mails.Body.{Body}
use Rattle.run_work.specs.of_master_duty.Reply.{Reply}
use Rattle.run_work.specs.of_master_hand.Spoken.{Asked, is_followed, is_passed}
use Rattle.served_rings.specs.Speakers.{speaker, spoken, table_of, processor_of, seer_of, cleared_whole}
use Rattle.served_rings.specs.SeenLed.{AllLed, IsNewestLed, IsLedLife}
use Rattle.served_places.specs.of_segment_model.Record.{Frame, Kept}
use Rattle.served_rings.specs.Serves.{serves}
use Rattle.served_rings.proofs.Led.{was_led}
use Rattle.run_work.specs.of_few_replies.Packets.{is_calm}
use Rattle.run_work.specs.of_slave_lives.Lived.{Behind, node_seen}
use Rattle.run_work.specs.of_slave_lives.Opening.{Plan}
use Rattle.run_work.specs.of_slave_lives.Stands.{opening_again}
use Rattle.run_work.specs.of_slave_model.Profile.{Profile}
use Rattle.run_work.specs.of_slave_parts.Parts.{Server}
use Rattle.run_work.specs.of_slave_server.Serving.{Serving}
use Rattle.run_work.specs.of_slave_node.Node.{Node}
use Rattle.served_places.specs.of_state_model.Families.{InState}
use Rattle.run_work.specs.of_whole_ring.Whole.{OpensBy, StandsBy}
use Rattle.served_rings.specs.Clearing.{serves_clearing, in_init}

module _ (p : Profile) (boot : Bool) (lens : ℕ → Lens) (spot : Spot) where
  abbrev w : Behind Serving (InState Server) (InState Server) Asked Reply
  w = serves p boot lens

  abbrev Before : InState Server → List (Era Body Asked Reply) → InState Server → Type 0
  Before a es b = AllLed (speaker p) (seer_of p boot) (table_of boot) spot (spoken p) (processor_of boot) cleared_whole a es b

  abbrev Newest : InState Server → Era Body Asked Reply → Type 0
  Newest from e = IsNewestLed (speaker p) (seer_of p boot) (table_of boot) spot (spoken p) (processor_of boot) from e

  -- all epochs that are over: each next one begins with a calm server
  record Begun (a : InState Server) (es : List (Era Body Asked Reply)) (b : InState Server) : Type 0 where
    pub all : Before (in_init a) es (in_init b)
    pub calm : is_calm b ≡ true

  past_led : {a b : InState Server} {es : List (Era Body Asked Reply)} → is_calm a ≡ true → AllLeds w is_followed is_passed spot serves_clearing.cleared a es b → Begun a es b
  past_led calm (AllLeds.none a) = record { all = AllLed.none (in_init a); calm = calm }
  past_led calm (AllLeds.closed a es b e at state before is_new) =
      let rest = past_led calm before in
      record { all = subst (λ d. Before (in_init a) (es ++ d ∷ []) (cleared_whole (in_init b))) (sym is_new) (AllLed.closed (in_init a) es (in_init b) at state rest.all); calm = refl }
  past_led calm (AllLeds.opened a es b e s before left) =
      let rest = past_led calm before in
      let state = (registers_seen left.node.registers).state in
      let one = was_led p boot lens spot b (in_init b) (λ k. refl) left.led e left.frames left.node left.era rest.calm in
      record {
        all = subst (λ (k : Serving). Before (in_init a) (es ++ e ∷ []) (cleared_whole (w.sees state k).server)) left.same (AllLed.opened (in_init a) es (in_init b) e (node_seen w left.node).node.server.server rest.all one);
        calm = refl;
      }

  opens_led : (plan : Plan) (from : InState Server) → is_calm from ≡ true → (e : Era Body Asked Reply) (fs : List (Frame Body)) (n : Node Serving) (o : Opening) →
      OpensBy w (λ a d gs m. LedYet w is_followed is_passed spot a d gs m) (λ a d gs s. LedLeft w is_followed is_passed spot a d s) plan spot from e fs o n → Newest (in_init from) e
  opens_led plan from calm e fs n o (OpensBy.yet again step is still) = let x = still.lives.epoch in IsNewestLed.opened _ (was_led p boot lens spot from (in_init from) (λ k. refl) x.led e fs n x.era calm)
  opens_led plan from calm e fs n o (OpensBy.anew closing x start) = IsNewestLed.closed x.cleared x.state x.is_new
  opens_led plan from calm e fs n o (OpensBy.over closing again early x) = let y = x.left in IsNewestLed.opened _ (was_led p boot lens spot from (in_init from) (λ k. refl) y.led e y.frames y.node y.era calm)

  newest_led : (plan : Plan) (kept : Kept) (counts : Bool) (from : InState Server) → is_calm from ≡ true → (e : Era Body Asked Reply) (fs : List (Frame Body)) (stand : Stand) (n : Node Serving) →
      StandsBy w (λ a d gs m. LedKept w is_followed is_passed spot kept counts a d gs m) (λ a d gs m. LedYet w is_followed is_passed spot a d gs m) (λ a d gs s. LedLeft w is_followed is_passed spot a d s) plan spot from e fs stand n → Newest (in_init from) e
  newest_led plan kept counts from calm e fs (Stand.Opens o) n now = opens_led plan from calm e fs n o now
  newest_led plan kept counts from calm e fs Stand.Open n now = let x = now.lives.epoch in IsNewestLed.opened _ (was_led p boot lens spot from (in_init from) (λ k. refl) x.led e fs n x.era calm)
  newest_led plan kept counts from calm e fs Stand.Gone n now = opens_led plan from calm e fs n (opening_again spot.start false) now

  -- THE WHOLE LIFE
  pub life_led : (plan : Plan) (kept : Kept) (counts : Bool) (first : InState Server) (l : Life Body Asked Reply) (fs : List (Frame Body)) (n : Node Serving) → is_calm first ≡ true → IsLedLived w is_followed is_passed spot serves_clearing.cleared plan kept counts first l fs n →
      IsLedLife (speaker p) (seer_of p boot) (table_of boot) spot (spoken p) (processor_of boot) cleared_whole (in_init first) l
  life_led plan kept counts first l fs n calm i =
      let before = past_led calm i.past in
      record { from = in_init i.from; past = before.all; newest = newest_led plan kept counts i.from before.calm l.era fs l.stand n i.now }
