-- THE MAILS THAT ARE PASSED ON to the slaves of a serving, by the lives of these.
use Rattle.std.specs.Prelude.{ℕ, ◌&&◌, Bool, true, false, if◌then◌else◌, is_some, Option, Some, None, List, [], ◌∷◌, ◌++◌, length, map}
use Rattle.packets_heard.specs.of_master_node.Begins.{begun_of}
use Rattle.packets_heard.specs.of_master_node.Events.{oldest_in}
use Rattle.packets_heard.specs.of_master_node.Serving.{run_turn}
use Rattle.plan_ring.specs.of_frame_view.View.{Lens}
use Rattle.served_places.specs.of_life_model.Lives.{Life}
use Rattle.served_places.specs.of_life_runs.Led.{Exchanged, gives_up_at}
use Rattle.served_places.specs.of_life_runs.Spans.{is_open}
use Rattle.served_places.specs.of_master_duty.Reply.{Reply}
use Rattle.served_places.specs.of_state_model.Stated.{Service}
use Rattle.served_places.specs.of_master_hand.Spoken.{Asked, is_passed}
use Rattle.served_places.specs.of_master_tour.Goes.{holds_at}
use Rattle.run_notes.specs.Handed.{last_set}
use Rattle.served_places.specs.of_segment_ring.declared.wire.Fate.{Fate}
use Rattle.served_places.specs.of_segment_ring.declared.wire.Fate.TheVariants as Fates
use Rattle.served_places.specs.of_life_runs.Served.{IsServedLed, Serves, ServedTurn, served_behind}
use Rattle.served_places.specs.of_link_mails.Body.{Body}

-- the row of what came into hand before a frame, where that is the mail with this number which was passed on
abbrev pub mail_begun : ℕ → ℕ → Option (Service Asked) → List (ℕ × ℕ)
mail_begun number frame None = []
mail_begun number frame (Some (Service.Mails q)) = if is_passed q then (number, frame) ∷ [] else []
mail_begun number frame (Some (Service.State target)) = []

module _ {lens : ℕ → Lens} {recover retry : ℕ} {first : List Serves} where
  -- THE MAILS THAT WERE PASSED ON to the slave at a place, in order: each with its number among all that were asked of it, and the frame before which it came
  -- into hand
  abbrev pub served_mails : {fs : List Exchanged} {missed : ℕ} {ws : List Serves} → IsServedLed lens recover retry first fs missed ws → ℕ → List (ℕ × ℕ)
  served_mails IsServedLed.start k = []
  served_mails (IsServedLed.asks fs missed ws place keyed led may) k = served_mails led k
  served_mails (IsServedLed.on fs missed ws f vs led frame) k = served_mails led k ++ mail_begun (oldest_in ws k) (length fs) (begun_of (map run_turn vs) k)

-- a mail that is passed on is in hand of an open slave, by its life
abbrev pub has_passing : Life Body Asked Reply → Bool
has_passing l = is_open l.stand && is_some l.era.passing

-- of the slave at a place, between frames
abbrev pub passing_at : List Serves → ℕ → Bool
passing_at ws k = holds_at (λ w. has_passing w.lead.lived.life) ws k

-- and before one
abbrev pub passing_before : List ServedTurn → ℕ → Bool
passing_before vs k = holds_at (λ v. has_passing v.turn.lived.life) vs k

-- a mail that was passed on isn't over yet as it comes into hand
abbrev pub mail_over : Option (Service Asked) → List (Option ℕ)
mail_over None = []
mail_over (Some (Service.Mails q)) = if is_passed q then None ∷ [] else []
mail_over (Some (Service.State target)) = []

-- with a frame that came back the mail in hand is over, where it was in hand before the return and isn't behind it; with a lost one none is
abbrev pub overs_behind : Fate → ℕ → Bool → Bool → List (Option ℕ) → List (Option ℕ)
overs_behind Fates.Pass frame true false overs = last_set (Some frame) overs
overs_behind Fates.Pass frame true true overs = overs
overs_behind Fates.Pass frame false goes overs = overs
overs_behind (Fates.Lost after) frame was goes overs = overs

module _ {lens : ℕ → Lens} {recover retry : ℕ} {first : List Serves} where
  -- WHEN THE MAILS WERE OVER that were passed on to the slave at a place, in order: each with the number of the frame behind whose return it was, if it was
  abbrev pub served_overs : {fs : List Exchanged} {missed : ℕ} {ws : List Serves} → IsServedLed lens recover retry first fs missed ws → ℕ → List (Option ℕ)
  served_overs IsServedLed.start k = []
  served_overs (IsServedLed.asks fs missed ws place keyed led may) k = served_overs led k
  served_overs (IsServedLed.on fs missed ws f vs led frame) k =
      overs_behind f.fate (length fs) (passing_before vs k) (passing_at (map (served_behind lens recover retry (gives_up_at lens recover retry missed) (length fs) f) vs) k) (served_overs led k ++ mail_over (begun_of (map run_turn vs) k))
