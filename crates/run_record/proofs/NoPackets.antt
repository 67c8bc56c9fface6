-- WHERE NOTHING IS STILL TO COME no packet is left, by the events of the switch.
use Rattle.std.proofs.Common.{◌≡◌, ℕ, zero, suc, List, [], ◌∷◌, map, length, refl, sym, ap, ◌∙◌, arith, ltb-false}
use Rattle.std.specs.Prelude.{◌||◌}
use Rattle.std.specs.List.{list_any}
use Rattle.std.proofs.lemmas.List.{take_all}
use Rattle.packets_heard.specs.of_eoe_switch.Switch.{Switched, switched}
use Rattle.packets_heard.specs.of_eoe_switch.declared.switching.SwitchEvent.{SwitchEvent}
use Rattle.packets_heard.proofs.of_master_node.Sents.{stand_lives}
use Rattle.packets_heard.specs.of_master_node.Forwards.{forwarded}
use Rattle.packets_heard.specs.of_master_node.Happened.{arrivals_at}
use Rattle.packets_heard.specs.of_master_node.Ports.{ports_behind}
use Rattle.packets_heard.specs.of_master_node.Shows.{IsLived, is_live_lead, lived_of}
use Rattle.packets_heard.specs.of_master_node.Told.{HasLives}
use Rattle.packets_heard.specs.of_master_node.Wants.{NoneToCome}
use Rattle.packets_heard.specs.of_master_node.declared.node.MasterNode.{MasterNode}
use Rattle.plan_ring.specs.of_frame_view.View.{Lens}
use Rattle.plan_ring.specs.of_frame_view.Shares.{AllBoth}
use Rattle.served_places.specs.of_life_runs.Led.{Leads}
use Rattle.served_places.specs.of_master_hand.declared.hand.InHand.{InHand}
use Rattle.served_places.specs.of_master_side.declared.hand.Hand.{Ghosts}
use Rattle.served_places.specs.of_master_tour.Goes.{holds_at, is_live}
use Rattle.served_places.specs.of_master_tour.declared.stop.Stop.{Stop}
use Rattle.run_notes.specs.of_run_book.Ports.{ports_of}
use Rattle.run_notes.specs.of_run_book.declared.book.Book.{Book}
use Rattle.run_notes.proofs.Switched.{switch_stood}
use Rattle.run_notes.specs.Switched.{IsSwitched}
use Rattle.run_record.specs.Led.{LeavesNoPacket}
use Rattle.packets_heard.specs.of_segment_plan.declared.plan.Scenario.{Scenario}

-- the slaves that a master has as live are those that weren't given up for good
module _ {G : Ghosts InHand} (lens : ℕ → Lens) (recover : ℕ) where
  live_there : (as' : List Leads) (ss : List (Stop InHand G)) → AllBoth (λ a s. IsLived lens recover a s) (map lived_of as') ss → (k : ℕ) → holds_at (λ s. is_live s.stand) ss k ≡ holds_at is_live_lead as' k
  live_there [] [] x k = refl
  live_there [] (s ∷ ss) x k = absurd x
  live_there (a ∷ as') [] x k = absurd x
  live_there (a ∷ as') (s ∷ ss) x zero = stand_lives lens recover a.lived s x.0
  live_there (a ∷ as') (s ∷ ss) x (suc k) = live_there as' ss x.1 k

  pub live_some : (as' : List Leads) (ss : List (Stop InHand G)) → AllBoth (λ a s. IsLived lens recover a s) (map lived_of as') ss → list_any (λ s. is_live s.stand) ss ≡ list_any is_live_lead as'
  live_some [] [] x = refl
  live_some [] (s ∷ ss) x = absurd x
  live_some (a ∷ as') [] x = absurd x
  live_some (a ∷ as') (s ∷ ss) x = λ i. stand_lives lens recover a.lived s x.0 i || live_some as' ss x.1 i

-- NO PACKET IS LEFT
pub none_left : (lens : ℕ → Lens) (recover : ℕ) (plan : Scenario) (m : MasterNode) (leads : List Leads) (ports sent : ℕ) (b : Book) → HasLives lens recover m (map lived_of leads) → m.lan.ports.items ≡ ports_behind 0 plan.slaves → ports ≡ ports_of plan.slaves →
    IsSwitched ports plan.host sent m.lan b → NoneToCome m → LeavesNoPacket plan leads b.switch
none_left lens recover plan m leads ports sent b lives places many x come = record {
  slaves = λ k live.
      ap (λ (s : Switched). forwarded s (ports_behind 0 plan.slaves) k) ((λ i. (switched (sym many i) b.switch).switch) ∙ switch_stood ports plan.host sent m.lan b x)
      ∙ ap (λ z. forwarded m.lan.switch z k) (sym places) ∙ (come.slaves k (live_there lens recover leads m.tour.stops.items lives k ∙ live)).0;
  host = λ live.
      let over = ltb-false m.lan.entered (length m.lan.host) (come.host (live_some lens recover leads m.tour.stops.items lives ∙ live)) in
      ap (λ (es : List SwitchEvent). arrivals_at 0 es) x.noted.switch ∙ x.happened.entered ∙ take_all m.lan.entered m.lan.host (omega (arith, over)) ∙ x.happened.own;
}
