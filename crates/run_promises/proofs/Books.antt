-- THE BOOKS of slaves that stay up.
use Rattle.std.proofs.Common.{◌≡◌, ℕ, suc, true, List, [], ◌∷◌, map, length, ap, sym, ◌∙◌, subst}
use Rattle.std.proofs.lemmas.List.{length-map}
use Rattle.served_rings.specs.of_plan_ring.KeptFirst.{Forgets, FirstBook}
use Rattle.served_rings.specs.of_plan_ring.Rows.{IsFirst}
use Rattle.served_rings.proofs.of_plan_ring.KeptFirst.{first_book}
use Rattle.packets_heard.specs.of_protocol_models.Network.{Station}
use Rattle.packets_heard.specs.of_frame_view.View.{Lens}
use Rattle.packets_heard.specs.of_frame_view.Shares.{Lived}
use Rattle.packets_heard.specs.of_life_model.Eras.{Clearing}
use Rattle.packets_heard.specs.of_life_model.Lives.{Spot, Life, Stand}
use Rattle.packets_heard.specs.of_life_runs.First.{lens_of, spot_of}
use Rattle.packets_heard.specs.of_life_runs.Led.{Exchanged, Leads}
use Rattle.packets_heard.specs.of_link_mails.Body.{Body}
use Rattle.packets_heard.specs.of_master_duty.Reply.{Reply}
use Rattle.packets_heard.specs.of_master_hand.Spoken.{Asked, is_followed}
use Rattle.served_rings.specs.of_plan_ring.Master.{IsLed, AllLed, owed}
use Rattle.served_rings.specs.of_plan_ring.Plan.{PlanMember, FitsPlan, step, plan_of, first_app}
use Rattle.packets_heard.specs.of_segment_model.Record.{Frame}
use Rattle.packets_heard.specs.of_segment_plan.declared.plan.Scenario.{Scenario}
use Rattle.packets_heard.specs.of_segment_plan.declared.slave.SlaveSpec.{SlaveSpec}
use Rattle.served_rings.specs.of_plan_ring.Real.{real_clearing}
use Rattle.served_rings.specs.of_slave_lives.Lived.{Behind, node_seen}
use Rattle.served_rings.specs.of_slave_lives.Opening as Opening
use Rattle.served_rings.specs.of_slave_parts.Parts.{Core, Server}
use Rattle.packets_heard.specs.of_slave_server.Serving.{Serving}
use Rattle.packets_heard.specs.of_slave_node.Node.{Node, is_settled}
use Rattle.served_rings.specs.of_slave_lives.Steps.{Stands}
use Rattle.served_rings.specs.of_mailbox_slave.Node.{in_side}
use Rattle.packets_heard.specs.of_segment_model.Laws.{IsSettled}
use Rattle.packets_heard.specs.of_state_model.Families.{InState}
use Rattle.served_rings.specs.of_whole_ring.Whole.{OwesLaws, StandsAs}
use Rattle.served_rings.specs.of_whole_ring.Members.{MemberIs, AllLived}
use Rattle.served_rings.specs.of_plan_ring.Lives.{IsShown, AllShown, AreLived}
use Rattle.served_rings.specs.of_plan_ring.Round.{ring_of, ring_after, frame_seen, all_seen}
use Rattle.run_promises.specs.Books.{StaysUp, HasBook, AllHaveBooks}
use Rattle.run_promises.specs.Slaves.{services_of}
use Rattle.served_rings.proofs.of_plan_ring.Settled.{settled_seen}
use Rattle.run_promises.proofs.Ups.{AllUp}

-- a book of a slave with any services
record Booked (w : Behind Serving (InState Server) (InState (Station Core)) Asked Reply) (c : Clearing (InState Server) (InState (Station Core))) (p : Opening.Plan) (spot : Spot) (first : InState (Station Core)) (l : Life Body Asked Reply) (gs : List (Frame Body)) (n : Node Serving) : Type 0 where
  owes : OwesLaws w c p spot
  forgets : Forgets w c
  book : FirstBook w c p spot owes forgets is_followed first l gs n
  settled : is_settled w.running.next n ≡ true → IsSettled (node_seen w n)

module _ (plan : Scenario) (fs : List Exchanged) where
  abbrev lens : ℕ → Lens
  lens = lens_of plan.slaves

  abbrev gs : List (Frame Body)
  gs = all_seen lens fs

  -- an open slave's mailbox 1 has the mail that is offered
  open_stands : {place : ℕ} (m : PlanMember) → MemberIs lens step (FitsPlan plan.slaves) gs place m → m.life.stand ≡ Stand.Open → Stands (in_side m.node.kept m.node.registers)
  open_stands m i stand = (subst (λ (st : Stand). StandsAs m.services m.plan m.spot i.lived.from m.life.era gs st m.node) stand i.lived.now).lives.epoch.stands

  one_book : (place : ℕ) (s : SlaveSpec) (m : PlanMember) (a : Leads) → MemberIs lens step (FitsPlan plan.slaves) gs place m → IsLed m → IsShown plan place s m a → (StaysUp a.lived.life → IsFirst (length fs) a.lived.life) →
      a.lived.life.stand ≡ Stand.Open → StaysUp a.lived.life → HasBook plan fs place s a m.node
  one_book place s m a i led x up open_ stays =
      let life : a.lived.life ≡ m.life = sym (ap (λ (l : Lived Asked Reply). l.life) x.lived) in
      let first : IsFirst (length gs) m.life = subst (λ (k : ℕ). IsFirst k m.life) (sym (length-map fs (frame_seen lens))) (subst (λ (l : Life Body Asked Reply). IsFirst (length fs) l) life (up stays)) in
      let stands : m.life.stand ≡ Stand.Open = ap (λ (l : Life Body Asked Reply). l.stand) (sym life) ∙ open_ in
      let here : Booked m.services m.clearing m.plan m.spot m.first m.life gs m.node =
      record { owes = owed m i.whole led; forgets = led.forgets; book = first_book m.services m.clearing m.plan m.spot (owed m i.whole led) led.forgets is_followed m.first m.life gs m.node i.lived first stands; settled = λ e. settled_seen m.services i.whole.behind m.node (open_stands m i stands) e } in
      let by_services = subst (λ w. Booked w m.clearing m.plan m.spot m.first m.life gs m.node) x.is.services here in
      let by_clearing = subst (λ c. Booked (services_of plan s) c m.plan m.spot m.first m.life gs m.node) x.is.clearing by_services in
      let by_plan = subst (λ p. Booked (services_of plan s) real_clearing p m.spot m.first m.life gs m.node) x.is.plan by_clearing in
      let by_spot = subst (λ spot. Booked (services_of plan s) real_clearing (plan_of s) spot m.first m.life gs m.node) x.is.spot by_plan in
      let by_first = subst (λ first. Booked (services_of plan s) real_clearing (plan_of s) (spot_of place s) first m.life gs m.node) x.is.first by_spot in
      let by_life = subst (λ (l : Life Body Asked Reply). Booked (services_of plan s) real_clearing (plan_of s) (spot_of place s) (first_app s) l gs m.node) (sym life) by_first in
      record { owes = by_life.owes; forgets = by_life.forgets; book = by_life.book; settled = by_life.settled }

  all_books : (place : ℕ) (ss : List SlaveSpec) (ms : List PlanMember) (as' : List Leads) → AllLived lens step (FitsPlan plan.slaves) gs place ms → AllLed ms → AllShown plan place ss ms as' → AllUp plan (length fs) as' →
      AllHaveBooks plan fs place ss as' (map (λ (m : PlanMember). m.node) ms)
  all_books place [] [] [] i led x up = tt
  all_books place [] [] (a ∷ as') i led x up = absurd x
  all_books place [] (m ∷ ms) as' i led x up = absurd x
  all_books place (s ∷ ss) [] as' i led x up = absurd x
  all_books place (s ∷ ss) (m ∷ ms) [] i led x up = absurd x
  all_books place (s ∷ ss) (m ∷ ms) (a ∷ as') i led x up = (one_book place s m a i.0 led.0 x.0 up.0, all_books (suc place) ss ms as' i.1 led.1 x.1 up.1)

  pub books : (as' : List Leads) → AreLived plan fs as' → AllUp plan (length fs) as' → AllHaveBooks plan fs 0 plan.slaves as' (ring_after (ring_of plan) fs).nodes
  books as' x up = subst (λ (ns : List (Node Serving)). AllHaveBooks plan fs 0 plan.slaves as' ns) (sym x.lives.nodes) (all_books 0 plan.slaves x.members as' x.lives.each x.led x.shown up)
