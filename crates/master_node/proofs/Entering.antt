-- Where nothing is left to do but for a packet of the host, that comes in first.
use Rattle.std.proofs.Common.{◌≡◌, ◌≤◌, ◌<◌, ◌∙◌, inl, inr, ℕ, zero, suc, Bool, true, false, Option, Some, None, List, [], ◌∷◌, ◌++◌, length, refl, sym, ap, arith}
use Rattle.std.specs.Prelude.{IfSome, nat_lt}
use Rattle.std.proofs.lemmas.Bool.Decides.{nat_tests}
use Rattle.life_runs.specs.of_frame_view.View.{Lens}
use Rattle.life_runs.specs.Led.{Leads}
use Rattle.life_runs.specs.of_master_hand.declared.hand.InHand.{InHand}
use Rattle.life_runs.specs.of_master_side.Recall.{Recall}
use Rattle.life_runs.specs.of_master_side.declared.hand.Hand.{Ghosts}
use Rattle.life_runs.specs.of_master_side.declared.side.Side.{Side}
use Rattle.life_runs.specs.of_master_tour.Goes.{holds_at}
use Rattle.life_runs.specs.of_master_tour.Stands.{is_opening}
use Rattle.life_runs.specs.of_master_tour.declared.stop.Stand as Stands
use Rattle.life_runs.specs.of_master_tour.declared.stop.Stop.{Stop}
use Rattle.master_node.specs.Entering.{EntersFirst}
use Rattle.master_node.specs.Forwards.{forwarded}
use Rattle.master_node.specs.Resting.{AllRest, IsResting, StandRests, StopRests}
use Rattle.master_node.specs.Shows.{is_opening_lead}
use Rattle.master_node.specs.declared.happened.Happening.{Happening}
use Rattle.master_node.specs.declared.lan.Lan.{Lan}

-- what happens behind it
pub first_more : (rows rows' more : List Happening) → EntersFirst rows → rows' ≡ rows ++ more → EntersFirst rows'
first_more rows rows' more x e = record { packet = x.packet; handed = x.handed; rest = x.rest ++ more; is = e ∙ ap (λ z. z ++ more) x.is }

-- the same packets wait at the ports
none_same : (l l' : Lan) → l'.switch ≡ l.switch → l'.ports ≡ l.ports → (k : ℕ) → forwarded l.switch l.ports.items k ≡ [] → forwarded l'.switch l'.ports.items k ≡ []
none_same l l' switch ports k none = (λ i. forwarded (switch i) (ports i).items k) ∙ none

module _ {G : Ghosts InHand} (l l' : Lan) (switch : l'.switch ≡ l.switch) (ports : l'.ports ≡ l.ports) where
  stand_same : (k : ℕ) (stand : Stands.Stand) (side : Side InHand G) → StandRests l k stand side → StandRests l' k stand side
  stand_same k (Stands.Stand.Opening up) side x = absurd x
  stand_same k Stands.Stand.Open side x = (x.0, none_same l l' switch ports k x.1)
  stand_same k Stands.Stand.Gone side x = tt

  pub rests_same : (k : ℕ) (o : Option (Stop InHand G)) → IfSome o (λ s. StopRests l k s) → IfSome o (λ s. StopRests l' k s)
  rests_same k None x = tt
  rests_same k (Some s) x = stand_same k s.stand s.side x

-- a slave that rests isn't brought up or opened anew
module _ (lens : ℕ → Lens) (l : Lan) where
  one_opened : (place : ℕ) (m : Recall) (a : Leads) → IsResting lens l place m a → is_opening_lead a ≡ false
  one_opened place m a (inl gone) = ap is_opening gone
  one_opened place m a (inr r) = ap is_opening r.free.stands

  none_opens : (place : ℕ) (ms : List Recall) (as' : List Leads) → AllRest lens l place ms as' → (k : ℕ) → holds_at is_opening_lead as' k ≡ false
  none_opens place [] [] x k = refl
  none_opens place [] (a ∷ as') x k = absurd x
  none_opens place (m ∷ ms) [] x k = refl
  none_opens place (m ∷ ms) (a ∷ as') x zero = one_opened place m a x.0
  none_opens place (m ∷ ms) (a ∷ as') x (suc k) = none_opens (suc place) ms as' x.1 k

  -- so the first bring-up of each is over
  pub all_opened : (ms : List Recall) (as' : List Leads) (opened : ℕ) → AllRest lens l 0 ms as' → ((k : ℕ) → opened ≤ k → k < length as' → holds_at is_opening_lead as' k ≡ true) → length as' ≤ opened
  all_opened ms as' opened x ahead = go (nat_lt opened (length as')) refl
    where
      go : (b : Bool) → nat_lt opened (length as') ≡ b → length as' ≤ opened
      go true e =
          let inside : opened < length as' = grind (arith, nat_tests) in
          let same : opened ≤ opened = omega arith in
          absurd (let t : false ≡ true = sym (none_opens 0 ms as' x opened) ∙ ahead opened same inside in cc)
      go false e = grind (arith, nat_tests)
