-- AN EPOCH THAT ITS MASTER LEADS IS A SESSION, of whatever exchange.
use Rattle.std.proofs.Common.{◌≡◌, ℕ, suc, ◌<◌, Bool, List, [], ◌∷◌, ◌++◌, length, sym, subst, arith, length-append}
use Rattle.served_places.specs.of_exchange_model.Exchange.{Exchange}
use Rattle.served_places.specs.of_life_model.Eras.{EraIs, planned}
use Rattle.served_places.specs.of_life_model.Lives.{Spot, Era}
use Rattle.served_places.proofs.of_life_model.Eras as Eras
use Rattle.run_work.specs.of_few_replies.Led.{IsLed, frame_in, news_in, turn_after}
use Rattle.served_places.specs.of_segment_model.Record.{Frame}
use Rattle.served_places.specs.of_segment_model.Slaves.{Registers, Processor, Slave}
use Rattle.served_places.specs.of_state_model.Stated.{Stated}
use Rattle.served_places.specs.of_state_model.States.{Table}
use Rattle.served_places.specs.of_state_model.Tasks.{IsTaskPlan}

module _ {V A M Q R : Type 0} (x : Exchange V A M Q R) (s : Stated V A Q) (processor : Processor V) (table : ℕ → Table) (more : M → Bool) (passed : Q → Bool) (spot : Spot) (opened : ℕ) (v : V) (r : Registers)
    (plan : IsTaskPlan x s processor table (planned spot v r ∷ [])) (answers : r.station ≡ spot.station) where
  pushed : (gs : List (Frame M)) (g : Frame M) → length (gs ++ g ∷ []) ≡ suc (length gs)
  pushed gs g = let e = length-append gs (g ∷ []) in omega (arith, e)

  pub led_later : (fs : List (Frame M)) (counts : Bool) (e : Era M Q R) (n : Slave V M) → IsLed x s.acknowledged processor more passed spot opened v r fs counts e n → opened < length fs
  led_later fs counts e n (IsLed.begins cleared state gs is) = omega (arith, is)
  led_later fs counts e n (IsLed.goes_on gs c d m l t may) = let was = led_later gs c d m l in let grown = pushed gs (frame_in t) in omega (arith, was, grown)

  pub led_session : (fs : List (Frame M)) (counts : Bool) (e : Era M Q R) (n : Slave V M) → IsLed x s.acknowledged processor more passed spot opened v r fs counts e n → EraIs x s processor table spot e opened (length fs) fs v r n
  led_session fs counts e n (IsLed.begins cleared state gs is) = Eras.era_begins x s processor table spot cleared state opened gs v r is plan answers
  led_session fs counts e n (IsLed.goes_on gs c d m l t may) =
      let one = Eras.own_turns x s processor table more passed spot d opened gs v r m (led_later gs c d m l) (led_session gs c d m l) t.pick (news_in spot opened gs c t) t.sent t.fate t.back t.steps t.slave may.asks may.back may.slave in
      subst (λ k. EraIs x s processor table spot (turn_after x s.acknowledged processor more passed spot opened gs c d t) opened k (gs ++ frame_in t ∷ []) v r t.slave) (sym (pushed gs (frame_in t))) one
