-- The slaves of a serving stay where they are.
use Rattle.std.proofs.Common.{◌≡◌, ℕ, zero, suc, Bool, List, [], ◌∷◌, map, length, refl, ap, ◌∙◌}
use Rattle.run_frames.specs.of_datagrams.Datagram as Raw
use Rattle.run_frames.specs.of_frame_view.View.{Lens}
use Rattle.few_replies.specs.of_life_model.Lives.{Spot}
use Rattle.run_frames.specs.of_segment_ring.declared.wire.Fate.{Fate}
use Rattle.run_frames.specs.of_segment_ring.declared.wire.Fate.TheVariants.{Pass, Lost}
use Rattle.run_frames.specs.of_life_runs.Led.{Exchanged, gives_up_at}
use Rattle.served_places.specs.Places.{spot_at}
use Rattle.run_frames.specs.of_life_runs.Served.{Keyed, Serves, ServedTurn, AllServedTurn, IsServedLed, asked_at, served_behind, served_life}

abbrev turned_at : ServedTurn → Spot
turned_at v = v.turn.lived.spot

asked_places : (place : ℕ) (k : Keyed) (ws : List Serves) → map spot_at (asked_at place k ws) ≡ map spot_at ws
asked_places zero k [] = refl
asked_places (suc place) k [] = refl
asked_places zero k (w ∷ ws) = refl
asked_places (suc place) k (w ∷ ws) = ap (λ z. spot_at w ∷ z) (asked_places place k ws)

module _ (lens : ℕ → Lens) where
  turn_places : (made : ℕ) (ds : List Raw.Datagram) (ws : List Serves) (vs : List ServedTurn) → AllServedTurn lens made ds ws vs → map turned_at vs ≡ map spot_at ws
  turn_places made ds [] [] t = refl
  turn_places made ds [] (v ∷ vs) t = absurd t
  turn_places made ds (w ∷ ws) [] t = absurd t
  turn_places made ds (w ∷ ws) (v ∷ vs) t = λ i. t.0.next.spot i ∷ turn_places made ds ws vs t.1 i

  module _ (recover retry : ℕ) where
    life_place : (gives : Bool) (made : ℕ) (f : Exchanged) (fate : Fate) (v : ServedTurn) → (served_life lens recover retry gives made f fate v).spot ≡ turned_at v
    life_place gives made f Pass v = refl
    life_place gives made f (Lost after) v = refl

    behind_places : (gives : Bool) (made : ℕ) (f : Exchanged) (vs : List ServedTurn) → map spot_at (map (served_behind lens recover retry gives made f) vs) ≡ map turned_at vs
    behind_places gives made f [] = refl
    behind_places gives made f (v ∷ vs) = λ i. life_place gives made f f.fate v i ∷ behind_places gives made f vs i

    pub stay : (first : List Serves) (fs : List Exchanged) (missed : ℕ) (ws : List Serves) → IsServedLed lens recover retry first fs missed ws → map spot_at ws ≡ map spot_at first
    stay first _ _ _ IsServedLed.start = refl
    stay first _ _ _ (IsServedLed.asks fs missed ws place k led may) = asked_places place k ws ∙ stay first fs missed ws led
    stay first _ _ _ (IsServedLed.on fs missed ws f vs led frame) =
        behind_places (gives_up_at lens recover retry missed) (length fs) f vs ∙ turn_places (length fs) frame.datagrams ws vs frame.each ∙ stay first fs missed ws led
