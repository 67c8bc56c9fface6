-- No mail that is passed on is in hand of a run.
use Rattle.std.proofs.Common.{◌≡◌, ℕ, Bool, None, List, [], ◌∷◌, map, sym, ap, ◌∙◌}
use Rattle.std.specs.Prelude.{⊤}
use Rattle.run_promises.specs.of_datagrams.Datagram as Raw
use Rattle.seen_slaves.specs.of_frame_view.Seen.{seen}
use Rattle.seen_slaves.specs.of_frame_view.View.{Lens}
use Rattle.run_promises.specs.of_life_model.Lives.{Life}
use Rattle.run_promises.specs.of_life_runs.Led.{Exchanged, Leads, Turn, IsTurn, AllTurn, speech_at, is_passed, led_behind, life_behind}
use Rattle.run_promises.specs.of_link_mails.Body.{Body}
use Rattle.seen_slaves.specs.of_master_duty.Reply.{Reply}
use Rattle.seen_slaves.specs.of_master_hand.Spoken.{Asked, acknowledged, is_followed}
use Rattle.seen_slaves.proofs.of_master_tour.Unpassed.{unpassed_next, unpassed_back, unpassed_lost}
use Rattle.run_promises.specs.of_segment_ring.declared.wire.Fate.{Fate}
use Rattle.run_promises.specs.of_segment_ring.declared.wire.Fate.TheVariants.{Pass, Lost}
use Rattle.seen_slaves.specs.of_idle_slaves.WaitEager.{AllUnpassed}
use Rattle.gateway_run.proofs.of_life_runs.Quiet.{comes_own}

-- of slaves before a frame
abbrev pub TurnsUnpassed : List Turn → Type 0
TurnsUnpassed [] = ⊤
TurnsUnpassed (u ∷ us) = (u.lived.life.era.passing ≡ None) × TurnsUnpassed us

module _ (lens : ℕ → Lens) (recover retry : ℕ) (gives : Bool) (made : ℕ) (f : Exchanged) where
  turn_unpassed : (ds : List Raw.Datagram) (a : Leads) (u : Turn) → IsTurn lens made ds a u → a.lived.life.era.passing ≡ None → u.lived.life.era.passing ≡ None
  turn_unpassed ds a u t e =
      ap (λ (l : Life Body Asked Reply). l.era.passing) t.next.life
      ∙ unpassed_next (speech_at lens a.lived.spot) acknowledged is_followed is_passed made a.lived.life a.lived.life.stand t.next.pick e (λ q w. comes_own (lens a.lived.spot.station).out a.script a.number u.number u.begun t.comes q (sym t.begun ∙ w))

  -- nor before a frame
  pub turns_unpassed : (ds : List Raw.Datagram) (as' : List Leads) (us : List Turn) → AllTurn lens made ds as' us → AllUnpassed as' → TurnsUnpassed us
  turns_unpassed ds [] [] t k = tt
  turns_unpassed ds [] (u ∷ us) t k = absurd t
  turns_unpassed ds (a ∷ as') [] t k = absurd t
  turns_unpassed ds (a ∷ as') (u ∷ us) t k = (turn_unpassed ds a u t.0 k.0, turns_unpassed ds as' us t.1 k.1)

  behind_none : (fate : Fate) (u : Turn) → u.lived.life.era.passing ≡ None → (life_behind lens recover retry gives made f fate u.lived u.share).life.era.passing ≡ None
  behind_none Pass u e = unpassed_back (speech_at lens u.lived.spot) acknowledged is_followed is_passed made (seen lens f.back) u.lived u.share [] e
  behind_none (Lost after) u e = unpassed_lost (speech_at lens u.lived.spot) acknowledged is_followed is_passed gives recover made (seen lens f.sent) u.lived u.share [] e

  pub unpassed_on : (ds : List Raw.Datagram) (as' : List Leads) (us : List Turn) → AllTurn lens made ds as' us → AllUnpassed as' → AllUnpassed (map (led_behind lens recover retry gives made f) us)
  unpassed_on ds [] [] t k = tt
  unpassed_on ds [] (u ∷ us) t k = absurd t
  unpassed_on ds (a ∷ as') [] t k = absurd t
  unpassed_on ds (a ∷ as') (u ∷ us) t k = (behind_none f.fate u (turn_unpassed ds a u t.0 k.0), unpassed_on ds as' us t.1 k.1)
