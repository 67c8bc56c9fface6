-- A slave of which a mail was passed on last is open, over all frames of a serving.
use Rattle.std.proofs.Common.{◌≡◌, ℕ, Bool, true, false, Option, Some, None, List, [], ◌∷◌, ◌++◌, refl, ap, sym, ◌∙◌, subst}
use Rattle.std.specs.Prelude.{◌&&◌, if◌then◌else◌, All}
use Rattle.std.proofs.lemmas.List.Elements.{All-nil, All-cons, All-weaker}
use Rattle.few_replies.specs.of_life_model.Lives.{Life, life_lost, life_next}
use Rattle.few_replies.specs.of_state_model.Stated.{Service}
use Rattle.run_frames.specs.of_datagrams.Datagram as Raw
use Rattle.run_frames.specs.of_frame_view.View.{Lens}
use Rattle.run_frames.specs.of_frame_view.Seen.{seen}
use Rattle.run_frames.specs.of_frame_view.Shares.{came_at, given_where}
use Rattle.few_replies.specs.of_link_mails.Body.{Body}
use Rattle.run_frames.specs.of_master_duty.Reply.{Reply}
use Rattle.run_frames.specs.of_master_hand.Spoken.{Asked, acknowledged, is_followed, is_passed, passed}
use Rattle.run_frames.specs.of_master_side.Passing.{news_back, news_lost}
use Rattle.run_frames.specs.of_segment_plan.declared.service.Service as Plan
use Rattle.run_frames.specs.of_segment_ring.declared.wire.Fate.{Fate}
use Rattle.run_frames.specs.of_segment_ring.declared.wire.Fate.TheVariants.{Pass, Lost}
use Rattle.run_frames.specs.of_life_runs.Led.{Exchanged, Leads, Took, speech_at}
use Rattle.run_frames.specs.of_life_runs.Served.{Keyed, Serves, ServedTurn, ServedComes, IsServedTurn, IsServedLed, accepted_by, all_serve, gives_it, served_life}
use Rattle.run_frames.specs.of_life_runs.Told.{Passed, replies_in, told_on}
use Rattle.run_frames.proofs.of_life_runs.Tells.{HasPassed, back_has, lost_has, mail_next, none_next}
use Rattle.served_places.specs.Rows.{IsHeld}
use Rattle.served_places.proofs.Each.{each}

abbrev Has : Option Passed → Life Body Asked Reply → Type 0
Has hand l = (p : Passed) → hand ≡ Some p → HasPassed p l

module _ (lens : ℕ → Lens) (made : ℕ) (ds : List Raw.Datagram) (w : Serves) (v : ServedTurn) (t : IsServedTurn lens made ds w v) (h : Has w.hand w.lead.lived.life) where
  turn_has : (room n m : ℕ) (script : List Plan.Service) (waits rest : List Keyed) (hand after : Option Passed) (b : Option (Service Asked)) → ServedComes room script waits hand n b m rest after → w.hand ≡ hand → v.turn.begun ≡ b →
      Took made w.lead.lived.life.era.account v.turn.lived.life.era.account b → Has after v.turn.lived.life
  turn_has _ _ _ _ _ _ _ _ _ ServedComes.none e f took p s = subst (HasPassed p) (sym t.next.life) (none_next (speech_at lens w.lead.lived.spot) made p w.lead.lived.life t.next.pick (t.begun ∙ f) (h p (e ∙ s)))
  turn_has _ _ _ _ _ _ _ _ _ (ServedComes.own s m c) e f took p z = absurd (let bad : None ≡ Some p = z in cc)
  turn_has _ _ _ _ _ _ _ _ _ (ServedComes.mail k rest q) e f took p s =
      let life : v.turn.lived.life ≡ life_next (speech_at lens w.lead.lived.spot) acknowledged is_followed is_passed made w.lead.lived.life w.lead.lived.life.stand (record { begin = Some (Service.Mails (passed k.mail)); hold = t.next.pick.hold }) =
      t.next.life ∙ (λ i. life_next (speech_at lens w.lead.lived.spot) acknowledged is_followed is_passed made w.lead.lived.life w.lead.lived.life.stand (record { begin = (t.begun ∙ f) i; hold = t.next.pick.hold })) in
      let same : record { key = k.key; mail = k.mail; told = [] } ≡ p = (let all : Some (record { key = k.key; mail = k.mail; told = [] }) ≡ Some p = s in cc) in
      subst (λ z. HasPassed z v.turn.lived.life) same
      (subst (HasPassed (record { key = k.key; mail = k.mail; told = [] })) (sym life)
      (mail_next (speech_at lens w.lead.lived.spot) made k.key k.mail w.lead.lived.life t.next.pick.hold w.lead.lived.life.stand refl (ap (λ (z : Life Body Asked Reply). z.era.account.started) (sym life) ∙ took)))

  pub next_has : Has v.hand v.turn.lived.life
  next_has = turn_has (lens w.lead.lived.spot.station).out w.lead.number v.turn.number w.lead.script w.waits v.waits w.hand v.hand v.turn.begun t.comes refl refl t.took

-- a mail that is told of stays the one that was passed on last
told_has : (l m : Life Body Asked Reply) (told : Passed → Passed) → ((p : Passed) → HasPassed p l → HasPassed (told p) m) → (hand after : Option Passed) → ((q : Passed) → after ≡ Some q → (p : Passed) × (hand ≡ Some p) × (told p ≡ q)) → Has hand l → Has after m
told_has l m told goes hand after is h q e = (let o = is q e in subst (λ z. HasPassed z m) o.2 (goes o.0 (h o.0 o.1)))

module _ (lens : ℕ → Lens) (recover retry : ℕ) (gives : Bool) (made : ℕ) (f : Exchanged) (v : ServedTurn) (h : Has v.hand v.turn.lived.life) where
  -- what was told besides
  is_told : (bs : List Body) (hand : Option Passed) (q : Passed) → told_on v.turn.lived.life.era.passing bs hand ≡ Some q → (p : Passed) × (hand ≡ Some p) × (record p { told = p.told ++ replies_in v.turn.lived.life.era.passing bs } ≡ q)
  is_told bs None q e = absurd (let bad : None ≡ Some q = e in cc)
  is_told bs (Some p) q e = (p, refl, (let all = e in cc))

  abbrev lost : Life Body Asked Reply
  lost = life_lost (speech_at lens v.turn.lived.spot) acknowledged is_followed is_passed v.turn.lived.spot (news_lost v.turn.lived.spot.station v.kept (seen lens f.sent)) (seen lens f.sent) v.turn.lived.life v.turn.lived.life.stand

  behind_has : (fate : Fate) → Has (if gives_it lens recover retry gives fate v then None else told_on v.turn.lived.life.era.passing (accepted_by lens recover retry f fate v) v.hand) (served_life lens recover retry gives made f fate v).life
  behind_has Pass q e =
      told_has v.turn.lived.life (served_life lens recover retry gives made f Pass v).life (λ p. record p { told = p.told ++ replies_in v.turn.lived.life.era.passing (accepted_by lens recover retry f Pass v) })
      (λ p t. back_has (speech_at lens v.turn.lived.spot) made made v.turn.lived.spot (news_back v.turn.lived.spot.station v.kept v.counts (seen lens f.back)) (seen lens f.back) (came_at v.turn.share.under v.turn.share.at (seen lens f.back)) p v.turn.lived.life t)
      v.hand (told_on v.turn.lived.life.era.passing (accepted_by lens recover retry f Pass v) v.hand) (is_told (accepted_by lens recover retry f Pass v) v.hand) h q e
  behind_has (Lost after) q e = by (gives && v.turn.share.under) e
    where
      by : (z : Bool) → (if z then None else told_on v.turn.lived.life.era.passing [] v.hand) ≡ Some q → HasPassed q (given_where z recover v.turn.lived.spot made lost)
      by true b = absurd (let bad : None ≡ Some q = b in cc)
      by false b =
          told_has v.turn.lived.life lost (λ p. record p { told = p.told ++ replies_in v.turn.lived.life.era.passing [] })
          (λ p t. lost_has (speech_at lens v.turn.lived.spot) made v.turn.lived.spot (news_lost v.turn.lived.spot.station v.kept (seen lens f.sent)) (seen lens f.sent) p v.turn.lived.life t)
          v.hand (told_on v.turn.lived.life.era.passing [] v.hand) (is_told [] v.hand) h q b

abbrev HasAll : Serves → Type 0
HasAll w = Has w.hand w.lead.lived.life

first_has : (paces : List ℕ) (as' : List Leads) → All HasAll (all_serve paces as')
first_has paces [] = All-nil HasAll
first_has [] (a ∷ as') = All-cons HasAll _ (all_serve [] as') (λ p e. absurd (let bad : None ≡ Some p = e in cc)) (first_has [] as')
first_has (pace ∷ paces) (a ∷ as') = All-cons HasAll _ (all_serve paces as') (λ p e. absurd (let bad : None ≡ Some p = e in cc)) (first_has paces as')

module _ (lens : ℕ → Lens) (recover retry : ℕ) (paces : List ℕ) (first : List Leads) where
  pub all_has : (fs : List Exchanged) (missed : ℕ) (ws : List Serves) → IsServedLed lens recover retry (all_serve paces first) fs missed ws → All HasAll ws
  all_has fs missed ws led =
      each lens recover retry HasAll (λ w k h. h) (λ gives made ds g w v t h. behind_has lens recover retry gives made g v (next_has lens made ds w v t h) g.fate) (all_serve paces first) (first_has paces first) fs missed ws led

  pub all_held : (fs : List Exchanged) (missed : ℕ) (ws : List Serves) → IsServedLed lens recover retry (all_serve paces first) fs missed ws → All IsHeld ws
  all_held fs missed ws led = All-weaker HasAll IsHeld (λ w h p e. (h p e).opened) ws (all_has fs missed ws led)
