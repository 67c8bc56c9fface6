-- Over all frames of a serving: what is told of a mail that is passed on are its own replies.
use Rattle.std.proofs.Common.{◌≡◌, ℕ, zero, suc, Bool, true, false, Option, Some, None, List, [], ◌∷◌, ◌++◌, map, length, refl, ap, sym, ◌∙◌, subst}
use Rattle.std.specs.Prelude.{◌&&◌, if◌then◌else◌, All}
use Rattle.std.proofs.lemmas.List.Elements.{All-nil, All-cons}
use Rattle.master_tour.specs.of_life_model.Lives.{Life, life_lost, life_next}
use Rattle.master_hand.specs.of_state_model.Stated.{Service}
use Rattle.master_tour.specs.of_datagrams.Datagram as Raw
use Rattle.master_tour.specs.of_frame_view.View.{Lens}
use Rattle.master_tour.specs.of_frame_view.Seen.{seen}
use Rattle.master_tour.specs.of_frame_view.Shares.{came_at, given_where}
use Rattle.master_tour.specs.of_link_mails.Body.{Body}
use Rattle.master_tour.specs.of_master_duty.Reply.{Reply}
use Rattle.master_hand.specs.Spoken.{Asked, acknowledged, is_followed, is_passed, passed}
use Rattle.master_tour.specs.of_master_side.Passing.{news_back, news_lost}
use Rattle.master_hand.specs.of_segment_plan.declared.service.Service as Plan
use Rattle.segment_ring.specs.declared.wire.Fate.{Fate}
use Rattle.segment_ring.specs.declared.wire.Fate.TheVariants.{Pass, Lost}
use Rattle.life_runs.specs.Led.{Exchanged, Leads, Took, gives_up_at, speech_at}
use Rattle.life_runs.specs.Served.{Keyed, Serves, ServedTurn, ServedComes, IsServedTurn, AllServedTurn, IsServedLed, TellsSo, accepted_by, all_serve, asked_at, gives_it, served_behind, served_life}
use Rattle.life_runs.specs.Told.{Passed, told_on}
use Rattle.life_runs.proofs.Tells.{HasPassed, back_has, lost_has, mail_next, none_next}

-- what is known of a slave, before a frame and behind it
abbrev Has : Serves → Type 0
Has w = (p : Passed) → w.hand ≡ Some p → HasPassed p w.lead.lived.life

abbrev HasTurn : ServedTurn → Type 0
HasTurn v = (p : Passed) → v.hand ≡ Some p → HasPassed p v.turn.lived.life

abbrev AllHas : List Serves → Type 0
AllHas [] = Unit {0}
AllHas (w ∷ ws) = Has w × AllHas ws

abbrev AllTurns : List ServedTurn → Type 0
AllTurns [] = Unit {0}
AllTurns (v ∷ vs) = HasTurn v × AllTurns vs

module _ (lens : ℕ → Lens) where
  -- BEFORE A FRAME
  module _ (made : ℕ) (ds : List Raw.Datagram) (w : Serves) (v : ServedTurn) (t : IsServedTurn lens made ds w v) (h : Has w) where
    by_comes : (room n m : ℕ) (script : List Plan.Service) (waits rest : List Keyed) (hand after : Option Passed) (b : Option (Service Asked)) → ServedComes room script waits hand n b m rest after → w.hand ≡ hand → v.turn.begun ≡ b →
        Took made w.lead.lived.life.era.account v.turn.lived.life.era.account b → (p : Passed) → after ≡ Some p → HasPassed p v.turn.lived.life
    by_comes _ _ _ _ _ _ _ _ _ ServedComes.none e f took p s =
        subst (λ z. HasPassed p z) (sym t.next.life) (none_next (speech_at lens w.lead.lived.spot) made p w.lead.lived.life t.next.pick (t.begun ∙ f) (h p (e ∙ s)))
    by_comes _ _ _ _ _ _ _ _ _ (ServedComes.own s m c) e f took p z = absurd (let bad : None ≡ Some p = z in cc)
    by_comes _ _ _ _ _ _ _ _ _ (ServedComes.mail k rest q) e f took p s =
        let pick : t.next.pick ≡ record { begin = Some (Service.Mails (passed k.mail)); hold = t.next.pick.hold } = λ i. record { begin = (t.begun ∙ f) i; hold = t.next.pick.hold } in
        let life = t.next.life ∙ ap (λ z. life_next (speech_at lens w.lead.lived.spot) acknowledged is_followed is_passed made w.lead.lived.life w.lead.lived.life.stand z) pick in
        let same : record { key = k.key; mail = k.mail; told = [] } ≡ p = (let all : Some (record { key = k.key; mail = k.mail; told = [] }) ≡ Some p = s in cc) in
        subst (λ z. HasPassed z v.turn.lived.life) same
        (subst (λ z. HasPassed (record { key = k.key; mail = k.mail; told = [] }) z) (sym life)
        (mail_next (speech_at lens w.lead.lived.spot) made k.key k.mail w.lead.lived.life t.next.pick.hold w.lead.lived.life.stand refl
        (ap (λ (z : Life Body Asked Reply). z.era.account.started) (sym life) ∙ took)))

    turn_has : HasTurn v
    turn_has p s = by_comes (lens w.lead.lived.spot.station).out w.lead.number v.turn.number w.lead.script w.waits v.waits w.hand v.hand v.turn.begun t.comes refl refl t.took p s

  all_turns : (made : ℕ) (ds : List Raw.Datagram) (ws : List Serves) (vs : List ServedTurn) → AllServedTurn lens made ds ws vs → AllHas ws → AllTurns vs
  all_turns made ds [] [] t h = tt
  all_turns made ds [] (v ∷ vs) t h = absurd t
  all_turns made ds (w ∷ ws) [] t h = absurd t
  all_turns made ds (w ∷ ws) (v ∷ vs) t h = (turn_has made ds w v t.0 h.0, all_turns made ds ws vs t.1 h.1)

  -- BEHIND IT
  module _ (recover retry : ℕ) (gives : Bool) (made : ℕ) (f : Exchanged) (v : ServedTurn) (h : HasTurn v) where
    behind_has : (fate : Fate) (q : Passed) → (if gives_it lens recover retry gives fate v then None else told_on v.turn.lived.life.era.passing (accepted_by lens recover retry f fate v) v.hand) ≡ Some q → HasPassed q (served_life lens recover retry gives made f fate v).life
    behind_has Pass q e = go v.hand refl e
      where
        go : (hand : Option Passed) → v.hand ≡ hand → told_on v.turn.lived.life.era.passing (accepted_by lens recover retry f Pass v) hand ≡ Some q → HasPassed q (served_life lens recover retry gives made f Pass v).life
        go None a b = absurd (let bad : None ≡ Some q = b in cc)
        go (Some p) a b =
            let same : record p { told = p.told ++ _ } ≡ q = (let all = b in cc) in
            subst (λ z. HasPassed z (served_life lens recover retry gives made f Pass v).life) same
            (back_has (speech_at lens v.turn.lived.spot) made made v.turn.lived.spot (news_back v.turn.lived.spot.station v.kept v.counts (seen lens f.back)) (seen lens f.back) (came_at v.turn.share.under v.turn.share.at (seen lens f.back)) p v.turn.lived.life (h p a))
    behind_has (Lost after) q e = by (gives && v.turn.share.under) e
      where
        by : (z : Bool) → (if z then None else told_on v.turn.lived.life.era.passing [] v.hand) ≡ Some q →
            HasPassed q (given_where z recover v.turn.lived.spot made (life_lost (speech_at lens v.turn.lived.spot) acknowledged is_followed is_passed v.turn.lived.spot (news_lost v.turn.lived.spot.station v.kept (seen lens f.sent)) (seen lens f.sent) v.turn.lived.life v.turn.lived.life.stand))
        by true b = absurd (let bad : None ≡ Some q = b in cc)
        by false b = go v.hand refl b
          where
            go : (hand : Option Passed) → v.hand ≡ hand → told_on v.turn.lived.life.era.passing [] hand ≡ Some q →
                HasPassed q (life_lost (speech_at lens v.turn.lived.spot) acknowledged is_followed is_passed v.turn.lived.spot (news_lost v.turn.lived.spot.station v.kept (seen lens f.sent)) (seen lens f.sent) v.turn.lived.life v.turn.lived.life.stand)
            go None a c = absurd (let bad : None ≡ Some q = c in cc)
            go (Some p) a c =
                let same : record p { told = p.told ++ _ } ≡ q = (let all = c in cc) in
                subst (λ z. HasPassed z (life_lost (speech_at lens v.turn.lived.spot) acknowledged is_followed is_passed v.turn.lived.spot (news_lost v.turn.lived.spot.station v.kept (seen lens f.sent)) (seen lens f.sent) v.turn.lived.life v.turn.lived.life.stand)) same
                (lost_has (speech_at lens v.turn.lived.spot) made v.turn.lived.spot (news_lost v.turn.lived.spot.station v.kept (seen lens f.sent)) (seen lens f.sent) p v.turn.lived.life (h p a))

  all_behind : (recover retry : ℕ) (gives : Bool) (made : ℕ) (f : Exchanged) (vs : List ServedTurn) → AllTurns vs → AllHas (map (served_behind lens recover retry gives made f) vs)
  all_behind recover retry gives made f [] h = tt
  all_behind recover retry gives made f (v ∷ vs) h = (behind_has recover retry gives made f v h.0 f.fate, all_behind recover retry gives made f vs h.1)

-- a mail that is asked waits, and leaves all else
asked_has : (place : ℕ) (k : Keyed) (ws : List Serves) → AllHas ws → AllHas (asked_at place k ws)
asked_has place k [] h = tt
asked_has zero k (w ∷ ws) h = (h.0, h.1)
asked_has (suc place) k (w ∷ ws) h = (h.0, asked_has place k ws h.1)

first_has : (paces : List ℕ) (as' : List Leads) → AllHas (all_serve paces as')
first_has paces [] = tt
first_has [] (a ∷ as') = (λ p e. absurd (let bad : None ≡ Some p = e in cc), first_has [] as')
first_has (pace ∷ paces) (a ∷ as') = (λ p e. absurd (let bad : None ≡ Some p = e in cc), first_has paces as')

tells : (ws : List Serves) → AllHas ws → All TellsSo ws
tells [] h = All-nil TellsSo
tells (w ∷ ws) h = All-cons TellsSo w ws (λ p e. (h.0 p e).tells) (tells ws h.1)

module _ (lens : ℕ → Lens) (recover retry : ℕ) (paces : List ℕ) (first : List Leads) where
  serves_has : (fs : List Exchanged) (missed : ℕ) (ws : List Serves) → IsServedLed lens recover retry (all_serve paces first) fs missed ws → AllHas ws
  serves_has _ _ _ IsServedLed.start = first_has paces first
  serves_has _ _ _ (IsServedLed.asks fs missed ws place k led room) = asked_has place k ws (serves_has fs missed ws led)
  serves_has _ _ _ (IsServedLed.on fs missed ws f vs led frame) =
      all_behind lens recover retry (gives_up_at lens recover retry missed) (length fs) f vs (all_turns lens (length fs) frame.datagrams ws vs frame.each (serves_has fs missed ws led))

  pub serves_tell : (fs : List Exchanged) (missed : ℕ) (ws : List Serves) → IsServedLed lens recover retry (all_serve paces first) fs missed ws → All TellsSo ws
  serves_tell fs missed ws led = tells ws (serves_has fs missed ws led)
