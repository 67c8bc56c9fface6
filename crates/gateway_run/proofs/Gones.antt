-- NO MAIL WAITS for a slave that was given up for good: those that waited were dropped, and none is passed on to it any more.
use Rattle.std.proofs.Common.{◌≡◌, ◌<◌, ◌≤◌, ℕ, zero, suc, Bool, true, false, Option, Some, None, List, [], ◌∷◌, length, map, refl, sym, ap, ◌∙◌, subst, arith}
use Rattle.std.specs.Prelude.{All, ◌&&◌, if◌then◌else◌, is_some, replicate, slice_get}
use Rattle.std.proofs.lemmas.Option.{none-some, same_Some}
use Rattle.std.proofs.lemmas.List.Elements.{All-nil, All-cons, All-head, All-tail}
use Rattle.run_record.specs.of_life_runs.Served.{Keyed, Serves, ServedComes, ServedTurn, AllServedTurn, IsServedTurn, asked_at, gives_it, served_behind, served_life}
use Rattle.run_record.specs.of_life_runs.Told.{Passed}
use Rattle.run_record.proofs.of_master_node.Counts.{lost_gave}
use Rattle.run_record.specs.of_master_node.Serving.{run_lead}
use Rattle.run_record.specs.of_master_node.Wants.{gave_of}
use Rattle.run_record.specs.of_datagrams.Datagram as Raw
use Rattle.run_record.specs.of_frame_view.Seen.{seen}
use Rattle.run_record.specs.of_frame_view.View.{Lens}
use Rattle.run_record.specs.of_frame_view.Shares.{given_where}
use Rattle.run_record.specs.of_life_model.Lives.{Life, Spot, life_lost}
use Rattle.run_record.specs.of_life_runs.Led.{Exchanged, speech_at}
use Rattle.run_record.specs.of_link_mails.Body.{Body}
use Rattle.run_record.specs.of_segment_plan.declared.service.Service as Plan
use Rattle.run_record.specs.of_master_duty.Reply.{Reply}
use Rattle.run_record.specs.of_state_model.Stated.{Service}
use Rattle.run_record.specs.of_master_hand.Spoken.{Asked, acknowledged, is_followed, is_passed}
use Rattle.run_record.specs.of_master_side.Passing.{news_lost}
use Rattle.run_record.specs.of_segment_ring.declared.wire.Fate.{Fate}
use Rattle.run_record.specs.of_segment_ring.declared.wire.Fate.TheVariants as Fates
use Rattle.run_record.specs.of_run_notes.Notes.{station_of, stations_of}
use Rattle.run_record.specs.of_run_notes.Slaves.{gaves_noted}
use Rattle.run_record.specs.of_run_notes.declared.notes.Notes.{Notes}
use Rattle.run_record.proofs.Noted.{next_gives}
use Rattle.run_record.proofs.ServedGaves.{one_gives}

-- no mail waits for a slave that was given up more often than it is taken up again
abbrev pub NoneWaits : ℕ → Serves → Type 0
NoneWaits recover w = recover < length (gave_of w.lead) → w.waits ≡ []

-- where none waits none does once one could have come into hand
comes_none : (room n m : ℕ) (script : List Plan.Service) (waits rest : List Keyed) (hand after : Option Passed) (b : Option (Service Asked)) → ServedComes room script waits hand n b m rest after → waits ≡ [] → rest ≡ []
comes_none _ _ _ _ _ _ _ _ _ ServedComes.none e = e
comes_none _ _ _ _ _ _ _ _ _ (ServedComes.own s m c) e = e
comes_none _ _ _ _ _ _ _ _ _ (ServedComes.mail k rest q) e = absurd (let bad : k ∷ rest ≡ [] = sym q ∙ e in cc)

-- OVER A FRAME
dropped_where : (b : Bool) (recover made : ℕ) (spot : Spot) (m : Life Body Asked Reply) (waits : List Keyed) → (recover < length m.gave → waits ≡ []) → recover < length (given_where b recover spot made m).gave → (if b then [] else waits) ≡ []
dropped_where true recover made spot m waits h more = refl
dropped_where false recover made spot m waits h more = h more

module _ (lens : ℕ → Lens) (recover retry : ℕ) (gives : Bool) (made : ℕ) (f : Exchanged) (ds : List Raw.Datagram) where
  module _ (w : Serves) (v : ServedTurn) (t : IsServedTurn lens made ds w v) (h : NoneWaits recover w) where
    still : recover < length v.turn.lived.life.gave → v.waits ≡ []
    still more = comes_none _ _ _ _ _ _ _ _ _ t.comes (h (subst (λ (g : List ℕ). recover < length g) (next_gives lens made w.lead.lived v.turn.lived t.next) more))

    goes_none : (z : Fate) → recover < length (served_life lens recover retry gives made f z v).life.gave → (if gives_it lens recover retry gives z v then [] else v.waits) ≡ []
    goes_none Fates.Pass more =
        comes_none _ _ _ _ _ _ _ _ _ t.comes (h (subst (λ (g : List ℕ). recover < length g) (one_gives lens recover retry made ds w v t gives f Fates.Pass) more))
    goes_none (Fates.Lost after) more =
        let news = news_lost v.turn.lived.spot.station v.kept (seen lens f.sent) in
        let m = life_lost (speech_at lens v.turn.lived.spot) acknowledged is_followed is_passed v.turn.lived.spot news (seen lens f.sent) v.turn.lived.life v.turn.lived.life.stand in
        let same : m.gave ≡ v.turn.lived.life.gave = lost_gave (speech_at lens v.turn.lived.spot) acknowledged is_followed is_passed recover v.turn.lived.spot v.turn.lived.life news (seen lens f.sent) v.turn.lived.life.stand in
        dropped_where (gives && v.turn.share.under) recover made v.turn.lived.spot m v.waits (λ often. still (subst (λ (g : List ℕ). recover < length g) same often)) more

  pub all_none : (ws : List Serves) (vs : List ServedTurn) → AllServedTurn lens made ds ws vs → All (NoneWaits recover) ws → All (NoneWaits recover) (map (served_behind lens recover retry gives made f) vs)
  all_none [] [] t h = All-nil (NoneWaits recover)
  all_none [] (v ∷ vs) t h = absurd t
  all_none (w ∷ ws) [] t h = absurd t
  all_none (w ∷ ws) (v ∷ vs) t h =
      All-cons (NoneWaits recover) _ (map (served_behind lens recover retry gives made f) vs) (goes_none w v t.0 (All-head (NoneWaits recover) w ws h) f.fate) (all_none ws vs t.1 (All-tail (NoneWaits recover) w ws h))

-- A MAIL IS ASKED of a slave that wasn't given up so often
pub asked_none : (recover place : ℕ) (k : Keyed) (ws : List Serves) → ((w : Serves) → slice_get ws place ≡ Some w → length (gave_of w.lead) ≤ recover) → All (NoneWaits recover) ws → All (NoneWaits recover) (asked_at place k ws)
asked_none recover place k [] few h = All-nil (NoneWaits recover)
asked_none recover zero k (w ∷ ws) few h =
    All-cons (NoneWaits recover) _ ws (λ more. absurd (let less = few w refl in omega (arith, less, more))) (All-tail (NoneWaits recover) w ws h)
asked_none recover (suc place) k (w ∷ ws) few h =
    All-cons (NoneWaits recover) w (asked_at place k ws) (All-head (NoneWaits recover) w ws h) (asked_none recover place k ws few (All-tail (NoneWaits recover) w ws h))

-- a slave whose station stands was given up no more often than it is taken up again
none_beyond : (xs : List ℕ) (n : ℕ) → is_some (slice_get xs n) ≡ false → length xs ≤ n
none_beyond [] n e = omega arith
none_beyond (x ∷ xs) zero e = absurd (let bad : true ≡ false = e in cc)
none_beyond (x ∷ xs) (suc n) e = (let less = none_beyond xs n e in omega (arith, less))

stands_so : (gone : Bool) (home station : ℕ × ℕ) → (if gone then None else Some home) ≡ Some station → gone ≡ false
stands_so true home station e = absurd (none-some station e)
stands_so false home station e = refl

few_noted : (recover : ℕ) (homes : List (ℕ × ℕ)) (notes : List Notes) (k : ℕ) (station : ℕ × ℕ) (gave : List ℕ) → slice_get (stations_of recover homes notes) k ≡ Some (Some station) → slice_get (gaves_noted notes) k ≡ Some gave → length gave ≤ recover
few_noted recover [] notes k station gave stands at = absurd (none-some (Some station) stands)
few_noted recover (home ∷ homes) [] k station gave stands at = absurd (none-some (Some station) stands)
few_noted recover (home ∷ homes) (n ∷ notes) zero station gave stands at =
    let same = same_Some n.gave gave at in
    let there = same_Some (station_of recover home n) (Some station) stands in
    subst (λ (g : List ℕ). length g ≤ recover) same (none_beyond n.gave recover (stands_so (is_some (slice_get n.gave recover)) home station there))
few_noted recover (home ∷ homes) (n ∷ notes) (suc k) station gave stands at = few_noted recover homes notes k station gave stands at

gave_at : (ws : List Serves) (k : ℕ) (w : Serves) → slice_get ws k ≡ Some w → slice_get (map gave_of (map run_lead ws)) k ≡ Some (gave_of w.lead)
gave_at [] k w at = absurd (none-some w at)
gave_at (u ∷ ws) zero w at = ap (λ (z : Serves). Some (gave_of z.lead)) (same_Some u w at)
gave_at (u ∷ ws) (suc k) w at = gave_at ws k w at

pub few_given : (recover : ℕ) (homes : List (ℕ × ℕ)) (notes : List Notes) (ws : List Serves) → gaves_noted notes ≡ map gave_of (map run_lead ws) → (k : ℕ) (station : ℕ × ℕ) → slice_get (stations_of recover homes notes) k ≡ Some (Some station) →
    (w : Serves) → slice_get ws k ≡ Some w → length (gave_of w.lead) ≤ recover
few_given recover homes notes ws gave k station stands w at =
    few_noted recover homes notes k station (gave_of w.lead) stands (ap (λ (gs : List (List ℕ)). slice_get gs k) gave ∙ gave_at ws k w at)

empty : (ks : List Keyed) → length ks ≡ 0 → ks ≡ []
empty [] f = refl
empty (k ∷ ks) f = absurd (cc)

-- BEFORE THE FIRST FRAME none waits
pub none_wait : (ws : List Serves) (n : ℕ) → map (λ (w : Serves). length w.waits) ws ≡ replicate n 0 → All (λ (w : Serves). w.waits ≡ []) ws
none_wait [] n e = All-nil (λ (w : Serves). w.waits ≡ [])
none_wait (w ∷ ws) zero e = absurd (cc)
none_wait (w ∷ ws) (suc n) e =
    let none : length w.waits ≡ 0 = cc in
    let rest : map (λ (w : Serves). length w.waits) ws ≡ replicate n 0 = cc in
    All-cons (λ (w : Serves). w.waits ≡ []) w ws (empty w.waits none) (none_wait ws n rest)

-- the first of a list, and those behind it
abbrev head_or : {T : Type 0} → T → List T → T
head_or d [] = d
head_or d (x ∷ xs) = x

abbrev tail_of : {T : Type 0} → List T → List T
tail_of [] = []
tail_of (x ∷ xs) = xs

-- BY OTHER LIVES of the same session, in which as many wait and as often each was given up
pub same_none : (recover : ℕ) (ws us : List Serves) → map (λ (w : Serves). length w.waits) ws ≡ map (λ (w : Serves). length w.waits) us → map gave_of (map run_lead ws) ≡ map gave_of (map run_lead us) → All (NoneWaits recover) ws → All (NoneWaits recover) us
same_none recover ws [] many gave h = All-nil (NoneWaits recover)
same_none recover [] (u ∷ us) many gave h = absurd (cc)
same_none recover (w ∷ ws) (u ∷ us) many gave h =
    let here : gave_of w.lead ≡ gave_of u.lead = ap (head_or []) gave in
    let waits : length w.waits ≡ length u.waits = ap (head_or 0) many in
    All-cons (NoneWaits recover) u us
    (λ often. empty u.waits (sym waits ∙ ap length (All-head (NoneWaits recover) w ws h (subst (λ (g : List ℕ). recover < length g) (sym here) often))))
    (same_none recover ws us (ap tail_of many) (ap tail_of gave) (All-tail (NoneWaits recover) w ws h))
