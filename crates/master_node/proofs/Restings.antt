-- WHERE EACH SLAVE RESTS, by its life, its stop rests too.
use Rattle.std.proofs.Common.{◌≡◌, inl, inr, ℕ, zero, suc, ◌+◌, true, false, Option, Some, None, List, [], ◌∷◌, length, get_or, ◌<◌, refl, ap, sym, ◌∙◌, subst, arith}
use Rattle.std.specs.Prelude.{All, IfSome, slice_get, option_map, is_some, map, ◌⊎◌, ◌&&◌, ◌||◌}
use Rattle.std.proofs.lemmas.List.Elements.{All-head, All-tail}
use Rattle.life_runs.specs.of_mailbox_mail.declared.mail.Mail.{Mail}
use Rattle.life_runs.specs.of_frame_view.View.{Lens}
use Rattle.life_runs.specs.of_frame_view.Shares.{AllBoth, AllThree}
use Rattle.life_runs.specs.Led.{Leads, speech_at}
use Rattle.life_runs.specs.of_link_model.Link.{Halves}
use Rattle.life_runs.specs.of_master_duty.Reply.{Reply}
use Rattle.life_runs.specs.of_master_hand.Shown.{awaits_reply}
use Rattle.life_runs.specs.of_master_hand.Spoken.{Asked}
use Rattle.life_runs.specs.of_master_hand.declared.hand.InHand.{InHand}
use Rattle.life_runs.specs.of_master_side.Carried.{in_hand}
use Rattle.life_runs.specs.of_master_side.Passing.{passing_seen}
use Rattle.life_runs.specs.of_master_side.Recall.{Recall}
use Rattle.life_runs.specs.of_master_side.declared.hand.Hand.{Ghosts}
use Rattle.life_runs.specs.of_master_side.declared.passing.Passing.{Passing}
use Rattle.life_runs.specs.of_link_mails.Body.{Body, link_mail}
use Rattle.life_runs.specs.of_master_tour.Passing.{StandPassing}
use Rattle.life_runs.specs.of_master_tour.Stands.{StandShows}
use Rattle.life_runs.specs.of_master_tour.Walks.{StepsAt}
use Rattle.life_runs.specs.of_master_tour.declared.stop.Stand.{Stand}
use Rattle.life_runs.specs.of_master_tour.declared.stop.Stop.{Stop}
use Rattle.life_runs.specs.of_life_model.Lives
use Rattle.life_runs.specs.of_life_model.Lives.{Life, Spot}
use Rattle.life_runs.specs.Served.{Serves}
use Rattle.master_node.specs.Eager.{recall_of}
use Rattle.master_node.specs.Resting.{AllRest, IsResting, Rests, StandRests, StopRests}
use Rattle.master_node.specs.ServedEager.{AllServedRest, AllServedStill, ServedResting}
use Rattle.master_node.specs.Passes.{waits_in}
use Rattle.master_node.specs.Serving.{IsServed, run_lead, waits_of}
use Rattle.master_node.specs.Shows.{IsLead, IsLived, WaitsNone, side_shows}
use Rattle.master_node.specs.declared.lan.Lan.{Lan}
use Rattle.master_node.specs.declared.post.Post.{Post}
use Rattle.master_node.proofs.Frees.{no_hand}
use Rattle.master_node.proofs.Mailings.{none_waits}
use Rattle.master_node.proofs.Servings.{keyed}

pub never : false ≡ true → ⊥
never e = absurd (cc)

out_none : (o : Option Mail) → option_map link_mail o ≡ None → o ≡ None
out_none None e = refl
out_none (Some m) e = absurd (cc)

-- none is copied of none
pub none_copied : {S T : Type 0} (o : Option S) (f : S → T) → option_map f o ≡ None → is_some o ≡ false
none_copied None f e = refl
none_copied (Some t) f e = absurd (cc)

-- what stands at a place
pub if_here : {S : Type 0} (P : S → Type 0) (ss : List S) (i : ℕ) (s : S) → i < length ss → s ≡ get_or ss i s → IfSome (slice_get ss i) P → P s
if_here P [] i s l e p = absurd (omega (arith, l))
if_here P (x ∷ xs) zero s l e p = subst P (sym e) p
if_here P (x ∷ xs) (suc i) s l e p = if_here P xs i s (omega (arith, l)) e p

-- no mail is in hand that is passed on where none is seen
pub none_unseen : (o : Option Passing) → passing_seen o ≡ None → o ≡ None
none_unseen None e = refl
none_unseen (Some Passing.Waiting) e = absurd (cc)
none_unseen (Some Passing.Sent) e = absurd (cc)
none_unseen (Some Passing.Boxed) e = absurd (cc)
none_unseen (Some Passing.Served) e = absurd (cc)
none_unseen (Some Passing.Answered) e = absurd (cc)

-- a slave's stop is open where its life is
pub open_lived : {G : Ghosts InHand} (lens : ℕ → Lens) (recover : ℕ) (spot : Spot) (s : Stop InHand G) (l : Life Body Asked Reply) (stand : Stand) → s.stand ≡ stand → StandShows (side_shows lens recover s spot) spot s.stand l → l.stand ≡ Lives.Stand.Open → s.stand ≡ Stand.Open
open_lived lens recover spot s l (Stand.Opening up) e w o =
    let stood = subst (λ (z : Stand). StandShows (side_shows lens recover s spot) spot z l) e w in
    absurd (let t = sym stood.stand ∙ o in cc)
open_lived lens recover spot s l Stand.Gone e w o =
    let stood = subst (λ (z : Stand). StandShows (side_shows lens recover s spot) spot z l) e w in
    absurd (let t = sym stood ∙ o in cc)
open_lived lens recover spot s l Stand.Open e w o = e

module _ {G : Ghosts InHand} (lens : ℕ → Lens) (recover : ℕ) (l : Lan) where
  rests_by : (place : ℕ) (a : Leads) (s : Stop InHand G) (stand : Stand) → s.stand ≡ stand → IsLived lens recover a.lived s → s.side.hand.laying.script ≡ a.script → s.side.hand.laying.number ≡ a.number → (a.lived.life.stand ≡ Lives.Stand.Gone) ⊎ (Rests lens l place (recall_of s) a × (s.side.passing ≡ None)) → StandRests l place stand s.side
  rests_by place a s (Stand.Opening up) e i script number (inl gone) =
      let stood = subst (λ (k : Stand). StandShows (λ d b. side_shows lens recover s a.lived.spot d b) a.lived.spot k a.lived.life) e i.shown.stood in
      absurd (let t = sym stood.stand ∙ gone in cc)
  rests_by place a s (Stand.Opening up) e i script number (inr (r, none)) =
      let stood = subst (λ (k : Stand). StandShows (λ d b. side_shows lens recover s a.lived.spot d b) a.lived.spot k a.lived.life) e i.shown.stood in
      absurd (let t = sym stood.stand ∙ r.free.stands in cc)
  rests_by place a s Stand.Open e i script number (inl gone) =
      let stood = subst (λ (k : Stand). StandShows (λ d b. side_shows lens recover s a.lived.spot d b) a.lived.spot k a.lived.life) e i.shown.stood in
      absurd (let t = sym stood.0 ∙ gone in cc)
  rests_by place a s Stand.Open e i script number (inr (r, none)) =
      let stood = subst (λ (k : Stand). StandShows (λ d b. side_shows lens recover s a.lived.spot d b) a.lived.spot k a.lived.life) e i.shown.stood in (
        record {
          speech = speech_at lens a.lived.spot;
          side = a.lived.life.era.side;
          account = a.lived.life.era.account;
          shows = stood.1;
          known = r.known;
          hand = no_hand (in_hand s.side.duty) a.lived.life.era.account.hand r.free.hand stood.1.state;
          unpassed = none;
          free = r.free.free;
          done = r.free.done;
          out = out_none s.side.out.state (sym (ap (λ (h : Halves Body). h.out.holding) stood.1.halves) ∙ r.held);
          inn = sym (ap (λ (h : Halves Body). h.inn.state) stood.1.halves) ∙ r.clear;
          script = subst (λ n. slice_get s.side.hand.laying.script n ≡ None) (sym number) (subst (λ sc. slice_get sc a.number ≡ None) (sym script) r.script);
        },
        r.packet,
      )
  rests_by place a s Stand.Gone e i script number r = tt

  -- of a run
  one_rests : (place : ℕ) (a : Leads) (s : Stop InHand G) → IsLead lens recover a s → IsResting lens l place (recall_of s) a → StopRests l place s
  one_rests place a s i (inl gone) = rests_by place a s s.stand refl i.lives i.script i.number (inl gone)
  one_rests place a s i (inr r) = rests_by place a s s.stand refl i.lives i.script i.number (inr (r, i.unpassed))

  -- of a serving
  serve_rests : (made place : ℕ) (w : Serves) (p : Post) (s : Stop InHand G) → IsServed lens recover made w p s → ServedResting lens l place (recall_of s) w → StopRests l place s
  serve_rests made place w p s i (inl gone) = rests_by place w.lead s s.stand refl i.lives i.script i.number (inl gone)
  serve_rests made place w p s i (inr r) =
      let opened = open_lived lens recover w.lead.lived.spot s w.lead.lived.life s.stand refl i.lives.shown.stood r.0.free.stands in
      let shown = (subst (λ z. StandPassing z (awaits_reply s.side.hand.course s.side.hand.which s.side.hand.clients) s.side.passing w.lead.lived.life) opened i.passing).is in
      rests_by place w.lead s s.stand refl i.lives i.script i.number (inr (r.0, none_unseen s.side.passing (sym shown ∙ r.1)))

  all_from : (place : ℕ) (as' : List Leads) (ss : List (Stop InHand G)) → AllBoth (λ a s. IsLead lens recover a s) as' ss → AllRest lens l place (map (λ s. recall_of s) ss) as' → (k : ℕ) → IfSome (slice_get ss k) (λ s. StopRests l (k + place) s)
  all_from place [] [] x r k = tt
  all_from place [] (s ∷ ss) x r k = absurd x
  all_from place (a ∷ as') [] x r k = absurd x
  all_from place (a ∷ as') (s ∷ ss) x r zero = subst (λ n. StopRests l n s) (none place) (one_rests place a s x.0 r.0)
    where
      none : (n : ℕ) → n ≡ 0 + n
      none n = omega arith
  all_from place (a ∷ as') (s ∷ ss) x r (suc k) = subst (λ n. IfSome (slice_get ss k) (λ s. StopRests l n s)) (next k place) (all_from (suc place) as' ss x.1 r.1 k)
    where
      next : (m n : ℕ) → m + suc n ≡ suc m + n
      next m n = omega arith

  -- of all slaves
  pub all_rest : (as' : List Leads) (ss : List (Stop InHand G)) → AllBoth (λ a s. IsLead lens recover a s) as' ss → AllRest lens l 0 (map (λ s. recall_of s) ss) as' → (k : ℕ) → IfSome (slice_get ss k) (λ s. StopRests l k s)
  all_rest as' ss x r k = subst (λ n. IfSome (slice_get ss k) (λ s. StopRests l n s)) (zero_of k) (all_from 0 as' ss x r k)
    where
      zero_of : (m : ℕ) → m + 0 ≡ m
      zero_of m = omega arith

  serves_from : (made place : ℕ) (ws : List Serves) (ps : List Post) (ss : List (Stop InHand G)) → AllThree (λ w p s. IsServed lens recover made w p s) ws ps ss → AllServedRest lens l place (map (λ s. recall_of s) ss) ws → (k : ℕ) → IfSome (slice_get ss k) (λ s. StopRests l (k + place) s)
  serves_from made place [] [] [] x r k = tt
  serves_from made place [] [] (s ∷ ss) x r k = absurd x
  serves_from made place [] (p ∷ ps) ss x r k = absurd x
  serves_from made place (w ∷ ws) [] ss x r k = absurd x
  serves_from made place (w ∷ ws) (p ∷ ps) [] x r k = absurd x
  serves_from made place (w ∷ ws) (p ∷ ps) (s ∷ ss) x r zero = subst (λ n. StopRests l n s) (none place) (serve_rests made place w p s x.0 r.0)
    where
      none : (n : ℕ) → n ≡ 0 + n
      none n = omega arith
  serves_from made place (w ∷ ws) (p ∷ ps) (s ∷ ss) x r (suc k) = subst (λ n. IfSome (slice_get ss k) (λ s. StopRests l n s)) (next k place) (serves_from made (suc place) ws ps ss x.1 r.1 k)
    where
      next : (m n : ℕ) → m + suc n ≡ suc m + n
      next m n = omega arith

  pub serves_rest : (made : ℕ) (ws : List Serves) (ps : List Post) (ss : List (Stop InHand G)) → AllThree (λ w p s. IsServed lens recover made w p s) ws ps ss → AllServedRest lens l 0 (map (λ s. recall_of s) ss) ws → (k : ℕ) → IfSome (slice_get ss k) (λ s. StopRests l k s)
  serves_rest made ws ps ss x r k = subst (λ n. IfSome (slice_get ss k) (λ s. StopRests l n s)) (zero_of k) (serves_from made 0 ws ps ss x r k)
    where
      zero_of : (m : ℕ) → m + 0 ≡ m
      zero_of m = omega arith

-- so their lives rest
rest_lead : (lens : ℕ → Lens) (l : Lan) (place : ℕ) (m : Recall) (w : Serves) → ServedResting lens l place m w → IsResting lens l place m w.lead
rest_lead lens l place m w (inl gone) = inl gone
rest_lead lens l place m w (inr r) = inr r.0

pub rest_leads : (lens : ℕ → Lens) (l : Lan) (place : ℕ) (ms : List Recall) (ws : List Serves) → AllServedRest lens l place ms ws → AllRest lens l place ms (map run_lead ws)
rest_leads lens l place [] [] r = tt
rest_leads lens l place [] (w ∷ ws) r = absurd r
rest_leads lens l place (m ∷ ms) [] r = absurd r
rest_leads lens l place (m ∷ ms) (w ∷ ws) r = (rest_lead lens l place m w r.0, rest_leads lens l (suc place) ms ws r.1)

-- what is remembered of a slave's turn counts for nothing without a state service in hand, or a mail that is passed on
module _ {G : Ghosts InHand} (lens : ℕ → Lens) (recover made : ℕ) where
  one_still : (w : Serves) (p : Post) (s : Stop InHand G) → IsServed lens recover made w p s → w.lead.lived.life.stand ≡ Lives.Stand.Open → w.lead.lived.life.era.account.hand ≡ None → w.lead.lived.life.era.passing ≡ None → (recall_of s).turn ≡ false
  one_still w p s i o hand unpassed =
      let a = w.lead.lived in
      let opened = open_lived lens recover a.spot s a.life s.stand refl i.lives.shown.stood o in
      let stood = subst (λ (k : Stand). StandShows (λ d b. side_shows lens recover s a.spot d b) a.spot k a.life) opened i.lives.shown.stood in
      let shown = (subst (λ z. StandPassing z (awaits_reply s.side.hand.course s.side.hand.which s.side.hand.clients) s.side.passing a.life) opened i.passing).is in
      let none = none_unseen s.side.passing (sym shown ∙ unpassed) in
      let duty = no_hand (in_hand s.side.duty) a.life.era.account.hand hand stood.1.state in
      λ j. (is_some (duty j) || is_some (none j)) && s.side.turn

  pub all_still : (ws : List Serves) (ps : List Post) (ss : List (Stop InHand G)) → AllThree (λ w p s. IsServed lens recover made w p s) ws ps ss → AllServedStill (map (λ s. recall_of s) ss) (map run_lead ws)
  all_still [] [] [] x = tt
  all_still [] [] (s ∷ ss) x = absurd x
  all_still [] (p ∷ ps) ss x = absurd x
  all_still (w ∷ ws) [] ss x = absurd x
  all_still (w ∷ ws) (p ∷ ps) [] x = absurd x
  all_still (w ∷ ws) (p ∷ ps) (s ∷ ss) x = (λ o hand none. one_still w p s x.0 o hand none, all_still ws ps ss x.1)

-- ---- where no mail waits
pub if_with : {S : Type 0} (P Q : S → Type 0) (o : Option S) → ((s : S) → Q s) → IfSome o P → IfSome o (λ s. P s × Q s)
if_with P Q None h p = tt
if_with P Q (Some s) h p = (p, h s)

pub if_less : {S : Type 0} (P Q : S → Type 0) (o : Option S) → ((s : S) → P s → Q s) → IfSome o P → IfSome o Q
if_less P Q None h p = tt
if_less P Q (Some s) h p = h s p

none_here : (p : Post) → WaitsNone p → waits_of p ≡ []
none_here p e = ap (λ z. map keyed z) e

pub quiet_in : (ps : List Post) → All WaitsNone ps → (k : ℕ) → waits_in (map waits_of ps) k ≡ []
quiet_in [] q k = refl
quiet_in (p ∷ ps) q zero = none_here p (All-head WaitsNone p ps q)
quiet_in (p ∷ ps) q (suc k) = quiet_in ps (All-tail WaitsNone p ps q) k

both_some : {S : Type 0} (P Q : S → Type 0) (o : Option S) → IfSome o P → IfSome o Q → IfSome o (λ s. P s × Q s)
both_some P Q None p q = tt
both_some P Q (Some s) p q = (p, q)

-- where no mail waits at any post behind another mail that was asked, none did before
pub none_before : (i : ℕ) (ps qs : List Post) → StepsAt (λ p q. q.mails.items ≡ [] → p.mails.items ≡ []) i ps qs → (k : ℕ) → waits_in (map waits_of qs) k ≡ [] → waits_in (map waits_of ps) k ≡ []
none_before zero [] qs h k e = absurd h
none_before (suc i) [] qs h k e = absurd h
none_before zero (p ∷ ps) [] h k e = absurd h
none_before (suc i) (p ∷ ps) [] h k e = absurd h
none_before zero (p ∷ ps) (q ∷ qs) h zero e = none_here p (h.0 (none_waits q e))
none_before zero (p ∷ ps) (q ∷ qs) h (suc k) e = ap (λ (z : List Post). waits_in (map waits_of z) k) (sym h.1) ∙ e
none_before (suc i) (p ∷ ps) (q ∷ qs) h zero e = ap waits_of (sym h.0) ∙ e
none_before (suc i) (p ∷ ps) (q ∷ qs) h (suc k) e = none_before i ps qs h.1 k e

module _ {G : Ghosts InHand} (lens : ℕ → Lens) (recover made : ℕ) (l : Lan) where
  serve_none : (place : ℕ) (w : Serves) (p : Post) (s : Stop InHand G) → IsServed lens recover made w p s → ServedResting lens l place (recall_of s) w → s.stand ≡ Stand.Open → waits_of p ≡ []
  serve_none place w p s i (inl gone) o =
      let stood = subst (λ (k : Stand). StandShows (λ d b. side_shows lens recover s w.lead.lived.spot d b) w.lead.lived.spot k w.lead.lived.life) o i.lives.shown.stood in
      absurd (let t = sym stood.0 ∙ gone in cc)
  serve_none place w p s i (inr r) o = i.waits ∙ r.2

  serves_none : (place : ℕ) (ws : List Serves) (ps : List Post) (ss : List (Stop InHand G)) → AllThree (λ w p s. IsServed lens recover made w p s) ws ps ss → AllServedRest lens l place (map (λ s. recall_of s) ss) ws → (k : ℕ) →
      IfSome (slice_get ss k) (λ s. s.stand ≡ Stand.Open → waits_in (map waits_of ps) k ≡ [])
  serves_none place [] [] [] x r k = tt
  serves_none place [] [] (s ∷ ss) x r k = absurd x
  serves_none place [] (p ∷ ps) ss x r k = absurd x
  serves_none place (w ∷ ws) [] ss x r k = absurd x
  serves_none place (w ∷ ws) (p ∷ ps) [] x r k = absurd x
  serves_none place (w ∷ ws) (p ∷ ps) (s ∷ ss) x r zero = λ o. serve_none place w p s x.0 r.0 o
  serves_none place (w ∷ ws) (p ∷ ps) (s ∷ ss) x r (suc k) = serves_none (suc place) ws ps ss x.1 r.1 k

  -- a serving of which all slaves rest is idle, once all packets of the host have come in
  pub serves_idle : (ws : List Serves) (ps : List Post) (ss : List (Stop InHand G)) → AllThree (λ w p s. IsServed lens recover made w p s) ws ps ss → AllServedRest lens l 0 (map (λ s. recall_of s) ss) ws → (k : ℕ) →
      IfSome (slice_get ss k) (λ s. StopRests l k s × (s.stand ≡ Stand.Open → waits_in (map waits_of ps) k ≡ []))
  serves_idle ws ps ss x r k = both_some _ _ (slice_get ss k) (serves_rest lens recover l made ws ps ss x r k) (serves_none 0 ws ps ss x r k)
