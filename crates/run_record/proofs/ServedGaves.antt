-- HOW OFTEN EACH SLAVE OF A SERVING WAS GIVEN UP, as its lives have it and as it is noted; so some slave is live where not all is at rest.
use Rattle.std.proofs.Common.{◌≡◌, ◌⊎◌, ℕ, Bool, true, false, List, [], ◌∷◌, map, length, refl, sym, ap, ◌∙◌, subst}
use Rattle.served_places.specs.of_datagrams.Datagram as Raw
use Rattle.packets_heard.specs.of_master_node.Serving.{IsServed, ServedShows, run_lead}
use Rattle.packets_heard.specs.of_master_node.Shows.{IsLived, lived_of}
use Rattle.packets_heard.specs.of_master_node.Told.{HasLives}
use Rattle.packets_heard.specs.of_master_node.Wants.{AllCounted, IsCounted, gave_of}
use Rattle.packets_heard.specs.of_master_node.declared.node.MasterNode.{MasterNode}
use Rattle.packets_heard.specs.of_master_node.declared.post.Post.{Post}
use Rattle.plan_ring.specs.of_frame_view.Seen.{seen}
use Rattle.plan_ring.specs.of_frame_view.View.{Lens}
use Rattle.plan_ring.specs.of_frame_view.Shares.{AllBoth, AllThree, came_at}
use Rattle.served_places.specs.of_life_model.Lives.{Life, Stand, life_lost}
use Rattle.served_places.specs.of_life_runs.First.{first_leads, lens_of}
use Rattle.served_places.specs.of_life_runs.Led.{Exchanged, IsLed, Leads, gives_up_at, speech_at}
use Rattle.served_places.specs.of_master_duty.Reply.{Reply}
use Rattle.served_places.specs.of_master_hand.Spoken.{Asked, acknowledged, is_followed, is_passed}
use Rattle.served_places.specs.of_master_hand.declared.hand.InHand.{InHand}
use Rattle.served_places.specs.of_master_side.Passing.{news_back, news_lost}
use Rattle.served_places.specs.of_master_side.declared.hand.Hand.{Ghosts}
use Rattle.served_places.specs.of_master_tour.declared.stop.Stop.{Stop}
use Rattle.packets_heard.proofs.of_master_node.Counts.{Counted, back_counted, counted, given_by, lost_gave, lost_stand, next_stand}
use Rattle.packets_heard.proofs.of_master_node.Servings.{leads_same}
use Rattle.run_notes.specs.Slaves.{gaves_noted}
use Rattle.run_record.specs.Served.{ServeTo, ServedLeading}
use Rattle.run_record.specs.Session.{SessionState, are_at_rest, has_live, session_rows}
use Rattle.run_record.proofs.Ends.{some_lived}
use Rattle.run_record.proofs.Noted.{GivesOne, lost_gives, next_gives, pass_gives}
use Rattle.packets_heard.specs.of_segment_plan.declared.plan.Scenario.{Scenario}
use Rattle.served_places.specs.of_segment_ring.declared.wire.Fate.{Fate}
use Rattle.served_places.specs.of_segment_ring.declared.wire.Fate.TheVariants as Fates
use Rattle.served_places.specs.of_life_runs.Served.{Serves, ServedTurn, AllServedTurn, IsServedLed, IsServedTurn, all_serve, served_behind, served_life}
use Rattle.served_places.specs.of_link_mails.Body.{Body}

-- ---- what is known of each life at its stop

served_lives : {G : Ghosts InHand} (lens : ℕ → Lens) (recover made : ℕ) (ws : List Serves) (ps : List Post) (ss : List (Stop InHand G)) → AllThree (λ w p s. IsServed lens recover made w p s) ws ps ss → AllBoth (λ a s. IsLived lens recover a s) (map lived_of (map run_lead ws)) ss
served_lives lens recover made [] [] [] h = tt
served_lives lens recover made [] [] (s ∷ ss) h = absurd h
served_lives lens recover made [] (p ∷ ps) [] h = absurd h
served_lives lens recover made [] (p ∷ ps) (s ∷ ss) h = absurd h
served_lives lens recover made (w ∷ ws) [] [] h = absurd h
served_lives lens recover made (w ∷ ws) [] (s ∷ ss) h = absurd h
served_lives lens recover made (w ∷ ws) (p ∷ ps) [] h = absurd h
served_lives lens recover made (w ∷ ws) (p ∷ ps) (s ∷ ss) h = (h.0.lives, served_lives lens recover made ws ps ss h.1)

pub has_lives : (lens : ℕ → Lens) (recover retry missed made : ℕ) (m : MasterNode) (ws : List Serves) → ServedShows lens recover retry m missed made ws → HasLives lens recover m (map lived_of (map run_lead ws))
has_lives lens recover retry missed made m ws h = served_lives lens recover made ws m.posts.items m.tour.stops.items h.each

-- ---- how often each was given up

module _ (lens : ℕ → Lens) (recover retry made : ℕ) (ds : List Raw.Datagram) (w : Serves) (v : ServedTurn) (t : IsServedTurn lens made ds w v) where
  turn_gave : v.turn.lived.life.gave ≡ gave_of w.lead
  turn_gave = next_gives lens made w.lead.lived v.turn.lived t.next

  turn_counted : Counted recover w.lead.lived.life → Counted recover v.turn.lived.life
  turn_counted h =
      let stand : v.turn.lived.life.stand ≡ w.lead.lived.life.stand =
      ap (λ (l : Life Body Asked Reply). l.stand) t.next.life ∙ next_stand (speech_at lens w.lead.lived.spot) acknowledged is_followed is_passed made w.lead.lived.life t.next.pick w.lead.lived.life.stand in
      subst (λ (st : Stand). IsCounted recover st (length v.turn.lived.life.gave)) (sym stand) (subst (λ (n : List ℕ). IsCounted recover w.lead.lived.life.stand (length n)) (sym turn_gave) h)

  module _ (gives : Bool) (f : Exchanged) where
    -- a life stays counted over a frame
    pub one_counted : Counted recover w.lead.lived.life → (fate : Fate) → Counted recover (served_life lens recover retry gives made f fate v).life
    one_counted h Fates.Pass =
        let n = news_back v.turn.lived.spot.station v.kept v.counts (seen lens f.back) in
        back_counted (speech_at lens v.turn.lived.spot) acknowledged is_followed is_passed recover v.turn.lived.spot v.turn.lived.life made n (seen lens f.back) (came_at v.turn.share.under v.turn.share.at (seen lens f.back)) v.turn.lived.life.stand refl (turn_counted h)
    one_counted h (Fates.Lost after) =
        let n = news_lost v.turn.lived.spot.station v.kept (seen lens f.sent) in
        let m = life_lost (speech_at lens v.turn.lived.spot) acknowledged is_followed is_passed v.turn.lived.spot n (seen lens f.sent) v.turn.lived.life v.turn.lived.life.stand in
        given_by lens recover retry gives made f v.turn.lived v.turn.share ds m t.asked.has (turn_counted h)
        (lost_stand (speech_at lens v.turn.lived.spot) acknowledged is_followed is_passed recover v.turn.lived.spot v.turn.lived.life n (seen lens f.sent) v.turn.lived.life.stand)
        (lost_gave (speech_at lens v.turn.lived.spot) acknowledged is_followed is_passed recover v.turn.lived.spot v.turn.lived.life n (seen lens f.sent) v.turn.lived.life.stand) gives v.turn.share.under refl

    -- and is given up at most once
    pub one_gives : (fate : Fate) → GivesOne fate made (gave_of w.lead) (served_life lens recover retry gives made f fate v).life.gave
    one_gives Fates.Pass = pass_gives lens recover gives made f v.turn.lived v.turn.share (news_back v.turn.lived.spot.station v.kept v.counts (seen lens f.back)) (gave_of w.lead) turn_gave
    one_gives (Fates.Lost after) = lost_gives lens recover gives made f v.turn.lived v.turn.share (news_lost v.turn.lived.spot.station v.kept (seen lens f.sent)) (gave_of w.lead) turn_gave

module _ (lens : ℕ → Lens) (recover retry : ℕ) (gives : Bool) (made : ℕ) (f : Exchanged) (ds : List Raw.Datagram) where
  abbrev pub Behind : List ServedTurn → List Leads
  Behind vs = map run_lead (map (served_behind lens recover retry gives made f) vs)

  all_counted : (ws : List Serves) (vs : List ServedTurn) → AllServedTurn lens made ds ws vs → AllCounted recover (map run_lead ws) → AllCounted recover (Behind vs)
  all_counted [] [] t h = tt
  all_counted [] (v ∷ vs) t h = absurd t
  all_counted (w ∷ ws) [] t h = absurd t
  all_counted (w ∷ ws) (v ∷ vs) t h = (one_counted lens recover retry made ds w v t.0 gives f h.0 f.fate, all_counted ws vs t.1 h.1)

  pub all_give : (ws : List Serves) (vs : List ServedTurn) → AllServedTurn lens made ds ws vs → AllBoth (λ o n. GivesOne f.fate made o n) (map gave_of (map run_lead ws)) (map gave_of (Behind vs))
  all_give [] [] t = tt
  all_give [] (v ∷ vs) t = absurd t
  all_give (w ∷ ws) [] t = absurd t
  all_give (w ∷ ws) (v ∷ vs) t = (one_gives lens recover retry made ds w v t.0 gives f f.fate, all_give ws vs t.1)

pub serve_leads : (paces : List ℕ) (as' : List Leads) → map run_lead (all_serve paces as') ≡ as'
serve_leads paces [] = refl
serve_leads [] (a ∷ as') = ap (λ z. a ∷ z) (serve_leads [] as')
serve_leads (pace ∷ paces) (a ∷ as') = ap (λ z. a ∷ z) (serve_leads paces as')

-- OVER ALL FRAMES
pub served_counted : (plan : Scenario) (fs : List Exchanged) (missed : ℕ) (ws : List Serves) → ServeTo plan fs missed ws → AllCounted plan.recover (map run_lead ws)
served_counted plan _ _ _ IsServedLed.start =
    subst (λ z. AllCounted plan.recover z) (sym (serve_leads plan.paces (first_leads plan))) (counted (lens_of plan.slaves) plan plan.retry [] 0 (first_leads plan) IsLed.start)
served_counted plan _ _ _ (IsServedLed.asks fs missed ws place k led may) = subst (λ z. AllCounted plan.recover z) (sym (leads_same (λ a. a) place k ws)) (served_counted plan fs missed ws led)
served_counted plan _ _ _ (IsServedLed.on fs missed ws f vs led frame) =
    all_counted (lens_of plan.slaves) plan.recover plan.retry (gives_up_at (lens_of plan.slaves) plan.recover plan.retry missed) (length fs) f frame.datagrams ws vs frame.each (served_counted plan fs missed ws led)

-- ---- some slave is live where not all is at rest

pub serving_live : (plan : Scenario) (s : SessionState) (fs : List Exchanged) (l : ServedLeading plan s.master fs) → s.recover ≡ plan.recover → gaves_noted s.notes ≡ map gave_of (map run_lead l.serves) → (are_at_rest (session_rows s) ≡ false) ⊎ (has_live s.master ≡ true) → has_live s.master ≡ true
serving_live plan s fs l recover gave busy =
    let lens = lens_of plan.slaves in
    some_lived lens plan.recover s.recover s.master (map run_lead l.serves) s.ring.nodes s.notes (has_lives lens plan.recover plan.retry l.missed (length fs) s.master l.serves l.shows)
    (subst (λ (n : ℕ). AllCounted n (map run_lead l.serves)) (sym recover) (served_counted plan fs l.missed l.serves l.lives)) gave busy
