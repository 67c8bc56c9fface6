-- A serving of one tour is one whose frames are counted: frame by frame, and mail by mail.
use Rattle.std.proofs.Common.{◌≡◌, ◌⊎◌, ℕ, zero, suc, ◌+◌, ◌<◌, ◌≤◌, ◌&&◌, Bool, true, false, Option, Some, None, List, [], ◌∷◌, ◌++◌, length, map, refl, sym, ap, ◌∙◌, subst, arith, if◌then◌else◌, inl, inr, length-append}
use Rattle.std.specs.Prelude.{⊤, nat_lt, not}
use Rattle.std.proofs.lemmas.Bool.{ltb-true, ltb-false, cases_order, cases_lt}
use Rattle.seen_slaves.specs.of_frame_view.Seen.{seen}
use Rattle.seen_slaves.specs.of_frame_view.View.{Lens}
use Rattle.run_promises.specs.of_life_runs.Led.{Exchanged, Leads, gives_up_at, missed_behind}
use Rattle.run_promises.specs.of_link_mails.Body.{Body}
use Rattle.seen_slaves.specs.of_master_duty.Reply.{Reply}
use Rattle.seen_slaves.specs.of_master_hand.Spoken.{Asked}
use Rattle.run_promises.specs.of_master_node.Rooms.{area_at}
use Rattle.run_promises.specs.of_master_node.Serving.{run_lead, run_turn}
use Rattle.run_promises.specs.of_master_node.Shows.{is_live_lead, is_opening_lead}
use Rattle.run_promises.specs.of_master_node.Toured.{turn_share}
use Rattle.run_promises.specs.of_master_tour.Goes.{holds_at, opened_behind}
use Rattle.run_promises.specs.of_master_tour.Orders as Orders
use Rattle.run_promises.specs.of_master_tour.Sizes.{frame_size}
use Rattle.run_promises.specs.of_master_tour.Toured.{Carries, Tour, IsOfTour, goes_on}
use Rattle.run_promises.specs.of_packets_heard.Served as Visits
use Rattle.run_promises.specs.of_packets_heard.Toured.{tour_behind}
use Rattle.seen_slaves.specs.of_run_frames.Answers.{AllAsk}
use Rattle.seen_slaves.specs.of_run_frames.Goes.{Under}
use Rattle.seen_slaves.specs.of_run_frames.Led.{AreLed}
use Rattle.seen_slaves.specs.of_run_frames.Orders.{is_in, opened_on, last_of, under_at}
use Rattle.seen_slaves.specs.of_run_frames.Runs.{Progress, nothing_sent}
use Rattle.seen_slaves.specs.of_run_frames.Tours.{IsVisited, PlacesOf, again_behind, last_lost}
use Rattle.seen_slaves.specs.of_run_frames.Waits.{all_anew}
use Rattle.seen_slaves.proofs.of_run_frames.Leading.{SeenIs}
use Rattle.run_promises.specs.of_segment_ring.declared.wire.Fate.{Fate}
use Rattle.run_promises.specs.of_segment_ring.declared.wire.Fate.TheVariants.{Pass, Lost}
use Rattle.seen_slaves.specs.of_served_places.Answered.{ServedAsks}
use Rattle.seen_slaves.specs.of_served_places.Toured.{IsServedToured, back_under, first_served, lost_under, served_back, served_lost, serves_on, still_served, waits_served}
use Rattle.seen_slaves.proofs.of_served_places.Slaves.{all_led_back, all_led_lost}
use Rattle.run_promises.specs.of_life_runs.Served.{Keyed, Serves, ServedTurn, AllServedTurn, IsServedFrame, MayAsk, asked_at}
use Rattle.promised_run.proofs.Asks.{asks_same}
use Rattle.promised_run.proofs.Ahead.{alone, not_in}
use Rattle.promised_run.proofs.Places.{Slave, lives_same, long_same, opened_same, places_are, comes_again, shares_are, under_same, last_round, last_first, opened_kept, last_kept}
use Rattle.promised_run.proofs.TouredAhead.{kept_stays, out_stays}

at_or_beyond : (n k : ℕ) → n ≤ k → (n ≡ k) ⊎ (suc n ≤ k)
at_or_beyond n k l = elim (cases_order n k) [
  | inl same ↦ inl same
  | inr (inl less) ↦ inr (omega (arith, less))
  | inr (inr more) ↦ absurd (omega (arith, more, l))
]

-- a mail that is asked changes nothing of the slaves as a run has them
pub leads_asked : (place : ℕ) (k : Keyed) (ws : List Serves) → map run_lead (asked_at place k ws) ≡ map run_lead ws
leads_asked place k [] = refl
leads_asked zero k (w ∷ ws) = refl
leads_asked (suc place) k (w ∷ ws) = ap (λ l. w.lead ∷ l) (leads_asked place k ws)

-- the frame's slaves, as they are counted
under_by : (g : ServedTurn → Under Body Asked Reply) → ((v : ServedTurn) → (g v).under ≡ v.turn.share.under) → (vs : List ServedTurn) (k : ℕ) → under_at (map g vs) k ≡ holds_at (λ u. u.share.under) (map run_turn vs) k
under_by g h [] k = refl
under_by g h (v ∷ vs) zero = h v
under_by g h (v ∷ vs) (suc k) = under_by g h vs k

shares_by : (g : ServedTurn → Under Body Asked Reply) → ((v : ServedTurn) → (g v).under ≡ v.turn.share.under) → (vs : List ServedTurn) (ps : List ℕ) → Carries (λ u. turn_share u) (map run_turn vs) ps → (k : ℕ) → under_at (map g vs) k ≡ is_in k ps
shares_by g h vs ps c k = under_by g h vs k ∙ sym (under_same [] (map run_turn vs) k) ∙ shares_are [] (map run_turn vs) ps c k

module _ (lens : ℕ → Lens) (recover retry slowest : ℕ) (first : List Serves) where
  abbrev pub Run : List Exchanged → Option (List ℕ) → ℕ → List Serves → Progress → List Slave → Type 0
  Run fs again missed ws p cs = IsServedToured lens recover retry slowest first fs again missed ws p cs

  -- what else is known of a serving as it is counted, where each frame and each mail that is asked takes it from one state to the next
  abbrev pub Kept : Type 0 → Type 1
  Kept S = (fs : List Exchanged) (again : Option (List ℕ)) (missed : ℕ) (ws : List Serves) (p : Progress) (cs : List Slave) → IsServedToured lens recover retry slowest first fs again missed ws p cs → S → Type 0

  -- what is known of a frame, and of a mail
  abbrev pub Step : Type 0 → Type 1
  Step S = List Exchanged → List Serves → Exchanged → List ServedTurn → S → S → Type 0

  abbrev pub Ask : Type 0 → Type 1
  Ask S = List Exchanged → List Serves → ℕ → Keyed → S → S → Type 0

  -- it stays known, frame by frame and mail by mail
  pub record Stays (S : Type 0) (keeps : Kept S) (step : Step S) (ask : Ask S) : Type 0 where
    pub asks : (fs : List Exchanged) (again : Option (List ℕ)) (missed : ℕ) (ws : List Serves) (p : Progress) (cs : List Slave) (place : ℕ) (k : Keyed) → (run : IsServedToured lens recover retry slowest first fs again missed ws p cs) → (may : MayAsk lens place k ws) → p.frames ≡ length fs → AreLed (map run_lead ws) cs →
        (r s : S) → ask fs ws place k r s → keeps fs again missed ws p cs run r → keeps _ _ _ _ _ _ (IsServedToured.asks fs again missed ws p cs place k run may) s
    pub lost : (fs : List Exchanged) (again : Option (List ℕ)) (missed : ℕ) (ws : List Serves) (p : Progress) (cs : List Slave) (f : Exchanged) (vs : List ServedTurn) (after : ℕ) (ps : List ℕ) → (run : IsServedToured lens recover retry slowest first fs again missed ws p cs) →
        (l : IsServedFrame lens (length fs) f.sent ws vs) → (fate : f.fate ≡ Lost after) → (visit : IsVisited again (length cs) p.opened p.last cs (map (lost_under (seen lens f.sent)) vs) ps) → p.frames ≡ length fs → AreLed (map run_lead ws) cs →
        (r s : S) → step fs ws f vs r s → keeps fs again missed ws p cs run r → keeps _ _ _ _ _ _ (IsServedToured.lost fs again missed ws p cs f vs after ps run l fate visit) s
    pub opening : (fs : List Exchanged) (again : Option (List ℕ)) (missed : ℕ) (ws : List Serves) (p : Progress) (cs : List Slave) (f : Exchanged) (vs : List ServedTurn) (ps : List ℕ) → (run : IsServedToured lens recover retry slowest first fs again missed ws p cs) →
        (l : IsServedFrame lens (length fs) f.sent ws vs) → (fate : f.fate ≡ Pass) → (under : p.opened < length cs) → (visit : IsVisited again (length cs) p.opened p.last cs (map (back_under (seen lens f.back)) vs) ps) → p.frames ≡ length fs → AreLed (map run_lead ws) cs →
        (r s : S) → step fs ws f vs r s → keeps fs again missed ws p cs run r → keeps _ _ _ _ _ _ (IsServedToured.opening fs again missed ws p cs f vs ps run l fate under visit) s
    pub round : (fs : List Exchanged) (again : Option (List ℕ)) (missed : ℕ) (ws : List Serves) (p : Progress) (cs : List Slave) (f : Exchanged) (vs : List ServedTurn) (ps : List ℕ) → (run : IsServedToured lens recover retry slowest first fs again missed ws p cs) →
        (l : IsServedFrame lens (length fs) f.sent ws vs) → (fate : f.fate ≡ Pass) → (over : length cs ≤ p.opened) → (visit : IsVisited again (length cs) p.opened p.last cs (map (back_under (seen lens f.back)) vs) ps) → p.frames ≡ length fs → AreLed (map run_lead ws) cs →
        (r s : S) → step fs ws f vs r s → keeps fs again missed ws p cs run r → keeps _ _ _ _ _ _ (IsServedToured.round fs again missed ws p cs f vs ps run l fate over visit) s

  -- so it is of each frame and each mail of a tour, from a state that it may begin with
  abbrev pub FramesIn : {S : Type 0} → (S → Type 0) → Step S → Ask S → {fs : List Exchanged} {t : Tour} {ws : List Serves} → Visits.IsTourServed lens recover retry first fs t ws → S → Type 0
  FramesIn begin step ask Visits.IsTourServed.start s = begin s
  FramesIn {S} begin step ask (Visits.IsTourServed.asks fs t ws place k before may) s = (r : S) × ask fs ws place k r s × FramesIn begin step ask before r
  FramesIn {S} begin step ask (Visits.IsTourServed.on fs t ws f vs visit before led of) s = (r : S) × step fs ws f vs r s × FramesIn begin step ask before r

  -- with nothing more to know
  abbrev pub knows_none : Kept ⊤
  knows_none fs again missed ws p cs run s = ⊤

  abbrev pub steps_none : Step ⊤
  steps_none fs ws f vs r s = ⊤

  abbrev pub asks_none : Ask ⊤
  asks_none fs ws place k r s = ⊤

  pub stays_none : Stays ⊤ knows_none steps_none asks_none
  stays_none = record {
    asks = λ fs again missed ws p cs place k run may frames led r s one kept. tt;
    lost = λ fs again missed ws p cs f vs after ps run l fate visit frames led r s one kept. tt;
    opening = λ fs again missed ws p cs f vs ps run l fate under visit frames led r s one kept. tt;
    round = λ fs again missed ws p cs f vs ps run l fate over visit frames led r s one kept. tt;
  }

  pub frames_none : (fs : List Exchanged) (t : Tour) (ws : List Serves) (toured : Visits.IsTourServed lens recover retry first fs t ws) → FramesIn (λ (s : ⊤). ⊤) steps_none asks_none toured tt
  frames_none fs t ws Visits.IsTourServed.start = tt
  frames_none gs u us (Visits.IsTourServed.asks fs t ws place k before may) = (tt, tt, frames_none fs t ws before)
  frames_none gs u us (Visits.IsTourServed.on fs t ws f vs visit before l o) = (tt, tt, frames_none fs t ws before)

  module _ {S : Type 0} (keeps : Kept S) (step : Step S) (ask : Ask S) (stays : Stays S keeps step ask) where
    -- a serving of one tour each frame of which asks by the inward half first
    abbrev pub AskedTour : List Exchanged → Option (List ℕ) → ℕ → List Serves → Progress → List Slave → S → Type 0
    AskedTour fs again missed ws p cs s = (r : IsServedToured lens recover retry slowest first fs again missed ws p cs) × ServedAsks r × keeps fs again missed ws p cs r s

    -- the tour as it is counted, and where it stands: in the first bring-up nobody was carried last, those ahead are brought up yet, and it is the
    -- first of them that comes again
    pub record Bridge (fs : List Exchanged) (t : Tour) (ws : List Serves) (s : S) : Type 0 where
      pub progress : Progress
      pub slaves : List Slave
      pub asked : AskedTour fs t.again t.missed ws progress slaves s
      pub opened : progress.opened ≡ t.opened
      pub last : progress.last ≡ t.last
      pub frames : progress.frames ≡ length fs
      pub led : AreLed (map run_lead ws) slaves
      pub early : t.opened < length (map run_lead ws) → t.last ≡ None
      pub ahead : (k : ℕ) → t.opened ≤ k → k < length (map run_lead ws) → holds_at is_opening_lead (map run_lead ws) k ≡ true
      pub comes : (same : List ℕ) → t.again ≡ Some same → t.opened < length (map run_lead ws) → same ≡ t.opened ∷ []

    more : (fs : List Exchanged) (f : Exchanged) (n : ℕ) → n ≡ length fs → suc n ≡ length (fs ++ f ∷ [])
    more fs f n e = ap suc e ∙ sym (length-append fs (f ∷ []) ∙ (let sum : length fs + 1 ≡ suc (length fs) = omega arith in sum))

    as_many : (made : ℕ) (ds : _) (ws : List Serves) (vs : List ServedTurn) → AllServedTurn lens made ds ws vs → length (map run_turn vs) ≡ length (map run_lead ws)
    as_many made ds [] [] t = refl
    as_many made ds [] (v ∷ vs) t = absurd t
    as_many made ds (w ∷ ws) [] t = absurd t
    as_many made ds (w ∷ ws) (v ∷ vs) t = ap suc (as_many made ds ws vs t.1)

    mapped : {S T : Type 0} (g : S → T) (ss : List S) → length (map g ss) ≡ length ss
    mapped g [] = refl
    mapped g (s ∷ ss) = ap suc (mapped g ss)

    module _ (seen_is : SeenIs) (fs : List Exchanged) (t : Tour) (ws : List Serves) (f : Exchanged) (vs : List ServedTurn) (visit : List ℕ) (r s : S) (one : step fs ws f vs r s) (b : Bridge fs t ws r) (l : IsServedFrame lens (length fs) f.sent ws vs)
        (o : IsOfTour (λ u. turn_share u) (λ k. holds_at is_live_lead (map run_lead ws) k) (frame_size f.sent) (λ k. area_at lens (map run_lead ws) k) t (map run_turn vs) (length (seen lens f.sent)) visit) (asks : AllAsk (seen lens f.sent) (map run_turn vs)) where
      abbrev as' : List Leads
      as' = map run_lead ws

      abbrev p : Progress
      p = b.progress

      abbrev cs : List Slave
      cs = b.slaves

      abbrev ps : List ℕ
      ps = o.places

      abbrev behind : List Serves
      behind = serves_on lens recover retry slowest t.missed (length fs) f vs

      abbrev lives : List Leads
      lives = map run_lead (serves_on lens recover retry slowest t.missed (length fs) f vs)

      abbrev gives : Bool
      gives = gives_up_at lens recover retry t.missed

      long : length (map run_turn vs) ≡ length cs
      long = as_many (length fs) l.datagrams ws vs l.each ∙ long_same as' cs b.led

      long_lives : length lives ≡ length cs
      long_lives = mapped run_lead behind ∙ mapped _ vs ∙ sym (mapped run_turn vs) ∙ long

      long_before : length as' ≡ length cs
      long_before = long_same as' cs b.led

      -- the places are those of a visit
      places : PlacesOf t.again (length cs) t.opened t.last cs ps
      places = subst (λ n. PlacesOf t.again n t.opened t.last cs ps) long
          (places_are t.again (λ k. holds_at is_live_lead as' k) (frame_size f.sent) (λ k. area_at lens as' k) (length (map run_turn vs)) t.opened t.last cs ps (lives_same as' cs b.led) o.first o.leaves)

      under_of : (g : ServedTurn → Under Body Asked Reply) → ((v : ServedTurn) → (g v).under ≡ v.turn.share.under) → IsVisited t.again (length cs) p.opened p.last cs (map g vs) ps
      under_of g h = record {
        places = subst (λ z. PlacesOf t.again (length cs) p.opened z cs ps) (sym b.last) (subst (λ n. PlacesOf t.again (length cs) n t.last cs ps) (sym b.opened) places);
        under = λ k less. shares_by g h vs ps o.carries k;
      }

      visited_back : IsVisited t.again (length cs) p.opened p.last cs (map (back_under (seen lens f.back)) vs) ps
      visited_back = under_of (back_under (seen lens f.back)) (λ v. refl)

      visited_lost : IsVisited t.again (length cs) p.opened p.last cs (map (lost_under (seen lens f.sent)) vs) ps
      visited_lost = under_of (lost_under (seen lens f.sent)) (λ v. refl)

      same_visit : visit ≡ ps
      same_visit = o.comes ∙ comes_again t.again (length cs) t.opened t.last cs ps places

      -- in the first bring-up
      just_one : t.opened < length cs → ps ≡ t.opened ∷ []
      just_one less = alone t.again (length cs) t.opened t.last cs ps places (λ same e. b.comes same e (omega (arith, less, long_before))) less

      not_under : t.opened < length cs → (k : ℕ) → suc t.opened ≤ k → holds_at (λ u. u.share.under) (map run_turn vs) k ≡ false
      not_under less k beyond = sym (under_same [] (map run_turn vs) k) ∙ shares_are [] (map run_turn vs) ps o.carries k ∙ not_in k t.opened ps (just_one less) beyond

      stays_beyond : t.opened < length cs → (k : ℕ) → suc t.opened ≤ k → k < length cs → holds_at is_opening_lead lives k ≡ true
      stays_beyond less k beyond within = out_stays lens recover retry (length fs) f gives l.datagrams ws vs l.each k (b.ahead k (omega (arith, beyond)) (omega (arith, within, long_before))) (not_under less k beyond)

      ahead_on : (k : ℕ) → opened_behind is_opening_lead t.opened lives ≤ k → k < length lives → holds_at is_opening_lead lives k ≡ true
      ahead_on k from within = go (nat_lt t.opened (length lives)) refl (holds_at is_opening_lead lives t.opened) refl from
        where
          go : (z : Bool) → nat_lt t.opened (length lives) ≡ z → (y : Bool) → holds_at is_opening_lead lives t.opened ≡ y → (if z && not y then t.opened + 1 else t.opened) ≤ k → holds_at is_opening_lead lives k ≡ true
          go false e y d from' = absurd (let beyond = ltb-false t.opened (length lives) e in omega (arith, beyond, from', within))
          go true e false d from' = stays_beyond (let less = ltb-true t.opened (length lives) e in omega (arith, less, long_lives)) k (omega (arith, from')) (omega (arith, within, long_lives))
          go true e true d from' = elim (at_or_beyond t.opened k from') [
            | inl here ↦ subst (λ n. holds_at is_opening_lead lives n ≡ true) here d
            | inr beyond ↦ stays_beyond (let less = ltb-true t.opened (length lives) e in omega (arith, less, long_lives)) k beyond (omega (arith, within, long_lives))
          ]

      opened_on_is : (bs : List Slave) → AreLed lives bs → opened_on p.opened bs ≡ opened_behind is_opening_lead t.opened lives
      opened_on_is bs led = ap (λ n. opened_on n bs) b.opened ∙ opened_same t.opened lives bs led

      -- ---- it came back
      led_back : f.fate ≡ Pass → AreLed lives (served_back lens recover retry slowest p.frames f vs cs)
      led_back fate = subst (λ n. AreLed lives (served_back lens recover retry slowest n f vs cs)) (sym b.frames) (all_led_back seen_is lens recover retry (length fs) f gives l.datagrams cs ws vs b.led l.each fate)

      abbrev on_past : Tour
      on_past = goes_on is_opening_lead lives t ps

      opened_more : t.opened ≤ opened_behind is_opening_lead t.opened lives
      opened_more = go (nat_lt t.opened (length lives) && not (holds_at is_opening_lead lives t.opened))
        where
          go : (z : Bool) → t.opened ≤ (if z then t.opened + 1 else t.opened)
          go true = omega arith
          go false = omega arith

      opened_over : length cs ≤ t.opened → opened_behind is_opening_lead t.opened lives ≡ t.opened
      opened_over over = go (nat_lt t.opened (length lives)) refl
        where
          go : (z : Bool) → nat_lt t.opened (length lives) ≡ z → (if z && not (holds_at is_opening_lead lives t.opened) then t.opened + 1 else t.opened) ≡ t.opened
          go true e = absurd (let less = ltb-true t.opened (length lives) e in omega (arith, less, over, long_lives))
          go false e = refl

      back_first : f.fate ≡ Pass → t.opened < length cs → Bridge (fs ++ f ∷ []) on_past behind s
      back_first fate less =
          let led = led_back fate in
          let last = last_first t.opened (length lives) t.last ps (omega (arith, less, long_lives)) o.first.some in record {
            progress = record { frames = suc p.frames; lost = p.lost; still = p.still; opened = opened_on p.opened (served_back lens recover retry slowest p.frames f vs cs); last = None; waits = all_anew cs };
            slaves = served_back lens recover retry slowest p.frames f vs cs;
            asked = subst
                (λ m. AskedTour (fs ++ f ∷ []) None m behind
                (record { frames = suc p.frames; lost = p.lost; still = p.still; opened = opened_on p.opened (served_back lens recover retry slowest p.frames f vs cs); last = None; waits = all_anew cs }) (served_back lens recover retry slowest p.frames f vs cs) s)
                (ap (λ z. missed_behind lens recover retry z t.missed) fate)
                (let under : p.opened < length cs = omega (arith, less, b.opened) in (IsServedToured.opening fs t.again t.missed ws p cs f vs ps b.asked.0 l fate under visited_back, (asks, b.asked.1), stays.opening fs t.again t.missed ws p cs f vs ps b.asked.0 l fate under visited_back b.frames b.led r s one b.asked.2));
            opened = opened_on_is (served_back lens recover retry slowest p.frames f vs cs) led;
            last = last;
            frames = more fs f p.frames b.frames;
            led = led;
            early = λ under. sym last;
            ahead = ahead_on;
            comes = λ same e. absurd (cc);
          }

      back_round : f.fate ≡ Pass → length cs ≤ t.opened → Bridge (fs ++ f ∷ []) on_past behind s
      back_round fate over =
          let led = led_back fate in record {
            progress = record { frames = suc p.frames; lost = p.lost; still = still_served lens recover retry slowest p f vs cs; opened = p.opened; last = last_of p.last ps; waits = waits_served lens recover retry slowest p f vs cs };
            slaves = served_back lens recover retry slowest p.frames f vs cs;
            asked = subst
                (λ m. AskedTour (fs ++ f ∷ []) None m behind
                (record { frames = suc p.frames; lost = p.lost; still = still_served lens recover retry slowest p f vs cs; opened = p.opened; last = last_of p.last ps; waits = waits_served lens recover retry slowest p f vs cs }) (served_back lens recover retry slowest p.frames f vs cs) s)
                (ap (λ z. missed_behind lens recover retry z t.missed) fate)
                (let past : length cs ≤ p.opened = omega (arith, over, b.opened) in (IsServedToured.round fs t.again t.missed ws p cs f vs ps b.asked.0 l fate past visited_back, (asks, b.asked.1), stays.round fs t.again t.missed ws p cs f vs ps b.asked.0 l fate past visited_back b.frames b.led r s one b.asked.2));
            opened = b.opened ∙ sym (opened_over over);
            last = ap (λ z. last_of z ps) b.last ∙ last_round t.opened (length lives) t.last ps (omega (arith, over, long_lives));
            frames = more fs f p.frames b.frames;
            led = led;
            early = λ under. absurd (omega (arith, under, over, opened_more, long_lives));
            ahead = ahead_on;
            comes = λ same e. absurd (cc);
          }

      -- ---- it was lost
      abbrev lost_slaves : List Slave
      lost_slaves = served_lost lens recover retry slowest gives p.frames f vs cs

      abbrev lost_progress : Progress
      lost_progress = record { frames = suc p.frames; lost = suc p.lost; still = 0; opened = opened_on p.opened lost_slaves; last = last_lost (nat_lt p.opened (length cs)) gives p.last ps; waits = all_anew cs }

      led_lost : (after : ℕ) → f.fate ≡ Lost after → AreLed lives lost_slaves
      led_lost after fate = subst (λ n. AreLed lives (served_lost lens recover retry slowest gives n f vs cs)) (sym b.frames) (all_led_lost seen_is lens recover retry (length fs) f gives after l.datagrams cs ws vs b.led l.each fate)

      lost_toured : (after : ℕ) → f.fate ≡ Lost after → AskedTour (fs ++ f ∷ []) (again_behind gives ps) (missed_behind lens recover retry (Lost after) t.missed) behind lost_progress lost_slaves s
      lost_toured after fate = subst
          (λ m. AskedTour (fs ++ f ∷ []) (again_behind gives ps) m behind lost_progress lost_slaves s)
          (ap (λ z. missed_behind lens recover retry z t.missed) fate)
          (IsServedToured.lost fs t.again t.missed ws p cs f vs after ps b.asked.0 l fate visited_lost, b.asked.1, stays.lost fs t.again t.missed ws p cs f vs after ps b.asked.0 l fate visited_lost b.frames b.led r s one b.asked.2)

      -- the slaves come again
      stays_ahead : (after : ℕ) → f.fate ≡ Lost after → gives ≡ false → (k : ℕ) → t.opened ≤ k → k < length lives → holds_at is_opening_lead lives k ≡ true
      stays_ahead after fate none k from within = kept_stays lens recover retry (length fs) f gives after l.datagrams ws vs l.each fate none k (b.ahead k from (omega (arith, within, long_lives, long_before)))

      opened_stays : (after : ℕ) → f.fate ≡ Lost after → gives ≡ false → opened_behind is_opening_lead t.opened lives ≡ t.opened
      opened_stays after fate none = opened_kept t.opened lives (λ within. stays_ahead after fate none t.opened (omega arith) within)

      abbrev on_again : Tour
      on_again = record t { again = Some ps; missed = t.missed + 1 }

      last_again : gives ≡ false → last_lost (nat_lt p.opened (length cs)) gives p.last ps ≡ t.last
      last_again none = ap (λ g. last_lost (nat_lt p.opened (length cs)) g p.last ps) none ∙ last_kept p.opened (length cs) p.last t.last ps (λ less. b.early (omega (arith, less, b.opened, long_before))) b.last

      lost_again : (after : ℕ) → f.fate ≡ Lost after → nat_lt t.missed retry ≡ true → Bridge (fs ++ f ∷ []) on_again behind s
      lost_again after fate few =
          let none : gives ≡ false = ap not few in
          let led = led_lost after fate in record {
            progress = lost_progress;
            slaves = lost_slaves;
            asked = subst (λ m. AskedTour (fs ++ f ∷ []) (Some ps) m behind lost_progress lost_slaves s) (ap (λ z. if z then t.missed + 1 else 0) few)
                (subst (λ g. AskedTour (fs ++ f ∷ []) (again_behind g ps) (missed_behind lens recover retry (Lost after) t.missed) behind lost_progress lost_slaves s) none (lost_toured after fate));
            opened = opened_on_is lost_slaves led ∙ opened_stays after fate none;
            last = last_again none;
            frames = more fs f p.frames b.frames;
            led = led;
            early = λ under. b.early (omega (arith, under, long_lives, long_before));
            ahead = stays_ahead after fate none;
            comes = λ same e under. (let is : ps ≡ same = cc in sym is ∙ just_one (omega (arith, under, long_lives)));
          }

      -- or are given up
      last_given : gives ≡ true → last_lost (nat_lt p.opened (length cs)) gives p.last ps ≡ Orders.last_behind t.opened (length lives) t.last ps
      last_given all = ap (λ g. last_lost (nat_lt p.opened (length cs)) g p.last ps) all ∙ go (nat_lt p.opened (length cs)) refl
        where
          go : (z : Bool) → nat_lt p.opened (length cs) ≡ z → last_lost z true p.last ps ≡ Orders.last_behind t.opened (length lives) t.last ps
          go true e = last_first t.opened (length lives) t.last ps (let less = ltb-true p.opened (length cs) e in omega (arith, less, b.opened, long_lives)) o.first.some
          go false e = ap (λ z. last_of z ps) b.last ∙ last_round t.opened (length lives) t.last ps (let over = ltb-false p.opened (length cs) e in omega (arith, over, b.opened, long_lives))

      lost_given : (after : ℕ) → f.fate ≡ Lost after → nat_lt t.missed retry ≡ false → Bridge (fs ++ f ∷ []) on_past behind s
      lost_given after fate many =
          let all : gives ≡ true = ap not many in
          let led = led_lost after fate in record {
            progress = lost_progress;
            slaves = lost_slaves;
            asked = subst (λ m. AskedTour (fs ++ f ∷ []) None m behind lost_progress lost_slaves s) (ap (λ z. if z then t.missed + 1 else 0) many)
                (subst (λ g. AskedTour (fs ++ f ∷ []) (again_behind g ps) (missed_behind lens recover retry (Lost after) t.missed) behind lost_progress lost_slaves s) all (lost_toured after fate));
            opened = opened_on_is lost_slaves led;
            last = last_given all;
            frames = more fs f p.frames b.frames;
            led = led;
            early = early_given;
            ahead = ahead_on;
            comes = λ same e. absurd (cc);
          }
        where
          early_given : opened_behind is_opening_lead t.opened lives < length lives → Orders.last_behind t.opened (length lives) t.last ps ≡ None
          early_given under = sym (last_first t.opened (length lives) t.last ps (omega (arith, under, opened_more)) o.first.some)

      -- ONE FRAME MORE
      pub one_more : Bridge (fs ++ f ∷ []) (tour_behind retry f.fate lives t visit) behind s
      one_more = subst (λ v. Bridge (fs ++ f ∷ []) (tour_behind retry f.fate lives t v) behind s) (sym same_visit) (by f.fate refl)
        where
          by : (z : Fate) → f.fate ≡ z → Bridge (fs ++ f ∷ []) (tour_behind retry z lives t ps) behind s
          by Pass e = elim (cases_lt t.opened (length cs)) [
            | inl less ↦ back_first e less
            | inr over ↦ back_round e over
          ]
          by (Lost after) e = go (nat_lt t.missed retry) refl
            where
              go : (z : Bool) → nat_lt t.missed retry ≡ z → Bridge (fs ++ f ∷ []) (if z then on_again else on_past) behind s
              go true few = lost_again after e few
              go false many = lost_given after e many

    -- ALL FRAMES, and the mails between them
    module _ (seen_is : SeenIs) (begins : AreLed (map run_lead first) (first_served first)) (news : (k : ℕ) → k < length (map run_lead first) → holds_at is_opening_lead (map run_lead first) k ≡ true) (begin : S → Type 0) (starts : (s : S) → begin s → keeps _ _ _ _ _ _ IsServedToured.start s) where
      pub bridged : (fs : List Exchanged) (t : Tour) (ws : List Serves) (s : S) (toured : Visits.IsTourServed lens recover retry first fs t ws) → FramesIn begin step ask toured s → Bridge fs t ws s
      bridged fs t ws s Visits.IsTourServed.start b = record {
        progress = nothing_sent None (first_served first);
        slaves = first_served first;
        asked = (IsServedToured.start, tt, starts s b);
        opened = refl;
        last = refl;
        frames = refl;
        led = begins;
        early = λ under. refl;
        ahead = λ k from within. news k within;
        comes = λ same e. absurd (cc);
      }
      bridged gs u us s (Visits.IsTourServed.asks fs t ws place k before may) b =
          let h = bridged fs t ws b.0 before b.2 in
          let same = sym (leads_asked place k ws) in
          record {
            progress = h.progress;
            slaves = h.slaves;
            asked = (IsServedToured.asks fs t.again t.missed ws h.progress h.slaves place k h.asked.0 may, h.asked.1, stays.asks fs t.again t.missed ws h.progress h.slaves place k h.asked.0 may h.frames h.led b.0 s b.1 h.asked.2);
            opened = h.opened;
            last = h.last;
            frames = h.frames;
            led = subst (λ z. AreLed z h.slaves) same h.led;
            early = subst (λ (z : List Leads). t.opened < length z → t.last ≡ None) same h.early;
            ahead = subst (λ (z : List Leads). (j : ℕ) → t.opened ≤ j → j < length z → holds_at is_opening_lead z j ≡ true) same h.ahead;
            comes = subst (λ (z : List Leads). (again : List ℕ) → t.again ≡ Some again → t.opened < length z → again ≡ t.opened ∷ []) same h.comes;
          }
      bridged gs u us s (Visits.IsTourServed.on fs t ws f vs visit before l o) b = one_more seen_is fs t ws f vs visit b.0 s b.1 (bridged fs t ws b.0 before b.2) l o.visits (asks_same (seen lens f.sent) (map run_turn vs) o.asks)
