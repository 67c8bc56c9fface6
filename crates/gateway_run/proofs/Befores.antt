-- BEFORE EACH FRAME of a serving each give-up of a slave was at an earlier frame, and before one of those each mail that was passed on came into its hand.
use Rattle.std.proofs.Common.{◌≡◌, ℕ, zero, suc, ◌<◌, Bool, true, false, Option, Some, None, List, [], ◌∷◌, ◌++◌, length, length-append, map, sym, subst, arith}
use Rattle.std.specs.Prelude.{All, if◌then◌else◌, nat_lt}
use Rattle.std.proofs.lemmas.List.Elements.{All-nil, All-append, All-cons, All-head, All-push, All-tail, All-weaker}
use Rattle.run_record.specs.of_master_node.Wants.{gave_of}
use Rattle.run_record.specs.of_datagrams.Datagram as Raw
use Rattle.run_record.specs.of_frame_view.View.{Lens}
use Rattle.run_record.specs.of_frame_view.Shares.{AllBoth}
use Rattle.run_record.specs.of_exchange_model.Rows.{Row, begun}
use Rattle.run_record.specs.of_life_runs.First.{first_leads, leads_from, lens_of}
use Rattle.run_record.specs.of_life_runs.Led.{Exchanged, Leads, gives_up_at}
use Rattle.run_record.specs.of_link_mails.Body.{Body}
use Rattle.run_record.specs.of_segment_plan.declared.service.Service as Plan
use Rattle.run_record.specs.of_master_duty.Reply.{Reply}
use Rattle.run_record.specs.of_state_model.Stated.{Service}
use Rattle.run_record.specs.of_master_hand.Spoken.{Asked, is_passed}
use Rattle.run_record.specs.of_segment_ring.declared.wire.Fate.{Fate}
use Rattle.run_record.specs.of_segment_ring.declared.wire.Fate.TheVariants as Fates
use Rattle.run_record.proofs.Noted.{GivesOne}
use Rattle.run_record.proofs.ServedGaves.{one_gives}
use Rattle.run_record.specs.Served.{ServeTo}
use Rattle.run_record.specs.of_segment_plan.declared.plan.Scenario.{Scenario}
use Rattle.run_record.specs.of_segment_plan.declared.slave.SlaveSpec.{SlaveSpec}
use Rattle.run_record.proofs.of_served_places.Behind.{behind_stays}
use Rattle.run_record.proofs.of_served_places.Next.{next_stays}
use Rattle.run_record.specs.of_served_places.Rows.{Stays, passed_rows, row_begun}
use Rattle.run_record.specs.of_life_runs.Served.{AllServedTurn, IsServedLed, IsServedTurn, Keyed, ServedTurn, Serves, all_serve, asked_at, new_serves, served_behind}
use Rattle.gateway_run.specs.Since.{NoneSince}

-- these rows began before the frame of this number
abbrev pub AreBegun : ℕ → List (Row Body Asked Reply) → Type 0
AreBegun made rows = All (λ (r : Row Body Asked Reply). r.frame < made) rows

-- so it is of a slave
pub record HasBefore (made : ℕ) (w : Serves) : Type 0 where
  pub gave : NoneSince made (gave_of w.lead)
  pub rows : AreBegun made (passed_rows w.lead.lived.life)

-- A FRAME gives up at most once
gives_below : (fate : Fate) (made : ℕ) (old now : List ℕ) → GivesOne fate made old now → NoneSince made old → NoneSince (suc made) now
gives_below fate made old now g all = by fate g
  where
    before : NoneSince (suc made) old
    before = All-weaker (λ (at : ℕ). at < made) (λ (at : ℕ). at < suc made) (λ at less. omega (arith, less)) old all

    go : (b : Bool) → NoneSince (suc made) (if b then old ++ made ∷ [] else old)
    go true = All-push (λ (at : ℕ). at < suc made) old made before (omega arith)
    go false = before

    by : (z : Fate) → GivesOne z made old now → NoneSince (suc made) now
    by Fates.Pass e = subst (NoneSince (suc made)) (sym e) before
    by (Fates.Lost after) e = subst (NoneSince (suc made)) e (go (nat_lt (length old) (length now)))

-- rows that stay began when they did
begun_stay : (n : ℕ) (rows rows' : List (Row Body Asked Reply)) → AllBoth Stays rows rows' → AreBegun n rows → AreBegun n rows'
begun_stay n [] [] stay a = a
begun_stay n [] (r' ∷ rows') stay a = absurd stay
begun_stay n (r ∷ rows) [] stay a = absurd stay
begun_stay n (r ∷ rows) (r' ∷ rows') stay a =
    All-cons (λ (r : Row Body Asked Reply). r.frame < n) r' rows' (subst (λ (k : ℕ). k < n) (sym stay.0.frame) (All-head (λ (r : Row Body Asked Reply). r.frame < n) r rows a))
    (begun_stay n rows rows' stay.1 (All-tail (λ (r : Row Body Asked Reply). r.frame < n) r rows a))

-- what comes into hand begins before the frame
begun_now : (made : ℕ) (b : Option (Service Asked)) → AreBegun (suc made) (row_begun made b)
begun_now made None = All-nil (λ (r : Row Body Asked Reply). r.frame < suc made)
begun_now made (Some (Service.State target)) = All-nil (λ (r : Row Body Asked Reply). r.frame < suc made)
begun_now made (Some (Service.Mails q)) = go (is_passed q)
  where
    go : (z : Bool) → AreBegun (suc made) (if z then begun q made ∷ [] else [])
    go true = All-cons (λ (r : Row Body Asked Reply). r.frame < suc made) (begun q made) [] (let less : made < suc made = omega arith in less) (All-nil (λ (r : Row Body Asked Reply). r.frame < suc made))
    go false = All-nil (λ (r : Row Body Asked Reply). r.frame < suc made)

-- ONE SLAVE over a frame
module _ (lens : ℕ → Lens) (recover retry made : ℕ) (ds : List Raw.Datagram) (w : Serves) (v : ServedTurn) (t : IsServedTurn lens made ds w v) (h : HasBefore made w) where
  -- before it
  pub rows_next : AreBegun (suc made) (passed_rows v.turn.lived.life)
  rows_next =
      begun_stay (suc made) (passed_rows w.lead.lived.life ++ row_begun made v.turn.begun) (passed_rows v.turn.lived.life) (next_stays lens made ds w v t)
      (All-append (λ (r : Row Body Asked Reply). r.frame < suc made) (passed_rows w.lead.lived.life) (row_begun made v.turn.begun)
      (All-weaker (λ (r : Row Body Asked Reply). r.frame < made) (λ (r : Row Body Asked Reply). r.frame < suc made) (λ r less. omega (arith, less)) (passed_rows w.lead.lived.life) h.rows)
      (begun_now made v.turn.begun))

  -- behind it
  before_next : (gives : Bool) (f : Exchanged) → HasBefore (suc made) (served_behind lens recover retry gives made f v)
  before_next gives f = record {
    gave = gives_below f.fate made (gave_of w.lead) (gave_of (served_behind lens recover retry gives made f v).lead) (one_gives lens recover retry made ds w v t gives f f.fate) h.gave;
    rows = begun_stay (suc made) (passed_rows v.turn.lived.life) (passed_rows (served_behind lens recover retry gives made f v).lead.lived.life) (behind_stays lens recover retry gives made f v) rows_next;
  }

-- ALL SLAVES over a frame
all_next : (lens : ℕ → Lens) (recover retry made : ℕ) (ds : List Raw.Datagram) (gives : Bool) (f : Exchanged) (ws : List Serves) (vs : List ServedTurn) → AllServedTurn lens made ds ws vs → All (HasBefore made) ws →
    All (HasBefore (suc made)) (map (served_behind lens recover retry gives made f) vs)
all_next lens recover retry made ds gives f [] [] t h = All-nil (HasBefore (suc made))
all_next lens recover retry made ds gives f [] (v ∷ vs) t h = absurd t
all_next lens recover retry made ds gives f (w ∷ ws) [] t h = absurd t
all_next lens recover retry made ds gives f (w ∷ ws) (v ∷ vs) t h =
    All-cons (HasBefore (suc made)) (served_behind lens recover retry gives made f v) (map (served_behind lens recover retry gives made f) vs)
    (before_next lens recover retry made ds w v t.0 (All-head (HasBefore made) w ws h) gives f)
    (all_next lens recover retry made ds gives f ws vs t.1 (All-tail (HasBefore made) w ws h))

-- so it stays where mails are asked
asked_before : (made place : ℕ) (k : Keyed) (ws : List Serves) → All (HasBefore made) ws → All (HasBefore made) (asked_at place k ws)
asked_before made place k [] h = All-nil (HasBefore made)
asked_before made zero k (w ∷ ws) h =
    (let b = All-head (HasBefore made) w ws h in
    All-cons (HasBefore made) (record w { asked = w.asked ++ k ∷ []; waits = w.waits ++ k ∷ [] }) ws (record { gave = b.gave; rows = b.rows }) (All-tail (HasBefore made) w ws h))
asked_before made (suc place) k (w ∷ ws) h = All-cons (HasBefore made) w (asked_at place k ws) (All-head (HasBefore made) w ws h) (asked_before made place k ws (All-tail (HasBefore made) w ws h))

-- BEFORE THE FIRST FRAME none was given up, and nothing came into hand
abbrev IsFresh : Leads → Type 0
IsFresh a = NoneSince 0 (gave_of a) × AreBegun 0 (passed_rows a.lived.life)

fresh : (rows : List (ℕ × Plan.Service)) (place : ℕ) (ss : List SlaveSpec) → All IsFresh (leads_from rows place ss)
fresh rows place [] = All-nil IsFresh
fresh rows place (s ∷ ss) = All-cons IsFresh _ (leads_from rows (suc place) ss) (All-nil (λ (at : ℕ). at < 0), All-nil (λ (r : Row Body Asked Reply). r.frame < 0)) (fresh rows (suc place) ss)

new_before : (pace : ℕ) (a : Leads) → IsFresh a → HasBefore 0 (new_serves pace a)
new_before pace a h = record { gave = h.0; rows = h.1 }

all_before : (paces : List ℕ) (as' : List Leads) → All IsFresh as' → All (HasBefore 0) (all_serve paces as')
all_before paces [] h = All-nil (HasBefore 0)
all_before [] (a ∷ as') h = All-cons (HasBefore 0) (new_serves 1 a) (all_serve [] as') (new_before 1 a (All-head IsFresh a as' h)) (all_before [] as' (All-tail IsFresh a as' h))
all_before (pace ∷ paces) (a ∷ as') h = All-cons (HasBefore 0) (new_serves pace a) (all_serve paces as') (new_before pace a (All-head IsFresh a as' h)) (all_before paces as' (All-tail IsFresh a as' h))

-- OVER ALL FRAMES
pub serve_before : (plan : Scenario) (fs : List Exchanged) (missed : ℕ) (ws : List Serves) → ServeTo plan fs missed ws → All (HasBefore (length fs)) ws
serve_before plan _ _ _ IsServedLed.start = all_before plan.paces (first_leads plan) (fresh plan.services 0 plan.slaves)
serve_before plan _ _ _ (IsServedLed.asks fs missed ws place k led may) = asked_before (length fs) place k ws (serve_before plan fs missed ws led)
serve_before plan _ _ _ (IsServedLed.on fs missed ws f vs led frame) =
    let lens = lens_of plan.slaves in
    let gives = gives_up_at lens plan.recover plan.retry missed in
    subst (λ (n : ℕ). All (HasBefore n) (map (served_behind lens plan.recover plan.retry gives (length fs) f) vs)) (let long : suc (length fs) ≡ length (fs ++ f ∷ []) = (let n = length-append fs (f ∷ []) in omega (arith, n)) in long)
    (all_next lens plan.recover plan.retry (length fs) frame.datagrams gives f ws vs frame.each (serve_before plan fs missed ws led))
