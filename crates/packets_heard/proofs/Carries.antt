-- The slaves that a frame carries are those of its visit.
use Rattle.std.proofs.Common.{◌≡◌, ℕ, zero, suc, Bool, true, false, Option, Some, None, List, [], ◌∷◌, ◌++◌, map, length, refl, sym, ap, subst, ◌∙◌}
use Rattle.std.specs.Prelude.{◌==◌, if◌then◌else◌, All, ⊤}
use Rattle.std.proofs.lemmas.List.Elements.{All-nil, All-cons, All-head, All-tail}
use Rattle.master_node.specs.of_datagrams.Datagram as Raw
use Rattle.master_node.specs.of_datagrams.Frame.{IsFrame, chained}
use Rattle.master_node.specs.of_eoe_switch.declared.switching.SwitchEvent.{SwitchEvent}
use Rattle.master_node.specs.of_frame_view.View.{Lens}
use Rattle.master_node.specs.of_frame_view.Seen.{seen}
use Rattle.master_node.proofs.of_frame_view.Octets.{seen_is, seen_chained}
use Rattle.master_node.specs.of_frame_view.Frames.{FrameFor}
use Rattle.master_node.specs.of_frame_view.Shares.{Asked}
use Rattle.master_node.proofs.of_frame_view.Frames.{own_none}
use Rattle.master_node.specs.of_life_model.Lives.{Stand}
use Rattle.master_node.specs.of_life_model.Own.{own}
use Rattle.master_node.specs.of_life_runs.Led.{Exchanged, Leads, Turn, AllTurn}
use Rattle.slave_server.specs.of_link_mails.Body.{Body}
use Rattle.master_node.specs.of_link_model.Frames.{all_accepted}
use Rattle.master_node.specs.of_master_hand.Joins.{packets_in}
use Rattle.master_node.specs.Arrivals.{completed_at, ComeIn}
use Rattle.master_node.specs.Downs.{goes_down, GoDown}
use Rattle.master_node.specs.Happened.{events_of}
use Rattle.master_node.specs.Made.{IsOfMaking, AreOfMaking}
use Rattle.master_node.specs.Serving.{run_turn}
use Rattle.master_node.specs.Shows.{is_carried}
use Rattle.master_node.specs.Toured.{turn_share}
use Rattle.master_node.specs.declared.happened.Happening.{Happening}
use Rattle.master_node.specs.declared.node.MasterNode.{MasterNode}
use Rattle.master_node.specs.of_master_tour.Brings.{accepted_at}
use Rattle.master_node.specs.of_master_tour.Goes.{holds_at}
use Rattle.master_node.specs.of_master_tour.Made.{is_in}
use Rattle.master_node.specs.of_master_tour.Orders.{AreOnce}
use Rattle.master_node.specs.of_master_tour.Toured.{Tour, IsOfTour, visit_of, visit_on}
use Rattle.packets_heard.specs.Heard.{Joined}
use Rattle.slave_server.specs.of_segment_model.Returned.{Returns}
use Rattle.slave_server.specs.of_segment_model.Record.{is_for}
use Rattle.slave_server.specs.of_segment_model.Slaves.{Datagram, grams}
use Rattle.master_node.specs.of_segment_ring.declared.wire.Fate.{Fate}
use Rattle.master_node.specs.of_segment_ring.declared.wire.Fate.TheVariants.{Pass, Lost}
use Rattle.packets_heard.specs.Listed.{unfinished_of, CarriesAll, packets_by, listed_behind, ListedOn}
use Rattle.master_node.specs.of_life_runs.Served.{Serves, ServedTurn, AllServedTurn}

-- ---- the places that a frame carries are among those of its visit
in_first : (k : ℕ) (ps rest : List ℕ) → is_in k ps ≡ true → is_in k (ps ++ rest) ≡ true
in_first k [] rest e = absurd (let bad : false ≡ true = e in cc)
in_first k (p ∷ ps) rest e = go (k == p) refl (in_first k ps rest)
  where
    go : (b : Bool) → (k == p) ≡ b → (is_in k ps ≡ true → is_in k (ps ++ rest) ≡ true) → (if k == p then true else is_in k (ps ++ rest)) ≡ true
    go true f h = ap (λ (b : Bool). if b then true else is_in k (ps ++ rest)) f
    go false f h = ap (λ (b : Bool). if b then true else is_in k (ps ++ rest)) f ∙ h (sym (ap (λ (b : Bool). if b then true else is_in k ps) f) ∙ e)

in_visit : (live : ℕ → Bool) (count : ℕ) (again : Option (List ℕ)) (opened : ℕ) (last : Option ℕ) (places rest : List ℕ) → visit_of live count again opened last ≡ places ++ rest → (k : ℕ) → is_in k places ≡ true → is_in k (visit_on again places) ≡ true
in_visit live count (Some same) opened last places rest e k h = subst (λ z. is_in k z ≡ true) (sym e) (in_first k places rest h)
in_visit live count None opened last places rest e k h = h

-- ---- of a slave that a frame doesn't carry it brings no mail
returned_none : {M : Type 0} (station : ℕ) (sent back : List (Datagram M)) → Returns sent back → own station sent ≡ [] → own station back ≡ []
returned_none station [] [] r e = refl
returned_none station [] (b ∷ back) r e = absurd r
returned_none station (s ∷ sent) [] r e = absurd r
returned_none station (s ∷ sent) (b ∷ back) r e = go (is_for station s.address) refl (returned_none station sent back r.1)
  where
    go : (c : Bool) → is_for station s.address ≡ c → (own station sent ≡ [] → own station back ≡ []) → (if is_for station b.address then b ∷ own station back else own station back) ≡ []
    go true f h = absurd (let bad : s ∷ own station sent ≡ [] = sym (ap (λ (c : Bool). if c then s ∷ own station sent else own station sent) f) ∙ e in cc)
    go false f h =
        ap (λ (c : Bool). if c then b ∷ own station back else own station back) (r.0.address station ∙ f)
        ∙ h (sym (ap (λ (c : Bool). if c then s ∷ own station sent else own station sent) f) ∙ e)

none_accepted : (u : Turn) (back : List (Datagram Body)) → own u.lived.spot.station back ≡ [] → (z : Stand) → accepted_at u.lived.spot.station u.lived.life.era.side.halves back z ≡ []
none_accepted u back e (Stand.Opens o) = refl
none_accepted u back e Stand.Open = ap (λ ds. all_accepted u.lived.spot.station u.lived.life.era.side.halves (grams ds)) e
none_accepted u back e Stand.Gone = refl

-- each slave asks what the frame has of it
abbrev pub AllAsked : (ℕ → Lens) → List Raw.Datagram → List Turn → Type 0
AllAsked lens ds [] = ⊤
AllAsked lens ds (u ∷ us) = Asked lens ds u.lived u.share × AllAsked lens ds us

pub turns_asked : (lens : ℕ → Lens) (made : ℕ) (ds : List Raw.Datagram) (as' : List Leads) (us : List Turn) → AllTurn lens made ds as' us → AllAsked lens ds us
turns_asked lens made ds [] [] t = tt
turns_asked lens made ds [] (u ∷ us) t = absurd t
turns_asked lens made ds (a ∷ as') [] t = absurd t
turns_asked lens made ds (a ∷ as') (u ∷ us) t = (t.0.asked, turns_asked lens made ds as' us t.1)

pub serves_asked : (lens : ℕ → Lens) (made : ℕ) (ds : List Raw.Datagram) (ws : List Serves) (vs : List ServedTurn) → AllServedTurn lens made ds ws vs → AllAsked lens ds (map run_turn vs)
serves_asked lens made ds [] [] t = tt
serves_asked lens made ds [] (v ∷ vs) t = absurd t
serves_asked lens made ds (w ∷ ws) [] t = absurd t
serves_asked lens made ds (w ∷ ws) (v ∷ vs) t = (t.0.asked, serves_asked lens made ds ws vs t.1)

module _ (lens : ℕ → Lens) (f : Exchanged) where
  sees : (ds : List Raw.Datagram) → seen lens f.sent ≡ map (λ d. Rattle.master_node.specs.of_frame_view.View.datagram_seen lens d) ds → (u : Turn) → FrameFor lens u.lived.spot u.lived.life.stand u.share ds → u.share.under ≡ false → own u.lived.spot.station (seen lens f.sent) ≡ []
  sees ds e u (FrameFor.none n a) out = ap (λ z. own u.lived.spot.station z) e ∙ own_none lens u.lived.spot ds a
  sees ds e u (FrameFor.one n d a b) out = absurd (let bad : true ≡ false = sym n ∙ out in cc)

  none_completed : Returns (seen lens f.sent) (seen lens f.back) → (ds : List Raw.Datagram) → seen lens f.sent ≡ map (λ d. Rattle.master_node.specs.of_frame_view.View.datagram_seen lens d) ds → (us : List Turn) → AllAsked lens ds us → (js : List Joined) (k : ℕ) →
      holds_at is_carried us k ≡ false → completed_at (seen lens f.back) us (unfinished_of js) k ≡ []
  none_completed r ds e [] t js k out = refl
  none_completed r ds e (u ∷ us) t [] k out = refl
  none_completed r ds e (u ∷ us) t (j ∷ js) zero out =
      ap (λ ms. packets_in j.unfinished ms) (none_accepted u (seen lens f.back) (returned_none u.lived.spot.station (seen lens f.sent) (seen lens f.back) r (sees ds e u t.0.has out)) u.lived.life.stand)
  none_completed r ds e (u ∷ us) t (j ∷ js) (suc k) out = none_completed r ds e us t.1 js k out

-- A FRAME CARRIES THE SLAVES OF ITS VISIT
module _ (lens : ℕ → Lens) (recover retry : ℕ) (ports : List (Option ℕ)) (f : Exchanged) (us : List Turn) (ds : List Raw.Datagram) (frame : IsFrame f.sent (chained ds)) (asked : AllAsked lens ds us) (live : ℕ → Bool) (size : ℕ) (area : ℕ → ℕ) (t : Tour) (many : ℕ) (visit : List ℕ)
    (of : IsOfTour (λ u. turn_share u) live size area t us many visit) (once : AreOnce visit) (back : f.fate ≡ Pass → Returns (seen lens f.sent) (seen lens f.back)) (js : List Joined) where
  all_in : (k : ℕ) → holds_at is_carried us k ≡ true → is_in k visit ≡ true
  all_in k h = subst (λ z. is_in k z ≡ true) (sym of.comes) (in_visit live (length us) t.again t.opened t.last of.places of.first.rest of.first.split k (of.carries.only k h))

  not_carried : (k : ℕ) → is_in k visit ≡ false → holds_at is_carried us k ≡ false
  not_carried k out = go (holds_at is_carried us k) refl
    where
      go : (b : Bool) → holds_at is_carried us k ≡ b → holds_at is_carried us k ≡ false
      go false e = e
      go true e = absurd (let bad : true ≡ false = sym (all_in k e) ∙ out in cc)

  none_by : (fate : Fate) → f.fate ≡ fate → (k : ℕ) → is_in k visit ≡ false → packets_by lens recover retry ports f fate us js k ≡ []
  none_by Pass e k out =
      none_completed lens f (back e) ds (seen_is lens f.sent _ frame ∙ seen_chained lens ds) us asked js k (not_carried k out)
  none_by (Lost after) e k out = refl

  pub carries_all : CarriesAll visit us (λ k. packets_by lens recover retry ports f f.fate us js k)
  carries_all = record { once = once; all = all_in; quiet = λ k out. none_by f.fate refl k out }

-- ONE FRAME MORE, by what the master lists of it
pub events_making : (rows : List Happening) → AreOfMaking rows → All IsOfMaking (events_of rows)
events_making [] a = All-nil IsOfMaking
events_making (r ∷ rows) a = All-cons IsOfMaking r.event (events_of rows) (All-head (λ (q : Happening). IsOfMaking q.event) r rows a) (events_making rows (All-tail (λ (q : Happening). IsOfMaking q.event) r rows a))

module _ (lens : ℕ → Lens) (recover retry : ℕ) (ports : List (Option ℕ)) (old : List SwitchEvent → Type 0) (f : Exchanged) (us : List Turn) (leads : List Leads) (js : List Joined) (m n : MasterNode) (same : m.lan.ports.items ≡ ports) (making : AreOfMaking m.lan.happened)
    (arrives : f.fate ≡ Pass → ComeIn m (λ k. completed_at (seen lens f.back) us (unfinished_of js) k) n) (downs : (after : ℕ) → f.fate ≡ Lost after → GoDown m us leads n)
    (carries : CarriesAll m.tour.visit.items us (λ k. packets_by lens recover retry ports f f.fate us js k)) (es : List SwitchEvent) (before : old es) where
  listed : (fate : Fate) → f.fate ≡ fate → events_of n.lan.happened ≡ listed_behind lens recover retry ports f fate us leads js m.tour.visit.items
  listed Pass e = (arrives e).events ∙ (λ i. Rattle.master_node.specs.Arrivals.arrivals_in (same i) (λ k. completed_at (seen lens f.back) us (unfinished_of js) k) m.tour.visit.items)
  listed (Lost after) e = (downs after e).events ∙ (λ i. Rattle.master_node.specs.Downs.downs_in (same i) (λ k. goes_down us leads k) m.tour.visit.items)

  pub listed_on : ListedOn lens recover retry ports old f us leads js (es ++ (events_of m.lan.happened ++ events_of n.lan.happened))
  listed_on = record {
    old = es;
    was = before;
    making = events_of m.lan.happened;
    only = events_making m.lan.happened making;
    visit = m.tour.visit.items;
    carries = carries;
    whole = ap (λ z. es ++ (events_of m.lan.happened ++ z)) (listed f.fate refl);
  }
