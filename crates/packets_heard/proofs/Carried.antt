-- The stations that a frame is addressed to, datagram by datagram.
use Rattle.std.proofs.Common.{◌≡◌, ◌⊎◌, inl, inr, ◌<◌, ◌≤◌, ◌+◌, ◌-◌, ◌%◌, ◌==◌, ℕ, zero, suc, Bool, true, false, Some, List, [], ◌∷◌, ◌++◌, refl, sym, ap, ◌∙◌, subst, arith, length, append_assoc}
use Rattle.std.specs.Prelude.{◌&&◌, nat_le, slice_get, if◌then◌else◌}
use Rattle.std.proofs.lemmas.Bool.{eqb-true, ne_eqb, le-leb}
use Rattle.master_node.specs.of_al_state.BringUp.{head_at}
use Rattle.master_node.specs.of_al_state.declared.bringing.BringStep.{BringStep}
use Rattle.master_node.specs.of_al_state.declared.bringing.BringUp.{BringUp}
use Rattle.master_node.specs.of_datagrams.Datagram as Raw
use Rattle.master_node.specs.of_datagrams.declared.command.Command.{Command}
use Rattle.master_node.specs.of_frame_view.Seen.{seen, datagrams_seen}
use Rattle.master_node.specs.of_frame_view.View.{Lens, datagram_seen, place_of, address_of}
use Rattle.master_node.specs.of_frame_view.Frames.{Share, FrameFor, GramFor}
use Rattle.master_node.specs.of_life_model.Lives.{Stand}
use Rattle.master_node.specs.of_life_runs.Led.{Leads, Turn, AllTurn, IsLedFrame}
use Rattle.master_node.specs.Toured.{turn_share}
use Rattle.master_node.proofs.Sents.{sent_is, sent_many}
use Rattle.master_node.specs.of_master_tour.Goes.{holds_at}
use Rattle.master_node.specs.of_master_tour.Toured.{Tour, HaveFrom, IsOfTour, has_number}
use Rattle.slave_server.specs.of_segment_model.Slaves.{Address}
use Rattle.slave_server.specs.of_segment_model.Visits.{Stop, addressed, carried, station_at}
use Rattle.packets_heard.specs.Toured.{AreAt}
use Rattle.packets_heard.specs.Visits.{stop_at, stations_at}

-- the address of a place
pub place_met : (p : ℕ) → p < 16 → place_of ((65536 - p) % 65536) ≡ Address.Place p
place_met zero l = refl
place_met (suc p) l =
    let e : (65536 - suc p) % 65536 ≡ 65536 - suc p = omega (arith, l) in
    let far = ne_eqb (65536 - suc p) 0 (λ q. omega (arith, q, l)) in
    let near = le-leb 32768 (65536 - suc p) (omega (arith, l)) in
    let back : 65536 - (65536 - suc p) ≡ suc p = omega (arith, l) in
    ap place_of e
    ∙ ap (λ (z : Bool). if z then Address.Place 0 else (if nat_le 32768 (65536 - suc p) then Address.Place (65536 - (65536 - suc p)) else Address.Passed)) far
    ∙ ap (λ (z : Bool). if z then Address.Place (65536 - (65536 - suc p)) else Address.Passed) near
    ∙ ap Address.Place back

-- a datagram is addressed to its slave
by_station : (ring : List Stop) (command : Command) (adp station : ℕ) → (command ≡ Command.Fprd) ⊎ (command ≡ Command.Fpwr) → adp ≡ station → addressed ring (address_of command adp) ≡ station ∷ []
by_station ring command adp station (inl c) e = ap (λ z. addressed ring (address_of z adp)) c ∙ ap (λ z. z ∷ []) e
by_station ring command adp station (inr c) e = ap (λ z. addressed ring (address_of z adp)) c ∙ ap (λ z. z ∷ []) e

by_place : (ring : List Stop) (adp place station : ℕ) → place < 16 → adp ≡ (65536 - place) % 65536 → station_at ring place ≡ station ∷ [] → addressed ring (place_of adp) ≡ station ∷ []
by_place ring adp place station l e s = ap (λ z. addressed ring (place_of z)) e ∙ ap (addressed ring) (place_met place l) ∙ s

by_step : (ring : List Stop) (up : BringUp) (index place station : ℕ) (step : BringStep) → place < 16 → up.station ≡ station → up.adp ≡ (65536 - place) % 65536 → station_at ring place ≡ station ∷ [] → addressed ring (address_of (head_at up index step).command (head_at up index step).adp) ≡ station ∷ []
by_step ring up index place station BringStep.Return l s a w = by_place ring up.adp place station l a w
by_step ring up index place station BringStep.Watch l s a w = by_place ring up.adp place station l a w
by_step ring up index place station BringStep.Address l s a w = by_place ring up.adp place station l a w
by_step ring up index place station BringStep.OutOff l s a w = ap (λ z. z ∷ []) s
by_step ring up index place station BringStep.InOff l s a w = ap (λ z. z ∷ []) s
by_step ring up index place station BringStep.OutManager l s a w = ap (λ z. z ∷ []) s
by_step ring up index place station BringStep.InManager l s a w = ap (λ z. z ∷ []) s
by_step ring up index place station BringStep.Start l s a w = ap (λ z. z ∷ []) s
by_step ring up index place station BringStep.Await l s a w = ap (λ z. z ∷ []) s

module _ (lens : ℕ → Lens) (ring : List Stop) where
  gram_addressed : (u : Turn) (stand : Stand) (d : Raw.Datagram) → GramFor lens u.lived.spot stand d → u.lived.spot.place < 16 → station_at ring u.lived.spot.place ≡ u.lived.spot.station ∷ [] → addressed ring (datagram_seen lens d).address ≡ u.lived.spot.station ∷ []
  gram_addressed u (Stand.Opens o) d g l w =
      ap (λ z. addressed ring (datagram_seen lens z).address) g.is ∙ by_step ring g.up g.index u.lived.spot.place u.lived.spot.station g.up.step l g.to.station g.to.place w
  gram_addressed u Stand.Open d g l w = by_station ring d.head.command d.head.adp u.lived.spot.station g.to.command g.to.adp
  gram_addressed u Stand.Gone d g l w = absurd g

  -- THE DATAGRAM OF THIS NUMBER is addressed to the slave that has it
  pub record IsTo (ds : List Raw.Datagram) (k p : ℕ) : Type 0 where
    pub datagram : Raw.Datagram
    pub there : slice_get ds k ≡ Some datagram
    pub to : addressed ring (datagram_seen lens datagram).address ≡ station_at ring p
    pub near : station_at ring p ≡ (stop_at ring p).station ∷ []

  got_behind : (front behind : List Raw.Datagram) (d : Raw.Datagram) → slice_get (front ++ d ∷ behind) (length front) ≡ Some d
  got_behind [] behind d = refl
  got_behind (x ∷ xs) behind d = got_behind xs behind d

  stop_of : (rs : List Stop) (p s : ℕ) → station_at rs p ≡ s ∷ [] → station_at rs p ≡ (stop_at rs p).station ∷ []
  stop_of [] p s e = absurd (cc)
  stop_of (r ∷ rs) zero s e = refl
  stop_of (r ∷ rs) (suc p) s e = stop_of rs p s e

  has_at : (k : ℕ) (s : Share) → has_number k s ≡ true → (s.under ≡ true) × (s.at ≡ k)
  has_at k s e = go s.under refl e
    where
      go : (z : Bool) → s.under ≡ z → (z && (s.at == k)) ≡ true → (s.under ≡ true) × (s.at ≡ k)
      go true u t = (u, eqb-true s.at k t)
      go false u t = absurd (cc)

  one_to : (ds : List Raw.Datagram) (k p : ℕ) (u : Turn) → FrameFor lens u.lived.spot u.lived.life.stand u.share ds → has_number k u.share ≡ true → u.lived.spot.place ≡ p → p < 16 → station_at ring p ≡ u.lived.spot.station ∷ [] → IsTo ds k p
  one_to ds k p u (FrameFor.none n a) h q l w = absurd (let t = sym n ∙ (has_at k u.share h).0 in cc)
  one_to ds k p u (FrameFor.one y d o g) h q l w =
      let at = o.place ∙ (has_at k u.share h).1 in
      record {
        datagram = d;
        there = (λ i. slice_get (o.split i) (sym at i)) ∙ got_behind o.front o.behind d;
        to = gram_addressed u u.lived.life.stand d g (subst (λ z. z < 16) (sym q) l) (ap (station_at ring) q ∙ w) ∙ sym w;
        near = stop_of ring p u.lived.spot.station w;
      }

  find : (made : ℕ) (ds : List Raw.Datagram) (i j : ℕ) (as' : List Leads) (us : List Turn) (k p : ℕ) → AllTurn lens made ds as' us → AreAt ring i us → holds_at (λ u. has_number k (turn_share u)) us p ≡ true → j ≡ i + p → i + length us ≤ 16 → IsTo ds k j
  find made ds i j [] [] k p t r h e l = absurd (cc)
  find made ds i j [] (u ∷ us) k p t r h e l = absurd t
  find made ds i j (a ∷ as') [] k p t r h e l = absurd t
  find made ds i j (a ∷ as') (u ∷ us) k zero t r h e l =
      let q : i ≡ j = omega (arith, e) in
      subst (λ z. IsTo ds k z) q (one_to ds k i u t.0.asked.has h r.0 (omega (arith, l)) r.1)
  find made ds i j (a ∷ as') (u ∷ us) k (suc p) t r h e l = find made ds (suc i) j as' us k p t.1 r.2 h (omega (arith, e)) (omega (arith, l))

  -- all of them, one behind the other
  all_to : (front ds : List Raw.Datagram) (us : List Turn) (ps : List ℕ) → ((k p : ℕ) → holds_at (λ u. has_number k (turn_share u)) us p ≡ true → IsTo (front ++ ds) k p) → length ps ≡ length ds → HaveFrom (λ u. turn_share u) us (length front) ps →
      carried ring (datagrams_seen lens ds) ≡ stations_at ring ps
  all_to front [] us [] h n v = refl
  all_to front [] us (p ∷ ps) h n v = absurd (cc)
  all_to front (d ∷ ds) us [] h n v = absurd (cc)
  all_to front (d ∷ ds) us (p ∷ ps) h n v =
      let w = h (length front) p v.0 in
      let same : w.datagram ≡ d = let e = sym w.there ∙ got_behind front ds d in cc in
      let more : length (front ++ d ∷ []) ≡ suc (length front) = one_longer front in
      (λ i. addressed ring (datagram_seen lens (sym same i)).address ++ carried ring (datagrams_seen lens ds))
      ∙ ap (λ z. z ++ carried ring (datagrams_seen lens ds)) (w.to ∙ w.near)
      ∙ ap (λ z. (stop_at ring p).station ∷ z)
      (all_to (front ++ d ∷ []) ds us ps (λ k q t. subst (λ z. IsTo z k q) (sym (append_assoc front (d ∷ []) ds)) (h k q t)) (let m : length ps ≡ length ds = omega (arith, n) in m) (subst (λ z. HaveFrom (λ u. turn_share u) us z ps) (sym more) v.1))
    where
      one_longer : (xs : List Raw.Datagram) → length (xs ++ d ∷ []) ≡ suc (length xs)
      one_longer [] = refl
      one_longer (x ∷ xs) = ap suc (one_longer xs)

  pub carried_are : (made : ℕ) (octets : List ℕ) (as' : List Leads) (us : List Turn) (live : ℕ → Bool) (size : ℕ) (area : ℕ → ℕ) (t : Tour) (visit : List ℕ) → length us ≤ 16 → AreAt ring 0 us → IsLedFrame lens made octets as' us → (o : IsOfTour (λ u. turn_share u) live size area t us (length (seen lens octets)) visit) →
      carried ring (seen lens octets) ≡ stations_at ring o.places
  carried_are made octets as' us live size area t visit l r f o =
      ap (carried ring) (sent_is lens octets f.datagrams f.frame)
      ∙ all_to [] f.datagrams us o.places (λ k p h. find made f.datagrams 0 p as' us k p f.each r h (omega arith) (omega (arith, l))) (o.whole ∙ sent_many lens octets f.datagrams f.frame) o.carries.each
