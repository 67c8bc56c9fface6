-- A frame over a ring is to each link what the datagrams to its own station are.
use Rattle.std.proofs.Common.{◌≡◌, ℕ, zero, suc, List, [], ◌∷◌, ◌++◌, refl, ap, sym, ◌∙◌, subst}
use Rattle.std.specs.Prelude.{⊤}
use Rattle.link_model.specs.Slave.{Node, Server}
use Rattle.link_model.specs.Link.{Link, Event, Fate, happens, run, new_link, held_after, pdi, changed}
use Rattle.link_model.specs.Frames.{Gram, own, node_after, grams_after, events_of}
use Rattle.link_model.specs.Segment.{RingFate, Member, SegmentEvent, frame_back, ring_of, ring_after, stations_of, member_back, member_lost, members_back, members_lost, members_after, members_by, fate_here, fate_behind, at_place, all_held, segment_happens, segment_run, Each, IsFrame, MayHappen, MayRun, Differs, Distinct, SegmentAgrees, AllNew}
use Rattle.link_model.specs.Agree.{Agrees, Accords}
use Rattle.link_model.proofs.Own.{node_all, grams_all, halves_all, accepted_all, node_after-own, halves_after-own, halves_without-own, all_accepted-own, own-grams_after, own-grams_other}
use Rattle.link_model.proofs.Wire.{link_after, run-events_of}
use Rattle.link_model.proofs.Law.{happens_keeps}
use Rattle.link_model.proofs.Priors.{happens_accords, new_accords}

-- the frame has the same datagrams for each of these stations
abbrev pub SameFor : {B : Type 0} → List ℕ → List (Gram B) → List (Gram B) → Type 0
SameFor [] gs sent = ⊤
SameFor (x ∷ xs) gs sent = (own x gs ≡ own x sent) × SameFor xs gs sent

same_for : {B : Type 0} (xs : List ℕ) (gs : List (Gram B)) → SameFor xs gs gs
same_for [] gs = tt
same_for (x ∷ xs) gs = (refl, same_for xs gs)

same_stays : {B S : Type 0} (x : ℕ) (n : Node B S) (xs : List ℕ) (gs sent : List (Gram B)) → Differs x xs → SameFor xs gs sent → SameFor xs (grams_after x n gs) sent
same_stays x n [] gs sent d s = tt
same_stays x n (y ∷ ys) gs sent d s = (own-grams_other y x n gs d.0 ∙ s.0, same_stays x n ys gs sent d.1 s.1)

-- slaves of other stations leave the datagrams of a station
pub own-frame_back : {B S : Type 0} (x : ℕ) (ms : List (Member B S)) (gs : List (Gram B)) → Differs x (stations_of ms) → own x (frame_back (ring_of ms) gs) ≡ own x gs
own-frame_back x [] gs d = refl
own-frame_back x (m ∷ ms) gs d =
    own-frame_back x ms (grams_after m.station m.link.node gs) d.1 ∙ own-grams_other x m.station m.link.node gs (λ e. d.0 (sym e))

back_head : {B S : Type 0} (v : Server B S) (m : Member B S) (ms : List (Member B S)) (gs sent : List (Gram B)) → Differs m.station (stations_of ms) → own m.station gs ≡ own m.station sent → IsFrame (m ∷ ms) sent → member_back m (frame_back (ring_of ms) (grams_after m.station m.link.node gs)) (node_after m.station m.link.node gs) ≡ record m { link = run v m.link (events_of Fate.Pass (own m.station sent)) }
back_head v m ms gs sent d s f =
    let n = m.link.node in
    let h = m.link.halves in
    let back = frame_back (ring_of ms) (grams_after m.station n gs) in
    let met = own-frame_back m.station ms (grams_after m.station n gs) d ∙ own-grams_after m.station n gs ∙ ap (grams_all n) s in
    let node = node_after-own m.station n gs ∙ ap (node_all n) s in
    let halves = halves_after-own m.station h back ∙ ap (halves_all h) met in
    let accepted = all_accepted-own m.station h back ∙ ap (accepted_all h) met in
    let alone : member_back m back (node_after m.station n gs) ≡ record m { link = link_after Fate.Pass m.link (own m.station sent) } = (λ i. record m { link = record m.link { halves = halves i; node = node i; accepted = m.link.accepted ++ accepted i } }) in
    alone ∙ ap (λ w. record m { link = w }) (sym (run-events_of Fate.Pass v (own m.station sent) m.link f.0))

back_is : {B S : Type 0} (v : Server B S) (ms : List (Member B S)) (gs sent : List (Gram B)) → Distinct (stations_of ms) → SameFor (stations_of ms) gs sent → IsFrame ms sent → members_back ms gs (frame_back (ring_of ms) gs) ≡ members_by v ms sent RingFate.Back
back_is v [] gs sent d s f = refl
back_is v (m ∷ ms) gs sent d s f =
    let head = back_head v m ms gs sent d.0 s.0 f in
    let tail = back_is v ms (grams_after m.station m.link.node gs) sent d.1 (same_stays m.station m.link.node (stations_of ms) gs sent d.0 s.1) f.1 in
    λ i. head i ∷ tail i

lost_head : {B S : Type 0} (v : Server B S) (m : Member B S) (gs sent : List (Gram B)) → own m.station gs ≡ own m.station sent → IsFrame (m ∷ []) sent → member_lost m sent (node_after m.station m.link.node gs) ≡ record m { link = run v m.link (events_of Fate.LostBehind (own m.station sent)) }
lost_head v m gs sent s f =
    let node = node_after-own m.station m.link.node gs ∙ ap (node_all m.link.node) s in
    let halves = halves_without-own m.station m.link.halves sent in
    let alone : member_lost m sent (node_after m.station m.link.node gs) ≡ record m { link = link_after Fate.LostBehind m.link (own m.station sent) } = (λ i. record m { link = record m.link { halves = halves i; node = node i } }) in
    alone ∙ ap (λ w. record m { link = w }) (sym (run-events_of Fate.LostBehind v (own m.station sent) m.link f.0))

unmet_head : {B S : Type 0} (v : Server B S) (m : Member B S) (sent : List (Gram B)) → IsFrame (m ∷ []) sent → member_lost m sent m.link.node ≡ record m { link = run v m.link (events_of Fate.LostBefore (own m.station sent)) }
unmet_head v m sent f =
    let halves = halves_without-own m.station m.link.halves sent in
    let alone : member_lost m sent m.link.node ≡ record m { link = link_after Fate.LostBefore m.link (own m.station sent) } = (λ i. record m { link = record m.link { halves = halves i } }) in
    alone ∙ ap (λ w. record m { link = w }) (sym (run-events_of Fate.LostBefore v (own m.station sent) m.link f.0))

lost_is : {B S : Type 0} (v : Server B S) (after : ℕ) (ms : List (Member B S)) (gs sent : List (Gram B)) → Distinct (stations_of ms) → SameFor (stations_of ms) gs sent → IsFrame ms sent → members_lost after ms gs sent ≡ members_by v ms sent (RingFate.Lost after)
lost_is v after [] gs sent d s f = refl
lost_is v zero (m ∷ ms) gs sent d s f =
    let head = unmet_head v m sent (f.0, tt) in
    let tail = lost_is v zero ms gs sent d.1 s.1 f.1 in
    λ i. head i ∷ tail i
lost_is v (suc k) (m ∷ ms) gs sent d s f =
    let head = lost_head v m gs sent s.0 (f.0, tt) in
    let tail = lost_is v k ms (grams_after m.station m.link.node gs) sent d.1 (same_stays m.station m.link.node (stations_of ms) gs sent d.0 s.1) f.1 in
    λ i. head i ∷ tail i

-- a frame over the ring, returned or lost, is to each link what the datagrams to its own station are
pub frame_is : {B S : Type 0} (v : Server B S) (ms : List (Member B S)) (gs : List (Gram B)) (fate : RingFate) → Distinct (stations_of ms) → IsFrame ms gs → members_after ms gs fate ≡ members_by v ms gs fate
frame_is v ms gs RingFate.Back d f = back_is v ms gs gs d (same_for (stations_of ms) gs) f
frame_is v ms gs (RingFate.Lost after) d f = lost_is v after ms gs gs d (same_for (stations_of ms) gs) f

-- the slaves of the world behind a frame are those of the ring that met it
back_ring : {B S : Type 0} (ms : List (Member B S)) (gs back : List (Gram B)) → ring_of (members_back ms gs back) ≡ ring_after (ring_of ms) gs RingFate.Back
back_ring [] gs back = refl
back_ring (m ∷ ms) gs back = ap (λ ns. record { station = m.station; node = node_after m.station m.link.node gs } ∷ ns) (back_ring ms (grams_after m.station m.link.node gs) back)

lost_ring : {B S : Type 0} (after : ℕ) (ms : List (Member B S)) (gs sent : List (Gram B)) → ring_of (members_lost after ms gs sent) ≡ ring_after (ring_of ms) gs (RingFate.Lost after)
lost_ring zero [] gs sent = refl
lost_ring (suc k) [] gs sent = refl
lost_ring zero (m ∷ ms) gs sent = ap (λ ns. record { station = m.station; node = m.link.node } ∷ ns) (lost_ring zero ms gs sent)
lost_ring (suc k) (m ∷ ms) gs sent = ap (λ ns. record { station = m.station; node = node_after m.station m.link.node gs } ∷ ns) (lost_ring k ms (grams_after m.station m.link.node gs) sent)

pub ring_of-members_after : {B S : Type 0} (ms : List (Member B S)) (gs : List (Gram B)) (fate : RingFate) → ring_of (members_after ms gs fate) ≡ ring_after (ring_of ms) gs fate
ring_of-members_after ms gs RingFate.Back = back_ring ms gs (frame_back (ring_of ms) gs)
ring_of-members_after ms gs (RingFate.Lost after) = lost_ring after ms gs gs

-- stations stay
by_stations : {B S : Type 0} (v : Server B S) (ms : List (Member B S)) (gs : List (Gram B)) (fate : RingFate) → stations_of (members_by v ms gs fate) ≡ stations_of ms
by_stations v [] gs fate = refl
by_stations v (m ∷ ms) gs fate = ap (λ xs. m.station ∷ xs) (by_stations v ms gs (fate_behind fate))

place_stations : {B S : Type 0} (f : Link B S → Link B S) (k : ℕ) (ms : List (Member B S)) → stations_of (at_place f k ms) ≡ stations_of ms
place_stations f k [] = refl
place_stations f zero (m ∷ ms) = refl
place_stations f (suc k) (m ∷ ms) = ap (λ xs. m.station ∷ xs) (place_stations f k ms)

hold_stations : {B S : Type 0} (ms : List (Member B S)) (hs : List (ℕ × B)) → stations_of (all_held ms hs) ≡ stations_of ms
hold_stations ms [] = refl
hold_stations ms (h ∷ hs) =
    let taken_up = at_place (λ w. held_after w w.halves.out.holding h.1) h.0 ms in
    hold_stations taken_up hs ∙ place_stations (λ w. held_after w w.halves.out.holding h.1) h.0 ms

-- whatever each event of one link keeps, a list of events keeps, a frame keeps of each link, and so does each event
-- of the segment
pub run_keeps_all : {B S : Type 0} (v : Server B S) (P : Link B S → Type 0) → ((w : Link B S) (e : Event B S) → P w → P (happens v w e)) → (w : Link B S) (es : List (Event B S)) → P w → P (run v w es)
run_keeps_all v P kept w [] p = p
run_keeps_all v P kept w (e ∷ es) p = run_keeps_all v P kept (happens v w e) es (kept w e p)

pub by_keeps : {B S : Type 0} (v : Server B S) (P : Link B S → Type 0) → ((w : Link B S) (e : Event B S) → P w → P (happens v w e)) → (ms : List (Member B S)) (gs : List (Gram B)) (fate : RingFate) → Each P ms → Each P (members_by v ms gs fate)
by_keeps v P kept [] gs fate p = tt
by_keeps v P kept (m ∷ ms) gs fate p =
    (run_keeps_all v P kept m.link (events_of (fate_here fate) (own m.station gs)) p.0, by_keeps v P kept ms gs (fate_behind fate) p.1)

pub place_keeps : {B S : Type 0} (P : Link B S → Type 0) (f : Link B S → Link B S) → ((w : Link B S) → P w → P (f w)) → (k : ℕ) (ms : List (Member B S)) → Each P ms → Each P (at_place f k ms)
place_keeps P f kept k [] p = tt
place_keeps P f kept zero (m ∷ ms) p = (kept m.link p.0, p.1)
place_keeps P f kept (suc k) (m ∷ ms) p = (p.0, place_keeps P f kept k ms p.1)

pub holds_keep : {B S : Type 0} (v : Server B S) (P : Link B S → Type 0) → ((w : Link B S) (e : Event B S) → P w → P (happens v w e)) → (ms : List (Member B S)) (hs : List (ℕ × B)) → Each P ms → Each P (all_held ms hs)
holds_keep v P kept ms [] p = p
holds_keep v P kept ms (h ∷ hs) p =
    holds_keep v P kept (at_place (λ w. held_after w w.halves.out.holding h.1) h.0 ms) hs (place_keeps P (λ w. held_after w w.halves.out.holding h.1) (λ w q. kept w (Event.Hold h.1) q) h.0 ms p)

pub segment_keeps_all : {B S : Type 0} (v : Server B S) (P : Link B S → Type 0) → ((w : Link B S) (e : Event B S) → P w → P (happens v w e)) → (ms : List (Member B S)) (e : SegmentEvent B S) → Distinct (stations_of ms) → MayHappen ms e → Each P ms → Each P (segment_happens v ms e)
segment_keeps_all v P kept ms (SegmentEvent.Wire holds gs fate) d f p =
    let up = all_held ms holds in
    let distinct : Distinct (stations_of up) = subst Distinct (sym (hold_stations ms holds)) d in
    subst (Each P) (sym (frame_is v up gs fate distinct f)) (by_keeps v P kept up gs fate (holds_keep v P kept ms holds p))
segment_keeps_all v P kept ms (SegmentEvent.Step k) d f p = place_keeps P (pdi v) (λ w q. kept w Event.Pdi q) k ms p
segment_keeps_all v P kept ms (SegmentEvent.Alter k change) d f p =
    place_keeps P (λ w. changed w change) (λ w q. kept w (Event.Change change) q) k ms p

pub segment_stations : {B S : Type 0} (v : Server B S) (ms : List (Member B S)) (e : SegmentEvent B S) → Distinct (stations_of ms) → MayHappen ms e → stations_of (segment_happens v ms e) ≡ stations_of ms
segment_stations v ms (SegmentEvent.Wire holds gs fate) d f =
    let up = all_held ms holds in
    let distinct : Distinct (stations_of up) = subst Distinct (sym (hold_stations ms holds)) d in
    ap stations_of (frame_is v up gs fate distinct f) ∙ by_stations v up gs fate ∙ hold_stations ms holds
segment_stations v ms (SegmentEvent.Step k) d f = place_stations (pdi v) k ms
segment_stations v ms (SegmentEvent.Alter k change) d f = place_stations (λ w. changed w change) k ms

-- each event of the segment keeps the agreement of each link
pub segment_keeps : {B S : Type 0} (v : Server B S) (ms : List (Member B S)) (e : SegmentEvent B S) → MayHappen ms e → SegmentAgrees ms → SegmentAgrees (segment_happens v ms e)
segment_keeps v ms e f a = record {
  links = segment_keeps_all v Agrees (happens_keeps v) ms e a.stations f a.links;
  stations = subst Distinct (sym (segment_stations v ms e a.stations f)) a.stations;
}

-- and so does each list of them
pub segment_run_keeps : {B S : Type 0} (v : Server B S) (ms : List (Member B S)) (es : List (SegmentEvent B S)) → MayRun v ms es → SegmentAgrees ms → SegmentAgrees (segment_run v ms es)
segment_run_keeps v ms [] f a = a
segment_run_keeps v ms (e ∷ es) f a = segment_run_keeps v (segment_happens v ms e) es f.1 (segment_keeps v ms e f.0 a)

-- what holds of every link that agrees holds of each link of a segment that does
pub each_gives : {B S : Type 0} (P Q : Link B S → Type 0) → ((w : Link B S) → P w → Q w) → (ms : List (Member B S)) → Each P ms → Each Q ms
each_gives P Q gives [] p = tt
each_gives P Q gives (m ∷ ms) p = (gives m.link p.0, each_gives P Q gives ms p.1)

-- from new links on
new_accord : {B S : Type 0} (ms : List (Member B S)) → AllNew ms → Each Accords ms
new_accord {B} {S} ms n = each_gives (λ w. (s : S) × (w ≡ new_link s)) Accords (λ w e. subst Accords (sym e.1) (new_accords e.0)) ms n

pub run_each : {B S : Type 0} (v : Server B S) (P : Link B S → Type 0) → ((w : Link B S) (e : Event B S) → P w → P (happens v w e)) → (ms : List (Member B S)) (es : List (SegmentEvent B S)) → Distinct (stations_of ms) → MayRun v ms es → Each P ms → Each P (segment_run v ms es)
run_each v P kept ms [] d f p = p
run_each v P kept ms (e ∷ es) d f p =
    run_each v P kept (segment_happens v ms e) es (subst Distinct (sym (segment_stations v ms e d f.0)) d) f.1 (segment_keeps_all v P kept ms e d f.0 p)

pub run_from_new : {B S : Type 0} (v : Server B S) (ms : List (Member B S)) (es : List (SegmentEvent B S)) → Distinct (stations_of ms) → AllNew ms → MayRun v ms es → Each Accords (segment_run v ms es)
run_from_new v ms es d n f = run_each v Accords (happens_accords v) ms es d f (new_accord ms n)
