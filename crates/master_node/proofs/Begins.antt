-- The packets that begin while a frame is made.
use Rattle.std.proofs.Common.{◌≡◌, ◌⊎◌, inl, inr, ◌<◌, ◌==◌, ℕ, zero, suc, Bool, true, false, Option, Some, None, List, [], ◌∷◌, ◌++◌, refl, sym, ap, subst, ◌∙◌, length, append_assoc, append-nil}
use Rattle.std.specs.Prelude.{nat_lt, ◌+◌, if◌then◌else◌, is_some, map, slice_get}
use Rattle.std.proofs.lemmas.Bool.{eq-eqb, eqb-true}
use Rattle.arrayvec.specs.ArrayVec.{ArrayVec}
use Rattle.eoe_switch.specs.Switch.{Switched}
use Rattle.eoe_switch.specs.declared.switching.SwitchEvent.{SwitchEvent}
use Rattle.life_runs.specs.of_frame_view.View.{Lens}
use Rattle.life_runs.specs.of_frame_view.Shares.{AllFrom, IsElsewhere, AreDistinct}
use Rattle.life_runs.specs.Led.{Leads, Turn}
use Rattle.life_runs.specs.of_state_model.Stated.{Service}
use Rattle.life_runs.specs.of_master_hand.Laying.{Waiting, asked_next, ready_by, ready_of}
use Rattle.life_runs.specs.of_master_hand.Spoken.{Asked, net}
use Rattle.life_runs.specs.of_protocol_models.EoeClient as EoeClient
use Rattle.life_runs.specs.of_master_hand.Talk.{asked_of}
use Rattle.life_runs.specs.of_master_hand.declared.hand.InHand.{InHand}
use Rattle.life_runs.specs.of_master_hand.declared.laying.Laid.{Laid}
use Rattle.life_runs.specs.of_master_side.Shown.{wish_begun, wished, takes_ready}
use Rattle.life_runs.specs.of_master_side.declared.carried.Wish.{Wish}
use Rattle.life_runs.specs.of_master_side.declared.hand.Hand.{Ghosts}
use Rattle.life_runs.specs.of_master_tour.Made.{is_in}
use Rattle.life_runs.specs.of_life_model.Lives.{Spot}
use Rattle.life_runs.specs.of_master_tour.Walks.{StepsAt}
use Rattle.life_runs.specs.of_master_tour.declared.stop.Stop.{Stop}
use Rattle.life_runs.specs.of_segment_plan.declared.service.Service as Plan
use Rattle.master_node.specs.Begins.{Taken, switch_on, switch_behind, oldest_by, taken_by, taken_in, begins_by, begins_in, begun_of, begun_for, HasTaken, TakesOn, taken_where, LaysOldest, NoneMore, PacketFirst, begins_other, HasBegun, PacketsBegin}
use Rattle.master_node.specs.Coming.{IsComing, IsLaid, next_of, wish_of}
use Rattle.master_node.specs.Filling.{IsAmong}
use Rattle.master_node.specs.Forwards.{forwarded, port_by, waiting_by}
use Rattle.master_node.specs.Happened.{events_of}
use Rattle.master_node.specs.Shows.{lived_of}
use Rattle.master_node.specs.Passes.{IsMailReady, IsNextState}
use Rattle.master_node.specs.declared.coming.Coming.{Coming}
use Rattle.master_node.specs.declared.happened.Happening.{Happening}
use Rattle.master_node.specs.declared.lan.Lan.{Lan}
use Rattle.master_node.proofs.Fills.{begun_at}
use Rattle.master_node.proofs.Happenings.{events_push}
use Rattle.master_node.proofs.Lefts.{true_false, in_here, in_first, in_last, in_more, not_in, once_more}

-- ---- one event more

behind_push : (s : Switched) (es : List SwitchEvent) (e : SwitchEvent) → switch_behind s (es ++ e ∷ []) ≡ switch_on (switch_behind s es) e
behind_push s [] e = refl
behind_push s (d ∷ es) e = behind_push (switch_on s d) es e

taken_push : (s : Switched) (es : List SwitchEvent) (e : SwitchEvent) → taken_in s (es ++ e ∷ []) ≡ taken_in s es ++ taken_by (switch_behind s es) e
taken_push s [] e = append-nil (taken_by s e)
taken_push s (d ∷ es) e =
    ap (λ z. taken_by s d ++ z) (taken_push (switch_on s d) es e) ∙ sym (append_assoc (taken_by s d) (taken_in (switch_on s d) es) (taken_by (switch_behind (switch_on s d) es) e))

pub takes_one : (more : List Taken) (l l' : Lan) (r : Happening) → l'.ports ≡ l.ports → (length l.happened < 17 → l'.happened ≡ l.happened ++ r ∷ []) → l'.switch ≡ switch_on l.switch r.event → taken_by l.switch r.event ≡ more → TakesOn more l l'
takes_one more l l' r p listed s t = record {
  ports = p;
  takes = λ from taken room h.
      let es : events_of l'.happened ≡ events_of l.happened ++ r.event ∷ [] = ap (λ (z : List Happening). events_of z) (listed room) ∙ events_push l.happened r in
      record {
        switch = ap (λ z. switch_behind from z) es ∙ behind_push from (events_of l.happened) r.event ∙ ap (λ z. switch_on z r.event) h.switch ∙ sym s;
        taken_is = ap (λ z. taken_in from z) es ∙ taken_push from (events_of l.happened) r.event ∙ (λ i. h.taken_is i ++ taken_by (h.switch i) r.event) ∙ ap (λ z. taken ++ z) t;
      };
}

-- nothing more
pub takes_none : (more : List Taken) (l l' : Lan) → [] ≡ more → l' ≡ l → TakesOn more l l'
takes_none more l l' m e = record {
  ports = ap (λ z. z.ports) e;
  takes = λ from taken room h. subst (λ z. HasTaken from z l') (sym (append-nil taken) ∙ ap (λ z. taken ++ z) m) (subst (λ z. HasTaken from taken z) (sym e) h);
}

pub takes_from : (more : List Taken) (l m n : Lan) → m ≡ l → TakesOn more m n → TakesOn more l n
takes_from more l m n e t = subst (λ z. TakesOn more z n) e t

-- before any
pub has_none : (l : Lan) (from : Switched) → l.switch ≡ from → l.happened ≡ [] → HasTaken from [] l
has_none l from s e = record {
  switch = ap (λ (z : List Happening). switch_behind from (events_of z)) e ∙ sym s;
  taken_is = ap (λ (z : List Happening). taken_in from (events_of z)) e;
}

-- ---- what came into hand

begins_push : (ports : List (Option ℕ)) (b : ℕ → Option (Service Asked)) (ps : List ℕ) (p : ℕ) → begins_in ports b (ps ++ p ∷ []) ≡ begins_in ports b ps ++ begins_by (port_by (slice_get ports p)) (b p)
begins_push ports b [] p = append-nil (begins_by (port_by (slice_get ports p)) (b p))
begins_push ports b (q ∷ ps) p =
    ap (λ z. begins_by (port_by (slice_get ports q)) (b q) ++ z) (begins_push ports b ps p) ∙ sym (append_assoc (begins_by (port_by (slice_get ports q)) (b q)) (begins_in ports b ps) (begins_by (port_by (slice_get ports p)) (b p)))

begins_same : (ports : List (Option ℕ)) (b c : ℕ → Option (Service Asked)) (ps : List ℕ) → ((k : ℕ) → is_in k ps ≡ true → c k ≡ b k) → begins_in ports b ps ≡ begins_in ports c ps
begins_same ports b c [] h = refl
begins_same ports b c (q ∷ ps) h =
    let here = sym (h q (in_here q q ps (eq-eqb q q refl))) in
    let rest = begins_same ports b c ps (λ k e. h k (in_last k (q ∷ []) ps e)) in
    λ i. begins_by (port_by (slice_get ports q)) (here i) ++ rest i

-- where nothing did
pub nothing_for : (as' : List Leads) (k : ℕ) → begun_for (λ j. None) as' k ≡ None
nothing_for [] k = refl
nothing_for (a ∷ as') zero = refl
nothing_for (a ∷ as') (suc k) = nothing_for as' k

pub begun_nothing : (from : Switched) (left : List ℕ) (as' : List Leads) (l : Lan) → HasTaken from [] l → HasBegun from left (λ j. None) as' l
begun_nothing from left as' l h = record {
  visited = [];
  once = tt;
  over = λ k e. absurd (cc);
  took = h;
  others = λ k port e. ap (λ z. begins_by port z) (nothing_for as' k);
  quiet = λ k e. absurd (let w = sym (ap (λ z. begins_other z) (nothing_for as' k)) ∙ e in cc);
}

pub begun_on : (from : Switched) (left : List ℕ) (begun : ℕ → Option (Service Asked)) (as' : List Leads) (l l' : Lan) → l' ≡ l → HasBegun from left begun as' l → HasBegun from left begun as' l'
begun_on from left begun as' l l' e h = subst (λ z. HasBegun from left begun as' z) (sym e) h

-- the place in the ring of the slave at a place of the tour
abbrev pub spot_at : List Leads → ℕ → Option ℕ
spot_at [] k = None
spot_at (a ∷ as') zero = Some a.lived.spot.place
spot_at (a ∷ as') (suc k) = spot_at as' k

pub spot_here : {G : Ghosts InHand} (lens : ℕ → Lens) (begun : ℕ → Option (Service Asked)) (left : List ℕ) (h i p : ℕ) (as' : List Leads) (ss ts : List (Stop InHand G)) → AllFrom (λ j a s. IsAmong lens begun left j a s) i as' ss → StepsAt (λ s t. s.place ≡ h) p ss ts → spot_at as' p ≡ Some h
spot_here lens begun left h i zero [] [] ts m e = absurd e
spot_here lens begun left h i (suc p) [] [] ts m e = absurd e
spot_here lens begun left h i p [] (s ∷ ss) ts m e = absurd m
spot_here lens begun left h i p (a ∷ as') [] ts m e = absurd m
spot_here lens begun left h i zero (a ∷ as') (s ∷ ss) [] m e = absurd e
spot_here lens begun left h i (suc p) (a ∷ as') (s ∷ ss) [] m e = absurd e
spot_here lens begun left h i zero (a ∷ as') (s ∷ ss) (t ∷ ts) m e = ap (λ z. Some z) (sym m.0.place ∙ e.0)
spot_here lens begun left h i (suc p) (a ∷ as') (s ∷ ss) (t ∷ ts) m e = spot_here lens begun left h (suc i) p as' ss ts m.1 e.1

-- one more came into hand, of the slave at a place
module _ (begun : ℕ → Option (Service Asked)) (h : ℕ) (b : Option (Service Asked)) where
  here_is : (k : ℕ) → k ≡ h → begun_at begun h b k ≡ b
  here_is k e = ap (λ (z : Bool). if z then b else begun k) (eq-eqb k h e)

  away_is : (k : ℕ) → (h == k) ≡ false → begun_at begun h b k ≡ begun k
  away_is k n = go (k == h) refl
    where
      go : (z : Bool) → (k == h) ≡ z → (if k == h then b else begun k) ≡ begun k
      go true f = absurd (let w = eq-eqb h k (sym (eqb-true k h f)) in true_false (h == k) w n)
      go false f = ap (λ (z : Bool). if z then b else begun k) f

  pub at_place : (as' : List Leads) (p : ℕ) → spot_at as' p ≡ Some h → begun_for (begun_at begun h b) as' p ≡ b
  at_place [] p e = absurd (cc)
  at_place (a ∷ as') zero e = let f : a.lived.spot.place ≡ h = cc in here_is a.lived.spot.place f
  at_place (a ∷ as') (suc p) e = at_place as' p e

  elsewhere : (spot : Spot) (as' : List Leads) (k : ℕ) → spot.place ≡ h → IsElsewhere spot (map lived_of as') → begun_for (begun_at begun h b) as' k ≡ begun_for begun as' k
  elsewhere spot [] k e d = refl
  elsewhere spot (a ∷ as') zero e d = away_is a.lived.spot.place (subst (λ z. (z == a.lived.spot.place) ≡ false) e d.0.place)
  elsewhere spot (a ∷ as') (suc k) e d = elsewhere spot as' k e d.1

  apart_from : (spot : Spot) (as' : List Leads) (p : ℕ) → spot_at as' p ≡ Some h → IsElsewhere spot (map lived_of as') → (spot.place == h) ≡ false
  apart_from spot [] p e d = absurd (cc)
  apart_from spot (a ∷ as') zero e d = let f : a.lived.spot.place ≡ h = cc in subst (λ z. (spot.place == z) ≡ false) f d.0.place
  apart_from spot (a ∷ as') (suc p) e d = apart_from spot as' p e d.1

  turned : (k : ℕ) → (k == h) ≡ false → begun_at begun h b k ≡ begun k
  turned k n = ap (λ (z : Bool). if z then b else begun k) n

  pub at_other : (as' : List Leads) (p k : ℕ) → AreDistinct (map lived_of as') → spot_at as' p ≡ Some h → (k ≡ p → ⊥) → begun_for (begun_at begun h b) as' k ≡ begun_for begun as' k
  at_other [] p k d e n = refl
  at_other (a ∷ as') zero zero d e n = absurd (n refl)
  at_other (a ∷ as') zero (suc k) d e n = let f : a.lived.spot.place ≡ h = cc in elsewhere a.lived.spot as' k f d.0
  at_other (a ∷ as') (suc p) zero d e n = turned a.lived.spot.place (apart_from a.lived.spot as' p e d.0)
  at_other (a ∷ as') (suc p) (suc k) d e n = at_other as' p k d.1 e (λ q. n (ap suc q))

-- THE VISIT of the slave at a place goes on with it
pub begun_step : (from : Switched) (left next : List ℕ) (begun : ℕ → Option (Service Asked)) (as' : List Leads) (l l' : Lan) (p h : ℕ) (b : Option (Service Asked)) (more : List Taken) → AreDistinct (map lived_of as') → spot_at as' p ≡ Some h → length l.happened < 17 →
    is_in p left ≡ true → is_in p next ≡ false → ((k : ℕ) → is_in k next ≡ true → is_in k left ≡ true) → more ≡ begins_by (port_by (slice_get l.ports.items p)) b → TakesOn more l l' → NoneMore l l' → (begins_other b ≡ true → forwarded l.switch l.ports.items p ≡ []) → HasBegun from left begun as' l → HasBegun from next (begun_at begun h b) as' l'
begun_step from left next begun as' l l' p h b more d e room at over fewer m t less waits x =
    let now = begun_at begun h b in
    let new : is_in p x.visited ≡ false = not_in p x.visited (λ w. true_false (is_in p left) at (x.over p w)) in
    let apart : (k : ℕ) → is_in k x.visited ≡ true → k ≡ p → ⊥ = λ k w q. true_false (is_in p x.visited) (subst (λ z. is_in z x.visited ≡ true) q w) new in
    let was : begins_in l.ports.items (begun_for begun as') x.visited ≡ begins_in l.ports.items (begun_for now as') x.visited = begins_same l.ports.items (begun_for begun as') (begun_for now as') x.visited (λ k w. at_other begun h b as' p k d e (apart k w)) in
    let is : more ≡ begins_by (port_by (slice_get l.ports.items p)) (begun_for now as' p) = m ∙ ap (λ z. begins_by (port_by (slice_get l.ports.items p)) z) (sym (at_place begun h b as' p e)) in
    let all : begins_in l.ports.items (begun_for begun as') x.visited ++ more ≡ begins_in l'.ports.items (begun_for now as') (x.visited ++ p ∷ []) =
    (λ i. was i ++ is i) ∙ sym (begins_push l.ports.items (begun_for now as') x.visited p) ∙ ap (λ z. begins_in z.items (begun_for now as') (x.visited ++ p ∷ [])) (sym t.ports) in
    record {
      visited = x.visited ++ p ∷ [];
      once = once_more p x.visited x.once new;
      over = λ k w.
          in_more k p x.visited (is_in k next ≡ false) (λ u. not_in k next (λ v. true_false (is_in k left) (fewer k v) (x.over k u))) (λ q. subst (λ z. is_in z next ≡ false) (sym q) over) w;
      took = subst (λ z. HasTaken from z l') all (t.takes from (begins_in l.ports.items (begun_for begun as') x.visited) room x.took);
      others = λ k port w.
          let out : is_in k x.visited ≡ false = not_in k x.visited (λ v. true_false (is_in k (x.visited ++ p ∷ [])) (in_first k x.visited (p ∷ []) v) w) in
          let not_p : k ≡ p → ⊥ = λ q. true_false (is_in k (x.visited ++ p ∷ [])) (in_last k x.visited (p ∷ []) (in_here k p [] (eq-eqb k p q))) w in
          ap (λ z. begins_by port z) (at_other begun h b as' p k d e not_p) ∙ x.others k port out;
      quiet = λ k w. less k (was_quiet k (k == p) refl w);
    }
  where
    was_quiet : (k : ℕ) (z : Bool) → (k == p) ≡ z → begins_other (begun_for (begun_at begun h b) as' k) ≡ true → forwarded l.switch l.ports.items k ≡ []
    was_quiet k true f w =
        let q = eqb-true k p f in
        let same : begun_for (begun_at begun h b) as' k ≡ b = ap (λ j. begun_for (begun_at begun h b) as' j) q ∙ at_place begun h b as' p e in
        subst (λ j. forwarded l.switch l.ports.items j ≡ []) (sym q) (waits (ap (λ z. begins_other z) (sym same) ∙ w))
    was_quiet k false f w =
        x.quiet k (ap (λ z. begins_other z) (sym (at_other begun h b as' p k d e (λ q. true_false (k == p) (eq-eqb k p q) f))) ∙ w)

-- the turns of a frame
pub packets_begin : (from : Switched) (left : List ℕ) (begun : ℕ → Option (Service Asked)) (as' : List Leads) (us : List Turn) (l : Lan) → ((k : ℕ) → begun_of us k ≡ begun_for begun as' k) → HasBegun from left begun as' l → PacketsBegin from us l
packets_begin from left begun as' us l h x = record {
  visited = x.visited;
  once = x.once;
  taken = x.took.taken_is ∙ begins_same l.ports.items (begun_for begun as') (begun_of us) x.visited (λ k e. h k);
  others = λ k port e. ap (λ z. begins_by port z) (h k) ∙ x.others k port e;
  quiet = λ k e. x.quiet k (ap (λ z. begins_other z) (sym (h k)) ∙ e);
}

-- ---- what leaves the switch

oldest_is : (s : Switched) (o : Option ℕ) (packet : ArrayVec ℕ) → slice_get (waiting_by s o) 0 ≡ Some packet → oldest_by s o ≡ record { port = o; packet = Some packet } ∷ []
oldest_is s None packet e = absurd (cc)
oldest_is s (Some port) packet e = ap (λ (z : Option (ArrayVec ℕ)). record { port = Some port; packet = z } ∷ []) e

set_not : (room : ℕ) (port : Option ℕ) (block : List ℕ) → begins_by port (wished Wish.Mails (asked_of room (Plan.Service.SetIp block))) ≡ []
set_not room port block = go (nat_lt room (length block + 10))
  where
    go : (z : Bool) → begins_by port (wished Wish.Mails (if z then None else Some (net (EoeClient.set_ip block)))) ≡ []
    go true = refl
    go false = refl

-- a script hands over no packet
script_not : (room : ℕ) (port : Option ℕ) (s : Plan.Service) → begins_by port (wished Wish.Mails (asked_of room s)) ≡ []
script_not room port (Plan.Service.Sdo service) = refl
script_not room port (Plan.Service.ReadFile name pass) = refl
script_not room port (Plan.Service.WriteFile name pass bytes) = refl
script_not room port (Plan.Service.ReadIdn number idn elements) = refl
script_not room port (Plan.Service.WriteIdn number idn elements bytes) = refl
script_not room port (Plan.Service.SetIp block) = set_not room port block
script_not room port Plan.Service.GetIp = refl
script_not room port (Plan.Service.State state) = refl
script_not room port (Plan.Service.Forward packet) = refl

next_not : (room : ℕ) (port : Option ℕ) (next : Option Plan.Service) → begins_by port (wished Wish.Mails (asked_next room next)) ≡ []
next_not room port None = refl
next_not room port (Some s) = script_not room port s

-- the oldest, if a packet was laid ready
packet_leaves : (s : Switched) (o : Option ℕ) (w : Waiting) → (w.laid ≡ Laid.Packet) ⊎ (w.laid ≡ Laid.Nothing) → is_some (ready_of w) ≡ true → (w.laid ≡ Laid.Packet → slice_get (waiting_by s o) 0 ≡ Some (record { items = w.packet })) → oldest_by s o ≡ begins_by o (wished Wish.Mails (ready_of w))
packet_leaves s o w (inl e) r h = oldest_is s o (record { items = w.packet }) (h e) ∙ sym (ap (λ z. begins_by o (wished Wish.Mails (ready_by z w))) e)
packet_leaves s o w (inr e) r h = absurd (let f = sym (ap (λ z. is_some (ready_by z w)) e) ∙ r in cc)

pub leaves_here : {G : Ghosts InHand} (l : Lan) (place : ℕ) (coming : Option Coming) (result : Bool) (s : Stop InHand G) → IsComing (next_of s) coming → IsLaid coming s.side.hand.laying.laid → (takes_ready result (wish_of coming) ≡ true → is_some (ready_of s.side.hand.laying) ≡ true) → LaysOldest l place coming s →
    taken_where result l place coming ≡ begins_by (port_by (slice_get l.ports.items place)) (wish_begun result (wish_of coming) (ready_of s.side.hand.laying))
leaves_here l place coming false s c d r o = refl
leaves_here l place None true s c d r o = refl
leaves_here l place (Some Coming.Packet) true s c d r o = packet_leaves l.switch (port_by (slice_get l.ports.items place)) s.side.hand.laying d (r refl) o
leaves_here l place (Some Coming.Mail) true s c d r o = absurd c
leaves_here l place (Some Coming.Script) true s c d r o =
    let w = s.side.hand.laying in
    sym (ap (λ z. begins_by (port_by (slice_get l.ports.items place)) (wished Wish.Mails (ready_by z w))) d ∙ next_not w.areas.out (port_by (slice_get l.ports.items place)) (slice_get w.script w.number))
leaves_here l place (Some (Coming.State target)) true s c d r o = refl

-- so it is where a mail may come that is passed on
pub leaves_served : {G : Ghosts InHand} (l : Lan) (place : ℕ) (coming : Option Coming) (result : Bool) (s : Stop InHand G) → IsNextState (next_of s) coming → IsLaid coming s.side.hand.laying.laid →
    (takes_ready result (wish_of coming) ≡ true → is_some (ready_of s.side.hand.laying) ≡ true) → LaysOldest l place coming s → IsMailReady coming s.side.hand.laying →
    taken_where result l place coming ≡ begins_by (port_by (slice_get l.ports.items place)) (wish_begun result (wish_of coming) (ready_of s.side.hand.laying))
leaves_served l place None result s n d r o m = leaves_here l place None result s n d r o
leaves_served l place (Some Coming.Packet) result s n d r o m = leaves_here l place (Some Coming.Packet) result s n d r o
leaves_served l place (Some Coming.Mail) false s n d r o m = refl
leaves_served l place (Some Coming.Mail) true s n d r o m = sym (ap (λ z. begins_by (port_by (slice_get l.ports.items place)) (wished Wish.Mails z)) m.1)
leaves_served l place (Some Coming.Script) result s n d r o m = leaves_here l place (Some Coming.Script) result s n d r o
leaves_served l place (Some (Coming.State target)) result s n d r o m = leaves_here l place (Some (Coming.State target)) result s n d r o

-- where another service came none waits
packet_only : (w : Waiting) → (w.laid ≡ Laid.Packet) ⊎ (w.laid ≡ Laid.Nothing) → begins_other (wished Wish.Mails (ready_of w)) ≡ true → ⊥
packet_only w (inl k) e = let f = sym (ap (λ z. begins_other (wished Wish.Mails (ready_by z w))) k) ∙ e in cc
packet_only w (inr k) e = let f = sym (ap (λ z. begins_other (wished Wish.Mails (ready_by z w))) k) ∙ e in cc

pub none_waits : {G : Ghosts InHand} (l : Lan) (place : ℕ) (coming : Option Coming) (result : Bool) (s : Stop InHand G) → IsLaid coming s.side.hand.laying.laid → PacketFirst l place coming → begins_other (wish_begun result (wish_of coming) (ready_of s.side.hand.laying)) ≡ true →
    forwarded l.switch l.ports.items place ≡ []
none_waits l place coming false s d f e = absurd (cc)
none_waits l place None true s d f e = absurd (cc)
none_waits l place (Some Coming.Packet) true s d f e = absurd (packet_only s.side.hand.laying d e)
none_waits l place (Some Coming.Mail) true s d f e = f
none_waits l place (Some Coming.Script) true s d f e = f
none_waits l place (Some (Coming.State target)) true s d f e = f

-- what is so of each is so
pub steps_any : {S : Type 0} (Q : Type 0) (i : ℕ) (xs ys : List S) → StepsAt (λ x y. Q) i xs ys → Q
steps_any Q zero [] ys e = absurd e
steps_any Q (suc i) [] ys e = absurd e
steps_any Q zero (x ∷ xs) [] e = absurd e
steps_any Q (suc i) (x ∷ xs) [] e = absurd e
steps_any Q zero (x ∷ xs) (y ∷ ys) e = e.0
steps_any Q (suc i) (x ∷ xs) (y ∷ ys) e = steps_any Q i xs ys e.1
