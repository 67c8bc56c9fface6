-- The services that are listed as begun while a frame is made.
use Rattle.std.proofs.Common.{◌≡◌, ◌⊎◌, inl, inr, ◌<◌, ◌==◌, ◌+◌, ℕ, zero, suc, Bool, true, false, Option, Some, None, List, [], ◌∷◌, ◌++◌, refl, sym, ap, subst, ◌∙◌, arith, length, take, append_assoc, append-nil, get_or, set}
use Rattle.std.specs.Prelude.{All, is_some, map, nat_lt, slice_get, if◌then◌else◌}
use Rattle.std.proofs.lemmas.Bool.{eq-eqb, eqb-true}
use Rattle.std.proofs.lemmas.List.{take-append-drop}
use Rattle.std.proofs.lemmas.List.Elements.{All-head, All-tail}
use Rattle.life_runs.specs.of_frame_view.View.{Lens}
use Rattle.life_runs.specs.of_frame_view.Shares.{AllFrom, AreDistinct}
use Rattle.life_runs.specs.Led.{Leads, Turn}
use Rattle.life_runs.specs.of_state_model.Stated.{Service}
use Rattle.life_runs.specs.of_master_hand.Laying.{Waiting, asked_next, ready_by, ready_of, scripted}
use Rattle.life_runs.specs.of_master_hand.Spoken.{Asked, net}
use Rattle.life_runs.specs.of_protocol_models.EoeClient as EoeClient
use Rattle.life_runs.specs.of_master_hand.Talk.{asked_of}
use Rattle.life_runs.specs.of_master_hand.declared.hand.InHand.{InHand}
use Rattle.life_runs.specs.of_master_hand.declared.laying.Laid.{Laid}
use Rattle.life_runs.specs.of_master_side.Shown.{wish_begun, wished, takes_ready}
use Rattle.life_runs.specs.of_master_side.declared.carried.Wish.{Wish}
use Rattle.life_runs.specs.of_master_side.declared.hand.Hand.{Ghosts}
use Rattle.life_runs.specs.of_master_tour.Made.{is_in}
use Rattle.life_runs.specs.of_master_tour.Walks.{StepsAt}
use Rattle.life_runs.specs.of_master_tour.declared.stop.Stop.{Stop}
use Rattle.life_runs.specs.of_segment_plan.declared.service.Service as Plan
use Rattle.master_node.specs.Begins.{begun_for, begun_of}
use Rattle.master_node.specs.Coming.{IsComing, IsLaid, next_of, wish_of}
use Rattle.master_node.specs.Filling.{IsAmong}
use Rattle.master_node.specs.Listed.{listed, listed_before, listed_last}
use Rattle.master_node.specs.Listing.{ListsOne, HasListed, IsUnlisted, ServicesBegin, began_by, began_from, counted_from, events_before, events_in, forwards_behind, number_at, run_tells, told_in, where_began}
use Rattle.master_node.specs.Origins.{CountsNone, IsFrom, LaysFrom, forwards_at}
use Rattle.master_node.specs.Shows.{lived_of}
use Rattle.master_node.specs.declared.coming.Coming.{Coming}
use Rattle.master_node.specs.declared.event.Event.{Event}
use Rattle.master_node.specs.declared.event.EventList.{EventList}
use Rattle.master_node.specs.declared.event.Origin.{Origin}
use Rattle.master_node.specs.declared.node.MasterNode.{MasterNode}
use Rattle.master_node.specs.declared.post.Post.{Post}
use Rattle.master_node.proofs.Begins.{at_other, at_place, nothing_for, spot_at, steps_any}
use Rattle.master_node.proofs.Fills.{begun_at}
use Rattle.master_node.proofs.Lists.{steps_trans}
use Rattle.master_node.proofs.Lefts.{true_false, in_here, in_first, in_last, in_more, not_in, once_more}

-- ---- what is counted at posts

pub forwards_set : (ps : List Post) (i : ℕ) (v w : Post) → i < length ps → v ≡ get_or ps i v → w.forwards ≡ v.forwards → (k : ℕ) → forwards_at (set ps i w) k ≡ forwards_at ps k
forwards_set [] i v w l e f k = absurd (omega (arith, l))
forwards_set (p ∷ ps) zero v w l e f zero = f ∙ ap (λ z. z.forwards) e
forwards_set (p ∷ ps) zero v w l e f (suc k) = refl
forwards_set (p ∷ ps) (suc i) v w l e f zero = refl
forwards_set (p ∷ ps) (suc i) v w l e f (suc k) = forwards_set ps i v w (omega (arith, l)) e f k

pub none_counted : (ps : List Post) → All CountsNone ps → (k : ℕ) → forwards_at ps k ≡ 0
none_counted [] h k = refl
none_counted (p ∷ ps) h zero = All-head CountsNone p ps h
none_counted (p ∷ ps) h (suc k) = none_counted ps (All-tail CountsNone p ps h) k

-- of the slave at a place, and of others
first_counts : (X : ℕ → Type 0) (g : ℕ → ℕ) (i : ℕ) (ps qs : List Post) → StepsAt (λ p q. X p.forwards × (q.forwards ≡ g p.forwards)) i ps qs → X (forwards_at ps i) × (forwards_at qs i ≡ g (forwards_at ps i))
first_counts X g zero [] qs e = absurd e
first_counts X g (suc i) [] qs e = absurd e
first_counts X g zero (p ∷ ps) [] e = absurd e
first_counts X g (suc i) (p ∷ ps) [] e = absurd e
first_counts X g zero (p ∷ ps) (q ∷ qs) e = e.0
first_counts X g (suc i) (p ∷ ps) (q ∷ qs) e = first_counts X g i ps qs e.1

other_counts : (P : Post → Post → Type 0) (i : ℕ) (ps qs : List Post) → StepsAt P i ps qs → (k : ℕ) → (k ≡ i → ⊥) → forwards_at qs k ≡ forwards_at ps k
other_counts P zero [] qs e k n = absurd e
other_counts P (suc i) [] qs e k n = absurd e
other_counts P zero (p ∷ ps) [] e k n = absurd e
other_counts P (suc i) (p ∷ ps) [] e k n = absurd e
other_counts P zero (p ∷ ps) (q ∷ qs) e zero n = absurd (n refl)
other_counts P zero (p ∷ ps) (q ∷ qs) e (suc k) n = ap (λ z. forwards_at z k) e.1
other_counts P (suc i) (p ∷ ps) (q ∷ qs) e zero n = ap (λ z. z.forwards) e.0
other_counts P (suc i) (p ∷ ps) (q ∷ qs) e (suc k) n = other_counts P i ps qs e.1 k (λ q. n (ap suc q))

-- one that stays where it is
pub steps_stay : {S : Type 0} (P : S → S → Type 0) (i : ℕ) (xs : List S) (v : S) → i < length xs → v ≡ get_or xs i v → P v v → StepsAt P i xs xs
steps_stay P i [] v l e p = absurd (omega (arith, l))
steps_stay P zero (x ∷ xs) v l e p = (subst (λ z. P z z) e p, refl)
steps_stay P (suc i) (x ∷ xs) v l e p = (refl, steps_stay P i xs v (omega (arith, l)) e p)

-- ---- what is listed

pub told_push : (tells : ℕ → List Event) (ps : List ℕ) (p : ℕ) → told_in tells (ps ++ p ∷ []) ≡ told_in tells ps ++ tells p
told_push tells [] p = append-nil (tells p)
told_push tells (q ∷ ps) p = ap (λ z. tells q ++ z) (told_push tells ps p) ∙ sym (append_assoc (tells q) (told_in tells ps) (tells p))

pub told_same : (f g : ℕ → List Event) (ps : List ℕ) → ((k : ℕ) → is_in k ps ≡ true → f k ≡ g k) → told_in f ps ≡ told_in g ps
told_same f g [] h = refl
told_same f g (q ∷ ps) h =
    let here = h q (in_here q q ps (eq-eqb q q refl)) in
    let rest = told_same f g ps (λ k e. h k (in_last k (q ∷ []) ps e)) in
    λ i. here i ++ rest i

-- before the first visit
pub listed_nothing : (tells : ℕ → ℕ → Option (Service Asked) → List Event) (forwards : ℕ → ℕ) (left : List ℕ) (as' : List Leads) (m : MasterNode) → IsUnlisted forwards m → HasListed tells forwards left (λ j. None) as' m
listed_nothing tells forwards left as' m u = record {
  visited = [];
  once = tt;
  over = λ k e. absurd (cc);
  listed = u.none;
  others = λ k e. nothing_for as' k;
  counts = λ k. u.counts k ∙ ap (λ z. forwards_behind (forwards k) z) (sym (nothing_for as' k));
}

pub events_of_list : (a b : EventList) → b ≡ a → listed_last b.rows.items b.first b.count ≡ listed_last a.rows.items a.first a.count
events_of_list a b e = λ i. listed_last (e i).rows.items (e i).first (e i).count

pub before_of_list : (a b : EventList) → b ≡ a → listed_before b.rows.items b.first b.count ≡ listed_before a.rows.items a.first a.count
before_of_list a b e = λ i. listed_before (e i).rows.items (e i).first (e i).count

pub events_by : (m n : MasterNode) → n.list ≡ m.list → events_in n ≡ events_in m
events_by m n e = λ i. listed_last (e i).rows.items (e i).first (e i).count

-- the events of a frame are those before its last step, and those of it
pub listed_whole : (m : MasterNode) → listed m.list.rows.items m.list.count ≡ events_before m ++ events_in m
listed_whole m = sym (take-append-drop m.list.first (take m.list.count m.list.rows.items))

pub listed_on : (tells : ℕ → ℕ → Option (Service Asked) → List Event) (forwards : ℕ → ℕ) (left : List ℕ) (begun : ℕ → Option (Service Asked)) (as' : List Leads) (m n : MasterNode) → n.list ≡ m.list → n.posts ≡ m.posts → HasListed tells forwards left begun as' m → HasListed tells forwards left begun as' n
listed_on tells forwards left begun as' m n e f x = record {
  visited = x.visited;
  once = x.once;
  over = x.over;
  listed = events_by m n e ∙ x.listed;
  others = x.others;
  counts = λ k. ap (λ z. forwards_at z.items k) f ∙ x.counts k;
}

-- THE VISIT of the slave at a place goes on with it
pub listed_step : (tells : ℕ → ℕ → Option (Service Asked) → List Event) (forwards : ℕ → ℕ) (left next : List ℕ) (begun : ℕ → Option (Service Asked)) (as' : List Leads) (m n : MasterNode) (p h : ℕ) (b : Option (Service Asked)) → AreDistinct (map lived_of as') → spot_at as' p ≡ Some h →
    is_in p left ≡ true → is_in p next ≡ false → ((k : ℕ) → is_in k next ≡ true → is_in k left ≡ true) →
    StepsAt (λ q r. (events_in n ≡ events_in m ++ tells p q.forwards b) × (r.forwards ≡ forwards_behind q.forwards b)) p m.posts.items n.posts.items →
    HasListed tells forwards left begun as' m → HasListed tells forwards next (begun_at begun h b) as' n
listed_step tells forwards left next begun as' m n p h b d e at over fewer steps x =
    let now = begun_at begun h b in
    let new : is_in p x.visited ≡ false = not_in p x.visited (λ w. true_false (is_in p left) at (x.over p w)) in
    let apart : (k : ℕ) → is_in k x.visited ≡ true → k ≡ p → ⊥ = λ k w q. true_false (is_in p x.visited) (subst (λ z. is_in z x.visited ≡ true) q w) new in
    let first = first_counts (λ f. events_in n ≡ events_in m ++ tells p f b) (λ f. forwards_behind f b) p m.posts.items n.posts.items steps in
    let none : begun_for begun as' p ≡ None = x.others p new in
    let before : forwards_at m.posts.items p ≡ forwards p = x.counts p ∙ ap (λ z. forwards_behind (forwards p) z) none in
    let is : begun_for now as' p ≡ b = at_place begun h b as' p e in
    let was : told_in (λ k. tells k (forwards k) (begun_for begun as' k)) x.visited ≡ told_in (λ k. tells k (forwards k) (begun_for now as' k)) x.visited =
    told_same _ _ x.visited (λ k w. ap (λ z. tells k (forwards k) z) (sym (at_other begun h b as' p k d e (apart k w)))) in
    record {
      visited = x.visited ++ p ∷ [];
      once = once_more p x.visited x.once new;
      over = λ k w.
          in_more k p x.visited (is_in k next ≡ false) (λ u. not_in k next (λ v. true_false (is_in k left) (fewer k v) (x.over k u))) (λ q. subst (λ z. is_in z next ≡ false) (sym q) over) w;
      listed = first.0 ∙ (λ i. (x.listed ∙ was) i ++ tells p (before i) (sym is i)) ∙ sym (told_push (λ k. tells k (forwards k) (begun_for now as' k)) x.visited p);
      others = λ k w.
          let out : is_in k x.visited ≡ false = not_in k x.visited (λ v. true_false (is_in k (x.visited ++ p ∷ [])) (in_first k x.visited (p ∷ []) v) w) in
          let not_p : k ≡ p → ⊥ = λ q. true_false (is_in k (x.visited ++ p ∷ [])) (in_last k x.visited (p ∷ []) (in_here k p [] (eq-eqb k p q))) w in
          at_other begun h b as' p k d e not_p ∙ x.others k out;
      counts = λ k. counts_by k (k == p) refl (λ i. forwards_behind (before i) (sym is i)) first.1;
    }
  where
    counts_by : (k : ℕ) (z : Bool) → (k == p) ≡ z → forwards_behind (forwards_at m.posts.items p) b ≡ forwards_behind (forwards p) (begun_for (begun_at begun h b) as' p) → forwards_at n.posts.items p ≡ forwards_behind (forwards_at m.posts.items p) b →
        forwards_at n.posts.items k ≡ forwards_behind (forwards k) (begun_for (begun_at begun h b) as' k)
    counts_by k true f same here =
        let q = eqb-true k p f in
        subst (λ j. forwards_at n.posts.items j ≡ forwards_behind (forwards j) (begun_for (begun_at begun h b) as' j)) (sym q) (here ∙ same)
    counts_by k false f same here =
        let away : k ≡ p → ⊥ = λ q. true_false (k == p) (eq-eqb k p q) f in
        other_counts _ p m.posts.items n.posts.items steps k away ∙ x.counts k ∙ ap (λ z. forwards_behind (forwards k) z) (sym (at_other begun h b as' p k d e away))

-- the turns of a frame
pub services_begin : (forwards : ℕ → ℕ) (left : List ℕ) (begun : ℕ → Option (Service Asked)) (as' : List Leads) (us : List Turn) (m n : MasterNode) → ((k : ℕ) → begun_of us k ≡ begun_for begun as' k) → n.list ≡ m.list → n.posts ≡ m.posts →
    HasListed (run_tells as') forwards left begun as' m → ServicesBegin forwards as' us n
services_begin forwards left begun as' us m n h e f x = record {
  visited = x.visited;
  once = x.once;
  listed = events_by m n e ∙ x.listed ∙ told_same _ _ x.visited (λ k w. ap (λ z. run_tells as' k (forwards k) z) (sym (h k)));
  others = λ k w. h k ∙ x.others k w;
  counts = λ k. ap (λ z. forwards_at z.items k) f ∙ x.counts k ∙ ap (λ z. forwards_behind (forwards k) z) (sym (h k));
}

-- ---- what came into hand was listed so

-- with where it comes from
abbrev pub Came : ℕ → ℕ → ℕ → Origin → Bool → Option Coming → Option (Service Asked) → Type 0
Came place number forwards o result coming b =
    (began_from place (where_began result coming) o ≡ began_by place number forwards b) × (counted_from (where_began result coming) o forwards ≡ forwards_behind forwards b)

set_came : (place number forwards room : ℕ) (block : List ℕ) (coming : Coming) → coming ≡ Coming.Script → is_some (asked_of room (Plan.Service.SetIp block)) ≡ true →
    Came place number forwards (Origin.Script number) true (Some Coming.Script) (wished Wish.Mails (asked_of room (Plan.Service.SetIp block)))
set_came place number forwards room block coming e r = go (nat_lt room (length block + 10)) r
  where
    go : (z : Bool) → is_some (if z then None else Some (net (EoeClient.set_ip block))) ≡ true → Came place number forwards (Origin.Script number) true (Some Coming.Script) (wished Wish.Mails (if z then None else Some (net (EoeClient.set_ip block))))
    go true f = absurd (cc)
    go false f = (refl, refl)

-- a script hands over no packet
script_came : (place number forwards room : ℕ) (s : Plan.Service) → is_some (asked_of room s) ≡ true → Came place number forwards (Origin.Script number) true (Some Coming.Script) (wished Wish.Mails (asked_of room s))
script_came place number forwards room (Plan.Service.Sdo service) r = (refl, refl)
script_came place number forwards room (Plan.Service.ReadFile name pass) r = (refl, refl)
script_came place number forwards room (Plan.Service.WriteFile name pass bytes) r = (refl, refl)
script_came place number forwards room (Plan.Service.ReadIdn n idn elements) r = (refl, refl)
script_came place number forwards room (Plan.Service.WriteIdn n idn elements bytes) r = (refl, refl)
script_came place number forwards room (Plan.Service.SetIp block) r = set_came place number forwards room block Coming.Script refl r
script_came place number forwards room Plan.Service.GetIp r = (refl, refl)
script_came place number forwards room (Plan.Service.State state) r = absurd (cc)
script_came place number forwards room (Plan.Service.Forward packet) r = absurd (cc)

pub next_came : (place number forwards room : ℕ) (next : Option Plan.Service) → is_some (asked_next room next) ≡ true → Came place number forwards (Origin.Script number) true (Some Coming.Script) (wished Wish.Mails (asked_next room next))
next_came place number forwards room None r = absurd (cc)
next_came place number forwards room (Some s) r = script_came place number forwards room s r

pub packet_came : (place number forwards : ℕ) (w : Waiting) → (w.laid ≡ Laid.Packet) ⊎ (w.laid ≡ Laid.Nothing) → is_some (ready_of w) ≡ true → Came place number forwards (Origin.Forward forwards) true (Some Coming.Packet) (wished Wish.Mails (ready_of w))
packet_came place number forwards w (inl e) r = subst (λ z. Came place number forwards (Origin.Forward forwards) true (Some Coming.Packet) (wished Wish.Mails (ready_by z w))) (sym e) (refl, refl)
packet_came place number forwards w (inr e) r = absurd (let f = sym (ap (λ z. is_some (ready_by z w)) e) ∙ r in cc)

pub from_same : (place number forwards : ℕ) (o p : Origin) (result : Bool) (coming : Option Coming) (b : Option (Service Asked)) → o ≡ p → Came place number forwards p result coming b → Came place number forwards o result coming b
from_same place number forwards o p result coming b e c = subst (λ z. Came place number forwards z result coming b) (sym e) c

pub came_so : {G : Ghosts InHand} (place number forwards : ℕ) (o : Origin) (coming : Option Coming) (result : Bool) (s : Stop InHand G) → IsComing (next_of s) coming → IsLaid coming s.side.hand.laying.laid → (takes_ready result (wish_of coming) ≡ true → is_some (ready_of s.side.hand.laying) ≡ true) →
    IsFrom coming number forwards o → Came place number forwards o result coming (wish_begun result (wish_of coming) (ready_of s.side.hand.laying))
came_so place number forwards o coming false s c d r f = (refl, refl)
came_so place number forwards o None true s c d r f = (refl, refl)
came_so place number forwards o (Some Coming.Packet) true s c d r f = from_same place number forwards o (Origin.Forward forwards) true (Some Coming.Packet) _ f (packet_came place number forwards s.side.hand.laying d (r refl))
came_so place number forwards o (Some Coming.Mail) true s c d r f = absurd c
came_so place number forwards o (Some Coming.Script) true s c d r f =
    let w = s.side.hand.laying in
    from_same place number forwards o (Origin.Script number) true (Some Coming.Script) _ f
    (subst (λ z. Came place number forwards (Origin.Script number) true (Some Coming.Script) (wished Wish.Mails (ready_by z w))) (sym d)
    (next_came place number forwards w.areas.out (slice_get w.script w.number) (subst (λ z. is_some (ready_by z w) ≡ true) d (r refl))))
came_so place number forwards o (Some (Coming.State target)) true s c d r f = from_same place number forwards o (Origin.Script number) true (Some (Coming.State target)) (Some (Service.State target.state)) f (refl, refl)

-- ---- the number of the script's next

pub number_here : {G : Ghosts InHand} (lens : ℕ → Lens) (begun : ℕ → Option (Service Asked)) (left : List ℕ) (P : Stop InHand G → Stop InHand G → Type 0) → ((s t : Stop InHand G) → P s t → scripted t.side.hand.laying ≡ scripted s.side.hand.laying) → (i p m : ℕ) (as' : List Leads) (ss ts : List (Stop InHand G)) →
    m ≡ i + p → is_in m left ≡ true → AllFrom (λ j a s. IsAmong lens begun left j a s) i as' ss → StepsAt P p ss ts → StepsAt (λ s t. t.side.hand.laying.number ≡ number_at as' p) p ss ts
number_here lens begun left P h i zero m [] [] ts e l a f = absurd f
number_here lens begun left P h i (suc p) m [] [] ts e l a f = absurd f
number_here lens begun left P h i p m [] (s ∷ ss) ts e l a f = absurd a
number_here lens begun left P h i p m (x ∷ as') [] ts e l a f = absurd a
number_here lens begun left P h i zero m (x ∷ as') (s ∷ ss) [] e l a f = absurd f
number_here lens begun left P h i (suc p) m (x ∷ as') (s ∷ ss) [] e l a f = absurd f
number_here lens begun left P h i zero m (x ∷ as') (s ∷ ss) (t ∷ ts) e l a f =
    let g : m ≡ i = omega (arith, e) in
    (ap (λ w. w.number) (h s t f.0) ∙ a.0.still (subst (λ z. is_in z left ≡ true) g l), f.1)
number_here lens begun left P h i (suc p) m (x ∷ as') (s ∷ ss) (t ∷ ts) e l a f = (f.0, number_here lens begun left P h (suc i) p m as' ss ts (omega (arith, e)) l a.1 f.1)

-- ---- a visit

-- what was laid ready at the place of a slave, by the number of its script's next
pub laid_from : {G : Ghosts InHand} (coming : Option Coming) (number place : ℕ) (ps qs : List Post) (s0 s1 s2 : List (Stop InHand G)) → StepsAt (λ s t. t.side.hand.laying.number ≡ number) place s0 s1 →
    StepsAt (λ s t. StepsAt (λ p q. LaysFrom coming s.side.hand.laying.number p q) place ps qs) place s1 s2 → StepsAt (λ p q. LaysFrom coming number p q) place ps qs
laid_from coming number place ps qs s0 s1 s2 e h =
    let so = StepsAt (λ p q. LaysFrom coming number p q) place ps qs in
    steps_any so place s0 s2
    (steps_trans (λ s t. t.side.hand.laying.number ≡ number) (λ s t. StepsAt (λ p q. LaysFrom coming s.side.hand.laying.number p q) place ps qs) (λ s t. so) place s0 s1 s2
    (λ s t u a b. subst (λ z. StepsAt (λ p q. LaysFrom coming z p q) place ps qs) a b) e h)

-- as it is told of what came into hand, with where it was laid ready from
abbrev pub ToldSo : (ℕ → ℕ → Option (Service Asked) → List Event) → ℕ → Option Coming → Option (Service Asked) → Post → Post → Type 0
ToldSo tells place coming b p q = (q.forwards ≡ p.forwards) × (began_from place coming q.origin ≡ tells place p.forwards b) × (counted_from coming q.origin p.forwards ≡ forwards_behind p.forwards b)

-- and what was listed then
pub listed_visit : (tells : ℕ → ℕ → Option (Service Asked) → List Event) (place : ℕ) (coming : Option Coming) (b : Option (Service Asked)) (m l n : MasterNode) → l.list ≡ m.list → m.list.count < 97 → StepsAt (λ p q. ToldSo tells place coming b p q) place m.posts.items l.posts.items →
    StepsAt (λ p q. ListsOne place coming l n p q) place l.posts.items n.posts.items →
    StepsAt (λ q r. (events_in n ≡ events_in m ++ tells place q.forwards b) × (r.forwards ≡ forwards_behind q.forwards b)) place m.posts.items n.posts.items
listed_visit tells place coming b m l n e few told lists =
    steps_trans (λ p q. ToldSo tells place coming b p q) (λ p q. ListsOne place coming l n p q) (λ q r. (events_in n ≡ events_in m ++ tells place q.forwards b) × (r.forwards ≡ forwards_behind q.forwards b)) place m.posts.items l.posts.items n.posts.items
    (λ p q r x y. (y.listed (subst (λ w. w.count < 97) (sym e) few) ∙ (λ i. events_by m l e i ++ x.1 i), y.counts ∙ ap (λ w. counted_from coming q.origin w) x.0 ∙ x.2)) told lists

-- ---- a step

-- before it, where the host's packet came in
pub unlisted : (m n : MasterNode) → m.list.count ≡ 0 → events_in m ≡ [] → n.list ≡ m.list → n.posts ≡ m.posts → IsUnlisted (λ k. forwards_at m.posts.items k) n
unlisted m n e none l p = record { few = ap (λ z. z.count) l ∙ e; none = events_by m n l ∙ none; counts = λ k. ap (λ z. forwards_at z.items k) p }

-- and behind it, once the frame is made
pub services_made : (forwards : ℕ → ℕ) (as' : List Leads) (us : List Turn) (m n : MasterNode) → events_in n ≡ events_in m → n.posts ≡ m.posts → ServicesBegin forwards as' us m → ServicesBegin forwards as' us n
services_made forwards as' us m n e p x =
    record { visited = x.visited; once = x.once; listed = e ∙ x.listed; others = x.others; counts = λ k. ap (λ z. forwards_at z.items k) p ∙ x.counts k }
