-- WHAT A STEP TELLS BESIDES, one event after the other.
use Rattle.std.proofs.Common.{◌≡◌, ◌==◌, take, ℕ, zero, suc, ◌+◌, ◌<◌, ◌≤◌, Bool, true, false, Option, Some, None, List, [], ◌∷◌, ◌++◌, refl, sym, ap, ◌∙◌, arith, length, get_or, append_assoc, append-nil, subst}
use Rattle.std.specs.Prelude.{if◌then◌else◌, is_some, ◌||◌}
use Rattle.std.proofs.lemmas.Bool.{eq-eqb, eqb-true}
use Rattle.std.proofs.lemmas.List.{length-append}
use Rattle.life_runs.specs.of_mailbox_mail.declared.mail.Mail.{Mail}
use Rattle.life_runs.specs.of_mailbox_mail.declared.outcome.ReplyKind.{ReplyKind}
use Rattle.life_runs.specs.of_master_hand.declared.hand.InHand.{InHand}
use Rattle.life_runs.specs.of_master_hand.contracts.hand.InHandHand.TheImpl as Impl
use Rattle.life_runs.specs.of_master_side.declared.hand.Hand.{Ghosts}
use Rattle.life_runs.specs.of_master_side.declared.passing.Passing.{Passing}
use Rattle.life_runs.specs.of_master_tour.Made.{is_in}
use Rattle.life_runs.specs.of_master_tour.Orders.{AreOnce}
use Rattle.life_runs.specs.of_master_tour.Walks.{StepsAt}
use Rattle.life_runs.specs.of_master_tour.declared.stop.Stop.{Stop}
use Rattle.life_runs.specs.of_master_tour.declared.stop.Turned.{Turned}
use Rattle.master_node.specs.Besides.{Does, DoesAt, DoesSo, TellsAll, answers, back_does, by_stop, does_at, given_told, is_state, passed_where, stays, then_does}
use Rattle.master_node.specs.Answered.{answer_at, answer_behind, answer_on}
use Rattle.master_node.specs.Downs.{is_given_up}
use Rattle.master_node.specs.Handed.{work_at}
use Rattle.master_node.specs.Listing.{events_before, events_in}
use Rattle.master_node.specs.Listed.{listed_before, listed_last}
use Rattle.master_node.specs.declared.event.Event.{Event}
use Rattle.master_node.specs.declared.event.EventList.{EventList}
use Rattle.master_node.specs.declared.node.MasterNode.{MasterNode}
use Rattle.master_node.specs.declared.post.Work.{Work}
use Rattle.master_node.proofs.Answereds.{answer_more}
use Rattle.master_node.proofs.Endings.{apart_by, step_here, step_there}
use Rattle.master_node.proofs.Listing.{before_of_list, events_by}

-- NOTHING
pub besides_none : (m n : MasterNode) → n.list ≡ m.list → n.posts ≡ m.posts → TellsAll [] m n
besides_none m n e p = record {
  told = λ r. events_by m n e ∙ sym (append-nil (events_in m));
  few = (let f = ap (λ z. z.count) e in omega (arith, f));
  head = before_of_list m.list n.list e;
  answers = λ k. ap (λ z. answer_at z.items k) p;
}

-- ONE EVENT
pub besides_one : (m n : MasterNode) (e : Event) → (m.list.count < 97 → events_in n ≡ events_in m ++ e ∷ []) → n.list.count ≤ m.list.count + 1 → events_before n ≡ events_before m → ((k : ℕ) → answer_at n.posts.items k ≡ answer_on k e (answer_at m.posts.items k)) → TellsAll (e ∷ []) m n
besides_one m n e t f h a = record { told = λ r. t (omega (arith, r)); few = f; head = h; answers = a }

-- one step after the other
pub besides_then : (es fs : List Event) (m n o : MasterNode) → TellsAll es m n → TellsAll fs n o → TellsAll (es ++ fs) m o
besides_then es fs m n o x y =
    let many : length (es ++ fs) ≡ length es + length fs = length-append es fs in
    record {
      told = λ r. y.told (omega (arith, r, many, x.few)) ∙ ap (λ z. z ++ fs) (x.told (omega (arith, r, many))) ∙ append_assoc (events_in m) es fs;
      few = omega (arith, many, x.few, y.few);
      head = y.head ∙ x.head;
      answers = λ k. y.answers k ∙ ap (answer_behind k fs) (x.answers k) ∙ sym (answer_more k es fs (answer_at m.posts.items k));
    }

pub besides_as : (es fs : List Event) (m n : MasterNode) → es ≡ fs → TellsAll es m n → TellsAll fs m n
besides_as es fs m n e x = subst (λ z. TellsAll z m n) e x

-- BY THE STOP AT A PLACE
pub stop_here : {A : Type 0} {G : Ghosts InHand} (none : A) (does : Stop InHand G → A) (ss : List (Stop InHand G)) (k : ℕ) (s : Stop InHand G) → k < length ss → s ≡ get_or ss k s → by_stop none does ss k ≡ does s
stop_here none does [] k s l e = absurd (omega (arith, l))
stop_here none does (t ∷ ss) zero s l e = ap does (sym e)
stop_here none does (t ∷ ss) (suc k) s l e = stop_here none does ss k s (omega (arith, l)) e

pub stop_beyond : {A : Type 0} {G : Ghosts InHand} (none : A) (does : Stop InHand G → A) (ss : List (Stop InHand G)) (k : ℕ) → length ss ≤ k → by_stop none does ss k ≡ none
stop_beyond none does [] k l = refl
stop_beyond none does (t ∷ ss) zero l = absurd (omega (arith, l))
stop_beyond none does (t ∷ ss) (suc k) l = stop_beyond none does ss k (omega (arith, l))

pub stop_same : {A : Type 0} {G : Ghosts InHand} (none : A) (f g : Stop InHand G → A) (ss : List (Stop InHand G)) (k : ℕ) → ((s : Stop InHand G) → f s ≡ g s) → by_stop none f ss k ≡ by_stop none g ss k
stop_same none f g [] k h = refl
stop_same none f g (t ∷ ss) zero h = h t
stop_same none f g (t ∷ ss) (suc k) h = stop_same none f g ss k h

pub stop_on : {A B : Type 0} {G : Ghosts InHand} (on : A → B) (none : A) (f : Stop InHand G → A) (ss : List (Stop InHand G)) (k : ℕ) → on (by_stop none f ss k) ≡ by_stop (on none) (λ s. on (f s)) ss k
stop_on on none f [] k = refl
stop_on on none f (t ∷ ss) zero = refl
stop_on on none f (t ∷ ss) (suc k) = stop_on on none f ss k

stop_then : {G : Ghosts InHand} (w : Work) (f : Stop InHand G → Does) (g : Stop InHand G → Work → Does) (ss : List (Stop InHand G)) (k : ℕ) →
    then_does (by_stop (stays w) f ss k) (λ v. by_stop (stays v) (λ s. g s v) ss k) ≡ by_stop (stays w) (λ s. then_does (f s) (λ v. g s v)) ss k
stop_then w f g [] k = refl
stop_then w f g (t ∷ ss) zero = refl
stop_then w f g (t ∷ ss) (suc k) = stop_then w f g ss k

-- A STEP AT A PLACE: what is told, and what its post has in hand then
pub does_as : (place : ℕ) (d e : Does) (m n : MasterNode) → d ≡ e → DoesAt place d m n → DoesAt place e m n
does_as place d e m n p x = subst (λ z. DoesAt place z m n) p x

pub does_told : (place : ℕ) (es : List Event) (m n : MasterNode) → TellsAll es m n → n.posts ≡ m.posts → DoesAt place (record { told = es; work = work_at m.posts.items place }) m n
does_told place es m n t p = record { tells = t; here = ap (λ z. work_at z.items place) p; others = λ k e. ap (λ z. work_at z.items k) p }

pub does_none : (place : ℕ) (m n : MasterNode) → n.list ≡ m.list → n.posts ≡ m.posts → DoesAt place (stays (work_at m.posts.items place)) m n
does_none place m n e p = does_told place [] m n (besides_none m n e p) p

pub does_answered : (place : ℕ) (kind : ReplyKind) (m n : MasterNode) → TellsAll (Event.Answered place kind ∷ []) m n → StepsAt (λ p q. q.work ≡ Work.Nothing) place m.posts.items n.posts.items → DoesAt place (answers place kind) m n
does_answered place kind m n t s = record {
  tells = t;
  here = step_here place m.posts.items n.posts.items s;
  others = λ k e. step_there place k m.posts.items n.posts.items (apart_by k place e) s;
}

pub does_then : (place : ℕ) (d : Does) (f : Work → Does) (m n o : MasterNode) → DoesAt place d m n → DoesAt place (f (work_at n.posts.items place)) n o → DoesAt place (then_does d f) m o
does_then place d f m n o x y =
    let z : DoesAt place (f d.work) n o = does_as place (f (work_at n.posts.items place)) (f d.work) n o (ap f x.here) y in
    record { tells = besides_then d.told (f d.work).told m n o x.tells z.tells; here = z.here; others = λ k e. z.others k e ∙ x.others k e }

-- by the stop of the slave
pub so_here : (f : Stop InHand Impl.ghosts → Work → Does) (place : ℕ) (m n : MasterNode) (s : Stop InHand Impl.ghosts) → place < length m.tour.stops.items → s ≡ get_or m.tour.stops.items place s → DoesAt place (f s (work_at m.posts.items place)) m n → DoesSo f place m n
so_here f place m n s l e x = does_as place (f s (work_at m.posts.items place)) (does_at f m place) m n (sym (stop_here (stays (work_at m.posts.items place)) (λ t. f t (work_at m.posts.items place)) m.tour.stops.items place s l e)) x

pub so_as : (f g : Stop InHand Impl.ghosts → Work → Does) (place : ℕ) (m n : MasterNode) → ((s : Stop InHand Impl.ghosts) → f s (work_at m.posts.items place) ≡ g s (work_at m.posts.items place)) → DoesSo f place m n → DoesSo g place m n
so_as f g place m n h x =
    let w = work_at m.posts.items place in
    does_as place (does_at f m place) (does_at g m place) m n (stop_same (stays w) (λ s. f s w) (λ s. g s w) m.tour.stops.items place h) x

-- the same of one that has this in hand
pub so_where : (f g : Stop InHand Impl.ghosts → Work → Does) (place : ℕ) (w : Work) (m n : MasterNode) → work_at m.posts.items place ≡ w → ((s : Stop InHand Impl.ghosts) → f s w ≡ g s w) → DoesSo f place m n → DoesSo g place m n
so_where f g place w m n e h x = so_as f g place m n (λ s. subst (λ z. f s z ≡ g s z) (sym e) (h s)) x

-- one step after the other, where the slaves stay
pub so_then : (f g : Stop InHand Impl.ghosts → Work → Does) (place : ℕ) (m n o : MasterNode) → n.tour ≡ m.tour → DoesSo f place m n → DoesSo g place n o → DoesSo (λ s w. then_does (f s w) (λ v. g s v)) place m o
so_then f g place m n o e x y =
    let w = work_at m.posts.items place in
    let v = work_at n.posts.items place in
    let on = λ (z : Work). by_stop (stays z) (λ s. g s z) m.tour.stops.items place in
    does_as place (then_does (does_at f m place) on) _ m o (stop_then w (λ s. f s w) g m.tour.stops.items place)
    (does_then place (does_at f m place) on m n o x (does_as place (does_at g n place) (on v) n o (ap (λ z. by_stop (stays v) (λ s. g s v) z.stops.items place) e) y))

-- what is told of a slave is as before, where that and its post stay
pub back_same : (m n : MasterNode) (k : ℕ) → n.tour ≡ m.tour → work_at n.posts.items k ≡ work_at m.posts.items k → does_at (λ s w. back_does k s w) n k ≡ does_at (λ s w. back_does k s w) m k
back_same m n k t w = λ i. by_stop (stays (w i)) (λ s. back_does k s (w i)) (t i).stops.items k

-- A REPLY, as it is told
pub bare_is : (m b : Mail) → b.address ≡ 0 → b.counter ≡ 0 → b.kind ≡ m.kind → b.body.items ≡ m.body.items → b ≡ record m { address = 0; counter = 0 }
bare_is m b a c k o = λ i. record { address = a i; kind = k i; counter = c i; body = record { items = o i } }

-- a place behind others was none of them
got_in : (v : List ℕ) (k d : ℕ) → k < length v → is_in (get_or v k d) v ≡ true
got_in [] k d l = absurd (omega (arith, l))
got_in (x ∷ v) zero d l = ap (λ (z : Bool). if z then true else is_in x v) (eq-eqb x x refl)
got_in (x ∷ v) (suc k) d l = go (get_or v k d == x) (got_in v k d (omega (arith, l)))
  where
    go : (b : Bool) → is_in (get_or v k d) v ≡ true → (if b then true else is_in (get_or v k d) v) ≡ true
    go true e = refl
    go false e = e

pub once_fresh : (v : List ℕ) (k d : ℕ) → k < length v → AreOnce v → is_in (get_or v k d) (take k v) ≡ false
once_fresh [] k d l o = absurd (omega (arith, l))
once_fresh (x ∷ v) zero d l o = refl
once_fresh (x ∷ v) (suc k) d l o = go (get_or v k d == x) refl (got_in v k d (omega (arith, l))) (once_fresh v k d (omega (arith, l)) o.1)
  where
    go : (b : Bool) → (get_or v k d == x) ≡ b → is_in (get_or v k d) v ≡ true → is_in (get_or v k d) (take k v) ≡ false → (if b then true else is_in (get_or v k d) (take k v)) ≡ false
    go true e there f = absurd (let bad : true ≡ false = sym there ∙ ap (λ z. is_in z v) (eqb-true (get_or v k d) x e) ∙ o.0 in cc)
    go false e there f = f

-- what neither lists nor changes a post does no more
pub so_on : (f : Stop InHand Impl.ghosts → Work → Does) (place : ℕ) (m n o : MasterNode) → o.list ≡ n.list → o.posts ≡ n.posts → DoesSo f place m n → DoesSo f place m o
so_on f place m n o e p x = record {
  tells = record { told = λ r. events_by n o e ∙ x.tells.told r; few = (let c = ap (λ z. z.count) e in let few = x.tells.few in omega (arith, c, few)); head = before_of_list n.list o.list e ∙ x.tells.head; answers = λ k. ap (λ z. answer_at z.items k) p ∙ x.tells.answers k };
  here = ap (λ z. work_at z.items place) p ∙ x.here;
  others = λ k q. ap (λ z. work_at z.items k) p ∙ x.others k q;
}

-- whether a mail is over
pub passed_none : (place key : ℕ) (p : Option Passing) (w : Work) → is_some p ≡ false → record { told = Event.Answered place ReplyKind.Handed ∷ Event.GatewayDone key ∷ []; work = Work.Nothing } ≡ passed_where place key p w
passed_none place key None w e = refl
passed_none place key (Some p) w e = absurd (let bad : true ≡ false = e in cc)

pub passed_some : (place key : ℕ) (p : Option Passing) (w : Work) → is_some p ≡ true → stays w ≡ passed_where place key p w
passed_some place key None w e = absurd (let bad : false ≡ true = e in cc)
passed_some place key (Some p) w e = refl

-- nothing happens
pub so_stays : (place : ℕ) (m : MasterNode) → DoesSo (λ s w. stays w) place m m
so_stays place m = does_as place (stays w) (does_at (λ s v. stays v) m place) m m (go m.tour.stops.items place) (does_none place m m refl refl)
  where
    w : Work
    w = work_at m.posts.items place

    go : (ss : List (Stop InHand Impl.ghosts)) (k : ℕ) → stays w ≡ by_stop (stays w) (λ s. stays w) ss k
    go [] k = refl
    go (s ∷ ss) zero = refl
    go (s ∷ ss) (suc k) = go ss k

-- where no slave stands nothing happens
pub so_beyond : (f : Stop InHand Impl.ghosts → Work → Does) (place : ℕ) (m : MasterNode) → length m.tour.stops.items ≤ place → DoesSo f place m m
so_beyond f place m l =
    let w = work_at m.posts.items place in
    does_as place (stays w) (does_at f m place) m m (sym (stop_beyond (stays w) (λ s. f s w) m.tour.stops.items place l)) (does_none place m m refl refl)

-- the same of the slave that stands there
pub so_apart : (f g : Stop InHand Impl.ghosts → Work → Does) (place : ℕ) (m n : MasterNode) (s : Stop InHand Impl.ghosts) → place < length m.tour.stops.items → s ≡ get_or m.tour.stops.items place s → f s (work_at m.posts.items place) ≡ g s (work_at m.posts.items place) → DoesSo f place m n → DoesSo g place m n
so_apart f g place m n s l e h x =
    let w = work_at m.posts.items place in
    so_here g place m n s l e (does_as place (does_at f m place) (g s w) m n (stop_here (stays w) (λ t. f t w) m.tour.stops.items place s l e ∙ h) x)

-- a change of state is in hand
pub state_is : (w : Work) → is_state w ≡ true → w ≡ Work.State
state_is Work.State e = refl
state_is Work.Nothing e = absurd (let bad : false ≡ true = e in cc)
state_is Work.Mails e = absurd (let bad : false ≡ true = e in cc)
state_is Work.Packet e = absurd (let bad : false ≡ true = e in cc)
state_is (Work.Passed key) e = absurd (let bad : false ≡ true = e in cc)

-- a place is none of these
pub or_left : (a b : Bool) → (a || b) ≡ false → a ≡ false
or_left true b e = absurd (let bad : true ≡ false = e in cc)
or_left false b e = refl

pub or_right : (a b : Bool) → (a || b) ≡ false → b ≡ false
or_right true b e = absurd (let bad : true ≡ false = e in cc)
or_right false b e = e

pub not_in_one : (k p : ℕ) → is_in k (p ∷ []) ≡ false → (k == p) ≡ false
not_in_one k p e = go (k == p) e
  where
    go : (b : Bool) → (if b then true else false) ≡ false → b ≡ false
    go true f = f
    go false f = refl

-- one event behind a step that lists none, and before another
pub besides_put : (m n o : MasterNode) (l : EventList) (e : Event) → n.list ≡ m.list → o.list ≡ l → (n.list.count < 97 → listed_last l.rows.items l.first l.count ≡ events_in n ++ e ∷ []) → l.count ≤ n.list.count + 1 → listed_before l.rows.items l.first l.count ≡ events_before n →
    ((k : ℕ) → answer_at o.posts.items k ≡ answer_on k e (answer_at m.posts.items k)) → TellsAll (e ∷ []) m o
besides_put m n o l e a b t f h w =
    let ca = ap (λ z. z.count) a in
    let cb = ap (λ z. z.count) b in
    record {
      told = λ r. ap (λ z. listed_last z.rows.items z.first z.count) b ∙ t (omega (arith, ca, r)) ∙ ap (λ z. z ++ e ∷ []) (events_by m n a);
      few = omega (arith, ca, cb, f);
      head = ap (λ z. listed_before z.rows.items z.first z.count) b ∙ h ∙ before_of_list m.list n.list a;
      answers = w;
    }

-- a slave was given up
pub given_is : (place : ℕ) (news : Option Turned) → is_given_up news ≡ true → Event.GivenUp place ∷ [] ≡ given_told place news
given_is place None e = absurd (let bad : false ≡ true = e in cc)
given_is place (Some Turned.GivenUp) e = refl
given_is place (Some Turned.Cleared) e = absurd (let bad : false ≡ true = e in cc)
given_is place (Some Turned.Opened) e = absurd (let bad : false ≡ true = e in cc)

pub given_not : (place : ℕ) (news : Option Turned) → is_given_up news ≡ false → [] ≡ given_told place news
given_not place None e = refl
given_not place (Some Turned.GivenUp) e = absurd (let bad : true ≡ false = e in cc)
given_not place (Some Turned.Cleared) e = refl
given_not place (Some Turned.Opened) e = refl
