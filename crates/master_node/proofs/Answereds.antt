-- THE LAST ANSWERS of the slaves, event by event.
use Rattle.std.proofs.Common.{◌≡◌, ◌==◌, ◌<◌, ℕ, zero, suc, Bool, true, false, Option, Some, None, List, [], ◌∷◌, ◌++◌, refl, sym, ap, subst, ◌∙◌}
use Rattle.std.specs.Prelude.{All, if◌then◌else◌}
use Rattle.std.proofs.lemmas.Bool.{eq-eqb, eqb-true}
use Rattle.std.proofs.lemmas.List.Elements.{All-head, All-tail}
use Rattle.life_runs.specs.of_mailbox_mail.declared.outcome.ReplyKind.{ReplyKind}
use Rattle.life_runs.specs.of_master_hand.declared.hand.InHand.{InHand}
use Rattle.life_runs.specs.of_master_side.declared.hand.Hand.{Ghosts}
use Rattle.life_runs.specs.of_master_tour.Walks.{StepsAt}
use Rattle.life_runs.specs.of_master_tour.declared.stop.Stop.{Stop}
use Rattle.master_node.specs.Answered.{AnswersOn, answer_at, answer_behind, answer_on}
use Rattle.master_node.specs.Listing.{ListsOne, answer_from, began_from, events_in}
use Rattle.master_node.specs.Origins.{LaysFrom}
use Rattle.master_node.specs.declared.coming.Coming.{Coming}
use Rattle.master_node.specs.declared.event.Event.{Event}
use Rattle.master_node.specs.declared.event.Origin.{Origin}
use Rattle.master_node.specs.declared.node.MasterNode.{MasterNode}
use Rattle.master_node.specs.declared.post.Post.{Post}
use Rattle.master_node.proofs.Begins.{steps_any}
use Rattle.master_node.proofs.Endings.{apart_by}
use Rattle.master_node.proofs.Listing.{events_by}
use Rattle.master_node.proofs.Lists.{steps_map}

-- events behind others
pub answer_more : (k : ℕ) (es fs : List Event) (a : Option ReplyKind) → answer_behind k (es ++ fs) a ≡ answer_behind k fs (answer_behind k es a)
answer_more k [] fs a = refl
answer_more k (e ∷ es) fs a = answer_more k es fs (answer_on k e a)

-- no slave has an answer
pub none_answered : (ps : List Post) → All (λ p. p.answer ≡ None) ps → (k : ℕ) → answer_at ps k ≡ None
none_answered [] h k = refl
none_answered (p ∷ ps) h zero = All-head (λ (q : Post). q.answer ≡ None) p ps h
none_answered (p ∷ ps) h (suc k) = none_answered ps (All-tail (λ (q : Post). q.answer ≡ None) p ps h) k

-- ---- at one place

pub other_answers : (P : Post → Post → Type 0) (i : ℕ) (ps qs : List Post) → StepsAt P i ps qs → (k : ℕ) → (k ≡ i → ⊥) → answer_at qs k ≡ answer_at ps k
other_answers P zero [] qs e k n = absurd e
other_answers P (suc i) [] qs e k n = absurd e
other_answers P zero (p ∷ ps) [] e k n = absurd e
other_answers P (suc i) (p ∷ ps) [] e k n = absurd e
other_answers P zero (p ∷ ps) (q ∷ qs) e zero n = absurd (n refl)
other_answers P zero (p ∷ ps) (q ∷ qs) e (suc k) n = ap (λ z. answer_at z k) e.1
other_answers P (suc i) (p ∷ ps) (q ∷ qs) e zero n = ap (λ z. z.answer) e.0
other_answers P (suc i) (p ∷ ps) (q ∷ qs) e (suc k) n = other_answers P i ps qs e.1 k (λ q. n (ap suc q))

pub first_answer : (f : Option ReplyKind → Option ReplyKind) (P : Post → Post → Type 0) → ((p q : Post) → P p q → q.answer ≡ f p.answer) → (i : ℕ) (ps qs : List Post) → StepsAt P i ps qs → answer_at qs i ≡ f (answer_at ps i)
first_answer f P h zero [] qs e = absurd e
first_answer f P h (suc i) [] qs e = absurd e
first_answer f P h zero (p ∷ ps) [] e = absurd e
first_answer f P h (suc i) (p ∷ ps) [] e = absurd e
first_answer f P h zero (p ∷ ps) (q ∷ qs) e = h p q e.0
first_answer f P h (suc i) (p ∷ ps) (q ∷ qs) e = first_answer f P h i ps qs e.1

-- at this place, and at all others
by_place : (P : ℕ → Type 0) (k place : ℕ) → P place → ((k == place) ≡ false → P k) → P k
by_place P k place here there = go (k == place) refl
  where
    go : (b : Bool) → (k == place) ≡ b → P k
    go true e = subst P (sym (eqb-true k place e)) here
    go false e = there e

-- no answer changes
pub same_answers : (P : Post → Post → Type 0) → ((p q : Post) → P p q → q.answer ≡ p.answer) → (place : ℕ) (ps qs : List Post) → StepsAt P place ps qs → (k : ℕ) → answer_at qs k ≡ answer_at ps k
same_answers P h place ps qs s k =
    by_place (λ j. answer_at qs j ≡ answer_at ps j) k place (first_answer (λ a. a) P h place ps qs s) (λ e. other_answers P place ps qs s k (apart_by k place e))

-- that of one slave does
step_answers : (a : Option ReplyKind) (P : Post → Post → Type 0) → ((p q : Post) → P p q → q.answer ≡ a) → (place : ℕ) (ps qs : List Post) → StepsAt P place ps qs → (k : ℕ) → answer_at qs k ≡ (if k == place then a else answer_at ps k)
step_answers a P h place ps qs s k =
    by_place (λ j. answer_at qs j ≡ (if j == place then a else answer_at ps j)) k place
    (first_answer (λ z. a) P h place ps qs s ∙ ap (λ (z : Bool). if z then a else answer_at ps place) (sym (eq-eqb place place refl)))
    (λ e. other_answers P place ps qs s k (apart_by k place e) ∙ ap (λ (z : Bool). if z then a else answer_at ps k) (sym e))

-- A SERVICE THAT HAS ITS ANSWER, and a slave that is given up
pub answered_answers : (kind : ReplyKind) (place : ℕ) (ps qs : List Post) → StepsAt (λ p q. q.answer ≡ Some kind) place ps qs → (k : ℕ) → answer_at qs k ≡ answer_on k (Event.Answered place kind) (answer_at ps k)
answered_answers kind place ps qs s k = step_answers (Some kind) (λ p q. q.answer ≡ Some kind) (λ p q e. e) place ps qs s k

pub given_answers : (place : ℕ) (ps qs : List Post) → StepsAt (λ p q. q.answer ≡ None) place ps qs → (k : ℕ) → answer_at qs k ≡ answer_on k (Event.GivenUp place) (answer_at ps k)
given_answers place ps qs s k = step_answers None (λ p q. q.answer ≡ None) (λ p q e. e) place ps qs s k

-- ---- a visit

-- what is laid ready leaves them
pub laid_answers : {G : Ghosts InHand} (coming : Option Coming) (place : ℕ) (ps qs : List Post) (ss ts : List (Stop InHand G)) →
    StepsAt (λ s t. StepsAt (λ p q. LaysFrom coming s.side.hand.laying.number p q) place ps qs) place ss ts → (k : ℕ) → answer_at qs k ≡ answer_at ps k
laid_answers coming place ps qs ss ts h =
    steps_any ((k : ℕ) → answer_at qs k ≡ answer_at ps k) place ss ts
    (steps_map _ (λ s t. (k : ℕ) → answer_at qs k ≡ answer_at ps k) place ss ts (λ s t x. same_answers (λ p q. LaysFrom coming s.side.hand.laying.number p q) (λ p q y. y.answer) place ps qs x) h)

-- what came into hand is listed, with where it came from
came_listed : (what : Option Coming) (place : ℕ) (l n : MasterNode) (i : ℕ) (ps qs : List Post) → StepsAt (λ p q. ListsOne place what l n p q) i ps qs →
    (o : Origin) × (l.list.count < 97 → events_in n ≡ events_in l ++ began_from place what o)
came_listed what place l n zero [] qs e = absurd e
came_listed what place l n (suc i) [] qs e = absurd e
came_listed what place l n zero (p ∷ ps) [] e = absurd e
came_listed what place l n (suc i) (p ∷ ps) [] e = absurd e
came_listed what place l n zero (p ∷ ps) (q ∷ qs) e = (p.origin, e.0.listed)
came_listed what place l n (suc i) (p ∷ ps) (q ∷ qs) e = came_listed what place l n i ps qs e.1

began_here : (place : ℕ) (what : Option Coming) (o : Origin) (a : Option ReplyKind) → answer_behind place (began_from place what o) a ≡ answer_from what a
began_here place None o a = refl
began_here place (Some coming) o a = ap (λ (z : Bool). if z then None else a) (eq-eqb place place refl)

began_there : (k place : ℕ) (what : Option Coming) (o : Origin) (a : Option ReplyKind) → (k == place) ≡ false → answer_behind k (began_from place what o) a ≡ a
began_there k place None o a e = refl
began_there k place (Some coming) o a e = ap (λ (z : Bool). if z then None else a) e

-- so they go on
pub visit_answers : (place : ℕ) (what : Option Coming) (m l n : MasterNode) → l.list ≡ m.list → m.list.count < 97 → ((k : ℕ) → answer_at l.posts.items k ≡ answer_at m.posts.items k) →
    StepsAt (λ p q. ListsOne place what l n p q) place l.posts.items n.posts.items → AnswersOn m n
visit_answers place what m l n same few laid s = λ base x k.
    let ps = l.posts.items in
    let qs = n.posts.items in
    let came = came_listed what place l n place ps qs s in
    let es = began_from place what came.0 in
    let listed : events_in n ≡ events_in m ++ es = came.1 (subst (λ w. w.count < 97) (sym same) few) ∙ ap (λ z. z ++ es) (events_by m l same) in
    let goes : answer_at qs k ≡ answer_behind k es (answer_at ps k) =
    by_place (λ j. answer_at qs j ≡ answer_behind j es (answer_at ps j)) k place
    (first_answer (answer_from what) (λ p q. ListsOne place what l n p q) (λ p q y. y.answer) place ps qs s ∙ sym (began_here place what came.0 (answer_at ps place)))
    (λ e. other_answers (λ p q. ListsOne place what l n p q) place ps qs s k (apart_by k place e) ∙ sym (began_there k place what came.0 (answer_at ps k) e)) in
    goes ∙ ap (answer_behind k es) (laid k ∙ x k) ∙ sym (answer_more k (events_in m) es (base k)) ∙ ap (λ z. answer_behind k z (base k)) (sym listed)
