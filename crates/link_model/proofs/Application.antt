-- The application is the fold of the mails taken.
use Rattle.std.proofs.Common.{◌≡◌, Option, Some, None, List, [], ◌∷◌, ◌++◌, refl, ap, sym, ◌∙◌}
use Rattle.link_model.specs.Mails.{LinkMail}
use Rattle.link_model.specs.Slave.{Server, all_taken, all_given, node_look, node_take, node_takes, node_offers}
use Rattle.link_model.specs.Link.{Link, Event, held_after, happens, run}
use Rattle.link_model.specs.Application.{carried, Carries, Leaves, AllLeave, IsCarried}

pub carried-append : {A B : Type 0} (carry : A → B → A) (a : A) (xs ys : List B) → carried carry a (xs ++ ys) ≡ carried carry (carried carry a xs) ys
carried-append carry a [] ys = refl
carried-append carry a (x ∷ xs) ys = carried-append carry (carry a x) xs ys

pub app-all_taken : {A B S : Type 0} (v : Server B S) (app : S → A) (carry : A → B → A) → Carries v app carry → (s : S) (xs : List B) → app (all_taken v s xs) ≡ carried carry (app s) xs
app-all_taken v app carry c s [] = refl
app-all_taken v app carry c s (x ∷ xs) =
    app-all_taken v app carry c (v.take s x) xs ∙ ap (λ a. carried carry a xs) (c.takes s x)

pub app-all_given : {A B S : Type 0} (v : Server B S) (app : S → A) (carry : A → B → A) → Carries v app carry → (s : S) (xs : List B) → app (all_given v s xs) ≡ app s
app-all_given v app carry c s [] = refl
app-all_given v app carry c s (x ∷ xs) = app-all_given v app carry c (v.rest s) xs ∙ c.gives s

hold_carried : {A B S : Type 0} (app : S → A) (carry : A → B → A) (a : A) (w : Link B S) (holding : Option (LinkMail B)) (body : B) → IsCarried app carry a w → IsCarried app carry a (held_after w holding body)
hold_carried app carry a w (Some m) body i = i
hold_carried app carry a w None body i = i

-- each event keeps it
pub event_carried : {A B S : Type 0} (v : Server B S) (app : S → A) (carry : A → B → A) (a : A) → Carries v app carry → (w : Link B S) (e : Event B S) → Leaves app e → IsCarried app carry a w → IsCarried app carry a (happens v w e)
event_carried v app carry a c w (Event.Hold body) l i = hold_carried app carry a w w.halves.out.holding body i
event_carried v app carry a c w (Event.Out fate) l i = i
event_carried v app carry a c w (Event.In fate) l i = i
event_carried v app carry a c w Event.Pdi l i =
    let n = node_look w.node in
    let k = node_take v n in
    app-all_given v app carry c k.server (node_offers v k) ∙ app-all_taken v app carry c w.node.server (node_takes v n) ∙ ap (λ b. carried carry b (node_takes v n)) i ∙ sym (carried-append carry a w.taken (node_takes v n))
event_carried v app carry a c w (Event.Change f) l i = l w.node.server ∙ i

pub run_carried : {A B S : Type 0} (v : Server B S) (app : S → A) (carry : A → B → A) (a : A) → Carries v app carry → (w : Link B S) (es : List (Event B S)) → AllLeave app es → IsCarried app carry a w → IsCarried app carry a (run v w es)
run_carried v app carry a c w [] l i = i
run_carried v app carry a c w (e ∷ es) l i =
    run_carried v app carry a c (happens v w e) es l.1 (event_carried v app carry a c w e l.0 i)
