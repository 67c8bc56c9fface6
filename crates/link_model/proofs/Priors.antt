-- Each event keeps what the slave still knows of its mails.
use Rattle.std.proofs.Common.{◌≡◌, Bool, true, false, Option, Some, None, List, [], ◌∷◌, ◌++◌, arith, refl, sym, subst, append-nil, if◌then◌else◌}
use Rattle.std.proofs.lemmas.Grind.{common_steps}
use Rattle.link_model.specs.Counters.{next_counter}
use Rattle.link_model.specs.Mails.{LinkMail, first_of, differs}
use Rattle.link_model.specs.Master.{InState}
use Rattle.link_model.specs.Slave.{InSide, Server, noticed, repeated, looked, offers, mail_offered, node_look, node_take}
use Rattle.link_model.specs.Link.{Link, Event, Fate, in_side_after, happens, run, held_after, new_link}
use Rattle.link_model.specs.Agree.{SideAgree, Prior, Accords, Agrees}
use Rattle.link_model.proofs.Lists.{pushes}
use Rattle.link_model.proofs.Inward.{IsNoticed, looked-is_noticed, notice_keeps, look_keeps}
use Rattle.link_model.proofs.Law.{happens_keeps, new_agrees}

prior_new : {B : Type 0} (s : InSide B) (offered before : List B) (m : LinkMail B) → s.offered ≡ Some m → s.again ≡ false → SideAgree s → Prior s offered before → Prior (record s { offered = None; again = false; last_read = Some m }) offered (before ++ (m.body ∷ []))
prior_new s offered before m e f a p = grind (arith, common_steps, pushes)

prior_again : {B : Type 0} (s : InSide B) (offered before : List B) → s.again ≡ true → Prior s offered before → Prior (record s { offered = None; again = false }) offered before
prior_again s offered before f p = grind (arith, common_steps, pushes)

prior_acknowledge : {B : Type 0} (s : InSide B) (offered before : List B) → Prior s offered before → Prior (record s { acknowledge = s.request }) offered before
prior_acknowledge s offered before p = record { parts = p.parts; known = p.known; number = p.number; next = p.next }

prior_repeat : {B : Type 0} (s : InSide B) (offered before : List B) (m : LinkMail B) → s.again ≡ false → s.offered ≡ None → Prior s offered before → Prior (record s { box = Some m; offered = Some m; again = true; acknowledge = s.request }) offered before
prior_repeat s offered before m f e p = grind (arith, common_steps, pushes)

prior_withdraws : {B : Type 0} (s : InSide B) (offered before : List B) (m n : LinkMail B) → s.again ≡ false → s.offered ≡ Some n → SideAgree s → Prior s offered before → Prior (record s { box = Some m; offered = Some m; again = true; withdrawn = Some n; acknowledge = s.request }) offered before
prior_withdraws s offered before m n f e a p = grind (arith, common_steps, pushes)

prior_withdrawn : {B : Type 0} (s : InSide B) (offered before : List B) (m : LinkMail B) → s.box ≡ None → s.offered ≡ None → s.withdrawn ≡ Some m → SideAgree s → Prior s offered before → Prior (record s { box = Some m; offered = Some m; again = false; withdrawn = None }) offered before
prior_withdrawn s offered before m f e d a p = grind (arith, common_steps, pushes)

prior_next : {B : Type 0} (s : InSide B) (offered before : List B) (body : B) → s.box ≡ None → s.offered ≡ None → s.withdrawn ≡ None → SideAgree s → Prior s offered before → Prior (record s { box = Some (record { counter = next_counter s.newest; body = body }); offered = Some (record { counter = next_counter s.newest; body = body }); again = false; newest = next_counter s.newest }) (offered ++ (body ∷ [])) before
prior_next s offered before body f e d a p = grind (arith, common_steps, pushes)

abbrev pub HasPrior : {B : Type 0} → InSide B → List B → Type 0
HasPrior {B} s offered = (before : List B) × Prior s offered before

notice_by : {B : Type 0} (s : InSide B) (offered : List B) (m : LinkMail B) (again : Bool) → s.offered ≡ Some m → s.again ≡ again → SideAgree s → HasPrior s offered → HasPrior (record s { offered = None; again = false; last_read = if again then s.last_read else Some m }) offered
notice_by s offered m true e f a p = (p.0, prior_again s offered p.0 f p.1)
notice_by s offered m false e f a p = (p.0 ++ (m.body ∷ []), prior_new s offered p.0 m e f a p.1)

notice_prior : {B : Type 0} (s : InSide B) (offered : List B) (box stood : Option (LinkMail B)) → s.offered ≡ stood → SideAgree s → HasPrior s offered → HasPrior (noticed s box stood) offered
notice_prior s offered (Some b) stood e a p = p
notice_prior s offered None None e a p = p
notice_prior s offered None (Some m) e a p = notice_by s offered m s.again e refl a p

repeat_new : {B : Type 0} (s : InSide B) (offered : List B) (m : LinkMail B) (stood : Option (LinkMail B)) → s.again ≡ false → s.offered ≡ stood → SideAgree s → HasPrior s offered → HasPrior (record s { box = Some m; offered = Some m; again = true; withdrawn = first_of stood s.withdrawn; acknowledge = s.request }) offered
repeat_new s offered m None f e a p = (p.0, prior_repeat s offered p.0 m f e p.1)
repeat_new s offered m (Some n) f e a p = (p.0, prior_withdraws s offered p.0 m n f e a p.1)

repeat_by : {B : Type 0} (s : InSide B) (offered : List B) (m : LinkMail B) (again : Bool) → s.again ≡ again → SideAgree s → HasPrior s offered → HasPrior (let t = (if again then s else record s { box = Some m; offered = Some m; again = true; withdrawn = first_of s.offered s.withdrawn }) in record t { acknowledge = s.request }) offered
repeat_by s offered m true f a p = (p.0, prior_acknowledge s offered p.0 p.1)
repeat_by s offered m false f a p = repeat_new s offered m s.offered f refl a p

repeat_prior : {B : Type 0} (s : InSide B) (offered : List B) (last_read : Option (LinkMail B)) → SideAgree s → HasPrior s offered → HasPrior (let t = repeated s last_read in record t { acknowledge = s.request }) offered
repeat_prior s offered None a p = (p.0, prior_acknowledge s offered p.0 p.1)
repeat_prior s offered (Some m) a p = repeat_by s offered m s.again refl a p

request_prior : {B : Type 0} (s : InSide B) (offered : List B) (asked : Bool) → SideAgree s → HasPrior s offered → HasPrior (if asked then (let t = repeated s s.last_read in record t { acknowledge = s.request }) else s) offered
request_prior s offered true a p = repeat_prior s offered s.last_read a p
request_prior s offered false a p = p

nothing_more : {B : Type 0} (s : InSide B) (offered : List B) → HasPrior s offered → HasPrior s (offered ++ [])
nothing_more {B} s offered p = let P : List B → Type 0 = λ xs. HasPrior s xs in subst P (sym (append-nil offered)) p

offer_prior : {B : Type 0} (s : InSide B) (offered : List B) (box withdrawn : Option (LinkMail B)) (next : Option B) → s.box ≡ box → s.withdrawn ≡ withdrawn → IsNoticed s → SideAgree s → HasPrior s offered → HasPrior (offers s box withdrawn next) (offered ++ mail_offered box withdrawn next)
offer_prior s offered (Some b) withdrawn next e f n a p = nothing_more s offered p
offer_prior s offered None (Some m) next e f n a p = nothing_more (offers s None (Some m) next) offered (p.0, prior_withdrawn s offered p.0 m e (n e) f a p.1)
offer_prior s offered None None None e f n a p = nothing_more s offered p
offer_prior s offered None None (Some body) e f n a p = (p.0, prior_next s offered p.0 body e (n e) f a p.1)

in_prior : {B : Type 0} (s : InSide B) (offered before : List B) (state : InState) (bit : Bool) (fate : Fate) → Prior s offered before → Prior (in_side_after s state bit fate) offered before
in_prior s offered before state bit Fate.LostBefore p = p
in_prior s offered before InState.Clear bit Fate.Pass p = record { parts = p.parts; known = p.known; number = p.number; next = p.next }
in_prior s offered before InState.Doubt bit Fate.Pass p = record { parts = p.parts; known = p.known; number = p.number; next = p.next }
in_prior s offered before InState.Asked bit Fate.Pass p = p
in_prior s offered before InState.Refetch bit Fate.Pass p = record { parts = p.parts; known = p.known; number = p.number; next = p.next }
in_prior s offered before InState.Clear bit Fate.LostBehind p = record { parts = p.parts; known = p.known; number = p.number; next = p.next }
in_prior s offered before InState.Doubt bit Fate.LostBehind p = record { parts = p.parts; known = p.known; number = p.number; next = p.next }
in_prior s offered before InState.Asked bit Fate.LostBehind p = p
in_prior s offered before InState.Refetch bit Fate.LostBehind p = record { parts = p.parts; known = p.known; number = p.number; next = p.next }

hold_prior : {B S : Type 0} (w : Link B S) (holding : Option (LinkMail B)) (body : B) → HasPrior w.node.inn w.offered → (let x = held_after w holding body in HasPrior x.node.inn x.offered)
hold_prior w (Some m) body p = p
hold_prior w None body p = p

happens_prior : {B S : Type 0} (v : Server B S) (w : Link B S) (e : Event B S) → Agrees w → HasPrior w.node.inn w.offered → (let x = happens v w e in HasPrior x.node.inn x.offered)
happens_prior v w (Event.Hold body) a p = hold_prior w w.halves.out.holding body p
happens_prior v w (Event.Out fate) a p = p
happens_prior v w (Event.In fate) a p = (p.0, in_prior w.node.inn w.offered p.0 w.halves.inn.state w.halves.inn.bit fate p.1)
happens_prior v w Event.Pdi a p =
    let s = w.node.inn in
    let t = noticed s s.box s.offered in
    let l = looked s in
    let k = node_take v (node_look w.node) in
    let t_agrees = notice_keeps w.halves.inn s w.offered w.accepted s.box s.offered refl refl a.inn in
    let l_agrees = look_keeps w.halves.inn s w.offered w.accepted a.inn in
    let looked_prior = request_prior t w.offered (differs t.request t.acknowledge) t_agrees.side (notice_prior s w.offered s.box s.offered refl a.inn.side p) in
    offer_prior l w.offered l.box l.withdrawn (v.next k.server) refl refl (looked-is_noticed s) l_agrees.side looked_prior
happens_prior v w (Event.Change f) a p = p

-- each event keeps the agreement with what the slave still knows
pub happens_accords : {B S : Type 0} (v : Server B S) (w : Link B S) (e : Event B S) → Accords w → Accords (happens v w e)
happens_accords v w e a =
    let p = happens_prior v w e a.agrees (a.before, a.prior) in
    record { agrees = happens_keeps v w e a.agrees; before = p.0; prior = p.1 }

pub run_accords : {B S : Type 0} (v : Server B S) (w : Link B S) (es : List (Event B S)) → Accords w → Accords (run v w es)
run_accords v w [] a = a
run_accords v w (e ∷ es) a = run_accords v (happens v w e) es (happens_accords v w e a)

pub new_accords : {B S : Type 0} (s : S) → Accords (new_link {B = B} s)
new_accords s = record {
  agrees = new_agrees s;
  before = [];
  prior = record { parts = refl; known = refl; number = refl; next = λ m e. absurd (cc) };
}
