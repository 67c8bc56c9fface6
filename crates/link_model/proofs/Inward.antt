-- Each step of the inward half and of mailbox 1 keeps their agreement.
use Rattle.std.proofs.Common.{◌≡◌, Bool, true, false, Option, Some, None, List, [], ◌∷◌, ◌++◌, arith, refl, if◌then◌else◌}
use Rattle.std.proofs.lemmas.Grind.{common_steps}
use Rattle.std.proofs.lemmas.Bool.Decides.{nat_tests}
use Rattle.link_model.specs.Counters.{next_counter}
use Rattle.link_model.specs.Mails.{LinkMail, is_repeat, news, differs, first_of}
use Rattle.link_model.specs.Master.{InHalf, InState, read_lost}
use Rattle.link_model.specs.Slave.{InSide, noticed, repeated, looked, offers, mail_offered}
use Rattle.link_model.specs.Link.{Fate, in_half_after, in_side_after, in_news}
use Rattle.link_model.specs.Agree.{InAgree}
use Rattle.link_model.proofs.Lists.{pushes}

-- step 1: the mail offered was read, a new one
pub notice_new : {B : Type 0} (h : InHalf) (s : InSide B) (offered accepted : List B) (m : LinkMail B) → s.box ≡ None → s.offered ≡ Some m → s.again ≡ false → InAgree h s offered accepted → InAgree h (record s { offered = None; again = false; last_read = Some m }) offered accepted
notice_new h s offered accepted m empty stood new a = grind (arith, common_steps, nat_tests, pushes)

-- step 1: the mail offered was read, a repeat
pub notice_again : {B : Type 0} (h : InHalf) (s : InSide B) (offered accepted : List B) (m : LinkMail B) → s.box ≡ None → s.offered ≡ Some m → s.again ≡ true → InAgree h s offered accepted → InAgree h (record s { offered = None; again = false }) offered accepted
notice_again h s offered accepted m empty stood again a = grind (arith, common_steps, nat_tests, pushes)

-- step 2 without a last read mail: the acknowledge alone
pub acknowledge_none : {B : Type 0} (h : InHalf) (s : InSide B) (offered accepted : List B) → s.last_read ≡ None → (s.box ≡ None → s.offered ≡ None) → differs s.request s.acknowledge ≡ true → InAgree h s offered accepted → InAgree h (record s { acknowledge = s.request }) offered accepted
acknowledge_none h s offered accepted none noticed asked a = grind (arith, common_steps, nat_tests, pushes)

-- step 2 where the last read mail stands again: the acknowledge alone
pub acknowledge_again : {B : Type 0} (h : InHalf) (s : InSide B) (offered accepted : List B) (m : LinkMail B) → s.last_read ≡ Some m → s.again ≡ true → (s.box ≡ None → s.offered ≡ None) → differs s.request s.acknowledge ≡ true → InAgree h s offered accepted → InAgree h (record s { acknowledge = s.request }) offered accepted
acknowledge_again h s offered accepted m read again noticed asked a = grind (arith, common_steps, nat_tests, pushes)

-- step 2 with nothing unread: the last read mail is offered again
pub repeat_offered : {B : Type 0} (h : InHalf) (s : InSide B) (offered accepted : List B) (m : LinkMail B) → s.last_read ≡ Some m → s.again ≡ false → s.offered ≡ None → differs s.request s.acknowledge ≡ true → InAgree h s offered accepted → InAgree h (record s { box = Some m; offered = Some m; again = true; acknowledge = s.request }) offered accepted
repeat_offered h s offered accepted m read first none asked a = grind (arith, common_steps, nat_tests, pushes)

-- step 2 with a new mail unread: it is withdrawn
pub repeat_withdraws : {B : Type 0} (h : InHalf) (s : InSide B) (offered accepted : List B) (m n : LinkMail B) → s.last_read ≡ Some m → s.again ≡ false → s.offered ≡ Some n → s.box ≡ Some n → differs s.request s.acknowledge ≡ true → InAgree h s offered accepted → InAgree h (record s { box = Some m; offered = Some m; again = true; withdrawn = Some n; acknowledge = s.request }) offered accepted
repeat_withdraws h s offered accepted m n read first stood box asked a = grind (arith, common_steps, nat_tests, pushes)

-- step 5: the withdrawn mail is offered
pub withdrawn_offered : {B : Type 0} (h : InHalf) (s : InSide B) (offered accepted : List B) (m : LinkMail B) → s.box ≡ None → s.offered ≡ None → s.withdrawn ≡ Some m → InAgree h s offered accepted → InAgree h (record s { box = Some m; offered = Some m; again = false; withdrawn = None }) offered accepted
withdrawn_offered h s offered accepted m empty none drawn a = grind (arith, common_steps, nat_tests, pushes)

-- step 5: the server's next mail is offered
pub next_offered : {B : Type 0} (h : InHalf) (s : InSide B) (offered accepted : List B) (body : B) → s.box ≡ None → s.offered ≡ None → s.withdrawn ≡ None → InAgree h s offered accepted → InAgree h (record s { box = Some (record { counter = next_counter s.newest; body = body }); offered = Some (record { counter = next_counter s.newest; body = body }); again = false; newest = next_counter s.newest }) (offered ++ (body ∷ [])) accepted
next_offered h s offered accepted body empty none drawn a = grind (arith, common_steps, nat_tests, pushes)

-- a read in Clear returned, with a mail and without
pub read_clear_some : {B : Type 0} (h : InHalf) (s : InSide B) (offered accepted : List B) (m : LinkMail B) → h.state ≡ InState.Clear → s.box ≡ Some m → InAgree h s offered accepted → InAgree (record h { last = m.counter; state = InState.Clear }) (record s { box = None }) offered (accepted ++ news h.last (Some m))
read_clear_some h s offered accepted m state full a = grind (arith, common_steps, nat_tests, pushes)

pub read_clear_none : {B : Type 0} (h : InHalf) (s : InSide B) (offered accepted : List B) → h.state ≡ InState.Clear → s.box ≡ None → InAgree h s offered accepted → InAgree (record h { state = InState.Clear }) (record s { box = None }) offered (accepted ++ [])
read_clear_none h s offered accepted state empty a = grind (arith, common_steps, nat_tests, pushes)

-- a read in Refetch returned: with the last read mail again, with a first mail, and without a mail
read_repeat : {B : Type 0} (h : InHalf) (s : InSide B) (offered accepted : List B) (m : LinkMail B) (repeat : Bool) → h.state ≡ InState.Refetch → s.box ≡ Some m → s.again ≡ true → is_repeat h.last m ≡ repeat → InAgree h s offered accepted → InAgree (record h { last = m.counter; state = InState.Clear }) (record s { box = None }) offered (accepted ++ (if repeat then [] else m.body ∷ []))
read_repeat h s offered accepted m true state full again e a = grind (arith, common_steps, nat_tests, pushes)
read_repeat h s offered accepted m false state full again e a = grind (arith, common_steps, nat_tests, pushes)

read_first : {B : Type 0} (h : InHalf) (s : InSide B) (offered accepted : List B) (m : LinkMail B) → h.state ≡ InState.Refetch → s.box ≡ Some m → s.again ≡ false → s.last_read ≡ None → InAgree h s offered accepted → InAgree (record h { last = m.counter; state = InState.Clear }) (record s { box = None }) offered (accepted ++ news h.last (Some m))
read_first h s offered accepted m state full first none a = grind (arith, common_steps, nat_tests, pushes)

first_read : {B : Type 0} (h : InHalf) (s : InSide B) (offered accepted : List B) (m n : LinkMail B) → h.state ≡ InState.Refetch → s.box ≡ Some m → s.again ≡ false → s.last_read ≡ Some n → InAgree h s offered accepted → ⊥
first_read h s offered accepted m n state full first read a = grind (arith, common_steps)

pub read_again_some : {B : Type 0} (h : InHalf) (s : InSide B) (offered accepted : List B) (m : LinkMail B) → h.state ≡ InState.Refetch → s.box ≡ Some m → InAgree h s offered accepted → InAgree (record h { last = m.counter; state = InState.Clear }) (record s { box = None }) offered (accepted ++ news h.last (Some m))
read_again_some {B} h s offered accepted m state full a = go s.again s.last_read refl refl
  where
    go : (again : Bool) (last_read : Option (LinkMail B)) → s.again ≡ again → s.last_read ≡ last_read → InAgree (record h { last = m.counter; state = InState.Clear }) (record s { box = None }) offered (accepted ++ news h.last (Some m))
    go true last_read e f = read_repeat h s offered accepted m (is_repeat h.last m) state full e refl a
    go false None e f = read_first h s offered accepted m state full e f a
    go false (Some n) e f = absurd (first_read h s offered accepted m n state full e f a)

pub read_again_none : {B : Type 0} (h : InHalf) (s : InSide B) (offered accepted : List B) → h.state ≡ InState.Refetch → s.box ≡ None → InAgree h s offered accepted → InAgree (record h { state = InState.Clear }) (record s { box = None }) offered (accepted ++ [])
read_again_none h s offered accepted state empty a = grind (arith, common_steps, nat_tests, pushes)

-- a read in Clear was lost, before the slave and behind it
pub clear_lost_before : {B : Type 0} (h : InHalf) (s : InSide B) (offered accepted : List B) → h.state ≡ InState.Clear → InAgree h s offered accepted → InAgree (read_lost h) s offered accepted
clear_lost_before h s offered accepted state a = grind (arith, common_steps, nat_tests, pushes)

pub clear_lost_behind : {B : Type 0} (h : InHalf) (s : InSide B) (offered accepted : List B) → h.state ≡ InState.Clear → InAgree h s offered accepted → InAgree (read_lost h) (record s { box = None }) offered accepted
clear_lost_behind h s offered accepted state a = grind (arith, common_steps, nat_tests, pushes)

-- a read in Refetch was lost
pub again_lost_before : {B : Type 0} (h : InHalf) (s : InSide B) (offered accepted : List B) → h.state ≡ InState.Refetch → InAgree h s offered accepted → InAgree (read_lost h) s offered accepted
again_lost_before h s offered accepted state a = grind (arith, common_steps, nat_tests, pushes)

pub again_lost_behind : {B : Type 0} (h : InHalf) (s : InSide B) (offered accepted : List B) → h.state ≡ InState.Refetch → InAgree h s offered accepted → InAgree (read_lost h) (record s { box = None }) offered accepted
again_lost_behind h s offered accepted state a = grind (arith, common_steps, nat_tests, pushes)

-- the repeat request is met, and the half hears of it or does not
pub request_passes : {B : Type 0} (h : InHalf) (s : InSide B) (offered accepted : List B) → h.state ≡ InState.Doubt → InAgree h s offered accepted → InAgree (record h { state = InState.Asked }) (record s { request = h.bit }) offered accepted
request_passes h s offered accepted state a = grind (arith, common_steps, nat_tests, pushes)

pub request_meets : {B : Type 0} (h : InHalf) (s : InSide B) (offered accepted : List B) → h.state ≡ InState.Doubt → InAgree h s offered accepted → InAgree h (record s { request = h.bit }) offered accepted
request_meets h s offered accepted state a = grind (arith, common_steps, nat_tests, pushes)

-- the acknowledge was read, and equals the request
pub acknowledge_equal : {B : Type 0} (h : InHalf) (s : InSide B) (offered accepted : List B) → h.state ≡ InState.Asked → differs s.acknowledge h.bit ≡ false → InAgree h s offered accepted → InAgree (record h { state = InState.Refetch }) s offered accepted
acknowledge_equal h s offered accepted state equal a = grind (arith, common_steps, nat_tests, pushes)

no_news : {B : Type 0} (h : InHalf) (s : InSide B) (offered accepted : List B) → InAgree h s offered accepted → InAgree h s offered (accepted ++ [])
no_news h s offered accepted a = grind (arith, common_steps)

asked_keeps : {B : Type 0} (h : InHalf) (s : InSide B) (offered accepted : List B) (differ : Bool) → h.state ≡ InState.Asked → differs s.acknowledge h.bit ≡ differ → InAgree h s offered accepted → InAgree (if differ then h else record h { state = InState.Refetch }) s offered (accepted ++ [])
asked_keeps h s offered accepted true e f a = no_news h s offered accepted a
asked_keeps h s offered accepted false e f a =
    no_news (record h { state = InState.Refetch }) s offered accepted (acknowledge_equal h s offered accepted e f a)

append_nothing : {B : Type 0} (h : InHalf) (s : InSide B) (offered accepted : List B) → InAgree h s offered accepted → InAgree h s (offered ++ []) accepted
append_nothing h s offered accepted a = grind (arith, common_steps)

-- the inward half's datagram, with any fate
pub in_keeps : {B : Type 0} (h : InHalf) (s : InSide B) (offered accepted : List B) (fate : Fate) (state : InState) (box : Option (LinkMail B)) → h.state ≡ state → s.box ≡ box → InAgree h s offered accepted → InAgree (in_half_after h state box s.acknowledge fate) (in_side_after s state h.bit fate) offered (accepted ++ in_news h state box fate)
in_keeps h s offered accepted Fate.Pass InState.Clear None e f a = read_clear_none h s offered accepted e f a
in_keeps h s offered accepted Fate.Pass InState.Clear (Some m) e f a = read_clear_some h s offered accepted m e f a
in_keeps h s offered accepted Fate.Pass InState.Doubt box e f a = no_news _ _ offered accepted (request_passes h s offered accepted e a)
in_keeps h s offered accepted Fate.Pass InState.Asked box e f a = asked_keeps h s offered accepted (differs s.acknowledge h.bit) e refl a
in_keeps h s offered accepted Fate.Pass InState.Refetch None e f a = read_again_none h s offered accepted e f a
in_keeps h s offered accepted Fate.Pass InState.Refetch (Some m) e f a = read_again_some h s offered accepted m e f a
in_keeps h s offered accepted Fate.LostBefore InState.Clear box e f a = no_news _ _ offered accepted (clear_lost_before h s offered accepted e a)
in_keeps h s offered accepted Fate.LostBefore InState.Doubt box e f a = no_news _ _ offered accepted a
in_keeps h s offered accepted Fate.LostBefore InState.Asked box e f a = no_news _ _ offered accepted a
in_keeps h s offered accepted Fate.LostBefore InState.Refetch box e f a = no_news _ _ offered accepted (again_lost_before h s offered accepted e a)
in_keeps h s offered accepted Fate.LostBehind InState.Clear box e f a = no_news _ _ offered accepted (clear_lost_behind h s offered accepted e a)
in_keeps h s offered accepted Fate.LostBehind InState.Doubt box e f a = no_news _ _ offered accepted (request_meets h s offered accepted e a)
in_keeps h s offered accepted Fate.LostBehind InState.Asked box e f a = no_news _ _ offered accepted a
in_keeps h s offered accepted Fate.LostBehind InState.Refetch box e f a = no_news _ _ offered accepted (again_lost_behind h s offered accepted e a)

-- step 1
notice_by : {B : Type 0} (h : InHalf) (s : InSide B) (offered accepted : List B) (m : LinkMail B) (again : Bool) → s.box ≡ None → s.offered ≡ Some m → s.again ≡ again → InAgree h s offered accepted → InAgree h (record s { offered = None; again = false; last_read = if again then s.last_read else Some m }) offered accepted
notice_by h s offered accepted m true e f g a = notice_again h s offered accepted m e f g a
notice_by h s offered accepted m false e f g a = notice_new h s offered accepted m e f g a

pub notice_keeps : {B : Type 0} (h : InHalf) (s : InSide B) (offered accepted : List B) (box stood : Option (LinkMail B)) → s.box ≡ box → s.offered ≡ stood → InAgree h s offered accepted → InAgree h (noticed s box stood) offered accepted
notice_keeps h s offered accepted (Some m) stood e f a = a
notice_keeps h s offered accepted None None e f a = a
notice_keeps h s offered accepted None (Some m) e f a = notice_by h s offered accepted m s.again e f refl a

-- behind step 1 no mail is offered that does not stand in mailbox 1
abbrev pub IsNoticed : {B : Type 0} → InSide B → Type 0
IsNoticed s = s.box ≡ None → s.offered ≡ None

pub noticed-is_noticed : {B : Type 0} (s : InSide B) (box stood : Option (LinkMail B)) → s.box ≡ box → s.offered ≡ stood → IsNoticed (noticed s box stood)
noticed-is_noticed s (Some m) stood e f = λ g. cc
noticed-is_noticed s None None e f = λ g. f
noticed-is_noticed s None (Some m) e f = λ g. refl

-- step 2, where request and acknowledge differ
repeat_new : {B : Type 0} (h : InHalf) (s : InSide B) (offered accepted : List B) (m : LinkMail B) (stood : Option (LinkMail B)) → s.last_read ≡ Some m → s.offered ≡ stood → s.again ≡ false → IsNoticed s → differs s.request s.acknowledge ≡ true → InAgree h s offered accepted → InAgree h (record s { box = Some m; offered = Some m; again = true; withdrawn = first_of stood s.withdrawn; acknowledge = s.request }) offered accepted
repeat_new h s offered accepted m None e f g n d a = repeat_offered h s offered accepted m e g f d a
repeat_new {B} h s offered accepted m (Some k) e f g n d a = go s.box refl
  where
    go : (box : Option (LinkMail B)) → s.box ≡ box → InAgree h (record s { box = Some m; offered = Some m; again = true; withdrawn = Some k; acknowledge = s.request }) offered accepted
    go None q = let none : s.offered ≡ None = n q in cc
    go (Some b) q = let stands : s.offered ≡ Some b = a.side.stands b q in repeat_withdraws h s offered accepted m k e g f (let same : Some b ≡ Some k = cc in cc) d a

repeat_by : {B : Type 0} (h : InHalf) (s : InSide B) (offered accepted : List B) (m : LinkMail B) (again : Bool) → s.last_read ≡ Some m → s.again ≡ again → IsNoticed s → differs s.request s.acknowledge ≡ true → InAgree h s offered accepted → InAgree h (let t = (if again then s else record s { box = Some m; offered = Some m; again = true; withdrawn = first_of s.offered s.withdrawn }) in record t { acknowledge = s.request }) offered accepted
repeat_by h s offered accepted m true e g n d a = acknowledge_again h s offered accepted m e g n d a
repeat_by h s offered accepted m false e g n d a = repeat_new h s offered accepted m s.offered e refl g n d a

repeat_keeps : {B : Type 0} (h : InHalf) (s : InSide B) (offered accepted : List B) (last_read : Option (LinkMail B)) → s.last_read ≡ last_read → IsNoticed s → differs s.request s.acknowledge ≡ true → InAgree h s offered accepted → InAgree h (let t = repeated s last_read in record t { acknowledge = s.request }) offered accepted
repeat_keeps h s offered accepted None e n d a = acknowledge_none h s offered accepted e n d a
repeat_keeps h s offered accepted (Some m) e n d a = repeat_by h s offered accepted m s.again e refl n d a

request_keeps : {B : Type 0} (h : InHalf) (s : InSide B) (offered accepted : List B) (asked : Bool) → differs s.request s.acknowledge ≡ asked → IsNoticed s → InAgree h s offered accepted → InAgree h (if asked then (let t = repeated s s.last_read in record t { acknowledge = s.request }) else s) offered accepted
request_keeps h s offered accepted true d n a = repeat_keeps h s offered accepted s.last_read refl n d a
request_keeps h s offered accepted false d n a = a

-- steps 1 and 2
pub look_keeps : {B : Type 0} (h : InHalf) (s : InSide B) (offered accepted : List B) → InAgree h s offered accepted → InAgree h (looked s) offered accepted
look_keeps h s offered accepted a =
    let t = noticed s s.box s.offered in
    request_keeps h t offered accepted (differs t.request t.acknowledge) refl (noticed-is_noticed s s.box s.offered refl refl) (notice_keeps h s offered accepted s.box s.offered refl refl a)

-- step 5
pub offer_keeps : {B : Type 0} (h : InHalf) (s : InSide B) (offered accepted : List B) (box withdrawn : Option (LinkMail B)) (next : Option B) → s.box ≡ box → s.withdrawn ≡ withdrawn → IsNoticed s → InAgree h s offered accepted → InAgree h (offers s box withdrawn next) (offered ++ mail_offered box withdrawn next) accepted
offer_keeps h s offered accepted (Some b) withdrawn next e f n a = append_nothing h s offered accepted a
offer_keeps h s offered accepted None (Some m) next e f n a = append_nothing h _ offered accepted (withdrawn_offered h s offered accepted m e (n e) f a)
offer_keeps h s offered accepted None None None e f n a = append_nothing h s offered accepted a
offer_keeps h s offered accepted None None (Some body) e f n a = next_offered h s offered accepted body e (n e) f a

repeated-is_noticed : {B : Type 0} (s : InSide B) (last_read : Option (LinkMail B)) (again : Bool) → s.again ≡ again → IsNoticed s → IsNoticed (repeated s last_read)
repeated-is_noticed s None again e n = n
repeated-is_noticed s (Some m) true e n = rw e n
repeated-is_noticed s (Some m) false e n = rw e (λ (g : Some m ≡ None). cc)

requested-is_noticed : {B : Type 0} (s : InSide B) (asked : Bool) → IsNoticed s → IsNoticed (if asked then (let t = repeated s s.last_read in record t { acknowledge = s.request }) else s)
requested-is_noticed s true n = repeated-is_noticed s s.last_read s.again refl n
requested-is_noticed s false n = n

-- behind steps 1 and 2 no mail is offered that does not stand in mailbox 1
pub looked-is_noticed : {B : Type 0} (s : InSide B) → IsNoticed (looked s)
looked-is_noticed s =
    let t = noticed s s.box s.offered in
    requested-is_noticed t (differs t.request t.acknowledge) (noticed-is_noticed s s.box s.offered refl refl)
