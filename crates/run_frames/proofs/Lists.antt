-- Lists of scripted services, and of what is noted of them.
use Rattle.std.proofs.Common.{◌≡◌, ℕ, suc, ◌+◌, Bool, true, false, Option, Some, None, List, [], ◌∷◌, ◌++◌, length, refl, ap, sym, ◌∙◌, arith, append_assoc, append-nil}
use Rattle.life_runs.specs.of_life_model.Lives.{Era, returns_to_init}
use Rattle.life_runs.specs.of_link_mails.Body.{Body}
use Rattle.life_runs.specs.of_master_duty.Reply.{Reply}
use Rattle.life_runs.specs.of_master_hand.Spoken.{Asked}
use Rattle.run_frames.specs.Came.{is_beside}
use Rattle.life_runs.specs.of_state_model.Stated.{Service}
use Rattle.life_runs.specs.of_state_model.Accounts.{Started, Change}
use Rattle.life_runs.specs.of_state_model.Promise.{services_in, mails_in}
use Rattle.run_frames.specs.ScriptAnswers.{Came, Scripted, Noted, IsReported, AllNoted, states_in, first_change, changes_behind, change_outcome, scripted_mails, scripted_by, scripted_in, opened_anew, era_scripted, next_opened, eras_scripted}

abbrev pub Answer : Type 0
Answer = Option (Reply × ℕ)

abbrev pub Over : Type 0
Over = List (Change Reply)

-- ONE SERVICE MORE came into hand
either : (b : Bool) (frame : ℕ) (answer : Answer) (l m tail : List Scripted) → m ≡ l ++ tail → scripted_mails b frame answer m ≡ scripted_mails b frame answer l ++ tail
either true frame answer l m tail e = e
either false frame answer l m tail e = ap (λ (k : List Scripted). record { frame = frame; came = Came.mails answer } ∷ k) e

abbrev with_state : List (Started Asked) → ℕ → ℕ → List (Started Asked)
with_state ss target frame = ss ++ record { service = Service.State target; frame = frame } ∷ []

abbrev with_mails : List (Started Asked) → Asked → ℕ → List (Started Asked)
with_mails ss q frame = ss ++ record { service = Service.Mails q; frame = frame } ∷ []

abbrev state_came : Option ℕ → ℕ → ℕ → Over → List Scripted
state_came anew target frame tail = record { frame = frame; came = Came.state (change_outcome (returns_to_init target) anew (first_change tail)) } ∷ []

abbrev mails_came : Asked → ℕ → Answer → List Scripted
mails_came q frame answer = scripted_mails (is_beside (Service.Mails q)) frame answer []

-- a change of state, and those that are over behind the ones before it
pub scripted_state : (anew : Option ℕ) (ss : List (Started Asked)) (answers : List Answer) (over tail : Over) (target frame : ℕ) → states_in (services_in ss) ≡ length over →
    scripted_in anew (ss ++ record { service = Service.State target; frame = frame } ∷ []) answers (over ++ tail)
    ≡ scripted_in anew ss answers over ++ record { frame = frame; came = Came.state (change_outcome (returns_to_init target) anew (first_change tail)) } ∷ []
scripted_state anew [] answers [] tail target frame e = refl
scripted_state anew [] answers (o ∷ over) tail target frame e = absurd (omega (arith, e))
scripted_state anew (s ∷ ss) answers over tail target frame e = go s.service answers over e (λ as' os f. scripted_state anew ss as' os tail target frame f)
  where
    go : (z : Service Asked) (as' : List Answer) (os : Over) → states_in (z ∷ services_in ss) ≡ length os → ((bs : List Answer) (os : Over) → states_in (services_in ss) ≡ length os → scripted_in anew (with_state ss target frame) bs (os ++ tail) ≡ scripted_in anew ss bs os ++ state_came anew target frame tail) →
        scripted_by anew z s.frame as' (os ++ tail) (λ bs qs. scripted_in anew (with_state ss target frame) bs qs) ≡ scripted_by anew z s.frame as' os (λ bs qs. scripted_in anew ss bs qs) ++ state_came anew target frame tail
    go (Service.State t) as' [] f h = absurd (omega (arith, f))
    go (Service.State t) as' (o ∷ os) f h = ap (λ (k : List Scripted). record { frame = s.frame; came = Came.state (Some (o.answer, o.completed)) } ∷ k) (h as' os (omega (arith, f)))
    go (Service.Mails q) [] os f h = either (is_beside (Service.Mails q)) s.frame None (scripted_in anew ss [] os) (scripted_in anew (with_state ss target frame) [] (os ++ tail)) (state_came anew target frame tail) (h [] os f)
    go (Service.Mails q) (a ∷ as') os f h = either (is_beside (Service.Mails q)) s.frame a (scripted_in anew ss as' os) (scripted_in anew (with_state ss target frame) as' (os ++ tail)) (state_came anew target frame tail) (h as' os f)

pub scripted_one : (anew : Option ℕ) (ss : List (Started Asked)) (answers : List Answer) (over : Over) (q : Asked) (frame : ℕ) (answer : Answer) → mails_in (services_in ss) ≡ length answers →
    scripted_in anew (ss ++ record { service = Service.Mails q; frame = frame } ∷ []) (answers ++ answer ∷ []) over ≡ scripted_in anew ss answers over ++ scripted_mails (is_beside (Service.Mails q)) frame answer []
scripted_one anew [] [] over q frame answer e = refl
scripted_one anew [] (a ∷ as') over q frame answer e = absurd (omega (arith, e))
scripted_one anew (s ∷ ss) answers over q frame answer e = go s.service answers over e (λ as' os f. scripted_one anew ss as' os q frame answer f)
  where
    go : (z : Service Asked) (as' : List Answer) (os : Over) → mails_in (z ∷ services_in ss) ≡ length as' → ((bs : List Answer) (os : Over) → mails_in (services_in ss) ≡ length bs → scripted_in anew (with_mails ss q frame) (bs ++ answer ∷ []) os ≡ scripted_in anew ss bs os ++ (mails_came q frame answer)) →
        scripted_by anew z s.frame (as' ++ answer ∷ []) os (λ bs qs. scripted_in anew (with_mails ss q frame) bs qs) ≡ scripted_by anew z s.frame as' os (λ bs qs. scripted_in anew ss bs qs) ++ (mails_came q frame answer)
    go (Service.State t) as' os f h = ap (λ (k : List Scripted). record { frame = s.frame; came = Came.state (change_outcome (returns_to_init t) anew (first_change os)) } ∷ k) (h as' (changes_behind os) f)
    go (Service.Mails r) [] os f h = absurd (omega (arith, f))
    go (Service.Mails r) (a ∷ as') os f h = either (is_beside (Service.Mails r)) s.frame a (scripted_in anew ss as' os) (scripted_in anew (with_mails ss q frame) (as' ++ answer ∷ []) os) (mails_came q frame answer) (h as' os (omega (arith, f)))

abbrev with_mail : List (Started Asked) → Asked → ℕ → List (Started Asked) → List (Started Asked)
with_mail ss q frame behind = ss ++ record { service = Service.Mails q; frame = frame } ∷ behind

-- WHERE A SERVICE IS NONE OF THE SCRIPT it doesn't matter what it is answered
pub scripted_beside : (anew : Option ℕ) (ss : List (Started Asked)) (answers : List Answer) (over : Over) (q : Asked) (frame : ℕ) (behind : List (Started Asked)) (x y : Answer) → is_beside (Service.Mails q) ≡ true → mails_in (services_in ss) ≡ length answers →
    scripted_in anew (ss ++ record { service = Service.Mails q; frame = frame } ∷ behind) (answers ++ x ∷ []) over ≡ scripted_in anew (ss ++ record { service = Service.Mails q; frame = frame } ∷ behind) (answers ++ y ∷ []) over
scripted_beside anew [] [] over q frame behind x y other e =
    ap (λ (b : Bool). scripted_mails b frame x (scripted_in anew behind [] over)) other ∙ sym (ap (λ (b : Bool). scripted_mails b frame y (scripted_in anew behind [] over)) other)
scripted_beside anew [] (a ∷ as') over q frame behind x y other e = absurd (omega (arith, e))
scripted_beside anew (s ∷ ss) answers over q frame behind x y other e = go s.service answers over e (λ as' os f. scripted_beside anew ss as' os q frame behind x y other f)
  where
    go : (z : Service Asked) (as' : List Answer) (os : Over) → mails_in (z ∷ services_in ss) ≡ length as' → ((bs : List Answer) (os : Over) → mails_in (services_in ss) ≡ length bs → scripted_in anew (with_mail ss q frame behind) (bs ++ x ∷ []) os ≡ scripted_in anew (with_mail ss q frame behind) (bs ++ y ∷ []) os) →
        scripted_by anew z s.frame (as' ++ x ∷ []) os (λ bs qs. scripted_in anew (with_mail ss q frame behind) bs qs) ≡ scripted_by anew z s.frame (as' ++ y ∷ []) os (λ bs qs. scripted_in anew (with_mail ss q frame behind) bs qs)
    go (Service.State t) as' os f h = ap (λ (k : List Scripted). record { frame = s.frame; came = Came.state (change_outcome (returns_to_init t) anew (first_change os)) } ∷ k) (h as' (changes_behind os) f)
    go (Service.Mails r) [] os f h = absurd (omega (arith, f))
    go (Service.Mails r) (a ∷ as') os f h = ap (λ (k : List Scripted). scripted_mails (is_beside (Service.Mails r)) s.frame a k) (h as' os (omega (arith, f)))

-- WHERE EACH CHANGE OF STATE IS OVER it doesn't matter what opens the slave anew
pub steady : (a b : Option ℕ) (ss : List (Started Asked)) (answers : List Answer) (over : Over) → states_in (services_in ss) ≡ length over → scripted_in a ss answers over ≡ scripted_in b ss answers over
steady a b [] answers over e = refl
steady a b (s ∷ ss) answers over e = go s.service answers over e (λ as' os f. steady a b ss as' os f)
  where
    go : (z : Service Asked) (as' : List Answer) (os : Over) → states_in (z ∷ services_in ss) ≡ length os → ((bs : List Answer) (qs : Over) → states_in (services_in ss) ≡ length qs → scripted_in a ss bs qs ≡ scripted_in b ss bs qs) →
        scripted_by a z s.frame as' os (λ bs qs. scripted_in a ss bs qs) ≡ scripted_by b z s.frame as' os (λ bs qs. scripted_in b ss bs qs)
    go (Service.State t) as' [] f h = absurd (omega (arith, f))
    go (Service.State t) as' (o ∷ os) f h = ap (λ (k : List Scripted). record { frame = s.frame; came = Came.state (Some (o.answer, o.completed)) } ∷ k) (h as' os (omega (arith, f)))
    go (Service.Mails q) [] os f h = ap (λ (k : List Scripted). scripted_mails (is_beside (Service.Mails q)) s.frame None k) (h [] os f)
    go (Service.Mails q) (x ∷ as') os f h = ap (λ (k : List Scripted). scripted_mails (is_beside (Service.Mails q)) s.frame x k) (h as' os f)

-- one that isn't over has come to nothing, before its slave is opened anew
pub no_outcome : (b : Bool) → change_outcome b None None ≡ None
no_outcome true = refl
no_outcome false = refl

-- how many go by mails
pub mails_more : (ss : List (Started Asked)) (q : Asked) (frame : ℕ) → mails_in (services_in (ss ++ record { service = Service.Mails q; frame = frame } ∷ [])) ≡ mails_in (services_in ss) + 1
mails_more [] q frame = omega arith
mails_more (s ∷ ss) q frame = go s.service (mails_more ss q frame)
  where
    go : (z : Service Asked) → mails_in (services_in (with_mails ss q frame)) ≡ mails_in (services_in ss) + 1 → mails_in (z ∷ (services_in (with_mails ss q frame))) ≡ mails_in (z ∷ services_in ss) + 1
    go (Service.Mails r) h = omega (arith, h)
    go (Service.State t) h = h

pub states_more : (ss : List (Started Asked)) (target frame : ℕ) → mails_in (services_in (ss ++ record { service = Service.State target; frame = frame } ∷ [])) ≡ mails_in (services_in ss)
states_more [] target frame = refl
states_more (s ∷ ss) target frame = go s.service (states_more ss target frame)
  where
    go : (z : Service Asked) → mails_in (services_in (with_state ss target frame)) ≡ mails_in (services_in ss) → mails_in (z ∷ (services_in (with_state ss target frame))) ≡ mails_in (z ∷ services_in ss)
    go (Service.Mails r) h = ap suc h
    go (Service.State t) h = h

-- how many change the state
pub changes_more : (ss : List (Started Asked)) (target frame : ℕ) → states_in (services_in (ss ++ record { service = Service.State target; frame = frame } ∷ [])) ≡ states_in (services_in ss) + 1
changes_more [] target frame = omega arith
changes_more (s ∷ ss) target frame = go s.service (changes_more ss target frame)
  where
    go : (z : Service Asked) → states_in (services_in (with_state ss target frame)) ≡ states_in (services_in ss) + 1 → states_in (z ∷ (services_in (with_state ss target frame))) ≡ states_in (z ∷ services_in ss) + 1
    go (Service.Mails r) h = h
    go (Service.State t) h = omega (arith, h)

pub changes_same : (ss : List (Started Asked)) (q : Asked) (frame : ℕ) → states_in (services_in (ss ++ record { service = Service.Mails q; frame = frame } ∷ [])) ≡ states_in (services_in ss)
changes_same [] q frame = refl
changes_same (s ∷ ss) q frame = go s.service (changes_same ss q frame)
  where
    go : (z : Service Asked) → states_in (services_in (with_mails ss q frame)) ≡ states_in (services_in ss) → states_in (z ∷ (services_in (with_mails ss q frame))) ≡ states_in (z ∷ services_in ss)
    go (Service.Mails r) h = h
    go (Service.State t) h = ap suc h

-- WHAT IS NOTED, with one more
pub noted_more : (ss : List Scripted) (ns : List Noted) (s : Scripted) (n : Noted) → AllNoted ss ns → n.frame ≡ s.frame → IsReported s.came n.reply → AllNoted (ss ++ s ∷ []) (ns ++ n ∷ [])
noted_more [] [] s n h f r = ((f, r), tt)
noted_more [] (m ∷ ns) s n h f r = absurd h
noted_more (t ∷ ss) [] s n h f r = absurd h
noted_more (t ∷ ss) (m ∷ ns) s n h f r = (h.0, noted_more ss ns s n h.1 f r)

-- all but the last
pub noted_front : (ss : List Scripted) (ns : List Noted) (s : Scripted) (n : Noted) → AllNoted (ss ++ s ∷ []) (ns ++ n ∷ []) → AllNoted ss ns × (n.frame ≡ s.frame)
noted_front [] [] s n h = (tt, h.0.0)
noted_front [] (m ∷ []) s n h = absurd h.1
noted_front [] (m ∷ k ∷ ns) s n h = absurd h.1
noted_front (t ∷ []) [] s n h = absurd h.1
noted_front (t ∷ u ∷ ss) [] s n h = absurd h.1
noted_front (t ∷ ss) (m ∷ ns) s n h = let more = noted_front ss ns s n h.1 in ((h.0, more.0), more.1)

-- ONE EPOCH MORE
next_more : (es : List (Era Body Asked Reply)) (e : Era Body Asked Reply) (behind : Option ℕ) → next_opened (es ++ e ∷ []) behind ≡ next_opened es e.opened
next_more [] e behind = refl
next_more (d ∷ es) e behind = refl

pub eras_more : (gave : List ℕ) (es : List (Era Body Asked Reply)) (e : Era Body Asked Reply) (behind : Option ℕ) → eras_scripted gave (es ++ e ∷ []) behind ≡ eras_scripted gave es e.opened ++ era_scripted (opened_anew gave e.opened behind) e
eras_more gave [] e behind = append-nil (era_scripted (opened_anew gave e.opened behind) e)
eras_more gave (d ∷ es) e behind =
    (λ i. era_scripted (opened_anew gave d.opened (next_more es e behind i)) d ++ eras_more gave es e behind i)
    ∙ sym (append_assoc (era_scripted (opened_anew gave d.opened (next_opened es e.opened)) d) (eras_scripted gave es e.opened) (era_scripted (opened_anew gave e.opened behind) e))
