-- WHAT A BOOK REPORTS IS WHAT THE FRAMES GIVE, and what the application replied.
use Rattle.std.specs.Prelude.{◌==◌, not, option_map, if◌then◌else◌}
use Rattle.std.proofs.Common.{◌≡◌, ℕ, suc, Bool, true, false, Option, Some, None, List, [], ◌∷◌, ◌++◌, refl, ap, sym, ◌∙◌, subst, append-nil}
use Rattle.run_promises.specs.of_exchange_model.Exchange.{Exchange, Speech, plain}
use Rattle.run_promises.specs.of_exchange_model.Rows.{Row}
use Rattle.seen_slaves.specs.of_plan_ring.Epochs.{IsKept, AreKept, IsNewest, IsKeptLife}
use Rattle.seen_slaves.specs.of_frame_view.Shares.{AllBoth}
use Rattle.run_promises.specs.of_life_model.Eras.{era_frames}
use Rattle.run_promises.specs.of_life_model.Lives.{Spot, Era, Life, returns_to_init}
use Rattle.run_promises.specs.of_life_runs.First.{lens_of, spot_of}
use Rattle.run_promises.specs.of_life_runs.Led.{Exchanged, Leads}
use Rattle.run_promises.specs.of_link_mails.Body.{Body}
use Rattle.seen_slaves.specs.of_master_duty.Reply.{Reply}
use Rattle.seen_slaves.specs.of_master_hand.Spoken.{Asked, is_followed}
use Rattle.run_promises.specs.Promise.{AllKeep}
use Rattle.run_promises.specs.Plan.{first_app}
use Rattle.promised_run.specs.Reported.{AreNoted, IsNotedBy, IsReplyBy, NotedBy, RepliesBy, has_reply, stays, AreReplies, EraReplies, PastReplies, NewestReplies, LifeReplies, AllReported}
use Rattle.promised_run.proofs.Unopened.{NothingBefore, AllNothing, Opened, AllOpened}
use Rattle.gateway_run.specs.of_run_book.declared.book.SlaveBook.{SlaveBook}
use Rattle.run_promises.specs.Round.{all_seen}
use Rattle.run_promises.specs.Slaves.{services_of}
use Rattle.gateway_run.specs.of_run_notes.Reports.{noted_in, IsBooked}
use Rattle.seen_slaves.specs.of_run_frames.ScriptAnswers.{Came, Scripted, Noted, AllNoted, answers_in, side_answers, first_change, changes_behind, change_outcome, opened_anew, scripted_by, scripted_in, scripted_mails, era_scripted, eras_scripted, life_scripted, reply_by, outcome_reply}
use Rattle.seen_slaves.proofs.of_run_frames.Lists.{eras_more}
use Rattle.seen_slaves.specs.of_run_frames.Came.{is_beside}
use Rattle.run_promises.specs.of_link_model.Mails.{first_of}
use Rattle.run_promises.specs.of_segment_model.Ends.{Outcome, mails_end, state_ends}
use Rattle.run_promises.specs.of_segment_model.Laws.{IsAnswered, AllAnswered, as_outcome}
use Rattle.run_promises.specs.of_segment_model.Record.{Frame, News, first_end, mails_heard, or_later, news_from}
use Rattle.run_promises.specs.of_segment_model.Seats.{rows_of}
use Rattle.run_promises.specs.of_segment_plan.declared.plan.Scenario.{Scenario}
use Rattle.run_promises.specs.of_segment_plan.declared.slave.SlaveSpec.{SlaveSpec}
use Rattle.seen_slaves.specs.of_plan_ring.Real.{real_clearing}
use Rattle.seen_slaves.specs.of_slave_lives.Lived.{Behind, table_of}
use Rattle.run_promises.specs.of_slave_server.Serving.{Serving}
use Rattle.run_promises.specs.of_slave_node.Node.{Node}
use Rattle.run_promises.specs.of_state_model.Stated.{Stated, Service, with_states}
use Rattle.run_promises.specs.of_state_model.States.{Table}
use Rattle.run_promises.specs.of_state_model.Accounts.{Started, Duty, Change}
use Rattle.run_promises.specs.of_state_model.Promise.{AllReplied, AllFound, IsOpenYet, IsReply, mail_of, state_of, mails_started, states_started, rows_started, changes_in, duty_in, outcome_of}

abbrev Held : Type 0
Held = Row Body Asked Reply

-- parts of what is noted
pub record Parts (ss ts : List Scripted) (ns : List Noted) : Type 0 where
  pub front : List Noted
  pub behind : List Noted
  pub whole : ns ≡ front ++ behind
  pub first : AllNoted ss front
  pub last : AllNoted ts behind

pub parts : (ss ts : List Scripted) (ns : List Noted) → AllNoted (ss ++ ts) ns → Parts ss ts ns
parts [] ts ns h = record { front = []; behind = ns; whole = refl; first = tt; last = h }
parts (s ∷ ss) ts [] h = absurd h
parts (s ∷ ss) ts (n ∷ ns) h =
    let p = parts ss ts ns h.1 in record { front = n ∷ p.front; behind = p.behind; whole = ap (λ ms. n ∷ ms) p.whole; first = (h.0, p.first); last = p.last }

pub none_noted : (ns : List Noted) → AllNoted [] ns → ns ≡ []
none_noted [] h = refl
none_noted (n ∷ ns) h = absurd h

-- ONE EPOCH
not_true : (b : Bool) → not b ≡ true → b ≡ false
not_true true e = absurd (let bad : false ≡ true = e in cc)
not_true false e = refl

outcome_back : (answer : Option (Reply × ℕ)) → outcome_reply (as_outcome answer) ≡ answer
outcome_back None = refl
outcome_back (Some a) = refl

-- AN OUTCOME OF A CHANGE OF STATE is a reply
ends_reply : (target : ℕ) (refusal : Option ℕ) (ns : List (News Body)) (o : Outcome Reply) → state_ends target refusal ns ≡ Some o → IsReply o
ends_reply target refusal [] o e = absurd (cc)
ends_reply target None (News.Status state None ∷ ns) o e = by (state == target) e (λ f. ends_reply target None ns o f)
  where
    by : (b : Bool) → (if b then Some Outcome.Reached else state_ends target None ns) ≡ Some o → (state_ends target None ns ≡ Some o → IsReply o) → IsReply o
    by true f more = let same : Outcome.Reached ≡ o = cc in subst (λ (z : Outcome Reply). IsReply z) same tt
    by false f more = more f
ends_reply target (Some code) (News.Status state None ∷ ns) o e = let same : Outcome.Refused code ≡ o = cc in subst (λ (z : Outcome Reply). IsReply z) same tt
ends_reply target refusal (News.Status state (Some code) ∷ ns) o e = ends_reply target (first_of refusal (Some code)) ns o e
ends_reply target refusal (News.Told m ∷ ns) o e = ends_reply target refusal ns o e
ends_reply target refusal (News.Written ∷ ns) o e = ends_reply target refusal ns o e
ends_reply target refusal (News.Heard m ∷ ns) o e = ends_reply target refusal ns o e
ends_reply target refusal (News.NothingRead ∷ ns) o e = ends_reply target refusal ns o e
ends_reply target refusal (News.BoxFull full ∷ ns) o e = ends_reply target refusal ns o e

first_reply : (target frame : ℕ) (before : List (News Body)) (nss : List (List (News Body))) (w : Outcome Reply × ℕ) → first_end (λ ns. state_ends target None ns) frame before nss ≡ Some w → IsReply w.0
first_reply target frame before [] w e = absurd (cc)
first_reply target frame before (ns ∷ nss) w e = by (state_ends target None (before ++ ns)) refl e (λ g. first_reply target (suc frame) (before ++ ns) nss w g)
  where
    outcome_or : Outcome Reply → Option (Outcome Reply × ℕ) → Outcome Reply
    outcome_or o None = o
    outcome_or o (Some k) = k.0

    by : (o : Option (Outcome Reply)) → state_ends target None (before ++ ns) ≡ o → or_later o frame (first_end (λ ns. state_ends target None ns) (suc frame) (before ++ ns) nss) ≡ Some w →
        (first_end (λ ns. state_ends target None ns) (suc frame) (before ++ ns) nss ≡ Some w → IsReply w.0) → IsReply w.0
    by None f g more = more g
    by (Some o) f g more = let same : o ≡ w.0 = ap (outcome_or o) g in subst (λ (z : Outcome Reply). IsReply z) same (ends_reply target None (before ++ ns) o f)

pub first_row : (q : Asked) (frame : ℕ) (r : Held) (ms : List (Asked × ℕ)) (rs : List Held) → (q, frame) ∷ ms ≡ rows_started (r ∷ rs) → (r.service ≡ q) × (r.frame ≡ frame) × (ms ≡ rows_started rs)
first_row q frame r ms rs e = let head : (q, frame) ≡ (r.service, r.frame) = cc in let tail : ms ≡ rows_started rs = cc in (sym (ap (λ (p : Asked × ℕ). p.0) head), sym (ap (λ (p : Asked × ℕ). p.1) head), tail)

-- the reply of one that is reported
abbrev reply_or : Reply → Option (Reply × ℕ) → Reply
reply_or y None = y
reply_or y (Some k) = k.0

-- AN OUTCOME OF A SERVICE BY MAILS that has a reply is that reply
first_replied : (replies : List (News Body) → Option Reply) (frame : ℕ) (before : List (News Body)) (nss : List (List (News Body))) (w : Outcome Reply × ℕ) →
    first_end (λ ns. option_map (λ r. Outcome.Replied r) (replies ns)) frame before nss ≡ Some w → w.0 ≡ Outcome.Replied (reply_by w.0)
first_replied replies frame before [] w e = absurd (let bad : None ≡ Some w = e in cc)
first_replied replies frame before (ns ∷ nss) w e = by (replies (before ++ ns)) e (λ g. first_replied replies (suc frame) (before ++ ns) nss w g)
  where
    by : (r : Option Reply) → or_later (option_map (λ r. Outcome.Replied r) r) frame (first_end (λ ns. option_map (λ r. Outcome.Replied r) (replies ns)) (suc frame) (before ++ ns) nss) ≡ Some w →
        (first_end (λ ns. option_map (λ r. Outcome.Replied r) (replies ns)) (suc frame) (before ++ ns) nss ≡ Some w → w.0 ≡ Outcome.Replied (reply_by w.0)) → w.0 ≡ Outcome.Replied (reply_by w.0)
    by None g more = more g
    by (Some r) g more = let same : ◌≡◌ {A = Outcome Reply × ℕ} (Outcome.Replied r, frame) w = cc in subst (λ (k : Outcome Reply × ℕ). k.0 ≡ Outcome.Replied (reply_by k.0)) same refl

-- WHAT THE FRAMES GIVE of a slave's services
module _ (x : Speech Body Asked Reply) (station : ℕ) (gs : List (Frame Body)) where
  abbrev pub found : Service Asked → ℕ → Option (Outcome Reply × ℕ)
  found q frame = outcome_of x is_followed station gs (record { service = q; frame = frame })

  -- BY MAILS: the answer of a row is what the frames give
  row_found : (q : Asked) (frame : ℕ) (r : Held) → r.service ≡ q → r.frame ≡ frame → IsAnswered x is_followed station gs r → x.handed q ≡ false → as_outcome r.answer ≡ found (Service.Mails q) frame
  row_found q frame r sq sf answered h = answered.replied (ap x.handed sq ∙ h) ∙ (λ i. outcome_of x is_followed station gs (record { service = Service.Mails (sq i); frame = sf i }))

  mails_noted : (anew : Option ℕ) (q : Asked) (frame : ℕ) (r : Held) (n : Noted) → r.service ≡ q → r.frame ≡ frame → IsAnswered x is_followed station gs r → n.frame ≡ frame → n.reply ≡ r.answer → IsNotedBy x station gs anew (Service.Mails q) frame n
  mails_noted anew q frame r n sq sf answered at is = record { at = at; given = λ h. is ∙ sym (outcome_back r.answer) ∙ ap outcome_reply (row_found q frame r sq sf answered (not_true (x.handed q) h)) }

  -- A CHANGE OF STATE
  state_noted : (anew : Option ℕ) (target frame : ℕ) (outcome : Option (Outcome Reply × ℕ)) (n : Noted) → found (Service.State target) frame ≡ outcome → n.frame ≡ frame → n.reply ≡ outcome_reply (change_outcome (returns_to_init target) anew outcome) → IsNotedBy x station gs anew (Service.State target) frame n
  state_noted anew target frame outcome n is at h = record { at = at; given = λ e. h ∙ ap (λ (z : Option (Outcome Reply × ℕ)). outcome_reply (change_outcome (returns_to_init target) anew z)) (sym is) }

  -- the changes of state that are over, and the one in hand, have what the frames give
  pub record Found (ms : List (ℕ × ℕ)) (cs : List (Change Reply)) : Type 0 where
    pub hand : Option Duty
    pub whole : ms ≡ changes_in cs ++ duty_in hand
    pub over : AllFound x is_followed station gs cs
    pub none : IsOpenYet x is_followed station gs hand

  -- the first of them
  record FoundFirst (target frame : ℕ) (ms : List (ℕ × ℕ)) (cs : List (Change Reply)) : Type 0 where
    is : found (Service.State target) frame ≡ first_change cs
    rest : Found ms (changes_behind cs)

  heads : (p q : ℕ × ℕ) (ps qs : List (ℕ × ℕ)) → p ∷ ps ≡ q ∷ qs → (p ≡ q) × (ps ≡ qs)
  heads p q ps qs e = (cc, cc)

  found_at : (p q : ℕ × ℕ) → p ≡ q → found (Service.State p.0) p.1 ≡ found (Service.State q.0) q.1
  found_at p q e = λ i. found (Service.State (e i).0) (e i).1

  found_first : (target frame : ℕ) (ms : List (ℕ × ℕ)) (cs : List (Change Reply)) → Found ((target, frame) ∷ ms) cs → FoundFirst target frame ms cs
  found_first target frame ms (c ∷ cs) h =
      let e = heads (target, frame) (c.target, c.frame) ms (changes_in cs ++ duty_in h.hand) h.whole in
      record { is = found_at (target, frame) (c.target, c.frame) e.0 ∙ h.over.0; rest = record { hand = h.hand; whole = e.1; over = h.over.1; none = h.none } }
  found_first target frame ms [] h = by h.hand h.whole h.none
    where
      by : (hand : Option Duty) → (target, frame) ∷ ms ≡ duty_in hand → IsOpenYet x is_followed station gs hand → FoundFirst target frame ms []
      by None e o = absurd (let bad : (target, frame) ∷ ms ≡ [] = e in cc)
      by (Some duty) e o =
          let k = heads (target, frame) (duty.target, duty.frame) ms [] e in record { is = found_at (target, frame) (duty.target, duty.frame) k.0 ∙ o; rest = record { hand = None; whole = k.1; over = tt; none = tt } }

  -- SO OF ALL THAT CAME INTO HAND just what the frames give is noted
  pub are_noted : (anew : Option ℕ) (ss : List (Started Asked)) (rs : List Held) (cs : List (Change Reply)) (ns : List Noted) → mails_started ss ≡ rows_started rs → AllAnswered x is_followed station gs rs → Found (states_started ss) cs →
      AllNoted (scripted_in anew ss (answers_in rs) cs) ns → AreNoted x station gs anew ss ns
  are_noted anew [] rs cs ns m y f h = none_noted ns h
  are_noted anew (r ∷ ss) rs cs ns m y f h = go r.service rs m y f h (λ rs ds ms m y f h. are_noted anew ss rs ds ms m y f h)
    where
      noted_by : (b : Bool) (q : Asked) (t : Held) (ts : List Scripted) (ns : List Noted) → AllNoted (scripted_mails b r.frame t.answer ts) ns → t.service ≡ q → t.frame ≡ r.frame → IsAnswered x is_followed station gs t →
          (more : List Noted → Type 0) → ((ms : List Noted) → AllNoted ts ms → more ms) → NotedBy b ns (IsNotedBy x station gs anew (Service.Mails q) r.frame) more
      noted_by true q t ts ns h sq sf y more k = k ns h
      noted_by false q t ts [] h sq sf y more k = absurd h
      noted_by false q t ts (n ∷ ns) h sq sf y more k = (mails_noted anew q r.frame t n sq sf y h.0.0 h.0.1, k ns h.1)

      go : (z : Service Asked) (rs : List Held) → mail_of z r.frame ++ mails_started ss ≡ rows_started rs → AllAnswered x is_followed station gs rs → Found (state_of z r.frame ++ states_started ss) cs →
          AllNoted (scripted_by anew z r.frame (answers_in rs) cs (λ more others. scripted_in anew ss more others)) ns →
          ((rs : List Held) (ds : List (Change Reply)) (ms : List Noted) → mails_started ss ≡ rows_started rs → AllAnswered x is_followed station gs rs → Found (states_started ss) ds → AllNoted (scripted_in anew ss (answers_in rs) ds) ms → AreNoted x station gs anew ss ms) →
          NotedBy (is_beside z) ns (IsNotedBy x station gs anew z r.frame) (λ more. AreNoted x station gs anew ss more)
      go (Service.State target) rs m y f h more = state_by ns h
        where
          first : FoundFirst target r.frame (states_started ss) cs
          first = found_first target r.frame (states_started ss) cs f

          state_by : (ns : List Noted) → AllNoted (record { frame = r.frame; came = Came.state (change_outcome (returns_to_init target) anew (first_change cs)) } ∷ scripted_in anew ss (answers_in rs) (changes_behind cs)) ns →
              NotedBy false ns (IsNotedBy x station gs anew (Service.State target) r.frame) (λ more. AreNoted x station gs anew ss more)
          state_by [] h = absurd h
          state_by (n ∷ ns) h = (state_noted anew target r.frame (first_change cs) n first.is h.0.0 h.0.1, more rs (changes_behind cs) ns m y first.rest h.1)
      go (Service.Mails q) [] m y f h more = absurd (let bad : (q, r.frame) ∷ mails_started ss ≡ [] = m in cc)
      go (Service.Mails q) (t ∷ rs) m y f h more =
          let e = first_row q r.frame t (mails_started ss) rs m in
          noted_by (is_beside (Service.Mails q)) q t (scripted_in anew ss (answers_in rs) cs) ns h e.0 e.1 y.0 (λ ms. AreNoted x station gs anew ss ms) (λ ms k. more rs cs ms e.2 y.1 f k)

-- AND IT IS THE APPLICATION'S OWN
module _ {V A : Type 0} (x : Exchange V A Body Asked Reply) (s : Stated V A Asked) (table : Table) (station : ℕ) (gs : List (Frame Body)) where
  abbrev exec : A × ℕ → Service Asked → A × ℕ
  exec a q = (with_states x s table).exec a q

  abbrev replies : A × ℕ → Service Asked → Outcome Reply
  replies a q = (with_states x s table).reply a q

  abbrev given : Service Asked → ℕ → Option (Outcome Reply × ℕ)
  given q frame = found x.speech station gs q frame

  abbrev Replied : A × ℕ → Service Asked → ℕ → Type 0
  Replied a q frame = (o : Outcome Reply × ℕ) → given q frame ≡ Some o → IsReply o.0 → o.0 ≡ replies a q

  mails_own : (a : A × ℕ) (q : Asked) (frame : ℕ) → x.speech.handed q ≡ false → (o : Option (Outcome Reply × ℕ)) → given (Service.Mails q) frame ≡ o → Replied a (Service.Mails q) frame → (r : Reply) (g : ℕ) → outcome_reply o ≡ Some (r, g) → Outcome.Replied r ≡ replies a (Service.Mails q)
  mails_own a q frame h None f replied r g e = absurd (let bad : None ≡ Some (r, g) = e in cc)
  mails_own a q frame h (Some w) f replied r g e =
      let is = first_replied (λ ns. x.speech.ends q (plain x.speech.emission (mails_heard ns))) frame [] (news_from station frame gs) w (subst (λ (b : Bool). first_end (mails_end x.speech q b) frame [] (news_from station frame gs) ≡ Some w) h f) in
      ap (λ (z : Reply). Outcome.Replied z) (sym (ap (reply_or r) e)) ∙ sym is ∙ replied w f (subst IsReply (sym is) tt)

  stays_so : (b : Bool) (anew : Option ℕ) (outcome : Option (Outcome Reply × ℕ)) → b ≡ false → change_outcome b anew outcome ≡ outcome
  stays_so b anew None e = ap (λ (z : Bool). change_outcome z anew None) e
  stays_so b anew (Some o) e = refl

  state_own : (a : A × ℕ) (target frame : ℕ) (o : Option (Outcome Reply × ℕ)) → given (Service.State target) frame ≡ o → Replied a (Service.State target) frame → (r : Reply) (g : ℕ) → outcome_reply o ≡ Some (r, g) → r ≡ reply_by (replies a (Service.State target))
  state_own a target frame None f replied r g e = absurd (let bad : None ≡ Some (r, g) = e in cc)
  state_own a target frame (Some w) f replied r g e = sym (ap (reply_or r) e) ∙ ap reply_by (replied w f (first_reply target frame [] (news_from station frame gs) w f))

  own_by : (anew : Option ℕ) (a : A × ℕ) (q : Service Asked) (frame : ℕ) (n : Noted) → IsNotedBy x.speech station gs anew q frame n → Replied a q frame → has_reply x.speech q ≡ true → stays q ≡ true → (r : Reply) (g : ℕ) → n.reply ≡ Some (r, g) → IsReplyBy q r (replies a q)
  own_by anew a (Service.Mails q) frame n k replied h stay r g e = mails_own a q frame (not_true (x.speech.handed q) h) (given (Service.Mails q) frame) refl replied r g (sym (k.given h) ∙ e)
  own_by anew a (Service.State target) frame n k replied h stay r g e =
      let outcome = given (Service.State target) frame in
      state_own a target frame outcome refl replied r g (sym (k.given h ∙ ap outcome_reply (stays_so (returns_to_init target) anew outcome (not_true (returns_to_init target) stay))) ∙ e)

  are_replies : (anew : Option ℕ) (a : A × ℕ) (ss : List (Started Asked)) (ns : List Noted) → AreNoted x.speech station gs anew ss ns → AllReplied x s table is_followed station gs a ss → AreReplies x s table station gs anew a ss ns
  are_replies anew a [] ns h p = h
  are_replies anew a (r ∷ ss) ns h p = go (is_beside r.service) ns h (λ ms k. are_replies anew (exec a r.service) ss ms k p.1)
    where
      go : (b : Bool) (ns : List Noted) → NotedBy b ns (IsNotedBy x.speech station gs anew r.service r.frame) (λ more. AreNoted x.speech station gs anew ss more) →
          ((ms : List Noted) → AreNoted x.speech station gs anew ss ms → AreReplies x s table station gs anew (exec a r.service) ss ms) →
          RepliesBy x s table station gs anew b r.frame a r.service ns (λ more. AreReplies x s table station gs anew (exec a r.service) ss more)
      go true ns h more = more ns h
      go false [] h more = absurd h
      go false (n ∷ ns) h more = (record { noted = h.0; own = own_by anew a r.service r.frame n h.0 p.0 }, more ns h.1)

-- ALL EPOCHS
module _ {S V A : Type 0} (w : Behind S V A Asked Reply) (spot : Spot) (fs : List (Frame Body)) where
  kept_replies : (anew : Option ℕ) (e : Era Body Asked Reply) (from to : A) (until : ℕ) (k : IsKept w is_followed spot fs e from to until) (ns : List Noted) → AllNoted (era_scripted anew e) ns → EraReplies w spot fs anew k ns
  kept_replies anew e from to until k ns h =
      let gs = era_frames spot k.opened until fs in
      are_replies w.exchange w.states (table_of w spot.station) spot.station gs anew (w.states.told k.state from, 0) e.account.started ns
      (are_noted w.exchange.speech spot.station gs anew e.account.started (rows_of e.side) e.account.over ns k.told.mails k.told.answers (record { hand = e.account.hand; whole = k.told.states; over = k.told.over; none = k.told.hand }) h) k.answered.replies

  pub unopened_none : (anew : Option ℕ) (e : Era Body Asked Reply) → e.account.started ≡ [] → era_scripted anew e ≡ []
  unopened_none anew e none = ap (λ ss. scripted_in anew ss (side_answers e.side) e.account.over) none

  nothing_last : (es : List (Era Body Asked Reply)) (e : Era Body Asked Reply) → AllNothing (es ++ e ∷ []) → AllNothing es × NothingBefore e
  nothing_last [] e a = (tt, a.0)
  nothing_last (d ∷ es) e a = let more = nothing_last es e a.1 in ((a.0, more.0), more.1)

  module _ (gave : List ℕ) (cleared : A → A) (first : A) where
    past_replies : (es : List (Era Body Asked Reply)) (behind : Option ℕ) (b : A) → AreKept w is_followed spot cleared fs first es b → AllNothing es → (ns : List Noted) → AllNoted (eras_scripted gave es behind) ns → PastReplies w spot fs gave cleared first es behind b ns
    past_replies _ behind _ AreKept.none o ns h = subst (λ ms. PastReplies w spot fs gave cleared first [] behind first ms) (sym (none_noted ns h)) (PastReplies.none behind)
    past_replies _ behind _ (AreKept.unopened es b e k n) o ns h =
        let last = nothing_last es e o in
        let same : eras_scripted gave (es ++ e ∷ []) behind ≡ eras_scripted gave es e.opened =
        eras_more gave es e behind ∙ ap (λ ts. eras_scripted gave es e.opened ++ ts) (unopened_none (opened_anew gave e.opened behind) e (last.1 n)) ∙ append-nil (eras_scripted gave es e.opened) in
        PastReplies.unopened es behind b e ns n (last.1 n) (past_replies es e.opened b k last.0 ns (subst (λ ts. AllNoted ts ns) same h))
    past_replies _ behind _ (AreKept.opened es b e left until k kept) o ns h =
        let anew = opened_anew gave e.opened behind in
        let p = parts (eras_scripted gave es e.opened) (era_scripted anew e) ns (subst (λ ts. AllNoted ts ns) (eras_more gave es e behind) h) in
        subst (λ ms. PastReplies w spot fs gave cleared first (es ++ e ∷ []) behind (cleared left) ms) (sym p.whole)
        (PastReplies.opened es behind b e left until p.front p.behind (past_replies es e.opened b k (nothing_last es e o).0 p.front p.first) kept (kept_replies anew e b left until kept p.behind p.last))

  module _ (cleared : A → A) (first : A) where
    newest_replies : (e : Era Body Asked Reply) (from : A) (n : Node S) → IsNewest w is_followed spot cleared fs e from n → (ns : List Noted) → AllNoted (era_scripted None e) ns → NewestReplies w spot fs e from n ns
    newest_replies e from n (IsNewest.lives kept rests) ns h = NewestReplies.lives ns kept (kept_replies None e from _ _ kept ns h)
    newest_replies e from n (IsNewest.waits state none anew) ns h =
        subst (λ ms. NewestReplies w spot fs e from n ms) (sym (none_noted ns (subst (λ ts. AllNoted ts ns) (unopened_none None e none) h))) (NewestReplies.waits none)
    newest_replies e from n (IsNewest.left state to until kept anew) ns h = NewestReplies.left to until ns kept (kept_replies None e from to until kept ns h)

    pub life_replies : (l : Life Body Asked Reply) (n : Node S) → IsKeptLife w is_followed spot cleared fs first l n → Opened l → (ns : List Noted) → AllNoted (life_scripted l) ns → LifeReplies w spot fs cleared first l n ns
    life_replies l n k o ns h =
        let p = parts (eras_scripted l.gave l.past l.era.opened) (era_scripted None l.era) ns h in
        record {
          from = k.from;
          front = p.front;
          behind = p.behind;
          whole = p.whole;
          past = past_replies l.gave cleared first l.past l.era.opened k.from k.past o.past p.front p.first;
          newest = newest_replies l.era k.from n k.newest p.behind p.last;
        }

-- ALL SLAVES
pub all_reported : (plan : Scenario) (fs : List Exchanged) (place : ℕ) (ss : List SlaveSpec) (as' : List Leads) (ns : List (Node Serving)) (rows : List SlaveBook) → AllKeep plan fs place ss as' ns → AllOpened as' → AllBoth IsBooked as' rows → AllReported plan fs place ss as' ns rows
all_reported plan fs place [] [] [] [] k o h = tt
all_reported plan fs place [] [] [] (row ∷ rows) k o h = absurd h
all_reported plan fs place [] [] (n ∷ ns) rows k o h = absurd k
all_reported plan fs place [] (a ∷ as') ns rows k o h = absurd k
all_reported plan fs place (s ∷ ss) [] ns rows k o h = absurd k
all_reported plan fs place (s ∷ ss) (a ∷ as') [] rows k o h = absurd k
all_reported plan fs place (s ∷ ss) (a ∷ as') (n ∷ ns) [] k o h = absurd h
all_reported plan fs place (s ∷ ss) (a ∷ as') (n ∷ ns) (row ∷ rows) k o h = (
  life_replies (services_of plan s) (spot_of place s) (all_seen (lens_of plan.slaves) fs) real_clearing.cleared (first_app s) a.lived.life n k.0.carried_out o.0 (noted_in row.begun row.answers) h.0,
  all_reported plan fs (suc place) ss as' ns rows k.1 o.1 h.1,
)
