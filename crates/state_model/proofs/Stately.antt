-- The registers of a slave, the account of its services and the record of its statuses: together they are a run of state services.
use Rattle.std.proofs.Common.{◌≡◌, ℕ, ◌<◌, ◌≤◌, ◌&&◌, Bool, true, false, Option, Some, None, List, [], ◌∷◌, ◌++◌, map, length, refl, ap, sym, ◌∙◌, subst, arith, append-nil, length-append, if◌then◌else◌}
use Rattle.std.specs.Prelude.{⊤}
use Rattle.segment_model.specs.of_exchange_model.Exchange.{Exchange}
use Rattle.segment_model.specs.of_exchange_model.Rows.{answer_after}
use Rattle.segment_model.specs.of_link_model.Link.{Fate}
use Rattle.segment_model.specs.of_link_model.Mails.{LinkMail}
use Rattle.segment_model.specs.Slaves.{Registers, grams}
use Rattle.segment_model.specs.Record.{Frame, News, first_end, news_from, frame_news, back_news, all_told, joined}
use Rattle.segment_model.specs.Ends.{Task, Outcome, ends, state_ends}
use Rattle.segment_model.specs.Seats.{Side}
use Rattle.segment_model.proofs.Answers.{kept_of, news_from-push, news_from-none, outcome-push}
use Rattle.segment_model.proofs.News.{joined-append}
use Rattle.state_model.specs.States.{Table, Phase, Hand, Closed, States, Event, Turn, carry, phase_written, word_of, word_met, shown, reads, turned, returned}
use Rattle.state_model.specs.Promises.{IsTable, AllTold, state_behind, state_closed, answer_of, statuses}
use Rattle.state_model.proofs.Words.{Idle, InHand}
use Rattle.state_model.proofs.Kept.{Holds, HoldsAt, happens_holds, promised}
use Rattle.state_model.proofs.News.{by_statuses}
use Rattle.state_model.specs.Stated.{Service}
use Rattle.state_model.specs.Accounts.{Stage, Duty, Change, Account, Pick, new_account, starts, state_begins, account_begins, account_next, account_by, turn_progress, is_free, is_acknowledged}
use Rattle.state_model.proofs.Rings.{statuses-append}
use Rattle.state_model.proofs.Served.{Served, goes_on, duty_of}
use Rattle.state_model.specs.Promise.{AllFound, IsOpenYet}
use Rattle.state_model.proofs.TaskOrders.{InOrder, AllTabled, StatesReplied, StatesEnded, mails_start, state_start, order_push, order_later, order_on, order_over, states_replied, states_ended}
use Rattle.state_model.proofs.Carries.{StaysOr, idle_carry, hand_carry}

-- the AL state behind the state services that are over
abbrev pub state_over : {R : Type 0} → Table → ℕ → List (Change R) → ℕ
state_over table from [] = from
state_over table from (c ∷ cs) = state_over table (state_behind table from c.target) cs

-- the outcome of a state service by the record, with the frame that completed it
abbrev pub state_outcome : {M : Type 0} → (R : Type 0) → ℕ → List (Frame M) → ℕ → ℕ → Option (Outcome R × ℕ)
state_outcome R station fs target frame = first_end (state_ends {R = R} target None) frame [] (news_from station frame fs)

-- the statuses read for it
abbrev pub statuses_from : {M : Type 0} → ℕ → List (Frame M) → ℕ → List (News M)
statuses_from station fs frame = statuses (joined (news_from station frame fs))

-- the service in hand as the model of state services has it: one that drains has not begun there
abbrev pub stage_hand : {M : Type 0} → ℕ → List (News M) → Stage → Option (Hand M)
stage_hand target read Stage.Drains = None
stage_hand target read (Stage.Goes phase) = Some (record { target = target; phase = phase; read = read })

abbrev pub hand_of : {M : Type 0} → ℕ → List (Frame M) → Option Duty → Option (Hand M)
hand_of station fs None = None
hand_of station fs (Some duty) = stage_hand duty.target (statuses_from station fs duty.frame) duty.stage

-- while it drains no status was read for it
abbrev pub DrainsQuietly : {M : Type 0} → List (News M) → Stage → Type 0
DrainsQuietly read Stage.Drains = read ≡ []
DrainsQuietly read (Stage.Goes phase) = ⊤

-- the record has no outcome yet of the service in hand
pub record IsOpen {M : Type 0} (R : Type 0) (station : ℕ) (fs : List (Frame M)) (duty : Duty) : Type 0 where
  pub begun : duty.frame ≤ length fs
  pub drains : DrainsQuietly (statuses_from station fs duty.frame) duty.stage
  pub open_yet : state_outcome R station fs duty.target duty.frame ≡ None

abbrev pub HandOpen : {M : Type 0} → Type 0 → ℕ → List (Frame M) → Option Duty → Type 0
HandOpen R station fs None = ⊤
HandOpen R station fs (Some duty) = IsOpen R station fs duty

-- a service that is over has the outcome that the record gives, and is the model's closed one
pub record IsChanged {M R : Type 0} (station : ℕ) (fs : List (Frame M)) (c : Closed M R) (o : Change R) : Type 0 where
  pub target : o.target ≡ c.target
  pub same : o.answer ≡ c.answer
  pub begun : o.frame ≤ length fs
  pub outcome : state_outcome R station fs o.target o.frame ≡ Some (o.answer, o.completed)

abbrev pub AllChanged : {M R : Type 0} → ℕ → List (Frame M) → List (Closed M R) → List (Change R) → Type 0
AllChanged station fs [] [] = ⊤
AllChanged station fs (c ∷ cs) (o ∷ os) = IsChanged station fs c o × AllChanged station fs cs os
AllChanged station fs cs os = ⊥

-- THE INVARIANT of one slave
pub record Stately {M Q R : Type 0} (table : Table) (start : ℕ) (is : IsTable table start) (station : ℕ) (fs : List (Frame M)) (r : Registers) (a : Account Q R) : Type 0 where
  pub closed : List (Closed M R)
  pub holds : Holds table is.stays start closed (hand_of station fs a.hand) r
  pub hand : HandOpen R station fs a.hand
  pub over : AllChanged station fs closed a.over
  pub order : InOrder (length fs) a.started a.over a.hand

-- what a state service in hand, or none, leaves known of the registers, with the AL state behind those that are over
abbrev pub AtStage : Table → ℕ → ℕ → Stage → Registers → Type 0
AtStage table from target Stage.Drains r = Idle table from r
AtStage table from target (Stage.Goes phase) r = InHand table from target phase r

abbrev pub AtHand : Table → ℕ → Option Duty → Registers → Type 0
AtHand table from None r = Idle table from r
AtHand table from (Some duty) r = AtStage table from duty.target duty.stage r

-- what a step of the processor may do to the AL state
abbrev pub StageStep : Table → ℕ → ℕ → Stage → Registers → Type 0
StageStep table from target Stage.Drains r = (carry table r).state ≡ r.state
StageStep table from target (Stage.Goes phase) r = StaysOr table from target r

abbrev pub StateStep : Table → ℕ → Option Duty → Registers → Type 0
StateStep table from None r = (carry table r).state ≡ r.state
StateStep table from (Some duty) r = StageStep table from duty.target duty.stage r

pub state_over-push : {R : Type 0} (table : Table) (from : ℕ) (cs : List (Change R)) (c : Change R) → state_over table from (cs ++ c ∷ []) ≡ state_behind table (state_over table from cs) c.target
state_over-push table from [] c = refl
state_over-push table from (d ∷ cs) c = state_over-push table (state_behind table from d.target) cs c

told_last : {M R : Type 0} (table : Table) (from : ℕ) (cs : List (Closed M R)) (c : Closed M R) → AllTold table from (cs ++ c ∷ []) → state_ends c.target None c.read ≡ Some c.answer
told_last table from [] c told = told.1
told_last table from (d ∷ cs) c told = told_last table (state_behind table from d.target) cs c told.2

module _ {M : Type 0} (station : ℕ) where
  pub over_closed : {R : Type 0} (fs : List (Frame M)) (table : Table) (from : ℕ) (cs : List (Closed M R)) (os : List (Change R)) → AllChanged station fs cs os → state_closed table from cs ≡ state_over table from os
  over_closed fs table from [] [] all = refl
  over_closed fs table from [] (o ∷ os) all = absurd all
  over_closed fs table from (c ∷ cs) [] all = absurd all
  over_closed fs table from (c ∷ cs) (o ∷ os) all =
      ap (λ t. state_closed table (state_behind table from t) cs) (sym all.0.target) ∙ over_closed fs table (state_behind table from o.target) cs os all.1

  statuses_told : (ms : List M) → statuses (map (λ m. News.Told m) ms) ≡ []
  statuses_told [] = refl
  statuses_told (m ∷ ms) = statuses_told ms

  -- the statuses of a frame are those that came back
  pub statuses_frame : (fs : List (Frame M)) (f : Frame M) → statuses (frame_news station (kept_of station fs) f) ≡ statuses (back_news station (kept_of station fs).heard f.back)
  statuses_frame fs f =
      let told = all_told station (kept_of station fs).told (grams f.sent) in
      statuses-append (map (λ m. News.Told m) told) (back_news station (kept_of station fs).heard f.back)
      ∙ ap (λ l. l ++ statuses (back_news station (kept_of station fs).heard f.back)) (statuses_told told)

  statuses_push : (fs : List (Frame M)) (f : Frame M) (frame : ℕ) → frame ≤ length fs → statuses_from station (fs ++ f ∷ []) frame ≡ statuses_from station fs frame ++ statuses (frame_news station (kept_of station fs) f)
  statuses_push fs f frame le =
      ap (λ l. statuses (joined l)) (news_from-push station frame fs f le)
      ∙ ap statuses (joined-append (news_from station frame fs) (frame_news station (kept_of station fs) f))
      ∙ statuses-append (joined (news_from station frame fs)) (frame_news station (kept_of station fs) f)

  -- a state service in hand behind one more frame, by the statuses that it then has
  outcome_push : (R : Type 0) (fs : List (Frame M)) (f : Frame M) (target frame : ℕ) → frame ≤ length fs → state_outcome R station fs target frame ≡ None →
      state_outcome R station (fs ++ f ∷ []) target frame ≡ answer_after (length fs) None (state_ends {R = R} target None (statuses_from station (fs ++ f ∷ []) frame))
  outcome_push R fs f target frame le none =
      let news = joined (news_from station frame fs) ++ frame_news station (kept_of station fs) f in
      outcome-push (state_ends {R = R} target None) station frame fs f le
      ∙ ap (λ o. answer_after (length fs) o (state_ends {R = R} target None news)) none
      ∙ ap (answer_after (length fs) None) (by_statuses R target None news
      ∙ ap (state_ends {R = R} target None) (statuses-append (joined (news_from station frame fs)) (frame_news station (kept_of station fs) f) ∙ sym (statuses_push fs f frame le)))

  longer : (fs : List (Frame M)) (f : Frame M) (n : ℕ) → n ≤ length fs → n ≤ length (fs ++ f ∷ [])
  longer fs f n le = subst (λ k. n ≤ k) (sym (length-append fs (f ∷ []))) (omega (arith, le))

  later_end : (fs : List (Frame M)) (f : Frame M) (n : ℕ) → n ≤ length fs → n < length (fs ++ f ∷ [])
  later_end fs f n le = subst (λ k. n < k) (sym (length-append fs (f ∷ []))) (omega (arith, le))

  -- what is over stays so
  changed_stays : {R : Type 0} (fs : List (Frame M)) (f : Frame M) (c : Closed M R) (o : Change R) → IsChanged station fs c o → IsChanged station (fs ++ f ∷ []) c o
  changed_stays {R} fs f c o is = record {
    target = is.target;
    same = is.same;
    begun = longer fs f o.frame is.begun;
    outcome =
        outcome-push (state_ends {R = R} o.target None) station o.frame fs f is.begun
        ∙ ap (λ old. answer_after (length fs) old (state_ends {R = R} o.target None (joined (news_from station o.frame fs) ++ frame_news station (kept_of station fs) f))) is.outcome;
  }

  all_stay : {R : Type 0} (fs : List (Frame M)) (f : Frame M) (cs : List (Closed M R)) (os : List (Change R)) → AllChanged station fs cs os → AllChanged station (fs ++ f ∷ []) cs os
  all_stay fs f [] [] all = tt
  all_stay fs f [] (o ∷ os) all = all
  all_stay fs f (c ∷ cs) [] all = all
  all_stay fs f (c ∷ cs) (o ∷ os) all = (changed_stays fs f c o all.0, all_stay fs f cs os all.1)

  all_push : {R : Type 0} (fs : List (Frame M)) (cs : List (Closed M R)) (c : Closed M R) (os : List (Change R)) (o : Change R) → AllChanged station fs cs os → IsChanged station fs c o → AllChanged station fs (cs ++ c ∷ []) (os ++ o ∷ [])
  all_push fs [] c [] o all one = (one, tt)
  all_push fs [] c (p ∷ os) o all one = absurd all
  all_push fs (d ∷ cs) c [] o all one = absurd all
  all_push fs (d ∷ cs) c (p ∷ os) o all one = (all.0, all_push fs cs c os o all.1 one)

module _ {M R : Type 0} (table : Table) (start : ℕ) (is : IsTable table start) (station : ℕ) where
  -- the model's state of it
  abbrev states_at : Registers → Option (Hand M) → List (Closed M R) → States M R
  states_at r hand closed = record { registers = r; hand = hand; closed = closed }

  -- the statuses read so far don't complete the service in hand
  open_now : (r : Registers) (closed : List (Closed M R)) (target : ℕ) (read : List (News M)) (stage : Stage) → Holds table is.stays start closed (stage_hand target read stage) r → DrainsQuietly read stage →
      state_ends {R = R} target None read ≡ None
  open_now r closed target read Stage.Drains holds none = ap (state_ends {R = R} target None) none
  open_now r closed target read (Stage.Goes phase) holds none =
      (promised table is.stays start (states_at r (Some (record { target = target; phase = phase; read = read })) closed) holds).pending

  still_open : (fs : List (Frame M)) (f : Frame M) (r : Registers) (closed : List (Closed M R)) (target begun : ℕ) (stage : Stage) → begun ≤ length fs → state_outcome R station fs target begun ≡ None →
      Holds table is.stays start closed (stage_hand target (statuses_from station (fs ++ f ∷ []) begun) stage) r → DrainsQuietly (statuses_from station (fs ++ f ∷ []) begun) stage →
      IsOpen R station (fs ++ f ∷ []) (duty_of target begun stage)
  still_open fs f r closed target begun stage le none holds drains = record {
    begun = longer station fs f begun le;
    drains = drains;
    open_yet = outcome_push station R fs f target begun le none ∙ ap (answer_after (length fs) None) (open_now r closed target (statuses_from station (fs ++ f ∷ []) begun) stage holds drains);
  }

module _ {M Q R : Type 0} (table : Table) (start : ℕ) (is : IsTable table start) (station : ℕ) where
  -- A CHOICE
  pub next_stately : {V A : Type 0} (x : Exchange V A M Q R) (acknowledged : Q → Bool) (fs : List (Frame M)) (d : Side M Q R) (r : Registers) (a : Account Q R) (p : Pick Q) → Stately table start is station fs r a →
      Stately table start is station fs r (account_next x.speech acknowledged (length fs) d a p)
  next_stately x acknowledged fs d r a p k = go a.hand p.begin refl
    where
      mails : (q : Q) (b : Bool) → a.hand ≡ None → Stately table start is station fs r (if b then record a { started = starts a (Service.Mails q) (length fs) } else a)
      mails q false e = k
      mails q true e = record {
        closed = k.closed;
        holds = k.holds;
        hand = k.hand;
        over = k.over;
        order = order_push (length fs) a.started a.over a.hand a.hand (mails_start q (length fs)) e refl (subst (λ h. InOrder {R = R} (length fs) (mails_start q (length fs) ∷ []) [] h) (sym e) (InOrder.by_mails q (length fs) [] InOrder.nothing)) k.order;
      }

      state : (target : ℕ) (b : Bool) → a.hand ≡ None → Stately table start is station fs r (if b then state_begins a target (length fs) else a)
      state target false e = k
      state target true e = record {
        closed = k.closed;
        holds = subst (λ h. Holds table is.stays start k.closed (hand_of station fs h) r) e k.holds;
        hand = record {
          begun = omega arith;
          drains = ap (λ l. statuses (joined l)) (news_from-none station fs);
          open_yet = ap (first_end (state_ends {R = R} target None) (length fs) []) (news_from-none station fs);
        };
        over = k.over;
        order = order_push (length fs) a.started a.over a.hand (Some (duty_of target (length fs) Stage.Drains)) (state_start target (length fs)) e refl (InOrder.in_hand (duty_of target (length fs) Stage.Drains)) k.order;
      }

      go : (hand : Option Duty) (wish : Option (Service Q)) → a.hand ≡ hand → Stately table start is station fs r (account_begins x.speech acknowledged (length fs) d a hand wish)
      go hand None e = k
      go (Some duty) (Some wish) e = k
      go None (Some (Service.Mails q)) e = mails q (x.speech.valid q && is_free x.speech d d.now) e
      go None (Some (Service.State target)) e = state target (is_free x.speech d d.now && is_acknowledged x.speech acknowledged d d.now) e

  -- a frame that does nothing here
  quiet_stately : (fs : List (Frame M)) (f : Frame M) (r : Registers) (a : Account Q R) → statuses (frame_news station (kept_of station fs) f) ≡ [] → Stately table start is station fs r a → Stately table start is station (fs ++ f ∷ []) r a
  quiet_stately fs f r a none k =
      let both = go a.hand k.hand k.holds in
      record { closed = k.closed; holds = both.0; hand = both.1; over = all_stay station fs f k.closed a.over k.over; order = order_later (length fs) (length (fs ++ f ∷ [])) a.started a.over a.hand (longer station fs f (length fs) (omega arith)) k.order }
    where
      same : (begun : ℕ) → begun ≤ length fs → statuses_from station (fs ++ f ∷ []) begun ≡ statuses_from station fs begun
      same begun le = statuses_push station fs f begun le ∙ ap (λ l. statuses_from station fs begun ++ l) none ∙ append-nil (statuses_from station fs begun)

      go : (hand : Option Duty) → HandOpen R station fs hand → Holds table is.stays start k.closed (hand_of station fs hand) r →
          Holds table is.stays start k.closed (hand_of station (fs ++ f ∷ []) hand) r × HandOpen R station (fs ++ f ∷ []) hand
      go None o holds = (holds, tt)
      go (Some duty) o holds =
          let e = same duty.frame o.begun in
          let next = subst (λ l. Holds table is.stays start k.closed (stage_hand duty.target l duty.stage) r) (sym e) holds in
          (next, still_open table start is station fs f r k.closed duty.target duty.frame duty.stage o.begun o.open_yet next (subst (λ l. DrainsQuietly l duty.stage) (sym e) o.drains))

  -- a frame by which the service in hand goes on, with the statuses that it then has
  on_stately : (fs : List (Frame M)) (f : Frame M) (r n : Registers) (a : Account Q R) (target begun : ℕ) (old stage : Stage) (read : List (News M)) (k : Stately table start is station fs r (goes_on a target begun old)) →
      statuses_from station (fs ++ f ∷ []) begun ≡ read → Holds table is.stays start k.closed (stage_hand target read stage) n → DrainsQuietly read stage →
      Stately table start is station (fs ++ f ∷ []) n (goes_on a target begun stage)
  on_stately fs f r n a target begun old stage read k e holds drains =
      let next = subst (λ l. Holds table is.stays start k.closed (stage_hand target l stage) n) (sym e) holds in
      record {
        closed = k.closed;
        holds = next;
        hand = still_open table start is station fs f n k.closed target begun stage k.hand.begun k.hand.open_yet next (subst (λ l. DrainsQuietly l stage) (sym e) drains);
        over = all_stay station fs f k.closed a.over k.over;
        order = order_later (length fs) (length (fs ++ f ∷ [])) a.started a.over (Some (duty_of target begun stage)) (longer station fs f (length fs) (omega arith))
            (order_on (length fs) a.started a.over (Some (duty_of target begun old)) target begun old stage refl k.order);
      }

  -- a frame by which it ends
  ends_stately : (fs : List (Frame M)) (f : Frame M) (r : Registers) (a : Account Q R) (target begun : ℕ) (old : Stage) (read : List (News M)) (answer : Outcome R) (k : Stately table start is station fs r (goes_on a target begun old)) →
      statuses_from station (fs ++ f ∷ []) begun ≡ read → Holds table is.stays start (k.closed ++ record { target = target; answer = answer; read = read } ∷ []) None r →
      Stately table start is station (fs ++ f ∷ []) r (record a { hand = None; over = a.over ++ record { target = target; frame = begun; answer = answer; completed = length fs } ∷ [] })
  ends_stately fs f r a target begun old read answer k e holds =
      let c : Closed M R = record { target = target; answer = answer; read = read } in
      let o : Change R = record { target = target; frame = begun; answer = answer; completed = length fs } in
      record {
        closed = k.closed ++ c ∷ [];
        holds = holds;
        hand = tt;
        over = all_push station (fs ++ f ∷ []) k.closed c a.over o (all_stay station fs f k.closed a.over k.over) (record {
          target = refl;
          same = refl;
          begun = longer station fs f begun k.hand.begun;
          outcome =
              outcome_push station R fs f target begun k.hand.begun k.hand.open_yet
              ∙ ap (λ l. answer_after (length fs) None (state_ends {R = R} target None l)) e
              ∙ ap (answer_after (length fs) None) (told_last table start k.closed c holds.told);
        });
        order = order_over (length (fs ++ f ∷ [])) a.started a.over (Some (duty_of target begun old)) target begun old answer (length fs) (later_end station fs f (length fs) (omega arith)) refl
            (order_later (length fs) (length (fs ++ f ∷ [])) a.started a.over (Some (duty_of target begun old)) (longer station fs f (length fs) (omega arith)) k.order);
      }

  -- one more status
  looked_stately : (fs : List (Frame M)) (f : Frame M) (r : Registers) (a : Account Q R) (target begun : ℕ) (phase : Phase) → reads phase ≡ true →
      statuses (frame_news station (kept_of station fs) f) ≡ News.Status r.state r.refused ∷ [] → Stately table start is station fs r (goes_on a target begun (Stage.Goes phase)) →
      Stately table start is station (fs ++ f ∷ []) r (account_by (length fs) a (duty_of target begun (Stage.Goes phase)) (turn_progress (shown target phase r.state r.refused)))
  looked_stately fs f r a target begun phase does news k = go (shown target phase r.state r.refused) (subst (λ b. HoldsAt table is.stays start (returned w hand b)) does (happens_holds table is.stays start w (Event.Read Fate.Pass) k.holds))
    where
      hand : Hand M
      hand = record { target = target; phase = phase; read = statuses_from station fs begun }

      w : States M R
      w = states_at table start is station r (Some hand) k.closed

      read : List (News M)
      read = statuses_from station fs begun ++ News.Status r.state r.refused ∷ []

      e : statuses_from station (fs ++ f ∷ []) begun ≡ read
      e = statuses_push station fs f begun k.hand.begun ∙ ap (λ l. statuses_from station fs begun ++ l) news

      go : (turn : Turn R) → HoldsAt table is.stays start (turned w target read turn) → Stately table start is station (fs ++ f ∷ []) r (account_by (length fs) a (duty_of target begun (Stage.Goes phase)) (turn_progress turn))
      go (Turn.Goes next) holds = on_stately fs f r r a target begun (Stage.Goes phase) (Stage.Goes next) read k e holds tt
      go (Turn.Ends answer) holds = ends_stately fs f r a target begun (Stage.Goes phase) read answer k e holds

  moved : {fs : List (Frame M)} (r n : Registers) (a b : Account Q R) → n ≡ r → b ≡ a → Stately table start is station fs r a → Stately table start is station fs n b
  moved {fs = fs} r n a b e f k = subst (λ m. Stately table start is station fs m b) (sym e) (subst (λ c. Stately table start is station fs r c) (sym f) k)

  -- A FRAME THAT CAME BACK
  pub back_stately : (fs : List (Frame M)) (f : Frame M) (r n : Registers) (box : Option (LinkMail M)) (a b : Account Q R) (ss : List (News M)) → statuses (frame_news station (kept_of station fs) f) ≡ ss →
      Served r n box (length fs) a b ss → Stately table start is station fs r a → Stately table start is station (fs ++ f ∷ []) n b
  back_stately fs f r n box a b ss e (Served.stays i j z) k = moved r n a b i j (quiet_stately fs f r a (e ∙ z) k)
  back_stately fs f r n box a b ss e (Served.drained target begun was empty i j z) k =
      let old = subst (λ c. Stately table start is station fs r c) was k in
      moved r n (goes_on a target begun (Stage.Goes Phase.Ask)) b i j
      (on_stately fs f r r a target begun Stage.Drains (Stage.Goes Phase.Ask) [] old
      (statuses_push station fs f begun old.hand.begun ∙ ap (λ l. statuses_from station fs begun ++ l) (e ∙ z) ∙ append-nil (statuses_from station fs begun) ∙ old.hand.drains)
      (happens_holds table is.stays start (states_at table start is station r None old.closed) (Event.Begin target) old.holds) tt)
  back_stately fs f r n box a b ss e (Served.wrote target begun phase was doesnt i j z) k =
      let old = subst (λ c. Stately table start is station fs r c) was k in
      let hand : Hand M = record { target = target; phase = phase; read = statuses_from station fs begun } in
      moved (word_met r (word_of target phase)) n (goes_on a target begun (Stage.Goes (phase_written phase))) b i j
      (on_stately fs f r (word_met r (word_of target phase)) a target begun (Stage.Goes phase) (Stage.Goes (phase_written phase)) (statuses_from station fs begun) old
      (statuses_push station fs f begun old.hand.begun ∙ ap (λ l. statuses_from station fs begun ++ l) (e ∙ z) ∙ append-nil (statuses_from station fs begun))
      (happens_holds table is.stays start (states_at table start is station r (Some hand) old.closed) (Event.Write Fate.Pass) old.holds) tt)
  back_stately fs f r n box a b ss e (Served.looked target begun phase was does i j z) k =
      moved r n (account_by (length fs) a (duty_of target begun (Stage.Goes phase)) (turn_progress (shown target phase r.state r.refused))) b i j
      (looked_stately fs f r a target begun phase does (e ∙ z) (subst (λ c. Stately table start is station fs r c) was k))

  -- A LOST FRAME that the slave met
  pub lost_stately : (fs : List (Frame M)) (f : Frame M) (r n : Registers) (box : Option (LinkMail M)) (a b : Account Q R) (ss : List (News M)) → statuses (frame_news station (kept_of station fs) f) ≡ [] →
      Served r n box (length fs) a b ss → Stately table start is station fs r a → Stately table start is station (fs ++ f ∷ []) n a
  lost_stately fs f r n box a b ss e (Served.stays i j z) k = moved r n a a i refl (quiet_stately fs f r a e k)
  lost_stately fs f r n box a b ss e (Served.drained target begun was empty i j z) k = moved r n a a i refl (quiet_stately fs f r a e k)
  lost_stately fs f r n box a b ss e (Served.looked target begun phase was does i j z) k = moved r n a a i refl (quiet_stately fs f r a e k)
  lost_stately fs f r n box a b ss e (Served.wrote target begun phase was doesnt i j z) k =
      let old = subst (λ c. Stately table start is station fs r c) was k in
      let hand : Hand M = record { target = target; phase = phase; read = statuses_from station fs begun } in
      moved (word_met r (word_of target phase)) n (goes_on a target begun (Stage.Goes phase)) a i was
      (on_stately fs f r (word_met r (word_of target phase)) a target begun (Stage.Goes phase) (Stage.Goes phase) (statuses_from station fs begun) old
      (statuses_push station fs f begun old.hand.begun ∙ ap (λ l. statuses_from station fs begun ++ l) e ∙ append-nil (statuses_from station fs begun))
      (happens_holds table is.stays start (states_at table start is station r (Some hand) old.closed) (Event.Write Fate.LostBehind) old.holds) tt)

  -- or didn't meet
  pub missed_stately : (fs : List (Frame M)) (f : Frame M) (r : Registers) (a : Account Q R) → statuses (frame_news station (kept_of station fs) f) ≡ [] → Stately table start is station fs r a → Stately table start is station (fs ++ f ∷ []) r a
  missed_stately fs f r a e k = quiet_stately fs f r a e k

  -- A STEP OF THE PROCESSOR
  pub step_stately : (fs : List (Frame M)) (r : Registers) (a : Account Q R) → Stately table start is station fs r a → Stately table start is station fs (carry table r) a
  step_stately fs r a k = record {
    closed = k.closed;
    holds = happens_holds table is.stays start (states_at table start is station r (hand_of station fs a.hand) k.closed) Event.Step k.holds;
    hand = k.hand;
    over = k.over;
    order = k.order;
  }

  -- AT THE END OF BRING-UP
  pub new_stately : (fs : List (Frame M)) (r : Registers) → r.state ≡ start → ((word : ℕ × Bool) → r.control ≡ Some word → word.0 ≡ start) → r.refused ≡ None → Stately {M = M} {Q = Q} {R = R} table start is station fs r new_account
  new_stately fs r state control refused = record {
    closed = [];
    holds = record {
      told = tt;
      sits = is.sits;
      kept = record { state = state; refused = refused; word = control };
      reads = tt;
    };
    hand = tt;
    over = tt;
    order = InOrder.nothing;
  }

  -- WHAT IS KNOWN OF THE REGISTERS, with the AL state behind the state services that are over: with none in hand, or while it drains, the state is
  -- that one, and no error flag stands
  pub at_hand : (fs : List (Frame M)) (r : Registers) (a : Account Q R) → Stately table start is station fs r a → AtHand table (state_over table start a.over) a.hand r
  at_hand fs r a k = subst (λ from. AtHand table from a.hand r) (over_closed station fs table start k.closed a.over k.over) (go a.hand k.holds)
    where
      go : (hand : Option Duty) → Holds table is.stays start k.closed (hand_of station fs hand) r → AtHand table (state_closed table start k.closed) hand r
      go None holds = holds.kept
      go (Some duty) holds = stage duty.stage holds
        where
          stage : (stage : Stage) → Holds table is.stays start k.closed (stage_hand duty.target (statuses_from station fs duty.frame) stage) r → AtStage table (state_closed table start k.closed) duty.target stage r
          stage Stage.Drains holds = holds.kept
          stage (Stage.Goes phase) holds = holds.kept

  pub free_state : (fs : List (Frame M)) (r : Registers) (a : Account Q R) → Stately table start is station fs r a → a.hand ≡ None → (r.state ≡ state_over table start a.over) × (r.refused ≡ None)
  free_state fs r a k e = let idle = subst (λ h. AtHand table (state_over table start a.over) h r) e (at_hand fs r a k) in (idle.state, idle.refused)

  -- of each state service that is over the answer is the table's
  pub over_answers : (fs : List (Frame M)) (r : Registers) (a : Account Q R) → Stately table start is station fs r a → AllTabled table start a.over
  over_answers fs r a k = go start k.closed a.over k.holds.told k.over
    where
      go : (from : ℕ) (cs : List (Closed M R)) (os : List (Change R)) → AllTold table from cs → AllChanged station fs cs os → AllTabled table from os
      go from [] [] told all = tt
      go from [] (o ∷ os) told all = absurd all
      go from (c ∷ cs) [] told all = absurd all
      go from (c ∷ cs) (o ∷ os) told all = (
        all.0.same ∙ told.0 ∙ ap (λ t. answer_of (table from t)) (sym all.0.target),
        go (state_behind table from o.target) cs os (subst (λ t. AllTold table (state_behind table from t) cs) (sym all.0.target) told.2) all.1,
      )

  -- and the outcome by the record is that answer, of an earlier frame
  pub over_outcomes : {V A : Type 0} (x : Exchange V A M Q R) (more : M → Bool) (fs : List (Frame M)) (r : Registers) (a : Account Q R) → Stately table start is station fs r a → AllFound x.speech more station fs a.over
  over_outcomes x more fs r a k = go k.closed a.over k.over
    where
      go : (cs : List (Closed M R)) (os : List (Change R)) → AllChanged station fs cs os → AllFound x.speech more station fs os
      go [] [] all = tt
      go [] (o ∷ os) all = absurd all
      go (c ∷ cs) [] all = absurd all
      go (c ∷ cs) (o ∷ os) all = (all.0.outcome, go cs os all.1)

  -- that of the one in hand is open
  pub duty_outcome : {V A : Type 0} (x : Exchange V A M Q R) (more : M → Bool) (fs : List (Frame M)) (r : Registers) (a : Account Q R) (duty : Duty) → Stately table start is station fs r a → a.hand ≡ Some duty →
      (first_end (ends x.speech more (Task.State duty.target)) duty.frame [] (news_from station duty.frame fs) ≡ None) × (duty.frame ≤ length fs)
  duty_outcome x more fs r a duty k e = let o : IsOpen R station fs duty = subst (HandOpen R station fs) e k.hand in (o.open_yet, o.begun)

  -- a step of the processor leaves the state, or a state service in hand goes through its phases and the state becomes the one behind it
  pub step_state : (fs : List (Frame M)) (r : Registers) (a : Account Q R) → Stately table start is station fs r a → StateStep table (state_over table start a.over) a.hand r
  step_state fs r a k = go a.hand (at_hand fs r a k)
    where
      go : (hand : Option Duty) → AtHand table (state_over table start a.over) hand r → StateStep table (state_over table start a.over) hand r
      go None k = idle_carry table (state_over table start a.over) r k
      go (Some duty) k = stage duty.stage k
        where
          stage : (stage : Stage) → AtStage table (state_over table start a.over) duty.target stage r → StageStep table (state_over table start a.over) duty.target stage r
          stage Stage.Drains k = idle_carry table (state_over table start a.over) r k
          stage (Stage.Goes phase) k = hand_carry table (state_over table start a.over) duty.target phase r k

  -- OF THE STATE SERVICES AMONG ALL THAT CAME INTO HAND, by the record: each outcome is the table's, in the state behind those before it, and there
  -- is one of each where none is in hand
  pub duty_open : {V A : Type 0} (x : Exchange V A M Q R) (more : M → Bool) (fs : List (Frame M)) (r : Registers) (a : Account Q R) → Stately table start is station fs r a → IsOpenYet x.speech more station fs a.hand
  duty_open x more fs r a k = go a.hand k.hand
    where
      go : (hand : Option Duty) → HandOpen R station fs hand → IsOpenYet x.speech more station fs hand
      go None o = tt
      go (Some duty) o = o.open_yet

  pub started_replied : {V A : Type 0} (x : Exchange V A M Q R) (more : M → Bool) (fs : List (Frame M)) (r : Registers) (a : Account Q R) → Stately table start is station fs r a → StatesReplied x more station fs table start a.started
  started_replied x more fs r a k =
      states_replied x more station fs table (length fs) start a.started a.over a.hand k.order (over_outcomes x more fs r a k) (over_answers fs r a k) (duty_open x more fs r a k)

  pub started_ended : {V A : Type 0} (x : Exchange V A M Q R) (more : M → Bool) (fs : List (Frame M)) (r : Registers) (a : Account Q R) → Stately table start is station fs r a → a.hand ≡ None → StatesEnded x more station fs a.started
  started_ended x more fs r a k e = states_ended x more station fs (length fs) a.started a.over a.hand e k.order (over_outcomes x more fs r a k)
