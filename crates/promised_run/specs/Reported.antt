-- EACH SERVICE OF A SCRIPT IS REPORTED with just what the frames give for it, and each reply is that of its application.
use Rattle.std.specs.Prelude.{◌≡◌, ℕ, suc, not, Bool, true, false, Option, Some, None, List, [], ◌∷◌, ◌++◌, length, ⊤}
use Rattle.run_promises.specs.of_exchange_model.Exchange.{Exchange, Speech}
use Rattle.seen_slaves.specs.of_plan_ring.Epochs.{IsKept, app_of}
use Rattle.run_promises.specs.of_life_model.Eras.{era_frames}
use Rattle.run_promises.specs.of_life_model.Lives.{Spot, Era, Life, returns_to_init}
use Rattle.run_promises.specs.of_life_runs.First.{lens_of, spot_of}
use Rattle.run_promises.specs.of_life_runs.Led.{Exchanged, Leads}
use Rattle.run_promises.specs.of_link_mails.Body.{Body}
use Rattle.seen_slaves.specs.of_master_duty.Reply.{Reply}
use Rattle.seen_slaves.specs.of_master_hand.Spoken.{Asked, is_followed}
use Rattle.run_promises.specs.Plan.{first_app}
use Rattle.gateway_run.specs.of_run_book.declared.book.SlaveBook.{SlaveBook}
use Rattle.run_promises.specs.Round.{all_seen}
use Rattle.run_promises.specs.Slaves.{services_of}
use Rattle.gateway_run.specs.of_run_notes.Reports.{noted_in}
use Rattle.seen_slaves.specs.of_run_frames.ScriptAnswers.{Noted, reply_by, outcome_reply, change_outcome, opened_anew}
use Rattle.seen_slaves.specs.of_run_frames.Came.{is_beside}
use Rattle.run_promises.specs.of_segment_model.Ends.{Outcome}
use Rattle.run_promises.specs.of_segment_model.Record.{Frame}
use Rattle.run_promises.specs.of_segment_plan.declared.plan.Scenario.{Scenario}
use Rattle.run_promises.specs.of_segment_plan.declared.slave.SlaveSpec.{SlaveSpec}
use Rattle.seen_slaves.specs.of_plan_ring.Real.{real_clearing}
use Rattle.seen_slaves.specs.of_slave_lives.Lived.{Behind, table_of}
use Rattle.run_promises.specs.of_slave_server.Serving.{Serving}
use Rattle.run_promises.specs.of_slave_node.Node.{Node}
use Rattle.run_promises.specs.of_state_model.Stated.{Stated, Service, with_states}
use Rattle.run_promises.specs.of_state_model.States.{Table}
use Rattle.run_promises.specs.of_state_model.Accounts.{Started}
use Rattle.run_promises.specs.of_state_model.Promise.{outcome_of}

-- a service has a reply of its own, by mails or as a change of state: no packet, no mail that is passed on
abbrev pub has_reply : {M R : Type 0} → Speech M Asked R → Service Asked → Bool
has_reply x (Service.Mails q) = not (x.handed q)
has_reply x (Service.State target) = true

-- it stays in its epoch: it is no change of state that returns its slave to Init
abbrev pub stays : Service Asked → Bool
stays (Service.Mails q) = true
stays (Service.State target) = not (returns_to_init target)

-- WHAT A SERVICE HAS COME TO, by what the frames of its epoch give for it: that; but a change of state that returns its slave to Init is reached with the frame
-- that opened the slave anew, where one did and the slave wasn't given up in between
abbrev pub came_to : Option ℕ → Service Asked → Option (Outcome Reply × ℕ) → Option (Outcome Reply × ℕ)
came_to anew (Service.Mails q) outcome = outcome
came_to anew (Service.State target) outcome = change_outcome (returns_to_init target) anew outcome

-- a reply of a service by mails, or the outcome of a change of state, is that of the application
abbrev pub IsReplyBy : Service Asked → Reply → Outcome Reply → Type 0
IsReplyBy (Service.Mails q) r outcome = Outcome.Replied r ≡ outcome
IsReplyBy (Service.State target) r outcome = r ≡ reply_by outcome

-- of a noted service and of those behind it; packets and mails that are passed on aren't of the script
abbrev pub NotedBy : Bool → List Noted → (Noted → Type 0) → (List Noted → Type 0) → Type 0
NotedBy true ns one more = more ns
NotedBy false [] one more = ⊥
NotedBy false (n ∷ ns) one more = one n × more ns

module _ (x : Speech Body Asked Reply) (station : ℕ) (gs : List (Frame Body)) where
  -- WHAT IS NOTED OF A SERVICE, with the frame before which it came into hand, and the frame that opened its slave anew behind its epoch: just the reply that
  -- these frames give from there on, of the frame that completed it, and none where they give none. A change of state that returns its slave to Init is done
  -- with the frame that opened the slave anew
  pub record IsNotedBy (anew : Option ℕ) (q : Service Asked) (frame : ℕ) (n : Noted) : Type 0 where
    pub at : n.frame ≡ frame
    pub given : has_reply x q ≡ true → n.reply ≡ outcome_reply (came_to anew q (outcome_of x is_followed station gs (record { service = q; frame = frame })))

  -- OF THE SERVICES OF AN EPOCH, one after the other
  abbrev pub AreNoted : Option ℕ → List (Started Asked) → List Noted → Type 0
  AreNoted anew [] ns = ns ≡ []
  AreNoted anew (r ∷ rs) ns = NotedBy (is_beside r.service) ns (IsNotedBy anew r.service r.frame) (λ more. AreNoted anew rs more)

module _ {V A : Type 0} (x : Exchange V A Body Asked Reply) (s : Stated V A Asked) (table : Table) (station : ℕ) (gs : List (Frame Body)) where
  -- WHAT IS REPORTED OF A SERVICE: just the reply that these frames give; and each reply is that of the application, with its AL state, behind the services before it
  pub record IsReportedBy (anew : Option ℕ) (a : A × ℕ) (q : Service Asked) (frame : ℕ) (n : Noted) : Type 0 where
    pub noted : IsNotedBy x.speech station gs anew q frame n
    pub own : has_reply x.speech q ≡ true → stays q ≡ true → (r : Reply) (g : ℕ) → n.reply ≡ Some (r, g) → IsReplyBy q r ((with_states x s table).reply a q)

  -- of a service and of those behind it
  abbrev pub RepliesBy : Option ℕ → Bool → ℕ → A × ℕ → Service Asked → List Noted → (List Noted → Type 0) → Type 0
  RepliesBy anew beside frame a q ns more = NotedBy beside ns (IsReportedBy anew a q frame) more

  -- OF THE SERVICES OF AN EPOCH, one after the other, from an application on
  abbrev pub AreReplies : Option ℕ → A × ℕ → List (Started Asked) → List Noted → Type 0
  AreReplies anew a [] ns = ns ≡ []
  AreReplies anew a (r ∷ rs) ns = RepliesBy anew (is_beside r.service) r.frame a r.service ns (λ more. AreReplies anew ((with_states x s table).exec a r.service) rs more)

module _ {S V A : Type 0} (w : Behind S V A Asked Reply) (spot : Spot) (fs : List (Frame Body)) where
  -- of an epoch as it is kept
  abbrev pub EraReplies : Option ℕ → {e : Era Body Asked Reply} {from to : A} {until : ℕ} → IsKept w is_followed spot fs e from to until → List Noted → Type 0
  EraReplies anew {e} {from} {to} {until} k ns = AreReplies w.exchange w.states (table_of w spot.station) spot.station (era_frames spot k.opened until fs) anew (w.states.told k.state from, 0) e.account.started ns

  -- OF ALL EPOCHS THAT ARE OVER, each from what the one before left, cleared, and with the frame that opened the one behind it; of one that was not opened nothing
  -- came into hand. The slave was given up at these frames
  pub data PastReplies (gave : List ℕ) (cleared : A → A) (first : A) : List (Era Body Asked Reply) → Option ℕ → A → List Noted → Type 0 where
    none : (behind : Option ℕ) → PastReplies gave cleared first [] behind first []
    unopened : (es : List (Era Body Asked Reply)) (behind : Option ℕ) (b : A) (e : Era Body Asked Reply) (ns : List Noted) → e.opened ≡ None → e.account.started ≡ [] → PastReplies gave cleared first es e.opened b ns →
        PastReplies gave cleared first (es ++ e ∷ []) behind (cleared b) ns
    opened : (es : List (Era Body Asked Reply)) (behind : Option ℕ) (b : A) (e : Era Body Asked Reply) (left : A) (until : ℕ) (ns ms : List Noted) → PastReplies gave cleared first es e.opened b ns → (k : IsKept w is_followed spot fs e b left until) →
        EraReplies (opened_anew gave e.opened behind) k ms → PastReplies gave cleared first (es ++ e ∷ []) behind (cleared left) (ns ++ ms)

  -- of the newest: it is open, or nothing began in it, or it is over; nothing is opened behind it yet
  pub data NewestReplies (e : Era Body Asked Reply) (from : A) (n : Node S) : List Noted → Type 0 where
    lives : (ns : List Noted) (k : IsKept w is_followed spot fs e from (app_of w is_followed spot n) (length fs)) → EraReplies None k ns → NewestReplies e from n ns
    waits : e.account.started ≡ [] → NewestReplies e from n []
    left : (to : A) (until : ℕ) (ns : List Noted) (k : IsKept w is_followed spot fs e from to until) → EraReplies None k ns → NewestReplies e from n ns

  -- OF A WHOLE LIFE
  pub record LifeReplies (cleared : A → A) (first : A) (l : Life Body Asked Reply) (n : Node S) (ns : List Noted) : Type 0 where
    pub from : A
    pub front : List Noted
    pub behind : List Noted
    pub whole : ns ≡ front ++ behind
    pub past : PastReplies l.gave cleared first l.past l.era.opened from front
    pub newest : NewestReplies l.era from n behind

-- OF ONE SLAVE of a plan at its place: each service of its script that came into hand is reported in its row of the book with just what the frames of its
-- epoch give for it, and each reply is that of its application
abbrev pub IsReported : Scenario → List Exchanged → ℕ → SlaveSpec → Leads → Node Serving → SlaveBook → Type 0
IsReported plan fs place s a n row =
    LifeReplies (services_of plan s) (spot_of place s) (all_seen (lens_of plan.slaves) fs) real_clearing.cleared (first_app s) a.lived.life n (noted_in row.begun row.answers)

-- of all of them, from a place on
abbrev pub AllReported : Scenario → List Exchanged → ℕ → List SlaveSpec → List Leads → List (Node Serving) → List SlaveBook → Type 0
AllReported plan fs place [] [] [] [] = ⊤
AllReported plan fs place (s ∷ ss) (a ∷ as') (n ∷ ns) (row ∷ rows) = IsReported plan fs place s a n row × AllReported plan fs (suc place) ss as' ns rows
AllReported plan fs place _ _ _ _ = ⊥
