-- THE BOOK of one slave over lists, numbers and records: what its rows have done, answer by answer and epoch by epoch; nothing left; all done.
use Rattle.std.specs.Prelude.{◌≡◌, ◌≢◌, ℕ, suc, ◌+◌, ◌-◌, ◌<◌, ◌≤◌, ◌==◌, ◌&&◌, ◌||◌, Bool, true, false, not, nat_le, nat_lt, is_some, if◌then◌else◌, Option, Some, None, List, [], ◌∷◌, ◌++◌, map, length, ⊤}
use Rattle.state_model.specs.of_exchange_model.Prefix.{IsPrefixOf}
use Rattle.state_model.specs.of_exchange_model.Exchange.{Exchange, Speech, emitted}
use Rattle.state_model.specs.of_segment_model.Record.{Frame, heard}
use Rattle.state_model.specs.of_segment_model.Ends.{Outcome}
use Rattle.state_model.specs.of_segment_model.Books.{Answer, answer_from}
use Rattle.state_model.specs.States.{Table}
use Rattle.state_model.specs.Promises.{state_behind, answer_of}
use Rattle.state_model.specs.Stated.{Stated, Service}
use Rattle.state_model.specs.Accounts.{Started}
use Rattle.state_model.specs.Promise.{IsReply, outcome_of}
use Rattle.life_model.specs.Lives.{returns_to_init, opens_state}
use Rattle.life_model.specs.Eras.{OpenEra, frames_of}

-- a row: its service, the number of the frame that was made when it came into hand, and its answer
pub record Line (Q R : Type 0) : Type 0 where
  pub service : Service Q
  pub frame : ℕ
  pub answer : Answer R

-- an epoch: the frame that showed the return to Init, none for the first, and the one that showed the opened state; its rows; how many services
-- by mails the slave carried out in it; and the emissions heard in it
pub record EpochBook (M Q R : Type 0) : Type 0 where
  pub cleared : Option ℕ
  pub opened : Option ℕ
  pub lines : List (Line Q R)
  pub handled : ℕ
  pub received : List M

-- a slave: the application of the plan and the one that the slave has, its AL state, the state that it starts in, its epochs, and the frames at
-- which it was given up
pub record SlaveBook (A M Q R : Type 0) : Type 0 where
  pub first : A
  pub app : A
  pub state : ℕ
  pub start : ℕ
  pub epochs : List (EpochBook M Q R)
  pub gave : List ℕ
  pub given_up : Option ℕ

-- a row without an outcome
abbrev pub is_in_doubt : {R : Type 0} → Answer R → Bool
is_in_doubt (Answer.Ended outcome frame) = false
is_in_doubt Answer.InDoubt = true
is_in_doubt Answer.NotSent = false

-- the epoch was opened behind this frame
abbrev pub opened_behind : Option ℕ → ℕ → Bool
opened_behind None frame = false
opened_behind (Some opened) frame = nat_lt frame opened

-- another epoch follows
abbrev pub follow : {X : Type 0} → List X → Bool
follow [] = false
follow (x ∷ xs) = true

-- `cleared` is what a return to Init does to an application, and `weigh` what a service by mails counts
module _ {V A M Q R : Type 0} (x : Exchange V A M Q R) (s : Stated V A Q) (table : Table) (cleared : A → A) (weigh : A → Q → ℕ) where
  -- the AL state behind a state service: one that returns to Init opens PreOp or Bootstrap
  abbrev pub state_next : A → ℕ → ℕ
  state_next a target = if returns_to_init target then opens_state target else state_behind table (s.state a) target

  -- A SERVICE ACTS by its meaning on the application
  abbrev pub acted : A → Service Q → A
  acted a (Service.Mails q) = x.exec a q
  acted a (Service.State target) = s.told (state_next a target) a

  -- rows, in order
  abbrev pub all_acted : A → List (Line Q R) → A
  all_acted a [] = a
  all_acted a (l ∷ ls) = all_acted (acted a l.service) ls

  -- what a row counts
  abbrev pub weight : A → Service Q → ℕ
  weight a (Service.Mails q) = weigh a q
  weight a (Service.State target) = 0

  -- DONE: the longest first part of the rows that counts so many
  abbrev pub done : ℕ → A → List (Line Q R) → List (Line Q R)
  done n a [] = []
  done n a (l ∷ ls) = if nat_le (weight a l.service) n then l ∷ done (n - weight a l.service) (acted a l.service) ls else []

  -- a state service in doubt that is last in it is left out where another epoch follows, where it returns to Init and no opening is behind it, or
  -- where the slave's AL state isn't the one after it
  abbrev pub is_left : Bool → Option ℕ → ℕ → A → Line Q R → Service Q → Bool
  is_left follows opened al a l (Service.Mails q) = false
  is_left follows opened al a l (Service.State target) =
      is_in_doubt l.answer && (follows || (returns_to_init target && not (opened_behind opened l.frame)) || not (al == state_next a target))

  -- the rows without it
  abbrev pub trimmed : Bool → Option ℕ → ℕ → A → List (Line Q R) → List (Line Q R)
  trimmed follows opened al a [] = []
  trimmed follows opened al a (l ∷ []) = if is_left follows opened al a l l.service then [] else l ∷ []
  trimmed follows opened al a (l ∷ (k ∷ ls)) = l ∷ trimmed follows opened al (acted a l.service) (k ∷ ls)

  -- what a row emits
  abbrev pub emits_by : A → Service Q → List M
  emits_by a (Service.Mails q) = x.emits a q
  emits_by a (Service.State target) = []

  -- and all of these
  abbrev pub all_emits : A → List (Line Q R) → List M
  all_emits a [] = []
  all_emits a (l ∷ ls) = emits_by a l.service ++ all_emits (acted a l.service) ls

  -- the reply of a row
  abbrev pub reply_by : A → Service Q → Outcome R
  reply_by a (Service.Mails q) = Outcome.Replied (x.reply a q)
  reply_by a (Service.State target) = if returns_to_init target then Outcome.Reached else answer_of (table (s.state a) target)

  -- each reply is that of its row, on the application behind the rows before it, and its row, the first of which has this number, is among the
  -- first `count`
  abbrev pub RepliesFit : ℕ → ℕ → A → List (Line Q R) → Type 0
  RepliesFit count number a [] = ⊤
  RepliesFit count number a (l ∷ ls) =
      ((o : Outcome R) (frame : ℕ) → l.answer ≡ Answer.Ended o frame → IsReply o → (o ≡ reply_by a l.service) × (number < count))
      × RepliesFit count (suc number) (acted a l.service) ls

  -- AN EPOCH FITS, with what is done of it: at most two rows are behind, replies are those of the rows, and what was heard are the first emissions
  -- of what is done
  pub record EpochFits (a : A) (e : EpochBook M Q R) (ds : List (Line Q R)) : Type 0 where
    pub behind : length e.lines ≤ length ds + 2
    pub replies : RepliesFit (length ds) 0 a e.lines
    pub emissions : IsPrefixOf e.received (all_emits a ds)

  -- a state service that returns its slave to Init
  abbrev pub returns : Service Q → Bool
  returns (Service.Mails q) = false
  returns (Service.State target) = returns_to_init target

  -- its first row is a state service that returned the slave to Init: it came into hand before that was seen
  abbrev pub opens_own : Option ℕ → List (Line Q R) → Bool
  opens_own None ls = false
  opens_own (Some cleared_at) [] = false
  opens_own (Some cleared_at) (l ∷ ls) = returns l.service && nat_lt l.frame cleared_at

  -- the application with which an epoch begins: cleared, but for the first; told the start state, but where a state service opened it
  abbrev pub begins_with : ℕ → EpochBook M Q R → A → A
  begins_with start e a =
      let c = if is_some e.cleared then cleared a else a in
      if is_some e.opened && not (opens_own e.cleared e.lines) then s.told start c else c

  -- what is done of an epoch
  abbrev pub done_of : SlaveBook A M Q R → EpochBook M Q R → Bool → A → List (Line Q R)
  done_of b e follows a = trimmed follows e.opened b.state a (done e.handled a e.lines)

  -- FITS: epoch by epoch, each from what the one before has done; the slave's application, but for its AL state, is what all have done
  abbrev pub FitsFrom : SlaveBook A M Q R → A → List (EpochBook M Q R) → Type 0
  FitsFrom b a [] = s.told b.state b.app ≡ s.told b.state a
  FitsFrom b a (e ∷ es) =
      let from = begins_with b.start e a in
      EpochFits from e (done_of b e (follow es) from) × FitsFrom b (all_acted from (done_of b e (follow es) from)) es

  -- what all epochs have done
  abbrev pub done_all : SlaveBook A M Q R → A → List (EpochBook M Q R) → A
  done_all b a [] = a
  done_all b a (e ∷ es) = let from = begins_with b.start e a in done_all b (all_acted from (done_of b e (follow es) from)) es

  -- the last epoch was opened, and no reopening began behind that: none by a give-up, and none by its last row
  abbrev pub last_row : List (Line Q R) → Bool
  last_row [] = false
  last_row (l ∷ []) = is_in_doubt l.answer && returns l.service
  last_row (l ∷ (k ∷ ls)) = last_row (k ∷ ls)

  -- a number that isn't below this frame
  abbrev pub any_from : ℕ → List ℕ → Bool
  any_from opened [] = false
  any_from opened (g ∷ gs) = nat_le opened g || any_from opened gs

  -- an epoch was opened, and no such number is behind that
  abbrev pub quiet_since : List ℕ → Option ℕ → Bool
  quiet_since gave None = false
  quiet_since gave (Some opened) = not (any_from opened gave)

  -- so its AL state is told
  abbrev pub says_state : List ℕ → List (EpochBook M Q R) → Bool
  says_state gave [] = false
  says_state gave (e ∷ []) = not (last_row e.lines) && quiet_since gave e.opened
  says_state gave (e ∷ (f ∷ es)) = says_state gave (f ∷ es)

  -- THE BOOK OF A SLAVE FITS
  pub record Fits (b : SlaveBook A M Q R) : Type 0 where
    pub epochs : FitsFrom b b.first b.epochs
    pub state : says_state b.gave b.epochs ≡ true → b.state ≡ s.state (done_all b b.first b.epochs)

  -- none of these is in doubt
  abbrev pub NoneInDoubt : List (Line Q R) → Type 0
  NoneInDoubt [] = ⊤
  NoneInDoubt (l ∷ ls) = (is_in_doubt l.answer ≡ false) × NoneInDoubt ls

  -- NOTHING LEFT in the last epoch: it is opened, all its rows are done, all their emissions were heard, none is in doubt
  pub record RestsIn (b : SlaveBook A M Q R) (from : A) (e : EpochBook M Q R) : Type 0 where
    pub opened : e.opened ≢ None
    pub all : done_of b e false from ≡ e.lines
    pub emissions : e.received ≡ all_emits from e.lines
    pub ended : NoneInDoubt e.lines

  -- the last of these
  abbrev pub RestFrom : SlaveBook A M Q R → A → List (EpochBook M Q R) → Type 0
  RestFrom b a [] = ⊥
  RestFrom b a (e ∷ []) = RestsIn b (begins_with b.start e a) e
  RestFrom b a (e ∷ (f ∷ es)) = let from = begins_with b.start e a in RestFrom b (all_acted from (done_of b e true from)) (f ∷ es)

  -- NOTHING LEFT of a slave that isn't given up for good
  pub record Rest (b : SlaveBook A M Q R) : Type 0 where
    pub live : b.given_up ≡ None
    pub rests : RestFrom b b.first b.epochs

  -- all rows of each epoch are done, and each has its outcome
  abbrev pub EachDone : SlaveBook A M Q R → A → List (EpochBook M Q R) → Type 0
  EachDone b a [] = ⊤
  EachDone b a (e ∷ es) =
      let from = begins_with b.start e a in
      ((done_of b e (follow es) from ≡ e.lines) × NoneInDoubt e.lines) × EachDone b (all_acted from (done_of b e (follow es) from)) es

  -- ALL DONE: nothing is left, and the slave was never given up
  pub record AllDone (b : SlaveBook A M Q R) : Type 0 where
    pub rest : Rest b
    pub never : b.gave ≡ []
    pub each : EachDone b b.first b.epochs

-- a service that came into hand as a row, with the answer that the record of its epoch gives
abbrev pub line_of : {M Q R : Type 0} → Speech M Q R → (M → Bool) → ℕ → List (Frame M) → Started Q → Line Q R
line_of x more station fs r = record { service = r.service; frame = r.frame; answer = answer_from (outcome_of x more station fs r) }

-- AN OPEN EPOCH AS A BOOK HAS IT, with these rows
abbrev pub epoch_book : {V A M Q R : Type 0} → OpenEra V A M Q R → (M → Bool) → List (Started Q) → EpochBook M Q R
epoch_book w more rs = record {
  cleared = w.era.cleared;
  opened = Some w.opened;
  lines = map (λ r. line_of w.exchange.speech more w.spot.station (frames_of w) r) rs;
  handled = w.exchange.handled w.slave.node.server.server - w.exchange.handled w.server;
  received = emitted w.exchange.speech.emission (heard w.spot.station (frames_of w));
}

-- behind the rows of an epoch there is nothing, or the state service that ends it, which a book has in the next epoch
abbrev pub IsTail : {Q : Type 0} → List (Started Q) → Type 0
IsTail [] = ⊤
IsTail (r ∷ []) = (target : ℕ) × (r.service ≡ Service.State target)
IsTail (r ∷ (q ∷ rs)) = ⊥

-- none of these services returns to Init
abbrev pub NoInits : {Q : Type 0} → List (Service Q) → Type 0
NoInits [] = ⊤
NoInits (Service.Mails q ∷ qs) = NoInits qs
NoInits (Service.State target ∷ qs) = (returns_to_init target ≡ false) × NoInits qs

-- the AL state told last is the one that stands
abbrev pub IsForgetful : {V A Q : Type 0} → Stated V A Q → Type 0
IsForgetful {A = A} s = (k j : ℕ) (a : A) → s.told k (s.told j a) ≡ s.told k a

-- WHAT IS DONE OF AN EPOCH is what its slave has done, but for the AL state, and it fits; here each service by mails counts one
pub record EpochDone {V A M Q R : Type 0} (w : OpenEra V A M Q R) (cleared : A → A) (e : EpochBook M Q R) (ds : List (Line Q R)) : Type 0 where
  pub app : (k : ℕ) → w.states.told k (all_acted w.exchange w.states (w.table w.spot.station) cleared (λ a q. 1) (w.exchange.app w.server) ds) ≡ w.states.told k (w.exchange.app w.slave.node.server.server)
  pub fits : EpochFits w.exchange w.states (w.table w.spot.station) cleared (λ a q. 1) (w.exchange.app w.server) e ds

-- what is done of its rows, where another epoch follows or not, and where the slave's AL state is this one at last
abbrev pub done_rows : {V A M Q R : Type 0} → OpenEra V A M Q R → (A → A) → (M → Bool) → List (Started Q) → Bool → ℕ → List (Line Q R)
done_rows w cleared more rs follows al =
    let e = epoch_book w more rs in
    let a = w.exchange.app w.server in
    trimmed w.exchange w.states (w.table w.spot.station) cleared (λ b q. 1) follows e.opened al a (done w.exchange w.states (w.table w.spot.station) cleared (λ b q. 1) e.handled a e.lines)

-- NOTHING IS LEFT OF AN EPOCH: all its rows are done, all their emissions were heard, and each has its outcome
pub record EpochRests {V A M Q R : Type 0} (w : OpenEra V A M Q R) (cleared : A → A) (e : EpochBook M Q R) (ds : List (Line Q R)) : Type 0 where
  pub all : ds ≡ e.lines
  pub app : all_acted w.exchange w.states (w.table w.spot.station) cleared (λ a q. 1) (w.exchange.app w.server) e.lines ≡ w.exchange.app w.slave.node.server.server
  pub emissions : e.received ≡ all_emits w.exchange w.states (w.table w.spot.station) cleared (λ a q. 1) (w.exchange.app w.server) e.lines
  pub ended : NoneInDoubt w.exchange w.states (w.table w.spot.station) cleared (λ a q. 1) e.lines
