-- WHAT A SLAVE DID, epoch by epoch, of the services that came into hand of it.
use Rattle.std.specs.Prelude.{◌≡◌, ℕ, ◌+◌, ◌<◌, ◌≤◌, Bool, true, Some, None, List, [], ◌∷◌, ◌++◌, take, length}
use Rattle.slave_server.specs.of_exchange_model.Exchange.{Exchange, after, given, plain, emitted}
use Rattle.slave_server.specs.of_exchange_model.Prefix.{IsPrefixOf}
use Rattle.slave_server.specs.of_exchange_model.Rows.{exec_all, emits_all}
use Rattle.whole_ring.specs.of_life_model.Eras.{era_frames}
use Rattle.whole_ring.specs.of_life_model.Lives.{Spot, Era, Life}
use Rattle.slave_server.specs.of_link_mails.Body.{Body}
use Rattle.slave_server.specs.of_segment_model.Laws.{AllAnswered, WantsNothing}
use Rattle.slave_server.specs.of_segment_model.Record.{Frame, heard}
use Rattle.slave_server.specs.of_segment_model.Seats.{rows_of}
use Rattle.whole_ring.specs.of_slave_lives.Lived.{Behind, table_of, node_seen}
use Rattle.slave_server.specs.of_slave_node.Node.{Node, is_settled}
use Rattle.slave_server.specs.of_state_model.Stated.{Service, with_states, mails}
use Rattle.slave_server.specs.of_state_model.Accounts.{Started}
use Rattle.slave_server.specs.of_state_model.Promise.{services_in, mails_started, rows_started, states_started, changes_in, duty_in, AllReplied, AllDone, AllFound, IsOpenYet, AllEnded, but_last}

-- ALL THAT A SERVER REPLIES to these services, one after the other, each by all its mails; what it sends of itself isn't among it
abbrev pub replies_all : {V A M Q R : Type 0} → Exchange V A M Q R → V → List Q → List M
replies_all x v [] = []
replies_all x v (q ∷ qs) = plain x.speech.emission (given x.serve v (x.full v q)) ++ replies_all x (after x.serve v (x.full v q)) qs

module _ {S V A Q R : Type 0} (w : Behind S V A Q R) (more : Body → Bool) (spot : Spot) where
  -- the application behind these services, from one on, and what they emit
  abbrev pub app_behind : A → List (Service Q) → A
  app_behind from qs = (exec_all (with_states w.exchange w.states (table_of w spot.station)) (from, 0) qs).0

  -- the mails that these services emit, from an application on
  abbrev pub emitted_by : A → List (Service Q) → List Body
  emitted_by from qs = mails (emits_all (with_states w.exchange w.states (table_of w spot.station)) (from, 0) qs)

  -- what a server replies to these services by mails, with AL states between them
  abbrev pub replied_by : V → List (Service Q) → List Body
  replied_by server qs = mails (replies_all (with_states w.exchange w.states (table_of w spot.station)) (record { server = server; words = 0 }) qs)

  -- CARRIED OUT: from one application to another just the first so many of the services that came into hand, each once and in order; at most the
  -- two newest are not among them
  pub record IsCarriedOut (from to : A) (count : ℕ) (started : List (Started Q)) : Type 0 where
    pub prefix : count ≤ length started
    pub behind : length started ≤ count + 2
    pub app : to ≡ app_behind from (take count (services_in started))

  -- ANSWERED, by these frames: each reply is that of its service on the application behind those before it, and its service was carried out; only
  -- the newest may be without one; and what was heard besides are the first of the emissions
  pub record IsAnswered (gs : List (Frame Body)) (from : A) (count : ℕ) (started : List (Started Q)) : Type 0 where
    pub replies : AllReplied w.exchange w.states (table_of w spot.station) more spot.station gs (from, 0) started
    pub done : AllDone w.exchange.speech more spot.station gs count 0 started
    pub ended : AllEnded w.exchange.speech more spot.station gs (but_last started)
    pub emissions : IsPrefixOf (emitted w.exchange.speech.emission (heard spot.station gs)) (emitted_by from (take count (services_in started)))

  -- NO MAIL IS FOREIGN: by these frames all that was heard is what the slave sends of itself, or the next of what a server with this application replies
  -- to the services that came into hand
  pub record IsOwn (gs : List (Frame Body)) (from : A) (started : List (Started Q)) : Type 0 where
    pub server : V
    pub app : w.exchange.app server ≡ from
    pub replies : IsPrefixOf (plain w.exchange.speech.emission (heard spot.station gs)) (replied_by server (services_in started))

  -- THE MASTER HAS THESE ANSWERS: its rows are the services by mails that came into hand, and its changes the state services, each with the answer
  -- that the frames give; and for the one in hand they give none
  pub record IsTold (gs : List (Frame Body)) (e : Era Body Q R) : Type 0 where
    pub mails : mails_started e.account.started ≡ rows_started (rows_of e.side)
    pub answers : AllAnswered w.exchange.speech more spot.station gs (rows_of e.side)
    pub states : states_started e.account.started ≡ changes_in e.account.over ++ duty_in e.account.hand
    pub over : AllFound w.exchange.speech more spot.station gs e.account.over
    pub hand : IsOpenYet w.exchange.speech more spot.station gs e.account.hand

  -- AN EPOCH from the frame that opened it to another: its slave began with this application, told the AL state of the epoch, in the first the plan's
  pub record IsKept (fs : List (Frame Body)) (e : Era Body Q R) (from to : A) (until : ℕ) : Type 0 where
    pub opened : ℕ
    pub opened_at : e.opened ≡ Some opened
    pub before : opened < until
    pub within : until ≤ length fs
    pub state : ℕ
    pub first : e.cleared ≡ None → state ≡ spot.start
    pub in_state : state ≡ e.state
    pub count : ℕ
    pub carried : IsCarriedOut (w.states.told state from) to count e.account.started
    pub answered : IsAnswered (era_frames spot opened until fs) (w.states.told state from) count e.account.started
    pub told : IsTold (era_frames spot opened until fs) e
    pub own : IsOwn (era_frames spot opened until fs) (w.states.told state from) e.account.started

  -- ALL EPOCHS THAT ARE OVER, from the application of the plan on: each begins with what the one before left, cleared by the return to Init
  pub data AreKept (cleared : A → A) (fs : List (Frame Body)) (first : A) : List (Era Body Q R) → A → Type 0 where
    none : AreKept cleared fs first [] first
    unopened : (es : List (Era Body Q R)) (b : A) (e : Era Body Q R) → AreKept cleared fs first es b → e.opened ≡ None → AreKept cleared fs first (es ++ e ∷ []) (cleared b)
    opened : (es : List (Era Body Q R)) (b : A) (e : Era Body Q R) (left : A) (until : ℕ) → AreKept cleared fs first es b → IsKept fs e b left until → AreKept cleared fs first (es ++ e ∷ []) (cleared left)

  -- the application of a node, and the one with which it begins anew once it is returned to Init, as it is seen in an AL state
  abbrev pub app_of : Node S → A
  app_of n = w.exchange.app (node_seen w n).node.server.server

  -- the application with which a node begins anew, as it is seen in an AL state
  abbrev pub app_anew : ℕ → Node S → A
  app_anew state n = w.exchange.app (w.sees state (w.running.clear n.server)).server

  -- NOTHING IS LEFT of an epoch: all that came into hand is carried out and answered, and all its emissions were heard
  pub record NothingLeft (fs : List (Frame Body)) (e : Era Body Q R) (from to : A) : Type 0 where
    pub opened : ℕ
    pub opened_at : e.opened ≡ Some opened
    pub state : ℕ
    pub in_state : state ≡ e.state
    pub app : to ≡ app_behind (w.states.told state from) (services_in e.account.started)
    pub ended : AllEnded w.exchange.speech more spot.station (era_frames spot opened (length fs) fs) e.account.started
    pub emissions : emitted w.exchange.speech.emission (heard spot.station (era_frames spot opened (length fs) fs)) ≡ emitted_by (w.states.told state from) (services_in e.account.started)

  -- so it is where the slave is settled and the master wants nothing of it
  abbrev pub RestsIf : List (Frame Body) → Era Body Q R → A → Node S → Type 0
  RestsIf fs e from n = is_settled w.running.next n ≡ true → WantsNothing w.exchange.speech e.side → e.account.hand ≡ None → NothingLeft fs e from (app_of n)

  -- THE NEWEST EPOCH: it is open, and the slave's application is what was carried out of it; or nothing began in it yet; or it is over, left with what
  -- was carried out of it, and the slave begins anew with that, cleared
  pub data IsNewest (cleared : A → A) (fs : List (Frame Body)) (e : Era Body Q R) (from : A) (n : Node S) : Type 0 where
    lives : IsKept fs e from (app_of n) (length fs) → RestsIf fs e from n → IsNewest cleared fs e from n
    waits : (state : ℕ) → e.account.started ≡ [] → from ≡ app_anew state n → IsNewest cleared fs e from n
    left : (state : ℕ) (to : A) (until : ℕ) → IsKept fs e from to until → app_anew state n ≡ cleared to → IsNewest cleared fs e from n

  -- THE WHOLE LIFE of a slave with this node
  pub record IsKeptLife (cleared : A → A) (fs : List (Frame Body)) (first : A) (l : Life Body Q R) (n : Node S) : Type 0 where
    pub from : A
    pub past : AreKept cleared fs first l.past from
    pub newest : IsNewest cleared fs l.era from n
