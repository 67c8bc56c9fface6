-- A life whose newest epoch is open, and one whose newest epoch isn't.
use Rattle.std.specs.Prelude.{◌≡◌, ℕ, ◌+◌, ◌<◌, ◌≤◌, Bool, true, List, [], ◌∷◌, ◌++◌, Some, None, length, ⊤}
use Rattle.state_model.specs.of_exchange_model.Exchange.{Exchange, IsLawful}
use Rattle.state_model.specs.of_segment_model.Slaves.{Processor}
use Rattle.state_model.specs.of_segment_model.Record.{Frame}
use Rattle.state_model.specs.of_segment_model.Laws.{IsSettled, WantsNothing}
use Rattle.state_model.specs.States.{Table}
use Rattle.state_model.specs.Stated.{Stated, IsStated, Service}
use Rattle.state_model.specs.Accounts.{Started}
use Rattle.state_model.specs.Promise.{services_in, mails_in}
use Rattle.life_model.specs.Lives.{Spot, returns_to_init, opens_state}
use Rattle.life_model.specs.Book.{Line, EpochBook, SlaveBook, FitsFrom, Fits, Rest, AllDone, IsForgetful}
use Rattle.life_model.specs.Answers.{first_gave, between, return_of, AllAnswers}
use Rattle.life_model.specs.Chain.{KeepsSame, behind_clear, with_own, doubt_line, IsShownFirst, Epoch, Timed, Written, Chained, AreLeft, AllBegin, AllEnd, NoneBelow}

module _ {V A M Q R : Type 0} (x : Exchange V A M Q R) (lawful : IsLawful x) (s : Stated V A Q) (stated : IsStated x s) (processor : Processor V) (table : ℕ → Table) (cleared : A → A) (more : M → Bool) (spot : Spot) (fs : List (Frame M)) (gave : List ℕ) where
  -- HOW THE NEWEST EPOCH BEGAN behind what the ones before left and carried over: in the start state, or in that of a state service
  pub data Begun (e : Epoch x lawful s stated processor table cleared more spot fs) (end : ℕ) (body : EpochBook M Q R) : List (Started Q) → A → EpochBook M Q R → Type 0 where
    taken_up : (a : A) → x.app e.server ≡ s.told spot.start (behind_clear cleared e.era.cleared a) → Begun e end body [] a body
    by_own : (a : A) (target frame cleared_at : ℕ) → returns_to_init target ≡ true → e.era.cleared ≡ Some cleared_at → frame < cleared_at → IsShownFirst spot.station (opens_state target) cleared_at e.opened fs →
        e.opened < first_gave gave frame end → x.app e.server ≡ s.told (opens_state target) (cleared a) → Begun e end body (record { service = Service.State target; frame = frame } ∷ []) a (with_own target frame body)

  -- A LIFE WHOSE NEWEST EPOCH IS OPEN, behind all these frames
  pub record OpenLife (b : SlaveBook A M Q R) : Type 0 where
    pub past : List (EpochBook M Q R)
    pub carry : List (Started Q)
    pub left : A
    pub epoch : Epoch x lawful s stated processor table cleared more spot fs
    pub body : EpochBook M Q R
    pub last : EpochBook M Q R
    pub before : Chained x lawful s stated processor table cleared more spot fs gave (return_of last.cleared) carry left [] b.first past
    pub inside : AllEnd (length fs) (return_of last.cleared) past
    pub begun : Begun epoch (length fs) body carry left last
    pub timed : Timed x lawful s stated processor table cleared more spot fs gave epoch (length fs)
    pub written : Written x lawful s stated processor table cleared more spot fs gave epoch (length fs) [] body
    pub epochs : b.epochs ≡ past ++ last ∷ []

  -- the newest epoch with other rows
  abbrev pub as_begun : (e : Epoch x lawful s stated processor table cleared more spot fs) (end : ℕ) (body : EpochBook M Q R) (carry : List (Started Q)) (a : A) (last : EpochBook M Q R) → Begun e end body carry a last → EpochBook M Q R → EpochBook M Q R
  as_begun e end body carry a last (Begun.taken_up b begins) other = other
  as_begun e end body carry a last (Begun.by_own b target frame cleared_at returns is early shown before begins) other = with_own target frame other

  -- NOTHING IS WANTED of it: no state service ended its epoch, the slave is settled, and the master wants nothing of it
  pub record WantsNoMore (b : SlaveBook A M Q R) (l : OpenLife b) : Type 0 where
    pub whole : l.epoch.tail ≡ []
    pub settled : IsSettled l.epoch.slave
    pub wants : WantsNothing x.speech l.epoch.era.side
    pub hand : l.epoch.era.account.hand ≡ None

  -- the slave carried out as many services by mails in an epoch as it has rows by mails
  abbrev pub HasDrained : Epoch x lawful s stated processor table cleared more spot fs → Type 0
  HasDrained e = x.handled e.slave.node.server.server ≡ x.handled e.server + mails_in (services_in e.rows)

  -- EACH EPOCH DRAINED and was ended by a state service that returned the slave to Init, and the next was opened
  abbrev pub AllDrained : (stop : ℕ) (carried : List (Started Q)) (end : A) (carry : List (Started Q)) (a : A) (es : List (EpochBook M Q R)) → Chained x lawful s stated processor table cleared more spot fs gave stop carried end carry a es → Type 0
  AllDrained stop carried end carry a es Chained.none = ⊤
  AllDrained stop carried end carry a es (Chained.taken_up b e next body more_es begins t w l) = ((r : Started Q) × (next ≡ r ∷ [])) × HasDrained e × AllDrained stop carried end next _ more_es l
  AllDrained stop carried end carry a es (Chained.own_opened b e target frame cleared_at next body more_es returns is early shown before begins t w l) = ((r : Started Q) × (next ≡ r ∷ [])) × HasDrained e × AllDrained stop carried end next _ more_es l
  AllDrained stop carried end carry a es (Chained.closed b cleared_at more_es l) = AllDrained stop carried end [] _ more_es l
  AllDrained stop carried end carry a es (Chained.own_closed b target frame cleared_at more_es returns early quiet l) = ⊥

-- no give-up came behind this frame
abbrev pub NoneBehind : ℕ → List ℕ → Type 0
NoneBehind opened [] = ⊤
NoneBehind opened (g ∷ gs) = (g ≤ opened) × NoneBehind opened gs

module _ {V A M Q R : Type 0} (x : Exchange V A M Q R) (lawful : IsLawful x) (s : Stated V A Q) (stated : IsStated x s) (processor : Processor V) (table : ℕ → Table) (cleared : A → A) (more : M → Bool) (spot : Spot) (gave : List ℕ) where
  -- AN OPEN EPOCH GOES ON by a frame: the same epoch, with the rows that then have begun, is a session over the frames with this one
  pub record GoesOn (fs : List (Frame M)) (e : Epoch x lawful s stated processor table cleared more spot fs) (f : Frame M) (now : Epoch x lawful s stated processor table cleared more spot (fs ++ f ∷ [])) (body : EpochBook M Q R) : Type 0 where
    pub opened : now.opened ≡ e.opened
    pub server : now.server ≡ e.server
    pub cleared_is : now.era.cleared ≡ e.era.cleared
    pub until : now.until ≡ length (fs ++ f ∷ [])
    pub begins : AllBegin now.opened now.era.account.started
    pub quiet : NoneBehind e.opened gave
    pub written : Written x lawful s stated processor table cleared more spot (fs ++ f ∷ []) gave now (length (fs ++ f ∷ [])) [] body

  -- AN OPEN EPOCH IS OVER behind further frames, in which its slave is left alone up to its end, and further give-ups: the same epoch over all
  -- frames, with the rows that are its own
  pub record IsOver (fs : List (Frame M)) (e : Epoch x lawful s stated processor table cleared more spot fs) (gs : List (Frame M)) (hs : List ℕ) (now : Epoch x lawful s stated processor table cleared more spot (fs ++ gs)) (stop : ℕ)
      (carry : List (Started Q)) (body : EpochBook M Q R) : Type 0 where
    pub opened : now.opened ≡ e.opened
    pub server : now.server ≡ e.server
    pub cleared_is : now.era.cleared ≡ e.era.cleared
    pub until : now.until ≡ e.until
    pub begins : AllBegin now.opened now.era.account.started
    pub quiet : NoneBehind e.opened gave
    pub late : NoneBelow (length fs) hs
    pub behind : length fs ≤ stop
    pub within : stop ≤ length (fs ++ gs)
    pub left : AreLeft spot.station (between (length fs) stop (fs ++ gs))
    pub written : Written x lawful s stated processor table cleared more spot (fs ++ gs) (gave ++ hs) now stop carry body

-- A LIFE WHOSE NEWEST EPOCH ISN'T OPEN: that was not opened; its slave was given up behind that; or its last row is a state service that was to
-- return it to Init
pub data IsShut {M Q R : Type 0} (gave : List ℕ) (last : EpochBook M Q R) : Type 0 where
  unopened : last.opened ≡ None → IsShut gave last
  given_up : (opened g : ℕ) (before behind : List ℕ) → last.opened ≡ Some opened → gave ≡ before ++ g ∷ behind → opened ≤ g → IsShut gave last
  in_doubt : (target frame : ℕ) (before : List (Line Q R)) → returns_to_init target ≡ true → last.lines ≡ before ++ doubt_line target frame ∷ [] → IsShut gave last

-- A RUN as one slave has it: an exchange that owes the laws and whose AL state is a part of its application, the slave's processor and table,
-- what a return to Init does to the application, which mails aren't the last of a reply, the slave's place, and all frames
pub record Setting (V A M Q R : Type 0) : Type 0 where
  pub exchange : Exchange V A M Q R
  pub lawful : IsLawful exchange
  pub states : Stated V A Q
  pub stated : IsStated exchange states
  pub processor : Processor V
  pub table : ℕ → Table
  pub cleared : A → A
  pub more : M → Bool
  pub spot : Spot
  pub frames : List (Frame M)
  pub forgets : IsForgetful states
  pub keeps : KeepsSame states cleared

-- the epochs of this book are a life up to a frame, which leaves this application
abbrev pub IsLife : {V A M Q R : Type 0} → Setting V A M Q R → SlaveBook A M Q R → ℕ → A → Type 0
IsLife w b stop end = Chained w.exchange w.lawful w.states w.stated w.processor w.table w.cleared w.more w.spot w.frames b.gave stop [] end [] b.first b.epochs

-- they are a life, and the newest is open
abbrev pub IsOpenLife : {V A M Q R : Type 0} → Setting V A M Q R → SlaveBook A M Q R → Type 0
IsOpenLife w b = OpenLife w.exchange w.lawful w.states w.stated w.processor w.table w.cleared w.more w.spot w.frames b.gave b

-- and nothing is wanted of it
abbrev pub IsIdle : {V A M Q R : Type 0} → (w : Setting V A M Q R) (b : SlaveBook A M Q R) → IsOpenLife w b → Type 0
IsIdle w b l = WantsNoMore w.exchange w.lawful w.states w.stated w.processor w.table w.cleared w.more w.spot w.frames b.gave b l

-- each epoch before it drained, and was ended by a state service
abbrev pub HadDrained : {V A M Q R : Type 0} → (w : Setting V A M Q R) (b : SlaveBook A M Q R) → IsOpenLife w b → Type 0
HadDrained w b l = AllDrained w.exchange w.lawful w.states w.stated w.processor w.table w.cleared w.more w.spot w.frames b.gave (return_of l.last.cleared) l.carry l.left [] b.first l.past l.before

-- the book fits epoch by epoch: here and below each service by mails counts one
abbrev pub EpochsFit : {V A M Q R : Type 0} → Setting V A M Q R → SlaveBook A M Q R → Type 0
EpochsFit w b = FitsFrom w.exchange w.states (w.table w.spot.station) w.cleared (λ a q. 1) b b.first b.epochs

-- the book fits
abbrev pub BookFits : {V A M Q R : Type 0} → Setting V A M Q R → SlaveBook A M Q R → Type 0
BookFits w b = Fits w.exchange w.states (w.table w.spot.station) w.cleared (λ a q. 1) b

-- nothing is left of it
abbrev pub BookRests : {V A M Q R : Type 0} → Setting V A M Q R → SlaveBook A M Q R → Type 0
BookRests w b = Rest w.exchange w.states (w.table w.spot.station) w.cleared (λ a q. 1) b

-- all is done
abbrev pub BookDone : {V A M Q R : Type 0} → Setting V A M Q R → SlaveBook A M Q R → Type 0
BookDone w b = AllDone w.exchange w.states (w.table w.spot.station) w.cleared (λ a q. 1) b

-- its answers are those that the frames give a slave of this pace, up to a frame
abbrev pub BookAnswers : {V A M Q R : Type 0} → Setting V A M Q R → SlaveBook A M Q R → ℕ → ℕ → Type 0
BookAnswers w b pace stop = AllAnswers w.exchange.speech w.more w.spot pace b.gave w.frames stop b.epochs

-- the application is the same as this one but for its AL state
abbrev pub HasApp : {V A M Q R : Type 0} → Setting V A M Q R → SlaveBook A M Q R → A → Type 0
HasApp w b end = w.states.told b.state b.app ≡ w.states.told b.state end

-- application and AL state are those of the open slave
abbrev pub HasOpen : {V A M Q R : Type 0} → (w : Setting V A M Q R) (b : SlaveBook A M Q R) → IsOpenLife w b → Type 0
HasOpen w b l = (b.app ≡ w.exchange.app l.epoch.slave.node.server.server) × (b.state ≡ l.epoch.slave.registers.state)

-- the book's slave starts in the state of its plan
abbrev pub StartsSo : {V A M Q R : Type 0} → Setting V A M Q R → SlaveBook A M Q R → Type 0
StartsSo w b = b.start ≡ w.spot.start

-- A LIFE WHOSE NEWEST EPOCH ISN'T OPEN, up to a frame, with the application that its slave has
pub record IsShutLife {V A M Q R : Type 0} (w : Setting V A M Q R) (b : SlaveBook A M Q R) : Type 0 where
  pub stop : ℕ
  pub end : A
  pub app : HasApp w b end
  pub life : IsLife w b stop end
  pub past : List (EpochBook M Q R)
  pub last : EpochBook M Q R
  pub epochs : b.epochs ≡ past ++ last ∷ []
  pub shut : IsShut b.gave last

-- its slave was never given up
pub record WasNeverGiven {A M Q R : Type 0} (b : SlaveBook A M Q R) : Type 0 where
  pub live : b.given_up ≡ None
  pub never : b.gave ≡ []
