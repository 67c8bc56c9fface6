-- What a serving owes its peers, by what it hears and what its session tells.
use Rattle.std.specs.Prelude.{◌≡◌, ◌≢◌, ◌<◌, ◌≤◌, ◌+◌, ◌⊎◌, ℕ, ◌==◌, ◌&&◌, Bool, true, false, not, if◌then◌else◌, List, [], ◌∷◌, ◌++◌, length, map, filter, find, slice_get, All, Any, Option, Some, None, Ok, Err}
use Rattle.slab.specs.Slab.{Slab}
use Rattle.gateway_core.specs.of_ec_outside.Port.{HeardGram}
use Rattle.gateway_core.specs.of_mailbox_mail.Mail.{error_of}
use Rattle.gateway_core.specs.of_mailbox_mail.declared.mail.Mail.{Mail}
use Rattle.gateway_core.specs.Framing.{request_in, gram_text}
use Rattle.gateway_core.specs.Gateway.{judged}
use Rattle.gateway_core.specs.declared.asker.Asker.{Asker}
use Rattle.gateway_core.specs.declared.framing.GatewayFault.{GatewayFault}
use Rattle.run_record.specs.of_master_node.declared.event.Event.{Event}
use Rattle.run_record.specs.of_master_node.declared.event.Event.TheVariants as events
use Rattle.run_record.specs.of_master_node.declared.event.Origin.TheVariants as origins
use Rattle.run_record.specs.of_segment_plan.declared.plan.Scenario.{Scenario}
use Rattle.run_record.specs.of_run_book.declared.book.GramIn.{GramIn}
use Rattle.run_record.specs.of_run_book.declared.book.GramOut.{GramOut}
use Rattle.run_record.specs.of_run_book.declared.book.SentFrame.{SentFrame}
use Rattle.run_record.specs.of_run_notes.Notes.{stations_of}
use Rattle.run_record.specs.Replay.{behind, IsRecorded}
use Rattle.gateway_run.specs.Events.{events_of}
use Rattle.run_record.specs.Served.{ServingAsks, ServingBegins, ServingGoesOn}
use Rattle.run_record.specs.Session.{FrameEvents, SessionState, Asks, IsDone, first_session, has_live, numbers_over}
use Rattle.run_record.specs.of_eoe_switch.declared.switching.SwitchEvent.{SwitchEvent}
use Rattle.gateway_run.specs.declared.desk.Request.{Request}

-- a mail that is owed to who asked by the datagram of that number
pub record Owing : Type 0 where
  pub gram : ℕ
  pub mail : Mail

-- a mail that is owed by a request
abbrev pub owing : Mail → Request → Owing
owing mail r = record { gram = r.gram; mail = mail }

-- a request of that key, and one of another
abbrev pub has_key : ℕ → Request → Bool
has_key key r = r.key == key

-- one of another key
abbrev pub is_other : ℕ → Request → Bool
is_other key r = not (r.key == key)

-- a request of that slave, and one of another
abbrev pub is_of : ℕ → Request → Bool
is_of slave r = r.slave == slave

-- one of another slave
abbrev pub is_elsewhere : ℕ → Request → Bool
is_elsewhere slave r = not (r.slave == slave)

-- a request whose mail waits to come into that slave's hand
abbrev pub waits_at : ℕ → Request → Bool
waits_at slave r = (r.slave == slave) && not r.begun

-- the oldest mail that waits for a slave came into its hand
abbrev pub begun_first : ℕ → List Request → List Request
begun_first slave [] = []
begun_first slave (r ∷ rs) = if waits_at slave r then (record r { begun = true }) ∷ rs else r ∷ begun_first slave rs

-- those of other keys, and those of other slaves
abbrev pub others : ℕ → List Request → List Request
others key rs = filter (is_other key) rs

-- those of other slaves
abbrev pub elsewhere : ℕ → List Request → List Request
elsewhere slave rs = filter (is_elsewhere slave) rs

-- error 5 is owed to each whose mail waits for a slave
abbrev pub cut_off : ℕ → List Request → List Owing
cut_off slave rs = map (owing (error_of 5)) (filter (waits_at slave) rs)

-- THE REQUESTS THAT AREN'T FINISHED behind an event: those of a key end where the session says so, and those of a slave where it is given up
abbrev pub left_by : Event → List Request → List Request
left_by (events.Began slave (origins.Gateway number)) rs = begun_first slave rs
left_by (events.GatewayDone key) rs = others key rs
left_by (events.GivenUp slave) rs = elsewhere slave rs
left_by event rs = rs

-- a mail is owed by a request, where there is one
abbrev pub owed_to : Mail → Option Request → List Owing
owed_to mail None = []
owed_to mail (Some r) = owing mail r ∷ []

-- a reply is owed by the request of its key
abbrev pub replied : Mail → ℕ → List Request → List Owing
replied mail key rs = owed_to mail (find (has_key key) rs)

-- WHAT AN EVENT OWES: a reply to who asked under its key; where a slave is given up, error 5 to each whose mail waited for it
abbrev pub owed_by : Event → List Request → List Owing
owed_by (events.GatewayReply key mail) rs = replied mail key rs
owed_by (events.GivenUp slave) rs = cut_off slave rs
owed_by event rs = []

-- the same of events one behind the other
abbrev pub left_by_all : List Event → List Request → List Request
left_by_all [] rs = rs
left_by_all (event ∷ more) rs = left_by_all more (left_by event rs)

-- what these events make owed
abbrev pub owed_by_all : List Event → List Request → List Owing
owed_by_all [] rs = []
owed_by_all (event ∷ more) rs = owed_by event rs ++ owed_by_all more (left_by event rs)

-- no request has that key
abbrev pub IsFree : ℕ → List Request → Type 0
IsFree key rs = All (λ (r : Request). r.key ≢ key) rs

-- a datagram that is no request: nothing is owed by it
pub record IsIgnored (s s' : SessionState) (rs rs' : List Request) (octets : List ℕ) (queued : Option ℕ) (more : List Owing) : Type 0 where
  pub fault : GatewayFault
  pub request : request_in octets ≡ Err fault
  pub nowhere : queued ≡ None
  pub session : s' ≡ s
  pub requests : rs' ≡ rs
  pub nothing : more ≡ []

-- one that the gateway answers by itself: one error, the first whose cause is there; error 7 comes only where 64 requests aren't finished
pub record IsRefused (s s' : SessionState) (rs rs' : List Request) (number : ℕ) (octets : List ℕ) (queued : Option ℕ) (more : List Owing) : Type 0 where
  pub mail : Mail
  pub detail : ℕ
  pub unfinished : Slab Asker
  pub request : request_in octets ≡ Ok mail
  pub cause : judged unfinished mail (stations_of s.recover s.homes s.notes) ≡ Err detail
  pub seldom : length rs < 64 → detail ≢ 7
  pub nowhere : queued ≡ None
  pub session : s' ≡ s
  pub requests : rs' ≡ rs
  pub error : more ≡ record { gram = number; mail = error_of detail } ∷ []

-- one whose mail is for a slave at which as many mails wait as may: one error, and the session is led as before
pub record IsTooMany (s s' : SessionState) (rs rs' : List Request) (number : ℕ) (octets : List ℕ) (queued : Option ℕ) (more : List Owing) : Type 0 where
  pub mail : Mail
  pub key : ℕ
  pub slave : ℕ
  pub request : request_in octets ≡ Ok mail
  pub full : slice_get s.waiting slave ≡ Some 64
  pub asks : Asks slave key mail s s' false
  pub led : ServingAsks slave key mail s s' false
  pub nowhere : queued ≡ None
  pub requests : rs' ≡ rs
  pub error : more ≡ record { gram = number; mail = error_of 7 } ∷ []

-- one whose mail is asked of the session, for the slave with its station, under a key that no other request has; it fits its slave's mailbox, and the session is
-- led on with it
pub record IsQueued (s s' : SessionState) (rs rs' : List Request) (number : ℕ) (octets : List ℕ) (queued : Option ℕ) (more : List Owing) : Type 0 where
  pub mail : Mail
  pub key : ℕ
  pub slave : ℕ
  pub unfinished : Slab Asker
  pub request : request_in octets ≡ Ok mail
  pub place : judged unfinished mail (stations_of s.recover s.homes s.notes) ≡ Ok slave
  pub free : IsFree key rs
  pub home : ℕ × ℕ
  pub at_home : slice_get s.homes slave ≡ Some home
  pub fits : 6 + length mail.body.items ≤ home.1
  pub asks : Asks slave key mail s s' true
  pub led : ServingAsks slave key mail s s' true
  pub there : queued ≡ Some slave
  pub requests : rs' ≡ rs ++ record { key = key; slave = slave; gram = number; begun = false } ∷ []
  pub nothing : more ≡ []

-- WHAT BECOMES OF A DATAGRAM: the slave at which it is queued, and what is owed by it at once
pub data Judges (s s' : SessionState) (rs rs' : List Request) (number : ℕ) (octets : List ℕ) (queued : Option ℕ) (more : List Owing) : Type 0 where
  ignored : IsIgnored s s' rs rs' octets queued more → Judges s s' rs rs' number octets queued more
  refused : IsRefused s s' rs rs' number octets queued more → Judges s s' rs rs' number octets queued more
  too_many : IsTooMany s s' rs rs' number octets queued more → Judges s s' rs rs' number octets queued more
  queues : IsQueued s s' rs rs' number octets queued more → Judges s s' rs rs' number octets queued more

-- a session behind one frame more, before which some slave was live and something was left to do: it is led on by that frame, over which just this happened at the switch
pub record Moves (s s' : SessionState) (f : SentFrame) : Type 0 where
  pub recorded : IsRecorded s.ring f
  pub ring : s'.ring ≡ behind s.ring f.sent
  pub homes : s'.homes ≡ s.homes
  pub asked : s'.asked ≡ s.asked
  pub recover : s'.recover ≡ s.recover
  pub live : has_live s.master ≡ true
  pub busy : IsDone s → ⊥
  pub happened : FrameEvents
  pub led : ServingGoesOn s s' happened f

-- THE COURSE OF A SERVING: its session, the frames sent and the datagrams heard until then, the requests that aren't finished, and all that was
-- ever owed, in order. A datagram is heard only while fewer than 64 requests aren't finished
pub data Course (plan : Scenario) (count : ℕ) : SessionState → List SentFrame → List GramIn → List Request → List Owing → Type 0 where
  begins : (s : SessionState) → s ≡ first_session plan count s.master → ServingBegins plan s → Course plan count s [] [] [] []
  hears :
      (s s' : SessionState) (fs : List SentFrame) (gs : List GramIn) (g : GramIn) (rs rs' : List Request) (os more : List Owing) → Course plan count s fs gs rs os → g.frame ≡ length fs → length rs < 64
      → Judges s s' rs rs' (length gs) g.bytes g.queued more → Course plan count s' fs (gs ++ g ∷ []) rs' (os ++ more)
  steps :
      (s s' : SessionState) (fs : List SentFrame) (f : SentFrame) (gs : List GramIn) (rs : List Request) (os : List Owing) → Course plan count s fs gs rs os → Moves s s' f
      → Course plan count s' (fs ++ f ∷ []) gs (left_by_all (events_of s'.master) rs) (os ++ owed_by_all (events_of s'.master) rs)

-- WHAT HAPPENED AT THE SWITCH over a course, frame by frame
abbrev pub happened_in : (plan : Scenario) (count : ℕ) (s : SessionState) (fs : List SentFrame) (gs : List GramIn) (rs : List Request) (os : List Owing) → Course plan count s fs gs rs os → List SwitchEvent
happened_in plan count _ _ _ _ _ (Course.begins s first serves) = []
happened_in plan count _ _ _ _ _ (Course.hears s s' fs gs g rs rs' os more c at few judges) = happened_in plan count s fs gs rs os c
happened_in plan count _ _ _ _ _ (Course.steps s s' fs f gs rs os c m) = happened_in plan count s fs gs rs os c ++ (m.happened.making ++ m.happened.behind)

-- and each of that with its number: how many frames had been sent when it came
abbrev pub numbers_in : (plan : Scenario) (count : ℕ) (s : SessionState) (fs : List SentFrame) (gs : List GramIn) (rs : List Request) (os : List Owing) → Course plan count s fs gs rs os → List ℕ
numbers_in plan count _ _ _ _ _ (Course.begins s first serves) = []
numbers_in plan count _ _ _ _ _ (Course.hears s s' fs gs g rs rs' os more c at few judges) = numbers_in plan count s fs gs rs os c
numbers_in plan count _ _ _ _ _ (Course.steps s s' fs f gs rs os c m) = numbers_in plan count s fs gs rs os c ++ numbers_over (length fs) m.happened

-- a datagram was heard when so many frames had been sent
abbrev pub WasHeardAt : ℕ → List GramIn → Type 0
WasHeardAt frames gs = Any (λ (g : GramIn). g.frame ≡ frames) gs

-- A FRAME MAY GO: where the port isn't over, no request is unfinished and more can be heard, a datagram was heard since the frame before
abbrev pub MayGo : Bool → ℕ → ℕ → List GramIn → List Request → Type 0
MayGo over count frames gs rs = over ≡ false → rs ≡ [] → (count ≤ length gs) ⊎ WasHeardAt frames gs

-- IT WAITED: each frame of a course might go, by whether the port is over behind it; it wasn't before a datagram that was heard
abbrev pub Waited : (plan : Scenario) (count : ℕ) (s : SessionState) (fs : List SentFrame) (gs : List GramIn) (rs : List Request) (os : List Owing) → Course plan count s fs gs rs os → Bool → Type 0
Waited plan count _ _ _ _ _ (Course.begins s first serves) over = Unit {0}
Waited plan count _ _ _ _ _ (Course.hears s s' fs gs g rs rs' os more c at few judges) over = Waited plan count s fs gs rs os c false
Waited plan count _ _ _ _ _ (Course.steps s s' fs f gs rs os c m) over = MayGo over count (length fs) gs rs × Waited plan count s fs gs rs os c over

-- WHAT THE DATAGRAMS HEARD SINCE THE LAST FRAME made owed
abbrev pub heard_since : (plan : Scenario) (count : ℕ) (s : SessionState) (fs : List SentFrame) (gs : List GramIn) (rs : List Request) (os : List Owing) → Course plan count s fs gs rs os → List Owing
heard_since plan count _ _ _ _ _ (Course.begins s first serves) = []
heard_since plan count _ _ _ _ _ (Course.hears s s' fs gs g rs rs' os more c at few judges) = heard_since plan count s fs gs rs os c ++ more
heard_since plan count _ _ _ _ _ (Course.steps s s' fs f gs rs os c m) = []

-- WHAT CAME LAST: what the datagrams heard since the last frame made owed; where none was, what that frame did, with the datagrams heard since the one before
abbrev pub recent : (plan : Scenario) (count : ℕ) (s : SessionState) (fs : List SentFrame) (gs : List GramIn) (rs : List Request) (os : List Owing) → Course plan count s fs gs rs os → List Owing
recent plan count _ _ _ _ _ (Course.begins s first serves) = []
recent plan count _ _ _ _ _ (Course.hears s s' fs gs g rs rs' os more c at few judges) = heard_since plan count s fs gs rs os c ++ more
recent plan count _ _ _ _ _ (Course.steps s s' fs f gs rs os c m) = heard_since plan count s fs gs rs os c ++ owed_by_all (events_of s'.master) rs

-- A MAIL AS IT IS SENT: to the peer of the datagram that it answers, with that datagram's station and counter
pub record Spells (heard : List HeardGram) (o : Owing) (r : GramOut) : Type 0 where
  pub gram : HeardGram
  pub asked : Mail
  pub number : r.gram ≡ o.gram
  pub answers : slice_get heard o.gram ≡ Some gram
  pub request : request_in gram.bytes ≡ Ok asked
  pub peer : r.peer ≡ gram.from
  pub text : r.bytes ≡ gram_text (record o.mail { address = asked.address; counter = asked.counter })

-- the datagrams for what is owed, one each, in order
abbrev pub AreSpelled : List HeardGram → List Owing → List GramOut → Type 0
AreSpelled heard [] [] = Unit {0}
AreSpelled heard (o ∷ os) (r ∷ rs) = Spells heard o r × AreSpelled heard os rs
AreSpelled heard _ _ = ⊥
