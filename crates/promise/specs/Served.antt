-- THE PROMISE OF A SERVING, by the datagrams heard and sent and by its frames, over plan and book alone.
use Rattle.std.specs.Prelude.{◌≡◌, ◌≤◌, ◌<◌, ◌⊎◌, ℕ, suc, ◌+◌, ◌-◌, ◌%◌, ◌==◌, ◌&&◌, ◌||◌, nat_lt, Bool, true, false, if◌then◌else◌, Option, Some, None, Result, Ok, Err, List, [], ◌∷◌, ◌++◌, map, filter, take, drop, replicate, length, slice_get, All, ⊤}
use Rattle.protocol_models.specs.CoeServer as Coe
use Rattle.protocol_models.specs.CoeServer.{Emission, emergency, packet}
use Rattle.protocol_models.specs.FoeServer as Foe
use Rattle.gateway_core.specs.Framing.{request_in, gram_text}
use Rattle.gateway_core.specs.declared.GatewayFault.{GatewayFault}
use Rattle.gateway_core.specs.Gateway.{is_passed}
use Rattle.exchange_model.specs.Exchange.{plain}
use Rattle.exchange_model.specs.Prefix.{IsPrefixOf}
use Rattle.link_mails.specs.Body.{Body}
use Rattle.mailbox_mail.specs.Mail.{error_of}
use Rattle.mailbox_mail.specs.declared.mail.Mail.{Mail}
use Rattle.object_dictionary.specs.declared.service.SdoService.{SdoService}
use Rattle.object_dictionary.specs.declared.service.SdoService.TheVariants as Sdo
use Rattle.run_book.specs.declared.book.Answer.{Answer}
use Rattle.run_book.specs.declared.book.Answer.TheVariants.{Replied, InDoubt, NotSent}
use Rattle.run_book.specs.declared.book.Book.{Book}
use Rattle.run_book.specs.declared.book.GramIn.{GramIn}
use Rattle.run_book.specs.declared.book.GramOut.{GramOut}
use Rattle.run_book.specs.declared.book.SlaveBook.{SlaveBook}
use Rattle.segment_plan.specs.declared.plan.Scenario.{Scenario}
use Rattle.segment_plan.specs.declared.service.Service as Plan
use Rattle.segment_plan.specs.declared.service.Service.TheVariants as Asked
use Rattle.segment_plan.specs.declared.slave.SlaveSpec.{SlaveSpec}
use Rattle.protocol_models.specs.SoeServer as Soe
use Rattle.slave_model.specs.Product.{emission, serve}
use Rattle.slave_parts.specs.Parts.{Server, parts}
use Rattle.slave_server.specs.Spec.{core_of, profile_of}
use Rattle.promise.specs.Application.{App, in_any_state}
use Rattle.promise.specs.First.{first_app, script_for}
use Rattle.promise.specs.Headline.{EachSlave, HasFrames, budget_of, packets_for, since}
use Rattle.promise.specs.Ports.{HasHost}
use Rattle.promise.specs.Replay.{app_held, nodes_behind}
use Rattle.promise.specs.Rows.{AreFrom, NeverFall, mail_number, numbers_by, of_next, packet_number, part_of, returns, script_number}
use Rattle.promise.specs.Visits.{IsGivenUp}
use Rattle.arrayvec.specs.ArrayVec.{ArrayVec}
use Rattle.ec_outside.specs.declared.port.Peer.{Peer}
use Rattle.master_node.specs.declared.event.Origin.{Origin}
use Rattle.master_node.specs.declared.event.Origin.TheVariants.{Script, Forward, Gateway}
use Rattle.run_book.specs.declared.book.Begun.{Begun}
use Rattle.run_book.specs.declared.book.Epoch.{Epoch}
use Rattle.run_book.specs.declared.book.Ending.{Ending}
use Rattle.run_book.specs.declared.book.Ending.TheVariants as endings
use Rattle.slave_server.specs.Serving.{fresh}
use Rattle.promise.specs.Meaning.{Meant, carries_out, meaning_of, protocol_of}

-- ---- the server of a slave, in its AL state: with the unfinished transfers of who asked by mails
pub record Standing : Type 0 where
  pub server : Server
  pub al : ℕ

-- what its services act on
abbrev pub app_of : SlaveSpec → Standing → App
app_of s v = record (first_app s) {
  objects = v.server.app.app.objects;
  files = v.server.app.app.files;
  idns = v.server.app.app.idns;
  block = v.server.app.app.block;
  al = v.al;
  handled = v.server.handled;
}

-- a packet that is sent takes a frame number
abbrev pub number_behind : ℕ → Option Emission → ℕ
number_behind number (Some (packet octets)) = (number + 1) % 16
number_behind number sent = number

-- the server with another application, and what was sent of itself
abbrev pub with_meant : Standing → Meant → Standing
with_meant v m = record {
  server = record v.server {
    app = record { app = record { objects = m.app.objects; files = m.app.files; idns = m.app.idns; block = m.app.block }; frame = number_behind v.server.app.frame m.emission };
    handled = m.app.handled;
  };
  al = m.app.al;
}

-- ---- services of a script and packets: whole, each ends the unfinished transfer of its protocol, but information ends none

-- a service of CoE
abbrev pub sdo_ended : SdoService → Server → Server
sdo_ended (Sdo.Download index sub bytes) v = record v { sdo = Coe.idle }
sdo_ended (Sdo.Upload index sub) v = record v { sdo = Coe.idle }
sdo_ended (Sdo.DownloadAll index from bytes) v = record v { sdo = Coe.idle }
sdo_ended (Sdo.UploadAll index from) v = record v { sdo = Coe.idle }
sdo_ended information v = v

-- any service that is carried out
abbrev pub transfers_ended : Plan.Service → Server → Server
transfers_ended (Asked.Sdo q) v = sdo_ended q v
transfers_ended (Asked.ReadFile name pass) v = record v { file = Foe.idle }
transfers_ended (Asked.WriteFile name pass bytes) v = record v { file = Foe.idle }
transfers_ended (Asked.ReadIdn drive idn elements) v = record v { join = None }
transfers_ended (Asked.WriteIdn drive idn elements bytes) v = record v { join = None }
transfers_ended (Asked.Forward p) v = record v { packet = None }
transfers_ended service v = v

-- octets behind those of a write of the same drive and elements, where it is under way
abbrev pub with_join : ℕ → ℕ → ℕ → List ℕ → Option Soe.Join → Plan.Service
with_join drive idn elements bytes None = Asked.WriteIdn drive idn elements bytes
with_join drive idn elements bytes (Some j) =
    Asked.WriteIdn drive idn elements (if j.opcode == 3 && (j.drive == drive && j.elements == elements) then j.octets ++ bytes else bytes)

-- a written IDN takes up what was joined for the same drive and elements
abbrev pub joined_for : Server → Plan.Service → Plan.Service
joined_for v (Asked.WriteIdn drive idn elements bytes) = with_join drive idn elements bytes v.join
joined_for v service = service

-- what a service means at a server
abbrev pub meant_at : SlaveSpec → Standing → Plan.Service → Meant
meant_at s v service = meaning_of (app_of s v) (joined_for v.server service)

-- the server behind it
abbrev pub behind_own : SlaveSpec → Standing → Plan.Service → Standing
behind_own s v service =
    let w = with_meant v (meant_at s v service) in
    if carries_out (app_of s v) (protocol_of service) then record w { server = transfers_ended service w.server } else w

-- ---- rows: of the script, of packets, and of mails that were passed on, each with the number of its datagram
pub data Deed : Type 0 where
  Own : Plan.Service → Deed
  Passed : ℕ → Mail → Deed

-- the server behind a row; a mail that is passed on acts by the server's one step
abbrev pub behind : SlaveSpec → Standing → Deed → Standing
behind s v (Deed.Own service) = behind_own s v service
behind s v (Deed.Passed number mail) = record v { server = (serve parts (profile_of s) v.al v.server (Ok mail)).0 }

-- behind rows
abbrev pub behind_all : SlaveSpec → Standing → List Deed → Standing
behind_all s v [] = v
behind_all s v (d ∷ ds) = behind_all s (behind s v d) ds

-- mails that read, as they are told
abbrev pub told : List Body → List Mail
told [] = []
told (Ok m ∷ bs) = record m { address = 0; counter = 0 } ∷ told bs
told (Err fault ∷ bs) = told bs

-- THE REPLIES OF A STEP for a mail, without what the slave sends of itself
abbrev pub replies_to : SlaveSpec → Standing → Mail → List Mail
replies_to s v mail = told (plain emission (serve parts (profile_of s) v.al v.server (Ok mail)).1)

-- ---- datagrams

-- those sent for a datagram, in order
abbrev pub sent_for : ℕ → List GramOut → List GramOut
sent_for number out = filter (λ (o : GramOut). o.gram == number) out

-- these mails, each to who asked: with his station and counter
abbrev pub to_asker : GramIn → Mail → List Mail → List GramOut → Type 0
to_asker g asked [] out = out ≡ []
to_asker g asked (m ∷ ms) [] = ⊥
to_asker g asked (m ∷ ms) (o ∷ os) = (o.peer ≡ g.peer) × (o.bytes ≡ gram_text (record m { address = asked.address; counter = asked.counter })) × to_asker g asked ms os

-- the first of these mails, and all of them where it is done
pub record AreSent (g : GramIn) (asked : Mail) (mails : List Mail) (done : Type 0) (out : List GramOut) : Type 0 where
  pub those : List Mail
  pub sent : to_asker g asked those out
  pub first : IsPrefixOf those mails
  pub all : done → those ≡ mails

-- a slave is given up for good before so many frames
abbrev pub IsGone : SlaveBook → ℕ → Type 0
IsGone row frames = (at : ℕ) × (row.given_up ≡ Some at) × (at < frames)

-- the slave at a place has this station
abbrev pub HasStation : Scenario → ℕ → ℕ → SlaveSpec → Type 0
HasStation plan place station s = (slice_get plan.slaves place ≡ Some s) × (s.station ≡ station)

-- WHY A MAIL IS REFUSED: 5 where no slave of its station is there, or it is given up for good; 2 where its protocol isn't passed on; 8 where it is too long
pub data IsRefused (plan : Scenario) (book : Book) (asked : Mail) (frames : ℕ) : ℕ → Type 0 where
  absent : ((place : ℕ) (s : SlaveSpec) (row : SlaveBook) → HasStation plan place asked.address s → slice_get book.slaves place ≡ Some row → IsGone row frames) → IsRefused plan book asked frames 5
  foreign : is_passed asked.kind ≡ false → IsRefused plan book asked frames 2
  long : (place : ℕ) (s : SlaveSpec) → HasStation plan place asked.address s → s.out_len < 6 + length asked.body.items → IsRefused plan book asked frames 8

-- WHERE A DATAGRAM GOES, and what is sent of one that isn't passed on: nothing of one that is no request, one error of one that is refused
pub data GoesSo (plan : Scenario) (book : Book) (g : GramIn) (out : List GramOut) : Type 0 where
  ignored : (fault : GatewayFault) → request_in g.bytes ≡ Err fault → g.queued ≡ None → out ≡ [] → GoesSo plan book g out
  refused : (asked : Mail) (detail : ℕ) → request_in g.bytes ≡ Ok asked → IsRefused plan book asked g.frame detail → g.queued ≡ None →
      AreSent g asked (error_of detail ∷ []) ⊥ out → GoesSo plan book g out
  queued : (asked : Mail) (place : ℕ) (s : SlaveSpec) → request_in g.bytes ≡ Ok asked → HasStation plan place asked.address s → is_passed asked.kind ≡ true →
      6 + length asked.body.items ≤ s.out_len → g.queued ≡ Some place → GoesSo plan book g out

-- a row of a serving
pub record ServedRow : Type 0 where
  pub deed : Deed
  pub frame : ℕ
  pub answer : Answer

-- the deeds of rows
abbrev pub deeds_of : List ServedRow → List Deed
deeds_of rs = map (λ r. r.deed) rs

-- its answer is there
abbrev pub IsAnswered : Answer → Type 0
IsAnswered (Replied reply frame) = ⊤
IsAnswered InDoubt = ⊥
IsAnswered NotSent = ⊥

-- the answer of a service is that of its meaning
abbrev pub AnswerIs : Meant → Answer → Type 0
AnswerIs m (Replied reply frame) = (reply.kind, reply.value) ≡ m.reply
AnswerIs m InDoubt = ⊤
AnswerIs m NotSent = ⊥

-- WHAT A ROW GAVE: a service the answer of its meaning; a mail that was passed on the replies of its one step, all of them where it is done
abbrev pub GaveSo : SlaveSpec → Standing → Book → ServedRow → Deed → Type 0
GaveSo s v book r (Deed.Own service) = AnswerIs (meant_at s v service) r.answer
GaveSo s v book r (Deed.Passed number mail) =
    (g : GramIn) (asked : Mail) → slice_get book.grams number ≡ Some g → request_in g.bytes ≡ Ok asked →
    (mail.kind ≡ asked.kind) × (mail.body ≡ asked.body) × (g.frame ≤ r.frame) × AreSent g asked (replies_to s v mail) (IsAnswered r.answer) (sent_for number book.replies)

-- row by row
abbrev pub AllGave : SlaveSpec → Standing → Book → List ServedRow → Type 0
AllGave s v book [] = ⊤
AllGave s v book (r ∷ rs) = GaveSo s v book r r.deed × AllGave s (behind s v r.deed) book rs

-- AN EPOCH OF A SERVING FITS, from this server on and with that application behind it: the slave has carried out the first `count` of its rows
pub record ServedFits (s : SlaveSpec) (book : Book) (from : Standing) (to : App) (count : ℕ) (rows : List ServedRow) : Type 0 where
  pub within : count ≤ length rows
  pub behind_two : length rows ≤ count + 2
  pub app : in_any_state (app_of s (behind_all s from (take count (deeds_of rows)))) ≡ in_any_state to
  pub gave : AllGave s from book rows

-- the first mail of error 5 for a datagram whose slave was given up before its mail came into hand
abbrev pub IsDropped : GramIn → Mail → SlaveBook → List GramOut → Type 0
IsDropped g asked row out = ((at : ℕ) × (g.frame ≤ at) × ((k : ℕ) × (slice_get row.gave k ≡ Some at))) × AreSent g asked (error_of 5 ∷ []) ⊥ out

-- ---- a slave in the book of a serving

-- what is there
abbrev pub listed : {X : Type 0} → Option X → List X
listed None = []
listed (Some x) = x ∷ []

-- the mail that a datagram asks
abbrev pub asked_by : ℕ → Result Mail GatewayFault → List Deed
asked_by number (Ok mail) = Deed.Passed number mail ∷ []
asked_by number (Err fault) = []

-- of a datagram that was heard
abbrev pub mail_of : ℕ → Option GramIn → List Deed
mail_of number None = []
mail_of number (Some g) = asked_by number (request_in g.bytes)

-- a row by its origin: of the script, of a packet, or of a mail that a datagram asks
abbrev pub deed_of : List Plan.Service → List (ArrayVec ℕ) → List GramIn → Origin → List Deed
deed_of script packets grams (Script k) = map (λ q. Deed.Own q) (listed (slice_get script k))
deed_of script packets grams (Forward k) = map (λ p. Deed.Own (Asked.Forward p)) (listed (slice_get packets k))
deed_of script packets grams (Gateway k) = mail_of k (slice_get grams k)

-- its rows
abbrev pub served_rows : List Plan.Service → List (ArrayVec ℕ) → List GramIn → List Begun → List Answer → List ServedRow
served_rows script packets grams [] answers = []
served_rows script packets grams (b ∷ bs) [] = []
served_rows script packets grams (b ∷ bs) (a ∷ answers) = map (λ d. record { deed = d; frame = b.frame; answer = a }) (deed_of script packets grams b.origin) ++ served_rows script packets grams bs answers

-- a row that returns its slave to Init
abbrev pub returns_by : Deed → Bool
returns_by (Deed.Own service) = returns service
returns_by (Deed.Passed number mail) = false

-- the first row did, before that was seen
abbrev pub opens_by : Option ℕ → List ServedRow → Bool
opens_by None rs = false
opens_by (Some cleared) [] = false
opens_by (Some cleared) (r ∷ rs) = returns_by r.deed && nat_lt r.frame cleared

-- a server as an epoch begins: all transfers are gone, and where no state service opened it, the slave is in the state in which it is brought up
abbrev pub begins : SlaveSpec → Epoch → List ServedRow → Standing → Standing
begins s e rs v = record { server = record (fresh v.server.app.app) { handled = v.server.handled }; al = if opens_by e.cleared rs then v.al else s.start }

-- how many frames an epoch before these has
abbrev pub until : Book → List Epoch → ℕ
until book [] = length book.frames
until book (e ∷ es) = since (length book.frames) e.cleared

-- EPOCH BY EPOCH, each from the server that the one before has left, by what the slave holds behind so many frames
abbrev pub ServedEpochs : SlaveSpec → Book → (ℕ → App) → Standing → List ServedRow → List Epoch → List ℕ → Type 0
ServedEpochs s book held v rs [] counts = ⊤
ServedEpochs s book held v rs (e ∷ es) [] = ⊥
ServedEpochs s book held v rs (e ∷ es) (count ∷ counts) =
    let part = part_of e.row (of_next (λ (n : Epoch). n.row) es) rs in
    let from = begins s e part v in
    ServedFits s book from (held (until book es)) count part × ServedEpochs s book held (behind_all s from (take count (deeds_of part))) rs es counts

-- the rows of mails are those of datagrams that were queued at the slave, in order
abbrev pub IsQueuedAt : Book → ℕ → ℕ → Type 0
IsQueuedAt book place number = (g : GramIn) × (slice_get book.grams number ≡ Some g) × (g.queued ≡ Some place)

-- numbers that rise
abbrev pub Rise : ℕ → List ℕ → Type 0
Rise low [] = ⊤
Rise low (n ∷ ns) = (low ≤ n) × Rise (suc n) ns

-- the server before any service
abbrev pub first_standing : SlaveSpec → Standing
first_standing s = record { server = fresh (core_of s); al = s.start }

-- this number is one of these
abbrev pub is_among : ℕ → List ℕ → Bool
is_among n [] = false
is_among n (k ∷ ks) = k == n || is_among n ks

-- begun in order, as in a run, but for the mails between
pub record AreBegunBeside (script : List Plan.Service) (packets : List (ArrayVec ℕ)) (frames : ℕ) (row : SlaveBook) : Type 0 where
  pub scripts : AreFrom 0 (numbers_by script_number row.begun)
  pub forwards : AreFrom 0 (numbers_by packet_number row.begun)
  pub rise : NeverFall 0 frames (map (λ (b : Begun). b.frame) row.begun)
  pub unsent : drop (length row.begun) row.answers ≡ replicate (length script - length (numbers_by script_number row.begun)) NotSent

-- WHAT A SERVING PROMISES OF A SLAVE at its place
pub record KeepsServed (plan : Scenario) (book : Book) (place : ℕ) (s : SlaveSpec) (row : SlaveBook) : Type 0 where
  pub begun : AreBegunBeside (script_for place plan.services) (packets_for plan book place) (length book.frames) row
  pub mails : Rise 0 (numbers_by mail_number row.begun) × All (IsQueuedAt book place) (numbers_by mail_number row.begun)
  pub counts : List ℕ
  pub epochs : ServedEpochs s book (app_held plan book.frames place s) (first_standing s) (served_rows (script_for place plan.services) (packets_for plan book place) book.grams row.begun row.answers) row.epochs counts
  pub given_up : IsGivenUp plan book.frames s row
  pub node : slice_get (nodes_behind plan book.frames (length book.frames)) place ≡ Some row.node

-- A DATAGRAM THAT WAS QUEUED at a slave has a row there; or nothing was sent of it, while it waits; or error 5, where its slave was given up before
abbrev pub IsSettled : Book → ℕ → GramIn → Type 0
IsSettled book number g =
    (place : ℕ) (row : SlaveBook) (asked : Mail) → g.queued ≡ Some place → slice_get book.slaves place ≡ Some row → request_in g.bytes ≡ Ok asked →
    (is_among number (numbers_by mail_number row.begun) ≡ true) ⊎ ((sent_for number book.replies ≡ []) ⊎ IsDropped g asked row (sent_for number book.replies))

-- all that were heard are over: each that was queued began, and its row has its answer where that is of the newest epoch of a slave that wasn't given up; or its
-- slave was given up before it began, and it has error 5
abbrev pub AllOver : Scenario → Book → Type 0
AllOver plan book =
    (number : ℕ) (g : GramIn) (place : ℕ) (row : SlaveBook) (asked : Mail) → slice_get book.grams number ≡ Some g → g.queued ≡ Some place → slice_get book.slaves place ≡ Some row →
    request_in g.bytes ≡ Ok asked →
    (is_among number (numbers_by mail_number row.begun) ≡ true) ⊎ IsDropped g asked row (sent_for number book.replies)

-- HOW IT ENDED: nothing was left to do, and so many datagrams were heard or the port was over; or the budget was spent; or the port failed
abbrev pub ServedEnds : Scenario → ℕ → Type 0 → Type 0 → Book → Ending → Type 0
ServedEnds plan count over faulted book endings.Done = ((length book.grams ≡ count) ⊎ over) × AllOver plan book × EachSlave plan book (λ place s row. row.gave ≡ [])
ServedEnds plan count over faulted book endings.GivenUp = ((length book.grams ≡ count) ⊎ over) × AllOver plan book
ServedEnds plan count over faulted book endings.BudgetSpent = length book.frames ≡ budget_of plan count
ServedEnds plan count over faulted book endings.PortFault = faulted
ServedEnds plan count over faulted book endings.NoMemory = ⊤
ServedEnds plan count over faulted book endings.Unfinished = ⊥

-- a datagram that was heard, and one that was sent
pub record Gram : Type 0 where
  pub peer : Peer
  pub bytes : List ℕ

-- those of a book
abbrev pub heard_as : GramIn → Gram
heard_as g = record { peer = g.peer; bytes = g.bytes }

-- and those that it sent
abbrev pub sent_as : GramOut → Gram
sent_as o = record { peer = o.peer; bytes = o.bytes }

-- ALL THAT A SERVING PROMISES that heard these datagrams and sent those, unless memory runs out; its port was over, or its count of faults rose
pub record Served (plan : Scenario) (count : ℕ) (heard sent : List Gram) (over faulted : Type 0) (book : Book) : Type 0 where
  pub frames : HasFrames plan count book
  pub heard_are : map heard_as book.grams ≡ heard
  pub sent_are : map sent_as book.replies ≡ sent
  pub few : length heard ≤ count
  pub rise : NeverFall 0 (length book.frames) (map (λ (g : GramIn). g.frame) book.grams)
  pub goes : (number : ℕ) (g : GramIn) → slice_get book.grams number ≡ Some g → GoesSo plan book g (sent_for number book.replies) × IsSettled book number g
  pub slaves : EachSlave plan book (KeepsServed plan book)
  pub host : HasHost plan book
  pub ends : ServedEnds plan count over faulted book book.ending
