-- WHAT THE SLAVES OF A SERVING DID, epoch by epoch, of the rows that came into hand of them: services of the script, packets, and mails that were passed on.
use Rattle.std.specs.Prelude.{◌≡◌, ◌≢◌, ℕ, suc, ◌+◌, ◌<◌, ◌≤◌, Bool, true, false, Option, None, Some, Ok, List, [], ◌∷◌, ◌++◌, drop, length, take, ⊤}
use Rattle.run_work.specs.of_protocol_models.EoeClient as EoeClient
use Rattle.served_places.specs.of_exchange_model.Exchange.{emitted, plain}
use Rattle.served_places.specs.of_exchange_model.Prefix.{IsPrefixOf}
use Rattle.served_places.specs.of_exchange_model.Rows.{Row, heard_all}
use Rattle.run_work.specs.of_frames_seen.Slaves.{registers_seen}
use Rattle.served_places.specs.of_life_model.Lives.{Era, Life, Stand}
use Rattle.served_places.specs.of_link_mails.Body.{Body}
use Rattle.run_work.specs.of_mailbox_mail.declared.mail.Mail.{Mail}
use Rattle.run_work.specs.of_master_duty.Reply.{Reply}
use Rattle.run_work.specs.of_master_hand.Spoken.{Asked, emission, net, passed}
use Rattle.served_rings.specs.Speakers.{cleared_whole, spoken, table_of}
use Rattle.run_work.specs.Lives.{first_server}
use Rattle.served_places.specs.of_segment_model.Ends.{Passing}
use Rattle.served_places.specs.of_segment_model.Laws.{WantsNothing}
use Rattle.served_places.specs.of_segment_model.Seats.{rows_of}
use Rattle.run_work.specs.of_segment_plan.declared.slave.SlaveSpec.{SlaveSpec}
use Rattle.served_places.specs.of_life_runs.Served.{Serves}
use Rattle.run_work.specs.of_slave_model.Profile.{Profile}
use Rattle.run_work.specs.of_slave_parts.Parts.{Server}
use Rattle.run_work.specs.of_slave_server.Serving.{Serving, next_mail}
use Rattle.run_work.specs.of_slave_server.Spec.{profile_of}
use Rattle.run_work.specs.of_slave_node.Node.{Node, is_settled}
use Rattle.served_places.specs.of_state_model.Families.{InState}
use Rattle.served_places.specs.of_state_model.Stated.{Service}
use Rattle.served_places.specs.of_state_model.Promises.{answer_of, state_behind}
use Rattle.served_places.specs.of_state_model.Accounts.{Change}
use Rattle.served_places.specs.of_state_model.Promise.{services_in}

-- nothing came into hand of an epoch
pub record NothingCame (e : Era Body Asked Reply) : Type 0 where
  pub started : e.account.started ≡ []
  pub rows : rows_of e.side ≡ []

-- a packet
abbrev pub IsPacket : Service Asked → Type 0
IsPacket (Service.Mails (net (EoeClient.packet octets frame))) = ⊤
IsPacket _ = ⊥

-- A NODE HOLDS what a server has of objects, files, IDNs and addresses, and the number of services that it counts
pub record Holds (v : InState Server) (n : Node Serving) : Type 0 where
  pub app : n.server.server.app.app ≡ v.inner.app.app
  pub handled : n.server.server.handled ≡ v.inner.handled

module _ (p : Profile) (boot : Bool) (station : ℕ) where
  -- THE SERVER BEHIND ROWS, one after the other: a service acts by its meaning and ends the unfinished transfer of its protocol, a mail that was passed on acts by
  -- the one step that the server takes for it, and a change of the AL state by the slave's table
  abbrev pub server_behind : InState Server → List (Service Asked) → InState Server
  server_behind v [] = v
  server_behind v (Service.Mails q ∷ qs) = server_behind ((spoken p).exec v q) qs
  server_behind v (Service.State target ∷ qs) = server_behind (record v { state = state_behind (table_of boot station) v.state target }) qs

  -- THE REPLIES OF THE SERVER'S ONE STEP for a mail, in order, without what it sends of itself
  abbrev pub replies_to : InState Server → Mail → List Body
  replies_to v m = plain emission ((spoken p).serve v (Ok m)).1

  -- OF A MAIL that is passed on to this server: what was heard for it are the first of those replies, and all of them where it is over
  pub record IsHeardOf (v : InState Server) (m : Mail) (passing : Option Passing) (r : Row Body Asked Reply) : Type 0 where
    pub begin : IsPrefixOf (plain emission r.heard) (replies_to v m)
    pub all : passing ≡ None → plain emission r.heard ≡ replies_to v m

  -- a service that others came into hand behind is over, and how far the newest has come is told
  abbrev pub passing_before : List (Service Asked) → Option Passing → Option Passing
  passing_before [] passing = passing
  passing_before (q ∷ qs) passing = None

  -- ONE ROW: it is of this service, and where that passes a mail on it heard just the replies of this server's step
  abbrev pub IsHeardOne : InState Server → Asked → Option Passing → Row Body Asked Reply → Type 0
  IsHeardOne v q passing r = (r.service ≡ q) × ((m : Mail) → q ≡ passed m → IsHeardOf v m passing r)

  -- ALL ROWS of services that came into hand, of which the newest has come so far: those by mails have one each, in order, and the server of a row is the one
  -- behind the services before it
  abbrev pub AllHeard : Option Passing → InState Server → List (Service Asked) → List (Row Body Asked Reply) → Type 0
  AllHeard passing v [] [] = ⊤
  AllHeard passing v (Service.Mails q ∷ qs) (r ∷ rs) = IsHeardOne v q (passing_before qs passing) r × AllHeard passing ((spoken p).exec v q) qs rs
  AllHeard passing v (Service.State target ∷ qs) rs = AllHeard passing (record v { state = state_behind (table_of boot station) v.state target }) qs rs
  AllHeard passing v _ _ = ⊥

  -- of an epoch
  abbrev pub IsHeardSo : InState Server → Era Body Asked Reply → Type 0
  IsHeardSo from e = AllHeard e.passing from (services_in e.account.started) (rows_of e.side)

  -- ONE ANSWER: a service by mails that has its answer, and is no packet and no mail passed on, is among the first so many rows, and has the reply of this server
  abbrev pub IsReplyOf : ℕ → ℕ → InState Server → Asked → Row Body Asked Reply → Type 0
  IsReplyOf count number v q r =
      (r.service ≡ q) × ((spoken p).speech.handed q ≡ false → (reply : Reply) (frame : ℕ) → r.answer ≡ Some (reply, frame) → (reply ≡ (spoken p).reply v q) × (number < count))

  -- EACH ANSWER of these services, the first of which has this number, is its server's own: of one by mails the reply of the server behind those before it, of a
  -- change of the AL state that is over what its table gives; and each that has one is among the first so many
  abbrev pub AreReplies : ℕ → ℕ → InState Server → List (Service Asked) → List (Row Body Asked Reply) → List (Change Reply) → Type 0
  AreReplies count number v [] [] [] = ⊤
  AreReplies count number v (Service.Mails q ∷ qs) (r ∷ rs) cs = IsReplyOf count number v q r × AreReplies count (suc number) ((spoken p).exec v q) qs rs cs
  AreReplies count number v (Service.State target ∷ qs) rs [] = AreReplies count (suc number) (record v { state = state_behind (table_of boot station) v.state target }) qs rs []
  AreReplies count number v (Service.State target ∷ qs) rs (c ∷ cs) =
      (c.target ≡ target) × (c.answer ≡ answer_of (table_of boot station v.state target)) × (number < count)
      × AreReplies count (suc number) (record v { state = state_behind (table_of boot station) v.state target }) qs rs cs
  AreReplies count number v _ _ _ = ⊥

  -- OF A MAIL that was passed on: it is among the first so many rows where it is over, and where a reply to it was heard
  pub record IsTakenOf (count number : ℕ) (passing : Option Passing) (r : Row Body Asked Reply) : Type 0 where
    pub over : passing ≡ None → number < count
    pub replied : plain emission r.heard ≢ [] → number < count

  -- one row, where its service passes a mail on
  abbrev pub IsTakenOne : ℕ → ℕ → Asked → Option Passing → Row Body Asked Reply → Type 0
  IsTakenOne count number q passing r = (m : Mail) → q ≡ passed m → IsTakenOf count number passing r

  -- EACH MAIL that was passed on among these services, the first of which has this number, and the newest of which has come so far
  abbrev pub AllTaken : ℕ → ℕ → Option Passing → List (Service Asked) → List (Row Body Asked Reply) → Type 0
  AllTaken count number passing [] [] = ⊤
  AllTaken count number passing (Service.Mails q ∷ qs) (r ∷ rs) = IsTakenOne count number q (passing_before qs passing) r × AllTaken count (suc number) passing qs rs
  AllTaken count number passing (Service.State target ∷ qs) rs = AllTaken count (suc number) passing qs rs
  AllTaken count number passing _ _ = ⊥

  -- what rows emit, one after the other: of a mail that was passed on what the server sends of itself in its one step
  abbrev pub emitted_behind : InState Server → List (Service Asked) → List Body
  emitted_behind v [] = []
  emitted_behind v (Service.Mails q ∷ qs) = (spoken p).emits v q ++ emitted_behind ((spoken p).exec v q) qs
  emitted_behind v (Service.State target ∷ qs) = emitted_behind (record v { state = state_behind (table_of boot station) v.state target }) qs

  -- AN EPOCH, from this server: its slave carried out just the first so many of its rows, each once and in order; its objects, files, IDNs and addresses, its AL
  -- state and the number of services that it counts are those of the server behind these rows; at most the two newest rows aren't among them, of which the older
  -- is a packet; each answer is its server's own, of a row carried out, and each mail that was passed on and is over, or has a reply, is carried out; what was
  -- heard that it sent of itself are the first mails that those rows emit; and where there is a row, there is a newest
  pub record IsServedEra (from : InState Server) (e : Era Body Asked Reply) (left done : InState Server) : Type 0 where
    pub count : ℕ
    pub prefix : count ≤ length e.account.started
    pub behind : length e.account.started ≤ count + 2
    pub packet : (older newest : Service Asked) → drop count (services_in e.account.started) ≡ older ∷ newest ∷ [] → IsPacket older
    pub done_is : done ≡ server_behind from (take count (services_in e.account.started))
    pub app : left.inner.app.app ≡ done.inner.app.app
    pub handled : left.inner.handled ≡ done.inner.handled
    pub state : left.state ≡ done.state
    pub heard : IsHeardSo from e
    pub replies : AreReplies count 0 from (services_in e.account.started) (rows_of e.side) e.account.over
    pub taken : AllTaken count 0 e.passing (services_in e.account.started) (rows_of e.side)
    pub emissions : IsPrefixOf (emitted emission (heard_all (rows_of e.side))) (emitted_behind from (take count (services_in e.account.started)))
    pub newest : e.side.now ≡ None → e.side.past ≡ []

  -- one that was opened: it began with this server, in the AL state of the epoch, in the first that of the plan, and its slave left that one
  pub record WasServed (start : ℕ) (from : InState Server) (e : Era Body Asked Reply) (left done : InState Server) : Type 0 where
    pub state : ℕ
    pub first : e.cleared ≡ None → state ≡ start
    pub in_state : state ≡ e.state
    pub era : IsServedEra (record from { state = state }) e left done

  -- ALL EPOCHS THAT ARE OVER: each begins with what the one before carried out, cleared, and so does one behind an epoch that was never opened
  pub data AreServedEras (start : ℕ) (first : InState Server) : List (Era Body Asked Reply) → InState Server → Type 0 where
    none : AreServedEras start first [] first
    unopened : (es : List (Era Body Asked Reply)) (b : InState Server) (e : Era Body Asked Reply) → AreServedEras start first es b → NothingCame e → AreServedEras start first (es ++ e ∷ []) (cleared_whole b)
    opened : (es : List (Era Body Asked Reply)) (b : InState Server) (e : Era Body Asked Reply) (left done : InState Server) → AreServedEras start first es b → WasServed start b e left done → AreServedEras start first (es ++ e ∷ []) (cleared_whole done)

  -- a service by mails that has a reply has the one of this server
  abbrev pub IsReplied : InState Server → Asked → Row Body Asked Reply → Type 0
  IsReplied v q r = (r.service ≡ q) × ((spoken p).speech.handed q ≡ false → (frame : ℕ) × (r.answer ≡ Some ((spoken p).reply v q, frame)))

  -- EACH SERVICE HAS ITS ANSWER, from a server on: one by mails the reply of the server behind those before it, and a change of the AL state that of its table
  abbrev pub AreAnswered : InState Server → List (Service Asked) → List (Row Body Asked Reply) → List (Change Reply) → Type 0
  AreAnswered v [] [] [] = ⊤
  AreAnswered v (Service.Mails q ∷ qs) (r ∷ rs) cs = IsReplied v q r × AreAnswered ((spoken p).exec v q) qs rs cs
  AreAnswered v (Service.State target ∷ qs) rs (c ∷ cs) =
      (c.target ≡ target) × (c.answer ≡ answer_of (table_of boot station v.state target)) × AreAnswered (record v { state = state_behind (table_of boot station) v.state target }) qs rs cs
  AreAnswered v _ _ _ = ⊥

  -- NOTHING IS LEFT of an epoch that began with this server: all its rows are carried out, each once and in order, and answered; and all that they emit was heard
  pub record NothingLeft (from : InState Server) (e : Era Body Asked Reply) (done : InState Server) : Type 0 where
    pub all : done ≡ server_behind from (services_in e.account.started)
    pub answered : AreAnswered from (services_in e.account.started) (rows_of e.side) e.account.over
    pub emissions : emitted emission (heard_all (rows_of e.side)) ≡ emitted_behind from (services_in e.account.started)

  -- so it is where the slave is settled, and the master wants nothing of it and passes no mail on to it
  abbrev pub RestsIf : InState Server → Era Body Asked Reply → InState Server → Node Serving → Type 0
  RestsIf from e done n = is_settled next_mail n ≡ true → WantsNothing (spoken p).speech e.side → e.account.hand ≡ None → e.passing ≡ None → NothingLeft from e done

  -- THE NEWEST: it is open, and what its slave left is what the node has, its AL state among it; or nothing began in it, and the node holds what the epochs before
  -- left; or it is over, and the node holds what was carried out of it
  pub data IsServedNewest (start : ℕ) (from : InState Server) (e : Era Body Asked Reply) (n : Node Serving) : Stand → Type 0 where
    lives : (left done : InState Server) → left.inner ≡ n.server.server → left.state ≡ (registers_seen n.registers).state →
        (was : WasServed start from e left done) → RestsIf (record from { state = was.state }) e done n → IsServedNewest start from e n Stand.Open
    unopened : (stand : Stand) → stand ≢ Stand.Open → NothingCame e → Holds from n → IsServedNewest start from e n stand
    over : (stand : Stand) → stand ≢ Stand.Open → (left done : InState Server) → WasServed start from e left done → Holds done n → IsServedNewest start from e n stand

  -- THE WHOLE LIFE of a slave with this node, from the server with which it was switched on
  pub record IsServedLife (start : ℕ) (first : InState Server) (l : Life Body Asked Reply) (n : Node Serving) : Type 0 where
    pub from : InState Server
    pub past : AreServedEras start first l.past from
    pub newest : IsServedNewest start from l.era n l.stand

-- OF EACH SLAVE of a plan, as its master leads it, with its node
abbrev pub AllServeSo : List SlaveSpec → List Serves → List (Node Serving) → Type 0
AllServeSo [] [] [] = ⊤
AllServeSo (s ∷ ss) (w ∷ ws) (n ∷ ns) = IsServedLife (profile_of s) s.boot s.station s.start (first_server s) w.lead.lived.life n × AllServeSo ss ws ns
AllServeSo _ _ _ = ⊥
