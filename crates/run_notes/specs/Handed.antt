-- THE ANSWERS OF ROWS BESIDE THE SCRIPTS, of packets and of mails that are passed on: as they are noted, as a book has them, and what a frame leaves of them.
use Rattle.std.specs.Prelude.{◌≡◌, ◌≤◌, ◌+◌, ◌==◌, ◌&&◌, ℕ, Bool, true, false, if◌then◌else◌, Option, Some, None, List, [], ◌∷◌, ◌++◌, length, map, slice_get, ⊤}
use Rattle.run_frames.specs.of_mailbox_mail.declared.outcome.ReplyKind.{ReplyKind}
use Rattle.run_book.specs.of_master_node.declared.event.Event.{Event}
use Rattle.run_book.specs.of_master_node.declared.event.Origin.{Origin}
use Rattle.run_book.specs.of_master_node.declared.event.Origin.TheVariants.{Script, Forward, Gateway}
use Rattle.run_book.specs.declared.book.Answer.{Answer}
use Rattle.run_book.specs.declared.book.Answer.TheVariants.{Replied, InDoubt}
use Rattle.run_book.specs.declared.book.Begun.{Begun}
use Rattle.run_book.specs.declared.book.SlaveBook.{SlaveBook}
use Rattle.run_notes.specs.Notes.{answers_doubted, awaits_nothing}
use Rattle.run_notes.specs.Reports.{LastScript, unanswered}
use Rattle.run_notes.specs.declared.notes.Awaited.{Awaited}
use Rattle.run_notes.specs.declared.notes.Notes.{Notes}
use Rattle.run_notes.specs.declared.standing.Log.{Log}

-- the answer of a mail that is over with the return of this frame: it was handed on, with an empty value
abbrev pub handed : ℕ → Answer
handed frame = Replied (record { kind = ReplyKind.Handed; value = [] }) frame

-- by the frame with which it was over, if it was
abbrev pub over_answer : Option ℕ → Answer
over_answer None = InDoubt
over_answer (Some frame) = handed frame

-- the answer of a row of which this holds
abbrev pub answer_where : (Origin → Bool) → Origin → Answer → List Answer
answer_where test origin answer = if test origin then answer ∷ [] else []

-- THE ANSWERS OF SUCH ROWS among these, in order
abbrev pub answers_where : (Origin → Bool) → List Begun → List Answer → List Answer
answers_where test [] answers = []
answers_where test (b ∷ bs) [] = []
answers_where test (b ∷ bs) (a ∷ answers) = answer_where test b.origin a ++ answers_where test bs answers

-- a row is one of a mail that is passed on
abbrev pub is_mail : Origin → Bool
is_mail (Script number) = false
is_mail (Forward number) = false
is_mail (Gateway number) = true

-- or of a packet
abbrev pub is_packet : Origin → Bool
is_packet (Script number) = false
is_packet (Forward number) = true
is_packet (Gateway number) = false

-- this holds of rows beside the scripts alone
abbrev pub IsBeside : (Origin → Bool) → Type 0
IsBeside test = (number : ℕ) → test (Script number) ≡ false

-- the answer of a row, where that is one of a mail that is passed on
abbrev pub mail_answer : Origin → Answer → List Answer
mail_answer origin answer = answer_where is_mail origin answer

-- those of such rows
abbrev pub mail_answers : List Begun → List Answer → List Answer
mail_answers bs answers = answers_where is_mail bs answers

-- and of those of packets
abbrev pub packet_answers : List Begun → List Answer → List Answer
packet_answers bs answers = answers_where is_packet bs answers

-- OF EACH SLAVE THE MAILS PASSED ON HAVE JUST THESE ANSWERS IN A BOOK, in order: `Handed`, of the frame with which the mail was over, or in doubt where it wasn't
abbrev pub AreHanded : (ℕ → List (Option ℕ)) → List SlaveBook → Type 0
AreHanded overs rows = (k : ℕ) (row : SlaveBook) → slice_get rows k ≡ Some row → mail_answers row.begun row.answers ≡ map over_answer (overs k)

-- OF EACH SLAVE THE PACKETS HAVE JUST THESE, likewise: `Handed`, of the frame with whose return the last fragment was written, or in doubt where it wasn't
abbrev pub AreForwarded : (ℕ → List (Option ℕ)) → List SlaveBook → Type 0
AreForwarded overs rows = (k : ℕ) (row : SlaveBook) → slice_get rows k ≡ Some row → packet_answers row.begun row.answers ≡ map over_answer (overs k)

-- the answers of such rows that are noted; that of one in hand is in doubt
abbrev pub noted_where : (Origin → Bool) → Notes → List Answer
noted_where test n = answers_where test n.begun (answers_doubted n)

-- of mails that are passed on
abbrev pub mails_noted : Notes → List Answer
mails_noted n = noted_where is_mail n

-- the newest row is such a one
abbrev pub newest_where : (Origin → Bool) → List Begun → Bool
newest_where test [] = false
newest_where test (b ∷ []) = test b.origin
newest_where test (b ∷ c ∷ bs) = newest_where test (c ∷ bs)

-- of a mail that is passed on
abbrev pub newest_mail : List Begun → Bool
newest_mail bs = newest_where is_mail bs

-- the service in hand is such a one
abbrev pub has_where : (Origin → Bool) → Notes → Bool
has_where test n = n.in_hand && newest_where test n.begun

-- a mail that is passed on is in hand
abbrev pub has_mail : Notes → Bool
has_mail n = has_where is_mail n

-- WHAT IS NOTED of such rows of a slave goes with its life: just these answers, and whether one is in hand
pub record IsNotedWhere (test : Origin → Bool) (overs : List (Option ℕ)) (goes : Bool) (n : Notes) : Type 0 where
  pub answers : noted_where test n ≡ map over_answer overs
  pub hand : has_where test n ≡ goes

-- of all slaves
abbrev pub AllWhere : (Origin → Bool) → (ℕ → List (Option ℕ)) → (ℕ → Bool) → List Notes → Type 0
AllWhere test overs goes notes = (k : ℕ) (n : Notes) → slice_get notes k ≡ Some n → IsNotedWhere test (overs k) (goes k) n

-- of mails that are passed on
abbrev pub IsHanded : List (Option ℕ) → Bool → Notes → Type 0
IsHanded overs goes n = IsNotedWhere is_mail overs goes n

-- of all slaves
abbrev pub AllHanded : (ℕ → List (Option ℕ)) → (ℕ → Bool) → List Notes → Type 0
AllHanded overs goes notes = AllWhere is_mail overs goes notes

-- ---- what events leave of it

-- the answer that an event tells of its slave, if it does: its kind
abbrev pub kind_told : Event → List ReplyKind
kind_told (Event.Began slave origin) = []
kind_told (Event.Answered slave kind) = kind ∷ []
kind_told (Event.Emergency slave octets) = []
kind_told (Event.GatewayReply key mail) = []
kind_told (Event.GatewayDone key) = []
kind_told (Event.GivenUp slave) = []
kind_told (Event.Cleared slave own) = []
kind_told (Event.Opened slave) = []

-- the same of the slave at a place
abbrev pub kinds_of : ℕ → Event → List ReplyKind
kinds_of k (Event.Began slave origin) = []
kinds_of k (Event.Answered slave kind) = if slave == k then kind ∷ [] else []
kinds_of k (Event.Emergency slave octets) = []
kinds_of k (Event.GatewayReply key mail) = []
kinds_of k (Event.GatewayDone key) = []
kinds_of k (Event.GivenUp slave) = []
kinds_of k (Event.Cleared slave own) = []
kinds_of k (Event.Opened slave) = []

-- of all these
abbrev pub kinds_in : ℕ → List Event → List ReplyKind
kinds_in k [] = []
kinds_in k (e ∷ es) = kinds_of k e ++ kinds_in k es

-- the first of them, if there is one, is that a mail was handed
abbrev pub HandedFirst : List ReplyKind → Type 0
HandedFirst [] = ⊤
HandedFirst (kind ∷ kinds) = kind ≡ ReplyKind.Handed

-- the last of these is another
abbrev pub last_set : {X : Type 0} → X → List X → List X
last_set x [] = []
last_set x (y ∷ []) = x ∷ []
last_set x (y ∷ z ∷ ys) = y ∷ last_set x (z ∷ ys)

-- the answers of such rows behind what is told so, where one was in hand, or none
abbrev pub answers_told : ℕ → Bool → List ReplyKind → List Answer → List Answer
answers_told frame false kinds answers = answers
answers_told frame true [] answers = answers
answers_told frame true (kind ∷ kinds) answers = last_set (handed frame) answers

-- one is in hand then
abbrev pub still_there : Bool → List ReplyKind → Bool
still_there false kinds = false
still_there true [] = true
still_there true (kind ∷ kinds) = false

-- each service but the one in hand has an answer; and where one of the script is awaited that is the newest
pub record IsSound (begun : List Begun) (answers : List Answer) (in_hand : Bool) (awaited : Awaited) : Type 0 where
  pub aligned : length begun ≡ length answers + unanswered in_hand
  pub last : awaits_nothing awaited ≡ false → LastScript begun answers

-- by what is noted of a slave
abbrev pub Sound : Notes → Type 0
Sound n = IsSound n.begun n.answers n.in_hand n.awaited

-- WHAT IS LEFT OF SUCH ROWS behind these answers: the one in hand has the first of them; and it is in hand no more where its slave was given up
pub record RowsGo (test : Origin → Bool) (frame : ℕ) (kinds : List ReplyKind) (n n' : Notes) : Type 0 where
  pub sound : Sound n'
  pub answers : noted_where test n' ≡ answers_told frame (has_where test n) kinds (noted_where test n)
  pub hand : has_where test n' ≡ (still_there (has_where test n) kinds && length n'.gave == length n.gave)
  pub gave : length n.gave ≤ length n'.gave

-- of whatever rows beside the scripts, packets' or those of mails that are passed on, where the answers are of the one in hand
abbrev pub GoesBy : ℕ → List ReplyKind → Notes → Notes → Type 0
GoesBy frame kinds n n' = (test : Origin → Bool) → IsBeside test → Sound n → (has_where test n ≡ true → HandedFirst kinds) → RowsGo test frame kinds n n'

-- place by place
abbrev pub EachNotes : (ℕ → Notes → Notes → Type 0) → List Notes → List Notes → Type 0
EachNotes P old new = (k : ℕ) (n' : Notes) → slice_get new k ≡ Some n' → (n : Notes) × (slice_get old k ≡ Some n) × P k n n'

-- SO IT IS OF ALL SLAVES, where this is told of the one at a place
abbrev pub MailsGo : ℕ → (ℕ → List ReplyKind) → List Notes → List Notes → Type 0
MailsGo frame kinds old new = EachNotes (λ k n n'. GoesBy frame (kinds k) n n') old new

-- where nothing is told
abbrev pub MailsStay : ℕ → List Notes → List Notes → Type 0
MailsStay frame old new = MailsGo frame (λ k. []) old new

-- what is told of the slave at a place, and of no other
abbrev pub told_only : ℕ → List ReplyKind → ℕ → List ReplyKind
told_only at kinds k = if at == k then kinds else []

-- BEHIND EVENTS, where each slave has a home
abbrev pub MailsBehind : ℕ → (ℕ → List ReplyKind) → Log → Log → Type 0
MailsBehind frame kinds r r' = length r.homes ≡ length r.notes → MailsGo frame kinds r.notes r'.notes

-- a slave's services as they are noted
abbrev pub services_of : Notes → List Begun × List Answer × Bool × Awaited
services_of n = (n.begun, n.answers, n.in_hand, n.awaited)

-- those of all slaves
abbrev pub services_noted : List Notes → List (List Begun × List Answer × Bool × Awaited)
services_noted notes = map services_of notes

-- ---- what comes into hand

-- a service is in hand behind these rows
abbrev pub hand_behind : List Begun → Bool → Bool
hand_behind [] in_hand = in_hand
hand_behind (b ∷ bs) in_hand = true

-- an answer in doubt for each of these rows
abbrev pub doubts : List Begun → List Answer
doubts bs = map (λ b. InDoubt) bs

-- WHAT CAME INTO HAND IS IN DOUBT: more rows, each without an answer yet
pub record Doubts (n n' : Notes) : Type 0 where
  pub more : List Begun
  pub begun : n'.begun ≡ n.begun ++ more
  pub answers : answers_doubted n' ≡ answers_doubted n ++ doubts more
  pub hand : n'.in_hand ≡ hand_behind more n.in_hand

-- of all slaves
abbrev pub AllDoubts : List Notes → List Notes → Type 0
AllDoubts old new = EachNotes (λ k n n'. Doubts n n') old new
