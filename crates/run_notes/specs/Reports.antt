-- WHAT IS NOTED OF A SLAVE'S SERVICES, beside its life.
use Rattle.std.specs.Prelude.{◌≡◌, ◌+◌, ℕ, zero, suc, Bool, true, false, if◌then◌else◌, Option, Some, None, List, [], ◌∷◌, ◌++◌, length, ⊤}
use Rattle.run_frames.specs.of_frame_view.View.{Lens}
use Rattle.run_frames.specs.of_frame_view.Shares.{AllBoth}
use Rattle.run_frames.specs.of_life_runs.Led.{Leads}
use Rattle.run_frames.specs.of_master_duty.Reply.{Reply}
use Rattle.run_book.specs.of_master_node.Told.{HasLeads}
use Rattle.run_book.specs.of_master_node.Wants.{gave_of, AllCounted}
use Rattle.run_book.specs.of_master_node.declared.event.Origin.{Origin}
use Rattle.run_book.specs.of_master_node.declared.event.Origin.TheVariants.{Script, Forward, Gateway}
use Rattle.run_book.specs.of_master_node.declared.node.MasterNode.{MasterNode}
use Rattle.run_book.specs.declared.book.Answer.{Answer}
use Rattle.run_book.specs.declared.book.Answer.TheVariants.{Replied, InDoubt, NotSent}
use Rattle.run_book.specs.declared.book.Begun.{Begun}
use Rattle.run_book.specs.declared.book.Epoch.{Epoch}
use Rattle.run_book.specs.declared.book.SlaveBook.{SlaveBook}
use Rattle.run_notes.specs.declared.notes.Awaited.{Awaited}
use Rattle.run_notes.specs.declared.notes.Notes.{Notes}
use Rattle.run_notes.specs.Notes.{awaits_nothing}
use Rattle.run_notes.specs.declared.standing.Log.{Log}
use Rattle.run_notes.specs.Epochs.{IsMarked}
use Rattle.run_notes.specs.Unsent.{IsNumbered}
use Rattle.run_frames.specs.ScriptAnswers.{Noted, AllNoted, IsNoted, Waits, life_scripted}
use Rattle.run_frames.specs.Steps.{TurnsSo, PassesSo, LosesSo}
use Rattle.run_frames.specs.of_segment_ring.declared.wire.Fate.{Fate}
use Rattle.run_frames.specs.of_segment_ring.declared.wire.Fate.TheVariants.{Pass, Lost}

-- the reply that an answer reports, where it reports one, with its frame
abbrev pub reply_in : Answer → Option (Reply × ℕ)
reply_in (Replied reply frame) = Some (Some (reply.kind, reply.value), frame)
reply_in InDoubt = None
reply_in NotSent = None

-- a service of the script; others are left out
abbrev pub noted_of : Origin → ℕ → Option (Reply × ℕ) → List Noted → List Noted
noted_of (Script number) frame reply more = record { frame = frame; reply = reply } ∷ more
noted_of (Forward number) frame reply more = more
noted_of (Gateway number) frame reply more = more

-- THE SCRIPTED SERVICES among those that came into hand, each with the reply that its answer reports
abbrev pub noted_in : List Begun → List Answer → List Noted
noted_in [] answers = []
noted_in (b ∷ bs) [] = noted_of b.origin b.frame None (noted_in bs [])
noted_in (b ∷ bs) (a ∷ as') = noted_of b.origin b.frame (reply_in a) (noted_in bs as')

-- what is awaited of the newest service, as a life has it
abbrev pub waits_of : Awaited → Waits
waits_of Awaited.Nothing = Waits.nothing
waits_of Awaited.Reply = Waits.reply
waits_of Awaited.Change = Waits.change

-- a service in hand isn't answered
abbrev pub unanswered : Bool → ℕ
unanswered in_hand = if in_hand then 1 else 0

-- the newest service that came into hand is of the script, and each one before it is answered
pub record LastScript (begun : List Begun) (answers : List Answer) : Type 0 where
  pub front : List Begun
  pub number : ℕ
  pub frame : ℕ
  pub last : begun ≡ front ++ record { origin = Script number; frame = frame } ∷ []
  pub beside : length front ≡ length answers

-- WHAT IS NOTED GOES WITH THE LIFE: the scripted services, each with just what it was answered; each service but the one in hand has an answer; and where
-- none of the script is awaited, whatever answer that gets says nothing of those; what did not come into hand of the script is left, and the epochs are noted
pub record IsReporting (a : Leads) (begun : List Begun) (answers : List Answer) (in_hand : Bool) (awaited : Awaited) (scripted left : ℕ) (given : List ℕ) (epochs : List Epoch) (leaving up : Bool) : Type 0 where
  pub told : IsNoted a (waits_of awaited) scripted (noted_in begun answers)
  pub aligned : length begun ≡ length answers + unanswered in_hand
  pub last : awaits_nothing awaited ≡ false → LastScript begun answers
  pub other : in_hand ≡ true → awaits_nothing awaited ≡ true → (answer : Answer) → noted_in begun (answers ++ answer ∷ []) ≡ noted_in begun answers
  pub gave : given ≡ gave_of a
  pub rest : IsNumbered (length a.script) begun answers scripted left
  pub marked : IsMarked a epochs leaving up

-- by what is noted of a slave
abbrev pub Reports : Leads → Notes → Type 0
Reports a n = IsReporting a n.begun n.answers n.in_hand n.awaited n.scripted n.left n.gave n.epochs n.leaving n.up

-- of all slaves
abbrev pub AllReport : List Leads → List Notes → Type 0
AllReport as' notes = AllBoth (λ a n. Reports a n) as' notes

-- whichever lives it goes with, it goes on with them
abbrev pub KeepsReports : List Notes → List Notes → Type 0
KeepsReports old new = (as' : List Leads) → AllReport as' old → AllReport as' new

-- behind the first so many slaves
abbrev pub ReportsTo : ℕ → List Leads → List Leads → List Notes → Type 0
ReportsTo k [] [] [] = ⊤
ReportsTo zero (a ∷ as') (b ∷ bs) (n ∷ notes) = Reports a n × ReportsTo 0 as' bs notes
ReportsTo (suc k) (a ∷ as') (b ∷ bs) (n ∷ notes) = Reports b n × ReportsTo k as' bs notes
ReportsTo k _ _ _ = ⊥

-- and with the next
abbrev pub ReportsNext : ℕ → List Notes → List Notes → List Leads → List Leads → Type 0
ReportsNext k old new as' bs = ReportsTo k as' bs old → ReportsTo (suc k) as' bs new

-- BEFORE A FRAME: what came into hand of each slave is noted
abbrev pub TurnsAll : ℕ → MasterNode → (List Leads → List Leads → Type 0) → Type 0
TurnsAll frame m P = (lens : ℕ → Lens) (recover : ℕ) (as' bs : List Leads) → HasLeads lens recover m bs → AllBoth (λ a b. TurnsSo frame a b) as' bs → P as' bs

-- BEHIND ITS RETURN: the replies that it brought are
abbrev pub PassesAll : ℕ → MasterNode → (List Leads → List Leads → Type 0) → Type 0
PassesAll frame m P = (lens : ℕ → Lens) (recover : ℕ) (as' bs : List Leads) → HasLeads lens recover m bs → AllBoth (λ a b. PassesSo frame a b) as' bs → P as' bs

-- BEHIND ITS LOSS: what was in hand of the slaves that were given up is in doubt
abbrev pub LosesAll : ℕ → ℕ → MasterNode → (List Leads → List Leads → Type 0) → Type 0
LosesAll frame recover m P = (lens : ℕ → Lens) (as' bs : List Leads) → HasLeads lens recover m bs → AllCounted recover bs → AllBoth (λ a b. LosesSo frame a b) as' bs → P as' bs

-- what was noted of all of them goes on
abbrev pub ReportsOn : List Notes → List Notes → List Leads → List Leads → Type 0
ReportsOn old new as' bs = AllReport as' old → AllReport bs new

-- by the fate of the frame
abbrev pub ReportsBy : Fate → ℕ → MasterNode → Log → Log → Type 0
ReportsBy Pass frame m r r' = PassesAll frame m (ReportsOn r.notes r'.notes)
ReportsBy (Lost after) frame m r r' = LosesAll frame r.recover m (ReportsOn r.notes r'.notes)

-- OF THE SCRIPT JUST THE SERVICES STAND IN THE BOOK that came into hand, each once and in order, with its frame; and each is reported with just what it
-- came to: the answer of its row, or the outcome of its change of state, of that frame, or none where it has none. A change that returns its slave to Init is
-- reached with the frame that opened the next epoch, where its slave wasn't given up between that epoch's opening and its own
abbrev pub IsBooked : Leads → SlaveBook → Type 0
IsBooked a row = AllNoted (life_scripted a.lived.life) (noted_in row.begun row.answers)
