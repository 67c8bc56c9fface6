-- THE ROWS BESIDE THE SCRIPTS, of packets and of mails that are passed on, that came into hand of slaves: as they are noted and as a book has them.
use Rattle.std.specs.Prelude.{◌≡◌, ◌<◌, ◌==◌, ℕ, zero, suc, true, if◌then◌else◌, List, [], ◌∷◌, ◌++◌, length, map, IfSome, slice_get, ⊤}
use Rattle.run_book.specs.of_master_node.Listing.{events_in}
use Rattle.run_book.specs.of_master_node.declared.event.Event.{Event}
use Rattle.run_book.specs.of_master_node.declared.event.Origin.{Origin}
use Rattle.run_book.specs.of_master_node.declared.event.Origin.TheVariants.{Script, Forward, Gateway}
use Rattle.run_book.specs.of_master_node.declared.node.MasterNode.{MasterNode}
use Rattle.run_frames.specs.of_life_model.Lives.{Stand}
use Rattle.run_frames.specs.of_life_runs.Led.{Leads}
use Rattle.run_frames.specs.of_state_model.Stated.{Service}
use Rattle.run_frames.specs.of_master_hand.Spoken.{Asked}
use Rattle.run_frames.specs.of_state_model.Accounts.{Started}
use Rattle.run_book.specs.declared.book.Begun.{Begun}
use Rattle.run_book.specs.declared.book.SlaveBook.{SlaveBook}
use Rattle.run_notes.specs.Notes.{began_where}
use Rattle.run_notes.specs.Reports.{AllReport}
use Rattle.run_notes.specs.declared.notes.Awaited.{Awaited}
use Rattle.run_notes.specs.declared.notes.Notes.{Notes}
use Rattle.run_frames.specs.Came.{is_beside}
use Rattle.run_frames.specs.Steps.{account_of}

-- the row of a packet: its number, and the frame before which it came into hand; others have none
abbrev pub packet_row : Origin → ℕ → List (ℕ × ℕ)
packet_row (Script number) frame = []
packet_row (Forward number) frame = (number, frame) ∷ []
packet_row (Gateway number) frame = []

-- the row of a mail that is passed on, likewise
abbrev pub mail_row : Origin → ℕ → List (ℕ × ℕ)
mail_row (Script number) frame = []
mail_row (Forward number) frame = []
mail_row (Gateway number) frame = (number, frame) ∷ []

-- the row of either, as it is noted
abbrev pub beside_row : Origin → ℕ → List Begun
beside_row (Script number) frame = []
beside_row (Forward number) frame = record { origin = Forward number; frame = frame } ∷ []
beside_row (Gateway number) frame = record { origin = Gateway number; frame = frame } ∷ []

-- such rows among these, in order
abbrev pub rows_with : {X : Type 0} → (Origin → ℕ → List X) → List Begun → List X
rows_with row [] = []
rows_with row (b ∷ bs) = row b.origin b.frame ++ rows_with row bs

-- the rows of slaves, as they are noted
abbrev pub begun_noted : List Notes → List (List Begun)
begun_noted notes = map (λ (n : Notes). n.begun) notes

-- and in a book
abbrev pub begun_in : List SlaveBook → List (List Begun)
begun_in rows = map (λ (row : SlaveBook). row.begun) rows

-- such rows of the slave at a place
abbrev pub rows_at : {X : Type 0} → (Origin → ℕ → List X) → List (List Begun) → ℕ → List X
rows_at row [] k = []
rows_at row (bs ∷ rest) zero = rows_with row bs
rows_at row (bs ∷ rest) (suc k) = rows_at row rest k

-- THE ROWS OF PACKETS of the slave at a place
abbrev pub packets_at : List (List Begun) → ℕ → List (ℕ × ℕ)
packets_at rows k = rows_at packet_row rows k

-- THE ROWS OF MAILS THAT ARE PASSED ON to it
abbrev pub mails_at : List (List Begun) → ℕ → List (ℕ × ℕ)
mails_at rows k = rows_at mail_row rows k

-- THE ROWS OF BOTH
abbrev pub beside_at : List (List Begun) → ℕ → List Begun
beside_at rows k = rows_at beside_row rows k

-- such frames, numbered from a number on
abbrev pub numbered_from : ℕ → List ℕ → List (ℕ × ℕ)
numbered_from n [] = []
numbered_from n (frame ∷ frames) = (n, frame) ∷ numbered_from (suc n) frames

-- OF EACH SLAVE JUST THE PACKETS STAND THERE that came into hand before these frames, in order, numbered from 0 on
abbrev pub AreNumbered : (ℕ → List ℕ) → List (List Begun) → Type 0
AreNumbered frames rows = (k : ℕ) → k < length rows → packets_at rows k ≡ numbered_from 0 (frames k)

-- OF EACH SLAVE JUST THESE MAILS STAND THERE that were passed on, in order, each once, with its number and the frame before which it came into hand
abbrev pub AreMails : (ℕ → List (ℕ × ℕ)) → List (List Begun) → Type 0
AreMails mails rows = (k : ℕ) → k < length rows → mails_at rows k ≡ mails k

-- nothing new stands there beside the scripts
abbrev pub SameBeside : List Notes → List Notes → Type 0
SameBeside old new = (k : ℕ) → beside_at (begun_noted new) k ≡ beside_at (begun_noted old) k

-- a service that came into hand is noted, but for one of the script, which is noted by its master's number
abbrev pub noted_began : Notes → Origin → ℕ → Notes
noted_began n (Script number) frame = n
noted_began n (Forward number) frame = began_where n (Forward number) frame
noted_began n (Gateway number) frame = began_where n (Gateway number) frame

-- what an event is to note of the slave at a place, before a frame
abbrev pub rows_of : ℕ → ℕ → Event → List Begun
rows_of frame k (Event.Began slave origin) = if slave == k then beside_row origin frame else []
rows_of frame k (Event.Answered slave kind) = []
rows_of frame k (Event.Emergency slave octets) = []
rows_of frame k (Event.GatewayReply key mail) = []
rows_of frame k (Event.GatewayDone key) = []
rows_of frame k (Event.GivenUp slave) = []
rows_of frame k (Event.Cleared slave own) = []
rows_of frame k (Event.Opened slave) = []

-- what all of them are
abbrev pub rows_by : ℕ → ℕ → List Event → List Begun
rows_by frame k [] = []
rows_by frame k (e ∷ es) = rows_of frame k e ++ rows_by frame k es

-- no answer is awaited of the slave at a place
abbrev pub FreeAt : List Notes → ℕ → Type 0
FreeAt notes k = IfSome (slice_get notes k) (λ n. n.awaited ≡ Awaited.Nothing)

-- of a slave of which something beside the script began
abbrev pub FreeBy : List Notes → ℕ → Origin → Type 0
FreeBy notes k (Script number) = ⊤
FreeBy notes k (Forward number) = FreeAt notes k
FreeBy notes k (Gateway number) = FreeAt notes k

-- by an event
abbrev pub FreeFor : List Notes → Event → Type 0
FreeFor notes (Event.Began slave origin) = FreeBy notes slave origin
FreeFor notes (Event.Answered slave kind) = ⊤
FreeFor notes (Event.Emergency slave octets) = ⊤
FreeFor notes (Event.GatewayReply key mail) = ⊤
FreeFor notes (Event.GatewayDone key) = ⊤
FreeFor notes (Event.GivenUp slave) = ⊤
FreeFor notes (Event.Cleared slave own) = ⊤
FreeFor notes (Event.Opened slave) = ⊤

-- and by all of these
abbrev pub AllFree : List Notes → List Event → Type 0
AllFree notes [] = ⊤
AllFree notes (e ∷ es) = FreeFor notes e × AllFree notes es

-- JUST THE PACKETS AND THE MAILS PASSED ON OF THESE EVENTS ARE NOTED, where none of their slaves awaits an answer
abbrev pub NotesBeside : ℕ → List Event → List Notes → List Notes → Type 0
NotesBeside frame es old new = AllFree old es → (k : ℕ) → k < length old → beside_at (begun_noted new) k ≡ beside_at (begun_noted old) k ++ rows_by frame k es

-- what is awaited of no slave stays so
abbrev pub StayFree : List Notes → List Notes → Type 0
StayFree old new = (k : ℕ) → FreeAt old k → FreeAt new k

-- A SLAVE OF WHICH A PACKET, or a mail that is passed on, CAME INTO HAND last, by its life
pub record CameBeside (a : Leads) : Type 0 where
  pub stand : a.lived.life.stand ≡ Stand.Open
  pub service : Service Asked
  pub is : is_beside service ≡ true
  pub frame : ℕ
  pub front : List (Started Asked)
  pub started : (account_of a).started ≡ front ++ record { service = service; frame = frame } ∷ []

-- of the slave at a place
abbrev pub BesideAt : List Leads → ℕ → Type 0
BesideAt as' k = IfSome (slice_get as' k) (λ a. CameBeside a)

-- where an event says so
abbrev pub BesideBy : List Leads → ℕ → Origin → Type 0
BesideBy as' k (Script number) = ⊤
BesideBy as' k (Forward number) = BesideAt as' k
BesideBy as' k (Gateway number) = BesideAt as' k

-- by an event
abbrev pub BesideFor : List Leads → Event → Type 0
BesideFor as' (Event.Began slave origin) = BesideBy as' slave origin
BesideFor as' (Event.Answered slave kind) = ⊤
BesideFor as' (Event.Emergency slave octets) = ⊤
BesideFor as' (Event.GatewayReply key mail) = ⊤
BesideFor as' (Event.GatewayDone key) = ⊤
BesideFor as' (Event.GivenUp slave) = ⊤
BesideFor as' (Event.Cleared slave own) = ⊤
BesideFor as' (Event.Opened slave) = ⊤

-- and by all of these
abbrev pub AllBeside : List Leads → List Event → Type 0
AllBeside as' [] = ⊤
AllBeside as' (e ∷ es) = BesideFor as' e × AllBeside as' es

-- BEFORE A FRAME just the packets and the mails passed on are noted that its master lists as begun, where they came into hand of these lives
abbrev pub BeginsOn : ℕ → MasterNode → List Notes → List Notes → List Leads → List Leads → Type 0
BeginsOn frame m old new as' bs =
    AllReport as' old → AllBeside bs (events_in m) → (k : ℕ) → k < length old → beside_at (begun_noted new) k ≡ beside_at (begun_noted old) k ++ rows_by frame k (events_in m)
