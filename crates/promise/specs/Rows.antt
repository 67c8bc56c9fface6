-- WHAT CAME INTO HAND OF A SLAVE, as its book has it: its rows, epoch by epoch.
use Rattle.std.specs.Prelude.{◌≡◌, ◌≤◌, ℕ, suc, ◌-◌, ◌==◌, nat_lt, ◌||◌, Bool, true, false, if◌then◌else◌, Option, Some, None, option_map, is_some, List, [], ◌∷◌, ◌++◌, take, drop, map, length, replicate, slice_get, All, ⊤}
use Rattle.arrayvec.specs.ArrayVec.{ArrayVec}
use Rattle.protocol_models.specs.CoeServer.{Emission, emergency, packet}
use Rattle.mailbox_mail.specs.declared.outcome.ReplyKind.{ReplyKind}
use Rattle.master_node.specs.declared.event.Origin.{Origin}
use Rattle.master_node.specs.declared.event.Origin.TheVariants.{Script, Forward, Gateway}
use Rattle.segment_plan.specs.declared.service.Service as Plan
use Rattle.segment_plan.specs.declared.service.Service.TheVariants as Asked
use Rattle.promise.specs.Application.{App}
use Rattle.promise.specs.Meaning.{Meant, meaning_of}
use Rattle.run_book.specs.declared.book.Answer.{Answer}
use Rattle.run_book.specs.declared.book.Answer.TheVariants.{Replied, InDoubt, NotSent}
use Rattle.run_book.specs.declared.book.Begun.{Begun}
use Rattle.run_book.specs.declared.book.Epoch.{Epoch}
use Rattle.run_book.specs.declared.book.SlaveBook.{SlaveBook}

-- a row: a service that came into hand, the frame before which it did, and its answer
pub record Row : Type 0 where
  pub service : Plan.Service
  pub frame : ℕ
  pub answer : Answer

-- ---- whose services they are

-- the number of a script's row, of a packet's, of a mail's that was passed on
abbrev pub script_number : Origin → List ℕ
script_number (Script k) = k ∷ []
script_number (Forward k) = []
script_number (Gateway k) = []

-- of a packet's
abbrev pub packet_number : Origin → List ℕ
packet_number (Script k) = []
packet_number (Forward k) = k ∷ []
packet_number (Gateway k) = []

-- of a mail's
abbrev pub mail_number : Origin → List ℕ
mail_number (Script k) = []
mail_number (Forward k) = []
mail_number (Gateway k) = k ∷ []

-- of all rows
abbrev pub numbers_by : (Origin → List ℕ) → List Begun → List ℕ
numbers_by number [] = []
numbers_by number (b ∷ bs) = number b.origin ++ numbers_by number bs

-- from this number on so many, each once and in order
abbrev pub AreFrom : ℕ → List ℕ → Type 0
AreFrom n [] = ⊤
AreFrom n (k ∷ ks) = (k ≡ n) × AreFrom (suc n) ks

-- numbers that don't fall, none below the one and none above the other
abbrev pub NeverFall : ℕ → ℕ → List ℕ → Type 0
NeverFall low high [] = low ≤ high
NeverFall low high (n ∷ ns) = (low ≤ n) × NeverFall n high ns

-- the service of a row, of this script and of the packets that were forwarded to its slave
abbrev pub service_in : List Plan.Service → List (ArrayVec ℕ) → Origin → Option Plan.Service
service_in script packets (Script k) = slice_get script k
service_in script packets (Forward k) = option_map (λ p. Asked.Forward p) (slice_get packets k)
service_in script packets (Gateway k) = None

-- a row, where its service is known
abbrev pub row_of : Option Plan.Service → ℕ → Answer → List Row
row_of None frame answer = []
row_of (Some service) frame answer = record { service = service; frame = frame; answer = answer } ∷ []

-- THE ROWS OF A SLAVE
abbrev pub rows_of : List Plan.Service → List (ArrayVec ℕ) → List Begun → List Answer → List Row
rows_of script packets [] answers = []
rows_of script packets (b ∷ bs) [] = []
rows_of script packets (b ∷ bs) (a ∷ answers) = row_of (service_in script packets b.origin) b.frame a ++ rows_of script packets bs answers

-- BEGUN IN ORDER: the services of the script, each once, without gap; so the packets; the frames before which they came into hand don't fall; and behind their
-- answers the rest of the script stands as not sent
pub record AreBegun (script : List Plan.Service) (packets : List (ArrayVec ℕ)) (frames : ℕ) (row : SlaveBook) : Type 0 where
  pub scripts : AreFrom 0 (numbers_by script_number row.begun)
  pub forwards : AreFrom 0 (numbers_by packet_number row.begun)
  pub known : All (λ b. is_some (service_in script packets b.origin) ≡ true) row.begun
  pub rise : NeverFall 0 frames (map (λ b. b.frame) row.begun)
  pub unsent : drop (length row.begun) row.answers ≡ replicate (length script - length (numbers_by script_number row.begun)) NotSent

-- ---- epochs

-- an epoch: the frame that showed the return to Init, none for the first, and the one that showed the opened state; its rows; and what was received of the slave in it
pub record EpochRows : Type 0 where
  pub cleared : Option ℕ
  pub opened : Option ℕ
  pub rows : List Row
  pub emergencies : List (List ℕ)
  pub packets : List (List ℕ)

-- a part of a list: from one number up to another, or up to its end
abbrev pub part_of : {X : Type 0} → ℕ → Option ℕ → List X → List X
part_of from None xs = drop from xs
part_of from (Some to) xs = take (to - from) (drop from xs)

-- a number of the next epoch, where one follows
abbrev pub of_next : (Epoch → ℕ) → List Epoch → Option ℕ
of_next number [] = None
of_next number (e ∷ es) = Some (number e)

-- THE EPOCHS, each with its part of rows, emergencies and packets
abbrev pub epochs_of : List Row → List (List ℕ) → List (List ℕ) → List Epoch → List EpochRows
epochs_of rows emergencies packets [] = []
epochs_of rows emergencies packets (e ∷ es) = record {
  cleared = e.cleared;
  opened = e.opened;
  rows = part_of e.row (of_next (λ n. n.row) es) rows;
  emergencies = part_of e.emergencies (of_next (λ n. n.emergencies) es) emergencies;
  packets = part_of e.packets (of_next (λ n. n.packets) es) packets;
} ∷ epochs_of rows emergencies packets es

-- ---- what rows do, each by the plain meaning of its service

-- the application behind rows
abbrev pub app_behind : App → List Row → App
app_behind a [] = a
app_behind a (r ∷ rs) = app_behind (meaning_of a r.service).app rs

-- what they mean, row by row
abbrev pub meant_by : App → List Row → List Meant
meant_by a [] = []
meant_by a (r ∷ rs) = meaning_of a r.service ∷ meant_by (meaning_of a r.service).app rs

-- an emission, where it is an emergency, or where it is a packet
abbrev pub emergency_in : Option Emission → List (List ℕ)
emergency_in None = []
emergency_in (Some (emergency octets)) = octets ∷ []
emergency_in (Some (packet octets)) = []

-- a packet of less than 14 octets comes in nowhere
abbrev pub packet_in : Option Emission → List (List ℕ)
packet_in None = []
packet_in (Some (emergency octets)) = []
packet_in (Some (packet octets)) = if nat_lt (length octets) 14 then [] else octets ∷ []

-- all that rows emit
abbrev pub emitted_by : (Option Emission → List (List ℕ)) → List Meant → List (List ℕ)
emitted_by such [] = []
emitted_by such (m ∷ ms) = such m.emission ++ emitted_by such ms

-- ---- answers

-- a service is a change of state that returns its slave to Init
abbrev pub returns : Plan.Service → Bool
returns (Asked.State to) = to == 1 || to == 3
returns _ = false

-- a row without an answer
abbrev pub is_in_doubt : Answer → Bool
is_in_doubt (Replied reply frame) = false
is_in_doubt InDoubt = true
is_in_doubt NotSent = false

-- a packet that was handed over
abbrev pub is_handed : ReplyKind → Bool
is_handed ReplyKind.Handed = true
is_handed _ = false
