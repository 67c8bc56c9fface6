-- The report of a run, line by line.
use Rattle.std.specs.Prelude.{◌≡◌, ℕ, ◌+◌, ◌==◌, ◌&&◌, List, [], ◌∷◌, ◌++◌, length, codes, Bool, true, false, if◌then◌else◌, count_by, slice_get, Option, Some, None}
use Rattle.std.specs.Fmt.{decimal, digits}
use Rattle.hex.specs.Hex.{encode_lower}
use Rattle.reply_text.specs.of_mailbox_mail.declared.outcome.ReplyKind.{ReplyKind}
use Rattle.reply_text.specs.of_mailbox_mail.declared.outcome.ReplyKind.TheVariants as kinds
use Rattle.reply_text.specs.Reply.{hex_of, kind_text}
use Rattle.run_book.specs.of_segment_plan.declared.slave.SlaveSpec.{SlaveSpec}
use Rattle.run_book.specs.of_segment_plan.declared.plan.Scenario.{Scenario}
use Rattle.run_book.specs.of_segment_ring.declared.wire.Fate.{Fate}
use Rattle.run_book.specs.of_segment_ring.declared.wire.Fate.TheVariants.{Pass, Lost}
use Rattle.run_book.specs.of_eoe_switch.Switch.{switched}
use Rattle.run_book.specs.of_master_node.declared.event.Origin.{Origin}
use Rattle.run_book.specs.of_master_node.declared.event.Origin.TheVariants.{Script, Forward, Gateway}
use Rattle.run_book.specs.Ports.{ports_of}
use Rattle.run_book.specs.declared.book.Book.{Book}
use Rattle.run_book.specs.declared.book.SlaveBook.{SlaveBook}
use Rattle.run_book.specs.declared.book.Begun.{Begun}
use Rattle.run_book.specs.declared.book.Emergency.{Emergency}
use Rattle.run_book.specs.declared.book.Epoch.{Epoch}
use Rattle.run_book.specs.declared.book.Answer.{Answer}
use Rattle.run_book.specs.declared.book.Answer.TheVariants.{Replied, InDoubt, NotSent}
use Rattle.run_book.specs.declared.book.Ending.{Ending}
use Rattle.run_book.specs.declared.book.Ending.TheVariants as endings
use Rattle.run_book.specs.declared.book.SentFrame.{SentFrame}

-- a frame that the plan loses
abbrev pub is_lost : Fate → Bool
is_lost Pass = false
is_lost (Lost after) = true

-- how many frames were sent and how many of them were lost
abbrev pub frames_line : List SentFrame → List ℕ
frames_line frames =
    codes "frames " ++ (decimal (length frames) ++ (codes " lost " ++ (decimal (count_by (λ (f : SentFrame). is_lost f.fate) frames) ++ codes "\n")))

-- what became of a service
abbrev pub answer_text : Answer → List ℕ
answer_text (Replied reply frame) = kind_text reply.kind reply.value
answer_text InDoubt = codes "in doubt"
answer_text NotSent = codes "not sent"

-- an answer, by the number of its service
abbrev pub answer_line : ℕ → Answer → List ℕ
answer_line number answer = (codes "answer " ++ (decimal number ++ codes " ")) ++ answer_text answer ++ codes "\n"

-- what came into hand from the script
abbrev pub is_script : Origin → Bool
is_script (Script number) = true
is_script (Forward number) = false
is_script (Gateway number) = false

-- a service is scripted where it came into hand so, and where it never came into hand
abbrev pub is_scripted_row : Option Begun → Bool
is_scripted_row (Some row) = is_script row.origin
is_scripted_row None = true

-- the service at a place of those that came into hand
abbrev pub is_scripted : List Begun → ℕ → Bool
is_scripted begun at = is_scripted_row (slice_get begun at)

-- the answers from place `at` on, of which those of scripted services are numbered from `number` on
abbrev pub answer_lines : List Begun → ℕ → ℕ → List Answer → List (List ℕ)
answer_lines begun at number [] = []
answer_lines begun at number (answer ∷ answers) =
    if is_scripted begun at then answer_line number answer ∷ answer_lines begun (at + 1) (number + 1) answers
    else answer_lines begun (at + 1) number answers

-- a reply that tells only that a packet or mail was handed over
abbrev pub is_handed_kind : ReplyKind → Bool
is_handed_kind kinds.Handed = true
is_handed_kind kinds.Done = false
is_handed_kind kinds.Value = false
is_handed_kind (kinds.Abort code) = false
is_handed_kind (kinds.FoeError code) = false
is_handed_kind (kinds.SoeError code) = false
is_handed_kind (kinds.EoeResult code) = false
is_handed_kind (kinds.MailboxError detail) = false
is_handed_kind (kinds.StateRefused code) = false

-- a service that was handed over whole
abbrev pub is_handed : Answer → Bool
is_handed (Replied reply frame) = is_handed_kind reply.kind
is_handed InDoubt = false
is_handed NotSent = false

-- what came into hand as a packet of the switch
abbrev pub is_forward : Origin → Bool
is_forward (Script number) = false
is_forward (Forward number) = true
is_forward (Gateway number) = false

-- a packet of the switch that came into hand
abbrev pub is_packet_row : Option Begun → Bool
is_packet_row (Some row) = is_forward row.origin
is_packet_row None = false

-- at a place of those that came into hand
abbrev pub is_packet : List Begun → ℕ → Bool
is_packet begun at = is_packet_row (slice_get begun at)

-- the packets that were handed over, from place `at` on
abbrev pub packets_from : List Begun → ℕ → List Answer → ℕ
packets_from begun at [] = 0
packets_from begun at (answer ∷ answers) = (if is_packet begun at && is_handed answer then 1 else 0) + packets_from begun (at + 1) answers

-- how many packets were handed over
abbrev pub packets_handed : List Begun → List Answer → ℕ
packets_handed begun answers = packets_from begun 0 answers

-- a word and octets
abbrev pub octets_line : List ℕ → List ℕ → List ℕ
octets_line word octets = word ++ encode_lower octets ++ codes "\n"

-- a line for each
abbrev pub octets_lines : List ℕ → List (List ℕ) → List (List ℕ)
octets_lines word [] = []
octets_lines word (octets ∷ rows) = octets_line word octets ∷ octets_lines word rows

-- a line for each emergency: its octets
abbrev pub emergency_lines : List Emergency → List (List ℕ)
emergency_lines [] = []
emergency_lines (row ∷ rows) = octets_line (codes "emergency ") row.octets ∷ emergency_lines rows

-- a slave's station in four digits and its AL state in one
abbrev pub station_text : ℕ → ℕ → List ℕ
station_text station state = codes " station " ++ (hex_of 4 station ++ (codes " state " ++ digits 16 false state))

-- how many services a slave handled, and how many packets were handed over to it
abbrev pub handled_text : ℕ → ℕ → List ℕ
handled_text handled packets = codes " handled " ++ (decimal handled ++ (codes " packets " ++ (decimal packets ++ codes "\n")))

-- an epoch, and how many services had come into hand before
abbrev pub epoch_line : ℕ → ℕ → List ℕ
epoch_line number row = codes "epoch " ++ (decimal number ++ (codes " row " ++ (decimal row ++ codes "\n")))

-- the epochs from a number on, but for number 0
abbrev pub epoch_lines : ℕ → List Epoch → List (List ℕ)
epoch_lines number [] = []
epoch_lines number (epoch ∷ epochs) =
    if number == 0 then epoch_lines (number + 1) epochs else epoch_line number epoch.row ∷ epoch_lines (number + 1) epochs

-- a slave: its name, station and AL state, and what it handled
abbrev pub slave_line : ℕ → SlaveSpec → SlaveBook → List ℕ
slave_line number spec row =
    (codes "slave " ++ (decimal number ++ codes " ")) ++ spec.name ++ station_text spec.station row.node.al.state
    ++ handled_text row.node.server.server.handled (packets_handed row.begun row.answers)

-- a slave with its epochs, its answers and the emergencies received from it
abbrev pub lines_of_slave : ℕ → SlaveSpec → SlaveBook → List (List ℕ)
lines_of_slave number spec row =
    slave_line number spec row
    ∷ (epoch_lines 0 row.epochs ++ (answer_lines row.begun 0 0 row.answers ++ emergency_lines row.emergencies))

-- the slaves from a number on
abbrev pub slave_lines : ℕ → List SlaveSpec → List SlaveBook → List (List ℕ)
slave_lines number (spec ∷ specs) (row ∷ rows) = lines_of_slave number spec row ++ slave_lines (number + 1) specs rows
slave_lines number _ _ = []

-- how many packets were dropped at full queues
abbrev pub dropped_line : ℕ → List ℕ
dropped_line drops = codes "dropped " ++ (decimal drops ++ codes "\n")

-- how a run ended
abbrev pub ending_line : Ending → List ℕ
ending_line endings.Done = codes "status 0 done\n"
ending_line endings.GivenUp = codes "status 7 given up\n"
ending_line endings.BudgetSpent = codes "status 8 budget spent\n"
ending_line endings.PortFault = codes "status 9 port fault\n"
ending_line endings.Unfinished = []
ending_line endings.NoMemory = []

-- how many datagrams were heard and how many were sent
abbrev pub gateway_line : ℕ → ℕ → List ℕ
gateway_line heard answered = codes "gateway heard " ++ (decimal heard ++ (codes " answered " ++ (decimal answered ++ codes "\n")))

-- its line, where requests were served
abbrev pub gateway_lines : Book → List (List ℕ)
gateway_lines book = if book.serving then gateway_line (length book.grams) (length book.replies) ∷ [] else []

-- the last lines
abbrev pub end_lines : ℕ → Book → List (List ℕ)
end_lines drops book = dropped_line drops ∷ (gateway_lines book ++ ending_line book.ending ∷ [])

-- THE REPORT: the frames, each slave, the host's packets, the packets that the switch dropped, what the gateway heard and sent, and how the
-- run ended
abbrev pub report_lines : Scenario → Book → List (List ℕ)
report_lines plan book =
    (frames_line book.frames ∷ slave_lines 0 plan.slaves book.slaves) ++ octets_lines (codes "host ") book.host
    ++ end_lines (switched (ports_of plan.slaves) book.switch).drops book

-- the new list is the old one with more lines behind it
abbrev pub Extends : List (List ℕ) → List (List ℕ) → Type 0
Extends old new = (more : List (List ℕ)) × (new ≡ old ++ more)
