-- WHAT THE FRAMES OF A BOOK SAY, by their octets alone: the answers, the emergencies and the packets of a slave.
use Rattle.std.specs.Prelude.{◌≡◌, ℕ, suc, ◌<◌, nat_lt, nat_le, if◌then◌else◌, Option, Some, None, List, [], ◌∷◌, ◌++◌, map, length, ⊤, Bool, true, false}
use Rattle.eoe.specs.declared.joining.Unfinished.{Unfinished}
use Rattle.frame_view.specs.Seen.{seen}
use Rattle.life_model.specs.Eras.{era_frames}
use Rattle.life_model.specs.Lives.{Spot}
use Rattle.life_runs.specs.First.{lens_of, spot_of}
use Rattle.link_mails.specs.Body.{Body}
use Rattle.link_model.specs.Segment.{RingFate}
use Rattle.mailbox_mail.specs.declared.outcome.ReplyKind.{ReplyKind}
use Rattle.master_duty.specs.Reply as Master
use Rattle.master_hand.specs.Brings.{as_list, emergencies_in}
use Rattle.master_hand.specs.Joins.{packet_in, unfinished_behind}
use Rattle.master_hand.specs.Spoken.{Asked as Spoken, net, hand_speech, is_followed}
use Rattle.master_hand.specs.Talk.{asked_of}
use Rattle.protocol_models.specs.EoeClient as EoeClient
use Rattle.run_book.specs.declared.book.Answer.{Answer}
use Rattle.run_book.specs.declared.book.Answer.TheVariants.{Replied, InDoubt, NotSent}
use Rattle.run_book.specs.declared.book.SentFrame.{SentFrame}
use Rattle.segment_model.specs.Ends.{Outcome}
use Rattle.segment_model.specs.Record.{Frame, News, joined, nothing_kept, news_each, mails_heard}
use Rattle.segment_plan.specs.declared.plan.Scenario.{Scenario}
use Rattle.segment_plan.specs.declared.service.Service as Plan
use Rattle.segment_plan.specs.declared.service.Service.TheVariants as Asked
use Rattle.segment_plan.specs.declared.slave.SlaveSpec.{SlaveSpec}
use Rattle.segment_ring.specs.declared.wire.Fate.{Fate}
use Rattle.segment_ring.specs.declared.wire.Fate.TheVariants.{Pass, Lost}
use Rattle.state_model.specs.Stated.{Service}
use Rattle.state_model.specs.Promise.{outcome_of}
use Rattle.promise.specs.Rows.{Row, EpochRows, returns}

-- what became of a frame
abbrev pub fate_seen : Fate → RingFate
fate_seen Pass = RingFate.Back
fate_seen (Lost after) = RingFate.Lost after

-- a frame by its octets
abbrev pub frame_seen : Scenario → SentFrame → Frame Body
frame_seen plan f = record { sent = seen (lens_of plan.slaves) f.sent; fate = fate_seen f.fate; back = seen (lens_of plan.slaves) f.back }

-- all of them
abbrev pub frames_seen : Scenario → List SentFrame → List (Frame Body)
frames_seen plan fs = map (frame_seen plan) fs

-- ---- when an epoch of a slave is over for its rows

-- the first of these numbers from this one on, or this end
abbrev pub first_from : ℕ → ℕ → List ℕ → ℕ
first_from opened end [] = end
first_from opened end (g ∷ gs) = if nat_le opened g then (if nat_lt g end then g else end) else first_from opened end gs

-- the frames of an epoch, up to its end and to the frame with which its slave was given up
abbrev pub own_frames : Scenario → List SentFrame → Spot → List ℕ → ℕ → ℕ → List (Frame Body)
own_frames plan fs spot gave opened end = era_frames spot opened (first_from opened end gave) (frames_seen plan fs)

-- ---- answers

-- a service as its mails are known, or as a change of state; nothing where its slave's mailboxes have no room for it
abbrev pub spoken_of : SlaveSpec → Plan.Service → List (Service Spoken)
spoken_of s (Asked.State to) = Service.State to ∷ []
spoken_of s (Asked.Forward p) = Service.Mails (net (EoeClient.packet p.items 0)) ∷ []
spoken_of s service = map (λ q. Service.Mails q) (as_list (asked_of s.out_len service))

-- what frames make of it, and the frame that did
abbrev pub found_by : SlaveSpec → List (Frame Body) → ℕ → List (Service Spoken) → Option (Outcome Master.Reply × ℕ)
found_by s gs frame [] = None
found_by s gs frame (q ∷ qs) = outcome_of (hand_speech (record { out = s.out_len; back = s.in_len })) is_followed s.station gs (record { service = q; frame = frame })

-- the reply of an outcome
abbrev pub reply_of : Outcome Master.Reply → Master.Reply
reply_of (Outcome.Replied reply) = reply
reply_of Outcome.Handed = Some (ReplyKind.Handed, [])
reply_of Outcome.Reached = Some (ReplyKind.Done, [])
reply_of (Outcome.Refused code) = Some (ReplyKind.StateRefused code, [])

-- an answer is just that
abbrev pub IsFound : Option (Outcome Master.Reply × ℕ) → Answer → Type 0
IsFound found (Replied reply frame) = (o : Outcome Master.Reply) × (found ≡ Some (o, frame)) × (reply_of o ≡ Some (reply.kind, reply.value))
IsFound found InDoubt = found ≡ None
IsFound found NotSent = ⊥

-- a return to Init is reached with the frame that opened its slave anew, where its slave wasn't given up in between
abbrev pub reopened_by : List ℕ → ℕ → Option ℕ → Option (Outcome Master.Reply × ℕ)
reopened_by gave frame None = None
reopened_by gave frame (Some opened) = if nat_lt (first_from frame opened gave) opened then None else Some (Outcome.Reached, opened)

-- a row by the frames of its epoch
abbrev pub row_found : SlaveSpec → List (Frame Body) → List ℕ → Option ℕ → Row → Option (Outcome Master.Reply × ℕ)
row_found s gs gave opened r = if returns r.service then reopened_by gave r.frame opened else found_by s gs r.frame (spoken_of s r.service)

-- the frame of the next row comes behind that of an answer
abbrev pub IsBefore : Answer → List Row → Type 0
IsBefore answer [] = ⊤
IsBefore (Replied reply frame) (r ∷ rs) = frame < r.frame
IsBefore InDoubt (r ∷ rs) = ⊤
IsBefore NotSent (r ∷ rs) = ⊤

-- THE ANSWERS OF AN EPOCH are just those that its frames give from each row's frame on
abbrev pub AreFound : SlaveSpec → List (Frame Body) → List ℕ → Option ℕ → List Row → Type 0
AreFound s gs gave opened [] = ⊤
AreFound s gs gave opened (r ∷ rs) = IsFound (row_found s gs gave opened r) r.answer × IsBefore r.answer rs × AreFound s gs gave opened rs

-- ---- what the slave sends of itself

-- octets that came, with the frame that brought them, or its last part
pub record Came : Type 0 where
  pub octets : List ℕ
  pub frame : ℕ

-- octets by a frame
abbrev pub came_by : ℕ → List (List ℕ) → List Came
came_by frame all = map (λ octets. record { octets = octets; frame = frame }) all

-- the mails that each frame brought of a slave, repeats left out
abbrev pub mails_each : ℕ → List (Frame Body) → List (List Body)
mails_each station gs = map (λ news. mails_heard news) (news_each station nothing_kept gs)

-- the emergencies among them, from this frame on
abbrev pub emergencies_from : ℕ → List (List Body) → List Came
emergencies_from frame [] = []
emergencies_from frame (ms ∷ mss) = came_by frame (emergencies_in ms) ++ emergencies_from (suc frame) mss

-- the packets that they complete, behind what is unfinished
abbrev pub packets_by : ℕ → Option Unfinished → List Body → List (List Body) → List Came
packets_by frame before [] [] = []
packets_by frame before [] (ms ∷ mss) = packets_by (suc frame) before ms mss
packets_by frame before (m ∷ ms) mss = came_by frame (as_list (packet_in before m)) ++ packets_by frame (unfinished_behind before m) ms mss

-- packets of less than 14 octets come in nowhere
abbrev pub long_ones : List Came → List Came
long_ones [] = []
long_ones (c ∷ cs) = if nat_lt (length c.octets) 14 then long_ones cs else c ∷ long_ones cs

-- ---- of all epochs

-- a frame, or this end
abbrev pub or_end : ℕ → Option ℕ → ℕ
or_end end None = end
or_end end (Some frame) = frame

-- the end of an epoch before these: the frame whose return showed the next one's Init, or so many frames
abbrev pub end_of : ℕ → List EpochRows → ℕ
end_of end [] = end
end_of end (e ∷ es) = or_end end e.cleared

-- the answers of an epoch that was opened; of one that wasn't, no row has a reply of the frames
abbrev pub EpochFound : Scenario → List SentFrame → ℕ → SlaveSpec → List ℕ → ℕ → EpochRows → Option ℕ → Type 0
EpochFound plan fs place s gave end e None = AreFound s [] gave e.opened e.rows
EpochFound plan fs place s gave end e (Some opened) = AreFound s (own_frames plan fs (spot_of place s) gave opened end) gave e.opened e.rows

-- EACH ANSWER is just the one that the frames give
abbrev pub AllFound : Scenario → List SentFrame → ℕ → SlaveSpec → List ℕ → List EpochRows → Type 0
AllFound plan fs place s gave [] = ⊤
AllFound plan fs place s gave (e ∷ es) = EpochFound plan fs place s gave (end_of (length fs) es) e e.opened × AllFound plan fs place s gave es

-- what came of an epoch
abbrev pub epoch_mails : Scenario → List SentFrame → ℕ → SlaveSpec → ℕ → Option ℕ → List (List Body)
epoch_mails plan fs place s end None = []
epoch_mails plan fs place s end (Some opened) = mails_each s.station (era_frames (spot_of place s) opened end (frames_seen plan fs))

-- THE EMERGENCIES that the frames brought of a slave, each with its frame; of each epoch those of its mails
abbrev pub emergencies_of : Scenario → List SentFrame → ℕ → SlaveSpec → List EpochRows → List Came
emergencies_of plan fs place s [] = []
emergencies_of plan fs place s (e ∷ es) = emergencies_from 0 (epoch_mails plan fs place s (end_of (length fs) es) e.opened) ++ emergencies_of plan fs place s es

-- AND THE PACKETS, each with the frame that brought its last fragment; of each epoch those of its fragments
abbrev pub packets_of : Scenario → List SentFrame → ℕ → SlaveSpec → List EpochRows → List Came
packets_of plan fs place s [] = []
packets_of plan fs place s (e ∷ es) = long_ones (packets_by 0 None [] (epoch_mails plan fs place s (end_of (length fs) es) e.opened)) ++ packets_of plan fs place s es

-- a mail was told and isn't written yet, behind these news
abbrev pub is_held : Bool → List (News Body) → Bool
is_held held [] = held
is_held held (News.Told m ∷ ns) = is_held true ns
is_held held (News.Written ∷ ns) = is_held false ns
is_held held (n ∷ ns) = is_held held ns

-- A MAIL IS HELD of a slave in the last of its epochs: it was sent, and no write of it came back done
abbrev pub HoldsMail : Scenario → List SentFrame → ℕ → SlaveSpec → List EpochRows → Type 0
HoldsMail plan fs place s [] = ⊥
HoldsMail plan fs place s (e ∷ []) = (opened : ℕ) × (e.opened ≡ Some opened) × (is_held false (joined (news_each s.station nothing_kept (era_frames (spot_of place s) opened (length fs) (frames_seen plan fs)))) ≡ true)
HoldsMail plan fs place s (e ∷ (f ∷ es)) = HoldsMail plan fs place s (f ∷ es)
