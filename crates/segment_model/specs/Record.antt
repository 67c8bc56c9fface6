-- The record of a run: frames as they were sent and came back, and the news that they bring of one slave, frame by frame.
use Rattle.std.specs.Prelude.{ℕ, suc, ◌==◌, ◌%◌, ◌&&◌, Bool, true, false, not, if◌then◌else◌, Option, Some, None, List, [], ◌∷◌, ◌++◌, map, drop}
use Rattle.exchange_model.specs.Exchange.{Exchange}
use Rattle.link_model.specs.Mails.{news, seen}
use Rattle.link_model.specs.Frames.{Ask, Gram, mail_back}
use Rattle.link_model.specs.Segment.{RingFate}
use Rattle.segment_model.specs.Slaves.{Processor, Datagram, Address, Found, grams, Ring, ring_after, ring_back, ring_steps, Move}

-- a frame: as it was sent, its fate, and as it came back, which is empty where it was lost
pub record Frame (M : Type 0) : Type 0 where
  pub sent : List (Datagram M)
  pub fate : RingFate
  pub back : List (Datagram M)

-- the frame of a move at this ring
abbrev pub frame_of : {V M : Type 0} → Ring V M → Move M → Frame M
frame_of ns m = record { sent = m.sent; fate = m.fate; back = ring_back ns m.sent m.fate }

-- the frames of a list of moves
abbrev pub recorded : {V A M Q R : Type 0} → Exchange V A M Q R → Processor V → Ring V M → List (Move M) → List (Frame M)
recorded x processor ns [] = []
recorded x processor ns (m ∷ ms) = frame_of ns m ∷ recorded x processor (ring_steps x processor (ring_after ns m.sent m.fate) m.steps) ms

-- what was sent, with its fate
abbrev pub sent_fates : {M : Type 0} → List (Frame M) → List (List (Datagram M) × RingFate)
sent_fates fs = map (λ f. (f.sent, f.fate)) fs

-- what frames tell of a slave: a mail is sent to mailbox 0 for the first time; a write of mailbox 0 is done; a read of mailbox 1 brings a
-- mail that is no repeat, or finds it empty; mailbox 0 was seen full or empty; an AL state was read, with the code where the error flag stands
pub data News (M : Type 0) : Type 0 where
  Told : M → News M
  Written : News M
  Heard : M → News M
  NothingRead : News M
  BoxFull : Bool → News M
  Status : ℕ → Option ℕ → News M

-- the counters of the last mail told and of the last mail heard, 0 while there is none
pub record Kept : Type 0 where
  pub told : ℕ
  pub heard : ℕ

-- the datagram is addressed to this station
abbrev pub is_for : ℕ → Address → Bool
is_for station (Address.Station other) = other == station
is_for station (Address.Place n) = false
is_for station Address.Passed = false

-- the mail of a write that is sent, if it is no repeat
abbrev pub mail_told : {M : Type 0} → ℕ → Ask M → List M
mail_told last (Ask.WriteMail m) = news last (Some m)
mail_told last Ask.ReadMail = []
mail_told last (Ask.WriteRequest bit) = []
mail_told last Ask.ReadAcknowledge = []
mail_told last Ask.Other = []

-- the counter of the last mail told behind it
abbrev pub last_told : {M : Type 0} → ℕ → Ask M → ℕ
last_told last (Ask.WriteMail m) = m.counter
last_told last Ask.ReadMail = last
last_told last (Ask.WriteRequest bit) = last
last_told last Ask.ReadAcknowledge = last
last_told last Ask.Other = last

-- all mails that a sent frame tells this station
abbrev pub all_told : {M : Type 0} → ℕ → ℕ → List (Gram M) → List M
all_told station last [] = []
all_told station last (g ∷ gs) =
    (if g.station == station then mail_told last g.ask else []) ++ all_told station (if g.station == station then last_told last g.ask else last) gs

-- the counter of the last mail told behind it
abbrev pub told_behind : {M : Type 0} → ℕ → ℕ → List (Gram M) → ℕ
told_behind station last [] = last
told_behind station last (g ∷ gs) = told_behind station (if g.station == station then last_told last g.ask else last) gs

-- what a returned datagram to a mailbox tells
abbrev pub gram_news : {M : Type 0} → ℕ → Ask M → Gram M → List (News M)
gram_news last (Ask.WriteMail m) g = if g.counter == 0 then [] else News.Written ∷ []
gram_news last Ask.ReadMail g = if g.counter == 0 then News.NothingRead ∷ [] else map (λ m. News.Heard m) (news last g.mail)
gram_news last (Ask.WriteRequest bit) g = []
gram_news last Ask.ReadAcknowledge g = []
gram_news last Ask.Other g = []

-- the counter of the last mail heard behind it
abbrev pub last_heard : {M : Type 0} → ℕ → Ask M → Gram M → ℕ
last_heard last (Ask.WriteMail m) g = last
last_heard last Ask.ReadMail g = seen last (mail_back g)
last_heard last (Ask.WriteRequest bit) g = last
last_heard last Ask.ReadAcknowledge g = last
last_heard last Ask.Other g = last

-- what a returned access to another register tells
abbrev pub found_news : {M : Type 0} → Option Found → List (News M)
found_news None = []
found_news (Some (Found.State state refused)) = News.Status state refused ∷ []
found_news (Some (Found.Full full)) = News.BoxFull full ∷ []

-- what a returned datagram tells a station in all
abbrev pub datagram_news : {M : Type 0} → ℕ → ℕ → Datagram M → List (News M)
datagram_news station last d =
    (if d.gram.station == station then gram_news last d.gram.ask d.gram else [])
    ++ (if is_for station d.address then (if d.counter == 0 then [] else found_news d.found) else [])

-- all that a returned frame tells, datagram by datagram
abbrev pub back_news : {M : Type 0} → ℕ → ℕ → List (Datagram M) → List (News M)
back_news station last [] = []
back_news station last (d ∷ ds) =
    datagram_news station last d ++ back_news station (if d.gram.station == station then last_heard last d.gram.ask d.gram else last) ds

-- the counter of the last mail heard behind it
abbrev pub heard_behind : {M : Type 0} → ℕ → ℕ → List (Datagram M) → ℕ
heard_behind station last [] = last
heard_behind station last (d ∷ ds) = heard_behind station (if d.gram.station == station then last_heard last d.gram.ask d.gram else last) ds

-- the news of a frame: first what it was sent with, then what it brought back
abbrev pub frame_news : {M : Type 0} → ℕ → Kept → Frame M → List (News M)
frame_news station kept f = map (λ m. News.Told m) (all_told station kept.told (grams f.sent)) ++ back_news station kept.heard f.back

-- the counters behind a frame
abbrev pub kept_after : {M : Type 0} → ℕ → Kept → Frame M → Kept
kept_after station kept f = record { told = told_behind station kept.told (grams f.sent); heard = heard_behind station kept.heard f.back }

-- THE RECORD OF A SLAVE: its news, one list per frame
abbrev pub news_each : {M : Type 0} → ℕ → Kept → List (Frame M) → List (List (News M))
news_each station kept [] = []
news_each station kept (f ∷ fs) = frame_news station kept f ∷ news_each station (kept_after station kept f) fs

-- the counters behind these frames
abbrev pub kept_all : {M : Type 0} → ℕ → Kept → List (Frame M) → Kept
kept_all station kept [] = kept
kept_all station kept (f ∷ fs) = kept_all station (kept_after station kept f) fs

-- at the end of bring-up
abbrev pub nothing_kept : Kept
nothing_kept = record { told = 0; heard = 0 }

-- the news of a slave from this frame on, frame by frame
abbrev pub news_from : {M : Type 0} → ℕ → ℕ → List (Frame M) → List (List (News M))
news_from station frame fs = drop frame (news_each station nothing_kept fs)

-- the mails heard among news
abbrev pub mails_heard : {M : Type 0} → List (News M) → List M
mails_heard [] = []
mails_heard (News.Heard m ∷ ns) = m ∷ mails_heard ns
mails_heard (News.Told m ∷ ns) = mails_heard ns
mails_heard (News.Written ∷ ns) = mails_heard ns
mails_heard (News.NothingRead ∷ ns) = mails_heard ns
mails_heard (News.BoxFull full ∷ ns) = mails_heard ns
mails_heard (News.Status state refused ∷ ns) = mails_heard ns

-- lists one behind the other
abbrev pub joined : {X : Type 0} → List (List X) → List X
joined [] = []
joined (xs ∷ xss) = xs ++ joined xss

-- the mails of the reads of a slave's mailbox 1 that were done, in order, repeats left out
abbrev pub heard : {M : Type 0} → ℕ → List (Frame M) → List M
heard station fs = mails_heard (joined (news_each station nothing_kept fs))

-- a result with its frame, or the later one
abbrev pub or_later : {R : Type 0} → Option R → ℕ → Option (R × ℕ) → Option (R × ℕ)
or_later None frame later = later
or_later (Some r) frame later = Some (r, frame)

-- THE FIRST ANSWER: the first frame with which `ends` gives a result for the news so far, and the result
abbrev pub first_end : {N R : Type 0} → (List N → Option R) → ℕ → List N → List (List N) → Option (R × ℕ)
first_end ends frame before [] = None
first_end ends frame before (ns ∷ nss) = or_later (ends (before ++ ns)) frame (first_end ends (suc frame) (before ++ ns) nss)

-- a read of mailbox 1 was done
abbrev pub is_read : {M : Type 0} → Ask M → Bool
is_read (Ask.WriteMail m) = false
is_read Ask.ReadMail = true
is_read (Ask.WriteRequest bit) = false
is_read Ask.ReadAcknowledge = false
is_read Ask.Other = false

-- a done read of mailbox 1 of this station came back in the frame
abbrev pub did_read : {M : Type 0} → ℕ → List (Gram M) → Bool
did_read station [] = false
did_read station (g ∷ gs) = if g.station == station && is_read g.ask && not (g.counter == 0) then true else did_read station gs

-- news without empty reads
abbrev pub without_empty : {M : Type 0} → List (News M) → List (News M)
without_empty [] = []
without_empty (News.NothingRead ∷ ns) = without_empty ns
without_empty (News.Told m ∷ ns) = News.Told m ∷ without_empty ns
without_empty (News.Written ∷ ns) = News.Written ∷ without_empty ns
without_empty (News.Heard m ∷ ns) = News.Heard m ∷ without_empty ns
without_empty (News.BoxFull full ∷ ns) = News.BoxFull full ∷ without_empty ns
without_empty (News.Status state refused ∷ ns) = News.Status state refused ∷ without_empty ns

-- the news of a slow slave, for a mail that is passed on: an empty read counts only where the slave's processor, which steps behind each
-- frame j whose j + 1 its pace divides, made a step since the last done read; `stepped` says so before frame j
abbrev pub counted_each : {M : Type 0} → ℕ → ℕ → ℕ → Bool → List (Frame M) → List (List (News M)) → List (List (News M))
counted_each station pace j stepped [] nss = nss
counted_each station pace j stepped (f ∷ fs) [] = []
counted_each station pace j stepped (f ∷ fs) (ns ∷ nss) =
    (if stepped then ns else without_empty ns)
    ∷ counted_each station pace (suc j) (if suc j % pace == 0 then true else stepped && not (did_read station (grams f.back))) fs nss

-- from this frame on; before the first done read each empty read counts
abbrev pub counted_from : {M : Type 0} → ℕ → ℕ → ℕ → List (Frame M) → List (List (News M))
counted_from station pace frame fs = drop frame (counted_each station pace 0 true fs (news_each station nothing_kept fs))
