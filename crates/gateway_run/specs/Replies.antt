-- WHAT EACH DATAGRAM OF A SERVING GOT, by the lives of the slaves: nothing, one error, or the first of the replies of its own row, and all of them where that is
-- done.
use Rattle.std.specs.Prelude.{◌≡◌, ◌≢◌, ◌<◌, ◌≤◌, ◌⊎◌, ℕ, suc, Bool, true, false, Option, Some, None, List, [], ◌∷◌, ◌++◌, length, map, slice_get, All, Ok, Err, ⊤}
use Rattle.run_record.specs.of_exchange_model.Exchange.{plain}
use Rattle.run_record.specs.of_master_node.Wants.{gave_of}
use Rattle.run_record.specs.of_exchange_model.Rows.{Row}
use Rattle.gateway_core.specs.Framing.{request_in}
use Rattle.gateway_core.specs.declared.framing.GatewayFault.{GatewayFault}
use Rattle.run_record.specs.of_served_places.Rows.{AreAll, HearsNoMore, ToldAll, passed_rows, passings, replies_of}
use Rattle.run_record.specs.of_life_runs.Served.{IsServedFrame, Keyed, ServedTurn, Serves}
use Rattle.run_record.specs.of_life_runs.Told.{Passed}
use Rattle.gateway_core.specs.of_mailbox_mail.Mail.{error_of}
use Rattle.gateway_core.specs.of_mailbox_mail.declared.mail.Mail.{Mail}
use Rattle.run_record.specs.of_frame_view.Shares.{AllBoth}
use Rattle.run_record.specs.of_life_runs.First.{lens_of}
use Rattle.run_record.specs.of_life_runs.Led.{Exchanged}
use Rattle.run_record.specs.of_link_mails.Body.{Body}
use Rattle.run_record.specs.of_master_duty.Reply.{Reply}
use Rattle.run_record.specs.of_master_hand.Spoken.{Asked, emission, passed}
use Rattle.run_record.specs.of_master_tour.Made.{is_in}
use Rattle.run_record.specs.of_segment_model.Ends.{Passing}
use Rattle.run_record.specs.of_run_book.declared.book.GramIn.{GramIn}
use Rattle.run_record.specs.of_run_book.declared.book.SentFrame.{SentFrame}
use Rattle.run_record.specs.Served.{ServeTo, Serving}
use Rattle.run_record.specs.Session.{SessionState}
use Rattle.run_record.specs.of_segment_plan.declared.plan.Scenario.{Scenario}
use Rattle.gateway_run.specs.Account.{Course, Course.begins, Course.hears, Course.steps, Owing}
use Rattle.gateway_run.specs.Desk.{AreApart}
use Rattle.gateway_run.specs.Events.{events_of}
use Rattle.gateway_run.specs.Rooms.{AreFiled, AreRising, begun_of, done_by_all, grams_of, owed_for, waiting_of}
use Rattle.gateway_run.specs.Since.{GaveSince, NoneSince, SparedBetween}
use Rattle.gateway_run.specs.declared.desk.Request.{Request}

-- mails of a slave as they are told, without address and counter
abbrev pub mails_told : List Body → List Mail
mails_told [] = []
mails_told (Ok m ∷ bs) = record m { address = 0; counter = 0 } ∷ mails_told bs
mails_told (Err fault ∷ bs) = mails_told bs

-- a mail that was passed on is the one that a datagram asks
pub record IsSame (asked mail : Mail) : Type 0 where
  pub kind : mail.kind ≡ asked.kind
  pub body : mail.body.items ≡ asked.body.items

-- THE ROW OF A DATAGRAM: among the rows of the mails that were passed on to its slave it stands where the datagram stands among those whose mails came into hand,
-- in order; the row is that of its mail, and these are the first of the replies that were heard for it
pub record HasRow (w : Serves) (came : List ℕ) (number : ℕ) (asked : Mail) (told : List Body) : Type 0 where
  pub index : ℕ
  pub its : slice_get came index ≡ Some number
  pub row : Row Body Asked Reply
  pub is : slice_get (passed_rows w.lead.lived.life) index ≡ Some row
  pub mail : Mail
  pub same : IsSame asked mail
  pub service : row.service ≡ passed mail
  pub rest : List Body
  pub heard : plain emission row.heard ≡ told ++ rest

-- WHERE THE ROW OF A DATAGRAM IS DONE, which began at this frame, it has all its replies; where it isn't, one of these requests is its datagram's and its slave
-- wasn't given up since, or its slave was
abbrev pub StandsSo : Serves → List Request → ℕ → ℕ → List Body → Bool → Type 0
StandsSo w begun number began told true = AreAll told
StandsSo w begun number began told false = ((is_in number (grams_of begun) ≡ true) × NoneSince began (gave_of w.lead)) ⊎ GaveSince began (gave_of w.lead)

-- WHAT A DATAGRAM GOT THAT WAS PASSED ON, heard before this frame, by the requests of its slave whose mails wait and that whose mail is in hand: nothing while its
-- mail waits, and its slave wasn't given up since; error 5 where its slave was given up since, and its mail never came into hand; or the first replies of its row,
-- and its slave wasn't given up while its mail waited
pub data Fares (w : Serves) (came : List ℕ) (waiting begun : List Request) (done : Bool) (number heard : ℕ) (asked : Mail) (mails : List Mail) : Type 0 where
  waits : is_in number (grams_of waiting) ≡ true → done ≡ false → NoneSince heard (gave_of w.lead) → mails ≡ [] → Fares w came waiting begun done number heard asked mails
  dropped :
      is_in number (grams_of waiting) ≡ false → is_in number (grams_of begun) ≡ false → is_in number came ≡ false → done ≡ false → GaveSince heard (gave_of w.lead)
      → mails ≡ error_of 5 ∷ [] → Fares w came waiting begun done number heard asked mails
  replies :
      (told : List Body) (its : HasRow w came number asked told) → SparedBetween heard its.row.frame (gave_of w.lead) → StandsSo w begun number its.row.frame told done
      → mails ≡ mails_told told → Fares w came waiting begun done number heard asked mails

-- WHAT A DATAGRAM GOT: one that is no request nothing, one that the gateway answered by itself one error, which is never 7, and any other what it got that was passed on; `dones`
-- are those whose rows are done
pub data Got (serves : List Serves) (came : List (List ℕ)) (rs : List Request) (dones : List ℕ) (number : ℕ) (g : GramIn) (mails : List Mail) : Type 0 where
  ignored : (fault : GatewayFault) → request_in g.bytes ≡ Err fault → g.queued ≡ None → mails ≡ [] → Got serves came rs dones number g mails
  refused : (asked : Mail) (detail : ℕ) → request_in g.bytes ≡ Ok asked → g.queued ≡ None → detail ≢ 7 → mails ≡ error_of detail ∷ [] → Got serves came rs dones number g mails
  queued :
      (asked : Mail) (slave : ℕ) (w : Serves) (numbers : List ℕ) → request_in g.bytes ≡ Ok asked → g.queued ≡ Some slave → slice_get serves slave ≡ Some w → slice_get came slave ≡ Some numbers
      → Fares w numbers (waiting_of slave rs) (begun_of slave rs) (is_in number dones) number g.frame asked mails → Got serves came rs dones number g mails

-- those heard from a number on, each by what was owed for it
abbrev pub AllGot : List Serves → List (List ℕ) → List Request → List ℕ → List Owing → ℕ → List GramIn → Type 0
AllGot serves came rs dones os n [] = ⊤
AllGot serves came rs dones os n (g ∷ gs) = Got serves came rs dones n g (owed_for n os) × AllGot serves came rs dones os (suc n) gs

-- A REQUEST IS OF A DATAGRAM that was heard, and passed on to its slave
pub record IsHeard (gs : List GramIn) (r : Request) : Type 0 where
  pub gram : GramIn
  pub there : slice_get gs r.gram ≡ Some gram
  pub queued : gram.queued ≡ Some r.slave

-- A DATAGRAM OF THIS SLAVE was heard, and passed on to it
pub record IsOurs (gs : List GramIn) (slave n : ℕ) : Type 0 where
  pub gram : GramIn
  pub there : slice_get gs n ≡ Some gram
  pub queued : gram.queued ≡ Some slave

-- A MAIL STANDS FOR A REQUEST: it was asked under its key, and is the one that its datagram asks
pub record IsFor (gs : List GramIn) (r : Request) (k : Keyed) : Type 0 where
  pub key : k.key ≡ r.key
  pub of_gram : IsHeard gs r
  pub asked : Mail
  pub request : request_in of_gram.gram.bytes ≡ Ok asked
  pub same : IsSame asked k.mail

-- the mail in hand that is passed on, while it isn't over
abbrev pub keyed_in : Option Passed → Option Passing → List Keyed
keyed_in (Some p) (Some passing) = record { key = p.key; mail = p.mail } ∷ []
keyed_in (Some p) None = []
keyed_in None passing = []

-- THE MAIL THAT CAME INTO HAND LAST, as long as no other service did: it is of the last of these datagrams, and what was told of it is what was owed for that
pub record IsNewest (gs : List GramIn) (slave : ℕ) (came : List ℕ) (os : List Owing) (p : Passed) : Type 0 where
  pub before : List ℕ
  pub number : ℕ
  pub last : came ≡ before ++ number ∷ []
  pub gram : GramIn
  pub there : slice_get gs number ≡ Some gram
  pub queued : gram.queued ≡ Some slave
  pub asked : Mail
  pub request : request_in gram.bytes ≡ Ok asked
  pub same : IsSame asked p.mail
  pub owed : owed_for number os ≡ mails_told p.told

-- nothing was owed by a request's datagram so far
abbrev pub IsNew : List Owing → Request → Type 0
IsNew os r = owed_for r.gram os ≡ []

-- A ROW OF A DATAGRAM that was passed on began no earlier than that was heard: no fewer frames had been sent
abbrev pub IsLate : List GramIn → ℕ → Row Body Asked Reply → Type 0
IsLate gs number row = (g : GramIn) → slice_get gs number ≡ Some g → g.frame ≤ row.frame

-- WHAT A DESK OWES AT ONE SLAVE IS WHAT THE SLAVE'S LIFE HAS: just its mails that wait have requests that didn't begin, in order; just the mail in hand has one
-- that did, while it isn't over, and that is of the last datagram whose mail came into hand; so many mails were passed on, in the order of their datagrams, none
-- before its datagram was heard
pub record IsDesk (gs : List GramIn) (os : List Owing) (slave : ℕ) (w : Serves) (came : List ℕ) (waiting begun : List Request) : Type 0 where
  pub waits : AllBoth (IsFor gs) waiting w.waits
  pub in_hand : AllBoth (IsFor gs) begun (keyed_in w.hand w.lead.lived.life.era.passing)
  pub its : (r : Request) → begun ≡ r ∷ [] → (before : List ℕ) × (came ≡ before ++ r.gram ∷ [])
  pub newest : (p : Passed) → w.hand ≡ Some p → IsNewest gs slave came os p
  pub new : All (IsNew os) waiting
  pub many : length came ≡ length (passed_rows w.lead.lived.life)
  pub ours : All (IsOurs gs slave) came
  pub rising : AreRising (came ++ grams_of waiting)
  pub late : AllBoth (IsLate gs) came (passed_rows w.lead.lived.life)

-- of all slaves, counted on from a number
abbrev pub AllDesk : List GramIn → List Request → List Owing → ℕ → List Serves → List (List ℕ) → Type 0
AllDesk gs rs os slave [] [] = ⊤
AllDesk gs rs os slave (w ∷ ws) (ns ∷ nss) = IsDesk gs os slave w ns (waiting_of slave rs) (begun_of slave rs) × AllDesk gs rs os (suc slave) ws nss
AllDesk gs rs os slave _ _ = ⊥

-- its row isn't done
abbrev pub IsUndone : List ℕ → Request → Type 0
IsUndone dones r = is_in r.gram dones ≡ false

-- NO FRAME OF THESE BRINGS A REPLY MORE to a mail that was passed on and is over, by whatever lives they lead
abbrev pub HearNoMore : Scenario → List Exchanged → Type 0
HearNoMore plan fs =
    (front back : List Exchanged) (f : Exchanged) → fs ≡ front ++ f ∷ back → (missed : ℕ) (ws : List Serves) → ServeTo plan front missed ws → (vs : List ServedTurn) → IsServedFrame (lens_of plan.slaves) (length front) f.sent ws vs →
    All (HearsNoMore (lens_of plan.slaves) plan.recover plan.retry f) vs

-- what was owed for each of these datagrams
abbrev pub owed_in : List Owing → List ℕ → List (List Mail)
owed_in os came = map (λ (n : ℕ). owed_for n os) came

-- WHAT WAS OWED for each datagram whose mail came into hand of a slave are all replies that were heard in its row; and where that is done, the mail is over
pub record GivesAll (os : List Owing) (done : ℕ → Bool) (w : Serves) (came : List ℕ) : Type 0 where
  pub heard : owed_in os came ≡ map mails_told (replies_of (passed_rows w.lead.lived.life))
  pub over : AllBoth (λ n p. done n ≡ true → p ≡ None) came (passings w.lead.lived.life)

-- THE COURSE OF A SERVING by the lives of its slaves: its session is led by these frames, each desk is what the lives have, and each datagram got what is its own
pub record Answers (plan : Scenario) (s : SessionState) (fs : List Exchanged) (gs : List GramIn) (rs : List Request) (os : List Owing) (dones : List ℕ) : Type 0 where
  pub serving : Serving plan s fs
  pub came : List (List ℕ)
  pub desk : AllDesk gs rs os 0 serving.leading.serves came
  -- what was told of the mail passed on last to each slave are all its replies, where it is over
  pub told : All ToldAll serving.leading.serves
  -- the requests that aren't finished: each is of a datagram of its own, that was heard and isn't done, and under a key of its own
  pub apart : AreApart rs
  pub filed : AreFiled rs
  pub heard : All (IsHeard gs) rs
  pub undone : All (IsUndone dones) rs
  -- each was heard behind no more frames than these; nothing is owed by one that wasn't heard, and no row of one is done
  pub early : All (λ (g : GramIn). g.frame ≤ length fs) gs
  pub ended : All (λ (n : ℕ). n < length gs) dones
  pub owed : All (λ (o : Owing). o.gram < length gs) os
  pub got : AllGot serving.leading.serves came rs dones os 0 gs
  -- so many replies as were heard, where frames bring none more to a mail that is over
  pub whole : HearNoMore plan fs → AllBoth (GivesAll os (λ (n : ℕ). is_in n dones)) serving.leading.serves came

-- THE DATAGRAMS WHOSE ROWS WERE DONE in a course, as its session told
abbrev pub dones_of : (plan : Scenario) (count : ℕ) (s : SessionState) (fs : List SentFrame) (gs : List GramIn) (rs : List Request) (os : List Owing) → Course plan count s fs gs rs os → List ℕ
dones_of plan count _ _ _ _ _ (begins s first serves) = []
dones_of plan count _ _ _ _ _ (hears s s' fs gs g rs rs' os more c at few judges) = dones_of plan count s fs gs rs os c
dones_of plan count _ _ _ _ _ (steps s s' fs f gs rs os c m) = dones_of plan count s fs gs rs os c ++ done_by_all (events_of s'.master) rs
