-- WHAT A SIDE SHOWS BEHIND A FRAME: its datagram came back, or was lost.
use Rattle.std.specs.Prelude.{◌≡◌, ℕ, Bool, true, is_some, Option, None, List, map, option_map}
use Rattle.frame_view.specs.of_exchange_model.Rows.{Row, row_heard}
use Rattle.mailbox_master.specs.of_link_mails.Body.{Body}
use Rattle.mailbox_master.specs.of_link_model.Frames.{all_accepted}
use Rattle.master_duty.specs.of_segment_model.Ends as Ends
use Rattle.master_duty.specs.of_segment_model.Record.{News, Kept}
use Rattle.master_duty.specs.of_segment_model.Seats as Seats
use Rattle.master_duty.specs.of_segment_model.Slaves.{Datagram, grams}
use Rattle.frame_view.specs.of_life_model.Lives.{passes}
use Rattle.master_duty.specs.of_mailbox_mail.declared.mail.MailView.{MailView}
use Rattle.mailbox_master.specs.Any.{in_half_of}
use Rattle.master_duty.specs.Reply.{Reply}
use Rattle.master_duty.specs.of_state_model.Accounts.{duty_access, account_back}
use Rattle.master_side.specs.Carried.{Meant, IsBack, one, paused_after, turn_after}
use Rattle.master_side.specs.Due.{EachDue}
use Rattle.master_side.specs.Heard.{heard_of, Brought, HasJoined}
use Rattle.master_side.specs.Passing.{IsKept, counts_at, news_back, news_lost, read_behind}
use Rattle.master_side.specs.Sides.{SpeechOf, HalfOf, AccountOf, ShowsOf, LinkStays, PassingOf}
use Rattle.master_side.specs.declared.hand.Hand.{Ghosts}
use Rattle.master_side.specs.declared.side.Side.{Side}

-- the newest row of a slave
abbrev pub RowOf : Type 0 → Type 0
RowOf Q = Option (Row Body Q Reply)

module _ {H : Type 0} {G : Ghosts H} where
  -- its own datagram, as it was sent and as it comes back
  abbrev pub IsOwn : Side H G → HalfOf G.Asked → AccountOf G.Asked → Datagram Body → Type 0
  IsOwn s d a b = Meant s.station s.carried d.halves (duty_access a.hand) b

  -- the mails that its inward half accepts by that
  abbrev pub takes_of : Side H G → HalfOf G.Asked → Datagram Body → List Body
  takes_of s d b = all_accepted s.station d.halves (grams (one b))

  -- ITS DATAGRAM CAME BACK with this counter and these octets: link, row and state service go on by it
  abbrev pub BackShows : Side H G → Side H G → ℕ → List ℕ → Type 0
  BackShows s t counter octets = (x : SpeechOf G.Asked) (frame : ℕ) (b : Datagram Body) (d : HalfOf G.Asked) (a : AccountOf G.Asked) → ShowsOf s x d a →
      IsOwn s d a b → IsBack counter octets b → ShowsOf t x (Seats.side_back x frame s.station (one b) d) (account_back s.station frame a (one b))

  -- so does a mail that is passed on
  abbrev pub BackPasses : Side H G → Side H G → ℕ → List ℕ → Bool → Type 0
  BackPasses s t counter octets counts = (x : SpeechOf G.Asked) (kept : Kept) (p : Option Ends.Passing) (b : Datagram Body) (d : HalfOf G.Asked) (a : AccountOf G.Asked) →
      ShowsOf s x d a → IsKept kept d → PassingOf s p → IsOwn s d a b → IsBack counter octets b →
      PassingOf t (passes x G.acknowledged G.more G.passed p (news_back s.station kept counts (one b)))

  -- the hand tells what the mail brought that was accepted
  abbrev pub BackBrings : Side H G → Side H G → ℕ → List ℕ → Type 0
  BackBrings s t counter octets = s.heard ≡ None → (x : SpeechOf G.Asked) (b : Datagram Body) (d : HalfOf G.Asked) (a : AccountOf G.Asked) → ShowsOf s x d a →
      IsOwn s d a b → IsBack counter octets b → Brought (G.brings t.hand) t.heard (takes_of s d b)

  -- and keeps it to be handed on, where a reply of a mail that is passed on was awaited
  abbrev pub BackReplies : Side H G → Side H G → ℕ → List ℕ → Type 0
  BackReplies s t counter octets = s.heard ≡ None → (x : SpeechOf G.Asked) (b : Datagram Body) (d : HalfOf G.Asked) (a : AccountOf G.Asked) → ShowsOf s x d a →
      IsOwn s d a b → IsBack counter octets b → Brought (G.replied t.hand (G.awaits s.hand)) t.heard (takes_of s d b)

  -- and what it joined
  abbrev pub BackJoins : Side H G → Side H G → ℕ → List ℕ → Type 0
  BackJoins s t counter octets = s.heard ≡ None → (x : SpeechOf G.Asked) (b : Datagram Body) (d : HalfOf G.Asked) (a : AccountOf G.Asked) → ShowsOf s x d a →
      IsOwn s d a b → IsBack counter octets b →
      HasJoined G.joined (G.completed t.hand) (G.join s.hand) (G.join t.hand) t.heard (takes_of s d b)

  -- and goes on knowing its mails, where each that came was due
  abbrev pub BackKnows : Side H G → Side H G → ℕ → List ℕ → Type 0
  BackKnows s t counter octets = (x : SpeechOf G.Asked) (b : Datagram Body) (d : HalfOf G.Asked) (a : AccountOf G.Asked) → ShowsOf s x d a →
      IsOwn s d a b → IsBack counter octets b → G.knows s.hand ≡ true → EachDue x d.now (takes_of s d b) → G.knows t.hand ≡ true

  -- the frame of its last done read goes on with it
  abbrev pub ReadsOn : Side H G → Side H G → ℕ → ℕ → Type 0
  ReadsOn s t counter made = (t.pace ≡ s.pace) × (t.read_at ≡ read_behind s.carried (in_half_of s.inn).state counter made s.read_at)

  -- ALL OF THAT a side shows behind its datagram, which came back so in the frame of this number
  pub record CameBack (s t : Side H G) (counter : ℕ) (octets : List ℕ) (made : ℕ) : Type 0 where
    pub shown : BackShows s t counter octets
    pub link : LinkStays s t
    pub paused : t.paused ≡ paused_after s.carried (in_half_of s.inn).state counter s.paused
    pub turn : t.turn ≡ turn_after s.carried (in_half_of s.inn).state counter s.turn
    pub script : G.script t.hand ≡ G.script s.hand
    pub unpassed : s.passing ≡ None → t.passing ≡ None
    pub passing : BackPasses s t counter octets (counts_at s.read_at s.pace made)
    pub read : ReadsOn s t counter made
    pub brought : BackBrings s t counter octets
    pub replied : BackReplies s t counter octets
    pub joined : BackJoins s t counter octets
    pub knows : BackKnows s t counter octets
    pub sure : G.knows t.hand ≡ true → G.knows s.hand ≡ true

  -- behind a read nothing changes but how far a mail has come that is passed on, and the frame of the last done one
  abbrev pub ReadsAlone : Side H G → Side H G → Type 0
  ReadsAlone s t = (t.out ≡ s.out) × (t.inn ≡ s.inn) × (t.fresh ≡ s.fresh) × (t.duty ≡ s.duty) × (t.hand ≡ s.hand) × (t.heard ≡ s.heard)

  -- ITS DATAGRAM WAS LOST: the link goes on by that
  abbrev pub LostShows : Side H G → Side H G → Type 0
  LostShows s t = (x : SpeechOf G.Asked) (b : Datagram Body) (d : HalfOf G.Asked) (a : AccountOf G.Asked) → ShowsOf s x d a → IsOwn s d a b →
      ShowsOf t x (Seats.side_lost s.station (one b) d) a

  -- so does a mail that is passed on
  abbrev pub LostPasses : Side H G → Side H G → Type 0
  LostPasses s t = (x : SpeechOf G.Asked) (kept : Kept) (p : Option Ends.Passing) (b : Datagram Body) (d : HalfOf G.Asked) (a : AccountOf G.Asked) →
      ShowsOf s x d a → IsKept kept d → PassingOf s p → IsOwn s d a b → PassingOf t (passes x G.acknowledged G.more G.passed p (news_lost s.station kept (one b)))

  -- it remembers its visits as before, and the same state service; and a mail that is passed on isn't over by it
  abbrev pub LostRecalls : Side H G → Side H G → Type 0
  LostRecalls s t = (t.paused ≡ s.paused) × (t.turn ≡ s.turn) × (t.duty ≡ s.duty) × (G.knows t.hand ≡ G.knows s.hand) × (is_some t.passing ≡ is_some s.passing)

  -- where that was the write of the mail held, all of these stay
  abbrev pub LostWrite : Side H G → Side H G → Type 0
  LostWrite s t = (t.out ≡ s.out) × (t.inn ≡ s.inn) × (t.hand ≡ s.hand) × (t.duty ≡ s.duty) ×
      (t.station ≡ s.station) × (t.area ≡ s.area) × (t.carried ≡ s.carried)

  -- A MAIL THAT WAS ACCEPTED, or none: the row goes on by it
  abbrev pub HearsShown : Side H G → Side H G → Option MailView → Type 0
  HearsShown s t mail = (x : SpeechOf G.Asked) (made : ℕ) (now : RowOf G.Asked) → G.shows s.hand x now →
      G.shows t.hand x (option_map (λ r. row_heard x made (heard_of mail) r) now)

  -- and so does a mail that is passed on
  abbrev pub HearsPassing : Side H G → Side H G → Option MailView → Type 0
  HearsPassing s t mail = (x : SpeechOf G.Asked) (p : Option Ends.Passing) (now : RowOf G.Asked) → G.shows s.hand x now → PassingOf s p →
      PassingOf t (passes x G.acknowledged G.more G.passed p (map (λ m. News.Heard m) (heard_of mail)))

  -- the hand keeps it to be handed on, where a reply of a mail that is passed on was awaited
  abbrev pub HearsReplied : Side H G → Side H G → Option MailView → Type 0
  HearsReplied s t mail = s.heard ≡ None → Brought (G.replied t.hand (G.awaits s.hand)) t.heard (heard_of mail)

  -- the hand tells what it joined
  abbrev pub HearsJoined : Side H G → Side H G → Option MailView → Type 0
  HearsJoined s t mail = s.heard ≡ None → HasJoined G.joined (G.completed t.hand) (G.join s.hand) (G.join t.hand) t.heard (heard_of mail)

  -- and goes on knowing its mails, where it was due
  abbrev pub HearsKnown : Side H G → Side H G → Option MailView → Type 0
  HearsKnown s t mail = (x : SpeechOf G.Asked) (now : RowOf G.Asked) → G.shows s.hand x now → G.knows s.hand ≡ true →
      EachDue x now (heard_of mail) → G.knows t.hand ≡ true
