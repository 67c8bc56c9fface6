-- WHAT A POST HAS IN HAND, by its slave's life between two frames, and once this or that came into hand.
use Rattle.std.specs.Prelude.{◌≡◌, ◌⊎◌, ℕ, Bool, true, false, is_some, Option, Some, None}
use Rattle.life_runs.specs.of_master_duty.Reply.{Reply}
use Rattle.life_runs.specs.of_exchange_model.Exchange.{Speech}
use Rattle.life_runs.specs.of_exchange_model.Rows.{Row}
use Rattle.life_runs.specs.of_segment_model.Ends.{Passing}
use Rattle.life_runs.specs.of_segment_model.Seats.{Side}
use Rattle.life_runs.specs.of_state_model.Stated.{Service}
use Rattle.life_runs.specs.of_state_model.Accounts.{Duty, is_free, new_account}
use Rattle.life_runs.specs.of_master_hand.Spoken.{Asked, is_passed}
use Rattle.life_runs.specs.of_link_mails.Body.{Body}
use Rattle.life_runs.specs.of_life_model.Lives
use Rattle.life_runs.specs.of_life_model.Lives.{Life}
use Rattle.master_node.specs.Begins.{is_other}
use Rattle.master_node.specs.Named.{is_left}
use Rattle.master_node.specs.declared.post.Work.{Work}

-- a service of the script by mails, until it has its answer
abbrev pub AnswerHas : Bool → Work → Type 0
AnswerHas false work = work ≡ Work.Mails
AnswerHas true work = work ≡ Work.Nothing

-- a packet, until it is over and its hand knows its mails then; was that so once, it is in hand no more, whatever the hand knows later
abbrev pub PacketHas : Bool → Bool → Work → Type 0
PacketHas false knows work = work ≡ Work.Packet
PacketHas true true work = work ≡ Work.Nothing
PacketHas true false work = (work ≡ Work.Packet) ⊎ (work ≡ Work.Nothing)

-- by the newest service: whether it passes a mail on, which is over here, whether it is no packet, and whether it has its answer, which a packet never has
abbrev pub ServiceHas : Bool → Bool → Bool → Bool → Bool → Work → Type 0
ServiceHas true other free knows answered work = work ≡ Work.Nothing
ServiceHas false true free knows answered work = AnswerHas answered work
ServiceHas false false free knows answered work = (answered ≡ false) × PacketHas free knows work

abbrev pub NewestHas : Bool → Bool → Option (Row Body Asked Reply) → Work → Type 0
NewestHas free knows None work = work ≡ Work.Nothing
NewestHas free knows (Some r) work = ServiceHas (is_passed r.service) (is_other r.service) free knows (is_some r.answer) work

-- the newest service passes a mail on
pub record HasPassed (now : Option (Row Body Asked Reply)) : Type 0 where
  pub row : Row Body Asked Reply
  pub is : now ≡ Some row
  pub passed : is_passed row.service ≡ true

-- an opening that has shown Init has nothing of its epoch yet
pub record IsFresh (l : Life Body Asked Reply) : Type 0 where
  pub row : l.era.side.now ≡ None
  pub account : l.era.account ≡ new_account
  pub passing : l.era.passing ≡ None

-- of one that is opened: the change of state that wanted it
abbrev pub OpeningHas : Bool → Work → Type 0
OpeningHas true work = work ≡ Work.State
OpeningHas false work = work ≡ Work.Nothing

module _ (x : Speech Body Asked Reply) where
  -- OF AN OPEN SLAVE: a change of state, where one is in hand, and the newest service is over then; a mail that isn't over; or what the newest service has
  abbrev pub OpenHas : Bool → Side Body Asked Reply → Option Duty → Option Passing → Work → Type 0
  OpenHas knows d None None work = NewestHas (is_free x d d.now) knows d.now work
  OpenHas knows d None (Some passing) work = HasPassed d.now × ((key : ℕ) × (work ≡ Work.Passed key))
  OpenHas knows d (Some duty) passing work = (passing ≡ None) × NewestHas (is_free x d d.now) knows d.now Work.Nothing × (work ≡ Work.State)

  -- THE POST HAS IN HAND WHAT ITS SLAVE'S LIFE HAS, by how the master stands to it
  abbrev pub HasInHand : Bool → Life Body Asked Reply → Lives.Stand → Work → Type 0
  HasInHand knows l (Lives.Stand.Opens o) work = OpeningHas o.own work × (is_left (Lives.Stand.Opens o) ≡ false → IsFresh l)
  HasInHand knows l Lives.Stand.Open work = OpenHas knows l.era.side l.era.account.hand l.era.passing work
  HasInHand knows l Lives.Stand.Gone work = work ≡ Work.Nothing

-- WHAT CAME INTO HAND of a slave, as its post has it: by mails
abbrev pub MailsWork : Bool → Bool → Work → Type 0
MailsWork true other new = (key : ℕ) × (new ≡ Work.Passed key)
MailsWork false true new = new ≡ Work.Mails
MailsWork false false new = new ≡ Work.Packet

-- and a change of state; where nothing came that stays
abbrev pub WorkOf : Option (Service Asked) → Work → Work → Type 0
WorkOf None old new = new ≡ old
WorkOf (Some (Service.State target)) old new = new ≡ Work.State
WorkOf (Some (Service.Mails q)) old new = MailsWork (is_passed q) (is_other q) new
