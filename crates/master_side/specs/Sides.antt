-- WHAT A SIDE SHOWS, by its own hand and halves, and how that goes on before a frame.
use Rattle.std.specs.Prelude.{◌≡◌, ℕ, Bool, true, false, Option, Some, None, []}
use Rattle.frame_view.specs.of_exchange_model.Exchange.{Speech}
use Rattle.mailbox_master.specs.of_link_mails.Body.{Body}
use Rattle.master_duty.specs.of_segment_model.Ends as Ends
use Rattle.master_duty.specs.of_segment_model.Seats as Seats
use Rattle.master_duty.specs.of_segment_model.Seats.{next_mail}
use Rattle.master_duty.specs.Reply.{Reply}
use Rattle.master_duty.specs.of_state_model.Stated.{Service}
use Rattle.master_duty.specs.of_state_model.Accounts.{Account, new_account, is_free, is_acknowledged}
use Rattle.master_side.specs.Carried.{in_hand}
use Rattle.master_side.specs.Passing.{PassingShows, passing_behind}
use Rattle.master_side.specs.Recall.{Recall, recall_by, BeginsNone}
use Rattle.master_side.specs.Sent.{SameLink}
use Rattle.master_side.specs.Shown.{SideShows, Holds, Begins, Picked, new_side, wish_begun}
use Rattle.master_side.specs.declared.carried.Wish.{Wish}
use Rattle.master_side.specs.declared.hand.Hand.{Ghosts}
use Rattle.master_side.specs.declared.side.Side.{Side}

-- the speech of a slave, and what the model has of it: halves and rows, and what is counted
abbrev pub SpeechOf : Type 0 → Type 0
SpeechOf Q = Speech Body Q Reply

abbrev pub HalfOf : Type 0 → Type 0
HalfOf Q = Seats.Side Body Q Reply

abbrev pub AccountOf : Type 0 → Type 0
AccountOf Q = Account Q Reply

module _ {H : Type 0} {G : Ghosts H} where
  -- THE SIDE SHOWS this side and account of its slave
  abbrev pub ShowsOf : Side H G → SpeechOf G.Asked → HalfOf G.Asked → AccountOf G.Asked → Type 0
  ShowsOf s x d a = SideShows (G.shows s.hand x) s.out s.inn s.fresh s.duty d a

  -- and behind that those of a slave that is opened anew
  abbrev pub ShowsNew : Side H G → Side H G → Type 0
  ShowsNew s t = (x : SpeechOf G.Asked) (d : HalfOf G.Asked) (a : AccountOf G.Asked) → ShowsOf s x d a → ShowsOf t x new_side new_account

  -- the link to its slave stays
  abbrev pub LinkStays : Side H G → Side H G → Type 0
  LinkStays s t = SameLink s.out s.inn s.station s.area t.out t.inn t.station t.area

  -- what it remembers of its visits
  abbrev pub recall_in : Side H G → Recall
  recall_in s = recall_by s.paused s.duty s.passing s.turn (G.knows s.hand)

  -- THE NEXT MAIL IS TAKEN UP, or none is
  abbrev pub HoldsNext : Side H G → Side H G → Type 0
  HoldsNext s t = (x : SpeechOf G.Asked) (d : HalfOf G.Asked) (a : AccountOf G.Asked) → ShowsOf s x d a → Holds x d (λ e. ShowsOf t x e a)

  -- NO MAIL IS LEFT that could be taken up, where none is held and the hand knows its mails
  abbrev pub LeavesNone : Side H G → Type 0
  LeavesNone s = s.out.state ≡ None → G.knows s.hand ≡ true →
      (x : SpeechOf G.Asked) (d : HalfOf G.Asked) (a : AccountOf G.Asked) → ShowsOf s x d a → next_mail x d.now None true ≡ []

  -- WHERE IT IS FREE the newest service is over and acknowledged, and no state service is in hand
  abbrev pub FreeSays : Side H G → Bool → Type 0
  FreeSays s free = (x : SpeechOf G.Asked) (d : HalfOf G.Asked) (a : AccountOf G.Asked) → ShowsOf s x d a → free ≡ true →
      (is_free x d d.now ≡ true) × (is_acknowledged x G.acknowledged d d.now ≡ true) × (in_hand s.duty ≡ None)

  -- A SERVICE MAY BEGIN by the model: nothing is in hand, and the newest service is over and acknowledged
  abbrev pub MayBegin : Side H G → SpeechOf G.Asked → HalfOf G.Asked → Type 0 → Type 0
  MayBegin s x d P = in_hand s.duty ≡ None → s.passing ≡ None → is_free x d d.now ≡ true → is_acknowledged x G.acknowledged d d.now ≡ true → P

  -- and where that is so it is free, if its hand knows its mails
  abbrev pub FreeWhere : Side H G → Bool → Type 0
  FreeWhere s free = (x : SpeechOf G.Asked) (d : HalfOf G.Asked) (a : AccountOf G.Asked) → G.knows s.hand ≡ true → ShowsOf s x d a →
      MayBegin s x d (free ≡ true)

  -- where nothing began then, nothing could by this wish
  abbrev pub NoneMissed : Side H G → Bool → Option Wish → Type 0
  NoneMissed s began wish = (x : SpeechOf G.Asked) (d : HalfOf G.Asked) (a : AccountOf G.Asked) → G.knows s.hand ≡ true → ShowsOf s x d a →
      MayBegin s x d (began ≡ false → BeginsNone wish (G.ready s.hand))

  -- THIS COMES INTO HAND, where something does
  abbrev pub BeginsIn : Side H G → Side H G → Option (Service G.Asked) → Type 0
  BeginsIn s t begin = (x : SpeechOf G.Asked) (made : ℕ) (d : HalfOf G.Asked) (a : AccountOf G.Asked) → ShowsOf s x d a →
      Begins x G.acknowledged made d a begin (λ e b. ShowsOf t x e b)

  -- of a side that is free, the service by mails that is laid ready
  abbrev pub MailsBegin : Side H G → Side H G → Bool → Type 0
  MailsBegin s t began = (x : SpeechOf G.Asked) (made : ℕ) (d : HalfOf G.Asked) (a : AccountOf G.Asked) → ShowsOf s x d a → is_free x d d.now ≡ true →
      in_hand s.duty ≡ None → Begins x G.acknowledged made d a (wish_begun began (Some Wish.Mails) (G.ready s.hand)) (λ e b. ShowsOf t x e b)

  -- or a change of state
  abbrev pub StateBegins : Side H G → Side H G → ℕ → Type 0
  StateBegins s t target = (x : SpeechOf G.Asked) (made : ℕ) (d : HalfOf G.Asked) (a : AccountOf G.Asked) → ShowsOf s x d a → is_free x d d.now ≡ true →
      is_acknowledged x G.acknowledged d d.now ≡ true → in_hand s.duty ≡ None →
      Begins x G.acknowledged made d a (Some (Service.State target)) (λ e b. ShowsOf t x e b)

  -- THIS COMES INTO HAND, AND THE NEXT MAIL IS TAKEN UP, or none is
  abbrev pub PicksIn : Side H G → Side H G → Option (Service G.Asked) → Type 0
  PicksIn s t begin = (x : SpeechOf G.Asked) (made : ℕ) (d : HalfOf G.Asked) (a : AccountOf G.Asked) → ShowsOf s x d a →
      Picked x G.acknowledged made d a begin (λ e b. ShowsOf t x e b)

  -- A MAIL THAT IS PASSED ON has come as far as the life has it
  abbrev pub PassingOf : Side H G → Option Ends.Passing → Type 0
  PassingOf s p = PassingShows (G.awaits s.hand) s.passing p

  -- and goes on as the life's does where this comes into hand
  abbrev pub PassesIn : Side H G → Side H G → Option (Service G.Asked) → Type 0
  PassesIn s t begin = (p : Option Ends.Passing) → PassingOf s p → PassingOf t (passing_behind G.passed p begin)

  -- none is where none was, unless the service that was taken passes one on
  abbrev pub StaysPlain : Side H G → Side H G → Bool → Type 0
  StaysPlain s t taken = s.passing ≡ None → (taken ≡ true → (q : G.Asked) → G.ready s.hand ≡ Some q → G.passed q ≡ false) → t.passing ≡ None
