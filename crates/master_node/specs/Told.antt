-- WHAT A MASTER SAYS OF THE NEWEST SERVICE of a slave, by what it has of it.
use Rattle.std.specs.Prelude.{◌≡◌, ℕ, Bool, true, false, Option, Some, None, List, [], ◌++◌, IfSome, slice_get}
use Rattle.life_runs.specs.of_exchange_model.Rows.{Row}
use Rattle.life_runs.specs.of_frame_view.View.{Lens}
use Rattle.life_runs.specs.of_frame_view.Shares.{AllBoth, Lived}
use Rattle.life_runs.specs.Led.{Leads}
use Rattle.life_runs.specs.of_life_model.Lives.{Stand}
use Rattle.life_runs.specs.of_link_mails.Body.{Body}
use Rattle.life_runs.specs.of_master_duty.Reply.{Reply}
use Rattle.life_runs.specs.of_master_hand.Spoken.{Asked, is_passed}
use Rattle.life_runs.specs.of_master_hand.declared.hand.InHand.{InHand}
use Rattle.life_runs.specs.of_master_side.declared.hand.Hand.{Ghosts}
use Rattle.life_runs.specs.of_master_tour.declared.stop.Stop.{Stop}
use Rattle.life_runs.specs.of_mailbox_mail.declared.outcome.ReplyKind.{ReplyKind}
pub use Rattle.master_node.specs.Answered.{answer_at}
use Rattle.master_node.specs.Shows.{IsLived}
use Rattle.master_node.specs.declared.node.MasterNode.{MasterNode}
use Rattle.master_node.specs.declared.told.Told.{Told}

-- of a slave: its life, and so many services of its script that came into hand, whatever is passed on to it
pub record IsTold (lens : ℕ → Lens) (recover : ℕ) {G : Ghosts InHand} (a : Leads) (s : Stop InHand G) : Type 0 where
  pub lives : IsLived lens recover a.lived s
  pub number : s.side.hand.laying.number ≡ a.number

-- a master has just these of its slaves
abbrev pub HasLeads : (ℕ → Lens) → ℕ → MasterNode → List Leads → Type 0
HasLeads lens recover m as' = AllBoth (λ a s. IsTold lens recover a s) as' m.tour.stops.items

-- the newest row has this answer, of some frame
pub record HasReply (now : Option (Row Body Asked Reply)) (reply : Reply) : Type 0 where
  pub row : Row Body Asked Reply
  pub frame : ℕ
  pub is : now ≡ Some row
  pub answer : row.answer ≡ Some (reply, frame)

-- THE NEWEST SERVICE BY MAILS, by its row: it has no answer; it has one of this kind, whose value stands behind these octets; or it passes a mail on
abbrev pub Tells : Told → List ℕ → List ℕ → Option (Row Body Asked Reply) → Type 0
Tells Told.Waits old new now = (row : Row Body Asked Reply) → now ≡ Some row → row.answer ≡ None
Tells (Told.Answered kind) old new now = (value : List ℕ) × (new ≡ old ++ value) × HasReply now (Some (kind, value))
Tells Told.Unknown old new now = (row : Row Body Asked Reply) → now ≡ Some row → is_passed row.service ≡ true

-- a master has just these lives of its slaves, whether mails are passed on or not
abbrev pub HasLives : (ℕ → Lens) → ℕ → MasterNode → List (Lived Asked Reply) → Type 0
HasLives lens recover m as' = AllBoth (λ a s. IsLived lens recover a s) as' m.tour.stops.items

-- the octets of an answer's value; most answers have none
abbrev pub value_by : Option (Reply × ℕ) → List ℕ
value_by None = []
value_by (Some (None, frame)) = []
value_by (Some (Some (kind, value), frame)) = value

-- of the newest service by mails
abbrev pub value_in : Option (Row Body Asked Reply) → List ℕ
value_in None = []
value_in (Some row) = value_by row.answer

-- an answer has a value
abbrev pub has_value : Option ReplyKind → Bool
has_value None = false
has_value (Some ReplyKind.Value) = true
has_value (Some _) = false

-- THE VALUE OF THE LAST ANSWER of the slave at a place, where that has one, stands behind these octets: by the slave's life, while it is open
abbrev pub AppendsValue : ℕ → MasterNode → List ℕ → List ℕ → Type 0
AppendsValue slave m old new =
    has_value (answer_at m.posts.items slave) ≡ true → (lens : ℕ → Lens) (recover : ℕ) (as' : List (Lived Asked Reply)) → HasLives lens recover m as' →
    IfSome (slice_get as' slave) (λ a. a.life.stand ≡ Stand.Open → new ≡ old ++ value_in a.life.era.side.now)
