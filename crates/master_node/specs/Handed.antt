-- WHAT A POST HAS IN HAND of a mail that is passed on: as it is laid ready, as it comes into hand, and behind a frame.
use Rattle.std.specs.Prelude.{◌≡◌, ◌⊎◌, ◌&&◌, ◌||◌, not, ℕ, zero, suc, Bool, if◌then◌else◌, is_some, Option, Some, None, List, [], ◌∷◌, ⊤}
use Rattle.life_runs.specs.Led.{speech_at}
use Rattle.life_runs.specs.of_frame_view.View.{Lens}
use Rattle.life_runs.specs.of_master_duty.Reply.{Reply}
use Rattle.life_runs.specs.of_state_model.Stated.{Service}
use Rattle.life_runs.specs.of_state_model.Accounts.{Duty}
use Rattle.life_runs.specs.of_master_hand.Spoken.{Asked, is_passed}
use Rattle.life_runs.specs.of_master_hand.declared.hand.InHand.{InHand}
use Rattle.life_runs.specs.of_master_side.Passing.{passing_behind}
use Rattle.life_runs.specs.of_master_side.declared.hand.Hand.{Ghosts}
use Rattle.life_runs.specs.of_link_mails.Body.{Body}
use Rattle.life_runs.specs.of_master_tour.Goes.{holds_at}
use Rattle.life_runs.specs.of_master_tour.Made.{is_in}
use Rattle.life_runs.specs.of_master_tour.declared.stop.Stop.{Stop}
use Rattle.life_runs.specs.of_life_model.Lives.{Life}
use Rattle.life_runs.specs.Served.{Keyed, Serves}
use Rattle.life_runs.specs.Told.{Passed}
pub use Rattle.master_node.specs.Named.{IsHanded, IsNamed, StaysNamed, is_left}
use Rattle.master_node.specs.Inhand.{HasInHand, WorkOf}
use Rattle.master_node.specs.Serving.{waits_of}
use Rattle.master_node.specs.declared.coming.Coming.{Coming}
use Rattle.master_node.specs.declared.post.Post.{Post}
use Rattle.master_node.specs.declared.post.Work.{Work}

-- the oldest mail, under the key of its asker
abbrev pub IsOldestWork : List Keyed → Work → Type 0
IsOldestWork [] work = ⊤
IsOldestWork (k ∷ ks) work = work ≡ Work.Passed k.key

-- what is laid ready of these mails and the rest, as its post has it
abbrev pub IsNextWork : Option Coming → List Keyed → Work → Type 0
IsNextWork None ks work = ⊤
IsNextWork (Some Coming.Packet) ks work = work ≡ Work.Packet
IsNextWork (Some Coming.Mail) ks work = IsOldestWork ks work
IsNextWork (Some Coming.Script) ks work = work ≡ Work.Mails
IsNextWork (Some (Coming.State target)) ks work = work ≡ Work.State

-- as it is laid ready what is in hand stays
pub record LaysWork (coming : Option Coming) (p q : Post) : Type 0 where
  pub work : q.work ≡ p.work
  pub next : IsNextWork coming (waits_of p) q.next

-- what a post has in hand once this came into hand
abbrev pub work_from : Option Coming → Post → Work
work_from None p = p.work
work_from (Some what) p = p.next

-- the mail that comes into hand is the oldest, and nothing was told of it
abbrev pub newest : List Keyed → Option Passed
newest [] = None
newest (k ∷ ks) = Some (record { key = k.key; mail = k.mail; told = [] })

-- THE MAIL IN HAND once this came into hand
abbrev pub hand_behind : List Keyed → Option Passed → Option (Service Asked) → Option Passed
hand_behind ks hand None = hand
hand_behind ks hand (Some (Service.Mails q)) = if is_passed q then newest ks else None
hand_behind ks hand (Some (Service.State target)) = None

-- a change of state in hand once this came into hand; mails come into hand only where there is none
abbrev pub IsDuty : Option Duty → Option (Service Asked) → Option Duty → Type 0
IsDuty old None new = new ≡ old
IsDuty old (Some (Service.Mails q)) new = new ≡ None
IsDuty old (Some (Service.State target)) new = ⊤

-- A LIFE ONCE THIS CAME INTO HAND, by what it was before
pub record HasBegun (old : Life Body Asked Reply) (begun : Option (Service Asked)) (new : Life Body Asked Reply) : Type 0 where
  pub stand : new.stand ≡ old.stand
  pub passing : new.era.passing ≡ passing_behind is_passed old.era.passing begun
  pub duty : IsDuty old.era.account.hand begun new.era.account.hand

-- A POST WHILE A FRAME IS MADE: what came into hand of its slave so far it has in hand too, or what it had before; `known` is whether the hand knows its mails
pub record IsHanding (lens : ℕ → Lens) (begun : ℕ → Option (Service Asked)) (w : Serves) (work : Work) (known : Bool) : Type 0 where
  pub handed : (l : Life Body Asked Reply) → HasBegun w.lead.lived.life (begun w.lead.lived.spot.place) l → IsHanded work (hand_behind w.waits w.hand (begun w.lead.lived.spot.place)) l
  pub old : Work
  pub was : HasInHand (speech_at lens w.lead.lived.spot) known w.lead.lived.life w.lead.lived.life.stand old
  pub came : WorkOf (begun w.lead.lived.spot.place) old work

-- what the post of the slave at a place has in hand; nothing where none stands
abbrev pub work_at : List Post → ℕ → Work
work_at [] k = Work.Nothing
work_at (p ∷ ps) zero = p.work
work_at (p ∷ ps) (suc k) = work_at ps k

-- no mail is in hand of the slave at a place that is passed on
abbrev pub NonePassed : List Post → ℕ → Type 0
NonePassed ps k = (key : ℕ) → work_at ps k ≡ Work.Passed key → ⊥

-- whether a mail that is passed on isn't over, by the side of the slave at a place
abbrev pub passing_at : {G : Ghosts InHand} → List (Stop InHand G) → ℕ → Bool
passing_at ss k = holds_at (λ s. is_some s.side.passing) ss k

-- what is in hand stays, or it is over
abbrev pub IsLeft : Work → Work → Type 0
IsLeft old new = (new ≡ old) ⊎ (new ≡ Work.Nothing)

-- OF THE SLAVES AT THESE PLACES a mail that is over is in hand no more; of them and of all others each goes on that isn't, and nothing comes into hand
pub record EndsWork (goes : ℕ → Bool) (places : List ℕ) (ps qs : List Post) : Type 0 where
  pub each : (k : ℕ) → StaysNamed (work_at ps k) (work_at qs k) (not (is_in k places) || goes k)
  pub fewer : (k : ℕ) → IsLeft (work_at ps k) (work_at qs k)

-- of the slaves at these places that were given up nothing is in hand any more, and of all others the same is
pub record DropsWork (gave : ℕ → Bool) (places : List ℕ) (ps qs : List Post) : Type 0 where
  pub each : (k : ℕ) → work_at qs k ≡ (if gave k && is_in k places then Work.Nothing else work_at ps k)
