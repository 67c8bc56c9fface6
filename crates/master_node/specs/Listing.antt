-- WHICH SERVICES ARE LISTED AS BEGUN while a frame is made: just those that came into hand, each with where it comes from and its number there.
use Rattle.std.specs.Prelude.{◌≡◌, ◌<◌, ℕ, zero, suc, Bool, true, false, if◌then◌else◌, Option, Some, None, List, [], ◌∷◌, ◌++◌}
use Rattle.eoe_switch.specs.Switch.{Switched}
use Rattle.life_runs.specs.Led.{Leads, Turn}
use Rattle.life_runs.specs.of_mailbox_mail.declared.outcome.ReplyKind.{ReplyKind}
use Rattle.life_runs.specs.of_state_model.Stated.{Service}
use Rattle.life_runs.specs.of_master_hand.Spoken.{Asked}
use Rattle.life_runs.specs.of_master_tour.Made.{is_in}
use Rattle.life_runs.specs.of_master_tour.Orders.{AreOnce}
use Rattle.master_node.specs.Begins.{begun_for, begun_of, is_other}
use Rattle.master_node.specs.Listed.{listed_before, listed_last}
use Rattle.master_node.specs.Numbered.{StaysNumbered}
use Rattle.master_node.specs.Origins.{counted_by, forwards_at, one_more}
use Rattle.master_node.specs.declared.coming.Coming.{Coming}
use Rattle.master_node.specs.declared.event.Event.{Event}
use Rattle.master_node.specs.declared.event.Origin.{Origin}
use Rattle.master_node.specs.declared.node.MasterNode.{MasterNode}
use Rattle.master_node.specs.declared.post.Post.{Post}

-- a step begins so: its switch, and how many packets had come into hand of each slave
pub record Before : Type 0 where
  pub switch : Switched
  pub forwards : ℕ → ℕ

-- the events of a step
abbrev pub events_in : MasterNode → List Event
events_in m = listed_last m.list.rows.items m.list.first m.list.count

-- the events before the step: behind a frame those of the frame's making
abbrev pub events_before : MasterNode → List Event
events_before m = listed_before m.list.rows.items m.list.first m.list.count

-- where something came into hand, that; else nothing
abbrev pub where_began : Bool → Option Coming → Option Coming
where_began true coming = coming
where_began false coming = None

-- it is listed, with where it was laid ready from
abbrev pub began_from : ℕ → Option Coming → Origin → List Event
began_from place None origin = []
began_from place (Some what) origin = Event.Began place origin ∷ []

-- how many packets came into hand then
abbrev pub counted_from : Option Coming → Origin → ℕ → ℕ
counted_from None origin n = n
counted_from (Some what) origin n = counted_by origin n

-- it has no answer yet
abbrev pub answer_from : Option Coming → Option ReplyKind → Option ReplyKind
answer_from None a = a
answer_from (Some what) a = None

-- AS IT COMES INTO HAND of the slave at a place it is listed, where the list has room, and counted at the slave's post
pub record ListsOne (place : ℕ) (coming : Option Coming) (m n : MasterNode) (p q : Post) : Type 0 where
  pub listed : m.list.count < 97 → events_in n ≡ events_in m ++ began_from place coming p.origin
  pub counts : q.forwards ≡ counted_from coming p.origin p.forwards
  pub numbered : StaysNumbered p q
  pub answer : q.answer ≡ answer_from coming p.answer

-- where a service comes from, by the number of the script's next, and how many packets came into hand before: of its port where it is a packet, and else of
-- its script
abbrev pub origin_of : ℕ → ℕ → Service Asked → Origin
origin_of number forwards (Service.Mails q) = if is_other q then Origin.Script number else Origin.Forward forwards
origin_of number forwards (Service.State target) = Origin.Script number

-- what came into hand of the slave at a place, as it is listed
abbrev pub began_by : ℕ → ℕ → ℕ → Option (Service Asked) → List Event
began_by place number forwards None = []
began_by place number forwards (Some s) = Event.Began place (origin_of number forwards s) ∷ []

-- how many packets came into hand behind it
abbrev pub forwards_behind : ℕ → Option (Service Asked) → ℕ
forwards_behind n None = n
forwards_behind n (Some (Service.Mails q)) = if is_other q then n else one_more n
forwards_behind n (Some (Service.State target)) = n

-- the number of the script's next service, of the slave at a place
abbrev pub number_at : List Leads → ℕ → ℕ
number_at [] k = 0
number_at (a ∷ as') zero = a.number
number_at (a ∷ as') (suc k) = number_at as' k

-- what is told of the slaves at these places, in order
abbrev pub told_in : (ℕ → List Event) → List ℕ → List Event
told_in tells [] = []
told_in tells (p ∷ ps) = tells p ++ told_in tells ps

-- THE SERVICES THAT CAME INTO HAND of the slaves at these places, in order, as they are listed
abbrev pub began_in : (ℕ → ℕ) → (ℕ → ℕ) → (ℕ → Option (Service Asked)) → List ℕ → List Event
began_in numbers forwards begun ps = told_in (λ p. began_by p (numbers p) (forwards p) (begun p)) ps

-- of the slave at a place of a run, by how many packets came into hand before
abbrev pub run_tells : List Leads → ℕ → ℕ → Option (Service Asked) → List Event
run_tells as' k forwards b = began_by k (number_at as' k) forwards b

-- before the first visit of a frame nothing is listed
pub record IsUnlisted (forwards : ℕ → ℕ) (m : MasterNode) : Type 0 where
  pub few : m.list.count ≡ 0
  pub none : events_in m ≡ []
  pub counts : (k : ℕ) → forwards_at m.posts.items k ≡ forwards k

-- WHAT IS LISTED SO FAR while a frame is made, as it is told of what came into hand of a slave, where the visits of these places are still to come
pub record HasListed (tells : ℕ → ℕ → Option (Service Asked) → List Event) (forwards : ℕ → ℕ) (left : List ℕ) (begun : ℕ → Option (Service Asked)) (as' : List Leads) (m : MasterNode) : Type 0 where
  pub visited : List ℕ
  pub once : AreOnce visited
  pub over : (k : ℕ) → is_in k visited ≡ true → is_in k left ≡ false
  pub listed : events_in m ≡ told_in (λ k. tells k (forwards k) (begun_for begun as' k)) visited
  pub others : (k : ℕ) → is_in k visited ≡ false → begun_for begun as' k ≡ None
  pub counts : (k : ℕ) → forwards_at m.posts.items k ≡ forwards_behind (forwards k) (begun_for begun as' k)

-- JUST THE SERVICES THAT CAME INTO HAND ARE LISTED as begun, of the slaves that were visited, in order, each slave once: a packet with the number of those
-- that came into hand of its slave before, a service of the script with its number there; and so many packets came into hand of each slave then
pub record ServicesBegin (forwards : ℕ → ℕ) (as' : List Leads) (us : List Turn) (m : MasterNode) : Type 0 where
  pub visited : List ℕ
  pub once : AreOnce visited
  pub listed : events_in m ≡ began_in (number_at as') forwards (begun_of us) visited
  pub others : (k : ℕ) → is_in k visited ≡ false → begun_of us k ≡ None
  pub counts : (k : ℕ) → forwards_at m.posts.items k ≡ forwards_behind (forwards k) (begun_of us k)
