-- WHAT A STEP TELLS, by what the posts have in hand and by the sides of their slaves.
use Rattle.std.specs.Prelude.{not, if◌then◌else◌, ◌≡◌, ◌≤◌, ◌+◌, ◌==◌, ℕ, zero, suc, Bool, true, false, Option, Some, None, List, [], ◌∷◌, ◌++◌, length}
use Rattle.life_runs.specs.of_mailbox_mail.declared.mail.Mail.{Mail}
use Rattle.life_runs.specs.of_mailbox_mail.declared.outcome.ReplyKind.{ReplyKind}
use Rattle.life_runs.specs.of_master_duty.declared.stage.Met.{Met}
use Rattle.life_runs.specs.of_master_hand.Brings.{emergency_kept}
use Rattle.life_runs.specs.of_master_hand.Replied.{reply_kept}
use Rattle.life_runs.specs.of_master_hand.contracts.hand.InHandHand.TheImpl as Impl
use Rattle.life_runs.specs.of_master_hand.declared.hand.InHand.{InHand}
use Rattle.life_runs.specs.of_master_side.Free.{is_free_side}
use Rattle.life_runs.specs.of_master_side.declared.hand.Hand.{Ghosts}
use Rattle.life_runs.specs.of_master_side.declared.hand.Heard.{Heard}
use Rattle.life_runs.specs.of_master_side.declared.passing.Passing.{Passing}
use Rattle.life_runs.specs.of_master_tour.Made.{is_in}
use Rattle.life_runs.specs.of_master_tour.declared.stop.Stand.{Stand}
use Rattle.life_runs.specs.of_master_tour.declared.stop.Stop.{Stop}
use Rattle.life_runs.specs.of_master_tour.declared.stop.Turned.{Turned}
use Rattle.life_runs.specs.of_master_hand.Hears.{answer_kept}
use Rattle.master_node.specs.Answered.{answer_at, answer_behind}
use Rattle.master_node.specs.Handed.{work_at}
use Rattle.master_node.specs.Listing.{events_before, events_in}
use Rattle.master_node.specs.declared.event.Event.{Event}
use Rattle.master_node.specs.declared.node.MasterNode.{MasterNode}
use Rattle.master_node.specs.declared.post.Work.{Work}

-- JUST THESE EVENTS ARE LISTED BESIDES, in this order, where the list has room for them; what was listed before the step stays, and the last answers go with
-- them
pub record TellsAll (es : List Event) (m n : MasterNode) : Type 0 where
  pub told : m.list.count + length es ≤ 97 → events_in n ≡ events_in m ++ es
  pub few : n.list.count ≤ m.list.count + length es
  pub head : events_before n ≡ events_before m
  pub answers : (k : ℕ) → answer_at n.posts.items k ≡ answer_behind k es (answer_at m.posts.items k)

-- what is told of a slave, and what its post has in hand then
pub record Does : Type 0 where
  pub told : List Event
  pub work : Work

-- A STEP DOES THIS to the slave at a place, and nothing to any other
pub record DoesAt (place : ℕ) (d : Does) (m n : MasterNode) : Type 0 where
  pub tells : TellsAll d.told m n
  pub here : work_at n.posts.items place ≡ d.work
  pub others : (k : ℕ) → (k == place) ≡ false → work_at n.posts.items k ≡ work_at m.posts.items k

-- nothing is told, and what is in hand stays
abbrev pub stays : Work → Does
stays work = record { told = []; work = work }

-- what is in hand has its answer
abbrev pub answers : ℕ → ReplyKind → Does
answers place kind = record { told = Event.Answered place kind ∷ []; work = Work.Nothing }

-- these are told before
abbrev pub behind : List Event → Does → Does
behind es d = record { told = es ++ d.told; work = d.work }

-- one after the other
abbrev pub then_does : Does → (Work → Does) → Does
then_does d f = behind d.told (f d.work)

-- by the stop of the slave at a place, or so where none stands
abbrev pub by_stop : {A : Type 0} {G : Ghosts InHand} → A → (Stop InHand G → A) → List (Stop InHand G) → ℕ → A
by_stop none does [] k = none
by_stop none does (s ∷ ss) zero = does s
by_stop none does (s ∷ ss) (suc k) = by_stop none does ss k

-- what is done to the slave at a place, by its stop and what its post has in hand
abbrev pub does_at : (Stop InHand Impl.ghosts → Work → Does) → MasterNode → ℕ → Does
does_at does m k = by_stop (stays (work_at m.posts.items k)) (λ s. does s (work_at m.posts.items k)) m.tour.stops.items k

-- A STEP DOES SO to the slave at a place
abbrev pub DoesSo : (Stop InHand Impl.ghosts → Work → Does) → ℕ → MasterNode → MasterNode → Type 0
DoesSo does place m n = DoesAt place (does_at does m place) m n

-- an emergency, with its octets
abbrev pub emergency_told : ℕ → Option (List ℕ) → List Event
emergency_told place None = []
emergency_told place (Some octets) = Event.Emergency place (record { items = octets }) ∷ []

-- a reply is told under the key of the asker, without address and counter
abbrev pub reply_told : ℕ → Option Mail → List Event
reply_told key None = []
reply_told key (Some m) = Event.GatewayReply key (record m { address = 0; counter = 0 }) ∷ []

-- the mail heard last was an emergency, or wasn't
abbrev pub emitted_does : {G : Ghosts InHand} → ℕ → Stop InHand G → Work → Does
emitted_does place s work = record { told = emergency_told place (emergency_kept s.side.hand.found); work = work }

-- it was a reply of the mail that is passed on, or wasn't
abbrev pub replied_does : {G : Ghosts InHand} → ℕ → Stop InHand G → Work → Does
replied_does key s work = record { told = reply_told key (reply_kept s.side.hand.found); work = work }

-- what is in hand has this answer, or none
abbrev pub answered_does : ℕ → Option ReplyKind → Work → Does
answered_does place None work = stays work
answered_does place (Some kind) work = answers place kind

-- a scripted service by mails has its answer, once its last reply was accepted
abbrev pub complete_does : {G : Ghosts InHand} → ℕ → Stop InHand G → Work → Does
complete_does place s work = answered_does place (answer_kept s.side.hand) work

-- what a mail that was accepted is to the service in hand
abbrev pub mail_does : {G : Ghosts InHand} → ℕ → Stop InHand G → Work → Does
mail_does place s (Work.Passed key) = replied_does key s (Work.Passed key)
mail_does place s Work.Mails = complete_does place s Work.Mails
mail_does place s Work.Nothing = stays Work.Nothing
mail_does place s Work.State = stays Work.State
mail_does place s Work.Packet = stays Work.Packet

abbrev pub accepted_does : {G : Ghosts InHand} → ℕ → Stop InHand G → Work → Does
accepted_does place s work = then_does (emitted_does place s work) (λ w. mail_does place s w)

-- A MAIL WAS ACCEPTED, or none was
abbrev pub heard_does : {G : Ghosts InHand} → ℕ → Option Heard → Stop InHand G → Work → Does
heard_does place None s work = stays work
heard_does place (Some what) s work = accepted_does place s work

-- a packet is over once its slave is free
abbrev pub handed_where : ℕ → Bool → Work → Does
handed_where place true work = answers place ReplyKind.Handed
handed_where place false work = stays work

abbrev pub handed_does : {G : Ghosts InHand} → ℕ → Stop InHand G → Work → Does
handed_does place s work = handed_where place (is_free_side s.side) work

-- a mail that is passed on is over once its side forgets it, and then gets no further reply
abbrev pub passed_where : ℕ → ℕ → Option Passing → Work → Does
passed_where place key None work = record { told = Event.Answered place ReplyKind.Handed ∷ Event.GatewayDone key ∷ []; work = Work.Nothing }
passed_where place key (Some passing) work = stays work

abbrev pub passed_does : {G : Ghosts InHand} → ℕ → ℕ → Stop InHand G → Work → Does
passed_does place key s work = passed_where place key s.side.passing work

-- a change of state is over once it has met its target or a refusal
abbrev pub met_where : ℕ → Option Met → Work → Does
met_where place None work = stays work
met_where place (Some (Met.On duty)) work = stays work
met_where place (Some Met.Reached) work = answers place ReplyKind.Done
met_where place (Some (Met.Refused code)) work = answers place (ReplyKind.StateRefused code)

-- of an open slave; one that is opened answers it once it is open
abbrev pub met_at : ℕ → Stand → Option Met → Work → Does
met_at place (Stand.Opening up) duty work = stays work
met_at place Stand.Open duty work = met_where place duty work
met_at place Stand.Gone duty work = stays work

abbrev pub met_does : {G : Ghosts InHand} → ℕ → Stop InHand G → Work → Does
met_does place s work = met_at place s.stand s.side.duty work

-- WHAT IS IN HAND MAY BE OVER, where it has no reply by mails of its own
abbrev pub over_does : {G : Ghosts InHand} → ℕ → Stop InHand G → Work → Does
over_does place s Work.Nothing = stays Work.Nothing
over_does place s Work.Mails = stays Work.Mails
over_does place s Work.Packet = handed_does place s Work.Packet
over_does place s (Work.Passed key) = passed_does place key s (Work.Passed key)
over_does place s Work.State = met_does place s Work.State

-- a change of state is in hand
abbrev pub is_state : Work → Bool
is_state Work.State = true
is_state Work.Nothing = false
is_state Work.Mails = false
is_state Work.Packet = false
is_state (Work.Passed key) = false

-- a slave is open, which answers a change of state that is in hand
abbrev pub opened_where : ℕ → Bool → Work → Does
opened_where place true work = behind (Event.Opened place ∷ []) (answers place ReplyKind.Done)
opened_where place false work = record { told = Event.Opened place ∷ []; work = work }

-- THE SLAVE WAS SEEN IN INIT, or is open
abbrev pub turned_where : ℕ → Option Turned → Work → Does
turned_where place None work = stays work
turned_where place (Some Turned.GivenUp) work = stays work
turned_where place (Some Turned.Cleared) work = record { told = Event.Cleared place (is_state work) ∷ []; work = work }
turned_where place (Some Turned.Opened) work = opened_where place (is_state work) work

abbrev pub turned_does : {G : Ghosts InHand} → ℕ → Stop InHand G → Work → Does
turned_does place s work = turned_where place s.news work

-- WHAT A FRAME THAT CAME BACK DOES to a slave that it carried: by the mail that was accepted, if one was, by what is over, and by how the slave turned
abbrev pub back_does : {G : Ghosts InHand} → ℕ → Stop InHand G → Work → Does
back_does place s work = then_does (then_does (heard_does place s.side.heard s work) (λ w. over_does place s w)) (λ w. turned_does place s w)

-- what is told of the slave at a place
abbrev pub back_told : MasterNode → ℕ → List Event
back_told m k = (does_at (λ s w. back_does k s w) m k).told

-- BEHIND IT the posts of the slaves that it carried have in hand what that leaves, and all others what they had
abbrev pub HasBack : MasterNode → MasterNode → Type 0
HasBack m n = (k : ℕ) → work_at n.posts.items k ≡ (if not (is_in k m.tour.visit.items) then work_at m.posts.items k else (does_at (λ s w. back_does k s w) m k).work)

-- A SLAVE WAS GIVEN UP, or wasn't
abbrev pub given_told : ℕ → Option Turned → List Event
given_told place None = []
given_told place (Some Turned.GivenUp) = Event.GivenUp place ∷ []
given_told place (Some Turned.Cleared) = []
given_told place (Some Turned.Opened) = []

-- of the slave at a place
abbrev pub given_at : {G : Ghosts InHand} → List (Stop InHand G) → ℕ → List Event
given_at ss k = by_stop [] (λ s. given_told k s.news) ss k
