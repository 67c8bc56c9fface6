-- WHILE A FRAME OF A SERVING IS MADE: what may come into hand of a slave where mails wait, what was laid ready, and what each slave has of the frame.
use Rattle.std.specs.Prelude.{◌≡◌, ◌≤◌, ◌<◌, ◌%◌, ℕ, zero, suc, true, false, Option, Some, None, List, [], ◌∷◌, map, length, drop, All, ⊤}
use Rattle.std.specs.List.{list_any}
use Rattle.life_runs.specs.Lives.{LifeKept}
use Rattle.life_runs.specs.Led.{Leads}
use Rattle.life_runs.specs.of_frame_view.View.{Lens}
use Rattle.life_runs.specs.of_frame_view.Shares.{AllBoth}
use Rattle.life_runs.specs.of_master_duty.Reply.{Reply}
use Rattle.life_runs.specs.of_state_model.Stated as Stated
use Rattle.life_runs.specs.of_master_hand.Laying.{Waiting, ready_of}
use Rattle.life_runs.specs.of_master_hand.Shown.{awaits_reply, knows}
use Rattle.life_runs.specs.of_master_hand.Spoken.{Asked, is_passed, passed}
use Rattle.life_runs.specs.of_master_hand.declared.hand.InHand.{InHand}
use Rattle.life_runs.specs.of_master_hand.declared.laying.Laid.{Laid}
use Rattle.life_runs.specs.of_master_side.Passing.{passing_behind}
use Rattle.life_runs.specs.of_master_side.declared.hand.Hand.{Ghosts}
use Rattle.life_runs.specs.of_link_mails.Body.{Body}
use Rattle.life_runs.specs.of_master_tour.Counting.{StopCounts}
use Rattle.life_runs.specs.of_master_tour.Goes.{BeginsLive, holds_at, is_live}
use Rattle.life_runs.specs.of_mailbox_mail.declared.mail.Mail.{Mail}
use Rattle.life_runs.specs.of_master_tour.Made.{FrameMade, is_in}
use Rattle.life_runs.specs.of_master_tour.Passing.{StandPassing}
use Rattle.life_runs.specs.of_master_tour.declared.stop.Stop.{Stop}
use Rattle.life_runs.specs.of_life_model.Lives
use Rattle.life_runs.specs.of_life_model.Lives.{Life}
use Rattle.life_runs.specs.of_segment_plan.declared.service.Service.{Service}
use Rattle.life_runs.specs.Served.{Keyed, Serves, ServedComes}
use Rattle.life_runs.specs.Told.{Passed}
use Rattle.master_node.specs.Events.{served_tells}
use Rattle.master_node.specs.Filling.{StopFills}
use Rattle.master_node.specs.Handed.{IsHanding}
use Rattle.master_node.specs.Begins.{HasBegun}
use Rattle.master_node.specs.Listing.{Before, HasListed}
use Rattle.master_node.specs.Numbered.{IsNumbered}
use Rattle.master_node.specs.Serving.{MayPass, mails_in, run_lead}
use Rattle.master_node.specs.Shows.{ComeAgain, is_live_lead, lived_of}
use Rattle.master_node.specs.Starts.{HaveStarted}
use Rattle.master_node.specs.declared.coming.Coming.{Coming}
use Rattle.master_node.specs.declared.node.MasterNode.{MasterNode}

-- a change of state that may come into hand is the script's next service
abbrev pub IsNextState : Option Service → Option Coming → Type 0
IsNextState next None = ⊤
IsNextState next (Some Coming.Packet) = ⊤
IsNextState next (Some Coming.Mail) = ⊤
IsNextState next (Some Coming.Script) = ⊤
IsNextState next (Some (Coming.State target)) = (state : ℕ) × (next ≡ Some (Service.State state)) × (target.state ≡ state % 16)

-- a mail that is passed on comes only where one waits
abbrev pub MailWaits : List Keyed → Option Coming → Type 0
MailWaits ks None = ⊤
MailWaits ks (Some Coming.Packet) = ⊤
MailWaits ks (Some Coming.Mail) = ks ≡ [] → ⊥
MailWaits ks (Some Coming.Script) = ⊤
MailWaits ks (Some (Coming.State target)) = ⊤

-- the script goes on only where none waits
abbrev pub ScriptLast : List Keyed → Option Coming → Type 0
ScriptLast ks None = ⊤
ScriptLast ks (Some Coming.Packet) = ⊤
ScriptLast ks (Some Coming.Mail) = ⊤
ScriptLast ks (Some Coming.Script) = ks ≡ []
ScriptLast ks (Some (Coming.State target)) = ks ≡ []

-- the mails that wait for the slave at a place; none where nothing stands
abbrev pub waits_in : List (List Keyed) → ℕ → List Keyed
waits_in [] place = []
waits_in (ks ∷ kss) zero = ks
waits_in (ks ∷ kss) (suc place) = waits_in kss place

-- those that still wait once this is laid ready
abbrev pub waits_behind : Option Coming → List Keyed → List Keyed
waits_behind None ks = ks
waits_behind (Some Coming.Packet) ks = ks
waits_behind (Some Coming.Mail) ks = drop 1 ks
waits_behind (Some Coming.Script) ks = ks
waits_behind (Some (Coming.State target)) ks = ks

-- THE OLDEST OF THEM IS LAID READY, as it may be passed on to a mailbox of so many octets
abbrev pub IsReady : ℕ → List Keyed → Waiting → Type 0
IsReady room [] w = ⊤
IsReady room (k ∷ ks) w = MayPass room k → (w.laid ≡ Laid.Mail) × (ready_of w ≡ Some (passed k.mail))

-- where a mail comes
abbrev pub LaysMail : Option Coming → ℕ → List Keyed → Waiting → Type 0
LaysMail None room ks w = ⊤
LaysMail (Some Coming.Packet) room ks w = ⊤
LaysMail (Some Coming.Mail) room ks w = IsReady room ks w
LaysMail (Some Coming.Script) room ks w = ⊤
LaysMail (Some (Coming.State target)) room ks w = ⊤

-- it is ready
abbrev pub IsMailReady : Option Coming → Waiting → Type 0
IsMailReady None w = ⊤
IsMailReady (Some Coming.Packet) w = ⊤
IsMailReady (Some Coming.Mail) w = (m : Mail) × (ready_of w ≡ Some (passed m))
IsMailReady (Some Coming.Script) w = ⊤
IsMailReady (Some (Coming.State target)) w = ⊤

-- what holds of three lists place by place, by the places
abbrev pub ThreeFrom : {A B S : Type 0} → (ℕ → A → B → S → Type 0) → ℕ → List A → List B → List S → Type 0
ThreeFrom P i [] [] [] = ⊤
ThreeFrom P i (a ∷ as') (b ∷ bs) (s ∷ ss) = P i a b s × ThreeFrom P (suc i) as' bs ss
ThreeFrom P i _ _ _ = ⊥

-- what came into hand of a slave did while it was open and had no mail in hand that is passed on
abbrev pub BeginsFree : Life Body Asked Reply → Option (Stated.Service Asked) → Type 0
BeginsFree l begun = (q : Stated.Service Asked) → begun ≡ Some q → (l.stand ≡ Lives.Stand.Open) × (l.era.passing ≡ None)

module _ (lens : ℕ → Lens) where
  -- A SLAVE WHILE A FRAME IS MADE, by its script and the mails that wait: what came into hand was next of its script, a packet, or the oldest mail, and nothing
  -- as long as its visit is to come; how far a mail in hand has come that is passed on; and what its side knows of an empty read
  pub record IsServing {G : Ghosts InHand} (begun : ℕ → Option (Stated.Service Asked)) (made : ℕ) (left : List ℕ) (i : ℕ) (w : Serves) (waits : List Keyed) (s : Stop InHand G) : Type 0 where
    pub hand : Option Passed
    pub script : s.side.hand.laying.script ≡ w.lead.script
    pub comes : ServedComes (lens w.lead.lived.spot.station).out w.lead.script w.waits w.hand w.lead.number (begun w.lead.lived.spot.place) s.side.hand.laying.number waits hand
    pub still : is_in i left ≡ true → begun w.lead.lived.spot.place ≡ None
    pub free : BeginsFree w.lead.lived.life (begun w.lead.lived.spot.place)
    pub short : length w.lead.script ≤ 4096
    pub place : s.place ≡ w.lead.lived.spot.place
    pub room : (lens w.lead.lived.spot.station).out ≡ s.side.out.len
    pub passing : (l : Life Body Asked Reply) → l.era.passing ≡ passing_behind is_passed w.lead.lived.life.era.passing (begun w.lead.lived.spot.place) →
        StandPassing s.stand (awaits_reply s.side.hand.course s.side.hand.which s.side.hand.clients) s.side.passing l
    pub kept : LifeKept w.kept w.lead.lived.life
    pub counts : StopCounts s made w.counts
    pub pace : s.side.pace ≡ w.pace
    pub fits : All (λ k. MayPass (lens w.lead.lived.spot.station).out k) w.waits

  module _ (recover made : ℕ) (from : Before) where
    -- THE MASTER WHILE A FRAME IS MADE, where the visits of these places are still to come, and the step began so
    pub record IsPassing (left : List ℕ) (m : MasterNode) (octets : List ℕ) (ws : List Serves) : Type 0 where
      pub begun : ℕ → Option (Stated.Service Asked)
      pub frame : FrameMade (λ ds i a s. StopFills lens recover made begun (m.made % 256) left ds i a s) octets m.tour.count (map (λ w. lived_of (run_lead w)) ws) m.tour.stops.items
      pub each : ThreeFrom (λ i w ks s. IsServing begun made left i w ks s) 0 ws (mails_in m) m.tour.stops.items
      pub handed : ThreeFrom (λ i w p s. IsHanding lens begun w p.work (knows s.side.hand.course)) 0 ws m.posts.items m.tour.stops.items
      pub numbered : AllBoth (λ w p. IsNumbered (length w.asked) p) ws m.posts.items
      pub packets : HasBegun from.switch left begun (map run_lead ws) m.lan
      pub listing : HasListed (served_tells ws) from.forwards left begun (map run_lead ws) m
      pub starts : HaveStarted run_lead (λ w. w.waits) lens m.lan begun (map run_lead ws) ws m.tour.stops.items

-- BEFORE THE FIRST VISIT no datagram stands in the frame, some slave is live, and the first that is visited is
pub record BeginsFrame (m : MasterNode) (octets : List ℕ) (as' : List Leads) : Type 0 where
  pub count : m.tour.count ≡ 0
  pub passed : m.tour.passed ≡ 0
  pub short : length octets ≡ 16
  pub begins : BeginsLive (λ s. is_live s.stand) m.tour.again m.tour.visit.items m.tour.opened m.tour.stops.items
  pub some : list_any (λ s. is_live s.stand) m.tour.stops.items ≡ true
  pub lives : (k : ℕ) → holds_at (λ s. is_live s.stand) m.tour.stops.items k ≡ holds_at is_live_lead as' k
  pub again : m.tour.again ≡ true → ComeAgain is_live_lead m.tour.visit.items m.tour.opened as'
  pub anew : m.tour.again ≡ false → m.tour.visit.items ≡ []
  pub room : length m.lan.happened ≤ 1
  pub listed : m.list.count ≡ 0

-- BEHIND THE LAST the frame has a datagram; in the first bring-up it has none but of the slave that is brought up
pub record EndsFrame (left : List ℕ) (m : MasterNode) (as' : List Leads) : Type 0 where
  pub some : 1 ≤ m.tour.count
  pub apart : m.tour.opened < length as' → (k : ℕ) → k < length as' → (k ≡ m.tour.opened → ⊥) → is_in k left ≡ true
  pub comes : ComeAgain is_live_lead m.tour.visit.items m.tour.opened as'
