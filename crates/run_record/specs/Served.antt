-- THE FRAMES OF A SERVING ARE LED by its master: each is just what the lives of the slaves ask for, from the plan's new lives on, with the mails that are asked
-- between the frames.
use Rattle.std.specs.Prelude.{◌≡◌, ◌≤◌, ◌+◌, ℕ, Bool, true, false, None, Some, List, [], ◌∷◌, ◌++◌, length, map, filter, slice_get, All}
use Rattle.run_notes.specs.of_run_book.Heard.{Accepted, AllNoted, brought_by, heard_none, heard_on}
use Rattle.plan_ring.specs.of_mailbox_mail.declared.mail.Mail.{Mail}
use Rattle.packets_heard.specs.of_master_node.Backtold.{returned_at}
use Rattle.packets_heard.specs.of_master_node.Begins.{begun_of}
use Rattle.packets_heard.specs.of_master_node.Eager.{recalls}
use Rattle.packets_heard.specs.of_master_node.Events.{served_tells}
use Rattle.packets_heard.specs.of_master_node.Gateways.{is_gateway, lives_told}
use Rattle.packets_heard.specs.of_master_node.Happened.{HasHappened, events_of}
use Rattle.packets_heard.specs.of_master_node.Joined.{HasUnfinished, stand_before}
use Rattle.packets_heard.specs.of_master_node.Lifetold.{lost_at}
use Rattle.packets_heard.specs.of_master_node.Listed.{listed}
use Rattle.packets_heard.specs.of_master_node.Listing.{events_in, told_in}
use Rattle.packets_heard.specs.of_master_node.Origins.{forwards_at}
use Rattle.packets_heard.specs.of_master_node.Ports.{ports_behind, ports_of}
use Rattle.packets_heard.specs.of_master_node.Recalled.{AllKnow}
use Rattle.packets_heard.specs.of_master_node.Serving.{IsAsked, run_lead, run_turn}
use Rattle.packets_heard.specs.of_master_node.Shows.{is_carried}
use Rattle.packets_heard.specs.of_master_node.Wants.{gave_of, IsServedOut, NoneToCome}
use Rattle.packets_heard.specs.of_master_node.declared.event.Event.{Event}
use Rattle.packets_heard.specs.of_master_node.declared.happened.Happening.{Happening}
use Rattle.packets_heard.specs.of_master_node.declared.node.MasterNode.{MasterNode}
use Rattle.plan_ring.specs.of_frame_view.Seen.{seen}
use Rattle.plan_ring.specs.of_frame_view.View.{Lens}
use Rattle.served_places.specs.of_life_runs.First.{lens_of}
use Rattle.served_places.specs.of_life_runs.Led.{Exchanged, gives_up_at, missed_behind}
use Rattle.served_places.specs.of_master_side.Recall.{Recall}
use Rattle.served_places.specs.of_master_tour.Goes.{holds_at}
use Rattle.served_places.specs.of_master_tour.Made.{is_in}
use Rattle.served_places.specs.of_master_tour.Orders.{AreOnce}
use Rattle.packets_heard.specs.Listed.{unfinished_of}
use Rattle.served_places.specs.of_segment_model.Returned.{Returns}
use Rattle.packets_heard.specs.Served.{serves_behind}
use Rattle.packets_heard.specs.ServedRecalled.{ServedRecalledIn}
use Rattle.packets_heard.specs.Servings.{AreServedBegun, ServedListed, ServedNumbered, served_begun, served_joined}
use Rattle.run_notes.specs.of_run_book.declared.book.SentFrame.{SentFrame}
use Rattle.run_notes.specs.declared.standing.AskedMail.{AskedMail}
use Rattle.run_notes.specs.Handed.{AllHanded}
use Rattle.run_notes.specs.Heard.{emergencies_noted}
use Rattle.run_notes.specs.Reports.{AllReport}
use Rattle.run_notes.specs.Slaves.{gaves_noted, home_of}
use Rattle.run_record.specs.Forwarded.{PacketsNoted}
use Rattle.run_record.specs.Led.{exchanged}
use Rattle.run_record.specs.Mails.{passing_at, served_mails, served_overs}
use Rattle.run_record.specs.Recalling.{state_of}
pub use Rattle.run_record.specs.ServedLed.{ServeTo, ServedLeading, ServedTouredTo}
use Rattle.run_record.specs.Session.{FrameEvents, IsDone, SessionState, has_live, numbers_over}
use Rattle.run_record.specs.Telling.{ServedOver}
use Rattle.run_record.specs.Written.{AreWritten, WereServedDue}
use Rattle.packets_heard.specs.of_segment_plan.Sound.{IsPlan}
use Rattle.packets_heard.specs.of_segment_plan.declared.plan.Scenario.{Scenario}
use Rattle.served_places.specs.of_segment_ring.declared.wire.Fate.{Fate}
use Rattle.served_places.specs.of_segment_ring.declared.wire.Fate.TheVariants as Fates
use Rattle.served_places.specs.of_life_runs.Served.{Keyed, Serves, ServedTurn, IsServedFrame, IsServedLed, MayAsk, asked_at, served_behind}

-- THE SWITCH OF A SERVING behind these frames, by all that happened there: its slaves have the ports of the plan, what is unfinished of their packets is by their
-- lives, and just those packets came in and began, and just those ports went down, that the frames list
pub record IsServedForwarded (plan : Scenario) (m : MasterNode) {fs : List Exchanged} {missed : ℕ} {ws : List Serves} (lives : ServeTo plan fs missed ws) (rows : List Happening) : Type 0 where
  pub ports : m.lan.ports.items ≡ ports_behind 0 plan.slaves
  pub unfinished : HasUnfinished m (map stand_before (map run_lead ws)) (unfinished_of (served_joined lives))
  pub listed : ServedListed (ports_behind 0 plan.slaves) lives (events_of rows)
  pub begun : AreServedBegun (ports_behind 0 plan.slaves) (ports_of plan.slaves) lives (events_of rows)
  pub happened : HasHappened (ports_of plan.slaves) plan.host rows m.lan

module _ {lens : ℕ → Lens} {recover retry : ℕ} {first : List Serves} where
  -- THE MAILS ACCEPTED OVER A SERVING, slave by slave, in order, each with the frame that brought it: as over a run, and a mail that is asked between its frames
  -- changes nothing of them
  abbrev pub served_heard : {fs : List Exchanged} {missed : ℕ} {ws : List Serves} → IsServedLed lens recover retry first fs missed ws → List (List Accepted)
  served_heard IsServedLed.start = heard_none (map run_lead first)
  served_heard (IsServedLed.asks fs missed ws place k led may) = served_heard led
  served_heard (IsServedLed.on fs missed ws f vs led frame) = heard_on (λ u. brought_by lens (length fs) f f.fate u) (served_heard led) (map run_turn vs)

-- a mail as the session has it, with the key of its asker
abbrev pub as_asked : Keyed → AskedMail
as_asked k = record { key = k.key; kind = k.mail.kind; body = k.mail.body.items }

-- HOW A SERVING STANDS behind these frames: its master leads; so often each slave was given up as is noted, and what is noted of its services and epochs goes with
-- its life; just the emergencies among the mails that its life accepted are noted, each with the frame that brought it; the mails that were asked of each are just
-- those that the session has, in order, and so many of them still wait; what happened at its switch is by their lives, each event with its number; and just the
-- packets that came into hand are noted, numbered, and just the mails that were passed on, each with its number and its frame, and with its answer by when it was
-- over. As long as each mail that was accepted was due the hands know their mails, and the packets have their answers too, by when the last fragment was written.
-- None of its master's visits was in vain, by what it remembers
pub record Serving (plan : Scenario) (s : SessionState) (fs : List Exchanged) : Type 0 where
  pub leading : ServedLeading plan s.master fs
  pub gave : gaves_noted s.notes ≡ map gave_of (map run_lead leading.serves)
  pub told : AllReport (map run_lead leading.serves) s.notes
  pub heard : AllNoted (served_heard leading.lives) (emergencies_noted s.notes)
  pub asked : map (λ w. map as_asked w.asked) leading.serves ≡ s.asked
  pub waiting : map (λ w. length w.waits) leading.serves ≡ s.waiting
  pub rows : List Happening
  pub forwarded : IsServedForwarded plan s.master leading.lives rows
  pub numbers : List ℕ
  pub numbered : ServedNumbered (ports_behind 0 plan.slaves) (ports_of plan.slaves) leading.lives (events_of rows) numbers
  pub packets : PacketsNoted (λ k. served_begun leading.lives k) (λ k. served_mails leading.lives k) s.master s.notes
  pub handed : AllHanded (λ k. served_overs leading.lives k) (λ k. passing_at leading.serves k) s.notes
  pub knows : WereServedDue leading.lives → AllKnow (recalls s.master)
  pub written : WereServedDue leading.lives → AreWritten leading.lives s.notes
  pub remembers : ServedRecalledIn plan leading.toured (state_of s.master (events_of rows) s.ring)

-- before its first frame
abbrev pub ServingBegins : Scenario → SessionState → Type 0
ServingBegins plan s = Serving plan s []

-- WHAT A FRAME OF THIS FATE TELLS to who asked, behind it, of the slave at a place, by the lives before it and behind it: one that came back the replies of the mail
-- in hand, and that no more follow; a lost one that the slave was given up
abbrev pub told_behind : (ℕ → Lens) → Exchanged → Fate → List ServedTurn → List Serves → ℕ → List Event
told_behind lens f Fates.Pass vs ws k = lives_told (seen lens f.back) vs ws k
told_behind lens f (Fates.Lost after) vs ws k = lost_at vs ws k

-- WHAT WHO ASKED GETS TO KNOW OF A FRAME, in order: what came into hand of the slaves visited, each once; and what is told behind it of those, each once, whose
-- visits it may have carried. Of a slave that the first leave out nothing came into hand; of one that the others leave out the frame has no datagram
pub record TellsFrame (lens : ℕ → Lens) (forwards : ℕ → ℕ) (ws : List Serves) (f : Exchanged) (vs : List ServedTurn) (new : List Serves) (m : MasterNode) : Type 0 where
  pub began : List ℕ
  pub began_once : AreOnce began
  pub others : (k : ℕ) → is_in k began ≡ false → begun_of (map run_turn vs) k ≡ None
  pub visited : List ℕ
  pub once : AreOnce visited
  pub carried : (k : ℕ) → holds_at (λ v. is_carried v.turn) vs k ≡ true → is_in k visited ≡ true
  pub told : filter is_gateway (listed m.list.rows.items m.list.count) ≡ told_in (λ k. served_tells ws k (forwards k) (begun_of (map run_turn vs) k)) began ++ told_in (λ k. told_behind lens f f.fate vs new k) visited

-- JUST THIS IS TOLD to who asked behind a frame of this fate, by whatever lives are with the master while it is under way
abbrev pub TellsBehind : Fate → List ℕ → MasterNode → MasterNode → Type 0
TellsBehind fate back m n =
    ServedOver fate back m (λ lens recover retry missed made vs f.
    filter is_gateway (events_in n) ≡ told_in (λ k. told_behind lens f f.fate vs (serves_behind lens recover retry missed made f vs) k) m.tour.visit.items)

-- ALL THAT A FRAME OF THIS FATE TELLS behind it of the slave at a place, by the lives before it and behind it, and by what the master remembers then
abbrev pub events_behind : (ℕ → Lens) → Exchanged → Fate → List Recall → List ServedTurn → List Serves → ℕ → List Event
events_behind lens f Fates.Pass rs vs ws k = returned_at lens (seen lens f.back) rs vs ws k
events_behind lens f (Fates.Lost after) rs vs ws k = lost_at vs ws k

-- JUST THESE EVENTS ARE LISTED behind a frame of this fate, of the slaves that it visited, by whatever lives are with the master while it is under way
abbrev pub ListsBehind : Fate → List ℕ → MasterNode → MasterNode → Type 0
ListsBehind fate back m n =
    ServedOver fate back m (λ lens recover retry missed made vs f.
    events_in n ≡ told_in (λ k. events_behind lens f f.fate (recalls n) vs (serves_behind lens recover retry missed made f vs) k) m.tour.visit.items)

-- ONE FRAME MORE of a serving: it is just what the lives ask for, those behind it are what it leads them to, by them who asked gets to know what the frame tells,
-- and just this happened at its switch
pub record ServesOn (plan : Scenario) (s s' : SessionState) (happened : FrameEvents) (fs : List Exchanged) (f : Exchanged) (old : Serving plan s fs) : Type 0 where
  pub turns : List ServedTurn
  pub frame : IsServedFrame (lens_of plan.slaves) (length fs) f.sent old.leading.serves turns
  -- an answer has just the datagrams that were sent
  pub returns : f.fate ≡ Fates.Pass → Returns (seen (lens_of plan.slaves) f.sent) (seen (lens_of plan.slaves) f.back)
  pub new : Serving plan s' (fs ++ f ∷ [])
  pub missed : new.leading.missed ≡ missed_behind (lens_of plan.slaves) plan.recover plan.retry f.fate old.leading.missed
  pub serves : new.leading.serves ≡ map (served_behind (lens_of plan.slaves) plan.recover plan.retry (gives_up_at (lens_of plan.slaves) plan.recover plan.retry old.leading.missed) (length fs) f) turns
  pub tells : TellsFrame (lens_of plan.slaves) (λ k. forwards_at s.master.posts.items k) old.leading.serves f turns new.leading.serves s'.master
  pub events : events_of new.rows ≡ events_of old.rows ++ (happened.making ++ happened.behind)
  pub numbers : new.numbers ≡ old.numbers ++ numbers_over (length fs) happened

-- so a step goes, where some slave is live and not all is done: a serving that is led goes on
abbrev pub ServingGoesOn : SessionState → SessionState → FrameEvents → SentFrame → Type 0
ServingGoesOn s s' happened f = (plan : Scenario) (fs : List Exchanged) → s.recover ≡ plan.recover → length fs ≡ s.ring.number → has_live s.master ≡ true → (IsDone s → ⊥) → (old : Serving plan s fs) → ServesOn plan s s' happened fs (exchanged f) old

-- SOME SLAVE IS LIVE, where a serving is led
abbrev pub ServingLives : SessionState → Type 0
ServingLives s = (plan : Scenario) (fs : List Exchanged) → s.recover ≡ plan.recover → Serving plan s fs → has_live s.master ≡ true

-- NOTHING IS LEFT, where a serving is led: each slave was given up for good, or nothing is wanted of it; and nothing is still to come for one that is live
pub record ServingRests (s : SessionState) : Type 0 where
  pub slaves : (plan : Scenario) (fs : List Exchanged) (old : Serving plan s fs) → All (IsServedOut (lens_of plan.slaves)) old.leading.serves
  pub come : NoneToCome s.master

-- A MAIL IS ASKED, as it is, under the key of its asker: it waits behind those of its slave, and nothing else of the lives changes
pub record AsksOn (plan : Scenario) (slave key : ℕ) (mail : Mail) (s s' : SessionState) (fs : List Exchanged) (old : Serving plan s fs) : Type 0 where
  pub mail_asked : Keyed
  pub is : IsAsked key mail mail_asked
  pub may : MayAsk (lens_of plan.slaves) slave mail_asked old.leading.serves
  pub new : Serving plan s' fs
  pub missed : new.leading.missed ≡ old.leading.missed
  pub serves : new.leading.serves ≡ asked_at slave mail_asked old.leading.serves
  pub rows : new.rows ≡ old.rows
  pub numbers : new.numbers ≡ old.numbers

-- NONE IS ASKED: the lives stay
pub record AsksNone (plan : Scenario) (s s' : SessionState) (fs : List Exchanged) (old : Serving plan s fs) : Type 0 where
  pub new : Serving plan s' fs
  pub missed : new.leading.missed ≡ old.leading.missed
  pub serves : new.leading.serves ≡ old.leading.serves
  pub rows : new.rows ≡ old.rows
  pub numbers : new.numbers ≡ old.numbers

-- so it is with a mail that fits the mailbox of its slave, by the plan; and where as many wait as may none is asked
abbrev pub ServingAsks : ℕ → ℕ → Mail → SessionState → SessionState → Bool → Type 0
ServingAsks slave key mail s s' true =
    (plan : Scenario) (fs : List Exchanged) (home : ℕ × ℕ) → IsPlan plan → slice_get (map home_of plan.slaves) slave ≡ Some home → 6 + length mail.body.items ≤ home.1 → (old : Serving plan s fs) → AsksOn plan slave key mail s s' fs old
ServingAsks slave key mail s s' false = (plan : Scenario) (fs : List Exchanged) → (old : Serving plan s fs) → AsksNone plan s s' fs old
