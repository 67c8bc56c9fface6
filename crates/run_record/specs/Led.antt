-- THE FRAMES OF A RUN ARE LED by its master: each is just what the lives of the slaves ask for, from the plan's new lives on; and what the book says of
-- give-ups and of the end is what those lives have.
use Rattle.std.specs.Prelude.{◌≡◌, ◌≢◌, ◌⊎◌, ℕ, true, List, [], map, ⊤}
use Rattle.std.specs.List.{list_any}
use Rattle.packets_heard.specs.of_eoe_switch.Switch.{switched}
use Rattle.packets_heard.specs.of_eoe_switch.declared.switching.SwitchEvent.{SwitchEvent}
use Rattle.packets_heard.specs.of_master_node.Forwards.{forwarded}
use Rattle.packets_heard.specs.of_master_node.Happened.{arrivals_at}
use Rattle.plan_ring.specs.of_frame_view.View.{Lens}
use Rattle.plan_ring.specs.of_frame_view.Shares.{AllBoth}
use Rattle.run_notes.specs.of_run_book.Heard.{AllNoted, heard_in}
use Rattle.served_places.specs.of_life_model.Lives.{Stand}
use Rattle.served_places.specs.of_life_runs.First.{lens_of, first_leads}
use Rattle.served_places.specs.of_life_runs.Led.{Exchanged, Leads, IsLed}
use Rattle.packets_heard.specs.of_master_node.Ports.{ports_behind, ports_of}
use Rattle.packets_heard.specs.of_master_node.Shows.{is_live_lead}
use Rattle.packets_heard.specs.of_master_node.Wants.{gave_of, IsIdle}
use Rattle.served_places.specs.of_master_tour.Goes.{holds_at}
use Rattle.served_places.specs.of_master_tour.Toured.{Tour}
use Rattle.packets_heard.specs.Numbers.{Numbered, frames_begun}
use Rattle.packets_heard.specs.Over.{AreBegun}
use Rattle.packets_heard.specs.Listed.{Listed}
use Rattle.packets_heard.specs.Recalled.{State, RecalledIn}
use Rattle.run_notes.specs.of_run_book.declared.book.Book.{Book}
use Rattle.run_notes.specs.of_run_book.declared.book.Ending.{Ending}
use Rattle.run_notes.specs.of_run_book.declared.book.Ending.TheVariants as endings
use Rattle.run_notes.specs.of_run_book.declared.book.SentFrame.{SentFrame}
use Rattle.run_notes.specs.of_run_book.declared.book.SlaveBook.{SlaveBook}
use Rattle.run_notes.specs.Reports.{IsBooked}
use Rattle.run_notes.specs.Epochs.{HasEpochs}
use Rattle.run_notes.specs.Handed.{AreForwarded}
use Rattle.run_notes.specs.Heard.{emergencies_in}
use Rattle.run_notes.specs.Packets.{AreMails, AreNumbered, begun_in}
use Rattle.run_notes.specs.Switched.{HasPackets}
use Rattle.run_notes.specs.Unsent.{IsSpent}
use Rattle.run_record.specs.Written.{WereDue, packets_written}
use Rattle.packets_heard.specs.of_segment_plan.declared.plan.Scenario.{Scenario}
use Rattle.packets_heard.specs.of_slave_server.Serving.{next_mail}
use Rattle.packets_heard.specs.of_slave_node.Node.{is_settled}
use Rattle.packets_heard.specs.Toured.{IsToured}
use Rattle.run_notes.specs.Slaves.{gaves_in}

-- a frame of a book
abbrev pub exchanged : SentFrame → Exchanged
exchanged f = record { sent = f.sent; fate = f.fate; back = f.back }

-- THE FRAMES LEAD from a plan's new lives to these, with so many lost in a row last
abbrev pub LeadTo : Scenario → List Exchanged → ℕ → List Leads → Type 0
LeadTo plan fs missed leads = IsLed (lens_of plan.slaves) plan.recover plan.retry (first_leads plan) fs missed leads

-- THE EVENTS OF A SWITCH ARE JUST THOSE THAT THE FRAMES LIST, by the ports that the plan gives its slaves
abbrev pub ListsAll : (plan : Scenario) {fs : List Exchanged} {missed : ℕ} {leads : List Leads} → LeadTo plan fs missed leads → List SwitchEvent → Type 0
ListsAll plan lives es = Listed (lens_of plan.slaves) plan.recover plan.retry (ports_behind 0 plan.slaves) lives es

-- JUST THE PACKETS BEGIN THAT CAME INTO HAND, frame by frame, each the oldest at the port of its slave
abbrev pub BeginsAll : (plan : Scenario) {fs : List Exchanged} {missed : ℕ} {leads : List Leads} → LeadTo plan fs missed leads → List SwitchEvent → Type 0
BeginsAll plan lives es = AreBegun (ports_behind 0 plan.slaves) (ports_of plan.slaves) lives es

-- EACH EVENT HAS ITS NUMBER: how many frames had been sent when it came, frame by frame
abbrev pub NumbersAll : (plan : Scenario) {fs : List Exchanged} {missed : ℕ} {leads : List Leads} → LeadTo plan fs missed leads → List SwitchEvent → List ℕ → Type 0
NumbersAll plan lives es ns = Numbered (ports_behind 0 plan.slaves) (ports_of plan.slaves) lives es ns

-- THEY ARE THE VISITS OF ONE TOUR, from its begin on, which stands so behind them
abbrev pub TouredTo : Scenario → List Exchanged → Tour → List Leads → Type 0
TouredTo plan fs tour leads = IsToured (lens_of plan.slaves) plan.recover plan.retry (first_leads plan) fs tour leads

-- to some lives, as the visits of a tour
pub record AreLed (plan : Scenario) (fs : List Exchanged) : Type 0 where
  pub missed : ℕ
  pub leads : List Leads
  pub lives : LeadTo plan fs missed leads
  pub tour : Tour
  pub toured : TouredTo plan fs tour leads

-- NOTHING IS LEFT of a slave at the end: it was given up for good; or its master wants nothing of it, and the slave is settled
abbrev pub RestsSo : (ℕ → Lens) → Leads → SlaveBook → Type 0
RestsSo lens a row = (a.lived.life.stand ≡ Stand.Gone) ⊎ (IsIdle lens a × (is_settled next_mail row.node ≡ true))

-- and it was never given up: its master wants nothing of it, and it is settled
pub record DoneSo (lens : ℕ → Lens) (a : Leads) (row : SlaveBook) : Type 0 where
  pub idle : IsIdle lens a
  pub settled : is_settled next_mail row.node ≡ true
  pub stayed : gave_of a ≡ []

-- NOTHING IS LEFT TO DO where a run or a serving ended so
abbrev pub LeavesNone : Ending → Type 0
LeavesNone ending = (ending ≡ endings.Done) ⊎ (ending ≡ endings.GivenUp)

-- NO PACKET IS LEFT of a plan's switch, by its events: none waits at the port of a slave that wasn't given up for good, and where there is one all of the host's came in
pub record LeavesNoPacket (plan : Scenario) (leads : List Leads) (es : List SwitchEvent) : Type 0 where
  pub slaves : (k : ℕ) → holds_at is_live_lead leads k ≡ true → forwarded (switched (ports_of plan.slaves) es).switch (ports_behind 0 plan.slaves) k ≡ []
  pub host : list_any is_live_lead leads ≡ true → arrivals_at 0 es ≡ plan.host

-- NOTHING IS LEFT TO DO in a run: of no slave, and no packet
abbrev pub RestAll : Scenario → List Leads → Book → Type 0
RestAll plan leads book = AllBoth (RestsSo (lens_of plan.slaves)) leads book.slaves × LeavesNoPacket plan leads book.switch

-- HOW A RUN'S LIVES END: with nothing left of any slave, and none given up where all is done; anywhere where the budget or memory ends
abbrev pub RestBy : (ℕ → Lens) → Ending → List Leads → List SlaveBook → Type 0
RestBy lens endings.Done leads rows = AllBoth (DoneSo lens) leads rows
RestBy lens endings.GivenUp leads rows = AllBoth (RestsSo lens) leads rows
RestBy lens endings.BudgetSpent leads rows = ⊤
RestBy lens endings.NoMemory leads rows = ⊤
RestBy lens endings.PortFault leads rows = ⊤
RestBy lens endings.Unfinished leads rows = ⊤

-- THE VISITS OF A BOOK, none of them in vain by what its master remembered over its frames, with just the events of the book
pub record RecalledBook (plan : Scenario) (book : Book) (missed : ℕ) (leads : List Leads) : Type 0 where
  pub tour : Tour
  pub missed_is : tour.missed ≡ missed
  pub toured : TouredTo plan (map exchanged book.frames) tour leads
  pub state : State
  pub recalled : RecalledIn plan toured state
  pub events : state.events ≡ book.switch

-- THE BOOK OF A RUN and the lives that its frames lead to: each slave was given up at just the frames that the book has; of its script just the services
-- stand in the book that came into hand, each with its frame, and each reply is that of its row; of the mails that its life accepted just the emergencies
-- stand there, each with the frame that brought it; and nothing is left of it where the run is over. The frames are the visits of one tour. And the packets of
-- the host are those that the events of the switch make, and these events are just those that the frames list; of the slaves' ports just the packets began that
-- came into hand; and each event has its number, by the frame that made it; and just the packets that came into hand stand in the book of each slave, numbered,
-- and with their answers as long as each mail that was accepted was due, and no mail that is passed on. Where the run is over no packet is left. And no visit of
-- the tour is in vain, by what the master remembered
pub record LedBook (plan : Scenario) (book : Book) (ending : Ending) : Type 0 where
  pub missed : ℕ
  pub leads : List Leads
  pub lives : LeadTo plan (map exchanged book.frames) missed leads
  pub tour : Tour
  pub toured : TouredTo plan (map exchanged book.frames) tour leads
  pub gave : ending ≢ endings.NoMemory → gaves_in book.slaves ≡ map gave_of leads
  pub answers : ending ≢ endings.NoMemory → AllBoth IsBooked leads book.slaves
  pub unsent : ending ≢ endings.NoMemory → AllBoth IsSpent leads book.slaves
  pub epochs : ending ≢ endings.NoMemory → AllBoth HasEpochs leads book.slaves
  pub heard : ending ≢ endings.NoMemory → AllNoted (heard_in lives) (emergencies_in book.slaves)
  pub rests : RestBy (lens_of plan.slaves) ending leads book.slaves
  pub packets : ending ≢ endings.NoMemory → HasPackets plan book
  pub come : LeavesNone ending → LeavesNoPacket plan leads book.switch
  pub listed : ending ≢ endings.NoMemory → ListsAll plan lives book.switch
  pub begun : ending ≢ endings.NoMemory → BeginsAll plan lives book.switch
  pub numbered : ending ≢ endings.NoMemory → NumbersAll plan lives book.switch book.switched
  pub forwards : ending ≢ endings.NoMemory → AreNumbered (λ k. frames_begun lives k) (begun_in book.slaves)
  pub mails : ending ≢ endings.NoMemory → AreMails (λ k. []) (begun_in book.slaves)
  pub written : ending ≢ endings.NoMemory → WereDue lives → AreForwarded (λ k. packets_written lives k) book.slaves
  pub recalled : ending ≢ endings.NoMemory → RecalledBook plan book missed leads
  -- where the budget was spent something was left to do, as long as each mail that was accepted was due
  pub left : ending ≡ endings.BudgetSpent → WereDue lives → RestAll plan leads book → ⊥
