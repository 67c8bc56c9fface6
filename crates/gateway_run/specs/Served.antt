-- What a serving leaves in its book.
use Rattle.std.specs.Prelude.{◌≡◌, ◌≢◌, ◌⊎◌, ℕ, ◌≤◌, Bool, Option, true, List, [], ◌++◌, length, map, slice_get, All, Some}
use Rattle.gateway_core.specs.of_ec_outside.Faults.{Rose}
use Rattle.gateway_core.specs.of_ec_outside.Port.{HeardGram}
use Rattle.gateway_core.specs.of_ec_outside.declared.port.SentGram.{SentGram}
use Rattle.run_record.specs.of_segment_plan.declared.plan.Scenario.{Scenario}
use Rattle.run_record.specs.of_run_book.declared.book.Book.{Book}
use Rattle.run_record.specs.of_run_book.declared.book.Ending.{Ending}
use Rattle.run_record.specs.of_run_book.declared.book.Ending.TheVariants as endings
use Rattle.run_record.specs.of_run_book.declared.book.GramIn.{GramIn}
use Rattle.run_record.specs.of_run_book.declared.book.GramOut.{GramOut}
use Rattle.run_record.specs.of_master_node.Ports.{ports_behind, ports_of}
use Rattle.run_record.specs.of_master_node.Serving.{run_lead}
use Rattle.run_record.specs.of_frame_view.Shares.{AllBoth}
use Rattle.run_record.specs.of_life_runs.First.{lens_of}
use Rattle.run_record.specs.Mails.{served_mails, served_overs}
use Rattle.run_record.specs.AcceptedMails.{AllNoted}
use Rattle.run_record.specs.Led.{LeavesNoPacket, LeavesNone, exchanged}
use Rattle.run_record.specs.Served.{served_heard}
use Rattle.run_record.specs.Session.{SessionState, session_rows}
use Rattle.run_record.specs.Written.{WereServedDue, served_written}
use Rattle.run_record.specs.of_packets_heard.Servings.{AreServedBegun, ServedListed, ServedNumbered, served_begun}
use Rattle.run_record.specs.of_run_notes.Epochs.{HasEpochs}
use Rattle.run_record.specs.of_run_notes.Handed.{AreForwarded, AreHanded}
use Rattle.run_record.specs.of_run_notes.Heard.{emergencies_in}
use Rattle.run_record.specs.of_run_notes.Packets.{AreMails, AreNumbered, begun_in}
use Rattle.run_record.specs.of_run_notes.Reports.{IsBooked}
use Rattle.run_record.specs.of_run_notes.Slaves.{home_of}
use Rattle.run_record.specs.of_run_notes.Switched.{HasPackets}
use Rattle.run_record.specs.of_run_notes.Unsent.{IsSpent}
use Rattle.run_record.specs.Ran.{StopsAs}
use Rattle.gateway_run.specs.declared.desk.Request.{Request}
use Rattle.gateway_run.specs.Account.{Owing, Course, AreSpelled, Waited, heard_since, recent}
use Rattle.gateway_run.specs.Done.{AllDone, ServedRestAll, ServedRestsSo}
use Rattle.gateway_run.specs.Heard.{heard_as, AreHeard, AreSent, AreSentBut, IsOwed, IsRightly, LacksLast}
use Rattle.gateway_run.specs.Mails.{AreLate, HasMails}
use Rattle.gateway_run.specs.Replies.{Answers, dones_of}
use Rattle.gateway_run.specs.Serving.{Told, told}
use Rattle.gateway_run.specs.Stray.{DontFall, IsStray}

-- the datagrams of a serving: they are those that the port heard, and no more than so many; each that was sent goes to who asked, and each
-- that was passed on was rightly so
pub record HasGrams (plan : Scenario) (count : ℕ) (first last : Told) (book : Book) : Type 0 where
  pub serving : book.serving ≡ true
  pub heard : AreHeard first.heard last.heard book.grams
  pub few : length book.grams ≤ count
  pub answered : All (IsOwed (map heard_as book.grams)) book.replies
  pub judged : All (IsRightly (map home_of plan.slaves)) book.grams

-- all that was to be heard was heard, and the port sent what the book says
pub record IsThrough (count : ℕ) (first last : Told) (book : Book) : Type 0 where
  pub over : (length book.grams ≡ count) ⊎ (last.over ≡ true)
  pub sent : AreSent first.sent last.sent book.replies

-- the port failed: its count of faults rose, and the last datagram of the book was sent or not
pub record IsBroken (first last : Told) (book : Book) : Type 0 where
  pub rose : Rose first.faults last.faults
  pub sent : AreSentBut first.sent last.sent book.replies

-- WHAT WAS SENT IS WHAT WAS OWED, in order: the datagrams of the book, and behind them those that are still owed, which are none unless the port
-- failed, are those of a course of the plan's session over the frames and the datagrams heard of the book; and these frames lead that session. The packets
-- of the host are those that the events of the switch make. Where the serving is over nothing is left of any slave, and no packet; where its budget was spent something is
pub record HasAccount (plan : Scenario) (count : ℕ) (book : Book) (ending : Ending) : Type 0 where
  pub session : SessionState
  pub requests : List Request
  pub owed : List Owing
  pub later : List GramOut
  pub course : Course plan count session book.frames book.grams requests owed
  pub spelled : AreSpelled (map heard_as book.grams) owed (book.replies ++ later)
  -- by the lives that these frames lead each datagram got what is its own
  pub answers : Answers plan session (map exchanged book.frames) book.grams requests owed (dones_of plan count session book.frames book.grams requests owed course)
  -- where nothing was left to do no request is unfinished, and each that was queued at a slave is done, or a give-up of that slave ended it
  pub none : LeavesNone ending → requests ≡ []
  pub done : LeavesNone ending → AllDone answers.serving.leading.serves answers.came (dones_of plan count session book.frames book.grams requests owed course) owed 0 book.grams
  pub rows : book.slaves ≡ session_rows session
  -- The book has just what these lives made: of each slave the services of its script that came into hand, with what they came to, and those that weren't sent; its
  -- epochs, each with its frames; and the emergencies that were accepted of it and the packets that came into its hand, each with its frame.
  -- The events of the switch are just those that the frames list, each with its number, and just the packets begin that came into hand.
  pub reported : AllBoth IsBooked (map run_lead answers.serving.leading.serves) book.slaves
  pub unsent : AllBoth IsSpent (map run_lead answers.serving.leading.serves) book.slaves
  pub epochs : AllBoth HasEpochs (map run_lead answers.serving.leading.serves) book.slaves
  pub heard : AllNoted (served_heard answers.serving.leading.lives) (emergencies_in book.slaves)
  pub listed : ServedListed (ports_behind 0 plan.slaves) answers.serving.leading.lives book.switch
  pub begun : AreServedBegun (ports_behind 0 plan.slaves) (ports_of plan.slaves) answers.serving.leading.lives book.switch
  pub numbered : ServedNumbered (ports_behind 0 plan.slaves) (ports_of plan.slaves) answers.serving.leading.lives book.switch book.switched
  pub forwards : AreNumbered (λ k. served_begun answers.serving.leading.lives k) (begun_in book.slaves)
  -- just the mails stand there that were passed on, by the lives; each is that of its row there, in order, and began no earlier than its datagram was heard
  pub mails : AreMails (λ k. served_mails answers.serving.leading.lives k) (begun_in book.slaves)
  pub acts : AllBoth HasMails answers.serving.leading.serves book.slaves
  pub late : AllBoth (AreLate book.grams) answers.came book.slaves
  -- and each has its answer there: `Handed`, of the frame with which it was over, or in doubt where it wasn't
  pub handed : AreHanded (λ k. served_overs answers.serving.leading.lives k) book.slaves
  -- and so has each packet that came into hand, as long as each mail that was accepted was due: `Handed`, of the frame with whose return its last fragment was written
  pub written : WereServedDue answers.serving.leading.lives → AreForwarded (λ k. served_written answers.serving.leading.lives k) book.slaves
  pub rests : LeavesNone ending → AllBoth (ServedRestsSo (lens_of plan.slaves)) answers.serving.leading.serves book.slaves
  pub packets : HasPackets plan book
  pub come : LeavesNone ending → LeavesNoPacket plan (map run_lead answers.serving.leading.serves) book.switch
  -- and where the budget was spent something was left, as long as each mail that was accepted was due
  pub left : ending ≡ endings.BudgetSpent → WereServedDue answers.serving.leading.lives → ServedRestAll plan answers.serving.leading.serves book → ⊥
  -- the frames before which the datagrams were heard don't fall; and one that wasn't passed on gets error 5 only where no slave stands under its station
  pub steady : DontFall book.grams
  pub stray : (n : ℕ) (g : GramIn) → slice_get book.grams n ≡ Some g → IsStray (map home_of plan.slaves) book.slaves owed n g
  pub all : ending ≢ endings.PortFault → later ≡ []

-- IT WAITED before each frame at which no request was unfinished and more could be heard: a datagram was heard since the frame before, but where the port has ended
-- behind the serving and no datagram was heard behind that frame
abbrev pub HasWaited : {plan : Scenario} {count : ℕ} {book : Book} {ending : Ending} → Told → HasAccount plan count book ending → Type 0
HasWaited {plan} {count} {book} last a = Waited plan count a.session book.frames book.grams a.requests a.owed a.course last.over

-- ONLY WHAT CAME LAST MAY LACK: all that the book has was sent, and no more is still owed than the datagrams heard since the last frame made so; or, with the last
-- datagram of the book, which was sent or not, no more than came last
abbrev pub IsPrompt : {plan : Scenario} {count : ℕ} {book : Book} {ending : Ending} → Told → Told → HasAccount plan count book ending → Type 0
IsPrompt {plan} {count} {book} {ending} first last a =
    LacksLast first.sent last.sent book.replies (length a.later) (length (heard_since plan count a.session book.frames book.grams a.requests a.owed a.course)) (length (recent plan count a.session book.frames book.grams a.requests a.owed a.course))

-- what goes with an ending
abbrev pub GoesWith : ℕ → Told → Told → Book → Ending → Type 0
GoesWith count first last book endings.Done = IsThrough count first last book
GoesWith count first last book endings.GivenUp = IsThrough count first last book
GoesWith count first last book endings.BudgetSpent = AreSent first.sent last.sent book.replies
GoesWith count first last book endings.PortFault = IsBroken first last book
GoesWith count first last book endings.NoMemory = Unit {0}
GoesWith count first last book endings.Unfinished = ⊥

-- A SERVING: how it ended, and unless memory ran out, what it heard and sent, that it waited as its turns say, and that only what came last may lack
abbrev pub IsServed : Scenario → ℕ → Told → Told → Book → Ending → Type 0
IsServed plan count first last book endings.NoMemory = Unit {0}
IsServed plan count first last book ending =
    StopsAs plan count book ending × HasGrams plan count first last book × GoesWith count first last book ending × (account : HasAccount plan count book ending) × HasWaited last account × IsPrompt first last account

-- the same by what this port told before and tells behind
abbrev pub IsServedOver : {Q : Type 0} → (Q → Option (List HeardGram)) → (Q → Option (List SentGram)) → (Q → Bool) → (Q → ℕ) → Scenario → ℕ → Q → Q → Book → Ending → Type 0
IsServedOver heard sent over faults plan count port port' book ending = IsServed plan count (told heard sent over faults port) (told heard sent over faults port') book ending
