-- WHERE A RUN IS OVER nothing is left of it.
use Rattle.std.proofs.Common.{◌≡◌, ◌≢◌, inl, inr, ℕ, List, [], ◌∷◌, ◌++◌, map, ap, sym, ◌∙◌, subst}
use Rattle.std.proofs.lemmas.List.{append-nil}
use Rattle.seen_slaves.specs.of_frame_view.View.{Lens}
use Rattle.run_promises.specs.of_life_runs.Opened.{AllOpenTheirs}
use Rattle.seen_slaves.specs.of_frame_view.Shares.{AllBoth}
use Rattle.gateway_run.specs.of_run_record.AcceptedMails.{heard_in}
use Rattle.run_promises.specs.of_life_runs.First.{lens_of, first_leads}
use Rattle.run_promises.specs.of_life_runs.Led.{Exchanged, Leads, IsLed}
use Rattle.run_promises.specs.Promise.{slaves_behind, Keeps}
use Rattle.run_promises.specs.Rest.{IsAtRest, AllAtRest, AllStayed, IsResting, NothingIsLeft, AllIsDone}
use Rattle.promised_run.specs.Ports.{AllHavePorts}
use Rattle.promised_run.specs.Promised.{LeavesNothing, IsPromised}
use Rattle.promised_run.proofs.Alone.{RunsServe, alone}
use Rattle.promised_run.proofs.Emergencies.{all_emergencies}
use Rattle.promised_run.proofs.Epochs.{all_caused}
use Rattle.promised_run.proofs.Few.{outlived}
use Rattle.promised_run.proofs.Numbers.{all_numbers, all_packets}
use Rattle.promised_run.proofs.Ports.{all_ports}
use Rattle.promised_run.proofs.Reported.{all_reported}
use Rattle.promised_run.proofs.Rounds.{all_round, same_ring}
use Rattle.promised_run.proofs.SentWhole.{run_sends}
use Rattle.run_promises.specs.Laws.{PacketsAreLong, RunsHear, SlavesSendWhole}
use Rattle.promised_run.proofs.Through.{RepliesLaw}
use Rattle.promised_run.proofs.Unopened.{all_opened}
use Rattle.promised_run.proofs.Unsent.{all_unsent, come_of}
use Rattle.promised_run.proofs.Visits.{all_visit}
use Rattle.promised_run.proofs.Written.{all_written, some_left}
use Rattle.gateway_run.specs.of_run_book.declared.book.Book.{Book}
use Rattle.gateway_run.specs.of_run_book.declared.book.Ending.{Ending}
use Rattle.gateway_run.specs.of_run_book.declared.book.Ending.TheVariants as endings
use Rattle.gateway_run.specs.of_run_book.declared.book.SlaveBook.{SlaveBook}
use Rattle.seen_slaves.specs.of_plan_ring.Dues.{MailsAreDue}
use Rattle.seen_slaves.specs.of_plan_ring.Lives.{IsKnown}
use Rattle.run_promises.specs.Round.{ring_of, AllRound}
use Rattle.gateway_run.specs.of_run_record.Led.{exchanged, RestsSo, DoneSo, RestBy, LedBook}
use Rattle.gateway_run.specs.of_run_record.Ran.{HasFrames, HasRows, EndsAs}
use Rattle.gateway_run.specs.of_run_record.Replay.{first_ring, ring_after}
use Rattle.seen_slaves.specs.of_run_frames.Slaves.{AllCome}
use Rattle.run_promises.specs.of_segment_plan.Sound.{IsPlan}
use Rattle.run_promises.specs.of_segment_plan.declared.plan.Scenario.{Scenario}
use Rattle.run_promises.specs.of_segment_ring.Ring.{RingState}
use Rattle.run_promises.specs.of_slave_server.Serving.{Serving}
use Rattle.run_promises.specs.of_slave_node.Node.{Node}

-- what this crate's law says, for one plan
abbrev pub Promises : Scenario → Type 0
Promises plan = (fs others : List Exchanged) (missed : ℕ) (as' : List Leads) → IsLed (lens_of plan.slaves) plan.recover plan.retry (first_leads plan) fs missed as' → AllRound (ring_of plan) (fs ++ others) → Keeps plan fs as'

abbrev pub Comes : Scenario → Type 0
Comes plan = (fs : List Exchanged) (missed : ℕ) (as' : List Leads) → IsLed (lens_of plan.slaves) plan.recover plan.retry (first_leads plan) fs missed as' → AllCome plan 0 plan.slaves as'

abbrev pub Opens : Scenario → Type 0
Opens plan = (fs : List Exchanged) (missed : ℕ) (as' : List Leads) → IsLed (lens_of plan.slaves) plan.recover plan.retry (first_leads plan) fs missed as' → AllOpenTheirs as'

abbrev pub Rests : Scenario → Type 0
Rests plan = (fs : List Exchanged) (as' : List Leads) → Keeps plan fs as' → IsResting plan fs as' → NothingIsLeft plan fs as'

abbrev pub Finishes : Scenario → Type 0
Finishes plan = (fs : List Exchanged) (as' : List Leads) → Keeps plan fs as' → IsResting plan fs as' → AllStayed as' → AllIsDone plan fs as'

module _ (lens : ℕ → Lens) where
  one_at_rest : (a : Leads) (row : SlaveBook) → RestsSo lens a row → IsAtRest lens a row.node
  one_at_rest a row (inl gone) = inl gone
  one_at_rest a row (inr rest) = inr (record { stand = rest.0.stand; side = rest.0.side; hand = rest.0.hand; script = rest.0.script }, rest.1)

  all_at_rest : (as' : List Leads) (rows : List SlaveBook) → AllBoth (RestsSo lens) as' rows → AllAtRest lens as' (map (λ (row : SlaveBook). row.node) rows)
  all_at_rest [] [] rest = tt
  all_at_rest [] (row ∷ rows) rest = absurd rest
  all_at_rest (a ∷ as') [] rest = absurd rest
  all_at_rest (a ∷ as') (row ∷ rows) rest = (one_at_rest a row rest.0, all_at_rest as' rows rest.1)

  -- where all is done
  one_done : (a : Leads) (row : SlaveBook) → DoneSo lens a row → IsAtRest lens a row.node
  one_done a row so = inr (record { stand = so.idle.stand; side = so.idle.side; hand = so.idle.hand; script = so.idle.script }, so.settled)

  all_done : (as' : List Leads) (rows : List SlaveBook) → AllBoth (DoneSo lens) as' rows → AllAtRest lens as' (map (λ (row : SlaveBook). row.node) rows)
  all_done [] [] so = tt
  all_done [] (row ∷ rows) so = absurd so
  all_done (a ∷ as') [] so = absurd so
  all_done (a ∷ as') (row ∷ rows) so = (one_done a row so.0, all_done as' rows so.1)

  all_stayed : (as' : List Leads) (rows : List SlaveBook) → AllBoth (DoneSo lens) as' rows → AllStayed as'
  all_stayed [] [] so = tt
  all_stayed [] (row ∷ rows) so = absurd so
  all_stayed (a ∷ as') [] so = absurd so
  all_stayed (a ∷ as') (row ∷ rows) so = (so.0.stayed, all_stayed as' rows so.1)

module _ (plan : Scenario) (book : Book) where
  same_slaves : slaves_behind plan (map exchanged book.frames) ≡ (ring_after (first_ring plan) book.frames).nodes
  same_slaves = ap (λ (r : RingState (Node Serving)). r.nodes) (same_ring (first_ring plan) book.frames)

  resting : (leads : List Leads) → HasRows plan book → AllAtRest (lens_of plan.slaves) leads (map (λ (row : SlaveBook). row.node) book.slaves) → IsResting plan (map exchanged book.frames) leads
  resting leads rows rest = record { each = subst (λ (ns : List (Node Serving)). AllAtRest (lens_of plan.slaves) leads ns) (rows.nodes ∙ sym same_slaves) rest }

  leaves_nothing : Rests plan → Finishes plan → (leads : List Leads) → Keeps plan (map exchanged book.frames) leads → (ending : Ending) → EndsAs plan book ending → RestBy (lens_of plan.slaves) ending leads book.slaves → LeavesNothing plan book leads ending
  leaves_nothing law done leads kept endings.Done ends rest = done (map exchanged book.frames) leads kept (resting leads ends.rows (all_done (lens_of plan.slaves) leads book.slaves rest)) (all_stayed (lens_of plan.slaves) leads book.slaves rest)
  leaves_nothing law done leads kept endings.GivenUp ends rest = law (map exchanged book.frames) leads kept (resting leads ends.rows (all_at_rest (lens_of plan.slaves) leads book.slaves rest))
  leaves_nothing law done leads kept endings.BudgetSpent ends rest = tt
  leaves_nothing law done leads kept endings.NoMemory ends rest = tt
  leaves_nothing law done leads kept endings.PortFault ends rest = tt
  leaves_nothing law done leads kept endings.Unfinished ends rest = tt

  -- the promise, by the ending that the book has
  promised_by : IsPlan plan → IsKnown plan → RepliesLaw → RunsServe plan → SlavesSendWhole → PacketsAreLong → RunsHear → MailsAreDue plan → Promises plan → Comes plan → Opens plan → Rests plan → Finishes plan → HasFrames plan book → EndsAs plan book book.ending → LedBook plan book book.ending → IsPromised plan book
  promised_by sound known replies runs whole long accepted due law comes opens rests done frames ends led =
      let fs : List Exchanged = map exchanged book.frames in
      let round : AllRound (ring_of plan) fs = all_round (first_ring plan) book.frames frames.recorded in
      let kept : Keeps plan fs led.leads = law fs [] led.missed led.leads led.lives (subst (λ (gs : List Exchanged). AllRound (ring_of plan) gs) (sym (append-nil fs)) round) in
      let served = alone plan book led.leads led.missed sound known replies runs frames led.lives in
      let ports : book.ending ≢ endings.NoMemory → AllHavePorts plan led.lives book = λ ok. all_ports plan led.lives book (led.listed ok) (led.begun ok) in
      record { led = led; kept = kept; slaves = same_slaves; over = leaves_nothing rests done led.leads kept book.ending ends led.rests; served = served; reported = λ ok. all_reported plan fs 0 plan.slaves led.leads (slaves_behind plan fs) book.slaves kept.each (all_opened (lens_of plan.slaves) plan plan.retry fs led.missed led.leads led.lives) (led.answers ok); unsent = λ ok. all_unsent plan 0 led.leads book.slaves (come_of plan 0 plan.slaves led.leads (comes fs led.missed led.leads led.lives)) (led.unsent ok); epochs = λ ok. all_caused led.leads book.slaves (led.epochs ok) (led.gave ok) (opens fs led.missed led.leads led.lives); emergencies = λ ok. all_emergencies (heard_in led.lives) book.slaves (led.heard ok); packets = led.packets; ports = ports; sends = run_sends plan sound known whole long accepted book led.missed led.leads led.lives round served ports; visits = all_visit plan sound comes fs led.tour led.leads led.toured; outlived = outlived plan book frames ends led; numbers = λ ok. all_numbers plan led.lives book (led.listed ok) (led.numbered ok) (led.answers ok) (led.gave ok) ends ok; forwards = λ ok. all_packets plan led.lives book (led.forwards ok); written = all_written plan due book frames led; left = some_left plan due book frames led }

-- THE PROMISE, by the laws for a plan that was read
pub promised : (plan : Scenario) (book : Book) (ending : Ending) → IsPlan plan → IsKnown plan → RepliesLaw → RunsServe plan → SlavesSendWhole → PacketsAreLong → RunsHear → MailsAreDue plan → Promises plan → Comes plan → Opens plan → Rests plan → Finishes plan → HasFrames plan book → EndsAs plan book ending → book.ending ≡ ending → LedBook plan book ending → IsPromised plan book
promised plan book ending sound known replies runs whole long accepted due law comes opens rests done frames ends is led =
    promised_by plan book sound known replies runs whole long accepted due law comes opens rests done frames (subst (λ (e : Ending). EndsAs plan book e) (sym is) ends) (subst (λ (e : Ending). LedBook plan book e) (sym is) led)
