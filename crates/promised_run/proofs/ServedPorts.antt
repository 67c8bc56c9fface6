-- What happened at the port of each slave of a serving, and when, by the events that the frames list.
use Rattle.std.proofs.Common.{◌≡◌, ◌≢◌, ◌<◌, ℕ, suc, List, [], ◌∷◌, ◌++◌, map, length, refl, sym, ap, ◌∙◌, subst}
use Rattle.std.specs.Prelude.{All}
use Rattle.gateway_run.specs.Served.{HasAccount, IsServed}
use Rattle.gateway_run.specs.Serving.{Told}
use Rattle.run_promises.specs.of_life_runs.First.{first_leads, lens_of}
use Rattle.run_promises.specs.of_life_runs.Led.{Exchanged, Leads}
use Rattle.seen_slaves.specs.of_frame_view.Shares.{AllBoth}
use Rattle.run_promises.proofs.of_master_node.Servings.{run_all}
use Rattle.promised_run.proofs.Numbers.{given_are, scripts_are}
use Rattle.promised_run.proofs.Ports.{by_times, few_ports, first_live}
use Rattle.promised_run.proofs.Rows.{both_hold, serving_packets, serving_plain}
use Rattle.promised_run.specs.Numbers.{rows_at}
use Rattle.promised_run.specs.Ports.{HasBegunAt}
use Rattle.promised_run.specs.ServedPorts.{AllHaveServedNumbers, AllHaveServedPorts, IsServedAtPorts, mail_frames}
use Rattle.gateway_run.specs.of_run_book.declared.book.Book.{Book}
use Rattle.gateway_run.specs.of_run_book.declared.book.Ending.{Ending}
use Rattle.gateway_run.specs.of_run_book.declared.book.Ending.TheVariants as endings
use Rattle.gateway_run.specs.of_run_book.declared.book.SlaveBook.{SlaveBook}
use Rattle.run_promises.specs.of_master_node.Ports.{ports_behind, ports_of}
use Rattle.run_promises.specs.of_master_node.Serving.{run_lead}
use Rattle.run_promises.specs.of_master_node.Shows.{is_live_lead}
use Rattle.run_promises.specs.of_master_node.Wants.{gave_of}
use Rattle.run_promises.specs.of_master_tour.Goes.{holds_at}
use Rattle.gateway_run.proofs.of_run_record.ServedGaves.{served_counted}
use Rattle.run_promises.proofs.of_packets_heard.GivenUp.{serving_goes}
use Rattle.run_promises.proofs.of_packets_heard.Numbers.{serving_begins, serving_comes}
use Rattle.run_promises.proofs.of_packets_heard.Owns.{own_port}
use Rattle.run_promises.proofs.of_packets_heard.PacketsRuns.{serving_begun, serving_first, serving_last}
use Rattle.run_promises.proofs.of_packets_heard.Parts.{serving_joined}
use Rattle.run_promises.proofs.of_packets_heard.Quiet.{serving_quiet}
use Rattle.run_promises.proofs.of_packets_heard.Runs.{serving_arrivals, serving_downs}
use Rattle.gateway_run.specs.of_run_record.Ran.{HasRows}
use Rattle.gateway_run.specs.of_run_record.Served.{ServeTo}
use Rattle.run_promises.specs.of_eoe_switch.declared.switching.SwitchEvent.{SwitchEvent}
use Rattle.run_promises.specs.of_packets_heard.Listed.{IsOwn, long_ones}
use Rattle.run_promises.specs.of_packets_heard.Numbers.{NoneWaits, events_up_to, number_behind}
use Rattle.run_promises.specs.of_packets_heard.Servings.{AreServedBegun, ServedListed, ServedNumbered, served_joined, served_packets, served_times}
use Rattle.gateway_run.specs.of_run_notes.Reports.{IsBooked}
use Rattle.gateway_run.specs.of_run_notes.Slaves.{gaves_in, gaves_noted, slave_rows}
use Rattle.gateway_run.specs.of_run_notes.declared.notes.Notes.{Notes}
use Rattle.run_promises.specs.of_segment_plan.declared.plan.Scenario.{Scenario}
use Rattle.run_promises.specs.of_life_runs.Served.{Serves}
use Rattle.run_promises.specs.of_slave_node.Node.{Node}
use Rattle.run_promises.specs.of_slave_server.declared.server.SlaveServer.{SlaveServer}

module _ (plan : Scenario) {fs : List Exchanged} {missed : ℕ} {ws : List Serves} (lives : ServeTo plan fs missed ws) where
  -- what began there
  begun_there : (es : List SwitchEvent) → AreServedBegun (ports_behind 0 plan.slaves) (ports_of plan.slaves) lives es → (k port : ℕ) → port < ports_of plan.slaves → IsOwn (ports_behind 0 plan.slaves) k port →
      HasBegunAt (served_packets lives k) (ports_of plan.slaves) port es
  begun_there es begins k port few own =
      let ports = ports_behind 0 plan.slaves in
      let many = ports_of plan.slaves in
      let first = serving_first ports many k port own lives es few begins in
      record {
        begun = serving_begun ports many k port own lives es begins;
        left = first.0;
        forwarded = first.1;
        last = λ xs ys whole. serving_last ports many k port own lives es xs ys begins whole;
      }

  -- AT THE PORT OF EACH SLAVE
  all_ports : (book : Book) → ServedListed (ports_behind 0 plan.slaves) lives book.switch → AreServedBegun (ports_behind 0 plan.slaves) (ports_of plan.slaves) lives book.switch → AllHaveServedPorts plan lives book
  all_ports book listed begins = λ k port has.
      let ports = ports_behind 0 plan.slaves in
      let own = own_port plan.slaves k port has in
      let live = first_live plan.services 0 plan.slaves 0 k port has in
      record {
        arrived = serving_arrivals (lens_of plan.slaves) plan.recover plan.retry ports k port own lives book.switch listed ∙ ap long_ones (by_times (served_times lives) (served_joined lives) (serving_joined lives) k);
        downs = serving_downs (lens_of plan.slaves) plan.recover plan.retry ports k port own lives book.switch (ap (λ (as' : List Leads). holds_at is_live_lead as' k) (run_all plan.paces (first_leads plan)) ∙ live) listed;
        begun = begun_there book.switch begins k port (few_ports plan.slaves k port has) own;
      }

  -- THE NUMBERS THERE
  all_numbers : (book : Book) → ServedListed (ports_behind 0 plan.slaves) lives book.switch → ServedNumbered (ports_behind 0 plan.slaves) (ports_of plan.slaves) lives book.switch book.switched → AllBoth IsBooked (map run_lead ws) book.slaves →
      gaves_in book.slaves ≡ map gave_of (map run_lead ws) → HasRows plan book → AllHaveServedNumbers plan lives book
  all_numbers book listed numbered booked gave has_rows = λ k port has.
      let ports = ports_behind 0 plan.slaves in
      let many = ports_of plan.slaves in
      let own = own_port plan.slaves k port has in
      let lens = lens_of plan.slaves in
      let rows = rows_at (map run_lead ws) k in
      let Quiet : ℕ → Type 0 = λ frame. NoneWaits many port (events_up_to frame book.switch book.switched) in
      let given = given_are plan.recover (map run_lead ws) book.slaves gave has_rows.given_up k in
      record {
        begun = serving_begins ports many k port own lives book.switch book.switched numbered ∙ sym (serving_packets lens plan plan.retry k lives);
        arrived = serving_comes ports many k port own lives book.switch book.switched listed numbered;
        down = serving_goes lens plan plan.retry ports many k port own (first_live plan.services 0 plan.slaves 0 k port has) (served_counted plan) lives book.switch book.switched listed numbered ∙ sym (ap number_behind given);
        quiet = subst (λ (z : List ℕ). All Quiet (z ++ mail_frames rows)) (sym (scripts_are (map run_lead ws) book.slaves booked k))
            (both_hold Quiet rows (subst (λ (z : List ℕ). All Quiet z) (sym (serving_plain lens plan plan.retry k lives)) (serving_quiet ports many k port own lives book.switch book.switched numbered)));
      }

-- ---- how often each slave was given up, by the rows of a session

rows_gave : (recover : ℕ) (nodes : List (Node SlaveServer)) (notes : List Notes) → length (slave_rows recover nodes notes) ≡ length notes → gaves_in (slave_rows recover nodes notes) ≡ gaves_noted notes
rows_gave recover [] [] e = refl
rows_gave recover [] (n ∷ notes) e = absurd (cc)
rows_gave recover (node ∷ nodes) [] e = refl
rows_gave recover (node ∷ nodes) (n ∷ notes) e = ap (λ z. n.gave ∷ z) (rows_gave recover nodes notes (cc))

as_many : (as' : List Leads) (rows : List SlaveBook) → AllBoth IsBooked as' rows → length rows ≡ length as'
as_many [] [] h = refl
as_many [] (row ∷ rows) h = absurd h
as_many (a ∷ as') [] h = absurd h
as_many (a ∷ as') (row ∷ rows) h = ap (λ z. suc z) (as_many as' rows h.1)

gaves_many : (as' : List Leads) (notes : List Notes) → gaves_noted notes ≡ map gave_of as' → length notes ≡ length as'
gaves_many [] [] e = refl
gaves_many [] (n ∷ notes) e = absurd (cc)
gaves_many (a ∷ as') [] e = absurd (cc)
gaves_many (a ∷ as') (n ∷ notes) e =
    let both : n.gave ∷ gaves_noted notes ≡ gave_of a ∷ map gave_of as' = e in
    let rest : gaves_noted notes ≡ map gave_of as' = cc in
    ap (λ z. suc z) (gaves_many as' notes rest)

-- the give-ups of the rows are those of the lives
module _ (plan : Scenario) (count : ℕ) (book : Book) where
  pub gave_so : (a : HasAccount plan count book book.ending) → gaves_in book.slaves ≡ map gave_of (map run_lead a.answers.serving.leading.serves)
  gave_so a =
      let as' = map run_lead a.answers.serving.leading.serves in
      let notes = a.session.notes in
      let rows = slave_rows a.session.recover a.session.ring.nodes notes in
      let many : length rows ≡ length notes = ap (λ z. length z) (sym a.rows) ∙ as_many as' book.slaves a.reported ∙ sym (gaves_many as' notes a.answers.serving.gave) in
      ap gaves_in a.rows ∙ rows_gave a.session.recover a.session.ring.nodes notes many ∙ a.answers.serving.gave

module _ (plan : Scenario) (count : ℕ) (book : Book) (first last : Told) where
  rows_by : (ending : Ending) → IsServed plan count first last book ending → ending ≢ endings.NoMemory → HasRows plan book
  rows_by endings.Done served ok = served.0.rows
  rows_by endings.GivenUp served ok = served.0.rows
  rows_by endings.BudgetSpent served ok = served.0.rows
  rows_by endings.PortFault served ok = served.0
  rows_by endings.NoMemory served ok = absurd (ok refl)
  rows_by endings.Unfinished served ok = absurd served.0

  -- BY EACH ACCOUNT of a book
  pub at_ports : (result : Ending) → IsServed plan count first last book result → book.ending ≡ result → IsServedAtPorts plan count book
  at_ports result served ends = λ ok a.
      let lives = a.answers.serving.leading.lives in
      let rows = rows_by result served (λ no. ok (ends ∙ no)) in
      record { ports = all_ports plan lives book a.listed a.begun; numbers = all_numbers plan lives book a.listed a.numbered a.reported (gave_so plan count book a) rows }
