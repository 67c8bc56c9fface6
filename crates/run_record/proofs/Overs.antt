-- THE BOOK OF A RUN that is over, and the lives that its frames lead to.
use Rattle.std.proofs.Common.{◌≡◌, ◌⊎◌, inl, inr, ℕ, Bool, true, false, List, [], map, length, refl, ap, sym, ◌∙◌, subst}
use Rattle.std.specs.Prelude.{◌≢◌, Option}
use Rattle.std.specs.Bool.{OnTrue, OnFalse}
use Rattle.packets_heard.specs.of_eoe_switch.declared.switching.SwitchEvent.{SwitchEvent}
use Rattle.run_notes.specs.of_run_book.Heard.{emergencies_of}
use Rattle.packets_heard.proofs.of_master_node.Counts.{counted}
use Rattle.packets_heard.specs.of_master_node.Ports.{ports_behind, ports_of}
use Rattle.packets_heard.specs.of_master_node.Serving.{run_lead}
use Rattle.packets_heard.specs.of_master_node.Shows.{lived_of}
use Rattle.packets_heard.specs.of_master_node.Told.{HasLives}
use Rattle.packets_heard.specs.of_master_node.Toured.{tour_of}
use Rattle.packets_heard.specs.of_master_node.Wants.{AllCounted, AllLeft, gave_of}
use Rattle.plan_ring.specs.of_frame_view.View.{Lens}
use Rattle.plan_ring.specs.of_frame_view.Shares.{AllBoth}
use Rattle.served_places.specs.of_life_runs.First.{lens_of}
use Rattle.served_places.specs.of_life_runs.Led.{Exchanged, Leads}
use Rattle.served_places.specs.of_master_tour.Toured.{Tour}
use Rattle.packets_heard.specs.Numbers.{frames_begun}
use Rattle.packets_heard.specs.Recalled.{RecalledIn, State}
use Rattle.packets_heard.specs.ServedRecalled.{ServedRecalledIn}
use Rattle.packets_heard.specs.Servings.{AreServedBegun, ServedListed, ServedNumbered, served_begun}
use Rattle.run_notes.specs.of_run_book.declared.book.Book.{Book}
use Rattle.run_notes.specs.of_run_book.declared.book.Ending.{Ending}
use Rattle.run_notes.specs.of_run_book.declared.book.Ending.TheVariants as endings
use Rattle.run_notes.specs.of_run_book.declared.book.SlaveBook.{SlaveBook}
use Rattle.run_notes.proofs.Heard.{heard_of_rows}
use Rattle.run_notes.proofs.Packets.{begun_of_rows}
use Rattle.run_notes.proofs.Reporting.{all_booked, all_spent, all_epochs}
use Rattle.run_notes.proofs.Switched.{has_packets, switched_same}
use Rattle.run_notes.specs.Epochs.{HasEpochs}
use Rattle.run_notes.specs.Handed.{AreForwarded}
use Rattle.run_notes.specs.Heard.{emergencies_in}
use Rattle.run_notes.specs.Packets.{AreMails, AreNumbered, begun_in, begun_noted}
use Rattle.run_notes.specs.Reports.{AllReport, IsBooked}
use Rattle.run_notes.specs.Slaves.{gaves_in, gaves_noted}
use Rattle.run_notes.specs.Switched.{SameSwitch}
use Rattle.run_notes.specs.Unsent.{IsSpent}
use Rattle.run_record.proofs.Ends.{all_done, gaves_of_rows, rest_so, served_left}
use Rattle.run_record.proofs.Lefts.{all_out, all_over}
use Rattle.run_record.proofs.MailNotes.{rows_forwarded}
use Rattle.run_record.proofs.NoPackets.{none_left}
use Rattle.run_record.proofs.RunLives.{IsRun, run_lives}
use Rattle.run_record.proofs.RunStanding.{Stands, StandsSo, none_asked, stands_same}
use Rattle.run_record.proofs.RunTours.{IsRunTour, run_tour, tour_by}
use Rattle.run_record.proofs.ServedGaves.{has_lives}
use Rattle.run_record.proofs.Unasked.{NoneAsked, leads_of}
use Rattle.run_record.proofs.Underway.{many}
use Rattle.run_record.specs.Led.{exchanged, LedBook, LeavesNoPacket, LeavesNone, RecalledBook, RestAll, RestBy, RestsSo, TouredTo}
use Rattle.run_record.specs.Mails.{served_mails}
use Rattle.run_record.specs.Ran.{EndsSo, IsUnderway}
use Rattle.run_record.specs.Recalling.{state_of}
use Rattle.run_record.specs.Served.{Serving, ServingLives, ServingRests}
use Rattle.run_record.specs.Session.{IsDone, SessionState, are_at_rest, session_rows, some_given_up}
use Rattle.run_record.specs.Written.{WereDue, forwards_now, packets_written, served_written}
use Rattle.packets_heard.specs.of_segment_plan.declared.plan.Scenario.{Scenario}
use Rattle.served_places.specs.of_life_runs.Served.{Serves}

not_done : endings.Done ≡ endings.NoMemory → ⊥
not_done e = absurd (cc)

not_given : endings.GivenUp ≡ endings.NoMemory → ⊥
not_given e = absurd (cc)

-- where the budget was spent or memory ran out something may be left
not_spent : LeavesNone endings.BudgetSpent → ⊥
not_spent (inl e) = absurd (cc)
not_spent (inr e) = absurd (cc)

not_out : LeavesNone endings.NoMemory → ⊥
not_out (inl e) = absurd (cc)
not_out (inr e) = absurd (cc)

-- what is the same at each place is the same
at_all : {T : Type 0} (P : (ℕ → T) → Type 0) (f g : ℕ → T) → ((k : ℕ) → g k ≡ f k) → P f → P g
at_all P f g same p = (let e : g ≡ f = λ i. λ k. same k i in subst P (sym e) p)

module _ (plan : Scenario) (s : SessionState) (b b' : Book) (h : IsUnderway plan 0 s b) (stands : Stands plan s b) (frames : b'.frames ≡ b.frames) (kept : SameSwitch b b') (same : length s.notes ≡ length s.ring.nodes) where
  abbrev lens : ℕ → Lens
  lens = lens_of plan.slaves

  abbrev ports : List (Option ℕ)
  ports = ports_behind 0 plan.slaves

  abbrev fs : List Exchanged
  fs = map exchanged b'.frames

  now : StandsSo plan s fs b'.switch b'.switched
  now = stands_same plan s (map exchanged b.frames) fs b.switch b'.switch b.switched b'.switched (ap (map exchanged) frames) kept.switch kept.switched stands

  abbrev w : Serving plan s fs
  w = now.serving

  abbrev ws : List Serves
  ws = w.leading.serves

  none : NoneAsked ws
  none = none_asked (length plan.slaves) ws (w.asked ∙ now.unasked)

  -- THE LIVES OF ITS SERVING, as those of a run
  run : IsRun plan w.leading.lives
  run = run_lives plan fs w.leading.missed ws w.leading.lives none

  leads_are : map run_lead ws ≡ run.leads
  leads_are = leads_of ws run.leads run.quiet

  gave : gaves_noted s.notes ≡ map gave_of run.leads
  gave = w.gave ∙ ap (map gave_of) leads_are

  told : AllReport run.leads s.notes
  told = subst (λ (z : List Leads). AllReport z s.notes) leads_are w.told

  has_gaves : b'.slaves ≡ session_rows s → gaves_in b'.slaves ≡ map gave_of run.leads
  has_gaves rows = ap gaves_in rows ∙ gaves_of_rows s.recover s.ring.nodes s.notes same ∙ gave

  all : AllCounted s.recover run.leads
  all = subst (λ (n : ℕ). AllCounted n run.leads) (sym h.recover) (counted lens plan plan.retry fs w.leading.missed run.leads run.lives)

  -- nothing is left
  all_rest : b'.slaves ≡ session_rows s → are_at_rest (session_rows s) ≡ true → ServingRests s → AllBoth (RestsSo lens) run.leads b'.slaves
  all_rest rows rest out =
      let left : AllLeft lens run.leads = subst (λ (z : List Leads). AllLeft lens z) leads_are (served_left lens ws (out.slaves plan fs w)) in
      subst (λ (rs : List SlaveBook). AllBoth (RestsSo lens) run.leads rs) (sym rows) (rest_so lens s.recover run.leads s.ring.nodes s.notes same all gave rest left)

  rest_by : (ending : Ending) (settled : Bool) → EndsSo s ending → OnTrue settled (ServingRests s) → OnFalse settled (ending ≡ endings.BudgetSpent) → (ending ≢ endings.NoMemory → b'.slaves ≡ session_rows s) → RestBy lens ending run.leads b'.slaves
  rest_by endings.Done true so out cut rows = let r = rows not_done in all_done lens s.recover run.leads b'.slaves all (has_gaves r) (ap some_given_up r ∙ so.1) (all_rest r so.0 out)
  rest_by endings.Done false so out cut rows = absurd (let bad : endings.Done ≡ endings.BudgetSpent = cut in cc)
  rest_by endings.GivenUp true so out cut rows = all_rest (rows not_given) so.0 out
  rest_by endings.GivenUp false so out cut rows = absurd (let bad : endings.GivenUp ≡ endings.BudgetSpent = cut in cc)
  rest_by endings.BudgetSpent settled so out cut rows = tt
  rest_by endings.NoMemory settled so out cut rows = tt
  rest_by endings.PortFault settled so out cut rows = tt
  rest_by endings.Unfinished settled so out cut rows = tt

  -- nor a packet
  no_packet : (ending result : Ending) (settled : Bool) → OnTrue settled (ServingRests s) → OnFalse settled (ending ≡ endings.BudgetSpent) → (result ≡ ending) ⊎ (result ≡ endings.NoMemory) → LeavesNone result → LeavesNoPacket plan run.leads b'.switch
  no_packet ending result true out cut answers over =
      none_left lens plan.recover plan s.master run.leads s.ports s.ring.number b'
      (subst (λ (z : List Leads). HasLives lens plan.recover s.master (map lived_of z)) leads_are (has_lives lens plan.recover plan.retry w.leading.missed (length fs) s.master ws w.leading.shows)) w.forwarded.ports h.ports
      (switched_same s.ports plan.host s.ring.number s.master.lan b b' kept h.switched) out.come
  no_packet ending result false out cut (inl is) over = absurd (not_spent (subst LeavesNone (is ∙ cut) over))
  no_packet ending result false out cut (inr is) over = absurd (not_out (subst LeavesNone is over))

  -- its tour, and what was remembered over it
  tour : IsRunTour plan w.leading.toured
  tour = run_tour plan fs (tour_of s.master) ws w.leading.toured none

  both : (toured : TouredTo plan fs tour.tour run.leads) × ((r : State) → ServedRecalledIn plan w.leading.toured r → RecalledIn plan toured r)
  both = tour_by plan fs (tour_of s.master) ws w.leading.toured tour run.leads run.quiet

  abbrev now_remembered : State
  now_remembered = state_of s.master b'.switch s.ring

  recalled_book : RecalledBook plan b' w.leading.missed run.leads
  recalled_book = record { tour = tour.tour; missed_is = sym (ap (λ (t : Tour). t.missed) tour.same) ∙ w.leading.shows.missed_is; toured = both.0; state = now_remembered; recalled = both.1 now_remembered (subst (λ (es : List SwitchEvent). ServedRecalledIn plan w.leading.toured (state_of s.master es s.ring)) now.events w.remembers); events = refl }

  -- what happened at its switch, as the book has it
  listed : ServedListed ports w.leading.lives b'.switch
  listed = subst (λ (es : List SwitchEvent). ServedListed ports w.leading.lives es) now.events w.forwarded.listed

  begun : AreServedBegun ports (ports_of plan.slaves) w.leading.lives b'.switch
  begun = subst (λ (es : List SwitchEvent). AreServedBegun ports (ports_of plan.slaves) w.leading.lives es) now.events w.forwarded.begun

  numbered : ServedNumbered ports (ports_of plan.slaves) w.leading.lives b'.switch b'.switched
  numbered =
      subst (λ (ns : List ℕ). ServedNumbered ports (ports_of plan.slaves) w.leading.lives b'.switch ns) now.numbers
      (subst (λ (es : List SwitchEvent). ServedNumbered ports (ports_of plan.slaves) w.leading.lives es w.numbers) now.events w.numbered)

  -- of packets
  packets_in : b'.slaves ≡ session_rows s → AreNumbered (λ k. frames_begun run.lives k) (begun_in b'.slaves)
  packets_in rows =
      subst (λ z. AreNumbered (λ k. frames_begun run.lives k) z) (sym (ap begun_in rows ∙ begun_of_rows s.recover s.ring.nodes s.notes same))
      (at_all (λ (z : ℕ → List ℕ). AreNumbered z (begun_noted s.notes)) (λ k. served_begun w.leading.lives k) (λ k. frames_begun run.lives k) run.begun w.packets.rows)

  mails_in : b'.slaves ≡ session_rows s → AreMails (λ k. []) (begun_in b'.slaves)
  mails_in rows =
      subst (λ z. AreMails (λ k. []) z) (sym (ap begun_in rows ∙ begun_of_rows s.recover s.ring.nodes s.notes same))
      (at_all (λ (z : ℕ → List (ℕ × ℕ)). AreMails z (begun_noted s.notes)) (λ k. served_mails w.leading.lives k) (λ k. []) (λ k. sym (run.mails k)) w.packets.mailed)

  -- and of their answers
  written : b'.slaves ≡ session_rows s → WereDue run.lives → AreForwarded (λ k. packets_written run.lives k) b'.slaves
  written rows due =
      subst (λ (rs : List SlaveBook). AreForwarded (λ k. packets_written run.lives k) rs) (sym rows)
      (at_all (λ (z : ℕ → List (Option ℕ)). AreForwarded z (session_rows s)) (λ k. served_written w.leading.lives k) (λ k. packets_written run.lives k) run.written
      (rows_forwarded s.recover s.ring.nodes s.notes (map run_lead ws) (λ k. served_written w.leading.lives k) (λ k. forwards_now lens (map run_lead ws) k) w.told (w.written (run.due due))))

  -- where the budget was spent something was left
  some_left : ServingLives s → (IsDone s → ⊥) → b'.slaves ≡ session_rows s → WereDue run.lives → RestAll plan run.leads b' → ⊥
  some_left lives busy rows due none =
      let same_leads = sym leads_are in
      busy (all_over plan s fs w h.recover same (lives plan fs h.recover w) b'.switch now.events (subst (λ (z : List Leads). LeavesNoPacket plan z b'.switch) same_leads none.1) (run.due due) (all_out lens ws run.leads b'.slaves run.quiet none.0)
      (subst (λ (rs : List SlaveBook). AllBoth (RestsSo lens) (map run_lead ws) rs) rows (subst (λ (z : List Leads). AllBoth (RestsSo lens) z b'.slaves) same_leads none.0)))

  left_by : (ending result : Ending) (settled : Bool) → OnTrue settled (ending ≢ endings.BudgetSpent) → OnFalse settled (ServingLives s) → OnFalse settled (IsDone s → ⊥) → (result ≡ ending) ⊎ (result ≡ endings.NoMemory) → (result ≢ endings.NoMemory → b'.slaves ≡ session_rows s) →
      result ≡ endings.BudgetSpent → WereDue run.lives → RestAll plan run.leads b' → ⊥
  left_by ending result true whole lives busy (inl is) rows spent due none = absurd (whole (sym is ∙ spent))
  left_by ending result true whole lives busy (inr out) rows spent due none = absurd (let bad : endings.BudgetSpent ≡ endings.NoMemory = sym spent ∙ out in cc)
  left_by ending result false whole lives busy answers rows spent due none = some_left lives busy (rows (λ out. let bad : endings.BudgetSpent ≡ endings.NoMemory = sym spent ∙ out in cc)) due none

  -- however it ends
  pub led_book : (ending result : Ending) (settled : Bool) → EndsSo s ending → OnTrue settled (ServingRests s) → OnFalse settled (ending ≡ endings.BudgetSpent) → OnTrue settled (ending ≢ endings.BudgetSpent) → OnFalse settled (ServingLives s) → OnFalse settled (IsDone s → ⊥) →
      (result ≡ ending) ⊎ (result ≡ endings.NoMemory) → (result ≢ endings.NoMemory → b'.slaves ≡ session_rows s) → LedBook plan b' result
  led_book ending result settled so out cut whole lives busy answers rows = record {
    missed = w.leading.missed;
    leads = run.leads;
    lives = run.lives;
    tour = tour.tour;
    toured = both.0;
    gave = λ ok. has_gaves (rows ok);
    answers = λ ok. subst (λ (rs : List SlaveBook). AllBoth IsBooked run.leads rs) (sym (rows ok)) (all_booked s.recover run.leads s.ring.nodes s.notes same told);
    unsent = λ ok. subst (λ (rs : List SlaveBook). AllBoth IsSpent run.leads rs) (sym (rows ok)) (all_spent s.recover run.leads s.ring.nodes s.notes same told);
    epochs = λ ok. subst (λ (rs : List SlaveBook). AllBoth HasEpochs run.leads rs) (sym (rows ok)) (all_epochs s.recover run.leads s.ring.nodes s.notes same told);
    heard = λ ok. ap emergencies_in (rows ok) ∙ heard_of_rows s.recover s.ring.nodes s.notes same ∙ w.heard ∙ ap (map emergencies_of) (sym run.heard);
    packets = λ ok. has_packets plan s.ports s.ring.number s.master.lan b b' h.ports (sym (ap length frames ∙ many plan 0 s b h)) kept h.switched;
    come = no_packet ending result settled out cut answers;
    listed = λ ok. run.listed b'.switch listed;
    begun = λ ok. run.begins b'.switch begun;
    numbered = λ ok. run.numbered b'.switch b'.switched numbered;
    forwards = λ ok. packets_in (rows ok);
    mails = λ ok. mails_in (rows ok);
    written = λ ok due. written (rows ok) due;
    recalled = λ ok. recalled_book;
    left = left_by ending result settled whole lives busy answers rows;
    rests = elim answers [
      | inl is ↦ subst (λ (e : Ending). RestBy lens e run.leads b'.slaves) (sym is) (rest_by ending settled so out cut (λ ok. rows (λ none. ok (sym is ∙ none))))
      | inr none ↦ subst (λ (e : Ending). RestBy lens e run.leads b'.slaves) (sym none) tt
    ];
  }
