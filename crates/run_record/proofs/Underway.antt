-- A session that is under way, run or serving.
use Rattle.std.proofs.Common.{◌≡◌, ℕ, suc, ◌+◌, ◌<◌, ◌≤◌, inl, inr, [], ◌∷◌, ◌++◌, length, map, Bool, false, ap, sym, ◌∙◌, subst, length-append, false-eqb, arith}
use Rattle.std.specs.Prelude.{All, ◌==◌}
use Rattle.std.proofs.lemmas.List.Elements.{All-nil, All-cons, All-append}
use Rattle.packets_heard.specs.of_master_node.Happened.{HasHappened}
use Rattle.packets_heard.specs.of_master_node.declared.lan.Lan.{Lan}
use Rattle.packets_heard.specs.of_segment_plan.declared.plan.Scenario.{Scenario}
use Rattle.served_places.specs.of_segment_ring.Ring.{RingState}
use Rattle.packets_heard.specs.of_slave_node.Node.{Node}
use Rattle.packets_heard.specs.of_slave_server.Spec.{node_of}
use Rattle.packets_heard.specs.of_slave_server.declared.server.SlaveServer.{SlaveServer}
use Rattle.std.proofs.lemmas.List.{length-map}
use Rattle.run_notes.specs.of_run_book.Book.{IsNew, IsShort}
use Rattle.run_notes.specs.of_run_book.Ports.{ports_of, IsAtPort}
use Rattle.run_notes.specs.of_run_book.declared.book.Book.{Book}
use Rattle.run_notes.specs.of_run_book.declared.book.Ending.{Ending}
use Rattle.run_notes.specs.of_run_book.declared.book.Ending.TheVariants as endings
use Rattle.run_notes.specs.of_run_book.declared.book.SentFrame.{SentFrame}
use Rattle.run_notes.specs.of_run_book.declared.book.SlaveBook.{SlaveBook}
use Rattle.run_notes.proofs.Switched.{switched_same}
use Rattle.run_notes.proofs.Timings.{timed_same}
use Rattle.run_notes.specs.Counted.{AreDated}
use Rattle.run_notes.specs.Switched.{IsSwitched, SameSwitch}
use Rattle.run_notes.specs.Times.{IsTimedBy, between}
use Rattle.run_record.specs.Replay.{first_ring, behind, ring_after, IsRecorded, AreRecorded}
use Rattle.run_record.specs.Session.{SessionState, first_session, session_rows, are_at_rest, some_given_up, Steps, Stops}
use Rattle.run_record.specs.Ran.{HasSent, IsUnderway, IsGivenUp, HasRows, EndsSo, EndsAs, StopsSo, StopsAs, packets_of}
use Rattle.run_record.proofs.Replays.{after_more, recorded_more, number_after, length_after}
use Rattle.run_record.proofs.Rows.{nodes_of_rows, rows_given_up}
use Rattle.run_record.proofs.SwitchFirst.{switched_new}
use Rattle.run_record.proofs.Dated.{dated_rows, timed_first}

-- before the first frame
pub begun : (plan : Scenario) (grams : ℕ) (s : SessionState) (b : Book) → s ≡ first_session plan grams s.master → IsNew b → HasHappened (ports_of plan.slaves) plan.host [] s.master.lan → IsUnderway plan grams s b
begun plan grams s b first new none = record {
  ring = ap (λ (t : SessionState). t.ring) first ∙ ap (ring_after (first_ring plan)) (sym new.frames);
  recorded = subst (AreRecorded (first_ring plan)) (sym new.frames) tt;
  short = subst (All IsShort) (sym new.frames) (All-nil IsShort);
  homes = ap (λ (t : SessionState). t.homes) first;
  ports = ap (λ (t : SessionState). t.ports) first;
  at_port = subst (All (IsAtPort (ports_of plan.slaves))) (sym new.switch) (All-nil (IsAtPort (ports_of plan.slaves)));
  recover = ap (λ (t : SessionState). t.recover) first;
  budget = ap (λ (t : SessionState). t.budget) first;
  serves = ap (λ (t : SessionState). t.serving) first;
  few = let number = ap (λ (t : SessionState). t.ring.number) first in omega (arith, number);
  slaves = new.slaves;
  switched = switched_new plan grams s b first new none;
  at_ports = ap (λ (t : SessionState). t.at_ports) first;
  timed = subst (λ (t : SessionState). IsTimedBy (between t.ring.number) t.at_ports b t.notes) (sym first) (timed_first plan b new);
}

-- frames with one more
module _ (plan : Scenario) (grams : ℕ) (s : SessionState) (b : Book) (f : SentFrame) (h : IsUnderway plan grams s b) (one : IsRecorded s.ring f) (short : IsShort f) where
  more_recorded : AreRecorded (first_ring plan) (b.frames ++ f ∷ [])
  more_recorded = recorded_more (first_ring plan) b.frames f h.recorded (subst (λ r. IsRecorded r f) h.ring one)

  more_short : All IsShort (b.frames ++ f ∷ [])
  more_short = All-append IsShort b.frames (f ∷ []) h.short (All-cons IsShort f [] short (All-nil IsShort))

-- a frame more may be sent
pub still_left : (number budget : ℕ) (spent : Bool) → spent ≡ (number == budget) → spent ≡ false → number ≤ budget → number < budget
still_left number budget spent is unspent le = let apart = false-eqb number budget (sym unspent ∙ is) in omega (arith, apart, le)

-- one frame more
pub stepped_on : (plan : Scenario) (grams : ℕ) (s : SessionState) (b : Book) (s' : SessionState) (b' : Book) (f : SentFrame) →
    IsUnderway plan grams s b → s.ring.number < s.budget → Steps s b s' b' f → IsUnderway plan grams s' b'
stepped_on plan grams s b s' b' f h left step = record {
  ring = step.ring ∙ ap (λ (r : RingState (Node SlaveServer)). behind r f.sent) h.ring ∙ sym (after_more (first_ring plan) b.frames f) ∙ ap (ring_after (first_ring plan)) (sym step.put);
  recorded = subst (AreRecorded (first_ring plan)) (sym step.put) (more_recorded plan grams s b f h step.recorded step.short);
  short = subst (All IsShort) (sym step.put) (more_short plan grams s b f h step.recorded step.short);
  homes = step.homes ∙ h.homes;
  ports = step.ports ∙ h.ports;
  at_port = subst (λ (n : ℕ). All (IsAtPort n) b'.switch) h.ports (step.rest.at_port (subst (λ (n : ℕ). All (IsAtPort n) b.switch) (sym h.ports) h.at_port));
  recover = step.recover ∙ h.recover;
  budget = step.budget ∙ h.budget;
  serves = step.serving ∙ h.serves;
  few = let number = ap (λ (r : RingState (Node SlaveServer)). r.number) step.ring in let same = step.budget in omega (arith, number, same, left);
  slaves = step.rest.slaves ∙ h.slaves;
  switched = step.switch plan.host h.switched;
  at_ports = step.at_ports ∙ h.at_ports;
  timed = step.timed h.timed;
}

-- how many frames there are
pub many : (plan : Scenario) (grams : ℕ) (s : SessionState) (b : Book) → IsUnderway plan grams s b → length b.frames ≡ s.ring.number
many plan grams s b h =
    let n = ap (λ (r : RingState (Node SlaveServer)). r.number) h.ring in
    let m : (ring_after (first_ring plan) b.frames).number ≡ 0 + length b.frames = number_after (first_ring plan) b.frames in
    omega (arith, n, m)

-- the frames so far
pub has_frames : (plan : Scenario) (grams : ℕ) (s : SessionState) (b b' : Book) → IsUnderway plan grams s b → b'.frames ≡ b.frames → b'.switch ≡ b.switch → HasSent plan grams b'
has_frames plan grams s b b' h frames switch = record {
  recorded = subst (AreRecorded (first_ring plan)) (sym frames) h.recorded;
  few = let number = many plan grams s b h in let few = h.few in let budget = h.budget in let same = ap length frames in omega (arith, number, few, budget, same);
  short = subst (All IsShort) (sym frames) h.short;
  at_port = subst (All (IsAtPort (ports_of plan.slaves))) (sym switch) h.at_port;
}

-- those of a step in which memory ran out
pub stopped : (plan : Scenario) (grams : ℕ) (s : SessionState) (b b' : Book) → IsUnderway plan grams s b → s.ring.number < s.budget → Stops s b b' → HasSent plan grams b'
stopped plan grams s b b' h left stop = record {
  recorded = elim stop.frames [
    | inl same ↦ subst (AreRecorded (first_ring plan)) (sym same) h.recorded
    | inr f ↦ subst (AreRecorded (first_ring plan)) (sym f.1) (more_recorded plan grams s b f.0 h f.2 f.3)
  ];
  few = let number = many plan grams s b h in let few = h.few in let budget = h.budget in
      elim stop.frames [
        | inl same ↦ (let n = ap length same in omega (arith, number, few, budget, n))
        | inr f ↦ (let n = ap length f.1 ∙ length-append b.frames (f.0 ∷ []) in omega (arith, number, left, budget, n))
      ];
  short = elim stop.frames [
    | inl same ↦ subst (All IsShort) (sym same) h.short
    | inr f ↦ subst (All IsShort) (sym f.1) (more_short plan grams s b f.0 h f.2 f.3)
  ];
  at_port = subst (λ (n : ℕ). All (IsAtPort n) b'.switch) h.ports (stop.rest.at_port (subst (λ (n : ℕ). All (IsAtPort n) b.switch) (sym h.ports) h.at_port));
}

-- one frame more was sent
pub one_more : (s : SessionState) (b : Book) (s' : SessionState) (b' : Book) (f : SentFrame) → Steps s b s' b' f → s'.ring.number ≡ suc s.ring.number
one_more s b s' b' f step = ap (λ (r : RingState (Node SlaveServer)). r.number) step.ring

-- mails were passed on, and datagrams put into the book
pub same_on : (plan : Scenario) (grams : ℕ) (s s' : SessionState) (b b' : Book) → IsUnderway plan grams s b → s' ≡ record s { asked = s'.asked; waiting = s'.waiting; master = s'.master } → s'.master.lan ≡ s.master.lan → b'.frames ≡ b.frames → SameSwitch b b' → b'.slaves ≡ b.slaves → IsUnderway plan grams s' b'
same_on plan grams s s' b b' h same lan frames kept slaves =
    let ports : s'.ports ≡ s.ports = ap (λ (t : SessionState). t.ports) same in
    let number : s'.ring.number ≡ s.ring.number = ap (λ (t : SessionState). t.ring.number) same in
    record {
      ring = ap (λ (t : SessionState). t.ring) same ∙ h.ring ∙ ap (ring_after (first_ring plan)) (sym frames);
      recorded = subst (AreRecorded (first_ring plan)) (sym frames) h.recorded;
      short = subst (All IsShort) (sym frames) h.short;
      homes = ap (λ (t : SessionState). t.homes) same ∙ h.homes;
      ports = ports ∙ h.ports;
      at_port = subst (All (IsAtPort (ports_of plan.slaves))) (sym kept.switch) h.at_port;
      recover = ap (λ (t : SessionState). t.recover) same ∙ h.recover;
      budget = ap (λ (t : SessionState). t.budget) same ∙ h.budget;
      serves = ap (λ (t : SessionState). t.serving) same ∙ h.serves;
      few = let b = ap (λ (t : SessionState). t.budget) same in let few = h.few in omega (arith, number, b, few);
      slaves = slaves ∙ h.slaves;
      switched = switched_same s'.ports plan.host s'.ring.number s'.master.lan b b' kept
          (subst (λ (l : Lan). IsSwitched s'.ports plan.host s'.ring.number l b) (sym lan)
          (subst (λ (n : ℕ). IsSwitched n plan.host s'.ring.number s.master.lan b) (sym ports) (subst (λ (n : ℕ). IsSwitched s.ports plan.host n s.master.lan b) (sym number) h.switched)));
      at_ports = ap (λ (t : SessionState). t.at_ports) same ∙ h.at_ports;
      timed = subst (λ (t : SessionState). IsTimedBy (between t.ring.number) t.at_ports b' t.notes) (sym same) (timed_same (between s.ring.number) s.at_ports b b' s.notes kept h.timed);
    }

-- the rows at the end
module _ (plan : Scenario) (grams : ℕ) (s : SessionState) (b b' : Book) (h : IsUnderway plan grams s b) (frames : b'.frames ≡ b.frames) (kept : SameSwitch b b') (rows : b'.slaves ≡ session_rows s) (same : length s.notes ≡ length s.ring.nodes) where
  rows_behind : map (λ (row : SlaveBook). row.node) b'.slaves ≡ (ring_after (first_ring plan) b'.frames).nodes
  rows_behind =
      ap (map (λ (row : SlaveBook). row.node)) rows ∙ nodes_of_rows s.recover s.ring.nodes s.notes same ∙ ap (λ (r : RingState (Node SlaveServer)). r.nodes) (h.ring ∙ ap (ring_after (first_ring plan)) (sym frames))

  has_rows : HasRows plan b'
  has_rows = record {
    many = sym (length-map b'.slaves (λ (row : SlaveBook). row.node)) ∙ ap length rows_behind ∙ length_after (first_ring plan) b'.frames ∙ length-map plan.slaves node_of;
    nodes = rows_behind;
    given_up = subst (All (IsGivenUp plan.recover)) (sym rows) (subst (λ (n : ℕ). All (IsGivenUp n) (session_rows s)) h.recover (rows_given_up s.recover s.ring.nodes s.notes));
    dated = subst (AreDated (length b'.frames) (packets_of plan b')) (sym rows)
        (subst (λ (n : ℕ). AreDated n (packets_of plan b') (session_rows s)) (sym (many plan grams s b h) ∙ sym (ap length frames)) (dated_rows plan s b' h.at_ports (timed_same (between s.ring.number) s.at_ports b b' s.notes kept h.timed)));
  }

  -- how a serving ended
  pub ended : (ending : Ending) → StopsSo s ending → StopsAs plan grams b' ending
  ended endings.Done so = record { rows = has_rows; at_rest = ap are_at_rest rows ∙ so.0; gave = ap some_given_up rows ∙ so.1 }
  ended endings.GivenUp so = record { rows = has_rows; at_rest = ap are_at_rest rows ∙ so.0; gave = ap some_given_up rows ∙ so.1 }
  ended endings.BudgetSpent so = record { rows = has_rows; spent = ap length frames ∙ many plan grams s b h ∙ so ∙ h.budget }
  ended endings.NoMemory so = tt
  ended endings.PortFault so = has_rows
  ended endings.Unfinished so = absurd so

-- a run ends as a serving that hears nothing, and by no fault of a port
pub ran_so : (s : SessionState) (ending : Ending) → EndsSo s ending → StopsSo s ending
ran_so s endings.Done so = so
ran_so s endings.GivenUp so = so
ran_so s endings.BudgetSpent so = so
ran_so s endings.NoMemory so = so
ran_so s endings.PortFault so = tt
ran_so s endings.Unfinished so = so

pub ran_as : (plan : Scenario) (s : SessionState) (book : Book) (ending : Ending) → EndsSo s ending → StopsAs plan 0 book ending → EndsAs plan book ending
ran_as plan s book endings.Done so ends = ends
ran_as plan s book endings.GivenUp so ends = ends
ran_as plan s book endings.BudgetSpent so ends = ends
ran_as plan s book endings.NoMemory so ends = tt
ran_as plan s book endings.PortFault so ends = so
ran_as plan s book endings.Unfinished so ends = ends
