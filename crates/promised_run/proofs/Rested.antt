-- WHERE NOTHING WAS LEFT TO DO all is done of each slave that wasn't given up for good.
use Rattle.std.proofs.Common.{◌≡◌, ◌⊎◌, ℕ, suc, true, List, [], ◌∷◌, length, map, inl, inr, sym, ap, ◌∙◌, subst}
use Rattle.gateway_run.specs.Done.{ServedRestsSo}
use Rattle.gateway_run.specs.Served.{HasAccount, IsServed}
use Rattle.gateway_run.specs.Serving.{Told}
use Rattle.seen_slaves.specs.of_frame_view.Shares.{AllBoth}
use Rattle.run_promises.specs.of_life_model.Lives.{Stand}
use Rattle.gateway_run.proofs.of_life_runs.Opened.{IsOpened}
use Rattle.run_promises.specs.of_life_runs.First.{first_leads, lens_of}
use Rattle.run_promises.specs.of_life_runs.Led.{Exchanged}
use Rattle.run_promises.specs.of_master_node.Wants.{IsMailless}
use Rattle.seen_slaves.specs.of_plan_ring.Lives.{IsKnown}
use Rattle.seen_slaves.specs.of_plan_ring.Round.{AllRound, ring_after as ring_behind, ring_of}
use Rattle.promised_run.proofs.LastEpochs.{AllOpened, opened_over, quiet_where}
use Rattle.promised_run.proofs.Rounds.{all_round, same_ring}
use Rattle.promised_run.proofs.Through.{same_nodes}
use Rattle.promised_run.specs.Stood.{nodes_through}
use Rattle.promised_run.specs.Rested.{AllRested, IsRested, IsServedRested}
use Rattle.gateway_run.specs.of_run_book.declared.book.Book.{Book}
use Rattle.gateway_run.specs.of_run_book.declared.book.Ending.{Ending}
use Rattle.gateway_run.specs.of_run_book.declared.book.Ending.TheVariants as endings
use Rattle.gateway_run.specs.of_run_book.declared.book.SlaveBook.{SlaveBook}
use Rattle.run_promises.proofs.Known.{known}
use Rattle.gateway_run.specs.of_run_record.Led.{LeavesNone, exchanged}
use Rattle.gateway_run.specs.of_run_record.Ran.{HasRows, HasSent}
use Rattle.gateway_run.specs.of_run_record.Replay.{first_ring, ring_after}
use Rattle.run_promises.specs.of_scenario.Told.{IsTold}
use Rattle.run_promises.specs.of_segment_plan.Sound.{IsPlan}
use Rattle.run_promises.specs.of_segment_plan.declared.plan.Scenario.{Scenario}
use Rattle.run_promises.specs.of_segment_plan.declared.slave.SlaveSpec.{SlaveSpec}
use Rattle.run_promises.specs.of_segment_ring.Ring.{RingState}
use Rattle.seen_slaves.specs.of_served_rings.Rests.{AllServedDoneIf, IsServedDone, IsServedIdle}
use Rattle.seen_slaves.specs.of_served_rings.Rings.{nodes_behind}
use Rattle.seen_slaves.specs.of_served_rings.StoodLives.{IsFirst, others}
use Rattle.run_promises.specs.of_life_runs.Served.{IsServedLed, Serves, all_serve}
use Rattle.run_promises.specs.of_slave_server.Serving.{Serving, next_mail}
use Rattle.run_promises.specs.of_slave_node.Node.{Node, is_settled}

-- the law
abbrev pub RestsLaw : Type 0
RestsLaw =
    (plan : Scenario) → IsPlan plan → IsKnown plan → (fs : List Exchanged) (missed : ℕ) (ws : List Serves) → IsServedLed (lens_of plan.slaves) plan.recover plan.retry (all_serve plan.paces (first_leads plan)) fs missed ws →
    AllRound (ring_of plan) fs → AllServedDoneIf (nodes_behind plan fs) plan 0 plan.slaves ws (ring_behind (ring_of plan) fs).nodes

module _ (plan : Scenario) where
  -- what a master wants of none
  idle_of : (w : Serves) → IsMailless (lens_of plan.slaves) w → IsServedIdle (lens_of plan.slaves) w
  idle_of w m = record { stand = m.idle.stand; side = m.idle.side; hand = m.idle.hand; script = m.idle.script; waits = m.waits; over = m.over }

  one_rested : (stood : ℕ → Node Serving → Type 0) (place : ℕ) (s : SlaveSpec) (w : Serves) (row : SlaveBook) (frames : ℕ) → IsOpened frames w.lead.lived → (IsServedIdle (lens_of plan.slaves) w → is_settled next_mail row.node ≡ true → IsServedDone stood plan place s w row.node) → ServedRestsSo (lens_of plan.slaves) w row →
      (w.lead.lived.life.stand ≡ Stand.Gone) ⊎ IsRested stood plan place s w row.node
  one_rested stood place s w row frames opened law (inl gone) = inl gone
  one_rested stood place s w row frames opened law (inr so) = (let idle = idle_of w so.0 in inr (record { idle = idle; settled = so.1; quiet = quiet_where frames w opened idle.stand; done = law idle so.1 }))

  each_rested : (stood : ℕ → List (Node Serving)) (place : ℕ) (ss : List SlaveSpec) (ws : List Serves) (rows : List SlaveBook) (frames : ℕ) → AllOpened frames ws → AllServedDoneIf stood plan place ss ws (map (λ (row : SlaveBook). row.node) rows) → AllBoth (ServedRestsSo (lens_of plan.slaves)) ws rows →
      AllRested stood plan place ss ws (map (λ (row : SlaveBook). row.node) rows)
  each_rested stood place [] [] [] frames opened law rests = tt
  each_rested stood place [] [] (row ∷ rows) frames opened law rests = absurd rests
  each_rested stood place [] (w ∷ ws) [] frames opened law rests = absurd rests
  each_rested stood place [] (w ∷ ws) (row ∷ rows) frames opened law rests = absurd law
  each_rested stood place (s ∷ ss) [] [] frames opened law rests = absurd law
  each_rested stood place (s ∷ ss) [] (row ∷ rows) frames opened law rests = absurd law
  each_rested stood place (s ∷ ss) (w ∷ ws) [] frames opened law rests = absurd rests
  each_rested stood place (s ∷ ss) (w ∷ ws) (row ∷ rows) frames opened law rests = (one_rested (IsFirst stood) place s w row frames opened.0 law.0 rests.0, each_rested (others stood) (suc place) ss ws rows frames opened.1 law.1 rests.1)

module _ (plan : Scenario) (count : ℕ) (book : Book) (is : IsPlan plan) (told : IsTold plan) (law : RestsLaw) (sent : HasSent plan count book) where
  abbrev stood : ℕ → List (Node Serving)
  stood = nodes_through plan book.frames

  by_rows : HasRows plan book → (ending : Ending) → LeavesNone ending → (a : HasAccount plan count book ending) → AllRested stood plan 0 plan.slaves a.answers.serving.leading.serves (ring_after (first_ring plan) book.frames).nodes
  by_rows rows ending leaves a =
      let l = a.answers.serving.leading in
      let nodes : (ring_behind (ring_of plan) (map exchanged book.frames)).nodes ≡ (ring_after (first_ring plan) book.frames).nodes = ap (λ (r : RingState (Node Serving)). r.nodes) (same_ring (first_ring plan) book.frames) in
      let done = law plan is (known plan told) (map exchanged book.frames) l.missed l.serves l.lives (all_round (first_ring plan) book.frames sent.recorded) in
      let done_here = subst (λ (at : ℕ → List (Node Serving)). AllServedDoneIf at plan 0 plan.slaves l.serves (ring_behind (ring_of plan) (map exchanged book.frames)).nodes) (λ i k. same_nodes plan book.frames k i) done in
      subst (AllRested stood plan 0 plan.slaves l.serves) rows.nodes
      (each_rested plan stood 0 plan.slaves l.serves book.slaves (length (map exchanged book.frames)) (opened_over plan (map exchanged book.frames) l.missed l.serves l.lives) (subst (AllServedDoneIf stood plan 0 plan.slaves l.serves) (nodes ∙ sym rows.nodes) done_here) (a.rests leaves))

  by_ending : (first last : Told) (ending : Ending) → IsServed plan count first last book ending → LeavesNone ending → (a : HasAccount plan count book ending) → AllRested stood plan 0 plan.slaves a.answers.serving.leading.serves (ring_after (first_ring plan) book.frames).nodes
  by_ending first last endings.Done s leaves a = by_rows s.0.rows endings.Done leaves a
  by_ending first last endings.GivenUp s leaves a = by_rows s.0.rows endings.GivenUp leaves a
  by_ending first last endings.BudgetSpent s leaves a = by_rows s.0.rows endings.BudgetSpent leaves a
  by_ending first last endings.PortFault s leaves a = by_rows s.0 endings.PortFault leaves a
  by_ending first last endings.NoMemory s (inl e) a = absurd (cc)
  by_ending first last endings.NoMemory s (inr e) a = absurd (cc)
  by_ending first last endings.Unfinished s leaves a = absurd s.0

-- so it is by the ending that the book has
pub rested : (plan : Scenario) (count : ℕ) (first last : Told) (book : Book) (ending : Ending) → IsPlan plan → IsTold plan → RestsLaw → HasSent plan count book → IsServed plan count first last book ending → book.ending ≡ ending → IsServedRested plan count book
rested plan count first last book ending is told law sent served same = λ leaves a.
    by_ending plan count book is told law sent first last book.ending (subst (IsServed plan count first last book) (sym same) served) leaves a
