-- THE BOOK OF A SERVING has of scripts and epochs what that of a run has.
use Rattle.std.proofs.Common.{ℕ, zero, suc, List, [], ◌∷◌, map, length, refl, ◌∙◌}
use Rattle.run_promises.specs.of_life_runs.First.{leads_from, lens_of}
use Rattle.run_promises.specs.of_life_runs.Led.{Exchanged, gives_up_at}
use Rattle.run_promises.specs.of_life_runs.Opened.{AllOpenTheirs}
use Rattle.run_promises.specs.of_datagrams.Datagram as Raw
use Rattle.seen_slaves.specs.of_frame_view.View.{Lens}
use Rattle.run_promises.specs.of_master_node.Serving.{run_lead}
use Rattle.promised_run.proofs.Epochs.{all_caused}
use Rattle.promised_run.proofs.ServedPorts.{gave_so}
use Rattle.promised_run.proofs.Unsent.{AllOfPlan, all_unsent}
use Rattle.promised_run.specs.ServedBooks.{IsServedBooked}
use Rattle.gateway_run.specs.of_run_book.declared.book.Book.{Book}
use Rattle.gateway_run.specs.of_run_record.Served.{ServeTo}
use Rattle.run_promises.specs.of_segment_plan.declared.plan.Scenario.{Scenario}
use Rattle.run_promises.specs.of_segment_plan.declared.slave.SlaveSpec.{SlaveSpec}
use Rattle.run_promises.specs.of_life_runs.Served.{Keyed, Serves, ServedTurn, IsServedLed, AllServedTurn, all_serve, asked_at, served_behind}

-- ---- the script of each slave stays the plan's

module _ (plan : Scenario) where
  asked_of : (place at : ℕ) (k : Keyed) (ws : List Serves) → AllOfPlan plan at (map run_lead ws) → AllOfPlan plan at (map run_lead (asked_at place k ws))
  asked_of zero at k [] h = tt
  asked_of (suc place) at k [] h = tt
  asked_of zero at k (w ∷ ws) h = h
  asked_of (suc place) at k (w ∷ ws) h = (h.0, asked_of place (suc at) k ws h.1)

  module _ (lens : ℕ → Lens) (recover retry made : ℕ) (f : Exchanged) (missed : ℕ) where
    behind_of : (at : ℕ) (ds : List Raw.Datagram) (ws : List Serves) (vs : List ServedTurn) → AllServedTurn lens made ds ws vs → AllOfPlan plan at (map run_lead ws) →
        AllOfPlan plan at (map run_lead (map (served_behind lens recover retry (gives_up_at lens recover retry missed) made f) vs))
    behind_of at ds [] [] t h = tt
    behind_of at ds [] (v ∷ vs) t h = absurd t
    behind_of at ds (w ∷ ws) [] t h = absurd t
    behind_of at ds (w ∷ ws) (v ∷ vs) t h = (t.0.script ∙ h.0, behind_of (suc at) ds ws vs t.1 h.1)

  first_of : (paces : List ℕ) (at : ℕ) (ss : List SlaveSpec) → AllOfPlan plan at (map run_lead (all_serve paces (leads_from plan.services at ss)))
  first_of paces at [] = tt
  first_of [] at (s ∷ ss) = (refl, first_of [] (suc at) ss)
  first_of (pace ∷ paces) at (s ∷ ss) = (refl, first_of paces (suc at) ss)

  of_plan : (fs : List Exchanged) (missed : ℕ) (ws : List Serves) → ServeTo plan fs missed ws → AllOfPlan plan 0 (map run_lead ws)
  of_plan _ _ _ IsServedLed.start = first_of plan.paces 0 plan.slaves
  of_plan _ _ _ (IsServedLed.asks fs missed ws place k l may) = asked_of place 0 k ws (of_plan fs missed ws l)
  of_plan _ _ _ (IsServedLed.on fs missed ws f vs l y) = behind_of (lens_of plan.slaves) plan.recover plan.retry (length fs) f missed 0 y.datagrams ws vs y.each (of_plan fs missed ws l)

-- what the law of a serving's lives says, for one plan
abbrev pub Opens : Scenario → Type 0
Opens plan = (fs : List Exchanged) (missed : ℕ) (ws : List Serves) → ServeTo plan fs missed ws → AllOpenTheirs (map (λ (w : Serves). w.lead) ws)

-- BY EACH ACCOUNT of a book
pub booked : (plan : Scenario) (count : ℕ) (book : Book) → Opens plan → IsServedBooked plan count book
booked plan count book opens = λ ok a.
    let l = a.answers.serving.leading in
    record {
      unsent = all_unsent plan 0 (map run_lead l.serves) book.slaves (of_plan plan _ l.missed l.serves l.lives) a.unsent;
      epochs = all_caused (map run_lead l.serves) book.slaves a.epochs (gave_so plan count book a) (opens _ l.missed l.serves l.lives);
    }
