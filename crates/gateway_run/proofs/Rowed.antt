-- What each datagram got, by lives over which just these events came at the switch, with these numbers.
use Rattle.std.proofs.Common.{◌≡◌, ℕ, Option, List, [], ◌∷◌, ◌++◌}
use Rattle.run_record.specs.of_master_node.Happened.{events_of}
use Rattle.run_record.specs.of_life_runs.Led.{Exchanged}
use Rattle.run_record.specs.of_run_book.declared.book.GramIn.{GramIn}
use Rattle.run_record.specs.Served.{ServeTo}
use Rattle.run_record.specs.of_packets_heard.Servings.{ServedNumbered}
use Rattle.run_record.specs.Session.{SessionState}
use Rattle.run_record.specs.of_eoe_switch.declared.switching.SwitchEvent.{SwitchEvent}
use Rattle.run_record.specs.of_segment_plan.declared.plan.Scenario.{Scenario}
use Rattle.run_record.specs.of_life_runs.Served.{IsServedLed, Serves}
use Rattle.gateway_run.specs.Account.{Owing}
use Rattle.gateway_run.specs.Replies.{Answers}
use Rattle.gateway_run.specs.declared.desk.Request.{Request}

abbrev pub Rowed : Scenario → SessionState → List Exchanged → List GramIn → List Request → List Owing → List ℕ → List SwitchEvent → List ℕ → Type 0
Rowed plan s fs gs rs os dones es ns = (a : Answers plan s fs gs rs os dones) × (events_of a.serving.rows ≡ es) × (a.serving.numbers ≡ ns)

-- BEFORE THE FIRST FRAME none came
pub some_last : (fs : List Exchanged) (f : Exchanged) → fs ++ f ∷ [] ≡ [] → ⊥
some_last [] f e = cc
some_last (g ∷ fs) f e = cc

pub none_numbered : (plan : Scenario) (ports : List (Option ℕ)) (many : ℕ) (fs : List Exchanged) (missed : ℕ) (ws : List Serves) (lives : ServeTo plan fs missed ws) (es : List SwitchEvent) (ns : List ℕ) → fs ≡ [] → ServedNumbered ports many lives es ns → (es ≡ []) × (ns ≡ [])
none_numbered plan ports many _ _ _ IsServedLed.start es ns e none = none
none_numbered plan ports many _ _ _ (IsServedLed.asks fs missed ws place k led may) es ns e none = none_numbered plan ports many fs missed ws led es ns e none
none_numbered plan ports many _ _ _ (IsServedLed.on fs missed ws f vs led frame) es ns e none = absurd (some_last fs f e)
