-- The switch of a run before its first frame.
use Rattle.std.proofs.Common.{◌≡◌, ℕ, [], sym, ap, subst, arith}
use Rattle.packets_heard.specs.of_master_node.Happened.{HasHappened}
use Rattle.run_notes.specs.of_run_book.Book.{IsNew}
use Rattle.run_notes.specs.of_run_book.Ports.{ports_of}
use Rattle.run_notes.specs.of_run_book.declared.book.Book.{Book}
use Rattle.packets_heard.specs.of_segment_plan.declared.plan.Scenario.{Scenario}
use Rattle.run_record.specs.Session.{SessionState, first_session}
use Rattle.run_notes.specs.Switched.{IsSwitched}

-- before the first frame
pub switched_new : (plan : Scenario) (grams : ℕ) (s : SessionState) (b : Book) → s ≡ first_session plan grams s.master → IsNew b → HasHappened (ports_of plan.slaves) plan.host [] s.master.lan → IsSwitched s.ports plan.host s.ring.number s.master.lan b
switched_new plan grams s b first new h = record {
  stamps = [];
  noted = record { switch = new.switch; switched = new.switched; host = new.host };
  numbers = omega arith;
  happened = subst (λ (n : ℕ). HasHappened n plan.host [] s.master.lan) (sym (ap (λ (t : SessionState). t.ports) first)) h;
}
