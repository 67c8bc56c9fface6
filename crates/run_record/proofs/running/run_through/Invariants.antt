use Rattle.std.proofs.Common.{◌≡◌, ◌-◌, true, false, []}
use Rattle.std.specs.Bool.{OnTrue, OnFalse}
use Rattle.run_record.specs.Session.{session_rows, are_at_rest, IsDone}
use Rattle.run_record.specs.Ran.{IsUnderway}
use Rattle.run_record.specs.Served.{ServingLives, ServingRests}
use Rattle.run_record.proofs.RunStanding.{Stands}
use Rattle.run_record.proofs.running.run_through.Given as goal

abbrev pub invariant-loop-settled : goal.invariant-loop-settled
invariant-loop-settled l = record {
  underway : IsUnderway l.plan 0 l.session l.book;
  serving : l.book.serving ≡ false;
  grams : l.book.grams ≡ [];
  replies : l.book.replies ≡ [];
  settled : OnTrue l.settled (are_at_rest (session_rows l.session) ≡ true);
  rests : OnTrue l.settled (ServingRests l.session);
  lives : OnFalse l.settled (ServingLives l.session);
  done : OnFalse l.settled (IsDone l.session → ⊥);
  stands : Stands l.plan l.session l.book;
}

abbrev pub decreases-loop-settled : goal.decreases-loop-settled
decreases-loop-settled l = l.session.budget - l.session.ring.number
