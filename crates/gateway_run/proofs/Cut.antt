-- The frames of a serving where memory runs out behind a frame.
use Rattle.std.proofs.Common.{ℕ, ◌<◌, refl}
use Rattle.run_record.specs.of_segment_plan.declared.plan.Scenario.{Scenario}
use Rattle.run_record.specs.of_run_book.declared.book.Book.{Book}
use Rattle.run_record.specs.of_run_book.declared.book.SentFrame.{SentFrame}
use Rattle.run_record.specs.Session.{SessionState, Steps}
use Rattle.run_record.specs.Ran.{HasSent}
use Rattle.run_record.proofs.Underway.{has_frames, stepped_on}
use Rattle.gateway_run.specs.Serving.{Told, IsServing}
use Rattle.gateway_run.specs.declared.turn.Serving.{Serving}

pub frames_stepped : (plan : Scenario) (count : ℕ) (first now : Told) (v : Serving) (s' : SessionState) (b b' : Book) (f : SentFrame) → IsServing plan count first now v b → v.session.ring.number < v.session.budget → Steps v.session b s' b' f → HasSent plan count b'
frames_stepped plan count first now v s' b b' f h left step = has_frames plan count s' b' b' (stepped_on plan count v.session b s' b' f h.on.underway left step) refl refl
