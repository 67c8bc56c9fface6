-- What events leave, one after the other.
use Rattle.std.proofs.Common.{ℕ, ◌+◌, length, ap, ◌∙◌, subst}
use Rattle.run_book.specs.declared.book.Book.{Book}
use Rattle.run_notes.specs.declared.standing.Log.{Log}
use Rattle.run_notes.specs.Slaves.{KeepsRest, SameFrames, SameSlaves}

pub slaves_more : {a b c : Log} → SameSlaves a b → SameSlaves b c → SameSlaves a c
slaves_more h k = record {
  notes = k.notes ∙ h.notes;
  homes = k.homes ∙ h.homes;
  asked = k.asked ∙ h.asked;
  ports = k.ports ∙ h.ports;
  recover = k.recover ∙ h.recover;
}

pub rest_more : (ports : ℕ) {a b c : Book} → KeepsRest ports a b → KeepsRest ports b c → KeepsRest ports a c
rest_more ports h k = record {
  slaves = k.slaves ∙ h.slaves;
  grams = k.grams ∙ h.grams;
  replies = k.replies ∙ h.replies;
  serving = k.serving ∙ h.serving;
  at_port = λ all. k.at_port (h.at_port all);
}

pub frames_more : (ports : ℕ) {a b c : Book} → SameFrames ports a b → SameFrames ports b c → SameFrames ports a c
frames_more ports h k = record { frames = k.frames ∙ h.frames; rest = rest_more ports h.rest k.rest }

-- the ports are those of the log, whichever of its moments
pub at_log : {a b : Log} {x y : Book} → SameSlaves a b → SameFrames (1 + length b.ports) x y → SameFrames (1 + length a.ports) x y
at_log {a} {b} {x} {y} same frames = subst (λ (n : ℕ). SameFrames (1 + n) x y) (ap length same.ports) frames
