-- One step of a session.
use Rattle.std.proofs.Common.{◌≡◌, ℕ, suc, ◌+◌, ◌<◌, ◌≤◌, inl, inr, List, [], ◌∷◌, ◌++◌, length, ap, sym, ◌∙◌, subst, arith}
use Rattle.served_places.specs.of_segment_ring.Ring.{RingState}
use Rattle.packets_heard.specs.of_slave_node.Node.{Node}
use Rattle.packets_heard.specs.of_slave_server.declared.server.SlaveServer.{SlaveServer}
use Rattle.run_notes.specs.of_run_book.Book.{IsShort}
use Rattle.run_notes.specs.of_run_book.declared.book.Book.{Book}
use Rattle.run_notes.specs.of_run_book.declared.book.SentFrame.{SentFrame}
use Rattle.run_notes.specs.declared.notes.Notes.{Notes}
use Rattle.run_record.specs.Replay.{behind, IsRecorded}
use Rattle.run_record.specs.Session.{SessionState, LedOn, Stops}
use Rattle.run_notes.specs.Slaves.{KeepsRest, SameFrames}
use Rattle.run_notes.proofs.Kept.{rest_more}
use Rattle.run_record.proofs.Replays.{length_behind}

-- what a session keeps true: so many homes, lists of mails and posts as slaves
abbrev pub Holds : ℕ → ℕ → List Notes → RingState (Node SlaveServer) → ℕ → ℕ → ℕ → Type 0
Holds number budget notes ring homes asked posts =
    (number ≡ ring.number) × (number ≤ budget) × (budget ≤ 100000000) × (length notes ≡ length ring.nodes) × (length ring.nodes ≤ 16) × (homes ≡ length ring.nodes) × (asked ≡ length ring.nodes) × (posts ≡ length ring.nodes)

pub holds_on : (number budget : ℕ) (notes notes' : List Notes) (ring ring' : RingState (Node SlaveServer)) (sent : List ℕ) (homes asked posts homes' asked' posts' : ℕ) → Holds number budget notes ring homes asked posts →
    ring.number < budget → length notes' ≡ length notes → ring' ≡ behind ring sent → homes' ≡ homes → asked' ≡ asked → posts' ≡ posts → Holds (number + 1) budget notes' ring' homes' asked' posts'
holds_on number budget notes notes' ring ring' sent homes asked posts homes' asked' posts' h left same is same_homes same_asked same_posts =
    let n : ring'.number ≡ suc ring.number = ap (λ (r : RingState (Node SlaveServer)). r.number) is in
    let many : length ring'.nodes ≡ length ring.nodes = ap (λ (r : RingState (Node SlaveServer)). length r.nodes) is ∙ length_behind ring sent in
    let first = h.0 in
    let few = h.4 in
    (omega (arith, n, first), omega (arith, first, left), h.2, same ∙ h.3 ∙ sym many, omega (arith, many, few), same_homes ∙ h.5 ∙ sym many, same_asked ∙ h.6 ∙ sym many, same_posts ∙ h.7 ∙ sym many)

-- memory ran out before the frame stood in the book
pub no_frame : (s : SessionState) (ports : ℕ) (b b1 b2 : Book) → ports ≡ s.ports → SameFrames ports b b1 → b2.frames ≡ b1.frames → KeepsRest ports b1 b2 → Stops s b b2
no_frame s ports b b1 b2 e h same k = record {
  frames = inl (same ∙ h.frames);
  rest = subst (λ (n : ℕ). KeepsRest n b b2) e (rest_more ports h.rest k);
}

-- memory ran out behind that
pub one_frame : (s : SessionState) (ports : ℕ) (b b1 b2 b3 : Book) (f : SentFrame) → ports ≡ s.ports → SameFrames ports b b1 → b2.frames ≡ b1.frames ++ f ∷ [] → KeepsRest ports b1 b2 → SameFrames ports b2 b3 →
    IsRecorded s.ring f → IsShort f → LedOn s f → Stops s b b3
one_frame s ports b b1 b2 b3 f e h put k l recorded short led = record {
  frames = inr (f, l.frames ∙ put ∙ ap (λ fs. fs ++ f ∷ []) h.frames, recorded, short, led);
  rest = subst (λ (n : ℕ). KeepsRest n b b3) e (rest_more ports h.rest (rest_more ports k l.rest));
}
