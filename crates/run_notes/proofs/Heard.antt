-- What is noted of emergencies, slave by slave.
use Rattle.std.proofs.Common.{◌≡◌, ◌<◌, ◌+◌, ℕ, zero, suc, Option, Some, None, List, [], ◌∷◌, ◌++◌, length, vec_len, refl, ap, sym, ◌∙◌, subst, arith}
use Rattle.std.specs.Prelude.{IfSome, slice_get, slice_set, slice_index_or}
use Rattle.run_book.proofs.Heards as Heards
use Rattle.run_book.specs.Heard.{AllNoted, brought_of, emergencies_of, heard_none, heard_to}
use Rattle.run_frames.specs.of_life_runs.First.{leads_from}
use Rattle.run_frames.specs.of_life_runs.Led.{Turn}
use Rattle.run_book.specs.of_link_mails.Body.{Body}
use Rattle.run_frames.specs.of_master_hand.Brings.{as_list, emergencies_in}
use Rattle.run_book.proofs.of_master_node.Lists.{both_length}
use Rattle.run_book.specs.of_master_node.Brought.{StopBrought, HasBrought}
use Rattle.run_book.specs.of_master_node.declared.node.MasterNode.{MasterNode}
use Rattle.run_frames.specs.of_master_tour.Brings.{accepted_in}
use Rattle.run_book.specs.declared.book.Emergency.{Emergency}
use Rattle.run_notes.specs.Heard as Spec
use Rattle.run_notes.specs.Heard.{emergencies_noted, HeardNext, HeardBy}
use Rattle.run_notes.specs.Notes.{alarmed}
use Rattle.run_notes.specs.Slaves.{first_notes, slave_rows}
use Rattle.run_notes.specs.declared.notes.Notes.{Notes}
use Rattle.run_notes.specs.declared.standing.Log.{Log}
use Rattle.run_frames.specs.of_segment_model.Slaves.{Datagram}
use Rattle.run_book.specs.of_segment_plan.declared.service.Service as Plan
use Rattle.run_book.specs.of_segment_plan.declared.slave.SlaveSpec.{SlaveSpec}
use Rattle.run_frames.specs.of_segment_ring.declared.wire.Fate.{Fate}
use Rattle.run_frames.specs.of_segment_ring.declared.wire.Fate.TheVariants.{Pass, Lost}
use Rattle.run_book.specs.of_slave_server.declared.server.SlaveServer.{SlaveServer}
use Rattle.run_book.specs.of_slave_node.Node.{Node}

-- BEFORE THE FIRST FRAME
pub first_heard : (services : List (ℕ × Plan.Service)) (number place : ℕ) (ss : List SlaveSpec) → AllNoted (heard_none (leads_from services place ss)) (emergencies_noted (first_notes services number ss))
first_heard services number place [] = refl
first_heard services number place (s ∷ ss) = ap (λ (ess : List (List Emergency)). [] ∷ ess) (first_heard services (number + 1) (suc place) ss)

-- ONE SLAVE is noted anew
pub heard_at : (notes : List Notes) (place : ℕ) (n : Notes) → emergencies_noted (slice_set notes place n) ≡ slice_set (emergencies_noted notes) place n.emergencies
heard_at [] zero n = refl
heard_at [] (suc place) n = refl
heard_at (m ∷ notes) zero n = refl
heard_at (m ∷ notes) (suc place) n = ap (λ ess. m.emergencies ∷ ess) (heard_at notes place n)

pub same_heard : (notes : List Notes) (place : ℕ) (d n : Notes) → n.emergencies ≡ (slice_index_or notes place d).emergencies → emergencies_noted (slice_set notes place n) ≡ emergencies_noted notes
same_heard [] zero d n e = refl
same_heard [] (suc place) d n e = refl
same_heard (m ∷ notes) zero d n e = ap (λ (es : List Emergency). es ∷ emergencies_noted notes) e
same_heard (m ∷ notes) (suc place) d n e = ap (λ ess. m.emergencies ∷ ess) (same_heard notes place d n e)

heard_there : (notes : List Notes) (place : ℕ) (d : Notes) → place < length notes → d ≡ slice_index_or notes place d → slice_get (emergencies_noted notes) place ≡ Some d.emergencies
heard_there [] place d l e = absurd (omega (arith, l))
heard_there (m ∷ notes) zero d l e = ap (λ (n : Notes). Some n.emergencies) (sym e)
heard_there (m ∷ notes) (suc place) d l e = heard_there notes place d (omega (arith, l)) e

if_so : {T : Type 0} (P Q : T → Type 0) (o : Option T) → ((t : T) → P t → Q t) → IfSome o P → IfSome o Q
if_so P Q None f h = tt
if_so P Q (Some t) f h = f t h

-- what the master tells of the slave at a place
abbrev pub TellsOf : MasterNode → ℕ → Option (List ℕ) → Type 0
TellsOf m k found = (us : List Turn) (back : List (Datagram Body)) → HasBrought m us back → IfSome (slice_get us k) (λ u. as_list found ≡ emergencies_in (accepted_in u.lived.spot u.lived.life back))

module _ (m : MasterNode) (frame k : ℕ) (notes : List Notes) (inside : k < length notes) (posts : vec_len m.posts ≡ length notes) where
  among : (us : List Turn) (back : List (Datagram Body)) → HasBrought m us back → k < length us
  among us back x = let b = both_length (λ u s. StopBrought back u s) us m.tour.stops.items x in omega (arith, b, inside, posts, m.paired, m.tour.stops.ok.0)

  -- the frame brought one
  pub one_noted : (d n : Notes) (octets : List ℕ) → d ≡ slice_index_or notes k d → n ≡ alarmed d octets frame → TellsOf m k (Some octets) → HeardNext frame k m notes (slice_set notes k n)
  one_noted d n octets e is tells = λ us back hss x noted.
      let more : IfSome (slice_get us k) (λ u. n.emergencies ≡ d.emergencies ++ emergencies_of (brought_of frame back u)) =
      if_so (λ u. as_list (Some octets) ≡ emergencies_in (accepted_in u.lived.spot u.lived.life back)) (λ u. n.emergencies ≡ d.emergencies ++ emergencies_of (brought_of frame back u)) (slice_get us k)
      (λ u h. ap (λ (z : Notes). z.emergencies) is ∙ ap (λ es. d.emergencies ++ es) (sym (Heards.brings frame back u (Some octets) h))) (tells us back x) in
      subst (λ (ess : List (List Emergency)). AllNoted (heard_to (brought_of frame back) (suc k) hss us) ess) (sym (heard_at notes k n))
      (Heards.next (brought_of frame back) k hss us (emergencies_noted notes) d.emergencies n.emergencies (among us back x) (heard_there notes k d inside e) more noted)

  -- it brought none
  pub none_noted : TellsOf m k None → HeardNext frame k m notes notes
  none_noted tells = λ us back hss x noted.
      Heards.none (brought_of frame back) k hss us (emergencies_noted notes) (among us back x)
      (if_so (λ u. as_list {T = List ℕ} None ≡ emergencies_in (accepted_in u.lived.spot u.lived.life back)) (λ u. emergencies_of (brought_of frame back u) ≡ []) (slice_get us k) (λ u h. Heards.brings frame back u None h) (tells us back x)) noted

-- events, and then the fate of the frame
pub heard_after : (fate : Fate) (frame : ℕ) (m : MasterNode) (a b c : Log) → emergencies_noted b.notes ≡ emergencies_noted a.notes → HeardBy fate frame m b c → HeardBy fate frame m a c
heard_after Pass frame m a b c e by = λ us back hss x noted. by us back hss x (e ∙ noted)
heard_after (Lost after) frame m a b c e by = by ∙ e

-- AT THE END
pub heard_of_rows : (recover : ℕ) (nodes : List (Node SlaveServer)) (notes : List Notes) → length notes ≡ length nodes → Spec.emergencies_in (slave_rows recover nodes notes) ≡ emergencies_noted notes
heard_of_rows recover [] [] same = refl
heard_of_rows recover (node ∷ nodes) [] same = refl
heard_of_rows recover [] (n ∷ notes) same = absurd (omega (arith, same))
heard_of_rows recover (node ∷ nodes) (n ∷ notes) same = ap (λ (ess : List (List Emergency)). n.emergencies ∷ ess) (heard_of_rows recover nodes notes (omega (arith, same)))
