-- A slave's own datagram of a frame that came back: what it meant, and what came back of it.
use Rattle.std.proofs.Common.{◌≡◌, ◌+◌, ℕ, Bool, true, List, Option, refl, sym, ap, ◌∙◌, subst, get_or}
use Rattle.std.specs.Prelude.{map, take, drop}
use Rattle.master_side.specs.of_datagrams.declared.frame.Part.{Part}
use Rattle.master_side.specs.of_frame_view.Seen.{part_seen}
use Rattle.master_side.specs.of_frame_view.View.{Lens, station_of}
use Rattle.master_side.specs.of_link_mails.Body.{Body}
use Rattle.master_side.specs.of_link_model.Link.{Halves}
use Rattle.master_side.specs.of_segment_model.Slaves.{Access, Datagram}
use Rattle.master_side.specs.Carried.{IsBack, Meant, one}
use Rattle.master_side.specs.declared.carried.Carried.{Carried}
use Rattle.master_tour.specs.Under.{Grams, IsAt, Under, mine}
use Rattle.master_tour.proofs.Unders.{at_map, status_whole}

only_one : (b k : Datagram Body) → one b ≡ one k → b ≡ k
only_one b k e = cc

pub has_met : (station at : ℕ) (under : Bool) (carried : Carried) (due : Option Access) (lens : ℕ → Lens) (octets body : List ℕ) (ps : List Part) (p z : Part) (back : Grams) (h : Halves Body) (b : Datagram Body) →
    under ≡ true → p ≡ get_or ps at z → body ≡ take p.head.len (drop (p.at + 10) octets) → back ≡ map (part_seen lens octets) ps → Under station at under carried h due back → mine station back ≡ one b →
    Meant station carried h due b × IsBack p.head.counter body b
has_met station at under carried due lens octets body ps p z back h b is g o e (Under.none k n) f = absurd (let t = sym k ∙ is in cc)
has_met station at under carried due lens octets body ps p z back h b is g o e (Under.has c u i n m) f =
    let same : c ≡ part_seen lens octets p = at_map (part_seen lens octets) at ps z c (subst (λ z. IsAt at z c) e i) ∙ ap (part_seen lens octets) (sym g) in
    let came : IsBack p.head.counter (take p.head.len (drop (p.at + 10) octets)) (part_seen lens octets p) = record { counted = refl; mail = refl; acknowledge = refl; registers = refl; found = refl; whole = status_whole (lens (station_of p.head.command p.head.adp)) p.head.command p.head.ado (take p.head.len (drop (p.at + 10) octets)) } in
    let one_is : c ≡ b = only_one c b (sym n ∙ f) in (
      subst (λ (z : Datagram Body). Meant station carried h due z) one_is m,
      subst (λ z. IsBack p.head.counter z b) (sym o) (subst (λ (z : Datagram Body). IsBack p.head.counter (take p.head.len (drop (p.at + 10) octets)) z) (sym same ∙ one_is) came),
    )
