-- Whether a frame has room for the slaves of its visit.
use Rattle.std.proofs.Common.{◌≡◌, ◌+◌, ℕ, zero, suc, Bool, true, false, List, [], ◌∷◌, refl, sym, ap, ◌∙◌, subst, arith}
use Rattle.life_runs.specs.of_mailbox_master.Any.{in_area_len}
use Rattle.life_runs.specs.of_master_hand.declared.hand.InHand.{InHand}
use Rattle.life_runs.specs.of_master_side.Again.{HasNoRoom, area_of}
use Rattle.life_runs.specs.of_master_side.Sent.{SameLink}
use Rattle.life_runs.specs.of_master_side.declared.hand.Hand.{Ghosts}
use Rattle.life_runs.proofs.of_master_side.Agains.{area_same}
use Rattle.life_runs.specs.of_master_tour.Goes.{is_live, holds_at}
use Rattle.life_runs.specs.of_master_tour.Rooms.{Looks, Visits}
use Rattle.life_runs.specs.of_master_tour.Walks.{StepsAt}
use Rattle.life_runs.specs.of_master_tour.declared.stop.Stop.{Stop}
use Rattle.master_node.specs.Rooms.{SendsSame, area_in}

pub sends_same : {G : Ghosts InHand} (s : Stop InHand G) → SendsSame s s
sends_same s = record { out = refl; inn = refl; duty = refl; passing = refl; turn = refl; paused = refl; carried = refl; stand = refl }

-- what is said of the slave at a place, if it is live
pub steps_room : {G : Ghosts InHand} (octets : List ℕ) (p : ℕ) (xs ys : List (Stop InHand G)) → StepsAt (λ s t. is_live t.stand ≡ true → HasNoRoom octets (area_of t.side)) p xs ys → holds_at (λ s. is_live s.stand) ys p ≡ true → HasNoRoom octets (area_in ys p)
steps_room octets zero [] ys e l = absurd e
steps_room octets (suc p) [] ys e l = absurd e
steps_room octets zero (x ∷ xs) [] e l = absurd e
steps_room octets (suc p) (x ∷ xs) [] e l = absurd e
steps_room octets zero (x ∷ xs) (y ∷ ys) e l = e.0 l
steps_room octets (suc p) (x ∷ xs) (y ∷ ys) e l = steps_room octets p xs ys e.1 l

-- its datagram does not fit
pub looks_full : {G : Ghosts InHand} (octets : List ℕ) (fits : Bool) (s t : Stop InHand G) → fits ≡ false → Looks octets fits s t → SameLink s.side.out s.side.inn s.side.station s.side.area t.side.out t.side.inn t.side.station t.side.area → HasNoRoom octets (area_of t.side)
looks_full octets fits s t n k l = subst (λ z. HasNoRoom octets z) (sym (area_same s.side t.side l.out_is l.in_is)) (k.area n)

-- the frame does not get it
pub visits_full : {G : Ghosts InHand} (before behind : List ℕ) (s t u : Stop InHand G) (old new : ℕ) → new ≡ old → (t.under ≡ true → new ≡ old + 1) → Visits before behind s t → SameLink s.side.out s.side.inn s.side.station s.side.area t.side.out t.side.inn t.side.station t.side.area → t.stand ≡ s.stand → SendsSame t u →
    is_live u.stand ≡ true → HasNoRoom behind (area_of u.side)
visits_full before behind s t u old new e c v l stand w live = go t.under refl
  where
    areas : area_of u.side ≡ area_of s.side
    areas = area_same t.side u.side (ap (λ z. z.len) w.out) (ap in_area_len w.inn) ∙ area_same s.side t.side l.out_is l.in_is

    go : (z : Bool) → t.under ≡ z → HasNoRoom behind (area_of u.side)
    go true y = let more = c y in absurd (omega (arith, more, e))
    go false n = let full = v.area (sym (ap is_live (w.stand ∙ stand)) ∙ live) n in subst (λ z. HasNoRoom z (area_of u.side)) (sym (v.still n)) (subst (λ z. HasNoRoom before z) (sym areas) full)
