-- What a frame that came back brought.
use Rattle.std.proofs.Common.{◌≡◌, ℕ, Option, Some, None, List, [], ap, sym, ◌∙◌, subst, append-nil}
use Rattle.life_runs.specs.of_link_mails.Body.{Body}
use Rattle.life_runs.specs.Led.{Turn}
use Rattle.eoe_switch.specs.of_eoe.declared.joining.Unfinished.{Unfinished}
use Rattle.life_runs.specs.of_master_hand.Brings.{Brings, as_list, emergency_in, emergencies_in, emergency_kept}
use Rattle.life_runs.specs.of_master_hand.Joins.{Completes, packet_in, packet_kept, packets_in}
use Rattle.life_runs.specs.of_master_hand.declared.found.Found.{Found}
use Rattle.life_runs.specs.of_master_hand.declared.hand.InHand.{InHand}
use Rattle.life_runs.specs.of_master_side.Heard.{Brought}
use Rattle.life_runs.specs.of_master_side.declared.hand.Hand.{Ghosts}
use Rattle.life_runs.specs.of_master_side.declared.hand.Heard.{Heard}
use Rattle.life_runs.specs.of_master_tour.Brings.{accepted_in}
use Rattle.life_runs.specs.of_master_tour.declared.stop.Stop.{Stop}
use Rattle.life_runs.specs.of_segment_model.Slaves.{Datagram}
use Rattle.master_node.specs.Brought.{StopBrought}
use Rattle.master_node.specs.Kept.{StopStays}

-- no mail was accepted
pub none_brought : (ms : List Body) → ms ≡ [] → as_list {T = List ℕ} None ≡ emergencies_in ms
none_brought ms e = sym (ap emergencies_in e)

-- one was
pub one_brought : (f : Found) (o : Option (List ℕ)) (what : Heard) (ms : List Body) → o ≡ emergency_kept f → Brought (Brings f) (Some what) ms → as_list o ≡ emergencies_in ms
one_brought f o what ms e (b, is, k) = ap as_list (e ∙ k) ∙ sym (append-nil (as_list (emergency_in b))) ∙ sym (ap emergencies_in is)

-- by how the side has it
pub brought_by : (f : Found) (o : Option (List ℕ)) (heard : Option Heard) (what : Heard) (ms : List Body) → heard ≡ Some what → o ≡ emergency_kept f → Brought (Brings f) heard ms → as_list o ≡ emergencies_in ms
brought_by f o heard what ms is e b = one_brought f o what ms e (subst (λ (h : Option Heard). Brought (Brings f) h ms) is b)

pub brought_not : (f : Found) (heard : Option Heard) (ms : List Body) → heard ≡ None → Brought (Brings f) heard ms → as_list {T = List ℕ} None ≡ emergencies_in ms
brought_not f heard ms is b = none_brought ms (subst (λ (h : Option Heard). Brought (Brings f) h ms) is b)

-- it stays while the master tells of it
pub brought_kept : {G : Ghosts InHand} (back : List (Datagram Body)) (u : Turn) (s t : Stop InHand G) → StopBrought back u s → StopStays s t → StopBrought back u t
brought_kept back u s t b k =
    subst (λ (h : Option Heard). Brought (Brings t.side.hand.found) h (accepted_in u.lived.spot u.lived.life back)) (sym k.side.heard)
    (subst (λ (f : Found). Brought (Brings f) s.side.heard (accepted_in u.lived.spot u.lived.life back)) (sym k.side.found) b)

-- THE PACKET that it completed
pub completed_by : (f : Found) (o : Option (List ℕ)) (heard : Option Heard) (what : Heard) (before : Option Unfinished) (ms : List Body) → heard ≡ Some what → o ≡ packet_kept f → Brought (Completes f before) heard ms → as_list o ≡ packets_in before ms
completed_by f o heard what before ms is e b = one (subst (λ (h : Option Heard). Brought (Completes f before) h ms) is b)
  where
    one : Brought (Completes f before) (Some what) ms → as_list o ≡ packets_in before ms
    one (body, it, k) = ap as_list (e ∙ k) ∙ sym (append-nil (as_list (packet_in before body))) ∙ sym (ap (packets_in before) it)

pub completed_not : (f : Found) (heard : Option Heard) (before : Option Unfinished) (ms : List Body) → heard ≡ None → Brought (Completes f before) heard ms → as_list {T = List ℕ} None ≡ packets_in before ms
completed_not f heard before ms is b = sym (ap (packets_in before) (subst (λ (h : Option Heard). Brought (Completes f before) h ms) is b))
