-- Which packets come in behind a frame that came back.
use Rattle.std.proofs.Common.{◌≡◌, ℕ, zero, suc, ◌+◌, ◌<◌, ◌≤◌, List, [], ◌∷◌, ◌++◌, Bool, true, false, Option, Some, None, refl, sym, ap, ◌∙◌, arith, length, take, get_or, append_assoc, append-nil, add-one, length-append}
use Rattle.std.specs.Prelude.{nat_lt, slice_get}
use Rattle.std.proofs.Math.Seq.{take-suc}
use Rattle.eoe_switch.specs.of_eoe.declared.joining.Unfinished.{Unfinished}
use Rattle.life_runs.specs.Led.{Turn}
use Rattle.life_runs.specs.of_frame_view.Shares.{AllThree}
use Rattle.life_runs.specs.of_segment_model.Slaves.{Datagram}
use Rattle.life_runs.specs.of_master_hand.Brings.{as_list}
use Rattle.life_runs.specs.of_master_hand.Joins.{Completes, packet_kept, packets_in}
use Rattle.life_runs.specs.of_master_hand.declared.found.Found.{Found}
use Rattle.life_runs.specs.of_master_hand.declared.hand.InHand.{InHand}
use Rattle.life_runs.specs.of_master_side.Heard.{Brought}
use Rattle.life_runs.specs.of_link_mails.Body.{Body}
use Rattle.life_runs.specs.of_master_side.declared.hand.Hand.{Ghosts}
use Rattle.life_runs.specs.of_master_side.declared.hand.Heard.{Heard}
use Rattle.life_runs.specs.of_master_tour.Walks.{EachPair}
use Rattle.life_runs.specs.of_master_tour.declared.stop.Stop.{Stop}
use Rattle.master_node.specs.Arrivals.{arrive_where, arrive_at, arrive_by, arrivals_in, packets_of, packets_kept, kept_at, heard_at, completed_at}
use Rattle.master_node.specs.Forwards.{port_by}
use Rattle.master_node.specs.Joined.{StopCompleted, mails_back}
use Rattle.master_node.specs.Kept.{StopStays}
use Rattle.master_node.proofs.Broughts.{completed_by, completed_not}

-- one packet alone
pub arrive_one : (port : ℕ) (octets : List ℕ) (short : Bool) → nat_lt (length octets) 14 ≡ short → arrive_at port (octets ∷ []) ≡ arrive_where short port octets
arrive_one port octets short e = append-nil (arrive_where (nat_lt (length octets) 14) port octets) ∙ ap (λ b. arrive_where b port octets) e

-- one that is too short
pub arrive_short : (port : Option ℕ) (octets : List ℕ) → nat_lt (length octets) 14 ≡ true → arrive_by port (octets ∷ []) ≡ []
arrive_short None octets e = refl
arrive_short (Some port) octets e = arrive_one port octets true e

-- none
pub arrive_none : (port : Option ℕ) → arrive_by port [] ≡ []
arrive_none None = refl
arrive_none (Some port) = refl

-- ---- as many as slaves at most

where_few : (short : Bool) (port : ℕ) (octets : List ℕ) → length (arrive_where short port octets) ≤ 1
where_few true port octets = omega arith
where_few false port octets = omega arith

at_few : (port : ℕ) (ps : List (List ℕ)) → length (arrive_at port ps) ≤ length ps
at_few port [] = omega arith
at_few port (p ∷ ps) = omega (arith, where_few (nat_lt (length p) 14) port p, at_few port ps, length-append (arrive_where (nat_lt (length p) 14) port p) (arrive_at port ps))

by_few : (port : Option ℕ) (ps : List (List ℕ)) → length (arrive_by port ps) ≤ length ps
by_few None ps = omega arith
by_few (Some port) ps = at_few port ps

pub arrivals_few : (ports : List (Option ℕ)) (packets : ℕ → List (List ℕ)) → ((p : ℕ) → length (packets p) ≤ 1) → (ps : List ℕ) → length (arrivals_in ports packets ps) ≤ length ps
arrivals_few ports packets one [] = omega arith
arrivals_few ports packets one (p ∷ ps) =
    let here = arrive_by (port_by (slice_get ports p)) (packets p) in
    omega (arith, by_few (port_by (slice_get ports p)) (packets p), one p, arrivals_few ports packets one ps, length-append here (arrivals_in ports packets ps))

some_one : {T : Type 0} (o : Option T) → length (as_list o) ≤ 1
some_one None = omega arith
some_one (Some t) = omega arith

heard_one : (heard : Option Heard) (o : Option (List ℕ)) → length (packets_of heard (as_list o)) ≤ 1
heard_one None o = omega arith
heard_one (Some what) o = some_one o

pub heard_few : {G : Ghosts InHand} (ss : List (Stop InHand G)) (p : ℕ) → length (heard_at ss p) ≤ 1
heard_few [] p = omega arith
heard_few (s ∷ ss) zero = heard_one s.side.heard (packet_kept s.side.hand.found)
heard_few (s ∷ ss) (suc p) = heard_few ss p

-- ---- one slave after the other

arrivals_push : (ports : List (Option ℕ)) (packets : ℕ → List (List ℕ)) (ps : List ℕ) (p : ℕ) → arrivals_in ports packets (ps ++ p ∷ []) ≡ arrivals_in ports packets ps ++ arrive_by (port_by (slice_get ports p)) (packets p)
arrivals_push ports packets [] p = append-nil (arrive_by (port_by (slice_get ports p)) (packets p))
arrivals_push ports packets (q ∷ ps) p =
    let here = arrive_by (port_by (slice_get ports q)) (packets q) in
    ap (λ z. here ++ z) (arrivals_push ports packets ps p) ∙ sym (append_assoc here (arrivals_in ports packets ps) (arrive_by (port_by (slice_get ports p)) (packets p)))

pub arrivals_next : (ports : List (Option ℕ)) (packets : ℕ → List (List ℕ)) (ps : List ℕ) (k d : ℕ) → k < length ps →
    arrivals_in ports packets (take (k + 1) ps) ≡ arrivals_in ports packets (take k ps) ++ arrive_by (port_by (slice_get ports (get_or ps k d))) (packets (get_or ps k d))
arrivals_next ports packets ps k d l = ap (λ z. arrivals_in ports packets z) (ap (λ n. take n ps) (add-one k) ∙ take-suc ps k d l) ∙ arrivals_push ports packets (take k ps) (get_or ps k d)

pub arrivals_same : (ports : List (Option ℕ)) (f g : ℕ → List (List ℕ)) → ((p : ℕ) → f p ≡ g p) → (ps : List ℕ) → arrivals_in ports f ps ≡ arrivals_in ports g ps
arrivals_same ports f g h [] = refl
arrivals_same ports f g h (p ∷ ps) = λ i. arrive_by (port_by (slice_get ports p)) (h p i) ++ arrivals_same ports f g h ps i

-- ---- what stands at a place

pub kept_here : {G : Ghosts InHand} (ss : List (Stop InHand G)) (p : ℕ) (s : Stop InHand G) → p < length ss → s ≡ get_or ss p s → kept_at ss p ≡ packets_kept s
kept_here [] p s l e = absurd (omega (arith, l))
kept_here (x ∷ xs) zero s l e = ap (λ (z : Stop InHand _). packets_kept z) (sym e)
kept_here (x ∷ xs) (suc p) s l e = kept_here xs p s (omega (arith, l)) e

pub heard_here : {G : Ghosts InHand} (ss : List (Stop InHand G)) (p : ℕ) (s : Stop InHand G) → p < length ss → s ≡ get_or ss p s → heard_at ss p ≡ packets_of s.side.heard (kept_at ss p)
heard_here [] p s l e = absurd (omega (arith, l))
heard_here (x ∷ xs) zero s l e = ap (λ (h : Option Heard). packets_of h (packets_kept x)) (ap (λ (z : Stop InHand _). z.side.heard) (sym e))
heard_here (x ∷ xs) (suc p) s l e = heard_here xs p s (omega (arith, l)) e

pub heard_beyond : {G : Ghosts InHand} (ss : List (Stop InHand G)) (p : ℕ) → length ss ≤ p → heard_at ss p ≡ []
heard_beyond [] p l = refl
heard_beyond (s ∷ ss) zero l = absurd (omega (arith, l))
heard_beyond (s ∷ ss) (suc p) l = heard_beyond ss p (omega (arith, l))

-- it stays while the master tells of it
pub heard_kept : {G : Ghosts InHand} (ss ts : List (Stop InHand G)) → EachPair (λ s t. StopStays s t) ss ts → (p : ℕ) → heard_at ts p ≡ heard_at ss p
heard_kept [] [] k p = refl
heard_kept [] (t ∷ ts) k p = absurd k
heard_kept (s ∷ ss) [] k p = absurd k
heard_kept (s ∷ ss) (t ∷ ts) k zero = λ i. packets_of (k.0.side.heard i) (as_list (packet_kept (k.0.side.found i)))
heard_kept (s ∷ ss) (t ∷ ts) k (suc p) = heard_kept ss ts k.1 p

-- by the mails that its life accepted
heard_is : (found : Found) (heard : Option Heard) (before : Option Unfinished) (ms : List Body) → Brought (Completes found before) heard ms → packets_of heard (as_list (packet_kept found)) ≡ packets_in before ms
heard_is found None before ms b = completed_not found None before ms refl b
heard_is found (Some what) before ms b = completed_by found (packet_kept found) (Some what) what before ms refl refl b

pub heard_completed : {G : Ghosts InHand} (back : List (Datagram Body)) (us : List Turn) (js : List (Option Unfinished)) (ss : List (Stop InHand G)) → AllThree (λ u j s. StopCompleted back u j s) us js ss → (p : ℕ) → heard_at ss p ≡ completed_at back us js p
heard_completed back [] [] [] t p = refl
heard_completed back [] [] (s ∷ ss) t p = absurd t
heard_completed back [] (j ∷ js) [] t p = absurd t
heard_completed back [] (j ∷ js) (s ∷ ss) t p = absurd t
heard_completed back (u ∷ us) [] [] t p = absurd t
heard_completed back (u ∷ us) [] (s ∷ ss) t p = absurd t
heard_completed back (u ∷ us) (j ∷ js) [] t p = absurd t
heard_completed back (u ∷ us) (j ∷ js) (s ∷ ss) t zero = heard_is s.side.hand.found s.side.heard j (mails_back back u) t.0
heard_completed back (u ∷ us) (j ∷ js) (s ∷ ss) t (suc p) = heard_completed back us js ss t.1 p
