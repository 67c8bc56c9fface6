-- Worked rounds of three slaves.
use Rattle.std.proofs.Common.{◌≡◌, ◌==◌, Bool, true, false, Some, None, List, [], ◌∷◌, refl, arith}
use Rattle.std.specs.Prelude.{not}
use Rattle.master_node.specs.of_master_tour.Sizes.{frame_size}
use Rattle.master_node.specs.of_master_tour.Toured.{LeavesOut, visit_of, new_tour, goes_on, lost_on}
use Rattle.slave_server.specs.of_segment_model.Visits.{Stop, IsVisit}
use Rattle.master_node.specs.of_life_model.Tours.{Member, round}
use Rattle.master_node.specs.of_master_tour.Orders.{visits_left}
use Rattle.packets_heard.specs.Visits.{GoesThrough, stations_at, last_station}

abbrev ring : List Stop
ring = record { station = 101; state = 2; area = 128 } ∷ record { station = 102; state = 2; area = 1486 } ∷ record { station = 103; state = 3; area = 64 } ∷ []

-- the second was given up for good
abbrev members : List Member
members = record { stop = record { station = 101; state = 2; area = 128 }; spare = 1; live = true } ∷ record { stop = record { station = 102; state = 2; area = 1486 }; spare = 0; live = false } ∷ record { stop = record { station = 103; state = 3; area = 64 }; spare = 0; live = true } ∷ []

-- behind the first bring-up the round begins with the first, behind the slave at place 1 with the one at place 2, and behind the last with the first
begins : visits_left false [] 3 3 None 0 ≡ 0 ∷ 1 ∷ 2 ∷ []
begins = refl

round_behind : visits_left false [] 3 3 (Some 1) 0 ≡ 2 ∷ 0 ∷ 1 ∷ []
round_behind = refl

turns_round : visits_left false [] 3 3 (Some 2) 1 ≡ 1 ∷ 2 ∷ []
turns_round = refl

-- in the first bring-up the one that is brought up alone; behind a lost frame the slaves of that one
brings_up : visits_left false [] 1 3 None 0 ≡ 1 ∷ []
brings_up = refl

comes_again : visits_left true (2 ∷ 0 ∷ []) 3 3 (Some 1) 1 ≡ 0 ∷ []
comes_again = refl

-- a frame that carries the third and the first, and passes the one that was given up
carries : GoesThrough 200 ring members (visits_left false [] 3 3 (Some 1) 0) (2 ∷ 0 ∷ [])
carries = (refl, (refl, tt))

stations : stations_at ring (2 ∷ 0 ∷ []) ≡ 103 ∷ 101 ∷ []
stations = refl

same_round : round ring (last_station ring (Some 1)) members ≡ record { station = 103; state = 3; area = 64 } ∷ record { station = 101; state = 2; area = 128 } ∷ []
same_round = refl

-- the visit of a frame: the live ones of a round, the one that is brought up, the slaves of a lost frame
visits : visit_of (λ k. not (k == 1)) 3 None 3 (Some 1) ≡ 2 ∷ 0 ∷ []
visits = refl

first_visit : visit_of (λ k. true) 3 None 1 None ≡ 1 ∷ []
first_visit = refl

same_visit : visit_of (λ k. true) 3 (Some (2 ∷ 0 ∷ [])) 3 (Some 1) ≡ 2 ∷ 0 ∷ []
same_visit = refl

-- where the tour stands behind a frame: once the first slave is open the second is brought up; a round goes on behind the one carried last
brings_next : goes_on (λ (opens : Bool). opens) (false ∷ true ∷ []) new_tour (0 ∷ []) ≡ record { again = None; opened = 1; last = None; missed = 0 }
brings_next = refl

rounds : goes_on (λ (opens : Bool). opens) (false ∷ false ∷ false ∷ []) (record { again = None; opened = 3; last = Some 1; missed = 1 }) (2 ∷ 0 ∷ []) ≡ record { again = None; opened = 3; last = Some 0; missed = 0 }
rounds = refl

-- behind one lost frame the same come again, where two may be lost in a row
loses : lost_on (λ (opens : Bool). opens) 2 (false ∷ false ∷ false ∷ []) (record { again = None; opened = 3; last = Some 1; missed = 0 }) (2 ∷ 0 ∷ []) ≡ record { again = Some (2 ∷ 0 ∷ []); opened = 3; last = Some 1; missed = 1 }
loses = refl

-- the length in the header of a frame with 28 octets of datagrams
header_size : frame_size (255 ∷ 255 ∷ 255 ∷ 255 ∷ 255 ∷ 255 ∷ 2 ∷ 0 ∷ 0 ∷ 0 ∷ 0 ∷ 1 ∷ 136 ∷ 164 ∷ 28 ∷ 16 ∷ []) ≡ 28
header_size = refl

-- a frame of a round with 1,400 octets may leave out a slave with mailboxes of 128 octets, and behind a lost frame none
leaves_out : LeavesOut 1400 (λ p. 128) None (0 ∷ [])
leaves_out = omega arith

leaves_none : LeavesOut 1400 (λ p. 128) (Some (2 ∷ 0 ∷ [])) []
leaves_none = tt

-- behind a lost frame that carried the third and the first these two again
whole_again : IsVisit 1400 (Some (103 ∷ 101 ∷ [])) [] [] (103 ∷ 101 ∷ [])
whole_again = refl
