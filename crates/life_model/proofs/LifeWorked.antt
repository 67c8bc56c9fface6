-- Worked measures: a ring of three slaves, of which the slowest makes a step behind each second frame.
use Rattle.std.proofs.Common.{◌≡◌, true, false, Some, None, List, [], ◌∷◌, refl}
use Rattle.state_model.specs.of_link_model.Master.{InState}
use Rattle.state_model.specs.of_segment_model.Visits.{Stop}
use Rattle.life_model.specs.Lives.{Opening, new_life}
use Rattle.life_model.specs.Tally.{broken, quiet}
use Rattle.life_model.specs.Repairs.{opening_way, half_way, whole_way, way_of}
use Rattle.life_model.specs.Rounds.{ahead}
use Rattle.life_model.specs.Deadlines.{Standing, deadline, repair, patience}
use Rattle.life_model.specs.Gains.{gains}

abbrev ring : List Stop
ring = record { station = 101; state = 2; area = 128 } ∷ record { station = 102; state = 2; area = 1486 } ∷ record { station = 103; state = 3; area = 64 } ∷ []

-- before the first frame of a round, behind the second slave, and behind the last
first : ahead ring None 103 ≡ 2
first = refl

behind_second : ahead ring (Some 102) 101 ≡ 1
behind_second = refl

itself : ahead ring (Some 102) 102 ≡ 2
itself = refl

behind_last : ahead ring (Some 103) 101 ≡ 0
behind_last = refl

-- a reopening that begins: nine rounds and two waits, which a lost frame breaks at most
abbrev reopened : Opening
reopened = record { again = true; step = 1; state = 2; own = false }

longest : whole_way 3 2 (Some (opening_way 3 2 reopened)) ≡ 31
longest = refl

breaks : broken 3 2 ≡ 31
breaks = refl

-- where its return to Init is awaited, and behind that
returning : opening_way 3 2 (record reopened { step = 2 }) ≡ record { rest = 23; awaits = true }
returning = refl

returned : opening_way 3 2 (record reopened { step = 3 }) ≡ record { rest = 20; awaits = false }
returned = refl

shown_last : opening_way 3 2 (record reopened { step = 9 }) ≡ record { rest = 0; awaits = true }
shown_last = refl

-- a first bring-up, of one slave that is visited by each frame: five accesses and a wait
brought_up : (M Q R : Type 0) → whole_way 1 2 (way_of 1 2 (new_life {M = M} {Q = Q} {R = R} 2)) ≡ 7
brought_up M Q R = refl

-- a lost read: three rounds and a wait
lost_read : whole_way 3 2 (half_way 3 2 InState.Doubt) ≡ 11
lost_read = refl

-- its acknowledge is read before the slave made a step, and behind it
asked : deadline 3 (record { way = half_way 3 2 InState.Asked; ahead = 1; clock = 2; stepped = false }) ≡ 8
asked = refl

acknowledged : deadline 3 (record { way = half_way 3 2 InState.Asked; ahead = 1; clock = 2; stepped = true }) ≡ 5
acknowledged = refl

-- repairs go on side by side: the longer one counts
abbrev standings : List Standing
standings =
    record { way = half_way 3 2 InState.Asked; ahead = 1; clock = 2; stepped = false } ∷ record { way = None; ahead = 0; clock = 1; stepped = false }
    ∷ record { way = half_way 3 2 InState.Refetch; ahead = 2; clock = 1; stepped = false } ∷ []

longer : repair 3 standings ≡ 8
longer = refl

-- with nothing to repair
waits : whole_way 3 2 (Some (patience 3)) ≡ 8
waits = refl

without : quiet 3 2 ≡ 11
without = refl

-- before the first frame
nothing_yet : (M Q R : Type 0) → gains (new_life {M = M} {Q = Q} {R = R} 2) ≡ 1
nothing_yet M Q R = refl
