-- WHAT BEGINS AT A VISIT: what is wished, where the slave is open and its side is free.
use Rattle.std.specs.Prelude.{Bool, false, Option}
use Rattle.master_side.specs.Free.{is_free_side, begins_by}
use Rattle.master_side.specs.declared.carried.Wish.{Wish}
use Rattle.master_side.specs.declared.hand.Hand.{Ghosts}
use Rattle.master_tour.specs.declared.stop.Stand.{Stand}
use Rattle.master_tour.specs.declared.stop.Stop.{Stop}

-- by how the master stands to it
abbrev pub stand_begins : Stand → Bool → Bool
stand_begins (Stand.Opening up) begins = false
stand_begins Stand.Open begins = begins
stand_begins Stand.Gone begins = false

-- at a slave of the tour
abbrev pub stop_begins : {H : Type 0} → {G : Ghosts H} → Stop H G → Option Wish → Bool
stop_begins {H} {G} s wish = stand_begins s.stand (begins_by (is_free_side s.side) wish (G.ready s.side.hand))
