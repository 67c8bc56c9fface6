-- A MAIL THAT IS PASSED ON, by how the master stands to its slave.
use Rattle.std.specs.Prelude.{◌≡◌, Bool, false, Option, ⊤}
use Rattle.master_side.specs.of_life_model.Lives.{Life}
use Rattle.master_side.specs.of_link_mails.Body.{Body}
use Rattle.master_side.specs.of_segment_model.Record.{Kept}
use Rattle.master_side.specs.Passing.{PassingShows, IsKept}
use Rattle.master_side.specs.declared.passing.Passing.{Passing}
use Rattle.master_side.specs.of_master_duty.Reply.{Reply}
use Rattle.master_tour.specs.Stands.{is_still}
use Rattle.master_tour.specs.declared.stop.Stand.{Stand}

-- the side has it as the life does, where the slave is open, or was seen in Init on its way there; of the epoch before, and of a slave that is gone,
-- nothing more counts
abbrev pub StandPassing : {Q : Type 0} → Stand → Bool → Option Passing → Life Body Q Reply → Type 0
StandPassing (Stand.Opening up) awaits passing l = is_still up ≡ false → PassingShows awaits passing l.era.passing
StandPassing Stand.Open awaits passing l = PassingShows awaits passing l.era.passing
StandPassing Stand.Gone awaits passing l = ⊤

-- the record's counters are the side's, where the slave is open
abbrev pub StandKept : {Q : Type 0} → Stand → Kept → Life Body Q Reply → Type 0
StandKept (Stand.Opening up) kept l = ⊤
StandKept Stand.Open kept l = IsKept kept l.era.side
StandKept Stand.Gone kept l = ⊤
