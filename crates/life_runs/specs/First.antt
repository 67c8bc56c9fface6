-- THE SLAVES OF A PLAN before the first frame, as their master leads them.
use Rattle.std.specs.Prelude.{◌≡◌, ℕ, suc, ◌==◌, false, if◌then◌else◌, List, [], ◌∷◌, ⊤}
use Rattle.master_tour.specs.of_frame_view.View.{Lens}
use Rattle.master_tour.specs.of_life_model.Lives.{Spot}
use Rattle.master_hand.specs.of_segment_plan.declared.plan.Scenario.{Scenario}
use Rattle.master_hand.specs.of_segment_plan.declared.service.Service as Plan
use Rattle.master_hand.specs.of_segment_plan.declared.slave.SlaveSpec.{SlaveSpec}
use Rattle.life_runs.specs.Led.{Leads, new_leads}

-- the lengths of the mailboxes at each station of a plan
abbrev pub lens_of : List SlaveSpec → ℕ → Lens
lens_of [] station = record { out = 0; back = 0 }
lens_of (s ∷ ss) station = if s.station == station then record { out = s.out_len; back = s.in_len } else lens_of ss station

-- no station twice
abbrev pub IsElsewhere : ℕ → List SlaveSpec → Type 0
IsElsewhere station [] = ⊤
IsElsewhere station (s ∷ ss) = ((station == s.station) ≡ false) × IsElsewhere station ss

-- of each two of these
abbrev pub AreApart : List SlaveSpec → Type 0
AreApart [] = ⊤
AreApart (s ∷ ss) = IsElsewhere s.station ss × AreApart ss

-- these are the lengths of their mailboxes
abbrev pub HaveLens : (ℕ → Lens) → List SlaveSpec → Type 0
HaveLens lens [] = ⊤
HaveLens lens (s ∷ ss) = (((lens s.station).out ≡ s.out_len) × ((lens s.station).back ≡ s.in_len)) × HaveLens lens ss

-- what a plan says of a slave, and its place
abbrev pub spot_of : ℕ → SlaveSpec → Spot
spot_of place s = record { station = s.station; place = place; start = s.start }

-- the services that are addressed to a slave, in order
abbrev pub script_for : ℕ → List (ℕ × Plan.Service) → List Plan.Service
script_for slave [] = []
script_for slave (row ∷ rows) = if row.0 == slave then row.1 ∷ script_for slave rows else script_for slave rows

-- each slave from a place on, with its script among these rows
abbrev pub leads_from : List (ℕ × Plan.Service) → ℕ → List SlaveSpec → List Leads
leads_from rows place [] = []
leads_from rows place (s ∷ ss) = new_leads (script_for place rows) (spot_of place s) ∷ leads_from rows (suc place) ss

-- ALL OF THEM: no service began, and nothing happened in their lives
abbrev pub first_leads : Scenario → List Leads
first_leads plan = leads_from plan.services 0 plan.slaves
