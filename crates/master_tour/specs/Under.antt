-- The frame under way: which datagrams of it are one slave's.
use Rattle.std.specs.Prelude.{◌≡◌, ℕ, zero, suc, ◌==◌, if◌then◌else◌, Bool, true, false, List, [], ◌∷◌, Option}
use Rattle.master_side.specs.of_datagrams.declared.frame.Part.{Part}
use Rattle.master_side.specs.of_datagrams.declared.command.Command.TheVariants.{Nop}
use Rattle.master_side.specs.of_link_model.Link.{Halves}
use Rattle.master_side.specs.of_link_mails.Body.{Body}
use Rattle.master_side.specs.of_segment_model.Slaves.{Datagram, Access}
use Rattle.master_side.specs.declared.carried.Carried.{Carried}
use Rattle.master_side.specs.Carried.{Meant, one}

-- a frame as a session sees it
abbrev pub Grams : Type 0
Grams = List (Datagram Body)

-- a slave's own datagrams
abbrev pub mine : ℕ → Grams → Grams
mine station [] = []
mine station (d ∷ ds) = if d.gram.station == station then d ∷ mine station ds else mine station ds

-- the datagram at a place of a frame
abbrev pub IsAt : ℕ → Grams → Datagram Body → Type 0
IsAt at [] b = ⊥
IsAt zero (d ∷ ds) b = b ≡ d
IsAt (suc at) (d ∷ ds) b = IsAt at ds b

-- WHAT THE FRAME HAS OF ONE SLAVE: nothing, or one datagram, at this place
pub data Under (station at : ℕ) (under : Bool) (carried : Carried) (h : Halves Body) (due : Option Access) (sent : Grams) : Type 0 where
  none : under ≡ false → mine station sent ≡ [] → Under station at under carried h due sent
  has : (b : Datagram Body) → under ≡ true → IsAt at sent b → mine station sent ≡ one b → Meant station carried h due b → Under station at under carried h due sent

-- stands where a frame has no datagram
abbrev pub no_part : Part
no_part = record { at = 0; head = record { command = Nop; index = 0; adp = 0; ado = 0; len = 0; circulating = false; more = false; interrupt = 0; counter = 0 } }
