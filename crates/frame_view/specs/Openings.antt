-- The accesses of an opening, as octets and by their numbers in a life.
use Rattle.std.specs.Prelude.{◌≡◌, ℕ, ◌-◌, ◌%◌, ◌==◌, not, Bool, true, false}
use Rattle.al_state.specs.declared.bringing.BringStep.{BringStep}
use Rattle.al_state.specs.declared.bringing.BringStep.TheVariants.{Return, Watch, Address, OutOff, InOff, OutManager, InManager, Start, Await}
use Rattle.al_state.specs.declared.bringing.BringUp.{BringUp}
use Rattle.al_state.specs.BringUp.{head_of, octets_of}
use Rattle.al_state.specs.of_datagrams.Datagram as Raw
use Rattle.al_state.specs.of_datagrams.Frame.{datagram_of}
use Rattle.frame_view.specs.View.{Lens}
use Rattle.life_model.specs.Lives.{Opening, Spot}

-- the number of an access, of a reopening or of a first bring-up, which has no access that leads to Init or turns a mailbox off
abbrev pub step_number : Bool → BringStep → ℕ
step_number true Return = 1
step_number true Watch = 2
step_number true Address = 3
step_number true OutOff = 4
step_number true InOff = 5
step_number true OutManager = 6
step_number true InManager = 7
step_number true Start = 8
step_number true Await = 9
step_number false Return = 0
step_number false Watch = 0
step_number false Address = 1
step_number false OutOff = 0
step_number false InOff = 0
step_number false OutManager = 2
step_number false InManager = 3
step_number false Start = 4
step_number false Await = 5

-- it has this access
abbrev pub has_step : BringUp → Bool
has_step up = not (step_number up.again up.step == 0)

-- the opening whose access is in hand; `own` says whether a state service wanted it
abbrev pub opening_of : BringUp → Bool → Opening
opening_of up own = record { again = up.again; step = step_number up.again up.step; state = up.start; own = own }

-- its accesses are to this slave, whose mailboxes have these lengths
pub record IsOpeningTo (lens : ℕ → Lens) (spot : Spot) (up : BringUp) : Type 0 where
  pub step : has_step up ≡ true
  pub station : up.station ≡ spot.station
  pub place : up.adp ≡ (65536 - spot.place) % 65536
  pub out : up.out_len ≡ (lens spot.station).out
  pub back : up.in_len ≡ (lens spot.station).back

-- THE ACCESS OF AN OPENING that is in hand, as it is sent
pub record IsOpeningGram (lens : ℕ → Lens) (spot : Spot) (o : Opening) (d : Raw.Datagram) : Type 0 where
  pub up : BringUp
  pub own : Bool
  pub index : ℕ
  pub opening : o ≡ opening_of up own
  pub to : IsOpeningTo lens spot up
  pub is : d ≡ datagram_of (head_of up index) (octets_of up)
