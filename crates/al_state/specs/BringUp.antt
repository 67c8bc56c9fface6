use Rattle.std.specs.Prelude.{ℕ, Bool, true, false, not, ◌==◌, ◌&&◌, nat_le, if◌then◌else◌, List, [], ◌∷◌, ◌++◌, length}
use Rattle.byteorder.specs.Endian.{little_bytes}
use Rattle.datagrams.specs.of_ec_fields.Fields.{number_at}
use Rattle.datagrams.specs.declared.command.Command.{Command}
use Rattle.datagrams.specs.declared.command.Command.TheVariants.{Aprd, Apwr, Fpwr, Fprd}
use Rattle.datagrams.specs.declared.head.Head.{Head}
use Rattle.al_state.specs.declared.bringing.BringStep.{BringStep}
use Rattle.al_state.specs.declared.bringing.BringStep.TheVariants.{Return, Watch, Address, OutOff, InOff, OutManager, InManager, Start, Await}
use Rattle.al_state.specs.declared.bringing.BringUp.{BringUp}

-- the access behind one that is over; a slave that is opened again gets its sync managers off first
abbrev pub step_after : Bool → BringStep → BringStep
step_after again Return = Watch
step_after again Watch = Address
step_after again Address = if again then OutOff else OutManager
step_after again OutOff = InOff
step_after again InOff = OutManager
step_after again OutManager = InManager
step_after again InManager = Start
step_after again Start = Await
step_after again Await = Await

-- a sync manager: start, length, control, status, activate, PDI control
abbrev pub manager_text : ℕ → ℕ → ℕ → ℕ → List ℕ
manager_text start len control activate = little_bytes 2 start ++ (little_bytes 2 len ++ control ∷ 0 ∷ activate ∷ 0 ∷ [])

-- the body of an access of a bring-up
abbrev pub octets_at : BringUp → BringStep → List ℕ
octets_at up Return = 17 ∷ 0 ∷ []
octets_at up Watch = 0 ∷ 0 ∷ 0 ∷ 0 ∷ 0 ∷ 0 ∷ []
octets_at up Address = little_bytes 2 up.station
octets_at up OutOff = manager_text 4096 up.out_len 38 0
octets_at up InOff = manager_text 6144 up.in_len 34 0
octets_at up OutManager = manager_text 4096 up.out_len 38 1
octets_at up InManager = manager_text 6144 up.in_len 34 1
octets_at up Start = up.start ∷ 0 ∷ []
octets_at up Await = 0 ∷ 0 ∷ 0 ∷ 0 ∷ 0 ∷ 0 ∷ []

-- the body of the access in hand
abbrev pub octets_of : BringUp → List ℕ
octets_of up = octets_at up up.step

-- the head of a datagram that the master sends
abbrev pub asking : Command → ℕ → ℕ → ℕ → ℕ → Head
asking command index adp ado len = record {
  command = command;
  index = index;
  adp = adp;
  ado = ado;
  len = len;
  circulating = false;
  more = false;
  interrupt = 0;
  counter = 0;
}

-- the head of an access: the way to Init and the station address go to the place in the ring, all else to the station
abbrev pub head_at : BringUp → ℕ → BringStep → Head
head_at up index Return = asking Apwr index up.adp 288 2
head_at up index Watch = asking Aprd index up.adp 304 6
head_at up index Address = asking Apwr index up.adp 16 2
head_at up index OutOff = asking Fpwr index up.station 2048 8
head_at up index InOff = asking Fpwr index up.station 2056 8
head_at up index OutManager = asking Fpwr index up.station 2048 8
head_at up index InManager = asking Fpwr index up.station 2056 8
head_at up index Start = asking Fpwr index up.station 288 2
head_at up index Await = asking Fprd index up.station 304 6

-- the head of the access in hand
abbrev pub head_of : BringUp → ℕ → Head
head_of up index = head_at up index up.step

-- an AL status that shows a state and no error
abbrev pub shows : List ℕ → ℕ → Bool
shows body state = nat_le 2 (length body) && number_at 2 body 0 == state

-- the access that is repeated until the slave shows Init
abbrev pub is_watch : BringStep → Bool
is_watch Watch = true
is_watch _ = false

-- the access in hand behind a return with this working counter and body
abbrev pub step_behind : BringUp → ℕ → List ℕ → BringStep
step_behind up counter body =
    if is_watch up.step && not (counter == 1 && shows body 1) then Watch else step_after up.again up.step

-- an access behind the one by which the slave showed Init
abbrev pub is_behind_init : BringStep → Bool
is_behind_init Return = false
is_behind_init Watch = false
is_behind_init _ = true

-- the last access
abbrev pub is_last : BringStep → Bool
is_last Await = true
is_last _ = false

-- the slave is up: the last access came back from one slave and shows the start state
abbrev pub is_up : BringUp → ℕ → List ℕ → Bool
is_up up counter body = is_last up.step && counter == 1 && shows body up.start
