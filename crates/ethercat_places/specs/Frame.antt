use Rattle.std.specs.Prelude.{ℕ, zero, suc, ◌+◌, ◌-◌, ◌==◌, Bool, true, false, not, ◌&&◌, nat_lt, if◌then◌else◌, min, List, length, take, drop, Option, None, Some}
use Rattle.ec_fields.specs.Fields.{number_at, bits_of}
use Rattle.datagrams.specs.Datagram.{body_length}
use Rattle.ethercat_places.specs.declared.frame.Ending.{Ending}
use Rattle.ethercat_places.specs.declared.frame.Ending.TheVariants.{Last, Torn, Beyond}
use Rattle.ethercat_places.specs.declared.frame.Frame.{Frame}
use Rattle.ethercat_places.specs.declared.frame.Kind.{Kind}
use Rattle.ethercat_places.specs.declared.frame.Kind.TheVariants.{Other, Gateway, EtherCat, Cut, Unreadable}
use Rattle.ethercat_places.specs.declared.frame.Step.{Step}
use Rattle.ethercat_places.specs.declared.frame.Step.TheVariants.{On, End}
use Rattle.ethercat_places.specs.declared.frame.Walk.{Walk}
use Rattle.ethercat_places.specs.declared.place.Place.{Place}
use Rattle.ethercat_places.specs.Place.{place_of}

-- whether the datagram whose octets begin here says that another one follows
abbrev pub says_more : List ℕ → Bool
says_more octets = bits_of (number_at 2 octets 6) 15 1 == 1

-- the step from the datagram whose octets begin here, where the frame's length has `left` octets left
abbrev pub step_of : ℕ → List ℕ → Step
step_of left octets =
    if nat_lt (length octets) 10 then End Torn
    else if nat_lt left (12 + body_length octets) then End Beyond
    else if says_more octets then On (12 + body_length octets)
    else End (Last (nat_lt (length octets) (12 + body_length octets)))

-- a walk that ends so behind so many visible datagrams: the last one is visible too
abbrev pub ended_at : ℕ → Ending → Walk
ended_at before (Last cut) = record { visible = before + 1; ending = Last cut }
ended_at before Torn = record { visible = before; ending = Torn }
ended_at before Beyond = record { visible = before; ending = Beyond }

-- a step, and what is found behind it
abbrev pub walk_by : ℕ → (ℕ → Walk) → Step → Walk
walk_by before on (On size) = on size
walk_by before on (End ending) = ended_at before ending

-- the walk over captured octets, of which there are at most `most`, behind `before` datagrams
abbrev pub walk_within : ℕ → ℕ → ℕ → List ℕ → Walk
walk_within zero before left octets = record { visible = before; ending = Torn }
walk_within (suc most) before left octets =
    walk_by before (λ size. walk_within most (before + 1) (left - size) (drop size octets)) (step_of left octets)

-- what a frame of datagrams is, by its walk; `short` where the packet lacks octets of it
abbrev pub kind_of : Bool → Ending → Kind
kind_of short (Last cut) = if cut then Cut else EtherCat
kind_of short Torn = if short then Cut else Unreadable
kind_of short Beyond = Unreadable

-- whether the last visible datagram says that none follows
abbrev pub is_wholly : Ending → Bool
is_wholly (Last cut) = true
is_wholly Torn = false
is_wholly Beyond = false

-- a frame of which nothing is visible
abbrev pub unseen : Kind → Frame
unseen kind = record { kind = kind; first = 0; visible = 0; wholly = false }

-- the frame of this walk
abbrev pub walked : Bool → ℕ → Walk → Frame
walked short first w = record { kind = kind_of short w.ending; first = first; visible = w.visible; wholly = is_wholly w.ending }

-- the datagrams from a place on, where the frame's length is `size`, `there` octets were captured, and the packet had more or not
abbrev pub datagrams_in : List ℕ → Bool → ℕ → ℕ → ℕ → Frame
datagrams_in octets had_more first there size =
    if nat_lt there size && not had_more then unseen Unreadable
    else walked (nat_lt there size) first
    (walk_within (min there size) 0 size (take (min there size) (drop first octets)))

-- the frame whose EtherCAT header stands at a place
abbrev pub frame_in : List ℕ → Bool → Place → Frame
frame_in octets had_more p =
    if nat_lt (p.to - p.from) 2 then unseen (if had_more then Cut else Unreadable)
    else if bits_of (number_at 2 octets p.from) 12 4 == 5 then unseen Gateway
    else if not (bits_of (number_at 2 octets p.from) 12 4 == 1) then unseen Other
    else datagrams_in octets had_more (p.from + 2) (p.to - p.from - 2) (bits_of (number_at 2 octets p.from) 0 11)

-- the same where a place was found
abbrev pub frame_at : List ℕ → Bool → Option Place → Frame
frame_at octets had_more None = unseen Other
frame_at octets had_more (Some p) = frame_in octets had_more p

-- what a packet is, of which these octets were captured and which had `original` octets
abbrev pub frame_of : List ℕ → ℕ → Frame
frame_of octets original = frame_at octets (nat_lt (length octets) original) (place_of octets)
