use Rattle.std.specs.Prelude.{ℕ, Bool, not, ◌==◌, ◌&&◌, ◌||◌, if◌then◌else◌, Option, Some, None}
use Rattle.datagrams.specs.of_ec_fields.Fields.{bits_of}
use Rattle.al_state.specs.declared.machine.Al.{Al}
use Rattle.al_state.specs.declared.machine.Asked.{Asked}
use Rattle.al_state.specs.declared.machine.Asked.TheVariants.{Changed, Ignored, Refused}

-- Init, PreOp, Bootstrap, SafeOp and Op
abbrev pub is_state : ℕ → Bool
is_state s = s == 1 || s == 2 || s == 3 || s == 4 || s == 8

-- the changes that a slave makes: each state to itself, and the pairs of the state machine
abbrev pub is_change : ℕ → ℕ → Bool
is_change from to =
    from == to
    || from == 1 && to == 2 || from == 1 && to == 3
    || from == 3 && to == 1
    || from == 2 && to == 1 || from == 2 && to == 4
    || from == 4 && to == 8 || from == 4 && to == 2 || from == 4 && to == 1
    || from == 8 && to == 4 || from == 8 && to == 2 || from == 8 && to == 1

-- the AL status code that refuses a change, the first that applies: 0012 unknown state, 0013 no Bootstrap,
-- 0011 no such change, 0015 and 0016 the mailbox sync managers aren't right for Bootstrap, for PreOp
abbrev pub refusal_of : ℕ → ℕ → Bool → Bool → Option ℕ
refusal_of from to boot areas =
    if not (is_state to) then Some 18
    else if to == 3 && not boot then Some 19
    else if not (is_change from to) then Some 17
    else if from == 1 && to == 3 && not areas then Some 21
    else if from == 1 && to == 2 && not areas then Some 22
    else None

-- a change that is made, or refused with a code: then the state stays
abbrev pub carried : Al → ℕ → Option ℕ → Al × Asked
carried al to None = (record { state = to; error = 0 }, Changed)
carried al to (Some code) = (record { state = al.state; error = code }, Refused code)

-- what becomes of an AL control word: while an error stands, one that doesn't acknowledge it is ignored
abbrev pub request_of : Al → ℕ → Bool → Bool → Al × Asked
request_of al control boot areas =
    if not (al.error == 0) && bits_of control 4 1 == 0 then (al, Ignored)
    else carried al (bits_of control 0 4) (refusal_of al.state (bits_of control 0 4) boot areas)
