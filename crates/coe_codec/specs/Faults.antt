use Rattle.std.specs.Prelude.{ℕ, Bool, true, ◌==◌, ◌||◌, ◌&&◌, not, nat_lt, nat_le, if◌then◌else◌, List, length, Option, Some, None}
use Rattle.coe_codec.specs.Fields.{service_in, specifier_in, flag_in, opcode_in}
use Rattle.coe_codec.specs.Reading.{first_fits, segment_fits, is_information}
use Rattle.coe_codec.specs.declared.message.CoeFault.{CoeFault}
use Rattle.coe_codec.specs.declared.message.CoeFault.TheVariants.{Short, Service, Command, Size}

-- the octets that a body of a service has at least
abbrev pub least_of : ℕ → ℕ
least_of service =
    if service == 1 then 10 else if service == 2 then 10 else if service == 3 then 10 else if service == 8 then 6 else 2

-- the services that there are
abbrev pub is_service : ℕ → Bool
is_service service = service == 1 || (service == 2 || (service == 3 || service == 8))

-- whether an SDO request's command is one of the forms
abbrev pub is_request : List ℕ → Bool
is_request body = if specifier_in body == 1 then flag_in body 2 || flag_in body 1 else nat_le (specifier_in body) 4

-- whether an SDO answer's command is one of the forms
abbrev pub is_answer : List ℕ → Bool
is_answer body = if specifier_in body == 2 then flag_in body 1 else nat_le (specifier_in body) 4

-- whether an opcode is one of the forms and has its fields
abbrev pub is_opcode : List ℕ → Bool
is_opcode body =
    is_information (opcode_in body)
    || ((opcode_in body == 1 || opcode_in body == 3) && nat_le 8 (length body)
    || (opcode_in body == 5 || opcode_in body == 7) && nat_le 10 (length body))

-- whether the command or opcode is one that the service has
abbrev pub is_command : List ℕ → Bool
is_command body =
    if service_in body == 1 then true
    else if service_in body == 2 then is_request body
    else if service_in body == 3 then is_answer body
    else is_opcode body

-- whether a segment's or a first part's size is right, by its command
abbrev pub part_fits : List ℕ → ℕ → Bool
part_fits body initiate =
    if specifier_in body == 0 then segment_fits body
    else if specifier_in body == initiate then flag_in body 2 || first_fits body
    else true

-- whether the sizes in a body are right
abbrev pub size_fits : List ℕ → Bool
size_fits body = if service_in body == 2 then part_fits body 1 else if service_in body == 3 then part_fits body 2 else true

-- the first part of a body that is no CoE message's
abbrev pub fault_of : List ℕ → Option CoeFault
fault_of body =
    if nat_lt (length body) (least_of (service_in body)) then Some Short
    else if not (is_service (service_in body)) then Some Service
    else if not (is_command body) then Some Command
    else if not (size_fits body) then Some Size
    else None
