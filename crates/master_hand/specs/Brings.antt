-- What a mail brings besides a reply.
use Rattle.std.specs.Prelude.{◌≡◌, ℕ, List, [], ◌∷◌, ◌++◌, Option, Some, None}
use Rattle.eoe_client.specs.of_protocol_models.CoeMails as CoeMails
use Rattle.master_side.specs.of_link_mails.Body.{Body}
use Rattle.master_hand.specs.Spoken.{heard_sdo}
use Rattle.master_hand.specs.declared.found.Brought.{Brought}
use Rattle.master_hand.specs.declared.found.Found.{Found}

-- the octets of an emergency, of a mail of CoE
abbrev pub emergency_of : CoeMails.CoeMail → Option (List ℕ)
emergency_of (CoeMails.mail (CoeMails.Emergency octets)) = Some octets.items
emergency_of _ = None

-- and of any mail of the slave
abbrev pub emergency_in : Body → Option (List ℕ)
emergency_in b = emergency_of (heard_sdo b)

-- a list of what is there
abbrev pub as_list : {T : Type 0} → Option T → List T
as_list None = []
as_list (Some t) = t ∷ []

-- the octets of all emergencies among mails, in order
abbrev pub emergencies_in : List Body → List (List ℕ)
emergencies_in [] = []
emergencies_in (b ∷ bs) = as_list (emergency_in b) ++ emergencies_in bs

-- the octets that are kept, where the mail heard last was an emergency
abbrev pub kept_by : Brought → List ℕ → Option (List ℕ)
kept_by Brought.Emergency octets = Some octets
kept_by _ octets = None

-- of what was found
abbrev pub emergency_kept : Found → Option (List ℕ)
emergency_kept f = kept_by f.brought f.emergency.items

-- WHAT IS KEPT OF THE MAIL HEARD LAST: its octets, just where it was an emergency
abbrev pub Brings : Found → Body → Type 0
Brings f b = emergency_kept f ≡ emergency_in b
