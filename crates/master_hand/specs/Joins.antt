-- The packets that a slave sends: joined from the fragments among the mails accepted of it.
use Rattle.std.specs.Prelude.{◌≡◌, ℕ, List, [], ◌∷◌, ◌++◌, Option, Some, None}
use Rattle.eoe_client.specs.of_eoe.Joining.{taken}
use Rattle.eoe_client.specs.of_eoe.declared.joining.Joined.{Joined}
use Rattle.eoe_client.specs.of_eoe.declared.joining.Joined.TheVariants.{More, Whole, Dropped}
use Rattle.eoe_client.specs.of_eoe.declared.joining.Unfinished.{Unfinished}
use Rattle.eoe_client.specs.of_eoe.declared.message.Fragment.{Fragment}
use Rattle.eoe_client.specs.of_protocol_models.EoeMails as EoeMails
use Rattle.master_side.specs.of_link_mails.Body.{Body}
use Rattle.master_hand.specs.Brings.{as_list}
use Rattle.master_hand.specs.Spoken.{heard_net}
use Rattle.master_hand.specs.declared.found.Brought.{Brought}
use Rattle.master_hand.specs.declared.found.Found.{Found}

-- the fragment of a packet that a mail of EoE is, if it is one
abbrev pub fragment_of : EoeMails.EoeMail → Option Fragment
fragment_of (EoeMails.mail (EoeMails.Part f)) = Some f
fragment_of _ = None

-- and any mail of the slave
abbrev pub fragment_in : Body → Option Fragment
fragment_in b = fragment_of (heard_net b)

-- what is unfinished behind it: a fragment goes on with a packet, begins one or drops one, and another mail leaves it
abbrev pub unfinished_by : Option Unfinished → Option Fragment → Option Unfinished
unfinished_by before None = before
unfinished_by before (Some f) = (taken before f).unfinished

-- the octets of a packet that is whole
abbrev pub whole_of : Joined → Option (List ℕ)
whole_of More = None
whole_of (Whole packet) = Some packet.items
whole_of Dropped = None

-- of the packet that a fragment completes, if it is the last of one
abbrev pub completed_by : Option Unfinished → Option Fragment → Option (List ℕ)
completed_by before None = None
completed_by before (Some f) = whole_of (taken before f).joined

-- what is unfinished behind a mail
abbrev pub unfinished_behind : Option Unfinished → Body → Option Unfinished
unfinished_behind before b = unfinished_by before (fragment_in b)

-- the packet that a mail completes
abbrev pub packet_in : Option Unfinished → Body → Option (List ℕ)
packet_in before b = completed_by before (fragment_in b)

-- THE PACKETS THAT MAILS JOIN TO, in order, behind what was unfinished before them
abbrev pub packets_in : Option Unfinished → List Body → List (List ℕ)
packets_in before [] = []
packets_in before (b ∷ bs) = as_list (packet_in before b) ++ packets_in (unfinished_behind before b) bs

-- the octets that are kept, where the mail heard last completed a packet
abbrev pub packet_by : Brought → List ℕ → Option (List ℕ)
packet_by Brought.Packet octets = Some octets
packet_by _ octets = None

-- of what was found
abbrev pub packet_kept : Found → Option (List ℕ)
packet_kept f = packet_by f.brought f.packet.items

-- WHAT IS KEPT OF THE MAIL HEARD LAST: the octets of a packet, just where it completed one
abbrev pub Completes : Found → Option Unfinished → Body → Type 0
Completes f before b = packet_kept f ≡ packet_in before b
