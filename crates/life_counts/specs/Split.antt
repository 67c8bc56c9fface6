-- WHAT A SERVICE OF A PLAN COUNTS, its own mails apart from the packet that enters the switch by it.
use Rattle.std.specs.Prelude.{ℕ, ◌+◌, ◌*◌, ◌==◌, ◌&&◌, if◌then◌else◌, length}
use Rattle.master_hand.specs.of_eoe.Cutting.{blocks_of}
use Rattle.master_hand.specs.of_object_dictionary.declared.service.SdoService.{SdoService}
use Rattle.master_hand.specs.of_object_dictionary.declared.service.SdoService.TheVariants.{Download}
use Rattle.master_hand.specs.of_segment_plan.Bound.{sdo_size, size_of, mails_of, busy_of, state_work}
use Rattle.master_hand.specs.of_segment_plan.declared.slave.SlaveSpec.{SlaveSpec}
use Rattle.master_hand.specs.of_segment_plan.declared.service.Service.{Service}
use Rattle.master_hand.specs.of_segment_plan.declared.service.Service.TheVariants.{Sdo, WriteFile, State, Forward}

-- its own mails, or the steps of a change of state with what a return to Init takes
abbrev pub own_work : SlaveSpec → Service → ℕ
own_work slave (Sdo service) = mails_of slave (sdo_size slave service)
own_work slave (WriteFile name pass bytes) = mails_of slave (length bytes) + 2 * busy_of slave name.items
own_work slave (State target) = state_work target
own_work slave (Forward packet) = 0
own_work slave service = mails_of slave (size_of slave service)

-- the fragments of the packet that a download emits
abbrev pub sdo_cuts : SdoService → ℕ
sdo_cuts (Download index sub bytes) = if index == 0x2F01 && sub == 1 then blocks_of (length bytes) else 0
sdo_cuts service = 0

-- THE FRAGMENTS THAT ENTER THE SWITCH by a service
abbrev pub entering : Service → ℕ
entering (Sdo service) = sdo_cuts service
entering (Forward packet) = blocks_of (length packet.items)
entering service = 0

-- WHAT THE FRAME BOUND COUNTS FOR IT at one of n slaves: both, each fragment with what it leads to at the switch
abbrev pub split_work : ℕ → SlaveSpec → Service → ℕ
split_work n slave service = own_work slave service + entering service * ((n + 1) * (n + 1))
