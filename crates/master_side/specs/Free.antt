-- WHETHER A SERVICE MAY COME INTO HAND of a slave, as its side has it, and whether one does at its visit.
use Rattle.std.specs.Prelude.{◌&&◌, Bool, false, Option, Some, None, is_none, is_some}
use Rattle.master_side.specs.Carried.{in_hand}
use Rattle.master_side.specs.declared.carried.Wish.{Wish}
use Rattle.master_side.specs.declared.hand.Hand.{Ghosts}
use Rattle.master_side.specs.declared.side.Side.{Side}

-- THE SIDE IS FREE: no state service is in hand and no mail that is passed on; and by what is held, the newest service is over and acknowledged
abbrev pub is_free_side : {H : Type 0} → {G : Ghosts H} → Side H G → Bool
is_free_side {H} {G} s = (is_none (in_hand s.duty) && is_none s.passing) && (G.over s.hand s.fresh (is_none s.out.state) && G.done s.hand (is_none s.out.state))

-- A FREE ONE BEGINS WHAT IS WISHED: a change of state, or the service by mails that is laid ready
abbrev pub begins_by : {Q : Type 0} → Bool → Option Wish → Option Q → Bool
begins_by free None ready = false
begins_by free (Some Wish.Mails) ready = free && is_some ready
begins_by free (Some (Wish.State target)) ready = free
