-- How a call ends.
use Rattle.std.specs.Prelude.{◌≡◌, ◌≤◌, ◌⊎◌, true, false, List, [], ◌∷◌, length, Some, None}
use Rattle.gateway_core.specs.of_ec_outside.Faults.{Rose}
use Rattle.gateway_core.specs.of_ec_outside.Port.{HeardGram}
use Rattle.gateway_tool.specs.declared.reply.Reply.{Reply}
use Rattle.gateway_tool.specs.Rule.{Call, Standing, at_first, said, replied, is_spent, hears_all, are_awaited, grams_of}
use Rattle.gateway_tool.specs.Told.{Told, Adds}
use Rattle.gateway_tool.specs.declared.asking.ToolEnd.{ToolEnd}

-- a list without its last
abbrev pub but_last : {A : Type 0} → List A → List A
but_last [] = []
but_last (x ∷ []) = []
but_last (x ∷ y ∷ ys) = x ∷ but_last (y ∷ ys)

-- what may let the last mail lack: that its send failed, so that the port's faults rose; that too many datagrams were taken; or want of memory
abbrev pub MayLack : Standing → Told → Told → ToolEnd → Type 0
MayLack s first last ToolEnd.Reply = Rose first.faults last.faults
MayLack s first last ToolEnd.PortFault = Rose first.faults last.faults
MayLack s first last ToolEnd.NoAnswer = 65536 ≤ length s.taken
MayLack s first last ToolEnd.NoMemory = Unit {0}

-- WHAT WAS SENT: the client's mails for those taken, in order, the last one missing only so
abbrev pub IsSent : Call → Standing → Told → Told → ToolEnd → Type 0
IsSent c s first last end = Adds first.sent last.sent (grams_of c (said c s)) ⊎ (Adds first.sent last.sent (grams_of c (but_last (said c s))) × MayLack s first last end)

-- no answer came: the port ended, or too many datagrams were passed over or taken
abbrev pub IsUnanswered : Standing → Told → Told → Type 0
IsUnanswered s first last = ((last.over ≡ true) × (is_spent s ≡ false)) ⊎ ((last.over ≡ first.over) × (is_spent s ≡ true))

-- THE CAUSES OF EACH END
abbrev pub Causes : Call → Standing → Told → Told → Reply → ToolEnd → Type 0
Causes c s first last value ToolEnd.Reply = (replied c s ≡ Some (value.kind, value.value)) × (last.over ≡ first.over)
Causes c s first last value ToolEnd.NoAnswer = (replied c s ≡ None) × IsUnanswered s first last
Causes c s first last value ToolEnd.PortFault = (replied c s ≡ None) × (is_spent s ≡ false) × (last.over ≡ first.over) × Rose first.faults last.faults
Causes c s first last value ToolEnd.NoMemory = Unit {0}

-- HOW A CALL ENDED, by what its port told first and last: what was heard, each datagram awaited; what was sent for it; and why it ended
pub record HasEnded (c : Call) (first last : Told) (value : Reply) (end : ToolEnd) : Type 0 where
  pub grams : List HeardGram
  pub awaited : are_awaited c at_first grams ≡ true
  pub heard : Adds first.heard last.heard grams
  pub sent : IsSent c (hears_all c at_first grams) first last end
  pub causes : Causes c (hears_all c at_first grams) first last value end

-- but for a reply the value is as before
abbrev pub IsKept : Reply → Reply → ToolEnd → Type 0
IsKept old new ToolEnd.Reply = Unit {0}
IsKept old new _ = new ≡ old
