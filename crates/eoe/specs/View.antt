-- An EoE message as it stands in a body.
use Rattle.std.specs.Prelude.{◌≡◌, ◌≤◌, ℕ, length, Result, Ok, Err}
use Rattle.arrayvec.specs.ArrayVec.{ArrayVec}
use Rattle.eoe.specs.declared.message.Eoe.{Eoe}
use Rattle.eoe.specs.declared.message.Eoe.TheVariants.{Fragment as Part, SetIp, SetIpAnswer, GetIp, GetIpAnswer}
use Rattle.eoe.specs.declared.message.EoeFault.{EoeFault}
use Rattle.eoe.specs.declared.message.Fragment.{Fragment}
use Rattle.eoe.specs.declared.joining.Joined.{Joined}
use Rattle.eoe.specs.declared.joining.Joined.TheVariants.{More, Whole, Dropped}
use Rattle.eoe.specs.declared.joining.Came.{Came}
use Rattle.eoe.specs.declared.joining.Came.TheVariants.{More as CMore, Whole as CWhole, Dropped as CDropped}
use Rattle.eoe.specs.declared.viewing.EoeView.{EoeView}
use Rattle.eoe.specs.declared.viewing.EoeView.TheVariants.{Fragment as VPart, SetIp as VSetIp, SetIpAnswer as VSetIpAnswer, GetIp as VGetIp, GetIpAnswer as VGetIpAnswer}
use Rattle.eoe.specs.declared.viewing.FragmentView.{FragmentView}

-- the fragment that is seen
abbrev pub fragment_seen : FragmentView → Fragment
fragment_seen v = record {
  last = v.last;
  stamped = v.stamped;
  number = v.number;
  offset = v.offset;
  frame = v.frame;
  bytes = record { items = v.bytes.now };
}

-- the message that is seen
abbrev pub eoe_seen : EoeView → Eoe
eoe_seen (VPart f) = Part (fragment_seen f)
eoe_seen (VSetIp block) = SetIp (record { items = block.now })
eoe_seen (VSetIpAnswer result_code) = SetIpAnswer result_code
eoe_seen VGetIp = GetIp
eoe_seen (VGetIpAnswer result_code block) = GetIpAnswer result_code (record { items = block.now })

-- what a view of a body comes to
abbrev pub seen : Result EoeView EoeFault → Result Eoe EoeFault
seen (Ok v) = Ok (eoe_seen v)
seen (Err fault) = Err fault

-- its octets fit a body
abbrev pub IsCapped : EoeView → Type 0
IsCapped (VPart f) = length f.bytes.now ≤ 1476
IsCapped (VSetIp block) = length block.now ≤ 1476
IsCapped (VGetIpAnswer result_code block) = length block.now ≤ 1476
IsCapped _ = Unit {0}

-- what became of a fragment, with the packet where it is whole
abbrev pub joined_in : Came → ArrayVec ℕ → Joined
joined_in CMore whole = More
joined_in CWhole whole = Whole whole
joined_in CDropped whole = Dropped

-- a place changes for a whole packet alone
abbrev pub IsKept : Came → ArrayVec ℕ → ArrayVec ℕ → Type 0
IsKept CWhole old new = Unit {0}
IsKept _ old new = new ≡ old
