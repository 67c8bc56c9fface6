-- A MAIL OF EoE is counted, or leaves the station: a packet is whole by its last fragment alone, and that one is counted.
use Rattle.std.proofs.Common.{◌≡◌, ◌⊎◌, inl, inr, ℕ, Bool, true, false, Option, None, Some, refl, ◌∙◌}
use Rattle.std.specs.Prelude.{if◌then◌else◌}
use Rattle.served_rings.specs.of_eoe.Joining.{Taken, added, awaited, ended, payload_of, taken_by}
use Rattle.served_rings.specs.of_eoe.declared.joining.Joined.{Joined}
use Rattle.served_rings.specs.of_eoe.declared.joining.Joined.TheVariants.{More, Whole, Dropped}
use Rattle.served_rings.specs.of_eoe.declared.joining.Unfinished.{Unfinished}
use Rattle.served_rings.specs.of_eoe.declared.message.Fragment.{Fragment}
use Rattle.idle_slaves.specs.of_protocol_models.EoeMails.{Eoe, Part, SetIp, SetIpAnswer, GetIp, GetIpAnswer, EoeFault, Short, WrongType, Offset, EoeMail, mail, unread, unsupported, failed, other}
use Rattle.idle_slaves.specs.of_protocol_models.Network.{Network, Station}
use Rattle.idle_slaves.specs.of_protocol_models.EoeServer.{Outcome, joined, addressed, set_answer, eoe_takes, takes_unread, eoe_outcome}

module _ {S : Type 0} (o : Network S) (room : ℕ) where
  -- counted, or the station is this
  abbrev Quiet : Station S → Outcome S → Type 0
  Quiet station x = (x.counts ≡ true) ⊎ (x.station ≡ station)

  joined_counts : (station : Station S) (last : Bool) (unfinished : Option Unfinished) (j : Joined) → (joined o room station last unfinished j).counts ≡ last
  joined_counts station last unfinished More = refl
  joined_counts station last unfinished (Whole packet) = refl
  joined_counts station last unfinished Dropped = refl

  -- what is taken of a fragment, by whether it is the last
  abbrev taken_as : Fragment → Unfinished → Bool → Taken
  taken_as f u last = if last then record { unfinished = None; joined = ended u (payload_of f) } else record { unfinished = Some (added u f.bytes.items); joined = More }

  more_quiet : (station : Station S) (f : Fragment) (u : Unfinished) (last : Bool) → last ≡ false → Quiet station (joined o room station f.last (taken_as f u last).unfinished (taken_as f u last).joined)
  more_quiet station f u true differs = absurd (cc)
  more_quiet station f u false is = inr refl

  part_quiet : (station : Station S) (f : Fragment) (before : Option Unfinished) (last : Bool) → f.last ≡ last → Quiet station (joined o room station f.last (taken_by f before).unfinished (taken_by f before).joined)
  part_quiet station f before true is = inl (joined_counts station f.last (taken_by f before).unfinished (taken_by f before).joined ∙ is)
  part_quiet station f None false is = inr refl
  part_quiet station f (Some u) false is = more_quiet station f u f.last is

  set_quiet : (station : Station S) (unfinished : Option Unfinished) (r : Option S) → Quiet station (set_answer station unfinished r)
  set_quiet station unfinished (Some app) = inl refl
  set_quiet station unfinished None = inl refl

  takes_quiet : (station : Station S) (unfinished : Option Unfinished) (e : Eoe) → Quiet station (eoe_takes o room station unfinished e)
  takes_quiet station unfinished (Part f) = part_quiet station f (awaited unfinished f) f.last refl
  takes_quiet station unfinished (SetIp block) = set_quiet station unfinished (addressed o room station.app block.items)
  takes_quiet station unfinished GetIp = inl refl
  takes_quiet station unfinished (SetIpAnswer result_code) = inl refl
  takes_quiet station unfinished (GetIpAnswer result_code block) = inl refl

  unread_quiet : (station : Station S) (unfinished : Option Unfinished) (fault : EoeFault) (kind : ℕ) → Quiet station (takes_unread station unfinished fault kind)
  unread_quiet station unfinished Short kind = inl refl
  unread_quiet station unfinished WrongType kind = inl refl
  unread_quiet station unfinished Offset kind = inr refl

  -- whatever comes
  pub eoe_quiet : (station : Station S) (unfinished : Option Unfinished) (m : EoeMail) → Quiet station (eoe_outcome o room station unfinished m)
  eoe_quiet station unfinished (mail e) = takes_quiet station unfinished e
  eoe_quiet station unfinished (unread fault kind) = unread_quiet station unfinished fault kind
  eoe_quiet station unfinished (unsupported kind) = inl refl
  eoe_quiet station unfinished (failed detail) = inr refl
  eoe_quiet station unfinished (other body) = inr refl
