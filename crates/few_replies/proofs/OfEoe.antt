-- The mails of EoE.
use Rattle.std.proofs.Common.{◌≡◌, ℕ, zero, suc, ◌+◌, ◌-◌, ◌*◌, ◌/◌, ◌≤◌, inl, inr, true, List, [], ◌++◌, length, Option, None, Some, refl, ap, arith, lt-ltb, le-ltb}
use Rattle.std.proofs.lemmas.Bool.{cases_lt}
use Rattle.std.proofs.lemmas.List.{length-map}
use Rattle.slave_parts.specs.of_eoe.Cutting.{blocks_of, fragments_from}
use Rattle.slave_parts.specs.of_exchange_model.Areas.{Areas, AreMailboxes}
use Rattle.slave_parts.specs.of_exchange_model.Exchange.{given, plain}
use Rattle.slave_parts.specs.of_protocol_models.EoeMails.{part, packet_mails, is_emission}
use Rattle.slave_parts.specs.of_protocol_models.Network.{Network, Station, IsSound, is_ready}
use Rattle.slave_parts.specs.of_protocol_models.EoeServer.{Server, serve, set_answer, addressed}
use Rattle.slave_parts.specs.of_protocol_models.EoeClient.{Service, packet, set_ip, get_ip, is_service, mails_of, meaning_of}
use Rattle.slave_parts.specs.of_protocol_models.EoeModel.{eoe_exchange}
use Rattle.slave_parts.proofs.of_protocol_models.EoeLaw.{eoe_law}
use Rattle.few_replies.specs.Counts.{mails_between, eoe_mails}
use Rattle.few_replies.proofs.Thirds.{both_kinds}

-- the fragments of a packet from a place on
from_within : (octets : List ℕ) (size frame most k at : ℕ) → 32 ≤ size → length (fragments_from octets size frame most k at) ≤ (length octets - at + 31) / 32
from_within octets size frame zero k at wide = omega arith
from_within octets size frame (suc most) k at wide = elim (cases_lt at (length octets)) [
  | inl more ↦ rw (lt-ltb at (length octets) more) (omega (arith, from_within octets size frame most (k + 1) (at + size) wide))
  | inr over ↦ rw (le-ltb at (length octets) over) (omega arith)
]

pub packet_within : (room frame : ℕ) (octets : List ℕ) → 64 ≤ room → length (packet_mails room octets frame) ≤ blocks_of (length octets)
packet_within room frame octets wide =
    let size = 32 * ((room - 10) / 32) in
    let all = from_within octets size frame (length octets) 0 0 (omega arith) in
    omega (arith, length-map (fragments_from octets size frame (length octets) 0 0) part, all)

module _ {S : Type 0} (o : Network S) (sound : IsSound o) (areas : Areas) (sized : AreMailboxes areas) where
  set_one : (station : Station S) (unfinished : Option _) (r : Option S) → length ((set_answer station unfinished r).gives ++ []) ≡ 1
  set_one station unfinished (Some app) = refl
  set_one station unfinished None = refl

  pub eoe_within : (v : Server S) (q : Service) → is_ready o v.station ≡ true → is_service q ≡ true →
      mails_between (eoe_exchange o areas) v q ≤ eoe_mails q + length (meaning_of o areas.back v.station q).emits
  eoe_within v (packet octets frame) ready valid =
      let law = eoe_law o sound areas sized in
      let gives = given (serve o areas.back) v (mails_of areas.out (packet octets frame)) in
      let silent : plain is_emission gives ≡ [] = law.silent v (packet octets frame) ready valid refl in
      let emits = law.all_emitted v (packet octets frame) ready valid in
      omega (arith, packet_within areas.out frame octets sized.out_least, both_kinds is_emission gives, ap length silent, ap length emits)
  eoe_within v (set_ip block) ready valid = omega (arith, set_one v.station v.unfinished (addressed o areas.back v.station.app block))
  eoe_within v get_ip ready valid = omega arith
