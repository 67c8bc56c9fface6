-- What packets and address blocks keep of a station, any mail keeps.
use Rattle.std.proofs.Common.{◌≡◌, ℕ, ◌-◌, ◌&&◌, nat_le, Bool, true, false, List, length, Option, None, Some, refl}
use Rattle.std.specs.Prelude.{if◌then◌else◌}
use Rattle.eoe_server.specs.of_eoe.declared.joining.Joined.{Joined}
use Rattle.eoe_server.specs.of_eoe.declared.joining.Joined.TheVariants.{More, Whole, Dropped}
use Rattle.eoe_server.specs.of_eoe.declared.joining.Unfinished.{Unfinished}
use Rattle.eoe_server.specs.of_eoe.Joining.{taken}
use Rattle.eoe_server.specs.of_eoe.Address.{is_block}
use Rattle.eoe_server.specs.of_protocol_models.EoeMails.{Eoe, Part, SetIp, SetIpAnswer, GetIp, GetIpAnswer, EoeFault, Short, WrongType, Offset, EoeMail, mail, unread, unsupported, failed, other}
use Rattle.eoe_server.specs.of_protocol_models.Network.{Network, Station}
use Rattle.eoe_server.specs.of_protocol_models.EoeServer.{Server, Outcome, delivered, joined, addressed, set_answer, eoe_takes, takes_unread, eoe_outcome, serve}

module _ {S : Type 0} (o : Network S) (room : ℕ) (P : Station S → Type 0) (sent : (station : Station S) (octets : List ℕ) → P station → P (delivered o room station octets).0)
    (set : (station : Station S) (app : S) (block : List ℕ) → P station → o.set_ip station.app block ≡ Some app → P (record station { app = app })) where
  abbrev IsFine : Outcome S → Type 0
  IsFine x = P x.station

  joined_fine : (station : Station S) (last : Bool) (unfinished : Option Unfinished) (j : Joined) → P station → IsFine (joined o room station last unfinished j)
  joined_fine station last unfinished More fine = fine
  joined_fine station last unfinished (Whole p) fine = sent station p.items fine
  joined_fine station last unfinished Dropped fine = fine

  set_fine : (station : Station S) (unfinished : Option Unfinished) (block : List ℕ) → P station → (b : Bool) (r : Option S) → (if b then o.set_ip station.app block else None) ≡ r → IsFine (set_answer station unfinished r)
  set_fine station unfinished block fine b None is = fine
  set_fine station unfinished block fine true (Some app) is = set station app block fine is
  set_fine station unfinished block fine false (Some app) is = absurd (cc)

  takes_fine : (station : Station S) (unfinished : Option Unfinished) (e : Eoe) → P station → IsFine (eoe_takes o room station unfinished e)
  takes_fine station unfinished (Part f) fine = joined_fine station f.last (taken unfinished f).unfinished (taken unfinished f).joined fine
  takes_fine station unfinished (SetIp block) fine = set_fine station unfinished block.items fine (is_block block.items && nat_le (length block.items) (room - 10)) (addressed o room station.app block.items) refl
  takes_fine station unfinished GetIp fine = fine
  takes_fine station unfinished (SetIpAnswer result_code) fine = fine
  takes_fine station unfinished (GetIpAnswer result_code block) fine = fine

  unread_fine : (station : Station S) (unfinished : Option Unfinished) (fault : EoeFault) (kind : ℕ) → P station → IsFine (takes_unread station unfinished fault kind)
  unread_fine station unfinished Short kind fine = fine
  unread_fine station unfinished WrongType kind fine = fine
  unread_fine station unfinished Offset kind fine = fine

  outcome_fine : (station : Station S) (unfinished : Option Unfinished) (m : EoeMail) → P station → IsFine (eoe_outcome o room station unfinished m)
  outcome_fine station unfinished (mail e) fine = takes_fine station unfinished e fine
  outcome_fine station unfinished (unread fault kind) fine = unread_fine station unfinished fault kind fine
  outcome_fine station unfinished (unsupported kind) fine = fine
  outcome_fine station unfinished (failed detail) fine = fine
  outcome_fine station unfinished (other body) fine = fine

  pub keeps : (v : Server S) (m : EoeMail) → P v.station → P (serve o room v m).0.station
  keeps v m fine = outcome_fine v.station v.unfinished m fine
