-- What writes keep of a table of IDNs, any mail of SoE keeps.
use Rattle.std.proofs.Common.{◌≡◌, ℕ, ◌==◌, Bool, true, false, List, [], ◌∷◌, None, Some, Result, Ok, Err, refl}
use Rattle.std.specs.Prelude.{if◌then◌else◌}
use Rattle.eoe_server.specs.of_protocol_models.Elements.{Target, Elements}
use Rattle.eoe_server.specs.of_protocol_models.SoeMails.{SoeMail, mail, unread, failed, other, SoeFault, Short, Opcode, Incomplete}
use Rattle.eoe_server.specs.of_protocol_models.SoeServer.{Server, serve, gathered, asked, written, answered, silent, joined, target_of, takes_whole, takes_unread}

module _ {S : Type 0} (o : Elements S) (room : ℕ) (P : S → Type 0) (stays : (app changed : S) (t : Target) (bytes : List ℕ) → P app → o.write app t bytes ≡ Ok changed → P changed) where
  pub keeps : (v : Server S) (m : SoeMail) → P v.app → P (serve o room v m).0.app
  keeps v (mail s) fine = go s.incomplete
    where
      read_fine : (r : Result (List ℕ) ℕ) → P (asked room v.app (target_of s) r).app
      read_fine (Ok bytes) = fine
      read_fine (Err code) = fine

      write_fine : (octets : List ℕ) (r : Result S ℕ) → o.write v.app (target_of s) octets ≡ r → P (written v.app (target_of s) r).app
      write_fine octets (Ok changed) e = stays v.app changed (target_of s) octets fine e
      write_fine octets (Err code) e = fine

      whole_fine : (b c : Bool) → P (if b then asked room v.app (target_of s) (o.read v.app (target_of s)) else if c then written v.app (target_of s) (o.write v.app (target_of s) (gathered v.join s)) else answered v.app None (failed 4 ∷ [])).app
      whole_fine true c = read_fine (o.read v.app (target_of s))
      whole_fine false true = write_fine (gathered v.join s) (o.write v.app (target_of s) (gathered v.join s)) refl
      whole_fine false false = fine

      go : (b : Bool) → P (if b then silent v.app (Some (joined v.join s)) else takes_whole o room v.app v.join s).app
      go true = fine
      go false = whole_fine (s.opcode == 1) (s.opcode == 3)
  keeps v (unread fault incomplete) fine = go fault incomplete
    where
      go : (fault : SoeFault) (b : Bool) → P (takes_unread v.app v.join fault b).app
      go Short b = fine
      go Opcode true = fine
      go Opcode false = fine
      go Incomplete b = fine
  keeps v (failed detail) fine = fine
  keeps v (other body) fine = fine
