-- What new versions keep of the files, any mail of FoE keeps.
use Rattle.std.proofs.Common.{ℕ, ◌+◌, ◌==◌, not, nat_lt, Bool, true, false, List, ◌++◌, length, Option, None, Some}
use Rattle.std.specs.Prelude.{if◌then◌else◌}
use Rattle.slave_parts.specs.of_protocol_models.FoeMails.{Foe, Read, Write, Data, Ack, Error, Busy, FoeFault, Short, Opcode, Name, FoeMail, mail, unread, failed, other}
use Rattle.slave_parts.specs.of_protocol_models.Files.{Files}
use Rattle.slave_parts.specs.of_protocol_models.FoeServer.{Transfer, idle, reading, writing, closing, Server, Outcome, foe_outcome, foe_takes, serve, opened, begun, closes, stores, takes_data, takes_ack, takes_unread, packet_room, is_last}

either : {X : Type 0} (P : X → Type 0) (b : Bool) (x y : X) → P x → P y → P (if b then x else y)
either P true x y p q = p
either P false x y p q = q

module _ {S : Type 0} (o : Files S) (out back : ℕ) (P : S → Type 0) (stays : (app : S) (name bytes : List ℕ) → P app → P (o.put app name bytes)) where
  abbrev IsFine : Outcome S → Type 0
  IsFine x = P x.app

  opened_fine : (app : S) (bytes : List ℕ) (found : Option ℕ) → P app → IsFine (opened back app bytes found)
  opened_fine app bytes None fine = fine
  opened_fine app bytes (Some code) fine = fine

  begun_fine : (app : S) (name : List ℕ) (found : Option ℕ) → P app → IsFine (begun app name found)
  begun_fine app name None fine = fine
  begun_fine app name (Some code) fine = fine

  closes_fine : (app : S) (name : List ℕ) (number : ℕ) (got : List ℕ) (told : ℕ) → P app → IsFine (closes o app name number got told)
  closes_fine app name number got told fine = either IsFine (nat_lt told (o.busy app name)) _ _ fine (stays app name got fine)

  stores_fine : (app : S) (name : List ℕ) (number : ℕ) (got part : List ℕ) → P app → IsFine (stores o out app name number got part)
  stores_fine app name number got part fine =
      either IsFine (not (o.has_room app (length (got ++ part)))) _ _ fine (either IsFine (is_last out part) _ _ (closes_fine app name number (got ++ part) 0 fine) fine)

  data_fine : (app : S) (transfer : Transfer) (packet : ℕ) (part : List ℕ) → P app → IsFine (takes_data o out app transfer packet part)
  data_fine app idle packet part fine = fine
  data_fine app (reading number left) packet part fine = fine
  data_fine app (writing name number got) packet part fine = either IsFine (packet == number + 1) _ _ (stores_fine app name packet got part fine) fine
  data_fine app (closing name number got told) packet part fine = either IsFine (packet == number) _ _ (closes_fine app name number got told fine) fine

  ack_fine : (app : S) (transfer : Transfer) (packet : ℕ) → P app → IsFine (takes_ack back app transfer packet)
  ack_fine app idle packet fine = fine
  ack_fine app (reading number left) packet fine = either IsFine (packet == number) _ _ (either IsFine (nat_lt (length left) (packet_room back)) _ _ fine fine) fine
  ack_fine app (writing name number got) packet fine = fine
  ack_fine app (closing name number got told) packet fine = fine

  unread_fine : (app : S) (transfer : Transfer) (fault : FoeFault) → P app → IsFine (takes_unread app transfer fault)
  unread_fine app transfer Short fine = fine
  unread_fine app transfer Opcode fine = fine
  unread_fine app transfer Name fine = fine

  takes_fine : (app : S) (transfer : Transfer) (f : Foe) → P app → IsFine (foe_takes o out back app transfer f)
  takes_fine app transfer (Read pass name) fine = opened_fine app (o.get app name.items) (o.allowed app name.items pass false) fine
  takes_fine app transfer (Write pass name) fine = begun_fine app name.items (o.allowed app name.items pass true) fine
  takes_fine app transfer (Data packet bytes) fine = data_fine app transfer packet bytes.items fine
  takes_fine app transfer (Ack packet) fine = ack_fine app transfer packet fine
  takes_fine app transfer (Error code) fine = fine
  takes_fine app transfer (Busy done entire) fine = fine

  outcome_fine : (app : S) (transfer : Transfer) (m : FoeMail) → P app → IsFine (foe_outcome o out back app transfer m)
  outcome_fine app transfer (mail f) fine = takes_fine app transfer f fine
  outcome_fine app transfer (unread fault) fine = unread_fine app transfer fault fine
  outcome_fine app transfer (failed detail) fine = fine
  outcome_fine app transfer (other body) fine = fine

  pub keeps : (v : Server S) (m : FoeMail) → P v.app → P (serve o out back v m).0.app
  keeps v m fine = outcome_fine v.app v.transfer m fine
