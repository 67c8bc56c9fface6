-- Any mail leaves files of which the laws speak.
use Rattle.std.proofs.Common.{◌≡◌, ℕ, ◌+◌, ◌==◌, ◌&&◌, nat_lt, Bool, true, false, List, ◌++◌, length, Option, None, Some, refl}
use Rattle.std.specs.Prelude.{if◌then◌else◌}
use Rattle.idn_table.specs.of_exchange_model.Areas.{Areas}
use Rattle.eoe_server.specs.of_protocol_models.FoeMails.{Foe, Read, Write, Data, Ack, Error, Busy, FoeFault, Short, Opcode, Name, FoeMail, mail, unread, failed, other}
use Rattle.eoe_server.specs.of_protocol_models.Files.{Files}
use Rattle.eoe_server.specs.of_protocol_models.FoeServer.{Transfer, idle, reading, writing, closing, Server, Outcome, foe_outcome, foe_takes, serve, opened, begun, closes, stores, takes_data, takes_ack, takes_unread, packet_room, is_last}
use Rattle.slave_parts.specs.FoeServed.{has_its_room, is_ready, StaysValid}

either : {X : Type 0} (P : X → Type 0) (b : Bool) (x y : X) → P x → P y → P (if b then x else y)
either P true x y p q = p
either P false x y p q = q

pub both : (a b : Bool) → a ≡ true → b ≡ true → (a && b) ≡ true
both true true p q = refl
both true false p q = absurd (cc)
both false b p q = absurd (cc)

pub left_of : (a b : Bool) → (a && b) ≡ true → a ≡ true
left_of true b e = refl
left_of false b e = absurd (cc)

pub right_of : (a b : Bool) → (a && b) ≡ true → b ≡ true
right_of true b e = e
right_of false b e = absurd (cc)

module _ {S : Type 0} (o : Files S) (stays : StaysValid o) (areas : Areas) where
  abbrev IsFine : Outcome S → Type 0
  IsFine x = (o.valid x.app && has_its_room o x.app x.transfer) ≡ true

  opened_fine : (app : S) (bytes : List ℕ) (found : Option ℕ) → o.valid app ≡ true → IsFine (opened areas.back app bytes found)
  opened_fine app bytes None fine = both (o.valid app) true fine refl
  opened_fine app bytes (Some code) fine = both (o.valid app) true fine refl

  begun_fine : (app : S) (name : List ℕ) (found : Option ℕ) → o.valid app ≡ true → IsFine (begun app name found)
  begun_fine app name None fine = both (o.valid app) true fine refl
  begun_fine app name (Some code) fine = both (o.valid app) true fine refl

  closes_fine : (app : S) (name : List ℕ) (number : ℕ) (got : List ℕ) (told : ℕ) → o.valid app ≡ true → o.has_room app (length got) ≡ true → IsFine (closes o app name number got told)
  closes_fine app name number got told fine room =
      either IsFine (nat_lt told (o.busy app name)) _ _ (both (o.valid app) (o.has_room app (length got)) fine room) (both (o.valid (o.put app name got)) true (stays.put app name got fine room) refl)

  stores_fine : (app : S) (name : List ℕ) (number : ℕ) (got part : List ℕ) → o.valid app ≡ true → IsFine (stores o areas.out app name number got part)
  stores_fine app name number got part fine = by (o.has_room app (length (got ++ part))) refl
    where
      by : (b : Bool) → o.has_room app (length (got ++ part)) ≡ b → IsFine (stores o areas.out app name number got part)
      by true room = rw room (either IsFine (is_last areas.out part) _ _ (closes_fine app name number (got ++ part) 0 fine room) (both (o.valid app) true fine refl))
      by false full = rw full (both (o.valid app) true fine refl)

  data_fine : (app : S) (transfer : Transfer) (packet : ℕ) (part : List ℕ) → o.valid app ≡ true → has_its_room o app transfer ≡ true → IsFine (takes_data o areas.out app transfer packet part)
  data_fine app idle packet part fine room = both (o.valid app) true fine refl
  data_fine app (reading number left) packet part fine room = both (o.valid app) true fine refl
  data_fine app (writing name number got) packet part fine room =
      either IsFine (packet == number + 1) _ _ (stores_fine app name packet got part fine) (both (o.valid app) true fine refl)
  data_fine app (closing name number got told) packet part fine room =
      either IsFine (packet == number) _ _ (closes_fine app name number got told fine room) (both (o.valid app) true fine refl)

  ack_fine : (app : S) (transfer : Transfer) (packet : ℕ) → o.valid app ≡ true → IsFine (takes_ack areas.back app transfer packet)
  ack_fine app idle packet fine = both (o.valid app) true fine refl
  ack_fine app (reading number left) packet fine =
      either IsFine (packet == number) _ _
      (either IsFine (nat_lt (length left) (packet_room areas.back)) _ _ (both (o.valid app) true fine refl) (both (o.valid app) true fine refl))
      (both (o.valid app) true fine refl)
  ack_fine app (writing name number got) packet fine = both (o.valid app) true fine refl
  ack_fine app (closing name number got told) packet fine = both (o.valid app) true fine refl

  unread_fine : (app : S) (transfer : Transfer) (fault : FoeFault) → (o.valid app && has_its_room o app transfer) ≡ true → IsFine (takes_unread app transfer fault)
  unread_fine app transfer Short fine = fine
  unread_fine app transfer Opcode fine = fine
  unread_fine app transfer Name fine = fine

  takes_fine : (app : S) (transfer : Transfer) (f : Foe) → o.valid app ≡ true → has_its_room o app transfer ≡ true → IsFine (foe_takes o areas.out areas.back app transfer f)
  takes_fine app transfer (Read pass name) fine room = opened_fine app _ _ fine
  takes_fine app transfer (Write pass name) fine room = begun_fine app _ _ fine
  takes_fine app transfer (Data packet bytes) fine room = data_fine app transfer packet bytes.items fine room
  takes_fine app transfer (Ack packet) fine room = ack_fine app transfer packet fine
  takes_fine app transfer (Error code) fine room = both (o.valid app) true fine refl
  takes_fine app transfer (Busy done entire) fine room = both (o.valid app) true fine refl

  outcome_fine : (app : S) (transfer : Transfer) (m : FoeMail) → (o.valid app && has_its_room o app transfer) ≡ true → IsFine (foe_outcome o areas.out areas.back app transfer m)
  outcome_fine app transfer (mail f) fine = takes_fine app transfer f (left_of (o.valid app) (has_its_room o app transfer) fine) (right_of (o.valid app) (has_its_room o app transfer) fine)
  outcome_fine app transfer (unread fault) fine = unread_fine app transfer fault fine
  outcome_fine app transfer (failed detail) fine = fine
  outcome_fine app transfer (other body) fine = fine

  pub passes : (v : Server S) (m : FoeMail) → is_ready o v ≡ true → is_ready o (serve o areas.out areas.back v m).0 ≡ true
  passes v m fine = outcome_fine v.app v.transfer m fine
