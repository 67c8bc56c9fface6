-- A MAIL OF FoE is counted, or leaves the files: a new version replaces its file by the mail that ends its service.
use Rattle.std.proofs.Common.{◌≡◌, ◌⊎◌, inl, inr, ℕ, ◌+◌, true, false, not, nat_lt, List, ◌++◌, length, Option, None, Some, refl}
use Rattle.std.specs.Prelude.{◌==◌}
use Rattle.seen_slaves.proofs.Choices.{either}
use Rattle.idle_slaves.specs.of_protocol_models.FoeMails.{Foe, Read, Write, Data, Ack, Error, Busy, FoeFault, Short, Opcode, Name, FoeMail, mail, unread, failed, other}
use Rattle.idle_slaves.specs.of_protocol_models.Files.{Files}
use Rattle.idle_slaves.specs.of_protocol_models.FoeServer.{Transfer, idle, reading, writing, closing, Outcome, packet_room, is_last, opened, begun, closes, stores, takes_data, continues, takes_ack, takes_unread, foe_takes, foe_outcome}

module _ {S : Type 0} (o : Files S) (out back : ℕ) where
  -- counted, or the files are these
  abbrev Quiet : S → Outcome S → Type 0
  Quiet app x = (x.counts ≡ true) ⊎ (x.app ≡ app)

  opened_quiet : (app : S) (bytes : List ℕ) (r : Option ℕ) → Quiet app (opened back app bytes r)
  opened_quiet app bytes None = inl refl
  opened_quiet app bytes (Some code) = inl refl

  begun_quiet : (app : S) (name : List ℕ) (r : Option ℕ) → Quiet app (begun app name r)
  begun_quiet app name None = inr refl
  begun_quiet app name (Some code) = inl refl

  closes_quiet : (app : S) (name : List ℕ) (number : ℕ) (got : List ℕ) (told : ℕ) → Quiet app (closes o app name number got told)
  closes_quiet app name number got told = either (Quiet app) (nat_lt told (o.busy app name)) _ _ (inr refl) (inl refl)

  stores_quiet : (app : S) (name : List ℕ) (number : ℕ) (got part : List ℕ) → Quiet app (stores o out app name number got part)
  stores_quiet app name number got part =
      either (Quiet app) (not (o.has_room app (length (got ++ part)))) _ _ (inl refl) (either (Quiet app) (is_last out part) _ _ (closes_quiet app name number (got ++ part) 0) (inr refl))

  data_quiet : (app : S) (transfer : Transfer) (packet : ℕ) (part : List ℕ) → Quiet app (takes_data o out app transfer packet part)
  data_quiet app idle packet part = inl refl
  data_quiet app (reading number left) packet part = inl refl
  data_quiet app (writing name number got) packet part = either (Quiet app) (packet == number + 1) _ _ (stores_quiet app name packet got part) (inl refl)
  data_quiet app (closing name number got told) packet part = either (Quiet app) (packet == number) _ _ (closes_quiet app name number got told) (inl refl)

  continues_quiet : (app : S) (number : ℕ) (left : List ℕ) → Quiet app (continues back app number left)
  continues_quiet app number left = either (Quiet app) (nat_lt (length left) (packet_room back)) _ _ (inr refl) (inr refl)

  ack_quiet : (app : S) (transfer : Transfer) (packet : ℕ) → Quiet app (takes_ack back app transfer packet)
  ack_quiet app idle packet = inl refl
  ack_quiet app (reading number left) packet = either (Quiet app) (packet == number) _ _ (continues_quiet app number left) (inr refl)
  ack_quiet app (writing name number got) packet = inl refl
  ack_quiet app (closing name number got told) packet = inl refl

  unread_quiet : (app : S) (transfer : Transfer) (fault : FoeFault) → Quiet app (takes_unread app transfer fault)
  unread_quiet app transfer Short = inl refl
  unread_quiet app transfer Opcode = inl refl
  unread_quiet app transfer Name = inl refl

  takes_quiet : (app : S) (transfer : Transfer) (f : Foe) → Quiet app (foe_takes o out back app transfer f)
  takes_quiet app transfer (Read pass name) = opened_quiet app (o.get app name.items) (o.allowed app name.items pass false)
  takes_quiet app transfer (Write pass name) = begun_quiet app name.items (o.allowed app name.items pass true)
  takes_quiet app transfer (Data packet bytes) = data_quiet app transfer packet bytes.items
  takes_quiet app transfer (Ack packet) = ack_quiet app transfer packet
  takes_quiet app transfer (Error code) = inr refl
  takes_quiet app transfer (Busy done entire) = inl refl

  -- whatever comes
  pub foe_quiet : (app : S) (transfer : Transfer) (m : FoeMail) → Quiet app (foe_outcome o out back app transfer m)
  foe_quiet app transfer (mail f) = takes_quiet app transfer f
  foe_quiet app transfer (unread fault) = unread_quiet app transfer fault
  foe_quiet app transfer (failed detail) = inr refl
  foe_quiet app transfer (other body) = inr refl
