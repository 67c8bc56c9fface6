-- WHAT A SERVER OF FOE gives has room, and leaves what its files are: a file is put in place only where its write was allowed, and it has room.
use Rattle.std.proofs.Common.{◌≡◌, ℕ, ◌+◌, ◌-◌, ◌≤◌, ◌==◌, not, nat_lt, Bool, true, false, List, ◌++◌, map, length, take, drop, Option, Some, None, refl, arith}
use Rattle.std.specs.Prelude.{if◌then◌else◌, ⊤}
use Rattle.slave_server.specs.of_foe_codec.Message.{foe_text}
use Rattle.slave_server.specs.of_protocol_models.Files.{Files}
use Rattle.slave_server.specs.of_protocol_models.FoeMails.{Foe, Read, Write, Data, Ack, Error, Busy, Short, Opcode, Name, FoeMail, mail, unread, failed, other}
use Rattle.slave_server.specs.of_protocol_models.FoeServer.{Transfer, idle, reading, writing, closing, Outcome, ended, goes_on, silent, refusal, ack, packet_room, packet_of, is_last, opened, takes_read, begun, takes_write, closes, stores, takes_data, takes_ack, foe_takes, foe_outcome}
use Rattle.slave_server.specs.of_protocol_models.FoeOctets.{foe_mail_written}
use Rattle.whole_ring.specs.of_slave_lives.Nodes.{IsPlaced}
use Rattle.plan_ring.specs.Rooms.{AllPlaced}
use Rattle.plan_ring.proofs.Rooms.{body_placed, error_placed, take_few}

-- the file under way
abbrev pub GoingBy : {S : Type 0} → Files S → (S → List ℕ → Type 0) → S → Transfer → Type 0
GoingBy o May s idle = ⊤
GoingBy o May s (reading number left) = ⊤
GoingBy o May s (writing name number got) = May s name
GoingBy o May s (closing name number got told) = May s name × (o.has_room s (length got) ≡ true)

module _ {S : Type 0} (o : Files S) (Is : S → Type 0) (May : S → List ℕ → Type 0) (allows : (s : S) (name : List ℕ) (pass : ℕ) → Is s → o.allowed s name pass true ≡ None → May s name)
    (stays : (s : S) (name bytes : List ℕ) → Is s → May s name → o.has_room s (length bytes) ≡ true → Is (o.put s name bytes)) (out back : ℕ) (least : 64 ≤ back) (most : back ≤ 1486) where
  abbrev Going : S → Transfer → Type 0
  Going s tr = GoingBy o May s tr

  pub record Good (x : Outcome S) : Type 0 where
    pub answers : AllPlaced back (map foe_mail_written x.answers)
    pub app : Is x.app
    pub going : Going x.app x.transfer

  placed : (m : Foe) → length (foe_text m) + 6 ≤ back → IsPlaced back (foe_mail_written (mail m))
  placed m few = body_placed back least most _ _ few

  refuses : (app : S) (tr : Transfer) (code : ℕ) → Is app → Going app tr → Good (ended app tr (refusal code))
  refuses app tr code is going = record { answers = (placed (Error code) (omega (arith, least)), tt); app = is; going = going }

  fails : (app : S) (tr : Transfer) (detail : ℕ) → Is app → Going app tr → Good (ended app tr (failed detail))
  fails app tr detail is going = record { answers = (error_placed back least most detail, tt); app = is; going = going }

  quiet : (app : S) (tr : Transfer) → Is app → Going app tr → Good (silent app tr)
  quiet app tr is going = record { answers = tt; app = is; going = going }

  acked : (number : ℕ) → IsPlaced back (foe_mail_written (ack number))
  acked number = placed (Ack number) (omega (arith, least))

  packed : (number : ℕ) (left : List ℕ) → IsPlaced back (foe_mail_written (packet_of back number left))
  packed number left = placed (Data number (record { items = take (packet_room back) left })) (let few = take_few (back - 12) left in omega (arith, few, least))

  read : (app : S) (name : List ℕ) (pass : ℕ) → Is app → Good (takes_read o back app name pass)
  read app name pass is = go (o.allowed app name pass false)
    where
      go : (r : Option ℕ) → Good (opened back app (o.get app name) r)
      go None = record { answers = (packed 1 (o.get app name), tt); app = is; going = tt }
      go (Some code) = refuses app idle code is tt

  write : (app : S) (name : List ℕ) (pass : ℕ) → Is app → Good (takes_write o app name pass)
  write app name pass is = go (o.allowed app name pass true) refl
    where
      go : (r : Option ℕ) → o.allowed app name pass true ≡ r → Good (begun app name r)
      go None e = record { answers = (acked 0, tt); app = is; going = allows app name pass is e }
      go (Some code) e = refuses app idle code is tt

  close : (app : S) (name : List ℕ) (number : ℕ) (got : List ℕ) (told : ℕ) → Is app → May app name → o.has_room app (length got) ≡ true → Good (closes o app name number got told)
  close app name number got told is may room = go (nat_lt told (o.busy app name))
    where
      go : (b : Bool) → Good (if b then goes_on app (closing name number got (told + 1)) (mail (Busy told (o.busy app name))) else ended (o.put app name got) idle (ack number))
      go true = record { answers = (placed (Busy told (o.busy app name)) (omega (arith, least)), tt); app = is; going = (may, room) }
      go false = record { answers = (acked number, tt); app = stays app name got is may room; going = tt }

  is_not : (b : Bool) → not b ≡ false → b ≡ true
  is_not true e = refl
  is_not false e = absurd (cc)

  store : (app : S) (name : List ℕ) (number : ℕ) (got part : List ℕ) → Is app → May app name → Good (stores o out app name number got part)
  store app name number got part is may = go (not (o.has_room app (length (got ++ part)))) refl (is_last out part)
    where
      go : (a : Bool) → not (o.has_room app (length (got ++ part))) ≡ a → (b : Bool) → Good (if a then ended app idle (refusal 0x8003) else if b then closes o app name number (got ++ part) 0 else goes_on app (writing name number (got ++ part)) (ack number))
      go true e b = refuses app idle _ is tt
      go false e true = close app name number (got ++ part) 0 is may (is_not (o.has_room app (length (got ++ part))) e)
      go false e false = record { answers = (acked number, tt); app = is; going = may }

  data_ : (app : S) (tr : Transfer) (packet : ℕ) (part : List ℕ) → Is app → Going app tr → Good (takes_data o out app tr packet part)
  data_ app idle packet part is going = refuses app idle _ is tt
  data_ app (reading number left) packet part is going = refuses app idle _ is tt
  data_ app (writing name number got) packet part is going = go (packet == number + 1)
    where
      go : (b : Bool) → Good (if b then stores o out app name packet got part else ended app idle (refusal 0x8005))
      go true = store app name packet got part is going
      go false = refuses app idle _ is tt
  data_ app (closing name number got told) packet part is going = go (packet == number)
    where
      go : (b : Bool) → Good (if b then closes o app name number got told else ended app idle (refusal 0x8005))
      go true = close app name number got told is going.0 going.1
      go false = refuses app idle _ is tt

  acks : (app : S) (tr : Transfer) (packet : ℕ) → Is app → Good (takes_ack back app tr packet)
  acks app idle packet is = refuses app idle _ is tt
  acks app (writing name number got) packet is = refuses app idle _ is tt
  acks app (closing name number got told) packet is = refuses app idle _ is tt
  acks app (reading number left) packet is = go (packet == number) (nat_lt (length left) (packet_room back))
    where
      go : (a b : Bool) → Good (if a then (if b then silent app idle else goes_on app (reading (number + 1) (drop (packet_room back) left)) (packet_of back (number + 1) (drop (packet_room back) left))) else goes_on app idle (refusal 0x8005))
      go true true = quiet app idle is tt
      go true false = record { answers = (packed (number + 1) (drop (packet_room back) left), tt); app = is; going = tt }
      go false b = record { answers = (placed (Error 0x8005) (omega (arith, least)), tt); app = is; going = tt }

  takes : (app : S) (tr : Transfer) (m : Foe) → Is app → Going app tr → Good (foe_takes o out back app tr m)
  takes app tr (Read pass name) is going = read app name.items pass is
  takes app tr (Write pass name) is going = write app name.items pass is
  takes app tr (Data packet bytes) is going = data_ app tr packet bytes.items is going
  takes app tr (Ack packet) is going = acks app tr packet is
  takes app tr (Error code) is going = quiet app idle is tt
  takes app tr (Busy done entire) is going = refuses app idle _ is tt

  pub outcome : (app : S) (tr : Transfer) (m : FoeMail) → Is app → Going app tr → Good (foe_outcome o out back app tr m)
  outcome app tr (mail m) is going = takes app tr m is going
  outcome app tr (unread Short) is going = fails app tr 6 is going
  outcome app tr (unread Opcode) is going = refuses app tr _ is going
  outcome app tr (unread Name) is going = refuses app tr _ is going
  outcome app tr (failed detail) is going = quiet app tr is going
  outcome app tr (other body) is going = quiet app tr is going
