-- What an EoE server does over a slave's addresses is what it does over the station.
use Rattle.std.proofs.Common.{◌≡◌, ℕ, ◌-◌, ◌&&◌, nat_le, Bool, true, false, List, length, Option, Some, None, refl}
use Rattle.std.specs.Prelude.{if◌then◌else◌}
use Rattle.eoe_server.specs.of_eoe.declared.joining.Joined.{Joined}
use Rattle.eoe_server.specs.of_eoe.declared.joining.Joined.TheVariants.{More, Whole, Dropped}
use Rattle.eoe_server.specs.of_eoe.declared.joining.Unfinished.{Unfinished}
use Rattle.eoe_server.specs.of_eoe.Joining.{taken}
use Rattle.eoe_server.specs.of_eoe.Address.{is_block}
use Rattle.eoe_server.specs.of_protocol_models.Echo.{echo_of}
use Rattle.eoe_server.specs.of_protocol_models.EoeMails as Mails
use Rattle.eoe_server.specs.of_protocol_models.Network.{Station}
use Rattle.eoe_server.specs.of_protocol_models.EoeServer as Eoe
use Rattle.eoe_server.specs.declared.Addresses.{Addresses}
use Rattle.eoe_server.specs.Serving.{addresses_network}
use Rattle.slave_model.specs.Profile.{Profile}
use Rattle.slave_model.specs.Application.{Core, Parts, network}

-- of two ways, each seen through f
either : {X Y : Type 0} (f : X → Y) (b : Bool) {x y : X} {u v : Y} → u ≡ f x → v ≡ f y → (if b then u else v) ≡ f (if b then x else y)
either f true e k = e
either f false e k = k

-- a profile with this slave's addresses, and its application with their block
abbrev pub addressed : Profile → Addresses → Profile
addressed p a = record p { fixed_ip = a.fixed; mac = a.mac.items }

module _ {T F I : Type 0} (o : Parts T F I) (p : Profile) (core : Core T F I) (a : Addresses) (room frame : ℕ) where
  abbrev pub here : Station (Core T F I)
  here = record { app = record core { block = a.block.items }; frame = frame }

  abbrev there : Station Addresses
  there = record { app = a; frame = frame }

  abbrev pub eoe_seen : Eoe.Outcome Addresses → Eoe.Outcome (Core T F I)
  eoe_seen x = record { station = record { app = record core { block = x.station.app.block.items }; frame = x.station.frame }; unfinished = x.unfinished; counts = x.counts; gives = x.gives }

  sent_by : (last : Bool) (unfinished : Option Unfinished) (r : Option (List ℕ)) →
      (let d = Eoe.sends room frame (here.app, r) in let x : Eoe.Outcome (Core T F I) = record { station = d.0; unfinished = unfinished; counts = last; gives = d.1 } in x)
      ≡ (let d = Eoe.sends room frame (a, r) in eoe_seen (record { station = d.0; unfinished = unfinished; counts = last; gives = d.1 }))
  sent_by last unfinished None = refl
  sent_by last unfinished (Some octets) = refl

  joined_by : (last : Bool) (unfinished : Option Unfinished) (j : Joined) → Eoe.joined (network o (addressed p a)) room here last unfinished j ≡ eoe_seen (Eoe.joined addresses_network room there last unfinished j)
  joined_by last unfinished More = refl
  joined_by last unfinished (Whole packet) = sent_by last unfinished (echo_of a.mac.items packet.items)
  joined_by last unfinished Dropped = refl

  set_by : (unfinished : Option Unfinished) (block : List ℕ) (b fixed : Bool) →
      Eoe.set_answer here unfinished (if b then (if fixed then None else Some (record here.app { block = block })) else None)
      ≡ eoe_seen (Eoe.set_answer there unfinished (if b then (if fixed then None else Some (record a { block = record { items = block } })) else None))
  set_by unfinished block true true = refl
  set_by unfinished block true false = refl
  set_by unfinished block false fixed = refl

  takes_by : (unfinished : Option Unfinished) (m : Mails.Eoe) → Eoe.eoe_takes (network o (addressed p a)) room here unfinished m ≡ eoe_seen (Eoe.eoe_takes addresses_network room there unfinished m)
  takes_by unfinished (Mails.Part f) = joined_by f.last (taken unfinished f).unfinished (taken unfinished f).joined
  takes_by unfinished (Mails.SetIp block) = set_by unfinished block.items (is_block block.items && nat_le (length block.items) (room - 10)) a.fixed
  takes_by unfinished Mails.GetIp = refl
  takes_by unfinished (Mails.SetIpAnswer result_code) = refl
  takes_by unfinished (Mails.GetIpAnswer result_code block) = refl

  unread_by : (unfinished : Option Unfinished) (fault : Mails.EoeFault) (kind : ℕ) → Eoe.takes_unread here unfinished fault kind ≡ eoe_seen (Eoe.takes_unread there unfinished fault kind)
  unread_by unfinished Mails.Short kind = refl
  unread_by unfinished Mails.WrongType kind = refl
  unread_by unfinished Mails.Offset kind = refl

  pub eoe_parted : (unfinished : Option Unfinished) (m : Mails.EoeMail) → Eoe.eoe_outcome (network o (addressed p a)) room here unfinished m ≡ eoe_seen (Eoe.eoe_outcome addresses_network room there unfinished m)
  eoe_parted unfinished (Mails.mail m) = takes_by unfinished m
  eoe_parted unfinished (Mails.unread fault kind) = unread_by unfinished fault kind
  eoe_parted unfinished (Mails.unsupported kind) = refl
  eoe_parted unfinished (Mails.failed detail) = refl
  eoe_parted unfinished (Mails.other body) = refl
