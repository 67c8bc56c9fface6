-- FoE services from whatever server, with an unfinished transfer or without one.
use Rattle.std.proofs.Common.{◌≡◌, suc, ◌+◌, true, false, length, refl, sym, ◌∙◌, ap, arith}
use Rattle.idn_table.specs.of_exchange_model.Areas.{Areas, AreMailboxes}
use Rattle.idn_table.specs.of_exchange_model.Exchange.{after}
use Rattle.eoe_server.specs.of_protocol_models.Files.{Files, AreLawful}
use Rattle.eoe_server.specs.of_protocol_models.FoeServer.{Server, serve}
use Rattle.eoe_server.specs.of_protocol_models.FoeMeaning.{Service, read, write, meaning_of}
use Rattle.eoe_server.specs.of_protocol_models.FoeModel.{turns, full, read_length, foe_exchange}
use Rattle.idn_table.proofs.of_protocol_models.FoeLaw.{foe_law}
use Rattle.serving_model.specs.Tagged.{IsServed}
use Rattle.slave_parts.proofs.WholeLaw.{whole_served}
use Rattle.slave_parts.specs.FoeServed.{has_its_room, is_ready, server_behind, foe_served, files_of, StaysValid}
use Rattle.slave_parts.proofs.FoeTransfers.{read_left, write_left}
use Rattle.slave_parts.proofs.Passes.{passes, both, left_of}

module _ {S : Type 0} (o : Files S) (law : AreLawful o) (stays : StaysValid o) (areas : Areas) (sized : AreMailboxes areas) where
  left_behind : (v : Server S) (q : Service) → (after (serve o areas.out areas.back) v (full o areas v q)).transfer ≡ (server_behind o v q).transfer
  left_behind v (read name pass) = read_left o areas (turns o v.app (read name pass)) (suc (suc (read_length (o.allowed v.app name pass false) (o.get v.app name)))) v name pass (o.allowed v.app name pass false) refl
      (let least = sized.back_least in omega arith) (omega arith) (omega arith)
  left_behind v (write name pass bytes) = write_left o areas (suc (suc (length bytes + o.busy v.app name))) v name pass bytes (o.allowed v.app name pass true) refl (let least = sized.out_least in omega arith) (omega arith)

  is_valid : (v : Server S) → is_ready o v ≡ true → o.valid v.app ≡ true
  is_valid v fine = left_of (o.valid v.app) (has_its_room o v.app v.transfer) fine

  whole : (v : Server S) (q : Service) → is_ready o v ≡ true → (foe_exchange o areas).speech.valid q ≡ true → after (serve o areas.out areas.back) v (full o areas v q) ≡ server_behind o v q
  whole v q fine valid =
      let k = (foe_law o law areas sized).whole v q (is_valid v fine) valid in
      let t = left_behind v q in
      λ i. record { app = k.app i; handled = k.handled i; transfer = t i }

  again : (v : Server S) (q : Service) → is_ready o v ≡ true → (foe_exchange o areas).speech.valid q ≡ true → is_ready o (server_behind o v q) ≡ true
  again v q fine valid =
      let k = (foe_law o law areas sized).whole v q (is_valid v fine) valid in
      let r = (foe_law o law areas sized).ready v q (is_valid v fine) valid in
      both (o.valid (meaning_of o v.app q).app) true (ap o.valid (sym k.app) ∙ r) refl

  pub foe_is_served : IsServed (foe_served o areas) files_of
  foe_is_served = whole_served (foe_exchange o areas) (is_ready o) (server_behind o) (foe_law o law areas sized)
      (record { lawful = is_valid; again = again; passes = passes o stays areas; whole = whole })
