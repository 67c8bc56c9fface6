-- CoE services from whatever server, with an unfinished transfer or without one.
use Rattle.std.proofs.Common.{◌≡◌, suc, Bool, true, length, refl, sym, ◌∙◌, ap, arith}
use Rattle.idn_table.specs.of_exchange_model.Areas.{Areas, AreMailboxes}
use Rattle.idn_table.specs.of_exchange_model.Exchange.{after}
use Rattle.eoe_server.specs.of_protocol_models.Tables.{Tables, AreLawful}
use Rattle.eoe_server.specs.of_protocol_models.CoeServer.{Server, serve}
use Rattle.eoe_server.specs.of_protocol_models.CoeMeaning.{Service, download, upload, information}
use Rattle.eoe_server.specs.of_protocol_models.CoeModel.{turns, full, value_length, coe_exchange}
use Rattle.idn_table.proofs.of_protocol_models.CoeLaw.{coe_law}
use Rattle.serving_model.specs.Tagged.{IsServed}
use Rattle.slave_parts.proofs.WholeLaw.{whole_served}
use Rattle.slave_parts.specs.CoeServed.{transfer_behind, server_behind, coe_served, tables_of}
use Rattle.slave_parts.proofs.Transfers.{download_left, upload_left, information_left}
use Rattle.slave_parts.proofs.Keeping.{keeps}

module _ {S : Type 0} (o : Tables S) (law : AreLawful o) (eoe : Bool) (areas : Areas) (sized : AreMailboxes areas) where
  left_behind : (v : Server S) (q : Service) → (after (serve o eoe areas.back) v (full o eoe areas v q)).transfer ≡ transfer_behind v.transfer q
  left_behind v (download t bytes) = download_left o eoe areas (suc (suc (length bytes))) v t bytes (let least = sized.out_least in omega arith) (omega arith)
  left_behind v (upload t) = upload_left o eoe areas (turns o v.app (upload t)) (suc (suc (value_length (o.upload v.app t)))) v t (o.upload v.app t) refl (let least = sized.back_least in omega arith) (omega arith) (omega arith)
  left_behind v (information a) = information_left o eoe areas 2 v a

  whole : (v : Server S) (q : Service) → o.valid v.app ≡ true → (coe_exchange o eoe areas).speech.valid q ≡ true → after (serve o eoe areas.back) v (full o eoe areas v q) ≡ server_behind o eoe v q
  whole v q ready valid =
      let k = (coe_law o law eoe areas sized).whole v q ready valid in
      let t = left_behind v q in
      λ i. record { app = k.app i; handled = k.handled i; transfer = t i }

  pub coe_is_served : IsServed (coe_served o eoe areas) tables_of
  coe_is_served = whole_served (coe_exchange o eoe areas) (λ v. o.valid v.app) (server_behind o eoe) (coe_law o law eoe areas sized)
      (record {
        lawful = λ v fine. fine;
        again = λ v q fine valid. ap o.valid (sym ((coe_law o law eoe areas sized).whole v q fine valid).app) ∙ (coe_law o law eoe areas sized).ready v q fine valid;
        passes = λ v m fine. keeps o eoe areas (λ app. o.valid app ≡ true) (λ app changed t bytes fine is. law.stays app changed t bytes fine is) law.stays_cut v m fine;
        whole = whole;
      })
