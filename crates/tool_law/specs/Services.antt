-- The services that a client over a gateway carries out, as their protocols have them.
use Rattle.std.specs.Prelude.{◌≡◌, ◌≢◌, ℕ, true, List}
use Rattle.arrayvec.specs.ArrayVec.{ArrayVec}
use Rattle.gateway_tool.specs.of_object_dictionary.declared.service.SdoService.{SdoService}
use Rattle.gateway_tool.specs.of_segment_plan.declared.service.Service.{Service as Asked}
use Rattle.gateway_tool.specs.of_coe_client.Talk.{service_view}
use Rattle.slave_model.specs.of_protocol_models.Tables.{Ask}
use Rattle.slave_model.specs.of_protocol_models.CoeMeaning.{information}
use Rattle.slave_model.specs.of_protocol_models.CoeModel.{is_service}
use Rattle.slave_model.specs.of_protocol_models.FoeMeaning.{Service, read, write}

-- a download or an upload, with its numbers and octets within their fields
pub record IsEntry (s : SdoService) : Type 0 where
  pub valid : is_service (service_view s) ≡ true
  pub sdo : (a : Ask) → service_view s ≢ information a

-- a file that is read or written
pub data IsFile : Asked → Service → Type 0 where
  reads : (name : ArrayVec ℕ) (pass : ℕ) → IsFile (Asked.ReadFile name pass) (read name.items pass)
  writes : (name : ArrayVec ℕ) (pass : ℕ) (bytes : List ℕ) → IsFile (Asked.WriteFile name pass bytes) (write name.items pass bytes)
