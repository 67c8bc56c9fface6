-- WHAT A SERVICE TAKES AT A SLAVE, by its protocol.
use Rattle.std.specs.Prelude.{ℕ, ◌+◌, ◌*◌, length}
use Rattle.slave_parts.specs.of_protocol_models.CoeMeaning as CoeMeaning
use Rattle.slave_parts.specs.of_protocol_models.EoeClient as EoeClient
use Rattle.slave_parts.specs.of_protocol_models.Network.{Station}
use Rattle.few_replies.specs.Counts.{mails_within, coe_octets, foe_octets, foe_busy, soe_octets, eoe_mails}
use Rattle.slave_parts.specs.of_slave_model.Application.{Core, Parts, station_tables, station_files, station_elements, network}
use Rattle.slave_parts.specs.of_slave_model.Profile.{Protocol, Profile, areas_of}
use Rattle.slave_parts.specs.of_slave_model.Server.{ServiceOf}

-- the mails of a service at most, of a slave with these parts in this AL state, on this application
abbrev pub service_most : {T F I : Type 0} → Parts T F I → Profile → ℕ → Station (Core T F I) → (i : Protocol) → ServiceOf i → ℕ
service_most o p al app Protocol.CoE q = let tables = station_tables o p.back al in mails_within (areas_of p) (coe_octets tables app q) + length (CoeMeaning.meaning_of tables p.has_eoe app q).emits
service_most o p al app Protocol.FoE q = mails_within (areas_of p) (foe_octets (station_files o al) app q) + 2 * foe_busy (station_files o al) app q
service_most o p al app Protocol.SoE q = mails_within (areas_of p) (soe_octets (station_elements o) app q)
service_most o p al app Protocol.EoE q = eoe_mails q + length (EoeClient.meaning_of (network o p) p.back app q).emits
