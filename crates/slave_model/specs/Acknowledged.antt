-- Which services end with an acknowledgement: reads of files.
use Rattle.std.specs.Prelude.{Bool, false}
pub use Rattle.protocol_models.specs.FoeMeaning.{is_file_read}
use Rattle.slave_model.specs.Profile.{Protocol}
use Rattle.slave_model.specs.Server.{ServiceOf}

-- a client sends a mail behind the last one that is heard
abbrev pub acknowledges : (i : Protocol) → ServiceOf i → Bool
acknowledges Protocol.CoE q = false
acknowledges Protocol.FoE q = is_file_read q
acknowledges Protocol.SoE q = false
acknowledges Protocol.EoE q = false

-- the same of a service of any protocol
abbrev pub acknowledged : (i : Protocol) × ServiceOf i → Bool
acknowledged q = acknowledges q.0 q.1
