pub use Rattle.coe_codec.specs as of_coe_codec
pub use Rattle.coe_codec.specs.of_ec_fields as of_ec_fields
pub use Rattle.eoe.specs as of_eoe
pub use Rattle.exchange_model.specs as of_exchange_model
pub use Rattle.foe_codec.specs as of_foe_codec
pub use Rattle.mailbox_mail.specs as of_mailbox_mail
pub use Rattle.soe_codec.specs as of_soe_codec
pub mod CoeMails
pub mod Tables
pub mod CoeServer
pub mod CoeMeaning
pub mod CoeClient
pub mod CoeModel
pub mod CoeOctets
pub mod FoeMails
pub mod Files
pub mod FoeServer
pub mod FoeMeaning
pub mod FoeClient
pub mod FoeModel
pub mod FoeOctets
pub mod SoeMails
pub mod Elements
pub mod SoeServer
pub mod SoeClient
pub mod SoeModel
pub mod SoeOctets
pub mod EoeMails
pub mod Network
pub mod EoeServer
pub mod EoeClient
pub mod EoeModel
pub mod EoeOctets
pub mod Echo
