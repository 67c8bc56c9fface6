-- A slave's server over mailbox mails.
use Rattle.std.specs.Prelude.{ℕ, Ok, Err}
use Rattle.slave_model.specs.of_link_mails.Body.{Body}
use Rattle.slave_model.specs.of_mailbox_mail.Mail.{error_of}
use Rattle.slave_model.specs.of_mailbox_mail.declared.mail.Mail.{Mail}
use Rattle.slave_model.specs.of_exchange_model.Exchange.{Exchange}
use Rattle.slave_model.specs.of_exchange_model.Lifted.{lifted}
use Rattle.slave_model.specs.of_protocol_models.Network.{Station}
use Rattle.slave_model.specs.Profile.{Protocol, Profile}
use Rattle.slave_model.specs.Application.{Core, Parts}
use Rattle.slave_model.specs.Server.{Server, ServiceOf, Reply}
use Rattle.slave_model.specs.Product.{protocols}

-- the mail that a link carries; all that a slave gives read
abbrev pub mail_of : Body → Mail
mail_of (Ok m) = m
mail_of (Err fault) = error_of 0

-- a mail as a link carries it
abbrev pub body_of : Mail → Body
body_of m = Ok m

-- THE SLAVE'S EXCHANGE, in an AL state, over the mails that go through a gateway
abbrev pub slave_exchange : {T F I : Type 0} → Parts T F I → Profile → ℕ → Exchange (Server T F I) (Station (Core T F I)) Mail ((i : Protocol) × ServiceOf i) Reply
slave_exchange o p al = lifted (protocols o p al) body_of mail_of
