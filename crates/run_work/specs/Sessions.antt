-- THE SESSION OF A PLAN'S SLAVE WITH SERVICES AND FAIR MAILS that are passed on, in which it is seen what is meant by each mail.
use Rattle.std.specs.Prelude.{Option, Ok, Err}
use Rattle.life_counts.specs.of_exchange_model.Exchange.{Exchange}
use Rattle.life_counts.specs.of_link_mails.Body.{Body}
use Rattle.gateway_core.specs.of_mailbox_mail.Mail.{error_of}
use Rattle.life_counts.specs.of_master_hand.Spoken as Spoken
use Rattle.life_counts.specs.of_few_replies.Calm.{calm_tagged}
use Rattle.life_counts.specs.of_serving_model.Tagged.{Tagged, Asked, Rowed}
use Rattle.life_counts.specs.of_serving_model.TaggedStates.{tagged_states}
use Rattle.life_counts.specs.of_few_replies.Packets.{is_calm, is_fair}
use Rattle.life_counts.specs.of_slave_model.Acknowledged.{acknowledged}
use Rattle.life_counts.specs.of_slave_model.Profile.{Protocol, Profile}
use Rattle.life_counts.specs.of_slave_model.Server.{ServiceOf, Reply}
use Rattle.plan_ring.specs.of_slave_parts.Parts.{Server, parts}
use Rattle.plan_ring.specs.of_slave_parts.Served.{product_whole}
use Rattle.life_counts.specs.of_state_model.Families.{InState, states_of}
use Rattle.life_counts.specs.of_state_model.Stated.{Stated}

-- a service of one of the protocols
abbrev pub OwnService : Type 0
OwnService = (i : Protocol) × ServiceOf i

-- a service, or a mail that is passed on
abbrev pub Wanted : Type 0
Wanted = Asked Body OwnService

-- a mail, with what is meant by it
abbrev pub Meant : Type 0
Meant = Tagged Body OwnService

-- the server in a row
abbrev pub InRow : Type 0
InRow = Rowed (InState Server) Body OwnService

-- both as one exchange
abbrev pub session : Profile → Exchange InRow (InState Server) Meant Wanted (Option Reply)
session p = calm_tagged (product_whole parts p) is_calm is_fair

-- and its AL state
abbrev pub session_states : Profile → Stated InRow (InState Server) Wanted
session_states p = tagged_states (product_whole parts p) (states_of {V = Server} {A = Server} acknowledged)

-- a service by the name that a master has for it
abbrev pub named : (i : Protocol) → ServiceOf i → Spoken.Asked
named Protocol.CoE q = Spoken.sdo q
named Protocol.FoE q = Spoken.file q
named Protocol.SoE q = Spoken.drive q
named Protocol.EoE q = Spoken.net q

-- a mail that is passed on: a master passes on what reads as one
abbrev pub named_mail : Body → Spoken.Asked
named_mail (Ok m) = Spoken.passed m
named_mail (Err fault) = Spoken.passed (error_of 0)

-- either; whether a mail is answered its master doesn't foresee
abbrev pub named_wanted : Wanted → Spoken.Asked
named_wanted (Asked.Script q) = named q.0 q.1
named_wanted (Asked.Passed m answers) = named_mail m
