-- Which mails make a slave send a packet of itself, and which slaves are about to.
use Rattle.std.specs.Prelude.{not, Bool}
use Rattle.slave_parts.specs.of_link_mails.Body.{Body}
use Rattle.slave_parts.specs.of_slave_model.Server.{Server}
use Rattle.slave_parts.specs.of_state_model.Families.{InState}
use Rattle.few_replies.specs.Most.{begins_packet, is_packet_free}

-- A CALM SLAVE, in whatever AL state: no download to the entry 2F01:01 is unfinished
abbrev pub is_calm : {T F I : Type 0} → InState (Server T F I) → Bool
is_calm v = is_packet_free v.inner

-- A FAIR MAIL begins none
abbrev pub is_fair : Body → Bool
is_fair b = not (begins_packet b)
