-- THE PACKETS THAT A SLAVE MAY SEND by a service of its master.
use Rattle.std.specs.Prelude.{◌≡◌, ℕ, ◌<◌, ◌≤◌, Bool, true, false, Option, Some, None, List, [], ◌∷◌, sum_by, Ok, Err}
use Rattle.packets_heard.specs.of_protocol_models.CoeServer.{Emission, emergency, packet}
use Rattle.packets_heard.specs.of_protocol_models.Network.{Station}
use Rattle.packets_heard.specs.of_link_mails.Body.{Body}
use Rattle.served_rings.specs.of_mailbox_mail.declared.mail.Kind.{Kind}
use Rattle.packets_heard.specs.of_master_hand.Brings.{as_list}
use Rattle.packets_heard.specs.of_master_hand.Joins.{fragment_in}
use Rattle.packets_heard.specs.of_master_hand.Spoken.{Asked, sdo, file, drive, net, passed}
use Rattle.packets_heard.specs.of_object_dictionary.Sound.{is_table}
use Rattle.packets_heard.specs.Packets.{Emitted, ArePackets, all_fragments, octets_of, parts}
use Rattle.served_rings.specs.of_few_replies.Shapes.{sdo_emission, net_echo}
use Rattle.served_rings.specs.of_slave_model.Profile.{Protocol, Profile}
use Rattle.served_rings.specs.of_slave_model.Server.{ServiceOf}
use Rattle.served_rings.specs.of_slave_parts.Parts.{Core}
use Rattle.packets_heard.specs.of_state_model.Stated.{Service}

-- of what a download emits: a packet
abbrev pub of_emission : Option Emission → List (List ℕ)
of_emission None = []
of_emission (Some (emergency octets)) = []
of_emission (Some (packet octets)) = octets ∷ []

-- by a service of a protocol: the packet that a download emits, or the one that goes back
abbrev pub may_send : Profile → (i : Protocol) → ServiceOf i → List (List ℕ)
may_send p Protocol.CoE q = of_emission (sdo_emission p q)
may_send p Protocol.FoE q = []
may_send p Protocol.SoE q = []
may_send p Protocol.EoE q = as_list (net_echo p q)

-- by what a master asks for; a mail that is passed on is no service of a plan
abbrev pub asked_sends : Profile → Asked → List (List ℕ)
asked_sends p (sdo q) = may_send p Protocol.CoE q
asked_sends p (file q) = may_send p Protocol.FoE q
asked_sends p (drive q) = may_send p Protocol.SoE q
asked_sends p (net q) = may_send p Protocol.EoE q
asked_sends p (passed m) = []

-- WHAT THEY WEIGH, by whatever each packet weighs
abbrev pub sends_most : (List ℕ → ℕ) → Profile → Service Asked → ℕ
sends_most weigh p (Service.Mails q) = sum_by weigh (asked_sends p q)
sends_most weigh p (Service.State target) = 0

-- of several services
abbrev pub all_most : (List ℕ → ℕ) → Profile → List (Service Asked) → ℕ
all_most weigh p qs = sum_by (sends_most weigh p) qs

-- a station whose objects are a table, and whose next packet has a frame number of 4 bits
pub record MaySend (s : Station Core) : Type 0 where
  pub table : is_table s.app.objects ≡ true
  pub frame : s.frame < 16

-- MAILS THAT A SLAVE SENDS OF ITSELF, through a mailbox of this length, have just all fragments of these packets, in order; each packet has 14 to 1,514 octets
pub record AreWhole (room : ℕ) (sent : List Body) (packets : List Emitted) : Type 0 where
  pub cut : parts fragment_in sent ≡ all_fragments room packets
  pub are : ArePackets packets

-- THERE ARE SUCH PACKETS, and they weigh no more than this
pub record Sends (weigh : List ℕ → ℕ) (room : ℕ) (mails : List Body) (most : ℕ) : Type 0 where
  pub packets : List Emitted
  pub whole : AreWhole room mails packets
  pub few : sum_by weigh (octets_of packets) ≤ most

-- a mail of EoE, by which a packet may come to a slave
abbrev pub of_network : Kind → Bool
of_network Kind.EoE = true
of_network kind = false

abbrev pub is_network : Body → Bool
is_network (Ok m) = of_network m.kind
is_network (Err fault) = false
