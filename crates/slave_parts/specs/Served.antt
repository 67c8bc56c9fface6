-- THE SERVICES OF ONE SLAVE FROM WHATEVER SERVER: its protocols over the whole server, with the unfinished transfers of each.
use Rattle.std.specs.Prelude.{◌≡◌, ℕ, ◌&&◌, Bool, true, length, List, []}
use Rattle.slave_model.specs.of_link_mails.Body.{Body}
use Rattle.idn_table.specs.of_exchange_model.Exchange.{Exchange}
use Rattle.idn_table.specs.of_exchange_model.Lifted.{lifted}
use Rattle.idn_table.specs.of_exchange_model.Sides.{Slave}
use Rattle.serving_model.specs.of_state_model.Families.{InState, in_states}
use Rattle.slave_parts.specs.Whole.{gated_whole}
use Rattle.slave_parts.specs.Sides.{joined_whole}
use Rattle.eoe_server.specs.of_protocol_models.CoeMails as CoeMails
use Rattle.eoe_server.specs.of_protocol_models.CoeOctets as CoeOctets
use Rattle.eoe_server.specs.of_protocol_models.FoeMails as FoeMails
use Rattle.eoe_server.specs.of_protocol_models.FoeOctets as FoeOctets
use Rattle.eoe_server.specs.of_protocol_models.SoeMails as SoeMails
use Rattle.eoe_server.specs.of_protocol_models.SoeOctets as SoeOctets
use Rattle.eoe_server.specs.of_protocol_models.EoeMails as EoeMails
use Rattle.eoe_server.specs.of_protocol_models.EoeOctets as EoeOctets
use Rattle.eoe_server.specs.of_protocol_models.Network.{Station}
use Rattle.slave_parts.specs.CoeServed.{coe_served}
use Rattle.slave_parts.specs.FoeServed.{foe_served, has_its_room}
use Rattle.slave_parts.specs.SoeServed.{soe_served}
use Rattle.slave_parts.specs.EoeServed.{eoe_served}
use Rattle.slave_model.specs.Profile.{Protocol, Profile, serves, areas_of}
use Rattle.slave_model.specs.Application.{Core, Parts, station_valid, station_tables, station_files, station_elements, network}
use Rattle.slave_model.specs.Server.{Server, Seat, seat, reseated, ServiceOf, Reply, heard_by, told_by}
use Rattle.slave_model.specs.Product.{refusal, emission, serve}

-- what is seen of a protocol's server in the middle of a service: the station
abbrev pub core_of : (T F I : Type 0) → (i : Protocol) → Seat T F I i → Station (Core T F I)
core_of T F I Protocol.CoE v = v.app
core_of T F I Protocol.FoE v = v.app
core_of T F I Protocol.SoE v = v.app
core_of T F I Protocol.EoE v = v.station

module _ {T F I : Type 0} (o : Parts T F I) (p : Profile) (al : ℕ) where
  -- each protocol, served, over the bodies of mails
  abbrev pub served_whole : (i : Protocol) → Exchange (Seat T F I i) (Seat T F I i) Body (ServiceOf i) Reply
  served_whole Protocol.CoE = lifted (coe_served (station_tables o p.back al) p.has_eoe (areas_of p)) (heard_by CoeOctets.coe_mail_heard (CoeMails.other [])) (told_by CoeOctets.coe_mail_written)
  served_whole Protocol.FoE = lifted (foe_served (station_files o al) (areas_of p)) (heard_by FoeOctets.foe_mail_heard (FoeMails.other [])) (told_by FoeOctets.foe_mail_written)
  served_whole Protocol.SoE = lifted (soe_served (station_elements o) (areas_of p)) (heard_by SoeOctets.soe_mail_heard (SoeMails.other [])) (told_by SoeOctets.soe_mail_written)
  served_whole Protocol.EoE = lifted (eoe_served (network o p) (areas_of p)) (heard_by EoeOctets.eoe_mail_heard (EoeMails.other [])) (told_by EoeOctets.eoe_mail_written)

  -- served, or refused
  abbrev pub side_whole : (i : Protocol) → Exchange (Seat T F I i) (Seat T F I i) Body (ServiceOf i) Reply
  side_whole i = gated_whole (serves p al i) (served_whole i) (refusal o p al i)

  -- the servers of which the laws speak: a file that is whole, and is kept back while it is busy, has room
  abbrev pub is_fine : Server T F I → Bool
  is_fine j = station_valid o j.app && has_its_room (station_files o 0) j.app j.file

  -- the slave that has all four
  abbrev pub slave_whole : Slave (Server T F I) (Station (Core T F I)) Body
  slave_whole = record { serve = serve o p al; app = λ j. j.app; handled = λ j. j.handled; emission = emission; ready = is_fine }

  -- its protocols as one exchange, whose application is the whole server
  abbrev pub protocols_whole : Exchange (Server T F I) (Server T F I) Body ((i : Protocol) × ServiceOf i) Reply
  protocols_whole = joined_whole slave_whole side_whole seat reseated

-- the one exchange of a session with one slave, in its AL state
abbrev pub product_whole : {T F I : Type 0} → Parts T F I → Profile → Exchange (InState (Server T F I)) (InState (Server T F I)) Body ((i : Protocol) × ServiceOf i) Reply
product_whole o p = in_states (protocols_whole o p)

-- what the files of a slave owe besides: a new version leaves files of which the laws speak, under whatever name it comes, and the free blocks are
-- the same in each AL state
pub record AreFilesServed {T F I : Type 0} (o : Parts T F I) : Type 0 where
  pub put : (al : ℕ) (f : F) (name bytes : List ℕ) → (o.files al).valid f ≡ true → (o.files al).has_room f (length bytes) ≡ true → (o.files al).valid ((o.files al).put f name bytes) ≡ true
  pub room : (al : ℕ) (f : F) (octets : ℕ) → (o.files al).has_room f octets ≡ (o.files 0).has_room f octets
