-- THE PRODUCT: CoE, FoE, SoE and EoE of one slave over one application, at each AL state, as one exchange.
use Rattle.std.specs.Prelude.{ℕ, suc, ◌&&◌, Bool, is_none, List, [], ◌∷◌, map, take, Option, Some, None, Ok, Err}
use Rattle.link_mails.specs.of_mailbox_mail.declared.mail.MailFault.TheVariants.{UnknownKind}
use Rattle.link_mails.specs.of_mailbox_mail.declared.mail.Kind.{Kind}
use Rattle.link_mails.specs.of_mailbox_mail.declared.outcome.ReplyKind.{ReplyKind}
use Rattle.link_mails.specs.Body.{Body}
use Rattle.protocol_models.specs.of_exchange_model.Exchange.{Exchange}
use Rattle.protocol_models.specs.of_exchange_model.Lifted.{lifted}
use Rattle.protocol_models.specs.of_exchange_model.Sides.{Slave, joined}
use Rattle.protocol_models.specs.of_exchange_model.Refusing.{Refusal, gated}
use Rattle.life_model.specs.of_state_model.Families.{InState, in_states}
use Rattle.protocol_models.specs.CoeMails as CoeMails
use Rattle.protocol_models.specs.CoeClient as CoeClient
use Rattle.protocol_models.specs.CoeModel as CoeModel
use Rattle.protocol_models.specs.CoeOctets as CoeOctets
use Rattle.protocol_models.specs.FoeMails as FoeMails
use Rattle.protocol_models.specs.FoeClient as FoeClient
use Rattle.protocol_models.specs.FoeModel as FoeModel
use Rattle.protocol_models.specs.FoeOctets as FoeOctets
use Rattle.protocol_models.specs.SoeMails as SoeMails
use Rattle.protocol_models.specs.SoeClient as SoeClient
use Rattle.protocol_models.specs.SoeModel as SoeModel
use Rattle.protocol_models.specs.SoeOctets as SoeOctets
use Rattle.protocol_models.specs.EoeMails as EoeMails
use Rattle.protocol_models.specs.EoeClient as EoeClient
use Rattle.protocol_models.specs.EoeModel as EoeModel
use Rattle.protocol_models.specs.EoeOctets as EoeOctets
use Rattle.protocol_models.specs.Network.{Station}
use Rattle.slave_model.specs.Profile.{Protocol, Profile, serves, areas_of}
use Rattle.slave_model.specs.Application.{Core, Parts, station_valid, station_tables, station_files, station_elements, network}
use Rattle.slave_model.specs.Server.{Server, Seat, seat, reseated, one_more, ServiceOf, Reply, failure, heard_by, told_by, refused_counts, refused_gives}

-- whose mail it is
abbrev pub protocol_of : Kind → Option Protocol
protocol_of Kind.CoE = Some Protocol.CoE
protocol_of Kind.FoE = Some Protocol.FoE
protocol_of Kind.SoE = Some Protocol.SoE
protocol_of Kind.EoE = Some Protocol.EoE
protocol_of _ = None

-- whether a mail of the slave replies to nothing: emergencies, and fragments of packets
abbrev pub emission : Body → Bool
emission b = CoeMails.is_emission (heard_by CoeOctets.coe_mail_heard (CoeMails.other []) b)

module _ {T F I : Type 0} (o : Parts T F I) (p : Profile) (al : ℕ) where
  -- each protocol, served, over the bodies of mails
  abbrev pub served : (i : Protocol) → Exchange (Seat T F I i) (Station (Core T F I)) Body (ServiceOf i) Reply
  served Protocol.CoE = lifted (CoeModel.coe_exchange (station_tables o p.back al) p.has_eoe (areas_of p)) (heard_by CoeOctets.coe_mail_heard (CoeMails.other [])) (told_by CoeOctets.coe_mail_written)
  served Protocol.FoE = lifted (FoeModel.foe_exchange (station_files o al) (areas_of p)) (heard_by FoeOctets.foe_mail_heard (FoeMails.other [])) (told_by FoeOctets.foe_mail_written)
  served Protocol.SoE = lifted (SoeModel.soe_exchange (station_elements o) (areas_of p)) (heard_by SoeOctets.soe_mail_heard (SoeMails.other [])) (told_by SoeOctets.soe_mail_written)
  served Protocol.EoE = lifted (EoeModel.eoe_exchange (network o p) (areas_of p)) (heard_by EoeOctets.eoe_mail_heard (EoeMails.other [])) (told_by EoeOctets.eoe_mail_written)

  -- the mails that a client sends where the protocol isn't served: the first that waits for an answer, or all where none does
  abbrev pub asked : (i : Protocol) → ServiceOf i → List Body
  asked Protocol.CoE q = take 1 (map (told_by CoeOctets.coe_mail_written) (CoeClient.mails_of p.out q 0))
  asked Protocol.FoE q = take 1 (map (told_by FoeOctets.foe_mail_written) (FoeClient.mails_of p.out q 0))
  asked Protocol.SoE q = map (told_by SoeOctets.soe_mail_written) (SoeClient.mails_of p.out q)
  asked Protocol.EoE q = map (told_by EoeOctets.eoe_mail_written) (EoeClient.mails_of p.out q)

  -- and how each is refused: by mailbox error 2
  abbrev pub refusal : (i : Protocol) → Refusal (Seat T F I i) Body (ServiceOf i) Reply
  refusal i = record {
    counted = one_more T F I i;
    counts = refused_counts i;
    gives = refused_gives i;
    refusal = failure 2;
    reply = (ReplyKind.MailboxError 2, []);
    asked = asked i;
  }

  -- each protocol, where it is served and where it isn't
  abbrev pub side : (i : Protocol) → Exchange (Seat T F I i) (Station (Core T F I)) Body (ServiceOf i) Reply
  side i = gated (serves p al i) (served i) (refusal i)

  -- a mailbox error, where it counts as a service
  abbrev pub answers_failure : Server T F I → ℕ → Server T F I × List Body
  answers_failure j detail = (record j { handled = suc j.handled }, failure detail ∷ [])

  -- a mail of no protocol: an error mail has no answer
  abbrev pub serve_other : Server T F I → Kind → Server T F I × List Body
  serve_other j Kind.Error = (j, [])
  serve_other j kind = answers_failure j 2

  -- a mail by its protocol
  abbrev pub serve_by : Server T F I → Body → Kind → Option Protocol → Server T F I × List Body
  serve_by j b kind (Some i) = (reseated i j ((side i).serve (seat i j) b).0, ((side i).serve (seat i j) b).1)
  serve_by j b kind None = serve_other j kind

  -- what a slave does with what it finds in its mailbox
  abbrev pub serve : Server T F I → Body → Server T F I × List Body
  serve j (Ok m) = serve_by j (Ok m) m.kind (protocol_of m.kind)
  serve j (Err UnknownKind) = answers_failure j 2
  serve j (Err fault) = answers_failure j 8

  -- the states of which the laws speak: no SoE value is half joined
  abbrev pub is_ready : Server T F I → Bool
  is_ready j = station_valid o j.app && is_none j.join

  -- the slave that has all four
  abbrev pub slave : Slave (Server T F I) (Station (Core T F I)) Body
  slave = record { serve = serve; app = λ j. j.app; handled = λ j. j.handled; emission = emission; ready = is_ready }

  -- its protocols as one exchange
  abbrev pub protocols : Exchange (Server T F I) (Station (Core T F I)) Body ((i : Protocol) × ServiceOf i) Reply
  protocols = joined slave side seat

-- THE ONE EXCHANGE of a session with one slave: its protocols, in its AL state
abbrev pub product : {T F I : Type 0} → Parts T F I → Profile → Exchange (InState (Server T F I)) (InState (Station (Core T F I))) Body ((i : Protocol) × ServiceOf i) Reply
product o p = in_states (protocols o p)
