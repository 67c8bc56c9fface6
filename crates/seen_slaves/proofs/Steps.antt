-- WHATEVER MAIL A SLAVE TAKES, it is counted, or leaves all but unfinished transfers; and a service of a script is counted.
use Rattle.std.proofs.Common.{◌≡◌, ◌⊎◌, inl, inr, suc, ℕ, Bool, true, false, Option, None, Some, Ok, Err, [], refl}
use Rattle.std.specs.Prelude.{if◌then◌else◌}
use Rattle.idle_slaves.specs.of_protocol_models.CoeMails as CoeMails
use Rattle.idle_slaves.specs.of_protocol_models.CoeOctets as CoeOctets
use Rattle.idle_slaves.specs.of_protocol_models.CoeServer as CoeServer
use Rattle.seen_slaves.proofs.Choices.{counted}
use Rattle.seen_slaves.proofs.OfCoe.{coe_quiet}
use Rattle.seen_slaves.proofs.OfEoe.{eoe_quiet}
use Rattle.seen_slaves.proofs.OfFoe.{foe_quiet}
use Rattle.seen_slaves.proofs.OfSoe.{soe_quiet}
use Rattle.seen_slaves.specs.Counted.{IsCounted, once, never}
use Rattle.idle_slaves.specs.of_protocol_models.EoeMails as EoeMails
use Rattle.idle_slaves.specs.of_protocol_models.EoeOctets as EoeOctets
use Rattle.idle_slaves.specs.of_protocol_models.EoeServer as EoeServer
use Rattle.idle_slaves.specs.of_exchange_model.Refusing.{gated}
use Rattle.idle_slaves.specs.of_protocol_models.FoeMails as FoeMails
use Rattle.idle_slaves.specs.of_protocol_models.FoeOctets as FoeOctets
use Rattle.idle_slaves.specs.of_protocol_models.FoeServer as FoeServer
use Rattle.idle_slaves.specs.of_link_mails.Body.{Body}
use Rattle.served_rings.specs.of_mailbox_mail.declared.mail.Kind.{Kind}
use Rattle.served_rings.specs.of_mailbox_mail.declared.mail.MailFault.TheVariants.{Short, LengthPastArea, UnknownKind}
use Rattle.idle_slaves.specs.of_slave_model.Application.{Parts, station_tables, station_files, station_elements, network}
use Rattle.idle_slaves.specs.of_slave_model.Product.{protocol_of, refusal, serve, serve_by, serve_other, served}
use Rattle.idle_slaves.specs.of_slave_model.Profile.{Protocol, Profile, serves}
use Rattle.idle_slaves.specs.of_slave_model.Server.{Server, ServiceOf, heard_by, one_more, refused_counts, reseated, seat}
use Rattle.idle_slaves.specs.of_slave_parts.Served.{served_whole}
use Rattle.idle_slaves.specs.of_slave_parts.Whole.{gated_whole}
use Rattle.idle_slaves.specs.of_protocol_models.SoeMails as SoeMails
use Rattle.idle_slaves.specs.of_protocol_models.SoeOctets as SoeOctets
use Rattle.idle_slaves.specs.of_protocol_models.SoeServer as SoeServer

module _ {T F I : Type 0} (o : Parts T F I) (p : Profile) (al : ℕ) (j : Server T F I) where
  of_either : (w : Server T F I) → (w.handled ≡ suc j.handled) ⊎ ((w.handled ≡ j.handled) × (w.app ≡ j.app)) → IsCounted j w
  of_either w (inl more) = once more
  of_either w (inr same) = never same.0 same.1

  -- a protocol that is served
  served_step : (i : Protocol) (b : Body) → IsCounted j (reseated i j ((served o p al i).serve (seat i j) b).0)
  served_step Protocol.CoE b =
      let m = heard_by CoeOctets.coe_mail_heard (CoeMails.other []) b in
      let x = CoeServer.coe_outcome (station_tables o p.back al) p.has_eoe p.back j.app j.sdo m in
      of_either _ (counted CoeServer.one_more (λ n. refl) (λ n. refl) x.counts j.handled (CoeServer.issued (station_tables o p.back al) x.app x.emission).0 j.app (coe_quiet (station_tables o p.back al) p.has_eoe p.back j.app j.sdo m))
  served_step Protocol.FoE b =
      let m = heard_by FoeOctets.foe_mail_heard (FoeMails.other []) b in
      let x = FoeServer.foe_outcome (station_files o al) p.out p.back j.app j.file m in
      of_either _ (counted FoeServer.one_more (λ n. refl) (λ n. refl) x.counts j.handled x.app j.app (foe_quiet (station_files o al) p.out p.back j.app j.file m))
  served_step Protocol.SoE b =
      let m = heard_by SoeOctets.soe_mail_heard (SoeMails.other []) b in
      let x = SoeServer.soe_outcome (station_elements o) p.back j.app j.join m in
      of_either _ (counted SoeServer.one_more (λ n. refl) (λ n. refl) x.counts j.handled x.app j.app (soe_quiet (station_elements o) p.back j.app j.join m))
  served_step Protocol.EoE b =
      let m = heard_by EoeOctets.eoe_mail_heard (EoeMails.other []) b in
      let x = EoeServer.eoe_outcome (network o p) p.back j.app j.packet m in
      of_either _ (counted EoeServer.one_more (λ n. refl) (λ n. refl) x.counts j.handled x.station j.app (eoe_quiet (network o p) p.back j.app j.packet m))

  -- one that is refused
  refused_step : (i : Protocol) (counts : Bool) → IsCounted j (reseated i j (if counts then one_more T F I i (seat i j) else seat i j))
  refused_step Protocol.CoE true = once refl
  refused_step Protocol.CoE false = never refl refl
  refused_step Protocol.FoE true = once refl
  refused_step Protocol.FoE false = never refl refl
  refused_step Protocol.SoE true = once refl
  refused_step Protocol.SoE false = never refl refl
  refused_step Protocol.EoE true = once refl
  refused_step Protocol.EoE false = never refl refl

  side_step : (on : Bool) (i : Protocol) (b : Body) → IsCounted j (reseated i j ((gated on (served o p al i) (refusal o p al i)).serve (seat i j) b).0)
  side_step true i b = served_step i b
  side_step false i b = refused_step i (refused_counts i b)

  other_step : (kind : Kind) → IsCounted j (serve_other o p al j kind).0
  other_step Kind.Error = never refl refl
  other_step _ = once refl

  by_step : (b : Body) (kind : Kind) (found : Option Protocol) → IsCounted j (serve_by o p al j b kind found).0
  by_step b kind (Some i) = side_step (serves p al i) i b
  by_step b kind None = other_step kind

  -- what comes through its mailbox
  pub mail_step : (b : Body) → IsCounted j (serve o p al j b).0
  mail_step (Ok m) = by_step (Ok m) m.kind (protocol_of m.kind)
  mail_step (Err UnknownKind) = once refl
  mail_step (Err Short) = once refl
  mail_step (Err LengthPastArea) = once refl

  -- a service, served or refused
  pub service_step : (on : Bool) (i : Protocol) (q : ServiceOf i) → IsCounted j (reseated i j ((gated_whole on (served_whole o p al i) (refusal o p al i)).exec (seat i j) q))
  service_step true Protocol.CoE q = once refl
  service_step true Protocol.FoE q = once refl
  service_step true Protocol.SoE q = once refl
  service_step true Protocol.EoE q = once refl
  service_step false Protocol.CoE q = once refl
  service_step false Protocol.FoE q = once refl
  service_step false Protocol.SoE q = once refl
  service_step false Protocol.EoE q = once refl
