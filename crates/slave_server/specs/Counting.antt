-- A mail carries out one service at most.
use Rattle.std.proofs.Common.{◌≤◌, ℕ, suc, Bool, true, false, Option, Some, None, Ok, Err, arith}
use Rattle.std.specs.Prelude.{if◌then◌else◌}
use Rattle.slave_node.specs.of_mailbox_mail.declared.mail.Kind.{Kind}
use Rattle.slave_node.specs.of_mailbox_mail.declared.mail.MailFault.TheVariants.{Short, LengthPastArea, UnknownKind}
use Rattle.slave_node.specs.of_link_mails.Body.{Body}
use Rattle.soe_server.specs.of_exchange_model.Refusing.{gated}
use Rattle.segment_plan.specs.of_object_dictionary.Dictionary as Objects
use Rattle.segment_plan.specs.of_file_store.Files as Store
use Rattle.soe_server.specs.of_idn_table.Idns as Idns
use Rattle.soe_server.specs.of_protocol_models.CoeServer as CoeServer
use Rattle.soe_server.specs.of_protocol_models.FoeServer as FoeServer
use Rattle.soe_server.specs.of_protocol_models.SoeServer as SoeServer
use Rattle.soe_server.specs.of_protocol_models.EoeServer as EoeServer
use Rattle.slave_parts.specs.of_slave_model.Profile.{Protocol, Profile, serves}
use Rattle.slave_parts.specs.of_slave_model.Server.{seat, reseated, one_more, refused_counts}
use Rattle.slave_parts.specs.of_slave_model.Product.{protocol_of, served, refusal, serve_by, serve_other, serve}
use Rattle.slave_parts.specs.Parts.{Server, parts}
use Rattle.slave_server.specs.Serving.{Serving, takes}

coe_one : (counts : Bool) (n : ℕ) → CoeServer.one_more counts n ≤ suc n
coe_one true n = omega arith
coe_one false n = omega arith

foe_one : (counts : Bool) (n : ℕ) → FoeServer.one_more counts n ≤ suc n
foe_one true n = omega arith
foe_one false n = omega arith

soe_one : (counts : Bool) (n : ℕ) → SoeServer.one_more counts n ≤ suc n
soe_one true n = omega arith
soe_one false n = omega arith

eoe_one : (counts : Bool) (n : ℕ) → EoeServer.one_more counts n ≤ suc n
eoe_one true n = omega arith
eoe_one false n = omega arith

module _ (p : Profile) (al : ℕ) (j : Server) (b : Body) where
  served_one : (i : Protocol) → (reseated i j ((served parts p al i).serve (seat i j) b).0).handled ≤ suc j.handled
  served_one Protocol.CoE = coe_one _ j.handled
  served_one Protocol.FoE = foe_one _ j.handled
  served_one Protocol.SoE = soe_one _ j.handled
  served_one Protocol.EoE = eoe_one _ j.handled

  counted_one : (i : Protocol) (counts : Bool) → (reseated i j (if counts then one_more Objects.Table Store.Kept Idns.Table i (seat i j) else seat i j)).handled ≤ suc j.handled
  counted_one Protocol.CoE true = omega arith
  counted_one Protocol.CoE false = omega arith
  counted_one Protocol.FoE true = omega arith
  counted_one Protocol.FoE false = omega arith
  counted_one Protocol.SoE true = omega arith
  counted_one Protocol.SoE false = omega arith
  counted_one Protocol.EoE true = omega arith
  counted_one Protocol.EoE false = omega arith

  side_one : (i : Protocol) (on : Bool) → (reseated i j ((gated on (served parts p al i) (refusal parts p al i)).serve (seat i j) b).0).handled ≤ suc j.handled
  side_one i true = served_one i
  side_one i false = counted_one i (refused_counts i b)

  other_one : (kind : Kind) → (serve_other parts p al j kind).0.handled ≤ suc j.handled
  other_one Kind.Error = omega arith
  other_one Kind.AoE = omega arith
  other_one Kind.EoE = omega arith
  other_one Kind.CoE = omega arith
  other_one Kind.FoE = omega arith
  other_one Kind.SoE = omega arith
  other_one Kind.VoE = omega arith

  by_one : (kind : Kind) (found : Option Protocol) → (serve_by parts p al j b kind found).0.handled ≤ suc j.handled
  by_one kind None = other_one kind
  by_one kind (Some i) = side_one i (serves p al i)

serve_one : (p : Profile) (al : ℕ) (j : Server) (b : Body) → (serve parts p al j b).0.handled ≤ suc j.handled
serve_one p al j (Ok m) = by_one p al j (Ok m) m.kind (protocol_of m.kind)
serve_one p al j (Err UnknownKind) = omega arith
serve_one p al j (Err Short) = omega arith
serve_one p al j (Err LengthPastArea) = omega arith

pub takes_one : (s : Serving) (b : Body) (al : ℕ) → (takes s b al).server.handled ≤ suc s.server.handled
takes_one s b al = serve_one s.profile al s.server b
