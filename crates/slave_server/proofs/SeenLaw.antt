-- Each step of a slave's server is the exchange's.
use Rattle.std.proofs.Common.{◌≡◌, ℕ, Bool, true, false, List, [], ◌∷◌, ◌++◌, map, drop, Option, Some, None, Ok, Err, refl, ap, ◌∙◌}
use Rattle.std.specs.Prelude.{if◌then◌else◌, option_map}
use Rattle.slave_node.specs.of_mailbox_mail.declared.mail.Mail.{Mail}
use Rattle.slave_node.specs.of_mailbox_mail.declared.mail.Kind.{Kind}
use Rattle.slave_node.specs.of_mailbox_mail.declared.mail.MailFault.TheVariants.{Short, LengthPastArea, UnknownKind}
use Rattle.slave_node.specs.of_link_mails.Body.{Body, uncounted}
use Rattle.soe_server.specs.of_exchange_model.Refusing.{gated}
use Rattle.segment_plan.specs.of_object_dictionary.Dictionary as Objects
use Rattle.segment_plan.specs.of_file_store.Files as Store
use Rattle.soe_server.specs.of_idn_table.Idns as Idns
use Rattle.soe_server.specs.of_protocol_models.CoeMails as CoeMails
use Rattle.soe_server.specs.of_protocol_models.CoeOctets as CoeOctets
use Rattle.soe_server.specs.of_protocol_models.FoeMails as FoeMails
use Rattle.soe_server.specs.of_protocol_models.FoeOctets as FoeOctets
use Rattle.soe_server.specs.of_protocol_models.SoeMails as SoeMails
use Rattle.soe_server.specs.of_protocol_models.SoeOctets as SoeOctets
use Rattle.soe_server.specs.of_protocol_models.EoeMails as EoeMails
use Rattle.soe_server.specs.of_protocol_models.EoeOctets as EoeOctets
use Rattle.slave_parts.specs.of_segment_model.Slaves.{first_waiting}
use Rattle.slave_parts.specs.of_slave_model.Profile.{Protocol, Profile, serves}
use Rattle.slave_parts.specs.of_slave_model.Server.{Seat, seat, failure, heard_by, told_by, refused_gives, soe_quiet, eoe_quiet}
use Rattle.slave_parts.specs.of_slave_model.Product.{protocol_of, served, refusal, serve_by, serve_other, serve}
use Rattle.slave_parts.specs.Parts.{Server, parts}
use Rattle.slave_server.specs.Serving.{written, first_of, behind_first}
use Rattle.slave_server.specs.Seen.{seen_in, IsExchange}

abbrev as_body : Mail → Body
as_body m = Ok (uncounted m)

-- bodies that are mails that are not yet counted
AreFresh : List Body → Type 0
AreFresh bs = map as_body (written bs) ≡ bs

told_fresh : {X : Type 0} (write : X → Mail) → ((x : X) → uncounted (write x) ≡ write x) → (xs : List X) → AreFresh (map (told_by write) xs)
unfolding AreFresh
told_fresh write each [] = refl
told_fresh write each (x ∷ xs) = ap (λ m. Ok m ∷ map as_body (written (map (told_by write) xs))) (each x) ∙ ap (λ l. Ok (write x) ∷ l) (told_fresh write each xs)

coe_fresh : (m : CoeMails.CoeMail) → uncounted (CoeOctets.coe_mail_written m) ≡ CoeOctets.coe_mail_written m
coe_fresh (CoeMails.mail c) = refl
coe_fresh (CoeMails.unread fault service index sub) = refl
coe_fresh (CoeMails.failed detail) = refl
coe_fresh (CoeMails.fragment body) = refl
coe_fresh (CoeMails.other body) = refl

foe_fresh : (m : FoeMails.FoeMail) → uncounted (FoeOctets.foe_mail_written m) ≡ FoeOctets.foe_mail_written m
foe_fresh (FoeMails.mail c) = refl
foe_fresh (FoeMails.unread fault) = refl
foe_fresh (FoeMails.failed detail) = refl
foe_fresh (FoeMails.other body) = refl

soe_fresh : (m : SoeMails.SoeMail) → uncounted (SoeOctets.soe_mail_written m) ≡ SoeOctets.soe_mail_written m
soe_fresh (SoeMails.mail c) = refl
soe_fresh (SoeMails.unread fault incomplete) = refl
soe_fresh (SoeMails.failed detail) = refl
soe_fresh (SoeMails.other body) = refl

eoe_fresh : (m : EoeMails.EoeMail) → uncounted (EoeOctets.eoe_mail_written m) ≡ EoeOctets.eoe_mail_written m
eoe_fresh (EoeMails.mail c) = refl
eoe_fresh (EoeMails.unread fault kind) = refl
eoe_fresh (EoeMails.unsupported kind) = refl
eoe_fresh (EoeMails.failed detail) = refl
eoe_fresh (EoeMails.other body) = refl

failure_by : (b : Bool) (detail : ℕ) → AreFresh (if b then [] else failure detail ∷ [])
unfolding AreFresh
failure_by true detail = refl
failure_by false detail = refl

refused_fresh : (i : Protocol) (b : Body) → AreFresh (refused_gives i b)
refused_fresh Protocol.CoE b = failure_by false 2
refused_fresh Protocol.FoE b = failure_by false 2
refused_fresh Protocol.SoE b = failure_by (soe_quiet (heard_by SoeOctets.soe_mail_heard (SoeMails.other []) b)) 2
refused_fresh Protocol.EoE b = failure_by (eoe_quiet (heard_by EoeOctets.eoe_mail_heard (EoeMails.other []) b)) 2

module _ (p : Profile) (al : ℕ) where
  served_fresh : (i : Protocol) (v : Seat Objects.Table Store.Kept Idns.Table i) (b : Body) → AreFresh ((served parts p al i).serve v b).1
  served_fresh Protocol.CoE v b = told_fresh CoeOctets.coe_mail_written coe_fresh _
  served_fresh Protocol.FoE v b = told_fresh FoeOctets.foe_mail_written foe_fresh _
  served_fresh Protocol.SoE v b = told_fresh SoeOctets.soe_mail_written soe_fresh _
  served_fresh Protocol.EoE v b = told_fresh EoeOctets.eoe_mail_written eoe_fresh _

  side_fresh : (i : Protocol) (v : Seat Objects.Table Store.Kept Idns.Table i) (b : Body) (on : Bool) → AreFresh ((gated on (served parts p al i) (refusal parts p al i)).serve v b).1
  side_fresh i v b true = served_fresh i v b
  side_fresh i v b false = refused_fresh i b

  other_fresh : (v : Server) (kind : Kind) → AreFresh (serve_other parts p al v kind).1
  other_fresh v Kind.Error = failure_by true 2
  other_fresh v Kind.AoE = failure_by false 2
  other_fresh v Kind.EoE = failure_by false 2
  other_fresh v Kind.CoE = failure_by false 2
  other_fresh v Kind.FoE = failure_by false 2
  other_fresh v Kind.SoE = failure_by false 2
  other_fresh v Kind.VoE = failure_by false 2

  by_fresh : (v : Server) (b : Body) (kind : Kind) (found : Option Protocol) → AreFresh (serve_by parts p al v b kind found).1
  by_fresh v b kind None = other_fresh v kind
  by_fresh v b kind (Some i) = side_fresh i (seat i v) b (serves p al i)

  serve_fresh : (v : Server) (b : Body) → AreFresh (serve parts p al v b).1
  serve_fresh v (Ok m) = by_fresh v (Ok m) m.kind (protocol_of m.kind)
  serve_fresh v (Err UnknownKind) = failure_by false 2
  serve_fresh v (Err Short) = failure_by false 8
  serve_fresh v (Err LengthPastArea) = failure_by false 8

map_both : {X Y : Type 0} (f : X → Y) (xs ys : List X) → map f (xs ++ ys) ≡ map f xs ++ map f ys
map_both f [] ys = refl
map_both f (x ∷ xs) ys = ap (λ l. f x ∷ l) (map_both f xs ys)

first_seen : (ms : List Mail) → option_map as_body (first_of ms) ≡ first_waiting (map as_body ms)
first_seen [] = refl
first_seen (m ∷ ms) = refl

rest_seen : (ms : List Mail) → map as_body (behind_first ms) ≡ drop 1 (map as_body ms)
rest_seen [] = refl
rest_seen (m ∷ ms) = refl

pub is_exchange : (p : Profile) (al : ℕ) → IsExchange p al
unfolding AreFresh
is_exchange p al = record {
  take = λ s b same.
      let taken = λ (q : Profile). seen_in al (let g = serve parts q al s.server b in record s { server = g.0; waiting = s.waiting ++ written g.1 }) in
      let g = serve parts p al s.server b in
      ap taken same
      ∙ ap (λ l. record (seen_in al s) { server = record { inner = g.0; state = al }; waiting = l }) (map_both as_body s.waiting (written g.1) ∙ ap (λ l. map as_body s.waiting ++ l) (serve_fresh p al s.server b));
  next = λ s. first_seen s.waiting;
  rest = λ s. ap (λ l. record (seen_in al s) { waiting = l }) (rest_seen s.waiting);
  stays = λ s b. refl;
}
