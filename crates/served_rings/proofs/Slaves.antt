-- A slave's last reply tells that no other follows, whatever the mail is.
use Rattle.std.proofs.Common.{◌≡◌, inl, ℕ, ◌-◌, ◌*◌, ◌/◌, ◌≤◌, not, cond, Bool, true, false, List, [], ◌∷◌, ◌++◌, map, length, Option, Some, None, Ok, Err, refl, ap, sym, ◌∙◌, subst, append-nil, arith, if◌then◌else◌}
use Rattle.run_work.specs.of_mailbox_mail.declared.mail.MailFault.TheVariants.{UnknownKind}
use Rattle.run_work.specs.of_mailbox_mail.declared.mail.Kind.{Kind}
use Rattle.served_places.specs.of_link_mails.Body.{Body}
use Rattle.run_work.specs.of_eoe.declared.message.Fragment.{Fragment}
use Rattle.run_work.specs.of_eoe.Message.{eoe_text}
use Rattle.run_work.specs.of_eoe.Cutting.{fragments_of}
use Rattle.served_places.specs.of_exchange_model.Exchange.{plain}
use Rattle.served_places.specs.of_exchange_model.Lifted.{EachOf}
use Rattle.served_places.specs.of_exchange_model.Refusing.{gated}
use Rattle.run_work.specs.of_protocol_models.CoeMails as Coe
use Rattle.run_work.specs.of_protocol_models.CoeOctets as CoeOctets
use Rattle.run_work.specs.of_protocol_models.CoeServer.{Emission, emergency, packet, coe_outcome, issued}
use Rattle.served_places.proofs.of_protocol_models.Spelling.{reads_back}
use Rattle.run_work.specs.of_protocol_models.FoeMails as Foe
use Rattle.run_work.specs.of_protocol_models.FoeOctets as FoeOctets
use Rattle.run_work.specs.of_protocol_models.FoeServer as FoeServer
use Rattle.served_places.proofs.of_protocol_models.FoeSpeaks as FoeSpeaks
use Rattle.run_work.specs.of_protocol_models.SoeMails as Soe
use Rattle.run_work.specs.of_protocol_models.SoeOctets as SoeOctets
use Rattle.run_work.specs.of_protocol_models.SoeServer as SoeServer
use Rattle.run_work.specs.of_protocol_models.EoeMails as Eoe
use Rattle.run_work.specs.of_protocol_models.EoeOctets as EoeOctets
use Rattle.run_work.specs.of_protocol_models.Network.{Station}
use Rattle.run_work.specs.of_master_hand.Spoken.{is_followed}
use Rattle.served_places.specs.of_serving_model.Passing.{LastTells}
use Rattle.run_work.specs.of_slave_parts.Served.{product_whole}
use Rattle.run_work.specs.of_slave_model.Application.{Core, Parts, ArePartsLawful, station_valid, station_tables, station_files, station_elements, network}
use Rattle.run_work.specs.of_slave_model.Product.{emission, served, side, refusal, protocol_of, serve_by, serve_other, serve}
use Rattle.run_work.specs.of_slave_model.Profile.{Protocol, Profile, IsProfile, serves, areas_of}
use Rattle.run_work.specs.of_slave_model.Server.{Server, Seat, seat, failure, heard_by, told_by, refused_gives, soe_quiet, eoe_quiet}
use Rattle.run_work.proofs.of_slave_model.Stations.{left_of, tables_spelled}
use Rattle.served_rings.specs.Told.{TellLast}
use Rattle.served_rings.proofs.OfCoe as OfCoe
use Rattle.served_rings.proofs.Others.{alone, replies, none_plain, fragments_emitted, foe_told, soe_calm, soe_outcome, eoe_outcome}

map_append : {X Y : Type 0} (f : X → Y) (xs ys : List X) → map f (xs ++ ys) ≡ map f xs ++ map f ys
map_append f [] ys = refl
map_append f (x ∷ xs) ys = ap (λ l. f x ∷ l) (map_append f xs ys)

-- the replies of such mails are those in front
plain_front : (bs cs : List Body) → EachOf (λ b. emission b ≡ false) bs → EachOf (λ b. emission b ≡ true) cs → plain emission (bs ++ cs) ≡ bs
plain_front [] cs calm loud = none_plain cs loud
plain_front (b ∷ bs) cs calm loud =
    ap (λ c. cond (not c) (b ∷ plain emission (bs ++ cs)) (plain emission (bs ++ cs))) calm.0 ∙ ap (λ l. b ∷ l) (plain_front bs cs calm.1 loud)

coe_fragments : (fs : List Fragment) → EachOf (λ b. emission b ≡ true) (map (told_by CoeOctets.coe_mail_written) (map Coe.fragment (map (λ (f : Fragment). eoe_text (Eoe.Part f)) fs)))
coe_fragments [] = tt
coe_fragments (f ∷ fs) = ((fragments_emitted (f ∷ [])).0, coe_fragments fs)

module _ {T F I : Type 0} (o : Parts T F I) (law : ArePartsLawful o) (p : Profile) (is : IsProfile p) (al : ℕ) where
  coe_emits : (app : Station (Core T F I)) (e : Option Emission) → ((octets : List ℕ) → e ≡ Some (emergency octets) → length octets ≡ 8) →
      EachOf (λ b. emission b ≡ true) (map (told_by CoeOctets.coe_mail_written) (issued (station_tables o p.back al) app e).1)
  coe_emits app None eight = tt
  coe_emits app (Some (emergency octets)) eight = (ap Coe.is_emission (reads_back (Coe.mail (Coe.Emergency (record { items = octets }))) (eight octets refl, tt, tt)), tt)
  coe_emits app (Some (packet octets)) eight = coe_fragments (fragments_of octets (32 * ((p.back - 10) / 32)) app.frame)

  coe_tells : (v : Seat T F I Protocol.CoE) (b : Body) → station_valid o v.app ≡ true → TellLast ((served o p al Protocol.CoE).serve v b).1
  coe_tells v b valid =
      let m = heard_by CoeOctets.coe_mail_heard (Coe.other []) b in
      let tables = station_tables o p.back al in
      let x = coe_outcome tables p.has_eoe p.back v.app v.transfer m in
      let made = (issued tables x.app x.emission).1 in
      let told = OfCoe.outcome tables (tables_spelled o law p.back al) p.has_eoe p.back (omega (arith, is.back_least)) v.app valid v.transfer m in
      let write = told_by CoeOctets.coe_mail_written in
      let all : plain emission (map write (x.answers ++ made)) ≡ map write x.answers =
      ap (plain emission) (map_append write x.answers made) ∙ plain_front (map write x.answers) (map write made) told.calm (coe_emits x.app x.emission told.eight) in
      replies write x.answers (map write (x.answers ++ made)) all told.told

  foe_tells : (v : Seat T F I Protocol.FoE) (b : Body) → TellLast ((served o p al Protocol.FoE).serve v b).1
  foe_tells v b =
      let m = heard_by FoeOctets.foe_mail_heard (Foe.other []) b in
      let x = FoeServer.foe_outcome (station_files o al) p.out p.back v.app v.transfer m in
      let one : length (x.answers ++ []) ≤ 1 = FoeSpeaks.replies_few (station_files o al) (areas_of p) v (m ∷ []) in
      foe_told x.answers (subst (λ l. length l ≤ 1) (append-nil x.answers) one)

  soe_tells : (v : Seat T F I Protocol.SoE) (b : Body) → TellLast ((served o p al Protocol.SoE).serve v b).1
  soe_tells v b =
      let m = heard_by SoeOctets.soe_mail_heard (Soe.other []) b in
      let x = SoeServer.soe_outcome (station_elements o) p.back v.app v.join m in
      let write = told_by SoeOctets.soe_mail_written in
      let all : plain emission (map write x.answers) ≡ map write x.answers =
      ap (plain emission) (sym (append-nil (map write x.answers))) ∙ plain_front (map write x.answers) [] (soe_calm x.answers) tt in
      replies write x.answers (map write x.answers) all (soe_outcome (station_elements o) p.back (omega (arith, is.back_least)) v.app v.join m)

  serves_tells : (i : Protocol) (j : Server T F I) (b : Body) → station_valid o j.app ≡ true → TellLast ((served o p al i).serve (seat i j) b).1
  serves_tells Protocol.CoE j b valid = coe_tells (seat Protocol.CoE j) b valid
  serves_tells Protocol.FoE j b valid = foe_tells (seat Protocol.FoE j) b
  serves_tells Protocol.SoE j b valid = soe_tells (seat Protocol.SoE j) b
  serves_tells Protocol.EoE j b valid = eoe_outcome (network o p) p.back j.app j.packet (heard_by EoeOctets.eoe_mail_heard (Eoe.other []) b)

  quiet_or : (b : Bool) → TellLast (if b then [] else failure 2 ∷ [])
  quiet_or true = inl refl
  quiet_or false = alone (failure 2) refl

  refuses_tells : (i : Protocol) (b : Body) → TellLast (refused_gives i b)
  refuses_tells Protocol.CoE b = alone (failure 2) refl
  refuses_tells Protocol.FoE b = alone (failure 2) refl
  refuses_tells Protocol.SoE b = quiet_or (soe_quiet (heard_by SoeOctets.soe_mail_heard (Soe.other []) b))
  refuses_tells Protocol.EoE b = quiet_or (eoe_quiet (heard_by EoeOctets.eoe_mail_heard (Eoe.other []) b))

  sides_tells : (i : Protocol) (j : Server T F I) (b : Body) → station_valid o j.app ≡ true → TellLast ((side o p al i).serve (seat i j) b).1
  sides_tells i j b valid = go (serves p al i)
    where
      go : (on : Bool) → TellLast ((gated on (served o p al i) (refusal o p al i)).serve (seat i j) b).1
      go true = serves_tells i j b valid
      go false = refuses_tells i b

  others_tells : (j : Server T F I) (kind : Kind) → TellLast (serve_other o p al j kind).1
  others_tells j Kind.Error = inl refl
  others_tells j kind = alone (failure 2) refl

  by_tells : (j : Server T F I) (b : Body) (kind : Kind) (i : Option Protocol) → station_valid o j.app ≡ true → TellLast (serve_by o p al j b kind i).1
  by_tells j b kind (Some i) valid = sides_tells i j b valid
  by_tells j b kind None valid = others_tells j kind

  pub tells : (j : Server T F I) (b : Body) → station_valid o j.app ≡ true → TellLast (serve o p al j b).1
  tells j (Ok m) valid = by_tells j (Ok m) m.kind (protocol_of m.kind) valid
  tells j (Err UnknownKind) valid = alone (failure 2) refl
  tells j (Err fault) valid = alone (failure 8) refl

-- in whatever AL state
pub slave_tells : {T F I : Type 0} (o : Parts T F I) → ArePartsLawful o → (p : Profile) → IsProfile p → LastTells (product_whole o p) is_followed
slave_tells o law p is v m ready = tells o law p is v.state v.inner m (left_of _ _ ready)
