-- Neither a mail nor a service changes the shape of its slave, whatever transfers are unfinished.
use Rattle.std.proofs.Common.{◌≡◌, ℕ, Bool, true, false, List, Option, None, Some, Result, Ok, Err, refl, sym, ap, ◌∙◌, if◌then◌else◌, []}
use Rattle.slave_parts.specs.of_mailbox_mail.declared.mail.MailFault.TheVariants.{Short, LengthPastArea, UnknownKind}
use Rattle.slave_parts.specs.of_mailbox_mail.declared.mail.Kind.{Kind}
use Rattle.slave_parts.specs.of_link_mails.Body.{Body}
use Rattle.slave_parts.specs.of_object_dictionary.Dictionary.{Table}
use Rattle.slave_parts.specs.of_file_store.Files as Store
use Rattle.slave_parts.specs.of_idn_table.Idns as Idns
use Rattle.slave_parts.specs.of_exchange_model.Refusing.{gated}
use Rattle.slave_parts.specs.of_protocol_models.CoeMails as CoeMails
use Rattle.slave_parts.specs.of_protocol_models.CoeOctets as CoeOctets
use Rattle.slave_parts.specs.of_coe_server.ObjectTables.{stores}
use Rattle.slave_parts.specs.of_protocol_models.FoeMails as FoeMails
use Rattle.slave_parts.specs.of_protocol_models.FoeOctets as FoeOctets
use Rattle.slave_parts.specs.of_protocol_models.SoeMails as SoeMails
use Rattle.slave_parts.specs.of_protocol_models.SoeOctets as SoeOctets
use Rattle.slave_parts.specs.of_protocol_models.EoeMails as EoeMails
use Rattle.slave_parts.specs.of_protocol_models.EoeOctets as EoeOctets
use Rattle.slave_parts.specs.of_protocol_models.Echo.{echo_of}
use Rattle.slave_parts.specs.of_protocol_models.Network.{Station}
use Rattle.slave_parts.specs.of_protocol_models.EoeServer.{sends}
use Rattle.slave_parts.specs.SoeServed.{met}
use Rattle.slave_parts.specs.Whole.{gated_whole}
use Rattle.slave_parts.specs.of_slave_model.Application.{with_objects, stored, station_tables, station_files, written, station_elements, network}
use Rattle.slave_parts.specs.of_slave_model.Product.{served, refusal, serve, serve_by, serve_other, protocol_of}
use Rattle.slave_parts.specs.of_slave_model.Profile.{Protocol, Profile, serves, areas_of}
use Rattle.slave_parts.specs.of_slave_model.Server.{Seat, seat, reseated, ServiceOf, heard_by, refused_counts}
use Rattle.slave_parts.specs.Parts.{Core, Server, parts}
use Rattle.slave_parts.specs.Served.{served_whole, side_whole}
use Rattle.slave_parts.proofs.SoeKeeping as Soe
use Rattle.slave_parts.proofs.Keeping as Coe
use Rattle.slave_parts.proofs.EoeKeeping as Eoe
use Rattle.few_replies.specs.Shapes.{Shape, shape_of}
use Rattle.few_replies.proofs.Stays.{with_table, with_kept, stored_sizes, shape_stays}
use Rattle.few_replies.proofs.Filed as Foe

-- what a protocol sees of such a slave
abbrev At : Protocol → Type 0
At i = Seat Table Store.Kept Idns.Table i

abbrev HasShape : Shape → Station Core → Type 0
HasShape k s = shape_of s.app ≡ k

stored_shape : (al : ℕ) (k : Shape) (s changed : Station Core) (t : _) (bytes : List ℕ) (r : Result Table ℕ) → stores al s.app.objects t bytes ≡ r → HasShape k s → stored s r ≡ Ok changed → HasShape k changed
stored_shape al k s changed t bytes (Ok objects) done same is =
    let e : with_objects s objects ≡ changed = cc in
    ap (λ c. shape_of c.app) (sym e) ∙ with_table s.app objects (λ i sub. stored_sizes al s.app.objects objects t bytes done i sub) ∙ same
stored_shape al k s changed t bytes (Err code) done same is = absurd (cc)

written_shape : (k : Shape) (s changed : Station Core) (r : Result Idns.Table ℕ) → HasShape k s → written s r ≡ Ok changed → HasShape k changed
written_shape k s changed (Ok idns) same is =
    let e : record s { app = record s.app { idns = idns } } ≡ changed = cc in
    ap (λ c. shape_of c.app) (sym e) ∙ same
written_shape k s changed (Err code) same is = absurd (cc)

module _ (p : Profile) (al : ℕ) where
  coe_keeps : (k : Shape) (v : At Protocol.CoE) (b : Body) → HasShape k v.app → HasShape k ((served parts p al Protocol.CoE).serve v b).0.app
  coe_keeps k v b same = Coe.keeps (station_tables parts p.back al) p.has_eoe (areas_of p) (HasShape k)
      (λ s changed t bytes same is. stored_shape al k s changed t bytes (stores al s.app.objects t bytes) refl same is)
      (λ s octets same. same)
      v (heard_by CoeOctets.coe_mail_heard (CoeMails.other []) b) same

  foe_keeps : (k : Shape) (v : At Protocol.FoE) (b : Body) → HasShape k v.app → HasShape k ((served parts p al Protocol.FoE).serve v b).0.app
  foe_keeps k v b same = Foe.keeps (station_files parts al) p.out p.back (HasShape k)
      (λ s name bytes same. with_kept s.app name bytes ∙ same)
      v (heard_by FoeOctets.foe_mail_heard (FoeMails.other []) b) same

  soe_keeps : (k : Shape) (v : At Protocol.SoE) (b : Body) → HasShape k v.app → HasShape k ((served parts p al Protocol.SoE).serve v b).0.app
  soe_keeps k v b same = Soe.keeps (station_elements parts) p.back (HasShape k)
      (λ s changed t bytes same is. written_shape k s changed (Idns.write_at s.app.idns t bytes) same is)
      v (heard_by SoeOctets.soe_mail_heard (SoeMails.other []) b) same

  sends_keep : (k : Shape) (c : Core) (frame : ℕ) (sent : Option (List ℕ)) → shape_of c ≡ k → HasShape k (sends p.back frame (c, sent)).0
  sends_keep k c frame None same = same
  sends_keep k c frame (Some octets) same = same

  set_keeps : (k : Shape) (s : Station Core) (app : Core) (block : List ℕ) (fixed : Bool) → HasShape k s → (if fixed then None else Some (record s.app { block = block })) ≡ Some app → shape_of app ≡ k
  set_keeps k s app block true same is = absurd (cc)
  set_keeps k s app block false same is = let e : record s.app { block = block } ≡ app = cc in ap shape_of (sym e) ∙ same

  eoe_keeps : (k : Shape) (v : At Protocol.EoE) (b : Body) → HasShape k v.station → HasShape k ((served parts p al Protocol.EoE).serve v b).0.station
  eoe_keeps k v b same = Eoe.keeps (network parts p) p.back (HasShape k)
      (λ s octets same. sends_keep k s.app s.frame (echo_of p.mac octets) same)
      (λ s app block same is. set_keeps k s app block p.fixed_ip same is)
      v (heard_by EoeOctets.eoe_mail_heard (EoeMails.other []) b) same

  -- ---- a mail of any protocol, or of none
  abbrev Stays : Server → Server → Type 0
  Stays j after = shape_of after.app.app ≡ shape_of j.app.app

  counted_stays : (i : Protocol) (j : Server) (b : Bool) → Stays j (reseated i j (if b then (refusal parts p al i).counted (seat i j) else seat i j))
  counted_stays Protocol.CoE j true = refl
  counted_stays Protocol.CoE j false = refl
  counted_stays Protocol.FoE j true = refl
  counted_stays Protocol.FoE j false = refl
  counted_stays Protocol.SoE j true = refl
  counted_stays Protocol.SoE j false = refl
  counted_stays Protocol.EoE j true = refl
  counted_stays Protocol.EoE j false = refl

  gated_stays : (i : Protocol) (on : Bool) (j : Server) (b : Body) → Stays j (reseated i j ((gated on (served parts p al i) (refusal parts p al i)).serve (seat i j) b).0)
  gated_stays Protocol.CoE true j b = coe_keeps (shape_of j.app.app) (seat Protocol.CoE j) b refl
  gated_stays Protocol.FoE true j b = foe_keeps (shape_of j.app.app) (seat Protocol.FoE j) b refl
  gated_stays Protocol.SoE true j b = soe_keeps (shape_of j.app.app) (seat Protocol.SoE j) b refl
  gated_stays Protocol.EoE true j b = eoe_keeps (shape_of j.app.app) (seat Protocol.EoE j) b refl
  gated_stays i false j b = counted_stays i j (refused_counts i b)

  other_stays : (j : Server) (kind : Kind) → Stays j (serve_other parts p al j kind).0
  other_stays j Kind.Error = refl
  other_stays j Kind.AoE = refl
  other_stays j Kind.EoE = refl
  other_stays j Kind.CoE = refl
  other_stays j Kind.FoE = refl
  other_stays j Kind.SoE = refl
  other_stays j Kind.VoE = refl

  by_stays : (j : Server) (b : Body) (kind : Kind) (found : Option Protocol) → Stays j (serve_by parts p al j b kind found).0
  by_stays j b kind (Some i) = gated_stays i (serves p al i) j b
  by_stays j b kind None = other_stays j kind

  pub mail_stays : (j : Server) (b : Body) → Stays j (serve parts p al j b).0
  mail_stays j (Ok m) = by_stays j (Ok m) m.kind (protocol_of m.kind)
  mail_stays j (Err Short) = refl
  mail_stays j (Err LengthPastArea) = refl
  mail_stays j (Err UnknownKind) = refl

  -- ---- a service of each protocol
  abbrev Left : (i : Protocol) → Bool → Server → ServiceOf i → Server
  Left i on j q = reseated i j ((gated_whole on (served_whole parts p al i) (refusal parts p al i)).exec (seat i j) q)

  abbrev Means : (i : Protocol) → Bool → Server → ServiceOf i → Type 0
  Means i on j q = shape_of ((gated on (served parts p al i) (refusal parts p al i)).exec j.app q).app ≡ shape_of j.app.app

  coe_left : (on : Bool) (j : Server) (q : ServiceOf Protocol.CoE) → Means Protocol.CoE on j q → Stays j (Left Protocol.CoE on j q)
  coe_left true j q same = same
  coe_left false j q same = refl

  foe_left : (on : Bool) (j : Server) (q : ServiceOf Protocol.FoE) → Means Protocol.FoE on j q → Stays j (Left Protocol.FoE on j q)
  foe_left true j q same = same
  foe_left false j q same = refl

  soe_left : (on : Bool) (j : Server) (q : ServiceOf Protocol.SoE) → Means Protocol.SoE on j (met j.join q) → Stays j (Left Protocol.SoE on j q)
  soe_left true j q same = same
  soe_left false j q same = refl

  eoe_left : (on : Bool) (j : Server) (q : ServiceOf Protocol.EoE) → Means Protocol.EoE on j q → Stays j (Left Protocol.EoE on j q)
  eoe_left true j q same = same
  eoe_left false j q same = refl

  pub exec_stays : (j : Server) (i : Protocol) (q : ServiceOf i) → Stays j (reseated i j ((side_whole parts p al i).exec (seat i j) q))
  exec_stays j Protocol.CoE q = coe_left (serves p al Protocol.CoE) j q (shape_stays p al Protocol.CoE j.app q)
  exec_stays j Protocol.FoE q = foe_left (serves p al Protocol.FoE) j q (shape_stays p al Protocol.FoE j.app q)
  exec_stays j Protocol.SoE q = soe_left (serves p al Protocol.SoE) j q (shape_stays p al Protocol.SoE j.app (met j.join q))
  exec_stays j Protocol.EoE q = eoe_left (serves p al Protocol.EoE) j q (shape_stays p al Protocol.EoE j.app q)
