-- A call of a protocol's server is the exchange's own step, seen from the mailboxes.
use Rattle.std.proofs.Common.{◌≡◌, ℕ, ◌+◌, ◌-◌, ◌*◌, ◌/◌, ◌%◌, ◌≢◌, not, Bool, true, false, List, [], ◌∷◌, ◌++◌, map, Option, Some, Ok, refl, sym, ap, ◌∙◌, append-nil, arith}
use mir.Val.{bool_byte}
use Rattle.slave_node.specs.of_mailbox_mail.declared.mail.Mail.{Mail}
use Rattle.slave_node.specs.of_mailbox_mail.declared.mail.Kind.{Kind}
use Rattle.slave_node.specs.of_link_mails.Body.{Body, uncounted}
use Rattle.soe_server.specs.of_exchange_model.Exchange.{Exchange}
use Rattle.soe_server.specs.of_exchange_model.Refusing.{gated}
use Rattle.segment_plan.specs.of_object_dictionary.Dictionary as Objects
use Rattle.segment_plan.specs.of_file_store.Files as Store
use Rattle.segment_plan.specs.of_file_store.Stored.{Stored}
use Rattle.soe_server.specs.of_idn_table.Idns as Idns
use Rattle.soe_server.specs.of_idn_table.Idns.{idn_elements}
use Rattle.soe_server.specs.of_protocol_models.CoeMails as CoeMails
use Rattle.soe_server.specs.of_protocol_models.CoeOctets as CoeOctets
use Rattle.soe_server.specs.of_protocol_models.CoeServer as CoeServer
use Rattle.soe_server.specs.of_protocol_models.FoeOctets as FoeOctets
use Rattle.soe_server.specs.of_protocol_models.FoeServer as FoeServer
use Rattle.soe_server.specs.of_protocol_models.SoeOctets as SoeOctets
use Rattle.soe_server.specs.of_protocol_models.SoeServer as SoeServer
use Rattle.soe_server.specs.of_protocol_models.EoeOctets as EoeOctets
use Rattle.soe_server.specs.of_protocol_models.EoeServer as EoeServer
use Rattle.soe_server.specs.of_protocol_models.Network.{Station}
use Rattle.segment_plan.specs.of_eoe.Message.{eoe_read, eoe_text}
use Rattle.segment_plan.specs.of_eoe.declared.message.Eoe.TheVariants.{Fragment as Part}
use Rattle.segment_plan.specs.of_eoe.declared.message.Fragment.{Fragment}
use Rattle.segment_plan.specs.of_eoe.Cutting.{Cutting, fragments_of}
use Rattle.soe_server.specs.of_protocol_models.EoeMails as EoeMails
use Rattle.slave_parts.specs.of_coe_server.declared.state.Emitted.{Emitted}
use Rattle.slave_parts.specs.of_coe_server.ObjectTables.{object_tables}
use Rattle.slave_parts.specs.of_coe_server.Serving as Coe
use Rattle.slave_parts.specs.of_foe_server.Serving as Foe
use Rattle.slave_parts.specs.of_foe_server.Stores.{store_files}
use Rattle.soe_server.specs.Serving as Soe
use Rattle.slave_parts.specs.of_eoe_server.Serving as Eoe
use Rattle.slave_parts.specs.of_eoe_server.declared.Addresses.{Addresses}
use Rattle.slave_parts.specs.of_slave_model.Profile.{Protocol, serves}
use Rattle.slave_parts.specs.of_slave_model.Application.{Core, station_files, station_elements, station_tables, network, fragment_bodies}
use Rattle.slave_parts.specs.of_slave_model.Server.{Seat, ServiceOf, Reply, seat, reseated, told_by}
use Rattle.slave_parts.specs.of_slave_model.Product.{protocol_of, served, refusal, serve_by}
use Rattle.slave_parts.specs.Parts.{parts}
use Rattle.slave_parts.proofs.Parted.{soe_seen, soe_parted, foe_seen, foe_parted, coe_seen, coe_parted}
use Rattle.slave_parts.proofs.Addressed.{eoe_seen, eoe_parted}
use Rattle.slave_server.specs.Serving.{Serving, Inside, IsInside, profile_of, server_in, failures, coe_mails, foe_mails, soe_mails, eoe_mails, waiting_of, view_of, written, takes}

-- ---- lists of mails

front_none : {X : Type 0} (xs ys : List X) → xs ++ ys ≡ [] → xs ≡ []
front_none [] ys e = refl
front_none (x ∷ xs) ys e = absurd (cc)

back_none : {X : Type 0} (xs ys : List X) → xs ++ ys ≡ [] → ys ≡ []
back_none [] ys e = e
back_none (x ∷ xs) ys e = absurd (cc)

pub written_told : {X : Type 0} (write : X → Mail) (xs : List X) → written (map (told_by write) xs) ≡ map write xs
written_told write [] = refl
written_told write (x ∷ xs) = ap (λ l. write x ∷ l) (written_told write xs)

-- the mails of one protocol alone
soe_alone : (a b c e w x y : List Mail) → a ≡ [] → b ≡ [] → c ≡ [] → e ≡ [] → w ≡ [] → x ≡ y → a ++ (b ++ (c ++ (x ++ e))) ≡ w ++ y
soe_alone a b c e w x y ai bi ci ei wi xi = rw (ai, bi, ci, ei, wi, xi) (append-nil y)

foe_alone : (a b d e w x y : List Mail) → a ≡ [] → b ≡ [] → d ≡ [] → e ≡ [] → w ≡ [] → x ≡ y → a ++ (b ++ (x ++ (d ++ e))) ≡ w ++ y
foe_alone a b d e w x y ai bi di ei wi xi = rw (ai, bi, di, ei, wi, xi) (append-nil y)

eoe_alone : (a b c d w x y : List Mail) → a ≡ [] → b ≡ [] → c ≡ [] → d ≡ [] → w ≡ [] → x ≡ y → a ++ (b ++ (c ++ (d ++ x))) ≡ w ++ y
eoe_alone a b c d w x y ai bi ci di wi xi = rw (ai, bi, ci, di, wi, xi) refl

coe_alone : (a c d e w x y : List Mail) → a ≡ [] → c ≡ [] → d ≡ [] → w ≡ [] → x ++ e ≡ y → a ++ (x ++ (c ++ (d ++ e))) ≡ w ++ y
coe_alone a c d e w x y ai ci di wi xi = rw (ai, ci, di, wi) xi

-- nothing waits
pub record IsIdle (s : Inside) : Type 0 where
  pub failure : failures s.failure ≡ []
  pub coe_part : coe_mails s ≡ []
  pub foe : foe_mails s ≡ []
  pub soe : soe_mails s ≡ []
  pub eoe : eoe_mails s ≡ []
  pub whole : waiting_of s ≡ []

pub idle_of : (s : Inside) → waiting_of s ≡ [] → IsIdle s
idle_of s e =
    let a = back_none (failures s.failure) _ e in
    let b = back_none (coe_mails s) _ a in
    let c = back_none (foe_mails s) _ b in
    record {
      failure = front_none (failures s.failure) _ e;
      coe_part = front_none (coe_mails s) _ a;
      foe = front_none (foe_mails s) _ b;
      soe = front_none (soe_mails s) _ c;
      eoe = back_none (soe_mails s) _ c;
      whole = e;
    }

-- ---- the exchange's step by one protocol

abbrev pub by_side : (s : Inside) (i : Protocol) → Exchange (Seat Objects.Table Store.Kept Idns.Table i) (Station (Core Objects.Table Store.Kept Idns.Table)) Body (ServiceOf i) Reply → Body → Serving
by_side s i x b = record (view_of s) {
  server = reseated i (server_in s) (x.serve (seat i (server_in s)) b).0;
  waiting = waiting_of s ++ written (x.serve (seat i (server_in s)) b).1;
}

-- a mail of a protocol, served or refused
pub gate : (s : Inside) (i : Protocol) (m : Mail) (al : ℕ) (b : Bool) → protocol_of m.kind ≡ Some i → serves (profile_of s) al i ≡ b →
    takes (view_of s) (Ok m) al ≡ by_side s i (gated b (served parts (profile_of s) al i) (refusal parts (profile_of s) al i)) (Ok m)
gate s i m al b mine is =
    ap (λ (found : Option Protocol). let g = serve_by parts (profile_of s) al (server_in s) (Ok m) m.kind found in record (view_of s) { server = g.0; waiting = waiting_of s ++ written g.1 }) mine
    ∙ ap (λ (b : Bool). by_side s i (gated b (served parts (profile_of s) al i) (refusal parts (profile_of s) al i)) (Ok m)) is

-- ---- SoE

abbrev soe_behind : Inside → SoeServer.Outcome (Station (Core Objects.Table Store.Kept Idns.Table)) → Serving
soe_behind s y = record (view_of s) {
  server = reseated Protocol.SoE (server_in s) (SoeServer.behind s.handled y).0;
  waiting = waiting_of s ++ written (map (told_by SoeOctets.soe_mail_written) y.answers);
}

pub drive_taken : (s : Inside) → IsInside s → IsIdle s → (m : Mail) (al : ℕ) → m.kind ≡ Kind.SoE → serves (profile_of s) al Protocol.SoE ≡ true → (idns : Idns.Table) (drive : Soe.Serving) (counts : Bool) (n : ℕ) →
    SoeServer.soe_outcome idn_elements s.drive.room s.idns (Soe.join_of s.drive) (SoeOctets.body_heard m.body.items) ≡ Soe.outcome_of idns drive counts → n ≡ SoeServer.one_more counts s.handled →
    view_of (record s { idns = idns; drive = drive; handled = n }) ≡ takes (view_of s) (Ok m) al
drive_taken s is idle m al kind on idns drive counts n does count =
    let j = server_in s in
    let p = profile_of s in
    let new : Inside = record s { idns = idns; drive = drive; handled = n } in
    let step : takes (view_of s) (Ok m) al ≡ soe_behind s (SoeServer.soe_outcome (station_elements parts) s.back j.app j.join (SoeOctets.soe_mail_heard m)) =
    gate s Protocol.SoE m al true (ap protocol_of kind) on in
    let heard : SoeServer.soe_outcome idn_elements s.back s.idns j.join (SoeOctets.soe_mail_heard m) ≡ Soe.outcome_of idns drive counts =
    ap (λ k. SoeServer.soe_outcome idn_elements s.back s.idns j.join (SoeOctets.by_kind k m.body.items)) kind
    ∙ ap (λ r. SoeServer.soe_outcome idn_elements r s.idns j.join (SoeOctets.body_heard m.body.items)) (sym is.drive_room) ∙ does in
    let mails : waiting_of new ≡ waiting_of s ++ written (map (told_by SoeOctets.soe_mail_written) (Soe.waiting_mails drive)) =
    soe_alone (failures s.failure) (coe_mails s) (foe_mails s) (eoe_mails s) (waiting_of s) _ _ idle.failure idle.coe_part idle.foe idle.eoe idle.whole (sym (written_told SoeOctets.soe_mail_written (Soe.waiting_mails drive))) in
    ap (λ w. record (view_of new) { waiting = w }) mails
    ∙ ap (λ k. record (soe_behind s (soe_seen parts j.app (Soe.outcome_of idns drive counts))) { server = record (server_in new) { handled = k } }) count
    ∙ sym (step ∙ ap (soe_behind s) (soe_parted parts j.app s.back j.join (SoeOctets.soe_mail_heard m) ∙ ap (soe_seen parts j.app) heard))

-- as a call of the server has it
pub drive_takes : (s : Inside) (v : Serving) → view_of s ≡ v → IsInside s → v.waiting ≡ [] → (m : Mail) (al : ℕ) → m.kind ≡ Kind.SoE → serves v.profile al Protocol.SoE ≡ true →
    (body : List ℕ) → body ≡ m.body.items → (idns : Idns.Table) (drive : Soe.Serving) (counts : Bool) (n : ℕ) →
    SoeServer.soe_outcome idn_elements s.drive.room s.idns (Soe.join_of s.drive) (SoeOctets.body_heard body) ≡ Soe.outcome_of idns drive counts → n ≡ SoeServer.one_more counts s.handled →
    view_of (record s { idns = idns; drive = drive; handled = n }) ≡ takes v (Ok (uncounted m)) al
drive_takes s v view is silent m al kind on body same idns drive counts n does count =
    drive_taken s is (idle_of s (ap (λ w. w.waiting) view ∙ silent)) (uncounted m) al kind (ap (λ w. serves w.profile al Protocol.SoE) view ∙ on) idns drive counts n
    (ap (λ l. SoeServer.soe_outcome idn_elements s.drive.room s.idns (Soe.join_of s.drive) (SoeOctets.body_heard l)) (sym same) ∙ does) count
    ∙ ap (λ w. takes w (Ok (uncounted m)) al) view

-- ---- FoE

abbrev foe_behind : Inside → FoeServer.Outcome (Station (Core Objects.Table Store.Kept Idns.Table)) → Serving
foe_behind s y = record (view_of s) {
  server = reseated Protocol.FoE (server_in s) (FoeServer.behind s.handled y).0;
  waiting = waiting_of s ++ written (map (told_by FoeOctets.foe_mail_written) y.answers);
}

file_taken : (s : Inside) → IsInside s → IsIdle s → (m : Mail) (al : ℕ) → m.kind ≡ Kind.FoE → serves (profile_of s) al Protocol.FoE ≡ true → (store : Stored) (file : Foe.Serving) (counts : Bool) (n : ℕ) →
    FoeServer.foe_outcome (store_files al) s.file.out s.file.back s.store.kept (Foe.transfer_of s.file s.store) (FoeOctets.body_heard m.body.items) ≡ Foe.outcome_of store file counts → n ≡ FoeServer.one_more counts s.handled →
    view_of (record s { store = store; file = file; handled = n }) ≡ takes (view_of s) (Ok m) al
file_taken s is idle m al kind on store file counts n does count =
    let j = server_in s in
    let new : Inside = record s { store = store; file = file; handled = n } in
    let step : takes (view_of s) (Ok m) al ≡ foe_behind s (FoeServer.foe_outcome (station_files parts al) s.out s.back j.app j.file (FoeOctets.foe_mail_heard m)) =
    gate s Protocol.FoE m al true (ap protocol_of kind) on in
    let heard : FoeServer.foe_outcome (store_files al) s.out s.back s.store.kept j.file (FoeOctets.foe_mail_heard m) ≡ Foe.outcome_of store file counts =
    ap (λ k. FoeServer.foe_outcome (store_files al) s.out s.back s.store.kept j.file (FoeOctets.by_kind k m.body.items)) kind
    ∙ ap (λ r. FoeServer.foe_outcome (store_files al) r s.back s.store.kept j.file (FoeOctets.body_heard m.body.items)) (sym is.file_out)
    ∙ ap (λ r. FoeServer.foe_outcome (store_files al) s.file.out r s.store.kept j.file (FoeOctets.body_heard m.body.items)) (sym is.file_back) ∙ does in
    let mails : waiting_of new ≡ waiting_of s ++ written (map (told_by FoeOctets.foe_mail_written) (Foe.waiting_mails file store)) =
    foe_alone (failures s.failure) (coe_mails s) (soe_mails s) (eoe_mails s) (waiting_of s) _ _ idle.failure idle.coe_part idle.soe idle.eoe idle.whole (sym (written_told FoeOctets.foe_mail_written (Foe.waiting_mails file store))) in
    ap (λ w. record (view_of new) { waiting = w }) mails
    ∙ ap (λ k. record (foe_behind s (foe_seen parts j.app (Foe.outcome_of store file counts))) { server = record (server_in new) { handled = k } }) count
    ∙ sym (step ∙ ap (foe_behind s) (foe_parted parts j.app s.out s.back al j.file (FoeOctets.foe_mail_heard m) ∙ ap (foe_seen parts j.app) heard))

pub file_takes : (s : Inside) (v : Serving) → view_of s ≡ v → IsInside s → v.waiting ≡ [] → (m : Mail) (al : ℕ) → m.kind ≡ Kind.FoE → serves v.profile al Protocol.FoE ≡ true →
    (body : List ℕ) → body ≡ m.body.items → (store : Stored) (file : Foe.Serving) (counts : Bool) (n : ℕ) →
    FoeServer.foe_outcome (store_files al) s.file.out s.file.back s.store.kept (Foe.transfer_of s.file s.store) (FoeOctets.body_heard body) ≡ Foe.outcome_of store file counts → n ≡ FoeServer.one_more counts s.handled →
    view_of (record s { store = store; file = file; handled = n }) ≡ takes v (Ok (uncounted m)) al
file_takes s v view is silent m al kind on body same store file counts n does count =
    file_taken s is (idle_of s (ap (λ w. w.waiting) view ∙ silent)) (uncounted m) al kind (ap (λ w. serves w.profile al Protocol.FoE) view ∙ on) store file counts n
    (ap (λ l. FoeServer.foe_outcome (store_files al) s.file.out s.file.back s.store.kept (Foe.transfer_of s.file s.store) (FoeOctets.body_heard l)) (sym same) ∙ does) count
    ∙ ap (λ w. takes w (Ok (uncounted m)) al) view

-- ---- EoE

abbrev eoe_behind : Inside → EoeServer.Outcome (Core Objects.Table Store.Kept Idns.Table) → Serving
eoe_behind s y = record (view_of s) {
  server = reseated Protocol.EoE (server_in s) (EoeServer.behind s.handled y).0;
  waiting = waiting_of s ++ written (map (told_by EoeOctets.eoe_mail_written) y.gives);
}

abbrev addresses_at : Inside → Station Addresses
addresses_at s = record { app = s.addresses; frame = s.ether.frame }

ether_taken : (s : Inside) → IsInside s → IsIdle s → (m : Mail) (al : ℕ) → m.kind ≡ Kind.EoE → serves (profile_of s) al Protocol.EoE ≡ true → (a : Addresses) (ether : Eoe.Serving) (counts : Bool) (n : ℕ) →
    EoeServer.eoe_outcome Eoe.addresses_network s.ether.room (addresses_at s) s.ether.unfinished (EoeOctets.heard m.body.items (eoe_read m.body.items)) ≡ Eoe.outcome_of a ether counts → n ≡ EoeServer.one_more counts s.handled →
    a.mac ≡ s.addresses.mac → a.fixed ≡ s.addresses.fixed →
    view_of (record s { addresses = a; ether = ether; handled = n }) ≡ takes (view_of s) (Ok m) al
ether_taken s is idle m al kind on a ether counts n does count mac fixed =
    let j = server_in s in
    let new : Inside = record s { addresses = a; ether = ether; handled = n } in
    let step : takes (view_of s) (Ok m) al ≡ eoe_behind s (EoeServer.eoe_outcome (network parts (profile_of s)) s.back j.app j.packet (EoeOctets.eoe_mail_heard m)) =
    gate s Protocol.EoE m al true (ap protocol_of kind) on in
    let heard : EoeServer.eoe_outcome Eoe.addresses_network s.back (addresses_at s) j.packet (EoeOctets.eoe_mail_heard m) ≡ Eoe.outcome_of a ether counts =
    ap (λ k. EoeServer.eoe_outcome Eoe.addresses_network s.back (addresses_at s) j.packet (EoeOctets.by_kind k m.body.items)) kind
    ∙ ap (λ r. EoeServer.eoe_outcome Eoe.addresses_network r (addresses_at s) j.packet (EoeOctets.heard m.body.items (eoe_read m.body.items))) (sym is.ether_room) ∙ does in
    let mails : waiting_of new ≡ waiting_of s ++ written (map (told_by EoeOctets.eoe_mail_written) (Eoe.waiting_mails ether a.block.items)) =
    eoe_alone (failures s.failure) (coe_mails s) (foe_mails s) (soe_mails s) (waiting_of s) _ _ idle.failure idle.coe_part idle.foe idle.soe idle.whole (sym (written_told EoeOctets.eoe_mail_written (Eoe.waiting_mails ether a.block.items))) in
    ap (λ w. record (view_of new) { waiting = w }) mails
    ∙ ap (λ (f : Bool). record (view_of new) { profile = record (profile_of new) { fixed_ip = f }; waiting = waiting_of s ++ written (map (told_by EoeOctets.eoe_mail_written) (Eoe.waiting_mails ether a.block.items)) }) fixed
    ∙ ap (λ x. record (view_of new) { profile = record (profile_of s) { mac = x.items }; waiting = waiting_of s ++ written (map (told_by EoeOctets.eoe_mail_written) (Eoe.waiting_mails ether a.block.items)) }) mac
    ∙ ap (λ k. record (eoe_behind s (eoe_seen parts (profile_of s) j.app.app s.addresses s.back s.ether.frame (Eoe.outcome_of a ether counts))) { server = record (server_in new) { handled = k } }) count
    ∙ sym (step ∙ ap (eoe_behind s) (eoe_parted parts (profile_of s) j.app.app s.addresses s.back s.ether.frame j.packet (EoeOctets.eoe_mail_heard m)
    ∙ ap (eoe_seen parts (profile_of s) j.app.app s.addresses s.back s.ether.frame) heard))

pub ether_takes : (s : Inside) (v : Serving) → view_of s ≡ v → IsInside s → v.waiting ≡ [] → (m : Mail) (al : ℕ) → m.kind ≡ Kind.EoE → serves v.profile al Protocol.EoE ≡ true →
    (body : List ℕ) → body ≡ m.body.items → (a : Addresses) (ether : Eoe.Serving) (counts : Bool) (n : ℕ) →
    EoeServer.eoe_outcome Eoe.addresses_network s.ether.room (addresses_at s) s.ether.unfinished (EoeOctets.heard body (eoe_read body)) ≡ Eoe.outcome_of a ether counts → n ≡ EoeServer.one_more counts s.handled →
    a.mac ≡ s.addresses.mac → a.fixed ≡ s.addresses.fixed →
    view_of (record s { addresses = a; ether = ether; handled = n }) ≡ takes v (Ok (uncounted m)) al
ether_takes s v view is silent m al kind on body same a ether counts n does count mac fixed =
    ether_taken s is (idle_of s (ap (λ w. w.waiting) view ∙ silent)) (uncounted m) al kind (ap (λ w. serves w.profile al Protocol.EoE) view ∙ on) a ether counts n
    (ap (λ l. EoeServer.eoe_outcome Eoe.addresses_network s.ether.room (addresses_at s) s.ether.unfinished (EoeOctets.heard l (eoe_read l))) (sym same) ∙ does) count mac fixed
    ∙ ap (λ w. takes w (Ok (uncounted m)) al) view

-- ---- CoE

pub map_none : {X Y : Type 0} (f : X → Y) (xs : List X) → map f xs ≡ [] → xs ≡ []
map_none f [] e = refl
map_none f (x ∷ xs) e = absurd (cc)

map_both : {X Y : Type 0} (f : X → Y) (xs ys : List X) → map f (xs ++ ys) ≡ map f xs ++ map f ys
map_both f [] ys = refl
map_both f (x ∷ xs) ys = ap (λ l. f x ∷ l) (map_both f xs ys)

-- the fragments of a packet are the same mails of CoE and of EoE
fragments_written : (fs : List Fragment) → map CoeOctets.coe_mail_written (map CoeMails.fragment (map (λ (f : Fragment). eoe_text (Part f)) fs)) ≡ map EoeOctets.eoe_mail_written (map EoeMails.part fs)
fragments_written [] = refl
fragments_written (f ∷ fs) = ap (λ l. EoeOctets.eoe_mail_written (EoeMails.part f) ∷ l) (fragments_written fs)

abbrev coe_behind : Inside → ℕ → CoeServer.Outcome (Station (Core Objects.Table Store.Kept Idns.Table)) → Serving
coe_behind s al y = record (view_of s) {
  server = reseated Protocol.CoE (server_in s) (CoeServer.behind (station_tables parts s.back al) s.handled y).0;
  waiting = waiting_of s ++ written (map (told_by CoeOctets.coe_mail_written) (CoeServer.behind (station_tables parts s.back al) s.handled y).1);
}

module _ (s : Inside) (is : IsInside s) (idle : IsIdle s) (al : ℕ) (objects : Objects.Table) (c : Coe.Serving) (counts : Bool) where
  -- what it did with a mail, with what is emitted apart
  abbrev done : Emitted → CoeServer.Outcome (Station (Core Objects.Table Store.Kept Idns.Table))
  done e = record (coe_seen parts (server_in s).app (Coe.outcome_of objects c counts)) { emission = Coe.emission_view e c.octets }

  sdo_does : (m : Mail) → m.kind ≡ Kind.CoE → serves (profile_of s) al Protocol.CoE ≡ true →
      CoeServer.coe_outcome (object_tables al) s.sdo.eoe s.sdo.room s.objects (Coe.transfer_of s.sdo) (CoeOctets.body_heard m.body.items) ≡ Coe.outcome_of objects c counts →
      takes (view_of s) (Ok m) al ≡ coe_behind s al (done c.emitted)
  sdo_does m kind on does =
      let j = server_in s in
      let step : takes (view_of s) (Ok m) al ≡ coe_behind s al (CoeServer.coe_outcome (station_tables parts s.back al) s.has_eoe s.back j.app j.sdo (CoeOctets.coe_mail_heard m)) =
      gate s Protocol.CoE m al true (ap protocol_of kind) on in
      let heard : CoeServer.coe_outcome (object_tables al) s.has_eoe s.back s.objects j.sdo (CoeOctets.coe_mail_heard m) ≡ Coe.outcome_of objects c counts =
      ap (λ k. CoeServer.coe_outcome (object_tables al) s.has_eoe s.back s.objects j.sdo (CoeOctets.by_kind k m.body.items)) kind
      ∙ ap (λ r. CoeServer.coe_outcome (object_tables al) r s.back s.objects j.sdo (CoeOctets.body_heard m.body.items)) (sym is.sdo_eoe)
      ∙ ap (λ r. CoeServer.coe_outcome (object_tables al) s.sdo.eoe r s.objects j.sdo (CoeOctets.body_heard m.body.items)) (sym is.sdo_room) ∙ does in
      step ∙ ap (coe_behind s al) (coe_parted parts j.app s.back al s.has_eoe j.sdo (CoeOctets.coe_mail_heard m) ∙ ap (coe_seen parts j.app) heard)

  -- without a packet
  abbrev plain : Emitted → ℕ → Serving
  plain e n = record (view_of (record s { objects = objects; sdo = c; handled = n })) {
    waiting = failures s.failure ++ (map CoeOctets.coe_mail_written (Coe.answers_of c ++ Coe.emergencies e c.octets) ++ (foe_mails s ++ (soe_mails s ++ eoe_mails s)));
  }

  plain_mails : (ms : List CoeMails.CoeMail) →
      failures s.failure ++ (map CoeOctets.coe_mail_written ms ++ (foe_mails s ++ (soe_mails s ++ eoe_mails s))) ≡ waiting_of s ++ written (map (told_by CoeOctets.coe_mail_written) ms)
  plain_mails ms = coe_alone (failures s.failure) (foe_mails s) (soe_mails s) (eoe_mails s) (waiting_of s) _ _ idle.failure idle.foe idle.soe idle.whole
      (ap (λ l. map CoeOctets.coe_mail_written ms ++ l) idle.eoe ∙ append-nil (map CoeOctets.coe_mail_written ms) ∙ sym (written_told CoeOctets.coe_mail_written ms))

  plain_is : (e : Emitted) → e ≢ Emitted.Packet → plain e (CoeServer.one_more counts s.handled) ≡ coe_behind s al (done e)
  plain_is Emitted.Nothing not = ap (λ w. record (coe_behind s al (done Emitted.Nothing)) { waiting = w }) (plain_mails (Coe.answers_of c ++ []))
  plain_is Emitted.Emergency not = ap (λ w. record (coe_behind s al (done Emitted.Emergency)) { waiting = w }) (plain_mails (Coe.answers_of c ++ Coe.emergencies Emitted.Emergency c.octets))
  plain_is Emitted.Packet not = absurd (not refl)

  -- with one
  abbrev sent : ℕ → Option Cutting → Inside
  sent frame sending = record s { objects = objects; sdo = record c { emitted = Emitted.Nothing }; ether = record s.ether { frame = frame; sending = sending }; handled = CoeServer.one_more counts s.handled }

  sent_mails : (frame : ℕ) (sending : Option Cutting) → Eoe.cut_mails sending ≡ EoeMails.packet_mails s.back c.octets s.ether.frame →
      waiting_of (sent frame sending) ≡ waiting_of s ++ written (map (told_by CoeOctets.coe_mail_written) (Coe.answers_of c ++ map CoeMails.fragment (fragment_bodies s.back c.octets s.ether.frame)))
  sent_mails frame sending cut =
      let fs = fragments_of c.octets (32 * ((s.back - 10) / 32)) s.ether.frame in
      let bodies = map CoeMails.fragment (fragment_bodies s.back c.octets s.ether.frame) in
      let none : Eoe.answer_mails s.addresses.block.items s.ether.answer ≡ [] = front_none _ _ (map_none EoeOctets.eoe_mail_written _ idle.eoe) in
      let ether : map EoeOctets.eoe_mail_written (Eoe.answer_mails s.addresses.block.items s.ether.answer ++ Eoe.cut_mails sending) ≡ map EoeOctets.eoe_mail_written (map EoeMails.part fs) =
      ap (λ l. map EoeOctets.eoe_mail_written (l ++ Eoe.cut_mails sending)) none ∙ ap (map EoeOctets.eoe_mail_written) cut in
      coe_alone (failures s.failure) (foe_mails s) (soe_mails s) _ (waiting_of s) _ _ idle.failure idle.foe idle.soe idle.whole
      (ap (λ l. map CoeOctets.coe_mail_written (Coe.answers_of c ++ []) ++ l) ether
      ∙ ap (λ l. map CoeOctets.coe_mail_written l ++ map EoeOctets.eoe_mail_written (map EoeMails.part fs)) (append-nil (Coe.answers_of c))
      ∙ ap (λ l. map CoeOctets.coe_mail_written (Coe.answers_of c) ++ l) (sym (fragments_written fs))
      ∙ sym (map_both CoeOctets.coe_mail_written (Coe.answers_of c) bodies)
      ∙ sym (written_told CoeOctets.coe_mail_written (Coe.answers_of c ++ bodies)))

  sent_is : (frame : ℕ) (sending : Option Cutting) → Eoe.cut_mails sending ≡ EoeMails.packet_mails s.back c.octets s.ether.frame → frame ≡ (s.ether.frame + 1) % 16 →
      view_of (sent frame sending) ≡ coe_behind s al (done Emitted.Packet)
  sent_is frame sending cut next =
      ap (λ w. record (view_of (sent frame sending)) { waiting = w }) (sent_mails frame sending cut)
      ∙ ap (λ k. record (coe_behind s al (done Emitted.Packet)) { server = server_in (sent k sending) }) next

pub sdo_takes : (s : Inside) (v : Serving) → view_of s ≡ v → IsInside s → v.waiting ≡ [] → (m : Mail) (al : ℕ) → m.kind ≡ Kind.CoE → serves v.profile al Protocol.CoE ≡ true →
    (body : List ℕ) → body ≡ m.body.items → (objects : Objects.Table) (c : Coe.Serving) (counts : Bool) (n : ℕ) →
    CoeServer.coe_outcome (object_tables al) s.sdo.eoe s.sdo.room s.objects (Coe.transfer_of s.sdo) (CoeOctets.body_heard body) ≡ Coe.outcome_of objects c counts → n ≡ CoeServer.one_more counts s.handled →
    (sdo : Coe.Serving) → c.emitted ≢ Emitted.Packet → sdo ≡ c →
    view_of (record s { objects = objects; sdo = sdo; handled = n }) ≡ takes v (Ok (uncounted m)) al
sdo_takes s v view is silent m al kind on body same objects c counts n does count sdo not left =
    let idle = idle_of s (ap (λ w. w.waiting) view ∙ silent) in
    ap (λ x. view_of (record s { objects = objects; sdo = x; handled = n })) left
    ∙ ap (plain s is idle al objects c counts c.emitted) count ∙ plain_is s is idle al objects c counts c.emitted not
    ∙ sym (sdo_does s is idle al objects c counts (uncounted m) kind (ap (λ w. serves w.profile al Protocol.CoE) view ∙ on)
    (ap (λ l. CoeServer.coe_outcome (object_tables al) s.sdo.eoe s.sdo.room s.objects (Coe.transfer_of s.sdo) (CoeOctets.body_heard l)) (sym same) ∙ does))
    ∙ ap (λ w. takes w (Ok (uncounted m)) al) view

pub sdo_sends : (s : Inside) (v : Serving) → view_of s ≡ v → IsInside s → v.waiting ≡ [] → (m : Mail) (al : ℕ) → m.kind ≡ Kind.CoE → serves v.profile al Protocol.CoE ≡ true →
    (body : List ℕ) → body ≡ m.body.items → (objects : Objects.Table) (c : Coe.Serving) (counts : Bool) (n : ℕ) →
    CoeServer.coe_outcome (object_tables al) s.sdo.eoe s.sdo.room s.objects (Coe.transfer_of s.sdo) (CoeOctets.body_heard body) ≡ Coe.outcome_of objects c counts → n ≡ CoeServer.one_more counts s.handled →
    (sdo : Coe.Serving) (packet : List ℕ) (ether : Eoe.Serving) → c.emitted ≡ Emitted.Packet → packet ≡ c.octets → sdo ≡ record c { emitted = Emitted.Nothing } →
    Eoe.cut_mails ether.sending ≡ EoeMails.packet_mails s.ether.room packet s.ether.frame → ether.frame ≡ (s.ether.frame + 1) % 16 → ether ≡ record s.ether { frame = ether.frame; sending = ether.sending } →
    view_of (record s { objects = objects; sdo = sdo; ether = ether; handled = n }) ≡ takes v (Ok (uncounted m)) al
sdo_sends s v view is silent m al kind on body same objects c counts n does count sdo packet ether emits octets once cut next kept =
    let idle = idle_of s (ap (λ w. w.waiting) view ∙ silent) in
    let cut_here : Eoe.cut_mails ether.sending ≡ EoeMails.packet_mails s.back c.octets s.ether.frame =
    cut ∙ ap (λ r. EoeMails.packet_mails r packet s.ether.frame) is.ether_room ∙ ap (λ l. EoeMails.packet_mails s.back l s.ether.frame) octets in
    ap (λ k. view_of (record s { objects = objects; sdo = sdo; ether = ether; handled = k })) count
    ∙ ap (λ x. view_of (record s { objects = objects; sdo = x; ether = ether; handled = CoeServer.one_more counts s.handled })) once
    ∙ ap (λ x. view_of (record s { objects = objects; sdo = record c { emitted = Emitted.Nothing }; ether = x; handled = CoeServer.one_more counts s.handled })) kept
    ∙ sent_is s is idle al objects c counts ether.frame ether.sending cut_here next
    ∙ ap (λ e. coe_behind s al (done s is idle al objects c counts e)) (sym emits)
    ∙ sym (sdo_does s is idle al objects c counts (uncounted m) kind (ap (λ w. serves w.profile al Protocol.CoE) view ∙ on)
    (ap (λ l. CoeServer.coe_outcome (object_tables al) s.sdo.eoe s.sdo.room s.objects (Coe.transfer_of s.sdo) (CoeOctets.body_heard l)) (sym same) ∙ does))
    ∙ ap (λ w. takes w (Ok (uncounted m)) al) view

pub counted : (b : Bool) (n : ℕ) → n + bool_byte b ≡ CoeServer.one_more b n
counted true n = omega arith
counted false n = omega arith
