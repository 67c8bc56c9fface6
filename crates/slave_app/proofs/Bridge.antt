-- What a service means is what the exchange of its mails does, replies and emits.
use Rattle.std.proofs.Common.{◌≡◌, ℕ, suc, ◌==◌, ◌≤◌, ◌-◌, ◌&&◌, Bool, true, false, List, [], ◌∷◌, map, length, Option, Some, None, Result, Ok, Err, refl, sym, ap, subst, ◌∙◌}
use Rattle.std.proofs.lemmas.Bool.{le-leb}
use Rattle.std.specs.Prelude.{if◌then◌else◌, nat_le, option_map, unwrap_or, IfOk}
use Rattle.slave_server.specs.of_mailbox_mail.declared.outcome.ReplyKind.{ReplyKind}
use Rattle.slave_server.specs.of_object_dictionary.Dictionary as Objects
use Rattle.slave_server.specs.of_file_store.Files as Store
use Rattle.slave_server.specs.of_idn_table.Idns as Idns
use Rattle.slave_server.specs.of_link_mails.Body.{Body}
use Rattle.slave_server.specs.of_al_state.Request as States
use Rattle.slave_server.specs.of_state_model.Promises.{reached, answer_of}
use Rattle.slave_server.specs.of_exchange_model.Exchange.{Exchange}
use Rattle.slave_server.specs.of_exchange_model.Refusing.{gated}
use Rattle.slave_server.specs.of_eoe.Address.{is_block}
use Rattle.slave_server.specs.of_eoe.Message.{eoe_text}
use Rattle.slave_server.specs.of_eoe.declared.message.Eoe.TheVariants.{Fragment as Part}
use Rattle.slave_server.specs.of_eoe.declared.message.Fragment.{Fragment}
use Rattle.slave_server.specs.of_protocol_models.CoeMails as CoeMails
use Rattle.slave_server.specs.of_protocol_models.CoeMeaning as Coe
use Rattle.slave_server.specs.of_protocol_models.CoeOctets.{coe_mail_written}
use Rattle.slave_server.specs.of_protocol_models.CoeServer.{Emission, emergency, packet, emission_of, issued}
use Rattle.slave_server.specs.of_protocol_models.Tables as Tables
use Rattle.slave_server.specs.of_coe_server.ObjectTables.{stores, reads, tells}
use Rattle.slave_server.specs.of_protocol_models.FoeMeaning as Foe
use Rattle.slave_server.specs.of_protocol_models.SoeClient as Soe
use Rattle.slave_server.specs.of_protocol_models.Elements as Elements
use Rattle.slave_server.specs.of_protocol_models.EoeClient as Eoe
use Rattle.slave_server.specs.of_protocol_models.Echo.{echo_of}
use Rattle.slave_server.specs.of_protocol_models.EoeMails as EoeMails
use Rattle.slave_server.specs.of_protocol_models.Network.{Station}
use Rattle.slave_server.specs.of_protocol_models.EoeOctets.{eoe_mail_written}
use Rattle.slave_server.specs.of_protocol_models.EoeServer.{sends, addressed}
use Rattle.slave_server.specs.of_segment_plan.declared.service.Service as Plan
use Rattle.slave_server.specs.of_state_model.Families.{InState}
use Rattle.slave_server.specs.of_segment_plan.declared.service.Service.TheVariants as Asked
use Rattle.slave_server.specs.of_slave_model.Profile.{Protocol, Profile, serves}
use Rattle.slave_server.specs.of_slave_model.Application as Application
use Rattle.slave_server.specs.of_slave_model.Application.{station_tables, station_files, network}
use Rattle.slave_server.specs.of_slave_model.Server.{Seat, Reply, ServiceOf, told_by}
use Rattle.slave_server.specs.of_slave_model.Product.{served, refusal, side, product}
use Rattle.slave_server.specs.of_slave_parts.Parts.{Core, parts}
use Rattle.slave_app.specs.declared.app.App.{App}
use Rattle.slave_app.specs.declared.performed.Performed.{Performed}
use Rattle.slave_app.specs.Meaning as Plain
use Rattle.slave_app.specs.Meaning.{Meant, meant_by, profile_at, sdo_of, replied, valued, counted, meaning_of, IsPerformable}
use Rattle.slave_app.specs.Exchange.{stationed, frame_behind, emission_mails, mail_service, outcome_of, Fits, IsExchanged, IsStateExchanged}

-- the fragments of a packet are the same mails of CoE and of EoE
fragments_told : (fs : List Fragment) → map (told_by coe_mail_written) (map CoeMails.fragment (map (λ (f : Fragment). eoe_text (Part f)) fs)) ≡ map (told_by eoe_mail_written) (map EoeMails.part fs)
fragments_told [] = refl
fragments_told (f ∷ fs) = ap (λ l. told_by eoe_mail_written (EoeMails.part f) ∷ l) (fragments_told fs)

-- what stands in an option that is there
at_some : {X : Type 0} (P : X → Type 0) (x y : X) → P x → Some x ≡ Some y → P y
at_some P x y holds e = subst P (ap (λ o. unwrap_or o x) e) holds

module _ (a : App) (out back frame : ℕ) where
  abbrev profile : Profile
  profile = profile_at a out back

  abbrev station : Station Core
  station = (stationed frame a).inner

  abbrev Side : Protocol → Type 0
  Side i = Exchange (Seat Objects.Table Store.Kept Idns.Table i) (Station Core) Body (ServiceOf i) Reply

  -- a service at the application, against its protocol alone
  record Agrees (i : Protocol) (x : Side i) (q : ServiceOf i) (m : Meant) : Type 0 where
    exec : record (stationed frame a) { inner = x.exec station q } ≡ stationed (frame_behind frame m.emission) m.app
    reply : x.speech.handed q ≡ false → x.reply station q ≡ m.reply
    emits : x.emits station q ≡ emission_mails back frame m.emission

  abbrev serving : (i : Protocol) → Side i
  serving i = served parts profile a.al i

  -- the same of what a protocol's own meaning has
  record Means (station_behind : Station Core) (reply_is : Reply) (mails : List Body) (m : Meant) : Type 0 where
    exec : record (stationed frame a) { inner = station_behind } ≡ stationed (frame_behind frame m.emission) m.app
    reply : reply_is ≡ m.reply
    emits : mails ≡ emission_mails back frame m.emission

  -- ---- CoE

  abbrev sdo_means : Coe.Meaning (Station Core) → Meant → Type 0
  sdo_means x m = Means x.app x.reply (map (told_by coe_mail_written) x.emits) m

  stored_by : (objects : Objects.Table) (e : Option Emission) →
      sdo_means (let i = issued (station_tables parts back a.al) (record station { app = record station.app { objects = objects } }) e in record { app = i.0; reply = (ReplyKind.Done, []); emits = i.1 })
      (record { app = record a { objects = objects }; reply = (ReplyKind.Done, []); emission = e })
  stored_by objects None = record { exec = refl; reply = refl; emits = refl }
  stored_by objects (Some (emergency octets)) = record { exec = refl; reply = refl; emits = refl }
  stored_by objects (Some (packet octets)) = record { exec = refl; reply = refl; emits = fragments_told _ }

  download_by : (t : Tables.Target) (bytes : List ℕ) (r : Result Objects.Table ℕ) →
      sdo_means (Coe.download_means (station_tables parts back a.al) a.eoe station t bytes (Application.stored station r)) (Plain.downloaded a t bytes r)
  download_by t bytes (Ok objects) = stored_by objects (emission_of a.eoe t bytes)
  download_by t bytes (Err code) = record { exec = refl; reply = refl; emits = refl }

  told_as : (r : Result (List ℕ) ℕ) → sdo_means (Coe.value_means station r) (Plain.told a r)
  told_as (Ok bytes) = record { exec = refl; reply = refl; emits = refl }
  told_as (Err code) = record { exec = refl; reply = refl; emits = refl }

  sdo_by : (q : Coe.Service) → sdo_means (Coe.meaning_of (station_tables parts back a.al) a.eoe station q) (Plain.sdo_meaning a q)
  sdo_by (Coe.download t bytes) = download_by t bytes (stores a.al a.objects t bytes)
  sdo_by (Coe.upload t) = told_as (reads a.al a.objects t)
  sdo_by (Coe.information ask) = told_as (tells a.objects ask)

  sdo_agrees : (q : Coe.Service) → Agrees Protocol.CoE (serving Protocol.CoE) q (Plain.sdo_meaning a q)
  sdo_agrees q = let m = sdo_by q in record { exec = m.exec; reply = λ h. m.reply; emits = m.emits }

  -- ---- FoE

  abbrev file_means : Foe.Meaning (Station Core) → Meant → Type 0
  file_means x m = Means x.app x.reply [] m

  read_by : (name : List ℕ) (refusal : Option ℕ) → file_means (Foe.read_means (station_files parts a.al) station name refusal) (Plain.file_read a name refusal)
  read_by name None = record { exec = refl; reply = refl; emits = refl }
  read_by name (Some code) = record { exec = refl; reply = refl; emits = refl }

  put_by : (name bytes : List ℕ) (fits : Bool) →
      file_means (if fits then record { app = (station_files parts a.al).put station name bytes; reply = (ReplyKind.Done, []) } else Foe.refused station 0x8003)
      (if fits then replied (Plain.with_files a (Store.put a.files.kept name bytes)) ReplyKind.Done else replied (Plain.with_files a a.files.kept) (ReplyKind.FoeError 0x8003))
  put_by name bytes true = record { exec = refl; reply = refl; emits = refl }
  put_by name bytes false = record { exec = refl; reply = refl; emits = refl }

  write_by : (name bytes : List ℕ) (refusal : Option ℕ) → file_means (Foe.write_means (station_files parts a.al) station name bytes refusal) (Plain.file_written a name bytes refusal)
  write_by name bytes None = put_by name bytes (Store.has_room a.files.kept (length bytes))
  write_by name bytes (Some code) = record { exec = refl; reply = refl; emits = refl }

  read_agrees : (name : List ℕ) (pass : ℕ) →
      Agrees Protocol.FoE (serving Protocol.FoE) (Foe.read name pass) (Plain.file_read a name (Store.allowed a.files.kept name pass false a.al))
  read_agrees name pass = let m = read_by name (Store.allowed a.files.kept name pass false a.al) in record { exec = m.exec; reply = λ h. m.reply; emits = m.emits }

  write_agrees : (name : List ℕ) (pass : ℕ) (bytes : List ℕ) →
      Agrees Protocol.FoE (serving Protocol.FoE) (Foe.write name pass bytes) (Plain.file_written a name bytes (Store.allowed a.files.kept name pass true a.al))
  write_agrees name pass bytes = let m = write_by name bytes (Store.allowed a.files.kept name pass true a.al) in record { exec = m.exec; reply = λ h. m.reply; emits = m.emits }

  -- ---- SoE

  abbrev drive_means : Soe.Meaning (Station Core) → Meant → Type 0
  drive_means x m = Means x.app x.reply [] m

  element_by : (r : Result (List ℕ) ℕ) → drive_means (Soe.read_means station r) (Plain.element_read a r)
  element_by (Ok bytes) = record { exec = refl; reply = refl; emits = refl }
  element_by (Err code) = record { exec = refl; reply = refl; emits = refl }

  written_by : (r : Result Idns.Table ℕ) → drive_means (Soe.write_means station (Application.written station r)) (Plain.element_written a r)
  written_by (Ok idns) = record { exec = refl; reply = refl; emits = refl }
  written_by (Err code) = record { exec = refl; reply = refl; emits = refl }

  element_agrees : (t : Elements.Target) → Agrees Protocol.SoE (serving Protocol.SoE) (Soe.read t) (Plain.element_read a (Idns.read_at a.idns t))
  element_agrees t = let m = element_by (Idns.read_at a.idns t) in record { exec = m.exec; reply = λ h. m.reply; emits = m.emits }

  written_agrees : (t : Elements.Target) (bytes : List ℕ) → Agrees Protocol.SoE (serving Protocol.SoE) (Soe.write t bytes) (Plain.element_written a (Idns.write_at a.idns t bytes))
  written_agrees t bytes = let m = written_by (Idns.write_at a.idns t bytes) in record { exec = m.exec; reply = λ h. m.reply; emits = m.emits }

  -- ---- EoE

  abbrev net_means : Eoe.Meaning Core → Meant → Type 0
  net_means x m = Means x.station x.reply (map (told_by eoe_mail_written) x.emits) m

  set_by : (block : List ℕ) (fixed : Bool) →
      net_means (Eoe.set_means station (if fixed then None else Some (record station.app { block = block })))
      (if fixed then replied a (ReplyKind.EoeResult 1) else replied (record a { block = record { items = block } }) ReplyKind.Done)
  set_by block true = record { exec = refl; reply = refl; emits = refl }
  set_by block false = record { exec = refl; reply = refl; emits = refl }

  -- a block that fits is judged by whether the addresses are fixed alone
  judged : (block : List ℕ) → is_block block ≡ true → length block ≤ back - 10 →
      addressed (network parts profile) back station.app block ≡ (if a.fixed_ip then None else Some (record station.app { block = block }))
  judged block is fits =
      ap (λ b. if b && nat_le (length block) (back - 10) then (if a.fixed_ip then None else Some (record station.app { block = block })) else None) is
      ∙ ap (λ b. if b then (if a.fixed_ip then None else Some (record station.app { block = block })) else None) (le-leb (length block) (back - 10) fits)

  set_agrees : (block : List ℕ) → is_block block ≡ true → length block ≤ back - 10 → Agrees Protocol.EoE (serving Protocol.EoE) (Eoe.set_ip block) (Plain.addressed a block)
  set_agrees block is fits =
      let m = set_by block a.fixed_ip in
      let e = judged block is fits in
      record {
        exec = ap (λ o. record (stationed frame a) { inner = (Eoe.set_means station o).station }) e ∙ m.exec;
        reply = λ h. ap (λ o. (Eoe.set_means station o).reply) e ∙ m.reply;
        emits = ap (λ o. map (told_by eoe_mail_written) (Eoe.set_means station o).emits) e ∙ m.emits;
      }

  get_agrees : Agrees Protocol.EoE (serving Protocol.EoE) Eoe.get_ip (valued a a.block.items)
  get_agrees = record { exec = refl; reply = λ h. refl; emits = refl }

  sent_by : (sent : Option (List ℕ)) →
      net_means (let d = sends back frame (station.app, sent) in record { station = d.0; reply = (ReplyKind.Handed, []); emits = d.1 })
      (record (replied a ReplyKind.Handed) { emission = option_map (λ octets. packet octets) sent })
  sent_by None = record { exec = refl; reply = refl; emits = refl }
  sent_by (Some octets) = record { exec = refl; reply = refl; emits = refl }

  packet_agrees : (octets : List ℕ) (number : ℕ) → Agrees Protocol.EoE (serving Protocol.EoE) (Eoe.packet octets number) (Plain.delivered a octets)
  packet_agrees octets number = let m = sent_by (echo_of a.mac octets) in record { exec = m.exec; reply = λ h. m.reply; emits = m.emits }

  -- ---- served or refused

  gated_by : (i : Protocol) (q : ServiceOf i) (m : Meant) (refused : ReplyKind) → Agrees i (serving i) q m → ((serving i).speech.handed q ≡ false → ReplyKind.MailboxError 2 ≡ refused) → (b : Bool) →
      Agrees i (gated b (serving i) (refusal parts profile a.al i)) q (if b then m else replied a refused)
  gated_by i q m refused agrees kind true = agrees
  gated_by i q m refused agrees kind false = record { exec = refl; reply = λ h. ap (λ k. (k, [])) (kind h); emits = refl }

  -- whether a service is over with its last write depends on no AL state
  gated_handed : (i : Protocol) (q : ServiceOf i) (al : ℕ) (b : Bool) →
      (gated b (served parts profile al i) (refusal parts profile al i)).speech.handed q ≡ (served parts profile al i).speech.handed q
  gated_handed i q al true = refl
  gated_handed i q al false = refl

  served_handed : (i : Protocol) (q : ServiceOf i) → (served parts profile 0 i).speech.handed q ≡ (serving i).speech.handed q
  served_handed Protocol.CoE q = refl
  served_handed Protocol.FoE q = refl
  served_handed Protocol.SoE q = refl
  served_handed Protocol.EoE q = refl

  handed_same : (i : Protocol) (q : ServiceOf i) → (product parts profile).speech.handed (i, q) ≡ (side parts profile a.al i).speech.handed q
  handed_same i q = gated_handed i q 0 (serves profile 0 i) ∙ served_handed i q ∙ sym (gated_handed i q a.al (serves profile a.al i))

  exchanged : (i : Protocol) (q : ServiceOf i) (m : Meant) → Agrees i (side parts profile a.al i) q m → IsExchanged a (counted a.handled true m) out back frame (i, q)
  exchanged i q m agrees = record { exec = agrees.exec; reply = λ h. agrees.reply (sym (handed_same i q) ∙ h); emits = agrees.emits }

  abbrev unserved : ReplyKind
  unserved = ReplyKind.MailboxError 2

  performed_by : (number : ℕ) (s : Plan.Service) → IsPerformable s → Fits back s → (q : (i : Protocol) × ServiceOf i) → mail_service number s ≡ Some q → IsExchanged a (meaning_of a s) out back frame q
  performed_by number (Asked.Sdo x) is fits q e =
      at_some (IsExchanged a (meaning_of a (Asked.Sdo x)) out back frame) _ q
      (exchanged Protocol.CoE (sdo_of x) _ (gated_by Protocol.CoE (sdo_of x) (Plain.sdo_meaning a (sdo_of x)) unserved (sdo_agrees (sdo_of x)) (λ h. refl) (serves profile a.al Protocol.CoE))) e
  performed_by number (Asked.ReadFile name pass) is fits q e =
      at_some (IsExchanged a (meaning_of a (Asked.ReadFile name pass)) out back frame) _ q
      (exchanged Protocol.FoE (Foe.read name.items pass) _ (gated_by Protocol.FoE (Foe.read name.items pass) _ unserved (read_agrees name.items pass) (λ h. refl) (serves profile a.al Protocol.FoE))) e
  performed_by number (Asked.WriteFile name pass bytes) is fits q e =
      at_some (IsExchanged a (meaning_of a (Asked.WriteFile name pass bytes)) out back frame) _ q
      (exchanged Protocol.FoE (Foe.write name.items pass bytes) _ (gated_by Protocol.FoE (Foe.write name.items pass bytes) _ unserved (write_agrees name.items pass bytes) (λ h. refl) (serves profile a.al Protocol.FoE))) e
  performed_by number (Asked.ReadIdn drive idn elements) is fits q e =
      let t = Elements.target drive idn elements in
      at_some (IsExchanged a (meaning_of a (Asked.ReadIdn drive idn elements)) out back frame) _ q
      (exchanged Protocol.SoE (Soe.read t) _ (gated_by Protocol.SoE (Soe.read t) _ unserved (element_agrees t) (λ h. refl) (serves profile a.al Protocol.SoE))) e
  performed_by number (Asked.WriteIdn drive idn elements bytes) is fits q e =
      let t = Elements.target drive idn elements in
      at_some (IsExchanged a (meaning_of a (Asked.WriteIdn drive idn elements bytes)) out back frame) _ q
      (exchanged Protocol.SoE (Soe.write t bytes) _ (gated_by Protocol.SoE (Soe.write t bytes) _ unserved (written_agrees t bytes) (λ h. refl) (serves profile a.al Protocol.SoE))) e
  performed_by number (Asked.SetIp block) is fits q e =
      at_some (IsExchanged a (meaning_of a (Asked.SetIp block)) out back frame) _ q
      (exchanged Protocol.EoE (Eoe.set_ip block) _ (gated_by Protocol.EoE (Eoe.set_ip block) _ unserved (set_agrees block is.0 fits) (λ h. refl) (serves profile a.al Protocol.EoE))) e
  performed_by number Asked.GetIp is fits q e =
      at_some (IsExchanged a (meaning_of a Asked.GetIp) out back frame) _ q
      (exchanged Protocol.EoE Eoe.get_ip _ (gated_by Protocol.EoE Eoe.get_ip _ unserved get_agrees (λ h. refl) (serves profile a.al Protocol.EoE))) e
  performed_by number (Asked.Forward p) is fits q e =
      at_some (IsExchanged a (meaning_of a (Asked.Forward p)) out back frame) _ q
      (exchanged Protocol.EoE (Eoe.packet p.items number) _
      (gated_by Protocol.EoE (Eoe.packet p.items number) _ ReplyKind.Handed (packet_agrees p.items number) (λ h. absurd (cc)) (serves profile a.al Protocol.EoE))) e
  performed_by number (Asked.State to) is fits q e = absurd (cc)

-- a change of the AL state by what refuses it, where it does not return to Init
module _ (a : App) (out back frame words to : ℕ) (forward : Plain.opened to ≡ to) where
  -- the application in another AL state, and with the count of words
  abbrev behind : ℕ → InState (Station Core)
  behind state = record (stationed frame a) { state = state }

  abbrev beside : InState (Station Core) → InState (Station Core) × ℕ
  beside x = (x, suc words)

  -- the application behind it and its reply, by the exchange and by the meaning
  record Changes (refusal : Option ℕ) : Type 0 where
    exec : behind (reached refusal a.al to) ≡ stationed frame (Plain.state_meaning a to refusal).app
    reply : answer_of refusal ≡ outcome_of (Plain.state_meaning a to refusal).reply.0
    emits : (Plain.state_meaning a to refusal).emission ≡ None

  changes_by : (refusal : Option ℕ) → Changes refusal
  changes_by None = record { exec = ap behind (sym forward); reply = refl; emits = refl }
  changes_by (Some code) = record { exec = refl; reply = refl; emits = refl }

  changed_by : (refusal : Option ℕ) → refusal ≡ States.refusal_of a.al to a.boot true → IsStateExchanged a (Plain.state_meaning a to refusal) out back frame words to
  changed_by refusal is =
      let c = changes_by refusal in
      record {
        exec = ap (λ r. beside (behind (reached r a.al to))) (sym is) ∙ ap beside c.exec;
        reply = ap (λ r. answer_of r) (sym is) ∙ c.reply;
        emits = c.emits;
      }

changed : (a : App) (out back frame words to : ℕ) → (to == 1) ≡ false → (to == 3) ≡ false → IsStateExchanged a (meaning_of a (Asked.State to)) out back frame words to
changed a out back frame words to one three =
    changed_by a out back frame words to (ap (λ b. if b then 2 else to) one) (Plain.state_refusal a to)
    (ap (λ b. if b then None else if to == 3 then (if a.boot then None else Some 0x0013) else States.refusal_of a.al to a.boot true) one
    ∙ ap (λ b. if b then (if a.boot then None else Some 0x0013) else States.refusal_of a.al to a.boot true) three)

-- a service performed is the exchange's
pub is_exchanged : (a : App) (s : Plan.Service) (m : Meant) → m ≡ meaning_of a s → IsPerformable s → (out back frame number : ℕ) (q : (i : Protocol) × ServiceOf i) → mail_service number s ≡ Some q → Fits back s →
    IsExchanged a m out back frame q
is_exchanged a s m means is out back frame number q e fits = subst (λ w. IsExchanged a w out back frame q) (sym means) (performed_by a out back frame number s is fits q e)

-- the same where the service came to an end
pub all_exchanged : {E : Type 0} (r : Result Performed E) (a new : App) (s : Plan.Service) → IsPerformable s → IfOk r (λ done. meant_by new done ≡ meaning_of a s) →
    IfOk r (λ done. (out back frame number : ℕ) (q : (i : Protocol) × ServiceOf i) → mail_service number s ≡ Some q → Fits back s → IsExchanged a (meant_by new done) out back frame q)
all_exchanged (Ok done) a new s is means = λ out back frame number q e fits. is_exchanged a s (meant_by new done) means is out back frame number q e fits
all_exchanged (Err e) a new s is means = tt

pub all_changed : {E : Type 0} (r : Result Performed E) (a new : App) (s : Plan.Service) → IfOk r (λ done. meant_by new done ≡ meaning_of a s) →
    IfOk r (λ done. (out back frame words to : ℕ) → s ≡ Asked.State to → (to == 1) ≡ false → (to == 3) ≡ false → IsStateExchanged a (meant_by new done) out back frame words to)
all_changed (Ok done) a new s means = λ out back frame words to is one three.
    subst (λ w. IsStateExchanged a w out back frame words to) (sym (means ∙ ap (meaning_of a) is)) (changed a out back frame words to one three)
all_changed (Err e) a new s means = tt
