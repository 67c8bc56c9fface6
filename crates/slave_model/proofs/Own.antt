-- What each protocol owes to stand beside the others.
use Rattle.std.proofs.Common.{◌≡◌, ℕ, zero, suc, ◌+◌, ◌-◌, ◌&&◌, nat_le, nat_lt, Bool, true, false, List, [], ◌∷◌, ◌++◌, map, length, take, drop, Result, Ok, Err, refl, sym, ap, ◌∙◌, subst}
use Rattle.std.specs.Prelude.{if◌then◌else◌, ◌*◌, ◌/◌}
use Rattle.link_mails.specs.Body.{Body}
use Rattle.protocol_models.specs.of_eoe.declared.message.Eoe.{Eoe}
use Rattle.protocol_models.specs.of_eoe.declared.message.EoeFault.{EoeFault}
use Rattle.protocol_models.specs.of_eoe.Message.{eoe_read, eoe_text}
use Rattle.protocol_models.specs.of_exchange_model.Exchange.{Exchange, given}
use Rattle.protocol_models.specs.of_exchange_model.Lifted.{EachOf, ReadsBack, lifted}
use Rattle.protocol_models.specs.of_exchange_model.Refusing.{refused_serve, gated}
use Rattle.protocol_models.specs.CoeMails as CoeMails
use Rattle.protocol_models.specs.CoeOctets as CoeOctets
use Rattle.protocol_models.specs.FoeMails as FoeMails
use Rattle.std.proofs.lemmas.List.{map-append}
use Rattle.protocol_models.specs.of_eoe.Cutting.{fragments_of}
use Rattle.protocol_models.proofs.of_exchange_model.Turns.{sent_each}
use Rattle.protocol_models.specs.Tables as Tables
use Rattle.protocol_models.specs.Tables.{Ask}
use Rattle.protocol_models.specs.CoeMeaning as CoeMeaning
use Rattle.protocol_models.specs.CoeClient as CoeClient
use Rattle.protocol_models.specs.CoeModel as CoeModel
use Rattle.protocol_models.proofs.CoeSpeaks.{is_request}
use Rattle.protocol_models.proofs.CoeLaw.{full_all, ask_full}
use Rattle.protocol_models.specs.FoeMeaning as FoeMeaning
use Rattle.protocol_models.specs.FoeClient as FoeClient
use Rattle.protocol_models.specs.FoeServer.{packet_room, serve}
use Rattle.protocol_models.specs.Elements.{Target}
use Rattle.protocol_models.specs.SoeClient as SoeClient
use Rattle.protocol_models.specs.EoeClient as EoeClient
use Rattle.protocol_models.specs.FoeOctets as FoeOctets
use Rattle.protocol_models.specs.FoeModel as FoeModel
use Rattle.protocol_models.specs.SoeModel as SoeModel
use Rattle.protocol_models.specs.EoeModel as EoeModel
use Rattle.protocol_models.specs.SoeMails as SoeMails
use Rattle.protocol_models.specs.SoeOctets as SoeOctets
use Rattle.protocol_models.specs.EoeMails as EoeMails
use Rattle.protocol_models.specs.EoeOctets as EoeOctets
use Rattle.slave_model.specs.Profile.{Protocol, Profile, IsProfile, serves, areas_of}
use Rattle.slave_model.specs.Application.{Parts, ArePartsLawful, station_tables, station_files, station_elements, network}
use Rattle.slave_model.specs.Server.{Seat, ServiceOf, failure, heard_by, told_by, refused_gives, soe_quiet, eoe_quiet}
use Rattle.slave_model.specs.Product.{served, asked, refusal, emission}
use Rattle.slave_model.specs.Owning.{mine, AreOwn}
use Rattle.slave_model.proofs.Stations.{fragment_told, tables_law}
use Rattle.slave_model.proofs.Sides.{sized, eoe_spelled}

each_both : {M : Type 0} (P : M → Type 0) (xs ys : List M) → EachOf P xs → EachOf P ys → EachOf P (xs ++ ys)
each_both P [] ys a b = b
each_both P (x ∷ xs) ys a b = (a.0, each_both P xs ys a.1 b)

each_mapped : {M N : Type 0} (P : N → Type 0) (f : M → N) → ((m : M) → P (f m)) → (ms : List M) → EachOf P (map f ms)
each_mapped P f all [] = tt
each_mapped P f all (m ∷ ms) = (all m, each_mapped P f all ms)

-- what an exchange over written mails gives are written mails
given_told : {V A X Q R : Type 0} (x : Exchange V A X Q R) (read : Body → X) (write : X → Body) (P : Body → Type 0) → ((m : X) → P (write m)) → (v : V) (bs : List Body) → EachOf P (given (lifted x read write).serve v bs)
given_told x read write P all v [] = tt
given_told x read write P all v (b ∷ bs) = each_both P (map write (x.serve v (read b)).1) (given (lifted x read write).serve (x.serve v (read b)).0 bs) (each_mapped P write all (x.serve v (read b)).1) (given_told x read write P all (x.serve v (read b)).0 bs)

-- the mails of FoE and SoE are no emissions, told by their type
foe_calm : (m : FoeMails.FoeMail) → emission (told_by FoeOctets.foe_mail_written m) ≡ false
foe_calm (FoeMails.mail f) = refl
foe_calm (FoeMails.unread fault) = refl
foe_calm (FoeMails.failed detail) = refl
foe_calm (FoeMails.other body) = refl

soe_calm : (m : SoeMails.SoeMail) → emission (told_by SoeOctets.soe_mail_written m) ≡ false
soe_calm (SoeMails.mail s) = refl
soe_calm (SoeMails.unread fault incomplete) = refl
soe_calm (SoeMails.failed detail) = refl
soe_calm (SoeMails.other body) = refl

-- what is no fragment by its first octet is no emission
calm_if : (b : Bool) (body : List ℕ) → CoeMails.is_emission (if b && false then CoeMails.fragment body else CoeMails.other body) ≡ false
calm_if true body = refl
calm_if false body = refl

-- an EoE mail is an emission of the slave where it is a fragment
eoe_told : (e : Eoe) → emission (told_by EoeOctets.eoe_mail_written (EoeMails.mail e)) ≡ EoeMails.is_emission (EoeMails.mail e)
eoe_told (EoeMails.Part f) = ap (λ (b : Bool). CoeMails.is_emission (if b then CoeMails.fragment (eoe_text (EoeMails.Part f)) else CoeMails.other (eoe_text (EoeMails.Part f)))) (fragment_told f)
eoe_told (EoeMails.SetIp block) = calm_if (nat_le 4 (length (eoe_text (EoeMails.SetIp block)))) (eoe_text (EoeMails.SetIp block))
eoe_told (EoeMails.SetIpAnswer result_code) = calm_if (nat_le 4 (length (eoe_text (EoeMails.SetIpAnswer result_code)))) (eoe_text (EoeMails.SetIpAnswer result_code))
eoe_told EoeMails.GetIp = calm_if (nat_le 4 (length (eoe_text EoeMails.GetIp))) (eoe_text EoeMails.GetIp)
eoe_told (EoeMails.GetIpAnswer result_code block) = calm_if (nat_le 4 (length (eoe_text (EoeMails.GetIpAnswer result_code block)))) (eoe_text (EoeMails.GetIpAnswer result_code block))

pub foe_gives : {T F I : Type 0} (o : Parts T F I) (p : Profile) (al : ℕ) (v : Seat T F I Protocol.FoE) (bs : List Body) → EachOf (λ g. emission g ≡ (served o p al Protocol.FoE).speech.emission g) (given (served o p al Protocol.FoE).serve v bs)
foe_gives o p al v bs = given_told (FoeModel.foe_exchange (station_files o al) (areas_of p)) (heard_by FoeOctets.foe_mail_heard (FoeMails.other [])) (told_by FoeOctets.foe_mail_written) (λ g. emission g ≡ (served o p al Protocol.FoE).speech.emission g) foe_calm v bs

pub soe_gives : {T F I : Type 0} (o : Parts T F I) (p : Profile) (al : ℕ) (v : Seat T F I Protocol.SoE) (bs : List Body) → EachOf (λ g. emission g ≡ (served o p al Protocol.SoE).speech.emission g) (given (served o p al Protocol.SoE).serve v bs)
soe_gives o p al v bs = given_told (SoeModel.soe_exchange (station_elements o) (areas_of p)) (heard_by SoeOctets.soe_mail_heard (SoeMails.other [])) (told_by SoeOctets.soe_mail_written) (λ g. emission g ≡ (served o p al Protocol.SoE).speech.emission g) soe_calm v bs

-- what EoE gives for a whole service is told apart by the slave as by EoE
eoe_each : (es : List EoeMails.EoeMail) → EachOf (ReadsBack EoeOctets.eoe_mail_heard EoeOctets.eoe_mail_written) es →
    EachOf (λ g. emission g ≡ EoeMails.is_emission (heard_by EoeOctets.eoe_mail_heard (EoeMails.other []) g)) (map (told_by EoeOctets.eoe_mail_written) es)
eoe_each [] all = tt
eoe_each (e ∷ es) all = (eoe_one e all.0, eoe_each es all.1)
  where
    by_read : (r : Result Eoe EoeFault) (body : List ℕ) (kind : ℕ) → EoeOctets.heard body r ≡ EoeMails.unsupported kind → ⊥
    by_read (Ok e) body kind is = absurd (cc)
    by_read (Err fault) body kind is = absurd (cc)

    eoe_one : (e : EoeMails.EoeMail) → ReadsBack EoeOctets.eoe_mail_heard EoeOctets.eoe_mail_written e → emission (told_by EoeOctets.eoe_mail_written e) ≡ EoeMails.is_emission (EoeOctets.eoe_mail_heard (EoeOctets.eoe_mail_written e))
    eoe_one (EoeMails.mail e) back = eoe_told e ∙ ap EoeMails.is_emission (sym back)
    eoe_one (EoeMails.unread fault kind) back = refl
    eoe_one (EoeMails.unsupported kind) back = absurd (by_read (eoe_read (EoeOctets.eoe_mail_written (EoeMails.unsupported kind)).body.items) (EoeOctets.eoe_mail_written (EoeMails.unsupported kind)).body.items kind back)
    eoe_one (EoeMails.failed detail) back = refl
    eoe_one (EoeMails.other body) back = refl

each_from : {M N : Type 0} (P : M → Type 0) (Q : N → Type 0) (f : M → N) → ((m : M) → P m → Q (f m)) → (ms : List M) → EachOf P ms → EachOf Q (map f ms)
each_from P Q f step [] all = tt
each_from P Q f step (m ∷ ms) all = (step m all.0, each_from P Q f step ms all.1)

each_first : {M : Type 0} (P : M → Type 0) (ms : List M) → EachOf P ms → EachOf P (take 1 ms)
each_first P [] all = tt
each_first P (m ∷ ms) all = (all.0, tt)

-- the mails of the clients are of their own protocol
coe_mine : (m : CoeMails.CoeMail) → is_request m ≡ true → mine Protocol.CoE (told_by CoeOctets.coe_mail_written m) ≡ true
coe_mine (CoeMails.mail c) e = refl
coe_mine m e = absurd (cc)

coe_each : (ms : List CoeMails.CoeMail) → EachOf (λ m. is_request m ≡ true) ms → EachOf (λ b. mine Protocol.CoE b ≡ true) (map (told_by CoeOctets.coe_mail_written) ms)
coe_each ms all = each_from (λ m. is_request m ≡ true) (λ b. mine Protocol.CoE b ≡ true) (told_by CoeOctets.coe_mail_written) coe_mine ms all

ask_mine : (a : Ask) → mine Protocol.CoE (told_by CoeOctets.coe_mail_written (CoeClient.information_mail a)) ≡ true
ask_mine (Tables.list kind) = refl
ask_mine (Tables.object index) = refl
ask_mine (Tables.entry index sub info) = refl

abbrev FoeMine : FoeMails.FoeMail → Type 0
FoeMine m = mine Protocol.FoE (told_by FoeOctets.foe_mail_written m) ≡ true

acks_mine : (n number : ℕ) → EachOf FoeMine (FoeClient.acks n number)
acks_mine zero number = tt
acks_mine (suc n) number = (refl, acks_mine n (number + 1))

packets_mine : (fuel out number : ℕ) (bytes : List ℕ) → EachOf FoeMine (FoeClient.packets fuel out number bytes)
packets_mine zero out number bytes = tt
packets_mine (suc fuel) out number bytes = (refl, by (nat_lt (length bytes) (packet_room out)) (packets_mine fuel out (number + 1) (drop (packet_room out) bytes)))
  where
    by : (b : Bool) → EachOf FoeMine (FoeClient.packets fuel out (number + 1) (drop (packet_room out) bytes)) → EachOf FoeMine (if b then [] else FoeClient.packets fuel out (number + 1) (drop (packet_room out) bytes))
    by true all = tt
    by false all = all

foe_mails_mine : (out n : ℕ) (q : FoeMeaning.Service) → EachOf FoeMine (FoeClient.mails_of out q n)
foe_mails_mine out n (FoeMeaning.read name pass) = (refl, acks_mine n 1)
foe_mails_mine out n (FoeMeaning.write name pass bytes) = (refl, packets_mine (suc (length bytes)) out 1 bytes)

abbrev SoeMine : SoeMails.SoeMail → Type 0
SoeMine m = mine Protocol.SoE (told_by SoeOctets.soe_mail_written m) ≡ true

fragments_mine : (fuel opcode part : ℕ) (t : Target) (bytes : List ℕ) → EachOf SoeMine (SoeMails.fragments fuel opcode t part bytes)
fragments_mine zero opcode part t bytes = tt
fragments_mine (suc fuel) opcode part t bytes = by (nat_le (length bytes) part) (fragments_mine fuel opcode part t (drop part bytes))
  where
    by : (b : Bool) → EachOf SoeMine (SoeMails.fragments fuel opcode t part (drop part bytes)) →
        EachOf SoeMine (if b then SoeMails.mail (SoeMails.message opcode false t t.idn bytes) ∷ [] else SoeMails.mail (SoeMails.message opcode true t (SoeMails.parts_of part (length bytes - part)) (take part bytes)) ∷ SoeMails.fragments fuel opcode t part (drop part bytes))
    by true all = (refl, tt)
    by false all = (refl, all)

soe_mails_mine : (out : ℕ) (q : SoeClient.Service) → EachOf SoeMine (SoeClient.mails_of out q)
soe_mails_mine out (SoeClient.read t) = (refl, tt)
soe_mails_mine out (SoeClient.write t bytes) = fragments_mine (suc (length bytes)) 3 (out - 10) t bytes

abbrev EoeMine : EoeMails.EoeMail → Type 0
EoeMine m = mine Protocol.EoE (told_by EoeOctets.eoe_mail_written m) ≡ true

eoe_mails_mine : (out : ℕ) (q : EoeClient.Service) → EachOf EoeMine (EoeClient.mails_of out q)
eoe_mails_mine out (EoeClient.packet octets frame) = each_mapped EoeMine EoeMails.part (λ f. refl) (fragments_of octets (32 * ((out - 10) / 32)) frame)
eoe_mails_mine out (EoeClient.set_ip block) = (refl, tt)
eoe_mails_mine out EoeClient.get_ip = (refl, tt)

-- a mailbox error is no emission, and nothing else is given where a protocol is refused
each_if : (P : Body → Type 0) (b : Bool) → P (failure 2) → EachOf P (if b then [] else failure 2 ∷ [])
each_if P true one = tt
each_if P false one = (one, tt)

refused_each : (P : Body → Type 0) → P (failure 2) → (i : Protocol) (b : Body) → EachOf P (refused_gives i b)
refused_each P one Protocol.CoE b = (one, tt)
refused_each P one Protocol.FoE b = (one, tt)
refused_each P one Protocol.SoE b = each_if P (soe_quiet (heard_by SoeOctets.soe_mail_heard (SoeMails.other []) b)) one
refused_each P one Protocol.EoE b = each_if P (eoe_quiet (heard_by EoeOctets.eoe_mail_heard (EoeMails.other []) b)) one

-- what an exchange over written mails gives for written mails that are read back
given_written : {V A X Q R : Type 0} (x : Exchange V A X Q R) (read : Body → X) (write : X → Body) (v : V) (ms : List X) → EachOf (ReadsBack read write) ms → given (lifted x read write).serve v (map write ms) ≡ map write (given x.serve v ms)
given_written x read write v [] all = refl
given_written x read write v (m ∷ ms) all =
    ap (λ k. map write (x.serve v k).1 ++ given (lifted x read write).serve (x.serve v k).0 (map write ms)) all.0
    ∙ ap (λ l. map write (x.serve v m).1 ++ l) (given_written x read write (x.serve v m).0 ms all.1)
    ∙ sym (map-append write (x.serve v m).1 (given x.serve (x.serve v m).0 ms))

each_body : (ms : List EoeMails.EoeMail) → EachOf (ReadsBack EoeOctets.eoe_mail_heard EoeOctets.eoe_mail_written) ms → EachOf (ReadsBack (heard_by EoeOctets.eoe_mail_heard (EoeMails.other [])) (told_by EoeOctets.eoe_mail_written)) ms
each_body [] all = tt
each_body (m ∷ ms) all = (all.0, each_body ms all.1)

module _ {T F I : Type 0} (o : Parts T F I) (law : ArePartsLawful o) (p : Profile) (is : IsProfile p) (al : ℕ) where
  refused_given : (P : Body → Type 0) → P (failure 2) → (i : Protocol) (v : Seat T F I i) (bs : List Body) → EachOf P (given (refused_serve (refusal o p al i)) v bs)
  refused_given P one i v [] = tt
  refused_given P one i v (b ∷ bs) = each_both P (refused_gives i b) _ (refused_each P one i b) (refused_given P one i (refused_serve (refusal o p al i) v b).0 bs)

  served_sends : (i : Protocol) (v : Seat T F I i) (q : ServiceOf i) → EachOf (λ b. mine i b ≡ true) ((served o p al i).full v q)
  served_sends Protocol.CoE v (CoeMeaning.download t bytes) = coe_each (CoeModel.full (station_tables o p.back al) p.has_eoe (areas_of p) v (CoeMeaning.download t bytes)) (full_all (station_tables o p.back al) (tables_law o law p.back al) p.has_eoe (areas_of p) (sized o law p is al) v (CoeMeaning.download t bytes) tt)
  served_sends Protocol.CoE v (CoeMeaning.upload t) = coe_each (CoeModel.full (station_tables o p.back al) p.has_eoe (areas_of p) v (CoeMeaning.upload t)) (full_all (station_tables o p.back al) (tables_law o law p.back al) p.has_eoe (areas_of p) (sized o law p is al) v (CoeMeaning.upload t) tt)
  served_sends Protocol.CoE v (CoeMeaning.information a) =
      subst (λ ms. EachOf (λ b. mine Protocol.CoE b ≡ true) (map (told_by CoeOctets.coe_mail_written) ms)) (sym (ask_full (station_tables o p.back al) (tables_law o law p.back al) p.has_eoe (areas_of p) (sized o law p is al) v a)) (ask_mine a, tt)
  served_sends Protocol.FoE v q = each_from FoeMine _ (told_by FoeOctets.foe_mail_written) (λ m e. e) _
      (sent_each (serve (station_files o al) p.out p.back) FoeMails.is_emission (FoeClient.decide p.out) FoeMine (FoeModel.turns (station_files o al) v.app q) v (FoeClient.mails_of p.out q (FoeModel.turns (station_files o al) v.app q)) (foe_mails_mine p.out _ q))
  served_sends Protocol.SoE v q = each_from SoeMine _ (told_by SoeOctets.soe_mail_written) (λ m e. e) _ (soe_mails_mine p.out q)
  served_sends Protocol.EoE v q = each_from EoeMine _ (told_by EoeOctets.eoe_mail_written) (λ m e. e) _ (eoe_mails_mine p.out q)

  coe_if : (b : Bool) (x y : CoeMails.CoeMail) (xs ys : List CoeMails.CoeMail) → mine Protocol.CoE (told_by CoeOctets.coe_mail_written x) ≡ true → mine Protocol.CoE (told_by CoeOctets.coe_mail_written y) ≡ true →
      EachOf (λ b. mine Protocol.CoE b ≡ true) (take 1 (map (told_by CoeOctets.coe_mail_written) (if b then x ∷ xs else y ∷ ys)))
  coe_if true x y xs ys a b = (a, tt)
  coe_if false x y xs ys a b = (b, tt)

  asked_own : (i : Protocol) (q : ServiceOf i) → EachOf (λ b. mine i b ≡ true) (asked o p al i q)
  asked_own Protocol.CoE (CoeMeaning.download t bytes) = coe_if _ _ _ _ _ refl refl
  asked_own Protocol.CoE (CoeMeaning.upload t) = (refl, tt)
  asked_own Protocol.CoE (CoeMeaning.information a) = (ask_mine a, tt)
  asked_own Protocol.FoE q = each_first _ (map (told_by FoeOctets.foe_mail_written) (FoeClient.mails_of p.out q 0)) (each_from FoeMine _ (told_by FoeOctets.foe_mail_written) (λ m e. e) _ (foe_mails_mine p.out 0 q))
  asked_own Protocol.SoE q = each_from SoeMine _ (told_by SoeOctets.soe_mail_written) (λ m e. e) _ (soe_mails_mine p.out q)
  asked_own Protocol.EoE q = each_from EoeMine _ (told_by EoeOctets.eoe_mail_written) (λ m e. e) _ (eoe_mails_mine p.out q)

  sends_by : (i : Protocol) (b : Bool) (v : Seat T F I i) (q : ServiceOf i) → EachOf (λ m. mine i m ≡ true) ((gated b (served o p al i) (refusal o p al i)).full v q)
  sends_by i true v q = served_sends i v q
  sends_by i false v q = asked_own i q

  failure_told : (i : Protocol) → emission (failure 2) ≡ (served o p al i).speech.emission (failure 2)
  failure_told Protocol.CoE = refl
  failure_told Protocol.FoE = refl
  failure_told Protocol.SoE = refl
  failure_told Protocol.EoE = refl

  served_gives : (i : Protocol) (v : Seat T F I i) (q : ServiceOf i) → (served o p al i).ready v ≡ true → (served o p al i).speech.valid q ≡ true →
      EachOf (λ g. emission g ≡ (served o p al i).speech.emission g) (given (served o p al i).serve v ((served o p al i).full v q))
  served_gives Protocol.CoE v q ready valid = given_told (CoeModel.coe_exchange (station_tables o p.back al) p.has_eoe (areas_of p)) (heard_by CoeOctets.coe_mail_heard (CoeMails.other [])) (told_by CoeOctets.coe_mail_written)
      (λ g. emission g ≡ (served o p al Protocol.CoE).speech.emission g) (λ m. refl) v ((served o p al Protocol.CoE).full v q)
  served_gives Protocol.FoE v q ready valid = foe_gives o p al v ((served o p al Protocol.FoE).full v q)
  served_gives Protocol.SoE v q ready valid = soe_gives o p al v ((served o p al Protocol.SoE).full v q)
  served_gives Protocol.EoE v q ready valid =
      let spelled = eoe_spelled o law p is al in
      let x = EoeModel.eoe_exchange (network o p) (areas_of p) in
      subst (EachOf (λ g. emission g ≡ (served o p al Protocol.EoE).speech.emission g))
      (sym (given_written x (heard_by EoeOctets.eoe_mail_heard (EoeMails.other [])) (told_by EoeOctets.eoe_mail_written) v (x.full v q) (each_body (x.full v q) (spelled.told v q ready valid))))
      (eoe_each (given x.serve v (x.full v q)) (spelled.answered v q ready valid))

  gives_by : (i : Protocol) (b : Bool) (v : Seat T F I i) (q : ServiceOf i) → (gated b (served o p al i) (refusal o p al i)).ready v ≡ true → (gated b (served o p al i) (refusal o p al i)).speech.valid q ≡ true →
      EachOf (λ g. emission g ≡ (gated b (served o p al i) (refusal o p al i)).speech.emission g) (given (gated b (served o p al i) (refusal o p al i)).serve v ((gated b (served o p al i) (refusal o p al i)).full v q))
  gives_by i true v q ready valid = served_gives i v q ready valid
  gives_by i false v q ready valid = refused_given (λ g. emission g ≡ (served o p al i).speech.emission g) (failure_told i) i v (asked o p al i q)

  pub are_own : (i : Protocol) → AreOwn o p al i
  are_own i = record { sends = λ v q ready valid. sends_by i (serves p al i) v q; gives = gives_by i (serves p al i) }
