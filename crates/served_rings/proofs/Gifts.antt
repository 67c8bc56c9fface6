-- What the servers of a slave give for a mail: answers, which are no emissions, and behind them emissions.
use Rattle.std.proofs.Common.{◌≡◌, ℕ, zero, suc, ◌+◌, ◌-◌, ◌*◌, ◌/◌, ◌%◌, ◌==◌, ◌||◌, not, cond, nat_le, nat_lt, Bool, true, false, List, [], ◌∷◌, ◌++◌, map, take, drop, length, Option, Some, None, Result, Ok, Err, refl, ap, sym, ◌∙◌, subst, append-nil, if◌then◌else◌}
use Rattle.run_work.specs.of_mailbox_mail.declared.mail.MailFault.TheVariants.{UnknownKind}
use Rattle.run_work.specs.of_mailbox_mail.declared.mail.Kind.{Kind}
use Rattle.served_places.specs.of_link_mails.Body.{Body}
use Rattle.served_places.specs.of_coe_codec.Fields.{service_in}
use Rattle.served_places.specs.of_coe_codec.Writing.{coe_text}
use Rattle.run_work.specs.of_eoe.declared.message.Fragment.{Fragment}
use Rattle.run_work.specs.of_eoe.Message.{eoe_text}
use Rattle.run_work.specs.of_eoe.Cutting.{fragments_of}
use Rattle.run_work.specs.of_eoe.Joining.{taken}
use Rattle.run_work.specs.of_eoe.declared.joining.Joined.{Joined}
use Rattle.run_work.specs.of_eoe.declared.joining.Joined.TheVariants.{More, Whole, Dropped}
use Rattle.served_places.specs.of_exchange_model.Exchange.{plain, emitted}
use Rattle.served_places.specs.of_exchange_model.Lifted.{EachOf}
use Rattle.served_places.specs.of_exchange_model.Refusing.{gated}
use Rattle.run_work.specs.of_protocol_models.CoeMails as Coe
use Rattle.run_work.specs.of_protocol_models.CoeMails.{CoeMail, mail, unread, failed, fragment, other, Abort, DownloadAnswer, SegmentAnswer, ExpeditedAnswer, FirstAnswer, UploadSegmentAnswer, Information, InformationError}
use Rattle.run_work.specs.of_protocol_models.CoeOctets as CoeOctets
use Rattle.run_work.specs.of_protocol_models.Tables.{Target, nowhere, Ask, list, object, entry, Tables}
use Rattle.run_work.specs.of_protocol_models.CoeServer as Server
use Rattle.run_work.specs.of_protocol_models.CoeServer.{Transfer, idle, downloading, uploading, Outcome, ended, goes_on, abort, download_answer, same, stored, takes_whole, begins, takes_first, takes_segment, is_expedited, opened, takes_upload_segment, parts_of, information_parts, informed, unknown_command, takes_unread, coe_takes, coe_outcome, Emission, emergency, packet, issued}
use Rattle.run_work.specs.of_protocol_models.FoeMails as Foe
use Rattle.run_work.specs.of_protocol_models.FoeOctets as FoeOctets
use Rattle.run_work.specs.of_protocol_models.SoeMails as Soe
use Rattle.run_work.specs.of_protocol_models.SoeOctets as SoeOctets
use Rattle.run_work.specs.of_protocol_models.EoeMails as Eoe
use Rattle.run_work.specs.of_protocol_models.EoeServer as EoeServer
use Rattle.run_work.specs.of_protocol_models.Network.{Network, Station}
use Rattle.run_work.specs.of_protocol_models.EoeOctets as EoeOctets
use Rattle.run_work.specs.of_slave_model.Profile.{Protocol, Profile, serves}
use Rattle.run_work.specs.of_slave_model.Application.{Core, Parts, station_tables, network}
use Rattle.run_work.specs.of_slave_model.Server.{Server as SlaveServer, Seat, seat, failure, told_by, heard_by, refused_gives, soe_quiet, eoe_quiet}
use Rattle.run_work.specs.of_slave_model.Product.{emission, served, side, refusal, protocol_of, serve_by, serve_other, serve}
use Rattle.run_work.proofs.of_slave_model.Stations.{fragment_told}
use Rattle.served_rings.proofs.Calms.{calm_read}

-- REPLIES, and behind them emissions
abbrev pub Ordered : List Body → Type 0
Ordered bs = bs ≡ plain emission bs ++ emitted emission bs

-- a reply in front
behind_reply : (b : Body) (bs : List Body) → emission b ≡ false → Ordered bs → Ordered (b ∷ bs)
behind_reply b bs calm o =
    ap (λ l. b ∷ l) o ∙ sym (ap (λ c. cond (not c) (b ∷ plain emission bs) (plain emission bs) ++ cond c (b ∷ emitted emission bs) (emitted emission bs)) calm)

ordered_behind : (bs cs : List Body) → EachOf (λ b. emission b ≡ false) bs → Ordered cs → Ordered (bs ++ cs)
ordered_behind [] cs calm o = o
ordered_behind (b ∷ bs) cs calm o = behind_reply b (bs ++ cs) calm.0 (ordered_behind bs cs calm.1 o)

-- emissions alone
emits_all : (bs : List Body) → EachOf (λ b. emission b ≡ true) bs → (plain emission bs ≡ []) × (emitted emission bs ≡ bs)
emits_all [] all = (refl, refl)
emits_all (b ∷ bs) all =
    let rest = emits_all bs all.1 in (
      ap (λ c. cond (not c) (b ∷ plain emission bs) (plain emission bs)) all.0 ∙ rest.0,
      ap (λ c. cond c (b ∷ emitted emission bs) (emitted emission bs)) all.0 ∙ ap (λ l. b ∷ l) rest.1,
    )

ordered_emissions : (bs : List Body) → EachOf (λ b. emission b ≡ true) bs → Ordered bs
ordered_emissions bs all = let e = emits_all bs all in sym e.1 ∙ ap (λ l. l ++ emitted emission bs) (sym e.0)

-- one mail, whichever it is
one : (b : Body) → Ordered (b ∷ [])
one b = go (emission b)
  where
    go : (c : Bool) → b ∷ [] ≡ cond (not c) (b ∷ []) [] ++ cond c (b ∷ []) []
    go true = refl
    go false = refl

map_append : {X Y : Type 0} (f : X → Y) (xs ys : List X) → map f (xs ++ ys) ≡ map f xs ++ map f ys
map_append f [] ys = refl
map_append f (x ∷ xs) ys = ap (λ l. f x ∷ l) (map_append f xs ys)

-- CoE: no answer is an emission
abbrev written : CoeMail → Body
written m = told_by CoeOctets.coe_mail_written m

abbrev AllCalm : List CoeMail → Type 0
AllCalm ms = EachOf (λ b. emission b ≡ false) (map written ms)

message : (c : Coe.Coe) → (service_in (coe_text c) == 1) ≡ false → emission (written (mail c)) ≡ false
message c e = calm_read (coe_text c) e

aborted : (t : Target) (code : ℕ) → AllCalm (abort t code ∷ [])
aborted t code = (message (Abort t.index t.sub code) refl, tt)

module _ {S : Type 0} where
  abbrev Calm : Outcome S → Type 0
  Calm x = AllCalm x.answers

  choice : (b : Bool) (r s : Outcome S) → Calm r → Calm s → Calm (if b then r else s)
  choice true r s p q = p
  choice false r s p q = q

  stores : (eoe : Bool) (app : S) (t : Target) (bytes : List ℕ) (answer : CoeMail) → emission (written answer) ≡ false → (r : Result S ℕ) → Calm (stored eoe app t bytes answer r)
  stores eoe app t bytes answer calm (Ok changed) = (calm, tt)
  stores eoe app t bytes answer calm (Err code) = aborted t code

  module _ (o : Tables S) (eoe : Bool) (room : ℕ) (app : S) where
    whole : (t : Target) (bytes : List ℕ) (answer : CoeMail) → emission (written answer) ≡ false → Calm (takes_whole o eoe app t bytes answer)
    whole t bytes answer calm = stores eoe app t bytes answer calm (o.download app t bytes)

    begun : (t : Target) (size : ℕ) (part : List ℕ) (r : Option ℕ) → Calm (begins app t size part r)
    begun t size part None = (message (DownloadAnswer t.index t.sub) refl, tt)
    begun t size part (Some code) = aborted t code

    first : (t : Target) (size : ℕ) (part : List ℕ) → Calm (takes_first o eoe app t size part)
    first t size part = choice (size == length part) (takes_whole o eoe app t part (download_answer t)) (begins app t size part (o.check app t size)) (whole t part (download_answer t) (message (DownloadAnswer t.index t.sub) refl)) (begun t size part (o.check app t size))

    segment : (transfer : Transfer) (toggle last : Bool) (part : List ℕ) → Calm (takes_segment o eoe app transfer toggle last part)
    segment idle toggle last part = aborted nowhere 0x05040001
    segment (uploading t rest expected) toggle last part = aborted t 0x05040001
    segment (downloading t size got expected) toggle last part = by (not (same expected toggle)) (nat_lt size (length (got ++ part))) last (nat_lt (length (got ++ part)) size)
      where
        by : (wrong long final short : Bool) → Calm (
            if wrong then ended app idle (abort t 0x05030000)
            else if long then ended app idle (abort t 0x06070012)
            else if final then (if short then ended app idle (abort t 0x06070013) else takes_whole o eoe app t (got ++ part) (mail (SegmentAnswer toggle)))
            else goes_on app (downloading t size (got ++ part) (not expected)) (mail (SegmentAnswer toggle)))
        by true long final short = aborted t 0x05030000
        by false true final short = aborted t 0x06070012
        by false false true true = aborted t 0x06070013
        by false false true false = whole t (got ++ part) (mail (SegmentAnswer toggle)) (message (SegmentAnswer toggle) refl)
        by false false false short = (message (SegmentAnswer toggle) refl, tt)

    opens : (t : Target) (r : Result (List ℕ) ℕ) → Calm (opened room app t r)
    opens t (Err code) = aborted t code
    opens t (Ok bytes) = by (is_expedited bytes) (nat_le (length bytes) (room - 16))
      where
        by : (short fits : Bool) → Calm (
            if short then ended app idle (mail (ExpeditedAnswer t.index t.sub (record { items = bytes })))
            else if fits then ended app idle (mail (FirstAnswer t.index t.sub (length bytes) (record { items = bytes })))
            else ended app (uploading t (drop (room - 16) bytes) false) (mail (FirstAnswer t.index t.sub (length bytes) (record { items = take (room - 16) bytes }))))
        by true fits = (message (ExpeditedAnswer t.index t.sub (record { items = bytes })) refl, tt)
        by false true = (message (FirstAnswer t.index t.sub (length bytes) (record { items = bytes })) refl, tt)
        by false false = (message (FirstAnswer t.index t.sub (length bytes) (record { items = take (room - 16) bytes })) refl, tt)

    upload_segment : (transfer : Transfer) (toggle : Bool) → Calm (takes_upload_segment room app transfer toggle)
    upload_segment idle toggle = aborted nowhere 0x05040001
    upload_segment (downloading t size got expected) toggle = aborted t 0x05040001
    upload_segment (uploading t rest expected) toggle = by (not (same expected toggle)) (nat_le (length rest) (room - 9))
      where
        by : (wrong last : Bool) → Calm (
            if wrong then goes_on app idle (abort t 0x05030000)
            else if last then goes_on app idle (mail (UploadSegmentAnswer toggle true (record { items = rest })))
            else goes_on app (uploading t (drop (room - 9) rest) (not expected)) (mail (UploadSegmentAnswer toggle false (record { items = take (room - 9) rest }))))
        by true last = aborted t 0x05030000
        by false true = (message (UploadSegmentAnswer toggle true (record { items = rest })) refl, tt)
        by false false = (message (UploadSegmentAnswer toggle false (record { items = take (room - 9) rest })) refl, tt)

    parts : (fuel opcode part : ℕ) (bytes : List ℕ) → AllCalm (information_parts fuel opcode part bytes)
    parts zero opcode part bytes = tt
    parts (suc fuel) opcode part bytes = by (nat_le (length bytes) part) (parts fuel opcode part (drop part bytes))
      where
        by : (last : Bool) → AllCalm (information_parts fuel opcode part (drop part bytes)) → AllCalm (
            if last then mail (Information opcode false 0 (record { items = bytes })) ∷ []
            else mail (Information opcode true (parts_of part (length bytes - part)) (record { items = take part bytes })) ∷ information_parts fuel opcode part (drop part bytes))
        by true rest = (message (Information opcode false 0 (record { items = bytes })) refl, tt)
        by false rest = (message (Information opcode true (parts_of part (length bytes - part)) (record { items = take part bytes })) refl, rest)

    informs : (transfer : Transfer) (a : Ask) (r : Result (List ℕ) ℕ) → Calm (informed room app transfer a r)
    informs transfer a (Err code) = (message (InformationError code) refl, tt)
    informs transfer a (Ok bytes) = parts (suc (length bytes)) (Server.answer_opcode a) (room - 12) bytes

    unknown : (transfer : Transfer) (information : Bool) (index sub : ℕ) → Calm (unknown_command app transfer information index sub)
    unknown transfer true index sub = (message (InformationError 0x05040001) refl, tt)
    unknown transfer false index sub = (message (Abort index sub 0x05040001) refl, tt)

    unreads : (transfer : Transfer) (fault : Coe.CoeFault) (service index sub : ℕ) → Calm (takes_unread app transfer fault service index sub)
    unreads transfer Coe.Short service index sub = (refl, tt)
    unreads transfer Coe.Service service index sub = (refl, tt)
    unreads transfer Coe.Command service index sub =
        choice (service == 1 || service == 3) (ended app transfer (failed 4)) (unknown_command app transfer (service == 8) index sub) (refl, tt) (unknown transfer (service == 8) index sub)
    unreads transfer Coe.Size service index sub = choice (service == 1 || service == 3) (ended app transfer (failed 4)) (ended app transfer (failed 8)) (refl, tt) (refl, tt)

    takes : (transfer : Transfer) (c : Coe.Coe) → Calm (coe_takes o eoe room app transfer c)
    takes transfer (Coe.Expedited index sub all bytes) = let t : Target = record { index = index; sub = sub; all = all } in whole t bytes.items (download_answer t) (message (DownloadAnswer index sub) refl)
    takes transfer (Coe.First index sub all size bytes) = first (record { index = index; sub = sub; all = all }) size bytes.items
    takes transfer (Coe.Segment toggle last bytes) = segment transfer toggle last bytes.items
    takes transfer (Coe.Upload index sub all) = let t : Target = record { index = index; sub = sub; all = all } in opens t (o.upload app t)
    takes transfer (Coe.UploadSegment toggle) = upload_segment transfer toggle
    takes transfer (Abort index sub code) = tt
    takes transfer (Coe.ListRequest kind) = informs transfer (list kind) (o.info app (list kind))
    takes transfer (Coe.ObjectRequest index) = informs transfer (object index) (o.info app (object index))
    takes transfer (Coe.EntryRequest index sub info) = informs transfer (entry index sub info) (o.info app (entry index sub info))
    takes transfer (Information opcode incomplete left bytes) = unknown transfer true 0 0
    takes transfer (InformationError code) = unknown transfer true 0 0
    takes transfer (Coe.Emergency octets) = (refl, tt)
    takes transfer (DownloadAnswer index sub) = (refl, tt)
    takes transfer (ExpeditedAnswer index sub bytes) = (refl, tt)
    takes transfer (FirstAnswer index sub size bytes) = (refl, tt)
    takes transfer (SegmentAnswer toggle) = (refl, tt)
    takes transfer (UploadSegmentAnswer toggle last bytes) = (refl, tt)

    outcome : (transfer : Transfer) (m : CoeMail) → Calm (coe_outcome o eoe room app transfer m)
    outcome transfer (mail c) = takes transfer c
    outcome transfer (unread fault service index sub) = unreads transfer fault service index sub
    outcome transfer (failed detail) = tt
    outcome transfer (fragment body) = tt
    outcome transfer (other body) = tt

-- EoE: fragments are emissions, and all that it gives are fragments, or it gives one mail
eoe_fragment : (f : Fragment) → emission (told_by EoeOctets.eoe_mail_written (Eoe.mail (Eoe.Part f))) ≡ true
eoe_fragment f = ap (λ (b : Bool). Coe.is_emission (if b then fragment (eoe_text (Eoe.Part f)) else other (eoe_text (Eoe.Part f)))) (fragment_told f)

eoe_fragments : (fs : List Fragment) → EachOf (λ b. emission b ≡ true) (map (told_by EoeOctets.eoe_mail_written) (map (λ (f : Fragment). Eoe.mail (Eoe.Part f)) fs))
eoe_fragments [] = tt
eoe_fragments (f ∷ fs) = (eoe_fragment f, eoe_fragments fs)

coe_fragments : (fs : List Fragment) → EachOf (λ b. emission b ≡ true) (map written (map fragment (map (λ (f : Fragment). eoe_text (Eoe.Part f)) fs)))
coe_fragments [] = tt
coe_fragments (f ∷ fs) = (eoe_fragment f, coe_fragments fs)

abbrev EoeOrdered : List Eoe.EoeMail → Type 0
EoeOrdered es = Ordered (map (told_by EoeOctets.eoe_mail_written) es)

module _ {S : Type 0} (o : Network S) (room : ℕ) where
  eoe_sends : (frame : ℕ) (r : S × Option (List ℕ)) → EoeOrdered (EoeServer.sends room frame r).1
  eoe_sends frame (app, None) = refl
  eoe_sends frame (app, Some octets) = ordered_emissions _ (eoe_fragments (fragments_of octets (32 * ((room - 10) / 32)) frame))

  eoe_joined : (station : Station S) (last : Bool) (unfinished : Option _) (j : Joined) → EoeOrdered (EoeServer.joined o room station last unfinished j).gives
  eoe_joined station last unfinished More = refl
  eoe_joined station last unfinished (Whole p) = eoe_sends station.frame (o.packet station.app p.items)
  eoe_joined station last unfinished Dropped = refl

  eoe_set : (station : Station S) (unfinished : Option _) (r : Option S) → EoeOrdered (EoeServer.set_answer station unfinished r).gives
  eoe_set station unfinished (Some app) = one (told_by EoeOctets.eoe_mail_written (Eoe.mail (Eoe.SetIpAnswer 0)))
  eoe_set station unfinished None = one (told_by EoeOctets.eoe_mail_written (Eoe.mail (Eoe.SetIpAnswer 1)))

  eoe_unread : (station : Station S) (unfinished : Option _) (fault : Eoe.EoeFault) (kind : ℕ) → EoeOrdered (EoeServer.takes_unread station unfinished fault kind).gives
  eoe_unread station unfinished Eoe.Short kind = one (told_by EoeOctets.eoe_mail_written (Eoe.failed 6))
  eoe_unread station unfinished Eoe.WrongType kind = go (kind % 2 == 0)
    where
      go : (b : Bool) → EoeOrdered (if b then Eoe.unsupported (kind + 1) ∷ [] else [])
      go true = one (told_by EoeOctets.eoe_mail_written (Eoe.unsupported (kind + 1)))
      go false = refl
  eoe_unread station unfinished Eoe.Offset kind = refl

  eoe_takes : (station : Station S) (unfinished : Option _) (e : Eoe.Eoe) → EoeOrdered (EoeServer.eoe_takes o room station unfinished e).gives
  eoe_takes station unfinished (Eoe.Part f) = eoe_joined station f.last (taken unfinished f).unfinished (taken unfinished f).joined
  eoe_takes station unfinished (Eoe.SetIp block) = eoe_set station unfinished (EoeServer.addressed o room station.app block.items)
  eoe_takes station unfinished Eoe.GetIp = one (told_by EoeOctets.eoe_mail_written (Eoe.mail (Eoe.GetIpAnswer 0 (record { items = o.block station.app }))))
  eoe_takes station unfinished (Eoe.SetIpAnswer result_code) = refl
  eoe_takes station unfinished (Eoe.GetIpAnswer result_code block) = refl

  eoe_outcome : (station : Station S) (unfinished : Option _) (m : Eoe.EoeMail) → EoeOrdered (EoeServer.eoe_outcome o room station unfinished m).gives
  eoe_outcome station unfinished (Eoe.mail e) = eoe_takes station unfinished e
  eoe_outcome station unfinished (Eoe.unread fault kind) = eoe_unread station unfinished fault kind
  eoe_outcome station unfinished (Eoe.unsupported kind) = refl
  eoe_outcome station unfinished (Eoe.failed detail) = refl
  eoe_outcome station unfinished (Eoe.other body) = refl

-- FoE and SoE give replies alone
foe_calm : (ms : List Foe.FoeMail) → EachOf (λ b. emission b ≡ false) (map (told_by FoeOctets.foe_mail_written) ms)
foe_calm [] = tt
foe_calm (Foe.mail f ∷ ms) = (refl, foe_calm ms)
foe_calm (Foe.unread fault ∷ ms) = (refl, foe_calm ms)
foe_calm (Foe.failed detail ∷ ms) = (refl, foe_calm ms)
foe_calm (Foe.other body ∷ ms) = (refl, foe_calm ms)

soe_calm : (ms : List Soe.SoeMail) → EachOf (λ b. emission b ≡ false) (map (told_by SoeOctets.soe_mail_written) ms)
soe_calm [] = tt
soe_calm (Soe.mail m ∷ ms) = (refl, soe_calm ms)
soe_calm (Soe.unread fault incomplete ∷ ms) = (refl, soe_calm ms)
soe_calm (Soe.failed detail ∷ ms) = (refl, soe_calm ms)
soe_calm (Soe.other body ∷ ms) = (refl, soe_calm ms)

ordered_calm : (bs : List Body) → EachOf (λ b. emission b ≡ false) bs → Ordered bs
ordered_calm bs calm = subst Ordered (append-nil bs) (ordered_behind bs [] calm refl)

-- THE SLAVE
module _ {T F I : Type 0} (o : Parts T F I) (p : Profile) (al : ℕ) where
  coe_issued : (app : Station (Core T F I)) (e : Option Emission) → Ordered (map written (issued (station_tables o p.back al) app e).1)
  coe_issued app None = refl
  coe_issued app (Some (emergency octets)) = one (written (mail (Coe.Emergency (record { items = octets }))))
  coe_issued app (Some (packet octets)) = ordered_emissions _ (coe_fragments (fragments_of octets (32 * ((p.back - 10) / 32)) app.frame))

  serves_ordered : (i : Protocol) (v : Seat T F I i) (b : Body) → Ordered ((served o p al i).serve v b).1
  serves_ordered Protocol.CoE v b =
      let m = heard_by CoeOctets.coe_mail_heard (other []) b in
      let x = coe_outcome (station_tables o p.back al) p.has_eoe p.back v.app v.transfer m in
      let made = (issued (station_tables o p.back al) x.app x.emission).1 in
      subst Ordered (sym (map_append written x.answers made)) (ordered_behind (map written x.answers) (map written made) (outcome (station_tables o p.back al) p.has_eoe p.back v.app v.transfer m) (coe_issued x.app x.emission))
  serves_ordered Protocol.FoE v b = ordered_calm _ (foe_calm _)
  serves_ordered Protocol.SoE v b = ordered_calm _ (soe_calm _)
  serves_ordered Protocol.EoE v b = eoe_outcome (network o p) p.back v.station v.unfinished (heard_by EoeOctets.eoe_mail_heard (Eoe.other []) b)

  quiet_or : (b : Bool) → Ordered (if b then [] else failure 2 ∷ [])
  quiet_or true = refl
  quiet_or false = one (failure 2)

  refuses_ordered : (i : Protocol) (b : Body) → Ordered (refused_gives i b)
  refuses_ordered Protocol.CoE b = one (failure 2)
  refuses_ordered Protocol.FoE b = one (failure 2)
  refuses_ordered Protocol.SoE b = quiet_or (soe_quiet (heard_by SoeOctets.soe_mail_heard (Soe.other []) b))
  refuses_ordered Protocol.EoE b = quiet_or (eoe_quiet (heard_by EoeOctets.eoe_mail_heard (Eoe.other []) b))

  sides_ordered : (i : Protocol) (v : Seat T F I i) (b : Body) → Ordered ((side o p al i).serve v b).1
  sides_ordered i v b = go (serves p al i)
    where
      go : (on : Bool) → Ordered ((gated on (served o p al i) (refusal o p al i)).serve v b).1
      go true = serves_ordered i v b
      go false = refuses_ordered i b

  others_ordered : (j : SlaveServer T F I) (kind : Kind) → Ordered (serve_other o p al j kind).1
  others_ordered j Kind.Error = refl
  others_ordered j kind = one (failure 2)

  by_ordered : (j : SlaveServer T F I) (b : Body) (kind : Kind) (i : Option Protocol) → Ordered (serve_by o p al j b kind i).1
  by_ordered j b kind (Some i) = sides_ordered i (seat i j) b
  by_ordered j b kind None = others_ordered j kind

  pub replies : (j : SlaveServer T F I) (b : Body) → Ordered (serve o p al j b).1
  replies j (Ok m) = by_ordered j (Ok m) m.kind (protocol_of m.kind)
  replies j (Err UnknownKind) = one (failure 2)
  replies j (Err fault) = one (failure 8)
