-- What the clients of both protocols do, as mails.
use Rattle.std.proofs.Common.{◌≡◌, ℕ, ◌+◌, ◌<◌, ◌≤◌, List, [], ◌∷◌, Bool, true, false, Option, Some, None, refl, ap, ◌∙◌, subst, map, length, arith, take}
use Rattle.std.specs.Prelude.{is_some, if◌then◌else◌, zero, suc}
use Rattle.std.proofs.lemmas.List.{length-map}
use Rattle.std.specs.Bool.{OnTrue}
use Rattle.gateway_core.specs.of_mailbox_mail.declared.mail.Mail.{Mail}
use Rattle.gateway_core.specs.of_mailbox_mail.declared.outcome.Took.{Took}
use Rattle.foe_client.specs.of_exchange_model.Areas.{Areas}
use Rattle.foe_client.specs.of_exchange_model.Dialogue.{Turn, next, again, stop, chosen, turn_at, said}
use Rattle.foe_client.specs.of_protocol_models.CoeMails as CoeMails
use Rattle.foe_client.specs.of_protocol_models.CoeOctets.{coe_mail_heard, coe_mail_written}
use Rattle.foe_client.specs.of_protocol_models.CoeClient as CoeClient
use Rattle.foe_client.specs.of_protocol_models.CoeModel as CoeModel
use Rattle.coe_client.specs.Talk as CoeTalk
use Rattle.coe_client.specs.Hear as CoeHear
use Rattle.coe_client.specs.Send as CoeSend
use Rattle.coe_client.specs.declared.state.Awaits as CoeAwaits
use Rattle.coe_client.specs.declared.state.Task.{Task}
use Rattle.coe_client.specs.declared.state.Unsent as CoeUnsent
use Rattle.foe_client.specs.of_protocol_models.FoeMails as FoeMails
use Rattle.foe_client.specs.of_protocol_models.FoeOctets.{foe_mail_heard, foe_mail_written}
use Rattle.foe_client.specs.of_protocol_models.FoeMeaning as FoeMeaning
use Rattle.foe_client.specs.of_protocol_models.FoeClient as FoeClient
use Rattle.foe_client.specs.of_protocol_models.FoeModel as FoeModel
use Rattle.foe_client.specs.Talk as FoeTalk
use Rattle.foe_client.specs.Hear as FoeHear
use Rattle.foe_client.specs.Send as FoeSend
use Rattle.foe_client.specs.declared.state.Awaits as FoeAwaits
use Rattle.foe_client.specs.declared.state.Unsent as FoeUnsent
use Rattle.coe_client.specs.of_object_dictionary.declared.service.SdoService.{SdoService}
use Rattle.segment_plan.specs.declared.service.Service.{Service}
use Rattle.gateway_tool.specs.Rule.{IsForm, planned, ends}
use Rattle.gateway_tool.specs.Client.{left, awaits, Begins, SendsNext, Takes}
use Rattle.gateway_tool.specs.declared.client.Client.{Client}

-- lists

none_mapped : {A B : Type 0} (f : A → B) (xs : List A) → map f xs ≡ [] → xs ≡ []
none_mapped f [] e = refl
none_mapped f (x ∷ xs) e = absurd (cc)

taken_within : {A : Type 0} (n : ℕ) (xs : List A) → length (take n xs) ≤ n
taken_within zero xs = omega arith
taken_within (suc n) [] = omega arith
taken_within (suc n) (x ∷ xs) = let h = taken_within n xs in omega (arith, h)

none_taken : {A : Type 0} (n k : ℕ) (xs : List A) → take (suc n) xs ≡ [] → take k xs ≡ []
none_taken n zero xs e = refl
none_taken n (suc k) [] e = refl
none_taken n k (x ∷ xs) e = absurd (cc)

-- CoE

pub sdo_begins : (out back : ℕ) (q : SdoService) (c : CoeTalk.Talking) (room : ℕ) → room ≡ out → ((ms : List CoeMails.CoeMail) → CoeTalk.awaited c ms ≡ CoeClient.ends room (CoeTalk.service_view q) ms) →
    ((hs : List CoeMails.CoeMail) → CoeTalk.later c hs ≡ CoeModel.planned room (CoeTalk.service_view q) hs) → Begins (record { out = out; back = back }) (Service.Sdo q) (Client.Sdo c)
sdo_begins out back q c room r a l = record {
  mails = λ hs. ap (map coe_mail_written) (l (map coe_mail_heard hs) ∙ ap (λ (n : ℕ). CoeModel.planned n (CoeTalk.service_view q) (map coe_mail_heard hs)) r);
  replies = λ hs. a (map coe_mail_heard hs) ∙ ap (λ (n : ℕ). CoeClient.ends n (CoeTalk.service_view q) (map coe_mail_heard hs)) r;
}

pub sdo_sent : (b : Bool) (old new : CoeTalk.Talking) (octets : List ℕ) → OnTrue b (CoeSend.SendsNext old octets new) → ((ms : List CoeMails.CoeMail) → CoeTalk.awaited new ms ≡ CoeTalk.awaited old ms) →
    OnTrue b (SendsNext (Client.Sdo old) octets (Client.Sdo new))
sdo_sent true old new octets s a = record {
  mails = λ hs. ap (map coe_mail_written) (s.mails (map coe_mail_heard hs)) ∙ ap (λ (m : Mail). m ∷ map coe_mail_written (CoeTalk.later new (map coe_mail_heard hs))) s.spelled;
  replies = λ hs. a (map coe_mail_heard hs);
}
sdo_sent false old new octets s a = tt

sdo_over : (c : CoeTalk.Talking) (a : CoeAwaits.Awaits) → c.awaits ≡ a → CoeTalk.is_replied a ≡ true → is_some (CoeTalk.awaited c []) ≡ true
sdo_over c (CoeAwaits.Awaits.Over kind) e o = ap (λ (b : CoeAwaits.Awaits). is_some (CoeTalk.awaited (record c { awaits = b }) [])) e
sdo_over c CoeAwaits.Awaits.Nothing e o = absurd (cc)
sdo_over c CoeAwaits.Awaits.Acceptance e o = absurd (cc)
sdo_over c (CoeAwaits.Awaits.SegmentAnswers left toggle) e o = absurd (cc)
sdo_over c CoeAwaits.Awaits.FirstAnswer e o = absurd (cc)
sdo_over c (CoeAwaits.Awaits.Parts size toggle) e o = absurd (cc)
sdo_over c (CoeAwaits.Awaits.Information opcode) e o = absurd (cc)

pub sdo_took : (took : Took) (old new : CoeTalk.Talking) (m : Mail) → left (Client.Sdo old) [] ≡ [] → CoeHear.TookIs took old (coe_mail_heard m) new → Takes took (Client.Sdo old) m (Client.Sdo new)
sdo_took Took.More old new m e t = (
  record { mails = λ hs. ap (map coe_mail_written) (t.0.mails (map coe_mail_heard hs)); replies = λ hs. t.0.replies (map coe_mail_heard hs) },
  t.1.yet,
  ap is_some (t.1.open_to 0),
)
sdo_took Took.Done old new m e t = (
  record { mails = λ hs. ap (map coe_mail_written) (t.mails (none_mapped coe_mail_written (CoeTalk.later old []) e) (map coe_mail_heard hs)); replies = λ hs. t.replies (map coe_mail_heard hs) },
  sdo_over new new.awaits refl t.over,
)
sdo_took Took.Foreign old new m e t = ((λ hs. t.0 (map coe_mail_heard hs)), ap (λ (c : CoeTalk.Talking). Client.Sdo c) t.1)

-- of the mails not yet sent come at most as many as may go, and none at all where one may go and none is left

requests_within : (n : ℕ) (toggle : Bool) → length (CoeClient.requests n toggle) ≤ n
requests_within zero toggle = omega arith
requests_within (suc n) toggle = let h = requests_within n (Rattle.std.specs.Prelude.not toggle) in omega (arith, h)

first_within : (room : ℕ) (task : Task) (bytes : List ℕ) (n : ℕ) → length (CoeTalk.first_mails room task bytes n) ≤ n
first_within room Task.Nothing bytes n = omega arith
first_within room (Task.Download index sub all) bytes n = taken_within n (CoeClient.download_mails room (record { index = index; sub = sub; all = all }) bytes)
first_within room (Task.Upload index sub all) bytes zero = omega arith
first_within room (Task.Upload index sub all) bytes (suc n) = let h = requests_within n false in omega (arith, h)
first_within room (Task.List kind) bytes n = taken_within n (CoeMails.mail (CoeMails.ListRequest kind) ∷ [])
first_within room (Task.Object index) bytes n = taken_within n (CoeMails.mail (CoeMails.ObjectRequest index) ∷ [])
first_within room (Task.Entry index sub info) bytes n = taken_within n (CoeMails.mail (CoeMails.EntryRequest index sub info) ∷ [])

sending_within : (room : ℕ) (task : Task) (bytes : List ℕ) (u : CoeUnsent.Unsent) (n : ℕ) → length (CoeTalk.sending room task bytes u n) ≤ n
sending_within room task bytes CoeUnsent.Unsent.Nothing n = omega arith
sending_within room task bytes CoeUnsent.Unsent.First n = first_within room task bytes n
sending_within room task bytes (CoeUnsent.Unsent.Segments from toggle) n = taken_within n (CoeClient.segments (length bytes) (Rattle.std.specs.Prelude.◌-◌ room 9) toggle (Rattle.std.specs.Prelude.drop from bytes))
sending_within room task bytes (CoeUnsent.Unsent.Requests toggle) n = requests_within n toggle

none_first : (room : ℕ) (task : Task) (bytes : List ℕ) (n k : ℕ) → CoeTalk.first_mails room task bytes (suc n) ≡ [] → CoeTalk.first_mails room task bytes k ≡ []
none_first room Task.Nothing bytes n k e = refl
none_first room (Task.Download index sub all) bytes n k e = none_taken n k (CoeClient.download_mails room (record { index = index; sub = sub; all = all }) bytes) e
none_first room (Task.Upload index sub all) bytes n k e = absurd (cc)
none_first room (Task.List kind) bytes n k e = absurd (cc)
none_first room (Task.Object index) bytes n k e = absurd (cc)
none_first room (Task.Entry index sub info) bytes n k e = absurd (cc)

none_sending : (room : ℕ) (task : Task) (bytes : List ℕ) (u : CoeUnsent.Unsent) (n k : ℕ) → CoeTalk.sending room task bytes u (suc n) ≡ [] → CoeTalk.sending room task bytes u k ≡ []
none_sending room task bytes CoeUnsent.Unsent.Nothing n k e = refl
none_sending room task bytes CoeUnsent.Unsent.First n k e = none_first room task bytes n k e
none_sending room task bytes (CoeUnsent.Unsent.Segments from toggle) n k e = none_taken n k (CoeClient.segments (length bytes) (Rattle.std.specs.Prelude.◌-◌ room 9) toggle (Rattle.std.specs.Prelude.drop from bytes)) e
none_sending room task bytes (CoeUnsent.Unsent.Requests toggle) n k e = absurd (cc)

few_go : (going : Bool) (m : CoeMails.CoeMail) → CoeTalk.goes_on going (m ∷ []) ≤ 1
few_go false m = omega arith
few_go true m = by (CoeTalk.lets_go m)
  where
    by : (b : Bool) → (if b then suc 0 else 0) ≤ 1
    by true = omega arith
    by false = omega arith

none_go : (going : Bool) → CoeTalk.goes_on going [] ≡ 0
none_go false = refl
none_go true = refl

sdo_one_by : (room : ℕ) (task : Task) (bytes : List ℕ) (u : CoeUnsent.Unsent) (quota more : ℕ) → more ≤ 1 → CoeTalk.sending room task bytes u quota ≡ [] → length (CoeTalk.sending room task bytes u (quota + more)) ≤ 1
sdo_one_by room task bytes u zero more f e = let h = sending_within room task bytes u (0 + more) in omega (arith, f, h)
sdo_one_by room task bytes u (suc n) more f e = let h = ap length (none_sending room task bytes u n (suc n + more) e) in omega (arith, h)

pub sdo_one : (c : CoeTalk.Talking) (m : Mail) → left (Client.Sdo c) [] ≡ [] → length (left (Client.Sdo c) (m ∷ [])) ≤ 1
sdo_one c m e =
    let n = none_mapped coe_mail_written (CoeTalk.later c []) e in
    let z : c.quota + CoeTalk.goes_on c.going [] ≡ c.quota = (let g = none_go c.going in omega (arith, g)) in
    let n2 : CoeTalk.sending c.room c.task c.bytes c.unsent c.quota ≡ [] = subst (λ (q : ℕ). CoeTalk.sending c.room c.task c.bytes c.unsent q ≡ []) z n in
    let h = sdo_one_by c.room c.task c.bytes c.unsent c.quota (CoeTalk.goes_on c.going (coe_mail_heard m ∷ [])) (few_go c.going (coe_mail_heard m)) n2 in
    let l = length-map (CoeTalk.later c (coe_mail_heard m ∷ [])) coe_mail_written in
    omega (arith, h, l)

-- FoE

pub file_begins : (out back : ℕ) (q : FoeMeaning.Service) (c : FoeTalk.Talking) (areas : Areas) → areas ≡ record { out = out; back = back } → ((ms : List FoeMails.FoeMail) → FoeTalk.awaited c ms ≡ FoeClient.ends areas q ms) →
    ((hs : List FoeMails.FoeMail) → FoeTalk.later c hs ≡ FoeModel.planned areas.out q hs) →
    ((hs : List Mail) → left (Client.File c) hs ≡ map foe_mail_written (FoeModel.planned out q (map foe_mail_heard hs))) × ((hs : List Mail) → awaits (Client.File c) hs ≡ FoeClient.ends (record { out = out; back = back }) q (map foe_mail_heard hs))
file_begins out back q c areas r a l = (
  (λ hs. ap (map foe_mail_written) (l (map foe_mail_heard hs) ∙ ap (λ (z : Areas). FoeModel.planned z.out q (map foe_mail_heard hs)) r)),
  (λ hs. a (map foe_mail_heard hs) ∙ ap (λ (z : Areas). FoeClient.ends z q (map foe_mail_heard hs)) r),
)

pub file_sent : (b : Bool) (old new : FoeTalk.Talking) (octets : List ℕ) → OnTrue b (FoeSend.SendsNext old octets new) → ((ms : List FoeMails.FoeMail) → FoeTalk.awaited new ms ≡ FoeTalk.awaited old ms) →
    OnTrue b (SendsNext (Client.File old) octets (Client.File new))
file_sent true old new octets s a = record {
  mails = λ hs. ap (map foe_mail_written) (s.mails (map foe_mail_heard hs)) ∙ ap (λ (m : Mail). m ∷ map foe_mail_written (FoeTalk.later new (map foe_mail_heard hs))) s.spelled;
  replies = λ hs. a (map foe_mail_heard hs);
}
file_sent false old new octets s a = tt

file_over : (c : FoeTalk.Talking) (a : FoeAwaits.Awaits) → c.awaits ≡ a → FoeTalk.awaits_nothing a ≡ true → is_some (FoeTalk.awaited c []) ≡ true
file_over c (FoeAwaits.Awaits.Over kind) e o = ap (λ (b : FoeAwaits.Awaits). is_some (FoeTalk.awaited (record c { awaits = b }) [])) e
file_over c FoeAwaits.Awaits.Nothing e o = absurd (cc)
file_over c (FoeAwaits.Awaits.Packet number) e o = absurd (cc)
file_over c (FoeAwaits.Awaits.Ack left number) e o = absurd (cc)

none_let : (a : FoeAwaits.Awaits) → FoeTalk.lets_go a [] ≡ 0
none_let FoeAwaits.Awaits.Nothing = refl
none_let (FoeAwaits.Awaits.Packet number) = refl
none_let (FoeAwaits.Awaits.Ack left number) = refl
none_let (FoeAwaits.Awaits.Over kind) = by (FoeTalk.is_value kind)
  where
    by : (b : Bool) → (if b then FoeTalk.for_packets [] else 0) ≡ 0
    by true = refl
    by false = refl

by_one : (b : Bool) → (if b then suc 0 else 0) ≤ 1
by_one true = omega arith
by_one false = omega arith

few_let : (a : FoeAwaits.Awaits) (m : FoeMails.FoeMail) → FoeTalk.lets_go a (m ∷ []) ≤ 1
few_let FoeAwaits.Awaits.Nothing m = omega arith
few_let (FoeAwaits.Awaits.Packet number) m = by_one (FoeTalk.is_data m)
few_let (FoeAwaits.Awaits.Ack zero number) m = by_one (FoeClient.is_busy m)
few_let (FoeAwaits.Awaits.Ack (suc left) number) m = by_one (FoeTalk.is_any_ack m)
few_let (FoeAwaits.Awaits.Over kind) m = by (FoeTalk.is_value kind)
  where
    by : (b : Bool) → (if b then FoeTalk.for_packets (m ∷ []) else 0) ≤ 1
    by true = by_one (FoeTalk.is_data m)
    by false = omega arith

sends_all : (out pass : ℕ) (name bytes : List ℕ) (n : ℕ) (u : FoeUnsent.Unsent) → length (FoeTalk.sending out pass name bytes n u) ≡ n
sends_all out pass name bytes zero u = refl
sends_all out pass name bytes (suc n) u = ap suc (sends_all out pass name bytes n (FoeTalk.following out bytes u))

none_may_go : (c : FoeTalk.Talking) → FoeTalk.later c [] ≡ [] → c.quota ≡ 0
none_may_go c e =
    let n = sends_all c.out c.pass c.name c.bytes (c.quota + FoeTalk.lets_go c.awaits []) c.unsent in
    let m = ap length e in
    let l = none_let c.awaits in
    omega (arith, n, m, l)

pub file_one : (c : FoeTalk.Talking) (m : Mail) → left (Client.File c) [] ≡ [] → length (left (Client.File c) (m ∷ [])) ≤ 1
file_one c m e =
    let q = none_may_go c (none_mapped foe_mail_written (FoeTalk.later c []) e) in
    let f = few_let c.awaits (foe_mail_heard m) in
    let n = sends_all c.out c.pass c.name c.bytes (c.quota + FoeTalk.lets_go c.awaits (foe_mail_heard m ∷ [])) c.unsent in
    let l = length-map (FoeTalk.later c (foe_mail_heard m ∷ [])) foe_mail_written in
    omega (arith, q, f, n, l)

pub file_took : (took : Took) (old new : FoeTalk.Talking) (m : Mail) → left (Client.File old) [] ≡ [] → FoeHear.TookIs took old (foe_mail_heard m) new → Takes took (Client.File old) m (Client.File new)
file_took Took.More old new m e t =
    let q : old.quota < FoeHear.most_mails = (let z = none_may_go old (none_mapped foe_mail_written (FoeTalk.later old []) e) in omega (arith, z)) in (
      record { mails = λ hs. ap (map foe_mail_written) (t.0.mails q (map foe_mail_heard hs)); replies = λ hs. t.0.replies (map foe_mail_heard hs) },
      t.1.yet,
      ap is_some (t.1.open_to 0),
    )
file_took Took.Done old new m e t = (
  record { mails = λ hs. ap (map foe_mail_written) (t.mails (none_mapped foe_mail_written (FoeTalk.later old []) e) (map foe_mail_heard hs)); replies = λ hs. t.replies (map foe_mail_heard hs) },
  file_over new new.awaits refl t.over,
)
file_took Took.Foreign old new m e t = ((λ hs. t.0 (map foe_mail_heard hs)), ap (λ (c : FoeTalk.Talking). Client.File c) t.1)

pub file_done : (c : FoeTalk.Talking) (a : FoeAwaits.Awaits) → c.awaits ≡ a → is_some (FoeTalk.awaited (record c { awaits = a }) []) ≡ true → FoeTalk.awaits_nothing a ≡ true
file_done c (FoeAwaits.Awaits.Over kind) e o = refl
file_done c FoeAwaits.Awaits.Nothing e o = absurd (cc)
file_done c (FoeAwaits.Awaits.Packet number) e o = absurd (cc)
file_done c (FoeAwaits.Awaits.Ack zero number) e o = absurd (cc)
file_done c (FoeAwaits.Awaits.Ack (suc left) number) e o = absurd (cc)

-- either client

pub one_left : (took : Took) (old new : Client) (m : Mail) → left old [] ≡ [] → length (left old (m ∷ [])) ≤ 1 → Takes took old m new → length (left new []) ≤ 1
one_left Took.More old new m e f t = let h = ap length (t.0.mails []) in omega (arith, f, h)
one_left Took.Done old new m e f t = let h = ap length (t.0.mails []) in omega (arith, f, h)
one_left Took.Foreign old new m e f t = let h = ap (λ (c : Client). length (left c [])) t.1 in let z = ap length e in omega (arith, z, h)

-- at first one mail is planned at most, and no reply has come

one_said : {M : Type 0} (decide : M → List M → Option Turn) (ms : List M) → length (said decide 1 ms []) ≤ 1
one_said decide [] = omega arith
one_said decide (m ∷ ms) = by (turn_at decide m [] [])
  where
    by : (t : Option Turn) → length (m ∷ chosen t [] [] []) ≤ 1
    by None = omega arith
    by (Some next) = omega arith
    by (Some again) = omega arith
    by (Some stop) = omega arith

pub one_planned : (areas : Areas) (q : Service) → IsForm q → length (planned areas q []) ≤ 1
one_planned areas (Service.Sdo s) f =
    let h = one_said CoeClient.decide (CoeClient.mails_of areas.out (CoeTalk.service_view s) 0) in let l = length-map (CoeModel.planned areas.out (CoeTalk.service_view s) []) coe_mail_written in omega (arith, h, l)
one_planned areas (Service.ReadFile name pass) f =
    let h = one_said (FoeClient.decide areas.out) (FoeClient.mails_of areas.out (FoeMeaning.read name.items pass) 0) in let l = length-map (FoeModel.planned areas.out (FoeMeaning.read name.items pass) []) foe_mail_written in omega (arith, h, l)
one_planned areas (Service.WriteFile name pass bytes) f =
    let h = one_said (FoeClient.decide areas.out) (FoeClient.mails_of areas.out (FoeMeaning.write name.items pass bytes) 0) in
    let l = length-map (FoeModel.planned areas.out (FoeMeaning.write name.items pass bytes) []) foe_mail_written in
    omega (arith, h, l)
one_planned areas (Service.ReadIdn drive idn elements) f = absurd f
one_planned areas (Service.WriteIdn drive idn elements bytes) f = absurd f
one_planned areas (Service.SetIp block) f = absurd f
one_planned areas Service.GetIp f = absurd f
one_planned areas (Service.State target) f = absurd f
one_planned areas (Service.Forward packet) f = absurd f

pub none_replied : (areas : Areas) (q : Service) → IsForm q → ends areas q [] ≡ None
none_replied areas (Service.Sdo (SdoService.Download index sub bytes)) f = refl
none_replied areas (Service.Sdo (SdoService.Upload index sub)) f = refl
none_replied areas (Service.Sdo (SdoService.DownloadAll index sub bytes)) f = absurd f
none_replied areas (Service.Sdo (SdoService.UploadAll index sub)) f = absurd f
none_replied areas (Service.Sdo (SdoService.List kind)) f = absurd f
none_replied areas (Service.Sdo (SdoService.ObjectInfo index)) f = absurd f
none_replied areas (Service.Sdo (SdoService.EntryInfo index sub info)) f = absurd f
none_replied areas (Service.ReadFile name pass) f = refl
none_replied areas (Service.WriteFile name pass bytes) f = refl
none_replied areas (Service.ReadIdn drive idn elements) f = absurd f
none_replied areas (Service.WriteIdn drive idn elements bytes) f = absurd f
none_replied areas (Service.SetIp block) f = absurd f
none_replied areas Service.GetIp f = absurd f
none_replied areas (Service.State target) f = absurd f
none_replied areas (Service.Forward packet) f = absurd f
