-- Protocol by protocol: what a client does is what the hand wants of it.
use Rattle.std.proofs.Common.{◌≡◌, ℕ, ◌+◌, ◌<◌, List, [], ◌∷◌, Bool, true, false, Option, Some, None, refl, sym, ap, ◌∙◌, subst, map, length, arith, inl, inr}
use Rattle.std.specs.Prelude.{is_some, Ok, ◌≤◌, ◌↔◌, if◌then◌else◌, zero, suc, ◌&&◌, ◌⊎◌, nat_le, nat_lt}
use Rattle.std.specs.Bool.{OnTrue, OnFalse}
use Rattle.eoe_client.specs.of_mailbox_mail.declared.mail.Mail.{Mail}
use Rattle.eoe_client.specs.of_mailbox_mail.declared.mail.Kind.{Kind}
use Rattle.eoe_client.specs.of_mailbox_mail.declared.outcome.Took.{Took}
use Rattle.foe_client.specs.of_exchange_model.Areas.{Areas}
use Rattle.master_side.specs.of_link_mails.Body.{Body}
use Rattle.eoe_client.specs.of_protocol_models.CoeMails as CoeMails
use Rattle.eoe_client.specs.of_protocol_models.CoeOctets as CoeOctets
use Rattle.coe_client.specs.Talk as CoeTalk
use Rattle.coe_client.specs.Hear as CoeHear
use Rattle.coe_client.specs.Send as CoeSend
use Rattle.coe_client.specs.declared.state.Awaits as CoeAwaits
use Rattle.eoe_client.specs.of_protocol_models.FoeMails as FoeMails
use Rattle.eoe_client.specs.of_protocol_models.FoeOctets as FoeOctets
use Rattle.foe_client.specs.Talk as FoeTalk
use Rattle.foe_client.specs.Hear as FoeHear
use Rattle.foe_client.specs.Send as FoeSend
use Rattle.foe_client.specs.declared.state.Awaits as FoeAwaits
use Rattle.foe_client.specs.declared.state.Unsent as FoeUnsent
use Rattle.eoe_client.specs.of_protocol_models.SoeMails as SoeMails
use Rattle.eoe_client.specs.of_protocol_models.SoeOctets as SoeOctets
use Rattle.soe_client.specs.Talk as SoeTalk
use Rattle.soe_client.specs.Hear as SoeHear
use Rattle.soe_client.specs.declared.state.Awaits as SoeAwaits
use Rattle.eoe_client.specs.of_protocol_models.EoeMails as EoeMails
use Rattle.eoe_client.specs.of_protocol_models.EoeOctets as EoeOctets
use Rattle.eoe_client.specs.Talk as EoeTalk
use Rattle.eoe_client.specs.Hear as EoeHear
use Rattle.eoe_client.specs.declared.address.Awaits as EoeAwaits
use Rattle.coe_client.specs.of_object_dictionary.declared.service.SdoService.{SdoService}
use Rattle.eoe_client.specs.of_protocol_models.CoeClient as CoeClient
use Rattle.eoe_client.specs.of_protocol_models.CoeModel as CoeModel
use Rattle.eoe_client.specs.of_protocol_models.FoeMeaning as FoeMeaning
use Rattle.eoe_client.specs.of_protocol_models.FoeClient as FoeClient
use Rattle.eoe_client.specs.of_protocol_models.FoeModel as FoeModel
use Rattle.eoe_client.specs.of_protocol_models.SoeClient as SoeClient
use Rattle.eoe_client.specs.of_protocol_models.EoeClient as EoeClient
use Rattle.eoe_client.specs.of_protocol_models.EoeMails.{packet_mails}
use Rattle.coe_client.proofs.of_ec_fields.Cells.{AreOctets}
use Rattle.eoe_client.specs.of_protocol_models.Elements.{target}
use Rattle.segment_plan.specs.Sound.{IsSdo}
use Rattle.master_hand.specs.Spoken.{sdo, file, drive, net, told_sdo, heard_sdo, told_file, heard_file, told_drive, heard_drive, told_net, heard_net, replied}
use Rattle.master_hand.specs.Passed.{body_of, mail_of}
use Rattle.master_hand.specs.Talk.{Talking, client_later, client_awaits, IsSent, ClientTook, Starts, Begins, octets_of}
use Rattle.master_hand.specs.declared.clients.Which.{Which}
use Rattle.master_hand.specs.declared.passed.Content.{Content}

-- lists of mails

none_mapped : {A B : Type 0} (f : A → B) (xs : List A) → map f xs ≡ [] → xs ≡ []
none_mapped f [] e = refl
none_mapped f (x ∷ xs) e = absurd (cc)

pub left_mapped : {A B : Type 0} (f : A → B) (b : Bool) (xs : List A) → (b ≡ false) ↔ (xs ≡ []) → (b ≡ false) ↔ (map f xs ≡ [])
left_mapped f b xs e = ((λ z. ap (map f) (e.0 z)), (λ z. e.1 (none_mapped f xs z)))

some_replied : {R : Type 0} (o : Option R) → is_some o ≡ true → is_some (replied o) ≡ true
some_replied (Some r) e = refl
some_replied None e = absurd (cc)

pub replied_some : {R : Type 0} (o : Option R) → is_some (replied o) ≡ true → is_some o ≡ true
replied_some (Some r) e = refl
replied_some None e = absurd (cc)

-- a mail with this body is the one held
abbrev body_with : Mail → Body
body_with m = Ok m

held_is : (held : Content) (kind : Kind) → held.kind ≡ kind → body_with (record { address = 0; kind = kind; counter = 0; body = record { items = held.body.items } }) ≡ body_with (mail_of held)
held_is held kind e = ap (λ (k : Kind). body_with (record { address = 0; kind = k; counter = 0; body = held.body })) (sym e)

-- CoE

pub sdo_sent : (P : Type 0) (b : Bool) (old : Talking) (c : CoeTalk.Talking) (held : Content) → OnTrue b (CoeSend.SendsNext old.sdo held.body.items c) → OnTrue b (length held.body.items + 6 ≤ old.sdo.room) → OnFalse b ((c ≡ old.sdo) × P) →
    ((ms : List CoeMails.CoeMail) → CoeTalk.awaited c ms ≡ CoeTalk.awaited old.sdo ms) → old.sdo.room ≡ old.areas.out → held.kind ≡ Kind.CoE → IsSent b Which.Coe old held (record old { sdo = c })
sdo_sent P true old c held s f n a r k = record {
  mails = λ hs. ap (map told_sdo) (s.mails (map heard_sdo hs)) ∙ ap (λ b. b ∷ map told_sdo (CoeTalk.later c (map heard_sdo hs))) (ap body_with s.spelled ∙ held_is held Kind.CoE k);
  replies = λ hs. ap replied (a (map heard_sdo hs));
  fits = omega (arith, f, r);
  areas = refl;
}
sdo_sent P false old c held s f n a r k = ap (λ (z : CoeTalk.Talking). record old { sdo = z }) n.0

sdo_over : (c : CoeTalk.Talking) (a : CoeAwaits.Awaits) → c.awaits ≡ a → CoeTalk.is_replied a ≡ true → is_some (CoeTalk.awaited c []) ≡ true
sdo_over c (CoeAwaits.Awaits.Over kind) e o = ap (λ (b : CoeAwaits.Awaits). is_some (CoeTalk.awaited (record c { awaits = b }) [])) e
sdo_over c CoeAwaits.Awaits.Nothing e o = absurd (cc)
sdo_over c CoeAwaits.Awaits.Acceptance e o = absurd (cc)
sdo_over c (CoeAwaits.Awaits.SegmentAnswers left toggle) e o = absurd (cc)
sdo_over c CoeAwaits.Awaits.FirstAnswer e o = absurd (cc)
sdo_over c (CoeAwaits.Awaits.Parts size toggle) e o = absurd (cc)
sdo_over c (CoeAwaits.Awaits.Information opcode) e o = absurd (cc)

pub sdo_took : (took : Took) (old : Talking) (c : CoeTalk.Talking) (m : Mail) → CoeHear.TookIs took old.sdo (CoeOctets.coe_mail_heard m) c → ClientTook took Which.Coe old (body_of m) (record old { sdo = c })
sdo_took Took.More old c m t =
    (record { mails = λ e hs. ap (map told_sdo) (t.0.mails (map heard_sdo hs)); replies = λ hs. ap replied (t.0.replies (map heard_sdo hs)) }, ap replied t.1.yet)
sdo_took Took.Done old c m t = (
  record { mails = λ e hs. ap (map told_sdo) (t.mails (none_mapped told_sdo (CoeTalk.later old.sdo []) e) (map heard_sdo hs)); replies = λ hs. ap replied (t.replies (map heard_sdo hs)) },
  some_replied (CoeTalk.awaited c []) (sdo_over c c.awaits refl t.over),
)
sdo_took Took.Foreign old c m t = ((λ hs. ap replied (t.0 (map heard_sdo hs))), ap (λ (z : CoeTalk.Talking). record old { sdo = z }) t.1)

-- FoE

pub file_sent : (P : Type 0) (b : Bool) (old : Talking) (c : FoeTalk.Talking) (held : Content) → OnTrue b (FoeSend.SendsNext old.file held.body.items c) → OnTrue b (length held.body.items + 6 ≤ old.file.out) → OnFalse b ((c ≡ old.file) × P) →
    ((ms : List FoeMails.FoeMail) → FoeTalk.awaited c ms ≡ FoeTalk.awaited old.file ms) → FoeTalk.areas_of old.file ≡ old.areas → held.kind ≡ Kind.FoE → IsSent b Which.ReadFile old held (record old { file = c })
file_sent P true old c held s f n a r k = record {
  mails = λ hs. ap (map told_file) (s.mails (map heard_file hs)) ∙ ap (λ b. b ∷ map told_file (FoeTalk.later c (map heard_file hs))) (ap body_with s.spelled ∙ held_is held Kind.FoE k);
  replies = λ hs. ap replied (a (map heard_file hs));
  fits = let e : old.file.out ≡ old.areas.out = ap (λ (z : Areas). z.out) r in omega (arith, f, e);
  areas = refl;
}
file_sent P false old c held s f n a r k = ap (λ (z : FoeTalk.Talking). record old { file = z }) n.0

none_let : (a : FoeAwaits.Awaits) → FoeTalk.lets_go a [] ≡ 0
none_let FoeAwaits.Awaits.Nothing = refl
none_let (FoeAwaits.Awaits.Packet number) = refl
none_let (FoeAwaits.Awaits.Ack left number) = refl
none_let (FoeAwaits.Awaits.Over kind) = by (FoeTalk.is_value kind)
  where
    by : (b : Bool) → (if b then FoeTalk.for_packets [] else 0) ≡ 0
    by true = refl
    by false = refl

none_sending : (out pass : ℕ) (name bytes : List ℕ) (n : ℕ) (unsent : FoeUnsent.Unsent) → FoeTalk.sending out pass name bytes n unsent ≡ [] → n ≡ 0
none_sending out pass name bytes zero unsent e = refl
none_sending out pass name bytes (suc n) unsent e = absurd (cc)

none_may_go : (c : FoeTalk.Talking) → FoeTalk.later c [] ≡ [] → c.quota < FoeHear.most_mails
none_may_go c e =
    let n : c.quota + FoeTalk.lets_go c.awaits [] ≡ 0 = none_sending c.out c.pass c.name c.bytes (c.quota + FoeTalk.lets_go c.awaits []) c.unsent e in
    let l = none_let c.awaits in
    omega (arith, n, l)

file_over : (c : FoeTalk.Talking) (a : FoeAwaits.Awaits) → c.awaits ≡ a → FoeTalk.awaits_nothing a ≡ true → is_some (FoeTalk.awaited c []) ≡ true
file_over c (FoeAwaits.Awaits.Over kind) e o = ap (λ (b : FoeAwaits.Awaits). is_some (FoeTalk.awaited (record c { awaits = b }) [])) e
file_over c FoeAwaits.Awaits.Nothing e o = absurd (cc)
file_over c (FoeAwaits.Awaits.Packet number) e o = absurd (cc)
file_over c (FoeAwaits.Awaits.Ack left number) e o = absurd (cc)

pub file_took : (took : Took) (old : Talking) (c : FoeTalk.Talking) (m : Mail) → FoeHear.TookIs took old.file (FoeOctets.foe_mail_heard m) c → ClientTook took Which.ReadFile old (body_of m) (record old { file = c })
file_took Took.More old c m t =
    (record { mails = λ e hs. ap (map told_file) (t.0.mails (none_may_go old.file (none_mapped told_file (FoeTalk.later old.file []) e)) (map heard_file hs)); replies = λ hs. ap replied (t.0.replies (map heard_file hs)) }, ap replied t.1.yet)
file_took Took.Done old c m t = (
  record { mails = λ e hs. ap (map told_file) (t.mails (none_mapped told_file (FoeTalk.later old.file []) e) (map heard_file hs)); replies = λ hs. ap replied (t.replies (map heard_file hs)) },
  some_replied (FoeTalk.awaited c []) (file_over c c.awaits refl t.over),
)
file_took Took.Foreign old c m t = ((λ hs. ap replied (t.0 (map heard_file hs))), ap (λ (z : FoeTalk.Talking). record old { file = z }) t.1)

pub file_done : (c : FoeTalk.Talking) (a : FoeAwaits.Awaits) → c.awaits ≡ a → is_some (replied (FoeTalk.awaited (record c { awaits = a }) [])) ≡ true → FoeTalk.awaits_nothing a ≡ true
file_done c (FoeAwaits.Awaits.Over kind) e o = refl
file_done c FoeAwaits.Awaits.Nothing e o = absurd (cc)
file_done c (FoeAwaits.Awaits.Packet number) e o = absurd (cc)
file_done c (FoeAwaits.Awaits.Ack zero number) e o = absurd (cc)
file_done c (FoeAwaits.Awaits.Ack (suc left) number) e o = absurd (cc)

-- SoE

pub drive_sent : (P : Type 0) (b : Bool) (old : Talking) (c : SoeTalk.Talking) (held : Content) → OnTrue b (SoeTalk.SendsNext old.drive held.body.items c) → OnTrue b (length held.body.items + 6 ≤ old.drive.room) → OnFalse b ((c ≡ old.drive) × P) →
    ((ms : List SoeMails.SoeMail) → SoeTalk.awaited c ms ≡ SoeTalk.awaited old.drive ms) → old.drive.room ≡ old.areas.out → held.kind ≡ Kind.SoE → IsSent b Which.Soe old held (record old { drive = c })
drive_sent P true old c held s f n a r k = record {
  mails = λ hs. ap (map told_drive) s.mails ∙ ap (λ b. b ∷ map told_drive (SoeTalk.left c)) (ap body_with s.spelled ∙ held_is held Kind.SoE k);
  replies = λ hs. ap replied (a (map heard_drive hs));
  fits = omega (arith, f, r);
  areas = refl;
}
drive_sent P false old c held s f n a r k = ap (λ (z : SoeTalk.Talking). record old { drive = z }) n.0

drive_over : (c : SoeTalk.Talking) (a : SoeAwaits.Awaits) → c.awaits ≡ a → SoeTalk.awaits_nothing a ≡ true → is_some (SoeTalk.awaited c []) ≡ true
drive_over c (SoeAwaits.Awaits.Over kind) e o = ap (λ (b : SoeAwaits.Awaits). is_some (SoeTalk.awaited (record c { awaits = b }) [])) e
drive_over c SoeAwaits.Awaits.Nothing e o = absurd (cc)
drive_over c SoeAwaits.Awaits.Parts e o = absurd (cc)
drive_over c SoeAwaits.Awaits.Answer e o = absurd (cc)

pub drive_took : (took : Took) (old : Talking) (c : SoeTalk.Talking) (m : Mail) → SoeHear.TookIs took old.drive (SoeOctets.soe_mail_heard m) c → ClientTook took Which.Soe old (body_of m) (record old { drive = c })
drive_took Took.More old c m t = (record { mails = λ e hs. ap (map told_drive) t.2; replies = λ hs. ap replied (t.0.replies (map heard_drive hs)) }, ap replied t.1.yet)
drive_took Took.Done old c m t = (
  record { mails = λ e hs. ap (map told_drive) (t.2 ∙ sym (none_mapped told_drive (SoeTalk.left old.drive) e)); replies = λ hs. ap replied (t.0.replies (map heard_drive hs)) },
  some_replied (SoeTalk.awaited c []) (drive_over c c.awaits refl t.1),
)
drive_took Took.Foreign old c m t = ((λ hs. ap replied (t.0 (map heard_drive hs))), ap (λ (z : SoeTalk.Talking). record old { drive = z }) t.1)

pub drive_done : (c : SoeTalk.Talking) (a : SoeAwaits.Awaits) → c.awaits ≡ a → is_some (replied (SoeTalk.awaited (record c { awaits = a }) [])) ≡ true → SoeTalk.awaits_nothing a ≡ true
drive_done c (SoeAwaits.Awaits.Over kind) e o = refl
drive_done c SoeAwaits.Awaits.Nothing e o = absurd (cc)
drive_done c SoeAwaits.Awaits.Parts e o = absurd (cc)
drive_done c SoeAwaits.Awaits.Answer e o = absurd (cc)

-- the address services

pub address_sent : (P : Type 0) (b : Bool) (old : Talking) (c : EoeTalk.Talking) (held : Content) → OnTrue b (EoeTalk.SendsNext old.address held.body.items c) → OnTrue b (length held.body.items + 6 ≤ old.address.room) → OnFalse b ((c ≡ old.address) × P) →
    ((ms : List EoeMails.EoeMail) → EoeTalk.awaited c ms ≡ EoeTalk.awaited old.address ms) → old.address.room ≡ old.areas.out → held.kind ≡ Kind.EoE → IsSent b Which.Address old held (record old { address = c })
address_sent P true old c held s f n a r k = record {
  mails = λ hs. ap (map told_net) s.mails ∙ ap (λ b. b ∷ map told_net (EoeTalk.left c)) (ap body_with s.spelled ∙ held_is held Kind.EoE k);
  replies = λ hs. ap replied (a (map heard_net hs));
  fits = omega (arith, f, r);
  areas = refl;
}
address_sent P false old c held s f n a r k = ap (λ (z : EoeTalk.Talking). record old { address = z }) n.0

address_over : (c : EoeTalk.Talking) (a : EoeAwaits.Awaits) → c.awaits ≡ a → EoeTalk.awaits_nothing a ≡ true → is_some (EoeTalk.awaited c []) ≡ true
address_over c (EoeAwaits.Awaits.Over kind) e o = ap (λ (b : EoeAwaits.Awaits). is_some (EoeTalk.awaited (record c { awaits = b }) [])) e
address_over c EoeAwaits.Awaits.Nothing e o = absurd (cc)
address_over c EoeAwaits.Awaits.SetAnswer e o = absurd (cc)
address_over c EoeAwaits.Awaits.GetAnswer e o = absurd (cc)

pub address_took : (took : Took) (old : Talking) (c : EoeTalk.Talking) (m : Mail) → EoeHear.TookIs took old.address (EoeOctets.eoe_mail_heard m) c → ClientTook took Which.Address old (body_of m) (record old { address = c })
address_took Took.More old c m t = absurd t
address_took Took.Done old c m t =
    (record { mails = λ e hs. ap (map told_net) t.0.mails; replies = λ hs. ap replied (t.0.replies (map heard_net hs)) }, some_replied (EoeTalk.awaited c []) (address_over c c.awaits refl t.1))
address_took Took.Foreign old c m t = ((λ hs. ap replied (t.0 (map heard_net hs))), ap (λ (z : EoeTalk.Talking). record old { address = z }) t.1)

pub address_done : (c : EoeTalk.Talking) (a : EoeAwaits.Awaits) → c.awaits ≡ a → is_some (replied (EoeTalk.awaited (record c { awaits = a }) [])) ≡ true → EoeTalk.awaits_nothing a ≡ true
address_done c (EoeAwaits.Awaits.Over kind) e o = refl
address_done c EoeAwaits.Awaits.Nothing e o = absurd (cc)
address_done c EoeAwaits.Awaits.SetAnswer e o = absurd (cc)
address_done c EoeAwaits.Awaits.GetAnswer e o = absurd (cc)

-- packets

pub fragment_sent : (P : Type 0) (b : Bool) (old : Talking) (c : EoeTalk.Sending) (held : Content) → OnTrue b (EoeTalk.SendsPart old.packets held.body.items c) → OnTrue b (length held.body.items + 6 ≤ old.packets.room) → OnFalse b ((c ≡ old.packets) × P) →
    old.packets.room ≡ old.areas.out → held.kind ≡ Kind.EoE → IsSent b Which.Packet old held (record old { packets = c })
fragment_sent P true old c held s f n r k = record {
  mails = λ hs. ap (map told_net) s.mails ∙ ap (λ b. b ∷ map told_net (EoeTalk.fragments_left c.cutting)) (ap body_with s.spelled ∙ held_is held Kind.EoE k);
  replies = λ hs. refl;
  fits = omega (arith, f, r);
  areas = refl;
}
fragment_sent P false old c held s f n r k = ap (λ (z : EoeTalk.Sending). record old { packets = z }) n.0

-- a file is written by the client that reads them
pub write_sent : (b : Bool) (old : Talking) (held : Content) (new : Talking) → IsSent b Which.ReadFile old held new → IsSent b Which.WriteFile old held new
write_sent true old held new s = record { mails = s.mails; replies = s.replies; fits = s.fits; areas = s.areas }
write_sent false old held new s = s

pub write_took : (took : Took) (old : Talking) (b : Body) (new : Talking) → ClientTook took Which.ReadFile old b new → ClientTook took Which.WriteFile old b new
write_took Took.More old b new t = (record { mails = t.0.mails; replies = t.0.replies }, t.1)
write_took Took.Done old b new t = (record { mails = t.0.mails; replies = t.0.replies }, t.1)
write_took Took.Foreign old b new t = (t.0, t.1)

-- services begin

pub sdo_starts : (old : Talking) (c : CoeTalk.Talking) (s : SdoService) → ((ms : List CoeMails.CoeMail) → CoeTalk.awaited c ms ≡ CoeClient.ends old.sdo.room (CoeTalk.service_view s) ms) →
    ((hs : List CoeMails.CoeMail) → CoeTalk.later c hs ≡ CoeModel.planned old.sdo.room (CoeTalk.service_view s) hs) → old.sdo.room ≡ old.areas.out → Starts old.areas (sdo (CoeTalk.service_view s)) Which.Coe (record old { sdo = c })
sdo_starts old c s a l r = record {
  kind = refl;
  mails = λ hs. ap (map told_sdo) (l (map heard_sdo hs) ∙ ap (λ (n : ℕ). CoeModel.planned n (CoeTalk.service_view s) (map heard_sdo hs)) r);
  replies = λ hs. ap replied (a (map heard_sdo hs) ∙ ap (λ (n : ℕ). CoeClient.ends n (CoeTalk.service_view s) (map heard_sdo hs)) r);
}

pub read_starts : (old : Talking) (c : FoeTalk.Talking) (name : List ℕ) (pass : ℕ) → ((ms : List FoeMails.FoeMail) → FoeTalk.awaited c ms ≡ FoeClient.ends (FoeTalk.areas_of old.file) (FoeMeaning.read name pass) ms) →
    ((hs : List FoeMails.FoeMail) → FoeTalk.later c hs ≡ FoeModel.planned old.file.out (FoeMeaning.read name pass) hs) → FoeTalk.areas_of old.file ≡ old.areas → Starts old.areas (file (FoeMeaning.read name pass)) Which.ReadFile (record old { file = c })
read_starts old c name pass a l r = record {
  kind = refl;
  mails = λ hs. ap (map told_file) (l (map heard_file hs) ∙ ap (λ (z : Areas). FoeModel.planned z.out (FoeMeaning.read name pass) (map heard_file hs)) r);
  replies = λ hs. ap replied (a (map heard_file hs) ∙ ap (λ (z : Areas). FoeClient.ends z (FoeMeaning.read name pass) (map heard_file hs)) r);
}

pub write_starts : (old : Talking) (c : FoeTalk.Talking) (name : List ℕ) (pass : ℕ) (bytes : List ℕ) → ((ms : List FoeMails.FoeMail) → FoeTalk.awaited c ms ≡ FoeClient.ends (FoeTalk.areas_of old.file) (FoeMeaning.write name pass bytes) ms) →
    ((hs : List FoeMails.FoeMail) → FoeTalk.later c hs ≡ FoeModel.planned old.file.out (FoeMeaning.write name pass bytes) hs) → FoeTalk.areas_of old.file ≡ old.areas → Starts old.areas (file (FoeMeaning.write name pass bytes)) Which.WriteFile (record old { file = c })
write_starts old c name pass bytes a l r = record {
  kind = refl;
  mails = λ hs. ap (map told_file) (l (map heard_file hs) ∙ ap (λ (z : Areas). FoeModel.planned z.out (FoeMeaning.write name pass bytes) (map heard_file hs)) r);
  replies = λ hs. ap replied (a (map heard_file hs) ∙ ap (λ (z : Areas). FoeClient.ends z (FoeMeaning.write name pass bytes) (map heard_file hs)) r);
}

pub drive_starts : (old : Talking) (c : SoeTalk.Talking) (q : SoeClient.Service) → ((ms : List SoeMails.SoeMail) → SoeTalk.awaited c ms ≡ SoeClient.ends q ms) → SoeTalk.left c ≡ SoeClient.mails_of old.drive.room q → old.drive.room ≡ old.areas.out →
    Starts old.areas (drive q) Which.Soe (record old { drive = c })
drive_starts old c q a l r = record {
  kind = refl;
  mails = λ hs. ap (map told_drive) (l ∙ ap (λ (n : ℕ). SoeClient.mails_of n q) r);
  replies = λ hs. ap replied (a (map heard_drive hs));
}

pub set_begins : (old : Talking) (c : EoeTalk.Talking) (block : List ℕ) → ((ms : List EoeMails.EoeMail) → EoeTalk.awaited c ms ≡ EoeClient.ends (EoeClient.set_ip block) ms) → EoeTalk.left c ≡ EoeClient.mails_of old.address.room (EoeClient.set_ip block) →
    Begins (Some Which.Address) (Some (net (EoeClient.set_ip block))) old (record old { address = c })
set_begins old c block a l = (
  net (EoeClient.set_ip block),
  refl,
  record {
    kind = refl;
    mails = λ hs. ap (map told_net) l;
    replies = λ hs. ap replied (a (map heard_net hs));
  },
)

pub get_starts : (old : Talking) (c : EoeTalk.Talking) → ((ms : List EoeMails.EoeMail) → EoeTalk.awaited c ms ≡ EoeClient.ends EoeClient.get_ip ms) → EoeTalk.left c ≡ EoeClient.mails_of old.address.room EoeClient.get_ip →
    Starts old.areas (net EoeClient.get_ip) Which.Address (record old { address = c })
get_starts old c a l = record {
  kind = refl;
  mails = λ hs. ap (map told_net) l;
  replies = λ hs. ap replied (a (map heard_net hs));
}

pub packet_starts : (old : Talking) (c : EoeTalk.Sending) (octets : List ℕ) (frame : ℕ) → EoeTalk.fragments_left c.cutting ≡ packet_mails old.packets.room octets frame → old.packets.room ≡ old.areas.out →
    Starts old.areas (net (EoeClient.packet octets frame)) Which.Packet (record old { packets = c })
packet_starts old c octets frame l r = record {
  kind = refl;
  mails = λ hs. ap (map told_net) (l ∙ ap (λ (n : ℕ). packet_mails n octets frame) r);
  replies = λ hs. sym (none_replied hs);
}
  where
    none_replied : (hs : List Body) → replied (EoeClient.ends (EoeClient.packet octets frame) (map heard_net hs)) ≡ None
    none_replied hs = refl

-- what the services need of their clients, and what the laws want of them

below : (a b : ℕ) → a < b → nat_lt a b ≡ true
below a b h = grind (arith, h)

within : (a b : ℕ) → a ≤ b → nat_le a b ≡ true
within a b h = grind (arith, h)

pub octets_are : (xs : List ℕ) → AreOctets xs → CoeModel.are_octets xs ≡ true
octets_are [] o = refl
octets_are (x ∷ xs) o =
    let l = below x 256 (o 0) in
    let r = octets_are xs (λ i. o (suc i)) in
    λ k. l k && r k

target_valid : (index sub : ℕ) (all : Bool) → index ≤ 0xFFFF → sub ≤ 0xFF → CoeModel.is_target (record { index = index; sub = sub; all = all }) ≡ true
target_valid index sub all i s =
    let a = below index 65536 (omega (arith, i)) in
    let b = below sub 256 (omega (arith, s)) in
    λ k. a k && b k

pub sdo_valid : (s : SdoService) → IsSdo s → CoeModel.are_octets (octets_of s) ≡ true → CoeModel.is_service (CoeTalk.service_view s) ≡ true
sdo_valid (SdoService.Download index sub bytes) h o =
    let t = target_valid index sub false h.0 h.1 in let l = within (length bytes) 16384 (omega (arith, h.3)) in λ k. t k && o k && l k
sdo_valid (SdoService.DownloadAll index from bytes) h o =
    let t = target_valid index from true h.0 h.1 in let l = within (length bytes) 16384 (omega (arith, h.3)) in λ k. t k && o k && l k
sdo_valid (SdoService.Upload index sub) h o = target_valid index sub false h.0 h.1
sdo_valid (SdoService.UploadAll index from) h o = target_valid index from true h.0 h.1
sdo_valid (SdoService.List kind) h o = below kind 65536 (omega (arith, h))
sdo_valid (SdoService.ObjectInfo index) h o = below index 65536 (omega (arith, h))
sdo_valid (SdoService.EntryInfo index sub info) h o =
    let a = below index 65536 (omega (arith, h.0)) in let b = below sub 256 (omega (arith, h.1)) in let d = below info 256 (omega (arith, h.2)) in λ k. a k && b k && d k

pub sdo_short : (s : SdoService) → IsSdo s → CoeTalk.octets_in s ≤ 16384
sdo_short (SdoService.Download index sub bytes) h = omega (arith, h.3)
sdo_short (SdoService.DownloadAll index from bytes) h = omega (arith, h.3)
sdo_short (SdoService.Upload index sub) h = omega (arith)
sdo_short (SdoService.UploadAll index from) h = omega (arith)
sdo_short (SdoService.List kind) h = omega (arith)
sdo_short (SdoService.ObjectInfo index) h = omega (arith)
sdo_short (SdoService.EntryInfo index sub info) h = omega (arith)

pub drive_valid : (number idn elements : ℕ) → number ≤ 7 → idn < 65536 → elements < 256 → SoeClient.is_target (target number idn elements) ≡ true
drive_valid number idn elements n i e =
    let a = below number 8 (omega (arith, n)) in let b = below idn 65536 i in let d = below elements 256 e in λ k. a k && b k && d k

-- a client of files has a mail left, and is done, alike for reads and writes

pub file_left : (which : Which) (c : Talking) (b : Bool) → (which ≡ Which.ReadFile) ⊎ (which ≡ Which.WriteFile) → (b ≡ false) ↔ (FoeTalk.later c.file [] ≡ []) → (b ≡ false) ↔ (client_later which c [] ≡ [])
file_left which c b (inl w) e = subst (λ (z : Which). (b ≡ false) ↔ (client_later z c [] ≡ [])) (sym w) (left_mapped told_file b (FoeTalk.later c.file []) e)
file_left which c b (inr w) e = subst (λ (z : Which). (b ≡ false) ↔ (client_later z c [] ≡ [])) (sym w) (left_mapped told_file b (FoeTalk.later c.file []) e)

pub file_closed : (which : Which) (c : Talking) → (which ≡ Which.ReadFile) ⊎ (which ≡ Which.WriteFile) → is_some (client_awaits which c []) ≡ true → FoeTalk.awaits_nothing c.file.awaits ≡ true
file_closed which c (inl w) e = file_done c.file c.file.awaits refl (subst (λ (z : Which). is_some (client_awaits z c []) ≡ true) w e)
file_closed which c (inr w) e = file_done c.file c.file.awaits refl (subst (λ (z : Which). is_some (client_awaits z c []) ≡ true) w e)

pub packet_valid : (octets : List ℕ) (frame : ℕ) → 14 ≤ length octets → length octets ≤ 1514 → frame < 16 → EoeClient.is_service (EoeClient.packet octets frame) ≡ true
packet_valid octets frame l m f =
    let a = within 14 (length octets) l in let b = within (length octets) 1514 m in let d = below frame 16 f in λ k. a k && b k && d k
