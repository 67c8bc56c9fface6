-- A client hears the mails that wait in a server, one behind the other.
use Rattle.std.proofs.Common.{◌≡◌, ◌⊎◌, inl, inr, ℕ, zero, suc, ◌-◌, ◌≤◌, nat_le, take, drop, if◌then◌else◌, Bool, true, false, List, [], ◌∷◌, ◌++◌, length, None, Some, refl, sym, ap, subst, ◌∙◌, arith, append_assoc, length-append}
use Rattle.coe_client.specs.of_exchange_model.Exchange.{plain, emitted}
use Rattle.coe_client.specs.of_exchange_model.Lifted.{EachOf}
use Rattle.coe_client.proofs.of_exchange_model.Lists.{filter-append}
use Rattle.coe_client.proofs.of_exchange_model.Words.{plain-append}
use Rattle.coe_client.specs.of_mailbox_mail.declared.outcome.Took.{Took}
use Rattle.coe_client.specs.of_protocol_models.CoeMails.{CoeMail, mail, Coe, Emergency, Information, is_emission}
use Rattle.arrayvec.specs.declared.array_vec.ArrayVec.{ArrayVec}
use Rattle.coe_client.specs.of_protocol_models.CoeMeaning.{Reply}
use Rattle.coe_client.specs.of_protocol_models.CoeServer.{information_parts, parts_of}
use Rattle.coe_server.specs.declared.state.Pending.{Pending}
use Rattle.coe_server.specs.declared.state.Emitted.{Emitted}
use Rattle.coe_client.specs.of_mailbox_mail.declared.mail.Mail.{Mail}
use Rattle.coe_client.specs.of_protocol_models.CoeOctets.{coe_mail_heard}
use Rattle.coe_server.specs.Serving.{Serving, pending_mails, emergencies, waiting_mails, GivesNext}
use Rattle.coe_client.specs.Talk.{Talking, later, awaited, is_replied}
use Rattle.coe_client.specs.Hear.{TookIs}
use Rattle.coe_client.specs.declared.state.Awaits.{Awaits}
use Rattle.coe_law.specs.Talks.{Hears, IsDone, IsAwaited, IsGiven}

pub emitted-append : (xs ys : List CoeMail) → emitted is_emission (xs ++ ys) ≡ emitted is_emission xs ++ emitted is_emission ys
emitted-append xs ys = filter-append is_emission xs ys

pub hears_nothing : (c : Talking) → Hears c [] c
hears_nothing c = record { replies = λ ms. refl; mails = inl (λ ms. refl); room = refl }

-- a client that has its reply
has_reply : (c : Talking) (a : Awaits) → c.awaits ≡ a → is_replied a ≡ true → (r : Reply) × (awaited c [] ≡ Some r)
has_reply c Awaits.Nothing same over = absurd (cc)
has_reply c Awaits.Acceptance same over = absurd (cc)
has_reply c (Awaits.SegmentAnswers left toggle) same over = absurd (cc)
has_reply c Awaits.FirstAnswer same over = absurd (cc)
has_reply c (Awaits.Parts size toggle) same over = absurd (cc)
has_reply c (Awaits.Information opcode) same over = absurd (cc)
has_reply c (Awaits.Over kind) same over = ((kind, c.value), ap (λ (b : Awaits). awaited (record c { awaits = b }) []) same)

-- an awaited mail is taken
pub took : (t : Took) (old new : Talking) (m : CoeMail) → TookIs t old m new → IsAwaited old (m ∷ []) → Hears old (m ∷ []) new
took Took.More old new m (goes, waits) awaits = record { replies = goes.replies; mails = inl goes.mails; room = goes.room }
took Took.Done old new m ends awaits =
    let reply = has_reply new new.awaits refl ends.over in
    record {
      replies = ends.replies;
      mails = inr (record { front = m ∷ []; back = []; parts = refl; reply = reply.0; whole = sym (ends.replies []) ∙ reply.1; none = ends.none });
      room = ends.room;
    }
took Took.Foreign old new m (foreign, same) awaits = absurd (let none = foreign awaits.0 in let some : awaited old (m ∷ awaits.0) ≡ Some awaits.1 = awaits.2 in cc)

pub hears_more : (a b c : Talking) (xs ys : List CoeMail) → Hears a (plain is_emission xs) b → Hears b (plain is_emission ys) c → Hears a (plain is_emission (xs ++ ys)) c
hears_more a b c xs ys h k = record {
  replies = λ ms. k.replies ms ∙ h.replies (plain is_emission ys ++ ms) ∙ ap (awaited a) (joined ms);
  mails = by h.mails k.mails;
  room = k.room ∙ h.room;
}
  where
    joined : (ms : List CoeMail) → plain is_emission xs ++ (plain is_emission ys ++ ms) ≡ plain is_emission (xs ++ ys) ++ ms
    joined ms = sym (append_assoc (plain is_emission xs) (plain is_emission ys) ms) ∙ ap (λ l. l ++ ms) (sym (plain-append is_emission xs ys))

    by : ((ms : List CoeMail) → later b ms ≡ later a (plain is_emission xs ++ ms)) ⊎ IsDone a (plain is_emission xs) b → ((ms : List CoeMail) → later c ms ≡ later b (plain is_emission ys ++ ms)) ⊎ IsDone b (plain is_emission ys) c →
        ((ms : List CoeMail) → later c ms ≡ later a (plain is_emission (xs ++ ys) ++ ms)) ⊎ IsDone a (plain is_emission (xs ++ ys)) c
    by (inl g) (inl f) = inl (λ ms. f ms ∙ g (plain is_emission ys ++ ms) ∙ ap (later a) (joined ms))
    by (inr d) (inl f) = inr (record {
      front = d.front;
      back = d.back ++ plain is_emission ys;
      parts = plain-append is_emission xs ys ∙ ap (λ l. l ++ plain is_emission ys) d.parts ∙ append_assoc d.front d.back (plain is_emission ys);
      reply = d.reply;
      whole = d.whole;
      none = λ ms. f ms ∙ d.none (plain is_emission ys ++ ms);
    })
    by g (inr d) = inr (record {
      front = plain is_emission xs ++ d.front;
      back = d.back;
      parts = plain-append is_emission xs ys ∙ ap (λ l. plain is_emission xs ++ l) d.parts ∙ sym (append_assoc (plain is_emission xs) d.front d.back);
      reply = d.reply;
      whole = sym (h.replies d.front) ∙ d.whole;
      none = d.none;
    })

-- what is awaited behind a first part that was heard
pub awaited_behind : (a b : Talking) (xs ys zs : List CoeMail) → Hears a (plain is_emission xs) b → IsAwaited a (plain is_emission ((xs ++ ys) ++ zs)) → IsAwaited b (plain is_emission ys)
awaited_behind a b xs ys zs h awaits = (
  plain is_emission zs ++ awaits.0,
  awaits.1,
  h.replies (plain is_emission ys ++ (plain is_emission zs ++ awaits.0)) ∙ ap (awaited a) joined ∙ awaits.2,
)
  where
    joined : plain is_emission xs ++ (plain is_emission ys ++ (plain is_emission zs ++ awaits.0)) ≡ plain is_emission ((xs ++ ys) ++ zs) ++ awaits.0
    joined =
        sym (append_assoc (plain is_emission xs) (plain is_emission ys) (plain is_emission zs ++ awaits.0))
        ∙ ap (λ l. l ++ (plain is_emission zs ++ awaits.0)) (sym (plain-append is_emission xs ys))
        ∙ sym (append_assoc (plain is_emission (xs ++ ys)) (plain is_emission zs) awaits.0)
        ∙ ap (λ l. l ++ awaits.0) (sym (plain-append is_emission (xs ++ ys) zs))

-- ---- no mail that waits in a server is a fragment

parts_given : (fuel opcode part : ℕ) (bytes : List ℕ) → EachOf IsGiven (information_parts fuel opcode part bytes)
parts_given zero opcode part bytes = tt
parts_given (suc fuel) opcode part bytes = by (nat_le (length bytes) part) (parts_given fuel opcode part (drop part bytes))
  where
    by : (b : Bool) → EachOf IsGiven (information_parts fuel opcode part (drop part bytes)) →
        EachOf IsGiven (if b then mail (Information opcode false 0 (record { items = bytes })) ∷ [] else mail (Information opcode true (parts_of part (length bytes - part)) (record { items = take part bytes })) ∷ information_parts fuel opcode part (drop part bytes))
    by true h = (tt, tt)
    by false h = (tt, h)

pending_given : (room : ℕ) (value told : List ℕ) (p : Pending) → EachOf IsGiven (pending_mails room value told p)
pending_given room value told Pending.Nothing = tt
pending_given room value told (Pending.DownloadAnswer t) = (tt, tt)
pending_given room value told (Pending.SegmentAnswer toggle) = (tt, tt)
pending_given room value told (Pending.Abort t code) = (tt, tt)
pending_given room value told (Pending.Error code) = (tt, tt)
pending_given room value told (Pending.Failed detail) = (tt, tt)
pending_given room value told (Pending.Whole t) = (tt, tt)
pending_given room value told (Pending.First t upto) = (tt, tt)
pending_given room value told (Pending.Part from toggle) = (tt, tt)
pending_given room value told (Pending.Last from toggle) = (tt, tt)
pending_given room value told (Pending.Parts opcode from) = parts_given (suc (length told)) opcode (room - 12) (drop from told)

each_append : (xs ys : List CoeMail) → EachOf IsGiven xs → EachOf IsGiven ys → EachOf IsGiven (xs ++ ys)
each_append [] ys a b = b
each_append (x ∷ xs) ys a b = (a.0, each_append xs ys a.1 b)

emergencies_given : (e : Emitted) (octets : List ℕ) → EachOf IsGiven (emergencies e octets)
emergencies_given Emitted.Nothing octets = tt
emergencies_given Emitted.Emergency octets = (tt, tt)
emergencies_given Emitted.Packet octets = tt

pub waiting_given : (c : Serving) → EachOf IsGiven (waiting_mails c)
waiting_given c = each_append (pending_mails c.room c.value c.told c.pending) (emergencies c.emitted c.octets) (pending_given c.room c.value c.told c.pending) (emergencies_given c.emitted c.octets)

pub first_given : (c : Serving) (m : CoeMail) (rest : List CoeMail) → waiting_mails c ≡ m ∷ rest → IsGiven m
first_given c m rest is = (subst (EachOf IsGiven) is (waiting_given c)).0

-- the mail that a server gives is the first that waited, as it is heard
pub next_is : (old new : Serving) (written : Mail) → GivesNext old written new → waiting_mails old ≡ coe_mail_heard written ∷ waiting_mails new
next_is old new written g = g.rest ∙ ap (λ m. m ∷ waiting_mails new) (sym g.heard)

-- and so it is where it was carried through a mailbox
pub carried_is : (old new : Serving) (written carried : Mail) → coe_mail_heard carried ≡ coe_mail_heard written → GivesNext old written new → waiting_mails old ≡ coe_mail_heard carried ∷ waiting_mails new
carried_is old new written carried same g = next_is old new written g ∙ ap (λ m. m ∷ waiting_mails new) (sym same)

-- of mails that wait, with one more of them heard
pub one_more : (all done rest : List CoeMail) (m : CoeMail) (more : List CoeMail) → all ≡ done ++ rest → rest ≡ m ∷ more → all ≡ (done ++ m ∷ []) ++ more
one_more all done rest m more split is = split ∙ ap (λ l. done ++ l) is ∙ sym (append_assoc done (m ∷ []) more)

pub few_left : (start now all done : List CoeMail) (m : CoeMail) (more : List CoeMail) → now ≡ start ++ emitted is_emission done → all ≡ (done ++ m ∷ []) ++ more → length (start ++ emitted is_emission all) ≤ 1 →
    length (now ++ emitted is_emission (m ∷ [])) ≤ 1
few_left start now all done m more is split few =
    let e = ap length is in
    let a = ap length (ap (emitted is_emission) split ∙ emitted-append (done ++ m ∷ []) more ∙ ap (λ l. l ++ emitted is_emission more) (emitted-append done (m ∷ []))) in
    omega (
      arith,
      e,
      a,
      few,
      length-append start (emitted is_emission all),
      length-append start (emitted is_emission done),
      length-append now (emitted is_emission (m ∷ [])),
      length-append (emitted is_emission done ++ emitted is_emission (m ∷ [])) (emitted is_emission more),
      length-append (emitted is_emission done) (emitted is_emission (m ∷ [])),
    )

pub emerged : (start now new done : List CoeMail) (m : CoeMail) → now ≡ start ++ emitted is_emission done → new ≡ now ++ emitted is_emission (m ∷ []) → new ≡ start ++ emitted is_emission (done ++ m ∷ [])
emerged start now new done m is more =
    more ∙ ap (λ l. l ++ emitted is_emission (m ∷ [])) is ∙ append_assoc start (emitted is_emission done) (emitted is_emission (m ∷ []))
    ∙ ap (λ l. start ++ l) (sym (emitted-append done (m ∷ [])))

-- a message that is no emergency is no emission
pub no_emergency : (c : Coe) → ((octets : ArrayVec ℕ 8 (Unit {0})) → c ≡ Emergency octets → ⊥) → is_emission (mail c) ≡ false
no_emergency (Emergency octets) f = absurd (f octets refl)
no_emergency _ f = refl

-- a client whose reply is complete is over
pub is_complete : (b : Bool) (c : Talking) (r : Reply) → b ≡ is_replied c.awaits → (b ≡ false → awaited c [] ≡ None) → awaited c [] ≡ Some r → is_replied c.awaits ≡ true
is_complete true c r is yet complete = sym is
is_complete false c r is yet complete = absurd (let none = yet refl in cc)
