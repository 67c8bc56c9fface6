-- SoE owes the laws of an exchange and keeps them: for every element and value, through mailboxes of any lengths, from a server without an
-- unfinished join.
use Rattle.std.proofs.Common.{◌≡◌, ◌⊎◌, inl, inr, ℕ, zero, suc, ◌+◌, ◌-◌, ◌<◌, ◌≤◌, Bool, true, false, not, ◌&&◌, ◌||◌, ◌==◌, nat_lt, nat_le, List, [], ◌∷◌, ◌++◌, length, take, drop, Option, None, Some, Result, Ok, Err, refl, sym, ap, ◌∙◌, subst, arith, append-nil, leb-true, le-leb, le-ltb, length-drop, length-append, eq-eqb}
use Rattle.std.specs.Prelude.{if◌then◌else◌, is_none}
use Rattle.std.proofs.lemmas.Bool.{cases_lt, lt-leb}
use Rattle.std.proofs.lemmas.List.{take-append-drop, append_assoc, length-take-le}
use Rattle.byteorder.specs.Endian.{little_bytes}
use Rattle.coe_codec.specs.of_ec_fields.Fields.{number_at}
use Rattle.mailbox_mail.specs.declared.outcome.ReplyKind.{ReplyKind}
use Rattle.exchange_model.specs.Areas.{Areas, AreMailboxes}
use Rattle.exchange_model.specs.Exchange.{IsLawful, Before, Behind, after, given, plain, emitted}
use Rattle.exchange_model.proofs.Lists.{prefix_refl}
use Rattle.protocol_models.specs.Elements.{Target, Elements, AreLawful}
use Rattle.protocol_models.specs.SoeMails.{SoeMail, mail, unread, failed, other, is_emission, message, refusal, parts_of, fragments, fragments_of}
use Rattle.protocol_models.specs.SoeServer.{Join, Server, most, ahead, asked, behind, soe_outcome, serve, one_more}
use Rattle.protocol_models.specs.SoeClient.{Service, read, write, is_target, is_service, mails_of, Reply, read_means, write_means, meaning_of, at_end, is_refusal, refused, is_part, is_incomplete, octets_of, read_ends, is_written, write_ends, ends}
use Rattle.protocol_models.specs.SoeModel.{is_ready, soe_exchange}
use Rattle.protocol_models.proofs.SoeCarries.{Idle, Carried, carried_one, writes, left_by, answer_to}

-- a server sends nothing of itself
pub none_emitted : (ms : List SoeMail) → emitted is_emission ms ≡ []
none_emitted [] = refl
none_emitted (m ∷ ms) = none_emitted ms

pub all_plain : (ms : List SoeMail) → plain is_emission ms ≡ ms
all_plain [] = refl
all_plain (m ∷ ms) = ap (λ l. m ∷ l) (all_plain ms)

pub both_are : (a b : Bool) → (a && b) ≡ true → (a ≡ true) × (b ≡ true)
both_are true b e = (refl, e)
both_are false b e = absurd (cc)

no_join : (join : Option Join) → is_none join ≡ true → join ≡ None
no_join None e = refl
no_join (Some j) e = absurd (cc)

-- nothing behind a complete reply side belongs to it
end_closed : (hs : List SoeMail) (h : SoeMail) (more : List SoeMail) (v : Reply) → at_end (hs ++ h ∷ more) v ≡ None
end_closed [] h more v = refl
end_closed (k ∷ hs) h more v = refl

refused_closed : (opcode : ℕ) (t : Target) (m : SoeMail) (hs : List SoeMail) (h : SoeMail) (more : List SoeMail) → refused opcode t m (hs ++ h ∷ more) ≡ None
refused_closed opcode t (mail s) hs h more = by (is_refusal opcode t s)
  where
    by : (b : Bool) → (if b then at_end (hs ++ h ∷ more) (ReplyKind.SoeError (number_at 2 s.bytes.items 0), []) else None) ≡ None
    by true = end_closed hs h more (ReplyKind.SoeError (number_at 2 s.bytes.items 0), [])
    by false = refl
refused_closed opcode t (unread fault incomplete) hs h more = refl
refused_closed opcode t (failed detail) hs h more = end_closed hs h more (ReplyKind.MailboxError detail, [])
refused_closed opcode t (other body) hs h more = refl

read_closed : (t : Target) (got : List ℕ) (hs : List SoeMail) (h : SoeMail) (more : List SoeMail) (r : Reply) → read_ends t got hs ≡ Some r → read_ends t got (hs ++ h ∷ more) ≡ None
read_closed t got [] h more r e = absurd (cc)
read_closed t got (m ∷ hs) h more r e =
    by (is_part t m) (nat_lt most (length (got ++ octets_of m))) (is_incomplete m) e (read_closed t (got ++ octets_of m) hs h more r)
  where
    by : (a b c : Bool) →
        (if not a then refused 2 t m hs else if b then None else if c then read_ends t (got ++ octets_of m) hs else at_end hs (ReplyKind.Value, got ++ octets_of m)) ≡ Some r →
        (read_ends t (got ++ octets_of m) hs ≡ Some r → read_ends t (got ++ octets_of m) (hs ++ h ∷ more) ≡ None) →
        (if not a then refused 2 t m (hs ++ h ∷ more) else if b then None else if c then read_ends t (got ++ octets_of m) (hs ++ h ∷ more) else at_end (hs ++ h ∷ more) (ReplyKind.Value, got ++ octets_of m)) ≡ None
    by false b c e go = refused_closed 2 t m hs h more
    by true true c e go = refl
    by true false true e go = go e
    by true false false e go = end_closed hs h more (ReplyKind.Value, got ++ octets_of m)

write_closed : (t : Target) (hs : List SoeMail) (h : SoeMail) (more : List SoeMail) (r : Reply) → write_ends t hs ≡ Some r → write_ends t (hs ++ h ∷ more) ≡ None
write_closed t [] h more r e = absurd (cc)
write_closed t (m ∷ hs) h more r e = by (is_written t m)
  where
    by : (b : Bool) → (if b then at_end (hs ++ h ∷ more) (ReplyKind.Done, []) else refused 4 t m (hs ++ h ∷ more)) ≡ None
    by true = end_closed hs h more (ReplyKind.Done, [])
    by false = refused_closed 4 t m hs h more

pub closed : (q : Service) (hs : List SoeMail) (h : SoeMail) (more : List SoeMail) (r : Reply) → ends q hs ≡ Some r → ends q (hs ++ h ∷ more) ≡ None
closed (read t) hs h more r e = read_closed t [] hs h more r e
closed (write t bytes) hs h more r e = write_closed t hs h more r e

pub ends_none : (q : Service) → ends q [] ≡ None
ends_none (read t) = refl
ends_none (write t bytes) = refl

-- a code of 16 bits is read from its octets
code_back : (code : ℕ) → code < 65536 → number_at 2 (little_bytes 2 code) 0 ≡ code
code_back code few = omega arith

-- an answer is known by its target
is_part_of : (t : Target) (incomplete : Bool) (field : ℕ) (bytes : List ℕ) → (incomplete || field == t.idn) ≡ true → is_part t (mail (message 2 incomplete t field bytes)) ≡ true
is_part_of t incomplete field bytes named =
    let drive = eq-eqb t.drive t.drive refl in
    let flags = eq-eqb t.elements t.elements refl in
    rw (drive, flags, named) refl

named_last : (t : Target) → (false || t.idn == t.idn) ≡ true
named_last t = eq-eqb t.idn t.idn refl

-- a part that isn't the last, and the last one
part_read : (t : Target) (got bytes : List ℕ) (field : ℕ) (ms : List SoeMail) → length (got ++ bytes) ≤ 16384 →
    read_ends t got (mail (message 2 true t field bytes) ∷ ms) ≡ read_ends t (got ++ bytes) ms
part_read t got bytes field ms fits =
    let is = is_part_of t true field bytes refl in
    let low = le-ltb 16384 (length (got ++ bytes)) fits in
    rw (is, low) refl

last_read : (t : Target) (got bytes : List ℕ) → length (got ++ bytes) ≤ 16384 → read_ends t got (mail (message 2 false t t.idn bytes) ∷ []) ≡ Some (ReplyKind.Value, got ++ bytes)
last_read t got bytes fits =
    let is = is_part_of t false t.idn bytes (named_last t) in
    let low = le-ltb 16384 (length (got ++ bytes)) fits in
    rw (is, low) refl

-- the fragments of an element are read as the element
parts_read : (fuel part : ℕ) (t : Target) (got bytes : List ℕ) → 0 < part → length bytes < fuel → length got + length bytes ≤ 16384 →
    read_ends t got (fragments fuel 2 t part bytes) ≡ Some (ReplyKind.Value, got ++ bytes)
parts_read zero part t got bytes some few fits = absurd (omega (arith, few))
parts_read (suc fuel) part t got bytes some few fits = elim (cases_lt part (length bytes)) [
  | inr ends ↦ rw (le-leb (length bytes) part ends) (last_read t got bytes (omega (arith, length-append got bytes)))
  | inl more ↦
      let front = take part bytes in
      let back = drop part bytes in
      let front_is : length front ≡ part = length-take-le part bytes (omega (arith, more)) in
      let back_is : length back ≡ length bytes - part = length-drop part bytes in
      let both : (got ++ front) ++ back ≡ got ++ bytes = append_assoc got front back ∙ ap (λ l. got ++ l) (take-append-drop part bytes) in
      let here = part_read t got front (parts_of part (length bytes - part)) (fragments fuel 2 t part back) (omega (arith, length-append got front, front_is, more, fits)) in
      rw (lt-leb (length bytes) part more) (here ∙ parts_read fuel part t (got ++ front) back some (omega (arith, back_is, some, more, few))
      (omega (arith, back_is, front_is, length-append got front, more, fits)) ∙ ap (λ l. Some (ReplyKind.Value, l)) both)
]

-- a refusal is read as its code
refusal_is : (opcode : ℕ) (t : Target) (code : ℕ) → is_refusal opcode t (refusal opcode t code) ≡ true
refusal_is opcode t code =
    let op = eq-eqb opcode opcode refl in
    let drive = eq-eqb t.drive t.drive refl in
    let flags = eq-eqb t.elements t.elements refl in
    let idn = eq-eqb t.idn t.idn refl in
    rw (op, drive, flags, idn) refl

refusal_read : (opcode : ℕ) (t : Target) (code : ℕ) → code < 65536 → refused opcode t (mail (refusal opcode t code)) [] ≡ Some (ReplyKind.SoeError code, [])
refusal_read opcode t code few =
    let is = refusal_is opcode t code in
    let back = code_back code few in
    rw (is, back) refl

written_is : (t : Target) → is_written t (mail (message 4 false t t.idn [])) ≡ true
written_is t =
    let drive = eq-eqb t.drive t.drive refl in
    let flags = eq-eqb t.elements t.elements refl in
    let idn = eq-eqb t.idn t.idn refl in
    rw (drive, flags, idn) refl

module _ {S : Type 0} (o : Elements S) (lawful : AreLawful o) (areas : Areas) (sized : AreMailboxes areas) where
  abbrev pub answer_to_read : Target → Result (List ℕ) ℕ → List SoeMail
  answer_to_read t (Ok bytes) = fragments_of areas.back 2 t bytes
  answer_to_read t (Err code) = mail (refusal 2 t code) ∷ []

  -- what the server gives for all mails of a service
  abbrev pub gives : Server S → Service → List SoeMail
  gives v (read t) = answer_to_read t (o.read v.app t)
  gives v (write t bytes) = answer_to t (o.write v.app t bytes)

  pub read_carried : (v : Server S) (t : Target) (r : Result (List ℕ) ℕ) → o.read v.app t ≡ r → Carried o areas.back v (mails_of areas.out (read t)) v.app (answer_to_read t r)
  read_carried v t (Ok bytes) is = carried_one o areas.back v (record { app = v.app; handled = suc v.handled; join = None }) _ _ (ap (λ r. behind v.handled (asked areas.back v.app t r)) is) refl refl
  read_carried v t (Err code) is = carried_one o areas.back v (record { app = v.app; handled = suc v.handled; join = None }) _ _ (ap (λ r. behind v.handled (asked areas.back v.app t r)) is) refl refl

  pub read_app : (app : S) (r : Result (List ℕ) ℕ) → (read_means app r).app ≡ app
  read_app app (Ok bytes) = refl
  read_app app (Err code) = refl

  pub write_app : (app : S) (r : Result S ℕ) → (write_means app r).app ≡ left_by app r
  write_app app (Ok changed) = refl
  write_app app (Err code) = refl

  pub kept : (v : Server S) (q : Service) → is_ready o v ≡ true → is_service q ≡ true → Carried o areas.back v (mails_of areas.out q) (meaning_of o v.app q).app (gives v q)
  kept v (read t) ready valid =
      subst (λ a. Carried o areas.back v (mails_of areas.out (read t)) a (gives v (read t))) (sym (read_app v.app (o.read v.app t))) (read_carried v t (o.read v.app t) refl)
  kept v (write t bytes) ready valid =
      let now = both_are (o.valid v.app) (is_none v.join) ready in
      let size = both_are (is_target t) (nat_le (length bytes) most) valid in
      let few : length bytes ≤ 16384 = leb-true (length bytes) 16384 size.1 in
      let least = sized.out_least in
      subst (λ a. Carried o areas.back v (mails_of areas.out (write t bytes)) a (gives v (write t bytes))) (sym (write_app v.app (o.write v.app t bytes)))
      (writes o areas.back (suc (length bytes)) (areas.out - 10) v t [] bytes (omega (arith, least)) (omega arith) (omega (arith, few))
      (λ incomplete field octets. ap (λ j. ahead j (message 3 incomplete t field octets)) (no_join v.join now.1)))

  pub value_replied : (t : Target) (app : S) (r : Result (List ℕ) ℕ) → o.valid app ≡ true → o.read app t ≡ r → read_ends t [] (answer_to_read t r) ≡ Some (read_means app r).reply
  value_replied t app (Ok bytes) fine is =
      let few = lawful.short app t bytes fine is in
      let least = sized.back_least in
      parts_read (suc (length bytes)) (areas.back - 10) t [] bytes (omega (arith, least)) (omega arith) (omega (arith, few))
  value_replied t app (Err code) fine is =
      refusal_read 2 t code (lawful.read_code app t code fine is)

  pub write_replied : (t : Target) (bytes : List ℕ) (app : S) (r : Result S ℕ) → o.valid app ≡ true → o.write app t bytes ≡ r → write_ends t (answer_to t r) ≡ Some (write_means app r).reply
  write_replied t bytes app (Ok changed) fine is = let done_is = written_is t in rw done_is refl
  write_replied t bytes app (Err code) fine is = refusal_read 4 t code (lawful.write_code app t bytes code fine is)

  replies : (v : Server S) (q : Service) → is_ready o v ≡ true → ends q (gives v q) ≡ Some (meaning_of o v.app q).reply
  replies v (read t) ready = value_replied t v.app (o.read v.app t) (both_are (o.valid v.app) (is_none v.join) ready).0 refl
  replies v (write t bytes) ready = write_replied t bytes v.app (o.write v.app t bytes) (both_are (o.valid v.app) (is_none v.join) ready).0 refl

  pub whole_replied : (v : Server S) (q : Service) → is_ready o v ≡ true → is_service q ≡ true →
      ends q (given (serve o areas.back) v (mails_of areas.out q)) ≡ Some (meaning_of o v.app q).reply
  whole_replied v q ready valid = ap (ends q) (kept v q ready valid).given ∙ replies v q ready

  plain_replied : (v : Server S) (q : Service) → is_ready o v ≡ true → is_service q ≡ true →
      ends q (plain is_emission (given (serve o areas.back) v (mails_of areas.out q))) ≡ Some (meaning_of o v.app q).reply
  plain_replied v q ready valid = ap (ends q) (all_plain (given (serve o areas.back) v (mails_of areas.out q))) ∙ whole_replied v q ready valid

  whole : (v : Server S) (q : Service) → is_ready o v ≡ true → is_service q ≡ true → Behind (soe_exchange o areas) v q (mails_of areas.out q)
  whole v q ready valid = record {
    app = (kept v q ready valid).app;
    handled = (kept v q ready valid).handled;
    emitted = ([], append-nil _ ∙ none_emitted (given (serve o areas.back) v (mails_of areas.out q)));
  }

  before : (v : Server S) (p : List SoeMail) → Idle o areas.back v p → Before (soe_exchange o areas) v p
  before v p idle = record { app = idle.app; handled = idle.handled; emitted = none_emitted (given (serve o areas.back) v p) }

  part_of : (v : Server S) (q : Service) → is_ready o v ≡ true → is_service q ≡ true → (p r : List SoeMail) → mails_of areas.out q ≡ p ++ r →
      Before (soe_exchange o areas) v p ⊎ Behind (soe_exchange o areas) v q p
  part_of v q ready valid p [] e = inr (subst (Behind (soe_exchange o areas) v q) (e ∙ append-nil p) (whole v q ready valid))
  part_of v q ready valid p (h ∷ r) e = inl (before v p ((kept v q ready valid).late p h r e))

  -- mails without effect bring no reply, so all replies come with the last mail
  counted : (v : Server S) (q : Service) → is_ready o v ≡ true → is_service q ≡ true → (p r : List SoeMail) → mails_of areas.out q ≡ p ++ r →
      plain is_emission (given (serve o areas.back) v p) ≡ plain is_emission (given (serve o areas.back) v (mails_of areas.out q)) → Behind (soe_exchange o areas) v q p
  counted v q ready valid p [] e same = subst (Behind (soe_exchange o areas) v q) (e ∙ append-nil p) (whole v q ready valid)
  counted v q ready valid p (h ∷ r) e same = absurd (
      let nothing : ends q [] ≡ Some (meaning_of o v.app q).reply =
      ap (λ ms. ends q (plain is_emission ms)) (sym ((kept v q ready valid).late p h r e).given) ∙ ap (ends q) same ∙ plain_replied v q ready valid in
      let none = ends_none q in cc)

  -- a service leaves a server of which the laws speak
  pub write_ready : (app : S) (t : Target) (bytes : List ℕ) (r : Result S ℕ) → o.valid app ≡ true → o.write app t bytes ≡ r → o.valid (write_means app r).app ≡ true
  write_ready app t bytes (Ok changed) fine is = lawful.stays app changed t bytes fine is
  write_ready app t bytes (Err code) fine is = fine

  means_ready : (app : S) (q : Service) → o.valid app ≡ true → o.valid (meaning_of o app q).app ≡ true
  means_ready app (read t) fine = ap o.valid (read_app app (o.read app t)) ∙ fine
  means_ready app (write t bytes) fine = write_ready app t bytes (o.write app t bytes) fine refl

  ready_again : (v : Server S) (q : Service) → is_ready o v ≡ true → is_service q ≡ true → is_ready o (after (serve o areas.back) v (mails_of areas.out q)) ≡ true
  ready_again v q ready valid =
      let all = kept v q ready valid in
      let fine = means_ready v.app q (both_are (o.valid v.app) (is_none v.join) ready).0 in
      ap (λ a. o.valid a && is_none (after (serve o areas.back) v (mails_of areas.out q)).join) all.app
      ∙ ap (λ j. o.valid (meaning_of o v.app q).app && is_none j) all.join
      ∙ ap (λ b. b && true) fine

  pub grows : (b : Bool) (n : ℕ) → n ≤ one_more b n
  grows true n = omega arith
  grows false n = omega arith

  -- THE EXCHANGE LAW OF SoE
  pub soe_law : IsLawful (soe_exchange o areas)
  soe_law = record {
    ready = λ v q ready valid. ready_again v q ready valid;
    whole = λ v q ready valid. whole v q ready valid;
    all_emitted = λ v q ready valid. none_emitted (given (serve o areas.back) v (mails_of areas.out q));
    replied = λ v q ready valid answers. plain_replied v q ready valid;
    silent = λ v q ready valid posts. absurd (cc);
    part = λ v q ready valid p r e. part_of v q ready valid p r e;
    counted = λ v q ready valid answers p r e same. counted v q ready valid p r e same;
    none = ends_none;
    ended = closed;
    follows = λ v q ready valid hs more e. prefix_refl (mails_of areas.out q);
    all_planned = λ v q ready valid. refl;
    unanswered = λ q hs posts. absurd (cc);
    some = λ v q ready valid posts. absurd (cc);
    grows = λ v m. grows (soe_outcome o areas.back v.app v.join m).counts v.handled;
  }
