-- Files read and written over a gateway.
use Rattle.std.proofs.Common.{◌≡◌, ℕ, zero, suc, ◌+◌, ◌≤◌, ◌<◌, List, [], ◌∷◌, ◌++◌, length, take, drop, Bool, true, false, Some, None, refl, sym, ap, ◌∙◌, subst, arith, inl, inr, nat_lt, nat_le, if◌then◌else◌, append-nil, length-append}
use Rattle.std.specs.Prelude.{is_some, ◌&&◌}
use Rattle.std.proofs.lemmas.Bool.{and_parts, leb-true}
use Rattle.slave_model.specs.of_mailbox_mail.declared.outcome.ReplyKind.{ReplyKind}
use Rattle.slave_model.specs.of_exchange_model.Areas.{Areas, AreMailboxes}
use Rattle.slave_model.specs.of_exchange_model.Exchange.{given, plain}
use Rattle.slave_model.specs.of_exchange_model.Lifted.{EachOf}
use Rattle.slave_model.specs.of_exchange_model.Prefix.{IsPrefixOf}
use Rattle.slave_model.specs.of_exchange_model.Dialogue.{said}
use Rattle.slave_model.proofs.of_exchange_model.Turns.{said_more}
use Rattle.slave_model.specs.of_foe_codec.Message.{is_name}
use Rattle.slave_model.specs.of_protocol_models.FoeMails.{Foe, FoeMail, mail, failed, is_emission, Read, Ack}
use Rattle.slave_model.specs.of_protocol_models.Files.{Files, AreLawful}
use Rattle.slave_model.specs.of_protocol_models.FoeServer.{Server, serve, packet_room, packet_of, is_last}
use Rattle.slave_model.specs.of_protocol_models.FoeMeaning.{Service, read, write, Reply}
use Rattle.slave_model.specs.of_protocol_models.FoeClient.{packets, acks, mails_of, decide, at_end, refused_by, is_ack, is_busy, last_end, acks_end, most, is_packet, octets_in, packets_end, full_packets, ends}
use Rattle.slave_model.specs.of_protocol_models.FoeModel.{is_service, turns, planned, full, foe_exchange}
use Rattle.slave_model.specs.of_protocol_models.FoeOctets.{foe_mail_written}
use Rattle.slave_model.proofs.of_protocol_models.FoeLaw.{bound, kept}
use Rattle.slave_model.proofs.of_protocol_models.FoeSpeaks.{decided, replies_few}
use Rattle.tool_law.specs.Speaking.{IsSpeaking}
use Rattle.tool_law.proofs.Dialogues.{said_within, said_longer, said_goes, said_each}

-- ---- a mailbox error in the place of an answer

refused_more : (m : FoeMail) (hs : List FoeMail) (h : FoeMail) (more : List FoeMail) (r : Reply) → refused_by m (hs ++ h ∷ more) ≡ Some r → ⊥
refused_more (mail (Foe.Error code)) [] h more r e = absurd (cc)
refused_more (mail (Foe.Error code)) (k ∷ hs) h more r e = absurd (cc)
refused_more (failed detail) [] h more r e = absurd (cc)
refused_more (failed detail) (k ∷ hs) h more r e = absurd (cc)
refused_more m hs h more r e = absurd (cc)

ended_more : (hs : List FoeMail) (h : FoeMail) (more : List FoeMail) (kept r : Reply) → at_end (hs ++ h ∷ more) kept ≡ Some r → ⊥
ended_more [] h more kept r e = absurd (cc)
ended_more (k ∷ hs) h more kept r e = absurd (cc)

packets_open : (back number : ℕ) (got : List ℕ) (hs : List FoeMail) (h : FoeMail) (more : List FoeMail) (r : Reply) → packets_end back number got (hs ++ h ∷ more) ≡ Some r → is_some (packets_end back number got (hs ++ failed 0 ∷ [])) ≡ true
packets_open back number got [] h more r e = refl
packets_open back number got (k ∷ hs) h more r e = by (is_packet number k) (nat_lt most (length (got ++ octets_in k))) (is_last back (octets_in k)) e (λ f. packets_open back (number + 1) (got ++ octets_in k) hs h more r f)
  where
    by : (b d l : Bool) →
        (if b then (if d then None else if l then at_end (hs ++ h ∷ more) (ReplyKind.Value, got ++ octets_in k) else packets_end back (number + 1) (got ++ octets_in k) (hs ++ h ∷ more)) else refused_by k (hs ++ h ∷ more)) ≡ Some r →
        (packets_end back (number + 1) (got ++ octets_in k) (hs ++ h ∷ more) ≡ Some r → is_some (packets_end back (number + 1) (got ++ octets_in k) (hs ++ failed 0 ∷ [])) ≡ true) →
        is_some (if b then (if d then None else if l then at_end (hs ++ failed 0 ∷ []) (ReplyKind.Value, got ++ octets_in k) else packets_end back (number + 1) (got ++ octets_in k) (hs ++ failed 0 ∷ [])) else refused_by k (hs ++ failed 0 ∷ [])) ≡ true
    by true true l f on = absurd (cc)
    by true false true f on = absurd (ended_more hs h more (ReplyKind.Value, got ++ octets_in k) r f)
    by true false false f on = on f
    by false d l f on = absurd (refused_more k hs h more r f)

last_open : (number : ℕ) (hs : List FoeMail) (h : FoeMail) (more : List FoeMail) (r : Reply) → last_end number (hs ++ h ∷ more) ≡ Some r → is_some (last_end number (hs ++ failed 0 ∷ [])) ≡ true
last_open number [] h more r e = refl
last_open number (k ∷ hs) h more r e = by (is_ack number k) (is_busy k) e (λ f. last_open number hs h more r f)
  where
    by : (b d : Bool) → (if b then at_end (hs ++ h ∷ more) (ReplyKind.Done, []) else if d then last_end number (hs ++ h ∷ more) else refused_by k (hs ++ h ∷ more)) ≡ Some r →
        (last_end number (hs ++ h ∷ more) ≡ Some r → is_some (last_end number (hs ++ failed 0 ∷ [])) ≡ true) →
        is_some (if b then at_end (hs ++ failed 0 ∷ []) (ReplyKind.Done, []) else if d then last_end number (hs ++ failed 0 ∷ []) else refused_by k (hs ++ failed 0 ∷ [])) ≡ true
    by true d f on = absurd (ended_more hs h more (ReplyKind.Done, []) r f)
    by false true f on = on f
    by false false f on = absurd (refused_more k hs h more r f)

acks_open : (n number : ℕ) (hs : List FoeMail) (h : FoeMail) (more : List FoeMail) (r : Reply) → acks_end n number (hs ++ h ∷ more) ≡ Some r → is_some (acks_end n number (hs ++ failed 0 ∷ [])) ≡ true
acks_open zero number hs h more r e = last_open number hs h more r e
acks_open (suc n) number [] h more r e = refl
acks_open (suc n) number (k ∷ hs) h more r e = by (is_ack number k) e (λ f. acks_open n (number + 1) hs h more r f)
  where
    by : (b : Bool) → (if b then acks_end n (number + 1) (hs ++ h ∷ more) else refused_by k (hs ++ h ∷ more)) ≡ Some r → (acks_end n (number + 1) (hs ++ h ∷ more) ≡ Some r → is_some (acks_end n (number + 1) (hs ++ failed 0 ∷ [])) ≡ true) →
        is_some (if b then acks_end n (number + 1) (hs ++ failed 0 ∷ []) else refused_by k (hs ++ failed 0 ∷ [])) ≡ true
    by true f on = on f
    by false f on = absurd (refused_more k hs h more r f)

file_open : (areas : Areas) (q : Service) (hs : List FoeMail) (h : FoeMail) (more : List FoeMail) (r : Reply) → ends areas q (hs ++ h ∷ more) ≡ Some r → is_some (ends areas q (hs ++ failed 0 ∷ [])) ≡ true
file_open areas (read name pass) hs h more r e = packets_open areas.back 1 [] hs h more r e
file_open areas (write name pass bytes) hs h more r e = acks_open (suc (full_packets areas.out (length bytes))) 0 hs h more r e

-- ---- each mail fits a datagram

abbrev Fits : FoeMail → Type 0
Fits m = length (foe_mail_written m).body.items ≤ 1480

taken_few : (n : ℕ) (xs : List ℕ) → length (take n xs) ≤ n
taken_few zero xs = omega arith
taken_few (suc n) [] = omega arith
taken_few (suc n) (x ∷ xs) = let h = taken_few n xs in omega (arith, h)

packets_fit : (fuel out number : ℕ) (left : List ℕ) → out ≤ 1486 → EachOf Fits (packets fuel out number left)
packets_fit zero out number left small = tt
packets_fit (suc fuel) out number left small = (one, others (nat_lt (length left) (packet_room out)) (packets_fit fuel out (number + 1) (drop (packet_room out) left) small))
  where
    one : Fits (packet_of out number left)
    one = let h = taken_few (packet_room out) left in omega (arith, h, small)

    others : (b : Bool) → EachOf Fits (packets fuel out (number + 1) (drop (packet_room out) left)) → EachOf Fits (if b then [] else packets fuel out (number + 1) (drop (packet_room out) left))
    others true more = tt
    others false more = more

acks_fit : (n number : ℕ) → EachOf Fits (acks n number)
acks_fit zero number = tt
acks_fit (suc n) number = (omega arith, acks_fit n (number + 1))

named : (name : List ℕ) → is_name name ≡ true → length name ≤ 32
named name e = leb-true (length name) 32 (and_parts (nat_le 1 (length name)) (nat_le (length name) 32) e).1

mails_fit : (out : ℕ) (q : Service) (n : ℕ) → is_service q ≡ true → out ≤ 1486 → EachOf Fits (mails_of out q n)
mails_fit out (read name pass) n valid small = ((let h = named name (and_parts (is_name name) (nat_lt pass 4294967296) valid).0 in omega (arith, h)), acks_fit n 1)
mails_fit out (write name pass bytes) n valid small = (
  (let a = and_parts (is_name name && nat_lt pass 4294967296) (nat_le (length bytes) 131072) valid in let h = named name (and_parts (is_name name) (nat_lt pass 4294967296) a.0).0 in omega (arith, h)),
  packets_fit (suc (length bytes)) out 1 bytes small,
)

-- ---- more acknowledgements don't matter

acks_begin : (n m number : ℕ) → n ≤ m → IsPrefixOf (acks n number) (acks m number)
acks_begin zero m number less = (acks m number, refl)
acks_begin (suc n) zero number less = absurd (omega (arith, less))
acks_begin (suc n) (suc m) number less = let rest = acks_begin n m (number + 1) (omega (arith, less)) in (rest.0, ap (λ l. mail (Ack number) ∷ l) rest.1)

acks_long : (n number : ℕ) → length (acks n number) ≡ n
acks_long zero number = refl
acks_long (suc n) number = ap suc (acks_long n (number + 1))

more_turns : (out : ℕ) (q : Service) (n : ℕ) (hs : List FoeMail) → length hs < n → planned out q hs ≡ said (decide out) n (mails_of out q n) hs
more_turns out (write name pass bytes) n hs few =
    said_more (decide out) (λ m. refl) (suc (length hs)) n (mails_of out (write name pass bytes) (length hs)) [] hs (omega arith) few (inr refl)
    ∙ ap (λ ms. said (decide out) n ms hs) (append-nil (mails_of out (write name pass bytes) (length hs)))
more_turns out (read name pass) n hs few =
    let begins = acks_begin (length hs) n 1 (omega (arith, few)) in
    said_more (decide out) (λ m. refl) (suc (length hs)) n (mail (Read pass (record { items = name })) ∷ acks (length hs) 1) begins.0 hs (omega arith) few
    (inl (omega (arith, acks_long (length hs) 1))) ∙ ap (λ ms. said (decide out) n (mail (Read pass (record { items = name })) ∷ ms) hs) begins.1

longer : (out : ℕ) (q : Service) (hs more : List FoeMail) → IsPrefixOf (planned out q hs) (planned out q (hs ++ more))
longer out q hs more =
    let n : ℕ = suc (length (hs ++ more)) in
    let a = more_turns out q n hs (omega (arith, length-append hs more)) in
    let b = more_turns out q n (hs ++ more) (omega arith) in
    subst (λ l. IsPrefixOf (planned out q hs) l) (sym b) (subst (λ l. IsPrefixOf l (said (decide out) n (mails_of out q n) (hs ++ more))) (sym a) (said_longer (decide out) n (mails_of out q n) hs more))

-- a server of files emits nothing
all_plain : (ms : List FoeMail) → plain is_emission ms ≡ ms
all_plain [] = refl
all_plain (m ∷ ms) = ap (λ l. m ∷ l) (all_plain ms)

-- ---- a file as a service

module _ {S : Type 0} (o : Files S) (law : AreLawful o) (areas : Areas) (sized : AreMailboxes areas) where
  within_turns : (app : S) (q : Service) → bound o law areas sized app q < turns o app q
  within_turns app (read name pass) = omega arith
  within_turns app (write name pass bytes) = omega arith

  counted : (v : Server S) (p : List FoeMail) → length (plain is_emission (given (serve o areas.out areas.back) v p)) ≤ length p
  counted v p = let n = replies_few o areas v p in let e = ap length (all_plain (given (serve o areas.out areas.back) v p)) in omega (arith, n, e)

  goes_on : (v : Server S) (q : Service) → o.valid v.app ≡ true → (p : List FoeMail) (m : FoeMail) (r : List FoeMail) → full o areas v q ≡ p ++ m ∷ r →
      (rest : List FoeMail) × (planned areas.out q (plain is_emission (given (serve o areas.out areas.back) v p)) ≡ p ++ m ∷ rest)
  goes_on v q ready p m r e =
      let hs = plain is_emission (given (serve o areas.out areas.back) v p) in
      let n = ap length e in
      let few : length hs < turns o v.app q = omega (arith, counted v p, n, length-append p (m ∷ r), (kept o law areas sized v q ready).few, within_turns v.app q) in
      let g = said_goes (serve o areas.out areas.back) is_emission (decide areas.out) (turns o v.app q) v (mails_of areas.out q (turns o v.app q)) p m r (decided o areas (mails_of areas.out q (turns o v.app q))) e in
      (g.0, more_turns areas.out q (turns o v.app q) hs few ∙ g.1)

  -- it goes mail by mail, where its mails are few
  pub file_speaking : (v : Server S) (q : Service) → o.valid v.app ≡ true → length (full o areas v q) < 65536 → IsSpeaking (foe_exchange o areas) (failed 0) v q
  file_speaking v q ready few = record {
    few_planned = λ hs. said_within (decide areas.out) (suc (length hs)) (mails_of areas.out q (length hs)) hs;
    more_planned = longer areas.out q;
    goes_on = goes_on v q ready;
    few_replies = λ p r e. counted v p;
    refused = λ hs h more r e. file_open areas q hs h more r e;
    few = few;
  }

  -- and each of them fits a datagram
  pub file_short : (q : Service) → is_service q ≡ true → (hs : List FoeMail) → EachOf (λ (m : FoeMail). length (foe_mail_written m).body.items ≤ 1480) (planned areas.out q hs)
  file_short q valid hs = said_each (decide areas.out) Fits (suc (length hs)) (mails_of areas.out q (length hs)) hs (mails_fit areas.out q (length hs) valid sized.out_most)
