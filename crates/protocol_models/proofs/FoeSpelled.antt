-- The mails of an FoE service, from client and server, have spellings, from which they are read back.
use Rattle.std.proofs.Common.{◌≡◌, inl, inr, ℕ, zero, suc, ◌+◌, ◌*◌, ◌/◌, ◌%◌, ◌^◌, ◌<◌, ◌≤◌, Bool, true, false, not, ◌&&◌, nat_lt, nat_le, ◌==◌, List, [], ◌∷◌, ◌++◌, length, drop, if◌then◌else◌, Option, None, Some, Ok, refl, ap, ◌∙◌, arith, leb-true, ltb-true, le-ltb, eqb-true}
use Rattle.byteorder.specs.Endian.{little_bytes}
use Rattle.foe_codec.specs.Message.{is_name, opcode_of, field_of, octets_of, message_in, foe_read, foe_text}
use Rattle.exchange_model.specs.Areas.{Areas, AreMailboxes}
use Rattle.exchange_model.specs.Exchange.{after, given}
use Rattle.exchange_model.specs.Lifted.{EachOf, ReadsBack, Spells}
use Rattle.exchange_model.proofs.Turns.{sent_each}
use Rattle.protocol_models.specs.FoeMails.{Foe, Read, Write, Data, Ack, Error, Busy, FoeMail, mail, is_emission}
use Rattle.protocol_models.specs.Files.{Files, AreLawful, AreSpelled}
use Rattle.protocol_models.specs.FoeServer.{Transfer, idle, reading, writing, closing, Outcome, Server, packet_room, is_last, begun, opened, closes, stores, takes_data, takes_ack}
use Rattle.protocol_models.specs.FoeMeaning.{Service, read, write}
use Rattle.protocol_models.specs.FoeClient.{packets, acks, mails_of, decide}
use Rattle.protocol_models.specs.FoeModel.{read_length, is_service, turns, full, foe_exchange}
use Rattle.protocol_models.specs.FoeOctets.{heard, foe_mail_heard, foe_mail_written}
use Rattle.protocol_models.proofs.FoeCarries.{step, foe_takes}
use Rattle.protocol_models.proofs.FoeLaw.{kept, means_valid}

-- opcode, field and octets behind them are read by these parts
read_parts : (opcode field : ℕ) (rest : List ℕ) → field < 2 ^ 32 → foe_read (opcode ∷ 0 ∷ (little_bytes 4 field ++ rest)) ≡ message_in opcode field rest
read_parts opcode field rest fits =
    let long : nat_lt (length (opcode ∷ 0 ∷ (little_bytes 4 field ++ rest))) 6 ≡ false = le-ltb _ _ (omega arith) in
    let back : field % 256 + 256 * (field / 256 % 256 + 256 * (field / 65536 % 256 + 256 * (field / 16777216 % 256 + 256 * 0))) ≡ field = omega arith in
    rw (long, back) refl

both_are : (a b : Bool) → (a && b) ≡ true → (a ≡ true) × (b ≡ true)
both_are true b e = (refl, e)
both_are false b e = absurd (cc)

-- a message that has a spelling is read back
abbrev HasText : Foe → Type 0
HasText (Read pass name) = (is_name name.items ≡ true) × (pass < 2 ^ 32)
HasText (Write pass name) = (is_name name.items ≡ true) × (pass < 2 ^ 32)
HasText (Data packet bytes) = packet < 2 ^ 32
HasText (Ack packet) = packet < 2 ^ 32
HasText (Error code) = code < 2 ^ 32
HasText (Busy done entire) = (done < 65536) × (entire < 65536)

message_back : (f : Foe) → HasText f → message_in (opcode_of f) (field_of f) (octets_of f) ≡ Ok f
message_back (Read pass name) s = rw (s.0) refl
message_back (Write pass name) s = rw (s.0) refl
message_back (Data packet bytes) s = refl
message_back (Ack packet) s = refl
message_back (Error code) s = refl
message_back (Busy done entire) s =
    let low : (done + 65536 * entire) % 65536 ≡ done = omega (arith, s.0) in
    let high : (done + 65536 * entire) / 65536 ≡ entire = omega (arith, s.0) in
    rw (low, high) refl

field_fits : (f : Foe) → HasText f → field_of f < 2 ^ 32
field_fits (Read pass name) s = s.1
field_fits (Write pass name) s = s.1
field_fits (Data packet bytes) s = s
field_fits (Ack packet) s = s
field_fits (Error code) s = s
field_fits (Busy done entire) s = omega (arith, s.0, s.1)

text_read : (f : Foe) → HasText f → foe_read (foe_text f) ≡ Ok f
text_read f s = read_parts (opcode_of f) (field_of f) (octets_of f) (field_fits f s) ∙ message_back f s

-- a mail that has a spelling
abbrev HasSpelling : FoeMail → Type 0
HasSpelling (mail f) = HasText f
HasSpelling _ = ⊥

reads_back : (m : FoeMail) → HasSpelling m → ReadsBack foe_mail_heard foe_mail_written m
reads_back (mail f) s = ap heard (text_read f s)
reads_back _ s = absurd s

all_read_back : (ms : List FoeMail) → EachOf HasSpelling ms → EachOf (ReadsBack foe_mail_heard foe_mail_written) ms
all_read_back [] all = tt
all_read_back (m ∷ ms) all = (reads_back m all.0, all_read_back ms all.1)

-- a client's mail, with a spelling, and a number below the last
abbrev IsSent : FoeMail → Type 0
IsSent (mail (Read pass name)) = (is_name name.items ≡ true) × (pass < 2 ^ 32)
IsSent (mail (Write pass name)) = (is_name name.items ≡ true) × (pass < 2 ^ 32)
IsSent (mail (Data packet bytes)) = packet < 2 ^ 32
IsSent (mail (Ack packet)) = packet + 1 < 2 ^ 32
IsSent _ = ⊥

sent_spelled : (m : FoeMail) → IsSent m → HasSpelling m
sent_spelled (mail (Read pass name)) s = s
sent_spelled (mail (Write pass name)) s = s
sent_spelled (mail (Data packet bytes)) s = s
sent_spelled (mail (Ack packet)) s = omega (arith, s)
sent_spelled _ s = absurd s

all_sent_spelled : (ms : List FoeMail) → EachOf IsSent ms → EachOf HasSpelling ms
all_sent_spelled [] all = tt
all_sent_spelled (m ∷ ms) all = (sent_spelled m all.0, all_sent_spelled ms all.1)

packets_sent : (fuel out number : ℕ) (left : List ℕ) → number + fuel < 2 ^ 32 → EachOf IsSent (packets fuel out number left)
packets_sent zero out number left low = tt
packets_sent (suc fuel) out number left low =
    (omega arith, rest (nat_lt (length left) (packet_room out)) (packets_sent fuel out (number + 1) (drop (packet_room out) left) (omega arith)))
  where
    rest : (b : Bool) → EachOf IsSent (packets fuel out (number + 1) (drop (packet_room out) left)) → EachOf IsSent (if b then [] else packets fuel out (number + 1) (drop (packet_room out) left))
    rest true all = tt
    rest false all = all

acks_sent : (n number : ℕ) → number + n < 2 ^ 32 → EachOf IsSent (acks n number)
acks_sent zero number low = tt
acks_sent (suc n) number low = (omega arith, acks_sent n (number + 1) (omega arith))

each_append : (P : FoeMail → Type 0) (xs ys : List FoeMail) → EachOf P xs → EachOf P ys → EachOf P (xs ++ ys)
each_append P [] ys p q = q
each_append P (x ∷ xs) ys p q = (p.0, each_append P xs ys p.1 q)

module _ {S : Type 0} (o : Files S) (law : AreLawful o) (spelled : AreSpelled o) (areas : Areas) (sized : AreMailboxes areas) where
  -- the client's mails
  short_read : (app : S) (name : List ℕ) (pass : ℕ) (found : Option ℕ) → o.allowed app name pass false ≡ found → o.valid app ≡ true → read_length found (o.get app name) ≤ 131072
  short_read app name pass None is sound = law.short app name pass sound is
  short_read app name pass (Some code) is sound = omega arith

  told : (app : S) (q : Service) → o.valid app ≡ true → is_service q ≡ true → EachOf IsSent (mails_of areas.out q (turns o app q))
  told app (read name pass) sound valid =
      let parts = both_are (is_name name) (nat_lt pass 4294967296) valid in
      ((parts.0, ltb-true pass 4294967296 parts.1), acks_sent (turns o app (read name pass)) 1 (omega (arith, short_read app name pass (o.allowed app name pass false) refl sound)))
  told app (write name pass bytes) sound valid =
      let parts = both_are (is_name name && nat_lt pass 4294967296) (nat_le (length bytes) 131072) valid in
      let front = both_are (is_name name) (nat_lt pass 4294967296) parts.0 in
      let few = leb-true (length bytes) 131072 parts.1 in
      ((front.0, ltb-true pass 4294967296 front.1), packets_sent (suc (length bytes)) areas.out 1 bytes (omega (arith, few)))

  full_sent : (v : Server S) (q : Service) → o.valid v.app ≡ true → is_service q ≡ true → EachOf IsSent (full o areas v q)
  full_sent v q sound valid = sent_each (step o areas) is_emission (decide areas.out) IsSent (turns o v.app q) v (mails_of areas.out q (turns o v.app q)) (told v.app q sound valid)

  -- the server's answers
  by_choice : (b : Bool) (x y : Outcome S) → (b ≡ true → EachOf HasSpelling x.answers) → (b ≡ false → EachOf HasSpelling y.answers) → EachOf HasSpelling (if b then x else y).answers
  by_choice true x y p q = p refl
  by_choice false x y p q = q refl

  opened_answers : (app : S) (name : List ℕ) (pass : ℕ) (found : Option ℕ) → o.allowed app name pass false ≡ found → o.valid app ≡ true →
      EachOf HasSpelling (opened areas.back app (o.get app name) found).answers
  opened_answers app name pass None is sound = (omega arith, tt)
  opened_answers app name pass (Some code) is sound = (spelled.code app name pass false code sound is, tt)

  begun_answers : (app : S) (name : List ℕ) (pass : ℕ) (found : Option ℕ) → o.allowed app name pass true ≡ found → o.valid app ≡ true → EachOf HasSpelling (begun app name found).answers
  begun_answers app name pass None is sound = (omega arith, tt)
  begun_answers app name pass (Some code) is sound = (spelled.code app name pass true code sound is, tt)

  closes_answers : (app : S) (name : List ℕ) (number : ℕ) (got : List ℕ) (t : ℕ) → o.valid app ≡ true → number < 2 ^ 32 → EachOf HasSpelling (closes o app name number got t).answers
  closes_answers app name number got t sound low = by_choice (nat_lt t (o.busy app name)) _ _
      (λ e. let few = spelled.busy app name sound in ((omega (arith, ltb-true t (o.busy app name) e, few), few), tt)) (λ _. (low, tt))

  stores_answers : (app : S) (name : List ℕ) (number : ℕ) (got part : List ℕ) → o.valid app ≡ true → number < 2 ^ 32 → EachOf HasSpelling (stores o areas.out app name number got part).answers
  stores_answers app name number got part sound low =
      by_choice (not (o.has_room app (length (got ++ part)))) _ _ (λ _. (omega arith, tt))
      (λ _. by_choice (is_last areas.out part) _ _ (λ _. closes_answers app name number (got ++ part) 0 sound low) (λ _. (low, tt)))

  data_answers : (app : S) (transfer : Transfer) (packet : ℕ) (part : List ℕ) → o.valid app ≡ true → packet < 2 ^ 32 → EachOf HasSpelling (takes_data o areas.out app transfer packet part).answers
  data_answers app idle packet part sound low = (omega arith, tt)
  data_answers app (reading number left) packet part sound low = (omega arith, tt)
  data_answers app (writing name number got) packet part sound low =
      by_choice (packet == number + 1) _ _ (λ _. stores_answers app name packet got part sound low) (λ _. (omega arith, tt))
  data_answers app (closing name number got t) packet part sound low =
      by_choice (packet == number) _ _ (λ e. closes_answers app name number got t sound (omega (arith, low, eqb-true packet number e))) (λ _. (omega arith, tt))

  ack_answers : (app : S) (transfer : Transfer) (packet : ℕ) → packet + 1 < 2 ^ 32 → EachOf HasSpelling (takes_ack areas.back app transfer packet).answers
  ack_answers app idle packet low = (omega arith, tt)
  ack_answers app (reading number left) packet low = by_choice (packet == number) _ _
      (λ e. by_choice (nat_lt (length left) (packet_room areas.back)) _ _ (λ _. tt) (λ _. (omega (arith, low, eqb-true packet number e), tt))) (λ _. (omega arith, tt))
  ack_answers app (writing name number got) packet low = (omega arith, tt)
  ack_answers app (closing name number got t) packet low = (omega arith, tt)

  answered : (v : Server S) (m : FoeMail) → o.valid v.app ≡ true → IsSent m → EachOf HasSpelling (foe_takes o areas v m).answers
  answered v (mail (Read pass name)) sound s = opened_answers v.app name.items pass (o.allowed v.app name.items pass false) refl sound
  answered v (mail (Write pass name)) sound s = begun_answers v.app name.items pass (o.allowed v.app name.items pass true) refl sound
  answered v (mail (Data packet bytes)) sound s = data_answers v.app v.transfer packet bytes.items sound s
  answered v (mail (Ack packet)) sound s = ack_answers v.app v.transfer packet s
  answered v _ sound s = absurd s

  all_answered : (v : Server S) (ms : List FoeMail) → EachOf IsSent ms → ((p r : List FoeMail) → ms ≡ p ++ r → o.valid (after (step o areas) v p).app ≡ true) →
      EachOf HasSpelling (given (step o areas) v ms)
  all_answered v [] all sound = tt
  all_answered v (m ∷ ms) all sound = each_append HasSpelling (step o areas v m).1 (given (step o areas) (step o areas v m).0 ms) (answered v m (sound [] (m ∷ ms) refl) all.0)
      (all_answered (step o areas v m).0 ms all.1 (λ p r e. sound (m ∷ p) r (ap (λ l. m ∷ l) e)))

  still_valid : (v : Server S) (q : Service) → o.valid v.app ≡ true → (p r : List FoeMail) → full o areas v q ≡ p ++ r → o.valid (after (step o areas) v p).app ≡ true
  still_valid v q sound p r e = elim ((kept o law areas sized v q sound).part p r e) [
    | inl before ↦ ap o.valid before.app ∙ sound
    | inr behind ↦ ap o.valid behind.app ∙ means_valid o law areas sized v.app q sound
  ]

  pub foe_spells : Spells (foe_exchange o areas) foe_mail_heard foe_mail_written
  foe_spells = record {
    told = λ v q ready valid. all_read_back (full o areas v q) (all_sent_spelled (full o areas v q) (full_sent v q ready valid));
    answered = λ v q ready valid. all_read_back (given (step o areas) v (full o areas v q)) (all_answered v (full o areas v q) (full_sent v q ready valid) (still_valid v q ready));
  }
