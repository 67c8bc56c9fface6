-- The mails of an EoE service, from client and server, have spellings, from which they are read back.
use Rattle.std.proofs.Common.{◌≡◌, inl, inr, ℕ, zero, suc, ◌+◌, ◌-◌, ◌*◌, ◌/◌, ◌%◌, ◌^◌, ◌<◌, ◌≤◌, Bool, true, false, ◌&&◌, nat_lt, nat_le, ◌==◌, List, [], ◌∷◌, ◌++◌, map, length, take, drop, Option, None, Some, Ok, refl, sym, ap, ◌∙◌, subst, arith, length-drop, length-take-le, leb-true, ltb-true, le-ltb, lt-ltb, eq-eqb}
use Rattle.std.specs.Prelude.{if◌then◌else◌}
use Rattle.std.proofs.lemmas.Bool.{cases_lt, leb-false}
use Rattle.byteorder.specs.Endian.{little_bytes}
use Rattle.coe_codec.specs.of_ec_fields.Fields.{bits_of}
use Rattle.eoe.specs.Message.{IsWhole, IsSpellable, first_of, second_of, octets_of, message_in, eoe_read, eoe_text}
use Rattle.eoe.specs.Cutting.{blocks_of, fragment_at, fragments_from}
use Rattle.exchange_model.specs.Areas.{Areas, AreMailboxes}
use Rattle.exchange_model.specs.Lifted.{EachOf, ReadsBack, Spells}
use Rattle.protocol_models.specs.EoeMails.{Eoe, Part, SetIp, SetIpAnswer, GetIp, GetIpAnswer, EoeMail, mail, part, packet_mails}
use Rattle.protocol_models.specs.Network.{Network, IsSound, IsSpelled, is_ready}
use Rattle.protocol_models.specs.EoeServer.{Server, sends, addressed}
use Rattle.protocol_models.specs.EoeClient.{Service, packet, set_ip, get_ip, is_service, mails_of}
use Rattle.protocol_models.specs.EoeModel.{eoe_exchange}
use Rattle.protocol_models.specs.EoeOctets.{heard, eoe_mail_heard, eoe_mail_written}
use Rattle.protocol_models.proofs.EoeLaw.{kept, gives, answer_to_set, both_are}

-- two words and octets behind them are read by these words
read_words : (first second : ℕ) (rest : List ℕ) → first < 65536 → second < 65536 →
    eoe_read (little_bytes 2 first ++ (little_bytes 2 second ++ rest)) ≡ message_in first second rest
read_words first second rest one two =
    let long : nat_lt (length (little_bytes 2 first ++ (little_bytes 2 second ++ rest))) 4 ≡ false = le-ltb _ _ (omega arith) in
    let front : first % 256 + 256 * (first / 256 % 256 + 256 * 0) ≡ first = omega arith in
    let back : second % 256 + 256 * (second / 256 % 256 + 256 * 0) ≡ second = omega arith in
    rw (long, front, back) refl

-- the numbers in the second word of a fragment
number_back : (number offset frame : ℕ) → number < 2 ^ 6 → bits_of (number + 64 * offset + 4096 * frame) 0 6 ≡ number
number_back number offset frame few = omega arith

offset_back : (number offset frame : ℕ) → number < 2 ^ 6 → offset < 2 ^ 6 → bits_of (number + 64 * offset + 4096 * frame) 6 6 ≡ offset
offset_back number offset frame few near = omega arith

frame_back : (number offset frame : ℕ) → number < 2 ^ 6 → offset < 2 ^ 6 → frame < 2 ^ 4 → bits_of (number + 64 * offset + 4096 * frame) 12 4 ≡ frame
frame_back number offset frame few near low = omega arith

-- a fragment is read from its words
part_in : (last stamped : Bool) (number offset frame : ℕ) (bytes : List ℕ) → number < 2 ^ 6 → offset < 2 ^ 6 → frame < 2 ^ 4 → IsWhole last (length bytes) →
    message_in ((if last then 256 else 0) + (if stamped then 512 else 0)) (number + 64 * offset + 4096 * frame) bytes
    ≡ Ok (Part (record { last = last; stamped = stamped; number = number; offset = offset; frame = frame; bytes = record { items = bytes } }))
part_in true true number offset frame bytes few near low whole =
    rw (number_back number offset frame few, offset_back number offset frame few near, frame_back number offset frame few near low) refl
part_in true false number offset frame bytes few near low whole =
    rw (number_back number offset frame few, offset_back number offset frame few near, frame_back number offset frame few near low) refl
part_in false true number offset frame bytes few near low whole =
    let blocks = eq-eqb (length bytes % 32) 0 whole in
    rw (number_back number offset frame few, offset_back number offset frame few near, frame_back number offset frame few near low, blocks) refl
part_in false false number offset frame bytes few near low whole =
    let blocks = eq-eqb (length bytes % 32) 0 whole in
    rw (number_back number offset frame few, offset_back number offset frame few near, frame_back number offset frame few near low, blocks) refl

-- a message that has a spelling is read back
message_back : (e : Eoe) → IsSpellable e → second_of e < 65536 → message_in (first_of e) (second_of e) (octets_of e) ≡ Ok e
message_back (Part f) s two = part_in f.last f.stamped f.number f.offset f.frame f.bytes.items s.number s.offset s.frame s.whole
message_back (SetIp block) s two = refl
message_back (SetIpAnswer result_code) s two = refl
message_back GetIp s two = refl
message_back (GetIpAnswer result_code block) s two = refl

first_few : (last stamped : Bool) → (if last then 256 else 0) + (if stamped then 512 else 0) < 65536
first_few true true = omega arith
first_few true false = omega arith
first_few false true = omega arith
first_few false false = omega arith

first_fits : (e : Eoe) → first_of e < 65536
first_fits (Part f) = first_few f.last f.stamped
first_fits (SetIp block) = omega arith
first_fits (SetIpAnswer result_code) = omega arith
first_fits GetIp = omega arith
first_fits (GetIpAnswer result_code block) = omega arith

text_read : (e : Eoe) → IsSpellable e → second_of e < 65536 → eoe_read (eoe_text e) ≡ Ok e
text_read e s two = read_words (first_of e) (second_of e) (octets_of e) (first_fits e) two ∙ message_back e s two

-- a mail of a service that has a spelling
abbrev pub HasSpelling : EoeMail → Type 0
HasSpelling (mail e) = IsSpellable e × (second_of e < 65536)
HasSpelling _ = ⊥

reads_back : (m : EoeMail) → HasSpelling m → ReadsBack eoe_mail_heard eoe_mail_written m
reads_back (mail e) s = ap (heard (eoe_text e)) (text_read e s.0 s.1)
reads_back _ s = absurd s

all_read_back : (ms : List EoeMail) → EachOf HasSpelling ms → EachOf (ReadsBack eoe_mail_heard eoe_mail_written) ms
all_read_back [] all = tt
all_read_back (m ∷ ms) all = (reads_back m all.0, all_read_back ms all.1)

-- a fragment but the last has whole blocks
whole_blocks : (octets : List ℕ) (size at : ℕ) (last : Bool) → size % 32 ≡ 0 → nat_le (length octets) (at + size) ≡ last → IsWhole last (length (take size (drop at octets)))
whole_blocks octets size at true blocks is = tt
whole_blocks octets size at false blocks is =
    let more = leb-false (length octets) (at + size) is in
    let left = length-drop at octets in
    ap (λ (n : ℕ). n % 32) (length-take-le size (drop at octets) (omega arith)) ∙ blocks

offset_fits : (first : Bool) (octets : List ℕ) (at : ℕ) → length octets ≤ 1514 → at < length octets → (if first then blocks_of (length octets) else at / 32) < 2 ^ 6
offset_fits true octets at short inside = omega arith
offset_fits false octets at short inside = omega arith

place_fits : (number offset frame : ℕ) → number < 2 ^ 6 → offset < 2 ^ 6 → frame < 2 ^ 4 → number + 64 * offset + 4096 * frame < 65536
place_fits number offset frame few near low = omega arith

-- the fragments of a packet have spellings
pub piece_spelled : (octets : List ℕ) (size frame k at : ℕ) → length octets ≤ 1514 → size % 32 ≡ 0 → frame < 16 → 32 * k ≤ at → at < length octets →
    HasSpelling (part (fragment_at octets size frame k at))
piece_spelled octets size frame k at short blocks low counted inside =
    let few : k < 2 ^ 6 = omega arith in
    let four : frame < 2 ^ 4 = omega arith in
    let near = offset_fits (k == 0) octets at short inside in
    (record { number = few; offset = near; frame = four; whole = whole_blocks octets size at (nat_le (length octets) (at + size)) blocks refl }, place_fits k _ frame few near four)

pieces_spelled : (most : ℕ) (octets : List ℕ) (size frame k at : ℕ) → length octets ≤ 1514 → 32 ≤ size → size % 32 ≡ 0 → frame < 16 → 32 * k ≤ at →
    EachOf HasSpelling (map part (fragments_from octets size frame most k at))
pieces_spelled zero octets size frame k at short big blocks low counted = tt
pieces_spelled (suc most) octets size frame k at short big blocks low counted = elim (cases_lt at (length octets)) [
  | inl inside ↦
      let here = lt-ltb at (length octets) inside in
      rw here (piece_spelled octets size frame k at short blocks low counted inside, pieces_spelled most octets size frame (k + 1) (at + size) short big blocks low (omega arith))
  | inr ends ↦ let past = le-ltb at (length octets) ends in rw past tt
]

packet_spelled : (room : ℕ) (octets : List ℕ) (frame : ℕ) → 64 ≤ room → length octets ≤ 1514 → frame < 16 → EachOf HasSpelling (packet_mails room octets frame)
packet_spelled room octets frame wide short low =
    pieces_spelled (length octets) octets (32 * ((room - 10) / 32)) frame 0 0 short (omega arith) (omega arith) low (omega arith)

sends_spelled : {S : Type 0} (room frame : ℕ) (r : S × Option (List ℕ)) → 64 ≤ room → frame < 16 → ((sent : List ℕ) → r.1 ≡ Some sent → length sent ≤ 1514) →
    EachOf HasSpelling (sends room frame r).1
sends_spelled room frame (app, None) wide low short = tt
sends_spelled room frame (app, Some octets) wide low short = packet_spelled room octets frame wide (short octets refl) low

all_three : (a b c : Bool) → (a && b && c) ≡ true → (b ≡ true) × (c ≡ true)
all_three true true c e = (refl, e)
all_three true false c e = absurd (cc)
all_three false b c e = absurd (cc)

module _ {S : Type 0} (o : Network S) (sound : IsSound o) (spelled : IsSpelled o) (areas : Areas) (sized : AreMailboxes areas) where
  told : (q : Service) → is_service q ≡ true → EachOf HasSpelling (mails_of areas.out q)
  told (packet octets frame) valid =
      let sizes = all_three (nat_le 14 (length octets)) (nat_le (length octets) 1514) (nat_lt frame 16) valid in
      packet_spelled areas.out octets frame sized.out_least (leb-true _ _ sizes.0) (ltb-true _ _ sizes.1)
  told (set_ip block) valid = ((tt, omega arith), tt)
  told get_ip valid = ((tt, omega arith), tt)

  set_answered : (r : Option S) → EachOf HasSpelling (answer_to_set o sound areas sized r)
  set_answered (Some app) = ((tt, omega arith), tt)
  set_answered None = ((tt, omega arith), tt)

  answered : (v : Server S) (q : Service) → is_ready o v.station ≡ true → EachOf HasSpelling (gives o sound areas sized v q)
  answered v (packet octets frame) ready =
      let now = both_are (o.valid v.station.app) (nat_lt v.station.frame 16) ready in
      sends_spelled areas.back v.station.frame (o.packet v.station.app octets) sized.back_least (ltb-true v.station.frame 16 now.1)
      (λ sent is. spelled.sent v.station.app octets sent now.0 is)
  answered v (set_ip block) ready = set_answered (addressed o areas.back v.station.app block)
  answered v get_ip ready = ((tt, omega arith), tt)

  pub eoe_spells : Spells (eoe_exchange o areas) eoe_mail_heard eoe_mail_written
  eoe_spells = record {
    told = λ v q ready valid. all_read_back (mails_of areas.out q) (told q valid);
    answered = λ v q ready valid. subst (EachOf (ReadsBack eoe_mail_heard eoe_mail_written)) (sym (kept o sound areas sized v q valid).given)
        (all_read_back (gives o sound areas sized v q) (answered v q ready));
  }
