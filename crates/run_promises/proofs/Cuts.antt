-- Fragments of packets as mails, and several such mails.
use Rattle.std.proofs.Common.{◌≡◌, ℕ, ◌+◌, ◌-◌, ◌*◌, ◌/◌, ◌<◌, ◌≤◌, None, List, [], ◌∷◌, ◌++◌, map, length, refl, sym, ap, ◌∙◌, arith, append_assoc, append-nil}
use Rattle.std.specs.Prelude.{sum_by}
use Rattle.std.proofs.lemmas.Bool.Decides.{nat_tests}
use Rattle.std.proofs.lemmas.List.Sums.{sum_by-cons, sum_by-append}
use Rattle.packets_heard.specs.of_eoe.Cutting.{fragments_of}
use Rattle.packets_heard.specs.of_eoe.declared.message.Fragment.{Fragment}
use Rattle.served_rings.proofs.of_protocol_models.EoeSpelled.{eoe_spells}
use Rattle.served_rings.proofs.of_protocol_models.EoeWorkedRows.{echo_sound, echo_spelled}
use Rattle.packets_heard.specs.of_protocol_models.EoeClient as EoeClient
use Rattle.packets_heard.specs.of_protocol_models.EoeMails.{EoeMail, part, packet_mails}
use Rattle.packets_heard.specs.of_protocol_models.EoeOctets.{eoe_mail_heard, eoe_mail_written}
use Rattle.packets_heard.specs.of_exchange_model.Areas.{AreMailboxes}
use Rattle.packets_heard.specs.of_exchange_model.Lifted.{EachOf, ReadsBack}
use Rattle.packets_heard.specs.of_link_mails.Body.{Body}
use Rattle.packets_heard.specs.of_master_hand.Joins.{fragment_of, fragment_in}
use Rattle.packets_heard.specs.Packets.{Emitted, ArePackets, all_fragments, octets_of, as_part, parts}
use Rattle.served_rings.specs.of_slave_model.Server.{told_by}
use Rattle.run_promises.specs.Sends.{Sends}

-- ---- several
pub parts_append : (xs ys : List Body) → parts fragment_in (xs ++ ys) ≡ parts fragment_in xs ++ parts fragment_in ys
parts_append [] ys = refl
parts_append (x ∷ xs) ys = ap (λ l. as_part (fragment_in x) ++ l) (parts_append xs ys) ∙ sym (append_assoc (as_part (fragment_in x)) (parts fragment_in xs) (parts fragment_in ys))

fragments_append : (room : ℕ) (ps qs : List Emitted) → all_fragments room (ps ++ qs) ≡ all_fragments room ps ++ all_fragments room qs
fragments_append room [] qs = refl
fragments_append room (p ∷ ps) qs =
    let one = fragments_of p.octets (32 * ((room - 10) / 32)) p.frame in
    ap (λ l. one ++ l) (fragments_append room ps qs) ∙ sym (append_assoc one (all_fragments room ps) (all_fragments room qs))

are_append : (ps qs : List Emitted) → ArePackets ps → ArePackets qs → ArePackets (ps ++ qs)
are_append [] qs a b = b
are_append (p ∷ ps) qs a b = (a.0, are_append ps qs a.1 b)

octets_append : (ps qs : List Emitted) → octets_of (ps ++ qs) ≡ octets_of ps ++ octets_of qs
octets_append [] qs = refl
octets_append (p ∷ ps) qs = ap (λ l. p.octets ∷ l) (octets_append ps qs)

module _ (weigh : List ℕ → ℕ) (room : ℕ) where
  pub sends_none : (mails : List Body) (most : ℕ) → parts fragment_in mails ≡ [] → Sends weigh room mails most
  sends_none mails most e = record { packets = []; whole = record { cut = e; are = tt }; few = omega arith }

  pub sends_both : (xs ys : List Body) (a b : ℕ) → Sends weigh room xs a → Sends weigh room ys b → Sends weigh room (xs ++ ys) (a + b)
  sends_both xs ys a b s t = record {
    packets = s.packets ++ t.packets;
    whole = record { cut = parts_append xs ys ∙ (λ i. s.whole.cut i ++ t.whole.cut i) ∙ sym (fragments_append room s.packets t.packets); are = are_append s.packets t.packets s.whole.are t.whole.are };
    few = omega (arith, s.few, t.few, ap (sum_by weigh) (octets_append s.packets t.packets), sum_by-append weigh (octets_of s.packets) (octets_of t.packets));
  }

-- ---- one packet
abbrev told : EoeMail → Body
told = told_by eoe_mail_written

parts_back : (fs : List Fragment) → EachOf (ReadsBack eoe_mail_heard eoe_mail_written) (map part fs) → parts fragment_in (map told (map part fs)) ≡ fs
parts_back [] all = refl
parts_back (f ∷ fs) all =
    ap (λ (m : EoeMail). as_part (fragment_of m) ++ parts fragment_in (map told (map part fs))) all.0 ∙ ap (λ l. f ∷ l) (parts_back fs all.1)

read_back : (room frame : ℕ) (octets : List ℕ) → 64 ≤ room → room ≤ 1486 → 14 ≤ length octets → length octets ≤ 1514 → frame < 16 → EachOf (ReadsBack eoe_mail_heard eoe_mail_written) (packet_mails room octets frame)
read_back room frame octets least most long short low =
    let sized : AreMailboxes (record { out = room; back = room }) = record { out_least = least; out_most = most; back_least = least; back_most = most } in
    (eoe_spells _ echo_sound echo_spelled (record { out = room; back = room }) sized).told
    (record { station = record { app = []; frame = 0 }; handled = 0; unfinished = None }) (EoeClient.packet octets frame) refl (grind (arith, nat_tests, long, short, low))

pub sends_packet : (weigh : List ℕ → ℕ) (room frame : ℕ) (octets : List ℕ) → 64 ≤ room → room ≤ 1486 → 14 ≤ length octets → length octets ≤ 1514 → frame < 16 → Sends weigh room (map told (packet_mails room octets frame)) (weigh octets + 0)
sends_packet weigh room frame octets least most long short low =
    let fs = fragments_of octets (32 * ((room - 10) / 32)) frame in
    record {
      packets = record { octets = octets; frame = frame } ∷ [];
      whole = record { cut = parts_back fs (read_back room frame octets least most long short low) ∙ sym (append-nil fs); are = ((long, short), tt) };
      few = omega (arith, sum_by-cons weigh octets []);
    }
