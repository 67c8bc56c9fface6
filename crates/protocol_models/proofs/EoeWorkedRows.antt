-- Worked rows, computed: mails and answers through mailboxes of 64 octets, over an application that sends each packet back.
use Rattle.std.proofs.Common.{◌≡◌, ℕ, ◌≤◌, nat_le, Bool, true, false, List, [], ◌∷◌, length, replicate, if◌then◌else◌, Option, None, Some, refl, subst, leb-true}
use Rattle.mailbox_mail.specs.declared.outcome.ReplyKind.{ReplyKind}
use Rattle.exchange_model.specs.Exchange.{after, given}
use Rattle.protocol_models.specs.EoeMails.{EoeMail, mail, unread, unsupported, failed, SetIp, SetIpAnswer, GetIp, GetIpAnswer, Short, WrongType, Offset, part}
use Rattle.protocol_models.specs.Network.{Network, IsSound, IsSpelled}
use Rattle.protocol_models.specs.EoeServer.{Server, serve}
use Rattle.protocol_models.specs.EoeClient.{packet, set_ip, get_ip, mails_of, ends}
use Rattle.protocol_models.specs.EoeOctets.{eoe_mail_heard, eoe_mail_written, mail_with}
use Rattle.mailbox_mail.specs.declared.mail.Kind.TheVariants.{EoE}

abbrev back_of : List ℕ → Option (List ℕ)
back_of octets = if nat_le (length octets) 1514 then Some octets else None

-- the state is the address block
abbrev echo : Network (List ℕ)
echo = record {
  valid = λ s. true;
  packet = λ s octets. (s, back_of octets);
  set_ip = λ s block. Some block;
  block = λ s. s;
}

-- such an application meets what the laws ask of one
pub echo_sound : IsSound echo
echo_sound = record { packet = λ s octets fine. refl; set_ip = λ s changed block fine is. refl }

pub echo_spelled : IsSpelled echo
echo_spelled = record { sent = λ s octets sent fine is. by octets sent (nat_le (length octets) 1514) refl is }
  where
    by : (octets sent : List ℕ) (b : Bool) → nat_le (length octets) 1514 ≡ b → (if b then Some octets else None) ≡ Some sent → length sent ≤ 1514
    by octets sent true fits is = let same : octets ≡ sent = cc in subst (λ l. length l ≤ 1514) same (leb-true (length octets) 1514 fits)
    by octets sent false fits is = absurd (cc)

abbrev fresh : Server (List ℕ)
fresh = record { station = record { app = 0 ∷ 0 ∷ 0 ∷ 0 ∷ []; frame = 15 }; handled = 0; unfinished = None }

abbrev fragment : Bool → ℕ → ℕ → ℕ → List ℕ → EoeMail
fragment last number offset frame bytes = part (record { last = last; stamped = false; number = number; offset = offset; frame = frame; bytes = record { items = bytes } })

-- 14 octets are one fragment, of 1 block; 33 are one of 32 and one of 1
one_fragment : mails_of 64 (packet (replicate 14 7) 3) ≡ fragment true 0 1 3 (replicate 14 7) ∷ []
one_fragment = refl

two_fragments : mails_of 64 (packet (replicate 33 7) 3) ≡ fragment false 0 2 3 (replicate 32 7) ∷ fragment true 1 1 3 (7 ∷ []) ∷ []
two_fragments = refl

-- the packet comes back with the number 15, and the next one will have 0
comes_back : given (serve echo 64) fresh (mails_of 64 (packet (replicate 33 7) 3)) ≡ fragment false 0 2 15 (replicate 32 7) ∷ fragment true 1 1 15 (7 ∷ []) ∷ []
comes_back = refl

numbers_go_round : (after (serve echo 64) fresh (mails_of 64 (packet (replicate 33 7) 3))).station.frame ≡ 0
numbers_go_round = refl

counts_once : (after (serve echo 64) fresh (mails_of 64 (packet (replicate 33 7) 3))).handled ≡ 1
counts_once = refl

-- a last fragment that isn't awaited is without effect, and counts; one that isn't the last doesn't
last_counts : serve echo 64 fresh (fragment true 1 1 3 (7 ∷ [])) ≡ (record fresh { handled = 1 }, [])
last_counts = refl

other_counts_not : serve echo 64 fresh (fragment false 1 1 3 (replicate 32 7)) ≡ (fresh, [])
other_counts_not = refl

-- a block with a MAC address; flags with a gap; and one of 58 octets, for which a mailbox of 64 has no room
sets : given (serve echo 64) fresh (mail (SetIp (record { items = 1 ∷ 0 ∷ 0 ∷ 0 ∷ 2 ∷ 0 ∷ 0 ∷ 0 ∷ 0 ∷ 1 ∷ [] })) ∷ mail GetIp ∷ [])
    ≡ mail (SetIpAnswer 0) ∷ mail (GetIpAnswer 0 (record { items = 1 ∷ 0 ∷ 0 ∷ 0 ∷ 2 ∷ 0 ∷ 0 ∷ 0 ∷ 0 ∷ 1 ∷ [] })) ∷ []
sets = refl

gap_refused : serve echo 64 fresh (mail (SetIp (record { items = 2 ∷ 0 ∷ 0 ∷ 0 ∷ 192 ∷ 168 ∷ 0 ∷ 1 ∷ [] }))) ≡ (record fresh { handled = 1 }, mail (SetIpAnswer 1) ∷ [])
gap_refused = refl

long_refused : (serve echo 64 fresh (mail (SetIp (record { items = 0x3F ∷ 0 ∷ 0 ∷ 0 ∷ replicate 54 1 })))).1 ≡ mail (SetIpAnswer 1) ∷ []
long_refused = refl

-- mails that don't read, and an answer that comes to a server
short_failed : serve echo 64 fresh (unread Short 0) ≡ (record fresh { handled = 1 }, failed 6 ∷ [])
short_failed = refl

even_refused : serve echo 64 fresh (unread WrongType 4) ≡ (record fresh { handled = 1 }, unsupported 5 ∷ [])
even_refused = refl

odd_ignored : serve echo 64 fresh (unread WrongType 5) ≡ (record fresh { handled = 1 }, [])
odd_ignored = refl

offset_ignored : serve echo 64 fresh (unread Offset 0) ≡ (fresh, [])
offset_ignored = refl

answer_ignored : serve echo 64 fresh (mail (SetIpAnswer 0)) ≡ (record fresh { handled = 1 }, [])
answer_ignored = refl

-- replies
reply_done : ends (set_ip []) (mail (SetIpAnswer 0) ∷ []) ≡ Some (ReplyKind.Done, [])
reply_done = refl

reply_refused : ends (set_ip []) (mail (SetIpAnswer 1) ∷ []) ≡ Some (ReplyKind.EoeResult 1, [])
reply_refused = refl

reply_failed : ends get_ip (failed 2 ∷ []) ≡ Some (ReplyKind.MailboxError 2, [])
reply_failed = refl

-- octets of mails
short_heard : eoe_mail_heard (mail_with EoE (0 ∷ 0 ∷ 0 ∷ [])) ≡ unread Short 0
short_heard = refl

wrong_heard : eoe_mail_heard (mail_with EoE (4 ∷ 1 ∷ 0 ∷ 0 ∷ [])) ≡ unread WrongType 4
wrong_heard = refl

unsupported_written : eoe_mail_written (unsupported 5) ≡ mail_with EoE (5 ∷ 0 ∷ 2 ∷ 0 ∷ [])
unsupported_written = refl

last_written : eoe_mail_written (fragment true 47 47 0 (9 ∷ [])) ≡ mail_with EoE (0x00 ∷ 0x01 ∷ 0xEF ∷ 0x0B ∷ 9 ∷ [])
last_written = refl
