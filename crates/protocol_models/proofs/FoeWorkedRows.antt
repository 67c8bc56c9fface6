-- Worked rows, computed: mails, answers and replies through mailboxes of 64 octets, at a slave with one file `a`.
use Rattle.std.proofs.Common.{◌≡◌, ℕ, ◌+◌, ◌-◌, ◌/◌, ◌<◌, ◌≤◌, nat_le, ◌&&◌, ◌==◌, Bool, true, false, not, List, [], ◌∷◌, length, replicate, if◌then◌else◌, Option, None, Some, refl, arith, leb-true, le-leb}
use Rattle.mailbox_mail.specs.declared.outcome.ReplyKind.{ReplyKind}
use Rattle.mailbox_mail.specs.declared.mail.Kind.TheVariants.{FoE}
use Rattle.exchange_model.specs.Areas.{Areas}
use Rattle.exchange_model.specs.Exchange.{after, given}
use Rattle.protocol_models.specs.FoeMails.{FoeMail, mail, unread, failed, Read, Write, Data, Ack, Error, Busy, Short, Opcode, Name}
use Rattle.protocol_models.specs.Files.{Files, AreLawful, AreSpelled}
use Rattle.protocol_models.specs.FoeServer.{Server, idle, reading, serve}
use Rattle.protocol_models.specs.FoeMeaning.{read, write, meaning_of}
use Rattle.protocol_models.specs.FoeClient.{ends}
use Rattle.protocol_models.specs.FoeModel.{full, planned}
use Rattle.protocol_models.specs.FoeOctets.{body_heard, foe_mail_written, mail_with}

-- a file's octets in a region of so many blocks of 128 octets, and how often its last packet is answered by busy
pub record Store : Type 0 where
  pub octets : List ℕ
  pub blocks : ℕ
  pub busy : ℕ

abbrev blocks_of : ℕ → ℕ
blocks_of octets = (octets + 127) / 128

abbrev is_a : List ℕ → Bool
is_a (x ∷ []) = x == 0x61
is_a _ = false

abbrev files : Files Store
files = record {
  valid = λ s. nat_le s.blocks 1024 && nat_le (length s.octets) 131072;
  allowed = λ s name pass write. if not (is_a name) then Some 0x8001 else if not (pass == 0) then Some 0x8002 else None;
  has_room = λ s octets. nat_le (blocks_of octets) (s.blocks - blocks_of (length s.octets)) && nat_le octets 131072;
  put = λ s name bytes. record s { octets = bytes };
  get = λ s name. s.octets;
  busy = λ s name. if nat_le s.busy 15 then s.busy else 15;
}

abbrev areas : Areas
areas = record { out = 64; back = 64 }

abbrev step : Server Store → FoeMail → Server Store × List FoeMail
step v m = serve files 64 64 v m

abbrev slave : List ℕ → ℕ → ℕ → Server Store
slave octets blocks busy = record { app = record { octets = octets; blocks = blocks; busy = busy }; handled = 0; transfer = idle }

abbrev name : List ℕ
name = 0x61 ∷ []

abbrev packet : ℕ → List ℕ → FoeMail
packet number octets = mail (Data number (record { items = octets }))

abbrev request_to_write : FoeMail
request_to_write = mail (Write 0 (record { items = name }))

abbrev request_to_read : FoeMail
request_to_read = mail (Read 0 (record { items = name }))

-- such files meet what the laws ask of them
two : (a b : Bool) → (a && b) ≡ true → (a ≡ true) × (b ≡ true)
two true b e = (refl, e)
two false b e = absurd (cc)

fewer_blocks : (few more free : ℕ) → few ≤ more → (nat_le (blocks_of more) free && nat_le more 131072) ≡ true → (nat_le (blocks_of few) free && nat_le few 131072) ≡ true
fewer_blocks few more free less e =
    let parts = two (nat_le (blocks_of more) free) (nat_le more 131072) e in
    let a : blocks_of few ≤ free = omega (arith, leb-true (blocks_of more) free parts.0) in
    let b : few ≤ 131072 = omega (arith, leb-true more 131072 parts.1) in
    rw (le-leb (blocks_of few) free a, le-leb few 131072 b) refl

pub files_lawful : AreLawful files
files_lawful = record {
  less = λ s few more less e. fewer_blocks few more (s.blocks - blocks_of (length s.octets)) less e;
  short = λ s name pass fine allowed. leb-true (length s.octets) 131072 (two (nat_le s.blocks 1024) (nat_le (length s.octets) 131072) fine).1;
  stays = λ s name bytes pass fine allowed fits.
      let blocks = (two (nat_le s.blocks 1024) (nat_le (length s.octets) 131072) fine).0 in
      let small = (two (nat_le (blocks_of (length bytes)) (s.blocks - blocks_of (length s.octets))) (nat_le (length bytes) 131072) fits).1 in
      rw (blocks, small) refl;
}

abbrev by_name : Bool → Bool → Option ℕ
by_name mine right = if not mine then Some 0x8001 else if not right then Some 0x8002 else None

few_code : (mine right : Bool) (code : ℕ) → by_name mine right ≡ Some code → code < 4294967296
few_code false right code e = let same : 0x8001 ≡ code = cc in omega (arith, same)
few_code true false code e = let same : 0x8002 ≡ code = cc in omega (arith, same)
few_code true true code e = absurd (cc)

few_busy : (b : Bool) (busy : ℕ) → nat_le busy 15 ≡ b → (if b then busy else 15) < 65536
few_busy true busy e = omega (arith, leb-true busy 15 e)
few_busy false busy e = omega arith

pub files_spelled : AreSpelled files
files_spelled = record {
  code = λ s name pass write code fine e. few_code (is_a name) (pass == 0) code e;
  busy = λ s name fine. few_busy (nat_le s.busy 15) s.busy refl;
}

-- an empty file is a request and an empty packet, and both are acknowledged
empty_mails : full files areas (slave [] 64 0) (write name 0 []) ≡ request_to_write ∷ packet 1 [] ∷ []
empty_mails = refl

empty_octets : foe_mail_written request_to_write ≡ mail_with FoE (2 ∷ 0 ∷ 0 ∷ 0 ∷ 0 ∷ 0 ∷ 0x61 ∷ [])
empty_octets = refl

empty_packet : foe_mail_written (packet 1 []) ≡ mail_with FoE (3 ∷ 0 ∷ 1 ∷ 0 ∷ 0 ∷ 0 ∷ [])
empty_packet = refl

empty_given : given step (slave [] 64 0) (request_to_write ∷ packet 1 [] ∷ []) ≡ mail (Ack 0) ∷ mail (Ack 1) ∷ []
empty_given = refl

empty_reply : ends areas (write name 0 []) (mail (Ack 0) ∷ mail (Ack 1) ∷ []) ≡ Some (ReplyKind.Done, [])
empty_reply = refl

-- 104 octets fill two packets, and an empty third is behind them
full_mails : full files areas (slave [] 64 0) (write name 0 (replicate 104 7)) ≡ request_to_write ∷ packet 1 (replicate 52 7) ∷ packet 2 (replicate 52 7) ∷ packet 3 [] ∷ []
full_mails = refl

full_stored : (after step (slave [] 64 0) (full files areas (slave [] 64 0) (write name 0 (replicate 104 7)))).app.octets ≡ replicate 104 7
full_stored = refl

-- one block, taken by the old 100 octets: 10 new ones are refused at their first packet, and the old file is whole
refused : given step (slave (replicate 100 7) 1 0) (request_to_write ∷ packet 1 (replicate 10 8) ∷ []) ≡ mail (Ack 0) ∷ mail (Error 0x8003) ∷ []
refused = refl

refused_reply : ends areas (write name 0 (replicate 10 8)) (mail (Ack 0) ∷ mail (Error 0x8003) ∷ []) ≡ Some (ReplyKind.FoeError 0x8003, [])
refused_reply = refl

refused_left : (after step (slave (replicate 100 7) 1 0) (request_to_write ∷ packet 1 (replicate 10 8) ∷ [])).app.octets ≡ replicate 100 7
refused_left = refl

-- another file
unknown : given step (slave [] 64 0) (mail (Read 0 (record { items = 0x62 ∷ [] })) ∷ []) ≡ mail (Error 0x8001) ∷ []
unknown = refl

-- a read of 100 octets is two packets, and both are acknowledged
read_mails : planned 64 (read name 0) (packet 1 (replicate 52 7) ∷ packet 2 (replicate 48 7) ∷ []) ≡ request_to_read ∷ mail (Ack 1) ∷ mail (Ack 2) ∷ []
read_mails = refl

read_given : given step (slave (replicate 100 7) 64 0) (request_to_read ∷ mail (Ack 1) ∷ mail (Ack 2) ∷ []) ≡ packet 1 (replicate 52 7) ∷ packet 2 (replicate 48 7) ∷ []
read_given = refl

read_reply : ends areas (read name 0) (packet 1 (replicate 52 7) ∷ packet 2 (replicate 48 7) ∷ []) ≡ Some (ReplyKind.Value, replicate 100 7)
read_reply = refl

last_ack : foe_mail_written (mail (Ack 2)) ≡ mail_with FoE (4 ∷ 0 ∷ 2 ∷ 0 ∷ 0 ∷ 0 ∷ [])
last_ack = refl

-- a file that fills its last packet has an empty one behind it
read_full : given step (slave (replicate 104 7) 64 0) (request_to_read ∷ mail (Ack 1) ∷ mail (Ack 2) ∷ mail (Ack 3) ∷ []) ≡ packet 1 (replicate 52 7) ∷ packet 2 (replicate 52 7) ∷ packet 3 [] ∷ []
read_full = refl

-- busy 15 times: the last packet goes sixteen times, and one acknowledgement comes
busy_mails : full files areas (slave [] 64 15) (write name 0 (replicate 10 7)) ≡ request_to_write ∷ replicate 16 (packet 1 (replicate 10 7))
busy_mails = refl

busy_given : given step (slave [] 64 3) (full files areas (slave [] 64 3) (write name 0 (replicate 10 7))) ≡ mail (Ack 0) ∷ mail (Busy 0 3) ∷ mail (Busy 1 3) ∷ mail (Busy 2 3) ∷ mail (Ack 1) ∷ []
busy_given = refl

busy_reply : ends areas (write name 0 (replicate 10 7)) (mail (Ack 0) ∷ mail (Busy 0 3) ∷ mail (Busy 1 3) ∷ mail (Busy 2 3) ∷ mail (Ack 1) ∷ []) ≡ Some (ReplyKind.Done, [])
busy_reply = refl

-- nothing is stored before the last acknowledgement
not_yet : (after step (slave [] 64 3) (request_to_write ∷ packet 1 (replicate 10 7) ∷ packet 1 (replicate 10 7) ∷ packet 1 (replicate 10 7) ∷ [])).app.octets ≡ []
not_yet = refl

-- two blocks, one of them taken: 128 other octets fit, and then 129 don't
again_done : (meaning_of files (slave (replicate 128 7) 2 0).app (write name 0 (replicate 128 8))).app.octets ≡ replicate 128 8
again_done = refl

again_refused : (meaning_of files (slave (replicate 128 8) 2 0).app (write name 0 (replicate 129 9))).reply ≡ (ReplyKind.FoeError 0x8003, [])
again_refused = refl

-- packet 2 in the place of packet 1, packets and acknowledgements without a transfer, and what doesn't read
wrong_number : given step (slave [] 64 0) (request_to_write ∷ packet 2 (replicate 10 7) ∷ packet 1 (replicate 10 7) ∷ []) ≡ mail (Ack 0) ∷ mail (Error 0x8005) ∷ mail (Error 0x8004) ∷ []
wrong_number = refl

without_read : serve files 64 64 (slave [] 64 0) (mail (Ack 1)) ≡ (record (slave [] 64 0) { handled = 1 }, mail (Error 0x8004) ∷ [])
without_read = refl

wrong_ack : serve files 64 64 (record (slave [] 64 0) { transfer = reading 1 [] }) (mail (Ack 2)) ≡ (slave [] 64 0, mail (Error 0x8005) ∷ [])
wrong_ack = refl

short : serve files 64 64 (slave [] 64 0) (unread Short) ≡ (record (slave [] 64 0) { handled = 1 }, failed 6 ∷ [])
short = refl

unread_leaves : serve files 64 64 (record (slave [] 64 0) { transfer = reading 1 [] }) (unread Name) ≡ (record (slave [] 64 0) { handled = 1; transfer = reading 1 [] }, mail (Error 0x8001) ∷ [])
unread_leaves = refl

no_opcode : body_heard (7 ∷ 0 ∷ 0 ∷ 0 ∷ 0 ∷ 0 ∷ []) ≡ unread Opcode
no_opcode = refl

-- a slave that doesn't serve FoE
not_served : ends areas (read name 0) (failed 2 ∷ []) ≡ Some (ReplyKind.MailboxError 2, [])
not_served = refl
