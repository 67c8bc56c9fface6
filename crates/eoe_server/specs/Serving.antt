-- What an EoE server's state stands for: the packet that it joins, and the mails that wait in it.
use Rattle.std.specs.Prelude.{◌≡◌, ℕ, ◌+◌, ◌-◌, ◌*◌, ◌/◌, ◌==◌, ◌&&◌, nat_le, nat_lt, Bool, true, if◌then◌else◌, List, [], ◌∷◌, ◌++◌, map, length, Option, Some, None}
use Rattle.protocol_models.specs.of_mailbox_mail.declared.mail.Mail.{Mail}
use Rattle.protocol_models.specs.of_eoe.declared.joining.Unfinished.{Unfinished}
use Rattle.protocol_models.specs.of_eoe.Cutting.{Cutting, fragments_from}
use Rattle.protocol_models.specs.EoeMails.{SetIpAnswer, GetIpAnswer, EoeMail, mail, part, unsupported, failed}
use Rattle.protocol_models.specs.Network.{Network}
use Rattle.protocol_models.specs.Echo.{echo_of}
use Rattle.protocol_models.specs.EoeOctets.{eoe_mail_written}
use Rattle.protocol_models.specs.EoeServer.{Outcome}
use Rattle.eoe_server.specs.declared.Answer.{Answer}
use Rattle.eoe_server.specs.declared.Addresses.{Addresses}

-- a server: the length of the mailbox that it sends through, the packet that it joins, the frame number of the next packet that it sends, the
-- answer that waits, and the packet on its way
pub record Serving : Type 0 where
  pub room : ℕ
  pub unfinished : Option Unfinished
  pub frame : ℕ
  pub answer : Answer
  pub sending : Option Cutting

-- a server without a packet and without a mail
abbrev pub fresh : ℕ → Serving
fresh room = record { room = room; unfinished = None; frame = 0; answer = Answer.Nothing; sending = None }

-- the mails of an answer, with this address block
abbrev pub answer_mails : List ℕ → Answer → List EoeMail
answer_mails block Answer.Nothing = []
answer_mails block (Answer.SetIp result_code) = mail (SetIpAnswer result_code) ∷ []
answer_mails block Answer.GetIp = mail (GetIpAnswer 0 (record { items = block })) ∷ []
answer_mails block (Answer.Unsupported kind) = unsupported kind ∷ []
answer_mails block (Answer.Failed detail) = failed detail ∷ []

-- the mail of an answer that there is
abbrev pub answer_mail : List ℕ → Answer → EoeMail
answer_mail block Answer.Nothing = failed 0
answer_mail block (Answer.SetIp result_code) = mail (SetIpAnswer result_code)
answer_mail block Answer.GetIp = mail (GetIpAnswer 0 (record { items = block }))
answer_mail block (Answer.Unsupported kind) = unsupported kind
answer_mail block (Answer.Failed detail) = failed detail

-- the fragments that are left of a packet on its way
abbrev pub cut_mails : Option Cutting → List EoeMail
cut_mails None = []
cut_mails (Some c) = map part (fragments_from c.packet c.size c.frame (length c.packet) c.number c.at)

-- the mails that wait: an answer, then fragments
abbrev pub waiting_mails : Serving → List ℕ → List EoeMail
waiting_mails c block = answer_mails block c.answer ++ cut_mails c.sending

-- what a server did with a mail, by its state and the addresses behind it
abbrev pub outcome_of : Addresses → Serving → Bool → Outcome Addresses
outcome_of addresses c counts = record {
  station = record { app = addresses; frame = c.frame };
  unfinished = c.unfinished;
  counts = counts;
  gives = waiting_mails c addresses.block.items;
}

-- the addresses of a slave as its network
abbrev pub addresses_network : Network Addresses
addresses_network = record {
  valid = λ a. true;
  packet = λ a octets. (a, echo_of a.mac.items octets);
  set_ip = λ a block. if a.fixed then None else Some (record a { block = record { items = block } });
  block = λ a. a.block.items;
}

-- the answer to get IP fits the mailbox
abbrev pub is_roomy : ℕ → Addresses → Bool
is_roomy room a = nat_le (length a.block.items) (room - 10)

-- whether a packet is cut for this mailbox, with a frame number of 4 bits
abbrev pub is_sending : ℕ → Option Cutting → Bool
is_sending room None = true
is_sending room (Some c) = nat_le (length c.packet) 1514 && (c.size == 32 * ((room - 10) / 32) && (nat_lt c.frame 16 && nat_le (32 * c.number) c.at))

-- the first of the mails that wait
pub record GivesNext (old : Serving) (block : List ℕ) (written : Mail) (new : Serving) : Type 0 where
  pub first : EoeMail
  pub spelled : written ≡ eoe_mail_written first
  pub rest : waiting_mails old block ≡ first ∷ waiting_mails new block
