-- WHICH DATAGRAMS A SERVING COUNTS FULLY: none of them begins a download to 2F01:01, which makes its slave send a packet of itself.
use Rattle.std.specs.Prelude.{◌≡◌, ℕ, true, All, List, Ok}
use Rattle.gateway_core.specs.Framing.{request_in}
use Rattle.gateway_core.specs.of_mailbox_mail.declared.mail.Mail.{Mail}
use Rattle.plan_ring.specs.of_life_runs.Served.{Keyed, Serves}
use Rattle.life_counts.specs.of_few_replies.Packets.{is_fair}

-- a datagram whose mail, where it has one, begins none
abbrev pub IsFairGram : List ℕ → Type 0
IsFairGram octets = (m : Mail) → request_in octets ≡ Ok m → is_fair (Ok m) ≡ true

-- OF ALL THAT WERE HEARD
abbrev pub AreFairGrams : List (List ℕ) → Type 0
AreFairGrams grams = All (λ (octets : List ℕ). IsFairGram octets) grams

-- so it is with the mails that were asked of a slave
abbrev pub AsksFair : Serves → Type 0
AsksFair w = All (λ (k : Keyed). is_fair (Ok k.mail) ≡ true) w.asked
