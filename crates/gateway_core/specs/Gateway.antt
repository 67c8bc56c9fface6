-- The requests of the gateway that aren't finished.
use Rattle.std.specs.Prelude.{◌≡◌, ◌<◌, ℕ, ◌+◌, ◌==◌, Bool, true, false, if◌then◌else◌, nat_lt, nat_le, List, [], ◌∷◌, length, count_by, Option, Some, None, Result, Ok, Err}
use Rattle.slab.specs.Slab.{Slab, Updates, entries, get, slab_len}
use Rattle.ec_outside.specs.declared.port.Peer.{Peer}
use Rattle.mailbox_mail.specs.Mail.{error_of}
use Rattle.mailbox_mail.specs.declared.mail.Kind.{Kind}
use Rattle.mailbox_mail.specs.declared.mail.Kind.TheVariants as kinds
use Rattle.mailbox_mail.specs.declared.mail.Mail.{Mail}
use Rattle.gateway_core.specs.Framing.{gram_text}
use Rattle.gateway_core.specs.declared.framing.GatewayFault.{GatewayFault}
use Rattle.gateway_core.specs.declared.asker.Asked.{Asked}
use Rattle.gateway_core.specs.declared.asker.Asked.TheVariants as asked
use Rattle.gateway_core.specs.declared.asker.Asker.{Asker}

-- the first live slave of a station, with the length of its area; the slaves are counted on from a number
abbrev pub place_from : ℕ → ℕ → List (Option (ℕ × ℕ)) → Option (ℕ × ℕ)
place_from at station [] = None
place_from at station (None ∷ rows) = place_from (at + 1) station rows
place_from at station (Some row ∷ rows) = if row.0 == station then Some (at, row.1) else place_from (at + 1) station rows

-- the protocols whose mails are passed on
abbrev pub is_passed : Kind → Bool
is_passed kinds.CoE = true
is_passed kinds.FoE = true
is_passed kinds.SoE = true
is_passed kinds.Error = false
is_passed kinds.AoE = false
is_passed kinds.EoE = false
is_passed kinds.VoE = false

-- how many requests of a slave are unfinished
abbrev pub unfinished_at : ℕ → Slab Asker → ℕ
unfinished_at slave g = count_by (λ (entry : ℕ × Asker). entry.1.slave == slave) (entries g)

-- the slave to which a mail is to be passed on, or the first detail that applies
abbrev pub judged_at : Slab Asker → Mail → Option (ℕ × ℕ) → Result ℕ ℕ
judged_at g mail None = Err 5
judged_at g mail (Some place) =
    if is_passed mail.kind
    then (if nat_lt place.1 (6 + length mail.body.items) then Err 8 else if nat_le 64 (unfinished_at place.0 g) then Err 7 else Ok place.0)
    else Err 2

-- the slave that a request is for, found by its station, or the mailbox error that it gets
abbrev pub judged : Slab Asker → Mail → List (Option (ℕ × ℕ)) → Result ℕ ℕ
judged g mail stations = judged_at g mail (place_from 0 mail.address stations)

-- the datagram of a mailbox error to the asker of a mail
abbrev pub error_text : ℕ → Mail → List ℕ
error_text detail mail = gram_text (record (error_of detail) { address = mail.address; counter = mail.counter })

-- who asked by a mail for a slave
pub record IsAsker (peer : Peer) (slave : ℕ) (mail : Mail) (asker : Asker) : Type 0 where
  pub of_peer : asker.peer ≡ peer
  pub of_slave : asker.slave ≡ slave
  pub of_station : asker.station ≡ mail.address
  pub of_counter : asker.counter ≡ mail.counter

-- a mail is to be passed on, and is unfinished under a key that had no request
pub record Queues (old new : Slab Asker) (peer : Peer) (slave : ℕ) (mail : Mail) (answer : Asked) : Type 0 where
  pub key : ℕ
  pub asker : Asker
  pub queued : answer ≡ asked.Queued key slave mail
  pub vacant : get old key ≡ None
  pub is_asker : IsAsker peer slave mail asker
  pub updates : Updates old new key (Some asker)
  pub one : slab_len new ≡ slab_len old + 1

-- a mail that is to be passed on goes to this slave
abbrev pub IsFor : ℕ → Asked → Type 0
IsFor slave (asked.Queued key own mail) = own ≡ slave
IsFor slave asked.Ignored = Unit {0}
IsFor slave (asked.Error gram) = Unit {0}

-- a mail that is to be passed on goes to one of so many slaves
abbrev pub IsWithin : ℕ → Asked → Type 0
IsWithin many (asked.Queued key slave mail) = slave < many
IsWithin many asked.Ignored = Unit {0}
IsWithin many (asked.Error gram) = Unit {0}

-- what becomes of a mail, by the slave to which it goes or the detail of an error
abbrev pub AnswersMail : Slab Asker → Slab Asker → Peer → Mail → Result ℕ ℕ → Asked → Type 0
AnswersMail old new peer mail (Ok slave) answer = Queues old new peer slave mail answer
AnswersMail old new peer mail (Err detail) answer = (answer ≡ asked.Error (record { items = error_text detail mail })) × (new ≡ old)

-- WHAT BECOMES OF A DATAGRAM, and what it leaves of the requests
abbrev pub Answers : Slab Asker → Slab Asker → Peer → List (Option (ℕ × ℕ)) → Result Mail GatewayFault → Asked → Type 0
Answers old new peer stations (Ok mail) answer = AnswersMail old new peer mail (judged old mail stations) answer
Answers old new peer stations (Err fault) answer = (answer ≡ asked.Ignored) × (new ≡ old)

-- a reply goes to its own asker, with the asker's station and counter
abbrev pub RepliesTo : Asker → Mail → Peer → List ℕ → Type 0
RepliesTo asker mail peer octets =
    (peer ≡ asker.peer) × (octets ≡ gram_text (record mail { address = asker.station; counter = asker.counter }))
