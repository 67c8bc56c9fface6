-- A worked life: the frames of a slave of SoE, as its master has them, with the values of a run.
use Rattle.std.specs.Prelude.{ℕ, zero, suc, ◌+◌, ◌%◌, Bool, true, false, nat_le, if◌then◌else◌, Option, None, Some, List, [], ◌∷◌, ◌++◌, length, Ok, Err}
use Rattle.slave_parts.specs.of_exchange_model.Areas.{Areas}
use Rattle.slave_parts.specs.of_exchange_model.Exchange.{Speech, after}
use Rattle.slave_parts.specs.of_link_model.Mails.{LinkMail}
use Rattle.slave_parts.specs.of_link_model.Frames.{Ask}
use Rattle.slave_parts.specs.of_segment_model.Slaves.{Datagram, Address, Access, Found}
use Rattle.slave_parts.specs.of_segment_model.Record.{News}
use Rattle.slave_parts.specs.of_state_model.Stated.{Service}
use Rattle.slave_parts.specs.of_state_model.Accounts.{Pick}
use Rattle.slave_parts.specs.of_protocol_models.Elements.{Target, Elements}
use Rattle.slave_parts.specs.of_protocol_models.SoeMails.{SoeMail, mail, unread, failed, other, message}
use Rattle.slave_parts.specs.of_protocol_models.SoeServer as Server
use Rattle.slave_parts.specs.of_protocol_models.SoeClient as Client
use Rattle.slave_parts.specs.of_protocol_models.SoeClient.{Reply}
use Rattle.slave_parts.specs.of_protocol_models.SoeModel.{soe_speech}
use Rattle.slave_parts.specs.SoeServed.{soe_served}
use Rattle.slave_parts.specs.of_serving_model.Tagged.{Asked, Meant, told, ideal, tagged}
use Rattle.few_replies.specs.Client.{asked_speech}
use Rattle.slave_parts.specs.of_life_model.Lives.{Life, Spot, new_life, life_next, life_back, life_lost, gives_up}

-- station 0x1601 at place 0, which starts in PreOp
abbrev pub spot : Spot
spot = record { station = 5633; place = 0; start = 2 }

-- its mailboxes
abbrev pub areas : Areas
areas = record { out = 64; back = 64 }

-- IDN 5, element 7 (its value)
abbrev pub target : Target
target = record { drive = 0; idn = 5; elements = 64 }

-- so many octets, each 7 more than the one before
abbrev pub octets : ℕ → ℕ → List ℕ
octets zero at = []
octets (suc n) at = at % 256 ∷ octets n (at + 7)

-- a fragment of a write of IDN 5 goes on
abbrev pub goes_on : SoeMail → Bool
goes_on (mail s) = s.incomplete
goes_on (unread fault incomplete) = false
goes_on (failed detail) = false
goes_on (other body) = false

-- what the master speaks: services of SoE, and mails that are passed on
abbrev pub speech : Speech SoeMail (Asked SoeMail Client.Service) (Option Reply)
speech = asked_speech (soe_speech areas) goes_on

-- whether a service is a mail that is passed on
abbrev pub is_passed : Asked SoeMail Client.Service → Bool
is_passed (Asked.Script q) = false
is_passed (Asked.Passed m answers) = true

-- the first fragment of a value of 123 octets, of which two follow; it is that of a mail that is passed on, too
abbrev pub fragment : SoeMail
fragment = mail (message 3 true target 2 (octets 54 0))

-- a write of those 123 octets, and one of a single octet
abbrev pub long_write : Asked SoeMail Client.Service
long_write = Asked.Script (Client.write target (octets 123 0))

-- a write of a single octet
abbrev pub short_write : Asked SoeMail Client.Service
short_write = Asked.Script (Client.write target (7 ∷ []))

-- its one mail, and its answer
abbrev pub short_mail : SoeMail
short_mail = mail (message 3 false target 5 (7 ∷ []))

-- its answer
abbrev pub answer : SoeMail
answer = mail (message 4 false target 5 [])

-- A FRAME of that life: the master's choice, the opening's own datagram as it came back, news and the slave's datagrams; whether it came back, and
-- whether the slave is given up with it
pub record LifeFrame : Type 0 where
  pub pick : Pick (Asked SoeMail Client.Service)
  pub came : Option (Bool × Option Found)
  pub news : List (News SoeMail)
  pub sent : List (Datagram SoeMail)
  pub fate : Bool
  pub given_up : Bool

-- the life behind a frame
abbrev pub behind : ℕ → Life SoeMail (Asked SoeMail Client.Service) (Option Reply) → LifeFrame → Life SoeMail (Asked SoeMail Client.Service) (Option Reply)
behind n l f =
    let asked = life_next speech (λ q. false) goes_on is_passed n l l.stand f.pick in
    let met = if f.fate then life_back speech (λ q. false) goes_on is_passed n spot f.news f.sent f.came asked asked.stand else life_lost speech (λ q. false) goes_on is_passed spot f.news f.sent asked asked.stand in
    if f.given_up then gives_up 1 spot n met else met

-- behind frames, one after the other
abbrev pub lives : ℕ → Life SoeMail (Asked SoeMail Client.Service) (Option Reply) → List LifeFrame → Life SoeMail (Asked SoeMail Client.Service) (Option Reply)
lives n l [] = l
lives n l (f ∷ fs) = lives (suc n) (behind n l f) fs

-- it begins with its bring-up
abbrev pub life_of : List LifeFrame → Life SoeMail (Asked SoeMail Client.Service) (Option Reply)
life_of fs = lives 0 (new_life 2) fs

-- nothing is asked of it
abbrev pub nothing : Pick (Asked SoeMail Client.Service)
nothing = record { begin = None; hold = true }

-- a service of its script is asked
abbrev pub asks : Asked SoeMail Client.Service → Pick (Asked SoeMail Client.Service)
asks q = record { begin = Some (Service.Mails q); hold = true }

-- an access of an opening that came back, a status, and a lost frame
abbrev pub access : Option Found → LifeFrame
access found = record { pick = nothing; came = Some (true, found); news = []; sent = []; fate = true; given_up = false }

-- a status that came back
abbrev pub status : ℕ → LifeFrame
status al = access (Some (Found.State al None))

-- a frame that was lost
abbrev pub lost : LifeFrame
lost = record { pick = nothing; came = None; news = []; sent = []; fate = false; given_up = false }

-- a mail in a mailbox
abbrev pub boxed : ℕ → SoeMail → LinkMail SoeMail
boxed counter m = record { counter = counter; body = m }

-- a datagram to a mailbox, as it came back
abbrev pub to_slave : Ask SoeMail → ℕ → Option (LinkMail SoeMail) → Datagram SoeMail
to_slave ask counter brought = record {
  gram = record { station = 5633; ask = ask; counter = counter; mail = brought; acknowledge = false };
  address = Address.Station 5633;
  access = Access.Elsewhere;
  counter = 0;
  found = None;
}

-- a write of mailbox 0 that was done
abbrev pub writes : Pick (Asked SoeMail Client.Service) → ℕ → SoeMail → LifeFrame
writes pick counter m =
    record { pick = pick; came = None; news = News.Told m ∷ News.Written ∷ []; sent = to_slave (Ask.WriteMail (boxed counter m)) 1 None ∷ []; fate = true; given_up = false }

-- what frames tell alone
abbrev pub tells : List (News SoeMail) → LifeFrame
tells news = record { pick = nothing; came = None; news = news; sent = []; fate = true; given_up = false }

-- FRAMES 0 TO 5: bring-up, whose first access is lost once
abbrev pub brought_up : List LifeFrame
brought_up = lost ∷ access None ∷ access None ∷ access None ∷ access None ∷ status 2 ∷ []

-- 6 TO 10: the first fragment of the long write is written; four frames with the next one are lost, and the slave is given up
abbrev pub cut_off : List LifeFrame
cut_off = brought_up ++ writes (asks long_write) 1 fragment ∷ lost ∷ lost ∷ lost ∷ record lost { given_up = true } ∷ []

-- 11 TO 19: the reopening, in nine accesses
abbrev pub reopened : List LifeFrame
reopened = cut_off ++ access None ∷ status 1 ∷ access None ∷ access None ∷ access None ∷ access None ∷ access None ∷ access None ∷ status 2 ∷ []

-- 20 TO 22: a fragment is passed on; mailbox 0 is seen empty, and then mailbox 1
abbrev pub passed_on : List LifeFrame
passed_on = reopened ++ writes (asks (Asked.Passed fragment false)) 1 fragment ∷ tells (News.BoxFull false ∷ []) ∷ tells (News.NothingRead ∷ []) ∷ []

-- 23 AND 24: the short write, and its answer
abbrev pub written : List LifeFrame
written =
    passed_on ++ writes (asks short_write) 2 short_mail
    ∷ record (tells (News.Heard answer ∷ [])) { sent = to_slave Ask.ReadMail 1 (Some (boxed 1 answer)) ∷ [] } ∷ []

-- a table of one IDN of up to 300 octets
abbrev pub table : Elements (List ℕ)
table = record { valid = λ s. true; read = λ s t. Ok s; write = λ s t bytes. if nat_le (length bytes) 300 then Ok bytes else Err 0x7002 }

-- the server behind the mail that was passed on and the short write, from one whose IDN has the octet 1
abbrev pub served : Server.Server (List ℕ)
served = ideal (soe_served table areas) (after (tagged (soe_served table areas)).serve (record { base = record { app = 1 ∷ []; handled = 0; join = None }; hand = None; part = []; count = 0 })
    (record { mail = fragment; meant = Meant.Alone false } ∷ told (Client.write target (7 ∷ [])) (short_mail ∷ [])))
