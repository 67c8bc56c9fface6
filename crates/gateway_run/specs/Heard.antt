-- The datagrams of a serving, heard and sent.
use Rattle.std.specs.Prelude.{◌≡◌, ℕ, ◌⊎◌, ◌+◌, ◌<◌, ◌≤◌, true, List, [], ◌∷◌, ◌++◌, length, map, slice_get, Option, Some, None, Ok}
use Rattle.gateway_core.specs.of_ec_outside.Port.{HeardGram}
use Rattle.gateway_core.specs.of_ec_outside.declared.port.SentGram.{SentGram}
use Rattle.gateway_core.specs.of_mailbox_mail.declared.mail.Mail.{Mail}
use Rattle.gateway_core.specs.Framing.{request_in, gram_text}
use Rattle.gateway_core.specs.Gateway.{is_passed}
use Rattle.run_record.specs.of_run_book.declared.book.GramIn.{GramIn}
use Rattle.run_record.specs.of_run_book.declared.book.GramOut.{GramOut}

-- a datagram of a book as a port tells that it was heard
abbrev pub heard_as : GramIn → HeardGram
heard_as g = record { from = g.peer; bytes = g.bytes }

-- a datagram of a book as a port tells that it was sent
abbrev pub sent_as : GramOut → SentGram
sent_as r = record { to = r.peer; bytes = r.bytes }

-- what a port heard besides, where it tells it: these datagrams, in order
abbrev pub AreHeard : Option (List HeardGram) → Option (List HeardGram) → List GramIn → Type 0
AreHeard None new grams = Unit {0}
AreHeard (Some old) new grams = new ≡ Some (old ++ map heard_as grams)

-- what a port sent besides, where it tells it: these datagrams, in order
abbrev pub AreSent : Option (List SentGram) → Option (List SentGram) → List GramOut → Type 0
AreSent None new replies = Unit {0}
AreSent (Some old) new replies = new ≡ Some (old ++ map sent_as replies)

-- the same, where the last of them was sent or not
abbrev pub AreSentBut : Option (List SentGram) → Option (List SentGram) → List GramOut → Type 0
AreSentBut old new replies =
    AreSent old new replies ⊎ ((earlier : List GramOut) × (last : GramOut) × (replies ≡ earlier ++ last ∷ []) × AreSent old new earlier)

-- ONLY WHAT CAME LAST MAY LACK: all of them were sent, and no more is owed besides than came of what was heard since the last frame; or, with the last of them, which was
-- sent or not, no more than came last
abbrev pub LacksLast : Option (List SentGram) → Option (List SentGram) → List GramOut → ℕ → ℕ → ℕ → Type 0
LacksLast old new replies besides heard latest = (AreSent old new replies × (besides ≤ heard)) ⊎ (besides < latest)

-- A REPLY GOES TO ITS OWN ASKER: to the peer of the datagram that it answers, as a mail with that datagram's station and counter
pub record IsOwed (heard : List HeardGram) (r : GramOut) : Type 0 where
  pub gram : HeardGram
  pub asked : Mail
  pub mail : Mail
  pub answers : slice_get heard r.gram ≡ Some gram
  pub request : request_in gram.bytes ≡ Ok asked
  pub peer : r.peer ≡ gram.from
  pub text : r.bytes ≡ gram_text (record mail { address = asked.address; counter = asked.counter })

-- A MAIL THAT WAS PASSED ON is one of CoE, FoE or SoE for the station of that slave, and fits its mailbox
pub record IsPassedOn (homes : List (ℕ × ℕ)) (octets : List ℕ) (slave : ℕ) : Type 0 where
  pub mail : Mail
  pub len : ℕ
  pub request : request_in octets ≡ Ok mail
  pub home : slice_get homes slave ≡ Some (mail.address, len)
  pub passed : is_passed mail.kind ≡ true
  pub fits : 6 + length mail.body.items ≤ len

-- what the book says of a datagram that was passed on
abbrev pub IsJudged : List (ℕ × ℕ) → List ℕ → Option ℕ → Type 0
IsJudged homes octets None = Unit {0}
IsJudged homes octets (Some slave) = IsPassedOn homes octets slave

-- so it is with what the book says of each datagram
abbrev pub IsRightly : List (ℕ × ℕ) → GramIn → Type 0
IsRightly homes g = IsJudged homes g.bytes g.queued
