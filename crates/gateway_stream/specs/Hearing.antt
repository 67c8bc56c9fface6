-- What a port hears on a stream of octets.
use Rattle.std.specs.Prelude.{◌≡◌, ℕ, ◌+◌, ◌≤◌, ◌⊎◌, ◌&&◌, Bool, true, false, not, if◌then◌else◌, List, map, Option, Some, None, Result, Ok, Err, is_none}
use Rattle.std.specs.Str.{bytes_eq}
use Rattle.ec_links.specs.of_ec_outside.Port.{HeardGram}
use Rattle.ec_links.specs.of_ec_outside.declared.port.Heard.{Heard}
use Rattle.ec_links.specs.of_ec_outside.declared.port.Heard.TheVariants.{Quiet}
use Rattle.ec_links.specs.of_ec_outside.declared.port.PortErr.{PortErr}
use Rattle.ec_links.specs.of_ec_outside.declared.port.PortErr.TheVariants as port_errors
use Rattle.ec_links.specs.declared.link.Asked.{Asked}
use Rattle.ec_links.specs.declared.link.LinkErr.{LinkErr}
use Rattle.ec_links.specs.declared.link.LinkErr.TheVariants as link_errors
use Rattle.ec_links.specs.declared.link.Piece.{Piece}
use Rattle.ec_links.specs.Link.{Puts, asked_more, is_quiet}
use Rattle.gateway_stream.specs.Cutting.{missing, requests_of, behind_of}

-- a request of the one peer of a stream, 127.0.0.1, as a port hears it
abbrev pub heard_as : List ℕ → HeardGram
heard_as octets = record { from = record { ip = 2130706433; port = 0 }; bytes = octets }

-- what is heard of the octets given, where they are told and the octets that are kept are those behind their requests
abbrev pub heard_of : Option (List ℕ) → List ℕ → Option (List HeardGram)
heard_of None kept = None
heard_of (Some octets) kept = if bytes_eq (behind_of octets) kept then Some (map heard_as (requests_of octets)) else None

-- a header that is no request's stands at the front
abbrev pub is_broken : List ℕ → Bool
is_broken octets = is_none (missing octets)

-- the requests in the octets given, where those are told
abbrev pub heard_in : Option (List ℕ) → Option (List HeardGram)
heard_in None = None
heard_in (Some octets) = Some (map heard_as (requests_of octets))

-- the error of a port over a link's
abbrev pub error_of : LinkErr → PortErr
error_of link_errors.Failed = port_errors.Failed
error_of link_errors.NoMemory = port_errors.NoMemory

-- what a turn answers: nothing for now where more of the next request may come
abbrev pub answer_of : Option (Result Heard PortErr) → Result Heard PortErr
answer_of None = Ok Quiet
answer_of (Some answer) = answer

-- whether a port answered that nothing is there for now
abbrev pub hears_nothing : Result Heard PortErr → Bool
hears_nothing (Ok Quiet) = true
hears_nothing _ = false

-- whether a turn did
abbrev pub turns_quiet : Option (Result Heard PortErr) → Bool
turns_quiet None = false
turns_quiet (Some answer) = hears_nothing answer

-- HOW A TURN ASKED ITS LINK: once, and it is quiet exactly where the link was; or not at all, where a header that is no request's stands at the front
pub data TurnsTo (old new : Option Asked) (broken : Bool) (turn : Option (Result Heard PortErr)) : Type 0 where
  asked : (answer : Result Piece LinkErr) → broken ≡ false → new ≡ asked_more answer old → turns_quiet turn ≡ is_quiet answer → TurnsTo old new broken turn
  unasked : broken ≡ true → new ≡ old → turns_quiet turn ≡ false → TurnsTo old new broken turn

-- how a call that listens asked its link: no more often than a datagram has octets; and it is quiet exactly where the link was asked and answered so last
pub record AsksSo (broken : Bool) (answer : Result Heard PortErr) (old new : Asked) : Type 0 where
  pub few : new.count ≤ old.count + 2048
  pub quiet : hears_nothing answer ≡ (not broken && new.quiet)

-- the same, where the link tells it
abbrev pub AsksLink : Option Asked → Option Asked → Bool → Result Heard PortErr → Type 0
AsksLink None new broken answer = new ≡ None
AsksLink (Some old) new broken answer = (now : Asked) × (new ≡ Some now) × AsksSo broken answer old now

-- what a port that sends puts into its link, where that tells what was put; after a fault a prefix was
abbrev pub PutsBytes : Option (List ℕ) → Option (List ℕ) → List ℕ → Result (Unit {0}) PortErr → Type 0
PutsBytes sent sent' octets (Ok done) = Puts sent sent' octets (Ok done)
PutsBytes sent sent' octets (Err port_errors.Failed) = Puts sent sent' octets (Err link_errors.Failed)
PutsBytes sent sent' octets (Err port_errors.NoMemory) = Puts sent sent' octets (Err link_errors.NoMemory)
