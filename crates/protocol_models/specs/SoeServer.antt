-- An SoE server (ETG.1000.6, "SoE"): what it does with one mail.
use Rattle.std.specs.Prelude.{ℕ, suc, ◌==◌, ◌&&◌, Bool, true, false, List, [], ◌∷◌, ◌++◌, take, if◌then◌else◌, Option, None, Some, Result, Ok, Err}
use Rattle.protocol_models.specs.Elements.{Target, Elements}
use Rattle.protocol_models.specs.SoeMails.{Soe, SoeFault, Short, Opcode, Incomplete, SoeMail, mail, unread, failed, other, message, refusal, fragments_of}

-- fragments of one opcode, drive and element flags that came, up to now
pub record Join : Type 0 where
  pub opcode : ℕ
  pub drive : ℕ
  pub elements : ℕ
  pub octets : List ℕ

-- the most octets that a join keeps
abbrev pub most : ℕ
most = 16384

-- what a server does with one mail: the table and the join behind it, whether a service was carried out, and its answers
pub record Outcome (S : Type 0) : Type 0 where
  pub app : S
  pub join : Option Join
  pub counts : Bool
  pub answers : List SoeMail

-- a mail that counts, with its answers
abbrev pub answered : {S : Type 0} → S → Option Join → List SoeMail → Outcome S
answered app join answers = record { app = app; join = join; counts = true; answers = answers }

-- a mail that doesn't, and gets none
abbrev pub silent : {S : Type 0} → S → Option Join → Outcome S
silent app join = record { app = app; join = join; counts = false; answers = [] }

-- whether a message goes on with a join: it has its opcode, its drive and its element flags
abbrev pub goes_on : Join → Soe → Bool
goes_on j s = j.opcode == s.opcode && j.drive == s.drive && j.elements == s.elements

-- the octets that came ahead of a message; one that doesn't go on with the join starts anew
abbrev pub ahead : Option Join → Soe → List ℕ
ahead None s = []
ahead (Some j) s = if goes_on j s then j.octets else []

-- with its own octets: the first of them that a join keeps
abbrev pub gathered : Option Join → Soe → List ℕ
gathered join s = take most (ahead join s ++ s.bytes.items)

-- the join behind a fragment
abbrev pub joined : Option Join → Soe → Join
joined join s = record { opcode = s.opcode; drive = s.drive; elements = s.elements; octets = gathered join s }

-- what a message without the incomplete bit is about
abbrev pub target_of : Soe → Target
target_of s = record { drive = s.drive; idn = s.field; elements = s.elements }

-- an element in fragments, or a refusal; room is the length of the mailbox for answers
abbrev pub asked : {S : Type 0} → ℕ → S → Target → Result (List ℕ) ℕ → Outcome S
asked room app t (Ok bytes) = answered app None (fragments_of room 2 t bytes)
asked room app t (Err code) = answered app None (mail (refusal 2 t code) ∷ [])

-- a write's answer has no octets
abbrev pub written : {S : Type 0} → S → Target → Result S ℕ → Outcome S
written app t (Ok changed) = answered changed None (mail (message 4 false t t.idn []) ∷ [])
written app t (Err code) = answered app None (mail (refusal 4 t code) ∷ [])

-- a message that is complete ends the join; an answer is none of a server's
abbrev pub takes_whole : {S : Type 0} → Elements S → ℕ → S → Option Join → Soe → Outcome S
takes_whole o room app join s =
    if s.opcode == 1 then asked room app (target_of s) (o.read app (target_of s))
    else if s.opcode == 3 then written app (target_of s) (o.write app (target_of s) (gathered join s))
    else answered app None (failed 4 ∷ [])

-- a message: a fragment joins, a whole one is asked, written or refused
abbrev pub soe_takes : {S : Type 0} → Elements S → ℕ → S → Option Join → Soe → Outcome S
soe_takes o room app join s = if s.incomplete then silent app (Some (joined join s)) else takes_whole o room app join s

-- a mail that does not read leaves the join. With the incomplete bit it gets no answer; a short one is answered by mailbox error 6, an unknown
-- opcode by 4
abbrev pub takes_unread : {S : Type 0} → S → Option Join → SoeFault → Bool → Outcome S
takes_unread app join Short incomplete = answered app join (failed 6 ∷ [])
takes_unread app join Opcode incomplete = if incomplete then silent app join else answered app join (failed 4 ∷ [])
takes_unread app join Incomplete incomplete = silent app join

-- any mail. A mailbox error and a mail of another protocol are none of a server's
abbrev pub soe_outcome : {S : Type 0} → Elements S → ℕ → S → Option Join → SoeMail → Outcome S
soe_outcome o room app join (mail s) = soe_takes o room app join s
soe_outcome o room app join (unread fault incomplete) = takes_unread app join fault incomplete
soe_outcome o room app join (failed detail) = silent app join
soe_outcome o room app join (other body) = silent app join

-- a server, with the number of services that it has carried out
pub record Server (S : Type 0) : Type 0 where
  pub app : S
  pub handled : ℕ
  pub join : Option Join

-- a mail that counts is one more
abbrev pub one_more : Bool → ℕ → ℕ
one_more true n = suc n
one_more false n = n

-- the server behind such an outcome, and what it gives
abbrev pub behind : {S : Type 0} → ℕ → Outcome S → Server S × List SoeMail
behind handled x = (record { app = x.app; handled = one_more x.counts handled; join = x.join }, x.answers)

-- one mail taken: the server behind it, and what it gives
abbrev pub serve : {S : Type 0} → Elements S → ℕ → Server S → SoeMail → Server S × List SoeMail
serve o room v m = behind v.handled (soe_outcome o room v.app v.join m)
