-- A call under way.
use Rattle.std.specs.Prelude.{◌≡◌, ◌≤◌, ◌⊎◌, ℕ, ◌+◌, ◌-◌, ◌*◌, ◌||◌, nat_le, is_some, Bool, true, false, List, [], ◌∷◌, ◌++◌, length, Option, Some, None, Result, Ok, Err}
use Rattle.gateway_core.specs.of_ec_outside.Faults.{Rose}
use Rattle.gateway_core.specs.of_ec_outside.Port.{HeardGram}
use Rattle.gateway_core.specs.of_ec_outside.declared.port.Peer.{Peer}
use Rattle.gateway_core.specs.of_ec_outside.declared.port.PortErr.{PortErr}
use Rattle.gateway_core.specs.Framing.{request_in}
use Rattle.gateway_core.specs.of_mailbox_mail.declared.mail.Mail.{Mail}
use Rattle.gateway_core.specs.of_mailbox_mail.declared.outcome.Took.{Took}
use Rattle.link_model.specs.Counters.{counter_of}
use Rattle.gateway_tool.specs.Rule.{Call, Standing, planned, ends, mail_in, mail_to, at_first, hears_all, are_awaited, gram_of, grams_of}
use Rattle.gateway_tool.specs.Told.{Told, Adds}
use Rattle.gateway_tool.specs.Client.{left, awaits, Takes}
use Rattle.gateway_tool.specs.declared.client.Client.{Client}
use Rattle.gateway_tool.specs.declared.talk.Talk.{Talk}

-- WHAT A TALK KEEPS of a call: behind these mails told, its client goes on as the service does behind the mails taken
pub record Stands (c : Call) (s : Standing) (told : List Mail) (t : Talk) : Type 0 where
  pub mails : (hs : List Mail) → told ++ left t.client hs ≡ planned c.areas c.service (s.taken ++ hs)
  pub replies : (hs : List Mail) → awaits t.client hs ≡ ends c.areas c.service (s.taken ++ hs)
  pub counter : t.counter ≡ counter_of (length told)
  pub taken : t.taken ≡ length s.taken
  pub passed : t.passed ≡ s.passed
  pub station : t.station ≡ c.station
  pub to : t.to ≡ c.to

-- the datagram of the next mail stands in the talk, if there is one
abbrev pub Lays : Bool → Call → Standing → List Mail → Talk → Type 0
Lays false c s told new = Stands c s told new
Lays true c s told new = (m : Mail) × Stands c s (told ++ m ∷ []) new × (new.gram.items ≡ (gram_of c (length told + 1) m).bytes)

-- the mail that was heard, where it is one of the station and has the counter of the last mail sent
abbrev pub heard_by : Talk → Option Mail
heard_by t = mail_to t.station t.counter (mail_in (request_in t.gram.items))

-- what it is to the client
abbrev pub HearsMail : Took → Option Mail → Client → Client → Type 0
HearsMail took None old new = (took ≡ Took.Foreign) × (new ≡ old)
HearsMail took (Some m) old new = Takes took old m new

-- how many datagrams were passed over since the last one taken, and how many were taken, behind one
abbrev pub passed_behind : Took → ℕ → ℕ
passed_behind Took.Foreign n = n + 1
passed_behind _ n = 0

-- how many were taken behind one
abbrev pub taken_behind : Took → ℕ → ℕ
taken_behind Took.Foreign n = n
taken_behind _ n = n + 1

-- whether a mail completed the reply
abbrev pub is_done : Took → Bool
is_done Took.Done = true
is_done _ = false

-- a call under way, by what its port told first and tells now: what was heard, each datagram awaited, and what was sent
pub record Goes (c : Call) (first now : Told) (t : Talk) : Type 0 where
  pub grams : List HeardGram
  pub told : List Mail
  pub awaited : are_awaited c at_first grams ≡ true
  pub stands : Stands c (hears_all c at_first grams) told t
  pub heard : Adds first.heard now.heard grams
  pub later : first.faults ≤ now.faults
  pub sent : Adds first.sent now.sent (grams_of c told)

-- the same, and the last mail wasn't sent
pub record Lacks (c : Call) (first now : Told) (t : Talk) : Type 0 where
  pub grams : List HeardGram
  pub told : List Mail
  pub last : Mail
  pub awaited : are_awaited c at_first grams ≡ true
  pub stands : Stands c (hears_all c at_first grams) (told ++ last ∷ []) t
  pub heard : Adds first.heard now.heard grams
  pub later : first.faults ≤ now.faults
  pub sent : Adds first.sent now.sent (grams_of c told)

-- a call behind a send: after a fault the last mail was sent or not, and where memory ran out it wasn't
abbrev pub SendsSo : Call → Told → Told → Talk → Result (Unit {0}) PortErr → Type 0
SendsSo c first now t (Ok done) = Goes c first now t
SendsSo c first now t (Err PortErr.Failed) = (Goes c first now t ⊎ Lacks c first now t) × Rose first.faults now.faults
SendsSo c first now t (Err PortErr.NoMemory) = Lacks c first now t

-- a call that has heard a datagram, which stands in the talk and isn't looked at yet
pub record HasHeard (c : Call) (first now : Told) (t : Talk) : Type 0 where
  pub grams : List HeardGram
  pub told : List Mail
  pub «from» : Peer
  pub awaited : are_awaited c at_first grams ≡ true
  pub stands : Stands c (hears_all c at_first grams) told t
  pub later : first.faults ≤ now.faults
  pub heard : Adds first.heard now.heard (grams ++ record { from = «from»; bytes = t.gram.items } ∷ [])
  pub sent : Adds first.sent now.sent (grams_of c told)

-- a call behind a wait
abbrev pub WaitsSo : Call → Told → Told → Talk → Result Bool PortErr → Type 0
WaitsSo c first now t (Ok true) = HasHeard c first now t
WaitsSo c first now t (Ok false) = Goes c first now t
WaitsSo c first now t (Err PortErr.Failed) = Goes c first now t × Rose first.faults now.faults
WaitsSo c first now t (Err PortErr.NoMemory) = Goes c first now t

-- the last acknowledgement: a fault of the port is passed by
abbrev pub forgiven : Result (Unit {0}) PortErr → Result (Unit {0}) PortErr
forgiven (Ok done) = Ok done
forgiven (Err PortErr.Failed) = Ok tt
forgiven (Err PortErr.NoMemory) = Err PortErr.NoMemory

-- a call behind the last acknowledgement: the reply stands where the port failed
abbrev pub EndsSo : Call → Told → Told → Talk → Result (Unit {0}) PortErr → Type 0
EndsSo c first now t (Ok done) = Goes c first now t ⊎ (Lacks c first now t × Rose first.faults now.faults)
EndsSo c first now t (Err fault) = Lacks c first now t

-- a call at its end
abbrev pub GoesSo : Call → Told → Told → Talk → Result Bool PortErr → Type 0
GoesSo c first now t (Ok true) = Goes c first now t ⊎ (Lacks c first now t × Rose first.faults now.faults)
GoesSo c first now t (Ok false) = Goes c first now t
GoesSo c first now t (Err PortErr.Failed) = (Goes c first now t ⊎ Lacks c first now t) × Rose first.faults now.faults
GoesSo c first now t (Err PortErr.NoMemory) = Goes c first now t ⊎ Lacks c first now t

-- as many datagrams were passed over in a row, or taken, as may be
abbrev pub is_worn : Talk → Bool
is_worn t = nat_le 65536 t.passed || nat_le 65536 t.taken

-- no mail is left to send, but where too many datagrams were taken
abbrev pub Rests : Talk → Result Bool PortErr → Type 0
Rests t (Ok false) = (left t.client [] ≡ []) ⊎ (65536 ≤ t.taken)
Rests t _ = left t.client [] ≡ []

-- the reply is complete, or isn't
abbrev pub Replies : Client → Result Bool PortErr → Type 0
Replies client (Ok true) = is_some (awaits client []) ≡ true
Replies client (Ok false) = awaits client [] ≡ None
Replies client (Err PortErr.Failed) = awaits client [] ≡ None
Replies client (Err PortErr.NoMemory) = Unit {0}

-- whether the port is over is as before but where that ended the call
abbrev pub Stops : Talk → Bool → Bool → Result Bool PortErr → Type 0
Stops t was over (Ok true) = over ≡ was
Stops t was over (Ok false) = ((over ≡ true) × (is_worn t ≡ false)) ⊎ ((over ≡ was) × (is_worn t ≡ true))
Stops t was over (Err PortErr.Failed) = (over ≡ was) × (is_worn t ≡ false)
Stops t was over (Err PortErr.NoMemory) = Unit {0}

-- how many datagrams may be heard yet, at most
abbrev pub most_left : Talk → ℕ
most_left t = (65536 - t.taken) * 65537 + (65536 - t.passed)
