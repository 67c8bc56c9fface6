-- The steps of a run as events of the link.
use Rattle.std.specs.Prelude.{ℕ, ◌+◌, ◌≤◌, List, [], ◌∷◌, ◌++◌, map, length, Ok, ⊤}
use Rattle.mailbox_master.specs.of_mailbox_mail.declared.mail.Mail.{Mail}
use Rattle.mailbox_master.specs.of_link_model.Link.{Fate, Event, Link, run, new_link}
use Rattle.mailbox_master.specs.of_link_mails.Body.{Body, uncounted}
use Rattle.mailbox_law.specs.Waiting.{keeper}
use Rattle.mailbox_law.specs.declared.steps.LinkFate.{LinkFate}
use Rattle.mailbox_law.specs.declared.steps.LinkFate.TheVariants.{Pass, LostBefore, LostBehind}
use Rattle.mailbox_law.specs.declared.steps.LinkStep.{LinkStep}
use Rattle.mailbox_law.specs.declared.steps.LinkStep.TheVariants.{Hold, Give, Out, In, Pdi}

-- what becomes of a datagram, as an event of the link
abbrev pub fate_of : LinkFate → Fate
fate_of Pass = Fate.Pass
fate_of LostBefore = Fate.LostBefore
fate_of LostBehind = Fate.LostBehind

-- a mail given waits behind the others
abbrev pub given_too : Mail → List Body → List Body
given_too m waiting = waiting ++ (Ok (uncounted m) ∷ [])

-- the event of the link that a step is
abbrev pub event_of : LinkStep → Event Body (List Body)
event_of (Hold m) = Event.Hold (Ok (uncounted m))
event_of (Give m) = Event.Change (given_too m)
event_of (Out fate) = Event.Out (fate_of fate)
event_of (In fate) = Event.In (fate_of fate)
event_of Pdi = Event.Pdi

-- the mail that a step gives
abbrev pub given_by : LinkStep → List Body
given_by (Hold m) = []
given_by (Give m) = Ok (uncounted m) ∷ []
given_by (Out fate) = []
given_by (In fate) = []
given_by Pdi = []

-- the mails of `Give`, in order
abbrev pub given : List LinkStep → List Body
given [] = []
given (s ∷ ss) = given_by s ++ given ss

-- the link at the end of bring-up, where nothing waits
abbrev pub first_link : Link Body (List Body)
first_link = new_link []

-- the link behind these steps, from the end of bring-up on
abbrev pub link_behind : List LinkStep → Link Body (List Body)
link_behind steps = run keeper first_link (map event_of steps)

-- each mail fits its area
abbrev pub FitsLink : ℕ → ℕ → LinkStep → Type 0
FitsLink out_len in_len (Hold m) = 6 + length m.body.items ≤ out_len
FitsLink out_len in_len (Give m) = 6 + length m.body.items ≤ in_len
FitsLink out_len in_len (Out fate) = ⊤
FitsLink out_len in_len (In fate) = ⊤
FitsLink out_len in_len Pdi = ⊤
