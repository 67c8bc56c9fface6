-- What a half has become by an answer, and what a read of mailbox 1 gave.
use Rattle.std.specs.Prelude.{ℕ, ◌==◌, Bool, true, false, if◌then◌else◌, List, [], ◌∷◌, Result, Ok, Err}
use Rattle.link_mails.specs.of_mailbox_mail.declared.mail.Mail.{Mail}
use Rattle.link_mails.specs.of_mailbox_mail.declared.mail.MailFault.{MailFault}
use Rattle.link_mails.specs.of_link_model.Master.{OutHalf, InHalf, InState}
use Rattle.link_mails.specs.Body.{Body, uncounted}
use Rattle.link_mails.specs.of_link_model.Counters.{repeats}
use Rattle.mailbox_master.specs.Halves.{idle_half, holding_half, in_half, SameOut, SameIn}
use Rattle.mailbox_master.specs.Links.{OutLink, InLink}
use Rattle.mailbox_master.specs.declared.outward.OutNext.{OutNext}
use Rattle.mailbox_master.specs.declared.outward.OutNext.TheVariants.{Taken, Full}
use Rattle.mailbox_master.specs.declared.inward.DoubtNext.{DoubtNext}
use Rattle.mailbox_master.specs.declared.inward.DoubtNext.TheVariants.{Still as StillDoubt, Next as NowAsked}
use Rattle.mailbox_master.specs.declared.inward.AskedNext.{AskedNext}
use Rattle.mailbox_master.specs.declared.inward.AskedNext.TheVariants.{Still as StillAsked, Next as NowRefetch}
use Rattle.mailbox_master.specs.declared.inward.Got.{Got}
use Rattle.mailbox_master.specs.declared.inward.Got.TheVariants.{Mail as GotMail, Repeat, Empty, Bad}

-- the outward half behind a returned write
abbrev pub out_next_half : OutNext → OutHalf Body
out_next_half (Taken o) = idle_half o
out_next_half (Full o) = holding_half o

-- mailbox 0 was full
abbrev pub is_full : OutNext → Bool
is_full (Taken o) = false
is_full (Full o) = true

-- station and length stay
abbrev pub SameOutNext : {S : Type 0} → OutLink S → OutNext → Type 0
SameOutNext o (Taken p) = SameOut o p
SameOutNext o (Full p) = SameOut o p

-- the inward half behind the returned write of its repeat request
abbrev pub doubt_next_half : DoubtNext → InHalf
doubt_next_half (StillDoubt i) = in_half InState.Doubt i
doubt_next_half (NowAsked i) = in_half InState.Asked i

-- the write was not done
abbrev pub is_still_doubt : DoubtNext → Bool
is_still_doubt (StillDoubt i) = true
is_still_doubt (NowAsked i) = false

-- station and length stay
abbrev pub SameDoubtNext : {S : Type 0} → InLink S → DoubtNext → Type 0
SameDoubtNext i (StillDoubt j) = SameIn i j
SameDoubtNext i (NowAsked j) = SameIn i j

-- the inward half behind the returned read of the acknowledge
abbrev pub asked_next_half : AskedNext → InHalf
asked_next_half (StillAsked i) = in_half InState.Asked i
asked_next_half (NowRefetch i) = in_half InState.Refetch i

-- the read was not done, or the request is not acknowledged yet
abbrev pub is_still_asked : AskedNext → Bool
is_still_asked (StillAsked i) = true
is_still_asked (NowRefetch i) = false

-- station and length stay
abbrev pub SameAskedNext : {S : Type 0} → InLink S → AskedNext → Type 0
SameAskedNext i (StillAsked j) = SameIn i j
SameAskedNext i (NowRefetch j) = SameIn i j

-- what an area that was read gave, behind a last accepted mail with this counter
abbrev pub got_of : ℕ → Result Mail MailFault → Got
got_of last (Err fault) = Bad fault
got_of last (Ok m) = if repeats last m.counter then Repeat else GotMail m

-- what a returned read of mailbox 1 gave: nothing where its working counter is 0
abbrev pub got_by : ℕ → ℕ → Result Mail MailFault → Got
got_by last counter area = if counter == 0 then Empty else got_of last area

-- the bodies accepted by it
abbrev pub accepted_by : Got → List Body
accepted_by (GotMail m) = Ok (uncounted m) ∷ []
accepted_by Repeat = []
accepted_by Empty = []
accepted_by (Bad fault) = []
