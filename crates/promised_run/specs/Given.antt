-- WHAT EACH DATAGRAM OF A SERVING GOT, by what the servers of the slaves give for its mail.
use Rattle.std.specs.Prelude.{◌≡◌, ℕ, zero, suc, Bool, true, false, Option, Some, None, List, [], ◌∷◌, slice_get, Ok}
use Rattle.run_promises.specs.of_exchange_model.Prefix.{IsPrefixOf}
use Rattle.gateway_run.specs.of_gateway_core.Framing.{request_in}
use Rattle.gateway_run.specs.Replies.{IsSame, dones_of, mails_told}
use Rattle.gateway_run.specs.Rooms.{owed_for}
use Rattle.gateway_run.specs.Served.{HasAccount}
use Rattle.gateway_run.specs.Since.{GaveSince, NoneSince}
use Rattle.gateway_run.specs.of_mailbox_mail.Mail.{error_of}
use Rattle.gateway_run.specs.of_mailbox_mail.declared.mail.Mail.{Mail}
use Rattle.run_promises.specs.of_master_node.Wants.{gave_of}
use Rattle.gateway_run.specs.of_run_book.declared.book.Book.{Book}
use Rattle.gateway_run.specs.of_run_book.declared.book.Ending.{Ending}
use Rattle.gateway_run.specs.of_run_book.declared.book.GramIn.{GramIn}
use Rattle.run_promises.specs.of_master_tour.Made.{is_in}
use Rattle.gateway_run.specs.of_run_record.Replay.{first_ring, ring_after}
use Rattle.run_promises.specs.of_run_work.Lives.{first_server}
use Rattle.run_promises.specs.of_segment_model.Ends.{Passing}
use Rattle.run_promises.specs.of_segment_plan.declared.plan.Scenario.{Scenario}
use Rattle.run_promises.specs.of_segment_plan.declared.slave.SlaveSpec.{SlaveSpec}
use Rattle.seen_slaves.specs.of_served_places.Rows.{passings}
use Rattle.seen_slaves.specs.of_served_rings.Given.{Given, given}
use Rattle.seen_slaves.specs.of_served_rings.Served.{AllServeSo, replies_to}
use Rattle.run_promises.specs.of_life_runs.Served.{Serves}
use Rattle.run_promises.specs.of_slave_server.Serving.{Serving}
use Rattle.run_promises.specs.of_slave_server.Spec.{profile_of}
use Rattle.run_promises.specs.of_slave_node.Node.{Node}
use Rattle.promised_run.specs.Stood.{StoodBehind}

-- the mails that a slave's server gives for a mail in its one step, as they are told
abbrev pub mails_given : SlaveSpec → Given → List Mail
mails_given s step = mails_told (replies_to (profile_of s) s.boot s.station step.server step.mail)

-- ITS MAIL CAME INTO HAND: it is the one at its place among those that came to the slave's server; what was owed for it are the first of the mails of the one step
-- that this server takes for it, in order, and all of them where it is done, or is over by how far each of them has come in the life
pub record IsStepOf (s : SlaveSpec) (steps : List Given) (reached : List (Option Passing)) (came : List ℕ) (number : ℕ) (asked : Mail) (done : Bool) (mails : List Mail) : Type 0 where
  pub index : ℕ
  pub its : slice_get came index ≡ Some number
  pub step : Given
  pub is : slice_get steps index ≡ Some step
  pub same : IsSame asked step.mail
  pub first : IsPrefixOf mails (mails_given s step)
  pub all : done ≡ true → mails ≡ mails_given s step
  pub over : slice_get reached index ≡ Some None → mails ≡ mails_given s step

-- WHAT A DATAGRAM GOT that was queued at a slave, heard before this frame, by the frames at which the slave was given up: nothing while its mail waits, which didn't
-- come into hand yet, where it wasn't given up since; error 5 where it was, and the mail never came into hand; or what its slave's server gives for it
pub data IsGivenTo (s : SlaveSpec) (steps : List Given) (reached : List (Option Passing)) (gave came : List ℕ) (number heard : ℕ) (asked : Mail) (done : Bool) (mails : List Mail) : Type 0 where
  waits : done ≡ false → is_in number came ≡ false → NoneSince heard gave → mails ≡ [] → IsGivenTo s steps reached gave came number heard asked done mails
  dropped : done ≡ false → is_in number came ≡ false → GaveSince heard gave → mails ≡ error_of 5 ∷ [] → IsGivenTo s steps reached gave came number heard asked done mails
  takes : IsStepOf s steps reached came number asked done mails → IsGivenTo s steps reached gave came number heard asked done mails

-- of one that was queued at the slave at this place, by what the slaves did
abbrev pub IsGivenAt : (ss : List SlaveSpec) (ws : List Serves) (ns : List (Node Serving)) → AllServeSo ss ws ns → List (List ℕ) → ℕ → ℕ → ℕ → Mail → Bool → List Mail → Type 0
IsGivenAt [] ws ns d cames place number heard asked done mails = ⊥
IsGivenAt (s ∷ ss) [] ns d cames place number heard asked done mails = ⊥
IsGivenAt (s ∷ ss) (w ∷ ws) [] d cames place number heard asked done mails = ⊥
IsGivenAt (s ∷ ss) (w ∷ ws) (n ∷ ns) d [] place number heard asked done mails = ⊥
IsGivenAt (s ∷ ss) (w ∷ ws) (n ∷ ns) d (came ∷ cames) zero number heard asked done mails =
    IsGivenTo s (given (profile_of s) s.boot s.station s.start (first_server s) w.lead.lived.life n d.0) (passings w.lead.lived.life) (gave_of w.lead) came number heard asked done mails
IsGivenAt (s ∷ ss) (w ∷ ws) (n ∷ ns) d (came ∷ cames) (suc place) number heard asked done mails = IsGivenAt ss ws ns d.1 cames place number heard asked done mails

-- EACH DATAGRAM THAT WAS QUEUED AT A SLAVE got what that gives for its mail, by the lives that the frames of the book lead, which the slaves of the ring behind all
-- of them served
pub record IsGiven (plan : Scenario) (count : ℕ) (book : Book) (ending : Ending) (a : HasAccount plan count book ending) : Type 0 where
  pub served : StoodBehind plan book.frames a.answers.serving.leading.serves
  pub each : (number : ℕ) (g : GramIn) (slave : ℕ) → slice_get book.grams number ≡ Some g → g.queued ≡ Some slave →
      (asked : Mail) × (request_in g.bytes ≡ Ok asked)
      × IsGivenAt plan.slaves a.answers.serving.leading.serves (ring_after (first_ring plan) book.frames).nodes served.each a.answers.came slave number g.frame asked
      (is_in number (dones_of plan count a.session book.frames book.grams a.requests a.owed a.course)) (owed_for number a.owed)

-- by each account of the book
abbrev pub IsServedGiven : Scenario → ℕ → Book → Type 0
IsServedGiven plan count book = (ending : Ending) (a : HasAccount plan count book ending) → IsGiven plan count book ending a
