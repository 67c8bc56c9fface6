-- What the master's hand shows of the newest row of a slave.
use Rattle.std.specs.Prelude.{◌≡◌, ◌&&◌, Bool, true, false, is_some, is_none, [], Option, None}
use Rattle.foe_client.specs.of_exchange_model.Exchange.{Speech}
use Rattle.foe_client.specs.of_exchange_model.Rows.{Row}
use Rattle.master_side.specs.of_link_mails.Body.{Body}
use Rattle.eoe_client.specs.of_mailbox_mail.declared.outcome.Took.{Took}
use Rattle.master_side.specs.of_master_duty.Reply.{Reply}
use Rattle.master_side.specs.declared.hand.Heard.{Heard}
use Rattle.master_hand.specs.Spoken.{Asked, hand_speech}
use Rattle.master_hand.specs.Grips.{Going, Hearing, HasIt}
use Rattle.master_hand.specs.Talk.{Talking, IsOf, is_mail, client_later, client_awaits}
use Rattle.master_hand.specs.declared.course.Course.{Course}
use Rattle.master_hand.specs.declared.clients.Which.{Which}

-- the newest row of a slave, as its hand shows it
abbrev pub HandShows : Course → Which → Talking → Option (Row Body Asked Reply) → Type 0
HandShows Course.Nothing which c now = now ≡ None
HandShows Course.Goes which c now = Going (hand_speech c.areas) (IsOf which) (client_later which c) (client_awaits which c) false now
HandShows Course.Answered which c now = Going (hand_speech c.areas) (IsOf which) (client_later which c) (client_awaits which c) true now
HandShows Course.Mute which c now = Hearing (hand_speech c.areas) (IsOf which) (client_awaits which c) false now
HandShows Course.Closed which c now = HasIt (IsOf which) (client_awaits which c []) now
HandShows Course.Astray which c now = Hearing (hand_speech c.areas) (IsOf which) (λ hs. None) false now

-- WHAT A HAND SHOWS, of the speech of its slave
abbrev pub Shows : Course → Which → Talking → Speech Body Asked Reply → Option (Row Body Asked Reply) → Type 0
Shows course which c x now = (x ≡ hand_speech c.areas) × HandShows course which c now

-- the newest service is a mail that is passed on
abbrev pub is_passing : Course → Which → Bool
is_passing Course.Nothing which = false
is_passing Course.Goes which = is_mail which
is_passing Course.Answered which = is_mail which
is_passing Course.Mute which = is_mail which
is_passing Course.Closed which = is_mail which
is_passing Course.Astray which = is_mail which

-- the reply of a service that is answered is there
abbrev pub is_answered : Course → Which → Talking → Bool
is_answered Course.Answered which c = is_some (client_awaits which c [])
is_answered Course.Closed which c = is_some (client_awaits which c [])
is_answered _ which c = true

-- how far the newest service has come behind a mail that replies, by whether mails of its own were left
abbrev pub course_behind : Bool → Took → Course
course_behind false Took.More = Course.Goes
course_behind false Took.Done = Course.Answered
course_behind true Took.More = Course.Mute
course_behind true Took.Done = Course.Closed
course_behind left Took.Foreign = Course.Astray

-- a hand knows which mails are left of the newest service: no reply came that was not due
abbrev pub knows : Course → Bool
knows Course.Nothing = true
knows Course.Goes = true
knows Course.Answered = true
knows Course.Mute = false
knows Course.Closed = false
knows Course.Astray = false

-- the reply of the newest service is there
abbrev pub has_reply : Course → Bool
has_reply Course.Answered = true
has_reply Course.Closed = true
has_reply _ = false

-- a reply of the newest service may still come
abbrev pub is_awaiting : Course → Bool
is_awaiting Course.Goes = true
is_awaiting Course.Mute = true
is_awaiting _ = false

-- what a mail that replies is to the newest service
abbrev pub heard_as : Took → Heard
heard_as Took.More = Heard.More
heard_as Took.Done = Heard.Last
heard_as Took.Foreign = Heard.Foreign

-- the newest service is a mail that is passed on, and its last reply was not heard yet
abbrev pub awaits_reply : Course → Which → Talking → Bool
awaits_reply course which c = is_awaiting course && (is_mail which && is_none (client_awaits which c []))

-- the same service in hand
pub record SameHand (course : Course) (which : Which) (c : Talking) (course' : Course) (which' : Which) (c' : Talking) : Type 0 where
  pub course_is : course' ≡ course
  pub which_is : which' ≡ which
  pub clients_are : c' ≡ c
