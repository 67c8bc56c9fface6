-- What a serving still owes its peers.
use Rattle.std.specs.Prelude.{◌≡◌, ◌≢◌, ◌<◌, ◌≤◌, ◌+◌, ℕ, true, false, if◌then◌else◌, List, [], ◌∷◌, ◌++◌, length, map, slice_get, Option, Some, None, Ok, All}
use Rattle.slab.specs.Slab.{Slab, get, slab_len}
use Rattle.gateway_core.specs.of_ec_outside.Port.{HeardGram}
use Rattle.gateway_core.specs.of_mailbox_mail.Mail.{error_of}
use Rattle.gateway_core.specs.of_mailbox_mail.declared.mail.Mail.{Mail}
use Rattle.gateway_core.specs.Framing.{request_in}
use Rattle.gateway_core.specs.declared.asker.Asker.{Asker}
use Rattle.run_record.specs.of_master_node.declared.event.Event.{Event}
use Rattle.run_record.specs.Served.{ServingAsks}
use Rattle.run_record.specs.Session.{SessionState, Asks, IsDone, has_live}
use Rattle.gateway_core.specs.of_ec_outside.declared.port.Peer.{Peer}
use Rattle.run_record.specs.of_run_book.declared.book.Book.{Book}
use Rattle.run_record.specs.of_run_book.declared.book.GramIn.{GramIn}
use Rattle.run_record.specs.of_run_book.declared.book.GramOut.{GramOut}
use Rattle.gateway_run.specs.Account.{Owing, Judges, AreSpelled, IsFree, WasHeardAt, owing, left_by_all, owed_by_all}
use Rattle.gateway_run.specs.Heard.{heard_as, IsOwed, IsRightly}
use Rattle.gateway_run.specs.declared.desk.Request.{Request}
use Rattle.gateway_run.specs.declared.desk.Desk.{Desk}

-- a request that isn't finished: the gateway has under its key who asked by its datagram
pub record IsOpen (requests : Slab Asker) (heard : List HeardGram) (r : Request) : Type 0 where
  pub asker : Asker
  pub gram : HeardGram
  pub mail : Mail
  pub stands : get requests r.key ≡ Some asker
  pub answers : slice_get heard r.gram ≡ Some gram
  pub request : request_in gram.bytes ≡ Ok mail
  pub peer : asker.peer ≡ gram.from
  pub station : asker.station ≡ mail.address
  pub counter : asker.counter ≡ mail.counter

-- no two requests have one number
abbrev pub AreUnlike : (Request → ℕ) → List Request → Type 0
AreUnlike number [] = Unit {0}
AreUnlike number (r ∷ rs) = All (λ (q : Request). number q ≢ number r) rs × AreUnlike number rs

-- no two have one key
abbrev pub AreApart : List Request → Type 0
AreApart rs = AreUnlike (λ (r : Request). r.key) rs

-- no request is unfinished, at the desk or at its gateway
abbrev pub HasNone : Desk → Type 0
HasNone d = (d.requests.items ≡ []) × (d.gateway.slots ≡ [])

-- each request and each datagram that is to be sent answers one of those heard, and the gateway has so many requests besides at most
pub record IsSoundBut (more : ℕ) (heard : List HeardGram) (d : Desk) : Type 0 where
  pub requests : All (IsOpen d.gateway heard) d.requests.items
  pub apart : AreApart d.requests.items
  pub few : slab_len d.gateway ≤ length d.requests.items + more
  pub owed : All (IsOwed heard) d.outbox.items

-- it has none besides
abbrev pub IsSound : List HeardGram → Desk → Type 0
IsSound heard d = IsSoundBut 0 heard d

-- a session in which mails were passed on: all else stays
abbrev pub AsksMails : SessionState → SessionState → Type 0
AsksMails s s' = s' ≡ record s { asked = s'.asked; waiting = s'.waiting; master = s'.master }

-- some slave is live just where one was before
abbrev pub SameLive : SessionState → SessionState → Type 0
SameLive s s' = has_live s'.master ≡ has_live s.master

-- the switch of its master stays as it is
abbrev pub SameLan : SessionState → SessionState → Type 0
SameLan s s' = s'.master.lan ≡ s.master.lan

-- a session at which something is left to do stays such a one
abbrev pub StaysBusy : SessionState → SessionState → Type 0
StaysBusy s s' = IsDone s' → IsDone s

-- behind the datagrams that are to be sent stand those for what is owed besides
abbrev pub Owes : List HeardGram → List Owing → List GramOut → List GramOut → Type 0
Owes heard os out out' = (more : List GramOut) × (out' ≡ out ++ more) × AreSpelled heard os more

-- a desk to which something was told: these requests are left, and this is owed besides
pub record IsTold (heard : List HeardGram) (rs : List Request) (os : List Owing) (d d' : Desk) : Type 0 where
  pub sound : IsSound heard d'
  pub requests : d'.requests.items ≡ rs
  pub owes : Owes heard os d.outbox.items d'.outbox.items

-- a desk is sound where a request that its gateway has under a key of its own is passed on
abbrev pub PassesSoundly : Request → Desk → Desk → Type 0
PassesSoundly r d d' = (heard : List HeardGram) → IsOpen d.gateway heard r → IsFree r.key d.requests.items → IsSoundBut 1 heard d → IsSound heard d'

-- something is told to a desk that is sound
abbrev pub Tells : List Request → List Owing → Desk → Desk → Type 0
Tells rs os d d' = (heard : List HeardGram) → IsSound heard d → IsTold heard rs os d d'

-- the events of a step are told to it
abbrev pub NotesAll : List Event → Desk → Desk → Type 0
NotesAll events d d' = Tells (left_by_all events d.requests.items) (owed_by_all events d.requests.items) d d'

-- the error of a request whose slave was given up, where its mail still waits
abbrev pub cut_one : Request → List Owing
cut_one r = if r.begun then [] else owing (error_of 5) r ∷ []

-- a mail is owed besides by a request that isn't finished
abbrev pub Answers : Request → Mail → Desk → Desk → Type 0
Answers r mail d d' = (heard : List HeardGram) → IsOpen d.gateway heard r → Owes heard (owing mail r ∷ []) d.outbox.items d'.outbox.items

-- a mail was asked of the session, or an error is owed
abbrev pub Passes : SessionState → SessionState → List HeardGram → Request → Mail → Desk → Desk → Option ℕ → Type 0
Passes s s' heard r mail d d' (Some slave) = (slave ≡ r.slave) × Asks r.slave r.key mail s s' true × (d'.requests.items ≡ d.requests.items ++ r ∷ []) × (d'.outbox.items ≡ d.outbox.items) × ServingAsks r.slave r.key mail s s' true
Passes s s' heard r mail d d' None =
    (slice_get s.waiting r.slave ≡ Some 64) × Asks r.slave r.key mail s s' false × (d'.requests.items ≡ d.requests.items) × Owes heard (owing (error_of 7) r ∷ []) d.outbox.items d'.outbox.items × ServingAsks r.slave r.key mail s s' false

-- the same of a request under a key of its own
abbrev pub PassesSo : SessionState → SessionState → Request → Mail → Desk → Desk → Option ℕ → Type 0
PassesSo s s' r mail d d' queued = (heard : List HeardGram) → IsOpen d.gateway heard r → IsFree r.key d.requests.items → Passes s s' heard r mail d d' queued

-- a datagram was judged: what becomes of it, and what is owed by it at once
pub record IsTaken (s s' : SessionState) (number : ℕ) (after : List HeardGram) (octets : List ℕ) (d d' : Desk) (queued : Option ℕ) : Type 0 where
  pub more : List Owing
  pub judges : Judges s s' d.requests.items d'.requests.items number octets queued more
  pub owes : Owes after more d.outbox.items d'.outbox.items

-- the same of a desk that is sound
abbrev pub IsTakenSo : SessionState → SessionState → Peer → List ℕ → ℕ → Desk → Desk → Option ℕ → Type 0
IsTakenSo s s' peer octets number d d' queued =
    (heard : List HeardGram) → length heard ≡ number → IsSound heard d → IsTaken s s' number (heard ++ record { from = peer; bytes = octets } ∷ []) octets d d' queued

-- a desk that is sound stays so with the datagram of that number heard besides
abbrev pub HearsSoundly : Peer → List ℕ → ℕ → Desk → Desk → Type 0
HearsSoundly peer octets number d d' =
    (heard : List HeardGram) → length heard ≡ number → IsSound heard d → IsSound (heard ++ record { from = peer; bytes = octets } ∷ []) d'

-- the same by the datagrams of the book before and behind
abbrev pub StaysSound : Desk → Desk → Book → Book → Type 0
StaysSound d d' b b' = length b.grams < 4294967296 → IsSound (map heard_as b.grams) d → IsSound (map heard_as b'.grams) d'

-- a datagram was heard: it stands in the book, behind those before
pub record Takes (homes : List (ℕ × ℕ)) (peer : Peer) (octets : List ℕ) (b b' : Book) : Type 0 where
  pub gram : GramIn
  pub put : b'.grams ≡ b.grams ++ gram ∷ []
  pub from_peer : gram.peer ≡ peer
  pub with_octets : gram.bytes ≡ octets
  pub judged : IsRightly homes gram

-- the same, with the number of frames that had been sent, and what becomes of it
pub record TakesSo (s s' : SessionState) (d d' : Desk) (b b' : Book) : Type 0 where
  pub gram : GramIn
  pub put : b'.grams ≡ b.grams ++ gram ∷ []
  pub frame : length b.frames < 4294967296 → gram.frame ≡ length b.frames
  pub taken : IsTaken s s' (length b.grams) (map heard_as b'.grams) gram.bytes d d' gram.queued

-- the same of a desk that is sound
abbrev pub TakesSoundly : SessionState → SessionState → Desk → Desk → Book → Book → Type 0
TakesSoundly s s' d d' b b' = length b.grams < 4294967296 → IsSound (map heard_as b.grams) d → TakesSo s s' d d' b b'

-- where the frames can be counted, a datagram stands there that was heard when as many frames had been sent as the book has
abbrev pub HearsNow : Book → Book → Type 0
HearsNow b b' = length b.frames < 4294967296 → WasHeardAt (length b.frames) b'.grams
