-- The slave's side of both mailboxes, and its processor's step for any server.
use Rattle.std.specs.Prelude.{◌≡◌, ℕ, Bool, true, false, ◌&&◌, is_none, if◌then◌else◌, Option, Some, None, List, [], ◌∷◌}
use Rattle.link_model.specs.Counters.{next_counter}
use Rattle.link_model.specs.Mails.{LinkMail, is_repeat, first_of, differs}

-- mailbox 0: the mail in it, and the counter of the last mail taken
pub record OutSide (B : Type 0) : Type 0 where
  pub box : Option (LinkMail B)
  pub last_taken : ℕ

-- mailbox 1: the mail in it; the mail that was offered there and is not yet known to be read, with the mark
-- that it was offered again; the last mail known to be read; a new mail that was withdrawn for a repeat;
-- the counter of the newest mail; the bits of repeat request and acknowledge
pub record InSide (B : Type 0) : Type 0 where
  pub box : Option (LinkMail B)
  pub offered : Option (LinkMail B)
  pub again : Bool
  pub last_read : Option (LinkMail B)
  pub withdrawn : Option (LinkMail B)
  pub newest : ℕ
  pub request : Bool
  pub acknowledge : Bool

-- a server: what it is once it took a mail, its next waiting mail, and what it is without that one
pub record Server (B S : Type 0) : Type 0 where
  pub take : S → B → S
  pub next : S → Option B
  pub rest : S → S

-- a slave: both sides of its mailboxes, and its server
pub record Node (B S : Type 0) : Type 0 where
  pub out : OutSide B
  pub inn : InSide B
  pub server : S

-- step 1: a mail offered that is gone from mailbox 1 was read; a new mail so read is the last one
abbrev pub noticed : {B : Type 0} → InSide B → Option (LinkMail B) → Option (LinkMail B) → InSide B
noticed s (Some stands) offered = s
noticed s None None = s
noticed s None (Some m) =
    record s { offered = None; again = false; last_read = if s.again then s.last_read else Some m }

-- the last read mail is offered again, where that is not what stands there, and a new mail unread is withdrawn
abbrev pub repeated : {B : Type 0} → InSide B → Option (LinkMail B) → InSide B
repeated s None = s
repeated s (Some m) =
    if s.again then s
    else record s { box = Some m; offered = Some m; again = true; withdrawn = first_of s.offered s.withdrawn }

-- step 2: where request and acknowledge differ, the last read mail is offered again and the request acknowledged
abbrev pub request_answered : {B : Type 0} → InSide B → InSide B
request_answered s =
    if differs s.request s.acknowledge then (let t = repeated s s.last_read in record t { acknowledge = s.request })
    else s

-- steps 1 and 2
abbrev pub looked : {B : Type 0} → InSide B → InSide B
looked s = request_answered (noticed s s.box s.offered)

-- the mail in mailbox 0 that is taken: not a repeat, and only where the slave is free
abbrev pub mail_taken : {B : Type 0} → OutSide B → Option (LinkMail B) → Bool → List B
mail_taken s None free = []
mail_taken s (Some m) free = if is_repeat s.last_taken m then [] else if free then m.body ∷ [] else []

-- mailbox 0 behind that: a repeat is removed, a mail taken is gone, any other stays
abbrev pub served : {B : Type 0} → OutSide B → Option (LinkMail B) → Bool → OutSide B
served s None free = s
served s (Some m) free =
    if is_repeat s.last_taken m then record s { box = None }
    else if free then record { box = None; last_taken = m.counter }
    else s

-- a mail is offered by this: the withdrawn mail with its counter, else the server's next with the next counter
abbrev pub offers : {B : Type 0} → InSide B → Option (LinkMail B) → Option (LinkMail B) → Option B → InSide B
offers s (Some stands) withdrawn next = s
offers s None (Some m) next = record s { box = Some m; offered = Some m; again = false; withdrawn = None }
offers s None None None = s
offers s None None (Some body) =
    record s { box = Some (record { counter = next_counter s.newest; body = body }); offered = Some (record { counter = next_counter s.newest; body = body }); again = false; newest = next_counter s.newest }

-- the server's mail that is offered new by this
abbrev pub mail_offered : {B : Type 0} → Option (LinkMail B) → Option (LinkMail B) → Option B → List B
mail_offered (Some stands) withdrawn next = []
mail_offered None (Some m) next = []
mail_offered None None None = []
mail_offered None None (Some body) = body ∷ []

-- the server behind the mails that it took
abbrev pub all_taken : {B S : Type 0} → Server B S → S → List B → S
all_taken v s [] = s
all_taken v s (body ∷ more) = all_taken v (v.take s body) more

-- the server without the mails that it gave
abbrev pub all_given : {B S : Type 0} → Server B S → S → List B → S
all_given v s [] = s
all_given v s (body ∷ more) = all_given v (v.rest s) more

-- mailbox 1 is empty, no mail is withdrawn, and the server has nothing waiting
abbrev pub is_free : {B S : Type 0} → Server B S → Node B S → Bool
is_free v n = (is_none n.inn.box && is_none n.inn.withdrawn) && is_none (v.next n.server)

-- what step 4 takes
abbrev pub node_takes : {B S : Type 0} → Server B S → Node B S → List B
node_takes v n = mail_taken n.out n.out.box (is_free v n)

-- step 4: the mail in mailbox 0
abbrev pub node_take : {B S : Type 0} → Server B S → Node B S → Node B S
node_take v n =
    record n { out = served n.out n.out.box (is_free v n); server = all_taken v n.server (node_takes v n) }

-- what step 5 offers new
abbrev pub node_offers : {B S : Type 0} → Server B S → Node B S → List B
node_offers v n = mail_offered n.inn.box n.inn.withdrawn (v.next n.server)

-- step 5: a mail in mailbox 1
abbrev pub node_offer : {B S : Type 0} → Server B S → Node B S → Node B S
node_offer v n =
    record n { inn = offers n.inn n.inn.box n.inn.withdrawn (v.next n.server); server = all_given v n.server (node_offers v n) }

-- steps 4 and 5
abbrev pub node_serve : {B S : Type 0} → Server B S → Node B S → Node B S
node_serve v n = node_offer v (node_take v n)

-- steps 1 and 2 of a node
abbrev pub node_look : {B S : Type 0} → Node B S → Node B S
node_look n = record n { inn = looked n.inn }

-- the processor's step
abbrev pub processor_step : {B S : Type 0} → Server B S → Node B S → Node B S
processor_step v n = node_serve v (node_look n)

-- a server seen as another one, by what f sees of its states
pub record SeenAs {B S T : Type 0} (v : Server B S) (u : Server B T) (f : S → T) : Type 0 where
  pub take : (s : S) (body : B) → f (v.take s body) ≡ u.take (f s) body
  pub next : (s : S) → v.next s ≡ u.next (f s)
  pub rest : (s : S) → f (v.rest s) ≡ u.rest (f s)

-- the node with what f sees of its server
abbrev pub node_seen : {B S T : Type 0} → (S → T) → Node B S → Node B T
node_seen f n = record { out = n.out; inn = n.inn; server = f n.server }
