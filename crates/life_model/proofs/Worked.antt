-- A life, computed: a bring-up with a lost access, a service that a give-up cuts off, a reopening, and a mail that is passed on.
use Rattle.std.proofs.Common.{◌≡◌, ℕ, suc, Bool, true, false, Option, None, Some, List, [], ◌∷◌, ◌++◌, map, length, refl, if◌then◌else◌}
use Rattle.state_model.specs.of_exchange_model.Toy.{Mail, first, second, posted, held, total, Service, sum, post, speech, handed}
use Rattle.state_model.specs.of_link_model.Frames.{Ask}
use Rattle.state_model.specs.of_segment_model.Slaves.{Datagram, Address, Access, Found}
use Rattle.state_model.specs.of_segment_model.Record.{News}
use Rattle.state_model.specs.of_segment_model.Ends.{Passing}
use Rattle.state_model.specs.of_segment_model.Seats.{rows_of}
use Rattle.state_model.specs.Stated
use Rattle.state_model.specs.Accounts.{Pick}
use Rattle.life_model.specs.Lives.{Life, Stand, Spot, new_life, life_next, life_back, life_lost, gives_up, reopening}

abbrev spot : Spot
spot = record { station = 4097; place = 0; start = 2 }

-- a mail goes on where it holds the sum; a posted number is passed on
abbrev more : Mail → Bool
more held = true
more (first n) = false
more second = false
more (posted n) = false
more (total n) = false
more Mail.refused = false
more (Mail.noted n) = false

-- a frame: the master's choice, the opening's own datagram as it came back, and the slave's datagrams; whether it came back, and whether the
-- slave is given up with it
record Frame : Type 0 where
  pick : Pick Service
  came : Option (Bool × Option Found)
  news : List (News Mail)
  back : List (Datagram Mail)
  fate : Bool
  given_up : Bool

abbrev behind : ℕ → Life Mail Service ℕ → Frame → Life Mail Service ℕ
behind n l f =
    let asked = life_next speech (λ q. false) more handed n l l.stand f.pick in
    let met = if f.fate then life_back speech (λ q. false) more handed n spot f.news f.back f.came asked asked.stand else life_lost speech (λ q. false) more handed spot f.news f.back asked asked.stand in
    if f.given_up then gives_up 1 spot n met else met

abbrev lives : ℕ → Life Mail Service ℕ → List Frame → Life Mail Service ℕ
lives n l [] = l
lives n l (f ∷ fs) = lives (suc n) (behind n l f) fs

abbrev nothing : Pick Service
nothing = record { begin = None; hold = true }

abbrev asks : Service → Pick Service
asks q = record { begin = Some (Stated.Mails q); hold = true }

-- an access of an opening that came back, and one that was lost
abbrev access : Option Found → Frame
access found = record { pick = nothing; came = Some (true, found); news = []; back = []; fate = true; given_up = false }

abbrev lost : Frame
lost = record { pick = nothing; came = None; news = []; back = []; fate = false; given_up = false }

abbrev status : ℕ → Frame
status al = access (Some (Found.State al None))

abbrev to_slave : Ask Mail → ℕ → Datagram Mail
to_slave ask counter = record {
  gram = record { station = 4097; ask = ask; counter = counter; mail = None; acknowledge = false };
  address = Address.Station 4097;
  access = Access.Elsewhere;
  counter = 0;
  found = None;
}

abbrev writes : Mail → Pick Service → List (News Mail) → Frame
writes m pick news = record { pick = pick; came = None; news = news; back = to_slave (Ask.WriteMail (record { counter = 1; body = m })) 1 ∷ []; fate = true; given_up = false }

-- bring-up: its first access is lost once; the second status is the one that is wanted
abbrev brought_up : List Frame
brought_up = lost ∷ access None ∷ access None ∷ access None ∷ access None ∷ status 1 ∷ status 2 ∷ []

opened : (lives 0 (new_life 2) brought_up).stand ≡ Stand.Open
opened = refl

opened_at : (lives 0 (new_life 2) brought_up).era.opened ≡ Some 6
opened_at = refl

-- a sum comes into hand, its first mail is written, and the next frame gives the slave up
abbrev cut_off : List Frame
cut_off = brought_up ++ writes (first 3) (asks (sum 3)) [] ∷ record lost { given_up = true } ∷ []

again : (lives 0 (new_life 2) cut_off).stand ≡ reopening 2 false
again = refl

gave : (lives 0 (new_life 2) cut_off).gave ≡ 8 ∷ []
gave = refl

-- the reopening waits for Init, and then for the start state; the epoch before keeps its row
abbrev reopened : List Frame
reopened = cut_off ++ access None ∷ status 2 ∷ status 1 ∷ access None ∷ access None ∷ access None ∷ access None ∷ access None ∷ access None ∷ status 2 ∷ []

two : map {B = Option ℕ × ℕ} (λ e. (e.opened, length e.account.started)) (lives 0 (new_life 2) reopened).past ≡ (Some 6, 1) ∷ []
two = refl

anew : (let e = (lives 0 (new_life 2) reopened).era in (e.cleared ≡ Some 11) × (e.opened ≡ Some 18) × (e.account.started ≡ []) × (rows_of e.side ≡ []))
anew = (refl, refl, refl, refl)

-- a posted number is passed on: while it isn't over no other service comes into hand
abbrev passed_on : List Frame
passed_on = reopened ++ writes (posted 4) (asks (post 4)) (News.Told (posted 4) ∷ News.Written ∷ []) ∷ record (access None) { pick = asks (sum 1); came = None } ∷ []

passing : (let e = (lives 0 (new_life 2) passed_on).era in (e.passing ≡ Some Passing.Boxed) × (length e.account.started ≡ 1))
passing = (refl, refl)

-- mailbox 0 is seen empty, and mailbox 1 too: it is over, and the sum comes into hand
abbrev over : List Frame
over =
    passed_on ++ record (access None) { came = None; news = News.BoxFull false ∷ [] } ∷ record (access None) { came = None; news = News.NothingRead ∷ [] }
    ∷ record (access None) { pick = asks (sum 1); came = None } ∷ []

ended : (let e = (lives 0 (new_life 2) over).era in (e.passing ≡ None) × (length e.account.started ≡ 2))
ended = (refl, refl)

-- the next give-up is for good
for_good : (let l = lives 0 (new_life 2) (over ++ record lost { given_up = true } ∷ []) in (l.stand ≡ Stand.Gone) × (l.gave ≡ 8 ∷ 24 ∷ []))
for_good = (refl, refl)
