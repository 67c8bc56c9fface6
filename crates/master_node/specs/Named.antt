-- A MAIL THAT IS PASSED ON IS TOLD UNDER THE KEY OF ITS ASKER just while the life of its slave has it in hand.
use Rattle.std.specs.Prelude.{◌≡◌, ◌&&◌, ℕ, Bool, true, false, nat_lt, is_some, Option, Some, None}
use Rattle.life_runs.specs.of_master_duty.Reply.{Reply}
use Rattle.life_runs.specs.of_master_hand.Spoken.{Asked}
use Rattle.life_runs.specs.of_link_mails.Body.{Body}
use Rattle.life_runs.specs.of_life_model.Lives
use Rattle.life_runs.specs.of_life_model.Lives.{Life}
use Rattle.life_runs.specs.Told.{Passed}
use Rattle.master_node.specs.declared.post.Work.{Work}

-- THE MAIL IN HAND was asked under this key, and nothing else is in hand of its slave
pub record IsNamed (key : ℕ) (hand : Option Passed) (l : Life Body Asked Reply) : Type 0 where
  pub opened : l.stand ≡ Lives.Stand.Open
  pub passing : is_some l.era.passing ≡ true
  pub alone : l.era.account.hand ≡ None
  pub passed : Passed
  pub is : hand ≡ Some passed
  pub key_is : passed.key ≡ key

-- the epoch is over: its slave is to be returned to Init, or is gone
abbrev pub is_left : Lives.Stand → Bool
is_left (Lives.Stand.Opens o) = o.again && nat_lt o.step 3
is_left Lives.Stand.Open = false
is_left Lives.Stand.Gone = true

-- A POST HAS A MAIL IN HAND that is passed on under the key of its asker, just while the life of its slave has one in an epoch that isn't over
pub record IsHanded (work : Work) (hand : Option Passed) (l : Life Body Asked Reply) : Type 0 where
  pub named : (key : ℕ) → work ≡ Work.Passed key → IsNamed key hand l
  pub only : is_left l.stand ≡ false → is_some l.era.passing ≡ true → (key : ℕ) × (work ≡ Work.Passed key)

-- THE POST BEHIND A FRAME: a mail that is passed on stays in hand just while it isn't over
pub record StaysNamed (old new : Work) (goes : Bool) : Type 0 where
  pub named : (key : ℕ) → new ≡ Work.Passed key → (old ≡ Work.Passed key) × (goes ≡ true)
  pub stays : (key : ℕ) → old ≡ Work.Passed key → goes ≡ true → new ≡ Work.Passed key
