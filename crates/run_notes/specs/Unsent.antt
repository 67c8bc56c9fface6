-- WHAT A BOOK SAYS OF THE REST OF A SCRIPT, which never came into hand.
use Rattle.std.specs.Prelude.{◌≡◌, ◌-◌, ℕ, zero, suc, List, [], ◌∷◌, ◌++◌, length, replicate, ⊤}
use Rattle.run_frames.specs.of_life_runs.Led.{Leads}
use Rattle.run_book.specs.of_master_node.declared.event.Origin.{Origin}
use Rattle.run_book.specs.of_master_node.declared.event.Origin.TheVariants.{Script, Forward, Gateway}
use Rattle.run_book.specs.declared.book.Answer.{Answer}
use Rattle.run_book.specs.declared.book.Answer.TheVariants.{Replied, InDoubt, NotSent}
use Rattle.run_book.specs.declared.book.Begun.{Begun}
use Rattle.run_book.specs.declared.book.SlaveBook.{SlaveBook}

-- the first numbers from 0 on, so many
abbrev pub first_numbers : ℕ → List ℕ
first_numbers zero = []
first_numbers (suc n) = first_numbers n ++ n ∷ []

-- the number that a service of the script has there; others have none
abbrev pub with_number : Origin → List ℕ → List ℕ
with_number (Script number) more = number ∷ more
with_number (Forward number) more = more
with_number (Gateway number) more = more

-- the numbers of the scripted services among those that came into hand
abbrev pub numbers_in : List Begun → List ℕ
numbers_in [] = []
numbers_in (b ∷ bs) = with_number b.origin (numbers_in bs)

-- the answer of a service that came into hand: it was replied to, or is in doubt
abbrev pub WasSent : Answer → Type 0
WasSent (Replied reply frame) = ⊤
WasSent InDoubt = ⊤
WasSent NotSent = ⊥

-- each of these is
abbrev pub AllSent : List Answer → Type 0
AllSent [] = ⊤
AllSent (a ∷ as') = WasSent a × AllSent as'

-- WHAT IS NOTED of a script of so many services: those that came into hand have the first numbers, no answer says that one wasn't sent, and the others are left
pub record IsNumbered (many : ℕ) (begun : List Begun) (answers : List Answer) (scripted rest : ℕ) : Type 0 where
  pub numbers : numbers_in begun ≡ first_numbers scripted
  pub sent : AllSent answers
  pub left : rest ≡ many - scripted

-- THE REST OF A SCRIPT WAS NOT SENT, and nothing else: the services that came into hand of the script have just its first numbers, in order; each service
-- that came into hand was replied to or is in doubt; and behind these answers each service of the rest of the script has the answer that it wasn't sent
pub record IsSpent (a : Leads) (row : SlaveBook) : Type 0 where
  pub numbers : numbers_in row.begun ≡ first_numbers a.number
  pub answers : List Answer
  pub beside : length answers ≡ length row.begun
  pub sent : AllSent answers
  pub whole : row.answers ≡ answers ++ replicate (length a.script - a.number) NotSent
