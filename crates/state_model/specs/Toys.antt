-- A small exchange with an AL state: the adder with a state beside its value, which adds in one state alone.
use Rattle.std.specs.Prelude.{ℕ, zero, suc, ◌+◌, nat_le, Bool, true, false, if◌then◌else◌, List, [], ◌∷◌, Option, None, Some}
use Rattle.segment_model.specs.of_exchange_model.Exchange.{Exchange, Speech}
use Rattle.segment_model.specs.of_exchange_model.Dialogue.{said, sent}
use Rattle.segment_model.specs.of_exchange_model.Toy.{Mail, first, second, posted, held, total, refused, noted, Service, sum, Adder, emission, decide, handed, number}
use Rattle.segment_model.specs.of_exchange_model.Toy
use Rattle.state_model.specs.States.{Table}
use Rattle.segment_model.specs.Ends.{Outcome}
use Rattle.state_model.specs.Stated.{Stated, Act, Counting, with_states}
use Rattle.state_model.specs.Stated

-- the application: the total so far and the AL state
pub record Sheet : Type 0 where
  pub value : ℕ
  pub state : ℕ

-- the server: an adder and its AL state
pub record Desk : Type 0 where
  pub adder : Adder
  pub state : ℕ

-- it adds in AL state 1 alone
abbrev pub adds : ℕ → Bool
adds zero = false
adds (suc zero) = true
adds (suc (suc more)) = false

-- in any other state a sum is refused at its first mail and a posted number is dropped, each a service
abbrev pub refuse : Adder → Mail → Adder × List Mail
refuse v (first n) = (record v { handled = suc v.handled }, refused ∷ [])
refuse v (posted n) = (record v { handled = suc v.handled }, [])
refuse v second = (v, refused ∷ [])
refuse v held = (v, refused ∷ [])
refuse v (total n) = (v, refused ∷ [])
refuse v refused = (v, refused ∷ [])
refuse v (noted n) = (v, refused ∷ [])

-- by whether the state adds
abbrev pub serve_in : Bool → Adder → Mail → Adder × List Mail
serve_in true v m = Toy.serve v m
serve_in false v m = refuse v m

-- a mail taken in the state that stands, which stays
abbrev pub serve : Desk → Mail → Desk × List Mail
serve d m = (record d { adder = (serve_in (adds d.state) d.adder m).0 }, (serve_in (adds d.state) d.adder m).1)

-- the reply to a sum: its total, or that it was refused
abbrev pub ends : Service → List Mail → Option (Option ℕ)
ends (sum n) (held ∷ total value ∷ []) = Some (Some value)
ends (sum n) (refused ∷ []) = Some None
ends _ _ = None

-- what a service does to the sheet
abbrev pub exec_in : Bool → Sheet → Service → Sheet
exec_in true a q = record a { value = a.value + number q }
exec_in false a q = a

-- what it replies
abbrev pub reply_in : Bool → Sheet → Service → Option ℕ
reply_in true a q = Some (a.value + number q)
reply_in false a q = None

-- and what it emits
abbrev pub emits_in : Bool → Service → List Mail
emits_in true q = noted (number q) ∷ []
emits_in false q = []

-- what its client speaks
abbrev pub speech : Speech Mail Service (Option ℕ)
speech = record { emission = emission; valid = λ q. true; planned = λ q hs. said decide 2 (Toy.mails q) hs; ends = ends; handed = handed }

-- the adder with its state as an exchange
abbrev pub desk : Exchange Desk Sheet Mail Service (Option ℕ)
desk = record {
  serve = serve;
  app = λ d. record { value = d.adder.value; state = d.state };
  handled = λ d. d.adder.handled;
  ready = λ d. true;
  speech = speech;
  full = λ d q. sent serve emission decide 2 d (Toy.mails q);
  exec = λ a q. exec_in (adds a.state) a q;
  reply = λ a q. reply_in (adds a.state) a q;
  emits = λ a q. emits_in (adds a.state) q;
}

-- its AL state; no mail of it is an acknowledgement
abbrev pub desk_states : Stated Desk Sheet Service
desk_states = record {
  tell = λ state d. record d { state = state };
  told = λ state a. record a { state = state };
  state = λ a. a.state;
  acknowledged = λ q. false;
}

-- it comes into states 0 and 1, and refuses any other with code 17
abbrev pub steps : Table
steps from to = if nat_le to 1 then None else Some 17

-- the adder with its state services beside its services by mails
abbrev pub stated_desk : Exchange (Counting Desk) (Sheet × ℕ) (Act Mail) (Stated.Service Service) (Outcome (Option ℕ))
stated_desk = with_states desk desk_states steps

-- a new one, in a state in which it adds nothing
abbrev pub start : Counting Desk
start = record { server = record { adder = record { value = 0; handled = 0; half = None }; state = 0 }; words = 0 }

-- a sum, a change to the state that adds, a change that is refused, and the same sum
abbrev pub tried : List (Stated.Service Service)
tried = Stated.Service.Mails (sum 3) ∷ Stated.Service.State 1 ∷ Stated.Service.State 2 ∷ Stated.Service.Mails (sum 3) ∷ []

-- the mails and control words of these services
abbrev pub taken : List (Act Mail)
taken = Act.Mail (first 3) ∷ Act.Word 1 ∷ Act.Word 2 ∷ Act.Mail (first 3) ∷ Act.Mail second ∷ []

-- what is given for them
abbrev pub heard : List (Act Mail)
heard = Act.Mail refused ∷ Act.Mail held ∷ Act.Mail (total 3) ∷ Act.Mail (noted 3) ∷ []

-- the adder behind them
abbrev pub ended : Counting Desk
ended = record { server = record { adder = record { value = 3; handled = 2; half = None }; state = 1 }; words = 2 }

-- the services' replies, each on the application behind those before it
abbrev pub replies : Sheet × ℕ → List (Stated.Service Service) → List (Outcome (Option ℕ))
replies a [] = []
replies a (q ∷ qs) = stated_desk.reply a q ∷ replies (stated_desk.exec a q) qs

-- those of the tried services: refused, reached, refused with 17, and the total
abbrev pub told : List (Outcome (Option ℕ))
told = Outcome.Replied None ∷ Outcome.Reached ∷ Outcome.Refused 17 ∷ Outcome.Replied (Some 3) ∷ []
