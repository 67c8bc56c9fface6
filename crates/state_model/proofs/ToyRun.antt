-- Computed runs: a table of three states that meets what is asked of a table; a refusal with lost writes and a slow slave; and what
-- mails that are passed on count.
use Rattle.std.proofs.Common.{◌≡◌, ℕ, ◌==◌, ◌&&◌, ◌||◌, Bool, true, false, Option, Some, None, List, [], ◌∷◌, refl, ap, ◌∙◌, arith, map}
use Rattle.std.proofs.lemmas.Bool.Decides.{nat_tests}
use Rattle.segment_model.specs.of_link_model.Link.{Fate}
use Rattle.segment_model.specs.Slaves.{Registers}
use Rattle.segment_model.specs.Record.{News}
use Rattle.segment_model.specs.Ends.{Task, Outcome}
use Rattle.segment_model.specs.of_exchange_model.Toy.{Mail, first, second, posted, held, total, refused, noted, Service, sum, Adder, adder, finish}
use Rattle.state_model.specs.States.{Table, States, Event, run, new_states}
use Rattle.state_model.specs.Promises.{IsTable}
use Rattle.state_model.specs.Order.{IsQuiet, weighed, done, tasks_of}

-- PreOp, SafeOp and Op by their neighbours; any other change between them gets code 17, and any other state code 18
abbrev is_known : ℕ → Bool
is_known s = s == 2 || s == 4 || s == 8

abbrev is_step : ℕ → ℕ → Bool
is_step from to = from == 2 && to == 4 || from == 4 && to == 2 || from == 4 && to == 8 || from == 8 && to == 2 || from == 8 && to == 4

abbrev answered : Bool → Bool → Option ℕ
answered false change = Some 18
answered true false = Some 17
answered true true = None

abbrev table : Table
table from to = answered (is_known to) (from == to || is_step from to)

equal_self : (n : ℕ) → (n == n) ≡ true
equal_self n = grind (arith, nat_tests)

is_table : IsTable table 2
is_table = record { sits = refl; stays = λ from to e. go to (is_known to) refl (from == to || is_step from to) e }
  where
    go : (to : ℕ) (known : Bool) → is_known to ≡ known → (change : Bool) → answered known change ≡ None → table to to ≡ None
    go to false k change e = absurd (cc)
    go to true k false e = absurd (cc)
    go to true k true e = ap (λ b. answered b (to == to || is_step to to)) k ∙ ap (λ b. answered true (b || is_step to to)) (equal_self to)

blank : Registers
blank = record { station = 4097; first = true; second = true; control = None; state = 0; refused = None }

-- Op is refused in PreOp: the write is met and lost, and the slave is slow; the acknowledge is met and lost, and its repetition comes back; the
-- flag is read once more before it is gone. Then SafeOp: its first write is lost, and the second is carried out behind a first read.
abbrev events : List Event
events =
    Event.Begin 8 ∷ Event.Write Fate.LostBehind ∷ Event.Write Fate.Pass ∷ Event.Read Fate.Pass ∷ Event.Step ∷ Event.Read Fate.LostBehind ∷ Event.Read Fate.Pass
    ∷ Event.Write Fate.LostBefore ∷ Event.Write Fate.LostBehind ∷ Event.Write Fate.Pass ∷ Event.Read Fate.Pass ∷ Event.Step ∷ Event.Read Fate.Pass
    ∷ Event.Begin 4 ∷ Event.Write Fate.LostBefore ∷ Event.Write Fate.Pass ∷ Event.Read Fate.Pass ∷ Event.Step ∷ Event.Read Fate.Pass ∷ []

abbrev ended : States ℕ ℕ
ended = run table (new_states blank 2) events

answers : ended.closed ≡
    record { target = 8; answer = Outcome.Refused 17; read = News.Status 2 None ∷ News.Status 2 (Some 17) ∷ News.Status 2 (Some 17) ∷ News.Status 2 None ∷ [] }
    ∷ record { target = 4; answer = Outcome.Reached; read = News.Status 2 None ∷ News.Status 4 None ∷ [] } ∷ []
answers = refl

stands_in : (ended.registers.state ≡ 4) × (ended.registers.refused ≡ None) × (ended.hand ≡ None)
stands_in = (refl, refl, refl)

-- the adder keeps its total where it counts nothing
adder_quiet : IsQuiet adder
adder_quiet v (first n) e = refl
adder_quiet v second e = go v.half refl e
  where
    go : (half : Option ℕ) → v.half ≡ half → (finish v half).0.handled ≡ v.handled → (finish v half).0.value ≡ v.value
    go None h f = refl
    go (Some n) h f = absurd (omega (arith, f))
adder_quiet v (posted n) e = absurd (omega (arith, e))
adder_quiet v held e = refl
adder_quiet v (total n) e = refl
adder_quiet v refused e = refl
adder_quiet v (noted n) e = refl

-- A sum by a script, then the two mails of another that are passed on, then a posted number: the first mail of the sum counts nothing, the second one.
abbrev tasks : List (Task Mail Service)
tasks = Task.Mails (sum 3) ∷ Task.Passed (first 4) ∷ Task.Passed second ∷ Task.State 4 ∷ Task.Passed (posted 5) ∷ []

abbrev empty : Adder
empty = record { value = 0; handled = 0; half = None }

weights : map (λ b. b.counts) (weighed adder empty tasks) ≡ true ∷ false ∷ true ∷ false ∷ true ∷ []
weights = refl

-- with two counted, all up to the state service is done
done_of_two : tasks_of (done 2 (weighed adder empty tasks)) ≡ Task.Mails (sum 3) ∷ Task.Passed (first 4) ∷ Task.Passed second ∷ Task.State 4 ∷ []
done_of_two = refl
