-- The numbers of the rules, and what a file's reading answers.
use Rattle.std.specs.Prelude.{◌≡◌, ℕ, Result, Ok, Err}
use Rattle.scenario_keys.specs.declared.refusal.Rule.{Rule}
use Rattle.scenario_keys.specs.declared.refusal.Rule.TheVariants as rules
use Rattle.scenario_keys.specs.declared.refusal.Refusal.{Refusal}
use Rattle.scenario_keys.specs.declared.refusal.ReadErr.{ReadErr}
use Rattle.scenario_keys.specs.declared.refusal.ReadErr.TheVariants as errors

-- a rule's number
abbrev pub number_of : Rule → ℕ
number_of rules.NotToml = 1
number_of rules.WrongVersion = 2
number_of rules.Missing = 3
number_of rules.UnknownKey = 4
number_of rules.WrongKind = 5
number_of rules.OutOfRange = 6
number_of rules.SameName = 7
number_of rules.SameStation = 8
number_of rules.UnknownSlave = 9
number_of rules.NotOctets = 10
number_of rules.Schedule = 11
number_of rules.TooMany = 12

-- What is answered is what reading gives, unless memory ran out.
abbrev pub Answers : {A : Type 0} → Result A ReadErr → Result A Refusal → Type 0
Answers (Ok x) read = read ≡ Ok x
Answers (Err errors.NoMemory) read = Unit {0}
Answers (Err (errors.Refused rule place)) (Ok y) = ⊥
Answers (Err (errors.Refused rule place)) (Err e) = (rule ≡ number_of e.rule) × (place ≡ e.place)
