-- What is addressed to one slave, in the order in which it came into hand, and the first part of it that is done.
use Rattle.std.specs.Prelude.{◌≡◌, ◌⊎◌, ℕ, zero, suc, ◌==◌, ◌&&◌, Bool, true, false, not, if◌then◌else◌, List, [], ◌∷◌, ◌++◌, map, ⊤}
use Rattle.segment_model.specs.of_exchange_model.Exchange.{Exchange, after}
use Rattle.segment_model.specs.Ends.{Task}

-- a task that came into hand, and whether the slave counts it among the services that it carried out
pub record Begun (M Q : Type 0) : Type 0 where
  pub task : Task M Q
  pub counts : Bool

-- how many of these count
abbrev pub count_of : {M Q : Type 0} → List (Begun M Q) → ℕ
count_of [] = 0
count_of (b ∷ bs) = if b.counts then suc (count_of bs) else count_of bs

-- no more of them count
abbrev pub is_zero : ℕ → Bool
is_zero zero = true
is_zero (suc k) = false

-- one of them counted
abbrev pub one_less : ℕ → ℕ
one_less zero = zero
one_less (suc k) = k

-- DONE: the longest first part of which so many count
abbrev pub done : {M Q : Type 0} → ℕ → List (Begun M Q) → List (Begun M Q)
done k [] = []
done k (b ∷ bs) = if b.counts && is_zero k then [] else b ∷ done (if b.counts then one_less k else k) bs

-- the service by mails that a task is, if it is one
abbrev pub service_in : {M Q : Type 0} → Task M Q → List Q
service_in (Task.Mails q) = q ∷ []
service_in (Task.State target) = []
service_in (Task.Passed m) = []

-- the services by mails among tasks, in order
abbrev pub services_of : {M Q : Type 0} → List (Begun M Q) → List Q
services_of [] = []
services_of (b ∷ bs) = service_in b.task ++ services_of bs

-- a service by mails that came into hand, which counts
abbrev pub by_mails : {M Q : Type 0} → Q → Begun M Q
by_mails q = record { task = Task.Mails q; counts = true }

-- a state service that came into hand, which doesn't count
abbrev pub by_state : {M Q : Type 0} → ℕ → Begun M Q
by_state target = record { task = Task.State target; counts = false }

-- A SERVING: the server behind a task. A service by mails acts by all its mails, a mail that is passed on by itself, and it counts where the
-- server counts one more for it.
abbrev pub server_behind : {V A M Q R : Type 0} → Exchange V A M Q R → V → Task M Q → V
server_behind x v (Task.Mails q) = after x.serve v (x.full v q)
server_behind x v (Task.State target) = v
server_behind x v (Task.Passed m) = (x.serve v m).0

-- the server behind tasks, in order
abbrev pub servers_behind : {V A M Q R : Type 0} → Exchange V A M Q R → V → List (Task M Q) → V
servers_behind x v [] = v
servers_behind x v (t ∷ ts) = servers_behind x (server_behind x v t) ts

-- the tasks with what they count for this server
abbrev pub weighed : {V A M Q R : Type 0} → Exchange V A M Q R → V → List (Task M Q) → List (Begun M Q)
weighed x v [] = []
weighed x v (t ∷ ts) = record { task = t; counts = not (x.handled (server_behind x v t) == x.handled v) } ∷ weighed x (server_behind x v t) ts

-- the tasks alone
abbrev pub tasks_of : {M Q : Type 0} → List (Begun M Q) → List (Task M Q)
tasks_of bs = map (λ b. b.task) bs

-- scripted tasks alone: services by mails, which count, and state services, which don't
pub data Scripted {M Q : Type 0} : List (Begun M Q) → Type 0 where
  nothing : Scripted []
  mails : (q : Q) (bs : List (Begun M Q)) → Scripted bs → Scripted (by_mails q ∷ bs)
  state : (target : ℕ) (bs : List (Begun M Q)) → Scripted bs → Scripted (by_state target ∷ bs)

-- each of these tasks counts one at most
abbrev pub EachOne : {V A M Q R : Type 0} → Exchange V A M Q R → V → List (Task M Q) → Type 0
EachOne x v [] = ⊤
EachOne x v (t ∷ ts) = ((x.handled (server_behind x v t) ≡ x.handled v) ⊎ (x.handled (server_behind x v t) ≡ suc (x.handled v))) × EachOne x (server_behind x v t) ts

-- a mail for which the server counts nothing leaves the application
abbrev pub IsQuiet : {V A M Q R : Type 0} → Exchange V A M Q R → Type 0
IsQuiet {V} {A} {M} x = (v : V) (m : M) → x.handled (x.serve v m).0 ≡ x.handled v → x.app (x.serve v m).0 ≡ x.app v
