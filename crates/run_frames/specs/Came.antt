-- WHAT CAME INTO HAND OF A SLAVE, by its script.
use Rattle.std.specs.Prelude.{◌≡◌, ℕ, ◌≤◌, ◌%◌, Bool, true, false, not, Option, Some, option_map, List, [], ◌∷◌, ◌++◌, take, filter, length, ⊤}
use Rattle.life_runs.specs.of_protocol_models.EoeClient as EoeClient
use Rattle.life_runs.specs.Led.{Comes}
use Rattle.life_runs.specs.of_master_hand.Spoken.{Asked, net, passed}
use Rattle.life_runs.specs.of_master_hand.Talk.{asked_of}
use Rattle.life_runs.specs.of_segment_plan.declared.service.Service as Plan
use Rattle.life_runs.specs.of_state_model.Stated.{Service}

-- THE NEXT OF THE SCRIPT, or a packet, one by one, and so many of the script; `room` is the length of the slave's mailbox 0
pub data Came (room : ℕ) (script : List Plan.Service) : ℕ → List (Service Asked) → Type 0 where
  none : Came room script 0 []
  next : (n k : ℕ) (qs : List (Service Asked)) (q : Service Asked) → Came room script n qs → Comes room script n (Some q) k → Came room script k (qs ++ q ∷ [])

-- a service of a script as it comes into hand
abbrev pub handed_over : ℕ → Plan.Service → Option (Service Asked)
handed_over room (Plan.Service.State target) = Some (Service.State (target % 16))
handed_over room s = option_map (λ q. Service.Mails q) (asked_of room s)

-- these services are those of a script, one by one
abbrev pub AreThose : ℕ → List Plan.Service → List (Service Asked) → Type 0
AreThose room [] [] = ⊤
AreThose room (s ∷ ss) (q ∷ qs) = (handed_over room s ≡ Some q) × AreThose room ss qs
AreThose room _ _ = ⊥

-- a packet, which no script has
abbrev pub is_packet : Service Asked → Bool
is_packet (Service.Mails (net (EoeClient.packet octets frame))) = true
is_packet _ = false

-- a service that no script has: a packet, or a mail that is passed on
abbrev pub is_beside : Service Asked → Bool
is_beside (Service.Mails (net (EoeClient.packet octets frame))) = true
is_beside (Service.Mails (passed m)) = true
is_beside _ = false

-- WITHOUT THE PACKETS they are the first `count` services of the script, in order, each once
pub record AreFirst (room : ℕ) (script : List Plan.Service) (count : ℕ) (qs : List (Service Asked)) : Type 0 where
  pub within : count ≤ length script
  pub those : AreThose room (take count script) (filter (λ q. not (is_packet q)) qs)
