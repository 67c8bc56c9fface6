-- The real server is one of those of which lives speak.
use Rattle.std.proofs.Common.{◌≡◌, ℕ, Bool, refl, ap}
use Rattle.whole_ring.specs.of_frame_view.View.{Lens}
use Rattle.slave_server.specs.of_slave_model.Profile.{Profile}
use Rattle.slave_server.specs.Seen.{IsExchange}
use Rattle.slave_server.specs.Serving.{Serving, takes, next_mail, rest, cleared}
use Rattle.slave_server.specs.of_slave_node.Node.{Node}
use Rattle.slave_server.specs.of_slave_node.Step.{pdi_step}
use Rattle.whole_ring.specs.of_slave_lives.Lived.{IsBehind}
use Rattle.whole_ring.specs.of_slave_lives.Nodes.{stepped}
use Rattle.whole_ring.proofs.of_slave_lives.Servers.{step_holds}
use Rattle.plan_ring.specs.Real.{running_as, real, StepsAs}

pub is_behind : ((p : Profile) (al : ℕ) → IsExchange p al) → (p : Profile) (boot : Bool) (lens : ℕ → Lens) → IsBehind (real p boot lens)
is_behind law p boot lens = record {
  served = record {
    seen = λ al. record { take = λ s b. (law p al).take (record s { profile = p }) b refl; next = λ s. (law p al).next s; rest = λ s. (law p al).rest s };
    told = λ al to s. refl;
  };
  carries = λ r. refl;
  clears = record { again = λ s. refl; none = λ s. refl };
}

-- a step takes a mail of the server as it stands
step_at : Node Serving → Serving → Node Serving
step_at n s = pdi_step (λ t b al. takes s b al) next_mail rest cleared n

same_step : (p : Profile) (n : Node Serving) → n.server.profile ≡ p → pdi_step takes next_mail rest cleared n ≡ stepped (running_as p) n
unfolding step_at
same_step p n e = ap (step_at n) (λ i. record n.server { profile = e i })

-- the profile stays
profile_stays : (p : Profile) (n : Node Serving) → n.server.profile ≡ p → (pdi_step takes next_mail rest cleared n).server.profile ≡ p
profile_stays p n e = step_holds (record { take = takes; next = next_mail; rest = rest; clear = cleared }) (λ (s : Serving). s.profile ≡ p) (λ s b al same. same) (λ s same. same) (λ s same. same) n e

pub steps_as : (p : Profile) (n : Node Serving) → n.server.profile ≡ p → StepsAs p n
steps_as p n e = record { step = same_step p n e; profile = profile_stays p n e }
