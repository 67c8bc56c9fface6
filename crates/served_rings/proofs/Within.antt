-- What the lives of a serving have gained, and the frames that count as lost, against the frame bound.
use Rattle.std.proofs.Common.{◌≡◌, ℕ, ◌+◌, ◌-◌, ◌*◌, ◌≤◌, List, [], ◌∷◌, arith}
use Rattle.served_places.specs.of_run_frames.Fates.{gained_in}
use Rattle.run_work.specs.ServedGained.{served_in, leads_of}
use Rattle.served_places.specs.of_life_runs.Served.{Serves}

-- the steps of the mails that are passed on are gained besides
pub less_gained : (ws : List Serves) → gained_in (leads_of ws) ≤ served_in ws
less_gained [] = omega arith
less_gained (w ∷ ws) = omega (arith, less_gained ws)

-- THE SUMS: of n slaves, with so much for their services and packets, so many frames that the schedule loses, and at most so many mails
pub record Sums (n plan lose count gained lost : ℕ) : Type 0 where
  pub work : ℕ
  pub most : ℕ
  pub enough : gained ≤ n + work
  pub few : lost ≤ most
  pub whole : work + most + 2 * n ≡ plan + 128 * count + lose + 2 * n

pub sums : (n plan own host lose count asked gained served lost counted : ℕ) → gained ≤ served → served ≤ n + own + 82 * asked → own + host ≤ plan → lost ≤ counted + host + 6 * asked → counted ≤ lose → asked ≤ count → Sums n plan lose count gained lost
sums n plan own host lose count asked gained served lost counted less gains packets enters scheduled few = record {
  work = plan + 128 * count - (host + 6 * count);
  most = lose + host + 6 * count;
  enough = omega (arith, less, gains, packets, few);
  few = omega (arith, enters, scheduled, few);
  whole = omega (arith, packets);
}
