-- A slave that waits, frame by frame of a run.
use Rattle.std.proofs.Common.{◌≡◌, ◌≤◌, ℕ, suc, ◌%◌, ◌==◌, Bool, true, false, if◌then◌else◌, List, refl, sym, ap, ◌∙◌, subst, arith}
use Rattle.std.specs.Prelude.{◌&&◌}
use Rattle.plan_ring.specs.of_exchange_model.Exchange.{Speech}
use Rattle.plan_ring.specs.of_life_model.Gains.{gains}
use Rattle.plan_ring.proofs.of_life_model.Gaining.{next_same}
use Rattle.plan_ring.specs.of_life_model.Lives.{Life, Spot, Stand, life_back}
use Rattle.plan_ring.specs.of_link_model.Slave.{Node, Server, processor_step}
use Rattle.plan_ring.specs.of_run_frames.Clocks.{Clocked}
use Rattle.plan_ring.specs.of_run_frames.Goes.{Under, back_life}
use Rattle.plan_ring.specs.of_run_frames.Waits.{Waits, waits_on}
use Rattle.plan_ring.specs.of_segment_model.Slaves.{Datagram}
use Rattle.idle_slaves.specs.Frames.{InVain, node_on, memory_on}
use Rattle.idle_slaves.specs.Visited.{Waiting, Chosen, IsStill, LifeSpent, life_visit, memory_of}
use Rattle.idle_slaves.specs.Waiting.{Memory, memory_behind, tried}
use Rattle.idle_slaves.proofs.Choosing.{chosen}
use Rattle.idle_slaves.proofs.Visited.{on, second, none, stepped, life_spent}

module _ {M Q R S : Type 0} (v : Server M S) (x : Spot → Speech M Q R) (acknowledged : Q → Bool) (more : M → Bool) (passed : Q → Bool) (number : ℕ) (back : List (Datagram M)) (a : Clocked M Q R) (u : Under M Q R) (n : Node M S) (m : Memory) (t : Waits)
    (k : Waiting v a.life n m t) (i : InVain x acknowledged more passed number back a u n m t) where
  abbrev behind : Life M Q R
  behind = back_life x acknowledged more passed number back a u

  chose : Chosen v a.life u.life n m t
  chose = subst (λ z. Chosen v a.life z n m t) (sym i.life) (chosen v a.life n m t k (x a.spot) acknowledged more passed number i.pick i.unpaused)

  -- by a visit
  stands : u.life.stand ≡ Stand.Open
  stands = chose.shows.stands

  same : gains (life_back (x a.spot) acknowledged more passed number a.spot u.news back u.came u.life Stand.Open) ≡ gains u.life
  same =
      ap (λ s. gains (life_back (x a.spot) acknowledged more passed number a.spot u.news back u.came u.life s)) (sym stands) ∙ i.same
      ∙ sym (next_same (x a.spot) acknowledged more passed number a.life a.life.stand i.pick) ∙ ap gains (sym i.life)

  still : (life_back (x a.spot) acknowledged more passed number a.spot u.news back u.came u.life Stand.Open).era.passing ≡ u.life.era.passing
  still = ap (λ s. (life_back (x a.spot) acknowledged more passed number a.spot u.news back u.came u.life s).era.passing) (sym stands) ∙ i.still

  visit_still : u.under ≡ true → IsStill t.stepped n (life_visit u.life (memory_of a.life u.life m)) u.news u.life (life_back (x a.spot) acknowledged more passed number a.spot u.news back u.came u.life Stand.Open)
  visit_still e = record { tells = i.tells e; same = still }

  visited : u.under ≡ true → Waiting v behind n (memory_behind (memory_of a.life u.life m) (life_visit u.life (memory_of a.life u.life m))) (tried t)
  visited e =
      subst (λ s. Waiting v (life_back (x a.spot) acknowledged more passed number a.spot u.news back u.came u.life s) n (memory_behind (memory_of a.life u.life m) (life_visit u.life (memory_of a.life u.life m))) (tried t)) (sym stands)
      (on v (x a.spot) acknowledged more passed number a.spot u.news back u.came u.life n m t a.life chose i.row (i.visits e) same (visit_still e))

  -- by none
  left : u.under ≡ false → Waiting v behind n m t
  left e =
      let k' = subst (λ z. Waiting v z n m t) (sym (i.none e).0) k in
      subst (λ s. Waiting v (life_back (x a.spot) acknowledged more passed number a.spot u.news back u.came u.life s) n m t) (sym stands) (none v (x a.spot) acknowledged more passed number a.spot u.news back u.came u.life n m t k' (i.none e).1 still)

  by_under : (b : Bool) → u.under ≡ b →
      Waiting v behind n (if b then memory_behind (memory_of a.life u.life m) (life_visit u.life (memory_of a.life u.life m)) else m) (record t { tries = if b && t.stepped then suc t.tries else t.tries })
  by_under true e = visited e
  by_under false e = left e

  by_step : (b : Bool) (m' : Memory) (w : Waits) → Waiting v behind n m' w → Waiting v behind (if b then processor_step v n else n) m' (record { stepped = if b then true else w.stepped; tries = w.tries })
  by_step true m' w j = stepped v behind n m' w j
  by_step false m' w j = j

  pub waits_so : Waiting v behind (node_on v number a n) (memory_on a u m) (waits_on number a u t)
  waits_so = by_step (suc number % a.pace == 0) (memory_on a u m) (record t { tries = if u.under && t.stepped then suc t.tries else t.tries }) (by_under u.under refl)

  -- BEFORE THE FRAME it was spent
  once : u.under ≡ true → 1 ≤ t.tries → LifeSpent v a.life n
  once e one = (second v (x a.spot) acknowledged more passed number a.spot u.news back u.came u.life n m t a.life chose i.row (i.visits e) same (visit_still e) one).0

  counted : (b c : Bool) → u.under ≡ b → 2 ≤ (if b && c then suc t.tries else t.tries) → LifeSpent v a.life n
  counted true true e two = once e (omega (arith, two))
  counted true false e two = life_spent v a.life n m t k two
  counted false c e two = life_spent v a.life n m t k two

  pub was_spent : 2 ≤ (waits_on number a u t).tries → LifeSpent v a.life n
  was_spent two = counted u.under t.stepped refl two
