-- Frame by frame.
use Rattle.std.proofs.Common.{◌≡◌, ◌⊎◌, ◌≤◌, ℕ, suc, ◌+◌, ◌==◌, Bool, true, false, Option, List, length, refl, sym, ap, ◌∙◌, arith, if◌then◌else◌, inl, inr, eq-eqb}
use Rattle.std.proofs.lemmas.Bool.{eqb-true}
use Rattle.idle_slaves.specs.Eager.{Remembered}
use Rattle.plan_ring.specs.of_life_runs.First.{lens_of, first_leads}
use Rattle.plan_ring.specs.of_life_runs.Led.{Exchanged, Leads}
use Rattle.plan_ring.specs.of_run_frames.Clocks.{repair_of}
use Rattle.plan_ring.specs.of_run_frames.Led.{behind_back, still_led, waits_led}
use Rattle.plan_ring.specs.of_run_frames.Runs.{Progress}
use Rattle.plan_ring.specs.of_run_frames.Toured.{IsToured}
use Rattle.plan_ring.specs.of_run_frames.Waits.{Waits, all_anew}
use Rattle.plan_ring.specs.of_segment_plan.declared.plan.Scenario.{Scenario}
use Rattle.idle_slaves.proofs.Lists.{Slave, still_same}
use Rattle.idle_slaves.specs.Entered.{EagerBut, host_frames, Entered}

-- the same number, or another
same_or : (a b : ℕ) → (a ≡ b) ⊎ ((a == b) ≡ false)
same_or a b = go (a == b) refl
  where
    go : (c : Bool) → (a == b) ≡ c → (a ≡ b) ⊎ ((a == b) ≡ false)
    go true e = inl (eqb-true a b e)
    go false e = inr e

differs : {X : Type 0} (a b : ℕ) → (a == b) ≡ false → a ≡ b → X
differs a b other same = absurd (let never : true ≡ false = sym (eq-eqb a b same) ∙ other in cc)

bool_is : (b : Bool) → (b ≡ true) ⊎ (b ≡ false)
bool_is true = inl refl
bool_is false = inr refl

few_more : (n : ℕ) (b : Bool) → n ≤ n + (if b then 1 else 0)
few_more n true = omega arith
few_more n false = omega arith

one_more : (n : ℕ) (b : Bool) → b ≡ true → suc n ≡ n + (if b then 1 else 0)
one_more n b e = let sum : suc n ≡ n + 1 = omega arith in sum ∙ ap (λ (c : Bool). n + (if c then 1 else 0)) (sym e)

module _ (plan : Scenario) (slowest : ℕ) (paces : List ℕ) where
  abbrev Run : List Exchanged → Option (List ℕ) → ℕ → List Leads → Progress → List Slave → Type 0
  Run fs again missed as' p cs = IsToured (lens_of plan.slaves) plan.recover plan.retry slowest (first_leads plan) paces fs again missed as' p cs

  abbrev at : Progress → ℕ → ℕ → List Waits → Progress
  at p lost still waits = record p { lost = lost; still = still; waits = waits }

  pub entered : (fs : List Exchanged) (again : Option (List ℕ)) (missed : ℕ) (as' : List Leads) (p : Progress) (cs : List Slave) (ns : List Remembered) → (run : Run fs again missed as' p cs) (e : EagerBut plan run ns) → Entered plan slowest paces fs again missed as' p cs ns run e
  entered fs again missed as' p cs ns IsToured.start e = record { lost = 0; still = 0; waits = p.waits; run = IsToured.start; few = omega arith; asks = λ a. a; eager = tt }
  entered gs again' missed' bs q ds ns (IsToured.lost fs again missed as' p cs f us after ps r l fate v) e =
      let k = entered fs again missed as' p cs e.0 r e.1 in
      record {
        lost = suc k.lost;
        still = 0;
        waits = all_anew cs;
        run = IsToured.lost fs again missed as' (at p k.lost k.still k.waits) cs f us after ps k.run l fate v;
        few = (let few = k.few in omega (arith, few));
        asks = k.asks;
        eager = (e.0, k.eager);
      }
  entered gs again' missed' bs q ds ns (IsToured.opening fs again missed as' p cs f us ps r l fate under v) e =
      let k = entered fs again missed as' p cs e.0 r e.1 in
      record {
        lost = k.lost;
        still = k.still;
        waits = all_anew cs;
        run = IsToured.opening fs again missed as' (at p k.lost k.still k.waits) cs f us ps k.run l fate under v;
        few = (let few = k.few in omega (arith, few));
        asks = λ a. (a.0, k.asks a.1);
        eager = (e.0, k.eager);
      }
  entered gs again' missed' bs q ds ns (IsToured.enters fs again missed as' p cs f us ps r l fate over v nothing) e =
      let k = entered fs again missed as' p cs e.0 r e.1 in
      let P = at p k.lost k.still k.waits in
      elim (same_or (still_led (lens_of plan.slaves) plan.recover plan.retry slowest P f us cs) (suc k.still)) [
        | inl counted ↦ record {
          lost = suc k.lost;
          still = 0;
          waits = all_anew cs;
          run = IsToured.enters fs again missed as' P cs f us ps k.run l fate over v counted;
          few = (let few = k.few in omega (arith, few));
          asks = λ a. (a.0, k.asks a.1);
          eager = (e.0, k.eager);
        }
        | inr other ↦ record {
          lost = k.lost;
          still = still_led (lens_of plan.slaves) plan.recover plan.retry slowest P f us cs;
          waits = waits_led (lens_of plan.slaves) plan.recover plan.retry slowest P f us cs;
          run = IsToured.round fs again missed as' P cs f us ps k.run l fate over v;
          few = (let few = k.few in omega (arith, few));
          asks = λ a. (a.0, k.asks a.1);
          eager = (e.0, (λ counted. differs (still_led (lens_of plan.slaves) plan.recover plan.retry slowest P f us cs) (suc k.still) other counted), k.eager);
        }
      ]
  entered gs again' missed' bs q ds ns (IsToured.round fs again missed as' p cs f us ps r l fate over v) e =
      let k = entered fs again missed as' p cs e.0 r e.3 in
      let P = at p k.lost k.still k.waits in
      let before = host_frames plan r e.0 e.3 in
      elim (bool_is e.1) [
        | inl is ↦ elim (same_or (still_led (lens_of plan.slaves) plan.recover plan.retry slowest P f us cs) (suc k.still)) [
          | inl counted ↦ record {
            lost = suc k.lost;
            still = 0;
            waits = all_anew cs;
            run = IsToured.enters fs again missed as' P cs f us ps k.run l fate over v counted;
            few = (let few = k.few in let more = one_more before e.1 is in omega (arith, few, more));
            asks = λ a. (a.0, k.asks a.1);
            eager = (e.0, k.eager);
          }
          | inr other ↦ record {
            lost = k.lost;
            still = still_led (lens_of plan.slaves) plan.recover plan.retry slowest P f us cs;
            waits = waits_led (lens_of plan.slaves) plan.recover plan.retry slowest P f us cs;
            run = IsToured.round fs again missed as' P cs f us ps k.run l fate over v;
            few = (let few = k.few in let more = few_more before e.1 in omega (arith, few, more));
            asks = λ a. (a.0, k.asks a.1);
            eager = (e.0, (λ counted. differs (still_led (lens_of plan.slaves) plan.recover plan.retry slowest P f us cs) (suc k.still) other counted), k.eager);
          }
        ]
        | inr isnt ↦ record {
          lost = k.lost;
          still = still_led (lens_of plan.slaves) plan.recover plan.retry slowest P f us cs;
          waits = waits_led (lens_of plan.slaves) plan.recover plan.retry slowest P f us cs;
          run = IsToured.round fs again missed as' P cs f us ps k.run l fate over v;
          few = (let few = k.few in let more = few_more before e.1 in omega (arith, few, more));
          asks = λ a. (a.0, k.asks a.1);
          eager = (
            e.0,
            (λ counted. (let same = still_same (repair_of slowest (length cs) p.opened p.last p.frames cs) cs (behind_back (lens_of plan.slaves) plan.recover plan.retry slowest p.frames f us cs) k.still counted in e.2 isnt same.1)),
            k.eager,
          );
        }
      ]
