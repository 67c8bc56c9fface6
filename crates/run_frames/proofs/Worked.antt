-- Worked rows: a slave that is brought up alone, whose processor makes a step behind each third frame, and a ring of two.
use Rattle.std.proofs.Common.{◌≡◌, ℕ, Bool, true, false, Option, Some, None, zero, suc, ◌<◌, ◌&&◌, inl, List, [], ◌∷◌, refl, sym, ap, subst, arith}
use Rattle.life_runs.specs.of_exchange_model.Exchange.{Speech}
use Rattle.life_runs.specs.of_segment_model.Slaves.{Datagram, Address, Access, Found}
use Rattle.life_runs.specs.of_link_model.Frames.{Ask}
use Rattle.life_runs.specs.of_life_model.Lives.{Spot, Stand, Opening, new_life, life_next, is_shown}
use Rattle.life_runs.specs.of_life_model.Repairs.{awaits_at, awaited}
use Rattle.life_runs.specs.of_life_model.Tally.{new_tally, broken}
use Rattle.run_frames.specs.Clocks.{Clocked, clock_at, ahead_at, repair_of, still_behind, tally_of}
use Rattle.run_frames.specs.Goes.{Under, all_back, all_lost, back_life, clocked_behind}
use Rattle.run_frames.specs.Brings.{AsksClear, StandBrings}
use Rattle.run_frames.specs.Orders.{live_round, opened_on, under_at, is_in}
use Rattle.run_frames.specs.Runs.{Progress, IsRun}
use Rattle.run_frames.specs.Waits.{new_waits}

module _ {M Q R : Type 0} (x : Spot → Speech M Q R) (acknowledged : Q → Bool) (more : M → Bool) (passed : Q → Bool) where
  abbrev spot : Spot
  spot = record { station = 101; place = 0; start = 2 }

  abbrev first : List (Clocked M Q R)
  first = record { spot = spot; life = new_life 2; pace = 3; stepped = false } ∷ []

  -- five accesses, and the wait for a step
  new_one : tally_of 3 1 0 None 0 0 0 first ≡ new_tally 8
  new_one = refl

  -- an access that came back, done, with this
  abbrev goes : ℕ → Option Found → List (Clocked M Q R) → List (Clocked M Q R)
  goes number found [] = []
  goes number found (c ∷ cs) = all_back x acknowledged more passed number [] (c ∷ []) (record { life = c.life; under = true; came = Some (true, found); news = [] } ∷ [])

  -- a step comes behind frames 2, 5 and 8
  clocks : (clock_at 3 0 ≡ 3) × (clock_at 3 2 ≡ 1) × (clock_at 3 3 ≡ 3) × (clock_at 3 4 ≡ 2)
  clocks = (refl, refl, refl, refl)

  abbrev fourth : List (Clocked M Q R)
  fourth = goes 2 None (goes 1 None (goes 0 None first))

  -- each of the first three brings the end a frame nearer
  third : repair_of 3 1 0 None 3 fourth ≡ 5
  third = refl

  -- behind the fourth the state is awaited: a read in vain comes before the step, one behind it
  abbrev waiting : List (Clocked M Q R)
  waiting = goes 3 None fourth

  in_vain : (repair_of 3 1 0 None 4 waiting ≡ 3) × (repair_of 3 1 0 None 5 (goes 4 (Some (Found.State 1 None)) waiting) ≡ 2)
  in_vain = (refl, refl)

  stepped : repair_of 3 1 0 None 6 (goes 5 (Some (Found.State 1 None)) (goes 4 (Some (Found.State 1 None)) waiting)) ≡ 1
  stepped = refl

  -- and then it is open, behind seven frames
  abbrev brought_up : List (Clocked M Q R)
  brought_up = goes 6 (Some (Found.State 2 None)) (goes 5 (Some (Found.State 1 None)) (goes 4 (Some (Found.State 1 None)) waiting))

  opened : tally_of 3 1 1 None 7 0 0 brought_up ≡ record { frames = 7; lost = 0; gains = 0; reopened = 0; repair = 0; still = 0 }
  opened = refl

  -- a lost frame, by which it is given up or isn't
  abbrev loses : Bool → ℕ → List (Clocked M Q R) → List (Clocked M Q R)
  loses gives number [] = []
  loses gives number (c ∷ cs) = all_lost x acknowledged more passed gives 1 number [] (c ∷ []) (record { life = c.life; under = true; came = None; news = [] } ∷ [])

  -- it breaks what a reopening takes, or leaves the repair where it was
  lost : tally_of 3 1 0 None 4 1 0 (loses true 3 fourth) ≡ record { frames = 4; lost = 1; gains = 0; reopened = 0; repair = 15; still = 0 }
  lost = refl

  breaks : broken 1 3 ≡ 15
  breaks = refl

  kept : repair_of 3 1 0 None 4 (loses false 3 fourth) ≡ 5
  kept = refl

  -- the first frame of the open slave that gains nothing
  nothing : still_behind 0 brought_up brought_up 0 ≡ 1
  nothing = refl

  -- two slaves, of which the first was carried last: the second is next, and the round goes on to the first
  abbrev two : List (Clocked M Q R)
  two = record { spot = spot; life = new_life 2; pace = 1; stepped = false } ∷ record { spot = spot; life = new_life 2; pace = 2; stepped = false } ∷ []

  both : tally_of 2 2 0 None 0 0 0 two ≡ new_tally 14
  both = refl

  round : live_round 2 (Some 0) two ≡ 1 ∷ 0 ∷ []
  round = refl

  next : (ahead_at 2 (Some 0) 1 ≡ 0) × (ahead_at 2 (Some 0) 0 ≡ 1)
  next = (refl, refl)

  -- ---- a run of eight frames: the bring-up, and one that finds nothing
  abbrev Run : Progress → List (Clocked M Q R) → Type 0
  Run p cs = IsRun x acknowledged more passed 1 3 first p cs

  abbrev at : ℕ → Progress
  at n = record { frames = n; lost = 0; still = 0; opened = 0; last = None; waits = new_waits ∷ [] }

  -- an access that came back
  abbrev shown : (c : Clocked M Q R) → Option Found → Under M Q R
  shown c found = record { life = c.life; under = true; came = Some (true, found); news = [] }

  on : (n : ℕ) (c : Clocked M Q R) (o : Opening) (found : Option Found) → c.life.stand ≡ Stand.Opens o → (awaits_at o.again o.step ≡ true → c.stepped ≡ true → (true && is_shown (awaited o) found) ≡ true) → Run (at n) (c ∷ []) →
      Run (record { frames = suc n; lost = 0; still = 0; opened = opened_on 0 (all_back x acknowledged more passed n [] (c ∷ []) (shown c found ∷ [])); last = None; waits = new_waits ∷ [] }) (all_back x acknowledged more passed n [] (c ∷ []) (shown c found ∷ []))
  on n c o found e shows r = IsRun.opening (at n) (c ∷ []) (shown c found ∷ []) [] [] None r
      (record { pick = record { begin = None; hold = false }; life = sym (ap (λ s. life_next (x c.spot) acknowledged more passed n c.life s (record { begin = None; hold = false })) e); none = λ out. refl }, tt)
      (record { none = λ out. absurd (cc); some = λ is. subst (StandBrings [] c (shown c found)) (sym e) (record { done = true; found = found; is = refl; shows = shows }) }, tt) (omega arith) (refl, tt)

  abbrev opening : ℕ → Opening
  opening step = record { again = false; step = step; state = 2; own = false }

  begins : Run (at 0) first
  begins = IsRun.start None (refl, tt) (
    record {
      stands = record { first = omega arith; last = omega arith; new = λ is. refl };
      hand = λ is. refl;
      gained = omega arith;
      some = omega arith;
      most = omega arith;
    },
    tt,
  )

  abbrev slave : ℕ → Option Found → Clocked M Q R → Clocked M Q R
  slave n found c = clocked_behind n c (back_life x acknowledged more passed n [] c (shown c found))

  abbrev new : Clocked M Q R
  new = record { spot = spot; life = new_life 2; pace = 3; stepped = false }

  abbrev wrote : Clocked M Q R
  wrote = slave 3 None (slave 2 None (slave 1 None (slave 0 None new)))

  four : Run (at 4) (wrote ∷ [])
  four = on 3 (slave 2 None (slave 1 None (slave 0 None new))) (opening 4) None refl (λ e f. absurd (cc)) (on 2 (slave 1 None (slave 0 None new)) (opening 3) None refl (λ e f. absurd (cc))
      (on 1 (slave 0 None new) (opening 2) None refl (λ e f. absurd (cc)) (on 0 new (opening 1) None refl (λ e f. absurd (cc)) begins)))

  -- two reads in vain, and the one behind the step
  abbrev Init : Option Found
  Init = Some (Found.State 1 None)

  abbrev awake : Clocked M Q R
  awake = slave 6 (Some (Found.State 2 None)) (slave 5 Init (slave 4 Init wrote))

  abbrev seven : Progress
  seven = record { frames = 7; lost = 0; still = 0; opened = 1; last = None; waits = new_waits ∷ [] }

  is_open : Run seven (awake ∷ [])
  is_open = on 6 (slave 5 Init (slave 4 Init wrote)) (opening 5) (Some (Found.State 2 None)) refl (λ e f. refl)
      (on 5 (slave 4 Init wrote) (opening 5) Init refl (λ e f. absurd (cc)) (on 4 wrote (opening 5) Init refl (λ e f. absurd (cc)) four))

  -- a read of mailbox 1 that finds nothing: the slave waits yet
  abbrev read : Datagram M
  read = record { gram = record { station = 101; ask = Ask.ReadMail; counter = 0; mail = None; acknowledge = false }; address = Address.Station 101; access = Access.Elsewhere; counter = 0; found = None }

  abbrev turn : Under M Q R
  turn = record { life = life_next (x spot) acknowledged more passed 7 awake.life Stand.Open (record { begin = None; hold = false }); under = true; came = None; news = [] }

  alone_under : (k : ℕ) → k < 1 → under_at (turn ∷ []) k ≡ is_in k (0 ∷ [])
  alone_under zero l = refl
  alone_under (suc k) l = absurd (omega (arith, l))

  eight : Run (record { frames = 8; lost = 0; still = 1; opened = 1; last = Some 0; waits = record { stepped = false; tries = 0 } ∷ [] }) (all_back x acknowledged more passed 7 (read ∷ []) (awake ∷ []) (turn ∷ []))
  eight = IsRun.round seven (awake ∷ []) (turn ∷ []) (read ∷ []) (read ∷ []) (0 ∷ []) is_open (record { pick = record { begin = None; hold = false }; life = refl; none = λ out. absurd (cc) }, tt)
      (record { none = λ out. absurd (cc); some = λ is. record { datagram = read; one = refl; station_is = refl; asks = AsksClear.read } }, tt) (omega arith)
      (record { first = record { rest = []; whole = refl; some = omega arith }; under = alone_under }) (λ e. inl (refl, omega arith))
