-- No repair takes longer than a reopening.
use Rattle.std.proofs.Common.{ℕ, zero, suc, ◌+◌, ◌≤◌, Bool, true, false, Option, Some, List, [], ◌∷◌, length, arith, if◌then◌else◌}
use Rattle.std.specs.Prelude.{nat_le}
use Rattle.life_runs.specs.of_link_model.Master.{InState}
use Rattle.life_runs.specs.of_life_model.Lives.{Stand, Life, Opening}
use Rattle.life_runs.specs.of_life_model.Deadlines.{deadline, repair}
use Rattle.life_runs.specs.of_life_model.Repairs.{way_of, stand_way, half_way, opening_way, whole_way, StandsAt, IsAt}
use Rattle.life_runs.specs.of_life_model.Tally.{broken}
use Rattle.run_frames.specs.Clocks.{Clocked, standing, in_round, ahead_at}
use Rattle.run_frames.specs.Goes.{AllClocked}
use Rattle.run_frames.proofs.Clocking.{ahead_less}
use Rattle.run_frames.proofs.Losing.{most_of}
use Rattle.run_frames.proofs.Lost.{timed}

opening_most : {M Q R : Type 0} (slaves pace : ℕ) (l : Life M Q R) (again : Bool) (step state : ℕ) (own : Bool) → (let o : Opening = record { again = again; step = step; state = state; own = own } in IsAt l o → whole_way slaves pace (Some (opening_way slaves pace o)) ≤ broken slaves pace)
opening_most slaves pace l true zero state own at = absurd (omega (arith, at.first))
opening_most slaves pace l true (suc zero) state own at = omega arith
opening_most slaves pace l true (suc (suc zero)) state own at = omega arith
opening_most slaves pace l true (suc (suc (suc zero))) state own at = omega arith
opening_most slaves pace l true (suc (suc (suc (suc zero)))) state own at = omega arith
opening_most slaves pace l true (suc (suc (suc (suc (suc zero))))) state own at = omega arith
opening_most slaves pace l true (suc (suc (suc (suc (suc (suc zero)))))) state own at = omega arith
opening_most slaves pace l true (suc (suc (suc (suc (suc (suc (suc zero))))))) state own at = omega arith
opening_most slaves pace l true (suc (suc (suc (suc (suc (suc (suc (suc zero)))))))) state own at = omega arith
opening_most slaves pace l true (suc (suc (suc (suc (suc (suc (suc (suc (suc zero))))))))) state own at = omega arith
opening_most slaves pace l true (suc (suc (suc (suc (suc (suc (suc (suc (suc (suc step)))))))))) state own at =
    absurd (let last : suc (suc (suc (suc (suc (suc (suc (suc (suc (suc step))))))))) ≤ 9 = at.last in omega (arith, last))
opening_most slaves pace l false zero state own at = absurd (omega (arith, at.first))
opening_most slaves pace l false (suc zero) state own at = omega arith
opening_most slaves pace l false (suc (suc zero)) state own at = omega arith
opening_most slaves pace l false (suc (suc (suc zero))) state own at = omega arith
opening_most slaves pace l false (suc (suc (suc (suc zero)))) state own at = omega arith
opening_most slaves pace l false (suc (suc (suc (suc (suc zero))))) state own at = omega arith
opening_most slaves pace l false (suc (suc (suc (suc (suc (suc step)))))) state own at =
    absurd (let last : suc (suc (suc (suc (suc (suc step))))) ≤ 5 = at.last in omega (arith, last))

half_most : (slaves pace : ℕ) (s : InState) → whole_way slaves pace (half_way slaves pace s) ≤ broken slaves pace
half_most slaves pace InState.Clear = omega arith
half_most slaves pace InState.Doubt = omega arith
half_most slaves pace InState.Asked = omega arith
half_most slaves pace InState.Refetch = omega arith

stand_most : {M Q R : Type 0} (slaves pace : ℕ) (l : Life M Q R) (state : InState) (s : Stand) → StandsAt l s → whole_way slaves pace (stand_way slaves pace state s) ≤ broken slaves pace
stand_most slaves pace l state (Stand.Opens o) at = opening_most slaves pace l o.again o.step o.state o.own at
stand_most slaves pace l state Stand.Open at = half_most slaves pace state
stand_most slaves pace l state Stand.Gone at = omega arith

-- OF ANY LIFE
pub life_most : {M Q R : Type 0} (slaves pace : ℕ) (l : Life M Q R) → StandsAt l l.stand → whole_way slaves pace (way_of slaves pace l) ≤ broken slaves pace
life_most slaves pace l at = stand_most slaves pace l l.era.side.halves.inn.state l.stand at

-- OF ALL
pub all_most : {M Q R : Type 0} (slowest count : ℕ) (last : Option ℕ) (number place : ℕ) (cs : List (Clocked M Q R)) → place + length cs ≤ count → AllClocked slowest cs → repair count (in_round slowest count last number place cs) ≤ broken count slowest
all_most slowest count last number place [] long k = omega arith
all_most slowest count last number place (c ∷ cs) long k =
    let s = standing count slowest (ahead_at count last place) number c in
    let t = timed count slowest (ahead_at count last place) number c k.0 (ahead_less count last place (omega (arith, long))) in
    let one : deadline count s ≤ broken count slowest = omega (arith, most_of count slowest s s.way t, life_most count slowest c.life k.0.stands) in
    let others = all_most slowest count last number (suc place) cs (omega (arith, long)) k.1 in
    go (nat_le (repair count (in_round slowest count last number (suc place) cs)) (deadline count s)) one others
  where
    go : (b : Bool) → deadline count (standing count slowest (ahead_at count last place) number c) ≤ broken count slowest → repair count (in_round slowest count last number (suc place) cs) ≤ broken count slowest →
        (if b then deadline count (standing count slowest (ahead_at count last place) number c) else repair count (in_round slowest count last number (suc place) cs)) ≤ broken count slowest
    go true one others = one
    go false one others = others
