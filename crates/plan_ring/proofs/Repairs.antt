-- Nothing is to be repaired.
use Rattle.std.proofs.Common.{◌≡◌, ◌≤◌, ℕ, suc, ◌+◌, Bool, true, false, Option, Some, None, List, [], ◌∷◌, length, refl, sym, ap, ◌∙◌, arith, if◌then◌else◌}
use Rattle.std.specs.Prelude.{nat_le, nat_lt, map}
use Rattle.std.proofs.lemmas.Bool.{le-leb, leb-true, le-ltb}
use Rattle.whole_ring.specs.of_life_model.Deadlines.{Standing, deadline, deadline_of, is_vain, repair}
use Rattle.whole_ring.specs.of_life_model.Repairs.{Way, way_of, stand_way}
use Rattle.whole_ring.specs.of_life_model.Lives.{Stand}
use Rattle.whole_ring.specs.of_link_model.Master.{InState}
use Rattle.run_frames.specs.Clocks.{Clocked, standing, in_round, ahead_at, repair_of, alone, one_by_one}
use Rattle.run_frames.specs.Orders.{AllRepaired}

not_less : (a b : ℕ) → b ≤ a → nat_lt a b ≡ false
not_less a b le = le-ltb a b le

-- a way takes at least a frame
way_takes : (slaves : ℕ) (s : Standing) (w : Way) → 1 ≤ slaves → 1 ≤ deadline_of slaves s (Some w)
way_takes slaves s w some = by (is_vain w s.stepped)
  where
    by : (b : Bool) → 1 ≤ w.rest + (if b then s.clock + slaves else suc s.ahead)
    by true = omega (arith, some)
    by false = omega arith

-- whatever the ring, there is a way or there is none
no_way : (n p k q : ℕ) (state : InState) (stand : Stand) → stand_way n p state stand ≡ None → stand_way k q state stand ≡ None
no_way n p k q state (Stand.Opens o) e = absurd (cc)
no_way n p k q InState.Clear Stand.Open e = refl
no_way n p k q InState.Doubt Stand.Open e = absurd (cc)
no_way n p k q InState.Asked Stand.Open e = absurd (cc)
no_way n p k q InState.Refetch Stand.Open e = absurd (cc)
no_way n p k q state Stand.Gone e = refl

deadline_none : (slaves : ℕ) (s : Standing) (way : Option Way) → 1 ≤ slaves → s.way ≡ way → deadline slaves s ≡ 0 → way ≡ None
deadline_none slaves s None some e zero_is = refl
deadline_none slaves s (Some w) some e zero_is = absurd (let long = way_takes slaves s w some in let is = ap (deadline_of slaves s) (sym e) ∙ zero_is in omega (arith, long, is))

-- the greatest is nothing where each is
both_zero : (a b : ℕ) → (if nat_le b a then a else b) ≡ 0 → (a ≡ 0) × (b ≡ 0)
both_zero a b e = go (nat_le b a) refl e
  where
    go : (t : Bool) → nat_le b a ≡ t → (if t then a else b) ≡ 0 → (a ≡ 0) × (b ≡ 0)
    go true is e = (e, (let le = leb-true b a is in omega (arith, le, e)))
    go false is e = absurd (let never : true ≡ false = sym (le-leb b a (omega (arith, e))) ∙ is in cc)

module _ {M Q R : Type 0} (slowest : ℕ) where
  round_none : (count place : ℕ) (last : Option ℕ) (number : ℕ) (cs : List (Clocked M Q R)) → 1 ≤ count → repair count (in_round slowest count last number place cs) ≡ 0 → AllRepaired cs
  round_none count place last number [] some e = tt
  round_none count place last number (c ∷ cs) some e =
      let s = standing count slowest (ahead_at count last place) number c in
      let both = both_zero (deadline count s) (repair count (in_round slowest count last number (suc place) cs)) e in (
        no_way count slowest 1 1 c.life.era.side.halves.inn.state c.life.stand (deadline_none count s (way_of count slowest c.life) some refl both.0),
        round_none count (suc place) last number cs some both.1,
      )

  round_some : (count place : ℕ) (last : Option ℕ) (number : ℕ) (cs : List (Clocked M Q R)) → AllRepaired cs → repair count (in_round slowest count last number place cs) ≡ 0
  round_some count place last number [] all = refl
  round_some count place last number (c ∷ cs) all =
      let s = standing count slowest (ahead_at count last place) number c in
      let none : way_of count slowest c.life ≡ None = no_way 1 1 count slowest c.life.era.side.halves.inn.state c.life.stand all.0 in
      let first : deadline count s ≡ 0 = ap (deadline_of count s) none in
      (λ i. if nat_le (round_some count (suc place) last number cs all.1 i) (first i) then first i else round_some count (suc place) last number cs all.1 i)

  behind_first : (opened number : ℕ) (last : Option ℕ) (cs : List (Clocked M Q R)) → length cs ≤ opened → repair_of slowest (length cs) opened last number cs ≡ repair (length cs) (in_round slowest (length cs) last number 0 cs)
  behind_first opened number last cs over =
      ap (λ (b : Bool). if b then one_by_one (map (alone slowest number) cs) else repair (length cs) (in_round slowest (length cs) last number 0 cs)) (not_less opened (length cs) over)

  some_slave : (c : Clocked M Q R) (cs : List (Clocked M Q R)) → 1 ≤ length (c ∷ cs)
  some_slave c cs = omega arith

  pub all_repaired : (opened number : ℕ) (last : Option ℕ) (cs : List (Clocked M Q R)) → length cs ≤ opened → repair_of slowest (length cs) opened last number cs ≡ 0 → AllRepaired cs
  all_repaired opened number last [] over e = tt
  all_repaired opened number last (c ∷ cs) over e = round_none (length (c ∷ cs)) 0 last number (c ∷ cs) (some_slave c cs) (sym (behind_first opened number last (c ∷ cs) over) ∙ e)

  pub none_repaired : (opened number : ℕ) (last : Option ℕ) (cs : List (Clocked M Q R)) → length cs ≤ opened → AllRepaired cs → repair_of slowest (length cs) opened last number cs ≡ 0
  none_repaired opened number last cs over all = behind_first opened number last cs over ∙ round_some (length cs) 0 last number cs all
