-- The slave's table of changes is one of which the laws of state services speak, and none of its codes is 0.
use Rattle.std.proofs.Common.{◌≡◌, ◌≢◌, ℕ, ◌==◌, ◌&&◌, ◌||◌, Bool, true, false, not, Option, Some, None, refl, ap, ◌∙◌, arith, if◌then◌else◌}
use Rattle.std.proofs.lemmas.Bool.Decides.{nat_tests}
use Rattle.slave_node.specs.of_al_state.Request.{is_state, is_change, refusal_of}
use Rattle.frame_view.specs.of_state_model.Promises.{IsTable}
use Rattle.frames_seen.specs.Shows.{slave_table}

abbrev pub answer : Bool → Bool → Bool → Bool → Bool → Option ℕ
answer known denied change first second =
    if not known then Some 18 else if denied then Some 19 else if not change then Some 17 else if first then Some 21 else if second then Some 22 else None

same : (n : ℕ) → (n == n) ≡ true
same n = grind (arith, nat_tests)

one : (to : ℕ) (areas : Bool) → (to == 1 && to == 3 && not areas) ≡ false
one to areas = grind (arith, nat_tests)

two : (to : ℕ) (areas : Bool) → (to == 1 && to == 2 && not areas) ≡ false
two to areas = grind (arith, nat_tests)

stays : (boot areas : Bool) (from to : ℕ) → refusal_of from to boot areas ≡ None → refusal_of to to boot areas ≡ None
stays boot areas from to e = go (is_state to) (to == 3 && not boot) (is_change from to) (from == 1 && to == 3 && not areas) (from == 1 && to == 2 && not areas) refl refl e
  where
    go : (known denied change first second : Bool) → is_state to ≡ known → (to == 3 && not boot) ≡ denied → answer known denied change first second ≡ None → refusal_of to to boot areas ≡ None
    go false denied change first second k d f = absurd (cc)
    go true true change first second k d f = absurd (cc)
    go true false change first second k d f =
        ap (λ b. answer b (to == 3 && not boot) (is_change to to) (to == 1 && to == 3 && not areas) (to == 1 && to == 2 && not areas)) k
        ∙ ap (λ b. answer true b (is_change to to) (to == 1 && to == 3 && not areas) (to == 1 && to == 2 && not areas)) d
        ∙ ap (λ b. answer true false b (to == 1 && to == 3 && not areas) (to == 1 && to == 2 && not areas)) itself
        ∙ ap (λ b. answer true false true b (to == 1 && to == 2 && not areas)) (one to areas)
        ∙ ap (λ b. answer true false true false b) (two to areas)
      where
        itself : is_change to to ≡ true
        itself = ap (λ b. b || to == 1 && to == 2 || to == 1 && to == 3 || to == 3 && to == 1 || to == 2 && to == 1 || to == 2 && to == 4 || to == 4 && to == 8 || to == 4 && to == 2 || to == 4 && to == 1 || to == 8 && to == 4 || to == 8 && to == 2 || to == 8 && to == 1) (same to)

pub is_table : (boot areas : Bool) (start : ℕ) → refusal_of start start boot areas ≡ None → IsTable (slave_table boot areas) start
is_table boot areas start e = record { sits = e; stays = λ from to f. stays boot areas from to f }

answer_coded : (known denied change first second : Bool) (code : ℕ) → answer known denied change first second ≡ Some code → code ≢ 0
answer_coded false denied change first second code e = λ z. absurd (let f : Some 18 ≡ Some code = e in cc)
answer_coded true true change first second code e = λ z. absurd (let f : Some 19 ≡ Some code = e in cc)
answer_coded true false false first second code e = λ z. absurd (let f : Some 17 ≡ Some code = e in cc)
answer_coded true false true true second code e = λ z. absurd (let f : Some 21 ≡ Some code = e in cc)
answer_coded true false true false true code e = λ z. absurd (let f : Some 22 ≡ Some code = e in cc)
answer_coded true false true false false code e = absurd (cc)

pub coded : (boot areas : Bool) (from to code : ℕ) → refusal_of from to boot areas ≡ Some code → code ≢ 0
coded boot areas from to code e = answer_coded (is_state to) (to == 3 && not boot) (is_change from to) (from == 1 && to == 3 && not areas) (from == 1 && to == 2 && not areas) code e
