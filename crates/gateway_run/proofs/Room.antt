-- Whether more can be heard, and how many frames can be sent.
use Rattle.std.proofs.Common.{◌≡◌, ◌<◌, ◌≤◌, ℕ, ◌&&◌, Bool, true, false, not, nat_lt, ◌↔◌, if◌then◌else◌, length, refl, ltb-true, arith}
use Rattle.std.proofs.lemmas.Bool.{leb-true, leb-false}
use Rattle.std.specs.Prelude.{Option, Some, None, IfSome, IsTrue, nat_le, vec_len}
use Rattle.run_record.specs.Session.{budget_or}
use Rattle.run_record.specs.of_run_book.declared.book.Book.{Book}
use Rattle.gateway_run.specs.Serving.{can_hear}
use Rattle.gateway_run.specs.declared.desk.Desk.{Desk}
use Rattle.gateway_run.specs.declared.turn.Serving.{Serving}

both : (x y : Bool) → (x && y) ≡ true → (x ≡ true) × (y ≡ true)
both true y e = (refl, e)
both false y e = absurd (cc)

shut : (x : Bool) → not x ≡ true → x ≡ false
shut true e = absurd (cc)
shut false e = refl

-- the port isn't over, where more can be heard
pub not_over : (v : Serving) (b : Book) → can_hear v b ≡ true → v.over ≡ false
not_over v b can = shut v.over (both (not v.over) (nat_lt (length b.grams) v.count) can).0

pub room : (v : Serving) (b : Book) → can_hear v b ≡ true → length b.grams < v.count
room v b can = ltb-true (length b.grams) v.count (both (not v.over) (nat_lt (length b.grams) v.count) can).1

small_by : (frames : ℕ) (less : Bool) → nat_lt frames 100000000 ≡ less → (if less then frames else 100000000) ≤ 100000000
small_by frames true is = omega (arith, ltb-true frames 100000000 is)
small_by frames false is = omega arith

-- a plan's budget, or the bound where it has none
pub small_budget : (bound : ℕ) (budget : Option ℕ) → IfSome budget (λ frames. (1 ≤ frames) × (frames ≤ 100000000)) → budget_or budget bound ≤ 100000000
small_budget bound (Some frames) h = h.1
small_budget bound None h = small_by bound (nat_lt bound 100000000) refl

-- fewer than 64 requests are unfinished, where not as many are as may be
pub not_full : (d : Desk) (full : Bool) → (IsTrue full ↔ (64 ≤ vec_len d.requests)) → full ≡ false → length d.requests.items < 64
not_full d full says is = least (nat_le 64 (vec_len d.requests)) refl
  where
    least : (b : Bool) → nat_le 64 (vec_len d.requests) ≡ b → length d.requests.items < 64
    least true e = absurd (let bad = says.1 (leb-true 64 (vec_len d.requests) e) in cc)
    least false e = let less = leb-false 64 (vec_len d.requests) e in let n = d.requests.ok.0 in omega (arith, less, n)
