-- The ways in which a call ends.
use Rattle.std.specs.Prelude.{Result, Ok, Err, OnOk, OnErr}

-- what holds whichever way a call ended
pub any_ok : {T E P : Type 0} (r : Result T E) → P → OnOk r P
any_ok (Ok v) p = p
any_ok (Err e) p = tt

pub any_err : {T E P : Type 0} (r : Result T E) → P → OnErr r P
any_err (Ok v) p = tt
any_err (Err e) p = p

pub on_ok_all : {T E P Q R S : Type 0} (r : Result T E) → (P → Q → R → S) → OnOk r P → OnOk r Q → OnOk r R → OnOk r S
on_ok_all (Ok v) f p q r = f p q r
on_ok_all (Err e) f p q r = tt

pub on_ok_both : {T E : Type 0} (P Q : Type 0) (r : Result T E) → OnOk r P → OnOk r Q → OnOk r (P × Q)
on_ok_both P Q (Ok v) p q = (p, q)
on_ok_both P Q (Err e) p q = tt
