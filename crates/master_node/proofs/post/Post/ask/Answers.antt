use Rattle.std.proofs.Common.{◌≡◌, ℕ, ◌<◌, Result, Ok, Err, true, false, List, [], ◌∷◌, ◌++◌, length, refl, ap, sym, ◌∙◌, arith}
use Rattle.std.specs.Prelude.{IfErr, IsOk, OnOk}
use Rattle.std.proofs.lemmas.Bool.Decides.{nat_tests}
use Rattle.circular_buffer.specs.Buffer.{Buffer, buffer}
use Rattle.master_node.proofs.post.Post.ask.Goals as goal

-- what is pushed where there is room stands behind the rest
pushed : {T E : Type 0} (room : Result (Unit {0}) E) (xs : List T) (x : T) (n : ℕ) (b : Buffer T) → (length xs < n → IsOk room) → OnOk room (b ≡ buffer (xs ++ x ∷ []) n) → length xs < n → b.items ≡ xs ++ x ∷ []
pushed {T} (Ok u) xs x n b v o l = ap (λ (z : Buffer T). z.items) o
pushed {T} (Err e) xs x n b v o l = absurd (let bad : false ≡ true = v l in cc)

-- none waits behind it only where none did
no_last : {T : Type 0} (xs : List T) (x : T) → xs ++ x ∷ [] ≡ [] → ⊥
no_last [] x e = cc
no_last (y ∷ ys) x e = cc

emptied : {T : Type 0} (room : Result (Unit {0}) T) (old new : Buffer T) (x : T) (n : ℕ) → OnOk room (new ≡ buffer (old.items ++ x ∷ []) n) → IfErr room (λ y. (y ≡ x) × (new ≡ old)) → new.items ≡ [] → old.items ≡ []
emptied {T} (Ok u) old new x n o i e = absurd (no_last old.items x (sym (ap (λ (z : Buffer T). z.items) o) ∙ e))
emptied {T} (Err y) old new x n o i e = sym (ap (λ (z : Buffer T). z.items) i.1) ∙ e

pub returns-then-is_full-clause-empty : goal.returns-then-is_full-clause-empty
returns-then-is_full-clause-empty c = λ e. e

pub returns-clause-empty : goal.returns-clause-empty
returns-clause-empty c = λ e.
    emptied c.try_push_back-room.result c.args.self.now.mails c.try_push_back-room.new.self (record { key = c.args.key; mail = c.bare.result }) c.args.self.now.mails.capacity c.try_push_back-room.ensures.ok c.try_push_back-room.ensures.err e

pub returns-then-is_full-clause-appends : goal.returns-then-is_full-clause-appends
returns-then-is_full-clause-appends c = λ l. absurd (let r = c.args.self.now.room in let f = sym c.is_full.ensures ∙ c.if-is_full.true in grind (arith, nat_tests, l, r, f))

pub returns-clause-appends : goal.returns-clause-appends
returns-clause-appends c = λ l. record {
  asked = record { key = c.args.key; mail = c.bare.result };
  waits = pushed c.try_push_back-room.result c.args.self.now.mails.items (record { key = c.args.key; mail = c.bare.result }) c.args.self.now.mails.capacity c.try_push_back-room.new.self c.try_push_back-room.ensures.variant.1 c.try_push_back-room.ensures.ok (let r = c.args.self.now.room in omega (arith, l, r));
  key_is = refl;
  bare = c.bare.ensures.local;
  kind = c.bare.ensures.same.0;
  body = c.bare.ensures.same.1;
}
