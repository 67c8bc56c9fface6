-- A SERVICE BY MAILS THAT CAME INTO HAND is the newest, and has a mail: one is held behind the visit, or could be taken up.
use Rattle.std.proofs.Common.{◌≡◌, ℕ, Bool, true, false, Some, None, Option, List, [], ◌∷◌, ◌++◌, length, refl, sym, ap, ◌∙◌, subst, arith}
use Rattle.std.specs.Prelude.{◌&&◌, if◌then◌else◌}
use Rattle.std.proofs.lemmas.List.{length-append}
use Rattle.life_runs.specs.of_exchange_model.Exchange.{Speech}
use Rattle.life_runs.specs.of_exchange_model.Rows.{Row, begun}
use Rattle.life_runs.specs.of_segment_model.Ends as Ends
use Rattle.life_runs.specs.of_segment_model.Seats.{Side, first_left, is_over, next_mail, side_begins, side_holds, side_next}
use Rattle.life_runs.specs.of_state_model.Stated.{Service}
use Rattle.life_runs.specs.of_state_model.Accounts.{Account, Duty, Pick, account_begins, account_next, is_free, mails_begin, mails_choice, starts}
use Rattle.life_runs.specs.of_life_model.Lives.{Life, Stand, granted, life_next}

none_first : {M : Type 0} (ms : List M) → first_left ms ≡ [] → ms ≡ []
none_first [] e = refl
none_first (m ∷ ms) e = absurd (cc)

pub no_more : {T : Type 0} (xs : List T) (x : T) → xs ≡ xs ++ x ∷ [] → ⊥
no_more xs x e = let n : length xs ≡ length (xs ++ x ∷ []) = ap length e in let m = length-append xs (x ∷ []) in omega (arith, n, m)

and_fst : (a b : Bool) → (a && b) ≡ true → a ≡ true
and_fst true b e = refl
and_fst false b e = absurd (cc)

-- THE NEWEST SERVICE is this one, which came into hand before the frame with this number, and then a mail of it was taken up, or none was
pub record Newest {M Q R : Type 0} (x : Speech M Q R) (made : ℕ) (q : Q) (k : Side M Q R) : Type 0 where
  pub valid : x.valid q ≡ true
  pub side : Side M Q R
  pub hold : Bool
  pub now : side.now ≡ Some (begun q made)
  pub is : k ≡ side_holds side (next_mail x side.now side.halves.out.holding hold)

module _ {M Q R : Type 0} (x : Speech M Q R) (q : Q) (made : ℕ) where
  left_begun : next_mail x (Some (begun q made)) None true ≡ [] → x.planned q [] ≡ []
  left_begun e = none_first (x.planned q []) e

  -- none is held, and none could be taken up: it has none
  unheld_by : (d : Side M Q R) (hold : Bool) → d.now ≡ Some (begun q made) → (side_holds d (next_mail x d.now d.halves.out.holding hold)).halves.out.holding ≡ None →
      next_mail x (side_holds d (next_mail x d.now d.halves.out.holding hold)).now None true ≡ [] → x.planned q [] ≡ []
  unheld_by d hold e n t = go (next_mail x d.now d.halves.out.holding hold) n t
    where
      go : (ms : List M) → (side_holds d ms).halves.out.holding ≡ None → next_mail x (side_holds d ms).now None true ≡ [] → x.planned q [] ≡ []
      go [] n t = left_begun (subst (λ z. next_mail x z None true ≡ []) e t)
      go (m ∷ ms) n t = absurd (cc)

  pub unheld : (k : Side M Q R) → Newest x made q k → k.halves.out.holding ≡ None → next_mail x k.now None true ≡ [] → x.planned q [] ≡ []
  unheld k n h t = unheld_by n.side n.hold n.now (subst (λ (z : Side M Q R). z.halves.out.holding ≡ None) n.is h) (subst (λ (z : Side M Q R). next_mail x z.now None true ≡ []) n.is t)

  -- it is counted only where it came into hand
  counted_by : (a : Account Q R) (b : Bool) → (if b then record a { started = starts a (Service.Mails q) made } else a).started ≡ starts a (Service.Mails q) made → b ≡ true
  counted_by a true e = refl
  counted_by a false e = absurd (no_more a.started _ e)

  begins_now : (d : Side M Q R) (now : Option (Row M Q R)) → (x.valid q && is_free x d now) ≡ true → (side_begins x made d now (Some q)).now ≡ Some (begun q made)
  begins_now d None e = by_valid (x.valid q) (and_fst (x.valid q) true e)
    where
      by_valid : (b : Bool) → b ≡ true → (if b then record d { now = Some (begun q made) } else d).now ≡ Some (begun q made)
      by_valid true e = refl
      by_valid false e = absurd (cc)
  begins_now d (Some r) e = by_over (x.valid q && is_over x d.halves.out.holding d.fresh r) e
    where
      by_over : (b : Bool) → b ≡ true → (if b then record d { past = d.past ++ r ∷ []; now = Some (begun q made) } else d).now ≡ Some (begun q made)
      by_over true e = refl
      by_over false e = absurd (cc)

  module _ (acknowledged : Q → Bool) (more : M → Bool) (passed : Q → Bool) where
    by_passing : (l : Life M Q R) (passing : Option Ends.Passing) (pick : Pick Q) → pick.begin ≡ Some (Service.Mails q) → (account_next x acknowledged made l.era.side l.era.account (granted passing pick)).started ≡ starts l.era.account (Service.Mails q) made →
        Newest x made q (side_next x made l.era.side (mails_choice l.era.account (granted passing pick)))
    by_passing l (Some p) pick b e = absurd (no_more l.era.account.started _ e)
    by_passing l None pick b e = by_hand l.era.account.hand refl (subst (λ z. (account_begins x acknowledged made l.era.side l.era.account l.era.account.hand z).started ≡ starts l.era.account (Service.Mails q) made) b e)
      where
        by_hand : (hand : Option Duty) → l.era.account.hand ≡ hand → (account_begins x acknowledged made l.era.side l.era.account l.era.account.hand (Some (Service.Mails q))).started ≡ starts l.era.account (Service.Mails q) made →
            Newest x made q (side_next x made l.era.side (mails_choice l.era.account pick))
        by_hand (Some duty) h f = absurd (no_more l.era.account.started _ (subst (λ z. (account_begins x acknowledged made l.era.side l.era.account z (Some (Service.Mails q))).started ≡ starts l.era.account (Service.Mails q) made) h f))
        by_hand None h f =
            let both = counted_by l.era.account (x.valid q && is_free x l.era.side l.era.side.now) (subst (λ z. (account_begins x acknowledged made l.era.side l.era.account z (Some (Service.Mails q))).started ≡ starts l.era.account (Service.Mails q) made) h f) in
            let began : mails_begin l.era.account.hand pick.begin ≡ Some q = (λ i. mails_begin (h i) (b i)) in
            record {
              valid = and_fst (x.valid q) (is_free x l.era.side l.era.side.now) both;
              side = side_begins x made l.era.side l.era.side.now (Some q);
              hold = pick.hold;
              now = begins_now l.era.side l.era.side.now both;
              is = ap (λ z. side_next x made l.era.side (record { begin = z; hold = pick.hold })) began;
            }

    -- the life before the frame, where it is counted
    pub newest : (l k : Life M Q R) (stand : Stand) (pick : Pick Q) → pick.begin ≡ Some (Service.Mails q) → k ≡ life_next x acknowledged more passed made l stand pick → k.era.account.started ≡ starts l.era.account (Service.Mails q) made → Newest x made q k.era.side
    newest l k (Stand.Opens o) pick b is e = absurd (no_more l.era.account.started _ (sym (ap (λ z. z.era.account.started) is) ∙ e))
    newest l k Stand.Gone pick b is e = absurd (no_more l.era.account.started _ (sym (ap (λ z. z.era.account.started) is) ∙ e))
    newest l k Stand.Open pick b is e = subst (λ (z : Side M Q R). Newest x made q z) (sym (ap (λ z. z.era.side) is)) (by_passing l l.era.passing pick b (sym (ap (λ z. z.era.account.started) is) ∙ e))
