-- What a life has gained, and what its services count, is the same as another sees it.
use Rattle.std.proofs.Common.{◌≡◌, ℕ, ◌+◌, ◌≤◌, Option, Some, None, List, [], ◌∷◌, map, refl, sym, ap, ◌∙◌, arith}
use Rattle.std.specs.Prelude.{option_map}
use Rattle.std.proofs.lemmas.List.{length-map}
use Rattle.std.proofs.lemmas.List.Sums.{sum_by-cons}
use Rattle.master_hand.specs.of_exchange_model.Rows.{Row}
use Rattle.few_replies.specs.of_link_model.Mails.{LinkMail}
use Rattle.life_counts.specs.Begun.{service_most, begun_most, eras_most, life_most, AllUnopened, AreUnopened}
use Rattle.few_replies.specs.of_life_model.Gains.{row_gains, rows_gains, newest_gains, changes_gains, idle_gains, era_gains, eras_gains, gains}
use Rattle.few_replies.specs.of_life_model.Lives.{Era, Life}
use Rattle.master_hand.specs.of_serving_model.Erasing.{box_as}
use Rattle.master_hand.specs.of_state_model.Stated.{Service}
use Rattle.master_hand.specs.of_state_model.Accounts.{Started, Change}
use Rattle.master_hand.specs.of_state_model.Promise.{services_in}
use Rattle.few_replies.specs.Erased.{row_seen}
use Rattle.life_counts.specs.Seen.{service_seen, started_seen, change_seen, era_seen, life_seen}

module _ {N M P Q S R : Type 0} (f : N → M) (g : P → Q) (h : S → R) where
  one_row : (r : Row N P S) → row_gains (row_seen f g h r) ≡ row_gains r
  one_row r = omega (arith, length-map r.told f, length-map r.heard f)

  all_rows : (rs : List (Row N P S)) → rows_gains (map (row_seen f g h) rs) ≡ rows_gains rs
  all_rows [] = refl
  all_rows (r ∷ rs) = omega (arith, one_row r, all_rows rs)

  newest_row : (now : Option (Row N P S)) → newest_gains (option_map (row_seen f g h) now) ≡ newest_gains now
  newest_row None = refl
  newest_row (Some r) = one_row r

  all_changes : (cs : List (Change S)) → changes_gains (map (change_seen f g h) cs) ≡ changes_gains cs
  all_changes [] = refl
  all_changes (c ∷ cs) = ap (λ n. 5 + n) (all_changes cs)

  one_era : (e : Era N P S) → era_gains (era_seen f g h e) ≡ era_gains e
  one_era e = omega (arith, all_rows e.side.past, newest_row e.side.now, all_changes e.account.over)

  all_eras : (es : List (Era N P S)) → eras_gains (map (era_seen f g h) es) ≡ eras_gains es
  all_eras [] = refl
  all_eras (e ∷ es) = omega (arith, one_era e, all_eras es)

  idle_seen : (holding : Option (LinkMail N)) → idle_gains (box_as f holding) ≡ idle_gains holding
  idle_seen None = refl
  idle_seen (Some m) = refl

  pub gains_seen : (l : Life N P S) → gains (life_seen f g h l) ≡ gains l
  gains_seen l = omega (arith, all_eras l.past, one_era l.era, idle_seen l.era.side.halves.out.holding)

  -- ---- and back
  all_unopened : (es : List (Era N P S)) → AllUnopened (map (era_seen f g h) es) → AllUnopened es
  all_unopened [] all = tt
  all_unopened (e ∷ es) all = ((λ never. sym (one_era e) ∙ all.0 never), all_unopened es all.1)

  pub unopened_seen : (l : Life N P S) → AreUnopened (life_seen f g h l) → AreUnopened l
  unopened_seen l u = record { past = all_unopened l.past u.past; now = λ never. sym (one_era l.era) ∙ u.now never; open_now = u.open_now }

  -- ---- what its services count
  module _ (most : P → ℕ) (count : Q → ℕ) (enough : (q : P) → most q ≤ count (g q)) where
    one_service : (q : Service P) → service_most most q ≤ service_most count (service_seen g q)
    one_service (Service.Mails q) = enough q
    one_service (Service.State target) = omega arith

    all_started : (ss : List (Started P)) → begun_most most (services_in ss) ≤ begun_most count (services_in (map (started_seen f g h) ss))
    all_started [] = omega arith
    all_started (s ∷ ss) =
        omega (
          arith,
          sum_by-cons (λ q. service_most most q) s.service (services_in ss),
          sum_by-cons (λ q. service_most count q) (service_seen g s.service) (services_in (map (started_seen f g h) ss)),
          one_service s.service,
          all_started ss,
        )

    all_most : (es : List (Era N P S)) → eras_most most es ≤ eras_most count (map (era_seen f g h) es)
    all_most [] = omega arith
    all_most (e ∷ es) = omega (arith, all_started e.account.started, all_most es)

    pub most_seen : (l : Life N P S) → life_most most l ≤ life_most count (life_seen f g h l)
    most_seen l = omega (arith, all_most l.past, all_started l.era.account.started)
