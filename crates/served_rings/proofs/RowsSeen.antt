-- ALL ROWS of a side, as another sees its mails, services and replies.
use Rattle.std.proofs.Common.{◌≡◌, Option, None, Some, ◌++◌, map, option_map, refl, ap, sym, ◌∙◌}
use Rattle.std.proofs.lemmas.List.{map-append}
use Rattle.served_places.specs.of_exchange_model.Rows.{Row}
use Rattle.run_work.specs.of_few_replies.Erased.{row_seen, side_seen}
use Rattle.served_places.specs.of_segment_model.Seats.{Side, newest, rows_of}

module _ {N M P Q S R : Type 0} (f : N → M) (g : P → Q) (h : S → R) where
  newest_seen : (now : Option (Row N P S)) → newest (let row : Option (Row M Q R) = option_map (λ r. row_seen f g h r) now in row) ≡ map (λ r. row_seen f g h r) (newest now)
  newest_seen None = refl
  newest_seen (Some r) = refl

  pub rows_seen : (d : Side N P S) → rows_of (side_seen f g h d) ≡ map (λ r. row_seen f g h r) (rows_of d)
  rows_seen d = ap (λ l. map (λ r. row_seen f g h r) d.past ++ l) (newest_seen d.now) ∙ sym (map-append (λ r. row_seen f g h r) d.past (newest d.now))
