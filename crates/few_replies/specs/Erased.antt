-- A master's side of a slave, and what frames tell of it, as another sees them, who has other forms of the mails, other names of the services and other
-- forms of the replies.
use Rattle.std.specs.Prelude.{◌≡◌, Option, None, Some, option_map, List, map}
use Rattle.slave_parts.specs.of_exchange_model.Exchange.{Speech, plain}
use Rattle.slave_parts.specs.of_exchange_model.Rows.{Row}
use Rattle.slave_parts.specs.of_link_model.Link.{Halves}
use Rattle.slave_parts.specs.of_segment_model.Record.{Frame, News}
use Rattle.slave_parts.specs.of_segment_model.Seats.{Side}
use Rattle.slave_parts.specs.of_serving_model.Erasing.{box_as, all_as}

-- the halves
abbrev pub halves_as : {N M : Type 0} → (N → M) → Halves N → Halves M
halves_as f h = record { out = record { last = h.out.last; holding = box_as f h.out.holding }; inn = h.inn }

module _ {N M P Q S R : Type 0} (f : N → M) (g : P → Q) (h : S → R) where
  -- a row
  abbrev pub row_seen : Row N P S → Row M Q R
  row_seen r = record { service = g r.service; frame = r.frame; told = map f r.told; heard = map f r.heard; answer = option_map (λ a. (h a.0, a.1)) r.answer }

  -- a side
  abbrev pub side_seen : Side N P S → Side M Q R
  side_seen d = record { halves = halves_as f d.halves; fresh = d.fresh; past = map row_seen d.past; now = option_map row_seen d.now }

-- a frame
abbrev pub frame_as : {N M : Type 0} → (N → M) → Frame N → Frame M
frame_as f k = record { sent = all_as f k.sent; fate = k.fate; back = all_as f k.back }

-- what a frame tells
abbrev pub news_as : {N M : Type 0} → (N → M) → News N → News M
news_as f (News.Told m) = News.Told (f m)
news_as f News.Written = News.Written
news_as f (News.Heard m) = News.Heard (f m)
news_as f News.NothingRead = News.NothingRead
news_as f (News.BoxFull full) = News.BoxFull full
news_as f (News.Status state refused) = News.Status state refused

-- all that it tells
abbrev pub all_news_as : {N M : Type 0} → (N → M) → List (News N) → List (News M)
all_news_as f ns = map (λ n. news_as f n) ns

-- a fact of the row in hand, where there is one
abbrev pub OfRow : {N Q R : Type 0} → (Row N Q R → Type 0) → Option (Row N Q R) → Type 0
OfRow {N = N} P None = Unit {0}
OfRow P (Some r) = P r

module _ {N M P Q S R : Type 0} (f : N → M) (g : P → Q) (h : S → R) (y : Speech N P S) (x : Speech M Q R) where
  -- TWO CLIENTS ARE ONE, which see mails otherwise: they know the same services, of which the same end with their last write
  pub record AreOne : Type 0 where
    pub valid : (q : P) → y.valid q ≡ x.valid (g q)
    pub handed : (q : P) → y.handed q ≡ x.handed (g q)

  -- they plan the same mails of a service behind these that were heard
  abbrev pub PlanOne : P → List N → Type 0
  PlanOne q hs = map f (y.planned q (plain y.emission hs)) ≡ x.planned (g q) (plain x.emission (map f hs))

  -- and end it alike
  abbrev pub EndOne : P → List N → Type 0
  EndOne q hs = option_map h (y.ends q (plain y.emission hs)) ≡ x.ends (g q) (plain x.emission (map f hs))
