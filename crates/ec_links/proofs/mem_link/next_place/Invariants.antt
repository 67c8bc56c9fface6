use Rattle.std.proofs.Common.{◌≡◌, ◌<◌}
use Rattle.ec_links.specs.Link.{given_at, left_at, from_piece}
use Rattle.ec_links.proofs.mem_link.next_place.Given as goal

abbrev pub invariant-loop-place : goal.invariant-loop-place
invariant-loop-place l =
    (0 < l.fn.from → l.place ≡ l.fn.at)
    × (from_piece l.fn.wait (left_at l.place l.fn.from l.items) ≡ from_piece l.fn.wait (left_at l.fn.at l.fn.from l.fn.items))
    × (given_at l.place l.fn.from l.items ≡ given_at l.fn.at l.fn.from l.fn.items)
