-- THE MAILS THAT A SLAVE'S MASTER ACCEPTED of a frame that came back, by its life.
use Rattle.std.specs.Prelude.{ℕ, List, []}
use Rattle.master_side.specs.of_life_model.Lives
use Rattle.master_side.specs.of_life_model.Lives.{Life, Spot}
use Rattle.master_side.specs.of_life_model.Own
use Rattle.master_side.specs.of_link_mails.Body.{Body}
use Rattle.master_side.specs.of_link_model.Frames.{all_accepted}
use Rattle.master_side.specs.of_link_model.Link.{Halves}
use Rattle.master_side.specs.of_master_duty.Reply.{Reply}
use Rattle.master_side.specs.of_segment_model.Slaves.{Datagram, grams}

-- by its stand: while it is open those that its halves accept, of its own datagrams
abbrev pub accepted_at : ℕ → Halves Body → List (Datagram Body) → Lives.Stand → List Body
accepted_at station h back (Lives.Stand.Opens o) = []
accepted_at station h back Lives.Stand.Open = all_accepted station h (grams (Own.own station back))
accepted_at station h back Lives.Stand.Gone = []

-- THE MAILS ACCEPTED
abbrev pub accepted_in : {Q : Type 0} → Spot → Life Body Q Reply → List (Datagram Body) → List Body
accepted_in spot l back = accepted_at spot.station l.era.side.halves back l.stand
