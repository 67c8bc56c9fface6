-- WHAT A FRAME THAT CAME BACK MAKES OF A PACKET UNDER WAY, by the mails accepted of its slave.
use Rattle.std.specs.Prelude.{◌≡◌, Option, Some, List}
use Rattle.master_side.specs.of_life_model.Lives as Lives
use Rattle.master_side.specs.of_link_mails.Body.{Body}
use Rattle.master_side.specs.Heard.{Brought, joined_by}
use Rattle.master_side.specs.declared.hand.Heard.{Heard}
use Rattle.master_tour.specs.declared.stop.Turned.{Turned}

-- nothing is under way of a slave that was seen in Init
abbrev pub join_behind : {J : Type 0} → J → Option Turned → J → J
join_behind none (Some Turned.Cleared) join = none
join_behind none turned join = join

-- THE MAILS ACCEPTED are joined to what was under way before them, and the one heard last has completed just what it completes of it
pub record Joins {J : Type 0} (none : J) (joined : J → Body → J) (completed : J → Body → Type 0) (turned : Option Turned) (heard : Option Heard) (old new : J) (ms : List Body) : Type 0 where
  pub join : new ≡ join_behind none turned (joined_by joined old ms)
  pub completes : Brought (completed old) heard ms

-- WHAT IS UNDER WAY BEHIND A FRAME, by how the master stood to its slave: of an open one what was before and the mails accepted, of another nothing
abbrev pub join_at : {J : Type 0} → J → (J → Body → J) → Lives.Stand → J → List Body → J
join_at none joined (Lives.Stand.Opens o) join ms = none
join_at none joined Lives.Stand.Open join ms = joined_by joined join ms
join_at none joined Lives.Stand.Gone join ms = none
