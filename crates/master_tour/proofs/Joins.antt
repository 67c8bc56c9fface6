-- What is joined of the mails accepted, where none was.
use Rattle.std.proofs.Common.{◌≡◌, [], List, Option, None, refl, sym, ap, ◌∙◌, subst, true, false}
use Rattle.std.specs.Prelude.{Bool, if◌then◌else◌}
use Rattle.master_side.specs.of_link_mails.Body.{Body}
use Rattle.master_side.specs.Heard.{Brought, HasJoined, joined_by}
use Rattle.master_side.specs.declared.hand.Heard.{Heard}
use Rattle.master_tour.specs.Joins.{Joins, join_behind}
use Rattle.master_tour.specs.Stands.{turned_by}
use Rattle.master_tour.specs.declared.stop.Turned.{Turned}

pub nothing_joined : {J : Type 0} (joined : J → Body → J) (completed : J → Body → Type 0) (join : J) (heard : Option Heard) (ms : List Body) → heard ≡ None → ms ≡ [] → HasJoined joined completed join join heard ms
nothing_joined joined completed join heard ms n e = (sym (ap (joined_by joined join) e), subst (λ (o : Option Heard). Brought (completed join) o ms) (sym n) e)

-- by what the slave was turned into
pub turned_joins : {J : Type 0} (none : J) (joined : J → Body → J) (completed : J → Body → Type 0) (turned : Option Turned) (heard : Option Heard) (old new : J) (ms : List Body) → new ≡ join_behind none turned old → heard ≡ None → ms ≡ [] →
    Joins none joined completed turned heard old new ms
turned_joins none joined completed turned heard old new ms is n e = record {
  join = is ∙ ap (λ l. join_behind none turned (joined_by joined old l)) (sym e);
  completes = subst (λ (o : Option Heard). Brought (completed old) o ms) (sym n) e;
}

pub still_joins : {J : Type 0} (none : J) (joined : J → Body → J) (completed : J → Body → Type 0) (turned : Option Turned) (heard : Option Heard) (old new : J) (ms : List Body) → turned ≡ None → HasJoined joined completed old new heard ms →
    Joins none joined completed turned heard old new ms
still_joins none joined completed turned heard old new ms t j = record {
  join = j.0 ∙ sym (ap (λ k. join_behind none k (joined_by joined old ms)) t);
  completes = j.1;
}

pub cleared_join : {J : Type 0} (none old : J) (clears opens : Bool) → (if clears then none else old) ≡ join_behind none (turned_by false clears opens) old
cleared_join none old true opens = refl
cleared_join none old false true = refl
cleared_join none old false false = refl
