use Rattle.idle_slaves.proofs.Held.{held_up, side_is, unpaused}
use Rattle.idle_slaves.proofs.held_visits.held_law.Goals as goal

pub returns-clause-visited : goal.returns-clause-visited
returns-clause-visited g c = λ v x acknowledged more passed frame spot news back came old l n m t chosen row b same still ends. held_up x acknowledged more passed frame spot news back came l v old n m t _ chosen row b same still ends

pub returns-clause-side : goal.returns-clause-side
returns-clause-side g c = λ x acknowledged more passed frame spot news back came l. side_is x acknowledged more passed frame spot news back came l

pub returns-clause-unpaused : goal.returns-clause-unpaused
returns-clause-unpaused g c = λ x acknowledged more passed frame l m t pick held began. unpaused x acknowledged more passed frame l m t pick _ held began
