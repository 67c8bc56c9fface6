use Rattle.std.proofs.Common.{subst, sym, ap, ◌∙◌}
use Rattle.plan_ring.specs.of_life_model.Gains.{gains}
use Rattle.plan_ring.specs.of_life_model.Lives.{life_back}
use Rattle.idle_slaves.specs.Waiting.{memory_behind, tried}
use Rattle.idle_slaves.specs.Visited.{Waiting, life_visit, memory_of}
use Rattle.idle_slaves.proofs.Choosing.{chosen}
use Rattle.idle_slaves.proofs.Visited.{on, same_node, second, none, stepped, life_spent, at_open}
use Rattle.idle_slaves.proofs.frame_law.Goals as goal

pub returns-clause-comes : goal.returns-clause-comes
returns-clause-comes g c = λ v x acknowledged more passed frame l n m t pick k unpaused. chosen v l n m t k x acknowledged more passed frame pick unpaused

pub returns-clause-visited : goal.returns-clause-visited
returns-clause-visited g c = λ v x acknowledged more passed frame spot news back came old l n m t c row b same still.
    subst (λ s. Waiting v (life_back x acknowledged more passed frame spot news back came l s) n (memory_behind (memory_of old l m) (life_visit l (memory_of old l m))) (tried t)) (sym c.shows.stands)
    (on v x acknowledged more passed frame spot news back came l n m t old c row b (ap (λ s. gains (life_back x acknowledged more passed frame spot news back came l s)) (sym c.shows.stands) ∙ same) (at_open x acknowledged more passed frame spot news back came l n t (life_visit l (memory_of old l m)) c.shows.stands still))

pub returns-clause-same : goal.returns-clause-same
returns-clause-same g c = λ v x acknowledged more passed frame spot news back came old l n m t c row b same still.
    same_node v x acknowledged more passed frame spot news back came l n m t old c row b (ap (λ s. gains (life_back x acknowledged more passed frame spot news back came l s)) (sym c.shows.stands) ∙ same)
    (at_open x acknowledged more passed frame spot news back came l n t (life_visit l (memory_of old l m)) c.shows.stands still)

pub returns-clause-idle : goal.returns-clause-idle
returns-clause-idle g c = λ v x acknowledged more passed frame spot news back came old l n m t c row b same still one.
    second v x acknowledged more passed frame spot news back came l n m t old c row b (ap (λ s. gains (life_back x acknowledged more passed frame spot news back came l s)) (sym c.shows.stands) ∙ same)
    (at_open x acknowledged more passed frame spot news back came l n t (life_visit l (memory_of old l m)) c.shows.stands still) one

pub returns-clause-passed : goal.returns-clause-passed
returns-clause-passed g c = λ v x acknowledged more passed frame spot news back came l n m t k empty still.
    subst (λ s. Waiting v (life_back x acknowledged more passed frame spot news back came l s) n m t) (sym k.shows.stands) (none v x acknowledged more passed frame spot news back came l n m t k empty (ap (λ s. (life_back x acknowledged more passed frame spot news back came l s).era.passing) (sym k.shows.stands) ∙ still))

pub returns-clause-steps : goal.returns-clause-steps
returns-clause-steps g c = λ v l n m t k. stepped v l n m t k

pub returns-clause-spent : goal.returns-clause-spent
returns-clause-spent g c = λ v l n m t k two. life_spent v l n m t k two
