-- What tasks of a serving count, and what those that count nothing leave.
use Rattle.std.proofs.Common.{◌≡◌, ◌⊎◌, inl, inr, suc, ◌+◌, ◌-◌, ◌≤◌, ◌==◌, ◌&&◌, Bool, true, false, not, List, [], ◌∷◌, ◌++◌, refl, ap, sym, ◌∙◌, arith, if◌then◌else◌, eqb-true}
use Rattle.std.proofs.lemmas.Bool.Decides.{nat_tests}
use Rattle.segment_model.specs.of_exchange_model.Exchange.{Exchange, IsLawful, after}
use Rattle.segment_model.proofs.of_exchange_model.Words.{grows_all}
use Rattle.segment_model.specs.Ends.{Task}
use Rattle.state_model.proofs.Orders.{done_front}
use Rattle.state_model.specs.Order.{Begun, count_of, is_zero, one_less, done, tasks_of, weighed, server_behind, servers_behind, EachOne, IsQuiet}

module _ {V A M Q R : Type 0} (x : Exchange V A M Q R) where
  -- the server's number is that before them and what they count
  pub weighed_handled : (v : V) (ts : List (Task M Q)) → EachOne x v ts → x.handled (servers_behind x v ts) ≡ x.handled v + count_of (weighed x v ts)
  weighed_handled v [] one = let e : x.handled v ≡ x.handled v + 0 = omega arith in e
  weighed_handled v (t ∷ ts) one = go (x.handled (server_behind x v t) == x.handled v) refl one.0 (weighed_handled (server_behind x v t) ts one.1)
    where
      next : V
      next = server_behind x v t

      go : (same : Bool) → (x.handled next == x.handled v) ≡ same → (x.handled next ≡ x.handled v) ⊎ (x.handled next ≡ suc (x.handled v)) → x.handled (servers_behind x next ts) ≡ x.handled next + count_of (weighed x next ts) →
          x.handled (servers_behind x next ts) ≡ x.handled v + (if not same then suc (count_of (weighed x next ts)) else count_of (weighed x next ts))
      go true e may more = let same = eqb-true (x.handled next) (x.handled v) e in more ∙ ap (λ n. n + count_of (weighed x next ts)) same
      go false e (inl same) more = absurd (let no : (x.handled next == x.handled v) ≡ true = grind (arith, nat_tests, same) in cc)
      go false e (inr one) more = let is : x.handled (servers_behind x next ts) ≡ x.handled v + suc (count_of (weighed x next ts)) = omega (arith, more, one) in is

  -- mails for which the server counts nothing leave the application
  mails_quiet : IsLawful x → IsQuiet x → (v : V) (ms : List M) → x.handled (after x.serve v ms) ≡ x.handled v → x.app (after x.serve v ms) ≡ x.app v
  mails_quiet law quiet v [] e = refl
  mails_quiet law quiet v (m ∷ ms) e =
      let next = (x.serve v m).0 in
      let one = law.grows v m in
      let more = grows_all x law next ms in
      let same : x.handled next ≡ x.handled v = omega (arith, one, more, e) in
      mails_quiet law quiet next ms (e ∙ sym same) ∙ quiet v m same

  task_quiet : IsLawful x → IsQuiet x → (v : V) (t : Task M Q) → x.handled (server_behind x v t) ≡ x.handled v → x.app (server_behind x v t) ≡ x.app v
  task_quiet law quiet v (Task.Mails q) e = mails_quiet law quiet v (x.full v q) e
  task_quiet law quiet v (Task.State target) e = refl
  task_quiet law quiet v (Task.Passed m) e = quiet v m e

  servers_append : (v : V) (ts us : List (Task M Q)) → servers_behind x v (ts ++ us) ≡ servers_behind x (servers_behind x v ts) us
  servers_append v [] us = refl
  servers_append v (t ∷ ts) us = servers_append (server_behind x v t) ts us

  weighed_append : (v : V) (ts us : List (Task M Q)) → weighed x v (ts ++ us) ≡ weighed x v ts ++ weighed x (servers_behind x v ts) us
  weighed_append v [] us = refl
  weighed_append v (t ∷ ts) us = ap (λ l. record { task = t; counts = not (x.handled (server_behind x v t) == x.handled v) } ∷ l) (weighed_append (server_behind x v t) ts us)

  tasks_append : (bs cs : List (Begun M Q)) → tasks_of (bs ++ cs) ≡ tasks_of bs ++ tasks_of cs
  tasks_append [] cs = refl
  tasks_append (b ∷ bs) cs = ap (λ l. b.task ∷ l) (tasks_append bs cs)

  tasks_weighed : (v : V) (ts : List (Task M Q)) → tasks_of (weighed x v ts) ≡ ts
  tasks_weighed v [] = refl
  tasks_weighed v (t ∷ ts) = ap (λ l. t ∷ l) (tasks_weighed (server_behind x v t) ts)

  -- the tasks up to the next one that counts leave the application
  none_counted : IsLawful x → IsQuiet x → (v : V) (ts : List (Task M Q)) → x.app (servers_behind x v (tasks_of (done 0 (weighed x v ts)))) ≡ x.app v
  none_counted law quiet v [] = refl
  none_counted law quiet v (t ∷ ts) = go (x.handled (server_behind x v t) == x.handled v) refl (none_counted law quiet (server_behind x v t) ts)
    where
      next : V
      next = server_behind x v t

      go : (same : Bool) → (x.handled next == x.handled v) ≡ same → x.app (servers_behind x next (tasks_of (done 0 (weighed x next ts)))) ≡ x.app next →
          x.app (servers_behind x v (tasks_of (if not same && is_zero 0 then [] else record { task = t; counts = not (x.handled next == x.handled v) } ∷ done (if not same then one_less 0 else 0) (weighed x next ts)))) ≡ x.app v
      go true e more = more ∙ task_quiet law quiet v t (eqb-true (x.handled next) (x.handled v) e)
      go false e more = refl

  -- a server that has seen a first part of the tasks has the application of the fold over what is done
  pub serving_fits : IsLawful x → IsQuiet x → (v : V) (ts us : List (Task M Q)) → x.app (servers_behind x v ts) ≡ x.app (servers_behind x v (tasks_of (done (count_of (weighed x v ts)) (weighed x v (ts ++ us)))))
  serving_fits law quiet v ts us =
      let w = servers_behind x v ts in
      let k = count_of (weighed x v ts) in
      let first = ap (done k) (weighed_append v ts us) ∙ done_front k (weighed x v ts) (weighed x w us) (let e : k ≤ k = omega arith in e) in
      let none : k - k ≡ 0 = omega arith in
      let tasks = ap tasks_of (first ∙ ap (λ n. weighed x v ts ++ done n (weighed x w us)) none) ∙ tasks_append (weighed x v ts) (done 0 (weighed x w us))
      ∙ ap (λ l. l ++ tasks_of (done 0 (weighed x w us))) (tasks_weighed v ts) in
      sym (none_counted law quiet w us) ∙ sym (ap x.app (servers_append v ts (tasks_of (done 0 (weighed x w us))))) ∙ sym (ap (λ l. x.app (servers_behind x v l)) tasks)
