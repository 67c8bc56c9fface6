use Rattle.std.proofs.Common.{◌<◌, ◌≤◌, ◌+◌, ℕ, length, length-set, true, sym, ap, ◌∙◌, subst, arith}
use Rattle.std.proofs.lemmas.List.Elements.{All-set}
use Rattle.slab.specs.Slab.{slab_len}
use Rattle.gateway_run.specs.Account.{begun_first}
use Rattle.gateway_run.specs.Desk.{IsOpen, IsSound, AreApart}
use Rattle.gateway_run.specs.declared.desk.Desk.{Desk}
use Rattle.gateway_run.proofs.Accounts.{apart_begun, begun_at, begun_none}
use Rattle.gateway_run.proofs.Desks.{begun_open}
use Rattle.gateway_run.proofs.desk.Desk.begin.Goals as goal

pub returns-then-not-request-clause-sound : goal.returns-then-not-request-clause-sound
returns-then-not-request-clause-sound c = λ heard before.
    let at = c.loop-at.at in
    let d = c.loop-at.self in
    let s = subst (IsSound heard) (sym c.loop-at.invariant.same) before in
    let n = ap (λ (x : Desk). length x.requests.items) c.loop-at.invariant.same in
    let end = c.len-at-end.ensures in
    let less = c.loop-at-test.true in
    let inside : at < length d.requests.items = omega (arith, n, end, less) in
    let r = c.index_mut.result.now in
    record {
      requests = All-set (IsOpen d.gateway heard) d.requests.items at _ (begun_open d.gateway heard r true (subst (IsOpen d.gateway heard) (sym c.index_mut.ensures.value) (s.requests at r inside))) s.requests;
      apart = subst AreApart
          (begun_at c.args.slave d.requests.items at c.index-request.result.now r c.loop-at.invariant.none inside c.index-request.ensures c.index_mut.ensures.value c.if-request-slave.true c.if-not-request.true)
          (apart_begun c.args.slave d.requests.items s.apart);
      few = subst (λ (n : ℕ). slab_len d.gateway ≤ n + 0) (sym (length-set d.requests.items at _)) s.few;
      owed = s.owed;
    }

pub returns-then-not-request-clause-requests : goal.returns-then-not-request-clause-requests
returns-then-not-request-clause-requests c =
    let at = c.loop-at.at in
    let d = c.loop-at.self in
    let n = ap (λ (x : Desk). length x.requests.items) c.loop-at.invariant.same in
    let end = c.len-at-end.ensures in
    let less = c.loop-at-test.true in
    let inside : at < length d.requests.items = omega (arith, n, end, less) in
    sym (begun_at c.args.slave d.requests.items at c.index-request.result.now c.index_mut.result.now c.loop-at.invariant.none inside c.index-request.ensures c.index_mut.ensures.value c.if-request-slave.true c.if-not-request.true)
    ∙ ap (λ (x : Desk). begun_first c.args.slave x.requests.items) c.loop-at.invariant.same

pub returns-clause-requests : goal.returns-clause-requests
returns-clause-requests c =
    let d = c.loop-at.self in
    let n = ap (λ (x : Desk). length x.requests.items) c.loop-at.invariant.same in
    let end = c.len-at-end.ensures in
    let most = c.loop-at-test.false in
    sym (begun_none c.args.slave d.requests.items (λ k r less. c.loop-at.invariant.none k r (omega (arith, n, end, most, less))))
    ∙ ap (λ (x : Desk). begun_first c.args.slave x.requests.items) c.loop-at.invariant.same
