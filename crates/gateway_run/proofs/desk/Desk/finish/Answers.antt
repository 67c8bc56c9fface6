use Rattle.std.proofs.Common.{◌≡◌, ◌↔◌, ℕ, List, Bool, false, Option, Some, None, length, refl, sym, ap, ◌∙◌, subst, rules, arith}
use Rattle.std.specs.Prelude.{All, filter, IsSome, IsTrue}
use Rattle.std.proofs.lemmas.List.Elements.{All-filter}
use Rattle.slab.specs.Slab.{get}
use Rattle.gateway_core.specs.declared.asker.Asker.{Asker}
use Rattle.gateway_run.specs.Desk.{IsOpen, AreApart}
use Rattle.gateway_run.specs.declared.desk.Request.{Request}
use Rattle.std.proofs.lemmas.Fn.{filter_same}
use Rattle.gateway_run.specs.Account.{is_other}
use Rattle.gateway_run.proofs.Accounts.{apart_filter, free_of, others_free, others_least}
use Rattle.gateway_run.proofs.Desks.{finished}
use Rattle.gateway_run.proofs.desk.Desk.finish.Goals as goal

-- nothing stands under a key that isn't unfinished
vacant : (o : Option Asker) (b : Bool) → (IsTrue b ↔ IsSome o) → b ≡ false → o ≡ None
vacant None b both is = refl
vacant (Some a) b both is = let e = both.1 refl in absurd (cc)

-- what is kept
kept : (key : ℕ) (rs rs' : List Request) → rs' ≡ filter (is_other key) rs → AreApart rs → AreApart rs'
kept key rs rs' is apart = subst AreApart (sym is) (apart_filter (is_other key) rs apart)

pub returns-then-is_unfinished-clause-sound : goal.returns-then-is_unfinished-clause-sound
returns-then-is_unfinished-clause-sound c = λ heard s.
    let is : c.retain.new.self.items ≡ filter (is_other c.args.key) c.args.self.now.requests.items = filter_same _ _ _ (λ x b f' k. search rules) _ _ c.retain.ensures.filtered in
    record {
      requests = finished c.args.self.now.gateway c.finish.new.self c.args.key heard c.args.self.now.requests.items c.retain.new.self.items is c.finish.ensures.finished s.requests;
      apart = kept c.args.key c.args.self.now.requests.items c.retain.new.self.items is s.apart;
      few = let n = ap length is in let least = others_least c.args.key c.args.self.now.requests.items s.apart in let one = c.finish.ensures.one in let few = s.few in omega (arith, n, least, one, few);
      owed = s.owed;
    }

pub returns-else-is_unfinished-clause-sound : goal.returns-else-is_unfinished-clause-sound
returns-else-is_unfinished-clause-sound c = λ heard s.
    let none = vacant (get c.args.self.now.gateway c.args.key) c.is_unfinished.result c.is_unfinished.ensures c.if-is_unfinished.false in
    let is : c.retain.new.self.items ≡ filter (is_other c.args.key) c.args.self.now.requests.items = filter_same _ _ _ (λ x b f' k. search rules) _ _ c.retain.ensures.filtered in
    record {
      requests = subst (All (IsOpen c.args.self.now.gateway heard)) (sym is) (All-filter (is_other c.args.key) (IsOpen c.args.self.now.gateway heard) c.args.self.now.requests.items s.requests);
      apart = kept c.args.key c.args.self.now.requests.items c.retain.new.self.items is s.apart;
      few = let n = ap length (is ∙ others_free c.args.key c.args.self.now.requests.items (free_of c.args.self.now.gateway heard c.args.key c.args.self.now.requests.items none s.requests)) in let few = s.few in omega (arith, n, few);
      owed = s.owed;
    }

pub returns-then-is_unfinished-clause-requests : goal.returns-then-is_unfinished-clause-requests
returns-then-is_unfinished-clause-requests c = filter_same _ _ _ (λ x b f' k. search rules) _ _ c.retain.ensures.filtered

pub returns-else-is_unfinished-clause-requests : goal.returns-else-is_unfinished-clause-requests
returns-else-is_unfinished-clause-requests c = filter_same _ _ _ (λ x b f' k. search rules) _ _ c.retain.ensures.filtered
