-- What a life has gained whose epochs are sessions.
use Rattle.std.proofs.Common.{◌≡◌, ℕ, ◌+◌, ◌≤◌, List, [], ◌∷◌, take, refl, sym, ap, ◌∙◌, subst, arith}
use Rattle.master_hand.specs.of_exchange_model.Exchange.{Exchange, IsLawful}
use Rattle.master_hand.specs.of_exchange_model.Rows.{exec_all}
use Rattle.life_counts.specs.Begun.{era_most, eras_most, life_most, IsUnopened, AllUnopened, AreUnopened}
use Rattle.life_counts.proofs.Epoch.{epoch_within, epoch_app}
use Rattle.life_counts.proofs.Lasts.{idle_one, gains_last, most_last, all_before, the_last}
use Rattle.few_replies.specs.of_life_model.Gains.{era_gains, eras_gains, gains}
use Rattle.few_replies.specs.of_life_model.Eras.{Clearing, WasOpen, OpenEra}
use Rattle.few_replies.specs.of_life_model.Lives.{Spot, Era, Life}
use Rattle.master_hand.specs.of_segment_model.Record.{Frame}
use Rattle.master_hand.specs.of_segment_model.Slaves.{Processor}
use Rattle.master_hand.specs.of_state_model.Stated.{Stated, IsStated, Service, with_states}
use Rattle.master_hand.specs.of_state_model.States.{Table}
use Rattle.master_hand.specs.of_state_model.Promise.{services_in}
use Rattle.life_counts.specs.Worked.{KeepsAll, AllWorked, IsNewest, IsWorked}

module _ {V A M Q R K : Type 0} (x : Exchange V A M Q R) (lawful : IsLawful x) (s : Stated V A Q) (stated : IsStated x s) (processor : Processor V) (table : ℕ → Table) (spot : Spot) (c : Clearing V A)
    (shape : A → K) (count : K → Q → ℕ) (keeps : KeepsAll x s c shape count) where
  all_shape : (states : Table) (a : A × ℕ) (qs : List (Service Q)) → shape (exec_all (with_states x s states) a qs).0 ≡ shape a.0
  all_shape states a [] = refl
  all_shape states a (Service.Mails q ∷ qs) = all_shape states (x.exec a.0 q, a.1) qs ∙ keeps.exec a.0 q
  all_shape states a (Service.State target ∷ qs) = all_shape states _ qs ∙ keeps.told _ a.0

  -- an epoch that was open
  record Knows (from to : A) (e : Era M Q R) : Type 0 where
    within : era_gains e ≤ era_most (count (shape from)) e
    same : shape to ≡ shape from

  knows : (from to : A) (e : Era M Q R) (fs : List (Frame M)) → WasOpen x s processor table spot e fs from to → Knows from to e
  knows from to e fs k =
      let o : OpenEra V A M Q R = record {
        exchange = x;
        states = s;
        processor = processor;
        table = table;
        spot = spot;
        era = e;
        opened = k.opened;
        end = k.until;
        frames = fs;
        server = k.server;
        registers = k.registers;
        slave = k.slave;
        lawful = lawful;
        stated = stated;
        is = k.era;
      } in
      let begins : shape (x.app k.server) ≡ shape from = ap shape k.begins ∙ keeps.told k.registers.state from in
      let t = epoch_app o in
      record {
        within = subst (λ z. era_gains e ≤ era_most (count z) e) begins
            (epoch_within o (λ v. shape (x.app v)) count keeps.counted (λ state v. ap shape (stated.app state v) ∙ keeps.told state (x.app v)));
        same = ap shape (sym k.leaves) ∙ ap shape t.1 ∙ all_shape (table spot.station) (x.app k.server, 0) (take t.0 (services_in e.account.started)) ∙ begins;
      }

  -- all that are over
  record Past (first from : A) (es : List (Era M Q R)) : Type 0 where
    within : eras_gains es ≤ eras_most (count (shape first)) es
    same : shape from ≡ shape first

  past : (first : A) (es : List (Era M Q R)) (from : A) → AllWorked x s processor table spot c.cleared first es from → AllUnopened es → Past first from es
  past first _ _ (AllWorked.none _) all = record { within = omega arith; same = refl }
  past first _ _ (AllWorked.closed _ es b e before never) all =
      let k = past first es b before (all_before es e all) in
      let none = the_last es e all never in
      record { within = omega (arith, k.within, none, gains_last es e, most_last (count (shape first)) es e); same = keeps.cleared b ∙ k.same }
  past first _ _ (AllWorked.opened _ es b e fs left before was) all =
      let k = past first es b before (all_before es e all) in
      let now = knows b left e fs was in
      let here = subst (λ z. era_gains e ≤ era_most (count z) e) k.same now.within in
      record { within = omega (arith, k.within, here, gains_last es e, most_last (count (shape first)) es e); same = keeps.cleared left ∙ now.same ∙ k.same }

  newest : (from : A) (e : Era M Q R) → IsNewest x s processor table spot from e → IsUnopened e → era_gains e ≤ era_most (count (shape from)) e
  newest from e (IsNewest.closed never) none = omega (arith, none never)
  newest from e (IsNewest.opened fs to was) none = (knows from to e fs was).within

  pub worked_gains : (first : A) (l : Life M Q R) → IsWorked x s processor table spot c first l → AreUnopened l → gains l ≤ 1 + life_most (count (shape first)) l
  worked_gains first l w u =
      let k = past first l.past w.from w.past u.past in
      let now = subst (λ z. era_gains l.era ≤ era_most (count z) l.era) k.same (newest w.from l.era w.newest u.now) in
      omega (arith, k.within, now, idle_one l.era.side.halves.out.holding)
