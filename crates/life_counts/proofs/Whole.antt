-- What a whole life has gained.
use Rattle.std.proofs.Common.{◌≡◌, ℕ, ◌+◌, ◌≤◌, false, List, [], ◌∷◌, take, length, refl, sym, ap, ◌∙◌, subst, arith}
use Rattle.master_hand.specs.of_exchange_model.Rows.{exec_all}
use Rattle.few_replies.specs.of_link_mails.Body.{Body}
use Rattle.master_hand.specs.of_segment_model.Record.{Frame}
use Rattle.master_hand.specs.of_segment_model.Slaves.{Registers, Slave}
use Rattle.master_hand.specs.of_state_model.States.{Table}
use Rattle.master_hand.specs.of_state_model.Stated.{Service, with_states}
use Rattle.master_hand.specs.of_state_model.Promise.{services_in}
use Rattle.few_replies.specs.of_life_model.Gains.{era_gains, eras_gains, gains}
use Rattle.few_replies.specs.of_life_model.Eras.{Clearing, EraIs, OpenEra}
use Rattle.few_replies.specs.of_life_model.Lives.{Spot, Era, Life, Opening, Stand}
use Rattle.whole_ring.specs.of_slave_lives.Ends.{LeftEra, LeftEras}
use Rattle.whole_ring.specs.of_slave_lives.Lived.{Behind, table_of, node_seen, LivesEra}
use Rattle.whole_ring.specs.of_slave_lives.Opening.{Plan}
use Rattle.whole_ring.specs.of_slave_lives.Stands.{opening_again}
use Rattle.slave_server.specs.of_slave_node.Node.{Node}
use Rattle.whole_ring.specs.Whole.{OwesLaws, OpensAs, OpensBy, StandsAs, IsLived}
use Rattle.life_counts.proofs.Epoch.{epoch_within, epoch_app}
use Rattle.life_counts.proofs.Lasts.{idle_one, gains_last, most_last, all_before, the_last}
use Rattle.life_counts.specs.Begun.{era_most, eras_most, life_most, AllUnopened, AreUnopened, KeepsShape}

module _ {S V A Q R K : Type 0} (w : Behind S V A Q R) (c : Clearing V A) (p : Plan) (spot : Spot) (owes : OwesLaws w c p spot) (fs : List (Frame Body)) (shape : A → K) (count : K → Q → ℕ) (keeps : KeepsShape w c shape count) where
  -- no services change the shape
  pub all_shape : (table : Table) (a : A × ℕ) (qs : List (Service Q)) → shape (exec_all (with_states w.exchange w.states table) a qs).0 ≡ shape a.0
  all_shape table a [] = refl
  all_shape table a (Service.Mails q ∷ qs) = all_shape table (w.exchange.exec a.0 q, a.1) qs ∙ keeps.exec a.0 q
  all_shape table a (Service.State target ∷ qs) = all_shape table _ qs ∙ keeps.told _ a.0

  -- EPOCHS BY THE MODEL, and what it says of them
  abbrev pub open_era : (e : Era Body Q R) (opened until : ℕ) (server : V) (registers : Registers) (slave : Slave V Body) → EraIs w.exchange w.states w.processor (table_of w) spot e opened until fs server registers slave → OpenEra V A Body Q R
  open_era e opened until server registers slave is = record {
    exchange = w.exchange;
    states = w.states;
    processor = w.processor;
    table = table_of w;
    spot = spot;
    era = e;
    opened = opened;
    end = until;
    frames = fs;
    server = server;
    registers = registers;
    slave = slave;
    lawful = owes.lawful;
    stated = owes.whole.stated;
    is = is;
  }

  -- what is known of each: what it gained, and the application that it left
  pub record Knows (o : OpenEra V A Body Q R) : Type 0 where
    pub within : era_gains o.era ≤ era_most (count (shape (w.exchange.app o.server))) o.era
    pub same : shape (w.exchange.app o.slave.node.server.server) ≡ shape (w.exchange.app o.server)

  module _ (know : (e : Era Body Q R) (opened until : ℕ) (server : V) (registers : Registers) (slave : Slave V Body) (is : EraIs w.exchange w.states w.processor (table_of w) spot e opened until fs server registers slave) → Knows (open_era e opened until server registers slave is)) where
    -- one that is lived, and one that was left
    lived : (from : A) (e : Era Body Q R) (n : Node S) → LivesEra w spot from e fs n → era_gains e ≤ era_most (count (shape from)) e
    lived from e n k =
        let o = know e k.opened (length fs) k.server k.registers (node_seen w n) k.is in
        subst (λ s. era_gains e ≤ era_most (count s) e) (ap shape k.begins ∙ keeps.told k.registers.state from) o.within

    left : (from : A) (e : Era Body Q R) (s : S) → LeftEra w spot from e fs s → era_gains e ≤ era_most (count (shape from)) e
    left from e s k =
        let o = know e k.opened k.until k.server k.registers k.slave k.is in
        subst (λ s. era_gains e ≤ era_most (count s) e) (ap shape k.begins ∙ keeps.told k.registers.state from) o.within

    leaves : (from : A) (e : Era Body Q R) (s : S) (k : LeftEra w spot from e fs s) → shape (w.exchange.app (w.sees k.state s).server) ≡ shape from
    leaves from e s k =
        let o = know e k.opened k.until k.server k.registers k.slave k.is in
        ap (λ v. shape (w.exchange.app v)) (sym k.leaves) ∙ o.same ∙ ap shape k.begins ∙ keeps.told k.registers.state from

    -- all that are over
    record Past (first from : A) (es : List (Era Body Q R)) : Type 0 where
      within : eras_gains es ≤ eras_most (count (shape first)) es
      same : shape from ≡ shape first

    past : (first : A) (es : List (Era Body Q R)) (from : A) → LeftEras w c.cleared spot fs first es from → AllUnopened es → Past first from es
    past first _ _ (LeftEras.none _) all = record { within = omega arith; same = refl }
    past first _ _ (LeftEras.closed _ es b e before never) all =
        let k = past first es b before (all_before es e all) in
        let none = the_last es e all never in
        record { within = omega (arith, k.within, none, gains_last es e, most_last (count (shape first)) es e); same = keeps.cleared b ∙ k.same }
    past first _ _ (LeftEras.opened _ es b e s before gone) all =
        let k = past first es b before (all_before es e all) in
        let here = subst (λ s. era_gains e ≤ era_most (count s) e) k.same (left b e s gone) in
        record {
          within = omega (arith, k.within, here, gains_last es e, most_last (count (shape first)) es e);
          same = keeps.cleared (w.exchange.app (w.sees gone.state s).server) ∙ leaves b e s gone ∙ k.same;
        }

    -- the newest
    opens : (from : A) (e : Era Body Q R) (o : Opening) (n : Node S) → OpensAs w p spot from e fs o n → era_gains e ≤ era_most (count (shape from)) e
    opens from e o n (OpensBy.yet again step plan still) = lived from e n still.lives.epoch
    opens from e o n (OpensBy.anew closing waits start) = omega (arith, ap era_gains waits.is_new)
    opens from e o n (OpensBy.over closing again step over) = left from e over.server over.left

    newest : (from : A) (e : Era Body Q R) (stand : Stand) (n : Node S) → StandsAs w p spot from e fs stand n → era_gains e ≤ era_most (count (shape from)) e
    newest from e (Stand.Opens o) n x = opens from e o n x
    newest from e Stand.Open n x = lived from e n x.lives.epoch
    newest from e Stand.Gone n x = opens from e (opening_again spot.start false) n x

    pub life_within : (first : A) (l : Life Body Q R) (n : Node S) → IsLived w c p spot first l fs n → AreUnopened l → gains l ≤ 1 + life_most (count (shape first)) l
    life_within first l n x u =
        let k = past first l.past x.from x.past u.past in
        let now = subst (λ s. era_gains l.era ≤ era_most (count s) l.era) k.same (newest x.from l.era l.stand n x.now) in
        omega (arith, k.within, now, idle_one l.era.side.halves.out.holding)

-- THE GAINS OF A LIFE
pub life_gains : {S V A Q R K : Type 0} (w : Behind S V A Q R) (c : Clearing V A) (p : Plan) (spot : Spot) (first : A) (l : Life Body Q R) (fs : List (Frame Body)) (n : Node S) (shape : A → K) (count : K → Q → ℕ) →
    OwesLaws w c p spot → IsLived w c p spot first l fs n → AreUnopened l → KeepsShape w c shape count → gains l ≤ 1 + life_most (count (shape first)) l
life_gains w c p spot first l fs n shape count owes lived unopened keeps =
    life_within w c p spot owes fs shape count keeps
    (λ e opened until server registers slave is.
    let o = open_era w c p spot owes fs shape count keeps e opened until server registers slave is in
    let t = epoch_app o in
    record {
      within = epoch_within o (λ v. shape (w.exchange.app v)) count keeps.counted (λ state v. ap shape (owes.whole.stated.app state v) ∙ keeps.told state (w.exchange.app v));
      same = ap shape t.1 ∙ all_shape w c p spot owes fs shape count keeps (o.table o.spot.station) (w.exchange.app server, 0) (take t.0 (services_in e.account.started));
    })
    first l n lived unopened
