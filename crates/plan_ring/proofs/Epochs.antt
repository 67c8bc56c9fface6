-- EACH EPOCH of a life that is lived keeps what the model's law of an epoch promises.
use Rattle.std.proofs.Common.{◌≡◌, ℕ, ◌<◌, ◌≤◌, Bool, false, None, List, length, refl, ap, sym, ◌∙◌, subst, arith}
use Rattle.slave_server.specs.of_link_mails.Body.{Body}
use Rattle.whole_ring.specs.of_life_model.Eras.{Clearing, EraIs, OpenEra, era_frames}
use Rattle.whole_ring.specs.of_life_model.Lives.{Spot, Era, Life, Opening, Stand}
use Rattle.whole_ring.proofs.of_life_model.Eras.{session_of, of_one}
use Rattle.slave_server.specs.of_exchange_model.Exchange.{emitted, plain}
use Rattle.slave_server.specs.of_exchange_model.Prefix.{IsPrefixOf}
use Rattle.slave_server.specs.of_segment_model.Record.{Frame, heard}
use Rattle.slave_server.specs.of_segment_model.Slaves.{Registers, Slave}
use Rattle.whole_ring.specs.of_slave_lives.Ends.{LeftEra, LeftEras}
use Rattle.whole_ring.specs.of_slave_lives.Lived.{Behind, table_of, node_seen, LivesEra}
use Rattle.whole_ring.specs.of_slave_lives.Opening.{Plan}
use Rattle.whole_ring.specs.of_slave_lives.Stands.{opening_again}
use Rattle.whole_ring.proofs.of_slave_lives.EraEnds as Ends
use Rattle.slave_server.specs.of_slave_node.Node.{Node}
use Rattle.slave_server.specs.of_state_model.Stated.{mails, with_states}
use Rattle.slave_server.specs.of_state_model.Promise.{TasksPromised, TasksAnswered, TasksRestIf, services_in}
use Rattle.run_frames.proofs.of_state_model.Sessions.{of_slaves, tasks_promised, tasks_rest, tasks_answered}
use Rattle.whole_ring.specs.Whole.{OwesLaws, OpensAs, OpensBy, StandsAs, IsLived}
use Rattle.plan_ring.proofs.Owns.{owned}
use Rattle.plan_ring.proofs.Settled.{settled_seen}
use Rattle.plan_ring.specs.Epochs.{IsCarriedOut, IsAnswered, replies_all, IsKept, AreKept, RestsIf, IsNewest, IsKeptLife, app_of, app_behind, emitted_by}

module _ {S V A Q R : Type 0} (w : Behind S V A Q R) (c : Clearing V A) (p : Plan) (spot : Spot) (owes : OwesLaws w c p spot) (more : Body → Bool) (fs : List (Frame Body)) where
  -- an epoch as the model has it
  module _ (e : Era Body Q R) (from : A) (opened until : ℕ) (server : V) (registers : Registers) (slave : Slave V Body) (begins : w.exchange.app server ≡ w.states.told registers.state from)
      (is : EraIs w.exchange w.states w.processor (table_of w) spot e opened until fs server registers slave) where
    abbrev open_era : OpenEra V A Body Q R
    open_era = record {
      exchange = w.exchange;
      states = w.states;
      processor = w.processor;
      table = table_of w;
      spot = spot;
      era = e;
      opened = opened;
      end = until;
      frames = fs;
      server = server;
      registers = registers;
      slave = slave;
      lawful = owes.lawful;
      stated = owes.whole.stated;
      is = is;
    }

    abbrev gs : List (Frame Body)
    gs = era_frames spot opened until fs

    promised : TasksPromised w.exchange w.states (table_of w spot.station) more gs spot.station server e.side e.account slave
    promised =
        let q = session_of open_era in
        of_one open_era (λ station start d a s. TasksPromised w.exchange w.states (table_of w station) more gs station start d a s)
        (tasks_promised q.exchange q.lawful q.states q.stated q.processor q.table more q.planned.tells q.plan q.planned q.sides q.accounts q.ring q.frames q.tasked)

    answered : TasksAnswered w.exchange w.states (table_of w spot.station) more gs spot.station server e.side e.account slave
    answered =
        let q = session_of open_era in
        of_one open_era (λ station start d a s. TasksAnswered w.exchange w.states (table_of w station) more gs station start d a s)
        (tasks_answered q.exchange q.lawful q.states q.stated q.processor q.table more q.planned.tells q.plan q.planned q.sides q.accounts q.ring q.frames q.tasked)

    replies : IsPrefixOf (plain w.exchange.speech.emission (heard spot.station gs)) (mails (replies_all (with_states w.exchange w.states (table_of w spot.station)) (record { server = server; words = 0 }) (services_in e.account.started)))
    replies =
        let q = session_of open_era in
        of_one open_era (λ station start d a s. IsPrefixOf (plain w.exchange.speech.emission (heard station gs)) (mails (replies_all (with_states w.exchange w.states (table_of w station)) (record { server = start; words = 0 }) (services_in a.started))))
        (of_slaves q.exchange q.lawful q.states q.stated q.processor q.table more q.planned.tells q.plan q.planned q.sides q.accounts q.ring q.frames q.tasked
        (λ t fs station start d a n. IsPrefixOf (plain q.exchange.speech.emission (heard station fs)) (mails (replies_all (with_states q.exchange q.states t) (record { server = start; words = 0 }) (services_in a.started))))
        (λ t begun is fs seat a h. owned q.exchange q.lawful q.states q.stated t more begun is fs seat a h))

    rests : TasksRestIf w.exchange w.states (table_of w spot.station) more gs spot.station server e.side e.account slave
    rests =
        let q = session_of open_era in
        of_one open_era (λ station start d a s. TasksRestIf w.exchange w.states (table_of w station) more gs station start d a s)
        (tasks_rest q.exchange q.lawful q.states q.stated q.processor q.table more q.planned.tells q.plan q.planned q.sides q.accounts q.ring q.frames q.tasked)

    kept : opened < until → until ≤ length fs → (e.cleared ≡ None → registers.state ≡ spot.start) → registers.state ≡ e.state → (to : A) → w.exchange.app slave.node.server.server ≡ to → IsKept w more spot fs e from to until
    kept before within first its to leaves =
        let t = promised in
        let u = answered in
        record {
          opened = opened;
          opened_at = is.opened_at;
          before = before;
          within = within;
          state = registers.state;
          first = first;
          in_state = its;
          count = t.count;
          carried = subst (λ (b : A). IsCarriedOut w more spot b to t.count e.account.started) begins (record { prefix = t.prefix; behind = t.behind; app = sym leaves ∙ t.app });
          answered = subst (λ (b : A). IsAnswered w more spot gs b t.count e.account.started) begins (record { replies = t.replied; done = t.in_done; ended = t.in_doubt; emissions = t.emissions });
          own = record { server = server; app = begins; replies = replies };
          told = record { mails = u.mails; answers = u.answers; states = u.states; over = u.over; hand = u.hand };
        }

  -- ONE THAT IS LIVED by its node yet
  module _ (from : A) (e : Era Body Q R) (n : Node S) (k : LivesEra w spot from e fs n) where
    lived_kept : IsKept w more spot fs e from (app_of w more spot n) (length fs)
    lived_kept = kept e from k.opened (length fs) k.server k.registers (node_seen w n) k.begins k.is k.before (omega arith) k.first k.in_state (app_of w more spot n) refl

    pub lived_rests : RestsIf w more spot fs e from n
    lived_rests settled wants hand =
        let t = rests e from k.opened (length fs) k.server k.registers (node_seen w n) k.begins k.is (settled_seen w owes.whole.behind n k.stands settled) wants hand in
        let qs = services_in e.account.started in
        let heard_then = emitted w.exchange.speech.emission (heard spot.station (era_frames spot k.opened (length fs) fs)) in
        let both : (app_of w more spot n ≡ app_behind w more spot (w.states.told k.registers.state from) qs) × (heard_then ≡ emitted_by w more spot (w.states.told k.registers.state from) qs) =
        subst (λ (b : A). (app_of w more spot n ≡ app_behind w more spot b qs) × (heard_then ≡ emitted_by w more spot b qs)) k.begins (t.app, t.emissions) in
        record { opened = k.opened; opened_at = k.is.opened_at; state = k.registers.state; in_state = k.in_state; app = both.0; ended = t.ended; emissions = both.1 }

    lived_newest : IsNewest w more spot c.cleared fs e from n
    lived_newest = IsNewest.lives lived_kept lived_rests

  -- ONE THAT WAS LEFT
  left_kept : (from : A) (e : Era Body Q R) (s : S) (k : LeftEra w spot from e fs s) → IsKept w more spot fs e from (w.exchange.app (w.sees k.state s).server) k.until
  left_kept from e s k = kept e from k.opened k.until k.server k.registers k.slave k.begins k.is k.before k.within k.first k.in_state (w.exchange.app (w.sees k.state s).server) (ap w.exchange.app k.leaves)

  pub past_kept : (first : A) (es : List (Era Body Q R)) (from : A) → LeftEras w c.cleared spot fs first es from → AreKept w more spot c.cleared fs first es from
  past_kept first _ _ (LeftEras.none _) = AreKept.none
  past_kept first _ _ (LeftEras.closed _ es b e before never) = AreKept.unopened es b e (past_kept first es b before) never
  past_kept first _ _ (LeftEras.opened _ es b e s before left) = AreKept.opened es b e (w.exchange.app (w.sees left.state s).server) left.until (past_kept first es b before) (left_kept b e s left)

  -- THE NEWEST, by how the master stands to the slave
  opens_newest : (from : A) (e : Era Body Q R) (o : Opening) (n : Node S) → OpensAs w p spot from e fs o n → IsNewest w more spot c.cleared fs e from n
  opens_newest from e o n (OpensBy.yet again step plan still) = lived_newest from e n still.lives.epoch
  opens_newest from e o n (OpensBy.anew closing waits start) = IsNewest.waits waits.al (ap (λ (d : Era Body Q R). d.account.started) waits.is_new) waits.begins
  opens_newest from e o n (OpensBy.over closing again step over) =
      IsNewest.left over.left.state (w.exchange.app (w.sees over.left.state over.server).server) over.left.until (left_kept from e over.server over.left)
      (ap (λ (s : S). w.exchange.app (w.sees over.left.state s).server) over.cleared ∙ Ends.clears_to w c owes.whole.clears over.left.state over.server)

  newest : (from : A) (e : Era Body Q R) (stand : Stand) (n : Node S) → StandsAs w p spot from e fs stand n → IsNewest w more spot c.cleared fs e from n
  newest from e (Stand.Opens o) n x = opens_newest from e o n x
  newest from e Stand.Open n x = lived_newest from e n x.lives.epoch
  newest from e Stand.Gone n x = opens_newest from e (opening_again spot.start false) n x

  -- THE WHOLE LIFE
  pub kept_life : (first : A) (l : Life Body Q R) (n : Node S) → IsLived w c p spot first l fs n → IsKeptLife w more spot c.cleared fs first l n
  kept_life first l n x = record { from = x.from; past = past_kept first l.past x.from x.past; newest = newest x.from l.era l.stand n x.now }
