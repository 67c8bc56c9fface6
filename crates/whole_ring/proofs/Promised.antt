-- THE PROMISES of an open slave's epoch, and the epochs before it as the model has them.
use Rattle.std.proofs.Common.{◌≡◌, false, List, length, subst}
use Rattle.slave_lives.specs.of_link_mails.Body.{Body}
use Rattle.slave_lives.specs.of_segment_model.Laws.{HandedBy, KnowsCounters}
use Rattle.slave_lives.specs.of_segment_model.Record.{Frame}
use Rattle.slave_lives.specs.of_slave_node.Node.{Node}
use Rattle.slave_lives.specs.of_state_model.Promise.{TasksPromised, TasksAnswered, TasksRestIf}
use Rattle.slave_lives.specs.of_state_model.Books.{TasksPast, TasksEndedIf}
use Rattle.slave_lives.proofs.of_state_model.Sessions.{tasks_promised, tasks_rest, tasks_answered, tasks_handed, tasks_counted, tasks_past, tasks_ended}
use Rattle.slave_lives.specs.of_life_model.Eras.{Clearing, OpenEra, era_frames}
use Rattle.slave_lives.specs.of_life_model.Lives.{Spot, Life, Stand}
use Rattle.slave_lives.proofs.of_life_model.Eras.{session_of, of_one}
use Rattle.slave_lives.specs.Lived.{Behind, table_of, node_seen}
use Rattle.slave_lives.specs.Opening.{Plan}
use Rattle.whole_ring.specs.Promises.{IsPromised}
use Rattle.whole_ring.specs.Whole.{OwesLaws, LivesOpen, StandsAs, IsLived}
use Rattle.whole_ring.proofs.Open.{steady_of}

pub promised : {S V A Q R : Type 0} (w : Behind S V A Q R) (c : Clearing V A) (p : Plan) (spot : Spot) (first : A) (l : Life Body Q R) (fs : List (Frame Body)) (n : Node S) → OwesLaws w c p spot → (i : IsLived w c p spot first l fs n) → l.stand ≡ Stand.Open →
    IsPromised w spot i.from l.era fs n
promised {V = V} {A = A} {Q = Q} {R = R} w c p spot first l fs n owes i stand = of (subst (λ (st : Stand). StandsAs w p spot i.from l.era fs st n) stand i.now)
  where
    of : LivesOpen w spot i.from l.era fs n → IsPromised w spot i.from l.era fs n
    of now =
        let k = now.lives.epoch in
        let o : OpenEra V A Body Q R = record {
          exchange = w.exchange;
          states = w.states;
          processor = w.processor;
          table = table_of w;
          spot = spot;
          era = l.era;
          opened = k.opened;
          end = length fs;
          frames = fs;
          server = k.server;
          registers = k.registers;
          slave = node_seen w n;
          lawful = owes.lawful;
          stated = owes.whole.stated;
          is = k.is;
        } in
        let q = session_of o in
        let gs = era_frames spot k.opened (length fs) fs in
        record {
          epoch = k;
          promised = λ more. of_one o (λ station start d a s. TasksPromised w.exchange w.states (table_of w station) more gs station start d a s)
              (tasks_promised q.exchange q.lawful q.states q.stated q.processor q.table more q.planned.tells q.plan q.planned q.sides q.accounts q.ring q.frames q.tasked);
          answered = λ more. of_one o (λ station start d a s. TasksAnswered w.exchange w.states (table_of w station) more gs station start d a s)
              (tasks_answered q.exchange q.lawful q.states q.stated q.processor q.table more q.planned.tells q.plan q.planned q.sides q.accounts q.ring q.frames q.tasked);
          handed = λ more. of_one o (λ station start d a s. HandedBy w.exchange more gs station start d s)
              (tasks_handed q.exchange q.lawful q.states q.stated q.processor q.table more q.planned.tells q.plan q.planned q.sides q.accounts q.ring q.frames q.tasked);
          counters = of_one o (λ station start d a s. KnowsCounters gs station start d s)
              (tasks_counted q.exchange q.lawful q.states q.stated q.processor q.table (λ m. false) q.planned.tells q.plan q.planned q.sides q.accounts q.ring q.frames q.tasked);
          in_doubt = λ more. of_one o (λ station start d a s. TasksPast w.exchange more gs station start d a s)
              (tasks_past q.exchange q.lawful q.states q.stated q.processor q.table more q.planned.tells q.plan q.planned q.sides q.accounts q.ring q.frames q.tasked);
          none_in_doubt = λ more. of_one o (λ station start d a s. TasksEndedIf w.exchange more gs station start d a s)
              (tasks_ended q.exchange q.lawful q.states q.stated q.processor q.table more q.planned.tells q.plan q.planned q.sides q.accounts q.ring q.frames q.tasked);
          rests = λ more. of_one o (λ station start d a s. TasksRestIf w.exchange w.states (table_of w station) more gs station start d a s)
              (tasks_rest q.exchange q.lawful q.states q.stated q.processor q.table more q.planned.tells q.plan q.planned q.sides q.accounts q.ring q.frames q.tasked);
          steady = steady_of w c p spot owes.whole i.from l.era fs n k now.over now.hand;
        }
