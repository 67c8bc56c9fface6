-- THE BOOK OF A SLAVE IN ITS FIRST EPOCH, of the node as it is seen.
use Rattle.std.specs.Prelude.{◌≡◌, ℕ, Bool, None, List, [], length}
use Rattle.slave_server.specs.of_link_mails.Body.{Body}
use Rattle.slave_server.specs.of_segment_model.Laws.{IsSettled, WantsNothing}
use Rattle.slave_server.specs.of_segment_model.Record.{Frame}
use Rattle.slave_server.specs.of_slave_node.Node.{Node}
use Rattle.slave_server.specs.of_state_model.Promise.{services_in}
use Rattle.whole_ring.specs.of_life_model.Book.{SlaveBook, IsForgetful}
use Rattle.whole_ring.specs.of_life_model.Eras.{Clearing}
use Rattle.whole_ring.specs.of_life_model.Lives.{Spot, Life}
use Rattle.whole_ring.specs.of_life_model.Chain.{KeepsSame}
use Rattle.whole_ring.specs.of_life_model.Open.{Setting, IsOpenLife, BookAnswers, BookFits, BookRests, BookDone}
use Rattle.whole_ring.specs.of_life_model.Script.{services_of}
use Rattle.whole_ring.specs.of_slave_lives.Lived.{Behind, table_of, node_seen}
use Rattle.whole_ring.specs.of_slave_lives.Opening.{Plan}
use Rattle.whole_ring.specs.Whole.{OwesLaws}

-- what telling an AL state and a return to Init do to an application
pub record Forgets {S V A Q R : Type 0} (w : Behind S V A Q R) (c : Clearing V A) : Type 0 where
  pub forgets : IsForgetful w.states
  pub keeps : KeepsSame w.states c.cleared

-- the run as this slave has it
abbrev pub setting_of : {S V A Q R : Type 0} (w : Behind S V A Q R) (c : Clearing V A) (p : Plan) (spot : Spot) → OwesLaws w c p spot → Forgets w c → (Body → Bool) → List (Frame Body) → Setting V A Body Q R
setting_of w c p spot owes f more fs = record {
  exchange = w.exchange;
  lawful = owes.lawful;
  states = w.states;
  stated = owes.whole.stated;
  processor = w.processor;
  table = table_of w;
  cleared = c.cleared;
  more = more;
  spot = spot;
  frames = fs;
  forgets = f.forgets;
  keeps = f.keeps;
}

-- THE BOOK: one epoch, with the rows of the life; its answers are those that the frames give, and it fits; and where the slave is settled and the
-- master wants nothing of it, nothing is left and all is done
pub record FirstBook {S V A Q R : Type 0} (w : Behind S V A Q R) (c : Clearing V A) (p : Plan) (spot : Spot) (owes : OwesLaws w c p spot) (f : Forgets w c) (more : Body → Bool) (first : A) (l : Life Body Q R) (fs : List (Frame Body)) (n : Node S) : Type 0 where
  pub book : SlaveBook A Body Q R
  pub from : book.first ≡ first
  pub app : book.app ≡ w.exchange.app (node_seen w n).node.server.server
  pub state : book.state ≡ (node_seen w n).registers.state
  pub live : book.given_up ≡ None
  pub never : book.gave ≡ []
  pub life : IsOpenLife (setting_of w c p spot owes f more fs) book
  pub era : life.epoch.era ≡ l.era
  pub rows : life.epoch.rows ≡ l.era.account.started
  pub begun : services_of book.epochs ≡ services_in l.era.account.started
  pub answers : (pace : ℕ) → BookAnswers (setting_of w c p spot owes f more fs) book pace (length fs)
  pub fits : BookFits (setting_of w c p spot owes f more fs) book
  pub rests : IsSettled (node_seen w n) → WantsNothing w.exchange.speech l.era.side → l.era.account.hand ≡ None → BookRests (setting_of w c p spot owes f more fs) book
  pub done : IsSettled (node_seen w n) → WantsNothing w.exchange.speech l.era.side → l.era.account.hand ≡ None → BookDone (setting_of w c p spot owes f more fs) book
