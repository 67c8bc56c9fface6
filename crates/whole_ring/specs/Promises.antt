-- WHAT THE EPOCH OF AN OPEN SLAVE PROMISES OF ITS NODE, over the slave's own part of the frames.
use Rattle.std.specs.Prelude.{Bool, List, length}
use Rattle.slave_lives.specs.of_link_mails.Body.{Body}
use Rattle.slave_lives.specs.of_segment_model.Laws.{HandedBy, KnowsCounters}
use Rattle.slave_lives.specs.of_segment_model.Record.{Frame}
use Rattle.slave_lives.specs.of_slave_node.Node.{Node}
use Rattle.slave_lives.specs.of_state_model.Books.{TasksPast, TasksEndedIf}
use Rattle.slave_lives.specs.of_state_model.Promise.{TasksPromised, TasksAnswered, TasksRestIf}
use Rattle.slave_lives.specs.of_state_model.Steady.{IsSteady}
use Rattle.slave_lives.specs.of_life_model.Eras.{era_frames}
use Rattle.slave_lives.specs.of_life_model.Lives.{Spot, Era}
use Rattle.slave_lives.specs.Lived.{Behind, table_of, node_seen, LivesEra}

-- all that the model's law of an open epoch promises, of the node as it is seen, with the side and the account of the life
pub record IsPromised {S V A Q R : Type 0} (w : Behind S V A Q R) (spot : Spot) (from : A) (e : Era Body Q R) (fs : List (Frame Body)) (n : Node S) : Type 0 where
  pub epoch : LivesEra w spot from e fs n
  pub promised : (more : Body → Bool) → TasksPromised w.exchange w.states (table_of w spot.station) more (era_frames spot epoch.opened (length fs) fs) spot.station epoch.server e.side e.account (node_seen w n)
  pub answered : (more : Body → Bool) → TasksAnswered w.exchange w.states (table_of w spot.station) more (era_frames spot epoch.opened (length fs) fs) spot.station epoch.server e.side e.account (node_seen w n)
  pub handed : (more : Body → Bool) → HandedBy w.exchange more (era_frames spot epoch.opened (length fs) fs) spot.station epoch.server e.side (node_seen w n)
  pub counters : KnowsCounters (era_frames spot epoch.opened (length fs) fs) spot.station epoch.server e.side (node_seen w n)
  pub in_doubt : (more : Body → Bool) → TasksPast w.exchange more (era_frames spot epoch.opened (length fs) fs) spot.station epoch.server e.side e.account (node_seen w n)
  pub none_in_doubt : (more : Body → Bool) → TasksEndedIf w.exchange more (era_frames spot epoch.opened (length fs) fs) spot.station epoch.server e.side e.account (node_seen w n)
  pub rests : (more : Body → Bool) → TasksRestIf w.exchange w.states (table_of w spot.station) more (era_frames spot epoch.opened (length fs) fs) spot.station epoch.server e.side e.account (node_seen w n)
  pub steady : IsSteady (node_seen w n)
