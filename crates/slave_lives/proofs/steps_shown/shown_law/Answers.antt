use Rattle.slave_lives.proofs.Asking.{acknowledges}
use Rattle.slave_lives.proofs.Standing.{access_shows, steps_stand, watch_stands}
use Rattle.slave_lives.proofs.Going.{stays_on, goes_on}
use Rattle.slave_lives.proofs.steps_shown.shown_law.Goals as goal

pub returns : goal.returns
returns g c = record {
  watched = λ u boot lens p o n cl a two. watch_stands u boot lens p cl.plan o cl.state n cl.closed a two;
  steps = λ u boot lens p o n before cl may s. steps_stand u boot lens p cl.plan o cl.state n before cl.closed may s;
  stays = λ u boot lens p o t before f s. stays_on u boot lens p o t f before s;
  shows = λ u boot lens p o n d done found cl a came zero s. access_shows u boot lens p cl.plan o cl.state n d done found cl.closed a came zero s;
  acknowledges = λ u n clears runs roomy. acknowledges u n clears runs roomy;
  goes = λ u boot lens p o t d done found f back clear last. goes_on u boot lens p o t f d done found back clear last;
}
