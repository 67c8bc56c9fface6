use Rattle.slave_lives.proofs.Returns
use Rattle.slave_lives.proofs.Turning
use Rattle.slave_lives.proofs.opening_laws.return_law.Goals as goal

pub returns : goal.returns
returns g c = record {
  freezes = λ lens p r ds open_ station state up one. Turning.frame_freezes lens p r ds open_ station state up one;
  frozen = λ lens p n r ds at b one. Turning.frame_frozen lens p n r ds at b one;
  unseen = λ lens p r d b a shows. Turning.frozen_shows lens p r d b a shows;
  returns = λ u boot lens p plan clears n soon r q k j s t b keeps steps status code. Turning.step_freezes u boot lens p plan clears n soon r q k j s t b keeps steps status code;
  stays = λ u boot lens p plan n r k s ds at b one. Returns.frame_returns u boot lens p plan n r k s ds at b one;
  goes = λ u boot lens p plan n r k s ds at b one. Returns.frame_turns u boot lens p plan n r k s ds at b one;
  steps = λ u boot lens p plan n r q k j s t b keeps steps status code. Turning.step_returns u boot lens p plan n r q k j s t b keeps steps status code;
  kept = λ u boot lens p plan n r q k j s t b steps is. Turning.start_kept u boot lens p plan n r q k j s t b steps is;
  shown = λ u boot lens p plan r k s d b a shows. Turning.state_shown u boot lens p plan r k s d b a shows;
  opened = λ u boot lens p plan n late r k s b is. Turning.reopened u boot lens p plan n late r k s b is;
  raised = λ u boot lens p start plan former m r k s d b a. Turning.raised u boot lens p start plan former m r k s d b a;
}
