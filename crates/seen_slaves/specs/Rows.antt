-- THE MAIL IN HAND OF A SLAVE OF A SERVING that is passed on.
use Rattle.std.specs.Prelude.{◌≡◌, ◌≤◌, ℕ}
use Rattle.idle_slaves.specs.of_frame_view.View.{Lens}
use Rattle.idle_slaves.specs.of_life_model.Lives.{Stand, new_life}
use Rattle.idle_slaves.specs.of_life_runs.Led.{Leads, speech_at, is_passed}
use Rattle.served_rings.specs.of_master_hand.Spoken.{is_followed}
use Rattle.served_rings.specs.of_few_replies.Heard.{EraPasses}
use Rattle.idle_slaves.specs.of_life_runs.Served.{Serves}
use Rattle.seen_slaves.specs.Last.{LastPasses}
use Rattle.idle_slaves.specs.of_slave_model.Moments.{NowAnswered}
use Rattle.seen_slaves.specs.Told.{EraTold}

-- a slave before the first frame: it has a station, and nothing happened in its life
pub record IsNew (a : Leads) : Type 0 where
  pub station : 1 ≤ a.lived.spot.station
  pub life : a.lived.life ≡ new_life a.lived.spot.start

-- WHILE IT ISN'T OVER it is the newest row of its epoch, and the newest service; and no reply of it was heard, or others follow the last that was
pub record PassesSo (lens : ℕ → Lens) (w : Serves) : Type 0 where
  pub row : EraPasses (speech_at lens w.lead.lived.spot) is_followed is_passed w.lead.lived.life.era
  pub last : LastPasses w.lead.lived.life.era

-- of an open slave: while it waits it is held, or wasn't told; and once it was sent it is held until its write is done
abbrev pub ToldSo : Serves → Type 0
ToldSo w = w.lead.lived.life.stand ≡ Stand.Open → EraTold w.lead.lived.life.era

-- what was heard of its newest service is its answer
abbrev pub SaidSo : (ℕ → Lens) → Serves → Type 0
SaidSo lens w = NowAnswered (speech_at lens w.lead.lived.spot) w.lead.lived.life.era.side
