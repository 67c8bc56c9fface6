use Rattle.std.proofs.Common.{refl, sym}
use Rattle.std.specs.Prelude.{⊤}
use Rattle.master_side.specs.Shown.{SideShows}
use Rattle.master_tour.proofs.Walks.{steps_set}
use Rattle.master_tour.proofs.Steps.{frame_grows}
use Rattle.master_tour.proofs.Mades.{made_ahead, made_other, grown_none}
use Rattle.master_tour.proofs.Rooms.{fits_in, looks}
use Rattle.master_tour.specs.First.{FitsFirst}
use Rattle.master_tour.proofs.tour.Tour.fits.Goals as goal

pub returns-clause-lives : goal.returns-clause-lives
returns-clause-lives g c = steps_set _ c.args.place c.args.self.now.stops.items c.index_mut.result.now c.ahead.new.self c.requires.inside c.index_mut.ensures.value (c.ahead.ensures.lives, c.ahead.ensures.kept.0, c.ahead.ensures.kept.1, c.ahead.ensures.kept.3, c.ahead.ensures.kept.4)

pub returns-clause-step : goal.returns-clause-step
returns-clause-step g c = steps_set _ c.args.place c.args.self.now.stops.items c.index_mut.result.now c.ahead.new.self c.requires.inside c.index_mut.ensures.value (c.ahead.ensures.link, c.ahead.ensures.stand, c.ahead.ensures.passing, c.ahead.ensures.script)

pub returns-clause-made : goal.returns-clause-made
returns-clause-made g c = λ x more passed made recover index count lens left lives octets begun d k f.
    let v = c.index_mut.result.now in
    let w = c.ahead.new.self in
    let e = c.ahead.ensures in
    frame_grows _ _ lens octets octets count count lives c.args.self.now.stops.items _ c.args.place v w (λ spot. ⊤) d c.requires.inside c.index_mut.ensures.value refl (λ ds b m. tt)
    (λ ds es spot b i s u h p m. made_other (x b.spot) g.H.Hand.acknowledged more passed made lens recover index (λ n a. SideShows (g.H.Hand.shows s.side.hand (x b.spot)) s.side.out s.side.inn s.side.fresh s.side.duty n a) s.side.station s.place s.start s.stand s.spare s.side.out s.side.inn s.side.duty s.side.carried s.side.passing s.under s.at left left begun begun ds es i b spot refl (λ j q. q) h p m)
    (λ ds b bg l m. grown_none lens _ b.spot octets count ds bg l
    (made_ahead (x b.spot) g.H.Hand.acknowledged more passed made lens recover index (λ n a. SideShows (g.H.Hand.shows v.side.hand (x b.spot)) v.side.out v.side.inn v.side.fresh v.side.duty n a) (λ n a. SideShows (g.H.Hand.shows w.side.hand (x b.spot)) w.side.out w.side.inn w.side.fresh w.side.duty n a)
    v.side.station w.side.station v.place w.place v.start w.start v.stand w.stand v.spare w.spare v.side.out w.side.out v.side.inn w.side.inn v.side.duty w.side.duty v.side.carried w.side.carried v.side.passing w.side.passing v.under w.under v.at w.at left begun ds c.args.place b
    e.link.station_is e.kept.0 e.kept.1 e.stand e.link.out_is e.link.in_is e.passing e.kept.3 k m (e.lives (x b.spot) more passed made recover b.spot m.life m.lives.shown)))
    f

pub returns-clause-join : goal.returns-clause-join
returns-clause-join g c = steps_set _ c.args.place c.args.self.now.stops.items c.index_mut.result.now c.ahead.new.self c.requires.inside c.index_mut.ensures.value c.ahead.ensures.join

pub returns-clause-room : goal.returns-clause-room
returns-clause-room g c =
    let a = c.ahead.ensures in
    steps_set _ c.args.place c.args.self.now.stops.items c.index_mut.result.now c.ahead.new.self c.requires.inside c.index_mut.ensures.value
    (looks c.args.frame.now.items c.index_mut.result.now c.ahead.new.self c.ahead.result c.room.result a.area a.again c.room.ensures)

pub returns-clause-recalled : goal.returns-clause-recalled
returns-clause-recalled g c = steps_set _ c.args.place c.args.self.now.stops.items c.index_mut.result.now c.ahead.new.self c.requires.inside c.index_mut.ensures.value c.ahead.ensures.recalled

pub returns-clause-read : goal.returns-clause-read
returns-clause-read g c = steps_set _ c.args.place c.args.self.now.stops.items c.index_mut.result.now c.ahead.new.self c.requires.inside c.index_mut.ensures.value (c.ahead.ensures.read, c.ahead.ensures.awaits)

pub returns-clause-still : goal.returns-clause-still
returns-clause-still g c = steps_set _ c.args.place c.args.self.now.stops.items c.index_mut.result.now c.ahead.new.self c.requires.inside c.index_mut.ensures.value c.ahead.ensures.still

pub returns-clause-begins : goal.returns-clause-begins
returns-clause-begins g c = λ r.
    steps_set (λ s t. FitsFirst c.args.frame.now.items c.args.wish s) c.args.place c.args.self.now.stops.items c.index_mut.result.now c.ahead.new.self c.requires.inside c.index_mut.ensures.value
    (λ o f w e. let same = c.ahead.ensures.first o f w e in fits_in c.args.frame.now.items c.ahead.result c.room.result _ (sym same) c.room.ensures r)
