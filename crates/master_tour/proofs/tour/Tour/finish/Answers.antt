use Rattle.std.proofs.Common.{ap, length}
use Rattle.master_side.specs.Shown.{SideShows}
use Rattle.master_tour.proofs.Sents.{stop_sent, all_sent, some_more}
use Rattle.master_tour.proofs.Sizes.{size_is}
use Rattle.master_tour.proofs.tour.Tour.finish.Goals as goal

pub returns-clause-made : goal.returns-clause-made
returns-clause-made g c = λ r x more passed made recover index lens left lives begun f.
    let all = all_sent _ _
    (λ i a s m. stop_sent (x a.spot) g.H.Hand.acknowledged more passed made lens recover index (λ d k. SideShows (g.H.Hand.shows s.side.hand (x a.spot)) s.side.out s.side.inn s.side.fresh s.side.duty d k) s.side.station s.place s.start s.stand s.spare s.side.out s.side.inn s.side.duty s.side.carried s.side.passing s.under s.at left begun f.datagrams i a
    (λ d k h. ap (λ z. z.inn) h.halves) s.side.out_is s.side.in_is s.named m)
    0 lives c.args.self.now.stops.items f.each in
    record {
      datagrams = f.datagrams;
      frame = c.finish.ensures.reads f.datagrams f.begun (some_more c.args.self.now.count (length f.datagrams) f.long c.if-self-eq0.false) f.named;
      lives = all.0;
      each = all.1;
    }

pub returns-clause-reads : goal.returns-clause-reads
returns-clause-reads g c = λ r ds b l n. c.finish.ensures.reads ds b (some_more c.args.self.now.count (length ds) l c.if-self-eq0.false) n

pub returns-clause-size : goal.returns-clause-size
returns-clause-size g c = λ r. size_is c.args.frame.now.items c.finish.new.frame.items c.requires.0 c.requires.1 (c.finish.ensures.text c.requires.0 c.requires.1)
