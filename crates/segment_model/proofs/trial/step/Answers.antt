-- A step of a session, by the contracts of its master and its wire.
use Rattle.std.specs.Prelude.{Some, None}
use Rattle.segment_model.proofs.Trials.{step_stays}
use Rattle.segment_model.proofs.trial.step.Goals as goal

pub returns : goal.returns
returns g c = λ ps ds fs shows made bound.
    let n = c.next.ensures in
    let e = c.exchange-returned.ensures in
    let o = c.go_on.ensures in
    step_stays (g.W.Wire.processor c.args.wire.now) (g.W.Wire.processor c.exchange-returned.new.self) ps ds fs (g.W.Wire.ring c.args.wire.now) (g.W.Wire.ring c.exchange-returned.new.self)
    (g.M.Master.made c.args.master.now) (g.M.Master.made c.next.new.self) (g.M.Master.made c.go_on.new.master)
    (g.F.Buffer.seen c.next.new.into) (g.F.Buffer.seen c.exchange-returned.new.back) (g.W.Wire.fate c.exchange-returned.new.self) (g.W.Wire.steps c.exchange-returned.new.self)
    (λ es. g.M.Master.shows c.next.new.self es (Some (g.F.Buffer.seen c.next.new.into))) (λ es. g.M.Master.shows c.go_on.new.master es None) c.exchange-returned.result
    made bound (n.chosen ds shows) n.made e.ring e.back e.processor e.came (λ ds fate came back. o.sides ds (g.F.Buffer.seen c.next.new.into) fate came back) o.made
