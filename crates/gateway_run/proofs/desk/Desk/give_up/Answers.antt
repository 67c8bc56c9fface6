use Rattle.std.proofs.Common.{◌<◌, length, sym, ap, ◌∙◌, arith}
use Rattle.gateway_run.proofs.Accounts.{fewer_found}
use Rattle.gateway_run.proofs.Told.{giving_up_on, given_up_all}
use Rattle.gateway_run.proofs.desk.Desk.give_up.Goals as goal

pub loop-request-smaller : goal.loop-request-smaller
loop-request-smaller c =
    let fewer = fewer_found c.args.slave c.loop-request.self.requests.items c.in-Some.request (sym c.first_of.ensures.first ∙ c.in-Some.is) in
    let n = ap length c.in_ok-drop_one.ensures.requests in
    let less : length c.drop_one.new.self.requests.items < length c.loop-request.self.requests.items = omega (arith, n, fewer) in
    less

pub loop-request-preserved : goal.loop-request-preserved
loop-request-preserved c = λ heard s.
    giving_up_on heard c.args.slave c.args.self.now c.loop-request.self c.drop_one.new.self c.in-Some.request (sym c.first_of.ensures.first ∙ c.in-Some.is) (c.loop-request.invariant heard s) c.in_ok-drop_one.ensures.told

pub returns : goal.returns
returns c = λ heard s. given_up_all heard c.args.slave c.args.self.now c.loop-request.self (sym c.first_of.ensures.first ∙ c.in_default.is) (c.loop-request.invariant heard s)
