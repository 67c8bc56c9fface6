use Rattle.std.proofs.Common.{length, map}
use Rattle.master_node.specs.of_life_runs.Led.{led_behind, gives_up_at}
use Rattle.master_node.specs.Serving.{run_lead, run_turn}
use Rattle.packets_heard.specs.Heard.{joined_in}
use Rattle.packets_heard.specs.Listed.{Listed}
use Rattle.packets_heard.specs.Servings.{ServedListed, served_joined}
use Rattle.packets_heard.proofs.Carries.{carries_all, listed_on, serves_asked, turns_asked}
use Rattle.packets_heard.proofs.Owns.{own_port}
use Rattle.packets_heard.proofs.Runs.{run_downs, run_arrivals, serving_arrivals, serving_downs}
use Rattle.packets_heard.proofs.Unfinished.{under_way, served_under_way, joined_so}
use Rattle.packets_heard.proofs.port_events.port_law.Goals as goal
use Rattle.master_node.specs.of_life_runs.Served.{served_behind}

pub returns-clause-downs : goal.returns-clause-downs
returns-clause-downs c = λ lens recover retry missed ports first as' fs led es k port own live x. run_downs lens recover retry ports k port own led es live x

pub returns-clause-arrivals : goal.returns-clause-arrivals
returns-clause-arrivals c = λ lens recover retry missed ports first as' fs led es k port own x. run_arrivals lens recover retry ports k port own led es x

pub returns-clause-carries : goal.returns-clause-carries
returns-clause-carries c = λ lens recover retry ports number f as' us live size area t many visit js frame of once back.
    carries_all lens recover retry ports f us frame.datagrams frame.frame (turns_asked lens number frame.datagrams as' us frame.each) live size area t many visit of once back js

pub returns-clause-served_carries : goal.returns-clause-served_carries
returns-clause-served_carries c = λ lens recover retry ports number f ws vs live size area t many visit js frame of once back.
    carries_all lens recover retry ports f (map run_turn vs) frame.datagrams frame.frame (serves_asked lens number frame.datagrams ws vs frame.each) live size area t many visit of once back js

pub returns-clause-goes_on : goal.returns-clause-goes_on
returns-clause-goes_on c = λ lens recover retry missed ports first as' fs led f us frame m n es same making arrives downs carries before.
    listed_on lens recover retry ports (λ old. Listed lens recover retry ports led old) f us (map (led_behind lens recover retry (gives_up_at lens recover retry missed) (length fs) f) us) (joined_in led) m n same making arrives downs carries es before

pub returns-clause-served_goes_on : goal.returns-clause-served_goes_on
returns-clause-served_goes_on c = λ lens recover retry missed ports first ws fs led f vs frame m n es same making arrives downs carries before.
    let leads = map run_lead (map (served_behind lens recover retry (gives_up_at lens recover retry missed) (length fs) f) vs) in
    listed_on lens recover retry ports (λ old. ServedListed ports led old) f (map run_turn vs) leads (served_joined led) m n same making arrives downs carries es before

pub returns-clause-served_downs : goal.returns-clause-served_downs
returns-clause-served_downs c = λ lens recover retry missed ports first ws fs led es k port own live x. serving_downs lens recover retry ports k port own led es live x

pub returns-clause-served_arrivals : goal.returns-clause-served_arrivals
returns-clause-served_arrivals c = λ lens recover retry missed ports first ws fs led es k port own x. serving_arrivals lens recover retry ports k port own led es x

pub returns-clause-own : goal.returns-clause-own
returns-clause-own c = λ slaves k port e. own_port slaves k port e

pub returns-clause-under_way : goal.returns-clause-under_way
returns-clause-under_way c = λ lens made ds as' us m n befores t k h. under_way lens made ds as' us m n befores t k h

pub returns-clause-served_under_way : goal.returns-clause-served_under_way
returns-clause-served_under_way c = λ lens made ds ws vs m n befores t k h. served_under_way lens made ds ws vs m n befores t k h

pub returns-clause-joined : goal.returns-clause-joined
returns-clause-joined c = λ lens f js us e. joined_so lens f js us e
