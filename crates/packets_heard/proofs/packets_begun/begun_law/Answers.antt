use Rattle.std.proofs.Common.{map}
use Rattle.master_node.specs.Downs.{goes_down}
use Rattle.master_node.specs.Happened.{events_of}
use Rattle.master_node.specs.Serving.{run_turn}
use Rattle.packets_heard.specs.Over.{AreBegun}
use Rattle.packets_heard.specs.Servings.{AreServedBegun}
use Rattle.packets_heard.proofs.PacketsRuns.{run_begun, run_first, run_last, serving_begun, serving_first, serving_last, none_behind, begun_on}
use Rattle.packets_heard.proofs.packets_begun.begun_law.Goals as goal

pub returns-clause-begun : goal.returns-clause-begun
returns-clause-begun c = λ lens recover retry missed ports many first as' fs led es k port own x. run_begun ports many k port own led es x

pub returns-clause-forwarded : goal.returns-clause-forwarded
returns-clause-forwarded c = λ lens recover retry missed ports many first as' fs led es k port own l x. run_first ports many k port own led es l x

pub returns-clause-last : goal.returns-clause-last
returns-clause-last c = λ lens recover retry missed ports many first as' fs led es xs ys k port own x e. run_last ports many k port own led es xs ys x e

pub returns-clause-goes_on : goal.returns-clause-goes_on
returns-clause-goes_on c = λ lens recover retry missed ports many first as' fs led f us frame m n packets leads es same begins stands arrives downs before.
    begun_on (λ old. AreBegun ports many led old) ports many us m.lan n.lan es (events_of n.lan.happened) before same begins stands
    (none_behind m.lan.ports.items packets (goes_down us leads) m.tour.visit.items (events_of n.lan.happened) f.fate (λ e. (arrives e).events) (λ after e. (downs after e).events))

pub returns-clause-served_begun : goal.returns-clause-served_begun
returns-clause-served_begun c = λ lens recover retry missed ports many first ws fs led es k port own x. serving_begun ports many k port own led es x

pub returns-clause-served_last : goal.returns-clause-served_last
returns-clause-served_last c = λ lens recover retry missed ports many first ws fs led es xs ys k port own x e. serving_last ports many k port own led es xs ys x e

pub returns-clause-served_forwarded : goal.returns-clause-served_forwarded
returns-clause-served_forwarded c = λ lens recover retry missed ports many first ws fs led es k port own l x. serving_first ports many k port own led es l x

pub returns-clause-served_goes_on : goal.returns-clause-served_goes_on
returns-clause-served_goes_on c = λ lens recover retry missed ports many first ws fs led f vs frame m n packets leads es same begins stands arrives downs before.
    begun_on (λ old. AreServedBegun ports many led old) ports many (map run_turn vs) m.lan n.lan es (events_of n.lan.happened) before same begins stands
    (none_behind m.lan.ports.items packets (goes_down (map run_turn vs) leads) m.tour.visit.items (events_of n.lan.happened) f.fate (λ e. (arrives e).events) (λ after e. (downs after e).events))
