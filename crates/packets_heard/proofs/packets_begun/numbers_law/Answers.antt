use Rattle.std.proofs.Common.{refl}
use Rattle.master_node.specs.Downs.{goes_down}
use Rattle.master_node.specs.Happened.{events_of}
use Rattle.packets_heard.proofs.GivenUp.{numbers_down}
use Rattle.packets_heard.proofs.Numbers.{numbers_begun, numbers_heard, numbered_on, serving_begins, serving_comes}
use Rattle.packets_heard.proofs.Quiet.{run_quiet, serving_quiet}
use Rattle.packets_heard.proofs.PacketsRuns.{none_behind}
use Rattle.packets_heard.proofs.packets_begun.numbers_law.Goals as goal

pub returns-clause-begun : goal.returns-clause-begun
returns-clause-begun c = λ lens recover retry missed ports many first as' fs led es ns k port own x. numbers_begun ports many k port own led es ns x

pub returns-clause-heard : goal.returns-clause-heard
returns-clause-heard c = λ lens recover retry missed ports many first as' fs led es ns k port own l x. numbers_heard ports many k port own led es ns l x

pub returns-clause-down : goal.returns-clause-down
returns-clause-down c = λ lens plan retry missed ports many as' fs led es ns k port own live l x. numbers_down lens plan retry ports many k port own live led es ns l x

pub returns-clause-quiet : goal.returns-clause-quiet
returns-clause-quiet c = λ lens recover retry missed ports many first as' fs led es ns k port own x. run_quiet ports many k port own led es ns x

pub returns-clause-goes_on : goal.returns-clause-goes_on
returns-clause-goes_on c = λ lens recover retry missed ports many first as' fs led f us frame m n packets leads es ns same making begins stands arrives downs listed before was.
    numbered_on ports many led f us frame m.lan n.lan es (events_of n.lan.happened) ns _ listed before was same making begins stands
    (none_behind m.lan.ports.items packets (goes_down us leads) m.tour.visit.items (events_of n.lan.happened) f.fate (λ e. (arrives e).events) (λ after e. (downs after e).events)) refl

pub returns-clause-served_begun : goal.returns-clause-served_begun
returns-clause-served_begun c = λ lens recover retry missed ports many first ws fs led es ns k port own x. serving_begins ports many k port own led es ns x

pub returns-clause-served_heard : goal.returns-clause-served_heard
returns-clause-served_heard c = λ lens recover retry missed ports many first ws fs led es ns k port own l x. serving_comes ports many k port own led es ns l x

pub returns-clause-served_quiet : goal.returns-clause-served_quiet
returns-clause-served_quiet c = λ lens recover retry missed ports many first ws fs led es ns k port own x. serving_quiet ports many k port own led es ns x
