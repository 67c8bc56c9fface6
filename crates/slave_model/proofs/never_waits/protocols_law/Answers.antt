use Rattle.slave_model.proofs.Protocols.{coe_never, foe_never, soe_never, eoe_never}
use Rattle.slave_model.proofs.never_waits.protocols_law.Goals as goal

pub returns-clause-objects : goal.returns-clause-objects
returns-clause-objects g c = λ o eoe areas law sized. coe_never o eoe areas law sized

pub returns-clause-files : goal.returns-clause-files
returns-clause-files g c = λ o areas law sized. foe_never o law areas sized

pub returns-clause-elements : goal.returns-clause-elements
returns-clause-elements g c = λ o areas. soe_never o areas

pub returns-clause-packets : goal.returns-clause-packets
returns-clause-packets g c = λ o areas. eoe_never o areas
