use Rattle.slave_model.proofs.HearsProtocols.{coe_hears, foe_hears, soe_hears, eoe_hears}
use Rattle.slave_model.proofs.hears_first.protocols_law.Goals as goal

pub returns-clause-objects : goal.returns-clause-objects
returns-clause-objects g c = λ o eoe areas law sized. coe_hears o law eoe areas sized

pub returns-clause-files : goal.returns-clause-files
returns-clause-files g c = λ o areas law sized. foe_hears o law areas sized

pub returns-clause-elements : goal.returns-clause-elements
returns-clause-elements g c = λ o areas law sized. soe_hears o law areas sized

pub returns-clause-packets : goal.returns-clause-packets
returns-clause-packets g c = λ o areas sound sized. eoe_hears o sound areas sized
