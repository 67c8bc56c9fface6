use Rattle.master_tour.proofs.Cursors.{stands_first}
use Rattle.master_tour.proofs.cursor.Cursor.new.Goals as goal

pub returns-clause-stands : goal.returns-clause-stands
returns-clause-stands c = stands_first c.args.octets.now c.first.result c.first.ensures.first
