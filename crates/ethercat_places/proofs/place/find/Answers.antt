use Rattle.std.proofs.Common.{◌∙◌}
use Rattle.ethercat_places.proofs.Placing.{inside_of, tagged_found}
use Rattle.ethercat_places.proofs.place.find.Goals as goal

pub returns-clause-inside : goal.returns-clause-inside
returns-clause-inside c = inside_of _ _ c.find_plain.ensures

pub returns-clause-tagged : goal.returns-clause-tagged
returns-clause-tagged c = λ tags payload is. c.find_plain.ensures ∙ tagged_found _ payload tags is
