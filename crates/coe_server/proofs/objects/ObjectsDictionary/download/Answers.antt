use Rattle.coe_server.specs.Serving.{target_view}
use Rattle.coe_server.proofs.ObjectsLaw.{fits_stored}
use Rattle.coe_server.proofs.objects.ObjectsDictionary.download.Goals as goal

pub returns-else-target-clause-emits : goal.returns-else-target-clause-emits
returns-else-target-clause-emits c = λ none eoe.
    fits_stored c.args.al c.args.self.now c.download.new.self (target_view c.args.target) c.args.bytes.now c.download.result c.if-target.false c.download.ensures.sound c.download.ensures.stores none eoe
