use Rattle.coe_server.proofs.ObjectsLaw.{lawful}
use Rattle.coe_server.proofs.objects.objects_are_lawful.Goals as goal

pub returns : goal.returns
returns c = λ cut al. lawful cut al
