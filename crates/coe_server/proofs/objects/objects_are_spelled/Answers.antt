use Rattle.coe_server.proofs.ObjectsLaw.{spelled}
use Rattle.coe_server.proofs.objects.objects_are_spelled.Goals as goal

pub returns : goal.returns
returns c = λ cut al fragments. spelled cut al fragments
