use Rattle.eoe.proofs.Whole.{every_area_gives_the_packet}
use Rattle.protocol_models.proofs.eoe_model.packets_arrive.Goals as goal

pub returns : goal.returns
returns c = λ before octets room frame least greatest wide. every_area_gives_the_packet before octets room frame least greatest wide
