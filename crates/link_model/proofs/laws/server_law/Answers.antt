-- The lemma on servers, at the types of the function.
use Rattle.link_model.proofs.Servers.{step_seen}
use Rattle.link_model.proofs.laws.server_law.Goals as goal

pub returns : goal.returns
returns g c = λ v u f n seen. step_seen v u f seen n
