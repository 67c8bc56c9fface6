use Rattle.std.proofs.Common.{◌≡◌, [], true, refl, subst}
use Rattle.std.specs.Prelude.{is_some}
use Rattle.gateway_tool.specs.Client.{awaits}
use Rattle.gateway_tool.specs.declared.client.Client.{Client}
use Rattle.gateway_tool.proofs.Clients.{file_done}
use Rattle.gateway_tool.proofs.client.Client.reply.Goals as goal

pub value-requires-in-File : goal.value-requires-in-File
value-requires-in-File c = file_done c.in-File.client c.in-File.client.awaits refl (subst (λ (x : Client). is_some (awaits x []) ≡ true) c.in-File.is c.requires.done)

pub reply-into-requires-in-File : goal.reply-into-requires-in-File
reply-into-requires-in-File c = file_done c.in-File.client c.in-File.client.awaits refl (subst (λ (x : Client). is_some (awaits x []) ≡ true) c.in-File.is c.requires.done)
