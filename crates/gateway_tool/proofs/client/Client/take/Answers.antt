use Rattle.std.proofs.Common.{◌≡◌, [], sym, subst}
use Rattle.gateway_tool.specs.Client.{left, Takes}
use Rattle.gateway_tool.specs.declared.client.Client.{Client}
use Rattle.gateway_tool.proofs.Clients.{sdo_took, sdo_one, file_took, file_one, one_left}
use Rattle.gateway_tool.proofs.client.Client.take.Goals as goal

pub returns-in-Sdo-clause-takes : goal.returns-in-Sdo-clause-takes
returns-in-Sdo-clause-takes c =
    let e = subst (λ (x : Client). left x [] ≡ []) c.in-Sdo.is c.requires in
    subst (λ (x : Client). Takes c.take.result x c.args.mail.now (Client.Sdo c.take.new.self)) (sym c.in-Sdo.is) (sdo_took c.take.result c.in-Sdo.client c.take.new.self c.args.mail.now e c.take.ensures)

pub returns-in-Sdo-clause-few : goal.returns-in-Sdo-clause-few
returns-in-Sdo-clause-few c =
    let e = subst (λ (x : Client). left x [] ≡ []) c.in-Sdo.is c.requires in
    one_left c.take.result (Client.Sdo c.in-Sdo.client) (Client.Sdo c.take.new.self) c.args.mail.now e (sdo_one c.in-Sdo.client c.args.mail.now e)
    (sdo_took c.take.result c.in-Sdo.client c.take.new.self c.args.mail.now e c.take.ensures)

pub returns-in-File-clause-takes : goal.returns-in-File-clause-takes
returns-in-File-clause-takes c =
    let e = subst (λ (x : Client). left x [] ≡ []) c.in-File.is c.requires in
    subst (λ (x : Client). Takes c.take-in-File.result x c.args.mail.now (Client.File c.take-in-File.new.self)) (sym c.in-File.is)
    (file_took c.take-in-File.result c.in-File.client c.take-in-File.new.self c.args.mail.now e c.take-in-File.ensures)

pub returns-in-File-clause-few : goal.returns-in-File-clause-few
returns-in-File-clause-few c =
    let e = subst (λ (x : Client). left x [] ≡ []) c.in-File.is c.requires in
    one_left c.take-in-File.result (Client.File c.in-File.client) (Client.File c.take-in-File.new.self) c.args.mail.now e (file_one c.in-File.client c.args.mail.now e)
    (file_took c.take-in-File.result c.in-File.client c.take-in-File.new.self c.args.mail.now e c.take-in-File.ensures)
