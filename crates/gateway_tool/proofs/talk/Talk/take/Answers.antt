use Rattle.std.proofs.Common.{[], sym, ap, ◌∙◌, subst}
use Rattle.std.specs.Prelude.{is_some}
use Rattle.gateway_tool.specs.Client.{left, awaits}
use Rattle.gateway_tool.specs.Talk.{heard_by, HearsMail}
use Rattle.gateway_tool.specs.declared.client.Client.{Client}
use Rattle.gateway_tool.specs.declared.talk.Talk.{Talk}
use Rattle.gateway_tool.proofs.Hearings.{keeps, hears_gram, replied_so, quiet_so, less_left}
use Rattle.gateway_tool.proofs.talk.Talk.take.Goals as goal

pub returns-clause-goes : goal.returns-clause-goes
returns-clause-goes c = λ call first now h.
    let e = ap (λ (t : Talk). t.client) c.count.ensures in
    hears_gram call first now c.args.self.now c.count.new.self c.hear-took.result h c.requires.none c.requires.waits c.requires.passed c.requires.taken
    (subst (λ (k : Client). HearsMail c.hear-took.result (heard_by c.args.self.now) c.args.self.now.client k) (sym e) c.hear-took.ensures.hears)
    (keeps c.hear-took.result c.args.self.now c.hear-took.new.self c.count.new.self c.hear-took.ensures.kept c.count.ensures)

pub returns-clause-replied : goal.returns-clause-replied
returns-clause-replied c =
    ap (λ (t : Talk). is_some (awaits t.client [])) c.count.ensures ∙ replied_so (heard_by c.args.self.now) c.hear-took.result c.args.self.now.client c.hear-took.new.self.client c.requires.waits c.hear-took.ensures.hears ∙ sym c.is_done.ensures

pub returns-clause-quiet : goal.returns-clause-quiet
returns-clause-quiet c = λ h.
    let k = keeps c.hear-took.result c.args.self.now c.hear-took.new.self c.count.new.self c.hear-took.ensures.kept c.count.ensures in
    ap (λ (t : Talk). left t.client []) c.count.ensures ∙ quiet_so (heard_by c.args.self.now) c.hear-took.result c.args.self.now.client c.hear-took.new.self.client c.args.self.now.passed c.requires.none c.hear-took.ensures.hears
    (subst (λ n. Rattle.std.proofs.Common.◌<◌ 0 n) k.passed h)

pub returns-clause-less : goal.returns-clause-less
returns-clause-less c =
    let k = keeps c.hear-took.result c.args.self.now c.hear-took.new.self c.count.new.self c.hear-took.ensures.kept c.count.ensures in
    less_left c.hear-took.result c.args.self.now c.count.new.self c.requires.passed c.requires.taken k.passed k.taken
