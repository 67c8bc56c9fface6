use Rattle.std.proofs.Common.{sym, ap, ◌∙◌, subst}
use Rattle.std.proofs.lemmas.Result.{on_ok_weaker}
use Rattle.run_book.specs.of_master_node.declared.event.Origin.TheVariants.{Forward, Gateway}
use Rattle.run_notes.specs.Reports.{Reports}
use Rattle.run_notes.specs.declared.notes.Notes.{Notes}
use Rattle.run_notes.proofs.Reports.{began_reports}
use Rattle.run_notes.specs.Packets.{noted_began}
use Rattle.run_notes.proofs.log.note_began.Goals as goal

pub returns-in-Forward-clause-told : goal.returns-in-Forward-clause-told
returns-in-Forward-clause-told c =
    on_ok_weaker c.began_other.result (λ is. λ a r. subst (λ (n : Notes). Reports a n) (sym is) (began_reports a c.args.notes.now r (Forward c.in-Forward.number) c.args.frame tt)) c.began_other.ensures.is

pub returns-in-Gateway-clause-told : goal.returns-in-Gateway-clause-told
returns-in-Gateway-clause-told c =
    on_ok_weaker c.began_other-in-Gateway.result (λ is. λ a r. subst (λ (n : Notes). Reports a n) (sym is) (began_reports a c.args.notes.now r (Gateway c.in-Gateway.number) c.args.frame tt)) c.began_other-in-Gateway.ensures.is

pub returns-in-Script-clause-is : goal.returns-in-Script-clause-is
returns-in-Script-clause-is c = ap (λ z. noted_began c.args.notes.now z c.args.frame) (sym c.in-Script.is)

pub returns-in-Forward-clause-is : goal.returns-in-Forward-clause-is
returns-in-Forward-clause-is c =
    on_ok_weaker c.began_other.result (λ is. is ∙ ap (λ z. noted_began c.args.notes.now z c.args.frame) (sym c.in-Forward.is)) c.began_other.ensures.is

pub returns-in-Gateway-clause-is : goal.returns-in-Gateway-clause-is
returns-in-Gateway-clause-is c =
    on_ok_weaker c.began_other-in-Gateway.result (λ is. is ∙ ap (λ z. noted_began c.args.notes.now z c.args.frame) (sym c.in-Gateway.is)) c.began_other-in-Gateway.ensures.is
