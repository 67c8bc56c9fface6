use Rattle.std.proofs.Common.{sym, ap, ◌∙◌}
use Rattle.protocol_models.specs.FoeMails.{failed}
use Rattle.foe_server.specs.declared.state.Pending.{Pending}
use Rattle.foe_server.specs.Serving.{Serving, waiting_mails, pending_mails}
use Rattle.foe_server.proofs.server.FoeServer.next_into.Goals as goal

pub returns-in-Failed-clause-next : goal.returns-in-Failed-clause-next
returns-in-Failed-clause-next c = record {
  first = failed c.in-Failed.detail;
  spelled = c.error_mail.ensures;
  waited = ap (λ (t : Serving). waiting_mails t c.args.store.now) (sym c.self.view_is) ∙ ap (pending_mails c.self.inside.back c.self.inside.name.items c.args.store.now.kept) c.in-Failed.is;
  rest = ap (λ (t : Serving). record t { pending = Pending.Nothing }) c.self.view_is;
}
