use Rattle.std.proofs.Common.{refl, sym, ◌∙◌, subst}
use Rattle.std.specs.Prelude.{All}
use Rattle.std.proofs.lemmas.List.Elements.{All-push}
use Rattle.gateway_run.specs.Heard.{IsOwed}
use Rattle.gateway_run.specs.Account.{owing}
use Rattle.gateway_run.proofs.Accounts.{owes_one}
use Rattle.gateway_run.proofs.Desks.{answered, sound_same, spelled_to}
use Rattle.gateway_run.proofs.desk.Desk.answer.Goals as goal

pub returns-clause-sound : goal.returns-clause-sound
returns-clause-sound c = λ heard o s.
    sound_same heard c.args.self.now _ refl refl
    (subst (All (IsOwed heard)) (sym c.in_ok-push_back.ensures.items)
    (All-push (IsOwed heard) c.args.self.now.outbox.items _ s.owed
    (answered heard c.args.self.now.gateway c.args.request c.args.mail.now c.reply-peer.result c.reply-peer.new.into.items c.in_ok-bytes.bytes o c.reply-peer.ensures (c.in_ok-bytes.ensures ∙ c.as_slice.ensures.value))))
    s

pub returns-clause-owes : goal.returns-clause-owes
returns-clause-owes c = λ heard o.
    owes_one heard (owing c.args.mail.now c.args.request) _ c.args.self.now.outbox.items _ c.in_ok-push_back.ensures.items
    (spelled_to heard c.args.self.now.gateway c.args.request c.args.mail.now c.reply-peer.result c.reply-peer.new.into.items c.in_ok-bytes.bytes o c.reply-peer.ensures (c.in_ok-bytes.ensures ∙ c.as_slice.ensures.value))
