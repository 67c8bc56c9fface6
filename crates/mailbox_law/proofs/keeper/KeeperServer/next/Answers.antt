-- What waits behind the first mail has room as before.
use Rattle.std.proofs.Common.{sym, subst, List}
use Rattle.std.specs.Prelude.{All}
use Rattle.std.proofs.lemmas.List.Elements.{All-drop}
use Rattle.mailbox_master.specs.of_mailbox_mail.declared.mail.Mail.{Mail}
use Rattle.mailbox_law.specs.Waiting.{HasRoom}
use Rattle.mailbox_law.proofs.keeper.KeeperServer.next.Goals as goal

pub invariant_of-self : goal.invariant_of-self
invariant_of-self c =
    let P : List Mail → Type 0 = λ xs. All (HasRoom c.self.inside.room) xs in
    subst P (sym c.in-Some.ensures.rest) (All-drop (HasRoom c.self.inside.room) 1 c.self.inside.waiting.items c.self.invariant)
