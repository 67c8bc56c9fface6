use Rattle.std.proofs.Common.{ℕ, List, [], ◌∷◌, ap, ◌∙◌, subst}
use Rattle.std.specs.Prelude.{Ok}
use Rattle.master_hand.specs.Passed.{mail_of}
use Rattle.master_hand.specs.Spoken.{passed}
use Rattle.master_hand.specs.Talk.{Talking, Starts}
use Rattle.master_hand.specs.declared.clients.Which.{Which}
use Rattle.master_hand.specs.contracts.clients.Clients.{the_view}
use Rattle.master_hand.proofs.Passing.{passed_starts}
use Rattle.master_hand.proofs.clients.Clients.start_mail.Goals as goal

pub returns-clause-starts : goal.returns-clause-starts
returns-clause-starts c =
    subst (λ (t : Talking). Starts t.areas (passed (mail_of c.args.mail.now)) Which.Passed (record (the_view c.self.inside) { passed = c.start.new.self })) c.self.view_is
    (passed_starts (the_view c.self.inside) c.start.new.self c.args.mail.now (c.start.ensures.mails ∙ ap (λ (xs : List ℕ). Ok (record { address = 0; kind = c.args.mail.now.kind; counter = 0; body = record { items = xs } }) ∷ []) c.as_slice.ensures.value) c.start.ensures.open)
