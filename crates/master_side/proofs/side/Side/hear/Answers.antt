use Rattle.std.proofs.Common.{sym, subst, Option, [], ◌∷◌}
use Rattle.master_side.specs.Due.{EachDue}
use Rattle.std.specs.Prelude.{option_map, map, Ok}
use Rattle.frame_view.specs.of_exchange_model.Rows.{row_heard}
use Rattle.master_duty.specs.of_mailbox_mail.declared.mail.MailView.{MailView}
use Rattle.master_side.specs.Heard.{heard_of}
use Rattle.mailbox_master.specs.of_link_mails.Body.{uncounted}
use Rattle.master_duty.specs.of_segment_model.Record.{News}
use Rattle.frame_view.specs.of_life_model.Lives.{passes}
use Rattle.master_duty.specs.of_mailbox_mail.View.{mail_seen}
use Rattle.master_side.specs.declared.passing.Passing.{Passing}
use Rattle.master_side.specs.Passing.{PassingShows}
use Rattle.master_side.proofs.Passings.{heard_shows, unheard_shows}
use Rattle.master_side.proofs.side.Side.hear.Goals as goal

pub returns-in-Some-clause-shown : goal.returns-in-Some-clause-shown
returns-in-Some-clause-shown g c = λ x made now s. subst (λ (o : Option MailView). g.H.Hand.shows c.hear-what.new.self x (option_map (λ r. row_heard x made (heard_of o) r) now)) (sym c.in-Some.is) (c.hear-what.ensures.shown x made now s)

pub returns-in_default-clause-shown : goal.returns-in_default-clause-shown
returns-in_default-clause-shown g c = λ x made now s. subst (λ (o : Option MailView). g.H.Hand.shows c.args.self.now.hand x (option_map (λ r. row_heard x made (heard_of o) r) now)) (sym c.in_default.is) (g.met.H.Hand.quiet c.args.self.now.hand x made now s)

pub returns-in-Some-clause-passing : goal.returns-in-Some-clause-passing
returns-in-Some-clause-passing g c = λ x p now h s.
    let old = c.args.self.now in
    let hand = c.hear-what.new.self in
    let b = Ok (uncounted (mail_seen c.in-Some.mail)) in
    subst (λ (o : Option MailView). PassingShows (g.H.Hand.awaits hand) c.heard-passing.result (passes x g.H.Hand.acknowledged g.H.Hand.more g.H.Hand.passed p (map (λ m. News.Heard m) (heard_of o)))) (sym c.in-Some.is)
    (subst (λ (q : Option Passing). PassingShows (g.H.Hand.awaits hand) q (passes x g.H.Hand.acknowledged g.H.Hand.more g.H.Hand.passed p (News.Heard b ∷ []))) (sym c.heard-passing.ensures)
    (heard_shows x g.H.Hand.acknowledged g.H.Hand.more g.H.Hand.passed b old.passing c.hear-what.result (g.H.Hand.awaits old.hand) (g.H.Hand.awaits hand) p (c.hear-what.ensures.tells x now h) c.hear-what.ensures.awaits s))

pub returns-in_default-clause-passing : goal.returns-in_default-clause-passing
returns-in_default-clause-passing g c = λ x p now h s.
    let old = c.args.self.now in
    subst (λ (o : Option MailView). PassingShows (g.H.Hand.awaits old.hand) old.passing (passes x g.H.Hand.acknowledged g.H.Hand.more g.H.Hand.passed p (map (λ m. News.Heard m) (heard_of o)))) (sym c.in_default.is)
    (unheard_shows x g.H.Hand.acknowledged g.H.Hand.more g.H.Hand.passed old.passing (g.H.Hand.awaits old.hand) p s)

pub returns-in-Some-clause-knows : goal.returns-in-Some-clause-knows
returns-in-Some-clause-knows g c = λ x now h k e.
    c.hear-what.ensures.knows x now h k (subst (λ (o : Option MailView). EachDue x now (heard_of o)) c.in-Some.is e)
