-- The steps of the link agreement, as the halves make them.
use Rattle.std.proofs.Common.{◌≡◌, ℕ, ◌==◌, Bool, true, false, Option, Some, None, List, [], ◌∷◌, ◌++◌, Result, Ok, Err, refl, ap, sym, subst, if◌then◌else◌}
use Rattle.link_mails.specs.of_mailbox_mail.declared.mail.Mail.{Mail}
use Rattle.link_mails.specs.of_mailbox_mail.declared.mail.MailFault.{MailFault}
use Rattle.link_mails.specs.of_link_model.Mails.{LinkMail, news}
use Rattle.link_mails.specs.of_link_model.Master.{OutHalf, InHalf, InState, read_answered}
use Rattle.link_mails.specs.of_link_model.Slave.{OutSide, InSide}
use Rattle.link_mails.specs.of_link_model.Link.{Fate, written}
use Rattle.link_mails.specs.of_link_model.Agree.{OutAgree, InAgree}
use Rattle.link_mails.proofs.of_link_model.Outward.{out_keeps}
use Rattle.link_mails.proofs.of_link_model.Inward.{in_keeps}
use Rattle.link_mails.specs.Body.{link_mail, uncounted, mail_brought}
use Rattle.link_mails.specs.of_link_model.Counters.{repeats}
use Rattle.mailbox_master.specs.Next.{got_by, accepted_by}
use Rattle.mailbox_master.specs.declared.inward.Got.TheVariants.{Mail as GotMail, Repeat, Empty, Bad}

-- a mailbox 0 that met the write of the mail held, where the half did not hear of it
pub out_met : {B : Type 0} (h : OutHalf B) (s : OutSide B) (held taken : List B) (m : LinkMail B) → h.holding ≡ Some m → OutAgree h s held taken → OutAgree h (written s s.box m) held taken
out_met {B} h s held taken m e a =
    let go : (box : Option (LinkMail B)) → s.box ≡ box → OutAgree h (written s box m) held taken = (λ box f. out_keeps h s held taken Fate.LostBehind (Some m) box e f a) in
    go s.box refl

-- what is accepted is the news of the mail brought
pub got_by-accepts : (last counter : ℕ) (r : Result Mail MailFault) → accepted_by (got_by last counter r) ≡ news last (mail_brought counter r)
got_by-accepts last counter (Err fault) = go (counter == 0)
  where
    go : (none : Bool) → accepted_by (if none then Empty else Bad fault) ≡ []
    go true = refl
    go false = refl
got_by-accepts last counter (Ok m) = go (counter == 0) (repeats last m.counter) refl
  where
    go : (none repeat : Bool) → repeats last m.counter ≡ repeat → accepted_by (if none then Empty else (if repeat then Repeat else GotMail m)) ≡ news last (if none then None else Some (link_mail m))
    go true repeat e = refl
    go false true e = ap (λ r. if r then [] else Ok (uncounted m) ∷ []) (sym e)
    go false false e = ap (λ r. if r then [] else Ok (uncounted m) ∷ []) (sym e)

-- a read of mailbox 1 returned, in Clear and in Refetch
pub clear_read : {B : Type 0} (h k : InHalf) (s : InSide B) (offered accepted fresh : List B) (mail : Option (LinkMail B)) → h.state ≡ InState.Clear → k ≡ read_answered h mail → fresh ≡ news h.last mail → s.box ≡ mail → InAgree h s offered accepted → InAgree k (record s { box = None }) offered (accepted ++ fresh)
clear_read {B} h k s offered accepted fresh mail state half new box a =
    let P : InHalf → Type 0 = λ x. InAgree x (record s { box = None }) offered (accepted ++ fresh) in
    let Q : List B → Type 0 = λ xs. InAgree (read_answered h mail) (record s { box = None }) offered (accepted ++ xs) in
    subst P (sym half) (subst Q (sym new) (in_keeps h s offered accepted Fate.Pass InState.Clear mail state box a))

pub refetch_read : {B : Type 0} (h k : InHalf) (s : InSide B) (offered accepted fresh : List B) (mail : Option (LinkMail B)) → h.state ≡ InState.Refetch → k ≡ read_answered h mail → fresh ≡ news h.last mail → s.box ≡ mail → InAgree h s offered accepted → InAgree k (record s { box = None }) offered (accepted ++ fresh)
refetch_read {B} h k s offered accepted fresh mail state half new box a =
    let P : InHalf → Type 0 = λ x. InAgree x (record s { box = None }) offered (accepted ++ fresh) in
    let Q : List B → Type 0 = λ xs. InAgree (read_answered h mail) (record s { box = None }) offered (accepted ++ xs) in
    subst P (sym half) (subst Q (sym new) (in_keeps h s offered accepted Fate.Pass InState.Refetch mail state box a))
