-- A run step by step.
use Rattle.std.proofs.Common.{◌≡◌, Option, Some, None, List, [], ◌∷◌, ◌++◌, map, Result, Ok, Err, refl, ap, sym, ◌∙◌, append_assoc, append-nil, if◌then◌else◌, arith}
use Rattle.std.specs.Prelude.{option_map}
use Rattle.std.proofs.lemmas.Grind.{common_steps}
use Rattle.mailbox_master.specs.of_mailbox_mail.declared.mail.Mail.{Mail}
use Rattle.mailbox_master.specs.of_mailbox_mail.declared.mail.MailFault.{MailFault}
use Rattle.mailbox_master.specs.of_mailbox_mail.Mail.{mail_read}
use Rattle.mailbox_master.specs.of_link_model.Mails.{LinkMail}
use Rattle.mailbox_master.specs.of_link_model.Slave.{Server}
use Rattle.mailbox_master.specs.of_link_model.Link.{Link, Event, happens, run, held_after}
use Rattle.mailbox_master.specs.of_link_model.Agree.{Agrees, Accords}
use Rattle.mailbox_master.proofs.of_link_model.Priors.{run_accords, new_accords}
use Rattle.mailbox_master.specs.of_link_mails.Body.{Body, link_mail, link_read, uncounted}
use Rattle.mailbox_slave.specs.of_esc_registers.declared.registers.Registers.{Registers}
use Rattle.mailbox_slave.specs.Kept.{Kept, offered}
use Rattle.mailbox_slave.specs.Node.{in_side}
use Rattle.mailbox_slave.specs.Registers.{in_box}
use Rattle.mailbox_law.specs.Waiting.{keeper}
use Rattle.mailbox_law.specs.Wire.{IsReadable}
use Rattle.mailbox_law.specs.World.{Shows, without, link_of}
use Rattle.mailbox_law.specs.declared.world.World.{World}
use Rattle.mailbox_law.specs.Steps.{event_of, first_link, link_behind, given, given_by}
use Rattle.mailbox_law.specs.declared.steps.LinkStep.{LinkStep}
use Rattle.mailbox_law.specs.declared.steps.LinkStep.TheVariants.{Hold, Give, Out, In, Pdi}
use Rattle.mailbox_law.proofs.Stepping.{step_given}

-- what reads as a mail is a mail
read_mail : (x : Result Mail MailFault) (m : Option Mail) → option_map link_mail m ≡ Some (link_read x) → (k : Mail) × (x ≡ Ok k)
read_mail (Ok k) m e = (k, refl)
read_mail (Err fault) None e = absurd (let none : None ≡ Some (link_read (Err fault)) = e in cc)
read_mail (Err fault) (Some m) e = absurd (let same : link_mail m ≡ link_read (Err fault) = (let both : Some (link_mail m) ≡ Some (link_read (Err fault)) = e in cc) in let bodies : Ok (uncounted m) ≡ Err fault = ap (λ (x : LinkMail Body). x.body) same in cc)

-- what stands in mailbox 1 of a slave whose link agrees was offered by its box
pub readable : (k : Kept) (r : Registers) (w : Link Body (List Body)) → Agrees w → in_side k r ≡ w.node.inn → IsReadable r
readable k r w a s full =
    let x = link_read (mail_read r.in_manager.area) in
    let box : in_box r ≡ Some x = ap (λ b. if b then Some x else None) full in
    let stood : w.node.inn.offered ≡ Some x = a.inn.side.stands x (ap (λ n. n.box) (sym s) ∙ box) in
    read_mail (mail_read r.in_manager.area) (offered k) (ap (λ n. n.offered) s ∙ stood)

run-append : {B S : Type 0} (v : Server B S) (w : Link B S) (es : List (Event B S)) (e : Event B S) → run v w (es ++ e ∷ []) ≡ happens v (run v w es) e
run-append v w [] e = refl
run-append v w (x ∷ es) e = run-append v (happens v w x) es e

map-push : (steps : List LinkStep) (s : LinkStep) → map event_of (steps ++ s ∷ []) ≡ map event_of steps ++ event_of s ∷ []
map-push [] s = refl
map-push (x ∷ steps) s = ap (λ es. event_of x ∷ es) (map-push steps s)

-- the link behind one more step
pub link_behind-push : (steps : List LinkStep) (s : LinkStep) → link_behind (steps ++ s ∷ []) ≡ happens keeper (link_behind steps) (event_of s)
link_behind-push steps s = ap (run keeper first_link) (map-push steps s) ∙ run-append keeper first_link (map event_of steps) (event_of s)

-- the link agrees behind any steps
pub behind_accords : (steps : List LinkStep) → Accords (link_behind steps)
behind_accords steps = run_accords keeper first_link (map event_of steps) (new_accords [])

-- the mails offered and those that wait are the mails given
abbrev drawn : Link Body (List Body) → List Body
drawn w = w.offered ++ w.node.server

held_drawn : (w : Link Body (List Body)) (holding : Option (LinkMail Body)) (body : Body) → drawn (held_after w holding body) ≡ drawn w
held_drawn w None body = refl
held_drawn w (Some m) body = refl

event_drawn : (w : Link Body (List Body)) (s : LinkStep) → drawn (happens keeper w (event_of s)) ≡ drawn w ++ given_by s
event_drawn w (Hold m) = held_drawn w w.halves.out.holding (Ok (uncounted m)) ∙ sym (append-nil (drawn w))
event_drawn w (Give m) = sym (append_assoc w.offered w.node.server (Ok (uncounted m) ∷ []))
event_drawn w (Out fate) = sym (append-nil (drawn w))
event_drawn w (In fate) = sym (append-nil (drawn w))
event_drawn w Pdi = sym (step_given w (drawn w) refl) ∙ sym (append-nil (drawn w))

run_drawn : (w : Link Body (List Body)) (steps : List LinkStep) → drawn (run keeper w (map event_of steps)) ≡ drawn w ++ given steps
run_drawn w [] = sym (append-nil (drawn w))
run_drawn w (s ∷ steps) = run_drawn (happens keeper w (event_of s)) steps ∙ ap (λ xs. xs ++ given steps) (event_drawn w s) ∙ append_assoc (drawn w) (given_by s) (given steps)

pub behind_given : (steps : List LinkStep) → (let w = link_behind steps in w.offered ++ w.node.server ≡ given steps)
behind_given steps = run_drawn first_link steps

-- the front of two lists put together
without_behind : {A : Type 0} (xs ys : List A) → without (xs ++ ys) ys ≡ xs
without_behind xs ys = grind (arith, common_steps)

-- a run in code is the link that it shows
pub shown_link : (x : World) (w : Link Body (List Body)) → Shows x w → link_of x ≡ w
shown_link x w s =
    let offered = (λ i. without (s.given i) (s.waiting i)) ∙ without_behind w.offered w.node.server in
    λ i. record {
      halves = record { out = s.out_half i; inn = s.in_half i };
      node = record { out = s.out i; inn = s.inn i; server = s.waiting i };
      held = s.held i;
      taken = s.taken i;
      offered = offered i;
      accepted = s.accepted i;
    }
