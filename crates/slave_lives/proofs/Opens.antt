-- A slave stays open over a step of its processor.
use Rattle.std.proofs.Common.{◌≡◌, ℕ, ◌<◌, ◌==◌, ◌&&◌, Bool, true, false, length, Result, Ok, Err, refl, ap, sym, ◌∙◌, subst}
use Rattle.std.specs.Prelude.{Option, Some, None, option_map, if◌then◌else◌}
use Rattle.frames_seen.specs.of_mailbox_mail.declared.mail.Mail.{Mail}
use Rattle.frames_seen.specs.of_mailbox_mail.declared.mail.MailFault.{MailFault}
use Rattle.frames_seen.specs.of_mailbox_mail.Mail.{mail_read}
use Rattle.frames_seen.specs.of_esc_registers.declared.registers.Registers as Esc
use Rattle.frames_seen.specs.of_esc_registers.Manager.{is_right, is_enabled}
use Rattle.frames_seen.specs.of_esc_registers.Registers.{are_areas_right}
use Rattle.frames_seen.specs.of_link_model.Mails.{LinkMail, differs, first_of}
use Rattle.frames_seen.specs.of_link_model.Slave.{InSide, Node, Server, noticed, repeated, request_answered, looked, offers, node_look, node_take, node_serve}
use Rattle.frames_seen.specs.of_link_mails.Body.{Body, link_mail, link_read, uncounted}
use Rattle.frames_seen.specs.of_mailbox_slave.Kept.{Kept, offered}
use Rattle.frames_seen.specs.of_mailbox_slave.Registers.{in_box}
use Rattle.frames_seen.specs.of_mailbox_slave.Node.{node_of, in_side, server_of}
use Rattle.frames_seen.specs.of_frame_view.View.{Lens}
use Rattle.frames_seen.specs.Slaves.{IsOpen}
use Rattle.slave_lives.specs.Steps.{Stands, KeepsOthers, HasStepped, Running, StaysUp, word_carried}
use Rattle.slave_lives.proofs.Stepping.{up_steps}

noticed_stands : (s : InSide Body) (b o : Option (LinkMail Body)) → s.box ≡ b → Stands s → Stands (noticed s b o)
noticed_stands s (Some m) o is stands = stands
noticed_stands s None None is stands = stands
noticed_stands s None (Some m) is stands = λ x e. absurd (let none : None ≡ Some x = sym is ∙ e in cc)

repeated_stands : (s : InSide Body) (l : Option (LinkMail Body)) → Stands s → Stands (repeated s l)
repeated_stands s None stands = stands
repeated_stands s (Some m) stands = go s.again
  where
    go : (b : Bool) → Stands (if b then s else record s { box = Some m; offered = Some m; again = true; withdrawn = first_of s.offered s.withdrawn })
    go true = stands
    go false = λ x e. e

answered_stands : (s : InSide Body) → Stands s → Stands (request_answered s)
answered_stands s stands = go (differs s.request s.acknowledge)
  where
    go : (b : Bool) → Stands (if b then (let t = repeated s s.last_read in record t { acknowledge = s.request }) else s)
    go true = repeated_stands s s.last_read stands
    go false = stands

offers_stands : (s : InSide Body) (b w : Option (LinkMail Body)) (n : Option Body) → Stands s → Stands (offers s b w n)
offers_stands s (Some m) w n stands = stands
offers_stands s None (Some m) n stands = λ x e. e
offers_stands s None None None stands = stands
offers_stands s None None (Some body) stands = λ x e. e

step_stands : {S : Type 0} (v : Server Body S) (n : Node Body S) → Stands n.inn → Stands (node_serve v (node_look n)).inn
step_stands v n stands =
    let s = looked n.inn in
    let t = node_take v (node_look n) in
    offers_stands t.inn t.inn.box t.inn.withdrawn (v.next t.server) (answered_stands (noticed n.inn n.inn.box n.inn.offered) (noticed_stands n.inn n.inn.box n.inn.offered refl stands))

-- what reads as a mail is a mail
read_mail : (x : Result Mail MailFault) (m : Option Mail) → option_map link_mail m ≡ Some (link_read x) → (k : Mail) × (x ≡ Ok k)
read_mail (Ok k) m e = (k, refl)
read_mail (Err fault) None e = absurd (let none : None ≡ Some (link_read (Err fault)) = e in cc)
read_mail (Err fault) (Some m) e = absurd (let same : link_mail m ≡ link_read (Err fault) = (let both : Some (link_mail m) ≡ Some (link_read (Err fault)) = e in cc) in let bodies : Ok (uncounted m) ≡ Err fault = ap (λ (x : LinkMail Body). x.body) same in cc)

-- what was offered by a box is a mail
pub reads_from : (k : Kept) (r : Esc.Registers) → Stands (in_side k r) → r.in_manager.full ≡ true → (m : Mail) × (mail_read r.in_manager.area ≡ Ok m)
reads_from k r stands full =
    let x = link_read (mail_read r.in_manager.area) in
    let box : in_box r ≡ Some x = ap (λ b. if b then Some x else None) full in
    read_mail (mail_read r.in_manager.area) (offered k) (stands x box)

pub kept_right : (r q : Esc.Registers) → KeepsOthers r q → are_areas_right q ≡ are_areas_right r
kept_right r q keeps =
    let m = r.in_manager in
    ap are_areas_right keeps.others
    ∙ ap (λ n. is_right 4096 38 r.out_manager && (m.start == 6144 && m.length == n && m.control == 34 && is_enabled m.activate)) keeps.len

pub open_step : {S : Type 0} (lens : ℕ → Lens) (u : Running S) (boot : Bool) (r q : Esc.Registers) (k j : Kept) (s t : S) →
    IsOpen lens r → Stands (in_side k r) → KeepsOthers r q → HasStepped u boot r q k j s t → StaysUp boot r → q.al_status < 32 → q.al_code < 65536 →
    IsOpen lens q × Stands (in_side j q)
open_step lens u boot r q k j s t open_ stands keeps steps up status code =
    let behind : Stands (in_side j q) = subst Stands (sym (ap (λ n. n.inn) (up_steps u boot r q k j s t steps up))) (step_stands (server_of u.take u.next u.rest (word_carried boot r).state) (node_of k r s) stands) in
    let station : q.station ≡ r.station = ap (λ p. p.station) keeps.others in (
      record {
        out = ap (λ a. (lens a).out) station ∙ open_.out ∙ sym (ap (λ p. length p.out_manager.area) keeps.others);
        back = ap (λ a. (lens a).back) station ∙ open_.back ∙ sym keeps.len;
        right = kept_right r q keeps ∙ open_.right;
        status = status;
        code = code;
        reads = reads_from j q behind;
      },
      behind,
    )
