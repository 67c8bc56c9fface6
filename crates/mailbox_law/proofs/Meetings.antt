-- What the datagrams of a link do, in the words of the link.
use Rattle.std.proofs.Common.{◌≡◌, ℕ, ◌==◌, Bool, true, false, ◌&&◌, Option, Some, None, List, length, Result, Ok, Err, refl, ap, sym, ◌∙◌, subst, if◌then◌else◌, replicate}
use Rattle.mailbox_master.specs.of_mailbox_mail.declared.mail.Mail.{Mail}
use Rattle.mailbox_master.specs.of_mailbox_mail.declared.mail.MailFault.{MailFault}
use Rattle.mailbox_master.specs.of_mailbox_mail.Mail.{mail_read}
use Rattle.mailbox_master.specs.of_link_model.Mails.{LinkMail, news, seen}
use Rattle.mailbox_master.specs.of_link_model.Master.{InHalf, InState, asked_answered}
use Rattle.mailbox_master.specs.of_link_model.Link.{Fate, written, write_counter, out_side_after}
use Rattle.mailbox_master.specs.of_link_model.Slave.{OutSide}
use Rattle.mailbox_master.specs.of_link_mails.Body.{Body, link_mail, link_read, bit_1, mail_brought}
use Rattle.mailbox_master.specs.of_mailbox_mail.Area.{mail_area}
use Rattle.mailbox_slave.specs.of_esc_registers.declared.registers.Registers.{Registers}
use Rattle.mailbox_slave.specs.of_esc_registers.Registers.{are_areas_right}
use Rattle.mailbox_slave.specs.of_esc_registers.Manager.{is_right, is_enabled}
use Rattle.mailbox_slave.specs.of_esc_registers.Access.{Passed}
use Rattle.mailbox_master.specs.Access.{write_access, read_access, request_access, acknowledge_access}
use Rattle.mailbox_master.specs.Any.{in_station, in_area_len, in_half_of, in_access_of}
use Rattle.mailbox_master.specs.declared.halves.InwardHalf.{InwardHalf}
use Rattle.mailbox_master.specs.declared.halves.InwardHalf.TheVariants.{Clear, Doubt, Asked, Refetch}
use Rattle.mailbox_slave.specs.Kept.{Kept}
use Rattle.mailbox_slave.specs.Registers.{out_box, in_box}
use Rattle.mailbox_slave.specs.Node.{out_side, in_side}
use Rattle.mailbox_law.specs.Wire.{IsLinked, IsReadable, met_by, MeetsWrite, MeetsInward}
use Rattle.mailbox_law.proofs.Accesses.{write_empty, write_full, read_full, read_empty, request_written, acknowledge_read, enabled_in}
use Rattle.mailbox_master.proofs.Agreement.{got_by-accepts}

out_box-empty : (r : Registers) → r.out_manager.full ≡ false → out_box r ≡ None
out_box-empty r e = ap (λ full. if full then Some (link_read (mail_read r.out_manager.area)) else None) e

out_box-full : (r : Registers) → r.out_manager.full ≡ true → out_box r ≡ Some (link_read (mail_read r.out_manager.area))
out_box-full r e = ap (λ full. if full then Some (link_read (mail_read r.out_manager.area)) else None) e

-- areas stay right where only their octets change
right_with : (r : Registers) (area : List ℕ) → length area ≡ length r.out_manager.area → are_areas_right (record r { out_manager = record r.out_manager { area = area; full = true } }) ≡ are_areas_right r
right_with r area e = ap (λ n. (r.out_manager.start == 4096 && r.out_manager.length == n && r.out_manager.control == 38 && is_enabled r.out_manager.activate) && is_right 6144 34 r.in_manager) e

-- the write of a mail
pub meets_write : (address outward inward : ℕ) (m : Mail) (r : Registers) (p : Passed) → IsLinked address outward inward r → length (mail_area outward m) ≡ outward → mail_read (mail_area outward m) ≡ Ok m → p ≡ met_by r address (write_access outward m) → MeetsWrite address outward inward m r p
meets_write address outward inward m r p linked len reads passed = subst (MeetsWrite address outward inward m r) (sym passed) (go r.out_manager.full refl)
  where
    go : (full : Bool) → r.out_manager.full ≡ full → MeetsWrite address outward inward m r (met_by r address (write_access outward m))
    go false e =
        let now = write_empty r address outward m linked.station linked.right (len ∙ sym linked.out_len) e in
        let none = out_box-empty r e in
        subst (MeetsWrite address outward inward m r) (sym now) (record {
          counter = sym (ap write_counter none);
          out = λ k. ap (λ x. record { box = Some (link_read x); last_taken = k.last_taken }) reads ∙ sym (ap (λ b. written (out_side k r) b (link_mail m)) none);
          inn = λ k. refl;
          linked = record { station = linked.station; right = right_with r (mail_area outward m) (len ∙ sym linked.out_len) ∙ linked.right; out_len = len; in_len = linked.in_len };
        })
    go true e =
        let now = write_full r address outward m linked.station (len ∙ sym linked.out_len) e in
        let some = out_box-full r e in
        subst (MeetsWrite address outward inward m r) (sym now) (record {
          counter = sym (ap write_counter some);
          out = λ k. sym (ap (λ b. written (out_side k r) b (link_mail m)) some);
          inn = λ k. refl;
          linked = linked;
        })

in_box-empty : (r : Registers) → r.in_manager.full ≡ false → in_box r ≡ None
in_box-empty r e = ap (λ full. if full then Some (link_read (mail_read r.in_manager.area)) else None) e

in_box-full : (r : Registers) (m : Mail) → r.in_manager.full ≡ true → mail_read r.in_manager.area ≡ Ok m → in_box r ≡ Some (link_mail m)
in_box-full r m e f = ap (λ full. if full then Some (link_read (mail_read r.in_manager.area)) else None) e ∙ ap (λ x. Some (link_read x)) f

brought-none : (x : Result Mail MailFault) → mail_brought 0 x ≡ None
brought-none (Ok m) = refl
brought-none (Err fault) = refl

-- what a read of mailbox 1 leaves, whichever state reads it
record Reads (address outward inward : ℕ) (r : Registers) (p : Passed) : Type 0 where
  brought : mail_brought p.head.counter (mail_read p.body) ≡ in_box r
  inn : (k : Kept) → in_side k p.registers ≡ record (in_side k r) { box = None }
  out : (k : Kept) → out_side k p.registers ≡ out_side k r
  linked : IsLinked address outward inward p.registers

meets_read : (address outward inward : ℕ) (r : Registers) (p : Passed) → IsLinked address outward inward r → IsReadable r → p ≡ met_by r address (read_access inward) → Reads address outward inward r p
meets_read address outward inward r p linked readable passed = subst (Reads address outward inward r) (sym passed) (go r.in_manager.full refl)
  where
    go : (full : Bool) → r.in_manager.full ≡ full → Reads address outward inward r (met_by r address (read_access inward))
    go false e =
        let none = in_box-empty r e in
        subst (Reads address outward inward r) (sym (read_empty r address inward linked.station (sym linked.in_len) e)) (record {
          brought = brought-none (mail_read (replicate inward 0)) ∙ sym none;
          inn = λ k. ap (λ b. record (in_side k r) { box = b }) none;
          out = λ k. refl;
          linked = linked;
        })
    go true e =
        let mail = readable e in
        let some = in_box-full r mail.0 e mail.1 in
        subst (Reads address outward inward r) (sym (read_full r address inward linked.station linked.right (sym linked.in_len) e)) (record {
          brought = ap (mail_brought 1) mail.1 ∙ sym some;
          inn = λ k. refl;
          out = λ k. refl;
          linked = record { station = linked.station; right = linked.right; out_len = linked.out_len; in_len = linked.in_len };
        })

pub meets_clear : (address outward inward last : ℕ) (bit : Bool) (r : Registers) (p : Passed) → IsLinked address outward inward r → IsReadable r → p ≡ met_by r address (read_access inward) → MeetsInward address outward inward (record { last = last; state = InState.Clear; bit = bit }) r p
meets_clear address outward inward last bit r p linked readable passed =
    let x = meets_read address outward inward r p linked readable passed in
    record {
      half = ap (λ m. record { last = seen last m; state = InState.Clear; bit = bit }) x.brought;
      got = got_by-accepts last p.head.counter (mail_read p.body) ∙ ap (news last) x.brought;
      inn = x.inn;
      out = x.out;
      linked = x.linked;
    }

pub meets_refetch : (address outward inward last : ℕ) (bit : Bool) (r : Registers) (p : Passed) → IsLinked address outward inward r → IsReadable r → p ≡ met_by r address (read_access inward) → MeetsInward address outward inward (record { last = last; state = InState.Refetch; bit = bit }) r p
meets_refetch address outward inward last bit r p linked readable passed =
    let x = meets_read address outward inward r p linked readable passed in
    record {
      half = ap (λ m. record { last = seen last m; state = InState.Clear; bit = bit }) x.brought;
      got = got_by-accepts last p.head.counter (mail_read p.body) ∙ ap (news last) x.brought;
      inn = x.inn;
      out = x.out;
      linked = x.linked;
    }

-- areas stay right where the repeat request is written
right_asked : (r : Registers) → is_enabled r.in_manager.activate ≡ true → (is_right 4096 38 r.out_manager && (r.in_manager.start == 6144 && r.in_manager.length == length r.in_manager.area && r.in_manager.control == 34 && true)) ≡ are_areas_right r
right_asked r e = ap (λ b. is_right 4096 38 r.out_manager && (r.in_manager.start == 6144 && r.in_manager.length == length r.in_manager.area && r.in_manager.control == 34 && b)) (sym e)

pub meets_doubt : (address outward inward last : ℕ) (bit : Bool) (r : Registers) (p : Passed) → IsLinked address outward inward r → p ≡ met_by r address (request_access bit) → MeetsInward address outward inward (record { last = last; state = InState.Doubt; bit = bit }) r p
meets_doubt address outward inward last true r p linked passed =
    let enabled = enabled_in r linked.right in
    subst (MeetsInward address outward inward (record { last = last; state = InState.Doubt; bit = true }) r) (sym (passed ∙ request_written r address true linked.station linked.right)) (record {
      half = refl;
      got = refl;
      inn = λ k. refl;
      out = λ k. refl;
      linked = record { station = linked.station; right = right_asked r enabled ∙ linked.right; out_len = linked.out_len; in_len = linked.in_len };
    })
meets_doubt address outward inward last false r p linked passed =
    let enabled = enabled_in r linked.right in
    subst (MeetsInward address outward inward (record { last = last; state = InState.Doubt; bit = false }) r) (sym (passed ∙ request_written r address false linked.station linked.right)) (record {
      half = refl;
      got = refl;
      inn = λ k. refl;
      out = λ k. refl;
      linked = record { station = linked.station; right = right_asked r enabled ∙ linked.right; out_len = linked.out_len; in_len = linked.in_len };
    })

bit_1-acknowledge : (acknowledge : Bool) → bit_1 (if acknowledge then 2 else 0) ≡ acknowledge
bit_1-acknowledge true = refl
bit_1-acknowledge false = refl

pub meets_asked : (address outward inward last : ℕ) (bit : Bool) (r : Registers) (p : Passed) → IsLinked address outward inward r → p ≡ met_by r address acknowledge_access → MeetsInward address outward inward (record { last = last; state = InState.Asked; bit = bit }) r p
meets_asked address outward inward last bit r p linked passed =
    let h : InHalf = record { last = last; state = InState.Asked; bit = bit } in
    subst (MeetsInward address outward inward h r) (sym (passed ∙ acknowledge_read r address linked.station)) (record {
      half = ap (asked_answered h 1) (bit_1-acknowledge r.in_manager.acknowledge);
      got = refl;
      inn = λ k. refl;
      out = λ k. refl;
      linked = linked;
    })

-- the inward half in whichever state
pub meets_half : (outward : ℕ) (half : InwardHalf) (r : Registers) (p : Passed) → IsLinked (in_station half) outward (in_area_len half) r → IsReadable r → p ≡ met_by r (in_station half) (in_access_of half) → MeetsInward (in_station half) outward (in_area_len half) (in_half_of half) r p
meets_half outward (Clear i) r p linked readable passed = meets_clear i.station outward i.len i.last i.bit r p linked readable passed
meets_half outward (Doubt i) r p linked readable passed = meets_doubt i.station outward i.len i.last i.bit r p linked passed
meets_half outward (Asked i) r p linked readable passed = meets_asked i.station outward i.len i.last i.bit r p linked passed
meets_half outward (Refetch i) r p linked readable passed = meets_refetch i.station outward i.len i.last i.bit r p linked readable passed

-- mailbox 0 behind a write that was met, returned or not
pub out_met : (s : OutSide Body) (holding box : Option (LinkMail Body)) → out_side_after s holding box Fate.Pass ≡ out_side_after s holding box Fate.LostBehind
out_met s None box = refl
out_met s (Some m) box = refl
