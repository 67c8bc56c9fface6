-- What the datagram of a mail reads as.
use Rattle.std.proofs.Common.{◌≡◌, ℕ, zero, suc, ◌+◌, ◌-◌, ◌<◌, ◌≤◌, List, length, take, Bool, true, false, nat_lt, ◌==◌, if◌then◌else◌, Some, Ok, Err, refl, sym, ap, ◌∙◌, arith, append-nil}
use Rattle.std.proofs.lemmas.Bool.{le-ltb}
use Rattle.std.proofs.Math.Seq.{take-length}
use Rattle.slave_model.specs.of_ec_fields.Fields.{number_at}
use Rattle.gateway_tool.proofs.of_ec_fields.Cells.{two_read}
use Rattle.gateway_tool.specs.of_link_model.Counters.{counter_of}
use Rattle.slave_model.specs.of_mailbox_mail.Mail.{IsMail, mail_text, mail_read}
use Rattle.gateway_tool.proofs.of_mailbox_mail.Laws.{read-only}
use Rattle.slave_model.specs.of_mailbox_mail.declared.mail.Mail.{Mail}
use Rattle.gateway_tool.specs.of_gateway_core.Framing.{gram_text, request_in, request_of, type_in, length_in, octets_in}
use Rattle.gateway_tool.specs.of_gateway_core.declared.framing.GatewayFault.TheVariants as faults
use Rattle.gateway_tool.specs.Rule.{mail_in}

pub counter_small : (n : ℕ) → counter_of n ≤ 7
counter_small zero = omega arith
counter_small (suc i) = omega arith

-- a sound header in front of a mail
framed_by : (octets : List ℕ) (m : Mail) (short typed long : Bool) → short ≡ false → typed ≡ true → long ≡ false → mail_read (octets_in octets) ≡ Ok m →
    mail_in (if short then Err faults.Short else if typed then (if long then Err faults.Length else request_of (mail_read (octets_in octets))) else Err faults.WrongType) ≡ Some m
framed_by octets m short typed long s t l e = rw (s, t, l, e) refl

pub same_number : (a b : ℕ) → a ≡ b → (a == b) ≡ true
same_number a b e = rw e (itself b)
  where
    itself : (n : ℕ) → (n == n) ≡ true
    itself n = grind arith

pub gram_reads : (m : Mail) → m.address < 65536 → m.counter ≤ 7 → length m.body.items ≤ 1480 → mail_in (request_in (gram_text m)) ≡ Some m
gram_reads m addressed counted fits =
    let text : List ℕ = mail_text 0 0 m in
    let n : ℕ = length m.body.items in
    let whole : length text ≡ 6 + n = omega arith in
    let head : number_at 2 (gram_text m) 0 ≡ 20480 + length text = two_read (20480 + length text) (omega (arith, whole, fits)) in
    let all : length (gram_text m) ≡ 2 + length text = omega arith in
    let typed : type_in (gram_text m) ≡ 5 = omega (arith, head, whole, fits) in
    let long : length_in (gram_text m) ≡ length text = omega (arith, head, whole, fits) in
    let inside : octets_in (gram_text m) ≡ text = ap (λ (k : ℕ). take k text) long ∙ take-length text in
    let spelled : IsMail text m = record { channel = 0; top = 0; rest = _; octets = sym (append-nil text); one_bit = omega arith; addressed = addressed; counted = counted; fits = fits } in
    framed_by (gram_text m) m (nat_lt (length (gram_text m)) 8) (type_in (gram_text m) == 5) (nat_lt (length (gram_text m) - 2) (length_in (gram_text m)))
    (le-ltb (length (gram_text m)) 8 (omega (arith, all, whole)))
    (same_number (type_in (gram_text m)) 5 typed)
    (le-ltb (length (gram_text m) - 2) (length_in (gram_text m)) (omega (arith, all, long)))
    (ap mail_read inside ∙ read-only text m spelled)
