-- A step of a slave's processor carries out one service at most.
use Rattle.std.proofs.Common.{◌≡◌, ◌≤◌, ℕ, suc, Bool, true, false, Option, Some, None, arith}
use Rattle.std.specs.Prelude.{if◌then◌else◌, not}
use Rattle.mailbox_slave.specs.of_mailbox_mail.declared.mail.Mail.{Mail}
use Rattle.mailbox_slave.specs.of_link_mails.Body.{Body}
use Rattle.mailbox_slave.specs.of_link_model.Counters.{repeats}
use Rattle.mailbox_slave.specs.of_esc_registers.declared.registers.Registers.{Registers}
use Rattle.mailbox_slave.specs.Kept.{Kept}
use Rattle.mailbox_slave.specs.Exact.{Slave, out_mail, is_free, mail_served, next_offered, mail_offered}
use Rattle.slave_node.specs.Node.{Node, is_init}
use Rattle.slave_node.specs.Step.{looked, al_behind, word_behind, served, returned, acted, pdi_step}

module _ {S : Type 0} (handled : S → ℕ) where
  by_four : (a b c : Bool) (w x y z : Slave S) (most : ℕ) → handled w.server ≤ most → handled x.server ≤ most → handled y.server ≤ most → handled z.server ≤ most →
      handled (if a then w else (if b then x else (if c then y else z))).server ≤ most
  by_four true b c w x y z most p q r s = p
  by_four false true c w x y z most p q r s = q
  by_four false false true w x y z most p q r s = r
  by_four false false false w x y z most p q r s = s

  by_three : (a b : Bool) (x y z : Node S) (most : ℕ) → handled x.server ≤ most → handled y.server ≤ most → handled z.server ≤ most → handled (if a then (if b then x else y) else z).server ≤ most
  by_three true true x y z most p q r = p
  by_three true false x y z most p q r = q
  by_three false b x y z most p q r = r

  by_two : (a : Bool) (x y : Slave S) (most : ℕ) → handled x.server ≤ most → handled y.server ≤ most → handled (if a then x else y).server ≤ most
  by_two true x y most p q = p
  by_two false x y most p q = q

  module _ (take : S → Body → ℕ → S) (next : S → Option Mail) (rest : S → S) (clear : S → S) (one : (s : S) (b : Body) (al : ℕ) → handled (take s b al) ≤ suc (handled s))
      (rests : (s : S) → handled (rest s) ≡ handled s) (clears : (s : S) → handled (clear s) ≡ handled s) where
    offers : (k : Kept) (r : Registers) (s : S) (withdrawn waits : Option Mail) (most : ℕ) → handled s ≤ most → handled (next_offered rest k r s withdrawn waits).server ≤ most
    offers k r s (Some m) waits most few = few
    offers k r s None (Some m) most few = (let same = rests s in omega (arith, same, few))
    offers k r s None None most few = few

    offered : (k : Kept) (r : Registers) (s : S) (most : ℕ) → handled s ≤ most → handled (mail_offered next rest k r s).server ≤ most
    offered k r s most few = by_two r.in_manager.full (record { kept = k; registers = r; server = s }) (next_offered rest k r s k.withdrawn (next s)) most few (offers k r s k.withdrawn (next s) most few)

    taken : (al : ℕ) (k : Kept) (r : Registers) (s : S) → handled (mail_served take next al k r s).server ≤ suc (handled s)
    taken al k r s = by_four (not r.out_manager.full) (repeats k.last_taken (out_mail r).counter) (is_free k r (next s)) _ _ _ _ (suc (handled s)) (omega arith) (omega arith) (one s (out_mail r).body al) (omega arith)

    serves : (n : Node S) → handled (served take next rest clear n).server ≤ suc (handled n.server)
    serves n =
        let t = mail_served take next n.al.state n.kept n.registers n.server in
        offered t.kept t.registers t.server (suc (handled n.server)) (taken n.al.state n.kept n.registers n.server)

    acts : (asked : Bool) (n : Node S) → handled (acted take next rest clear asked n).server ≤ suc (handled n.server)
    acts asked n = by_three (is_init n.al) asked (returned take next rest clear n) n (served take next rest clear n) (suc (handled n.server)) (let same = clears n.server in omega (arith, same)) (omega arith) (serves n)

    pub step_counts : (n : Node S) → handled (pdi_step take next rest clear n).server ≤ suc (handled n.server)
    step_counts n =
        let b = looked n.al n.kept n.registers in
        acts b.registers.unhandled (record n { kept = b.kept; registers = word_behind n.boot b.registers n.al; al = al_behind n.boot b.registers n.al })
