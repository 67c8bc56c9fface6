-- WHAT HOLDS OF A RUNNING SERVER that mails taken, mails given and a return to Init leave, a step of its slave leaves.
use Rattle.std.proofs.Common.{ℕ, Bool, true, false}
use Rattle.std.specs.Prelude.{if◌then◌else◌, not, Option, Some, None}
use Rattle.frames_seen.specs.of_esc_registers.declared.registers.Registers as Esc
use Rattle.frames_seen.specs.of_link_mails.Body.{Body}
use Rattle.frames_seen.specs.of_link_model.Counters.{repeats}
use Rattle.frames_seen.specs.of_mailbox_mail.declared.mail.Mail.{Mail}
use Rattle.frames_seen.specs.of_mailbox_slave.Kept.{Kept}
use Rattle.frames_seen.specs.of_mailbox_slave.Exact as Exact
use Rattle.frames_seen.specs.of_mailbox_slave.Exact.{with_out_free, out_mail, is_free, mail_served, next_offered, slave_served}
use Rattle.frames_seen.specs.of_slave_node.Node.{Node, is_init}
use Rattle.frames_seen.specs.of_slave_node.Step.{looked, al_behind, word_behind, served, returned}
use Rattle.slave_lives.specs.Nodes.{stepped}
use Rattle.slave_lives.specs.Steps.{Running}

module _ {S : Type 0} (u : Running S) (Holds : S → Type 0) (takes : (s : S) (b : Body) (al : ℕ) → Holds s → Holds (u.take s b al)) (gives : (s : S) → Holds s → Holds (u.rest s)) (clears : (s : S) → Holds s → Holds (u.clear s)) where
  taken : (al : ℕ) (k : Kept) (r : Esc.Registers) (s : S) (full again free : Bool) → Holds s →
      Holds (if not full then (let t : Exact.Slave S = record { kept = k; registers = r; server = s } in t)
      else if again then record { kept = k; registers = with_out_free r; server = s }
      else if free then record { kept = record k { last_taken = (out_mail r).counter }; registers = with_out_free r; server = u.take s (out_mail r).body al }
      else record { kept = k; registers = r; server = s }).server
  taken al k r s false again free h = h
  taken al k r s true true free h = h
  taken al k r s true false true h = takes s (out_mail r).body al h
  taken al k r s true false false h = h

  offered : (k : Kept) (r : Esc.Registers) (s : S) (full : Bool) (w x : Option Mail) → Holds s → Holds (if full then (let t : Exact.Slave S = record { kept = k; registers = r; server = s } in t) else next_offered u.rest k r s w x).server
  offered k r s true w x h = h
  offered k r s false (Some m) x h = h
  offered k r s false None (Some m) h = gives s h
  offered k r s false None None h = h

  served_holds : (al : ℕ) (k : Kept) (r : Esc.Registers) (s : S) → Holds s → Holds (slave_served u.take u.next u.rest al k r s).server
  served_holds al k r s h =
      let t = mail_served u.take u.next al k r s in
      offered t.kept t.registers t.server t.registers.in_manager.full t.kept.withdrawn (u.next t.server) (taken al k r s r.out_manager.full (repeats k.last_taken (out_mail r).counter) (is_free k r (u.next s)) h)

  -- behind the word that waits
  abbrev worded : Node S → Node S
  worded n = record n { kept = (looked n.al n.kept n.registers).kept; registers = word_behind n.boot (looked n.al n.kept n.registers).registers n.al; al = al_behind n.boot (looked n.al n.kept n.registers).registers n.al }

  -- BEHIND A STEP
  pub step_holds : (n : Node S) → Holds n.server → Holds (stepped u n).server
  step_holds n h = go (is_init (al_behind n.boot (looked n.al n.kept n.registers).registers n.al)) (looked n.al n.kept n.registers).registers.unhandled
    where
      go : (c asked : Bool) → Holds (if c then (if asked then returned u.take u.next u.rest u.clear (worded n) else worded n) else served u.take u.next u.rest u.clear (worded n)).server
      go true true = clears n.server h
      go true false = h
      go false asked = served_holds (al_behind n.boot (looked n.al n.kept n.registers).registers n.al).state (looked n.al n.kept n.registers).kept (word_behind n.boot (looked n.al n.kept n.registers).registers n.al) n.server h
