-- A node that is settled as it is seen, with no control word and nothing offered, is settled.
use Rattle.std.proofs.Common.{◌≡◌, ◌&&◌, Bool, true, false, Option, Some, None, refl, ap, ◌∙◌, if◌then◌else◌}
use Rattle.std.specs.Prelude.{not, is_none, option_map, Ok}
use Rattle.run_promises.specs.of_link_mails.Body.{link_mail, uncounted}
use Rattle.gateway_run.specs.of_mailbox_mail.declared.mail.Mail.{Mail}
use Rattle.run_promises.specs.of_mailbox_slave.Kept.{offered}
use Rattle.run_promises.specs.of_segment_model.Laws.{IsSettled}
use Rattle.run_promises.specs.of_segment_model.Slaves.{first_waiting}
use Rattle.seen_slaves.specs.of_slave_lives.Lived.{Behind, IsBehind, node_seen}
use Rattle.run_promises.specs.of_slave_node.Node.{Node, is_settled}

mapped_none : {X Y : Type 0} (f : X → Y) (o : Option X) → option_map f o ≡ None → o ≡ None
mapped_none f None e = refl
mapped_none f (Some x) e = absurd (cc)

where_none : {X : Type 0} (b : Bool) (x : X) → (if b then Some x else None) ≡ None → b ≡ false
where_none true x e = absurd (cc)
where_none false x e = refl

all_true : (a b c d e : Bool) → a ≡ false → b ≡ false → c ≡ true → d ≡ true → e ≡ true → (not a && (not b && (c && (d && e)))) ≡ true
all_true false false true true true p q r s t = refl
all_true true b c d e p q r s t = absurd (cc)
all_true false true c d e p q r s t = absurd (cc)
all_true false false false d e p q r s t = absurd (cc)
all_true false false true false e p q r s t = absurd (cc)
all_true false false true true false p q r s t = absurd (cc)

module _ {S V A Q R : Type 0} (w : Behind S V A Q R) (behind : IsBehind w) (n : Node S) where
  pub settled_back : IsSettled (node_seen w n) → (node_seen w n).node.inn.offered ≡ None → (node_seen w n).registers.control ≡ None → is_settled w.running.next n ≡ true
  settled_back s none word =
      let al = (node_seen w n).registers.state in
      let waits : option_map (λ (m : Mail). Ok (uncounted m)) (w.running.next n.server) ≡ None =
      (behind.served.seen al).next n.server ∙ ap first_waiting s.waiting in
      let full : n.registers.out_manager.full ≡ false = where_none n.registers.out_manager.full _ s.first in
      let unhandled : n.registers.unhandled ≡ false = where_none n.registers.unhandled _ word in
      let next : w.running.next n.server ≡ None = mapped_none (λ (m : Mail). Ok (uncounted m)) (w.running.next n.server) waits in
      let fresh : offered n.kept ≡ None = mapped_none link_mail (offered n.kept) none in
      let withdrawn : n.kept.withdrawn ≡ None = mapped_none link_mail n.kept.withdrawn s.withdrawn in
      all_true n.registers.out_manager.full n.registers.unhandled (is_none (w.running.next n.server)) (is_none (offered n.kept)) (is_none n.kept.withdrawn) full unhandled (ap is_none next) (ap is_none fresh) (ap is_none withdrawn)
