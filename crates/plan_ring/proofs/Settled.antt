-- A NODE THAT IS SETTLED is so as it is seen.
use Rattle.std.proofs.Common.{◌≡◌, ◌&&◌, Bool, true, false, Option, Some, None, List, [], ◌∷◌, refl, ap, sym, ◌∙◌}
use Rattle.std.specs.Prelude.{not, is_none, option_map, if◌then◌else◌, Ok}
use Rattle.whole_ring.specs.of_frames_seen.Slaves.{registers_seen}
use Rattle.slave_server.specs.of_link_mails.Body.{Body, link_read, link_mail, uncounted}
use Rattle.whole_ring.specs.of_link_model.Mails.{LinkMail}
use Rattle.slave_server.specs.of_mailbox_mail.Mail.{mail_read}
use Rattle.slave_server.specs.of_mailbox_mail.declared.mail.Mail.{Mail}
use Rattle.whole_ring.specs.of_mailbox_slave.Kept.{offered, is_at_rest}
use Rattle.whole_ring.specs.of_mailbox_slave.Node.{in_side}
use Rattle.whole_ring.specs.of_mailbox_slave.Registers.{in_box}
use Rattle.slave_server.specs.of_segment_model.Laws.{IsSettled}
use Rattle.slave_server.specs.of_segment_model.Slaves.{first_waiting}
use Rattle.whole_ring.specs.of_slave_lives.Lived.{Behind, IsBehind, node_seen}
use Rattle.whole_ring.specs.of_slave_lives.Steps.{Stands}
use Rattle.slave_server.specs.of_slave_node.Node.{Node, is_settled}

first_of : (a b : Bool) → (a && b) ≡ true → a ≡ true
first_of true b e = refl
first_of false b e = absurd (cc)

second_of : (a b : Bool) → (a && b) ≡ true → b ≡ true
second_of true b e = e
second_of false b e = absurd (cc)

is_false : (b : Bool) → not b ≡ true → b ≡ false
is_false true e = absurd (cc)
is_false false e = refl

nothing : {X : Type 0} (o : Option X) → is_none o ≡ true → o ≡ None
nothing None e = refl
nothing (Some x) e = absurd (cc)

none_waits : (ms : List Body) → first_waiting ms ≡ None → ms ≡ []
none_waits [] e = refl
none_waits (m ∷ ms) e = absurd (cc)

module _ {S V A Q R : Type 0} (w : Behind S V A Q R) (behind : IsBehind w) (n : Node S) (stands : Stands (in_side n.kept n.registers)) (settled : is_settled w.running.next n ≡ true) where
  rest_of : (not n.registers.unhandled && (is_none (w.running.next n.server) && is_at_rest n.kept)) ≡ true
  rest_of = second_of (not n.registers.out_manager.full) _ settled

  mails_of : (is_none (w.running.next n.server) && is_at_rest n.kept) ≡ true
  mails_of = second_of (not n.registers.unhandled) _ rest_of

  none_offered : offered n.kept ≡ None
  none_offered = nothing (offered n.kept) (first_of (is_none (offered n.kept)) _ (second_of (is_none (w.running.next n.server)) _ mails_of))

  none_withdrawn : n.kept.withdrawn ≡ None
  none_withdrawn = nothing n.kept.withdrawn (second_of (is_none (offered n.kept)) _ (second_of (is_none (w.running.next n.server)) _ mails_of))

  none_inside : in_box n.registers ≡ None
  none_inside = go (in_box n.registers) refl
    where
      go : (o : Option (LinkMail Body)) → in_box n.registers ≡ o → o ≡ None
      go None e = refl
      go (Some m) e = absurd (let bad : None ≡ Some m = ap (option_map link_mail) (sym none_offered) ∙ stands m e in cc)

  pub settled_seen : IsSettled (node_seen w n)
  settled_seen = record {
    first = ap (λ (b : Bool). if b then Some (link_read (mail_read n.registers.out_manager.area)) else None) (is_false n.registers.out_manager.full (first_of (not n.registers.out_manager.full) _ settled));
    second = none_inside;
    withdrawn = ap (option_map link_mail) none_withdrawn;
    waiting =
        let al = (registers_seen n.registers).state in
        let none : w.running.next n.server ≡ None = nothing (w.running.next n.server) (first_of (is_none (w.running.next n.server)) _ mails_of) in
        none_waits (w.sees al n.server).waiting (sym ((behind.served.seen al).next n.server) ∙ ap (option_map (λ (m : Mail). Ok (uncounted m))) none);
  }
