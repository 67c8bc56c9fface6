use Rattle.std.proofs.Common.{◌≡◌, Bool, true, false, Option, Some, None, [], refl, sym, ap, ◌∙◌}
use Rattle.std.specs.Prelude.{IfSome, if◌then◌else◌}
use Rattle.eoe_client.specs.of_mailbox_mail.declared.outcome.ReplyKind.{ReplyKind}
use Rattle.master_hand.specs.Hears.{kind_in}
use Rattle.master_hand.specs.Passed.{at_end}
use Rattle.master_hand.specs.Spoken.{passed_ends}
use Rattle.master_hand.specs.Talk.{Talking, client_awaits, is_mail, value_of}
use Rattle.master_hand.specs.declared.clients.Which.{Which}
use Rattle.master_hand.proofs.hand.InHand.answer.Goals as goal

-- a mail that is passed on has no answer of any kind
passed_kind : (which : Which) (c : Talking) → is_mail which ≡ true → kind_in (client_awaits which c []) ≡ None
passed_kind Which.Passed c e = go c.passed.over
  where
    go : (b : Bool) → kind_in (if b then at_end [] else passed_ends []) ≡ None
    go true = refl
    go false = refl
passed_kind Which.Coe c e = absurd (let bad : false ≡ true = e in cc)
passed_kind Which.ReadFile c e = absurd (let bad : false ≡ true = e in cc)
passed_kind Which.WriteFile c e = absurd (let bad : false ≡ true = e in cc)
passed_kind Which.Soe c e = absurd (let bad : false ≡ true = e in cc)
passed_kind Which.Address c e = absurd (let bad : false ≡ true = e in cc)
passed_kind Which.Packet c e = absurd (let bad : false ≡ true = e in cc)

kind_is : (which : Which) (c : Talking) (result : Option ReplyKind) → IfSome result (λ kind. client_awaits which c [] ≡ Some (Some (kind, value_of which c))) → (result ≡ None → is_mail which ≡ true) → result ≡ kind_in (client_awaits which c [])
kind_is which c None some none = sym (passed_kind which c (none refl))
kind_is which c (Some kind) some none = sym (ap kind_in some)

pub returns-then-not-is_answered-clause-kept : goal.returns-then-not-is_answered-clause-kept
returns-then-not-is_answered-clause-kept c =
    let h = c.args.self.now in
    ap (λ (z : Bool). if z then kind_in (client_awaits h.which h.clients []) else None) (sym (sym c.is_answered.ensures ∙ c.if-not-is_answered.true))

pub returns-clause-kept : goal.returns-clause-kept
returns-clause-kept c =
    let h = c.args.self.now in
    kind_is h.which h.clients c.reply.result c.reply.ensures.reply c.reply.ensures.none
    ∙ ap (λ (z : Bool). if z then kind_in (client_awaits h.which h.clients []) else None) (sym (sym c.is_answered.ensures ∙ c.if-not-is_answered.false))
