-- A fragment of a packet is what a slave sends of itself.
use Rattle.std.proofs.Common.{◌≡◌, ℕ, ◌%◌, ◌&&◌, ◌==◌, nat_lt, nat_le, not, Bool, true, false, Option, Some, None, List, [], ◌∷◌, length, Result, Ok, Err, refl, sym, ap, ◌∙◌, arith, le-ltb, le-leb, if◌then◌else◌}
use Rattle.std.specs.Prelude.{drop}
use Rattle.served_rings.specs.of_ec_fields.Fields.{number_at, bits_of}
use Rattle.packets_heard.specs.of_eoe.Message.{fragment_in as spelled_fragment, message_in, eoe_read}
use Rattle.packets_heard.specs.of_eoe.declared.message.Eoe.{Eoe}
use Rattle.packets_heard.specs.of_eoe.declared.message.Eoe.TheVariants.{Fragment as Part, SetIp, SetIpAnswer, GetIp, GetIpAnswer}
use Rattle.packets_heard.specs.of_eoe.declared.message.EoeFault.{EoeFault}
use Rattle.packets_heard.specs.of_eoe.declared.message.Fragment.{Fragment}
use Rattle.packets_heard.specs.of_protocol_models.CoeMails as CoeMails
use Rattle.packets_heard.specs.of_protocol_models.CoeOctets.{is_fragment}
use Rattle.packets_heard.specs.of_protocol_models.EoeMails.{failed, other}
use Rattle.packets_heard.specs.of_protocol_models.EoeOctets as EoeOctets
use Rattle.packets_heard.specs.of_protocol_models.EoeOctets.{is_error}
use Rattle.packets_heard.specs.of_link_mails.Body.{Body}
use Rattle.served_rings.specs.of_mailbox_mail.declared.mail.Kind.{Kind}
use Rattle.packets_heard.specs.of_master_hand.Joins.{fragment_of, fragment_in}
use Rattle.served_rings.specs.of_slave_model.Product.{emission}

-- a body that reads as a fragment has type 0
abbrev found : Result Eoe EoeFault → Option Fragment
found (Ok (Part f)) = Some f
found (Ok (SetIp block)) = None
found (Ok (SetIpAnswer result_code)) = None
found (Ok GetIp) = None
found (Ok (GetIpAnswer result_code block)) = None
found (Err fault) = None

of_read : (body : List ℕ) (r : Result Eoe EoeFault) (f : Fragment) → fragment_of (EoeOctets.heard body r) ≡ Some f → found r ≡ Some f
of_read body (Ok (Part g)) f e = e
of_read body (Ok (SetIp block)) f e = e
of_read body (Ok (SetIpAnswer result_code)) f e = e
of_read body (Ok GetIp) f e = e
of_read body (Ok (GetIpAnswer result_code block)) f e = e
of_read body (Err fault) f e = e

abbrev nothing : Option Fragment
nothing = None

none_found : (Q : Type 0) (f : Fragment) → nothing ≡ Some f → Q
none_found Q f e = absurd (cc)

type_of : (first second : ℕ) (rest : List ℕ) (f : Fragment) → found (message_in first second rest) ≡ Some f → (bits_of first 0 4 == 0) ≡ true
type_of first second rest f e = go (bits_of first 0 4 == 0) refl
  where
    others : (a b c d : Bool) → found (if a then Ok (SetIp (record { items = rest })) else if b then Ok (SetIpAnswer second) else if c then Ok GetIp else if d then Ok (GetIpAnswer second (record { items = rest })) else Err Rattle.packets_heard.specs.of_eoe.declared.message.EoeFault.TheVariants.WrongType) ≡ None
    others true b c d = refl
    others false true c d = refl
    others false false true d = refl
    others false false false true = refl
    others false false false false = refl

    go : (z : Bool) → (bits_of first 0 4 == 0) ≡ z → (bits_of first 0 4 == 0) ≡ true
    go true is = is
    go false is =
        let same : found (message_in first second rest) ≡ None =
        ap (λ (z : Bool). found (if z then (if not (bits_of first 8 1 == 1) && not (length rest % 32 == 0) then Err Rattle.packets_heard.specs.of_eoe.declared.message.EoeFault.TheVariants.Offset else Ok (Part (spelled_fragment first second rest)))
        else if bits_of first 0 4 == 2 then Ok (SetIp (record { items = rest })) else if bits_of first 0 4 == 3 then Ok (SetIpAnswer second) else if bits_of first 0 4 == 6 then Ok GetIp else if bits_of first 0 4 == 7 then Ok (GetIpAnswer second (record { items = rest })) else Err Rattle.packets_heard.specs.of_eoe.declared.message.EoeFault.TheVariants.WrongType)) is
        ∙ others (bits_of first 0 4 == 2) (bits_of first 0 4 == 3) (bits_of first 0 4 == 6) (bits_of first 0 4 == 7) in
        none_found ((bits_of first 0 4 == 0) ≡ true) f (sym same ∙ e)

short : (body : List ℕ) (f : Fragment) → nat_lt (length body) 4 ≡ true → found (eoe_read body) ≡ Some f → ⊥
short body f s e = none_found ⊥ f (sym (ap (λ (z : Bool). found (if z then Err Rattle.packets_heard.specs.of_eoe.declared.message.EoeFault.TheVariants.Short else message_in (number_at 2 body 0) (number_at 2 body 2) (drop 4 body))) s) ∙ e)

body_is : (body : List ℕ) (f : Fragment) → found (eoe_read body) ≡ Some f → is_fragment body ≡ true
body_is [] f e = absurd (short [] f refl e)
body_is (a ∷ []) f e = absurd (short (a ∷ []) f refl e)
body_is (a ∷ b ∷ []) f e = absurd (short (a ∷ b ∷ []) f refl e)
body_is (a ∷ b ∷ c ∷ []) f e = absurd (short (a ∷ b ∷ c ∷ []) f refl e)
body_is (a ∷ b ∷ c ∷ d ∷ rest) f e =
    let body = a ∷ b ∷ c ∷ d ∷ rest in
    let long : nat_lt (length body) 4 ≡ false = le-ltb (length body) 4 (omega arith) in
    let more : nat_le 4 (length body) ≡ true = le-leb 4 (length body) (omega arith) in
    let read : found (message_in (number_at 2 body 0) (number_at 2 body 2) (drop 4 body)) ≡ Some f =
    sym (ap (λ (z : Bool). found (if z then Err Rattle.packets_heard.specs.of_eoe.declared.message.EoeFault.TheVariants.Short else message_in (number_at 2 body 0) (number_at 2 body 2) (drop 4 body))) long) ∙ e in
    let zero_type = type_of (number_at 2 body 0) (number_at 2 body 2) (drop 4 body) f read in
    let same : bits_of (number_at 2 body 0) 0 4 ≡ a % 16 = omega arith in
    ap (λ (z : Bool). z && (a % 16 == 0)) more ∙ ap (λ (n : ℕ). n == 0) (sym same) ∙ zero_type

-- BY THE KIND OF THE MAIL
by_kind : (k : Kind) (body : List ℕ) (f : Fragment) → fragment_of (EoeOctets.by_kind k body) ≡ Some f → Rattle.packets_heard.specs.of_protocol_models.CoeOctets.by_kind k body ≡ CoeMails.fragment body
by_kind Kind.EoE body f e = ap (λ (z : Bool). if z then CoeMails.fragment body else CoeMails.other body) (body_is body f (of_read body (eoe_read body) f e))
by_kind Kind.Error body f e = absurd (none_error (is_error body) e)
  where
    none_error : (b : Bool) → fragment_of (if b then failed (number_at 2 body 2) else other body) ≡ Some f → ⊥
    none_error true e = none_found ⊥ f e
    none_error false e = none_found ⊥ f e
by_kind Kind.AoE body f e = absurd (none_found ⊥ f e)
by_kind Kind.CoE body f e = absurd (none_found ⊥ f e)
by_kind Kind.FoE body f e = absurd (none_found ⊥ f e)
by_kind Kind.SoE body f e = absurd (none_found ⊥ f e)
by_kind Kind.VoE body f e = absurd (none_found ⊥ f e)

pub own_fragment : (m : Body) (f : Fragment) → fragment_in m ≡ Some f → emission m ≡ true
own_fragment (Ok m) f e = ap CoeMails.is_emission (by_kind m.kind m.body.items f e)
own_fragment (Err fault) f e = absurd (none_found ⊥ f e)
