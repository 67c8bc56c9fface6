-- What a client of address services and a sender of packets send next.
use Rattle.std.proofs.Common.{◌≡◌, ℕ, ◌+◌, ◌*◌, ◌/◌, ◌-◌, ◌≤◌, ◌<◌, List, [], ◌∷◌, Bool, true, false, Some, None, refl, sym, ap, ◌∙◌, map, length, nat_lt, nat_le, arith}
use Rattle.std.specs.Prelude.{◌↔◌, not, if◌then◌else◌, zero, suc}
use Rattle.protocol_models.specs.of_mailbox_mail.declared.mail.Kind.TheVariants.{EoE}
use Rattle.protocol_models.specs.of_eoe.declared.message.Fragment.{Fragment}
use Rattle.protocol_models.specs.of_eoe.Message.{eoe_text}
use Rattle.protocol_models.specs.of_eoe.Cutting.{Cutting, fragment_at, fragments_from, next_fragment, cutting_after}
use Rattle.protocol_models.specs.EoeMails.{SetIp, GetIp, Part, mail, part}
use Rattle.protocol_models.specs.EoeOctets.{mail_with}
use Rattle.eoe_client.specs.declared.address.Unsent.{Unsent}
use Rattle.eoe_client.specs.Talk.{Talking, Sending, unsent_mails, fragments_left, SendsNext, SendsPart}

pub set_sent : (old : Talking) (octets : List ℕ) → old.unsent ≡ Unsent.Set → octets ≡ eoe_text (SetIp (record { items = old.block })) → SendsNext old octets (record old { unsent = Unsent.Nothing })
set_sent old octets u e = record {
  next = mail (SetIp (record { items = old.block }));
  spelled = ap (mail_with EoE) (sym e);
  mails = ap (unsent_mails old.block) u;
  room = refl;
}

pub get_sent : (old : Talking) (octets : List ℕ) → old.unsent ≡ Unsent.Get → octets ≡ eoe_text GetIp → SendsNext old octets (record old { unsent = Unsent.Nothing })
get_sent old octets u e = record {
  next = mail GetIp;
  spelled = ap (mail_with EoE) (sym e);
  mails = ap (unsent_mails old.block) u;
  room = refl;
}

-- behind the end of a packet no fragment is left, and before it one is
none_behind : (packet : List ℕ) (size frame most k at : ℕ) → nat_lt at (length packet) ≡ false → fragments_from packet size frame most k at ≡ []
none_behind packet size frame zero k at e = refl
none_behind packet size frame (suc most) k at e =
    ap (λ (b : Bool). if b then fragment_at packet size frame k at ∷ fragments_from packet size frame most (k + 1) (at + size) else []) e

some_before : (packet : List ℕ) (size frame most k at : ℕ) → nat_lt at (length packet) ≡ true →
    fragments_from packet size frame (suc most) k at ≡ fragment_at packet size frame k at ∷ fragments_from packet size frame most (k + 1) (at + size)
some_before packet size frame most k at e =
    ap (λ (b : Bool). if b then fragment_at packet size frame k at ∷ fragments_from packet size frame most (k + 1) (at + size) else []) e

pub none_left : (c : Cutting) → nat_lt c.at (length c.packet) ≡ false → fragments_left c ≡ []
none_left c e = ap (map part) (none_behind c.packet c.size c.frame (length c.packet - c.number) c.number c.at e)

pub one_left : (c : Cutting) → nat_lt c.at (length c.packet) ≡ true → 32 * c.number ≤ c.at →
    fragments_left c ≡ part (fragment_at c.packet c.size c.frame c.number c.at) ∷ fragments_left (record c { number = c.number + 1; at = c.at + c.size })
one_left c e h =
    let short : c.at < length c.packet = grind (arith, e) in
    let more : length c.packet - c.number ≡ suc (length c.packet - (c.number + 1)) = omega (arith, short, h) in
    ap (λ (n : ℕ). map part (fragments_from c.packet c.size c.frame n c.number c.at)) more
    ∙ ap (map part) (some_before c.packet c.size c.frame (length c.packet - (c.number + 1)) c.number c.at e)

pub over_left : (c : Cutting) (over : Bool) → 32 * c.number ≤ c.at → over ≡ nat_le (length c.packet) c.at → (not over ≡ false) ↔ (fragments_left c ≡ [])
over_left c over h e = by (nat_lt c.at (length c.packet)) refl
  where
    by : (b : Bool) → nat_lt c.at (length c.packet) ≡ b → (not over ≡ false) ↔ (fragments_left c ≡ [])
    by false n = let o : over ≡ true = grind (arith, e, n) in ((λ z. none_left c n), (λ z. ap not o))
    by true n = let o : over ≡ false = grind (arith, e, n) in ((λ z. let t : not over ≡ true = ap not o in absurd (cc)), (λ z. let s = one_left c n h in absurd (cc)))

pub part_sent : (old : Sending) (octets : List ℕ) (f : Fragment) → Some f ≡ next_fragment old.cutting → 32 * old.cutting.number ≤ old.cutting.at → octets ≡ eoe_text (Part f) → SendsPart old octets (record old { cutting = cutting_after old.cutting })
part_sent old octets f e h o = by (nat_lt old.cutting.at (length old.cutting.packet)) refl
  where
    c : Cutting
    c = old.cutting

    by : (b : Bool) → nat_lt old.cutting.at (length old.cutting.packet) ≡ b → SendsPart old octets (record old { cutting = cutting_after old.cutting })
    by false n = let g : Some f ≡ None = e ∙ ap (λ (z : Bool). if z then Some (fragment_at c.packet c.size c.frame c.number c.at) else None) n in absurd (cc)
    by true n =
        let g : Some f ≡ Some (fragment_at c.packet c.size c.frame c.number c.at) = e ∙ ap (λ (z : Bool). if z then Some (fragment_at c.packet c.size c.frame c.number c.at) else None) n in
        let after : cutting_after c ≡ record c { number = c.number + 1; at = c.at + c.size } = ap (λ (z : Bool). if z then record c { number = c.number + 1; at = c.at + c.size } else c) n in
        let is : f ≡ fragment_at c.packet c.size c.frame c.number c.at = cc in
        record {
          next = part f;
          spelled = ap (mail_with EoE) (sym o);
          mails = one_left c n h ∙ (λ i. part (sym is i) ∷ fragments_left (sym after i));
          room = refl;
        }

-- each fragment takes a block at least
pub after_counted : (c : Cutting) (room : ℕ) → 64 ≤ room → c.size ≡ 32 * ((room - 10) / 32) → 32 * c.number ≤ c.at → 32 * (cutting_after c).number ≤ (cutting_after c).at
after_counted c room least s h = by (nat_lt c.at (length c.packet))
  where
    by : (b : Bool) → 32 * (if b then record c { number = c.number + 1; at = c.at + c.size } else c).number ≤ (if b then record c { number = c.number + 1; at = c.at + c.size } else c).at
    by true = let some : 32 ≤ c.size = omega (arith, least, s) in omega (arith, some, h)
    by false = h
