-- The datagrams of mails.
use Rattle.std.proofs.Common.{◌≡◌, ℕ, ◌-◌, ◌<◌, ◌≤◌, List, [], ◌∷◌, ◌++◌, Bool, true, false, Some, None, Ok, Err, refl, sym, ap, ◌∙◌, subst, length, take, drop, arith, nat_lt, if◌then◌else◌, slice_index, IfOk}
use Rattle.std.specs.Prelude.{zero, suc, Result, ◌==◌}
use Rattle.std.proofs.lemmas.Bool.Decides.{nat_tests}
use Rattle.std.proofs.lemmas.List.{append_assoc, length-drop, take-append-drop, take_all}
use Rattle.gateway_core.specs.of_mailbox_mail.Mail.{IsMail, mail_text, mail_read}
use Rattle.gateway_core.proofs.of_mailbox_mail.Laws.{read-found}
use Rattle.gateway_core.specs.of_mailbox_mail.declared.mail.Mail.{Mail}
use Rattle.gateway_core.specs.of_mailbox_mail.declared.mail.MailFault.{MailFault}
use Rattle.gateway_core.specs.Framing.{request_in, request_of, length_read, type_in, length_in, octets_in}
use Rattle.gateway_core.specs.declared.framing.GatewayFault.{GatewayFault}
use Rattle.gateway_core.specs.declared.framing.GatewayFault.TheVariants as faults
use Rattle.coe_client.proofs.of_ec_fields.Cells.{AreOctets, AreOctets-drop}
use Rattle.gateway_tool.specs.Rule.{mail_in}

-- what is read

request_ok : (r : Result Mail MailFault) (m : Mail) → request_of r ≡ Ok m → r ≡ Ok m
request_ok (Ok n) m e = cc
request_ok (Err fault) m e = absurd (cc)

-- a datagram that reads has a mail within its length
inside_by : (short typed long : Bool) (octets : List ℕ) (m : Mail) → nat_lt (length octets) 8 ≡ short → (type_in octets == 5) ≡ typed → nat_lt (length octets - 2) (length_in octets) ≡ long →
    (if short then Err faults.Short else if typed then (if long then Err faults.Length else request_of (mail_read (octets_in octets))) else Err faults.WrongType) ≡ Ok m →
    (8 ≤ length octets) × (mail_read (octets_in octets) ≡ Ok m)
inside_by true typed long octets m s t l e = absurd (cc)
inside_by false false long octets m s t l e = absurd (cc)
inside_by false true true octets m s t l e = absurd (cc)
inside_by false true false octets m s t l e = (grind (arith, nat_tests, s), request_ok (mail_read (octets_in octets)) m e)

inside : (octets : List ℕ) (m : Mail) → request_in octets ≡ Ok m → (8 ≤ length octets) × (mail_read (octets_in octets) ≡ Ok m)
inside octets m e = inside_by (nat_lt (length octets) 8) (type_in octets == 5) (nat_lt (length octets - 2) (length_in octets)) octets m refl refl refl e

some_length : (r : Result Mail GatewayFault) (n : ℕ) → length_read r ≡ Ok n → (m : Mail) × (r ≡ Ok m)
some_length (Ok m) n e = (m, refl)
some_length (Err fault) n e = absurd (cc)

-- a mail is read alike with octets behind it
mail_longer : (area more : List ℕ) (m : Mail) → IsMail area m → IsMail (area ++ more) m
mail_longer area more m i = record {
  channel = i.channel;
  top = i.top;
  rest = i.rest ++ more;
  octets = ap (λ (o : List ℕ). o ++ more) i.octets ∙ append_assoc (mail_text i.channel i.top m) i.rest more;
  one_bit = i.one_bit;
  addressed = i.addressed;
  counted = i.counted;
  fits = i.fits;
}

found : (area : List ℕ) (m : Mail) → IfOk (mail_read area) (IsMail area) → mail_read area ≡ Ok m → IsMail area m
found area m f e = subst (λ r. IfOk r (IsMail area)) e f

mail_behind : (octets : List ℕ) (n : ℕ) → ((i : ℕ) → slice_index (octets_in octets) i < 256) → length_read (request_in octets) ≡ Ok n → (m : Mail) × (request_in octets ≡ Ok m) × IsMail (drop 2 octets) m
mail_behind octets n small e =
    let s = some_length (request_in octets) n e in
    let r = (inside octets s.0 s.1).1 in
    let i = found (octets_in octets) s.0 (read-found (octets_in octets) small) r in
    (s.0, s.1, subst (λ (o : List ℕ). IsMail o s.0) (take-append-drop (length_in octets) (drop 2 octets)) (mail_longer (octets_in octets) (drop (length_in octets) (drop 2 octets)) s.0 i))

-- octets stay octets

taken_octets : (n : ℕ) (l : List ℕ) → AreOctets l → AreOctets (take n l)
taken_octets zero l o i = omega arith
taken_octets (suc n) [] o i = omega arith
taken_octets (suc n) (x ∷ xs) o zero = o 0
taken_octets (suc n) (x ∷ xs) o (suc i) = taken_octets n xs (λ j. o (suc j)) i

inside_octets : (octets : List ℕ) → AreOctets octets → AreOctets (octets_in octets)
inside_octets octets o = taken_octets (length_in octets) (drop 2 octets) (AreOctets-drop 2 octets o)

same_ok : (r : Result Mail MailFault) (a b : Mail) → r ≡ Ok a → r ≡ Ok b → a ≡ b
same_ok r a b p q = cc

-- all that is behind the header
all_behind : (octets : List ℕ) → take (length octets - 2) (drop 2 octets) ≡ drop 2 octets
all_behind octets = take_all (length octets - 2) (drop 2 octets) (let n = length-drop 2 octets in omega (arith, n))

pub only_behind : (octets : List ℕ) (r : Result Mail MailFault) → ((x : Mail) → IsMail (take (length octets - 2) (drop 2 octets)) x → r ≡ Ok x) → (x : Mail) → IsMail (drop 2 octets) x → r ≡ Ok x
only_behind octets r only x i = only x (subst (λ (o : List ℕ). IsMail o x) (sym (all_behind octets)) i)

-- what the rest of a datagram behind its header reads as is its mail

pub read_ok : (octets : List ℕ) (n : ℕ) (r : Result Mail MailFault) (m : Mail) → AreOctets octets → length_read (request_in octets) ≡ Ok n → ((x : Mail) → IsMail (drop 2 octets) x → r ≡ Ok x) → r ≡ Ok m → Some m ≡ mail_in (request_in octets)
read_ok octets n r m o e only is =
    let b = mail_behind octets n (inside_octets octets o) e in
    sym (ap mail_in b.1 ∙ ap Some (same_ok r b.0 m (only b.0 b.2) is))

pub read_err : (octets : List ℕ) (n : ℕ) (r : Result Mail MailFault) (fault : MailFault) → AreOctets octets → length_read (request_in octets) ≡ Ok n → ((x : Mail) → IsMail (drop 2 octets) x → r ≡ Ok x) → r ≡ Err fault → None ≡ mail_in (request_in octets)
read_err octets n r fault o e only is =
    let b = mail_behind octets n (inside_octets octets o) e in
    let p : r ≡ Ok b.0 = only b.0 b.2 in
    absurd (cc)
