use Rattle.std.proofs.Common.{◌≡◌, ◌∙◌, ap, sym, drop-drop, refl, ℕ, ◌+◌, ◌-◌, ◌*◌, ◌/◌, ◌%◌, ◌<◌, ◌≤◌, Bool, true, false, ◌||◌, nat_lt, if◌then◌else◌, is_none, List, ◌∷◌, ◌++◌, length, take, drop, slice_index, Option, Some, None, Ok, Err, IfOk, MatchResult, arith, length-append}
use Rattle.std.proofs.lemmas.Bool.{le-ltb}
use Rattle.std.proofs.lemmas.Bool.Decides.{nat_tests}
use Rattle.std.proofs.lemmas.Grind.{common_steps}
use Rattle.std.proofs.lemmas.List.{length-take-le, length-drop, take-append-drop}
use Rattle.std.proofs.Math.Seq.{take-append_seam}
use Rattle.byteorder.specs.Endian.{little_bytes}
use Rattle.ec_fields.specs.Fields.{number_at}
use Rattle.ec_fields.proofs.Cells.{two_read}
use Rattle.mailbox_mail.specs.Kind.{code_of, kind_of}
use Rattle.mailbox_mail.specs.Mail.{mail_text, IsMail, type_in, is_past, fault_of, mail_in, mail_of, mail_read}
use Rattle.mailbox_mail.specs.declared.mail.Kind.{Kind}
use Rattle.mailbox_mail.specs.declared.mail.Kind.TheVariants.{Error, AoE, EoE, CoE, FoE, SoE, VoE}
use Rattle.mailbox_mail.specs.Head.{head_text, mail_behind}
use Rattle.mailbox_mail.specs.declared.mail.Mail.{Mail}
use Rattle.mailbox_mail.specs.declared.mail.MailHead.{MailHead}
use Rattle.mailbox_mail.specs.declared.mail.MailFault.TheVariants.{Short, LengthPastArea, UnknownKind}

-- a number that stands for a protocol is that protocol's number
pub code_of-kind_of : (n : ℕ) (kind : Kind) → kind_of n ≡ Some kind → code_of kind ≡ n
code_of-kind_of n kind is = grind (arith, nat_tests)

-- a protocol's number stands for it
pub kind_of-code_of : (kind : Kind) → kind_of (code_of kind) ≡ Some kind
kind_of-code_of Error = refl
kind_of-code_of AoE = refl
kind_of-code_of EoE = refl
kind_of-code_of CoE = refl
kind_of-code_of FoE = refl
kind_of-code_of SoE = refl
kind_of-code_of VoE = refl

-- each protocol's number has four bits
pub code_of-small : (kind : Kind) → code_of kind < 16
code_of-small Error = omega arith
code_of-small AoE = omega arith
code_of-small EoE = omega arith
code_of-small CoE = omega arith
code_of-small FoE = omega arith
code_of-small SoE = omega arith
code_of-small VoE = omega arith

-- header cells and the parts behind them make the octets of a mail
join :
    (a b c d e f len address mark : ℕ) (tail body rest : List ℕ) → len % 256 ≡ a → len / 256 % 256 ≡ b → address % 256 ≡ c
    → address / 256 % 256 ≡ d → mark ≡ f → body ++ rest ≡ tail
    → a ∷ b ∷ c ∷ d ∷ e ∷ f ∷ tail ≡ (little_bytes 2 len ++ (little_bytes 2 address ++ e ∷ mark ∷ body)) ++ rest
join a b c d e f len address mark tail body rest p q r s t u = rw (p, q, r, s, t, u) refl

-- a body within its area is no longer than the area, nor than the most that a body has
within_area : (len left : ℕ) → (nat_lt left len || nat_lt 1480 len) ≡ false → (len ≤ left) × (len ≤ 1480)
within_area len left is = grind (arith, nat_tests)

-- an area with a sound header is a spelling of the mail that it reads as
pub spelling :
    (area : List ℕ) (kind : Kind) → ((i : ℕ) → slice_index area i < 256) → nat_lt (length area) 6 ≡ false → is_past area ≡ false
    → kind_of (type_in area) ≡ Some kind → IsMail area (mail_in area kind)
spelling (a ∷ b ∷ c ∷ d ∷ e ∷ f ∷ tail) kind octets long within is =
    let n : ℕ = a + 256 * (b + 0) in
    let fits : (n ≤ length (a ∷ b ∷ c ∷ d ∷ e ∷ f ∷ tail) - 6) × (n ≤ 1480) =
    within_area n (length (a ∷ b ∷ c ∷ d ∷ e ∷ f ∷ tail) - 6) within in
    let inside : n ≤ length tail = omega (arith, fits.0) in
    let len : length (take n tail) ≡ n = length-take-le n tail inside in
    let code : code_of kind ≡ f % 16 = code_of-kind_of (f % 16) kind is in
    let first : a < 256 = octets 0 in
    let second : b < 256 = octets 1 in
    let third : c < 256 = octets 2 in
    let fourth : d < 256 = octets 3 in
    let last : f < 256 = octets 5 in
    record {
      channel = e;
      top = f / 128;
      rest = drop n tail;
      octets =
          join a b c d e f (length (take n tail)) (c + 256 * (d + 0)) (code_of kind + 16 * (f / 16 % 8) + 128 * (f / 128)) tail (take n tail) (drop n tail)
          (omega (arith, len)) (omega (arith, len)) (omega arith) (omega arith) (omega (arith, code)) (take-append-drop n tail);
      one_bit = omega arith;
      addressed = omega arith;
      counted = omega arith;
      fits = omega (arith, len, fits.1);
    }
spelling short kind octets long within is = absurd (grind (arith, common_steps, nat_tests))

-- what an area reads as is a mail that it spells
found_by :
    (area : List ℕ) (t u : Bool) (k : Option Kind) → ((i : ℕ) → slice_index area i < 256) → nat_lt (length area) 6 ≡ t → is_past area ≡ u
    → kind_of (type_in area) ≡ k → IfOk (if t then Err Short else if u then Err LengthPastArea else mail_of area k) (IsMail area)
found_by area true u k octets p q r = tt
found_by area false true k octets p q r = tt
found_by area false false None octets p q r = tt
found_by area false false (Some kind) octets p q r = spelling area kind octets p q r

pub read-found : (area : List ℕ) → ((i : ℕ) → slice_index area i < 256) → IfOk (mail_read area) (IsMail area)
read-found area octets = found_by area (nat_lt (length area) 6) (is_past area) (kind_of (type_in area)) octets refl refl refl

-- a sound header in continuation form
only_by :
    (t u : Bool) (area : List ℕ) (k : Option Kind) (kind : Kind) (m : Mail) → t ≡ false → u ≡ false → k ≡ Some kind → mail_in area kind ≡ m
    → (if t then Err Short else if u then Err LengthPastArea else mail_of area k) ≡ Ok m
only_by t u area k kind m p q r s = rw (p, q, r, s) refl

-- a body that is within its area, and no longer than a body is
past_no : (left len : ℕ) → len ≤ left → len ≤ 1480 → (nat_lt left len || nat_lt 1480 len) ≡ false
past_no left len inside fits = rw (le-ltb left len inside, le-ltb 1480 len fits) refl

-- a mail in an area is the mail whose parts it has
same_mail :
    (area : List ℕ) (m : Mail) → number_at 2 area 2 ≡ m.address → slice_index area 5 / 16 % 8 ≡ m.counter
    → take (number_at 2 area 0) (drop 6 area) ≡ m.body.items → mail_in area m.kind ≡ m
same_mail area m p q r = λ i. record { address = p i; kind = m.kind; counter = q i; body = record { items = r i } }

-- a spelled mail is what its area reads as
spelled_read :
    (channel top : ℕ) (rest : List ℕ) (m : Mail) → top ≤ 1 → m.address < 65536 → m.counter ≤ 7 → length m.body.items ≤ 1480
    → mail_read (mail_text channel top m ++ rest) ≡ Ok m
spelled_read channel top rest m one_bit addressed counted fits =
    let area : List ℕ = mail_text channel top m ++ rest in
    let n : ℕ = length m.body.items in
    let small : code_of m.kind < 16 = code_of-small m.kind in
    let len : number_at 2 area 0 ≡ n = two_read n (omega (arith, fits)) in
    let whole : length area ≡ 6 + (n + length rest) = omega (arith, length-append m.body.items rest) in
    let marks : slice_index area 5 ≡ code_of m.kind + 16 * m.counter + 128 * top = refl in
    let kind : type_in area ≡ code_of m.kind = omega (arith, marks) in
    only_by (nat_lt (length area) 6) (is_past area) area (kind_of (type_in area)) m.kind m
    (le-ltb (length area) 6 (omega (arith, whole)))
    (past_no (length area - 6) (number_at 2 area 0) (omega (arith, whole, len)) (omega (arith, len, fits)))
    (ap kind_of kind ∙ kind_of-code_of m.kind)
    (same_mail area m (two_read m.address addressed) (omega (arith, marks, counted))
    (ap (λ k. take k (m.body.items ++ rest)) len ∙ take-append_seam m.body.items rest))

pub read-only : (area : List ℕ) (m : Mail) → IsMail area m → mail_read area ≡ Ok m
read-only area m spelled = rw spelled.octets (spelled_read spelled.channel spelled.top spelled.rest m spelled.one_bit spelled.addressed spelled.counted spelled.fits)

-- the fault is the first part that is no mail's
exact_by :
    (area : List ℕ) (t u : Bool) (k : Option Kind) →
    MatchResult (if t then Err Short else if u then Err LengthPastArea else mail_of area k)
    (λ _. (if t then Some Short else if u then Some LengthPastArea else if is_none k then Some UnknownKind else None) ≡ None)
    (λ e. (if t then Some Short else if u then Some LengthPastArea else if is_none k then Some UnknownKind else None) ≡ Some e)
exact_by area true u k = refl
exact_by area false true k = refl
exact_by area false false None = refl
exact_by area false false (Some kind) = refl

pub read-exact : (area : List ℕ) → MatchResult (mail_read area) (λ _. fault_of area ≡ None) (λ e. fault_of area ≡ Some e)
read-exact area = exact_by area (nat_lt (length area) 6) (is_past area) (kind_of (type_in area))

-- a header in front of a body that stands behind it makes the octets of a mail, and what is behind the body stays
pub head-octets :
    (head : MailHead) (len : ℕ) (area after : List ℕ) → 6 + len ≤ length area → after ≡ head_text head len ++ drop 6 area
    → after ≡ mail_text 0 0 (mail_behind head len area) ++ drop (6 + len) area
head-octets head len area after fits is =
    let tail : List ℕ = drop 6 area in
    let body : List ℕ = take len tail in
    let inside : len ≤ length tail = omega (arith, fits, length-drop 6 area) in
    let count : length body ≡ len = length-take-le len tail inside in
    let split : body ++ drop (6 + len) area ≡ tail = ap (λ l. body ++ l) (sym (drop-drop len 6 area)) ∙ take-append-drop len tail in
    let mark : ℕ = code_of head.kind + 16 * head.counter in
    is ∙ join (len % 256) (len / 256 % 256) (head.address % 256) (head.address / 256 % 256) 0 mark (length body) head.address (mark + 128 * 0) tail body
    (drop (6 + len) area) (ap (λ n. n % 256) count) (ap (λ n. n / 256 % 256) count) refl refl (omega arith) split

-- so it is a spelling of that mail
pub head-spelled :
    (head : MailHead) (len : ℕ) (area after : List ℕ) → 6 + len ≤ length area → head.address < 65536 → head.counter ≤ 7 → len ≤ 1480
    → after ≡ head_text head len ++ drop 6 area → IsMail after (mail_behind head len area)
head-spelled head len area after fits addressed counted within is =
    record {
      channel = 0;
      top = 0;
      rest = drop (6 + len) area;
      octets = head-octets head len area after fits is;
      one_bit = omega arith;
      addressed = addressed;
      counted = counted;
      fits = omega (arith, within, length-take-le len (drop 6 area) (omega (arith, fits, length-drop 6 area)));
    }
