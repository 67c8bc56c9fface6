-- Each mail of a CoE service has a spelling, from which it is read back.
use Rattle.std.proofs.Common.{true, ◌≡◌, ℕ, ◌+◌, ◌*◌, ◌/◌, ◌%◌, ◌<◌, List, [], ◌∷◌, refl, ap, arith}
use Rattle.coe_codec.specs.Writing.{HasSpelling, IsRanged, IsFew, coe_text}
use Rattle.coe_codec.proofs.Spelled.{write-spelled}
use Rattle.coe_codec.proofs.Only.{read-only}
use Rattle.exchange_model.specs.Lifted.{EachOf, ReadsBack}
use Rattle.protocol_models.specs.CoeMails.{CoeMail, mail, unread, failed, fragment, other, other}
use Rattle.protocol_models.specs.CoeOctets.{is_fragment, heard, coe_mail_heard, coe_mail_written}

-- a mail that has a spelling
abbrev pub IsSpelled : CoeMail → Type 0
IsSpelled (mail c) = HasSpelling c × IsRanged c × IsFew c
IsSpelled (unread fault service index sub) = ⊥
IsSpelled (failed detail) = detail < 65536
IsSpelled (fragment body) = is_fragment body ≡ true
IsSpelled (other body) = Unit {0}

pub reads_back : (m : CoeMail) → IsSpelled m → ReadsBack coe_mail_heard coe_mail_written m
reads_back (mail c) s = ap (heard (coe_text c)) (read-only (coe_text c) c (write-spelled c s.0 s.1 s.2))
reads_back (unread fault service index sub) s = absurd s
reads_back (failed detail) s = ap failed (two detail s)
  where
    two : (n : ℕ) → n < 65536 → n % 256 + 256 * (n / 256 % 256 + 0) ≡ n
    two n small = omega arith
reads_back (fragment body) s = rw s refl
reads_back (other body) s = refl

pub all_read_back : (ms : List CoeMail) → EachOf IsSpelled ms → EachOf (ReadsBack coe_mail_heard coe_mail_written) ms
all_read_back [] all = tt
all_read_back (m ∷ ms) all = (reads_back m all.0, all_read_back ms all.1)
