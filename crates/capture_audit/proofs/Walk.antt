-- The walk over the packets of a capture.
use Rattle.std.proofs.Common.{◌≡◌, ℕ, zero, suc, ◌+◌, true, false, List, [], ◌∷◌, drop, refl, sym, ap, ◌∙◌, arith, subst, Result, Ok, Err, IfOk}
use Rattle.capture_view.specs.of_pcap_frames.declared.capture.PacketAt.{PacketAt}
use Rattle.capture_audit.specs.declared.known.Known.{Known}
use Rattle.capture_audit.specs.declared.verdict.Verdict.{Verdict}
use Rattle.capture_audit.specs.Exchanges.{Exchange, exchanges}
use Rattle.capture_audit.specs.Audit.{judged_all}
use Rattle.capture_audit.specs.Causes.{YesCause, NoCause}
use Rattle.capture_audit.proofs.Causes.{yes_cause, no_cause}

used_from : (file : List ℕ) (number at : ℕ) (packets : List PacketAt) → exchanges file true number (drop at packets) ≡ exchanges file false (number + 1) (drop (suc at) packets)
used_from file number zero [] = refl
used_from file number zero (p ∷ ps) = refl
used_from file number (suc at) [] = refl
used_from file number (suc at) (p ∷ ps) = used_from file number at ps

-- a packet that was used as a return is left out
pub used_up : (file : List ℕ) (number at : ℕ) (packets : List PacketAt) → exchanges file true number (drop at packets) ≡ exchanges file false (number + 1) (drop (at + 1) packets)
used_up file number at packets =
    let next : suc at ≡ at + 1 = omega arith in
    used_from file number at packets ∙ ap (λ (k : ℕ). exchanges file false (number + 1) (drop k packets)) next

pub yes_told : {E : Type 0} (r : Result Verdict E) (k : Known) (xs : List Exchange) → IfOk r (λ v. v ≡ judged_all k xs) → IfOk r (YesCause k xs)
yes_told (Ok v) k xs is = subst (YesCause k xs) (sym is) (yes_cause k xs)
yes_told (Err e) k xs is = tt

pub no_told : {E : Type 0} (r : Result Verdict E) (k : Known) (xs : List Exchange) → IfOk r (λ v. v ≡ judged_all k xs) → IfOk r (NoCause k xs)
no_told (Ok v) k xs is = subst (NoCause k xs) (sym is) (no_cause k xs)
no_told (Err e) k xs is = tt
