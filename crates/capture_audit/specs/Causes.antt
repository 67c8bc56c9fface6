-- When each verdict comes.
use Rattle.std.specs.Prelude.{◌≡◌, ℕ, List, [], ◌∷◌, ◌++◌, Some, None, ⊤}
use Rattle.capture_audit.specs.declared.known.Known.{Known}
use Rattle.capture_audit.specs.declared.rule.Rule.{Rule}
use Rattle.capture_audit.specs.declared.station.StationAudit.{StationAudit}
use Rattle.capture_audit.specs.declared.verdict.Verdict.{Verdict}
use Rattle.capture_audit.specs.declared.verdict.Verdict.TheVariants.{Yes, No}
use Rattle.capture_audit.specs.Exchanges.{Sent, Exchange}
use Rattle.capture_audit.specs.Rules.{number_of}
use Rattle.capture_audit.specs.Audit.{rule_at, met}

-- what is known behind datagrams
abbrev pub behind : Known → List Sent → Known
behind k [] = k
behind k (d ∷ ds) = behind (met k d) ds

-- no datagram breaks a rule
abbrev pub Obeys : Known → List Sent → Type 0
Obeys k [] = ⊤
Obeys k (d ∷ ds) = (rule_at k d ≡ None) × Obeys (met k d) ds

-- the datagrams of exchanges, one behind the other
abbrev pub all_of : List Exchange → List Sent
all_of [] = []
all_of (x ∷ xs) = x.datagrams ++ all_of xs

-- the first datagram that breaks a rule stands in the exchange of this packet, and this is the number of the first rule
-- that it breaks
pub record BreaksFirst (k : Known) (xs : List Exchange) (rule packet : ℕ) : Type 0 where
  pub before : List Exchange
  pub exchange : Exchange
  pub after : List Exchange
  pub front : List Sent
  pub datagram : Sent
  pub rest : List Sent
  pub broken : Rule
  pub exchanges : xs ≡ before ++ exchange ∷ after
  pub datagrams : exchange.datagrams ≡ front ++ datagram ∷ rest
  pub obeyed : Obeys k (all_of before ++ front)
  pub breaks : rule_at (behind k (all_of before ++ front)) datagram ≡ Some broken
  pub number : rule ≡ number_of broken
  pub place : packet ≡ exchange.packet

-- Yes comes exactly where no datagram breaks a rule, and tells the stations that are known behind them all
pub record YesCause (k : Known) (xs : List Exchange) (verdict : Verdict) : Type 0 where
  pub only : (stations : List StationAudit) → verdict ≡ Yes stations → Obeys k (all_of xs) × (stations ≡ (behind k (all_of xs)).stations)
  pub always : Obeys k (all_of xs) → verdict ≡ Yes (behind k (all_of xs)).stations

-- No comes exactly where a datagram breaks a rule, and tells the first
pub record NoCause (k : Known) (xs : List Exchange) (verdict : Verdict) : Type 0 where
  pub only : (rule packet : ℕ) → verdict ≡ No rule packet → BreaksFirst k xs rule packet
  pub always : (rule packet : ℕ) → BreaksFirst k xs rule packet → verdict ≡ No rule packet
