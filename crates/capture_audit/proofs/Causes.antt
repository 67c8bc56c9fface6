-- When each verdict comes.
use Rattle.std.proofs.Common.{◌≡◌, ℕ, List, [], ◌∷◌, ◌++◌, refl, sym, ap, ◌∙◌, subst, append_assoc, Option, Some, None, Result, Ok, Err}
use Rattle.capture_audit.specs.declared.known.Known.{Known}
use Rattle.capture_audit.specs.declared.rule.Rule.{Rule}
use Rattle.capture_audit.specs.declared.station.StationAudit.{StationAudit}
use Rattle.capture_audit.specs.declared.verdict.Verdict.TheVariants.{Yes, No}
use Rattle.capture_audit.specs.Exchanges.{Sent, Exchange}
use Rattle.capture_audit.specs.Rules.{number_of}
use Rattle.capture_audit.specs.Audit.{rule_at, met, unless, judged, kept, verdict_by, judged_all}
use Rattle.capture_audit.specs.Causes.{behind, Obeys, all_of, BreaksFirst, YesCause, NoCause}

-- ---- the datagrams of a frame

obeys_by : (k b : Known) (d : Sent) (ds : List Sent) (r : Option Rule) → rule_at k d ≡ r → (judged (met k d) ds ≡ Ok b → Obeys (met k d) ds × (b ≡ behind (met k d) ds))
    → unless r (judged (met k d) ds) ≡ Ok b → Obeys k (d ∷ ds) × (b ≡ behind k (d ∷ ds))
obeys_by k b d ds (Some rule) e more is = absurd cc
obeys_by k b d ds None e more is = let m = more is in ((e, m.0), m.1)

pub obeys_of : (k b : Known) (ds : List Sent) → judged k ds ≡ Ok b → Obeys k ds × (b ≡ behind k ds)
obeys_of k b [] is = (tt, cc)
obeys_of k b (d ∷ ds) is = obeys_by k b d ds (rule_at k d) refl (obeys_of (met k d) b ds) is

pub judged_of : (k : Known) (ds : List Sent) → Obeys k ds → judged k ds ≡ Ok (behind k ds)
judged_of k [] o = refl
judged_of k (d ∷ ds) o = rw o.0 (judged_of (met k d) ds o.1)

-- the first datagram of a frame that breaks a rule
record Broken (k : Known) (ds : List Sent) (rule : Rule) : Type 0 where
  pub front : List Sent
  pub datagram : Sent
  pub rest : List Sent
  pub datagrams : ds ≡ front ++ datagram ∷ rest
  pub obeyed : Obeys k front
  pub breaks : rule_at (behind k front) datagram ≡ Some rule

broken_by : (k : Known) (d : Sent) (ds : List Sent) (rule : Rule) (r : Option Rule) → rule_at k d ≡ r → (judged (met k d) ds ≡ Err rule → Broken (met k d) ds rule)
    → unless r (judged (met k d) ds) ≡ Err rule → Broken k (d ∷ ds) rule
broken_by k d ds rule (Some first) e more is =
    let same : first ≡ rule = cc in
    record { front = []; datagram = d; rest = ds; datagrams = refl; obeyed = tt; breaks = rw same at e }
broken_by k d ds rule None e more is =
    let m = more is in
    record { front = d ∷ m.front; datagram = m.datagram; rest = m.rest; datagrams = ap (λ xs. d ∷ xs) m.datagrams; obeyed = (e, m.obeyed); breaks = m.breaks }

broken_of : (k : Known) (ds : List Sent) (rule : Rule) → judged k ds ≡ Err rule → Broken k ds rule
broken_of k [] rule is = absurd cc
broken_of k (d ∷ ds) rule is = broken_by k d ds rule (rule_at k d) refl (broken_of (met k d) ds rule) is

pub judged_broken : (k : Known) (front : List Sent) (d : Sent) (rest : List Sent) (rule : Rule) → Obeys k front → rule_at (behind k front) d ≡ Some rule → judged k (front ++ d ∷ rest) ≡ Err rule
judged_broken k [] d rest rule o breaks = rw breaks refl
judged_broken k (x ∷ front) d rest rule o breaks = rw o.0 (judged_broken (met k x) front d rest rule o.1 breaks)

-- ---- one behind the other

pub behind-append : (k : Known) (xs ys : List Sent) → behind k (xs ++ ys) ≡ behind (behind k xs) ys
behind-append k [] ys = refl
behind-append k (x ∷ xs) ys = behind-append (met k x) xs ys

pub obeys-append : (k : Known) (xs ys : List Sent) → Obeys k xs → Obeys (behind k xs) ys → Obeys k (xs ++ ys)
obeys-append k [] ys o p = p
obeys-append k (x ∷ xs) ys o p = (o.0, obeys-append (met k x) xs ys o.1 p)

pub obeys_front : (k : Known) (xs ys : List Sent) → Obeys k (xs ++ ys) → Obeys k xs
obeys_front k [] ys o = tt
obeys_front k (x ∷ xs) ys o = (o.0, obeys_front (met k x) xs ys o.1)

pub obeys_rest : (k : Known) (xs ys : List Sent) → Obeys k (xs ++ ys) → Obeys (behind k xs) ys
obeys_rest k [] ys o = o
obeys_rest k (x ∷ xs) ys o = obeys_rest (met k x) xs ys o.1

-- ---- exchanges

yes_by : (k : Known) (x : Exchange) (xs : List Exchange) (stations : List StationAudit) (r : Result Known Rule) → judged k x.datagrams ≡ r
    → ((b : Known) → judged_all b xs ≡ Yes stations → Obeys b (all_of xs) × (stations ≡ (behind b (all_of xs)).stations))
    → verdict_by r x.packet (judged_all (kept k r) xs) ≡ Yes stations → Obeys k (all_of (x ∷ xs)) × (stations ≡ (behind k (all_of (x ∷ xs))).stations)
yes_by k x xs stations (Err rule) e more is = absurd cc
yes_by k x xs stations (Ok b) e more is =
    let own = obeys_of k b x.datagrams e in
    let m = more b is in (
      obeys-append k x.datagrams (all_of xs) own.0 (subst (λ c. Obeys c (all_of xs)) own.1 m.0),
      m.1 ∙ ap (λ c. (behind c (all_of xs)).stations) own.1 ∙ ap (λ (c : Known). c.stations) (sym (behind-append k x.datagrams (all_of xs))),
    )

yes_only : (k : Known) (xs : List Exchange) (stations : List StationAudit) → judged_all k xs ≡ Yes stations → Obeys k (all_of xs) × (stations ≡ (behind k (all_of xs)).stations)
yes_only k [] stations is = (tt, cc)
yes_only k (x ∷ xs) stations is = yes_by k x xs stations (judged k x.datagrams) refl (λ b. yes_only b xs stations) is

yes_always : (k : Known) (xs : List Exchange) → Obeys k (all_of xs) → judged_all k xs ≡ Yes (behind k (all_of xs)).stations
yes_always k [] o = refl
yes_always k (x ∷ xs) o =
    let own = judged_of k x.datagrams (obeys_front k x.datagrams (all_of xs) o) in
    ap (λ r. verdict_by r x.packet (judged_all (kept k r) xs)) own
    ∙ yes_always (behind k x.datagrams) xs (obeys_rest k x.datagrams (all_of xs) o)
    ∙ ap (λ (c : Known). Yes c.stations) (sym (behind-append k x.datagrams (all_of xs)))

no_by : (k : Known) (x : Exchange) (xs : List Exchange) (rule packet : ℕ) (r : Result Known Rule) → judged k x.datagrams ≡ r
    → ((b : Known) → judged_all b xs ≡ No rule packet → BreaksFirst b xs rule packet)
    → verdict_by r x.packet (judged_all (kept k r) xs) ≡ No rule packet → BreaksFirst k (x ∷ xs) rule packet
no_by k x xs rule packet (Err broken) e more is =
    let b = broken_of k x.datagrams broken e in
    record {
      before = [];
      exchange = x;
      after = xs;
      front = b.front;
      datagram = b.datagram;
      rest = b.rest;
      broken = broken;
      exchanges = refl;
      datagrams = b.datagrams;
      obeyed = b.obeyed;
      breaks = b.breaks;
      number = cc;
      place = cc;
    }
no_by k x xs rule packet (Ok b) e more is =
    let own = obeys_of k b x.datagrams e in
    let m = more b is in
    let all : all_of (x ∷ m.before) ++ m.front ≡ x.datagrams ++ (all_of m.before ++ m.front) = append_assoc x.datagrams (all_of m.before) m.front in
    let known : behind b (all_of m.before ++ m.front) ≡ behind k (all_of (x ∷ m.before) ++ m.front) =
    ap (λ c. behind c (all_of m.before ++ m.front)) own.1 ∙ sym (behind-append k x.datagrams (all_of m.before ++ m.front)) ∙ ap (behind k) (sym all) in
    record {
      before = x ∷ m.before;
      exchange = m.exchange;
      after = m.after;
      front = m.front;
      datagram = m.datagram;
      rest = m.rest;
      broken = m.broken;
      exchanges = ap (λ ys. x ∷ ys) m.exchanges;
      datagrams = m.datagrams;
      obeyed = subst (Obeys k) (sym all) (obeys-append k x.datagrams (all_of m.before ++ m.front) own.0 (subst (λ c. Obeys c (all_of m.before ++ m.front)) own.1 m.obeyed));
      breaks = ap (λ c. rule_at c m.datagram) (sym known) ∙ m.breaks;
      number = m.number;
      place = m.place;
    }

no_only : (k : Known) (xs : List Exchange) (rule packet : ℕ) → judged_all k xs ≡ No rule packet → BreaksFirst k xs rule packet
no_only k [] rule packet is = absurd cc
no_only k (x ∷ xs) rule packet is = no_by k x xs rule packet (judged k x.datagrams) refl (λ b. no_only b xs rule packet) is

no_at : (k : Known) (before : List Exchange) (x : Exchange) (after : List Exchange) (front : List Sent) (d : Sent) (rest : List Sent) (rule : Rule) → x.datagrams ≡ front ++ d ∷ rest → Obeys k (all_of before ++ front)
    → rule_at (behind k (all_of before ++ front)) d ≡ Some rule → judged_all k (before ++ x ∷ after) ≡ No (number_of rule) x.packet
no_at k [] x after front d rest rule datagrams o breaks =
    ap (λ r. verdict_by r x.packet (judged_all (kept k r) after)) (ap (judged k) datagrams ∙ judged_broken k front d rest rule o breaks)
no_at k (y ∷ before) x after front d rest rule datagrams o breaks =
    let all : all_of (y ∷ before) ++ front ≡ y.datagrams ++ (all_of before ++ front) = append_assoc y.datagrams (all_of before) front in
    let both = subst (Obeys k) all o in
    let known : behind k (all_of (y ∷ before) ++ front) ≡ behind (behind k y.datagrams) (all_of before ++ front) = ap (behind k) all ∙ behind-append k y.datagrams (all_of before ++ front) in
    ap (λ r. verdict_by r y.packet (judged_all (kept k r) (before ++ x ∷ after))) (judged_of k y.datagrams (obeys_front k y.datagrams (all_of before ++ front) both))
    ∙ no_at (behind k y.datagrams) before x after front d rest rule datagrams (obeys_rest k y.datagrams (all_of before ++ front) both) (ap (λ c. rule_at c d) (sym known) ∙ breaks)

no_always : (k : Known) (xs : List Exchange) (rule packet : ℕ) → BreaksFirst k xs rule packet → judged_all k xs ≡ No rule packet
no_always k xs rule packet b =
    ap (judged_all k) b.exchanges ∙ no_at k b.before b.exchange b.after b.front b.datagram b.rest b.broken b.datagrams b.obeyed b.breaks ∙ (λ i. No (sym b.number i) (sym b.place i))

pub yes_cause : (k : Known) (xs : List Exchange) → YesCause k xs (judged_all k xs)
yes_cause k xs = record { only = yes_only k xs; always = yes_always k xs }

pub no_cause : (k : Known) (xs : List Exchange) → NoCause k xs (judged_all k xs)
no_cause k xs = record { only = no_only k xs; always = no_always k xs }
