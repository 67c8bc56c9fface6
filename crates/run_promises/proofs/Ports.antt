-- THE PORTS OF A PLAN'S SLAVES, one by one: what was forwarded to all of them, and what came in there.
use Rattle.std.proofs.Common.{◌≡◌, ℕ, zero, suc, ◌+◌, ◌-◌, ◌*◌, ◌<◌, ◌≤◌, ◌==◌, Bool, true, false, cond, All, List, [], ◌∷◌, ◌++◌, length, refl, sym, ap, ◌∙◌, subst, arith, if◌then◌else◌}
use Rattle.std.specs.Prelude.{count_by}
use Rattle.std.proofs.lemmas.Bool.{eqb-false}
use Rattle.std.proofs.lemmas.List.Elements.{All-head, All-tail}
use Rattle.std.proofs.lemmas.List.Sums.{sum_by-cons}
use Rattle.std.proofs.lemmas.Nat.{mul-le}
use Rattle.arrayvec.specs.ArrayVec.{ArrayVec}
use Rattle.packets_heard.specs.of_eoe_switch.declared.switching.SwitchEvent.{SwitchEvent}
use Rattle.packets_heard.specs.of_eoe_switch.declared.switching.SwitchEvent.TheVariants.{Arrive, Begun, Down}
use Rattle.packets_heard.specs.of_master_node.Happened.{arrived_by, arrivals_at}
use Rattle.packets_heard.specs.of_master_node.Ports.{IsAtPort}
use Rattle.served_rings.specs.of_run_work.Flows.{forwards_work, slaves_work, entry_work, entries_work, AllComeAt}
use Rattle.served_rings.specs.of_run_work.Packets.{waiting_work, queue_work}
use Rattle.packets_heard.specs.Over.{forwarded_to}
use Rattle.packets_heard.specs.of_segment_plan.declared.slave.SlaveSpec.{SlaveSpec}

-- the sum over the ports of slaves, behind this one
abbrev pub ports_sum : (ℕ → ℕ) → ℕ → List SlaveSpec → ℕ
ports_sum f last [] = 0
ports_sum f last (s ∷ ss) = if s.eoe then f (last + 1) + ports_sum f (last + 1) ss else ports_sum f last ss

pub eoe_count : (s : SlaveSpec) (ss : List SlaveSpec) → count_by (λ (s : SlaveSpec). s.eoe) (s ∷ ss) ≡ (if s.eoe then 1 else 0) + count_by (λ (s : SlaveSpec). s.eoe) ss
eoe_count s ss = sum_by-cons (λ (s : SlaveSpec). cond s.eoe 1 0) s ss ∙ go s.eoe
  where
    go : (b : Bool) → cond b 1 0 + count_by (λ (s : SlaveSpec). s.eoe) ss ≡ (if b then 1 else 0) + count_by (λ (s : SlaveSpec). s.eoe) ss
    go true = refl
    go false = refl

sums_add : (f g h : ℕ → ℕ) → ((p : ℕ) → f p ≡ g p + h p) → (last : ℕ) (ss : List SlaveSpec) → ports_sum f last ss ≡ ports_sum g last ss + ports_sum h last ss
sums_add f g h each last [] = omega arith
sums_add f g h each last (s ∷ ss) = go s.eoe (sums_add f g h each (last + 1) ss) (sums_add f g h each last ss)
  where
    go : (b : Bool) → ports_sum f (last + 1) ss ≡ ports_sum g (last + 1) ss + ports_sum h (last + 1) ss → ports_sum f last ss ≡ ports_sum g last ss + ports_sum h last ss →
        (if b then f (last + 1) + ports_sum f (last + 1) ss else ports_sum f last ss)
        ≡ (if b then g (last + 1) + ports_sum g (last + 1) ss else ports_sum g last ss) + (if b then h (last + 1) + ports_sum h (last + 1) ss else ports_sum h last ss)
    go true more same = omega (arith, each (last + 1), more)
    go false more same = same

-- ---- what was forwarded
abbrev first_ports : ℕ → ℕ → List (List (ArrayVec ℕ)) → ℕ
first_ports n zero fs = 0
first_ports n (suc k) [] = 0
first_ports n (suc k) (f ∷ fs) = queue_work n f + first_ports n k fs

first_more : (n k : ℕ) (fs : List (List (ArrayVec ℕ))) → first_ports n (suc k) fs ≡ first_ports n k fs + queue_work n (forwarded_to k fs)
first_more n zero [] = omega arith
first_more n zero (f ∷ fs) = omega arith
first_more n (suc k) [] = omega arith
first_more n (suc k) (f ∷ fs) = omega (arith, first_more n k fs)

first_few : (n k : ℕ) (fs : List (List (ArrayVec ℕ))) → first_ports n k fs ≤ forwards_work n fs
first_few n zero fs = omega arith
first_few n (suc k) [] = omega arith
first_few n (suc k) (f ∷ fs) = omega (arith, first_few n k fs)

sum_first : (n : ℕ) (fs : List (List (ArrayVec ℕ))) (last : ℕ) (ss : List SlaveSpec) → first_ports n (suc last) fs + ports_sum (λ p. queue_work n (forwarded_to p fs)) last ss ≤ forwards_work n fs
sum_first n fs last [] = omega (arith, first_few n (suc last) fs)
sum_first n fs last (s ∷ ss) = go s.eoe (sum_first n fs (suc last) ss) (sum_first n fs last ss)
  where
    g : ℕ → ℕ
    g p = queue_work n (forwarded_to p fs)

    next : suc last ≡ last + 1
    next = omega arith

    summed : (a b c d e f : ℕ) → a + b ≤ f → a ≡ c + d → c + (d + b) ≤ f
    summed a b c d e f l is = omega (arith, l, is)

    go : (b : Bool) → first_ports n (suc (suc last)) fs + ports_sum g (suc last) ss ≤ forwards_work n fs → first_ports n (suc last) fs + ports_sum g last ss ≤ forwards_work n fs →
        first_ports n (suc last) fs + (if b then g (last + 1) + ports_sum g (last + 1) ss else ports_sum g last ss) ≤ forwards_work n fs
    go true more same =
        let rest = subst (λ k. first_ports n (suc k) fs + ports_sum g k ss ≤ forwards_work n fs) next more in
        let one = subst (λ k. first_ports n (suc k) fs ≡ first_ports n (suc last) fs + g k) next (first_more n (suc last) fs) in
        summed (first_ports n (suc (last + 1)) fs) (ports_sum g (last + 1) ss) (first_ports n (suc last) fs) (g (last + 1)) 0 (forwards_work n fs) rest one
    go false more same = same

pub forwards_within : (n : ℕ) (fs : List (List (ArrayVec ℕ))) (ss : List SlaveSpec) → ports_sum (λ p. queue_work n (forwarded_to p fs)) 0 ss ≤ slaves_work n fs
forwards_within n [] ss = omega (arith, sum_first n [] 0 ss)
forwards_within n (host ∷ fs) ss = omega (arith, sum_first n (host ∷ fs) 0 ss)

-- ---- what came in
queue_both : (n : ℕ) (xs ys : List (ArrayVec ℕ)) → queue_work n (xs ++ ys) ≡ queue_work n xs + queue_work n ys
queue_both n [] ys = omega arith
queue_both n (x ∷ xs) ys = omega (arith, queue_both n xs ys)

pub queue_append : (n : ℕ) (xs ys : List (ArrayVec ℕ)) → queue_work n (xs ++ ys) ≡ queue_work n xs + queue_work n ys
queue_append n xs ys = queue_both n xs ys

abbrev at_port : ℕ → List SwitchEvent → ℕ → ℕ
at_port n es p = queue_work n (arrivals_at p es)

-- a packet that came in at a slave's port
one_at : (n from : ℕ) (packet : ArrayVec ℕ) (last : ℕ) (ss : List SlaveSpec) → last < from → from < last + 1 + count_by (λ (s : SlaveSpec). s.eoe) ss →
    waiting_work n packet.items ≤ ports_sum (λ p. queue_work n (arrived_by p (Arrive from packet))) last ss
one_at n from packet last [] l m = absurd (empty last from l m)
  where
    empty : (last from : ℕ) → last < from → from < last + 1 + 0 → ⊥
    empty last from l m = omega (arith, l, m)
one_at n from packet last (s ∷ ss) l m = go s.eoe refl (λ l' m'. one_at n from packet (last + 1) ss l' m') (λ m'. one_at n from packet last ss l m')
  where
    w : ℕ
    w = waiting_work n packet.items

    f : ℕ → ℕ
    f p = queue_work n (arrived_by p (Arrive from packet))

    less : (w a b : ℕ) → w + 0 ≡ a → w ≤ a + b
    less w a b e = omega (arith, e)

    more : (w a b : ℕ) → w ≤ b → w ≤ a + b
    more w a b e = omega (arith, e)

    beyond : (a b : ℕ) → b < a → (a ≡ b + 1 → ⊥) → b + 1 < a
    beyond a b l other = omega (arith, l, other)

    within : (a b c d : ℕ) → a < b + 1 + d → d ≡ 1 + c → a < b + 1 + 1 + c
    within a b c d l e = omega (arith, l, e)

    below : (a b c d : ℕ) → a < b + 1 + d → d ≡ 0 + c → a < b + 1 + c
    below a b c d l e = omega (arith, l, e)

    count : (e : Bool) → s.eoe ≡ e → count_by (λ (s : SlaveSpec). s.eoe) (s ∷ ss) ≡ (if e then 1 else 0) + count_by (λ (s : SlaveSpec). s.eoe) ss
    count e is = eoe_count s ss ∙ ap (λ (b : Bool). (if b then 1 else 0) + count_by (λ (s : SlaveSpec). s.eoe) ss) is

    After : Type 0
    After = last + 1 < from → from < last + 1 + 1 + count_by (λ (s : SlaveSpec). s.eoe) ss → w ≤ ports_sum f (last + 1) ss

    Same : Type 0
    Same = from < last + 1 + count_by (λ (s : SlaveSpec). s.eoe) ss → w ≤ ports_sum f last ss

    here : (b : Bool) → s.eoe ≡ true → (from == last + 1) ≡ b → After → w ≤ f (last + 1) + ports_sum f (last + 1) ss
    here true is e after = less w (f (last + 1)) (ports_sum f (last + 1) ss) (sym (ap (λ (b : Bool). queue_work n (if b then packet ∷ [] else [])) e))
    here false is e after =
        more w (f (last + 1)) (ports_sum f (last + 1) ss) (after (beyond from last l (eqb-false from (last + 1) e)) (within from last (count_by (λ (s : SlaveSpec). s.eoe) ss) (count_by (λ (s : SlaveSpec). s.eoe) (s ∷ ss)) m (count true is)))

    go : (b : Bool) → s.eoe ≡ b → After → Same → w ≤ (if b then f (last + 1) + ports_sum f (last + 1) ss else ports_sum f last ss)
    go true e after same = here (from == last + 1) e refl after
    go false e after same = same (below from last (count_by (λ (s : SlaveSpec). s.eoe) ss) (count_by (λ (s : SlaveSpec). s.eoe) (s ∷ ss)) m (count false e))

some_port : (from : ℕ) → (from == 0) ≡ false → 1 ≤ from
some_port zero e = absurd (cc)
some_port (suc k) e = omega arith

-- what a packet comes to that came in, of a slave at so many others
abbrev entry_by : ℕ → ℕ → SwitchEvent → ℕ
entry_by n m (Arrive port packet) = (if port == 0 then n else m) * waiting_work n packet.items
entry_by n m (Begun port) = 0
entry_by n m (Down port) = 0

abbrev entries_by : ℕ → ℕ → List SwitchEvent → ℕ
entries_by n m [] = 0
entries_by n m (e ∷ es) = entry_by n m e + entries_by n m es

same_entries : (n : ℕ) (es : List SwitchEvent) → entries_work n es ≡ entries_by n (n - 1) es
same_entries n [] = refl
same_entries n (e ∷ es) = (λ i. one e i + same_entries n es i)
  where
    one : (e : SwitchEvent) → entry_work n e ≡ entry_by n (n - 1) e
    one (Arrive port packet) = refl
    one (Begun port) = refl
    one (Down port) = refl

slave_one : (n m w s : ℕ) → m * w ≤ m * s → m * w ≤ n * 0 + m * s
slave_one n m w s l = omega (arith, l)

one_entry : (n m : ℕ) (ss : List SlaveSpec) (e : SwitchEvent) → IsAtPort (1 + count_by (λ (s : SlaveSpec). s.eoe) ss) e →
    entry_by n m e ≤ n * queue_work n (arrived_by 0 e) + m * ports_sum (λ p. queue_work n (arrived_by p e)) 0 ss
one_entry n m ss (Begun port) at = omega arith
one_entry n m ss (Down port) at = omega arith
one_entry n m ss (Arrive from packet) at = go (from == 0) refl
  where
    slaves : ℕ
    slaves = ports_sum (λ p. queue_work n (arrived_by p (Arrive from packet))) 0 ss

    zeros : (k : ℕ) → n * waiting_work n packet.items ≤ n * (waiting_work n packet.items + 0) + m * k
    zeros k = omega arith

    go : (b : Bool) → (from == 0) ≡ b → (if b then n else m) * waiting_work n packet.items ≤ n * queue_work n (if b then packet ∷ [] else []) + m * slaves
    go true e = zeros slaves
    go false e =
        let one = one_at n from packet 0 ss (some_port from e) (omega (arith, at.0)) in
        slave_one n m (waiting_work n packet.items) slaves (mul-le m (waiting_work n packet.items) m slaves (omega arith) one)

both_parts : (n m x y a b c d p q : ℕ) → x ≤ n * a + m * c → y ≤ n * b + m * d → p ≡ a + b → q ≡ c + d → x + y ≤ n * p + m * q
both_parts n m x y a b c d p q l k e f =
    let whole : n * (a + b) + m * (c + d) ≡ (n * a + m * c) + (n * b + m * d) = omega arith in
    let first : n * p ≡ n * (a + b) = ap (λ z. n * z) e in
    let second : m * q ≡ m * (c + d) = ap (λ z. m * z) f in
    omega (arith, l, k, whole, first, second)

entries_least : (n m : ℕ) (ss : List SlaveSpec) (es : List SwitchEvent) → All (IsAtPort (1 + count_by (λ (s : SlaveSpec). s.eoe) ss)) es →
    entries_by n m es ≤ n * queue_work n (arrivals_at 0 es) + m * ports_sum (λ p. queue_work n (arrivals_at p es)) 0 ss
entries_least n m ss [] at = omega arith
entries_least n m ss (e ∷ es) at =
    let many = 1 + count_by (λ (s : SlaveSpec). s.eoe) ss in
    both_parts n m (entry_by n m e) (entries_by n m es) (queue_work n (arrived_by 0 e)) (queue_work n (arrivals_at 0 es)) (ports_sum (λ p. queue_work n (arrived_by p e)) 0 ss) (ports_sum (λ p. queue_work n (arrivals_at p es)) 0 ss)
    (queue_work n (arrivals_at 0 (e ∷ es))) (ports_sum (λ p. queue_work n (arrivals_at p (e ∷ es))) 0 ss)
    (one_entry n m ss e (All-head (IsAtPort many) e es at)) (entries_least n m ss es (All-tail (IsAtPort many) e es at))
    (queue_both n (arrived_by 0 e) (arrivals_at 0 es))
    (sums_add (λ p. queue_work n (arrivals_at p (e ∷ es))) (λ p. queue_work n (arrived_by p e)) (λ p. queue_work n (arrivals_at p es)) (λ p. queue_both n (arrived_by p e) (arrivals_at p es)) 0 ss)

pub entries_within : (n : ℕ) (ss : List SlaveSpec) (es : List SwitchEvent) → All (IsAtPort (1 + count_by (λ (s : SlaveSpec). s.eoe) ss)) es →
    entries_work n es ≤ n * queue_work n (arrivals_at 0 es) + (n - 1) * ports_sum (λ p. queue_work n (arrivals_at p es)) 0 ss
entries_within n ss es at = subst (λ z. z ≤ n * queue_work n (arrivals_at 0 es) + (n - 1) * ports_sum (λ p. queue_work n (arrivals_at p es)) 0 ss) (sym (same_entries n es)) (entries_least n (n - 1) ss es at)

pub come_at : (many : ℕ) (es : List SwitchEvent) → All (IsAtPort many) es → AllComeAt many es
come_at many [] at = tt
come_at many (e ∷ es) at = (one e (All-head (IsAtPort many) e es at), come_at many es (All-tail (IsAtPort many) e es at))
  where
    one : (e : SwitchEvent) → IsAtPort many e → Rattle.served_rings.specs.of_run_work.Flows.ComesAt many e
    one (Arrive port packet) at = at.0
    one (Begun port) at = tt
    one (Down port) at = tt

-- no more ports than slaves, and the host's
pub few_ports : (ss : List SlaveSpec) → count_by (λ (s : SlaveSpec). s.eoe) ss ≤ length ss
few_ports [] = omega arith
few_ports (s ∷ ss) = omega (arith, eoe_count s ss, few_ports ss, one s.eoe)
  where
    one : (b : Bool) → (if b then 1 else 0) ≤ 1
    one true = omega arith
    one false = omega arith
