-- The mails of a client as the requests that go over a gateway, and what is given for them.
use Rattle.std.proofs.Common.{◌≡◌, ℕ, suc, ◌+◌, ◌≤◌, ◌<◌, List, [], ◌∷◌, ◌++◌, length, map, Bool, Some, refl, sym, ap, ◌∙◌, arith, append_assoc}
use Rattle.slave_model.specs.of_exchange_model.Exchange.{after, given, plain}
use Rattle.slave_model.specs.of_exchange_model.Lifted.{EachOf}
use Rattle.slave_model.proofs.of_exchange_model.Words.{plain-append}
use Rattle.slave_model.proofs.of_exchange_model.Lifting.{map_append}
use Rattle.gateway_tool.specs.of_link_model.Counters.{counter_of}
use Rattle.slave_model.specs.of_mailbox_mail.declared.mail.Mail.{Mail}
use Rattle.gateway_tool.specs.Rule.{Call, grams_behind}
use Rattle.tool_law.specs.Gives.{to_asker, gives, posted}
use Rattle.tool_law.specs.Answered.{bare}
use Rattle.tool_law.proofs.Framed.{gram_reads, counter_small}

-- a mail as the request of this number
abbrev pub stamp : Call → ℕ → Mail → Mail
stamp c n m = record m { address = c.station; counter = counter_of n }

-- mails as requests, numbered behind so many
abbrev pub stamps : Call → ℕ → List Mail → List Mail
stamps c n [] = []
stamps c n (m ∷ ms) = stamp c (suc n) m ∷ stamps c (suc n) ms

pub stamps-append : (c : Call) (n : ℕ) (xs ys : List Mail) → stamps c n (xs ++ ys) ≡ stamps c n xs ++ stamps c (n + length xs) ys
stamps-append c n [] ys = ap (λ (k : ℕ). stamps c k ys) (let e : n ≡ n + 0 = omega arith in e)
stamps-append c n (x ∷ xs) ys =
    ap (λ (l : List Mail). stamp c (suc n) x ∷ l) (stamps-append c (suc n) xs ys)
    ∙ ap (λ (k : ℕ). stamp c (suc n) x ∷ (stamps c (suc n) xs ++ stamps c k ys)) (let e : suc n + length xs ≡ n + length (x ∷ xs) = omega arith in e)

-- what a datagram holds is the request that it is the datagram of
pub posted_stamps : (c : Call) (n : ℕ) (ms : List Mail) → c.station < 65536 → EachOf (λ (m : Mail). length m.body.items ≤ 1480) ms → posted (grams_behind c n ms) ≡ map Some (stamps c n ms)
posted_stamps c n [] s short = refl
posted_stamps c n (m ∷ ms) s short = λ i. gram_reads (stamp c (suc n) m) s (counter_small (suc n)) short.0 i ∷ posted_stamps c (suc n) ms s short.1 i

module _ {V : Type 0} (serve : V → Mail → V × List Mail) (emission : Mail → Bool) where
  pub gives-append : (v : V) (xs ys : List Mail) → gives serve emission v (xs ++ ys) ≡ gives serve emission v xs ++ gives serve emission (after serve v xs) ys
  gives-append v [] ys = refl
  gives-append v (x ∷ xs) ys =
      let one = map (to_asker x) (plain emission (serve v x).1) in
      ap (λ (l : List Mail). one ++ l) (gives-append (serve v x).0 xs ys) ∙ sym (append_assoc one (gives serve emission (serve v x).0 xs) (gives serve emission (after serve (serve v x).0 xs) ys))

  map_bare : (request : Mail) (ms : List Mail) → map bare (map (to_asker request) ms) ≡ map bare ms
  map_bare request [] = refl
  map_bare request (m ∷ ms) = ap (λ (l : List Mail). bare m ∷ l) (map_bare request ms)

  module _ (blind : (w : V) (m : Mail) (address counter : ℕ) → serve w (record m { address = address; counter = counter }) ≡ serve w m) (c : Call) where
    -- a server takes requests as it takes the mails
    pub after_stamps : (v : V) (n : ℕ) (ms : List Mail) → after serve v (stamps c n ms) ≡ after serve v ms
    after_stamps v n [] = refl
    after_stamps v n (m ∷ ms) =
        ap (λ (w : V). after serve w (stamps c (suc n) ms)) (ap (λ (z : V × List Mail). z.0) (blind v m c.station (counter_of (suc n)))) ∙ after_stamps (serve v m).0 (suc n) ms

    -- and gives what it gives for them, but for addresses and counters
    pub bare_gives : (v : V) (n : ℕ) (ms : List Mail) → map bare (gives serve emission v (stamps c n ms)) ≡ map bare (plain emission (given serve v ms))
    bare_gives v n [] = refl
    bare_gives v n (m ∷ ms) =
        let z = blind v m c.station (counter_of (suc n)) in
        let request = stamp c (suc n) m in
        map_append bare (map (to_asker request) (plain emission (serve v request).1)) (gives serve emission (serve v request).0 (stamps c (suc n) ms))
        ∙ (λ i. map_bare request (plain emission (serve v request).1) i ++ map bare (gives serve emission (serve v request).0 (stamps c (suc n) ms)))
        ∙ (λ i. map bare (plain emission (z i).1) ++ map bare (gives serve emission (z i).0 (stamps c (suc n) ms)))
        ∙ ap (λ (l : List Mail). map bare (plain emission (serve v m).1) ++ l) (bare_gives (serve v m).0 (suc n) ms)
        ∙ sym (ap (map bare) (plain-append emission (serve v m).1 (given serve (serve v m).0 ms)) ∙ map_append bare (plain emission (serve v m).1) (plain emission (given serve (serve v m).0 ms)))

    -- what is given for one request more
    pub gives_one : (v : V) (p : List Mail) (m : Mail) (r : List Mail) →
        gives serve emission v (stamps c 0 (p ++ m ∷ r)) ≡ gives serve emission v (stamps c 0 p) ++
        (map (to_asker (stamp c (suc (length p)) m)) (plain emission (serve (after serve v p) m).1) ++ gives serve emission (serve (after serve v p) m).0 (stamps c (suc (length p)) r))
    gives_one v p m r =
        let w = after_stamps v 0 p in
        let z = blind (after serve v p) m c.station (counter_of (suc (length p))) in
        ap (gives serve emission v) (stamps-append c 0 p (m ∷ r))
        ∙ ap (λ (k : ℕ). gives serve emission v (stamps c 0 p ++ stamps c k (m ∷ r))) (let e : 0 + length p ≡ length p = omega arith in e)
        ∙ gives-append v (stamps c 0 p) (stamps c (length p) (m ∷ r))
        ∙ ap (λ (u : V). gives serve emission v (stamps c 0 p) ++ gives serve emission u (stamps c (length p) (m ∷ r))) w
        ∙ ap (λ (y : V × List Mail). gives serve emission v (stamps c 0 p) ++ (map (to_asker (stamp c (suc (length p)) m)) (plain emission y.1) ++ gives serve emission y.0 (stamps c (suc (length p)) r))) z
