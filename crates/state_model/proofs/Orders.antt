-- The longest first part of what came into hand of which just so many count.
use Rattle.std.proofs.Common.{◌≡◌, ℕ, zero, suc, ◌-◌, ◌≤◌, ◌&&◌, Bool, true, false, List, [], ◌∷◌, ◌++◌, take, refl, ap, sym, ◌∙◌, arith, if◌then◌else◌}
use Rattle.segment_model.specs.of_exchange_model.Prefix.{IsPrefixOf}
use Rattle.state_model.specs.Order.{Begun, count_of, is_zero, one_less, done, services_of, Scripted, Scripted.nothing, Scripted.mails, Scripted.state}

module _ {M Q : Type 0} where
  -- all of a first part is done of which no more count
  pub done_front : (k : ℕ) (front back : List (Begun M Q)) → count_of front ≤ k → done k (front ++ back) ≡ front ++ done (k - count_of front) back
  done_front k [] back le = ap (λ n. done n back) (let e : k ≡ k - 0 = omega arith in e)
  done_front k (b ∷ front) back le = go b.counts k le (λ n f. done_front n front back f)
    where
      go : (c : Bool) (k : ℕ) → (if c then suc (count_of front) else count_of front) ≤ k →
          ((n : ℕ) → count_of front ≤ n → done n (front ++ back) ≡ front ++ done (n - count_of front) back) →
          (if c && is_zero k then [] else b ∷ done (if c then one_less k else k) (front ++ back)) ≡ b ∷ (front ++ done (k - (if c then suc (count_of front) else count_of front)) back)
      go false k le more = ap (λ l. b ∷ l) (more k le)
      go true zero le more = absurd (omega (arith, le))
      go true (suc k) le more = ap (λ l. b ∷ l) (more k (let f : count_of front ≤ k = omega (arith, le) in f)
          ∙ ap (λ n. front ++ done n back) (let f : k - count_of front ≡ suc k - suc (count_of front) = omega arith in f))

  -- it is a first part of all
  pub done_prefix : (k : ℕ) (bs : List (Begun M Q)) → IsPrefixOf (done k bs) bs
  done_prefix k [] = ([], refl)
  done_prefix k (b ∷ bs) = go (b.counts && is_zero k) (done_prefix (if b.counts then one_less k else k) bs)
    where
      go : (stop : Bool) → IsPrefixOf (done (if b.counts then one_less k else k) bs) bs → IsPrefixOf (if stop then [] else b ∷ done (if b.counts then one_less k else k) bs) (b ∷ bs)
      go true p = (b ∷ bs, refl)
      go false p = (p.0, ap (λ l. b ∷ l) p.1)

  -- just so many of it count
  pub done_count : (k : ℕ) (bs : List (Begun M Q)) → k ≤ count_of bs → count_of (done k bs) ≡ k
  done_count k [] le = omega (arith, le)
  done_count k (b ∷ bs) le = go b.counts refl k le (λ n f. done_count n bs f)
    where
      go : (c : Bool) → b.counts ≡ c → (k : ℕ) → k ≤ (if c then suc (count_of bs) else count_of bs) → ((n : ℕ) → n ≤ count_of bs → count_of (done n bs) ≡ n) →
          count_of (if c && is_zero k then [] else b ∷ done (if c then one_less k else k) bs) ≡ k
      go false e k le more = ap (λ c. if c then suc (count_of (done k bs)) else count_of (done k bs)) e ∙ more k le
      go true e zero le more = refl
      go true e (suc k) le more = ap (λ c. if c then suc (count_of (done k bs)) else count_of (done k bs)) e ∙
          ap suc (more k (let f : k ≤ count_of bs = omega (arith, le) in f))

  -- and no longer first part has that
  pub done_longest : (k : ℕ) (bs p : List (Begun M Q)) → IsPrefixOf p bs → count_of p ≡ k → IsPrefixOf p (done k bs)
  done_longest k bs p is e = (done (k - count_of p) is.0, sym (done_front k p is.0 (let f : count_of p ≤ k = omega (arith, e) in f)) ∙ ap (done k) is.1)

  -- of scripted tasks it has just the first services by mails
  pub services_done : (k : ℕ) (bs : List (Begun M Q)) → Scripted bs → services_of (done k bs) ≡ take k (services_of bs)
  services_done k bs nothing = nil k
    where
      nil : (k : ℕ) → [] ≡ take {A = Q} k []
      nil zero = refl
      nil (suc k) = refl
  services_done zero b (mails q bs s) = refl
  services_done (suc k) b (mails q bs s) = ap (λ l. q ∷ l) (services_done k bs s)
  services_done k b (state target bs s) = services_done k bs s
