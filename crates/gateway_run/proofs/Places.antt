-- WHAT A STEP TELLS OF ALL SLAVES, place by place, leaves the requests of each as its own events do, and makes owed by its datagrams what those do.
use Rattle.std.proofs.Common.{◌≡◌, ℕ, List, [], ◌∷◌, ◌++◌, Bool, true, false, refl, sym, ap, ◌∙◌, subst, eq-eqb, eqb-true, append-nil}
use Rattle.std.specs.Prelude.{◌≢◌, ◌==◌, cond, if◌then◌else◌, All}
use Rattle.std.proofs.lemmas.List.Elements.{All-nil, All-head, All-tail, All-cons}
use Rattle.run_record.specs.of_master_node.Listing.{told_in}
use Rattle.run_record.specs.of_master_tour.Made.{is_in}
use Rattle.run_record.specs.of_master_tour.Orders.{AreOnce}
use Rattle.run_record.specs.of_master_node.declared.event.Event.{Event}
use Rattle.gateway_run.specs.Account.{is_of, left_by_all}
use Rattle.gateway_run.specs.Rooms.{given_by, requests_of}
use Rattle.gateway_run.specs.declared.desk.Request.{Request}
use Rattle.gateway_run.proofs.Views.{AreOf, IsHere, are_of_on, events_here, events_other, events_keep, given_both, given_here, given_none, left_append}

-- what is told of the slave at a place, where it is among these
abbrev pub told_where : (ℕ → List Event) → ℕ → List ℕ → List Event
told_where tells i ps = if is_in i ps then tells i else []

-- the requests of that slave
module _ (i n : ℕ) where
  -- a datagram is no other slave's
  abbrev pub IsAlone : List Request → Type 0
  IsAlone rs = All (λ (r : Request). r.slave ≢ i → r.gram ≢ n) rs

  not_mine : (j : ℕ) (rs : List Request) → j ≢ i → IsAlone rs → All (λ (r : Request). r.gram ≢ n) (requests_of j rs)
  not_mine j [] off alone = All-nil (λ (r : Request). r.gram ≢ n)
  not_mine j (r ∷ rs) off alone = go (is_of j r) refl (not_mine j rs off (All-tail (λ (r : Request). r.slave ≢ i → r.gram ≢ n) r rs alone))
    where
      go : (b : Bool) → is_of j r ≡ b → All (λ (r : Request). r.gram ≢ n) (requests_of j rs) → All (λ (r : Request). r.gram ≢ n) (cond b (r ∷ requests_of j rs) (requests_of j rs))
      go true e later = All-cons (λ (r : Request). r.gram ≢ n) r (requests_of j rs) (All-head (λ (r : Request). r.slave ≢ i → r.gram ≢ n) r rs alone (λ s. off (sym (eqb-true r.slave j e) ∙ s))) later
      go false e later = later

  module _ (tells : ℕ → List Event) where
    pub places_leave : (ps : List ℕ) (rs : List Request) → AreOnce ps → ((k : ℕ) → AreOf k rs (tells k)) → requests_of i (left_by_all (told_in tells ps) rs) ≡ left_by_all (told_where tells i ps) (requests_of i rs)
    places_leave [] rs once own = refl
    places_leave (p ∷ ps) rs once own =
        ap (requests_of i) (left_append (tells p) (told_in tells ps) rs)
        ∙ places_leave ps (left_by_all (tells p) rs) once.1 (λ k. are_of_on k (tells k) (tells p) rs (own k))
        ∙ go (i == p) refl
      where
        go : (b : Bool) → (i == p) ≡ b → left_by_all (told_where tells i ps) (requests_of i (left_by_all (tells p) rs)) ≡ left_by_all (if (if b then true else is_in i ps) then tells i else []) (requests_of i rs)
        go true e =
            let same : i ≡ p = eqb-true i p e in
            let gone : is_in i ps ≡ false = ap (λ k. is_in k ps) same ∙ once.0 in
            ap (λ (z : Bool). left_by_all (if z then tells i else []) (requests_of i (left_by_all (tells p) rs))) gone
            ∙ subst (λ k. requests_of i (left_by_all (tells k) rs) ≡ left_by_all (tells i) (requests_of i rs)) same (events_here i (tells i) rs (own i))
        go false e = ap (left_by_all (told_where tells i ps)) (events_other i p (λ s. not_both i p s e) (tells p) rs (own p))
          where
            not_both : (a b : ℕ) → a ≡ b → (a == b) ≡ false → ⊥
            not_both a b s f = (let t = eq-eqb a b s in let bad : true ≡ false = sym t ∙ f in cc)

    -- WHAT ALL OF THEM GIVE, of one datagram of that slave, is what its own give
    module _ {X Y : Type 0} (gives : Event → List Request → List X) (here : IsHere gives) (part : List X → List Y) (parts : (xs ys : List X) → part (xs ++ ys) ≡ part xs ++ part ys) (empty : part [] ≡ []) (none : (e : Event) (rs : List Request) → All (λ (r : Request). r.gram ≢ n) rs → part (gives e rs) ≡ []) where
      pub places_give : (ps : List ℕ) (rs : List Request) → AreOnce ps → ((k : ℕ) → AreOf k rs (tells k)) → IsAlone rs → part (given_by gives (told_in tells ps) rs) ≡ part (given_by gives (told_where tells i ps) (requests_of i rs))
      places_give [] rs once own alone = refl
      places_give (p ∷ ps) rs once own alone =
          ap part (given_both gives (tells p) (told_in tells ps) rs)
          ∙ parts (given_by gives (tells p) rs) (given_by gives (told_in tells ps) (left_by_all (tells p) rs))
          ∙ ap (λ ms. part (given_by gives (tells p) rs) ++ ms) (places_give ps (left_by_all (tells p) rs) once.1 (λ k. are_of_on k (tells k) (tells p) rs (own k)) (events_keep (λ (r : Request). r.slave ≢ i → r.gram ≢ n) (λ r q. q) (tells p) rs alone))
          ∙ go (i == p) refl
        where
          go : (b : Bool) → (i == p) ≡ b → part (given_by gives (tells p) rs) ++ part (given_by gives (told_where tells i ps) (requests_of i (left_by_all (tells p) rs))) ≡
              part (given_by gives (if (if b then true else is_in i ps) then tells i else []) (requests_of i rs))
          go true e =
              let same : i ≡ p = eqb-true i p e in
              let gone : is_in i ps ≡ false = ap (λ k. is_in k ps) same ∙ once.0 in
              ap (λ (z : Bool). part (given_by gives (tells p) rs) ++ part (given_by gives (if z then tells i else []) (requests_of i (left_by_all (tells p) rs)))) gone
              ∙ ap (λ ms. part (given_by gives (tells p) rs) ++ ms) empty
              ∙ append-nil (part (given_by gives (tells p) rs))
              ∙ subst (λ k. part (given_by gives (tells k) rs) ≡ part (given_by gives (tells i) (requests_of i rs))) same (ap part (given_here gives here i (tells i) rs (own i)))
          go false e =
              let off : i ≡ p → ⊥ = (λ s. let t = eq-eqb i p s in let bad : true ≡ false = sym t ∙ e in cc) in
              (λ k. (ap part (given_here gives here p (tells p) rs (own p)) ∙ given_none n gives part parts empty none (tells p) (requests_of p rs) (not_mine p rs (λ s. off (sym s)) alone)) k ++ part (given_by gives (told_where tells i ps) (events_other i p off (tells p) rs (own p) k)))
