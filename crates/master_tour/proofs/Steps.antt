-- One slave of a tour goes on while a frame is made: the frame grows by its datagram or by none, and all others have what they had.
use Rattle.std.proofs.Common.{◌≡◌, ℕ, zero, suc, ◌+◌, ◌<◌, ◌==◌, Bool, true, false, List, [], ◌∷◌, ◌++◌, length, get_or, set, refl, sym, subst, arith}
use Rattle.std.specs.Prelude.{⊤}
use Rattle.std.proofs.lemmas.Bool.{eqb-true}
use Rattle.master_side.specs.of_datagrams.Datagram as Raw
use Rattle.master_side.specs.of_frame_view.View.{Lens}
use Rattle.master_side.specs.of_datagrams.Command.{IsNamed}
use Rattle.master_side.specs.of_datagrams.Frame.{IsBegun, Each}
use Rattle.master_side.specs.of_life_model.Lives
use Rattle.master_side.specs.of_life_model.Lives.{Spot}
use Rattle.master_side.specs.of_master_duty.Reply.{Reply}
use Rattle.master_side.specs.of_frame_view.Frames.{IsNotFor, GramFor, AreApart}
use Rattle.master_side.specs.of_frame_view.Shares.{Lived, AllFrom, IsElsewhere, AreDistinct}
use Rattle.master_side.proofs.of_frame_view.Frames.{apart_back, not_for, gram_named}
use Rattle.master_tour.specs.Walks.{StepsAt}
use Rattle.master_tour.specs.Made.{FrameMade}
use Rattle.master_tour.proofs.Walks.{steps_set}

pub differ : (a b : ℕ) → (a ≡ b → ⊥) → (a == b) ≡ false
differ a b n = go (a == b) refl
  where
    go : (z : Bool) → (a == b) ≡ z → (a == b) ≡ false
    go false e = e
    go true e = absurd (n (eqb-true a b e))

-- what the frame grows by: nothing, or one datagram of this slave
pub data Hits (lens : ℕ → Lens) (spot : Spot) : List Raw.Datagram → Type 0 where
  nothing : Hits lens spot []
  gram : (stand : Lives.Stand) (d : Raw.Datagram) → GramFor lens spot stand d → (0 == spot.station) ≡ false → spot.place < 16 → Hits lens spot (d ∷ [])

-- to another slave that is nothing
abbrev pub AllApart : Spot → List Raw.Datagram → Type 0
AllApart spot [] = ⊤
AllApart spot (d ∷ ds) = IsNotFor spot d × AllApart spot ds

pub hits_apart : (lens : ℕ → Lens) (spot other : Spot) (ds : List Raw.Datagram) → Hits lens other ds → AreApart other spot → AllApart spot ds
hits_apart lens spot other ds Hits.nothing a = tt
hits_apart lens spot other ds (Hits.gram stand d g n l) a = (not_for lens spot other stand d g a n l, tt)

module _ {Q S : Type 0} (lens : ℕ → Lens) (P : ℕ → Lived Q Reply → S → Type 0) (T : List Raw.Datagram → ℕ → Lived Q Reply → S → Type 0) (R : S → S → Type 0) (W : Spot → List Raw.Datagram → Type 0) (at : ℕ) where
  -- the slave at the place goes on, by these datagrams
  pub record Here (a : Lived Q Reply) (t : S) : Type 0 where
    pub more : List Raw.Datagram
    pub hits : Hits lens a.spot more
    pub tied : W a.spot more
    pub goes : T more at a t

  pub record Stepped (i : ℕ) (as' : List (Lived Q Reply)) (ts : List S) : Type 0 where
    pub more : List Raw.Datagram
    pub spot : Spot
    pub hits : Hits lens spot more
    pub tied : W spot more
    pub far : (other : Spot) → IsElsewhere other as' → AreApart other spot
    pub each : AllFrom (T more) i as' ts

  module _ (others : (more : List Raw.Datagram) (spot : Spot) (c : Lived Q Reply) (k : ℕ) (s : S) → W spot more → Hits lens spot more → (k == at) ≡ false → AreApart spot c.spot → P k c s → T more k c s) where
    rest : (more : List Raw.Datagram) (spot : Spot) → W spot more → Hits lens spot more → (i : ℕ) → at < i → (as' : List (Lived Q Reply)) (ss : List S) → IsElsewhere spot as' → AllFrom P i as' ss → AllFrom (T more) i as' ss
    rest more spot w h i l [] [] e p = tt
    rest more spot w h i l (a ∷ as') (s ∷ ss) e p = (others more spot a i s w h (differ i at (λ q. omega (arith, l, q))) e.0 p.0, rest more spot w h (suc i) (omega (arith, l)) as' ss e.1 p.1)
    rest more spot w h i l [] (s ∷ ss) e p = absurd p
    rest more spot w h i l (a ∷ as') [] e p = absurd p

    pub step : ((a : Lived Q Reply) (s t : S) → P at a s → R s t → Here a t) → (i n : ℕ) → at ≡ i + n → (as' : List (Lived Q Reply)) (ss ts : List S) → AreDistinct as' → AllFrom P i as' ss → StepsAt R n ss ts → Stepped i as' ts
    step here i zero e (a ∷ as') (s ∷ ss) (t ∷ ts) d p r =
        let is : at ≡ i = omega (arith, e) in
        let h = here a s t (subst (λ k. P k a s) (sym is) p.0) r.0 in
        record {
          more = h.more;
          spot = a.spot;
          hits = h.hits;
          tied = h.tied;
          far = λ other w. w.0;
          each = (subst (λ k. T h.more k a t) is h.goes, subst (λ z. AllFrom (T h.more) (suc i) as' z) (sym r.1) (rest h.more a.spot h.tied h.hits (suc i) (omega (arith, is)) as' ss d.0 p.1));
        }
    step here i (suc n) e (a ∷ as') (s ∷ ss) (t ∷ ts) d p r =
        let w = step here (suc i) n (omega (arith, e)) as' ss ts d.1 p.1 r.1 in
        record {
          more = w.more;
          spot = w.spot;
          hits = w.hits;
          tied = w.tied;
          far = λ other z. w.far other z.1;
          each = (subst (λ z. T w.more i a z) (sym r.0) (others w.more w.spot a i s w.tied w.hits (differ i at (λ q. omega (arith, e, q))) (apart_back a.spot w.spot (w.far a.spot d.0)) p.0), w.each);
        }
    step here i zero e [] [] ts d p r = absurd r
    step here i (suc n) e [] [] ts d p r = absurd r
    step here i n e [] (s ∷ ss) ts d p r = absurd p
    step here i n e (a ∷ as') [] ts d p r = absurd p
    step here i zero e (a ∷ as') (s ∷ ss) [] d p r = absurd r
    step here i (suc n) e (a ∷ as') (s ∷ ss) [] d p r = absurd r

-- each place by itself
pub from_map : {A S : Type 0} (P T : ℕ → A → S → Type 0) → ((i : ℕ) (a : A) (s : S) → P i a s → T i a s) → (i : ℕ) (as' : List A) (ss : List S) → AllFrom P i as' ss → AllFrom T i as' ss
from_map P T h i [] [] p = tt
from_map P T h i (a ∷ as') (s ∷ ss) p = (h i a s p.0, from_map P T h (suc i) as' ss p.1)
from_map P T h i [] (s ∷ ss) p = absurd p
from_map P T h i (a ∷ as') [] p = absurd p

pub each_more : (P : Raw.Datagram → Type 0) (ds es : List Raw.Datagram) → Each P ds → Each P es → Each P (ds ++ es)
each_more P [] es a b = b
each_more P (d ∷ ds) es a b = (a.0, each_more P ds es a.1 b)

pub hits_named : (lens : ℕ → Lens) (spot : Spot) (ds : List Raw.Datagram) → Hits lens spot ds → Each (λ d. IsNamed d.head.command) ds
hits_named lens spot ds Hits.nothing = tt
hits_named lens spot ds (Hits.gram stand d g n l) = (gram_named lens spot stand d g, tt)

-- what the slave at a place makes of the frame
pub record Grown (lens : ℕ → Lens) (P : List Raw.Datagram → Type 0) (octets : List ℕ) (count : ℕ) (spot : Spot) (ds : List Raw.Datagram) : Type 0 where
  pub more : List Raw.Datagram
  pub hits : Hits lens spot more
  pub begun : IsBegun octets (ds ++ more)
  pub long : length (ds ++ more) ≡ count
  pub goes : P (ds ++ more)

-- THE FRAME GROWS by one slave
pub frame_grows : {Q S : Type 0} (P T : List Raw.Datagram → ℕ → Lived Q Reply → S → Type 0) (lens : ℕ → Lens) (octets octets' : List ℕ) (count count' : ℕ) (as' : List (Lived Q Reply)) (ss ts : List S) (at : ℕ) (v w : S) (K : Spot → Type 0) → AreDistinct as' → at < length ss → v ≡ get_or ss at v → ts ≡ set ss at w → ((ds : List Raw.Datagram) (a : Lived Q Reply) → P ds at a v → K a.spot) →
    ((ds more : List Raw.Datagram) (spot : Spot) (c : Lived Q Reply) (k : ℕ) (s : S) → K spot → Hits lens spot more → AreApart spot c.spot → P ds k c s → T (ds ++ more) k c s) →
    ((ds : List Raw.Datagram) (a : Lived Q Reply) → IsBegun octets ds → length ds ≡ count → P ds at a v → Grown lens (λ es. T es at a w) octets' count' a.spot ds) → FrameMade P octets count as' ss → FrameMade T octets' count' as' ts
frame_grows P T lens octets octets' count count' as' ss ts at v w K d l g e known others here f =
    let ds = f.datagrams in
    let z = step lens (P ds) (λ more. T (ds ++ more)) (λ s t. (s ≡ v) × (t ≡ w)) (λ spot more. IsBegun octets' (ds ++ more) × (length (ds ++ more) ≡ count') × K spot) at (λ more spot c k s t h n a p. others ds more spot c k s t.2 h a p)
    (λ a s t p r. (let k = here ds a f.begun f.long (subst (λ y. P ds at a y) r.0 p) in record { more = k.more; hits = k.hits; tied = (k.begun, k.long, known ds a (subst (λ y. P ds at a y) r.0 p)); goes = subst (λ y. T (ds ++ k.more) at a y) (sym r.1) k.goes }))
    0 at (omega arith) as' ss (set ss at w) d f.each (steps_set (λ s t. (s ≡ v) × (t ≡ w)) at ss v w l g (refl, refl)) in
    record {
      datagrams = ds ++ z.more;
      begun = z.tied.0;
      long = z.tied.1;
      named = each_more (λ y. IsNamed y.head.command) ds z.more f.named (hits_named lens z.spot z.more z.hits);
      each = subst (λ y. AllFrom (T (ds ++ z.more)) 0 as' y) (sym e) z.each;
    }
