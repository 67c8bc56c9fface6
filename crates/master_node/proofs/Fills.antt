-- While a frame is made: what stays of each slave, and what came into hand.
use Rattle.std.proofs.Common.{◌≡◌, ◌==◌, ◌+◌, ℕ, zero, suc, Bool, true, false, Option, List, [], ◌∷◌, refl, sym, ap, ◌∙◌, subst, arith}
use Rattle.std.specs.Prelude.{is_some, map, if◌then◌else◌}
use Rattle.std.proofs.lemmas.Bool.{eq-eqb, eqb-true}
use Rattle.life_runs.specs.of_datagrams.Datagram as Raw
use Rattle.life_runs.specs.of_frame_view.View.{Lens}
use Rattle.life_runs.specs.of_frame_view.Shares.{Lived, AllFrom, IsElsewhere, AreDistinct}
use Rattle.life_runs.specs.of_life_model.Lives.{Spot}
use Rattle.life_runs.specs.Led.{Leads, Comes}
use Rattle.life_runs.specs.of_master_duty.Reply.{Reply}
use Rattle.life_runs.specs.of_master_hand.Spoken.{Asked}
use Rattle.life_runs.specs.of_master_hand.declared.hand.InHand.{InHand}
use Rattle.life_runs.specs.of_master_side.declared.hand.Hand.{Ghosts}
use Rattle.life_runs.specs.of_master_tour.Made.{StopHas, FrameMade, ComesAt, is_in}
use Rattle.life_runs.specs.of_master_tour.Walks.{EachPair, StepsAt}
use Rattle.life_runs.specs.of_master_tour.declared.stop.Stop.{Stop}
use Rattle.life_runs.specs.of_state_model.Stated.{Service}
use Rattle.master_node.specs.Filling.{IsAmong, StopFills}
use Rattle.master_node.specs.Kept.{StopKept}
use Rattle.master_node.specs.Shows.{lived_of}
use Rattle.master_node.proofs.Kepts.{lives_kept}

pub from_each : {A S : Type 0} (P : ℕ → A → S → Type 0) (K : S → S → Type 0) (T : ℕ → A → S → Type 0) → ((i : ℕ) (a : A) (s t : S) → P i a s → K s t → T i a t) → (i : ℕ) (as' : List A) (ss ts : List S) → AllFrom P i as' ss → EachPair K ss ts → AllFrom T i as' ts
from_each P K T h i [] [] [] p k = tt
from_each P K T h i [] [] (t ∷ ts) p k = absurd k
from_each P K T h i [] (s ∷ ss) ts p k = absurd p
from_each P K T h i (a ∷ as') [] ts p k = absurd p
from_each P K T h i (a ∷ as') (s ∷ ss) [] p k = absurd k
from_each P K T h i (a ∷ as') (s ∷ ss) (t ∷ ts) p k = (h i a s t p.0 k.0, from_each P K T h (suc i) as' ss ts p.1 k.1)

pub frame_each : {A S : Type 0} (P : List Raw.Datagram → ℕ → A → S → Type 0) (K : S → S → Type 0) (T : List Raw.Datagram → ℕ → A → S → Type 0) → ((ds : List Raw.Datagram) (i : ℕ) (a : A) (s t : S) → P ds i a s → K s t → T ds i a t) →
    (octets : List ℕ) (count : ℕ) (as' : List A) (ss ts : List S) → FrameMade P octets count as' ss → EachPair K ss ts → FrameMade T octets count as' ts
frame_each P K T h octets count as' ss ts f k = record {
  datagrams = f.datagrams;
  begun = f.begun;
  long = f.long;
  named = f.named;
  each = from_each (P f.datagrams) K (T f.datagrams) (λ i a s t p q. h f.datagrams i a s t p q) 0 as' ss ts f.each k;
}

pub from_map : {A B S : Type 0} (f : A → B) (P : ℕ → B → S → Type 0) (i : ℕ) (as' : List A) (ss : List S) → AllFrom P i (map f as') ss → AllFrom (λ k a s. P k (f a) s) i as' ss
from_map f P i [] [] p = tt
from_map f P i [] (s ∷ ss) p = absurd p
from_map f P i (a ∷ as') [] p = absurd p
from_map f P i (a ∷ as') (s ∷ ss) p = (p.0, from_map f P (suc i) as' ss p.1)

-- a stop that stays has of the frame what it had
pub fills_kept : {G : Ghosts InHand} (lens : ℕ → Lens) (recover made : ℕ) (begun : ℕ → Option (Service Asked)) (index n : ℕ) (left : List ℕ) (ds : List Raw.Datagram) (i : ℕ) (a : Lived Asked Reply) (s t : Stop InHand G) → StopKept n s t →
    StopFills lens recover made begun index left ds i a s → StopFills lens recover made begun index left ds i a t
fills_kept lens recover made begun index n left ds i a s t k m =
    let path : StopHas lens index a.spot t.side.station t.stand t.side.out t.side.inn t.side.duty t.side.carried t.under t.at ds m.life ≡ StopHas lens index a.spot s.side.station s.stand s.side.out s.side.inn s.side.duty s.side.carried s.under s.at ds m.life =
    λ j. StopHas lens index a.spot (k.side.station j) (k.stand j) (k.side.side.out_is j) (k.side.side.in_is j) (k.side.side.duty_is j) (k.side.carried j) (k.under j) (k.at j) ds m.life in
    record {
      life = m.life;
      pick = m.pick;
      next = m.next;
      wish = m.wish;
      took = m.took;
      lives = lives_kept lens recover n (record { spot = a.spot; life = m.life }) s t k m.lives;
      idle = m.idle;
      waits = λ e o. m.waits e (sym k.stand ∙ o) ∙ ap is_some (sym k.side.passing);
      bare = λ e. k.under ∙ m.bare e;
      has = subst (λ (z : Type 0). z) (sym path) m.has;
    }

-- what came into hand of a slave, and of the others what did before
abbrev pub begun_at : (ℕ → Option (Service Asked)) → ℕ → Option (Service Asked) → ℕ → Option (Service Asked)
begun_at begun place b k = if k == place then b else begun k

pub begun_here : (begun : ℕ → Option (Service Asked)) (place : ℕ) (b : Option (Service Asked)) (k : ℕ) → k ≡ place → begun_at begun place b k ≡ b
begun_here begun place b k e = ap (λ (z : Bool). if z then b else begun k) (eq-eqb k place e)

pub begun_comes : (begun : ℕ → Option (Service Asked)) (place : ℕ) (b : Option (Service Asked)) → ComesAt begun (begun_at begun place b) place b
begun_comes begun place b = record {
  here = begun_here begun place b place refl;
  elsewhere = λ k e. ap (λ (z : Bool). if z then b else begun k) e;
}

-- a slave that goes on, and the others
module _ {G : Ghosts InHand} (lens : ℕ → Lens) (begun : ℕ → Option (Service Asked)) (left next : List ℕ) (fewer : (k : ℕ) → is_in k next ≡ true → is_in k left ≡ true) (R : Stop InHand G → Stop InHand G → Type 0) (place : ℕ) (b : Option (Service Asked)) where
  other : (i : ℕ) (a : Leads) (s : Stop InHand G) → (a.lived.spot.place == place) ≡ false → IsAmong lens begun left i a s → IsAmong lens (begun_at begun place b) next i a s
  other i a s d m = record {
    script = m.script;
    comes = subst (λ z. Comes (lens a.lived.spot.station).out a.script a.number z s.side.hand.laying.number) (sym ((begun_comes begun place b).elsewhere a.lived.spot.place d)) m.comes;
    still = λ e. m.still (fewer i e);
    short = m.short;
    unpassed = m.unpassed;
    own = m.own;
    place = m.place;
    room = m.room;
  }

  others : (spot : Spot) → spot.place ≡ place → (i : ℕ) (as' : List Leads) (ss : List (Stop InHand G)) → IsElsewhere spot (map lived_of as') → AllFrom (λ j a s. IsAmong lens begun left j a s) i as' ss → AllFrom (λ j a s. IsAmong lens (begun_at begun place b) next j a s) i as' ss
  others spot p i [] [] e m = tt
  others spot p i [] (s ∷ ss) e m = absurd m
  others spot p i (a ∷ as') [] e m = absurd m
  others spot p i (a ∷ as') (s ∷ ss) e m = (other i a s (apart a.lived.spot.place (subst (λ z. (z == a.lived.spot.place) ≡ false) p e.0.place)) m.0, others spot p (suc i) as' ss e.1 m.1)
    where
      apart : (q : ℕ) → (place == q) ≡ false → (q == place) ≡ false
      apart q n = go (q == place) refl
        where
          go : (z : Bool) → (q == place) ≡ z → (q == place) ≡ false
          go true f = absurd (let w = eq-eqb place q (sym (eqb-true q place f)) in cc)
          go false f = f

  -- the place is that of the slave that goes on
  stands_at : (i n : ℕ) (as' : List Leads) (ss ts : List (Stop InHand G)) (spot : Spot) → IsElsewhere spot (map lived_of as') → AllFrom (λ j a s. IsAmong lens begun left j a s) i as' ss → StepsAt (λ s t. s.place ≡ place) n ss ts → (spot.place == place) ≡ false
  stands_at i n [] [] ts spot e m r = absurd (none n ts r)
    where
      none : (n : ℕ) (ts : List (Stop InHand G)) → StepsAt (λ s t. s.place ≡ place) n [] ts → ⊥
      none zero ts r = r
      none (suc n) ts r = r
  stands_at i n [] (s ∷ ss) ts spot e m r = absurd m
  stands_at i n (a ∷ as') [] ts spot e m r = absurd m
  stands_at i zero (a ∷ as') (s ∷ ss) [] spot e m r = absurd r
  stands_at i (suc n) (a ∷ as') (s ∷ ss) [] spot e m r = absurd r
  stands_at i zero (a ∷ as') (s ∷ ss) (t ∷ ts) spot e m r = subst (λ z. (spot.place == z) ≡ false) (sym m.0.place ∙ r.0) e.0.place
  stands_at i (suc n) (a ∷ as') (s ∷ ss) (t ∷ ts) spot e m r = stands_at (suc i) n as' ss ts spot e.1 m.1 r.1

  pub among_step : (i n m : ℕ) (as' : List Leads) (ss ts : List (Stop InHand G)) → m ≡ i + n → ((a : Leads) (s t : Stop InHand G) → a.lived.spot.place ≡ place → IsAmong lens begun left m a s → R s t → IsAmong lens (begun_at begun place b) next m a t) →
      AreDistinct (map lived_of as') → AllFrom (λ j a s. IsAmong lens begun left j a s) i as' ss → StepsAt R n ss ts → StepsAt (λ s t. s.place ≡ place) n ss ts → AllFrom (λ j a s. IsAmong lens (begun_at begun place b) next j a s) i as' ts
  among_step i n m [] [] [] e h d p r q = tt
  among_step i zero m [] [] (t ∷ ts) e h d p r q = absurd r
  among_step i (suc n) m [] [] (t ∷ ts) e h d p r q = absurd r
  among_step i n m [] (s ∷ ss) ts e h d p r q = absurd p
  among_step i n m (a ∷ as') [] ts e h d p r q = absurd p
  among_step i zero m (a ∷ as') (s ∷ ss) [] e h d p r q = absurd r
  among_step i (suc n) m (a ∷ as') (s ∷ ss) [] e h d p r q = absurd r
  among_step i zero m (a ∷ as') (s ∷ ss) (t ∷ ts) e h d p r q =
      let f : m ≡ i = omega (arith, e) in
      let at : a.lived.spot.place ≡ place = sym p.0.place ∙ q.0 in (
        subst (λ z. IsAmong lens (begun_at begun place b) next z a t) f (h a s t at (subst (λ z. IsAmong lens begun left z a s) (sym f) p.0) r.0),
        subst (λ z. AllFrom (λ j c u. IsAmong lens (begun_at begun place b) next j c u) (suc i) as' z) (sym r.1) (others a.lived.spot at (suc i) as' ss d.0 p.1),
      )
  among_step i (suc n) m (a ∷ as') (s ∷ ss) (t ∷ ts) e h d p r q = (
    subst (λ z. IsAmong lens (begun_at begun place b) next i a z) (sym r.0) (other i a s (stands_at (suc i) n as' ss ts a.lived.spot d.0 p.1 q.1) p.0),
    among_step (suc i) n m as' ss ts (omega (arith, e)) h d.1 p.1 r.1 q.1,
  )
