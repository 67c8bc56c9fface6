-- THE VISITS OF A FRAME, one after the other, by what each keeps of the slaves while no mail is passed on.
use Rattle.std.proofs.Common.{◌≡◌, ◌⊎◌, inl, inr, ◌<◌, ◌≤◌, ◌+◌, ◌%◌, ℕ, zero, suc, Bool, true, false, List, [], ◌∷◌, sym, ap, subst, length, refl}
use Rattle.std.specs.Prelude.{nat_lt, map, All}
use Rattle.std.specs.List.{list_any}
use Rattle.life_runs.specs.of_frame_view.View.{Lens}
use Rattle.life_runs.specs.of_frame_view.Shares.{AllFrom}
use Rattle.life_runs.specs.Led.{Leads}
use Rattle.life_runs.specs.of_master_tour.Goes.{is_live, holds_at, BeginsLive}
use Rattle.life_runs.specs.of_master_tour.Made.{FrameMade, is_in}
use Rattle.life_runs.specs.of_master_tour.Orders.{visits_left, AreOnce, IsNextOf, IsCarried}
use Rattle.life_runs.specs.of_master_tour.Walks.{StepsAt}
use Rattle.master_node.specs.Begins.{begun_for}
use Rattle.master_node.specs.Starts.{HasStarted}
use Rattle.master_node.specs.Filling.{IsAmong, StopFills, IsFilling, IsEmpty, IsFilled}
use Rattle.master_node.specs.Kept.{TourOn}
use Rattle.master_node.specs.Listing.{Before, run_tells}
use Rattle.master_node.specs.Shows.{WaitsNone, lived_of}
use Rattle.master_node.specs.declared.node.MasterNode.{MasterNode}
use Rattle.master_node.proofs.Begins.{begun_on}
use Rattle.master_node.proofs.Listing.{listed_on}
use Rattle.master_node.proofs.Roundings.{SameTour, Rounds, HasEnded, rounds_first, rounds_last, rounds_same, rounds_more, rounds_still}

pub from_length : {A S : Type 0} (P : ℕ → A → S → Type 0) (i : ℕ) (as' : List A) (ss : List S) → AllFrom P i as' ss → length ss ≡ length as'
from_length P i [] [] p = refl
from_length P i [] (s ∷ ss) p = absurd p
from_length P i (a ∷ as') [] p = absurd p
from_length P i (a ∷ as') (s ∷ ss) p = ap suc (from_length P (suc i) as' ss p.1)

-- the number of datagrams behind a visit
pub count_behind : {S : Type 0} (P : S → S → Type 0) (under : S → Bool) (n c i : ℕ) (xs ys : List S) → ((s t : S) → P s t → (under t ≡ true → c ≡ n + 1) × (under t ≡ false → c ≡ n)) → StepsAt P i xs ys → (c ≡ n) ⊎ (c ≡ n + 1)
count_behind P under n c zero [] ys h e = absurd e
count_behind P under n c (suc i) [] ys h e = absurd e
count_behind P under n c zero (x ∷ xs) [] h e = absurd e
count_behind P under n c (suc i) (x ∷ xs) [] h e = absurd e
count_behind P under n c zero (x ∷ xs) (y ∷ ys) h e = go (under y) refl
  where
    go : (z : Bool) → under y ≡ z → (c ≡ n) ⊎ (c ≡ n + 1)
    go true u = inr ((h x y e.0).0 u)
    go false u = inl ((h x y e.0).1 u)
count_behind P under n c (suc i) (x ∷ xs) (y ∷ ys) h e = count_behind P under n c i xs ys h e.1

module _ (lens : ℕ → Lens) (recover made : ℕ) (from : Before) (as' : List Leads) where
  -- what each visit keeps
  abbrev pub Quiet : List ℕ → MasterNode → List ℕ → Type 0
  Quiet left m octets = IsFilling lens recover made from left m octets as' × All WaitsNone m.posts.items

  -- BEHIND SO MANY VISITS
  abbrev pub Fills : ℕ → MasterNode → List ℕ → Type 0
  Fills n m octets = Rounds as' Quiet n m octets

  many : (left : List ℕ) (m : MasterNode) (octets : List ℕ) → Quiet left m octets → length m.tour.stops.items ≡ length as'
  many left m octets f = from_length (λ i a s. IsAmong lens f.0.begun left i a s) 0 as' m.tour.stops.items f.0.among

  filling_same : (left : List ℕ) (m n : MasterNode) (octets : List ℕ) → SameTour m n → IsFilling lens recover made from left m octets as' → IsFilling lens recover made from left n octets as'
  filling_same left m n octets k f = record {
    begun = f.begun;
    frame = subst (λ z. FrameMade (λ ds i a s. StopFills lens recover made f.begun (n.made % 256) left ds i a s) octets n.tour.count (map lived_of as') z.items) (sym k.stops)
        (subst (λ z. FrameMade (λ ds i a s. StopFills lens recover made f.begun (n.made % 256) left ds i a s) octets z (map lived_of as') m.tour.stops.items) (sym k.count)
        (subst (λ z. FrameMade (λ ds i a s. StopFills lens recover made f.begun (z % 256) left ds i a s) octets m.tour.count (map lived_of as') m.tour.stops.items) (sym k.made) f.frame));
    among = subst (λ z. AllFrom (λ i a s. IsAmong lens f.begun left i a s) 0 as' z.items) (sym k.stops) f.among;
    packets = begun_on from.switch left f.begun as' m.lan n.lan k.lan f.packets;
    listing = listed_on (run_tells as') from.forwards left f.begun as' m n k.list k.posts f.listing;
    starts = record {
      visited = f.starts.visited;
      each = subst (λ z. AllFrom (λ i a s. HasStarted lens z f.starts.visited i (begun_for f.begun as' i) a [] s) 0 as' n.tour.stops.items) (sym k.lan)
          (subst (λ z. AllFrom (λ i a s. HasStarted lens m.lan f.starts.visited i (begun_for f.begun as' i) a [] s) 0 as' z.items) (sym k.stops) f.starts.each);
    };
  }

  quiet_same : (left : List ℕ) (m n : MasterNode) (octets : List ℕ) → SameTour m n → Quiet left m octets → Quiet left n octets
  quiet_same left m n octets k f = (filling_same left m n octets k f.0, subst (λ z. All WaitsNone z.items) (sym k.posts) f.1)

  filled_of : (m : MasterNode) (octets : List ℕ) → HasEnded as' Quiet m octets → IsFilled lens recover made from m octets as'
  filled_of m octets e = record { left = e.left; filling = e.filling.0; quiet = e.filling.1; some = e.ends.some; apart = e.ends.apart; comes = e.ends.comes }

  -- before the first visit
  pub fills_first : (m : MasterNode) (octets : List ℕ) → IsEmpty lens recover made from m octets as' → Fills 0 m octets
  fills_first m octets e = rounds_first as' Quiet many quiet_same m octets (λ left. (e.filling left, e.quiet))
      (record { count = e.count; passed = e.passed; short = e.short; begins = e.begins; some = e.some; lives = e.lives; again = e.again; anew = e.anew; room = e.room; listed = e.list })

  -- behind the last one
  pub fills_last : (n : ℕ) (m : MasterNode) (octets : List ℕ) → 1 ≤ n → Fills n m octets → IsFilled lens recover made from m octets as'
  fills_last n m octets l f = filled_of m octets (rounds_last as' Quiet many quiet_same n m octets l f)

  pub fills_same : (k : ℕ) (m n : MasterNode) (octets : List ℕ) → SameTour m n → Fills k m octets → 1 ≤ k → IsFilled lens recover made from n octets as'
  fills_same k m n octets s f l = filled_of n octets (rounds_same as' Quiet many quiet_same k m n octets s f l)

  -- ONE VISIT MORE: of the slave at this place, which comes next
  module _ (n : ℕ) (m m1 m2 : MasterNode) (octets octets2 : List ℕ) (p : ℕ) (f : Fills n m octets) (k : SameTour m m1)
      (due : (m.tour.again ≡ true → AreOnce m.tour.visit.items) → IsNextOf p (visits_left m.tour.again m.tour.visit.items m.tour.opened (length m.tour.stops.items) m.tour.last m.tour.passed) (visits_left m.tour.again m.tour.visit.items m.tour.opened (length m.tour.stops.items) m.tour.last m1.tour.passed))
      (leads : m.tour.count ≡ 0 → m.tour.passed ≡ 0 → BeginsLive (λ s. is_live s.stand) m.tour.again m.tour.visit.items m.tour.opened m.tour.stops.items → list_any (λ s. is_live s.stand) m.tour.stops.items ≡ true → holds_at (λ s. is_live s.stand) m.tour.stops.items p ≡ true)
      (space : m1.tour.count < 16) (on : TourOn m1 m2) (passed : m2.tour.passed ≡ m1.tour.passed) (quiets : All WaitsNone m1.posts.items → All WaitsNone m2.posts.items)
      (carries : (m1.tour.again ≡ false → length m1.tour.visit.items < 16) → IsCarried (nat_lt m1.tour.count m2.tour.count) m1.tour.again p m1.tour.visit.items m2.tour.visit.items)
      (counts : (m2.tour.count ≡ m1.tour.count) ⊎ (m2.tour.count ≡ m1.tour.count + 1)) (adds : length octets ≡ 16 → holds_at (λ s. is_live s.stand) m1.tour.stops.items p ≡ true → m2.tour.count ≡ m1.tour.count + 1)
      (led : (left next : List ℕ) → All WaitsNone m1.posts.items → is_in p left ≡ true → is_in p next ≡ false → ((j : ℕ) → is_in j next ≡ true → is_in j left ≡ true) → IsFilling lens recover made from left m1 octets as' → IsFilling lens recover made from next m2 octets2 as') where
    pub fills_more : Fills (n + 1) m2 octets2
    fills_more = rounds_more as' Quiet many quiet_same n m m1 m2 octets octets2 p f k due leads space on passed carries counts adds (λ left next a o s g. (led left next g.1 a o s g.0, quiets g.1))

  -- one that the frame has no room for
  pub fills_still : (n : ℕ) (m m1 m2 : MasterNode) (octets octets2 : List ℕ) (p : ℕ) → 1 ≤ n → (f : Fills n m octets) → SameTour m m1 → is_in p f.left ≡ true → TourOn m1 m2 → (All WaitsNone m1.posts.items → All WaitsNone m2.posts.items) →
      m2.tour.count ≡ m1.tour.count → m2.tour.visit ≡ m1.tour.visit →
      ((left next : List ℕ) → All WaitsNone m1.posts.items → is_in p left ≡ true → is_in p next ≡ false → ((j : ℕ) → is_in j next ≡ true → is_in j left ≡ true) → IsFilling lens recover made from left m1 octets as' → IsFilling lens recover made from left m2 octets2 as') →
      IsFilled lens recover made from m2 octets2 as'
  fills_still n m m1 m2 octets octets2 p l f k at on quiets count visit led =
      filled_of m2 octets2 (rounds_still as' Quiet many quiet_same n m m1 m2 octets octets2 p l f k at on count visit (λ left next a o s g. (led left next g.1 a o s g.0, quiets g.1)))
