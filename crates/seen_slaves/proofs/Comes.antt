-- Events of state services do the same to registers and phases, whatever the mails are and the replies.
use Rattle.std.proofs.Common.{◌≡◌, ℕ, ◌==◌, Bool, true, false, Option, Some, None, List, [], ◌∷◌, ◌++◌, refl, sym, ap, ◌∙◌, subst, if◌then◌else◌}
use Rattle.std.specs.Prelude.{⊤}
use Rattle.idle_slaves.specs.Going.{IsCome}
use Rattle.idle_slaves.specs.Phases.{idle_states}
use Rattle.idle_slaves.specs.of_link_model.Link.{Fate, is_met}
use Rattle.idle_slaves.specs.of_segment_model.Ends.{Outcome}
use Rattle.idle_slaves.specs.of_segment_model.Record.{News}
use Rattle.idle_slaves.specs.of_segment_model.Slaves.{Registers}
use Rattle.idle_slaves.specs.of_state_model.States.{Event, Hand, Phase, States, Table, Turn, begins, carry, happens, looks, phase_behind, reads, returned, run, shown, turned, word_met, word_of, writes}

-- both have a service in hand with this target and phase, or none
abbrev SameHand : {N M : Type 0} → Option (Hand N) → Option (Hand M) → Type 0
SameHand None None = ⊤
SameHand (Some a) (Some b) = (a.target ≡ b.target) × (a.phase ≡ b.phase)
SameHand _ _ = ⊥

-- it goes on alike, or ends
abbrev SameTurn : {S R : Type 0} → Turn S → Turn R → Type 0
SameTurn (Turn.Goes p) (Turn.Goes q) = p ≡ q
SameTurn (Turn.Ends a) (Turn.Ends b) = ⊤
SameTurn _ _ = ⊥

shown_same : (S R : Type 0) (target : ℕ) (phase : Phase) (state : ℕ) (refused : Option ℕ) → SameTurn {S = S} {R = R} (shown target phase state refused) (shown target phase state refused)
shown_same S R target Phase.Ask state refused = refl
shown_same S R target Phase.Await state None = go (state == target)
  where
    go : (b : Bool) → SameTurn {S = S} {R = R} (if b then Turn.Ends Outcome.Reached else Turn.Goes Phase.Await) (if b then Turn.Ends Outcome.Reached else Turn.Goes Phase.Await)
    go true = tt
    go false = refl
shown_same S R target Phase.Await state (Some code) = refl
shown_same S R target (Phase.Acknowledge state first) now refused = refl
shown_same S R target (Phase.Recover first) state None = tt
shown_same S R target (Phase.Recover first) state (Some code) = refl

-- what is in hand
record InHand {N M : Type 0} (a : Hand N) (k : Option (Hand M)) : Type 0 where
  hand : Hand M
  is : k ≡ Some hand
  target : hand.target ≡ a.target
  phase : hand.phase ≡ a.phase

in_hand : {N M : Type 0} (a : Hand N) (h : Option (Hand N)) (k : Option (Hand M)) → h ≡ Some a → SameHand h k → InHand a k
in_hand {N} {M} a h k e s = by k (subst (λ (z : Option (Hand N)). SameHand z k) e s)
  where
    by : (k : Option (Hand M)) → SameHand (Some a) k → InHand a k
    by None s = absurd s
    by (Some b) s = record { hand = b; is = refl; target = sym s.0; phase = sym s.1 }

module _ {N M S R : Type 0} where
  record Same (w : States N S) (z : States M R) : Type 0 where
    registers : w.registers ≡ z.registers
    hand : SameHand w.hand z.hand

  turned_same : (w : States N S) (z : States M R) → w.registers ≡ z.registers → (target : ℕ) (as' : List (News N)) (bs : List (News M)) (t : Turn S) (u : Turn R) → SameTurn t u → Same (turned w target as' t) (turned z target bs u)
  turned_same w z e target as' bs (Turn.Goes p) (Turn.Goes q) k = record { registers = e; hand = (refl, k) }
  turned_same w z e target as' bs (Turn.Ends a) (Turn.Ends b) k = record { registers = e; hand = tt }
  turned_same w z e target as' bs (Turn.Goes p) (Turn.Ends b) k = absurd k
  turned_same w z e target as' bs (Turn.Ends a) (Turn.Goes q) k = absurd k

  -- a status that was read
  returned_same : (w : States N S) (z : States M R) (s : Same w z) (a : Hand N) (b : Hand M) → a.target ≡ b.target → a.phase ≡ b.phase → (c : Bool) → Same (returned w a c) (returned z b c)
  returned_same w z s a b t p false = s
  returned_same w z s a b t p true =
      let as' : List (News N) = a.read ++ News.Status w.registers.state w.registers.refused ∷ [] in
      let bs : List (News M) = b.read ++ News.Status z.registers.state z.registers.refused ∷ [] in
      let left : States N S = turned w a.target as' (shown a.target a.phase w.registers.state w.registers.refused) in
      subst (λ (k : ℕ). Same left (turned z k bs (shown k b.phase z.registers.state z.registers.refused))) t
      (subst (λ (q : Phase). Same left (turned z a.target bs (shown a.target q z.registers.state z.registers.refused))) p
      (subst (λ (r : Registers). Same left (turned z a.target bs (shown a.target a.phase r.state r.refused))) s.registers
      (turned_same w z s.registers a.target as' bs (shown a.target a.phase w.registers.state w.registers.refused) (shown a.target a.phase w.registers.state w.registers.refused) (shown_same S R a.target a.phase w.registers.state w.registers.refused))))

  begins_same : (w : States N S) (z : States M R) (s : Same w z) (target : ℕ) (h : Option (Hand N)) (k : Option (Hand M)) → SameHand h k → Same (begins w h target) (begins z k target)
  begins_same w z s target None None e = record { registers = s.registers; hand = (refl, refl) }
  begins_same w z s target (Some a) (Some b) e = s
  begins_same w z s target None (Some b) e = absurd e
  begins_same w z s target (Some a) None e = absurd e

  writes_same : (w : States N S) (z : States M R) (s : Same w z) (fate : Fate) (h : Option (Hand N)) (k : Option (Hand M)) → SameHand h k → Same (writes w h fate) (writes z k fate)
  writes_same w z s fate None None e = s
  writes_same w z s fate (Some a) (Some b) e = record {
    registers = λ i. if is_met fate then word_met (s.registers i) (word_of (e.0 i) (e.1 i)) else s.registers i;
    hand = (e.0, ap (λ (q : Phase). phase_behind q fate) e.1);
  }
  writes_same w z s fate None (Some b) e = absurd e
  writes_same w z s fate (Some a) None e = absurd e

  looks_same : (w : States N S) (z : States M R) (s : Same w z) (fate : Fate) (h : Option (Hand N)) (k : Option (Hand M)) → SameHand h k → Same (looks w h fate) (looks z k fate)
  looks_same w z s fate None None e = s
  looks_same w z s Fate.Pass (Some a) (Some b) e = subst (λ (c : Bool). Same (returned w a (reads a.phase)) (returned z b c)) (ap reads e.1) (returned_same w z s a b e.0 e.1 (reads a.phase))
  looks_same w z s Fate.LostBefore (Some a) (Some b) e = s
  looks_same w z s Fate.LostBehind (Some a) (Some b) e = s
  looks_same w z s fate None (Some b) e = absurd e
  looks_same w z s fate (Some a) None e = absurd e

  happens_same : (table : Table) (w : States N S) (z : States M R) → Same w z → (e : Event) → Same (happens table w e) (happens table z e)
  happens_same table w z s (Event.Begin target) = begins_same w z s target w.hand z.hand s.hand
  happens_same table w z s (Event.Write fate) = writes_same w z s fate w.hand z.hand s.hand
  happens_same table w z s (Event.Read fate) = looks_same w z s fate w.hand z.hand s.hand
  happens_same table w z s Event.Step = record { registers = ap (carry table) s.registers; hand = s.hand }

  run_same : (table : Table) (w : States N S) (z : States M R) → Same w z → (es : List Event) → Same (run table w es) (run table z es)
  run_same table w z s [] = s
  run_same table w z s (e ∷ es) = run_same table (happens table w e) (happens table z e) (happens_same table w z s e) es

  pub come : (table : Table) (target : ℕ) (phase : Phase) (r : Registers) → IsCome N S table target phase r → IsCome M R table target phase r
  come table target phase r k =
      let first : States N S = idle_states k.first in
      let other : States M R = idle_states k.first in
      let s : Same (run table first k.events) (run table other k.events) = run_same table first other (record { registers = refl; hand = tt }) k.events in
      let b : InHand k.hand (run table other k.events).hand = in_hand k.hand (run table first k.events).hand (run table other k.events).hand k.is s.hand in
      record {
        start = k.start;
        sits = k.sits;
        first = k.first;
        rests = k.rests;
        events = k.events;
        hand = b.hand;
        is = b.is;
        target_is = b.target ∙ k.target_is;
        phase_is = b.phase ∙ k.phase_is;
        registers = sym s.registers ∙ k.registers;
      }
