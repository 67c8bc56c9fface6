-- What the datagrams of a frame to one station do to the inward half and to mailbox 1: nothing, or what the half's one datagram does.
use Rattle.std.proofs.Common.{◌≡◌, ◌⊎◌, inl, inr, ◌==◌, ◌&&◌, ◌||◌, Bool, true, false, not, is_none, is_some, Option, Some, None, List, [], ◌∷◌, refl, ap, ap₂, sym, ◌∙◌}
use Rattle.slave_parts.specs.of_link_model.Mails.{LinkMail}
use Rattle.slave_parts.specs.of_link_model.Master.{InHalf, InState, in_lost}
use Rattle.slave_parts.specs.of_link_model.Slave.{InSide, Node}
use Rattle.slave_parts.specs.of_link_model.Link.{Halves, Fate, in_half_after, in_met}
use Rattle.slave_parts.specs.of_link_model.Frames.{Ask, Gram, IsSent, IsSent.nothing, IsSent.other, IsSent.write, IsSent.inward, in_ask, node_meets, gram_meets, write_done, read_done, halves_answered, halves_lost}
use Rattle.slave_parts.proofs.of_link_model.Own.{node_all, grams_all, halves_all, lost_all}
use Rattle.slave_parts.specs.of_segment_model.Record.{is_read}

-- a read of mailbox 1 found it empty, or was done, among the datagrams to one station
abbrev pub found_empty : {M : Type 0} → List (Gram M) → Bool
found_empty [] = false
found_empty (g ∷ gs) = (is_read g.ask && (g.counter == 0)) || found_empty gs

abbrev pub was_read : {M : Type 0} → List (Gram M) → Bool
was_read [] = false
was_read (g ∷ gs) = (is_read g.ask && not (g.counter == 0)) || was_read gs

-- a half in this state reads mailbox 1
abbrev pub reads_in : InState → Bool
reads_in InState.Clear = true
reads_in InState.Doubt = false
reads_in InState.Asked = false
reads_in InState.Refetch = true

-- the half behind its datagram, which came back
abbrev pub answered_in : {B : Type 0} → InHalf → InSide B → InHalf
answered_in i s = in_half_after i i.state s.box s.acknowledge Fate.Pass

or_none : (a b : Bool) → b ≡ false → a || b ≡ a
or_none true b e = refl
or_none false b e = e

-- the datagram of a half in this state
abbrev asking : {B : Type 0} → Gram B → InHalf → InState → Gram B
asking g i state = record g { ask = in_ask state i.bit; counter = 0 }

is_asking : {B : Type 0} (g : Gram B) (i : InHalf) → g.ask ≡ in_ask i.state i.bit → g.counter ≡ 0 → asking g i i.state ≡ g
is_asking g i e c = λ j. record g { ask = sym e j; counter = sym c j }

own_lost : {B : Type 0} (k : Halves B) (state : InState) → (halves_lost k (in_ask state k.inn.bit)).inn ≡ in_lost k.inn state
own_lost k InState.Clear = refl
own_lost k InState.Doubt = refl
own_lost k InState.Asked = refl
own_lost k InState.Refetch = refl

module _ {B S : Type 0} where
  abbrev met : Node B S → Gram B → Gram B
  met n g = gram_meets n g.ask g

  -- THE WAY of datagrams through a half and mailbox 1, where they come back and where they are lost: none is the half's
  pub record Quiet (h k : Halves B) (n : Node B S) (gs : List (Gram B)) : Type 0 where
    pub half : (halves_all h (grams_all n gs)).inn ≡ h.inn
    pub lost : (lost_all k gs).inn ≡ k.inn
    pub node : (node_all n gs).inn ≡ n.inn
    pub empty : found_empty (grams_all n gs) ≡ false
    pub read : was_read (grams_all n gs) ≡ false

  -- or one is
  pub record Asked (h k : Halves B) (n : Node B S) (gs : List (Gram B)) : Type 0 where
    pub half : (halves_all h (grams_all n gs)).inn ≡ answered_in h.inn n.inn
    pub lost : (lost_all k gs).inn ≡ in_lost k.inn k.inn.state
    pub node : (node_all n gs).inn ≡ in_met n.inn h.inn.state h.inn.bit
    pub empty : found_empty (grams_all n gs) ≡ reads_in h.inn.state && is_none n.inn.box
    pub read : was_read (grams_all n gs) ≡ reads_in h.inn.state && is_some n.inn.box

  -- a datagram that leaves both
  record Leaves (h k : Halves B) (n : Node B S) (g : Gram B) : Type 0 where
    half : (halves_answered h (met n g).ask (met n g)).inn ≡ h.inn
    lost : (halves_lost k g.ask).inn ≡ k.inn
    node : (node_meets n g.ask).inn ≡ n.inn
    reads : is_read (met n g).ask ≡ false

  other_leaves : (h k : Halves B) (n : Node B S) (g : Gram B) → g.ask ≡ Ask.Other → Leaves h k n g
  other_leaves h k n g e = record {
    half = ap (λ a. (halves_answered h (gram_meets n a g).ask (gram_meets n a g)).inn) e ∙ ap (λ a. (halves_answered h a g).inn) e;
    lost = ap (λ a. (halves_lost k a).inn) e;
    node = ap (λ a. (node_meets n a).inn) e;
    reads = ap (λ a. is_read (gram_meets n a g).ask) e ∙ ap is_read e;
  }

  write_leaves : (h k : Halves B) (n : Node B S) (g : Gram B) (m : LinkMail B) → g.ask ≡ Ask.WriteMail m → Leaves h k n g
  write_leaves h k n g m e = record {
    half = ap (λ a. (halves_answered h (gram_meets n a g).ask (gram_meets n a g)).inn) e ∙ ap (λ a. (halves_answered h a (write_done g n.out.box)).inn) (done n.out.box ∙ e);
    lost = ap (λ a. (halves_lost k a).inn) e;
    node = ap (λ a. (node_meets n a).inn) e;
    reads = ap (λ a. is_read (gram_meets n a g).ask) e ∙ ap is_read (done n.out.box ∙ e);
  }
    where
      done : (box : Option (LinkMail B)) → (write_done g box).ask ≡ g.ask
      done None = refl
      done (Some b) = refl

  -- behind it the rest goes on
  module _ (h k : Halves B) (n : Node B S) (g : Gram B) (gs : List (Gram B)) (l : Leaves h k n g) where
    abbrev h_next : Halves B
    h_next = halves_answered h (met n g).ask (met n g)

    abbrev k_next : Halves B
    k_next = halves_lost k g.ask

    abbrev n_next : Node B S
    n_next = node_meets n g.ask

    quiet_behind : Quiet h_next k_next n_next gs → Quiet h k n (g ∷ gs)
    quiet_behind q = record {
      half = q.half ∙ l.half;
      lost = q.lost ∙ l.lost;
      node = q.node ∙ l.node;
      empty = ap (λ b. (b && ((met n g).counter == 0)) || found_empty (grams_all n_next gs)) l.reads ∙ q.empty;
      read = ap (λ b. (b && not ((met n g).counter == 0)) || was_read (grams_all n_next gs)) l.reads ∙ q.read;
    }

    asked_behind : Asked h_next k_next n_next gs → Asked h k n (g ∷ gs)
    asked_behind q = record {
      half = q.half ∙ ap₂ answered_in l.half l.node;
      lost = q.lost ∙ ap (λ i. in_lost i i.state) l.lost;
      node = q.node ∙ ap₂ (λ (i : InHalf) (s : InSide B). in_met s i.state i.bit) l.half l.node;
      empty = ap (λ b. (b && ((met n g).counter == 0)) || found_empty (grams_all n_next gs)) l.reads ∙ q.empty ∙ ap₂ (λ (i : InHalf) (s : InSide B). reads_in i.state && is_none s.box) l.half l.node;
      read = ap (λ b. (b && not ((met n g).counter == 0)) || was_read (grams_all n_next gs)) l.reads ∙ q.read ∙ ap₂ (λ (i : InHalf) (s : InSide B). reads_in i.state && is_some s.box) l.half l.node;
    }

  -- THE HALF'S OWN datagram
  record Own (h k : Halves B) (n : Node B S) (g : Gram B) : Type 0 where
    half : (halves_answered h (met n g).ask (met n g)).inn ≡ answered_in h.inn n.inn
    lost : (halves_lost k g.ask).inn ≡ in_lost k.inn k.inn.state
    node : (node_meets n g.ask).inn ≡ in_met n.inn h.inn.state h.inn.bit
    empty : is_read (met n g).ask && ((met n g).counter == 0) ≡ reads_in h.inn.state && is_none n.inn.box
    read : is_read (met n g).ask && not ((met n g).counter == 0) ≡ reads_in h.inn.state && is_some n.inn.box

  own_half : (h : Halves B) (n : Node B S) (g : Gram B) (state : InState) → (let a = asking g h.inn state in (halves_answered h (met n a).ask (met n a)).inn ≡ in_half_after h.inn state n.inn.box n.inn.acknowledge Fate.Pass)
  own_half h n g InState.Clear = go n.inn.box
    where
      go : (box : Option (LinkMail B)) → (let b = read_done (asking g h.inn InState.Clear) box in (halves_answered h b.ask b).inn ≡ in_half_after h.inn InState.Clear box n.inn.acknowledge Fate.Pass)
      go None = refl
      go (Some m) = refl
  own_half h n g InState.Doubt = refl
  own_half h n g InState.Asked = refl
  own_half h n g InState.Refetch = go n.inn.box
    where
      go : (box : Option (LinkMail B)) → (let b = read_done (asking g h.inn InState.Refetch) box in (halves_answered h b.ask b).inn ≡ in_half_after h.inn InState.Refetch box n.inn.acknowledge Fate.Pass)
      go None = refl
      go (Some m) = refl

  own_node : (n : Node B S) (state : InState) (bit : Bool) → (node_meets n (in_ask state bit)).inn ≡ in_met n.inn state bit
  own_node n InState.Clear bit = refl
  own_node n InState.Doubt bit = refl
  own_node n InState.Asked bit = refl
  own_node n InState.Refetch bit = refl

  own_found : (n : Node B S) (g : Gram B) (i : InHalf) (state : InState) → (let a = asking g i state in
      (is_read (met n a).ask && ((met n a).counter == 0) ≡ reads_in state && is_none n.inn.box) × (is_read (met n a).ask && not ((met n a).counter == 0) ≡ reads_in state && is_some n.inn.box))
  own_found n g i InState.Clear = go n.inn.box
    where
      go : (box : Option (LinkMail B)) → (let b = read_done (asking g i InState.Clear) box in (is_read b.ask && (b.counter == 0) ≡ is_none box) × (is_read b.ask && not (b.counter == 0) ≡ is_some box))
      go None = (refl, refl)
      go (Some m) = (refl, refl)
  own_found n g i InState.Doubt = (refl, refl)
  own_found n g i InState.Asked = (refl, refl)
  own_found n g i InState.Refetch = go n.inn.box
    where
      go : (box : Option (LinkMail B)) → (let b = read_done (asking g i InState.Refetch) box in (is_read b.ask && (b.counter == 0) ≡ is_none box) × (is_read b.ask && not (b.counter == 0) ≡ is_some box))
      go None = (refl, refl)
      go (Some m) = (refl, refl)

  owns : (h k : Halves B) (n : Node B S) (g : Gram B) → k.inn ≡ h.inn → g.ask ≡ in_ask h.inn.state h.inn.bit → g.counter ≡ 0 → Own h k n g
  owns h k n g same e c =
      let is = is_asking g h.inn e c in
      let found = own_found n g h.inn h.inn.state in
      record {
        half = ap (λ (b : Gram B). (halves_answered h (met n b).ask (met n b)).inn) (sym is) ∙ own_half h n g h.inn.state;
        lost = ap (λ a. (halves_lost k a).inn) (e ∙ ap (λ (i : InHalf). in_ask i.state i.bit) (sym same)) ∙ own_lost k k.inn.state;
        node = ap (λ a. (node_meets n a).inn) e ∙ own_node n h.inn.state h.inn.bit;
        empty = ap (λ (b : Gram B). is_read (met n b).ask && ((met n b).counter == 0)) (sym is) ∙ found.0;
        read = ap (λ (b : Gram B). is_read (met n b).ask && not ((met n b).counter == 0)) (sym is) ∙ found.1;
      }

  own_first : (h k : Halves B) (n : Node B S) (g : Gram B) (gs : List (Gram B)) → Own h k n g → Quiet (halves_answered h (met n g).ask (met n g)) (halves_lost k g.ask) (node_meets n g.ask) gs → Asked h k n (g ∷ gs)
  own_first h k n g gs o q = record {
    half = q.half ∙ o.half;
    lost = q.lost ∙ o.lost;
    node = q.node ∙ o.node;
    empty = or_none _ _ q.empty ∙ o.empty;
    read = or_none _ _ q.read ∙ o.read;
  }

  -- behind the half's datagram no further one is its own
  none_way : (held : Option (LinkMail B)) (inn : Option InHalf) (gs : List (Gram B)) → IsSent held inn gs → inn ≡ None → (h k : Halves B) (n : Node B S) → Quiet h k n gs
  none_way held inn gs nothing e h k n = record { half = refl; lost = refl; node = refl; empty = refl; read = refl }
  none_way held inn gs (other g later a rest) e h k n = let l = other_leaves h k n g a in quiet_behind h k n g later l (none_way held inn later rest e _ _ _)
  none_way held inn gs (write m g later a c rest) e h k n = let l = write_leaves h k n g m a in quiet_behind h k n g later l (none_way None inn later rest e _ _ _)
  none_way held inn gs (inward i g later a c rest) e h k n = absurd (let bad : Some i ≡ None = e in cc)

  pub way : (held : Option (LinkMail B)) (inn : Option InHalf) (gs : List (Gram B)) → IsSent held inn gs → (i : InHalf) → inn ≡ Some i → (h k : Halves B) (n : Node B S) → h.inn ≡ i → k.inn ≡ i → Quiet h k n gs ⊎ Asked h k n gs
  way held inn gs nothing i e h k n f g = inl (record { half = refl; lost = refl; node = refl; empty = refl; read = refl })
  way held inn gs (other g later a rest) i e h k n f b =
      let l = other_leaves h k n g a in
      elim (way held inn later rest i e (halves_answered h (met n g).ask (met n g)) (halves_lost k g.ask) (node_meets n g.ask) (l.half ∙ f) (l.lost ∙ b)) [
        | inl q ↦ inl (quiet_behind h k n g later l q)
        | inr q ↦ inr (asked_behind h k n g later l q)
      ]
  way held inn gs (write m g later a c rest) i e h k n f b =
      let l = write_leaves h k n g m a in
      elim (way None inn later rest i e (halves_answered h (met n g).ask (met n g)) (halves_lost k g.ask) (node_meets n g.ask) (l.half ∙ f) (l.lost ∙ b)) [
        | inl q ↦ inl (quiet_behind h k n g later l q)
        | inr q ↦ inr (asked_behind h k n g later l q)
      ]
  way held inn gs (inward j g later a c rest) i e h k n f b =
      let same : j ≡ i = cc in
      let o = owns h k n g (b ∙ sym f) (a ∙ ap (λ (l : InHalf). in_ask l.state l.bit) (same ∙ sym f)) c in
      inr (own_first h k n g later o (none_way held None later rest refl _ _ _))
