-- The request stands, datagram by datagram.
use Rattle.std.proofs.Common.{◌≡◌, ℕ, ◌==◌, Bool, true, false, Option, Some, None, List, ◌∷◌, refl, sym, ap, ◌∙◌, subst, if◌then◌else◌}
use Rattle.std.specs.Prelude.{⊤}
use Rattle.whole_ring.specs.of_link_model.Frames.{Ask, Gram, IsSent, grams_after, node_after, halves_after, halves_without, halves_answered, halves_lost, node_meets, gram_meets, write_done, read_done, in_ask}
use Rattle.whole_ring.specs.of_link_model.Link.{Halves}
use Rattle.whole_ring.specs.of_link_model.Mails.{LinkMail, differs}
use Rattle.whole_ring.specs.of_link_model.Master.{InHalf, InState}
use Rattle.whole_ring.specs.of_link_model.Slave.{InSide, Node}
use Rattle.plan_ring.specs.SlaveAsked.{AllHere, IsAsked, GoesOn}

-- what a slave leaves of a datagram
pub record Kept {B : Type 0} (g h : Gram B) : Type 0 where
  pub station : h.station ≡ g.station
  pub ask : h.ask ≡ g.ask

pub gram_kept : {B S : Type 0} (n : Node B S) (a : Ask B) (g : Gram B) → Kept g (gram_meets n a g)
gram_kept {B} n (Ask.WriteMail m) g = go n.out.box
  where
    go : (b : Option (LinkMail B)) → Kept g (write_done g b)
    go None = record { station = refl; ask = refl }
    go (Some x) = record { station = refl; ask = refl }
gram_kept {B} n Ask.ReadMail g = go n.inn.box
  where
    go : (b : Option (LinkMail B)) → Kept g (read_done g b)
    go None = record { station = refl; ask = refl }
    go (Some x) = record { station = refl; ask = refl }
gram_kept n (Ask.WriteRequest bit) g = record { station = refl; ask = refl }
gram_kept n Ask.ReadAcknowledge g = record { station = refl; ask = refl }
gram_kept n Ask.Other g = record { station = refl; ask = refl }

abbrev is_asked : InState → Bool
is_asked InState.Clear = false
is_asked InState.Doubt = false
is_asked InState.Asked = true
is_asked InState.Refetch = false

never : {X : Type 0} (st : InState) → is_asked st ≡ false → (z : InState) → z ≡ st → z ≡ InState.Asked → X
never st e z s a = absurd (let no : false ≡ true = sym e ∙ ap is_asked (sym s ∙ a) in cc)

-- the inward half's datagram is yet to come: the half is as it was
abbrev pub Yet : InHalf → Option InHalf → InHalf → Type 0
Yet h0 None k = ⊤
Yet h0 (Some i) k = (i ≡ h0) × (k ≡ h0)

-- a lost datagram to this station
module _ {B : Type 0} (station : ℕ) (g : Gram B) (gs : List (Gram B)) (a : Ask B) (ask : g.ask ≡ a) (here : (g.station == station) ≡ true) where
  lost_is : (h : Halves B) → (if g.station == station then halves_lost h g.ask else h) ≡ halves_lost h a
  lost_is h = ap (λ b. if b then halves_lost h g.ask else h) here ∙ ap (halves_lost h) ask

  one_unmet : (Q : InHalf → Type 0) (h : Halves B) → Q (halves_without station (halves_lost h a) gs).inn → Q (halves_without station h (g ∷ gs)).inn
  one_unmet Q h q = subst (λ (k : Halves B). Q (halves_without station k gs).inn) (sym (lost_is h)) q

module _ {B : Type 0} (h0 : InHalf) (n0 : InSide B) where
  abbrev Goes : InHalf → InSide B → Type 0
  Goes k m = GoesOn h0 n0 k m

  -- nothing is awaited any more, and nothing was
  quiet : (st su : InState) → is_asked st ≡ false → is_asked su ≡ false → h0.state ≡ su → (k : InHalf) (m : InSide B) → k.state ≡ st → Goes k m
  quiet st su e f was k m is = record {
    asked = λ a. never st e k.state is a;
    bit = λ a. never su f h0.state was a;
    request = λ a. never su f h0.state was a;
    acknowledge = λ a. never su f h0.state was a;
  }

  in_unmet : (st : InState) (h : Halves B) (m : InSide B) → h.inn ≡ h0 → h0.state ≡ st → Goes h.inn m → Goes (halves_lost h (in_ask st h0.bit)).inn m
  in_unmet InState.Clear h m same was q = quiet InState.Doubt InState.Clear refl refl was _ _ refl
  in_unmet InState.Refetch h m same was q = quiet InState.Doubt InState.Refetch refl refl was _ _ refl
  in_unmet InState.Doubt h m same was q = q
  in_unmet InState.Asked h m same was q = q

  pub all_unmet : (station : ℕ) (m : InSide B) (held : Option (LinkMail B)) (inn : Option InHalf) (gs : List (Gram B)) → IsSent held inn gs → AllHere station gs → (h : Halves B) → Yet h0 inn h.inn → Goes h.inn m → Goes (halves_without station h gs).inn m
  all_unmet station m held inn _ IsSent.nothing here h yet q = q
  all_unmet station m held inn _ (IsSent.other g gs ask sent) here h yet q = one_unmet station g gs Ask.Other ask here.0 (λ k. Goes k m) h (all_unmet station m held inn gs sent here.1 h yet q)
  all_unmet station m _ inn _ (IsSent.write l g gs ask zero sent) here h yet q = one_unmet station g gs (Ask.WriteMail l) ask here.0 (λ k. Goes k m) h (all_unmet station m None inn gs sent here.1 h yet q)
  all_unmet station m held _ _ (IsSent.inward i g gs ask zero sent) here h yet q =
      let asks : g.ask ≡ in_ask h0.state h0.bit = ask ∙ ap (λ (k : InHalf). in_ask k.state k.bit) yet.0 in
      one_unmet station g gs (in_ask h0.state h0.bit) asks here.0 (λ k. Goes k m) h (all_unmet station m held None gs sent here.1 (halves_lost h (in_ask h0.state h0.bit)) tt (in_unmet h0.state h m yet.1 refl q))

pub first : {B : Type 0} (h : InHalf) (n : InSide B) → IsAsked h n → GoesOn h n h n
first h n asked = record { asked = asked; bit = λ a. refl; request = λ a. refl; acknowledge = λ a. refl }

module _ {B S : Type 0} (station : ℕ) where
  -- ONE DATAGRAM to this station
  module _ (g : Gram B) (gs : List (Gram B)) (a : Ask B) (ask : g.ask ≡ a) (here : (g.station == station) ≡ true) where
    pub node_is : (n : Node B S) → (if g.station == station then node_meets n g.ask else n) ≡ node_meets n a
    node_is n = ap (λ b. if b then node_meets n g.ask else n) here ∙ ap (node_meets n) ask

    pub gram_is : (n : Node B S) → (if g.station == station then gram_meets n g.ask g else g) ≡ gram_meets n a g
    gram_is n = ap (λ b. if b then gram_meets n g.ask g else g) here ∙ ap (λ z. gram_meets n z g) ask

    half_is : (h : Halves B) (n : Node B S) →
        (let g' = if g.station == station then gram_meets n g.ask g else g in if g'.station == station then halves_answered h g'.ask g' else h) ≡ halves_answered h a (gram_meets n a g)
    half_is h n =
        ap (λ (z : Gram B). if z.station == station then halves_answered h z.ask z else h) (gram_is n)
        ∙ ap (λ (b : Bool). if b then halves_answered h (gram_meets n a g).ask (gram_meets n a g) else h) (ap (λ s. s == station) (gram_kept n a g).station ∙ here)
        ∙ ap (λ z. halves_answered h z (gram_meets n a g)) ((gram_kept n a g).ask ∙ ask)

    pub one_back : (Q : InHalf → InSide B → Type 0) (h : Halves B) (n : Node B S) →
        Q (halves_after station (halves_answered h a (gram_meets n a g)) (grams_after station (node_meets n a) gs)).inn (node_after station (node_meets n a) gs).inn →
        Q (halves_after station h (grams_after station n (g ∷ gs))).inn (node_after station n (g ∷ gs)).inn
    one_back Q h n q =
        subst (λ (k : Halves B). Q (halves_after station k (grams_after station (if g.station == station then node_meets n g.ask else n) gs)).inn (node_after station (if g.station == station then node_meets n g.ask else n) gs).inn) (sym (half_is h n))
        (subst (λ (m : Node B S). Q (halves_after station (halves_answered h a (gram_meets n a g)) (grams_after station m gs)).inn (node_after station m gs).inn) (sym (node_is n)) q)

    pub one_lost : (Q : InHalf → InSide B → Type 0) (h : Halves B) (n : Node B S) →
        Q (halves_without station (halves_lost h a) gs).inn (node_after station (node_meets n a) gs).inn → Q (halves_without station h (g ∷ gs)).inn (node_after station n (g ∷ gs)).inn
    one_lost Q h n q =
        subst (λ (k : Halves B). Q (halves_without station k gs).inn (node_after station (if g.station == station then node_meets n g.ask else n) gs).inn) (sym (lost_is station g gs a ask here h))
        (subst (λ (m : Node B S). Q (halves_without station (halves_lost h a) gs).inn (node_after station m gs).inn) (sym (node_is n)) q)

  module _ (h0 : InHalf) (n0 : InSide B) where
    -- THE INWARD HALF'S DATAGRAM came back
    in_back : (st : InState) (h : Halves B) (n : Node B S) (g : Gram B) → h.inn ≡ h0 → h0.state ≡ st → Goes h0 n0 h.inn n.inn → Goes h0 n0 (halves_answered h (in_ask st h0.bit) g).inn (node_meets n (in_ask st h0.bit)).inn
    in_back InState.Clear h n g same was q = quiet h0 n0 InState.Clear InState.Clear refl refl was _ _ refl
    in_back InState.Refetch h n g same was q = quiet h0 n0 InState.Clear InState.Refetch refl refl was _ _ refl
    in_back InState.Doubt h n g same was q = go (g.counter == 0)
      where
        go : (b : Bool) → Goes h0 n0 (if b then h.inn else record h.inn { state = InState.Asked }) (record n.inn { request = h0.bit })
        go true = quiet h0 n0 InState.Doubt InState.Doubt refl refl was h.inn _ (ap (λ k. k.state) same ∙ was)
        go false = record {
          asked = λ a. ap (λ k. k.bit) (sym same);
          bit = λ a. never InState.Doubt refl h0.state was a;
          request = λ a. never InState.Doubt refl h0.state was a;
          acknowledge = λ a. never InState.Doubt refl h0.state was a;
        }
    in_back InState.Asked h n g same was q = go (g.counter == 0) (differs g.acknowledge h.inn.bit)
      where
        go : (b c : Bool) → Goes h0 n0 (if b then h.inn else if c then h.inn else record h.inn { state = InState.Refetch }) n.inn
        go true c = q
        go false true = q
        go false false = record { asked = λ a. never InState.Refetch refl InState.Refetch refl a; bit = q.bit; request = q.request; acknowledge = q.acknowledge }

    -- it was lost, and met or not
    in_met : (st : InState) (h : Halves B) (n : Node B S) → h.inn ≡ h0 → h0.state ≡ st → Goes h0 n0 h.inn n.inn → Goes h0 n0 (halves_lost h (in_ask st h0.bit)).inn (node_meets n (in_ask st h0.bit)).inn
    in_met InState.Clear h n same was q = quiet h0 n0 InState.Doubt InState.Clear refl refl was _ _ refl
    in_met InState.Refetch h n same was q = quiet h0 n0 InState.Doubt InState.Refetch refl refl was _ _ refl
    in_met InState.Doubt h n same was q = quiet h0 n0 InState.Doubt InState.Doubt refl refl was h.inn _ (ap (λ k. k.state) same ∙ was)
    in_met InState.Asked h n same was q = q

    -- ---- datagram by datagram
    pub all_back : (held : Option (LinkMail B)) (inn : Option InHalf) (gs : List (Gram B)) → IsSent held inn gs → AllHere station gs → (h : Halves B) (n : Node B S) → Yet h0 inn h.inn → Goes h0 n0 h.inn n.inn →
        Goes h0 n0 (halves_after station h (grams_after station n gs)).inn (node_after station n gs).inn
    all_back held inn _ IsSent.nothing here h n yet q = q
    all_back held inn _ (IsSent.other g gs ask sent) here h n yet q = one_back g gs Ask.Other ask here.0 (Goes h0 n0) h n (all_back held inn gs sent here.1 h n yet q)
    all_back _ inn _ (IsSent.write m g gs ask zero sent) here h n yet q =
        one_back g gs (Ask.WriteMail m) ask here.0 (Goes h0 n0) h n (all_back None inn gs sent here.1 (halves_answered h (Ask.WriteMail m) (gram_meets n (Ask.WriteMail m) g)) (node_meets n (Ask.WriteMail m)) yet q)
    all_back held _ _ (IsSent.inward i g gs ask zero sent) here h n yet q =
        let asks : g.ask ≡ in_ask h0.state h0.bit = ask ∙ ap (λ (k : InHalf). in_ask k.state k.bit) yet.0 in
        one_back g gs (in_ask h0.state h0.bit) asks here.0 (Goes h0 n0) h n
        (all_back held None gs sent here.1 (halves_answered h (in_ask h0.state h0.bit) (gram_meets n (in_ask h0.state h0.bit) g)) (node_meets n (in_ask h0.state h0.bit)) tt
        (in_back h0.state h n (gram_meets n (in_ask h0.state h0.bit) g) yet.1 refl q))

    pub all_lost : (held : Option (LinkMail B)) (inn : Option InHalf) (gs : List (Gram B)) → IsSent held inn gs → AllHere station gs → (h : Halves B) (n : Node B S) → Yet h0 inn h.inn → Goes h0 n0 h.inn n.inn →
        Goes h0 n0 (halves_without station h gs).inn (node_after station n gs).inn
    all_lost held inn _ IsSent.nothing here h n yet q = q
    all_lost held inn _ (IsSent.other g gs ask sent) here h n yet q = one_lost g gs Ask.Other ask here.0 (Goes h0 n0) h n (all_lost held inn gs sent here.1 h n yet q)
    all_lost _ inn _ (IsSent.write m g gs ask zero sent) here h n yet q =
        one_lost g gs (Ask.WriteMail m) ask here.0 (Goes h0 n0) h n (all_lost None inn gs sent here.1 h (node_meets n (Ask.WriteMail m)) yet q)
    all_lost held _ _ (IsSent.inward i g gs ask zero sent) here h n yet q =
        let asks : g.ask ≡ in_ask h0.state h0.bit = ask ∙ ap (λ (k : InHalf). in_ask k.state k.bit) yet.0 in
        one_lost g gs (in_ask h0.state h0.bit) asks here.0 (Goes h0 n0) h n
        (all_lost held None gs sent here.1 (halves_lost h (in_ask h0.state h0.bit)) (node_meets n (in_ask h0.state h0.bit)) tt (in_met h0.state h n yet.1 refl q))
