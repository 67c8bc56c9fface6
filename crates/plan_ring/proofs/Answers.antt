-- What comes back of the inward half's own datagram.
use Rattle.std.proofs.Common.{◌≡◌, ℕ, Bool, true, false, Option, Some, None, List, [], ◌∷◌, refl, sym, ap, ◌∙◌, subst}
use Rattle.whole_ring.specs.of_link_model.Frames.{Ask, Gram, IsSent, grams_after, gram_meets}
use Rattle.whole_ring.specs.of_link_model.Mails.{LinkMail}
use Rattle.whole_ring.specs.of_link_model.Master.{InHalf}
use Rattle.whole_ring.specs.of_link_model.Slave.{Node}
use Rattle.plan_ring.specs.SlaveAsked.{AllHere, AllAsk}
use Rattle.plan_ring.proofs.Goes.{gram_is}

abbrev is_other : {B : Type 0} → Ask B → Bool
is_other (Ask.WriteMail m) = true
is_other Ask.ReadMail = false
is_other (Ask.WriteRequest bit) = false
is_other Ask.ReadAcknowledge = false
is_other Ask.Other = true

other_not : {X B : Type 0} (a b : Ask B) → is_other a ≡ true → is_other b ≡ false → a ≡ b → X
other_not a b e f same = absurd (let no : true ≡ false = sym e ∙ ap is_other same ∙ f in cc)

-- no other datagram asks so
module _ {B : Type 0} (a : Ask B) (plain : is_other a ≡ false) where
  none_left : (held : Option (LinkMail B)) (gs : List (Gram B)) → IsSent held None gs → AllAsk a gs → gs ≡ []
  none_left held _ IsSent.nothing asks = refl
  none_left held _ (IsSent.other g gs ask sent) asks = other_not Ask.Other a refl plain (sym ask ∙ asks.0)
  none_left _ _ (IsSent.write m g gs ask zero sent) asks = other_not (Ask.WriteMail m) a refl plain (sym ask ∙ asks.0)

-- so it is the one, as it is sent
module _ {B S : Type 0} (station : ℕ) (a : Ask B) (plain : is_other a ≡ false) where
  module _ (Q : List (Gram B) → Type 0) (n : Node B S) (empty : Q []) (one : (g : Gram B) → g.counter ≡ 0 → Q (gram_meets n a g ∷ [])) where
    pub just_one : (held : Option (LinkMail B)) (inn : InHalf) (gs : List (Gram B)) → IsSent held (Some inn) gs → AllHere station gs → AllAsk a gs → Q (grams_after station n gs)
    just_one held inn _ IsSent.nothing here asks = empty
    just_one held inn _ (IsSent.other g gs ask sent) here asks = other_not Ask.Other a refl plain (sym ask ∙ asks.0)
    just_one _ inn _ (IsSent.write m g gs ask zero sent) here asks = other_not (Ask.WriteMail m) a refl plain (sym ask ∙ asks.0)
    just_one held inn _ (IsSent.inward i g gs ask zero sent) here asks =
        let none = none_left a plain held gs sent asks.1 in
        subst (λ l. Q (grams_after station n (g ∷ l))) (sym none) (subst (λ z. Q (z ∷ [])) (sym (gram_is station g [] a asks.0 here.0 n)) (one g zero))
