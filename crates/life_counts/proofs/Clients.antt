-- A MASTER'S CLIENT, by its names, and the one that sees what is meant by mails: they plan and end a row alike, and it is over for both.
use Rattle.std.proofs.Common.{◌≡◌, ℕ, ◌&&◌, Bool, true, false, not, is_none, is_some, Option, None, Some, option_map, List, map, refl, ap, ap₂, sym, ◌∙◌, subst, if◌then◌else◌}
use Rattle.std.specs.Prelude.{⊤}
use Rattle.master_hand.specs.of_exchange_model.Exchange.{Exchange, Speech, plain}
use Rattle.master_hand.specs.of_exchange_model.Rows.{Row, left}
use Rattle.few_replies.specs.of_link_model.Mails.{LinkMail}
use Rattle.few_replies.specs.Calm.{calm_tagged}
use Rattle.few_replies.specs.Client.{ByContents}
use Rattle.few_replies.specs.Erased.{row_seen, PlanOne, EndOne}
use Rattle.few_replies.proofs.Clients.{plain_untag, untag_told}
use Rattle.few_replies.proofs.Naturals.{none_of}
use Rattle.master_hand.specs.of_segment_model.Seats.{is_none_left, is_over}
use Rattle.master_hand.specs.of_serving_model.Erasing.{box_as}
use Rattle.master_hand.specs.of_serving_model.Passing.{ends_told}
use Rattle.master_hand.specs.of_serving_model.Tagged.{Tagged, Asked, untag, is_own, ends_marked}
use Rattle.life_counts.specs.Spoken.{Naming, IsScript, IsPassed}

module _ {V M Q R T : Type 0} (x : Exchange V V M Q R) (calm : V → Bool) (fair : M → Bool) (acknowledged : Q → Bool) (n : Naming M Q T R) (emission : n.speech.emission ≡ x.speech.emission) where
  abbrev pub Meant : Type 0
  Meant = Tagged M Q

  abbrev mail : Meant → M
  mail t = t.mail

  abbrev same : Option R → Option R
  same r = r

  abbrev pub MeantRow : Type 0
  MeantRow = Row Meant (Asked M Q) (Option R)

  abbrev y : Speech Meant (Asked M Q) (Option R)
  y = (calm_tagged x calm fair).speech

  -- what is known of the name of a service
  abbrev pub IsKnown : Asked M Q → Type 0
  IsKnown (Asked.Script q) = IsScript n x.speech acknowledged q (n.name (Asked.Script q))
  IsKnown (Asked.Passed m answers) = IsPassed n m (n.name (Asked.Passed m answers))

  -- its replies are marked as their contents tell, where it passes a mail on
  abbrev pub MarksSame : Asked M Q → List Meant → Type 0
  MarksSame (Asked.Script q) hs = ⊤
  MarksSame (Asked.Passed m answers) hs = (answers && ends_marked (plain (λ (t : Meant). is_own t.meant) hs)) ≡ ends_told n.more (untag (plain (λ (t : Meant). is_own t.meant) hs))

  pub heard_same : (hs : List Meant) → ByContents x.speech.emission hs → untag (plain (λ (t : Meant). is_own t.meant) hs) ≡ plain n.speech.emission (map mail hs)
  heard_same hs by = plain_untag x.speech.emission hs by ∙ ap (λ (e : M → Bool). plain e (map mail hs)) (sym emission)

  pub plans : (q : Asked M Q) → IsKnown q → (hs : List Meant) → ByContents x.speech.emission hs → PlanOne mail n.name same y n.speech q hs
  plans (Asked.Script q) k hs by =
      untag_told q (x.speech.planned q (untag (plain (λ (t : Meant). is_own t.meant) hs))) ∙ ap (x.speech.planned q) (heard_same hs by) ∙ sym (k.planned (plain n.speech.emission (map mail hs)))
  plans (Asked.Passed m answers) k hs by = sym (k.planned (plain n.speech.emission (map mail hs)))

  -- a service that ends with its last write ends so by its name too
  pub hands : (q : Asked M Q) → IsKnown q → y.handed q ≡ true → n.speech.handed (n.name q) ≡ true
  hands (Asked.Script q) k handed = k.handed ∙ handed
  hands (Asked.Passed m answers) k handed = k.handed

  same_is : (found : Option (Option R)) → option_map same found ≡ found
  same_is None = refl
  same_is (Some r) = refl

  pub ends : (q : Asked M Q) → IsKnown q → (hs : List Meant) → ByContents x.speech.emission hs → MarksSame q hs → EndOne mail n.name same y n.speech q hs
  ends (Asked.Script q) k hs by marks =
      same_is (y.ends (Asked.Script q) (plain y.emission hs)) ∙ ap (λ l. option_map (λ r. Some r) (x.speech.ends q l)) (heard_same hs by) ∙ sym (k.ends (plain n.speech.emission (map mail hs)))
  ends (Asked.Passed m answers) k hs by marks =
      same_is (y.ends (Asked.Passed m answers) (plain y.emission hs)) ∙ ap (λ b. if b then Some None else None) (marks ∙ ap (ends_told n.more) (heard_same hs by)) ∙ sym (k.ends (plain n.speech.emission (map mail hs)))

  -- A ROW IS OVER for the one where it is for the other, which holds a mail that is passed on and has no answer over as soon as it is written; so, where
  -- it is answered, its answer has to be there then
  abbrev pub HasEnded : Asked M Q → Option (LinkMail Meant) → Bool → MeantRow → Type 0
  HasEnded (Asked.Script q) holding fresh r = ⊤
  HasEnded (Asked.Passed m false) holding fresh r = ⊤
  HasEnded (Asked.Passed m true) holding fresh r = is_none holding ≡ true → (is_some r.answer && not fresh) ≡ true

  both_of : (a b : Bool) → (a && b) ≡ true → (a ≡ true) × (b ≡ true)
  both_of true b e = (refl, e)
  both_of false b e = absurd (let no : false ≡ true = e in cc)

  none_box : (box : Option (LinkMail Meant)) → is_none (box_as mail box) ≡ is_none box
  none_box None = refl
  none_box (Some m) = refl

  abbrev answer_of : Option (Option R × ℕ) → Option (Option R × ℕ)
  answer_of a = option_map (λ k. (same k.0, k.1)) a

  some_answer : (a : Option (Option R × ℕ)) → is_some (answer_of a) ≡ is_some a
  some_answer None = refl
  some_answer (Some a) = refl

  none_answer : (a : Option (Option R × ℕ)) → is_none (answer_of a) ≡ is_none a
  none_answer None = refl
  none_answer (Some a) = refl

  pub overs : (r : MeantRow) (q : Asked M Q) → r.service ≡ q → IsKnown q → ByContents x.speech.emission r.heard → (holding : Option (LinkMail Meant)) (fresh : Bool) → HasEnded q holding fresh r →
      is_over n.speech (box_as mail holding) fresh (row_seen mail n.name same r) ≡ true → is_over y holding fresh r ≡ true
  overs r q e k by holding fresh ended over =
      ap₂ (λ (a b : Bool). a && b) (none_of mail n.name same y n.speech r plan ∙ parts.0) (kind q e k ended last)
    where
      plan : PlanOne mail n.name same y n.speech r.service r.heard
      plan = plans r.service (subst IsKnown (sym e) k) r.heard by

      parts : (is_none_left (left n.speech (row_seen mail n.name same r)) ≡ true)
          × ((if n.speech.handed (n.name r.service) && is_none (row_seen mail n.name same r).answer then is_none (box_as mail holding) else is_some (row_seen mail n.name same r).answer && not fresh) ≡ true)
      parts = both_of (is_none_left (left n.speech (row_seen mail n.name same r))) (if n.speech.handed (n.name r.service) && is_none (row_seen mail n.name same r).answer then is_none (box_as mail holding) else is_some (row_seen mail n.name same r).answer && not fresh) over

      last : (if n.speech.handed (n.name r.service) && is_none r.answer then is_none holding else is_some r.answer && not fresh) ≡ true
      last = sym (λ i. if n.speech.handed (n.name r.service) && none_answer r.answer i then none_box holding i else some_answer r.answer i && not fresh) ∙ parts.1

      answered : (is_none holding ≡ true → (is_some r.answer && not fresh) ≡ true) → (a : Option (Option R × ℕ)) → (if is_none a then is_none holding else is_some r.answer && not fresh) ≡ true → (is_some r.answer && not fresh) ≡ true
      answered ended None f = ended f
      answered ended (Some a) f = f

      kind : (q : Asked M Q) → r.service ≡ q → IsKnown q → HasEnded q holding fresh r → (if n.speech.handed (n.name r.service) && is_none r.answer then is_none holding else is_some r.answer && not fresh) ≡ true →
          (if y.handed r.service && is_none r.answer then is_none holding else is_some r.answer && not fresh) ≡ true
      kind (Asked.Script q) e k ended last =
          ap (λ b. if b && is_none r.answer then is_none holding else is_some r.answer && not fresh) (ap y.handed e ∙ sym k.handed ∙ ap (λ z. n.speech.handed (n.name z)) (sym e)) ∙ last
      kind (Asked.Passed m true) e k ended last =
          ap (λ b. if b && is_none r.answer then is_none holding else is_some r.answer && not fresh) (ap y.handed e)
          ∙ answered ended r.answer (ap (λ b. if b && is_none r.answer then is_none holding else is_some r.answer && not fresh) (sym (ap (λ z. n.speech.handed (n.name z)) e ∙ k.handed)) ∙ last)
      kind (Asked.Passed m false) e k ended last =
          ap (λ b. if b && is_none r.answer then is_none holding else is_some r.answer && not fresh) (ap y.handed e ∙ sym k.handed ∙ ap (λ z. n.speech.handed (n.name z)) (sym e)) ∙ last
