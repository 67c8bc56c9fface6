-- What is due where it is seen what is meant by mails is due to the master, by its names.
use Rattle.std.proofs.Common.{◌≡◌, inl, inr, ℕ, Bool, true, false, Option, None, Some, option_map, List, [], ◌∷◌, ◌++◌, map, refl, sym, ap, ◌∙◌, if◌then◌else◌}
use Rattle.std.proofs.lemmas.List.{map-append}
use Rattle.idle_slaves.specs.of_exchange_model.Exchange.{Exchange, Speech, plain}
use Rattle.idle_slaves.specs.of_exchange_model.Rows.{Row, left}
use Rattle.served_rings.specs.of_few_replies.Calm.{calm_tagged}
use Rattle.served_rings.specs.of_master_side.Due.{EachDue, IsAwaited, IsDue, IsReply}
use Rattle.served_rings.specs.of_few_replies.Client.{ByContents}
use Rattle.served_rings.specs.of_few_replies.Erased.{OfRow, row_seen}
use Rattle.served_rings.proofs.of_few_replies.Clients.{plain_untag}
use Rattle.seen_slaves.proofs.Left.{left_as}
use Rattle.served_rings.specs.of_serving_model.Passing.{ends_told}
use Rattle.served_rings.specs.of_serving_model.Tagged.{Asked, Tagged, is_own, untag}
use Rattle.idle_slaves.specs.of_state_model.Stated.{Stated}
use Rattle.served_rings.specs.of_life_counts.Spoken.{Naming, Speaks}
use Rattle.served_rings.proofs.of_life_counts.Begins.{NowKnown, RowKnown}
use Rattle.served_rings.proofs.of_life_counts.Clients.{IsKnown, plans}

module _ {V M Q R T : Type 0} (x : Exchange V V M Q R) (calm : V → Bool) (fair : M → Bool) (s : Stated V V Q) (n : Naming M Q T R) (speaks : Speaks n x.speech s.acknowledged) where
  abbrev Meant : Type 0
  Meant = Tagged M Q

  abbrev MeantRow : Type 0
  MeantRow = Row (Tagged M Q) (Asked M Q) (Option R)

  abbrev mail : Meant → M
  mail t = t.mail

  abbrev same : Option R → Option R
  same a = a

  abbrev y : Speech Meant (Asked M Q) (Option R)
  y = (calm_tagged x calm fair).speech

  abbrev seen : MeantRow → Row M T (Option R)
  seen r = row_seen mail n.name same r

  abbrev replies : List Meant → List Meant
  replies ts = plain (λ (t : Meant). is_own t.meant) ts

  -- WHAT FOLLOWS a reply to a mail that is passed on, up to the last, where it has no answer yet
  abbrev pub HasRest : MeantRow → Meant → Type 0
  HasRest r b = is_own b.meant ≡ false → r.answer ≡ None → (m : M) → r.service ≡ Asked.Passed m true → (rest : List M) × (ends_told n.more (untag (plain (λ (t : Tagged M Q). is_own t.meant) r.heard) ++ b.mail ∷ rest) ≡ true)

  heard_same : (ts : List Meant) → ByContents x.speech.emission ts → untag (replies ts) ≡ plain n.speech.emission (map mail ts)
  heard_same ts by = plain_untag x.speech.emission ts by ∙ ap (λ (e : M → Bool). plain e (map mail ts)) (sym speaks.emission)

  module _ (r : MeantRow) (known : RowKnown x calm fair s n speaks r) (b : Meant) (k : IsReply y r b) where
    abbrev hs : List M
    hs = plain n.speech.emission (map mail r.heard)

    told : left n.speech (seen r) ≡ []
    told = left_as mail n.name same y n.speech r (plans x calm fair s.acknowledged n speaks.emission r.service known.known r.heard known.by) ∙ ap (λ (l : List Meant). map mail l) k.told

    none : (seen r).answer ≡ None
    none = ap (λ (a : Option (Option R × ℕ)). option_map (λ (z : Option R × ℕ). (same z.0, z.1)) a) k.unanswered

    -- by its name
    by : (q : Asked M Q) → r.service ≡ q → IsKnown x calm fair s.acknowledged n speaks.emission q → HasRest r b → is_own b.meant ≡ false → IsReply n.speech (seen r) b.mail
    by (Asked.Script q) e name rest plainly =
        let all : List Meant = replies r.heard ++ b ∷ k.rest in
        let over : y.ends (Asked.Script q) all ≡ Some k.reply = ap (λ (z : Asked M Q). y.ends z all) (sym e) ∙ k.ends in
        let mine : List M = hs ++ b.mail ∷ untag k.rest in
        let list : mine ≡ untag all = ap (λ (l : List M). l ++ b.mail ∷ untag k.rest) (sym (heard_same r.heard known.by)) ∙ sym (map-append mail (replies r.heard) (b ∷ k.rest)) in
        record {
          told = told;
          unanswered = none;
          rest = untag k.rest;
          reply = k.reply;
          ends = ap (λ (z : Asked M Q). n.speech.ends (n.name z) mine) e ∙ name.ends mine ∙ ap (λ (l : List M). option_map (λ (a : R). Some a) (x.speech.ends q l)) list ∙ over;
        }
    by (Asked.Passed m false) e name rest plainly = absurd (let no : None ≡ Some k.reply = ap (λ (z : Asked M Q). y.ends z (replies r.heard ++ b ∷ k.rest)) (sym e) ∙ k.ends in cc)
    by (Asked.Passed m true) e name rest plainly =
        let here = rest plainly k.unanswered m e in
        let mine : List M = hs ++ b.mail ∷ here.0 in
        let last : ends_told n.more mine ≡ true = ap (λ (l : List M). ends_told n.more (l ++ b.mail ∷ here.0)) (sym (heard_same r.heard known.by)) ∙ here.1 in
        record {
          told = told;
          unanswered = none;
          rest = here.0;
          reply = None;
          ends = ap (λ (z : Asked M Q). n.speech.ends (n.name z) mine) e ∙ name.ends mine ∙ ap (λ (c : Bool). if c then Some None else None) last;
        }

  awaited : (now : Option MeantRow) → NowKnown x calm fair s n speaks now → (b : Meant) → is_own b.meant ≡ false → OfRow (λ (r : MeantRow). HasRest r b) now → IsAwaited y now b → IsAwaited n.speech (option_map (λ (r : MeantRow). seen r) now) b.mail
  awaited None known b plainly rest k = tt
  awaited (Some r) known b plainly rest k = by r known b k r.service refl known.known rest plainly

  one : (now : Option MeantRow) → NowKnown x calm fair s n speaks now → (b : Meant) → is_own b.meant ≡ x.speech.emission b.mail → OfRow (λ (r : MeantRow). HasRest r b) now → IsDue y now b → IsDue n.speech (option_map (λ (r : MeantRow). seen r) now) b.mail
  one now known b tells rest due = go (is_own b.meant) refl
    where
      go : (c : Bool) → is_own b.meant ≡ c → IsDue n.speech (option_map (λ (r : MeantRow). seen r) now) b.mail
      go true e = inl (ap (λ (f : M → Bool). f b.mail) speaks.emission ∙ sym tells ∙ e)
      go false e = elim due [
        | inl own ↦ absurd (let no : true ≡ false = sym own ∙ e in cc)
        | inr k ↦ inr (awaited now known b e rest k)
      ]

  -- OF A FRAME
  pub each_due : (now : Option MeantRow) → NowKnown x calm fair s n speaks now → (bs : List Meant) → ByContents x.speech.emission bs → ((b : Meant) (cs : List Meant) → bs ≡ b ∷ cs → OfRow (λ (r : MeantRow). HasRest r b) now) → EachDue y now bs →
      EachDue n.speech (option_map (λ (r : Row (Tagged M Q) (Asked M Q) (Option R)). row_seen (λ (t : Tagged M Q). t.mail) n.name (λ (a : Option R). a) r) now) (map (λ (t : Tagged M Q). t.mail) bs)
  each_due now known [] tells rest due = tt
  each_due now known (b ∷ bs) tells rest due = one now known b tells.0 (rest b bs refl) due
