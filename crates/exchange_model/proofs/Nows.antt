-- What is known of the newest row at every moment: it has heard a first part of its service's replies, and a reply that these complete is the reply.
use Rattle.std.proofs.Common.{◌≡◌, ◌⊎◌, inl, inr, true, false, List, [], ◌∷◌, ◌++◌, None, Some, refl, sym, ap, ◌∙◌, subst, append-nil}
use Rattle.exchange_model.specs.Prefix.{IsPrefixOf}
use Rattle.exchange_model.specs.Exchange.{Exchange, IsLawful, Behind, after, given, plain}
use Rattle.exchange_model.specs.Rows.{Row, Settled, told_all, heard_all}
use Rattle.exchange_model.proofs.Lists.{cut, filter-append, filter_both, prefix_trans, prefix_more, prefix_cancel, append_none, both_ways}
use Rattle.exchange_model.proofs.Words.{plain_given-append, given_part}
use Rattle.exchange_model.proofs.Settles.{settled_heard, settled_ready}

-- the server has come to the newest row, and what was heard for it replies to the mails that it took of it
pub record Reached {V A M Q R : Type 0} (x : Exchange V A M Q R) (v : V) (past : List (Row M Q R)) (now : Row M Q R) (taken rest : List M) : Type 0 where
  pub own : List M
  pub taken_is : taken ≡ told_all past ++ own
  pub told_is : now.told ≡ own ++ rest
  pub hears : IsPrefixOf (plain x.speech.emission now.heard) (plain x.speech.emission (given x.serve (after x.serve v (told_all past)) own))

-- it has not, and no reply was heard
pub record Waits {V A M Q R : Type 0} (x : Exchange V A M Q R) (past : List (Row M Q R)) (now : Row M Q R) (taken : List M) : Type 0 where
  pub ahead : List M
  pub told_is : told_all past ≡ taken ++ ahead
  pub quiet : plain x.speech.emission now.heard ≡ []

-- a reply that the mails heard complete
pub record Complete {V A M Q R : Type 0} (x : Exchange V A M Q R) (v : V) (past : List (Row M Q R)) (now : Row M Q R) (taken : List M) (r : R) : Type 0 where
  pub own : List M
  pub taken_is : taken ≡ told_all past ++ own
  pub behind : Behind x (after x.serve v (told_all past)) now.service own
  pub is : r ≡ x.reply (x.app (after x.serve v (told_all past))) now.service
  pub all_heard : plain x.speech.emission now.heard ≡
      plain x.speech.emission (given x.serve (after x.serve v (told_all past)) (x.full (after x.serve v (told_all past)) now.service))

module _ {V A M Q R : Type 0} (x : Exchange V A M Q R) (law : IsLawful x) where
  whole_ends : (q : Q) (hs more : List M) (r s : R) → x.speech.ends q hs ≡ Some r → x.speech.ends q (hs ++ more) ≡ Some s → (more ≡ []) × (r ≡ s)
  whole_ends q hs [] r s e f = (refl, let g : x.speech.ends q hs ≡ Some s = ap (x.speech.ends q) (sym (append-nil hs)) ∙ f in cc)
  whole_ends q hs (h ∷ more) r s e f = absurd (let g = law.ended q hs h more r e in cc)

  module _ (v : V) (past : List (Row M Q R)) (now : Row M Q R) (held taken accepted : List M)
      (settled : Settled x v past) (all_held : held ≡ told_all past ++ now.told) (all_accepted : accepted ≡ heard_all past ++ now.heard)
      (order : IsPrefixOf taken held) (hears : IsPrefixOf accepted (given x.serve v taken)) where
    plain_begins : IsPrefixOf (plain x.speech.emission (given x.serve v (told_all past)) ++ plain x.speech.emission now.heard) (plain x.speech.emission (given x.serve v taken))
    plain_begins =
        subst (λ l. IsPrefixOf l (plain x.speech.emission (given x.serve v taken)))
        (ap (plain x.speech.emission) all_accepted ∙ filter-append _ (heard_all past) now.heard ∙ ap (λ l. l ++ plain x.speech.emission now.heard) (settled_heard x law v past settled))
        (filter_both _ accepted (given x.serve v taken) hears)

    pub reached_or_waits : Reached x v past now taken order.0 ⊎ Waits x past now taken
    reached_or_waits = elim (cut (told_all past) now.told taken order.0 (sym all_held ∙ sym order.1)) [
      | inl c ↦ inl (record {
        own = c.0;
        taken_is = c.1;
        told_is = c.2;
        hears = prefix_cancel (plain x.speech.emission (given x.serve v (told_all past))) _ _
            (subst (IsPrefixOf (plain x.speech.emission (given x.serve v (told_all past)) ++ plain x.speech.emission now.heard))
            (ap (λ ms. plain x.speech.emission (given x.serve v ms)) c.1 ∙ plain_given-append x.serve x.speech.emission v (told_all past) c.0) plain_begins);
      })
      | inr c ↦ inr (record {
        ahead = c.0;
        told_is = c.1;
        quiet =
            let most : IsPrefixOf (plain x.speech.emission (given x.serve v taken)) (plain x.speech.emission (given x.serve v (told_all past))) =
            filter_both _ _ _ (given_part x.serve v taken (told_all past) (c.0, sym c.1)) in
            let all : IsPrefixOf (plain x.speech.emission (given x.serve v (told_all past)) ++ plain x.speech.emission now.heard) (plain x.speech.emission (given x.serve v (told_all past)) ++ []) =
            prefix_more _ _ [] (prefix_trans _ _ _ plain_begins most) in
            let none = prefix_cancel (plain x.speech.emission (given x.serve v (told_all past))) (plain x.speech.emission now.heard) [] all in
            (append_none _ _ none.1).0;
      })
    ]

    -- what was heard for the newest row is a first part of all replies of its service
    pub heard_begins : IsPrefixOf now.told (x.full (after x.serve v (told_all past)) now.service) →
        IsPrefixOf (plain x.speech.emission now.heard) (plain x.speech.emission (given x.serve (after x.serve v (told_all past)) (x.full (after x.serve v (told_all past)) now.service)))
    heard_begins mine = elim reached_or_waits [
      | inl here ↦ prefix_trans _ _ _ here.hears (filter_both _ _ _ (given_part x.serve (after x.serve v (told_all past)) here.own _
          (prefix_trans here.own now.told _ (order.0, sym here.told_is) mine)))
      | inr wait ↦ subst (λ l. IsPrefixOf l (plain x.speech.emission (given x.serve (after x.serve v (told_all past)) (x.full (after x.serve v (told_all past)) now.service)))) (sym wait.quiet)
          (plain x.speech.emission (given x.serve (after x.serve v (told_all past)) (x.full (after x.serve v (told_all past)) now.service)), refl)
    ]

    pub complete : x.ready v ≡ true → x.speech.valid now.service ≡ true → IsPrefixOf now.told (x.full (after x.serve v (told_all past)) now.service) →
        x.speech.handed now.service ≡ false → (r : R) → x.speech.ends now.service (plain x.speech.emission now.heard) ≡ Some r → Complete x v past now taken r
    complete ready valid mine replies r found = elim reached_or_waits [
      | inl here ↦
          let w = after x.serve v (told_all past) in
          let q = now.service in
          let on : x.ready w ≡ true = settled_ready x law v past ready settled in
          let all = plain x.speech.emission (given x.serve w (x.full w q)) in
          let begins = heard_begins mine in
          let sum : x.speech.ends q (plain x.speech.emission now.heard ++ begins.0) ≡ Some (x.reply (x.app w) q) = ap (x.speech.ends q) begins.1 ∙ law.replied w q on valid replies in
          let over = whole_ends q (plain x.speech.emission now.heard) begins.0 r (x.reply (x.app w) q) found sum in
          let same : plain x.speech.emission now.heard ≡ all = sym (append-nil _) ∙ ap (λ l. plain x.speech.emission now.heard ++ l) (sym over.0) ∙ begins.1 in
          let part : IsPrefixOf here.own (x.full w q) = prefix_trans here.own now.told (x.full w q) (order.0, sym here.told_is) mine in
          let most : IsPrefixOf (plain x.speech.emission (given x.serve w here.own)) all = filter_both _ _ _ (given_part x.serve w here.own (x.full w q) part) in
          let equal : plain x.speech.emission (given x.serve w here.own) ≡ all = both_ways (plain x.speech.emission (given x.serve w here.own)) all most
          (subst (λ l. IsPrefixOf l (plain x.speech.emission (given x.serve w here.own))) same here.hears) in
          record {
            own = here.own;
            taken_is = here.taken_is;
            behind = law.counted w q on valid replies here.own part.0 (sym part.1) equal;
            is = over.1;
            all_heard = same;
          }
      | inr wait ↦ absurd (let none : x.speech.ends now.service (plain x.speech.emission now.heard) ≡ None = ap (x.speech.ends now.service) wait.quiet ∙ law.none now.service in cc)
    ]
