-- The server behind rows that are all over.
use Rattle.std.proofs.Common.{◌≡◌, ◌+◌, true, List, [], ◌∷◌, ◌++◌, length, refl, sym, ap, ap₂, ◌∙◌, subst, append_assoc, append-nil, arith, add-zero}
use Rattle.exchange_model.specs.Exchange.{Exchange, IsLawful, Behind, after, given, plain, emitted}
use Rattle.exchange_model.specs.Rows.{Row, IsWhole, Settled, told_all, heard_all, services, exec_all, emits_all}
use Rattle.exchange_model.proofs.Lists.{filter-append}
use Rattle.exchange_model.proofs.Words.{after-append, given-append}

pub told_all-append : {M Q R : Type 0} (rs ss : List (Row M Q R)) → told_all (rs ++ ss) ≡ told_all rs ++ told_all ss
told_all-append [] ss = refl
told_all-append (r ∷ rs) ss = ap (λ l. r.told ++ l) (told_all-append rs ss) ∙ sym (append_assoc r.told (told_all rs) (told_all ss))

pub heard_all-append : {M Q R : Type 0} (rs ss : List (Row M Q R)) → heard_all (rs ++ ss) ≡ heard_all rs ++ heard_all ss
heard_all-append [] ss = refl
heard_all-append (r ∷ rs) ss = ap (λ l. r.heard ++ l) (heard_all-append rs ss) ∙ sym (append_assoc r.heard (heard_all rs) (heard_all ss))

pub told_all_last : {M Q R : Type 0} (rs : List (Row M Q R)) (r : Row M Q R) → told_all (rs ++ r ∷ []) ≡ told_all rs ++ r.told
told_all_last rs r = told_all-append rs (r ∷ []) ∙ ap (λ l. told_all rs ++ l) (append-nil r.told)

pub heard_all_last : {M Q R : Type 0} (rs : List (Row M Q R)) (r : Row M Q R) → heard_all (rs ++ r ∷ []) ≡ heard_all rs ++ r.heard
heard_all_last rs r = heard_all-append rs (r ∷ []) ∙ ap (λ l. heard_all rs ++ l) (append-nil r.heard)

module _ {V A M Q R : Type 0} (x : Exchange V A M Q R) (law : IsLawful x) where
  pub whole_behind : (v : V) (r : Row M Q R) → x.ready v ≡ true → IsWhole x v r → Behind x v r.service r.told
  whole_behind v r ready whole = subst (Behind x v r.service) (sym whole.told) (law.whole v r.service ready whole.valid)

  pub whole_ready : (v : V) (r : Row M Q R) → x.ready v ≡ true → IsWhole x v r → x.ready (after x.serve v r.told) ≡ true
  whole_ready v r ready whole = ap (λ ms. x.ready (after x.serve v ms)) whole.told ∙ law.ready v r.service ready whole.valid

  pub settled_ready : (v : V) (rs : List (Row M Q R)) → x.ready v ≡ true → Settled x v rs → x.ready (after x.serve v (told_all rs)) ≡ true
  settled_ready v [] ready settled = ready
  settled_ready v (r ∷ rs) ready settled =
      ap x.ready (after-append x.serve v r.told (told_all rs)) ∙ settled_ready (after x.serve v r.told) rs (whole_ready v r ready settled.0) settled.1

  pub settled_handled : (v : V) (rs : List (Row M Q R)) → x.ready v ≡ true → Settled x v rs → x.handled (after x.serve v (told_all rs)) ≡ x.handled v + length rs
  settled_handled v [] ready settled = sym (add-zero (x.handled v))
  settled_handled v (r ∷ rs) ready settled =
      let later = settled_handled (after x.serve v r.told) rs (whole_ready v r ready settled.0) settled.1 in
      let one = (whole_behind v r ready settled.0).handled in
      ap x.handled (after-append x.serve v r.told (told_all rs)) ∙ later ∙ omega (arith, one)

  pub settled_app : (v : V) (rs : List (Row M Q R)) → x.ready v ≡ true → Settled x v rs → x.app (after x.serve v (told_all rs)) ≡ exec_all x (x.app v) (services rs)
  settled_app v [] ready settled = refl
  settled_app v (r ∷ rs) ready settled =
      ap x.app (after-append x.serve v r.told (told_all rs)) ∙ settled_app (after x.serve v r.told) rs (whole_ready v r ready settled.0) settled.1
      ∙ ap (λ a. exec_all x a (services rs)) (whole_behind v r ready settled.0).app

  pub settled_heard : (v : V) (rs : List (Row M Q R)) → Settled x v rs → plain x.speech.emission (heard_all rs) ≡ plain x.speech.emission (given x.serve v (told_all rs))
  settled_heard v [] settled = refl
  settled_heard v (r ∷ rs) settled =
      filter-append _ r.heard (heard_all rs)
      ∙ ap₂ (λ (a b : List M). a ++ b) settled.0.heard (settled_heard (after x.serve v r.told) rs settled.1)
      ∙ sym (ap (plain x.speech.emission) (given-append x.serve v r.told (told_all rs)) ∙ filter-append _ (given x.serve v r.told) (given x.serve (after x.serve v r.told) (told_all rs)))

  pub settled_more : (v : V) (rs : List (Row M Q R)) (r : Row M Q R) → Settled x v rs → IsWhole x (after x.serve v (told_all rs)) r → Settled x v (rs ++ r ∷ [])
  settled_more v [] r settled whole = (whole, tt)
  settled_more v (first ∷ rs) r settled whole =
      (settled.0, settled_more (after x.serve v first.told) rs r settled.1 (subst (λ w. IsWhole x w r) (after-append x.serve v first.told (told_all rs)) whole))

  pub settled_front : (v : V) (rs ss : List (Row M Q R)) → Settled x v (rs ++ ss) → Settled x v rs
  settled_front v [] ss settled = tt
  settled_front v (r ∷ rs) ss settled = (settled.0, settled_front (after x.serve v r.told) rs ss settled.1)

  pub settled_emits : (v : V) (rs : List (Row M Q R)) → x.ready v ≡ true → Settled x v rs → emitted x.speech.emission (given x.serve v (told_all rs)) ≡ emits_all x (x.app v) (services rs)
  settled_emits v [] ready settled = refl
  settled_emits v (r ∷ rs) ready settled =
      let own : emitted x.speech.emission (given x.serve v r.told) ≡ x.emits (x.app v) r.service =
      ap (λ ms. emitted x.speech.emission (given x.serve v ms)) settled.0.told ∙ law.all_emitted v r.service ready settled.0.valid in
      let later : emitted x.speech.emission (given x.serve (after x.serve v r.told) (told_all rs)) ≡ emits_all x (x.exec (x.app v) r.service) (services rs) =
      settled_emits (after x.serve v r.told) rs (whole_ready v r ready settled.0) settled.1 ∙ ap (λ a. emits_all x a (services rs)) (whole_behind v r ready settled.0).app in
      ap (emitted x.speech.emission) (given-append x.serve v r.told (told_all rs))
      ∙ filter-append x.speech.emission (given x.serve v r.told) (given x.serve (after x.serve v r.told) (told_all rs))
      ∙ ap₂ (λ (a b : List M). a ++ b) own later
