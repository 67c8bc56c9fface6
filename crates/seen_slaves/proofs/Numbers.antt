-- BEHIND AS MANY ROWS AS ONE LIKES with the same number of handled services the application is the same.
use Rattle.std.proofs.Common.{◌≡◌, ◌≤◌, ℕ, zero, suc, Bool, List, [], ◌∷◌, ◌++◌, take, refl, sym, ap, ◌∙◌, arith, inl, inr}
use Rattle.std.proofs.lemmas.Bool.{cases_lt}
use Rattle.seen_slaves.proofs.CountedRows.{rows_counted}
use Rattle.seen_slaves.specs.Counted.{IsToldByNumber}
use Rattle.idle_slaves.specs.of_life_model.Lives.{Era}
use Rattle.idle_slaves.specs.of_link_mails.Body.{Body}
use Rattle.served_rings.specs.of_master_duty.Reply.{Reply}
use Rattle.served_rings.specs.of_master_hand.Spoken.{Asked}
use Rattle.served_rings.specs.Served.{IsServedEra, server_behind}
use Rattle.served_rings.specs.Speakers.{cleared_whole, spoken, table_of}
use Rattle.idle_slaves.specs.of_slave_model.Profile.{Profile}
use Rattle.idle_slaves.specs.of_slave_parts.Parts.{Server}
use Rattle.idle_slaves.specs.of_slave_server.Serving.{fresh}
use Rattle.idle_slaves.specs.of_state_model.Families.{InState}
use Rattle.idle_slaves.specs.of_state_model.Stated.{Service}
use Rattle.idle_slaves.specs.of_state_model.Promises.{state_behind}
use Rattle.idle_slaves.specs.of_state_model.Promise.{services_in}

-- more of a list: the first part, and what is behind it
take_more : {A : Type 0} (few many : ℕ) (xs : List A) → few ≤ many → (rest : List A) × (take many xs ≡ take few xs ++ rest)
take_more zero many xs more = (take many xs, refl)
take_more (suc few) zero xs more = absurd (omega arith)
take_more (suc few) (suc many) [] more = ([], refl)
take_more (suc few) (suc many) (x ∷ xs) more = let later = take_more few many xs (omega arith) in (later.0, ap (λ l. x ∷ l) later.1)

module _ (p : Profile) (boot : Bool) (station : ℕ) where
  behind_append : (v : InState Server) (qs more : List (Service Asked)) → server_behind p boot station v (qs ++ more) ≡ server_behind p boot station (server_behind p boot station v qs) more
  behind_append v [] more = refl
  behind_append v (Service.Mails q ∷ qs) more = behind_append ((spoken p).exec v q) qs more
  behind_append v (Service.State target ∷ qs) more = behind_append (record v { state = state_behind (table_of boot station) v.state target }) qs more

  -- of two first parts of rows
  same_within : (v : InState Server) (qs : List (Service Asked)) (few many : ℕ) → few ≤ many → (server_behind p boot station v (take many qs)).inner.handled ≡ (server_behind p boot station v (take few qs)).inner.handled →
      (server_behind p boot station v (take many qs)).inner.app ≡ (server_behind p boot station v (take few qs)).inner.app
  same_within v qs few many more same =
      let w = server_behind p boot station v (take few qs) in
      let cut = take_more few many qs more in
      let on : server_behind p boot station v (take many qs) ≡ server_behind p boot station w cut.0 = ap (server_behind p boot station v) cut.1 ∙ behind_append v (take few qs) cut.0 in
      let stays = (rows_counted p boot station w cut.0).stays in
      ap (λ (x : InState Server). x.inner.app) on ∙ stays (sym (ap (λ (x : InState Server). x.inner.handled) on) ∙ same)

  same_parts : (v : InState Server) (qs : List (Service Asked)) (n k : ℕ) → (server_behind p boot station v (take k qs)).inner.handled ≡ (server_behind p boot station v (take n qs)).inner.handled →
      (server_behind p boot station v (take k qs)).inner.app ≡ (server_behind p boot station v (take n qs)).inner.app
  same_parts v qs n k same = elim (cases_lt n k) [
    | inl more ↦ same_within v qs n k (omega arith) same
    | inr fewer ↦ sym (same_within v qs k n fewer (sym same))
  ]

  -- what a return to Init makes of a server is told by its application and its number
  cleared_alike : (v w : InState Server) → v.inner.app.app ≡ w.inner.app.app → v.inner.handled ≡ w.inner.handled → cleared_whole v ≡ cleared_whole w
  cleared_alike v w app handled = (λ i. record { inner = record (fresh (app i)) { handled = handled i }; state = 1 })

  pub told_by_number : (from : InState Server) (e : Era Body Asked Reply) (left done : InState Server) → IsServedEra p boot station from e left done → IsToldByNumber p boot station from e left
  told_by_number from e left done is k same =
      let rows = services_in e.account.started in
      let carried : (server_behind p boot station from (take is.count rows)).inner.app ≡ done.inner.app = ap (λ (v : InState Server). v.inner.app) (sym is.done_is) in
      let number : (server_behind p boot station from (take is.count rows)).inner.handled ≡ left.inner.handled = ap (λ (v : InState Server). v.inner.handled) (sym is.done_is) ∙ sym is.handled in
      let app : (server_behind p boot station from (take k rows)).inner.app.app ≡ left.inner.app.app = ap (λ s. s.app) (same_parts from rows is.count k (same ∙ sym number) ∙ carried) ∙ sym is.app in
      record { app = app; cleared = cleared_alike (server_behind p boot station from (take k rows)) left app same }
