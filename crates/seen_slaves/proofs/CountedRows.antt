-- ROWS, one after the other: those that a slave doesn't count leave its application.
use Rattle.std.proofs.Common.{◌≡◌, ◌≤◌, ℕ, Bool, List, [], ◌∷◌, Ok, refl, sym, ◌∙◌, arith}
use Rattle.seen_slaves.proofs.Steps.{mail_step, service_step}
use Rattle.seen_slaves.specs.Counted.{IsCounted, once, never, AreCounted}
use Rattle.served_rings.specs.of_master_hand.Spoken as Spoken
use Rattle.served_rings.specs.Served.{server_behind}
use Rattle.served_rings.specs.Speakers.{spoken, table_of}
use Rattle.idle_slaves.specs.of_slave_model.Profile.{Protocol, Profile, serves}
use Rattle.idle_slaves.specs.of_slave_parts.Parts.{Server, parts}
use Rattle.idle_slaves.specs.of_state_model.Families.{InState}
use Rattle.idle_slaves.specs.of_state_model.Stated.{Service}
use Rattle.idle_slaves.specs.of_state_model.Promises.{state_behind}

module _ (p : Profile) (boot : Bool) (station : ℕ) where
  -- a row of mails
  spoken_step : (v : InState Server) (q : Spoken.Asked) → IsCounted v.inner ((spoken p).exec v q).inner
  spoken_step v (Spoken.sdo q) = service_step parts p v.state v.inner (serves p v.state Protocol.CoE) Protocol.CoE q
  spoken_step v (Spoken.file q) = service_step parts p v.state v.inner (serves p v.state Protocol.FoE) Protocol.FoE q
  spoken_step v (Spoken.drive q) = service_step parts p v.state v.inner (serves p v.state Protocol.SoE) Protocol.SoE q
  spoken_step v (Spoken.net q) = service_step parts p v.state v.inner (serves p v.state Protocol.EoE) Protocol.EoE q
  spoken_step v (Spoken.passed m) = mail_step parts p v.state v.inner (Ok m)

  -- one step, and what is behind it
  grows_on : (v w : InState Server) (n : ℕ) → IsCounted v.inner w.inner → w.inner.handled ≤ n → v.inner.handled ≤ n
  grows_on v w n (once more) later = omega arith
  grows_on v w n (never same app) later = omega arith

  stays_on : (v w x : InState Server) → IsCounted v.inner w.inner → w.inner.handled ≤ x.inner.handled → (x.inner.handled ≡ w.inner.handled → x.inner.app ≡ w.inner.app) → x.inner.handled ≡ v.inner.handled → x.inner.app ≡ v.inner.app
  stays_on v w x (once more) grows later same = absurd (omega arith)
  stays_on v w x (never so app) grows later same = later (same ∙ sym so) ∙ app

  pub rows_counted : (v : InState Server) (qs : List (Service Spoken.Asked)) → AreCounted p boot station v qs
  rows_counted v [] = record { grows = omega arith; stays = λ same. refl }
  rows_counted v (Service.Mails q ∷ qs) =
      let w = (spoken p).exec v q in
      let step = spoken_step v q in
      let later = rows_counted w qs in
      record { grows = grows_on v w _ step later.grows; stays = stays_on v w (server_behind p boot station w qs) step later.grows later.stays }
  rows_counted v (Service.State target ∷ qs) =
      let w : InState Server = record v { state = state_behind (table_of boot station) v.state target } in
      let later = rows_counted w qs in
      record { grows = later.grows; stays = later.stays }
