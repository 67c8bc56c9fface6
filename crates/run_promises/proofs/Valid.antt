-- ALL SERVICES THAT CAME INTO HAND in a session are such as the laws speak of.
use Rattle.std.proofs.Common.{◌≡◌, inl, inr, ℕ, true, false, List, [], ◌∷◌, ◌++◌, sym, ap, ◌∙◌, subst}
use Rattle.packets_heard.specs.of_exchange_model.Exchange.{Exchange}
use Rattle.packets_heard.specs.of_exchange_model.Lifted.{EachOf}
use Rattle.packets_heard.specs.of_exchange_model.Rows.{Row, Settled, services}
use Rattle.packets_heard.specs.of_exchange_model.Exchange as Exchange
use Rattle.packets_heard.specs.of_life_model.Eras.{OpenEra, era_frames}
use Rattle.served_rings.proofs.of_life_model.Eras.{session_of, of_one}
use Rattle.packets_heard.specs.of_segment_model.Record.{Frame}
use Rattle.packets_heard.specs.of_segment_model.Seats.{Side}
use Rattle.packets_heard.specs.of_segment_model.Slaves.{Slave}
use Rattle.packets_heard.specs.of_state_model.Stated.{service_valid, with_states}
use Rattle.packets_heard.specs.of_state_model.States.{Table}
use Rattle.packets_heard.specs.of_state_model.Accounts.{Account}
use Rattle.packets_heard.specs.of_state_model.Promise.{services_in}
use Rattle.served_rings.proofs.of_state_model.Dones.{services_same}
use Rattle.served_rings.proofs.of_state_model.Sessions.{of_slaves}

-- rows that are over, one behind the other
settled_valid : {V A M Q R : Type 0} (x : Exchange V A M Q R) (v : V) (rs : List (Row M Q R)) → Settled x v rs → EachOf (λ q. x.speech.valid q ≡ true) (services rs)
settled_valid x v [] s = tt
settled_valid x v (r ∷ rs) s = (s.0.valid, settled_valid x (Exchange.after x.serve v r.told) rs s.1)

valid_last : {V A M Q R : Type 0} (x : Exchange V A M Q R) (rs : List (Row M Q R)) (r : Row M Q R) → EachOf (λ q. x.speech.valid q ≡ true) (services rs) → x.speech.valid r.service ≡ true → EachOf (λ q. x.speech.valid q ≡ true) (services (rs ++ r ∷ []))
valid_last x [] r all one = (one, tt)
valid_last x (k ∷ rs) r all one = (all.0, valid_last x rs r all.1 one)

-- OF AN OPEN EPOCH
pub era_valid : {V A M Q R : Type 0} (w : OpenEra V A M Q R) → EachOf (λ q. service_valid w.exchange.speech q ≡ true) (services_in w.era.account.started)
era_valid {V} {A} {M} {Q} {R} w =
    let z = session_of w in
    let P : Table → List (Frame M) → ℕ → V → Side M Q R → Account Q R → Slave V M → Type 0 = λ t fs station v d a n. EachOf (λ q. service_valid w.exchange.speech q ≡ true) (services_in a.started) in
    of_one w (λ station v d a n. P (w.table station) (era_frames w.spot w.opened w.end w.frames) station v d a n)
    (of_slaves z.exchange z.lawful z.states z.stated z.processor z.table (λ m. false) z.planned.tells z.plan z.planned z.sides z.accounts z.ring z.frames z.tasked P
    (λ t begun is fs seat a h. elim h.carried.rows [
      | inl u ↦ subst (λ ss. EachOf (λ q. service_valid w.exchange.speech q ≡ true) (services_in ss)) (sym u.started) tt
      | inr r ↦ (
          let both = with_states w.exchange w.states t in
          let past = r.front ++ r.last in
          let all = valid_last both past r.now (settled_valid both _ past r.moment.fits.settled) r.moment.fits.valid in
          subst (EachOf (λ q. service_valid w.exchange.speech q ≡ true)) (services_same (past ++ r.now ∷ []) ∙ ap services_in r.started) all
          )
    ]))
