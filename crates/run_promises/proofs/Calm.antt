-- WHILE A SLAVE IS OPEN a state service that returns it to Init drains, and an opening that has shown Init has nothing in hand.
use Rattle.std.proofs.Common.{◌≡◌, ◌⊎◌, ℕ, ◌≤◌, ◌&&◌, Bool, true, false, Option, Some, None, option_map, List, [], ◌∷◌, ◌++◌, refl, sym, ap, ◌∙◌, append-nil, if◌then◌else◌}
use Rattle.packets_heard.specs.of_exchange_model.Exchange.{Speech}
use Rattle.served_rings.proofs.of_exchange_model.Settles.{heard_all_last}
use Rattle.packets_heard.specs.of_exchange_model.Prefix.{IsPrefixOf}
use Rattle.packets_heard.specs.of_exchange_model.Rows.{Row, heard_all, row_heard}
use Rattle.packets_heard.specs.of_life_model.Lives.{Era, Opening, returns_to_init}
use Rattle.packets_heard.specs.of_segment_model.Seats.{Side, newest, rows_of}
use Rattle.packets_heard.specs.of_state_model.Stated.{Service}
use Rattle.packets_heard.specs.of_state_model.Accounts.{Account, Duty, Stage, Started, account_begins, is_free, is_acknowledged, state_begins, starts}
use Rattle.packets_heard.specs.of_state_model.Promise.{services_in}

-- the state service in hand
abbrev pub IsCalm : Option Duty → Type 0
IsCalm hand = (duty : Duty) → hand ≡ Some duty → returns_to_init duty.target ≡ true → duty.stage ≡ Stage.Drains

-- an opening that hasn't shown Init yet, or nothing has come into hand since
abbrev pub IsEarly : {M Q R : Type 0} → Opening → Era M Q R → Type 0
IsEarly o e = ((o.again ≡ true) × (o.step ≤ 2)) ⊎ ((e.account.started ≡ []) × (e.account.hand ≡ None) × (rows_of e.side ≡ []))

services_append : {Q : Type 0} (rs ss : List (Started Q)) → services_in (rs ++ ss) ≡ services_in rs ++ services_in ss
services_append [] ss = refl
services_append (r ∷ rs) ss = ap (λ l. r.service ∷ l) (services_append rs ss)

module _ {M Q R : Type 0} (x : Speech M Q R) (ack : Q → Bool) (made : ℕ) where
  -- ---- what comes into hand
  started_more : (a : Account Q R) (s : Service Q) → IsPrefixOf (services_in a.started) (services_in (starts a s made))
  started_more a s = (s ∷ [], sym (services_append a.started (record { service = s; frame = made } ∷ [])))

  same_services : (a : Account Q R) → IsPrefixOf (services_in a.started) (services_in a.started)
  same_services a = ([], append-nil (services_in a.started))

  pub begins_more : (d : Side M Q R) (a : Account Q R) (hand : Option Duty) (wish : Option (Service Q)) → IsPrefixOf (services_in a.started) (services_in (account_begins x ack made d a hand wish).started)
  begins_more d a None None = same_services a
  begins_more d a (Some duty) None = same_services a
  begins_more d a (Some duty) (Some wish) = same_services a
  begins_more d a None (Some (Service.Mails q)) = go (x.valid q && is_free x d d.now)
    where
      go : (b : Bool) → IsPrefixOf (services_in a.started) (services_in (if b then record a { started = starts a (Service.Mails q) made } else a).started)
      go true = started_more a (Service.Mails q)
      go false = same_services a
  begins_more d a None (Some (Service.State target)) = go (is_free x d d.now && is_acknowledged x ack d d.now)
    where
      go : (b : Bool) → IsPrefixOf (services_in a.started) (services_in (if b then state_begins a target made else a).started)
      go true = started_more a (Service.State target)
      go false = same_services a

  pub begins_calm : (d : Side M Q R) (a : Account Q R) (hand : Option Duty) (wish : Option (Service Q)) → IsCalm a.hand → IsCalm (account_begins x ack made d a hand wish).hand
  begins_calm d a None None calm = calm
  begins_calm d a (Some duty) None calm = calm
  begins_calm d a (Some duty) (Some wish) calm = calm
  begins_calm d a None (Some (Service.Mails q)) calm = go (x.valid q && is_free x d d.now)
    where
      go : (b : Bool) → IsCalm (if b then record a { started = starts a (Service.Mails q) made } else a).hand
      go true = calm
      go false = calm
  begins_calm d a None (Some (Service.State target)) calm = go (is_free x d d.now && is_acknowledged x ack d d.now)
    where
      drains : IsCalm (Some (record { target = target; frame = made; stage = Stage.Drains }))
      drains duty e returns = let same : record { target = target; frame = made; stage = Stage.Drains } ≡ duty = cc in ap (λ (d : Duty). d.stage) (sym same)

      go : (b : Bool) → IsCalm (if b then state_begins a target made else a).hand
      go true = drains
      go false = calm

  -- ---- a frame that brings no mail lets nothing be heard
  pub back_heard : (past : List (Row M Q R)) (ms : List M) (now : Option (Row M Q R)) → ms ≡ [] → heard_all (past ++ newest (option_map (λ r. row_heard x made ms r) now)) ≡ heard_all (past ++ newest now)
  back_heard past ms None none = refl
  back_heard past ms (Some r) none = heard_all_last past (row_heard x made ms r) ∙ ap (λ l. heard_all past ++ (r.heard ++ l)) none ∙ ap (λ l. heard_all past ++ l) (append-nil r.heard) ∙ sym (heard_all_last past r)
