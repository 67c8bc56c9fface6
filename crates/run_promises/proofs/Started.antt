-- What came into hand of a slave before a frame is the newest of what its life began, with mails that are passed on too.
use Rattle.std.proofs.Common.{◌≡◌, ℕ, Option, Some, None, List, [], ◌∷◌, ◌++◌, refl, ap, sym, ◌∙◌, append_assoc, append-nil}
use Rattle.packets_heard.specs.of_life_model.Script.{eras_started, life_started}
use Rattle.packets_heard.specs.of_exchange_model.Exchange.{Speech}
use Rattle.packets_heard.specs.of_life_model.Lives.{Life, Stand, granted, life_next}
use Rattle.packets_heard.specs.of_life_runs.Led.{Took, is_passed}
use Rattle.packets_heard.specs.of_link_mails.Body.{Body}
use Rattle.packets_heard.specs.of_master_duty.Reply.{Reply}
use Rattle.packets_heard.specs.of_master_hand.Spoken.{Asked, acknowledged, is_followed}
use Rattle.served_rings.proofs.of_run_frames.Came.{listed}
use Rattle.packets_heard.specs.of_segment_model.Ends.{Passing}
use Rattle.packets_heard.specs.of_state_model.Stated.{Service}
use Rattle.packets_heard.specs.of_state_model.Accounts.{Duty, Pick, Started, account_begins}
use Rattle.packets_heard.specs.of_state_model.Promise.{services_in}

services_append : (rs ss : List (Started Asked)) → services_in (rs ++ ss) ≡ services_in rs ++ services_in ss
services_append [] ss = refl
services_append (r ∷ rs) ss = ap (λ l. r.service ∷ l) (services_append rs ss)

module _ (x : Speech Body Asked Reply) (made : ℕ) (l : Life Body Asked Reply) (pick : Pick Asked) where
  abbrev next : Stand → Life Body Asked Reply
  next stand = life_next x acknowledged is_followed is_passed made l stand pick

  past_stays : (stand : Stand) → (next stand).past ≡ l.past
  past_stays (Stand.Opens o) = refl
  past_stays Stand.Open = refl
  past_stays Stand.Gone = refl

  nothing_begins : (hand : Option Duty) → account_begins x acknowledged made l.era.side l.era.account hand None ≡ l.era.account
  nothing_begins None = refl
  nothing_begins (Some duty) = refl

  not_granted : (passing : Option Passing) → pick.begin ≡ None → (granted passing pick).begin ≡ None
  not_granted None e = e
  not_granted (Some passing) e = refl

  rows_stay : (stand : Stand) → pick.begin ≡ None → (next stand).era.account.started ≡ l.era.account.started
  rows_stay (Stand.Opens o) e = refl
  rows_stay Stand.Open e =
      ap (λ (b : Option (Service Asked)). (account_begins x acknowledged made l.era.side l.era.account l.era.account.hand b).started) (not_granted l.era.passing e)
      ∙ ap (λ (a : Rattle.packets_heard.specs.of_state_model.Accounts.Account Asked Reply). a.started) (nothing_begins l.era.account.hand)
  rows_stay Stand.Gone e = refl

  module _ (m : Life Body Asked Reply) (begun : Option (Service Asked)) (is : m ≡ next l.stand) (picked : pick.begin ≡ begun) (took : Took made l.era.account m.era.account begun) where
    started_is : (b : Option (Service Asked)) → begun ≡ b → Took made l.era.account m.era.account b → services_in m.era.account.started ≡ services_in l.era.account.started ++ listed b
    started_is None e none = ap services_in (ap (λ (k : Life Body Asked Reply). k.era.account.started) is ∙ rows_stay l.stand (picked ∙ e)) ∙ sym (append-nil (services_in l.era.account.started))
    started_is (Some q) e one = ap services_in one ∙ services_append l.era.account.started (record { service = q; frame = made } ∷ [])

    pub next_started : life_started m ≡ life_started l ++ listed begun
    next_started =
        ap (λ es. eras_started es ++ services_in m.era.account.started) (ap (λ (k : Life Body Asked Reply). k.past) is ∙ past_stays l.stand)
        ∙ ap (λ qs. eras_started l.past ++ qs) (started_is begun refl took)
        ∙ sym (append_assoc (eras_started l.past) (services_in l.era.account.started) (listed begun))
