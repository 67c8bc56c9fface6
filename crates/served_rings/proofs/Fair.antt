-- ALL MAILS THAT CAME INTO HAND of a slave are fair, where those are that were asked of it.
use Rattle.std.proofs.Common.{◌≡◌, ℕ, true, false, Option, Some, List, [], ◌∷◌, ◌++◌, All, Ok, ap, sym, ◌∙◌, subst}
use Rattle.std.proofs.lemmas.List.Elements.{All-head, All-tail}
use Rattle.served_places.specs.of_life_model.Script.{eras_started, life_started}
use Rattle.served_places.specs.of_exchange_model.Lifted.{EachOf}
use Rattle.run_work.specs.of_frame_view.View.{Lens}
use Rattle.served_places.specs.of_life_model.Lives.{Era}
use Rattle.served_places.specs.of_life_runs.Led.{Comes}
use Rattle.served_places.specs.of_link_mails.Body.{Body}
use Rattle.run_work.specs.of_master_duty.Reply.{Reply}
use Rattle.run_work.specs.of_master_hand.Spoken.{Asked, passed, net, is_passed}
use Rattle.run_work.specs.of_protocol_models.EoeClient as EoeClient
use Rattle.served_rings.specs.SeenLed.{ErasFair, IsFairLife}
use Rattle.run_work.specs.of_segment_plan.declared.service.Service as Plan
use Rattle.run_work.specs.Fair.{AsksFair}
use Rattle.served_places.specs.of_life_runs.Came.{ServedCame, AreAmong, HasServed}
use Rattle.served_places.specs.of_life_runs.Served.{Keyed, Serves}
use Rattle.run_work.proofs.Counted.{passes, none_passes}
use Rattle.run_work.specs.of_few_replies.Packets.{is_fair}
use Rattle.run_work.specs.of_slave_model.Profile.{Profile}
use Rattle.served_places.specs.of_state_model.Stated.{Service}
use Rattle.run_work.specs.of_life_counts.Epochs.{AllFair}
use Rattle.run_work.specs.of_life_counts.Spoken.{IsPassed}
use Rattle.served_places.specs.of_state_model.Accounts.{Started}
use Rattle.served_places.specs.of_state_model.Promise.{services_in}
use Rattle.served_rings.specs.Speakers.{naming_of, speaker}

module _ {X : Type 0} (P : X → Type 0) where
  pub each_append : (xs ys : List X) → EachOf P xs → EachOf P ys → EachOf P (xs ++ ys)
  each_append [] ys a b = b
  each_append (x ∷ xs) ys a b = (a.0, each_append xs ys a.1 b)

  pub each_front : (xs ys : List X) → EachOf P (xs ++ ys) → EachOf P xs
  each_front [] ys a = tt
  each_front (x ∷ xs) ys a = (a.0, each_front xs ys a.1)

  pub each_behind : (xs ys : List X) → EachOf P (xs ++ ys) → EachOf P ys
  each_behind [] ys a = a
  each_behind (x ∷ xs) ys a = each_behind xs ys a.1

-- what comes into hand of a script is no mail that is passed on
pub never_passed : (room : ℕ) (script : List Plan.Service) (n m : ℕ) (b : Option (Service Asked)) → Comes room script n b m → (q : Asked) → b ≡ Some (Service.Mails q) → is_passed q ≡ false
never_passed room script n m _ Comes.none q e = absurd (cc)
never_passed room script n m _ (Comes.mails s p at asked) q e = (let same : p ≡ q = cc in ap is_passed (sym same) ∙ ap passes (sym asked) ∙ none_passes room s)
never_passed room script n m _ (Comes.state target at) q e = absurd (cc)
never_passed room script n m _ (Comes.packet octets frame) q e = (let same : net (EoeClient.packet octets frame) ≡ q = cc in ap is_passed (sym same))

abbrev IsFairKeyed : Keyed → Type 0
IsFairKeyed k = is_fair (Ok k.mail) ≡ true

among_fair : (ks ls : List Keyed) → AreAmong ks ls → All (λ (k : Keyed). IsFairKeyed k) ls → EachOf IsFairKeyed ks
among_fair _ _ AreAmong.none all = tt
among_fair _ _ (AreAmong.takes k ks ls among) all = (All-head (λ (k : Keyed). IsFairKeyed k) k ls all, among_fair ks ls among (All-tail (λ (k : Keyed). IsFairKeyed k) k ls all))
among_fair _ _ (AreAmong.skips l ks ls among) all = among_fair ks ls among (All-tail (λ (k : Keyed). IsFairKeyed k) l ls all)

module _ (p : Profile) where
  -- a service is no mail that is passed on, or a fair one
  abbrev IsFairOne : Service Asked → Type 0
  IsFairOne s = (q : Asked) (m : Body) → s ≡ Service.Mails q → IsPassed (naming_of p) m q → is_fair m ≡ true

  own_fair : (room : ℕ) (script : List Plan.Service) (n m : ℕ) (s : Service Asked) → Comes room script n (Some s) m → IsFairOne s
  own_fair room script n m s comes q b is k = absurd (let no : false ≡ true = sym (never_passed room script n m (Some s) comes q (ap (λ t. Some t) is)) ∙ k.passes in cc)

  -- such a mail is the one that was asked
  mail_fair : (k : Keyed) → IsFairKeyed k → IsFairOne (Service.Mails (passed k.mail))
  mail_fair k fair q m is named =
      let same : passed k.mail ≡ q = cc in
      let here : IsPassed (naming_of p) m (passed k.mail) = subst (λ (t : Asked). IsPassed (naming_of p) m t) (sym same) named in
      let mails : Ok k.mail ∷ [] ≡ m ∷ [] = here.planned [] in
      let one : Ok k.mail ≡ m = cc in
      subst (λ b. is_fair b ≡ true) one fair

  came_fair : (room : ℕ) (script : List Plan.Service) (n : ℕ) (ks : List Keyed) (qs : List (Service Asked)) → ServedCame room script n ks qs → EachOf IsFairKeyed ks → EachOf IsFairOne qs
  came_fair room script _ _ _ ServedCame.none fair = tt
  came_fair room script _ ks _ (ServedCame.own n m _ qs q came comes) fair = each_append IsFairOne qs (q ∷ []) (came_fair room script n ks qs came fair) (own_fair room script n m q comes, tt)
  came_fair room script n _ _ (ServedCame.mail _ ks qs k came) fair =
      each_append IsFairOne qs (Service.Mails (passed k.mail) ∷ []) (came_fair room script n ks qs came (each_front IsFairKeyed ks (k ∷ []) fair)) (mail_fair k (each_behind IsFairKeyed ks (k ∷ []) fair).0, tt)

  -- epoch by epoch
  started_fair : (ss : List (Started Asked)) → EachOf IsFairOne (services_in ss) → AllFair (speaker p) ss
  started_fair [] all = tt
  started_fair (s ∷ ss) all = (all.0, started_fair ss all.1)

  eras_fair : (es : List (Era Body Asked Reply)) → EachOf IsFairOne (eras_started es) → ErasFair (speaker p) es
  eras_fair [] all = tt
  eras_fair (e ∷ es) all = (started_fair e.account.started (each_front IsFairOne (services_in e.account.started) (eras_started es) all), eras_fair es (each_behind IsFairOne (services_in e.account.started) (eras_started es) all))

  pub life_fair : (lens : ℕ → Lens) (w : Serves) → HasServed lens w → AsksFair w → IsFairLife (speaker p) w.lead.lived.life
  life_fair lens w has fair =
      let l = w.lead.lived.life in
      let mails = each_front IsFairKeyed has.mails w.waits (among_fair (has.mails ++ w.waits) w.asked has.among fair) in
      let all = came_fair (lens w.lead.lived.spot.station).out w.lead.script w.lead.number has.mails (life_started l) has.came mails in
      record { past = eras_fair l.past (each_front IsFairOne (eras_started l.past) (services_in l.era.account.started) all); now = started_fair l.era.account.started (each_behind IsFairOne (eras_started l.past) (services_in l.era.account.started) all) }
