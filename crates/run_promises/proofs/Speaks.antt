-- A PLAN'S SLAVE AND ITS MASTER keep the laws where quiet mails alone are passed on; and so are all that came into hand where those are that were asked.
use Rattle.std.proofs.Common.{◌≡◌, ◌&&◌, ℕ, Bool, true, false, Some, List, [], ◌∷◌, ◌++◌, All, Ok, refl, ap, sym, ◌∙◌, subst}
use Rattle.std.proofs.lemmas.List.Elements.{All-head, All-tail}
use Rattle.packets_heard.specs.of_life_model.Script.{eras_started, life_started}
use Rattle.packets_heard.specs.of_exchange_model.Lifted.{EachOf}
use Rattle.served_rings.specs.of_few_replies.Calm.{asked_fair, calm_tagged}
use Rattle.served_rings.specs.of_few_replies.Packets.{is_fair}
use Rattle.packets_heard.specs.of_frame_view.View.{Lens}
use Rattle.packets_heard.specs.of_life_runs.Led.{Comes}
use Rattle.packets_heard.specs.of_link_mails.Body.{Body}
use Rattle.packets_heard.specs.of_master_hand.Spoken.{Asked, passed}
use Rattle.served_rings.specs.Speakers.{naming_of, speaker}
use Rattle.served_rings.proofs.Any.{fewer_lawful}
use Rattle.served_rings.proofs.Fair.{each_append, each_behind, each_front, never_passed}
use Rattle.served_rings.specs.of_run_work.Sessions.{OwnService}
use Rattle.packets_heard.specs.of_segment_plan.declared.service.Service as Plan
use Rattle.run_promises.specs.Quiet.{is_quiet, AsksQuiet, quiet_speaker}
use Rattle.packets_heard.specs.of_life_runs.Came.{ServedCame, AreAmong, HasServed}
use Rattle.packets_heard.specs.of_life_runs.Served.{Keyed, Serves}
use Rattle.served_rings.specs.of_serving_model.Tagged as Tagged
use Rattle.served_rings.specs.of_slave_model.Profile.{Profile}
use Rattle.packets_heard.specs.of_state_model.Stated.{Service}
use Rattle.served_rings.specs.of_life_counts.Epochs.{AllFair, IsSpeaker}
use Rattle.served_rings.specs.of_life_counts.Spoken.{IsPassed}
use Rattle.packets_heard.specs.of_state_model.Accounts.{Started}
use Rattle.packets_heard.specs.of_state_model.Promise.{services_in}

left_of : (a b : Bool) → (a && b) ≡ true → a ≡ true
left_of true b e = refl
left_of false b e = absurd (cc)

pub quiet_fair : (b : Body) → is_quiet b ≡ true → is_fair b ≡ true
quiet_fair b e = left_of (is_fair b) _ e

fair_services : (p : Profile) (q : Tagged.Asked Body OwnService) → asked_fair (speaker p).exchange.speech is_quiet q ≡ true → asked_fair (speaker p).exchange.speech is_fair q ≡ true
fair_services p (Tagged.Asked.Script q) e = e
fair_services p (Tagged.Asked.Passed m answers) e = quiet_fair m e

pub quiet_speaks : (p : Profile) → IsSpeaker (speaker p) → IsSpeaker (quiet_speaker p)
quiet_speaks p k =
    let w = speaker p in
    let x = calm_tagged w.exchange w.calm w.fair in
    record {
      served = k.served;
      stated = k.stated;
      lawful = fewer_lawful x k.lawful x.ready (asked_fair w.exchange.speech is_quiet) (λ v e. e) (fair_services p) (λ v q r e. k.lawful.ready v q r (fair_services p q e));
      keeps = k.keeps;
      first = k.first;
      last = k.last;
      speaks = k.speaks;
    }

-- ---- what came into hand
abbrev IsQuietKeyed : Keyed → Type 0
IsQuietKeyed k = is_quiet (Ok k.mail) ≡ true

among_quiet : (ks ls : List Keyed) → AreAmong ks ls → All (λ (k : Keyed). IsQuietKeyed k) ls → EachOf IsQuietKeyed ks
among_quiet _ _ AreAmong.none all = tt
among_quiet _ _ (AreAmong.takes k ks ls among) all = (All-head (λ (k : Keyed). IsQuietKeyed k) k ls all, among_quiet ks ls among (All-tail (λ (k : Keyed). IsQuietKeyed k) k ls all))
among_quiet _ _ (AreAmong.skips l ks ls among) all = among_quiet ks ls among (All-tail (λ (k : Keyed). IsQuietKeyed k) l ls all)

module _ (p : Profile) where
  abbrev IsQuietOne : Service Asked → Type 0
  IsQuietOne s = (q : Asked) (m : Body) → s ≡ Service.Mails q → IsPassed (naming_of p) m q → is_quiet m ≡ true

  own_quiet : (room : ℕ) (script : List Plan.Service) (n m : ℕ) (s : Service Asked) → Comes room script n (Some s) m → IsQuietOne s
  own_quiet room script n m s comes q b is k = absurd (let no : false ≡ true = sym (never_passed room script n m (Some s) comes q (ap (λ t. Some t) is)) ∙ k.passes in cc)

  mail_quiet : (k : Keyed) → IsQuietKeyed k → IsQuietOne (Service.Mails (passed k.mail))
  mail_quiet k quiet q m is named =
      let same : passed k.mail ≡ q = cc in
      let here : IsPassed (naming_of p) m (passed k.mail) = subst (λ (t : Asked). IsPassed (naming_of p) m t) (sym same) named in
      let mails : Ok k.mail ∷ [] ≡ m ∷ [] = here.planned [] in
      let one : Ok k.mail ≡ m = cc in
      subst (λ b. is_quiet b ≡ true) one quiet

  came_quiet : (room : ℕ) (script : List Plan.Service) (n : ℕ) (ks : List Keyed) (qs : List (Service Asked)) → ServedCame room script n ks qs → EachOf IsQuietKeyed ks → EachOf IsQuietOne qs
  came_quiet room script _ _ _ ServedCame.none quiet = tt
  came_quiet room script _ ks _ (ServedCame.own n m _ qs q came comes) quiet = each_append IsQuietOne qs (q ∷ []) (came_quiet room script n ks qs came quiet) (own_quiet room script n m q comes, tt)
  came_quiet room script n _ _ (ServedCame.mail _ ks qs k came) quiet =
      each_append IsQuietOne qs (Service.Mails (passed k.mail) ∷ []) (came_quiet room script n ks qs came (each_front IsQuietKeyed ks (k ∷ []) quiet)) (mail_quiet k (each_behind IsQuietKeyed ks (k ∷ []) quiet).0, tt)

  started_quiet : (ss : List (Started Asked)) → EachOf IsQuietOne (services_in ss) → AllFair (quiet_speaker p) ss
  started_quiet [] all = tt
  started_quiet (s ∷ ss) all = (all.0, started_quiet ss all.1)

  -- in its newest epoch
  pub now_quiet : (lens : ℕ → Lens) (w : Serves) → HasServed lens w → AsksQuiet w → AllFair (quiet_speaker p) w.lead.lived.life.era.account.started
  now_quiet lens w has quiet =
      let l = w.lead.lived.life in
      let mails = each_front IsQuietKeyed has.mails w.waits (among_quiet (has.mails ++ w.waits) w.asked has.among quiet) in
      let all = came_quiet (lens w.lead.lived.spot.station).out w.lead.script w.lead.number has.mails (life_started l) has.came mails in
      started_quiet l.era.account.started (each_behind IsQuietOne (eras_started l.past) (services_in l.era.account.started) all)
