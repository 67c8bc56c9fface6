-- A SLAVE AND ITS MASTER, of which it is seen what is meant by its mails, where any mail is passed on that is one; and their names for what came into hand.
use Rattle.std.proofs.Common.{◌≡◌, ℕ, zero, suc, Bool, true, false, List, [], ◌∷◌, ◌++◌, map, take, refl, ap, sym, ◌∙◌, Ok, Err}
use Rattle.run_work.specs.of_few_replies.Calm.{calm_tagged}
use Rattle.run_work.specs.of_life_counts.Seen.{service_seen}
use Rattle.served_places.specs.of_link_mails.Body.{Body}
use Rattle.run_work.specs.of_mailbox_mail.declared.mail.Mail.{Mail}
use Rattle.run_work.specs.of_master_hand.Spoken as Spoken
use Rattle.served_rings.specs.Speakers.{naming_of, processor_of, seer_of, speaker, spoken, table_of, whole_states}
use Rattle.served_rings.proofs.Any.{any_lawful}
use Rattle.run_work.specs.Sessions.{OwnService, Wanted, named_wanted}
use Rattle.run_work.specs.of_slave_model.Profile.{Protocol, Profile}
use Rattle.run_work.specs.of_slave_model.Server.{Reply}
use Rattle.run_work.specs.of_slave_parts.Parts.{Core, Server, parts}
use Rattle.run_work.specs.of_protocol_models.Network.{Station}
use Rattle.run_work.specs.of_slave_parts.Served.{product_whole}
use Rattle.served_places.specs.of_state_model.Families.{InState}
use Rattle.served_places.specs.of_state_model.Stated.{Service, service_valid}
use Rattle.served_places.specs.of_state_model.Promises.{state_behind}
use Rattle.served_places.specs.of_serving_model.Tagged.{Asked, asked_exec}
use Rattle.run_work.specs.of_life_counts.Epochs.{Speaker, IsSpeaker, IsRun, AllFair}
use Rattle.run_work.specs.of_life_counts.Foreseen as Foreseen
use Rattle.run_work.specs.of_life_counts.Spoken.{IsPassed}
use Rattle.served_places.specs.of_state_model.Accounts.{Started}
use Rattle.served_places.specs.of_state_model.Promise.{services_in}
use Rattle.served_rings.specs.Served.{server_behind}
use Rattle.served_rings.proofs.Newest.{AllValid}

-- what is passed on is a mail
abbrev pub is_mail : Body → Bool
is_mail (Ok m) = true
is_mail (Err fault) = false

-- whatever it begins
abbrev pub mailer : Profile → Speaker (InState Server) Body OwnService Reply (Station Core) Spoken.Asked
mailer p = record (speaker p) { calm = λ v. true; fair = is_mail }

pub mailer_speaks : (p : Profile) → IsSpeaker (speaker p) → IsSpeaker (mailer p)
mailer_speaks p k = record {
  served = k.served;
  stated = k.stated;
  lawful = any_lawful (speaker p).exchange (speaker p).core k.served is_mail;
  keeps = λ state v. refl;
  first = k.first;
  last = k.last;
  speaks = k.speaks;
}

pub mailer_runs : (p : Profile) (boot : Bool) (station : ℕ) → IsRun (mailer p) (spoken p) (processor_of boot) (seer_of p boot) (table_of boot station)
mailer_runs p boot station = record { serve = refl; speech = refl; tells = λ state v. refl; tells_seen = λ state v. refl; carries = λ r. refl; worded = λ r. refl }

-- what came into hand, by its name
abbrev pub start_named : Started Wanted → Started Spoken.Asked
start_named s = record { service = service_seen named_wanted s.service; frame = s.frame }

module _ (p : Profile) where
  -- what a master passes on is a mail
  passed_mail : (q : Spoken.Asked) (m : Body) → IsPassed (naming_of p) m q → is_mail m ≡ true
  passed_mail (Spoken.sdo q) m k = absurd (let no : false ≡ true = k.passes in cc)
  passed_mail (Spoken.file q) m k = absurd (let no : false ≡ true = k.passes in cc)
  passed_mail (Spoken.drive q) m k = absurd (let no : false ≡ true = k.passes in cc)
  passed_mail (Spoken.net q) m k = absurd (let no : false ≡ true = k.passes in cc)
  passed_mail (Spoken.passed n) m k = let mails : Ok n ∷ [] ≡ m ∷ [] = k.planned [] in let one : Ok n ≡ m = cc in ap is_mail (sym one)

  pub all_mails : (ss : List (Started Spoken.Asked)) → AllFair (mailer p) ss
  all_mails [] = tt
  all_mails (s ∷ ss) = ((λ q m is k. passed_mail q m k), all_mails ss)

  -- ---- names
  abbrev valid : Service Wanted → Bool
  valid q = service_valid (calm_tagged (product_whole parts p) (λ v. true) is_mail).speech q

  abbrev named : Service Wanted → Service Spoken.Asked
  named q = service_seen named_wanted q

  -- a service acts by its name
  pub acts_named : (v : InState Server) (q : Wanted) → valid (Service.Mails q) ≡ true → asked_exec (product_whole parts p) v q ≡ (spoken p).exec v (named_wanted q)
  acts_named v (Asked.Script (Protocol.CoE, q)) k = refl
  acts_named v (Asked.Script (Protocol.FoE, q)) k = refl
  acts_named v (Asked.Script (Protocol.SoE, q)) k = refl
  acts_named v (Asked.Script (Protocol.EoE, q)) k = refl
  acts_named v (Asked.Passed (Ok m) answers) k = refl
  acts_named v (Asked.Passed (Err fault) answers) k = absurd (let no : false ≡ true = k in cc)

  abbrev pub AllNamed : List (Service Wanted) → Type 0
  AllNamed qs = AllValid (product_whole parts p) (λ v. true) is_mail qs

  module _ (boot : Bool) (station : ℕ) where
    -- THE SERVER BEHIND SERVICES is the one behind them by their names
    pub behind_named : (v : InState Server) (qs : List (Service Wanted)) → AllNamed qs → Foreseen.server_behind (product_whole parts p) whole_states (table_of boot station) v qs ≡ server_behind p boot station v (map named qs)
    behind_named v [] k = refl
    behind_named v (Service.Mails q ∷ qs) k =
        behind_named (asked_exec (product_whole parts p) v q) qs k.1 ∙ ap (λ z. server_behind p boot station z (map named qs)) (acts_named v q k.0)
    behind_named v (Service.State target ∷ qs) k = behind_named (record v { state = state_behind (table_of boot station) v.state target }) qs k.1

  pub named_front : (qs rs : List (Service Wanted)) → AllNamed (qs ++ rs) → AllNamed qs
  named_front [] rs k = tt
  named_front (q ∷ qs) rs k = (k.0, named_front qs rs k.1)

  pub named_take : (n : ℕ) (qs : List (Service Wanted)) → AllNamed qs → AllNamed (take n qs)
  named_take zero qs k = tt
  named_take (suc n) [] k = tt
  named_take (suc n) (q ∷ qs) k = (k.0, named_take n qs k.1)

  pub services_named : (ss : List (Started Wanted)) → services_in (map start_named ss) ≡ map named (services_in ss)
  services_named [] = refl
  services_named (s ∷ ss) = ap (λ l. named s.service ∷ l) (services_named ss)

  -- WHAT IS NAMED A MAIL that is passed on is one
  pub record IsNamedMail (m : Mail) (q : Wanted) : Type 0 where
    pub answers : Bool
    pub is : q ≡ Asked.Passed (Ok m) answers

  pub named_mail : (m : Mail) (q : Wanted) → named_wanted q ≡ Spoken.passed m → (let plans : List Body = Ok m ∷ [] in (answers : Bool) (n : Body) → q ≡ Asked.Passed n answers → n ∷ [] ≡ plans) → IsNamedMail m q
  named_mail m (Asked.Script (Protocol.CoE, q)) e one = absurd (let no : Spoken.sdo q ≡ Spoken.passed m = e in cc)
  named_mail m (Asked.Script (Protocol.FoE, q)) e one = absurd (let no : Spoken.file q ≡ Spoken.passed m = e in cc)
  named_mail m (Asked.Script (Protocol.SoE, q)) e one = absurd (let no : Spoken.drive q ≡ Spoken.passed m = e in cc)
  named_mail m (Asked.Script (Protocol.EoE, q)) e one = absurd (let no : Spoken.net q ≡ Spoken.passed m = e in cc)
  named_mail m (Asked.Passed n answers) e one = record { answers = answers; is = ap (λ b. Asked.Passed b answers) (let l : n ∷ [] ≡ Ok m ∷ [] = one answers n refl in let same : n ≡ Ok m = cc in same) }

  -- a service by mails with a name is one
  pub named_mails : (q : Service Wanted) (t : Spoken.Asked) → named q ≡ Service.Mails t → (d : Wanted) × (q ≡ Service.Mails d)
  named_mails (Service.Mails d) t e = (d, refl)
  named_mails (Service.State target) t e = absurd (let no : Service.State target ≡ Service.Mails t = e in cc)
