-- An exchange whose application has an AL state, with its state services beside the services by mails: one exchange of both.
use Rattle.std.specs.Prelude.{◌≡◌, ◌+◌, ℕ, suc, Bool, true, false, Option, Some, None, option_map, List, [], ◌∷◌, map}
use Rattle.segment_model.specs.of_exchange_model.Exchange.{Exchange, Speech, AnswersLast}
use Rattle.segment_model.specs.Ends.{Outcome}
use Rattle.state_model.specs.States.{Table}
use Rattle.state_model.specs.Promises.{state_behind, answer_of}

-- how an AL state stands in an exchange
pub record Stated (V A Q : Type 0) : Type 0 where
  -- a server that is told its slave's AL state, and what that does to its application
  pub tell : ℕ → V → V
  pub told : ℕ → A → A
  -- the AL state of an application
  pub state : A → ℕ
  -- the services whose last mail may be an acknowledgement, which brings no reply
  pub acknowledged : Q → Bool

-- what such an exchange owes beside the laws of exchange
pub record IsStated {V A M Q R : Type 0} (x : Exchange V A M Q R) (s : Stated V A Q) : Type 0 where
  -- the AL state is one of the application's parts: telling it leaves the rest of the server
  pub ready : (state : ℕ) (v : V) → x.ready (s.tell state v) ≡ x.ready v
  pub handled : (state : ℕ) (v : V) → x.handled (s.tell state v) ≡ x.handled v
  pub app : (state : ℕ) (v : V) → x.app (s.tell state v) ≡ s.told state (x.app v)
  pub is : (state : ℕ) (a : A) → s.state (s.told state a) ≡ state
  -- the state that stands is no news
  pub same : (v : V) → s.tell (s.state (x.app v)) v ≡ v
  -- no mail changes it, and no service by mails
  pub stays : (v : V) (m : M) → s.state (x.app (x.serve v m).0) ≡ s.state (x.app v)
  pub keeps : (a : A) (q : Q) → s.state (x.exec a q) ≡ s.state a
  -- but for an acknowledgement no mail is left behind the last reply
  pub last : AnswersLast x s.acknowledged

-- what a server takes: a mail, or a control word with this target
pub data Act (M : Type 0) : Type 0 where
  Mail : M → Act M
  Word : ℕ → Act M

-- a service by mails, or a change of the AL state to this target
pub data Service (Q : Type 0) : Type 0 where
  Mails : Q → Service Q
  State : ℕ → Service Q

-- a server with the number of the control words that it has carried out
pub record Counting (V : Type 0) : Type 0 where
  pub server : V
  pub words : ℕ

-- mails as what a server takes
abbrev pub acts : {M : Type 0} → List M → List (Act M)
acts ms = map (λ m. Act.Mail m) ms

-- the mails among these
abbrev pub mails : {M : Type 0} → List (Act M) → List M
mails [] = []
mails (Act.Mail m ∷ more) = m ∷ mails more
mails (Act.Word target ∷ more) = mails more

-- these as mails, where all are
abbrev pub all_mails : {M : Type 0} → List (Act M) → Option (List M)
all_mails [] = Some []
all_mails (Act.Mail m ∷ more) = option_map (λ ms. m ∷ ms) (all_mails more)
all_mails (Act.Word target ∷ more) = None

-- a server behind a mail, or behind a control word: its AL state is the one behind the word, by the slave's table
abbrev pub serve_act : {V A M Q R : Type 0} → Exchange V A M Q R → Stated V A Q → Table → Counting V → Act M → Counting V × List (Act M)
serve_act x s table c (Act.Mail m) = (record c { server = (x.serve c.server m).0 }, acts (x.serve c.server m).1)
serve_act x s table c (Act.Word target) =
    (record { server = s.tell (state_behind table (s.state (x.app c.server)) target) c.server; words = suc c.words }, [])

-- a control word is no emission
abbrev pub act_emission : {M : Type 0} → (M → Bool) → Act M → Bool
act_emission emission (Act.Mail m) = emission m
act_emission emission (Act.Word target) = false

-- the laws speak of each state service
abbrev pub service_valid : {M Q R : Type 0} → Speech M Q R → Service Q → Bool
service_valid x (Service.Mails q) = x.valid q
service_valid x (Service.State target) = true

-- the client's acts, until it has to hear more; what hears a control word is no client of a service by mails
abbrev pub planned_by : {M Q R : Type 0} → Speech M Q R → Q → Option (List M) → List (Act M)
planned_by x q None = []
planned_by x q (Some hs) = acts (x.planned q hs)

-- the client of a state service has its control word
abbrev pub service_planned : {M Q R : Type 0} → Speech M Q R → Service Q → List (Act M) → List (Act M)
service_planned x (Service.Mails q) hs = planned_by x q (all_mails hs)
service_planned x (Service.State target) hs = Act.Word target ∷ []

-- the reply of a service by mails, where only mails were heard
abbrev pub ends_by : {M Q R : Type 0} → Speech M Q R → Q → Option (List M) → Option (Outcome R)
ends_by x q None = None
ends_by x q (Some hs) = option_map (λ r. Outcome.Replied r) (x.ends q hs)

-- a state service has no reply by mails: a status ends it
abbrev pub service_ends : {M Q R : Type 0} → Speech M Q R → Service Q → List (Act M) → Option (Outcome R)
service_ends x (Service.Mails q) hs = ends_by x q (all_mails hs)
service_ends x (Service.State target) hs = None

-- a state service is over without a reply by mails, like one that ends with its last write
abbrev pub service_handed : {M Q R : Type 0} → Speech M Q R → Service Q → Bool
service_handed x (Service.Mails q) = x.handed q
service_handed x (Service.State target) = true

-- all acts of a service: its mails, or its control word
abbrev pub service_full : {V A M Q R : Type 0} → Exchange V A M Q R → V → Service Q → List (Act M)
service_full x v (Service.Mails q) = acts (x.full v q)
service_full x v (Service.State target) = Act.Word target ∷ []

-- a state service brings the application to the state behind it, by the slave's table, and is counted
abbrev pub service_exec : {V A M Q R : Type 0} → Exchange V A M Q R → Stated V A Q → Table → A × ℕ → Service Q → A × ℕ
service_exec x s table a (Service.Mails q) = (x.exec a.0 q, a.1)
service_exec x s table a (Service.State target) = (s.told (state_behind table (s.state a.0) target) a.0, suc a.1)

-- and its answer is the table's
abbrev pub service_reply : {V A M Q R : Type 0} → Exchange V A M Q R → Stated V A Q → Table → A × ℕ → Service Q → Outcome R
service_reply x s table a (Service.Mails q) = Outcome.Replied (x.reply a.0 q)
service_reply x s table a (Service.State target) = answer_of (table (s.state a.0) target)

-- a state service emits nothing
abbrev pub service_emits : {V A M Q R : Type 0} → Exchange V A M Q R → A × ℕ → Service Q → List (Act M)
service_emits x a (Service.Mails q) = acts (x.emits a.0 q)
service_emits x a (Service.State target) = []

-- how many of these are state services
abbrev pub states_in : {Q : Type 0} → List (Service Q) → ℕ
states_in [] = 0
states_in (Service.Mails q ∷ qs) = states_in qs
states_in (Service.State target ∷ qs) = suc (states_in qs)

-- what the client of both speaks
abbrev pub service_speech : {M Q R : Type 0} → Speech M Q R → Speech (Act M) (Service Q) (Outcome R)
service_speech x = record {
  emission = act_emission x.emission;
  valid = service_valid x;
  planned = service_planned x;
  ends = service_ends x;
  handed = service_handed x;
}

-- BOTH AS ONE EXCHANGE: it counts services by mails and state services alike; beside the application stands how many state services were done
abbrev pub with_states : {V A M Q R : Type 0} → Exchange V A M Q R → Stated V A Q → Table → Exchange (Counting V) (A × ℕ) (Act M) (Service Q) (Outcome R)
with_states x s table = record {
  serve = λ c a. serve_act x s table c a;
  app = λ c. (x.app c.server, c.words);
  handled = λ c. x.handled c.server + c.words;
  ready = λ c. x.ready c.server;
  speech = service_speech x.speech;
  full = λ c q. service_full x c.server q;
  exec = service_exec x s table;
  reply = service_reply x s table;
  emits = service_emits x;
}
