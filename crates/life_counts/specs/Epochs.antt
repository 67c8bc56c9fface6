-- AN EPOCH AS A MASTER LEADS IT, and the same with what is meant by its mails.
use Rattle.std.specs.Prelude.{◌≡◌, ℕ, Bool, true, is_some, Option, Some, None, List, [], ◌∷◌, map, length, ⊤}
use Rattle.master_hand.specs.of_exchange_model.Exchange.{Exchange, IsLawful}
use Rattle.master_hand.specs.of_exchange_model.Rows.{ends_unheard}
use Rattle.few_replies.specs.of_life_model.Eras.{EraIs, era_frames}
use Rattle.few_replies.specs.of_life_model.Lives.{Spot, Era}
use Rattle.few_replies.specs.Calm.{calm_tagged}
use Rattle.few_replies.specs.Client.{ByContents}
use Rattle.few_replies.specs.Erased.{frame_as, row_seen, OfRow, PlanOne, EndOne}
use Rattle.few_replies.specs.Led.{IsLed, RepliesFirst}
use Rattle.few_replies.specs.Silent.{is_passed}
use Rattle.few_replies.specs.Heard.{EraPasses}
use Rattle.master_hand.specs.of_segment_model.Record.{Frame}
use Rattle.master_hand.specs.of_segment_model.Slaves.{Registers, Processor, Slave}
use Rattle.master_hand.specs.of_serving_model.Erasing.{slave_as}
use Rattle.master_hand.specs.of_serving_model.Passing.{LastTells}
use Rattle.master_hand.specs.of_serving_model.Tagged.{IsServed, Tagged, Asked, Rowed, real}
use Rattle.master_hand.specs.of_serving_model.TaggedStates.{IsStatedServed, tagged_states}
use Rattle.master_hand.specs.of_state_model.Stated.{Stated, Service}
use Rattle.master_hand.specs.of_state_model.States.{Table, carry}
use Rattle.life_counts.specs.Seen.{era_seen}
use Rattle.master_hand.specs.of_state_model.Accounts.{Started}
use Rattle.master_hand.specs.of_state_model.Promise.{services_in}
use Rattle.life_counts.specs.Foreseen.{AllRight}
use Rattle.life_counts.specs.Spoken.{Naming, IsPassed, Speaks}

-- A SERVER OF SERVICES AND FAIR MAILS, which has an AL state, and a master that speaks with it
pub record Speaker (V M Q R C T : Type 0) : Type 0 where
  pub exchange : Exchange V V M Q R
  pub core : V → C
  pub states : Stated V V Q
  pub calm : V → Bool
  pub fair : M → Bool
  pub naming : Naming M Q T R

-- they keep their laws: the server owes those of its services and of its AL state in whatever state it is, and with fair mails among them those of one
-- exchange; it gives replies first, of which the last tells that it is; and the master speaks as the clients do
pub record IsSpeaker {V M Q R C T : Type 0} (w : Speaker V M Q R C T) : Type 0 where
  pub served : IsServed w.exchange w.core
  pub stated : IsStatedServed w.exchange w.states
  pub lawful : IsLawful (calm_tagged w.exchange w.calm w.fair)
  pub keeps : (state : ℕ) (v : V) → w.calm (w.states.tell state v) ≡ w.calm v
  pub first : RepliesFirst w.exchange
  pub last : LastTells w.exchange w.naming.more
  pub speaks : Speaks w.naming w.exchange.speech w.states.acknowledged

-- a server as it is between rows
abbrev pub between : {V M Q : Type 0} → V → Rowed V M Q
between v = record { base = v; hand = None; part = []; count = 0 }

-- the newest service that came into hand
abbrev pub newest_of : {Q : Type 0} → List (Started Q) → Option (Service Q)
newest_of [] = None
newest_of (s ∷ []) = Some s.service
newest_of (s ∷ (t ∷ ss)) = newest_of (t ∷ ss)

module _ {V M Q R C T : Type 0} (w : Speaker V M Q R C T) where
  -- the exchange that sees what is meant by its mails
  abbrev pub seeing : Exchange (Rowed V M Q) V (Tagged M Q) (Asked M Q) (Option R)
  seeing = calm_tagged w.exchange w.calm w.fair

  -- with its AL state
  abbrev pub seeing_states : Stated (Rowed V M Q) V (Asked M Q)
  seeing_states = tagged_states w.exchange w.states

  -- an epoch without what is meant by its mails, by the names that its master has for the services
  abbrev pub era_named : Era (Tagged M Q) (Asked M Q) (Option R) → Era M T (Option R)
  era_named e = era_seen (λ t. t.mail) w.naming.name (λ r. r) e

  -- each mail that came into hand is fair
  abbrev pub AllFair : List (Started T) → Type 0
  AllFair [] = ⊤
  AllFair (t ∷ ts) = ((q : T) (m : M) → t.service ≡ Service.Mails q → IsPassed w.naming m q → w.fair m ≡ true) × AllFair ts

  -- an exchange that the slave's processor runs, which takes mails as that one does and whose master speaks so; and the processor tells both the AL state, by
  -- the same table
  pub record IsRun {A : Type 0} (u : Exchange V A M T (Option R)) (processor : Processor V) (seer : Processor (Rowed V M Q)) (table : Table) : Type 0 where
    pub serve : u.serve ≡ w.exchange.serve
    pub speech : u.speech ≡ w.naming.speech
    pub tells : (state : ℕ) (v : V) → processor.tell state v ≡ w.states.tell state v
    pub tells_seen : (state : ℕ) (v : Rowed V M Q) → seer.tell state v ≡ seeing_states.tell state v
    pub carries : (r : Registers) → seer.carry r ≡ processor.carry r
    pub worded : (r : Registers) → seer.carry r ≡ carry table r

  -- THE SAME EPOCH SEEN WITH WHAT IS MEANT by its mails: it is a session of the exchange that sees it, led by its master, and without that it is the epoch
  -- as it was; each mail that was passed on is foreseen right, a mail is passed on only by its own row, both speak alike of the row in hand by what was heard, and
  -- tell alike whether its last write ends it, and end it alike where no state service came into hand behind it
  pub record IsSeen (seer : Processor (Rowed V M Q)) (table : ℕ → Table) (spot : Spot) (opened : ℕ) (v : V) (r : Registers) (fs : List (Frame M)) (counts : Bool) (e : Era M T (Option R)) (n : Slave V M) : Type 0 where
    pub frames : List (Frame (Tagged M Q))
    pub era : Era (Tagged M Q) (Asked M Q) (Option R)
    pub slave : Slave (Rowed V M Q) (Tagged M Q)
    pub led : IsLed seeing seeing_states.acknowledged seer (λ t. w.naming.more t.mail) is_passed spot opened (between v) r frames counts era slave
    pub is : EraIs seeing seeing_states seer table spot era opened (length frames) frames (between v) r slave
    pub long : length frames ≡ length fs
    pub same : map (λ f. frame_as (λ t. t.mail) f) (era_frames spot opened (length frames) frames) ≡ era_frames spot opened (length fs) fs
    pub named : era_named era ≡ e
    pub stands : slave_as (λ t. t.mail) (real w.exchange) slave ≡ n
    pub right : AllRight w.exchange w.states (table spot.station) v (services_in era.account.started)
    pub passes : EraPasses seeing.speech (λ t. w.naming.more t.mail) is_passed era
    pub plans : OfRow (λ h. PlanOne (λ t. t.mail) w.naming.name (λ a. a) seeing.speech w.naming.speech h.service h.heard) era.side.now
    pub hands : OfRow (λ h. seeing.speech.handed h.service ≡ true → w.naming.speech.handed (w.naming.name h.service) ≡ true) era.side.now
    pub lasts : OfRow (λ h. ends_unheard w.naming.speech w.naming.acknowledged (row_seen (λ t. t.mail) w.naming.name (λ a. a) h) ≡ ends_unheard seeing.speech seeing_states.acknowledged h) era.side.now
    -- contents tell what was heard for it; and where its mail is over, and was foreseen to be answered, it has its answer
    pub contents : OfRow (λ h. ByContents w.exchange.speech.emission h.heard) era.side.now
    pub answered : era.passing ≡ None → OfRow (λ h. (m : M) → h.service ≡ Asked.Passed m true → is_some h.answer ≡ true) era.side.now
    pub ends : ((target : ℕ) → newest_of era.account.started ≡ Some (Service.State target) → ⊥) →
        OfRow (λ h. EndOne (λ t. t.mail) w.naming.name (λ a. a) seeing.speech w.naming.speech h.service h.heard) era.side.now
