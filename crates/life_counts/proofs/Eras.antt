-- OF AN EPOCH that is a session which sees what is meant by its mails: a step of its slave, and what was heard in it.
use Rattle.std.proofs.Common.{◌≡◌, ℕ, Bool, true, false, is_none, Option, Some, None, List, refl}
use Rattle.master_hand.specs.of_exchange_model.Exchange.{Exchange, IsLawful}
use Rattle.few_replies.specs.of_life_model.Eras.{EraIs, OpenEra, era_frames}
use Rattle.few_replies.specs.of_life_model.Lives.{Spot, Era}
use Rattle.few_replies.proofs.of_life_model.Eras.{session_of, of_one}
use Rattle.few_replies.specs.Calm.{calm_tagged}
use Rattle.few_replies.specs.Client.{ByContents}
use Rattle.few_replies.specs.of_link_model.Mails.{LinkMail}
use Rattle.few_replies.specs.Erased.{OfRow}
use Rattle.master_hand.specs.of_segment_model.Record.{Frame, heard, kept_all, nothing_kept}
use Rattle.few_replies.proofs.of_segment_model.Posts.{IsFresh, KeptOut}
use Rattle.master_hand.specs.of_serving_model.Passing.{LastTells}
use Rattle.master_hand.specs.of_segment_model.Seats.{Side}
use Rattle.master_hand.specs.of_segment_model.Slaves.{Registers, Processor, Slave, slave_steps}
use Rattle.master_hand.specs.of_serving_model.Erasing.{slave_as}
use Rattle.master_hand.specs.of_serving_model.Tagged.{IsServed, Tagged, Asked, Rowed, real, ideal}
use Rattle.master_hand.specs.of_serving_model.TaggedStates.{IsStatedServed, tagged_states}
use Rattle.master_hand.specs.of_state_model.Stated.{Stated, IsStated}
use Rattle.master_hand.specs.of_state_model.States.{Table, carry}
use Rattle.master_hand.specs.of_state_model.Accounts.{Account}
use Rattle.master_hand.specs.of_state_model.Promise.{services_in}
use Rattle.few_replies.proofs.of_state_model.Sessions.{of_slaves}
use Rattle.life_counts.specs.Foreseen.{AllRight}
use Rattle.life_counts.proofs.Marks.{IsPassedNow, passed_now}
use Rattle.life_counts.proofs.Rights.{Between}
use Rattle.life_counts.proofs.Steps.{stepped, heard_tells}

-- WHAT IS KNOWN of an epoch at a moment: what was heard in it is told by its contents, and of a mail that is passed on a first part of its replies was heard;
-- a half that holds no mail has nothing new to send; and the inward half knows the counter of the record
pub record Knows {V M Q R : Type 0} (x : Exchange V V M Q R) (calm : V → Bool) (fair : M → Bool) (s : Stated V V Q) (more : M → Bool) (last : LastTells x more) (gs : List (Frame (Tagged M Q))) (station : ℕ) (d : Side (Tagged M Q) (Asked M Q) (Option R))
    (a : Account (Asked M Q) (Option R)) : Type 0 where
  pub tells : ByContents x.speech.emission (heard station gs)
  pub passed : OfRow (IsPassedNow x calm fair s more last a.started) d.now
  pub idle : is_none d.halves.out.holding ≡ true → d.fresh ≡ false
  pub kept : d.halves.inn.last ≡ (kept_all station nothing_kept gs).heard

module _ {V M Q R C : Type 0} (x : Exchange V V M Q R) (core : V → C) (law : IsServed x core) (calm : V → Bool) (fair : M → Bool) (s : Stated V V Q) (owes : IsStatedServed x s)
    (lawful : IsLawful (calm_tagged x calm fair)) (stated : IsStated (calm_tagged x calm fair) (tagged_states x s)) (seer : Processor (Rowed V M Q)) (table : ℕ → Table) (spot : Spot) (e : Era (Tagged M Q) (Asked M Q) (Option R)) (opened end : ℕ)
    (fs : List (Frame (Tagged M Q))) (start : Rowed V M Q) (r : Registers) (n : Slave (Rowed V M Q) (Tagged M Q)) (is : EraIs (calm_tagged x calm fair) (tagged_states x s) seer table spot e opened end fs start r n)
    (same : Between x start) (right : AllRight x s (table spot.station) (ideal x start) (services_in e.account.started)) where
  abbrev mail : Tagged M Q → M
  mail k = k.mail

  abbrev era : OpenEra (Rowed V M Q) V (Tagged M Q) (Asked M Q) (Option R)
  era = record {
    exchange = calm_tagged x calm fair;
    states = tagged_states x s;
    processor = seer;
    table = table;
    spot = spot;
    era = e;
    opened = opened;
    end = end;
    frames = fs;
    server = start;
    registers = r;
    slave = n;
    lawful = lawful;
    stated = stated;
    is = is;
  }

  abbrev SideHere : Type 0
  SideHere = Side (Tagged M Q) (Asked M Q) (Option R)

  abbrev AccountHere : Type 0
  AccountHere = Account (Asked M Q) (Option R)

  -- A STEP of its slave is the same without what is meant
  pub era_steps : {A T : Type 0} (u : Exchange V A M T (Option R)) (processor : Processor V) → u.serve ≡ x.serve → ((state : ℕ) (v : V) → processor.tell state v ≡ s.tell state v) →
      ((state : ℕ) (v : Rowed V M Q) → seer.tell state v ≡ (tagged_states x s).tell state v) → ((k : Registers) → seer.carry k ≡ processor.carry k) → ((k : Registers) → seer.carry k ≡ carry (table spot.station) k) →
      slave_as mail (real x) (slave_steps (calm_tagged x calm fair) seer n) ≡ slave_steps u processor (slave_as mail (real x) n)
  era_steps u processor serve tells tells_seen carries worded =
      let P : Table → List (Frame (Tagged M Q)) → ℕ → Rowed V M Q → SideHere → AccountHere → Slave (Rowed V M Q) (Tagged M Q) → Type 0 =
      (λ t gs station v d a k. Between x v → AllRight x s t (ideal x v) (services_in a.started) → ((j : Registers) → seer.carry j ≡ carry t j) →
      slave_as mail (real x) (slave_steps (calm_tagged x calm fair) seer k) ≡ slave_steps u processor (slave_as mail (real x) k)) in
      let z = session_of era in
      of_one era (λ station v d a k. P (table station) (era_frames spot opened end fs) station v d a k)
      (of_slaves z.exchange z.lawful z.states z.stated z.processor z.table (λ m. false) z.planned.tells z.plan z.planned z.sides z.accounts z.ring z.frames z.tasked P
      (λ t begun it gs seat a h between all words. stepped x core law calm fair s owes t lawful stated u processor seer serve tells tells_seen carries words (λ m. false) begun it gs seat a h between all))
      same right worded

  idle_fresh : (fresh : Bool) (holding : Option (LinkMail (Tagged M Q))) (count kept : ℕ) → KeptOut fresh holding count kept → is_none holding ≡ true → fresh ≡ false
  idle_fresh false holding count kept k none = refl
  idle_fresh true None count kept k none = let f : IsFresh {M = Tagged M Q} None count kept = k in absurd (let no : None ≡ Some f.mail = f.holds in cc)
  idle_fresh true (Some m) count kept k none = absurd (let no : false ≡ true = none in cc)

  pub era_knows : (more : M → Bool) (last : LastTells x more) → Knows x calm fair s more last (era_frames spot opened end fs) spot.station e.side e.account
  era_knows more last =
      let P : Table → List (Frame (Tagged M Q)) → ℕ → Rowed V M Q → SideHere → AccountHere → Slave (Rowed V M Q) (Tagged M Q) → Type 0 =
      (λ t gs station v d a k. Between x v → AllRight x s t (ideal x v) (services_in a.started) → Knows x calm fair s more last gs station d a) in
      let z = session_of era in
      of_one era (λ station v d a k. P (table station) (era_frames spot opened end fs) station v d a k)
      (of_slaves z.exchange z.lawful z.states z.stated z.processor z.table (λ m. false) z.planned.tells z.plan z.planned z.sides z.accounts z.ring z.frames z.tasked P
      (λ t begun it gs seat a h between all. record {
        tells = heard_tells x core law calm fair s owes t lawful stated (λ m. false) begun it gs seat a h between all;
        passed = passed_now x calm fair s more last t lawful stated (λ m. false) begun it gs seat a h all;
        idle = idle_fresh seat.side.fresh seat.side.halves.out.holding seat.side.halves.out.last (kept_all seat.station nothing_kept gs).told h.posts.out;
        kept = h.records.listens.kept;
      }))
      same right
