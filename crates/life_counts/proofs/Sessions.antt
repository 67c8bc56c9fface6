-- FRAME BY FRAME, from where it was opened: an epoch that its master leads is a session that sees what is meant by its mails.
use Rattle.std.proofs.Common.{◌≡◌, ℕ, suc, ◌&&◌, Bool, true, false, Option, None, Some, List, [], ◌∷◌, ◌++◌, map, length, refl, ap, sym, ◌∙◌, subst, arith, if◌then◌else◌}
use Rattle.std.specs.Prelude.{replicate}
use Rattle.master_hand.specs.of_exchange_model.Exchange.{Exchange, IsLawful}
use Rattle.master_hand.specs.of_exchange_model.Rows.{Row}
use Rattle.few_replies.specs.of_life_model.Eras.{planned, opened_slave}
use Rattle.few_replies.specs.of_life_model.Lives.{Spot, Era, new_era, granted}
use Rattle.few_replies.specs.of_life_model.Own.{blank}
use Rattle.few_replies.proofs.of_life_model.Eras as LifeEras
use Rattle.few_replies.specs.Erased.{frame_as, OfRow, EndOne}
use Rattle.few_replies.specs.Led.{IsLed, EraTurn, NoneUnheard, IsAnswered, news_in, turn_next, turn_after}
use Rattle.few_replies.specs.Silent.{is_passed}
use Rattle.few_replies.proofs.Rows as PassingRows
use Rattle.master_hand.specs.of_segment_model.Record.{Frame}
use Rattle.master_hand.specs.of_segment_model.Slaves.{Registers, Processor, Slave}
use Rattle.master_hand.specs.of_serving_model.Tagged.{Tagged, Asked, Rowed}
use Rattle.master_hand.specs.of_state_model.Stated.{IsStated, Service}
use Rattle.master_hand.specs.of_state_model.States.{Table}
use Rattle.master_hand.specs.of_state_model.Accounts.{Account, Duty, Started, is_free, is_acknowledged, starts, state_begins, account_begins}
use Rattle.master_hand.specs.of_state_model.Tasks.{IsTaskPlan}
use Rattle.life_counts.specs.Epochs.{Speaker, IsSpeaker, IsRun, IsSeen, AllFair, between, newest_of, seeing, seeing_states}
use Rattle.life_counts.proofs.Begins.{NowKnown, contents_of, hands_of, lasts_of, plans_of}
use Rattle.life_counts.proofs.Clients.{MarksSame, ends}
use Rattle.life_counts.proofs.Eras.{era_knows}
use Rattle.life_counts.proofs.Marks.{IsPassedNow, PassedNow}
use Rattle.life_counts.proofs.Led as Led
use Rattle.life_counts.proofs.Opened.{after_started, replicated, blank_frames, blanks_seen}

module _ {V M Q R C T A : Type 0} (w : Speaker V M Q R C T) (k : IsSpeaker w) (lawful : IsLawful (seeing w)) (stated : IsStated (seeing w) (seeing_states w)) (u : Exchange V A M T (Option R)) (processor : Processor V) (seer : Processor (Rowed V M Q)) (tables : ℕ → Table) (spot : Spot)
    (run : IsRun w u processor seer (tables spot.station)) (opened : ℕ) (v : V) (r : Registers) where
  abbrev Tied : List (Frame M) → Bool → Era M T (Option R) → Slave V M → Type 0
  Tied fs counts e n = Led.Tied w k lawful stated u processor seer tables spot run opened v r fs counts e n

  abbrev LedThere : List (Frame M) → Bool → Era M T (Option R) → Slave V M → Type 0
  LedThere fs counts e n = IsLed u w.naming.acknowledged processor w.naming.more w.naming.passed spot opened v r fs counts e n

  abbrev LedHere : List (Frame (Tagged M Q)) → Bool → Era (Tagged M Q) (Asked M Q) (Option R) → Slave (Rowed V M Q) (Tagged M Q) → Type 0
  LedHere gs counts d m = IsLed (seeing w) (seeing_states w).acknowledged seer (λ t. w.naming.more t.mail) is_passed spot opened (between v) r gs counts d m

  abbrev blanks : List (Frame (Tagged M Q))
  blanks = replicate (suc opened) blank

  front_fair : (ss ts : List (Started T)) → AllFair w (ss ++ ts) → AllFair w ss
  front_fair [] ts all = tt
  front_fair (z ∷ ss) ts all = (all.0, front_fair ss ts all.1)

  -- those that came into hand before a turn are fair
  module _ (fs : List (Frame M)) (counts : Bool) (e : Era M T (Option R)) (t : EraTurn V M T) where
    abbrev then_there : Era M T (Option R)
    then_there = turn_next u w.naming.acknowledged processor w.naming.more w.naming.passed spot opened fs e t

    abbrev behind_it : Era M T (Option R)
    behind_it = turn_after u w.naming.acknowledged processor w.naming.more w.naming.passed spot opened fs counts e t

    fair_next : AllFair w behind_it.account.started → AllFair w then_there.account.started
    fair_next = subst (AllFair w) (after_started u.speech w.naming.acknowledged w.naming.more w.naming.passed spot.station (length fs) (news_in spot opened fs counts t) t.sent t.fate t.back then_there)

    fair_before : AllFair w then_there.account.started → AllFair w e.account.started
    fair_before = go e.account.hand (granted e.passing t.pick).begin
      where
        by : (b : Bool) (s : Service T) (a : Account T (Option R)) → a.started ≡ starts e.account s (length fs) → AllFair w (if b then a else e.account).started → AllFair w e.account.started
        by true s a is all = front_fair e.account.started (record { service = s; frame = length fs } ∷ []) (subst (AllFair w) is all)
        by false s a is all = all

        go : (hand : Option Duty) (begin : Option (Service T)) → AllFair w (account_begins u.speech w.naming.acknowledged (length fs) e.side e.account hand begin).started → AllFair w e.account.started
        go hand None all = all
        go (Some duty) (Some wish) all = all
        go None (Some (Service.Mails q)) all =
            by (u.speech.valid q && is_free u.speech e.side e.side.now) (Service.Mails q) (record e.account { started = starts e.account (Service.Mails q) (length fs) }) refl all
        go None (Some (Service.State target)) all =
            by (is_free u.speech e.side e.side.now && is_acknowledged u.speech w.naming.acknowledged e.side e.side.now) (Service.State target) (state_begins e.account target (length fs)) refl all

  module _ (plan : IsTaskPlan (seeing w) (seeing_states w) seer tables (planned spot (between v) r ∷ [])) (answers : r.station ≡ spot.station)
      (heard : (gs : List (Frame (Tagged M Q))) (counts : Bool) (d : Era (Tagged M Q) (Asked M Q) (Option R)) (m : Slave (Rowed V M Q) (Tagged M Q)) → LedHere gs counts d m → NoneUnheard (seeing w) is_passed d)
      (always : (m : M) → IsAnswered (seeing w) is_passed (Asked.Passed m true)) where
    -- IT BEGINS SO
    pub begin : (cleared : Option ℕ) (state : ℕ) (fs : List (Frame M)) → length fs ≡ suc opened → Tied fs true (record (new_era cleared state) { opened = Some opened }) (opened_slave M T (Option R) spot v r)
    begin cleared state fs is =
        let long : length blanks ≡ suc opened = replicated blank (suc opened) in
        record {
          frames = blanks;
          era = record (new_era cleared state) { opened = Some opened };
          slave = opened_slave (Tagged M Q) (Asked M Q) (Option R) spot (between v) r;
          led = IsLed.begins cleared state blanks long;
          is = LifeEras.era_begins (seeing w) (seeing_states w) seer tables spot cleared state opened blanks (between v) r long plan answers;
          long = long ∙ sym is;
          later = omega (arith, long);
          alike = ap (map (λ f. frame_as (λ (t : Tagged M Q). t.mail) f)) (blank_frames spot opened blanks long) ∙ blanks_seen (λ (t : Tagged M Q). t.mail) (suc opened) ∙ sym (blank_frames spot opened fs is);
          named = refl;
          stands = refl;
          right = tt;
          known = tt;
          passes = PassingRows.new (seeing w).speech (λ t. w.naming.more t.mail) is_passed None;
          answered = λ none. tt;
        }

    -- FRAME BY FRAME
    tied : (fs : List (Frame M)) (counts : Bool) (e : Era M T (Option R)) (n : Slave V M) → LedThere fs counts e n → AllFair w e.account.started → Tied fs counts e n
    tied fs counts e n (IsLed.begins cleared state gs is) fair = begin cleared state gs is
    tied fs counts e n (IsLed.goes_on gs c d m l t may) fair =
        let next = fair_next gs c d t fair in
        Led.tied_next w k lawful stated u processor seer tables spot run opened v r gs c d m (tied gs c d m l (fair_before gs c d t next)) t may next heard always

    -- the row in hand is ended alike
    ends_seen : (fs : List (Frame M)) (counts : Bool) (e : Era M T (Option R)) (n : Slave V M) (i : Tied fs counts e n) → ((target : ℕ) → newest_of i.era.account.started ≡ Some (Service.State target) → ⊥) →
        OfRow (λ h. EndOne (λ t. t.mail) w.naming.name (λ a. a) (seeing w).speech w.naming.speech h.service h.heard) i.era.side.now
    ends_seen fs counts e n i mails =
        let knows = era_knows w.exchange w.core k.served w.calm w.fair w.states k.stated lawful stated seer tables spot i.era opened (length i.frames) i.frames (between v) r i.slave i.is refl i.right w.naming.more k.last in
        go i.era.side.now i.known knows.passed
      where
        marks_by : (m : M) (answers : Bool) (row : Row (Tagged M Q) (Asked M Q) (Option R)) → PassedNow w.exchange w.calm w.fair w.states w.naming.more k.last i.era.account.started m answers row →
            MarksSame w.exchange w.calm w.fair w.states.acknowledged w.naming k.speaks.emission (Asked.Passed m answers) row.heard
        marks_by m answers row (PassedNow.heard same all state) = same
        marks_by m answers row (PassedNow.rests target newest yes_ answered) = absurd (mails target newest)

        marks : (row : Row (Tagged M Q) (Asked M Q) (Option R)) (q : Asked M Q) → row.service ≡ q → IsPassedNow w.exchange w.calm w.fair w.states w.naming.more k.last i.era.account.started row →
            MarksSame w.exchange w.calm w.fair w.states.acknowledged w.naming k.speaks.emission q row.heard
        marks row (Asked.Script q) is passed = tt
        marks row (Asked.Passed m answers) is passed = marks_by m answers row (passed m answers is)

        go : (now : Option (Row (Tagged M Q) (Asked M Q) (Option R))) → NowKnown w.exchange w.calm w.fair w.states w.naming k.speaks now → OfRow (IsPassedNow w.exchange w.calm w.fair w.states w.naming.more k.last i.era.account.started) now →
            OfRow (λ h. EndOne (λ t. t.mail) w.naming.name (λ a. a) (seeing w).speech w.naming.speech h.service h.heard) now
        go None known passed = tt
        go (Some row) known passed = ends w.exchange w.calm w.fair w.states.acknowledged w.naming k.speaks.emission row.service known.known row.heard known.by (marks row row.service refl passed)

    pub seen_so : (fs : List (Frame M)) (counts : Bool) (e : Era M T (Option R)) (n : Slave V M) → LedThere fs counts e n → AllFair w e.account.started → IsSeen w seer tables spot opened v r fs counts e n
    seen_so fs counts e n l fair =
        let i = tied fs counts e n l fair in
        record {
          frames = i.frames;
          era = i.era;
          slave = i.slave;
          led = i.led;
          is = i.is;
          long = i.long;
          same = i.alike;
          named = i.named;
          stands = i.stands;
          right = i.right;
          passes = i.passes;
          plans = plans_of w.exchange w.calm w.fair w.states w.naming k.speaks i.era.side i.era.side.now i.known;
          hands = hands_of w.exchange w.calm w.fair w.states w.naming k.speaks i.era.side.now i.known;
          lasts = lasts_of w.exchange w.calm w.fair w.states w.naming k.speaks i.era.side.now i.known;
          contents = contents_of w.exchange w.calm w.fair w.states w.naming k.speaks i.era.side.now i.known;
          answered = i.answered;
          ends = ends_seen fs counts e n i;
        }
