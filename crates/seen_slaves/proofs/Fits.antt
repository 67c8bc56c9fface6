-- What an epoch that is seen with what is meant by its mails says of its slave.
use Rattle.std.proofs.Common.{◌≡◌, ◌≢◌, ℕ, Bool, true, false, Option, Some, None, option_map, List, [], ◌∷◌, ◌++◌, map, length, refl, sym, ap, ◌∙◌, subst, inl, inr, append-nil, if◌then◌else◌}
use Rattle.idle_slaves.specs.of_slave_model.Moments.{IsMailsLast, WasHeard}
use Rattle.idle_slaves.specs.of_slave_model.Waits.{NeverWaits}
use Rattle.idle_slaves.specs.of_exchange_model.Exchange.{Exchange, IsLawful, given, plain}
use Rattle.idle_slaves.specs.of_exchange_model.Rows.{Row}
use Rattle.idle_slaves.proofs.Comes.{era_comes}
use Rattle.idle_slaves.proofs.Links.{era_link}
use Rattle.idle_slaves.specs.of_life_model.Lives.{Era, Spot}
use Rattle.served_rings.specs.of_few_replies.Erased.{EndOne}
use Rattle.served_rings.specs.of_few_replies.Heard.{IsPassedBy}
use Rattle.served_rings.specs.of_few_replies.Silent.{is_passed}
use Rattle.seen_slaves.proofs.Comes.{come}
use Rattle.seen_slaves.proofs.Links.{link}
use Rattle.seen_slaves.specs.Fits.{FitsSo, HasNone}
use Rattle.seen_slaves.specs.Spent.{IsEndTold, NothingSeen, SpeakOne}
use Rattle.seen_slaves.proofs.Led.{led_says}
use Rattle.seen_slaves.proofs.SeenSpent.{frees, lasts_seen, of_row, unawaited}
use Rattle.seen_slaves.proofs.SeenTold.{told_as}
use Rattle.seen_slaves.proofs.Alone.{alone_as}
use Rattle.seen_slaves.proofs.SeenRows.{state_real}
use Rattle.seen_slaves.proofs.SeenStands.{era_stands}
use Rattle.served_rings.proofs.SeenSettled.{none_box}
use Rattle.idle_slaves.specs.of_segment_model.Ends.{Passing}
use Rattle.idle_slaves.specs.of_segment_model.Record.{Frame}
use Rattle.idle_slaves.specs.of_segment_model.Slaves.{Processor, Registers, Slave}
use Rattle.served_rings.specs.of_serving_model.Erasing.{slave_as}
use Rattle.served_rings.specs.of_serving_model.Passing.{ends_told}
use Rattle.served_rings.specs.of_serving_model.Tagged.{Asked, Rowed, Tagged, answer_gifts, ends_marked, ideal, is_own, own_gift, real}
use Rattle.served_rings.proofs.of_serving_model.TaggedLaw.{marked-answer}
use Rattle.seen_slaves.specs.Last.{LastPasses}
use Rattle.idle_slaves.specs.of_state_model.Stated.{IsStated, Service}
use Rattle.idle_slaves.specs.of_state_model.States.{Table}
use Rattle.served_rings.specs.of_life_counts.Epochs.{IsRun, IsSeen, IsSpeaker, Speaker, between, era_named, newest_of, seeing, seeing_states}
use Rattle.served_rings.specs.of_life_counts.Spoken.{IsNamed, IsPassed}
use Rattle.served_rings.proofs.of_life_counts.TaggedWhole.{seeing_lawful, seeing_stated}
use Rattle.seen_slaves.proofs.Never.{never_calm}
use Rattle.idle_slaves.specs.of_state_model.Accounts.{Started}

-- what came into hand last is the newest
newest_last : {Q : Type 0} (front : List (Started Q)) (s : Started Q) → newest_of (front ++ s ∷ []) ≡ Some s.service
newest_last [] s = refl
newest_last (a ∷ []) s = refl
newest_last (a ∷ (b ∷ front)) s = newest_last (b ∷ front) s

mails_newest : {Q : Type 0} (ss : List (Started Q)) → IsMailsLast ss → (target : ℕ) → newest_of ss ≡ Some (Service.State target) → ⊥
mails_newest ss k target e =
    let last : newest_of ss ≡ Some (Service.Mails k.service) = ap newest_of k.is ∙ newest_last k.front (record { service = Service.Mails k.service; frame = k.frame }) in
    (let no : Some (Service.Mails k.service) ≡ Some (Service.State target) = sym last ∙ e in cc)

-- what replies to nothing is no reply
no_replies : {M : Type 0} (Q : Type 0) (ms : List M) → plain (λ (t : Tagged M Q). is_own t.meant) (map (λ m. own_gift m) ms) ≡ []
no_replies Q [] = refl
no_replies Q (m ∷ ms) = no_replies Q ms

abbrev ends_by : (R : Type 0) → Bool → Option (Option R)
ends_by R b = if b then Some None else None

ends_if : {R : Type 0} (b : Bool) (r : R) → (if b then Some r else None) ≡ Some r → b ≡ true
ends_if true r e = refl
ends_if false r e = absurd (let no : None ≡ Some r = e in cc)

module _ {V M Q R C T : Type 0} (w : Speaker V M Q R C T) (k : IsSpeaker w) where
  abbrev Row' : Type 0
  Row' = Row (Tagged M Q) (Asked M Q) (Option R)

  -- ---- THE ROW OF A MAIL THAT IS PASSED ON, with all its replies heard, of which there is one, is ended by them for the master
  -- its name passes a mail on
  passed_name : (t : T) → w.naming.passed t ≡ true → IsNamed w.naming w.exchange.speech w.states.acknowledged t → (m : M) × IsPassed w.naming m t
  passed_name t passes (inl script) = absurd (let no : false ≡ true = sym script.1.unpassed ∙ passes in cc)
  passed_name t passes (inr p) = p

  end_told : (t : Row') → (q : Asked M Q) → t.service ≡ q → is_passed q ≡ true → plain (λ (a : Tagged M Q). is_own a.meant) t.heard ≢ [] → WasHeard (seeing w) t → w.naming.passed (w.naming.name t.service) ≡ true →
      EndOne (λ (a : Tagged M Q). a.mail) w.naming.name (λ (a : Option R). a) (seeing w).speech w.naming.speech t.service t.heard → IsEndTold (λ (a : Tagged M Q). a.mail) w.naming.speech w.naming.more t
  end_told t (Asked.Script q) is here some heard passes ends = absurd (let no : false ≡ true = here in cc)
  end_told t (Asked.Passed m false) is here some heard passes ends =
      let gifts : List M = (w.exchange.serve (ideal w.exchange heard.server) m).1 in
      absurd (some (heard.heard ∙ ap (λ (q : Asked M Q). plain (λ (a : Tagged M Q). is_own a.meant) (given (seeing w).serve heard.server ((seeing w).full heard.server q))) is
      ∙ ap (plain (λ (a : Tagged M Q). is_own a.meant)) (append-nil (map (λ g. own_gift g) gifts)) ∙ no_replies Q gifts))
  end_told t (Asked.Passed m true) is here some heard passes ends =
      let gifts : List M = (w.exchange.serve (ideal w.exchange heard.server) m).1 in
      let all : plain (λ (a : Tagged M Q). is_own a.meant) t.heard ≡ plain (λ (a : Tagged M Q). is_own a.meant) (answer_gifts w.exchange.speech.emission m gifts) =
      heard.heard ∙ ap (λ (q : Asked M Q). plain (λ (a : Tagged M Q). is_own a.meant) (given (seeing w).serve heard.server ((seeing w).full heard.server q))) is
      ∙ ap (plain (λ (a : Tagged M Q). is_own a.meant)) (append-nil (answer_gifts w.exchange.speech.emission m gifts)) in
      let ended : (seeing w).speech.ends t.service (plain (λ (a : Tagged M Q). is_own a.meant) t.heard) ≡ Some None =
      ap (λ (q : Asked M Q). (seeing w).speech.ends q (plain (λ (a : Tagged M Q). is_own a.meant) t.heard)) is ∙ ap (ends_by R) (ap ends_marked all ∙ marked-answer Q w.exchange.speech.emission m gifts) in
      let words : List M = plain w.naming.speech.emission (map (λ (a : Tagged M Q). a.mail) t.heard) in
      let name : T = w.naming.name t.service in
      let p = passed_name name passes (k.speaks.names name) in
      inr (ends_if {R = Option R} (ends_told w.naming.more words) None (sym (p.1.ends words) ∙ sym ends ∙ ap (λ (o : Option (Option R)). option_map (λ (a : Option R). a) o) ended))

  module _ (never : NeverWaits w.exchange) {A : Type 0} (u : Exchange V A M T (Option R)) (processor : Processor V) (seer : Processor (Rowed V M Q)) (table : ℕ → Table) (spot : Spot) (run : IsRun w u processor seer (table spot.station))
      (opened : ℕ) (v : V) (r : Registers) (fs : List (Frame M)) (counts : Bool) (e : Era M T (Option R)) (n : Slave V M) (is : IsSeen w seer table spot opened v r fs counts e n) where
    abbrev here : Era M T (Option R)
    here = era_named w is.era

    abbrev slave : Slave V M
    slave = slave_as (λ (a : Tagged M Q). a.mail) (real w.exchange) is.slave

    lawful : IsLawful (seeing w)
    lawful = seeing_lawful w k

    stated : IsStated (seeing w) (seeing_states w)
    stated = seeing_stated w k

    never_seen : NeverWaits (seeing w)
    never_seen = never_calm w.exchange w.core k.served never w.calm w.fair

    speaks : SpeakOne (λ (a : Tagged M Q). a.mail) w.naming.name (λ (a : Option R). a) (seeing w).speech w.naming.speech is.era
    speaks = record { plans = is.plans; hands = is.hands }

    none : HasNone w.naming.speech here slave → NothingSeen (λ (a : Tagged M Q). a.mail) w.naming.name (λ (a : Option R). a) (seeing w).speech w.naming.speech (real w.exchange) is.era is.slave
    none z = record {
      settled = z.settled;
      held = none_box (λ (a : Tagged M Q). a.mail) (real w.exchange) is.slave is.era.side.halves.out.holding z.held;
      clear = z.clear;
      hand = z.hand;
      left = z.left;
      answered = led_says (seeing w) (seeing_states w).acknowledged seer (λ (a : Tagged M Q). w.naming.more a.mail) is_passed spot opened (between v) r lawful.none is.frames counts is.era is.slave is.led;
    }

    -- a mail that is passed on and awaits a reply behind the first is that of the row in hand, of which one was heard
    tells : LastPasses here → is.era.passing ≡ Some Passing.Answered → (t : Row') → is.era.side.now ≡ Some t → w.naming.passed (w.naming.name t.service) ≡ true → WasHeard (seeing w) t → IsEndTold (λ (a : Tagged M Q). a.mail) w.naming.speech w.naming.more t
    tells lasts answered t now passes heard =
        let p : IsPassedBy (seeing w).speech (λ (a : Tagged M Q). w.naming.more a.mail) is_passed Passing.Answered is.era.side.now = is.passes Passing.Answered answered in
        let row : p.row ≡ t = (let both : Some p.row ≡ Some t = sym p.is ∙ now in cc) in
        let mails : IsMailsLast is.era.account.started = lasts_seen (λ (a : Tagged M Q). a.mail) w.naming.name (λ (a : Option R). a) is.era lasts Passing.Answered answered in
        end_told t t.service refl (ap (λ (z : Row'). is_passed z.service) (sym row) ∙ p.passes) (subst (λ (z : Row'). plain (λ (a : Tagged M Q). is_own a.meant) z.heard ≢ []) row p.heard.0) heard passes
        (of_row (λ (z : Row'). EndOne (λ (a : Tagged M Q). a.mail) w.naming.name (λ (a : Option R). a) (seeing w).speech w.naming.speech z.service z.heard) is.era.side.now t (is.ends (mails_newest is.era.account.started mails)) now)

    fits_here : FitsSo u processor (table spot.station) w.naming.speech w.naming.acknowledged w.naming.more w.naming.passed here slave
    fits_here = record {
      link = link (λ (a : Tagged M Q). a.mail) w.naming.name (λ (a : Option R). a) (real w.exchange) is.era.side is.slave
          (era_link (seeing w) lawful (seeing_states w) stated seer table spot is.era opened (length is.frames) is.frames (between v) r is.slave is.is);
      alone = alone_as (seeing w) (seeing_states w) (table spot.station) is.era.account.hand is.slave
          (era_stands (seeing w) lawful (seeing_states w) stated seer table spot is.era opened (length is.frames) is.frames (between v) r is.slave is.is)
          (λ (a : Tagged M Q). a.mail) (real w.exchange) u processor w.states.tell w.states.state (λ z. sym (run.carries z) ∙ run.worded z) run.tells k.stated.same (state_real w.exchange w.states k.stated);
      come = λ duty phase hand stage. come (table spot.station) duty.target phase is.slave.registers
          (era_comes (seeing w) (seeing_states w) seer table spot is.era opened (length is.frames) is.frames (between v) r is.slave is.is duty phase hand stage);
      told = λ hand z now answer has quiet. told_as (λ (a : Tagged M Q). a.mail) w.naming.name (λ (a : Option R). a) (seeing w) (seeing_states w) w.naming.speech w.naming.acknowledged seer table spot is.era opened (length is.frames) is.frames (between v) r is.slave
          lawful stated is.is hand is.plans is.lasts z now answer has quiet;
      free = λ z. frees (λ (a : Tagged M Q). a.mail) w.naming.name (λ (a : Option R). a) (seeing w) (seeing_states w) w.naming.speech (real w.exchange) seer table spot is.era opened (length is.frames) is.frames (between v) r is.slave
          lawful stated never_seen is.is speaks (none z) w.naming.acknowledged;
      awaits = λ z passes lasts answered. unawaited (λ (a : Tagged M Q). a.mail) w.naming.name (λ (a : Option R). a) (seeing w) (seeing_states w) w.naming.speech (real w.exchange) seer table spot is.era opened (length is.frames) is.frames (between v) r is.slave
          lawful stated never_seen is.is speaks (none z) w.naming.more w.naming.passed passes lasts (tells lasts answered) answered;
    }

    -- SO IT IS OF THE EPOCH AS IT WAS
    pub fits : FitsSo u processor (table spot.station) w.naming.speech w.naming.acknowledged w.naming.more w.naming.passed e n
    fits = subst (λ (d : Era M T (Option R)). FitsSo u processor (table spot.station) w.naming.speech w.naming.acknowledged w.naming.more w.naming.passed d n) is.named
        (subst (λ (m : Slave V M). FitsSo u processor (table spot.station) w.naming.speech w.naming.acknowledged w.naming.more w.naming.passed here m) is.stands fits_here)
