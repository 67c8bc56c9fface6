-- What a visit's datagram makes of a life, where nothing is gained by it.
use Rattle.std.proofs.Common.{◌≡◌, ◌≤◌, ℕ, suc, ◌==◌, Bool, true, false, is_some, Option, Some, None, List, [], ◌∷◌, ◌++◌, length, refl, sym, ap, ◌∙◌, subst, arith, if◌then◌else◌, eq-eqb, inl, inr}
use Rattle.std.specs.Prelude.{◌&&◌, not}
use Rattle.plan_ring.specs.of_exchange_model.Exchange.{Speech}
use Rattle.plan_ring.specs.of_life_model.Gains.{gains, stage_gains, progress_gains}
use Rattle.plan_ring.specs.of_life_model.Visits.{Visit, empty_gain, visit_gain}
use Rattle.plan_ring.proofs.of_life_model.Gaining.{written_gains, heard_gains, state_gains}
use Rattle.plan_ring.specs.of_life_model.Lives.{Era, Life, Spot, Stand, life_back, era_back, passes, reopens, reopens_at, reopening, opens_state, returns_to_init}
use Rattle.plan_ring.specs.of_life_model.Own.{own}
use Rattle.plan_ring.specs.of_link_model.Agree.{Agrees, InAgree}
use Rattle.plan_ring.specs.of_link_model.Frames.{Ask, mail_back, halves_after, halves_answered, halves_accept, all_accepted, node_meets}
use Rattle.plan_ring.specs.of_link_model.Gains.{write_gain, read_gain}
use Rattle.plan_ring.specs.of_link_model.Link.{Halves, Link, write_counter, written}
use Rattle.plan_ring.specs.of_link_model.Mails.{LinkMail, differs, news}
use Rattle.plan_ring.specs.of_link_model.Master.{InState, read_answered}
use Rattle.plan_ring.specs.of_link_model.Slave.{Node}
use Rattle.plan_ring.proofs.of_link_model.Gains.{clear_news}
use Rattle.plan_ring.specs.of_segment_model.Ends.{Passing}
use Rattle.plan_ring.specs.of_segment_model.Record.{News, is_for}
use Rattle.plan_ring.specs.of_segment_model.Slaves.{Datagram, Access, Found, grams}
use Rattle.plan_ring.specs.of_state_model.Accounts.{Account, Duty, Stage, Progress, account_back, account_met, account_by, access_done}
use Rattle.idle_slaves.specs.Waiting.{Wanted}
use Rattle.idle_slaves.specs.Visited.{IsFor, Meets, CameBack, HasRow, IsStill, is_boxed, is_served}

-- the one datagram
own_after : {M : Type 0} (station : ℕ) (h : Halves M) (d : Datagram M) (ds : List (Datagram M)) → ds ≡ d ∷ [] → d.gram.station ≡ station → halves_after station h (grams ds) ≡ halves_answered h d.gram.ask d.gram
own_after station h d ds one is = ap (λ z. halves_after station h (grams z)) one ∙ ap (λ (z : Bool). if z then halves_answered h d.gram.ask d.gram else h) (eq-eqb d.gram.station station is)

more_than : {X : Type 0} (a b : ℕ) → suc a ≤ b → b ≡ a → X
more_than a b le e = absurd (omega (arith, le, e))

-- a reopening leaves the epoch
pub reopens_era : {M Q R : Type 0} (k : Life M Q R) (hand : Option Duty) → (reopens k hand).era ≡ k.era
reopens_era k None = refl
reopens_era {M} {Q} {R} k (Some duty) = at_stage duty.stage
  where
    go : (b : Bool) → (if b then record k { stand = reopening (opens_state duty.target) true } else k).era ≡ k.era
    go true = refl
    go false = refl

    at_stage : (stage : Stage) → (reopens_at k duty.target stage).era ≡ k.era
    at_stage Stage.Drains = refl
    at_stage (Stage.Goes phase) = go (returns_to_init duty.target)

-- how far a mail that is passed on has come, where mailbox 0 has taken it, or the slave
pub boxed_is : (p : Option Passing) → is_boxed p ≡ true → p ≡ Some Passing.Boxed
boxed_is None e = absurd (cc)
boxed_is (Some Passing.Waiting) e = absurd (cc)
boxed_is (Some Passing.Sent) e = absurd (cc)
boxed_is (Some Passing.Boxed) e = refl
boxed_is (Some Passing.Served) e = absurd (cc)
boxed_is (Some Passing.Answered) e = absurd (cc)

pub served_is : (p : Option Passing) → is_served p ≡ true → p ≡ Some Passing.Served
served_is None e = absurd (cc)
served_is (Some Passing.Waiting) e = absurd (cc)
served_is (Some Passing.Sent) e = absurd (cc)
served_is (Some Passing.Boxed) e = absurd (cc)
served_is (Some Passing.Served) e = refl
served_is (Some Passing.Answered) e = absurd (cc)

-- ---- NOTHING WAS GAINED: the mailbox was full, or empty
module _ {M Q R : Type 0} (x : Speech M Q R) (acknowledged : Q → Bool) (more : M → Bool) (passed : Q → Bool) (frame : ℕ) (spot : Spot) (ns : List (News M)) (back : List (Datagram M)) (came : Option (Bool × Option Found)) (l : Life M Q R) where
  abbrev pub behind : Life M Q R
  behind = life_back x acknowledged more passed frame spot ns back came l Stand.Open

  -- how far it has come behind these news
  pub passing_is : behind.era.passing ≡ passes x acknowledged more passed l.era.passing ns
  passing_is = let e = era_back x acknowledged more passed spot.station frame ns back l.era in ap (λ (z : Era M Q R). z.passing) (reopens_era (record l { era = e }) e.account.hand)

  -- where mailbox 0 was seen empty, or mailbox 1, it came a step on
  pub not_boxed : {S : Type 0} (n : Node M S) (stepped : Bool) → l.era.passing ≡ Some Passing.Boxed → IsStill stepped n Visit.Full ns l behind → (b : LinkMail M) × (n.out.box ≡ Some b)
  not_boxed n stepped boxed still = go n.out.box refl
    where
      told : ns ≡ News.BoxFull (is_some n.out.box) ∷ []
      told = still.tells (ap is_some boxed)

      go : (box : Option (LinkMail M)) → n.out.box ≡ box → (b : LinkMail M) × (box ≡ Some b)
      go (Some b) e = (b, refl)
      go None e = absurd (
          let on = passing_is ∙ ap (λ p. passes x acknowledged more passed p ns) boxed ∙ ap (passes x acknowledged more passed (Some Passing.Boxed)) (told ∙ ap (λ z. News.BoxFull (is_some z) ∷ []) e) in
          let no : Some Passing.Served ≡ Some Passing.Boxed = sym on ∙ still.same ∙ boxed in cc)

  pub not_served : {S X : Type 0} (n : Node M S) (stepped : Bool) → stepped ≡ true → n.inn.box ≡ None → l.era.passing ≡ Some Passing.Served → IsStill stepped n Visit.Read ns l behind → X
  not_served n stepped made empty served still = absurd (
      let told : ns ≡ News.NothingRead ∷ [] = still.tells (ap is_some served) made empty in
      let on = passing_is ∙ ap (λ p. passes x acknowledged more passed p ns) served ∙ ap (passes x acknowledged more passed (Some Passing.Served)) told in
      let no : None ≡ Some Passing.Served = sym on ∙ still.same ∙ served in cc)

  module _ (same : gains behind ≡ gains l) (d : Datagram M) (one : own spot.station back ≡ d ∷ []) (is : d.gram.station ≡ spot.station) where
    full_write : (held sent : LinkMail M) (box : Option (LinkMail M)) → l.era.side.halves.out.holding ≡ Some held → d.gram.ask ≡ Ask.WriteMail sent → d.gram.counter ≡ write_counter box → (b : LinkMail M) × (box ≡ Some b)
    full_write held sent None h ask counter = more_than (gains l) (gains behind) (written_gains x acknowledged more passed frame spot ns back came l d held sent one is h ask (ap (λ c. c == 0) counter)) same
    full_write held sent (Some b) h ask counter = (b, refl)

    accepts : (b : LinkMail M) → d.gram.ask ≡ Ask.ReadMail → mail_back d.gram ≡ Some b → all_accepted spot.station l.era.side.halves (grams (own spot.station back)) ≡ news l.era.side.halves.inn.last (Some b) ++ []
    accepts b ask mail =
        ap (λ z. all_accepted spot.station l.era.side.halves (grams z)) one
        ∙ ap (λ (z : Bool). (if z then halves_accept l.era.side.halves d.gram.ask d.gram else []) ++ []) (eq-eqb d.gram.station spot.station is)
        ∙ ap (λ z. halves_accept l.era.side.halves z d.gram ++ []) ask
        ∙ ap (λ z. news l.era.side.halves.inn.last z ++ []) mail

    empty_read : {S : Type 0} (n : Node M S) (offered accepted : List M) (box : Option (LinkMail M)) → n.inn.box ≡ box → InAgree l.era.side.halves.inn n.inn offered accepted → l.era.side.halves.inn.state ≡ InState.Clear → HasRow l n → d.gram.ask ≡ Ask.ReadMail → mail_back d.gram ≡ n.inn.box → box ≡ None
    empty_read n offered accepted None e a clear row ask mail = refl
    empty_read n offered accepted (Some b) e a clear row ask mail =
        let r = row b e in
        let new = accepts b ask (mail ∙ e) ∙ ap (λ z. z ++ []) (clear_news l.era.side.halves.inn n.inn offered accepted b clear e a) in
        more_than (gains l) (gains behind) (heard_gains x acknowledged more passed frame spot ns back came l r.0 r.1 (omega (arith, ap length new))) same

    full_seen : (duty : Duty) (box : Option (LinkMail M)) → l.era.account.hand ≡ Some duty → duty.stage ≡ Stage.Drains → is_for spot.station d.address ≡ true → d.access ≡ Access.ReadFull → (d.counter == 0) ≡ false → d.found ≡ Some (Found.Full (is_some box)) → (b : LinkMail M) × (box ≡ Some b)
    full_seen duty None hand stage address access met found =
        let done : access_done {R = R} duty.target duty.stage d.access d.found ≡ access_done {R = R} duty.target Stage.Drains Access.ReadFull (Some (Found.Full false)) =
        ap (λ z. access_done {R = R} duty.target z d.access d.found) stage ∙ ap (λ z. access_done {R = R} duty.target Stage.Drains z d.found) access ∙ ap (λ z. access_done {R = R} duty.target Stage.Drains Access.ReadFull z) found in
        more_than (gains l) (gains behind) (state_gains x acknowledged more passed frame spot ns back came l d duty one hand address met (omega (arith, ap stage_gains stage, ap progress_gains done))) same
    full_seen duty (Some b) hand stage address access met found = (b, refl)

-- ---- WHAT IS BEHIND IT
reopens_same : {M Q R : Type 0} (q : Wanted) (k : Life M Q R) (hand : Option Duty) (p : Option Passing) → IsFor q hand p → reopens k hand ≡ k
reopens_same Wanted.Mails k hand p (none, unboxed) = ap (reopens k) none
reopens_same Wanted.Drains k hand p (inl (duty, is, stage)) = ap (reopens k) is ∙ ap (reopens_at k duty.target) stage
reopens_same Wanted.Drains k hand p (inr (none, boxed)) = ap (reopens k) none

met_at : {M Q R : Type 0} (station frame : ℕ) (q : Wanted) (a : Account Q R) (d : Datagram M) (hand : Option Duty) (p : Option Passing) → a.hand ≡ hand → IsFor q hand p →
    ((duty : Duty) → duty.stage ≡ Stage.Drains → access_done {R = R} duty.target duty.stage d.access d.found ≡ Progress.On Stage.Drains) → IsFor q (account_met station frame a hand d).hand p
met_at station frame q a d None p e f drains = subst (λ z. IsFor q z p) (sym e) f
met_at station frame Wanted.Mails a d (Some duty) p e f drains = absurd (let no : Some duty ≡ None = f.0 in cc)
met_at station frame Wanted.Drains a d (Some duty) p e (inr (none, boxed)) drains = absurd (let no : Some duty ≡ None = none in cc)
met_at {M} {Q} {R} station frame Wanted.Drains a d (Some duty) p e (inl (other, is, stage)) drains = go (is_for station d.address && not (d.counter == 0))
  where
    same : duty ≡ other
    same = let both : Some duty ≡ Some other = is in cc

    drained : duty.stage ≡ Stage.Drains
    drained = ap (λ z. z.stage) same ∙ stage

    go : (b : Bool) → IsFor Wanted.Drains (if b then account_by frame a duty (access_done {R = R} duty.target duty.stage d.access d.found) else a).hand p
    go true = subst (λ z. IsFor Wanted.Drains (account_by frame a duty z).hand p) (sym (drains duty drained)) (inl (record duty { stage = Stage.Drains }, refl, refl))
    go false = inl (duty, e, drained)

-- a visit in vain
pub record IsVainly {M Q R S : Type 0} (l k : Life M Q R) (n : Node M S) (w : Link M S) (visit : Visit) (q : Wanted) (ask : Ask M) : Type 0 where
  pub gain : visit_gain w visit ≡ 0
  pub halves : k.era.side.halves ≡ l.era.side.halves
  pub hand : IsFor q k.era.account.hand k.era.passing
  pub stands : k.stand ≡ Stand.Open
  pub node : node_meets n ask ≡ n

module _ {M Q R : Type 0} (x : Speech M Q R) (acknowledged : Q → Bool) (more : M → Bool) (passed : Q → Bool) (frame : ℕ) (spot : Spot) (ns : List (News M)) (back : List (Datagram M)) (came : Option (Bool × Option Found)) (l : Life M Q R) (stands_open : l.stand ≡ Stand.Open) (q : Wanted) where
  abbrev era : Era M Q R
  era = era_back x acknowledged more passed spot.station frame ns back l.era

  abbrev next : Life M Q R
  next = life_back x acknowledged more passed frame spot ns back came l Stand.Open

  module _ (hand : IsFor q era.account.hand l.era.passing) where
    then_is : next ≡ record l { era = era }
    then_is = reopens_same q (record l { era = era }) era.account.hand l.era.passing hand

    pub then_hand : next.era.passing ≡ l.era.passing → IsFor q next.era.account.hand next.era.passing
    then_hand same = subst (λ p. IsFor q next.era.account.hand p) (sym same) (subst (λ z. IsFor q z.era.account.hand l.era.passing) (sym then_is) hand)

    pub then_halves : next.era.side.halves ≡ halves_after spot.station l.era.side.halves (grams (own spot.station back))
    then_halves = ap (λ z. z.era.side.halves) then_is

    pub then_stands : next.stand ≡ Stand.Open
    then_stands = ap (λ z. z.stand) then_is ∙ stands_open

  -- by one datagram
  pub hand_met : (d : Datagram M) → own spot.station back ≡ d ∷ [] → IsFor q l.era.account.hand l.era.passing →
      ((duty : Duty) → duty.stage ≡ Stage.Drains → access_done {R = R} duty.target duty.stage d.access d.found ≡ Progress.On Stage.Drains) → IsFor q era.account.hand l.era.passing
  hand_met d one f drains = subst (λ z. IsFor q (account_back spot.station frame l.era.account z).hand l.era.passing) (sym one) (met_at spot.station frame q l.era.account d l.era.account.hand l.era.passing refl f drains)

  -- by none
  pub hand_none : own spot.station back ≡ [] → IsFor q l.era.account.hand l.era.passing → IsFor q era.account.hand l.era.passing
  hand_none none f = subst (λ z. IsFor q (account_back spot.station frame l.era.account z).hand l.era.passing) (sym none) f

  pub halves_none : own spot.station back ≡ [] → halves_after spot.station l.era.side.halves (grams (own spot.station back)) ≡ l.era.side.halves
  halves_none none = ap (λ z. halves_after spot.station l.era.side.halves (grams z)) none

  elsewhere : (d : Datagram M) → d.access ≡ Access.Elsewhere → (duty : Duty) → duty.stage ≡ Stage.Drains → access_done {R = R} duty.target duty.stage d.access d.found ≡ Progress.On Stage.Drains
  elsewhere d access duty stage = ap (λ z. access_done {R = R} duty.target z d.access d.found) stage ∙ ap (λ z. access_done {R = R} duty.target Stage.Drains z d.found) access

  seen_full : (d : Datagram M) → d.access ≡ Access.ReadFull → d.found ≡ Some (Found.Full true) → (duty : Duty) → duty.stage ≡ Stage.Drains → access_done {R = R} duty.target duty.stage d.access d.found ≡ Progress.On Stage.Drains
  seen_full d access found duty stage =
      ap (λ z. access_done {R = R} duty.target z d.access d.found) stage ∙ ap (λ z. access_done {R = R} duty.target Stage.Drains z d.found) access ∙ ap (λ z. access_done {R = R} duty.target Stage.Drains Access.ReadFull z) found

  module _ {S : Type 0} (n : Node M S) (w : Link M S) (halves : w.halves ≡ l.era.side.halves) (node : w.node ≡ n) (agrees : Agrees w) (clear : l.era.side.halves.inn.state ≡ InState.Clear) (row : HasRow l n) (f : IsFor q l.era.account.hand l.era.passing) (same : gains next ≡ gains l) (still : next.era.passing ≡ l.era.passing) where
    module _ (d : Datagram M) (one : own spot.station back ≡ d ∷ []) (is : d.gram.station ≡ spot.station) (address : is_for spot.station d.address ≡ true) where
      vain_write : Meets n l.era.side.halves Visit.Write d → IsVainly l next n w Visit.Write q d.gram.ask
      vain_write (m, holds, ask, counter, access) =
          let b = full_write x acknowledged more passed frame spot ns back came l same d one is m m n.out.box holds ask counter in
          let hand = hand_met d one f (elsewhere d access) in
          let zero : d.gram.counter ≡ 0 = counter ∙ ap write_counter b.1 in
          record {
            gain = ap (λ (h : Halves M). write_gain h.out.holding w.node.out.box) halves ∙ ap (λ z. write_gain z w.node.out.box) holds ∙ ap (λ (k : Node M S). write_gain (Some m) k.out.box) node ∙ ap (λ z. write_gain (Some m) z) b.1;
            halves = then_halves hand ∙ own_after spot.station l.era.side.halves d (own spot.station back) one is ∙ ap (λ z. halves_answered l.era.side.halves z d.gram) ask
                ∙ ap (λ c. (let h = l.era.side.halves in record h { out = if c == 0 then h.out else record h.out { holding = None } })) zero;
            hand = then_hand hand still;
            stands = then_stands hand;
            node = ap (node_meets n) ask ∙ ap (λ z. record n { out = written n.out z m }) b.1;
          }

      vain_read : Meets n l.era.side.halves Visit.Read d → IsVainly l next n w Visit.Read q d.gram.ask
      vain_read (ask, mail, access) =
          let h = l.era.side.halves in
          let agreed : InAgree h.inn n.inn w.offered w.accepted = subst (λ (k : Node M S). InAgree h.inn k.inn w.offered w.accepted) node (subst (λ (z : Halves M). InAgree z.inn w.node.inn w.offered w.accepted) halves agrees.inn) in
          let none = empty_read x acknowledged more passed frame spot ns back came l same d one is n w.offered w.accepted n.inn.box refl agreed clear row ask mail in
          let hand = hand_met d one f (elsewhere d access) in
          record {
            gain = ap (λ (z : Halves M). read_gain z.inn.state w.node.inn.box (differs w.node.inn.acknowledge w.halves.inn.bit)) halves ∙ ap (λ z. read_gain z w.node.inn.box (differs w.node.inn.acknowledge w.halves.inn.bit)) clear
                ∙ ap (λ (k : Node M S). read_gain InState.Clear k.inn.box (differs w.node.inn.acknowledge w.halves.inn.bit)) node ∙ ap (λ z. read_gain InState.Clear z (differs w.node.inn.acknowledge w.halves.inn.bit)) none;
            halves = then_halves hand ∙ own_after spot.station h d (own spot.station back) one is ∙ ap (λ z. halves_answered h z d.gram) ask
                ∙ ap (λ z. record h { inn = read_answered h.inn z }) (mail ∙ none) ∙ ap (λ z. record h { inn = record h.inn { state = z } }) (sym clear);
            hand = then_hand hand still;
            stands = then_stands hand;
            node = ap (node_meets n) ask ∙ ap (λ z. record n { inn = record n.inn { box = z } }) (sym none);
          }

      -- mailbox 0 is full: the state service would have drained, or the mail that is passed on would have been taken
      stays_full : (stepped : Bool) → IsFor Wanted.Drains l.era.account.hand l.era.passing → Meets n l.era.side.halves Visit.Full d → IsStill stepped n Visit.Full ns l next → (b : LinkMail M) × (n.out.box ≡ Some b)
      stays_full stepped (inl (duty, holds, stage)) (ask, access, met, found) kept = full_seen x acknowledged more passed frame spot ns back came l same d one is duty n.out.box holds stage address access met found
      stays_full stepped (inr (none, boxed)) m kept = not_boxed x acknowledged more passed frame spot ns back came l n stepped (boxed_is l.era.passing boxed) kept

      vain_full : (stepped : Bool) → IsFor Wanted.Drains l.era.account.hand l.era.passing → IsStill stepped n Visit.Full ns l next → Meets n l.era.side.halves Visit.Full d → IsVainly l next n w Visit.Full q d.gram.ask
      vain_full stepped drains kept (ask, access, met, found) =
          let h = l.era.side.halves in
          let b = stays_full stepped drains (ask, access, met, found) kept in
          let hand = hand_met d one f (seen_full d access (found ∙ ap (λ z. Some (Found.Full (is_some z))) b.1)) in
          record {
            gain = ap (λ (k : Node M S). empty_gain k.out.box) node ∙ ap empty_gain b.1;
            halves = then_halves hand ∙ own_after spot.station h d (own spot.station back) one is ∙ ap (λ z. halves_answered h z d.gram) ask;
            hand = then_hand hand still;
            stands = then_stands hand;
            node = ap (node_meets n) ask;
          }

    -- BY WHAT THE VISIT WAS
    pub vainly : (stepped : Bool) (visit : Visit) → (visit ≡ Visit.Full → IsFor Wanted.Drains l.era.account.hand l.era.passing) → IsStill stepped n visit ns l next → (b : CameBack spot.station n l.era.side.halves visit back) → IsVainly l next n w visit q b.datagram.gram.ask
    vainly stepped Visit.Write full kept b = vain_write b.datagram b.one b.station_is b.address b.meets
    vainly stepped Visit.Read full kept b = vain_read b.datagram b.one b.station_is b.address b.meets
    vainly stepped Visit.Full full kept b = vain_full b.datagram b.one b.station_is b.address stepped (full refl) kept b.meets
