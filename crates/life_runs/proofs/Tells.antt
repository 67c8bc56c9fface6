-- What is told of a mail that is passed on are its own replies.
use Rattle.std.proofs.Common.{◌≡◌, ℕ, Bool, true, false, Option, Some, None, List, [], ◌∷◌, ◌++◌, length, refl, ap, sym, ◌∙◌, subst, append_assoc, append-nil, length-append, arith, ◌+◌}
use Rattle.std.specs.Prelude.{◌&&◌, is_some, option_map, if◌then◌else◌}
use Rattle.master_hand.specs.of_exchange_model.Exchange.{Speech, plain}
use Rattle.master_hand.specs.of_exchange_model.Rows.{Row, begun, row_told, row_heard}
use Rattle.master_hand.proofs.of_exchange_model.Words.{plain-append}
use Rattle.master_tour.specs.of_life_model.Lives as Lives
use Rattle.master_tour.specs.of_life_model.Lives.{Life, Era, Spot, granted, passes, era_next, life_next, life_back, life_lost, reopens}
use Rattle.master_tour.specs.of_life_model.Own as Own
use Rattle.master_tour.specs.of_link_model.Frames.{all_accepted}
use Rattle.master_hand.specs.of_segment_model.Ends.{Passing}
use Rattle.master_hand.specs.of_segment_model.Record.{News}
use Rattle.master_hand.specs.of_segment_model.Seats.{Side, side_begins, side_holds, side_next, next_mail, is_over}
use Rattle.master_hand.specs.of_segment_model.Slaves.{Datagram, Found, grams}
use Rattle.master_hand.specs.of_state_model.Stated.{Service}
use Rattle.master_hand.specs.of_state_model.Accounts as Accounts
use Rattle.master_hand.specs.of_state_model.Accounts.{Account, Pick, account_back, account_begins, account_next, is_free, starts}
use Rattle.master_tour.specs.of_link_mails.Body.{Body}
use Rattle.master_tour.specs.of_mailbox_mail.declared.mail.Mail.{Mail}
use Rattle.master_tour.specs.of_master_duty.Reply.{Reply}
use Rattle.master_hand.specs.Spoken.{Asked, passed, emission, acknowledged, is_followed, is_passed}
use Rattle.master_tour.specs.Brings.{accepted_at, accepted_in}
use Rattle.life_runs.specs.Told.{Passed, TellsOwn, replies_in}

-- what is known of a slave of which a mail was passed on last: it is open, no state service is in hand, and what was told are its own replies
pub record HasPassed (p : Passed) (l : Life Body Asked Reply) : Type 0 where
  pub opened : l.stand ≡ Lives.Stand.Open
  pub idle : l.era.account.hand ≡ None
  pub tells : TellsOwn p l.era.passing l.era.side.now

-- a mail is taken up: the row is the same but for what it told
holds_tells : (p : Passed) (passing : Option Passing) (d : Side Body Asked Reply) (ms : List Body) → TellsOwn p passing d.now → TellsOwn p passing (side_holds d ms).now
holds_tells p passing d [] t = t
holds_tells p passing d (m ∷ ms) t = record { row = row_told m t.row; is = ap (option_map (λ r. row_told m r)) t.is; service = t.service; rest = t.rest; heard = t.heard; all = t.all }

-- one more is never none
more_not : {T : Type 0} (xs : List T) (y : T) → xs ≡ xs ++ y ∷ [] → ⊥
more_not {T} xs y e = (let n : length xs ≡ length xs + 1 = ap (λ (l : List T). length l) e ∙ length-append xs (y ∷ []) in omega (arith, n))

module _ (x : Speech Body Asked Reply) (made : ℕ) where
  -- NOTHING COMES INTO HAND
  pub none_next : (p : Passed) (l : Life Body Asked Reply) (pick : Pick Asked) → pick.begin ≡ None → HasPassed p l → HasPassed p (life_next x acknowledged is_followed is_passed made l l.stand pick)
  none_next p l pick e h = subst (λ s. HasPassed p (life_next x acknowledged is_followed is_passed made l s pick)) (sym h.opened) (go l.era.passing refl)
    where
      same : pick ≡ record { begin = None; hold = pick.hold }
      same = λ i. record { begin = e i; hold = pick.hold }

      wish : Pick Asked
      wish = record { begin = None; hold = pick.hold }

      quiet : (q : Option Passing) → granted q wish ≡ wish
      quiet None = refl
      quiet (Some q) = refl

      idle : (hand : Option Accounts.Duty) → account_begins x acknowledged made l.era.side l.era.account hand None ≡ l.era.account
      idle None = refl
      idle (Some duty) = refl

      no_mail : (hand : Option Accounts.Duty) → Accounts.mails_begin {Q = Asked} hand None ≡ None
      no_mail None = refl
      no_mail (Some duty) = refl

      -- the epoch with no wish
      era : Era Body Asked Reply
      era = era_next x acknowledged is_followed is_passed made l.era pick

      go : (q : Option Passing) → l.era.passing ≡ q → HasPassed p (record l { era = era })
      go q f =
          let grant : granted l.era.passing pick ≡ wish = ap (granted l.era.passing) same ∙ quiet l.era.passing in
          record {
            opened = h.opened;
            idle = ap (λ w. (account_next x acknowledged made l.era.side l.era.account w).hand) grant ∙ ap (λ (a : Account Asked Reply). a.hand) (idle l.era.account.hand) ∙ h.idle;
            tells = subst (λ w. TellsOwn p (Lives.passing_begins x acknowledged is_followed is_passed l.era.passing l.era.account (account_next x acknowledged made l.era.side l.era.account w) w.begin) (side_next x made l.era.side (Accounts.mails_choice l.era.account w)).now) (sym grant)
                (subst (λ b. TellsOwn p l.era.passing (side_next x made l.era.side (record { begin = b; hold = pick.hold })).now) (sym (no_mail l.era.account.hand))
                (holds_tells p l.era.passing l.era.side (next_mail x l.era.side.now l.era.side.halves.out.holding pick.hold) h.tells));
          }

  -- A MAIL COMES INTO HAND, and is counted: the newest row is its own
  module _ (k : ℕ) (m : Mail) (l : Life Body Asked Reply) (hold : Bool) where
    abbrev wish : Pick Asked
    wish = record { begin = Some (Service.Mails (passed m)); hold = hold }

    abbrev fresh : Passed
    fresh = record { key = k; mail = m; told = [] }

    abbrev Counted : Account Asked Reply → Type 0
    Counted a = a.started ≡ starts l.era.account (Service.Mails (passed m)) made

    first_tells : (passing : Option Passing) (d : Side Body Asked Reply) (ms : List Body) → d.now ≡ Some (begun (passed m) made) → TellsOwn fresh passing (side_holds d ms).now
    first_tells passing d ms e = holds_tells fresh passing d ms (record { row = begun (passed m) made; is = e; service = refl; rest = []; heard = refl; all = λ t. refl })

    -- the side, where the account counts it
    begins : (now : Option (Row Body Asked Reply)) → l.era.side.now ≡ now → Counted (if x.valid (passed m) && is_free x l.era.side now then record l.era.account { started = starts l.era.account (Service.Mails (passed m)) made } else l.era.account) →
        (side_begins x made l.era.side now (Some (passed m))).now ≡ Some (begun (passed m) made)
    begins None e c = go (x.valid (passed m)) c
      where
        go : (z : Bool) → Counted (if z && true then record l.era.account { started = starts l.era.account (Service.Mails (passed m)) made } else l.era.account) → (if z then record l.era.side { now = Some (begun (passed m) made) } else l.era.side).now ≡ Some (begun (passed m) made)
        go true t = refl
        go false t = absurd (more_not l.era.account.started (record { service = Service.Mails (passed m); frame = made }) t)
    begins (Some r) e c = go (x.valid (passed m) && is_over x l.era.side.halves.out.holding l.era.side.fresh r) c
      where
        go : (z : Bool) → Counted (if z then record l.era.account { started = starts l.era.account (Service.Mails (passed m)) made } else l.era.account) →
            (if z then record l.era.side { past = l.era.side.past ++ r ∷ []; now = Some (begun (passed m) made) } else l.era.side).now ≡ Some (begun (passed m) made)
        go true t = refl
        go false t = absurd (more_not l.era.account.started (record { service = Service.Mails (passed m); frame = made }) t)

    pub mail_next : (stand : Lives.Stand) → l.stand ≡ stand → Counted (life_next x acknowledged is_followed is_passed made l stand wish).era.account → HasPassed fresh (life_next x acknowledged is_followed is_passed made l stand wish)
    mail_next (Lives.Stand.Opens o) s c = absurd (more_not l.era.account.started (record { service = Service.Mails (passed m); frame = made }) c)
    mail_next Lives.Stand.Gone s c = absurd (more_not l.era.account.started (record { service = Service.Mails (passed m); frame = made }) c)
    mail_next Lives.Stand.Open s c = by_passing l.era.passing l.era.account.hand refl refl c
      where
        by_passing : (q : Option Passing) (hand : Option Accounts.Duty) → l.era.passing ≡ q → l.era.account.hand ≡ hand → Counted (account_next x acknowledged made l.era.side l.era.account (granted l.era.passing wish)) →
            HasPassed fresh (record l { era = era_next x acknowledged is_followed is_passed made l.era wish })
        by_passing (Some q) hand e f t =
            absurd (more_not l.era.account.started (record { service = Service.Mails (passed m); frame = made }) (sym (ap (λ (a : Account Asked Reply). a.started) (still hand f e)) ∙ t))
          where
            still : (hand : Option Accounts.Duty) → l.era.account.hand ≡ hand → l.era.passing ≡ Some q → account_next x acknowledged made l.era.side l.era.account (granted l.era.passing wish) ≡ l.era.account
            still None f e = (λ i. account_begins x acknowledged made l.era.side l.era.account (f i) (granted (e i) wish).begin)
            still (Some duty) f e = (λ i. account_begins x acknowledged made l.era.side l.era.account (f i) (granted (e i) wish).begin)
        by_passing None (Some duty) e f t =
            absurd (more_not l.era.account.started (record { service = Service.Mails (passed m); frame = made }) (sym (ap (λ (a : Account Asked Reply). a.started) (λ i. account_begins x acknowledged made l.era.side l.era.account (f i) (granted (e i) wish).begin)) ∙ t))
        by_passing None None e f t =
            let account : account_next x acknowledged made l.era.side l.era.account (granted l.era.passing wish) ≡ (if x.valid (passed m) && is_free x l.era.side l.era.side.now then record l.era.account { started = starts l.era.account (Service.Mails (passed m)) made } else l.era.account) = (λ i. account_begins x acknowledged made l.era.side l.era.account (f i) (granted (e i) wish).begin) in
            let row = begins l.era.side.now refl (subst Counted account t) in
            record {
              opened = s;
              idle = ap (λ (a : Account Asked Reply). a.hand) account ∙ unmoved (x.valid (passed m) && is_free x l.era.side l.era.side.now) ∙ f;
              tells = first_tells _ (side_begins x made l.era.side l.era.side.now (Accounts.mails_begin l.era.account.hand (granted l.era.passing wish).begin)) (next_mail x (side_begins x made l.era.side l.era.side.now (Accounts.mails_begin l.era.account.hand (granted l.era.passing wish).begin)).now (side_begins x made l.era.side l.era.side.now (Accounts.mails_begin l.era.account.hand (granted l.era.passing wish).begin)).halves.out.holding (granted l.era.passing wish).hold)
                  ((λ i. (side_begins x made l.era.side l.era.side.now (Accounts.mails_begin (f i) (granted (e i) wish).begin)).now) ∙ row);
            }
          where
            unmoved : (z : Bool) → (if z then record l.era.account { started = starts l.era.account (Service.Mails (passed m)) made } else l.era.account).hand ≡ l.era.account.hand
            unmoved true = refl
            unmoved false = refl

  -- BEHIND A FRAME THAT CAME BACK
  hears_tells : (frame : ℕ) (p : Passed) (passing after : Option Passing) (now : Option (Row Body Asked Reply)) (ms : List Body) → (passing ≡ None → after ≡ None) → TellsOwn p passing now →
      TellsOwn (record p { told = p.told ++ replies_in passing ms }) after (option_map (λ r. row_heard x frame ms r) now)
  hears_tells frame p (Some q) after now ms n t =
      let none = t.all refl in
      record {
        row = row_heard x frame ms t.row;
        is = ap (option_map (λ r. row_heard x frame ms r)) t.is;
        service = t.service;
        rest = [];
        heard = plain-append emission t.row.heard ms ∙ ap (λ l. l ++ plain emission ms) (t.heard ∙ ap (λ l. p.told ++ l) none ∙ append-nil p.told) ∙ sym (append-nil (p.told ++ plain emission ms));
        all = λ e. refl;
      }
  hears_tells frame p None after now ms n t = record {
    row = row_heard x frame ms t.row;
    is = ap (option_map (λ r. row_heard x frame ms r)) t.is;
    service = t.service;
    rest = t.rest ++ plain emission ms;
    heard = plain-append emission t.row.heard ms ∙ ap (λ l. l ++ plain emission ms) (t.heard ∙ ap (λ l. l ++ t.rest) (sym (append-nil p.told))) ∙ append_assoc (p.told ++ []) t.rest (plain emission ms);
    all = λ e. absurd (let bad : is_some {T = Passing} None ≡ true = sym (ap (λ (o : Option Passing). is_some o) (n refl)) ∙ e in cc);
  }

  -- a state service that isn't there stays so
  stays_idle : (station frame : ℕ) (a : Account Asked Reply) (ds : List (Datagram Body)) → a.hand ≡ None → (account_back station frame a ds).hand ≡ None
  stays_idle station frame a [] e = e
  stays_idle station frame a (d ∷ ds) e = stays_idle station frame (Accounts.account_met station frame a a.hand d) ds (go a.hand refl)
    where
      go : (hand : Option Accounts.Duty) → a.hand ≡ hand → (Accounts.account_met station frame a a.hand d).hand ≡ None
      go hand f = ap (λ h. (Accounts.account_met station frame a h d).hand) e ∙ e

  passes_none : (passing : Option Passing) (ns : List (News Body)) → passing ≡ None → passes x acknowledged is_followed is_passed passing ns ≡ None
  passes_none None ns e = refl
  passes_none (Some p) ns e = absurd (cc)

  pub back_has : (frame : ℕ) (spot : Spot) (ns : List (News Body)) (back : List (Datagram Body)) (came : Option (Bool × Option Found)) (p : Passed) (l : Life Body Asked Reply) → HasPassed p l →
      HasPassed (record p { told = p.told ++ replies_in l.era.passing (accepted_in spot l back) }) (life_back x acknowledged is_followed is_passed frame spot ns back came l l.stand)
  back_has frame spot ns back came p l h = subst (λ s. HasPassed (record p { told = p.told ++ replies_in l.era.passing (accepted_at spot.station l.era.side.halves back s) }) (life_back x acknowledged is_followed is_passed frame spot ns back came l s)) (sym h.opened) (go came)
    where
      era : Era Body Asked Reply
      era = Lives.era_back x acknowledged is_followed is_passed spot.station frame ns back l.era

      quiet : era.account.hand ≡ None
      quiet = stays_idle spot.station frame l.era.account (Own.own spot.station back) h.idle

      base : HasPassed (record p { told = p.told ++ replies_in l.era.passing (all_accepted spot.station l.era.side.halves (grams (Own.own spot.station back))) }) (reopens (record l { era = era }) era.account.hand)
      base = subst (λ d. HasPassed (record p { told = p.told ++ replies_in l.era.passing (all_accepted spot.station l.era.side.halves (grams (Own.own spot.station back))) }) (reopens (record l { era = era }) d)) (sym quiet)
          (record { opened = h.opened; idle = quiet; tells = hears_tells frame p l.era.passing era.passing l.era.side.now (all_accepted spot.station l.era.side.halves (grams (Own.own spot.station back))) (passes_none l.era.passing ns) h.tells })

      go : (z : Option (Bool × Option Found)) → HasPassed (record p { told = p.told ++ replies_in l.era.passing (all_accepted spot.station l.era.side.halves (grams (Own.own spot.station back))) }) (life_back x acknowledged is_followed is_passed frame spot ns back z l Lives.Stand.Open)
      go None = base
      go (Some c) = base

  -- and behind a lost one
  none_told : (p : Passed) (passing after : Option Passing) (now : Option (Row Body Asked Reply)) → (passing ≡ None → after ≡ None) → TellsOwn p passing now → TellsOwn (record p { told = p.told ++ replies_in passing [] }) after now
  none_told p (Some q) after now n t = record { row = t.row; is = t.is; service = t.service; rest = []; heard = t.heard ∙ ap (λ l. p.told ++ l) (t.all refl) ∙ sym (append-nil (p.told ++ [])) ∙ ap (λ l. l ++ []) refl; all = λ e. refl }
  none_told p None after now n t = record { row = t.row; is = t.is; service = t.service; rest = t.rest; heard = t.heard ∙ ap (λ l. l ++ t.rest) (sym (append-nil p.told)); all = λ e. absurd (let bad : is_some {T = Passing} None ≡ true = sym (ap (λ (o : Option Passing). is_some o) (n refl)) ∙ e in cc) }

  pub lost_has : (spot : Spot) (ns : List (News Body)) (sent : List (Datagram Body)) (p : Passed) (l : Life Body Asked Reply) → HasPassed p l →
      HasPassed (record p { told = p.told ++ replies_in l.era.passing [] }) (life_lost x acknowledged is_followed is_passed spot ns sent l l.stand)
  lost_has spot ns sent p l h = subst (λ s. HasPassed (record p { told = p.told ++ replies_in l.era.passing [] }) (life_lost x acknowledged is_followed is_passed spot ns sent l s)) (sym h.opened)
      (record { opened = h.opened; idle = h.idle; tells = none_told p l.era.passing (passes x acknowledged is_followed is_passed l.era.passing ns) l.era.side.now (passes_none l.era.passing ns) h.tells })
