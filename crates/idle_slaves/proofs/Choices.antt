-- What comes into hand of an open slave, for its halves and its row.
use Rattle.std.proofs.Common.{◌≡◌, ℕ, Bool, true, false, Option, Some, None, List, [], ◌∷◌, ◌++◌, refl, ap, ◌∙◌, if◌then◌else◌}
use Rattle.std.specs.Prelude.{◌&&◌, option_map}
use Rattle.plan_ring.specs.of_exchange_model.Exchange.{Speech}
use Rattle.plan_ring.specs.of_exchange_model.Rows.{Row, begun, left, row_told}
use Rattle.idle_slaves.specs.Visited.{HasRow}
use Rattle.plan_ring.specs.of_life_model.Lives.{Life, Stand, life_next, granted, passing_begins}
use Rattle.plan_ring.specs.of_link_model.Mails.{LinkMail}
use Rattle.plan_ring.specs.of_link_model.Slave.{Node}
use Rattle.plan_ring.proofs.of_run_frames.Access.{begins_same, holds_same}
use Rattle.plan_ring.specs.of_segment_model.Ends.{Passing}
use Rattle.plan_ring.specs.of_segment_model.Seats.{Side, Choice, side_begins, side_holds, side_next, next_mail, first_left, is_over}
use Rattle.plan_ring.specs.of_state_model.Stated.{Service}
use Rattle.plan_ring.specs.of_state_model.Accounts.{Account, Duty, Pick, mails_begin, mails_choice, account_begins, account_next}

module _ {M Q R : Type 0} (x : Speech M Q R) (frame : ℕ) where
  -- the inward half stays
  next_inn : (d : Side M Q R) (c : Choice Q) → (side_next x frame d c).halves.inn ≡ d.halves.inn
  next_inn d c = let e = side_begins x frame d d.now c.begin in holds_same e (next_mail x e.now e.halves.out.holding c.hold) ∙ begins_same x frame d d.now c.begin

  -- a row stays in hand, or another is
  abbrev HasNow : Option (Row M Q R) → Type 0
  HasNow now = (r : Row M Q R) × (now ≡ Some r)

  begins_row : (d : Side M Q R) (now : Option (Row M Q R)) (begin : Option Q) → d.now ≡ now → HasNow now → HasNow (side_begins x frame d now begin).now
  begins_row d now None e k = (k.0, e ∙ k.1)
  begins_row d None (Some q) e k = absurd (let no : None ≡ Some k.0 = k.1 in cc)
  begins_row d (Some r) (Some q) e k = go (x.valid q && is_over x d.halves.out.holding d.fresh r)
    where
      go : (b : Bool) → HasNow (if b then record d { past = d.past ++ r ∷ []; now = Some (begun q frame) } else d).now
      go true = (begun q frame, refl)
      go false = (r, e)

  holds_row : (d : Side M Q R) (ms : List M) → HasNow d.now → HasNow (side_holds d ms).now
  holds_row d [] k = k
  holds_row d (m ∷ ms) k = (row_told m k.0, ap (λ (z : Option (Row M Q R)). option_map (λ (r : Row M Q R). row_told m r) z) k.1)

  next_row : (d : Side M Q R) (c : Choice Q) → HasNow d.now → HasNow (side_next x frame d c).now
  next_row d c k = let e = side_begins x frame d d.now c.begin in holds_row e (next_mail x e.now e.halves.out.holding c.hold) (begins_row d d.now c.begin refl k)

  -- with nothing that begins, and nothing left that could be held, the side stays
  none_held : (now : Option (Row M Q R)) (holding : Option (LinkMail M)) (hold : Bool) → (holding ≡ None → (r : Row M Q R) → now ≡ Some r → left x r ≡ []) → next_mail x now holding hold ≡ []
  none_held now holding false none = refl
  none_held None holding true none = refl
  none_held (Some r) (Some m) true none = refl
  none_held (Some r) None true none = ap first_left (none refl r refl)

  stays : (d : Side M Q R) (hold : Bool) → (d.halves.out.holding ≡ None → (r : Row M Q R) → d.now ≡ Some r → left x r ≡ []) → side_next x frame d (record { begin = None; hold = hold }) ≡ d
  stays d hold none = ap (side_holds d) (none_held d.now d.halves.out.holding hold none)

module _ {M Q R : Type 0} (x : Speech M Q R) (acknowledged : Q → Bool) (more : M → Bool) (passed : Q → Bool) (frame : ℕ) (l : Life M Q R) (pick : Pick Q) where
  abbrev next : Life M Q R
  next = life_next x acknowledged more passed frame l l.stand pick

  abbrev open_next : Life M Q R
  open_next = life_next x acknowledged more passed frame l Stand.Open pick

  at_open : l.stand ≡ Stand.Open → next ≡ open_next
  at_open e = ap (λ s. life_next x acknowledged more passed frame l s pick) e

  pub stand_next : next.stand ≡ l.stand
  stand_next = go l.stand
    where
      go : (s : Stand) → (life_next x acknowledged more passed frame l s pick).stand ≡ l.stand
      go (Stand.Opens o) = refl
      go Stand.Open = refl
      go Stand.Gone = refl

  pub inn_next : next.era.side.halves.inn ≡ l.era.side.halves.inn
  inn_next = go l.stand
    where
      go : (s : Stand) → (life_next x acknowledged more passed frame l s pick).era.side.halves.inn ≡ l.era.side.halves.inn
      go (Stand.Opens o) = refl
      go Stand.Open = next_inn x frame l.era.side (mails_choice l.era.account (granted l.era.passing pick))
      go Stand.Gone = refl

  pub row_next : {S : Type 0} (n : Node M S) → HasRow l n → HasRow next n
  row_next n row b e = go l.stand
    where
      go : (s : Stand) → (r : Row M Q R) × ((life_next x acknowledged more passed frame l s pick).era.side.now ≡ Some r)
      go (Stand.Opens o) = row b e
      go Stand.Open = next_row x frame l.era.side (mails_choice l.era.account (granted l.era.passing pick)) (row b e)
      go Stand.Gone = row b e

  -- a state service in hand keeps the account
  account_stays : (begin : Option (Service Q)) (duty : Duty) → account_begins x acknowledged frame l.era.side l.era.account (Some duty) begin ≡ l.era.account
  account_stays None duty = refl
  account_stays (Some wish) duty = refl

  pub hand_next : l.stand ≡ Stand.Open → (duty : Duty) → l.era.account.hand ≡ Some duty → next.era.account.hand ≡ Some duty
  hand_next stands duty e =
      ap (λ (z : Life M Q R). z.era.account.hand) (at_open stands)
      ∙ ap (λ h. (account_begins x acknowledged frame l.era.side l.era.account h (granted l.era.passing pick).begin).hand) e
      ∙ ap (λ (a : Account Q R). a.hand) (account_stays (granted l.era.passing pick).begin duty) ∙ e

  -- where nothing comes into hand the life stays
  none_begins : (hand : Option Duty) → mails_begin hand (let none : Option (Service Q) = None in none) ≡ None
  none_begins None = refl
  none_begins (Some duty) = refl

  none_account : (hand : Option Duty) → account_begins x acknowledged frame l.era.side l.era.account hand None ≡ l.era.account
  none_account hand = refl

  granted_none : (p : Option Passing) → pick.begin ≡ None → (granted p pick).begin ≡ None
  granted_none None none = none
  granted_none (Some p) none = refl

  pub same_next : l.stand ≡ Stand.Open → pick.begin ≡ None → (l.era.side.halves.out.holding ≡ None → (r : Row M Q R) → l.era.side.now ≡ Some r → left x r ≡ []) → next ≡ l
  same_next stands none left_none =
      at_open stands ∙ (λ i. record l { era = record l.era { side = side_same i; account = account_same i; passing = passing_same i } })
    where
      p : Pick Q
      p = granted l.era.passing pick

      p_is : p.begin ≡ None
      p_is = granted_none l.era.passing none

      side_same : side_next x frame l.era.side (mails_choice l.era.account p) ≡ l.era.side
      side_same = ap (λ b. side_next x frame l.era.side (record { begin = mails_begin l.era.account.hand b; hold = p.hold })) p_is ∙ stays x frame l.era.side p.hold left_none

      account_same : account_next x acknowledged frame l.era.side l.era.account p ≡ l.era.account
      account_same = ap (λ b. account_begins x acknowledged frame l.era.side l.era.account l.era.account.hand b) p_is

      passing_same : passing_begins x acknowledged more passed l.era.passing l.era.account (account_next x acknowledged frame l.era.side l.era.account p) p.begin ≡ l.era.passing
      passing_same = ap (λ b. passing_begins x acknowledged more passed l.era.passing l.era.account (account_next x acknowledged frame l.era.side l.era.account p) b) p_is
