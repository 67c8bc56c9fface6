-- The next mail is taken up, or isn't, and then a choice is made: before one frame both are one choice.
use Rattle.std.proofs.Common.{◌≡◌, ◌++◌, ℕ, Bool, true, false, List, [], ◌∷◌, Option, Some, None, refl, sym, ap, ◌∙◌, length, arith}
use Rattle.std.proofs.lemmas.Bool.{le-ltb}
use Rattle.std.specs.Prelude.{◌&&◌, is_none, is_some, nat_lt, if◌then◌else◌, option_map}
use Rattle.life_model.specs.of_exchange_model.Exchange.{Speech}
use Rattle.life_model.specs.of_exchange_model.Rows.{Row, begun, left, row_told}
use Rattle.link_mails.specs.Body.{Body}
use Rattle.link_mails.specs.of_link_model.Mails.{LinkMail}
use Rattle.life_model.specs.of_segment_model.Seats.{Side, Choice, is_over, is_none_left, side_begins, side_holds, side_next, next_mail}
use Rattle.life_model.specs.of_state_model.Stated.{Service}
use Rattle.life_model.specs.of_segment_model.Ends.{Passing}
use Rattle.life_model.specs.Lives
use Rattle.life_model.specs.Lives.{Era, Life, era_next, life_next, passing_begins}
use Rattle.life_model.specs.of_state_model.Accounts.{Account, Duty, Pick, mails_choice, account_begins, account_next, is_free, is_acknowledged, starts, state_begins}

module _ {Q R : Type 0} (x : Speech Body Q R) where
  -- while a mail is held that was not yet sent, no service is over
  held_over : (m : LinkMail Body) (r : Row Body Q R) → is_over x (Some m) true r ≡ false
  held_over m r = go (is_none_left (left x r)) (x.handed r.service && is_none r.answer) (is_some r.answer)
    where
      go : (a h s : Bool) → (a && (if h then false else s && false)) ≡ false
      go false h s = refl
      go true true s = refl
      go true false true = refl
      go true false false = refl

  over_held : (e : Side Body Q R) (m : LinkMail Body) (r : Row Body Q R) → e.halves.out.holding ≡ Some m → e.fresh ≡ true → is_over x e.halves.out.holding e.fresh r ≡ false
  over_held e m r h f = (λ i. is_over x (h i) (f i) r) ∙ held_over m r

  never : {T : Type 0} (v o : Bool) (y z : T) → o ≡ false → (if v && o then y else z) ≡ z
  never true o y z e = ap (λ b. if b then y else z) e
  never false o y z e = refl

  held_begins : (made : ℕ) (e : Side Body Q R) (m : LinkMail Body) (r : Row Body Q R) → e.halves.out.holding ≡ Some m → e.fresh ≡ true → (q : Option Q) → side_begins x made e (Some r) q ≡ e
  held_begins made e m r h f None = refl
  held_begins made e m r h f (Some q) = never (x.valid q) (is_over x e.halves.out.holding e.fresh r) (record e { past = e.past ++ r ∷ []; now = Some (begun q made) }) e (over_held e m r h f)

  none_next : (m : LinkMail Body) (r : Row Body Q R) (hold : Bool) → next_mail x (Some r) (Some m) hold ≡ []
  none_next m r true = refl
  none_next m r false = refl

  -- so no choice changes its side
  pub held_side : (made : ℕ) (e : Side Body Q R) (m : LinkMail Body) (r : Row Body Q R) (c : Choice Q) → e.halves.out.holding ≡ Some m → e.fresh ≡ true → e.now ≡ Some r → side_next x made e c ≡ e
  held_side made e m r c h f n =
      let b : side_begins x made e e.now c.begin ≡ e = ap (λ z. side_begins x made e z c.begin) n ∙ held_begins made e m r h f c.begin in
      ap (λ (z : Side Body Q R). side_holds z (next_mail x z.now z.halves.out.holding c.hold)) b ∙ ap (side_holds e) ((λ i. next_mail x (n i) (h i) c.hold) ∙ none_next m r c.hold)

  -- nor its account
  pub held_account : (acknowledged : Q → Bool) (made : ℕ) (e : Side Body Q R) (a : Account Q R) (m : LinkMail Body) (r : Row Body Q R) (p : Pick Q) → e.halves.out.holding ≡ Some m → e.fresh ≡ true → e.now ≡ Some r → account_next x acknowledged made e a p ≡ a
  held_account acknowledged made e a m r p h f n = go a.hand p.begin
    where
      free : is_free x e e.now ≡ false
      free = ap (is_free x e) n ∙ over_held e m r h f

      go : (hand : Option Duty) (w : Option (Service Q)) → account_begins x acknowledged made e a hand w ≡ a
      go hand None = refl
      go (Some duty) (Some w) = refl
      go None (Some (Service.Mails q)) = never (x.valid q) (is_free x e e.now) (record a { started = starts a (Service.Mails q) made }) a free
      go None (Some (Service.State target)) = ap (λ z. if z && is_acknowledged x acknowledged e e.now then state_begins a target made else a) free

  taken : (now : Option (Row Body Q R)) (holding : Option (LinkMail Body)) (h : Bool) (m : Body) (ms : List Body) → next_mail x now holding h ≡ m ∷ ms → (r : Row Body Q R) × (now ≡ Some r)
  taken now holding false m ms k = absurd (cc)
  taken None holding true m ms k = absurd (cc)
  taken (Some r) holding true m ms k = (r, refl)

  module _ (acknowledged : Q → Bool) (more : Body → Bool) (passed : Q → Bool) (made : ℕ) where
    -- the next mail is taken up, or none is, and nothing begins
    abbrev pub holds : Bool → Pick Q
    holds h = record { begin = None; hold = h }

    hold_is : (c o : Option ℕ) (at : ℕ) (d : Side Body Q R) (a : Account Q R) (p : Option Passing) (h : Bool) → era_next x acknowledged more passed made (record { cleared = c; opened = o; state = at; side = d; account = a; passing = p }) (holds h) ≡ record { cleared = c; opened = o; state = at; side = side_holds d (next_mail x d.now d.halves.out.holding h); account = a; passing = p }
    hold_is c o at d a None h = refl
    hold_is c o at d a (Some p) h = refl

    passes_on : (p : Option Passing) (a b : Account Q R) (w : Option (Service Q)) → b ≡ a → passing_begins x acknowledged more passed p a b w ≡ p
    passes_on p a b None e = refl
    passes_on p a b (Some (Service.State target)) e = refl
    passes_on p a b (Some (Service.Mails q)) e =
        ap (λ z. if passed q && nat_lt (length a.started) (length z.started) then Some Passing.Waiting else p) e
        ∙ ap (λ z. if passed q && z then Some Passing.Waiting else p) (le-ltb (length a.started) (length a.started) (omega arith)) ∙ go (passed q)
      where
        go : (z : Bool) → (if z && false then Some Passing.Waiting else p) ≡ p
        go true = refl
        go false = refl

    -- a mail is held that was not yet sent: no choice changes the epoch
    held_era : (c o : Option ℕ) (at : ℕ) (d : Side Body Q R) (a : Account Q R) (p : Option Passing) (m : LinkMail Body) (r : Row Body Q R) (pick : Pick Q) → d.halves.out.holding ≡ Some m → d.fresh ≡ true → d.now ≡ Some r →
        era_next x acknowledged more passed made (record { cleared = c; opened = o; state = at; side = d; account = a; passing = p }) pick ≡ record { cleared = c; opened = o; state = at; side = d; account = a; passing = p }
    held_era c o at d a None m r pick h f n =
        let s = held_side made d m r (mails_choice a pick) h f n in
        let b = held_account acknowledged made d a m r pick h f n in
        let w = passes_on None a (account_next x acknowledged made d a pick) pick.begin b in
        λ i. record { cleared = c; opened = o; state = at; side = s i; account = b i; passing = w i }
    held_era c o at d a (Some p) m r pick h f n =
        let s = held_side made d m r (mails_choice a (record pick { begin = None })) h f n in
        λ i. record { cleared = c; opened = o; state = at; side = s i; account = a; passing = Some p }

    -- ONE CHOICE FOR BOTH; where nothing begins by the second, nothing does by the one
    pub record Both (e : Era Body Q R) (h : Bool) (pick : Pick Q) : Type 0 where
      pub one : Pick Q
      pub is : era_next x acknowledged more passed made (era_next x acknowledged more passed made e (holds h)) pick ≡ era_next x acknowledged more passed made e one
      pub idle : pick.begin ≡ None → one.begin ≡ None

    both : (c o : Option ℕ) (at : ℕ) (d : Side Body Q R) (a : Account Q R) (p : Option Passing) (h : Bool) (pick : Pick Q) → Both (record { cleared = c; opened = o; state = at; side = d; account = a; passing = p }) h pick
    both c o at d a p h pick = go (next_mail x d.now d.halves.out.holding h) refl
      where
        first : (ms : List Body) → next_mail x d.now d.halves.out.holding h ≡ ms → era_next x acknowledged more passed made (record { cleared = c; opened = o; state = at; side = d; account = a; passing = p }) (holds h) ≡ record { cleared = c; opened = o; state = at; side = side_holds d ms; account = a; passing = p }
        first ms k = hold_is c o at d a p h ∙ ap (λ z. record { cleared = c; opened = o; state = at; side = side_holds d z; account = a; passing = p }) k

        go : (ms : List Body) → next_mail x d.now d.halves.out.holding h ≡ ms → Both (record { cleared = c; opened = o; state = at; side = d; account = a; passing = p }) h pick
        go [] k = record { one = pick; is = ap (λ (e : Era Body Q R). era_next x acknowledged more passed made e pick) (first [] k); idle = λ e. e }
        go (m ∷ ms) k =
            let r = taken d.now d.halves.out.holding h m ms k in
            record {
              one = holds h;
              is = ap (λ (e : Era Body Q R). era_next x acknowledged more passed made e pick) (first (m ∷ ms) k)
                  ∙ held_era c o at (side_holds d (m ∷ ms)) a p _ (row_told m r.0) pick refl refl (ap (λ z. option_map (λ q. row_told m q) z) r.1) ∙ sym (first (m ∷ ms) k);
              idle = λ e. refl;
            }

    -- the same of a life
    pub record BothOf (l : Life Body Q R) (stand : Lives.Stand) (h : Bool) (pick : Pick Q) : Type 0 where
      pub one : Pick Q
      pub is : life_next x acknowledged more passed made (life_next x acknowledged more passed made l stand (holds h)) stand pick ≡ life_next x acknowledged more passed made l stand one
      pub idle : pick.begin ≡ None → one.begin ≡ None

    pub twice : (l : Life Body Q R) (stand : Lives.Stand) (h : Bool) (pick : Pick Q) → BothOf l stand h pick
    twice l (Lives.Stand.Opens o) h pick = record { one = pick; is = refl; idle = λ e. e }
    twice l Lives.Stand.Gone h pick = record { one = pick; is = refl; idle = λ e. e }
    twice l Lives.Stand.Open h pick =
        let e = l.era in
        let b = both e.cleared e.opened e.state e.side e.account e.passing h pick in
        record { one = b.one; is = ap (λ (z : Era Body Q R). record l { era = z }) b.is; idle = b.idle }

    -- and where nothing is taken up and nothing begins, a life stays as it is
    pub stays : (l : Life Body Q R) (stand : Lives.Stand) → life_next x acknowledged more passed made l stand (holds false) ≡ l
    stays l (Lives.Stand.Opens o) = refl
    stays l Lives.Stand.Gone = refl
    stays l Lives.Stand.Open = let e = l.era in ap (λ (z : Era Body Q R). record l { era = z }) (hold_is e.cleared e.opened e.state e.side e.account e.passing false)

    -- its stand is what it was
    pub still_stands : (l : Life Body Q R) (stand : Lives.Stand) (pick : Pick Q) → (life_next x acknowledged more passed made l stand pick).stand ≡ l.stand
    still_stands l (Lives.Stand.Opens o) pick = refl
    still_stands l Lives.Stand.Gone pick = refl
    still_stands l Lives.Stand.Open pick = refl
