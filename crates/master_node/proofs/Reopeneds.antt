-- AN OPEN SLAVE behind a frame that came back: it stays open, or its change of state returns it to Init.
use Rattle.std.proofs.Common.{◌≡◌, ◌+◌, ℕ, Bool, true, false, Option, Some, None, List, [], ◌∷◌, ◌++◌, refl, sym, ap, ◌∙◌, subst, arith, length, length-append}
use Rattle.std.specs.Prelude.{◌&&◌, nat_lt, if◌then◌else◌}
use Rattle.std.proofs.lemmas.Bool.{ltb-false, ltb-true}
use Rattle.life_runs.specs.of_master_duty.Reply.{Reply}
use Rattle.life_runs.specs.of_exchange_model.Exchange.{Speech}
use Rattle.life_runs.specs.of_segment_model.Record.{News}
use Rattle.life_runs.specs.of_segment_model.Slaves.{Datagram, Found}
use Rattle.life_runs.specs.of_state_model.Accounts.{Duty, Stage}
use Rattle.life_runs.specs.of_master_hand.Spoken.{Asked, acknowledged, is_followed, is_passed}
use Rattle.life_runs.specs.of_link_mails.Body.{Body}
use Rattle.life_runs.specs.of_master_tour.Stands.{is_open, is_opening, turned, turned_by}
use Rattle.life_runs.specs.of_master_tour.declared.stop.Turned.{Turned}
use Rattle.life_runs.specs.of_life_model.Lives
use Rattle.life_runs.specs.of_life_model.Lives.{Era, Life, Spot, era_back, life_back, reopens, reopens_at}

pub data Reopened (hand : Option Duty) : Lives.Stand → Type 0 where
  stays : Reopened hand Lives.Stand.Open
  leaves : (duty : Duty) (state : ℕ) → hand ≡ Some duty → Reopened hand (Lives.reopening state true)

pub record OpenAfter (l : Life Body Asked Reply) (e : Era Body Asked Reply) (m : Life Body Asked Reply) : Type 0 where
  pub era : m.era ≡ e
  pub past : m.past ≡ l.past
  pub gave : m.gave ≡ l.gave
  pub stand : Reopened e.account.hand m.stand

reopened : (l : Life Body Asked Reply) (hand : Option Duty) → l.stand ≡ Lives.Stand.Open → l.era.account.hand ≡ hand → OpenAfter l l.era (reopens l hand)
reopened l None o e = record { era = refl; past = refl; gave = refl; stand = subst (λ z. Reopened l.era.account.hand z) (sym o) Reopened.stays }
reopened l (Some duty) o e = go duty.stage
  where
    by : (b : Bool) → OpenAfter l l.era (if b then record l { stand = Lives.reopening (Lives.opens_state duty.target) true } else l)
    by true = record { era = refl; past = refl; gave = refl; stand = Reopened.leaves duty _ e }
    by false = record { era = refl; past = refl; gave = refl; stand = subst (λ z. Reopened l.era.account.hand z) (sym o) Reopened.stays }

    go : (stage : Stage) → OpenAfter l l.era (reopens_at l duty.target stage)
    go Stage.Drains = record { era = refl; past = refl; gave = refl; stand = subst (λ z. Reopened l.era.account.hand z) (sym o) Reopened.stays }
    go (Stage.Goes phase) = by (Lives.returns_to_init duty.target)

module _ (x : Speech Body Asked Reply) (made : ℕ) (spot : Spot) (ns : List (News Body)) (back : List (Datagram Body)) (l : Life Body Asked Reply) where
  abbrev pub now : Era Body Asked Reply
  now = era_back x acknowledged is_followed is_passed spot.station made ns back l.era

  as_of : (m : Life Body Asked Reply) → OpenAfter (record l { era = now }) now m → OpenAfter l now m
  as_of m a = record { era = a.era; past = a.past; gave = a.gave; stand = a.stand }

  pub open_after : (came : Option (Bool × Option Found)) → l.stand ≡ Lives.Stand.Open → OpenAfter l now (life_back x acknowledged is_followed is_passed made spot ns back came l Lives.Stand.Open)
  open_after None o = as_of _ (reopened (record l { era = now }) now.account.hand o refl)
  open_after (Some got) o = as_of _ (reopened (record l { era = now }) now.account.hand o refl)

-- HOW IT TURNED: it didn't
pub not_less : (n : ℕ) → nat_lt n n ≡ false
not_less n = go (nat_lt n n) refl
  where
    go : (z : Bool) → nat_lt n n ≡ z → nat_lt n n ≡ false
    go false e = e
    go true e = absurd (let m = ltb-true n n e in omega (arith, m))

pub open_turned : (l m : Life Body Asked Reply) (e : Era Body Asked Reply) → l.stand ≡ Lives.Stand.Open → OpenAfter l e m → turned l m ≡ None
open_turned l m e o a =
    (λ i. turned_by (nat_lt (length l.gave) (length (a.gave i))) (nat_lt (length l.past) (length (a.past i))) (is_opening (o i) && is_open m.stand))
    ∙ (λ i. turned_by (not_less (length l.gave) i) (not_less (length l.past) i) false)

-- a slave that stays as it is doesn't turn either
pub same_turned : (l : Life Body Asked Reply) (stand : Lives.Stand) → l.stand ≡ stand → (is_opening stand && is_open stand) ≡ false → turned l l ≡ None
same_turned l stand s e =
    (λ i. turned_by (not_less (length l.gave) i) (not_less (length l.past) i) (is_opening (s i) && is_open (s i))) ∙ ap (λ z. turned_by false false z) e

-- one that is opened goes on with its opening, was seen in Init, or is open
pub steps_turned : (l m : Life Body Asked Reply) (o : Lives.Opening) → m.gave ≡ l.gave → m.past ≡ l.past → m.stand ≡ Lives.Stand.Opens o → turned l m ≡ None
steps_turned l m o g p s =
    (λ i. turned_by (nat_lt (length l.gave) (length (g i))) (nat_lt (length l.past) (length (p i))) (is_opening l.stand && is_open (s i)))
    ∙ (λ i. turned_by (not_less (length l.gave) i) (not_less (length l.past) i) (never (is_opening l.stand) i))
  where
    never : (b : Bool) → (b && false) ≡ false
    never true = refl
    never false = refl

more : {T : Type 0} (xs : List T) (x : T) → nat_lt (length xs) (length (xs ++ x ∷ [])) ≡ true
more xs x = (let n = length-append xs (x ∷ []) in go (nat_lt (length xs) (length (xs ++ x ∷ []))) refl n)
  where
    go : (z : Bool) → nat_lt (length xs) (length (xs ++ x ∷ [])) ≡ z → length (xs ++ x ∷ []) ≡ length xs + length (x ∷ []) → nat_lt (length xs) (length (xs ++ x ∷ [])) ≡ true
    go true e n = e
    go false e n = absurd (let m = ltb-false (length xs) (length (xs ++ x ∷ [])) e in omega (arith, m, n))

pub cleared_turned : (l m : Life Body Asked Reply) → m.gave ≡ l.gave → (e : Era Body Asked Reply) → m.past ≡ l.past ++ e ∷ [] → turned l m ≡ Some Turned.Cleared
cleared_turned l m g e p =
    (λ i. turned_by (nat_lt (length l.gave) (length (g i))) (nat_lt (length l.past) (length (p i))) (is_opening l.stand && is_open m.stand))
    ∙ (λ i. turned_by (not_less (length l.gave) i) (more l.past e i) (is_opening l.stand && is_open m.stand))

pub opened_turned : (l m : Life Body Asked Reply) (o : Lives.Opening) → l.stand ≡ Lives.Stand.Opens o → m.gave ≡ l.gave → m.past ≡ l.past → m.stand ≡ Lives.Stand.Open → turned l m ≡ Some Turned.Opened
opened_turned l m o s g p b =
    (λ i. turned_by (nat_lt (length l.gave) (length (g i))) (nat_lt (length l.past) (length (p i))) (is_opening (s i) && is_open (b i)))
    ∙ (λ i. turned_by (not_less (length l.gave) i) (not_less (length l.past) i) true)
