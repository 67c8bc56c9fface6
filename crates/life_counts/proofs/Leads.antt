-- WHAT A TURN IS SEEN BY: lists, an era behind a frame, and an answer that stays.
use Rattle.std.proofs.Common.{◌≡◌, ℕ, suc, ◌&&◌, Bool, true, false, not, is_some, Option, None, Some, List, [], ◌∷◌, ◌++◌, length, refl, ap, ap₂, arith, length-append, if◌then◌else◌}
use Rattle.master_hand.specs.of_exchange_model.Exchange.{Speech}
use Rattle.master_hand.specs.of_exchange_model.Rows.{answer_after}
use Rattle.few_replies.specs.of_life_model.Lives.{Era, Life, era_after, returns_to_init, opens_state, reopening, reopens_at, reopens, passes}
use Rattle.few_replies.specs.of_life_model.Own as Own
use Rattle.few_replies.specs.of_link_model.Segment.{RingFate}
use Rattle.few_replies.specs.Led.{counted_news}
use Rattle.master_hand.specs.of_segment_model.Record as Record
use Rattle.master_hand.specs.of_segment_model.Record.{News, mails_heard}
use Rattle.master_hand.specs.of_segment_model.Seats.{side_back, side_lost}
use Rattle.master_hand.specs.of_segment_model.Slaves.{Slave, Datagram, Ring}
use Rattle.master_hand.specs.of_serving_model.Tagged.{Tagged, untag}
use Rattle.master_hand.specs.of_state_model.Accounts.{Duty, Stage, account_back}
use Rattle.life_counts.proofs.Overs.{ends_last}

-- the mails heard are the same without empty reads
pub mails_without : {M : Type 0} (ns : List (News M)) → mails_heard (Record.without_empty ns) ≡ mails_heard ns
mails_without [] = refl
mails_without (News.Told m ∷ ns) = mails_without ns
mails_without (News.Written ∷ ns) = mails_without ns
mails_without (News.Heard m ∷ ns) = ap (λ l. m ∷ l) (mails_without ns)
mails_without (News.NothingRead ∷ ns) = mails_without ns
mails_without (News.BoxFull full ∷ ns) = mails_without ns
mails_without (News.Status state refused ∷ ns) = mails_without ns

pub mails_counted : {M : Type 0} (b : Bool) (ns : List (News M)) → mails_heard (counted_news b ns) ≡ mails_heard ns
mails_counted true ns = refl
mails_counted false ns = mails_without ns

pub pushed : {K : Type 0} (gs : List K) (g : K) → length (gs ++ g ∷ []) ≡ suc (length gs)
pushed gs g = let e = length-append gs (g ∷ []) in omega (arith, e)

pub one_slave : {V M : Type 0} (a b : ℕ) (s n : Slave V M) → ◌≡◌ {A = Ring V M} ((a, s) ∷ []) ((b, n) ∷ []) → s ≡ n
one_slave {V} {M} a b s n e = let pair : ◌≡◌ {A = ℕ × Slave V M} (a, s) (b, n) = cc in ap (λ p. p.1) pair

pub and_not : (a b : Bool) → a ≡ true → b ≡ false → (a && not b) ≡ true
and_not a b e f = ap₂ (λ (p q : Bool). p && not q) e f

-- frames leave an epoch by the slave's own datagrams alone
pub after_own : {N P S : Type 0} (z : Speech N P S) (acknowledged : P → Bool) (more : N → Bool) (passed : P → Bool) (station frame : ℕ) (news : List (News N)) (sent other : List (Datagram N)) (fate : RingFate) (back again : List (Datagram N)) (e : Era N P S) →
    Own.own station sent ≡ Own.own station other → Own.own station back ≡ Own.own station again → era_after z acknowledged more passed station frame news sent fate back e ≡ era_after z acknowledged more passed station frame news other fate again e
after_own z acknowledged more passed station frame news sent other RingFate.Back back again e s b =
    λ j. record { cleared = e.cleared; opened = e.opened; state = e.state; side = side_back z frame station (b j) e.side; account = account_back station frame e.account (b j); passing = passes z acknowledged more passed e.passing news }
after_own z acknowledged more passed station frame news sent other (RingFate.Lost after) back again e s b =
    λ j. record { cleared = e.cleared; opened = e.opened; state = e.state; side = side_lost station (s j) e.side; account = e.account; passing = passes z acknowledged more passed e.passing news }

pub reopens_era : {N P S : Type 0} (l : Life N P S) (hand : Option Duty) → (reopens l hand).era ≡ l.era
reopens_era l None = refl
reopens_era l (Some duty) = at duty.stage
  where
    by : (b : Bool) → (if b then record l { stand = reopening (opens_state duty.target) true } else l).era ≡ l.era
    by true = refl
    by false = refl

    at : (stage : Stage) → (reopens_at l duty.target stage).era ≡ l.era
    at Stage.Drains = refl
    at (Stage.Goes phase) = by (returns_to_init duty.target)

pub still_some : {R : Type 0} (frame : ℕ) (a : Option (R × ℕ)) (found : Option R) → is_some a ≡ true → is_some (answer_after frame a found) ≡ true
still_some frame (Some a) found e = refl
still_some frame None found e = absurd (let no : false ≡ true = e in cc)

pub some_after : {R : Type 0} (frame : ℕ) (a : Option (R × ℕ)) (r : R) → is_some (answer_after frame a (Some r)) ≡ true
some_after frame None r = refl
some_after frame (Some a) r = refl

pub same_some : {X : Type 0} (a b : X) → Some a ≡ Some b → a ≡ b
same_some a b e = cc

pub last_untag : {M Q : Type 0} (more : M → Bool) (hs : List (Tagged M Q)) → ends_last (λ t. more t.mail) hs ≡ ends_last more (untag hs)
last_untag more [] = refl
last_untag more (h ∷ []) = refl
last_untag more (h ∷ (g ∷ hs)) = last_untag more (g ∷ hs)
