-- WHERE A MASTER WANTS NOTHING each slave that it leads was given up for good, or is idle; and how often each was given up.
use Rattle.std.proofs.Common.{◌≡◌, ◌≤◌, ◌<◌, ◌-◌, inl, inr, ℕ, zero, suc, ◌+◌, Bool, true, false, Option, Some, None, List, [], ◌∷◌, length, get_or, map, refl, ap, sym, ◌∙◌, subst, arith}
use Rattle.std.specs.Prelude.{nat_lt, nat_le, All, IfSome, slice_get, option_map, is_some, ◌||◌}
use Rattle.std.specs.List.{list_any}
use Rattle.std.proofs.lemmas.Bool.{ltb-true, ltb-false, le-leb, lt-leb}
use Rattle.std.proofs.lemmas.List.Elements.{All-nil, All-cons, All-head, All-tail}
use Rattle.life_runs.specs.of_exchange_model.Exchange.{Speech}
use Rattle.life_runs.specs.of_exchange_model.Rows.{Row}
use Rattle.life_runs.specs.of_frame_view.View.{Lens}
use Rattle.life_runs.specs.of_frame_view.Shares.{AllBoth}
use Rattle.life_runs.specs.of_life_model.Lives
use Rattle.life_runs.specs.Led.{Leads, speech_at}
use Rattle.life_runs.specs.of_link_mails.Body.{link_mail}
use Rattle.life_runs.specs.of_master_duty.declared.duty.Duty.{Duty}
use Rattle.life_runs.specs.of_master_hand.Shown.{Shows}
use Rattle.life_runs.specs.of_master_hand.declared.hand.InHand.{InHand}
use Rattle.life_runs.specs.of_master_side.Carried.{in_hand}
use Rattle.life_runs.specs.of_master_side.Shown.{SideShows, DutyShows}
use Rattle.life_runs.specs.of_master_side.declared.hand.Hand.{Ghosts}
use Rattle.life_runs.specs.of_master_tour.Goes.{holds_at}
use Rattle.life_runs.specs.of_master_tour.declared.stop.Stand.{Stand}
use Rattle.life_runs.specs.of_master_tour.declared.stop.Stop.{Stop}
use Rattle.life_runs.specs.of_segment_model.Laws.{NothingInHand}
use Rattle.life_runs.specs.of_segment_model.Seats
use Rattle.life_runs.specs.of_state_model.Accounts
use Rattle.life_runs.specs.of_state_model.Accounts.{is_free}
use Rattle.life_runs.specs.of_master_tour.Stands.{StandShows}
use Rattle.master_node.specs.Told.{IsTold}
use Rattle.master_node.specs.Shows.{IsLead, IsLived, lived_of, side_shows}
use Rattle.master_node.specs.Wants.{gave_of, gave_more, IsCounted, AllPlaced, IsIdle, IsLeft, AllLeft, IsQuiet, IsQuietBy}
use Rattle.master_node.proofs.Lists.{both_map}

-- no state service is in hand
no_duty : (duty : Option Duty) (hand : Option Accounts.Duty) → duty ≡ None → DutyShows duty hand → hand ≡ None
no_duty None hand e x = x
no_duty (Some d) hand e x = absurd (cc)

-- the newest row is over
nothing_in_hand : {M Q R : Type 0} (x : Speech M Q R) (d : Seats.Side M Q R) (now : Option (Row M Q R)) → is_free x d now ≡ true → NothingInHand x d now
nothing_in_hand x d None e = tt
nothing_in_hand x d (Some r) e = e

-- a script is at its end
at_end : {T : Type 0} (xs : List T) (n : ℕ) → slice_get xs n ≡ None → n ≤ length xs → n ≡ length xs
at_end [] n e few = omega (arith, few)
at_end (x ∷ xs) zero e few = absurd (let bad : Some x ≡ None = e in cc)
at_end (x ∷ xs) (suc n) e few = ap suc (at_end xs n e (omega (arith, few)))

module _ {G : Ghosts InHand} (lens : ℕ → Lens) (recover : ℕ) where
  pub quiet_idle : (a : Leads) (s : Stop InHand G) → IsLived lens recover a.lived s → s.side.hand.laying.script ≡ a.script → s.side.hand.laying.number ≡ a.number → a.number ≤ length a.script → IsQuiet s.side → s.stand ≡ Stand.Open → IsIdle lens a
  quiet_idle a s lives script number few q stands =
      let shown : (a.lived.life.stand ≡ Lives.Stand.Open) × SideShows (Shows s.side.hand.course s.side.hand.which s.side.hand.clients (speech_at lens a.lived.spot)) s.side.out s.side.inn s.side.fresh s.side.duty a.lived.life.era.side a.lived.life.era.account =
      subst (λ (k : Stand). StandShows (λ d b. side_shows lens recover s a.lived.spot d b) a.lived.spot k a.lived.life) stands lives.shown.stood in
      let free = q.free (speech_at lens a.lived.spot) a.lived.life.era.side a.lived.life.era.account shown.1 in
      let end : slice_get a.script a.number ≡ None =
      subst (λ n. slice_get a.script n ≡ None) number (subst (λ sc. slice_get sc s.side.hand.laying.number ≡ None) script q.script) in
      record {
        stand = shown.0;
        side = record {
          idle = ap (λ h. h.out.holding) shown.1.halves ∙ ap (option_map link_mail) q.out;
          clear = ap (λ h. h.inn.state) shown.1.halves ∙ q.inn;
          nothing = nothing_in_hand (speech_at lens a.lived.spot) a.lived.life.era.side a.lived.life.era.side.now free.0;
        };
        hand = no_duty (in_hand s.side.duty) a.lived.life.era.account.hand free.1 shown.1.state;
        script = at_end a.script a.number end few;
      }

  one_left : (a : Leads) (s : Stop InHand G) (stand : Stand) → s.stand ≡ stand → IsLead lens recover a s → a.number ≤ length a.script → IsQuietBy stand s.side → IsLeft lens a
  one_left a s (Stand.Opening up) e l few q = absurd q
  one_left a s Stand.Open e l few q = inr (quiet_idle a s l.lives l.script l.number few q e)
  one_left a s Stand.Gone e l few q = inl (subst (λ (k : Stand). StandShows (λ d b. side_shows lens recover s a.lived.spot d b) a.lived.spot k a.lived.life) e l.lives.shown.stood)

  -- NOTHING IS WANTED
  pub all_left : (as' : List Leads) (ss : List (Stop InHand G)) → AllBoth (λ a s. IsLead lens recover a s) as' ss → AllPlaced as' → All (λ s. IsQuietBy s.stand s.side) ss → AllLeft lens as'
  all_left [] [] x p q = tt
  all_left [] (s ∷ ss) x p q = absurd x
  all_left (a ∷ as') [] x p q = absurd x
  all_left (a ∷ as') (s ∷ ss) x p q = (one_left a s s.stand refl x.0 p.0 (All-head (λ s. IsQuietBy s.stand s.side) s ss q), all_left as' ss x.1 p.1 (All-tail (λ s. IsQuietBy s.stand s.side) s ss q))

-- WHAT STANDS AT A PLACE
pub quiet_here : {S : Type 0} (P : S → Type 0) (ss : List S) (i : ℕ) (s : S) → s ≡ get_or ss i s → P s → IfSome (slice_get ss i) P
quiet_here P [] i s e p = tt
quiet_here P (x ∷ xs) zero s e p = subst P e p
quiet_here P (x ∷ xs) (suc i) s e p = quiet_here P xs i s e p

pub none_or_all : {S : Type 0} (P : S → Type 0) (ss : List S) → ((k : ℕ) → k < length ss → IfSome (slice_get ss k) P) → All P ss
none_or_all P [] h = All-nil P
none_or_all P (s ∷ ss) h = All-cons P s ss (h 0 (omega arith)) (none_or_all P ss (λ k l. h (suc k) (omega (arith, l))))

pub live_some : {S : Type 0} (test : S → Bool) (ss : List S) (k : ℕ) → holds_at test ss k ≡ true → list_any test ss ≡ true
live_some test [] k e = absurd (let bad : false ≡ true = e in cc)
live_some test (s ∷ ss) zero e = ap (λ (b : Bool). b || list_any test ss) e
live_some test (s ∷ ss) (suc k) e = or_true (test s) (list_any test ss) (live_some test ss k e)
  where
    or_true : (a b : Bool) → b ≡ true → (a || b) ≡ true
    or_true true b e = refl
    or_true false b e = e

-- a place where the test holds is one of them
pub held_inside : {S : Type 0} (test : S → Bool) (ss : List S) (k : ℕ) → holds_at test ss k ≡ true → k < length ss
held_inside test [] k e = absurd (let bad : false ≡ true = e in cc)
held_inside test (s ∷ ss) zero e = omega arith
held_inside test (s ∷ ss) (suc k) e = let l = held_inside test ss k e in omega (arith, l)

-- one more place
pub below_more : (P : ℕ → Type 0) (n : ℕ) → ((k : ℕ) → k < n → P k) → P n → (k : ℕ) → k < n + 1 → P k
below_more P n h here k l = by (nat_lt k n) refl
  where
    by : (b : Bool) → nat_lt k n ≡ b → P k
    by true lt = h k (ltb-true k n lt)
    by false ge = let over = ltb-false k n ge in let same : n ≡ k = omega (arith, over, l) in subst P same here

-- of which nothing is wanted
pub quiet_more : {S : Type 0} (P : S → Type 0) (ss : List S) (n : ℕ) → ((k : ℕ) → k < n → IfSome (slice_get ss k) P) → IfSome (slice_get ss n) P → (k : ℕ) → k < n + 1 → IfSome (slice_get ss k) P
quiet_more P ss n h here = below_more (λ (i : ℕ). IfSome (slice_get ss i) P) n h here

-- HOW OFTEN a slave was given up, by its stop: while it is live
gave_open : (recover times n spare : ℕ) → spare ≡ recover - n → n ≤ recover → nat_lt times (recover - spare) ≡ nat_lt times n
gave_open recover times n spare e few = let same : recover - spare ≡ n = omega (arith, e, few) in ap (nat_lt times) same

gave_gone : (times recover n : ℕ) → n ≡ suc recover → nat_le times recover ≡ nat_lt times n
gave_gone times recover n e = by (nat_lt times n) refl
  where
    by : (b : Bool) → nat_lt times n ≡ b → nat_le times recover ≡ nat_lt times n
    by true lt = let below = ltb-true times n lt in le-leb times recover (omega (arith, below, e)) ∙ sym lt
    by false ge = let over = ltb-false times n ge in lt-leb times recover (omega (arith, over, e)) ∙ sym ge

-- the slaves that a master leads have just their lives
pub lead_lives : {G : Ghosts InHand} (lens : ℕ → Lens) (recover : ℕ) (as' : List Leads) (ss : List (Stop InHand G)) → AllBoth (λ a s. IsLead lens recover a s) as' ss → AllBoth (λ a s. IsLived lens recover a s) (map lived_of as') ss
lead_lives lens recover as' ss x = both_map lived_of (λ a s. IsLead lens recover a s) (λ a s. IsLived lens recover a s) (λ a s h. h.lives) as' ss x

-- so it is of those that it tells of, and these are just what it tells
pub told_lives : {G : Ghosts InHand} (lens : ℕ → Lens) (recover : ℕ) (as' : List Leads) (ss : List (Stop InHand G)) → AllBoth (λ a s. IsTold lens recover a s) as' ss → AllBoth (λ a s. IsLived lens recover a s) (map lived_of as') ss
told_lives lens recover as' ss x = both_map lived_of (λ a s. IsTold lens recover a s) (λ a s. IsLived lens recover a s) (λ a s h. h.lives) as' ss x

pub lead_told : {G : Ghosts InHand} (lens : ℕ → Lens) (recover : ℕ) (as' : List Leads) (ss : List (Stop InHand G)) → AllBoth (λ a s. IsLead lens recover a s) as' ss → AllBoth (λ a s. IsTold lens recover a s) as' ss
lead_told lens recover [] [] x = tt
lead_told lens recover [] (s ∷ ss) x = absurd x
lead_told lens recover (a ∷ as') [] x = absurd x
lead_told lens recover (a ∷ as') (s ∷ ss) x = (record { lives = x.0.lives; number = x.0.number }, lead_told lens recover as' ss x.1)

module _ {G : Ghosts InHand} (lens : ℕ → Lens) (recover times : ℕ) where
  one_gave : (a : Leads) (s : Stop InHand G) (stand : Stand) → s.stand ≡ stand → IsLived lens recover a.lived s → IsCounted recover a.lived.life.stand (length (gave_of a)) → gave_more stand s.spare recover times ≡ nat_lt times (length (gave_of a))
  one_gave a s (Stand.Opening up) e l c =
      let stood = subst (λ (k : Stand). StandShows (λ d b. side_shows lens recover s a.lived.spot d b) a.lived.spot k a.lived.life) e l.shown.stood in
      gave_open recover times (length (gave_of a)) s.spare l.shown.spared (let P : Lives.Stand → Type 0 = λ k. IsCounted recover k (length (gave_of a)) in subst P stood.stand c)
  one_gave a s Stand.Open e l c =
      let stood = subst (λ (k : Stand). StandShows (λ d b. side_shows lens recover s a.lived.spot d b) a.lived.spot k a.lived.life) e l.shown.stood in
      gave_open recover times (length (gave_of a)) s.spare l.shown.spared (let P : Lives.Stand → Type 0 = λ k. IsCounted recover k (length (gave_of a)) in subst P stood.0 c)
  one_gave a s Stand.Gone e l c =
      let stood = subst (λ (k : Stand). StandShows (λ d b. side_shows lens recover s a.lived.spot d b) a.lived.spot k a.lived.life) e l.shown.stood in
      gave_gone times recover (length (gave_of a)) (let P : Lives.Stand → Type 0 = λ k. IsCounted recover k (length (gave_of a)) in subst P stood c)

  -- HOW OFTEN THE SLAVE AT A PLACE was given up
  pub gave_here : (as' : List Leads) (ss : List (Stop InHand G)) (k : ℕ) (s : Stop InHand G) (result : Bool) → AllBoth (λ a s. IsLived lens recover a s) (map lived_of as') ss → k < length ss → s ≡ get_or ss k s → result ≡ gave_more s.stand s.spare recover times →
      IfSome (slice_get as' k) (λ a. IsCounted recover a.lived.life.stand (length (gave_of a)) → result ≡ nat_lt times (length (gave_of a)))
  gave_here [] [] k s result x l e r = tt
  gave_here [] (t ∷ ts) k s result x l e r = absurd x
  gave_here (a ∷ as') [] k s result x l e r = absurd x
  gave_here (a ∷ as') (t ∷ ts) zero s result x l e r = λ c. r ∙ ap (λ (z : Stop InHand G). gave_more z.stand z.spare recover times) e ∙ one_gave a t t.stand refl x.0 c
  gave_here (a ∷ as') (t ∷ ts) (suc k) s result x l e r = gave_here as' ts k s result x.1 (omega (arith, l)) e r

-- nothing is there
pub not_some : {T : Type 0} (o : Option T) → is_some o ≡ false → o ≡ None
not_some None e = refl
not_some (Some x) e = absurd (let bad : true ≡ false = e in cc)
