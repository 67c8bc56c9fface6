-- WHAT CAME INTO HAND stays behind frames, and the frames of an epoch that was just opened are blanks.
use Rattle.std.proofs.Common.{◌≡◌, ℕ, zero, suc, ◌-◌, ◌==◌, ◌&&◌, Bool, true, false, not, Option, None, Some, List, [], ◌∷◌, ◌++◌, map, length, take, drop, refl, ap, sym, ◌∙◌, append-nil, if◌then◌else◌}
use Rattle.std.specs.Prelude.{replicate}
use Rattle.master_hand.specs.of_exchange_model.Exchange.{Speech}
use Rattle.few_replies.specs.of_life_model.Eras.{era_frames}
use Rattle.few_replies.specs.of_life_model.Lives.{Spot, Era, era_after}
use Rattle.few_replies.specs.of_life_model.Own as Own
use Rattle.few_replies.specs.of_life_model.Own.{own_frame, blank}
use Rattle.few_replies.specs.of_link_model.Segment.{RingFate}
use Rattle.few_replies.specs.Erased.{frame_as}
use Rattle.master_hand.specs.of_segment_model.Record.{Frame, News, is_for}
use Rattle.master_hand.specs.of_segment_model.Slaves.{Datagram}
use Rattle.master_hand.specs.of_state_model.Accounts.{Account, Duty, Progress, account_met, account_by, account_back, access_done}

-- frames leave what came into hand
pub met_started : {N P S : Type 0} (station frame : ℕ) (a : Account P S) (hand : Option Duty) (d : Datagram N) → (account_met station frame a hand d).started ≡ a.started
met_started station frame a None d = refl
met_started {S = S} station frame a (Some duty) d = go (is_for station d.address && not (d.counter == 0))
  where
    by : (k : Progress S) → (account_by frame a duty k).started ≡ a.started
    by (Progress.On stage) = refl
    by (Progress.Over answer) = refl

    go : (b : Bool) → (if b then account_by frame a duty (access_done duty.target duty.stage d.access d.found) else a).started ≡ a.started
    go true = by (access_done duty.target duty.stage d.access d.found)
    go false = refl

pub back_started : {N P S : Type 0} (station frame : ℕ) (a : Account P S) (ds : List (Datagram N)) → (account_back station frame a ds).started ≡ a.started
back_started station frame a [] = refl
back_started station frame a (d ∷ ds) = back_started station frame (account_met station frame a a.hand d) ds ∙ met_started station frame a a.hand d

pub after_started : {N P S : Type 0} (z : Speech N P S) (acknowledged : P → Bool) (mores : N → Bool) (passed : P → Bool) (station frame : ℕ) (news : List (News N)) (sent : List (Datagram N)) (fate : RingFate) (back : List (Datagram N)) (e : Era N P S) →
    (era_after z acknowledged mores passed station frame news sent fate back e).account.started ≡ e.account.started
after_started z acknowledged mores passed station frame news sent RingFate.Back back e = back_started station frame e.account (Own.own station back)
after_started z acknowledged mores passed station frame news sent (RingFate.Lost after) back e = refl

-- before the last item there are the others
pub replicated : {X : Type 0} (x : X) (n : ℕ) → length (replicate n x) ≡ n
replicated x zero = refl
replicated x (suc n) = ap suc (replicated x n)

-- an epoch that is just opened has no frames
pub drop_all : {X : Type 0} (l : List X) → drop (length l) l ≡ []
drop_all [] = refl
drop_all (f ∷ l) = drop_all l

pub take_none : {X : Type 0} (n : ℕ) → take {A = X} n [] ≡ []
take_none zero = refl
take_none (suc n) = refl

pub blank_frames : {M : Type 0} (spot : Spot) (opened : ℕ) (fs : List (Frame M)) → length fs ≡ suc opened → era_frames spot opened (length fs) fs ≡ replicate (suc opened) blank
blank_frames {M} spot opened fs is =
    let nothing : drop (suc opened) fs ≡ [] = ap (λ k. drop k fs) (sym is) ∙ drop_all fs in
    ap (λ (l : List (Frame M)). replicate (suc opened) blank ++ map (λ f. own_frame spot.station spot.place f) l) (ap (take (length fs - suc opened)) nothing ∙ take_none (length fs - suc opened)) ∙ append-nil (replicate (suc opened) blank)

pub blanks_seen : {N M : Type 0} (f : N → M) (n : ℕ) → map (λ k. frame_as f k) (replicate n blank) ≡ replicate n blank
blanks_seen f zero = refl
blanks_seen f (suc n) = ap (λ l. blank ∷ l) (blanks_seen f n)
