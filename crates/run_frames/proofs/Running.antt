-- The frames of a run count, one behind the other.
use Rattle.std.proofs.Common.{◌≡◌, ℕ, suc, ◌+◌, ◌*◌, ◌<◌, ◌≤◌, Bool, true, false, zero, Option, List, length, refl, sym, ◌∙◌, subst, arith, inl, inr}
use Rattle.life_runs.specs.of_exchange_model.Exchange.{Speech}
use Rattle.life_runs.specs.of_life_model.Lives.{Spot}
use Rattle.life_runs.specs.of_life_model.Tally.{Tally, Counted, Counts, new_tally, quiet}
use Rattle.run_frames.specs.Clocks.{Clocked, ahead_at, repair_of, still_behind, tally_of}
use Rattle.run_frames.specs.Goes.{Under, AllClocked, all_back, all_lost}
use Rattle.run_frames.specs.Orders.{live_at, under_at, last_of, opened_on, AllRepaired}
use Rattle.run_frames.specs.Runs.{Progress, IsRun, many}
use Rattle.run_frames.specs.Waits.{all_anew, waits_behind}
use Rattle.run_frames.proofs.Bringing.{FirstFrom, new_opens, opened_more, all_ended, carries_one, carries_opening, first_lost, first_back}
use Rattle.run_frames.proofs.Counting.{new_is, lost_counts, lost_clocked_all}
use Rattle.run_frames.proofs.Deciding.{round_counts, enters_counts, opening_counts, opening_still, still_is}
use Rattle.run_frames.proofs.Returning.{Known, back_clocked_all, as_many, as_many_under, live_before, round_near}
use Rattle.run_frames.proofs.Same.{GainsLost, as_many_lost}
use Rattle.run_frames.proofs.Waiting.{AllWaited, LiveBefore, anew_waited, all_waited_on, some_few}

module _ {M Q R : Type 0} (facts : Known M Q R) (lost' : GainsLost M Q R) (x : Spot → Speech M Q R) (acknowledged : Q → Bool) (more : M → Bool) (passed : Q → Bool) (recover slowest : ℕ) (first : List (Clocked M Q R)) where
  -- THE TALLY of a run
  abbrev pub tallied : Progress → List (Clocked M Q R) → Tally
  tallied p cs = tally_of slowest (length first) p.opened p.last p.frames p.lost p.still cs

  -- what holds behind each frame
  pub record Holds (p : Progress) (cs : List (Clocked M Q R)) : Type 0 where
    pub clocked : AllClocked slowest cs
    pub long : length cs ≡ length first
    pub counted : Counted (length first) slowest (new_tally (length first * (5 + slowest))) (tallied p cs)
    pub few : p.still ≤ quiet (length first) slowest
    pub none : p.opened < length cs → p.still ≡ 0
    pub ring : p.opened < length cs → FirstFrom p.opened cs
    pub waited : AllWaited slowest (length first) p.last p.frames p.still 0 cs p.waits

  -- how long each has waited behind a frame of a round
  waited_behind : (p : Progress) (as' bs : List (Clocked M Q R)) (us : List (Under M Q R)) (next : Option ℕ) (still : ℕ) → length as' ≡ length first → length bs ≡ length as' → length us ≡ length as' → AllClocked slowest as' → AllClocked slowest bs → LiveBefore slowest (length first) as' bs → still ≤ suc p.still →
      ((i k : ℕ) → k ≡ 0 + i → i < length as' → live_at as' i ≡ true → under_at us i ≡ false → suc (ahead_at (length first) next k) ≤ ahead_at (length first) p.last k) →
      AllWaited slowest (length first) p.last p.frames p.still 0 as' p.waits → AllWaited slowest (length first) next (suc p.frames) still 0 bs (waits_behind still p.frames as' us p.waits)
  waited_behind p as' bs us next zero long m n k kb l few near w = anew_waited slowest (length first) next (suc p.frames) 0 bs as' m kb
  waited_behind p as' bs us next (suc still) long m n k kb l few near w = all_waited_on slowest (length first) p.last next p.frames p.still (suc still) 0 as' bs us p.waits (omega (arith, long)) n k l few near w

  pub holds : (p : Progress) (cs : List (Clocked M Q R)) → IsRun x acknowledged more passed recover slowest first p cs → Holds p cs
  holds p cs (IsRun.start last n k) = record {
    clocked = k;
    long = refl;
    counted = subst (λ t. Counted (length first) slowest (new_tally (length first * (5 + slowest))) t) (sym (new_is slowest last first n)) Counted.none;
    few = omega arith;
    none = λ l. refl;
    ring = λ l. new_opens first n;
    waited = anew_waited slowest (length first) last 0 0 first first refl k;
  }
  holds q cs (IsRun.lost p as' us gives sent next r t one) =
      let h = holds p as' r in
      let bs = all_lost x acknowledged more passed gives recover p.frames sent as' us in
      let many' = as_many_lost facts.before lost' x acknowledged more passed gives recover p.frames sent as' us t in
      let later = opened_on p.opened bs in
      let l = opened_more p.opened bs in
      let c = lost_counts facts.before lost' x acknowledged more passed gives recover slowest p.opened later p.frames p.lost p.still p.last next sent as' us h.clocked t l (λ under. carries_one p.opened us (one under)) in
      let k = lost_clocked_all facts.before lost' x acknowledged more passed gives recover p.frames sent slowest as' us h.clocked t in
      record {
        clocked = k;
        long = many' ∙ h.long;
        counted = Counted.more (tallied p as') (tallied q bs) h.counted
            (subst (λ n. Counts n slowest (tally_of slowest n p.opened p.last p.frames p.lost p.still as') (tally_of slowest n later next (suc p.frames) (suc p.lost) 0 bs)) h.long c);
        few = omega arith;
        none = λ l'. refl;
        ring = λ l'. (let under : p.opened < length as' = omega (arith, l, l', many') in first_lost x acknowledged more passed p.frames sent facts.before lost' gives recover p.opened as' us (h.ring under) t (one under));
        waited = anew_waited slowest (length first) next (suc p.frames) 0 bs as' many' k;
      }
  holds q cs (IsRun.opening p as' us sent back next r t b under carries) =
      let h = holds p as' r in
      let bs = all_back x acknowledged more passed p.frames back as' us in
      let later = opened_on p.opened bs in
      let one = carries_opening x acknowledged more passed p.frames sent p.opened as' us under (h.ring under) t carries in
      let ring' = first_back x acknowledged more passed p.frames sent facts back slowest p.opened as' us (h.ring under) h.clocked t b carries in
      let many' = as_many facts x acknowledged more passed p.frames sent back as' us t in
      let over : length as' ≤ later → AllRepaired bs = λ l. all_ended later bs ring' (omega (arith, l, many')) in
      let same = opening_still facts x acknowledged more passed slowest p.opened later p.frames p.lost p.still p.last sent back as' us h.clocked t b under one in
      let zero' = h.none under in
      let few' : still_behind (repair_of slowest (length as') p.opened p.last p.frames as') as' bs p.still ≤ quiet (length as') slowest = omega (arith, same, zero') in
      let c = opening_counts facts x acknowledged more passed slowest p.opened later p.frames p.lost p.still p.last sent back as' us next h.clocked t b under one over few' in
      let k = back_clocked_all facts x acknowledged more passed p.frames sent back slowest as' us h.clocked t b in
      record {
        clocked = k;
        long = many' ∙ h.long;
        counted = Counted.more (tallied p as') (tallied q bs) h.counted
            (subst (λ s. Counts (length first) slowest (tallied p as') (tally_of slowest (length first) later next (suc p.frames) p.lost s bs)) same
            (subst (λ n. Counts n slowest (tally_of slowest n p.opened p.last p.frames p.lost p.still as') (tally_of slowest n later next (suc p.frames) p.lost (many x acknowledged more passed recover slowest p back as' us) bs)) h.long c));
        few = h.few;
        none = λ l'. zero';
        ring = λ l'. ring';
        waited = subst (λ s. AllWaited slowest (length first) next (suc p.frames) s 0 bs (all_anew as')) (sym zero') (anew_waited slowest (length first) next (suc p.frames) 0 bs as' many' k);
      }
  holds q cs (IsRun.round p as' us sent back ps r t b over round some) =
      let h = holds p as' r in
      let bs = all_back x acknowledged more passed p.frames back as' us in
      let still = many x acknowledged more passed recover slowest p back as' us in
      let later = p.opened in
      let k = back_clocked_all facts x acknowledged more passed p.frames sent back slowest as' us h.clocked t b in
      let many' = as_many facts x acknowledged more passed p.frames sent back as' us t in
      let is = still_is facts x acknowledged more passed slowest p.opened later p.frames p.lost p.still p.last sent back as' us in
      let near = subst (λ n. (i k : ℕ) → k ≡ 0 + i → i < length as' → live_at as' i ≡ true → under_at us i ≡ false → suc (ahead_at n (last_of p.last ps) k) ≤ ahead_at n p.last k) h.long
      (round_near facts x acknowledged more passed p.frames sent back (length as') p.last (last_of p.last ps) as' us ps refl round refl) in
      let grows : still ≤ suc p.still = elim is [ inl e ↦ omega (arith, e) | inr (inl e) ↦ omega (arith, e) | inr (inr e) ↦ omega (arith, e) ] in
      let waited' = waited_behind p as' bs us (last_of p.last ps) still h.long many' (as_many_under facts x acknowledged more passed p.frames sent back as' us t) h.clocked k (live_before facts x acknowledged more passed p.frames sent back slowest (length first) as' us h.clocked t) grows near h.waited in
      let few' : still ≤ quiet (length first) slowest = elim is [
        | inl e ↦ omega (arith, e)
        | inr (inl e) ↦ omega (arith, e, h.few)
        | inr (inr e) ↦ some_few slowest (length first) (last_of p.last ps) (suc p.frames) still 0 bs (waits_behind still p.frames as' us p.waits) waited' (some e)
      ] in
      let c = round_counts facts x acknowledged more passed slowest p.opened later p.frames p.lost p.still p.last sent back as' us ps h.clocked t b over over round (subst (λ n. still ≤ quiet n slowest) (sym h.long) few') in
      record {
        clocked = k;
        long = many' ∙ h.long;
        counted = Counted.more (tallied p as') (tallied q bs) h.counted
            (subst (λ n. Counts n slowest (tally_of slowest n p.opened p.last p.frames p.lost p.still as') (tally_of slowest n later (last_of p.last ps) (suc p.frames) p.lost still bs)) h.long c);
        few = few';
        none = λ l. absurd (omega (arith, l, many', over));
        ring = λ l. absurd (omega (arith, l, many', over));
        waited = waited';
      }
  holds q cs (IsRun.enters p as' us sent back ps r t b over round nothing) =
      let h = holds p as' r in
      let bs = all_back x acknowledged more passed p.frames back as' us in
      let k = back_clocked_all facts x acknowledged more passed p.frames sent back slowest as' us h.clocked t b in
      let many' = as_many facts x acknowledged more passed p.frames sent back as' us t in
      let c = enters_counts facts x acknowledged more passed slowest p.opened p.opened p.frames p.lost p.still p.last sent back as' us ps h.clocked t b over over round nothing in
      record {
        clocked = k;
        long = many' ∙ h.long;
        counted = Counted.more (tallied p as') (tallied q bs) h.counted
            (subst (λ n. Counts n slowest (tally_of slowest n p.opened p.last p.frames p.lost p.still as') (tally_of slowest n p.opened (last_of p.last ps) (suc p.frames) (suc p.lost) 0 bs)) h.long c);
        few = omega arith;
        none = λ l. refl;
        ring = λ l. absurd (omega (arith, l, many', over));
        waited = anew_waited slowest (length first) (last_of p.last ps) (suc p.frames) 0 bs as' many' k;
      }
