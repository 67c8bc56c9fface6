-- Epochs that are over stay as they are while the run goes on.
use Rattle.std.proofs.Common.{◌≡◌, ℕ, suc, ◌-◌, ◌<◌, ◌≤◌, Bool, true, false, Some, List, [], ◌∷◌, ◌++◌, map, take, drop, replicate, length, refl, ap, ap₂, sym, ◌∙◌, subst, arith, append_assoc, length-append, if◌then◌else◌}
use Rattle.std.specs.Prelude.{nat_le, nat_lt}
use Rattle.std.proofs.lemmas.Bool.{le-ltb}
use Rattle.std.proofs.lemmas.List.{length-drop, take-append-le}
use Rattle.state_model.specs.of_exchange_model.Exchange.{Exchange, IsLawful, emitted}
use Rattle.state_model.specs.of_segment_model.Slaves.{Processor}
use Rattle.state_model.specs.of_segment_model.Record.{Frame, heard}
use Rattle.state_model.specs.States.{Table}
use Rattle.state_model.specs.Stated.{Stated, IsStated}
use Rattle.state_model.specs.Accounts.{Started}
use Rattle.state_model.specs.Tasks.{IsTasked}
use Rattle.life_model.specs.Own.{blank, own_frame}
use Rattle.life_model.specs.Lives.{Spot, opens_state}
use Rattle.life_model.specs.Eras.{era_frames, planned}
use Rattle.life_model.specs.Book.{EpochBook, line_of}
use Rattle.life_model.specs.Answers.{first_gave, between, end_of}
use Rattle.life_model.specs.Chain.{with_doubt, AreLeft, LeftBehind, NoneShow, IsShownFirst, Epoch, booked, Timed, Written, Chained, AllEnd, NoneBelow}
use Rattle.life_model.proofs.Lists.{drop-append}
use Rattle.life_model.proofs.Answered.{cut_within}

-- a part of the first frames is a part of all
pub same_part : {X : Type 0} (a b : ℕ) (xs ys : List X) → b ≤ length xs → between a b (xs ++ ys) ≡ between a b xs
same_part a b xs ys le =
    ap (take (b - a)) (drop-append a xs ys) ∙ take-append-le (b - a) (drop a xs) (drop (a - length xs) ys) (let size = length-drop a xs in omega (arith, size, le))

-- a give-up behind them cuts none of them
pub late_gave : (gave hs : List ℕ) (n frame end : ℕ) → NoneBelow n hs → end ≤ n → first_gave (gave ++ hs) frame end ≡ first_gave gave frame end
late_gave [] hs n frame end late le = go hs late
  where
    go : (ks : List ℕ) → NoneBelow n ks → first_gave ks frame end ≡ end
    go [] late = refl
    go (h ∷ ks) late = ap₂ (λ (b : Bool) (k : ℕ). if nat_le frame h then (if b then suc h else end) else k) (le-ltb h end (let far = late.0 in omega (arith, far, le))) (go ks late.1) ∙ same (nat_le frame h)
      where
        same : (b : Bool) → (if b then end else end) ≡ end
        same true = refl
        same false = refl
late_gave (g ∷ gave) hs n frame end late le = ap (λ k. if nat_le frame g then (if nat_lt g end then suc g else end) else k) (late_gave gave hs n frame end late le)

module _ {V A M Q R : Type 0} (x : Exchange V A M Q R) (lawful : IsLawful x) (s : Stated V A Q) (stated : IsStated x s) (processor : Processor V) (table : ℕ → Table) (cleared : A → A) (more : M → Bool) (spot : Spot)
    (fs gs : List (Frame M)) (gave hs : List ℕ) (late : NoneBelow (length fs) hs) where
  abbrev Old : Type 0
  Old = Epoch x lawful s stated processor table cleared more spot fs

  abbrev New : Type 0
  New = Epoch x lawful s stated processor table cleared more spot (fs ++ gs)

  pub same_frames : (opened until : ℕ) → until ≤ length fs → era_frames spot opened until (fs ++ gs) ≡ era_frames spot opened until fs
  same_frames opened until le = ap (λ l. replicate (suc opened) blank ++ map (λ f. own_frame spot.station spot.place f) l) (same_part (suc opened) until fs gs le)

  -- AN EPOCH as more frames have come
  abbrev pub longer : (e : Old) → e.until ≤ length fs → New
  longer e le = record {
    era = e.era;
    opened = e.opened;
    until = e.until;
    server = e.server;
    registers = e.registers;
    slave = e.slave;
    is = record {
      plan = e.is.plan;
      answers = e.is.answers;
      opened_at = e.is.opened_at;
      tasked = subst (λ l. IsTasked x s.acknowledged processor (planned spot e.server e.registers ∷ []) ((spot.station, e.era.side) ∷ []) (e.era.account ∷ []) ((spot.station, e.slave) ∷ []) l) (sym (same_frames e.opened e.until le)) e.is.tasked;
    };
    rows = e.rows;
    tail = e.tail;
    all = e.all;
    quiet = e.quiet;
    last = e.last;
  }

  abbrev old_book : Old → EpochBook M Q R
  old_book e = booked x lawful s stated processor table cleared more spot fs e

  abbrev new_book : New → EpochBook M Q R
  new_book e = booked x lawful s stated processor table cleared more spot (fs ++ gs) e

  same_book : (e : Old) (le : e.until ≤ length fs) → new_book (longer e le) ≡ old_book e
  same_book e le = ap (λ l. record {
    cleared = e.era.cleared;
    opened = Some e.opened;
    lines = map (λ r. line_of x.speech more spot.station l r) e.rows;
    handled = x.handled e.slave.node.server.server - x.handled e.server;
    received = emitted x.speech.emission (heard spot.station l);
  }) (same_frames e.opened e.until le)

  pub left_more : (opened end : ℕ) → end ≤ length fs → (gs2 : List ℕ) → LeftBehind spot.station opened end fs gs2 → LeftBehind spot.station opened end (fs ++ gs) (gs2 ++ hs)
  left_more opened end le [] l = go hs late
    where
      go : (ks : List ℕ) → NoneBelow (length fs) ks → LeftBehind spot.station opened end (fs ++ gs) ks
      go [] far = tt
      go (k ∷ ks) far =
          ((λ less. subst (λ n. AreLeft spot.station (take n (drop (suc k) (fs ++ gs)))) (let h = far.0 in let same : 0 ≡ end - suc k = omega (arith, h, le) in same) tt), go ks far.1)
  left_more opened end le (g ∷ gs2) l = ((λ less. subst (AreLeft spot.station) (sym (same_part (suc g) end fs gs le)) (l.0 less)), left_more opened end le gs2 l.1)

  pub timed_more : (e : Old) (le : e.until ≤ length fs) (end : ℕ) → end ≤ length fs → Timed x lawful s stated processor table cleared more spot fs gave e end →
      Timed x lawful s stated processor table cleared more spot (fs ++ gs) (gave ++ hs) (longer e le) end
  timed_more e le end within t = record {
    returned = t.returned;
    since = t.since;
    within = t.within;
    begins = t.begins;
    behind = subst (AreLeft spot.station) (sym (same_part e.until end fs gs within)) t.behind;
    gives = left_more e.opened end within gave t.gives;
  }

  pub none_more : (state a b : ℕ) → b ≤ length fs → NoneShow spot.station state (between a b fs) → NoneShow spot.station state (between a b (fs ++ gs))
  none_more state a b le n = subst (NoneShow spot.station state) (sym (same_part a b fs gs le)) n

  pub written_more : (e : Old) (le : e.until ≤ length fs) (end : ℕ) (carry : List (Started Q)) (body : EpochBook M Q R) → end ≤ length fs → Written x lawful s stated processor table cleared more spot fs gave e end carry body →
      Written x lawful s stated processor table cleared more spot (fs ++ gs) (gave ++ hs) (longer e le) end carry body
  written_more e le end carry body within (Written.whole none) = subst (Written x lawful s stated processor table cleared more spot (fs ++ gs) (gave ++ hs) (longer e le) end []) (same_book e le) (Written.whole none)
  written_more e le end carry body within (Written.moved r is) = subst (Written x lawful s stated processor table cleared more spot (fs ++ gs) (gave ++ hs) (longer e le) end (r ∷ [])) (same_book e le) (Written.moved r is)
  written_more e le end carry body within (Written.doubted target frame is returns quiet) =
      subst (λ k. Written x lawful s stated processor table cleared more spot (fs ++ gs) (gave ++ hs) (longer e le) end [] (with_doubt target frame k)) (same_book e le)
      (Written.doubted target frame is returns (none_more (opens_state target) frame end within quiet))

  pub shown_more : (state returned opened : ℕ) → IsShownFirst spot.station state returned opened fs → IsShownFirst spot.station state returned opened (fs ++ gs)
  shown_more state returned opened f = record {
    before = f.before;
    frame = f.frame;
    behind = f.behind ++ gs;
    all = ap (λ l. l ++ gs) f.all ∙ append_assoc f.before (f.frame ∷ f.behind) gs;
    at = f.at;
    later = f.later;
    shows = f.shows;
    none = none_more state (suc returned) opened (let size = ap length f.all ∙ length-append f.before (f.frame ∷ f.behind) in let at = f.at in omega (arith, size, at)) f.none;
  }

  -- ALL EPOCHS that are over
  pub chain_more : (stop : ℕ) (carried : List (Started Q)) (end : A) (carry : List (Started Q)) (a : A) (es : List (EpochBook M Q R)) → AllEnd (length fs) stop es →
      Chained x lawful s stated processor table cleared more spot fs gave stop carried end carry a es → Chained x lawful s stated processor table cleared more spot (fs ++ gs) (gave ++ hs) stop carried end carry a es
  chain_more stop carried end carry a es within Chained.none = Chained.none
  chain_more stop carried end carry a es within (Chained.taken_up b e next body more_es begins t w l) =
      let low = t.within in
      let le : e.until ≤ length fs = (let far = within.0 in omega (arith, low, far)) in
      Chained.taken_up b (longer e le) next body more_es begins (timed_more e le (end_of stop more_es) within.0 t) (written_more e le (end_of stop more_es) next body within.0 w) (chain_more stop carried end next _ more_es within.1 l)
  chain_more stop carried end carry a es within (Chained.own_opened b e target frame cleared_at next body more_es returns is early shown before begins t w l) =
      let low = t.within in
      let le : e.until ≤ length fs = (let far = within.0 in omega (arith, low, far)) in
      Chained.own_opened b (longer e le) target frame cleared_at next body more_es returns is early (shown_more (opens_state target) cleared_at e.opened shown)
      (subst (λ n. e.opened < n) (sym (late_gave gave hs (length fs) frame (end_of stop more_es) late within.0)) before) begins
      (timed_more e le (end_of stop more_es) within.0 t) (written_more e le (end_of stop more_es) next body within.0 w) (chain_more stop carried end next _ more_es within.1 l)
  chain_more stop carried end carry a es within (Chained.closed b cleared_at more_es l) = Chained.closed b cleared_at more_es (chain_more stop carried end [] _ more_es within.1 l)
  chain_more stop carried end carry a es within (Chained.own_closed b target frame cleared_at more_es returns early quiet l) =
      Chained.own_closed b target frame cleared_at more_es returns early
      (subst (λ n. NoneShow spot.station (opens_state target) (between (suc cleared_at) n (fs ++ gs))) (sym (late_gave gave hs (length fs) frame (end_of stop more_es) late within.0))
      (none_more (opens_state target) (suc cleared_at) (first_gave gave frame (end_of stop more_es)) (let least = cut_within gave frame (end_of stop more_es) in let far = within.0 in omega (arith, least, far)) quiet))
      (chain_more stop carried end [] _ more_es within.1 l)
