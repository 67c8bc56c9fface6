-- A life goes on: its newest epoch opens, goes on by frames, and is over.
use Rattle.std.proofs.Common.{◌≡◌, ℕ, suc, ◌+◌, ◌-◌, ◌<◌, ◌≤◌, Bool, true, false, List, [], ◌∷◌, ◌++◌, take, drop, length, refl, ap, sym, ◌∙◌, subst, arith, append-nil, length-append, if◌then◌else◌}
use Rattle.std.specs.Prelude.{nat_le, nat_lt}
use Rattle.std.proofs.lemmas.Bool.{ltb-true, ltb-false, leb-true, leb-false}
use Rattle.state_model.specs.of_exchange_model.Exchange.{Exchange, IsLawful}
use Rattle.state_model.specs.of_segment_model.Slaves.{Processor}
use Rattle.state_model.specs.of_segment_model.Record.{Frame}
use Rattle.state_model.specs.States.{Table}
use Rattle.state_model.specs.Stated.{Stated, IsStated}
use Rattle.state_model.specs.Accounts.{Started}
use Rattle.life_model.specs.Lives.{Spot, opens_state}
use Rattle.life_model.specs.Eras.{EraIs}
use Rattle.life_model.specs.Book.{EpochBook, SlaveBook}
use Rattle.life_model.specs.Answers.{first_gave, between, return_of, end_of}
use Rattle.life_model.specs.Chain.{behind_clear, AreLeft, NoneShow, LeftBehind, IsShownFirst, Epoch, leaves, Timed, Written, Chained, AllEnd, NoneBelow}
use Rattle.life_model.specs.Open.{Begun, OpenLife, as_begun, NoneBehind, GoesOn, IsOver}
use Rattle.life_model.proofs.Lists.{between-join}
use Rattle.life_model.proofs.Grows.{same_part, longer, shown_more, chain_more}

-- a later end cuts no earlier
later_gave : (gave : List ℕ) (frame end more : ℕ) → end ≤ more → first_gave gave frame end ≤ first_gave gave frame more
later_gave [] frame end more le = le
later_gave (g ∷ gave) frame end more le = go (nat_le frame g) (nat_lt g end) refl (nat_lt g more) refl (later_gave gave frame end more le)
  where
    go : (b c : Bool) → nat_lt g end ≡ c → (d : Bool) → nat_lt g more ≡ d → first_gave gave frame end ≤ first_gave gave frame more →
        (if b then (if c then suc g else end) else first_gave gave frame end) ≤ (if b then (if d then suc g else more) else first_gave gave frame more)
    go false c e d f rest = rest
    go true true e true f rest = omega arith
    go true true e false f rest = let low : g < end = ltb-true g end e in omega (arith, low, le)
    go true false e true f rest = let far : end ≤ g = ltb-false g end e in omega (arith, far)
    go true false e false f rest = le

-- with further give-ups behind
none_append : (opened : ℕ) (gave : List ℕ) (station end : ℕ) {M : Type 0} (fs : List (Frame M)) → NoneBehind opened gave → LeftBehind station opened end fs gave
none_append opened [] station end fs n = tt
none_append opened (g ∷ gave) station end fs n = ((λ less. absurd (let low = n.0 in omega (arith, low, less))), none_append opened gave station end fs n.1)

left_last : {M : Type 0} (station : ℕ) (fs gs : List (Frame M)) → AreLeft station (fs ++ gs) → AreLeft station gs
left_last station [] gs l = l
left_last station (f ∷ fs) gs l = left_last station fs gs l.1

module _ {V A M Q R : Type 0} (x : Exchange V A M Q R) (lawful : IsLawful x) (s : Stated V A Q) (stated : IsStated x s) (processor : Processor V) (table : ℕ → Table) (cleared : A → A) (more : M → Bool) (spot : Spot) where
  -- ONE CHAIN BEHIND ANOTHER
  pub chain_join : (fs : List (Frame M)) (gave : List ℕ) (stop last : ℕ) (carried between_carry : List (Started Q)) (end mid : A) (rest : List (EpochBook M Q R)) → Chained x lawful s stated processor table cleared more spot fs gave stop carried end between_carry mid rest → end_of stop rest ≡ last →
      (carry : List (Started Q)) (a : A) (es : List (EpochBook M Q R)) → Chained x lawful s stated processor table cleared more spot fs gave last between_carry mid carry a es → Chained x lawful s stated processor table cleared more spot fs gave stop carried end carry a (es ++ rest)
  chain_join fs gave stop last carried between_carry end mid rest later at carry a es Chained.none = later
  chain_join fs gave stop last carried between_carry end mid rest later at carry a es (Chained.taken_up b e next body more_es begins t w l) =
      let same : end_of last more_es ≡ end_of stop (more_es ++ rest) = joins more_es in
      Chained.taken_up b e next body (more_es ++ rest) begins (subst (Timed x lawful s stated processor table cleared more spot fs gave e) same t)
      (subst (λ n. Written x lawful s stated processor table cleared more spot fs gave e n next body) same w) (chain_join fs gave stop last carried between_carry end mid rest later at next _ more_es l)
    where
      joins : (es : List (EpochBook M Q R)) → end_of last es ≡ end_of stop (es ++ rest)
      joins [] = sym at
      joins (e ∷ es) = refl
  chain_join fs gave stop last carried between_carry end mid rest later at carry a es (Chained.own_opened b e target frame cleared_at next body more_es returns is early shown before begins t w l) =
      let same : end_of last more_es ≡ end_of stop (more_es ++ rest) = joins more_es in
      Chained.own_opened b e target frame cleared_at next body (more_es ++ rest) returns is early shown (subst (λ n. e.opened < first_gave gave frame n) same before) begins (subst (Timed x lawful s stated processor table cleared more spot fs gave e) same t)
      (subst (λ n. Written x lawful s stated processor table cleared more spot fs gave e n next body) same w) (chain_join fs gave stop last carried between_carry end mid rest later at next _ more_es l)
    where
      joins : (es : List (EpochBook M Q R)) → end_of last es ≡ end_of stop (es ++ rest)
      joins [] = sym at
      joins (e ∷ es) = refl
  chain_join fs gave stop last carried between_carry end mid rest later at carry a es (Chained.closed b cleared_at more_es l) =
      Chained.closed b cleared_at (more_es ++ rest) (chain_join fs gave stop last carried between_carry end mid rest later at [] _ more_es l)
  chain_join fs gave stop last carried between_carry end mid rest later at carry a es (Chained.own_closed b target frame cleared_at more_es returns early quiet l) =
      let same : end_of last more_es ≡ end_of stop (more_es ++ rest) = joins more_es in
      Chained.own_closed b target frame cleared_at (more_es ++ rest) returns early (subst (λ n. NoneShow spot.station (opens_state target) (between (suc cleared_at) (first_gave gave frame n) fs)) same quiet)
      (chain_join fs gave stop last carried between_carry end mid rest later at [] _ more_es l)
    where
      joins : (es : List (EpochBook M Q R)) → end_of last es ≡ end_of stop (es ++ rest)
      joins [] = sym at
      joins (e ∷ es) = refl

  -- an epoch's return to Init is in the book
  written_cleared : (fs : List (Frame M)) (gave : List ℕ) (e : Epoch x lawful s stated processor table cleared more spot fs) (end : ℕ) (carry : List (Started Q)) (body : EpochBook M Q R) →
      Written x lawful s stated processor table cleared more spot fs gave e end carry body → body.cleared ≡ e.era.cleared
  written_cleared fs gave e end carry body (Written.whole none) = refl
  written_cleared fs gave e end carry body (Written.moved r is) = refl
  written_cleared fs gave e end carry body (Written.doubted target frame is returns quiet) = refl

  pub nothing_between : (n m : ℕ) (fs : List (Frame M)) → m ≤ n → AreLeft spot.station (between n m fs)
  nothing_between n m fs le = subst (λ k. AreLeft spot.station (take k (drop n fs))) (let same : 0 ≡ m - n = omega (arith, le) in same) tt

  -- IT GOES ON
  module _ (fs : List (Frame M)) (gave : List ℕ) (f : Frame M) where
    abbrev longer_by : List (Frame M)
    longer_by = fs ++ f ∷ []

    longer_size : length longer_by ≡ suc (length fs)
    longer_size = length-append fs (f ∷ []) ∙ (let one : length fs + 1 ≡ suc (length fs) = omega arith in one)

    abbrev Then : Type 0
    Then = Epoch x lawful s stated processor table cleared more spot longer_by

    go_on_begun : (e : Epoch x lawful s stated processor table cleared more spot fs) (body : EpochBook M Q R) (carry : List (Started Q)) (a : A) (last : EpochBook M Q R) (g : Begun x lawful s stated processor table cleared more spot fs gave e (length fs) body carry a last)
        (now : Then) (other : EpochBook M Q R) → GoesOn x lawful s stated processor table cleared more spot gave fs e f now other →
        Begun x lawful s stated processor table cleared more spot longer_by gave now (length longer_by) other carry a (as_begun x lawful s stated processor table cleared more spot fs gave e (length fs) body carry a last g other)
    go_on_begun e body carry a last (Begun.taken_up b begins) now other k =
        Begun.taken_up b (ap x.app k.server ∙ begins ∙ ap (λ c. s.told spot.start (behind_clear cleared c b)) (sym k.cleared_is))
    go_on_begun e body carry a last (Begun.by_own b target frame cleared_at returns is early shown before begins) now other k =
        let least = later_gave gave frame (length fs) (length longer_by) (omega (arith, longer_size)) in
        Begun.by_own b target frame cleared_at returns (k.cleared_is ∙ is) early
        (subst (λ n. IsShownFirst spot.station (opens_state target) cleared_at n longer_by) (sym k.opened) (shown_more x lawful s stated processor table cleared more spot fs (f ∷ []) gave [] tt (opens_state target) cleared_at e.opened shown))
        (let same = k.opened in omega (arith, least, before, same)) (ap x.app k.server ∙ begins)

    same_return : (e : Epoch x lawful s stated processor table cleared more spot fs) (body : EpochBook M Q R) (carry : List (Started Q)) (a : A) (last : EpochBook M Q R) (g : Begun x lawful s stated processor table cleared more spot fs gave e (length fs) body carry a last)
        (other : EpochBook M Q R) → body.cleared ≡ other.cleared → last.cleared ≡ (as_begun x lawful s stated processor table cleared more spot fs gave e (length fs) body carry a last g other).cleared
    same_return e body carry a last (Begun.taken_up b begins) other same = same
    same_return e body carry a last (Begun.by_own b target frame cleared_at returns is early shown before begins) other same = same

    pub goes_on : (b : SlaveBook A M Q R) (l : OpenLife x lawful s stated processor table cleared more spot fs gave b) (now : Then) (body : EpochBook M Q R) → GoesOn x lawful s stated processor table cleared more spot gave fs l.epoch f now body →
        (c : SlaveBook A M Q R) → c.first ≡ b.first → c.epochs ≡ l.past ++ as_begun x lawful s stated processor table cleared more spot fs gave l.epoch (length fs) l.body l.carry l.left l.last l.begun body ∷ [] →
        OpenLife x lawful s stated processor table cleared more spot longer_by gave c
    goes_on b l now body k c first epochs =
        let other = as_begun x lawful s stated processor table cleared more spot fs gave l.epoch (length fs) l.body l.carry l.left l.last l.begun body in
        let cleared_same : l.body.cleared ≡ body.cleared =
        written_cleared fs gave l.epoch (length fs) [] l.body l.written ∙ sym k.cleared_is ∙ sym (written_cleared longer_by gave now (length longer_by) [] body k.written) in
        let stop : return_of l.last.cleared ≡ return_of other.cleared = ap return_of (same_return l.epoch l.body l.carry l.left l.last l.begun body cleared_same) in
        let until = k.until in
        let opened = k.opened in
        let since = l.timed.since in
        let within = l.timed.within in
        record {
          past = l.past;
          carry = l.carry;
          left = l.left;
          epoch = now;
          body = body;
          last = other;
          before = subst (λ n. Chained x lawful s stated processor table cleared more spot longer_by gave n l.carry l.left [] c.first l.past) stop
              (subst (λ a. Chained x lawful s stated processor table cleared more spot longer_by gave (return_of l.last.cleared) l.carry l.left [] a l.past) (sym first)
              (subst (λ gs. Chained x lawful s stated processor table cleared more spot longer_by gs (return_of l.last.cleared) l.carry l.left [] b.first l.past) (append-nil gave)
              (chain_more x lawful s stated processor table cleared more spot fs (f ∷ []) gave [] tt (return_of l.last.cleared) l.carry l.left [] b.first l.past l.inside l.before)));
          inside = subst (λ n. AllEnd (length longer_by) n l.past) stop (all_end (return_of l.last.cleared) l.past l.inside);
          begun = go_on_begun l.epoch l.body l.carry l.left l.last l.begun now body k;
          timed = record {
            returned = λ frame is. subst (λ n. frame < n) (sym opened) (l.timed.returned frame (sym k.cleared_is ∙ is));
            since = omega (arith, until, opened, since, within, longer_size);
            within = omega (arith, until);
            begins = k.begins;
            behind = nothing_between now.until (length longer_by) longer_by (omega (arith, until));
            gives = none_append now.opened gave spot.station (length longer_by) longer_by (subst (λ n. NoneBehind n gave) (sym opened) k.quiet);
          };
          written = k.written;
          epochs = epochs;
        }
      where
        all_end : (stop : ℕ) (es : List (EpochBook M Q R)) → AllEnd (length fs) stop es → AllEnd (length longer_by) stop es
        all_end stop [] a = tt
        all_end stop (e ∷ es) a = ((let le = a.0 in omega (arith, le, longer_size)), all_end stop es a.1)

  pub opens_left : (fs : List (Frame M)) (opened : ℕ) → length fs ≡ suc opened → (gave : List ℕ) → LeftBehind spot.station opened (length fs) fs gave
  opens_left fs opened size [] = tt
  opens_left fs opened size (g ∷ gave) = ((λ less. nothing_between (suc g) (length fs) fs (omega (arith, size, less))), opens_left fs opened size gave)

  -- IT IS OVER
  module _ (fs gs : List (Frame M)) (gave hs : List ℕ) where
    abbrev Old : Type 0
    Old = Epoch x lawful s stated processor table cleared more spot fs

    abbrev New : Type 0
    New = Epoch x lawful s stated processor table cleared more spot (fs ++ gs)

    -- what cuts the answer of the row that opened it comes behind that still
    more_gave : (opened frame stop : ℕ) → opened < length fs → length fs ≤ stop → NoneBelow (length fs) hs → (ks : List ℕ) → opened < first_gave ks frame (length fs) → opened < first_gave (ks ++ hs) frame stop
    more_gave opened frame stop low le late [] less = go hs late
      where
        go : (ks : List ℕ) → NoneBelow (length fs) ks → opened < first_gave ks frame stop
        go [] far = omega (arith, low, le)
        go (k ∷ ks) far = by (nat_le frame k) (nat_lt k stop) (go ks far.1)
          where
            by : (b c : Bool) → opened < first_gave ks frame stop → opened < (if b then (if c then suc k else stop) else first_gave ks frame stop)
            by false c rest = rest
            by true true rest = let h = far.0 in omega (arith, h, low)
            by true false rest = omega (arith, low, le)
    more_gave opened frame stop low le late (g ∷ ks) less = go (nat_le frame g) (nat_lt g (length fs)) refl (nat_lt g stop) less (λ k. more_gave opened frame stop low le late ks k)
      where
        go : (b c : Bool) → nat_lt g (length fs) ≡ c → (d : Bool) → opened < (if b then (if c then suc g else length fs) else first_gave ks frame (length fs)) →
            (opened < first_gave ks frame (length fs) → opened < first_gave (ks ++ hs) frame stop) → opened < (if b then (if d then suc g else stop) else first_gave (ks ++ hs) frame stop)
        go false c e d old rest = rest old
        go true true e true old rest = old
        go true true e false old rest = omega (arith, low, le)
        go true false e true old rest = let far : length fs ≤ g = ltb-false g (length fs) e in omega (arith, far, low)
        go true false e false old rest = omega (arith, low, le)

    left-append : (xs ys : List (Frame M)) → AreLeft spot.station xs → AreLeft spot.station ys → AreLeft spot.station (xs ++ ys)
    left-append [] ys a b = b
    left-append (x2 ∷ xs) ys a b = (a.0, left-append xs ys a.1 b)

    over_left : (opened stop : ℕ) → length fs ≤ stop → AreLeft spot.station (between (length fs) stop (fs ++ gs)) → NoneBelow (length fs) hs → (ks : List ℕ) → NoneBehind opened ks → LeftBehind spot.station opened stop (fs ++ gs) (ks ++ hs)
    over_left opened stop le left late [] quiet = go hs late
      where
        go : (ks : List ℕ) → NoneBelow (length fs) ks → LeftBehind spot.station opened stop (fs ++ gs) ks
        go [] far = tt
        go (k ∷ ks) far = ((λ less. by (nat_le (suc k) stop) refl), go ks far.1)
          where
            by : (b : Bool) → nat_le (suc k) stop ≡ b → AreLeft spot.station (between (suc k) stop (fs ++ gs))
            by false e = let over = leb-false (suc k) stop e in nothing_between (suc k) stop (fs ++ gs) (omega (arith, over))
            by true e =
                let h = far.0 in
                left_last spot.station (between (length fs) (suc k) (fs ++ gs)) (between (suc k) stop (fs ++ gs))
                (subst (AreLeft spot.station) (between-join (length fs) (suc k) stop (fs ++ gs) (omega (arith, h)) (leb-true (suc k) stop e)) left)
    over_left opened stop le left late (g ∷ ks) quiet = ((λ less. absurd (let low = quiet.0 in omega (arith, low, less))), over_left opened stop le left late ks quiet.1)

    abbrev Kept : (e : Old) (now : New) (stop : ℕ) (carry : List (Started Q)) (body : EpochBook M Q R) → Type 0
    Kept e now stop carry body = IsOver x lawful s stated processor table cleared more spot gave fs e gs hs now stop carry body

    over_timed : (e : Old) (now : New) (stop : ℕ) (carry : List (Started Q)) (body : EpochBook M Q R) → Timed x lawful s stated processor table cleared more spot fs gave e (length fs) → Kept e now stop carry body →
        Timed x lawful s stated processor table cleared more spot (fs ++ gs) (gave ++ hs) now stop
    over_timed e now stop carry body t k =
        let opened = k.opened in
        let until = k.until in
        let since = t.since in
        let within = t.within in
        let behind = k.behind in
        record {
          returned = λ frame is. subst (λ n. frame < n) (sym opened) (t.returned frame (sym k.cleared_is ∙ is));
          since = omega (arith, until, opened, since);
          within = omega (arith, until, within, behind);
          begins = k.begins;
          behind = subst (λ n. AreLeft spot.station (between n stop (fs ++ gs))) (sym until)
              (subst (AreLeft spot.station) (sym (between-join e.until (length fs) stop (fs ++ gs) within behind))
              (left-append (between e.until (length fs) (fs ++ gs)) (between (length fs) stop (fs ++ gs)) (subst (AreLeft spot.station) (sym (same_part e.until (length fs) fs gs (omega arith))) t.behind) k.left));
          gives = subst (λ n. LeftBehind spot.station n stop (fs ++ gs) (gave ++ hs)) (sym opened) (over_left e.opened stop behind k.left k.late gave k.quiet);
        }

    over_newest : (e : Old) (body : EpochBook M Q R) (carry : List (Started Q)) (a : A) (last : EpochBook M Q R) (g : Begun x lawful s stated processor table cleared more spot fs gave e (length fs) body carry a last) →
        Timed x lawful s stated processor table cleared more spot fs gave e (length fs) → (now : New) (stop : ℕ) (carried : List (Started Q)) (other : EpochBook M Q R) → Kept e now stop carried other →
        Chained x lawful s stated processor table cleared more spot (fs ++ gs) (gave ++ hs) stop carried (leaves x lawful s stated processor table cleared more spot (fs ++ gs) now) carry a
        (as_begun x lawful s stated processor table cleared more spot fs gave e (length fs) body carry a last g other ∷ [])
    over_newest e body carry a last (Begun.taken_up b begins) t now stop carried other k =
        Chained.taken_up b now carried other [] (ap x.app k.server ∙ begins ∙ ap (λ c. s.told spot.start (behind_clear cleared c b)) (sym k.cleared_is)) (over_timed e now stop carried other t k) k.written Chained.none
    over_newest e body carry a last (Begun.by_own b target frame cleared_at returns is early shown before begins) t now stop carried other k =
        let since = t.since in
        let within = t.within in
        let cut = more_gave e.opened frame stop (omega (arith, since, within)) k.behind k.late gave before in
        Chained.own_opened b now target frame cleared_at carried other [] returns (k.cleared_is ∙ is) early
        (subst (λ n. IsShownFirst spot.station (opens_state target) cleared_at n (fs ++ gs)) (sym k.opened) (shown_more x lawful s stated processor table cleared more spot fs gs gave hs k.late (opens_state target) cleared_at e.opened shown))
        (let same = k.opened in omega (arith, cut, same)) (ap x.app k.server ∙ begins) (over_timed e now stop carried other t k) k.written Chained.none

    as_return : (e : Old) (body : EpochBook M Q R) (carry : List (Started Q)) (a : A) (last : EpochBook M Q R) (g : Begun x lawful s stated processor table cleared more spot fs gave e (length fs) body carry a last)
        (other : EpochBook M Q R) → body.cleared ≡ other.cleared → last.cleared ≡ (as_begun x lawful s stated processor table cleared more spot fs gave e (length fs) body carry a last g other).cleared
    as_return e body carry a last (Begun.taken_up b begins) other same = same
    as_return e body carry a last (Begun.by_own b target frame cleared_at returns is early shown before begins) other same = same

    pub over : (b : SlaveBook A M Q R) (l : OpenLife x lawful s stated processor table cleared more spot fs gave b) (now : New) (stop : ℕ) (carry : List (Started Q)) (body : EpochBook M Q R) → Kept l.epoch now stop carry body →
        Chained x lawful s stated processor table cleared more spot (fs ++ gs) (gave ++ hs) stop carry (leaves x lawful s stated processor table cleared more spot (fs ++ gs) now) [] b.first
        (l.past ++ as_begun x lawful s stated processor table cleared more spot fs gave l.epoch (length fs) l.body l.carry l.left l.last l.begun body ∷ [])
    over b l now stop carry body k =
        let other = as_begun x lawful s stated processor table cleared more spot fs gave l.epoch (length fs) l.body l.carry l.left l.last l.begun body in
        let same : l.body.cleared ≡ body.cleared =
        written_cleared fs gave l.epoch (length fs) [] l.body l.written ∙ sym k.cleared_is ∙ sym (written_cleared (fs ++ gs) (gave ++ hs) now stop carry body k.written) in
        chain_join (fs ++ gs) (gave ++ hs) stop (return_of l.last.cleared) carry l.carry (leaves x lawful s stated processor table cleared more spot (fs ++ gs) now) l.left (other ∷ [])
        (over_newest l.epoch l.body l.carry l.left l.last l.begun l.timed now stop carry body k) (sym (ap return_of (as_return l.epoch l.body l.carry l.left l.last l.begun body same))) [] b.first l.past
        (chain_more x lawful s stated processor table cleared more spot fs gs gave hs k.late (return_of l.last.cleared) l.carry l.left [] b.first l.past l.inside l.before)

  -- AN EPOCH'S SESSION stays one as more frames come
  pub keeps : (fs gs : List (Frame M)) (e : Epoch x lawful s stated processor table cleared more spot fs) → e.until ≤ length fs → EraIs x s processor table spot e.era e.opened e.until (fs ++ gs) e.server e.registers e.slave
  keeps fs gs e le = (longer x lawful s stated processor table cleared more spot fs gs [] [] tt e le).is
