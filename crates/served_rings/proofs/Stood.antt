-- A LIFE IS LIVED by epochs that its master leads, with the slave as it stood where each that is over ended.
use Rattle.std.proofs.Common.{◌≡◌, ◌⊎◌, inl, inr, ℕ, suc, ◌<◌, ◌≤◌, ◌==◌, ◌&&◌, Bool, true, false, List, [], ◌∷◌, ◌++◌, length, refl, ap, sym, ◌∙◌, subst, arith, length-append}
use Rattle.std.specs.Prelude.{All, Option, Some, None, nat_lt, if◌then◌else◌}
use Rattle.std.proofs.lemmas.List.Elements.{All-cons, All-head, All-nil, All-tail}
use Rattle.run_work.specs.of_slave_node.Passing.{datagrams_after}
use Rattle.run_work.specs.of_frames_seen.Own.{own_of}
use Rattle.run_work.specs.of_frames_seen.Ring.{AllApart}
use Rattle.run_work.specs.of_frames_seen.Slaves.{registers_seen}
use Rattle.served_places.specs.of_life_model.Eras.{Clearing}
use Rattle.served_places.specs.of_life_model.Lives.{Spot, Era, Life, Opening, Stand, clears, gives_up, is_shown, last_step, new_era, new_life, opens, opens_state, reopening, reopens, reopens_at, returns_to_init, shows_clear, steps_on}
use Rattle.served_places.specs.of_life_runs.Causes.{since}
use Rattle.served_places.specs.of_link_mails.Body.{Body}
use Rattle.served_places.specs.of_link_model.Segment.{RingFate}
use Rattle.run_work.specs.of_master_side.Counts.{counts_on, kept_on}
use Rattle.served_places.specs.of_segment_model.Record.{Frame, Kept, News}
use Rattle.served_places.specs.of_segment_model.Slaves.{Found}
use Rattle.run_work.specs.of_slave_lives.Ends.{YetFrame}
use Rattle.run_work.specs.of_slave_lives.Lived.{Behind, LivesEra, RingFrame, frame_of, node_behind}
use Rattle.run_work.specs.of_slave_lives.Rings.{come_to, registers_of}
use Rattle.run_work.specs.of_slave_lives.Opening.{Plan}
use Rattle.run_work.specs.of_slave_node.Node.{Node, new_node}
use Rattle.served_places.specs.of_state_model.Accounts.{Duty, Pick, Stage}
use Rattle.run_work.specs.of_whole_ring.Turns.{FrameComes, TurnsAs, era_behind, life_by}
use Rattle.run_work.specs.of_whole_ring.Whole.{IsLivedBy, IsWhole, Leaving, Living, LivesStillBy, OpensBy, Passing, StandsBy}
use Rattle.run_work.proofs.of_whole_ring.Open.{steady_of}
use Rattle.run_work.proofs.of_whole_ring.Still.{Nothing, own_not, still_on}
use Rattle.run_work.proofs.of_whole_ring.WholeTurning.{begins_by, given_by, turns_by}
use Rattle.served_rings.specs.Lives.{AllLeds, LedKept, LedLeft, LedYet, news_as, recorded_as}
use Rattle.served_rings.specs.StoodLives.{BeginsAt, IsStoodLived, LeftOpen, StandsUp, Stood}
use Rattle.served_rings.proofs.Kept.{keeps_by, session_of}

pub longer : {X : Type 0} (xs : List X) (x : X) → length (xs ++ x ∷ []) ≡ suc (length xs)
longer xs x = let e = length-append xs (x ∷ []) in omega (arith, e)

all_front : (P : ℕ → Type 0) (xs : List ℕ) (x : ℕ) → All P (xs ++ x ∷ []) → All P xs
all_front P [] x h = All-nil P
all_front P (y ∷ xs) x h = All-cons P y xs (All-head P y (xs ++ x ∷ []) h) (all_front P xs x (All-tail P y (xs ++ x ∷ []) h))

-- A LIFE BEHIND A FRAME: the epochs that are over are those before it, or one more, whose return to Init it showed; and by no frame the slave is given up for good
data Went {M Q R : Type 0} (frame : ℕ) (l : Life M Q R) : Life M Q R → Type 0 where
  stays : (k : Life M Q R) → k.past ≡ l.past → k.era.cleared ≡ l.era.cleared → (k.stand ≡ Stand.Gone → l ≡ k) → Went frame l k
  shows : (o : Opening) → Went frame l (clears frame l o)

module _ {M Q R : Type 0} (frame : ℕ) (l : Life M Q R) where
  as_before : Went frame l l
  as_before = Went.stays l refl refl (λ gone. refl)

  went_access : (o : Opening) (shows last init there : Bool) → Went frame l (if shows then (if init then clears frame l o else l) else if last then (if there then opens frame l else l) else steps_on l o)
  went_access o true last true there = Went.shows o
  went_access o true last false there = as_before
  went_access o false true init true = Went.stays (opens frame l) refl refl (λ gone. absurd (let no : Stand.Open ≡ Stand.Gone = gone in cc))
  went_access o false true init false = as_before
  went_access o false false init there = Went.stays (steps_on l o) refl refl (λ gone. absurd (let no : Stand.Opens (record o { step = suc o.step }) ≡ Stand.Gone = gone in cc))

  -- one that goes on while the slave is open
  went_on : (k : Life M Q R) → l.stand ≡ Stand.Open → k.past ≡ l.past → k.era.cleared ≡ l.era.cleared → k.stand ≡ l.stand → Went frame l k
  went_on k open_ past cleared stand = Went.stays k past cleared (λ gone. absurd (let no : Stand.Open ≡ Stand.Gone = sym open_ ∙ sym stand ∙ gone in cc))

  went_reopens : (k : Life M Q R) → l.stand ≡ Stand.Open → k.past ≡ l.past → k.era.cleared ≡ l.era.cleared → k.stand ≡ l.stand → (hand : Option Duty) → Went frame l (reopens k hand)
  went_reopens k open_ past cleared stand None = went_on k open_ past cleared stand
  went_reopens k open_ past cleared stand (Some duty) = at duty.stage
    where
      returns : (b : Bool) → Went frame l (if b then record k { stand = reopening (opens_state duty.target) true } else k)
      returns true = Went.stays (record k { stand = reopening (opens_state duty.target) true }) past cleared (λ gone. absurd (let no : reopening (opens_state duty.target) true ≡ Stand.Gone = gone in cc))
      returns false = went_on k open_ past cleared stand

      at : (stage : Stage) → Went frame l (reopens_at k duty.target stage)
      at Stage.Drains = went_on k open_ past cleared stand
      at (Stage.Goes phase) = returns (returns_to_init duty.target)

module _ {S V A Q R : Type 0} (w : Behind S V A Q R) (more : Body → Bool) (passed : Q → Bool) (spot : Spot) (fs : List (Frame Body)) (t : RingFrame S) (pick : Pick Q) (news : List (News Body)) (l : Life Body Q R) where
  abbrev on : RingFate → Life Body Q R
  on fate = record l { era = era_behind w more passed spot fs t pick news fate l.era }

  went_open : l.stand ≡ Stand.Open → Went (length fs) l (reopens (on RingFate.Back) (on RingFate.Back).era.account.hand)
  went_open is = went_reopens (length fs) l (on RingFate.Back) is refl refl refl (on RingFate.Back).era.account.hand

  went : (came : Option (Bool × Option Found)) (fate : RingFate) (stand : Stand) → l.stand ≡ stand → Went (length fs) l (life_by w more passed spot fs t pick news came fate l stand)
  went None RingFate.Back (Stand.Opens o) is = as_before (length fs) l
  went (Some came) RingFate.Back (Stand.Opens o) is = went_access (length fs) l o (shows_clear o) (o.step == last_step o) (came.0 && is_shown 1 came.1) (came.0 && is_shown o.state came.1)
  went None RingFate.Back Stand.Open is = went_open is
  went (Some came) RingFate.Back Stand.Open is = went_open is
  went None RingFate.Back Stand.Gone is = as_before (length fs) l
  went (Some came) RingFate.Back Stand.Gone is = as_before (length fs) l
  went came (RingFate.Lost after) (Stand.Opens o) is = as_before (length fs) l
  went came (RingFate.Lost after) Stand.Open is = went_on (length fs) l (on (RingFate.Lost after)) is refl refl refl
  went came (RingFate.Lost after) Stand.Gone is = as_before (length fs) l

-- A SLAVE THAT IS REOPENED was given up since its epoch began, or a state service in hand returns it
abbrev pub Reopens : {Q R : Type 0} → Life Body Q R → Type 0
Reopens l = (o : Opening) → l.stand ≡ Stand.Opens o → o.again ≡ true → (o.step ≡ 1) ⊎ (o.step ≡ 2) → LeftOpen l.gave l.era → ⊥

module _ {S V A Q R : Type 0} (w : Behind S V A Q R) (c : Clearing V A) (p : Plan) (spot : Spot) (whole : IsWhole w c p spot) (more : Body → Bool) (passed : Q → Bool) (stood : ℕ → Node S → Type 0) where
  abbrev Kepts : Kept → Bool → Living S A Q R
  Kepts kept counts = λ a e gs m. LedKept w more passed spot kept counts a e gs m

  abbrev Yet : Living S A Q R
  Yet = λ a e gs m. LedYet w more passed spot a e gs m

  abbrev Left : Leaving S A Q R
  Left = λ a e gs s. LedLeft w more passed spot a e s

  abbrev Past : A → List (Era Body Q R) → A → Option ℕ → Type 0
  Past a es b cleared = Stood w more passed spot stood c.cleared a es b cleared

  abbrev Lived : Kept → Bool → A → Life Body Q R → List (Frame Body) → Node S → Type 0
  Lived kept counts first l fs n = IsStoodLived w more passed spot stood c.cleared p kept counts first l fs n

  abbrev Still : A → Era Body Q R → List (Frame Body) → Node S → Type 0
  Still from e fs n = LivesStillBy w from e Yet fs n

  abbrev Up : A → Life Body Q R → List (Frame Body) → Node S → Stand → Type 0
  Up from l fs n stand = StandsUp w more passed spot stood c.cleared from l fs n stand

  -- one that is given up for good stays up by a frame that has nothing for it
  up_on : (from : A) (l : Life Body Q R) (fs : List (Frame Body)) (t : RingFrame S) → FrameComes w p spot Stand.Gone t → (Yet from l.era fs t.node → LivesEra w spot from l.era fs t.node) →
      (Yet from l.era fs t.node → YetFrame w spot from l.era fs t → Yet from l.era (fs ++ frame_of w.lens t ∷ []) (node_behind w.running t)) → Up from l fs t.node Stand.Gone → Up from l (fs ++ frame_of w.lens t ∷ []) (node_behind w.running t) Stand.Gone
  up_on from l fs t f session yet (before, last, gave, inr never) = (before, last, gave, inr never)
  up_on from l fs t f session yet (before, last, gave, inl still) = (before, last, gave, inl (still_on w whole.behind spot from l.era fs t Yet session yet nothing still))
    where
      nothing : Nothing w spot t
      nothing = record {
        at = f.at;
        own = ap (λ (a : ℕ). own_of a t.datagrams) (sym whole.station) ∙ own_not p spot.place 0 t.datagrams f.sent;
        none = f.meets;
        apart = λ reached. subst (λ (a : ℕ). AllApart a (registers_of t.before) t.datagrams) whole.station (f.apart reached);
        last = λ reached. subst (λ (a : ℕ). AllApart a (registers_of t.behind) (datagrams_after t.node.registers (come_to t.before t.datagrams))) whole.station (f.last reached);
        roomy = f.roomy;
      }

  -- the epochs that are over behind a frame: as many as before it, or the newest besides, or more than that
  data Grown (e : Era Body Q R) (many : ℕ) (a to : A) : List (Era Body Q R) → A → Type 0 where
    same : (es : List (Era Body Q R)) (b : A) → length es ≡ many → (b ≡ to) × Past a es b e.cleared → Grown e many a to es b
    closed : (es : List (Era Body Q R)) (b : A) (at : Option ℕ) (state : ℕ) → length es ≡ many → Past a es b e.cleared → e ≡ new_era at state → Grown e many a to (es ++ e ∷ []) (c.cleared b)
    opened : (es : List (Era Body Q R)) (b : A) (s : S) → length es ≡ many → Past a es b e.cleared → (left : LedLeft w more passed spot b e s) →
        Grown e many a to (es ++ e ∷ []) (w.exchange.app (w.sees (registers_seen left.node.registers).state (w.running.clear s)).server)
    far : (es : List (Era Body Q R)) (b : A) → suc many < length es → Grown e many a to es b

  module _ (e : Era Body Q R) (many : ℕ) (a to : A) where
    farther : (es : List (Era Body Q R)) (b : A) → suc many ≤ length es → Grown e many a to (es ++ e ∷ []) b
    farther es b least = Grown.far (es ++ e ∷ []) b (let k = longer es e in omega (arith, k, least))

    more_than : (es : List (Era Body Q R)) → length es ≡ many → suc many ≤ length (es ++ e ∷ [])
    more_than es is = let k = longer es e in omega (arith, k, is)

    closes : (es : List (Era Body Q R)) (b : A) → Grown e many a to es b → (at : Option ℕ) (state : ℕ) → e ≡ new_era at state → Grown e many a to (es ++ e ∷ []) (c.cleared b)
    closes _ _ (Grown.same es b is past) at state new = Grown.closed es b at state is past.1 new
    closes _ _ (Grown.closed es b was old is past k) at state new = farther (es ++ e ∷ []) _ (more_than es is)
    closes _ _ (Grown.opened es b s is past left) at state new = farther (es ++ e ∷ []) _ (more_than es is)
    closes _ _ (Grown.far es b least) at state new = farther es _ (omega (arith, least))

    leaves : (es : List (Era Body Q R)) (b : A) → Grown e many a to es b → (s : S) → LedLeft w more passed spot b e s → (al : ℕ) × Grown e many a to (es ++ e ∷ []) (w.exchange.app (w.sees al (w.running.clear s)).server)
    leaves _ _ (Grown.same es b is past) s left = ((registers_seen left.node.registers).state, Grown.opened es b s is past.1 left)
    leaves _ _ (Grown.closed es b was old is past k) s left = (0, farther (es ++ e ∷ []) _ (more_than es is))
    leaves _ _ (Grown.opened es b z is past k) s left = (0, farther (es ++ e ∷ []) _ (more_than es is))
    leaves _ _ (Grown.far es b least) s left = (0, farther es _ (omega (arith, least)))

    as_many : (es : List (Era Body Q R)) (b : A) → Grown e many a to es b → length es ≡ many → (b ≡ to) × Past a es b e.cleared
    as_many _ _ (Grown.same es b is past) at = past
    as_many _ _ (Grown.closed es b was old is past k) at = absurd (let l = longer es e in omega (arith, l, is, at))
    as_many _ _ (Grown.opened es b z is past k) at = absurd (let l = longer es e in omega (arith, l, is, at))
    as_many _ _ (Grown.far es b least) at = absurd (omega (arith, least, at))

    one_more : (es : List (Era Body Q R)) (b : A) → Grown e many a to es b → length es ≡ suc many → (cleared : Option ℕ) → BeginsAt w stood b cleared → Past a es b cleared
    one_more _ _ (Grown.same es b is past) at cleared begins = absurd (omega (arith, is, at))
    one_more _ _ (Grown.closed es b was old is past k) at cleared begins = (AllLeds.closed a es b e was old past.0 k, (past.1, begins))
    one_more _ _ (Grown.opened es b s is past left) at cleared begins = (AllLeds.opened a es b e s past.0 left, (past.1, begins))
    one_more _ _ (Grown.far es b least) at cleared begins = absurd (omega (arith, least, at))

  -- behind the frame that showed the return to Init the newest epoch begins with what the slave has
  begun : (from : A) (e : Era Body Q R) (gs : List (Frame Body)) (o : Opening) (n : Node S) (frame : ℕ) → stood frame n → OpensBy w Yet Left p spot from e gs (record o { step = 3 }) n → BeginsAt w stood from (Some frame)
  begun from e gs o n frame here (OpensBy.yet again step plan still) = absurd (let no : 3 ≡ 1 = step in cc)
  begun from e gs o n frame here (OpensBy.anew closing x start) = record { frame = frame; shown = refl; node = n; stands = here; al = x.al; begins = x.begins }
  begun from e gs o n frame here (OpensBy.over closing again early x) = absurd (elim early [
    | inl one ↦ (let no : 3 ≡ 1 = one in cc)
    | inr two ↦ (let no : 3 ≡ 2 = two in cc)
  ])

  settled : (first : A) (l : Life Body Q R) (to : A) (frame : ℕ) (gs : List (Frame Body)) (n : Node S) (kept : Kept) (counts : Bool) → stood frame n → (l.stand ≡ Stand.Gone → Up to l gs n Stand.Gone) → (k : Life Body Q R) → Went frame l k →
      IsLivedBy w (Kepts kept counts) Yet Left (λ hs a es b. Grown l.era (length l.past) a to es b) p spot first k gs n → Lived kept counts first k gs n
  settled first l to frame gs n kept counts here up _ (Went.stays k past cleared back) x =
      let same = as_many l.era (length l.past) first to k.past x.from x.past (ap length past) in (
        record { from = x.from; past = subst (λ (at : Option ℕ). Past first k.past x.from at) (sym cleared) same.1; now = x.now; runs = x.runs; boot = x.boot },
        stands k.stand refl same.0,
      )
    where
      stands : (stand : Stand) → k.stand ≡ stand → x.from ≡ to → Up x.from k gs n stand
      stands (Stand.Opens o) is from = tt
      stands Stand.Open is from = tt
      stands Stand.Gone is from =
          subst (λ (a : A). Up a k gs n Stand.Gone) (sym from) (subst (λ (z : Life Body Q R). Up to z gs n Stand.Gone) (back is) (up (ap (λ (z : Life Body Q R). z.stand) (back is) ∙ is)))
  settled first l to frame gs n kept counts here up _ (Went.shows o) x = (
    record {
      from = x.from;
      past = one_more l.era (length l.past) first to (l.past ++ l.era ∷ []) x.from x.past (longer l.past l.era) (Some frame) (begun x.from (new_era (Some frame) o.state) gs o n frame here x.now);
      now = x.now;
      runs = x.runs;
      boot = x.boot;
    },
    tt,
  )

  -- from the moment the slave is switched on
  pub begins : (al : ℕ) (s : S) (kept : Kept) (counts : Bool) → w.running.clear s ≡ s → w.running.next s ≡ None → Lived kept counts (w.exchange.app (w.sees al s).server) (new_life {M = Body} {Q = Q} {R = R} spot.start) [] (new_node p.out p.back w.boot s)
  begins al s kept counts clear none = (begins_by w c p spot whole (Kepts kept counts) Yet Left (λ gs a es b. Past a es b None) (λ a. (AllLeds.none a, tt)) al s clear none, tt)

  -- by a frame, behind which the slave's node stands
  pub turns : (first : A) (l : Life Body Q R) (fs : List (Frame Body)) (t : RingFrame S) (pick : Pick Q) (came : Option (Bool × Option Found)) (kept : Kept) (counts : Bool) → stood (length fs) (node_behind w.running t) → Lived kept counts first l fs t.node →
      FrameComes w p spot l.stand t → TurnsAs w more passed p spot fs t pick (news_as w.lens spot.station kept counts t (frame_of w.lens t).fate) came l.era l.stand →
      Lived (kept_on l.stand spot.station kept (recorded_as w.lens t (frame_of w.lens t).fate)) (counts_on l.stand spot.station t.pace t.ring.number (recorded_as w.lens t (frame_of w.lens t).fate).back counts) first
      (life_by w more passed spot fs t pick (news_as w.lens spot.station kept counts t (frame_of w.lens t).fate) came (frame_of w.lens t).fate l l.stand) (fs ++ frame_of w.lens t ∷ []) (node_behind w.running t)
  turns first l fs t pick came kept counts here i f a =
      let news = news_as w.lens spot.station kept counts t (frame_of w.lens t).fate in
      let next = kept_on l.stand spot.station kept (recorded_as w.lens t (frame_of w.lens t).fate) in
      let reads = counts_on l.stand spot.station t.pace t.ring.number (recorded_as w.lens t (frame_of w.lens t).fate).back counts in
      let from = i.0.from in
      let grown : Passing A Q R = λ hs b es d. Grown l.era (length l.past) b from es d in
      let before : IsLivedBy w (Kepts kept counts) Yet Left grown p spot first l fs t.node = record { from = from; past = Grown.same l.past from refl (refl, i.0.past); now = i.0.now; runs = i.0.runs; boot = i.0.boot } in
      let keeps = keeps_by w c p spot whole more passed kept counts l.stand l.era fs t pick grown (λ b es d g. g) (λ b es d g at state new. closes l.era (length l.past) b from es d g at state new) (λ b es d s g left. leaves l.era (length l.past) b from es d g s left) in
      let up : l.stand ≡ Stand.Gone → Up from l (fs ++ frame_of w.lens t ∷ []) (node_behind w.running t) Stand.Gone =
      λ gone. up_on from l fs t (subst (λ (st : Stand). FrameComes w p spot st t) gone f) (keeps.still from) (keeps.yet from) (subst (λ (st : Stand). Up from l fs t.node st) gone i.1) in
      settled first l from (length fs) (fs ++ frame_of w.lens t ∷ []) (node_behind w.running t) next reads here up (life_by w more passed spot fs t pick news came (frame_of w.lens t).fate l l.stand) (went w more passed spot fs t pick news l came (frame_of w.lens t).fate l.stand refl)
      (turns_by w c p spot whole first l fs t more passed pick news came (Kepts kept counts) (Kepts next reads) Yet Left grown keeps before f a)

  -- where it is given up: the counters of an open slave are none then
  pub gives : (first : A) (l : Life Body Q R) (fs : List (Frame Body)) (n : Node S) (recover frame : ℕ) (kept : Kept) (counts : Bool) (next : Kept) (reads : Bool) → Reopens l → Lived kept counts first l fs n → Lived next reads first (gives_up recover spot frame l) fs n
  gives first l fs n recover frame kept counts next reads again i =
      let from = i.0.from in
      let before : IsLivedBy w (Kepts kept counts) Yet Left (λ gs a es b. (b ≡ from) × Past a es b l.era.cleared) p spot first l fs n = record { from = from; past = (refl, i.0.past); now = i.0.now; runs = i.0.runs; boot = i.0.boot } in
      let j = given_by w c p spot whole (Kepts kept counts) (Kepts next reads) Yet Left (λ gs a es b. (b ≡ from) × Past a es b l.era.cleared) first l fs n recover frame
      (λ a x. session_of w c p spot whole more passed a x.led l.era fs n x.era) (λ a x. record { led = x.led; era = x.era }) before in (
        record { from = j.from; past = j.past.1; now = j.now; runs = j.runs; boot = j.boot },
        subst (λ (a : A). Up a (gives_up recover spot frame l) fs n (gives_up recover spot frame l).stand) (sym j.past.0) (stands (nat_lt (length l.gave) recover)),
      )
    where
      opens_up : (o : Opening) → l.stand ≡ Stand.Opens o → OpensBy w Yet Left p spot i.0.from l.era fs o n → Still i.0.from l.era fs n ⊎ (LeftOpen l.gave l.era → ⊥)
      opens_up o is (OpensBy.yet reopened step plan still) = inl still
      opens_up o is (OpensBy.anew closing x start) = inr (λ left. (let no : None ≡ Some left.opened = sym (ap (λ (e : Era Body Q R). e.opened) x.is_new) ∙ left.opened_at in cc))
      opens_up o is (OpensBy.over closing reopened early x) = inr (λ left. again o is reopened early left)

      up : (stand : Stand) → l.stand ≡ stand → StandsBy w (Kepts kept counts) Yet Left p spot i.0.from l.era fs stand n → Up i.0.from l fs n stand → Still i.0.from l.era fs n ⊎ (LeftOpen l.gave l.era → ⊥)
      up (Stand.Opens o) is now at = opens_up o is now
      up Stand.Open is now at =
          let x = now.lives.epoch in
          inl (record {
            lives = record { epoch = record { led = x.led; era = x.era }; answered = now.lives.answered };
            steady = steady_of w c p spot whole i.0.from l.era fs n (session_of w c p spot whole more passed i.0.from x.led l.era fs n x.era) now.over now.hand;
          })
      up Stand.Gone is now (before, last, gave, inl still) = inl still
      up Stand.Gone is now (before, last, gave, inr never) = inr (λ left. never (record {
        opened = left.opened;
        opened_at = left.opened_at;
        quiet = all_front (λ g. g < since l.era.cleared) before last (subst (λ gs. All (λ g. g < since l.era.cleared) gs) gave left.quiet);
        stays = left.stays;
      }))

      stands : (b : Bool) → Up i.0.from (gives_up recover spot frame l) fs n (if b then reopening spot.start false else Stand.Gone)
      stands true = tt
      stands false = (l.gave, frame, refl, up l.stand refl i.0.now i.1)
