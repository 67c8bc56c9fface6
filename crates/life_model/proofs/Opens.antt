-- A life whose newest epoch is open: what stands in its book.
use Rattle.std.proofs.Common.{◌≡◌, ℕ, ◌≤◌, ◌&&◌, ◌||◌, Bool, true, false, not, Some, None, List, [], ◌∷◌, ◌++◌, length, refl, ap, sym, ◌∙◌, subst, append-nil}
use Rattle.std.specs.Prelude.{nat_le}
use Rattle.std.proofs.lemmas.Bool.{le-leb}
use Rattle.state_model.specs.of_exchange_model.Exchange.{Exchange, IsLawful}
use Rattle.state_model.specs.of_segment_model.Slaves.{Processor}
use Rattle.state_model.specs.of_segment_model.Record.{Frame}
use Rattle.state_model.specs.States.{Table}
use Rattle.state_model.specs.Stated.{Stated, IsStated, Service}
use Rattle.state_model.specs.Accounts.{Started}
use Rattle.state_model.specs.Promise.{TasksRestIf, services_in}
use Rattle.state_model.proofs.Sessions.{tasks_rest}
use Rattle.life_model.specs.Lives.{Spot, returns_to_init}
use Rattle.life_model.specs.Eras.{frames_of}
use Rattle.life_model.specs.Book.{Line, EpochBook, SlaveBook, epoch_book, done_rows, NoInits, NoneInDoubt, IsForgetful, EpochFits, EpochRests, FitsFrom, RestsIn, RestFrom, EachDone, all_acted, done_of, done_all, all_emits, any_from, last_row, quiet_since, says_state, begins_with}
use Rattle.life_model.proofs.Eras.{session_of, of_one}
use Rattle.life_model.proofs.Rests.{epoch_rests}
use Rattle.life_model.specs.Answers.{AllAnswers, return_of}
use Rattle.life_model.specs.Chain.{Same, KeepsSame, own_line, with_own, doubt_line, with_doubt, Epoch, open_era, booked, leaves, Timed, Written, Chained}
use Rattle.life_model.specs.Open.{Begun, OpenLife, WantsNoMore, AllDrained, IsShut}
use Rattle.life_model.proofs.Answered.{promised, all_answers}
use Rattle.life_model.proofs.Stood.{state_is}
use Rattle.life_model.proofs.Walks.{Does, does, Walk, walk, start_is, own_start, own_from, own_fits, own_app, own_whole}

module _ {V A M Q R : Type 0} (x : Exchange V A M Q R) (lawful : IsLawful x) (s : Stated V A Q) (stated : IsStated x s) (processor : Processor V) (table : ℕ → Table) (cleared : A → A) (more : M → Bool) (spot : Spot) (fs : List (Frame M))
    (gave : List ℕ) (b : SlaveBook A M Q R) where
  abbrev one : A → Q → ℕ
  one a q = 1

  abbrev law : Table
  law = table spot.station

  abbrev Opened : Type 0
  Opened = Epoch x lawful s stated processor table cleared more spot fs

  abbrev book : Opened → EpochBook M Q R
  book e = booked x lawful s stated processor table cleared more spot fs e

  abbrev acts_all : A → List (Line Q R) → A
  acts_all a ls = all_acted x s law cleared one a ls

  abbrev dones : EpochBook M Q R → Bool → A → List (Line Q R)
  dones e follows a = done_of x s law cleared one b e follows a

  -- WHAT IS SAID OF THE AL STATE of a book whose epochs end with this one
  says_last : (past : List (EpochBook M Q R)) (last : EpochBook M Q R) → says_state x s law cleared one gave (past ++ last ∷ []) ≡ says_state x s law cleared one gave (last ∷ [])
  says_last [] last = refl
  says_last (e ∷ []) last = refl
  says_last (e ∷ (f ∷ past)) last = says_last (f ∷ past) last

  doubt_last : (ls : List (Line Q R)) (target frame : ℕ) → returns_to_init target ≡ true → last_row x s law cleared one (ls ++ doubt_line target frame ∷ []) ≡ true
  doubt_last [] target frame returns = returns
  doubt_last (l ∷ []) target frame returns = returns
  doubt_last (l ∷ (k ∷ ls)) target frame returns = doubt_last (k ∷ ls) target frame returns

  any_among : (opened g : ℕ) (before behind : List ℕ) → opened ≤ g → any_from x s law cleared one opened (before ++ g ∷ behind) ≡ true
  any_among opened g [] behind le = ap (λ t. t || any_from x s law cleared one opened behind) (le-leb opened g le)
  any_among opened g (k ∷ before) behind le = ap (λ t. nat_le opened k || t) (any_among opened g before behind le) ∙ either (nat_le opened k)
    where
      either : (t : Bool) → (t || true) ≡ true
      either true = refl
      either false = refl

  and_false : (t : Bool) → (t && false) ≡ false
  and_false true = refl
  and_false false = refl

  -- nothing of one that isn't open
  pub shut_says : (past : List (EpochBook M Q R)) (last : EpochBook M Q R) → IsShut gave last → says_state x s law cleared one gave (past ++ last ∷ []) ≡ false
  shut_says past last (IsShut.unopened none) =
      says_last past last ∙ ap (λ o. not (last_row x s law cleared one last.lines) && quiet_since x s law cleared one gave o) none ∙ and_false (not (last_row x s law cleared one last.lines))
  shut_says past last (IsShut.given_up opened g before behind is among le) =
      says_last past last ∙ ap (λ o. not (last_row x s law cleared one last.lines) && quiet_since x s law cleared one gave o) is
      ∙ ap (λ t. not (last_row x s law cleared one last.lines) && not t) (ap (any_from x s law cleared one opened) among ∙ any_among opened g before behind le) ∙ and_false (not (last_row x s law cleared one last.lines))
  shut_says past last (IsShut.in_doubt target frame before returns is) =
      says_last past last ∙ ap (λ t. not t && quiet_since x s law cleared one gave last.opened) (ap (last_row x s law cleared one) is ∙ doubt_last before target frame returns)

  -- THE ANSWERS
  pub open_answers : (pace : ℕ) → OpenLife x lawful s stated processor table cleared more spot fs gave b → AllAnswers x.speech more spot pace gave fs (length fs) b.epochs
  open_answers pace l = subst (AllAnswers x.speech more spot pace gave fs (length fs)) (sym l.epochs)
      (all_answers x lawful s stated processor table cleared more spot fs gave pace (length fs) l.carry l.left (l.last ∷ []) [] b.first l.past l.before (newest l.epoch l.body l.carry l.left l.last l.begun l.timed l.written))
    where
      newest : (e : Opened) (body : EpochBook M Q R) (carry : List (Started Q)) (a : A) (last : EpochBook M Q R) → Begun x lawful s stated processor table cleared more spot fs gave e (length fs) body carry a last →
          Timed x lawful s stated processor table cleared more spot fs gave e (length fs) → Written x lawful s stated processor table cleared more spot fs gave e (length fs) [] body → AllAnswers x.speech more spot pace gave fs (length fs) (last ∷ [])
      newest e body carry a last (Begun.taken_up a2 begins) t w = one_life [] a2 (body ∷ []) (Chained.taken_up a2 e [] body [] begins t w Chained.none)
        where
          one_life : (carry : List (Started Q)) (a : A) (es : List (EpochBook M Q R)) → Chained x lawful s stated processor table cleared more spot fs gave (length fs) [] (leaves x lawful s stated processor table cleared more spot fs e) carry a es → AllAnswers x.speech more spot pace gave fs (length fs) es
          one_life carry a es l = subst (AllAnswers x.speech more spot pace gave fs (length fs)) (append-nil es) (all_answers x lawful s stated processor table cleared more spot fs gave pace (length fs) [] _ [] carry a es l tt)
      newest e body carry a last (Begun.by_own a2 target frame cleared_at returns is early shown before begins) t w =
          subst (AllAnswers x.speech more spot pace gave fs (length fs)) (append-nil (with_own target frame body ∷ []))
          (all_answers x lawful s stated processor table cleared more spot fs gave pace (length fs) [] (leaves x lawful s stated processor table cleared more spot fs e) [] _ a2 (with_own target frame body ∷ [])
          (Chained.own_opened a2 e target frame cleared_at [] body [] returns is early shown before begins t w Chained.none) tt)

  module _ (forgets : IsForgetful s) (keeps : KeepsSame s cleared) (start : b.start ≡ spot.start) where
    abbrev Told : Opened → EpochBook M Q R → Type 0
    Told e body = Does x lawful s stated processor table cleared more spot fs gave forgets keeps b e body

    -- THE NEWEST EPOCH behind what a book has of the ones before
    record Newest (e : Opened) (to : A) (last : EpochBook M Q R) : Type 0 where
      from : A
      is : begins_with x s law cleared one b.start last to ≡ from
      fits : EpochFits x s law cleared one from last (dones last false from)
      app : (k : ℕ) → s.told k (acts_all from (dones last false from)) ≡ s.told k (leaves x lawful s stated processor table cleared more spot fs e)

    newest : (e : Opened) (body : EpochBook M Q R) (carry : List (Started Q)) (a to : A) (last : EpochBook M Q R) → Same s to a → Begun x lawful s stated processor table cleared more spot fs gave e (length fs) body carry a last → Told e body → Newest e to last
    newest e body carry a to last same (Begun.taken_up a2 begins) d = record {
      from = x.app e.server;
      is = start_is x lawful s stated processor table cleared more spot fs gave forgets keeps b e body d start a2 to same begins;
      fits = d.fits false;
      app = d.app false;
    }
    newest e body carry a to last same (Begun.by_own a2 target frame cleared_at returns is early shown before begins) d =
        let from = own_from x lawful s stated processor table cleared more spot fs gave forgets keeps b e target returns a2 to same begins in
        record {
          from = cleared to;
          is = own_start x lawful s stated processor table cleared more spot fs gave forgets keeps b e body d target frame cleared_at returns is early to;
          fits = own_fits x lawful s stated processor table cleared more spot fs gave forgets keeps b e body d target frame returns false (cleared to) from;
          app = λ k. ap (s.told k) (own_app x lawful s stated processor table cleared more spot fs gave forgets keeps b e body d target frame false (cleared to) from) ∙ d.app false k;
        }

    module _ (l : OpenLife x lawful s stated processor table cleared more spot fs gave b) where
      d_of : Told l.epoch l.body
      d_of = does x lawful s stated processor table cleared more spot fs gave forgets keeps b l.epoch (length fs) [] l.body l.timed l.written

      walked : Walk x lawful s stated processor table cleared more spot fs gave forgets keeps b (AllDrained x lawful s stated processor table cleared more spot fs gave (return_of l.last.cleared) l.carry l.left [] b.first l.past l.before) b.first l.past (l.last ∷ []) l.left
      walked = walk x lawful s stated processor table cleared more spot fs gave forgets keeps b start (return_of l.last.cleared) l.carry l.left (l.last ∷ []) [] b.first l.past b.first (λ k. refl) l.before

      last_of : Newest l.epoch walked.to l.last
      last_of = newest l.epoch l.body l.carry l.left walked.to l.last walked.same l.begun d_of

      pub open_epochs : s.told b.state b.app ≡ s.told b.state (leaves x lawful s stated processor table cleared more spot fs l.epoch) → FitsFrom x s law cleared one b b.first b.epochs
      open_epochs has =
          let n = last_of in
          subst (FitsFrom x s law cleared one b b.first) (sym l.epochs)
          (walked.fits (subst (λ v. EpochFits x s law cleared one v l.last (dones l.last false v) × (s.told b.state b.app ≡ s.told b.state (acts_all v (dones l.last false v)))) (sym n.is) (n.fits, has ∙ sym (n.app b.state))))

      -- THE AL STATE of what is done
      whole_state : (e : Opened) → e.tail ≡ [] → b.state ≡ e.slave.registers.state → s.state (acts_all (x.app e.server) (dones (book e) false (x.app e.server))) ≡ b.state
      whole_state e none at =
          let w = open_era x lawful s stated processor table cleared more spot fs e in
          let p = promised x lawful s stated processor table cleared more spot fs e in
          let all : e.era.account.started ≡ e.rows = e.all ∙ ap (λ t. e.rows ++ t) none ∙ append-nil e.rows in
          subst (λ rs. s.state (acts_all (x.app e.server) (done_rows w cleared more rs false b.state)) ≡ b.state) all
          (state_is w cleared more (subst (λ rs. NoInits (services_in rs)) (sym all) e.quiet) p b.state at)

      begun_state : (e : Opened) (body : EpochBook M Q R) (carry : List (Started Q)) (a to : A) (last : EpochBook M Q R) → Same s to a → Begun x lawful s stated processor table cleared more spot fs gave e (length fs) body carry a last → Told e body →
          s.state (acts_all (x.app e.server) (dones body false (x.app e.server))) ≡ b.state → s.state (let from = begins_with x s law cleared one b.start last to in acts_all from (dones last false from)) ≡ b.state
      begun_state e body carry a to last same (Begun.taken_up a2 begins) d known =
          ap (λ v. s.state (acts_all v (dones body false v))) (start_is x lawful s stated processor table cleared more spot fs gave forgets keeps b e body d start a2 to same begins) ∙ known
      begun_state e body carry a to last same (Begun.by_own a2 target frame cleared_at returns is early shown before begins) d known =
          let from = own_from x lawful s stated processor table cleared more spot fs gave forgets keeps b e target returns a2 to same begins in
          ap (λ v. s.state (acts_all v (dones (with_own target frame body) false v))) (own_start x lawful s stated processor table cleared more spot fs gave forgets keeps b e body d target frame cleared_at returns is early to)
          ∙ ap s.state (own_app x lawful s stated processor table cleared more spot fs gave forgets keeps b e body d target frame false (cleared to) from) ∙ known

      -- with a row in doubt behind them
      doubt_shut : (e : Opened) (body : EpochBook M Q R) (carry : List (Started Q)) (a : A) (last : EpochBook M Q R) (target frame : ℕ) → Begun x lawful s stated processor table cleared more spot fs gave e (length fs) body carry a last →
          returns_to_init target ≡ true → body ≡ with_doubt target frame (book e) → IsShut gave last
      doubt_shut e body carry a last target frame (Begun.taken_up a2 begins) returns is = IsShut.in_doubt target frame (book e).lines returns (ap (λ (k : EpochBook M Q R). k.lines) is)
      doubt_shut e body carry a last target frame (Begun.by_own a2 own_target own_frame cleared_at own_returns cleared_is early shown before begins) returns is =
          IsShut.in_doubt target frame (own_line own_target own_frame body.opened ∷ (book e).lines) returns (ap (λ (k : EpochBook M Q R). own_line own_target own_frame body.opened ∷ k.lines) is)

      pub open_state : b.state ≡ l.epoch.slave.registers.state → says_state x s law cleared one gave b.epochs ≡ true → b.state ≡ s.state (done_all x s law cleared one b b.first b.epochs)
      open_state at says = go l.body refl l.written
        where
          at_last : says_state x s law cleared one gave (l.past ++ l.last ∷ []) ≡ true
          at_last = sym (ap (says_state x s law cleared one gave) l.epochs) ∙ says

          go : (body : EpochBook M Q R) → l.body ≡ body → Written x lawful s stated processor table cleared more spot fs gave l.epoch (length fs) [] body → b.state ≡ s.state (done_all x s law cleared one b b.first b.epochs)
          go body is (Written.whole none) =
              sym (ap (λ es. s.state (done_all x s law cleared one b b.first es)) l.epochs ∙ ap s.state walked.done
              ∙ begun_state l.epoch l.body l.carry l.left walked.to l.last walked.same l.begun d_of
              (ap (λ (k : EpochBook M Q R). s.state (acts_all (x.app l.epoch.server) (dones k false (x.app l.epoch.server)))) is ∙ whole_state l.epoch none at))
          go body is (Written.doubted target frame tail returns quiet) =
              absurd (let clash : false ≡ true = sym (shut_says l.past l.last (doubt_shut l.epoch l.body l.carry l.left l.last target frame l.begun returns is)) ∙ at_last in cc)

      -- NOTHING LEFT
      record Rested (e : Opened) (body : EpochBook M Q R) : Type 0 where
        all : dones body false (x.app e.server) ≡ body.lines
        emissions : body.received ≡ all_emits x s law cleared one (x.app e.server) body.lines
        ended : NoneInDoubt x s law cleared one body.lines

      rested : (e : Opened) → e.tail ≡ [] → Rattle.state_model.specs.of_segment_model.Laws.IsSettled e.slave → Rattle.state_model.specs.of_segment_model.Laws.WantsNothing x.speech e.era.side → e.era.account.hand ≡ None → Rested e (book e)
      rested e none settled wants hand =
          let w = open_era x lawful s stated processor table cleared more spot fs e in
          let q = session_of w in
          let rests = of_one w (λ station begun d a n. TasksRestIf w.exchange w.states (w.table station) more (frames_of w) station begun d a n)
          (tasks_rest q.exchange q.lawful q.states q.stated q.processor q.table more q.planned.tells q.plan q.planned q.sides q.accounts q.ring q.frames q.tasked) settled wants hand in
          let all : e.era.account.started ≡ e.rows = e.all ∙ ap (λ t. e.rows ++ t) none ∙ append-nil e.rows in
          let r : EpochRests w cleared (epoch_book w more e.rows) (done_rows w cleared more e.rows false b.state) =
          subst (λ rs. EpochRests w cleared (epoch_book w more rs) (done_rows w cleared more rs false b.state)) all (epoch_rests w cleared more (subst (λ rs. NoInits (services_in rs)) (sym all) e.quiet) rests false b.state) in
          record { all = r.all; emissions = r.emissions; ended = r.ended }

      begun_rests : (e : Opened) (body : EpochBook M Q R) (carry : List (Started Q)) (a to : A) (last : EpochBook M Q R) → Same s to a → Begun x lawful s stated processor table cleared more spot fs gave e (length fs) body carry a last → Told e body →
          Rested e body → RestsIn x s law cleared one b (begins_with x s law cleared one b.start last to) last
      begun_rests e body carry a to last same (Begun.taken_up a2 begins) d r =
          subst (λ v. RestsIn x s law cleared one b v body) (sym (start_is x lawful s stated processor table cleared more spot fs gave forgets keeps b e body d start a2 to same begins))
          (record { opened = λ none. absurd (let clash : Some e.opened ≡ None = sym d.opened ∙ none in cc); all = r.all; emissions = r.emissions; ended = r.ended })
      begun_rests e body carry a to last same (Begun.by_own a2 target frame cleared_at returns is early shown before begins) d r =
          let from = own_from x lawful s stated processor table cleared more spot fs gave forgets keeps b e target returns a2 to same begins in
          let whole = own_whole x lawful s stated processor table cleared more spot fs gave forgets keeps b e body d target frame false (cleared to) from (r.all, r.ended) in
          subst (λ v. RestsIn x s law cleared one b v (with_own target frame body)) (sym (own_start x lawful s stated processor table cleared more spot fs gave forgets keeps b e body d target frame cleared_at returns is early to))
          (record {
            opened = λ none. absurd (let clash : Some e.opened ≡ None = sym d.opened ∙ none in cc);
            all = whole.0;
            emissions = r.emissions ∙ ap (λ v. all_emits x s law cleared one v body.lines) (sym from);
            ended = whole.1;
          })

      last_rested : WantsNoMore x lawful s stated processor table cleared more spot fs gave b l → Rested l.epoch l.body
      last_rested idle = go l.body l.written
        where
          go : (body : EpochBook M Q R) → Written x lawful s stated processor table cleared more spot fs gave l.epoch (length fs) [] body → Rested l.epoch body
          go body (Written.whole none) = rested l.epoch none idle.settled idle.wants idle.hand
          go body (Written.doubted target frame tail returns quiet) = absurd (let clash : [] ≡ record { service = Service.State target; frame = frame } ∷ [] = sym idle.whole ∙ tail in cc)

      pub open_rests : WantsNoMore x lawful s stated processor table cleared more spot fs gave b l → RestFrom x s law cleared one b b.first b.epochs
      open_rests idle = subst (RestFrom x s law cleared one b b.first) (sym l.epochs) (walked.rests refl (begun_rests l.epoch l.body l.carry l.left walked.to l.last walked.same l.begun d_of (last_rested idle)))

      pub open_each : WantsNoMore x lawful s stated processor table cleared more spot fs gave b l → AllDrained x lawful s stated processor table cleared more spot fs gave (return_of l.last.cleared) l.carry l.left [] b.first l.past l.before →
          EachDone x s law cleared one b b.first b.epochs
      open_each idle drained =
          let r = begun_rests l.epoch l.body l.carry l.left walked.to l.last walked.same l.begun d_of (last_rested idle) in
          subst (EachDone x s law cleared one b b.first) (sym l.epochs) (walked.each drained ((r.all, r.ended), tt))
