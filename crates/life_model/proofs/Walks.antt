-- Along the epochs of a life: a book fits them, each from what the one before has done, cleared.
use Rattle.std.proofs.Common.{◌≡◌, ℕ, suc, ◌-◌, ◌<◌, ◌==◌, ◌&&◌, ◌||◌, Bool, true, false, not, is_some, Option, Some, None, List, [], ◌∷◌, ◌++◌, map, length, refl, ap, ap₂, sym, ◌∙◌, subst, arith, append-nil, length-append, if◌then◌else◌}
use Rattle.std.specs.Prelude.{nat_lt}
use Rattle.std.proofs.lemmas.Bool.{le-ltb, lt-ltb}
use Rattle.std.proofs.lemmas.List.{length-map}
use Rattle.state_model.specs.of_exchange_model.Exchange.{Exchange, IsLawful}
use Rattle.state_model.specs.of_segment_model.Slaves.{Processor}
use Rattle.state_model.specs.of_segment_model.Record.{Frame}
use Rattle.state_model.specs.of_segment_model.Ends.{Outcome}
use Rattle.state_model.specs.of_segment_model.Books.{Answer}
use Rattle.state_model.specs.States.{Table}
use Rattle.state_model.specs.Promises.{state_behind, answer_of}
use Rattle.state_model.specs.Stated.{Stated, IsStated, Service}
use Rattle.state_model.specs.Accounts.{Started}
use Rattle.state_model.specs.Promise.{AllEnded, but_last, services_in, mails_in}
use Rattle.life_model.specs.Lives.{Spot, returns_to_init, opens_state}
use Rattle.life_model.specs.Eras.{frames_of}
use Rattle.life_model.specs.Book.{Line, EpochBook, SlaveBook, line_of, NoInits, NoneInDoubt, IsForgetful, EpochFits, FitsFrom, RestFrom, EachDone, RepliesFit, is_in_doubt, follow, acted, all_acted, state_next, done, done_of, done_all, trimmed, opens_own, begins_with}
use Rattle.life_model.proofs.Books.{epoch_done, counts_none, grown, done_front}
use Rattle.life_model.proofs.Rests.{none_doubted, all_kept}
use Rattle.life_model.specs.Answers.{end_of}
use Rattle.life_model.specs.Chain.{Same, KeepsSame, behind_clear, own_answer, own_line, with_own, doubt_line, with_doubt, unopened, AllBegin, Epoch, open_era, booked, leaves, Timed, Written, Chained}
use Rattle.life_model.specs.Open.{HasDrained, AllDrained}
use Rattle.life_model.proofs.Answered.{promised, begins_last}
use Rattle.life_model.proofs.Doubts.{kept, done_kept, doubt_done, doubt_fits, doubt_behind}

-- rows before another have each its outcome
ended_before : {V A M Q R : Type 0} (x : Exchange V A M Q R) (more : M → Bool) (station : ℕ) (fs : List (Frame M)) (rs : List (Started Q)) (r : Started Q) → AllEnded x.speech more station fs (but_last (rs ++ r ∷ [])) → AllEnded x.speech more station fs rs
ended_before x more station fs [] r h = tt
ended_before x more station fs (q ∷ []) r h = (h.0, tt)
ended_before x more station fs (q ∷ (k ∷ rs)) r h = (h.0, ended_before x more station fs (k ∷ rs) r h.1)

module _ {V A M Q R : Type 0} (x : Exchange V A M Q R) (lawful : IsLawful x) (s : Stated V A Q) (stated : IsStated x s) (processor : Processor V) (table : ℕ → Table) (cleared : A → A) (more : M → Bool) (spot : Spot) (fs : List (Frame M))
    (gave : List ℕ) (forgets : IsForgetful s) (keeps : KeepsSame s cleared) (b : SlaveBook A M Q R) where
  abbrev one : A → Q → ℕ
  one a q = 1

  abbrev law : Table
  law = table spot.station

  abbrev Opened : Type 0
  Opened = Epoch x lawful s stated processor table cleared more spot fs

  abbrev book : Opened → EpochBook M Q R
  book e = booked x lawful s stated processor table cleared more spot fs e

  abbrev left : Opened → A
  left e = leaves x lawful s stated processor table cleared more spot fs e

  abbrev acts_all : A → List (Line Q R) → A
  acts_all a ls = all_acted x s law cleared one a ls

  abbrev dones : EpochBook M Q R → Bool → A → List (Line Q R)
  dones e follows a = done_of x s law cleared one b e follows a

  -- WHAT IS DONE of an opened epoch as it is written, behind what its opening left
  pub record Does (e : Opened) (body : EpochBook M Q R) : Type 0 where
    pub opened : body.opened ≡ Some e.opened
    pub cleared_is : body.cleared ≡ e.era.cleared
    pub plain : opens_own x s law cleared one body.cleared body.lines ≡ false
    pub app : (follows : Bool) (k : ℕ) → s.told k (acts_all (x.app e.server) (dones body follows (x.app e.server))) ≡ s.told k (left e)
    pub fits : (follows : Bool) → EpochFits x s law cleared one (x.app e.server) body (dones body follows (x.app e.server))

  -- its first row doesn't return to Init
  rows_plain : (rs : List (Started Q)) (c : Option ℕ) (line : Started Q → Answer R) → NoInits (services_in rs) → opens_own x s law cleared one c (map (λ r. record { service = r.service; frame = r.frame; answer = line r }) rs) ≡ false
  rows_plain rs None line n = refl
  rows_plain [] (Some c) line n = refl
  rows_plain (r ∷ rs) (Some c) line n = go r.service n
    where
      go : (service : Service Q) → NoInits (service ∷ services_in rs) → opens_own x s law cleared one (Some c) (record { service = service; frame = r.frame; answer = line r } ∷ []) ≡ false
      go (Service.Mails q) n = refl
      go (Service.State target) n = ap (λ r2. r2 && nat_lt r.frame c) n.0

  rows_done : (e : Opened) → Does e (book e)
  rows_done e =
      let w = open_era x lawful s stated processor table cleared more spot fs e in
      let p = promised x lawful s stated processor table cleared more spot fs e in
      let d = λ (follows : Bool). epoch_done w cleared more forgets e.rows e.tail e.all e.quiet e.last p follows b.state in
      record {
        opened = refl;
        cleared_is = refl;
        plain = rows_plain e.rows e.era.cleared (λ r. (line_of x.speech more spot.station (frames_of (open_era x lawful s stated processor table cleared more spot fs e)) r).answer) e.quiet;
        app = λ follows. (d follows).app;
        fits = λ follows. (d follows).fits;
      }

  -- with a row in doubt behind them
  doubted_done : (e : Opened) (end target frame : ℕ) → Timed x lawful s stated processor table cleared more spot fs gave e end → e.tail ≡ record { service = Service.State target; frame = frame } ∷ [] → returns_to_init target ≡ true →
      Does e (with_doubt target frame (book e))
  doubted_done e end target frame t is returns =
      let w = open_era x lawful s stated processor table cleared more spot fs e in
      let p = promised x lawful s stated processor table cleared more spot fs e in
      let last : Started Q = record { service = Service.State target; frame = frame } in
      let all : e.era.account.started ≡ e.rows ++ last ∷ [] = e.all ∙ ap (λ l. e.rows ++ l) is in
      let late = begins_last x lawful s stated processor table cleared more spot fs e.opened e.rows last (subst (AllBegin e.opened) all t.begins) in
      let sure = none_doubted x s law cleared more spot.station (frames_of w) e.rows (ended_before x more spot.station (frames_of w) e.rows last (subst (λ l. AllEnded x.speech more spot.station (frames_of w) (but_last l)) all p.in_doubt)) in
      let base = rows_done e in
      let a = x.app e.server in
      let body = with_doubt target frame (book e) in
      let ds = done x s law cleared one (book e).handled a (book e).lines in
      let same : (follows : Bool) → dones body follows a ≡ ds = λ follows. doubt_done x s law cleared follows e.opened b.state target frame late returns (book e).handled a (book e).lines sure in
      let plain : (follows : Bool) → dones (book e) follows a ≡ ds = λ follows. done_kept x s law cleared follows (Some e.opened) b.state (book e).handled a (book e).lines sure in
      let few = doubt_behind w cleared more e.rows target frame all p in
      record {
        opened = refl;
        cleared_is = refl;
        plain = first e.rows e.quiet late e.era.cleared refl;
        app = λ follows k. ap (λ l. s.told k (acts_all a l)) (same follows ∙ sym (plain follows)) ∙ base.app follows k;
        fits = λ follows. subst (λ l. EpochFits x s law cleared one a body l) (sym (same follows)) (
            let f = subst (λ l. EpochFits x s law cleared one a (book e) l) (plain follows) (base.fits follows) in record {
              behind = (let size = length-append (book e).lines (doubt_line target frame ∷ []) in let rows = length-map e.rows (λ r. line_of x.speech more spot.station (frames_of w) r) in omega (arith, few, size, rows));
              replies = doubt_fits x s law cleared (length ds) 0 a (book e).lines target frame f.replies;
              emissions = f.emissions;
            }
            );
      }
    where
      first : (rs : List (Started Q)) → NoInits (services_in rs) → e.opened < frame → (c : Option ℕ) → e.era.cleared ≡ c →
          opens_own x s law cleared one c (map (λ r. line_of x.speech more spot.station (frames_of (open_era x lawful s stated processor table cleared more spot fs e)) r) rs ++ doubt_line target frame ∷ []) ≡ false
      first rs n late None is = refl
      first [] n late (Some c) is = ap₂ (λ (r k : Bool). r && k) returns (le-ltb frame c (let early = t.returned c is in omega (arith, early, late)))
      first (r ∷ rs) n late (Some c) is = go r.service n
        where
          go : (service : Service Q) → NoInits (service ∷ services_in rs) → opens_own x s law cleared one (Some c) (record { service = service; frame = r.frame; answer = Answer.InDoubt } ∷ []) ≡ false
          go (Service.Mails q) n = refl
          go (Service.State t2) n = ap (λ r2. r2 && nat_lt r.frame c) n.0

  pub does : (e : Opened) (end : ℕ) (carry : List (Started Q)) (body : EpochBook M Q R) → Timed x lawful s stated processor table cleared more spot fs gave e end → Written x lawful s stated processor table cleared more spot fs gave e end carry body → Does e body
  does e end carry body t (Written.whole none) = rows_done e
  does e end carry body t (Written.moved r is) = rows_done e
  does e end carry body t (Written.doubted target frame is returns quiet) = doubted_done e end target frame t is returns

  -- WHAT A LIST OF EPOCHS COMES TO: an application that is the same but for its AL state, from which a book of all fits where a book of the rest does
  pub record Walk (D : Type 0) (c : A) (es rest : List (EpochBook M Q R)) (end : A) : Type 0 where
    pub to : A
    pub same : Same s to end
    pub fits : FitsFrom x s law cleared one b to rest → FitsFrom x s law cleared one b c (es ++ rest)
    pub done : done_all x s law cleared one b c (es ++ rest) ≡ done_all x s law cleared one b to rest
    pub rests : follow rest ≡ true → RestFrom x s law cleared one b to rest → RestFrom x s law cleared one b c (es ++ rest)
    pub each : D → EachDone x s law cleared one b to rest → EachDone x s law cleared one b c (es ++ rest)

  followed : (es rest : List (EpochBook M Q R)) → follow rest ≡ true → follow (es ++ rest) ≡ true
  followed [] rest f = f
  followed (e ∷ es) rest f = refl

  rest_step : (c : A) (e : EpochBook M Q R) (zs : List (EpochBook M Q R)) → follow zs ≡ true →
      (let from = begins_with x s law cleared one b.start e c in RestFrom x s law cleared one b (acts_all from (dones e (follow zs) from)) zs → RestFrom x s law cleared one b c (e ∷ zs))
  rest_step c e [] f = absurd (let clash : false ≡ true = f in cc)
  rest_step c e (z ∷ zs) f = λ r. r

  -- one epoch, and then the others
  step : (D E : Type 0) (c from : A) (e : EpochBook M Q R) (es rest : List (EpochBook M Q R)) (end : A) → begins_with x s law cleared one b.start e c ≡ from → EpochFits x s law cleared one from e (dones e (follow (es ++ rest)) from) →
      (D → ((dones e (follow (es ++ rest)) from ≡ e.lines) × NoneInDoubt x s law cleared one e.lines) × E) → Walk E (acts_all from (dones e (follow (es ++ rest)) from)) es rest end → Walk D c (e ∷ es) rest end
  step D E c from e es rest end is fits drained w =
      let zs = es ++ rest in
      record {
        to = w.to;
        same = w.same;
        fits = λ later. subst (λ v. EpochFits x s law cleared one v e (dones e (follow zs) v) × FitsFrom x s law cleared one b (acts_all v (dones e (follow zs) v)) zs) (sym is) (fits, w.fits later);
        done = ap (λ v. done_all x s law cleared one b (acts_all v (dones e (follow zs) v)) zs) is ∙ w.done;
        each = λ d later. (
            let here = drained d in
            subst (λ v. ((dones e (follow zs) v ≡ e.lines) × NoneInDoubt x s law cleared one e.lines) × EachDone x s law cleared one b (acts_all v (dones e (follow zs) v)) zs) (sym is) (here.0, w.each here.1 later)
            );
        rests = λ f r. rest_step c e zs (followed es rest f) (subst (λ v. RestFrom x s law cleared one b (acts_all v (dones e (follow zs) v)) zs) (sym is) (w.rests f r));
      }

  -- what is cleared is the same again
  same_clear : (c : Option ℕ) (a d : A) → Same s a d → Same s (behind_clear cleared c a) (behind_clear cleared c d)
  same_clear None a d same = same
  same_clear (Some n) a d same = keeps a d same

  -- HOW AN EPOCH BEGINS: told the start state
  pub start_is : (e : Opened) (body : EpochBook M Q R) → Does e body → b.start ≡ spot.start → (a c : A) → Same s c a → x.app e.server ≡ s.told spot.start (behind_clear cleared e.era.cleared a) →
      begins_with x s law cleared one b.start body c ≡ x.app e.server
  start_is e body d start a c same begins =
      let k = behind_clear cleared body.cleared c in
      ap₂ (λ (o : Option ℕ) (p : Bool). if is_some o && not p then s.told b.start k else k) d.opened d.plain
      ∙ ap₂ (λ (n : ℕ) (o : Option ℕ). s.told n (behind_clear cleared o c)) start d.cleared_is ∙ same_clear e.era.cleared c a same spot.start ∙ sym begins

  -- or cleared alone, where a state service is its first row
  pub own_start : (e : Opened) (body : EpochBook M Q R) → Does e body → (target frame cleared_at : ℕ) → returns_to_init target ≡ true → e.era.cleared ≡ Some cleared_at → frame < cleared_at → (c : A) →
      begins_with x s law cleared one b.start (with_own target frame body) c ≡ cleared c
  own_start e body d target frame cleared_at returns is early c =
      ap (λ o. let k = if is_some o then cleared c else c in if is_some body.opened && not (opens_own x s law cleared one o (own_line target frame body.opened ∷ body.lines)) then s.told b.start k else k) (d.cleared_is ∙ is)
      ∙ ap₂ (λ (r l : Bool). if is_some body.opened && not (r && l) then s.told b.start (cleared c) else cleared c) returns (lt-ltb frame cleared_at early)
      ∙ ap (λ t. if t then s.told b.start (cleared c) else cleared c) (and_false (is_some body.opened))
    where
      and_false : (t : Bool) → (t && false) ≡ false
      and_false true = refl
      and_false false = refl

  -- which is done
  pub own_done : (e : Opened) (body : EpochBook M Q R) → Does e body → (target frame : ℕ) (follows : Bool) (v : A) →
      (let u = acted x s law cleared one v (Service.State target) in dones (with_own target frame body) follows v ≡ own_line target frame body.opened ∷ dones body follows u)
  own_done e body d target frame follows v =
      let u = acted x s law cleared one v (Service.State target) in
      let row : Line Q R = own_line target frame body.opened in
      let h = body.handled in
      ap (λ t. trimmed x s law cleared one follows body.opened b.state v (if t then row ∷ done x s law cleared one (h - 0) u body.lines else [])) (counts_none h)
      ∙ ap (λ n. trimmed x s law cleared one follows body.opened b.state v (row ∷ done x s law cleared one n u body.lines)) (let same : h - 0 ≡ h = omega arith in same)
      ∙ kept x s law cleared follows body.opened b.state v row (done x s law cleared one h u body.lines) (ap (λ o. is_in_doubt (own_answer {R = R} o)) d.opened)

  -- or left out, where it opened nothing
  left_out : (target frame cleared_at : ℕ) (c : A) (follows : Bool) → returns_to_init target ≡ true → dones (unopened (Some cleared_at) (own_line target frame None ∷ [])) follows (cleared c) ≡ []
  left_out target frame cleared_at c follows returns = go follows
    where
      row : Line Q R
      row = own_line target frame None

      go : (f : Bool) → (if f || (returns_to_init target && true) || not (b.state == state_next x s law cleared one (cleared c) target) then [] else row ∷ []) ≡ []
      go true = refl
      go false = ap (λ r. if false || (r && true) || not (b.state == state_next x s law cleared one (cleared c) target) then [] else row ∷ []) returns

  shifted : (count number : ℕ) (a : A) (ls : List (Line Q R)) → RepliesFit x s law cleared one count number a ls → RepliesFit x s law cleared one (suc count) (suc number) a ls
  shifted count number a [] f = tt
  shifted count number a (l ∷ ls) f = (λ o frame e is. (let here = f.0 o frame e is in (here.0, (let less = here.1 in omega (arith, less)))), shifted count (suc number) (acted x s law cleared one a l.service) ls f.1)

  -- the application that the opening of a state service's own epoch left
  pub own_from : (e : Opened) (target : ℕ) → returns_to_init target ≡ true → (a c : A) → Same s c a → x.app e.server ≡ s.told (opens_state target) (cleared a) → acted x s law cleared one (cleared c) (Service.State target) ≡ x.app e.server
  own_from e target returns a c same begins =
      ap (λ r. s.told (if r then opens_state target else state_behind law (s.state (cleared c)) target) (cleared c)) returns ∙ keeps c a same (opens_state target) ∙ sym begins

  pub own_fits : (e : Opened) (body : EpochBook M Q R) → Does e body → (target frame : ℕ) → returns_to_init target ≡ true → (follows : Bool) (v : A) → acted x s law cleared one v (Service.State target) ≡ x.app e.server →
      EpochFits x s law cleared one v (with_own target frame body) (dones (with_own target frame body) follows v)
  own_fits e body d target frame returns follows v is =
      let u = acted x s law cleared one v (Service.State target) in
      let row : Line Q R = own_line target frame body.opened in
      let fits = subst (λ y. EpochFits x s law cleared one y body (dones body follows y)) (sym is) (d.fits follows) in
      subst (λ ds. EpochFits x s law cleared one v (with_own target frame body) ds) (sym (own_done e body d target frame follows v)) (record {
        behind = (let behind = fits.behind in omega (arith, behind));
        replies = (
          (λ o g ended is. (
            let same_answer : Answer.Ended Outcome.Reached e.opened ≡ Answer.Ended o g = sym (ap (λ q. own_answer {R = R} q) d.opened) ∙ ended in let reached : Outcome.Reached ≡ o = cc in
                sym reached ∙ sym (ap (λ r. if r then Outcome.Reached else answer_of (law (s.state v) target)) returns),
            omega arith,
          )),
          shifted (length (dones body follows u)) 0 u body.lines fits.replies,
        );
        emissions = fits.emissions;
      })

  pub own_app : (e : Opened) (body : EpochBook M Q R) → Does e body → (target frame : ℕ) (follows : Bool) (v : A) → acted x s law cleared one v (Service.State target) ≡ x.app e.server →
      acts_all v (dones (with_own target frame body) follows v) ≡ acts_all (x.app e.server) (dones body follows (x.app e.server))
  own_app e body d target frame follows v is = ap (acts_all v) (own_done e body d target frame follows v) ∙ ap (λ y. acts_all y (dones body follows y)) is

  pub own_whole : (e : Opened) (body : EpochBook M Q R) → Does e body → (target frame : ℕ) (follows : Bool) (v : A) → acted x s law cleared one v (Service.State target) ≡ x.app e.server →
      (dones body follows (x.app e.server) ≡ body.lines) × NoneInDoubt x s law cleared one body.lines →
      (dones (with_own target frame body) follows v ≡ (with_own target frame body).lines) × NoneInDoubt x s law cleared one (with_own target frame body).lines
  own_whole e body d target frame follows v is k = (
    own_done e body d target frame follows v ∙ ap (λ l. own_line target frame body.opened ∷ l) (ap (dones body follows) is ∙ k.0),
    (ap (λ o. is_in_doubt (own_answer {R = R} o)) d.opened, k.1),
  )

  -- AN EPOCH THAT DRAINED is done whole
  pub drained : (e : Opened) (end : ℕ) (carry : List (Started Q)) (body : EpochBook M Q R) → Written x lawful s stated processor table cleared more spot fs gave e end carry body → (r : Started Q) → carry ≡ r ∷ [] →
      HasDrained x lawful s stated processor table cleared more spot fs gave e → (follows : Bool) → (dones body follows (x.app e.server) ≡ body.lines) × NoneInDoubt x s law cleared one body.lines
  drained e end carry body (Written.whole none) r is h follows = absurd (let clash : [] ≡ r ∷ [] = is in cc)
  drained e end carry body (Written.doubted target frame tail returns quiet) r is h follows = absurd (let clash : [] ≡ r ∷ [] = is in cc)
  drained e end carry body (Written.moved q tail) r is h follows =
      let w = open_era x lawful s stated processor table cleared more spot fs e in
      let p = promised x lawful s stated processor table cleared more spot fs e in
      let all : e.era.account.started ≡ e.rows ++ q ∷ [] = e.all ∙ ap (λ l. e.rows ++ l) tail in
      let sure = none_doubted x s law cleared more spot.station (frames_of w) e.rows (ended_before x more spot.station (frames_of w) e.rows q (subst (λ l. AllEnded x.speech more spot.station (frames_of w) (but_last l)) all p.in_doubt)) in
      let a = x.app e.server in
      let handled : (book e).handled ≡ mails_in (services_in e.rows) = ap (λ n. n - x.handled e.server) h ∙ grown (x.handled e.server) (mails_in (services_in e.rows)) in
      let whole : done x s law cleared one (book e).handled a (book e).lines ≡ (book e).lines =
      ap₂ (λ (n : ℕ) (l : List (Line Q R)). done x s law cleared one n a l) handled (sym (append-nil (book e).lines)) ∙ done_front x s law cleared more spot.station (frames_of w) a e.rows [] ∙ append-nil (book e).lines in
      (ap (trimmed x s law cleared one follows (Some e.opened) b.state a) whole ∙ all_kept x s law cleared more spot.station (frames_of w) follows (Some e.opened) b.state a (book e).lines sure, sure)

  -- ALONG ALL EPOCHS
  module _ (start : b.start ≡ spot.start) (stop : ℕ) (carried : List (Started Q)) (end : A) (rest : List (EpochBook M Q R)) where
    abbrev Drains : (carry : List (Started Q)) (a : A) (es : List (EpochBook M Q R)) → Chained x lawful s stated processor table cleared more spot fs gave stop carried end carry a es → Type 0
    Drains carry a es l = AllDrained x lawful s stated processor table cleared more spot fs gave stop carried end carry a es l

    pub walk : (carry : List (Started Q)) (a : A) (es : List (EpochBook M Q R)) (c : A) → Same s c a → (l : Chained x lawful s stated processor table cleared more spot fs gave stop carried end carry a es) →
        Walk (AllDrained x lawful s stated processor table cleared more spot fs gave stop carried end carry a es l) c es rest end
    walk carry a es c same Chained.none = record { to = c; same = same; fits = λ f. f; done = refl; rests = λ f r. r; each = λ d e. e }
    walk carry a es c same (Chained.closed a2 cleared_at more_es l) =
        let from = behind_clear cleared cleared_at c in
        step _ _ c from (unopened cleared_at []) more_es rest end refl (record { behind = omega arith; replies = tt; emissions = ([], refl) }) (λ d. ((refl, tt), d)) (walk [] _ more_es from (same_clear cleared_at c a2 same) l)
    walk carry a es c same (Chained.own_closed a2 target frame cleared_at more_es returns early quiet l) =
        let e : EpochBook M Q R = unopened (Some cleared_at) (own_line target frame None ∷ []) in
        let none : (follows : Bool) → dones e follows (cleared c) ≡ [] = λ follows. left_out target frame cleared_at c follows returns in
        let f = follow (more_es ++ rest) in
        step ⊥ (Drains [] (cleared a2) more_es l) c (cleared c) e more_es rest end refl
        (subst (λ ds. EpochFits x s law cleared one (cleared c) e ds) (sym (none f)) (record { behind = omega arith; replies = ((λ o g doubt is. absurd (let clash : Answer.InDoubt ≡ Answer.Ended o g = doubt in cc)), tt); emissions = ([], refl) }))
        (λ d. absurd d) (subst (λ ds. Walk (Drains [] (cleared a2) more_es l) (acts_all (cleared c) ds) more_es rest end) (sym (none f)) (walk [] _ more_es (cleared c) (keeps c a2 same) l))
    walk carry a es c same (Chained.taken_up a2 e next body more_es begins t w l) =
        let d = does e (end_of stop more_es) next body t w in
        let f = follow (more_es ++ rest) in
        step _ _ c (x.app e.server) body more_es rest end (start_is e body d start a2 c same begins) (d.fits f)
        (λ k. (drained e (end_of stop more_es) next body w k.0.0 k.0.1 k.1 f, k.2)) (walk next _ more_es (acts_all (x.app e.server) (dones body f (x.app e.server))) (d.app f) l)
    walk carry a es c same (Chained.own_opened a2 e target frame cleared_at next body more_es returns is early shown before begins t w l) =
        let d = does e (end_of stop more_es) next body t w in
        let f = follow (more_es ++ rest) in
        let from = own_from e target returns a2 c same begins in
        step (((r : Started Q) × (next ≡ r ∷ [])) × HasDrained x lawful s stated processor table cleared more spot fs gave e × Drains next (left e) more_es l) (Drains next (left e) more_es l) c (cleared c) (with_own target frame body) more_es rest end (own_start e body d target frame cleared_at returns is early c) (own_fits e body d target frame returns f (cleared c) from)
        (λ k. (own_whole e body d target frame f (cleared c) from (drained e (end_of stop more_es) next body w k.0.0 k.0.1 k.1 f), k.2))
        (subst (λ y. Walk (Drains next (left e) more_es l) y more_es rest end) (sym (own_app e body d target frame f (cleared c) from))
        (walk next _ more_es (acts_all (x.app e.server) (dones body f (x.app e.server))) (d.app f) l))
