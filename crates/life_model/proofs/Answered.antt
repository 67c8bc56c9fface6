-- The answers in a book of all epochs of a life are those that the frames give.
use Rattle.std.proofs.Common.{◌≡◌, ℕ, suc, ◌-◌, ◌<◌, ◌≤◌, Bool, true, false, Option, Some, None, List, [], ◌∷◌, ◌++◌, map, take, drop, length, refl, ap, ap₂, sym, ◌∙◌, subst, arith, if◌then◌else◌}
use Rattle.std.specs.Prelude.{⊤, nat_le, nat_lt}
use Rattle.std.proofs.lemmas.Bool.{ltb-true, le-ltb, lt-ltb, leb-true}
use Rattle.state_model.specs.of_exchange_model.Exchange.{Exchange, IsLawful}
use Rattle.state_model.specs.of_segment_model.Slaves.{Processor}
use Rattle.state_model.specs.of_segment_model.Record.{Frame, first_end, news_from}
use Rattle.state_model.specs.of_segment_model.Ends.{Outcome, ends}
use Rattle.state_model.specs.of_segment_model.Books.{Answer, answer_from}
use Rattle.state_model.specs.States.{Table}
use Rattle.state_model.specs.Stated.{Stated, IsStated, Service}
use Rattle.state_model.specs.Accounts.{Started}
use Rattle.state_model.specs.Promise.{TasksPromised, AllRise, AllEnded, but_last, task_of, services_in, outcome_of}
use Rattle.state_model.proofs.Sessions.{tasks_promised}
use Rattle.life_model.specs.Lives.{Spot, returns_to_init, opens_state}
use Rattle.life_model.specs.Eras.{frames_of}
use Rattle.life_model.specs.Book.{Line, EpochBook, line_of, NoInits}
use Rattle.life_model.proofs.Eras.{session_of, of_one}
use Rattle.life_model.specs.Answers.{epoch_news, all_news, first_gave, between, shown_ends, shown_from, answer_in, answer_at, AnswersBy, Rises, end_of, AllAnswers}
use Rattle.life_model.specs.Chain.{own_line, with_own, doubt_line, with_doubt, AreLeft, LeftBehind, AllBegin, NoneShow, IsShownFirst, Epoch, open_era, booked, Timed, Written, Chained}
use Rattle.life_model.proofs.Lists.{between-join, first_least}
use Rattle.life_model.proofs.Told.{service_calm, service_none, answer_same}
use Rattle.life_model.proofs.Shown.{none_between, shown_between}

-- WHERE AN ANSWER IS CUT: behind the opening, not behind the end, and the slave is left alone from there to the end
record IsCut {M : Type 0} (station opened end : ℕ) (fs : List (Frame M)) (c : ℕ) : Type 0 where
  since : opened < c
  within : c ≤ end
  left : AreLeft station (between c end fs)

cut_at : {M : Type 0} (station opened end : ℕ) (fs : List (Frame M)) (gave : List ℕ) (frame : ℕ) → opened < frame → opened < end → LeftBehind station opened end fs gave → IsCut station opened end fs (first_gave gave frame end)
cut_at station opened end fs [] frame less le left = record { since = le; within = omega arith; left = subst (λ n. AreLeft station (take n (drop end fs))) (let same : 0 ≡ end - end = omega arith in same) tt }
cut_at station opened end fs (g ∷ gs) frame less le left = go (nat_le frame g) refl (nat_lt g end) refl (cut_at station opened end fs gs frame less le left.1)
  where
    go : (b : Bool) → nat_le frame g ≡ b → (c : Bool) → nat_lt g end ≡ c → IsCut station opened end fs (first_gave gs frame end) → IsCut station opened end fs (if b then (if c then suc g else end) else first_gave gs frame end)
    go false e c f rest = rest
    go true e true f rest =
        let at : frame ≤ g = leb-true frame g e in
        let below : g < end = ltb-true g end f in
        record { since = omega (arith, at, less); within = omega (arith, below); left = left.0 (omega (arith, at, less)) }
    go true e false f rest = record { since = le; within = omega arith; left = subst (λ n. AreLeft station (take n (drop end fs))) (let same : 0 ≡ end - end = omega arith in same) tt }

pub cut_within : (gave : List ℕ) (frame end : ℕ) → first_gave gave frame end ≤ end
cut_within [] frame end = omega arith
cut_within (g ∷ gs) frame end = go (nat_le frame g) (nat_lt g end) refl (cut_within gs frame end)
  where
    go : (b c : Bool) → nat_lt g end ≡ c → first_gave gs frame end ≤ end → (if b then (if c then suc g else end) else first_gave gs frame end) ≤ end
    go false c f rest = rest
    go true true f rest = let below : g < end = ltb-true g end f in omega (arith, below)
    go true false f rest = omega arith

-- frames that show nothing, the first of them
none_first : {M : Type 0} (station state : ℕ) (fs gs : List (Frame M)) → NoneShow station state (fs ++ gs) → NoneShow station state fs
none_first station state [] gs q = tt
none_first station state (f ∷ fs) gs q = (q.0, none_first station state fs gs q.1)

none_less : {M : Type 0} (station state a b c : ℕ) (fs : List (Frame M)) → b ≤ c → NoneShow station state (between a c fs) → NoneShow station state (between a b fs)
none_less station state a b c fs le q = go (nat_le a b) refl
  where
    go : (t : Bool) → nat_le a b ≡ t → NoneShow station state (between a b fs)
    go true e = none_first station state (between a b fs) (between b c fs) (subst (NoneShow station state) (between-join a b c fs (leb-true a b e) le) q)
    go false e = subst (λ n. NoneShow station state (take n (drop a fs))) (let less = Rattle.std.proofs.lemmas.Bool.leb-false a b e in let same : 0 ≡ b - a = omega (arith, less) in same) tt

-- an answer that has ended is of an outcome
ended : {R : Type 0} (found : Option (Outcome R × ℕ)) (o : Outcome R) (frame : ℕ) → answer_from found ≡ Answer.Ended o frame → found ≡ Some (o, frame)
ended None o frame e = absurd (cc)
ended (Some f) o frame e = let g : Answer.Ended f.0 f.1 ≡ Answer.Ended o frame = e in let a0 : f.0 ≡ o = cc in let a1 : f.1 ≡ frame = cc in ap₂ (λ (b : Outcome _) (c : ℕ). Some (b, c)) a0 a1

module _ {V A M Q R : Type 0} (x : Exchange V A M Q R) (lawful : IsLawful x) (s : Stated V A Q) (stated : IsStated x s) (processor : Processor V) (table : ℕ → Table) (cleared : A → A) (more : M → Bool) (spot : Spot) (fs : List (Frame M)) where
  abbrev Opened : Type 0
  Opened = Epoch x lawful s stated processor table cleared more spot fs

  abbrev promise : Opened → Type 0
  promise e =
      let w = open_era x lawful s stated processor table cleared more spot fs e in
      TasksPromised w.exchange w.states (w.table w.spot.station) more (frames_of w) w.spot.station w.server w.era.side w.era.account w.slave

  -- what its session promises
  pub promised : (e : Opened) → promise e
  promised e =
      let w = open_era x lawful s stated processor table cleared more spot fs e in
      let p = session_of w in
      of_one w (λ station start d a n. TasksPromised w.exchange w.states (w.table station) more (frames_of w) station start d a n)
      (tasks_promised p.exchange p.lawful p.states p.stated p.processor p.table more p.planned.tells p.plan p.planned p.sides p.accounts p.ring p.frames p.tasked)

  abbrev frames : Opened → List (Frame M)
  frames e = frames_of (open_era x lawful s stated processor table cleared more spot fs e)

  abbrev line : Opened → Started Q → Line Q R
  line e r = line_of x.speech more spot.station (frames e) r

  -- THE ANSWERS of an epoch's rows
  module _ (gave : List ℕ) (pace : ℕ) where
    abbrev Answers : Option ℕ → Option ℕ → ℕ → List (Line Q R) → Type 0
    Answers opened cleared_at end ls = AnswersBy x.speech more gave (epoch_news spot pace opened end fs) (all_news spot fs) cleared_at end ls

    rows_answered : (e : Opened) (end : ℕ) → Timed x lawful s stated processor table cleared more spot fs gave e end → (rs : List (Started Q)) → AllBegin e.opened rs → NoInits (services_in rs) → Answers (Some e.opened) e.era.cleared end (map (line e) rs)
    rows_answered e end t [] begins quiet = tt
    rows_answered e end t (r ∷ rs) begins quiet = go r.service quiet (λ q. rows_answered e end t rs begins.1 q)
      where
        same : (service : Service Q) → first_end (ends x.speech more (task_of service)) r.frame [] (between r.frame (first_gave gave r.frame end) (epoch_news spot pace (Some e.opened) end fs))
            ≡ first_end (ends x.speech more (task_of service)) r.frame [] (news_from spot.station r.frame (frames e))
        same service =
            let since = t.since in
            let within = t.within in
            let cut = cut_at spot.station e.opened end fs gave r.frame begins.0 (omega (arith, since, within)) t.gives in
            answer_same (ends x.speech more (task_of service)) (service_calm x.speech more service) (service_none x lawful more service) spot e.opened end fs pace r.frame e.until (first_gave gave r.frame end)
            since within t.behind cut.since cut.within cut.left

        go : (service : Service Q) → NoInits (service ∷ services_in rs) → (NoInits (services_in rs) → Answers (Some e.opened) e.era.cleared end (map (line e) rs)) →
            (answer_from (outcome_of x.speech more spot.station (frames e) (record { service = service; frame = r.frame }))
            ≡ answer_at x.speech more (epoch_news spot pace (Some e.opened) end fs) (all_news spot fs) e.era.cleared (first_gave gave r.frame end) r.frame service)
            × Answers (Some e.opened) e.era.cleared end (map (line e) rs)
        go (Service.Mails q) n rest = (ap answer_from (sym (same (Service.Mails q))), rest n)
        go (Service.State target) n rest = (
          ap answer_from (sym (same (Service.State target)))
              ∙ ap (λ b. if b then answer_in (shown_ends (opens_state target)) (shown_from e.era.cleared r.frame) (first_gave gave r.frame end) (all_news spot fs)
              else answer_in (ends x.speech more (task_of (Service.State target))) r.frame (first_gave gave r.frame end) (epoch_news spot pace (Some e.opened) end fs)) (sym n.0),
          rest n.1,
        )

    answers-append : (opened cleared_at : Option ℕ) (end : ℕ) (ls ks : List (Line Q R)) → Answers opened cleared_at end ls → Answers opened cleared_at end ks → Answers opened cleared_at end (ls ++ ks)
    answers-append opened cleared_at end [] ks a b = b
    answers-append opened cleared_at end (l ∷ ls) ks a b = (a.0, answers-append opened cleared_at end ls ks a.1 b)

    -- the row that returned the slave to Init
    own_shown : (opened : Option ℕ) (end target frame cleared_at at : ℕ) → returns_to_init target ≡ true → frame < cleared_at →
        first_end (shown_ends {R = R} (opens_state target)) (suc cleared_at) [] (between (suc cleared_at) (first_gave gave frame end) (all_news spot fs)) ≡ Some (Outcome.Reached, at) →
        Answer.Ended Outcome.Reached at ≡ answer_at x.speech more (epoch_news spot pace opened end fs) (all_news spot fs) (Some cleared_at) (first_gave gave frame end) frame (Service.State target)
    own_shown opened end target frame cleared_at at returns early shown =
        sym (ap answer_from shown)
        ∙ sym (ap (λ b. if b then answer_in {R = R} (shown_ends (opens_state target)) (shown_from (Some cleared_at) frame) (first_gave gave frame end) (all_news spot fs)
        else answer_in (ends x.speech more (task_of (Service.State target))) frame (first_gave gave frame end) (epoch_news spot pace opened end fs)) returns
        ∙ ap (λ b. answer_in {R = R} (shown_ends (opens_state target)) (if b then suc cleared_at else frame) (first_gave gave frame end) (all_news spot fs)) (lt-ltb frame cleared_at early))

    -- or did not, or began behind
    none_shown : (opened cleared_at : Option ℕ) (end target frame from : ℕ) → returns_to_init target ≡ true → shown_from cleared_at frame ≡ from →
        first_end (shown_ends {R = R} (opens_state target)) from [] (between from (first_gave gave frame end) (all_news spot fs)) ≡ None →
        Answer.InDoubt ≡ answer_at x.speech more (epoch_news spot pace opened end fs) (all_news spot fs) cleared_at (first_gave gave frame end) frame (Service.State target)
    none_shown opened cleared_at end target frame from returns start shown =
        sym (ap answer_from shown)
        ∙ sym (ap (λ b. if b then answer_in {R = R} (shown_ends (opens_state target)) (shown_from cleared_at frame) (first_gave gave frame end) (all_news spot fs)
        else answer_in (ends x.speech more (task_of (Service.State target))) frame (first_gave gave frame end) (epoch_news spot pace opened end fs)) returns
        ∙ ap (λ n. answer_in {R = R} (shown_ends (opens_state target)) n (first_gave gave frame end) (all_news spot fs)) start)

  -- THEY RISE
  rises_first : (e : Opened) (end : ℕ) (rs tail : List (Started Q)) → AllRise x.speech more spot.station (frames e) (rs ++ tail) end → AllEnded x.speech more spot.station (frames e) (but_last (rs ++ tail)) → Rises (map (line e) rs)
  rises_first e end [] tail rise all = tt
  rises_first e end (r ∷ []) tail rise all = tt
  rises_first e end (r ∷ (k ∷ rs)) tail rise all = (
    λ o frame is. rise.0 (o, frame) (ended (outcome_of x.speech more spot.station (frames e) r) o frame is),
    (let o = all.0.0 in let found = all.0.1 in let less = rise.0 o found in
        let least = first_least (ends x.speech more (task_of r.service)) r.frame [] (news_from spot.station r.frame (frames e)) o.0 o.1 found in omega (arith, less, least)),
    rises_first e end (k ∷ rs) tail rise.1 all.1,
  )

  rises_doubt : (e : Opened) (end target frame : ℕ) (rs : List (Started Q)) → AllRise x.speech more spot.station (frames e) (rs ++ record { service = Service.State target; frame = frame } ∷ []) end →
      AllEnded x.speech more spot.station (frames e) (but_last (rs ++ record { service = Service.State target; frame = frame } ∷ [])) → Rises (map (line e) rs ++ doubt_line target frame ∷ [])
  rises_doubt e end target frame [] rise all = tt
  rises_doubt e end target frame (r ∷ []) rise all = (
    λ o at is. rise.0 (o, at) (ended (outcome_of x.speech more spot.station (frames e) r) o at is),
    (let o = all.0.0 in let found = all.0.1 in let less = rise.0 o found in
        let least = first_least (ends x.speech more (task_of r.service)) r.frame [] (news_from spot.station r.frame (frames e)) o.0 o.1 found in omega (arith, less, least)),
    tt,
  )
  rises_doubt e end target frame (r ∷ (k ∷ rs)) rise all = (
    λ o at is. rise.0 (o, at) (ended (outcome_of x.speech more spot.station (frames e) r) o at is),
    (let o = all.0.0 in let found = all.0.1 in let less = rise.0 o found in
        let least = first_least (ends x.speech more (task_of r.service)) r.frame [] (news_from spot.station r.frame (frames e)) o.0 o.1 found in omega (arith, less, least)),
    rises_doubt e end target frame (k ∷ rs) rise.1 all.1,
  )

  -- behind the row that returned the slave to Init
  abbrev FirstBehind : ℕ → List (Line Q R) → Type 0
  FirstBehind opened [] = ⊤
  FirstBehind opened (l ∷ ls) = opened < l.frame

  rises_own : (target frame opened : ℕ) (ls : List (Line Q R)) → frame < opened → FirstBehind opened ls → Rises ls → Rises (own_line target frame (Some opened) ∷ ls)
  rises_own target frame opened [] early first rise = tt
  rises_own target frame opened (l ∷ ls) early first rise = ((λ o at is. let same : opened ≡ at = number o at is in omega (arith, same, first)), omega (arith, early, first), rise)
    where
      place : Answer R → ℕ
      place (Answer.Ended o n) = n
      place Answer.InDoubt = 0
      place Answer.NotSent = 0

      number : (o : Outcome R) (at : ℕ) → Answer.Ended Outcome.Reached opened ≡ Answer.Ended o at → opened ≡ at
      number o at is = ap place is

  begins_first : (opened : ℕ) (rs tail : List (Started Q)) → AllBegin opened (rs ++ tail) → AllBegin opened rs
  begins_first opened [] tail b = tt
  begins_first opened (r ∷ rs) tail b = (b.0, begins_first opened rs tail b.1)

  pub begins_last : (opened : ℕ) (rs : List (Started Q)) (r : Started Q) → AllBegin opened (rs ++ r ∷ []) → opened < r.frame
  begins_last opened [] r b = b.0
  begins_last opened (q ∷ rs) r b = begins_last opened rs r b.1

  -- AN EPOCH AS IT IS WRITTEN
  module _ (gave : List ℕ) (pace : ℕ) where
    pub record Said (e : Opened) (end : ℕ) (body : EpochBook M Q R) : Type 0 where
      pub opened : body.opened ≡ Some e.opened
      pub cleared_is : body.cleared ≡ e.era.cleared
      pub answers : Answers gave pace (Some e.opened) e.era.cleared end body.lines
      pub rises : Rises body.lines
      pub first : FirstBehind e.opened body.lines

    said_rows : (e : Opened) (end : ℕ) → Timed x lawful s stated processor table cleared more spot fs gave e end → Said e end (booked x lawful s stated processor table cleared more spot fs e)
    said_rows e end t =
        let p = promised e in
        let begins = begins_first e.opened e.rows e.tail (subst (AllBegin e.opened) e.all t.begins) in
        record {
          opened = refl;
          cleared_is = refl;
          answers = rows_answered gave pace e end t e.rows begins e.quiet;
          rises = rises_first e (length (frames e)) e.rows e.tail (subst (λ l. AllRise x.speech more spot.station (frames e) l (length (frames e))) e.all p.rises) (subst (λ l. AllEnded x.speech more spot.station (frames e) (but_last l)) e.all p.in_doubt);
          first = begun e.rows begins;
        }
      where
        begun : (rs : List (Started Q)) → AllBegin e.opened rs → FirstBehind e.opened (map (line e) rs)
        begun [] b = tt
        begun (r ∷ rs) b = b.0

    said_doubt : (e : Opened) (end target frame : ℕ) → Timed x lawful s stated processor table cleared more spot fs gave e end → e.tail ≡ record { service = Service.State target; frame = frame } ∷ [] → returns_to_init target ≡ true →
        NoneShow spot.station (opens_state target) (between frame end fs) → Said e end (with_doubt target frame (booked x lawful s stated processor table cleared more spot fs e))
    said_doubt e end target frame t is returns quiet =
        let p = promised e in
        let rows = said_rows e end t in
        let last : Started Q = record { service = Service.State target; frame = frame } in
        let all : e.era.account.started ≡ e.rows ++ last ∷ [] = e.all ∙ ap (λ l. e.rows ++ l) is in
        let behind = begins_last e.opened e.rows last (subst (AllBegin e.opened) all t.begins) in
        let c = first_gave gave frame end in
        record {
          opened = refl;
          cleared_is = refl;
          answers = answers-append gave pace (Some e.opened) e.era.cleared end (map (line e) e.rows) (doubt_line target frame ∷ []) rows.answers (
            none_shown gave pace (Some e.opened) e.era.cleared end target frame frame returns (start e.era.cleared refl behind)
                (none_between M R spot.station (opens_state target) spot refl fs frame c (none_less spot.station (opens_state target) frame c end fs (cut_within gave frame end) quiet)),
            tt,
          );
          rises = rises_doubt e (length (frames e)) target frame e.rows (subst (λ l. AllRise x.speech more spot.station (frames e) l (length (frames e))) all p.rises) (subst (λ l. AllEnded x.speech more spot.station (frames e) (but_last l)) all p.in_doubt);
          first = begun e.rows (begins_first e.opened e.rows (last ∷ []) (subst (AllBegin e.opened) all t.begins)) behind;
        }
      where
        start : (o : Option ℕ) → e.era.cleared ≡ o → e.opened < frame → shown_from o frame ≡ frame
        start None is behind = refl
        start (Some n) is behind = ap (λ b. if b then suc n else frame) (le-ltb frame n (let early = t.returned n is in omega (arith, early, behind)))

        begun : (rs : List (Started Q)) → AllBegin e.opened rs → e.opened < frame → FirstBehind e.opened (map (line e) rs ++ doubt_line target frame ∷ [])
        begun [] b behind = behind
        begun (r ∷ rs) b behind = b.0

    said : (e : Opened) (end : ℕ) (carry : List (Started Q)) (body : EpochBook M Q R) → Timed x lawful s stated processor table cleared more spot fs gave e end → Written x lawful s stated processor table cleared more spot fs gave e end carry body → Said e end body
    said e end carry body t (Written.whole none) = said_rows e end t
    said e end carry body t (Written.moved r is) = said_rows e end t
    said e end carry body t (Written.doubted target frame is returns quiet) = said_doubt e end target frame t is returns quiet

    abbrev Epochs : ℕ → List (EpochBook M Q R) → Type 0
    Epochs stop es = AllAnswers x.speech more spot pace gave fs stop es

    end-join : (stop : ℕ) (es rest : List (EpochBook M Q R)) → end_of (end_of stop rest) es ≡ end_of stop (es ++ rest)
    end-join stop [] rest = refl
    end-join stop (e ∷ es) rest = refl

    -- what is said of an epoch, in the book
    abbrev Spoken : EpochBook M Q R → ℕ → Type 0
    Spoken b end = Answers gave pace b.opened b.cleared end b.lines × Rises b.lines

    spoken : (e : Opened) (end : ℕ) (body : EpochBook M Q R) → Said e end body → Spoken body end
    spoken e end body k =
        (subst (λ o. Answers gave pace o body.cleared end body.lines) (sym k.opened) (subst (λ c. Answers gave pace (Some e.opened) c end body.lines) (sym k.cleared_is) k.answers), k.rises)

    spoken_own : (e : Opened) (end target frame cleared_at : ℕ) (body : EpochBook M Q R) → Said e end body → returns_to_init target ≡ true → e.era.cleared ≡ Some cleared_at → frame < cleared_at → cleared_at < e.opened →
        IsShownFirst spot.station (opens_state target) cleared_at e.opened fs → e.opened < first_gave gave frame end → Spoken (with_own target frame body) end
    spoken_own e end target frame cleared_at body k returns is early later shown before =
        let found = shown_between M R spot.station (opens_state target) spot refl fs cleared_at e.opened (first_gave gave frame end) shown before in
        let all : Spoken (record { cleared = Some cleared_at; opened = Some e.opened; lines = own_line target frame (Some e.opened) ∷ body.lines; handled = body.handled; received = body.received }) end = (
          (own_shown gave pace (Some e.opened) end target frame cleared_at e.opened returns early found, subst (λ c. Answers gave pace (Some e.opened) c end body.lines) is k.answers),
          rises_own target frame e.opened body.lines (omega (arith, early, later)) k.first k.rises,
        ) in
        subst (λ o. Answers gave pace o body.cleared end (own_line target frame o ∷ body.lines) × Rises (own_line target frame o ∷ body.lines)) (sym k.opened)
        (subst (λ c. Answers gave pace (Some e.opened) c end (own_line target frame (Some e.opened) ∷ body.lines) × Rises (own_line target frame (Some e.opened) ∷ body.lines)) (sym (k.cleared_is ∙ is)) all)

    -- ALL EPOCHS
    pub all_answers : (stop : ℕ) (carried : List (Started Q)) (end : A) (rest : List (EpochBook M Q R)) (carry : List (Started Q)) (a : A) (es : List (EpochBook M Q R)) → Chained x lawful s stated processor table cleared more spot fs gave (end_of stop rest) carried end carry a es →
        Epochs stop rest → Epochs stop (es ++ rest)
    all_answers stop carried end rest carry a es Chained.none later = later
    all_answers stop carried end rest carry a es (Chained.taken_up b e next body more_es begins t w l) later = (
      subst (Spoken body) (end-join stop more_es rest) (spoken e (end_of (end_of stop rest) more_es) body (said e (end_of (end_of stop rest) more_es) next body t w)),
      all_answers stop carried end rest next _ more_es l later,
    )
    all_answers stop carried end rest carry a es (Chained.own_opened b e target frame cleared_at next body more_es returns is early shown before begins t w l) later = (
      subst (Spoken (with_own target frame body)) (end-join stop more_es rest)
          (spoken_own e (end_of (end_of stop rest) more_es) target frame cleared_at body (said e (end_of (end_of stop rest) more_es) next body t w) returns is early shown.later shown before),
      all_answers stop carried end rest next _ more_es l later,
    )
    all_answers stop carried end rest carry a es (Chained.closed b cleared_at more_es l) later = ((tt, tt), all_answers stop carried end rest [] _ more_es l later)
    all_answers stop carried end rest carry a es (Chained.own_closed b target frame cleared_at more_es returns early quiet l) later = (
      (
        (
          subst (λ n. Answer.InDoubt ≡ answer_at x.speech more (epoch_news spot pace None n fs) (all_news spot fs) (Some cleared_at) (first_gave gave frame n) frame (Service.State target)) (end-join stop more_es rest)
              (none_shown gave pace None (Some cleared_at) (end_of (end_of stop rest) more_es) target frame (suc cleared_at) returns (ap (λ b. if b then suc cleared_at else frame) (lt-ltb frame cleared_at early))
              (none_between M R spot.station (opens_state target) spot refl fs (suc cleared_at) (first_gave gave frame (end_of (end_of stop rest) more_es)) quiet)),
          tt,
        ),
        tt,
      ),
      all_answers stop carried end rest [] _ more_es l later,
    )
