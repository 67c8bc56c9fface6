-- The AL state behind what is done of an open epoch is the one that its slave is in.
use Rattle.std.proofs.Common.{◌≡◌, ℕ, suc, ◌+◌, ◌-◌, ◌<◌, ◌==◌, ◌&&◌, ◌||◌, Bool, true, false, not, Option, Some, None, List, [], ◌∷◌, ◌++◌, map, take, drop, length, refl, ap, ap₂, sym, ◌∙◌, subst, arith, append-nil, eq-eqb, if◌then◌else◌}
use Rattle.std.specs.Prelude.{⊤, nat_le}
use Rattle.std.proofs.lemmas.List.{take-append-drop}
use Rattle.state_model.specs.of_exchange_model.Exchange.{Exchange}
use Rattle.state_model.specs.of_exchange_model.Rows.{exec_all}
use Rattle.state_model.specs.of_segment_model.Record.{Frame, News, first_end, or_later, news_from}
use Rattle.state_model.specs.of_segment_model.Ends.{Outcome, state_ends}
use Rattle.state_model.specs.of_segment_model.Books.{answer_from}
use Rattle.state_model.specs.States.{Table}
use Rattle.state_model.specs.Stated.{Stated, IsStated, Service, with_states}
use Rattle.state_model.specs.Accounts.{Started}
use Rattle.state_model.specs.Promise.{TasksPromised, AllDone, AllEnded, IsReply, but_last, services_in, mails_in, outcome_of}
use Rattle.life_model.specs.Lives.{returns_to_init}
use Rattle.life_model.specs.Eras.{OpenEra, frames_of}
use Rattle.life_model.specs.Book.{Line, line_of, epoch_book, done_rows, NoInits, is_in_doubt, opened_behind, acted, all_acted, state_next, weight, done, is_left, trimmed}
use Rattle.life_model.proofs.Books.{take-length, take-map, map-append, grown, exec_is, done_front, followed}

-- an outcome of a state service tells that it was carried out
state_reply : {M R : Type 0} (target : ℕ) (refusal : Option ℕ) (ns : List (News M)) (o : Outcome R) → state_ends target refusal ns ≡ Some o → IsReply o
state_reply target refusal [] o e = absurd (cc)
state_reply target None (News.Status state None ∷ ns) o e = go (state == target) e (state_reply target None ns o)
  where
    go : (b : Bool) → (if b then Some Outcome.Reached else state_ends target None ns) ≡ Some o → (state_ends target None ns ≡ Some o → IsReply o) → IsReply o
    go true e rest = let same : Outcome.Reached ≡ o = cc in subst IsReply same tt
    go false e rest = rest e
state_reply target (Some code) (News.Status state None ∷ ns) o e = let same : Outcome.Refused code ≡ o = cc in subst IsReply same tt
state_reply target None (News.Status state (Some code) ∷ ns) o e = state_reply target (Some code) ns o e
state_reply target (Some first) (News.Status state (Some code) ∷ ns) o e = state_reply target (Some first) ns o e
state_reply target refusal (News.Told m ∷ ns) o e = state_reply target refusal ns o e
state_reply target refusal (News.Written ∷ ns) o e = state_reply target refusal ns o e
state_reply target refusal (News.Heard m ∷ ns) o e = state_reply target refusal ns o e
state_reply target refusal (News.NothingRead ∷ ns) o e = state_reply target refusal ns o e
state_reply target refusal (News.BoxFull full ∷ ns) o e = state_reply target refusal ns o e

first_reply : {M R : Type 0} (target f : ℕ) (before : List (News M)) (nss : List (List (News M))) (o : Outcome R × ℕ) → first_end (state_ends target None) f before nss ≡ Some o → IsReply o.0
first_reply target f before [] o e = absurd (cc)
first_reply {R = R} target f before (ns ∷ nss) o e = go (state_ends target None (before ++ ns)) refl e (first_reply target (suc f) (before ++ ns) nss o)
  where
    go : (r : Option (Outcome R)) → state_ends target None (before ++ ns) ≡ r → or_later r f (first_end (state_ends target None) (suc f) (before ++ ns) nss) ≡ Some o →
        (first_end (state_ends target None) (suc f) (before ++ ns) nss ≡ Some o → IsReply o.0) → IsReply o.0
    go None is e rest = rest e
    go (Some r) is e rest = let same : r ≡ o.0 = ap at e in subst IsReply same (state_reply target None (before ++ ns) r is)
      where
        at : Option (Outcome R × ℕ) → Outcome R
        at None = r
        at (Some p) = p.0

module _ {V A M Q R : Type 0} (x : Exchange V A M Q R) (s : Stated V A Q) (stated : IsStated x s) (table : Table) (cleared : A → A) (opened al : ℕ) where
  abbrev one : A → Q → ℕ
  one a q = 1

  abbrev acts : A → List (Line Q R) → A
  acts a ls = all_acted x s table cleared one a ls

  abbrev trims : A → List (Line Q R) → List (Line Q R)
  trims a ls = trimmed x s table cleared one false (Some opened) al a ls

  -- no service of these returns to Init
  abbrev IsLater : Service Q → Type 0
  IsLater (Service.Mails q) = ⊤
  IsLater (Service.State target) = returns_to_init target ≡ false

  abbrev AreLater : List (Line Q R) → Type 0
  AreLater [] = ⊤
  AreLater (l ∷ ls) = IsLater l.service × AreLater ls

  -- a state service behind which this AL state stands is kept
  at_state : (a : A) (l : Line Q R) (target : ℕ) → returns_to_init target ≡ false → state_next x s table cleared one a target ≡ al → (if is_left x s table cleared one false (Some opened) al a l (Service.State target) then [] else l ∷ []) ≡ l ∷ []
  at_state a l target later same =
      ap₂ (λ (r c : Bool). if is_in_doubt l.answer && (false || (r && not (opened_behind (Some opened) l.frame)) || not c) then [] else l ∷ []) later (eq-eqb al (state_next x s table cleared one a target) (sym same)) ∙ go (is_in_doubt l.answer)
    where
      go : (b : Bool) → (if b && (false || (false && not (opened_behind (Some opened) l.frame)) || not true) then [] else l ∷ []) ≡ l ∷ []
      go true = refl
      go false = refl

  stays : (a : A) (ls : List (Line Q R)) → AreLater ls → s.state (acts a ls) ≡ al → s.state (acts a (trims a ls)) ≡ al
  stays a [] later e = e
  stays a (l ∷ []) later e = go l.service refl later.0
    where
      go : (service : Service Q) → l.service ≡ service → IsLater service → s.state (acts a (if is_left x s table cleared one false (Some opened) al a l service then [] else l ∷ [])) ≡ al
      go (Service.Mails q) is k = e
      go (Service.State target) is k =
          let next = state_next x s table cleared one a target in
          let same : next ≡ al = sym (stated.is next a) ∙ sym (ap (λ service. s.state (acted x s table cleared one a service)) is) ∙ e in
          ap (λ m. s.state (acts a m)) (at_state a l target k same) ∙ e
  stays a (l ∷ (k ∷ ls)) later e = stays (acted x s table cleared one a l.service) (k ∷ ls) later.1 e

  -- behind rows by which it stands one more in doubt is kept where it leaves it so
  with_last : (a : A) (ls : List (Line Q R)) (l : Line Q R) (target : ℕ) → l.service ≡ Service.State target → returns_to_init target ≡ false → is_in_doubt l.answer ≡ true → s.state (acts a ls) ≡ al → s.state (acts a (trims a (ls ++ l ∷ []))) ≡ al
  with_last a [] l target is later doubt e = ap (λ service. s.state (acts a (if is_left x s table cleared one false (Some opened) al a l service then [] else l ∷ []))) is ∙ go (al == next) refl
    where
      next : ℕ
      next = state_next x s table cleared one a target

      go : (b : Bool) → (al == state_next x s table cleared one a target) ≡ b → s.state (acts a (if is_left x s table cleared one false (Some opened) al a l (Service.State target) then [] else l ∷ [])) ≡ al
      go true same =
          let eq : al ≡ state_next x s table cleared one a target = Rattle.std.proofs.Common.eqb-true al (state_next x s table cleared one a target) same in
          ap (λ m. s.state (acts a m)) (at_state a l target later (sym eq)) ∙ ap (λ service. s.state (acted x s table cleared one a service)) is ∙ stated.is (state_next x s table cleared one a target) a ∙ sym eq
      go false other =
          ap (λ (d : Bool). s.state (acts a (if d && (false || (returns_to_init target && not (opened_behind (Some opened) l.frame)) || not (al == state_next x s table cleared one a target)) then [] else l ∷ []))) doubt
          ∙ ap₂ (λ (r c : Bool). s.state (acts a (if true && (false || (r && not (opened_behind (Some opened) l.frame)) || not c) then [] else l ∷ []))) later other ∙ e
  with_last a (k ∷ ls) l target is later doubt e = ap (λ m. s.state (acts a m)) (cons ls) ∙ with_last (acted x s table cleared one a k.service) ls l target is later doubt e
    where
      cons : (ms : List (Line Q R)) → trims a (k ∷ (ms ++ l ∷ [])) ≡ k ∷ trims (acted x s table cleared one a k.service) (ms ++ l ∷ [])
      cons [] = refl
      cons (m ∷ ms) = refl

-- what is said of the row at a place
module _ {V A M Q R : Type 0} (x : Exchange V A M Q R) (more : M → Bool) (station : ℕ) (fs : List (Frame M)) where
  done_at : (count number : ℕ) (front : List (Started Q)) (r : Started Q) (rest : List (Started Q)) → AllDone x.speech more station fs count number (front ++ r ∷ rest) → (o : Outcome R × ℕ) → outcome_of x.speech more station fs r ≡ Some o →
      IsReply o.0 → number + length front < count
  done_at count number [] r rest all o is reply = let less = all.0 o is reply in omega (arith, less)
  done_at count number (q ∷ front) r rest all o is reply = let less = done_at count (suc number) front r rest all.1 o is reply in omega (arith, less)

  -- a state service behind all that are carried out has no outcome
  undone : (count : ℕ) (front : List (Started Q)) (frame target : ℕ) (rest : List (Started Q)) → length front ≡ count → AllDone x.speech more station fs count 0 (front ++ record { service = Service.State target; frame = frame } ∷ rest) →
      outcome_of x.speech more station fs (record { service = Service.State target; frame = frame }) ≡ None
  undone count front frame target rest many all = go (outcome_of x.speech more station fs (record { service = Service.State target; frame = frame })) refl
    where
      go : (o : Option (Outcome R × ℕ)) → outcome_of x.speech more station fs (record { service = Service.State target; frame = frame }) ≡ o → o ≡ None
      go None is = refl
      go (Some o) is =
          let less = done_at count 0 front (record { service = Service.State target; frame = frame }) rest all o is (first_reply target frame [] (news_from station frame fs) o is) in
          absurd (omega (arith, less, many))

quiet_first : {Q : Type 0} (xs ys : List (Started Q)) → NoInits (services_in (xs ++ ys)) → NoInits (services_in xs)
quiet_first [] ys n = tt
quiet_first (r ∷ xs) ys n = go r.service n (λ k. quiet_first xs ys k)
  where
    go : (service : Service _) → NoInits (service ∷ services_in (xs ++ ys)) → (NoInits (services_in (xs ++ ys)) → NoInits (services_in xs)) → NoInits (service ∷ services_in xs)
    go (Service.Mails q) n rest = rest n
    go (Service.State target) n rest = (n.0, rest n.1)

quiet_at : {Q : Type 0} (xs : List (Started Q)) (r : Started Q) (ys : List (Started Q)) → NoInits (services_in (xs ++ r ∷ ys)) → NoInits (r.service ∷ services_in ys)
quiet_at [] r ys n = n
quiet_at (q ∷ xs) r ys n = go q.service n (λ k. quiet_at xs r ys k)
  where
    go : (service : Service _) → NoInits (service ∷ services_in (xs ++ r ∷ ys)) → (NoInits (services_in (xs ++ r ∷ ys)) → NoInits (r.service ∷ services_in ys)) → NoInits (r.service ∷ services_in ys)
    go (Service.Mails p) n rest = rest n
    go (Service.State target) n rest = rest n.1

module _ {V A M Q R : Type 0} (w : OpenEra V A M Q R) (cleared : A → A) (more : M → Bool) (quiet : NoInits (services_in w.era.account.started))
    (p : TasksPromised w.exchange w.states (w.table w.spot.station) more (frames_of w) w.spot.station w.server w.era.side w.era.account w.slave) (al : ℕ) (at : al ≡ w.slave.registers.state) where
  abbrev rows : List (Started Q)
  rows = w.era.account.started

  abbrev line : Started Q → Line Q R
  line r = line_of w.exchange.speech more w.spot.station (frames_of w) r

  abbrev lines : List (Started Q) → List (Line Q R)
  lines l = map (λ r. line r) l

  abbrev start : A
  start = w.exchange.app w.server

  abbrev acts_all : A → List (Line Q R) → A
  acts_all a ls = all_acted w.exchange w.states (w.table w.spot.station) cleared (λ a q. 1) a ls

  abbrev trims_all : List (Line Q R) → List (Line Q R)
  trims_all ls = trimmed w.exchange w.states (w.table w.spot.station) cleared (λ a q. 1) false (Some w.opened) al start ls

  abbrev does : ℕ → A → List (Line Q R) → List (Line Q R)
  does n a ls = done w.exchange w.states (w.table w.spot.station) cleared (λ a q. 1) n a ls

  abbrev front : List (Started Q)
  front = take p.count rows

  size : length front ≡ p.count
  size = take-length p.count rows p.prefix

  app_is : acts_all start (lines front) ≡ w.exchange.app w.slave.node.server.server
  app_is =
      let table = w.table w.spot.station in
      let qs : take p.count (services_in rows) ≡ services_in front = take-map (λ (r : Started Q). r.service) p.count rows in
      let first = quiet_first front (drop p.count rows) (subst (λ l. NoInits (services_in l)) (sym (take-append-drop p.count rows)) quiet) in
      sym (p.app ∙ ap (λ l. (exec_all (with_states w.exchange w.states table) (start, 0) l).0) qs ∙ exec_is w.exchange w.states table cleared more w.spot.station (frames_of w) start 0 front first)

  stands : w.states.state (acts_all start (lines front)) ≡ al
  stands = ap w.states.state app_is ∙ sym p.state ∙ sym at

  done_is : does (epoch_book w more rows).handled start (lines rows) ≡ lines front ++ does 0 (acts_all start (lines front)) (lines (drop p.count rows))
  done_is =
      let qs : take p.count (services_in rows) ≡ services_in front = take-map (λ (r : Started Q). r.service) p.count rows in
      let handled : (epoch_book w more rows).handled ≡ mails_in (services_in front) = ap (λ n. n - w.exchange.handled w.server) p.handled ∙ grown (w.exchange.handled w.server) (mails_in (take p.count (services_in rows))) ∙ ap mails_in qs in
      let split : lines rows ≡ lines front ++ lines (drop p.count rows) = sym (ap lines (take-append-drop p.count rows)) ∙ map-append (λ r. line r) front (drop p.count rows) in
      ap₂ (λ (n : ℕ) (l : List (Line Q R)). does n start l) handled split ∙ done_front w.exchange w.states (w.table w.spot.station) cleared more w.spot.station (frames_of w) start front (lines (drop p.count rows))

  later : (rs : List (Started Q)) → NoInits (services_in rs) → AreLater w.exchange w.states w.stated (w.table w.spot.station) cleared w.opened al (lines rs)
  later [] n = tt
  later (r ∷ rs) n = go r.service n (λ k. later rs k)
    where
      go : (service : Service Q) → NoInits (service ∷ services_in rs) → (NoInits (services_in rs) → AreLater w.exchange w.states w.stated (w.table w.spot.station) cleared w.opened al (lines rs)) →
          IsLater w.exchange w.states w.stated (w.table w.spot.station) cleared w.opened al service × AreLater w.exchange w.states w.stated (w.table w.spot.station) cleared w.opened al (lines rs)
      go (Service.Mails q) n rest = (tt, rest n)
      go (Service.State target) n rest = (n.0, rest n.1)

  only : w.states.state (acts_all start (trims_all (lines front))) ≡ al
  only = stays w.exchange w.states w.stated (w.table w.spot.station) cleared w.opened al start (lines front) (later front (quiet_first front (drop p.count rows) (subst (λ l. NoInits (services_in l)) (sym (take-append-drop p.count rows)) quiet))) stands

  behind : (rest : List (Started Q)) → drop p.count rows ≡ rest → w.states.state (acts_all start (trims_all (lines front ++ does 0 (acts_all start (lines front)) (lines rest)))) ≡ al
  behind [] is = ap (λ l. w.states.state (acts_all start (trims_all l))) (append-nil (lines front)) ∙ only
  behind (r ∷ rest) is = go r.service refl
    where
      all : rows ≡ front ++ r ∷ rest
      all = sym (take-append-drop p.count rows) ∙ ap (λ l. front ++ l) is

      abbrev_none : (target : ℕ) → r.service ≡ Service.State target → outcome_of w.exchange.speech more w.spot.station (frames_of w) r ≡ None
      abbrev_none target s =
          ap (λ service. outcome_of w.exchange.speech more w.spot.station (frames_of w) (record { service = service; frame = r.frame })) s
          ∙ undone w.exchange more w.spot.station (frames_of w) p.count front r.frame target rest size
          (subst (λ service. AllDone w.exchange.speech more w.spot.station (frames_of w) p.count 0 (front ++ record { service = service; frame = r.frame } ∷ rest)) s
          (subst (AllDone w.exchange.speech more w.spot.station (frames_of w) p.count 0) all p.in_done))

      calm : (target : ℕ) → r.service ≡ Service.State target → returns_to_init target ≡ false
      calm target s = (subst (λ service. NoInits (service ∷ services_in rest)) s (quiet_at front r rest (subst (λ l. NoInits (services_in l)) all quiet))).0

      newest : (target : ℕ) → r.service ≡ Service.State target → (l : List (Started Q)) → rest ≡ l → w.states.state (acts_all start (trims_all (lines front ++ line r ∷ does 0 (acted w.exchange w.states (w.table w.spot.station) cleared (λ a q. 1) (acts_all start (lines front)) r.service) (lines l)))) ≡ al
      newest target s [] e =
          with_last w.exchange w.states w.stated (w.table w.spot.station) cleared w.opened al start (lines front) (line r) target s (calm target s) (ap (λ o. is_in_doubt (answer_from o)) (abbrev_none target s)) stands
      newest target s (q ∷ l) e =
          absurd (followed w.exchange w.states (w.table w.spot.station) cleared more w.spot.station (frames_of w) front r q l
          (subst (λ m. AllEnded w.exchange.speech more w.spot.station (frames_of w) (but_last m)) (all ∙ ap (λ m. front ++ r ∷ m) e) p.in_doubt) (abbrev_none target s))

      go : (service : Service Q) → r.service ≡ service →
          w.states.state (acts_all start (trims_all (lines front ++ (let b = acts_all start (lines front) in
          if nat_le (weight w.exchange w.states (w.table w.spot.station) cleared (λ a q. 1) b service) 0
          then line r ∷ does (0 - weight w.exchange w.states (w.table w.spot.station) cleared (λ a q. 1) b service) (acted w.exchange w.states (w.table w.spot.station) cleared (λ a q. 1) b service) (lines rest) else [])))) ≡ al
      go (Service.Mails q) s = ap (λ l. w.states.state (acts_all start (trims_all l))) (append-nil (lines front)) ∙ only
      go (Service.State target) s =
          ap (λ service. w.states.state (acts_all start (trims_all (lines front ++ line r ∷ does 0 (acted w.exchange w.states (w.table w.spot.station) cleared (λ a q. 1) (acts_all start (lines front)) service) (lines rest))))) (sym s)
          ∙ newest target s rest refl

  -- THE AL STATE behind what is done
  pub state_is : w.states.state (acts_all start (done_rows w cleared more rows false al)) ≡ al
  state_is = ap (λ l. w.states.state (acts_all start (trims_all l))) done_is ∙ behind (drop p.count rows) refl
