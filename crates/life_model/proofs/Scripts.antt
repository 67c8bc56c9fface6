-- What of a script has begun.
use Rattle.std.proofs.Common.{◌≡◌, ◌⊎◌, inl, inr, ℕ, ◌+◌, ◌==◌, ◌&&◌, Bool, true, false, cond, Option, Some, None, List, [], ◌∷◌, ◌++◌, map, filter, drop, length, refl, ap, sym, ◌∙◌, arith, append_assoc, append-nil, length-append, if◌then◌else◌}
use Rattle.std.specs.Prelude.{nat_lt}
use Rattle.std.proofs.lemmas.Bool.Decides.{nat_tests}
use Rattle.state_model.specs.of_exchange_model.Exchange.{Speech}
use Rattle.state_model.specs.of_segment_model.Slaves.{Datagram, Found}
use Rattle.state_model.specs.of_segment_model.Record.{News}
use Rattle.state_model.specs.of_segment_model.Seats.{Side}
use Rattle.state_model.specs.Stated.{Service}
use Rattle.state_model.specs.Accounts.{Account, Duty, Stage, Pick, Started, account_begins, is_free, is_acknowledged, starts, state_begins}
use Rattle.state_model.specs.Promise.{services_in}
use Rattle.state_model.proofs.Completed.{started_back}
use Rattle.life_model.specs.Own.{own}
use Rattle.life_model.specs.Lives.{Life, Era, Spot, Stand, Opening, granted, era_next, life_next, life_back, life_lost, opening_back, shows_clear, is_shown, last_step, clears, opens, steps_on, reopens, reopens_at, reopening, opens_state, era_back, returns_to_init}
use Rattle.life_model.specs.Eras.{frames_of}
use Rattle.life_model.specs.Book.{Line, EpochBook, SlaveBook, line_of}
use Rattle.life_model.proofs.Books.{map-append}
use Rattle.state_model.specs.of_segment_model.Ends.{Passing}
use Rattle.life_model.specs.Answers.{return_of}
use Rattle.life_model.specs.Chain.{Epoch, Written, Chained, open_era, booked}
use Rattle.life_model.specs.Open.{Setting, Begun, IsOpenLife}
use Rattle.life_model.specs.Script.{services_of, eras_started, life_started, chain_started, open_started, IsScript, TakesNext, left_by}

filter_append : {X : Type 0} (f : X → Bool) (xs ys : List X) → filter f (xs ++ ys) ≡ filter f xs ++ filter f ys
filter_append f [] ys = refl
filter_append f (x ∷ xs) ys = go (f x) (filter_append f xs ys)
  where
    go : (b : Bool) → filter f (xs ++ ys) ≡ filter f xs ++ filter f ys → cond b (x ∷ filter f (xs ++ ys)) (filter f (xs ++ ys)) ≡ cond b (x ∷ filter f xs) (filter f xs) ++ filter f ys
    go true e = ap (λ l. x ∷ l) e
    go false e = e

services_append : {Q : Type 0} (rs ss : List (Started Q)) → services_in (rs ++ ss) ≡ services_in rs ++ services_in ss
services_append [] ss = refl
services_append (r ∷ rs) ss = ap (λ l. r.service ∷ l) (services_append rs ss)

eras_append : {M Q R : Type 0} (es : List (Era M Q R)) (e : Era M Q R) → eras_started (es ++ e ∷ []) ≡ eras_started es ++ services_in e.account.started
eras_append [] e = append-nil (services_in e.account.started)
eras_append (d ∷ es) e = ap (λ l. services_in d.account.started ++ l) (eras_append es e) ∙ sym (append_assoc (services_in d.account.started) (eras_started es) (services_in e.account.started))

not_less : (n : ℕ) → nat_lt n n ≡ false
not_less n = grind (arith, nat_tests)

one_less : (n m : ℕ) → m ≡ n + 1 → nat_lt n m ≡ true
one_less n m e = grind (arith, nat_tests, e)

-- without a service that came into hand all is left
left_same : {Q R : Type 0} (is_scripted : Service Q → Bool) (old new : Account Q R) (begin : Option (Service Q)) (left : List (Service Q)) → new.started ≡ old.started → left_by is_scripted old new begin left ≡ left
left_same is_scripted old new None left e = refl
left_same is_scripted old new (Some s) left e = ap (λ n. if is_scripted s && nat_lt (length old.started) n then drop 1 left else left) (ap length e) ∙ ap (λ b. if is_scripted s && b then drop 1 left else left) (not_less (length old.started)) ∙ go (is_scripted s)
  where
    go : (b : Bool) → (if b && false then drop 1 left else left) ≡ left
    go true = refl
    go false = refl

-- a wish comes into hand, or nothing does
record Grew {Q R : Type 0} (a b : Account Q R) (frame : ℕ) (begin : Option (Service Q)) : Type 0 where
  service : Service Q
  wish : begin ≡ Some service
  started : b.started ≡ starts a service frame

grows : {M Q R : Type 0} (x : Speech M Q R) (acknowledged : Q → Bool) (frame : ℕ) (d : Side M Q R) (a : Account Q R) (hand : Option Duty) (begin : Option (Service Q)) →
    (let b = account_begins x acknowledged frame d a hand begin in (b.started ≡ a.started) ⊎ Grew a b frame begin)
grows x acknowledged frame d a hand None = inl refl
grows x acknowledged frame d a (Some duty) (Some wish) = inl refl
grows x acknowledged frame d a None (Some (Service.Mails q)) = go (x.valid q && is_free x d d.now)
  where
    go : (c : Bool) → (let b = if c then record a { started = starts a (Service.Mails q) frame } else a in (b.started ≡ a.started) ⊎ Grew a b frame (Some (Service.Mails q)))
    go true = inr (record { service = Service.Mails q; wish = refl; started = refl })
    go false = inl refl
grows x acknowledged frame d a None (Some (Service.State target)) = go (is_free x d d.now && is_acknowledged x acknowledged d d.now)
  where
    go : (c : Bool) → (let b = if c then state_begins a target frame else a in (b.started ≡ a.started) ⊎ Grew a b frame (Some (Service.State target)))
    go true = inr (record { service = Service.State target; wish = refl; started = refl })
    go false = inl refl

module _ {M Q R : Type 0} (x : Speech M Q R) (acknowledged : Q → Bool) (more : M → Bool) (passed : Q → Bool) (is_scripted : Service Q → Bool) (scripted left : List (Service Q)) (frame : ℕ) (l : Life M Q R) (pick : Pick Q) where
  abbrev began : Life M Q R
  began = record l { era = era_next x acknowledged more passed frame l.era pick }

  same_script : (e : Life M Q R) → e.past ≡ l.past → e.era.account.started ≡ l.era.account.started → IsScript is_scripted scripted l left → IsScript is_scripted scripted e (left_by is_scripted l.era.account e.era.account pick.begin left)
  same_script e past started k =
      ap (λ m. filter is_scripted (life_started e) ++ m) (left_same is_scripted l.era.account e.era.account pick.begin left started)
      ∙ ap (λ es. filter is_scripted (eras_started es ++ services_in e.era.account.started) ++ left) past ∙ ap (λ ss. filter is_scripted (eras_started l.past ++ services_in ss) ++ left) started ∙ k

  -- one more, the next of the script or another
  grown_script : IsScript is_scripted scripted l left → TakesNext is_scripted left pick → Grew l.era.account began.era.account frame pick.begin → IsScript is_scripted scripted began (left_by is_scripted l.era.account began.era.account pick.begin left)
  grown_script k takes g =
      ap (λ w. filter is_scripted (life_started began) ++ left_by is_scripted l.era.account began.era.account w left) g.wish
      ∙ ap (λ n. filter is_scripted (life_started began) ++ (if is_scripted g.service && n then drop 1 left else left)) (one_less (length l.era.account.started) (length began.era.account.started) longer)
      ∙ ap (λ ss. filter is_scripted ss ++ (if is_scripted g.service && true then drop 1 left else left)) whole ∙ ap (λ ss. ss ++ (if is_scripted g.service && true then drop 1 left else left)) (filter_append is_scripted (life_started l) (g.service ∷ []))
      ∙ append_assoc (filter is_scripted (life_started l)) (filter is_scripted (g.service ∷ [])) _ ∙ ap (λ ss. filter is_scripted (life_started l) ++ ss) (go (is_scripted g.service) refl) ∙ k
    where
      longer : length began.era.account.started ≡ length l.era.account.started + 1
      longer = ap length g.started ∙ length-append l.era.account.started (record { service = g.service; frame = frame } ∷ [])

      whole : life_started began ≡ life_started l ++ g.service ∷ []
      whole = ap (λ ss. eras_started l.past ++ services_in ss) g.started ∙ ap (λ ss. eras_started l.past ++ ss) (services_append l.era.account.started (record { service = g.service; frame = frame } ∷ []))
          ∙ sym (append_assoc (eras_started l.past) (services_in l.era.account.started) (g.service ∷ []))

      go : (b : Bool) → is_scripted g.service ≡ b → cond b (g.service ∷ []) [] ++ (if b && true then drop 1 left else left) ≡ left
      go false e = refl
      go true e = let t = takes g.service g.wish e in ap (λ m. g.service ∷ drop 1 m) t.1 ∙ sym t.1

  pub next_script : (stand : Stand) → IsScript is_scripted scripted l left → TakesNext is_scripted left pick → (let now = life_next x acknowledged more passed frame l stand pick in IsScript is_scripted scripted now (left_by is_scripted l.era.account now.era.account pick.begin left))
  next_script (Stand.Opens o) k takes = same_script l refl refl k
  next_script Stand.Gone k takes = same_script l refl refl k
  next_script Stand.Open k takes = by (grows x acknowledged frame l.era.side l.era.account l.era.account.hand (granted l.era.passing pick).begin)
    where
      wished : (passing : Option Passing) (s : Service Q) → (granted passing pick).begin ≡ Some s → pick.begin ≡ Some s
      wished None s e = e
      wished (Some p) s e = absurd (let bad : None ≡ Some s = e in cc)

      by : (began.era.account.started ≡ l.era.account.started) ⊎ Grew l.era.account began.era.account frame (granted l.era.passing pick).begin → IsScript is_scripted scripted began (left_by is_scripted l.era.account began.era.account pick.begin left)
      by (inl same) = same_script began refl same k
      by (inr g) = grown_script k takes (record { service = g.service; wish = wished l.era.passing g.service g.wish; started = g.started })

-- NO FRAME takes one back
module _ {M Q R : Type 0} (l : Life M Q R) where
  cleared_same : (frame : ℕ) (o : Opening) → life_started (clears frame l o) ≡ life_started l
  cleared_same frame o = append-nil (eras_started (l.past ++ l.era ∷ [])) ∙ eras_append l.past l.era

  opening_same : (frame : ℕ) (o : Opening) (done : Bool) (found : Option Found) → life_started (opening_back frame l o done found) ≡ life_started l
  opening_same frame o done found = go (shows_clear o) (done && is_shown 1 found) (o.step == last_step o) (done && is_shown o.state found)
    where
      go : (shows seen last there : Bool) → life_started (if shows then (if seen then clears frame l o else l) else if last then (if there then opens frame l else l) else steps_on l o) ≡ life_started l
      go true true last there = cleared_same frame o
      go true false last there = refl
      go false seen true true = refl
      go false seen true false = refl
      go false seen false there = refl

reopened_same : {M Q R : Type 0} (l : Life M Q R) (hand : Option Duty) → life_started (reopens l hand) ≡ life_started l
reopened_same l None = refl
reopened_same {M} {Q} {R} l (Some duty) = go duty.stage
  where
    either : (b : Bool) → life_started (if b then record l { stand = reopening (opens_state duty.target) true } else l) ≡ life_started l
    either true = refl
    either false = refl

    go : (stage : Stage) → life_started (reopens_at l duty.target stage) ≡ life_started l
    go Stage.Drains = refl
    go (Stage.Goes phase) = either (returns_to_init duty.target)

module _ {M Q R : Type 0} (x : Speech M Q R) (acknowledged : Q → Bool) (more : M → Bool) (passed : Q → Bool) (spot : Spot) (l : Life M Q R) where
  pub back_same : (frame : ℕ) (news : List (News M)) (back : List (Datagram M)) (came : Option (Bool × Option Found)) (stand : Stand) → life_started (life_back x acknowledged more passed frame spot news back came l stand) ≡ life_started l
  back_same frame news back None (Stand.Opens o) = refl
  back_same frame news back (Some came) (Stand.Opens o) = opening_same l frame o came.0 came.1
  back_same frame news back came Stand.Open =
      let e = era_back x acknowledged more passed spot.station frame news back l.era in
      reopened_same (record l { era = e }) e.account.hand ∙ ap (λ ss. eras_started l.past ++ services_in ss) (started_back spot.station frame l.era.account (own spot.station back))
  back_same frame news back came Stand.Gone = refl

  pub lost_same : (news : List (News M)) (sent : List (Datagram M)) (stand : Stand) → life_started (life_lost x acknowledged more passed spot news sent l stand) ≡ life_started l
  lost_same news sent (Stand.Opens o) = refl
  lost_same news sent Stand.Open = refl
  lost_same news sent Stand.Gone = refl

-- THE ROWS OF A BOOK are what came into hand
module _ {V A M Q R : Type 0} (w : Setting V A M Q R) (gave : List ℕ) where
  abbrev EpochHere : Type 0
  EpochHere = Epoch w.exchange w.lawful w.states w.stated w.processor w.table w.cleared w.more w.spot w.frames

  abbrev rows_of : EpochBook M Q R → List (Service Q)
  rows_of e = map (λ l. l.service) e.lines

  lines_are : (e : EpochHere) (rs : List (Started Q)) → map (λ (l : Line Q R). l.service) (map (λ r. line_of w.exchange.speech w.more w.spot.station (frames_of (open_era w.exchange w.lawful w.states w.stated w.processor w.table w.cleared w.more w.spot w.frames e)) r) rs) ≡ services_in rs
  lines_are e [] = refl
  lines_are e (r ∷ rs) = ap (λ l. r.service ∷ l) (lines_are e rs)

  -- rows, and what is carried over
  written_are : (e : EpochHere) (end : ℕ) (carry : List (Started Q)) (body : EpochBook M Q R) → Written w.exchange w.lawful w.states w.stated w.processor w.table w.cleared w.more w.spot w.frames gave e end carry body →
      rows_of body ++ services_in carry ≡ services_in e.era.account.started
  written_are e end carry body (Written.whole none) =
      append-nil _ ∙ lines_are e e.rows ∙ sym (ap services_in (e.all ∙ ap (λ l. e.rows ++ l) none ∙ append-nil e.rows))
  written_are e end carry body (Written.moved r tail) =
      ap (λ l. l ++ r.service ∷ []) (lines_are e e.rows) ∙ sym (services_append e.rows (r ∷ [])) ∙ sym (ap services_in (e.all ∙ ap (λ l. e.rows ++ l) tail))
  written_are e end carry body (Written.doubted target frame tail returns none) =
      append-nil _ ∙ map-append (λ (l : Line Q R). l.service) (epoch_lines e) _ ∙ ap (λ l. l ++ Service.State target ∷ []) (lines_are e e.rows)
      ∙ sym (services_append e.rows (record { service = Service.State target; frame = frame } ∷ [])) ∙ sym (ap services_in (e.all ∙ ap (λ l. e.rows ++ l) tail))
    where
      epoch_lines : EpochHere → List (Line Q R)
      epoch_lines e = (booked w.exchange w.lawful w.states w.stated w.processor w.table w.cleared w.more w.spot w.frames e).lines

  chain_rows : (stop : ℕ) (carried : List (Started Q)) (end : A) (carry : List (Started Q)) (a : A) (es : List (EpochBook M Q R)) (l : Chained w.exchange w.lawful w.states w.stated w.processor w.table w.cleared w.more w.spot w.frames gave stop carried end carry a es) →
      services_of es ++ services_in carried ≡ services_in carry ++ chain_started w gave stop carried end carry a es l
  chain_rows stop carried end carry a es Chained.none = sym (append-nil (services_in carried))
  chain_rows stop carried end carry a es (Chained.taken_up b e next body more begins t k l) =
      append_assoc (rows_of body) (services_of more) (services_in carried) ∙ ap (λ m. rows_of body ++ m) (chain_rows stop carried end next _ more l)
      ∙ sym (append_assoc (rows_of body) (services_in next) _) ∙ ap (λ m. m ++ chain_started w gave stop carried end next _ more l) (written_are e _ next body k)
  chain_rows stop carried end carry a es (Chained.own_opened b e target frame cleared_at next body more returns is early shown before begins t k l) =
      ap (λ m. Service.State target ∷ m) (append_assoc (rows_of body) (services_of more) (services_in carried) ∙ ap (λ m. rows_of body ++ m) (chain_rows stop carried end next _ more l)
      ∙ sym (append_assoc (rows_of body) (services_in next) _) ∙ ap (λ m. m ++ chain_started w gave stop carried end next _ more l) (written_are e _ next body k))
  chain_rows stop carried end carry a es (Chained.closed b cleared_at more l) = chain_rows stop carried end [] _ more l
  chain_rows stop carried end carry a es (Chained.own_closed b target frame cleared_at more returns early quiet l) = ap (λ m. Service.State target ∷ m) (chain_rows stop carried end [] _ more l)

  services_after : (es fs : List (EpochBook M Q R)) → services_of (es ++ fs) ≡ services_of es ++ services_of fs
  services_after [] fs = refl
  services_after (e ∷ es) fs = ap (λ m. rows_of e ++ m) (services_after es fs) ∙ sym (append_assoc (rows_of e) (services_of es) (services_of fs))

pub open_rows : {V A M Q R : Type 0} (w : Setting V A M Q R) (b : SlaveBook A M Q R) (l : IsOpenLife w b) → services_of b.epochs ≡ open_started w b l
open_rows {V} {A} {M} {Q} {R} w b l =
    ap services_of l.epochs ∙ services_after w b.gave l.past (l.last ∷ []) ∙ ap (λ m. services_of l.past ++ m) (append-nil _ ∙ begun l.carry l.left l.last l.begun)
    ∙ sym (append_assoc (services_of l.past) (services_in l.carry) (services_in l.epoch.era.account.started))
    ∙ ap (λ m. m ++ services_in l.epoch.era.account.started) (chain_rows w b.gave (return_of l.last.cleared) l.carry l.left [] b.first l.past l.before)
  where
    body_is : map (λ (k : Line Q R). k.service) l.body.lines ≡ services_in l.epoch.era.account.started
    body_is = sym (append-nil _) ∙ written_are w b.gave l.epoch (length w.frames) [] l.body l.written

    begun : (carry : List (Started Q)) (left : A) (last : EpochBook M Q R) → Begun w.exchange w.lawful w.states w.stated w.processor w.table w.cleared w.more w.spot w.frames b.gave l.epoch (length w.frames) l.body carry left last →
        map (λ (k : Line Q R). k.service) last.lines ≡ services_in carry ++ services_in l.epoch.era.account.started
    begun carry left last (Begun.taken_up a begins) = body_is
    begun carry left last (Begun.by_own a target frame cleared_at returns is early shown before begins) = ap (λ m. Service.State target ∷ m) body_is
