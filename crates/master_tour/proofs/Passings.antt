-- A mail that is passed on: what a frame tells a slave is what its own datagram tells, and the life goes on by it as the stop does.
use Rattle.std.proofs.Common.{◌≡◌, ℕ, ◌==◌, List, [], ◌∷◌, ◌++◌, Bool, true, false, Option, Some, None, refl, sym, ap, ◌∙◌, subst, get_or, take, drop, ◌+◌, map, length}
use Rattle.std.specs.Prelude.{◌&&◌, not, nat_lt, is_some, if◌then◌else◌}
use Rattle.master_side.specs.of_al_state.declared.bringing.BringUp.{BringUp}
use Rattle.master_side.specs.of_al_state.BringUp.{is_behind_init, step_behind, is_up}
use Rattle.master_side.specs.of_datagrams.declared.frame.Part.{Part}
use Rattle.master_side.specs.of_exchange_model.Exchange.{Speech}
use Rattle.master_side.specs.of_frame_view.View.{Lens, station_of}
use Rattle.master_side.specs.of_frame_view.Seen.{part_seen}
use Rattle.master_side.specs.of_life_model.Lives
use Rattle.master_side.specs.of_life_model.Lives.{Life, Spot, granted, passing_begins, passes, opening_back, opens, new_era, reopens, reopens_at, returns_to_init, reopening, opens_state, era_back, life_next, life_back, life_lost}
use Rattle.master_side.specs.of_link_mails.Body.{Body}
use Rattle.master_side.specs.of_link_model.Link.{Halves}
use Rattle.master_side.specs.of_segment_model.Ends as Ends
use Rattle.master_side.specs.of_segment_model.Record.{News, Kept, without_empty, all_told, back_news, datagram_news, mail_told, last_told, gram_news, last_heard, found_news}
use Rattle.master_side.specs.of_segment_model.Slaves.{Datagram, Access, Found, grams}
use Rattle.master_side.specs.of_segment_model.Seats.{Side}
use Rattle.master_side.specs.of_state_model.Stated.{Service}
use Rattle.master_side.specs.of_state_model.Accounts
use Rattle.master_side.specs.of_state_model.Accounts.{Account, Pick, account_next}
use Rattle.master_side.specs.Carried.{Meant, IsBack, one}
use Rattle.master_side.specs.Passing.{PassingShows, passing_seen, passing_behind, news_back, news_lost}
use Rattle.master_side.specs.Shown.{started_by}
use Rattle.master_side.specs.declared.carried.Carried.{Carried}
use Rattle.master_side.specs.declared.passing.Passing.{Passing}
use Rattle.master_side.specs.of_master_duty.Reply.{Reply}
use Rattle.master_tour.specs.Under.{Grams, mine, IsAt, Under}
use Rattle.master_tour.specs.Stands.{IsMet, StopShows, is_still, opening_of, is_open, Counts}
use Rattle.master_tour.specs.Passing.{StandPassing}
use Rattle.master_tour.specs.declared.stop.Stand.{Stand}
use Rattle.master_tour.proofs.Unders.{SameAim, at_map, status_whole}
use Rattle.master_tour.proofs.Openings.{Turns, turns, sees_clear, seen_shown, lt_more}

abbrev Bodies : Type 0
Bodies = List (News Body)

-- only its own datagrams tell a slave something
told_mine : (station last : ℕ) (ds : Grams) → all_told station last (grams ds) ≡ all_told station last (grams (mine station ds))
told_mine station last [] = refl
told_mine station last (d ∷ ds) = go (d.gram.station == station) refl (λ k. told_mine station k ds)
  where
    go : (z : Bool) → (d.gram.station == station) ≡ z → ((k : ℕ) → all_told station k (grams ds) ≡ all_told station k (grams (mine station ds))) → all_told station last (grams (d ∷ ds)) ≡ all_told station last (grams (mine station (d ∷ ds)))
    go true e ih = ap (λ l. (if d.gram.station == station then mail_told last d.gram.ask else []) ++ l) (ih (if d.gram.station == station then last_told last d.gram.ask else last))
        ∙ sym (ap (λ (z : Bool). all_told station last (grams (if z then d ∷ mine station ds else mine station ds))) e)
    go false e ih = (λ i. (if e i then mail_told last d.gram.ask else []) ++ all_told station (if e i then last_told last d.gram.ask else last) (grams ds))
        ∙ ih last ∙ sym (ap (λ (z : Bool). all_told station last (grams (if z then d ∷ mine station ds else mine station ds))) e)

back_mine : (station last : ℕ) (ds : Grams) → SameAim station ds → back_news station last ds ≡ back_news station last (mine station ds)
back_mine station last [] a = refl
back_mine station last (d ∷ ds) a = go (d.gram.station == station) refl (λ k. back_mine station k ds a.1)
  where
    go : (z : Bool) → (d.gram.station == station) ≡ z → ((k : ℕ) → back_news station k ds ≡ back_news station k (mine station ds)) → back_news station last (d ∷ ds) ≡ back_news station last (mine station (d ∷ ds))
    go true e ih = ap (λ l. datagram_news station last d ++ l) (ih (if d.gram.station == station then last_heard last d.gram.ask d.gram else last))
        ∙ sym (ap (λ (z : Bool). back_news station last (if z then d ∷ mine station ds else mine station ds)) e)
    go false e ih = (λ i. ((if e i then gram_news last d.gram.ask d.gram else []) ++ (if (a.0 ∙ e) i then (if d.counter == 0 then [] else found_news d.found) else []))
        ++ back_news station (if e i then last_heard last d.gram.ask d.gram else last) ds)
        ∙ ih last ∙ sym (ap (λ (z : Bool). back_news station last (if z then d ∷ mine station ds else mine station ds)) e)

back_own : (station : ℕ) (kept : Kept) (counts : Bool) (ds : Grams) → SameAim station ds → news_back station kept counts ds ≡ news_back station kept counts (mine station ds)
back_own station kept counts ds a = ap (λ (ns : Bodies). if counts then ns else without_empty ns) (λ i. map (λ m. News.Told m) (told_mine station kept.told ds i) ++ back_mine station kept.heard ds a i)

lost_own : (station : ℕ) (kept : Kept) (ds : Grams) → news_lost station kept ds ≡ news_lost station kept (mine station ds)
lost_own station kept ds = ap (λ ms. map (λ m. News.Told m) ms ++ []) (told_mine station kept.told ds)

none_told : (station : ℕ) (kept : Kept) (counts : Bool) → news_back station kept counts [] ≡ []
none_told station kept true = refl
none_told station kept false = refl

-- ITS DATAGRAM CAME BACK
pub has_told : (P : Bodies → Type 0) (station at : ℕ) (kept : Kept) (counts under : Bool) (carried : Carried) (due : Option Access) (lens : ℕ → Lens) (octets body : List ℕ) (ps : List Part) (p z : Part) (back : Grams) (h : Halves Body) →
    under ≡ true → p ≡ get_or ps at z → body ≡ take p.head.len (drop (p.at + 10) octets) → back ≡ map (part_seen lens octets) ps → SameAim station back → Under station at under carried h due back →
    ((b : Datagram Body) → Meant station carried h due b → IsBack p.head.counter body b → P (news_back station kept counts (one b))) → P (news_back station kept counts back)
has_told P station at kept counts under carried due lens octets body ps p z back h is g o e y (Under.none k n) f = absurd (let t = sym k ∙ is in cc)
has_told P station at kept counts under carried due lens octets body ps p z back h is g o e y (Under.has b u i n m) f =
    let same : b ≡ part_seen lens octets p = at_map (part_seen lens octets) at ps z b (subst (λ z. IsAt at z b) e i) ∙ ap (part_seen lens octets) (sym g) in
    let came : IsBack p.head.counter (take p.head.len (drop (p.at + 10) octets)) (part_seen lens octets p) = record { counted = refl; mail = refl; acknowledge = refl; registers = refl; found = refl; whole = status_whole (lens (station_of p.head.command p.head.adp)) p.head.command p.head.ado (take p.head.len (drop (p.at + 10) octets)) } in
    subst P (sym (back_own station kept counts back y ∙ ap (news_back station kept counts) n))
    (f b m (subst (λ z. IsBack p.head.counter z b) (sym o) (subst (λ (z : Datagram Body). IsBack p.head.counter (take p.head.len (drop (p.at + 10) octets)) z) (sym same) came)))

pub has_gone : (P : Bodies → Type 0) (station at : ℕ) (kept : Kept) (under : Bool) (carried : Carried) (due : Option Access) (sent : Grams) (h : Halves Body) → under ≡ true → Under station at under carried h due sent →
    ((b : Datagram Body) → Meant station carried h due b → P (news_lost station kept (one b))) → P (news_lost station kept sent)
has_gone P station at kept under carried due sent h is (Under.none k n) f = absurd (let t = sym k ∙ is in cc)
has_gone P station at kept under carried due sent h is (Under.has b u i n m) f = subst P (sym (lost_own station kept sent ∙ ap (news_lost station kept) n)) (f b m)

module _ {Q : Type 0} (x : Speech Body Q Reply) (acknowledged : Q → Bool) (more : Body → Bool) (passed : Q → Bool) where
  by_none : (p : Option Ends.Passing) → passes x acknowledged more passed p [] ≡ p
  by_none None = refl
  by_none (Some p) = refl

  -- nothing of it did
  pub nothing_told : (station : ℕ) (kept : Kept) (counts : Bool) (back : Grams) (awaits : Bool) (passing : Option Passing) (p : Option Ends.Passing) → SameAim station back → mine station back ≡ [] → PassingShows awaits passing p →
      PassingShows awaits passing (passes x acknowledged more passed p (news_back station kept counts back))
  nothing_told station kept counts back awaits passing p a e s =
      subst (λ q. PassingShows awaits passing q) (sym (ap (passes x acknowledged more passed p) (back_own station kept counts back a ∙ ap (news_back station kept counts) e ∙ none_told station kept counts) ∙ by_none p)) s

  pub nothing_gone : (station : ℕ) (kept : Kept) (sent : Grams) (awaits : Bool) (passing : Option Passing) (p : Option Ends.Passing) → mine station sent ≡ [] → PassingShows awaits passing p →
      PassingShows awaits passing (passes x acknowledged more passed p (news_lost station kept sent))
  nothing_gone station kept sent awaits passing p e s =
      subst (λ q. PassingShows awaits passing q) (sym (ap (passes x acknowledged more passed p) (lost_own station kept sent ∙ ap (news_lost station kept) e) ∙ by_none p)) s

-- a life of the same epoch
pub same_era : {Q : Type 0} (stand : Stand) (awaits : Bool) (p : Option Passing) (l m : Life Body Q Reply) → m.era.passing ≡ l.era.passing → StandPassing stand awaits p l → StandPassing stand awaits p m
same_era (Stand.Opening up) awaits p l m e s = λ f. subst (λ q. PassingShows awaits p q) (sym e) (s f)
same_era Stand.Open awaits p l m e s = subst (λ q. PassingShows awaits p q) (sym e) s
same_era Stand.Gone awaits p l m e s = tt

reopens_era : {Q : Type 0} (l : Life Body Q Reply) (hand : Option Accounts.Duty) → (reopens l hand).era.passing ≡ l.era.passing
reopens_era l None = refl
reopens_era l (Some duty) = go duty.stage
  where
    by : (b : Bool) → (if b then record l { stand = reopening (opens_state duty.target) true } else l).era.passing ≡ l.era.passing
    by true = refl
    by false = refl

    go : (s : Accounts.Stage) → (reopens_at l duty.target s).era.passing ≡ l.era.passing
    go Accounts.Stage.Drains = refl
    go (Accounts.Stage.Goes phase) = by (returns_to_init duty.target)

-- a state service that drained begins a reopening, or not
pub reopens_stays : {Q : Type 0} (stand : Stand) (awaits : Bool) (p : Option Passing) (l : Life Body Q Reply) (hand : Option Accounts.Duty) → StandPassing stand awaits p l → StandPassing stand awaits p (reopens l hand)
reopens_stays stand awaits p l hand s = same_era stand awaits p l (reopens l hand) (reopens_era l hand) s

-- before it has shown Init nothing is said
pub still_says : {Q : Type 0} (stand : Stand) (up : BringUp) (awaits : Bool) (p : Option Passing) (l : Life Body Q Reply) → stand ≡ Stand.Opening up → is_still up ≡ true → StandPassing stand awaits p l
still_says stand up awaits p l e s = subst (λ z. StandPassing z awaits p l) (sym e) (λ f. absurd (let t : true ≡ false = sym s ∙ f in cc))

none_awaits : (awaits : Bool) (p : Option Passing) → p ≡ None → is_some p ≡ true → awaits ≡ true
none_awaits awaits None e t = absurd (cc)
none_awaits awaits (Some p) e t = absurd (cc)

still_same : (awaits awaits' : Bool) (p p' : Option Passing) (q : Option Ends.Passing) → (p' ≡ p) × (awaits ≡ true → awaits' ≡ true) → PassingShows awaits p q → PassingShows awaits' p' q
still_same awaits awaits' p p' q (e, a) s = record { is = s.is ∙ ap passing_seen (sym e); awaited = λ t. a (s.awaited (ap (λ (o : Option Passing). is_some o) (sym e) ∙ t)) }

module _ {Q : Type 0} (x : Speech Body Q Reply) (acknowledged : Q → Bool) (more : Body → Bool) (passed : Q → Bool) where
  -- AN OPENING'S ACCESS CAME BACK
  turned_passing : (frame : ℕ) (l : Life Body Q Reply) (up next : BringUp) (own : Bool) (m : Life Body Q Reply) (ends clears awaits awaits' : Bool) (p p' : Option Passing) → Turns frame l up next own m ends clears →
      (clears ≡ false → (p' ≡ p) × (awaits ≡ true → awaits' ≡ true)) → (clears ≡ true → p' ≡ None) → (is_still up ≡ false → PassingShows awaits p l.era.passing) →
      StandPassing (if ends then Stand.Open else Stand.Opening next) awaits' p' m
  turned_passing frame l up next own m ends clears awaits awaits' p p' (Turns.opened u c s e) keeps renews h =
      subst (λ z. StandPassing (if ends then Stand.Open else Stand.Opening next) awaits' p' z) (sym e)
      (subst (λ (z : Bool). StandPassing (if z then Stand.Open else Stand.Opening next) awaits' p' (opens frame l)) (sym u) (still_same awaits awaits' p p' l.era.passing (keeps c) (h s)))
  turned_passing frame l up next own m ends clears awaits awaits' p p' (Turns.cleared u c s n t e) keeps renews h =
      subst (λ z. StandPassing (if ends then Stand.Open else Stand.Opening next) awaits' p' z) (sym e)
      (subst (λ (z : Bool). StandPassing (if z then Stand.Open else Stand.Opening next) awaits' p' (record { past = l.past ++ l.era ∷ []; era = new_era (Some frame) up.start; stand = Lives.Stand.Opens (opening_of next own); gave = l.gave })) (sym u)
      (λ f. record { is = ap passing_seen (sym (renews c)); awaited = none_awaits awaits' p' (renews c) }))
  turned_passing frame l up next own m ends clears awaits awaits' p p' (Turns.on u c n t e) keeps renews h =
      subst (λ z. StandPassing (if ends then Stand.Open else Stand.Opening next) awaits' p' z) (sym e)
      (subst (λ (z : Bool). StandPassing (if z then Stand.Open else Stand.Opening next) awaits' p' (record l { stand = Lives.Stand.Opens (opening_of next own) })) (sym u)
      (λ f. still_same awaits awaits' p p' l.era.passing (keeps c) (h (sym n ∙ f))))

  pub opening_passing : (shows : Side Body Q Reply → Account Q Reply → Type 0) (frame recover : ℕ) (spot : Spot) (spare : ℕ) (up next : BringUp) (l : Life Body Q Reply) (ns : Bodies) (back : Grams) (came : Bool × Option Found) (counter : ℕ) (body : List ℕ) (ends clears awaits awaits' : Bool)
      (p p' : Option Passing) (stand : Stand) → next ≡ record up { step = step_behind up counter body } → ends ≡ is_up up counter body → clears ≡ (not (up.again && is_behind_init up.step) && (next.again && is_behind_init next.step)) →
      stand ≡ (if ends then Stand.Open else Stand.Opening next) → IsMet up counter body came → StopShows shows recover spot (Stand.Opening up) spare l →
      (clears ≡ false → (p' ≡ p) × (awaits ≡ true → awaits' ≡ true)) → (clears ≡ true → p' ≡ None) → StandPassing (Stand.Opening up) awaits p l →
      StandPassing stand awaits' p' (life_back x acknowledged more passed frame spot ns back (Some came) l l.stand)
  opening_passing shows frame recover spot spare up next l ns back came counter body ends clears awaits awaits' p p' stand n u c st met sh keeps renews h =
      let s = sh.stood in
      let up' : BringUp = record up { step = step_behind up counter body } in
      let clears' = sees_clear frame up.adp up.station up.out_len up.in_len up.start s.own l came.0 came.1 counter body up in
      let is : clears ≡ clears' = c ∙ ap (λ (z : BringUp). not (up.again && is_behind_init up.step) && (z.again && is_behind_init z.step)) n in
      let t = turns frame up.adp up.station up.out_len up.in_len up.start s.own l came.0 came.1 counter body up.again up.step s.stand s.opening.step
      (λ r. seen_shown counter body 1 came.0 came.1 refl (met.done r) (met.found r) (met.whole r)) (λ r. seen_shown counter body up.start came.0 came.1 s.opening.state (met.done r) (met.found r) (met.whole r)) in
      let base = turned_passing frame l up up' s.own (opening_back frame l (opening_of up s.own) came.0 came.1) (is_up up counter body) clears' awaits awaits' p p' t (λ e. keeps (is ∙ e)) (λ e. renews (is ∙ e)) h in
      subst (λ z. StandPassing stand awaits' p' (life_back x acknowledged more passed frame spot ns back (Some came) l z)) (sym s.stand)
      (subst (λ z. StandPassing z awaits' p' (opening_back frame l (opening_of up s.own) came.0 came.1)) (sym (st ∙ (λ i. if u i then Stand.Open else Stand.Opening (n i)))) base)

  -- nothing did
  pub nothing_passing : (frame : ℕ) (spot : Spot) (ns : Bodies) (back : Grams) (l : Life Body Q Reply) (o : Lives.Opening) (got : Option (Bool × Option Found)) (stand : Stand) (awaits : Bool) (p : Option Passing) → got ≡ None → l.stand ≡ Lives.Stand.Opens o →
      StandPassing stand awaits p l → StandPassing stand awaits p (life_back x acknowledged more passed frame spot ns back got l l.stand)
  nothing_passing frame spot ns back l o got stand awaits p e st s =
      subst (λ z. StandPassing stand awaits p (life_back x acknowledged more passed frame spot ns back z l l.stand)) (sym e)
      (subst (λ z. StandPassing stand awaits p (life_back x acknowledged more passed frame spot ns back None l z)) (sym st) s)

  -- a slave that is gone
  pub gone_passing : (stand : Stand) (awaits : Bool) (p : Option Passing) (l : Life Body Q Reply) → stand ≡ Stand.Gone → StandPassing stand awaits p l
  gone_passing stand awaits p l e = subst (λ z. StandPassing z awaits p l) (sym e) tt

  -- AN OPEN SLAVE behind a frame that came back
  pub open_passing : (frame : ℕ) (spot : Spot) (ns : Bodies) (back : Grams) (l : Life Body Q Reply) (got : Option (Bool × Option Found)) (stand : Stand) (awaits : Bool) (p : Option Passing) → l.stand ≡ Lives.Stand.Open →
      (let now = era_back x acknowledged more passed spot.station frame ns back l.era in StandPassing stand awaits p (reopens (record l { era = now }) now.account.hand)) → StandPassing stand awaits p (life_back x acknowledged more passed frame spot ns back got l l.stand)
  open_passing frame spot ns back l got stand awaits p st s = subst (λ z. StandPassing stand awaits p (life_back x acknowledged more passed frame spot ns back got l z)) (sym st) (go got)
    where
      go : (z : Option (Bool × Option Found)) → StandPassing stand awaits p (life_back x acknowledged more passed frame spot ns back z l Lives.Stand.Open)
      go None = s
      go (Some came) = s

  -- and behind a lost one; another is as it was
  pub lost_still : (spot : Spot) (ns : Bodies) (sent : Grams) (l : Life Body Q Reply) (stand : Stand) (awaits : Bool) (p : Option Passing) → is_open l.stand ≡ false → StandPassing stand awaits p l → StandPassing stand awaits p (life_lost x acknowledged more passed spot ns sent l l.stand)
  lost_still spot ns sent l stand awaits p e s = go l.stand e
    where
      go : (z : Lives.Stand) → is_open z ≡ false → StandPassing stand awaits p (life_lost x acknowledged more passed spot ns sent l z)
      go (Lives.Stand.Opens o) f = s
      go Lives.Stand.Open f = absurd (cc)
      go Lives.Stand.Gone f = s

  pub lost_open : (spot : Spot) (ns : Bodies) (sent : Grams) (l : Life Body Q Reply) (stand : Stand) (awaits : Bool) (p : Option Passing) → l.stand ≡ Lives.Stand.Open → stand ≡ Stand.Open → PassingShows awaits p (passes x acknowledged more passed l.era.passing ns) →
      StandPassing stand awaits p (life_lost x acknowledged more passed spot ns sent l l.stand)
  lost_open spot ns sent l stand awaits p e f s =
      subst (λ z. StandPassing stand awaits p (life_lost x acknowledged more passed spot ns sent l z)) (sym e)
      (subst (λ z. StandPassing z awaits p (life_lost x acknowledged more passed spot ns sent l Lives.Stand.Open)) (sym f) s)

  -- THE LIFE BEFORE A FRAME: another than an open slave is as it was
  pub next_still : (made : ℕ) (l : Life Body Q Reply) (pick : Pick Q) (stand : Stand) (awaits : Bool) (p : Option Passing) → is_open l.stand ≡ false → StandPassing stand awaits p l → StandPassing stand awaits p (life_next x acknowledged more passed made l l.stand pick)
  next_still made l pick stand awaits p e s = go l.stand e
    where
      go : (z : Lives.Stand) → is_open z ≡ false → StandPassing stand awaits p (life_next x acknowledged more passed made l z pick)
      go (Lives.Stand.Opens o) f = s
      go Lives.Stand.Open f = absurd (cc)
      go Lives.Stand.Gone f = s

  -- what comes into hand is counted, and waits where it is passed on
  begins_so : (p : Option Ends.Passing) (old new : Account Q Reply) (made : ℕ) (begin : Option (Service Q)) → new.started ≡ old.started ++ started_by made begin → passing_begins x acknowledged more passed p old new begin ≡ passing_behind passed p begin
  begins_so p old new made None e = refl
  begins_so p old new made (Some (Service.State target)) e = refl
  begins_so p old new made (Some (Service.Mails q)) e =
      ap (λ (b : Bool). if passed q && b then Some Ends.Passing.Waiting else p) (ap (λ ss. nat_lt (length old.started) (length ss)) e ∙ lt_more old.started (record { service = Service.Mails q; frame = made })) ∙ go (passed q)
    where
      go : (z : Bool) → (if z && true then Some Ends.Passing.Waiting else p) ≡ (if z then Some Ends.Passing.Waiting else p)
      go true = refl
      go false = refl

  pub next_open : (made : ℕ) (l : Life Body Q Reply) (begin : Option (Service Q)) (hold : Bool) (stand : Stand) (awaits : Bool) (p : Option Passing) → l.stand ≡ Lives.Stand.Open → stand ≡ Stand.Open → (is_some l.era.passing ≡ true → begin ≡ None) →
      (let n = life_next x acknowledged more passed made l l.stand (record { begin = begin; hold = hold }) in Counts made begin l n → PassingShows awaits p (passing_behind passed l.era.passing begin) → StandPassing stand awaits p n)
  next_open made l begin hold stand awaits p o t w = λ counts s.
      subst (λ z. StandPassing stand awaits p (life_next x acknowledged more passed made l z pick)) (sym o)
      (subst (λ z. StandPassing z awaits p (life_next x acknowledged more passed made l Lives.Stand.Open pick)) (sym t)
      (subst (λ q. PassingShows awaits p q) (sym (go l.era.passing w (subst (λ z. Counts made begin l (life_next x acknowledged more passed made l z pick)) o counts))) s))
    where
      pick : Pick Q
      pick = record { begin = begin; hold = hold }

      go : (q : Option Ends.Passing) → (is_some q ≡ true → begin ≡ None) → (account_next x acknowledged made l.era.side l.era.account (granted q pick)).started ≡ l.era.account.started ++ started_by made begin →
          passing_begins x acknowledged more passed q l.era.account (account_next x acknowledged made l.era.side l.era.account (granted q pick)) (granted q pick).begin ≡ passing_behind passed q begin
      go None k e = begins_so None l.era.account (account_next x acknowledged made l.era.side l.era.account pick) made begin e
      go (Some q) k e = sym (ap (passing_behind passed (Some q)) (k refl))

-- the side has a mail that is passed on where the life does
pub passing_waits : (awaits : Bool) (p : Option Passing) (q : Option Ends.Passing) → PassingShows awaits p q → is_some q ≡ true → is_some p ≡ true
passing_waits awaits None q s e = absurd (let t : is_some (passing_seen None) ≡ true = ap (λ (o : Option Ends.Passing). is_some o) (sym s.is) ∙ e in cc)
passing_waits awaits (Some p) q s e = refl
