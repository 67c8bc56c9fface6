-- HOW MANY STEPS the mails that wait, and those that are passed on, may still come: none comes back, and where none came a step on all stand where they did.
use Rattle.std.proofs.Common.{◌≡◌, ◌≤◌, ℕ, zero, suc, ◌+◌, ◌*◌, ◌&&◌, ◌==◌, Bool, true, false, Option, Some, None, List, [], ◌∷◌, map, length, refl, sym, ap, ◌∙◌, arith, if◌then◌else◌, length-append}
use Rattle.std.specs.Prelude.{nat_lt}
use Rattle.run_promises.specs.of_datagrams.Datagram as Raw
use Rattle.run_promises.specs.of_exchange_model.Exchange.{Speech}
use Rattle.seen_slaves.specs.of_frame_view.Seen.{seen}
use Rattle.seen_slaves.specs.of_frame_view.View.{Lens}
use Rattle.seen_slaves.specs.of_frame_view.Shares.{came_at, given_where}
use Rattle.run_promises.specs.of_life_model.Lives.{Life, Opening, Spot, Stand, clears, era_back, granted, is_shown, last_step, life_back, life_lost, life_next, opening_back, opens, opens_state, passes, passing_begins, reopening, reopens, reopens_at, returns_to_init, shows_clear, steps_on}
use Rattle.run_promises.specs.of_life_runs.Led.{Exchanged, speech_at}
use Rattle.run_promises.specs.of_link_mails.Body.{Body}
use Rattle.seen_slaves.specs.of_master_duty.Reply.{Reply}
use Rattle.seen_slaves.specs.of_master_hand.Spoken.{Asked, acknowledged, is_followed, is_passed}
use Rattle.seen_slaves.specs.of_master_side.Passing.{news_back, news_lost}
use Rattle.gateway_run.proofs.of_life_runs.Quiet.{comes_own}
use Rattle.run_promises.specs.of_run_work.ServedGained.{asked_in}
use Rattle.run_promises.specs.of_segment_model.Ends.{Passing, passing_after}
use Rattle.run_promises.specs.of_segment_model.Record.{News}
use Rattle.run_promises.specs.of_segment_model.Slaves.{Datagram, Found}
use Rattle.run_promises.specs.of_segment_ring.declared.wire.Fate.{Fate}
use Rattle.run_promises.specs.of_segment_ring.declared.wire.Fate.TheVariants.{Pass, Lost}
use Rattle.run_promises.specs.of_life_runs.Served.{Keyed, MayAsk, Serves, ServedTurn, ServedComes, IsServedTurn, AllServedTurn, asked_at, gives_it, served_behind, served_life}
use Rattle.run_promises.specs.of_life_runs.Told.{Passed}
use Rattle.seen_slaves.specs.Eager.{AllStill}
use Rattle.run_promises.specs.of_state_model.Stated.{Service}
use Rattle.run_promises.specs.of_state_model.Accounts.{Account, Duty, Pick, Stage, account_next}

abbrev MyLife : Type 0
MyLife = Life Body Asked Reply

-- the steps that one still has before it
abbrev pub rank : Option Passing → ℕ
rank None = 0
rank (Some Passing.Waiting) = 5
rank (Some Passing.Sent) = 4
rank (Some Passing.Boxed) = 3
rank (Some Passing.Served) = 2
rank (Some Passing.Answered) = 1

-- where as many are left it stands where it did
pub rank_same : (p q : Option Passing) → rank p ≡ rank q → p ≡ q
rank_same None None e = refl
rank_same None (Some Passing.Waiting) e = absurd (omega (arith, e))
rank_same None (Some Passing.Sent) e = absurd (omega (arith, e))
rank_same None (Some Passing.Boxed) e = absurd (omega (arith, e))
rank_same None (Some Passing.Served) e = absurd (omega (arith, e))
rank_same None (Some Passing.Answered) e = absurd (omega (arith, e))
rank_same (Some Passing.Waiting) None e = absurd (omega (arith, e))
rank_same (Some Passing.Waiting) (Some Passing.Waiting) e = refl
rank_same (Some Passing.Waiting) (Some Passing.Sent) e = absurd (omega (arith, e))
rank_same (Some Passing.Waiting) (Some Passing.Boxed) e = absurd (omega (arith, e))
rank_same (Some Passing.Waiting) (Some Passing.Served) e = absurd (omega (arith, e))
rank_same (Some Passing.Waiting) (Some Passing.Answered) e = absurd (omega (arith, e))
rank_same (Some Passing.Sent) None e = absurd (omega (arith, e))
rank_same (Some Passing.Sent) (Some Passing.Waiting) e = absurd (omega (arith, e))
rank_same (Some Passing.Sent) (Some Passing.Sent) e = refl
rank_same (Some Passing.Sent) (Some Passing.Boxed) e = absurd (omega (arith, e))
rank_same (Some Passing.Sent) (Some Passing.Served) e = absurd (omega (arith, e))
rank_same (Some Passing.Sent) (Some Passing.Answered) e = absurd (omega (arith, e))
rank_same (Some Passing.Boxed) None e = absurd (omega (arith, e))
rank_same (Some Passing.Boxed) (Some Passing.Waiting) e = absurd (omega (arith, e))
rank_same (Some Passing.Boxed) (Some Passing.Sent) e = absurd (omega (arith, e))
rank_same (Some Passing.Boxed) (Some Passing.Boxed) e = refl
rank_same (Some Passing.Boxed) (Some Passing.Served) e = absurd (omega (arith, e))
rank_same (Some Passing.Boxed) (Some Passing.Answered) e = absurd (omega (arith, e))
rank_same (Some Passing.Served) None e = absurd (omega (arith, e))
rank_same (Some Passing.Served) (Some Passing.Waiting) e = absurd (omega (arith, e))
rank_same (Some Passing.Served) (Some Passing.Sent) e = absurd (omega (arith, e))
rank_same (Some Passing.Served) (Some Passing.Boxed) e = absurd (omega (arith, e))
rank_same (Some Passing.Served) (Some Passing.Served) e = refl
rank_same (Some Passing.Served) (Some Passing.Answered) e = absurd (omega (arith, e))
rank_same (Some Passing.Answered) None e = absurd (omega (arith, e))
rank_same (Some Passing.Answered) (Some Passing.Waiting) e = absurd (omega (arith, e))
rank_same (Some Passing.Answered) (Some Passing.Sent) e = absurd (omega (arith, e))
rank_same (Some Passing.Answered) (Some Passing.Boxed) e = absurd (omega (arith, e))
rank_same (Some Passing.Answered) (Some Passing.Served) e = absurd (omega (arith, e))
rank_same (Some Passing.Answered) (Some Passing.Answered) e = refl

-- ---- the news of a frame
module _ (emission more : Body → Bool) where
  -- a mail that is heard
  heard_less : (a b : Bool) (n : ℕ) (p : Option Passing) → rank p ≤ n → 1 ≤ n → rank (if a then p else if b then Some Passing.Answered else None) ≤ n
  heard_less true b n p less some = less
  heard_less false true n p less some = some
  heard_less false false n p less some = omega arith

  after_less : (p : Passing) (n : News Body) → rank (passing_after emission more p n) ≤ rank (Some p)
  after_less Passing.Waiting (News.Told m) = omega arith
  after_less Passing.Waiting News.Written = omega arith
  after_less Passing.Waiting (News.Heard m) = heard_less (emission m) (more m) 5 (Some Passing.Waiting) (omega arith) (omega arith)
  after_less Passing.Waiting News.NothingRead = omega arith
  after_less Passing.Waiting (News.BoxFull full) = omega arith
  after_less Passing.Waiting (News.Status state refused) = omega arith
  after_less Passing.Sent (News.Told m) = omega arith
  after_less Passing.Sent News.Written = omega arith
  after_less Passing.Sent (News.Heard m) = heard_less (emission m) (more m) 4 (Some Passing.Sent) (omega arith) (omega arith)
  after_less Passing.Sent News.NothingRead = omega arith
  after_less Passing.Sent (News.BoxFull full) = omega arith
  after_less Passing.Sent (News.Status state refused) = omega arith
  after_less Passing.Boxed (News.Told m) = omega arith
  after_less Passing.Boxed News.Written = omega arith
  after_less Passing.Boxed (News.Heard m) = heard_less (emission m) (more m) 3 (Some Passing.Boxed) (omega arith) (omega arith)
  after_less Passing.Boxed News.NothingRead = omega arith
  after_less Passing.Boxed (News.BoxFull true) = omega arith
  after_less Passing.Boxed (News.BoxFull false) = omega arith
  after_less Passing.Boxed (News.Status state refused) = omega arith
  after_less Passing.Served (News.Told m) = omega arith
  after_less Passing.Served News.Written = omega arith
  after_less Passing.Served (News.Heard m) = heard_less (emission m) (more m) 2 None (omega arith) (omega arith)
  after_less Passing.Served News.NothingRead = omega arith
  after_less Passing.Served (News.BoxFull full) = omega arith
  after_less Passing.Served (News.Status state refused) = omega arith
  after_less Passing.Answered (News.Told m) = omega arith
  after_less Passing.Answered News.Written = omega arith
  after_less Passing.Answered (News.Heard m) = heard_less (emission m) (more m) 1 (Some Passing.Answered) (omega arith) (omega arith)
  after_less Passing.Answered News.NothingRead = omega arith
  after_less Passing.Answered (News.BoxFull full) = omega arith
  after_less Passing.Answered (News.Status state refused) = omega arith

module _ (x : Speech Body Asked Reply) where
  passes_less : (p : Option Passing) (ns : List (News Body)) → rank (passes x acknowledged is_followed is_passed p ns) ≤ rank p
  passes_less None ns = omega arith
  passes_less (Some p) [] = omega arith
  passes_less (Some p) (n ∷ ns) = let rest = passes_less (passing_after x.emission is_followed p n) ns in let first = after_less x.emission is_followed p n in omega (arith, rest, first)

  -- ---- a life behind a frame
  opening_less : (made : ℕ) (l : MyLife) (o : Opening) (done : Bool) (found : Option Found) → rank (opening_back made l o done found).era.passing ≤ rank l.era.passing
  opening_less made l o done found = go (shows_clear o) (done && is_shown 1 found) (o.step == last_step o) (done && is_shown o.state found)
    where
      go : (a b c d : Bool) → rank (if a then (if b then clears made l o else l) else if c then (if d then opens made l else l) else steps_on l o).era.passing ≤ rank l.era.passing
      go true true c d = omega arith
      go true false c d = omega arith
      go false b true true = omega arith
      go false b true false = omega arith
      go false b false d = omega arith

  reopens_same : (l : MyLife) (hand : Option Duty) → (reopens l hand).era.passing ≡ l.era.passing
  reopens_same l None = refl
  reopens_same l (Some duty) = go duty.stage
    where
      by : (b : Bool) → (if b then record l { stand = reopening (opens_state duty.target) true } else l).era.passing ≡ l.era.passing
      by true = refl
      by false = refl

      go : (s : Stage) → (reopens_at l duty.target s).era.passing ≡ l.era.passing
      go Stage.Drains = refl
      go (Stage.Goes phase) = by (returns_to_init duty.target)

  back_less : (made : ℕ) (spot : Spot) (ns : List (News Body)) (back : List (Datagram Body)) (came : Option (Bool × Option Found)) (l : MyLife) (stand : Stand) → rank (life_back x acknowledged is_followed is_passed made spot ns back came l stand).era.passing ≤ rank l.era.passing
  back_less made spot ns back None l (Stand.Opens o) = omega arith
  back_less made spot ns back (Some came) l (Stand.Opens o) = opening_less made l o came.0 came.1
  back_less made spot ns back came l Stand.Open =
      let era = era_back x acknowledged is_followed is_passed spot.station made ns back l.era in
      let same = ap rank (reopens_same (record l { era = era }) era.account.hand) in
      let less = passes_less l.era.passing ns in
      omega (arith, same, less)
  back_less made spot ns back came l Stand.Gone = omega arith

  lost_less : (spot : Spot) (ns : List (News Body)) (sent : List (Datagram Body)) (l : MyLife) (stand : Stand) → rank (life_lost x acknowledged is_followed is_passed spot ns sent l stand).era.passing ≤ rank l.era.passing
  lost_less spot ns sent l (Stand.Opens o) = omega arith
  lost_less spot ns sent l Stand.Open = passes_less l.era.passing ns
  lost_less spot ns sent l Stand.Gone = omega arith

  given_same : (gives : Bool) (recover : ℕ) (spot : Spot) (made : ℕ) (l : MyLife) → (given_where gives recover spot made l).era.passing ≡ l.era.passing
  given_same false recover spot made l = refl
  given_same true recover spot made l = refl

  -- ---- and before it: what comes into hand
  begins_less : (p : Option Passing) (old new : Account Asked Reply) (b : Option (Service Asked)) → rank (passing_begins x acknowledged is_followed is_passed p old new b) ≤ 5 + rank p
  begins_less p old new None = omega arith
  begins_less p old new (Some (Service.State target)) = omega arith
  begins_less p old new (Some (Service.Mails q)) = go (is_passed q && nat_lt (length old.started) (length new.started))
    where
      go : (z : Bool) → rank (if z then Some Passing.Waiting else p) ≤ 5 + rank p
      go true = omega arith
      go false = omega arith

  next_less : (made : ℕ) (l : MyLife) (stand : Stand) (pick : Pick Asked) → rank (life_next x acknowledged is_followed is_passed made l stand pick).era.passing ≤ 5 + rank l.era.passing
  next_less made l (Stand.Opens o) pick = omega arith
  next_less made l Stand.Gone pick = omega arith
  next_less made l Stand.Open pick =
      let p = granted l.era.passing pick in
      begins_less l.era.passing l.era.account (account_next x acknowledged made l.era.side l.era.account p) p.begin

  -- nothing that is passed on
  own_same : (p : Option Passing) (old new : Account Asked Reply) (b : Option (Service Asked)) → ((q : Asked) → b ≡ Some (Service.Mails q) → is_passed q ≡ false) → passing_begins x acknowledged is_followed is_passed p old new b ≡ p
  own_same p old new None h = refl
  own_same p old new (Some (Service.State target)) h = refl
  own_same p old new (Some (Service.Mails q)) h = ap (λ (z : Bool). if z && nat_lt (length old.started) (length new.started) then Some Passing.Waiting else p) (h q refl)

  next_own : (made : ℕ) (l : MyLife) (stand : Stand) (pick : Pick Asked) → ((q : Asked) → pick.begin ≡ Some (Service.Mails q) → is_passed q ≡ false) → (life_next x acknowledged is_followed is_passed made l stand pick).era.passing ≡ l.era.passing
  next_own made l (Stand.Opens o) pick h = refl
  next_own made l Stand.Gone pick h = refl
  next_own made l Stand.Open pick h = go l.era.passing
    where
      go : (p : Option Passing) → passing_begins x acknowledged is_followed is_passed p l.era.account (account_next x acknowledged made l.era.side l.era.account (granted p pick)) (granted p pick).begin ≡ p
      go None = own_same None l.era.account (account_next x acknowledged made l.era.side l.era.account pick) pick.begin h
      go (Some p) = refl

-- ---- ONE SLAVE, with the mails that wait for it
abbrev pub steps_of : Serves → ℕ
steps_of w = 5 * length w.waits + rank w.lead.lived.life.era.passing

abbrev pub turn_steps : ServedTurn → ℕ
turn_steps v = 5 * length v.waits + rank v.turn.lived.life.era.passing

none_comes : (b : Option (Service Asked)) → b ≡ None → (q : Asked) → b ≡ Some (Service.Mails q) → is_passed q ≡ false
none_comes b e q f = absurd (let no : None ≡ Some (Service.Mails q) = sym e ∙ f in cc)

-- before a frame
module _ (lens : ℕ → Lens) (made : ℕ) (ds : List Raw.Datagram) (w : Serves) (v : ServedTurn) (t : IsServedTurn lens made ds w v) where
  abbrev x : Speech Body Asked Reply
  x = speech_at lens w.lead.lived.spot

  abbrev old : MyLife
  old = w.lead.lived.life

  abbrev room : ℕ
  room = (lens w.lead.lived.spot.station).out

  life_rank : rank v.turn.lived.life.era.passing ≡ rank (life_next x acknowledged is_followed is_passed made old old.stand t.next.pick).era.passing
  life_rank = ap (λ (l : MyLife). rank l.era.passing) t.next.life

  same : ((q : Asked) → t.next.pick.begin ≡ Some (Service.Mails q) → is_passed q ≡ false) → rank v.turn.lived.life.era.passing ≡ rank old.era.passing
  same h = life_rank ∙ ap rank (next_own x made old old.stand t.next.pick h)

  by : (b : Option (Service Asked)) (n : ℕ) (waits : List Keyed) (hand : Option Passed) → ServedComes room w.lead.script w.waits w.hand w.lead.number b n waits hand → t.next.pick.begin ≡ b →
      5 * length waits + rank v.turn.lived.life.era.passing ≤ 5 * length w.waits + rank old.era.passing
  by _ _ _ _ ServedComes.none is = let e = same (none_comes t.next.pick.begin is) in omega (arith, e)
  by _ _ _ _ (ServedComes.own s m c) is = let e = same (λ q f. comes_own room w.lead.script w.lead.number m (Some s) c q (sym is ∙ f)) in omega (arith, e)
  by _ _ _ _ (ServedComes.mail k rest here) is =
      let less = next_less x made old old.stand t.next.pick in
      let many = ap length here in
      let first = life_rank in
      omega (arith, first, less, many)

  pub turn_less : turn_steps v ≤ steps_of w
  turn_less = by v.turn.begun v.turn.number v.waits v.hand t.comes t.begun

-- and behind it
module _ (lens : ℕ → Lens) (recover retry : ℕ) (gives : Bool) (number : ℕ) (f : Exchanged) where
  life_less : (fate : Fate) (v : ServedTurn) → rank (served_life lens recover retry gives number f fate v).life.era.passing ≤ rank v.turn.lived.life.era.passing
  life_less Pass v =
      let u = v.turn in
      back_less (speech_at lens u.lived.spot) number u.lived.spot (news_back u.lived.spot.station v.kept v.counts (seen lens f.back)) (seen lens f.back) (came_at u.share.under u.share.at (seen lens f.back)) u.lived.life u.lived.life.stand
  life_less (Lost after) v =
      let u = v.turn in
      let y = speech_at lens u.lived.spot in
      let ns = news_lost u.lived.spot.station v.kept (seen lens f.sent) in
      let given = ap rank (given_same y (gives && u.share.under) recover u.lived.spot number (life_lost y acknowledged is_followed is_passed u.lived.spot ns (seen lens f.sent) u.lived.life u.lived.life.stand)) in
      let less = lost_less y u.lived.spot ns (seen lens f.sent) u.lived.life u.lived.life.stand in
      omega (arith, given, less)

  waits_less : (b : Bool) (ks : List Keyed) → length (if b then [] else ks) ≤ length ks
  waits_less true ks = omega arith
  waits_less false ks = omega arith

  behind_less : (v : ServedTurn) → steps_of (served_behind lens recover retry gives number f v) ≤ turn_steps v
  behind_less v = let life = life_less f.fate v in let waits = waits_less (gives_it lens recover retry gives f.fate v) v.waits in omega (arith, life, waits)

  -- where all steps are still to come it stands where it did
  behind_still : (v : ServedTurn) → turn_steps v ≤ steps_of (served_behind lens recover retry gives number f v) → (served_behind lens recover retry gives number f v).lead.lived.life.era.passing ≡ v.turn.lived.life.era.passing
  behind_still v whole =
      let life = life_less f.fate v in
      let waits = waits_less (gives_it lens recover retry gives f.fate v) v.waits in
      rank_same (served_behind lens recover retry gives number f v).lead.lived.life.era.passing v.turn.lived.life.era.passing (omega (arith, whole, life, waits))

-- ---- ALL SLAVES
abbrev pub steps_in : List Serves → ℕ
steps_in [] = 0
steps_in (w ∷ ws) = steps_of w + steps_in ws

abbrev pub turns_in : List ServedTurn → ℕ
turns_in [] = 0
turns_in (v ∷ vs) = turn_steps v + turns_in vs

pub turns_less : (lens : ℕ → Lens) (made : ℕ) (ds : List Raw.Datagram) (ws : List Serves) (vs : List ServedTurn) → AllServedTurn lens made ds ws vs → turns_in vs ≤ steps_in ws
turns_less lens made ds [] [] t = omega arith
turns_less lens made ds [] (v ∷ vs) t = absurd t
turns_less lens made ds (w ∷ ws) [] t = absurd t
turns_less lens made ds (w ∷ ws) (v ∷ vs) t = let first = turn_less lens made ds w v t.0 in let rest = turns_less lens made ds ws vs t.1 in omega (arith, first, rest)

module _ (lens : ℕ → Lens) (recover retry : ℕ) (gives : Bool) (number : ℕ) (f : Exchanged) where
  pub behinds_less : (vs : List ServedTurn) → steps_in (map (served_behind lens recover retry gives number f) vs) ≤ turns_in vs
  behinds_less [] = omega arith
  behinds_less (v ∷ vs) = let first = behind_less lens recover retry gives number f v in let rest = behinds_less vs in omega (arith, first, rest)

  pub behinds_still : (vs : List ServedTurn) → turns_in vs ≤ steps_in (map (served_behind lens recover retry gives number f) vs) → AllStill (served_behind lens recover retry gives number f) vs
  behinds_still [] whole = tt
  behinds_still (v ∷ vs) whole =
      let first = behind_less lens recover retry gives number f v in
      let rest = behinds_less vs in
      (behind_still lens recover retry gives number f v (omega (arith, whole, first, rest)), behinds_still vs (omega (arith, whole, first, rest)))

  -- no mail is asked by a frame
  pub asked_behind : (made : ℕ) (ds : List Raw.Datagram) (ws : List Serves) (vs : List ServedTurn) → AllServedTurn lens made ds ws vs → asked_in (map (served_behind lens recover retry gives number f) vs) ≡ asked_in ws
  asked_behind made ds [] [] t = refl
  asked_behind made ds [] (v ∷ vs) t = absurd t
  asked_behind made ds (w ∷ ws) [] t = absurd t
  asked_behind made ds (w ∷ ws) (v ∷ vs) t = let rest = asked_behind made ds ws vs t.1 in (λ i. length (t.0.same i) + rest i)

-- one that is asked has five before it
pub asked_steps : (lens : ℕ → Lens) (place : ℕ) (k : Keyed) (ws : List Serves) → MayAsk lens place k ws → (steps_in (asked_at place k ws) ≡ 5 + steps_in ws) × (asked_in (asked_at place k ws) ≡ suc (asked_in ws))
asked_steps lens place k [] may = absurd may
asked_steps lens zero k (w ∷ ws) may = let waits = length-append w.waits (k ∷ []) in let asked = length-append w.asked (k ∷ []) in (omega (arith, waits), omega (arith, asked))
asked_steps lens (suc place) k (w ∷ ws) may = let rest = asked_steps lens place k ws may in let steps = rest.0 in let asked = rest.1 in (omega (arith, steps), omega (arith, asked))
