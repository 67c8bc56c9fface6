-- WHAT A MASTER SHOWS OF THE SLAVES OF A SERVING behind a frame that came back.
use Rattle.std.proofs.Common.{◌≡◌, ◌≤◌, ◌<◌, ℕ, zero, suc, ◌+◌, ◌-◌, ◌%◌, ◌^◌, Bool, true, false, Option, None, Some, List, [], ◌∷◌, refl, sym, ap, ◌∙◌, subst, length, arith}
use Rattle.std.specs.Prelude.{◌||◌, is_some, map, nat_le, if◌then◌else◌}
use Rattle.std.proofs.Math.Nat.{add-mod_right, mod-eq_of_lt}
use Rattle.life_runs.proofs.Lives.{back_life}
use Rattle.life_runs.specs.Led.{Exchanged, led_behind, speech_at}
use Rattle.life_runs.specs.of_frame_view.View.{Lens}
use Rattle.life_runs.specs.of_frame_view.Seen.{seen}
use Rattle.life_runs.specs.of_frame_view.Frames.{Share, AreApart}
use Rattle.life_runs.specs.of_frame_view.Shares.{Lived, AllBoth, AllThree, AreDistinct, IsElsewhere, came_at, lived_back}
use Rattle.life_runs.specs.of_segment_ring.declared.wire.Fate.{Fate}
use Rattle.life_runs.specs.of_segment_ring.declared.wire.Fate.TheVariants.{Pass}
use Rattle.life_runs.specs.of_link_model.Link.{Halves}
use Rattle.life_runs.specs.of_master_duty.Reply.{Reply}
use Rattle.life_runs.specs.of_exchange_model.Exchange.{Speech}
use Rattle.life_runs.specs.of_segment_model.Ends as Ends
use Rattle.life_runs.specs.of_segment_model.Record.{Kept, News}
use Rattle.life_runs.specs.of_segment_model.Returned.{Returns}
use Rattle.life_runs.specs.of_segment_model.Seats.{Side}
use Rattle.life_runs.specs.of_segment_model.Slaves.{Access, Datagram, Found}
use Rattle.life_runs.specs.of_state_model.Accounts as Accounts
use Rattle.life_runs.specs.of_state_model.Accounts.{Account, duty_access}
use Rattle.life_runs.specs.of_master_hand.Laying.{scripted}
use Rattle.life_runs.specs.of_master_hand.Shown.{awaits_reply, knows}
use Rattle.life_runs.specs.of_master_hand.Spoken.{Asked, acknowledged, is_followed, is_passed}
use Rattle.life_runs.specs.of_master_hand.declared.hand.InHand.{InHand}
use Rattle.life_runs.specs.of_master_side.Passing.{PassingShows, counts_at, news_back}
use Rattle.life_runs.specs.of_master_side.declared.carried.Carried.{Carried}
use Rattle.life_runs.specs.of_master_side.declared.hand.Hand.{Ghosts}
use Rattle.life_runs.specs.of_master_side.declared.passing.Passing.{Passing}
use Rattle.life_runs.specs.of_link_mails.Body.{Body}
use Rattle.life_runs.specs.of_master_tour.Counting.{StandCounts, StopCounts}
use Rattle.life_runs.specs.of_master_tour.Goes.{is_opened, holds_at, opened_behind}
use Rattle.life_runs.specs.of_master_tour.Passing.{StandPassing}
use Rattle.life_runs.specs.of_master_tour.Stands.{StandShows, StandUnder, is_opening}
use Rattle.life_runs.specs.of_master_tour.Brings.{accepted_in}
use Rattle.life_runs.specs.of_master_tour.Under.{Under, mine}
use Rattle.life_runs.specs.of_master_tour.Walks.{EachPair}
use Rattle.life_runs.specs.of_master_tour.declared.stop.Stand.{Stand}
use Rattle.life_runs.specs.of_master_tour.declared.stop.Stop.{Stop}
use Rattle.life_runs.specs.of_life_model.Lives
use Rattle.life_runs.specs.of_life_model.Lives.{Life, Spot, era_back, life_back, opens_state, passes, reopening, reopens, reopens_at, returns_to_init}
use Rattle.life_runs.proofs.of_master_tour.Backs.{seen_aims}
use Rattle.life_runs.proofs.of_master_tour.Passings.{nothing_told}
use Rattle.life_runs.proofs.of_master_tour.Unders.{SameAim, under_back}
use Rattle.life_runs.specs.of_master_side.Counts.{counts_on}
use Rattle.life_runs.specs.Served.{Serves, ServedTurn, served_behind}
use Rattle.master_node.specs.Besides.{back_does, by_stop, stays}
use Rattle.master_node.specs.Handed.{work_at}
use Rattle.master_node.specs.Inhand.{HasInHand}
use Rattle.master_node.specs.Named.{StaysNamed}
use Rattle.master_node.specs.Serving.{IsServed, IsServedUnder, run_lead, run_turn, waits_of}
use Rattle.master_node.specs.Shows.{GoesOn, GoesUnder, IsLived, is_opening_lead, lived_of, side_shows}
use Rattle.master_node.specs.declared.post.Post.{Post}
use Rattle.master_node.specs.declared.post.Work.{Work}
use Rattle.master_node.proofs.Endings.{stays_where}
use Rattle.master_node.proofs.Goings.{ahead_behind}
use Rattle.master_node.proofs.Handeds.{back_handed, back_passing, stays_open}
use Rattle.master_node.proofs.ServedSents.{waits_alike}

-- the number of the frame under way is one less than that of the next
pub back_made : (m made : ℕ) → m ≡ suc made → suc made < 2 ^ 32 → (m + (2 ^ 32 - 1)) % 2 ^ 32 ≡ made
back_made m made e l =
    let n : m + (2 ^ 32 - 1) ≡ made + 2 ^ 32 = omega (arith, e) in
    ap (λ z. z % 2 ^ 32) n ∙ add-mod_right made (2 ^ 32) ∙ mod-eq_of_lt (omega (arith, l))

-- where the life is open the master has it so
pub open_stand : (shows : Side Body Asked Reply → Account Asked Reply → Type 0) (spot : Spot) (stand : Stand) (l : Life Body Asked Reply) → StandShows shows spot stand l → l.stand ≡ Lives.Stand.Open → stand ≡ Stand.Open
open_stand shows spot (Stand.Opening up) l s e = absurd (let t = sym s.stand ∙ e in cc)
open_stand shows spot Stand.Open l s e = refl
open_stand shows spot Stand.Gone l s e = absurd (let t = sym s ∙ e in cc)

counts_is : (stand : Stand) (at : Option ℕ) (pace made : ℕ) (counts : Bool) → stand ≡ Stand.Open → StandCounts stand at pace made counts → counts_at at pace made ≡ counts
counts_is stand at pace made counts e k = (subst (λ z. StandCounts z at pace made counts) e k).is

-- how far a mail comes by news
abbrev passes_on : Speech Body Asked Reply → Option Ends.Passing → List (News Body) → Option Ends.Passing
passes_on x p ns = passes x acknowledged is_followed is_passed p ns

-- no further where the frame had nothing of its slave
none_told : (x : Speech Body Asked Reply) (station : ℕ) (kept : Kept) (counts : Bool) (back : List (Datagram Body)) (awaits : Bool) (passing : Option Passing) (p : Option Ends.Passing) → SameAim station back → mine station back ≡ [] → PassingShows awaits passing p →
    passes_on x p (news_back station kept counts back) ≡ p
none_told x station kept counts back awaits passing p a e s = (nothing_told x acknowledged is_followed is_passed station kept counts back awaits passing p a e s).is ∙ sym s.is

unread_none : (station at : ℕ) (under : Bool) (carried : Carried) (h : Halves Body) (due : Option Access) (back : List (Datagram Body)) → Under station at under carried h due back → under ≡ false → mine station back ≡ []
unread_none station at under carried h due back (Under.none k e) n = e
unread_none station at under carried h due back (Under.has b k i e m) n = absurd (let bad : true ≡ false = sym k ∙ n in cc)

goes_by : (b p l : Bool) → (b ≡ true → l ≡ true) → l ≡ p → (b || p) ≡ l
goes_by true p l on alike = sym (on refl)
goes_by false p l on alike = sym alike

module _ (lens : ℕ → Lens) (spot : Spot) (made : ℕ) where
  -- but of an open slave the news of a frame count for nothing
  news_same : (ns ms : List (News Body)) (back : List (Datagram Body)) (came : Option (Bool × Option Found)) (l : Life Body Asked Reply) → (l.stand ≡ Lives.Stand.Open → ns ≡ ms) →
      life_back (speech_at lens spot) acknowledged is_followed is_passed made spot ns back came l l.stand ≡ life_back (speech_at lens spot) acknowledged is_followed is_passed made spot ms back came l l.stand
  news_same ns ms back came l h = go l.stand refl came
    where
      go : (z : Lives.Stand) → l.stand ≡ z → (got : Option (Bool × Option Found)) →
          life_back (speech_at lens spot) acknowledged is_followed is_passed made spot ns back got l z ≡ life_back (speech_at lens spot) acknowledged is_followed is_passed made spot ms back got l z
      go (Lives.Stand.Opens o) e None = refl
      go (Lives.Stand.Opens o) e (Some got) = refl
      go Lives.Stand.Open e got = ap (λ n. life_back (speech_at lens spot) acknowledged is_followed is_passed made spot n back got l Lives.Stand.Open) (h e)
      go Lives.Stand.Gone e None = refl
      go Lives.Stand.Gone e (Some got) = refl

-- and for how the master stands to a slave behind it they never count
reopens_stand : (l m : Life Body Asked Reply) (hand : Option Accounts.Duty) → l.stand ≡ m.stand → (reopens l hand).stand ≡ (reopens m hand).stand
reopens_stand l m None e = e
reopens_stand l m (Some duty) e = go duty.stage
  where
    by : (b : Bool) → (if b then record l { stand = reopening (opens_state duty.target) true } else l).stand ≡ (if b then record m { stand = reopening (opens_state duty.target) true } else m).stand
    by true = refl
    by false = e

    go : (s : Accounts.Stage) → (reopens_at l duty.target s).stand ≡ (reopens_at m duty.target s).stand
    go Accounts.Stage.Drains = e
    go (Accounts.Stage.Goes phase) = by (returns_to_init duty.target)

reopens_same : (lens : ℕ → Lens) (spot : Spot) (made : ℕ) (ns ms : List (News Body)) (back : List (Datagram Body)) (l : Life Body Asked Reply) →
    (let now = λ (news : List (News Body)). era_back (speech_at lens spot) acknowledged is_followed is_passed spot.station made news back l.era in
    (reopens (record l { era = now ns }) (now ns).account.hand).stand ≡ (reopens (record l { era = now ms }) (now ms).account.hand).stand)
reopens_same lens spot made ns ms back l =
    let now = λ (news : List (News Body)). era_back (speech_at lens spot) acknowledged is_followed is_passed spot.station made news back l.era in
    reopens_stand (record l { era = now ns }) (record l { era = now ms }) (now ns).account.hand (refl {a = l.stand})

stand_same : (lens : ℕ → Lens) (spot : Spot) (made : ℕ) (ns ms : List (News Body)) (back : List (Datagram Body)) (got : Option (Bool × Option Found)) (l : Life Body Asked Reply) (z : Lives.Stand) →
    (life_back (speech_at lens spot) acknowledged is_followed is_passed made spot ns back got l z).stand ≡ (life_back (speech_at lens spot) acknowledged is_followed is_passed made spot ms back got l z).stand
stand_same lens spot made ns ms back None l (Lives.Stand.Opens o) = refl
stand_same lens spot made ns ms back (Some got) l (Lives.Stand.Opens o) = refl
stand_same lens spot made ns ms back None l Lives.Stand.Open = reopens_same lens spot made ns ms back l
stand_same lens spot made ns ms back (Some got) l Lives.Stand.Open = reopens_same lens spot made ns ms back l
stand_same lens spot made ns ms back None l Lives.Stand.Gone = refl
stand_same lens spot made ns ms back (Some got) l Lives.Stand.Gone = refl

-- whether an empty read counts behind a frame of which this came back
abbrev CountsBehind : {G : Ghosts InHand} → ℕ → List (Datagram Body) → Stop InHand G → Stop InHand G → Life Body Asked Reply → Type 0
CountsBehind made back s t l = (counts : Bool) → StopCounts s made counts → StopCounts t (suc made) (counts_on l.stand s.side.station s.side.pace made back counts)

module _ (lens : ℕ → Lens) where
  -- the life of a slave behind a frame of which this came back
  abbrev pub life_behind : {G : Ghosts InHand} → ℕ → List (Datagram Body) → ServedTurn → Stop InHand G → Life Body Asked Reply
  life_behind made back v s =
      let a = v.turn.lived in
      life_back (speech_at lens a.spot) acknowledged is_followed is_passed made a.spot (news_back a.spot.station v.kept v.counts back) back (came_at s.under s.at back) a.life a.life.stand

  -- what its post has in hand then
  abbrev pub InHandBehind : {G : Ghosts InHand} → ℕ → List (Datagram Body) → ServedTurn → Post → Stop InHand G → Stop InHand G → Type 0
  InHandBehind made back v q s t = HasInHand (speech_at lens v.turn.lived.spot) (knows t.side.hand.course) (life_behind made back v s) (life_behind made back v s).stand q.work

module _ (lens : ℕ → Lens) (recover made : ℕ) where
  -- how far its mail has come, by whether an empty read counts
  pub passes_behind : {G : Ghosts InHand} (octets : List ℕ) (back : List (Datagram Body)) (v : ServedTurn) (p : Post) (s t : Stop InHand G) → IsServedUnder lens recover octets made v p s →
      StandPassing t.stand (awaits_reply t.side.hand.course t.side.hand.which t.side.hand.clients) t.side.passing
      (life_back (speech_at lens v.turn.lived.spot) acknowledged is_followed is_passed made v.turn.lived.spot (news_back s.side.station v.kept (counts_at s.side.read_at s.side.pace made) back) back (came_at s.under s.at back) v.turn.lived.life v.turn.lived.life.stand) →
      StandPassing t.stand (awaits_reply t.side.hand.course t.side.hand.which t.side.hand.clients) t.side.passing (life_behind lens made back v s)
  passes_behind octets back v p s t i passes =
      let l = v.turn.lived.life in
      let spot = v.turn.lived.spot in
      let h = i.served in
      let same : l.stand ≡ Lives.Stand.Open → news_back s.side.station v.kept (counts_at s.side.read_at s.side.pace made) back ≡ news_back spot.station v.kept v.counts back = λ o.
      (λ j. news_back (h.lives.planned.stands.station_is j) v.kept ((counts_is s.stand s.side.read_at s.side.pace made v.counts (open_stand (λ d b. side_shows lens recover s spot d b) spot s.stand l h.lives.shown.stood o) h.counts) j) back) in
      subst (λ z. StandPassing t.stand (awaits_reply t.side.hand.course t.side.hand.which t.side.hand.clients) t.side.passing z) (news_same lens spot made _ (news_back spot.station v.kept v.counts back) back (came_at s.under s.at back) l same) passes

  -- and where the frame had nothing of it
  pub unread_behind : {G : Ghosts InHand} (octets back : List ℕ) (v : ServedTurn) (p : Post) (s : Stop InHand G) → IsServedUnder lens recover octets made v p s → Returns (seen lens octets) (seen lens back) → s.under ≡ false → v.turn.lived.life.stand ≡ Lives.Stand.Open →
      (mine v.turn.lived.spot.station (seen lens back) ≡ []) × (passes_on (speech_at lens v.turn.lived.spot) v.turn.lived.life.era.passing (news_back v.turn.lived.spot.station v.kept v.counts (seen lens back)) ≡ v.turn.lived.life.era.passing)
  unread_behind octets back v p s i r still o =
      let l = v.turn.lived.life in
      let spot = v.turn.lived.spot in
      let h = i.served in
      let station = h.lives.planned.stands.station_is in
      let open_s = open_stand (λ d b. side_shows lens recover s spot d b) spot s.stand l h.lives.shown.stood o in
      let none = unread_none _ s.at s.under s.side.carried _ _ _ (under_back s.side.station s.at s.under s.side.carried l.era.side.halves (duty_access l.era.account.hand) (seen lens octets) (seen lens back) r
      (subst (λ z. StandUnder lens s.side.station s.at s.under s.side.carried z l (seen lens octets)) open_s i.way)) still in
      let here = ap (λ z. mine z (seen lens back)) (sym station) ∙ none in (
        here,
        none_told (speech_at lens spot) spot.station v.kept v.counts (seen lens back) _ s.side.passing l.era.passing (seen_aims lens back spot.station (subst (λ z. nat_le 1 z ≡ true) station s.named)) here
            (subst (λ z. StandPassing z (awaits_reply s.side.hand.course s.side.hand.which s.side.hand.clients) s.side.passing l) open_s h.passing),
      )

module _ (lens : ℕ → Lens) (recover retry : ℕ) where
  -- a frame that came back with these octets
  abbrev passed_so : Exchanged → List ℕ → Exchanged
  passed_so f back = record { sent = f.sent; fate = Pass; back = back }

  so_is : (f : Exchanged) (back : List ℕ) → f.fate ≡ Pass → f.back ≡ back → f ≡ passed_so f back
  so_is f back is b = λ i. record { sent = f.sent; fate = is i; back = b i }

  module _ (gives : Bool) (made : ℕ) where
    -- THE SLAVE BEHIND A FRAME THAT CAME BACK, by what its stop shows of it
    served_so : {G : Ghosts InHand} (f : Exchanged) (octets back : List ℕ) (v : ServedTurn) (p q : Post) (s t : Stop InHand G) → IsServedUnder lens recover octets made v p s → Returns (seen lens octets) (seen lens back) →
        ((ns : List (News Body)) → IsLived lens recover (lived_back (speech_at lens v.turn.lived.spot) acknowledged is_followed is_passed made (seen lens back) v.turn.lived (record { under = s.under; at = s.at }) ns) t) →
        StandPassing t.stand (awaits_reply t.side.hand.course t.side.hand.which t.side.hand.clients) t.side.passing
        (life_back (speech_at lens v.turn.lived.spot) acknowledged is_followed is_passed made v.turn.lived.spot (news_back s.side.station v.kept (counts_at s.side.read_at s.side.pace made) (seen lens back)) (seen lens back)
        (came_at s.under s.at (seen lens back)) v.turn.lived.life v.turn.lived.life.stand) →
        CountsBehind made (seen lens back) s t v.turn.lived.life → t.side.pace ≡ s.side.pace → scripted t.side.hand.laying ≡ scripted s.side.hand.laying → waits_of q ≡ waits_of p → (b : Bool) → (b ≡ true → s.under ≡ false) → StaysNamed p.work q.work (b || is_some t.side.passing) → InHandBehind lens made (seen lens back) v q s t →
        IsServed lens recover (suc made) (served_behind lens recover retry gives made (passed_so f back) v) q t
    served_so f octets back v p q s t i r lives passes counts pace script waits b still works inhand =
        let l = v.turn.lived.life in
        let spot = v.turn.lived.spot in
        let x = speech_at lens spot in
        let h = i.served in
        let news = news_back spot.station v.kept v.counts (seen lens back) in
        let share : record { under = s.under; at = s.at } ≡ v.turn.share = λ j. record { under = (sym i.under) j; at = (sym i.at) j } in
        let station = h.lives.planned.stands.station_is in
        let stands = open_stand (λ d b. side_shows lens recover s spot d b) spot s.stand l h.lives.shown.stood in
        let under : l.stand ≡ Lives.Stand.Open → Under spot.station s.at s.under s.side.carried l.era.side.halves (duty_access l.era.account.hand) (seen lens back) = λ o.
        subst (λ z. Under z s.at s.under s.side.carried l.era.side.halves (duty_access l.era.account.hand) (seen lens back)) station
        (under_back s.side.station s.at s.under s.side.carried l.era.side.halves (duty_access l.era.account.hand) (seen lens octets) (seen lens back) r
        (subst (λ z. StandUnder lens s.side.station s.at s.under s.side.carried z l (seen lens octets)) (stands o) i.way)) in
        let came = came_at v.turn.share.under v.turn.share.at (seen lens back) in
        let lived = subst (λ z. IsLived lens recover (lived_back x acknowledged is_followed is_passed made (seen lens back) v.turn.lived z news) t) share (lives news) in
        let passing = subst (λ (z : Share). StandPassing t.stand (awaits_reply t.side.hand.course t.side.hand.which t.side.hand.clients) t.side.passing
        (life_back x acknowledged is_followed is_passed made spot news (seen lens back) (came_at z.under z.at (seen lens back)) l l.stand)) share
        (passes_behind lens recover made octets (seen lens back) v p s t i passes) in
        let goes : (key : ℕ) → p.work ≡ Work.Passed key → (b || is_some t.side.passing) ≡ is_some (life_back x acknowledged is_followed is_passed made spot news (seen lens back) came l l.stand).era.passing = λ key e.
        (let n = h.handed.named key e in
        let opens = stays_open x made spot news (seen lens back) came l l.stand n.opened n.opened n.alone in
        let alike = waits_alike t.stand _ t.side.passing _ passing (open_stand _ spot t.stand _ lived.shown.stood opens.0) in
        let on : b ≡ true → is_some (life_back x acknowledged is_followed is_passed made spot news (seen lens back) came l l.stand).era.passing ≡ true = λ y.
        ap (λ (z : Option _). is_some z) (back_passing x made spot news (seen lens back) came l l.stand n.opened
        ∙ (unread_behind lens recover made octets back v p s i r (still y) n.opened).1) ∙ n.passing in
        goes_by b _ _ on alike) in
        record {
          lives = lived;
          script = ap (λ z. z.script) script ∙ h.script;
          number = ap (λ z. z.number) script ∙ h.number;
          short = h.short;
          passing = passing;
          kept = back_life x acknowledged is_followed is_passed made s.at s.under s.side.carried spot news (seen lens back) (came_at v.turn.share.under v.turn.share.at (seen lens back)) v.kept l
              (seen_aims lens back spot.station (subst (λ z. nat_le 1 z ≡ true) station s.named)) under h.kept;
          counts = subst (λ z. StandCounts t.stand t.side.read_at t.side.pace (suc made) z) (λ j. counts_on l.stand (station j) (h.pace j) made (seen lens back) v.counts) (counts v.counts h.counts);
          pace = pace ∙ h.pace;
          waits = waits ∙ h.waits;
          fits = h.fits;
          handed = back_handed x made spot news (seen lens back) came l p.work q.work v.hand (accepted_in spot l (seen lens back)) h.handed (stays_where p.work q.work (b || is_some t.side.passing) _ goes works);
          inhand = subst (λ (z : Share). (let m = life_back x acknowledged is_followed is_passed made spot news (seen lens back) (came_at z.under z.at (seen lens back)) l l.stand in HasInHand x (knows t.side.hand.course) m m.stand q.work)) share inhand;
        }

    -- a slave with a mail in hand stays open
    pub behind_open : (f : Exchanged) (back : List ℕ) (v : ServedTurn) → f.fate ≡ Pass → f.back ≡ back → v.turn.lived.life.stand ≡ Lives.Stand.Open → v.turn.lived.life.era.account.hand ≡ None →
        (served_behind lens recover retry gives made f v).lead.lived.life.stand ≡ Lives.Stand.Open
    behind_open f back v is b o h =
        let l = v.turn.lived.life in
        let spot = v.turn.lived.spot in
        subst (λ (z : Exchanged). (served_behind lens recover retry gives made z v).lead.lived.life.stand ≡ Lives.Stand.Open) (sym (so_is f back is b))
        (stays_open (speech_at lens spot) made spot (news_back spot.station v.kept v.counts (seen lens back)) (seen lens back) (came_at v.turn.share.under v.turn.share.at (seen lens back)) l l.stand o o h).0

    pub served_back : {G : Ghosts InHand} (f : Exchanged) (octets back : List ℕ) (v : ServedTurn) (p q : Post) (s t : Stop InHand G) → f.fate ≡ Pass → f.back ≡ back → IsServedUnder lens recover octets made v p s → Returns (seen lens octets) (seen lens back) →
        ((ns : List (News Body)) → IsLived lens recover (lived_back (speech_at lens v.turn.lived.spot) acknowledged is_followed is_passed made (seen lens back) v.turn.lived (record { under = s.under; at = s.at }) ns) t) →
        StandPassing t.stand (awaits_reply t.side.hand.course t.side.hand.which t.side.hand.clients) t.side.passing
        (life_back (speech_at lens v.turn.lived.spot) acknowledged is_followed is_passed made v.turn.lived.spot (news_back s.side.station v.kept (counts_at s.side.read_at s.side.pace made) (seen lens back)) (seen lens back)
        (came_at s.under s.at (seen lens back)) v.turn.lived.life v.turn.lived.life.stand) →
        CountsBehind made (seen lens back) s t v.turn.lived.life → t.side.pace ≡ s.side.pace → scripted t.side.hand.laying ≡ scripted s.side.hand.laying → waits_of q ≡ waits_of p → (still : Bool) → (still ≡ true → s.under ≡ false) → StaysNamed p.work q.work (still || is_some t.side.passing) → InHandBehind lens made (seen lens back) v q s t →
        IsServed lens recover (suc made) (served_behind lens recover retry gives made f v) q t
    served_back f octets back v p q s t is b i r lives passes counts pace script waits still unread works inhand =
        subst (λ (z : Exchanged). IsServed lens recover (suc made) (served_behind lens recover retry gives made z v) q t) (sym (so_is f back is b)) (served_so f octets back v p q s t i r lives passes counts pace script waits still unread works inhand)

    -- what the posts have in hand behind a frame that visited but these
    abbrev pub behind_at : {G : Ghosts InHand} → (ℕ → ℕ) → (ℕ → Bool) → List Post → List (Stop InHand G) → ℕ → Work
    behind_at at still ps ts k = if still k then work_at ps k else (by_stop (stays (work_at ps k)) (λ t. back_does (at k) t (work_at ps k)) ts k).work

    module _ (f : Exchanged) where
      -- all of them
      pub all_served : {G : Ghosts InHand} (octets : List ℕ) (T : Lived Asked Reply → Stop InHand G → Stop InHand G → Type 0) (E : Stop InHand G → Stop InHand G → Type 0) (at : ℕ → ℕ) (still : ℕ → Bool) (vs : List ServedTurn) (ps qs : List Post) (ss ts : List (Stop InHand G)) →
          ((k : ℕ) → still k ≡ true → holds_at (λ s. s.under) ss k ≡ false) → ((k : ℕ) → StaysNamed (work_at ps k) (work_at qs k) (still k || holds_at (λ t. is_some t.side.passing) ts k)) → ((k : ℕ) → work_at qs k ≡ behind_at at still ps ts k) →
          AllThree (λ v p s. IsServedUnder lens recover octets made v p s) vs ps ss → map waits_of qs ≡ map waits_of ps → AllThree T (map (λ v. v.turn.lived) vs) ss ts → EachPair E ss ts →
          ((v : ServedTurn) (p q : Post) (s t : Stop InHand G) → IsServedUnder lens recover octets made v p s → waits_of q ≡ waits_of p → (b : Bool) → (b ≡ true → s.under ≡ false) → StaysNamed p.work q.work (b || is_some t.side.passing) → (k : ℕ) → q.work ≡ (if b then p.work else (back_does k t p.work).work) → T v.turn.lived s t → E s t → IsServed lens recover (suc made) (served_behind lens recover retry gives made f v) q t) →
          AllThree (λ w q t. IsServed lens recover (suc made) w q t) (map (served_behind lens recover retry gives made f) vs) qs ts
      all_served octets T E at still [] [] [] [] [] u g a i w t e h = tt
      all_served octets T E at still [] [] [] [] (y ∷ ts) u g a i w t e h = absurd e
      all_served octets T E at still [] [] (q ∷ qs) [] ts u g a i w t e h = absurd (cc)
      all_served octets T E at still [] [] qs (s ∷ ss) ts u g a i w t e h = absurd i
      all_served octets T E at still [] (p ∷ ps) qs [] ts u g a i w t e h = absurd i
      all_served octets T E at still [] (p ∷ ps) qs (s ∷ ss) ts u g a i w t e h = absurd i
      all_served octets T E at still (v ∷ vs) [] qs [] ts u g a i w t e h = absurd i
      all_served octets T E at still (v ∷ vs) [] qs (s ∷ ss) ts u g a i w t e h = absurd i
      all_served octets T E at still (v ∷ vs) (p ∷ ps) qs [] ts u g a i w t e h = absurd i
      all_served octets T E at still (v ∷ vs) (p ∷ ps) [] (s ∷ ss) ts u g a i w t e h = absurd (cc)
      all_served octets T E at still (v ∷ vs) (p ∷ ps) (q ∷ qs) (s ∷ ss) [] u g a i w t e h = absurd e
      all_served octets T E at still (v ∷ vs) (p ∷ ps) (q ∷ qs) (s ∷ ss) (y ∷ ts) u g a i w t e h =
          (h v p q s y i.0 (ap (first (waits_of p)) w) (still zero) (u zero) (g zero) (at zero) (a zero) t.0 e.0, all_served octets T E (λ k. at (suc k)) (λ k. still (suc k)) vs ps qs ss ts (λ k. u (suc k)) (λ k. g (suc k)) (λ k. a (suc k)) i.1 (ap rest w) t.1 e.1 h)
        where
          first : {A : Type 0} → A → List A → A
          first a [] = a
          first a (b ∷ bs) = b

          rest : {A : Type 0} → List A → List A
          rest [] = []
          rest (b ∷ bs) = bs

      elsewhere_served : (spot : Spot) (vs : List ServedTurn) → ((v : ServedTurn) → (served_behind lens recover retry gives made f v).lead.lived.spot ≡ v.turn.lived.spot) → IsElsewhere spot (map (λ v. v.turn.lived) vs) →
          IsElsewhere spot (map (λ w. lived_of (run_lead w)) (map (served_behind lens recover retry gives made f) vs))
      elsewhere_served spot [] h e = tt
      elsewhere_served spot (v ∷ vs) h e = (subst (AreApart spot) (sym (h v)) e.0, elsewhere_served spot vs h e.1)

      pub distinct_served : (vs : List ServedTurn) → ((v : ServedTurn) → (served_behind lens recover retry gives made f v).lead.lived.spot ≡ v.turn.lived.spot) → AreDistinct (map (λ v. v.turn.lived) vs) →
          AreDistinct (map (λ w. lived_of (run_lead w)) (map (served_behind lens recover retry gives made f) vs))
      distinct_served [] h d = tt
      distinct_served (v ∷ vs) h d = (
        subst (λ (z : Spot). IsElsewhere z (map (λ w. lived_of (run_lead w)) (map (served_behind lens recover retry gives made f) vs))) (sym (h v)) (elsewhere_served v.turn.lived.spot vs h d.0),
        distinct_served vs h d.1,
      )

      pub back_spot : f.fate ≡ Pass → (v : ServedTurn) → (served_behind lens recover retry gives made f v).lead.lived.spot ≡ v.turn.lived.spot
      back_spot is v = ap (λ (z : Fate). (served_behind lens recover retry gives made (record { sent = f.sent; fate = z; back = f.back }) v).lead.lived.spot) is

      -- as the master stands to them the serving's lives are those of a run
      back_stand : f.fate ≡ Pass → (v : ServedTurn) → (served_behind lens recover retry gives made f v).lead.lived.life.stand ≡ (led_behind lens recover retry gives made f v.turn).lived.life.stand
      back_stand is v =
          subst (λ (z : Exchanged). (served_behind lens recover retry gives made z v).lead.lived.life.stand ≡ (led_behind lens recover retry gives made z v.turn).lived.life.stand) (sym (so_is f f.back is refl))
          (stand_same lens v.turn.lived.spot made _ [] (seen lens f.back) (came_at v.turn.share.under v.turn.share.at (seen lens f.back)) v.turn.lived.life v.turn.lived.life.stand)

      opens_run : f.fate ≡ Pass → (vs : List ServedTurn) (k : ℕ) → holds_at is_opening_lead (map run_lead (map (served_behind lens recover retry gives made f) vs)) k ≡ holds_at is_opening_lead (map (led_behind lens recover retry gives made f) (map run_turn vs)) k
      opens_run is [] k = refl
      opens_run is (v ∷ vs) zero = ap is_opening (back_stand is v)
      opens_run is (v ∷ vs) (suc k) = opens_run is vs k

      long_run : (vs : List ServedTurn) → length (map run_lead (map (served_behind lens recover retry gives made f) vs)) ≡ length (map (led_behind lens recover retry gives made f) (map run_turn vs))
      long_run [] = refl
      long_run (v ∷ vs) = ap suc (long_run vs)

      long_turns : (vs : List ServedTurn) → length (map run_lead (map (served_behind lens recover retry gives made f) vs)) ≡ length (map run_turn vs)
      long_turns [] = refl
      long_turns (v ∷ vs) = ap suc (long_turns vs)

      -- where the tour goes on
      pub goes_served : {G : Ghosts InHand} (again : Bool) (visit visit' : List ℕ) (opened opened' : ℕ) (vs : List ServedTurn) (ts : List (Stop InHand G)) → f.fate ≡ Pass → again ≡ false → opened' ≡ opened_behind (λ s. is_opened s.stand) opened ts →
          length ts ≡ length (map run_lead (map (served_behind lens recover retry gives made f) vs)) → ((k : ℕ) → holds_at (λ s. is_opened s.stand) ts k ≡ holds_at is_opening_lead (map run_lead (map (served_behind lens recover retry gives made f) vs)) k) →
          GoesUnder visit opened (map run_turn vs) → GoesOn again visit' opened' (map run_lead (map (served_behind lens recover retry gives made f) vs))
      goes_served again visit visit' opened opened' vs ts is n e long opens g = record {
        ahead = λ k a b. opens_run is vs k ∙ ahead_behind lens recover retry gives made f (λ s. is_opened s.stand) opened visit (map run_turn vs) ts g (long ∙ long_turns vs) (λ j. opens j ∙ opens_run is vs j) k
            (subst (λ z. z ≤ k) e a) (subst (λ z. k < z) (long_run vs) b);
        comes = λ t. absurd (let z = sym t ∙ n in cc);
      }

  -- by their stops
  stand_opens : {G : Ghosts InHand} (a : Lived Asked Reply) (t : Stop InHand G) → IsLived lens recover a t → is_opened t.stand ≡ is_opening a.life.stand
  stand_opens a t v = go t.stand v.shown.stood
    where
      go : (z : Stand) → StandShows (side_shows lens recover t a.spot) a.spot z a.life → is_opened z ≡ is_opening a.life.stand
      go (Stand.Opening up) s = sym (ap is_opening s.stand)
      go Stand.Open s = sym (ap is_opening s.0)
      go Stand.Gone s = sym (ap is_opening s)

  pub opens_served : {G : Ghosts InHand} (made : ℕ) (ws : List Serves) (qs : List Post) (ts : List (Stop InHand G)) → AllThree (λ w q t. IsServed lens recover made w q t) ws qs ts → (k : ℕ) → holds_at (λ s. is_opened s.stand) ts k ≡ holds_at is_opening_lead (map run_lead ws) k
  opens_served made [] [] [] h k = refl
  opens_served made [] [] (t ∷ ts) h k = absurd h
  opens_served made [] (q ∷ qs) [] h k = absurd h
  opens_served made [] (q ∷ qs) (t ∷ ts) h k = absurd h
  opens_served made (w ∷ ws) [] [] h k = absurd h
  opens_served made (w ∷ ws) [] (t ∷ ts) h k = absurd h
  opens_served made (w ∷ ws) (q ∷ qs) [] h k = absurd h
  opens_served made (w ∷ ws) (q ∷ qs) (t ∷ ts) h zero = stand_opens w.lead.lived t h.0.lives
  opens_served made (w ∷ ws) (q ∷ qs) (t ∷ ts) h (suc k) = opens_served made ws qs ts h.1 k

  pub long_served : {G : Ghosts InHand} (made : ℕ) (ws : List Serves) (qs : List Post) (ts : List (Stop InHand G)) → AllThree (λ w q t. IsServed lens recover made w q t) ws qs ts → length ts ≡ length (map run_lead ws)
  long_served made [] [] [] h = refl
  long_served made [] [] (t ∷ ts) h = absurd h
  long_served made [] (q ∷ qs) [] h = absurd h
  long_served made [] (q ∷ qs) (t ∷ ts) h = absurd h
  long_served made (w ∷ ws) [] [] h = absurd h
  long_served made (w ∷ ws) [] (t ∷ ts) h = absurd h
  long_served made (w ∷ ws) (q ∷ qs) [] h = absurd h
  long_served made (w ∷ ws) (q ∷ qs) (t ∷ ts) h = ap suc (long_served made ws qs ts h.1)

-- what three lists say of two of them
pub three_both : {A B S C : Type 0} (R : A → B → S → Type 0) (Q : C → S → Type 0) (g : A → C) → ((a : A) (b : B) (s : S) → R a b s → Q (g a) s) → (as' : List A) (bs : List B) (ss : List S) → AllThree R as' bs ss → AllBoth Q (map g as') ss
three_both R Q g h [] [] [] e = tt
three_both R Q g h [] [] (s ∷ ss) e = absurd e
three_both R Q g h [] (b ∷ bs) [] e = absurd e
three_both R Q g h [] (b ∷ bs) (s ∷ ss) e = absurd e
three_both R Q g h (a ∷ as') [] [] e = absurd e
three_both R Q g h (a ∷ as') [] (s ∷ ss) e = absurd e
three_both R Q g h (a ∷ as') (b ∷ bs) [] e = absurd e
three_both R Q g h (a ∷ as') (b ∷ bs) (s ∷ ss) e = (h a b s e.0, three_both R Q g h as' bs ss e.1)
