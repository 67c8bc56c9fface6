-- BEHIND A FRAME THAT CAME BACK a post has in hand what the life behind it has, and just what the lives tell was told.
use Rattle.std.proofs.Common.{◌≡◌, ◌==◌, ℕ, suc, Bool, true, false, Option, Some, None, List, [], ◌∷◌, ◌++◌, length, refl, sym, ap, ◌∙◌, subst, append_assoc, append-nil}
use Rattle.std.specs.Prelude.{◌&&◌, not, is_some, option_map, if◌then◌else◌}
use Rattle.life_runs.specs.of_exchange_model.Areas.{Areas}
use Rattle.life_runs.specs.of_master_duty.Reply.{Reply}
use Rattle.life_runs.specs.of_exchange_model.Exchange.{Speech}
use Rattle.life_runs.specs.of_exchange_model.Rows.{row_heard}
use Rattle.life_runs.specs.of_segment_model.Record.{News}
use Rattle.life_runs.specs.of_segment_model.Seats.{writes}
use Rattle.life_runs.specs.of_segment_model.Slaves.{Datagram, Found, grams}
use Rattle.life_runs.specs.of_state_model.Accounts.{Account, Change, Duty, is_free}
use Rattle.life_runs.specs.of_master_duty.declared.stage.Met.{Met}
use Rattle.life_runs.specs.of_master_hand.Brings.{Brings, emergencies_in}
use Rattle.life_runs.specs.of_master_hand.Replied.{Replies}
use Rattle.life_runs.specs.of_master_hand.Shown.{Shows, knows}
use Rattle.life_runs.specs.of_master_hand.Spoken.{Asked, acknowledged, hand_speech, is_followed, is_passed}
use Rattle.life_runs.specs.of_master_hand.contracts.hand.InHandHand.TheImpl as Impl
use Rattle.life_runs.specs.of_master_hand.declared.hand.InHand.{InHand}
use Rattle.life_runs.specs.of_master_side.Heard.{Brought}
use Rattle.life_runs.specs.of_master_side.Carried.{in_hand}
use Rattle.life_runs.specs.of_master_side.Shown.{DutyShows, OverShows, SideShows}
use Rattle.life_runs.specs.of_master_side.declared.hand.Heard.{Heard}
use Rattle.life_runs.specs.of_link_mails.Body.{Body}
use Rattle.life_runs.specs.of_master_tour.Brings.{accepted_at, accepted_in}
use Rattle.life_runs.specs.of_master_tour.Stands.{turned}
use Rattle.life_runs.specs.of_master_tour.declared.stop.Stand.{Stand}
use Rattle.life_runs.specs.of_master_tour.declared.stop.Stop.{Stop}
use Rattle.life_runs.specs.of_master_tour.declared.stop.Turned.{Turned}
use Rattle.life_runs.specs.of_life_model.Lives
use Rattle.life_runs.specs.of_life_model.Lives.{Era, Life, Spot, life_back, passes}
use Rattle.life_runs.specs.of_life_model.Own
use Rattle.life_runs.specs.Told.{Passed}
use Rattle.master_node.specs.Backtold.{HasInHand, IsFresh, NewestHas, OpenHas, OpeningHas, answer_told, changes_told, emergencies_told, has_packet, kind_of, open_told, packet_told, passed_told, returned_told, turned_told}
use Rattle.master_node.specs.Besides.{Does, back_does, behind, heard_does, is_state, met_at, met_where, opened_where, over_does, stays, then_does, turned_does, turned_where}
use Rattle.master_node.specs.Named.{IsHanded, is_left}
use Rattle.master_node.specs.declared.event.Event.{Event}
use Rattle.master_node.specs.declared.post.Work.{Work}
use Rattle.master_node.proofs.Backopen as Open
use Rattle.master_node.proofs.Backopen.{heard_is}
use Rattle.master_node.proofs.Changes.{Went, hand_back, no_newest, none_back, none_more}
use Rattle.master_node.proofs.Handeds.{last_left, steps_left}
use Rattle.master_node.proofs.PacketRows.{idle_back}
use Rattle.master_node.proofs.Reopeneds.{OpenAfter, Reopened, cleared_turned, now, open_after, open_turned, opened_turned, same_turned, steps_turned}
use Rattle.master_node.proofs.Rowtells.{IsQuiet, mails_does, rest_does}

-- WHAT A STOP SHOWS of the life behind a frame, where its slave is open then
pub record ShowsBehind (x : Speech Body Asked Reply) (known' : Bool) (t : Stop InHand Impl.ghosts) (m : Life Body Asked Reply) : Type 0 where
  pub stands : t.stand ≡ Stand.Open → m.stand ≡ Lives.Stand.Open
  pub opens : m.stand ≡ Lives.Stand.Open → t.stand ≡ Stand.Open
  pub side : t.stand ≡ Stand.Open → SideShows (Shows t.side.hand.course t.side.hand.which t.side.hand.clients x) t.side.out t.side.inn t.side.fresh t.side.duty m.era.side m.era.account
  pub passing : t.stand ≡ Stand.Open → is_some t.side.passing ≡ is_some m.era.passing
  pub knows_is : knows t.side.hand.course ≡ known'

-- what is done where the slave didn't turn
turned_none : (place : ℕ) (t : Stop InHand Impl.ghosts) (w : Work) → t.news ≡ None → turned_does place t w ≡ stays w
turned_none place t w e = ap (λ z. turned_where place z w) e

none_behind : (d : Does) → then_does d (λ w. stays w) ≡ d
none_behind d = λ i. record { told = append-nil d.told i; work = d.work }

then_turned : (place : ℕ) (t : Stop InHand Impl.ghosts) (d : Does) → t.news ≡ None → then_does d (λ w. turned_does place t w) ≡ d
then_turned place t d e = (λ i. then_does d (λ w. turned_none place t w e i)) ∙ none_behind d

-- a change of state of a slave that isn't open isn't over
shut_over : (place : ℕ) (t : Stop InHand Impl.ghosts) → (t.stand ≡ Stand.Open → ⊥) → over_does place t Work.State ≡ stays Work.State
shut_over place t n = go t.stand n
  where
    go : (stand : Stand) → (stand ≡ Stand.Open → ⊥) → met_at place stand t.side.duty Work.State ≡ stays Work.State
    go Stand.Open n = absurd (n refl)
    go (Stand.Opening up) n = refl
    go Stand.Gone n = refl

-- the emergencies first, and then the rest
rest_behind : (place : ℕ) (es : List Event) (got : Option Heard) (t : Stop InHand Impl.ghosts) (old : Work) →
    then_does (behind es (mails_does place got t old)) (λ w. over_does place t w) ≡ behind es (then_does (mails_does place got t old) (λ w. over_does place t w))
rest_behind place es got t old = λ i. record { told = append_assoc es (mails_does place got t old).told (over_does place t (mails_does place got t old).work).told i; work = (over_does place t (mails_does place got t old).work).work }

pub still_does : (place : ℕ) (ms : List Body) (t : Stop InHand Impl.ghosts) (old : Work) → Brought (Brings t.side.hand.found) t.side.heard ms → t.news ≡ None → back_does place t old ≡ behind (emergencies_told place (emergencies_in ms)) (rest_does place t old)
still_does place ms t old b e =
    then_turned place t _ e ∙ ap (λ z. then_does z (λ w. over_does place t w)) (heard_is place t.side.heard ms t old b) ∙ rest_behind place (emergencies_told place (emergencies_in ms)) t.side.heard t old

five : (es ps as' ks cs : List Event) → es ++ (ps ++ as' ++ ks ++ cs) ≡ es ++ ps ++ as' ++ ks ++ cs
five es ps as' ks cs =
    sym (append_assoc es (ps ++ as' ++ ks) cs) ∙ ap (λ z. z ++ cs) (sym (append_assoc es (ps ++ as') ks)) ∙ ap (λ z. z ++ ks ++ cs) (sym (append_assoc es ps as'))

heard_none : (got : Option Heard) (P : Body → Type 0) → Brought P got [] → got ≡ None
heard_none None P b = refl
heard_none (Some what) P b = absurd (let bad : [] ≡ b.0 ∷ [] = b.1 in cc)

none_heard : (got : Option Heard) (P : Body → Type 0) (ms : List Body) → Brought P got ms → got ≡ None → ms ≡ []
none_heard None P ms b e = b
none_heard (Some what) P ms b e = absurd (let bad : Some what ≡ None = e in cc)

module _ (areas : Areas) (made place : ℕ) (spot : Spot) (ns : List (News Body)) (known known' : Bool) (back : List (Datagram Body)) (hand : Option Passed) (ms : List Body) (l : Life Body Asked Reply) (old : Work) (t : Stop InHand Impl.ghosts) where
  abbrev x : Speech Body Asked Reply
  x = hand_speech areas

  abbrev e : Era Body Asked Reply
  e = now x made spot ns back l

  -- THE POST has in hand what the life behind the frame has, and this was told
  pub record Served (stand : Lives.Stand) (m : Life Body Asked Reply) : Type 0 where
    pub told : (back_does place t old).told ≡ returned_told x known' place hand ms l m stand
    pub has : HasInHand x known' m m.stand (back_does place t old).work

  -- what is given of an open slave
  pub record OpenGiven : Type 0 where
    pub opened : l.stand ≡ Lives.Stand.Open
    pub accepted : ms ≡ accepted_in spot l back
    pub has : OpenHas x known l.era.side l.era.account.hand l.era.passing old
    pub handed : IsHanded old hand l
    pub quiet : IsQuiet x l.era.side.now
    pub sure : known' ≡ true → known ≡ true
    pub brings : Brought (Brings t.side.hand.found) t.side.heard ms
    pub replies : (key : ℕ) → old ≡ Work.Passed key → Brought (Replies t.side.hand.found true) t.side.heard ms

  still_passing : l.era.passing ≡ None → e.passing ≡ None
  still_passing n = ap (λ z. passes x acknowledged is_followed is_passed z ns) n

  now_is : OpenGiven → e.side.now ≡ option_map (Open.row_heard' areas place made ms known known' hand t l.era.side e.side l.era.account e.account) l.era.side.now
  now_is g = ap (λ z. option_map (λ r. row_heard x made z r) l.era.side.now) (sym (g.accepted ∙ ap (λ z. accepted_at spot.station l.era.side.halves back z) g.opened))

  -- what was sent stays sent
  sent_on : l.era.side.fresh ≡ false → e.side.fresh ≡ false
  sent_on n = ap (λ z. z && not (writes spot.station (grams (Own.own spot.station back)))) n

  behind_is : (m : Life Body Asked Reply) → OpenGiven → OpenAfter l e m → t.stand ≡ Stand.Open → ShowsBehind x known' t m → Open.Behind areas place made ms known known' hand t l.era.side e.side l.era.account e.account l.era.passing e.passing old
  behind_is m g a s b = record {
    stand = s;
    now = now_is g;
    held = λ n. idle_back spot.station l.era.side.halves (grams (Own.own spot.station back)) n;
    sent = sent_on;
    went = λ duty n. hand_back spot.station made l.era.account (Own.own spot.station back) duty n;
    stays = λ n. none_back spot.station made l.era.account (Own.own spot.station back) n;
    shown = subst (λ (z : Era Body Asked Reply). SideShows (Shows t.side.hand.course t.side.hand.which t.side.hand.clients x) t.side.out t.side.inn t.side.fresh t.side.duty z.side z.account) a.era (b.side s);
    passing = b.passing s ∙ ap (λ (z : Era Body Asked Reply). is_some z.passing) a.era;
    knows_is = b.knows_is;
    sure = g.sure;
    quiet = g.quiet;
    none = λ n. none_heard t.side.heard (Brings t.side.hand.found) ms g.brings n;
    named = λ key n. (let z = g.handed.named key n in (z.passed, z.is, z.key_is));
    replies = g.replies;
  }

  abbrev passed_now : List Event
  passed_now = passed_told place hand l.era.passing e.passing ms

  abbrev answer_now : List Event
  answer_now = answer_told place (kind_of l.era.side.now) (kind_of e.side.now)

  abbrev packet_now : List Event
  packet_now = packet_told place (has_packet l.era.side.now) known' (is_free x l.era.side l.era.side.now) (is_free x e.side e.side.now)

  abbrev changes_now : List Event
  changes_now = changes_told place (length l.era.account.over) e.account.over

  -- all that is told, by the epoch behind the frame
  told_by_era : (m : Life Body Asked Reply) → OpenAfter l e m → emergencies_told place (emergencies_in ms) ++ (passed_now ++ answer_now ++ packet_now ++ changes_now) ≡ returned_told x known' place hand ms l m Lives.Stand.Open
  told_by_era m a =
      five (emergencies_told place (emergencies_in ms)) passed_now answer_now packet_now changes_now ∙ sym (ap (λ z. open_told x known' place hand ms l (record m { era = z })) a.era)

  -- it stays open
  stays_open : (m : Life Body Asked Reply) → OpenGiven → OpenAfter l e m → m.stand ≡ Lives.Stand.Open → t.news ≡ None → ShowsBehind x known' t m → Served Lives.Stand.Open m
  stays_open m g a s n b =
      let w = Open.open_tells areas place made ms known known' hand t l.era.side e.side l.era.account e.account l.era.passing e.passing old (behind_is m g a (b.opens s) b) still_passing g.has in
      let d = still_does place ms t old g.brings n in
      record {
        told = ap (λ z. z.told) d ∙ ap (λ z. emergencies_told place (emergencies_in ms) ++ z) w.is ∙ told_by_era m a;
        has = subst (λ z. HasInHand x known' m z (back_does place t old).work) (sym s)
            (subst (λ (z : Era Body Asked Reply). OpenHas x known' z.side z.account.hand z.passing (back_does place t old).work) (sym a.era)
            (subst (λ z. OpenHas x known' e.side e.account.hand e.passing z) (sym (ap (λ z. z.work) d)) w.has));
      }

  -- or its change of state returns it to Init: that was in hand, and is
  went_on : (over new : List (Change Reply)) (hand' : Option Duty) → Went over hand' new → (duty : Duty) → hand' ≡ Some duty → new ≡ over
  went_on over _ _ (Went.on k) duty e = refl
  went_on over _ _ (Went.ends c) duty e = absurd (let bad : None ≡ Some duty = e in cc)

  record Changing : Type 0 where
    none : l.era.passing ≡ None
    rows : NewestHas (is_free x l.era.side l.era.side.now) known l.era.side.now Work.Nothing
    state : old ≡ Work.State
    over : e.account.over ≡ l.era.account.over

  changing : OpenGiven → (duty : Duty) → e.account.hand ≡ Some duty → Changing
  changing g duty h = go l.era.account.hand refl (g.has)
    where
      go : (hand' : Option Duty) → l.era.account.hand ≡ hand' → OpenHas x known l.era.side hand' l.era.passing old → Changing
      go None n k = absurd (let bad : None ≡ Some duty = sym (ap (λ (z : Account Asked Reply). z.hand) (none_back spot.station made l.era.account (Own.own spot.station back) n) ∙ n) ∙ h in cc)
      go (Some was) n k = record {
        none = k.0;
        rows = k.1;
        state = k.2;
        over = went_on l.era.account.over e.account.over e.account.hand (hand_back spot.station made l.era.account (Own.own spot.station back) was n) duty h;
      }

  leaves_open : (m : Life Body Asked Reply) (duty : Duty) (state : ℕ) → OpenGiven → OpenAfter l e m → e.account.hand ≡ Some duty → m.stand ≡ Lives.reopening state true → t.news ≡ None → ShowsBehind x known' t m → Served Lives.Stand.Open m
  leaves_open m duty state g a h s n b =
      let c = changing g duty h in
      let r = Open.nothing_rows areas place made ms known known' hand t l.era.side e.side l.era.account e.account (now_is g) (λ i. idle_back spot.station l.era.side.halves (grams (Own.own spot.station back)) i) sent_on c.rows in
      let shut : t.stand ≡ Stand.Open → ⊥ = λ o. absurd (let bad : Lives.Stand.Open ≡ Lives.reopening state true = sym (b.stands o) ∙ s in cc) in
      let d = still_does place ms t old g.brings n
      ∙ ap (λ z. behind (emergencies_told place (emergencies_in ms)) (rest_does place t z)) c.state
      ∙ ap (λ z. behind (emergencies_told place (emergencies_in ms)) z) (Open.state_rest areas place made ms known known' hand t l.era.side e.side l.era.account e.account ∙ shut_over place t shut) in
      let none = Open.rows_then areas place made ms known known' hand t l.era.side e.side l.era.account e.account [] (ap (λ z. changes_told place (length l.era.account.over) z) c.over ∙ none_more place l.era.account.over) r.0 in
      record {
        told = ap (λ z. z.told) d
            ∙ ap (λ z. emergencies_told place (emergencies_in ms) ++ z) (none ∙ sym (λ i. passed_told place hand (c.none i) (still_passing c.none i) ms ++ answer_now ++ packet_now ++ changes_now))
            ∙ told_by_era m a;
        has = subst (λ z. HasInHand x known' m z (back_does place t old).work) (sym s) (ap (λ z. z.work) d, λ f. absurd (let bad : true ≡ false = f in cc));
      }

  open_served : (m : Life Body Asked Reply) → OpenGiven → OpenAfter l e m → t.news ≡ turned l m → ShowsBehind x known' t m → Served Lives.Stand.Open m
  open_served m g a n b = go m.stand refl a.stand
    where
      still : t.news ≡ None
      still = n ∙ open_turned l m e g.opened a

      go : (stand : Lives.Stand) → m.stand ≡ stand → Reopened e.account.hand stand → Served Lives.Stand.Open m
      go _ s Reopened.stays = stays_open m g a s still b
      go _ s (Reopened.leaves duty state h) = leaves_open m duty state g a h s still b

  -- ---- A SLAVE THAT IS OPENED
  heard_nothing : ms ≡ [] → Brought (Brings t.side.hand.found) t.side.heard ms → heard_does place t.side.heard t old ≡ stays old
  heard_nothing n b = ap (λ z. heard_does place z t old) (heard_none t.side.heard (Brings t.side.hand.found) (subst (λ z. Brought (Brings t.side.hand.found) t.side.heard z) n b))

  quiet_does : ms ≡ [] → Brought (Brings t.side.hand.found) t.side.heard ms → over_does place t old ≡ stays old → back_does place t old ≡ turned_does place t old
  quiet_does n b o = ap (λ z. then_does (then_does z (λ w. over_does place t w)) (λ w. turned_does place t w)) (heard_nothing n b) ∙ ap (λ z. then_does z (λ w. turned_does place t w)) o

  -- how it turned, by the change of state that wanted the opening
  record TurnsSo (own : Bool) (turn : Option Turned) : Type 0 where
    told : (turned_where place turn old).told ≡ turned_told place own turn
    work : turn ≡ Some Turned.Opened → (turned_where place turn old).work ≡ Work.Nothing
    stays : (turn ≡ Some Turned.Opened → ⊥) → (turned_where place turn old).work ≡ old

  turns_by : (own : Bool) (work : Work) → old ≡ work → is_state work ≡ own → (own ≡ false → work ≡ Work.Nothing) → (turn : Option Turned) → TurnsSo own turn
  turns_by own work e s n None = record { told = refl; work = λ f. absurd (cc); stays = λ f. refl }
  turns_by own work e s n (Some Turned.GivenUp) = record { told = refl; work = λ f. absurd (let bad : Turned.GivenUp ≡ Turned.Opened = (cc) in cc); stays = λ f. refl }
  turns_by own work e s n (Some Turned.Cleared) = record { told = ap (λ z. Event.Cleared place z ∷ []) (ap is_state e ∙ s); work = λ f. absurd (let bad : Turned.Cleared ≡ Turned.Opened = (cc) in cc); stays = λ f. refl }
  turns_by true work e s n (Some Turned.Opened) = record {
    told = ap (λ z. (opened_where place z old).told) (ap is_state e ∙ s);
    work = λ f. ap (λ z. (opened_where place z old).work) (ap is_state e ∙ s);
    stays = λ f. absurd (f refl);
  }
  turns_by false work e s n (Some Turned.Opened) = record {
    told = ap (λ z. (opened_where place z old).told) (ap is_state e ∙ s);
    work = λ f. ap (λ z. (opened_where place z old).work) (ap is_state e ∙ s) ∙ e ∙ n refl;
    stays = λ f. absurd (f refl);
  }

  turns_so : (own : Bool) (turn : Option Turned) → OpeningHas own old → TurnsSo own turn
  turns_so true turn h = turns_by true Work.State h refl (λ f. absurd (let bad : true ≡ false = f in cc)) turn
  turns_so false turn h = turns_by false Work.Nothing h refl (λ f. refl) turn

  -- nothing is over of one that isn't open yet, or just now
  fresh_met : (duty : Option Met) → DutyShows (in_hand duty) None → OverShows {R = Reply} duty [] → met_where place duty Work.State ≡ stays Work.State
  fresh_met None d o = refl
  fresh_met (Some (Met.On duty)) d o = absurd (let bad = d.1 in cc)
  fresh_met (Some Met.Reached) d o = absurd (no_newest o.front o.change (sym o.is))
  fresh_met (Some (Met.Refused code)) d o = absurd (no_newest o.front o.change (sym o.is))

  fresh_over : (own : Bool) (m : Life Body Asked Reply) → OpeningHas own old → IsFresh m → t.stand ≡ Stand.Open → ShowsBehind x known' t m → over_does place t old ≡ stays old
  fresh_over false m h f s b = ap (λ w. over_does place t w) h ∙ sym (ap (λ w. stays w) h)
  fresh_over true m h f s b =
      let k = b.side s in
      ap (λ w. over_does place t w) h
      ∙ ap (λ z. met_at place z t.side.duty Work.State) s
      ∙ fresh_met t.side.duty (subst (λ (z : Account Asked Reply). DutyShows (in_hand t.side.duty) z.hand) f.account k.state) (subst (λ (z : Account Asked Reply). OverShows t.side.duty z.over) f.account k.over)
      ∙ sym (ap (λ w. stays w) h)

  shut_opens : (own : Bool) → OpeningHas own old → (t.stand ≡ Stand.Open → ⊥) → over_does place t old ≡ stays old
  shut_opens true h n = ap (λ w. over_does place t w) h ∙ shut_over place t n ∙ sym (ap (λ w. stays w) h)
  shut_opens false h n = ap (λ w. over_does place t w) h ∙ sym (ap (λ w. stays w) h)

  opens_over : (own : Bool) (m : Life Body Asked Reply) → OpeningHas own old → (m.stand ≡ Lives.Stand.Open → IsFresh m) → ShowsBehind x known' t m → over_does place t old ≡ stays old
  opens_over own m h f b = go t.stand refl
    where
      go : (stand : Stand) → t.stand ≡ stand → over_does place t old ≡ stays old
      go Stand.Open s = fresh_over own m h (f (b.stands s)) s b
      go (Stand.Opening up) s = shut_opens own h (λ o. absurd (let bad : Stand.Opening up ≡ Stand.Open = sym s ∙ o in cc))
      go Stand.Gone s = shut_opens own h (λ o. absurd (let bad : Stand.Gone ≡ Stand.Open = sym s ∙ o in cc))

  -- what is asked of one that is opened
  pub record OpensGiven (o : Lives.Opening) : Type 0 where
    pub none : ms ≡ []
    pub brings : Brought (Brings t.side.hand.found) t.side.heard ms
    pub own : OpeningHas o.own old
    pub fresh : is_left (Lives.Stand.Opens o) ≡ false → IsFresh l

  -- as it turned
  turned_so : (o : Lives.Opening) (m : Life Body Asked Reply) (turn : Option Turned) → OpensGiven o → t.news ≡ turned l m → turned l m ≡ turn → over_does place t old ≡ stays old → ((back_does place t old).told ≡ turned_told place o.own (turned l m)) × ((back_does place t old).work ≡ (turned_where place turn old).work)
  turned_so o m turn g n s k =
      let d = quiet_does g.none g.brings k ∙ ap (λ z. turned_where place z old) (n ∙ s) in
      (ap (λ z. z.told) d ∙ (turns_so o.own turn g.own).told ∙ ap (turned_told place o.own) (sym s), ap (λ z. z.work) d)

  opening_served : (o p : Lives.Opening) (m : Life Body Asked Reply) (turn : Option Turned) → OpensGiven o → t.news ≡ turned l m → turned l m ≡ turn → (turn ≡ Some Turned.Opened → ⊥) → m.stand ≡ Lives.Stand.Opens p → p.own ≡ o.own → (is_left (Lives.Stand.Opens p) ≡ false → IsFresh m) →
      ShowsBehind x known' t m → Served (Lives.Stand.Opens o) m
  opening_served o p m turn g n s not_open stand own fresh b =
      let k = opens_over o.own m g.own (λ e. absurd (let bad : Lives.Stand.Opens p ≡ Lives.Stand.Open = sym stand ∙ e in cc)) b in
      let w = turned_so o m turn g n s k in
      let kept = w.1 ∙ (turns_so o.own turn g.own).stays not_open in
      record {
        told = w.0;
        has = subst (λ z. HasInHand x known' m z (back_does place t old).work) (sym stand) (subst (λ z. OpeningHas z (back_does place t old).work) (sym own) (subst (λ z. OpeningHas o.own z) (sym kept) g.own), fresh);
      }

  opened_served : (o : Lives.Opening) (m : Life Body Asked Reply) → OpensGiven o → t.news ≡ turned l m → turned l m ≡ Some Turned.Opened → m.stand ≡ Lives.Stand.Open → IsFresh m → ShowsBehind x known' t m → Served (Lives.Stand.Opens o) m
  opened_served o m g n s stand fresh b =
      let k = opens_over o.own m g.own (λ e. fresh) b in
      let w = turned_so o m (Some Turned.Opened) g n s k in
      let nothing = w.1 ∙ (turns_so o.own (Some Turned.Opened) g.own).work refl in
      record {
        told = w.0;
        has = subst (λ z. HasInHand x known' m z (back_does place t old).work) (sym stand)
            (subst (λ z. OpenHas x known' m.era.side m.era.account.hand m.era.passing z) (sym nothing)
            (subst (λ z. OpenHas x known' m.era.side m.era.account.hand z Work.Nothing) (sym fresh.passing)
            (subst (λ (z : Account Asked Reply). OpenHas x known' m.era.side z.hand None Work.Nothing) (sym fresh.account)
            (subst (λ z. NewestHas (is_free x m.era.side z) known' z Work.Nothing) (sym fresh.row) refl))));
      }

  -- by its access that came back
  abbrev OpensTo : Lives.Opening → Life Body Asked Reply → Type 0
  OpensTo o m = t.news ≡ turned l m → ShowsBehind x known' t m → Served (Lives.Stand.Opens o) m

  abbrev behind_so : Option (Bool × Option Found) → Lives.Stand → Life Body Asked Reply
  behind_so came stand = life_back x acknowledged is_followed is_passed made spot ns back came l stand

  opens_served : (o : Lives.Opening) (came : Option (Bool × Option Found)) → l.stand ≡ Lives.Stand.Opens o → OpensGiven o → OpensTo o (behind_so came (Lives.Stand.Opens o))
  opens_served o None s g n b = opening_served o o l None g n (same_turned l (Lives.Stand.Opens o) s refl) (λ f. absurd (cc)) s refl g.fresh b
  opens_served o (Some got) s g n b = go (Lives.shows_clear o) (got.0 && Lives.is_shown 1 got.1) (o.step == Lives.last_step o) (got.0 && Lives.is_shown o.state got.1) refl refl n b
    where
      stays_so : OpensTo o l
      stays_so n b = opening_served o o l None g n (same_turned l (Lives.Stand.Opens o) s refl) (λ f. absurd (cc)) s refl g.fresh b

      go : (shows seen last there : Bool) → Lives.shows_clear o ≡ shows → (o.step == Lives.last_step o) ≡ last →
          OpensTo o (if shows then (if seen then Lives.clears made l o else l) else if last then (if there then Lives.opens made l else l) else Lives.steps_on l o)
      go true true last there e f n b = opening_served o (record o { step = 3 }) (Lives.clears made l o) (Some Turned.Cleared) g n (cleared_turned l (Lives.clears made l o) refl (l.era) refl) (λ f. absurd (let bad : Turned.Cleared ≡ Turned.Opened = (cc) in cc)) refl refl (λ f. record { row = refl; account = refl; passing = refl }) b
      go true false last there e f n b = stays_so n b
      go false seen true true e f n b =
          let fresh = g.fresh (last_left x made spot ns back o f) in
          opened_served o (Lives.opens made l) g n (opened_turned l (Lives.opens made l) o s refl refl refl) refl (record { row = fresh.row; account = fresh.account; passing = fresh.passing }) b
      go false seen true false e f n b = stays_so n b
      go false seen false there e f n b =
          opening_served o (record o { step = suc o.step }) (Lives.steps_on l o) None g n (steps_turned l (Lives.steps_on l o) (record o { step = suc o.step }) refl refl refl) (λ f. absurd (cc)) refl refl
          (λ k. (let fresh = g.fresh (steps_left x made spot ns back o e k) in record { row = fresh.row; account = fresh.account; passing = fresh.passing })) b

  -- of one that is gone
  gone_served : l.stand ≡ Lives.Stand.Gone → ms ≡ [] → Brought (Brings t.side.hand.found) t.side.heard ms → old ≡ Work.Nothing → t.news ≡ turned l l → Served Lives.Stand.Gone l
  gone_served s n b h k =
      let d = quiet_does n b (ap (λ w. over_does place t w) h ∙ sym (ap (λ w. stays w) h)) ∙ ap (λ z. turned_where place z old) (k ∙ same_turned l Lives.Stand.Gone s refl) in
      record { told = ap (λ z. z.told) d; has = subst (λ z. HasInHand x known' l z (back_does place t old).work) (sym s) (ap (λ z. z.work) d ∙ h) }

  -- THE POST BEHIND A FRAME THAT CAME BACK
  pub back_inhand : (came : Option (Bool × Option Found)) (m : Life Body Asked Reply) → m ≡ behind_so came l.stand → ms ≡ accepted_in spot l back → HasInHand x known l l.stand old → IsHanded old hand l →
      (l.stand ≡ Lives.Stand.Open → IsQuiet x l.era.side.now) → (l.stand ≡ Lives.Stand.Open → known' ≡ true → known ≡ true) → Brought (Brings t.side.hand.found) t.side.heard ms → ((key : ℕ) → old ≡ Work.Passed key → Brought (Replies t.side.hand.found true) t.side.heard ms) →
      t.news ≡ turned l m → ShowsBehind x known' t m → Served l.stand m
  back_inhand came m is acc h i quiet sure brings replies n b = subst (λ z. Served l.stand z) (sym is) (go l.stand refl h (subst (λ z. t.news ≡ turned l z) is n) (subst (λ z. ShowsBehind x known' t z) is b))
    where
      accepted_so : (stand : Lives.Stand) → l.stand ≡ stand → ms ≡ accepted_at spot.station l.era.side.halves back stand
      accepted_so stand s = acc ∙ ap (λ z. accepted_at spot.station l.era.side.halves back z) s

      go : (stand : Lives.Stand) → l.stand ≡ stand → HasInHand x known l stand old → t.news ≡ turned l (behind_so came stand) → ShowsBehind x known' t (behind_so came stand) → Served stand (behind_so came stand)
      go (Lives.Stand.Opens o) s h n b = opens_served o came s (record { none = accepted_so (Lives.Stand.Opens o) s; brings = brings; own = h.0; fresh = h.1 }) n b
      go Lives.Stand.Open s h n b = open_served (behind_so came Lives.Stand.Open) (record { opened = s; accepted = acc; has = h; handed = i; quiet = quiet s; sure = sure s; brings = brings; replies = replies }) (open_after x made spot ns back l came s) n b
      go Lives.Stand.Gone s h n b = gone_by came n
        where
          gone_by : (came : Option (Bool × Option Found)) → t.news ≡ turned l (behind_so came Lives.Stand.Gone) → Served Lives.Stand.Gone (behind_so came Lives.Stand.Gone)
          gone_by None n = gone_served s (accepted_so Lives.Stand.Gone s) brings h n
          gone_by (Some got) n = gone_served s (accepted_so Lives.Stand.Gone s) brings h n
