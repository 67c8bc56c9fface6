-- WHAT IS REMEMBERED of a slave's visits goes on with a frame that came back, and stays behind one that was lost.
use Rattle.std.proofs.Common.{◌≡◌, ◌==◌, ℕ, Bool, true, false, not, Option, Some, None, List, [], ◌∷◌, refl, sym, ap, ◌∙◌, subst}
use Rattle.std.specs.Prelude.{◌&&◌, ◌||◌, cond, if◌then◌else◌, is_some, map}
use Rattle.std.proofs.lemmas.Bool.{eq-eqb}
use Rattle.life_runs.specs.of_life_model.Visits.{Visit, mails_visit}
use Rattle.life_runs.specs.of_frame_view.View.{Lens, link_counter, register_counter}
use Rattle.life_runs.specs.of_frame_view.Seen.{seen}
use Rattle.life_runs.specs.of_frame_view.Shares.{AllBoth, AllThree}
use Rattle.life_runs.specs.Led.{Turn, speech_at}
use Rattle.life_runs.specs.of_mailbox_master.Any.{in_half_of}
use Rattle.life_runs.specs.of_link_model.Frames.{Ask, in_ask}
use Rattle.life_runs.specs.of_link_model.Link.{Halves}
use Rattle.life_runs.specs.of_link_model.Master.{InState}
use Rattle.life_runs.specs.of_master_duty.Reply.{Reply}
use Rattle.life_runs.specs.of_master_duty.declared.duty.Duty as Duties
use Rattle.life_runs.specs.of_segment_model.Ends as Ends
use Rattle.life_runs.specs.of_segment_model.Record.{is_for}
use Rattle.life_runs.specs.of_segment_model.Returned.{Returns}
use Rattle.life_runs.specs.of_segment_model.Slaves.{Access, Address, Datagram, Found}
use Rattle.life_runs.specs.of_state_model.Accounts.{Account, Duty, Stage, account_back, account_by, account_met, access_done, duty_access}
use Rattle.life_runs.specs.of_master_hand.Shown.{knows}
use Rattle.life_runs.specs.of_master_hand.Spoken.{Asked}
use Rattle.life_runs.specs.of_master_hand.declared.hand.InHand.{InHand}
use Rattle.life_runs.specs.of_master_side.Carried.{Asks, IsBack, Meant, in_hand, is_read, one, paused_after, turn_after}
use Rattle.life_runs.specs.of_master_side.Passing.{passing_seen}
use Rattle.life_runs.specs.of_master_side.Recall.{Recall}
use Rattle.life_runs.specs.of_master_side.Shown.{DutyShows}
use Rattle.life_runs.specs.of_master_side.declared.carried.Carried.{Carried}
use Rattle.life_runs.specs.of_master_side.declared.hand.Hand.{Ghosts}
use Rattle.life_runs.specs.of_master_side.declared.passing.Passing.{Passing}
use Rattle.life_runs.specs.of_link_mails.Body.{Body}
use Rattle.life_runs.specs.of_master_tour.Behind.{SameRecall, StopBack, StopLost, VisitBack}
use Rattle.life_runs.specs.of_master_tour.Stands.{StandShows, StandUnder}
use Rattle.life_runs.specs.of_master_tour.Under.{Grams, Under, mine}
use Rattle.life_runs.specs.of_master_tour.Walks.{EachPair}
use Rattle.life_runs.specs.of_master_tour.declared.stop.Stand.{Stand}
use Rattle.life_runs.specs.of_master_tour.declared.stop.Stop.{Stop}
use Rattle.life_runs.specs.of_life_model.Lives
use Rattle.life_runs.specs.of_life_model.Own.{own}
use Rattle.life_runs.proofs.of_master_tour.Backs.{seen_aims}
use Rattle.life_runs.proofs.of_master_tour.Unders.{SameAim, under_back}
use Rattle.master_node.specs.Eager.{AsksVisit, EachSo, IsClear, recall_of, stage_visit}
use Rattle.master_node.specs.Kept.{StopStays}
use Rattle.master_node.specs.Recalled.{AllRecall, IsFull, RecallsBack, paused_behind, turn_behind}
use Rattle.master_node.specs.ServedEager.{AllServedAsk, ServedRecallsBack, ServedVisitAsks, mail_visit, served_visit, visit_next}
use Rattle.master_node.specs.Shows.{IsOnFrame, IsUnder, side_shows}
use Rattle.master_node.proofs.Eagers.{recall_kept}
use Rattle.master_node.proofs.OnFrames.{run_on}
use Rattle.master_node.proofs.Frees.{no_hand}
use Rattle.master_node.proofs.Visitings.{run_next}

-- a slave's datagrams by their address are those of its mailboxes
pub own_mine : (station : ℕ) (ds : Grams) → SameAim station ds → own station ds ≡ mine station ds
own_mine station [] a = refl
own_mine station (d ∷ ds) a = ap (λ (z : Bool). cond z (d ∷ own station ds) (own station ds)) a.0 ∙ go (d.gram.station == station) (own_mine station ds a.1)
  where
    go : (z : Bool) → own station ds ≡ mine station ds → cond z (d ∷ own station ds) (own station ds) ≡ (if z then d ∷ mine station ds else mine station ds)
    go true e = ap (λ k. d ∷ k) e
    go false e = e

-- what the visit carried
abbrev pub carried_by : Visit → Carried
carried_by Visit.Write = Carried.Write
carried_by Visit.Read = Carried.Inward
carried_by Visit.Full = Carried.Full

inward_asks : (h : Halves Body) (ask : Ask Body) → h.inn.state ≡ InState.Clear → ask ≡ in_ask h.inn.state h.inn.bit → ask ≡ Ask.ReadMail
inward_asks h ask e a = a ∙ ap (λ s. in_ask s h.inn.bit) e

carried_is : (v : Visit) (carried : Carried) (h : Halves Body) (due : Option Access) (d : Datagram Body) → h.inn.state ≡ InState.Clear → AsksVisit h v d → Asks carried h due d.gram.ask d.access → carried ≡ carried_by v
carried_is v Carried.Nothing h due d e k a = absurd a
carried_is Visit.Write Carried.Write h due d e k a = refl
carried_is Visit.Write Carried.Inward h due d e k a = absurd (let t = sym k.2 ∙ inward_asks h d.gram.ask e a.0 in cc)
carried_is Visit.Write Carried.Full h due d e k a = absurd (let t = sym k.2 ∙ a.0 in cc)
carried_is Visit.Write Carried.Control h due d e k a = absurd (let t = sym k.2 ∙ a.2 in cc)
carried_is Visit.Write Carried.Status h due d e k a = absurd (let t = sym k.2 ∙ a.0 in cc)
carried_is Visit.Read Carried.Write h due d e k a = absurd (let t = sym k.0 ∙ a.1 in cc)
carried_is Visit.Read Carried.Inward h due d e k a = refl
carried_is Visit.Read Carried.Full h due d e k a = absurd (let t = sym k.0 ∙ a.0 in cc)
carried_is Visit.Read Carried.Control h due d e k a = absurd (let t = sym k.0 ∙ a.2 in cc)
carried_is Visit.Read Carried.Status h due d e k a = absurd (let t = sym k.0 ∙ a.0 in cc)
carried_is Visit.Full Carried.Write h due d e k a = absurd (let t = sym k.0 ∙ a.1 in cc)
carried_is Visit.Full Carried.Inward h due d e k a = absurd (let t = sym k.0 ∙ inward_asks h d.gram.ask e a.0 in cc)
carried_is Visit.Full Carried.Full h due d e k a = refl
carried_is Visit.Full Carried.Control h due d e k a = absurd (let t = sym k.1 ∙ a.4 in cc)
carried_is Visit.Full Carried.Status h due d e k a = absurd (let t = sym k.1 ∙ a.2 in cc)

and_false : (a : Bool) → (a && false) ≡ false
and_false true = refl
and_false false = refl

-- WHETHER IT PAUSES
pauses : (v : Visit) (station counter : ℕ) (octets : List ℕ) (state : InState) (h : Halves Body) (due : Option Access) (d : Datagram Body) (paused : Bool) → state ≡ InState.Clear → Meant station (carried_by v) h due d → IsBack counter octets d → paused_after (carried_by v) state counter paused ≡ paused_behind v d.gram.counter paused
pauses Visit.Write station counter octets state h due d paused e m b =
    ap (λ z. z == 0) (sym (b.counted ∙ ap (λ z. link_counter z counter) m.asks.1))
pauses Visit.Read station counter octets state h due d paused e m b = ap (λ z. if is_read z then false else paused) e
pauses Visit.Full station counter octets state h due d paused e m b = refl

-- WHAT IS READ NEXT where a state service drains
hand_none : (made station : ℕ) (a : Account Asked Reply) (d : Datagram Body) → a.hand ≡ None → (account_back station made a (one d)).hand ≡ None
hand_none made station a d e = ap (λ (z : Option Duty). (account_met station made a z d).hand) e ∙ e

no_duty : (station : ℕ) (a : Account Asked Reply) (d : Datagram Body) (duty : Option Duties.Duty) → a.hand ≡ None → ((frame : ℕ) → DutyShows duty (account_back station frame a (one d)).hand) → duty ≡ None
no_duty station a d duty e s = no_hand duty (account_back station 0 a (one d)).hand (hand_none 0 station a d e) (s 0)

-- one that drains goes on where mailbox 0 was full
hand_full : (made station : ℕ) (a : Account Asked Reply) (d : Datagram Body) (duty : Duty) → a.hand ≡ Some duty → duty.stage ≡ Stage.Drains → d.address ≡ Address.Station station → d.access ≡ Access.ReadFull → (d.counter == 0) ≡ false → d.found ≡ Some (Found.Full true) →
    (account_back station made a (one d)).hand ≡ Some (record duty { stage = Stage.Drains })
hand_full made station a d duty e st ad ac n f =
    let mine : is_for station d.address ≡ true = ap (λ z. is_for station z) ad ∙ eq-eqb station station refl in
    let met : (is_for station d.address && not (d.counter == 0)) ≡ true = λ i. mine i && not (n i) in
    ap (λ (z : Option Duty). (account_met station made a z d).hand) e
    ∙ ap (λ (z : Bool). (if z then account_by made a duty (access_done duty.target duty.stage d.access d.found) else a).hand) met
    ∙ (λ i. (account_by made a duty (access_done duty.target (st i) (ac i) (f i))).hand)

some_duty : (duty : Option Duties.Duty) (hand : Option Duty) (k : Duty) → hand ≡ Some k → DutyShows duty hand → is_some duty ≡ true
some_duty None hand k e s = absurd (let t = sym e ∙ s in cc)
some_duty (Some duty) hand k e s = refl

not_full : (b : Bool) → Some (if b then Visit.Write else Visit.Read) ≡ Some Visit.Full → ⊥
not_full true e = cc
not_full false e = cc

not_write : (b : Bool) → Some (if b then Visit.Read else Visit.Full) ≡ Some Visit.Write → ⊥
not_write true e = cc
not_write false e = cc

-- what is told of a slave before its visit, and of the datagram that came back
pub record CameBack (station counter : ℕ) (v : Visit) (state : InState) (h : Halves Body) (due : Option Access) (d : Datagram Body) (a : Account Asked Reply) (turn : Bool) (duty : Option Duties.Duty) (turn' : Bool) (duty' : Option Duties.Duty) (p p' : Option Passing) : Type 0 where
  pub octets : List ℕ
  pub clear : state ≡ InState.Clear
  pub meant : Meant station (carried_by v) h due d
  pub back : IsBack counter octets d
  pub full : IsFull v d
  pub before : DutyShows duty a.hand
  pub behind : (frame : ℕ) → DutyShows duty' (account_back station frame a (one d)).hand
  pub turned : turn' ≡ turn_after (carried_by v) state counter turn
  pub unpassed : p ≡ None → p' ≡ None
  pub passes : a.hand ≡ None → is_some p ≡ true → is_some p' ≡ true

module _ (station counter : ℕ) (state : InState) (h : Halves Body) (due : Option Access) (d : Datagram Body) (a : Account Asked Reply) (paused knows holding turn turn' : Bool) (duty duty' : Option Duties.Duty) (p p' : Option Passing) where
  abbrev Came : Visit → Type 0
  Came v = CameBack station counter v state h due d a turn duty turn' duty' p p'

  -- the turn as it is remembered, before and behind
  abbrev was : Bool
  was = (is_some duty || is_some p) && turn

  abbrev now : Bool
  now = (is_some duty' || is_some p') && turn'

  abbrev before : Recall
  before = record { paused = paused; turn = was; knows = knows }

  -- behind a read mailbox 0 is next, and behind the status of a full mailbox 0 mailbox 1
  read : Came Visit.Read → now ≡ false
  read c = ap (λ z. (is_some duty' || is_some p') && z) (c.turned ∙ ap (λ z. if is_read z then false else turn) c.clear) ∙ and_false (is_some duty' || is_some p')

  full : Came Visit.Full → turn' ≡ true
  full c =
      let same : d.counter ≡ counter = c.back.registers ∙ ap (λ z. register_counter z counter) c.meant.asks.1 in
      let done : (counter == 0) ≡ false = ap (λ z. z == 0) (sym same) ∙ c.full.0 in
      c.turned ∙ ap (λ (z : Bool). if z then turn else true) done

  drains : (v : Visit) (k : Duty) (stage : Stage) → a.hand ≡ Some k → k.stage ≡ stage → visit_next (Some k) (passing_seen p) before holding ≡ Some v → Came v → now ≡ turn_behind v was
  drains v k (Stage.Goes phase) e st n c = absurd (let t = ap (λ z. stage_visit z before) (sym st) ∙ n in cc)
  drains Visit.Write k Stage.Drains e st n c = absurd (not_write was (ap (λ z. stage_visit z before) (sym st) ∙ n))
  drains Visit.Read k Stage.Drains e st n c = read c
  drains Visit.Full k Stage.Drains e st n c =
      let on = some_duty duty' (account_back station 0 a (one d)).hand (record k { stage = Stage.Drains }) (hand_full 0 station a d k e st c.meant.address c.meant.asks.1 c.full.0 c.full.1) (c.behind 0) in
      (λ i. (on i || is_some p') && turn') ∙ full c

  -- without a state service, and with a mail in hand that is passed on
  passed : (v : Visit) → a.hand ≡ None → is_some p ≡ true → Came v → now ≡ turn'
  passed v e s c = let t = no_duty station a d duty' e c.behind in λ i. (is_some (t i) || c.passes e s i) && turn'

  linked : (v : Visit) → a.hand ≡ None → is_some p ≡ true → Some (mails_visit paused holding) ≡ Some v → Came v → now ≡ turn_behind v was
  linked Visit.Write e s n c = let t = no_hand duty a.hand e c.before in passed Visit.Write e s c ∙ c.turned ∙ sym (λ i. (is_some (t i) || s i) && turn)
  linked Visit.Read e s n c = read c
  linked Visit.Full e s n c = absurd (not_full (not paused && holding) n)

  mails : (v : Visit) (q : Option Passing) → p ≡ q → a.hand ≡ None → Some (mail_visit (passing_seen q) before holding) ≡ Some v → Came v → now ≡ turn_behind v was
  mails Visit.Write None q e n c =
      let t = no_duty station a d duty' e c.behind in
      let s = no_hand duty a.hand e c.before in
      (λ i. (is_some (t i) || is_some (c.unpassed q i)) && turn') ∙ sym (λ i. (is_some (s i) || is_some (q i)) && turn)
  mails Visit.Read None q e n c = read c
  mails Visit.Full None q e n c = absurd (not_full (not paused && holding) n)
  mails v (Some Passing.Waiting) q e n c = linked v e (ap is_some q) n c
  mails v (Some Passing.Sent) q e n c = linked v e (ap is_some q) n c
  mails v (Some Passing.Served) q e n c = linked v e (ap is_some q) n c
  mails v (Some Passing.Answered) q e n c = linked v e (ap is_some q) n c
  mails Visit.Write (Some Passing.Boxed) q e n c = absurd (not_write was n)
  mails Visit.Read (Some Passing.Boxed) q e n c = read c
  mails Visit.Full (Some Passing.Boxed) q e n c = passed Visit.Full e (ap is_some q) c ∙ full c

  pub turns : (v : Visit) (hand : Option Duty) → a.hand ≡ hand → visit_next hand (passing_seen p) before holding ≡ Some v → Came v → now ≡ turn_behind v was
  turns v (Some k) e n c = drains v k k.stage e refl n c
  turns v None e n c = mails v p refl e n c

one_sent : (s d : Datagram Body) → one s ≡ one d → s ≡ d
one_sent s d e = cc

module _ {G : Ghosts InHand} where
  -- a slave that is open
  open_stop : (lens : ℕ → Lens) (recover : ℕ) (octets : List ℕ) (u : Turn) (s : Stop InHand G) (stand : Stand) → s.stand ≡ stand → IsOnFrame lens recover octets u s → u.lived.life.stand ≡ Lives.Stand.Open → s.stand ≡ Stand.Open
  open_stop lens recover octets u s (Stand.Opening up) e i o =
      let stood = subst (λ (z : Stand). StandShows (λ d b. side_shows lens recover s u.lived.spot d b) u.lived.spot z u.lived.life) e i.lives.shown.stood in
      absurd (let t = sym stood.stand ∙ o in cc)
  open_stop lens recover octets u s Stand.Gone e i o =
      let stood = subst (λ (z : Stand). StandShows (λ d b. side_shows lens recover s u.lived.spot d b) u.lived.spot z u.lived.life) e i.lives.shown.stood in
      absurd (let t = sym stood ∙ o in cc)
  open_stop lens recover octets u s Stand.Open e i o = e

  recall_same : (s t : Stop InHand G) → SameRecall (knows s.side.hand.course) (knows t.side.hand.course) s.side t.side → recall_of t ≡ recall_of s
  recall_same s t p = λ i. record { paused = p.0 i; turn = (is_some (in_hand (p.2 i)) || p.4 i) && p.1 i; knows = p.3 i }

  -- A SLAVE THAT WAS VISITED
  visited : (lens : ℕ → Lens) (recover : ℕ) (octets : List ℕ) (back : Grams) (u : Turn) (s t : Stop InHand G) → IsOnFrame lens recover octets u s → s.stand ≡ Stand.Open → Returns (seen lens octets) back → SameAim s.side.station back → ServedVisitAsks (seen lens octets) (recall_of s) u →
      IsClear u → s.under ≡ true → (v : Visit) → served_visit u (recall_of s) ≡ Some v → (d : Datagram Body) → own u.lived.spot.station back ≡ one d → IsFull v d → (mine s.side.station back ≡ one d → VisitBack u.lived.life.era.account d s.side t.side) →
      (u.lived.life.era.account.hand ≡ None → is_some s.side.passing ≡ true → is_some t.side.passing ≡ true) →
      ((recall_of t).paused ≡ paused_behind v d.gram.counter (recall_of s).paused) × ((recall_of t).turn ≡ turn_behind v (recall_of s).turn)
  visited lens recover octets back u s t i o r aims asks clear under v vis d is full met passes =
      let e = u.lived.life.era in
      let h = e.side.halves in
      let due = duty_access e.account.hand in
      let sent = seen lens octets in
      let at_spot = i.lives.planned.stands.station_is in
      let stood = subst (λ (z : Stand). StandShows (λ d b. side_shows lens recover s u.lived.spot d b) u.lived.spot z u.lived.life) o i.lives.shown.stood in
      let way = subst (λ (z : Stand). StandUnder lens s.side.station s.at s.under s.side.carried z u.lived.life sent) o i.way in
      let here : mine s.side.station back ≡ one d = sym (own_mine s.side.station back aims) ∙ ap (λ n. own n back) at_spot ∙ is in
      let state = (in_half_of s.side.inn).state in
      let is_clear : state ≡ InState.Clear = sym (ap (λ (z : Halves Body). z.inn.state) stood.1.halves) ∙ clear.clear in
      let b = met here in
      let asked = subst (λ z. EachSo e.account.hand h z (own u.lived.spot.station sent)) vis (asks clear) in
      let own_sent : own u.lived.spot.station sent ≡ mine s.side.station sent = ap (λ n. own n sent) (sym at_spot) ∙ own_mine s.side.station sent (seen_aims lens octets s.side.station s.named) in
      let carries : s.side.carried ≡ carried_by v = by_way v way under clear.clear (subst (λ z. EachSo e.account.hand h (Some v) z) own_sent asked) in
      let meant = subst (λ z. Meant s.side.station z h due d) carries (meant_back (under_back s.side.station s.at s.under s.side.carried h due sent back r way) under here) in (
        b.paused ∙ ap (λ z. paused_after z state b.counter s.side.paused) carries ∙ pauses v s.side.station b.counter b.octets state h due d s.side.paused is_clear meant b.back,
        turns s.side.station b.counter state h due d e.account s.side.paused (knows s.side.hand.course) (is_some h.out.holding) s.side.turn t.side.turn (in_hand s.side.duty) (in_hand t.side.duty) s.side.passing t.side.passing v e.account.hand refl
            (sym (ap (λ (p : Option Ends.Passing). visit_next e.account.hand p (recall_of s) (is_some h.out.holding)) (i.passing o)) ∙ vis)
            (record { octets = b.octets; clear = is_clear; meant = meant; back = b.back; full = full; before = stood.1.state; behind = b.duty; turned = b.turn ∙ ap (λ z. turn_after z state b.counter s.side.turn) carries; unpassed = b.unpassed; passes = passes }),
      )
    where
      by_way : (v : Visit) → Under s.side.station s.at s.under s.side.carried u.lived.life.era.side.halves (duty_access u.lived.life.era.account.hand) (seen lens octets) → s.under ≡ true → u.lived.life.era.side.halves.inn.state ≡ InState.Clear →
          EachSo u.lived.life.era.account.hand u.lived.life.era.side.halves (Some v) (mine s.side.station (seen lens octets)) → s.side.carried ≡ carried_by v
      by_way v (Under.none k n) w c a = absurd (let q = sym k ∙ w in cc)
      by_way v (Under.has b k j n m) w c a =
          let first = subst (λ z. EachSo u.lived.life.era.account.hand u.lived.life.era.side.halves (Some v) z) n a in
          carried_is v s.side.carried u.lived.life.era.side.halves (duty_access u.lived.life.era.account.hand) b c first.0 m.asks

      meant_back : Under s.side.station s.at s.under s.side.carried u.lived.life.era.side.halves (duty_access u.lived.life.era.account.hand) back → s.under ≡ true → mine s.side.station back ≡ one d → Meant s.side.station s.side.carried u.lived.life.era.side.halves (duty_access u.lived.life.era.account.hand) d
      meant_back (Under.none k n) w e = absurd (let q = sym k ∙ w in cc)
      meant_back (Under.has b k j n m) w e = subst (λ (z : Datagram Body). Meant s.side.station s.side.carried u.lived.life.era.side.halves (duty_access u.lived.life.era.account.hand) z) (one_sent b d (sym n ∙ e)) m

  -- a mail that is passed on and came no step on is still in hand behind the frame, where its slave is open and no state service is in hand
  abbrev pub PassesOn : Turn → Option Ends.Passing → Stop InHand G → Stop InHand G → Type 0
  PassesOn u behind s z = behind ≡ u.lived.life.era.passing → s.stand ≡ Stand.Open → u.lived.life.era.account.hand ≡ None → is_some s.side.passing ≡ true → is_some z.side.passing ≡ true

  -- ONE SLAVE BEHIND A FRAME THAT CAME BACK, with what happened told behind it
  recalls_one : (lens : ℕ → Lens) (recover : ℕ) (octets : List ℕ) (back : Grams) (behind : Option Ends.Passing) (u : Turn) (s t z : Stop InHand G) → Returns (seen lens octets) back → SameAim s.side.station back → IsOnFrame lens recover octets u s → ServedVisitAsks (seen lens octets) (recall_of s) u →
      StopBack (speech_at lens u.lived.spot) u.lived.spot u.lived.life back (knows s.side.hand.course) (knows t.side.hand.course) s t → StopStays t z → PassesOn u behind s z → ServedRecallsBack lens back behind u (recall_of s) (recall_of z)
  recalls_one lens recover octets back behind u s t z r aims i asks b k passes =
      let same : recall_of z ≡ recall_of t = recall_kept t.side.hand.laying.number t z k in
      record {
        visited = λ still clear under v vis d is full.
            let o = open_stop lens recover octets u s s.stand refl i clear.stands in
            let w = sym i.under ∙ under in
            let g = visited lens recover octets back u s t i o r aims asks clear w v vis d is full (λ n. b.visited o w d n) (λ e p. ap is_some (sym k.side.passing) ∙ passes still o e p) in
            (ap (λ (q : Recall). q.paused) same ∙ g.0, ap (λ (q : Recall). q.turn) same ∙ g.1);
        unvisited = λ o under. same ∙ recall_same s t (b.unvisited (open_stop lens recover octets u s s.stand refl i o) (sym i.under ∙ under));
        known = λ e due. ap (λ (q : Recall). q.knows) same ∙ b.known e due;
      }

  -- ONE THAT WAS LOST
  lost_one : (lens : ℕ → Lens) (recover : ℕ) (octets : List ℕ) (gives : Bool) (behind : Option Ends.Passing) (u : Turn) (s t z : Stop InHand G) → IsOnFrame lens recover octets u s → StopLost gives (knows s.side.hand.course) (knows t.side.hand.course) s t → StopStays t z →
      ServedRecallsBack lens [] behind u (recall_of s) (recall_of z)
  lost_one lens recover octets gives behind u s t z i b k =
      let same : recall_of z ≡ recall_of t = recall_kept t.side.hand.laying.number t z k in
      record {
        visited = λ still clear under v vis d is full. absurd (cc);
        unvisited = λ o under. same ∙ recall_same s t (b.0 (ap (λ q. gives && q) (sym i.under ∙ under) ∙ and_false gives));
        known = λ e due. ap (λ (q : Recall). q.knows) same ∙ b.1 e;
      }

-- all slaves, of a run or of a serving, each with how far its mail has come behind the frame
module _ {A : Type 0} {G : Ghosts InHand} (turn : A → Turn) (behind : A → Option Ends.Passing) (lens : ℕ → Lens) (recover : ℕ) (octets : List ℕ) where
  -- what is told of a frame that came back, slave by slave
  pub record CameSo (back : Grams) (x : A) (s z : Stop InHand G) : Type 0 where
    pub between : Stop InHand G
    pub on : IsOnFrame lens recover octets (turn x) s
    pub asks : ServedVisitAsks (seen lens octets) (recall_of s) (turn x)
    pub came : StopBack (speech_at lens (turn x).lived.spot) (turn x).lived.spot (turn x).lived.life back (knows s.side.hand.course) (knows between.side.hand.course) s between
    pub stays : StopStays between z
    pub passes : PassesOn (turn x) (behind x) s z

  pub recalls_back : (back : Grams) (xs : List A) (ss zs : List (Stop InHand G)) → Returns (seen lens octets) back → ((s : Stop InHand G) → SameAim s.side.station back) → AllThree (λ x s z. CameSo back x s z) xs ss zs →
      AllThree (λ x m n. ServedRecallsBack lens back (behind x) (turn x) m n) xs (map (λ s. recall_of s) ss) (map (λ s. recall_of s) zs)
  recalls_back back [] [] [] r aims h = tt
  recalls_back back [] [] (z ∷ zs) r aims h = absurd h
  recalls_back back [] (s ∷ ss) zs r aims h = absurd h
  recalls_back back (x ∷ xs) [] zs r aims h = absurd h
  recalls_back back (x ∷ xs) (s ∷ ss) [] r aims h = absurd h
  recalls_back back (x ∷ xs) (s ∷ ss) (z ∷ zs) r aims h =
      (recalls_one lens recover octets back (behind x) (turn x) s h.0.between z r (aims s) h.0.on h.0.asks h.0.came h.0.stays h.0.passes, recalls_back back xs ss zs r aims h.1)

  -- from its parts
  pub came_so : (back : Grams) (xs : List A) (ss ts zs : List (Stop InHand G)) → AllBoth (λ x s. IsOnFrame lens recover octets (turn x) s) xs ss → AllServedAsk (seen lens octets) (map (λ s. recall_of s) ss) (map turn xs) →
      EachPair (λ s t. (u : Turn) → IsOnFrame lens recover octets u s → StopBack (speech_at lens u.lived.spot) u.lived.spot u.lived.life back (knows s.side.hand.course) (knows t.side.hand.course) s t) ss ts → EachPair (λ t z. StopStays t z) ts zs →
      AllThree (λ x s z. PassesOn (turn x) (behind x) s z) xs ss zs → AllThree (λ x s z. CameSo back x s z) xs ss zs
  came_so back [] [] [] [] w a b k p = tt
  came_so back [] [] [] (z ∷ zs) w a b k p = absurd k
  came_so back [] [] (t ∷ ts) zs w a b k p = absurd b
  came_so back [] (s ∷ ss) ts zs w a b k p = absurd w
  came_so back (x ∷ xs) [] ts zs w a b k p = absurd w
  came_so back (x ∷ xs) (s ∷ ss) [] zs w a b k p = absurd b
  came_so back (x ∷ xs) (s ∷ ss) (t ∷ ts) [] w a b k p = absurd k
  came_so back (x ∷ xs) (s ∷ ss) (t ∷ ts) (z ∷ zs) w a b k p =
      (record { between = t; on = w.0; asks = a.0; came = b.0 (turn x) w.0; stays = k.0; passes = p.0 }, came_so back xs ss ts zs w.1 a.1 b.1 k.1 p.1)

  pub recalls_lost : (gives : Bool) (xs : List A) (ss ts zs : List (Stop InHand G)) → AllBoth (λ x s. IsOnFrame lens recover octets (turn x) s) xs ss → EachPair (λ s t. StopLost gives (knows s.side.hand.course) (knows t.side.hand.course) s t) ss ts → EachPair (λ t z. StopStays t z) ts zs →
      AllThree (λ x m n. ServedRecallsBack lens [] (behind x) (turn x) m n) xs (map (λ s. recall_of s) ss) (map (λ s. recall_of s) zs)
  recalls_lost gives [] [] [] [] w b k = tt
  recalls_lost gives xs [] (t ∷ ts) zs w b k = absurd b
  recalls_lost gives xs (s ∷ ss) [] zs w b k = absurd b
  recalls_lost gives xs ss [] (z ∷ zs) w b k = absurd k
  recalls_lost gives xs ss (t ∷ ts) [] w b k = absurd k
  recalls_lost gives [] (s ∷ ss) (t ∷ ts) (z ∷ zs) w b k = absurd w
  recalls_lost gives (x ∷ xs) [] [] [] w b k = absurd w
  recalls_lost gives (x ∷ xs) (s ∷ ss) (t ∷ ts) (z ∷ zs) w b k = (lost_one lens recover octets gives (behind x) (turn x) s t z w.0 b.0 k.0, recalls_lost gives xs ss ts zs w.1 b.1 k.1)

-- OF A RUN no slave has a mail in hand that is passed on, before the frame or behind it
recalls_none : (lens : ℕ → Lens) (back : Grams) (u : Turn) (m n : Recall) → u.lived.life.era.passing ≡ None → ServedRecallsBack lens back None u m n → RecallsBack lens back u m n
recalls_none lens back u m n e r = record {
  visited = λ clear under v vis d is full. r.visited (sym e) clear under v (run_next u.lived.life.era.account.hand u.lived.life.era.passing m (is_some u.lived.life.era.side.halves.out.holding) e ∙ vis) d is full;
  unvisited = r.unvisited;
  known = r.known;
}

pub recalls_run : {G : Ghosts InHand} (lens : ℕ → Lens) (recover : ℕ) (octets : List ℕ) (back : Grams) (us : List Turn) (ss : List (Stop InHand G)) (ms ns : List Recall) → AllBoth (λ u s. IsUnder lens recover octets u s) us ss → AllThree (λ u m n. ServedRecallsBack lens back None u m n) us ms ns → AllRecall lens back us ms ns
recalls_run lens recover octets back [] ss [] [] w h = tt
recalls_run lens recover octets back [] ss [] (n ∷ ns) w h = absurd h
recalls_run lens recover octets back [] ss (m ∷ ms) ns w h = absurd h
recalls_run lens recover octets back (u ∷ us) ss [] ns w h = absurd h
recalls_run lens recover octets back (u ∷ us) ss (m ∷ ms) [] w h = absurd h
recalls_run lens recover octets back (u ∷ us) [] (m ∷ ms) (n ∷ ns) w h = absurd w
recalls_run lens recover octets back (u ∷ us) (s ∷ ss) (m ∷ ms) (n ∷ ns) w h = (recalls_none lens back u m n w.0.lead.own h.0, recalls_run lens recover octets back us ss ms ns w.1 h.1)

pub runs_came : {G : Ghosts InHand} (lens : ℕ → Lens) (recover : ℕ) (octets : List ℕ) (back : Grams) (us : List Turn) (ss ts zs : List (Stop InHand G)) → AllBoth (λ u s. IsUnder lens recover octets u s) us ss → AllServedAsk (seen lens octets) (map (λ s. recall_of s) ss) us →
    EachPair (λ s t. (u : Turn) → IsOnFrame lens recover octets u s → StopBack (speech_at lens u.lived.spot) u.lived.spot u.lived.life back (knows s.side.hand.course) (knows t.side.hand.course) s t) ss ts → EachPair (λ t z. StopStays t z) ts zs → AllThree (λ u s z. CameSo (λ v. v) (λ v. None) lens recover octets back u s z) us ss zs
runs_came lens recover octets back [] [] [] [] w a b k = tt
runs_came lens recover octets back [] [] [] (z ∷ zs) w a b k = absurd k
runs_came lens recover octets back [] [] (t ∷ ts) zs w a b k = absurd b
runs_came lens recover octets back [] (s ∷ ss) ts zs w a b k = absurd w
runs_came lens recover octets back (u ∷ us) [] ts zs w a b k = absurd w
runs_came lens recover octets back (u ∷ us) (s ∷ ss) [] zs w a b k = absurd b
runs_came lens recover octets back (u ∷ us) (s ∷ ss) (t ∷ ts) [] w a b k = absurd k
runs_came lens recover octets back (u ∷ us) (s ∷ ss) (t ∷ ts) (z ∷ zs) w a b k =
    let on = run_on lens recover octets u s w.0 in (
      record { between = t; on = on; asks = a.0; came = b.0 u on; stays = k.0; passes = λ still o hand some. absurd (let n : true ≡ false = sym some ∙ ap is_some w.0.lead.unpassed in cc) },
      runs_came lens recover octets back us ss ts zs w.1 a.1 b.1 k.1,
    )
