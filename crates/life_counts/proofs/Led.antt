-- TURN BY TURN: an epoch that its master leads is the same seen with what is meant by its mails.
use Rattle.std.proofs.Common.{◌≡◌, inl, inr, ℕ, suc, ◌<◌, ◌≤◌, ◌&&◌, Bool, true, false, not, is_some, Option, None, Some, option_map, List, [], ◌∷◌, ◌++◌, map, length, refl, ap, ap₂, sym, ◌∙◌, subst, arith, append-nil, if◌then◌else◌}
use Rattle.std.proofs.lemmas.List.{map-append}
use Rattle.master_hand.specs.of_exchange_model.Exchange.{Exchange, IsLawful, plain}
use Rattle.master_hand.specs.of_exchange_model.Rows.{Row, row_heard, answer_after}
use Rattle.few_replies.specs.of_life_model.Eras.{EraIs, era_frames}
use Rattle.few_replies.specs.of_life_model.Lives.{Spot, Era, Life, Stand, era_next, era_back, era_after, granted, passes}
use Rattle.few_replies.specs.of_life_model.Own as Own
use Rattle.few_replies.specs.of_life_model.Own.{own_fate, own_frame}
use Rattle.few_replies.specs.of_link_model.Frames.{all_accepted}
use Rattle.few_replies.specs.of_link_model.Segment.{RingFate}
use Rattle.few_replies.specs.Client.{ByContents}
use Rattle.few_replies.specs.Erased.{frame_as, all_news_as, OfRow, EndOne}
use Rattle.few_replies.proofs.Naturals.{frame_of}
use Rattle.few_replies.specs.Led.{IsLed, EraTurn, MayTurn, NoneUnheard, NowHeard, HasHeard, IsAnswered, frame_in, news_in, turn_next, turn_after, counted_news, counts_behind, has_step}
use Rattle.few_replies.specs.Silent.{is_passed}
use Rattle.few_replies.proofs.Rows as PassingRows
use Rattle.few_replies.specs.Heard.{EraPasses, HeardBy}
use Rattle.master_hand.specs.of_segment_model.Ends.{Passing}
use Rattle.master_hand.specs.of_segment_model.Record.{Frame, News, Kept, frame_news, kept_all, nothing_kept, mails_heard, did_read}
use Rattle.master_hand.specs.of_segment_model.Slaves.{Registers, Processor, Slave, Datagram, Ring, grams, ring_after, ring_back, ring_steps}
use Rattle.master_hand.specs.of_serving_model.Erasing.{slave_as, all_as}
use Rattle.master_hand.specs.of_serving_model.Passing.{ends_told}
use Rattle.master_hand.specs.of_serving_model.Tagged.{Tagged, Asked, Rowed, real, untag, no_reply, ends_marked}
use Rattle.master_hand.specs.of_state_model.Stated.{IsStated, Service}
use Rattle.master_hand.specs.of_state_model.States.{Table}
use Rattle.master_hand.specs.of_state_model.Accounts.{Duty, Pick, Started, is_free, starts, account_begins}
use Rattle.master_hand.specs.of_state_model.Promise.{services_in}
use Rattle.life_counts.specs.Epochs.{Speaker, IsSpeaker, IsRun, AllFair, between, seeing, seeing_states, era_named}
use Rattle.life_counts.specs.Foreseen.{AllRight}
use Rattle.life_counts.specs.Spoken.{IsPassed}
use Rattle.life_counts.proofs.Answered.{HasAnswer, AllAnswered, StateLast, next_rests, next_over}
use Rattle.life_counts.proofs.Backs.{EndsSame, after_named}
use Rattle.life_counts.proofs.Begins.{NowKnown, NowEnded, Next, next_named}
use Rattle.life_counts.proofs.Clients.{HasEnded, IsKnown, MarksSame, ends}
use Rattle.life_counts.proofs.Eras.{Knows, era_knows}
use Rattle.life_counts.proofs.Marks.{PassedNow, IsPassedNow, none_plain}
use Rattle.life_counts.proofs.News.{counted_as, did_read_as, kept_all_as}
use Rattle.life_counts.proofs.Overs.{asks, ends_last, all_told_of, still, over, reads, news_few}
use Rattle.life_counts.proofs.Turns as Turns
use Rattle.life_counts.proofs.Frames.{own_to, to_own}
use Rattle.life_counts.proofs.Ways.{Met, Stepped, met}
use Rattle.few_replies.proofs.of_life_model.Eras.{frames_push}
use Rattle.life_counts.proofs.Opened.{after_started}
use Rattle.life_counts.proofs.Leads.{mails_counted, pushed, one_slave, and_not, after_own, reopens_era, still_some, some_after, same_some, last_untag}

module _ {V M Q R C T A : Type 0} (w : Speaker V M Q R C T) (k : IsSpeaker w) (lawful : IsLawful (seeing w)) (stated : IsStated (seeing w) (seeing_states w)) (u : Exchange V A M T (Option R)) (processor : Processor V) (seer : Processor (Rowed V M Q)) (tables : ℕ → Table) (spot : Spot)
    (run : IsRun w u processor seer (tables spot.station)) (opened : ℕ) (v : V) (r : Registers) where
  abbrev mail : Tagged M Q → M
  mail t = t.mail

  abbrev same : Option R → Option R
  same a = a

  abbrev sees_more : Tagged M Q → Bool
  sees_more t = w.naming.more t.mail

  abbrev y : Exchange (Rowed V M Q) V (Tagged M Q) (Asked M Q) (Option R)
  y = seeing w

  abbrev EraHere : Type 0
  EraHere = Era (Tagged M Q) (Asked M Q) (Option R)

  abbrev SlaveHere : Type 0
  SlaveHere = Slave (Rowed V M Q) (Tagged M Q)

  abbrev RowHere : Type 0
  RowHere = Row (Tagged M Q) (Asked M Q) (Option R)

  abbrev LedHere : List (Frame (Tagged M Q)) → Bool → EraHere → SlaveHere → Type 0
  LedHere gs counts d m = IsLed y (seeing_states w).acknowledged seer sees_more is_passed spot opened (between v) r gs counts d m

  abbrev Answers : Option RowHere → Type 0
  Answers now = AllAnswered w.exchange w.calm w.fair (seeing_states w).acknowledged sees_more now

  abbrev Knowing : Option RowHere → Type 0
  Knowing now = NowKnown w.exchange w.calm w.fair w.states w.naming k.speaks now

  -- WHAT IS KEPT of an epoch, turn by turn
  pub record Tied (fs : List (Frame M)) (counts : Bool) (e : Era M T (Option R)) (n : Slave V M) : Type 0 where
    pub frames : List (Frame (Tagged M Q))
    pub era : EraHere
    pub slave : SlaveHere
    pub led : LedHere frames counts era slave
    pub is : EraIs y (seeing_states w) seer tables spot era opened (length frames) frames (between v) r slave
    pub long : length frames ≡ length fs
    pub later : opened < length frames
    pub alike : map (λ f. frame_as mail f) (era_frames spot opened (length frames) frames) ≡ era_frames spot opened (length fs) fs
    pub named : era_named w era ≡ e
    pub stands : slave_as mail (real w.exchange) slave ≡ n
    pub right : AllRight w.exchange w.states (tables spot.station) v (services_in era.account.started)
    pub known : Knowing era.side.now
    pub passes : EraPasses y.speech sees_more is_passed era
    pub answered : era.passing ≡ None → Answers era.side.now

  -- the last of those that came into hand is fair, and so are those before it
  last_fair : (ss : List (Started T)) (s : Started T) → AllFair w (ss ++ s ∷ []) → (q : T) (m : M) → s.service ≡ Service.Mails q → IsPassed w.naming m q → w.fair m ≡ true
  last_fair [] s all = all.0
  last_fair (z ∷ ss) s all = last_fair ss s all.1

  front_fair : (ss ts : List (Started T)) → AllFair w (ss ++ ts) → AllFair w ss
  front_fair [] ts all = tt
  front_fair (z ∷ ss) ts all = (all.0, front_fair ss ts all.1)

  module _ (fs : List (Frame M)) (counts : Bool) (e : Era M T (Option R)) (n : Slave V M) (i : Tied fs counts e n) (t : EraTurn V M T) (may : MayTurn u w.naming.acknowledged processor w.naming.more w.naming.passed spot opened fs e n t)
      (fair : AllFair w (turn_next u w.naming.acknowledged processor w.naming.more w.naming.passed spot opened fs e t).account.started) where
    abbrev en : Era M T (Option R)
    en = turn_next u w.naming.acknowledged processor w.naming.more w.naming.passed spot opened fs e t

    -- the same before the frame, by the master's own words
    abbrev en_named : Era M T (Option R)
    en_named = era_next w.naming.speech w.naming.acknowledged w.naming.more w.naming.passed (length i.frames) (era_named w i.era) t.pick

    en_is : en_named ≡ en
    en_is = λ j. era_next (sym run.speech j) w.naming.acknowledged w.naming.more w.naming.passed (i.long j) (i.named j) t.pick

    -- the mail in hand is over for both where it is over
    known_now : Knows w.exchange w.calm w.fair w.states w.naming.more k.last (era_frames spot opened (length i.frames) i.frames) spot.station i.era.side i.era.account
    known_now = era_knows w.exchange w.core k.served w.calm w.fair w.states k.stated lawful stated seer tables spot i.era opened (length i.frames) i.frames (between v) r i.slave i.is refl i.right w.naming.more k.last

    ended : i.era.passing ≡ None → NowEnded w.exchange w.calm w.fair w.states w.naming k.speaks i.era.side i.era.side.now
    ended none = go i.era.side.now (i.answered none)
      where
        of : (row : RowHere) → HasAnswer w.exchange w.calm w.fair (seeing_states w).acknowledged sees_more row → (q : Asked M Q) → row.service ≡ q →
            HasEnded w.exchange w.calm w.fair w.states.acknowledged w.naming k.speaks.emission q i.era.side.halves.out.holding i.era.side.fresh row
        of row has (Asked.Script q) is = tt
        of row has (Asked.Passed m false) is = tt
        of row has (Asked.Passed m true) is = λ idle. and_not (is_some row.answer) i.era.side.fresh (has m is) (known_now.idle idle)

        go : (now : Option RowHere) → Answers now → NowEnded w.exchange w.calm w.fair w.states w.naming k.speaks i.era.side now
        go None has = tt
        go (Some row) has = of row has row.service refl

    -- a mail that comes into hand is fair
    fairly : (q : T) (m : M) → t.pick.begin ≡ Some (Service.Mails q) → i.era.passing ≡ None → i.era.account.hand ≡ None →
        (w.naming.speech.valid q && is_free w.naming.speech (era_named w i.era).side (era_named w i.era).side.now) ≡ true → IsPassed w.naming m q → w.fair m ≡ true
    fairly q m begin none hand begins is =
        let d = era_named w i.era in
        let begun : en_named.account.started ≡ starts d.account (Service.Mails q) (length i.frames) =
        ap (λ (o : Option Passing). (account_begins w.naming.speech w.naming.acknowledged (length i.frames) d.side d.account d.account.hand (granted o t.pick).begin).started) none
        ∙ ap₂ (λ (h : Option Duty) (b : Option (Service T)). (account_begins w.naming.speech w.naming.acknowledged (length i.frames) d.side d.account h b).started) hand begin
        ∙ ap (λ (b : Bool). (if b then record d.account { started = starts d.account (Service.Mails q) (length i.frames) } else d.account).started) begins in
        last_fair d.account.started (record { service = Service.Mails q; frame = length i.frames }) (subst (AllFair w) (ap (λ (z : Era M T (Option R)). z.account.started) (sym en_is) ∙ begun) fair) q m refl is

    pub chosen : Next w.exchange w.calm w.fair w.states w.naming k.speaks (tables spot.station) v (length i.frames) i.era t.pick
    chosen = next_named w.exchange w.calm w.fair w.states w.naming k.speaks (tables spot.station) v (length i.frames) i.era t.pick i.known ended fairly

    abbrev mine : Pick (Asked M Q)
    mine = chosen.mine

    abbrev dn : EraHere
    dn = era_next y.speech (seeing_states w).acknowledged sees_more is_passed (length i.frames) i.era mine

    next_is : era_named w dn ≡ en
    next_is = chosen.is ∙ en_is

    pub right_next : AllRight w.exchange w.states (tables spot.station) v (services_in dn.account.started)
    right_next = chosen.right i.right

    -- THE FRAME
    pub went : Turns.Sent w.exchange w.core k.served w.calm w.fair w.states k.stated lawful stated u processor seer run.serve run.tells run.tells_seen run.carries tables spot run.worded opened v r w.naming.more i.frames i.era i.slave i.later i.is i.right mine t.sent
    went = Turns.sent_so w.exchange w.core k.served w.calm w.fair w.states k.stated lawful stated u processor seer run.serve run.tells run.tells_seen run.carries tables spot run.worded opened v r w.naming.more i.frames i.era i.slave i.later i.is i.right mine en t.sent (ap (λ (z : Era M T (Option R)). z.side.halves) (sym next_is)) (ap (λ (z : Era M T (Option R)). z.account.hand) (sym next_is)) may.asks may.single

    -- ---- THE TURN
    abbrev back : List (Datagram (Tagged M Q))
    back = Turns.back w.exchange w.core k.served w.calm w.fair w.states k.stated lawful stated u processor seer run.serve run.tells run.tells_seen run.carries tables spot run.worded opened v r w.naming.more i.frames i.era i.slave i.later i.is i.right mine right_next t.sent went t.fate

    abbrev frame : Frame (Tagged M Q)
    frame = Turns.went w.exchange w.core k.served w.calm w.fair w.states k.stated lawful stated u processor seer run.serve run.tells run.tells_seen run.carries tables spot run.worded opened v r w.naming.more i.frames i.era i.slave i.later i.is i.right mine right_next t.sent went t.fate

    abbrev kept : Kept
    kept = kept_all spot.station nothing_kept (era_frames spot opened (length i.frames) i.frames)

    abbrev mine_frame : Frame (Tagged M Q)
    mine_frame = own_frame spot.station spot.place frame

    abbrev news : List (News (Tagged M Q))
    news = Turns.news w.exchange w.core k.served w.calm w.fair w.states k.stated lawful stated u processor seer run.serve run.tells run.tells_seen run.carries tables spot run.worded opened v r w.naming.more i.frames i.era i.slave i.later i.is i.right mine right_next t.sent went t.fate counts

    abbrev behind : EraHere
    behind = Turns.after w.exchange w.core k.served w.calm w.fair w.states k.stated lawful stated u processor seer run.serve run.tells run.tells_seen run.carries tables spot run.worded opened v r w.naming.more i.frames i.era i.slave i.later i.is i.right mine right_next t.sent went t.fate counts

    met_slave : Met mail (real w.exchange) spot.station i.slave went.datagrams (own_fate spot.place t.fate)
    met_slave = met mail (real w.exchange) spot.station i.slave went.datagrams (own_fate spot.place t.fate)

    stepped : Stepped mail (real w.exchange) spot.station y seer u processor (met mail (real w.exchange) spot.station i.slave went.datagrams (own_fate spot.place t.fate)).slave (met mail (real w.exchange) spot.station i.slave went.datagrams (own_fate spot.place t.fate)).slave t.steps
    stepped = Turns.stepped w.exchange w.core k.served w.calm w.fair w.states k.stated lawful stated u processor seer run.serve run.tells run.tells_seen run.carries tables spot run.worded opened v r w.naming.more i.frames i.era i.slave i.later i.is i.right mine right_next t.sent went t.fate counts t.steps

    same_sent : Own.own spot.station went.datagrams ≡ went.datagrams
    same_sent = to_own spot.station went.datagrams went.to

    same_back : Own.own spot.station back ≡ back
    same_back = to_own spot.station back ((met mail (real w.exchange) spot.station i.slave went.datagrams (own_fate spot.place t.fate)).to went.to)

    -- without what is meant it is the turn as it was
    sent_is : all_as mail (Own.own spot.station went.datagrams) ≡ Own.own spot.station t.sent
    sent_is = ap (all_as mail) same_sent ∙ went.is_sent

    back_is : all_as mail (Own.own spot.station back) ≡ Own.own spot.station t.back
    back_is = ap (all_as mail) same_back ∙ (met mail (real w.exchange) spot.station i.slave went.datagrams (own_fate spot.place t.fate)).back
        ∙ (λ j. ring_back ((spot.station, i.stands j) ∷ []) (went.is_sent j) (own_fate spot.place t.fate)) ∙ may.back

    slave_is : slave_as mail (real w.exchange) stepped.slave ≡ t.slave
    slave_is = one_slave spot.station spot.station (slave_as mail (real w.exchange) stepped.slave) t.slave
        (sym stepped.other ∙ ap (λ (l : Ring V M). ring_steps u processor l t.steps) (sym (met mail (real w.exchange) spot.station i.slave went.datagrams (own_fate spot.place t.fate)).other)
        ∙ (λ j. ring_steps u processor (ring_after ((spot.station, i.stands j) ∷ []) (went.is_sent j) (own_fate spot.place t.fate)) t.steps) ∙ may.slave)

    abbrev turn : EraTurn (Rowed V M Q) (Tagged M Q) (Asked M Q)
    turn = record { pick = mine; sent = went.datagrams; fate = t.fate; back = back; steps = t.steps; slave = stepped.slave }

    may_here : MayTurn y (seeing_states w).acknowledged seer sees_more is_passed spot opened i.frames i.era i.slave turn
    may_here = record {
      asks = went.asks;
      single = went.single;
      back = ap (λ l. ring_back ((spot.station, i.slave) ∷ []) l (own_fate spot.place t.fate)) same_sent ∙ sym same_back;
      slave = ap (λ l. ring_steps y seer (ring_after ((spot.station, i.slave) ∷ []) l (own_fate spot.place t.fate)) t.steps) same_sent
          ∙ ap (λ (l : Ring (Rowed V M Q) (Tagged M Q)). ring_steps y seer l t.steps) (met mail (real w.exchange) spot.station i.slave went.datagrams (own_fate spot.place t.fate)).ring ∙ stepped.ring;
    }

    led_next : LedHere (i.frames ++ frame ∷ []) (counts_behind spot.station t.steps (Own.own spot.station back) counts) behind stepped.slave
    led_next = IsLed.goes_on i.frames counts i.era i.slave i.led turn may_here

    counts_is : counts_behind spot.station t.steps (Own.own spot.station back) counts ≡ counts_behind spot.station t.steps (Own.own spot.station t.back) counts
    counts_is = ap (λ (b : Bool). if has_step t.steps then true else counts && not b) (sym (did_read_as mail spot.station (Own.own spot.station back)) ∙ ap (λ l. did_read spot.station (grams l)) back_is)

    -- its frames
    frame_is : frame_as mail mine_frame ≡ own_frame spot.station spot.place (frame_in t)
    frame_is = λ j. record { sent = sent_is j; fate = own_fate spot.place t.fate; back = back_is j }

    kept_is : kept ≡ kept_all spot.station nothing_kept (era_frames spot opened (length fs) fs)
    kept_is = kept_all_as mail spot.station nothing_kept (era_frames spot opened (length i.frames) i.frames) ∙ ap (λ l. kept_all spot.station nothing_kept l) i.alike

    later_there : opened < length fs
    later_there = subst (λ j. opened < j) i.long i.later

    alike_next : map (λ f. frame_as mail f) (era_frames spot opened (length (i.frames ++ frame ∷ [])) (i.frames ++ frame ∷ [])) ≡ era_frames spot opened (length (fs ++ frame_in t ∷ [])) (fs ++ frame_in t ∷ [])
    alike_next =
        ap (map (λ f. frame_as mail f)) (Turns.frames_behind w.exchange w.core k.served w.calm w.fair w.states k.stated lawful stated u processor seer run.serve run.tells run.tells_seen run.carries tables spot run.worded opened v r w.naming.more i.frames i.era i.slave i.later i.is i.right mine right_next t.sent went t.fate)
        ∙ map-append (λ f. frame_as mail f) (era_frames spot opened (length i.frames) i.frames) (mine_frame ∷ [])
        ∙ ap₂ (λ (l : List (Frame M)) (f : Frame M). l ++ f ∷ []) i.alike frame_is
        ∙ sym (ap (λ j. era_frames spot opened j (fs ++ frame_in t ∷ [])) (pushed fs (frame_in t)) ∙ frames_push spot opened fs (frame_in t) later_there)

    -- its news
    news_is : all_news_as mail news ≡ news_in spot opened fs counts t
    news_is = counted_as mail counts (frame_news spot.station kept mine_frame)
        ∙ ap (counted_news counts) (frame_of mail spot.station kept mine_frame ∙ (λ j. frame_news spot.station (kept_is j) (frame_is j)))

    abbrev accepted : List (Tagged M Q)
    accepted = all_accepted spot.station dn.side.halves (grams (Own.own spot.station back))

    accepted_is : mails_heard news ≡ accepted
    accepted_is = mails_counted counts (frame_news spot.station kept mine_frame) ∙ Turns.accepted_is w.exchange w.core k.served w.calm w.fair w.states k.stated lawful stated u processor seer run.serve run.tells run.tells_seen run.carries tables spot run.worded opened v r w.naming.more i.frames i.era i.slave i.later i.is i.right mine right_next t.sent went t.fate k.last

    news_tell : ByContents w.exchange.speech.emission (mails_heard news)
    news_tell = subst (ByContents w.exchange.speech.emission) (sym (mails_counted counts (frame_news spot.station kept mine_frame))) (Turns.news_tell w.exchange w.core k.served w.calm w.fair w.states k.stated lawful stated u processor seer run.serve run.tells run.tells_seen run.carries tables spot run.worded opened v r w.naming.more i.frames i.era i.slave i.later i.is i.right mine right_next t.sent went t.fate k.last counts)

    accepted_tell : ByContents w.exchange.speech.emission accepted
    accepted_tell = subst (ByContents w.exchange.speech.emission) accepted_is news_tell

    -- ---- the row in hand
    abbrev ThisPassed : List (Started (Asked M Q)) → Option RowHere → Type 0
    ThisPassed started now = OfRow (IsPassedNow w.exchange w.calm w.fair w.states w.naming.more k.last started) now

    abbrev IsStateLast : List (Started (Asked M Q)) → Type 0
    IsStateLast started = StateLast w.exchange w.calm w.fair (seeing_states w).acknowledged sees_more started

    state_answers : (started : List (Started (Asked M Q))) (now : Option RowHere) → ThisPassed started now → IsStateLast started → Answers now
    state_answers started None p l = tt
    state_answers started (Some row) p l = λ m is. go (p m true is)
      where
        go : {m : M} → PassedNow w.exchange w.calm w.fair w.states w.naming.more k.last started m true row → is_some row.answer ≡ true
        go (PassedNow.heard marks all none) = absurd (none refl l.0 l.1)
        go (PassedNow.rests target newest e answered) = answered

    rests_next : IsStateLast dn.account.started → Answers dn.side.now
    rests_next l = next_rests w.exchange w.calm w.fair (seeing_states w).acknowledged sees_more (length i.frames) i.era mine (λ b. state_answers i.era.account.started i.era.side.now known_now.passed b) l

    over_next : dn.passing ≡ None → Answers dn.side.now
    over_next none = next_over w.exchange w.calm w.fair (seeing_states w).acknowledged sees_more (length i.frames) i.era mine i.answered none

    known_behind : Knows w.exchange w.calm w.fair w.states w.naming.more k.last (era_frames spot opened (length (i.frames ++ frame ∷ [])) (i.frames ++ frame ∷ [])) spot.station behind.side behind.account
    known_behind = era_knows w.exchange w.core k.served w.calm w.fair w.states k.stated lawful stated seer tables spot behind opened (length (i.frames ++ frame ∷ [])) (i.frames ++ frame ∷ []) (between v) r
        (met mail (real w.exchange) spot.station i.slave went.datagrams (own_fate spot.place t.fate)).slave (Turns.era_met w.exchange w.core k.served w.calm w.fair w.states k.stated lawful stated u processor seer run.serve run.tells run.tells_seen run.carries tables spot run.worded opened v r w.naming.more i.frames i.era i.slave i.later i.is i.right mine right_next t.sent went t.fate counts) refl (Turns.right_behind w.exchange w.core k.served w.calm w.fair w.states k.stated lawful stated u processor seer run.serve run.tells run.tells_seen run.carries tables spot run.worded opened v r w.naming.more i.frames i.era i.slave i.later i.is i.right mine right_next t.sent went t.fate news) w.naming.more k.last

    started_is : behind.account.started ≡ dn.account.started
    started_is = after_started y.speech (seeing_states w).acknowledged sees_more is_passed spot.station (length i.frames) news went.datagrams t.fate back dn

    passed_behind : ThisPassed dn.account.started behind.side.now
    passed_behind = subst (λ l. ThisPassed l behind.side.now) started_is known_behind.passed

    -- the row behind the frame
    abbrev row_by : RingFate → RowHere → RowHere
    row_by RingFate.Back row = row_heard y.speech (length i.frames) accepted row
    row_by (RingFate.Lost after) row = row

    service_by : (f : RingFate) (row : RowHere) → (row_by f row).service ≡ row.service
    service_by RingFate.Back row = refl
    service_by (RingFate.Lost after) row = refl

    lost_none : (f : RingFate) (after : ℕ) → t.fate ≡ RingFate.Lost after → accepted ≡ []
    lost_none f after is = ap (λ (z : RingFate). all_accepted spot.station dn.side.halves (grams (Own.own spot.station (ring_back ((spot.station, i.slave) ∷ []) went.datagrams (own_fate spot.place z))))) is

    heard_by : (f : RingFate) → t.fate ≡ f → (row : RowHere) → (row_by f row).heard ≡ row.heard ++ accepted
    heard_by RingFate.Back is row = refl
    heard_by (RingFate.Lost after) is row = sym (ap (λ l. row.heard ++ l) (lost_none t.fate after is) ∙ append-nil row.heard)

    now_by : (f : RingFate) → (era_after y.speech (seeing_states w).acknowledged sees_more is_passed spot.station (length i.frames) news went.datagrams f back dn).side.now ≡ option_map (λ row. row_by f row) dn.side.now
    now_by RingFate.Back = refl
    now_by (RingFate.Lost after) = go dn.side.now
      where
        go : (now : Option RowHere) → now ≡ option_map (λ (row : RowHere). row) now
        go None = refl
        go (Some row) = refl

    now_is : behind.side.now ≡ option_map (λ row. row_by t.fate row) dn.side.now
    now_is = now_by t.fate

    passed_row : (row : RowHere) → dn.side.now ≡ Some row → IsPassedNow w.exchange w.calm w.fair w.states w.naming.more k.last dn.account.started (row_by t.fate row)
    passed_row row is = subst (ThisPassed dn.account.started) (now_is ∙ ap (option_map (λ z. row_by t.fate z)) is) passed_behind

    -- both clients end it alike, as long as it has no answer
    marks : (row : RowHere) → dn.side.now ≡ Some row → row.answer ≡ None → (q : Asked M Q) → row.service ≡ q → MarksSame w.exchange w.calm w.fair w.states.acknowledged w.naming k.speaks.emission q (row.heard ++ accepted)
    marks row is none (Asked.Script q) e = tt
    marks row is none (Asked.Passed m answers) e = go (passed_row row is m answers (service_by t.fate row ∙ e))
      where
        go : PassedNow w.exchange w.calm w.fair w.states w.naming.more k.last dn.account.started m answers (row_by t.fate row) → MarksSame w.exchange w.calm w.fair w.states.acknowledged w.naming k.speaks.emission (Asked.Passed m answers) (row.heard ++ accepted)
        go (PassedNow.heard same all state) = subst (λ l. MarksSame w.exchange w.calm w.fair w.states.acknowledged w.naming k.speaks.emission (Asked.Passed m answers) l) (heard_by t.fate refl row) same
        go (PassedNow.rests target newest yes_ answered) =
            absurd (let has : HasAnswer w.exchange w.calm w.fair (seeing_states w).acknowledged sees_more row = subst Answers is (rests_next (target, newest)) in
            let some : is_some row.answer ≡ true = has m (e ∙ ap (λ b. Asked.Passed m b) yes_) in
            let no : false ≡ true = sym (ap is_some none) ∙ some in cc)

    ends_same : EndsSame w.exchange w.calm w.fair w.states w.naming k.speaks spot.station back dn
    ends_same = go dn.side.now refl chosen.known
      where
        go : (now : Option RowHere) → dn.side.now ≡ now → Knowing now → OfRow (λ row. row.answer ≡ None → EndOne mail w.naming.name same y.speech w.naming.speech row.service (row.heard ++ accepted)) now
        go None is kn = tt
        go (Some row) is kn = λ none. ends w.exchange w.calm w.fair w.states.acknowledged w.naming k.speaks.emission row.service kn.known (row.heard ++ accepted)
            (Turns.by_append w.exchange.speech.emission row.heard accepted kn.by accepted_tell) (marks row is none row.service refl)

    -- WITHOUT WHAT IS MEANT the epoch behind it is as it was
    own_sent : Own.own spot.station (all_as mail went.datagrams) ≡ Own.own spot.station t.sent
    own_sent = ap (Own.own spot.station) went.is_sent ∙ to_own spot.station (Own.own spot.station t.sent) (own_to spot.station t.sent)

    own_back : Own.own spot.station (all_as mail back) ≡ Own.own spot.station t.back
    own_back = ap (Own.own spot.station) (ap (all_as mail) (sym same_back) ∙ back_is) ∙ to_own spot.station (Own.own spot.station t.back) (own_to spot.station t.back)

    named_next : era_named w behind ≡ turn_after u w.naming.acknowledged processor w.naming.more w.naming.passed spot opened fs counts e t
    named_next =
        after_named w.exchange w.calm w.fair w.states w.naming k.speaks spot.station (length i.frames) news went.datagrams t.fate back dn news_tell ends_same
        ∙ after_own w.naming.speech w.naming.acknowledged w.naming.more w.naming.passed spot.station (length i.frames) (all_news_as mail news) (all_as mail went.datagrams) t.sent t.fate (all_as mail back) t.back (era_named w dn) own_sent own_back
        ∙ (λ j. era_after (sym run.speech j) w.naming.acknowledged w.naming.more w.naming.passed spot.station (i.long j) (news_is j) t.sent t.fate t.back (next_is j))

    -- what is known of the row in hand
    known_next : Knowing behind.side.now
    known_next = subst Knowing (sym now_is) (go dn.side.now chosen.known)
      where
        go : (now : Option RowHere) → Knowing now → Knowing (option_map (λ row. row_by t.fate row) now)
        go None kn = tt
        go (Some row) kn = record {
          known = subst (λ q. IsKnown w.exchange w.calm w.fair w.states.acknowledged w.naming k.speaks.emission q) (sym (service_by t.fate row)) kn.known;
          by = subst (ByContents w.exchange.speech.emission) (sym (heard_by t.fate refl row)) (Turns.by_append w.exchange.speech.emission row.heard accepted kn.by accepted_tell);
        }

    abbrev life : Life (Tagged M Q) (Asked M Q) (Option R)
    life = record { past = []; era = i.era; stand = Stand.Open; gave = [] }

    abbrev life_next : Life (Tagged M Q) (Asked M Q) (Option R)
    life_next = record { past = []; era = dn; stand = Stand.Open; gave = [] }

    passes_next : EraPasses y.speech sees_more is_passed dn
    passes_next = PassingRows.next y.speech sees_more is_passed (seeing_states w).acknowledged (length i.frames) life Stand.Open mine i.passes

    passes_by : (f : RingFate) → t.fate ≡ f → EraPasses y.speech sees_more is_passed (era_after y.speech (seeing_states w).acknowledged sees_more is_passed spot.station (length i.frames) news went.datagrams f back dn)
    passes_by RingFate.Back is =
        let after = era_back y.speech (seeing_states w).acknowledged sees_more is_passed spot.station (length i.frames) news back dn in
        subst (EraPasses y.speech sees_more is_passed) (reopens_era (record life_next { era = after }) after.account.hand)
        (PassingRows.back y.speech sees_more is_passed (seeing_states w).acknowledged (length i.frames) spot news back None life_next Stand.Open passes_next accepted_is)
    passes_by (RingFate.Lost after) is = PassingRows.lost y.speech sees_more is_passed (seeing_states w).acknowledged spot news went.datagrams life_next Stand.Open passes_next (accepted_is ∙ lost_none t.fate after is)

    -- ---- its answer, where it is over
    passing_by : (f : RingFate) → (era_after y.speech (seeing_states w).acknowledged sees_more is_passed spot.station (length i.frames) news went.datagrams f back dn).passing ≡ passes y.speech (seeing_states w).acknowledged sees_more is_passed dn.passing news
    passing_by RingFate.Back = refl
    passing_by (RingFate.Lost after) = refl

    answer_by : t.fate ≡ RingFate.Back → (row : RowHere) → (row_by t.fate row).answer ≡ answer_after (length i.frames) row.answer (y.speech.ends row.service (plain y.speech.emission (row.heard ++ accepted)))
    answer_by is row = ap (λ (f : RingFate). (row_by f row).answer) is

    kept_answer : (f : RingFate) (row : RowHere) → is_some row.answer ≡ true → is_some (row_by f row).answer ≡ true
    kept_answer RingFate.Back row has = still_some (length i.frames) row.answer (y.speech.ends row.service (plain y.speech.emission (row.heard ++ accepted))) has
    kept_answer (RingFate.Lost after) row has = has

    loud : NoneUnheard y is_passed behind → behind.passing ≡ None → (m : M) (row : RowHere) → behind.side.now ≡ Some row → row.service ≡ Asked.Passed m true → IsAnswered y is_passed (Asked.Passed m true) → no_reply y.speech.emission row.heard ≡ false
    loud heard none m row is e a = at behind.passing behind.side.now none is heard.now
      where
        at : (o : Option Passing) (now : Option RowHere) → o ≡ None → now ≡ Some row → NowHeard y is_passed o now → no_reply y.speech.emission row.heard ≡ false
        at (Some p) now none is k = absurd (let no : Some p ≡ None = none in cc)
        at None None none is k = absurd (let no : None ≡ Some row = is in cc)
        at None (Some other) none is k = let one : other ≡ row = cc in subst (HasHeard y is_passed) one k (subst (IsAnswered y is_passed) (sym e) a)

    few : reads news ≤ 1
    few =
        let a = news_few spot.station kept counts mine_frame in
        let b : asks spot.station (grams (Own.own spot.station back)) ≡ asks spot.station (grams back) = ap (λ l. asks spot.station (grams l)) same_back in
        let c = (met mail (real w.exchange) spot.station i.slave went.datagrams (own_fate spot.place t.fate)).few in
        let d = went.few in
        omega (arith, a, b, c, d)

    lost_reads : (after : ℕ) → t.fate ≡ RingFate.Lost after → reads news ≡ 0
    lost_reads after is =
        let a = news_few spot.station kept counts mine_frame in
        let b : asks spot.station (grams (Own.own spot.station back)) ≡ 0 = ap (λ (z : RingFate). asks spot.station (grams (Own.own spot.station (ring_back ((spot.station, i.slave) ∷ []) went.datagrams (own_fate spot.place z))))) is in
        omega (arith, a, b)

    -- of all its replies it is the answer
    answers_all : t.fate ≡ RingFate.Back → (m : M) (row : RowHere) → row.service ≡ Asked.Passed m true → ends_last sees_more (plain y.speech.emission (row.heard ++ accepted)) ≡ true →
        PassedNow w.exchange w.calm w.fair w.states w.naming.more k.last dn.account.started m true (row_by t.fate row) → is_some (row_by t.fate row).answer ≡ true
    answers_all is m row e last (PassedNow.rests target newest yes_ answered) = answered
    answers_all is m row e last (PassedNow.heard same all state) =
        let hs = plain y.speech.emission (row.heard ++ accepted) in
        let reps = all refl in
        let heard : (row_by t.fate row).heard ≡ row.heard ++ accepted = heard_by t.fate refl row in
        let begins : untag hs ++ reps.begin.0 ≡ reps.all = ap (λ l. untag (plain y.speech.emission l) ++ reps.begin.0) (sym heard) ∙ reps.begin.1 in
        let told : ends_told w.naming.more (untag hs) ≡ true =
        all_told_of w.naming.more (untag hs) reps.begin.0 (ap (ends_told w.naming.more) begins ∙ reps.tells) (sym (last_untag w.naming.more hs) ∙ last) in
        let marked : ends_marked hs ≡ true = subst (λ l. ends_marked (plain y.speech.emission l) ≡ ends_told w.naming.more (untag (plain y.speech.emission l))) heard same ∙ told in
        let ended : y.speech.ends row.service hs ≡ Some None = ap (λ q. y.speech.ends q hs) e ∙ ap (λ b. if b then Some None else None) marked in
        ap is_some (answer_by is row ∙ ap (answer_after (length i.frames) row.answer) ended) ∙ some_after (length i.frames) row.answer None

    answered_next : NoneUnheard y is_passed behind → ((m : M) → IsAnswered y is_passed (Asked.Passed m true)) → behind.passing ≡ None → Answers behind.side.now
    answered_next heard always none = subst Answers (sym now_is) (go dn.side.now refl)
      where
        in_hand : (row : RowHere) (m : M) → dn.side.now ≡ Some row → row.service ≡ Asked.Passed m true → (p : Passing) → dn.passing ≡ Some p → HeardBy y.speech.emission sees_more p row.heard → (f : RingFate) → t.fate ≡ f → is_some (row_by t.fate row).answer ≡ true
        in_hand row m is e p eq hb (RingFate.Lost after) fate =
            absurd (still y.speech (seeing_states w).acknowledged sees_more is_passed news (lost_reads after fate) p (ap (λ o. passes y.speech (seeing_states w).acknowledged sees_more is_passed o news) (sym eq) ∙ sym (passing_by t.fate) ∙ none))
        in_hand row m is e p eq hb RingFate.Back fate =
            let by : passes y.speech (seeing_states w).acknowledged sees_more is_passed (Some p) news ≡ None = ap (λ o. passes y.speech (seeing_states w).acknowledged sees_more is_passed o news) (sym eq) ∙ sym (passing_by t.fate) ∙ none in
            let now : behind.side.now ≡ Some (row_by t.fate row) = now_is ∙ ap (option_map (λ z. row_by t.fate z)) is in
            elim (over y.speech (seeing_states w).acknowledged sees_more is_passed news few p row.heard hb by) [
              | inl nothing ↦ absurd (let quiet : no_reply y.speech.emission (row_by t.fate row).heard ≡ true =
                  none_plain y.speech.emission (row_by t.fate row).heard (ap (plain y.speech.emission) (heard_by t.fate refl row ∙ ap (λ l. row.heard ++ l) (sym accepted_is)) ∙ nothing) in
                  let said = loud heard none m (row_by t.fate row) now (service_by t.fate row ∙ e) (always m) in
                  let no : true ≡ false = sym quiet ∙ said in cc)
              | inr last ↦ answers_all fate m row e (ap (λ l. ends_last sees_more (plain y.speech.emission (row.heard ++ l))) (sym accepted_is) ∙ last) (passed_row row is m true (service_by t.fate row ∙ e))
            ]

        of : (row : RowHere) (m : M) → dn.side.now ≡ Some row → row.service ≡ Asked.Passed m true → (o : Option Passing) → dn.passing ≡ o → is_some (row_by t.fate row).answer ≡ true
        of row m is e None eq = kept_answer t.fate row (let has : HasAnswer w.exchange w.calm w.fair (seeing_states w).acknowledged sees_more row = subst Answers is (over_next eq) in has m e)
        of row m is e (Some p) eq =
            let b = passes_next p eq in
            let one : b.row ≡ row = same_some b.row row (sym b.is ∙ is) in
            in_hand row m is e p eq (subst (λ (z : RowHere). HeardBy y.speech.emission sees_more p z.heard) one b.heard) t.fate refl

        go : (now : Option RowHere) → dn.side.now ≡ now → Answers (option_map (λ row. row_by t.fate row) now)
        go None is = tt
        go (Some row) is = λ m e. of row m is (sym (service_by t.fate row) ∙ e) dn.passing refl

    -- IT STAYS SO
    pub tied_next : ((gs : List (Frame (Tagged M Q))) (c : Bool) (d : EraHere) (m : SlaveHere) → LedHere gs c d m → NoneUnheard y is_passed d) → ((m : M) → IsAnswered y is_passed (Asked.Passed m true)) →
        Tied (fs ++ frame_in t ∷ []) (counts_behind spot.station t.steps (Own.own spot.station t.back) counts) (turn_after u w.naming.acknowledged processor w.naming.more w.naming.passed spot opened fs counts e t) t.slave
    tied_next heard always = record {
      frames = i.frames ++ frame ∷ [];
      era = behind;
      slave = stepped.slave;
      led = subst (λ c. LedHere (i.frames ++ frame ∷ []) c behind stepped.slave) counts_is led_next;
      is = Turns.era_behind w.exchange w.core k.served w.calm w.fair w.states k.stated lawful stated u processor seer run.serve run.tells run.tells_seen run.carries tables spot run.worded opened v r w.naming.more i.frames i.era i.slave i.later i.is i.right mine right_next t.sent went t.fate news t.steps stepped.slave (ap (λ (l : Ring (Rowed V M Q) (Tagged M Q)). ring_steps y seer l t.steps) (met mail (real w.exchange) spot.station i.slave went.datagrams (own_fate spot.place t.fate)).ring ∙ stepped.ring);
      long = pushed i.frames frame ∙ ap suc i.long ∙ sym (pushed fs (frame_in t));
      later = let grown = pushed i.frames frame in let was = i.later in omega (arith, grown, was);
      alike = alike_next;
      named = named_next;
      stands = slave_is;
      right = Turns.right_behind w.exchange w.core k.served w.calm w.fair w.states k.stated lawful stated u processor seer run.serve run.tells run.tells_seen run.carries tables spot run.worded opened v r w.naming.more i.frames i.era i.slave i.later i.is i.right mine right_next t.sent went t.fate news;
      known = known_next;
      passes = passes_by t.fate refl;
      answered = answered_next (heard (i.frames ++ frame ∷ []) (counts_behind spot.station t.steps (Own.own spot.station back) counts) behind stepped.slave led_next) always;
    }
