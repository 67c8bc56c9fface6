-- AN OPEN SLAVE'S EPOCH begins, and goes on by each frame of its ring, as its master leads it.
use Rattle.std.proofs.Common.{◌≡◌, ℕ, suc, Bool, true, false, List, [], ◌∷◌, ◌++◌, map, length, refl, ap, ap₂, sym, ◌∙◌, subst, arith, length-append}
use Rattle.std.specs.Prelude.{Option, None}
use Rattle.run_work.specs.of_frame_view.Seen.{seen, datagrams_seen}
use Rattle.run_work.specs.of_frames_seen.Slaves.{registers_seen}
use Rattle.served_places.specs.of_life_model.Eras.{EraIs, era_frames}
use Rattle.served_places.specs.of_life_model.Lives.{Spot, Era, era_next, era_after}
use Rattle.served_places.specs.of_life_model.Own.{own, own_fate, own_frame}
use Rattle.served_places.specs.of_link_mails.Body.{Body}
use Rattle.run_work.specs.of_few_replies.Led.{IsLed, MayTurn, EraTurn, frame_in, news_in, turn_after, counts_behind, counted_news}
use Rattle.served_places.specs.of_segment_model.Record.{Frame, News, Kept, all_told, back_news, frame_news, kept_all, nothing_kept, without_empty}
use Rattle.served_places.specs.of_segment_model.Slaves.{Datagram, grams, ring_after, ring_back, ring_steps}
use Rattle.served_places.specs.of_segment_ring.Ring.{is_in_pace}
use Rattle.run_work.specs.of_slave_lives.Ends.{IsAnswered, no_pick}
use Rattle.run_work.specs.of_slave_lives.Lived.{Behind, IsBehind, RingFrame, OpensEra, fate_of, is_reached, node_behind, node_seen, frame_of, octets_back, opened_era, returned, table_of}
use Rattle.run_work.specs.of_slave_lives.Opening.{Plan}
use Rattle.run_work.proofs.of_slave_lives.EraBegins as Begins
use Rattle.run_work.proofs.of_slave_lives.EraFrames as Frames
use Rattle.run_work.proofs.of_slave_lives.Quiets as Quiets
use Rattle.run_work.proofs.of_slave_lives.RingLives.{sent_is, back_is}
use Rattle.run_work.specs.of_slave_node.Node.{Node}
use Rattle.served_places.specs.of_state_model.Stated.{IsStated}
use Rattle.served_places.specs.of_state_model.Accounts.{Pick}
use Rattle.served_places.specs.of_state_model.Steady.{IsSteady, NoneToInit, HandToInit}
use Rattle.run_work.proofs.of_whole_ring.Steadied.{era_steady}
use Rattle.served_rings.specs.Led.{LedEra, LedFrame, steps_at, turn_of}
use Rattle.served_rings.proofs.Sessions.{led_session}
use Rattle.served_rings.proofs.Singles.{seen_single}

-- a frame without datagrams of the slave has no news of it
quiet_news : {M : Type 0} (station : ℕ) (kept : Kept) (f : Frame M) → f.sent ≡ [] → f.back ≡ [] → frame_news station kept f ≡ []
quiet_news station kept f sent back =
    ap₂ (λ (a b : List (Datagram _)). map (λ m. News.Told m) (all_told station kept.told (grams a)) ++ back_news station kept.heard b) sent back

counted_none : {M : Type 0} (counts : Bool) (ns : List (News M)) → ns ≡ [] → counted_news counts ns ≡ []
counted_none true ns none = none
counted_none false ns none = ap without_empty none

module _ {S V A Q R : Type 0} (w : Behind S V A Q R) (is : IsBehind w) (more : Body → Bool) (passed : Q → Bool) (spot : Spot) where
  -- IT BEGINS with the slave as its opening left it
  pub begins : IsStated w.exchange w.states → ((state : ℕ) (v : V) → w.processor.tell state v ≡ w.states.tell state v) → (p : Plan) (al : ℕ) (cleared : Option ℕ) (opened : ℕ) (fs : List (Frame Body)) (n : Node S) → length fs ≡ suc opened → (cleared ≡ None → p.start ≡ spot.start) →
      OpensEra w p spot n → LedEra w more passed spot (w.exchange.app (w.sees al n.server).server) true (opened_era {Q = Q} {R = R} cleared p.start opened) fs n
  begins stated tells p al cleared opened fs n frames start o =
      let state : (registers_seen n.registers).state ≡ p.start = o.opened.state in
      let knows = Begins.seen_state w is stated tells (registers_seen n.registers).state n.server in
      let v = Begins.server_seen w is stated tells n in
      let r = registers_seen n.registers in
      let here : r.station ≡ spot.station = o.opened.station ∙ o.station in
      record {
        opened = opened;
        server = v;
        registers = r;
        before = omega (arith, frames);
        begins = Begins.seen_told w is stated tells al r.state n.server;
        up = λ init. Begins.not_init w is stated tells o.plan.start (sym (knows ∙ state) ∙ init);
        first = λ none. state ∙ start none;
        in_state = state;
        plan = Begins.opens_plan w is stated tells p spot n o;
        answers = here;
        led = subst (λ t. IsLed w.exchange w.states.acknowledged w.processor more passed spot opened v r fs true (opened_era {Q = Q} {R = R} cleared p.start opened) t) (sym (Begins.opens_slave w is stated tells p spot n o)) (IsLed.begins cleared p.start fs frames);
        opens = o.opened.opens;
        station = here;
        stands = o.opened.stands;
        runs = o.runs;
        boot = o.boot;
      }

  pub begins_opened : (stated : IsStated w.exchange w.states) (tells : (state : ℕ) (v : V) → w.processor.tell state v ≡ w.states.tell state v) (p : Plan) (al : ℕ) (cleared : Option ℕ) (opened : ℕ) (fs : List (Frame Body)) (n : Node S) (frames : length fs ≡ suc opened)
      (start : cleared ≡ None → p.start ≡ spot.start) (o : OpensEra w p spot n) → (begins stated tells p al cleared opened fs n frames start o).opened ≡ opened
  unfolding begins
  begins_opened stated tells p al cleared opened fs n frames start o = refl

  module _ (from : A) (counts : Bool) (e : Era Body Q R) (fs : List (Frame Body)) (n : Node S) (l : LedEra w more passed spot from counts e fs n) where
    -- IT IS A SESSION
    pub session : EraIs w.exchange w.states w.processor (table_of w) spot e l.opened (length fs) fs l.server l.registers (node_seen w n)
    session = led_session w.exchange w.states w.processor (table_of w) more passed spot l.opened l.server l.registers l.plan l.answers fs counts e (node_seen w n) l.led

    -- and steady, as long as no state service asks for Init
    pub steady : NoneToInit e.account.over → HandToInit e.account.hand → IsSteady (node_seen w n)
    steady over hand = era_steady w.exchange w.states w.processor (table_of w) spot e l.opened (length fs) fs l.server l.registers (node_seen w n) session (record { begun = l.up; over = over; hand = hand })

  module _ (from : A) (counts : Bool) (e : Era Body Q R) (fs : List (Frame Body)) (t : RingFrame S) (l : LedEra w more passed spot from counts e fs t.node) (pick : Pick Q) (o : LedFrame w more passed spot e fs t pick) where
    abbrev turn : EraTurn V Body Q
    turn = turn_of w more passed spot t pick

    abbrev pub counts_on : Bool
    counts_on = counts_behind spot.station turn.steps (own spot.station turn.back) counts

    abbrev pub era_on : Era Body Q R
    era_on = turn_after w.exchange w.states.acknowledged w.processor more passed spot l.opened fs counts e turn

    sent : seen w.lens t.octets ≡ datagrams_seen w.lens t.datagrams
    sent = sent_is w.lens t

    pub back : seen w.lens (octets_back t) ≡ datagrams_seen w.lens (returned (fate_of t) t.before t.node t.behind t.datagrams)
    back = back_is w.running w.lens t

    turned : Frames.TurnsOpen w is spot t.node (node_behind w.running t) t.before t.behind t.datagrams (fate_of t) (steps_at (is_in_pace t.pace t.ring.number))
    turned = Frames.turns_open w is spot t.node t.before t.behind t.datagrams o.at l.station (fate_of t) (is_reached t) (is_in_pace t.pace t.ring.number) refl l.boot l.opens l.stands l.runs o.alone o.steps

    pub may : MayTurn w.exchange w.states.acknowledged w.processor more passed spot l.opened fs e (node_seen w t.node) turn
    may = record {
      asks = o.asks;
      single = seen_single w.lens t.octets spot.station;
      back = ap (λ ds. ring_back ((spot.station, node_seen w t.node) ∷ []) (own spot.station ds) (own_fate spot.place turn.fate)) sent ∙ turned.back ∙ ap (own spot.station) (sym back);
      slave = ap (λ ds. ring_steps w.exchange w.processor (ring_after ((spot.station, node_seen w t.node) ∷ []) (own spot.station ds) (own_fate spot.place turn.fate)) turn.steps) sent ∙ turned.ring;
    }

    -- IT GOES ON by a frame
    pub on : LedEra w more passed spot from counts_on era_on (fs ++ frame_of w.lens t ∷ []) (node_behind w.running t)
    on =
        let f = frame_of w.lens t in
        let long = length-append fs (f ∷ []) in
        let was = l.before in
        let news = news_in spot l.opened fs counts turn in
        let next = era_next w.exchange.speech w.states.acknowledged more passed (length fs) e pick in
        record {
          opened = l.opened;
          server = l.server;
          registers = l.registers;
          before = omega (arith, long, was);
          begins = l.begins;
          up = l.up;
          first = λ none. l.first (sym (Frames.after_cleared w.exchange.speech w.states.acknowledged more passed spot.station (length fs) news turn.sent turn.fate turn.back next) ∙ none);
          in_state = l.in_state ∙ sym (Frames.after_state w.exchange.speech w.states.acknowledged more passed spot.station (length fs) news turn.sent turn.fate turn.back next);
          plan = l.plan;
          answers = l.answers;
          led = IsLed.goes_on fs counts e (node_seen w t.node) l.led turn may;
          opens = turned.opens;
          station = turned.station;
          stands = turned.stands;
          runs = turned.runs;
          boot = turned.boot;
        }

    pub on_opened : on.opened ≡ l.opened
    unfolding on
    on_opened = refl

    -- by one without its own datagrams, before which nothing comes into hand, it stays as it is
    pub stays : pick ≡ no_pick → own spot.station turn.sent ≡ [] → own spot.station turn.back ≡ [] → IsAnswered w.exchange.speech e.side.now → era_on ≡ e
    stays none nothing_sent nothing_back answered =
        let x = w.exchange.speech in
        let ack = w.states.acknowledged in
        let kept = kept_all spot.station nothing_kept (era_frames spot l.opened (length fs) fs) in
        let news : news_in spot l.opened fs counts turn ≡ [] = counted_none counts _ (quiet_news spot.station kept (own_frame spot.station spot.place (frame_in turn)) nothing_sent nothing_back) in
        let next : era_next x ack more passed (length fs) e pick ≡ e = ap (λ p. era_next x ack more passed (length fs) e p) none ∙ Quiets.quiet_next x ack more passed (length fs) e in
        ap₂ (λ (ns : List (News Body)) (d : Era Body Q R). era_after x ack more passed spot.station (length fs) ns turn.sent turn.fate turn.back d) news next
        ∙ Quiets.quiet_after x ack more passed spot.station (length fs) turn.sent turn.fate turn.back e nothing_sent nothing_back answered
