-- THE EPOCHS THAT A MASTER LEADS are such that a life of them goes on.
use Rattle.std.proofs.Common.{◌≡◌, ℕ, suc, ◌+◌, Bool, true, List, [], ◌∷◌, ◌++◌, length, refl, ap, sym, ◌∙◌, subst, arith, length-append}
use Rattle.std.specs.Prelude.{Option, None}
use Rattle.served_rings.specs.Counters.{IsCounted}
use Rattle.served_rings.proofs.Counted.{counted_first}
use Rattle.run_work.specs.of_frame_view.Seen.{seen}
use Rattle.run_work.specs.of_frames_seen.Slaves.{registers_seen}
use Rattle.served_rings.specs.Led.{LedEra, LedFrame, turn_of}
use Rattle.served_rings.proofs.LedLives as Lives
use Rattle.served_places.specs.of_life_model.Eras.{Clearing}
use Rattle.served_places.specs.of_life_model.Lives.{Spot, Era, Opening, Stand, new_era}
use Rattle.served_places.specs.of_life_model.Own.{own}
use Rattle.served_places.specs.of_link_mails.Body.{Body}
use Rattle.run_work.specs.of_master_side.Counts as Record
use Rattle.run_work.specs.of_master_side.Counts.{counts_on, kept_on}
use Rattle.run_work.specs.of_few_replies.Led.{counts_behind, turn_after}
use Rattle.served_places.specs.of_segment_model.Record.{Frame, News, Kept, kept_after, nothing_kept}
use Rattle.run_work.specs.of_slave_lives.Ends.{YetFrame, no_pick}
use Rattle.run_work.specs.of_slave_lives.Lived.{Behind, RingFrame, LivesEra, OpenFrame, OpensEra, frame_of, node_behind, opened_era}
use Rattle.run_work.specs.of_slave_lives.Opening.{Plan}
use Rattle.run_work.proofs.of_slave_lives.Quiets.{asks_none}
use Rattle.run_work.specs.of_slave_node.Node.{Node}
use Rattle.served_places.specs.of_state_model.Accounts.{Pick}
use Rattle.run_work.specs.of_whole_ring.Turns.{era_before, era_behind}
use Rattle.run_work.specs.of_whole_ring.Whole.{IsWhole, Living, Passing}
use Rattle.run_work.proofs.of_whole_ring.Keeps.{Keeps}
use Rattle.served_rings.specs.Lives.{LedKept, LedYet, LedLeft, AllLeds, news_as, recorded_as}
use Rattle.served_rings.proofs.Frames.{tells}

module _ {S V A Q R : Type 0} (w : Behind S V A Q R) (c : Clearing V A) (p : Plan) (spot : Spot) (whole : IsWhole w c p spot) (more : Body → Bool) (passed : Q → Bool) where
  -- it is lived as sessions are
  pub session_of : (from : A) (led : Bool) (e : Era Body Q R) (fs : List (Frame Body)) (n : Node S) → LedEra w more passed spot from led e fs n → LivesEra w spot from e fs n
  session_of from led e fs n l = record {
    opened = l.opened;
    server = l.server;
    registers = l.registers;
    before = l.before;
    begins = l.begins;
    up = l.up;
    first = l.first;
    in_state = l.in_state;
    is = Lives.session w whole.behind more passed spot from led e fs n l;
    opens = l.opens;
    station = l.station;
    stands = l.stands;
    runs = l.runs;
    boot = l.boot;
  }

  module _ (kept : Kept) (counts : Bool) (stand : Stand) (e : Era Body Q R) (fs : List (Frame Body)) (t : RingFrame S) (pick : Pick Q) where
    -- the counters behind the frame
    abbrev pub kept_next : Kept
    kept_next = kept_on stand spot.station kept (recorded_as w.lens t (frame_of w.lens t).fate)

    abbrev pub counts_next : Bool
    counts_next = counts_on stand spot.station t.pace t.ring.number (recorded_as w.lens t (frame_of w.lens t).fate).back counts

    abbrev news : List (News Body)
    news = news_as w.lens spot.station kept counts t (frame_of w.lens t).fate

    abbrev E : Living S A Q R
    E = λ a d gs m. LedKept w more passed spot kept counts a d gs m

    abbrev F : Living S A Q R
    F = λ a d gs m. LedKept w more passed spot kept_next counts_next a d gs m

    abbrev Y : Living S A Q R
    Y = λ a d gs m. LedYet w more passed spot a d gs m

    abbrev gs : List (Frame Body)
    gs = fs ++ frame_of w.lens t ∷ []

    led_frame : (from : A) → OpenFrame w more passed spot from e fs t pick → LedFrame w more passed spot e fs t pick
    led_frame from o = record { at = o.at; alone = o.alone; asks = o.asks; steps = o.steps }

    on : stand ≡ Stand.Open → (from : A) → E from e fs t.node → OpenFrame w more passed spot from e fs t pick → F from (era_behind w more passed spot fs t pick news (frame_of w.lens t).fate e) gs (node_behind w.running t)
    on open_ from l o =
        let f = led_frame from o in
        let u = turn_of w more passed spot t pick in
        let x = tells w whole.behind more passed spot from l.led e fs t l.era pick f kept counts l.counted in
        let led = counts_behind spot.station u.steps (own spot.station u.back) l.led in
        let next = Lives.on w whole.behind more passed spot from l.led e fs t l.era pick f in
        let rec = recorded_as w.lens t (frame_of w.lens t).fate in
        let here : LedKept w more passed spot (kept_after spot.station kept rec) (Record.counts_behind spot.station t.pace t.ring.number rec.back counts) from
        (turn_after w.exchange w.states.acknowledged w.processor more passed spot l.era.opened fs l.led e u) gs (node_behind w.running t) = record {
          led = led;
          era = next;
          counted = subst (λ k. IsCounted spot k gs led (kept_after spot.station kept rec) (Record.counts_behind spot.station t.pace t.ring.number rec.back counts)) (sym (Lives.on_opened w whole.behind more passed spot from l.led e fs t l.era pick f)) x.counters;
        } in
        let same : turn_after w.exchange w.states.acknowledged w.processor more passed spot l.era.opened fs l.led e u ≡ era_behind w more passed spot fs t pick news (frame_of w.lens t).fate e =
        ap (λ (ns : List (News Body)). era_behind w more passed spot fs t pick ns (frame_of w.lens t).fate e) (sym x.news) in
        subst (λ (st : Stand). LedKept w more passed spot (kept_on st spot.station kept rec) (counts_on st spot.station t.pace t.ring.number rec.back counts) from
        (era_behind w more passed spot fs t pick news (frame_of w.lens t).fate e) gs (node_behind w.running t)) (sym open_)
        (subst (λ (d : Era Body Q R). LedKept w more passed spot (kept_after spot.station kept rec) (Record.counts_behind spot.station t.pace t.ring.number rec.back counts) from d gs (node_behind w.running t)) same here)

    yet : (from : A) → Y from e fs t.node → YetFrame w spot from e fs t → Y from e gs (node_behind w.running t)
    yet from l y =
        let f : LedFrame w more passed spot e fs t no_pick = record { at = y.at; alone = y.alone; asks = asks_none w whole.behind more passed spot (era_before w more passed spot fs t no_pick [] e) (seen w.lens t.octets) y.quiet.sent; steps = y.steps } in
        let u = turn_of w more passed spot t no_pick in
        let led = counts_behind spot.station u.steps (own spot.station u.back) l.led in
        let next : LedEra w more passed spot from led (turn_after w.exchange w.states.acknowledged w.processor more passed spot l.era.opened fs l.led e u) gs (node_behind w.running t) =
        Lives.on w whole.behind more passed spot from l.led e fs t l.era no_pick f in
        let same : turn_after w.exchange w.states.acknowledged w.processor more passed spot l.era.opened fs l.led e u ≡ e =
        Lives.stays w whole.behind more passed spot from l.led e fs t l.era no_pick f refl y.quiet.sent y.quiet.back y.quiet.answered in
        record { led = led; era = subst (λ (d : Era Body Q R). LedEra w more passed spot from led d gs (node_behind w.running t)) same next }

    begins : (o : Opening) → stand ≡ Stand.Opens o → (q : Plan) (al : ℕ) (cleared : Option ℕ) → (cleared ≡ None → q.start ≡ spot.start) → OpensEra w q spot (node_behind w.running t) →
        F (w.exchange.app (w.sees al (node_behind w.running t).server).server) (opened_era {Q = Q} {R = R} cleared q.start (length fs)) gs (node_behind w.running t)
    begins o opens q al cleared start k =
        let m = node_behind w.running t in
        let rec = recorded_as w.lens t (frame_of w.lens t).fate in
        let len : length gs ≡ suc (length fs) = length-append fs (frame_of w.lens t ∷ []) ∙ (let plus : length fs + 1 ≡ suc (length fs) = omega arith in plus) in
        let era = Lives.begins w whole.behind more passed spot whole.stated whole.tells q al cleared (length fs) gs m len start k in
        let here : LedKept w more passed spot nothing_kept true (w.exchange.app (w.sees al m.server).server) (opened_era {Q = Q} {R = R} cleared q.start (length fs)) gs m = record {
          led = true;
          era = era;
          counted = subst (λ k. IsCounted spot k gs true nothing_kept true) (sym (Lives.begins_opened w whole.behind more passed spot whole.stated whole.tells q al cleared (length fs) gs m len start k)) (counted_first spot (length fs) gs len);
        } in
        subst (λ (st : Stand). LedKept w more passed spot (kept_on st spot.station kept rec) (counts_on st spot.station t.pace t.ring.number rec.back counts) (w.exchange.app (w.sees al m.server).server) (opened_era {Q = Q} {R = R} cleared q.start (length fs)) gs m) (sym opens) here

    -- THEY KEEP SO, whatever is known besides of all that are over
    pub keeps_by : (P : Passing A Q R) → ((first : A) (es : List (Era Body Q R)) (b : A) → P fs first es b → P gs first es b) →
        ((first : A) (es : List (Era Body Q R)) (b : A) → P gs first es b → (at : Option ℕ) (state : ℕ) → e ≡ new_era at state → P gs first (es ++ e ∷ []) (c.cleared b)) →
        ((first : A) (es : List (Era Body Q R)) (b : A) (s : S) → P gs first es b → LedLeft w more passed spot b e s → (al : ℕ) × P gs first (es ++ e ∷ []) (w.exchange.app (w.sees al (w.running.clear s)).server)) →
        Keeps w c spot E F Y (λ a d hs s. LedLeft w more passed spot a d s) P stand e fs t more passed pick news
    keeps_by P past closed left = record {
      session = λ from l. session_of from l.led e fs t.node l.era;
      still = λ from l. session_of from l.led e fs t.node l.era;
      on = on;
      stops = λ stands from l. record { led = l.led; era = l.era };
      yet = yet;
      ends = λ from l. record { led = l.led; frames = fs; node = t.node; era = l.era; same = refl };
      over = λ from s l. l;
      begins = begins;
      past = past;
      closed = closed;
      left = left;
    }

    -- with nothing besides
    pub keeps : Keeps w c spot E F Y (λ a d hs s. LedLeft w more passed spot a d s) (λ hs a ds b. AllLeds w more passed spot c.cleared a ds b) stand e fs t more passed pick news
    keeps = keeps_by (λ hs a ds b. AllLeds w more passed spot c.cleared a ds b) (λ first es b all. all) (λ first es b all at state is_new. AllLeds.closed first es b e at state all is_new)
        (λ first es b s all x. ((registers_seen x.node.registers).state, AllLeds.opened first es b e s all x))
